use Rattle.std.proofs.Common.{◌≡◌, ◌∙◌, ◌⊎◌, inl, inr, None, ap, sym}
use Rattle.std.specs.Prelude.{◌==◌}
use Rattle.std.specs.List.{position}
use Rattle.mp4_init.specs.declared.search_tree.Ending.{Ending}
use Rattle.mp4_init.specs.declared.search_tree.Ending.TheVariants.{After, Unasked}
use Rattle.mp4_init.specs.declared.search_tree.Link.{Link}
use Rattle.mp4_init.specs.declared.table.Track.{Track}
use Rattle.mp4_init.specs.Implementation.SearchTrees.{found_at}
use Rattle.mp4_init.proofs.RowLemmas.{sought_is}
use Rattle.mp4_init.proofs.table.TrackList.find.Goals as goal

unfound : (e : Ending) → ((link : Link) × e ≡ After link) ⊎ (e ≡ Unasked) → None ≡ found_at e
unfound e (inl after) = ap found_at (sym after.1)
unfound e (inr unasked) = ap found_at (sym unasked)

pub returns-in-Found-clause-first : goal.returns-in-Found-clause-first
returns-in-Found-clause-first c =
    ap found_at (sym c.in-Found.is ∙ c.search.ensures.ending)
    ∙ sought_is c.self.inside.rows.rows c.args.id c.self.invariant.1
    ∙ ap (position (λ (t : Track). t.id == c.args.id)) c.self.view_is

pub returns-in-After : goal.returns-in-After
returns-in-After c = record {
  first =
      unfound c.search.result c.in-After.is
      ∙ ap found_at c.search.ensures.ending
      ∙ sought_is c.self.inside.rows.rows c.args.id c.self.invariant.1
      ∙ ap (position (λ (t : Track). t.id == c.args.id)) c.self.view_is;
  within = tt;
}
