use Rattle.std.proofs.Common.{◌∙◌, Option, ap, subst, sym, true}
use Rattle.std.specs.Prelude.{option_map}
use Rattle.mp4_box.specs.Trees.{Box, view}
use Rattle.mp4_machine.specs.Ends.{sent}
use Rattle.mp4_machine.specs.Puts.{Puts}
use Rattle.mp4_grammar.specs.TrackLines.{kinds_by, types_text}
use Rattle.mp4_fragment_machine.proofs.mdat.track_lines.put_types.Goals as goal

pub returns-in-None : goal.returns-in-None
unfolding types_text
returns-in-None g c =
    let none = ap (option_map view) (sym c.in-None.is) ∙ c.first_at.ensures in
    subst (λ l. Puts (sent g.W.Sink.contents g.W.Sink.has_failed c.args.w.now c.put_end.new.w) c.args.out.now c.put_end.new.out l c.put_end.result) (ap (λ (o : Option Box). types_text true (kinds_by o)) none) c.put_end.ensures
