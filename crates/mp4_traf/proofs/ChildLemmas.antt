-- The children of a type, and the truns of a moof.
use Rattle.std.proofs.Common.{◌≡◌, ◌∙◌, ℕ, List, [], ◌∷◌, ◌++◌, refl, sym, ap, true, false}
use Rattle.std.specs.List.{flat_map}
use Rattle.mp4_box.specs.declared.headers.FourCc.{FourCc}
use Rattle.mp4_box.specs.Paths.{at_path, of_kind, paths_below}
use Rattle.mp4_box.specs.Trees.{Box, children}
use Rattle.mp4_traf.specs.Kinds.{traf, trun, to_trun, is_kind}
use Rattle.std.specs.Str.{bytes_eq}
use Rattle.std.proofs.lemmas.Slice.Eq.{bytes_eq-Decides}

pub path_one : (bs : List Box) → flat_map (at_path []) bs ≡ bs
unfolding at_path
path_one [] = refl
path_one (b ∷ bs) = ap (λ (cs : List Box). b ∷ cs) (path_one bs)

-- the children of a type, as the boxes on a path
pub path_kind : (kind : FourCc) (b : Box) → at_path (kind ∷ []) b ≡ of_kind kind (children b)
unfolding at_path
path_kind kind b = path_one (of_kind kind (children b))

-- the truns of a moof, as those of its trafs
pub truns_first : (m : Box) (trafs truns : List Box) → trafs ≡ at_path (traf ∷ []) m → truns ≡ [] → truns ++ paths_below (trun ∷ []) trafs ≡ at_path to_trun m
unfolding at_path
truns_first m trafs truns e none =
    ap (λ (bs : List Box). bs ++ paths_below (trun ∷ []) trafs) none ∙ ap (paths_below (trun ∷ [])) (e ∙ path_one (of_kind traf (children m)))

-- the truns of the first traf, and then those of the others
pub truns_next : (trafs others : List Box) (t : Box) → trafs ≡ t ∷ others → at_path (trun ∷ []) t ++ paths_below (trun ∷ []) others ≡ paths_below (trun ∷ []) trafs
truns_next trafs others t e = sym (ap (paths_below (trun ∷ [])) e)

pub on_path : (m : Box) → at_path (traf ∷ []) m ≡ of_kind traf (children m)
unfolding at_path
on_path m = path_one (of_kind traf (children m))

-- a type is no other
pub no_other : (b : Box) (kind other : FourCc) → bytes_eq kind.0 other.0 ≡ false → is_kind kind b ≡ true → is_kind other b ≡ false
no_other b kind other differ is = ap (λ (k : List ℕ). bytes_eq k other.0) ((bytes_eq-Decides b.header.kind.0 kind.0).0 is) ∙ differ
