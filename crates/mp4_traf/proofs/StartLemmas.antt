-- What is read of a traf before its runs.
use Rattle.std.proofs.Common.{◌≡◌, ◌∙◌, ◌<◌, ◌^◌, ℕ, ℤ, pos, true, List, [], ◌∷◌, Some, refl, sym, ap, subst}
use Rattle.std.specs.List.{AllByRecursion}
use Rattle.mp4_box.specs.Paths.{at_path, of_kind}
use Rattle.mp4_box.specs.Trees.{Box, children, first_of}
use Rattle.mp4_traf.specs.Kinds.{is_kind, tfdt, tfhd, trun}
use Rattle.mp4_init.specs.declared.table.Track.{Track}
use Rattle.mp4_traf.specs.Fields.{payload_of}
use Rattle.mp4_traf.specs.Implementation.Heads.{offset_or_none, tfhd_at}
use Rattle.mp4_traf.specs.Ranges.{InRange, IsSound}
use Rattle.mp4_traf.specs.Runs.{MoofBytes, Shared, base_by, base_of, runs_from, runs_of, shared_by, tfhd_of, track_of, traf_of}
use Rattle.mp4_traf.specs.Tfdt.{base_media_decode_time}
use Rattle.mp4_traf.proofs.ChildLemmas.{no_other, path_kind}
use Rattle.mp4_traf.proofs.RangeLemmas.{in_range}

-- a traf that begins with these two boxes, its tfhd and its tfdt
pub record Headed (t a b : Box) : Type 0 where
  pub tfhd : a.payload ≡ tfhd_of t
  pub at : a.offset ≡ tfhd_at t
  pub time : (next : ℕ) → base_media_decode_time b.payload ≡ base_of next t

first_tfhd : (t a : Box) (bs : List Box) → children t ≡ a ∷ bs → is_kind tfhd a ≡ true → first_of (at_path (tfhd ∷ []) t) ≡ Some a
first_tfhd t a bs e is = ap first_of (path_kind tfhd t ∙ ap (of_kind tfhd) e) ∙ rw is refl

first_tfdt : (t a b : Box) (bs : List Box) → children t ≡ a ∷ (b ∷ bs) → is_kind tfhd a ≡ true → is_kind tfdt b ≡ true → first_of (at_path (tfdt ∷ []) t) ≡ Some b
first_tfdt t a b bs e first is = ap first_of (path_kind tfdt t ∙ ap (of_kind tfdt) e) ∙ rw (no_other a tfhd tfdt refl first, is) refl

pub headed : (t a b : Box) (bs : List Box) → children t ≡ a ∷ (b ∷ bs) → is_kind tfhd a ≡ true → is_kind tfdt b ≡ true → Headed t a b
headed t a b bs e first second = record {
  tfhd = sym (ap payload_of (first_tfhd t a (b ∷ bs) e first));
  at = sym (ap offset_or_none (first_tfhd t a (b ∷ bs) e first));
  time = λ next. sym (ap (base_by next) (first_tfdt t a b bs e first second));
}

-- what is known of the runs of a traf before they are read
pub record Starts (h : MoofBytes) (tracks : List Track) (t : Box) (s : Shared) (time : ℕ) (place : ℤ) (bs : List Box) : Type 0 where
  pub shared : s ≡ shared_by h (track_of tracks t) t
  pub begins : time ≡ base_of (track_of tracks t).next t
  pub last : place ≡ pos h.offset
  pub truns : of_kind trun bs ≡ of_kind trun (children t)

-- the runs of the truns that are left are those of the traf
pub runs_are : (h : MoofBytes) (tracks : List Track) (t : Box) (s : Shared) (time : ℕ) (last : ℤ) (bs : List Box) → Starts h tracks t s time last bs → runs_from s time last (of_kind trun bs) ≡ runs_of (traf_of h tracks t)
unfolding traf_of
runs_are h tracks t s time last bs f = rw (f.shared, f.begins, f.last, f.truns) refl

pub runs_in_range : (h : MoofBytes) (tracks : List Track) (t : Box) (s : Shared) (time : ℕ) (last : ℤ) (bs : List Box) → Starts h tracks t s time last bs → s.header.size < 2 ^ 32 → IsSound (traf_of h tracks t) → AllByRecursion InRange (runs_from s time last (of_kind trun bs))
unfolding traf_of
runs_in_range h tracks t s time last bs f small sound =
    subst (AllByRecursion InRange) (sym (runs_are h tracks t s time last bs f)) (in_range (traf_of h tracks t) (subst (λ (x : Shared). x.header.size < 2 ^ 32) f.shared small) sound)
