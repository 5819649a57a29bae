-- Only the code's own way; no public clause needs this.
-- A moof of the common layout: an mfhd and a traf with a tfhd, a tfdt and a trun.
use Rattle.std.specs.Prelude.{◌≡◌, ◌+◌, true, List, [], ◌∷◌, ◌++◌, length}
use Rattle.mp4_box.specs.declared.rules.Fault.{Fault}
use Rattle.mp4_box.specs.declared.checks.Layout.TheVariants.{Exactly}
use Rattle.mp4_box.specs.Checks.{laid_out}
use Rattle.mp4_box.specs.Trees.{Box, box_faults, box_len, children}
use Rattle.mp4_init.specs.declared.table.Track.{Track}
use Rattle.mp4_traf.specs.Kinds.{is_kind, mfhd, traf, tfhd, tfdt, trun}
use Rattle.mp4_frag.specs.Implementation.AtOnce.{IsEarly}
use Rattle.mp4_frag.specs.Mfhd.{mfhd_len}
use Rattle.mp4_frag.specs.Moofs.{value_faults}
use Rattle.mp4_frag.specs.Rules.{form_faults}
use Rattle.mp4_traf.specs.Rules.{tfhd_faults, tfhd_length, trun_faults, trun_length}
use Rattle.mp4_traf.specs.Tfdt.{tfdt_layout}

-- a box holds just these two, and they take all of its payload
pub record HoldsTwo (m a b : Box) : Type 0 where
  pub are : children m ≡ a ∷ b ∷ []
  pub filled : box_len a + box_len b ≡ length m.payload

-- or just these three
pub record HoldsThree (m a b c : Box) : Type 0 where
  pub are : children m ≡ a ∷ b ∷ c ∷ []
  pub filled : box_len a + box_len b + box_len c ≡ length m.payload

-- the moof m holds just an mfhd a and a traf t, and that just a tfhd b, a tfdt c and a trun d
pub record HasCommonLayout (m a t b c d : Box) : Type 0 where
  pub two : HoldsTwo m a t
  pub three : HoldsThree t b c d
  pub is_mfhd : is_kind mfhd a ≡ true
  pub is_traf : is_kind traf t ≡ true
  pub is_tfhd : is_kind tfhd b ≡ true
  pub is_tfdt : is_kind tfdt c ≡ true
  pub is_trun : is_kind trun d ≡ true

-- faults of each of its boxes by itself
abbrev pub common_faults : List Track → (a b c d : Box) → List Fault
common_faults tracks a b c d = laid_out (Exactly mfhd_len) a ++ ((tfhd_length b ++ tfhd_faults tracks b) ++ (laid_out tfdt_layout c ++ (trun_length d ++ trun_faults d)))

-- no box of a moof is at fault by itself, and its times are early
pub record IsSoundEarly (tracks : List Track) (m : Box) : Type 0 where
  pub tree : box_faults m ≡ []
  pub forms : form_faults m ≡ []
  pub values : value_faults tracks m ≡ []
  pub early : IsEarly tracks m
