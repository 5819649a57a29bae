-- Where tracks ended doesn't matter to what is written.
use Rattle.std.proofs.Common.{◌≡◌, ◌∙◌, ℕ, zero, suc, Bool, true, false, cond, List, [], ◌∷◌, length, Option, Some, None, refl, sym, ap, arith}
use Rattle.std.specs.Prelude.{◌==◌, slice_get, option_map, nat_lt}
use Rattle.std.specs.Option.{option_and_then}
use Rattle.std.specs.List.{find, position, position_or_len}
use Rattle.std.proofs.lemmas.Bool.{ltb-false}
use Rattle.std.proofs.lemmas.List.Folds.{find_at}
use Rattle.std.proofs.lemmas.Option.{slice_get_past}
use Rattle.mp4_init.specs.declared.table.Track.{Track}
use Rattle.mp4_init.specs.Tracks.{with_next}
use Rattle.mp4_traf.specs.Rules.{track_with}
use Rattle.mp4_traf.specs.Settling.{ended, ended_at, settled, with_end}
use Rattle.mp4_traf.specs.Runs.{TrackFragment, end_of}
use Rattle.mp4_cut.specs.Moof.{WrittenFragment}
use Rattle.mp4_cut.specs.Reads.{CanBeRead}
use Rattle.mp4_recut_laws.specs.PieceItems.{without_end, without_ends}

found_by : (t : Bool) (at n : ℕ) (ts : List Track) → nat_lt at n ≡ t → n ≡ length ts → option_and_then (slice_get ts) (cond t (Some at) None) ≡ slice_get ts at
found_by true at n ts e l = refl
found_by false at n ts e l = sym (slice_get_past ts at (omega (arith, ltb-false _ _ e, l)))

with_is_find : (id : ℕ) (ts : List Track) → track_with id ts ≡ find (λ (t : Track). t.id == id) ts
with_is_find id ts = found_by (nat_lt (position_or_len (λ (t : Track). t.id == id) ts) (length ts)) (position_or_len (λ (t : Track). t.id == id) ts) (length ts) ts refl refl ∙ sym (find_at (λ (t : Track). t.id == id) ts)

find_by : (id : ℕ) (t : Track) (ts : List Track) (b : Bool) → (t.id == id) ≡ b → option_map without_end (find (λ (t : Track). t.id == id) ts) ≡ find (λ (t : Track). t.id == id) (without_ends ts)
    → option_map without_end (cond b (Some t) (find (λ (t : Track). t.id == id) ts)) ≡ cond b (Some (without_end t)) (find (λ (t : Track). t.id == id) (without_ends ts))
find_by id t ts true e more = refl
find_by id t ts false e more = more

find_ends : (id : ℕ) (ts : List Track) → option_map without_end (find (λ (t : Track). t.id == id) ts) ≡ find (λ (t : Track). t.id == id) (without_ends ts)
find_ends id [] = refl
find_ends id (t ∷ ts) = find_by id t ts (t.id == id) refl (find_ends id ts)

pub track_ends : (id : ℕ) (ts : List Track) → option_map without_end (track_with id ts) ≡ track_with id (without_ends ts)
track_ends id ts = ap (option_map without_end) (with_is_find id ts) ∙ (find_ends id ts ∙ sym (with_is_find id (without_ends ts)))

record Same (o : Option Track) (t : Track) : Type 0 where
  track : Track
  is : o ≡ Some track
  entries : track.entries ≡ t.entries
  timescale : track.timescale ≡ t.timescale

some_back : (o : Option Track) (t : Track) → option_map without_end o ≡ Some (without_end t) → Same o t
some_back None t e = absurd cc
some_back (Some u) t e = let same : without_end u ≡ without_end t = cc in record { track = u; is = refl; entries = ap (λ (x : Track). x.entries) same; timescale = ap (λ (x : Track). x.timescale) same }

-- what can be read after some tracks can be read after others that differ only in their ends
same_there : (f : WrittenFragment) (ts us : List Track) → without_ends us ≡ without_ends ts → (can : CanBeRead ts f) → Same (track_with f.track us) can.track
same_there f ts us e can = some_back (track_with f.track us) can.track (track_ends f.track us ∙ (ap (track_with f.track) e ∙ (sym (track_ends f.track ts) ∙ ap (option_map without_end) can.known)))

pub can_still : (f : WrittenFragment) (ts us : List Track) → without_ends us ≡ without_ends ts → CanBeRead ts f → CanBeRead us f
can_still f ts us e can =
    let there = same_there f ts us e can in
    record { fits = can.fits; track = there.track; known = there.is; low = can.low; high = omega (arith, can.high, there.entries) }

-- in the same timescale
pub still_timescale : (f : WrittenFragment) (ts us : List Track) (e : without_ends us ≡ without_ends ts) (can : CanBeRead ts f) → (can_still f ts us e can).track.timescale ≡ can.track.timescale
unfolding can_still
still_timescale f ts us e can = (same_there f ts us e can).timescale

ends_next : (i n : ℕ) (ts : List Track) → without_ends (with_next i n ts) ≡ without_ends ts
unfolding with_next
ends_next i n [] = refl
ends_next zero n (t ∷ ts) = refl
ends_next (suc i) n (t ∷ ts) = ap (λ (us : List Track). without_end t ∷ us) (ends_next i n ts)

ends_at : (o : Option ℕ) (n : ℕ) (ts : List Track) → without_ends (ended_at o n ts) ≡ without_ends ts
ends_at None n ts = refl
ends_at (Some i) n ts = ends_next i n ts

pub ends_changed : (id n : ℕ) (ts : List Track) → without_ends (with_end id n ts) ≡ without_ends ts
ends_changed id n ts = ends_at (position (λ (t : Track). t.id == id) ts) n ts

pub ends_settled : (ts : List Track) (fs : List TrackFragment) → without_ends (settled ts fs) ≡ without_ends ts
ends_settled ts [] = refl
ends_settled ts (f ∷ fs) = ends_settled (ended ts f) fs ∙ ends_changed f.shared.header.track (end_of f) ts
