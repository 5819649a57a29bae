-- Under an operation each fragment ends past some text: it has a moof.
use Rattle.std.proofs.Common.{◌≡◌, ℕ, zero, suc, ◌+◌, ◌-◌, ◌<◌, List, [], ◌∷◌, ◌++◌, length, take, drop, Bool, true, false, arith, refl}
use Rattle.std.specs.List.{AllByRecursion}
use Rattle.std.specs.Prelude.{nat_lt}
use Rattle.mp4_init.specs.declared.table.Track.{Track}
use Rattle.mp4_traf.specs.declared.run.Run.{Run}
use Rattle.mp4_pieces.specs.declared.cut.Cut.{Cut}
use Rattle.mp4_pieces.specs.declared.piece.Piece.{Piece}
use Rattle.mp4_pieces.specs.Pieces.{pieces_of}
use Rattle.mp4_cut.proofs.MoofLemmas.{length_moof}
use Rattle.mp4_cut.specs.Moof.{written_fragment}
use Rattle.mp4_machine.specs.Readings.{ArePast, Effects, says}
use Rattle.mp4_machine.proofs.PastLemmas.{both-past}
use Rattle.mp4_grammar.specs.Meanings.{FragmentEndsPast, runs_in}
use Rattle.mp4_grammar.specs.declared.command.Command.TheVariants.{Samples, Fragments, Records, Check}
use Rattle.mp4_recut.specs.OutputFragments.{OutputFragment, opens, output_of, span_from, span_of}
use Rattle.mp4_recut.specs.Operations.{operation_meaning}
use Rattle.mp4_recut.specs.Splitting.{copied, is_dropped, next_group, output_fragments, run_fragments, runs_fragments, splitting, timescale_of}
use Rattle.mp4_recut.specs.declared.operation.Operation.{Operation}
use Rattle.mp4_recut.specs.declared.operation.Operation.TheVariants as operations

-- the moof of each part ends past some text
abbrev pub FragmentsPast : List OutputFragment → Type 0
FragmentsPast ps = AllByRecursion (λ p. 0 < p.mark.end) ps

ahead-append : (ps qs : List OutputFragment) → FragmentsPast ps → FragmentsPast qs → FragmentsPast (ps ++ qs)
ahead-append [] qs h k = k
ahead-append (p ∷ ps) qs h k = (h.0, ahead-append ps qs h.1 k)

pub span_of-past : (n : ℕ) (b : List ℕ) (more : List ℕ → Effects) → ((x : List ℕ) → ArePast 0 (more x).fragment_ends) → (t : Bool) → nat_lt (length b) n ≡ t → ArePast 0 (span_of n b more).fragment_ends
span_of-past n b more h true e = rw e tt
span_of-past n b more h false e = rw e (both-past (says (take n b)) (more (drop n b)) tt (h (drop n b)))

pub span-past : (at place len : ℕ) (more : ℕ → List ℕ → Effects) (b : List ℕ) → ((k : ℕ) (x : List ℕ) → ArePast 0 (more k x).fragment_ends) → ArePast 0 (span_from at place len more b).fragment_ends
span-past at place zero more b h = h at b
span-past at place (suc n) more b h = span_of-past (suc n) (drop (place - at) b) (more (at + (place - at) + suc n)) (h (at + (place - at) + suc n)) _ refl

pub output_of-past : (at : ℕ) (ps : List OutputFragment) (b : List ℕ) → FragmentsPast ps → ArePast 0 (output_of at ps b).fragment_ends
output_of-past at [] b h = tt
output_of-past at (p ∷ ps) b h = both-past (opens p) (span_from at p.place p.len (λ next rest. output_of next ps rest) b) (h.0, tt) (span-past at p.place p.len (λ next rest. output_of next ps rest) b (λ k x. output_of-past k ps x h.1))

run-past : (cut : Cut) (moof_bytes : List ℕ) (run : Run) (timescale k number : ℕ) (ps : List Piece) → FragmentsPast (run_fragments cut moof_bytes run timescale k number ps)
unfolding run_fragments
run-past cut moof_bytes run timescale k number [] = tt
run-past cut moof_bytes run timescale k number (p ∷ ps) = (omega (arith, length_moof (written_fragment moof_bytes run p) number), run-past cut moof_bytes run timescale (next_group k) (number + 1) ps)

pub runs-past : (cut : Cut) (moof_bytes : List ℕ) (tracks : List Track) (number : ℕ) (runs : List Run) → FragmentsPast (runs_fragments cut moof_bytes tracks number runs)
unfolding runs_fragments
runs-past cut moof_bytes tracks number [] = tt
runs-past cut moof_bytes tracks number (run ∷ runs) =
    ahead-append (run_fragments cut moof_bytes run (timescale_of tracks run.track) 0 number (pieces_of cut moof_bytes run)) (runs_fragments cut moof_bytes tracks (number + length (pieces_of cut moof_bytes run)) runs)
    (run-past cut moof_bytes run (timescale_of tracks run.track) 0 number (pieces_of cut moof_bytes run)) (runs-past cut moof_bytes tracks (number + length (pieces_of cut moof_bytes run)) runs)

copied-past : (t : Bool) (b : List ℕ) → ArePast 0 (copied t b).fragment_ends
copied-past true b = tt
copied-past false b = tt

pub splitting-past : (cut : Cut) → FragmentEndsPast (splitting cut)
splitting-past cut = record {
  passed = λ kind b. copied-past (is_dropped kind.0) b;
  accepted = λ f. tt;
  media = λ f b. output_of-past f.payload.start (output_fragments cut f) b (runs-past cut f.moof.bytes f.tracks f.number (runs_in f));
}

pub operation-past : (operation : Operation) → FragmentEndsPast (operation_meaning operation)
operation-past (operations.List Check) = record { passed = λ kind b. tt; accepted = λ f. tt; media = λ f b. tt }
operation-past (operations.List Fragments) = record { passed = λ kind b. tt; accepted = λ f. tt; media = λ f b. tt }
operation-past (operations.List Records) = record { passed = λ kind b. tt; accepted = λ f. tt; media = λ f b. tt }
operation-past (operations.List Samples) = record { passed = λ kind b. tt; accepted = λ f. tt; media = λ f b. tt }
operation-past (operations.Split cut) = splitting-past cut
