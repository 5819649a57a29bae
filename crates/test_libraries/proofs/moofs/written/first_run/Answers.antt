use Rattle.std.proofs.Common.{◌≡◌, ◌≤◌, ◌<◌, ◌^◌, ◌∷◌, [], ◌++◌, List, ℕ, Some, true, ap, arith, subst, sym, ◌∙◌}
use Rattle.std.specs.List.{AllByRecursion, flat_map}
use Rattle.std.specs.Prelude.{IfSome, Option, None}
use Rattle.mp4_box.specs.Headers.{IsBytes, IsWhole}
use Rattle.mp4_box.specs.Trees.{first_of}
use Rattle.mp4_traf.specs.declared.run.Run.{Run}
use Rattle.mp4_traf.specs.Runs.{TrackFragment, runs_of}
use Rattle.mp4_pieces.specs.Fits.{FitsIndex}
use Rattle.mp4_pieces.specs.Pieces.{pieces_of}
use Rattle.mp4_traf.specs.Ranges.{AreRunsOf, IsRunOf}
use Rattle.mp4_frag.proofs.ReadRunLemmas.{runs_are}
use Rattle.test_libraries.proofs.moofs.written.first_run.Goals as goal

-- what holds of all holds of the first of them
all_first : (P : Run → Type 0) (xs ys : List Run) → AllByRecursion P (xs ++ ys) → AllByRecursion P xs
all_first P [] ys all = tt
all_first P (x ∷ xs) ys all = (all.0, all_first P xs ys all.1)

pub first_of-requires : goal.first_of-requires
first_of-requires c =
    let h = c.args.moof.now in
    let fits = subst IsBytes c.requires.held (λ i. (c.type_inv.held i).fits) in
    let whole = subst IsWhole c.requires.held c.requires.whole in
    let near : h.offset ≤ 2 ^ 62 = omega (arith, c.requires.near) in
    let all = runs_are h c.args.list.now near whole fits c.requires.read in
    let same = ap (λ (ts : List TrackFragment). flat_map runs_of ts) (sym c.trafs.ensures ∙ c.in_ok-traf.ensures.steps) in
    let mine = all_first (λ (run : Run). run.size < 2 ^ 32 → IsRunOf h.bytes run) (runs_of c.in_ok-traf.traf) (flat_map runs_of c.next.new.self) (subst (AreRunsOf h.bytes) same all) in
    subst (λ (bytes : List ℕ). AreRunsOf bytes (runs_of c.in_ok-traf.traf)) (sym c.requires.held) mine

-- what holds of all holds of the first
head : (P : Run → Type 0) (runs : List Run) (run : Run) → AllByRecursion P runs → first_of runs ≡ Some run → P run
head P [] run all e = absurd cc
head P (x ∷ runs) run all e = subst P (some_is x run e) all.0
  where
    some_is : (a b : Run) → Some a ≡ Some b → a ≡ b
    some_is a b e = cc

if_some : (P Q : Run → Type 0) (o : Option Run) → ((run : Run) → P run → Q run) → IfSome o P → IfSome o Q
if_some P Q None f p = tt
if_some P Q (Some run) f p = f run p

pub returns-clause-index : goal.returns-clause-index
returns-clause-index c =
    let h = c.args.moof.now in
    let cut = c.args.cut.now in
    let same = ap (λ (ts : List TrackFragment). flat_map runs_of ts) (sym c.trafs.ensures ∙ c.in_ok-traf.ensures.steps) in
    if_some (λ (run : Run). first_of (runs_of c.in_ok-traf.traf) ≡ Some run) (λ (run : Run). cut.index ≡ true → FitsIndex (pieces_of cut c.args.held.now run)) c.first_of.result
    (λ (run : Run) (e : first_of (runs_of c.in_ok-traf.traf) ≡ Some run) (asked : cut.index ≡ true).
    let all = subst (AllByRecursion (λ (r : Run). FitsIndex (pieces_of cut h.bytes r))) same (c.in-Ok.ensures.room.indexes asked) in
    let mine = all_first (λ (r : Run). FitsIndex (pieces_of cut h.bytes r)) (runs_of c.in_ok-traf.traf) (flat_map runs_of c.next.new.self) all in
    subst (λ (bytes : List ℕ). FitsIndex (pieces_of cut bytes run)) (sym c.requires.held) (head (λ (r : Run). FitsIndex (pieces_of cut h.bytes r)) (runs_of c.in_ok-traf.traf) run mine e))
    c.first_of.ensures.first
