use Rattle.std.proofs.Common.{◌≤◌, ◌^◌, List, ℕ, ap, arith, subst, sym, ◌∙◌}
use Rattle.std.specs.List.{flat_map}
use Rattle.mp4_box.specs.Headers.{IsBytes, IsWhole}
use Rattle.mp4_traf.specs.Runs.{TrackFragment, runs_of}
use Rattle.mp4_traf.specs.Ranges.{AreRunsOf}
use Rattle.mp4_frag.proofs.ReadRunLemmas.{of_both, runs_are}
use Rattle.bench_jobs.proofs.pieces.first_run.Goals as goal

pub first_of-requires : goal.first_of-requires
first_of-requires c =
    let h = c.args.moof.now in
    let fits = subst IsBytes c.requires.moof_bytes (λ i. (c.type_inv.moof_bytes i).fits) in
    let whole = subst IsWhole c.requires.moof_bytes c.requires.whole in
    let near : h.offset ≤ 2 ^ 62 = omega (arith, c.requires.near) in
    let all = runs_are h c.args.list.now near whole fits c.requires.read in
    let same = ap (λ (ts : List TrackFragment). flat_map runs_of ts) (sym c.trafs.ensures ∙ c.in_ok-traf.ensures.steps) in
    let mine = of_both h.bytes (runs_of c.in_ok-traf.traf) (flat_map runs_of c.next.new.self) (subst (AreRunsOf h.bytes) same all) in
    subst (λ (bytes : List ℕ). AreRunsOf bytes (runs_of c.in_ok-traf.traf)) (sym c.requires.moof_bytes) mine.0
