use Rattle.std.proofs.Common.{◌≡◌, ◌∙◌, ◌^◌, ◌<◌, ℕ, List, ap, arith, rules}
use Rattle.std.specs.List.{sum_by}
use Rattle.mp4_traf.specs.declared.run.Run.{Run}
use Rattle.mp4_traf.specs.Runs.{TrackFragment, runs_of}
use Rattle.mp4_traf.specs.TrafTotals.{are_sync, bytes_in_traf, first_flags, samples_in_traf}
use Rattle.mp4_traf.proofs.TrafTotalLemmas.{end_is, ends_later, few_bytes_in, few_samples, totals_are}
use Rattle.mp4_traf.proofs.traf.Traf.totals.Goals as goal

pub add_runs-requires-clause-samples : goal.add_runs-requires-clause-samples
add_runs-requires-clause-samples c =
    omega (arith, few_samples c.args.self.now c.requires.sound, ap (λ (runs : List Run). sum_by (λ (run : Run). run.count) runs) c.runs.ensures)

pub add_runs-requires-clause-bytes : goal.add_runs-requires-clause-bytes
add_runs-requires-clause-bytes c =
    let small : c.args.self.now.shared.header.size < 2 ^ 32 = search rules in
    omega (arith, few_bytes_in c.args.self.now c.requires.sound small, ap (λ (runs : List Run). sum_by (λ (run : Run). run.bytes) runs) c.runs.ensures)

pub overflow_sub-result : goal.overflow_sub-result
overflow_sub-result c =
    let t : TrackFragment = c.args.self.now in
    let time : c.self.inside.time ≡ t.time = ap (λ (t : TrackFragment). t.time) c.self.view_is in
    omega (arith, end_is t c.self.inside.time c.runs.result c.add_runs.new.so_far.end time c.runs.ensures c.add_runs.ensures.end, ends_later t, time)

pub returns : goal.returns
returns c =
    let t : TrackFragment = c.args.self.now in
    let time : c.self.inside.time ≡ t.time = ap (λ (t : TrackFragment). t.time) c.self.view_is in
    let track : c.self.inside.context.header.track ≡ t.shared.header.track = ap (λ (t : TrackFragment). t.shared.header.track) c.self.view_is in
    let bytes : c.self.inside.context.moof_bytes.now ≡ t.shared.moof.bytes = ap (λ (t : TrackFragment). t.shared.moof.bytes) c.self.view_is in
    let end = end_is t c.self.inside.time c.runs.result c.add_runs.new.so_far.end time c.runs.ensures c.add_runs.ensures.end in
    let samples : c.add_runs.new.so_far.samples ≡ samples_in_traf t = omega (arith, c.add_runs.ensures.samples, ap (λ (runs : List Run). sum_by (λ (run : Run). run.count) runs) c.runs.ensures) in
    let media : c.add_runs.new.so_far.bytes ≡ bytes_in_traf t = omega (arith, c.add_runs.ensures.bytes, ap (λ (runs : List Run). sum_by (λ (run : Run). run.bytes) runs) c.runs.ensures) in
    let flags : c.add_runs.new.so_far.flags ≡ first_flags t.shared.moof.bytes (runs_of t) = c.add_runs.ensures.flags ∙ (ap (λ (l : List ℕ). first_flags l c.runs.result) bytes ∙ ap (first_flags t.shared.moof.bytes) c.runs.ensures) in
    let sync = c.are_sync.ensures ∙ ap are_sync flags in
    totals_are t c.self.inside.context.header.track c.self.inside.time c.add_runs.new.so_far.end c.add_runs.new.so_far.samples c.add_runs.new.so_far.bytes c.are_sync.result track time end samples media sync
