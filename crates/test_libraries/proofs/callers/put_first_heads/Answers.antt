use Rattle.std.proofs.Common.{◌∙◌, ◌+◌, ◌≤◌, ◌^◌, List, ap, length, subst, sym}
use Rattle.mp4_recut.specs.OutputFragments.{OutputFragment, output_of, span_from}
use Rattle.mp4_recut.specs.Splitting.{runs_fragments}
use Rattle.mp4_frag.specs.RunLists.{taken_runs}
use Rattle.test_libraries.proofs.callers.put_first_heads.Goals as goal

pub write_ready_heads-requires : goal.write_ready_heads-requires
write_ready_heads-requires g c =
    record {
      can = record { list = c.requires.list; runs_are_cut = c.requires.cut };
      at = c.begin-media.ensures.at;
      numbers = subst (λ (ps : List OutputFragment). c.args.fragments.now + 1 + length ps ≤ 2 ^ 32) (sym (c.begin-media.ensures.all (c.args.fragments.now + 1))) c.requires.numbers;
    }

pub returns-in-Ok-clause-emitted : goal.returns-in-Ok-clause-emitted
returns-in-Ok-clause-emitted g c = λ at.
    let outputs = c.in-Ok.ensures.writes_heads.outputs at in
    let n = c.args.fragments.now + 1 in
    let first = c.begin-media.result in
    let ahead = runs_fragments c.args.cut.now c.args.moof.now.bytes c.args.tracks.now n (taken_runs c.args.moof.now c.args.tracks.now) in (
      outputs.effects,
      outputs.emits,
      λ bytes.
          sym (ap (λ k. span_from at first.copy_span.place k (λ next rest. output_of next ahead rest) bytes) c.begin-media.ensures.left)
          ∙ (ap (λ ps. span_from at first.copy_span.place first.copy_span.left (λ next rest. output_of next ps rest) bytes) (sym (c.begin-media.ensures.all n))
          ∙ outputs.rest bytes),
    )
