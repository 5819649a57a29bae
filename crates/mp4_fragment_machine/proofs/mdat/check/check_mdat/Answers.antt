use Rattle.std.proofs.Common.{◌≡◌, ◌∙◌, ◌+◌, Some, arith, rules, sym, length}
use Rattle.mp4_grammar.specs.Contexts.{context}
use Rattle.mp4_grammar.specs.Items.{fragment}
use Rattle.mp4_fragment_machine.proofs.SecondLemmas.{far-after, missing-after, misplaced-after, misplaced-run, payload-of}
use Rattle.mp4_fragment_machine.proofs.mdat.check.check_mdat.Goals as goal

pub returns-then-is_too_long-clause-fault : goal.returns-then-is_too_long-clause-fault
returns-then-is_too_long-clause-fault c = λ meaning number x later len is.
    let w = c.args.pending_moof.now in
    let same : c.offset-at.result + c.size.result ≡ w.moof.at + length w.moof.bytes = omega (arith, c.offset-at.ensures.at, c.size.ensures, c.requires.pending_moof.size) in
    far-after meaning (context w.moof.at (Some c.args.tracks.now) number) c.args.tracks.now w.moof.bytes _ same c.args.header.now x len is later (c.is_too_long.ensures.0 c.if-is_too_long.true)

pub returns-in_default : goal.returns-in_default
returns-in_default c = record {
  near = tt;
  mdat = tt;
  good = tt;
  fault = λ meaning number x later len is.
      let w = c.args.pending_moof.now in
      let same : c.offset-at.result + c.size.result ≡ w.moof.at + length w.moof.bytes = omega (arith, c.offset-at.ensures.at, c.size.ensures, c.requires.pending_moof.size) in
      rw c.offset-at.ensures.at
      (missing-after meaning (context w.moof.at (Some c.args.tracks.now) number) c.args.tracks.now w.moof.bytes _ same c.args.header.now x len is later (search rules) (λ e. c.in_default.not-Mdat (c.kind_of.ensures ∙ e)));
}

pub returns-in-Err-clause-fault : goal.returns-in-Err-clause-fault
returns-in-Err-clause-fault c = λ meaning number x later len is.
    let w = c.args.pending_moof.now in
    let same : c.offset-at.result + c.size.result ≡ w.moof.at + length w.moof.bytes = omega (arith, c.offset-at.ensures.at, c.size.ensures, c.requires.pending_moof.size) in
    misplaced-after meaning (context w.moof.at (Some c.args.tracks.now) number) c.args.tracks.now w.moof.bytes _ same c.args.header.now x len is later c.in-Err.fault (search rules) (sym c.kind_of.ensures ∙ c.in-Mdat.is)
    (misplaced-run meaning c.payload_of-payload.result (fragment (context w.moof.at (Some c.args.tracks.now) number) c.args.tracks.now w.moof.bytes c.args.header.now) c.in-Err.fault
    (payload-of c.payload_of-payload.result (context w.moof.at (Some c.args.tracks.now) number) c.args.tracks.now w.moof.bytes _ c.args.header.now same c.payload_of-payload.ensures.start c.payload_of-payload.ensures.end) (sym ((rw c.moof-moof.ensures at c.in-Err.ensures.fault) c.args.tracks.now c.requires.pending_moof.list)))
