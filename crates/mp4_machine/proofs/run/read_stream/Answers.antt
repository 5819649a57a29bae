use Rattle.std.proofs.Common.{rules, arith, ◌≡◌, ◌≤◌, ◌+◌, ◌∙◌, ◌++◌, [], take, length, length-append, length-take, refl, ap, sym, Err}
use Rattle.std.proofs.KnownBytes.{Appends-nil, Consumes-kept, Consumes-nil, Consumes-trans}
use Rattle.mp4_ends.proofs.StreamLemmas.{Consumes-then_none}
use Rattle.mp4_machine.specs.Blocks.{unused}
use Rattle.mp4_machine.specs.Ends.{between, received, sent}
use Rattle.mp4_machine.specs.Inputs.{environment}
use Rattle.mp4_machine.specs.Readings.{uncounted}
use Rattle.mp4_machine.specs.StreamRuns.{ReadsStream}
use Rattle.mp4_machine.proofs.AccountLemmas.{within_limit}
use Rattle.mp4_machine.proofs.InputLemmas.{IsFed-begun, IsFed-more}
use Rattle.mp4_machine.proofs.RunLemmas.{Runs-same, bytes-more, fed-emits, fed-fault, fed-takes, fed-undecided, idle-stops, none_read, prompt-now, prompt-read, takes-left}
use Rattle.mp4_machine.proofs.run.read_stream.Goals as goal
use Rattle.mp4_machine.proofs.run.read_stream.Goals.{in-Ok-read+then-is_empty+in-Ok-finish, in-Ok-read+then-is_empty+in-Err-finish, in-Err-read, in-Ok-read+else-is_empty+in-Err-feed}

pub returns-in-Err-clause-runs : goal.returns-in-Err-clause-runs
returns-in-Err-clause-runs g c =
    let begun = c.requires.begun in
    let refused = rw c.mark.ensures.marked at c.in-Err.ensures in
    let copy : c.from.result ≡ c.args.copy = c.from.ensures in
    rw (c.of_refusal.ensures, refused.err, begun.counted)
    (idle-stops (g.M.Machine.continuation c.args.machine.now).reads _ _ c.args.ledger.now.live c.in-Err.refused begun.none (Consumes-nil _) (Appends-nil _) refl c.requires.idle refl
    (λ e. omega (arith, refused.over_limit.0 (ap Err e), copy))
    (λ e. omega (arith, within_limit c.args.ledger.now.limit (c.args.ledger.now.live + c.from.result) (ap Err e) refused.over_limit.1, copy)))

pub loop-n-init : goal.loop-n-init
loop-n-init g c =
    let begun = c.requires.begun in
    let live : c.buf.new.self.live ≡ c.args.copy = omega (arith, ap (λ a. a.live) c.in-Ok.ensures.ok, ap (λ a. a.live) c.mark.ensures.marked, c.from.ensures, c.requires.idle) in (
      [],
      record {
        read = Consumes-nil _;
        fed = rw (begun.counted, c.new-out.ensures) (IsFed-begun (g.W.Sink.contents c.args.w.now) c.buf.new.self (g.M.Machine.continuation c.args.machine.now) (rw begun.counted at begun));
        task = refl;
        claim = omega (arith, begun.claim);
        near = omega (arith, begun.reached);
        room = c.room_mut-into.ensures.len ∙ sym live;
        kept = refl;
        total = refl;
        bytes = λ i. omega arith;
        bound = omega arith;
      },
    )

pub loop-n-preserved : goal.loop-n-preserved
loop-n-preserved g c =
    let reads = (g.M.Machine.continuation c.args.machine.now).reads in
    let (b, i) = c.loop-n.invariant in
    let fed = c.in-Ok-feed.ensures in
    let got = take c.in-Ok-read.n c.read.new.into in
    let bound = c.in-Ok-read.ensures.bound in
    let goes = fed.takes.ok in
    let same : length c.read.new.into ≡ length c.loop-n.into = search rules in (
      b ++ got,
      record {
        read = Consumes-trans _ _ _ _ _ i.read c.in-Ok-read.ensures.bytes.0;
        fed = IsFed-more reads b _ i.fed goes fed.quiet (fed.sent (λ e. absurd cc));
        task = fed.task ∙ i.task;
        claim = fed.claim;
        near = fed.near;
        room = same ∙ i.room;
        kept = fed.takes.kept (λ e. absurd cc) ∙ i.kept;
        total = omega (arith, i.total, length-append b got);
        bytes = bytes-more b got i.bytes fed.bytes;
        bound = omega (arith, i.total, goes.reached, i.fed.is_after.reached, length-append b got, fed.near);
      },
    )

pub back-requires : goal.back-requires
back-requires g c =
    let live : c.buf.new.self.live ≡ c.args.copy = omega (arith, ap (λ a. a.live) c.in-Ok.ensures.ok, ap (λ a. a.live) c.mark.ensures.marked, c.from.ensures, c.requires.idle) in
    let (b, i) = c.loop-n.invariant in
    let left : (c.match-read.buf.cap ≡ c.in-Ok.buf.cap) × (c.match-read.ledger.live ≡ c.buf.new.self.live + (g.M.Machine.continuation c.match-read.machine).claim) =
    elim c.match-read.branch [
      | in-Ok-read+then-is_empty+in-Ok-finish w ↦ rw (w.buf-is, w.ledger-is, w.machine-is) (refl, omega (arith, i.fed.counts.live))
      | in-Ok-read+then-is_empty+in-Err-finish w ↦ rw (w.buf-is, w.ledger-is, w.machine-is) (refl, omega (arith, i.fed.counts.live))
      | in-Err-read w ↦ rw (w.buf-is, w.ledger-is, w.machine-is) (refl, omega (arith, i.fed.counts.live))
      | in-Ok-read+else-is_empty+in-Err-feed w ↦ rw (w.buf-is, w.ledger-is, w.machine-is) (refl, omega (arith, (takes-left i.claim w.in-Err-feed.ensures.takes).0, w.in-Err-feed.ensures.spent, i.fed.counts.live))
    ] in
    let cap = ap (λ b. b.cap) c.in-Ok.ensures.empty in
    omega (arith, left.0, left.1, live, cap, c.from.ensures)

pub returns-clause-live : goal.returns-clause-live
returns-clause-live g c =
    let live : c.buf.new.self.live ≡ c.args.copy = omega (arith, ap (λ a. a.live) c.in-Ok.ensures.ok, ap (λ a. a.live) c.mark.ensures.marked, c.from.ensures, c.requires.idle) in
    let (b, i) = c.loop-n.invariant in
    let left : (c.match-read.buf.cap ≡ c.in-Ok.buf.cap) × (c.match-read.ledger.live ≡ c.buf.new.self.live + (g.M.Machine.continuation c.match-read.machine).claim) =
    elim c.match-read.branch [
      | in-Ok-read+then-is_empty+in-Ok-finish w ↦ rw (w.buf-is, w.ledger-is, w.machine-is) (refl, omega (arith, i.fed.counts.live))
      | in-Ok-read+then-is_empty+in-Err-finish w ↦ rw (w.buf-is, w.ledger-is, w.machine-is) (refl, omega (arith, i.fed.counts.live))
      | in-Err-read w ↦ rw (w.buf-is, w.ledger-is, w.machine-is) (refl, omega (arith, i.fed.counts.live))
      | in-Ok-read+else-is_empty+in-Err-feed w ↦ rw (w.buf-is, w.ledger-is, w.machine-is) (refl, omega (arith, (takes-left i.claim w.in-Err-feed.ensures.takes).0, w.in-Err-feed.ensures.spent, i.fed.counts.live))
    ] in
    let cap = ap (λ b. b.cap) c.in-Ok.ensures.empty in
    omega (arith, left.0, left.1, live, cap, c.from.ensures, ap (λ a. a.live) c.back.ensures)

pub returns-clause-limit : goal.returns-clause-limit
returns-clause-limit g c =
    let (b, i) = c.loop-n.invariant in
    let left : c.match-read.ledger.limit ≡ c.buf.new.self.limit =
    elim c.match-read.branch [
      | in-Ok-read+then-is_empty+in-Ok-finish w ↦ rw w.ledger-is i.fed.counts.limit
      | in-Ok-read+then-is_empty+in-Err-finish w ↦ rw w.ledger-is i.fed.counts.limit
      | in-Err-read w ↦ rw w.ledger-is i.fed.counts.limit
      | in-Ok-read+else-is_empty+in-Err-feed w ↦ rw w.ledger-is ((takes-left i.claim w.in-Err-feed.ensures.takes).1 ∙ i.fed.counts.limit)
    ] in
    ap (λ a. a.limit) c.back.ensures ∙ left ∙ ap (λ a. a.limit) c.in-Ok.ensures.ok ∙ ap (λ a. a.limit) c.mark.ensures.marked

pub returns-clause-runs : goal.returns-clause-runs
returns-clause-runs g c =
    let reads = (g.M.Machine.continuation c.args.machine.now).reads in
    let start = environment (g.W.Sink.contents c.args.w.now) unused c.buf.new.self uncounted in
    let (b, i) = c.loop-n.invariant in
    let live : c.buf.new.self.live ≡ c.args.copy = omega (arith, ap (λ a. a.live) c.in-Ok.ensures.ok, ap (λ a. a.live) c.mark.ensures.marked, c.from.ensures, c.requires.idle) in
    let marked : c.buf.new.self.peak ≡ c.buf.new.self.live = omega (arith, ap (λ a. a.live) c.in-Ok.ensures.ok, ap (λ a. a.peak) c.in-Ok.ensures.ok, ap (λ a. a.live) c.mark.ensures.marked, ap (λ a. a.peak) c.mark.ensures.marked) in
    let ran : (run : ReadsStream reads (between (received g.R.Source.remaining g.R.Source.has_ended g.R.Source.has_failed g.R.Source.last_read c.args.r.now c.read.new.self) (sent g.W.Sink.contents g.W.Sink.has_failed c.args.w.now c.match-read.w)) (record { copy = c.buf.new.self.live; limit = c.buf.new.self.limit; peak = c.match-read.ledger.peak }) (g.M.Machine.counted c.match-read.machine) c.match-read.answer) × (run.fragments ≡ c.match-read.out.whole) =
    elim c.match-read.branch [
      | in-Ok-read+then-is_empty+in-Ok-finish w ↦
          let none : w.in-Ok-read.n ≡ 0 = none_read w.in-Ok-read.n c.read.new.into w.if-is_empty.ensures w.in-Ok-read.ensures.bound.0 in
          rw (w.w-is, w.ledger-is, w.machine-is, w.out-is, w.answer-is) (
            record {
              bytes = b;
              fits = i.bytes;
              given = Consumes-then_none _ _ _ _ _ _ i.read w.in-Ok-read.ensures.bytes.0 none;
              fragments = c.loop-n.out.whole;
              prompt = prompt-now reads b start refl marked i.fed _ (w.in-Ok-read.ensures.last ∙ none);
              gives = (fed-emits reads b start refl marked i.fed _ refl refl, fed-fault reads b start refl marked i.fed ∙ w.in-Ok-finish.ensures.ok, search rules);
              kept = λ _. i.kept;
            },
            refl,
          )
      | in-Ok-read+then-is_empty+in-Err-finish w ↦
          let none : w.in-Ok-read.n ≡ 0 = none_read w.in-Ok-read.n c.read.new.into w.if-is_empty.ensures w.in-Ok-read.ensures.bound.0 in
          rw (w.w-is, w.ledger-is, w.machine-is, w.out-is, w.answer-is) (
            record {
              bytes = b;
              fits = i.bytes;
              given = Consumes-then_none _ _ _ _ _ _ i.read w.in-Ok-read.ensures.bytes.0 none;
              fragments = c.loop-n.out.whole;
              prompt = prompt-now reads b start refl marked i.fed _ (w.in-Ok-read.ensures.last ∙ none);
              gives = (fed-emits reads b start refl marked i.fed _ refl refl, fed-fault reads b start refl marked i.fed ∙ w.in-Err-finish.ensures.err, λ _. search rules);
              kept = λ _. i.kept;
            },
            refl,
          )
      | in-Err-read w ↦
          rw (w.w-is, w.ledger-is, w.machine-is, w.out-is, w.answer-is) (
            record {
              bytes = b;
              fits = i.bytes;
              given = Consumes-kept _ _ _ _ i.read w.in-Err-read.ensures.bytes;
              fragments = c.loop-n.out.whole;
              prompt = prompt-now reads b start refl marked i.fed _ w.in-Err-read.ensures.last_err;
              gives = (fed-emits reads b start refl marked i.fed _ refl refl, fed-undecided reads b start refl marked i.fed, i.total, w.in-Err-read.ensures.failed_err);
              kept = λ _. i.kept;
            },
            refl,
          )
      | in-Ok-read+else-is_empty+in-Err-feed w ↦
          let got = take w.in-Ok-read.n c.read.new.into in
          let kept : length c.read.new.into ≡ length c.loop-n.into = search rules in
          let before = environment (g.W.Sink.contents c.loop-n.w) c.loop-n.out c.loop-n.ledger (g.M.Machine.counted c.loop-n.machine) in
          let following = environment (g.W.Sink.contents w.feed.new.w) w.feed.new.out w.feed.new.ledger (g.M.Machine.counted w.feed.new.machine) in
          let few : length got ≤ c.buf.new.self.live = omega (arith, i.room, kept, length-take w.in-Ok-read.n c.read.new.into) in
          let gave : length got ≡ g.R.Source.last_read c.read.new.self = omega (arith, length-take w.in-Ok-read.n c.read.new.into, w.in-Ok-read.ensures.bound, w.in-Ok-read.ensures.last) in
          rw (w.w-is, w.ledger-is, w.machine-is, w.out-is, w.answer-is) (
            record {
              bytes = b ++ got;
              fits = bytes-more b got i.bytes w.in-Err-feed.ensures.bytes;
              given = Consumes-trans _ _ _ _ _ i.read w.in-Ok-read.ensures.bytes.0;
              fragments = w.feed.new.out.whole;
              prompt = prompt-read reads b start refl marked i.fed got following _ (record { few = few; gave = gave });
              gives = fed-takes {change = record { before = before; after = following; failed = g.W.Sink.has_failed c.loop-n.w; failed' = g.W.Sink.has_failed w.feed.new.w }} reads b start refl marked i.fed i.claim _ (record { few = few; gave = gave }) refl refl (λ other. w.in-Err-feed.ensures.sent (λ is. other cc)) refl w.in-Err-feed.ensures.takes;
              kept = λ other. w.in-Err-feed.ensures.takes.kept (λ is. other cc) ∙ i.kept;
            },
            refl,
          )
    ] in
    let limit : c.buf.new.self.limit ≡ c.args.ledger.now.limit = ap (λ a. a.limit) c.in-Ok.ensures.ok ∙ ap (λ a. a.limit) c.mark.ensures.marked in
    let peak : c.back.new.self.peak ≡ c.match-read.ledger.peak = rw c.back.ensures refl in
    rw c.whole.ensures (Runs-same live limit (sym peak) ran)
