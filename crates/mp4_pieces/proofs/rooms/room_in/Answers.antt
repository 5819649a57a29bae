use Rattle.std.proofs.Common.{List, ℕ, Option, None, ap, arith, subst, sym, ◌∙◌, ◌≡◌}
use Rattle.std.specs.List.{flat_map}
use Rattle.mp4_box.specs.Headers.{IsBytes}
use Rattle.mp4_box.specs.declared.rules.Fault.{Fault}
use Rattle.mp4_box.specs.Order.{least_from}
use Rattle.mp4_box.proofs.OrderLemmas.{least-is, least-none}
use Rattle.mp4_init.specs.declared.table.Track.{Track}
use Rattle.mp4_frag.specs.Moofs.{moof_runs, moof_trafs}
use Rattle.mp4_traf.specs.Runs.{MoofBytes, TrackFragment, runs_of}
use Rattle.mp4_pieces.specs.declared.cut.Cut.{Cut}
use Rattle.mp4_pieces.specs.Pieces.{piece_count}
use Rattle.mp4_traf.specs.Ranges.{AreRunsOf}
use Rattle.mp4_pieces.specs.Rooms.{index_faults, numbers, room_fault, room_faults, sequence_faults}
use Rattle.mp4_pieces.proofs.FitsLemmas.{room_from}
use Rattle.mp4_pieces.proofs.RoomLemmas.{fault_is, moof_count_few}
use Rattle.mp4_frag.proofs.ReadRunLemmas.{runs_are, samples_few}
use Rattle.mp4_pieces.proofs.rooms.room_in.Goals as goal

pub note_trafs-count-requires-clause-runs : goal.note_trafs-count-requires-clause-runs
note_trafs-count-requires-clause-runs c =
    let h = c.args.moof.now in
    let fits = subst IsBytes c.requires.moof_bytes (λ i. (c.type_inv.moof_bytes i).fits) in
    let all = runs_are h c.args.tracks.now (omega (arith, c.requires.near)) c.requires.whole fits c.requires.read in
    subst (λ (xs : List ℕ). AreRunsOf xs (flat_map runs_of c.trafs.result)) (sym c.requires.moof_bytes) (subst (λ (ts : List TrackFragment). AreRunsOf h.bytes (flat_map runs_of ts)) (sym c.trafs.ensures) all)

pub note_trafs-count-requires-clause-few : goal.note_trafs-count-requires-clause-few
note_trafs-count-requires-clause-few c =
    let h = c.args.moof.now in
    let same = ap (λ (xs : List ℕ). piece_count c.args.cut.now xs (flat_map runs_of c.trafs.result)) c.requires.moof_bytes ∙ ap (λ (ts : List TrackFragment). piece_count c.args.cut.now h.bytes (flat_map runs_of ts)) c.trafs.ensures in
    omega (arith, same, moof_count_few c.args.cut.now h c.args.tracks.now, samples_few h c.args.tracks.now c.requires.read)

-- what was noted is the fault of the moof
noted : (cut : Cut) (h : MoofBytes) (moof_bytes : List ℕ) (tracks : List Track) (ts : List TrackFragment) (seq count offset : ℕ) (first best : Option Fault) → moof_bytes ≡ h.bytes → ts ≡ moof_trafs h tracks → first ≡ least_from None (index_faults cut moof_bytes (flat_map runs_of ts))
    → count ≡ piece_count cut moof_bytes (flat_map runs_of ts) → offset ≡ h.offset → best ≡ least_from first (sequence_faults offset (numbers seq count)) → best ≡ room_fault cut h (moof_runs h tracks) seq
noted cut h moof_bytes tracks ts seq count offset first best at are is n o given =
    fault_is cut h moof_bytes (moof_runs h tracks) seq count offset first best at
    (is ∙ ap (λ (xs : List TrackFragment). least_from None (index_faults cut moof_bytes (flat_map runs_of xs))) are)
    (n ∙ ap (λ (xs : List TrackFragment). piece_count cut moof_bytes (flat_map runs_of xs)) are)
    o given

pub returns-in-Some-clause-least : goal.returns-in-Some-clause-least
returns-in-Some-clause-least c =
    let h = c.args.moof.now in
    let best =
    noted c.args.cut.now h c.args.moof_bytes.now c.args.tracks.now c.trafs.result c.args.seq c.note_trafs-count.result c.offset.result c.note_trafs-count.new.best c.note_moof.new.best
    c.requires.moof_bytes c.trafs.ensures c.note_trafs-count.ensures.best c.note_trafs-count.ensures.count c.offset.ensures c.note_moof.ensures in
    least-is (room_faults c.args.cut.now h (moof_runs h c.args.tracks.now) c.args.seq) c.in-Some.fault (sym best ∙ c.in-Some.is)

pub returns-in-None-clause-room : goal.returns-in-None-clause-room
returns-in-None-clause-room c =
    let h = c.args.moof.now in
    let best =
    noted c.args.cut.now h c.args.moof_bytes.now c.args.tracks.now c.trafs.result c.args.seq c.note_trafs-count.result c.offset.result c.note_trafs-count.new.best c.note_moof.new.best
    c.requires.moof_bytes c.trafs.ensures c.note_trafs-count.ensures.best c.note_trafs-count.ensures.count c.offset.ensures c.note_moof.ensures in
    room_from c.args.cut.now h (moof_runs h c.args.tracks.now) c.args.seq (least-none (room_faults c.args.cut.now h (moof_runs h c.args.tracks.now) c.args.seq) (sym best ∙ c.in-None.is))
