use Rattle.std.proofs.Common.{◌≡◌, ◌++◌, [], ap, refl, subst}
use Rattle.std.specs.List.{AllByRecursion, flat_map}
use Rattle.mp4_traf.specs.Ranges.{IsSound}
use Rattle.mp4_traf.specs.Runs.{TrackFragment}
use Rattle.mp4_machine.proofs.PutLemmas.{HasFailed-front, HasFailed-then, HasPut-none, HasPut-then}
use Rattle.mp4_fragment_machine.specs.Implementation.TrafLines.{put_of, put_with}
use Rattle.mp4_fragment_machine.proofs.FragmentLineLemmas.{line_first, line_last}
use Rattle.mp4_fragment_machine.proofs.mdat.traf_lines.put_trafs.Goals as goal

pub loop-traf-init : goal.loop-traf-init
loop-traf-init g c = record {
  text = [];
  put = HasPut-none _ _ _;
  left = refl;
  sound = c.requires.sound;
  bytes = c.requires.bytes;
}

pub returns-in_default : goal.returns-in_default
returns-in_default g c = line_last (put_with c.args.command c.args.tracks.now c.args.sequence c.args.at c.args.size) c.loop-traf.trafs c.in_default.ensures.steps.0 c.loop-traf.invariant.left c.loop-traf.invariant.put

pub listed-listed_traf-requires : goal.listed-listed_traf-requires
listed-listed_traf-requires g c = record {
  sound = (subst (AllByRecursion IsSound) c.in-Some.ensures.steps c.loop-traf.invariant.sound).0;
  bytes = (subst (AllByRecursion (λ (t : TrackFragment). t.shared.moof.bytes ≡ c.args.moof_bytes.now)) c.in-Some.ensures.steps c.loop-traf.invariant.bytes).0;
}

pub returns-in-Err : goal.returns-in-Err
returns-in-Err g c =
    let line = put_with c.args.command c.args.tracks.now c.args.sequence c.args.at c.args.size in
    let text = c.loop-traf.invariant.text in
    let put = put_of c.args.command c.args.tracks.now c.listed-listed_traf.result in
    let is = ap (put_of c.args.command c.args.tracks.now) c.listed-listed_traf.ensures in
    HasFailed-front (text ++ put) (flat_map line c.next.new.self) (flat_map line c.args.trafs.now)
    (line_first line c.in-Some.traf c.next.new.self c.loop-traf.trafs text put (flat_map line c.args.trafs.now) c.in-Some.ensures.steps is c.loop-traf.invariant.left)
    (HasFailed-then c.loop-traf.invariant.put c.in-Err.ensures)

pub loop-traf-preserved : goal.loop-traf-preserved
loop-traf-preserved g c =
    let line = put_with c.args.command c.args.tracks.now c.args.sequence c.args.at c.args.size in
    let text = c.loop-traf.invariant.text in
    let put = put_of c.args.command c.args.tracks.now c.listed-listed_traf.result in
    let is = ap (put_of c.args.command c.args.tracks.now) c.listed-listed_traf.ensures in
    record {
      text = text ++ put;
      put = HasPut-then c.loop-traf.invariant.put c.in-Ok.ensures;
      left = line_first line c.in-Some.traf c.next.new.self c.loop-traf.trafs text put (flat_map line c.args.trafs.now) c.in-Some.ensures.steps is c.loop-traf.invariant.left;
      sound = (subst (AllByRecursion IsSound) c.in-Some.ensures.steps c.loop-traf.invariant.sound).1;
      bytes = (subst (AllByRecursion (λ (t : TrackFragment). t.shared.moof.bytes ≡ c.args.moof_bytes.now)) c.in-Some.ensures.steps c.loop-traf.invariant.bytes).1;
    }
