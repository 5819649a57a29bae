use Rattle.std.proofs.Common.{◌≡◌, ◌++◌, ◌∙◌, ◌+◌, ℕ, List, [], ◌∷◌, ap, arith, drop, get_or, length, suc, sym}
use Rattle.std.specs.List.{flat_map}
use Rattle.std.proofs.lemmas.List.{drop_all, length-map}
use Rattle.mp4_box.specs.Paths.{of_kind}
use Rattle.mp4_box.specs.Trees.{Box, children, view}
use Rattle.mp4_init.specs.Kinds.{trak}
use Rattle.mp4_init.specs.Tracks.{track_of, tracks_of}
use Rattle.mp4_init.specs.declared.table.Track.{Track}
use Rattle.mp4_machine.proofs.PutLemmas.{HasFailed-front, HasFailed-then, HasPut-none, HasPut-then}
use Rattle.mp4_grammar.specs.TrackLines.{track_line, track_lines}
use Rattle.mp4_fragment_machine.proofs.FragmentLineLemmas.{drop_next, line_first, line_last, track_at_is}
use Rattle.mp4_fragment_machine.proofs.mdat.track_lines.put_track_lines.Goals as goal

abbrev line : Box → Box → List ℕ
line moov b = track_line (track_of moov b) b

pub loop-i-init : goal.loop-i-init
loop-i-init g c = record {
  text = [];
  put = HasPut-none _ _ _;
  rest = ap (λ bs. flat_map (line (view c.args.moov.now)) (of_kind trak bs)) c.of-walk.ensures.children;
  here = ap (of_kind trak) c.of-walk.ensures.children;
}

pub returns-in-Err : goal.returns-in-Err
returns-in-Err g c =
    let moov = view c.args.moov.now in
    let this = view c.in-Some.trak in
    let text = c.loop-i.invariant.text in
    let rest = of_kind trak c.next_of.new.walk in
    let there = of_kind trak c.loop-i.walk in
    let first : there ≡ this ∷ rest = c.in-Some.ensures.first in
    let at : c.at.result ≡ get_or (tracks_of moov) c.loop-i.i c.at.result = c.at.ensures ∙ ap (λ (ts : List Track). get_or ts c.loop-i.i c.at.result) c.requires in
    let track : c.at.result ≡ track_of moov this = track_at_is (track_of moov) (of_kind trak (children moov)) c.loop-i.i this rest c.at.result (sym first ∙ c.loop-i.invariant.here) at in
    let put = track_line c.at.result this in
    HasFailed-front (text ++ put) (flat_map (line moov) rest) (track_lines moov)
    (line_first (line moov) this rest there text put (track_lines moov) first (ap (λ (t : Track). track_line t this) track) c.loop-i.invariant.rest)
    (HasFailed-then c.loop-i.invariant.put c.in-Err.ensures)

pub loop-i-preserved : goal.loop-i-preserved
loop-i-preserved g c =
    let moov = view c.args.moov.now in
    let this = view c.in-Some.trak in
    let text = c.loop-i.invariant.text in
    let rest = of_kind trak c.next_of.new.walk in
    let there = of_kind trak c.loop-i.walk in
    let first : there ≡ this ∷ rest = c.in-Some.ensures.first in
    let at : c.at.result ≡ get_or (tracks_of moov) c.loop-i.i c.at.result = c.at.ensures ∙ ap (λ (ts : List Track). get_or ts c.loop-i.i c.at.result) c.requires in
    let track : c.at.result ≡ track_of moov this = track_at_is (track_of moov) (of_kind trak (children moov)) c.loop-i.i this rest c.at.result (sym first ∙ c.loop-i.invariant.here) at in
    let put = track_line c.at.result this in
    let next : suc c.loop-i.i ≡ c.loop-i.i + 1 = omega arith in
    record {
      text = text ++ put;
      put = HasPut-then c.loop-i.invariant.put c.in-Ok.ensures;
      rest = line_first (line moov) this rest there text put (track_lines moov) first (ap (λ (t : Track). track_line t this) track) c.loop-i.invariant.rest;
      here = drop_next (of_kind trak (children moov)) c.loop-i.i this rest (sym first ∙ c.loop-i.invariant.here) ∙ ap (λ n. drop n (of_kind trak (children moov))) next;
    }

pub returns-in_default : goal.returns-in_default
returns-in_default g c = line_last (line (view c.args.moov.now)) (of_kind trak c.loop-i.walk) (c.in_default.ensures.first ∙ c.in_default.ensures.none) c.loop-i.invariant.rest c.loop-i.invariant.put

pub returns : goal.returns
returns g c =
    let moov = view c.args.moov.now in
    let all = of_kind trak (children moov) in
    let count : length c.args.tracks.now ≡ length all = ap (λ (ts : List Track). length ts) c.requires ∙ length-map all (track_of moov) in
    let none : drop c.loop-i.i all ≡ [] = drop_all c.loop-i.i all (omega (arith, c.loop-i-test.false, c.len.ensures.len, count)) in
    line_last (line moov) (of_kind trak c.loop-i.walk) (c.loop-i.invariant.here ∙ none) c.loop-i.invariant.rest c.loop-i.invariant.put
