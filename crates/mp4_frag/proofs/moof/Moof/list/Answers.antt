use Rattle.std.proofs.Common.{◌≡◌, ◌∙◌, ◌*◌, ◌++◌, ℕ, List, [], ◌∷◌, length, ap, arith, rules, subst, sym}
use Rattle.std.specs.List.{fold}
use Rattle.std.specs.List.Sorted.{IsPermutation}
use Rattle.std.proofs.lemmas.List.Sorted.{IsNonDecreasingBy-from_sort_by_key, IsPermutation-trans}
use Rattle.mp4_box.specs.Paths.{at_path}
use Rattle.mp4_box.specs.Trees.{Box, view}
use Rattle.mp4_ledger.specs.Memory.{Rows, claimed, overwritten}
use Rattle.mp4_ledger.specs.declared.ledger.Refused.TheVariants.{OverLimit}
use Rattle.mp4_frag.specs.declared.run_list.RunList.{RunList as RowList}
use Rattle.mp4_traf.specs.Kinds.{to_trun, traf}
use Rattle.mp4_run_order.specs.declared.track_search.TrackSearch.{TrackSearch}
use Rattle.mp4_run_order.specs.Implementation.Searches.{found_by_track, track_step}
use Rattle.mp4_frag.specs.Moofs.{IsRead, moof_runs, moof_truns}
use Rattle.mp4_frag.specs.Implementation.ListedRows.{IsFaultyByTrack, IsSorted}
use Rattle.mp4_frag.specs.Implementation.RunRows.{listed_words, place_word, rows_of_trafs, rows_of_words, track_word}
use Rattle.mp4_frag.specs.ListsOfRuns.{IsListOf}
use Rattle.mp4_traf.specs.Runs.{MoofBytes}
use Rattle.mp4_frag.proofs.MoofListLemmas.{IsMoof, claim_is, claimed_so, filled, is_moof, known, length_filled, put_in, refused_so, room_for, sound_trafs, viewed_moof}
use Rattle.mp4_frag.proofs.RunListLemmas.{length_rows, list_is, overwritten_all}
use Rattle.mp4_frag.proofs.moof.Moof.list.Goals as goal

-- so many truns has the moof
counted : (h : MoofBytes) (m : Box) (n : ℕ) → IsMoof h m → n ≡ moof_truns h → n ≡ length (at_path to_trun m)
counted h m n f e = e ∙ ap (λ (b : Box). length (at_path to_trun b)) f.is

pub returns-in-Err-clause-over_limit : goal.returns-in-Err-clause-over_limit
returns-in-Err-clause-over_limit c =
    let h : MoofBytes = c.args.self.now in
    let m = view c.whole_box-moof.result in
    let f = viewed_moof h c.self.inside.offset c.self.inside.moof_bytes.now m c.self.view_is c.self.invariant.0 c.self.invariant.4 c.self.invariant.1 c.whole_box-moof.ensures in
    let n = claim_is h c.args.tracks.now m c.truns_len.result f (counted h m c.truns_len.result f c.truns_len.ensures) in
    refused_so Rows RowList c.in-Err.refused OverLimit c.truns_len.result (length (moof_runs h c.args.tracks.now)) c.args.ledger.now.limit c.args.ledger.now.live n c.in-Err.ensures.over_limit

pub fill-requires-clause-room : goal.fill-requires-clause-room
fill-requires-clause-room c =
    let h : MoofBytes = record { bytes = c.self.inside.moof_bytes.now; offset = c.self.inside.offset } in
    let m = view c.whole_box-moof.result in
    let f = is_moof c.self.inside.offset c.self.inside.moof_bytes.now m c.self.invariant.0 c.self.invariant.4 c.self.invariant.1 c.whole_box-moof.ensures in
    let none = ap (λ (t : Rows). length t.rows) c.in-Ok.ensures.empty in
    let cap = ap (λ (t : Rows). t.cap) c.in-Ok.ensures.empty in
    omega (arith, none, cap, (counted h m c.truns_len.result f (c.truns_len.ensures ∙ ap moof_truns (sym c.self.view_is))), room_for h c.args.tracks.now m)

pub fill-requires-clause-sound : goal.fill-requires-clause-sound
fill-requires-clause-sound c =
    let h : MoofBytes = record { bytes = c.self.inside.moof_bytes.now; offset = c.self.inside.offset } in
    let m = view c.whole_box-moof.result in
    let f = is_moof c.self.inside.offset c.self.inside.moof_bytes.now m c.self.invariant.0 c.self.invariant.4 c.self.invariant.1 c.whole_box-moof.ensures in
    sound_trafs h c.args.tracks.now m f (subst (λ (h : MoofBytes). IsRead h c.args.tracks.now) (sym c.self.view_is) c.requires.read)

pub invariant_of-result : goal.invariant_of-result
invariant_of-result c =
    let h : MoofBytes = c.args.self.now in
    let m = view c.whole_box-moof.result in
    let f = viewed_moof h c.self.inside.offset c.self.inside.moof_bytes.now m c.self.view_is c.self.invariant.0 c.self.invariant.4 c.self.invariant.1 c.whole_box-moof.ensures in
    let rows = put_in c.in-Ok.rows.rows c.fill.new.rows.rows (rows_of_trafs h c.args.tracks.now (at_path (traf ∷ []) m)) (ap (λ (t : Rows). t.rows) c.in-Ok.ensures.empty)
    (c.fill.ensures.rows ∙ ap (λ (h : MoofBytes). rows_of_words c.in-Ok.rows.rows ++ rows_of_trafs h c.args.tracks.now (at_path (traf ∷ []) m)) c.self.view_is) in
    let over = overwritten_all c.all_mut-2.result.now c.sort_unstable_by_key-2.new.self c.sort_unstable_by_key-2.ensures.len in
    let by_track = overwritten_all c.all_mut.result.now c.sort_unstable_by_key.new.self c.sort_unstable_by_key.ensures.len in
    let len = length_filled h c.args.tracks.now m c.fill.new.rows.rows rows in
    let cap = ap (λ (t : Rows). t.cap) c.in-Ok.ensures.empty in
    omega (arith, len, cap, (counted h m c.truns_len.result f c.truns_len.ensures), c.fill.ensures.cap, ap length c.all_mut.ensures.value, c.sort_unstable_by_key.ensures.len, ap length by_track, ap length c.all_mut-2.ensures.value, c.sort_unstable_by_key-2.ensures.len, ap length over)

pub returns-clause-list : goal.returns-clause-list
returns-clause-list c =
    let h : MoofBytes = c.args.self.now in
    let m = view c.whole_box-moof.result in
    let f = viewed_moof h c.self.inside.offset c.self.inside.moof_bytes.now m c.self.view_is c.self.invariant.0 c.self.invariant.4 c.self.invariant.1 c.whole_box-moof.ensures in
    let rows = put_in c.in-Ok.rows.rows c.fill.new.rows.rows (rows_of_trafs h c.args.tracks.now (at_path (traf ∷ []) m)) (ap (λ (t : Rows). t.rows) c.in-Ok.ensures.empty)
    (c.fill.ensures.rows ∙ ap (λ (h : MoofBytes). rows_of_words c.in-Ok.rows.rows ++ rows_of_trafs h c.args.tracks.now (at_path (traf ∷ []) m)) c.self.view_is) in
    let over = overwritten_all c.all_mut-2.result.now c.sort_unstable_by_key-2.new.self c.sort_unstable_by_key-2.ensures.len in
    let by_track = overwritten_all c.all_mut.result.now c.sort_unstable_by_key.new.self c.sort_unstable_by_key.ensures.len in
    let g = filled h c.args.tracks.now m c.fill.new.rows.rows f rows in
    let first = subst (λ (ws : List (List ℕ)). IsPermutation ws c.sort_unstable_by_key.new.self) c.all_mut.ensures.value c.sort_unstable_by_key.ensures.permutation in
    let second = subst (λ (ws : List (List ℕ)). IsPermutation ws c.sort_unstable_by_key-2.new.self) (c.all_mut-2.ensures.value ∙ by_track) c.sort_unstable_by_key-2.ensures.permutation in
    let faulty : IsFaultyByTrack c.fill.new.rows.rows c.loop-run.search.offender = record {
      sorted = c.sort_unstable_by_key.new.self;
      same = first;
      up = IsNonDecreasingBy-from_sort_by_key track_word _ c.sort_unstable_by_key.ensures.sorted (λ a r q k. search rules);
      is =
          ap (λ (s : TrackSearch). s.offender) (ap (fold track_step c.loop-run.search) (sym c.in-None.ensures.steps.0) ∙ c.loop-run.invariant.left)
          ∙ ap found_by_track (c.into_iter-run-iterator.ensures.into_iter_gives ∙ c.runs_of-run-items.ensures ∙ ap listed_words by_track);
    } in
    let sorted : IsSorted c.fill.new.rows.rows c.sort_unstable_by_key-2.new.self = record {
      same = IsPermutation-trans c.fill.new.rows.rows c.sort_unstable_by_key.new.self c.sort_unstable_by_key-2.new.self first second;
      up = IsNonDecreasingBy-from_sort_by_key place_word _ c.sort_unstable_by_key-2.ensures.sorted (λ a r q k. search rules);
    } in
    subst (λ (ws : List (List ℕ)). IsListOf h c.args.tracks.now (record { rows = rows_of_words ws; faulty_by_track = c.loop-run.search.offender })) (sym over)
    (list_is h c.args.tracks.now c.fill.new.rows.rows c.sort_unstable_by_key-2.new.self c.loop-run.search.offender (known h c.args.tracks.now m c.fill.new.rows.rows f g c.fill.ensures.fits) g faulty sorted)

pub returns-clause-len : goal.returns-clause-len
returns-clause-len c =
    let h : MoofBytes = c.args.self.now in
    let m = view c.whole_box-moof.result in
    let f = viewed_moof h c.self.inside.offset c.self.inside.moof_bytes.now m c.self.view_is c.self.invariant.0 c.self.invariant.4 c.self.invariant.1 c.whole_box-moof.ensures in
    let rows = put_in c.in-Ok.rows.rows c.fill.new.rows.rows (rows_of_trafs h c.args.tracks.now (at_path (traf ∷ []) m)) (ap (λ (t : Rows). t.rows) c.in-Ok.ensures.empty)
    (c.fill.ensures.rows ∙ ap (λ (h : MoofBytes). rows_of_words c.in-Ok.rows.rows ++ rows_of_trafs h c.args.tracks.now (at_path (traf ∷ []) m)) c.self.view_is) in
    let over = overwritten_all c.all_mut-2.result.now c.sort_unstable_by_key-2.new.self c.sort_unstable_by_key-2.ensures.len in
    let by_track = overwritten_all c.all_mut.result.now c.sort_unstable_by_key.new.self c.sort_unstable_by_key.ensures.len in
    let len = length_filled h c.args.tracks.now m c.fill.new.rows.rows rows in
    omega (arith, len, length_rows (overwritten c.all_mut-2.result.now c.sort_unstable_by_key-2.new.self), ap length c.all_mut.ensures.value, c.sort_unstable_by_key.ensures.len, ap length by_track, ap length c.all_mut-2.ensures.value, c.sort_unstable_by_key-2.ensures.len, ap length over, claim_is h c.args.tracks.now m (length c.fill.new.rows.rows) f len)

pub returns-clause-ok : goal.returns-clause-ok
returns-clause-ok c =
    let h : MoofBytes = c.args.self.now in
    let m = view c.whole_box-moof.result in
    let f = viewed_moof h c.self.inside.offset c.self.inside.moof_bytes.now m c.self.view_is c.self.invariant.0 c.self.invariant.4 c.self.invariant.1 c.whole_box-moof.ensures in
    let n = claim_is h c.args.tracks.now m c.truns_len.result f (counted h m c.truns_len.result f c.truns_len.ensures) in
    c.in-Ok.ensures.ok ∙ ap (λ (n : ℕ). claimed c.args.ledger.now (64 * n)) n

pub returns-clause-over_limit : goal.returns-clause-over_limit
returns-clause-over_limit c =
    let h : MoofBytes = c.args.self.now in
    let m = view c.whole_box-moof.result in
    let f = viewed_moof h c.self.inside.offset c.self.inside.moof_bytes.now m c.self.view_is c.self.invariant.0 c.self.invariant.4 c.self.invariant.1 c.whole_box-moof.ensures in
    let n = claim_is h c.args.tracks.now m c.truns_len.result f (counted h m c.truns_len.result f c.truns_len.ensures) in
    claimed_so c.in-Ok.rows _ OverLimit c.truns_len.result (length (moof_runs h c.args.tracks.now)) c.args.ledger.now.limit c.args.ledger.now.live n c.in-Ok.ensures.over_limit
