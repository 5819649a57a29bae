use Rattle.std.proofs.Common.{◌≡◌, ◌++◌, ◌∙◌, ℕ, Bool, List, [], ◌∷◌, ap, append_assoc, map, sym, take, true, false}
use Rattle.mp4_box.specs.Fields.{number_in}
use Rattle.mp4_box.specs.Trees.{Box, view}
use Rattle.mp4_box.specs.declared.headers.FourCc.{FourCc}
use Rattle.mp4_machine.proofs.PutLemmas.{HasFailed-front, HasFailed-then, HasPut-none, HasPut-then, Puts-then}
use Rattle.mp4_grammar.specs.TrackLines.{comma, kinds_in, none_text, types_text, word}
use Rattle.mp4_fragment_machine.proofs.mdat.track_lines.put_entries.Goals as goal

abbrev kinds : ℕ → List Box → List FourCc
kinds n bs = take n (map (λ (b : Box). b.header.kind) bs)

-- the first type was put
one_put : (first : Bool) (k : FourCc) (ks all : List FourCc) (text whole : List ℕ) → all ≡ k ∷ ks → text ++ types_text first all ≡ whole → (text ++ (comma first ++ word k)) ++ types_text false ks ≡ whole
unfolding types_text
one_put first k ks all text whole is rest = append_assoc text (comma first ++ word k) (types_text false ks) ∙ (ap (λ l. text ++ types_text first l) (sym is) ∙ rest)

-- there was none left
end_put : (first : Bool) (all : List FourCc) (text whole : List ℕ) → all ≡ [] → text ++ types_text first all ≡ whole → text ++ none_text first ≡ whole
unfolding types_text
end_put first all text whole none rest = ap (λ l. text ++ types_text first l) (sym none) ∙ rest

pub loop-kind-init : goal.loop-kind-init
loop-kind-init g c = record {
  text = [];
  put = HasPut-none _ _ _;
  rest = ap (λ n. types_text true (kinds n c.entries_of-entries.result)) c.number_at-left.ensures ∙ ap (λ bs. types_text true (kinds (number_in c.args.stsd.now.payload.now 4) bs)) c.entries_of-entries.ensures;
}

pub returns-in_default : goal.returns-in_default
returns-in_default g c =
    let all = kinds c.loop-kind.left c.loop-kind.entries in
    let whole = types_text true (kinds_in (view c.args.stsd.now)) in
    let text = c.loop-kind.invariant.text in
    let none : all ≡ [] = c.in_default.ensures.steps ∙ c.next_kind.ensures.none c.in_default.is in
    Puts-then c.loop-kind.invariant.put _ _ _ (none_text c.loop-kind.is_first) whole (end_put c.loop-kind.is_first all text whole none c.loop-kind.invariant.rest) c.put_end.result c.put_end.ensures

pub returns-in-Err : goal.returns-in-Err
returns-in-Err g c =
    let whole = types_text true (kinds_in (view c.args.stsd.now)) in
    let text = c.loop-kind.invariant.text in
    let ks = kinds c.next_kind.new.left c.next_kind.new.entries in
    HasFailed-front (text ++ (comma c.loop-kind.is_first ++ word c.in-Some.kind)) (types_text false ks) whole
    (one_put c.loop-kind.is_first c.in-Some.kind ks (kinds c.loop-kind.left c.loop-kind.entries) text whole c.in-Some.ensures.steps c.loop-kind.invariant.rest)
    (HasFailed-then c.loop-kind.invariant.put c.in-Err.ensures.puts)

pub loop-kind-preserved : goal.loop-kind-preserved
loop-kind-preserved g c =
    let whole = types_text true (kinds_in (view c.args.stsd.now)) in
    let text = c.loop-kind.invariant.text in
    let ks = kinds c.next_kind.new.left c.next_kind.new.entries in
    record {
      text = text ++ (comma c.loop-kind.is_first ++ word c.in-Some.kind);
      put = HasPut-then c.loop-kind.invariant.put c.in-Ok.ensures.puts;
      rest = one_put c.loop-kind.is_first c.in-Some.kind ks (kinds c.loop-kind.left c.loop-kind.entries) text whole c.in-Some.ensures.steps c.loop-kind.invariant.rest;
    }
