-- Each rest of a fragmented stream is read as it says.
use Rattle.std.proofs.Common.{◌≡◌, ◌≢◌, ◌∙◌, ℕ, ◌+◌, ◌-◌, ◌<◌, ◌≤◌, List, [], ◌++◌, length, drop, take, Option, Some, None, ap, sym, refl, subst, arith, length-append}
use Rattle.std.proofs.Math.Seq.{drop-append_seam}
use Rattle.mp4_box.specs.declared.headers.FourCc.{FourCc}
use Rattle.mp4_box.specs.declared.headers.Header.{Header}
use Rattle.mp4_box.specs.declared.headers.Size.{Size}
use Rattle.mp4_box.specs.declared.headers.Size.TheVariants.{Exact, ToEnd}
use Rattle.mp4_box.specs.declared.rules.Rule.{Rule}
use Rattle.mp4_box.specs.declared.rules.Rule.TheVariants.{MdatMissing, StreamTooLong, Truncated}
use Rattle.mp4_box.specs.Headers.{Headed, IsBytes}
use Rattle.mp4_box.proofs.HeaderAnswers.{header-none}
use Rattle.mp4_box.proofs.HeaderLemmas.{IsBytes-drop, is_cut, need-least}
use Rattle.mp4_init.specs.declared.table.Track.{Track}
use Rattle.mp4_traf.specs.Runs.{moof_at}
use Rattle.mp4_machine.specs.Bodies.{cut_off, fault, least_end, longest, at_fault, open_body_item}
use Rattle.mp4_machine.specs.Readings.{CutOff, Faulty, Last, Reading, Sound, Effects, after_effects, requests_memory, counts, then_read}
use Rattle.mp4_machine.proofs.BodyLemmas.{nat_lt_true, nat_lt_false}
use Rattle.mp4_grammar.specs.declared.kinds.Kind.{Kind}
use Rattle.mp4_grammar.specs.declared.kinds.Kind.TheVariants.{Mdat, Moof, Moov, Other}
use Rattle.mp4_grammar.specs.Contexts.{Context}
use Rattle.mp4_grammar.specs.Items.{after_moof, after_moof_by, box_in, inspected, item, item_by, keeping, media_body, moof_box, moov_box, passing, reads_in, second_by, timed_box}
use Rattle.mp4_grammar.specs.Joined.{IsGood, fragment_here, moof_requests, moof_effects, tracks_in}
use Rattle.mp4_grammar.specs.Kinds.{kind_in, moof}
use Rattle.mp4_grammar.specs.Meanings.{Meaning, needed_in}
use Rattle.mp4_grammar.specs.Rests.{BadFragment, BadHeader, BadMoof, BadMoov, AfterMoof, CutInBody, CutInHeader, CutInHeld, CutInMedia, Ended, IsAfterMoof, IsOpen, IsRest, Large, LateMoof, NoMdat, NotMdat, Open, OpenMedia, OpenMediaCut, OpenMediaTooFar, OpenTooFar, OutOfPlace, SecondBadHeader, SecondCutInHeader, SecondTooFar, TooFar, Unsized, ends, media_ends, place_rule, most_here}
use Rattle.mp4_grammar.proofs.ItemLemmas.{item-items}
use Rattle.mp4_grammar.proofs.JoinLemmas.{item-far, item-good, item-in, item-moof, item-moov, keeping-small, reads-front, second-far, second-in, second-mdat}
use Rattle.mp4_grammar.proofs.TakenLemmas.{after-some, item-some}

-- the lengths of a header and what follows it
headed-len : (y : List ℕ) (b : Headed y) → length y ≡ b.header.header_len + length b.more
headed-len y b = omega (arith, ap length b.cut, length-append b.header_bytes b.more, b.spelled.header_len)

-- ---- one to the end of the stream

open-good : (C : Type 0) (emit : List ℕ → Effects) (at : ℕ) (kind : FourCc) (needed left : ℕ) (b : List ℕ) → length b ≤ left → needed ≤ length b → open_body_item {C = C} emit at kind needed left b ≡ Last (ends (emit b) Sound)
open-good C emit at kind needed left b near enough = rw (nat_lt_false left (length b) near, nat_lt_false (length b) needed enough) refl

open-cut : (C : Type 0) (emit : List ℕ → Effects) (at : ℕ) (kind : FourCc) (needed left : ℕ) (b : List ℕ) → length b ≤ left → length b < needed → open_body_item {C = C} emit at kind needed left b ≡ Last (ends (emit b) (CutOff (fault Truncated (Some kind) at)))
open-cut C emit at kind needed left b near short = rw (nat_lt_false left (length b) near, nat_lt_true (length b) needed short) refl

open-far : (C : Type 0) (emit : List ℕ → Effects) (at : ℕ) (kind : FourCc) (needed left : ℕ) (b : List ℕ) → left < length b → open_body_item {C = C} emit at kind needed left b ≡ Last (ends (emit (take left b)) (Faulty (fault StreamTooLong (Some kind) at)))
open-far C emit at kind needed left b far = rw (nat_lt_true left (length b) far) refl

module _ (meaning : Meaning) (c : Context) where
  -- ---- after a sound moof x

  module _ (x z : List ℕ) where
    -- by the header that it begins with
    second-of : (b : Headed z) (kind : Kind) → kind_in b.header.kind.0 ≡ kind → least_end (c.at + length x) b.header b.header.size ≤ longest → after_moof meaning c (tracks_in c) x z ≡ second_by meaning c (tracks_in c) x b.header b.more kind
    second-of b kind is near = ap (after_moof meaning c (tracks_in c) x) b.cut ∙ second-in meaning c x b.header b.header_bytes b.more kind b.spelled is near

    not-mdat : (h : Header) (more : List ℕ) (kind : Kind) → kind ≢ Mdat → second_by meaning c (tracks_in c) x h more kind ≡ Last (at_fault MdatMissing (Some moof) c.at)
    not-mdat h more Moov other = refl
    not-mdat h more Moof other = refl
    not-mdat h more Other other = refl
    not-mdat h more Mdat other = absurd (other refl)

    -- an mdat with which the fragment is good
    good-media : (b : Headed z) (size : Size) → kind_in b.header.kind.0 ≡ Mdat → b.header.size ≡ size → least_end (c.at + length x) b.header size ≤ longest → IsGood meaning c x b.header
        → after_moof meaning c (tracks_in c) x z ≡ after_effects (meaning.accepted (fragment_here c x b.header)) (media_body meaning (fragment_here c x b.header) (c.at + length x) b.header size b.more)
    good-media b size is e near good =
        let near' : least_end (c.at + length x) b.header b.header.size ≤ longest = rw e near in
        ap (after_moof meaning c (tracks_in c) x) b.cut ∙ second-mdat meaning c x b.header b.header_bytes b.more None b.spelled is near' good
        ∙ ap (λ s. after_effects (meaning.accepted (fragment_here c x b.header)) (media_body meaning (fragment_here c x b.header) (c.at + length x) b.header s b.more)) e

    -- one that goes to the end of the stream, by how its bytes are read
    open-media : (b : Headed z) (v : Reading) → IsOpen Mdat b.header → IsGood meaning c x b.header → c.at + length x + b.header.header_len ≤ longest
        → open_body_item {C = Context} (meaning.media (fragment_here c x b.header)) (c.at + length x) b.header.kind (needed_in (fragment_here c x b.header)) (longest - (c.at + length x + b.header.header_len)) b.more ≡ Last v
        → after_moof meaning c (tracks_in c) x z ≡ after_effects (meaning.accepted (fragment_here c x b.header)) (Last v)
    open-media b v (is, size) good near e = good-media b ToEnd is size near good ∙ ap (after_effects (meaning.accepted (fragment_here c x b.header))) e

    none-after : after_moof meaning c (tracks_in c) x [] ≡ Last (cut_off MdatMissing (Some moof) c.at)
    unfolding after_moof
    none-after = refl

    pub after-reads : (r : Reading) → IsBytes z → IsAfterMoof meaning c x z r → after_moof meaning c (tracks_in c) x z ≡ Last r
    after-reads r fits (NoMdat none e) = ap (after_moof meaning c (tracks_in c) x) none ∙ none-after ∙ ap Last (sym e)
    after-reads r fits (SecondCutInHeader some short e) = after-some meaning c (tracks_in c) x z some ∙ ap (after_moof_by meaning c (tracks_in c) x z) (is_cut z short) ∙ ap Last (sym e)
    after-reads r fits (SecondBadHeader whole none e) =
        after-some meaning c (tracks_in c) x z (omega (arith, need-least z, whole)) ∙ ap (after_moof_by meaning c (tracks_in c) x z) (header-none z fits whole none) ∙ ap Last (sym e)
    after-reads r fits (SecondTooFar b far e) = ap (after_moof meaning c (tracks_in c) x) b.cut ∙ second-far meaning c x b.header b.header_bytes b.more b.spelled far ∙ ap Last (sym e)
    after-reads r fits (NotMdat b other near e) = second-of b (kind_in b.header.kind.0) refl near ∙ not-mdat b.header b.more (kind_in b.header.kind.0) other ∙ ap Last (sym e)
    after-reads r fits (BadFragment b f is near bad e) = ap (after_moof meaning c (tracks_in c) x) b.cut ∙ second-mdat meaning c x b.header b.header_bytes b.more (Some f) b.spelled is near bad ∙ ap Last (sym e)
    after-reads r fits (CutInMedia b s (is, size, near) good short e) =
        good-media b (Exact s) is size near good
        ∙ rw (nat_lt_true (length b.more) (s - b.header.header_len) (omega (arith, headed-len z b, short))) refl ∙ ap Last (sym e)
    after-reads r fits (OpenMedia b goes good near enough e) =
        let len = headed-len z b in
        open-media b (ends (meaning.media (fragment_here c x b.header) b.more) Sound) goes good (omega (arith, len, near))
        (open-good Context (meaning.media (fragment_here c x b.header)) (c.at + length x) b.header.kind (needed_in (fragment_here c x b.header)) (longest - (c.at + length x + b.header.header_len)) b.more (omega (arith, len, near)) enough)
        ∙ ap Last (sym e)
    after-reads r fits (OpenMediaCut b goes good near short e) =
        let len = headed-len z b in
        open-media b (ends (meaning.media (fragment_here c x b.header) b.more) (CutOff (fault Truncated (Some b.header.kind) (c.at + length x)))) goes good (omega (arith, len, near))
        (open-cut Context (meaning.media (fragment_here c x b.header)) (c.at + length x) b.header.kind (needed_in (fragment_here c x b.header)) (longest - (c.at + length x + b.header.header_len)) b.more (omega (arith, len, near)) short)
        ∙ ap Last (sym e)
    after-reads r fits (OpenMediaTooFar b goes good near far e) =
        let len = headed-len z b in
        let f = fragment_here c x b.header in
        let at = c.at + length x in
        let spelled = b.spelled.header_len in
        let own : longest - (c.at + length x + b.header.header_len) ≡ longest - (c.at + length x + length b.header_bytes) = omega (arith, spelled) in
        open-media b (ends (meaning.media f (take (longest - (at + b.header.header_len)) b.more)) (Faulty (fault StreamTooLong (Some b.header.kind) at))) goes good (omega (arith, near, spelled))
        (open-far Context (meaning.media f) at b.header.kind (needed_in f) (longest - (at + b.header.header_len)) b.more (omega (arith, len, far, near, spelled)))
        ∙ ap (λ n. Last (media_ends meaning f (take n b.more) (Faulty (fault StreamTooLong (Some b.header.kind) at)))) own ∙ ap Last (sym e)

  -- ---- the rest

  module _ (y : List ℕ) where
    -- by the header that it begins with
    first-of : (b : Headed y) (kind : Kind) (tracks : Option (List Track)) → kind_in b.header.kind.0 ≡ kind → c.tracks ≡ tracks → least_end c.at b.header b.header.size ≤ longest → item meaning c y ≡ box_in meaning c b.header b.header_bytes b.more kind tracks
    first-of b kind tracks is known near = ap (item meaning c) b.cut ∙ item-in meaning c b.header b.header_bytes b.more kind tracks b.spelled is known near

    -- a box that may not be here
    not-here : (h : Header) (header_bytes more : List ℕ) (kind : Kind) (tracks : Option (List Track)) (rule : Rule) → place_rule kind tracks ≡ Some rule → box_in meaning c h header_bytes more kind tracks ≡ Last (at_fault rule (Some h.kind) c.at)
    not-here h header_bytes more Moov None rule e = absurd cc
    not-here h header_bytes more Moov (Some tracks) rule e = ap (λ k. Last (at_fault k (Some h.kind) c.at)) cc
    not-here h header_bytes more Moof None rule e = ap (λ k. Last (at_fault k (Some h.kind) c.at)) cc
    not-here h header_bytes more Moof (Some tracks) rule e = absurd cc
    not-here h header_bytes more Mdat tracks rule e = ap (λ k. Last (at_fault k (Some h.kind) c.at)) cc
    not-here h header_bytes more Other tracks rule e = absurd cc

    -- one that is passed over
    passed-of : (b : Headed y) (size : Size) → kind_in b.header.kind.0 ≡ Other → b.header.size ≡ size → least_end c.at b.header size ≤ longest → item meaning c y ≡ passing meaning c b.header.kind y size
    passed-of b size is e near =
        let near' : least_end c.at b.header b.header.size ≤ longest = rw e near in
        first-of b Other c.tracks is refl near' ∙ ap (λ l. passing meaning c b.header.kind l b.header.size) (sym b.cut) ∙ ap (passing meaning c b.header.kind y) e

    -- one that is held
    held-here : (h : Header) (header_bytes more : List ℕ) (kind : Kind) (tracks : Option (List Track)) (limit : ℕ) → most_here kind tracks ≡ Some limit → box_in meaning c h header_bytes more kind tracks ≡ keeping meaning c h limit (header_bytes ++ more) h.size
    held-here h header_bytes more Moov None limit e = ap (λ n. keeping meaning c h n (header_bytes ++ more) h.size) cc
    held-here h header_bytes more Moov (Some tracks) limit e = absurd cc
    held-here h header_bytes more Moof None limit e = absurd cc
    held-here h header_bytes more Moof (Some tracks) limit e = ap (λ n. keeping meaning c h n (header_bytes ++ more) h.size) cc
    held-here h header_bytes more Mdat tracks limit e = absurd cc
    held-here h header_bytes more Other tracks limit e = absurd cc

    held-of : (b : Headed y) (size : Size) (limit : ℕ) → most_here (kind_in b.header.kind.0) c.tracks ≡ Some limit → b.header.size ≡ size → least_end c.at b.header size ≤ longest → item meaning c y ≡ keeping meaning c b.header limit y b.header.size
    held-of b size limit here e near =
        let near' : least_end c.at b.header b.header.size ≤ longest = rw e near in
        first-of b (kind_in b.header.kind.0) c.tracks refl refl near' ∙ held-here b.header b.header_bytes b.more (kind_in b.header.kind.0) c.tracks limit here ∙ ap (λ l. keeping meaning c b.header limit l b.header.size) (sym b.cut)

    pub item-reads : (r : Reading) → IsBytes y → IsRest meaning c y r → item meaning c y ≡ Last r
    item-reads r fits (Ended none e) = ap (item meaning c) none ∙ (item-items meaning).empty c ∙ ap Last (sym e)
    item-reads r fits (CutInHeader some short e) = item-some meaning c y some ∙ ap (item_by meaning c y) (is_cut y short) ∙ ap Last (sym e)
    item-reads r fits (BadHeader whole none e) = item-some meaning c y (omega (arith, need-least y, whole)) ∙ ap (item_by meaning c y) (header-none y fits whole none) ∙ ap Last (sym e)
    item-reads r fits (TooFar b far e) = ap (item meaning c) b.cut ∙ item-far meaning c b.header b.header_bytes b.more b.spelled far ∙ ap Last (sym e)
    item-reads r fits (OutOfPlace b rule wrong near e) =
        first-of b (kind_in b.header.kind.0) c.tracks refl refl near ∙ not-here b.header b.header_bytes b.more (kind_in b.header.kind.0) c.tracks rule wrong ∙ ap Last (sym e)
    item-reads r fits (CutInBody b s (is, size, near) short e) = passed-of b (Exact s) is size near ∙ rw (nat_lt_true (length y) s short) refl ∙ ap Last (sym e)
    item-reads r fits (Open b (is, size) near e) =
        passed-of b ToEnd is size (omega (arith, headed-len y b, near))
        ∙ open-good Context (meaning.passed b.header.kind) c.at b.header.kind 0 (longest - c.at) y (omega (arith, near)) (omega arith) ∙ ap Last (sym e)
    item-reads r fits (OpenTooFar b (is, size) near far e) =
        passed-of b ToEnd is size (omega (arith, b.spelled.header_len, near))
        ∙ open-far Context (meaning.passed b.header.kind) c.at b.header.kind 0 (longest - c.at) y (omega (arith, far, near)) ∙ ap Last (sym e)
    item-reads r fits (Large b s limit (here, size, near) large e) =
        held-of b (Exact s) limit here size near ∙ ap (keeping meaning c b.header limit y) size ∙ rw (nat_lt_true limit s large) refl ∙ ap Last (sym e)
    item-reads r fits (Unsized b limit here size near e) =
        held-of b ToEnd limit here size (omega (arith, b.spelled.header_len, near)) ∙ ap (keeping meaning c b.header limit y) size ∙ ap Last (sym e)
    item-reads r fits (CutInHeld b s limit (here, size, near) small short e) =
        held-of b (Exact s) limit here size near ∙ keeping-small meaning c b.header limit s y size small ∙ rw (nat_lt_true (length y) s short) refl ∙ ap Last (sym e)
    item-reads r fits (BadMoov b f here near bad e) =
        ap (item meaning c) b.cut ∙ item-moov meaning c b.box b.more here near
        ∙ ap (λ g. after_effects (requests_memory c.at (length b.box.bytes)) (moov_box meaning c b.box.bytes b.more g)) bad ∙ ap Last (sym e)
    item-reads r fits (BadMoof b f here near bad e) =
        ap (item meaning c) b.cut ∙ item-moof meaning c b.box b.more here near
        ∙ ap (λ g. after_effects (moof_requests c b.box.bytes) (moof_box meaning c (tracks_in c) b.box.bytes b.more g)) bad ∙ ap Last (sym e)
    item-reads r fits (LateMoof b f here near good late e) =
        let x = b.box.bytes in
        ap (item meaning c) b.cut ∙ item-moof meaning c b.box b.more here near
        ∙ ap (λ g. after_effects (moof_requests c x) (moof_box meaning c (tracks_in c) x b.more g)) good
        ∙ ap (λ g. after_effects (moof_requests c x) (after_effects (counts (inspected (moof_at x c.at))) (timed_box meaning c (tracks_in c) x b.more g))) late ∙ ap Last (sym e)
    item-reads r fits (AfterMoof b s here near good after_moof e) =
        let rest : b.more ≡ drop (length b.box.bytes) y = sym (drop-append_seam b.box.bytes b.more) ∙ ap (drop (length b.box.bytes)) (sym b.cut) in
        ap (item meaning c) b.cut ∙ item-good meaning c b.box b.more here good near
        ∙ ap (after_effects (moof_effects c b.box.bytes)) (after-reads b.box.bytes b.more s (subst IsBytes (sym rest) (IsBytes-drop (length b.box.bytes) y fits)) after_moof) ∙ ap Last (sym e)

    pub rest-reads : (r : Reading) → IsBytes y → IsRest meaning c y r → reads_in meaning c y ≡ r
    rest-reads r fits is = reads-front meaning c y ∙ ap (λ v. then_read (reads_in meaning) v) (item-reads r fits is)
