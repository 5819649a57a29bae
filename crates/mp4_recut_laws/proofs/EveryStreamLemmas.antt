-- Each stream without a fault is whole items and an ending.
use Rattle.std.proofs.Common.{◌≡◌, ◌∙◌, ℕ, ◌+◌, ◌≤◌, ◌^◌, List, ◌++◌, length, length-append, refl, sym, ap, arith, subst}
use Rattle.mp4_box.specs.Headers.{IsBytes}
use Rattle.mp4_box.specs.declared.rules.Fault.{Fault}
use Rattle.mp4_pieces.specs.declared.cut.Cut.{Cut}
use Rattle.mp4_machine.specs.Readings.{CutOff, Faulty, Reading, Sound}
use Rattle.mp4_grammar.specs.Contexts.{Context, first_context}
use Rattle.mp4_grammar.specs.Joined.{IsMoofHere, context_after_all, joined, tracks_in}
use Rattle.mp4_grammar.specs.Meanings.{Meaning}
use Rattle.mp4_frag.specs.Moofs.{IsRead}
use Rattle.mp4_traf.specs.Runs.{moof_at}
use Rattle.mp4_grammar.specs.Rests.{Boxed, IsAfterMoof, IsRest, NoMdat, SecondCutInHeader, SecondBadHeader, SecondTooFar, NotMdat, BadFragment, CutInMedia, OpenMedia, OpenMediaCut, OpenMediaTooFar, Ended, CutInHeader, BadHeader, TooFar, OutOfPlace, CutInBody, Open, OpenTooFar, Large, Unsized, CutInHeld, BadMoov, BadMoof, LateMoof, AfterMoof}
use Rattle.mp4_grammar.proofs.SplitLemmas.{every-stream}
use Rattle.mp4_recut.specs.Splitting.{reading, splitting}
use Rattle.mp4_recut_laws.specs.Streams.{Ending, IsSoundEnding, IsSoundStream, NothingMore, OpenBox, OpenFragment, Stream, ending_bytes, stream_bytes}
use Rattle.mp4_recut_laws.proofs.StreamLemmas.{after_at}

record Found (meaning : Meaning) (c : Context) (y : List ℕ) : Type 0 where
  ending : Ending
  is : IsSoundEnding meaning c ending
  bytes : ending_bytes ending ≡ y
  near : c.at + length y ≤ 2 ^ 62

not_sound : {X : Type 0} (r s : Reading) (f : Fault) → r ≡ s → s.outcome ≡ Faulty f → r.outcome ≡ Sound → X
not_sound r s f e w h = absurd cc

not_whole : {X : Type 0} (r s : Reading) (f : Fault) → r ≡ s → s.outcome ≡ CutOff f → r.outcome ≡ Sound → X
not_whole r s f e w h = absurd cc

same_more : (a b c d e : List ℕ) → e ≡ a ++ b → b ≡ c ++ d → a ++ (c ++ d) ≡ e
same_more a b c d e p q = ap (λ (x : List ℕ). a ++ x) (sym q) ∙ sym p

after : (meaning : Meaning) (c : Context) (y : List ℕ) (b : Boxed y) (r : Reading) → IsMoofHere c b.box → IsRead (moof_at b.box.bytes c.at) (tracks_in c) → IsAfterMoof meaning c b.box.bytes b.more r → r.outcome ≡ Sound → Found meaning c y
after meaning c y b r here read (NoMdat n e) h = not_whole r _ _ e refl h
after meaning c y b r here read (SecondCutInHeader n m e) h = not_whole r _ _ e refl h
after meaning c y b r here read (SecondBadHeader n m e) h = not_sound r _ _ e refl h
after meaning c y b r here read (SecondTooFar z n e) h = not_sound r _ _ e refl h
after meaning c y b r here read (NotMdat z n m e) h = not_sound r _ _ e refl h
after meaning c y b r here read (BadFragment z f k n m e) h = not_sound r _ _ e refl h
after meaning c y b r here read (CutInMedia z s k g n e) h = not_whole r _ _ e refl h
after meaning c y b r here read (OpenMedia z k g n m e) h = record {
  ending = OpenFragment b.box z.header z.header_bytes z.more;
  is = (z.spelled, k, here, read, g, m);
  bytes = same_more b.box.bytes b.more z.header_bytes z.more y b.cut z.cut;
  near = omega (arith, n, ap length b.cut, length-append b.box.bytes b.more);
}
after meaning c y b r here read (OpenMediaCut z k g n m e) h = not_whole r _ _ e refl h
after meaning c y b r here read (OpenMediaTooFar z k g n m e) h = not_sound r _ _ e refl h

rest : (meaning : Meaning) (c : Context) (y : List ℕ) (r : Reading) → c.at ≤ 2 ^ 62 → IsRest meaning c y r → r.outcome ≡ Sound → Found meaning c y
rest meaning c y r low (Ended n e) h = record { ending = NothingMore; is = tt; bytes = sym n; near = omega (arith, low, ap length n) }
rest meaning c y r low (CutInHeader n m e) h = not_whole r _ _ e refl h
rest meaning c y r low (BadHeader n m e) h = not_sound r _ _ e refl h
rest meaning c y r low (TooFar b n e) h = not_sound r _ _ e refl h
rest meaning c y r low (OutOfPlace b rule n m e) h = not_sound r _ _ e refl h
rest meaning c y r low (CutInBody b s k n e) h = not_whole r _ _ e refl h
rest meaning c y r low (Open b k n e) h = record { ending = OpenBox b.header b.header_bytes b.more; is = (b.spelled, k); bytes = sym b.cut; near = n }
rest meaning c y r low (OpenTooFar b k n m e) h = not_sound r _ _ e refl h
rest meaning c y r low (Large b s limit k n e) h = not_sound r _ _ e refl h
rest meaning c y r low (Unsized b limit k o n e) h = not_sound r _ _ e refl h
rest meaning c y r low (CutInHeld b s limit k n m e) h = not_whole r _ _ e refl h
rest meaning c y r low (BadMoov b f k n m e) h = not_sound r _ _ e refl h
rest meaning c y r low (BadMoof b f k n m e) h = not_sound r _ _ e refl h
rest meaning c y r low (LateMoof b f k n m o e) h = not_sound r _ _ e refl h
rest meaning c y r low (AfterMoof b s k n read more e) h = after meaning c y b s k read more (ap (λ (x : Reading). x.outcome) (sym e) ∙ h)

pub every_sound_stream : (cut : Cut) (b : List ℕ) → IsBytes b → (reading cut b).outcome ≡ Sound → (s : Stream) × IsSoundStream cut s × (stream_bytes s ≡ b)
every_sound_stream cut b moof_bytes h =
    let meaning = splitting cut in
    let split = every-stream meaning b moof_bytes in
    let p = split.0 in
    let c = context_after_all meaning first_context p.items in
    let at = after_at meaning first_context p.items in
    let found = rest meaning c p.rest p.reading (omega (arith, p.near, at)) p.is (ap (λ (x : Reading). x.outcome) (sym split.1) ∙ h) in
    let same : joined p.items ++ ending_bytes found.ending ≡ b = ap (λ (x : List ℕ). joined p.items ++ x) found.bytes ∙ sym p.cut in
    let s : Stream = record { items = p.items; ending = found.ending } in
    (s, record { sound = p.sound; ending = found.is; bytes = subst IsBytes (sym same) moof_bytes; near = omega (arith, found.near, at, ap length found.bytes, length-append (joined p.items) (ending_bytes found.ending)) }, same)
