-- The header of the box after a moof.
use Rattle.std.proofs.Common.{◌≡◌, ◌∙◌, ℕ, ◌+◌, ◌<◌, ◌≤◌, List, [], ◌∷◌, ◌++◌, length, drop, None, Some, ap, sym, refl, arith, length-append, subst}
use Rattle.std.proofs.Math.Seq.{drop-append_seam}
use Rattle.mp4_box.specs.declared.headers.Header.{Header}
use Rattle.mp4_box.specs.declared.headers.Size.{Size}
use Rattle.mp4_box.specs.declared.headers.Size.TheVariants.{Exact, ToEnd}
use Rattle.mp4_box.specs.declared.headers.Step.{Step}
use Rattle.mp4_box.specs.declared.headers.Step.TheVariants as steps
use Rattle.mp4_box.specs.declared.rules.Fault.{Fault}
use Rattle.mp4_box.specs.declared.rules.Rule.TheVariants.{Truncated, BadSize, MdatMissing, StreamTooLong}
use Rattle.mp4_box.specs.Headers.{HasRoom, need, header_at, kind_of}
use Rattle.mp4_box.proofs.HeaderLemmas.{header_at-append, whole_is, need-least, is_cut}
use Rattle.mp4_init.specs.declared.table.Track.{Track}
use Rattle.mp4_machine.specs.Bodies.{longest, fault, at_fault, cut_off, least_end}
use Rattle.mp4_machine.specs.Readings.{Last, after_effects}
use Rattle.mp4_machine.proofs.BodyLemmas.{nat_lt_true, nat_lt_false}
use Rattle.mp4_machine.proofs.HeadLemmas.{kind_of-append}
use Rattle.mp4_grammar.specs.declared.kinds.Kind.{Kind}
use Rattle.mp4_grammar.specs.declared.kinds.Kind.TheVariants.{Moov, Moof, Mdat, Other}
use Rattle.mp4_grammar.specs.Contexts.{Context}
use Rattle.std.specs.Option.{option_or}
use Rattle.mp4_run_order.specs.declared.runs.Payload.{Payload}
use Rattle.mp4_frag.specs.Moofs.{moof_runs}
use Rattle.mp4_frag.specs.Places.{place_fault}
use Rattle.mp4_grammar.specs.Items.{after_moof, after_moof_by, end_of, faulty, fragment, mdat_by, media_body, second, second_by}
use Rattle.mp4_grammar.specs.Kinds.{kind_in, moof}
use Rattle.mp4_grammar.specs.Meanings.{Fragment, Meaning, fragment_fault}

module _ (meaning : Meaning) (c : Context) (tracks : List Track) (m : List ℕ) where
  after-some : (x : List ℕ) → 0 < length x → after_moof meaning c tracks m x ≡ after_moof_by meaning c tracks m x (header_at x)
  unfolding after_moof
  after-some [] h = absurd (omega arith)
  after-some (b ∷ x) h = refl

  after-header : (x later : List ℕ) (s : Step) → length x ≡ need x → header_at x ≡ s → after_moof meaning c tracks m (x ++ later) ≡ after_moof_by meaning c tracks m (x ++ later) s
  after-header x later s len e =
      after-some (x ++ later) (omega (arith, need-least x, length-append x later)) ∙ ap (after_moof_by meaning c tracks m (x ++ later)) (header_at-append x later (omega arith) ∙ e)

  after-whole : (x later : List ℕ) (h : Header) → length x ≡ need x → header_at x ≡ steps.Whole h → after_moof meaning c tracks m (x ++ later) ≡ second meaning c tracks m h later
  after-whole x later h len e =
      let w = whole_is x h e in
      let same : h.header_len ≡ length x = omega (arith, w.1) in
      after-header x later (steps.Whole h) len e ∙ ap (second meaning c tracks m h) (ap (λ n. drop n (x ++ later)) same ∙ drop-append_seam x later)

  pub after-bad : (x later : List ℕ) → length x ≡ need x → header_at x ≡ steps.BadSize → after_moof meaning c tracks m (x ++ later) ≡ Last (at_fault BadSize (kind_of x) (c.at + length m))
  after-bad x later len e = after-header x later steps.BadSize len e ∙ ap (λ k. Last (at_fault BadSize k (c.at + length m))) (kind_of-append x later (omega (arith, need-least x)))

  pub after-more : (x : List ℕ) → 0 < length x → length x < need x → after_moof meaning c tracks m x ≡ Last (cut_off Truncated (kind_of x) (c.at + length m))
  after-more x some short = after-some x some ∙ ap (after_moof_by meaning c tracks m x) (is_cut x short)

  pub after-none : after_moof meaning c tracks m [] ≡ Last (cut_off MdatMissing (Some moof) c.at)
  unfolding after_moof
  after-none = refl

  module _ (h : Header) (x : List ℕ) (len : length x ≡ need x) (is : header_at x ≡ steps.Whole h) (later : List ℕ) where
    pub second-far : longest < least_end (c.at + length m) h h.size → after_moof meaning c tracks m (x ++ later) ≡ faulty (fault StreamTooLong (Some h.kind) (c.at + length m))
    second-far far = after-whole x later h len is ∙ rw (nat_lt_true longest (least_end (c.at + length m) h h.size) far) refl

    second-near : (k : Kind) → least_end (c.at + length m) h h.size ≤ longest → kind_in h.kind.0 ≡ k → after_moof meaning c tracks m (x ++ later) ≡ second_by meaning c tracks m h later k
    second-near k near e = after-whole x later h len is ∙ rw (nat_lt_false longest (least_end (c.at + length m) h h.size) near) (ap (second_by meaning c tracks m h later) e)

    missing : (k : Kind) → (k ≡ Mdat → ⊥) → second_by meaning c tracks m h later k ≡ faulty (fault MdatMissing (Some moof) c.at)
    missing Moov other = refl
    missing Moof other = refl
    missing Other other = refl
    missing Mdat other = absurd (other refl)

    pub second-missing : least_end (c.at + length m) h h.size ≤ longest → (kind_in h.kind.0 ≡ Mdat → ⊥) → after_moof meaning c tracks m (x ++ later) ≡ faulty (fault MdatMissing (Some moof) c.at)
    second-missing near other = second-near (kind_in h.kind.0) near refl ∙ missing (kind_in h.kind.0) other

    pub second-misplaced : (f : Fault) → least_end (c.at + length m) h h.size ≤ longest → kind_in h.kind.0 ≡ Mdat → fragment_fault meaning (fragment c tracks m h) ≡ Some f → after_moof meaning c tracks m (x ++ later) ≡ faulty f
    second-misplaced f near mdat bad = second-near Mdat near mdat ∙ ap (mdat_by meaning (fragment c tracks m h) (c.at + length m) h later) bad

    pub second-accepted : least_end (c.at + length m) h h.size ≤ longest → kind_in h.kind.0 ≡ Mdat → fragment_fault meaning (fragment c tracks m h) ≡ None
        → after_moof meaning c tracks m (x ++ later) ≡ after_effects (meaning.accepted (fragment c tracks m h)) (media_body meaning (fragment c tracks m h) (c.at + length m) h h.size later)
    second-accepted near mdat good = second-near Mdat near mdat ∙ ap (mdat_by meaning (fragment c tracks m h) (c.at + length m) h later) good

-- the same, where the box begins at `next`
module _ (meaning : Meaning) (c : Context) (tracks : List Track) (m : List ℕ) (next : ℕ) (same : next ≡ c.at + length m) (h : Header) (x : List ℕ) (len : length x ≡ need x) (is : header_at x ≡ steps.Whole h) (later : List ℕ) where
  pub far-after : longest < least_end next h h.size → after_moof meaning c tracks m (x ++ later) ≡ faulty (fault StreamTooLong (Some h.kind) next)
  far-after far = second-far meaning c tracks m h x len is later (subst (λ n. longest < least_end n h h.size) same far) ∙ ap (λ n. faulty (fault StreamTooLong (Some h.kind) n)) (sym same)

  near-after : least_end next h h.size ≤ longest → least_end (c.at + length m) h h.size ≤ longest
  near-after near = subst (λ n. least_end n h h.size ≤ longest) same near

  pub missing-after : least_end next h h.size ≤ longest → (kind_in h.kind.0 ≡ Mdat → ⊥) → after_moof meaning c tracks m (x ++ later) ≡ faulty (fault MdatMissing (Some moof) c.at)
  missing-after near other = second-missing meaning c tracks m h x len is later (near-after near) other

  pub misplaced-after : (f : Fault) → least_end next h h.size ≤ longest → kind_in h.kind.0 ≡ Mdat → fragment_fault meaning (fragment c tracks m h) ≡ Some f → after_moof meaning c tracks m (x ++ later) ≡ faulty f
  misplaced-after f near mdat bad = second-misplaced meaning c tracks m h x len is later f (near-after near) mdat bad

-- a box that doesn't go too far has a header that doesn't
pub head-end : (at : ℕ) (h : Header) (size : Size) → HasRoom size h.header_len → least_end at h size ≤ longest → at + h.header_len ≤ longest
head-end at h (Exact s) room near = omega (arith, room, near)
head-end at h ToEnd room near = near

-- the payload of an mdat after a moof
pub payload-of : (p : Payload) (c : Context) (tracks : List Track) (m : List ℕ) (next : ℕ) (h : Header) → next ≡ c.at + length m → p.start ≡ next + h.header_len → p.end ≡ end_of next h.size → p ≡ (fragment c tracks m h).payload
payload-of p c tracks m next h same start end =
    ap (λ n. record { start = n; end = p.end }) (start ∙ ap (λ n. n + h.header_len) same) ∙ ap (λ e. record { start = c.at + length m + h.header_len; end = e }) (end ∙ ap (λ n. end_of n h.size) same)

-- a run that may not lie where it does is at fault
pub misplaced-run : (meaning : Meaning) (p : Payload) (f : Fragment) (g : Fault) → p ≡ f.payload → place_fault p (moof_runs f.moof f.tracks) ≡ Some g → fragment_fault meaning f ≡ Some g
misplaced-run meaning p f g same bad = ap (λ r. option_or r (meaning.refuses f)) (ap (λ q. place_fault q (moof_runs f.moof f.tracks)) (sym same) ∙ bad)
