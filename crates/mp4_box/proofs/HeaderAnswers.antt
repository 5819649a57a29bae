-- What a reader of headers answers, by the headers that are spelled.
use Rattle.std.proofs.Common.{◌≡◌, ℕ, ◌<◌, ◌≤◌, List, [], ◌++◌, length, take, drop, Ok, Err, refl, sym, ap, subst, ◌∙◌, arith}
use Rattle.std.specs.Prelude.{IfOk}
use Rattle.std.proofs.lemmas.List.{take-append-drop, length-append, take_all, append-nil, nil_from_length}
use Rattle.mp4_box.specs.declared.headers.Header.{Header}
use Rattle.mp4_box.specs.declared.headers.Step.{Step}
use Rattle.mp4_box.specs.declared.headers.Step.TheVariants.{More, Whole, BadSize}
use Rattle.mp4_box.specs.declared.rules.Rule.TheVariants as rules
use Rattle.mp4_box.specs.Headers.{IsBytes, HasRoom, Head, BeginsWith, need, header_at, result_of}
use Rattle.mp4_box.proofs.HeaderLemmas.{read_is, read_again, whole_is, cut_is, is_cut, bad_is, room_of, whole_one}

not_more_nor_whole : (s : Step) → (s ≡ More → ⊥) → ((h : Header) → s ≡ Whole h → ⊥) → s ≡ BadSize
not_more_nor_whole More m w = absurd (m refl)
not_more_nor_whole (Whole h) m w = absurd (w h refl)
not_more_nor_whole BadSize m w = refl

-- of a slice that begins with a header

pub result-whole : (s : Step) (h : Header) → result_of s ≡ Ok h → s ≡ Whole h
result-whole More h e = absurd cc
result-whole (Whole k) h e = cc
result-whole BadSize h e = absurd cc

result-more : (s : Step) → result_of s ≡ Err rules.Truncated → s ≡ More
result-more More e = refl
result-more (Whole k) e = absurd cc
result-more BadSize e = absurd cc

pub header-begins : (x : List ℕ) (h : Header) → IsBytes x → (result_of (header_at x) ≡ Ok h → BeginsWith h x) × (BeginsWith h x → result_of (header_at x) ≡ Ok h)
header-begins x h fits = (
  λ e. (h.header_len, read_is x h fits (result-whole (header_at x) h e)),
  λ p. ap result_of (ap header_at (sym (take-append-drop p.0 x)) ∙ read_again h (take p.0 x) (drop p.0 x) p.1),
)

pub header-truncated : (x : List ℕ) → (result_of (header_at x) ≡ Err rules.Truncated → length x < need x) × (length x < need x → result_of (header_at x) ≡ Err rules.Truncated)
header-truncated x = (λ e. cut_is x (result-more (header_at x) e), λ h. ap result_of (is_cut x h))

result-ok : (s : Step) (P : Header → Type 0) → ((h : Header) → s ≡ Whole h → P h) → IfOk (result_of s) P
result-ok More P f = tt
result-ok (Whole h) P f = f h refl
result-ok BadSize P f = tt

pub header-room : (x : List ℕ) → IfOk (result_of (header_at x)) (λ h. HasRoom h.size h.header_len)
header-room x = result-ok (header_at x) (λ h. HasRoom h.size h.header_len) (λ h e. room_of x h e)

-- of bytes that are no more than were needed

pub step-whole : (x : List ℕ) (h : Header) → IsBytes x → length x ≤ need x → (header_at x ≡ Whole h → Head h x) × (Head h x → header_at x ≡ Whole h)
step-whole x h fits most = (
  λ e.
      let w = whole_is x h e in
      subst (Head h) (take_all h.header_len x (omega (arith, w.0, w.1))) (read_is x h fits e),
  λ p. ap header_at (sym (append-nil x)) ∙ read_again h x [] p,
)

pub step-more : (x : List ℕ) → (header_at x ≡ More → length x < need x) × (length x < need x → header_at x ≡ More)
step-more x = (λ e. cut_is x e, λ h. is_cut x h)

pub step-bad : (x : List ℕ) → IsBytes x → length x ≤ need x → (header_at x ≡ BadSize → (length x ≡ need x) × ((h : Header) → Head h x → ⊥)) × ((length x ≡ need x) × ((h : Header) → Head h x → ⊥) → header_at x ≡ BadSize)
step-bad x fits most = (
  λ e. (omega (arith, most, bad_is x e), λ h p. let w = (step-whole x h fits most).1 p in absurd cc),
  λ p. not_more_nor_whole (header_at x) (λ m. absurd (omega (arith, cut_is x m, p.0)))
      (λ h e. p.1 h ((step-whole x h fits most).0 e)),
)

-- of all bytes of a header

pub head-whole : (h : Header) (x : List ℕ) → Head h x → header_at x ≡ Whole h
head-whole h x p = ap header_at (sym (append-nil x)) ∙ read_again h x [] p

pub head-need : (h : Header) (x : List ℕ) → Head h x → length x ≡ need x
head-need h x p =
    let w = whole_is x h (head-whole h x p) in
    omega (arith, w.1, p.header_len)

-- of bytes that no header begins
pub header-none : (x : List ℕ) → IsBytes x → need x ≤ length x → ((h : Header) → BeginsWith h x → ⊥) → header_at x ≡ BadSize
header-none x fits whole none = not_more_nor_whole (header_at x) (λ m. absurd (omega (arith, cut_is x m))) (λ h e. none h (h.header_len, read_is x h fits e))

-- ---- laws

pub heads_along : (h k : Header) (x more : List ℕ) → Head h x → Head k (x ++ more) → (more ≡ []) × (h ≡ k)
heads_along h k x more p q =
    let same : h ≡ k = whole_one h k (sym (read_again h x more p) ∙ (ap header_at (sym (append-nil (x ++ more))) ∙ read_again k (x ++ more) [] q)) in
    let lens : h.header_len ≡ k.header_len = ap (λ (a : Header). a.header_len) same in
    (nil_from_length more (omega (arith, p.header_len, q.header_len, lens, length-append x more)), same)
