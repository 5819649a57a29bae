use Rattle.std.proofs.Common.{◌≡◌, ℕ, ◌<◌, List, length, Ok, Err, arith}
use Rattle.mp4_box.specs.declared.headers.Header.{Header}
use Rattle.mp4_box.specs.declared.headers.Step.{Step}
use Rattle.mp4_box.specs.declared.rules.Rule.TheVariants.{Truncated}
use Rattle.mp4_box.specs.Headers.{IsBytes, BeginsWith, need, header_at, result_of}
use Rattle.mp4_box.proofs.HeaderAnswers.{header-begins, header-truncated}
use Rattle.mp4_box.proofs.headers.header_of.Goals as goal

whole : (x : List ℕ) (s : Step) (h : Header) → IsBytes x → s ≡ header_at x → (result_of s ≡ Ok h → BeginsWith h x) × (BeginsWith h x → result_of s ≡ Ok h)
whole x s h fits is = rw is (header-begins x h fits)

truncated : (x : List ℕ) (s : Step) → s ≡ header_at x → (result_of s ≡ Err Truncated → length x < need x) × (length x < need x → result_of s ≡ Err Truncated)
truncated x s is = rw is (header-truncated x)

pub returns-in-Whole-clause-whole : goal.returns-in-Whole-clause-whole
returns-in-Whole-clause-whole c h = whole c.args.bytes.now _ h (λ i. omega (arith, c.type_inv.bytes i)) c.in-Whole.ensures.exact

pub returns-in-Whole-clause-truncated : goal.returns-in-Whole-clause-truncated
returns-in-Whole-clause-truncated c = truncated c.args.bytes.now _ c.in-Whole.ensures.exact

pub returns-in-More-clause-whole : goal.returns-in-More-clause-whole
returns-in-More-clause-whole c h = whole c.args.bytes.now _ h (λ i. omega (arith, c.type_inv.bytes i)) c.in-More.ensures.exact

pub returns-in-More-clause-truncated : goal.returns-in-More-clause-truncated
returns-in-More-clause-truncated c = truncated c.args.bytes.now _ c.in-More.ensures.exact

pub returns-in-BadSize-clause-whole : goal.returns-in-BadSize-clause-whole
returns-in-BadSize-clause-whole c h = whole c.args.bytes.now _ h (λ i. omega (arith, c.type_inv.bytes i)) c.in-BadSize.ensures.exact

pub returns-in-BadSize-clause-truncated : goal.returns-in-BadSize-clause-truncated
returns-in-BadSize-clause-truncated c = truncated c.args.bytes.now _ c.in-BadSize.ensures.exact
