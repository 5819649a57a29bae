-- The sizes of the boxes of a fragmented stream that are held: its moov, and its moofs (ISO/IEC 14496-12, 8.2.1 and 8.8.4).
use Rattle.std.specs.Prelude.{◌≡◌, ℕ, ◌≤◌, List, ◌++◌}
use Rattle.mp4_box.specs.Headers.{Headed}
use Rattle.mp4_grammar.specs.Contexts.{Context}
use Rattle.mp4_grammar.specs.Joined.{AreSound, Item, context_after_all, joined}
use Rattle.mp4_grammar.specs.Kinds.{kind_in}
use Rattle.mp4_grammar.specs.Meanings.{Meaning}
use Rattle.mp4_grammar.specs.Rests.{IsBuffered}
use Rattle.mp4_grammar.specs.declared.kinds.Kind.{Kind}
use Rattle.mp4_grammar.specs.declared.kinds.Kind.TheVariants.{Moof, Moov}

-- after whole items that break no rule, the bytes b begin with the header of a box of this kind that is to be held
-- there. It states so many bytes, no more than it may have
pub record Holds (meaning : Meaning) (c : Context) (b : List ℕ) (kind : Kind) (size : ℕ) : Type 0 where
  pub items : List Item
  pub rest : List ℕ
  pub cut : b ≡ joined items ++ rest
  pub sound : AreSound meaning c items
  pub box : Headed rest
  pub type : kind_in box.header.kind.0 ≡ kind
  pub limit : ℕ
  pub here : IsBuffered (context_after_all meaning c items) size limit box.header
  pub small : size ≤ limit

-- each moov that is held has at most so many bytes, and each moof
pub record HoldsWithin (meaning : Meaning) (c : Context) (b : List ℕ) (moov moof : ℕ) : Type 0 where
  pub moovs : (size : ℕ) → Holds meaning c b Moov size → size ≤ moov
  pub moofs : (size : ℕ) → Holds meaning c b Moof size → size ≤ moof
