-- What is spelled as a header is read as it, and what is read as a header is spelled so.
use Rattle.std.proofs.Common.{◌≡◌, ℕ, ◌+◌, ◌-◌, ◌^◌, ◌<◌, ◌≤◌, ◌==◌, ◌⊎◌, Bool, true, false, cond, ltb, List, [], ◌∷◌, ◌++◌, length, take, drop, Option, Some, None, refl, sym, ap, subst, ◌∙◌, append_assoc, arith, inl, inr, eq-eqb}
use Rattle.std.specs.Str.{bytes_eq}
use Rattle.std.specs.Prelude.{nat_eq}
use Rattle.std.specs.Int.{from_be_bytes, to_be_bytes, w32}
use Rattle.std.proofs.lemmas.Bool.{cases_lt, ltb-false, le-ltb, lt-ltb, cond-true, cond-false, false≢true}
use Rattle.std.proofs.lemmas.Bool.Decides.{nat_tests, Decides-eqb}
use Rattle.std.proofs.lemmas.List.{take_at, drop_at, take-append-le, drop-append-le, length-append, length-take, length-drop, drop-drop, get_or-drop, get_or-take, get_or_past}
use Rattle.std.proofs.lemmas.Slice.Eq.{bytes_eq-Decides}
use Rattle.std.proofs.lemmas.Nat.{be_bytes_4, be_bytes_8}
use Rattle.std.proofs.Math.Seq.{take-add}
use Rattle.byteorder.specs.Endian.{big_number, big_bytes}
use Rattle.byteorder.specs.Numbers.{big_from-append, big_from-take, big_number-reads_back, big_from-lt, length-bytes_high_first}
use Rattle.mp4_box.specs.declared.headers.Header.{Header}
use Rattle.mp4_box.specs.declared.headers.Size.{Size}
use Rattle.mp4_box.specs.declared.headers.Size.TheVariants.{Exact, ToEnd}
use Rattle.mp4_box.specs.declared.headers.Step.{Step}
use Rattle.mp4_box.specs.declared.headers.Step.TheVariants.{More, Whole, BadSize}
use Rattle.mp4_box.specs.Headers.{IsBytes, uuid, HasUser, HasRoom, user_bytes, Spells, Head, size_field, kind_field, has_user, is_long, need, user_field, stated_size, with_size, plain_header, header_at}

abbrev pub mk : List ℕ → Option (List ℕ) → Size → ℕ → Header
mk kind user size n = record { kind = record { 0 = kind }; user = user; size = size; header_len = n }

pub IsBytes-drop : (n : ℕ) (bytes : List ℕ) → IsBytes bytes → IsBytes (drop n bytes)
IsBytes-drop n bytes h i = rw get_or-drop (h (n + i))

pub IsBytes-take : (n : ℕ) (bytes : List ℕ) → IsBytes bytes → IsBytes (take n bytes)
IsBytes-take n bytes h i =
    elim (cases_lt i n) [
      | inl lt ↦ rw (get_or-take n bytes i 0 lt) (h i)
      | inr le ↦ rw (get_or_past (take n bytes) i 0 (omega (arith, length-take n bytes))) (omega arith)
    ]

pub bool_is : (b : Bool) → (b ≡ true) ⊎ (b ≡ false)
bool_is true = inl refl
bool_is false = inr refl

not_true : (b : Bool) → (b ≡ true → ⊥) → b ≡ false
not_true true h = absurd (h refl)
not_true false h = refl

-- four bytes are those of their number
pub same_number : (x y : List ℕ) (p q : ℕ) → length x ≡ 4 → length y ≡ 4 → IsBytes x → IsBytes y → p ≡ from_be_bytes w32 x → q ≡ from_be_bytes w32 y → nat_eq p q ≡ bytes_eq x y
same_number x y p q m n fits too is are =
    elim (bool_is (bytes_eq x y)) [
      | inl same ↦ eq-eqb _ _ (is ∙ ap (from_be_bytes w32) ((bytes_eq-Decides x y).0 same) ∙ sym are) ∙ sym same
      | inr other ↦ not_true _ (λ e. false≢true (sym other ∙ (bytes_eq-Decides x y).1 (sym (be_bytes_4 x p m fits is) ∙ ap (to_be_bytes w32) ((Decides-eqb _ _).0 e) ∙ be_bytes_4 y q n too are))) ∙ sym other
    ]

-- headers with the same fields are one
pub same_header : (k l : List ℕ) (u v : Option (List ℕ)) (s t : Size) (m n : ℕ) → k ≡ l → u ≡ v → s ≡ t → m ≡ n → mk k u s m ≡ mk l v t n
same_header k l u v s t m n a b c d =
    ap (λ (x : List ℕ). mk x u s m) a ∙ (ap (λ (x : Option (List ℕ)). mk l x s m) b ∙ (ap (λ (x : Size). mk l v x m) c ∙ ap (λ (x : ℕ). mk l v t x) d))

-- ---- what is spelled is read

-- the type and the rest after four bytes
parts : (a kind t : List ℕ) → length a ≡ 4 → length kind ≡ 4 →
    (take 4 (drop 4 (a ++ (kind ++ t))) ≡ kind) × (drop 8 (a ++ (kind ++ t)) ≡ t) × (length (a ++ (kind ++ t)) ≡ 8 + length t)
parts a kind t p q =
    let back : drop 4 (a ++ (kind ++ t)) ≡ kind ++ t = drop_at a (kind ++ t) 4 p in (
      rw (back, take_at kind t 4 q) refl,
      sym (drop-drop 4 4 (a ++ (kind ++ t))) ∙ ap (drop 4) back ∙ drop_at kind t 4 q,
      omega (arith, length-append a (kind ++ t), length-append kind t),
    )

-- whether there is a user type, by the type
abbrev given : Option (List ℕ) → Bool
given None = false
given (Some u) = true

user_test : (kind : List ℕ) (user : Option (List ℕ)) → HasUser kind user → bytes_eq kind uuid ≡ given user
user_test kind None h = not_true (bytes_eq kind uuid) (λ e. h ((bytes_eq-Decides kind uuid).0 e))
user_test kind (Some u) h = (bytes_eq-Decides kind uuid).1 h.0

-- the length of the header by its tests
need_by : (x : List ℕ) (b c : Bool) → 8 ≤ length x → is_long x ≡ b → has_user x ≡ c → need x ≡ 8 + cond b 8 0 + cond c 16 0
need_by x b c long p q = let t : ltb (length x) 8 ≡ false = le-ltb _ _ long in rw (t, p, q) refl

abbrev IfUser : Option (List ℕ) → Type 0
IfUser None = Unit {0}
IfUser (Some u) = length u ≡ 16

-- a user type at m is read
user_reads : (x rest : List ℕ) (user : Option (List ℕ)) (m : ℕ) → has_user x ≡ given user → need x ≡ m + length (user_bytes user) → IfUser user → drop m x ≡ user_bytes user ++ rest → user_field x ≡ user
user_reads x rest None m t n l d = rw t refl
user_reads x rest (Some u) m t n l d =
    let at : need x - 16 ≡ m = omega (arith, n, l) in
    rw (at, t, d, take_at u rest 16 l) refl

user_len : (kind : List ℕ) (user : Option (List ℕ)) → HasUser kind user → (length (user_bytes user) ≡ cond (given user) 16 0) × IfUser user
user_len kind None h = (refl, tt)
user_len kind (Some u) h = (h.1, h.1)

-- what the fields of y are, where its parts are known
module _ (y kind rest : List ℕ) (user : Option (List ℕ)) (b : Bool) (n : ℕ) (len : n ≡ 8 + cond b 8 0 + length (user_bytes user)) (whole : n ≤ length y)
    (long : is_long y ≡ b) (type : kind_field y ≡ kind) (has : HasUser kind user) (tail : drop (8 + cond b 8 0) y ≡ user_bytes user ++ rest) where
  test : has_user y ≡ given user
  test = ap (λ (k : List ℕ). bytes_eq k uuid) type ∙ user_test kind user has

  need-is : need y ≡ n
  need-is =
      let l = user_len kind user has in
      need_by y b (given user) (omega arith) long test ∙ omega (arith, len, l.0)

  user-is : user_field y ≡ user
  user-is = user_reads y rest user (8 + cond b 8 0) test (need-is ∙ len) (user_len kind user has).1 tail

-- what is read, by the tests
to_end : (y : List ℕ) → need y ≤ length y → size_field y ≡ 0 → header_at y ≡ Whole (with_size y ToEnd)
unfolding header_at
to_end y whole zero_size =
    let t : ltb (length y) (need y) ≡ false = le-ltb _ _ whole in
    let z : (size_field y == 0) ≡ true = eq-eqb (size_field y) 0 zero_size in
    rw (t, z) refl

exactly : (y : List ℕ) → need y ≤ length y → (size_field y == 0) ≡ false → need y ≤ stated_size y → header_at y ≡ Whole (with_size y (Exact (stated_size y)))
unfolding header_at
exactly y whole nonzero good =
    let t : ltb (length y) (need y) ≡ false = le-ltb _ _ whole in
    let g : ltb (stated_size y) (need y) ≡ false = le-ltb _ _ good in
    rw (t, nonzero, g) refl

least : (t b c : Bool) → 8 ≤ cond t 8 (8 + cond b 8 0 + cond c 16 0)
least true b c = omega arith
least false b c = omega arith

pub need-least : (x : List ℕ) → 8 ≤ need x
need-least x = least (ltb (length x) 8) (is_long x) (has_user x)

-- bytes after the first eight do not change how many are needed
pub need-append : (x y : List ℕ) → 8 ≤ length x → need (x ++ y) ≡ need x
need-append x y long =
    let number : size_field (x ++ y) ≡ size_field x = big_from-append 4 x y (omega arith) in
    let after : drop 4 (x ++ y) ≡ drop 4 x ++ y = drop-append-le 4 x y (omega arith) in
    let type : kind_field (x ++ y) ≡ kind_field x = ap (take 4) after ∙ take-append-le 4 (drop 4 x) y (omega (arith, length-drop 4 x)) in
    need_by (x ++ y) (is_long x) (has_user x) (omega (arith, length-append x y)) (ap (λ (n : ℕ). n == 1) number) (ap (λ (k : List ℕ). bytes_eq k uuid) type)
    ∙ sym (need_by x (is_long x) (has_user x) long refl refl)

-- a byte more is at most what was needed
pub need_more : (x : List ℕ) (b : ℕ) → length x < need x → length (x ++ b ∷ []) ≤ need (x ++ b ∷ [])
need_more x b h =
    let len = length-append x (b ∷ []) in
    elim (cases_lt (length x) 8) [
      | inl short ↦ omega (arith, need-least (x ++ b ∷ []), len)
      | inr long ↦ omega (arith, need-append x (b ∷ []) long, len)
    ]

regroup : (a b c d : List ℕ) → (a ++ (b ++ c)) ++ d ≡ a ++ (b ++ (c ++ d))
regroup a b c d = simp append_assoc

regroup5 : (a b c d e : List ℕ) → (((a ++ b) ++ c) ++ d) ++ e ≡ a ++ (b ++ (c ++ (d ++ e)))
regroup5 a b c d e = simp append_assoc

ne_is : (m n : ℕ) → (m ≡ n → ⊥) → (m == n) ≡ false
ne_is m n h = not_true (m == n) (λ e. h ((Decides-eqb m n).0 e))

-- a short, a long and an open header, by what their fields are
short_is : (y kind rest : List ℕ) (user : Option (List ℕ)) (s n : ℕ) → size_field y ≡ s → kind_field y ≡ kind → drop 8 y ≡ user_bytes user ++ rest → n ≤ length y → HasUser kind user → n ≡ 8 + length (user_bytes user) → n ≤ s
    → header_at y ≡ Whole (mk kind user (Exact s) n)
short_is y kind rest user s n number type tail whole has len good =
    let long : is_long y ≡ false = ne_is (size_field y) 1 (λ e. omega arith) in
    let nonzero : (size_field y == 0) ≡ false = ne_is (size_field y) 0 (λ e. omega arith) in
    let count : n ≡ 8 + cond false 8 0 + length (user_bytes user) = omega arith in
    let need_n = need-is y kind rest user false n count whole long type has tail in
    let given_user = user-is y kind rest user false n count whole long type has tail in
    let stated : stated_size y ≡ s = cond-false (is_long y) (big_number 8 (drop 8 y)) (size_field y) long ∙ number in
    exactly y (omega (arith, need_n)) nonzero (omega (arith, need_n, stated))
    ∙ ap Whole (same_header (kind_field y) kind (user_field y) user (Exact (stated_size y)) (Exact s) (need y) n type given_user (ap Exact stated) need_n)

-- the header of eight bytes that some bytes begin with
pub plain_at : (x : List ℕ) → 8 ≤ length x → 8 ≤ size_field x → has_user x ≡ false → header_at x ≡ Whole (plain_header x)
plain_at x long room none =
    short_is x (kind_field x) (drop 8 x) None (size_field x) 8 refl refl refl long (λ e. absurd (false≢true (sym none ∙ (bytes_eq-Decides (kind_field x) uuid).1 e))) refl room

long_is : (y kind rest : List ℕ) (user : Option (List ℕ)) (s n : ℕ) → size_field y ≡ 1 → kind_field y ≡ kind → big_number 8 (drop 8 y) ≡ s → drop 16 y ≡ user_bytes user ++ rest → n ≤ length y → HasUser kind user → n ≡ 16 + length (user_bytes user) → n ≤ s
    → header_at y ≡ Whole (mk kind user (Exact s) n)
long_is y kind rest user s n one type number tail whole has len good =
    let long : is_long y ≡ true = eq-eqb (size_field y) 1 one in
    let nonzero : (size_field y == 0) ≡ false = ne_is (size_field y) 0 (λ e. omega arith) in
    let count : n ≡ 8 + cond true 8 0 + length (user_bytes user) = omega arith in
    let need_n = need-is y kind rest user true n count whole long type has tail in
    let given_user = user-is y kind rest user true n count whole long type has tail in
    let stated : stated_size y ≡ s = cond-true (is_long y) (big_number 8 (drop 8 y)) (size_field y) long ∙ number in
    exactly y (omega (arith, need_n)) nonzero (omega (arith, need_n, stated))
    ∙ ap Whole (same_header (kind_field y) kind (user_field y) user (Exact (stated_size y)) (Exact s) (need y) n type given_user (ap Exact stated) need_n)

open_is : (y kind rest : List ℕ) (user : Option (List ℕ)) (n : ℕ) → size_field y ≡ 0 → kind_field y ≡ kind → drop 8 y ≡ user_bytes user ++ rest → n ≤ length y → HasUser kind user → n ≡ 8 + length (user_bytes user)
    → header_at y ≡ Whole (mk kind user ToEnd n)
open_is y kind rest user n number type tail whole has len =
    let long : is_long y ≡ false = ne_is (size_field y) 1 (λ e. omega arith) in
    let count : n ≡ 8 + cond false 8 0 + length (user_bytes user) = omega arith in
    let need_n = need-is y kind rest user false n count whole long type has tail in
    let given_user = user-is y kind rest user false n count whole long type has tail in
    to_end y (omega (arith, need_n)) number
    ∙ ap Whole (same_header (kind_field y) kind (user_field y) user ToEnd ToEnd (need y) n type given_user refl need_n)

-- a header of these parts is read, whatever follows
again : (size : Size) (kind : List ℕ) (user : Option (List ℕ)) (x rest : List ℕ) → length kind ≡ 4 → HasUser kind user → Spells size kind (user_bytes user) x → header_at (x ++ rest) ≡ Whole (mk kind user size (length x))
again (Exact s) kind user x rest four has (inl h) =
    let a = big_bytes 4 s in
    let u = user_bytes user in
    let a4 = length-bytes_high_first 4 s in
    let same : x ++ rest ≡ a ++ (kind ++ (u ++ rest)) = ap (λ (z : List ℕ). z ++ rest) h.0 ∙ regroup a kind u rest in
    let p = parts a kind (u ++ rest) a4 four in
    short_is (x ++ rest) kind rest user s (length x)
    (ap (big_number 4) same ∙ big_number-reads_back 4 s (kind ++ (u ++ rest)) (omega (arith, h.2)))
    (ap kind_field same ∙ p.0) (ap (drop 8) same ∙ p.1) (omega (arith, length-append x rest)) has
    (omega (arith, ap length h.0, length-append a (kind ++ u), length-append kind u, a4, four)) h.1
again (Exact s) kind user x rest four has (inr h) =
    let a = big_bytes 4 1 in
    let b = big_bytes 8 s in
    let u = user_bytes user in
    let b8 = length-bytes_high_first 8 s in
    let same : x ++ rest ≡ a ++ (kind ++ (b ++ (u ++ rest))) = ap (λ (z : List ℕ). z ++ rest) h.0 ∙ regroup5 a kind b u rest in
    let p = parts a kind (b ++ (u ++ rest)) refl four in
    let after : drop 8 (x ++ rest) ≡ b ++ (u ++ rest) = ap (drop 8) same ∙ p.1 in
    long_is (x ++ rest) kind rest user s (length x)
    (ap (big_number 4) same)
    (ap kind_field same ∙ p.0) (ap (big_number 8) after ∙ big_number-reads_back 8 s (u ++ rest) (omega (arith, h.2)))
    (sym (drop-drop 8 8 (x ++ rest)) ∙ ap (drop 8) after ∙ drop_at b (u ++ rest) 8 b8) (omega (arith, length-append x rest)) has
    (omega (arith, ap length h.0, length-append ((a ++ kind) ++ b) u, length-append (a ++ kind) b, length-append a kind, b8, four)) h.1
again ToEnd kind user x rest four has h =
    let a = big_bytes 4 0 in
    let u = user_bytes user in
    let same : x ++ rest ≡ a ++ (kind ++ (u ++ rest)) = ap (λ (z : List ℕ). z ++ rest) h ∙ regroup a kind u rest in
    let p = parts a kind (u ++ rest) refl four in
    open_is (x ++ rest) kind rest user (length x)
    (ap (big_number 4) same)
    (ap kind_field same ∙ p.0) (ap (drop 8) same ∙ p.1) (omega (arith, length-append x rest)) has
    (omega (arith, ap length h, length-append a (kind ++ u), length-append kind u, four))

pub read_again : (h : Header) (x rest : List ℕ) → Head h x → header_at (x ++ rest) ≡ Whole h
read_again h x rest p =
    again h.size h.kind.0 h.user x rest p.kind p.user p.spelled ∙ ap (λ (n : ℕ). Whole (mk h.kind.0 h.user h.size n)) (sym p.header_len)

-- ---- what is read is spelled

cond_more : (b : Bool) (r : Step) (h : Header) → cond b More r ≡ Whole h → (b ≡ false) × (r ≡ Whole h)
cond_more true r h p = absurd cc
cond_more false r h p = (refl, p)

cond_bad : (b : Bool) (r : Step) (h : Header) → cond b BadSize r ≡ Whole h → (b ≡ false) × (r ≡ Whole h)
cond_bad true r h p = absurd cc
cond_bad false r h p = (refl, p)

cond_or : (b : Bool) (a : Header) (r : Step) (h : Header) → cond b (Whole a) r ≡ Whole h → ((b ≡ true) × (a ≡ h)) ⊎ ((b ≡ false) × (r ≡ Whole h))
cond_or true a r h p = inl (refl, cc)
cond_or false a r h p = inr (refl, p)

pub whole_one : (h k : Header) → ◌≡◌ {A = Step} (Whole h) (Whole k) → h ≡ k
whole_one h k e = cc

-- the bytes of the numbers at the front
front4 : (x : List ℕ) → IsBytes x → 4 ≤ length x → big_bytes 4 (big_number 4 x) ≡ take 4 x
front4 x fits enough =
    be_bytes_4 (take 4 x) (big_number 4 x) (omega (arith, length-take 4 x)) (IsBytes-take 4 x fits)
    (sym (big_from-take 0 4 4 x (omega arith)) ∙ omega arith)

front8 : (x : List ℕ) → IsBytes x → 8 ≤ length x → big_bytes 8 (big_number 8 x) ≡ take 8 x
front8 x fits enough =
    be_bytes_8 (take 8 x) (big_number 8 x) (omega (arith, length-take 8 x)) (IsBytes-take 8 x fits)
    (sym (big_from-take 0 8 8 x (omega arith)) ∙ omega arith)

-- the need of bytes that are enough
need_split : (x : List ℕ) → need x ≤ length x → need x ≡ 8 + cond (is_long x) 8 0 + cond (has_user x) 16 0
need_split x whole = need_by x (is_long x) (has_user x) (omega (arith, need-least x)) refl refl

-- ---- bytes after those that are needed change nothing

-- what is read, by the fields
by_fields : ℕ → ℕ → ℕ → List ℕ → Option (List ℕ) → Step
by_fields n field size kind user = cond (field == 0) (Whole (mk kind user ToEnd n)) (cond (ltb size n) BadSize (Whole (mk kind user (Exact size) n)))

header_at-fields : (x : List ℕ) → need x ≤ length x → header_at x ≡ by_fields (need x) (size_field x) (stated_size x) (kind_field x) (user_field x)
unfolding header_at by_fields
header_at-fields x whole =
    let t : ltb (length x) (need x) ≡ false = le-ltb _ _ whole in
    rw t refl

user-append : (x y : List ℕ) (c : Bool) → has_user x ≡ c → has_user (x ++ y) ≡ has_user x → need (x ++ y) ≡ need x → need x ≤ length x → user_field (x ++ y) ≡ user_field x
user-append x y true t same n whole =
    let long : 24 ≤ need x = omega (arith, need_split x whole, cond-true {A = ℕ} (has_user x) 16 0 t) in
    let after : drop (need x - 16) (x ++ y) ≡ drop (need x - 16) x ++ y = drop-append-le (need x - 16) x y (omega arith) in
    let user : take 16 (drop (need x - 16) x ++ y) ≡ take 16 (drop (need x - 16) x) = take-append-le 16 (drop (need x - 16) x) y (omega (arith, length-drop (need x - 16) x)) in
    cond-true (has_user (x ++ y)) _ _ (same ∙ t) ∙ ap Some (ap (λ (k : ℕ). take 16 (drop (k - 16) (x ++ y))) n ∙ ap (take 16) after ∙ user) ∙ sym (cond-true (has_user x) _ _ t)
user-append x y false t same n whole = cond-false (has_user (x ++ y)) _ _ (same ∙ t) ∙ sym (cond-false (has_user x) _ _ t)

stated-append : (x y : List ℕ) (c : Bool) → is_long x ≡ c → is_long (x ++ y) ≡ is_long x → size_field (x ++ y) ≡ size_field x → need x ≤ length x → stated_size (x ++ y) ≡ stated_size x
stated-append x y true t same number whole =
    let long : 16 ≤ need x = omega (arith, need_split x whole, cond-true {A = ℕ} (is_long x) 8 0 t) in
    let after : drop 8 (x ++ y) ≡ drop 8 x ++ y = drop-append-le 8 x y (omega arith) in
    cond-true (is_long (x ++ y)) _ _ (same ∙ t) ∙ ap (big_number 8) after ∙ big_from-append 8 (drop 8 x) y (omega (arith, length-drop 8 x)) ∙ sym (cond-true (is_long x) _ _ t)
stated-append x y false t same number whole = cond-false (is_long (x ++ y)) _ _ (same ∙ t) ∙ number ∙ sym (cond-false (is_long x) _ _ t)

pub header_at-append : (x y : List ℕ) → need x ≤ length x → header_at (x ++ y) ≡ header_at x
header_at-append x y whole =
    let eight : 8 ≤ length x = omega (arith, need-least x) in
    let n = need-append x y eight in
    let number : size_field (x ++ y) ≡ size_field x = big_from-append 4 x y (omega arith) in
    let after : drop 4 (x ++ y) ≡ drop 4 x ++ y = drop-append-le 4 x y (omega arith) in
    let kind : kind_field (x ++ y) ≡ kind_field x = ap (take 4) after ∙ take-append-le 4 (drop 4 x) y (omega (arith, length-drop 4 x)) in
    let long : is_long (x ++ y) ≡ is_long x = ap (λ (k : ℕ). k == 1) number in
    let has : has_user (x ++ y) ≡ has_user x = ap (λ (k : List ℕ). bytes_eq k uuid) kind in
    let stated = stated-append x y (is_long x) refl long number whole in
    let user = user-append x y (has_user x) refl has n whole in
    header_at-fields (x ++ y) (omega (arith, n, length-append x y))
    ∙ ap (λ (k : ℕ). by_fields k (size_field (x ++ y)) (stated_size (x ++ y)) (kind_field (x ++ y)) (user_field (x ++ y))) n
    ∙ ap (λ (k : ℕ). by_fields (need x) k (stated_size (x ++ y)) (kind_field (x ++ y)) (user_field (x ++ y))) number
    ∙ ap (λ (k : ℕ). by_fields (need x) (size_field x) k (kind_field (x ++ y)) (user_field (x ++ y))) stated
    ∙ ap (λ (k : List ℕ). by_fields (need x) (size_field x) (stated_size x) k (user_field (x ++ y))) kind
    ∙ ap (λ (k : Option (List ℕ)). by_fields (need x) (size_field x) (stated_size x) (kind_field x) k) user
    ∙ sym (header_at-fields x whole)

-- no header is longer
most : (t b c : Bool) → cond t 8 (8 + cond b 8 0 + cond c 16 0) ≤ 32
most true b c = omega arith
most false true true = omega arith
most false true false = omega arith
most false false true = omega arith
most false false false = omega arith

pub need-most : (x : List ℕ) → need x ≤ 32
need-most x = most (ltb (length x) 8) (is_long x) (has_user x)

-- the user type is what is left of the header after m bytes
user_tail : (x : List ℕ) (m : ℕ) (c : Bool) → has_user x ≡ c → need x ≤ length x → need x ≡ m + cond c 16 0 → take (need x - m) (drop m x) ≡ user_bytes (user_field x)
user_tail x m true t whole n =
    let at : need x - 16 ≡ m = omega (arith, n) in
    let len : need x - m ≡ 16 = omega (arith, n) in
    rw (at, len, t) refl
user_tail x m false t whole n =
    let len : need x - m ≡ 0 = omega (arith, n) in
    rw (len, t) refl

has-user : (x : List ℕ) (c : Bool) → has_user x ≡ c → need x ≤ length x → HasUser (kind_field x) (user_field x)
has-user x true t whole =
    let n = need_split x whole in
    let long : 24 ≤ need x = omega (arith, n, cond-true {A = ℕ} (has_user x) 16 0 t) in
    let is : user_field x ≡ Some (take 16 (drop (need x - 16) x)) = cond-true (has_user x) _ _ t in
    rw is ((bytes_eq-Decides (kind_field x) uuid).0 t, omega (arith, length-take 16 (drop (need x - 16) x), length-drop (need x - 16) x))
has-user x false t whole =
    let is : user_field x ≡ None = cond-false (has_user x) _ _ t in
    rw is (λ e. absurd (false≢true (sym t ∙ (bytes_eq-Decides (kind_field x) uuid).1 e)))

-- a header that is read is spelled, where its size is
spelled_so : (x : List ℕ) (size : Size) → need x ≤ length x → Spells size (kind_field x) (user_bytes (user_field x)) (take (need x) x) → Head (with_size x size) (take (need x) x)
spelled_so x size whole s = record {
  kind = omega (arith, length-take 4 (drop 4 x), length-drop 4 x, need-least x);
  user = has-user x (has_user x) refl whole;
  spelled = s;
  header_len = sym (length-take (need x) x ∙ omega arith);
}

-- the header in its three parts, or four
short_parts : (x : List ℕ) → need x ≤ length x → is_long x ≡ false → take (need x) x ≡ take 4 x ++ kind_field x ++ user_bytes (user_field x)
short_parts x whole short =
    let n = need_split x whole in
    let c = cond-false {A = ℕ} (is_long x) 8 0 short in
    let m : need x ≡ 8 + cond (has_user x) 16 0 = omega (arith, n, c) in
    let t = user_tail x 8 (has_user x) refl whole m in
    let cut : need x ≡ 8 + (need x - 8) = omega (arith, need-least x) in
    ap (λ (k : ℕ). take k x) cut ∙ (take-add 8 (need x - 8) x ∙ (ap (λ (z : List ℕ). z ++ take (need x - 8) (drop 8 x)) (take-add 4 4 x) ∙ ap (λ (z : List ℕ). (take 4 x ++ kind_field x) ++ z) t))

long_parts : (x : List ℕ) → need x ≤ length x → is_long x ≡ true → take (need x) x ≡ take 4 x ++ kind_field x ++ take 8 (drop 8 x) ++ user_bytes (user_field x)
long_parts x whole long =
    let n = need_split x whole in
    let c = cond-true {A = ℕ} (is_long x) 8 0 long in
    let m : need x ≡ 16 + cond (has_user x) 16 0 = omega (arith, n, c) in
    let t = user_tail x 16 (has_user x) refl whole m in
    let cut : need x ≡ 16 + (need x - 16) = omega (arith, m) in
    ap (λ (k : ℕ). take k x) cut ∙ (take-add 16 (need x - 16) x
    ∙ (ap (λ (z : List ℕ). z ++ take (need x - 16) (drop 16 x)) (take-add 8 8 x ∙ ap (λ (z : List ℕ). z ++ take 8 (drop 8 x)) (take-add 4 4 x))
    ∙ ap (λ (z : List ℕ). ((take 4 x ++ kind_field x) ++ take 8 (drop 8 x)) ++ z) t))

-- the three forms
open_spelled : (x : List ℕ) → IsBytes x → need x ≤ length x → size_field x ≡ 0 → Spells ToEnd (kind_field x) (user_bytes (user_field x)) (take (need x) x)
open_spelled x fits whole z =
    let front : take 4 x ≡ big_bytes 4 0 = sym (front4 x fits (omega (arith, need-least x))) ∙ ap (big_bytes 4) z in
    short_parts x whole (ne_is (size_field x) 1 (λ e. omega arith)) ∙ ap (λ (a : List ℕ). a ++ kind_field x ++ user_bytes (user_field x)) front

sized_spelled : (x : List ℕ) (b : Bool) → is_long x ≡ b → IsBytes x → need x ≤ length x → need x ≤ stated_size x → Spells (Exact (stated_size x)) (kind_field x) (user_bytes (user_field x)) (take (need x) x)
sized_spelled x true long fits whole good =
    let one : size_field x ≡ 1 = (Decides-eqb (size_field x) 1).0 long in
    let front : take 4 x ≡ big_bytes 4 1 = sym (front4 x fits (omega (arith, need-least x))) ∙ ap (big_bytes 4) one in
    let n = need_split x whole in
    let c = cond-true {A = ℕ} (is_long x) 8 0 long in
    let is : stated_size x ≡ big_number 8 (drop 8 x) = cond-true (is_long x) _ _ long in
    let wide : take 8 (drop 8 x) ≡ big_bytes 8 (stated_size x) = sym (front8 (drop 8 x) (IsBytes-drop 8 x fits) (omega (arith, n, c, length-drop 8 x))) ∙ ap (big_bytes 8) (sym is) in
    let small : big_number 8 (drop 8 x) < 2 ^ 64 = omega (arith, big_from-lt 0 8 (drop 8 x) (IsBytes-drop 8 x fits)) in
    inr (
      long_parts x whole long ∙ (ap (λ (a : List ℕ). a ++ kind_field x ++ take 8 (drop 8 x) ++ user_bytes (user_field x)) front ∙ ap (λ (a : List ℕ). big_bytes 4 1 ++ kind_field x ++ a ++ user_bytes (user_field x)) wide),
      omega (arith, length-take (need x) x, good),
      omega (arith, is, small),
    )
sized_spelled x false short fits whole good =
    let is : stated_size x ≡ size_field x = cond-false (is_long x) _ _ short in
    let front : take 4 x ≡ big_bytes 4 (stated_size x) = sym (front4 x fits (omega (arith, need-least x))) ∙ ap (big_bytes 4) (sym is) in
    let small : size_field x < 2 ^ 32 = omega (arith, big_from-lt 0 4 x fits) in
    inl (
      short_parts x whole short ∙ ap (λ (a : List ℕ). a ++ kind_field x ++ user_bytes (user_field x)) front,
      omega (arith, length-take (need x) x, good),
      omega (arith, is, small),
    )

pub read_is : (x : List ℕ) (h : Header) → IsBytes x → header_at x ≡ Whole h → Head h (take h.header_len x)
unfolding header_at
read_is x h fits e =
    let one = cond_more (ltb (length x) (need x)) _ h e in
    let whole : need x ≤ length x = ltb-false _ _ one.0 in
    elim (cond_or (size_field x == 0) (with_size x ToEnd) _ h one.1) [
      | inl z ↦ subst (λ (k : Header). Head k (take k.header_len x)) z.1 (spelled_so x ToEnd whole (open_spelled x fits whole ((Decides-eqb (size_field x) 0).0 z.0)))
      | inr z ↦
          let good = cond_bad (ltb (stated_size x) (need x)) _ h z.1 in
          subst (λ (k : Header). Head k (take k.header_len x)) (whole_one _ _ good.1)
          (spelled_so x (Exact (stated_size x)) whole (sized_spelled x (is_long x) refl fits whole (ltb-false _ _ good.0)))
    ]

-- what an answer of header_at says of the length
pub whole_is : (x : List ℕ) (h : Header) → header_at x ≡ Whole h → (need x ≤ length x) × (h.header_len ≡ need x)
unfolding header_at
whole_is x h e =
    let one = cond_more (ltb (length x) (need x)) _ h e in
    let whole : need x ≤ length x = ltb-false _ _ one.0 in
    elim (cond_or (size_field x == 0) (with_size x ToEnd) _ h one.1) [
      | inl z ↦ (whole, ap (λ (k : Header). k.header_len) (sym z.1))
      | inr z ↦
          let good = cond_bad (ltb (stated_size x) (need x)) _ h z.1 in
          (whole, ap (λ (k : Header). k.header_len) (sym (whole_one _ _ good.1)))
    ]

pub cut_is : (x : List ℕ) → header_at x ≡ More → length x < need x
unfolding header_at
cut_is x e = grind (arith, nat_tests)

pub is_cut : (x : List ℕ) → length x < need x → header_at x ≡ More
unfolding header_at
is_cut x h = let t : ltb (length x) (need x) ≡ true = lt-ltb _ _ h in rw t refl

pub bad_is : (x : List ℕ) → header_at x ≡ BadSize → need x ≤ length x
unfolding header_at
bad_is x e = grind (arith, nat_tests)

-- what the header states has room for it
pub room_of : (x : List ℕ) (h : Header) → header_at x ≡ Whole h → HasRoom h.size h.header_len
unfolding header_at
room_of x h e =
    let one = cond_more (ltb (length x) (need x)) _ h e in
    elim (cond_or (size_field x == 0) (with_size x ToEnd) _ h one.1) [
      | inl z ↦ subst (λ (k : Header). HasRoom k.size k.header_len) z.1 tt
      | inr z ↦
          let good = cond_bad (ltb (stated_size x) (need x)) _ h z.1 in
          subst (λ (k : Header). HasRoom k.size k.header_len) (whole_one _ _ good.1) (ltb-false _ _ good.0)
    ]
