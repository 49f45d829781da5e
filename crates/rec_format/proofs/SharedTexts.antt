-- How many bytes texts have in common at their starts.
use Rattle.std.proofs.Common.{◌≡◌, ◌≢◌, ℕ, zero, suc, ◌+◌, ◌<◌, ◌≤◌, List, [], ◌∷◌, ◌++◌, length}
use Rattle.std.proofs.Common.{take, drop, min, Bool, true, false, cond, nat_eq, Ordering, Less}
use Rattle.std.proofs.Common.{Equal, Greater, refl, sym, ap, ◌∙◌, arith, true≢false}
use Rattle.std.proofs.lemmas.Bool.Decides.{nat_tests, Decides-eqb}
use Rattle.std.proofs.lemmas.List.Sums.{common_prefix_len-le}
use Rattle.std.proofs.lemmas.List.{length-drop}
use Rattle.std.proofs.lemmas.Map.Text.{is_eq-slice_cmp}
use Rattle.std.proofs.lemmas.Slice.Eq.{bytes_eq-Decides}
use Rattle.std.specs.Cmp.Lexicographic.{slice_cmp}
use Rattle.std.specs.List.{common_prefix_len}
use Rattle.std.specs.Ordering.{nat_cmp, ordering_then, is_lt, is_gt, is_eq}

abbrev pub shared : List ℕ → List ℕ → ℕ
shared xs ys = common_prefix_len nat_eq xs ys

-- ---- the nearer text shares more

below_by : (o₁ o₂ p q : Ordering) (a b c n m : ℕ) → nat_cmp b a ≡ o₁ → nat_cmp b c ≡ o₂
    → is_lt (ordering_then o₁ p) ≡ false → ordering_then o₂ q ≡ Less
    → (is_lt p ≡ false → q ≡ Less → n ≤ m)
    → cond (nat_eq a c) (1 + n) 0 ≤ cond (nat_eq b c) (1 + m) 0
below_by Less o₂ p q a b c n m ba bc h k next = absurd (cc h)
below_by Equal Less p q a b c n m ba bc h k next = grind (arith, nat_tests, ba, bc)
below_by Equal Equal p q a b c n m ba bc h k next =
    let is = next h k in grind (arith, nat_tests, ba, bc, is)
below_by Equal Greater p q a b c n m ba bc h k next = absurd (cc k)
below_by Greater Less p q a b c n m ba bc h k next = grind (arith, nat_tests, ba, bc)
below_by Greater Equal p q a b c n m ba bc h k next = grind (arith, nat_tests, ba, bc)
below_by Greater Greater p q a b c n m ba bc h k next = absurd (cc k)

pub shared_below : (x y t : List ℕ) → is_lt (slice_cmp nat_cmp y x) ≡ false
    → slice_cmp nat_cmp y t ≡ Less → shared x t ≤ shared y t
shared_below [] y t h k = omega arith
shared_below (a ∷ xs) y [] h k = omega arith
shared_below (a ∷ xs) [] (c ∷ ts) h k = absurd (cc h)
shared_below (a ∷ xs) (b ∷ ys) (c ∷ ts) h k =
    below_by (nat_cmp b a) (nat_cmp b c) (slice_cmp nat_cmp ys xs) (slice_cmp nat_cmp ys ts) a b c
    (shared xs ts) (shared ys ts) refl refl h k (shared_below xs ys ts)

above_by : (o₁ o₂ p q : Ordering) (a b c n m : ℕ) → nat_cmp b a ≡ o₁ → nat_cmp c b ≡ o₂
    → is_gt (ordering_then o₁ p) ≡ false → ordering_then o₂ q ≡ Less
    → (is_gt p ≡ false → q ≡ Less → n ≤ m)
    → cond (nat_eq a c) (1 + n) 0 ≤ cond (nat_eq b c) (1 + m) 0
above_by Greater o₂ p q a b c n m ba cb h k next = absurd (cc h)
above_by Equal Less p q a b c n m ba cb h k next = grind (arith, nat_tests, ba, cb)
above_by Equal Equal p q a b c n m ba cb h k next =
    let is = next h k in grind (arith, nat_tests, ba, cb, is)
above_by Equal Greater p q a b c n m ba cb h k next = absurd (cc k)
above_by Less Less p q a b c n m ba cb h k next = grind (arith, nat_tests, ba, cb)
above_by Less Equal p q a b c n m ba cb h k next = grind (arith, nat_tests, ba, cb)
above_by Less Greater p q a b c n m ba cb h k next = absurd (cc k)

pub shared_above : (x y t : List ℕ) → is_gt (slice_cmp nat_cmp y x) ≡ false
    → slice_cmp nat_cmp t y ≡ Less → shared x t ≤ shared y t
shared_above [] y t h k = omega arith
shared_above (a ∷ xs) y [] h k = omega arith
shared_above (a ∷ xs) [] (c ∷ ts) h k = absurd (cc k)
shared_above (a ∷ xs) (b ∷ ys) (c ∷ ts) h k =
    above_by (nat_cmp b a) (nat_cmp c b) (slice_cmp nat_cmp ys xs) (slice_cmp nat_cmp ts ys) a b c
    (shared xs ts) (shared ys ts) refl refl h k (shared_above xs ys ts)

-- ---- texts apart

pub apart : (xs ys : List ℕ) → slice_cmp nat_cmp xs ys ≡ Less → xs ≢ ys
apart xs ys h e =
    true≢false (sym ((bytes_eq-Decides xs ys).1 e) ∙ sym (is_eq-slice_cmp xs ys) ∙ ap is_eq h)

pub same : (xs ys : List ℕ) → slice_cmp nat_cmp xs ys ≡ Equal → xs ≡ ys
same xs ys h = (bytes_eq-Decides xs ys).0 (sym (is_eq-slice_cmp xs ys) ∙ ap is_eq h)

short_by : (b : Bool) (a c : ℕ) (xs ts : List ℕ) → nat_eq a c ≡ b → (a ∷ xs) ≢ (c ∷ ts)
    → (xs ≢ ts → shared xs ts < length ts) → cond b (1 + shared xs ts) 0 < suc (length ts)
short_by true a c xs ts is h next =
    let is_same = (Decides-eqb a c).0 is in let more = next (λ e. h (rw (is_same, e))) in
    omega (arith, more)
short_by false a c xs ts is h next = omega arith

pub shared_short : (xs ts : List ℕ) → length xs ≡ length ts → xs ≢ ts → shared xs ts < length ts
shared_short [] [] l h = absurd (h refl)
shared_short [] (c ∷ ts) l h = absurd (omega (arith, l))
shared_short (a ∷ xs) [] l h = absurd (omega (arith, l))
shared_short (a ∷ xs) (c ∷ ts) l h =
    short_by (nat_eq a c) a c xs ts refl h (shared_short xs ts (omega (arith, l)))

-- where one of two texts was compared to its end, what was compared is all that they share
pub all_compared : (a b : List ℕ) (i n : ℕ) → shared a b ≡ i + shared (drop i a) (drop i b) → i ≤ n
    → n ≤ i → n ≡ min (length a) (length b) → n ≡ shared a b
all_compared a b i n so_far le ge is =
    let most = common_prefix_len-le nat_eq (drop i a) (drop i b) in
    let la = length-drop i a in
    let lb = length-drop i b in
    omega (arith, so_far, le, ge, is, most.0, most.1, la, lb)

-- ---- prefixes

pub shared_prefix : (prefix more rest : List ℕ)
    → length prefix ≤ shared (prefix ++ more) (prefix ++ rest)
shared_prefix [] more rest = omega arith
shared_prefix (a ∷ prefix) more rest =
    let is = (Decides-eqb a a).1 refl in let next = shared_prefix prefix more rest in
    rw is (omega (arith, next))

taken_by : (b : Bool) (n a c : ℕ) (xs ts : List ℕ) → nat_eq a c ≡ b
    → suc n ≤ cond b (1 + shared xs ts) 0 → (n ≤ shared xs ts → take n ts ≡ take n xs)
    → c ∷ take n ts ≡ a ∷ take n xs
taken_by true n a c xs ts is h next =
    let is_same = (Decides-eqb a c).0 is in rw (is_same, next (omega (arith, h)))
taken_by false n a c xs ts is h next = absurd (omega (arith, h))

-- what two texts share is the start of both
pub shared_take : (n : ℕ) (xs ts : List ℕ) → n ≤ shared xs ts → take n ts ≡ take n xs
shared_take zero xs ts h = refl
shared_take (suc n) [] ts h = absurd (omega (arith, h))
shared_take (suc n) (a ∷ xs) [] h = absurd (omega (arith, h))
shared_take (suc n) (a ∷ xs) (c ∷ ts) h =
    taken_by (nat_eq a c) n a c xs ts refl h (shared_take n xs ts)
