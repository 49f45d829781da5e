-- Texts stay in ascending order where one more is put at its place.
use Rattle.std.proofs.Common.{ap, ◌∙◌, Ordering, Less, Equal, Greater}
use Rattle.std.specs.Cmp.Lexicographic.{slice_cmp, nat_list_cmp_total}
use Rattle.std.specs.List.Sorted.{IsStrictlySortedBy}
use Rattle.std.specs.List.{AllByRecursion}
use Rattle.std.specs.Ordering.{nat_cmp, match_ordering, ordering_reverse}
use Rattle.std.specs.Prelude.{◌≡◌, ℕ, List, [], ◌∷◌, refl}
use Rattle.rec_events.specs.Names.{IsText, Rise, AreTexts, with_name}

-- what holds of each of three holds of the one that an order picks
pub match_holds : {T : Type 0} (Q : T → Type 0) (o : Ordering) (a b c : T) → Q a → Q b → Q c
    → Q (match_ordering o a b c)
match_holds Q Less a b c x y z = x
match_holds Q Equal a b c x y z = y
match_holds Q Greater a b c x y z = z

-- what holds of all names and of one more holds of all with it
with_name-all : (P : List ℕ → Type 0) (ks : List (List ℕ)) (k : List ℕ) → AllByRecursion P ks → P k
    → AllByRecursion P (with_name ks k)
with_name-all P [] k all h = (h, tt)
with_name-all P (x ∷ xs) k all h =
    match_holds (AllByRecursion P) (slice_cmp nat_cmp k x) _ _ _ (h, all) all
    (all.0, with_name-all P xs k all.1 h)

pub AreTexts-with_name : (ks : List (List ℕ)) (k : List ℕ) → AreTexts ks → IsText k
    → AreTexts (with_name ks k)
AreTexts-with_name = with_name-all IsText

below_all : (k x : List ℕ) (xs : List (List ℕ)) → slice_cmp nat_cmp k x ≡ Less
    → AllByRecursion (λ y. slice_cmp nat_cmp x y ≡ Less) xs
    → AllByRecursion (λ y. slice_cmp nat_cmp k y ≡ Less) xs
below_all k x [] e all = tt
below_all k x (y ∷ ys) e all = (nat_list_cmp_total.trans k x y e all.0, below_all k x ys e all.1)

placed : (o : Ordering) (k x : List ℕ) (xs rest : List (List ℕ)) → slice_cmp nat_cmp k x ≡ o
    → Rise (x ∷ xs)
    → AllByRecursion (λ y. slice_cmp nat_cmp x y ≡ Less) xs
    → (slice_cmp nat_cmp x k ≡ Less → AllByRecursion (λ y. slice_cmp nat_cmp x y ≡ Less) rest)
    → Rise rest → Rise (match_ordering o (k ∷ x ∷ xs) (x ∷ xs) (x ∷ rest))
unfolding IsStrictlySortedBy
placed Less k x xs rest e h below above rise = ((e, below_all k x xs e below), h)
placed Equal k x xs rest e h below above rise = h
placed Greater k x xs rest e h below above rise =
    (above (nat_list_cmp_total.antisymm x k ∙ ap ordering_reverse e), rise)

-- a name at its place keeps the order
pub Rise-with_name : (ks : List (List ℕ)) (k : List ℕ) → Rise ks → Rise (with_name ks k)
unfolding IsStrictlySortedBy
Rise-with_name [] k h = (tt, h)
Rise-with_name (x ∷ xs) k h =
    placed (slice_cmp nat_cmp k x) k x xs (with_name xs k) refl h h.0
    (λ less. with_name-all (λ y. slice_cmp nat_cmp x y ≡ Less) xs k h.0 less)
    (Rise-with_name xs k h.1)
