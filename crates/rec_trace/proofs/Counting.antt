-- How many keys of a map have a value that passes a test.
use Rattle.std.proofs.Common.{◌≡◌, ◌+◌, ℕ, suc, Bool, true, false, List, [], ◌∷◌, length}
use Rattle.std.proofs.Common.{is_some, filter, min, refl, sym, ◌∙◌, ap, subst, arith}
use Rattle.std.proofs.lemmas.Bool.{false≢true}
use Rattle.std.proofs.lemmas.List.Sums.{length-filter}
use Rattle.std.proofs.lemmas.Map.Entries.{length-keys_of, lookup-filter-values, option_filter}
use Rattle.std.proofs.lemmas.Map.Made.{IsDistinct-keys_filter, is_some-lookup}
use Rattle.std.specs.Cmp.{IsEquivalence}
use Rattle.std.specs.List.{IsDistinct, count_by}
use Rattle.std.specs.Map.{keys_of, lookup, values_of}
use Rattle.rec_trace.specs.Held.{IsCountOf}

-- a test of sameness is an equivalence
pub equivalence : {K : Type 0} (eq : K → K → Bool) → ((x : K) → eq x x ≡ true)
    → ((x y : K) → eq x y ≡ true → x ≡ y) → IsEquivalence eq
equivalence eq itself same = record {
  refl = itself;
  symm = λ x y. go x y (eq x y) (eq y x) refl refl;
  congr = λ x y z h. ap (λ v. eq v z) (same x y h);
}
  where
    go : (x y : _) (a b : Bool) → eq x y ≡ a → eq y x ≡ b → eq x y ≡ eq y x
    go x y true true p q = p ∙ sym q
    go x y false false p q = p ∙ sym q
    go x y true false p q =
        absurd (false≢true (sym q ∙ subst (λ v. eq y v ≡ true) (sym (same x y p)) (itself y)))
    go x y false true p q =
        absurd (false≢true (sym p ∙ subst (λ v. eq x v ≡ true) (sym (same y x q)) (itself x)))

values-pass : {K X : Type 0} (p : X → Bool) (es : List (K × X))
    → length (filter p (values_of es)) ≡ length (filter (λ e. p e.1) es)
values-pass p [] = refl
values-pass p (e ∷ es) = go (p e.1) refl (values-pass p es)
  where
    go : (b : Bool) → p e.1 ≡ b → length (filter p (values_of es)) ≡ length (filter (λ e. p e.1) es)
        → length (filter p (e.1 ∷ values_of es)) ≡ length (filter (λ e. p e.1) (e ∷ es))
    go true h ih = rw (h) (ap suc ih)
    go false h ih = rw (h) ih

-- the keys of a map whose values pass are so many
pub counted : {K X : Type 0} (eq : K → K → Bool) (p : X → Bool) (es : List (K × X))
    (test : K → Bool) (count : ℕ)
    → IsEquivalence eq → IsDistinct eq (keys_of es)
    → ((k : K) → is_some (option_filter p (lookup (eq k) es)) ≡ test k)
    → count ≡ count_by p (values_of es) → IsCountOf eq test count
counted eq p es test count laws distinct passes is =
    let kept = filter (λ e. p e.1) es in
    record {
      listed = keys_of kept;
      once = IsDistinct-keys_filter eq (λ e. p e.1) es distinct;
      each =
          λ k. sym (is_some-lookup (eq k) kept)
          ∙ ap is_some (lookup-filter-values laws p k es distinct) ∙ passes k;
      many =
          is ∙ sym (length-filter p (values_of es)) ∙ values-pass p es ∙ sym (length-keys_of kept);
    }

-- the keys of a map are so many
pub counted-all : {K X : Type 0} (eq : K → K → Bool) (es : List (K × X)) (test : K → Bool)
    (count : ℕ)
    → IsDistinct eq (keys_of es)
    → ((k : K) → is_some (lookup (eq k) es) ≡ test k) → count ≡ length es → IsCountOf eq test count
counted-all eq es test count distinct passes is = record {
  listed = keys_of es;
  once = distinct;
  each = λ k. sym (is_some-lookup (eq k) es) ∙ passes k;
  many = is ∙ sym (length-keys_of es);
}

-- what is added up step by step, each step as far as a number goes,
-- is the whole sum as far as it goes
pub added-up : (a b c d x y z most : ℕ) → x ≡ min (b + c) most → y ≡ min (a + x) most
    → z ≡ min (y + d) most → z ≡ min (a + b + c + d) most
added-up a b c d x y z most p q r = omega arith
