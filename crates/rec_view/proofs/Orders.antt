-- Each test stands once, in the order of the events that open them.
use Rattle.std.proofs.Common.{◌≡◌, ◌≤◌, ℕ, suc, Bool, true, false, not, List, []}
use Rattle.std.proofs.Common.{◌∷◌, ◌++◌, length, map, filter, refl, ap, sym, ◌∙◌, arith}
use Rattle.std.proofs.Common.{if◌then◌else◌}
use Rattle.rec_events.proofs.TestOrder.{test_eq-self}
use Rattle.rec_events.specs.declared.instances.OwnedTestInstanceId.{OwnedTestInstanceId}
use Rattle.rec_events.specs.Tests.{test_eq}
use Rattle.rec_rerun.specs.Plans.{firsts}
use Rattle.rec_view.specs.Acts.Act.{Starts, Retries, Fails, Ends, Skips, RunEnds, Silent}
use Rattle.rec_view.specs.Acts.{Act}
use Rattle.rec_view.specs.Laws.{Before, InOrder}
use Rattle.rec_view.specs.Tests.{Place, has_stood, is_running, opened, place}
use Rattle.rec_view.specs.Tests.{tests_after}

abbrev pub NotIn : OwnedTestInstanceId → List OwnedTestInstanceId → Type 0
NotIn t [] = Unit {0}
NotIn t (u ∷ us) = (t ≡ u → ⊥) × NotIn t us

abbrev pub Distinct : List OwnedTestInstanceId → Type 0
Distinct [] = Unit {0}
Distinct (t ∷ ts) = NotIn t ts × Distinct ts

not_in_filter : (p : OwnedTestInstanceId → Bool) (t : OwnedTestInstanceId)
    (us : List OwnedTestInstanceId) → NotIn t us → NotIn t (filter p us)
not_in_filter p t [] h = tt
not_in_filter p t (u ∷ us) h = by (not_in_filter p t us h.1) (p u)
  where
    by : NotIn t (filter p us) → (b : Bool) → NotIn t (if b then u ∷ filter p us else filter p us)
    by more true = (h.0, more)
    by more false = more

distinct_filter : (p : OwnedTestInstanceId → Bool) (us : List OwnedTestInstanceId) → Distinct us
    → Distinct (filter p us)
distinct_filter p [] h = tt
distinct_filter p (u ∷ us) h = by (distinct_filter p us h.1) (p u)
  where
    by : Distinct (filter p us) → (b : Bool) → Distinct (if b then u ∷ filter p us else filter p us)
    by more true = (not_in_filter p u us h.0, more)
    by more false = more

true_false : {X : Type 0} (b : Bool) → b ≡ true → not b ≡ true → X
true_false true h k = absurd (grind (arith, k))
true_false false h k = absurd (grind (arith, h))

not_in_others : (t : OwnedTestInstanceId) (us : List OwnedTestInstanceId)
    → NotIn t (filter (λ u. not (test_eq t u)) us)
not_in_others t [] = tt
not_in_others t (u ∷ us) = by (not_in_others t us) (not (test_eq t u)) refl
  where
    by : NotIn t (filter (λ u. not (test_eq t u)) us) → (b : Bool) → not (test_eq t u) ≡ b
        → NotIn t (if b then u ∷ filter (λ u. not (test_eq t u)) us
        else filter (λ u. not (test_eq t u)) us)
    by more true e =
        ((λ same. true_false (test_eq t u) (ap (test_eq t) (sym same) ∙ test_eq-self t) e), more)
    by more false e = more

firsts_distinct : (ts : List OwnedTestInstanceId) → Distinct (firsts ts)
firsts_distinct [] = tt
firsts_distinct (t ∷ ts) = (
  not_in_others t (firsts ts),
  distinct_filter (λ u. not (test_eq t u)) (firsts ts) (firsts_distinct ts),
)

one_or_none : (b : Bool) (t : OwnedTestInstanceId) → Distinct (if b then [] else t ∷ [])
one_or_none true t = tt
one_or_none false t = (tt, tt)

opened_distinct : (past : List Act) (act : Act) → Distinct (opened past act)
opened_distinct past (Starts test) = (tt, tt)
opened_distinct past (Retries test) = one_or_none (is_running test past) test
opened_distinct past (Ends test verdict) = one_or_none (is_running test past) test
opened_distinct past (Skips test) = (tt, tt)
opened_distinct past (RunEnds names) =
    distinct_filter (λ t. not (has_stood t past)) (firsts names) (firsts_distinct names)
opened_distinct past (Fails test) = tt
opened_distinct past Silent = tt

abbrev pub FromOn : ℕ → List Place → Type 0
FromOn n [] = Unit {0}
FromOn n (p ∷ ps) = (n ≤ p.at) × FromOn n ps

from_less : (n : ℕ) (ps : List Place) → FromOn (suc n) ps → FromOn n ps
from_less n [] h = tt
from_less n (p ∷ ps) h = (omega (arith, h.0), from_less n ps h.1)

before_later : (n : ℕ) (t : OwnedTestInstanceId) (ps : List Place) → FromOn (suc n) ps
    → Before (place n t) ps
before_later n t [] h = tt
before_later n t (p ∷ ps) h =
    (omega (arith, h.0), ((λ same e. omega (arith, h.0, same)), before_later n t ps h.1))

before_all : (n : ℕ) (t : OwnedTestInstanceId) (ts : List OwnedTestInstanceId) (ps : List Place)
    → NotIn t ts → FromOn (suc n) ps → Before (place n t) (map (place n) ts ++ ps)
before_all n t [] ps h k = before_later n t ps k
before_all n t (u ∷ ts) ps h k = (omega arith, ((λ same e. h.0 e), before_all n t ts ps h.1 k))

joined : (n : ℕ) (ts : List OwnedTestInstanceId) (ps : List Place) → Distinct ts → FromOn (suc n) ps
    → InOrder ps → InOrder (map (place n) ts ++ ps)
joined n [] ps h k o = o
joined n (t ∷ ts) ps h k o = (before_all n t ts ps h.0 k, joined n ts ps h.1 k o)

from_all : (n : ℕ) (ts : List OwnedTestInstanceId) (ps : List Place) → FromOn (suc n) ps
    → FromOn n (map (place n) ts ++ ps)
from_all n [] ps k = from_less n ps k
from_all n (t ∷ ts) ps k = (omega arith, from_all n ts ps k)

from_on : (past acts : List Act) → FromOn (length past) (tests_after past acts)
from_on past [] = tt
from_on past (act ∷ acts) =
    from_all (length past) (opened past act) (tests_after (act ∷ past) acts)
    (from_on (act ∷ past) acts)

pub in_order : (past acts : List Act) → InOrder (tests_after past acts)
in_order past [] = tt
in_order past (act ∷ acts) =
    joined (length past) (opened past act) (tests_after (act ∷ past) acts)
    (opened_distinct past act) (from_on (act ∷ past) acts) (in_order (act ∷ past) acts)
