-- Where a test stands, by the event that opens it.
use Rattle.std.proofs.Common.{◌≡◌, ◌⊎◌, inl, inr, ℕ, zero, suc, ◌+◌, List, [], ◌∷◌, length}
use Rattle.std.proofs.Common.{map, take, reverse, slice_get, Some, refl, ap, sym, ◌∙◌}
use Rattle.std.proofs.Common.{arith, subst}
use Rattle.rec_events.specs.declared.instances.OwnedTestInstanceId.{OwnedTestInstanceId}
use Rattle.rec_spans.proofs.EventMarks.{Has-append}
use Rattle.rec_spans.specs.Positions.{Has}
use Rattle.rec_view.proofs.Attempts.{append-none}
use Rattle.rec_view.proofs.Tests.{after, after-reverse}
use Rattle.rec_view.specs.Acts.{Act}
use Rattle.rec_view.specs.Tests.{Place, opened, place, tests, tests_after}

-- the event at the position of a test opens it
pub record IsOpened (acts : List Act) (p : Place) : Type 0 where
  pub act : Act
  pub stands : slice_get acts p.at ≡ Some act
  pub opens : Has (opened (reverse (take p.at acts)) act) p.test

record OpenedAfter (past acts : List Act) (p : Place) : Type 0 where
  pub many : ℕ
  pub is : p.at ≡ length past + many
  pub act : Act
  pub stands : slice_get acts many ≡ Some act
  pub opens : Has (opened (after past (take many acts)) act) p.test

of_place : (n : ℕ) (ts : List OwnedTestInstanceId) (p : Place) → Has (map (place n) ts) p
    → (p.at ≡ n) × Has ts p.test
of_place n [] p none = absurd none
of_place n (t ∷ ts) p (inl e) =
    (sym (ap (λ (q : Place). q.at) e), inl (ap (λ (q : Place). q.test) e))
of_place n (t ∷ ts) p (inr has) = let more = of_place n ts p has in (more.0, inr more.1)

to_place : (n : ℕ) (ts : List OwnedTestInstanceId) (t : OwnedTestInstanceId) → Has ts t
    → Has (map (place n) ts) (place n t)
to_place n [] t none = absurd none
to_place n (s ∷ ts) t (inl e) = inl (ap (place n) e)
to_place n (s ∷ ts) t (inr has) = inr (to_place n ts t has)

after_to : (past acts : List Act) (p : Place) → Has (tests_after past acts) p
    → OpenedAfter past acts p
after_to past [] p none = absurd none
after_to past (act ∷ acts) p has =
    by ((Has-append (map (place (length past)) (opened past act)) (tests_after (act ∷ past) acts)
    p).0 has) (after_to (act ∷ past) acts p)
  where
    by : Has (map (place (length past)) (opened past act)) p ⊎ Has (tests_after (act ∷ past) acts) p
        → (Has (tests_after (act ∷ past) acts) p → OpenedAfter (act ∷ past) acts p)
        → OpenedAfter past (act ∷ acts) p
    by (inl now) more =
        let o = of_place (length past) (opened past act) p now in
        let e = o.0 in
        record {
          many = zero;
          is = omega (arith, e);
          act = act;
          stands = refl;
          opens = o.1;
        }
    by (inr later) more =
        let o = more later in
        let e = o.is in
        record {
          many = suc o.many;
          is = omega (arith, e);
          act = o.act;
          stands = o.stands;
          opens = o.opens;
        }

after_from : (past acts : List Act) (act : Act) (m : ℕ) (t : OwnedTestInstanceId)
    → slice_get acts m ≡ Some act → Has (opened (after past (take m acts)) act) t
    → Has (tests_after past acts) (place (length past + m) t)
after_from past [] act m t is has = absurd cc
after_from past (x ∷ acts) act zero t is has =
    (Has-append (map (place (length past)) (opened past x)) (tests_after (x ∷ past) acts)
    (place (length past + zero) t)).1
    (inl (subst (λ n. Has (map (place (length past)) (opened past x)) (place n t)) (omega arith)
    (to_place (length past) (opened past x) t (subst (λ a. Has (opened past a) t) (same cc) has))))
  where
    same : act ≡ x → act ≡ x
    same e = e
after_from past (x ∷ acts) act (suc m) t is has =
    (Has-append (map (place (length past)) (opened past x)) (tests_after (x ∷ past) acts)
    (place (length past + suc m) t)).1
    (inr (subst (λ n. Has (tests_after (x ∷ past) acts) (place n t)) next
    (after_from (x ∷ past) acts act m t is has)))
  where
    next : length (x ∷ past) + m ≡ length past + suc m
    next = omega arith

past_of : (acts : List Act) → after [] acts ≡ reverse acts
past_of acts = after-reverse [] acts ∙ append-none (reverse acts)

pub test_to : (acts : List Act) (p : Place) → Has (tests acts) p → IsOpened acts p
test_to acts p has =
    let o = after_to [] acts p has in
    let is : o.many ≡ p.at = (let e = o.is in omega (arith, e)) in
    record {
      act = o.act;
      stands = sym (ap (slice_get acts) is) ∙ o.stands;
      opens = subst (λ past. Has (opened past o.act) p.test)
          (past_of (take o.many acts) ∙ ap (λ n. reverse (take n acts)) is) o.opens;
    }

pub test_from : (acts : List Act) (p : Place) → IsOpened acts p → Has (tests acts) p
test_from acts p o =
    subst (λ n. Has (tests acts) (place n p.test)) here
    (after_from [] acts o.act p.at p.test o.stands
    (subst (λ past. Has (opened past o.act) p.test) (sym (past_of (take p.at acts))) o.opens))
  where
    here : zero + p.at ≡ p.at
    here = omega arith
