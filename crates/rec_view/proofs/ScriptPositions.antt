-- The list of setup scripts has exactly those that the definition by positions says, in order.
use Rattle.std.proofs.Common.{◌≡◌, ◌<◌, ◌↔◌, inl, inr, ℕ, zero, suc, ◌+◌, List, [], ◌∷◌}
use Rattle.std.proofs.Common.{drop, slice_get, refl, ap, sym, ◌∙◌, arith, subst, Some}
use Rattle.rec_spans.specs.Positions.{Has}
use Rattle.rec_view.proofs.Ends.{end_is, end_only}
use Rattle.rec_view.specs.declared.scripts.ScriptAct.TheVariants.{Starts, Ends, Silent}
use Rattle.rec_view.specs.declared.scripts.ScriptAct.{ScriptAct}
use Rattle.rec_view.specs.declared.scripts.ScriptView.{ScriptView}
use Rattle.rec_view.specs.Ends.{IsEnd, first_from}
use Rattle.rec_view.specs.Scripts.{AreInOrder, IsScript, StartsBefore, cuts_script, scripts}
use Rattle.rec_view.specs.Scripts.{scripts_from}

-- a script starts at a place of acts that stand from i on
record StartsAt (i : ℕ) (acts : List ScriptAct) (s : ScriptView) : Type 0 where
  pub place : ℕ
  pub is : s.from ≡ i + place
  pub index : ℕ
  pub starts : slice_get acts place ≡ Some (Starts index)
  pub ends : s.to ≡ first_from (cuts_script index) (suc s.from) (drop (suc place) acts)

later : (i : ℕ) (act : ScriptAct) (acts : List ScriptAct) (s : ScriptView)
    → StartsAt (suc i) acts s → StartsAt i (act ∷ acts) s
later i act acts s h = record {
  place = suc h.place;
  is = let is = h.is in omega (arith, is);
  index = h.index;
  starts = h.starts;
  ends = h.ends;
}

starts_to : (i : ℕ) (acts : List ScriptAct) (s : ScriptView) → Has (scripts_from i acts) s
    → StartsAt i acts s
starts_to i [] s none = absurd none
starts_to i (Starts index ∷ acts) s (inl e) = record {
  place = zero;
  is = sym (ap (λ (t : ScriptView). t.from) e) ∙ (let g : i ≡ i + zero = omega arith in g);
  index = index;
  starts = refl;
  ends = sym (ap (λ (t : ScriptView). t.to) e)
      ∙ ap (λ n. first_from (cuts_script index) (suc n) acts) (ap (λ (t : ScriptView). t.from) e);
}
starts_to i (Starts index ∷ acts) s (inr more) =
    later i (Starts index) acts s (starts_to (suc i) acts s more)
starts_to i (Ends index ∷ acts) s more =
    later i (Ends index) acts s (starts_to (suc i) acts s more)
starts_to i (Silent ∷ acts) s more = later i Silent acts s (starts_to (suc i) acts s more)

same_view : (s t : ScriptView) → s.from ≡ t.from → s.to ≡ t.to → s ≡ t
same_view s t e f = λ i. record { from = e i; to = f i }

starts_from : (i : ℕ) (acts : List ScriptAct) (place index : ℕ) (s : ScriptView)
    → s.from ≡ i + place → slice_get acts place ≡ Some (Starts index)
    → s.to ≡ first_from (cuts_script index) (suc s.from) (drop (suc place) acts)
    → Has (scripts_from i acts) s
starts_from i [] place index s is starts ends = cc
starts_from i (Starts n ∷ acts) zero index s is starts ends =
    inl (same_view _ s (sym here)
    (ap (λ m. first_from (cuts_script m) (suc i) acts) same
    ∙ ap (λ m. first_from (cuts_script index) (suc m) acts) (sym here) ∙ sym ends))
  where
    here : s.from ≡ i
    here = omega (arith, is)

    same : n ≡ index
    same = cc
starts_from i (Ends n ∷ acts) zero index s is starts ends = cc
starts_from i (Silent ∷ acts) zero index s is starts ends = cc
starts_from i (Starts n ∷ acts) (suc place) index s is starts ends =
    inr (starts_from (suc i) acts place index s (omega (arith, is)) starts ends)
starts_from i (Ends n ∷ acts) (suc place) index s is starts ends =
    starts_from (suc i) acts place index s (omega (arith, is)) starts ends
starts_from i (Silent ∷ acts) (suc place) index s is starts ends =
    starts_from (suc i) acts place index s (omega (arith, is)) starts ends

module _ (acts : List ScriptAct) (s : ScriptView) where
  to_script : Has (scripts acts) s → IsScript acts s
  to_script has = by (starts_to 0 acts s has)
    where
      by : StartsAt 0 acts s → IsScript acts s
      by a = record {
        index = a.index;
        starts = ap (slice_get acts) here ∙ a.starts;
        ends = subst (IsEnd (cuts_script a.index) acts s.from)
            (ap (λ m. first_from (cuts_script a.index) (suc s.from) (drop (suc m) acts)) here
            ∙ sym a.ends)
            (end_is (cuts_script a.index) acts s.from);
      }
        where
          here : s.from ≡ a.place
          here = let is = a.is in omega (arith, is)

  from_script : IsScript acts s → Has (scripts acts) s
  from_script h =
      starts_from 0 acts s.from h.index s (omega arith) h.starts
      (end_only (cuts_script h.index) acts s.from s.to
      (first_from (cuts_script h.index) (suc s.from) (drop (suc s.from) acts)) h.ends
      (end_is (cuts_script h.index) acts s.from))

  pub scripts_are : Has (scripts acts) s ↔ IsScript acts s
  scripts_are = (to_script, from_script)

-- ---- their order

before : (s : ScriptView) (i : ℕ) (acts : List ScriptAct) → s.from < i
    → StartsBefore s (scripts_from i acts)
before s i [] lt = tt
before s i (Starts index ∷ acts) lt = (lt, before s (suc i) acts (omega (arith, lt)))
before s i (Ends index ∷ acts) lt = before s (suc i) acts (omega (arith, lt))
before s i (Silent ∷ acts) lt = before s (suc i) acts (omega (arith, lt))

pub in_order : (i : ℕ) (acts : List ScriptAct) → AreInOrder (scripts_from i acts)
in_order i [] = tt
in_order i (Starts index ∷ acts) = (
  before (record { from = i; to = first_from (cuts_script index) (suc i) acts }) (suc i) acts
      (omega arith),
  in_order (suc i) acts,
)
in_order i (Ends index ∷ acts) = in_order (suc i) acts
in_order i (Silent ∷ acts) = in_order (suc i) acts
