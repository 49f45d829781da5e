-- The setup scripts from an event on, with one event more before them.
use Rattle.std.proofs.Common.{◌≡◌, ◌==◌, ◌≤◌, ℕ, zero, suc, List, [], ◌∷◌, ◌++◌, drop, length, take}
use Rattle.std.proofs.Common.{reverse, refl, ap, sym, ◌∙◌, arith, subst, Option, Some, slice_get}
use Rattle.std.proofs.Common.{if◌then◌else◌}
use Rattle.std.proofs.lemmas.Grind.{reverse_onto}
use Rattle.std.proofs.lemmas.List.{length-map, reverse-reverse}
use Rattle.std.specs.BTreeMap.{get}
use Rattle.std.specs.Ordering.{nat_cmp}
use Rattle.rec_events.specs.declared.events.TestEventSummary.{TestEventSummary}
use Rattle.rec_spans.specs.Acts.{act_of}
use Rattle.rec_spans.specs.Plain.{plain_kind}
use Rattle.rec_view.proofs.GapsShown.{some_mapped, some_same}
use Rattle.rec_view.specs.declared.scripts.ScriptAct.TheVariants.{Starts, Ends, Silent}
use Rattle.rec_view.specs.declared.scripts.ScriptAct.{ScriptAct}
use Rattle.rec_view.specs.declared.scripts.Scripts.{Scripts}
use Rattle.rec_view.specs.declared.scripts.ScriptView.{ScriptView}
use Rattle.rec_view.specs.Scripts.{script_act, script_acts, scripts, scripts_from}
use Rattle.rec_view.specs.ScriptsWalked.{CutsScript, HasScripts, OpensScript}

module _ (i : ℕ) (after : List ScriptAct) where
  abbrev starting : Option ℕ → ScriptView
  starting o = record { from = i; to = o }

  abbrev rest : List ScriptView
  rest = scripts_from (suc i) after

  pub walked_starts : (index : ℕ) (old mid new : Scripts) → HasScripts (suc i) after old
      → OpensScript i index old mid → CutsScript i index mid new
      → HasScripts i (Starts index ∷ after) new
  walked_starts index old mid new has opens cuts = record {
    views = ap (λ v. v.items) cuts.views ∙ opens.views
        ∙ ap (λ xs. xs ++ starting (get nat_cmp old.cuts index) ∷ []) has.views
        ∙ ap (λ o. reverse rest ++ starting o ∷ []) (has.cuts index)
        ∙ sym (reverse_onto rest _ []);
    cuts = λ n. cuts.cuts n
        ∙ ap (λ m. if index == n then Some i else get nat_cmp m n) opens.cuts
        ∙ ap (λ o. if index == n then Some i else o) (has.cuts n);
  }

  pub walked_ends : (index : ℕ) (old new : Scripts) → HasScripts (suc i) after old
      → CutsScript i index old new → HasScripts i (Ends index ∷ after) new
  walked_ends index old new has cuts = record {
    views = ap (λ v. v.items) cuts.views ∙ has.views;
    cuts = λ n. cuts.cuts n ∙ ap (λ o. if index == n then Some i else o) (has.cuts n);
  }

  pub walked_silent : (old : Scripts) → HasScripts (suc i) after old
      → HasScripts i (Silent ∷ after) old
  walked_silent old has = record { views = has.views; cuts = has.cuts }

-- ---- a whole list

pub gone : {X : Type 0} (n : ℕ) (xs : List X) → length xs ≤ n → drop n xs ≡ []
gone zero [] le = refl
gone zero (x ∷ xs) le = absurd (omega (arith, le))
gone (suc n) [] le = refl
gone (suc n) (x ∷ xs) le = gone n xs (omega (arith, le))

whole : {X : Type 0} (xs : List X) → take (length xs) (xs ++ []) ≡ xs
whole [] = refl
whole (x ∷ xs) = ap (λ ys. x ∷ ys) (whole xs)

-- what was written over all of a list
pub written_over : {X : Type 0} (n : ℕ) (new old : List X) → length new ≡ n → length old ≡ n
    → take n (new ++ drop (length new) old) ≡ new
written_over n new old many all =
    ap (λ k. take k (new ++ drop (length new) old)) (sym many)
    ∙ ap (λ xs. take (length new) (new ++ xs)) (gone (length new) old (omega (arith, many, all)))
    ∙ whole new

from_place : {X : Type 0} (xs : List X) (n : ℕ) (x : X) → slice_get xs n ≡ Some x
    → drop n xs ≡ x ∷ drop (suc n) xs
from_place [] n x is = cc
from_place (y ∷ xs) zero x is = ap (λ z. z ∷ xs) (some_same y x is)
from_place (y ∷ xs) (suc n) x is = from_place xs n x is

module _ {S O : Type 0} (events : List (TestEventSummary S O)) where
  abbrev acts : List ScriptAct
  acts = script_acts events

  pub none_walked : (n : ℕ) (s : Scripts) → n ≡ length events
      → ((at : ℕ) → HasScripts at [] s) → HasScripts n (drop n acts) s
  none_walked n s is none =
      subst (λ xs. HasScripts n xs s)
      (sym (gone n acts
      (let m = length-map events (λ e. script_act (act_of (plain_kind e.kind))) in
      omega (arith, is, m)))) (none n)

  pub one_walked : (at n : ℕ) (e : TestEventSummary S O) (act : ScriptAct) (old new : Scripts)
      → at ≡ suc n → slice_get events n ≡ Some e → act ≡ script_act (act_of (plain_kind e.kind))
      → HasScripts at (drop at acts) old
      → ((after : List ScriptAct) → HasScripts (suc n) after old → HasScripts n (act ∷ after) new)
      → HasScripts n (drop n acts) new
  one_walked at n e act old new is here act_is has step =
      subst (λ xs. HasScripts n xs new)
      (ap (λ a. a ∷ drop (suc n) acts) act_is
      ∙ sym (from_place acts n (script_act (act_of (plain_kind e.kind)))
      (some_mapped (λ e. script_act (act_of (plain_kind e.kind))) events n e here)))
      (step (drop (suc n) acts) (subst (λ k. HasScripts k (drop k acts) old) is has))

  pub all_walked : (at : ℕ) (s : Scripts) (xs ys : List ScriptView) → at ≡ 0
      → HasScripts at (drop at acts) s → xs ≡ s.views.items → ys ≡ reverse xs → ys ≡ scripts acts
  all_walked at s xs ys is has xs_are ys_are =
      ys_are ∙ ap reverse (xs_are ∙ has.views) ∙ reverse-reverse (scripts_from at (drop at acts))
      ∙ ap (λ k. scripts_from k (drop k acts)) is
