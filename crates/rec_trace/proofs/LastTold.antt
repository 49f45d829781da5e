-- What the last event tells is known with one event more, and so of a whole history.
use Rattle.std.proofs.Common.{◌≡◌, ◌<◌, ◌≤◌, ◌⊎◌, inl, inr, ℕ, suc, List, [], ◌∷◌, ◌++◌, length}
use Rattle.std.proofs.Common.{take, get_or, Option, Some, None, refl, sym, subst, ap, ◌∙◌, arith}
use Rattle.std.proofs.lemmas.List.{append_assoc, append-nil, get_or_append_left, take-append-le}
use Rattle.std.proofs.lemmas.Option.{get_or_from_slice_get, slice_get-get_or}
use Rattle.std.proofs.lemmas.Option.{slice_get_cases, slice_get_within}
use Rattle.std.proofs.Math.Seq.{get_or-append_seam, take-append_seam}
use Rattle.std.specs.Option.{unwrap_or}
use Rattle.std.specs.Prelude.{slice_get}
use Rattle.rec_trace.specs.Places.{IsLastOr, IsLastTold, NoneTells}

-- what holds of no event, and with each event more, holds of every history
pub of_each_history : {E : Type 0} (P : List E → Type 0) → P []
    → ((es : List E) (e : E) → P es → P (es ++ e ∷ [])) → (es : List E) → P es
of_each_history {E} P none more es = go [] es none
  where
    go : (before rest : List E) → P before → P (before ++ rest)
    go before [] h = subst P (sym (append-nil before)) h
    go before (e ∷ rest) h =
        subst P (append_assoc before (e ∷ []) rest) (go (before ++ e ∷ []) rest (more before e h))

length_snoc : {E : Type 0} (es : List E) (e : E) → length (es ++ e ∷ []) ≡ suc (length es)
length_snoc [] e = refl
length_snoc (x ∷ es) e = ap suc (length_snoc es e)

module _ {E X : Type 0} (told : List E → E → Option X) (es : List E) (e : E) where
  -- an event before the last one is where it was, after the same events
  earlier : (j : ℕ) (x : E) → slice_get es j ≡ Some x
      → (slice_get (es ++ e ∷ []) j ≡ Some x)
      × (told (take j (es ++ e ∷ [])) x ≡ told (take j es) x)
  earlier j x is =
      let within : j < length es = slice_get_within es j x is in (
        slice_get-get_or (es ++ e ∷ []) j x (omega (arith, within, length_snoc es e)) ∙ ap Some
            (get_or_append_left es (e ∷ []) x j within ∙ get_or_from_slice_get es j x x is),
        ap (λ before. told before x) (take-append-le j es (e ∷ []) (omega (arith, within))),
      )

  -- the last one stands after all others
  newest : (slice_get (es ++ e ∷ []) (length es) ≡ Some e)
      × (told (take (length es) (es ++ e ∷ [])) e ≡ told es e)
  newest = (
    slice_get-get_or (es ++ e ∷ []) (length es) e (omega (arith, length_snoc es e))
        ∙ ap Some (get_or-append_seam es e [] e),
    ap (λ before. told before e) (take-append_seam es (e ∷ [])),
  )

  -- an event at a position stands before the last one, or it is that one
  at_position : (j : ℕ) (x : E) → slice_get (es ++ e ∷ []) j ≡ Some x
      → (slice_get es j ≡ Some x) ⊎ ((j ≡ length es) × (x ≡ e))
  at_position j x is = go (slice_get_cases es j).1
    where
      some_is : {y z : E} → Some y ≡ Some z → y ≡ z
      some_is p = cc p

      go : ((y : E) × (j < length es) × (slice_get es j ≡ Some y) × (get_or es j y ≡ y))
          ⊎ ((length es ≤ j) × (slice_get es j ≡ None))
          → (slice_get es j ≡ Some x) ⊎ ((j ≡ length es) × (x ≡ e))
      go (inl h) = inl (h.2 ∙ sym (earlier j h.0 h.2).0 ∙ is)
      go (inr h) =
          let at : j ≡ length es =
          omega (arith, slice_get_within (es ++ e ∷ []) j x is, length_snoc es e, h.0) in
          inr (at, some_is (sym is ∙ ap (slice_get (es ++ e ∷ [])) at ∙ newest.0))

  -- a told event stays the last one where the new event tells nothing
  none_more : NoneTells told es → told es e ≡ None → NoneTells told (es ++ e ∷ [])
  none_more none silent j x is = go (at_position j x is)
    where
      go : (slice_get es j ≡ Some x) ⊎ ((j ≡ length es) × (x ≡ e))
          → told (take j (es ++ e ∷ [])) x ≡ None
      go (inl h) = (earlier j x h).1 ∙ none j x h
      go (inr h) =
          ap (λ k. told (take k (es ++ e ∷ [])) x) h.0
          ∙ ap (told (take (length es) (es ++ e ∷ []))) h.1 ∙ newest.1 ∙ silent

  still_last : (x : X) → IsLastTold told es x → told es e ≡ None → IsLastTold told (es ++ e ∷ []) x
  still_last x h silent =
      let at = earlier h.place h.event h.there in
      record {
        place = h.place;
        event = h.event;
        there = at.0;
        tells = at.1 ∙ h.tells;
        last = λ j later above is. go j later above (at_position j later is);
      }
    where
      go : (j : ℕ) (later : E) → h.place < j
          → (slice_get es j ≡ Some later) ⊎ ((j ≡ length es) × (later ≡ e))
          → told (take j (es ++ e ∷ [])) later ≡ None
      go j later above (inl i) = (earlier j later i).1 ∙ h.last j later above i
      go j later above (inr i) =
          ap (λ k. told (take k (es ++ e ∷ [])) later) i.0
          ∙ ap (told (take (length es) (es ++ e ∷ []))) i.1 ∙ newest.1 ∙ silent

  now_last : (x : X) → told es e ≡ Some x → IsLastTold told (es ++ e ∷ []) x
  now_last x tells =
      record {
        place = length es;
        event = e;
        there = newest.0;
        tells = newest.1 ∙ tells;
        last =
            λ j later above is. absurd
            (omega (arith, above, slice_get_within (es ++ e ∷ []) j later is, length_snoc es e));
      }

  -- a value that the new event tells, or else leaves, is what the last event tells,
  -- with one event more
  told_with : (otherwise before : X) → IsLastOr told otherwise es before
      → IsLastOr told otherwise (es ++ e ∷ []) (unwrap_or (told es e) before)
  told_with otherwise before h = go (told es e) refl h
    where
      go : (now : Option X) → told es e ≡ now → IsLastOr told otherwise es before
          → IsLastOr told otherwise (es ++ e ∷ []) (unwrap_or now before)
      go (Some x) is h = inl (now_last x is)
      go None is (inl h) = inl (still_last before h is)
      go None is (inr h) = inr (none_more h.0 is, h.1)

-- a value that begins as this, and that each event tells anew or leaves,
-- is what the last event tells
pub last_or : {E X : Type 0} (told : List E → E → Option X) (otherwise : X) (value : List E → X)
    → value [] ≡ otherwise
    → ((es : List E) (e : E) → value (es ++ e ∷ []) ≡ unwrap_or (told es e) (value es))
    → (es : List E) → IsLastOr told otherwise es (value es)
last_or {E} {X} told otherwise value begins each es =
    of_each_history (λ es. IsLastOr told otherwise es (value es))
    (inr ((λ j event is. absurd (no_event j event is)), begins))
    (λ es e h. subst (IsLastOr told otherwise (es ++ e ∷ [])) (sym (each es e))
    (told_with told es e otherwise (value es) h))
    es
  where
    no_event : (j : ℕ) (event : E) → slice_get [] j ≡ Some event → ⊥
    no_event j event is = omega (arith, slice_get_within [] j event is)
