-- The event at a place of a history, and whether the history is refused there.
use Rattle.std.proofs.Common.{◌≡◌, ◌<◌, ◌≤◌, ℕ, zero, suc, List, [], ◌∷◌, ◌++◌, take, drop, length}
use Rattle.std.proofs.Common.{slice_get, option_map, Some, None, refl, sym, ◌∙◌, ap, arith}
use Rattle.std.proofs.lemmas.List.{length-reverse, length-take-le, take-append-drop}
use Rattle.std.proofs.lemmas.Option.{slice_get-map}
use Rattle.std.specs.Option.{option_or}
use Rattle.rec_spans.proofs.Acceptance.{history_refusal_after-append}
use Rattle.rec_spans.proofs.Fits.{AllFit, AllFit-open_after, StartFits, StartsFit, history-fits}
use Rattle.rec_spans.proofs.PlacesOfHistory.{below_length, event_at, past_at-suc, take-place}
use Rattle.rec_spans.proofs.Prefixes.{after-is_reverse, drop-place}
use Rattle.rec_spans.proofs.Pushes.{history_refusal-push}
use Rattle.rec_spans.specs.Acts.{act_of}
use Rattle.rec_spans.specs.declared.errors.ChromeTraceError.{ChromeTraceError}
use Rattle.rec_spans.specs.declared.settings.ChromeTraceGroupBy.TheVariants.{Slot}
use Rattle.rec_spans.specs.History.{after, state_after}
use Rattle.rec_spans.specs.Kinds.{history, history_after, trace_input}
use Rattle.rec_spans.specs.Past.{TraceInput, binaries, open_spans}
use Rattle.rec_spans.specs.Plain.{PlainEvent}
use Rattle.rec_spans.specs.Positions.{past_at}
use Rattle.rec_spans.specs.Refusals.{events_refusal, history_refusal}
use Rattle.rec_spans.specs.Refusals.{history_refusal_after, next_refusal}
use Rattle.rec_slots.specs.Acts.{acts, slot_act}
use Rattle.rec_slots.specs.Runs.{instant, nanoseconds}

-- ---- lists

-- the items up to and with a place
pub take-at : {X : Type 0} (xs : List X) (i : ℕ) (x : X) → slice_get xs i ≡ Some x
    → take (suc i) xs ≡ take i xs ++ x ∷ []
take-at [] i x is = cc
take-at (y ∷ xs) zero x is = cc
take-at (y ∷ xs) (suc i) x is = ap (λ v. y ∷ v) (take-at xs i x is)

-- a place with an item is below the length
pub below : {X : Type 0} (xs : List X) (i : ℕ) (x : X) → slice_get xs i ≡ Some x → i < length xs
below [] i x is = cc
below (y ∷ xs) zero x is = omega arith
below (y ∷ xs) (suc i) x is = let lt = below xs i x is in omega arith

-- ---- histories

-- a history has an event for each
pub length-history : (past : List TraceInput) (events : List PlainEvent)
    → length (history_after Slot past events) ≡ length events
length-history past [] = refl
length-history past (event ∷ events) =
    ap suc (length-history (trace_input Slot (binaries past) event ∷ past) events)

history-at : (past : List TraceInput) (events : List PlainEvent) (n : ℕ) (e : PlainEvent)
    → slice_get events n ≡ Some e
    → slice_get (history_after Slot past events) n
    ≡ Some (trace_input Slot (binaries (after past (take n (history_after Slot past events)))) e)
history-at past [] n e is = cc
history-at past (x ∷ events) zero e is =
    let same : x ≡ e = cc in ap (λ (v : PlainEvent). Some (trace_input Slot (binaries past) v)) same
history-at past (x ∷ events) (suc n) e is =
    history-at (trace_input Slot (binaries past) x ∷ past) events n e is

-- all that is open fits
pub starts_fit-at : (h : List TraceInput) (n : ℕ) (e : TraceInput) → StartsFit h
    → slice_get h n ≡ Some e → StartFits e.change
starts_fit-at [] n e fits is = cc
starts_fit-at (x ∷ h) zero e fits is = let same : x ≡ e = cc in ap-fits same fits.0
  where
    ap-fits : x ≡ e → StartFits x.change → StartFits e.change
    ap-fits same f = rw (sym same) f
starts_fit-at (x ∷ h) (suc n) e fits is = starts_fit-at h n e fits.1 is

open_fit : (h : List TraceInput) (n : ℕ) → StartsFit h → n ≤ length h
    → AllFit (open_spans (past_at h n))
open_fit h zero fits le = tt
open_fit h (suc n) fits le =
    let at = event_at h n le in
    rw (past_at-suc h n at.0 at.1) (AllFit-open_after at.0.change (open_spans (past_at h n))
    (starts_fit-at h n at.0 fits at.1) (open_fit h n fits (omega arith)))

-- ---- the event at a place

module _ (events : List PlainEvent) (n : ℕ) (e : PlainEvent)
    (is : slice_get events n ≡ Some e) where
  abbrev h : List TraceInput
  h = history Slot events

  abbrev past : List TraceInput
  past = past_at h n

  abbrev pub input : TraceInput
  input = trace_input Slot (binaries past) e

  pub input-at : slice_get (history Slot events) n ≡ Some input
  input-at =
      history-at [] events n e is
      ∙ ap (λ p. Some (trace_input Slot (binaries p) e)) (after-is_reverse (take n h))

  pub past-more : past_at (history Slot events) (suc n) ≡ input ∷ past_at (history Slot events) n
  past-more = past_at-suc h n input input-at

  pub act-at : slice_get (acts events) n ≡ Some (slot_act (act_of e.kind))
  act-at =
      slice_get-map (λ (x : PlainEvent). slot_act (act_of x.kind)) events n
      ∙ ap (option_map (λ (x : PlainEvent). slot_act (act_of x.kind))) is

  pub instant-at : instant events n ≡ nanoseconds e.timestamp
  instant-at = rw is refl

  pub within : n < length events
  within = below events n e is

  pub within-history : n < length (history Slot events)
  within-history = below_length h n input input-at

  -- so many events are past
  pub past-length : length (past_at (history Slot events) n) ≡ n
  past-length =
      let lt = within-history in length-reverse (take n h) ∙ length-take-le n h (omega arith)

  pub fit-here : AllFit (open_spans (past_at (history Slot events) n))
  fit-here = let lt = within-history in open_fit h n (history-fits Slot events) (omega arith)

  pub input-fits : StartFits input.change
  input-fits = starts_fit-at h n input (history-fits Slot events) input-at

  -- the events are refused for this event, where those before aren't
  pub refused-here : history_refusal (take n (history Slot events)) ≡ None
      → (cause : ChromeTraceError)
      → next_refusal (state_after (past_at (history Slot events) n)) input ≡ Some cause
      → events_refusal Slot events ≡ Some cause
  refused-here accepted cause is_refused =
      let rest = history_refusal_after (input ∷ past) (drop (suc n) h) in
      ap history_refusal (sym (take-append-drop n h))
      ∙ history_refusal_after-append [] (take n h) (drop n h)
      ∙ ap (λ o. option_or o (history_refusal_after (after [] (take n h)) (drop n h))) accepted
      ∙ ap (λ p. history_refusal_after p (drop n h)) (after-is_reverse (take n h))
      ∙ ap (history_refusal_after past) (drop-place h n input input-at)
      ∙ ap (λ o. option_or o rest) is_refused

  pub accepted-here : history_refusal (take n (history Slot events)) ≡ None
      → next_refusal (state_after (past_at (history Slot events) n)) input ≡ None
      → history_refusal (take (suc n) (history Slot events)) ≡ None
  accepted-here accepted none =
      ap history_refusal (take-place h n input input-at)
      ∙ history_refusal-push (take n h) input accepted
      ∙ ap (λ p. next_refusal (state_after p) input) (after-is_reverse (take n h))
      ∙ none
