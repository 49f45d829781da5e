-- In a history that has a trace, what starts lasts as its span does.
use Rattle.std.proofs.Common.{◌≡◌, ◌≢◌, ◌<◌, ◌↔◌, ℕ, true, false, List, []}
use Rattle.std.proofs.Common.{length, Some, None, refl, sym, ◌∙◌, ap}
use Rattle.std.proofs.Common.{subst, arith}
use Rattle.std.proofs.lemmas.Bool.{false_from_ne_true}
use Rattle.std.specs.Option.{option_map_or}
use Rattle.rec_spans.proofs.Acceptance.{history-room}
use Rattle.rec_spans.proofs.Keys.{key_eq-true, key_eq-self}
use Rattle.rec_spans.proofs.PlacesOfHistory.{Has-of_key, change_at-is, event_at, open-is}
use Rattle.rec_spans.proofs.Prefixes.{room-at}
use Rattle.rec_spans.proofs.Rows.{AllFindRoom, FindsRoom}
use Rattle.rec_spans.specs.declared.settings.ChromeTraceGroupBy.{ChromeTraceGroupBy}
use Rattle.rec_spans.specs.declared.spans.Span.{Span}
use Rattle.rec_spans.specs.Keys.{key_eq}
use Rattle.rec_spans.specs.Kinds as kinds
use Rattle.rec_spans.specs.Past.Change.{Start, Stop, Pause, Resume, Other}
use Rattle.rec_spans.specs.Past.{Change, TraceInput, open_spans}
use Rattle.rec_spans.specs.Plain.{PlainEvent}
use Rattle.rec_spans.specs.Positions.{Has, IsOpen, IsSpan, change_at, past_at}
use Rattle.rec_spans.specs.Refusals.{events_refusal}
use Rattle.rec_view.specs.Extents.{Lasts, cuts_key}

module _ (history : List TraceInput) (room : AllFindRoom [] history) where
  -- what is open isn't started
  no_restart : (k : ℕ) (s x : Span) → k < length history → IsOpen history k s
      → change_at history k ≡ Some (Start x) → x.key ≡ s.key → ⊥
  no_restart k s x lt is_open is same =
      let at = event_at history k lt in
      let change : at.0.change ≡ Start x = some_is (sym (change_at-is history k at.0 at.1) ∙ is) in
      let free : FindsRoom (Start x) (open_spans (past_at history k)) =
      subst (λ c. FindsRoom c (open_spans (past_at history k))) change
      (room-at history k at.0 room at.1) in
      let has : Has (open_spans (past_at history k)) s =
      (open-is history k s (omega (arith, lt))).0 is_open in
      subst (λ spans. Has spans s) free.0
      ((Has-of_key x.key s (open_spans (past_at history k))).1 (has, sym same))
    where
      some_is : {X : Type 0} {x y : X} → Some x ≡ Some y → x ≡ y
      some_is h = cc

  module _ (a z : ℕ) (s : Span) where
    -- it stops there, as it isn't started anew
    stop_at : (c : Change) → change_at history z ≡ Some c → z < length history → IsOpen history z s
        → cuts_key s.key c ≡ true → change_at history z ≡ Some (Stop s.key)
    stop_at (Start x) is lt opens e =
        absurd (no_restart z s x lt opens is (key_eq-true x.key s.key e))
    stop_at (Stop k) is lt opens e = is ∙ ap (λ key. Some (Stop key)) (key_eq-true k s.key e)
    stop_at Pause is lt opens e = cc
    stop_at Resume is lt opens e = cc
    stop_at Other is lt opens e = cc

    no_cut : (k : ℕ) (c : Change) → change_at history k ≡ Some c → k < length history
        → IsOpen history k s → change_at history k ≢ Some (Stop s.key) → cuts_key s.key c ≡ false
    no_cut k (Start x) is lt opens never =
        false_from_ne_true (key_eq x.key s.key)
        (λ e. no_restart k s x lt opens is (key_eq-true x.key s.key e))
    no_cut k (Stop key) is lt opens never =
        false_from_ne_true (key_eq key s.key)
        (λ e. never (is ∙ ap (λ n. Some (Stop n)) (key_eq-true key s.key e)))
    no_cut k Pause is lt opens never = refl
    no_cut k Resume is lt opens never = refl
    no_cut k Other is lt opens never = refl

    not_stopped : (k : ℕ) → option_map_or (cuts_key s.key) (change_at history k) false ≡ false
        → change_at history k ≢ Some (Stop s.key)
    not_stopped k e is =
        differ (sym (ap (λ o. option_map_or (cuts_key s.key) o false) is ∙ key_eq-self s.key) ∙ e)
      where
        differ : true ≡ false → ⊥
        differ h = grind (arith, h)

    pub to_span : Lasts history a z s → IsSpan history a z s
    to_span l = record {
      starts = l.starts;
      later = l.later;
      within = l.within;
      stops = λ lt. let at = event_at history z lt in
          stop_at at.0.change (change_at-is history z at.0 at.1) lt
          (a, l.later, l.starts, (λ k p q. not_stopped k (l.first k p q)))
          (sym (ap (λ o. option_map_or (cuts_key s.key) o false) (change_at-is history z at.0 at.1))
          ∙ l.cut lt);
      first = λ k p q. not_stopped k (l.first k p q);
    }

    pub from_span : IsSpan history a z s → Lasts history a z s
    from_span l = record {
      starts = l.starts;
      later = l.later;
      within = l.within;
      cut = λ lt. ap (λ o. option_map_or (cuts_key s.key) o false) (l.stops lt) ∙ key_eq-self s.key;
      first = λ k p q.
          let lt : k < length history = (let w = l.within in omega (arith, w, q)) in
          let at = event_at history k lt in
          ap (λ o. option_map_or (cuts_key s.key) o false) (change_at-is history k at.0 at.1)
          ∙ no_cut k at.0.change (change_at-is history k at.0 at.1) lt
          (a, p, l.starts, (λ j b c. l.first j b (omega (arith, c, q)))) (l.first k p q);
    }

pub extents : (g : ChromeTraceGroupBy) (events : List PlainEvent) → events_refusal g events ≡ None
    → (a z : ℕ) (s : Span) → Lasts (kinds.history g events) a z s
    ↔ IsSpan (kinds.history g events) a z s
extents g events ok a z s =
    let room = history-room g events ok in (
      (λ l. to_span (kinds.history g events) room a z s l),
      (λ l. from_span (kinds.history g events) room a z s l),
    )
