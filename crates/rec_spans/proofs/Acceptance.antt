-- In a history that is not refused, each start finds its key, its place and its row free.
use Rattle.std.proofs.Common.{◌≡◌, ℕ, suc, List, [], ◌∷◌, ◌++◌, length}
use Rattle.std.proofs.Common.{Option, Some, None, refl, sym, ◌∙◌, ap, cond}
use Rattle.std.specs.Option.{option_or}
use Rattle.rec_spans.proofs.Fits.{FitsAt, Fits, AllFit, StartFits, StartsFit}
use Rattle.rec_spans.proofs.Fits.{AllFit-open_after, row-free_from_place, place-free_from_key}
use Rattle.rec_spans.proofs.Fits.{only_run, only_sub_run, only_script, history-fits}
use Rattle.rec_spans.proofs.Rows.{FindsRoom, AllFindRoom}
use Rattle.rec_spans.specs.Acts.{Act}
use Rattle.rec_spans.specs.declared.errors.ChromeTraceError.TheVariants.{SpanAlreadyOpen}
use Rattle.rec_spans.specs.declared.errors.ChromeTraceError.{ChromeTraceError}
use Rattle.rec_spans.specs.declared.settings.ChromeTraceGroupBy.{ChromeTraceGroupBy}
use Rattle.rec_spans.specs.declared.spans.Place.TheVariants as places
use Rattle.rec_spans.specs.declared.spans.Place.{Place}
use Rattle.rec_spans.specs.declared.spans.Span.{Span}
use Rattle.rec_spans.specs.declared.spans.SpanKey.TheVariants.{Run, SubRun, Script, Test}
use Rattle.rec_spans.specs.declared.spans.SpanKey.{SpanKey}
use Rattle.rec_spans.specs.History.{TraceState, after, state_after}
use Rattle.rec_spans.specs.Kinds.{history}
use Rattle.rec_spans.specs.Past.Change.{Start, Stop, Pause, Resume, Other}
use Rattle.rec_spans.specs.Past.{Change, TraceInput, in_place, of_key, open_spans}
use Rattle.rec_spans.specs.Plain.{PlainEvent}
use Rattle.rec_spans.specs.Refusals.{act_refusal, busy, failures_refusal, flow_refusal}
use Rattle.rec_spans.specs.Refusals.{history_refusal, history_refusal_after, instant_refusal}
use Rattle.rec_spans.specs.Refusals.{is_none_open, missing_refusal, next_refusal, number_refusal}
use Rattle.rec_spans.specs.Refusals.{open_refusal, row_refusal, scripts_refusal, slot_refusal}

-- ---- refusals

-- neither of two is there
pub or-none : {X : Type 0} (a b : Option X) → option_or a b ≡ None → (a ≡ None) × (b ≡ None)
or-none None b e = (refl, e)
or-none (Some x) b e = cc

or-assoc : {X : Type 0} (a b c : Option X)
    → option_or a (option_or b c) ≡ option_or (option_or a b) c
or-assoc None b c = refl
or-assoc (Some x) b c = refl

-- the refusal of two histories, one after the other
pub history_refusal_after-append : (past xs ys : List TraceInput)
    → history_refusal_after past (xs ++ ys)
    ≡ option_or (history_refusal_after past xs) (history_refusal_after (after past xs) ys)
history_refusal_after-append past [] ys = refl
history_refusal_after-append past (h ∷ xs) ys =
    ap (option_or (next_refusal (state_after past) h))
    (history_refusal_after-append (h ∷ past) xs ys)
    ∙ or-assoc (next_refusal (state_after past) h) (history_refusal_after (h ∷ past) xs)
    (history_refusal_after (after (h ∷ past) xs) ys)

-- a history that is not refused has no prefix that is
pub accepted-prefix : (xs ys : List TraceInput) → history_refusal (xs ++ ys) ≡ None
    → history_refusal xs ≡ None
accepted-prefix xs ys ok =
    (or-none (history_refusal xs) (history_refusal_after (after [] xs) ys)
    (sym (history_refusal_after-append [] xs ys) ∙ ok)).0

module _ (n : ℕ) (state : TraceState) (act : Act) (change : Change)
    (none : act_refusal n state act change ≡ None) where
  abbrev counts : Option ChromeTraceError
  counts =
      option_or (flow_refusal n act state.next_flow)
      (option_or (scripts_refusal n act state.scripts) (failures_refusal n act))

  not_missing : (missing_refusal n state.spans act ≡ None)
      × (option_or (open_refusal n state.spans change)
      (option_or (slot_refusal n state.spans change) (option_or (row_refusal n change) counts))
      ≡ None)
  not_missing = or-none (missing_refusal n state.spans act) _ none

  not_open : (open_refusal n state.spans change ≡ None)
      × (option_or (slot_refusal n state.spans change) (option_or (row_refusal n change) counts)
      ≡ None)
  not_open = or-none (open_refusal n state.spans change) _ not_missing.1

  not_busy : (slot_refusal n state.spans change ≡ None)
      × (option_or (row_refusal n change) counts ≡ None)
  not_busy = or-none (slot_refusal n state.spans change) _ not_open.1

  -- what is not refused is not refused for an open span or a busy slot
  pub free-key : open_refusal n state.spans change ≡ None
  free-key = not_open.0

  pub free-slot : slot_refusal n state.spans change ≡ None
  free-slot = not_busy.0

-- an event that is not refused is not refused for an open span or a busy slot
pub next_refusal-none : (k : TraceState) (h : TraceInput) → next_refusal k h ≡ None
    → (open_refusal (suc k.number) k.spans h.change ≡ None)
    × (slot_refusal (suc k.number) k.spans h.change ≡ None)
next_refusal-none k h e =
    let n = suc k.number in
    let a = or-none (number_refusal n)
    (option_or (instant_refusal n h.at) (act_refusal n k h.act h.change)) e in
    let b = or-none (instant_refusal n h.at) (act_refusal n k h.act h.change) a.1 in
    (free-key n k h.act h.change b.1, free-slot n k h.act h.change b.1)

-- ---- room

-- none of these spans is there, where a refusal says so
none-open : {X : Type 0} (x : X) (found : List Span)
    → cond (is_none_open found) None (Some x) ≡ None → found ≡ []
none-open x [] e = refl
none-open x (s ∷ found) e = cc

-- a start that is not refused for an open span finds its key free
pub key-free : (n : ℕ) (s : Span) (spans : List Span) → open_refusal n spans (Start s) ≡ None
    → of_key s.key spans ≡ []
key-free n s spans e = none-open (SpanAlreadyOpen n s.key) (of_key s.key spans) e

-- no span is at the place of a slot that is not busy
slot-free : (n slot : ℕ) (p : Place) (spans : List Span) → p ≡ places.Slot slot
    → cond (is_none_open (in_place p spans)) None (busy n p) ≡ None → in_place p spans ≡ []
slot-free n slot p spans at e =
    go (in_place p spans)
    (ap (λ v. cond (is_none_open (in_place p spans)) None (busy n v)) (sym at) ∙ e)
  where
    go : (found : List Span) → cond (is_none_open found) None (busy n (places.Slot slot)) ≡ None
        → found ≡ []
    go [] e = refl
    go (s ∷ found) e = cc

-- a start that fits and is not refused finds its place free, where all that is open fits
pub place-free : (n : ℕ) (s : Span) (spans : List Span) → Fits s → AllFit spans
    → of_key s.key spans ≡ [] → slot_refusal n spans (Start s) ≡ None → in_place s.place spans ≡ []
place-free n s spans fits all free e = go s.key fits free
  where
    go : (k : SpanKey) → FitsAt k s → of_key k spans ≡ [] → in_place s.place spans ≡ []
    go Run (at, pid, tid) none =
        ap (λ v. in_place v spans) at ∙ place-free_from_key Run places.Run spans only_run all none
    go SubRun (at, pid, tid) none =
        ap (λ v. in_place v spans) at
        ∙ place-free_from_key SubRun places.SubRun spans only_sub_run all none
    go (Script i) (at, pid, tid) none =
        ap (λ v. in_place v spans) at
        ∙ place-free_from_key (Script i) (places.Script i) spans (only_script i) all none
    go (Test t) (slot, at, pid, tid) none = slot-free n slot s.place spans at e

-- a change that fits and is not refused finds room
pub room-from_none : (n : ℕ) (c : Change) (spans : List Span) → StartFits c → AllFit spans
    → open_refusal n spans c ≡ None → slot_refusal n spans c ≡ None → FindsRoom c spans
room-from_none n (Start s) spans fits all no_open no_slot =
    let free = key-free n s spans no_open in
    (free, row-free_from_place s spans fits all (place-free n s spans fits all free no_slot))
room-from_none n (Stop k) spans fits all no_open no_slot = tt
room-from_none n Pause spans fits all no_open no_slot = tt
room-from_none n Resume spans fits all no_open no_slot = tt
room-from_none n Other spans fits all no_open no_slot = tt

-- an event that fits and is not refused finds room
pub room-from_accepted : (past : List TraceInput) (h : TraceInput) → AllFit (open_spans past)
    → StartFits h.change → next_refusal (state_after past) h ≡ None
    → FindsRoom h.change (open_spans past)
room-from_accepted past h all fits e =
    let (no_open, no_slot) = next_refusal-none (state_after past) h e in
    room-from_none (suc (length past)) h.change (open_spans past) fits all no_open no_slot

-- after a past whose open spans fit, events that fit and are not refused find room
pub rooms-from_accepted : (past hs : List TraceInput) → AllFit (open_spans past) → StartsFit hs
    → history_refusal_after past hs ≡ None → AllFindRoom past hs
rooms-from_accepted past [] all fits e = tt
rooms-from_accepted past (h ∷ hs) all fits e =
    let p = or-none (next_refusal (state_after past) h) (history_refusal_after (h ∷ past) hs) e in (
      room-from_accepted past h all fits.0 p.0,
      rooms-from_accepted (h ∷ past) hs (AllFit-open_after h.change (open_spans past) fits.0 all)
          fits.1 p.1,
    )

-- in a history that fits and is not refused each start finds room
pub accepted-room : (hs : List TraceInput) → StartsFit hs → history_refusal hs ≡ None
    → AllFindRoom [] hs
accepted-room hs fits ok = rooms-from_accepted [] hs tt fits ok

-- in a history of events that is not refused each start finds room
pub history-room : (g : ChromeTraceGroupBy) (events : List PlainEvent)
    → history_refusal (history g events) ≡ None → AllFindRoom [] (history g events)
history-room g events ok = accepted-room (history g events) (history-fits g events) ok
