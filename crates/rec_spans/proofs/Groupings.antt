-- Both groupings refuse alike, and show the same marks but for the pids and the names of tests.
use Rattle.std.proofs.Common.{◌≡◌, ◌^◌, ℕ, suc, Bool, true, false, not, cond, List, [], ◌∷◌}
use Rattle.std.proofs.Common.{◌++◌, map, filter, nat_lt, ℤ, Some, None, refl, sym, ◌∙◌, ap}
use Rattle.std.proofs.lemmas.List.{map-append, length-map}
use Rattle.std.specs.Option.{option_or}
use Rattle.rec_events.specs.declared.instances.OwnedTestInstanceId.{OwnedTestInstanceId}
use Rattle.rec_spans.proofs.Pids.{PidFits, PidsFit, pids-fit}
use Rattle.rec_spans.specs.Acts.Act.{RunStarts, RunEnds, SubRunStarts, SubRunEnds, ScriptStarts}
use Rattle.rec_spans.specs.Acts.Act.{ScriptEnds, ScriptIsSlow, AttemptStarts, AttemptFails}
use Rattle.rec_spans.specs.Acts.Act.{TestEnds, TestIsSlow, Pauses, Continues, Cancels, Silent}
use Rattle.rec_spans.specs.Acts.{Act, act_of}
use Rattle.rec_spans.specs.declared.errors.ChromeTraceError.TheVariants.{
  SpanAlreadyOpen,
  MissingTestStart,
  MissingStressSubRunStart,
}
use Rattle.rec_spans.specs.declared.settings.ChromeTraceGroupBy.TheVariants.{Binary, Slot}
use Rattle.rec_spans.specs.declared.spans.Phase.TheVariants.{Begin, End}
use Rattle.rec_spans.specs.declared.spans.Phase.{Phase}
use Rattle.rec_spans.specs.declared.spans.Place.{Place}
use Rattle.rec_spans.specs.declared.spans.Span.{Span}
use Rattle.rec_spans.specs.declared.spans.SpanKey.TheVariants.{Run, SubRun, Script, Test}
use Rattle.rec_spans.specs.declared.spans.SpanKey.{SpanKey}
use Rattle.rec_spans.specs.Groupings.{GroupingsAgree, ungrouped, ungrouped_mark, ungrouped_of}
use Rattle.rec_spans.specs.History.{TraceState, marks_after, state_after, trace_marks}
use Rattle.rec_spans.specs.Keys.{key_eq}
use Rattle.rec_spans.specs.Kinds.{change_of, history, history_after, trace_input}
use Rattle.rec_spans.specs.Past.Change.{Start, Stop, Pause, Resume, Other}
use Rattle.rec_spans.specs.Past.{Change, TraceInput, binaries, binaries_after, change_marks}
use Rattle.rec_spans.specs.Past.{event_marks, flow_after, in_place, is_paused, mark, marks}
use Rattle.rec_spans.specs.Past.{next_flow, of_key, open_after, open_spans, pause_after}
use Rattle.rec_spans.specs.Past.{put_in, running_scripts, scripts_after, with_key, without}
use Rattle.rec_spans.specs.Places.{place_eq, place_lt}
use Rattle.rec_spans.specs.Plain.{PlainEvent}
use Rattle.rec_spans.specs.Refusals.{act_refusal, attempt_missing, busy, history_refusal}
use Rattle.rec_spans.specs.Refusals.{history_refusal_after, instant_refusal, is_none_open}
use Rattle.rec_spans.specs.Refusals.{is_script, missing_refusal, next_refusal}
use Rattle.rec_spans.specs.Refusals.{number_refusal, open_refusal, row_refusal}
use Rattle.rec_spans.specs.Refusals.{script_missing, scripts_in, slot_refusal}

-- ---- spans

key-ungrouped : (k : SpanKey) (s : Span) → (ungrouped_of k s).key ≡ s.key
key-ungrouped Run s = refl
key-ungrouped SubRun s = refl
key-ungrouped (Script index) s = refl
key-ungrouped (Test test) s = refl

place-ungrouped : (k : SpanKey) (s : Span) → (ungrouped_of k s).place ≡ s.place
place-ungrouped Run s = refl
place-ungrouped SubRun s = refl
place-ungrouped (Script index) s = refl
place-ungrouped (Test test) s = refl

pub tid-ungrouped : (k : SpanKey) (s : Span) → (ungrouped_of k s).row.tid ≡ s.row.tid
tid-ungrouped Run s = refl
tid-ungrouped SubRun s = refl
tid-ungrouped (Script index) s = refl
tid-ungrouped (Test test) s = refl

-- a filter that doesn't see what f changes
map-filter : {X Y : Type 0} (f : X → Y) (p : Y → Bool) (q : X → Bool) → ((x : X) → p (f x) ≡ q x)
    → (xs : List X) → map f (filter q xs) ≡ filter p (map f xs)
map-filter f p q same [] = refl
map-filter f p q same (x ∷ xs) = rw (same x) (go (q x) (map-filter f p q same xs))
  where
    go : (b : Bool) → map f (filter q xs) ≡ filter p (map f xs)
        → map f (cond b (x ∷ filter q xs) (filter q xs))
        ≡ cond b (f x ∷ filter p (map f xs)) (filter p (map f xs))
    go true ih = ap (λ v. f x ∷ v) ih
    go false ih = ih

pub map-of_key : (k : SpanKey) (xs : List Span)
    → map ungrouped (of_key k xs) ≡ of_key k (map ungrouped xs)
map-of_key k xs =
    map-filter ungrouped (λ s. key_eq s.key k) (λ s. key_eq s.key k)
    (λ x. ap (λ v. key_eq v k) (key-ungrouped x.key x)) xs

map-without : (k : SpanKey) (xs : List Span)
    → map ungrouped (without k xs) ≡ without k (map ungrouped xs)
map-without k xs =
    map-filter ungrouped (λ s. not (key_eq s.key k)) (λ s. not (key_eq s.key k))
    (λ x. ap (λ v. not (key_eq v k)) (key-ungrouped x.key x)) xs

map-in_place : (p : Place) (xs : List Span)
    → map ungrouped (in_place p xs) ≡ in_place p (map ungrouped xs)
map-in_place p xs =
    map-filter ungrouped (λ s. place_eq p s.place) (λ s. place_eq p s.place)
    (λ x. ap (place_eq p) (place-ungrouped x.key x)) xs

map-put_in : (s : Span) (xs : List Span)
    → map ungrouped (put_in s xs) ≡ put_in (ungrouped s) (map ungrouped xs)
map-put_in s [] = refl
map-put_in s (x ∷ xs) =
    rw (place-ungrouped s.key s, place-ungrouped x.key x)
    (go (place_lt s.place x.place) (map-put_in s xs))
  where
    go : (b : Bool) → map ungrouped (put_in s xs) ≡ put_in (ungrouped s) (map ungrouped xs) →
        map ungrouped (cond b (s ∷ x ∷ xs) (x ∷ put_in s xs))
        ≡ cond b (ungrouped s ∷ ungrouped x ∷ map ungrouped xs)
        (ungrouped x ∷ put_in (ungrouped s) (map ungrouped xs))
    go true ih = refl
    go false ih = ap (λ v. ungrouped x ∷ v) ih

map-marks : (p : Phase) (t : ℤ) (xs : List Span)
    → map ungrouped_mark (marks p t xs) ≡ marks p t (map ungrouped xs)
map-marks p t [] = refl
map-marks p t (x ∷ xs) = ap (λ v. mark p t (ungrouped x) ∷ v) (map-marks p t xs)

-- ---- events

abbrev pub ungrouped_change : Change → Change
ungrouped_change (Start s) = Start (ungrouped s)
ungrouped_change (Stop k) = Stop k
ungrouped_change Pause = Pause
ungrouped_change Resume = Resume
ungrouped_change Other = Other

abbrev pub ungrouped_input : TraceInput → TraceInput
ungrouped_input input =
    record { at = input.at; act = input.act; change = ungrouped_change input.change }

pause-ungrouped : (c : Change) (b : Bool) → pause_after (ungrouped_change c) b ≡ pause_after c b
pause-ungrouped (Start s) b = refl
pause-ungrouped (Stop k) b = refl
pause-ungrouped Pause b = refl
pause-ungrouped Resume b = refl
pause-ungrouped Other b = refl

open-ungrouped : (c : Change) (xs : List Span)
    → open_after (ungrouped_change c) (map ungrouped xs) ≡ map ungrouped (open_after c xs)
open-ungrouped (Start s) xs = sym (map-put_in s xs)
open-ungrouped (Stop k) xs = sym (map-without k xs)
open-ungrouped Pause xs = refl
open-ungrouped Resume xs = refl
open-ungrouped Other xs = refl

binaries-ungrouped : (c : Change) (seen : List (List ℕ × ℕ))
    → binaries_after (ungrouped_change c) seen ≡ binaries_after c seen
binaries-ungrouped (Start s) seen = ap (λ k. with_key k seen) (key-ungrouped s.key s)
binaries-ungrouped (Stop k) seen = refl
binaries-ungrouped Pause seen = refl
binaries-ungrouped Resume seen = refl
binaries-ungrouped Other seen = refl

marks-ungrouped : (p : Bool) (xs : List Span) (t : ℤ) (c : Change)
    → change_marks p (map ungrouped xs) t (ungrouped_change c)
    ≡ map ungrouped_mark (change_marks p xs t c)
marks-ungrouped true xs t (Start s) = refl
marks-ungrouped false xs t (Start s) = refl
marks-ungrouped true xs t (Stop k) = sym (
    map-append ungrouped_mark (marks Begin t (of_key k xs)) (marks End t (of_key k xs))
    ∙ rw (map-marks Begin t (of_key k xs), map-marks End t (of_key k xs), map-of_key k xs) refl)
marks-ungrouped false xs t (Stop k) =
    sym (map-marks End t (of_key k xs) ∙ ap (marks End t) (map-of_key k xs))
marks-ungrouped true xs t Pause = refl
marks-ungrouped false xs t Pause = sym (map-marks End t xs)
marks-ungrouped true xs t Resume = sym (map-marks Begin t xs)
marks-ungrouped false xs t Resume = refl
marks-ungrouped p xs t Other = refl

-- ---- pasts

past-paused : (past : List TraceInput) → is_paused (map ungrouped_input past) ≡ is_paused past
past-paused [] = refl
past-paused (input ∷ past) =
    pause-ungrouped input.change (is_paused (map ungrouped_input past))
    ∙ ap (pause_after input.change) (past-paused past)

past-open : (past : List TraceInput)
    → open_spans (map ungrouped_input past) ≡ map ungrouped (open_spans past)
past-open [] = refl
past-open (input ∷ past) =
    ap (open_after (ungrouped_change input.change)) (past-open past)
    ∙ open-ungrouped input.change (open_spans past)

past-binaries : (past : List TraceInput) → binaries (map ungrouped_input past) ≡ binaries past
past-binaries [] = refl
past-binaries (input ∷ past) =
    binaries-ungrouped input.change (binaries (map ungrouped_input past))
    ∙ ap (binaries_after input.change) (past-binaries past)

past-scripts : (past : List TraceInput)
    → running_scripts (map ungrouped_input past) ≡ running_scripts past
past-scripts [] = refl
past-scripts (input ∷ past) = ap (scripts_after input.act) (past-scripts past)

past-flow : (past : List TraceInput) → next_flow (map ungrouped_input past) ≡ next_flow past
past-flow [] = refl
past-flow (input ∷ past) = ap (flow_after input.act) (past-flow past)

abbrev pub ungrouped_state : TraceState → TraceState
ungrouped_state state = record {
  number = state.number;
  in_pause = state.in_pause;
  spans = map ungrouped state.spans;
  binaries = state.binaries;
  scripts = state.scripts;
  next_flow = state.next_flow;
}

pub past-state : (past : List TraceInput)
    → state_after (map ungrouped_input past) ≡ ungrouped_state (state_after past)
past-state past =
    let n = length-map past ungrouped_input in
    let p = past-paused past in
    let o = past-open past in
    let b = past-binaries past in
    let s = past-scripts past in
    let f = past-flow past in
    λ i. record {
      number = n i;
      in_pause = p i;
      spans = o i;
      binaries = b i;
      scripts = s i;
      next_flow = f i;
    }

-- ---- marks

event-ungrouped : (past : List TraceInput) (input : TraceInput)
    → event_marks (map ungrouped_input past) (ungrouped_input input)
    ≡ map ungrouped_mark (event_marks past input)
event-ungrouped past input =
    rw (past-paused past, past-open past)
    (marks-ungrouped (is_paused past) (open_spans past) input.at input.change)

history-ungrouped : (past hs : List TraceInput)
    → marks_after (map ungrouped_input past) (map ungrouped_input hs)
    ≡ map ungrouped_mark (marks_after past hs)
history-ungrouped past [] = refl
history-ungrouped past (h ∷ hs) =
    ap (λ v. v ++ marks_after (map ungrouped_input (h ∷ past)) (map ungrouped_input hs))
    (event-ungrouped past h)
    ∙ (ap (λ v. map ungrouped_mark (event_marks past h) ++ v) (history-ungrouped (h ∷ past) hs)
    ∙ sym (map-append ungrouped_mark (event_marks past h) (marks_after (h ∷ past) hs)))

-- ---- refusals

none-ungrouped : (xs : List Span) → is_none_open (map ungrouped xs) ≡ is_none_open xs
none-ungrouped [] = refl
none-ungrouped (x ∷ xs) = refl

none-of_key : (k : SpanKey) (xs : List Span)
    → is_none_open (of_key k (map ungrouped xs)) ≡ is_none_open (of_key k xs)
none-of_key k xs = ap is_none_open (sym (map-of_key k xs)) ∙ none-ungrouped (of_key k xs)

none-in_place : (p : Place) (xs : List Span)
    → is_none_open (in_place p (map ungrouped xs)) ≡ is_none_open (in_place p xs)
none-in_place p xs = ap is_none_open (sym (map-in_place p xs)) ∙ none-ungrouped (in_place p xs)

-- setup scripts keep their names
script-kept : (index : ℕ) (k : SpanKey) (x : Span) → key_eq k (Script index) ≡ true
    → ungrouped_of k x ≡ x
script-kept index Run x e = refl
script-kept index SubRun x e = refl
script-kept index (Script i) x e = refl
script-kept index (Test test) x e = cc

scripts-kept : (k : SpanKey) (x : Span) → is_script k ≡ true → ungrouped_of k x ≡ x
scripts-kept Run x e = refl
scripts-kept SubRun x e = refl
scripts-kept (Script i) x e = refl
scripts-kept (Test test) x e = cc

-- where f leaves alone what passes, it leaves alone all that passes
map-kept : {X : Type 0} (f : X → X) (p : X → Bool) → ((x : X) → p x ≡ true → f x ≡ x)
    → (xs : List X) → map f (filter p xs) ≡ filter p xs
map-kept f p same [] = refl
map-kept f p same (x ∷ xs) = go (p x) refl (map-kept f p same xs)
  where
    go : (b : Bool) → p x ≡ b → map f (filter p xs) ≡ filter p xs
        → map f (cond b (x ∷ filter p xs) (filter p xs)) ≡ cond b (x ∷ filter p xs) (filter p xs)
    go true e ih = rw (same x e, ih) refl
    go false e ih = ih

same-script : (index : ℕ) (xs : List Span)
    → of_key (Script index) (map ungrouped xs) ≡ of_key (Script index) xs
same-script index xs =
    sym (map-of_key (Script index) xs)
    ∙ map-kept ungrouped (λ s. key_eq s.key (Script index)) (λ x e. script-kept index x.key x e) xs

pub same-scripts : (xs : List Span) → scripts_in (map ungrouped xs) ≡ scripts_in xs
same-scripts xs =
    sym (map-filter ungrouped (λ s. is_script s.key) (λ s. is_script s.key)
    (λ x. ap is_script (key-ungrouped x.key x)) xs)
    ∙ map-kept ungrouped (λ s. is_script s.key) (λ x e. scripts-kept x.key x e) xs

same-attempt : (n : ℕ) (xs : List Span) (test : OwnedTestInstanceId)
    → attempt_missing n (map ungrouped xs) test ≡ attempt_missing n xs test
same-attempt n xs test =
    ap (λ b. cond b (Some (MissingTestStart n test.binary_id test.test_name)) None)
    (none-of_key (Test test) xs)

same-missing : (n : ℕ) (xs : List Span) (act : Act)
    → missing_refusal n (map ungrouped xs) act ≡ missing_refusal n xs act
same-missing n xs RunStarts = refl
same-missing n xs RunEnds = refl
same-missing n xs SubRunStarts = refl
same-missing n xs SubRunEnds =
    ap (λ b. cond b (Some (MissingStressSubRunStart n)) None) (none-of_key SubRun xs)
same-missing n xs (ScriptStarts index id) = refl
same-missing n xs (ScriptEnds index id) = ap (λ v. script_missing n v id) (same-script index xs)
same-missing n xs (ScriptIsSlow id) = ap (λ v. script_missing n v id) (same-scripts xs)
same-missing n xs (AttemptStarts test slot) = refl
same-missing n xs (AttemptFails test) = same-attempt n xs test
same-missing n xs (TestEnds test failures) = same-attempt n xs test
same-missing n xs (TestIsSlow test) = same-attempt n xs test
same-missing n xs (Pauses scripts) = refl
same-missing n xs (Continues scripts) = refl
same-missing n xs (Cancels scripts) = refl
same-missing n xs Silent = refl

same-open : (n : ℕ) (xs : List Span) (c : Change)
    → open_refusal n (map ungrouped xs) (ungrouped_change c) ≡ open_refusal n xs c
same-open n xs (Start s) =
    ap (λ k. cond (is_none_open (of_key k (map ungrouped xs))) None (Some (SpanAlreadyOpen n k)))
    (key-ungrouped s.key s)
    ∙ ap (λ b. cond b None (Some (SpanAlreadyOpen n s.key))) (none-of_key s.key xs)
same-open n xs (Stop k) = refl
same-open n xs Pause = refl
same-open n xs Resume = refl
same-open n xs Other = refl

same-slot : (n : ℕ) (xs : List Span) (c : Change)
    → slot_refusal n (map ungrouped xs) (ungrouped_change c) ≡ slot_refusal n xs c
same-slot n xs (Start s) =
    ap (λ p. cond (is_none_open (in_place p (map ungrouped xs))) None (busy n p))
    (place-ungrouped s.key s)
    ∙ ap (λ b. cond b None (busy n s.place)) (none-in_place s.place xs)
same-slot n xs (Stop k) = refl
same-slot n xs Pause = refl
same-slot n xs Resume = refl
same-slot n xs Other = refl

-- the pid of nothing but a test is seen by neither
pid-ungrouped : (k : SpanKey) (s : Span) → nat_lt s.row.pid (2 ^ 64) ≡ true
    → nat_lt (ungrouped_of k s).row.pid (2 ^ 64) ≡ true
pid-ungrouped Run s fits = fits
pid-ungrouped SubRun s fits = fits
pid-ungrouped (Script index) s fits = fits
pid-ungrouped (Test test) s fits = refl

same-row : (n : ℕ) (c : Change) → PidFits c → row_refusal n (ungrouped_change c) ≡ row_refusal n c
same-row n (Start s) fits =
    rw (tid-ungrouped s.key s, place-ungrouped s.key s, pid-ungrouped s.key s fits, fits) refl
same-row n (Stop k) fits = refl
same-row n Pause fits = refl
same-row n Resume fits = refl
same-row n Other fits = refl

same-act : (n : ℕ) (state : TraceState) (act : Act) (c : Change) → PidFits c
    → act_refusal n (ungrouped_state state) act (ungrouped_change c) ≡ act_refusal n state act c
same-act n state act c fits = rw (
  same-missing n state.spans act,
  same-open n state.spans c,
  same-slot n state.spans c,
  same-row n c fits,
) refl

same-refusal : (state : TraceState) (input : TraceInput) → PidFits input.change
    → next_refusal (ungrouped_state state) (ungrouped_input input) ≡ next_refusal state input
same-refusal state input fits =
    ap (λ v. option_or (number_refusal (suc state.number))
    (option_or (instant_refusal (suc state.number) input.at) v))
    (same-act (suc state.number) state input.act input.change fits)

refusal-ungrouped : (past hs : List TraceInput) → PidsFit hs
    → history_refusal_after (map ungrouped_input past) (map ungrouped_input hs)
    ≡ history_refusal_after past hs
refusal-ungrouped past [] fits = refl
refusal-ungrouped past (h ∷ hs) fits =
    ap (λ v. option_or (next_refusal v (ungrouped_input h))
    (history_refusal_after (map ungrouped_input (h ∷ past)) (map ungrouped_input hs)))
    (past-state past)
    ∙ (ap (λ v.
    option_or v (history_refusal_after (map ungrouped_input (h ∷ past)) (map ungrouped_input hs)))
    (same-refusal (state_after past) h fits.0)
    ∙ ap (option_or (next_refusal (state_after past) h)) (refusal-ungrouped (h ∷ past) hs fits.1))

-- ---- both groupings

-- the groupings differ in nothing else
pub same-change : (seen : List (List ℕ × ℕ)) (act : Act)
    → ungrouped_change (change_of Binary seen act) ≡ ungrouped_change (change_of Slot seen act)
same-change seen RunStarts = refl
same-change seen RunEnds = refl
same-change seen SubRunStarts = refl
same-change seen SubRunEnds = refl
same-change seen (ScriptStarts index id) = refl
same-change seen (ScriptEnds index id) = refl
same-change seen (ScriptIsSlow id) = refl
same-change seen (AttemptStarts test slot) = refl
same-change seen (AttemptFails test) = refl
same-change seen (TestEnds test failures) = refl
same-change seen (TestIsSlow test) = refl
same-change seen (Pauses scripts) = refl
same-change seen (Continues scripts) = refl
same-change seen (Cancels scripts) = refl
same-change seen Silent = refl

same-histories : (ps qs : List TraceInput) (events : List PlainEvent) → binaries ps ≡ binaries qs →
    map ungrouped_input (history_after Binary ps events)
    ≡ map ungrouped_input (history_after Slot qs events)
same-histories ps qs [] same = refl
same-histories ps qs (event ∷ events) same =
    let act = act_of event.kind in
    let changes : ungrouped_change (change_of Binary (binaries ps) act)
    ≡ ungrouped_change (change_of Slot (binaries qs) act) =
    same-change (binaries ps) act ∙ ap (λ v. ungrouped_change (change_of Slot v act)) same in
    let seen : binaries (trace_input Binary (binaries ps) event ∷ ps)
    ≡ binaries (trace_input Slot (binaries qs) event ∷ qs) =
    sym (binaries-ungrouped (change_of Binary (binaries ps) act) (binaries ps))
    ∙ (ap (λ c. binaries_after c (binaries ps)) changes
    ∙ (binaries-ungrouped (change_of Slot (binaries qs) act) (binaries ps)
    ∙ ap (binaries_after (change_of Slot (binaries qs) act)) same)) in
    ap
    (λ c. record { at = (trace_input Binary (binaries ps) event).at; act = act; change = c } ∷ map
    ungrouped_input (history_after Binary (trace_input Binary (binaries ps) event ∷ ps) events))
    changes
    ∙ ap (λ v. ungrouped_input (trace_input Slot (binaries qs) event) ∷ v)
    (same-histories (trace_input Binary (binaries ps) event ∷ ps)
    (trace_input Slot (binaries qs) event ∷ qs) events seen)

pub groupings-agree : (events : List PlainEvent) → GroupingsAgree events
groupings-agree events =
    let same = same-histories [] [] events refl in
    record {
      refusal = λ few.
          sym (refusal-ungrouped [] (history Binary events) (pids-fit Binary events few))
          ∙ (ap history_refusal same
          ∙ refusal-ungrouped [] (history Slot events) (pids-fit Slot events few));
      marks =
          sym (history-ungrouped [] (history Binary events))
          ∙ (ap trace_marks same ∙ history-ungrouped [] (history Slot events));
    }
