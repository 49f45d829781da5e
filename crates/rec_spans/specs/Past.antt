-- The marks of each event of a run in its trace, after what came before. A past is the list of the
-- trace inputs so far, the newest first.
use Rattle.std.specs.BTreeMap.{insert_entry}
use Rattle.std.specs.Cmp.Lexicographic.{slice_cmp}
use Rattle.std.specs.Map.{lookup}
use Rattle.std.specs.Ordering.{nat_cmp}
use Rattle.std.specs.Prelude.{ℕ, suc, ◌-◌, ℤ, Bool, true, false, not, List, [], ◌∷◌, ◌++◌}
use Rattle.std.specs.Prelude.{length, map, filter, bytes_eq, Option, is_some, if◌then◌else◌}
use Rattle.rec_trace_events.specs.declared.rows.Row.{Row}
use Rattle.rec_spans.specs.Acts.Act.{ScriptStarts, ScriptEnds, AttemptFails}
use Rattle.rec_spans.specs.Acts.Act.{Pauses, Continues, Cancels}
use Rattle.rec_spans.specs.Acts.{Act}
use Rattle.rec_spans.specs.declared.spans.Phase.TheVariants.{Begin, End}
use Rattle.rec_spans.specs.declared.spans.Phase.{Phase}
use Rattle.rec_spans.specs.declared.spans.Place.{Place}
use Rattle.rec_spans.specs.declared.spans.Span.{Span}
use Rattle.rec_spans.specs.declared.spans.SpanKey.TheVariants as keys
use Rattle.rec_spans.specs.declared.spans.SpanKey.{SpanKey}
use Rattle.rec_spans.specs.Keys.{key_eq, row_eq}
use Rattle.rec_spans.specs.Places.{place_eq, place_lt}

-- what an event does: it starts a span, stops the span of a key, pauses the run, lets it go on,
-- or none of these
pub data Change : Type 0 where
  Start : Span → Change
  Stop : SpanKey → Change
  Pause : Change
  Resume : Change
  Other : Change

-- an event as a trace sees it: its instant in microseconds, what it is,
-- and what it does to the spans
pub record TraceInput : Type 0 where
  pub at : ℤ
  pub act : Act
  pub change : Change

-- the begin or the end of a slice of a span, at an instant
pub record Mark : Type 0 where
  pub phase : Phase
  pub span : Span
  pub at : ℤ

-- ---- pauses

abbrev pub pause_after : Change → Bool → Bool
pause_after Pause before = true
pause_after Resume before = false
pause_after (Start s) before = before
pause_after (Stop k) before = before
pause_after Other before = before

-- whether the last pause or continuation of the past is a pause
abbrev pub is_paused : List TraceInput → Bool
is_paused [] = false
is_paused (input ∷ past) = pause_after input.change (is_paused past)

-- ---- open spans

-- the spans of a key, those at a place, those in a row, and those of every other key
abbrev pub of_key : SpanKey → List Span → List Span
of_key k spans = filter (λ s. key_eq s.key k) spans

abbrev pub in_place : Place → List Span → List Span
in_place p spans = filter (λ s. place_eq p s.place) spans

abbrev pub in_row : Row → List Span → List Span
in_row r spans = filter (λ s. row_eq s.row r) spans

abbrev pub without : SpanKey → List Span → List Span
without k spans = filter (λ s. not (key_eq s.key k)) spans

-- the span put in by its place
abbrev pub put_in : Span → List Span → List Span
put_in s [] = s ∷ []
put_in s (x ∷ spans) = if place_lt s.place x.place then s ∷ x ∷ spans else (x ∷ put_in s spans)

-- a start puts its span in, a stop removes that of its key
abbrev pub open_after : Change → List Span → List Span
open_after (Start s) spans = put_in s spans
open_after (Stop k) spans = without k spans
open_after Pause spans = spans
open_after Resume spans = spans
open_after Other spans = spans

-- the spans that are open after the past, by place
abbrev pub open_spans : List TraceInput → List Span
open_spans [] = []
open_spans (input ∷ past) = open_after input.change (open_spans past)

-- ---- binaries and counts

-- the number of a binary: how many others started an attempt before it
abbrev pub number_of : List ℕ → List (List ℕ × ℕ) → Option ℕ
number_of b seen = lookup (λ c. bytes_eq b c) seen

-- the binaries by name, each with its number, after an attempt of this one has started
abbrev pub with_binary : List ℕ → List (List ℕ × ℕ) → List (List ℕ × ℕ)
with_binary b seen =
    if is_some (number_of b seen) then seen
    else insert_entry (slice_cmp nat_cmp) seen b (length seen)

abbrev pub with_key : SpanKey → List (List ℕ × ℕ) → List (List ℕ × ℕ)
with_key keys.Run seen = seen
with_key keys.SubRun seen = seen
with_key (keys.Script index) seen = seen
with_key (keys.Test test) seen = with_binary test.binary_id seen

abbrev pub binaries_after : Change → List (List ℕ × ℕ) → List (List ℕ × ℕ)
binaries_after (Start s) seen = with_key s.key seen
binaries_after (Stop k) seen = seen
binaries_after Pause seen = seen
binaries_after Resume seen = seen
binaries_after Other seen = seen

-- the binaries that started an attempt
abbrev pub binaries : List TraceInput → List (List ℕ × ℕ)
binaries [] = []
binaries (input ∷ past) = binaries_after input.change (binaries past)

abbrev pub scripts_after : Act → ℕ → ℕ
scripts_after (ScriptStarts index id) before = suc before
scripts_after (ScriptEnds index id) before = before - 1
scripts_after (Pauses scripts) before = scripts
scripts_after (Continues scripts) before = scripts
scripts_after (Cancels scripts) before = scripts
scripts_after _ before = before

-- how many setup scripts run
abbrev pub running_scripts : List TraceInput → ℕ
running_scripts [] = 0
running_scripts (input ∷ past) = scripts_after input.act (running_scripts past)

abbrev pub flow_after : Act → ℕ → ℕ
flow_after (AttemptFails test) before = suc before
flow_after _ before = before

-- the next flow number: how many attempts failed
abbrev pub next_flow : List TraceInput → ℕ
next_flow [] = 0
next_flow (input ∷ past) = flow_after input.act (next_flow past)

-- ---- marks

abbrev pub mark : Phase → ℤ → Span → Mark
mark phase t s = record { phase = phase; span = s; at = t }

-- the begins, or the ends, of these spans at an instant
abbrev pub marks : Phase → ℤ → List Span → List Mark
marks phase t spans = map (mark phase t) spans

-- the marks of a change at an instant, in a pause and outside one, where these spans are open. In a
-- pause a start and a stop have both marks: a begin and its end at one instant
abbrev pub change_marks : Bool → List Span → ℤ → Change → List Mark
change_marks in_pause spans t (Start s) =
    marks Begin t (s ∷ []) ++ (if in_pause then marks End t (s ∷ []) else [])
change_marks in_pause spans t (Stop k) =
    (if in_pause then marks Begin t (of_key k spans) else []) ++ marks End t (of_key k spans)
change_marks in_pause spans t Pause = if in_pause then [] else marks End t spans
change_marks in_pause spans t Resume = if in_pause then marks Begin t spans else []
change_marks in_pause spans t Other = []

-- the marks of an event after the past
abbrev pub event_marks : List TraceInput → TraceInput → List Mark
event_marks past input = change_marks (is_paused past) (open_spans past) input.at input.change
