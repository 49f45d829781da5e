-- The rows of spans that are open together are apart, since their places are.
use Rattle.std.proofs.Common.{◌≡◌, ◌≤◌, ◌+◌, ℕ, Bool, true, false, not, cond}
use Rattle.std.proofs.Common.{List, [], ◌∷◌, filter, refl, sym, ◌∙◌, ap, arith}
use Rattle.std.proofs.lemmas.Bool.{false≢true, false_from_ne_true}
use Rattle.rec_trace_events.specs.declared.rows.Row.{Row}
use Rattle.rec_spans.proofs.Filters.{filter-none, filter-no}
use Rattle.rec_spans.proofs.Keys.{row_eq-true, place_eq-true, place_eq-from, key_eq-from}
use Rattle.rec_spans.specs.Acts.Act.{RunStarts, SubRunStarts, ScriptStarts, AttemptStarts}
use Rattle.rec_spans.specs.Acts.{Act, act_of}
use Rattle.rec_spans.specs.declared.settings.ChromeTraceGroupBy.TheVariants.{Binary, Slot}
use Rattle.rec_spans.specs.declared.settings.ChromeTraceGroupBy.{ChromeTraceGroupBy}
use Rattle.rec_spans.specs.declared.spans.Place.TheVariants as places
use Rattle.rec_spans.specs.declared.spans.Place.{Place}
use Rattle.rec_spans.specs.declared.spans.Span.{Span}
use Rattle.rec_spans.specs.declared.spans.SpanKey.TheVariants.{Run, SubRun, Script, Test}
use Rattle.rec_spans.specs.declared.spans.SpanKey.{SpanKey}
use Rattle.rec_spans.specs.Keys.{key_eq, row_eq}
use Rattle.rec_spans.specs.Kinds.{change_of, history, history_after, trace_input}
use Rattle.rec_spans.specs.Past.Change.{Start, Stop, Pause, Resume, Other}
use Rattle.rec_spans.specs.Past.{Change, TraceInput, binaries, in_place}
use Rattle.rec_spans.specs.Past.{in_row, of_key, open_after, put_in}
use Rattle.rec_spans.specs.Places.{place_eq, place_lt}
use Rattle.rec_spans.specs.Plain.{PlainEvent}

-- ---- what fits

-- the place and the row of a span of this key
abbrev pub FitsAt : SpanKey → Span → Type 0
FitsAt Run s = (s.place ≡ places.Run) × (s.row.pid ≡ 0) × (s.row.tid ≡ 1)
FitsAt SubRun s = (s.place ≡ places.SubRun) × (s.row.pid ≡ 0) × (s.row.tid ≡ 2)
FitsAt (Script i) s = (s.place ≡ places.Script i) × (s.row.pid ≡ 1) × (s.row.tid ≡ i + 10000)
FitsAt (Test t) s =
    (slot : ℕ) × (s.place ≡ places.Slot slot) × (2 ≤ s.row.pid) × (s.row.tid ≡ slot + 10000)

-- the place and the row of a span go with its key
abbrev pub Fits : Span → Type 0
Fits s = FitsAt s.key s

abbrev pub AllFit : List Span → Type 0
AllFit [] = Unit {0}
AllFit (s ∷ spans) = Fits s × AllFit spans

-- what a change starts fits
abbrev pub StartFits : Change → Type 0
StartFits (Start s) = Fits s
StartFits (Stop k) = Unit {0}
StartFits Pause = Unit {0}
StartFits Resume = Unit {0}
StartFits Other = Unit {0}

-- what these events start fits
abbrev pub StartsFit : List TraceInput → Type 0
StartsFit [] = Unit {0}
StartsFit (h ∷ hs) = StartFits h.change × StartsFit hs

-- ---- rows and places

-- spans that fit and have one row have one place
same-place : (k j : SpanKey) (s x : Span) → FitsAt k s → FitsAt j x → s.row.pid ≡ x.row.pid
    → s.row.tid ≡ x.row.tid → s.place ≡ x.place
same-place Run Run s x (f, a, b) (g, c, d) p t = f ∙ sym g
same-place Run SubRun s x (f, a, b) (g, c, d) p t = absurd (omega arith)
same-place Run (Script i) s x (f, a, b) (g, c, d) p t = absurd (omega arith)
same-place Run (Test u) s x (f, a, b) (n, g, c, d) p t = absurd (omega arith)
same-place SubRun Run s x (f, a, b) (g, c, d) p t = absurd (omega arith)
same-place SubRun SubRun s x (f, a, b) (g, c, d) p t = f ∙ sym g
same-place SubRun (Script i) s x (f, a, b) (g, c, d) p t = absurd (omega arith)
same-place SubRun (Test u) s x (f, a, b) (n, g, c, d) p t = absurd (omega arith)
same-place (Script i) Run s x (f, a, b) (g, c, d) p t = absurd (omega arith)
same-place (Script i) SubRun s x (f, a, b) (g, c, d) p t = absurd (omega arith)
same-place (Script i) (Script j) s x (f, a, b) (g, c, d) p t =
    let e : i ≡ j = omega arith in f ∙ (ap places.Script e ∙ sym g)
same-place (Script i) (Test u) s x (f, a, b) (n, g, c, d) p t = absurd (omega arith)
same-place (Test u) Run s x (n, f, a, b) (g, c, d) p t = absurd (omega arith)
same-place (Test u) SubRun s x (n, f, a, b) (g, c, d) p t = absurd (omega arith)
same-place (Test u) (Script i) s x (n, f, a, b) (g, c, d) p t = absurd (omega arith)
same-place (Test u) (Test v) s x (n, f, a, b) (m, g, c, d) p t =
    let e : n ≡ m = omega arith in f ∙ (ap places.Slot e ∙ sym g)

-- spans that fit have one place where they have one row
pub place_from_row : (s x : Span) → Fits s → Fits x → s.row ≡ x.row → s.place ≡ x.place
place_from_row s x f g e =
    same-place s.key x.key s x f g (ap (λ (v : Row). v.pid) e) (ap (λ (v : Row). v.tid) e)

-- where the place of a span is free, its row is
pub row-free_from_place : (s : Span) (spans : List Span) → Fits s → AllFit spans
    → in_place s.place spans ≡ [] → in_row s.row spans ≡ []
row-free_from_place s [] f g free = refl
row-free_from_place s (x ∷ spans) f g free =
    let n = filter-none (λ (y : Span). place_eq s.place y.place) x spans free in
    filter-no (λ (y : Span). row_eq y.row s.row) x spans
    (false_from_ne_true (row_eq x.row s.row) (λ t. apart n.0 (row_eq-true x.row s.row t)))
    ∙ row-free_from_place s spans f g.1 n.1
  where
    apart : place_eq s.place x.place ≡ false → x.row ≡ s.row → ⊥
    apart none same =
        absurd (false≢true
        (sym none ∙ place_eq-from s.place x.place (place_from_row s x f g.0 (sym same))))

-- ---- keys and places

run-at : (j : SpanKey) (x : Span) → FitsAt j x → x.place ≡ places.Run → j ≡ Run
run-at Run x f e = refl
run-at SubRun x (f, g, h) e = cc
run-at (Script i) x (f, g, h) e = cc
run-at (Test t) x (n, f, g, h) e = cc

sub_run-at : (j : SpanKey) (x : Span) → FitsAt j x → x.place ≡ places.SubRun → j ≡ SubRun
sub_run-at Run x (f, g, h) e = cc
sub_run-at SubRun x f e = refl
sub_run-at (Script i) x (f, g, h) e = cc
sub_run-at (Test t) x (n, f, g, h) e = cc

script-at : (i : ℕ) (j : SpanKey) (x : Span) → FitsAt j x → x.place ≡ places.Script i → j ≡ Script i
script-at i Run x (f, g, h) e = cc
script-at i SubRun x (f, g, h) e = cc
script-at i (Script m) x (f, g, h) e = let same : m ≡ i = cc in ap Script same
script-at i (Test t) x (n, f, g, h) e = cc

-- where only spans of the key stand at the place, and the key is free, the place is
pub place-free_from_key : (k : SpanKey) (p : Place) (spans : List Span)
    → ((x : Span) → Fits x → x.place ≡ p → x.key ≡ k) → AllFit spans → of_key k spans ≡ []
    → in_place p spans ≡ []
place-free_from_key k p [] only g free = refl
place-free_from_key k p (x ∷ spans) only g free =
    let n = filter-none (λ (y : Span). key_eq y.key k) x spans free in
    filter-no (λ (y : Span). place_eq p y.place) x spans
    (false_from_ne_true (place_eq p x.place) (λ t. apart n.0 (place_eq-true p x.place t)))
    ∙ place-free_from_key k p spans only g.1 n.1
  where
    apart : key_eq x.key k ≡ false → p ≡ x.place → ⊥
    apart none same = absurd (false≢true (sym none ∙ key_eq-from x.key k (only x g.0 (sym same))))

-- only a run stands at the place of runs
pub only_run : (x : Span) → Fits x → x.place ≡ places.Run → x.key ≡ Run
only_run x f e = run-at x.key x f e

-- only a sub-run stands at the place of sub-runs
pub only_sub_run : (x : Span) → Fits x → x.place ≡ places.SubRun → x.key ≡ SubRun
only_sub_run x f e = sub_run-at x.key x f e

-- only the setup script of an index stands at its place
pub only_script : (i : ℕ) (x : Span) → Fits x → x.place ≡ places.Script i → x.key ≡ Script i
only_script i x f e = script-at i x.key x f e

-- ---- open spans

AllFit-put_in : (s : Span) (spans : List Span) → Fits s → AllFit spans → AllFit (put_in s spans)
AllFit-put_in s [] f g = (f, tt)
AllFit-put_in s (x ∷ spans) f g = go (place_lt s.place x.place) (AllFit-put_in s spans f g.1)
  where
    go : (b : Bool) → AllFit (put_in s spans) → AllFit (cond b (s ∷ x ∷ spans) (x ∷ put_in s spans))
    go true ih = (f, (g.0, g.1))
    go false ih = (g.0, ih)

AllFit-filter : (p : Span → Bool) (spans : List Span) → AllFit spans → AllFit (filter p spans)
AllFit-filter p [] g = tt
AllFit-filter p (x ∷ spans) g = go (p x) (AllFit-filter p spans g.1)
  where
    go : (b : Bool) → AllFit (filter p spans)
        → AllFit (cond b (x ∷ filter p spans) (filter p spans))
    go true ih = (g.0, ih)
    go false ih = ih

-- where what a change starts fits, what is open after it fits
pub AllFit-open_after : (c : Change) (spans : List Span) → StartFits c → AllFit spans
    → AllFit (open_after c spans)
AllFit-open_after (Start s) spans f g = AllFit-put_in s spans f g
AllFit-open_after (Stop k) spans f g = AllFit-filter (λ s. not (key_eq s.key k)) spans g
AllFit-open_after Pause spans f g = g
AllFit-open_after Resume spans f g = g
AllFit-open_after Other spans f g = g

-- ---- events

-- what an act starts fits, whatever binaries were before it
pub act-fits : (g : ChromeTraceGroupBy) (seen : List (List ℕ × ℕ)) (act : Act)
    → StartFits (change_of g seen act)
act-fits g seen RunStarts = (refl, refl, refl)
act-fits g seen SubRunStarts = (refl, refl, refl)
act-fits g seen (ScriptStarts index id) = (refl, refl, refl)
act-fits Slot seen (AttemptStarts test slot) = (slot, refl, omega arith, refl)
act-fits Binary seen (AttemptStarts test slot) = (slot, refl, omega arith, refl)
act-fits g seen _ = tt

-- what the events of a history start fits
pub history_after-fits : (g : ChromeTraceGroupBy) (past : List TraceInput)
    (events : List PlainEvent)
    → StartsFit (history_after g past events)
history_after-fits g past [] = tt
history_after-fits g past (event ∷ events) = (
  act-fits g (binaries past) (act_of event.kind),
  history_after-fits g (trace_input g (binaries past) event ∷ past) events,
)

pub history-fits : (g : ChromeTraceGroupBy) (events : List PlainEvent)
    → StartsFit (history g events)
history-fits g events = history_after-fits g [] events
