-- The arrows that are read of a trace start and finish at slices of one test.
use Rattle.std.proofs.Common.{◌≡◌, inl, inr, ℕ, ◌==◌, ℤ, Bool, true, false, cond, List, []}
use Rattle.std.proofs.Common.{◌∷◌, ◌++◌, map, Option, None, Some, refl, sym, ap, ◌∙◌, subst}
use Rattle.std.proofs.lemmas.Bool.Decides.{Decides-eqb}
use Rattle.std.proofs.lemmas.List.Concat.{flat_map-append}
use Rattle.std.proofs.lemmas.List.{append-nil, append_assoc}
use Rattle.std.specs.Bool.{⊤}
use Rattle.std.specs.Prelude.{bytes_eq, codes, option_and_then, option_map, option_to_list}
use Rattle.semver.specs.Parse.{Parts}
use Rattle.serde_json.specs.Data.{Data}
use Rattle.rec_events.specs.declared.events.CoreEventKind.TheVariants.{
  RunStarted,
  StressSubRunStarted,
  SetupScriptStarted,
  SetupScriptSlow,
  TestStarted,
  TestSlow,
  TestRetryStarted,
  TestSkipped,
  RunBeginCancel,
  RunPaused,
  RunContinued,
  StressSubRunFinished,
  RunFinished,
}
use Rattle.rec_events.specs.declared.events.OutputEventKind.TheVariants.{
  SetupScriptFinished,
  TestAttemptFailedWillRetry,
  TestFinished,
}
use Rattle.rec_events.specs.declared.events.TestEventKindSummary.TheVariants.{Core, Output}
use Rattle.rec_events.specs.declared.instances.OwnedTestInstanceId.{OwnedTestInstanceId}
use Rattle.rec_events.specs.Times.{micros}
use Rattle.rec_trace_events.proofs.ReadEvents.{arrow_finish-read, arrow_start-read, begin-args}
use Rattle.rec_trace_events.proofs.ReadEvents.{begin-read, end-args, end-read, failed-names}
use Rattle.rec_trace_events.proofs.ReadEvents.{mark-read, process-read, results-read}
use Rattle.rec_trace_events.proofs.ReadEvents.{retry-names, row-read, running-read, slow-read}
use Rattle.rec_trace_events.specs.Args.{failed_attempt_args, retry_begin_args}
use Rattle.rec_trace_events.specs.declared.rows.Row.{Row}
use Rattle.rec_trace_events.specs.ReadEvents.{ReadEvent, arrow_read, event_read, test_in}
use Rattle.rec_trace_events.specs.RowNames.{slot_name}
use Rattle.rec_trace_events.specs.TraceEvents.{arrow_finish, arrow_start, concurrency_event}
use Rattle.rec_trace_events.specs.TraceEvents.{mark_event, results_event, slow_event}
use Rattle.rec_spans.proofs.EventMarks.{Has-append}
use Rattle.rec_spans.specs.declared.settings.ChromeTraceGroupBy.{ChromeTraceGroupBy}
use Rattle.rec_spans.specs.declared.spans.Phase.TheVariants.{Begin, End}
use Rattle.rec_spans.specs.declared.spans.Phase.{Phase}
use Rattle.rec_spans.specs.declared.spans.Span.{Span}
use Rattle.rec_spans.specs.declared.spans.SpanKey.TheVariants as keys
use Rattle.rec_spans.specs.History.{TraceState, state_after}
use Rattle.rec_spans.specs.Kinds.{test_span, trace_input}
use Rattle.rec_spans.specs.Past.{TraceInput, binaries, mark, of_key}
use Rattle.rec_spans.specs.Plain.{PlainEvent, PlainKind}
use Rattle.rec_spans.specs.Positions.{Has}
use Rattle.rec_spans.specs.Refusals.{events_refusal}
use Rattle.rec_trace.proofs.Arrows.{arrows-pair}
use Rattle.rec_trace.proofs.ArrowsDrawn.{ends-of-drawn}
use Rattle.rec_trace.proofs.Marks.{parts-of_each, parts-of_naming, parts-second}
use Rattle.rec_trace.proofs.ReadEvents.{slice-read}
use Rattle.rec_trace.specs.Arrows.ArrowEnd.{Starts, Finishes}
use Rattle.rec_trace.specs.Arrows.{ArrowEnd, ArrowsPair, arrow_end, arrow_ends, event_ends}
use Rattle.rec_trace.specs.Drawn.Drawn.{Slice, ProcessNamed, RowNamed, Running, Results}
use Rattle.rec_trace.specs.Drawn.Drawn.{RunMarked, Slow, ArrowStarts, ArrowFinishes}
use Rattle.rec_trace.specs.Drawn.{Drawn, all_events, category_of, events_of, slice_event}
use Rattle.rec_trace.specs.Histories.{drawn_after, known_after_event, trace_drawn}
use Rattle.rec_trace.specs.Known.{Known, nothing_known}
use Rattle.rec_trace.specs.ReadDrawn.{read_mark}
use Rattle.rec_trace.specs.ReadPlaces.{ArrowAtSlice, ArrowsAtSlices, StandsAt}
use Rattle.rec_trace.specs.Table.{bare, closes, counter, drawn, drawn_kind}
use Rattle.rec_trace.specs.Table.{group_of, naming, opens, test_process}

-- ---- what is drawn after what was read

abbrev AtSlice : List Data → Drawn → Type 0
AtSlice before (ArrowStarts test row at flow) =
    StandsAt before (codes "E") row at (test.binary_id, test.test_name)
AtSlice before (ArrowFinishes test row at flow) =
    StandsAt before (codes "B") row at (test.binary_id, test.test_name)
AtSlice before (Slice mark args) = ⊤
AtSlice before (ProcessNamed pid name) = ⊤
AtSlice before (RowNamed row name) = ⊤
AtSlice before (Running counts at) = ⊤
AtSlice before (Results counts at) = ⊤
AtSlice before (RunMarked mark counts at) = ⊤
AtSlice before (Slow category row at args) = ⊤

abbrev AllAtSlices : List Data → List Drawn → Type 0
AllAtSlices before [] = ⊤
AllAtSlices before (d ∷ ds) = AtSlice before d × AllAtSlices (before ++ events_of d) ds

stands-later : (es more : List Data) (phase : List ℕ) (row : Row) (at : ℤ) (test : List ℕ × List ℕ)
    → StandsAt es phase row at test → StandsAt (es ++ more) phase row at test
stands-later es more phase row at test (d, e, has, is, a, b, c, names) =
    (d, e, (Has-append es more d).1 (inl has), is, a, b, c, names)

stands-also : (more es : List Data) (phase : List ℕ) (row : Row) (at : ℤ) (test : List ℕ × List ℕ)
    → StandsAt es phase row at test → StandsAt (more ++ es) phase row at test
stands-also more es phase row at test (d, e, has, is, a, b, c, names) =
    (d, e, (Has-append more es d).1 (inr has), is, a, b, c, names)

one-also : (more es : List Data) (d : Drawn) → AtSlice es d → AtSlice (more ++ es) d
one-also more es (ArrowStarts test row at flow) h =
    stands-also more es (codes "E") row at (test.binary_id, test.test_name) h
one-also more es (ArrowFinishes test row at flow) h =
    stands-also more es (codes "B") row at (test.binary_id, test.test_name) h
one-also more es (Slice mark args) h = tt
one-also more es (ProcessNamed pid name) h = tt
one-also more es (RowNamed row name) h = tt
one-also more es (Running counts at) h = tt
one-also more es (Results counts at) h = tt
one-also more es (RunMarked mark counts at) h = tt
one-also more es (Slow category row at args) h = tt

all-also : (more es : List Data) (ds : List Drawn) → AllAtSlices es ds → AllAtSlices (more ++ es) ds
all-also more es [] h = tt
all-also more es (d ∷ ds) (here, rest) = (
  one-also more es d here,
  subst (λ (x : List Data). AllAtSlices x ds) (sym (append_assoc more es (events_of d)))
      (all-also more (es ++ events_of d) ds rest),
)

all-append : (es : List Data) (xs ys : List Drawn) → AllAtSlices es xs
    → AllAtSlices (es ++ all_events xs) ys → AllAtSlices es (xs ++ ys)
all-append es [] ys h k = subst (λ (x : List Data). AllAtSlices x ys) (append-nil es) k
all-append es (d ∷ xs) ys (here, rest) k = (
  here,
  all-append (es ++ events_of d) xs ys rest (subst (λ (x : List Data). AllAtSlices x ys)
      (sym (append_assoc es (events_of d) (all_events xs))) k),
)

-- where no arrow is drawn
all-none : (es : List Data) (ds : List Drawn) → arrow_ends ds ≡ [] → AllAtSlices es ds
all-none es [] none = tt
all-none es (ArrowStarts test row at flow ∷ ds) none = cc
all-none es (ArrowFinishes test row at flow ∷ ds) none = cc
all-none es (Slice mark args ∷ ds) none = (tt, all-none (es ++ events_of (Slice mark args)) ds none)
all-none es (ProcessNamed pid name ∷ ds) none =
    (tt, all-none (es ++ events_of (ProcessNamed pid name)) ds none)
all-none es (RowNamed row name ∷ ds) none =
    (tt, all-none (es ++ events_of (RowNamed row name)) ds none)
all-none es (Running counts at ∷ ds) none =
    (tt, all-none (es ++ events_of (Running counts at)) ds none)
all-none es (Results counts at ∷ ds) none =
    (tt, all-none (es ++ events_of (Results counts at)) ds none)
all-none es (RunMarked mark counts at ∷ ds) none =
    (tt, all-none (es ++ events_of (RunMarked mark counts at)) ds none)
all-none es (Slow category row at args ∷ ds) none =
    (tt, all-none (es ++ events_of (Slow category row at args)) ds none)

-- arrows that start where these spans ended
all-starts : (test : OwnedTestInstanceId) (t : ℤ) (flow : ℕ) (es : List Data) (spans : List Span)
    → ((s : Span) → Has spans s → StandsAt es (codes "E") s.row t (test.binary_id, test.test_name))
    → AllAtSlices es (map (λ s. ArrowStarts test s.row t flow) spans)
all-starts test t flow es [] ended = tt
all-starts test t flow es (s ∷ spans) ended =
    let e = events_of (ArrowStarts test s.row t flow) in (
      ended s (inl refl),
      all-starts test t flow (es ++ e) spans (λ x has. stands-later es e (codes "E") x.row t
          (test.binary_id, test.test_name) (ended x (inr has))),
    )

-- the ends of spans, with args that name a test
ends-stand : (test : List ℕ × List ℕ) (t : ℤ) (args : Data) (spans : List Span)
    → test_in args ≡ Some test → (s : Span) → Has spans s
    → StandsAt (all_events (map (λ s. Slice (mark End t s) (Some args)) spans)) (codes "E")
    s.row t test
ends-stand test t args (x ∷ spans) names s (inl is) = (
  slice_event End (mark End t x) (Some args),
  read_mark (mark End t x),
  inl refl,
  end-read x.name (category_of x.key) x.row t (Some args),
  refl,
  ap (λ (y : Span). y.row) is,
  refl,
  ap (option_and_then test_in) (end-args x.name (category_of x.key) x.row t (Some args)) ∙ names,
)
ends-stand test t args (x ∷ spans) names s (inr has) =
    let (d, e, there, is, a, b, c, named) = ends-stand test t args spans names s has in
    (d, e, inr there, is, a, b, c, named)
ends-stand test t args [] names s h = elim h [ ]

-- ---- the table

module _ (version : Parts) (g : ChromeTraceGroupBy) (state : TraceState) (known : Known)
    (t : ℤ) where
  naming-none : (row : Row) (process name : List ℕ)
      → arrow_ends (naming version g state known t row process name) ≡ []
  naming-none row process name =
      parts-of_naming arrow_end (λ pid n. refl) (λ r n. refl)
      version g state known t row process name

  bare-none : (p : Bool) (phase : Phase) (spans : List Span)
      → arrow_ends (cond p (bare phase t spans) []) ≡ []
  bare-none true phase spans =
      parts-of_each arrow_end (λ s. Slice (mark phase t s) None) (λ s. refl) spans
  bare-none false phase spans = refl

  -- an arrow finishes where a span begins whose args name its test
  opens-places : (test : OwnedTestInstanceId) (s : Span) (args : Data) (flow : Option ℕ)
      (es : List Data)
      → test_in args ≡ Some (test.binary_id, test.test_name)
      → AllAtSlices es (opens version g state known t s (Some args)
      (option_to_list (option_map (ArrowFinishes test s.row t) flow)))
  opens-places test s args None es names = (
    tt,
    all-none (es ++ events_of (Slice (mark Begin t s) (Some args)))
        (cond state.in_pause (bare End t (s ∷ [])) []) (bare-none state.in_pause End (s ∷ [])),
  )
  opens-places test s args (Some n) es names =
      let d = slice_event Begin (mark Begin t s) (Some args) in
      let begun = es ++ d ∷ [] in
      let there : StandsAt begun (codes "B") s.row t (test.binary_id, test.test_name) = (
        d,
        read_mark (mark Begin t s),
        (Has-append es (d ∷ []) d).1 (inr (inl refl)),
        begin-read s.name (category_of s.key) s.row t (Some args),
        refl,
        refl,
        refl,
        ap (option_and_then test_in) (begin-args s.name (category_of s.key) s.row t (Some args))
            ∙ names,
      ) in (
        tt,
        (
          there,
          all-none (begun ++ events_of (ArrowFinishes test s.row t n))
              (cond state.in_pause (bare End t (s ∷ [])) [])
              (bare-none state.in_pause End (s ∷ [])),
        ),
      )

  retry-places : (test : OwnedTestInstanceId) (row : Row) (process name : List ℕ) (s : Span)
      (args : Data) (flow : Option ℕ) (tests scripts : ℕ)
      → test_in args ≡ Some (test.binary_id, test.test_name)
      → AllAtSlices [] (naming version g state known t row process name
      ++ opens version g state known t s (Some args)
      (option_to_list (option_map (ArrowFinishes test s.row t) flow))
      ++ counter version g state known t tests scripts ∷ [])
  retry-places test row process name s args flow tests scripts names =
      let named = naming version g state known t row process name in
      let opened = opens version g state known t s (Some args)
      (option_to_list (option_map (ArrowFinishes test s.row t) flow)) in
      all-append [] (named ++ opened) (counter version g state known t tests scripts ∷ [])
      (all-append [] named opened (all-none [] named (naming-none row process name))
      (opens-places test s args flow (all_events named) names))
      (tt, tt)

  closes-none : (spans : List Span) (args : Option Data)
      → arrow_ends (closes version g state known t spans args) ≡ []
  closes-none spans args =
      parts-second arrow_end (cond state.in_pause (bare Begin t spans) [])
      (map (λ s. Slice (mark End t s) args) spans) (bare-none state.in_pause Begin spans)
      ∙ parts-of_each arrow_end (λ s. Slice (mark End t s) args) (λ s. refl) spans

  fails-places : (test : OwnedTestInstanceId) (spans : List Span) (args : Data)
      (flow tests scripts : ℕ)
      → test_in args ≡ Some (test.binary_id, test.test_name)
      → AllAtSlices [] (closes version g state known t spans (Some args)
      ++ map (λ s. ArrowStarts test s.row t flow) spans
      ++ counter version g state known t tests scripts ∷ [])
  fails-places test spans args flow tests scripts names =
      let begun = cond state.in_pause (bare Begin t spans) [] in
      let ended = map (λ (s : Span). Slice (mark End t s) (Some args)) spans in
      let closed = closes version g state known t spans (Some args) in
      let arrows = map (λ (s : Span). ArrowStarts test s.row t flow) spans in
      let named : List ℕ × List ℕ = (test.binary_id, test.test_name) in
      let there : (s : Span) → Has spans s
      → StandsAt (all_events closed) (codes "E") s.row t named =
      λ s has. subst (λ (es : List Data). StandsAt es (codes "E") s.row t named)
      (sym (flat_map-append events_of begun ended))
      (stands-also (all_events begun) (all_events ended) (codes "E") s.row t named
      (ends-stand named t args spans names s has)) in
      all-append [] (closed ++ arrows) (counter version g state known t tests scripts ∷ [])
      (all-append [] closed arrows (all-none [] closed (closes-none spans (Some args)))
      (all-starts test t flow (all_events closed) spans there))
      (tt, tt)

  kind-places : (kind : PlainKind)
      → arrow_ends (drawn_kind version g state known t kind)
      ≡ event_ends state.spans state.next_flow known.arrow kind
      → AllAtSlices [] (drawn_kind version g state known t kind)
  kind-places
      (Core (TestRetryStarted stress_index test slot_assignment retry_data running command_line))
      is =
      let s = test_span g state.binaries test slot_assignment.global_slot in
      retry-places test s.row (test_process g test) (slot_name slot_assignment.global_slot) s
      (retry_begin_args test retry_data command_line) (known.arrow test) running state.scripts
      (retry-names test retry_data command_line)
  kind-places (Output (TestAttemptFailedWillRetry stress_index test status delay failure running))
      is =
      fails-places test (of_key (keys.Test test) state.spans)
      (failed_attempt_args test stress_index (group_of version g state known t test) status delay)
      state.next_flow running state.scripts
      (failed-names test stress_index (group_of version g state known t test) status delay)
  kind-places (Core (RunStarted a b c d)) is = all-none [] _ is
  kind-places (Core (StressSubRunStarted a)) is = all-none [] _ is
  kind-places (Core (SetupScriptStarted a b c d e f h)) is = all-none [] _ is
  kind-places (Core (SetupScriptSlow a b c d e f)) is = all-none [] _ is
  kind-places (Core (TestStarted a b c d e f)) is = all-none [] _ is
  kind-places (Core (TestSlow a b c d e)) is = all-none [] _ is
  kind-places (Core (TestSkipped a b c d)) is = tt
  kind-places (Core (RunBeginCancel a b c)) is =
      all-none [] (drawn_kind version g state known t (Core (RunBeginCancel a b c))) is
  kind-places (Core (RunPaused a b)) is =
      all-none [] (drawn_kind version g state known t (Core (RunPaused a b))) is
  kind-places (Core (RunContinued a b)) is =
      all-none [] (drawn_kind version g state known t (Core (RunContinued a b))) is
  kind-places (Core (StressSubRunFinished a b c)) is = all-none [] _ is
  kind-places (Core (RunFinished a b c d e)) is = all-none [] _ is
  kind-places (Output (SetupScriptFinished a b c d e f h i)) is = all-none [] _ is
  kind-places (Output (TestFinished a b c d e f h i j k)) is = all-none [] _ is

-- ---- histories

places-after : (version : Parts) (g : ChromeTraceGroupBy) (past : List TraceInput) (known : Known)
    (events : List PlainEvent) (es : List Data)
    → AllAtSlices es (drawn_after version g past known events)
places-after version g past known [] es = tt
places-after version g past known (event ∷ events) es =
    let now = drawn version g (state_after past) known event in
    let here = kind-places version g (state_after past) known (micros event.timestamp) event.kind
    (ends-of-drawn version g (state_after past) known event) in
    all-append es now (drawn_after version g (trace_input g (binaries past) event ∷ past)
    (known_after_event g past event known) events)
    (subst (λ (x : List Data). AllAtSlices x now) (append-nil es) (all-also es [] now here))
    (places-after version g (trace_input g (binaries past) event ∷ past)
    (known_after_event g past event known) events (es ++ all_events now))

-- ---- the test of each number

-- the test that starts the arrow of this number first
abbrev started-by : List ArrowEnd → ℕ → List ℕ × List ℕ
started-by [] n = ([], [])
started-by (Starts test m ∷ ends) n =
    cond (m == n) (test.binary_id, test.test_name) (started-by ends n)
started-by (Finishes test m ∷ ends) n = started-by ends n

other-number : (m n : ℕ) → (m ≡ n → ⊥) → (m == n) ≡ false
other-number m n apart = go (m == n) refl
  where
    go : (b : Bool) → (m == n) ≡ b → (m == n) ≡ false
    go true is = absurd (apart ((Decides-eqb m n).0 is))
    go false is = is

-- it is the one that starts it, where none before does
started-there : (before after : List ArrowEnd) (test : OwnedTestInstanceId) (n : ℕ)
    → ((other : OwnedTestInstanceId) → Has before (Starts other n) → ⊥)
    → started-by (before ++ Starts test n ∷ after) n ≡ (test.binary_id, test.test_name)
started-there [] after test n none =
    ap (λ b. cond b (test.binary_id, test.test_name) (started-by after n))
    ((Decides-eqb n n).1 refl)
started-there (Starts other m ∷ before) after test n none =
    ap (λ b.
    cond b (other.binary_id, other.test_name) (started-by (before ++ Starts test n ∷ after) n))
    (other-number m n (λ same. none other (inl (ap (Starts other) same))))
    ∙ started-there before after test n (λ x has. none x (inr has))
started-there (Finishes other m ∷ before) after test n none =
    started-there before after test n (λ x has. none x (inr has))

-- where something stands in a list
module _ {X : Type 0} where
  pub record Placed (xs : List X) (x : X) : Type 0 where
    pub before : List X
    pub after : List X
    pub whole : xs ≡ before ++ x ∷ after

  placed : (xs : List X) (x : X) → Has xs x → Placed xs x
  placed (y ∷ xs) x (inl is) =
      record { before = []; after = xs; whole = ap (λ (z : X). z ∷ xs) is }
  placed (y ∷ xs) x (inr has) =
      let p = placed xs x has in
      record { before = y ∷ p.before; after = p.after; whole = ap (λ (l : List X). y ∷ l) p.whole }
  placed [] x h = elim h [ ]

module _ (ends : List ArrowEnd) (pair : ArrowsPair ends) where
  start-named : (test : OwnedTestInstanceId) (n : ℕ) → Has ends (Starts test n)
      → started-by ends n ≡ (test.binary_id, test.test_name)
  start-named test n has =
      let p = placed ends (Starts test n) has in
      ap (λ (es : List ArrowEnd). started-by es n) p.whole
      ∙ started-there p.before p.after test n
      (λ other there. pair.starts_once p.before p.after test other n p.whole there)

  finish-named : (test : OwnedTestInstanceId) (n : ℕ) → Has ends (Finishes test n)
      → started-by ends n ≡ (test.binary_id, test.test_name)
  finish-named test n has =
      let p = placed ends (Finishes test n) has in
      let there = pair.has_start p.before p.after test n p.whole in
      start-named test n (subst (λ (es : List ArrowEnd). Has es (Starts test n)) (sym p.whole)
      ((Has-append p.before (Finishes test n ∷ p.after) (Starts test n)).1 (inl there)))

abbrev IsNamed : (ℕ → List ℕ × List ℕ) → ArrowEnd → Type 0
IsNamed test (Starts t n) = test n ≡ (t.binary_id, t.test_name)
IsNamed test (Finishes t n) = test n ≡ (t.binary_id, t.test_name)

all-named : (ends : List ArrowEnd) → ArrowsPair ends → (x : ArrowEnd) → Has ends x
    → IsNamed (started-by ends) x
all-named ends pair (Starts t n) has = start-named ends pair t n has
all-named ends pair (Finishes t n) has = finish-named ends pair t n has

-- ---- as it is read

some-is : {X : Type 0} (x y : X) → Some x ≡ Some y → x ≡ y
some-is x y h = cc

none-some : {X : Type 0} (x : X) → None ≡ Some x → ⊥
none-some x h = cc

abbrev id_of : Option ReadEvent → Option ℕ
id_of None = None
id_of (Some e) = e.id

-- a trace event without a number is no arrow
unnumbered : (test : ℕ → List ℕ × List ℕ) (before : List Data) (d : Data) (r : ReadEvent)
    → event_read d ≡ Some r → r.id ≡ None → ArrowAtSlice test before d
unnumbered test before d r is none e number e_is id_is =
    absurd (none-some number (sym (ap id_of (sym e_is ∙ is) ∙ none) ∙ id_is))

-- two of them
first-is : {X : Type 0} (a b x y : X) → a ∷ b ∷ [] ≡ x ∷ y ∷ [] → a ≡ x
first-is a b x y h = cc

second-is : {X : Type 0} (a b x y : X) → a ∷ b ∷ [] ≡ x ∷ y ∷ [] → b ≡ y
second-is a b x y h = cc

append-two : (es : List Data) (x y : Data) → es ++ x ∷ y ∷ [] ≡ (es ++ x ∷ []) ++ y ∷ []
append-two es x y = sym (append_assoc es (x ∷ []) (y ∷ []))

both-unnumbered : (test : ℕ → List ℕ × List ℕ) (before : List Data) (a b : Data) (r s : ReadEvent)
    (more : List Data)
    → map event_read (a ∷ b ∷ []) ≡ Some r ∷ Some s ∷ [] → r.id ≡ None → s.id ≡ None
    → ArrowsAtSlices test (before ++ a ∷ b ∷ []) more → ArrowsAtSlices test before (a ∷ b ∷ more)
both-unnumbered test before a b r s more is r_none s_none rest =
    let first = first-is (event_read a) (event_read b) (Some r) (Some s) is in
    let second = second-is (event_read a) (event_read b) (Some r) (Some s) is in
    let later =
    subst (λ (x : List Data). ArrowsAtSlices test x more) (append-two before a b) rest in (
      unnumbered test before a r first r_none,
      (unnumbered test (before ++ a ∷ []) b s second s_none, later),
    )

-- a phase that a test says is another
other-phase : (x y : List ℕ) (T : Type 0) → bytes_eq x y ≡ false → bytes_eq y y ≡ true → x ≡ y → T
other-phase x y T not_same same is =
    let apart : false ≡ true = sym not_same ∙ (ap (λ (z : List ℕ). bytes_eq z y) is ∙ same) in cc

module _ (test : ℕ → List ℕ × List ℕ) (before : List Data) (t : OwnedTestInstanceId) (row : Row)
    (at : ℤ) (flow : ℕ) (named : test flow ≡ (t.binary_id, t.test_name)) where
  -- what stands there for the test stands there for that of the number
  of-number : (phase : List ℕ) (number : ℕ)
      → StandsAt before phase row at (t.binary_id, t.test_name) → Some flow ≡ Some number
      → StandsAt before phase row at (test number)
  of-number phase number there same =
      subst (λ n. StandsAt before phase row at (test n)) (some-is flow number same)
      (subst (StandsAt before phase row at) (sym named) there)

  start-placed : StandsAt before (codes "E") row at (t.binary_id, t.test_name)
      → ArrowAtSlice test before (arrow_start row at flow)
  start-placed there e number e_is id_is =
      subst Placing
      (some-is (arrow_read (codes "s") row at flow) e (sym (arrow_start-read row at flow) ∙ e_is))
      (λ same. (
        (λ is. of-number (codes "E") number there same),
        (λ is. other-phase (codes "s") (codes "f") _ refl refl is),
      )) id_is
    where
      Placing : ReadEvent → Type 0
      Placing r = r.id ≡ Some number →
          (r.phase ≡ codes "s" → StandsAt before (codes "E") r.row r.at (test number))
          × (r.phase ≡ codes "f" → StandsAt before (codes "B") r.row r.at (test number))

  finish-placed : StandsAt before (codes "B") row at (t.binary_id, t.test_name)
      → ArrowAtSlice test before (arrow_finish row at flow)
  finish-placed there e number e_is id_is =
      subst Placing
      (some-is (arrow_read (codes "f") row at flow) e (sym (arrow_finish-read row at flow) ∙ e_is))
      (λ same. (
        (λ is. other-phase (codes "f") (codes "s") _ refl refl is),
        (λ is. of-number (codes "B") number there same),
      )) id_is
    where
      Placing : ReadEvent → Type 0
      Placing r = r.id ≡ Some number →
          (r.phase ≡ codes "s" → StandsAt before (codes "E") r.row r.at (test number))
          × (r.phase ≡ codes "f" → StandsAt before (codes "B") r.row r.at (test number))

all-places : (test : ℕ → List ℕ × List ℕ) (before : List Data) (ds : List Drawn)
    → AllAtSlices before ds → ((x : ArrowEnd) → Has (arrow_ends ds) x → IsNamed test x)
    → ArrowsAtSlices test before (all_events ds)
all-places test before [] h named = tt
all-places test before (Slice m args ∷ ds) (here, rest) named = (
  unnumbered test before (slice_event m.phase m args) _ (slice-read m.phase m args) refl,
  all-places test (before ++ events_of (Slice m args)) ds rest named,
)
all-places test before (ProcessNamed pid name ∷ ds) (here, rest) named =
    both-unnumbered test before _ _ _ _ (all_events ds) (process-read pid name) refl refl
    (all-places test (before ++ events_of (ProcessNamed pid name)) ds rest named)
all-places test before (RowNamed row name ∷ ds) (here, rest) named =
    both-unnumbered test before _ _ _ _ (all_events ds) (row-read row name) refl refl
    (all-places test (before ++ events_of (RowNamed row name)) ds rest named)
all-places test before (Running counts at ∷ ds) (here, rest) named = (
  unnumbered test before (concurrency_event counts at) _ (running-read counts at) refl,
  all-places test (before ++ events_of (Running counts at)) ds rest named,
)
all-places test before (Results counts at ∷ ds) (here, rest) named = (
  unnumbered test before (results_event counts at) _ (results-read counts at) refl,
  all-places test (before ++ events_of (Results counts at)) ds rest named,
)
all-places test before (RunMarked what counts at ∷ ds) (here, rest) named = (
  unnumbered test before (mark_event what counts at) _ (mark-read what counts at) refl,
  all-places test (before ++ events_of (RunMarked what counts at)) ds rest named,
)
all-places test before (Slow category row at args ∷ ds) (here, rest) named = (
  unnumbered test before (slow_event category row at args) _ (slow-read category row at args) refl,
  all-places test (before ++ events_of (Slow category row at args)) ds rest named,
)
all-places test before (ArrowStarts t row at flow ∷ ds) (here, rest) named = (
  start-placed test before t row at flow (named (Starts t flow) (inl refl)) here,
  all-places test (before ++ events_of (ArrowStarts t row at flow)) ds rest
      (λ x has. named x (inr has)),
)
all-places test before (ArrowFinishes t row at flow ∷ ds) (here, rest) named = (
  finish-placed test before t row at flow (named (Finishes t flow) (inl refl)) here,
  all-places test (before ++ events_of (ArrowFinishes t row at flow)) ds rest
      (λ x has. named x (inr has)),
)

pub places-history : (version : Parts) (g : ChromeTraceGroupBy) (events : List PlainEvent)
    → events_refusal g events ≡ None
    → (test : ℕ → List ℕ × List ℕ)
    × ArrowsAtSlices test [] (all_events (trace_drawn version g events))
places-history version g events accepted =
    let drawn = trace_drawn version g events in
    let ends = arrow_ends drawn in (
      started-by ends,
      all-places (started-by ends) [] drawn (places-after version g [] nothing_known events [])
          (all-named ends (arrows-pair version g events accepted)),
    )
