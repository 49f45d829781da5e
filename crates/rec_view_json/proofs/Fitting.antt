-- What a view tells stands among the events of its run.
use Rattle.std.proofs.Common.{◌≡◌, ◌<◌, ◌≤◌, inl, inr, ℕ, suc, Bool, true, false, List, [], ◌∷◌}
use Rattle.std.proofs.Common.{length, map, drop, Option, Some, None, refl, sym, ap, ◌∙◌, subst}
use Rattle.std.proofs.Common.{arith, if◌then◌else◌}
use Rattle.std.proofs.lemmas.List.{length-map}
use Rattle.std.proofs.lemmas.Option.{slice_get_within}
use Rattle.std.specs.List.{AllByRecursion}
use Rattle.std.specs.Option.{unwrap_or}
use Rattle.serde_json.specs.Data.{Data, array}
use Rattle.serde_json.specs.View.{items_of}
use Rattle.rec_events.specs.declared.instances.OwnedTestInstanceId.{OwnedTestInstanceId}
use Rattle.rec_forms.specs.Lists.{list_value}
use Rattle.rec_codec.specs.Event.{RecordedEvent}
use Rattle.rec_spans.specs.Acts.{act_of}
use Rattle.rec_spans.specs.declared.settings.ChromeTraceGroupBy.TheVariants as group
use Rattle.rec_spans.specs.Kinds.{history_after, trace_input}
use Rattle.rec_spans.specs.Past.{TraceInput, binaries}
use Rattle.rec_spans.specs.Plain.{PlainEvent, plain, plain_kind}
use Rattle.rec_spans.specs.Positions.{Has}
use Rattle.rec_view.proofs.Attempts.{AllBelow, starts-below}
use Rattle.rec_view.proofs.Ends.{below, end_is}
use Rattle.rec_view.proofs.ScriptPositions.{scripts_are}
use Rattle.rec_view.specs.Acts as view_acts
use Rattle.rec_view.specs.Acts.{Act, acts}
use Rattle.rec_view.specs.Attempts.{attempt, cuts, end_of, retries, starts_of}
use Rattle.rec_view.specs.declared.instants.Instants.{Instants}
use Rattle.rec_view.specs.declared.scripts.ScriptView.{ScriptView}
use Rattle.rec_view.specs.declared.shown_gaps.ShownGaps.{ShownGaps}
use Rattle.rec_view.specs.declared.test_views.Attempt.{Attempt}
use Rattle.rec_view.specs.declared.test_views.TestView.{TestView}
use Rattle.rec_view.specs.Ends.{IsEnd}
use Rattle.rec_view.specs.Instants.{TellsInstants}
use Rattle.rec_view.specs.Rows.{Row, row, rows, rows_of}
use Rattle.rec_view.specs.Scripts.{IsScript, cuts_script, script_act, script_acts, scripts}
use Rattle.rec_view.specs.ShownGaps.{AreGaps}
use Rattle.rec_view.specs.Tests.{Place, is_start, opens, tests}
use Rattle.rec_view_json.specs.Fitting.{Fits}
use Rattle.rec_view_json.specs.Views.{history_of}

-- ---- positions

module _ {A : Type 0} where
  ends_within : (cuts : A → Bool) (xs : List A) (k : ℕ) → k < length xs → (o : Option ℕ)
      → IsEnd cuts xs k o
      → (k ≤ unwrap_or o (length xs)) × (unwrap_or o (length xs) ≤ length xs)
  ends_within cuts xs k h None e = (omega (arith, h), omega arith)
  ends_within cuts xs k h (Some z) e =
      let l = e.0 in
      let w = below cuts xs z e.1 in
      (omega (arith, l), omega (arith, w))

  all_of : {P : A → Type 0} (xs : List A) → ((x : A) → Has xs x → P x) → AllByRecursion P xs
  all_of [] h = tt
  all_of (x ∷ xs) h = (h x (inl refl), all_of xs (λ y has. h y (inr has)))

starts_within : (acts : List Act) (p : Place) → AllBelow (length acts) (starts_of acts p)
starts_within acts p = by (opens acts p) refl
  where
    by : (b : Bool) → opens acts p ≡ b
        → AllBelow (length acts)
        (if b then p.at ∷ retries p.test (suc p.at) (drop (suc p.at) acts) else [])
    by false e = tt
    by true e =
        subst
        (λ b. AllBelow (length acts)
        (if b then p.at ∷ retries p.test (suc p.at) (drop (suc p.at) acts) else []))
        e (starts-below acts p (below is_start acts p.at e))

-- ---- what stands among events

history_many : (past : List TraceInput) (events : List PlainEvent)
    → length (history_after group.Slot past events) ≡ length events
history_many past [] = refl
history_many past (e ∷ events) =
    ap suc (history_many (trace_input group.Slot (binaries past) e ∷ past) events)

module _ (events : List RecordedEvent) (gaps : ShownGaps) (instants : Option Instants)
    (kept : AreGaps (history_of events) gaps) (told : TellsInstants (history_of events) instants)
  where
    -- what starts at one of as many positions, and ends as it does there
    fits : (many k : ℕ) (o : Option ℕ) → many ≡ length events
        → (k ≤ unwrap_or o many) × (unwrap_or o many ≤ many) → Fits events gaps instants k o
    fits many k o same within = record {
      kept = kept;
      told = told;
      many = kept.shown.many ∙ history_many [] (map plain events) ∙ length-map events plain;
      order = subst (λ n. k ≤ unwrap_or o n) same within.0;
      within = subst (λ n. unwrap_or o n ≤ n) same within.1;
    }

    -- ---- setup scripts

    script_fits : (s : ScriptView) → IsScript (script_acts events) s
        → Fits events gaps instants s.from s.to
    script_fits s is =
        fits (length (script_acts events)) s.from s.to
        (length-map events (λ e. script_act (act_of (plain_kind e.kind))))
        (ends_within (cuts_script is.index) (script_acts events) s.from
        (slice_get_within (script_acts events) s.from _ is.starts) s.to is.ends)

    pub scripts_fit : AllByRecursion (λ (s : ScriptView). Fits events gaps instants s.from s.to)
        (scripts (script_acts events))
    scripts_fit =
        all_of (scripts (script_acts events))
        (λ s has. script_fits s ((scripts_are (script_acts events) s).0 has))

    -- ---- attempts

    attempt_fits : (t : OwnedTestInstanceId) (k : ℕ) → k < length (acts events)
        → Fits events gaps instants k (end_of (acts events) t k)
    attempt_fits t k h =
        let end = end_of (acts events) t k in
        fits (length (acts events)) k end (length-map events (λ e. view_acts.act_of e.kind))
        (ends_within (cuts t) (acts events) k h end (end_is (cuts t) (acts events) k))

    abbrev AttemptFits : Attempt → Type 0
    AttemptFits a = Fits events gaps instants a.from a.to

    all_fit : (t : OwnedTestInstanceId) (ks : List ℕ) → AllBelow (length (acts events)) ks
        → AllByRecursion AttemptFits (map (attempt (acts events) t) ks)
    all_fit t [] h = tt
    all_fit t (k ∷ ks) h = (attempt_fits t k h.0, all_fit t ks h.1)

    -- ---- tests

    rows_fit : (ps : List Place)
        → AllByRecursion (λ (r : Row). AllByRecursion AttemptFits r.attempts)
        (map (row (acts events)) ps)
    rows_fit [] = tt
    rows_fit (p ∷ ps) =
        (all_fit p.test (starts_of (acts events) p) (starts_within (acts events) p), rows_fit ps)

    views_fit : (xs : List TestView)
        → AllByRecursion (λ (r : Row). AllByRecursion AttemptFits r.attempts) (rows xs)
        → AllByRecursion (λ (x : TestView). AllByRecursion AttemptFits x.attempts.items) xs
    views_fit [] h = tt
    views_fit (x ∷ xs) h = (h.0, views_fit xs h.1)

    pub tests_fit : (xs : List TestView) → rows xs ≡ rows_of (acts events)
        → AllByRecursion
        (λ (x : TestView). AllByRecursion (λ (a : Attempt). Fits events gaps instants a.from a.to)
        x.attempts.items)
        xs
    tests_fit xs e =
        views_fit xs
        (subst (AllByRecursion (λ (r : Row). AllByRecursion AttemptFits r.attempts)) (sym e)
        (rows_fit (tests (acts events))))

-- ---- values of lists

module _ {A B : Type 0} (value : B → Data) (seen : A → B) where
  pub values_of_seen : (xs : List A) (ys : List B) → map seen xs ≡ ys
      → list_value (λ x. value (seen x)) xs ≡ list_value value ys
  values_of_seen xs ys e =
      ap (λ ds. array (items_of ds))
      (twice xs ∙ ap (map value) e)
    where
      twice : (zs : List A) → map (λ x. value (seen x)) zs ≡ map value (map seen zs)
      twice [] = refl
      twice (z ∷ zs) = ap (λ ds. value (seen z) ∷ ds) (twice zs)
