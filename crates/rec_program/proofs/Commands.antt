-- What the status of a command says.
use Rattle.std.proofs.Common.{◌≡◌, ◌⊎◌, inl, inr, ℕ, ◌≤◌, ◌<◌, List, length, nat_lt, Option}
use Rattle.std.proofs.Common.{None, Some, map, Result, Ok, Err, refl, sym, ap, subst, ◌∙◌, arith}
use Rattle.std.specs.Io.KnownBytes.{Appends}
use Rattle.std.specs.Option.{option_map, option_or}
use Rattle.semver.specs.Parse.{Parts}
use Rattle.rec_container.proofs.Results.{Ok-injective, then_ok, unless_ok}
use Rattle.rec_container.specs.Causes.{Rose}
use Rattle.rec_container.specs.Container.{Entry, IsContainer, content_of}
use Rattle.rec_container.specs.Reading.{◌>>=◌}
use Rattle.rec_container.specs.Within.{Gave}
use Rattle.rec_forms.specs.TextForm.{bytes_form}
use Rattle.rec_format.specs.declared.manifest.PortableManifest.{PortableManifest}
use Rattle.rec_format.specs.RunForms.{manifest_form}
use Rattle.rec_format.specs.Runs.{info_of, store_version_in}
use Rattle.rec_codec.specs.declared.line_events.LineError.{LineError}
use Rattle.rec_codec.specs.Event.{RecordedEvent}
use Rattle.rec_codec.specs.LineReading.{events_before_fault, first_line_fault}
use Rattle.rec_codec.specs.Lines.{NumberedLine}
use Rattle.rec_store.specs.Entries.{log_name, manifest_name}
use Rattle.rec_portable.specs.declared.errors.PortableRecordingReadError.TheVariants as bundles
use Rattle.rec_portable.specs.declared.errors.PortableRecordingReadError.TheVariants.{FileTooLarge}
use Rattle.rec_portable.specs.declared.errors.PortableRecordingReadError.{
  PortableRecordingReadError,
}
use Rattle.rec_portable.specs.Judging.{content_judged, format_checked, judged, manifest_found}
use Rattle.rec_portable.specs.Judging.{manifest_read, store_checked, versions_checked, within}
use Rattle.rec_portable.specs.OuterEntries.{log_found, log_part}
use Rattle.rec_replay.specs.declared.output_load.LoadOutput.{LoadOutput}
use Rattle.rec_replay.specs.Lines.{header_line}
use Rattle.rec_spans.specs.declared.errors.ChromeTraceError.TheVariants as traces
use Rattle.rec_spans.specs.declared.errors.ChromeTraceError.{ChromeTraceError}
use Rattle.rec_spans.specs.declared.settings.ChromeTraceGroupBy.{ChromeTraceGroupBy}
use Rattle.rec_spans.specs.Plain.{PlainEvent, plain}
use Rattle.rec_spans.specs.Refusals.{events_refusal}
use Rattle.rec_trace.specs.declared.settings.ChromeTraceMessageFormat.{ChromeTraceMessageFormat}
use Rattle.rec_slots.specs.declared.report.SlotError.TheVariants as slots
use Rattle.rec_slots.specs.declared.report.SlotError.{SlotError}
use Rattle.rec_slots.specs.declared.report.SlotReport.{SlotReport}
use Rattle.rec_slots.specs.Refusals.{IsRefused, Reports}
use Rattle.rec_errors.specs.declared.reading_error.ReadingError.{ReadingError}
use Rattle.rec_errors.specs.ReadingErrors.{bundle_error, line_error}
use Rattle.rec_reading.specs.Converting.{unless_refused}
use Rattle.rec_reading.specs.Listing.{PrintsInfo, PrintsReplay, PrintsReport, header_of}
use Rattle.rec_reading.specs.Listing.{info_printed, manifest_line, printed, replay_of, report_of}
use Rattle.rec_reading.specs.LogEvents.{events_of, run_events}
use Rattle.rec_reading.specs.LogLines.{log_lines}
use Rattle.rec_reading.specs.Printing.{before, line_prints}
use Rattle.rec_reading.specs.Reruns.{PrintsRerun}
use Rattle.rec_reading.specs.Reruns.{RerunParts, parts_after, rerun_parts_of}
use Rattle.rec_reading.specs.RunParts.{of_bundle, parts_of}
use Rattle.rec_reading.specs.Slots.{HasUsage, PrintsSlots, slot_lines}
use Rattle.rec_reading.specs.Views.{PrintsView, view_of}
use Rattle.rec_export.proofs.Complete.{same_session}
use Rattle.rec_export.proofs.TimelinesDrawn.{draws_timeline}
use Rattle.rec_export.specs.Bundle.{AreOf}
use Rattle.rec_export.specs.declared.counts.Exported.{Exported}
use Rattle.rec_export.specs.declared.settings.Settings.{Settings}
use Rattle.rec_export.specs.Export.{Exports}
use Rattle.rec_export.specs.Timelines.{DrawsTimeline}
use Rattle.rec_faults.specs.FaultLine.{Shown}
use Rattle.rec_faults.specs.ReadingLine.{reading_shown}
use Rattle.rec_faults.specs.Status.{export_status, reading_status}
use Rattle.rec_program.proofs.BundlesShown.{withheld}
use Rattle.rec_program.proofs.RecordedDrawn.{recorded-is_drawn}
use Rattle.rec_program.proofs.StatusesAbove.{export_above, reading_above}
use Rattle.rec_program.specs.BundleTraces.{PrintsTrace, bundle_trace, trace_of}
use Rattle.rec_program.specs.BundleTraces.{trace_of_parts, trace_unless}
use Rattle.rec_program.specs.LogTraces.{log_refusal, plain_log}
use Rattle.rec_program.specs.ReadingCommands.{IsMadeOf, OfJudged, Shows}
use Rattle.rec_program.specs.Running.{Records, ShowsBundle}

-- ---- what was recorded

module _ {S B T G : Type 0} (left : S → Option (List ℕ)) (source_faults : S → ℕ)
    (taken : B → Option (List ℕ)) (bundle_faults : B → ℕ) (out_taken : T → Option (List ℕ))
    (out_faults : T → ℕ) (diag_taken : G → Option (List ℕ)) (diag_faults : G → ℕ)
    (number : List ℕ → ℕ) (settings : Settings) (status : ℕ) (s0 s1 : S) (b0 b1 : B) (o0 o1 : T)
    (d0 d1 : G) where
  -- with status 0 a session was exported
  pub recorded_whole : status ≡ 0
      → Records left source_faults taken bundle_faults out_taken out_faults diag_taken diag_faults
      number settings status s0 s1 b0 b1 o0 o1 d0 d1
      → (exported : Exported) × Exports left source_faults taken bundle_faults out_taken out_faults
      number settings s0 s1 b0 b1 o0 o1 exported
  recorded_whole zeroed (inl r) = r.1
  recorded_whole zeroed (inr r) =
      absurd (let above = export_above r.0 in let same : status ≡ export_status r.0 = r.2.0 in
      omega (arith, zeroed, same, above))

-- ---- what was printed

module _ {E : Type 0} (shown : E → Shown) (status_of : E → ℕ) (above : (e : E) → 2 < status_of e)
    (opening : PortableRecordingReadError → E) {S T G : Type 0} (left : S → Option (List ℕ))
    (source_faults : S → ℕ) (out_taken : T → Option (List ℕ)) (out_faults : T → ℕ)
    (diag_taken : G → Option (List ℕ)) (diag_faults : G → ℕ)
    (prints : ℕ → List Entry → Result (List ℕ) E → Type 0) (settings : Settings) (status : ℕ)
    (s0 s1 : S) (o0 o1 : T) (d0 d1 : G) where
  -- with status 0 a text was printed
  pub shown_whole : status ≡ 0
      → ShowsBundle shown status_of opening left source_faults out_taken out_faults diag_taken
      diag_faults prints settings status s0 s1 o0 o1 d0 d1
      → (text : List ℕ) × Shows opening prints settings.read_limit left source_faults
      settings.session_limit s0 s1 text
      × Appends (out_taken o0) (out_taken o1) text
  shown_whole zeroed (inl (text, shows, inl p)) = (text, shows, p.1)
  shown_whole zeroed (inl (text, shows, inr p)) =
      absurd (let eleven : status ≡ 11 = p.0 in omega (arith, zeroed, eleven))
  shown_whole zeroed (inr r) =
      absurd (let over = above r.0 in let same : status ≡ status_of r.0 = r.3.0 in
      omega (arith, zeroed, same, over))

  -- where nothing refuses the bytes
  module _ (bytes : List ℕ) (es : List Entry) (has : left s0 ≡ Some bytes)
      (short : length bytes ≤ settings.session_limit) (is : IsContainer bytes es)
      (accepted : (e : E)
      → OfJudged opening prints settings.read_limit es (judged settings.read_limit es) (Err e) → ⊥)
      (source : ¬ (Rose (source_faults s0) (source_faults s1)))
      (out : ¬ (Rose (out_faults o0) (out_faults o1))) where
    -- what can be printed is printed, unless memory runs out or an object fails
    pub shown_or_memory : status_of (opening bundles.OutOfMemory) ≡ 70
        → ShowsBundle shown status_of opening left source_faults out_taken out_faults diag_taken
        diag_faults prints settings status s0 s1 o0 o1 d0 d1
        → (status ≡ 0) ⊎ (status ≡ 70)
    shown_or_memory memory (inl (text, shows, inl p)) = inl p.0
    shown_or_memory memory (inl (text, shows, inr p)) = absurd (out p.1)
    shown_or_memory memory (inr r) =
        let only = withheld opening prints settings.read_limit left source_faults
        settings.session_limit s0 s1 bytes es has short is (λ e h. absurd (accepted e h)) source in
        inr (r.3.0 ∙ ap status_of (only r.0 r.1) ∙ memory)

-- what is made of bytes is made of their entries
pub printed_of : {A E : Type 0} (opening : PortableRecordingReadError → E)
    (prints : ℕ → List Entry → Result A E → Type 0) (limit : ℕ) (bytes : List ℕ) (text : A)
    → IsMadeOf opening prints limit bytes (Ok text)
    → (es : List Entry) × (manifest : PortableManifest) × IsContainer bytes es
    × (judged limit es ≡ Ok manifest) × prints limit es (Ok text)
printed_of opening prints limit bytes text (inr p) = absurd (let h = p.2 in cc)
printed_of opening prints limit bytes text (inl (es, is, p)) = go (judged limit es) refl p
  where
    go : (r : Result PortableManifest PortableRecordingReadError) → judged limit es ≡ r
        → OfJudged opening prints limit es r (Ok text)
        → (found : List Entry) × (manifest : PortableManifest) × IsContainer bytes found
        × (judged limit found ≡ Ok manifest) × prints limit found (Ok text)
    go (Ok manifest) h q = (es, manifest, is, h, q)
    go (Err fault) h q = absurd cc

-- ---- what was printed, by the parts of the bundle

-- a part that was read
part_read : {A : Type 0} (r : Result A PortableRecordingReadError) (x : A) → of_bundle r ≡ Ok x
    → r ≡ Ok x
part_read (Ok y) x h = cc
part_read (Err e) x h = absurd cc

pub info_is : (limit : ℕ) (es : List Entry) (text : List ℕ) → info_printed limit es ≡ Ok text
    → (manifest : PortableManifest) × (judged limit es ≡ Ok manifest)
    × (manifest_line manifest ≡ text)
info_is limit es text h =
    let m =
    then_ok (of_bundle (judged limit es)) (λ manifest. Ok (manifest_line manifest)) text h in (
      m.0,
      part_read (judged limit es) m.0 m.1,
      Ok-injective ReadingError (manifest_line m.0) text m.2,
    )

unless_drawn : (text drawn : List ℕ) (refusal : Option ChromeTraceError)
    → trace_unless text refusal ≡ Ok drawn → (refusal ≡ None) × (text ≡ drawn)
unless_drawn text drawn None h = (refl, Ok-injective ReadingError text drawn h)
unless_drawn text drawn (Some e) h = absurd cc

module _ (g : ChromeTraceGroupBy) (format : ChromeTraceMessageFormat) (limit : ℕ)
    (es : List Entry) where
  pub trace_is : (text : List ℕ) → trace_of g format limit es ≡ Ok text
      → (manifest : PortableManifest) × (log : List ℕ) × (judged limit es ≡ Ok manifest)
      × (log_part limit es ≡ Ok log)
      × (log_refusal g (log_lines log) ≡ None) × (bundle_trace g format manifest log ≡ text)
  trace_is text h =
      let m = then_ok (of_bundle (judged limit es))
      (λ manifest. of_bundle (log_part limit es) >>= (λ log. trace_of_parts g format manifest log))
      text h in
      let l =
      then_ok (of_bundle (log_part limit es)) (λ log. trace_of_parts g format m.0 log) text m.2 in
      let d =
      unless_drawn (bundle_trace g format m.0 l.0) text (log_refusal g (log_lines l.0)) l.2 in (
        m.0,
        l.0,
        part_read (judged limit es) m.0 m.1,
        part_read (log_part limit es) l.0 l.1,
        d.0,
        d.1,
      )

  trace_printed : (manifest : PortableManifest) (log : List ℕ) → judged limit es ≡ Ok manifest
      → log_part limit es ≡ Ok log → log_refusal g (log_lines log) ≡ None
      → trace_of g format limit es ≡ Ok (bundle_trace g format manifest log)
  trace_printed manifest log h l r =
      ap (λ x. of_bundle x
      >>= (λ m. of_bundle (log_part limit es) >>= (λ found. trace_of_parts g format m found)))
      h
      ∙ ap (λ x. of_bundle x >>= (λ found. trace_of_parts g format manifest found)) l
      ∙ ap (trace_unless (bundle_trace g format manifest log)) r

-- ---- the trace of a bundle that a recording wrote

within_is : (limit : ℕ) (name content x : List ℕ) → within limit name content ≡ Ok x → content ≡ x
within_is limit name content x h =
    Ok-injective PortableRecordingReadError content x (unless_ok (nat_lt limit (length content))
    (FileTooLarge name (length content) limit) (Ok content) x h).1

found_is : (es : List Entry) (o : Option (List ℕ)) (x : List ℕ) → manifest_found es o ≡ Ok x
    → o ≡ Some x
found_is es None x h = absurd cc
found_is es (Some y) x h = ap Some (Ok-injective PortableRecordingReadError y x h)

read_is : (o : Option PortableManifest) (x : PortableManifest) → manifest_read o ≡ Ok x → o ≡ Some x
read_is None x h = absurd cc
read_is (Some y) x h = ap Some (Ok-injective PortableRecordingReadError y x h)

checked_is : (m x : PortableManifest) → versions_checked m ≡ Ok x → m ≡ x
checked_is m x h =
    let f = then_ok (format_checked m.format_version)
    (λ u. store_checked (store_version_in m.run) >>= (λ v. Ok m)) x h in
    let s = then_ok (store_checked (store_version_in m.run)) (λ v. Ok m) x f.2 in
    Ok-injective PortableRecordingReadError m x s.2

-- a manifest that is judged stands under its name
judged_parts : (limit : ℕ) (es : List Entry) (m : PortableManifest) → judged limit es ≡ Ok m
    → (text : List ℕ) × (content_of es manifest_name ≡ Some text)
    × (bytes_form manifest_form text ≡ Some m)
judged_parts limit es m h =
    let f = then_ok (manifest_found es (content_of es manifest_name))
    (λ found. within limit manifest_name found >>= (λ content. content_judged content)) m h in
    let w = then_ok (within limit manifest_name f.0) (λ content. content_judged content) m f.2 in
    let r = then_ok (manifest_read (bytes_form manifest_form w.0))
    (λ manifest. versions_checked manifest) m w.2 in
    let same = within_is limit manifest_name f.0 w.0 w.1 in (
      w.0,
      found_is es (content_of es manifest_name) f.0 f.1 ∙ ap Some same,
      read_is (bytes_form manifest_form w.0) r.0 r.1 ∙ ap Some (checked_is r.0 m r.2),
    )

log_is : (limit : ℕ) (o : Option (List ℕ)) (log : List ℕ) → log_found limit o ≡ Ok log
    → o ≡ Some log
log_is limit None log h = absurd cc
log_is limit (Some content) log h = ap Some (within_is limit log_name content log h)

same_trace : (settings recorded : Settings) (number : List ℕ → ℕ) (session bytes trace : List ℕ)
    (es : List Entry) (text : List ℕ)
    → AreOf number recorded session bytes trace
    → settings.group_by ≡ recorded.group_by → settings.message_format ≡ recorded.message_format
    → IsContainer bytes es
    → trace_of settings.group_by settings.message_format settings.read_limit es ≡ Ok text
    → text ≡ trace
same_trace settings recorded number session bytes trace es text are group format is h =
    let p = trace_is settings.group_by settings.message_format settings.read_limit es text h in
    let manifest = p.0 in
    let log = p.1 in
    let m = judged_parts settings.read_limit es manifest p.2 in
    let drawn = recorded-is_drawn number recorded settings session bytes trace es manifest m.0 log
    group format are is m.1 m.2 (log_is settings.read_limit (content_of es log_name) log p.3) in
    sym p.5 ∙ drawn.1

-- ---- how slots were used

-- what lines give, where they give events alone
events_are : (ls : List NumberedLine) (events : List RecordedEvent) → events_of ls ≡ Ok events
    → (first_line_fault ls ≡ None) × (events ≡ events_before_fault ls)
events_are ls events h = by (first_line_fault ls) refl h
  where
    by : (o : Option LineError) → first_line_fault ls ≡ o
        → unless_refused (option_map line_error o) (events_before_fault ls) ≡ Ok events
        → (first_line_fault ls ≡ None) × (events ≡ events_before_fault ls)
    by None is e = (is, sym (Ok-injective ReadingError (events_before_fault ls) events e))
    by (Some fault) is e = absurd cc

events_read : (ls : List NumberedLine) → first_line_fault ls ≡ None
    → events_of ls ≡ Ok (events_before_fault ls)
events_read ls none =
    ap (λ o. unless_refused (option_map line_error o) (events_before_fault ls)) none

module _ (limit : ℕ) (es : List Entry) where
  -- the log and the report after a printed text
  pub slots_are : (text : List ℕ) → PrintsSlots limit es (Ok text)
      → (log : List ℕ) × (report : SlotReport) × (log_part limit es ≡ Ok log)
      × (first_line_fault (log_lines log) ≡ None)
      × Reports (plain_log (log_lines log)) (Ok report) × (text ≡ slot_lines report)
  slots_are text p =
      let l = then_ok (of_bundle (log_part limit es)) (λ log. events_of (log_lines log)) p.0 p.1 in
      let e = events_are (log_lines l.0) p.0 l.2 in
      let r = p.2 in (
        l.0,
        r.0,
        part_read (log_part limit es) l.0 l.1,
        e.0,
        subst (λ (events : List RecordedEvent). Reports (map plain events) (Ok r.0)) e.1 r.1,
        r.2,
      )

  -- nothing keeps these events from a report
  no_cause : (events : List PlainEvent) → HasUsage events → (cause : SlotError)
      → (cause ≡ slots.OutOfMemory → ⊥) → IsRefused events cause → ⊥
  no_cause events u (slots.Refused e) other refused = let accepted = u.accepted in cc
  no_cause events u slots.NotOneRun other refused = refused.1 u.one
  no_cause events u (slots.AttemptOutside event) other refused =
      let first = refused.2 in u.inside first.0 first.2.holds
  no_cause events u (slots.StampFell event) other refused =
      let first = refused.3 in u.steady first.0 first.2.holds
  no_cause events u slots.OutOfMemory other refused = other refl

  slots_never : (log : List ℕ) → log_part limit es ≡ Ok log
      → first_line_fault (log_lines log) ≡ None → HasUsage (plain_log (log_lines log))
      → (e : ReadingError) → PrintsSlots limit es (Err e) → ⊥
  slots_never log has_log none usage e p = by p
    where
      all : run_events limit es ≡ Ok (events_before_fault (log_lines log))
      all =
          ap (λ r. of_bundle r >>= (λ l. events_of (log_lines l))) has_log
          ∙ events_read (log_lines log) none

      by : PrintsSlots limit es (Err e) → ⊥
      by (inl unread) = let whole = all in cc
      by (inr (events, is, (cause, other, why, shown))) =
          let same : events_before_fault (log_lines log) ≡ events =
          Ok-injective ReadingError (events_before_fault (log_lines log)) events (sym all ∙ is) in
          no_cause (map plain events)
          (subst (λ (xs : List RecordedEvent). HasUsage (map plain xs)) same usage) cause other why

-- ---- what a log's trace draws

first_none : {E : Type 0} (a b : Option E) → option_or a b ≡ None → a ≡ None
first_none None b h = refl
first_none (Some x) b h = absurd cc

pub log_timeline : (version : Parts) (g : ChromeTraceGroupBy) (ls : List NumberedLine)
    → log_refusal g ls ≡ None → DrawsTimeline version g (plain_log ls)
unfolding log_refusal
log_timeline version g ls none =
    draws_timeline version g (plain_log ls) (first_none (events_refusal g (plain_log ls))
    (option_map traces.ReadError (first_line_fault ls)) none)

-- ---- what the statuses 0 and 70 of each command that reads a bundle say

abbrev ReadingPrints : Type 1
ReadingPrints = ℕ → List Entry → Result (List ℕ) ReadingError → Type 0

module _ {S T G : Type 0} (left : S → Option (List ℕ)) (source_faults : S → ℕ)
    (out_taken : T → Option (List ℕ)) (out_faults : T → ℕ) (diag_taken : G → Option (List ℕ))
    (diag_faults : G → ℕ) (settings : Settings) (status : ℕ) (s0 s1 : S) (o0 o1 : T)
    (d0 d1 : G) where
  abbrev pub ShowsReading : ReadingPrints → Type 0
  ShowsReading prints =
      ShowsBundle reading_shown reading_status bundle_error left source_faults out_taken out_faults
      diag_taken diag_faults prints settings status s0 s1 o0 o1 d0 d1

  -- with status 0: the bundle that was read, and what was printed of it
  abbrev pub Printed : ReadingPrints → Type 0
  Printed prints =
      (bytes : List ℕ) × (es : List Entry) × (manifest : PortableManifest) × (text : List ℕ)
      × Gave left source_faults settings.session_limit s0 s1 bytes × IsContainer bytes es
      × (judged settings.read_limit es ≡ Ok manifest) × prints settings.read_limit es (Ok text)
      × Appends (out_taken o0) (out_taken o1) text

  module _ (zeroed : status ≡ 0) where
    pub bundle_printed : (prints : ReadingPrints) → ShowsReading prints → Printed prints
    bundle_printed prints runs =
        let w = shown_whole reading_shown reading_status reading_above bundle_error left
        source_faults out_taken out_faults diag_taken diag_faults prints settings status s0 s1 o0 o1
        d0 d1 zeroed runs in
        let p = printed_of bundle_error prints settings.read_limit w.1.0 w.0 w.1.2 in
        (w.1.0, p.0, p.1, w.0, w.1.1, p.2, p.3, p.4, w.2)

    pub redrawn : (recorded : Settings) (number : List ℕ → ℕ) (session bytes trace : List ℕ)
        → AreOf number recorded session bytes trace
        → settings.group_by ≡ recorded.group_by → settings.message_format ≡ recorded.message_format
        → left s0 ≡ Some bytes
        → ShowsReading (PrintsTrace settings.group_by settings.message_format)
        → Appends (out_taken o0) (out_taken o1) trace
    redrawn recorded number session bytes trace are group format has runs =
        let w = bundle_printed (PrintsTrace settings.group_by settings.message_format) runs in
        let same = same_session (left s0) (left s1) bytes w.0 has w.4.gave w.4.ended in
        let is = subst (λ (b : List ℕ). IsContainer b w.1) same w.5 in
        subst (λ (t : List ℕ). Appends (out_taken o0) (out_taken o1) t)
        (same_trace settings recorded number session bytes trace w.1 w.3 are group format is w.7.0)
        w.8

  -- what refuses none of the entries refuses nothing
  unrefused : (prints : ℕ → List Entry → Result (List ℕ) ReadingError → Type 0) (es : List Entry)
      (manifest : PortableManifest)
      → judged settings.read_limit es ≡ Ok manifest
      → ((e : ReadingError) → prints settings.read_limit es (Err e) → ⊥) → (e : ReadingError)
      → OfJudged bundle_error prints settings.read_limit es (judged settings.read_limit es) (Err e)
      → ⊥
  unrefused prints es manifest judged_is never e refused =
      never e (subst (λ (r : Result PortableManifest PortableRecordingReadError).
      OfJudged bundle_error prints settings.read_limit es r (Err e)) judged_is refused)

  -- a function of the entries that gives a text refuses nothing
  has_text : (f : ℕ → List Entry → Result (List ℕ) ReadingError) (es : List Entry) (text : List ℕ)
      (manifest : PortableManifest)
      → judged settings.read_limit es ≡ Ok manifest
      → f settings.read_limit es ≡ Ok text → (e : ReadingError)
      → OfJudged bundle_error (λ limit l r. f limit l ≡ r) settings.read_limit es
      (judged settings.read_limit es) (Err e)
      → ⊥
  has_text f es text manifest judged_is has =
      unrefused (λ limit l r. f limit l ≡ r) es manifest judged_is (λ e never. cc)

  module _ (bytes : List ℕ) (es : List Entry) (has : left s0 ≡ Some bytes)
      (short : length bytes ≤ settings.session_limit) (is : IsContainer bytes es)
      (source : ¬ (Rose (source_faults s0) (source_faults s1)))
      (out : ¬ (Rose (out_faults o0) (out_faults o1))) where
    printed_or_memory : (f : ℕ → List Entry → Result (List ℕ) ReadingError) (text : List ℕ)
        (manifest : PortableManifest)
        → judged settings.read_limit es ≡ Ok manifest
        → f settings.read_limit es ≡ Ok text → ShowsReading (λ limit l r. f limit l ≡ r)
        → (status ≡ 0) ⊎ (status ≡ 70)
    printed_or_memory f text manifest judged_is made runs =
        shown_or_memory reading_shown reading_status reading_above bundle_error left source_faults
        out_taken out_faults diag_taken diag_faults (λ limit l r. f limit l ≡ r)
        settings status s0 s1 o0 o1 d0 d1
        bytes es has short is (has_text f es text manifest judged_is made) source out refl runs

    pub info_or_memory : (manifest : PortableManifest) → judged settings.read_limit es ≡ Ok manifest
        → ShowsReading PrintsInfo → (status ≡ 0) ⊎ (status ≡ 70)
    info_or_memory manifest h =
        printed_or_memory info_printed (manifest_line manifest) manifest h
        (ap (λ r. of_bundle r >>= (λ m. Ok (manifest_line m))) h)

    pub trace_or_memory : (manifest : PortableManifest) (log : List ℕ)
        → judged settings.read_limit es ≡ Ok manifest → log_part settings.read_limit es ≡ Ok log
        → log_refusal settings.group_by (log_lines log) ≡ None
        → ShowsReading (PrintsTrace settings.group_by settings.message_format)
        → (status ≡ 0) ⊎ (status ≡ 70)
    trace_or_memory manifest log h l r runs =
        let prints = PrintsTrace settings.group_by settings.message_format in
        let made = trace_printed settings.group_by settings.message_format settings.read_limit es
        manifest log h l r in
        shown_or_memory reading_shown reading_status reading_above bundle_error left source_faults
        out_taken out_faults diag_taken diag_faults prints settings status s0 s1 o0 o1 d0 d1
        bytes es has short is
        (unrefused prints es manifest h (λ e refused. let never = refused.0 in cc))
        source out refl runs

    pub replay_or_memory : (output : LoadOutput) (text : List ℕ)
        → replay_of output settings.read_limit es ≡ Ok text → ShowsReading (PrintsReplay output)
        → (status ≡ 0) ⊎ (status ≡ 70)
    replay_or_memory output text h =
        let m = then_ok (of_bundle (judged settings.read_limit es))
        (λ manifest. parts_of settings.read_limit es
        >>= (λ parts. before (header_line (header_of (info_of manifest.run)))
        (printed line_prints output settings.read_limit parts)))
        text h in
        printed_or_memory (replay_of output) text m.0
        (part_read (judged settings.read_limit es) m.0 m.1) h

    pub report_or_memory : (manifest : PortableManifest) (text : List ℕ)
        → judged settings.read_limit es ≡ Ok manifest → report_of settings.read_limit es ≡ Ok text
        → ShowsReading PrintsReport → (status ≡ 0) ⊎ (status ≡ 70)
    report_or_memory manifest text h made = printed_or_memory report_of text manifest h made

    pub view_or_memory : (output : LoadOutput) (manifest : PortableManifest) (text : List ℕ)
        → judged settings.read_limit es ≡ Ok manifest
        → view_of output settings.read_limit es ≡ Ok text
        → ShowsReading (PrintsView output) → (status ≡ 0) ⊎ (status ≡ 70)
    view_or_memory output manifest text h made =
        printed_or_memory (view_of output) text manifest h made

    pub slots_or_memory : (manifest : PortableManifest) (log : List ℕ)
        → judged settings.read_limit es ≡ Ok manifest → log_part settings.read_limit es ≡ Ok log
        → first_line_fault (log_lines log) ≡ None
        → HasUsage (plain_log (log_lines log)) → ShowsReading PrintsSlots
        → (status ≡ 0) ⊎ (status ≡ 70)
    slots_or_memory manifest log h l none usage runs =
        shown_or_memory reading_shown reading_status reading_above bundle_error left source_faults
        out_taken out_faults diag_taken diag_faults PrintsSlots settings status s0 s1 o0 o1 d0 d1
        bytes es has short is (unrefused PrintsSlots es manifest h
        (λ e refused. slots_never settings.read_limit es log l none usage e refused))
        source out refl runs

    pub rerun_or_memory : (run : RerunParts) → rerun_parts_of settings.read_limit es ≡ Ok run
        → ShowsReading PrintsRerun → (status ≡ 0) ⊎ (status ≡ 70)
    rerun_or_memory run h runs =
        let m = then_ok (of_bundle (judged settings.read_limit es))
        (parts_after settings.read_limit es) run h in
        let manifest_is = part_read (judged settings.read_limit es) m.0 m.1 in
        shown_or_memory reading_shown reading_status reading_above bundle_error left source_faults
        out_taken out_faults diag_taken diag_faults PrintsRerun settings status s0 s1 o0 o1 d0 d1
        bytes es has short is (unrefused PrintsRerun es m.0 manifest_is (λ e refused. cc))
        source out refl runs
