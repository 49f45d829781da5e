-- What was recorded of a session is drawn as the session was.
use Rattle.std.proofs.Common.{◌≡◌, ℕ, List, [], ◌∷◌, map, Option, Some}
use Rattle.std.proofs.Common.{None, option_map, refl, sym, ap, ◌∙◌}
use Rattle.std.specs.Option.{option_or}
use Rattle.semver.specs.Parse.{Parts}
use Rattle.rec_container.proofs.Unique.{one_reading_spec}
use Rattle.rec_container.specs.Container.{Entry, IsContainer, content_of}
use Rattle.rec_events.specs.declared.events.TestEventSummary.{TestEventSummary}
use Rattle.rec_events.specs.declared.outputs.RecordingSpec.{RecordingSpec}
use Rattle.rec_events.specs.EventMaps.{event_with}
use Rattle.rec_forms.specs.TextForm.{bytes_form}
use Rattle.rec_format.specs.declared.head.SessionHead.{SessionHead}
use Rattle.rec_format.specs.declared.manifest.PortableManifest.{PortableManifest}
use Rattle.rec_format.specs.RunForms.{manifest_form}
use Rattle.rec_format.specs.Runs.{info_of}
use Rattle.rec_codec.proofs.LineReadings.{log_events-whole}
use Rattle.rec_codec.specs.Event.{LiveEvent, RecordedEvent, log_events}
use Rattle.rec_codec.specs.LineReading.{events_before_fault, first_line_fault}
use Rattle.rec_codec.specs.Lines.{NumberedLine, lines}
use Rattle.rec_store.proofs.PartsOf.{parts_of_record, read_from}
use Rattle.rec_store.specs.Entries.{bundle_entries, log_name, manifest_name}
use Rattle.rec_store.specs.Kept.{event_resolved, outputs_kept, outputs_resolved}
use Rattle.rec_store.specs.Reading.{RunRecord, record_of, recorded}
use Rattle.rec_spans.proofs.Plains.{event-plain}
use Rattle.rec_spans.specs.declared.settings.ChromeTraceGroupBy.{ChromeTraceGroupBy}
use Rattle.rec_spans.specs.Plain.{plain}
use Rattle.rec_spans.specs.Refusals.{events_refusal}
use Rattle.rec_trace.specs.Traces.{trace_text}
use Rattle.rec_errors.specs.TraceFaults.{trace_fault}
use Rattle.rec_reading.specs.LogLines.{log_lines}
use Rattle.rec_export.proofs.Judging.{after_count, after_head, after_lines, events_after}
use Rattle.rec_export.specs.Bundle.{AreOf, count_refusal, refusal_after}
use Rattle.rec_export.specs.Bundle.{session_events, size_refusal}
use Rattle.rec_export.specs.declared.settings.Settings.{Settings}
use Rattle.rec_export.specs.Session.{event_lines, events_of, lines_refusal, session_lines}
use Rattle.rec_export.specs.SessionTraces.{run_trace, trace_refusal}
use Rattle.rec_program.proofs.LogTraced.{refusal-whole}
use Rattle.rec_program.specs.BundleTraces.{bundle_trace}
use Rattle.rec_program.specs.LogTraces.{log_refusal, log_trace, plain_log}
use Rattle.rec_program.specs.Redrawing.{RecordedIsDrawn}

-- ---- what a record's manifest and log are

same-item : {A : Type 0} (x y : A) → Some x ≡ Some y → x ≡ y
same-item x y h = cc

-- the manifest and the log from which a record comes
pub record ComeFrom (text log_bytes : List ℕ) (es : List Entry) (r : RunRecord) : Type 0 where
  pub manifest : PortableManifest
  pub events : List RecordedEvent
  pub manifest_read : bytes_form manifest_form text ≡ Some manifest
  pub log_read : log_events (lines log_bytes) ≡ Some events
  pub run_is : info_of manifest.run ≡ r.run
  pub events_are : map (event_resolved es) events ≡ r.events

come-from : (text log_bytes : List ℕ) (es : List Entry) (r : RunRecord)
    → record_of text log_bytes es ≡ Some r → ComeFrom text log_bytes es r
come-from text log_bytes es r h =
    let made = parts_of_record text log_bytes es r h in
    let from = read_from text log_bytes es made.0 made.1 in
    record {
      manifest = from.manifest;
      events = made.0.events;
      manifest_read = from.is_manifest;
      log_read = from.events;
      run_is = from.run ∙ ap (λ (x : RunRecord). x.run) made.2;
      events_are = ap (λ (x : RunRecord). x.events) made.2;
    }

-- ---- the events of a log that was recorded

-- events are the same without outputs, whatever became of these
events-plain : (T : Type 0) {S O P : Type 0} (f : O → P) (events : List (TestEventSummary S O))
    → map plain (map (event_with {T = T} f) events) ≡ map plain events
events-plain T f [] = refl
events-plain T f (e ∷ events) = λ i. event-plain T f e i ∷ events-plain T f events i

module _ (number : List ℕ → ℕ) (m : ℕ) (head : SessionHead) (live : List LiveEvent)
    (text log_bytes : List ℕ) (es : List Entry)
    (from : ComeFrom text log_bytes es (recorded number m head live)) where
  -- its events are those of the session, but for the outputs
  events-same : map plain from.events ≡ map plain live
  events-same =
      sym (events-plain RecordingSpec (outputs_resolved es) from.events)
      ∙ ap (map plain) from.events_are
      ∙ events-plain RecordingSpec (outputs_kept m) live

  -- each of its lines gives an event, or is blank
  whole : (events_before_fault (log_lines log_bytes) ≡ from.events)
      × (first_line_fault (log_lines log_bytes) ≡ None)
  whole = (log_events-whole 1 (lines log_bytes) from.events).0 from.log_read

  pub recorded-plain : plain_log (log_lines log_bytes) ≡ map plain live
  recorded-plain = ap (map plain) whole.0 ∙ events-same

  -- so it is refused where they are
  pub recorded-refusal : (g : ChromeTraceGroupBy)
      → log_refusal g (log_lines log_bytes) ≡ events_refusal g (map plain live)
  recorded-refusal g =
      refusal-whole g (log_lines log_bytes) whole.1 ∙ ap (events_refusal g) recorded-plain

  pub recorded-version : from.manifest.run.nextest_version ≡ head.nextest_version
  recorded-version = ap (λ i. i.nextest_version) from.run_is

-- ---- an accepted session

second-none : {E : Type 0} (a b : Option E) → option_or a b ≡ None → b ≡ None
second-none None b h = h
second-none (Some x) b h = absurd cc

none-mapped : {A B : Type 0} (f : A → B) (o : Option A) → option_map f o ≡ None → o ≡ None
none-mapped f None h = refl
none-mapped f (Some x) h = absurd cc

module _ (number : List ℕ → ℕ) (settings : Settings) where
  -- the events of a session that is accepted have a trace
  accepted : (session : List ℕ) (head : SessionHead)
      → refusal_after number settings (Some head) (event_lines (session_lines session)) ≡ None
      → events_refusal settings.group_by (map plain (session_events session)) ≡ None
  accepted session head valid =
      let ls = event_lines (session_lines session) in
      let events = events_of ls in
      let sizes = second-none (lines_refusal number settings.max_output [] ls)
      (after_lines number settings head ls) valid in
      let size = second-none (count_refusal number settings head events)
      (after_count number settings head ls) sizes in
      let trace =
      second-none (size_refusal number settings head events) (trace_refusal settings events) size in
      ap (λ l. events_refusal settings.group_by (map plain l)) (sym (events_after session))
      ∙ none-mapped trace_fault (events_refusal settings.group_by (map plain events)) trace

  -- the text of a log that has these events, but for their outputs
  same-text : (head : SessionHead) (events : List LiveEvent) (version : Parts)
      (ls : List NumberedLine)
      → version ≡ head.nextest_version
      → plain_log ls ≡ map plain events
      → log_trace settings.group_by settings.message_format version ls
      ≡ run_trace settings head events
  unfolding log_trace run_trace
  same-text head events version ls same all =
      ap (λ v. trace_text settings.message_format settings.group_by v (plain_log ls)) same
      ∙ ap (trace_text settings.message_format settings.group_by head.nextest_version) all

  -- with the settings of the recording
  drawn-again : (session bundle trace : List ℕ) (es : List Entry) (manifest : PortableManifest)
      (manifest_text log : List ℕ)
      → AreOf number settings session bundle trace → IsContainer bundle es
      → content_of es manifest_name ≡ Some manifest_text
      → bytes_form manifest_form manifest_text ≡ Some manifest → content_of es log_name ≡ Some log
      → (log_refusal settings.group_by (log_lines log) ≡ None)
      × (bundle_trace settings.group_by settings.message_format manifest log ≡ trace)
  drawn-again session bundle trace es manifest manifest_text log are spelled manifest_at manifest_is
      log_at =
      let m = settings.max_output in
      let g = settings.group_by in
      let head = are.head in
      let events = session_events session in
      let reads = are.reads in
      let same : es ≡ bundle_entries reads.manifest reads.log reads.store =
      one_reading_spec bundle es (bundle_entries reads.manifest reads.log reads.store)
      spelled reads.bundled in
      let text_is : manifest_text ≡ reads.manifest =
      same-item _ _ (sym manifest_at ∙ ap (λ l. content_of l manifest_name) same) in
      let log_is : log ≡ reads.log =
      same-item _ _ (sym log_at ∙ ap (λ l. content_of l log_name) same) in
      let from = come-from manifest_text log reads.entries (recorded number m head events)
      (ap (λ t. record_of t log reads.entries) text_is
      ∙ ap (λ l. record_of reads.manifest l reads.entries) log_is ∙ reads.read) in
      let manifest_same : manifest ≡ from.manifest =
      same-item _ _ (sym manifest_is ∙ from.manifest_read) in
      let version = ap (λ (p : PortableManifest). p.run.nextest_version) manifest_same
      ∙ recorded-version number m head events manifest_text log reads.entries from in
      let all = recorded-plain number m head events manifest_text log reads.entries from in (
        recorded-refusal number m head events manifest_text log reads.entries from g
            ∙ accepted session head
            (sym (after_head number settings session head are.has_head) ∙ are.valid),
        same-text head events manifest.run.nextest_version (log_lines log) version all
            ∙ sym are.traced,
      )

-- and with others that group and write alike
pub recorded-is_drawn : (number : List ℕ → ℕ) (recording drawing : Settings)
    → RecordedIsDrawn number recording drawing
recorded-is_drawn number recording drawing session bundle trace es manifest manifest_text log
    same_group same_form are spelled manifest_at manifest_is log_at =
    let version = manifest.run.nextest_version in
    let ls = log_lines log in
    let again = drawn-again number recording session bundle trace es manifest manifest_text log are
    spelled manifest_at manifest_is log_at in (
      ap (λ g. log_refusal g ls) same_group ∙ again.0,
      ap (λ g. log_trace g drawing.message_format version ls) same_group
          ∙ ap (λ f. log_trace recording.group_by f version ls) same_form ∙ again.1,
    )
