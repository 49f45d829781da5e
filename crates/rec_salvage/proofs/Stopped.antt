-- Nothing that a recorder accepted is lost.
use Rattle.std.proofs.Common.{◌≡◌, ℕ, Bool, true, false, ◌&&◌, List, [], ◌∷◌, ◌++◌, Option, Some}
use Rattle.std.proofs.Common.{None, is_some, IsTrue, Result, Ok, Err, IfOk, IfErr, MatchResult}
use Rattle.std.proofs.Common.{option_and_then, option_map, map, refl, ap, subst, ◌∙◌}
use Rattle.std.specs.List.{flat_map, list_all, AllByRecursion}
use Rattle.std.specs.Option.{option_or}
use Rattle.std.specs.Str.{is_utf8}
use Rattle.serde_json.specs.Data.{Data}
use Rattle.rec_container.proofs.WholePrefixes.{prefix_one}
use Rattle.rec_container.specs.Container.{Entry, content_of}
use Rattle.rec_forms.specs.Outputs.{stored_outputs_value}
use Rattle.rec_forms.specs.Recording.{test_list_form, record_opts_form}
use Rattle.rec_forms.specs.Shape.{only}
use Rattle.rec_forms.specs.TextForm.{bytes_form}
use Rattle.rec_format.specs.declared.run.RecordedRunInfo.{RecordedRunInfo}
use Rattle.rec_format.specs.RerunForms.{rerun_info_form}
use Rattle.rec_format.specs.ScopeForms.{recorded_scope_form}
use Rattle.rec_codec.proofs.CompactText.{IsPiece-from_is_piece, compact_text_piece}
use Rattle.rec_codec.proofs.LineLemmas.{IsPiece}
use Rattle.rec_codec.proofs.LogLaws.{event_text_not_blank, text_of-event_text}
use Rattle.rec_codec.specs.Event.{IsLogged, LiveEvent, RecordedEvent}
use Rattle.rec_codec.specs.Event.{event_line, event_text, line_event, log_text}
use Rattle.rec_codec.specs.EventForms.{event_value}
use Rattle.rec_codec.specs.Lines.{text_of}
use Rattle.rec_store.proofs.Held.{all_prefix, all_back}
use Rattle.rec_store.proofs.KeptLaws.{names, paths_of_event, resolved_events}
use Rattle.rec_store.specs.Bundle.{events_recorded, run_log, run_outputs}
use Rattle.rec_store.specs.Entries.{build_scope_path, cargo_metadata_path}
use Rattle.rec_store.specs.Entries.{record_opts_path, rerun_info_path, test_list_path}
use Rattle.rec_store.specs.EventOutputs.{event_entries, event_recorded}
use Rattle.rec_store.specs.Kept.{IsHeld, event_resolved}
use Rattle.rec_store.specs.RunParts.{maybe_part}
use Rattle.rec_store.specs.Saved.{HasMetadata, IsStopped}
use Rattle.rec_salvage.proofs.Refused.{only_refused}
use Rattle.rec_salvage.proofs.WholeLog.{all_sound, lines_and_part}
use Rattle.rec_salvage.specs.declared.errors.SalvageError.TheVariants.{OutOfMemory}
use Rattle.rec_salvage.specs.declared.errors.SalvageError.{SalvageError}
use Rattle.rec_salvage.specs.declared.salvaging.Salvaged.{Salvaged}
use Rattle.rec_salvage.specs.Refusals.{IsRefusal, IsRefused, prefix_refusal}
use Rattle.rec_salvage.specs.Refusals.{maybe_refusal, part_refusal, stands_for}
use Rattle.rec_salvage.specs.Salvaged.{event_in, has_all, is_sound, line_events, salvaged_events}
use Rattle.rec_salvage.specs.Salvages.{Restores, Salvages}
use Rattle.rec_salvage.specs.WholeLines.{sound_lines, spelled, whole_lines}

-- ---- metadata that is read isn't refused

module _ {T : Type 0} (form : Data → Option T) (path : List ℕ) where
  part_stands : (o : Option (List ℕ)) → IsTrue (is_some (option_and_then (bytes_form form) o))
      → part_refusal path (stands_for form) o ≡ None
  part_stands None h = absurd (let none = h in cc)
  part_stands (Some content) h = by (bytes_form form content) h
    where
      by : (o : Option T) → IsTrue (is_some o)
          → part_refusal path (λ c. is_some o) (Some content) ≡ None
      by None h = absurd (let none = h in cc)
      by (Some x) h = refl

  maybe_stands : (o : Option (List ℕ)) → IsTrue (is_some (maybe_part form o))
      → maybe_refusal path (stands_for form) o ≡ None
  maybe_stands None h = refl
  maybe_stands (Some content) h = by (bytes_form form content) h
    where
      by : (o : Option T) → IsTrue (is_some (option_map Some o))
          → maybe_refusal path (λ c. is_some o) (Some content) ≡ None
      by None h = absurd (let none = h in cc)
      by (Some x) h = refl

text_stands : (path : List ℕ) (o : Option (List ℕ))
    → IsTrue (is_some (option_and_then (λ s. only (is_utf8 s) s) o))
    → part_refusal path is_utf8 o ≡ None
text_stands path None h = absurd (let none = h in cc)
text_stands path (Some content) h = by (is_utf8 content) h
  where
    by : (b : Bool) → IsTrue (is_some (only b content))
        → part_refusal path (λ c. b) (Some content) ≡ None
    by true h = refl
    by false h = absurd (let none = h in cc)

no_refusal : (a b : Option SalvageError) → a ≡ None → b ≡ None → option_or a b ≡ None
no_refusal a b p q = ap (λ o. option_or o b) p ∙ q

unrefused : (es : List Entry) → HasMetadata es → prefix_refusal es ≡ None
unrefused es has =
    no_refusal _ _ (part_stands recorded_scope_form build_scope_path
    (content_of es build_scope_path) has.build_scope)
    (no_refusal _ _
    (maybe_stands rerun_info_form rerun_info_path (content_of es rerun_info_path) has.rerun_info)
    (no_refusal _ _
    (part_stands test_list_form test_list_path (content_of es test_list_path) has.test_list)
    (no_refusal _ _
    (text_stands cargo_metadata_path (content_of es cargo_metadata_path) has.cargo_metadata)
    (part_stands record_opts_form record_opts_path (content_of es record_opts_path)
    has.record_opts))))

-- ---- the lines of events that were logged

log_spelled : (events : List RecordedEvent) → log_text events ≡ spelled (map event_text events)
log_spelled [] = refl
log_spelled (e ∷ events) = ap (λ l. event_line e ++ l) (log_spelled events)

text_pieces : (events : List RecordedEvent) → AllByRecursion IsPiece (map event_text events)
unfolding event_text
text_pieces [] = tt
text_pieces (e ∷ events) = (
  IsPiece-from_is_piece (event_text e) (compact_text_piece (event_value stored_outputs_value e)),
  text_pieces events,
)

line_read : (e : RecordedEvent) → IsLogged e → line_event (text_of (event_text e)) ≡ Some (Some e)
line_read e h = rw (text_of-event_text e h, event_text_not_blank e, h.read) refl

logged_events : (events : List RecordedEvent) → AllByRecursion IsLogged events
    → flat_map line_events (map event_text events) ≡ events
logged_events [] h = refl
logged_events (e ∷ events) h =
    ap (λ o. event_in o ++ flat_map line_events (map event_text events)) (line_read e h.0)
    ∙ ap (λ l. e ∷ l) (logged_events events h.1)

module _ (number : List ℕ → ℕ) (m : ℕ) (es : List Entry) where
  -- each path of entries that are held is there
  all_held : (fs : List Entry) → AllByRecursion (IsHeld es) fs
      → list_all (λ path. is_some (content_of es path)) (names fs) ≡ true
  all_held [] h = refl
  all_held (f ∷ fs) h =
      ap (λ o. is_some o && list_all (λ path. is_some (content_of es path)) (names fs)) h.0
      ∙ all_held fs h.1

  event_sound : (e : LiveEvent) → IsLogged (event_recorded number m e)
      → AllByRecursion (IsHeld es) (event_entries number m e)
      → is_sound es (event_text (event_recorded number m e)) ≡ true
  event_sound e logged held =
      ap (has_all es) (line_read (event_recorded number m e) logged)
      ∙ ap (list_all (λ path. is_some (content_of es path))) (paths_of_event number m e)
      ∙ all_held (event_entries number m e) held

  events_sound : (events : List LiveEvent)
      → AllByRecursion IsLogged (events_recorded number m events)
      → AllByRecursion (IsHeld es) (run_outputs number m events)
      → AllByRecursion (λ line. is_sound es line ≡ true)
      (map event_text (events_recorded number m events))
  events_sound [] logged held = tt
  events_sound (e ∷ events) logged held = (
    event_sound e logged.0
        (all_prefix (IsHeld es) (event_entries number m e) (run_outputs number m events) held),
    events_sound events logged.1
        (all_back (IsHeld es) (event_entries number m e) (run_outputs number m events) held),
  )

  -- the events that are salvaged of a log are those that were logged
  salvaged_are : (events : List LiveEvent) (rest : List ℕ)
      → AllByRecursion IsLogged (events_recorded number m events)
      → AllByRecursion (IsHeld es) (run_outputs number m events) → IsPiece rest
      → salvaged_events es (run_log number m events ++ rest) ≡ events_recorded number m events
  salvaged_are events rest logged held piece =
      let texts = map event_text (events_recorded number m events) in
      let whole : whole_lines (run_log number m events ++ rest) ≡ texts =
      ap (λ l. whole_lines (l ++ rest)) (log_spelled (events_recorded number m events))
      ∙ lines_and_part texts rest (text_pieces (events_recorded number m events)) piece in
      ap (λ ls. flat_map line_events (sound_lines (is_sound es) ls)) whole
      ∙ ap (flat_map line_events) (all_sound (is_sound es) texts (events_sound events logged held))
      ∙ logged_events (events_recorded number m events) logged

-- ---- what is made of a recording that was stopped

module _ (number : List ℕ → ℕ) (m : ℕ) (events : List LiveEvent) (run : RecordedRunInfo)
    (log store : List ℕ) (stopped : IsStopped number m events log store) where
  restored : (s : Salvaged) → Salvages run log store s → Restores m events s
  restored s made =
      let es = stopped.entries in
      let same : made.entries ≡ es = prefix_one store made.entries es made.prefix stopped.prefix in
      let salvaged : salvaged_events made.entries log ≡ events_recorded number m events =
      ap (λ l. salvaged_events l log) same ∙ ap (salvaged_events es) stopped.log_is ∙ salvaged_are
      number m es events stopped.rest stopped.logged stopped.outputs stopped.unended in
      record {
        recorded = made.recorded;
        read = made.read;
        events_are =
            made.events_are ∙ ap (map (event_resolved made.entries)) salvaged
            ∙ ap (λ l. map (event_resolved l) (events_recorded number m events)) same
            ∙ resolved_events number m es events stopped.outputs;
      }

  pub nothing_lost : (r : Result Salvaged SalvageError) → IfOk r (Salvages run log store)
      → IfErr r (IsRefused store) → MatchResult r (Restores m events) (λ e. e ≡ OutOfMemory)
  nothing_lost (Ok s) made refused = restored s made
  nothing_lost (Err e) made refused =
      subst (λ (o : Option SalvageError). IsRefusal o e)
      (unrefused stopped.entries stopped.metadata)
      (only_refused store stopped.entries (Err e) stopped.prefix refused)
