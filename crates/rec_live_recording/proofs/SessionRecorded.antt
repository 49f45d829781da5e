-- What was recorded of a session, and why not all of it.
use Rattle.std.proofs.Common.{◌≡◌, ℕ, ◌+◌, ◌≤◌, List, [], ◌∷◌, length, Option, Some, None}
use Rattle.std.proofs.Common.{Bool, true, false, ◌||◌, refl, sym, ap, subst, ◌∙◌, inl, inr, ◌⊎◌}
use Rattle.std.proofs.Common.{arith}
use Rattle.std.specs.Io.KnownBytes.{Appends}
use Rattle.std.specs.List.{cons_option}
use Rattle.std.specs.Prelude.{filter_map}
use Rattle.rec_container.proofs.Spelling.{prefix-ending}
use Rattle.rec_container.specs.Container.{AreFrom, Entry, ending, prefix, spell}
use Rattle.rec_format.specs.declared.head.SessionHead.{SessionHead}
use Rattle.rec_codec.specs.Event.{RecordedEvent, log_text}
use Rattle.rec_codec.specs.Lines.{NumberedLine, lines, numbered, text_of}
use Rattle.rec_store.proofs.StoreTaken.{appended, took_prefix}
use Rattle.rec_store.proofs.Storing.{sound_store}
use Rattle.rec_store.specs.Bundle.{events_recorded, run_log}
use Rattle.rec_store.specs.Recording.{Recording, has_failed}
use Rattle.rec_store.specs.Saved.{HasAccepted, TookLines}
use Rattle.rec_errors.specs.declared.export_error.RecordExportError.TheVariants.{
  OutOfMemory,
  ParseHead,
}
use Rattle.rec_errors.specs.declared.export_error.RecordExportError.{RecordExportError}
use Rattle.rec_export.specs.Bundle.{head_in, session_head}
use Rattle.rec_export.specs.Session.{event_lines, events_of, head_text, lines_refusal}
use Rattle.rec_export.specs.Session.{session_lines}
use Rattle.rec_live_recording.proofs.Causes.{refused_weaker}
use Rattle.rec_live_recording.proofs.EventsRecorded.{overflows_then}
use Rattle.rec_live_recording.specs.declared.errors.LiveError.TheVariants.{
  LogFault,
  ManifestFault,
  OutFault,
  Refused,
  StoreFault,
}
use Rattle.rec_live_recording.specs.declared.errors.LiveError.{LiveError}
use Rattle.rec_live_recording.specs.Finished.{HasRun, IsFinished}
use Rattle.rec_live_recording.specs.Refusals.{ComesOf, HeadOverflows, IsRecordable, IsRefused}
use Rattle.rec_live_recording.specs.Refusals.{Overflows, SessionOverflows, head_refusal}
use Rattle.rec_live_recording.specs.Refusals.{recording_refusal, refusal_after}
use Rattle.rec_live_recording.specs.Session.{after_first_line, event_of, events_after_head}
use Rattle.rec_live_recording.specs.Session.{lines_after}

-- ---- the lines of a session

lines_behind : (all : List (List ℕ))
    → event_lines (numbered 1 all) ≡ numbered 2 (after_first_line all)
lines_behind [] = refl
lines_behind (line ∷ all) = refl

-- those after the head are those of the rest
pub event_lines_left : (session rest : List ℕ) (n : ℕ) → n ≡ 1
    → after_first_line (lines session) ≡ lines rest
    → event_lines (session_lines session) ≡ lines_after n rest
event_lines_left session rest n is left =
    lines_behind (lines session) ∙ ap (numbered 2) left
    ∙ ap (λ k. numbered (k + 1) (lines rest)) (sym is)

events_numbered : (n : ℕ) (all : List (List ℕ))
    → events_of (numbered n all) ≡ filter_map event_of all
events_numbered n [] = refl
events_numbered n (line ∷ all) = ap (cons_option (event_of line)) (events_numbered (n + 1) all)

-- their events are those of the session
pub session_events_are : (session : List ℕ)
    → events_of (event_lines (session_lines session)) ≡ events_after_head session
session_events_are session =
    ap events_of (lines_behind (lines session))
    ∙ events_numbered 2 (after_first_line (lines session))

-- the head of a session is that of its first line
pub head_of_first : (session line rest : List ℕ) → lines session ≡ line ∷ lines rest
    → session_head session ≡ head_in (text_of line)
head_of_first session line rest first =
    ap (λ (ls : List (List ℕ)). head_in (head_text (numbered 1 ls))) first

pub no_head : (session : List ℕ) → session ≡ [] → session_head session ≡ None
no_head session none = ap session_head none

-- a session without a head is refused for it
pub refused_head : (o : Option SessionHead) (e : RecordExportError) → head_refusal o ≡ Some e
    → (e ≡ ParseHead) × (o ≡ None)
refused_head None e h = ((let k = sym h in cc), refl)
refused_head (Some head) e h = absurd (let k = h in cc)

pub headless : (o : Option SessionHead) → o ≡ None → head_refusal o ≡ Some ParseHead
headless o none = ap head_refusal none

-- why the text of a first line isn't read as a head is why the session isn't begun
pub head_unread : (failed : Type 0) (limit total : ℕ) (session line rest : List ℕ)
    (e : RecordExportError)
    → lines session ≡ line ∷ lines rest
    → (e ≡ OutOfMemory) ⊎ ((e ≡ ParseHead) × (head_in (text_of line) ≡ None))
    → IsRefused failed limit total (head_refusal (session_head session)) ⊥ e
head_unread failed limit total session line rest e first (inl h) = inr (inr (inr (inr h)))
head_unread failed limit total session line rest e first (inr h) =
    inr (inr (inl (headless (session_head session)
    (head_of_first session line rest first ∙ h.1) ∙ ap Some (sym h.0))))

module _ (number : List ℕ → ℕ) (m : ℕ) (session : List ℕ) where
  pub head_refuses : (e : RecordExportError) → head_refusal (session_head session) ≡ Some e
      → recording_refusal number m session ≡ Some e
  head_refuses e h =
      let why = refused_head (session_head session) e h in
      ap (λ o. refusal_after number m o (event_lines (session_lines session))) why.1
      ∙ ap Some (sym why.0)

  pub lines_refuse : (head : SessionHead) → session_head session ≡ Some head
      → recording_refusal number m session
      ≡ lines_refusal number m [] (event_lines (session_lines session))
  lines_refuse head has =
      ap (λ o. refusal_after number m o (event_lines (session_lines session))) has

  pub head_overflows : HeadOverflows number m session → SessionOverflows number m session
  head_overflows h =
      (h.0, h.1, overflows_then number m h.0 [] (events_after_head session) h.2)

  -- why a head isn't recorded is why the session isn't
  pub head_stops : (failed : Type 0) (limit total : ℕ) (e : RecordExportError)
      → IsRefused failed limit total (head_refusal (session_head session))
      (HeadOverflows number m session) e
      → IsRefused failed limit total (recording_refusal number m session)
      (SessionOverflows number m session) e
  head_stops failed limit total e h =
      refused_weaker (head_refusal (session_head session)) (recording_refusal number m session)
      (HeadOverflows number m session) (SessionOverflows number m session) head_refuses
      head_overflows failed failed limit limit total refl (λ x. x) e h

  -- what isn't recorded of the lines after the head isn't recorded of the session
  module _ (head : SessionHead) (has : session_head session ≡ Some head) where
    pub lines_stop : (failed failed' : Type 0) (limit limit' total : ℕ) (after : List NumberedLine)
        → event_lines (session_lines session) ≡ after → limit ≡ limit' → (failed → failed')
        → (e : RecordExportError)
        → IsRefused failed limit total (lines_refusal number m [] after)
        (Overflows number m head (events_of after)) e
        → IsRefused failed' limit' total (recording_refusal number m session)
        (SessionOverflows number m session) e
    lines_stop failed failed' limit limit' total after is same g e h =
        refused_weaker (lines_refusal number m [] after) (recording_refusal number m session)
        (Overflows number m head (events_of after)) (SessionOverflows number m session)
        (λ r refused. lines_refuse head has ∙ ap (lines_refusal number m []) is ∙ refused)
        (λ overflows. (
          head,
          has,
          subst (Overflows number m head)
              (sym (ap events_of is) ∙ session_events_are session) overflows,
        ))
        failed failed' limit limit' total same g e h

    -- and what was recorded of them is recorded of it
    pub lines_valid : (after : List NumberedLine) → event_lines (session_lines session) ≡ after
        → lines_refusal number m [] after ≡ None → recording_refusal number m session ≡ None
    lines_valid after is none =
        lines_refuse head has ∙ ap (lines_refusal number m []) is ∙ none

    pub lines_events : (after : List NumberedLine) → event_lines (session_lines session) ≡ after
        → events_of after ≡ events_after_head session
    lines_events after is = sym (ap events_of is) ∙ session_events_are session

-- ---- a session that was recorded whole

took_lines : (failed : Bool) (events : List RecordedEvent) (now : Option (List ℕ))
    → failed ≡ false → TookLines failed events now → now ≡ Some (log_text events)
took_lines true events now sound h = absurd (let k = sound in cc)
took_lines false events now sound h = h

second_false : (a b : Bool) → (a || b) ≡ false → b ≡ false
second_false true b h = absurd (let k = h in cc)
second_false false b h = h

module _ {S L N : Type 0} (taken : S → Option (List ℕ)) (log_taken : L → Option (List ℕ))
    (number : N → List ℕ → ℕ) (namer : N) (m : ℕ) (session : List ℕ)
    (before manifest : Option (List ℕ)) (r : Recording S L N) (store : S) (log : L)
    (sound : has_failed r ≡ false)
    (accepted : HasAccepted taken log_taken number (events_after_head session) r) where
  -- the store's end was written behind what was recorded
  pub finished : recording_refusal (number namer) m session ≡ None
      → HasRun number namer m session (events_after_head session) before manifest r
      → Appends (taken r.store.sink) (taken store) (ending r.store.entries)
      → AreFrom [] r.store.entries → log ≡ r.log
      → IsFinished (number namer) m session before manifest (log_taken log) (taken store)
  finished valid run ended from same = record {
    head = run.head;
    has_head = run.has_head;
    valid = valid;
    manifest_taken = run.manifest_taken;
    logged =
        ap log_taken same
        ∙ took_lines r.log_failed (events_recorded (number r.namer) r.max_output
        (events_after_head session)) (log_taken r.log)
        (second_false r.store.failed r.log_failed sound) accepted.log
        ∙ ap (λ (n : N). Some (run_log (number n) r.max_output (events_after_head session)))
        run.recorded.namer_kept
        ∙ ap (λ k. Some (run_log (number namer) k (events_after_head session)))
        run.recorded.limit_kept;
    stored =
        appended (prefix r.store.entries) (ending r.store.entries) (taken store)
        (subst (λ (known : Option (List ℕ)). Appends known (taken store) (ending r.store.entries))
        (took_prefix r.store.failed r.store.entries (taken r.store.sink) (sound_store r sound)
        accepted.store) ended)
        ∙ ap Some (prefix-ending r.store.entries)
        ∙ ap (λ (es : List Entry). Some (spell es)) run.recorded.stored;
    sound = subst (AreFrom []) run.recorded.stored from;
    recorded = run.recorded.recorded;
  }

-- ---- where nothing fails

module _ (number : List ℕ → ℕ) (m : ℕ) (session : List ℕ) (limit : ℕ)
    (within : length session ≤ limit) (recordable : IsRecordable number m session)
    (source manifest store log out : Type 0) (no_source : ¬ source) (no_manifest : ¬ manifest)
    (no_store : ¬ store) (no_log : ¬ log) (no_out : ¬ out) where
  no_refusal : (o : Option RecordExportError) (e : RecordExportError) → o ≡ None → o ≡ Some e → ⊥
  no_refusal o e none some = let k = sym none ∙ some in cc

  unrefused : (e : RecordExportError)
      → IsRefused source limit (length session) (recording_refusal number m session)
      (SessionOverflows number m session) e
      → e ≡ OutOfMemory
  unrefused e (inl h) = absurd (no_source h.1)
  unrefused e (inr (inl h)) =
      absurd (let long = h.1 in omega (arith, long, within))
  unrefused e (inr (inr (inl h))) =
      absurd (no_refusal (recording_refusal number m session) e recordable.valid h)
  unrefused e (inr (inr (inr (inl h)))) = absurd (recordable.fits h.1)
  unrefused e (inr (inr (inr (inr h)))) = h

  -- only memory can run out
  pub only_memory : (e : LiveError)
      → ComesOf manifest store log out (IsRefused source limit (length session)
      (recording_refusal number m session) (SessionOverflows number m session)) e
      → e ≡ Refused OutOfMemory
  only_memory ManifestFault h = absurd (no_manifest h)
  only_memory StoreFault h = absurd (no_store h)
  only_memory LogFault h = absurd (no_log h)
  only_memory OutFault h = absurd (no_out h)
  only_memory (Refused e) h = ap Refused (unrefused e h)
