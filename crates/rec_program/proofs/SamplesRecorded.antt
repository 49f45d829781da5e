-- What is recorded of a made session, and why nothing is.
use Rattle.std.proofs.Common.{◌≡◌, ◌⊎◌, inl, inr, ℕ, ◌<◌, ◌≤◌, List, length}
use Rattle.std.proofs.Common.{Option, None, Some, refl, sym, ap, subst, ◌∙◌, arith}
use Rattle.std.specs.Io.KnownBytes.{Appends}
use Rattle.rec_container.specs.Causes.{Rose}
use Rattle.rec_container.specs.Within.{Gave}
use Rattle.rec_errors.specs.declared.export_error.RecordExportError.TheVariants.{
  SourceFault,
  SessionTooLarge,
  ParseHead,
  ReadRunLog,
  ParseEvent,
  NameCollision,
  CountOutOfRange,
  FileTooLarge,
  MissingTestStart,
  MissingScriptStart,
  MissingStressSubRunStart,
  SpanAlreadyOpen,
  SlotBusy,
  TimestampOutOfRange,
  RowOutOfRange,
  BundleFault,
  TraceFault,
  OutOfMemory,
}
use Rattle.rec_errors.specs.declared.export_error.RecordExportError.{RecordExportError}
use Rattle.rec_export.proofs.Complete.{no_more, same_session}
use Rattle.rec_export.specs.Bundle.{AreOf, session_events, session_refusal}
use Rattle.rec_export.specs.declared.counts.Exported.{Exported}
use Rattle.rec_export.specs.declared.settings.Settings.{Settings}
use Rattle.rec_export.specs.Export.{CountsOf, Exports, Fails, Undelivered}
use Rattle.rec_export.specs.Reading.{Unread}
use Rattle.rec_faults.specs.Status.{export_status}
use Rattle.rec_program.proofs.StatusesAbove.{export_above}
use Rattle.rec_program.specs.Counts.{counts_line}
use Rattle.rec_program.specs.Running.{RecordsSample}
use Rattle.rec_program.specs.Samples.{MakesSample, SampleFails, Samples}
use Rattle.rec_program.specs.Samples.{TakesSample, sample_error, session_counts}

-- ---- an export over a source in memory

module _ {B T : Type 0} (taken : B → Option (List ℕ)) (faults : B → ℕ)
    (trace_taken : T → Option (List ℕ)) (trace_faults : T → ℕ) (number : List ℕ → ℕ)
    (settings : Settings) (session s0 s1 : List ℕ) (b0 b1 : B) (t0 t1 : T) (is : s0 ≡ session) where
  given_is : (given : List ℕ)
      → Gave (λ (s : List ℕ). Some s) (λ (s : List ℕ). 0) settings.session_limit s0 s1 given
      → given ≡ session
  given_is given gave = same_session (Some s0) (Some s1) s0 given refl gave.gave gave.ended ∙ is

  given_within : (given : List ℕ)
      → Gave (λ (s : List ℕ). Some s) (λ (s : List ℕ). 0) settings.session_limit s0 s1 given
      → length session ≤ settings.session_limit
  given_within given gave =
      subst (λ (s : List ℕ). length s ≤ settings.session_limit) (given_is given gave) gave.within

  -- what was exported was made of the session
  pub made : (exported : Exported)
      → Exports (λ (s : List ℕ). Some s) (λ (s : List ℕ). 0)
      taken faults trace_taken trace_faults number settings s0 s1 b0 b1 t0 t1 exported
      → MakesSample taken number settings session b0 b1 exported
  made exported e =
      let same = given_is e.0 e.3 in (
        e.1,
        e.2,
        given_within e.0 e.3,
        subst (λ (s : List ℕ). AreOf number settings s e.1 e.2) same e.4,
        e.5,
        subst (λ (s : List ℕ). CountsOf number settings.max_output s e.1 e.2 exported) same e.7,
      )

  unread : (e : RecordExportError)
      → Unread (λ (s : List ℕ). Some s) (λ (s : List ℕ). 0) settings.session_limit s0 s1 e → b1 ≡ b0
      → SampleFails taken faults number settings session b0 b1 (sample_error e)
  unread SourceFault u kept = absurd (omega (arith, u.0))
  unread (SessionTooLarge most) u kept =
      let longer = no_more (Some s0) (Some s1) s0 u.2.0 refl u.2.1 in
      let count = u.2.2 in
      let above : settings.session_limit < length s0 = omega (arith, longer, count) in
      inl (
        ap SessionTooLarge u.0,
        subst (λ (s : List ℕ). settings.session_limit < length s) is above,
        kept,
      )
  unread ParseHead u kept = absurd u
  unread (ReadRunLog line_number) u kept = absurd u
  unread (ParseEvent line_number) u kept = absurd u
  unread (NameCollision file_name) u kept = absurd u
  unread (CountOutOfRange event) u kept = absurd u
  unread (FileTooLarge file_name size most) u kept = absurd u
  unread (MissingTestStart event binary_id test_name) u kept = absurd u
  unread (MissingScriptStart event script_id) u kept = absurd u
  unread (MissingStressSubRunStart event) u kept = absurd u
  unread (SpanAlreadyOpen event span) u kept = absurd u
  unread (SlotBusy event slot) u kept = absurd u
  unread (TimestampOutOfRange event) u kept = absurd u
  unread (RowOutOfRange event number) u kept = absurd u
  unread BundleFault u kept = absurd u
  unread TraceFault u kept = absurd u
  unread OutOfMemory u kept = inr (inr (inr (refl, inl kept)))

  module _ (within : length session ≤ settings.session_limit) where
    refused : (e : RecordExportError) → session_refusal number settings session ≡ Some e → b1 ≡ b0
        → SampleFails taken faults number settings session b0 b1 (sample_error e)
    refused SourceFault h kept = inr (inl (within, h, kept))
    refused (SessionTooLarge most) h kept = inr (inl (within, h, kept))
    refused ParseHead h kept = inr (inl (within, h, kept))
    refused (ReadRunLog line_number) h kept = inr (inl (within, h, kept))
    refused (ParseEvent line_number) h kept = inr (inl (within, h, kept))
    refused (NameCollision file_name) h kept = inr (inl (within, h, kept))
    refused (CountOutOfRange event) h kept = inr (inl (within, h, kept))
    refused (FileTooLarge file_name size most) h kept = inr (inl (within, h, kept))
    refused (MissingTestStart event binary_id test_name) h kept = inr (inl (within, h, kept))
    refused (MissingScriptStart event script_id) h kept = inr (inl (within, h, kept))
    refused (MissingStressSubRunStart event) h kept = inr (inl (within, h, kept))
    refused (SpanAlreadyOpen event span) h kept = inr (inl (within, h, kept))
    refused (SlotBusy event slot) h kept = inr (inl (within, h, kept))
    refused (TimestampOutOfRange event) h kept = inr (inl (within, h, kept))
    refused (RowOutOfRange event number) h kept = inr (inl (within, h, kept))
    refused BundleFault h kept = inr (inl (within, h, kept))
    refused TraceFault h kept = inr (inr (inr (refl, inl kept)))
    refused OutOfMemory h kept = inr (inl (within, h, kept))

    module _ (bundle trace : List ℕ) (are : AreOf number settings session bundle trace) where
      undelivered : (e : RecordExportError)
          → Undelivered taken faults trace_taken trace_faults b0 b1 t0 t1 bundle trace e
          → SampleFails taken faults number settings session b0 b1 (sample_error e)
      undelivered SourceFault u = absurd u
      undelivered (SessionTooLarge most) u = absurd u
      undelivered ParseHead u = absurd u
      undelivered (ReadRunLog line_number) u = absurd u
      undelivered (ParseEvent line_number) u = absurd u
      undelivered (NameCollision file_name) u = absurd u
      undelivered (CountOutOfRange event) u = absurd u
      undelivered (FileTooLarge file_name size most) u = absurd u
      undelivered (MissingTestStart event binary_id test_name) u = absurd u
      undelivered (MissingScriptStart event script_id) u = absurd u
      undelivered (MissingStressSubRunStart event) u = absurd u
      undelivered (SpanAlreadyOpen event span) u = absurd u
      undelivered (SlotBusy event slot) u = absurd u
      undelivered (TimestampOutOfRange event) u = absurd u
      undelivered (RowOutOfRange event number) u = absurd u
      undelivered BundleFault u = inr (inr (inl (refl, (bundle, trace, within, are, u.0, u.1))))
      undelivered TraceFault u = inr (inr (inr (refl, inr (bundle, trace, within, are, u.0))))
      undelivered OutOfMemory u = absurd u

  -- what isn't exported wasn't recorded of the session
  pub failed : (e : RecordExportError)
      → Fails (λ (s : List ℕ). Some s) (λ (s : List ℕ). 0)
      taken faults trace_taken trace_faults number settings s0 s1 b0 b1 t0 t1 e
      → SampleFails taken faults number settings session b0 b1 (sample_error e)
  failed e (inl u) = unread e u.0 u.1
  failed e (inr (inl r)) =
      refused (given_within r.0 r.1) e
      (ap (session_refusal number settings) (sym (given_is r.0 r.1)) ∙ r.2) r.3
  failed e (inr (inr d)) =
      undelivered (given_within d.0 d.3) d.1 d.2
      (subst (λ (s : List ℕ). AreOf number settings s d.1 d.2) (given_is d.0 d.3) d.4) e d.5

-- ---- the line of what was recorded

module _ {B : Type 0} (taken : B → Option (List ℕ)) (number : List ℕ → ℕ) (settings : Settings)
    (session : List ℕ) (b0 b1 : B) (exported : Exported)
    (m : MakesSample taken number settings session b0 b1 exported) where
  pub takes : TakesSample taken number settings session b0 b1
  takes = (m.0, m.1, m.2, m.3, m.4)

  pub counted : (line : List ℕ) → line ≡ counts_line exported.events exported.outputs
      → Samples taken number settings session b0 b1 line
  counted line h = (
    takes,
    h ∙ ap (λ n. counts_line n exported.outputs) m.5.events
        ∙ ap (counts_line (length (session_events session))) m.5.outputs,
  )

-- ---- what the status of `sample` says

module _ {B T G : Type 0} (taken : B → Option (List ℕ)) (faults : B → ℕ)
    (out_taken : T → Option (List ℕ)) (out_faults : T → ℕ) (diag_taken : G → Option (List ℕ))
    (diag_faults : G → ℕ) (number : List ℕ → ℕ) (settings : Settings) (session : List ℕ)
    (status : ℕ) (b0 b1 : B) (o0 o1 : T) (d0 d1 : G) where
  -- with status 0 the session was recorded, and its counts were printed
  pub sampled : status ≡ 0
      → RecordsSample taken faults out_taken out_faults diag_taken diag_faults number settings
      session status b0 b1 o0 o1 d0 d1
      → TakesSample taken number settings session b0 b1
      × Appends (out_taken o0) (out_taken o1) (session_counts number settings session)
  sampled zeroed (inl (line, s, inl p)) =
      (s.0, subst (λ (t : List ℕ). Appends (out_taken o0) (out_taken o1) t) s.1 p.1)
  sampled zeroed (inl (line, s, inr p)) =
      absurd (let eleven : status ≡ 11 = p.0 in omega (arith, zeroed, eleven))
  sampled zeroed (inr r) =
      absurd (let above = export_above r.0 in let same : status ≡ export_status r.0 = r.3.0 in
      omega (arith, zeroed, same, above))

  module _ (within : length session ≤ settings.session_limit)
      (valid : session_refusal number settings session ≡ None)
      (bundle : ¬ (Rose (faults b0) (faults b1)))
      (out : ¬ (Rose (out_faults o0) (out_faults o1))) where
    only_memory : (e : RecordExportError) → SampleFails taken faults number settings session b0 b1 e
        → e ≡ OutOfMemory
    only_memory e (inl long) = absurd (let above = long.1 in omega (arith, within, above))
    only_memory e (inr (inl r)) = absurd (let none = sym valid ∙ r.1 in cc)
    only_memory e (inr (inr (inl part))) = absurd (bundle part.1.4)
    only_memory e (inr (inr (inr memory))) = memory.0

    -- what can be recorded is recorded, unless memory runs out or an object fails
    pub sampled_or_memory : RecordsSample taken faults out_taken out_faults diag_taken diag_faults
        number settings session status b0 b1 o0 o1 d0 d1
        → (status ≡ 0) ⊎ (status ≡ 70)
    sampled_or_memory (inl (line, s, inl p)) = inl p.0
    sampled_or_memory (inl (line, s, inr p)) = absurd (out p.1)
    sampled_or_memory (inr r) = inr (r.3.0 ∙ ap export_status (only_memory r.0 r.1))
