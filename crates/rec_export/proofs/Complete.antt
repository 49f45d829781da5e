-- A valid session is exported, unless memory runs out or an object fails.
use Rattle.std.proofs.Common.{◌≡◌, ℕ, ◌≤◌, List, ◌++◌, length, Option, Some, None, Result, Ok, Err}
use Rattle.std.proofs.Common.{IfErr, ap, sym, refl, ◌∙◌, arith, inl, inr, append-nil, length-append}
use Rattle.std.specs.Io.KnownBytes.{Consumes, IsAtEnd}
use Rattle.rec_container.specs.Causes.{Rose}
use Rattle.rec_errors.specs.declared.export_error.RecordExportError.TheVariants.{
  SourceFault,
  SessionTooLarge,
  ParseHead,
  ReadRunLog,
  ParseEvent,
  NameCollision,
  CountOutOfRange,
  FileTooLarge,
  MissingTestStart,
  MissingScriptStart,
  MissingStressSubRunStart,
  SpanAlreadyOpen,
  SlotBusy,
  TimestampOutOfRange,
  RowOutOfRange,
  BundleFault,
  TraceFault,
  OutOfMemory,
}
use Rattle.rec_errors.specs.declared.export_error.RecordExportError.{RecordExportError}
use Rattle.rec_export.specs.Bundle.{session_refusal}
use Rattle.rec_export.specs.declared.settings.Settings.{Settings}
use Rattle.rec_export.specs.Export.{Undelivered, Fails}
use Rattle.rec_export.specs.Reading.{Unread}

-- what a source gave to its end is what it had
pub same_session : (a b : Option (List ℕ)) (session given : List ℕ) → a ≡ Some session
    → Consumes a b given → IsAtEnd b → given ≡ session
same_session None b session given has gave ended = absurd cc
same_session (Some x) None session given has gave ended = absurd gave
same_session (Some x) (Some y) session given has gave ended =
    let same : x ≡ session = cc in
    sym (append-nil given) ∙ ap (λ l. given ++ l) (sym ended) ∙ sym gave ∙ same

-- what a source gave is no longer than what it had
pub no_more : (a b : Option (List ℕ)) (session given : List ℕ) → a ≡ Some session
    → Consumes a b given → length given ≤ length session
no_more None b session given has gave = absurd cc
no_more (Some x) None session given has gave = absurd gave
no_more (Some x) (Some y) session given has gave =
    let same : x ≡ session = cc in let whole : session ≡ given ++ y = sym same ∙ gave in
    rw whole (omega (arith, length-append {A = ℕ}))

module _ {S B T : Type 0} (left : S → Option (List ℕ)) (source_faults : S → ℕ)
    (taken : B → Option (List ℕ)) (bundle_faults : B → ℕ) (out_taken : T → Option (List ℕ))
    (out_faults : T → ℕ) (number : List ℕ → ℕ) (settings : Settings) (s0 s1 : S) (b0 b1 : B)
    (t0 t1 : T) (session : List ℕ) (has : left s0 ≡ Some session)
    (within : length session ≤ settings.session_limit)
    (valid : session_refusal number settings session ≡ None)
    (source : ¬ (Rose (source_faults s0) (source_faults s1)))
    (bundle : ¬ (Rose (bundle_faults b0) (bundle_faults b1)))
    (trace : ¬ (Rose (out_faults t0) (out_faults t1))) where
  unread : (e : RecordExportError) → Unread left source_faults settings.session_limit s0 s1 e
      → e ≡ OutOfMemory
  unread SourceFault u = absurd (source u.0)
  unread (SessionTooLarge most) u =
      let longer = no_more (left s0) (left s1) session u.2.0 has u.2.1 in let count = u.2.2 in
      absurd (omega arith)
  unread ParseHead u = absurd u
  unread (ReadRunLog line_number) u = absurd u
  unread (ParseEvent line_number) u = absurd u
  unread (NameCollision file_name) u = absurd u
  unread (CountOutOfRange event) u = absurd u
  unread (FileTooLarge file_name size most) u = absurd u
  unread (MissingTestStart event binary_id test_name) u = absurd u
  unread (MissingScriptStart event script_id) u = absurd u
  unread (MissingStressSubRunStart event) u = absurd u
  unread (SpanAlreadyOpen event span) u = absurd u
  unread (SlotBusy event slot) u = absurd u
  unread (TimestampOutOfRange event) u = absurd u
  unread (RowOutOfRange event number) u = absurd u
  unread BundleFault u = absurd u
  unread TraceFault u = absurd u
  unread OutOfMemory u = refl

  undelivered : (bytes text : List ℕ) (e : RecordExportError)
      → Undelivered taken bundle_faults out_taken out_faults b0 b1 t0 t1 bytes text e
      → e ≡ OutOfMemory
  undelivered bytes text SourceFault u = absurd u
  undelivered bytes text (SessionTooLarge most) u = absurd u
  undelivered bytes text ParseHead u = absurd u
  undelivered bytes text (ReadRunLog line_number) u = absurd u
  undelivered bytes text (ParseEvent line_number) u = absurd u
  undelivered bytes text (NameCollision file_name) u = absurd u
  undelivered bytes text (CountOutOfRange event) u = absurd u
  undelivered bytes text (FileTooLarge file_name size most) u = absurd u
  undelivered bytes text (MissingTestStart event binary_id test_name) u = absurd u
  undelivered bytes text (MissingScriptStart event script_id) u = absurd u
  undelivered bytes text (MissingStressSubRunStart event) u = absurd u
  undelivered bytes text (SpanAlreadyOpen event span) u = absurd u
  undelivered bytes text (SlotBusy event slot) u = absurd u
  undelivered bytes text (TimestampOutOfRange event) u = absurd u
  undelivered bytes text (RowOutOfRange event number) u = absurd u
  undelivered bytes text BundleFault u = absurd (bundle u.0)
  undelivered bytes text TraceFault u = absurd (trace u.1)
  undelivered bytes text OutOfMemory u = refl

  pub fails : (e : RecordExportError)
      → Fails left source_faults taken bundle_faults out_taken out_faults number settings s0 s1 b0
      b1 t0 t1 e
      → e ≡ OutOfMemory
  fails e (inl u) = unread e u.0
  fails e (inr (inl r)) =
      let same = same_session (left s0) (left s1) session r.0 has r.1.gave r.1.ended in
      let refused : session_refusal number settings session ≡ Some e =
      ap (session_refusal number settings) (sym same) ∙ r.2 in
      absurd (let none = sym valid ∙ refused in cc)
  fails e (inr (inr d)) = undelivered d.1 d.2 e d.5

  pub complete : {X : Type 0} (r : Result X RecordExportError)
      → IfErr r (Fails left source_faults taken bundle_faults out_taken out_faults number settings
      s0 s1 b0 b1 t0 t1)
      → IfErr r (λ e. e ≡ OutOfMemory)
  complete (Ok x) h = tt
  complete (Err e) h = fails e h
