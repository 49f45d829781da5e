-- What an export does with a session.
use Rattle.std.specs.Io.KnownBytes.{Appends}
use Rattle.std.specs.Prelude.{◌≡◌, ℕ, List, length, Option, Some, ◌⊎◌}
use Rattle.rec_container.specs.Causes.{Rose}
use Rattle.rec_container.specs.Taking.{TookPart}
use Rattle.rec_container.specs.Within.{Gave}
use Rattle.rec_store.specs.Bundle.{outputs_stored}
use Rattle.rec_errors.specs.declared.export_error.RecordExportError.TheVariants.{
  BundleFault,
  TraceFault,
}
use Rattle.rec_errors.specs.declared.export_error.RecordExportError.{RecordExportError}
use Rattle.rec_export.specs.Bundle.{session_events, session_refusal, AreOf}
use Rattle.rec_export.specs.declared.counts.Exported.{Exported}
use Rattle.rec_export.specs.declared.settings.Settings.{Settings}
use Rattle.rec_export.specs.Reading.{Unread}

-- what is counted of a session, with the outputs that are stored of it,
-- and of its bundle and its trace
pub record CountsOf (number : List ℕ → ℕ) (m : ℕ) (session bundle trace : List ℕ)
    (exported : Exported) : Type 0 where
  pub events : exported.events ≡ length (session_events session)
  pub outputs : exported.outputs ≡ length (outputs_stored number m (session_events session))
  pub bundle_bytes : exported.bundle_bytes ≡ length bundle
  pub trace_bytes : exported.trace_bytes ≡ length trace

module _ {B T : Type 0} (taken : B → Option (List ℕ)) (faults : B → ℕ)
    (out_taken : T → Option (List ℕ)) (out_faults : T → ℕ) where
  -- the bundle's sink failed, and took a proper prefix of the bundle, and the trace's is as it was;
  -- or the bundle was taken whole, and the trace's sink failed,
  -- and took a proper prefix of the trace
  abbrev pub Undelivered : B → B → T → T → List ℕ → List ℕ → RecordExportError → Type 0
  Undelivered b0 b1 t0 t1 bundle trace BundleFault =
      Rose (faults b0) (faults b1) × TookPart (taken b0) (taken b1) bundle × (t1 ≡ t0)
  Undelivered b0 b1 t0 t1 bundle trace TraceFault =
      Appends (taken b0) (taken b1) bundle × Rose (out_faults t0) (out_faults t1)
      × TookPart (out_taken t0) (out_taken t1) trace
  Undelivered b0 b1 t0 t1 bundle trace e = ⊥

module _ {S B T : Type 0} (left : S → Option (List ℕ)) (source_faults : S → ℕ)
    (taken : B → Option (List ℕ)) (bundle_faults : B → ℕ) (out_taken : T → Option (List ℕ))
    (out_faults : T → ℕ) (number : List ℕ → ℕ) (settings : Settings) where
  -- the session was read to its end, and the sinks took its bundle and its trace
  abbrev pub Exports : S → S → B → B → T → T → Exported → Type 0
  Exports s0 s1 b0 b1 t0 t1 exported =
      (session : List ℕ) × (bundle : List ℕ) × (trace : List ℕ)
      × Gave left source_faults settings.session_limit s0 s1 session
      × AreOf number settings session bundle trace
      × Appends (taken b0) (taken b1) bundle × Appends (out_taken t0) (out_taken t1) trace
      × CountsOf number settings.max_output session bundle trace exported

  -- why a session isn't exported: it wasn't read, or memory ran out, and the source gave at most
  -- one byte more than the limit; or it was read and is refused; or a sink failed. Before the first
  -- byte both sinks are as they were
  abbrev pub Fails : S → S → B → B → T → T → RecordExportError → Type 0
  Fails s0 s1 b0 b1 t0 t1 e =
      (Unread left source_faults settings.session_limit s0 s1 e × (b1 ≡ b0) × (t1 ≡ t0))
      ⊎ ((session : List ℕ) × Gave left source_faults settings.session_limit s0 s1 session
      × (session_refusal number settings session ≡ Some e) × (b1 ≡ b0) × (t1 ≡ t0))
      ⊎ ((session : List ℕ) × (bundle : List ℕ) × (trace : List ℕ)
      × Gave left source_faults settings.session_limit s0 s1 session
      × AreOf number settings session bundle trace
      × Undelivered taken bundle_faults out_taken out_faults b0 b1 t0 t1 bundle trace e)
