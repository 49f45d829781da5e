-- The trace of what was recorded.
use Rattle.std.specs.Prelude.{◌≡◌, ℕ, List, Some, None}
use Rattle.rec_container.specs.Container.{Entry, IsContainer, content_of}
use Rattle.rec_forms.specs.TextForm.{bytes_form}
use Rattle.rec_format.specs.declared.manifest.PortableManifest.{PortableManifest}
use Rattle.rec_format.specs.RunForms.{manifest_form}
use Rattle.rec_store.specs.Entries.{log_name, manifest_name}
use Rattle.rec_reading.specs.LogLines.{log_lines}
use Rattle.rec_export.specs.Bundle.{AreOf}
use Rattle.rec_export.specs.declared.settings.Settings.{Settings}
use Rattle.rec_program.specs.BundleTraces.{bundle_trace}
use Rattle.rec_program.specs.LogTraces.{log_refusal}

-- What was recorded of a session is drawn as the session was: where a bundle and a trace were
-- written of a session, the log of the bundle isn't refused, and under the same grouping and in the
-- same form the trace of the bundle is the text that was written
abbrev pub RecordedIsDrawn : (List ℕ → ℕ) → Settings → Settings → Type 0
RecordedIsDrawn number recording drawing =
    (session bundle trace : List ℕ) (es : List Entry) (manifest : PortableManifest)
    (manifest_text log : List ℕ)
    → drawing.group_by ≡ recording.group_by → drawing.message_format ≡ recording.message_format
    → AreOf number recording session bundle trace → IsContainer bundle es
    → content_of es manifest_name ≡ Some manifest_text
    → bytes_form manifest_form manifest_text ≡ Some manifest → content_of es log_name ≡ Some log
    → (log_refusal drawing.group_by (log_lines log) ≡ None)
    × (bundle_trace drawing.group_by drawing.message_format manifest log ≡ trace)
