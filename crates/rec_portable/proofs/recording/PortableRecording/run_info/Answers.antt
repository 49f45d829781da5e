use Rattle.std.proofs.Common.{subst, Ok}
use Rattle.std.specs.Prelude.{◌≡◌, IfOk}
use Rattle.rec_format.specs.declared.manifest.PortableManifest.{PortableManifest}
use Rattle.rec_format.specs.Runs.{info_of}
use Rattle.rec_portable.proofs.Opened.{one_manifest}
use Rattle.rec_portable.proofs.recording.PortableRecording.run_info.Goals as goal
use Rattle.rec_portable.specs.Judging.{IsJudged}
use Rattle.rec_portable.specs.Opening.{Opening}

pub returns : goal.returns
returns c =
    let r = c.self.inside in
    let P : Opening → Type 0 =
    λ v. (manifest : PortableManifest) → IsJudged v.bytes v.limit (Ok manifest)
    → IfOk c.run_info.result (λ info. info ≡ info_of manifest.run) in
    subst P c.self.view_is (λ manifest h.
    subst (λ (m : PortableManifest). IfOk c.run_info.result (λ info. info ≡ info_of m.run))
    (one_manifest r.bytes.items r.limit r.parts c.self.invariant manifest h) c.run_info.ensures)
