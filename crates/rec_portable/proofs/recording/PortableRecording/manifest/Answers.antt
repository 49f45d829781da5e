use Rattle.std.proofs.Common.{subst, Ok, ◌≡◌}
use Rattle.rec_format.specs.declared.manifest.PortableManifest.{PortableManifest}
use Rattle.rec_portable.proofs.Opened.{is_judged, one_manifest}
use Rattle.rec_portable.proofs.recording.PortableRecording.manifest.Goals as goal
use Rattle.rec_portable.specs.Judging.{IsJudged}
use Rattle.rec_portable.specs.Opening.{Opening}

pub returns-clause-judged : goal.returns-clause-judged
returns-clause-judged c =
    let r = c.self.inside in
    subst (λ (v : Opening). IsJudged v.bytes v.limit (Ok r.parts.manifest)) c.self.view_is
    (is_judged r.bytes.items r.limit r.parts c.self.invariant)

pub returns-clause-only : goal.returns-clause-only
returns-clause-only c =
    let r = c.self.inside in
    let P : Opening → Type 0 = λ v. (manifest : PortableManifest)
    → IsJudged v.bytes v.limit (Ok manifest) → r.parts.manifest ≡ manifest in
    subst P c.self.view_is (one_manifest r.bytes.items r.limit r.parts c.self.invariant)
