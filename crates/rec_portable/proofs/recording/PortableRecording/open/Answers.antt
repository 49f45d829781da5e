use Rattle.std.proofs.Common.{refl, subst, List, ℕ}
use Rattle.rec_portable.proofs.Opened.{is_judged}
use Rattle.rec_portable.proofs.recording.PortableRecording.open.Goals as goal
use Rattle.rec_portable.specs.Opening.{IsOpen}

pub returns-clause-ok : goal.returns-clause-ok
returns-clause-ok g c =
    let parts = c.in_ok-parts.parts in
    let o = subst (λ (b : List ℕ). IsOpen b c.args.read_limit parts)
    c.deref.ensures.value c.in_ok-parts.ensures.ok in
    record {
      path_is = refl;
      limit_is = refl;
      gave = c.in_ok-bytes.ensures.ok;
      manifest = parts.manifest;
      judged = is_judged c.in_ok-bytes.bytes.items c.args.read_limit parts o;
    }
