use Rattle.std.proofs.Common.{◌∙◌, ap, subst, List, ℕ, Option}
use Rattle.std.specs.Option.{option_map}
use Rattle.rec_container.specs.Container.{Entry, IsContainer}
use Rattle.rec_portable.proofs.Opened.{log_shown}
use Rattle.rec_portable.proofs.recording.PortableRecording.read_run_log.Goals as goal
use Rattle.rec_portable.specs.Errors.{Reads}
use Rattle.rec_portable.specs.Opening.{Opening}
use Rattle.rec_portable.specs.OuterEntries.{log_found, log_part}
use Rattle.rec_portable.specs.Windows.{bytes_in}

pub returns : goal.returns
returns c =
    let r = c.self.inside in
    let P : Opening → Type 0 =
    λ v. (es : List Entry) → IsContainer v.bytes es → Reads (log_part v.limit es) c.within.result in
    subst P c.self.view_is
    (λ es h. subst (λ (o : Option (List ℕ)). Reads (log_found r.limit o) c.within.result)
    (c.part_of-found.ensures ∙ ap (λ bytes. option_map (bytes_in bytes) r.parts.log)
    c.deref.ensures.value ∙ log_shown r.bytes.items r.limit r.parts c.self.invariant es h)
    c.within.ensures)
