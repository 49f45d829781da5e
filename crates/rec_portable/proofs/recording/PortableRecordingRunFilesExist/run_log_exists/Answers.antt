use Rattle.std.proofs.Common.{◌≡◌, ◌∙◌, subst, List}
use Rattle.std.specs.Prelude.{is_some}
use Rattle.rec_container.specs.Container.{Entry, IsContainer, content_of}
use Rattle.rec_store.specs.Entries.{log_name}
use Rattle.rec_portable.proofs.Opened.{log_there}
use Rattle.rec_portable.proofs.recording.PortableRecordingRunFilesExist.run_log_exists.Goals as goal
use Rattle.rec_portable.specs.Opening.{Opening}

pub returns : goal.returns
returns c =
    let r = c.self.inside in
    let P : Opening → Type 0 = λ v. (es : List Entry) → IsContainer v.bytes es
    → c.is_some.result ≡ is_some (content_of es log_name) in
    subst P c.self.view_is
    (λ es h. c.is_some.ensures ∙ log_there r.bytes.items r.limit r.parts c.self.invariant es h)
