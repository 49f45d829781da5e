use Rattle.std.proofs.Common.{◌≡◌, ◌∙◌, ap, subst, List}
use Rattle.std.specs.Option.{option_map}
use Rattle.rec_container.specs.Container.{Entry, IsContainer, content_of}
use Rattle.rec_store.specs.Entries.{store_name}
use Rattle.rec_portable.proofs.Opened.{store_shown}
use Rattle.rec_portable.proofs.recording.PortableRecording.store_window.Goals as goal
use Rattle.rec_portable.specs.Opening.{Opening}
use Rattle.rec_portable.specs.Windows.{bytes_in}

pub returns : goal.returns
returns c =
    let r = c.self.inside in
    let P : Opening → Type 0 = λ v. (es : List Entry) → IsContainer v.bytes es
    → option_map (λ b. b.now) c.part_of.result ≡ content_of es store_name in
    subst P c.self.view_is (λ es h. c.part_of.ensures
    ∙ ap (λ bytes. option_map (bytes_in bytes) r.parts.store) c.deref.ensures.value
    ∙ store_shown r.bytes.items r.limit r.parts c.self.invariant es h)
