use Rattle.std.proofs.Common.{◌<◌, sym, subst, length, List, ℕ, Vec, Global, Option}
use Rattle.std.specs.Prelude.{OnSome, option_map}
use Rattle.rec_events.specs.declared.outputs.RecordingSpec.{RecordingSpec}
use Rattle.rec_forms.specs.Outputs.{stored_outputs_form}
use Rattle.rec_codec.specs.EventForms.{event_form}
use Rattle.rec_directory.proofs.events.next_item.Goals as goal
use Rattle.rec_directory.proofs.Fewer.{fewer_lifted, fewer_first}
use Rattle.rec_directory.specs.declared.log.LogPlace.{LogPlace}
use Rattle.rec_directory.specs.Events.{most_of, left_of, GivesLifted}
use Rattle.rec_directory.specs.Logs.{left_at}

pub returns-in-Some-clause-fewer : goal.returns-in-Some-clause-fewer
returns-in-Some-clause-fewer g c =
    let items : Vec ℕ Global → List ℕ = λ v. v.items in
    let item = c.item_at.result in
    let new = c.item_at.new.place in
    let P : Option (Vec ℕ Global) → Type 0 =
    λ o. OnSome item (length (left_at c.in-Some.bytes.items new)
    < most_of c.args.len (left_of (option_map items o) c.args.place.now)) in
    subst P (sym c.in-Some.is)
    (subst
    (λ (b : List ℕ). OnSome item (length (left_at b new) < length (left_at b c.args.place.now)))
    c.deref.ensures.value
    (fewer_lifted (event_form {S = RecordingSpec} stored_outputs_form) (left_at c.deref.result.now
    c.args.place.now) item (left_at c.deref.result.now new) c.item_at.ensures.gives))

pub returns-in-Ok-clause-fewer : goal.returns-in-Ok-clause-fewer
returns-in-Ok-clause-fewer g c =
    let items : Vec ℕ Global → List ℕ = λ v. v.items in
    let item = c.item_at-item.result in
    let new = c.item_at-item.new.place in
    let first : LogPlace = record { at = 0; number = 1 } in
    let form = event_form {S = RecordingSpec} stored_outputs_form in
    let P : Option (Vec ℕ Global) → Type 0 =
    λ o. OnSome item (length (left_at c.in-Ok.bytes.items new)
    < most_of c.args.len (left_of (option_map items o) c.args.place.now)) in
    let gives = subst (λ (b : List ℕ). GivesLifted form (left_at b first) item (left_at b new))
    c.deref-in-Ok.ensures.value c.item_at-item.ensures.gives in
    subst P (sym c.in_default.is)
    (fewer_first form (g.D.Disk.files c.args.disk.now) c.args.path.now c.args.len
    c.in-Ok.bytes.items item (left_at c.in-Ok.bytes.items new) c.in-Ok.ensures.ok gives)
