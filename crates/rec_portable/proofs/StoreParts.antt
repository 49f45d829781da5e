-- What a reader answers over the entries of a container.
use Rattle.std.proofs.Common.{◌≡◌, List, Result, sym, subst}
use Rattle.rec_container.specs.Container.{Entry}
use Rattle.rec_store.proofs.PartRefusals.{answers_part}
use Rattle.rec_store.specs.declared.read_error.RecordReadError.{RecordReadError}
use Rattle.rec_store.specs.Readers.{Reads, Answers}

pub answers_entries : {X Y : Type 0} (show : X → Y) (part : List Entry → Result Y RecordReadError)
    (entries : List Entry) (r : Result X RecordReadError)
    → Reads show (part entries) r → (es : List Entry) → es ≡ entries → Answers show (part es) r
answers_entries show part entries r h es e =
    subst (λ (fs : List Entry). Answers show (part fs) r) (sym e)
    (answers_part show (part entries) r h)
