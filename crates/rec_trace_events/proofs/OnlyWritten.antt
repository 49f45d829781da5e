-- Fields that are left out unless a test holds.
use Rattle.std.proofs.Common.{◌≡◌}
use Rattle.std.proofs.lemmas.Bool.{false≢true}
use Rattle.std.specs.Prelude.{ℕ, List, [], ◌∷◌, Bool, true, false, Some}
use Rattle.json.specs.Token.{Token}
use Rattle.serde_json.specs.Data.{Data}
use Rattle.rec_forms.proofs.Writing.{saying}
use Rattle.rec_forms.specs.ObjectWriting.{Writes}
use Rattle.rec_forms.specs.Shape.{only}
use Rattle.rec_forms.specs.Writable.{IsWritable, IfWritten}

-- such a field was written
pub only_written : {a b test : Bool} {x y : List Token} {k : List ℕ} {d : Data} {K : Type 0}
    → test ≡ true → (K → IsWritable 7 d)
    → Writes a x b y ((k, Some d) ∷ []) K
    → Writes a x b y ((k, only test d) ∷ []) (IfWritten 7 (only test d))
only_written {test = true} holds says w = saying says w
only_written {test = false} holds says w = absurd (false≢true holds)
