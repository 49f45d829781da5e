-- Objects with outputs among their fields are judged by their last call.
use Rattle.std.proofs.Common.{◌≡◌, Bool, true, false, Result, Ok, Err}
use Rattle.std.specs.Prelude.{OnOk, ⊤}
use Rattle.rec_codec.specs.declared.errors.ToValueError.{ToValueError}
use Rattle.rec_codec.specs.LoadedWriting.{Ends}
use Rattle.rec_codec.specs.Writes.{WritesLoaded}

-- what holds where memory never ran out
pub at_end : (failed : Bool) (P : Type 0) (result : Result ⊤ ToValueError) → (failed ≡ false → P)
    → Ends result failed → OnOk result P
at_end failed P (Ok u) says goes = says goes
at_end failed P (Err e) says is = tt

-- outputs that are loaded
pub loaded_at_end : (failed loaded : Bool) (result : Result ⊤ ToValueError) → loaded ≡ true
    → Ends result failed → WritesLoaded result loaded
loaded_at_end failed loaded (Ok u) sure goes = sure
loaded_at_end failed loaded (Err e) sure is = rw is tt
