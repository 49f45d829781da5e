-- What calls answer that write outputs among the other fields of an object.
use Rattle.std.specs.Prelude.{◌≡◌, Bool, true, false, ⊤, Result, Ok, Err}
use Rattle.rec_codec.specs.declared.errors.ToValueError.TheVariants.{OutOfMemory}
use Rattle.rec_codec.specs.declared.errors.ToValueError.{ToValueError}
use Rattle.rec_codec.specs.Writes.{FailsUnloaded}

-- a call that goes on only where the outputs are loaded
abbrev pub GoesOnLoaded : {T : Type 0} → Result T ToValueError → Bool → Type 0
GoesOnLoaded (Ok x) loaded = loaded ≡ true
GoesOnLoaded (Err e) loaded = FailsUnloaded e loaded

-- the last call, which is refused only where memory ran out before
abbrev pub Ends : Result ⊤ ToValueError → Bool → Type 0
Ends (Ok u) failed = failed ≡ false
Ends (Err e) failed = e ≡ OutOfMemory
