-- What a writer answers beside what its definition gives.
use Rattle.std.specs.Prelude.{◌≡◌, Bool, true, false, ◌&&◌, List, [], ◌∷◌, ⊤, Result, Ok, Err}
use Rattle.serde_json.specs.Data.{Data}
use Rattle.serde_json.specs.declared.value.Value.{Value}
use Rattle.serde_json.specs.View.{view}
use Rattle.rec_codec.specs.declared.errors.ToValueError.TheVariants.{NotLoaded, OutOfMemory}
use Rattle.rec_codec.specs.declared.errors.ToValueError.{ToValueError}

-- a fault comes where an output is not loaded; want of memory is free
abbrev pub FailsUnloaded : ToValueError → Bool → Type 0
FailsUnloaded NotLoaded loaded = loaded ≡ false
FailsUnloaded OutOfMemory loaded = Unit {0}

-- the value of an item whose outputs are all loaded
abbrev pub Writes : Result Value ToValueError → Data → Bool → Type 0
Writes (Ok v) d loaded = (view v ≡ d) × (loaded ≡ true)
Writes (Err e) d loaded = FailsUnloaded e loaded

-- what a call that writes to a text answers, by whether the outputs in what it writes are all
-- loaded
abbrev pub WritesLoaded : Result ⊤ ToValueError → Bool → Type 0
WritesLoaded (Ok u) loaded = loaded ≡ true
WritesLoaded (Err e) loaded = FailsUnloaded e loaded

-- whether all items pass a test
abbrev pub every : {T : Type 0} → (T → Bool) → List T → Bool
every p [] = true
every p (x ∷ xs) = p x && every p xs
