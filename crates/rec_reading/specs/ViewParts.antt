-- What a view is made of, beside its bundle.
use Rattle.std.specs.declared.alloc.Global.{Global}
use Rattle.std.specs.Prelude.{◌≡◌, ◌⊎◌, ℕ, List, ◌++◌, Result, Ok, Err, Vec}
use Rattle.rec_format.specs.declared.run.RecordedRun.{RecordedRun}
use Rattle.rec_errors.specs.declared.reading_error.ReadingError.TheVariants.{OutOfMemory}
use Rattle.rec_errors.specs.declared.reading_error.ReadingError.{ReadingError}
use Rattle.rec_reading.specs.declared.view.ViewParts.{ViewParts}
use Rattle.rec_reading.specs.Views.{view_line}

-- the view of a run, and the outputs behind it
abbrev pub parts_line : ViewParts → List ℕ
parts_line parts = view_line parts.run parts.events.items ++ parts.outputs.items

-- the parts of the text that is printed, or why none is, or memory ran out
abbrev pub ReadsParts : Result (List ℕ) ReadingError → Result ViewParts ReadingError → Type 0
ReadsParts expected (Ok parts) = expected ≡ Ok (parts_line parts)
ReadsParts expected (Err e) = (e ≡ OutOfMemory) ⊎ (expected ≡ Err e)

-- the run and its outputs, or why these aren't read, or memory ran out
abbrev pub KeepsParts : RecordedRun → Result (List ℕ) ReadingError
    → Result (RecordedRun × Vec ℕ Global) ReadingError → Type 0
KeepsParts run outputs (Ok (copy, text)) = (copy ≡ run) × (outputs ≡ Ok text.items)
KeepsParts run outputs (Err e) = (e ≡ OutOfMemory) ⊎ (outputs ≡ Err e)
