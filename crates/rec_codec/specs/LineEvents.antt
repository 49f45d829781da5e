-- The events of a log's lines.
use Rattle.std.specs.Prelude.{◌≡◌, ℕ, List, Option, Some, None, Result, Ok}
use Rattle.std.specs.Prelude.{Err, Bool, true, false, IsSome, option_and_then}
use Rattle.serde_json.specs.Data.{Data}
use Rattle.rec_forms.specs.TextForm.{text_form}
use Rattle.rec_codec.specs.declared.line_events.LineError.TheVariants.{
  ReadRunLog,
  ParseEvent,
  OutOfMemory,
}
use Rattle.rec_codec.specs.declared.line_events.LineError.{LineError}
use Rattle.rec_codec.specs.Lines.{is_blank}

-- a text of which nothing is left
abbrev pub blank : Option (List ℕ) → Bool
blank None = false
blank (Some text) = is_blank text

module _ {T : Type 0} (form : Data → Option T) where
  -- why a line, which isn't blank, gives nothing; want of memory is free
  abbrev pub Misses : LineError → ℕ → Option (List ℕ) → Type 0
  Misses (ReadRunLog n) number text = (n ≡ number) × (text ≡ None)
  Misses (ParseEvent n) number text =
      (n ≡ number) × IsSome text × (option_and_then (text_form form) text ≡ None)
  Misses OutOfMemory number text = IsSome text

  -- what a line gives that isn't blank
  abbrev pub AnswersEvent : Result T LineError → ℕ → Option (List ℕ) → Type 0
  AnswersEvent (Ok x) number text = option_and_then (text_form form) text ≡ Some x
  AnswersEvent (Err e) number text = Misses e number text

  -- nothing comes of a line exactly where it is blank
  abbrev pub Answers : Option (Result T LineError) → ℕ → Option (List ℕ) → Type 0
  Answers None number text = blank text ≡ true
  Answers (Some r) number text = (blank text ≡ false) × AnswersEvent r number text
