-- Items as bytes.
use Rattle.std.specs.Prelude.{ℕ, List, Option, None, option_and_then, if◌then◌else◌}
use Rattle.std.specs.Str.{is_utf8}
use Rattle.serde_json.specs.Data.{Data}
use Rattle.serde_json.specs.Read.{read}

-- the value that bytes are, where they are a text
abbrev pub value_in : List ℕ → Option Data
value_in bytes = if is_utf8 bytes then read bytes else None

-- the item that a text stands for
abbrev pub text_form : {T : Type 0} → (Data → Option T) → List ℕ → Option T
text_form form text = option_and_then form (read text)

-- the item that bytes stand for
abbrev pub bytes_form : {T : Type 0} → (Data → Option T) → List ℕ → Option T
bytes_form form bytes = option_and_then form (value_in bytes)
