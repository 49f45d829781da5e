-- Outputs that clash: the same path, other bytes.
use Rattle.std.specs.Prelude.{ℕ, List, [], ◌∷◌, ◌++◌, Bool, false, not}
use Rattle.std.specs.Prelude.{Option, Some, None, is_some, if◌then◌else◌}
use Rattle.std.specs.Str.{bytes_eq}
use Rattle.rec_container.specs.Container.{Entry, content_of}

-- the entries, with one more if its name is new
abbrev pub with_entry : List Entry → Entry → List Entry
with_entry es e = if is_some (content_of es e.name) then es else es ++ e ∷ []

-- the same for several, one after the other
abbrev pub with_entries : List Entry → List Entry → List Entry
with_entries es [] = es
with_entries es (f ∷ fs) = with_entries (with_entry es f) fs

-- whether there is another content than this one
abbrev pub differs : Option (List ℕ) → List ℕ → Bool
differs None content = false
differs (Some held) content = not (bytes_eq held content)

-- the name of the first of the entries that stands earlier with another content, if any does
abbrev pub clash : List Entry → List Entry → Option (List ℕ)
clash es [] = None
clash es (f ∷ fs) =
    if differs (content_of es f.name) f.content then Some f.name else clash (with_entry es f) fs
