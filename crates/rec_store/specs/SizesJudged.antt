-- Entries that are longer than a reader takes.
use Rattle.std.specs.Option.{option_or}
use Rattle.std.specs.Prelude.{ℕ, List, [], ◌∷◌, length, nat_le, Option, Some, None, if◌then◌else◌}
use Rattle.rec_container.specs.Container.{Entry}
use Rattle.rec_store.specs.declared.sizes_judged.TooLarge.{TooLarge}

-- an entry that is longer than the limit
abbrev pub too_large : ℕ → Entry → Option TooLarge
too_large limit e =
    if nat_le (length e.content) limit then None
    else Some (record { file_name = e.name; size = length e.content; limit = limit })

-- the first of several
abbrev pub first_too_large : ℕ → List Entry → Option TooLarge
first_too_large limit [] = None
first_too_large limit (e ∷ es) = option_or (too_large limit e) (first_too_large limit es)
