-- The pieces of a path, and what the last of them says.
use Rattle.std.specs.Char.{to_ascii_lowercase}
use Rattle.std.specs.List.{slice_split, last_or, ends_with}
use Rattle.std.specs.Option.{option_map_or}
use Rattle.std.specs.Prelude.{ℕ, ◌-◌, ◌==◌, nat_eq, nat_lt, Bool, false, not}
use Rattle.std.specs.Prelude.{◌&&◌, ◌||◌, if◌then◌else◌, List, [], ◌∷◌}
use Rattle.std.specs.Prelude.{length, drop, map, filter, Option, None, codes}
use Rattle.std.specs.Str.{bytes_eq}
use Rattle.rec_format.specs.declared.paths.OutputDict.TheVariants as dict
use Rattle.rec_format.specs.declared.paths.OutputDict.{OutputDict}

-- the pieces between the slashes
abbrev pub pieces : List ℕ → List (List ℕ)
pieces path = slice_split (λ byte. byte == 47) path

-- a piece that is neither empty nor a dot alone
abbrev pub is_name : List ℕ → Bool
is_name piece = not (length piece == 0) && not (bytes_eq piece (codes "."))

-- the last piece that is a name
abbrev pub last_of : List (List ℕ) → Option (List ℕ)
last_of parts = last_or None (filter is_name parts)

abbrev pub last_name : List ℕ → Option (List ℕ)
last_name path = last_of (pieces path)

-- the output by the end of a name
abbrev pub dict_of_name : List ℕ → OutputDict
dict_of_name name =
    if ends_with nat_eq name (codes "-stdout") || ends_with nat_eq name (codes "-combined")
    then dict.Stdout
    else if ends_with nat_eq name (codes "-stderr") then dict.Stderr
    else dict.None

-- below `out` the last name decides
abbrev pub dict_of_pieces : List (List ℕ) → OutputDict
dict_of_pieces [] = dict.None
dict_of_pieces (first ∷ below) =
    if bytes_eq first (codes "out") then option_map_or dict_of_name (last_of below) dict.None
    else dict.None

abbrev pub dict_of_path : List ℕ → OutputDict
dict_of_path path = dict_of_pieces (pieces path)

-- the last four bytes are a dot and `zip` in any case, and others stand before them
abbrev pub is_zip_name : List ℕ → Bool
is_zip_name name =
    nat_lt 4 (length name)
    && bytes_eq (map to_ascii_lowercase (drop (length name - 4) name)) (codes ".zip")

abbrev pub is_zip_path : List ℕ → Bool
is_zip_path path = option_map_or is_zip_name (last_name path) false
