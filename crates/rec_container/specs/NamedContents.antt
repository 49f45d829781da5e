-- Names with contents, from which a container is written.
use Rattle.std.specs.Int.{w16, to_be_bytes}
use Rattle.std.specs.List.{flat_map}
use Rattle.std.specs.Prelude.{ℕ, List, [], ◌∷◌, ◌++◌, length, map}
use Rattle.rec_container.specs.Container.{Entry, entry, magic, spell}
use Rattle.rec_container.specs.declared.named_contents.NamedContent.{NamedContent}
use Rattle.rec_container.specs.Writing.{entry_named}

-- the entry of a name and its content
abbrev pub entry_of : NamedContent → Entry
entry_of c = record { name = c.name.now; content = c.content.now }

-- the container of all, in their order
abbrev pub container_of : List NamedContent → List ℕ
container_of cs = spell (map entry_of cs)

-- what stands before its end mark
abbrev pub begun : List NamedContent → List ℕ
begun cs = magic ++ flat_map entry (map entry_of cs)

-- the container of all, and after them, under a name, the container of the entries
abbrev pub nested : List NamedContent → List ℕ → List Entry → List ℕ
nested cs name es = spell (map entry_of cs ++ entry_named name (spell es) ∷ [])

-- the tag of an entry, and its name after the name's length
abbrev pub tagged_name : List ℕ → List ℕ
tagged_name name = 1 ∷ to_be_bytes w16 (length name) ++ name
