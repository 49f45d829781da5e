-- The store that is made of what a prefix has.
use Rattle.std.specs.BTreeSet.{BTreeSet, contains_text}
use Rattle.std.specs.Global.{Global}
use Rattle.std.specs.List.{filter}
use Rattle.std.specs.Prelude.{◌≡◌, ℕ, List, ◌++◌, map, String}
use Rattle.rec_container.specs.Container.{Entry, spell}
use Rattle.rec_container.specs.declared.named_contents.NamedContent.{NamedContent}
use Rattle.rec_container.specs.NamedContents.{entry_of}
use Rattle.rec_store.specs.Ending.{sizes_of_store}
use Rattle.rec_salvage.specs.declared.store.KeptStore.{KeptStore}

-- these entries were added
abbrev pub AddsEntries : List NamedContent → List NamedContent → List Entry → Type 0
AddsEntries old new es = map entry_of new ≡ map entry_of old ++ es

-- the entries whose names a set has
abbrev pub entries_in : BTreeSet (String Global) → List Entry → List Entry
entries_in paths es = filter (λ e. contains_text paths e.name) es

-- the container of these entries, of which so many are outputs
pub record IsStore (es : List Entry) (outputs : ℕ) (s : KeptStore) : Type 0 where
  pub bytes : s.bytes.items ≡ spell es
  pub sizes : s.sizes ≡ sizes_of_store es
  pub count : s.outputs ≡ outputs
