-- The whole prefix of bytes: the longest list of whole, distinct entries after the magic.
use Rattle.std.specs.Prelude.{◌≡◌, ℕ, List, ◌++◌, None}
use Rattle.rec_container.specs.Container.{Entry, entry, content_of, IsEntry, IsPrefix}

-- the bytes don't begin with one more entry after those seen
abbrev pub IsStuck : List Entry → List ℕ → Type 0
IsStuck seen bytes =
    (e : Entry) (rest : List ℕ) → IsEntry e → content_of seen e.name ≡ None
    → bytes ≡ entry e ++ rest → ⊥

-- the bytes begin with the magic and these whole entries, and none of a new name stands after them
pub record IsWholePrefix (bytes : List ℕ) (es : List Entry) : Type 0 where
  pub rest : List ℕ
  pub prefix : IsPrefix bytes es rest
  pub stuck : IsStuck es rest
