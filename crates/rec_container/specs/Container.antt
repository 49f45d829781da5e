-- The container: bytes that spell a list of entries.
use Rattle.std.specs.Int.{w16, w64, to_be_bytes}
use Rattle.std.specs.Prelude.{zero, suc, ◌≡◌, ℕ, ◌+◌, ◌<◌, ◌≤◌, ◌^◌, List, []}
use Rattle.std.specs.Prelude.{◌∷◌, ◌++◌, length, take, drop, flat_map, IsUtf8}
use Rattle.std.specs.Prelude.{Option, Some, None, if◌then◌else◌, codes, sum_by}
use Rattle.std.specs.Str.{bytes_eq}

-- an entry: its name and its content
pub record Entry : Type 0 where
  pub name : List ℕ
  pub content : List ℕ

-- what the container begins with
unfoldable pub magic : List ℕ
magic = codes "nxtcont1"

-- what stands before an entry's content: the tag, the name after its length,
-- and the content's length
unfoldable pub entry_head : List ℕ → ℕ → List ℕ
entry_head name content = 1 ∷ to_be_bytes w16 (length name) ++ name ++ to_be_bytes w64 content

-- one entry
abbrev pub entry : Entry → List ℕ
entry e = entry_head e.name (length e.content) ++ e.content

-- the one spelling of the entries: the magic, the entries, the end mark
abbrev pub spell : List Entry → List ℕ
spell es = magic ++ flat_map entry es ++ 0 ∷ []

-- what stands before the end mark, as it is written: the magic goes before the first entry
abbrev pub prefix : List Entry → List ℕ
prefix [] = []
prefix (e ∷ es) = magic ++ flat_map entry (e ∷ es)

-- what one more entry adds to the prefix
abbrev pub addition : List Entry → Entry → List ℕ
addition [] e = magic ++ entry e
addition (d ∷ es) e = entry e

-- what the end adds to the prefix
abbrev pub ending : List Entry → List ℕ
ending [] = magic ++ 0 ∷ []
ending (d ∷ es) = 0 ∷ []

-- the content under a name
abbrev pub content_of : List Entry → List ℕ → Option (List ℕ)
content_of [] name = None
content_of (e ∷ es) name = if bytes_eq name e.name then Some e.content else content_of es name

-- how many bytes the contents have
abbrev pub content_bytes : List Entry → ℕ
content_bytes es = sum_by (λ e. length e.content) es

-- a name has 1 to 65535 bytes of UTF-8
pub record IsName (name : List ℕ) : Type 0 where
  pub some : 0 < length name
  pub short : length name < 2 ^ 16
  pub text : IsUtf8 name

-- an entry whose lengths have spellings
pub record IsEntry (e : Entry) : Type 0 where
  pub name : IsName e.name
  pub content : length e.content < 2 ^ 64

-- entries with spellings, each name new to those seen and to those before it
abbrev pub AreFrom : List Entry → List Entry → Type 0
AreFrom seen [] = Unit {0}
AreFrom seen (e ∷ es) = IsEntry e × (content_of seen e.name ≡ None) × AreFrom (seen ++ e ∷ []) es

-- the bytes spell the entries
pub record IsContainer (bytes : List ℕ) (es : List Entry) : Type 0 where
  pub spelled : bytes ≡ spell es
  pub entries : AreFrom [] es

-- bytes that were parsed, and their entries
pub record ParsedContainer : Type 0 where
  pub bytes : List ℕ
  pub entries : List Entry

-- the bytes begin with the magic and whole entries
pub record IsPrefix (bytes : List ℕ) (es : List Entry) (rest : List ℕ) : Type 0 where
  pub spelled : bytes ≡ magic ++ flat_map entry es ++ rest
  pub entries : AreFrom [] es

-- the place after them
abbrev pub place_after : List Entry → ℕ
place_after es = length (magic ++ flat_map entry es)

-- where the content of the entry at an index begins,
-- in a spelling that has the entries from the place p on
abbrev pub place_from : ℕ → List Entry → ℕ → ℕ
place_from p [] i = p
place_from p (e ∷ es) zero = p + 11 + length e.name
place_from p (e ∷ es) (suc i) = place_from (p + (11 + length e.name + length e.content)) es i

-- a part stands in bytes at a place
abbrev pub StandsAt : List ℕ → ℕ → List ℕ → Type 0
StandsAt bytes place part = take (length part) (drop place bytes) ≡ part

-- and ends within them
pub record StandsWithin (bytes : List ℕ) (place : ℕ) (part : List ℕ) : Type 0 where
  pub stands : StandsAt bytes place part
  pub within : place + length part ≤ length bytes
