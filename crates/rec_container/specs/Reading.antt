-- What a container's bytes are read as: what stands at a place, or what is wrong there.
use Rattle.std.specs.Int.{Width, w16, w64, byte_len, from_be_bytes}
use Rattle.std.specs.Prelude.{◌≡◌, ℕ, ◌+◌, List, [], ◌∷◌, length, take, drop}
use Rattle.std.specs.Prelude.{Bool, ◌==◌, nat_lt, if◌then◌else◌, Option, Some}
use Rattle.std.specs.Prelude.{None, Result, Ok, Err, is_some, ◌⊎◌, false}
use Rattle.std.specs.Str.{is_utf8, bytes_eq}
use Rattle.rec_container.specs.Container.{Entry, magic, content_of, IsPrefix, place_after}
use Rattle.rec_container.specs.declared.errors.ContainerError.TheVariants.{
  BadMagic,
  Truncated,
  BadTag,
  BadName,
  DuplicateName,
  TrailingBytes,
}
use Rattle.rec_container.specs.declared.errors.ContainerError.{ContainerError}

-- the first step, and then the next one on what it gave
infixl 10 ◌>>=◌
abbrev pub ◌>>=◌ : {A B E : Type 0} → Result A E → (A → Result B E) → Result B E
(Ok x) >>= f = f x
(Err e) >>= f = Err e

-- what a function returned, seen by view, is what reading gives
abbrev pub Gives : {X Y E : Type 0} → (X → Y) → Result X E → Result Y E → Type 0
Gives view (Ok x) read = read ≡ Ok (view x)
Gives view (Err e) read = read ≡ Err e

-- a number at the place p, and what follows
abbrev pub number_at : Width → ℕ → List ℕ → Result (ℕ × List ℕ) ContainerError
number_at w p bytes =
    if nat_lt (length bytes) (byte_len w) then Err (Truncated p)
    else Ok (from_be_bytes w (take (byte_len w) bytes), drop (byte_len w) bytes)

-- a name after its length, which stands at the place p
abbrev pub name_from : ℕ → ℕ × List ℕ → Result (List ℕ × List ℕ) ContainerError
name_from p n =
    if n.0 == 0 then Err (BadName p) else if nat_lt (length n.1) n.0 then Err (Truncated (p + 2))
    else if is_utf8 (take n.0 n.1) then Ok (take n.0 n.1, drop n.0 n.1) else Err (BadName (p + 2))

-- a name, its length at the place p
unfoldable pub name_at : ℕ → List ℕ → Result (List ℕ × List ℕ) ContainerError
name_at p bytes = number_at w16 p bytes >>= name_from p

-- a content after its length, which stands at the place p
abbrev pub content_from : ℕ → ℕ × List ℕ → Result (List ℕ × List ℕ) ContainerError
content_from p n =
    if nat_lt (length n.1) n.0 then Err (Truncated (p + 8)) else Ok (take n.0 n.1, drop n.0 n.1)

-- a content, its length at the place p
unfoldable pub content_at : ℕ → List ℕ → Result (List ℕ × List ℕ) ContainerError
content_at p bytes = number_at w64 p bytes >>= content_from p

-- an entry of this name and content, and what follows
abbrev pub with_name : List ℕ → List ℕ × List ℕ → Result (Entry × List ℕ) ContainerError
with_name name content = Ok (record { name = name; content = content.0 }, content.1)

-- an entry after its name, after the entries seen
abbrev pub entry_from : ℕ → List Entry → List ℕ × List ℕ → Result (Entry × List ℕ) ContainerError
entry_from p seen name =
    if is_some (content_of seen name.0) then Err (DuplicateName (p + 2))
    else (content_at (p + 2 + length name.0) name.1 >>= with_name name.0)

-- an entry after its tag, after the entries seen
unfoldable pub entry_at : ℕ → List Entry → List ℕ → Result (Entry × List ℕ) ContainerError
entry_at p seen bytes = name_at p bytes >>= entry_from p seen

-- after the end mark
abbrev pub end_at : ℕ → List ℕ → Result (Option (Entry × List ℕ)) ContainerError
end_at p [] = Ok None
end_at p (b ∷ bytes) = Err (TrailingBytes p)

-- an entry is there
abbrev pub some_entry : Entry × List ℕ → Result (Option (Entry × List ℕ)) ContainerError
some_entry x = Ok (Some x)

-- what stands at the place p after the entries seen: an entry and what follows, or the end,
-- or the first fault
unfoldable pub step_at : ℕ → List Entry → List ℕ → Result (Option (Entry × List ℕ)) ContainerError
step_at p seen [] = Err (Truncated p)
step_at p seen (tag ∷ bytes) =
    if tag == 0 then end_at (p + 1) bytes
    else if tag == 1 then (entry_at (p + 1) seen bytes >>= some_entry) else Err (BadTag p)

-- whether the bytes begin with the magic
abbrev pub has_magic : List ℕ → Bool
has_magic bytes = bytes_eq (take (length magic) bytes) magic

-- the first fault from the left: the magic is wrong, or whole entries are followed by it
abbrev pub IsFault : List ℕ → ContainerError → Type 0
IsFault bytes e = ((has_magic bytes ≡ false) × (e ≡ BadMagic)) ⊎ ((es : List Entry)
    × (rest : List ℕ) × IsPrefix bytes es rest × (step_at (place_after es) es rest ≡ Err e))
