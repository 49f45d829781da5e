-- What a writer of containers is, as contracts see it, and what its calls do.
use Rattle.std.specs.declared.alloc.Global.{Global}
use Rattle.std.specs.Io.KnownBytes.{Appends}
use Rattle.std.specs.Option.{option_map_or}
use Rattle.std.specs.Prelude.{◌≡◌, ℕ, ◌^◌, ◌<◌, ◌≤◌, List, [], ◌∷◌, ◌++◌, length, Bool}
use Rattle.std.specs.Prelude.{true, false, not, ◌&&◌, nat_lt, if◌then◌else◌, map, Vec}
use Rattle.std.specs.Prelude.{String, string_bytes, Option, Some, None, MatchOption, ◌⊎◌}
use Rattle.std.specs.Str.{bytes_eq}
use Rattle.rec_container.specs.Causes.{Rose}
use Rattle.rec_container.specs.Container.{Entry, AreFrom, spell, addition}
use Rattle.rec_container.specs.Container.{ending, content_of, content_bytes}
use Rattle.rec_container.specs.declared.errors.ContainerSizes.{ContainerSizes}
use Rattle.rec_container.specs.declared.errors.ContainerWriteError.TheVariants.{
  Failed,
  BadName,
  NameCollision,
  CountOutOfRange,
  SinkFault,
  OutOfMemory,
}
use Rattle.rec_container.specs.declared.errors.ContainerWriteError.{ContainerWriteError}
use Rattle.rec_container.specs.Taking.{TookPart}

-- the entries written so far, the sink, and whether it has failed
pub record Writing (K : Type 0) : Type 0 where
  pub entries : List Entry
  pub sink : K
  pub failed : Bool

-- entries of the map, by their bytes
abbrev pub entry_of : String Global × Vec ℕ Global → Entry
entry_of p = record { name = string_bytes p.0; content = p.1.items }

abbrev pub entries_of : List (String Global × Vec ℕ Global) → List Entry
entries_of ps = map entry_of ps

-- an entry of this name and content
abbrev pub entry_named : List ℕ → List ℕ → Entry
entry_named name content = record { name = name; content = content }

abbrev pub has_name_length : List ℕ → Bool
has_name_length name = nat_lt 0 (length name) && nat_lt (length name) 65536

-- why an entry is refused before memory is taken, if it is
abbrev pub refusal : Bool → List Entry → List ℕ → List ℕ → Option ContainerWriteError
refusal failed es name content =
    if failed then Some Failed else if not (has_name_length name) then Some BadName
    else option_map_or (λ c. if bytes_eq c content then None else Some NameCollision)
    (content_of es name)
    (if nat_lt (length (spell (es ++ entry_named name content ∷ []))) (2 ^ 64) then None
    else Some CountOutOfRange)

-- what is known of an entry that isn't refused: it is there,
-- or the container's length with it is a u64
abbrev pub Accepts : Bool → List Entry → List ℕ → List ℕ → Option ℕ → Type 0
Accepts failed es name content None =
    (refusal failed es name content ≡ None) × (content_of es name ≡ Some content)
Accepts failed es name content (Some size) =
    (refusal failed es name content ≡ None) × (failed ≡ false) × (0 < length name)
    × (length name < 65536) × (content_of es name ≡ None)
    × (size ≡ length (spell (es ++ entry_named name content ∷ [])))

-- the sums that a writer keeps are those of its entries
pub record HasSizes (es : List Entry) (compressed uncompressed : ℕ) : Type 0 where
  pub size : compressed ≡ length (spell es)
  pub contents : uncompressed ≡ content_bytes es
  pub below : uncompressed ≤ compressed

-- what a writer keeps: entries with spellings, and their sums
pub record IsSound (es : List Entry) (compressed uncompressed : ℕ) : Type 0 where
  pub entries : AreFrom [] es
  pub sizes : HasSizes es compressed uncompressed

-- sizes are those of the entries
pub record HasSizesOf (es : List Entry) (sizes : ContainerSizes) : Type 0 where
  pub compressed : sizes.compressed ≡ length (spell es)
  pub uncompressed : sizes.uncompressed ≡ content_bytes es
  pub entries : sizes.entries ≡ length es

module _ {K : Type 0} (taken : K → Option (List ℕ)) (faults : K → ℕ) where
  -- a new entry was added and written; one that is there changes nothing
  abbrev pub Adds : Writing K → Writing K → List ℕ → List ℕ → Type 0
  Adds old new name content =
      MatchOption (content_of old.entries name) (
      (new.entries ≡ old.entries ++ entry_named name content ∷ []) × (new.failed ≡ false) ×
      Appends (taken old.sink) (taken new.sink) (addition old.entries (entry_named name content)))
      (λ c. new ≡ old)

  -- an entry that was accepted wasn't written: for want of memory, or since the sink failed
  abbrev pub RefusesLate : Writing K → Writing K → List ℕ → List ℕ → ContainerWriteError → Type 0
  RefusesLate old new name content SinkFault =
      Rose (faults old.sink) (faults new.sink) × (new.failed ≡ true) × (new.entries ≡ old.entries) ×
      TookPart (taken old.sink) (taken new.sink) (addition old.entries (entry_named name content))
  RefusesLate old new name content OutOfMemory = new ≡ old
  RefusesLate old new name content e = ⊥

  -- what stands after a refusal, and its cause
  abbrev pub Refuses : Writing K → Writing K → List ℕ → List ℕ → ContainerWriteError → Type 0
  Refuses old new name content e =
      ((refusal old.failed old.entries name content ≡ Some e) × (new ≡ old))
      ⊎ ((refusal old.failed old.entries name content ≡ None) × RefusesLate old new name content e)

  -- the end wasn't written
  abbrev pub Unfinished : Writing K → K → ContainerWriteError → Type 0
  Unfinished old sink Failed = (old.failed ≡ true) × (sink ≡ old.sink)
  Unfinished old sink SinkFault =
      (old.failed ≡ false) × Rose (faults old.sink) (faults sink)
      × TookPart (taken old.sink) (taken sink) (ending old.entries)
  Unfinished old sink e = ⊥
