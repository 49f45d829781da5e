-- What reading to the end does to a source.
use Rattle.std.specs.Io.KnownBytes.{Consumes, IsAtEnd}
use Rattle.std.specs.Prelude.{◌≡◌, ℕ, ◌+◌, ◌≤◌, List, length, Option}
use Rattle.rec_container.specs.Causes.{Rose}
use Rattle.rec_container.specs.declared.within.ReadError.TheVariants.{
  SourceFault,
  TooLarge,
  OutOfMemory,
}
use Rattle.rec_container.specs.declared.within.ReadError.{ReadError}

module _ {S : Type 0} (left : S → Option (List ℕ)) (faults : S → ℕ) where
  -- the source was read to its end without a fault, and gave these bytes, within the limit
  pub record Gave (limit : ℕ) (old new : S) (bytes : List ℕ) : Type 0 where
    pub gave : Consumes (left old) (left new) bytes
    pub ended : IsAtEnd (left new)
    pub within : length bytes ≤ limit
    pub faultless : faults new ≡ faults old

  -- the source gave so many bytes
  abbrev pub GaveCount : S → S → ℕ → Type 0
  GaveCount old new count =
      (given : List ℕ) × Consumes (left old) (left new) given × (length given ≡ count)

  -- the source failed within the limit
  abbrev pub Failed : ℕ → S → S → Type 0
  Failed limit old new =
      Rose (faults old) (faults new) × ((count : ℕ) × (count ≤ limit) × GaveCount old new count)

  -- without a fault the source gave at most so many bytes
  abbrev pub GaveAtMost : S → S → ℕ → Type 0
  GaveAtMost old new most =
      (faults new ≡ faults old) × ((count : ℕ) × (count ≤ most) × GaveCount old new count)

  -- why the bytes weren't read: the source failed within the limit; it gave one byte more than the
  -- limit, without a fault; or memory ran out, after at most that
  abbrev pub Unread : ℕ → S → S → ReadError → Type 0
  Unread limit old new SourceFault = Failed limit old new
  Unread limit old new (TooLarge most) =
      (most ≡ limit) × (faults new ≡ faults old) × GaveCount old new (limit + 1)
  Unread limit old new OutOfMemory = GaveAtMost old new (limit + 1)
