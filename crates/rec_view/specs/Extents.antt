-- How long a span lasts in any history, also in one that has no trace.
use Rattle.std.specs.Option.{option_map_or}
use Rattle.std.specs.Prelude.{◌≡◌, ◌<◌, ◌≤◌, ℕ, Bool, true, false, List, length, Some}
use Rattle.rec_spans.specs.declared.spans.Span.{Span}
use Rattle.rec_spans.specs.declared.spans.SpanKey.{SpanKey}
use Rattle.rec_spans.specs.Keys.{key_eq}
use Rattle.rec_spans.specs.Past.Change.{Start, Stop, Pause, Resume, Other}
use Rattle.rec_spans.specs.Past.{Change, TraceInput}
use Rattle.rec_spans.specs.Positions.{change_at}

-- a change stops what has this key, or starts such a thing anew
abbrev pub cuts_key : SpanKey → Change → Bool
cuts_key k (Start s) = key_eq s.key k
cuts_key k (Stop key) = key_eq key k
cuts_key k Pause = false
cuts_key k Resume = false
cuts_key k Other = false

-- what starts at a lasts to z, the first event after it by which it stops or another of its key
-- starts; where there is none, z is the number of events
pub record Lasts (history : List TraceInput) (a z : ℕ) (s : Span) : Type 0 where
  pub starts : change_at history a ≡ Some (Start s)
  pub later : a < z
  pub within : z ≤ length history
  pub cut : z < length history → option_map_or (cuts_key s.key) (change_at history z) false ≡ true
  pub first : (k : ℕ) → a < k → k < z
      → option_map_or (cuts_key s.key) (change_at history k) false ≡ false

-- what has this key starts at a, and its span lasts to z
pub record HasSpan (history : List TraceInput) (key : SpanKey) (a z : ℕ) : Type 0 where
  pub span : Span
  pub key_is : span.key ≡ key
  pub lasts : Lasts history a z span
