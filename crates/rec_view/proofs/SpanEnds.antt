-- What starts in a history of acts lasts as its span does, where an act cuts what its change cuts.
use Rattle.std.proofs.Common.{◌≡◌, ◌<◌, ℕ, Bool, false, List, length, ap, ◌∙◌, arith}
use Rattle.std.proofs.Common.{Option, Some, None}
use Rattle.std.specs.Option.{option_map_or, unwrap_or}
use Rattle.rec_spans.specs.declared.spans.Span.{Span}
use Rattle.rec_spans.specs.declared.spans.SpanKey.{SpanKey}
use Rattle.rec_spans.specs.Past.Change.{Start}
use Rattle.rec_spans.specs.Past.{TraceInput}
use Rattle.rec_spans.specs.Positions.{change_at}
use Rattle.rec_view.proofs.Ends.{below}
use Rattle.rec_view.specs.Ends.{IsEnd, at}
use Rattle.rec_view.specs.Extents.{HasSpan, Lasts, cuts_key}

module _ {A : Type 0} (history : List TraceInput) (acts : List A) (cuts : A → Bool) (key : SpanKey)
    (many : length history ≡ length acts)
    (cuts_at : (j : ℕ)
    → option_map_or (cuts_key key) (change_at history j) false ≡ at cuts acts j) where
  module _ (k : ℕ) (s : Span) (key_is : s.key ≡ key) (starts : change_at history k ≡ Some (Start s))
      (within : k < length acts) where
    cuts_its : (j : ℕ)
        → option_map_or (cuts_key s.key) (change_at history j) false ≡ at cuts acts j
    cuts_its j =
        ap (λ n. option_map_or (cuts_key n) (change_at history j) false) key_is ∙ cuts_at j

    lasts : (o : Option ℕ) → IsEnd cuts acts k o
        → Lasts history k (unwrap_or o (length acts)) s
    lasts None none = record {
      starts = starts;
      later = within;
      within = omega (arith, many);
      cut = λ lt. absurd (omega (arith, many, lt));
      first = λ j l u. cuts_its j ∙ none j l;
    }
    lasts (Some z) (later, ends, none) = record {
      starts = starts;
      later = later;
      within = let b = below cuts acts z ends in omega (arith, many, b);
      cut = λ lt. cuts_its z ∙ ends;
      first = λ j l u. cuts_its j ∙ none j l u;
    }

    pub span_lasts : (o : Option ℕ) → IsEnd cuts acts k o
        → HasSpan history key k (unwrap_or o (length acts))
    span_lasts o ends = record { span = s; key_is = key_is; lasts = lasts o ends }
