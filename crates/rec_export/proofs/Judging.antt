-- Why a session is refused, and that it isn't.
use Rattle.std.proofs.Common.{◌≡◌, ℕ, List, [], Option, Some, None, ap, refl, ◌∙◌, ◌⊎◌, inl, inr}
use Rattle.std.specs.Option.{option_or}
use Rattle.rec_format.specs.declared.head.SessionHead.{SessionHead}
use Rattle.rec_codec.specs.Lines.{NumberedLine}
use Rattle.rec_errors.specs.declared.export_error.RecordExportError.TheVariants.{
  OutOfMemory,
  ParseHead,
}
use Rattle.rec_errors.specs.declared.export_error.RecordExportError.{RecordExportError}
use Rattle.rec_export.specs.Bundle.{count_refusal, session_refusal, refusal_after}
use Rattle.rec_export.specs.Bundle.{session_events, session_head, size_refusal, sizes_refusal}
use Rattle.rec_export.specs.declared.settings.Settings.{Settings}
use Rattle.rec_export.specs.Session.{event_lines, events_of, lines_refusal, session_lines}
use Rattle.rec_export.specs.SessionTraces.{trace_refusal}

-- of three causes, one among the first two comes before the third
found_first : {E : Type 0} (a b c : Option E) (e : E) → option_or a b ≡ Some e
    → option_or a (option_or b c) ≡ Some e
found_first None None c e h = absurd cc
found_first None (Some y) c e h = h
found_first (Some x) b c e h = h

-- and none among the first two leaves the third
none_first : {E : Type 0} (a b c : Option E) → option_or a b ≡ None
    → option_or a (option_or b c) ≡ c
none_first None None c h = refl
none_first None (Some y) c h = absurd cc
none_first (Some x) b c h = absurd cc

-- the events of a session are those of the lines after its head
pub events_after : (session : List ℕ)
    → events_of (event_lines (session_lines session)) ≡ session_events session
unfolding session_events
events_after session = refl

module _ (number : List ℕ → ℕ) (settings : Settings) where
  pub refused_head : (session : List ℕ) → session_head session ≡ None
      → session_refusal number settings session ≡ Some ParseHead
  unfolding session_refusal
  refused_head session h =
      ap (λ o. refusal_after number settings o (event_lines (session_lines session))) h

  pub after_head : (session : List ℕ) (head : SessionHead) → session_head session ≡ Some head
      → session_refusal number settings session
      ≡ refusal_after number settings (Some head) (event_lines (session_lines session))
  unfolding session_refusal
  after_head session head h =
      ap (λ o. refusal_after number settings o (event_lines (session_lines session))) h

  -- why a session is refused after the sum of its sizes
  abbrev pub after_count : SessionHead → List NumberedLine → Option RecordExportError
  after_count head lines =
      option_or (size_refusal number settings head (events_of lines))
      (trace_refusal settings (events_of lines))

  -- why a session is refused after its lines
  abbrev pub after_lines : SessionHead → List NumberedLine → Option RecordExportError
  after_lines head lines =
      option_or (count_refusal number settings head (events_of lines)) (after_count head lines)

  pub refused_line : (head : SessionHead) (lines : List NumberedLine) (e : RecordExportError)
      → lines_refusal number settings.max_output [] lines ≡ Some e
      → refusal_after number settings (Some head) lines ≡ Some e
  refused_line head lines e h = ap (λ o. option_or o (after_lines head lines)) h

  -- after lines that are no fault, sizes that are refused come first
  pub refused_sizes : (head : SessionHead) (lines : List NumberedLine) (e : RecordExportError)
      → lines_refusal number settings.max_output [] lines ≡ None
      → (e ≡ OutOfMemory) ⊎ (sizes_refusal number settings head (events_of lines) ≡ Some e)
      → (e ≡ OutOfMemory) ⊎ (refusal_after number settings (Some head) lines ≡ Some e)
  refused_sizes head lines e h (inl k) = inl k
  refused_sizes head lines e h (inr k) =
      inr (ap (λ o. option_or o (after_lines head lines)) h
      ∙ found_first (count_refusal number settings head (events_of lines))
      (size_refusal number settings head (events_of lines))
      (trace_refusal settings (events_of lines)) e k)

  -- lines and sizes that are no fault leave the trace
  pub trace_left : (head : SessionHead) (lines : List NumberedLine)
      → lines_refusal number settings.max_output [] lines ≡ None
      → sizes_refusal number settings head (events_of lines) ≡ None
      → refusal_after number settings (Some head) lines ≡ trace_refusal settings (events_of lines)
  trace_left head lines h k =
      ap (λ o. option_or o (after_lines head lines)) h
      ∙ none_first (count_refusal number settings head (events_of lines))
      (size_refusal number settings head (events_of lines))
      (trace_refusal settings (events_of lines)) k
