-- Where a run's tests stand in memory is no part of its reports.
use Rattle.std.proofs.Common.{refl, ap, sym, ◌∙◌}
use Rattle.std.proofs.lemmas.List.{map-append}
use Rattle.std.specs.Borrow.{Bor}
use Rattle.std.specs.List.{fold}
use Rattle.std.specs.Prelude.{◌≡◌, List, [], ◌∷◌, ◌++◌, map, Bool}
use Rattle.std.specs.Prelude.{true, false, option_map, if◌then◌else◌}
use Rattle.rec_events.specs.declared.live_events.TestEvent.{TestEvent}
use Rattle.rec_events.specs.declared.live_events.TestEventKind.{TestEventKind}
use Rattle.rec_events.specs.declared.recording.NextestRunMode.{NextestRunMode}
use Rattle.rec_events.specs.TestLists.{Tests}
use Rattle.rec_junit.specs.Describing.{plain_text}
use Rattle.rec_junit.specs.Histories.{is_run_end, since_run_end, suites_after}
use Rattle.rec_junit.specs.Histories.{suites_of, refusal_of, report_with}
use Rattle.rec_junit.specs.Suites.{Suites, no_suites}
use Rattle.rec_errors.specs.declared.reading_error.ReadingError.TheVariants.{Report}
use Rattle.rec_reading.specs.Converting.{kind_lent, lent, unless_refused}
use Rattle.rec_reading.specs.PrinterLaws.{same_of_kind}
use Rattle.rec_reading.specs.Printing.{IsBlind, report_line, report_name, report_prints}

module _ (list : Bor Tests) where
  -- an end of a run is one wherever its tests stand
  ends_lent : (k : TestEventKind) → is_run_end (kind_lent list k) ≡ is_run_end k
  ends_lent = same_of_kind is_run_end list (λ tests run profile args condition. refl)

  -- what an event makes of the events since the last end of a run
  abbrev step : List TestEvent → TestEvent → List TestEvent
  step es e = if is_run_end e.kind then [] else es ++ (e ∷ [])

  step_by : (ends : Bool) (es : List TestEvent) (e : TestEvent)
      → (if ends then [] else map (lent list) es ++ (lent list e ∷ []))
      ≡ map (lent list) (if ends then [] else es ++ (e ∷ []))
  step_by true es e = refl
  step_by false es e = sym (map-append (lent list) es (e ∷ []))

  step_lent : (es : List TestEvent) (e : TestEvent)
      → step (map (lent list) es) (lent list e) ≡ map (lent list) (step es e)
  step_lent es e =
      ap (λ (ends : Bool). if ends then [] else map (lent list) es ++ (lent list e ∷ []))
      (ends_lent e.kind)
      ∙ step_by (is_run_end e.kind) es e

  since_lent : (acc es : List TestEvent)
      → fold step (map (lent list) acc) (map (lent list) es) ≡ map (lent list) (fold step acc es)
  since_lent acc [] = refl
  since_lent acc (e ∷ es) =
      ap (λ (now : List TestEvent). fold step now (map (lent list) es)) (step_lent acc e)
      ∙ since_lent (step acc e) es

  -- the suites, and what is printed of an event, in a run of this mode
  module _ (mode : NextestRunMode) where
    suites_step : (suites : Suites) (k : TestEventKind)
        → suites_after mode plain_text suites (kind_lent list k)
        ≡ suites_after mode plain_text suites k
    suites_step suites =
        same_of_kind (suites_after mode plain_text suites) list
        (λ tests run profile args condition. refl)

    suites_lent : (suites : Suites) (es : List TestEvent)
        → fold (λ s e. suites_after mode plain_text s e.kind) suites (map (lent list) es)
        ≡ fold (λ s e. suites_after mode plain_text s e.kind) suites es
    suites_lent suites [] = refl
    suites_lent suites (e ∷ es) =
        ap
        (λ (s : Suites). fold (λ s e. suites_after mode plain_text s e.kind) s (map (lent list) es))
        (suites_step suites e.kind)
        ∙ suites_lent (suites_after mode plain_text suites e.kind) es

    history_lent : (past : List TestEvent)
        → suites_of mode plain_text (since_run_end (map (lent list) past))
        ≡ suites_of mode plain_text (since_run_end past)
    history_lent past =
        ap (suites_of mode plain_text) (since_lent [] past)
        ∙ suites_lent no_suites (since_run_end past)

    printed_lent : (suites : Suites) (k : TestEventKind)
        → unless_refused (option_map Report (refusal_of mode plain_text (kind_lent list k)))
        (report_line (report_with report_name suites (kind_lent list k)))
        ≡ unless_refused (option_map Report (refusal_of mode plain_text k))
        (report_line (report_with report_name suites k))
    printed_lent suites =
        same_of_kind (λ k. unless_refused (option_map Report (refusal_of mode plain_text k))
        (report_line (report_with report_name suites k)))
        list
        (λ tests run profile args condition. refl)

pub report_prints_blind : (mode : NextestRunMode) → IsBlind (report_prints mode)
report_prints_blind mode list past e =
    ap
    (λ (suites : Suites).
    unless_refused (option_map Report (refusal_of mode plain_text (kind_lent list e.kind)))
    (report_line (report_with report_name suites (kind_lent list e.kind))))
    (history_lent list mode past)
    ∙ printed_lent list mode (suites_of mode plain_text (since_run_end past)) e.kind
