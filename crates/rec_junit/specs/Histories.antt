-- What a report says of the events of a run.
use Rattle.std.specs.List.{fold}
use Rattle.std.specs.Prelude.{◌≡◌, ℕ, Bool, true, false, List, [], ◌∷◌, ◌++◌}
use Rattle.std.specs.Prelude.{Option, Some, None, if◌then◌else◌, Result, Ok, Err}
use Rattle.rec_events.specs.declared.live_events.TestEvent.{TestEvent}
use Rattle.rec_events.specs.declared.live_events.TestEventKind.TheVariants.{RunFinished}
use Rattle.rec_events.specs.declared.live_events.TestEventKind.{TestEventKind}
use Rattle.rec_events.specs.declared.recording.NextestRunMode.{NextestRunMode}
use Rattle.rec_junit.specs.Additions.{addition_of}
use Rattle.rec_junit.specs.declared.describer.ErrorText.{ErrorText}
use Rattle.rec_junit.specs.declared.errors.JunitError.{JunitError}
use Rattle.rec_junit.specs.declared.report.JunitReport.{JunitReport}
use Rattle.rec_junit.specs.declared.suites.Addition.{Addition}
use Rattle.rec_junit.specs.Describing.{Execution}
use Rattle.rec_junit.specs.Judging.{refusal_in}
use Rattle.rec_junit.specs.Suites.{Suites, no_suites, with_addition}

abbrev pub is_run_end : TestEventKind → Bool
is_run_end (RunFinished run start elapsed stats not_seen) = true
is_run_end kind = false

-- the events after the last end of a run
abbrev pub since_run_end : List TestEvent → List TestEvent
since_run_end h = fold (λ es e. if is_run_end e.kind then [] else es ++ (e ∷ [])) [] h

-- what is refused adds nothing
abbrev pub with_added : Suites → Result (Option Addition) JunitError → Suites
with_added suites (Err e) = suites
with_added suites (Ok None) = suites
with_added suites (Ok (Some addition)) = with_addition addition suites

-- the report of an event, if it is the end of a run with these suites
abbrev pub report_with : List ℕ → Suites → TestEventKind → Option JunitReport
report_with name suites (RunFinished run start elapsed stats not_seen) =
    Some (record {
      name = name;
      run_id = run;
      timestamp = start;
      time = elapsed;
      suites = suites.suites;
    })
report_with name suites kind = None

module _ (mode : NextestRunMode) (text_of : Execution → Option ErrorText) where
  -- why an event is refused, if it is
  abbrev pub refusal_of : TestEventKind → Option JunitError
  refusal_of kind = refusal_in (addition_of mode text_of kind)

  abbrev pub suites_after : Suites → TestEventKind → Suites
  suites_after suites kind = with_added suites (addition_of mode text_of kind)

  -- the suites after an event, which begin anew at the end of a run
  abbrev pub suites_by : Suites → TestEventKind → Suites
  suites_by suites kind = if is_run_end kind then no_suites else suites_after suites kind

  -- the suites of these events
  abbrev pub suites_of : List TestEvent → Suites
  suites_of es = fold (λ suites e. suites_after suites e.kind) no_suites es

  -- these are the suites of the events after the last end of a run
  abbrev pub StandsFor : Suites → List TestEvent → Type 0
  StandsFor suites history = suites ≡ suites_of (since_run_end history)

  -- the report of an event after a history: there is one exactly at the end of a run
  abbrev pub report_after : List ℕ → List TestEvent → TestEventKind → Option JunitReport
  report_after name history kind = report_with name (suites_of (since_run_end history)) kind
