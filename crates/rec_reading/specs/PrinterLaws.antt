-- What is printed of events doesn't depend on where a run's tests stand in memory.
use Rattle.std.proofs.Common.{refl, ap}
use Rattle.std.specs.Borrow.{Bor}
use Rattle.std.specs.Prelude.{◌≡◌, ℕ, List, Option, Ok}
use Rattle.rec_events.specs.declared.live_events.TestEventKind.TheVariants as live
use Rattle.rec_events.specs.declared.live_events.TestEventKind.{TestEventKind}
use Rattle.rec_events.specs.declared.live_stress.StressCondition.{StressCondition}
use Rattle.rec_events.specs.LiveEvents.{kind_name}
use Rattle.rec_events.specs.TestLists.{Tests}
use Rattle.rec_replay.specs.Lines.{line_of}
use Rattle.rec_reading.specs.Converting.{kind_lent}
use Rattle.rec_reading.specs.Printing.{IsBlind, line_prints}

-- what is made of a kind of event is the same where its tests are lent from elsewhere,
-- if it is for the start of a run
module _ {A : Type 0} (f : TestEventKind → A) (list : Bor Tests) (starts : (tests : Bor Tests)
    (run : List ℕ) (profile : List ℕ) (args : List (List ℕ)) (condition : Option StressCondition)
    → f (live.RunStarted list run profile args condition)
    ≡ f (live.RunStarted tests run profile args condition)) where
  pub same_of_kind : (kind : TestEventKind) → f (kind_lent list kind) ≡ f kind
  same_of_kind (live.RunStarted tests run profile args condition) =
      starts tests run profile args condition
  same_of_kind (live.StressSubRunStarted progress) = refl
  same_of_kind (live.SetupScriptStarted stress index total script program args no_capture) = refl
  same_of_kind (live.SetupScriptSlow stress script program args elapsed terminates) = refl
  same_of_kind (live.SetupScriptFinished stress index total script program args no_capture
      store_success store_failure status) =
      refl
  same_of_kind (live.TestStarted stress test slot stats running command) = refl
  same_of_kind (live.TestSlow stress test retry elapsed terminates) = refl
  same_of_kind (live.TestAttemptFailedWillRetry stress test status delay failure running) = refl
  same_of_kind (live.TestRetryStarted stress test slot retry running command) = refl
  same_of_kind (live.TestFinished stress test success failure store_success store_failure flaky
      statuses stats running) =
      refl
  same_of_kind (live.TestSkipped stress test reason report) = refl
  same_of_kind (live.RunBeginCancel scripts running stats) = refl
  same_of_kind (live.RunPaused scripts running) = refl
  same_of_kind (live.RunContinued scripts running) = refl
  same_of_kind (live.StressSubRunFinished progress elapsed stats) = refl
  same_of_kind (live.RunFinished run start elapsed stats not_seen) = refl
  same_of_kind live.InfoStarted = refl
  same_of_kind live.InfoResponse = refl
  same_of_kind live.InfoFinished = refl
  same_of_kind live.InputEnter = refl
  same_of_kind live.RunBeginKill = refl

pub line_blind : IsBlind line_prints
line_blind list past e =
    ap Ok (same_of_kind (λ kind. line_of e.timestamp kind (kind_name kind)) list
    (λ tests run profile args condition. refl) e.kind)
