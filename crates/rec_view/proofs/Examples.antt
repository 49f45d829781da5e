-- What the definitions say of histories that no runner should write, by computing.
use Rattle.std.proofs.Common.{◌≡◌, [], ◌∷◌, refl}
use Rattle.rec_events.specs.declared.instances.OwnedTestInstanceId.{OwnedTestInstanceId}
use Rattle.rec_events.specs.Tests.{test_of}
use Rattle.rec_view.specs.Acts.Act.{Starts, Retries, Fails, Ends, Skips, RunEnds}
use Rattle.rec_view.specs.declared.verdicts.Verdict.TheVariants.{Passed, Flaky, Failed, Skipped}
use Rattle.rec_view.specs.declared.verdicts.Verdict.TheVariants.{Unfinished, NotStarted}
use Rattle.rec_view.specs.Tests.{verdicts}

abbrev a : OwnedTestInstanceId
a = test_of (1 ∷ []) (1 ∷ [])

abbrev b : OwnedTestInstanceId
b = test_of (1 ∷ []) (2 ∷ [])

-- started twice, ended once: the first is unfinished
twice : verdicts (Starts a ∷ Starts a ∷ Ends a Passed ∷ []) ≡ Unfinished ∷ Passed ∷ []
twice = refl

-- a further attempt without a start opens a test, and an end without one does
headless : verdicts (Retries a ∷ Ends a Failed ∷ Ends b Passed ∷ []) ≡ Failed ∷ Passed ∷ []
headless = refl

-- skipped and run
both : verdicts (Skips a ∷ Starts a ∷ Fails a ∷ Retries a ∷ Ends a Flaky ∷ Skips a ∷ [])
    ≡ Skipped ∷ Flaky ∷ Skipped ∷ []
both = refl

-- a run's end names one that ran, and another one twice; and in the next run it is new
unseen : verdicts (Starts a ∷ RunEnds (a ∷ b ∷ b ∷ []) ∷ Ends a Passed ∷ RunEnds (b ∷ []) ∷ [])
    ≡ Passed ∷ NotStarted ∷ NotStarted ∷ []
unseen = refl

-- an end after the end
late : verdicts (Starts a ∷ Ends a Passed ∷ Ends a Failed ∷ Retries a ∷ [])
    ≡ Passed ∷ Failed ∷ Unfinished ∷ []
late = refl
