use Rattle.std.proofs.Common.{◌≡◌, drop}
use Rattle.rec_codec.proofs.loaded.all_have_output.Given as goal
use Rattle.rec_codec.specs.Live.{is_loaded}
use Rattle.rec_codec.specs.Status.{status_loaded}
use Rattle.rec_codec.specs.Writes.{every}

-- what is left decides
abbrev pub invariant-loop-attempt : goal.invariant-loop-attempt
invariant-loop-attempt l =
    every (status_loaded is_loaded) (drop l.attempt-index l.attempts)
    ≡ every (status_loaded is_loaded) l.attempts
