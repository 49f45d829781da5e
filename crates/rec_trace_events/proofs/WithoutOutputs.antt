-- Args say nothing of outputs, whatever these are replaced by.
use Rattle.std.proofs.Common.{◌≡◌, ℕ, ◌-◌, ◌&&◌, nat_lt, List, map, length, Option}
use Rattle.std.proofs.Common.{Some, None, option_map, slice_get, refl, ap, ◌∙◌}
use Rattle.std.proofs.lemmas.List.{length-map}
use Rattle.std.proofs.lemmas.Option.{slice_get-map}
use Rattle.rec_events.specs.declared.groups.TestGroup.{TestGroup}
use Rattle.rec_events.specs.declared.instances.OwnedTestInstanceId.{OwnedTestInstanceId}
use Rattle.rec_events.specs.declared.instances.StressIndexSummary.{StressIndexSummary}
use Rattle.rec_events.specs.declared.script_statuses.SetupScriptExecuteStatus.{
  SetupScriptExecuteStatus,
}
use Rattle.rec_events.specs.declared.statuses.ExecuteStatus.{ExecuteStatus}
use Rattle.rec_events.specs.declared.statuses.ExecutionStatuses.{ExecutionStatuses}
use Rattle.rec_events.specs.EventMaps.{script_status_with, status_with, statuses_with}
use Rattle.rec_events.specs.Results.{succeeded}
use Rattle.rec_events.specs.Times.{Span}
use Rattle.rec_forms.specs.Shape.{only}
use Rattle.rec_trace_events.specs.Args.{counted_flaky_result, failed_attempt_args}
use Rattle.rec_trace_events.specs.Args.{finished_test_args, last_attempt_args}
use Rattle.rec_trace_events.specs.Args.{last_status, script_end_args}

module _ {S O P : Type 0} (T : Type 0) (f : O → P) where
  pub failed_attempt_args-with : (test : OwnedTestInstanceId) (i : Option StressIndexSummary)
      (g : TestGroup) (s : ExecuteStatus S O) (delay : Span)
      → failed_attempt_args test i g (status_with {T = T} f s) delay
      ≡ failed_attempt_args test i g s delay
  unfolding failed_attempt_args
  failed_attempt_args-with test i g s delay = refl

  last_status-with : (s : ExecutionStatuses S O)
      → last_status (statuses_with {T = T} f s) ≡ option_map (status_with {T = T} f) (last_status s)
  last_status-with s =
      ap (λ n. slice_get (map (status_with {T = T} f) s.statuses) (n - 1))
      (length-map s.statuses (status_with {T = T} f))
      ∙ slice_get-map (status_with {T = T} f) s.statuses (length s.statuses - 1)

  flaky-with : (s : ExecutionStatuses S O) (last : ExecuteStatus S O)
      → counted_flaky_result (statuses_with {T = T} f s) (status_with {T = T} f last)
      ≡ counted_flaky_result s last
  flaky-with s last =
      ap (λ n. only (nat_lt 1 n && succeeded last.result) s.flaky_result)
      (length-map s.statuses (status_with {T = T} f))

  -- the args of a last status, or none
  args-with : (test : OwnedTestInstanceId) (i : Option StressIndexSummary) (g : TestGroup)
      (s : ExecutionStatuses S O) (o : Option (ExecuteStatus S O))
      → option_map (λ last.
      last_attempt_args test i g last (counted_flaky_result (statuses_with {T = T} f s) last))
      (option_map (status_with {T = T} f) o)
      ≡ option_map (λ last. last_attempt_args test i g last (counted_flaky_result s last)) o
  args-with test i g s None = refl
  args-with test i g s (Some last) =
      ap (λ flaky. Some (last_attempt_args test i g last flaky)) (flaky-with s last)

  pub finished_test_args-with : (test : OwnedTestInstanceId) (i : Option StressIndexSummary)
      (g : TestGroup) (s : ExecutionStatuses S O)
      → finished_test_args test i g (statuses_with {T = T} f s) ≡ finished_test_args test i g s
  unfolding finished_test_args
  finished_test_args-with test i g s =
      ap (option_map (λ last.
      last_attempt_args test i g last (counted_flaky_result (statuses_with {T = T} f s) last)))
      (last_status-with s)
      ∙ args-with test i g s (last_status s)

  pub script_end_args-with : (script_id : List ℕ) (i : Option StressIndexSummary)
      (s : SetupScriptExecuteStatus S O)
      → script_end_args script_id i (script_status_with {T = T} f s) ≡ script_end_args script_id i s
  unfolding script_end_args
  script_end_args-with script_id i s = refl
