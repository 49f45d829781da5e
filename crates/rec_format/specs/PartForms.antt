-- The fields that a head and a run share, and those that both kinds of runs share. They stand in
-- the order of their keys.
use Rattle.std.specs.Prelude.{List, [], ◌∷◌, Option, Some, IfSome, codes}
use Rattle.serde_json.specs.Data.{string, Members}
use Rattle.rec_events.specs.Names.{IsText, AreTexts}
use Rattle.rec_events.specs.Versions.{IsVersion}
use Rattle.rec_forms.specs.Ids.{uuid_value, uuid_form, IsUuid, version_value, version_form}
use Rattle.rec_forms.specs.Lists.{list_value, list_form}
use Rattle.rec_forms.specs.Maps.{map_value, map_form, IsMap}
use Rattle.rec_forms.specs.Shape.{◌>>=◌, Field, field, optional}
use Rattle.rec_forms.specs.Shape.{required, maybe, defaulted, text_of}
use Rattle.rec_forms.specs.Times.{stamp_value, stamp_form, IsStamp}
use Rattle.rec_forms.specs.Times.{duration_value, duration_form, IsDuration}
use Rattle.rec_format.specs.declared.forms.parts.Invocation.{Invocation}
use Rattle.rec_format.specs.declared.forms.parts.Outcome.{Outcome}
use Rattle.rec_format.specs.SizeForms.{sizes_format_value, sizes_format_form, IsSizesFormat}
use Rattle.rec_format.specs.StatusForms.{status_format_value, status_format_form, IsStatusFormat}

-- how it was started, and how long it took
abbrev pub invocation_fields : Invocation → List Field
invocation_fields i =
    field (codes "cli-args") (list_value string i.cli_args)
    ∷ optional (codes "duration") duration_value i.duration
    ∷ field (codes "env-vars") (map_value string i.env_vars)
    ∷ field (codes "last-written-at") (stamp_value i.last_written_at)
    ∷ field (codes "nextest-version") (version_value i.nextest_version)
    ∷ optional (codes "parent-run-id") uuid_value i.parent_run_id
    ∷ []

unfoldable pub invocation_form : Members → Option Invocation
invocation_form ms = do
  duration ← maybe duration_form (codes "duration") ms
  parent_run_id ← maybe uuid_form (codes "parent-run-id") ms
  last_written_at ← required stamp_form (codes "last-written-at") ms
  nextest_version ← required version_form (codes "nextest-version") ms
  cli_args ← defaulted [] (list_form text_of) (codes "cli-args") ms
  env_vars ← defaulted [] (map_form text_of) (codes "env-vars") ms
  Some (record {
    cli_args = cli_args;
    duration = duration;
    env_vars = env_vars;
    last_written_at = last_written_at;
    nextest_version = nextest_version;
    parent_run_id = parent_run_id;
  })

pub record IsInvocation (i : Invocation) : Type 0 where
  pub cli_args : AreTexts i.cli_args
  pub duration : IfSome i.duration IsDuration
  pub env_vars : IsMap IsText i.env_vars
  pub last_written_at : IsStamp i.last_written_at
  pub nextest_version : IsVersion i.nextest_version
  pub parent_run_id : IfSome i.parent_run_id IsUuid

-- which run it is, when it began, how large its recording is and how it ended
abbrev pub outcome_fields : Outcome → List Field
outcome_fields o =
    field (codes "run-id") (uuid_value o.run_id)
    ∷ field (codes "sizes") (sizes_format_value o.sizes)
    ∷ field (codes "started-at") (stamp_value o.started_at)
    ∷ field (codes "status") (status_format_value o.status)
    ∷ []

unfoldable pub outcome_form : Members → Option Outcome
outcome_form ms = do
  run_id ← required uuid_form (codes "run-id") ms
  started_at ← required stamp_form (codes "started-at") ms
  sizes ← required sizes_format_form (codes "sizes") ms
  status ← required status_format_form (codes "status") ms
  Some (record { run_id = run_id; sizes = sizes; started_at = started_at; status = status })

pub record IsOutcome (o : Outcome) : Type 0 where
  pub run_id : IsUuid o.run_id
  pub sizes : IsSizesFormat o.sizes
  pub started_at : IsStamp o.started_at
  pub status : IsStatusFormat o.status
