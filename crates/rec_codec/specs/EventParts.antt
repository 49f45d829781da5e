-- The members of events as they are written: in the order of the bytes of their keys, those of the
-- kind among those of the event.
use Rattle.std.specs.Prelude.{ℕ, List, [], ◌∷◌, ◌++◌, Option, codes}
use Rattle.serde_json.specs.Data.{string}
use Rattle.rec_json.specs.Fields.{in_order}
use Rattle.rec_events.specs.declared.events.CoreEventKind.{CoreEventKind}
use Rattle.rec_events.specs.declared.instances.OwnedTestInstanceId.{OwnedTestInstanceId}
use Rattle.rec_events.specs.declared.instances.StressIndexSummary.{StressIndexSummary}
use Rattle.rec_events.specs.Times.{Span, Moment}
use Rattle.rec_forms.specs.Instances.{test_instance_value, stress_index_value}
use Rattle.rec_forms.specs.Lists.{list_value}
use Rattle.rec_forms.specs.Shape.{Field, natural, field, optional}
use Rattle.rec_forms.specs.Times.{stamp_value, IsStamp, duration_value, IsDuration}
use Rattle.rec_codec.specs.CoreKinds.{kind_field, core_fields, IsCore}

-- what each event has beside its kind
abbrev pub times_fields : Moment → Span → List Field
times_fields timestamp elapsed =
    field (codes "timestamp") (stamp_value timestamp)
    ∷ field (codes "elapsed") (duration_value elapsed) ∷ []

-- an event of a kind without outputs
abbrev pub core_event_fields : Moment → Span → CoreEventKind → List Field
core_event_fields timestamp elapsed kind =
    in_order (times_fields timestamp elapsed ++ core_fields kind)

abbrev pub IsCoreEvent : Moment → Span → CoreEventKind → Type 0
IsCoreEvent timestamp elapsed kind = IsStamp timestamp × IsDuration elapsed × IsCore kind

-- ---- members that are next to each other in several kinds

abbrev pub head_part : Span → List ℕ → List Field
head_part elapsed name = field (codes "elapsed") (duration_value elapsed) ∷ kind_field name ∷ []

abbrev pub running_part : ℕ → ℕ → Moment → List Field
running_part running setup_scripts_running timestamp =
    field (codes "running") (natural running)
    ∷ field (codes "setup-scripts-running") (natural setup_scripts_running)
    ∷ field (codes "timestamp") (stamp_value timestamp)
    ∷ []

abbrev pub test_part : Option StressIndexSummary → OwnedTestInstanceId → Moment → List Field
test_part stress_index test_instance timestamp =
    optional (codes "stress-index") stress_index_value stress_index
    ∷ field (codes "test-instance") (test_instance_value test_instance)
    ∷ field (codes "timestamp") (stamp_value timestamp)
    ∷ []

abbrev pub args_part : List (List ℕ) → Span → ℕ → List Field
args_part args elapsed index =
    field (codes "args") (list_value string args)
    ∷ field (codes "elapsed") (duration_value elapsed)
    ∷ field (codes "index") (natural index)
    ∷ []

abbrev pub script_part : List ℕ → Option StressIndexSummary → Moment → ℕ → List Field
script_part script_id stress_index timestamp total =
    field (codes "script-id") (string script_id)
    ∷ optional (codes "stress-index") stress_index_value stress_index
    ∷ field (codes "timestamp") (stamp_value timestamp)
    ∷ field (codes "total") (natural total)
    ∷ []
