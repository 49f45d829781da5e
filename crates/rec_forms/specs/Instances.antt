-- The values and forms of which test ran, where, and which time.
use Rattle.std.specs.Prelude.{◌^◌, ◌<◌, [], ◌∷◌, Option, Some, IfSome, codes}
use Rattle.serde_json.specs.Data.{Data, string}
use Rattle.serde_json.specs.Find.{as_object}
use Rattle.rec_events.specs.declared.instances.OwnedTestInstanceId.{OwnedTestInstanceId}
use Rattle.rec_events.specs.declared.instances.RetryData.{RetryData}
use Rattle.rec_events.specs.declared.instances.StressIndexSummary.{StressIndexSummary}
use Rattle.rec_events.specs.declared.instances.TestSlotAssignment.{TestSlotAssignment}
use Rattle.rec_events.specs.Names.{IsText}
use Rattle.rec_forms.specs.Groups.{test_group_value, test_group_form, IsTestGroup}
use Rattle.rec_forms.specs.Numbers.{u32_form, u64_form, count_form, IsCount}
use Rattle.rec_forms.specs.Shape.{◌>>=◌, natural, field, optional, struct, required, maybe, text_of}

-- OwnedTestInstanceId
abbrev pub test_instance_value : OwnedTestInstanceId → Data
test_instance_value t =
    struct (field (codes "binary-id") (string t.binary_id)
    ∷ field (codes "test-name") (string t.test_name) ∷ [])

unfoldable pub test_instance_form : Data → Option OwnedTestInstanceId
test_instance_form d = do
  ms ← as_object d
  binary_id ← required text_of (codes "binary-id") ms
  test_name ← required text_of (codes "test-name") ms
  Some (record { binary_id = binary_id; test_name = test_name })

pub record IsTestInstance (t : OwnedTestInstanceId) : Type 0 where
  pub binary_id : IsText t.binary_id
  pub test_name : IsText t.test_name

-- TestSlotAssignment
abbrev pub slot_assignment_value : TestSlotAssignment → Data
slot_assignment_value a = struct (
    field (codes "global-slot") (natural a.global_slot)
    ∷ optional (codes "group-slot") natural a.group_slot
    ∷ field (codes "test-group") (test_group_value a.test_group)
    ∷ [])

unfoldable pub slot_assignment_form : Data → Option TestSlotAssignment
slot_assignment_form d = do
  ms ← as_object d
  global_slot ← required u64_form (codes "global-slot") ms
  group_slot ← maybe u64_form (codes "group-slot") ms
  test_group ← required test_group_form (codes "test-group") ms
  Some (record { global_slot = global_slot; group_slot = group_slot; test_group = test_group })

pub record IsSlotAssignment (a : TestSlotAssignment) : Type 0 where
  pub global_slot : a.global_slot < 2 ^ 64
  pub group_slot : IfSome a.group_slot (λ n. n < 2 ^ 64)
  pub test_group : IsTestGroup a.test_group

-- RetryData
abbrev pub retry_data_value : RetryData → Data
retry_data_value r =
    struct (field (codes "attempt") (natural r.attempt)
    ∷ field (codes "total-attempts") (natural r.total_attempts) ∷ [])

unfoldable pub retry_data_form : Data → Option RetryData
retry_data_form d = do
  ms ← as_object d
  attempt ← required u32_form (codes "attempt") ms
  total_attempts ← required u32_form (codes "total-attempts") ms
  Some (record { attempt = attempt; total_attempts = total_attempts })

pub record IsRetryData (r : RetryData) : Type 0 where
  pub attempt : r.attempt < 2 ^ 32
  pub total_attempts : r.total_attempts < 2 ^ 32

-- StressIndexSummary
abbrev pub stress_index_value : StressIndexSummary → Data
stress_index_value s =
    struct
    (field (codes "current") (natural s.current) ∷ optional (codes "total") natural s.total ∷ [])

unfoldable pub stress_index_form : Data → Option StressIndexSummary
stress_index_form d = do
  ms ← as_object d
  current ← required u32_form (codes "current") ms
  total ← maybe count_form (codes "total") ms
  Some (record { current = current; total = total })

pub record IsStressIndex (s : StressIndexSummary) : Type 0 where
  pub current : s.current < 2 ^ 32
  pub total : IfSome s.total IsCount
