-- Which test ran, where, and which time, reads back and is writable.
use Rattle.std.specs.Prelude.{◌≡◌, ◌<◌, ◌^◌, Some, refl, codes}
use Rattle.rec_events.specs.declared.instances.OwnedTestInstanceId.{OwnedTestInstanceId}
use Rattle.rec_events.specs.declared.instances.RetryData.{RetryData}
use Rattle.rec_events.specs.declared.instances.StressIndexSummary.{StressIndexSummary}
use Rattle.rec_events.specs.declared.instances.TestSlotAssignment.{TestSlotAssignment}
use Rattle.rec_forms.specs.GivesWellFormed.{GivesWellFormed}
use Rattle.rec_forms.specs.GroupLaws.{test_group_back, test_group_writable, test_group_well_formed}
use Rattle.rec_forms.specs.Groups.{test_group_form}
use Rattle.rec_forms.specs.Instances.{test_instance_value, test_instance_form, IsTestInstance}
use Rattle.rec_forms.specs.Instances.{slot_assignment_value, slot_assignment_form, IsSlotAssignment}
use Rattle.rec_forms.specs.Instances.{retry_data_value, retry_data_form, IsRetryData}
use Rattle.rec_forms.specs.Instances.{stress_index_value, stress_index_form, IsStressIndex}
use Rattle.rec_forms.specs.ListLaws.{maybe_back}
use Rattle.rec_forms.specs.Members.{get_member-members_of}
use Rattle.rec_forms.specs.NumberLaws.{u32_back, u64_back, count_back, text_back}
use Rattle.rec_forms.specs.NumberLaws.{u32_writable, count_writable, count_well_formed}
use Rattle.rec_forms.specs.NumberLaws.{text_well_formed, u32_well_formed, u64_well_formed}
use Rattle.rec_forms.specs.Numbers.{u64_form, count_form, IsCount, u32_form}
use Rattle.rec_forms.specs.Shape.{natural, text_of}
use Rattle.rec_forms.specs.WellFormedLaws.{object_then, required_then, maybe_then}
use Rattle.rec_forms.specs.Writable.{IsWritable, struct_writable, natural_writable}
use Rattle.rec_forms.specs.Writable.{string_writable, optional_writable}

pub test_instance_back : (t : OwnedTestInstanceId) → IsTestInstance t
    → test_instance_form (test_instance_value t) ≡ Some t
unfolding test_instance_form
test_instance_back t h =
    simp (get_member-members_of, text_back _ h.binary_id, text_back _ h.test_name)

pub test_instance_writable : (t : OwnedTestInstanceId) → IsTestInstance t
    → IsWritable 1 (test_instance_value t)
test_instance_writable t h =
    struct_writable _ refl
    (string_writable t.binary_id h.binary_id, (string_writable t.test_name h.test_name, tt))

pub slot_assignment_back : (a : TestSlotAssignment) → IsSlotAssignment a
    → slot_assignment_form (slot_assignment_value a) ≡ Some a
unfolding slot_assignment_form
slot_assignment_back a h =
    simp (
      get_member-members_of,
      u64_back _ h.global_slot,
      maybe_back (λ n. n < 2 ^ 64) natural u64_form u64_back (natural_writable {n = 0})
          a.group_slot h.group_slot,
      test_group_back _ h.test_group,
    )

pub slot_assignment_writable : (a : TestSlotAssignment) → IsSlotAssignment a
    → IsWritable 1 (slot_assignment_value a)
slot_assignment_writable a h =
    struct_writable _ refl (
      natural_writable a.global_slot h.global_slot,
      (
        optional_writable natural natural_writable a.group_slot h.group_slot,
        (test_group_writable a.test_group h.test_group, tt),
      ),
    )

pub retry_data_back : (r : RetryData) → IsRetryData r
    → retry_data_form (retry_data_value r) ≡ Some r
unfolding retry_data_form
retry_data_back r h =
    simp (get_member-members_of, u32_back _ h.attempt, u32_back _ h.total_attempts)

pub retry_data_writable : (r : RetryData) → IsRetryData r → IsWritable 1 (retry_data_value r)
retry_data_writable r h =
    struct_writable _ refl
    (u32_writable r.attempt h.attempt, (u32_writable r.total_attempts h.total_attempts, tt))

pub stress_index_back : (s : StressIndexSummary) → IsStressIndex s
    → stress_index_form (stress_index_value s) ≡ Some s
unfolding stress_index_form
stress_index_back s h =
    simp (
      get_member-members_of,
      u32_back _ h.current,
      maybe_back IsCount natural count_form count_back (count_writable {n = 0}) s.total h.total,
    )

pub stress_index_writable : (s : StressIndexSummary) → IsStressIndex s
    → IsWritable 1 (stress_index_value s)
stress_index_writable s h = struct_writable _ refl (
  u32_writable s.current h.current,
  (optional_writable natural count_writable s.total h.total, tt),
)

-- ---- what is read is well-formed

pub test_instance_well_formed : GivesWellFormed IsTestInstance test_instance_form
unfolding test_instance_form
test_instance_well_formed = record {
  each = λ d.
      object_then d _ (λ ms.
      required_then text_of (codes "binary-id") ms _ text_well_formed (λ binary_id binary_id_is.
      required_then text_of (codes "test-name") ms _ text_well_formed (λ test_name test_name_is.
      record { is = record { binary_id = binary_id_is; test_name = test_name_is } })));
}

pub slot_assignment_well_formed : GivesWellFormed IsSlotAssignment slot_assignment_form
unfolding slot_assignment_form
slot_assignment_well_formed = record {
  each = λ d.
      object_then d _ (λ ms.
      required_then u64_form (codes "global-slot") ms _ u64_well_formed
      (λ global_slot global_slot_is.
      maybe_then u64_form (codes "group-slot") ms _ u64_well_formed (λ group_slot group_slot_is.
      required_then test_group_form (codes "test-group") ms _ test_group_well_formed
      (λ test_group test_group_is.
      record {
        is = record {
          global_slot = global_slot_is;
          group_slot = group_slot_is;
          test_group = test_group_is;
        };
      }))));
}

pub retry_data_well_formed : GivesWellFormed IsRetryData retry_data_form
unfolding retry_data_form
retry_data_well_formed = record {
  each = λ d.
      object_then d _ (λ ms.
      required_then u32_form (codes "attempt") ms _ u32_well_formed (λ attempt attempt_is.
      required_then u32_form (codes "total-attempts") ms _ u32_well_formed
      (λ total_attempts total_attempts_is.
      record { is = record { attempt = attempt_is; total_attempts = total_attempts_is } })));
}

pub stress_index_well_formed : GivesWellFormed IsStressIndex stress_index_form
unfolding stress_index_form
stress_index_well_formed = record {
  each = λ d.
      object_then d _ (λ ms.
      required_then u32_form (codes "current") ms _ u32_well_formed (λ current current_is.
      maybe_then count_form (codes "total") ms _ count_well_formed (λ total total_is.
      record { is = record { current = current_is; total = total_is } })));
}
