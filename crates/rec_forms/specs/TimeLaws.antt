-- Instants and spans of time read back, and are writable.
use Rattle.std.proofs.Common.{arith}
use Rattle.std.proofs.lemmas.Bool.Decides.{nat_tests}
use Rattle.std.specs.Prelude.{◌≡◌, ℕ, ◌<◌, true, refl, nat_lt, Some, codes}
use Rattle.rec_events.specs.Times.{Span, Moment}
use Rattle.rec_forms.specs.GivesWellFormed.{GivesWellFormed}
use Rattle.rec_forms.specs.Members.{get_member-members_of}
use Rattle.rec_forms.specs.NumberLaws.{u32_back, u64_back, i32_back, i64_back}
use Rattle.rec_forms.specs.NumberLaws.{i32_writable, below_limit, u32_well_formed}
use Rattle.rec_forms.specs.NumberLaws.{u64_well_formed, i32_well_formed, i64_well_formed}
use Rattle.rec_forms.specs.Numbers.{u32_form, u64_form, i32_form, i64_form}
use Rattle.rec_forms.specs.Times.{stamp_value, stamp_form, IsStamp}
use Rattle.rec_forms.specs.Times.{duration_value, duration_form, IsDuration}
use Rattle.rec_forms.specs.WellFormedLaws.{object_then, required_then, only_holds}
use Rattle.rec_forms.specs.Writable.{IsWritable, struct_writable}
use Rattle.rec_forms.specs.Writable.{natural_writable, integer_writable}

below : (n : ℕ) → n < 1000000000 → nat_lt n 1000000000 ≡ true
below n h = grind (arith, nat_tests)

pub stamp_back : (s : Moment) → IsStamp s → stamp_form (stamp_value s) ≡ Some s
unfolding stamp_form
stamp_back s h = simp (
  get_member-members_of,
  i64_back _ h.secs,
  u32_back s.nanos (omega (arith, h.nanos)),
  i32_back _ h.offset,
  below _ h.nanos,
)

pub stamp_writable : (s : Moment) → IsStamp s → IsWritable 1 (stamp_value s)
stamp_writable s h =
    struct_writable _ refl (
      integer_writable s.secs h.secs,
      (natural_writable s.nanos (omega (arith, h.nanos)), (i32_writable s.offset h.offset, tt)),
    )

pub duration_back : (s : Span) → IsDuration s → duration_form (duration_value s) ≡ Some s
unfolding duration_form
duration_back s h = simp (
  get_member-members_of,
  u64_back _ h.secs,
  u32_back s.nanos (omega (arith, h.nanos)),
  below _ h.nanos,
)

pub duration_writable : (s : Span) → IsDuration s → IsWritable 1 (duration_value s)
duration_writable s h =
    struct_writable _ refl
    (natural_writable s.secs h.secs, (natural_writable s.nanos (omega (arith, h.nanos)), tt))

-- ---- what is read is well-formed

pub stamp_well_formed : GivesWellFormed IsStamp stamp_form
unfolding stamp_form
stamp_well_formed = record {
  each = λ d.
      object_then d _ (λ ms.
      required_then i64_form (codes "secs") ms _ i64_well_formed (λ secs secs_is.
      required_then u32_form (codes "nanos") ms _ u32_well_formed (λ nanos nanos_is.
      required_then i32_form (codes "offset") ms _ i32_well_formed (λ offset offset_is.
      only_holds (nat_lt nanos 1000000000) _ (λ passed. record {
        secs = secs_is;
        nanos = below_limit nanos 1000000000 passed;
        offset = offset_is;
      })))));
}

pub duration_well_formed : GivesWellFormed IsDuration duration_form
unfolding duration_form
duration_well_formed = record {
  each = λ d.
      object_then d _ (λ ms.
      required_then u64_form (codes "secs") ms _ u64_well_formed (λ secs secs_is.
      required_then u32_form (codes "nanos") ms _ u32_well_formed (λ nanos nanos_is.
      only_holds (nat_lt nanos 1000000000) _
      (λ passed. record { secs = secs_is; nanos = below_limit nanos 1000000000 passed }))));
}
