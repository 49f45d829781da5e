-- What a trace says of the run beside its events is what a text can give back.
use Rattle.std.proofs.Common.{arith}
use Rattle.std.specs.Prelude.{[], ◌∷◌, None, Some, IfSome, codes, refl}
use Rattle.semver.specs.Parse.{Parts}
use Rattle.rec_events.specs.Names.{IsText}
use Rattle.rec_events.specs.Versions.{IsVersion}
use Rattle.rec_forms.specs.IdLaws.{uuid_writable, version_writable}
use Rattle.rec_forms.specs.Ids.{IsUuid}
use Rattle.rec_forms.specs.Stress.{IsStressCondition, stress_condition_value}
use Rattle.rec_forms.specs.StressLaws.{stress_condition_writable}
use Rattle.rec_forms.specs.Writable.{EachWritten, IsWritable, optional_writable}
use Rattle.rec_forms.specs.Writable.{string_writable, struct_writable, weaker}
use Rattle.rec_trace.specs.declared.run_start.RunStart.{RunStart}
use Rattle.rec_trace.specs.Texts.{other_data, words_field}

pub version_alone : (version : Parts) → IsVersion version → IsWritable 8 (other_data version None)
unfolding other_data
version_alone version is =
    struct_writable _ refl (weaker 0 7 (omega arith) (version_writable version is), tt)

pub run_written : (version : Parts) (run : RunStart) → IsVersion version → IsUuid run.run_id
    → IsText run.profile_name → EachWritten 7 (words_field (codes "cli_args") run.cli_args ∷ [])
    → IfSome run.stress_condition IsStressCondition → IsWritable 8 (other_data version (Some run))
unfolding other_data
run_written version run is id profile words condition =
    struct_writable _ refl (
      weaker 0 7 (omega arith) (version_writable version is),
      (
        weaker 0 7 (omega arith) (uuid_writable run.run_id id),
        (
          string_writable run.profile_name profile,
          (
            words.0,
            (
              optional_writable stress_condition_value
                  (λ c is. weaker 2 7 (omega arith) (stress_condition_writable c is))
                  run.stress_condition condition,
              tt,
            ),
          ),
        ),
      ),
    )
