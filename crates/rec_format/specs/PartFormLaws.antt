-- The fields that a head and a run share, and those of both kinds of runs, are writable, and
-- well-formed where they are read.
use Rattle.std.proofs.Common.{arith}
use Rattle.std.specs.List.Sorted.{IsStrictlySortedBy}
use Rattle.std.specs.Prelude.{ℕ, ◌≤◌, List, [], ◌∷◌, ◌++◌, codes}
use Rattle.serde_json.specs.Data.{string, Members}
use Rattle.rec_events.specs.Names.{IsText}
use Rattle.rec_forms.specs.GivesWellFormed.{Holds}
use Rattle.rec_forms.specs.IdLaws.{uuid_writable, uuid_well_formed}
use Rattle.rec_forms.specs.IdLaws.{version_writable, version_well_formed}
use Rattle.rec_forms.specs.Ids.{uuid_value, uuid_form, version_form}
use Rattle.rec_forms.specs.Lists.{list_form}
use Rattle.rec_forms.specs.MapLaws.{map_writable, map_well_formed}
use Rattle.rec_forms.specs.Maps.{IsMap, map_form}
use Rattle.rec_forms.specs.NumberLaws.{text_well_formed}
use Rattle.rec_forms.specs.Shape.{Field, text_of}
use Rattle.rec_forms.specs.TimeLaws.{duration_writable, duration_well_formed}
use Rattle.rec_forms.specs.TimeLaws.{stamp_writable, stamp_well_formed}
use Rattle.rec_forms.specs.Times.{duration_value, duration_form, stamp_form}
use Rattle.rec_forms.specs.WellFormedLaws.{required_then, maybe_then}
use Rattle.rec_forms.specs.WellFormedLaws.{defaulted_then, list_well_formed}
use Rattle.rec_forms.specs.Writable.{EachWritten, weaker, string_writable}
use Rattle.rec_forms.specs.Writable.{list_writable, optional_writable}
use Rattle.rec_format.specs.declared.forms.parts.Invocation.{Invocation}
use Rattle.rec_format.specs.declared.forms.parts.Outcome.{Outcome}
use Rattle.rec_format.specs.PartForms.{invocation_fields, invocation_form, IsInvocation}
use Rattle.rec_format.specs.PartForms.{outcome_fields, outcome_form, IsOutcome}
use Rattle.rec_format.specs.SizeFormLaws.{sizes_format_writable, sizes_format_well_formed}
use Rattle.rec_format.specs.SizeForms.{sizes_format_form}
use Rattle.rec_format.specs.StatusFormLaws.{status_format_writable, status_format_well_formed}
use Rattle.rec_format.specs.StatusForms.{status_format_form}

-- a map without pairs
no_pairs : IsMap IsText []
unfolding IsStrictlySortedBy
no_pairs = record { texts = tt; rise = tt; values = tt }

-- ---- they are writable

-- two lists of fields that are writable are so together
pub appended : (n : ℕ) (fs gs : List Field) → EachWritten n fs → EachWritten n gs
    → EachWritten n (fs ++ gs)
appended n [] gs w v = v
appended n (f ∷ fs) gs w v = (w.0, appended n fs gs w.1 v)

pub invocation_written : (n : ℕ) (i : Invocation) → 1 ≤ n → IsInvocation i
    → EachWritten n (invocation_fields i)
invocation_written n i deep h = (
  weaker 1 n deep (list_writable string string_writable i.cli_args h.cli_args),
  (
    optional_writable duration_value (λ d is. weaker 1 n deep (duration_writable d is))
        i.duration h.duration,
    (
      weaker 1 n deep (map_writable string string_writable i.env_vars h.env_vars),
      (
        weaker 1 n deep (stamp_writable i.last_written_at h.last_written_at),
        (
          weaker 0 n (omega arith) (version_writable i.nextest_version h.nextest_version),
          (
            optional_writable uuid_value (λ u is. weaker 0 n (omega arith) (uuid_writable u is))
                i.parent_run_id h.parent_run_id,
            tt,
          ),
        ),
      ),
    ),
  ),
)

pub outcome_written : (o : Outcome) → IsOutcome o → EachWritten 2 (outcome_fields o)
outcome_written o h = (
  weaker 0 2 (omega arith) (uuid_writable o.run_id h.run_id),
  (
    sizes_format_writable o.sizes h.sizes,
    (
      weaker 1 2 (omega arith) (stamp_writable o.started_at h.started_at),
      (weaker 1 2 (omega arith) (status_format_writable o.status h.status), tt),
    ),
  ),
)

-- ---- what is read is well-formed

pub invocation_well_formed : (ms : Members) → Holds IsInvocation (invocation_form ms)
unfolding invocation_form
invocation_well_formed ms =
    maybe_then duration_form (codes "duration") ms _ duration_well_formed (λ duration duration_is.
    maybe_then uuid_form (codes "parent-run-id") ms _ uuid_well_formed
    (λ parent_run_id parent_run_id_is.
    required_then stamp_form (codes "last-written-at") ms _ stamp_well_formed
    (λ last_written_at last_written_at_is.
    required_then version_form (codes "nextest-version") ms _ version_well_formed
    (λ nextest_version nextest_version_is.
    defaulted_then (list_form text_of) (codes "cli-args") ms [] _ tt
    (list_well_formed text_of text_well_formed) (λ cli_args cli_args_is.
    defaulted_then (map_form text_of) (codes "env-vars") ms [] _ no_pairs
    (map_well_formed text_of text_well_formed) (λ env_vars env_vars_is.
    record {
      is = record {
        cli_args = cli_args_is;
        duration = duration_is;
        env_vars = env_vars_is;
        last_written_at = last_written_at_is;
        nextest_version = nextest_version_is;
        parent_run_id = parent_run_id_is;
      };
    }))))))

pub outcome_well_formed : (ms : Members) → Holds IsOutcome (outcome_form ms)
unfolding outcome_form
outcome_well_formed ms =
    required_then uuid_form (codes "run-id") ms _ uuid_well_formed (λ run_id run_id_is.
    required_then stamp_form (codes "started-at") ms _ stamp_well_formed
    (λ started_at started_at_is.
    required_then sizes_format_form (codes "sizes") ms _ sizes_format_well_formed (λ sizes sizes_is.
    required_then status_format_form (codes "status") ms _ status_format_well_formed
    (λ status status_is.
    record {
      is = record {
        run_id = run_id_is;
        sizes = sizes_is;
        started_at = started_at_is;
        status = status_is;
      };
    }))))
