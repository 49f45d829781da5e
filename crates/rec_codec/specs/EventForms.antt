-- The values and forms of events, over those of an output.
use Rattle.std.specs.Prelude.{ℕ, Bool, true, List, ◌∷◌, ◌++◌, Option, Some, codes, map}
use Rattle.serde_json.specs.Data.{Data, Members}
use Rattle.serde_json.specs.Find.{as_object, as_str}
use Rattle.rec_json.specs.Fields.{in_order}
use Rattle.rec_events.specs.declared.events.CoreEventKind.{CoreEventKind}
use Rattle.rec_events.specs.declared.events.TestEventKindSummary.TheVariants.{Core, Output}
use Rattle.rec_events.specs.declared.events.TestEventKindSummary.{TestEventKindSummary}
use Rattle.rec_events.specs.declared.events.TestEventSummary.{TestEventSummary}
use Rattle.rec_forms.specs.Shape.{◌>>=◌, Field, field, struct, required, named}
use Rattle.rec_forms.specs.Times.{stamp_value, stamp_form, IsStamp}
use Rattle.rec_forms.specs.Times.{duration_value, duration_form, IsDuration}
use Rattle.rec_codec.specs.CoreKindForms.{core_kinds}
use Rattle.rec_codec.specs.CoreKinds.{core_fields, IsCore}
use Rattle.rec_codec.specs.EventParts.{times_fields}
use Rattle.rec_codec.specs.OutputKinds.{output_fields, output_loaded, IsOutput}
use Rattle.rec_codec.specs.OutputKinds.{script_finished_form}
use Rattle.rec_codec.specs.OutputKinds.{attempt_failed_form, test_finished_form}

-- ---- values

module _ {S O : Type 0} (output_value : O → Data) where
  abbrev pub kind_fields : TestEventKindSummary S O → List Field
  kind_fields (Core kind) = core_fields kind
  kind_fields (Output kind) = output_fields output_value kind

  -- the members of an event, in the order in which they are written
  abbrev pub event_fields : TestEventSummary S O → List Field
  event_fields e = in_order (times_fields e.timestamp e.elapsed ++ kind_fields e.kind)

  abbrev pub event_value : TestEventSummary S O → Data
  event_value e =
      struct (field (codes "timestamp") (stamp_value e.timestamp)
      ∷ field (codes "elapsed") (duration_value e.elapsed) ∷ kind_fields e.kind)

-- ---- forms

module _ {S O : Type 0} (output_form : Data → Option O) where
  -- a kind without outputs as one of all
  abbrev pub core_entry : List ℕ × (Members → Option CoreEventKind)
      → List ℕ × (Members → Option (TestEventKindSummary S O))
  core_entry k = (k.0, λ ms. k.1 ms >>= λ kind. Some (Core kind))

  -- each kind by its name
  abbrev pub kinds : List (List ℕ × (Members → Option (TestEventKindSummary S O)))
  kinds = (
    codes "setup-script-finished",
    λ ms. script_finished_form output_form ms >>= λ k. Some (Output k),
  )
      ∷ (
        codes "test-attempt-failed-will-retry",
        λ ms. attempt_failed_form output_form ms >>= λ k. Some (Output k),
      )
      ∷ (codes "test-finished", λ ms. test_finished_form output_form ms >>= λ k. Some (Output k))
      ∷ map core_entry core_kinds

  -- the kind of this name
  unfoldable pub kind_named : List ℕ → Members → Option (TestEventKindSummary S O)
  kind_named name ms = named kinds name >>= λ form. form ms

  unfoldable pub kind_form : Members → Option (TestEventKindSummary S O)
  kind_form ms = required as_str (codes "kind") ms >>= λ name. kind_named name ms

  unfoldable pub event_form : Data → Option (TestEventSummary S O)
  event_form d = do
    ms ← as_object d
    timestamp ← required stamp_form (codes "timestamp") ms
    elapsed ← required duration_form (codes "elapsed") ms
    kind ← kind_form ms
    Some (record { timestamp = timestamp; elapsed = elapsed; kind = kind })

-- ---- whether the outputs are there

module _ {S O : Type 0} (loaded : O → Bool) where
  abbrev pub kind_loaded : TestEventKindSummary S O → Bool
  kind_loaded (Core kind) = true
  kind_loaded (Output kind) = output_loaded loaded kind

-- ---- what is well-formed

module _ {S O : Type 0} (P : O → Type 0) where
  abbrev pub IsKind : TestEventKindSummary S O → Type 0
  IsKind (Core kind) = IsCore kind
  IsKind (Output kind) = IsOutput P kind

  pub record IsEvent (e : TestEventSummary S O) : Type 0 where
    pub timestamp : IsStamp e.timestamp
    pub elapsed : IsDuration e.elapsed
    pub kind : IsKind e.kind
