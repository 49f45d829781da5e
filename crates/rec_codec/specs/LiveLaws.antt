-- Outputs as they are captured read back, and are writable.
use Rattle.std.proofs.Common.{arith}
use Rattle.std.specs.Prelude.{◌≡◌, [], Some, codes, refl, true, ◌∷◌}
use Rattle.hex.specs.Hex.{IsBytes}
use Rattle.rec_events.specs.declared.outputs.ChildOutputDescription.TheVariants.{
  Split,
  Combined,
  NotLoaded,
}
use Rattle.rec_events.specs.declared.outputs.ChildOutputDescription.{ChildOutputDescription}
use Rattle.rec_forms.specs.GivesWellFormed.{GivesWellFormed}
use Rattle.rec_forms.specs.ListLaws.{maybe_back}
use Rattle.rec_forms.specs.Members.{get_member-members_of}
use Rattle.rec_forms.specs.OutputLaws.{
  output_bytes_back,
  output_bytes_writable,
  output_bytes_well_formed,
}
use Rattle.rec_forms.specs.Outputs.{output_bytes_value, output_bytes_form}
use Rattle.rec_forms.specs.WellFormedLaws.{map_holds, object_then, maybe_then, variant_well_formed}
use Rattle.rec_forms.specs.Writable.{IsWritable, weaker, struct_writable}
use Rattle.rec_forms.specs.Writable.{tagged_writable, optional_writable}
use Rattle.rec_codec.specs.Live.{live_value, live_form, live_split_form}
use Rattle.rec_codec.specs.Live.{IsLive, is_loaded, live_combined_form}

pub live_back : (o : ChildOutputDescription) → IsLive o → live_form (live_value o) ≡ Some o
unfolding live_form live_split_form
live_back (Split out err) h =
    simp (
      get_member-members_of,
      maybe_back IsBytes output_bytes_value output_bytes_form output_bytes_back
          output_bytes_writable out h.0,
      maybe_back IsBytes output_bytes_value output_bytes_form output_bytes_back
          output_bytes_writable err h.1,
    )
live_back (Combined output) h = rw (output_bytes_back output h)
live_back NotLoaded h = absurd h

pub live_writable : (o : ChildOutputDescription) → IsLive o → IsWritable 2 (live_value o)
live_writable (Split out err) h =
    tagged_writable (codes "split") _ refl (struct_writable _ refl (
      optional_writable output_bytes_value output_bytes_writable out h.0,
      (optional_writable output_bytes_value output_bytes_writable err h.1, tt),
    ))
live_writable (Combined output) h =
    tagged_writable (codes "combined") _ refl
    (weaker 0 1 (omega arith) (output_bytes_writable output h))
live_writable NotLoaded h = absurd h

-- ---- what is read is well-formed

live_split_well_formed : GivesWellFormed IsLive live_split_form
unfolding live_split_form
live_split_well_formed = record {
  each = λ d.
      object_then d _ (λ ms.
      maybe_then output_bytes_form (codes "stdout") ms _ output_bytes_well_formed (λ out out_is.
      maybe_then output_bytes_form (codes "stderr") ms _ output_bytes_well_formed (λ err err_is.
      record { is = (out_is, err_is) })));
}

live_combined_well_formed : GivesWellFormed IsLive live_combined_form
live_combined_well_formed = record {
  each =
      λ d.
      map_holds Combined (output_bytes_form d) (output_bytes_well_formed.each d) (λ output is. is);
}

pub live_well_formed : GivesWellFormed IsLive live_form
unfolding live_form
live_well_formed =
    variant_well_formed IsLive []
    ((codes "split", live_split_form) ∷ (codes "combined", live_combined_form) ∷ []) tt
    (live_split_well_formed, (live_combined_well_formed, tt))

-- what is well-formed was loaded
pub live_loaded : (o : ChildOutputDescription) → IsLive o → is_loaded o ≡ true
live_loaded (Split out err) h = refl
live_loaded (Combined output) h = refl
live_loaded NotLoaded h = absurd h
