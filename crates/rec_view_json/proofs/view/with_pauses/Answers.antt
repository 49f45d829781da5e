use Rattle.std.proofs.Common.{[], ◌∷◌, ◌∙◌, Some, IfOk, ap, codes, subst}
use Rattle.std.specs.Prelude.{⊤}
use Rattle.rec_forms.specs.ObjectWriting.{Writes}
use Rattle.rec_view.specs.ShownGaps.{pair, pairs}
use Rattle.rec_view.specs.Slices.{pauses}
use Rattle.rec_view_json.proofs.Fitting.{values_of_seen}
use Rattle.rec_view_json.proofs.view.with_pauses.Goals as goal
use Rattle.rec_view_json.specs.Views.{history_of, slice_value}

pub returns : goal.returns
returns c =
    let events = c.args.events.now in
    subst
    (λ d. IfOk c.with_list.result (λ w. Writes c.args.object c.args.text.now w c.with_list.new.text
    ((codes "pauses", Some d) ∷ []) ⊤))
    (values_of_seen (slice_value events) pair c.as_slice.result.now (pauses (history_of events))
    (ap pairs c.as_slice.ensures.value ∙ c.in_ok-pauses.ensures (history_of events) c.requires))
    c.with_list.ensures
