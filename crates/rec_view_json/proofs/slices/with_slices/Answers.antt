use Rattle.std.proofs.Common.{[], ◌∷◌, ◌∙◌, Some, IfOk, ap, codes, length, subst}
use Rattle.std.specs.Option.{unwrap_or}
use Rattle.std.specs.Prelude.{⊤}
use Rattle.rec_forms.specs.ObjectWriting.{Writes}
use Rattle.rec_view.specs.ShownGaps.{pair, pairs}
use Rattle.rec_view.specs.Slices.{all_slices}
use Rattle.rec_view_json.proofs.Fitting.{values_of_seen}
use Rattle.rec_view_json.proofs.slices.with_slices.Goals as goal
use Rattle.rec_view_json.specs.Views.{history_of, slice_value}

pub returns : goal.returns
returns c =
    let events = c.args.events.now in
    let all = history_of events in
    let from = c.args.from in
    subst
    (λ d. IfOk c.with_list.result (λ w. Writes c.args.object c.args.text.now w c.with_list.new.text
    ((codes "slices", Some d) ∷ []) ⊤))
    (values_of_seen (slice_value events) pair c.as_slice.result.now
    (all_slices all from (unwrap_or c.args.to (length events)))
    (ap pairs c.as_slice.ensures.value ∙ c.in_ok-slices.ensures))
    c.with_list.ensures
