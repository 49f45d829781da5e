use Rattle.std.proofs.Common.{◌≡◌, Some, ap, sym, ◌∙◌}
use Rattle.serde_json.specs.Read.{read}
use Rattle.rec_forms.proofs.ReadBack.{written_back}
use Rattle.rec_codec.proofs.event.value_from.Goals as goal
use Rattle.rec_codec.specs.EventFormLaws.{event_writable}
use Rattle.rec_codec.specs.EventForms.{event_value}

pub value_of_text-requires : goal.value_of_text-requires
value_of_text-requires g c =
    let form = g.S.OutputForm in
    let event = c.args.event.now in
    let write = c.in_ok-write_event.ensures in
    let writable = event_writable form.output_well_formed form.output_levels form.output_value
    g.met.S.OutputForm.output_writable event write.known in
    let back = written_back _ c.new-text.ensures write.written c.into_text-text.ensures.compact
    writable g.met.S.OutputForm.output_shallow in
    let is : read c.deref.result.now ≡ Some (event_value form.output_value event) =
    ap read c.deref.ensures ∙ back in
    λ none. let both = sym is ∙ none in cc both

pub returns-clause-written : goal.returns-clause-written
returns-clause-written g c =
    let form = g.S.OutputForm in
    let event = c.args.event.now in
    let write = c.in_ok-write_event.ensures in
    let writable = event_writable form.output_well_formed form.output_levels form.output_value
    g.met.S.OutputForm.output_writable event write.known in
    let back = written_back _ c.new-text.ensures write.written c.into_text-text.ensures.compact
    writable g.met.S.OutputForm.output_shallow in
    let is : read c.deref.result.now ≡ Some (event_value form.output_value event) =
    ap read c.deref.ensures ∙ back in
    (c.in_ok-value.ensures _ is, write.loaded)
