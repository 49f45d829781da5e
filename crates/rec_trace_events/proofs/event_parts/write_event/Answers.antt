use Rattle.std.proofs.lemmas.Result.{on_ok_weaker}
use Rattle.std.specs.Prelude.{[], ◌∷◌, codes, option_copied, option_map}
use Rattle.rec_forms.proofs.Writing.{◌▸◌, all_written}
use Rattle.rec_forms.specs.ObjectWriting.{Writes}
use Rattle.rec_forms.specs.Writable.{IfWritten}
use Rattle.rec_trace_events.proofs.event_parts.write_event.Goals as goal
use Rattle.rec_trace_events.proofs.EventTexts.{event_writable}

pub returns-clause-written : goal.returns-clause-written
returns-clause-written g c =
    let args = option_map g.A.Args.value_of (option_copied c.args.args) in
    let first : Writes c.resume.result c.begin_object.new.self c.resume.result c.write_args.new.text
    ((codes "args", args) ∷ []) (IfWritten 8 args) =
    record {
      goes = λ ok. ok;
      written = λ _. c.in_ok-write_args.ensures.written;
      known = λ _. c.in_ok-write_args.ensures.known;
    } in
    c.end.ensures.written _ _ (all_written (λ _. c.in_ok-begin_object.ensures)
    (first ▸ c.with_fields_after_args-object.ensures))

pub returns-clause-known : goal.returns-clause-known
returns-clause-known g c =
    let args = option_map g.A.Args.value_of (option_copied c.args.args) in
    on_ok_weaker
    c.end.result
    (λ all. event_writable c.args.parts.now args c.in_ok-write_args.ensures.known
    (c.with_fields_after_args-object.ensures.known all))
    c.end.ensures.goes
