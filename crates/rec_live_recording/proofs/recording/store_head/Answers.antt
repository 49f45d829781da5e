use Rattle.std.proofs.Common.{List, ℕ, [], None, subst, sym}
use Rattle.rec_container.specs.Causes.{Rose}
use Rattle.rec_store.specs.Recording.{Stores, Unstored}
use Rattle.rec_store.specs.Store.{metadata_of}
use Rattle.rec_export.proofs.RecorderFaults.{head_comes}
use Rattle.rec_live_recording.proofs.Begun.{begun, event_too}
use Rattle.rec_live_recording.proofs.EventsRecorded.{head_later, head_recorded, head_unrecorded}
use Rattle.rec_live_recording.proofs.recording.store_head.Goals as goal
use Rattle.rec_live_recording.specs.declared.errors.LiveError.{LiveError}
use Rattle.rec_live_recording.specs.Refusals.{ComesOf, IsLineRefused, Overflows}

pub store_fault-requires : goal.store_fault-requires
store_fault-requires g c =
    let head = c.args.head.now in
    let taken = g.S.Sink.taken in
    let faults = g.S.Sink.faults in
    let old = c.args.recorder.now in
    let new = c.write_metadata.new.recorder in
    event_too c.in-Err.error (head_comes taken faults old new c.requires.sound head c.in-Err.error
    c.requires.empty (subst (λ (metadata : List ℕ). Unstored taken faults old new
    (metadata_of head.build_scope head.rerun_info metadata head.test_list head.record_opts)
    c.in-Err.error)
    c.as_str.ensures.value c.in-Err.ensures.err))

pub returns-in-Ok-clause-begun : goal.returns-in-Ok-clause-begun
returns-in-Ok-clause-begun g c = λ is.
    let head = c.args.head.now in
    let taken = g.S.Sink.taken in
    let faults = g.S.Sink.faults in
    let old = c.args.recorder.now in
    let new = c.write_metadata.new.recorder in
    begun taken faults g.L.Sink.taken g.N.OutputNamer.number head old new is c.requires.sound
    c.requires.empty (subst (λ (metadata : List ℕ). Stores taken faults old new
    (metadata_of head.build_scope head.rerun_info metadata head.test_list head.record_opts))
    c.as_str.ensures.value c.in-Ok.ensures.ok)

pub returns-in-Ok-clause-recorded : goal.returns-in-Ok-clause-recorded
returns-in-Ok-clause-recorded g c =
    let head = c.args.head.now in
    let taken = g.S.Sink.taken in
    let faults = g.S.Sink.faults in
    let old = c.args.recorder.now in
    let new = c.write_metadata.new.recorder in
    head_recorded taken faults g.N.OutputNamer.number head old new c.requires.sound c.requires.empty
    c.requires.unlogged (subst (λ (metadata : List ℕ). Stores taken faults old new
    (metadata_of head.build_scope head.rerun_info metadata head.test_list head.record_opts))
    c.as_str.ensures.value c.in-Ok.ensures.ok)

pub returns-in-Ok-clause-later : goal.returns-in-Ok-clause-later
returns-in-Ok-clause-later g c =
    let head = c.args.head.now in
    let taken = g.S.Sink.taken in
    let faults = g.S.Sink.faults in
    let old = c.args.recorder.now in
    let new = c.write_metadata.new.recorder in
    head_later taken faults g.N.OutputNamer.number head old new c.requires.sound c.requires.empty
    g.L.Sink.faults (subst (λ (metadata : List ℕ). Stores taken faults old new
    (metadata_of head.build_scope head.rerun_info metadata head.test_list head.record_opts))
    c.as_str.ensures.value c.in-Ok.ensures.ok)

pub returns-in-Err-clause-cause : goal.returns-in-Err-clause-cause
returns-in-Err-clause-cause g c =
    let head = c.args.head.now in
    let taken = g.S.Sink.taken in
    let faults = g.S.Sink.faults in
    let old = c.args.recorder.now in
    let new = c.write_metadata.new.recorder in
    subst (λ (e : LiveError). ComesOf ⊥ (Rose (faults old.store.sink) (faults new.store.sink)) ⊥ ⊥
    (IsLineRefused None (Overflows (g.N.OutputNamer.number old.namer) old.max_output head [])) e)
    (sym c.store_fault.ensures)
    (head_unrecorded taken faults g.N.OutputNamer.number head old new c.requires.sound
    c.requires.empty c.in-Err.error (subst (λ (metadata : List ℕ). Unstored taken faults old new
    (metadata_of head.build_scope head.rerun_info metadata head.test_list head.record_opts)
    c.in-Err.error)
    c.as_str.ensures.value c.in-Err.ensures.err))
