use Rattle.std.proofs.Common.{ap, subst, sym, ◌∙◌}
use Rattle.rec_container.specs.Writing.{Writing}
use Rattle.rec_store.proofs.LeftStopped.{accepted_stopped}
use Rattle.rec_store.specs.Saved.{AreStopped}
use Rattle.rec_live_recording.proofs.live.stop.Goals as goal

pub returns-clause-stopped : goal.returns-clause-stopped
returns-clause-stopped g c = λ events accepted metadata.
    let r = c.args.recorder in
    let number = g.N.OutputNamer.number r.namer in
    let parts = c.into_parts-store in
    let left = accepted_stopped g.S.Sink.taken g.L.Sink.taken g.N.OutputNamer.number events r
    accepted metadata in
    let sink = c.into_sink.ensures.sink ∙ ap (λ (w : Writing _). w.sink) parts.ensures.store in
    subst (λ (l : g.row.L.Denot). AreStopped number r.max_output events (g.L.Sink.taken l)
    (g.S.Sink.taken c.into_sink.result))
    (sym parts.ensures.log)
    (subst (λ (s : g.row.S.Denot). AreStopped number r.max_output events (g.L.Sink.taken r.log)
    (g.S.Sink.taken s)) (sym sink) left)
