use Rattle.std.proofs.Common.{[], None, inr, refl}
use Rattle.std.proofs.lemmas.Result.{IfErr-weaker, err_from_is_err_and}
use Rattle.std.specs.Io.KnownBytes.{Appends}
use Rattle.rec_container.proofs.Results.{on_ok_both}
use Rattle.rec_container.specs.Causes.{Rose}
use Rattle.rec_export.specs.Bundle.{session_head}
use Rattle.rec_live_recording.proofs.Causes.{comes_weaker, line_weaker, refused_weaker}
use Rattle.rec_live_recording.proofs.recording.record_head.Goals as goal
use Rattle.rec_live_recording.specs.Finished.{HasRun}
use Rattle.rec_live_recording.specs.Recorder.{HasRecorded}
use Rattle.rec_live_recording.specs.Refusals.{ComesOf, HeadOverflows, IsLineRefused, IsRefused}
use Rattle.rec_live_recording.specs.Refusals.{Overflows, head_refusal}
use Rattle.rec_live_recording.specs.Session.{begun_manifest}

pub returns-in_err-head-clause-cause : goal.returns-in_err-head-clause-cause
returns-in_err-head-clause-cause g c = λ total text is.
    let old = c.args.lines.now in
    let r = c.args.recorder.now in
    let failed = Rose (g.I.Source.faults old.source)
    (g.I.Source.faults c.next_head.new.lines.source) in
    let refusal = head_refusal (session_head text) in
    let overflows = HeadOverflows (g.N.OutputNamer.number r.namer) r.max_output text in
    let p = err_from_is_err_and c.from_residual.result c.from_residual.ensures.1 in
    rw (p.1, p.2) (comes_weaker ⊥
    (Rose (g.M.Sink.faults c.args.manifest.now) (g.M.Sink.faults c.args.manifest.now))
    ⊥ (Rose (g.S.Sink.faults r.store.sink) (g.S.Sink.faults r.store.sink)) ⊥ ⊥ ⊥ ⊥
    (IsRefused failed old.limit total refusal ⊥)
    (IsRefused failed old.limit total refusal overflows)
    (λ x. absurd x) (λ x. absurd x) (λ x. x) (λ x. x)
    (refused_weaker refusal refusal ⊥ overflows (λ e h. h) (λ x. absurd x) failed failed old.limit
    old.limit total refl (λ x. x))
    c.in_err-head.field-0.0 (c.in_err-head.ensures.cause total text is))

pub returns-clause-run : goal.returns-clause-run
returns-clause-run g c = λ total text is.
    let r = c.args.recorder.now in
    let head = c.in_ok-head.head in
    let wrote = c.write_head-result in
    on_ok_both
    {P = Appends (g.M.Sink.taken c.args.manifest.now) (g.M.Sink.taken wrote.new.manifest)
    (begun_manifest head)}
    {Q = HasRecorded g.N.OutputNamer.number r.namer r.max_output head [] wrote.new.recorder}
    {R = HasRun g.N.OutputNamer.number r.namer r.max_output text []
    (g.M.Sink.taken c.args.manifest.now) (g.M.Sink.taken wrote.new.manifest) wrote.new.recorder}
    wrote.result
    (λ manifest recorded. record {
      head = head;
      has_head = c.in_ok-head.ensures.head total text is;
      manifest_taken = manifest;
      recorded = recorded;
    })
    wrote.ensures.manifest wrote.ensures.recorded

pub returns-clause-cause : goal.returns-clause-cause
returns-clause-cause g c = λ total text is.
    let old = c.args.lines.now in
    let r = c.args.recorder.now in
    let head = c.in_ok-head.head in
    let has = c.in_ok-head.ensures.head total text is in
    let wrote = c.write_head-result in
    let number = g.N.OutputNamer.number r.namer in
    let failed = Rose (g.I.Source.faults old.source)
    (g.I.Source.faults c.next_head.new.lines.source) in
    let manifest = Rose (g.M.Sink.faults c.args.manifest.now)
    (g.M.Sink.faults wrote.new.manifest) in
    let store = Rose (g.S.Sink.faults r.store.sink)
    (g.S.Sink.faults wrote.new.recorder.store.sink) in
    let alone = IsLineRefused None (Overflows number r.max_output head []) in
    let refused = IsRefused failed old.limit total (head_refusal (session_head text))
    (HeadOverflows number r.max_output text) in
    IfErr-weaker wrote.result (ComesOf manifest store ⊥ ⊥ alone)
    (ComesOf manifest store ⊥ ⊥ refused)
    (comes_weaker manifest manifest store store ⊥ ⊥ ⊥ ⊥ alone refused (λ x. x) (λ x. x) (λ x. x)
    (λ x. x)
    (λ e h. inr (inr (line_weaker None (head_refusal (session_head text))
    (Overflows number r.max_output head []) (HeadOverflows number r.max_output text)
    (λ f none. absurd (let k = none in cc)) (λ overflows. (head, has, overflows)) e h))))
    wrote.ensures.cause
