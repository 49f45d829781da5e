use Rattle.rec_forms.proofs.Writing.{◌▸◌, saying}
use Rattle.rec_view.specs.Acts.{acts}
use Rattle.rec_view.specs.Tests.{verdicts}
use Rattle.rec_view_json.proofs.view.with_ends.Goals as goal

pub returns : goal.returns
returns c =
    rw (← c.instant_at-begin.ensures, ← c.last_instant-end.ensures, ← c.requires.unnamed)
    (saying (λ _. tt)
    (c.optional-object.ensures ▸ c.in_ok-object.ensures ▸
    c.in_ok-object-2.ensures (verdicts (acts c.args.events.now)) c.requires.counts ▸
    c.optional.ensures))
