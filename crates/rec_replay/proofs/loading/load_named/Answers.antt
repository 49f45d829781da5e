use Rattle.std.proofs.Common.{sym}
use Rattle.rec_replay.proofs.Loaded.{loads_name}
use Rattle.rec_replay.proofs.loading.load_named.Goals as goal

pub returns-clause-loads : goal.returns-clause-loads
returns-clause-loads g c =
    rw c.new.ensures (loads_name _ _ _ _ _ _ c.args.name c.in_ok-bytes.bytes.items
    (λ es known. rw (sym c.in_ok-text.ensures.value, sym c.as_str.ensures.value)
    (c.in_ok-bytes.ensures.0 es known))
    c.in_ok-bytes.ensures.1.0 c.in_ok-bytes.ensures.1.1.later)
