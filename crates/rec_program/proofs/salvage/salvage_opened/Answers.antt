use Rattle.rec_program.proofs.RunsSalvaged.{parts_salvaged}
use Rattle.rec_program.proofs.salvage.salvage_opened.Goals as goal

pub returns : goal.returns
returns c = λ es manifest is is_judged.
    let bundle = c.args.bundle.now in
    parts_salvaged bundle.limit es manifest is_judged c.in_ok-run.run' c.in_ok-log.log.now
    c.in_ok-store.store.now (c.in_ok-run.ensures manifest (es, is, is_judged))
    (c.in_ok-log.ensures es is) (c.in_ok-store.ensures es is)
    c.salvage_parts-result.result c.salvage_parts-result.ensures.ok
    c.salvage_parts-result.ensures.err
