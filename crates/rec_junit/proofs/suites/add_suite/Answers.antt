use Rattle.std.proofs.Common.{◌∙◌}
use Rattle.rec_junit.proofs.Keys.{ok_fact, insert_key-new}
use Rattle.rec_junit.proofs.suites.add_suite.Goals as goal

pub returns-clause-key : goal.returns-clause-key
returns-clause-key c =
    ok_fact _ c.insert.result c.unwrap-2.result c.unwrap-2.ensures c.insert.ensures.keys
    ∙ insert_key-new c.make_room.new.keys.keys c.args.keys.now.keys c.args.addition.key
    c.make_room.ensures.keys c.requires.new
