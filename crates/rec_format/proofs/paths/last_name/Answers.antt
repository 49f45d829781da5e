use Rattle.std.proofs.Common.{rules, lit<}
use borrow.Author.Tests.{tests}
use Rattle.std.proofs.lemmas.Iterator.Consumers.{YieldsList-at, YieldsList-from_filter}
use Rattle.std.proofs.lemmas.Iterator.Splits.{YieldsList-from_str_split}
use Rattle.rec_format.proofs.LastItem.{last_from_yields_List}
use Rattle.rec_format.proofs.paths.last_name.Goals as goal
use Rattle.rec_format.specs.Paths.{is_name}

pub returns : goal.returns
returns c =
    last_from_yields_List c.last.result c.last.ensures.ran
    (YieldsList-from_filter _ is_name
    (YieldsList-at c.filter.ensures.source (YieldsList-from_str_split 47 c.args.path.now (lit< tt)
    c.split.ensures.text c.split.ensures.has_more c.split.ensures.pattern))
    c.filter.ensures.closure
    (λ x r q k. search (rules, tests)))
