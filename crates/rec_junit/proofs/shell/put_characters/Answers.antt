use Rattle.std.proofs.Common.{ap, flat_map, map-id, sym, ◌++◌, ◌∙◌}
use Rattle.std.proofs.lemmas.Iterator.Consumers.{YieldsList-end}
use Rattle.std.proofs.lemmas.Iterator.{YieldsList-from_chars}
use Rattle.std.specs.String.{string_bytes}
use Rattle.rec_junit.proofs.Joined.{flat_more}
use Rattle.rec_junit.proofs.shell.put_characters.Goals as goal
use Rattle.rec_junit.specs.Shell.{within_quotes}

-- the loop ends where it has yielded every character
pub returns : goal.returns
returns c =
    let end = YieldsList-end (YieldsList-from_chars c.args.word.now c.utf8.word cc)
    c.loop-character.yielded _ c.loop-character.yielded_by _ _ c.in-None.is c.next.ensures.steps in
    c.loop-character.invariant
    ∙ ap (λ cs. string_bytes c.args.line.now ++ flat_map within_quotes cs)
    (sym (map-id c.loop-character.yielded) ∙ end.0)

pub loop-character-preserved : goal.loop-character-preserved
loop-character-preserved c =
    flat_more within_quotes _ c.loop-character.yielded c.in-Some.character
    c.loop-character.invariant c.in_ok-put_within_quotes.ensures
