use Rattle.std.proofs.Common.{◌≡◌, ◌∷◌, ◌++◌, ◌∙◌, sym, ap, map, not, rules}
use Rattle.std.specs.List.{filter}
use Rattle.std.specs.Prelude.{if◌then◌else◌, []}
use Rattle.rec_events.specs.Names.{texts}
use Rattle.rec_events.specs.Tests.{test_of}
use Rattle.rec_rerun.proofs.Parts.{unseen_more}
use Rattle.rec_rerun.proofs.plan.add_gone.Goals as goal
use Rattle.rec_rerun.specs.Planned.{is_seen}

pub loop-name-preserved : goal.loop-name-preserved
loop-name-preserved c =
    let seen = is_seen c.args.seen.now in
    let rest = map (test_of c.args.suite.now.binary_id) (texts c.next.new.self) in
    let name = c.as_str-in-loop-name.result.now in
    let test = test_of c.args.suite.now.binary_id name in
    let step : texts c.loop-name.name-iterator ≡ name ∷ texts c.next.new.self = search rules in
    let added = c.in_ok-add_unseen.ensures.ok
    ∙ ap (λ t. c.loop-name.gone.items ++ (if seen t then [] else t ∷ []))
    (c.in_ok-test.ensures ∙ ap (λ id. test_of id name) c.as_str.ensures.value) in
    ap (λ gone. gone ++ filter (λ t. not (seen t)) rest) added
    ∙ unseen_more seen c.loop-name.gone.items test rest
    ∙ ap (λ ns. c.loop-name.gone.items
    ++ filter (λ t. not (seen t)) (map (test_of c.args.suite.now.binary_id) ns))
    (sym step)
    ∙ c.loop-name.invariant
