use Rattle.std.proofs.Common.{rules, ◌∙◌, Some, ap, cond}
use Rattle.std.proofs.lemmas.Map.Text.{btree_map_updates_text}
use Rattle.std.specs.Prelude.{bytes_eq}
use Rattle.rec_events.specs.Tests.{test_of}
use Rattle.rec_rerun.proofs.StandingMaps.{put_name, restood}
use Rattle.rec_rerun.proofs.standings.Standings.put.Goals as goal
use Rattle.rec_rerun.specs.Standings.{in_binary}

pub returns : goal.returns
returns c =
    let old = c.args.self.now.tests in
    let inner = c.insert.new.self in
    let new = c.get_mut.follows.lender inner in
    let puts = btree_map_updates_text c.args.binary.now old new (Some inner)
    ((c.get_mut.follows.holds inner).3 (search rules)) in
    record {
      ok =
          restood old new (test_of c.args.binary.now c.args.name.now) (Some inner) puts
          (λ o. Some c.args.standing)
          (λ n. put_name c.in-Some.tests.now inner c.in_ok-from_str.field-0 c.args.name.now
          c.args.standing c.in_ok-from_str.ensures.ok c.in_ok-insert.ensures.updates n
          ∙ ap (λ o. cond (bytes_eq c.args.name.now n) (Some c.args.standing) (in_binary o n))
          c.in-Some.ensures.value);
    }
