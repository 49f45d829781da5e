use Rattle.std.proofs.Common.{◌∙◌, Some, ap, cond, string_bytes, subst, sym, ◌≡◌, ℕ, List}
use Rattle.std.proofs.lemmas.Map.Text.{btree_map_updates_text}
use Rattle.std.specs.BTreeMap.{get_by_text}
use Rattle.std.specs.Prelude.{bytes_eq}
use Rattle.rec_events.specs.Tests.{test_of}
use Rattle.rec_rerun.proofs.Gathered.{entry_at}
use Rattle.rec_rerun.proofs.StandingMaps.{put_name, restood}
use Rattle.rec_rerun.proofs.standings.Standings.put_first.Goals as goal
use Rattle.rec_rerun.specs.Standings.{in_binary}

pub returns : goal.returns
returns c =
    let old = c.args.self.now.tests in
    let inner = c.insert.new.self in
    let new = c.insert-2.new.self in
    let puts = subst (λ id. (name : List ℕ)
    → get_by_text new name ≡ cond (bytes_eq id name) (Some inner) (get_by_text old name))
    c.in_ok-from_str-2.ensures.ok
    (btree_map_updates_text (string_bytes c.in_ok-from_str-2.field-0) old new (Some inner)
    c.in_ok-insert-2.ensures.updates) in
    record {
      ok =
          restood old new (test_of c.args.binary.now c.args.name.now) (Some inner) puts
          (λ o. Some c.args.standing)
          (λ n. put_name c.new-tests.result inner c.in_ok-from_str.field-0 c.args.name.now
          c.args.standing c.in_ok-from_str.ensures.ok c.in_ok-insert.ensures.updates n
          ∙ ap (cond (bytes_eq c.args.name.now n) (Some c.args.standing))
          (ap (entry_at n) c.new-tests.ensures.empty ∙ sym (ap (λ o. in_binary o n) c.requires)));
    }
