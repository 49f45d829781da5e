use Rattle.std.proofs.Common.{true, ◌∙◌}
use Rattle.std.proofs.lemmas.Map.Text.{btree_set_updates_text}
use Rattle.std.proofs.lemmas.Result.{err_from_is_err_and}
use Rattle.std.specs.BTreeSet.{contains_text}
use Rattle.rec_portable.proofs.JudgedOutputs.{all_added, output_passed, output_refused}
use Rattle.rec_portable.proofs.JudgedOutputs.{outputs_passed, path_added}
use Rattle.rec_portable.proofs.upgrading.outputs.judge_outputs.Goals as goal

pub returns-in_err-read_entry : goal.returns-in_err-read_entry
returns-in_err-read_entry c =
    let l = c.loop-name in
    let p = err_from_is_err_and c.from_residual-in_err-read_entry.result
    c.from_residual-in_err-read_entry.ensures.1 in
    rw (p.1, p.2) (output_refused c.args.limit c.args.entries.now.entries c.args.names.now
    l.name-index _ c.loop-name-test.true (c.as_str.ensures.value ∙ c.in_ok-path.ensures)
    l.invariant.judged _ c.in_err-read_entry.ensures)

pub loop-name-preserved : goal.loop-name-preserved
loop-name-preserved c =
    let l = c.loop-name in
    record {
      judged =
          output_passed c.args.limit c.args.entries.now.entries c.args.names.now l.name-index _
          c.loop-name-test.true (c.as_str.ensures.value ∙ c.in_ok-path.ensures)
          l.invariant.judged _ c.in_ok-read_entry.ensures;
      paths =
          path_added c.args.limit c.args.entries.now.entries c.args.names.now l.name-index _
          c.loop-name-test.true c.in_ok-path.ensures (contains_text l.paths)
          (contains_text c.insert.new.self)
          (btree_set_updates_text _ l.paths c.insert.new.self true c.in_ok-insert.ensures.updates)
          l.invariant.paths;
    }

pub returns : goal.returns
returns c =
    let l = c.loop-name in (
      tt,
      outputs_passed c.args.limit c.args.entries.now.entries c.args.names.now l.name-index
          c.loop-name-test.false l.invariant.judged,
      all_added c.args.limit c.args.entries.now.entries c.args.names.now l.name-index
          c.loop-name-test.false (contains_text l.paths) l.invariant.paths,
    )
