use Rattle.std.proofs.Common.{◌++◌, ◌∙◌, sym, refl, map}
use Rattle.rec_container.specs.NamedContents.{entry_of}
use Rattle.rec_salvage.proofs.store.add_named.Goals as goal
use Rattle.rec_salvage.proofs.store.add_named.Goals.{then-contains+in_ok-push, else-contains}
use Rattle.rec_salvage.proofs.StoreSteps.{entry_chosen, entry_passed}
use Rattle.rec_salvage.specs.Keeping.{entries_in}

pub loop-i-preserved : goal.loop-i-preserved
loop-i-preserved c =
    let paths = c.args.paths.now in
    let es = c.args.prefix.now.entries in
    let i = c.loop-i.i in
    let name = c.name-name.result.now in
    let old = c.loop-i.contents.items in
    let before = map entry_of old in
    let all = map entry_of c.args.contents.now.items ++ entries_in paths es in
    elim c.if-contains.branch [
      | then-contains+in_ok-push w ↦
          rw w.contents-is
          (entry_chosen paths es i before all name c.name-name.ensures c.loop-i.invariant old
          w.push.new.self.items
          (record { name = c.name-name.result; content = w.bytes-content.result }) refl refl
          w.bytes-content.ensures w.in_ok-push.ensures.items
          (sym c.contains.ensures ∙ w.if-contains.true))
      | else-contains w ↦ rw w.contents-is (entry_passed paths es i before all name
          c.name-name.ensures c.loop-i.invariant (sym c.contains.ensures ∙ w.if-contains.false))
    ]
