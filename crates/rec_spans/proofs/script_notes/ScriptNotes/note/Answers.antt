use Rattle.std.proofs.Common.{rules, ◌∙◌, IsSome, Some, true, ap, cond, refl, subst}
use Rattle.std.proofs.lemmas.Map.Text.{btree_map_updates_text}
use Rattle.std.proofs.lemmas.Result.{err_from_is_err_and}
use Rattle.std.specs.BTreeMap.{is_at}
use Rattle.std.specs.List.{list_any}
use Rattle.std.specs.Ordering.{nat_cmp}
use Rattle.std.specs.Prelude.{OnErr, OnOk}
use Rattle.rec_spans.proofs.Notings.{none_empty, renoted, same_noted}
use Rattle.rec_spans.proofs.script_notes.ScriptNotes.note.Goals as goal
use Rattle.rec_spans.specs.Noted.{AreSame, NoneIsEmpty, Renotes, is_among}

-- where no index is noted under the id
pub returns-in_default-clause-ok : goal.returns-in_default-clause-ok
returns-in_default-clause-ok c =
    subst (λ old. OnOk c.note_first.result
    (Renotes true old c.args.id.now c.args.index c.note_first.new.self.notes))
    c.get_mut.follows.holds-at-none c.note_first.ensures.ok

pub returns-in_default-clause-err : goal.returns-in_default-clause-err
returns-in_default-clause-err c =
    subst (λ old. OnErr c.note_first.result (AreSame old c.note_first.new.self.notes))
    c.get_mut.follows.holds-at-none c.note_first.ensures.err

pub returns-in_default-clause-none_empty : goal.returns-in_default-clause-none_empty
returns-in_default-clause-none_empty c =
    subst (λ old. NoneIsEmpty old → NoneIsEmpty c.note_first.new.self.notes)
    c.get_mut.follows.holds-at-none c.note_first.ensures.none_empty

pub returns-in_err-insert-clause-err : goal.returns-in_err-insert-clause-err
returns-in_err-insert-clause-err c =
    let p = err_from_is_err_and c.from_residual.result c.from_residual.ensures.1 in
    let old = c.args.self.now.notes in
    let indexes = c.insert.new.self in
    let new = c.get_mut.follows.lender indexes in
    let puts = btree_map_updates_text c.args.id.now old new (Some indexes)
    ((c.get_mut.follows.holds indexes).3 (search rules)) in
    let same = same_noted old new c.args.id.now (Some indexes) puts
    (λ i. ap (list_any (is_at (nat_cmp i))) c.in_err-insert.ensures.err
    ∙ ap (is_among i) c.in-Some.ensures.value) in
    rw (p.1, p.2) same

pub returns-clause-ok : goal.returns-clause-ok
returns-clause-ok c =
    let old = c.args.self.now.notes in
    let indexes = c.insert.new.self in
    let new = c.get_mut.follows.lender indexes in
    let puts = btree_map_updates_text c.args.id.now old new (Some indexes)
    ((c.get_mut.follows.holds indexes).3 (search rules)) in
    renoted old new c.args.id.now (Some indexes) puts c.args.index true
    (λ i. c.in_ok-insert.ensures.updates.0 i
    ∙ ap (λ o. cond (is_at (nat_cmp c.args.index) i) true (is_among i o)) c.in-Some.ensures.value)

pub returns-in_err-insert-clause-none_empty : goal.returns-in_err-insert-clause-none_empty
returns-in_err-insert-clause-none_empty c = λ none.
    let old = c.args.self.now.notes in
    let indexes = c.insert.new.self in
    let new = c.get_mut.follows.lender indexes in
    let id = c.args.id.now in
    let puts = btree_map_updates_text id old new (Some indexes)
    ((c.get_mut.follows.holds indexes).3 (search rules)) in
    let before = none id (subst IsSome c.in-Some.ensures.value refl) in
    none_empty old new id (Some indexes) puts
    (λ some. (
      before.0,
      ap (list_any (is_at (nat_cmp before.0))) c.in_err-insert.ensures.err
          ∙ ap (is_among before.0) c.in-Some.ensures.value ∙ before.1,
    )) none

pub returns-clause-none_empty : goal.returns-clause-none_empty
returns-clause-none_empty c =
    let old = c.args.self.now.notes in
    let indexes = c.insert.new.self in
    let new = c.get_mut.follows.lender indexes in
    let puts = btree_map_updates_text c.args.id.now old new (Some indexes)
    ((c.get_mut.follows.holds indexes).3 (search rules)) in
    none_empty old new c.args.id.now (Some indexes) puts
    (λ some. (c.args.index, c.in_ok-insert.ensures.updates.1))
