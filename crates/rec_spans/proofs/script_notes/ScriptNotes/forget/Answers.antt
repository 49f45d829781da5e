use Rattle.std.proofs.Common.{rules, ◌∙◌, None, Some, false, ap, cond, sym}
use Rattle.std.proofs.lemmas.Bool.{false≢true}
use Rattle.std.proofs.lemmas.Map.Text.{btree_map_updates_text}
use Rattle.std.specs.BTreeMap.{is_at}
use Rattle.std.specs.Ordering.{nat_cmp}
use Rattle.rec_spans.proofs.Notings.{none_among_len, none_empty, put_twice, renoted, some_among}
use Rattle.rec_spans.proofs.script_notes.ScriptNotes.forget.Goals as goal
use Rattle.rec_spans.specs.Noted.{is_among}

pub returns-then-is_empty-clause-forgotten : goal.returns-then-is_empty-clause-forgotten
returns-then-is_empty-clause-forgotten c =
    let old = c.args.self.now.notes in
    let indexes = c.remove.new.self in
    let mid = c.get_mut.follows.lender indexes in
    let new = c.remove-then-is_empty.new.self in
    let id = c.args.id.now in
    let first = btree_map_updates_text id old mid (Some indexes)
    ((c.get_mut.follows.holds indexes).3 (search rules)) in
    let second = btree_map_updates_text id mid new None c.remove-then-is_empty.ensures.updates in
    renoted old new id None (put_twice old mid new id (Some indexes) None first second)
    c.args.index false
    (λ i. sym (none_among_len indexes i (c.is_empty.ensures.0 c.if-is_empty.true))
    ∙ c.remove.ensures.updates.0 i
    ∙ ap (λ o. cond (is_at (nat_cmp c.args.index) i) false (is_among i o)) c.in-Some.ensures.value)

pub returns-else-is_empty-clause-forgotten : goal.returns-else-is_empty-clause-forgotten
returns-else-is_empty-clause-forgotten c =
    let old = c.args.self.now.notes in
    let indexes = c.remove.new.self in
    let new = c.get_mut.follows.lender indexes in
    let puts = btree_map_updates_text c.args.id.now old new (Some indexes)
    ((c.get_mut.follows.holds indexes).3 (search rules)) in
    renoted old new c.args.id.now (Some indexes) puts c.args.index false
    (λ i. c.remove.ensures.updates.0 i
    ∙ ap (λ o. cond (is_at (nat_cmp c.args.index) i) false (is_among i o)) c.in-Some.ensures.value)

pub returns-then-is_empty-clause-none_empty : goal.returns-then-is_empty-clause-none_empty
returns-then-is_empty-clause-none_empty c =
    let old = c.args.self.now.notes in
    let indexes = c.remove.new.self in
    let mid = c.get_mut.follows.lender indexes in
    let new = c.remove-then-is_empty.new.self in
    let id = c.args.id.now in
    let first = btree_map_updates_text id old mid (Some indexes)
    ((c.get_mut.follows.holds indexes).3 (search rules)) in
    let second = btree_map_updates_text id mid new None c.remove-then-is_empty.ensures.updates in
    none_empty old new id None (put_twice old mid new id (Some indexes) None first second)
    (λ some. absurd (false≢true some))

pub returns-else-is_empty-clause-none_empty : goal.returns-else-is_empty-clause-none_empty
returns-else-is_empty-clause-none_empty c =
    let old = c.args.self.now.notes in
    let indexes = c.remove.new.self in
    let new = c.get_mut.follows.lender indexes in
    let puts = btree_map_updates_text c.args.id.now old new (Some indexes)
    ((c.get_mut.follows.holds indexes).3 (search rules)) in
    none_empty old new c.args.id.now (Some indexes) puts
    (λ some.
    some_among indexes (λ none. false≢true (sym c.if-is_empty.false ∙ c.is_empty.ensures.1 none)))
