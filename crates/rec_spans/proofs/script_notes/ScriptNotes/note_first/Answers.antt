use Rattle.std.proofs.Common.{◌∙◌, Some, true, ap, cond, string_bytes, subst, sym}
use Rattle.std.proofs.lemmas.Map.Text.{btree_map_updates_text}
use Rattle.std.specs.BTreeMap.{is_at}
use Rattle.std.specs.Ordering.{nat_cmp}
use Rattle.rec_spans.proofs.Notings.{PutsIndexes, none_among, none_empty, renoted}
use Rattle.rec_spans.proofs.script_notes.ScriptNotes.note_first.Goals as goal
use Rattle.rec_spans.specs.Noted.{is_among}

pub returns-clause-ok : goal.returns-clause-ok
returns-clause-ok c =
    let old = c.args.self.now.notes in
    let new = c.insert-2.new.self in
    let indexes = c.insert.new.self in
    let id = c.args.id.now in
    let puts = subst (λ name. PutsIndexes old name (Some indexes) new) c.in_ok-from_str.ensures.ok
    (btree_map_updates_text (string_bytes c.in_ok-from_str.field-0) old new (Some indexes)
    c.in_ok-insert-2.ensures.updates) in
    renoted old new id (Some indexes) puts c.args.index true
    (λ i. c.in_ok-insert.ensures.updates.0 i
    ∙ ap (cond (is_at (nat_cmp c.args.index) i) true) (none_among c.new-indexes.result i
    c.new-indexes.ensures.empty ∙ sym (ap (is_among i) c.requires)))

pub returns-clause-none_empty : goal.returns-clause-none_empty
returns-clause-none_empty c =
    let old = c.args.self.now.notes in
    let new = c.insert-2.new.self in
    let indexes = c.insert.new.self in
    let id = c.args.id.now in
    let puts = subst (λ name. PutsIndexes old name (Some indexes) new) c.in_ok-from_str.ensures.ok
    (btree_map_updates_text (string_bytes c.in_ok-from_str.field-0) old new (Some indexes)
    c.in_ok-insert-2.ensures.updates) in
    none_empty old new id (Some indexes) puts
    (λ some. (c.args.index, c.in_ok-insert.ensures.updates.1))
