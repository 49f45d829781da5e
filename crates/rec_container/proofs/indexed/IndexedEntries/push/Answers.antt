use Rattle.std.proofs.Common.{◌≡◌, ◌∙◌, ◌+◌, [], ◌∷◌, ◌++◌, ℕ, List}
use Rattle.std.proofs.Common.{Option, None, Bor, is_some, cond, ap, refl}
use Rattle.std.specs.BTreeMap.{btree_map_len}
use Rattle.rec_container.proofs.indexed.IndexedEntries.push.Goals as goal
use Rattle.rec_container.proofs.NameIndex.{HasContents-push, absent-from}
use Rattle.rec_container.specs.Container.{content_of}
use Rattle.rec_container.specs.Placed.{placed_entries}

pub invariant_of-self-2 : goal.invariant_of-self-2
invariant_of-self-2 c =
    let hs = c.self.inside.entries.items in
    let held = c.args.held in
    let absent : content_of (placed_entries hs) held.name.now ≡ None =
    ap (λ es. content_of (placed_entries es) held.name.now) c.self.view_is ∙ c.requires in
    let added : c.push.new.self.items ≡ hs ++ held ∷ [] =
    c.push.ensures.items ∙ rw (c.unwrap.ensures, c.in_ok-reserve.ensures.items) refl in
    let none = absent-from c.self.inside.index.entries hs held.name.now c.self.invariant absent in
    let longer = c.in_ok-insert.ensures.len
    ∙ ap (λ (o : Option (Bor (List ℕ))). btree_map_len c.self.inside.index + cond (is_some o) 0 1)
    (c.in_ok-insert.ensures.old ∙ none) in
    HasContents-push c.self.inside.index c.insert.new.self hs c.push.new.self.items held
    c.self.invariant absent c.in_ok-insert.ensures.updates longer added
