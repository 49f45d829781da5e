use Rattle.std.proofs.Common.{◌≡◌, [], Some, false, true, ap, subst, sym, ◌∙◌}
use Rattle.rec_spans.proofs.open_spans.OpenSpans.open_script.Goals as goal
use Rattle.rec_spans.proofs.OpenScripts.{noted-forgotten, noted-opened, noted-same, script-free}
use Rattle.rec_spans.proofs.OpenTests.{opened}
use Rattle.rec_spans.specs.Noted.{AreNoted, Renotes}
use Rattle.rec_spans.specs.Past.{of_key, put_in}
use Rattle.rec_spans.specs.Tied.{AreTied, place_of}

pub invariant_of-self-in-Ok-put : goal.invariant_of-self-in-Ok-put
invariant_of-self-in-Ok-put c =
    let s = c.args.span in
    let index = c.args.index in
    let slots = c.self.inside.slots.entries in
    let spans = c.self.inside.spans.entries in
    let new = c.put.new.spans.entries in
    let notes = c.self.inside.scripts.notes in
    let key_free = subst (λ v. of_key s.key v ≡ []) (sym c.self.view_is) c.requires.key_free in
    let puts = c.in-Ok-put.ensures.ok in
    let tied = opened slots spans new s c.self.invariant.0
    (ap (place_of []) c.requires.key ∙ ap Some (sym c.requires.place)) key_free puts in
    let renotes = subst (λ name. Renotes true notes name index c.note.new.self.notes)
    c.as_str.ensures.value c.in-Ok.ensures.ok in (
      tied.0,
      noted-opened notes c.note.new.self.notes spans new index s c.self.invariant.1 c.args.id.now
          (script-free slots spans s.key index c.self.invariant.0 c.requires.key key_free)
          c.requires.name c.requires.place renotes puts,
      c.note.ensures.none_empty c.self.invariant.2,
    )

pub returns-in-Ok-put-clause-ok : goal.returns-in-Ok-put-clause-ok
returns-in-Ok-put-clause-ok c =
    let s = c.args.span in
    (opened c.self.inside.slots.entries c.self.inside.spans.entries c.put.new.spans.entries s
    c.self.invariant.0
    (ap (place_of []) c.requires.key ∙ ap Some (sym c.requires.place))
    (subst (λ v. of_key s.key v ≡ []) (sym c.self.view_is) c.requires.key_free)
    c.in-Ok-put.ensures.ok).1
    ∙ ap (put_in s) c.self.view_is

pub invariant_of-self : goal.invariant_of-self
invariant_of-self c =
    let noted = noted-same c.self.inside.scripts.notes c.note.new.self.notes
    c.self.inside.spans.entries c.self.invariant.1 c.in_default.ensures.err in
    (c.self.invariant.0, noted, c.note.ensures.none_empty c.self.invariant.2)

pub invariant_of-self-in-Err : goal.invariant_of-self-in-Err
invariant_of-self-in-Err c =
    let s = c.args.span in
    let index = c.args.index in
    let slots = c.self.inside.slots.entries in
    let spans = c.self.inside.spans.entries in
    let notes = c.self.inside.scripts.notes in
    let mid = c.note.new.self.notes in
    let new = c.forget.new.self.notes in
    let free = script-free slots spans s.key index c.self.invariant.0 c.requires.key
    (subst (λ v. of_key s.key v ≡ []) (sym c.self.view_is) c.requires.key_free) in
    let first =
    subst (λ name. Renotes true notes name index mid) c.as_str.ensures.value c.in-Ok.ensures.ok in
    let second = subst (λ name. Renotes false mid name index new)
    c.as_str-in-Err.ensures.value c.forget.ensures.forgotten in
    let noted = noted-forgotten notes mid new spans c.args.id.now index c.self.invariant.1 free
    first second in (
      subst (AreTied slots) (sym c.in-Err.ensures.err) c.self.invariant.0,
      subst (AreNoted new) (sym c.in-Err.ensures.err) noted,
      c.forget.ensures.none_empty (c.note.ensures.none_empty c.self.invariant.2),
    )
