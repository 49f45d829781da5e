use Rattle.std.proofs.Common.{◌∙◌, Bool, List, ℕ, String, ◌||◌, ap, sym, string_bytes}
use Rattle.std.specs.declared.alloc.Global.{Global}
use Rattle.std.specs.List.{list_any}
use Rattle.rec_disk.proofs.file_map.FileMap.has_any.Goals as goal
use Rattle.rec_disk.proofs.FileMaps.{any_keys}
use Rattle.rec_disk.specs.MemoryDisks.{lies_at}

abbrev any : List ℕ → List (String Global) → Bool
any path names = list_any (λ n. lies_at path (string_bytes n)) names

pub loop-name-init : goal.loop-name-init
loop-name-init c =
    ap (λ (fs : List (List ℕ × List ℕ)). list_any (λ f. lies_at c.args.path.now f.0) fs)
    (sym c.self.view_is)
    ∙ any_keys c.self.inside.files.entries c.args.path.now ∙ ap (any c.args.path.now)
    (sym (c.into_iter-name-iterator.ensures.into_iter_gives ∙ c.keys-name-items.ensures.rest))

pub returns-then-is_at_or_below : goal.returns-then-is_at_or_below
returns-then-is_at_or_below c =
    let found = c.if-is_at_or_below.ensures ∙ ap (lies_at c.args.path.now) c.as_str.ensures.value in
    sym (c.loop-name.invariant ∙ ap (any c.args.path.now) c.in-Some.ensures.steps
    ∙ ap (λ b. b || any c.args.path.now c.next.new.self) (sym found))

pub loop-name-preserved : goal.loop-name-preserved
loop-name-preserved c =
    let found = c.if-is_at_or_below.ensures ∙ ap (lies_at c.args.path.now) c.as_str.ensures.value in
    c.loop-name.invariant ∙ ap (any c.args.path.now) c.in-Some.ensures.steps
    ∙ ap (λ b. b || any c.args.path.now c.next.new.self) (sym found)

pub returns : goal.returns
returns c = sym (c.loop-name.invariant ∙ ap (any c.args.path.now) c.in-None.ensures.steps.0)
