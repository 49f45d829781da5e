use Rattle.std.proofs.Common.{◌≡◌, ap, ap₂, is_some, nat_eq, ◌∙◌, String, Global, IsSome, false}
use Rattle.std.specs.BTreeMap.{get}
use Rattle.std.specs.List.{common_prefix_len}
use Rattle.std.specs.Ordering.{is_gt}
use Rattle.std.specs.String.{string_cmp}
use Rattle.rec_format.proofs.run_ids.shared_above.Goals as goal
use Rattle.rec_format.proofs.RunIdMaps.{most_above}
use Rattle.rec_format.specs.RunIdEntries.{IsAbove}

pub returns-in-Some : goal.returns-in-Some
returns-in-Some c =
    let part = c.range.ensures.in_range tt in
    let inside = rw c.in-Some.ensures.steps at part.1 in
    let least : (q : String Global) → IsAbove c.args.text.now q
    → IsSome (get string_cmp c.args.entries.now q)
    → is_gt (string_cmp c.in-Some.key.now q) ≡ false =
    λ q above some. rw c.in-Some.ensures.steps at (part.2 q (above, tt) some) in
    most_above c.args.entries.now c.args.text.now c.in-Some.key.now c.common_len.result
    (c.common_len.ensures
    ∙ ap₂ (λ x y. common_prefix_len nat_eq x y) c.deref.ensures c.deref-in-Some.ensures)
    inside.0.0 (ap is_some inside.1) least
