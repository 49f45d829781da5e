use Rattle.std.proofs.Common.{string_bytes}
use Rattle.std.proofs.Common.{◌+◌, arith, sym, ap, ◌∙◌, is_some, take, drop}
use Rattle.std.proofs.lemmas.Str.{IsCharBoundary-from_ascii}
use Rattle.rec_format.proofs.run_ids.RunIdIndex.shortest_unique_prefix.Goals as goal
use Rattle.rec_format.proofs.RunIdMaps.{found, not_there, most_apart, fits}
use Rattle.rec_format.proofs.RunIdMaps.{cut_shortest, text_length, text_ascii}

pub returns-then-not-contains_key : goal.returns-then-not-contains_key
returns-then-not-contains_key c =
    let none =
    ap (λ t. is_some (found t c.self.inside.entries.entries)) (sym c.as_str.ensures.value)
    ∙ sym c.contains_key.ensures ∙ c.if-not-contains_key.true in
    rw (← c.self.view_is) (not_there c.self.inside.entries.entries c.args.run_id c.in_ok-text.text
    c.self.invariant c.in_ok-text.ensures none)

pub overflow_add-max : goal.overflow_add-max
overflow_add-max c =
    let text = c.in_ok-text.text in
    let there =
    ap (λ t. is_some (found t c.self.inside.entries.entries)) (sym c.as_str.ensures.value)
    ∙ sym c.contains_key.ensures ∙ c.if-not-contains_key.false in
    let most = most_apart c.self.inside.entries text _ _ _ c.shared_below-below.ensures
    c.shared_above-above.ensures c.max.ensures in
    let within = fits c.self.inside.entries c.args.run_id text c.max.result c.self.invariant
    c.in_ok-text.ensures there most in
    let long = text_length c.args.run_id text c.in_ok-text.ensures in
    omega (arith, within, long)

pub split_at-requires : goal.split_at-requires
split_at-requires c =
    let text = c.in_ok-text.text in
    let there =
    ap (λ t. is_some (found t c.self.inside.entries.entries)) (sym c.as_str.ensures.value)
    ∙ sym c.contains_key.ensures ∙ c.if-not-contains_key.false in
    let most = most_apart c.self.inside.entries text _ _ _ c.shared_below-below.ensures
    c.shared_above-above.ensures c.max.ensures in
    let within = fits c.self.inside.entries c.args.run_id text c.max.result c.self.invariant
    c.in_ok-text.ensures there most in
    rw c.deref.ensures (IsCharBoundary-from_ascii (string_bytes text) (c.max.result + 1)
    (text_ascii c.args.run_id text c.in_ok-text.ensures) (omega (arith, within)))

pub returns : goal.returns
returns c =
    let text = c.in_ok-text.text in
    let n = c.max.result in
    let there =
    ap (λ t. is_some (found t c.self.inside.entries.entries)) (sym c.as_str.ensures.value)
    ∙ sym c.contains_key.ensures ∙ c.if-not-contains_key.false in
    let most = most_apart c.self.inside.entries text _ _ _ c.shared_below-below.ensures
    c.shared_above-above.ensures c.max.ensures in
    rw (← c.self.view_is) (cut_shortest c.self.inside.entries c.args.run_id text n c.self.invariant
    c.in_ok-text.ensures there most
    (record { prefix = c.in_ok-from_str.field-0; rest = c.in_ok-from_str-2.field-0 })
    (c.in_ok-from_str.ensures.ok ∙ c.split_at.ensures.front ∙ ap (take (n + 1)) c.deref.ensures)
    (c.in_ok-from_str-2.ensures.ok ∙ c.split_at.ensures.back ∙ ap (drop (n + 1)) c.deref.ensures))
