use Rattle.std.proofs.Common.{◌≡◌, ◌∙◌, ◌<◌, ℕ, All, ap, inl, length, refl, rules, sym}
use Rattle.std.proofs.lemmas.List.Elements.{All-from_get_or}
use Rattle.std.proofs.lemmas.Result.{IfOk-weaker}
use Rattle.uuid.proofs.RoundTrips.{parses_hyphenated}
use Rattle.uuid.specs.Text.{lower, parsed}
use Rattle.rec_format.proofs.run_ids.text_of.Goals as goal

-- an id is sixteen bytes, so its text reads back
pub returns : goal.returns
returns c =
    let size : length c.args.id ≡ 16 = search rules in
    let bytes : All (λ b. b < 256) c.args.id =
    All-from_get_or (λ (b : ℕ). b < 256) c.args.id 0 (λ k _. search rules) in
    let back = sym (parses_hyphenated lower c.args.id (inl refl) size bytes) in
    IfOk-weaker c.format.result _ _ (λ text is. record { is = is; back = ap parsed is ∙ back })
    c.format.ensures.ok
