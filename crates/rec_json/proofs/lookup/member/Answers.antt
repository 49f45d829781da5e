use Rattle.std.proofs.Common.{◌≡◌, ◌+◌, ◌-◌, [], ◌∷◌, ◌++◌, arith, bytes_eq}
use Rattle.std.proofs.Common.{false, sym, take, true≢false, ap, ◌∙◌}
use Rattle.std.proofs.lemmas.List.{take_more}
use Rattle.std.proofs.lemmas.Slice.Eq.{bytes_eq-Decides}
use Rattle.serde_json.specs.Find.{get_member}
use Rattle.rec_json.proofs.lookup.member.Goals as goal
use Rattle.rec_json.proofs.LookupSteps.{last_found, last_passed}
use Rattle.rec_json.specs.Nodes.{members_view}

pub returns-then-eq : goal.returns-then-eq
returns-then-eq c =
    let object = c.args.object.now in
    let i = c.last.end - 1 in
    let e = c.index-object-end.result in
    let next : c.last.end ≡ i + 1 = omega arith in
    let more : take c.last.end object ≡ take i object ++ e ∷ [] =
    ap (λ n. take n object) next ∙ take_more object i e (omega (arith, c.last.invariant.within))
    ∙ ap (λ x. take i object ++ x ∷ []) (sym c.index-object-end.is) in
    let same : e.0.now ≡ c.args.key.now =
    (bytes_eq-Decides e.0.now c.args.key.now).0 (sym c.eq.ensures ∙ c.if-eq.true) in
    sym (c.last.invariant.same ∙ ap (λ xs. get_member c.args.key.now (members_view xs)) more
    ∙ last_found (take i object) e.0 e.1 c.args.key.now same)

pub last-preserved : goal.last-preserved
last-preserved c =
    let object = c.args.object.now in
    let i = c.last.end - 1 in
    let e = c.index-object-end.result in
    let next : c.last.end ≡ i + 1 = omega arith in
    let more : take c.last.end object ≡ take i object ++ e ∷ [] =
    ap (λ n. take n object) next ∙ take_more object i e (omega (arith, c.last.invariant.within))
    ∙ ap (λ x. take i object ++ x ∷ []) (sym c.index-object-end.is) in
    let different : bytes_eq e.0.now c.args.key.now ≡ false = sym c.eq.ensures ∙ c.if-eq.false in
    record {
      within = omega (arith, c.last.invariant.within);
      same = c.last.invariant.same ∙ ap (λ xs. get_member c.args.key.now (members_view xs)) more
          ∙ last_passed (take i object) e.0 e.1 c.args.key.now
          (λ h. true≢false (sym ((bytes_eq-Decides e.0.now c.args.key.now).1 (sym h)) ∙ different));
    }
