use Rattle.std.proofs.Common.{◌≡◌, ◌+◌, ◌-◌, ◌<◌, [], ◌∷◌, ◌++◌, arith, bytes_eq}
use Rattle.std.proofs.Common.{length, subst, sym, take, take_all, true, ap, ◌∙◌}
use Rattle.std.proofs.lemmas.List.{take_more}
use Rattle.std.proofs.lemmas.Slice.Eq.{bytes_eq-Decides}
use Rattle.rec_json.proofs.lookup.only_member.Goals as goal
use Rattle.rec_json.proofs.OnlyOne.{HaveKey, HaveKey-one_more, differ, last_one, two_keys}

pub returns-then-ne : goal.returns-then-ne
returns-then-ne c =
    let object = c.args.object.now in
    let e = c.loop-name-item.result in
    let f = c.index-object-object.result in
    let within : length object - 1 < length object = grind arith in
    two_keys object c.loop-name.name-index (length object - 1)
    e f c.loop-name-test.true c.loop-name-item.is within c.index-object-object.is
    (differ e.0.now f.0.now _ c.ne.ensures c.if-ne.true)

pub loop-name-preserved : goal.loop-name-preserved
loop-name-preserved c =
    let object = c.args.object.now in
    let i = c.loop-name.name-index in
    let e = c.loop-name-item.result in
    let k = c.index-object-object.result.0.now in
    let more : take (i + 1) object ≡ take i object ++ e ∷ [] =
    take_more object i e c.loop-name-test.true
    ∙ ap (λ x. take i object ++ x ∷ []) (sym c.loop-name-item.is) in
    let equal : bytes_eq e.0.now k ≡ true = grind arith in
    subst (HaveKey k) (sym more) (HaveKey-one_more k (take i object) e c.loop-name.invariant
    ((bytes_eq-Decides e.0.now k).0 equal))

pub returns : goal.returns
returns c =
    let object = c.args.object.now in
    let f = c.index-object-object.result in
    let all : take c.loop-name.name-index object ≡ object =
    take_all c.loop-name.name-index object (omega (arith, c.loop-name-test.false)) in
    last_one object (length object - 1) f (grind arith) c.index-object-object.is
    (subst (HaveKey f.0.now) all c.loop-name.invariant)
