use Rattle.std.proofs.Common.{◌∷◌, ◌++◌, [], ◌∙◌, sym, ap, map, take, subst, append_assoc}
use Rattle.std.proofs.lemmas.List.{map-append, take_all}
use Rattle.rec_events.specs.Tests.{test_of}
use Rattle.rec_rerun.proofs.LastPlaces.{take_more}
use Rattle.rec_rerun.proofs.Parts.{append-nil}
use Rattle.rec_rerun.proofs.plan.Planned.place_all.Goals as goal
use Rattle.rec_rerun.specs.Planned.{HasPlanned}

pub loop-name-init : goal.loop-name-init
loop-name-init c =
    λ tests h.
    subst (λ ts. HasPlanned c.args.info.now ts c.args.self.now) (sym (append-nil tests)) h

pub loop-name-preserved : goal.loop-name-preserved
loop-name-preserved c = λ tests h.
    let names = c.args.names.now in
    let test = test_of c.args.binary.now in
    let name = c.name-item.result in
    let i = c.loop-name.name-index in
    let placed =
    c.in_ok-place.ensures.ok (tests ++ map test (take i names)) (c.loop-name.invariant tests h) in
    let more = ap (λ t. (tests ++ map test (take i names)) ++ t ∷ [])
    (c.in_ok-test_named.ensures ∙ ap test c.as_str.ensures.value)
    ∙ append_assoc tests (map test (take i names)) (test name ∷ [])
    ∙ ap (λ ts. tests ++ ts) (sym (map-append test (take i names) (name ∷ []))
    ∙ ap (map test) (sym (take_more names i name c.loop-name-test.true c.name-item.is))) in
    subst (λ ts. HasPlanned c.args.info.now ts c.place.new.self) more placed

pub returns : goal.returns
returns c = record {
  ok =
      λ tests h. subst (λ ns.
      HasPlanned c.args.info.now (tests ++ map (test_of c.args.binary.now) ns) c.loop-name.self)
      (take_all c.loop-name.name-index c.args.names.now c.loop-name-test.false)
      (c.loop-name.invariant tests h);
}
