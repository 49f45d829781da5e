use Rattle.std.proofs.Common.{◌+◌, ◌-◌, ◌/◌, arith, ap, sym, ◌∙◌, nat_cmp}
use Rattle.std.proofs.lemmas.Option.{slice_get-get_or}
use Rattle.std.specs.Cmp.Lexicographic.{slice_cmp}
use Rattle.rec_container.proofs.Ascending.{after_all, before_it, found_at, none_between}
use Rattle.rec_container.proofs.Halving.{halve}
use Rattle.rec_container.proofs.lookup.find.Goals as goal

pub returns-in-Equal-clause-found : goal.returns-in-Equal-clause-found
returns-in-Equal-clause-found g c =
    let here = c.loop-from in
    let test = here.invariant.inside in
    found_at c.args.sorted.now c.args.name.now (here.from + (here.to - here.from) / 2)
    _ _ c.requires
    (slice_get-get_or c.args.sorted.now _ _ (let t = c.loop-from-test.true in omega arith))
    (ap (slice_cmp nat_cmp c.args.name.now) (sym c.as_bytes.ensures.value)
    ∙ sym c.in-Equal.ensures.order)

pub returns-in-Equal-clause-cost : goal.returns-in-Equal-clause-cost
returns-in-Equal-clause-cost g c =
    let here = c.loop-from in
    let test = c.loop-from-test.true in
    let step = c.in-Equal.ensures.step in
    let later = here.invariant.later in
    let h = halve _ _ (c.compare.new.steps - c.args.steps.now) _ 0 here.invariant.halved
    (omega arith) (omega arith) (omega arith) in
    h.cheap

pub loop-from-preserved-in-Less : goal.loop-from-preserved-in-Less
loop-from-preserved-in-Less g c =
    let here = c.loop-from in
    let test = c.loop-from-test.true in
    let step = c.in-Less.ensures.step in
    let later = here.invariant.later in
    let inside = here.invariant.inside in
    record {
      ordered = omega arith;
      inside = omega arith;
      later = omega arith;
      halved = halve _ _ _ _ _ here.invariant.halved (omega arith) (omega arith) (omega arith);
      between = record {
        before = here.invariant.between.before;
        after =
            before_it c.args.sorted.now c.args.name.now _ _
            (slice_get-get_or c.args.sorted.now _ _ (omega arith))
            (ap (slice_cmp nat_cmp c.args.name.now) (sym c.as_bytes.ensures.value)
            ∙ sym c.in-Less.ensures.order);
      };
    }

pub loop-from-preserved : goal.loop-from-preserved
loop-from-preserved g c =
    let here = c.loop-from in
    let test = c.loop-from-test.true in
    let step = c.in-Greater.ensures.step in
    let later = here.invariant.later in
    let inside = here.invariant.inside in
    record {
      ordered = omega arith;
      inside = here.invariant.inside;
      later = omega arith;
      halved = halve _ _ _ _ _ here.invariant.halved (omega arith) (omega arith) (omega arith);
      between = record {
        before =
            after_all c.args.sorted.now c.args.name.now _ _ c.requires
            (slice_get-get_or c.args.sorted.now _ _ (omega arith))
            (ap (slice_cmp nat_cmp c.args.name.now) (sym c.as_bytes.ensures.value)
            ∙ sym c.in-Greater.ensures.order);
        after = here.invariant.between.after;
      };
    }

pub returns-clause-found : goal.returns-clause-found
returns-clause-found g c =
    let here = c.loop-from in
    let ordered = here.invariant.ordered in
    let test = c.loop-from-test.false in
    none_between c.args.sorted.now c.args.name.now here.from here.to c.requires
    here.invariant.between (omega arith)

pub overflow_add-middle : goal.overflow_add-middle
overflow_add-middle g c = omega (arith, c.loop-from-test.true, c.loop-from.invariant.inside)

pub overflow_add-from : goal.overflow_add-from
overflow_add-from g c = omega (arith, c.loop-from-test.true, c.loop-from.invariant.inside)

pub bounds-sorted-middle : goal.bounds-sorted-middle
bounds-sorted-middle g c = omega (arith, c.loop-from-test.true, c.loop-from.invariant.inside)

pub loop-from-smaller-in-Less : goal.loop-from-smaller-in-Less
loop-from-smaller-in-Less g c = omega (arith, c.loop-from-test.true)

pub loop-from-smaller : goal.loop-from-smaller
loop-from-smaller g c = omega (arith, c.loop-from-test.true)

pub returns-clause-cost : goal.returns-clause-cost
returns-clause-cost g c = c.loop-from.invariant.halved.cheap
