use Rattle.std.proofs.Common.{◌≡◌, ◌∙◌, ◌+ℤ◌, add-one, arith, ap, get_or, of_z, sym, take}
use Rattle.std.proofs.Common.{take-suc, to_z}
use Rattle.std.proofs.lemmas.Int.{to_z-of_z}
use Rattle.std.proofs.lemmas.List.{take_all}
use Rattle.std.specs.Int.{w128}
use Rattle.rec_view.proofs.instants.Instants.time_of.Goals as goal
use Rattle.rec_view.proofs.InstantsTold.{high_more, low_more, sum_fits, time_more}
use Rattle.rec_view.specs.declared.shown_gaps.Slice.{Slice}
use Rattle.rec_view.specs.Instants.{time_of_slices}
use Rattle.rec_view.specs.ShownGaps.{pairs}

pub overflow_add-time : goal.overflow_add-time
overflow_add-time c =
    let many = c.well_formed.1.0.1 in
    let test = c.loop-slice-test.true in
    let time = to_z w128 c.loop-slice.time-bits in
    let more = c.lasting-time.result in
    let old = c.loop-slice.invariant in
    let lasts = c.lasting-time.ensures in
    let whole : to_z w128 (of_z w128 more) ≡ more = grind (arith, to_z-of_z) in
    rw whole
    (sum_fits c.loop-slice.slice-index time more (omega (arith, many, test)) old.low old.high
    lasts.low lasts.high)

pub loop-slice-preserved : goal.loop-slice-preserved
loop-slice-preserved c =
    let many = c.well_formed.1.0.1 in
    let test = c.loop-slice-test.true in
    let i = c.loop-slice.slice-index in
    let time = to_z w128 c.loop-slice.time-bits in
    let more = c.lasting-time.result in
    let slices = c.args.slices.now in
    let none : Slice = record { from = 0; to = 0 } in
    let old = c.loop-slice.invariant in
    let lasts = c.lasting-time.ensures in
    let whole : to_z w128 (of_z w128 more) ≡ more = grind (arith, to_z-of_z) in
    let sum : to_z w128 (of_z w128 (time +ℤ more)) ≡ time +ℤ more =
    to_z-of_z w128 (time +ℤ more)
    (sum_fits i time more (omega (arith, many, test)) old.low old.high lasts.low lasts.high) in
    rw (whole, sum) (record {
      time = λ history has.
          time_more history (take i slices) (get_or slices i none) time more
          (old.time history has) (lasts.is history has)
          ∙ ap (λ xs. time_of_slices history (pairs xs))
          (sym (ap (λ n. take n slices) (add-one i) ∙ take-suc slices i none test));
      low = low_more i time more old.low lasts.low;
      high = high_more i time more old.high lasts.high;
    })

pub returns : goal.returns
returns c = λ history has.
    c.loop-slice.invariant.time history has
    ∙ ap (λ xs. time_of_slices history (pairs xs))
    (take_all c.loop-slice.slice-index c.args.slices.now c.loop-slice-test.false)
