use Rattle.std.proofs.Common.{arith, to_z, of_z, ◌≡◌, refl}
use mir.Syntax.{w128}
use Rattle.std.proofs.lemmas.Int.{to_z-of_z}
use Rattle.std.proofs.lemmas.Result.{on_ok_weaker}
use Rattle.rec_slots.proofs.PassedTime.{on_ok_two, timed-neither, timed-start, timed-end}
use Rattle.rec_slots.proofs.times.Times.take.Goals as goal

pub returns-in-Ends : goal.returns-in-Ends
returns-in-Ends c = record {
  ok = λ events n is goes_on has.
      let whole : to_z w128 (of_z w128 c.args.beat.at) ≡ c.args.beat.at =
      grind (arith, to_z-of_z) in
      timed-end events n c.args.beat c.pass.new.self _ c.in-Ends.slot is c.in-Ends.is
      (c.pass.ensures events n is goes_on has) whole refl
      c.end.ensures.clocks c.end.ensures.times c.end.ensures.totals c.end.ensures.open
      c.end.ensures.known;
}

pub returns-in_default : goal.returns-in_default
returns-in_default c = record {
  ok = λ events n is goes_on has.
      let whole : to_z w128 (of_z w128 c.args.beat.at) ≡ c.args.beat.at =
      grind (arith, to_z-of_z) in
      timed-neither events n c.args.beat c.pass.new.self _ c.in_default.not-Starts
      c.in_default.not-Ends is (c.pass.ensures events n is goes_on has) whole refl refl;
}

pub returns-in-Starts : goal.returns-in-Starts
returns-in-Starts c =
    let whole : to_z w128 (of_z w128 c.args.beat.at) ≡ c.args.beat.at = grind (arith, to_z-of_z) in
    let e = c.begin.ensures in
    record {
      ok = on_ok_weaker c.begin.result (λ known_open events n is goes_on has.
          timed-start events n c.args.beat c.pass.new.self _ c.in-Starts.slot is c.in-Starts.is
          (c.pass.ensures events n is goes_on has) whole refl
          e.clocks e.times e.totals known_open.0 known_open.1)
          (on_ok_two _ _ c.begin.result e.open e.known);
    }
