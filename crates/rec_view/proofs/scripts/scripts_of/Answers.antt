use Rattle.std.proofs.Common.{◌-◌, ◌∙◌, ap, arith, get_or, length, refl, sym}
use Rattle.std.proofs.lemmas.Option.{slice_get-get_or}
use Rattle.rec_view.proofs.scripts.scripts_of.Goals as goal
use Rattle.rec_view.proofs.ScriptsWalked.{all_walked, none_walked, one_walked, written_over}

pub loop-at-init : goal.loop-at-init
loop-at-init g c =
    let events = c.args.events.now in
    record {
      within = omega arith;
      known = none_walked events (length events) c.new-scripts.result refl c.new-scripts.ensures;
    }

pub loop-at-preserved : goal.loop-at-preserved
loop-at-preserved g c =
    let events = c.args.events.now in
    let at = c.loop-at.at in
    let test = c.loop-at-test.true in
    let within = c.loop-at.invariant.within in
    record {
      within = omega (arith, within);
      known = one_walked events at (at - 1) (get_or events (at - 1) c.index-events-at.result)
          c.act_of-act.result c.loop-at.scripts c.take.new.self (omega (arith, test))
          (slice_get-get_or events (at - 1) c.index-events-at.result (omega (arith, test, within)))
          c.act_of-act.ensures c.loop-at.invariant.known c.in_ok-take.ensures.ok;
    }

pub returns : goal.returns
returns g c =
    let scripts = c.loop-at.scripts in
    let end = c.loop-at-test.false in
    let len = c.as_mut_slice.ensures.len in
    let value = c.as_mut_slice.ensures.value in
    let many = c.reverse.ensures.len in
    written_over scripts.views.len c.reverse.new.self scripts.views.items (many ∙ len)
    (sym (ap length value) ∙ len)
    ∙ all_walked c.args.events.now c.loop-at.at scripts c.as_mut_slice.result.now
    c.reverse.new.self (omega (arith, end)) c.loop-at.invariant.known value
    c.reverse.ensures.after
