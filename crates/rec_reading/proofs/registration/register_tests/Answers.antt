use Rattle.std.proofs.Common.{◌≡◌, ◌∷◌, ◌||◌, refl, sym, ap, ◌∙◌, rules}
use Rattle.rec_events.specs.Pairs.{pairs}
use Rattle.rec_events.specs.Tests.{is_listed}
use Rattle.rec_replay.specs.Registration.{is_registered}
use Rattle.rec_reading.proofs.Registered.{suite-more}
use Rattle.rec_reading.proofs.registration.register_tests.Goals as goal

pub loop-binary-init : goal.loop-binary-init
loop-binary-init c = record {
  registered =
      λ t. ap (λ s. is_listed (record { suites = s }) t || is_registered c.args.context.now.tests t)
      (ap pairs c.into_iter-binary-iterator.ensures.into_iter_gives.0
      ∙ c.as_map-binary-items.ensures.pairs);
  list = refl;
}

pub loop-binary-preserved : goal.loop-binary-preserved
loop-binary-preserved c =
    let step : pairs c.loop-binary.binary-iterator
    ≡ (c.as_str.result.now, c.as_slice.result.now) ∷ pairs c.next.new.self =
    search rules in
    record {
      registered =
          λ t. suite-more _ _ _ _ _ (ap (λ s. is_listed (record { suites = s }) t || is_registered
          c.loop-binary.context.tests t) (sym step) ∙ c.loop-binary.invariant.registered t)
          (c.in_ok-register_suite.ensures.registered t);
      list = c.in_ok-register_suite.ensures.list ∙ c.loop-binary.invariant.list;
    }
