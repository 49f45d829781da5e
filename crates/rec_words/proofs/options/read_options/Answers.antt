use Rattle.std.proofs.Common.{arith, sym, ◌∙◌}
use Rattle.rec_words.proofs.options.read_options.Goals as goal
use Rattle.rec_words.proofs.OptionSteps.{values_from-read}

pub options-preserved : goal.options-preserved
options-preserved c = record {
  same =
      values_from-read c.args.command c.options.values c.in-Some-with.more c.options.at
      c.in_ok-name.name c.options.rest.now c.in-Some.others.now c.in-Some-split_first.after.now
      c.in-Some.word.now
      c.in-Some-split_first.value.now c.as_str.result.now c.as_str-in-Some.result.now
      c.in-Some.ensures.cases.0 c.in-Some-split_first.ensures.cases.0 c.as_str.ensures.value
      c.as_str-in-Some.ensures.value
      (sym c.new_option.ensures ∙ c.in_ok-name.was) (sym c.with.ensures ∙ c.in-Some-with.is)
      ∙ c.options.invariant.same;
  place = omega (
    arith,
    c.in-Some.ensures.cases.1,
    c.in-Some-split_first.ensures.cases.1,
    c.options.invariant.place,
  );
}
