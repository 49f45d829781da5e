use Rattle.std.proofs.Common.{◌≡◌, ◌+◌, length}
use Rattle.rec_words.proofs.options.read_options.Given as goal
use Rattle.rec_words.specs.Options.{no_values, options_at, values_from}
use Rattle.rec_words.specs.Words.{texts}

abbrev pub invariant-options : goal.invariant-options
invariant-options l = record {
  same : values_from l.command l.values l.at (texts l.rest)
      ≡ values_from l.command no_values (options_at l.command) (texts l.fn.words);
  place : l.at + length l.rest ≡ length l.fn.words + options_at l.command;
}

abbrev pub decreases-options : goal.decreases-options
decreases-options l = length l.rest
