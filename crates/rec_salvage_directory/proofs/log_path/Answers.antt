use Rattle.std.proofs.Common.{◌∙◌}
use Rattle.rec_salvage_directory.proofs.log_path.Goals as goal

pub returns : goal.returns
returns c = c.new.ensures ∙ c.in_ok-join.ensures
