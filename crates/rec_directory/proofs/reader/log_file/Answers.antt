use Rattle.std.proofs.Common.{◌∙◌}
use Rattle.rec_directory.proofs.reader.log_file.Goals as goal

pub returns : goal.returns
returns c = c.new.ensures ∙ c.in_ok-join.ensures
