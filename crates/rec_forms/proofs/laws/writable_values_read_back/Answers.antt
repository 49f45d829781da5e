use Rattle.rec_forms.proofs.laws.writable_values_read_back.Goals as goal
use Rattle.rec_forms.proofs.ReadBack.{IsWritable-read_back}

pub returns-clause-read : goal.returns-clause-read
returns-clause-read c = λ n d w deep. (IsWritable-read_back n d w deep).0

pub returns-clause-utf8 : goal.returns-clause-utf8
returns-clause-utf8 c = λ n d w deep. (IsWritable-read_back n d w deep).1
