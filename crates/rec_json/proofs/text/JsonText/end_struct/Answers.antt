use Rattle.rec_json.proofs.text.JsonText.end_struct.Goals as goal
use Rattle.rec_json.proofs.WriteLaws.{struct_tokens}

pub returns : goal.returns
returns c = λ before fs is. rw (c.in_ok-close_object.ensures, is) (struct_tokens before fs)
