use Rattle.rec_json.proofs.text.JsonText.end_list.Goals as goal
use Rattle.rec_json.proofs.WriteLaws.{list_tokens}

pub returns : goal.returns
returns c = λ before ds is. rw (c.in_ok-close_array.ensures, is) (list_tokens before ds)
