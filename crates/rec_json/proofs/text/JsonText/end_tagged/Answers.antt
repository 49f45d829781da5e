use Rattle.rec_json.proofs.text.JsonText.end_tagged.Goals as goal
use Rattle.rec_json.proofs.WriteLaws.{tagged_tokens}

pub returns : goal.returns
returns c = λ before tag d is. rw (c.in_ok-close_object.ensures, is) (tagged_tokens before tag d)
