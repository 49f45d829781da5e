use Rattle.rec_json.proofs.text.JsonText.end_map.Goals as goal
use Rattle.rec_json.proofs.WriteLaws.{map_tokens}

pub returns : goal.returns
returns c =
    λ before fs ascend is. rw (c.in_ok-close_object.ensures, is) (map_tokens before fs ascend)
