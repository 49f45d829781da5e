use Rattle.rec_forms.proofs.Writing.{◌▸◌, all_written}
use Rattle.rec_view_json.proofs.view.write_object.Goals as goal
use Rattle.rec_view_json.specs.Views.{view_value}

-- what the calls wrote, one after the other
pub returns : goal.returns
unfolding view_value
returns g c =
    let all = c.in_ok-object.ensures ▸ c.in_ok-object-2.ensures ▸ c.in_ok-object-3.ensures ▸
    c.in_ok-object-4.ensures ▸ c.in_ok-object-5.ensures ▸ c.in_ok-object-6.ensures ▸
    c.in_ok-object-7.ensures in
    c.end.ensures.written _ _ (λ ok. all_written c.begin-object.ensures all ok)
