use Rattle.rec_forms.proofs.laws.well_formed_items_read_back.Goals as goal
use Rattle.rec_forms.proofs.ReadBack.{IsWritable-read_back}

pub returns : goal.returns
returns g c = λ x h.
    let back = IsWritable-read_back g.T.Form.levels (g.T.Form.value_of x)
    (g.met.T.Form.writable x h) g.met.T.Form.shallow in
    rw (back.1, back.0) (g.met.T.Form.reads_back x h)
