use Rattle.std.proofs.Common.{◌≡◌, Some, ap, sym, ◌∙◌, arith}
use Rattle.serde_json.specs.Read.{read}
use Rattle.rec_forms.proofs.ReadBack.{IsWritable-read_back}
use Rattle.rec_trace.proofs.other_data.other_data.Goals as goal
use Rattle.rec_trace.specs.Texts.{other_data}

pub value_of_text-requires : goal.value_of_text-requires
value_of_text-requires c =
    let other = other_data c.args.version.now c.args.last_run.now in
    let back = IsWritable-read_back 8 other c.in_ok-text.ensures.known (omega arith) in
    let is : read c.deref.result.now ≡ Some other =
    ap read (c.deref.ensures ∙ c.in_ok-text.ensures.text) ∙ back.0 in
    λ none. let both = sym is ∙ none in cc both

pub returns : goal.returns
returns c =
    let other = other_data c.args.version.now c.args.last_run.now in
    let back = IsWritable-read_back 8 other c.in_ok-text.ensures.known (omega arith) in
    let is : read c.deref.result.now ≡ Some other =
    ap read (c.deref.ensures ∙ c.in_ok-text.ensures.text) ∙ back.0 in
    c.value_of_text.ensures other is
