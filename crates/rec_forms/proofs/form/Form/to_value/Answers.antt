use Rattle.std.proofs.Common.{◌≡◌, Some, ap, sym, ◌∙◌}
use Rattle.serde_json.specs.Read.{read}
use Rattle.rec_forms.proofs.form.Form.to_value.Goals as goal
use Rattle.rec_forms.proofs.ReadBack.{written_back}

pub value_of_text-requires : goal.value_of_text-requires
value_of_text-requires g c =
    let item = c.args.self.now in
    let write = c.in_ok-write.ensures in
    let writable = g.met.Self.Form.writable item write.known in
    let back = written_back _ c.new-text.ensures write.written c.into_text-text.ensures.compact
    writable g.met.Self.Form.shallow in
    let is : read c.deref.result.now ≡ Some (g.Self.Form.value_of item) =
    ap read c.deref.ensures ∙ back in
    λ none. let both = sym is ∙ none in cc both

pub returns-clause-value : goal.returns-clause-value
returns-clause-value g c =
    let item = c.args.self.now in
    let write = c.in_ok-write.ensures in
    let writable = g.met.Self.Form.writable item write.known in
    let back = written_back _ c.new-text.ensures write.written c.into_text-text.ensures.compact
    writable g.met.Self.Form.shallow in
    let is : read c.deref.result.now ≡ Some (g.Self.Form.value_of item) =
    ap read c.deref.ensures ∙ back in
    c.value_of_text.ensures _ is
