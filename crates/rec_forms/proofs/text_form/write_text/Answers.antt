use Rattle.rec_forms.proofs.ReadBack.{written_back}
use Rattle.rec_forms.proofs.text_form.write_text.Goals as goal

pub returns-clause-reads_back : goal.returns-clause-reads_back
returns-clause-reads_back g c =
    let item = c.args.item.now in
    let write = c.in_ok-write.ensures in
    let writable = g.met.T.Form.writable item write.known in
    rw (written_back _ c.new-text.ensures write.written c.into_bytes.ensures.compact writable
    g.met.T.Form.shallow)
    (g.met.T.Form.reads_back item write.known)
