use Rattle.std.proofs.Common.{◌≡◌, ℕ, List, ◌∙◌, refl, subst, sym}
use Rattle.std.proofs.lemmas.Result.{on_ok_weaker}
use Rattle.serde_json.specs.Written.{compact_text}
use Rattle.rec_container.specs.Writing.{entry_named}
use Rattle.rec_store.proofs.recorder.RunRecorder.store_item.Goals as goal
use Rattle.rec_store.specs.Recording.{AddsEntry}

pub returns-clause-ok : goal.returns-clause-ok
returns-clause-ok g c =
    let old = c.args.self.now in
    let new = c.store_entry.new.self in
    let text : c.deref.result.now ≡ compact_text (g.T.Form.value_of c.args.item.now) =
    c.deref.ensures.value ∙ c.in_ok-text.ensures.text in
    on_ok_weaker c.store_entry.result (λ added. record {
      sound = sym c.is_failed.ensures.value ∙ c.if-is_failed.false;
      added = (
        new.store,
        subst (λ (t : List ℕ). AddsEntry g.S.Sink.taken g.S.Sink.faults old.store new.store
            (entry_named c.args.path.now t))
            text added,
        refl,
      );
      kept = c.store_entry.ensures.kept;
    }) c.store_entry.ensures.ok
