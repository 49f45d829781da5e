use Rattle.std.proofs.Common.{refl, inl, inr}
use Rattle.std.proofs.lemmas.Result.{on_ok_weaker, err_from_is_err_and}
use Rattle.rec_store.proofs.recorder.RunRecorder.store_three.Goals as goal
use Rattle.rec_store.proofs.Refusals.{if_err_weaker}

pub returns-in_err-store_entry-2-clause-err : goal.returns-in_err-store_entry-2-clause-err
returns-in_err-store_entry-2-clause-err g c =
    let p = err_from_is_err_and c.from_residual-in_err-store_entry-2.result
    c.from_residual-in_err-store_entry-2.ensures.1 in
    rw (p.1, p.2) (inr (
      c.store_entry.new.self.store,
      c.in_ok-store_entry.ensures.ok,
      inl c.in_err-store_entry-2.ensures.err,
    ))

pub returns-clause-ok : goal.returns-clause-ok
returns-clause-ok g c =
    on_ok_weaker c.store_entry-3.result (λ added. (
      c.store_entry.new.self.store,
      c.in_ok-store_entry.ensures.ok,
      (
        c.store_entry-2.new.self.store,
        c.in_ok-store_entry-2.ensures.ok,
        (c.store_entry-3.new.self.store, added, refl),
      ),
    )) c.store_entry-3.ensures.ok

pub returns-clause-err : goal.returns-clause-err
returns-clause-err g c =
    if_err_weaker c.store_entry-3.result (λ e refused.
    inr (
      c.store_entry.new.self.store,
      c.in_ok-store_entry.ensures.ok,
      inr (c.store_entry-2.new.self.store, c.in_ok-store_entry-2.ensures.ok, inl refused),
    )) c.store_entry-3.ensures.err
