use Rattle.std.proofs.Common.{◌≡◌, ℕ, List, Option, Some, None, is_some, IsTrue, option_and_then}
use Rattle.std.proofs.Common.{◌∙◌, ap, refl, subst, sym, inl, inr, arith, if◌then◌else◌}
use Rattle.std.proofs.lemmas.Result.{err_from_is_err_and, on_ok_weaker}
use Rattle.std.proofs.lemmas.Str.{is_utf8-from_IsUtf8}
use Rattle.std.specs.Str.{is_utf8}
use Rattle.serde_json.specs.Data.{Data}
use Rattle.serde_json.specs.Read.{read}
use Rattle.serde_json.specs.Written.{compact_text}
use Rattle.rec_container.specs.Container.{Entry}
use Rattle.rec_forms.specs.Recording.{test_list_form, test_list_value}
use Rattle.rec_forms.specs.Recording.{record_opts_form, record_opts_value}
use Rattle.rec_forms.specs.TextForm.{bytes_form, text_form}
use Rattle.rec_store.proofs.Accepted.{entries_accepted}
use Rattle.rec_store.proofs.Counts.{counts_of_store, counts_same}
use Rattle.rec_store.proofs.EntrySpellings.{test_list_is, cargo_metadata_is, record_opts_is}
use Rattle.rec_store.proofs.Growing.{entries_stand, keeps_all, keeps_same}
use Rattle.rec_store.proofs.recorder.RunRecorder.write_meta.Goals as goal
use Rattle.rec_store.proofs.Refusals.{if_err_weaker}
use Rattle.rec_store.specs.declared.error.RunStoreError.{RunStoreError}
use Rattle.rec_store.specs.Entries.{three_entries}
use Rattle.rec_store.specs.Recording.{AddsEach, AddsUpTo}

-- three texts, where two of them are known
same_entries : (a b c metadata texts opts : List ℕ) → a ≡ texts → b ≡ metadata → c ≡ opts
    → three_entries a b c ≡ three_entries texts metadata opts
same_entries a b c metadata texts opts p q r =
    ap (λ t. three_entries t b c) p ∙ ap (λ m. three_entries texts m c) q
    ∙ ap (three_entries texts metadata) r

pub returns-clause-ok : goal.returns-clause-ok
returns-clause-ok g c =
    let is =
    same_entries c.deref.result.now c.as_bytes.result.now c.deref-2.result.now
    c.args.cargo_metadata_json.now (compact_text (test_list_value c.args.test_list.now))
    (compact_text (record_opts_value c.args.opts.now))
    (c.deref.ensures.value ∙ c.in_ok-test_list.ensures.text) c.as_bytes.ensures.value
    (c.deref-2.ensures.value ∙ c.in_ok-opts.ensures.text) in
    on_ok_weaker c.store_three.result (λ added. record {
      sound = sym c.is_failed.ensures.value ∙ c.if-is_failed.false;
      added =
          subst (AddsEach g.S.Sink.taken g.S.Sink.faults c.args.self.now.store
          c.store_three.new.self.store)
          is added;
      kept = c.store_three.ensures.kept;
    }) c.store_three.ensures.ok

pub returns-clause-err : goal.returns-clause-err
returns-clause-err g c =
    let is =
    same_entries c.deref.result.now c.as_bytes.result.now c.deref-2.result.now
    c.args.cargo_metadata_json.now (compact_text (test_list_value c.args.test_list.now))
    (compact_text (record_opts_value c.args.opts.now))
    (c.deref.ensures.value ∙ c.in_ok-test_list.ensures.text) c.as_bytes.ensures.value
    (c.deref-2.ensures.value ∙ c.in_ok-opts.ensures.text) in
    if_err_weaker c.store_three.result (λ (e : RunStoreError) refused.
    inr (
      sym c.is_failed.ensures.value ∙ c.if-is_failed.false,
      c.store_three.ensures.kept,
      subst (λ (es : List Entry). AddsUpTo g.S.Sink.taken g.S.Sink.faults c.args.self.now.store
          c.store_three.new.self.store es e)
          is refused,
    ))
    c.store_three.ensures.err

pub returns-clause-entries : goal.returns-clause-entries
returns-clause-entries g c =
    keeps_all g.S.Sink.taken g.S.Sink.faults c.args.self.now.store c.store_three.new.self.store
    (three_entries c.deref.result.now c.as_bytes.result.now c.deref-2.result.now)
    c.store_three.result c.store_three.ensures.ok c.store_three.ensures.err

pub returns-clause-later : goal.returns-clause-later
returns-clause-later g c =
    counts_of_store g.S.Sink.taken g.S.Sink.faults g.L.Sink.faults c.args.self.now
    c.store_three.new.self
    (three_entries c.deref.result.now c.as_bytes.result.now c.deref-2.result.now)
    c.store_three.result c.store_three.ensures.kept c.store_three.ensures.ok
    c.store_three.ensures.err

-- bytes that are a text that is read
some_read : {T : Type 0} (form : Data → Option T) (bytes : List ℕ) (x : T) → IsTrue (is_utf8 bytes)
    → text_form form bytes ≡ Some x → IsTrue (is_some (bytes_form form bytes))
some_read form bytes x utf8 h =
    ap (λ b. is_some (option_and_then form (if b then read bytes else None))) utf8 ∙ ap is_some h

pub returns-clause-accepted : goal.returns-clause-accepted
returns-clause-accepted g c =
    let list = c.in_ok-test_list.ensures in
    let opts = c.in_ok-opts.ensures in
    let list_read = subst (λ b. IsTrue (is_some (bytes_form test_list_form b)))
    (sym c.deref.ensures.value) (some_read test_list_form _ _ list.utf8 list.reads_back) in
    let utf8 = subst (λ b. IsTrue (is_utf8 b)) (sym c.as_bytes.ensures.value)
    (is_utf8-from_IsUtf8 c.args.cargo_metadata_json.now c.utf8.cargo_metadata_json) in
    let opts_read = subst (λ b. IsTrue (is_some (bytes_form record_opts_form b)))
    (sym c.deref-2.ensures.value) (some_read record_opts_form _ _ opts.utf8 opts.reads_back) in
    entries_accepted g.S.Sink.taken g.S.Sink.faults g.L.Sink.taken g.N.OutputNamer.number
    c.args.self.now c.store_three.new.self
    (three_entries c.deref.result.now c.as_bytes.result.now c.deref-2.result.now)
    c.store_three.result (c.is_failed.ensures.store c.if-is_failed.false)
    ((test_list_is, list_read), ((cargo_metadata_is, utf8), ((record_opts_is, opts_read), tt)))
    c.store_three.ensures.kept c.store_three.ensures.ok c.store_three.ensures.err

pub returns-clause-stands : goal.returns-clause-stands
returns-clause-stands g c =
    entries_stand g.S.Sink.taken g.S.Sink.faults c.args.self.now.store c.store_three.new.self.store
    (three_entries c.deref.result.now c.as_bytes.result.now c.deref-2.result.now)
    c.store_three.result (c.is_failed.ensures.store c.if-is_failed.false) c.store_three.ensures.ok

-- nothing was stored

pub returns-then-is_failed : goal.returns-then-is_failed
returns-then-is_failed g c = record {
  ok = tt;
  read = tt;
  err = inl (refl, sym c.is_failed.ensures.value ∙ c.if-is_failed.true, refl);
  entries = keeps_same c.args.self.now.store c.args.self.now.store refl;
  later = counts_same g.S.Sink.faults g.L.Sink.faults c.args.self.now c.args.self.now refl;
  accepted = λ _ h. h;
  stands = tt;
}

pub returns-in_err-test_list : goal.returns-in_err-test_list
returns-in_err-test_list g c =
    let p = err_from_is_err_and c.from_residual.result c.from_residual.ensures.1 in
    rw (p.1, p.2) (record {
      ok = tt;
      read = tt;
      err = inr (sym c.is_failed.ensures.value ∙ c.if-is_failed.false, refl, inl refl);
      entries = keeps_same c.args.self.now.store c.args.self.now.store refl;
      later = counts_same g.S.Sink.faults g.L.Sink.faults c.args.self.now c.args.self.now refl;
      accepted = λ _ h. h;
      stands = tt;
    })

pub returns-in_err-opts : goal.returns-in_err-opts
returns-in_err-opts g c =
    let p =
    err_from_is_err_and c.from_residual-in_err-opts.result c.from_residual-in_err-opts.ensures.1 in
    rw (p.1, p.2) (record {
      ok = tt;
      read = tt;
      err = inr (sym c.is_failed.ensures.value ∙ c.if-is_failed.false, refl, inl refl);
      entries = keeps_same c.args.self.now.store c.args.self.now.store refl;
      later = counts_same g.S.Sink.faults g.L.Sink.faults c.args.self.now c.args.self.now refl;
      accepted = λ _ h. h;
      stands = tt;
    })
