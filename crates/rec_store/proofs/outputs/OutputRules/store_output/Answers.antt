use Rattle.std.proofs.Common.{◌≡◌, ℕ, List, [], ◌∷◌, ◌==◌, length, nat_le}
use Rattle.std.proofs.Common.{if◌then◌else◌, false, ◌∙◌, sym, subst}
use Rattle.std.proofs.lemmas.Result.{err_from_is_err_and}
use Rattle.rec_container.specs.Container.{Entry}
use Rattle.rec_container.specs.Writing.{entry_named}
use Rattle.rec_events.specs.declared.output_names.OutputFileName.{OutputFileName}
use Rattle.rec_events.specs.declared.output_names.OutputKind.{OutputKind}
use Rattle.rec_events.specs.declared.outputs.ZipStoreOutput.TheVariants.{Full, Truncated}
use Rattle.rec_events.specs.declared.outputs.ZipStoreOutput.{ZipStoreOutput}
use Rattle.rec_store.proofs.outputs.OutputRules.store_output.Goals as goal
use Rattle.rec_store.specs.Cut.{cut}
use Rattle.rec_store.specs.EventOutputs.{output_entries, stored_as}
use Rattle.rec_store.specs.OutputPaths.{output_path}
use Rattle.rec_store.specs.Recording.{AddsEach}
use Rattle.rec_store.specs.Stopping.{Stops}

-- what was put is the entry of the output
module _ (number : List ℕ → ℕ) (m : ℕ) (kind : OutputKind) (b : List ℕ)
    (some : (length b == 0) ≡ false) where
  entries : (n : ℕ) (named_by content : List ℕ) → n ≡ number named_by → named_by ≡ cut b m
      → content ≡ cut b m
      → entry_named (output_path (record { number = n; kind = kind })) content ∷ []
      ≡ output_entries number m kind b
  entries n named_by content p q r = rw (p, q, r, some)

  form : (n : ℕ) (named_by : List ℕ) (o : ZipStoreOutput) → n ≡ number named_by → named_by ≡ cut b m
      → o ≡ (if nat_le (length b) m then Full (record { number = n; kind = kind })
      else Truncated (record { number = n; kind = kind }) (length b))
      → o ≡ stored_as number m kind b
  form n named_by o p q r = rw (r, p, q, some)

pub returns-in_err-put_output : goal.returns-in_err-put_output
returns-in_err-put_output g c =
    let p = err_from_is_err_and c.from_residual-in_err-put_output.result
    c.from_residual-in_err-put_output.ensures.1 in
    let e = c.in_err-put_output.field-0.0 in
    let number = g.N.OutputNamer.number c.args.self.now.namer.now in
    let list =
    entries
    number
    c.args.self.now.max_size
    c.args.kind
    c.args.bytes.now
    (sym c.if-is_empty.ensures)
    c.name.result
    c.as_bytes.result.now
    c.as_bytes-2.result.now
    c.name.ensures
    (c.as_bytes.ensures ∙ c.in_ok-cut.ensures.bytes)
    (c.as_bytes-2.ensures ∙ c.in_ok-cut.ensures.bytes) in
    let stops = subst (λ (f : OutputFileName). Stops g.S.Sink.taken g.S.Sink.faults c.args.store.now
    c.put_output.new.store (entry_named (output_path f) c.as_bytes-2.result.now ∷ []) e)
    c.new-file_name.ensures c.in_err-put_output.ensures in
    rw (p.1, p.2) (subst (λ (es : List Entry).
    Stops g.S.Sink.taken g.S.Sink.faults c.args.store.now c.put_output.new.store es e) list stops)

pub returns : goal.returns
returns g c =
    let number = g.N.OutputNamer.number c.args.self.now.namer.now in
    let kept = c.as_bytes.ensures ∙ c.in_ok-cut.ensures.bytes in
    let list =
    entries
    number
    c.args.self.now.max_size
    c.args.kind
    c.args.bytes.now
    (sym c.if-is_empty.ensures)
    c.name.result
    c.as_bytes.result.now
    c.as_bytes-2.result.now
    c.name.ensures
    kept
    (c.as_bytes-2.ensures ∙ c.in_ok-cut.ensures.bytes) in
    let max = c.args.self.now.max_size in
    let size = length c.args.bytes.now in
    let recorded = subst (λ (f : OutputFileName). c.recorded.result
    ≡ (if nat_le size max then Full f else Truncated f size))
    c.new-file_name.ensures c.recorded.ensures in
    let recorded_as = form number max c.args.kind c.args.bytes.now (sym c.if-is_empty.ensures)
    c.name.result c.as_bytes.result.now c.recorded.result c.name.ensures kept recorded in
    let added =
    subst (λ (f : OutputFileName). AddsEach g.S.Sink.taken g.S.Sink.faults c.args.store.now
    c.put_output.new.store (entry_named (output_path f) c.as_bytes-2.result.now ∷ []))
    c.new-file_name.ensures c.in_ok-put_output.ensures.1 in (
      recorded_as,
      subst (λ (es : List Entry).
          AddsEach g.S.Sink.taken g.S.Sink.faults c.args.store.now c.put_output.new.store es)
          list added,
      c.in_ok-put_output.ensures.2,
    )
