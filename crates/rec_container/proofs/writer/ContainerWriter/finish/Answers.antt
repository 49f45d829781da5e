use Rattle.std.proofs.Common.{◌≡◌, Bool, false, List, Result, Ok, Err}
use Rattle.std.proofs.Common.{IfOk, IfErr, OnOk, sym, subst, ◌∙◌}
use Rattle.std.specs.Io.KnownBytes.{Appends}
use Rattle.rec_container.proofs.Results.{ok_then}
use Rattle.rec_container.proofs.Spelling.{Appends-ending}
use Rattle.rec_container.proofs.writer.ContainerWriter.finish.Goals as goal
use Rattle.rec_container.specs.Container.{Entry, ending}
use Rattle.rec_container.specs.declared.errors.ContainerSizes.{ContainerSizes}
use Rattle.rec_container.specs.Writing.{HasSizesOf, Unfinished, Writing}

-- what is known of the sizes that were handed on
ended : {E : Type 0} (P : Type 0) (r : Result ContainerSizes E) (failed is : Bool) (es : List Entry)
    (sizes : ContainerSizes)
    → IfOk r (λ s. (failed ≡ false) × (s ≡ sizes)) → failed ≡ is → HasSizesOf es sizes → OnOk r P
    → IfOk r (λ s. (is ≡ false) × HasSizesOf es s × P)
ended P (Ok s) failed is es sizes same e h p =
    (sym e ∙ same.0, subst (HasSizesOf es) (sym same.1) h, p)
ended P (Err x) failed is es sizes same e h p = tt

pub returns-clause-ok : goal.returns-clause-ok
returns-clause-ok g c =
    let es = c.args.self.entries in
    let r = c.write_end-result in
    ended _ r.result c.is_failed-failed.result c.args.self.failed es c.sizes-sizes.result
    r.ensures.ok c.is_failed-failed.ensures c.sizes-sizes.ensures.sizes
    (subst (λ k. OnOk r.result (Appends (g.K.Sink.taken k) (g.K.Sink.taken r.new.sink) (ending es)))
    c.into_sink-sink.ensures.sink (r.ensures.taken es (sym c.sizes-sizes.ensures.sizes.entries)))

pub returns-clause-refused : goal.returns-clause-refused
returns-clause-refused g c =
    let es = c.args.self.entries in
    let r = c.write_end-result in
    subst
    (λ (w : Writing _). IfErr r.result (Unfinished g.K.Sink.taken g.K.Sink.faults w r.new.sink))
    (λ i. record {
      entries = es;
      sink = c.into_sink-sink.ensures.sink i;
      failed = c.is_failed-failed.ensures i;
    })
    (r.ensures.refused es (sym c.sizes-sizes.ensures.sizes.entries))

pub returns-clause-whole : goal.returns-clause-whole
returns-clause-whole g c =
    let es = c.args.self.entries in
    let r = c.write_end-result in
    λ start so_far.
    ok_then r.result
    (Appends-ending start (g.K.Sink.taken c.args.self.sink) (g.K.Sink.taken r.new.sink) es so_far)
    (subst (λ k. OnOk r.result (Appends (g.K.Sink.taken k) (g.K.Sink.taken r.new.sink) (ending es)))
    c.into_sink-sink.ensures.sink (r.ensures.taken es (sym c.sizes-sizes.ensures.sizes.entries)))
