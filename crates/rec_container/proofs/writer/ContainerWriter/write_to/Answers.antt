use Rattle.std.proofs.Common.{◌∷◌, [], ◌++◌, ◌<◌, ◌≤◌, length, get_or}
use Rattle.std.proofs.Common.{arith, ap, sym, subst, ◌∙◌, ◌+◌, append_assoc}
use Rattle.std.proofs.KnownBytes.{Appends-trans}
use Rattle.std.specs.Io.KnownBytes.{Appends}
use Rattle.std.specs.List.{flat_map}
use Rattle.rec_container.proofs.ContentsLeft.{entry_found, left, left_end}
use Rattle.rec_container.proofs.ContentsLeft.{left_parts, left_step, no_entry}
use Rattle.rec_container.proofs.Parts.{cause_at, cause_of_last, took_both}
use Rattle.rec_container.proofs.Parts.{took_first, took_part, took_second}
use Rattle.rec_container.proofs.Results.{err_then, ok_then, on_err}
use Rattle.rec_container.proofs.writer.ContainerWriter.write_to.Goals as goal
use Rattle.rec_container.specs.Container.{entry, magic}
use Rattle.rec_container.specs.Writing.{entry_named}

pub returns-in_err-write_magic-clause-fault : goal.returns-in_err-write_magic-clause-fault
returns-in_err-write_magic-clause-fault g c =
    on_err _ (took_first _ _ _ _ _ c.in_err-write_magic.ensures.fault
    (append_assoc magic (flat_map entry c.args.self.now.entries) (0 ∷ [])))

pub loop-i-init : goal.loop-i-init
loop-i-init g c = record {
  later = omega (arith, c.in_ok-write_magic.ensures.cause.later);
  done = magic;
  taken = c.in_ok-write_magic.ensures.ok;
  whole = sym (append_assoc magic (flat_map entry c.args.self.now.entries) (0 ∷ []));
}

pub returns-in_err-write_content-clause-fault : goal.returns-in_err-write_content-clause-fault
returns-in_err-write_content-clause-fault g c =
    let l = c.loop-i in
    let es = c.args.self.now.entries in
    let is = entry_found es l.i (entry_named c.entry.result.name.now c.entry.result.content.now)
    c.entry.ensures.found in
    let more : l.i < length es = omega (arith, c.loop-i-test.true, c.len-i-end.ensures) in
    let whole =
    left_parts (λ e. e) es l.i no_entry l.invariant.done (0 ∷ []) _ more l.invariant.whole in
    on_err _ (took_part _ _ _ _ _ _ _ l.invariant.taken c.in_err-write_content.ensures.fault
    (whole ∙ ap (λ e. l.invariant.done ++ (entry e ++ (left (λ e. e) es (l.i + 1) ++ 0 ∷ []))) is))

pub loop-i-preserved : goal.loop-i-preserved
loop-i-preserved g c =
    let l = c.loop-i in
    let es = c.args.self.now.entries in
    let is = entry_found es l.i (entry_named c.entry.result.name.now c.entry.result.content.now)
    c.entry.ensures.found in
    let more : l.i < length es = omega (arith, c.loop-i-test.true, c.len-i-end.ensures) in
    record {
      later = omega (arith, l.invariant.later, c.in_ok-write_content.ensures.cause.later);
      done = l.invariant.done ++ entry (get_or es l.i no_entry);
      taken =
          Appends-trans _ _ _ _ _ l.invariant.taken (subst
          (λ e. Appends (g.T.Sink.taken l.sink) (g.T.Sink.taken c.write_content.new.sink) (entry e))
          (sym is) c.in_ok-write_content.ensures.ok);
      whole = left_step (λ e. e) es l.i no_entry l.invariant.done (0 ∷ []) _ more l.invariant.whole;
    }

pub returns-clause-ok : goal.returns-clause-ok
returns-clause-ok g c =
    let l = c.loop-i in
    let none : length c.args.self.now.entries ≤ l.i =
    omega (arith, c.loop-i-test.false, c.len-i-end.ensures) in
    let whole = left_end (λ e. e) c.args.self.now.entries l.i l.invariant.done (0 ∷ [])
    _ none l.invariant.whole in
    ok_then c.write_all.result (λ taken. took_both _ _ _ _ _ _ l.invariant.taken taken whole)
    c.write_all.ensures.ok

pub returns-clause-fault : goal.returns-clause-fault
returns-clause-fault g c =
    let l = c.loop-i in
    let none : length c.args.self.now.entries ≤ l.i =
    omega (arith, c.loop-i-test.false, c.len-i-end.ensures) in
    let whole = left_end (λ e. e) c.args.self.now.entries l.i l.invariant.done (0 ∷ [])
    _ none l.invariant.whole in
    err_then c.write_all.result (λ part. took_second _ _ _ _ _ _ l.invariant.taken part whole)
    c.write_all.ensures.fault

pub returns-in_err-write_content-clause-cause : goal.returns-in_err-write_content-clause-cause
returns-in_err-write_content-clause-cause g c =
    let h = c.in_err-write_content.ensures.cause in
    cause_at _ _ _ _ c.loop-i.invariant.later h.later h.failed

pub returns-clause-cause : goal.returns-clause-cause
returns-clause-cause g c =
    cause_of_last _ _ _ c.write_all.result c.loop-i.invariant.later c.write_all.ensures.cause
