use Rattle.std.proofs.Common.{◌++◌, [], get_or, arith, ap, sym, subst, append-nil, ◌∙◌, refl}
use Rattle.std.proofs.KnownBytes.{Appends-trans}
use Rattle.std.specs.Io.KnownBytes.{Appends}
use Rattle.rec_container.proofs.ContentsLeft.{all_more, left, left_all, left_end}
use Rattle.rec_container.proofs.ContentsLeft.{left_parts, left_step, nothing}
use Rattle.rec_container.proofs.named_contents.write_contents.Goals as goal
use Rattle.rec_container.proofs.Parts.{cause_at, took_first, took_part}
use Rattle.rec_container.proofs.Results.{on_err}
use Rattle.rec_container.specs.Container.{entry, magic}
use Rattle.rec_container.specs.NamedContents.{begun, entry_of}

pub loop-content-init : goal.loop-content-init
loop-content-init g c = record {
  names = c.requires.names;
  later = omega (arith, c.in_ok-write_magic.ensures.cause.later);
  done = magic;
  taken = c.in_ok-write_magic.ensures.ok;
  whole =
      ap (λ l. magic ++ l)
      (append-nil (left entry_of c.args.contents.now 0) ∙ left_all entry_of c.args.contents.now);
}

pub returns-in_err-write_content-clause-fault : goal.returns-in_err-write_content-clause-fault
returns-in_err-write_content-clause-fault g c =
    let l = c.loop-content in
    let whole = left_parts entry_of c.args.contents.now l.content-index nothing l.invariant.done []
    _ c.loop-content-test.true l.invariant.whole in
    on_err _ (took_part _ _ _ _ _ _ _ l.invariant.taken c.in_err-write_content.ensures.fault whole)

pub loop-content-preserved : goal.loop-content-preserved
loop-content-preserved g c =
    let l = c.loop-content in
    record {
      names =
          (all_more c.args.contents.now l.content-index nothing c.loop-content-test.true
          l.invariant.names).1;
      later = omega (arith, l.invariant.later, c.in_ok-write_content.ensures.cause.later);
      done =
          l.invariant.done ++ entry (entry_of (get_or c.args.contents.now l.content-index nothing));
      taken = Appends-trans _ _ _ _ _ l.invariant.taken c.in_ok-write_content.ensures.ok;
      whole =
          left_step entry_of c.args.contents.now l.content-index nothing l.invariant.done [] _
          c.loop-content-test.true l.invariant.whole;
    }

pub returns-clause-ok : goal.returns-clause-ok
returns-clause-ok g c =
    let l = c.loop-content in
    subst (Appends (g.K.Sink.taken c.args.sink.now) (g.K.Sink.taken l.sink))
    (sym (left_end entry_of c.args.contents.now l.content-index l.invariant.done [] (begun
    c.args.contents.now) c.loop-content-test.false l.invariant.whole ∙ append-nil l.invariant.done))
    l.invariant.taken

pub returns-in_err-write_magic-clause-fault : goal.returns-in_err-write_magic-clause-fault
returns-in_err-write_magic-clause-fault g c =
    on_err _ (took_first _ _ _ _ _ c.in_err-write_magic.ensures.fault refl)

pub returns-in_err-write_content-clause-cause : goal.returns-in_err-write_content-clause-cause
returns-in_err-write_content-clause-cause g c =
    let h = c.in_err-write_content.ensures.cause in
    cause_at _ _ _ _ c.loop-content.invariant.later h.later h.failed
