use Rattle.std.proofs.Common.{◌∙◌, ap, sym, arith, Some}
use Rattle.std.specs.Str.{bytes_eq}
use Rattle.rec_container.proofs.Entries.{found_some, found_none, refusal_none, refusal_long}
use Rattle.rec_container.proofs.Entries.{refusal_there, some_name, same_bytes}
use Rattle.rec_container.proofs.Lengths.{length-spell-push}
use Rattle.rec_container.proofs.writer.judge.Goals as goal
use Rattle.rec_container.specs.Writing.{entries_of, entry_named}

pub returns-in-None-grown-clause-refused : goal.returns-in-None-grown-clause-refused
returns-in-None-grown-clause-refused c =
    refusal_long c.args.failed (entries_of c.args.entries.now.entries) c.args.name.now
    c.args.bytes.now c.args.compressed c.if-failed.false (some_name _ c.if-is_empty.ensures)
    (omega arith) (found_none c.args.entries.now.entries c.args.name.now c.in-None.ensures.value)
    c.requires c.in-None-grown.ensures

pub returns-in-Some-grown-clause-accepted : goal.returns-in-Some-grown-clause-accepted
returns-in-Some-grown-clause-accepted c =
    let name = c.args.name.now in
    let absent = found_none c.args.entries.now.entries c.args.name.now c.in-None.ensures.value in
    let fits = c.in-Some-grown.ensures in (
      refusal_none c.args.failed (entries_of c.args.entries.now.entries)
          c.args.name.now c.args.bytes.now c.args.compressed c.if-failed.false
          (some_name _ c.if-is_empty.ensures) (omega arith) absent c.requires fits.0,
      c.if-failed.false,
      some_name _ c.if-is_empty.ensures,
      omega arith,
      absent,
      omega (
        arith,
        fits.1,
        c.requires,
        length-spell-push (entries_of c.args.entries.now.entries)
            (entry_named name c.args.bytes.now),
      ),
    )

pub returns-then-eq-clause-accepted : goal.returns-then-eq-clause-accepted
returns-then-eq-clause-accepted c =
    let there = found_some c.args.entries.now.entries c.args.name.now c.in-Some.held.now
    c.in-Some.ensures.value in
    let same = same_bytes _ _ c.if-eq.ensures in (
      refusal_there c.args.failed (entries_of c.args.entries.now.entries)
          c.args.name.now c.args.bytes.now c.in-Some.held.now.items _ c.if-failed.false
          (some_name _ c.if-is_empty.ensures) (omega arith) there
          (c.if-eq.ensures ∙ ap (λ l. bytes_eq l c.args.bytes.now) c.as_slice.ensures.value),
      there ∙ ap Some (sym c.as_slice.ensures.value ∙ same),
    )

pub returns-else-eq-clause-refused : goal.returns-else-eq-clause-refused
returns-else-eq-clause-refused c =
    let there = found_some c.args.entries.now.entries c.args.name.now c.in-Some.held.now
    c.in-Some.ensures.value in
    refusal_there c.args.failed (entries_of c.args.entries.now.entries)
    c.args.name.now c.args.bytes.now c.in-Some.held.now.items _ c.if-failed.false
    (some_name _ c.if-is_empty.ensures) (omega arith) there
    (c.if-eq.ensures ∙ ap (λ l. bytes_eq l c.args.bytes.now) c.as_slice.ensures.value)
