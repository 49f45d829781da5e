use Rattle.std.proofs.Common.{◌∙◌, ◌++◌, [], ◌∷◌, ap, sym, subst, refl, true, string_bytes}
use Rattle.std.specs.Io.KnownBytes.{Appends}
use Rattle.rec_container.proofs.Entries.{IsSound-one_more, one_more}
use Rattle.rec_container.proofs.writer.ContainerWriter.put.Goals as goal
use Rattle.rec_container.specs.Container.{AreFrom, Entry, addition, content_of}
use Rattle.rec_container.specs.declared.errors.ContainerWriteError.TheVariants.{SinkFault}
use Rattle.rec_container.specs.Taking.{TookPart}
use Rattle.rec_container.specs.Writing.{IsSound, RefusesLate, Writing, entries_of, entry_named}

pub invariant_of-self : goal.invariant_of-self
invariant_of-self g c =
    subst (λ l. IsSound (entries_of l) c.self.inside.compressed c.self.inside.uncompressed)
    (sym c.prepare.ensures.kept) c.self.invariant

pub returns-clause-entries : goal.returns-clause-entries
returns-clause-entries g c =
    one_more c.self.inside.entries.entries c.prepare.new.entries.entries
    c.append.new.entries.entries _ _ c.prepare.ensures.kept c.in-Ok.ensures.entry
    c.in-Ok-append.ensures.entries
    ∙ ap (λ (w : Writing _). w.entries ++ entry_named c.args.name.now c.args.bytes.now ∷ [])
    c.self.view_is

pub returns-clause-taken : goal.returns-clause-taken
returns-clause-taken g c =
    let e = entry_named c.args.name.now c.args.bytes.now in
    let now = g.K.Sink.taken c.append.new.sink in
    subst (λ (w : Writing _). Appends (g.K.Sink.taken w.sink) now (addition w.entries e))
    c.self.view_is
    (subst (Appends (g.K.Sink.taken c.self.inside.sink) now) c.in-Ok.ensures.bytes
    c.in-Ok-append.ensures.ok)

pub invariant_of-self-2 : goal.invariant_of-self-2
invariant_of-self-2 g c =
    IsSound-one_more c.args.self.now.entries c.self.inside.entries.entries
    c.prepare.new.entries.entries c.append.new.entries.entries _ c.args.name.now c.args.bytes.now
    c.self.inside.compressed c.self.inside.uncompressed
    c.args.compressed (ap (λ (w : Writing _). w.entries) c.self.view_is)
    c.self.invariant c.requires.some c.requires.length c.utf8.name c.requires.absent c.requires.size
    c.ranges.compressed.fits
    c.prepare.ensures.kept c.in-Ok.ensures.entry c.in-Ok-append.ensures.entries

pub returns-clause-spelled : goal.returns-clause-spelled
returns-clause-spelled g c =
    (IsSound-one_more c.args.self.now.entries c.self.inside.entries.entries
    c.prepare.new.entries.entries c.append.new.entries.entries _ c.args.name.now c.args.bytes.now
    c.self.inside.compressed c.self.inside.uncompressed
    c.args.compressed (ap (λ (w : Writing _). w.entries) c.self.view_is)
    c.self.invariant c.requires.some c.requires.length c.utf8.name c.requires.absent c.requires.size
    c.ranges.compressed.fits
    c.prepare.ensures.kept c.in-Ok.ensures.entry c.in-Ok-append.ensures.entries).entries

pub returns-in_default-clause-late : goal.returns-in_default-clause-late
returns-in_default-clause-late g c = ap (λ ps. record {
  entries = entries_of ps;
  sink = c.self.inside.sink;
  failed = c.self.inside.failed;
}) c.prepare.ensures.kept ∙ c.self.view_is

pub invariant_of-self-in_default-append : goal.invariant_of-self-in_default-append
invariant_of-self-in_default-append g c =
    subst (λ l. IsSound (entries_of l) c.self.inside.compressed c.self.inside.uncompressed)
    (sym (c.in_default-append.ensures.kept ∙ c.in-Ok.ensures.kept)) c.self.invariant

pub returns-in_default-append-clause-late : goal.returns-in_default-append-clause-late
returns-in_default-append-clause-late g c =
    let now = c.append.new in
    let h = c.in_default-append.ensures in
    subst (λ (w : Writing _). RefusesLate g.K.Sink.taken g.K.Sink.faults w (record {
      entries = entries_of now.entries.entries;
      sink = now.sink;
      failed = true;
    }) c.args.name.now c.args.bytes.now SinkFault) c.self.view_is (
      h.cause.failed,
      refl,
      ap entries_of (h.kept ∙ c.in-Ok.ensures.kept),
      subst (TookPart (g.K.Sink.taken c.self.inside.sink) (g.K.Sink.taken now.sink))
          c.in-Ok.ensures.bytes h.fault,
    )

pub returns-in_default-append-clause-spelled : goal.returns-in_default-append-clause-spelled
returns-in_default-append-clause-spelled g c =
    subst (λ l. AreFrom [] (entries_of l))
    (sym (c.in_default-append.ensures.kept ∙ c.in-Ok.ensures.kept)) c.self.invariant.entries

pub append-requires-clause-absent : goal.append-requires-clause-absent
append-requires-clause-absent g c =
    ap (λ l. content_of (entries_of l) (string_bytes c.in-Ok.entry.name)) c.in-Ok.ensures.kept
    ∙ ap (λ (e : Entry). content_of (entries_of c.self.inside.entries.entries) e.name)
    c.in-Ok.ensures.entry
    ∙ ap (λ (w : Writing _). content_of w.entries c.args.name.now) c.self.view_is
    ∙ c.requires.absent
