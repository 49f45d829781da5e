use Rattle.std.proofs.Common.{None, ap, refl, ◌∙◌}
use Rattle.rec_spans.proofs.open_spans.OpenSpans.close_run.Goals as goal
use Rattle.rec_spans.proofs.OpenScripts.{noted-other}
use Rattle.rec_spans.proofs.OpenTests.{closed}
use Rattle.rec_spans.specs.declared.spans.Place.TheVariants as places
use Rattle.rec_spans.specs.declared.spans.SpanKey.TheVariants as keys
use Rattle.rec_spans.specs.Past.{without}

pub invariant_of-self : goal.invariant_of-self
invariant_of-self c =
    let spans = c.self.inside.spans.entries in
    let new = c.take.new.spans.entries in
    let tied = closed c.self.inside.slots.entries spans new keys.Run places.Run c.self.invariant.0
    refl c.take.ensures in (
      tied.0,
      noted-other c.self.inside.scripts.notes spans new places.Run None c.self.invariant.1
          (λ i. refl) c.take.ensures.1,
      c.self.invariant.2,
    )

pub returns : goal.returns
returns c =
    (closed c.self.inside.slots.entries c.self.inside.spans.entries c.take.new.spans.entries
    keys.Run places.Run c.self.invariant.0 refl c.take.ensures).1
    ∙ ap (without keys.Run) c.self.view_is
