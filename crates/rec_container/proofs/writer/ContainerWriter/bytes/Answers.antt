use Rattle.std.proofs.Common.{ap, ◌∙◌, option_map}
use Rattle.std.proofs.lemmas.Option.{slice_get-map}
use Rattle.rec_container.proofs.writer.ContainerWriter.bytes.Goals as goal
use Rattle.rec_container.specs.Container.{Entry}

pub returns : goal.returns
returns g c =
    slice_get-map (λ (e : Entry). e.content) c.args.self.now.entries c.args.i
    ∙ ap (option_map (λ (e : Entry). e.content)) c.entry.ensures.found
