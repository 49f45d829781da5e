use Rattle.rec_faults.proofs.bundle.unsupported_bundle.Goals as goal
use Rattle.rec_faults.proofs.Lines.{◌▸◌}

pub returns : goal.returns
returns g c = rw (
  ← c.number-found_minor.ensures,
  ← c.number-supported_minor.ensures,
  ← c.number.ensures,
  ← c.number-2.ensures,
)
    (c.version.ensures ▸ c.version-2.ensures ▸ c.name-line.ensures ▸ c.write_bundle_version.ensures)
