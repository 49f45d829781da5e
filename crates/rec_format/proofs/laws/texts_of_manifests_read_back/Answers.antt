use Rattle.rec_format.proofs.laws.texts_of_manifests_read_back.Goals as goal
use Rattle.rec_format.proofs.TextLaws.{recorded_manifest_text}

pub returns : goal.returns
returns c = recorded_manifest_text
