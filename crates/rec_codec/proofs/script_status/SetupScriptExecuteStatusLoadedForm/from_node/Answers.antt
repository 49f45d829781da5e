use Rattle.std.proofs.Common.{refl}
use Rattle.rec_codec.proofs.script_status.SetupScriptExecuteStatusLoadedForm.from_node.Goals as goal
use Rattle.rec_codec.specs.ScriptStatus.{script_status_form}

pub returns : goal.returns
unfolding script_status_form
returns g c = record {
  read = rw (
    ← c.in-Some.ensures,
    c.in-Ok-required_loaded.ensures,
    c.in-Ok.ensures.3,
    c.in-Ok.ensures.0,
    c.in-Ok.ensures.1,
    c.in-Ok.ensures.2,
    c.in_ok-env_map.ensures.0,
    c.in_ok-env_map.ensures.1,
  ) refl;
}
