use Rattle.std.proofs.Common.{◌≡◌, ap, subst, sym, ◌∙◌}
use Rattle.std.specs.Prelude.{[], ◌∷◌, Some, codes, option_map, string_bytes}
use Rattle.rec_events.specs.Results.{flaky_text}
use Rattle.rec_forms.specs.ObjectWriting.{Writes}
use Rattle.rec_forms.specs.Writable.{IfWritten}
use Rattle.rec_trace_events.proofs.error_args.with_flaky_error.Goals as goal
use Rattle.rec_trace_events.specs.Args.{error_value}

pub returns-in-Some : goal.returns-in-Some
returns-in-Some c =
    let message : Some c.as_str.result.now
    ≡ flaky_text c.args.flaky c.args.retry.now.attempt c.args.retry.now.total_attempts =
    ap Some c.as_str.ensures.value ∙ sym (ap (option_map string_bytes) c.in-Some.is)
    ∙ c.in_ok-message.ensures in
    subst
    (λ o. Writes c.args.object c.args.text.now c.with_error.result c.with_error.new.text
    ((codes "error", option_map (error_value (codes "flaky failure")) o) ∷ [])
    (IfWritten 7 (option_map (error_value (codes "flaky failure")) o)))
    message c.with_error.ensures
