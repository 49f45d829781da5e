use Rattle.std.proofs.Common.{◌≡◌, [], ap, subst, ◌∙◌}
use Rattle.rec_spans.proofs.commits.open_attempt.Goals as goal
use Rattle.rec_spans.proofs.OpenTests.{put-without}
use Rattle.rec_spans.specs.declared.spans.SpanKey.TheVariants.{Test}
use Rattle.rec_spans.specs.Past.{of_key, without}

pub returns-in-Err-clause-err_spans : goal.returns-in-Err-clause-err_spans
returns-in-Err-clause-err_spans c =
    let key = Test c.args.test.now in
    let spans = c.args.open_spans.now in
    c.close_test.ensures
    ∙ ap (without key) c.in_ok-open_test.ensures.ok
    ∙ put-without key c.args.span spans c.requires.key
    (subst (λ k. of_key k spans ≡ []) c.requires.key c.requires.key_free)
