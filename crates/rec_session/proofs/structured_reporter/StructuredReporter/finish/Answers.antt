use Rattle.rec_session.proofs.structured_reporter.StructuredReporter.finish.Goals as goal

pub returns-in-Some : goal.returns-in-Some
returns-in-Some g c = rw c.in-Some.is (c.finish.result, (c.finish.ensures, c.recorded_end.ensures))
