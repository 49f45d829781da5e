use Rattle.std.proofs.Common.{◌≡◌, ◌∙◌, ap, string_bytes}
use Rattle.rec_format.proofs.SuiteMaps.{
  lookup-suites,
  suites_in-insert_entry,
  AreNamed-insert_entry,
}
use Rattle.rec_format.proofs.suites.RerunSuites.insert.Goals as goal
use Rattle.rec_format.specs.SuiteEntries.{suites_in}
use Rattle.rec_format.specs.Suites.{put_suite, suite_of}

pub invariant_of-self-2 : goal.invariant_of-self-2
invariant_of-self-2 c =
    let named : string_bytes c.in_ok-id.id ≡ c.args.suite.binary_id =
    c.in_ok-id.ensures.ok ∙ c.as_str.ensures.value in
    rw c.in_ok-insert.ensures.entries (AreNamed-insert_entry c.self.inside.inner.entries
    c.in_ok-id.id c.args.suite c.self.invariant named)

pub returns-clause-replaced : goal.returns-clause-replaced
returns-clause-replaced c =
    let named : string_bytes c.in_ok-id.id ≡ c.args.suite.binary_id =
    c.in_ok-id.ensures.ok ∙ c.as_str.ensures.value in
    c.in_ok-insert.ensures.old
    ∙ lookup-suites (string_bytes c.in_ok-id.id) c.self.inside.inner.entries c.self.invariant
    ∙ ap (λ id. suite_of id (suites_in c.self.inside.inner.entries)) named
    ∙ ap (suite_of c.args.suite.binary_id) c.self.view_is

pub returns-clause-put : goal.returns-clause-put
returns-clause-put c =
    let named : string_bytes c.in_ok-id.id ≡ c.args.suite.binary_id =
    c.in_ok-id.ensures.ok ∙ c.as_str.ensures.value in
    ap suites_in c.in_ok-insert.ensures.entries
    ∙ suites_in-insert_entry c.self.inside.inner.entries c.in_ok-id.id c.args.suite c.self.invariant
    named
    ∙ ap (put_suite c.args.suite) c.self.view_is
