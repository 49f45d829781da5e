use Rattle.rec_container_tests.proofs.lookups.finds_among_sixteen.Given as goal

abbrev pub ghosts-has_each : goal.ghosts-has_each
ghosts-has_each g a = record { name = a.blank.name; parts = a.blank.parts }
