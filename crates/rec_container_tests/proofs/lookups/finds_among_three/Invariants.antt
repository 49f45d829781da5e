use Rattle.rec_container_tests.proofs.lookups.finds_among_three.Given as goal

abbrev pub ghosts-has_three : goal.ghosts-has_three
ghosts-has_three g a = record { name = a.blank.name; parts = a.blank.parts }
