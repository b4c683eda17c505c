use Rattle.zy_cases.proofs.space.go_back.Given as goal

abbrev pub ghosts-undo_in : goal.ghosts-undo_in
ghosts-undo_in g a = record { name = a.blank.name; parts = a.blank.parts }
