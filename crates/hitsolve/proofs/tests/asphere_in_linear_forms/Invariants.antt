use Rattle.hitsolve.proofs.tests.asphere_in_linear_forms.Given as goal

abbrev pub ghosts-meets_a_bent_asphere_in_forms : goal.ghosts-meets_a_bent_asphere_in_forms
ghosts-meets_a_bent_asphere_in_forms g a = record { name = a.blank.name; parts = a.blank.parts }
