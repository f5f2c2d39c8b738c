use Rattle.hitsolve.proofs.tests.sphere_in_linear_forms.Given as goal

abbrev pub ghosts-meets_a_sphere_in_forms : goal.ghosts-meets_a_sphere_in_forms
ghosts-meets_a_sphere_in_forms g a = record { name = a.blank.name; parts = a.blank.parts }
