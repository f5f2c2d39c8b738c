use Rattle.examples.proofs.ComputedForms.{empty_box, plane_in_forms, asphere_in_forms, outside_in_forms, reflected_in_forms, vignetted_in_forms, tie_in_forms}
use Rattle.examples.proofs.computed.words_in_forms.Goals as goal

pub returns-clause-empty : goal.returns-clause-empty
returns-clause-empty c = empty_box

pub returns-clause-plane : goal.returns-clause-plane
returns-clause-plane c = plane_in_forms

pub returns-clause-asphere : goal.returns-clause-asphere
returns-clause-asphere c = asphere_in_forms

pub returns-clause-outside : goal.returns-clause-outside
returns-clause-outside c = outside_in_forms

pub returns-clause-reflected : goal.returns-clause-reflected
returns-clause-reflected c = reflected_in_forms

pub returns-clause-vignetted : goal.returns-clause-vignetted
returns-clause-vignetted c = vignetted_in_forms

pub returns-clause-tie : goal.returns-clause-tie
returns-clause-tie c = tie_in_forms
