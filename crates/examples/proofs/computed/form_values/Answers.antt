use Rattle.examples.proofs.ComputedForms.{form_difference, form_quotient, form_product}
use Rattle.examples.proofs.computed.form_values.Goals as goal

pub returns-clause-difference : goal.returns-clause-difference
returns-clause-difference c = form_difference

pub returns-clause-quotient : goal.returns-clause-quotient
returns-clause-quotient c = form_quotient

pub returns-clause-product : goal.returns-clause-product
returns-clause-product c = form_product
