-- Words in linear arithmetic, by computing.
use Rattle.std.proofs.Common.{[], refl}
use Rattle.std.specs.Prelude.{Some}
use Rattle.examples.specs.ComputedAspheres.{asphere_setup, bent}
use Rattle.examples.specs.ComputedForms.{EmptyBox, PlaneInForms, AsphereInForms, OutsideInForms, ReflectedInForms, VignettedInForms, TieInForms, FormDifference, FormQuotient, FormProduct, rigid}
use Rattle.examples.specs.ComputedRows.{ones, tenths, ray_sloped}
use Rattle.examples.specs.Worked.{level_ray, rim_setup, glass_setup, plane_setup, sphere_setup, slanted_ray}
use Rattle.examples.proofs.ComputedAspheres.{opened_aspheres}
use Rattle.examples.proofs.ComputedBoxes.{opened_forms}
use Rattle.examples.proofs.TriedCells.{boxed_row_by_trying}

pub empty_box : EmptyBox
unfolding opened_forms
empty_box = boxed_row_by_trying (record plane_setup { toler = Some (record { list = record { items = [] } }) }) slanted_ray _ refl refl

pub plane_in_forms : PlaneInForms
unfolding opened_forms
plane_in_forms = boxed_row_by_trying (rigid plane_setup) slanted_ray _ refl refl

pub asphere_in_forms : AsphereInForms
unfolding opened_forms opened_aspheres
asphere_in_forms = boxed_row_by_trying (rigid (asphere_setup bent)) (level_ray (ones 6)) _ refl refl

pub outside_in_forms : OutsideInForms
unfolding opened_forms
outside_in_forms = boxed_row_by_trying (rigid sphere_setup) (level_ray (ones 11)) _ refl refl

pub reflected_in_forms : ReflectedInForms
unfolding opened_forms
reflected_in_forms = boxed_row_by_trying (rigid glass_setup) (ray_sloped (tenths 12)) _ refl refl

pub vignetted_in_forms : VignettedInForms
unfolding opened_forms
vignetted_in_forms = boxed_row_by_trying (rigid rim_setup) (level_ray (tenths 51)) _ refl refl

pub tie_in_forms : TieInForms
unfolding opened_forms
tie_in_forms = boxed_row_by_trying (rigid rim_setup) (level_ray (ones 5)) _ refl refl

pub form_difference : FormDifference
unfolding opened_forms
form_difference = refl

pub form_quotient : FormQuotient
unfolding opened_forms
form_quotient = refl

pub form_product : FormProduct
unfolding opened_forms
form_product = refl
