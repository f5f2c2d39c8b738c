-- The even terms of a surface as u times the polynomial of its scaled coefficients.
use Rattle.std.proofs.Common.{◌≡◌, ℕ, suc, sym, subst, ap, ◌∙◌, [], ◌∷◌, List, arith}
use Rattle.std.proofs.lemmas.Int.{ints}
use Rattle.std.specs.Prelude.{ℤ, pos, ◌+ℤ◌, ◌*ℤ◌, map, slice_index_or, ◌-◌}
use Rattle.fixdec.specs.Algebra.FracLaws.{≈_trans}
use Rattle.fixdec.specs.Algebra.IntLaws.{ringℤ}
use Rattle.fixdec.specs.Algebra.Linear.{linear, fact, no_fact, reads}
use Rattle.fixdec.specs.Algebra.PowerLaws.{ten_power-add, value-shifted}
use Rattle.fixdec.specs.Algebra.Ring.{var, con, ◌⊕◌, ◌⊗◌}
use Rattle.fixdec.specs.Decimal.{Decimal, ten_power, value}
use Rattle.fixdec.specs.Frac.{Frac, ◌≈◌, ◌+Q◌, ◌*Q◌}
use Rattle.fixdec.specs.Scaled.{dec_shifted}
use Rattle.lensmodel.specs.Setup.Values.{even_terms, coefficients_of, zero_decimal}
use Rattle.lensmodel.specs.Setup.Zones.{norm_of, scaled_coefficients, written_coefficients}
use Rattle.lensmodel.specs.declared.surface.Surface.{Surface}
use Rattle.lensmodel.specs.declared.surface.SurfaceKind.{SurfaceKind}
use Rattle.lensmodel.specs.declared.surface.SurfaceKind.TheVariants.{EvenAsph}
use Rattle.hitsolve.specs.Aspheres.Meeting.{polynomial, over_power}
use Rattle.hitsolve.specs.Aspheres.Powers.{power_back}

-- a decimal list from the one with number i on, each shifted by power as often as its number says
abbrev shifted_from : ℕ → ℤ → List Decimal → List Decimal
shifted_from i power [] = []
shifted_from i power (a ∷ more) = dec_shifted a (power *ℤ pos i) ∷ shifted_from (suc i) power more

-- ten to the power k (i + 1)
power_next : (k : ℤ) (i : ℕ) → ten_power (k *ℤ pos (suc i)) ≈ ten_power (k *ℤ pos i) *Q ten_power k
power_next k i =
    let next : pos (suc i) ≡ pos i +ℤ pos 1 = omega (arith, ints) in
    let e : k *ℤ pos (suc i) ≡ k *ℤ pos i +ℤ k =
    ap (λ (z : ℤ). k *ℤ z) next ∙ ringℤ (k ∷ pos i ∷ []) (var 0 ⊗ (var 1 ⊕ con (pos 1))) (var 0 ⊗ var 1 ⊕ var 0) tt in
    subst (λ (z : ℤ). ten_power z ≈ ten_power (k *ℤ pos i) *Q ten_power k) (sym e) (ten_power-add (k *ℤ pos i) k)

-- the polynomial of the shifted coefficients from number i + 1 on
shifted_terms : (power : ℤ) (u rho : Frac) → u *Q ten_power power ≈ rho → (i : ℕ) (a : List Decimal)
    → u *Q polynomial (map value (shifted_from (suc i) power a)) u ≈ even_terms a rho *Q ten_power (power *ℤ pos i)
shifted_terms power u rho h i [] = linear (u ∷ ten_power (power *ℤ pos i) ∷ []) _ _ (search reads depth 20 fits 4000) no_fact tt
shifted_terms power u rho h i (a ∷ more) =
    let P = polynomial (map value (shifted_from (suc (suc i)) power more)) u in
    let E = even_terms more rho in
    let A = value (dec_shifted a (power *ℤ pos (suc i))) in
    let t = ten_power (power *ℤ pos i) in
    let n = ten_power (power *ℤ pos (suc i)) in
    let T = ten_power power in
    linear (u ∷ rho ∷ A ∷ value a ∷ P ∷ E ∷ t ∷ n ∷ T ∷ []) _ _ (search reads depth 24 fits 20000)
    (fact u (value-shifted a (power *ℤ pos (suc i))) (search reads depth 24 fits 20000)
    (fact u (shifted_terms power u rho h (suc i) more) (search reads depth 24 fits 20000)
    (fact (u *Q value a +Q u *Q E) (power_next power i) (search reads depth 24 fits 20000)
    (fact ((value a +Q E) *Q t) h (search reads depth 24 fits 20000) no_fact)))) tt

-- the coefficients of a surface, brought to its zone
scaled_by : SurfaceKind → Surface → ℤ → List Decimal
scaled_by kind f power = map (λ i. dec_shifted (slice_index_or (written_coefficients kind f) (i - 1) zero_decimal) (power *ℤ pos i)) (1 ∷ 2 ∷ 3 ∷ 4 ∷ 5 ∷ 6 ∷ 7 ∷ 8 ∷ [])

scaled_are : (f : Surface) → f.kind ≡ EvenAsph → scaled_coefficients f ≡ shifted_from 1 (norm_of f) (coefficients_of EvenAsph f)
unfolding scaled_by
scaled_are f e = ap (λ (k : SurfaceKind). scaled_by k f (norm_of f)) e

pub scaled_terms : (f : Surface) → f.kind ≡ EvenAsph → (rho : Frac)
    → over_power (norm_of f) rho *Q polynomial (map value (scaled_coefficients f)) (over_power (norm_of f) rho) ≈ even_terms (coefficients_of EvenAsph f) rho
scaled_terms f kind rho =
    let D = norm_of f in
    let u = over_power D rho in
    subst (λ (b : List Decimal). u *Q polynomial (map value b) u ≈ even_terms (coefficients_of EvenAsph f) rho) (sym (scaled_are f kind))
    (≈_trans (shifted_terms D u rho (power_back D rho) 0 (coefficients_of EvenAsph f)) (one (even_terms (coefficients_of EvenAsph f) rho) (D *ℤ pos 0) (omega (arith, ints))))
  where
    one : (x : Frac) (z : ℤ) → z ≡ pos 0 → x *Q ten_power z ≈ x
    one x z e = subst (λ (k : ℤ). x *Q ten_power k ≈ x) (sym e) (linear (x ∷ []) _ _ (search reads depth 20 fits 4000) no_fact tt)
