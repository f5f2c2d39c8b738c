-- The even terms of an asphere in scaled coefficients: with u = rho / 10^D and b_i = a_i 10^(D i), u (b1 + u (b2 + ..)) is
-- rho (a1 + rho (a2 + ..)), and the slope likewise.
use Rattle.std.proofs.Common.{◌≡◌, ℕ, zero, suc, ◌-◌, ◌^◌, List, [], ◌∷◌, refl, sym, subst, add-one}
use Rattle.std.specs.Prelude.{ℤ, pos, negsuc, neg_ℤ, ◌*ℤ◌, ◌+ℤ◌, map, slice_index_or}
use Rattle.fixdec.specs.Decimal.{Decimal, value, ten_power, tenth_power}
use Rattle.fixdec.specs.Frac.{Frac, ◌≈◌, ◌+Q◌, ◌-Q◌, ◌*Q◌, whole}
use Rattle.fixdec.specs.Algebra.FracLaws.{≈_refl, ≈_trans}
use Rattle.fixdec.specs.Algebra.IntLaws.{ringℤ}
use Rattle.fixdec.specs.Algebra.Linear.{linear, fact, name, no_fact, reads}
use Rattle.fixdec.specs.Algebra.PowerLaws.{ten_power-add, value-shifted}
use Rattle.fixdec.specs.Algebra.Ring.{var, con, ◌⊕◌, ◌⊗◌}
use Rattle.fixdec.specs.Member.{IsShifted}
use Rattle.fixdec.specs.Scaled.{dec_shifted}
use Rattle.lensmodel.specs.Setup.Values.{zero_decimal, coefficients_of, even_terms, slope_terms}
use Rattle.lensmodel.specs.Setup.Zones.{written_coefficients, scaled_coefficients, norm_of}
use Rattle.lensmodel.specs.declared.surface.Surface.{Surface}
use Rattle.lensmodel.specs.declared.surface.SurfaceKind.{SurfaceKind}
use Rattle.lensmodel.specs.declared.surface.SurfaceKind.TheVariants.{Standard, EvenAsph}
use Rattle.sagform.specs.ResidualLaws.{tenth_of}

-- b1 + u b2 + u^2 b3 + ..
abbrev pub terms_value : Frac → List Decimal → Frac
terms_value u [] = whole (pos 0)
terms_value u (b ∷ bs) = value b +Q u *Q terms_value u bs

-- i b1 + (i + 1) u b2 + (i + 2) u^2 b3 + ..
abbrev pub slopes_value : ℕ → Frac → List Decimal → Frac
slopes_value i u [] = whole (pos 0)
slopes_value i u (b ∷ bs) = whole (pos i) *Q value b +Q u *Q slopes_value (suc i) u bs

-- a_i 10^(k i), the first of them with the number i
abbrev pub scaled_from : ℤ → ℕ → List Decimal → List Decimal
scaled_from k i [] = []
scaled_from k i (a ∷ more) = dec_shifted a (k *ℤ pos i) ∷ scaled_from k (suc i) more

-- ---- powers of ten
pub power_inverse : (k : ℤ) → ten_power k *Q ten_power (neg_ℤ k) ≈ whole (pos 1)
power_inverse (pos zero) = linear [] (whole (pos 1) *Q whole (pos 1)) (whole (pos 1)) (search reads depth 12) no_fact tt
power_inverse (pos (suc n)) =
    linear (whole (pos (10 ^ suc n)) ∷ tenth_power (suc n) ∷ []) _ _ (search reads depth 12)
    (fact (whole (pos 1)) (tenth_of (suc n)) (search reads depth 12) no_fact) tt
power_inverse (negsuc n) = tenth_of (suc n)

power_next : (k : ℤ) (i : ℕ) → ten_power (k *ℤ pos (suc i)) ≈ ten_power (k *ℤ pos i) *Q ten_power k
power_next k i =
    let e : k *ℤ pos (suc i) ≡ k *ℤ pos i +ℤ k = rw add-one at (ringℤ (k ∷ pos i ∷ []) (var 0 ⊗ (var 1 ⊕ con (pos 1))) (var 0 ⊗ var 1 ⊕ var 0) tt) in
    rw e (ten_power-add (k *ℤ pos i) k)

-- u, which shifts rho by k
abbrev pub unit_of : ℤ → Frac → Frac
unit_of k rho = rho *Q ten_power (neg_ℤ k)

pub unit_shifted : (k : ℤ) (rho : Frac) → IsShifted k rho (unit_of k rho)
unit_shifted (pos zero) rho = linear (rho ∷ []) (rho *Q whole (pos 1) *Q whole (pos 1)) rho (search reads depth 12) no_fact tt
unit_shifted (pos (suc n)) rho =
    linear (rho ∷ whole (pos (10 ^ suc n)) ∷ tenth_power (suc n) ∷ []) _ _ (search reads depth 12)
    (fact rho (tenth_of (suc n)) (search reads depth 12) no_fact) tt
unit_shifted (negsuc n) rho = ≈_refl (rho *Q whole (pos (10 ^ suc n)))

pub unit_back : (k : ℤ) (rho : Frac) → unit_of k rho *Q ten_power k ≈ rho
unit_back k rho =
    linear (rho ∷ ten_power k ∷ ten_power (neg_ℤ k) ∷ []) _ _ (search reads depth 12)
    (fact rho (power_inverse k) (search reads depth 12) no_fact) tt

-- ---- sums
terms_from : (k : ℤ) (u rho : Frac) (i : ℕ) (cs : List Decimal) → u *Q ten_power k ≈ rho
    → u *Q terms_value u (scaled_from k i cs) *Q ten_power k ≈ ten_power (k *ℤ pos i) *Q even_terms cs rho
terms_from k u rho i [] h = linear (u ∷ ten_power k ∷ ten_power (k *ℤ pos i) ∷ []) _ _ (search reads depth 16) no_fact tt
terms_from k u rho i (a ∷ cs) h =
    let p = ten_power k in
    let q = ten_power (k *ℤ pos i) in
    let q' = ten_power (k *ℤ pos (suc i)) in
    let b = value (dec_shifted a (k *ℤ pos i)) in
    let t = terms_value u (scaled_from k (suc i) cs) in
    let r = even_terms cs rho in
    let v = value a in
    linear (b ∷ q' ∷ q ∷ u ∷ p ∷ rho ∷ t ∷ r ∷ v ∷ []) (u *Q (b +Q u *Q t) *Q p) (q *Q (rho *Q (v +Q r))) (search reads depth 20)
    (name (value-shifted a (k *ℤ pos i)) (search reads depth 20) (name (power_next k i) (search reads depth 20)
    (fact (q *Q v +Q q *Q r) h (search reads depth 20)
    (fact u (terms_from k u rho (suc i) cs h) (search reads depth 20) no_fact)))) tt

slopes_from : (k : ℤ) (u rho : Frac) (i n : ℕ) (cs : List Decimal) → u *Q ten_power k ≈ rho
    → slopes_value n u (scaled_from k i cs) ≈ ten_power (k *ℤ pos i) *Q slope_terms n cs rho
slopes_from k u rho i n [] h = linear (ten_power (k *ℤ pos i) ∷ []) _ _ (search reads depth 16) no_fact tt
slopes_from k u rho i n (a ∷ cs) h =
    let p = ten_power k in
    let q = ten_power (k *ℤ pos i) in
    let q' = ten_power (k *ℤ pos (suc i)) in
    let b = value (dec_shifted a (k *ℤ pos i)) in
    let t = slopes_value (suc n) u (scaled_from k (suc i) cs) in
    let r = slope_terms (suc n) cs rho in
    let v = value a in
    let m = whole (pos n) in
    linear (t ∷ b ∷ q' ∷ q ∷ u ∷ p ∷ rho ∷ r ∷ v ∷ m ∷ []) (m *Q b +Q u *Q t) (q *Q (m *Q v +Q rho *Q r)) (search reads depth 20)
    (name (slopes_from k u rho (suc i) (suc n) cs h) (search reads depth 20) (name (value-shifted a (k *ℤ pos i)) (search reads depth 20)
    (name (power_next k i) (search reads depth 20) (fact (q *Q r) h (search reads depth 20) no_fact)))) tt

power_one : (k : ℤ) → k *ℤ pos 1 ≡ k
power_one k = ringℤ (k ∷ []) (var 0 ⊗ con (pos 1)) (var 0) tt

terms_scaled : (k : ℤ) (rho : Frac) (cs : List Decimal)
    → unit_of k rho *Q terms_value (unit_of k rho) (scaled_from k 1 cs) ≈ even_terms cs rho
terms_scaled k rho cs =
    let u = unit_of k rho in
    let p = ten_power k in
    let p' = ten_power (neg_ℤ k) in
    let t = terms_value u (scaled_from k 1 cs) in
    let e : u *Q t *Q p ≈ p *Q even_terms cs rho = rw power_one at (terms_from k u rho 1 cs (unit_back k rho)) in
    linear (u ∷ t ∷ p ∷ p' ∷ even_terms cs rho ∷ []) (u *Q t) (even_terms cs rho) (search reads depth 16)
    (fact p' e (search reads depth 16) (fact (even_terms cs rho -Q u *Q t) (power_inverse k) (search reads depth 16) no_fact)) tt

slopes_scaled : (k : ℤ) (rho : Frac) (cs : List Decimal)
    → slopes_value 1 (unit_of k rho) (scaled_from k 1 cs) *Q ten_power (neg_ℤ k) ≈ slope_terms 1 cs rho
slopes_scaled k rho cs =
    let u = unit_of k rho in
    let p = ten_power k in
    let p' = ten_power (neg_ℤ k) in
    let t = slopes_value 1 u (scaled_from k 1 cs) in
    let e : t ≈ p *Q slope_terms 1 cs rho = rw power_one at (slopes_from k u rho 1 1 cs (unit_back k rho)) in
    linear (t ∷ p ∷ p' ∷ slope_terms 1 cs rho ∷ []) (t *Q p') (slope_terms 1 cs rho) (search reads depth 16)
    (name e (search reads depth 16) (fact (slope_terms 1 cs rho) (power_inverse k) (search reads depth 16) no_fact)) tt

-- ---- the coefficients of a surface
scaled_by : (kind : SurfaceKind) (f : Surface) (k : ℤ)
    → map (λ (i : ℕ). dec_shifted (slice_index_or (written_coefficients kind f) (i - 1) zero_decimal) (k *ℤ pos i)) (1 ∷ 2 ∷ 3 ∷ 4 ∷ 5 ∷ 6 ∷ 7 ∷ 8 ∷ [])
    ≡ scaled_from k 1 (written_coefficients kind f)
scaled_by Standard f k = refl
scaled_by EvenAsph f k = refl

-- b1 to b8 are a1 to a8, scaled
pub scaled_coefficients_are : (f : Surface) → scaled_coefficients f ≡ scaled_from (norm_of f) 1 (written_coefficients f.kind f)
scaled_coefficients_are f = scaled_by f.kind f (norm_of f)

-- the eight zeros of a standard surface add nothing
zero_term : (r t : Frac) → t ≈ whole (pos 0) → r *Q (value zero_decimal +Q t) ≈ whole (pos 0)
zero_term r t h = linear (t ∷ r ∷ []) (r *Q (whole (pos 0) *Q whole (pos 1) +Q t)) (whole (pos 0)) (search reads depth 16) (name h (search reads depth 16) no_fact) tt

zero_slope : (n : ℕ) (r t : Frac) → t ≈ whole (pos 0) → whole (pos n) *Q value zero_decimal +Q r *Q t ≈ whole (pos 0)
zero_slope n r t h =
    linear (t ∷ r ∷ whole (pos n) ∷ []) (whole (pos n) *Q (whole (pos 0) *Q whole (pos 1)) +Q r *Q t) (whole (pos 0)) (search reads depth 16)
    (name h (search reads depth 16) no_fact) tt

even_written : (kind : SurfaceKind) (f : Surface) (rho : Frac) → even_terms (written_coefficients kind f) rho ≈ even_terms (coefficients_of kind f) rho
even_written Standard f r =
    zero_term r _ (zero_term r _ (zero_term r _ (zero_term r _ (zero_term r _ (zero_term r _ (zero_term r _ (zero_term r _ (≈_refl (whole (pos 0))))))))))
even_written EvenAsph f r = ≈_refl (even_terms (coefficients_of EvenAsph f) r)

slope_written : (kind : SurfaceKind) (f : Surface) (rho : Frac) → slope_terms 1 (written_coefficients kind f) rho ≈ slope_terms 1 (coefficients_of kind f) rho
slope_written Standard f r =
    zero_slope 1 r _ (zero_slope 2 r _ (zero_slope 3 r _ (zero_slope 4 r _ (zero_slope 5 r _ (zero_slope 6 r _ (zero_slope 7 r _ (zero_slope 8 r _ (≈_refl (whole (pos 0))))))))))
slope_written EvenAsph f r = ≈_refl (slope_terms 1 (coefficients_of EvenAsph f) r)

-- u (b1 + u (b2 + ..)) is the sum of the even terms
pub even_terms_by_scaled : (f : Surface) (rho : Frac)
    → unit_of (norm_of f) rho *Q terms_value (unit_of (norm_of f) rho) (scaled_coefficients f) ≈ even_terms (coefficients_of f.kind f) rho
even_terms_by_scaled f rho =
    let u = unit_of (norm_of f) rho in
    subst (λ (bs : List Decimal). u *Q terms_value u bs ≈ even_terms (coefficients_of f.kind f) rho) (sym (scaled_coefficients_are f))
    (≈_trans (terms_scaled (norm_of f) rho (written_coefficients f.kind f)) (even_written f.kind f rho))

-- (b1 + 2 u b2 + ..) / 10^D is the slope of the even terms
pub slope_terms_by_scaled : (f : Surface) (rho : Frac)
    → slopes_value 1 (unit_of (norm_of f) rho) (scaled_coefficients f) *Q ten_power (neg_ℤ (norm_of f)) ≈ slope_terms 1 (coefficients_of f.kind f) rho
slope_terms_by_scaled f rho =
    let u = unit_of (norm_of f) rho in
    let back = ten_power (neg_ℤ (norm_of f)) in
    subst (λ (bs : List Decimal). slopes_value 1 u bs *Q back ≈ slope_terms 1 (coefficients_of f.kind f) rho) (sym (scaled_coefficients_are f))
    (≈_trans (slopes_scaled (norm_of f) rho (written_coefficients f.kind f)) (slope_written f.kind f rho))
