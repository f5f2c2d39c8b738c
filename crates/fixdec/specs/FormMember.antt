-- Membership in linear forms: which fractions a form stands for under symbols.
use Rattle.std.specs.Prelude.{ℕ, suc, ℤ, pos, List, [], ◌∷◌}
use Rattle.fixdec.specs.Form.{LinearForm}
use Rattle.fixdec.specs.Frac.{Frac, ◌≤Q◌, ◌+Q◌, ◌*Q◌, ◌-Q◌, whole}
use Rattle.fixdec.specs.Member.{Symbols, units}

-- the sum of coefficients times symbols, the first of them symbol i
abbrev pub swing : List ℤ → Symbols → ℕ → Frac
swing [] s i = whole (pos 0)
swing (k ∷ ks) s i = whole k *Q s.at i +Q swing ks s (suc i)

-- v, in units of the scale, differs by at most the radius from the centre plus the sum of coefficients times symbols
pub record IsFormMember (scale : ℕ) (f : LinearForm) (s : Symbols) (v : Frac) : Type 0 where
  pub above : v *Q units scale -Q (whole f.centre +Q swing f.coefficients s 0) ≤Q whole (pos f.radius)
  pub below : (whole f.centre +Q swing f.coefficients s 0) -Q v *Q units scale ≤Q whole (pos f.radius)
