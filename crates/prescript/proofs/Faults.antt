-- The faults of an even asphere, coefficient by coefficient.
use Rattle.std.proofs.Common.{◌≡◌, ℕ, zero, suc, ◌+◌, ◌-◌, ◌<◌, true, false, ◌∷◌, get_or, refl, ap, ◌∙◌, arith}
use Rattle.std.specs.Prelude.{Option, Some, None, is_none, is_some}
use Rattle.fixdec.specs.Ends.{Ends}
use Rattle.fixdec.specs.Word.{IsReadable}
use Rattle.lensmodel.specs.Files.Causes.{fault_if, first_fault}
use Rattle.lensmodel.specs.Setup.Values.{zero_decimal}
use Rattle.lensmodel.specs.Setup.WellFormed.{IsWritten, IsWrittenSurface}
use Rattle.lensmodel.specs.Setup.WholeFaults.{is_great, asphere_faults}
use Rattle.lensmodel.specs.Setup.Zones.{surface_zone, scaled_coefficient, written_coefficients}
use Rattle.lensmodel.specs.declared.fault.ZmxFault.TheVariants.{Coefficient}
use Rattle.lensmodel.specs.declared.surface.Surface.{Surface}
use Rattle.lensmodel.specs.declared.surface.SurfaceKind.{SurfaceKind}
use Rattle.lensmodel.specs.declared.surface.SurfaceKind.TheVariants.{Standard, EvenAsph}
use Rattle.fixdec.specs.Decimal.{Decimal}
use Rattle.prescript.specs.Coefficients.{faults_from}

as_read : (d : Decimal) → IsWritten d → IsReadable d.exp
as_read d w = record { low = w.low; high = w.high }

-- a written coefficient has an exponent that is read
pub readable : (kind : SurfaceKind) (f : Surface) (k : ℕ) → kind ≡ EvenAsph → k < 8 → IsWrittenSurface f → IsReadable (get_or (written_coefficients kind f) k zero_decimal).exp
readable Standard f k e l w = cc
readable EvenAsph f zero e l w = as_read f.a1 w.a1
readable EvenAsph f (suc zero) e l w = as_read f.a2 w.a2
readable EvenAsph f (suc (suc zero)) e l w = as_read f.a3 w.a3
readable EvenAsph f (suc (suc (suc zero))) e l w = as_read f.a4 w.a4
readable EvenAsph f (suc (suc (suc (suc zero)))) e l w = as_read f.a5 w.a5
readable EvenAsph f (suc (suc (suc (suc (suc zero))))) e l w = as_read f.a6 w.a6
readable EvenAsph f (suc (suc (suc (suc (suc (suc zero)))))) e l w = as_read f.a7 w.a7
readable EvenAsph f (suc (suc (suc (suc (suc (suc (suc zero))))))) e l w = as_read f.a8 w.a8
readable EvenAsph f (suc (suc (suc (suc (suc (suc (suc (suc k)))))))) e l w = absurd (omega arith)

-- the coefficients from b_i on are b_i and those behind it
faults_from-next : (j : ℕ) (f : Surface) (n i : ℕ)
    → faults_from j f (suc n) i ≡ fault_if (is_great (scaled_coefficient f i)) (Coefficient j i) ∷ faults_from j f n (suc i)
unfolding faults_from
faults_from-next j f n i = refl

step : (j : ℕ) (f : Surface) (i : ℕ) → i < 9
    → faults_from j f (9 - i) i ≡ fault_if (is_great (scaled_coefficient f i)) (Coefficient j i) ∷ faults_from j f (9 - (i + 1)) (i + 1)
step j f i l =
    let n : 9 - i ≡ suc (9 - (i + 1)) = omega arith in
    let m : suc i ≡ i + 1 = omega arith in
    ap (λ (k : ℕ). faults_from j f k i) n ∙ faults_from-next j f (9 - (i + 1)) i
    ∙ ap (λ (k : ℕ). fault_if (is_great (scaled_coefficient f i)) (Coefficient j i) ∷ faults_from j f (9 - (i + 1)) k) m

-- the search stops at a coefficient that is too great, and goes on at every other
pub found : (j : ℕ) (f : Surface) (i : ℕ) → i < 9 → is_great (scaled_coefficient f i) ≡ true
    → first_fault (faults_from j f (9 - i) i) ≡ Some (Coefficient j i)
found j f i l h = rw (step j f i l, h) refl

pub passed : (j : ℕ) (f : Surface) (i : ℕ) → i < 9 → is_great (scaled_coefficient f i) ≡ false
    → first_fault (faults_from j f (9 - i) i) ≡ first_fault (faults_from j f (9 - (i + 1)) (i + 1))
passed j f i l h = rw (step j f i l, h) refl

-- the faults of an even asphere with a zone are those of its coefficients
not_none : (zone : Option Ends) → is_some zone ≡ true → is_none zone ≡ false
not_none None h = cc
not_none (Some z) h = refl

pub zoned : (kind : SurfaceKind) (j : ℕ) (f : Surface) → kind ≡ EvenAsph → is_some (surface_zone f) ≡ true → first_fault (asphere_faults kind j f) ≡ first_fault (faults_from j f 8 1)
unfolding faults_from
zoned Standard j f e h = cc
zoned EvenAsph j f e h = rw (not_none (surface_zone f) h) refl

-- no coefficient is left
pub none_left : (j : ℕ) (f : Surface) (n i : ℕ) → n ≡ 0 → first_fault (faults_from j f n i) ≡ None
unfolding faults_from
none_left j f zero i e = refl
none_left j f (suc n) i e = absurd (omega arith)
