-- How chains leave a surface: between equal media their direction stays, and else it is bent. Cited by the departure.
use Rattle.std.proofs.Common.{◌≡◌, ℕ, suc, ◌-◌, Bool, true, false, refl, sym, subst}
use Rattle.std.specs.Prelude.{ℤ, not, ◌&&◌}
use Rattle.fixdec.specs.Frac.{Frac}
use Rattle.fixdec.specs.Algebra.FracLaws.{≈_sym}
use Rattle.fixdec.specs.Algebra.OrderLaws.{le_of_lt}
use Rattle.fixdec.specs.Member.{Symbols}
use Rattle.fixdec.specs.Operations.{Operations, IsLawful}
use Rattle.fixdec.specs.Steps.{OnVal, OnVal-then}
use Rattle.fixdec.specs.declared.step.Step.{Step}
use Rattle.lensmodel.specs.Claims.Enclosure.{EnclosesBending}
use Rattle.lensmodel.specs.Equations.Bending.{BendsBy, Stays}
use Rattle.lensmodel.specs.Rows.Bending.{Direction, bend_rows, stay_rows}
use Rattle.lensmodel.specs.Rows.Crossing.{Met}
use Rattle.lensmodel.specs.Rows.Preparation.{Prepared}
use Rattle.lensmodel.specs.Rows.Spans.{side_of}
use Rattle.lensmodel.specs.Rows.Start.{Incoming}
use Rattle.lensmodel.specs.Setup.Media.{equal_media, same_medium, medium_at, has_tolerance}
use Rattle.lensmodel.specs.Setup.Values.{owner, reflects, travel, tolerances}
use Rattle.lensmodel.specs.declared.setup.Setup.{Setup}
use Rattle.lensmodel.specs.declared.tolerance.TolKind.TheVariants.{Indx}
use Rattle.refract.specs.Clipping.{AreInCap, clip_side-member}
use Rattle.refract.specs.Signs.{travel_sign}
use Rattle.skewtrace.specs.Enclosing.{EnclosesDeparture}
use Rattle.skewtrace.specs.Turns.{units, departure}

not_first : (a b c d : Bool) → (not a && b && c && d) ≡ true → a ≡ false
not_first true b c d h = cc
not_first false b c d h = refl

-- a surface between equal media is no mirror
no_mirror : (s : Setup) (j : ℕ) → equal_media s j ≡ true → reflects s (suc j) ≡ false
no_mirror s j h =
    not_first (reflects s (suc j)) (same_medium (medium_at s j) (medium_at s (suc j))) (not (has_tolerance (tolerances s.toler) Indx (owner s j)))
    (not (has_tolerance (tolerances s.toler) Indx (suc j))) h

module _ {A : Type 0} (scale : ℕ) (o : Operations A) (member : A → Symbols → Frac → Type 0) (law : IsLawful scale o member)
    (s : Setup) (j : ℕ) (face : Prepared A) (ray : Incoming A) (h : Met A) where
  -- the direction stays where the media are equal
  pub stay_rows-encloses : AreInCap (o.hull ray.n) → equal_media s j ≡ true → EnclosesDeparture member s j face ray h (stay_rows o face ray)
  unfolding stay_rows
  stay_rows-encloses caps equal c indices hf hr hm t cross b =
      let flat : reflects s (suc j) ≡ false = no_mirror s j equal in
      let stays : Stays c j = subst (λ (r : Bool). BendsBy r true s c j) flat (subst (λ (r : Bool). BendsBy (reflects s (suc j)) r s c j) equal b) in
      OnVal-then (o.clip ray.n (side_of face.sign)) _ (λ n. member n c.symbols (c.n j)) _
      (subst (λ (z : ℤ). OnVal (o.clip ray.n (side_of z)) (λ n. member n c.symbols (c.n j))) (sym hf.sign)
      (clip_side-member scale o member law c.symbols ray.n (c.n j) (travel s j) (travel_sign s j) caps hr.n (le_of_lt t.onwards))) λ n hn.
      record {
        l = law.same c.symbols ray.l _ _ (≈_sym stays.l) hr.l;
        m = law.same c.symbols ray.m _ _ (≈_sym stays.m) hr.m;
        n = law.same c.symbols n _ _ (≈_sym stays.n) hn;
      }

  -- else it is bent
  pub bent-encloses : (r : Step (Direction A)) → equal_media s j ≡ false → EnclosesBending member s j face ray h r → EnclosesDeparture member s j face ray h r
  bent-encloses r different e c indices hf hr hm t cross b = e different c indices hf hr hm t cross b

-- ---- the rows of a departure
module _ {A : Type 0} (o : Operations A) (scale : ℕ) (s : Setup) (j : ℕ) (face : Prepared A) (ray : Incoming A) (h : Met A) where
  pub departure-stays : equal_media s (j - 1) ≡ true → departure o scale s j face ray h ≡ stay_rows o face ray
  unfolding departure
  departure-stays e = rw e refl

  pub departure-bends : equal_media s (j - 1) ≡ false → departure o scale s j face ray h ≡ bend_rows o scale face ray h (units o scale s)
  unfolding departure
  departure-bends e = rw e refl
