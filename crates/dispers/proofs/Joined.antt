-- What is put together: which check refuses it, and that it is well formed.
use Rattle.std.proofs.Common.{◌≡◌, ℕ, zero, suc, ◌+◌, ◌-◌, ◌<◌, Bool, true, false, List, [], ◌∷◌, ◌++◌, length, get_or, refl, arith, ◌∙◌}
use Rattle.std.proofs.lemmas.Bool.Decides.{nat_tests}
use Rattle.std.proofs.lemmas.List.{get_or-map, get_or-take, length-map, length-take-le}
use Rattle.std.specs.Option.{unwrap_or}
use Rattle.std.specs.Prelude.{Option, Some, None, Err, ◌&&◌, not, nat_lt, slice_get, IsTrue, All, if◌then◌else◌}
use Rattle.fixdec.specs.Decimal.{Decimal}
use Rattle.lensmodel.specs.Equations.Dispersion.{IsKnown}
use Rattle.lensmodel.specs.Files.Causes.{fault_if, first_fault, each_from, ok_unless}
use Rattle.lensmodel.specs.Files.Joining.{before_image, medium_behind, media_of, has_used_formula, has_good_index, positive_wave, primary_wave, wave_of, setup_of, index_faults, joined_at}
use Rattle.lensmodel.specs.Setup.Media.{has_tolerance}
use Rattle.lensmodel.specs.Setup.Ranges.{is_positive, is_wave}
use Rattle.lensmodel.specs.Setup.Values.{surface_at, image, reflects, tolerances, plane}
use Rattle.lensmodel.specs.Setup.WellFormed.{IsBox, IsInRange, IsSound, IsWellFormed, HasGoodIndex}
use Rattle.lensmodel.specs.declared.fault.CrossFault.{CrossFault}
use Rattle.lensmodel.specs.declared.fault.CrossFault.TheVariants.{Formula, NoWave, BadIndex, MirrorIndex}
use Rattle.lensmodel.specs.declared.glass.Glass.{Glass}
use Rattle.lensmodel.specs.declared.glass.Medium.{Medium}
use Rattle.lensmodel.specs.declared.glass.Medium.TheVariants.{Air, Of}
use Rattle.lensmodel.specs.declared.job.Job.{Job}
use Rattle.lensmodel.specs.declared.prescription.Prescription.{Prescription}
use Rattle.lensmodel.specs.declared.setup.Setup.{Setup}
use Rattle.lensmodel.specs.declared.surface.Surface.{Surface}
use Rattle.lensmodel.specs.declared.tolerance.TolBox.{TolBox}
use Rattle.lensmodel.specs.declared.tolerance.TolKind.TheVariants.{Indx}
use Rattle.dispers.specs.Checks.{glass_fault, formula_fault, range_fault, index_fault, mirror_fault}
use Rattle.dispers.specs.Picked.{known_if_used}
use Rattle.dispers.proofs.Faults.{first_fault-append, first_of_three, second_of_three, third_of_three, none_of_three, stands_nowhere}

module _ (lens : Prescription) (book : List Glass) (job : Job) (toler : Option TolBox) where
  abbrev glass_causes : List (Option CrossFault)
  glass_causes = each_from (glass_fault book) 0 (before_image lens)

  abbrev formula_causes : List (Option CrossFault)
  formula_causes = each_from formula_fault 0 (media_of book lens)

  abbrev wave_causes : Bool → List (Option CrossFault)
  wave_causes has_wave = fault_if (not has_wave) NoWave ∷ []

  -- ---- the answer, by the first check that fails
  refused : (w : Option Decimal) (fault : CrossFault) → ((has_wave : Bool) → first_fault (glass_causes ++ formula_causes ++ wave_causes has_wave) ≡ Some fault)
      → joined_at lens book job toler w ≡ Err fault
  refused None fault h = rw (h false) refl
  refused (Some wave) fault h =
      rw (first_fault-append (glass_causes ++ formula_causes ++ wave_causes true) (index_faults (setup_of lens book job toler wave)), h true) refl

  pub without_glass : (w : Option Decimal) (fault : CrossFault) → first_fault glass_causes ≡ Some fault → joined_at lens book job toler w ≡ Err fault
  without_glass w fault h = refused w fault (λ b. first_of_three glass_causes formula_causes (wave_causes b) fault h)

  pub without_formula : (w : Option Decimal) (fault : CrossFault) → first_fault glass_causes ≡ None → first_fault formula_causes ≡ Some fault
      → joined_at lens book job toler w ≡ Err fault
  without_formula w fault g h = refused w fault (λ b. second_of_three glass_causes formula_causes (wave_causes b) fault g h)

  pub without_wave : first_fault glass_causes ≡ None → first_fault formula_causes ≡ None → joined_at lens book job toler None ≡ Err NoWave
  without_wave g h = rw (third_of_three glass_causes formula_causes (wave_causes false) g h) refl

  pub with_wave : (wave : Decimal) → first_fault glass_causes ≡ None → first_fault formula_causes ≡ None
      → joined_at lens book job toler (Some wave)
      ≡ ok_unless (first_fault (index_faults (setup_of lens book job toler wave))) (setup_of lens book job toler wave)
  with_wave wave g h =
      rw (
        first_fault-append (glass_causes ++ formula_causes ++ wave_causes true) (index_faults (setup_of lens book job toler wave)),
        third_of_three glass_causes formula_causes (wave_causes true) g h,
      ) refl

  -- ---- the media
  abbrev behind : Surface → Medium
  behind f = unwrap_or (medium_behind book f) Air

  before-length : length (before_image lens) ≡ length lens.surfaces.items - 1
  before-length = length-take-le (length lens.surfaces.items - 1) lens.surfaces.items (omega arith)

  pub media-length : length (media_of book lens) ≡ length lens.surfaces.items - 1
  media-length = length-map (before_image lens) behind ∙ before-length

  known_by : (m : Medium) → not (has_used_formula m) ≡ false → IsKnown m
  known_by Air e = tt
  known_by (Of g) e = known_if_used g.formula (grind arith)

  pub media-known : first_fault formula_causes ≡ None → All IsKnown (media_of book lens)
  media-known h = λ k d l. known_by (get_or (media_of book lens) k d) (stands_nowhere (λ j m. not (has_used_formula m)) Formula (media_of book lens) k d l h)

  air_at : (f : Surface) → f.mirror ≡ true → behind f ≡ Air
  air_at f e = rw e refl

  -- ---- a wavelength above 0
  chosen : (b : Bool) (d wave : Decimal) → (if b then Some d else None) ≡ Some wave → (b ≡ true) × (d ≡ wave)
  chosen true d wave e = (refl, cc)
  chosen false d wave e = cc

  positive_by : (w : Option (Option Decimal)) (wave : Decimal) → positive_wave w ≡ Some wave → IsTrue (is_positive wave)
  positive_by None wave e = cc
  positive_by (Some None) wave e = cc
  positive_by (Some (Some d)) wave e = let c = chosen (is_positive d) d wave e in rw (← c.1) c.0

  primary_positive : (waves : List (Option Decimal)) (n : ℕ) (wave : Decimal) → primary_wave waves n ≡ Some wave → IsTrue (is_positive wave)
  primary_positive waves zero wave e = cc
  primary_positive waves (suc i) wave e = positive_by (slice_get waves i) wave e

  wave_positive : (given : Option Decimal) (wave : Decimal) → IsTrue (is_wave given) → wave_of given lens ≡ Some wave → IsTrue (is_positive wave)
  wave_positive None wave h e = primary_positive lens.waves.items lens.primary wave e
  wave_positive (Some d) wave h e = let same : d ≡ wave = cc in rw (← same) h

  -- ---- well formed
  both_true : (a b : Bool) → (a && b) ≡ true → (a ≡ true) × (b ≡ true)
  both_true true true e = (refl, refl)
  both_true true false e = cc
  both_true false b e = cc

  second_false : (a b : Bool) → (a && b) ≡ false → a ≡ true → b ≡ false
  second_false true b e h = e
  second_false false b e h = cc

  true_if_not : (b : Bool) → not b ≡ false → b ≡ true
  true_if_not true e = refl
  true_if_not false e = cc

  not_true : (b : Bool) → b ≡ false → IsTrue (not b)
  not_true b e = rw e refl

  no_mirror : (m : Bool) (i : ℕ) → i < length lens.surfaces.items - 1 → IsTrue (not (m && nat_lt i (length lens.surfaces.items - 1))) → not m ≡ true
  no_mirror true i l h = absurd (grind (arith, nat_tests))
  no_mirror false i l h = refl

  module _ (wave : Decimal) where
    abbrev s : Setup
    s = setup_of lens book job toler wave

    -- a surface before the image
    same_surface : (j : ℕ) → j < image s → get_or (before_image lens) j plane ≡ surface_at s j
    same_surface j l = get_or-take (length lens.surfaces.items - 1) lens.surfaces.items j plane l

    reflecting : (j : ℕ) → IsTrue (reflects s j) → ((surface_at s j).mirror ≡ true) × (j < image s)
    reflecting j h = let b = both_true (surface_at s j).mirror (nat_lt j (image s)) h in (b.0, grind (arith, nat_tests))

    mirror_air : (j : ℕ) → IsTrue (reflects s j) → get_or s.media.items j Air ≡ Air
    mirror_air j h =
        let r = reflecting j h in
        let l : j < length (before_image lens) = rw before-length (r.1) in
        get_or-map behind (before_image lens) j plane Air l ∙ rw (same_surface j r.1) (air_at (surface_at s j) r.0)

    no_index_tolerance : first_fault (each_from (mirror_fault (tolerances toler)) 0 (before_image lens)) ≡ None → (j : ℕ) → IsTrue (reflects s j)
        → IsTrue (not (has_tolerance (tolerances toler) Indx j))
    no_index_tolerance h j i =
        let r = reflecting j i in
        let l : j < length (before_image lens) = rw before-length (r.1) in
        let n = rw (same_surface j r.1) at (stands_nowhere (λ j f. f.mirror && has_tolerance (tolerances toler) Indx j) MirrorIndex (before_image lens) j plane l h) in
        not_true (has_tolerance (tolerances toler) Indx j) (second_false (surface_at s j).mirror (has_tolerance (tolerances toler) Indx j) n r.0)

    good_index : first_fault (each_from (index_fault s) 0 (before_image lens)) ≡ None → (j : ℕ) → j < image s → IsTrue (not (reflects s j)) → HasGoodIndex s j
    good_index h j i m =
        let l : j < length (before_image lens) = rw before-length i in
        let n = rw (same_surface j i) at (stands_nowhere (λ j f. not f.mirror && not (has_good_index s j)) BadIndex (before_image lens) j plane l h) in
        true_if_not (has_good_index s j) (second_false (not (surface_at s j).mirror) (not (has_good_index s j)) n (no_mirror (surface_at s j).mirror j i m))

    pub setup-well_formed : IsSound lens → IsInRange job → IsBox (length lens.surfaces.items - 1) (tolerances toler) → wave_of job.wave lens ≡ Some wave
        → first_fault formula_causes ≡ None → first_fault (index_faults s) ≡ None → IsWellFormed s
    setup-well_formed sound range box given formulas indices =
        let n = none_of_three (each_from (range_fault wave) 0 (media_of book lens)) (each_from (index_fault s) 0 (before_image lens)) (each_from (mirror_fault (tolerances toler)) 0 (before_image lens)) indices in
        record {
          lens = sound;
          media = record { count = media-length; known = media-known formulas; mirrors = mirror_air };
          wave = wave_positive job.wave wave range.wave given;
          residual = range.residual;
          width = range.width;
          toler = record { box = box; mirrors = no_index_tolerance n.2 };
          index = good_index n.1;
        }
