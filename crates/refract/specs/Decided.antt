-- Setups of small numbers that are well formed because a test says so, which computes.
use Rattle.std.proofs.Common.{◌≡◌, ℕ, zero, suc, ◌+◌, ◌*◌, ◌^◌, ◌<◌, Bool, true, false, ap, ◌∙◌, refl, arith, subst}
use Rattle.std.proofs.Math.Path.{fun_ext}
use Rattle.std.proofs.lemmas.Bool.{cond_both, leb-true}
use Rattle.std.proofs.lemmas.Bool.Decides.{nat_tests}
use Rattle.std.proofs.lemmas.Int.{ints}
use Rattle.std.proofs.lemmas.List.Elements.{All-nil, All-cons}
use Rattle.std.proofs.lemmas.List.Kept.{AllPairs-cons}
use Rattle.std.specs.Prelude.{pos, negsuc, cond, int_le, int_lt, nat_le, nat_lt, nat_eq, not, ◌&&◌, List, [], ◌∷◌, length, slice_index_or, All, AllPairs, IsTrue, Option, Some, None, is_none, if◌then◌else◌}
use Rattle.fixdec.specs.Algebra.RootLaws.{root_is, root_unique}
use Rattle.fixdec.specs.Decimal.{Decimal}
use Rattle.fixdec.specs.Ends.{Ends}
use Rattle.fixdec.specs.Interval.{ends, positive_part, iv_plus, iv_minus, iv_times, iv_square, iv_over, iv_root, iv_widen, iv_shift, iv_clip}
use Rattle.fixdec.specs.IntervalOperations.{operations}
use Rattle.fixdec.specs.Operations.{Operations}
use Rattle.fixdec.specs.Root.{root}
use Rattle.fixdec.specs.declared.step.Step.{Step}
use Rattle.fixdec.specs.declared.step.Step.TheVariants.{Empty}
use Rattle.lensmodel.specs.Equations.Dispersion.{IsKnown}
use Rattle.lensmodel.specs.Files.Catalogue.{is_used}
use Rattle.lensmodel.specs.Files.Picking.{is_good_index}
use Rattle.lensmodel.specs.Rows.Constants.{residual_units}
use Rattle.lensmodel.specs.Rows.Preparation.{index_row}
use Rattle.lensmodel.specs.Setup.Media.{has_tolerance}
use Rattle.lensmodel.specs.Setup.Ranges.{is_positive, is_not_negative, is_residual, is_width, has_place}
use Rattle.lensmodel.specs.Setup.Values.{plane, zero_decimal, surface_at, image, reflects, stands_on, tolerances}
use Rattle.lensmodel.specs.Setup.WellFormed.{IsWellFormed, IsSound, IsWritten, IsWrittenIf, IsWrittenSurface, IsBox, HasMedia, HasBox, HasGoodIndex}
use Rattle.lensmodel.specs.Setup.WholeFaults.{whole_fault}
use Rattle.lensmodel.specs.declared.glass.Medium.{Medium}
use Rattle.lensmodel.specs.declared.glass.Medium.TheVariants.{Air, Of}
use Rattle.lensmodel.specs.declared.setup.Setup.{Setup}
use Rattle.lensmodel.specs.declared.surface.Surface.{Surface}
use Rattle.lensmodel.specs.declared.tolerance.Tol.{Tol}
use Rattle.lensmodel.specs.declared.tolerance.TolKind.TheVariants.{Indx}

-- ---- truths
both_true : (a b : Bool) → IsTrue (a && b) → IsTrue a × IsTrue b
both_true true true e = (refl, refl)
both_true true false e = cc
both_true false b e = cc

not_second : (a b : Bool) → IsTrue (not (a && b)) → IsTrue a → IsTrue (not b)
not_second true b e h = e
not_second false b e h = cc

none_of : {X : Type 0} (o : Option X) → IsTrue (is_none o) → o ≡ None
none_of None e = refl
none_of (Some x) e = cc

-- ---- lists
abbrev pub every : {X : Type 0} → (X → Bool) → List X → Bool
every f [] = true
every f (x ∷ xs) = f x && every f xs

every-all : {X : Type 0} (P : X → Type 0) (f : X → Bool) → ((x : X) → IsTrue (f x) → P x) → (xs : List X) → IsTrue (every f xs) → All P xs
every-all P f h [] t = All-nil P
every-all P f h (x ∷ xs) t = let p = both_true (f x) (every f xs) t in All-cons P x xs (h x p.0) (every-all P f h xs p.1)

abbrev pub apart : {X : Type 0} → (X → X → Bool) → List X → Bool
apart f [] = true
apart f (x ∷ xs) = every (f x) xs && apart f xs

apart-all : {X : Type 0} (f : X → X → Bool) (xs : List X) → IsTrue (apart f xs) → AllPairs (λ t u. IsTrue (f t u)) xs
apart-all f [] t = λ i j d lt within. absurd (omega arith)
apart-all f (x ∷ xs) t =
    let p = both_true (every (f x) xs) (apart f xs) t in
    AllPairs-cons (λ t u. IsTrue (f t u)) x xs (every-all (λ u. IsTrue (f x u)) (f x) (λ u h. h) xs p.0) (apart-all f xs p.1)

abbrev pub below : ℕ → (ℕ → Bool) → Bool
below zero f = true
below (suc n) f = f 0 && below n (λ j. f (suc j))

below-each : (n : ℕ) (f : ℕ → Bool) → IsTrue (below n f) → (j : ℕ) → j < n → IsTrue (f j)
below-each zero f t j lt = absurd (omega arith)
below-each (suc n) f t zero lt = (both_true (f 0) (below n (λ j. f (suc j))) t).0
below-each (suc n) f t (suc j) lt = below-each n (λ j. f (suc j)) (both_true (f 0) (below n (λ j. f (suc j))) t).1 j (omega arith)

-- ---- surfaces as they are written
abbrev pub is_written : Decimal → Bool
is_written d = int_le (negsuc 59) d.exp && int_le d.exp (pos 30)

written : (d : Decimal) → IsTrue (is_written d) → IsWritten d
written d t =
    let p = both_true (int_le (negsuc 59) d.exp) (int_le d.exp (pos 30)) t in
    record { low = grind (arith, ints); high = grind (arith, ints) }

abbrev pub is_written_if : Option Decimal → Bool
is_written_if None = true
is_written_if (Some d) = is_written d

written_if : (d : Option Decimal) → IsTrue (is_written_if d) → IsWrittenIf d
written_if None t = tt
written_if (Some d) t = written d t

abbrev decimals : Surface → List Decimal
decimals f = f.curv ∷ f.conic ∷ f.a1 ∷ f.a2 ∷ f.a3 ∷ f.a4 ∷ f.a5 ∷ f.a6 ∷ f.a7 ∷ f.a8 ∷ []

abbrev pub is_written_surface : Surface → Bool
is_written_surface f = (is_written_if f.thick && is_written_if f.semi) && every is_written (decimals f)

written_surface : (f : Surface) → IsTrue (is_written_surface f) → IsWrittenSurface f
written_surface f t =
    let p = both_true (is_written_if f.thick && is_written_if f.semi) (every is_written (decimals f)) t in
    let q = both_true (is_written_if f.thick) (is_written_if f.semi) p.0 in
    let w = every-all IsWritten is_written written (decimals f) p.1 in
    record {
      curv = w 0 zero_decimal (omega arith);
      conic = w 1 zero_decimal (omega arith);
      thick = written_if f.thick q.0;
      semi = written_if f.semi q.1;
      a1 = w 2 zero_decimal (omega arith);
      a2 = w 3 zero_decimal (omega arith);
      a3 = w 4 zero_decimal (omega arith);
      a4 = w 5 zero_decimal (omega arith);
      a5 = w 6 zero_decimal (omega arith);
      a6 = w 7 zero_decimal (omega arith);
      a7 = w 8 zero_decimal (omega arith);
      a8 = w 9 zero_decimal (omega arith);
    }

-- ---- media
abbrev pub is_air : Medium → Bool
is_air Air = true
is_air (Of g) = false

abbrev pub is_known : Medium → Bool
is_known Air = true
is_known (Of g) = is_used g.formula

known : (m : Medium) → IsTrue (is_known m) → IsKnown m
known Air t = tt
known (Of g) t = grind (arith, nat_tests)

abbrev pub has_air : List Surface → List Medium → Bool
has_air [] media = true
has_air (f ∷ fs) [] = true
has_air (f ∷ fs) (m ∷ ms) = not (f.mirror && not (is_air m)) && has_air fs ms

air_of : (m : Medium) → IsTrue (not (not (is_air m))) → m ≡ Air
air_of Air t = refl
air_of (Of g) t = cc

air_at : (fs : List Surface) (ms : List Medium) (j : ℕ) → IsTrue (has_air fs ms) → IsTrue (slice_index_or fs j plane).mirror → slice_index_or ms j Air ≡ Air
air_at [] ms j t h = cc
air_at (f ∷ fs) [] j t h = refl
air_at (f ∷ fs) (m ∷ ms) zero t h = air_of m (not_second f.mirror (not (is_air m)) (both_true (not (f.mirror && not (is_air m))) (has_air fs ms) t).0 h)
air_at (f ∷ fs) (m ∷ ms) (suc j) t h = air_at fs ms j (both_true (not (f.mirror && not (is_air m))) (has_air fs ms) t).1 h

-- ---- roots that compute: a candidate is found digit by digit, and tried
abbrev digits : ℕ → ℕ → ℕ → ℕ
digits n r zero = r
digits n r (suc k) = digits n (cond (nat_le ((r + 2 ^ k) * (r + 2 ^ k)) n) (r + 2 ^ k) r) k

abbrev is_root : ℕ → ℕ → Bool
is_root n r = nat_le (r * r) n && nat_le (suc n) ((r + 1) * (r + 1))

is_the_root : (n r : ℕ) → is_root n r ≡ true → r ≡ root n
is_the_root n r e =
    let h = both_true (nat_le (r * r) n) (nat_le (suc n) ((r + 1) * (r + 1))) e in
    root_unique n r (root n) (record { low = leb-true _ _ h.0; high = leb-true _ _ h.1 }) (root_is n)

abbrev tried : ℕ → ℕ → ℕ
tried n r = cond (is_root n r) r (root n)

abbrev pub tried_root : ℕ → ℕ
tried_root n = tried n (digits n 0 60)

tried_is : (n r : ℕ) → tried n r ≡ root n
tried_is n r = cond_both (is_root n r) r (root n) (λ x. x ≡ root n) (is_the_root n r) (λ e. refl)

abbrev up_by : (ℕ → ℕ) → ℕ → ℕ
up_by f n = let r = f n in cond (nat_eq (r * r) n) r (r + 1)

abbrev root_of : (ℕ → ℕ) → ℕ → Ends → Step Ends
root_of f scale a =
    if int_lt a.hi (pos 0)
    then Empty
    else ends (pos (f (positive_part a.lo * 10 ^ scale))) (pos (up_by f (positive_part a.hi * 10 ^ scale)))

-- interval arithmetic with another root
abbrev pub operations_by : (ℕ → ℕ) → ℕ → Operations Ends
operations_by f scale = record {
  of_span = λ a. a;
  hull = λ a. a;
  plus = iv_plus;
  minus = iv_minus;
  times = iv_times scale;
  square = iv_square scale;
  over = iv_over scale;
  root = root_of f scale;
  widen = iv_widen;
  shift = iv_shift;
  clip = iv_clip;
  symbol = λ a i delta. iv_widen a delta.hi;
}

whole_operations : operations_by root ≡ operations
unfolding operations iv_root
whole_operations = refl

same_operations : operations_by tried_root ≡ operations
same_operations = ap operations_by (fun_ext (λ n. tried_is n (digits n 0 60))) ∙ whole_operations

-- ---- a setup
abbrev pub has_index : Setup → ℕ → Bool
has_index s j = is_good_index (index_row (operations_by tried_root 12) 12 s (residual_units 12 s.res) j)

abbrev pub is_box : ℕ → List Tol → Bool
is_box last list =
    (nat_le (length list) 32 && every (λ t. is_not_negative t.delta) list)
    && (every (λ t. has_place last t.kind t.surface) list && apart (λ t u. not (stands_on t.kind t.surface u)) list)

box_of : (last : ℕ) (list : List Tol) → IsTrue (is_box last list) → IsBox last list
box_of last list t =
    let p = both_true (nat_le (length list) 32 && every (λ t. is_not_negative t.delta) list)
    (every (λ t. has_place last t.kind t.surface) list && apart (λ t u. not (stands_on t.kind t.surface u)) list) t in
    let q = both_true (nat_le (length list) 32) (every (λ t. is_not_negative t.delta) list) p.0 in
    let r = both_true (every (λ t. has_place last t.kind t.surface) list) (apart (λ t u. not (stands_on t.kind t.surface u)) list) p.1 in
    record {
      count = leb-true _ _ q.0;
      deltas = every-all (λ t. IsTrue (is_not_negative t.delta)) (λ t. is_not_negative t.delta) (λ t h. h) list q.1;
      places = every-all (λ t. IsTrue (has_place last t.kind t.surface)) (λ t. has_place last t.kind t.surface) (λ t h. h) list r.0;
      once = apart-all (λ t u. not (stands_on t.kind t.surface u)) list r.1;
    }

abbrev pub has_no_mirror_index : Setup → ℕ → Bool
has_no_mirror_index s j = not ((surface_at s j).mirror && has_tolerance (tolerances s.toler) Indx j)

-- what is asked of the surfaces, of the media, and of the rest
abbrev pub are_surfaces : Setup → Bool
are_surfaces s = every is_written_surface s.lens.surfaces.items && every is_written_if s.lens.waves.items

abbrev pub are_media : Setup → Bool
are_media s = every is_known s.media.items && has_air s.lens.surfaces.items s.media.items

abbrev pub are_numbers : Setup → Bool
are_numbers s = is_positive s.wave && (is_residual s.res && is_width s.width)

abbrev pub is_boxed : Setup → Bool
is_boxed s = is_box (image s) (tolerances s.toler) && below (image s) (has_no_mirror_index s)

module _ (s : Setup) where
  reflecting : (j : ℕ) → IsTrue (reflects s j) → IsTrue (surface_at s j).mirror × (j < image s)
  reflecting j h = let b = both_true (surface_at s j).mirror (nat_lt j (image s)) h in (b.0, grind (arith, nat_tests))

  sound : IsTrue (is_none (whole_fault s.lens)) → IsTrue (are_surfaces s) → IsSound s.lens
  sound whole t =
      let p = both_true (every is_written_surface s.lens.surfaces.items) (every is_written_if s.lens.waves.items) t in
      record {
        whole = none_of (whole_fault s.lens) whole;
        written = record {
          surfaces = every-all IsWrittenSurface is_written_surface written_surface s.lens.surfaces.items p.0;
          waves = every-all IsWrittenIf is_written_if written_if s.lens.waves.items p.1;
        };
      }

  media_of : length s.media.items ≡ image s → IsTrue (are_media s) → HasMedia s
  media_of count t =
      let p = both_true (every is_known s.media.items) (has_air s.lens.surfaces.items s.media.items) t in
      record {
        count = count;
        known = every-all IsKnown is_known known s.media.items p.0;
        mirrors = λ j h. air_at s.lens.surfaces.items s.media.items j p.1 (reflecting j h).0;
      }

  boxed : IsTrue (is_boxed s) → HasBox s
  boxed t =
      let p = both_true (is_box (image s) (tolerances s.toler)) (below (image s) (has_no_mirror_index s)) t in
      record {
        box = box_of (image s) (tolerances s.toler) p.0;
        mirrors = λ j h.
            let r = reflecting j h in
            not_second (surface_at s j).mirror (has_tolerance (tolerances s.toler) Indx j) (below-each (image s) (has_no_mirror_index s) p.1 j r.1) r.0;
      }

  indexed : IsTrue (below (image s) (has_index s)) → (j : ℕ) → j < image s → HasGoodIndex s j
  indexed t j l =
      subst (λ (o : ℕ → Operations Ends). IsTrue (is_good_index (index_row (o 12) 12 s (residual_units 12 s.res) j))) same_operations
      (below-each (image s) (has_index s) t j l)

  pub well_formed : IsTrue (is_none (whole_fault s.lens)) → IsTrue (are_surfaces s) → length s.media.items ≡ image s → IsTrue (are_media s)
      → IsTrue (are_numbers s) → IsTrue (is_boxed s) → IsTrue (below (image s) (has_index s)) → IsWellFormed s
  well_formed whole surfaces count media numbers box index =
      let p = both_true (is_positive s.wave) (is_residual s.res && is_width s.width) numbers in
      let q = both_true (is_residual s.res) (is_width s.width) p.1 in
      record {
        lens = sound whole surfaces;
        media = media_of count media;
        wave = p.0;
        residual = q.0;
        width = q.1;
        toler = boxed box;
        index = λ j l h. indexed index j l;
      }
