-- The Seidel sums of a chain lie in what the rows give. Cited by the sums.
use Rattle.std.proofs.Common.{◌≡◌, ℕ, zero, suc, ◌+◌, ◌-◌, ◌<◌, List, [], ◌∷◌, length, refl, sym, ap, subst, arith}
use Rattle.std.specs.Prelude.{ℤ, map, slice_get, Option, Some, Bool, true, false, if◌then◌else◌}
use Rattle.fixdec.specs.Decimal.{Decimal}
use Rattle.fixdec.specs.Frac.{Frac, ◌≈◌}
use Rattle.fixdec.specs.Member.{IsMember, Symbols}
use Rattle.fixdec.specs.Operations.{Operations, IsLawful}
use Rattle.firstorder.specs.Tracks.{OnDone, HoldsTrack, EnclosesTrack}
use Rattle.lensmodel.specs.Paraxial.FirstOrder.{Holds}
use Rattle.lensmodel.specs.Paraxial.FirstOrderRows.{Passing, onwards, ray_rows, ray_row}
use Rattle.lensmodel.specs.Paraxial.Losses.{Worked, done, gone, hull_step}
use Rattle.lensmodel.specs.Paraxial.Seidel.{FiveSums, SeidelChain, HasSumsAt, sum_to, IsSeidelChain, HoldsFive, HoldsSeidel}
use Rattle.lensmodel.specs.Paraxial.SeidelRows.{Sums, Contribution, contribution, contributions, totals, last, five, sums_attempt}
use Rattle.lensmodel.specs.Paraxial.Trace.{ParaxialRay, last_surface}
use Rattle.lensmodel.specs.Rows.Laws.{Covers}
use Rattle.lensmodel.specs.Setup.Values.{image, eps}
use Rattle.lensmodel.specs.declared.paraxial.Five.{Five}
use Rattle.lensmodel.specs.declared.paraxial.SeidelOut.{SeidelOut}
use Rattle.lensmodel.specs.declared.setup.Setup.{Setup}
use Rattle.seidel.specs.SurfaceLaws.{HoldsSums, contribution-holds}
use Rattle.seidel.specs.WholeLaws.{HoldsFrom, total-holds}

-- what is claimed of the sums of a marginal ray (y, u) and a chief ray (yb, ub)
abbrev pub EnclosesSeidel : Setup → Decimal → Decimal → Decimal → Decimal → SeidelOut → Type 0
EnclosesSeidel s y u yb ub out = (c : SeidelChain) → IsSeidelChain s y u yb ub c → HoldsSeidel out c

-- a ray has as many places as there are surfaces before the image
onwards-length : {A : Type 0} (o : Operations A) (scale : ℕ) (s : Setup) (e : ℤ) (r left j : ℕ) (y u : Worked A) → length (onwards o scale s e r left j y u) ≡ left
onwards-length o scale s e r zero j y u = refl
onwards-length o scale s e r (suc left) j y u = ap suc (onwards-length o scale s e r left (suc j) _ _)

pub ray_rows-length : {A : Type 0} (o : Operations A) (scale : ℕ) (s : Setup) (e : ℤ) (r : ℕ) (y u : Decimal) → length (ray_rows o scale s e r y u) ≡ image s - 1
unfolding ray_rows
ray_rows-length o scale s e r y u = onwards-length o scale s e r (image s - 1) 0 _ _

map-length : {A B : Type 0} (f : A → B) (all : List A) → length (map f all) ≡ length all
map-length f [] = refl
map-length f (a ∷ all) = ap suc (map-length f all)

module _ {A : Type 0} (scale : ℕ) (o : Operations A) (member : A → Symbols → Frac → Type 0) (law : IsLawful scale o member) (sy : Symbols)
    (s : Setup) (e : ℤ) (covers : Covers scale (eps s) e) (c : SeidelChain) where
  -- the sums of each surface from j + 1 on are held
  abbrev HoldsEach : ℕ → List (Contribution A) → Type 0
  HoldsEach j [] = Unit {0}
  HoldsEach j (d ∷ more) = HoldsSums member sy d.sums (c.sums_at (suc j)) × HoldsEach (suc j) more

  each-holds : ((j : ℕ) → suc j < image s → HasSumsAt s c j) → (j : ℕ) (ms bs : List (Passing A)) → j + length ms ≡ image s - 1
      → HoldsTrack member sy s c.index c.marginal j ms → HoldsTrack member sy s c.index c.chief j bs → HoldsEach j (contributions o scale s e j ms bs)
  each-holds sums j [] bs l hm hb = tt
  each-holds sums j (m ∷ ms) [] l hm hb = tt
  each-holds sums j (m ∷ ms) (b ∷ bs) l hm hb = (
    contribution-holds scale o member law sy s e covers c j m b hm.0 hb.0 (sums j (omega arith)),
    each-holds sums (suc j) ms bs (omega arith) hm.1 hb.1,
  )

  each-length : (j : ℕ) (ms bs : List (Passing A)) → length ms ≡ length bs → length (contributions o scale s e j ms bs) ≡ length ms
  each-length j [] bs l = refl
  each-length j (m ∷ ms) [] l = absurd (omega arith)
  each-length j (m ∷ ms) (b ∷ bs) l = ap suc (each-length (suc j) ms bs (omega arith))

  -- one sum of the five, surface by surface
  column-holds : (pick : Sums A → Worked A) (part : FiveSums → Frac)
      → ((v : Sums A) (f : FiveSums) → HoldsSums member sy v f → OnDone (pick v) (λ x. member x sy (part f)))
      → (j : ℕ) (all : List (Contribution A)) → HoldsEach j all
      → HoldsFrom (λ x f. member x sy f) (λ i. part (c.sums_at i)) j (map (λ d. pick d.sums) all)
  column-holds pick part get j [] h = tt
  column-holds pick part get j (d ∷ more) h = (get d.sums (c.sums_at (suc j)) h.0, column-holds pick part get (suc j) more h.1)

  whole-holds : (pick : Sums A → Worked A) (part : FiveSums → Frac)
      → ((v : Sums A) (f : FiveSums) → HoldsSums member sy v f → OnDone (pick v) (λ x. member x sy (part f)))
      → (n : ℕ) (all : List (Contribution A)) → length all ≡ last_surface s → HoldsEach 0 all
      → part c.whole ≈ sum_to (last_surface s) (λ i. part (c.sums_at i))
      → OnDone (last o scale (totals o scale n (map (λ d. pick d.sums) all))) (λ x. member x sy (part c.whole))
  whole-holds pick part get n all l h w =
      total-holds scale o member law sy (λ i. part (c.sums_at i)) n (map (λ d. pick d.sums) all) (part c.whole)
      (rw (map-length (λ d. pick d.sums) all, l) w)
      (column-holds pick part get 0 all h)

  hull-holds : (w : Worked A) (f : Frac) → OnDone w (λ x. member x sy f) → Holds scale (hull_step o.hull w) f
  hull-holds (done a) f h = law.hull sy a f h
  hull-holds (gone n why) f h = tt

  five-holds : (v : Sums A) (f : FiveSums) → HoldsSums member sy v f → HoldsFive scale (five o scale v) f
  five-holds v f h = record {
    s1 = hull-holds v.s1 f.s1 h.s1;
    s2 = hull-holds v.s2 f.s2 h.s2;
    s3 = hull-holds v.s3 f.s3 h.s3;
    s4 = hull-holds v.s4 f.s4 h.s4;
    s5 = hull-holds v.s5 f.s5 h.s5;
  }

  same_five : (a b : Five) (v : FiveSums) → Some a ≡ Some b → HoldsFive scale a v → HoldsFive scale b v
  same_five a b v e h = let same : a ≡ b = cc in subst (λ (x : Five). HoldsFive scale x v) same h

  per-holds : (j : ℕ) (all : List (Contribution A)) → HoldsEach j all
      → (i : ℕ) (x : Five) → slice_get (map (λ d. five o scale d.sums) all) i ≡ Some x → HoldsFive scale x (c.sums_at (suc (j + i)))
  per-holds j [] h i x g = cc
  per-holds j (d ∷ more) h zero x g =
      let e : j ≡ j + 0 = omega arith in
      subst (λ (m : ℕ). HoldsFive scale x (c.sums_at (suc m))) e (same_five (five o scale d.sums) x _ g (five-holds d.sums _ h.0))
  per-holds j (d ∷ more) h (suc i) x g =
      let e : suc j + i ≡ j + suc i = omega arith in
      subst (λ (m : ℕ). HoldsFive scale x (c.sums_at (suc m))) e (per-holds (suc j) more h.1 i x g)

  pub attempt-holds : (y u yb ub : Decimal) → IsSeidelChain s y u yb ub c
      → EnclosesTrack member s y u (ray_rows o scale s e 0 y u) → EnclosesTrack member s yb ub (ray_rows o scale s e 1 yb ub)
      → HoldsSeidel (sums_attempt o scale s e y u yb ub).out c
  unfolding sums_attempt
  attempt-holds y u yb ub h hm hb =
      let ms = ray_rows o scale s e 0 y u in
      let bs = ray_rows o scale s e 1 yb ub in
      let all = contributions o scale s e 0 ms bs in
      let first = hm sy c.index c.marginal h.index h.marginal in
      let second = hb sy c.index c.chief h.index h.chief in
      let long = ray_rows-length o scale s e 0 y u in
      let long' = ray_rows-length o scale s e 1 yb ub in
      let each : HoldsEach 0 all = each-holds h.sums 0 ms bs (omega (arith, long)) first second in
      let count : length all ≡ last_surface s = rw (each-length 0 ms bs (cc)) long in
      let w1 = whole-holds (λ v. v.s1) (λ f. f.s1) (λ v f k. k.s1) (ray_row (image s) 0 0) all count each h.whole.s1 in
      let w2 = whole-holds (λ v. v.s2) (λ f. f.s2) (λ v f k. k.s2) (ray_row (image s) 0 1) all count each h.whole.s2 in
      let w3 = whole-holds (λ v. v.s3) (λ f. f.s3) (λ v f k. k.s3) (ray_row (image s) 0 2) all count each h.whole.s3 in
      let w4 = whole-holds (λ v. v.s4) (λ f. f.s4) (λ v f k. k.s4) (ray_row (image s) 0 3) all count each h.whole.s4 in
      let w5 = whole-holds (λ v. v.s5) (λ f. f.s5) (λ v f k. k.s5) (ray_row (image s) 0 4) all count each h.whole.s5 in
      record {
        per = λ i x g. let e : 0 + i ≡ i = omega arith in
            subst (λ (m : ℕ). HoldsFive scale x (c.sums_at (suc m))) e (per-holds 0 all each i x g);
        whole = record { s1 = hull-holds _ c.whole.s1 w1; s2 = hull-holds _ c.whole.s2 w2; s3 = hull-holds _ c.whole.s3 w3; s4 = hull-holds _ c.whole.s4 w4; s5 = hull-holds _ c.whole.s5 w5 };
      }
