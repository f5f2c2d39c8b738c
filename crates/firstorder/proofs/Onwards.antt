-- The rows of a paraxial ray through the surfaces hold every such ray.
use Rattle.std.proofs.Common.{◌≡◌, ℕ, zero, suc, ◌+◌, ◌-◌, ◌<◌, List, [], ◌∷◌, ◌++◌, length, append_assoc, refl, arith}
use Rattle.std.specs.Prelude.{ℤ}
use Rattle.fixdec.specs.Algebra.FracLaws.{≈_sym}
use Rattle.fixdec.specs.Decimal.{Decimal}
use Rattle.fixdec.specs.Frac.{Frac}
use Rattle.fixdec.specs.Member.{Symbols}
use Rattle.fixdec.specs.Operations.{Operations, IsLawful}
use Rattle.fixdec.specs.Steps.{OnVal, OnVal-then}
use Rattle.fixdec.specs.declared.step.Step.{Step}
use Rattle.fixdec.specs.declared.step.Step.TheVariants.{Val, Empty, Lost}
use Rattle.firstorder.proofs.Advancing.{cv-member, index-member}
use Rattle.firstorder.specs.Stepped.{slope_from, height_from}
use Rattle.firstorder.specs.Tracks.{OnDone, HoldsPassing, HoldsTrack}
use Rattle.lensmodel.specs.Paraxial.FirstOrderRows.{Passing, passing, onwards, ray_rows, ray_row}
use Rattle.firstorder.specs.ParaxialLaws.{slope_behind_member, next_height_member}
use Rattle.lensmodel.specs.Paraxial.Losses.{Worked, done, gone, of_step, to_step, unless_gone, first_gone, row}
use Rattle.lensmodel.specs.Paraxial.Trace.{ParaxialRay, AreIndices, IsParaxial, IsParaxialFrom, signed_index, vertex_curvature}
use Rattle.lensmodel.specs.Paraxial.TraceRows.{vertex_curvature_row, signed_index_row}
use Rattle.lensmodel.specs.Rows.Constants.{decimal_row}
use Rattle.lensmodel.specs.Rows.Laws.{Covers, decimal_member, on_same}
use Rattle.lensmodel.specs.Setup.Values.{surface_at, image, eps}
use Rattle.lensmodel.specs.Setup.WellFormed.{IsWellFormed}
use Rattle.lensmodel.specs.declared.setup.Setup.{Setup}

-- ---- rows that may be lost
of_step-holds : {A : Type 0} (n : ℕ) (r : Step A) (P : A → Type 0) → OnVal r P → OnDone (of_step n r) P
of_step-holds n (Val a) P h = h
of_step-holds n Empty P h = absurd h
of_step-holds n (Lost why) P h = tt

unless_gone-holds : {A : Type 0} (n : ℕ) (w : Worked A) (r : Step A) (P : A → Type 0) → OnVal r P → OnDone (unless_gone n w r) P
unless_gone-holds n (done a) r P h = of_step-holds n r P h
unless_gone-holds n (gone m why) r P h = tt

pub row-holds : {A : Type 0} (n : ℕ) (needs : List (Worked A)) (r : Step A) (P : A → Type 0) → OnVal r P → OnDone (row n needs r) P
row-holds n [] r P h = of_step-holds n r P h
row-holds n (need ∷ more) r P h = unless_gone-holds n (first_gone need more) r P h

pub to_step-holds : {A : Type 0} (w : Worked A) (P : A → Type 0) → OnDone w P → OnVal (to_step w) P
to_step-holds (done a) P h = h
to_step-holds (gone n why) P h = tt

module _ {A : Type 0} (scale : ℕ) (o : Operations A) (member : A → Symbols → Frac → Type 0) (law : IsLawful scale o member)
    (s : Setup) (well : IsWellFormed s) (e : ℤ) (covers : Covers scale (eps s) e) (sy : Symbols) (index : ℕ → Frac)
    (indices : AreIndices s index) (r : ParaxialRay) (paraxial : IsParaxial s index r) where
  slope-holds : (j : ℕ) → suc j < image s → (y u cv n n2 : Step A)
      → OnVal y (λ a. member a sy (r.y (suc j))) → OnVal u (λ a. member a sy (r.u j)) → OnVal cv (λ a. member a sy (vertex_curvature s (suc j)))
      → OnVal n (λ a. member a sy (signed_index s index j)) → OnVal n2 (λ a. member a sy (signed_index s index (suc j)))
      → OnVal (slope_from o scale y u cv n n2 e) (λ a. member a sy (r.u (suc j)))
  slope-holds j l y u cv n n2 hy hu hc hn hn2 =
      OnVal-then y _ _ _ hy λ y' ky.
      OnVal-then u _ _ _ hu λ u' ku.
      OnVal-then cv _ _ _ hc λ c' kc.
      OnVal-then n _ _ _ hn λ m' kn.
      OnVal-then n2 _ _ _ hn2 λ m2 kn2.
      slope_behind_member scale o member law sy (eps s) e covers y' u' c' m' m2 _ _ _ _ _ (r.u (suc j)) ky ku kc kn kn2 (paraxial.refraction j l)

  height-holds : (j : ℕ) → suc j < image s → (y u : Step A) → OnVal y (λ a. member a sy (r.y (suc j))) → OnVal u (λ a. member a sy (r.u (suc j)))
      → OnVal (height_from o scale (surface_at s (suc j)) y u e) (λ a. member a sy (r.y (suc (suc j))))
  height-holds j l y u hy hu =
      OnVal-then y _ _ _ hy λ y' ky.
      OnVal-then u _ _ _ hu λ u' ku.
      next_height_member scale o member law sy (eps s) e covers (surface_at s (suc j)) y' u' _ _ (r.y (suc (suc j))) ky ku (paraxial.transfer j l)

  passing-holds : (k j : ℕ) → suc j < image s → (y u : Worked A) → OnDone y (λ a. member a sy (r.y (suc j))) → OnDone u (λ a. member a sy (r.u j))
      → HoldsPassing member sy s index r j (passing o scale s e k j y u)
  passing-holds k j l y u hy hu =
      let cv = row (ray_row (suc j) k 0) [] (vertex_curvature_row o scale (surface_at s (suc j))) in
      let n = row (ray_row (suc j) k 1) [] (signed_index_row o scale s e j) in
      let n2 = row (ray_row (suc j) k 2) [] (signed_index_row o scale s e (suc j)) in
      let hc : OnDone cv (λ a. member a sy (vertex_curvature s (suc j))) =
      of_step-holds (ray_row (suc j) k 0) (vertex_curvature_row o scale (surface_at s (suc j))) (λ a. member a sy (vertex_curvature s (suc j)))
      (cv-member scale o member law s well e covers sy index indices (suc j)) in
      let hn : OnDone n (λ a. member a sy (signed_index s index j)) =
      of_step-holds (ray_row (suc j) k 1) (signed_index_row o scale s e j) (λ a. member a sy (signed_index s index j))
      (index-member scale o member law s well e covers sy index indices j (omega arith)) in
      let hn2 : OnDone n2 (λ a. member a sy (signed_index s index (suc j))) =
      of_step-holds (ray_row (suc j) k 2) (signed_index_row o scale s e (suc j)) (λ a. member a sy (signed_index s index (suc j)))
      (index-member scale o member law s well e covers sy index indices (suc j) l) in
      let behind = row (ray_row (suc j) k 3) (n ∷ u ∷ y ∷ cv ∷ n2 ∷ []) (slope_from o scale (to_step y) (to_step u) (to_step cv) (to_step n) (to_step n2) e) in
      let hb : OnDone behind (λ a. member a sy (r.u (suc j))) =
      row-holds (ray_row (suc j) k 3) (n ∷ u ∷ y ∷ cv ∷ n2 ∷ []) _ (λ a. member a sy (r.u (suc j)))
      (slope-holds j l _ _ _ _ _ (to_step-holds y _ hy) (to_step-holds u _ hu) (to_step-holds cv _ hc) (to_step-holds n _ hn) (to_step-holds n2 _ hn2)) in
      record {
        y = hy;
        u = hu;
        cv = hc;
        n = hn;
        n2 = hn2;
        behind = hb;
        next = row-holds (ray_row (suc j) k 4) (y ∷ behind ∷ []) _ _ (height-holds j l _ _ (to_step-holds y _ hy) (to_step-holds behind _ hb));
      }

  onwards-holds : (k left j : ℕ) → j + left < image s → (y u : Worked A) → OnDone y (λ a. member a sy (r.y (suc j))) → OnDone u (λ a. member a sy (r.u j))
      → HoldsTrack member sy s index r j (onwards o scale s e k left j y u)
  onwards-holds k zero j l y u hy hu = tt
  onwards-holds k (suc left) j l y u hy hu =
      let here = passing-holds k j (omega arith) y u hy hu in
      (here, onwards-holds k left (suc j) (omega arith) _ _ here.next here.behind)

-- the rows of ray k hold every ray that starts so
pub ray_rows-hold : {A : Type 0} (scale : ℕ) (o : Operations A) (member : A → Symbols → Frac → Type 0) (law : IsLawful scale o member)
    (s : Setup) (well : IsWellFormed s) (e : ℤ) (covers : Covers scale (eps s) e) (sy : Symbols) (index : ℕ → Frac)
    (indices : AreIndices s index) (r : ParaxialRay) (k : ℕ) (y u : Decimal) → 0 < image s → IsParaxialFrom s index y u r
    → HoldsTrack member sy s index r 0 (ray_rows o scale s e k y u)
unfolding ray_rows
ray_rows-hold scale o member law s well e covers sy index indices r k y u l h =
    onwards-holds scale o member law s well e covers sy index indices r h.trace k (image s - 1) 0 (omega arith) _ _
    (of_step-holds (ray_row 0 k 0) (decimal_row o scale y) (λ a. member a sy (r.y 1)) (on_same scale o member law sy (decimal_row o scale y) _ _ (≈_sym h.height) (decimal_member scale o member law sy y)))
    (of_step-holds (ray_row 0 k 1) (decimal_row o scale u) (λ a. member a sy (r.u 0)) (on_same scale o member law sy (decimal_row o scale u) _ _ (≈_sym h.slope) (decimal_member scale o member law sy u)))

-- ---- how many, and one more
onwards-length : {A : Type 0} (o : Operations A) (scale : ℕ) (s : Setup) (e : ℤ) (k left j : ℕ) (y u : Worked A)
    → length (onwards o scale s e k left j y u) ≡ left
onwards-length o scale s e k zero j y u = refl
onwards-length o scale s e k (suc left) j y u =
    let here = passing o scale s e k j y u in
    let more : length (onwards o scale s e k left (suc j) here.next here.behind) ≡ left = onwards-length o scale s e k left (suc j) here.next here.behind in
    omega arith

pub ray_rows-length : {A : Type 0} (o : Operations A) (scale : ℕ) (s : Setup) (e : ℤ) (k : ℕ) (y u : Decimal)
    → length (ray_rows o scale s e k y u) ≡ image s - 1
unfolding ray_rows
ray_rows-length o scale s e k y u = onwards-length o scale s e k (image s - 1) 0 _ _

-- the rows that are left from behind surface j, after some that are there
pub onwards-next : {A : Type 0} (o : Operations A) (scale : ℕ) (s : Setup) (e : ℤ) (k n j : ℕ) (y u : Worked A) (before : List (Passing A)) → j < n
    → let here = passing o scale s e k j y u in
    before ++ onwards o scale s e k (n - j) j y u ≡ (before ++ here ∷ []) ++ onwards o scale s e k (n - (j + 1)) (j + 1) here.next here.behind
onwards-next o scale s e k n j y u before l =
    let left : n - j ≡ suc (n - (j + 1)) = omega arith in
    let next : j + 1 ≡ suc j = omega arith in
    rw (left, next, append_assoc) refl
