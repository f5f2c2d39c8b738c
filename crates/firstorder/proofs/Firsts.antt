-- The rows of the first-order values hold the values of every chain.
use Rattle.std.proofs.Common.{◌≡◌, ℕ, zero, suc, ◌+◌, ◌-◌, ◌<◌, ◌≤◌, List, [], ◌∷◌, length, subst, arith}
use Rattle.std.proofs.lemmas.Int.{ints}
use Rattle.std.specs.Prelude.{ℤ, pos, negsuc, min, slice_get, slice_index_or, Some}
use Rattle.fixdec.specs.Algebra.FracLaws.{≈_sym}
use Rattle.fixdec.specs.Algebra.Order.{le_whole}
use Rattle.fixdec.specs.Decimal.{Decimal}
use Rattle.fixdec.specs.Ends.{Ends}
use Rattle.fixdec.specs.Frac.{Frac, ◌≈◌, ◌-Q◌, ◌*Q◌, neg_Q, whole}
use Rattle.fixdec.specs.Member.{Symbols}
use Rattle.fixdec.specs.Operations.{Operations, IsLawful}
use Rattle.fixdec.specs.Steps.{OnVal-then}
use Rattle.fixdec.specs.declared.step.Step.{Step}
use Rattle.firstorder.proofs.Onwards.{row-holds, to_step-holds, ray_rows-hold, ray_rows-length}
use Rattle.firstorder.specs.Stepped.{minus_from, over_from, minus_over_from, efl_from, front_from}
use Rattle.firstorder.specs.Tracks.{OnDone, HoldsPassing, HoldsTrack}
use Rattle.lensmodel.specs.Equations.Residual.{IsWithin}
use Rattle.lensmodel.specs.Paraxial.FirstOrder.{FirstChain, IsFirstChain, Holds, HoldsFirst, one_decimal}
use Rattle.lensmodel.specs.Paraxial.FirstOrderRows.{Passing, ray_rows, ray_row, first_of, last_of, heights, height_at, nothing, trail_of, enp_rows, value_rows, first_attempt}
use Rattle.firstorder.specs.ParaxialLaws.{over_member, minus_over_member, efl_member, front_member}
use Rattle.lensmodel.specs.Paraxial.Losses.{Worked, done, gone, to_step, hull_step, row}
use Rattle.lensmodel.specs.Paraxial.Trace.{ParaxialRay, signed_index, last_surface}
use Rattle.lensmodel.specs.Rows.Laws.{Covers, on_same}
use Rattle.lensmodel.specs.Setup.Values.{zero_decimal, image, eps}
use Rattle.lensmodel.specs.Setup.WellFormed.{IsWellFormed}
use Rattle.lensmodel.specs.declared.setup.Setup.{Setup}

module _ {A : Type 0} (scale : ℕ) (o : Operations A) (member : A → Symbols → Frac → Type 0) (law : IsLawful scale o member)
    (s : Setup) (e : ℤ) (covers : Covers scale (eps s) e) (sy : Symbols) (index : ℕ → Frac) where
  hull-holds : (w : Worked A) (v : Frac) → OnDone w (λ a. member a sy v) → Holds scale (hull_step o.hull w) v
  hull-holds (done a) v h = law.hull sy a v h
  hull-holds (gone n why) v h = tt

  -- ---- parts of a ray
  first-holds : (r : ParaxialRay) (j : ℕ) (ps : List (Passing A)) → 0 < length ps → HoldsTrack member sy s index r j ps
      → HoldsPassing member sy s index r j (first_of ps)
  first-holds r j [] l h = absurd (omega arith)
  first-holds r j (p ∷ more) l h = h.0

  last-holds : (r : ParaxialRay) (j : ℕ) (ps : List (Passing A)) → 0 < length ps → HoldsTrack member sy s index r j ps
      → HoldsPassing member sy s index r (j + (length ps - 1)) (last_of ps)
  last-holds r j [] l h = absurd (omega arith)
  last-holds r j (p ∷ []) l h =
      let place : j ≡ j + 0 = omega arith in
      subst (λ (k : ℕ). HoldsPassing member sy s index r k p) place h.0
  last-holds r j (p ∷ q ∷ more) l h =
      let place : suc j + (length (q ∷ more) - 1) ≡ j + (length (p ∷ q ∷ more) - 1) = omega arith in
      subst (λ (k : ℕ). HoldsPassing member sy s index r k (last_of (q ∷ more))) place (last-holds r (suc j) (q ∷ more) (omega arith) h.1)

  heights-hold : (r : ParaxialRay) (j : ℕ) (ps : List (Passing A)) (i : ℕ) → HoldsTrack member sy s index r j ps
      → OnDone (slice_index_or (heights ps) i nothing) (λ a. member a sy (r.y (suc (j + i))))
  heights-hold r j [] i h = tt
  heights-hold r j (p ∷ []) zero h =
      let place : suc j ≡ suc (j + 0) = omega arith in
      subst (λ (k : ℕ). OnDone p.y (λ a. member a sy (r.y k))) place h.0.y
  heights-hold r j (p ∷ []) (suc zero) h =
      let place : suc (suc j) ≡ suc (j + 1) = omega arith in
      subst (λ (k : ℕ). OnDone p.next (λ a. member a sy (r.y k))) place h.0.next
  heights-hold r j (p ∷ []) (suc (suc i)) h = tt
  heights-hold r j (p ∷ q ∷ more) zero h =
      let place : suc j ≡ suc (j + 0) = omega arith in
      subst (λ (k : ℕ). OnDone p.y (λ a. member a sy (r.y k))) place h.0.y
  heights-hold r j (p ∷ q ∷ more) (suc i) h =
      let place : suc (suc j + i) ≡ suc (j + suc i) = omega arith in
      subst (λ (k : ℕ). OnDone (slice_index_or (heights (q ∷ more)) i nothing) (λ a. member a sy (r.y k))) place (heights-hold r (suc j) (q ∷ more) i h.1)

  -- a height and a slope of the trail
  abbrev HoldsPair : ParaxialRay → ℕ → ℕ → (Step Ends × Step Ends) → Type 0
  HoldsPair r k m p = Holds scale p.0 (r.y k) × Holds scale p.1 (r.u m)

  abbrev pair : Worked A → Worked A → Step Ends × Step Ends
  pair y u = (hull_step o.hull y, hull_step o.hull u)

  pair-holds : (r : ParaxialRay) (k k' m m' : ℕ) (y u : Worked A) (p : Step Ends × Step Ends) → k ≡ k' → m ≡ m'
      → OnDone y (λ a. member a sy (r.y k)) → OnDone u (λ a. member a sy (r.u m)) → pair y u ≡ p → HoldsPair r k' m' p
  pair-holds r k k' m m' y u p ek em hy hu e =
      subst (HoldsPair r k' m') e (
        subst (λ (i : ℕ). Holds scale (hull_step o.hull y) (r.y i)) ek (hull-holds y (r.y k) hy),
        subst (λ (i : ℕ). Holds scale (hull_step o.hull u) (r.u i)) em (hull-holds u (r.u m) hu),
      )

  trail-holds : (r : ParaxialRay) (last j : ℕ) (ps : List (Passing A)) (i : ℕ) (p : Step Ends × Step Ends) → j + length ps ≡ last
      → HoldsTrack member sy s index r j ps → slice_get (trail_of o.hull ps) i ≡ Some p → HoldsPair r (suc (j + i)) (min (suc (j + i)) last) p
  trail-holds r last j [] i p n h e = cc
  trail-holds r last j (a ∷ []) zero p n h e =
      pair-holds r (suc j) _ (suc j) _ a.y a.behind p (omega arith) (omega arith) h.0.y h.0.behind (cc)
  trail-holds r last j (a ∷ []) (suc zero) p n h e =
      pair-holds r (suc (suc j)) _ (suc j) _ a.next a.behind p (omega arith) (omega arith) h.0.next h.0.behind (cc)
  trail-holds r last j (a ∷ []) (suc (suc i)) p n h e = cc
  trail-holds r last j (a ∷ b ∷ more) zero p n h e =
      pair-holds r (suc j) _ (suc j) _ a.y a.behind p (omega arith) (omega arith) h.0.y h.0.behind (cc)
  trail-holds r last j (a ∷ b ∷ more) (suc i) p n h e =
      let place : suc (suc j + i) ≡ suc (j + suc i) = omega arith in
      subst (λ (k : ℕ). HoldsPair r k (min k last) p) place (trail-holds r last (suc j) (b ∷ more) i p (omega arith) h.1 e)

  -- ---- values
  efl-holds : (n : ℕ) (ca : Worked A) (CA efl : Frac) → OnDone ca (λ a. member a sy CA) → IsWithin (eps s) (efl *Q CA) (whole (negsuc 0))
      → OnDone (row n (ca ∷ []) (efl_from o scale s e (to_step ca))) (λ a. member a sy efl)
  efl-holds n ca CA efl h w =
      row-holds n (ca ∷ []) _ _ (OnVal-then (to_step ca) _ _ _ (to_step-holds ca _ h) λ x hx.
      efl_member scale o member law sy (eps s) e covers x CA efl hx w s)

  minus_over-holds : (n : ℕ) (a b : Worked A) (u v w : Frac) → OnDone a (λ x. member x sy u) → OnDone b (λ x. member x sy v) → IsWithin (eps s) (w *Q v) (neg_Q u)
      → OnDone (row n (a ∷ b ∷ []) (minus_over_from o scale s e (to_step a) (to_step b))) (λ x. member x sy w)
  minus_over-holds n a b u v w ha hb h =
      row-holds n (a ∷ b ∷ []) _ _ (OnVal-then (to_step a) _ _ _ (to_step-holds a _ ha) λ x hx.
      OnVal-then (to_step b) _ _ _ (to_step-holds b _ hb) λ y hy.
      minus_over_member scale o member law sy (eps s) e covers x y u v w hx hy h s)

  over-holds : (n : ℕ) (a b : Worked A) (u v w : Frac) → OnDone a (λ x. member x sy u) → OnDone b (λ x. member x sy v) → IsWithin (eps s) (w *Q v) u
      → OnDone (row n (a ∷ b ∷ []) (over_from o scale s e (to_step a) (to_step b))) (λ x. member x sy w)
  over-holds n a b u v w ha hb h =
      row-holds n (a ∷ b ∷ []) _ _ (OnVal-then (to_step a) _ _ _ (to_step-holds a _ ha) λ x hx.
      OnVal-then (to_step b) _ _ _ (to_step-holds b _ hb) λ y hy.
      over_member scale o member law sy (eps s) e covers x y u v w hx hy h s)

  -- the back principal point
  back-holds : (n : ℕ) (a b : Worked A) (u v w : Frac) → OnDone a (λ x. member x sy u) → OnDone b (λ x. member x sy v) → w ≈ u -Q v
      → OnDone (row n (a ∷ b ∷ []) (minus_from o (to_step a) (to_step b))) (λ x. member x sy w)
  back-holds n a b u v w ha hb h =
      row-holds n (a ∷ b ∷ []) _ _ (OnVal-then (to_step a) _ _ _ (to_step-holds a _ ha) λ x hx.
      OnVal-then (to_step b) _ _ _ (to_step-holds b _ hb) λ y hy.
      on_same scale o member law sy (o.minus x y) (u -Q v) w (≈_sym h) (law.minus sy x y u v hx hy))

  front-holds : (n : ℕ) (a n0 b nk : Worked A) (ffl N0 efl NK f front : Frac) → OnDone a (λ x. member x sy ffl) → OnDone n0 (λ x. member x sy N0)
      → OnDone b (λ x. member x sy efl) → OnDone nk (λ x. member x sy NK) → f *Q NK ≈ neg_Q (N0 *Q efl) → front ≈ ffl -Q f
      → OnDone (row n (a ∷ n0 ∷ b ∷ nk ∷ []) (front_from o scale s e (to_step a) (to_step n0) (to_step b) (to_step nk))) (λ x. member x sy front)
  front-holds n a n0 b nk ffl N0 efl NK f front ha hn0 hb hnk hf hfront =
      row-holds n (a ∷ n0 ∷ b ∷ nk ∷ []) _ _ (OnVal-then (to_step a) _ _ _ (to_step-holds a _ ha) λ x hx.
      OnVal-then (to_step n0) _ _ _ (to_step-holds n0 _ hn0) λ y hy.
      OnVal-then (to_step b) _ _ _ (to_step-holds b _ hb) λ z hz.
      OnVal-then (to_step nk) _ _ _ (to_step-holds nk _ hnk) λ w hw.
      front_member scale o member law sy (eps s) e covers x y z w ffl N0 efl NK f front hx hy hz hw hf hfront s)

  height-holds : (r : ParaxialRay) (ps : List (Passing A)) (j : ℕ) → HoldsTrack member sy s index r 0 ps
      → OnDone (height_at (suc j) ps) (λ a. member a sy (r.y (suc j)))
  height-holds r ps j h =
      let before : suc j - 1 ≡ j = omega arith in
      let same : 0 + j ≡ j = omega arith in
      rw before (rw same at (heights-hold r 0 ps j h))

  enp-holds : (stop : ℕ) (ra rb : ParaxialRay) (a b : List (Passing A)) (enp : Frac) → HoldsTrack member sy s index ra 0 a → HoldsTrack member sy s index rb 0 b
      → (0 < stop → IsWithin (eps s) (enp *Q ra.y stop) (rb.y stop)) → 0 < stop → OnDone (enp_rows o scale s e stop a b) (λ x. member x sy enp)
  enp-holds zero ra rb a b enp ha hb h l = tt
  enp-holds (suc stop) ra rb a b enp ha hb h l =
      over-holds (ray_row (image s) 0 5) (height_at (suc stop) b) (height_at (suc stop) a) (rb.y (suc stop)) (ra.y (suc stop)) enp
      (height-holds rb b stop hb) (height-holds ra a stop ha) (h l)

-- what the ray leaves behind the surface before the image
record HoldsLast {A : Type 0} (member : A → Symbols → Frac → Type 0) (sy : Symbols) (s : Setup) (index : ℕ → Frac) (r : ParaxialRay) (p : Passing A) : Type 0 where
  y : OnDone p.y (λ a. member a sy (r.y (last_surface s)))
  n2 : OnDone p.n2 (λ a. member a sy (signed_index s index (last_surface s)))
  behind : OnDone p.behind (λ a. member a sy (r.u (last_surface s)))

at_last : {A : Type 0} (member : A → Symbols → Frac → Type 0) (sy : Symbols) (s : Setup) (index : ℕ → Frac) (r : ParaxialRay) (p : Passing A) (k : ℕ)
    → suc k ≡ last_surface s → HoldsPassing member sy s index r k p → HoldsLast member sy s index r p
at_last member sy s index r p k place h = record {
  y = subst (λ (i : ℕ). OnDone p.y (λ a. member a sy (r.y i))) place h.y;
  n2 = subst (λ (i : ℕ). OnDone p.n2 (λ a. member a sy (signed_index s index i))) place h.n2;
  behind = subst (λ (i : ℕ). OnDone p.behind (λ a. member a sy (r.u i))) place h.behind;
}

pub first_attempt-holds : {A : Type 0} (scale : ℕ) (o : Operations A) (member : A → Symbols → Frac → Type 0) (law : IsLawful scale o member)
    (s : Setup) (well : IsWellFormed s) (e : ℤ) (covers : Covers scale (eps s) e) (sy : Symbols) (y u : Decimal) (c : FirstChain)
    → 3 ≤ length s.lens.surfaces.items → IsFirstChain s y u c → HoldsFirst s (first_attempt o scale s e y u).out c
unfolding first_attempt
first_attempt-holds scale o member law s well e covers sy y u c few h =
    let i = c.index in
    let a = ray_rows o scale s e 0 one_decimal zero_decimal in
    let b = ray_rows o scale s e 1 zero_decimal one_decimal in
    let asked = ray_rows o scale s e 2 y u in
    let na : length a ≡ image s - 1 = ray_rows-length o scale s e 0 one_decimal zero_decimal in
    let nb : length b ≡ image s - 1 = ray_rows-length o scale s e 1 zero_decimal one_decimal in
    let nasked : length asked ≡ image s - 1 = ray_rows-length o scale s e 2 y u in
    let ha : HoldsTrack member sy s i c.a 0 a = ray_rows-hold scale o member law s well e covers sy i h.index c.a 0 _ _ (omega arith) h.a in
    let hb : HoldsTrack member sy s i c.b 0 b = ray_rows-hold scale o member law s well e covers sy i h.index c.b 1 _ _ (omega arith) h.b in
    let hasked : HoldsTrack member sy s i c.asked 0 asked = ray_rows-hold scale o member law s well e covers sy i h.index c.asked 2 _ _ (omega arith) h.asked in
    let fa = first-holds scale o member law s e covers sy i c.a 0 a (omega arith) ha in
    let la : HoldsLast member sy s i c.a (last_of a) =
    at_last member sy s i c.a (last_of a) (0 + (length a - 1)) (omega arith) (last-holds scale o member law s e covers sy i c.a 0 a (omega arith) ha) in
    let lb : HoldsLast member sy s i c.b (last_of b) =
    at_last member sy s i c.b (last_of b) (0 + (length b - 1)) (omega arith) (last-holds scale o member law s e covers sy i c.b 0 b (omega arith) hb) in
    let k = last_surface s in
    let ca = (last_of a).behind in
    let cb = (last_of b).behind in
    let ya = (last_of a).y in
    let v = value_rows o scale s e a b in
    let efl : OnDone v.efl (λ x. member x sy c.efl) = efl-holds scale o member law s e covers sy i (ray_row (image s) 0 0) ca (c.a.u k) c.efl la.behind h.values.efl in
    let bfl : OnDone v.bfl (λ x. member x sy c.bfl) =
    minus_over-holds scale o member law s e covers sy i (ray_row (image s) 0 1) ya ca (c.a.y k) (c.a.u k) c.bfl la.y la.behind h.values.bfl in
    let ffl : OnDone v.ffl (λ x. member x sy c.ffl) =
    over-holds scale o member law s e covers sy i (ray_row (image s) 0 2) cb ca (c.b.u k) (c.a.u k) c.ffl lb.behind la.behind h.values.ffl in
    let back : OnDone v.back (λ x. member x sy c.back) =
    back-holds scale o member law s e covers sy i (ray_row (image s) 0 3) v.bfl v.efl c.bfl c.efl c.back bfl efl h.values.back in
    let front : OnDone v.front (λ x. member x sy c.front) =
    front-holds scale o member law s e covers sy i (ray_row (image s) 0 4) v.ffl (first_of a).n v.efl (last_of a).n2
    c.ffl (signed_index s i 0) c.efl (signed_index s i k) c.f c.front ffl fa.n efl la.n2 h.values.f h.values.front in
    let hull = hull-holds scale o member law s e covers sy i in
    record {
      efl = hull v.efl c.efl efl;
      bfl = hull v.bfl c.bfl bfl;
      ffl = hull v.ffl c.ffl ffl;
      back = hull v.back c.back back;
      front = hull v.front c.front front;
      enp = λ l. hull v.enp c.enp (enp-holds scale o member law s e covers sy i s.lens.stop c.a c.b a b c.enp ha hb h.values.enp l);
      trail = λ j p q.
          let same : 0 + j ≡ j = omega arith in
          rw same at (trail-holds scale o member law s e covers sy i c.asked k 0 asked j p (omega arith) hasked q);
    }

-- each symbol 0: without a tolerance no symbol counts
pub no_symbols : Symbols
no_symbols = record { at = λ i. whole (pos 0); low = λ i. le_whole (omega (arith, ints)); high = λ i. le_whole (omega (arith, ints)) }
