-- The crossing of a chain is a member of what the rows of a whole crossing phase answer.
use Rattle.std.proofs.Common.{◌≡◌, ℕ, suc, refl, sym, ◌∙◌, [], ◌∷◌, arith}
use Rattle.std.proofs.lemmas.Int.{ints}
use Rattle.std.specs.Prelude.{ℤ, pos}
use Rattle.fixdec.specs.Algebra.FracLaws.{≈_sym}
use Rattle.fixdec.specs.Algebra.Linear.{linear, name, no_fact, reads}
use Rattle.fixdec.specs.Algebra.MemberLaws.{same_law, units_nn}
use Rattle.fixdec.specs.Algebra.Order.{le_trans, le_whole}
use Rattle.fixdec.specs.Algebra.OrderLaws.{le_same_right, mul_nn}
use Rattle.fixdec.specs.Ends.{InCap}
use Rattle.fixdec.specs.Frac.{Frac, ◌≈◌, ◌*Q◌, whole}
use Rattle.fixdec.specs.Member.{IsMember, Symbols}
use Rattle.fixdec.specs.Operations.{Operations, IsLawful}
use Rattle.fixdec.specs.Steps.{◌>>=◌, OnVal, OnVal-then}
use Rattle.fixdec.specs.declared.step.Step.{Step}
use Rattle.fixdec.specs.declared.step.Step.TheVariants.{Val, Empty, Lost}
use Rattle.lensmodel.specs.Claims.Enclosure.{CoversResidual, HoldsPrepared, HoldsRay, HoldsMet}
use Rattle.lensmodel.specs.Equations.Chain.{Chain}
use Rattle.lensmodel.specs.Equations.Crossing.{Transfers, Crosses}
use Rattle.lensmodel.specs.Rows.Constants.{whole_row}
use Rattle.lensmodel.specs.Rows.Crossing.{Line, Arrival, along_row, rho_row, arrival_rows, path_rows, standard_w_row}
use Rattle.lensmodel.specs.Rows.Hit.{meet_by, meet_rows, point_rows, hit_rows}
use Rattle.lensmodel.specs.Rows.Laws.{on_same, whole_member}
use Rattle.lensmodel.specs.Rows.Preparation.{Prepared}
use Rattle.lensmodel.specs.Rows.Sag.{w_row}
use Rattle.lensmodel.specs.Rows.SlopeRounds.{zone2_of}
use Rattle.lensmodel.specs.Rows.Spans.{positive, side_of, up_to}
use Rattle.lensmodel.specs.Rows.Start.{Incoming}
use Rattle.lensmodel.specs.Setup.Values.{surface_at, curvature, conic_factor, eps}
use Rattle.lensmodel.specs.declared.setup.Setup.{Setup}
use Rattle.lensmodel.specs.declared.surface.SurfaceKind.{SurfaceKind}
use Rattle.lensmodel.specs.declared.surface.SurfaceKind.TheVariants.{Standard, EvenAsph}
use Rattle.hitsolve.specs.Arrivals.{line_of, is_on_line, has_slopes, HoldsArrival, arrival_rows-member, path_rows-member}
use Rattle.hitsolve.specs.Aspheres.Cells.{along_row-member, rho_row-member, rho_up_to}
use Rattle.hitsolve.specs.Aspheres.Chains.{ZoneFits, asphere_of, asphere_zone_holds, meet_asphere-encloses, crossing_meets}
use Rattle.hitsolve.specs.Aspheres.Conic.{w_row-member}
use Rattle.hitsolve.specs.Aspheres.Meeting.{rho_at}
use Rattle.hitsolve.specs.StandardChains.{meet_standard-encloses, sag_is}

-- what a first step gives, and that it gives it, handed to a second
known-then : {A B : Type 0} (r : Step A) (f : A → Step B) (Q : A → Type 0) (P : B → Type 0) → OnVal r Q → ((x : A) → r ≡ Val x → Q x → OnVal (f x) P) → OnVal (r >>= f) P
known-then (Val a) f Q P h k = k a refl h
known-then Empty f Q P h k = absurd h
known-then (Lost w) f Q P h k = tt

module _ {A : Type 0} (scale : ℕ) (o : Operations A) where
  -- the value that w of a standard surface is clipped from lies within the cap, where it is there
  abbrev pub WithinCap : Prepared A → A → Type 0
  WithinCap face z = (one t d : A) → whole_row o scale (pos 1) ≡ Val one → o.times face.ck z ≡ Val t → o.minus one t ≡ Val d → InCap (o.hull d).hi

  -- so it is at the crossing
  abbrev pub ClipsWithinCap : Prepared A → Incoming A → ℤ → Type 0
  ClipsWithinCap face ray e =
      (a : Arrival A) (z : A) → face.kind ≡ Standard → arrival_rows o face ray e ≡ Val a → meet_rows o scale face a.line e ≡ Val z → WithinCap face z

module _ {A : Type 0} (scale : ℕ) (o : Operations A) (member : A → Symbols → Frac → Type 0) (law : IsLawful scale o member)
    (s : Setup) (c : Chain) (j : ℕ) (e : ℤ) (covers : CoversResidual scale s e) (t : Transfers s c j) (h : Crosses s c j)
    (face : Prepared A) (hf : HoldsPrepared member s c j face) where
  abbrev sy : Symbols
  sy = c.symbols

  abbrev l : Line Frac
  l = line_of c j

  abbrev z : Frac
  z = c.z (suc j)

  same_kind : (k : SurfaceKind) → face.kind ≡ k → (surface_at s (suc j)).kind ≡ k
  same_kind k e = sym hf.kind ∙ e

  -- ---- where it meets the surface
  meet_by-member : (k : SurfaceKind) → face.kind ≡ k → (k ≡ EvenAsph → ZoneFits s j) → (a : Arrival A) → HoldsArrival scale o member law s c j e covers t a
      → OnVal (meet_by o scale k face a.line e) (λ r. member r sy z)
  meet_by-member Standard k fits a ha =
      meet_standard-encloses scale o member law s j (same_kind Standard k) e covers c face hf l a.line ha.line (is_on_line c j) (has_slopes s c j t.onwards) t.onwards h
  meet_by-member EvenAsph k fits a ha =
      meet_asphere-encloses scale o member law s c j (same_kind EvenAsph k) face hf (fits refl) e covers l a.line ha.line (is_on_line c j) h

  -- ---- the point there
  rho_is : c.rho (suc j) ≈ rho_at l z
  rho_is =
      linear (c.rho (suc j) ∷ c.x (suc j) ∷ c.y (suc j) ∷ l.x0 ∷ l.y0 ∷ l.p ∷ l.q ∷ z ∷ []) _ _ (search reads depth 24 fits 20000)
      (name h.rho (search reads depth 24 fits 20000) (name (is_on_line c j).x (search reads depth 24 fits 20000) (name (is_on_line c j).y (search reads depth 24 fits 20000) no_fact))) tt

  module _ (a : Arrival A) (ha : HoldsArrival scale o member law s c j e covers t a) (zv : A) (hz : member zv sy z) where
    x_row : OnVal (along_row o a.line.x0 a.line.p zv) (λ r. member r sy (c.x (suc j)))
    x_row = on_same scale o member law sy _ _ _ (≈_sym (is_on_line c j).x) (along_row-member scale o member law sy a.line.x0 a.line.p zv l.x0 l.p z ha.line.x0 ha.line.p hz)

    y_row : OnVal (along_row o a.line.y0 a.line.q zv) (λ r. member r sy (c.y (suc j)))
    y_row = on_same scale o member law sy _ _ _ (≈_sym (is_on_line c j).y) (along_row-member scale o member law sy a.line.y0 a.line.q zv l.y0 l.q z ha.line.y0 ha.line.q hz)

    rho_row_member : (x y : A) → member x sy (c.x (suc j)) → member y sy (c.y (suc j)) → OnVal (rho_row o x y) (λ r. member r sy (c.rho (suc j)))
    rho_row_member x y hx hy = on_same scale o member law sy _ _ _ (≈_sym h.rho) (rho_row-member scale o member law sy x y (c.x (suc j)) (c.y (suc j)) hx hy)

    -- w of a standard surface
    standard_w_row-member : (surface_at s (suc j)).kind ≡ Standard → WithinCap scale o face zv → OnVal (standard_w_row o scale face zv) (λ r. member r sy (c.w (suc j)))
    standard_w_row-member kind cap =
        let C = curvature s sy (suc j) in
        let K = conic_factor s (suc j) in
        let zc = c.conic_sag (suc j) in
        known-then (whole_row o scale (pos 1)) _ (λ x. member x sy (whole (pos 1))) _ (whole_member scale o member law sy (pos 1)) λ one e1 h1.
        known-then (o.times face.ck zv) _ (λ x. member x sy ((C *Q K) *Q z)) _ (law.times sy face.ck zv (C *Q K) z hf.ck hz) λ u e2 h2.
        known-then (o.minus one u) _ (λ x. member x sy (c.w (suc j))) _
        (on_same scale o member law sy (o.minus one u) _ _
        (linear (c.w (suc j) ∷ C ∷ K ∷ z ∷ zc ∷ []) _ _ (search reads depth 24 fits 20000) (name h.w (search reads depth 24 fits 20000)
        (name (≈_sym (sag_is (surface_at s (suc j)).kind (eps s) (surface_at s (suc j)) z zc (c.rho (suc j)) kind h.sag)) (search reads depth 24 fits 20000) no_fact)) tt)
        (law.minus sy one u _ _ h1 h2)) λ d e3 h3.
        law.clip sy d positive (c.w (suc j)) h3 record {
          low = mul_nn h.near_vertex (units_nn scale);
          high = le_trans (law.hull sy d _ h3).high (le_whole (let k = cap one u d e1 e2 e3 in omega (arith, ints)));
        }

    -- rho and w of an even asphere
    asphere_rho-member : (surface_at s (suc j)).kind ≡ EvenAsph → (r : A) → member r sy (c.rho (suc j)) → OnVal (o.clip r (up_to (zone2_of o face))) (λ r. member r sy (c.rho (suc j)))
    asphere_rho-member kind r hr =
        let m = crossing_meets s c j kind l (is_on_line c j) h in
        law.clip sy r (up_to (zone2_of o face)) (c.rho (suc j)) hr
        (same_law scale (up_to (zone2_of o face)) (rho_at l z) (c.rho (suc j)) (≈_sym rho_is)
        (rho_up_to scale (zone2_of o face) l z (asphere_of s c j).zone2 (asphere_zone_holds scale o member law s c j kind face hf) m.zone))

    asphere_w-member : (r : A) → member r sy (c.rho (suc j)) → OnVal (w_row o scale face r e) (λ w. member w sy (c.w (suc j)))
    asphere_w-member r hr =
        on_same scale o member law sy _ _ _ (≈_sym h.w)
        (w_row-member scale o member law sy (eps s) e covers face (curvature s sy (suc j)) (conic_factor s (suc j)) hf.c hf.ck r (c.rho (suc j)) (c.conic_sag (suc j)) hr h.conic
        (le_same_right h.near_vertex h.w))

    point_rows-member : (ray : Incoming A) → HoldsRay member c j ray → (k : SurfaceKind) → face.kind ≡ k → (k ≡ Standard → WithinCap scale o face zv)
        → OnVal (point_rows o scale k face ray a zv e) (HoldsMet member c j)
    point_rows-member ray hr Standard k cap =
        OnVal-then (standard_w_row o scale face zv) _ (λ r. member r sy (c.w (suc j))) _ (standard_w_row-member (same_kind Standard k) (cap refl)) λ w hw.
        OnVal-then (along_row o a.line.x0 a.line.p zv) _ (λ r. member r sy (c.x (suc j))) _ x_row λ x hx.
        OnVal-then (along_row o a.line.y0 a.line.q zv) _ (λ r. member r sy (c.y (suc j))) _ y_row λ y hy.
        OnVal-then (rho_row o x y) _ (λ r. member r sy (c.rho (suc j))) _ (rho_row_member x y hx hy) λ rho hrho.
        OnVal-then (path_rows o face ray a zv e) _ (λ r. member r sy (c.path (suc j))) _ (path_rows-member scale o member law s c j e covers t face hf ray hr a ha zv hz) λ path hpath.
        record { x = hx; y = hy; z = hz; rho = hrho; w = hw; path = hpath }
    point_rows-member ray hr EvenAsph k cap =
        OnVal-then (along_row o a.line.x0 a.line.p zv) _ (λ r. member r sy (c.x (suc j))) _ x_row λ x hx.
        OnVal-then (along_row o a.line.y0 a.line.q zv) _ (λ r. member r sy (c.y (suc j))) _ y_row λ y hy.
        OnVal-then (rho_row o x y) _ (λ r. member r sy (c.rho (suc j))) _ (rho_row_member x y hx hy) λ wide hwide.
        OnVal-then (o.clip wide (up_to (zone2_of o face))) _ (λ r. member r sy (c.rho (suc j))) _ (asphere_rho-member (same_kind EvenAsph k) wide hwide) λ rho hrho.
        OnVal-then (w_row o scale face rho e) _ (λ r. member r sy (c.w (suc j))) _ (asphere_w-member rho hrho) λ w hw.
        OnVal-then (path_rows o face ray a zv e) _ (λ r. member r sy (c.path (suc j))) _ (path_rows-member scale o member law s c j e covers t face hf ray hr a ha zv hz) λ path hpath.
        record { x = hx; y = hy; z = hz; rho = hrho; w = hw; path = hpath }

  meet_rows-member : (face.kind ≡ EvenAsph → ZoneFits s j) → (a : Arrival A) → HoldsArrival scale o member law s c j e covers t a → OnVal (meet_rows o scale face a.line e) (λ r. member r sy z)
  unfolding meet_rows
  meet_rows-member fits a ha = meet_by-member face.kind refl fits a ha

  -- every crossing is held by the answer; where that is Empty, no chain crosses
  pub hit_rows-encloses : (ray : Incoming A) → HoldsRay member c j ray → IsMember scale (side_of face.sign) (c.n j) → (face.kind ≡ EvenAsph → ZoneFits s j)
      → ClipsWithinCap scale o face ray e → OnVal (hit_rows o scale face ray e) (HoldsMet member c j)
  unfolding hit_rows
  hit_rows-encloses ray hr side fits caps =
      known-then (arrival_rows o face ray e) _ (HoldsArrival scale o member law s c j e covers t) _ (arrival_rows-member scale o member law s c j e covers t face hf ray hr side) λ a ea ha.
      known-then (meet_rows o scale face a.line e) _ (λ r. member r sy z) _ (meet_rows-member fits a ha) λ zv ez hz.
      point_rows-member a ha zv hz ray hr face.kind refl (λ k. caps a zv k ea ez)
