-- Chains with equal fractions, and the lens within its box.
use Rattle.std.proofs.Common.{◌≡◌, ℕ, suc, ◌≤◌, Bool, true, false, arith, subst}
use Rattle.std.specs.Prelude.{Option}
use Rattle.fixdec.specs.Frac.{Frac, ◌≈◌}
use Rattle.fixdec.specs.Algebra.FracLaws.{≈_sym, ≈_trans}
use Rattle.fixdec.specs.Algebra.OrderLaws.{le_along, le_same_left, lt_along}
use Rattle.lensmodel.specs.Equations.Bending.{IsNormal, Refracts, Reflects, Stays, BendsBy, Bends}
use Rattle.lensmodel.specs.Equations.Chain.{Chain, index_behind}
use Rattle.lensmodel.specs.Equations.Chains.{IsChainTo, IsChainPast}
use Rattle.lensmodel.specs.Equations.Crossing.{Transfers, Crosses, IsSag, IsOnSide}
use Rattle.examples.specs.Exchange.{IsSameAt}
use Rattle.lensmodel.specs.Setup.Media.{equal_media, medium_at}
use Rattle.lensmodel.specs.Equations.Start.{Starts}
use Rattle.lensmodel.specs.Setup.Values.{surface_at, curvature, distance, coefficients_of, coefficients, reflects, eps}
use Rattle.lensmodel.specs.declared.launch.Launch.{Launch}
use Rattle.lensmodel.specs.declared.setup.Setup.{Setup}
use Rattle.lensmodel.specs.declared.surface.Surface.{Surface}
use Rattle.lensmodel.specs.declared.surface.SurfaceKind.{SurfaceKind}
use Rattle.lensmodel.specs.declared.surface.SurfaceKind.TheVariants.{Standard, EvenAsph}
use Rattle.lensmodel.specs.declared.tolerance.TolBox.{TolBox}
use Rattle.examples.proofs.Along.{keep, plus, times, minus, within_along, even_same, slope_same, index_same}

-- the values of a setup at one chain are those at another, with this box in place of the setup's
pub record IsSameLens (s : Setup) (box : Option TolBox) (a b : Chain) : Type 0 where
  pub curved : (j : ℕ) → curvature s a.symbols j ≈ curvature (record s { toler = box }) b.symbols j
  pub apart : (j : ℕ) → distance s a.symbols j ≈ distance (record s { toler = box }) b.symbols j
  pub index : (j : ℕ) → index_behind s a j ≈ index_behind (record s { toler = box }) b j
  pub glass : (j : ℕ) → a.glass_index j ≈ b.glass_index j
  pub media : (j : ℕ) → equal_media s j ≡ equal_media (record s { toler = box }) j

module _ (s : Setup) (box : Option TolBox) (a b : Chain) (same : IsSameLens s box a b) where
  abbrev other : Setup
  other = record s { toler = box }

  started : (ray : Launch) → IsSameAt a b 0 → Starts s ray a → Starts other ray b
  started ray p h = record {
    x = ≈_trans (≈_sym p.x) h.x;
    y = ≈_trans (≈_sym p.y) h.y;
    z = ≈_trans (≈_sym p.z) h.z;
    path = ≈_trans (≈_sym p.path) h.path;
    length = within_along (times (times p.n p.n) keep) keep h.length;
    direction_x = within_along p.l (times keep p.n) h.direction_x;
    direction_y = within_along p.m (times keep p.n) h.direction_y;
    forwards = lt_along keep p.n h.forwards;
  }

  module _ (j : ℕ) (p : IsSameAt a b j) (q : IsSameAt a b (suc j)) where
    transferred : Transfers s a j → Transfers other b j
    transferred h = record {
      t = h.t;
      x = within_along q.x (plus p.x (times p.l keep)) h.x;
      y = within_along q.y (plus p.y (times p.m keep)) h.y;
      z = within_along (plus p.z (times p.n keep)) (plus (same.apart j) q.z) h.z;
      path = within_along q.path (plus p.path (times (same.index j) keep)) h.path;
      onwards = lt_along keep (times keep p.n) h.onwards;
    }

    sagged : (kind : SurfaceKind) (f : Surface) → IsSag kind (eps s) f (a.z (suc j)) (a.conic_sag (suc j)) (a.rho (suc j))
        → IsSag kind (eps s) f (b.z (suc j)) (b.conic_sag (suc j)) (b.rho (suc j))
    sagged Standard f h = ≈_trans (≈_sym q.z) (≈_trans h q.conic_sag)
    sagged EvenAsph f h = within_along q.z (plus q.conic_sag (even_same (coefficients_of EvenAsph f) q.rho)) h

    sided : (kind : SurfaceKind) → IsOnSide kind s a j → IsOnSide kind other b j
    sided Standard h =
        le_along (times keep (times (same.curved (suc j)) (plus (times q.x p.l) (times q.y p.m)))) (times keep (times q.w p.n)) h
    sided EvenAsph h = le_same_left (≈_sym q.rho) h

    crossed : Crosses s a j → Crosses other b j
    crossed h = record {
      rho = ≈_trans (≈_sym q.rho) (≈_trans h.rho (plus (times q.x q.x) (times q.y q.y)));
      w = ≈_trans (≈_sym q.w) (≈_trans h.w (minus keep (times (times keep (same.curved (suc j))) q.conic_sag)));
      near_vertex = le_along keep q.w h.near_vertex;
      conic = within_along (times (same.curved (suc j)) (plus q.rho (times (times keep q.conic_sag) q.conic_sag))) (times keep q.conic_sag) h.conic;
      sag = sagged (surface_at s (suc j)).kind (surface_at s (suc j)) h.sag;
      side = sided (surface_at s (suc j)).kind h.side;
    }

    normal : (e g cos : Frac) → IsNormal s a j e g cos → IsNormal other b j e g cos
    normal e g cos h = record {
      slope = within_along (times keep q.w) (plus (same.curved (suc j)) (times (times keep q.w) (slope_same 1 (coefficients s (suc j)) q.rho))) h.slope;
      size = within_along keep (plus keep (times keep q.rho)) h.size;
      cosine = within_along keep (times keep (minus p.n (times keep (plus (times q.x p.l) (times q.y p.m))))) h.cosine;
      size_sign = h.size_sign;
      cosine_sign = h.cosine_sign;
    }

    refracted : Refracts s a j → Refracts other b j
    refracted h =
        let n = same.index j in
        let n' = same.index (suc j) in
        record {
          e = h.e;
          g = h.g;
          cos = h.cos;
          cos' = h.cos';
          k = h.k;
          normal = normal h.e h.g h.cos h.normal;
          snell = within_along (times (times n' n') keep) (minus (times n' n') (times (times n n) keep)) h.snell;
          cosine_sign = h.cosine_sign;
          bending = ≈_trans h.bending (minus (times n' keep) (times n keep));
          l = within_along (times (times n' q.l) keep) (minus (times (times n p.l) keep) (times keep (times keep q.x))) h.l;
          m = within_along (times (times n' q.m) keep) (minus (times (times n p.m) keep) (times keep (times keep q.y))) h.m;
          n = within_along (times (times n' q.n) keep) (plus (times (times n p.n) keep) keep) h.n;
        }

    reflected : Reflects s a j → Reflects other b j
    reflected h = record {
      e = h.e;
      g = h.g;
      cos = h.cos;
      normal = normal h.e h.g h.cos h.normal;
      l = within_along (times keep q.l) (plus (times keep p.l) (times keep (times keep q.x))) h.l;
      m = within_along (times keep q.m) (plus (times keep p.m) (times keep (times keep q.y))) h.m;
      n = within_along (times keep q.n) (minus (times keep p.n) keep) h.n;
    }

    stayed : Stays a j → Stays b j
    stayed h = record {
      l = ≈_trans (≈_sym q.l) (≈_trans h.l p.l);
      m = ≈_trans (≈_sym q.m) (≈_trans h.m p.m);
      n = ≈_trans (≈_sym q.n) (≈_trans h.n p.n);
    }

    bent_by : (mirror equal : Bool) → BendsBy mirror equal s a j → BendsBy mirror equal other b j
    bent_by true equal h = reflected h
    bent_by false true h = stayed h
    bent_by false false h = refracted h

    bent : Bends s a j → Bends other b j
    bent h = subst (λ equal. BendsBy (reflects s (suc j)) equal other b j) (same.media j) (bent_by (reflects s (suc j)) (equal_media s j) h)

  pub reached : (ray : Launch) (j : ℕ) → ((i : ℕ) → i ≤ j → IsSameAt a b i) → IsChainTo s ray j a → IsChainTo other ray j b
  reached ray j at h = record {
    start = started ray (at 0 (omega arith)) h.start;
    index = λ i lt. index_same (eps s) (medium_at s i) s.wave (same.glass _) (h.index i lt);
    transfer = λ i lt. transferred i (at i (omega arith)) (at (suc i) (omega arith)) (h.transfer i lt);
    crossing = λ i lt. crossed i (at i (omega arith)) (at (suc i) (omega arith)) (h.crossing i lt);
    bending = λ i lt. bent i (at i (omega arith)) (at (suc i) (omega arith)) (h.bending i lt);
  }

  pub left_behind : (ray : Launch) (j : ℕ) → ((i : ℕ) → i ≤ j → IsSameAt a b i) → IsChainPast s ray j a → IsChainPast other ray j b
  left_behind ray j at h = record {
    reaches = reached ray j at h.reaches;
    leaves = λ i le. bent i (at i (omega arith)) (at (suc i) (omega arith)) (h.leaves i le);
  }
