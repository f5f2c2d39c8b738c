-- A walk holds every chain, surface by surface, in whatever arithmetic it runs. Cited by the walk at one scale.
use Rattle.std.proofs.Common.{◌≡◌, ℕ, zero, suc, ◌+◌, ◌-◌, ◌<◌, ◌≤◌, Bool, true, false, List, [], ◌∷◌, length, refl, subst, ap, arith}
use borrow.Author.Tests.{eqb-true}
use Rattle.std.specs.Prelude.{nat_eq, Option, Some, None}
use Rattle.fixdec.specs.Decimal.{Decimal}
use Rattle.fixdec.specs.Ends.{Ends}
use Rattle.fixdec.specs.Frac.{Frac}
use Rattle.fixdec.specs.Member.{IsMember, Symbols}
use Rattle.fixdec.specs.Operations.{Operations, IsLawful}
use Rattle.fixdec.specs.Steps.{OnVal}
use Rattle.fixdec.specs.declared.step.Step.{Step}
use Rattle.fixdec.specs.declared.step.Step.TheVariants.{Val, Empty, Lost}
use Rattle.lensmodel.specs.Claims.Enclosure.{HasIndices, HoldsSquare, HoldsPrepared, HoldsRay, HoldsMet, HoldsDirection, EnclosesPreparation, EnclosesCrossing}
use Rattle.lensmodel.specs.Claims.RowClaims.{HoldsPlace, HoldsHeading, WordHolds}
use Rattle.lensmodel.specs.Equations.Chain.{Chain}
use Rattle.lensmodel.specs.Equations.Chains.{IsChainTo, IsChainPast, Clears}
use Rattle.lensmodel.specs.Rows.Bending.{Direction}
use Rattle.lensmodel.specs.Rows.Crossing.{Met}
use Rattle.lensmodel.specs.Rows.Hit.{hit_rows}
use Rattle.lensmodel.specs.Rows.Outcome.{Passed, Walked, place_of, walk}
use Rattle.lensmodel.specs.Rows.Preparation.{Prepared, preparation_rows}
use Rattle.lensmodel.specs.Rows.Start.{Incoming}
use Rattle.lensmodel.specs.Setup.Values.{surface_at, image, rim_of}
use Rattle.lensmodel.specs.declared.launch.Launch.{Launch}
use Rattle.lensmodel.specs.declared.row.Heading.{Heading}
use Rattle.lensmodel.specs.declared.row.Word.{Word}
use Rattle.lensmodel.specs.declared.setup.Setup.{Setup}
use Rattle.skewtrace.specs.Enclosing.{EnclosesDeparture, MeetsSurely, HitsSurely, TurnsSurely, GoesOnSurely, WalksSurely}
use Rattle.skewtrace.specs.Rims.{HoldsRim, clipped_by_rim}
use Rattle.skewtrace.specs.Turns.{Turn, Goes, Halts, follow, hull_if, is_clipped, units, passed_at, departure, left_turn, rim_turn, met_turn, hit_turn, turn, walk-follows}

-- a chain past surface i, of a chain to the next
pub past_before : (s : Setup) (q : Launch) (i : ℕ) (c : Chain) → IsChainTo s q (suc i) c → IsChainPast s q i c
past_before s q i c h = record {
  reaches = record {
    start = h.start;
    index = h.index;
    transfer = λ k l. h.transfer k (omega arith);
    crossing = λ k l. h.crossing k (omega arith);
    bending = λ k l. h.bending k (omega arith);
  };
  leaves = λ k l. h.bending k (omega arith);
}

-- a chain to an earlier surface
pub chain_before : (s : Setup) (q : Launch) (i j : ℕ) (c : Chain) → i ≤ j → IsChainTo s q j c → IsChainTo s q i c
chain_before s q i j c m h = record {
  start = h.start;
  index = h.index;
  transfer = λ k l. h.transfer k (omega arith);
  crossing = λ k l. h.crossing k (omega arith);
  bending = λ k l. h.bending k (omega arith);
}

module _ (scale : ℕ) (s : Setup) (q : Launch) where
  -- a place of surface j, its heading and its rim hold every chain
  pub record HoldsPassed (j : ℕ) (p : Passed) : Type 0 where
    pub place : (c : Chain) → IsChainTo s q j c → HoldsPlace scale p.place c j
    pub heading : (h : Heading) → p.place.heading ≡ Some h → (c : Chain) → IsChainPast s q j c → HoldsHeading scale h c j
    pub rim : (c : Chain) → IsChainTo s q j c → HoldsRim scale p.rim2 (rim_of (surface_at s j))

  -- places from surface j on
  abbrev pub HoldsEachPassed : ℕ → List Passed → Type 0
  HoldsEachPassed j [] = Unit {0}
  HoldsEachPassed j (p ∷ more) = HoldsPassed j p × HoldsEachPassed (suc j) more

  abbrev pub EndHolds : Option Word → Type 0
  EndHolds None = Unit {0}
  EndHolds (Some w) = WordHolds w s q

  -- what is said of chains by a walk that has left surfaces to go, from behind surface i
  pub record HoldsWalk (left i : ℕ) (w : Walked) : Type 0 where
    pub places : HoldsEachPassed (suc i) w.places
    pub ended : EndHolds w.ended
    pub whole : w.ended ≡ None → length w.places ≡ left

module _ {A : Type 0} (scale : ℕ) (o : Operations A) (member : A → Symbols → Frac → Type 0) (law : IsLawful scale o member)
    (s : Setup) (q : Launch) (prepared : (i : ℕ) → i < image s → EnclosesPreparation member s i (preparation_rows o scale s (units o scale s) i)) where
  -- every ray that leaves surface i is held
  abbrev pub HoldsBehind : ℕ → Incoming A → Type 0
  HoldsBehind i ray = (c : Chain) → IsChainPast s q i c → HoldsRay member c i ray

  abbrev HoldsTurn : ℕ → Turn A → Type 0
  HoldsTurn i (Goes p next) = HoldsPassed scale s q (suc i) p × HoldsBehind (suc i) next
  HoldsTurn i (Halts w places) = HoldsEachPassed scale s q (suc i) places × EndHolds scale s q w × (w ≡ None → (length places ≡ 1) × (suc i ≡ image s))

  module _ (i : ℕ) (ray : Incoming A) (behind : HoldsBehind i ray) (face : Prepared A)
      (hf : (c : Chain) → HasIndices s c → HoldsPrepared member s c i face) where
    -- ---- once the ray meets the surface
    module _ (h : Met A) (met : (c : Chain) → IsChainTo s q (suc i) c → HoldsMet member c i h) where
      place_holds : (c : Chain) → IsChainTo s q (suc i) c → HoldsPlace scale (place_of o scale s (units o scale s) h) c (suc i)
      place_holds c k =
          let m = met c k in
          record {
            rho = law.hull c.symbols h.rho _ m.rho;
            x = law.hull c.symbols h.x _ m.x;
            y = law.hull c.symbols h.y _ m.y;
            z = law.hull c.symbols h.z _ m.z;
            path = law.hull c.symbols h.path _ m.path;
          }

      rim_holds : (a : Option A) (d : Option Decimal) (sy : Symbols) → HoldsSquare member a d sy → HoldsRim scale (hull_if o.hull a) d
      rim_holds None None sy k = tt
      rim_holds None (Some d) sy k = absurd k
      rim_holds (Some a) None sy k = absurd k
      rim_holds (Some a) (Some d) sy k = law.hull sy a _ k

      passed_holds : HoldsPassed scale s q (suc i) (passed_at o scale s h face.rim2)
      passed_holds = record {
        place = place_holds;
        heading = λ k e c l. cc;
        rim = λ c k. rim_holds face.rim2 (rim_of (surface_at s (suc i))) c.symbols (hf c k.index).rim2;
      }

      left_holds : (r : Step (Direction A)) → ((c : Chain) → IsChainPast s q (suc i) c → OnVal r (λ d. HoldsDirection member c i d))
          → HoldsTurn i (left_turn o scale s (suc i) h (passed_at o scale s h face.rim2) r)
      left_holds (Val d) k = (
        record {
          place = λ c l. let p = place_holds c l in record { rho = p.rho; x = p.x; y = p.y; z = p.z; path = p.path };
          heading = λ g e c l.
              let d' = k c l in
              let there : Heading = record { l = o.hull d.l; m = o.hull d.m; n = o.hull d.n } in
              let same : there ≡ g = cc in
              subst (λ (y : Heading). HoldsHeading scale y c (suc i)) same
              record { l = law.hull c.symbols d.l _ d'.l; m = law.hull c.symbols d.m _ d'.m; n = law.hull c.symbols d.n _ d'.n };
          rim = passed_holds.rim;
        },
        λ c l.
            let m = met c l.reaches in
            let d' = k c l in
            record { x = m.x; y = m.y; z = m.z; l = d'.l; m = d'.m; n = d'.n; path = m.path },
      )
      left_holds Empty k = ((passed_holds, tt), λ c l. k c l, λ e. cc)
      left_holds (Lost why) k = ((passed_holds, tt), tt, λ e. cc)

      departs : EnclosesDeparture member s i face ray h (departure o scale s (suc i) face ray h)
          → (c : Chain) → IsChainPast s q (suc i) c → OnVal (departure o scale s (suc i) face ray h) (λ d. HoldsDirection member c i d)
      departs k c l =
          let r = l.reaches in
          k c r.index (hf c r.index) (behind c (past_before s q i c r)) (met c r) (r.transfer i (omega arith)) (r.crossing i (omega arith)) (l.leaves i (omega arith))

      vignetted : (rim2 : Option Ends) (c : Chain) → HoldsRim scale rim2 (rim_of (surface_at s (suc i))) → IsMember scale (o.hull h.rho) (c.rho (suc i))
          → is_clipped (o.hull h.rho) rim2 ≡ true → Clears s c (suc i) → ⊥
      vignetted None c k m e inside = cc
      vignetted (Some a) c k m e inside = clipped_by_rim scale (surface_at s (suc i)).rim (surface_at s (suc i)).semi a (o.hull h.rho) (c.rho (suc i)) k m e inside

      met_by : (a b : Bool) → is_clipped (o.hull h.rho) (hull_if o.hull face.rim2) ≡ a
          → nat_eq (suc i) (image s) ≡ b
          → (a ≡ false → b ≡ false → (c : Chain) → IsChainPast s q (suc i) c → OnVal (departure o scale s (suc i) face ray h) (λ d. HoldsDirection member c i d))
          → HoldsTurn i (rim_turn o scale s (suc i) h (passed_at o scale s h face.rim2) (departure o scale s (suc i) face ray h) a b)
      met_by true b ea eb k =
          ((passed_holds, tt), λ c l inside. vignetted (hull_if o.hull face.rim2) c (passed_holds.rim c l) (place_holds c l).rho ea inside, λ e. cc)
      met_by false true ea eb k = ((passed_holds, tt), tt, λ e. (refl, eqb-true _ _ eb))
      met_by false false ea eb k = left_holds (departure o scale s (suc i) face ray h) (k refl refl)

      met_holds : MeetsSurely o scale member s (suc i) face ray h → HoldsTurn i (met_turn o scale s (suc i) face ray h)
      met_holds k = met_by _ _ refl refl (λ a b. departs (subst (λ (n : ℕ). EnclosesDeparture member s n face ray h (departure o scale s (suc i) face ray h)) (omega arith) (k a b)))

    hit_holds : (r : Step (Met A)) → EnclosesCrossing member s i face ray r → HitsSurely o scale member s (suc i) face ray r → HoldsTurn i (hit_turn o scale s (suc i) face ray r)
    hit_holds r e k = by r k (λ c l. e c (hf c l.index) (behind c (past_before s q i c l)) (l.transfer i (omega arith)) (l.crossing i (omega arith)))
      where
        by : (r : Step (Met A)) → HitsSurely o scale member s (suc i) face ray r → ((c : Chain) → IsChainTo s q (suc i) c → OnVal r (λ h. HoldsMet member c i h))
            → HoldsTurn i (hit_turn o scale s (suc i) face ray r)
        by (Val h) k m = met_holds h m k
        by Empty k m = (tt, λ c l. m c l, λ e. cc)
        by (Lost why) k m = (tt, tt, λ e. cc)

  turn_holds : (i : ℕ) (ray : Incoming A) → HoldsBehind i ray → (face : Step (Prepared A)) → EnclosesPreparation member s i face
      → TurnsSurely o scale member s (suc i) face ray → HoldsTurn i (turn o scale s (suc i) face ray)
  unfolding TurnsSurely turn
  turn_holds i ray behind (Val face) p k =
      let e : suc i - 1 ≡ i = omega arith in
      hit_holds i ray behind face p _ (subst (λ (n : ℕ). EnclosesCrossing member s n face ray (hit_rows o scale face ray (units o scale s))) e k.0) k.1
  turn_holds i ray behind Empty p k = (tt, tt, λ e. cc)
  turn_holds i ray behind (Lost why) p k = (tt, tt, λ e. cc)

  follow_holds : (left i : ℕ) → i + suc left ≡ image s → (t : Turn A) → HoldsTurn i t
      → ((next : Incoming A) → HoldsBehind (suc i) next → WalksSurely o scale member s left (suc i) next
      → HoldsWalk scale s q left (suc i) (walk o scale s (units o scale s) left (suc i) next))
      → GoesOnSurely o scale member s t (λ next. WalksSurely o scale member s left (suc i) next)
      → HoldsWalk scale s q (suc left) i (follow t (λ next. walk o scale s (units o scale s) left (suc i) next))
  follow_holds left i e (Goes p next) h k sure =
      let w = k next h.1 sure in
      record { places = (h.0, w.places); ended = w.ended; whole = λ n. ap suc (w.whole n) }
  follow_holds left i e (Halts w places) h k sure = record { places = h.0; ended = h.1; whole = λ n. let l = h.2 n in omega arith }

  -- a walk from behind surface i holds every chain
  pub walk_holds : (left i : ℕ) (ray : Incoming A) → i + left ≡ image s → HoldsBehind i ray → WalksSurely o scale member s left i ray
      → HoldsWalk scale s q left i (walk o scale s (units o scale s) left i ray)
  walk_holds zero i ray e behind sure = record { places = tt; ended = tt; whole = λ n. refl }
  walk_holds (suc left) i ray e behind sure =
      rw (walk-follows o scale s left i ray)
      (follow_holds left i e (turn o scale s (suc i) (preparation_rows o scale s (units o scale s) i) ray)
      (turn_holds i ray behind (preparation_rows o scale s (units o scale s) i) (prepared i (omega arith)) sure.0)
      (λ next b k. walk_holds left (suc i) next (omega arith) b k) sure.1)
