-- What a paraxial ray's values at the surfaces claim. Cited by the rays through all surfaces.
use Rattle.std.specs.Prelude.{ℕ, zero, suc, ◌+◌, ◌≡◌, List, [], ◌∷◌, slice_get, Some}
use Rattle.std.proofs.Common.{subst, arith}
use Rattle.fixdec.specs.Decimal.{Decimal}
use Rattle.fixdec.specs.Frac.{Frac}
use Rattle.fixdec.specs.Member.{Symbols}
use Rattle.lensmodel.specs.Paraxial.FirstOrderRows.{Passing}
use Rattle.lensmodel.specs.Paraxial.Losses.{Worked, done, gone}
use Rattle.lensmodel.specs.Paraxial.Trace.{ParaxialRay, AreIndices, IsParaxialFrom, signed_index, vertex_curvature}
use Rattle.lensmodel.specs.declared.setup.Setup.{Setup}

-- P of a value that is there; nothing is said of one that is lost
abbrev pub OnDone : {A : Type 0} → Worked A → (A → Type 0) → Type 0
OnDone (done a) P = P a
OnDone (gone n why) P = Unit {0}

-- the values at surface j + 1 hold those of a ray
pub record HoldsPassing {A : Type 0} (member : A → Symbols → Frac → Type 0) (symbols : Symbols) (s : Setup) (index : ℕ → Frac) (r : ParaxialRay)
    (j : ℕ) (p : Passing A) : Type 0 where
  pub y : OnDone p.y (λ a. member a symbols (r.y (suc j)))
  pub u : OnDone p.u (λ a. member a symbols (r.u j))
  pub cv : OnDone p.cv (λ a. member a symbols (vertex_curvature s (suc j)))
  pub n : OnDone p.n (λ a. member a symbols (signed_index s index j))
  pub n2 : OnDone p.n2 (λ a. member a symbols (signed_index s index (suc j)))
  pub behind : OnDone p.behind (λ a. member a symbols (r.u (suc j)))
  pub next : OnDone p.next (λ a. member a symbols (r.y (suc (suc j))))

-- those at each surface, the first of which is j + 1
abbrev pub HoldsTrack : {A : Type 0} → (A → Symbols → Frac → Type 0) → Symbols → Setup → (ℕ → Frac) → ParaxialRay → ℕ → List (Passing A) → Type 0
HoldsTrack member symbols s index r j [] = Unit {0}
HoldsTrack member symbols s index r j (p ∷ more) = HoldsPassing member symbols s index r j p × HoldsTrack member symbols s index r (suc j) more

-- so at each surface from 1 on, for every ray that arrives with y and u
abbrev pub EnclosesTrack : {A : Type 0} → (A → Symbols → Frac → Type 0) → Setup → Decimal → Decimal → List (Passing A) → Type 0
EnclosesTrack member s y u track =
    (symbols : Symbols) (index : ℕ → Frac) (r : ParaxialRay) → AreIndices s index → IsParaxialFrom s index y u r
    → HoldsTrack member symbols s index r 0 track

-- the values at the place i hold
pub passing_at : {A : Type 0} (member : A → Symbols → Frac → Type 0) (symbols : Symbols) (s : Setup) (index : ℕ → Frac) (r : ParaxialRay)
    (j : ℕ) (track : List (Passing A)) (i : ℕ) (p : Passing A)
    → HoldsTrack member symbols s index r j track → slice_get track i ≡ Some p → HoldsPassing member symbols s index r (j + i) p
passing_at member symbols s index r j [] i p h e = cc
passing_at member symbols s index r j (a ∷ more) zero p h e =
    let same : a ≡ p = cc in
    let place : j ≡ j + 0 = omega arith in
    subst (λ (k : ℕ). HoldsPassing member symbols s index r k p) place (subst (λ (b : Passing _). HoldsPassing member symbols s index r j b) same h.0)
passing_at member symbols s index r j (a ∷ more) (suc i) p h e =
    let place : suc j + i ≡ j + suc i = omega arith in
    subst (λ (k : ℕ). HoldsPassing member symbols s index r k p) place (passing_at member symbols s index r (suc j) more i p h.1 e)
