-- What one surface makes of a paraxial ray, and what its values claim. Cited by the paraxial trace of a surface.
use Rattle.std.specs.Prelude.{ℕ, suc}
use Rattle.fixdec.specs.Frac.{Frac, ◌+Q◌, ◌-Q◌, ◌*Q◌}
use Rattle.fixdec.specs.Member.{Symbols}
use Rattle.fixdec.specs.Steps.{OnVal}
use Rattle.lensmodel.specs.Equations.Residual.{IsWithin}
use Rattle.lensmodel.specs.Paraxial.Trace.{AreIndices, signed_index, vertex_curvature, thickness}
use Rattle.lensmodel.specs.Paraxial.TraceRows.{Parax}
use Rattle.lensmodel.specs.Setup.Values.{eps}
use Rattle.lensmodel.specs.declared.setup.Setup.{Setup}

-- a ray that arrives at surface j + 1 with height y and slope u leaves it with slope behind, and comes to height next
pub record Advances (s : Setup) (index : ℕ → Frac) (j : ℕ) (y u behind next : Frac) : Type 0 where
  pub refraction :
      let n = signed_index s index j in
      let n' = signed_index s index (suc j) in
      IsWithin (eps s) (n' *Q behind) (n *Q u -Q y *Q vertex_curvature s (suc j) *Q (n' -Q n))
  pub transfer : IsWithin (eps s) next (y +Q thickness s (suc j) *Q behind)

-- the values at surface j + 1 hold the curvature, the indices, the slope behind and the next height
pub record HoldsAdvance {A : Type 0} (member : A → Symbols → Frac → Type 0) (symbols : Symbols) (s : Setup) (index : ℕ → Frac) (j : ℕ)
    (behind after : Frac) (p : Parax A) : Type 0 where
  pub cv : OnVal p.cv (λ a. member a symbols (vertex_curvature s (suc j)))
  pub n : OnVal p.n (λ a. member a symbols (signed_index s index j))
  pub n2 : OnVal p.n2 (λ a. member a symbols (signed_index s index (suc j)))
  pub u : OnVal p.u (λ a. member a symbols behind)
  pub next : OnVal p.next (λ a. member a symbols after)

-- so for every ray that arrives within y and u
abbrev pub EnclosesAdvance : {A : Type 0} → (A → Symbols → Frac → Type 0) → Setup → ℕ → A → A → Parax A → Type 0
EnclosesAdvance member s j y u p =
    (symbols : Symbols) (index : ℕ → Frac) (height slope behind next : Frac) → AreIndices s index
    → member y symbols height → member u symbols slope → Advances s index j height slope behind next
    → HoldsAdvance member symbols s index j behind next p
