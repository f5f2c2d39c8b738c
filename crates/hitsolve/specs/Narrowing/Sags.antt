-- The rows of the sag at narrower intervals of rho.
use Rattle.std.proofs.Common.{ℕ, [], ◌∷◌, List}
use Rattle.std.specs.Prelude.{ℤ, pos, ◌≤ℤ◌}
use Rattle.fixdec.specs.Ends.{Ends}
use Rattle.fixdec.specs.Operations.{Operations}
use Rattle.fixdec.specs.Steps.{◌>>=◌}
use Rattle.fixdec.specs.declared.step.Step.{Step}
use Rattle.lensmodel.specs.Rows.Constants.{whole_row}
use Rattle.lensmodel.specs.Rows.Preparation.{Prepared}
use Rattle.lensmodel.specs.Rows.Sag.{horner_step, horner_rows, first_of, polynomial_row, conic_rows, sag_rows}
use Rattle.hitsolve.specs.Narrowing.Operations.{Narrows}
use Rattle.hitsolve.specs.Narrowing.Parts.{IsPart, IsNarrower, narrower_then}
use Rattle.hitsolve.specs.Narrowing.Sums.{dec_span-narrower}

-- each interval of a list is a part of the one at its place
abbrev pub ArePart : List Ends → List Ends → Type 0
ArePart [] [] = Unit {0}
ArePart (a ∷ more) (b ∷ rest) = IsPart a b × ArePart more rest
ArePart xs ys = ⊥

-- the ends of a prepared surface's values are in order
pub record IsOrdered (face : Prepared Ends) : Type 0 where
  pub c : IsPart face.c face.c
  pub ck : IsPart face.ck face.ck
  pub b : ArePart face.b face.b

-- steps over intervals
pub then_ends : (r s : Step Ends) (f g : Ends → Step Ends) → IsNarrower IsPart r s → ((a b : Ends) → IsPart a b → IsNarrower IsPart (f a) (g b)) → IsNarrower IsPart (r >>= f) (s >>= g)
then_ends r s f g h k = narrower_then IsPart IsPart r s f g h k

module _ (scale : ℕ) (o : Operations Ends) (n : Narrows o) where
  pub whole_row-narrower : (z : ℤ) → IsNarrower IsPart (whole_row o scale z) (whole_row o scale z)
  whole_row-narrower z = then_ends _ _ _ _ (dec_span-narrower scale (record { mant = z; exp = pos 0 })) λ a b p. n.of_span p

  step-narrower : (u v : Ends) (c : Ends) (xs ys : List Ends) → IsPart u v → IsPart c c → ArePart xs ys → IsNarrower ArePart (horner_step o u c xs) (horner_step o v c ys)
  step-narrower u v c [] [] p q h = (q, tt)
  step-narrower u v c [] (b ∷ ys) p q h = absurd h
  step-narrower u v c (a ∷ xs) [] p q h = absurd h
  step-narrower u v c (a ∷ xs) (b ∷ ys) p q h =
      narrower_then IsPart ArePart (o.times u a) (o.times v b) _ _ (n.times p h.0) λ x y k.
      narrower_then IsPart ArePart (o.plus c x) (o.plus c y) _ _ (n.plus q k) λ z w m. (m, h)

  horner_rows-narrower : (u v : Ends) (cs : List Ends) → IsPart u v → ArePart cs cs → IsNarrower ArePart (horner_rows o u cs) (horner_rows o v cs)
  horner_rows-narrower u v [] p h = tt
  horner_rows-narrower u v (c ∷ cs) p h =
      narrower_then ArePart ArePart (horner_rows o u cs) (horner_rows o v cs) _ _ (horner_rows-narrower u v cs p h.1) λ xs ys k.
      step-narrower u v c xs ys p h.0 k

  first-narrower : (xs ys : List Ends) → ArePart xs ys → IsNarrower IsPart (first_of o scale xs) (first_of o scale ys)
  first-narrower [] [] h = whole_row-narrower (pos 0)
  first-narrower [] (b ∷ ys) h = absurd h
  first-narrower (a ∷ xs) [] h = absurd h
  first-narrower (a ∷ xs) (b ∷ ys) h = h.0

  polynomial_row-narrower : (u v : Ends) (cs : List Ends) → IsPart u v → ArePart cs cs → IsNarrower IsPart (polynomial_row o scale u cs) (polynomial_row o scale v cs)
  polynomial_row-narrower u v cs p h =
      narrower_then ArePart IsPart (horner_rows o u cs) (horner_rows o v cs) _ _ (horner_rows-narrower u v cs p h) λ xs ys k. first-narrower xs ys k

  module _ (face : Prepared Ends) (h : IsOrdered face) (e : ℤ) (nn : pos 0 ≤ℤ e) where
    conic_rows-narrower : (r s : Ends) → IsPart r s → IsNarrower IsPart (conic_rows o scale face r e) (conic_rows o scale face s e)
    conic_rows-narrower r s p =
        then_ends _ _ _ _ (then_ends _ _ _ _ (n.times h.c p) λ a b q. n.widen q e nn) λ f g k.
        then_ends _ _ _ _ (then_ends _ _ _ _ (whole_row-narrower (pos 1)) λ a b q. then_ends _ _ _ _ (n.times h.ck k) λ x y m. then_ends _ _ _ _ (n.minus q m) λ t u l. n.root l) λ v w j.
        then_ends _ _ _ _ (whole_row-narrower (pos 1)) λ a b q. then_ends _ _ _ _ (n.plus q j) λ x y m. n.over k m

    pub sag_rows-narrower : (r s : Ends) → IsPart r s → IsNarrower IsPart (sag_rows o scale face r e) (sag_rows o scale face s e)
    unfolding sag_rows
    sag_rows-narrower r s p =
        then_ends _ _ _ _ (conic_rows-narrower r s p) λ a b q.
        then_ends _ _ _ _ (n.shift p face.norm) λ u v k.
        then_ends _ _ _ _ (polynomial_row-narrower u v face.b k h.b) λ x y m.
        then_ends _ _ _ _ (n.times k m) λ t w l. n.plus q l
