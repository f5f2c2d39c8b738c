-- The sums of two rays at one scale, from what the rays give.
use Rattle.std.proofs.Common.{◌≡◌, ℕ, List, subst, sym, ap, ◌∙◌, arith}
use Rattle.std.proofs.lemmas.Int.{ints}
use Rattle.std.specs.Prelude.{ℤ, pos}
use Rattle.fixdec.specs.Algebra.Order.{le_whole}
use Rattle.fixdec.specs.Decimal.{Decimal}
use Rattle.fixdec.specs.Frac.{Frac, whole}
use Rattle.fixdec.specs.Member.{Symbols}
use Rattle.fixdec.specs.Operations.{Operations, IsLawful}
use Rattle.firstorder.specs.Tracks.{EnclosesTrack}
use Rattle.lensmodel.specs.Paraxial.FirstOrderRows.{Passing, ray_rows}
use Rattle.lensmodel.specs.Paraxial.Losses.{Attempt}
use Rattle.lensmodel.specs.Paraxial.Seidel.{HoldsSeidel}
use Rattle.lensmodel.specs.Paraxial.SeidelRows.{sums_attempt}
use Rattle.lensmodel.specs.Rows.Laws.{Covers}
use Rattle.lensmodel.specs.Setup.Values.{eps}
use Rattle.lensmodel.specs.declared.paraxial.SeidelOut.{SeidelOut}
use Rattle.lensmodel.specs.declared.setup.Setup.{Setup}
use Rattle.seidel.specs.Encloses.{EnclosesSeidel, attempt-holds}
use Rattle.seidel.specs.Wholes.{short_attempt}
use Rattle.seidel.specs.WholesAre.{attempt-is}

-- each symbol 0: without a tolerance no symbol counts
no_symbols : Symbols
no_symbols = record { at = λ i. whole (pos 0); low = λ i. le_whole (omega (arith, ints)); high = λ i. le_whole (omega (arith, ints)) }

module _ {A : Type 0} (o : Operations A) (scale : ℕ) (s : Setup) (e : ℤ) (y u yb ub : Decimal) (ms bs : List (Passing A))
    (marginal : ms ≡ ray_rows o scale s e 0 y u) (chief : bs ≡ ray_rows o scale s e 1 yb ub) where
  pub rays-give : short_attempt o scale s e ms bs ≡ sums_attempt o scale s e y u yb ub
  rays-give = (λ i. short_attempt o scale s e (marginal i) (chief i)) ∙ attempt-is o scale s e y u yb ub

  pub rays-enclose : (member : A → Symbols → Frac → Type 0) → IsLawful scale o member → Covers scale (eps s) e
      → EnclosesTrack member s y u ms → EnclosesTrack member s yb ub bs
      → (out : SeidelOut) → out ≡ (short_attempt o scale s e ms bs).out → EnclosesSeidel s y u yb ub out
  rays-enclose member law covers hm hb out h c chain =
      let same : (sums_attempt o scale s e y u yb ub).out ≡ out = sym (h ∙ ap (λ (a : Attempt SeidelOut). a.out) rays-give) in
      subst (λ (t : SeidelOut). HoldsSeidel t c) same
      (attempt-holds scale o member law no_symbols s e covers c y u yb ub chain
      (subst (λ (t : List (Passing A)). EnclosesTrack member s y u t) marginal hm)
      (subst (λ (t : List (Passing A)). EnclosesTrack member s yb ub t) chief hb))
