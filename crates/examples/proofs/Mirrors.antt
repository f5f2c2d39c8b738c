-- Mirrors, the sign of travel, and equal media.
use Rattle.std.proofs.Common.{◌≡◌, ℕ, zero, suc, Bool, true, false, ◌&&◌, not, slice_index_or, refl, sym, ap, arith, ◌⊎◌, inl, inr}
use Rattle.std.proofs.lemmas.Int.{ints}
use Rattle.std.specs.Prelude.{ℤ, pos, negsuc, neg_ℤ, ◌↔◌, IsTrue, if◌then◌else◌}
use Rattle.fixdec.specs.Frac.{◌+Q◌}
use Rattle.lensmodel.specs.Equations.Bending.{BendsBy, Stays}
use Rattle.lensmodel.specs.Equations.Chain.{Chain}
use Rattle.examples.specs.ChainLaws.{DirectionStays, TurnsAtMirrors, StaysElsewhere, MirrorsKeepMedium, MirrorsKeepIndex}
use Rattle.lensmodel.specs.Setup.Media.{equal_media, same_medium, medium_at, has_tolerance}
use Rattle.lensmodel.specs.Setup.Values.{reflects, travel, owner, tolerances, deviation}
use Rattle.lensmodel.specs.declared.glass.Medium.TheVariants.{Air}
use Rattle.lensmodel.specs.declared.setup.Setup.{Setup}
use Rattle.lensmodel.specs.declared.tolerance.TolKind.TheVariants.{Indx}

-- the sign of travel is 1 or -1
abbrev IsSign : ℤ → Type 0
IsSign z = (z ≡ pos 1) ⊎ (z ≡ negsuc 0)

sign_by : (b : Bool) (z : ℤ) → IsSign z → IsSign (if b then neg_ℤ z else z)
sign_by true z (inl e) = inr (rw e refl)
sign_by true z (inr e) = inl (rw e refl)
sign_by false z h = h

travel_sign : (s : Setup) (j : ℕ) → IsSign (travel s j)
travel_sign s zero = inl refl
travel_sign s (suc j) = sign_by (reflects s (suc j)) (travel s j) (travel_sign s j)

-- so it isn't its own negation
no_self : (z : ℤ) → IsSign z → z ≡ neg_ℤ z → ⊥
no_self z (inl e) h = omega (arith, ints)
no_self z (inr e) h = omega (arith, ints)

turned_by : (b : Bool) (z : ℤ) → IsSign z → ((if b then neg_ℤ z else z) ≡ neg_ℤ z) ↔ IsTrue b
turned_by true z h = (λ e. refl, λ e. refl)
turned_by false z h = (λ e. absurd (no_self z h e), λ e. absurd (cc))

kept_by : (b : Bool) (z : ℤ) → IsSign z → ((if b then neg_ℤ z else z) ≡ z) ↔ IsTrue (not b)
kept_by true z h = (λ e. absurd (no_self z h (sym e)), λ e. absurd (cc))
kept_by false z h = (λ e. refl, λ e. refl)

pub turns_at_mirrors : TurnsAtMirrors
turns_at_mirrors s j = turned_by (reflects s (suc j)) (travel s j) (travel_sign s j)

pub stays_elsewhere : StaysElsewhere
stays_elsewhere s j = kept_by (reflects s (suc j)) (travel s j) (travel_sign s j)

-- a surface between equal media doesn't reflect
not_mirror : (mirror same first second : Bool) → IsTrue (not mirror && same && first && second) → mirror ≡ false
not_mirror true same first second e = absurd (cc)
not_mirror false same first second e = refl

stays_by : (mirror equal : Bool) (s : Setup) (c : Chain) (j : ℕ) → mirror ≡ false → IsTrue equal → BendsBy mirror equal s c j → Stays c j
stays_by true equal s c j m e h = absurd (cc)
stays_by false true s c j m e h = h
stays_by false false s c j m e h = absurd (cc)

pub direction_stays : DirectionStays
direction_stays s ray c j e h =
    stays_by (reflects s (suc j)) (equal_media s j) s c j
    (not_mirror (reflects s (suc j)) (same_medium (medium_at s j) (medium_at s (suc j)))
    (not (has_tolerance (tolerances s.toler) Indx (owner s j))) (not (has_tolerance (tolerances s.toler) Indx (suc j))) e)
    e (h.leaves j (omega arith))

-- behind a mirror the owner of the medium is the one before it
owner_by : (mirror : Bool) (m n : ℕ) → IsTrue mirror → (if mirror then m else n) ≡ m
owner_by true m n e = refl
owner_by false m n e = absurd (cc)

pub mirrors_keep_medium : MirrorsKeepMedium
mirrors_keep_medium s j e = ap (λ k. slice_index_or s.media.items k Air) (owner_by (reflects s (suc j)) (owner s j) (suc j) e)

pub mirrors_keep_index : MirrorsKeepIndex
mirrors_keep_index s c j e =
    ap (λ k. c.glass_index k +Q deviation s c.symbols Indx k) (owner_by (reflects s (suc j)) (owner s j) (suc j) e)
