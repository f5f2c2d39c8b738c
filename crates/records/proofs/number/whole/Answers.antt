use Rattle.std.proofs.Common.{◌≡◌, ℕ, zero, suc, ◌+◌, ◌-◌, ◌*◌, ◌<◌, ◌≤◌, ◌^◌, ap, sym, subst, ◌∙◌, refl, arith, lit<}
use Rattle.std.specs.Prelude.{ℤ, pos, negsuc, None, Some, ◌<ℤ◌, ◌≤ℤ◌}
use lib.IntN.{neg_ℤ}
use Rattle.std.proofs.lemmas.Int.{ints}
use Rattle.std.proofs.lemmas.Bool.{lt-leb}
use Rattle.std.proofs.Math.Nat.{pow-succ', suc-mul, one-le-pow}
use Rattle.fixdec.specs.Decimal.{Decimal}
use Rattle.lensmodel.specs.Files.Records.{whole_at}
use Rattle.lensmodel.specs.Files.Records.{number_to}
use Rattle.records.proofs.number.whole.Goals as goal
use Rattle.records.proofs.number.whole.Goals.{then-d-lt0-via-then-d-lt0, then-d-lt0-via-else-d-lt0+then-d-lt0-2, then-d-gt9-via-then-d-gt9, then-d-gt9-via-else-d-gt9+then-d-from}

above : (most n : ℕ) → most < n → None ≡ number_to most (Some (pos n))
above most n h = rw (lt-leb n most h) refl

below_0 : (most n : ℕ) → 0 < n → None ≡ number_to most (Some (neg_ℤ (pos n)))
below_0 most zero h = absurd (omega arith)
below_0 most (suc n) h = refl

some_power : (k : ℕ) → 0 < 10 ^ k
some_power k = one-le-pow k 10 (lit< tt)

billions : (j : ℕ) → 4294967295 < 10 ^ (j + 10)
billions zero = lit< tt
billions (suc j) =
    let e : suc j + 10 ≡ suc (j + 10) = omega arith in
    let p : 10 ^ suc (j + 10) ≡ 10 * 10 ^ (j + 10) = pow-succ' 10 (j + 10) in
    let h = billions j in
    subst (λ (n : ℕ). 4294967295 < 10 ^ n) (sym e) (omega (arith, p, h))

times_power : (n k : ℕ) → n ≤ n * 10 ^ k
times_power zero k = omega arith
times_power (suc n) k =
    let h = times_power n k in
    let p = some_power k in
    omega (arith, suc-mul n (10 ^ k))

fraction : (most : ℕ) (m e : ℤ) → e <ℤ pos 0 → None ≡ number_to most (whole_at m e)
fraction most m (negsuc k) h = refl
fraction most m (pos k) h = absurd (omega (arith, ints))

negative : (most : ℕ) (m e : ℤ) → m <ℤ pos 0 → None ≡ number_to most (whole_at m e)
negative most m (negsuc k) h = refl
negative most (pos a) (pos k) h = absurd (omega (arith, ints))
negative most (negsuc a) (pos k) h = let p = some_power k in below_0 most (suc a * 10 ^ k) (omega (arith, suc-mul a (10 ^ k)))

large_power : (most : ℕ) (m e : ℤ) → most ≤ 4294967295 → pos 0 ≤ℤ m → (m ≡ pos 0 → e ≡ pos 0) → pos 9 <ℤ e → None ≡ number_to most (whole_at m e)
large_power most m (negsuc k) b l z h = refl
large_power most (negsuc a) (pos k) b l z h = absurd (omega (arith, ints))
large_power most (pos zero) (pos k) b l z h = let e = z refl in absurd (omega (arith, ints))
large_power most (pos (suc a)) (pos k) b l z h =
    let more : 9 < k = omega (arith, ints) in
    let e : k - 10 + 10 ≡ k = omega arith in
    let p = subst (λ (n : ℕ). 4294967295 < 10 ^ n) e (billions (k - 10)) in
    above most (suc a * 10 ^ k) (omega (arith, suc-mul a (10 ^ k)))

large_mantissa : (most : ℕ) (m e : ℤ) → pos most <ℤ m → None ≡ number_to most (whole_at m e)
large_mantissa most m (negsuc k) h = refl
large_mantissa most (negsuc a) (pos k) h = absurd (omega (arith, ints))
large_mantissa most (pos a) (pos k) h = let t = times_power a k in above most (a * 10 ^ k) (omega (arith, ints))

pub returns-then-d-lt0 : goal.returns-then-d-lt0
returns-then-d-lt0 c =
    let d = c.d.inside in
    elim c.then-d-lt0.branch [
      | then-d-lt0-via-then-d-lt0 w ↦ fraction c.args.most d.mant d.exp (omega (arith, ints))
      | then-d-lt0-via-else-d-lt0+then-d-lt0-2 w ↦ negative c.args.most d.mant d.exp (omega (arith, ints))
    ]
    ∙ ap (λ (v : Decimal). number_to c.args.most (whole_at v.mant v.exp)) c.d.view_is

pub returns-then-d-gt9 : goal.returns-then-d-gt9
returns-then-d-gt9 c =
    let d = c.d.inside in
    elim c.then-d-gt9.branch [
      | then-d-gt9-via-then-d-gt9 w ↦ large_power c.args.most d.mant d.exp (omega (arith, c.ranges.most.fits)) (omega (arith, ints)) c.d.invariant.zero (omega (arith, ints))
      | then-d-gt9-via-else-d-gt9+then-d-from w ↦ large_mantissa c.args.most d.mant d.exp (omega (arith, ints, w.from.ensures))
    ]
    ∙ ap (λ (v : Decimal). number_to c.args.most (whole_at v.mant v.exp)) c.d.view_is
