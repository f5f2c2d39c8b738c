-- The sums of sizes of lists that are made of others.
use Rattle.std.proofs.Common.{ℕ, ◌+◌, ◌*◌, ◌≤◌, ◌^◌, List, [], ◌∷◌, map, arith}
use Rattle.std.specs.Prelude.{ℤ, pos, ◌+ℤ◌, ◌*ℤ◌, unsigned_abs}
use Rattle.std.proofs.lemmas.Int.{ints, unsigned_abs-mul}
use Rattle.std.proofs.lemmas.List.Sums.{sum_by-cons}
use native.Mathlib.Nat.{mul-le-mul}
use Rattle.fixdec.specs.Ends.{InCap}
use Rattle.fixdec.specs.Form.{coefficientwise, sizes}
use Rattle.forms.specs.Kept.{weighted}

-- where f makes a number at most m times as large, so is a list's sum of sizes
pub map_sizes : (f : ℤ → ℤ) (m : ℕ) (ks : List ℤ) → ((k : ℤ) → unsigned_abs (f k) ≤ m * unsigned_abs k) → sizes (map f ks) ≤ m * sizes ks
map_sizes f m [] h = omega arith
map_sizes f m (k ∷ ks) h =
    let e = sum_by-cons unsigned_abs k ks in
    let g = sum_by-cons unsigned_abs (f k) (map f ks) in
    let s = h k in
    let t = map_sizes f m ks h in
    rw (e, g) (omega arith)

-- where f makes of two numbers one that is at most m times the one and n times the other together, so are the sums of sizes
pub combined_sizes : (f : ℤ → ℤ → ℤ) (m n : ℕ) (ks ls : List ℤ) → ((k l : ℤ) → unsigned_abs (f k l) ≤ m * unsigned_abs k + n * unsigned_abs l)
    → sizes (coefficientwise f ks ls) ≤ m * sizes ks + n * sizes ls
combined_sizes f m n [] ls h = let t = map_sizes (f (pos 0)) n ls (λ l. let s = h (pos 0) l in omega arith) in omega arith
combined_sizes f m n (k ∷ ks) [] h = let t = map_sizes (λ x. f x (pos 0)) m (k ∷ ks) (λ x. let s = h x (pos 0) in omega arith) in omega arith
combined_sizes f m n (k ∷ ks) (l ∷ ls) h =
    let e = sum_by-cons unsigned_abs k ks in
    let d = sum_by-cons unsigned_abs l ls in
    let g = sum_by-cons unsigned_abs (f k l) (coefficientwise f ks ls) in
    let s = h k l in
    let t = combined_sizes f m n ks ls h in
    rw (e, d, g) (omega arith)

-- x times the one and y times the other
pub weighted_total : (x y : ℤ) (ks ls : List ℤ) → InCap x → InCap y → sizes ks ≤ 10 ^ 18 → sizes ls ≤ 10 ^ 18
    → sizes (weighted x ks y ls) ≤ 2 * 10 ^ 36
weighted_total x y ks ls p q r s =
    let t = combined_sizes (λ k l. x *ℤ k +ℤ y *ℤ l) (unsigned_abs x) (unsigned_abs y) ks ls
    (λ k l. omega (arith, ints, unsigned_abs-mul x k, unsigned_abs-mul y l)) in
    let f : unsigned_abs x * sizes ks ≤ 10 ^ 18 * 10 ^ 18 = mul-le-mul p r in
    let g : unsigned_abs y * sizes ls ≤ 10 ^ 18 * 10 ^ 18 = mul-le-mul q s in
    omega arith
