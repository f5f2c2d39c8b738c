-- Which ray of a fan or of a grid has which number.
use Rattle.std.proofs.Common.{◌≡◌, ℕ, zero, suc, ◌+◌, ◌*◌, ◌/◌, ◌%◌, ◌<◌, List, [], ◌∷◌, ◌++◌, length, refl, sym, ap, ◌∙◌, arith}
use Rattle.std.proofs.Math.Nat.{div-lt_iff_lt-mul}
use Rattle.std.proofs.lemmas.Int.{ints}
use Rattle.std.proofs.lemmas.List.{length-map}
use Rattle.std.proofs.lemmas.Nat.{div-add-mod'}
use Rattle.std.proofs.lemmas.Option.{slice_get-map}
use Rattle.std.specs.Option.{option_map}
use Rattle.std.specs.Prelude.{ℤ, pos, neg_ℤ, ◌+ℤ◌, ◌-ℤ◌, Some, map, flat_map, slice_get}
use Rattle.fixdec.specs.Decimal.{Decimal}
use Rattle.lensmodel.specs.Setup.Launches.{middle, part, numbers_from, parts, fan, grid, count}
use Rattle.lensmodel.specs.Setup.Ratio.{Ratio}
use Rattle.lensmodel.specs.declared.job.Ask.{Ask}
use Rattle.lensmodel.specs.declared.job.Ask.TheVariants.{First, Seidel}
use Rattle.lensmodel.specs.declared.launch.Launch.{Launch}

-- ---- a place in joined lists
get-front : {A : Type 0} (xs ys : List A) (i : ℕ) → i < length xs → slice_get (xs ++ ys) i ≡ slice_get xs i
get-front [] ys i l = absurd (omega arith)
get-front (x ∷ xs) ys zero l = refl
get-front (x ∷ xs) ys (suc i) l = get-front xs ys i (omega arith)

get-back : {A : Type 0} (xs ys : List A) (i j : ℕ) → i ≡ length xs + j → slice_get (xs ++ ys) i ≡ slice_get ys j
get-back [] ys i j e = let same : i ≡ j = omega arith in rw same refl
get-back (x ∷ xs) ys zero j e = absurd (omega arith)
get-back (x ∷ xs) ys (suc i) j e = get-back xs ys i j (omega arith)

-- where each list has m elements, place a m + b is place b of the list of place a
get-flat : {A B : Type 0} (f : A → List B) (m : ℕ) → ((x : A) → length (f x) ≡ m) → (xs : List A) (a b i : ℕ) (x : A)
    → i ≡ a * m + b → b < m → slice_get xs a ≡ Some x → slice_get (flat_map f xs) i ≡ slice_get (f x) b
get-flat f m h [] a b i x e l g = cc
get-flat f m h (y ∷ xs) zero b i x e l g =
    let here : i ≡ b = omega arith in
    let within : i < length (f y) = rw (h y) (omega arith) in
    let same : y ≡ x = cc in
    get-front (f y) (flat_map f xs) i within ∙ rw (here, same) refl
get-flat f m h (y ∷ xs) (suc a) b i x e l g =
    let past : i ≡ length (f y) + (a * m + b) = rw (h y) (omega arith) in
    get-back (f y) (flat_map f xs) i (a * m + b) past ∙ get-flat f m h xs a b (a * m + b) x refl l g

-- ---- the parts of a pupil's side
get-numbers : (i : ℤ) (left k : ℕ) → k < left → slice_get (numbers_from i left) k ≡ Some (i +ℤ pos k)
get-numbers i zero k l = absurd (omega arith)
get-numbers i (suc left) zero l = ap (λ z. Some z) (let e : i ≡ i +ℤ pos 0 = omega (arith, ints) in e)
get-numbers i (suc left) (suc k) l =
    get-numbers (i +ℤ pos 1) left k (omega arith) ∙ ap (λ z. Some z) (let e : (i +ℤ pos 1) +ℤ pos k ≡ i +ℤ pos (suc k) = omega (arith, ints) in e)

numbers-length : (i : ℤ) (left : ℕ) → length (numbers_from i left) ≡ left
numbers-length i zero = refl
numbers-length i (suc left) = ap suc (numbers-length (i +ℤ pos 1) left)

parts-length : (n : ℕ) → length (parts n) ≡ 2 * n + 1
parts-length n = length-map (numbers_from (neg_ℤ (pos n)) (2 * n + 1)) (part n) ∙ numbers-length (neg_ℤ (pos n)) (2 * n + 1)

get-parts : (n k : ℕ) → k < 2 * n + 1 → slice_get (parts n) k ≡ Some (part n (pos k -ℤ pos n))
get-parts n k l =
    let e : neg_ℤ (pos n) +ℤ pos k ≡ pos k -ℤ pos n = omega (arith, ints) in
    slice_get-map (part n) (numbers_from (neg_ℤ (pos n)) (2 * n + 1)) k
    ∙ ap (option_map (part n)) (get-numbers (neg_ℤ (pos n)) (2 * n + 1) k l) ∙ ap (λ z. Some (part n z)) e

-- what stands at a place of the parts, mapped
get-mapped : (f : Ratio → Launch) (n k : ℕ) → k < 2 * n + 1 → slice_get (map f (parts n)) k ≡ Some (f (part n (pos k -ℤ pos n)))
get-mapped f n k l = slice_get-map f (parts n) k ∙ ap (option_map f) (get-parts n k l)

mapped-length : (f : Ratio → Launch) (n : ℕ) → length (map f (parts n)) ≡ 2 * n + 1
mapped-length f n = length-map (parts n) f ∙ parts-length n

module _ (through : Ratio → Ratio → Launch) (n i : ℕ) where
  -- ---- a fan: first along y, then along x
  abbrev along_y : List Launch
  along_y = map (λ py. through middle py) (parts n)

  abbrev along_x : List Launch
  along_x = map (λ px. through px middle) (parts n)

  y-length : length along_y ≡ 2 * n + 1
  y-length = mapped-length (λ py. through middle py) n

  pub fan-front : i < 2 * n + 1 → slice_get (fan through n) i ≡ Some (through middle (part n (pos i -ℤ pos n)))
  fan-front l = get-front along_y along_x i (rw y-length l) ∙ get-mapped (λ py. through middle py) n i l

  pub fan-back : (j : ℕ) → i ≡ (2 * n + 1) + j → j < 2 * n + 1 → slice_get (fan through n) i ≡ Some (through (part n (pos j -ℤ pos n)) middle)
  fan-back j e l = get-back along_y along_x i j (rw y-length e) ∙ get-mapped (λ px. through px middle) n j l

  -- ---- a grid: x outside, y inside
  pub grid-at : i < (2 * n + 1) * (2 * n + 1)
      → slice_get (grid through n) i ≡ Some (through (part n (pos (i / (2 * n + 1)) -ℤ pos n)) (part n (pos (i % (2 * n + 1)) -ℤ pos n)))
  grid-at l =
      let m = 2 * n + 1 in
      let some : 0 < m = omega arith in
      let outer : i / m < m = (div-lt_iff_lt-mul {k = m} {x = i} {y = m} some).1 l in
      let inner : i % m < m = omega arith in
      let whole : i ≡ i / m * m + i % m = sym (div-add-mod' i m) in
      get-flat (λ px. map (λ py. through px py) (parts n)) m (λ px. mapped-length (λ py. through px py) n) (parts n) (i / m) (i % m) i (part n (pos (i / m) -ℤ pos n)) whole inner (get-parts n (i / m) outer)
      ∙ get-mapped (λ py. through (part n (pos (i / m) -ℤ pos n)) py) n (i % m) inner

-- ---- no ray
pub none_of_first : (a : Ask) (i : ℕ) (y u : Decimal) → a ≡ First y u → i < count a → ⊥
unfolding count
none_of_first a i y u e l = let n = rw e at l in absurd (omega arith)

pub none_of_seidel : (a : Ask) (i : ℕ) (y u yb ub : Decimal) → a ≡ Seidel y u yb ub → i < count a → ⊥
unfolding count
none_of_seidel a i y u yb ub e l = let n = rw e at l in absurd (omega arith)
