-- How many rays a line of a job asks for, and which they are by their places.
use Rattle.std.proofs.Common.{◌≡◌, ℕ, zero, suc, ◌+◌, ◌*◌, ◌<◌, ◌++◌, length, refl, sym, ap, ◌∙◌, List, [], ◌∷◌, arith}
use Rattle.std.proofs.lemmas.Int.{ints}
use Rattle.std.proofs.lemmas.List.{length-map, length-append}
use Rattle.std.proofs.lemmas.Option.{slice_get-map, slice_get_within}
use Rattle.std.specs.Option.{option_map}
use Rattle.std.specs.Prelude.{ℤ, pos, neg_ℤ, ◌+ℤ◌, ◌-ℤ◌, map, flat_map, slice_get, Some}
use Rattle.fixdec.specs.Decimal.{Decimal}
use Rattle.lensmodel.specs.Setup.Launches.{launches, count, fan, grid, numbers_from, part, parts, middle}
use Rattle.lensmodel.specs.declared.job.Ask.{Ask}
use Rattle.lensmodel.specs.declared.job.Ask.TheVariants.{Ray, Aim, Fan, Spot, First, Seidel}
use Rattle.lensmodel.specs.declared.launch.Launch.{Launch}
use Rattle.lensmodel.specs.declared.launch.Launch.TheVariants.{Pupil}
use Rattle.lensmodel.specs.Setup.Ratio.{Ratio}

-- ---- places of lists
get_left : {A : Type 0} (xs ys : List A) (j : ℕ) (x : A) → slice_get xs j ≡ Some x → slice_get (xs ++ ys) j ≡ Some x
get_left [] ys j x h = let l = slice_get_within [] j x h in absurd (omega arith)
get_left (y ∷ xs) ys zero x h = h
get_left (y ∷ xs) ys (suc j) x h = get_left xs ys j x h

get_right : {A : Type 0} (xs ys : List A) (j : ℕ) → slice_get (xs ++ ys) (length xs + j) ≡ slice_get ys j
get_right [] ys j = ap (slice_get ys) (omega arith)
get_right (x ∷ xs) ys j =
    let e : suc (length xs) + j ≡ suc (length xs + j) = omega arith in
    ap (slice_get (x ∷ (xs ++ ys))) e ∙ get_right xs ys j

get_map : {A B : Type 0} (f : A → B) (xs : List A) (j : ℕ) (x : A) → slice_get xs j ≡ Some x → slice_get (map f xs) j ≡ Some (f x)
get_map f xs j x h = slice_get-map f xs j ∙ ap (option_map f) h

-- ---- parts of the pupil
length_numbers : (i : ℤ) (k : ℕ) → length (numbers_from i k) ≡ k
length_numbers i zero = refl
length_numbers i (suc k) = ap suc (length_numbers (i +ℤ pos 1) k)

get_numbers : (i : ℤ) (k j : ℕ) → j < k → slice_get (numbers_from i k) j ≡ Some (i +ℤ pos j)
get_numbers i zero j h = absurd (omega arith)
get_numbers i (suc k) zero h = let e : i ≡ i +ℤ pos 0 = omega (arith, ints) in ap Some e
get_numbers i (suc k) (suc j) h =
    let e : (i +ℤ pos 1) +ℤ pos j ≡ i +ℤ pos (suc j) = omega (arith, ints) in
    get_numbers (i +ℤ pos 1) k j (omega arith) ∙ ap Some e

pub length_parts : (n : ℕ) → length (parts n) ≡ 2 * n + 1
length_parts n = length-map (numbers_from (neg_ℤ (pos n)) (2 * n + 1)) (part n) ∙ length_numbers (neg_ℤ (pos n)) (2 * n + 1)

-- part j of a side, counted from 0, is (j - n)/n
pub get_parts : (n j : ℕ) → j < 2 * n + 1 → slice_get (parts n) j ≡ Some (part n (pos j -ℤ pos n))
get_parts n j h =
    let e : neg_ℤ (pos n) +ℤ pos j ≡ pos j -ℤ pos n = omega (arith, ints) in
    get_map (part n) (numbers_from (neg_ℤ (pos n)) (2 * n + 1)) j _ (get_numbers (neg_ℤ (pos n)) (2 * n + 1) j h) ∙ ap (λ (z : ℤ). Some (part n z)) e

-- ---- the count
length_fan : (through : Ratio → Ratio → Launch) (n : ℕ) → length (fan through n) ≡ 2 * (2 * n + 1)
length_fan through n =
    let a = length-append (map (λ py. through middle py) (parts n)) (map (λ px. through px middle) (parts n)) in
    let b = length-map (parts n) (λ py. through middle py) in
    let c = length-map (parts n) (λ px. through px middle) in
    let d = length_parts n in
    omega arith

length_rows : {A B C : Type 0} (f : A → B → C) (xs : List A) (ys : List B) → length (flat_map (λ x. map (f x) ys) xs) ≡ length xs * length ys
length_rows f [] ys = omega arith
length_rows f (x ∷ xs) ys =
    let a = length-append (map (f x) ys) (flat_map (λ x. map (f x) ys) xs) in
    let b = length-map ys (f x) in
    let c = length_rows f xs ys in
    let d : suc (length xs) * length ys ≡ length xs * length ys + length ys = omega arith in
    omega arith

-- a line asks for as many rays as its count says
abbrev pub CountIs : Type 0
CountIs = (a : Ask) → length (launches a) ≡ count a

pub count_is : CountIs
unfolding launches count
count_is (Ray x y p q) = refl
count_is (Aim p q px py z r) = refl
count_is (Fan p q n z r) = length_fan (λ px py. Pupil p q px py z r) n
count_is (Spot p q n z r) = length_rows (λ px py. Pupil p q px py z r) (parts n) (parts n) ∙ (λ i. length_parts n i * length_parts n i)
count_is (First y u) = refl
count_is (Seidel y u yb ub) = refl

-- ---- the rays by their places
-- the first half of a fan goes along y, the second along x
abbrev pub FanAlongY : Type 0
FanAlongY = (p q : Decimal) (n : ℕ) (z r : Decimal) (j : ℕ) → j < 2 * n + 1
    → slice_get (launches (Fan p q n z r)) j ≡ Some (Pupil p q middle (part n (pos j -ℤ pos n)) z r)

pub fan_along_y : FanAlongY
unfolding launches
fan_along_y p q n z r j h =
    get_left (map (λ py. Pupil p q middle py z r) (parts n)) (map (λ px. Pupil p q px middle z r) (parts n)) j _
    (get_map (λ py. Pupil p q middle py z r) (parts n) j _ (get_parts n j h))

abbrev pub FanAlongX : Type 0
FanAlongX = (p q : Decimal) (n : ℕ) (z r : Decimal) (j : ℕ) → j < 2 * n + 1
    → slice_get (launches (Fan p q n z r)) (2 * n + 1 + j) ≡ Some (Pupil p q (part n (pos j -ℤ pos n)) middle z r)

pub fan_along_x : FanAlongX
unfolding launches
fan_along_x p q n z r j h =
    let first = map (λ py. Pupil p q middle py z r) (parts n) in
    let second = map (λ px. Pupil p q px middle z r) (parts n) in
    let e : length first ≡ 2 * n + 1 = length-map (parts n) (λ py. Pupil p q middle py z r) ∙ length_parts n in
    ap (λ (k : ℕ). slice_get (first ++ second) (k + j)) (sym e) ∙ get_right first second j
    ∙ get_map (λ px. Pupil p q px middle z r) (parts n) j _ (get_parts n j h)

get_rows : {A B C : Type 0} (f : A → B → C) (xs : List A) (ys : List B) (i j : ℕ) (x : A) (y : B) → slice_get xs i ≡ Some x → slice_get ys j ≡ Some y
    → slice_get (flat_map (λ x. map (f x) ys) xs) (i * length ys + j) ≡ Some (f x y)
get_rows f [] ys i j x y h k = let l = slice_get_within [] i x h in absurd (omega arith)
get_rows {A} {B} {C} f (w ∷ xs) ys zero j x y h k =
    let e : 0 * length ys + j ≡ j = omega arith in
    ap (slice_get (map (f w) ys ++ flat_map (λ x. map (f x) ys) xs)) e
    ∙ get_left (map (f w) ys) (flat_map (λ x. map (f x) ys) xs) j (f w y) (get_map (f w) ys j y k)
    ∙ ap (λ o. option_map (λ (v : A). f v y) o) h
get_rows f (w ∷ xs) ys (suc i) j x y h k =
    let l = length-map ys (f w) in
    let e : suc i * length ys + j ≡ length (map (f w) ys) + (i * length ys + j) = omega arith in
    ap (slice_get (map (f w) ys ++ flat_map (λ x. map (f x) ys) xs)) e
    ∙ get_right (map (f w) ys) (flat_map (λ x. map (f x) ys) xs) (i * length ys + j)
    ∙ get_rows f xs ys i j x y h k

-- a grid goes row by row, x being the same in a row
abbrev pub GridAt : Type 0
GridAt = (p q : Decimal) (n : ℕ) (z r : Decimal) (i j : ℕ) → i < 2 * n + 1 → j < 2 * n + 1
    → slice_get (launches (Spot p q n z r)) (i * (2 * n + 1) + j) ≡ Some (Pupil p q (part n (pos i -ℤ pos n)) (part n (pos j -ℤ pos n)) z r)

pub grid_at : GridAt
unfolding launches
grid_at p q n z r i j h k =
    ap (λ (m : ℕ). slice_get (grid (λ px py. Pupil p q px py z r) n) (i * m + j)) (sym (length_parts n))
    ∙ get_rows (λ px py. Pupil p q px py z r) (parts n) (parts n) i j _ _ (get_parts n i h) (get_parts n j k)
