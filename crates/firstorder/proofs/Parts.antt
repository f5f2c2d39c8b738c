-- The parts of a ray as the code reads them: its last surface, its heights, its trail, and whether a row of it passed the cap.
use Rattle.std.proofs.Common.{◌≡◌, ℕ, zero, suc, ◌+◌, ◌-◌, ◌<◌, Bool, true, false, List, [], ◌∷◌, ◌++◌, length, get_or, map, drop, add-one, refl, ap, arith}
use Rattle.std.proofs.Math.Seq.{drop-cons}
use Rattle.std.specs.Prelude.{◌||◌, slice_index_or}
use Rattle.fixdec.specs.Ends.{Ends}
use Rattle.fixdec.specs.declared.step.Step.{Step}
use Rattle.lensmodel.specs.Paraxial.FirstOrderRows.{Passing, last_of, heights, nothing, trail_of, rows_of}
use Rattle.lensmodel.specs.Paraxial.Losses.{Worked, hull_step, is_by_range, some_by_range}

pub last-read : {A : Type 0} (ps : List (Passing A)) (d : Passing A) → 0 < length ps → get_or ps (length ps - 1) d ≡ last_of ps
last-read [] d l = absurd (omega arith)
last-read (p ∷ []) d l = refl
last-read (p ∷ q ∷ more) d l =
    let place : length (p ∷ q ∷ more) - 1 ≡ suc (length (q ∷ more) - 1) = omega arith in
    rw place (last-read (q ∷ more) d (omega arith))

pub height-read : {A : Type 0} (ps : List (Passing A)) (i : ℕ) (d : Passing A) → i < length ps → slice_index_or (heights ps) i nothing ≡ (get_or ps i d).y
height-read [] i d l = absurd (omega arith)
height-read (p ∷ []) zero d l = refl
height-read (p ∷ []) (suc i) d l = absurd (omega arith)
height-read (p ∷ q ∷ more) zero d l = refl
height-read (p ∷ q ∷ more) (suc i) d l = height-read (q ∷ more) i d (omega arith)

pub height-end : {A : Type 0} (ps : List (Passing A)) → 0 < length ps → slice_index_or (heights ps) (length ps) nothing ≡ (last_of ps).next
height-end [] l = absurd (omega arith)
height-end (p ∷ []) l = refl
height-end (p ∷ q ∷ more) l = height-end (q ∷ more) (omega arith)

-- ---- the trail
abbrev pub pair_at : {A : Type 0} → (A → Ends) → Passing A → Step Ends × Step Ends
pair_at hull p = (hull_step hull p.y, hull_step hull p.behind)

pub trail-is : {A : Type 0} (hull : A → Ends) (ps : List (Passing A)) → 0 < length ps
    → map (pair_at hull) ps ++ (hull_step hull (last_of ps).next, hull_step hull (last_of ps).behind) ∷ [] ≡ trail_of hull ps
trail-is hull [] l = absurd (omega arith)
trail-is hull (p ∷ []) l = refl
trail-is hull (p ∷ q ∷ more) l = ap (λ (xs : List (Step Ends × Step Ends)). pair_at hull p ∷ xs) (trail-is hull (q ∷ more) (omega arith))

-- ---- the cap
or_first : (a b c d : Bool) → b ≡ (c || d) → (a || b) ≡ ((a || c) || d)
or_first true b c d h = refl
or_first false b c d h = h

pub some-append : {A : Type 0} (xs ys : List (Worked A)) → some_by_range (xs ++ ys) ≡ (some_by_range xs || some_by_range ys)
some-append [] ys = refl
some-append (x ∷ xs) ys = or_first (is_by_range x) _ (some_by_range xs) (some_by_range ys) (some-append xs ys)

-- a surface before others
pub some-next : {A : Type 0} (p : Passing A) (more : List (Passing A))
    → some_by_range (rows_of (p ∷ more)) ≡ (some_by_range (rows_of (p ∷ [])) || some_by_range (rows_of more))
some-next p more = some-append (rows_of (p ∷ [])) (rows_of more)

-- at the place i
pub some-here : {A : Type 0} (ps : List (Passing A)) (i : ℕ) (p : Passing A) (b : Bool) → i < length ps → p ≡ get_or ps i p
    → b ≡ some_by_range (rows_of (p ∷ [])) → some_by_range (rows_of (drop i ps)) ≡ (b || some_by_range (rows_of (drop (i + 1) ps)))
some-here ps i p b l e h =
    let here : drop i ps ≡ get_or ps i p ∷ drop (suc i) ps = drop-cons ps i p l in
    rw (add-one, here, ← e, h) (some-next p (drop (suc i) ps))

-- three rays and the values
pub some-four : {A : Type 0} (xs ys zs vs : List (Worked A))
    → some_by_range (xs ++ ys ++ zs ++ vs) ≡ (((some_by_range xs || some_by_range ys) || some_by_range zs) || some_by_range vs)
some-four xs ys zs vs = rw (some-append (xs ++ ys ++ zs) vs, some-append (xs ++ ys) zs, some-append xs ys) refl
