-- The first of some causes that stands, taken in parts.
use Rattle.std.proofs.Common.{◌≡◌, ℕ, zero, suc, ◌+◌, ◌<◌, Bool, true, false, List, [], ◌∷◌, ◌++◌, length, get_or, refl, sym, arith}
use Rattle.std.specs.Prelude.{Option, Some, None, Result, Ok, Err}
use Rattle.lensmodel.specs.Files.Causes.{or_first, fault_if, first_fault, each_from, ok_unless}

-- ---- what an answer says of the cause
pub fault-of : {A F : Type 0} (cause : Option F) (a : A) (fault : F) → Err fault ≡ ok_unless cause a → cause ≡ Some fault
fault-of None a fault e = cc
fault-of (Some f) a fault e = cc

pub none-of : {A F : Type 0} (cause : Option F) (a b : A) → Ok b ≡ ok_unless cause a → cause ≡ None
none-of None a b e = refl
none-of (Some f) a b e = cc

pub value-of : {A F : Type 0} (cause : Option F) (a b : A) → Ok b ≡ ok_unless cause a → b ≡ a
value-of None a b e = cc
value-of (Some f) a b e = cc

pub same_fault : {A F : Type 0} (f g : F) → (let failed : F → Result A F = λ e. Err e in failed f ≡ failed g) → f ≡ g
same_fault f g e = cc

-- ---- joined lists of causes
pub first_fault-append : {F : Type 0} (xs ys : List (Option F)) → first_fault (xs ++ ys) ≡ or_first (first_fault xs) (first_fault ys)
first_fault-append [] ys = refl
first_fault-append (None ∷ xs) ys = first_fault-append xs ys
first_fault-append (Some f ∷ xs) ys = refl

module _ {F : Type 0} (xs ys zs : List (Option F)) where
  pub first_of_three : (f : F) → first_fault xs ≡ Some f → first_fault (xs ++ ys ++ zs) ≡ Some f
  first_of_three f h = rw (first_fault-append (xs ++ ys) zs, first_fault-append xs ys, h) refl

  pub second_of_three : (f : F) → first_fault xs ≡ None → first_fault ys ≡ Some f → first_fault (xs ++ ys ++ zs) ≡ Some f
  second_of_three f h i = rw (first_fault-append (xs ++ ys) zs, first_fault-append xs ys, h, i) refl

  pub third_of_three : first_fault xs ≡ None → first_fault ys ≡ None → first_fault (xs ++ ys ++ zs) ≡ first_fault zs
  third_of_three h i = rw (first_fault-append (xs ++ ys) zs, first_fault-append xs ys, h, i) refl

  pub none_of_three : first_fault (xs ++ ys ++ zs) ≡ None → (first_fault xs ≡ None) × (first_fault ys ≡ None) × (first_fault zs ≡ None)
  none_of_three e = by (first_fault xs) (first_fault ys) (first_fault zs) (sym (rw (first_fault-append (xs ++ ys) zs, first_fault-append xs ys) at e))
    where
      by : (a b c : Option F) → None ≡ or_first (or_first a b) c → (a ≡ None) × (b ≡ None) × (c ≡ None)
      by None None c h = (refl, refl, sym h)
      by None (Some f) c h = cc
      by (Some f) b c h = cc

-- ---- where no fault stands, none stands at any place
not_faulty : {F : Type 0} (stands : Bool) (f : F) → fault_if stands f ≡ None → stands ≡ false
not_faulty true f e = cc
not_faulty false f e = refl

none_first : {F : Type 0} (a b : Option F) → or_first a b ≡ None → (a ≡ None) × (b ≡ None)
none_first None b e = (refl, e)
none_first (Some f) b e = cc

none_at : {A F : Type 0} (test : ℕ → A → Option F) (k : ℕ) (xs : List A) (i n : ℕ) (d : A)
    → n ≡ k + i → i < length xs → first_fault (each_from test k xs) ≡ None → test n (get_or xs i d) ≡ None
none_at test k [] i n d e l h = absurd (omega arith)
none_at test k (x ∷ xs) zero n d e l h = let same : n ≡ k = omega arith in rw same ((none_first (test k x) (first_fault (each_from test (suc k) xs)) h).0)
none_at test k (x ∷ xs) (suc i) n d e l h =
    none_at test (suc k) xs i n d (omega arith) (omega arith) ((none_first (test k x) (first_fault (each_from test (suc k) xs)) h).1)

-- a test that is counted from 0 on, and fails where a cause stands
pub stands_nowhere : {A F : Type 0} (stands : ℕ → A → Bool) (fault : ℕ → F) (xs : List A) (i : ℕ) (d : A) → i < length xs
    → first_fault (each_from (λ j a. fault_if (stands j a) (fault j)) 0 xs) ≡ None → stands i (get_or xs i d) ≡ false
stands_nowhere stands fault xs i d l h =
    not_faulty (stands i (get_or xs i d)) (fault i) (none_at (λ j a. fault_if (stands j a) (fault j)) 0 xs i i d (omega arith) l h)
