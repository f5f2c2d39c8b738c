-- What one more line changes: the last line that passes a test, and how many do.
use Rattle.std.specs.Prelude.{◌≡◌, suc, Bool, true, false, List, [], ◌∷◌, ◌++◌, Some, None, if◌then◌else◌, refl}
use Rattle.lensmodel.specs.Files.Causes.{or_first}
use Rattle.lensmodel.specs.Files.Records.{Words, last_where, count_where}

pub last_where-append : (is : Words → Bool) (ls : List Words) (l : Words)
    → last_where is (ls ++ l ∷ []) ≡ or_first (if is l then Some l else None) (last_where is ls)
last_where-append is [] l = elim (is l) as (λ b. or_first None (if b then Some l else None) ≡ or_first (if b then Some l else None) None) [ true ↦ refl | false ↦ refl ]
last_where-append is (x ∷ ls) l =
    rw (last_where-append is ls l)
    (elim (is l) as (λ b. or_first (or_first (if b then Some l else None) (last_where is ls)) (if is x then Some x else None)
    ≡ or_first (if b then Some l else None) (or_first (last_where is ls) (if is x then Some x else None))) [ true ↦ refl | false ↦ refl ])

pub count_where-append : (is : Words → Bool) (ls : List Words) (l : Words)
    → count_where is (ls ++ l ∷ []) ≡ (if is l then suc (count_where is ls) else count_where is ls)
count_where-append is [] l = refl
count_where-append is (x ∷ ls) l =
    elim (is x) as (λ b. (if b then suc (count_where is (ls ++ l ∷ [])) else count_where is (ls ++ l ∷ []))
    ≡ (if is l then suc (if b then suc (count_where is ls) else count_where is ls) else (if b then suc (count_where is ls) else count_where is ls))) [
      | true ↦ rw (count_where-append is ls l) (elim (is l) as (λ c. suc (if c then suc (count_where is ls) else count_where is ls)
          ≡ (if c then suc (suc (count_where is ls)) else suc (count_where is ls))) [ true ↦ refl | false ↦ refl ])
      | false ↦ count_where-append is ls l
    ]
