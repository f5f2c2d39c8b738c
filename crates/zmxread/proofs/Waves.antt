-- The wavelengths with one more line.
use Rattle.std.specs.Prelude.{◌≡◌, ℕ, zero, suc, ◌+◌, ◌≤◌, true, false, nat_eq, List, [], ◌∷◌, ◌++◌, map, slice_set, codes, Option, Some, if◌then◌else◌, refl}
use Rattle.std.proofs.Common.{ap, ◌∙◌, arith}
use Rattle.fixdec.specs.Decimal.{Decimal}
use Rattle.lensmodel.specs.Files.Lens.{last_of_index, wavelength, wavelength_in, wavelengths}
use Rattle.lensmodel.specs.Files.Records.{Words, has_tag, word_at, is_number, decimal_at}
use Rattle.zmxread.specs.Lens.{with_wavelength}
use Rattle.zmxread.proofs.Lasts.{last_of_index-new, last_of_index-old}

-- n numbers from a on
abbrev pub from : ℕ → ℕ → List ℕ
from a zero = []
from a (suc n) = a ∷ from (suc a) n

-- where a is beyond the number, nothing changes
beyond : {A : Type 0} (i a n : ℕ) (v : A) (f : ℕ → A) → suc i ≤ a → map (λ k. if nat_eq i k then v else f k) (from a n) ≡ map f (from a n)
beyond i a zero v f h = refl
beyond i a (suc n) v f h =
    let e : nat_eq i a ≡ false = grind arith in
    rw (e, beyond i (suc a) n v f (omega arith)) refl

-- the place d behind the first
set-map : {A : Type 0} (d i a n : ℕ) (v : A) (f : ℕ → A) → i ≡ a + d → map (λ k. if nat_eq i k then v else f k) (from a n) ≡ slice_set (map f (from a n)) d v
set-map d i a zero v f h = refl
set-map zero i a (suc n) v f h =
    let e : nat_eq i a ≡ true = grind arith in
    rw (e, beyond i (suc a) n v f (omega arith)) refl
set-map (suc d) i a (suc n) v f h =
    let e : nat_eq i a ≡ false = grind arith in
    rw (e, set-map d i (suc a) n v f (omega arith)) refl

pub wavelength-new : (ls : List Words) (l : Words) (i : ℕ) → has_tag (codes "WAVM") l ≡ true → ((k : ℕ) → is_number k (word_at 1 l) ≡ nat_eq i k)
    → (k : ℕ) → wavelength (ls ++ l ∷ []) k ≡ (if nat_eq i k then Some (decimal_at 2 l) else wavelength ls k)
wavelength-new ls l i h e k =
    ap wavelength_in (last_of_index-new (codes "WAVM") k i ls l h (e k))
    ∙ elim (nat_eq i k) as (λ b. wavelength_in (if b then Some l else last_of_index (codes "WAVM") k ls) ≡ (if b then Some (decimal_at 2 l) else wavelength ls k)) [ true ↦ refl | false ↦ refl ]

-- the wavelengths where that of a number is another
set-waves : (i : ℕ) (v : Decimal) (f : ℕ → Option Decimal) → map (λ k. if nat_eq i k then Some v else f k) (from 1 24) ≡ with_wavelength i v (map f (from 1 24))
set-waves zero v f = beyond 0 1 24 (Some v) f (omega arith)
set-waves (suc i) v f = set-map i (suc i) 1 24 (Some v) f (omega arith)

pub waves-new : (ls : List Words) (l : Words) (i : ℕ) → has_tag (codes "WAVM") l ≡ true → ((k : ℕ) → is_number k (word_at 1 l) ≡ nat_eq i k)
    → wavelengths (ls ++ l ∷ []) ≡ with_wavelength i (decimal_at 2 l) (wavelengths ls)
waves-new ls l i h e = (λ t. map (λ k. wavelength-new ls l i h e k t) (from 1 24)) ∙ set-waves i (decimal_at 2 l) (wavelength ls)

pub waves-old : (ls : List Words) (l : Words) → has_tag (codes "WAVM") l ≡ false → wavelengths (ls ++ l ∷ []) ≡ wavelengths ls
waves-old ls l h = λ t. map (λ k. wavelength_in (last_of_index-old (codes "WAVM") k ls l h t)) (from 1 24)
