-- The stop with one more line.
use Rattle.std.specs.Prelude.{◌≡◌, ℕ, suc, ◌+◌, ◌<◌, true, false, Bool, nat_eq, nat_lt, List, [], ◌∷◌, ◌++◌, length, codes, if◌then◌else◌, refl}
use Rattle.std.proofs.Common.{ap, sym, ◌∙◌, inl, inr, arith, add-zero, zero-add, length-append, ◌≤◌}
use Rattle.std.proofs.lemmas.Bool.{eq-eqb}
use Rattle.lensmodel.specs.Files.Lens.{is_marked, marked_from, one_or}
use Rattle.lensmodel.specs.Files.LensFaults.{is_SURF}
use Rattle.lensmodel.specs.Files.Records.{Words, has_tag, each_block, count_where}
use Rattle.records.specs.LineLaws.{count_where-append}
use Rattle.zmxread.specs.Readers.{stop_among, marks_of}
use Rattle.zmxread.specs.Stops.{marked_too, stop_or}
use Rattle.zmxread.proofs.Blocks.{Changes, on_last, on_last-append, last_of_list, each_block-begins, each_block-grows, on_last-same}
use Rattle.zmxread.proofs.TagWords.{other_tag}

-- ---- marks of blocks
pub positive : (n : ℕ) → nat_lt 0 (suc n) ≡ true
positive n = grind arith

pub STOP-marks : (l : Words) → has_tag (codes "STOP") l ≡ true → Changes is_SURF is_marked l (λ m. true)
STOP-marks l h = record {
  inner = other_tag (codes "STOP") (codes "SURF") l h refl;
  made = λ head ls. rw (count_where-append (λ x. has_tag (codes "STOP") x) ls l, h) (positive (count_where (λ x. has_tag (codes "STOP") x) ls));
}

pub others-mark : (l : Words) → is_SURF l ≡ false → has_tag (codes "STOP") l ≡ false → Changes is_SURF is_marked l (λ m. m)
others-mark l s h = record {
  inner = s;
  made = λ head ls. rw (count_where-append (λ x. has_tag (codes "STOP") x) ls l, h) refl;
}

-- ---- the numbers of the marked
pub marked_from-append : (j : ℕ) (ms : List Bool) (m : Bool) → marked_from j (ms ++ m ∷ []) ≡ marked_from j ms ++ (if m then (j + length ms) ∷ [] else [])
marked_from-append j [] m = rw (add-zero j) refl
marked_from-append j (x ∷ ms) m =
    let e : suc j + length ms ≡ j + suc (length ms) = omega arith in
    let r : marked_from (suc j) (ms ++ m ∷ []) ≡ marked_from (suc j) ms ++ (if m then (j + suc (length ms)) ∷ [] else []) =
    marked_from-append (suc j) ms m ∙ ap (λ n. marked_from (suc j) ms ++ (if m then n ∷ [] else [])) e in
    rw r (elim x as (λ b. (if b then j ∷ (marked_from (suc j) ms ++ (if m then (j + suc (length ms)) ∷ [] else [])) else (marked_from (suc j) ms ++ (if m then (j + suc (length ms)) ∷ [] else [])))
    ≡ (if b then j ∷ marked_from (suc j) ms else marked_from (suc j) ms) ++ (if m then (j + suc (length ms)) ∷ [] else [])) [ true ↦ refl | false ↦ refl ])

-- each is below the count
abbrev AllBelow : ℕ → List ℕ → Type 0
AllBelow n [] = Unit {0}
AllBelow n (k ∷ ks) = (k < n) × AllBelow n ks

all_below : (j n : ℕ) (ms : List Bool) → j + length ms ≤ n → AllBelow n (marked_from j ms)
all_below j n [] h = tt
all_below j n (m ∷ ms) h =
    let r : AllBelow n (marked_from (suc j) ms) = all_below (suc j) n ms (omega arith) in
    let k : j < n = omega arith in
    elim m as (λ b. AllBelow n (if b then j ∷ marked_from (suc j) ms else marked_from (suc j) ms)) [ true ↦ (k, r) | false ↦ r ]

-- one more number, which is none of those before
stop_among-more : (n : ℕ) (ks : List ℕ) → AllBelow n ks → stop_among (ks ++ n ∷ []) ≡ marked_too n (stop_among ks)
stop_among-more n [] h = refl
stop_among-more n (k ∷ []) h =
    let e : nat_eq k n ≡ false = grind (arith, h.0) in rw e refl
stop_among-more n (k ∷ m ∷ ks) h = refl

-- the last one again
stop_among-again : (n : ℕ) (ks : List ℕ) → stop_among (ks ++ n ∷ []) ≡ marked_too n (stop_among (ks ++ n ∷ []))
stop_among-again n [] = rw (eq-eqb n n refl) refl
stop_among-again n (k ∷ []) = refl
stop_among-again n (k ∷ m ∷ ks) = refl

append-none : {A : Type 0} (xs : List A) → xs ++ [] ≡ xs
append-none [] = refl
append-none (x ∷ xs) = ap (λ ys. x ∷ ys) (append-none xs)

marks-append : (ms : List Bool) (m : Bool) → marked_from 0 (ms ++ m ∷ []) ≡ marked_from 0 ms ++ (if m then length ms ∷ [] else [])
marks-append ms m = marked_from-append 0 ms m ∙ ap (λ n. marked_from 0 ms ++ (if m then n ∷ [] else [])) (zero-add (length ms))

-- ---- the stop
-- the mark of the last surface
pub stop-marked : (n : ℕ) (ms : List Bool) → length ms ≡ suc n → stop_among (marked_from 0 (on_last (λ m. true) ms)) ≡ marked_too n (stop_among (marked_from 0 ms))
stop-marked n ms e = elim (last_of_list ms) [
  | inl z ↦ absurd (omega (arith, ap length z))
  | inr z ↦
      let front = z.0 in
      let count : length front ≡ n = omega (arith, ap length z.2, length-append front (z.1 ∷ [])) in
      let new : marked_from 0 (on_last (λ m. true) ms) ≡ marked_from 0 front ++ n ∷ [] =
      ap (λ (x : List Bool). marked_from 0 (on_last (λ m. true) x)) z.2 ∙ ap (marked_from 0) (on_last-append (λ m. true) front z.1)
      ∙ marks-append front true ∙ ap (λ k. marked_from 0 front ++ k ∷ []) count in
      let before : marked_from 0 ms ≡ marked_from 0 front ++ (if z.1 then n ∷ [] else []) =
      ap (marked_from 0) z.2 ∙ marks-append front z.1 ∙ ap (λ k. marked_from 0 front ++ (if z.1 then k ∷ [] else [])) count in
      let h : AllBelow n (marked_from 0 front) = all_below 0 n front (omega arith) in
      ap stop_among new
      ∙ elim z.1 as (λ b. stop_among (marked_from 0 front ++ n ∷ []) ≡ marked_too n (stop_among (marked_from 0 front ++ (if b then n ∷ [] else [])))) [
        | true ↦ stop_among-again n (marked_from 0 front)
        | false ↦ stop_among-more n (marked_from 0 front) h ∙ ap (λ ks. marked_too n (stop_among ks)) (sym (append-none (marked_from 0 front)))
      ]
      ∙ ap (λ ks. marked_too n (stop_among ks)) (sym before)
]

-- ---- the marks of lines
pub marks-STOP : (ls : List Words) (l : Words) (n : ℕ) → has_tag (codes "STOP") l ≡ true → length (each_block is_SURF is_marked ls) ≡ suc n
    → stop_among (marks_of (ls ++ l ∷ [])) ≡ marked_too n (stop_among (marks_of ls))
marks-STOP ls l n h e =
    ap (λ ms. stop_among (marked_from 0 ms)) (each_block-grows is_SURF is_marked ls l (λ m. true) (STOP-marks l h))
    ∙ stop-marked n (each_block is_SURF is_marked ls) e

pub marks-SURF : (ls : List Words) (l : Words) → is_SURF l ≡ true → marks_of (ls ++ l ∷ []) ≡ marks_of ls
marks-SURF ls l h =
    ap (marked_from 0) (each_block-begins is_SURF is_marked ls l h) ∙ marks-append (each_block is_SURF is_marked ls) false
    ∙ append-none (marked_from 0 (each_block is_SURF is_marked ls))

pub marks-other : (ls : List Words) (l : Words) → is_SURF l ≡ false → has_tag (codes "STOP") l ≡ false → marks_of (ls ++ l ∷ []) ≡ marks_of ls
marks-other ls l s h =
    ap (marked_from 0) (each_block-grows is_SURF is_marked ls l (λ m. m) (others-mark l s h) ∙ on_last-same (each_block is_SURF is_marked ls))

-- the stop of the lens
pub stop_of-among : (count : ℕ) (ks : List ℕ) → one_or count ks ≡ stop_or count (stop_among ks)
stop_of-among count [] = refl
stop_of-among count (k ∷ []) = refl
stop_of-among count (k ∷ m ∷ ks) = refl
