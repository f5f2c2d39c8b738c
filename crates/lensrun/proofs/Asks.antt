-- The lines of a job that ask for rays, their rays one after another, and what holds of all of them.
use Rattle.std.proofs.Common.{◌≡◌, ℕ, zero, suc, ◌+◌, ◌*◌, ◌<◌, Bool, List, [], ◌∷◌, ◌++◌, length, map, take, drop, get_or, Option, Some, refl, sym, ap, subst, ◌∙◌, append_assoc, append-nil, add-one, arith}
use Rattle.std.specs.Prelude.{slice_get, flat_map, IsTrue, pos, neg_ℤ, ◌+ℤ◌, ℤ}
use Rattle.std.specs.List.{All, concat, sum_by}
use Rattle.std.specs.Option.{option_map}
use Rattle.std.proofs.lemmas.Grind.{flat_map-append}
use Rattle.std.proofs.lemmas.List.{length-map, length-append, take_all, take-append-drop}
use Rattle.std.proofs.lemmas.List.Elements.{All-nil, All-cons, All-more, All-map, All-weaker, All-append, All-take, All-drop, All-same, All-head, All-tail}
use Rattle.std.proofs.lemmas.List.Sums.{sum_by-cons, sum_by_more}
use Rattle.std.proofs.lemmas.Option.{slice_get-map, slice_get_within, get_or_from_slice_get}
use Rattle.std.proofs.Math.Seq.{take-suc, take-append_seam}
use Rattle.lensmodel.specs.Call.Trace.{ask_lines, asks_lines, rows_of, traced, SpotsHold}
use Rattle.lensmodel.specs.Call.TraceJson.{json_lines, json_text}
use Rattle.lensmodel.specs.Claims.RowClaims.{RowHolds}
use Rattle.lensmodel.specs.Claims.SpotClaims.{IsTraced, SpotHolds, Traced}
use Rattle.lensmodel.specs.Rows.Ray.{row}
use Rattle.lensmodel.specs.Setup.Launches.{launches, count, fan, grid, numbers_from, part, parts, middle, job_launches, job_count}
use Rattle.lensmodel.specs.Setup.Ratio.{Ratio}
use Rattle.lensmodel.specs.Setup.Values.{image}
use Rattle.lensmodel.specs.Setup.WellFormed.{IsWellFormed}
use Rattle.lensmodel.specs.Texts.JsonRows.{json_line}
use Rattle.lensmodel.specs.declared.job.Ask.{Ask}
use Rattle.lensmodel.specs.declared.job.Ask.TheVariants.{Ray, Aim, Fan, Spot, First, Seidel}
use Rattle.lensmodel.specs.declared.job.Job.{Job}
use Rattle.lensmodel.specs.declared.launch.Launch.{Launch}
use Rattle.lensmodel.specs.declared.launch.Launch.TheVariants.{Pupil}
use Rattle.lensmodel.specs.declared.row.Row.{Row}
use Rattle.lensmodel.specs.declared.setup.Setup.{Setup}
use Rattle.lensio.specs.Taken.{Takes, TakesFront}
use Rattle.lensrun.specs.Gathered.{Gathers}
use Rattle.lensrun.specs.Numbered.{numbered}
use Rattle.lensrun.proofs.Gathering.{lines-front, lines-end, taken-gathers}
use Rattle.lensrun.proofs.Reaches.{row-is}
use Rattle.spotfan.specs.Chains.{spot_holds}

-- the first things and one more
pub take-next : {X : Type 0} (xs : List X) (i : ℕ) (x : X) → slice_get xs i ≡ Some x → take (i + 1) xs ≡ take i xs ++ x ∷ []
take-next xs i x e = rw add-one (take-suc xs i x (slice_get_within xs i x e) ∙ ap (λ y. take i xs ++ y ∷ []) (get_or_from_slice_get xs i x x e))

-- ---- how many rays a line asks for
length-numbers : (i : ℤ) (k : ℕ) → length (numbers_from i k) ≡ k
length-numbers i zero = refl
length-numbers i (suc k) = ap suc (length-numbers (i +ℤ pos 1) k)

length-parts : (n : ℕ) → length (parts n) ≡ 2 * n + 1
length-parts n = length-map (numbers_from (neg_ℤ (pos n)) (2 * n + 1)) (part n) ∙ length-numbers (neg_ℤ (pos n)) (2 * n + 1)

length-fan : (through : Ratio → Ratio → Launch) (n : ℕ) → length (fan through n) ≡ 2 * (2 * n + 1)
length-fan through n =
    let a = length-append (map (λ py. through middle py) (parts n)) (map (λ px. through px middle) (parts n)) in
    let b = length-map (parts n) (λ py. through middle py) in
    let c = length-map (parts n) (λ px. through px middle) in
    let d = length-parts n in
    omega arith

length-rows : {A B C : Type 0} (f : A → B → C) (xs : List A) (ys : List B) → length (flat_map (λ x. map (f x) ys) xs) ≡ length xs * length ys
length-rows f [] ys = omega arith
length-rows f (x ∷ xs) ys =
    let a = length-append (map (f x) ys) (flat_map (λ x. map (f x) ys) xs) in
    let b = length-map ys (f x) in
    let c = length-rows f xs ys in
    let d : suc (length xs) * length ys ≡ length xs * length ys + length ys = omega arith in
    omega arith

pub count-is : (a : Ask) → length (launches a) ≡ count a
unfolding launches count
count-is (Ray x y p q) = refl
count-is (Aim p q px py z r) = refl
count-is (Fan p q n z r) = length-fan (λ px py. Pupil p q px py z r) n
count-is (Spot p q n z r) = length-rows (λ px py. Pupil p q px py z r) (parts n) (parts n) ∙ (λ i. length-parts n i * length-parts n i)
count-is (First y u) = refl
count-is (Seidel y u yb ub) = refl

-- ---- the rows of a line
module _ (s : Setup) (a : Ask) where
  pub rows-count : length (rows_of s a) ≡ count a
  rows-count = length-map (launches a) (row s) ∙ count-is a

  pub row-at : (k : ℕ) (q : Launch) → slice_get (launches a) k ≡ Some q → slice_get (rows_of s a) k ≡ Some (row s q)
  row-at k q e = slice_get-map (row s) (launches a) k ∙ ap (option_map (row s)) e

  pub hold-next : (k : ℕ) (q : Launch) → slice_get (launches a) k ≡ Some q → RowHolds s q (row s q)
      → All (λ ray. RowHolds s ray (row s ray)) (take k (launches a)) → All (λ ray. RowHolds s ray (row s ray)) (take (k + 1) (launches a))
  hold-next k q e h all =
      All-more (λ ray. RowHolds s ray (row s ray)) (launches a) k q (slice_get_within (launches a) k q e) all
      (subst (λ ray. RowHolds s ray (row s ray)) (sym (get_or_from_slice_get (launches a) k q q e)) h)

  pub hold-end : (k : ℕ) → count a ≡ k → All (λ ray. RowHolds s ray (row s ray)) (take k (launches a)) → All (λ ray. RowHolds s ray (row s ray)) (launches a)
  hold-end k e h = subst (All (λ ray. RowHolds s ray (row s ray))) (take_all k (launches a) (omega (arith, count-is a, e))) h

-- ---- the texts of the lines of a job, by the number of their first rays
pub ask_texts : (ℕ → Ask → List ℕ) → ℕ → List Ask → List (List ℕ)
ask_texts text i [] = []
ask_texts text i (a ∷ more) = text i a ∷ ask_texts text (i + length (launches a)) more

module _ (text : ℕ → Ask → List ℕ) where
  pub length-texts : (i : ℕ) (asks : List Ask) → length (ask_texts text i asks) ≡ length asks
  unfolding ask_texts
  length-texts i [] = refl
  length-texts i (a ∷ more) = ap suc (length-texts (i + length (launches a)) more)

  pub text-at : (i k n : ℕ) (asks : List Ask) (a : Ask) → slice_get asks k ≡ Some a → n ≡ i + job_count (take k asks)
      → slice_get (ask_texts text i asks) k ≡ Some (text n a)
  unfolding ask_texts
  text-at i k n [] a at e = absurd (cc at)
  text-at i zero n (b ∷ more) a at e = let same : n ≡ i = omega (arith, e) in cc (at, same)
  text-at i (suc k) n (b ∷ more) a at e =
      let c = count-is b in
      let t : job_count (take (suc k) (b ∷ more)) ≡ count b + job_count (take k more) = sum_by-cons count b (take k more) in
      text-at (i + length (launches b)) k n more a at (omega (arith, e, c, t))

  module _ (asks : List Ask) (whole : List ℕ) (are : concat (ask_texts text 1 asks) ≡ whole) (a b : Option (List ℕ)) (p t : List ℕ) (i : ℕ)
      (g : Gathers a b p (t ++ concat (take i (ask_texts text 1 asks)))) where
    pub job_front : (c : Option (List ℕ)) (line : List ℕ) → slice_get (ask_texts text 1 asks) i ≡ Some line → TakesFront b c (p ++ line)
        → TakesFront a c (t ++ whole)
    job_front c line at h = subst (λ w. TakesFront a c (t ++ w)) are (lines-front a b c p t (ask_texts text 1 asks) i line at g h)

    pub job_end : length asks ≡ i → Gathers a b p (t ++ whole)
    job_end e = subst (λ w. Gathers a b p (t ++ w)) are (lines-end a b p t (ask_texts text 1 asks) i (length-texts 1 asks ∙ e) g)

module _ (s : Setup) where
  -- in lines
  pub asks-are : (i : ℕ) (asks : List Ask) → concat (ask_texts (ask_lines s) i asks) ≡ asks_lines s i asks
  unfolding ask_texts
  asks-are i [] = refl
  asks-are i (a ∷ more) = ap (λ l. ask_lines s i a ++ l) (asks-are (i + length (launches a)) more)

pub job_count-next : (asks : List Ask) (k : ℕ) (a : Ask) → slice_get asks k ≡ Some a → job_count (take (k + 1) asks) ≡ job_count (take k asks) + count a
job_count-next asks k a at =
    sum_by_more count asks k a (slice_get_within asks k a at) ∙ ap (λ b. job_count (take k asks) + count b) (get_or_from_slice_get asks k a a at)

-- the rays of the lines before and of one more
pub launches-next : (asks : List Ask) (k : ℕ) (a : Ask) → slice_get asks k ≡ Some a → job_launches (take (k + 1) asks) ≡ job_launches (take k asks) ++ launches a
launches-next asks k a at =
    ap job_launches (take-next asks k a at) ∙ flat_map-append launches (take k asks) (a ∷ [])
    ∙ ap (λ l. job_launches (take k asks) ++ l) (append-nil (launches a))

map-append : {X Y : Type 0} (f : X → Y) (xs ys : List X) → map f (xs ++ ys) ≡ map f xs ++ map f ys
map-append f [] ys = refl
map-append f (x ∷ xs) ys = ap (λ l. f x ∷ l) (map-append f xs ys)

-- in JSON
json_lines-append : (i : ℕ) (xs ys : List Row) → json_lines i (xs ++ ys) ≡ json_lines i xs ++ json_lines (i + length xs) ys
json_lines-append i [] ys = let e : i + 0 ≡ i = omega arith in rw e refl
json_lines-append i (x ∷ xs) ys =
    let e : i + suc (length xs) ≡ suc i + length xs = omega arith in
    rw e (ap (λ l. json_line i x ++ l) (json_lines-append (suc i) xs ys) ∙ sym (append_assoc (json_line i x) (json_lines (suc i) xs) (json_lines (suc i + length xs) ys)))

pub jsons-are : (s : Setup) (i : ℕ) (asks : List Ask) → concat (ask_texts (λ i a. json_lines i (rows_of s a)) i asks) ≡ json_lines i (map (row s) (job_launches asks))
unfolding ask_texts
jsons-are s i [] = refl
jsons-are s i (a ∷ more) =
    ap (λ l. json_lines i (rows_of s a) ++ l) (jsons-are s (i + length (launches a)) more)
    ∙ ap (λ n. json_lines i (rows_of s a) ++ json_lines (i + n) (map (row s) (job_launches more))) (sym (length-map (launches a) (row s)))
    ∙ sym (json_lines-append i (rows_of s a) (map (row s) (job_launches more)))
    ∙ ap (json_lines i) (sym (map-append (row s) (launches a) (job_launches more)))

-- the JSON of rows as a list of lines
pub json_rows-are : (i : ℕ) (rows : List Row) → concat (numbered json_line i rows) ≡ json_lines i rows
json_rows-are i [] = refl
json_rows-are i (r ∷ more) = ap (λ l. json_line i r ++ l) (json_rows-are (suc i) more)

module _ (s : Setup) (job : Job) (asks : List Ask) (same : asks ≡ job.asks) (a b : Option (List ℕ)) where
  pub json_taken : Gathers a b [] (json_lines 1 (map (row s) (job_launches asks))) → Takes a b (json_text s job)
  unfolding json_text
  json_taken g = subst (λ l. Takes a b (json_lines 1 (map (row s) (job_launches l)))) same (taken-gathers a b (json_lines 1 (map (row s) (job_launches asks))) g)

  pub json_front : TakesFront a b (json_lines 1 (map (row s) (job_launches asks))) → TakesFront a b (json_text s job)
  unfolding json_text
  json_front h = subst (λ l. TakesFront a b (json_lines 1 (map (row s) (job_launches l)))) same h

pub job_rows-next : (s : Setup) (asks : List Ask) (k : ℕ) (a : Ask) → slice_get asks k ≡ Some a
    → map (row s) (job_launches (take k asks)) ++ rows_of s a ≡ map (row s) (job_launches (take (k + 1) asks))
job_rows-next s asks k a at = sym (ap (map (row s)) (launches-next asks k a at) ∙ map-append (row s) (job_launches (take k asks)) (launches a))

pub job_hold-next : (s : Setup) (asks : List Ask) (k : ℕ) (a : Ask) → slice_get asks k ≡ Some a
    → All (λ ray. RowHolds s ray (row s ray)) (job_launches (take k asks)) → All (λ ray. RowHolds s ray (row s ray)) (launches a)
    → All (λ ray. RowHolds s ray (row s ray)) (job_launches (take (k + 1) asks))
job_hold-next s asks k a at h g =
    All-same (λ ray. RowHolds s ray (row s ray)) _ _ (launches-next asks k a at)
    (All-append (λ ray. RowHolds s ray (row s ray)) (job_launches (take k asks)) (launches a) h g)

-- ---- the grids of a job
drop-seam : {X : Type 0} (xs ys : List X) → drop (length xs) (xs ++ ys) ≡ ys
drop-seam [] ys = refl
drop-seam (x ∷ xs) ys = drop-seam xs ys

all-first : {X : Type 0} (P : X → Type 0) (xs ys : List X) → All P (xs ++ ys) → All P xs
all-first P xs ys h = All-same P xs _ (sym (take-append_seam xs ys)) (All-take P (length xs) (xs ++ ys) h)

all-rest : {X : Type 0} (P : X → Type 0) (xs ys : List X) → All P (xs ++ ys) → All P ys
all-rest P xs ys h = All-same P ys _ (sym (drop-seam xs ys)) (All-drop P (length xs) (xs ++ ys) h)

module _ (s : Setup) (reached : 0 < image s) where
  traced-hold : (a : Ask) → All (λ ray. RowHolds s ray (row s ray)) (launches a) → All (IsTraced s) (traced s a)
  traced-hold a h =
      All-map (IsTraced s) (λ ray. record { ray = ray; row = row s ray }) (launches a)
      (All-weaker (λ ray. RowHolds s ray (row s ray)) (λ ray. IsTraced s (record { ray = ray; row = row s ray }))
      (λ ray holds. record { holds = holds; reaches = (row-is s ray).reaches }) (launches a) h)

  pub spots-hold : (asks : List Ask) → All (λ ray. RowHolds s ray (row s ray)) (job_launches asks) → All (λ ask. SpotHolds s (traced s ask)) asks
  spots-hold [] h = All-nil (λ ask. SpotHolds s (traced s ask))
  spots-hold (a ∷ more) h =
      All-cons (λ ask. SpotHolds s (traced s ask)) a more
      (spot_holds s reached (traced s a) (traced-hold a (all-first (λ ray. RowHolds s ray (row s ray)) (launches a) (job_launches more) h)))
      (spots-hold more (all-rest (λ ray. RowHolds s ray (row s ray)) (launches a) (job_launches more) h))
