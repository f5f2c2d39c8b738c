-- The unused tags with one more line.
use Rattle.std.specs.Prelude.{◌≡◌, ℕ, suc, ◌+◌, true, false, List, [], ◌∷◌, ◌++◌, if◌then◌else◌, refl}
use Rattle.std.proofs.Common.{ap, sym, ◌∙◌, append_assoc, true≢false, arith}
use Rattle.std.proofs.lemmas.List.Sums.{sum_by-append}
use Rattle.lensmodel.specs.Files.Lens.{tag_name, unused_names, count_of_name, without_tag, counted}
use Rattle.lensmodel.specs.Files.LensFaults.{is_read}
use Rattle.lensmodel.specs.Files.Records.{Words, same_word}
use Rattle.records.specs.SameWords.{same-yes, same-of}
use Rattle.zmxread.specs.Tags.{with_one_more, with_unused}

append-none : {A : Type 0} (xs : List A) → xs ++ [] ≡ xs
append-none [] = refl
append-none (x ∷ xs) = ap (λ ys. x ∷ ys) (append-none xs)

not_back : (a b : List ℕ) → same_word a b ≡ false → same_word b a ≡ false
not_back a b h = elim (same_word b a) as (λ v. same_word b a ≡ v → v ≡ false) [
  | true ↦ (λ t. absurd (true≢false (sym (same-of a b (sym (same-yes b a t))) ∙ h)))
  | false ↦ (λ t. refl)
] refl

-- ---- counts of names
count-append : (name : List ℕ) (names : List (List ℕ)) (n : List ℕ)
    → count_of_name name (names ++ n ∷ []) ≡ count_of_name name names + count_of_name name (n ∷ [])
count-append name names n = sum_by-append (λ x. if same_word name x then 1 else 0) names (n ∷ [])

-- words equal to a word are equal to the same words
same-along : (a b c : List ℕ) → same_word a b ≡ true → same_word a c ≡ same_word b c
same-along a b c h = ap (λ (x : List ℕ). same_word x c) (same-yes a b h)

-- the name of other pairs stays away
without-more : (x n : List ℕ) (pairs : List (List ℕ × ℕ)) → same_word x n ≡ true → without_tag x (with_one_more n pairs) ≡ without_tag x pairs
without-more x n [] h = rw h refl
without-more x n (p ∷ pairs) h =
    elim (same_word n p.0) as (λ b. same_word n p.0 ≡ b → without_tag x (if b then (p.0, suc p.1) ∷ pairs else p ∷ with_one_more n pairs) ≡ without_tag x (p ∷ pairs)) [
      | true ↦ (λ e. let t : same_word x p.0 ≡ true = same-along x n p.0 h ∙ e in rw t refl)
      | false ↦ (λ e. elim (same_word x p.0) as (λ b. same_word x p.0 ≡ b → without_tag x (p ∷ with_one_more n pairs) ≡ without_tag x (p ∷ pairs)) [
        | true ↦ (λ t. rw t (without-more x n pairs h))
        | false ↦ (λ t. rw t (ap (λ (ps : List (List ℕ × ℕ)). p ∷ ps) (without-more x n pairs h)))
      ] refl)
    ] refl

-- the name is added after others are left out
more-without : (x n : List ℕ) (pairs : List (List ℕ × ℕ)) → same_word x n ≡ false → without_tag x (with_one_more n pairs) ≡ with_one_more n (without_tag x pairs)
more-without x n [] h = rw h refl
more-without x n (p ∷ pairs) h =
    elim (same_word n p.0) as (λ b. same_word n p.0 ≡ b → without_tag x (if b then (p.0, suc p.1) ∷ pairs else p ∷ with_one_more n pairs) ≡ with_one_more n (without_tag x (p ∷ pairs))) [
      | true ↦ (λ e.
          let t : same_word x p.0 ≡ false = sym (ap (λ (y : List ℕ). same_word x y) (same-yes n p.0 e)) ∙ h in
          rw (t, e) refl)
      | false ↦ (λ e. elim (same_word x p.0) as (λ b. same_word x p.0 ≡ b → without_tag x (p ∷ with_one_more n pairs) ≡ with_one_more n (without_tag x (p ∷ pairs))) [
        | true ↦ (λ t. rw t (more-without x n pairs h))
        | false ↦ (λ t. rw (t, e) (ap (λ (ps : List (List ℕ × ℕ)). p ∷ ps) (more-without x n pairs h)))
      ] refl)
    ] refl

pub counted-append : (names : List (List ℕ)) (n : List ℕ) → counted (names ++ n ∷ []) ≡ with_one_more n (counted names)
counted-append [] n = refl
counted-append (x ∷ names) n =
    elim (same_word x n) as (λ b. same_word x n ≡ b → counted (x ∷ (names ++ n ∷ [])) ≡ with_one_more n (counted (x ∷ names))) [
      | true ↦ (λ h.
          let back : same_word n x ≡ true = same-of n x (sym (same-yes x n h)) in
          let count : count_of_name x (names ++ n ∷ []) ≡ suc (count_of_name x names) = count-append x names n ∙ rw h (omega arith) in
          let rest : without_tag x (counted (names ++ n ∷ [])) ≡ without_tag x (counted names) =
          ap (without_tag x) (counted-append names n) ∙ without-more x n (counted names) h in
          (λ i. (x, suc (count i)) ∷ rest i) ∙ rw back refl)
      | false ↦ (λ h.
          let back : same_word n x ≡ false = not_back x n h in
          let count : count_of_name x (names ++ n ∷ []) ≡ count_of_name x names = count-append x names n ∙ rw h (omega arith) in
          let rest : without_tag x (counted (names ++ n ∷ [])) ≡ with_one_more n (without_tag x (counted names)) =
          ap (without_tag x) (counted-append names n) ∙ more-without x n (counted names) h in
          (λ i. (x, suc (count i)) ∷ rest i) ∙ rw back refl)
    ] refl

-- ---- the names of lines
-- the names of one line: one, or none where it is used or has no words
abbrev pub names_of : List Words → Words → List (List ℕ)
names_of before [] = []
names_of before (w ∷ ws) = if is_read before (w ∷ ws) then [] else tag_name (w ∷ ws) ∷ []

names-append : (before ls : List Words) (l : Words) → unused_names before (ls ++ l ∷ []) ≡ unused_names before ls ++ names_of (before ++ ls) l
names-append before [] [] = refl
names-append before [] (w ∷ ws) = rw (append-none before) (elim (is_read before (w ∷ ws)) as (λ b. (if b then [] else tag_name (w ∷ ws) ∷ []) ≡ [] ++ (if b then [] else tag_name (w ∷ ws) ∷ [])) [ true ↦ refl | false ↦ refl ])
names-append before ([] ∷ ls) l =
    names-append (before ++ [] ∷ []) ls l ∙ ap (λ (b : List Words). unused_names (before ++ [] ∷ []) ls ++ names_of b l) (append_assoc before ([] ∷ []) ls)
names-append before ((w ∷ ws) ∷ ls) l =
    let more = before ++ (w ∷ ws) ∷ [] in
    let r : unused_names more (ls ++ l ∷ []) ≡ unused_names more ls ++ names_of (before ++ (w ∷ ws) ∷ ls) l =
    names-append more ls l ∙ ap (λ (b : List Words). unused_names more ls ++ names_of b l) (append_assoc before ((w ∷ ws) ∷ []) ls) in
    rw r (elim (is_read before (w ∷ ws)) as (λ b. (if b then unused_names more ls ++ names_of (before ++ (w ∷ ws) ∷ ls) l else tag_name (w ∷ ws) ∷ (unused_names more ls ++ names_of (before ++ (w ∷ ws) ∷ ls) l))
    ≡ (if b then unused_names more ls else tag_name (w ∷ ws) ∷ unused_names more ls) ++ names_of (before ++ (w ∷ ws) ∷ ls) l) [ true ↦ refl | false ↦ refl ])

pub unused-read : (before : List Words) (l : Words) → is_read before l ≡ true → counted (unused_names [] (before ++ l ∷ [])) ≡ counted (unused_names [] before)
unused-read before [] h = ap counted (names-append [] before [] ∙ append-none (unused_names [] before))
unused-read before (w ∷ ws) h =
    ap counted (names-append [] before (w ∷ ws) ∙ ap (λ b. unused_names [] before ++ (if b then [] else tag_name (w ∷ ws) ∷ [])) h ∙ append-none (unused_names [] before))

pub unused-more : (before : List Words) (l : Words) → is_read before l ≡ false
    → counted (unused_names [] (before ++ l ∷ [])) ≡ with_unused l (counted (unused_names [] before))
unused-more before [] h = ap counted (names-append [] before [] ∙ append-none (unused_names [] before))
unused-more before (w ∷ ws) h =
    ap counted (names-append [] before (w ∷ ws) ∙ ap (λ b. unused_names [] before ++ (if b then [] else tag_name (w ∷ ws) ∷ [])) h)
    ∙ counted-append (unused_names [] before) (tag_name (w ∷ ws))
