-- What one more line changes in the blocks of lines.
use Rattle.std.specs.Prelude.{◌≡◌, ◌⊎◌, true, false, Bool, List, [], ◌∷◌, ◌++◌, if◌then◌else◌, refl}
use Rattle.std.proofs.Common.{ap, sym, ◌∙◌, inl, inr}
use Rattle.lensmodel.specs.Files.Records.{Words, block_before, each_block}

-- a list is empty or has a last item
abbrev pub LastOf : {A : Type 0} → List A → Type 0
LastOf {A} xs = (xs ≡ []) ⊎ ((front : List A) × (last : A) × (xs ≡ front ++ last ∷ []))

pub last_of_list : {A : Type 0} (xs : List A) → LastOf xs
last_of_list [] = inl refl
last_of_list (x ∷ xs) = elim (last_of_list xs) [
  | inl e ↦ inr ([], x, ap (λ ys. x ∷ ys) e)
  | inr e ↦ inr (x ∷ e.0, e.1, ap (λ ys. x ∷ ys) e.2)
]

-- the last item of a list is changed
abbrev pub on_last : {A : Type 0} → (A → A) → List A → List A
on_last change [] = []
on_last change (x ∷ []) = change x ∷ []
on_last change (x ∷ y ∷ more) = x ∷ on_last change (y ∷ more)

pub on_last-append : {A : Type 0} (change : A → A) (xs : List A) (x : A) → on_last change (xs ++ x ∷ []) ≡ xs ++ change x ∷ []
on_last-append change [] x = refl
on_last-append change (a ∷ []) x = refl
on_last-append change (a ∷ b ∷ xs) x = ap (λ ys. a ∷ ys) (on_last-append change (b ∷ xs) x)

pub on_last-same : {A : Type 0} (xs : List A) → on_last (λ x. x) xs ≡ xs
on_last-same [] = refl
on_last-same (x ∷ []) = refl
on_last-same (x ∷ y ∷ more) = ap (λ ys. x ∷ ys) (on_last-same (y ∷ more))

-- a line that begins a block
pub block-begins : (is : Words → Bool) (ls : List Words) (l : Words) → is l ≡ true → block_before is (ls ++ l ∷ []) ≡ block_before is ls
block-begins is [] l h = rw h refl
block-begins is (x ∷ ls) l h = rw (block-begins is ls l h) refl

pub each_block-begins : {A : Type 0} (is : Words → Bool) (make : Words → List Words → A) (ls : List Words) (l : Words) → is l ≡ true
    → each_block is make (ls ++ l ∷ []) ≡ each_block is make ls ++ make l [] ∷ []
each_block-begins is make [] l h = rw h refl
each_block-begins is make (x ∷ ls) l h =
    rw (block-begins is ls l h, each_block-begins is make ls l h)
    (elim (is x) as (λ b. (if b then make x (block_before is ls) ∷ (each_block is make ls ++ make l [] ∷ []) else (each_block is make ls ++ make l [] ∷ []))
    ≡ (if b then make x (block_before is ls) ∷ each_block is make ls else each_block is make ls) ++ make l [] ∷ []) [ true ↦ refl | false ↦ refl ])

-- another line belongs to the last block
abbrev pub BlockGrows : {A : Type 0} → (Words → Bool) → (Words → List Words → A) → List Words → Words → Type 0
BlockGrows {A} is make ls l =
    ((each_block is make ls ≡ []) × (block_before is (ls ++ l ∷ []) ≡ block_before is ls ++ l ∷ []))
    ⊎ ((a : A) × (more : List A) × (each_block is make ls ≡ a ∷ more) × (block_before is (ls ++ l ∷ []) ≡ block_before is ls))

pub block-grows : {A : Type 0} (is : Words → Bool) (make : Words → List Words → A) (ls : List Words) (l : Words) → is l ≡ false → BlockGrows is make ls l
block-grows is make [] l h = inl (refl, rw h refl)
block-grows {A} is make (x ∷ ls) l h =
    elim (is x) as (λ b.
    (((if b then make x (block_before is ls) ∷ each_block is make ls else each_block is make ls) ≡ [])
    × ((if b then [] else x ∷ block_before is (ls ++ l ∷ [])) ≡ (if b then [] else x ∷ block_before is ls) ++ l ∷ []))
    ⊎ ((a : A) × (more : List A) × ((if b then make x (block_before is ls) ∷ each_block is make ls else each_block is make ls) ≡ a ∷ more)
    × ((if b then [] else x ∷ block_before is (ls ++ l ∷ [])) ≡ (if b then [] else x ∷ block_before is ls)))) [
      | true ↦ inr (make x (block_before is ls), each_block is make ls, refl, refl)
      | false ↦ elim (block-grows is make ls l h) [
        | inl e ↦ inl (e.0, ap (λ b. x ∷ b) e.1)
        | inr e ↦ inr (e.0, e.1, e.2, ap (λ b. x ∷ b) e.3)
      ]
    ]

-- how such a line changes what is made of its block
pub record Changes {A : Type 0} (is : Words → Bool) (make : Words → List Words → A) (l : Words) (change : A → A) : Type 0 where
  pub inner : is l ≡ false
  pub made : (head : Words) (ls : List Words) → make head (ls ++ l ∷ []) ≡ change (make head ls)

pub each_block-grows : {A : Type 0} (is : Words → Bool) (make : Words → List Words → A) (ls : List Words) (l : Words) (change : A → A)
    → Changes is make l change → each_block is make (ls ++ l ∷ []) ≡ on_last change (each_block is make ls)
each_block-grows is make [] l change c = rw c.inner refl
each_block-grows is make (x ∷ ls) l change c =
    elim (is x) as (λ b. (if b then make x (block_before is (ls ++ l ∷ [])) ∷ each_block is make (ls ++ l ∷ []) else each_block is make (ls ++ l ∷ []))
    ≡ on_last change (if b then make x (block_before is ls) ∷ each_block is make ls else each_block is make ls)) [
      | true ↦ elim (block-grows is make ls l c.inner) [
        | inl e ↦ ap (λ rest. make x (block_before is (ls ++ l ∷ [])) ∷ rest) (each_block-grows is make ls l change c ∙ ap (on_last change) e.0)
            ∙ ap (λ made. made ∷ []) (ap (make x) e.1 ∙ c.made x (block_before is ls))
            ∙ ap (λ rest. on_last change (make x (block_before is ls) ∷ rest)) (sym e.0)
        | inr e ↦ ap (λ rest. make x (block_before is (ls ++ l ∷ [])) ∷ rest) (each_block-grows is make ls l change c ∙ ap (on_last change) e.2)
            ∙ ap (λ block. make x block ∷ on_last change (e.0 ∷ e.1)) e.3
            ∙ ap (λ rest. on_last change (make x (block_before is ls) ∷ rest)) (sym e.2)
      ]
      | false ↦ each_block-grows is make ls l change c
    ]

-- there are as many blocks as lines that begin one
