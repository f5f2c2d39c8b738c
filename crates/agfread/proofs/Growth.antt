-- What one more line changes in the glasses of a catalogue.
use Rattle.std.specs.Prelude.{◌≡◌, ◌⊎◌, Bool, true, false, List, [], ◌∷◌, ◌++◌, Option, Some, if◌then◌else◌, refl}
use Rattle.std.proofs.Common.{ap, sym, ◌∙◌, inl, inr}
use Rattle.lensmodel.specs.Files.Catalogue.{is_NM, is_CD, is_LD, block, glass_of, all_glasses, formula_number, is_used, coefficient_in, bound_in}
use Rattle.lensmodel.specs.Files.Records.{Words, last_where, word_at}
use Rattle.lensmodel.specs.declared.glass.Glass.{Glass}
use Rattle.records.specs.LineLaws.{last_where-append}
use Rattle.agfread.specs.Records.{with_coefficients, with_CD, with_bounds}

-- an NM line begins a block without lines
pub block-begins : (ls : List Words) (l : Words) → is_NM l ≡ true → block (ls ++ l ∷ []) ≡ block ls
block-begins [] l h = rw h refl
block-begins (x ∷ ls) l h = rw (block-begins ls l h) refl

pub all_glasses-begins : (ls : List Words) (l : Words) → is_NM l ≡ true → all_glasses (ls ++ l ∷ []) ≡ all_glasses ls ++ glass_of l [] ∷ []
all_glasses-begins [] l h = rw h refl
all_glasses-begins (x ∷ ls) l h =
    rw (block-begins ls l h, all_glasses-begins ls l h)
    (elim (is_NM x) as (λ b. (if b then glass_of x (block ls) ∷ (all_glasses ls ++ glass_of l [] ∷ []) else (all_glasses ls ++ glass_of l [] ∷ []))
    ≡ (if b then glass_of x (block ls) ∷ all_glasses ls else all_glasses ls) ++ glass_of l [] ∷ []) [ true ↦ refl | false ↦ refl ])

-- the last glass of a list is changed
abbrev pub on_last : (Glass → Glass) → List Glass → List Glass
on_last change [] = []
on_last change (g ∷ []) = change g ∷ []
on_last change (g ∷ h ∷ more) = g ∷ on_last change (h ∷ more)

pub on_last-append : (change : Glass → Glass) (gs : List Glass) (g : Glass) → on_last change (gs ++ g ∷ []) ≡ gs ++ change g ∷ []
on_last-append change [] g = refl
on_last-append change (a ∷ []) g = refl
on_last-append change (a ∷ b ∷ gs) g = ap (λ xs. a ∷ xs) (on_last-append change (b ∷ gs) g)

-- a line of a block belongs to the last glass
abbrev pub BlockGrows : List Words → Words → Type 0
BlockGrows ls l =
    ((all_glasses ls ≡ []) × (block (ls ++ l ∷ []) ≡ block ls ++ l ∷ []))
    ⊎ ((g : Glass) × (gs : List Glass) × (all_glasses ls ≡ g ∷ gs) × (block (ls ++ l ∷ []) ≡ block ls))

pub block-grows : (ls : List Words) (l : Words) → is_NM l ≡ false → BlockGrows ls l
block-grows [] l h = inl (refl, rw h refl)
block-grows (x ∷ ls) l h =
    elim (is_NM x) as (λ b.
    (((if b then glass_of x (block ls) ∷ all_glasses ls else all_glasses ls) ≡ []) × ((if b then [] else x ∷ block (ls ++ l ∷ [])) ≡ (if b then [] else x ∷ block ls) ++ l ∷ []))
    ⊎ ((g : Glass) × (gs : List Glass) × ((if b then glass_of x (block ls) ∷ all_glasses ls else all_glasses ls) ≡ g ∷ gs) × ((if b then [] else x ∷ block (ls ++ l ∷ [])) ≡ (if b then [] else x ∷ block ls)))) [
      | true ↦ inr (glass_of x (block ls), all_glasses ls, refl, refl)
      | false ↦ elim (block-grows ls l h) [
        | inl e ↦ inl (e.0, ap (λ b. x ∷ b) e.1)
        | inr e ↦ inr (e.0, e.1, e.2, ap (λ b. x ∷ b) e.3)
      ]
    ]

-- the glass of an NM line whose block has these last CD and LD lines
abbrev pub with_used : Bool → Words → Option Words → Option Words → Glass
with_used used nm cd ld = record {
  name = record { items = word_at 1 nm };
  formula = formula_number nm;
  c0 = coefficient_in used cd 1;
  c1 = coefficient_in used cd 2;
  c2 = coefficient_in used cd 3;
  c3 = coefficient_in used cd 4;
  c4 = coefficient_in used cd 5;
  c5 = coefficient_in used cd 6;
  low = bound_in ld 1;
  high = bound_in ld 2;
}

-- how a line of a block changes its glass
pub record Changes (l : Words) (change : Glass → Glass) : Type 0 where
  pub inner : is_NM l ≡ false
  pub glass : (nm : Words) (ls : List Words) → glass_of nm (ls ++ l ∷ []) ≡ change (glass_of nm ls)

pub all_glasses-grows : (ls : List Words) (l : Words) (change : Glass → Glass) → Changes l change
    → all_glasses (ls ++ l ∷ []) ≡ on_last change (all_glasses ls)
all_glasses-grows [] l change c = rw c.inner refl
all_glasses-grows (x ∷ ls) l change c =
    elim (is_NM x) as (λ b. (if b then glass_of x (block (ls ++ l ∷ [])) ∷ all_glasses (ls ++ l ∷ []) else all_glasses (ls ++ l ∷ []))
    ≡ on_last change (if b then glass_of x (block ls) ∷ all_glasses ls else all_glasses ls)) [
      | true ↦ elim (block-grows ls l c.inner) [
        | inl e ↦ ap (λ gs. glass_of x (block (ls ++ l ∷ [])) ∷ gs) (all_glasses-grows ls l change c ∙ ap (on_last change) e.0)
            ∙ ap (λ g. g ∷ []) (ap (glass_of x) e.1 ∙ c.glass x (block ls))
            ∙ ap (λ gs. on_last change (glass_of x (block ls) ∷ gs)) (sym e.0)
        | inr e ↦ ap (λ gs. glass_of x (block (ls ++ l ∷ [])) ∷ gs) (all_glasses-grows ls l change c ∙ ap (on_last change) e.2)
            ∙ ap (λ bs. glass_of x bs ∷ on_last change (e.0 ∷ e.1)) e.3
            ∙ ap (λ gs. on_last change (glass_of x (block ls) ∷ gs)) (sym e.2)
      ]
      | false ↦ all_glasses-grows ls l change c
    ]

-- a CD line changes the coefficients of its glass, where they are used
pub CD-changes : (l : Words) → is_NM l ≡ false → is_CD l ≡ true → is_LD l ≡ false
    → Changes l (with_CD l)
CD-changes l n c d = record {
  inner = n;
  glass = λ nm ls.
      rw (last_where-append is_CD ls l, last_where-append is_LD ls l, c, d)
      (elim (is_used (formula_number nm)) as (λ b. with_used b nm (Some l) (last_where is_LD ls)
      ≡ (if b then with_coefficients l (with_used b nm (last_where is_CD ls) (last_where is_LD ls)) else with_used b nm (last_where is_CD ls) (last_where is_LD ls)))
      [ true ↦ refl | false ↦ refl ]);
}

-- an LD line changes the bounds of its glass
pub LD-changes : (l : Words) → is_NM l ≡ false → is_CD l ≡ false → is_LD l ≡ true → Changes l (with_bounds l)
LD-changes l n c d = record {
  inner = n;
  glass = λ nm ls. rw (last_where-append is_CD ls l, last_where-append is_LD ls l, c, d) refl;
}

-- any other line changes nothing
pub others-change : (l : Words) → is_NM l ≡ false → is_CD l ≡ false → is_LD l ≡ false → Changes l (λ g. g)
others-change l n c d = record {
  inner = n;
  glass = λ nm ls. rw (last_where-append is_CD ls l, last_where-append is_LD ls l, c, d) refl;
}
