-- A book with one more glass.
use Rattle.std.specs.Prelude.{◌≡◌, ℕ, true, false, List, [], ◌∷◌, ◌++◌, map, nat_eq, Some, if◌then◌else◌, refl}
use Rattle.std.proofs.Common.{ap, sym, ◌∙◌, true≢false}
use lib.Pointwise.{pointwise}
use Rattle.lensmodel.specs.Files.Catalogue.{find_glass, without_name, book}
use Rattle.lensmodel.specs.Setup.Media.{same_name, upper}
use Rattle.lensmodel.specs.declared.glass.Glass.{Glass}
use Rattle.records.specs.SameWords.{same-yes, same-of}
use Rattle.agfread.specs.Walked.{is_none, with_glass}

pub same_name-back : (a b : List ℕ) → same_name a b ≡ true → same_name b a ≡ true
same_name-back a b h = same-of (map upper b) (map upper a) (sym (same-yes (map upper a) (map upper b) h))

pub not_back : (a b : List ℕ) → same_name a b ≡ false → same_name b a ≡ false
not_back a b h = elim (same_name b a) as (λ v. same_name b a ≡ v → v ≡ false) [
  | true ↦ (λ t. absurd (true≢false (sym (same_name-back b a t) ∙ h)))
  | false ↦ (λ t. refl)
] refl

pub without_name-append : (name : List ℕ) (gs : List Glass) (g : Glass)
    → without_name name (gs ++ g ∷ []) ≡ without_name name gs ++ (if same_name name g.name.items then [] else g ∷ [])
without_name-append name [] g = refl
without_name-append name (x ∷ gs) g =
    rw (without_name-append name gs g)
    (elim (same_name name x.name.items) as (λ b. (if b then without_name name gs ++ (if same_name name g.name.items then [] else g ∷ []) else x ∷ (without_name name gs ++ (if same_name name g.name.items then [] else g ∷ [])))
    ≡ (if b then without_name name gs else x ∷ without_name name gs) ++ (if same_name name g.name.items then [] else g ∷ []))
    [ true ↦ refl | false ↦ refl ])

pub append-none : {A : Type 0} (xs : List A) → xs ++ [] ≡ xs
append-none [] = refl
append-none (x ∷ xs) = ap (λ ys. x ∷ ys) (append-none xs)

-- a name equal to another isn't equal to a third that the other isn't equal to
pub other_name : (a b c : List ℕ) → same_name a b ≡ false → same_name b c ≡ true → same_name a c ≡ false
other_name a b c h e = sym (ap (λ (x : List ℕ). pointwise nat_eq (map upper a) x) (same-yes (map upper b) (map upper c) e)) ∙ h

-- glasses of another name are found among those without a name
pub find_glass-without : (a b : List ℕ) (gs : List Glass) → same_name a b ≡ false → find_glass a (without_name b gs) ≡ find_glass a gs
find_glass-without a b [] h = refl
find_glass-without a b (x ∷ gs) h =
    elim (same_name b x.name.items) as (λ v. same_name b x.name.items ≡ v → find_glass a (if v then without_name b gs else x ∷ without_name b gs) ≡ find_glass a (x ∷ gs)) [
      | true ↦ (λ e.
          let back : same_name a x.name.items ≡ false = other_name a b x.name.items h e in
          rw back (find_glass-without a b gs h))
      | false ↦ (λ e. ap (λ o. if same_name a x.name.items then Some x else o) (find_glass-without a b gs h))
    ] refl

pub with_glass-first : (g x : Glass) (gs : List Glass) → with_glass g (x ∷ without_name x.name.items gs) ≡ x ∷ without_name x.name.items (with_glass g gs)
with_glass-first g x gs =
    elim (same_name g.name.items x.name.items) as (λ v. same_name g.name.items x.name.items ≡ v
    → (if is_none (if v then Some x else find_glass g.name.items (without_name x.name.items gs)) then x ∷ without_name x.name.items gs ++ g ∷ [] else x ∷ without_name x.name.items gs)
    ≡ x ∷ without_name x.name.items (with_glass g gs)) [
      | true ↦ (λ e. elim (is_none (find_glass g.name.items gs)) as (λ v. x ∷ without_name x.name.items gs ≡ x ∷ without_name x.name.items (if v then gs ++ g ∷ [] else gs)) [
        | true ↦ rw (without_name-append x.name.items gs g, same_name-back g.name.items x.name.items e, append-none (without_name x.name.items gs)) refl
        | false ↦ refl
      ])
      | false ↦ (λ e. rw (find_glass-without g.name.items x.name.items gs e)
          (elim (is_none (find_glass g.name.items gs)) as (λ v. (if v then x ∷ without_name x.name.items gs ++ g ∷ [] else x ∷ without_name x.name.items gs) ≡ x ∷ without_name x.name.items (if v then gs ++ g ∷ [] else gs)) [
            | true ↦ rw (without_name-append x.name.items gs g, not_back g.name.items x.name.items e) refl
            | false ↦ refl
          ]))
    ] refl

pub book-append : (gs : List Glass) (g : Glass) → book (gs ++ g ∷ []) ≡ with_glass g (book gs)
book-append [] g = refl
book-append (x ∷ gs) g = ap (λ b. x ∷ without_name x.name.items b) (book-append gs g) ∙ sym (with_glass-first g x (book gs))
