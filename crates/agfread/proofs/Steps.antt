-- One more line: what it says of the catalogue, by what the reader did with it.
use Rattle.std.proofs.Common.{◌≡◌, ℕ, ◌+◌, true, false, List, [], ◌∷◌, ◌++◌, refl, sym, ap, subst, ◌∙◌, arith}
use Rattle.std.specs.Prelude.{Option, Some, None, nat_eq, codes, if◌then◌else◌}
use lib.Pointwise.{pointwise}
use Rattle.lensmodel.specs.Files.Catalogue.{is_NM, is_CD, is_LD, glass_of, is_used, offence, NM_offence, CD_offence, LD_offence, NM_fault, LD_fault}
use Rattle.lensmodel.specs.Files.Records.{Words, last_where, count_where}
use Rattle.lensmodel.specs.declared.glass.Glass.{Glass}
use Rattle.agfread.specs.Records.{with_coefficients, with_bounds, used_CD_fault, with_CD}
use Rattle.records.specs.LineLaws.{last_where-append, count_where-append}
use Rattle.records.specs.SameWords.{same-yes}
use Rattle.agfread.proofs.Growth.{all_glasses-begins, all_glasses-grows, on_last, on_last-append, Changes, CD-changes, LD-changes, others-change}
use Rattle.agfread.proofs.Books.{book-append}
use Rattle.agfread.specs.Walked.{Walked, OpenAt, closed_with, with_glass}
use Rattle.agfread.specs.Readers.{IsAt}
use Rattle.agfread.specs.declared.walk.Reader.{Reader}

CD-not-LD : (l : Words) → is_CD l ≡ true → is_LD l ≡ false
CD-not-LD [] h = refl
CD-not-LD (w ∷ more) h = ap (λ (x : List ℕ). pointwise nat_eq x (codes "LD")) (same-yes w (codes "CD") h)

-- ---- offences
NM-offence : (n : ℕ) (before : List Words) (l : Words) (seen : ℕ) → is_NM l ≡ true → seen ≡ count_where is_NM before → offence n before l ≡ NM_fault n seen l
NM-offence n before l seen h e = ap (λ b. if b then NM_offence n before l else if is_CD l then CD_offence n (last_where is_NM before) l else if is_LD l then LD_offence n (last_where is_NM before) l else None) h
    ∙ sym (ap (λ k. NM_fault n k l) e)

CD-offence : (n : ℕ) (before : List Words) (l : Words) (g : Glass) (held : List Glass) → is_NM l ≡ false → is_CD l ≡ true → OpenAt before g held
    → offence n before l ≡ used_CD_fault n g l
CD-offence n before l g held h c w = rw (h, c, w.last, w.formula) refl

LD-offence : (n : ℕ) (before : List Words) (l : Words) (g : Glass) (held : List Glass) → is_NM l ≡ false → is_CD l ≡ false → is_LD l ≡ true → OpenAt before g held
    → offence n before l ≡ LD_fault n l
LD-offence n before l g held h c d w = rw (h, c, d, w.last) refl

-- ---- glasses
abbrev pub changed : (Glass → Glass) → Option Glass → Option Glass
changed change None = None
changed change (Some g) = Some (change g)

NM-walked : (before : List Words) (l : Words) (o : Option Glass) (held next : List Glass) → is_NM l ≡ true → Walked before o held
    → next ≡ closed_with o held → OpenAt (before ++ l ∷ []) (glass_of l []) next
NM-walked before l None held next h w e = record {
  closed = [];
  all = all_glasses-begins before l h ∙ ap (λ gs. gs ++ glass_of l [] ∷ []) w.all;
  held_is = e ∙ w.held_is;
  nm = l;
  last = last_where-append is_NM before l ∙ rw h refl;
  formula = refl;
}
NM-walked before l (Some g) held next h w e = record {
  closed = w.closed ++ g ∷ [];
  all = all_glasses-begins before l h ∙ ap (λ gs. gs ++ glass_of l [] ∷ []) w.all;
  held_is = e ∙ ap (with_glass g) w.held_is ∙ sym (book-append w.closed g);
  nm = l;
  last = last_where-append is_NM before l ∙ rw h refl;
  formula = refl;
}

grown : (before : List Words) (l : Words) (change : Glass → Glass) (o : Option Glass) (held : List Glass) → Changes l change
    → ((g : Glass) → (change g).formula ≡ g.formula) → Walked before o held → Walked (before ++ l ∷ []) (changed change o) held
grown before l change None held ch keeps w = record {
  all = all_glasses-grows before l change ch ∙ ap (on_last change) w.all;
  held_is = w.held_is;
  last = last_where-append is_NM before l ∙ rw ch.inner w.last;
}
grown before l change (Some g) held ch keeps w = record {
  closed = w.closed;
  all = all_glasses-grows before l change ch ∙ ap (on_last change) w.all ∙ on_last-append change w.closed g;
  held_is = w.held_is;
  nm = w.nm;
  last = last_where-append is_NM before l ∙ rw ch.inner w.last;
  formula = keeps g ∙ w.formula;
}

along : (before : List Words) (o p : Option Glass) (held next : List Glass) → p ≡ o → next ≡ held → Walked before o held → Walked before p next
along before o p held next e f w = subst (λ (x : Option Glass). Walked before x next) (sym e) (subst (λ (x : List Glass). Walked before o x) (sym f) w)

-- ---- the reader
pub NM-step : (n : ℕ) (before : List Words) (l : Words) (r next : Reader) → is_NM l ≡ true → IsAt before r → NM_fault n r.seen l ≡ None
    → next.current ≡ Some (glass_of l []) → next.book ≡ closed_with r.current r.book → next.seen ≡ r.seen + 1
    → (offence n before l ≡ None) × IsAt (before ++ l ∷ []) next
NM-step n before l r next h at f o b s = (
  NM-offence n before l r.seen h at.seen ∙ f,
  record {
    seen = s ∙ rw (count_where-append is_NM before l, h) (omega (arith, at.seen));
    walked = along (before ++ l ∷ []) (Some (glass_of l [])) next.current next.book next.book o refl (NM-walked before l r.current r.book next.book h at.walked b);
  },
)

not-NM-count : (before : List Words) (l : Words) (r next : Reader) → is_NM l ≡ false → IsAt before r → next.seen ≡ r.seen
    → next.seen ≡ count_where is_NM (before ++ l ∷ [])
not-NM-count before l r next h at s = s ∙ at.seen ∙ sym (count_where-append is_NM before l ∙ rw h refl)

unchanged : (o : Option Glass) → o ≡ changed (λ g. g) o
unchanged None = refl
unchanged (Some g) = refl

keeps-formula : (l : Words) (g : Glass) → (with_CD l g).formula ≡ g.formula
keeps-formula l g = elim (is_used g.formula) as (λ b. (if b then with_coefficients l g else g).formula ≡ g.formula) [ true ↦ refl | false ↦ refl ]

open-walked : (before : List Words) (r : Reader) (g : Glass) → r.current ≡ Some g → IsAt before r → OpenAt before g r.book
open-walked before r g e at = subst (λ (o : Option Glass). Walked before o r.book) e at.walked

-- a line that changes the open glass
changed-step : (before : List Words) (l : Words) (r : Reader) (g next : Glass) (change : Glass → Glass) → Changes l change
    → ((g : Glass) → (change g).formula ≡ g.formula) → r.current ≡ Some g → IsAt before r → next ≡ change g
    → IsAt (before ++ l ∷ []) (record { book = r.book; current = Some next; seen = r.seen })
changed-step before l r g next change ch keeps is at e = record {
  seen = not-NM-count before l r r ch.inner at refl;
  walked = subst (λ (x : Glass). OpenAt (before ++ l ∷ []) x r.book) (sym e) (grown before l change (Some g) r.book ch keeps (open-walked before r g is at));
}

pub CD-step : (n : ℕ) (before : List Words) (l : Words) (r : Reader) (g next : Glass) → is_NM l ≡ false → is_CD l ≡ true → r.current ≡ Some g → IsAt before r
    → used_CD_fault n g l ≡ None → next ≡ with_CD l g
    → (offence n before l ≡ None) × IsAt (before ++ l ∷ []) (record { book = r.book; current = Some next; seen = r.seen })
CD-step n before l r g next h c is at f e = (
  CD-offence n before l g r.book h c (open-walked before r g is at) ∙ f,
  changed-step before l r g next (with_CD l) (CD-changes l h c (CD-not-LD l c)) (keeps-formula l) is at e,
)

pub LD-step : (n : ℕ) (before : List Words) (l : Words) (r : Reader) (g next : Glass) → is_NM l ≡ false → is_CD l ≡ false → is_LD l ≡ true → r.current ≡ Some g → IsAt before r
    → LD_fault n l ≡ None → next ≡ with_bounds l g
    → (offence n before l ≡ None) × IsAt (before ++ l ∷ []) (record { book = r.book; current = Some next; seen = r.seen })
LD-step n before l r g next h c d is at f e = (
  LD-offence n before l g r.book h c d (open-walked before r g is at) ∙ f,
  changed-step before l r g next (with_bounds l) (LD-changes l h c d) (λ x. refl) is at e,
)

pub other-step : (n : ℕ) (before : List Words) (l : Words) (r : Reader) → is_NM l ≡ false → is_CD l ≡ false → is_LD l ≡ false → IsAt before r
    → (offence n before l ≡ None) × IsAt (before ++ l ∷ []) r
other-step n before l r h c d at = (
  rw (h, c, d) refl,
  record {
    seen = not-NM-count before l r r h at refl;
    walked = along (before ++ l ∷ []) (changed (λ g. g) r.current) r.current r.book r.book (unchanged r.current) refl
        (grown before l (λ g. g) r.current r.book (others-change l h c d) (λ g. refl) at.walked);
  },
)
