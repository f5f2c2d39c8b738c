-- Texts that are lists of lines, gathered and written.
use Rattle.std.proofs.Common.{◌≡◌, ℕ, ◌+◌, inl, inr, List, [], ◌∷◌, ◌++◌, length, take, drop, Option, Some, min, refl, sym, ap, subst, ◌∙◌, append_assoc, append-nil, add-one, arith}
use Rattle.std.specs.Prelude.{slice_get}
use Rattle.std.specs.List.{concat}
use Rattle.std.proofs.lemmas.Bool.{cases_lt}
use Rattle.std.proofs.lemmas.List.{take-append-drop, take-append-le, take_all}
use Rattle.std.proofs.lemmas.Option.{slice_get_within, get_or_from_slice_get}
use Rattle.std.proofs.Math.Seq.{take-suc}
use Rattle.lensio.specs.Taken.{Takes, TakesFront}
use Rattle.lensio.specs.TakenLaws.{Takes-nil, Takes-trans, TakesFront-after}
use Rattle.lensrun.specs.Gathered.{Gathers}

front_within : (n : ℕ) (xs ys : List ℕ) → take (min n (length xs)) (xs ++ ys) ≡ take n xs
front_within n xs ys =
    take-append-le (min n (length xs)) xs ys (omega arith)
    ∙ (elim (cases_lt n (length xs)) [
      | inl h ↦ let e : min n (length xs) ≡ n = omega arith in ap (λ k. take k xs) e
      | inr h ↦
          let e : min n (length xs) ≡ length xs = omega arith in
          ap (λ k. take k xs) e ∙ take_all (length xs) xs (omega arith) ∙ sym (take_all n xs (omega arith))
    ])

-- a front of bytes is a front of them with more behind
pub front-more : (a b : Option (List ℕ)) (xs ys : List ℕ) → TakesFront a b xs → TakesFront a b (xs ++ ys)
front-more a b xs ys p = (min p.0 (length xs), subst (Takes a b) (sym (front_within p.0 xs ys)) p.1)

concat-append : (xs ys : List (List ℕ)) → concat (xs ++ ys) ≡ concat xs ++ concat ys
concat-append [] ys = refl
concat-append (x ∷ xs) ys = ap (λ l. x ++ l) (concat-append xs ys) ∙ sym (append_assoc x (concat xs) (concat ys))

-- the first lines and one more
one_more : (lines : List (List ℕ)) (i : ℕ) (line : List ℕ) → slice_get lines i ≡ Some line → concat (take (i + 1) lines) ≡ concat (take i lines) ++ line
one_more lines i line e =
    rw add-one (ap concat (take-suc lines i line (slice_get_within lines i line e) ∙ ap (λ x. take i lines ++ x ∷ []) (get_or_from_slice_get lines i line line e))
    ∙ concat-append (take i lines) (line ∷ [])
    ∙ ap (λ l. concat (take i lines) ++ l) (append-nil line))

-- the first lines and the others
all_lines : (lines : List (List ℕ)) (i : ℕ) → concat (take i lines) ++ concat (drop i lines) ≡ concat lines
all_lines lines i = sym (concat-append (take i lines) (drop i lines)) ∙ ap concat (take-append-drop i lines)

-- ---- bytes that follow what is gathered
pub gathers-trans : (a b c : Option (List ℕ)) (p q t u : List ℕ) → Gathers a b p t → Gathers b c q (p ++ u) → Gathers a c q (t ++ u)
gathers-trans a b c p q t u g h = record {
  written = g.written ++ h.written;
  takes = Takes-trans a b c g.written h.written g.takes h.takes;
  whole = append_assoc g.written h.written q ∙ ap (λ l. g.written ++ l) h.whole ∙ sym (append_assoc g.written p u) ∙ ap (λ l. l ++ u) g.whole;
}

-- a front of what is gathered and of bytes that follow it
pub gathers-front : (a b c : Option (List ℕ)) (p t u : List ℕ) → Gathers a b p t → TakesFront b c (p ++ u) → TakesFront a c (t ++ u)
gathers-front a b c p t u g h =
    subst (TakesFront a c) (sym (append_assoc g.written p u) ∙ ap (λ l. l ++ u) g.whole)
    (TakesFront-after a b c g.written (p ++ u) g.takes h)

-- what is gathered is written, or a front of it
pub gathers-put : (a b c : Option (List ℕ)) (p t : List ℕ) → Gathers a b p t → Takes b c p → Takes a c t
gathers-put a b c p t g h = subst (Takes a c) g.whole (Takes-trans a b c g.written p g.takes h)

pub gathers-put-front : (a b c : Option (List ℕ)) (p t : List ℕ) → Gathers a b p t → TakesFront b c p → TakesFront a c t
gathers-put-front a b c p t g h = subst (TakesFront a c) g.whole (TakesFront-after a b c g.written p g.takes h)

-- ---- a line

-- ---- lines, one after another, behind what was gathered before them
pub lines-none : (a : Option (List ℕ)) (p : List ℕ) → Gathers a a p (p ++ concat [])
lines-none a p = record { written = []; takes = Takes-nil a; whole = sym (append-nil p) }

pub lines-next : (a b c : Option (List ℕ)) (p q t : List ℕ) (lines : List (List ℕ)) (i : ℕ) (line : List ℕ) → slice_get lines i ≡ Some line
    → Gathers a b p (t ++ concat (take i lines)) → Gathers b c q (p ++ line) → Gathers a c q (t ++ concat (take (i + 1) lines))
lines-next a b c p q t lines i line at g h =
    subst (Gathers a c q) (append_assoc t (concat (take i lines)) line ∙ ap (λ l. t ++ l) (sym (one_more lines i line at)))
    (gathers-trans a b c p q (t ++ concat (take i lines)) line g h)

pub lines-front : (a b c : Option (List ℕ)) (p t : List ℕ) (lines : List (List ℕ)) (i : ℕ) (line : List ℕ) → slice_get lines i ≡ Some line
    → Gathers a b p (t ++ concat (take i lines)) → TakesFront b c (p ++ line) → TakesFront a c (t ++ concat lines)
lines-front a b c p t lines i line at g h =
    let upto = append_assoc t (concat (take i lines)) line ∙ ap (λ l. t ++ l) (sym (one_more lines i line at)) in
    subst (TakesFront a c)
    (append_assoc t (concat (take (i + 1) lines)) (concat (drop (i + 1) lines)) ∙ ap (λ l. t ++ l) (all_lines lines (i + 1)))
    (front-more a c (t ++ concat (take (i + 1) lines)) (concat (drop (i + 1) lines))
    (subst (TakesFront a c) upto (gathers-front a b c p (t ++ concat (take i lines)) line g h)))

pub lines-end : (a b : Option (List ℕ)) (p t : List ℕ) (lines : List (List ℕ)) (i : ℕ) → length lines ≡ i
    → Gathers a b p (t ++ concat (take i lines)) → Gathers a b p (t ++ concat lines)
lines-end a b p t lines i e g = subst (Gathers a b p) (ap (λ l. t ++ concat l) (take_all i lines (omega (arith, e)))) g

-- ---- texts that are written at once
pub gathers-taken : (a b : Option (List ℕ)) (t : List ℕ) → Takes a b t → Gathers a b [] t
gathers-taken a b t h = record { written = t; takes = h; whole = append-nil t }

pub taken-gathers : (a b : Option (List ℕ)) (t : List ℕ) → Gathers a b [] t → Takes a b t
taken-gathers a b t g = subst (Takes a b) (sym (append-nil g.written) ∙ g.whole) g.takes

-- a front of nothing
pub front-none : (a : Option (List ℕ)) (t : List ℕ) → TakesFront a a t
front-none a t = (0, Takes-nil a)
