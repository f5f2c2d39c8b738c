-- One step of the loop over surfaces, its end, and the terms and sums of a surface in short.
use Rattle.std.proofs.Common.{◌≡◌, ℕ, suc, ◌+◌, ◌<◌, ◌≤◌, List, [], ◌∷◌, ◌++◌, length, get_or, map, drop, append_assoc, append-nil, sym, ap, ◌∙◌}
use Rattle.std.proofs.Math.Seq.{drop-cons}
use Rattle.std.proofs.lemmas.List.{drop_all}
use Rattle.std.specs.Prelude.{ℤ}
use Rattle.fixdec.specs.Operations.{Operations}
use Rattle.lensmodel.specs.Paraxial.FirstOrderRows.{Passing}
use Rattle.lensmodel.specs.Paraxial.SeidelRows.{Sums, Contribution, contribution, contributions}
use Rattle.lensmodel.specs.Setup.Values.{surface_at}
use Rattle.lensmodel.specs.declared.setup.Setup.{Setup}
use Rattle.lensmodel.specs.declared.surface.Surface.{Surface}
use Rattle.seidel.specs.Surfaces.{Summed, Terms, in_short, short, terms_of, sums_of}
use Rattle.seidel.specs.WholesAre.{some_by_range-append}

drop-at : {A : Type 0} (xs : List A) (j k : ℕ) (x : A) → j < length xs → k ≡ suc j → x ≡ get_or xs j x → drop j xs ≡ x ∷ drop k xs
drop-at xs j k x l hk h = rw hk (drop-cons xs j x l ∙ ap (λ y. y ∷ drop (suc j) xs) (sym h))

pub contributed-here : {A : Type 0} (o : Operations A) (scale : ℕ) (s : Setup) (e : ℤ) (ms bs : List (Passing A)) (j k : ℕ) (m b : Passing A) (all : List (Summed A))
    → j < length ms → j < length bs → k ≡ suc j → m ≡ get_or ms j m → b ≡ get_or bs j b
    → (all ++ in_short (contribution o scale s e j m b) ∷ []) ++ map in_short (contributions o scale s e k (drop k ms) (drop k bs))
    ≡ all ++ map in_short (contributions o scale s e j (drop j ms) (drop j bs))
contributed-here o scale s e ms bs j k m b all l l' hk h g =
    let first = drop-at ms j k m l hk h in
    let second = drop-at bs j k b l' hk g in
    let next : contributions o scale s e j (drop j ms) (drop j bs) ≡ contribution o scale s e j m b ∷ contributions o scale s e k (drop k ms) (drop k bs) =
    (λ i. contributions o scale s e j (first i) (second i))
    ∙ (λ i. contribution o scale s e j m b ∷ contributions o scale s e (sym hk i) (drop k ms) (drop k bs)) in
    append_assoc all (in_short (contribution o scale s e j m b) ∷ []) (map in_short (contributions o scale s e k (drop k ms) (drop k bs)))
    ∙ sym (ap (λ (t : List (Contribution _)). all ++ map in_short t) next)

pub contributed-all : {A : Type 0} (o : Operations A) (scale : ℕ) (s : Setup) (e : ℤ) (ms bs : List (Passing A)) (j : ℕ) (all whole : List (Summed A)) → length ms ≤ j
    → all ++ map in_short (contributions o scale s e j (drop j ms) (drop j bs)) ≡ whole → all ≡ whole
contributed-all o scale s e ms bs j all whole h k =
    let none : drop j ms ≡ [] = drop_all j ms h in
    let end : all ++ map in_short (contributions o scale s e j (drop j ms) (drop j bs)) ≡ all = rw none (append-nil all) in
    sym end ∙ k

-- a surface's terms and sums in short are those of the definition
pub contribution-is : {A : Type 0} (o : Operations A) (scale : ℕ) (s : Setup) (e : ℤ) (j k : ℕ) (m b : Passing A) (f : Surface) (t : Terms A) (v : Sums A)
    → k ≡ suc j → f ≡ surface_at s k → t ≡ terms_of o scale f k m b → v ≡ sums_of o scale e k m b t
    → short t v ≡ in_short (contribution o scale s e j m b)
contribution-is o scale s e j k m b f t v hk hf ht hv =
    let terms = terms_of o scale (surface_at s (suc j)) (suc j) m b in
    let sums = sums_of o scale e (suc j) m b terms in
    let range = some_by_range-append (terms.a ∷ terms.ab ∷ terms.h ∷ terms.p ∷ terms.dun ∷ terms.dn2 ∷ terms.k8 ∷ terms.yy ∷ terms.bb ∷ [])
    (sums.s1 ∷ sums.s2 ∷ sums.s3 ∷ sums.s4 ∷ sums.s5 ∷ []) in
    let ht' : t ≡ terms = ht ∙ (λ i. terms_of o scale (hf i) k m b) ∙ (λ i. terms_of o scale (surface_at s (hk i)) (hk i) m b) in
    let hv' : v ≡ sums = hv ∙ (λ i. sums_of o scale e (hk i) m b (ht' i)) in
    (λ i. short (ht' i) (hv' i)) ∙ (λ i. record { sums = sums; by_range = sym range i })
