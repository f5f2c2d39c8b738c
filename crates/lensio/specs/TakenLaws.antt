-- What several calls of a sink make of one another.
use Rattle.std.specs.Prelude.{◌≡◌, ℕ, ◌+◌, List, [], ◌++◌, length, take, drop, Option, None, Some}
use Rattle.std.proofs.Common.{◌∙◌, sym, ap, subst, append_assoc, append-nil, arith}
use Rattle.std.proofs.lemmas.List.{take-append-drop, drop-take, take-take}
use Rattle.std.proofs.Math.Seq.{take-append-add, take-append_seam}
use Rattle.lensio.specs.Taken.{Takes, TakesFront}

-- nothing came to it
pub Takes-nil : {A : Type 0} (taken : Option (List A)) → Takes taken taken []
Takes-nil None = tt
Takes-nil (Some xs) = sym (append-nil xs)

pub Takes-trans : {A : Type 0} (a b c : Option (List A)) (xs ys : List A) → Takes a b xs → Takes b c ys → Takes a c (xs ++ ys)
Takes-trans a b None xs ys p q = tt
Takes-trans a None (Some z) xs ys p q = absurd q
Takes-trans None (Some y) (Some z) xs ys p q = absurd p
Takes-trans (Some x) (Some y) (Some z) xs ys p q = q ∙ ap (λ l. l ++ ys) p ∙ append_assoc x xs ys

-- a front, and then a front of the rest
pub take-plus : {A : Type 0} (n k : ℕ) (xs : List A) → take n xs ++ take k (drop n xs) ≡ take (n + k) xs
take-plus n k xs =
    sym (ap (λ l. l ++ take k (drop n xs)) (take-take n (n + k) xs (omega arith)))
    ∙ sym (ap (λ l. take n (take (n + k) xs) ++ l) (drop-take n k xs))
    ∙ take-append-drop n (take (n + k) xs)

-- all bytes are a front
pub TakesFront-whole : {A : Type 0} (a b : Option (List A)) (xs : List A) → Takes a b xs → TakesFront a b xs
TakesFront-whole a b xs p = (length xs, subst (Takes a b) (sym (ap (take (length xs)) (sym (append-nil xs)) ∙ take-append_seam xs [])) p)

-- bytes, and then a front of others
pub TakesFront-after : {A : Type 0} (a b c : Option (List A)) (xs ys : List A) → Takes a b xs → TakesFront b c ys → TakesFront a c (xs ++ ys)
TakesFront-after a b c xs ys p q = (length xs + q.0, subst (Takes a c) (sym (take-append-add xs ys q.0)) (Takes-trans a b c xs (take q.0 ys) p q.1))

-- a front, and then a front of the rest
pub TakesFront-rest : {A : Type 0} (a b c : Option (List A)) (n : ℕ) (xs : List A) → Takes a b (take n xs) → TakesFront b c (drop n xs) → TakesFront a c xs
TakesFront-rest a b c n xs p q = (n + q.0, subst (Takes a c) (take-plus n q.0 xs) (Takes-trans a b c (take n xs) (take q.0 (drop n xs)) p q.1))
