-- Bad words among the words of a line.
use Rattle.std.proofs.Common.{◌≡◌, ℕ, zero, suc, ◌+◌, ◌<◌, true, false, [], ◌∷◌, length, drop, refl, ap, ◌∙◌, arith}
use Rattle.std.specs.Prelude.{Some, None, ◌||◌, is_none}
use Rattle.fixdec.specs.Decimal.{Decimal}
use Rattle.fixdec.specs.Reading.{decimal_of}
use Rattle.lensmodel.specs.Files.JobFaults.{has_bad}
use Rattle.lensmodel.specs.Files.Records.{Words, word_at}

-- the word at k is bad, or one behind it
next_bad : (k : ℕ) (l : Words) → k < length l → has_bad (drop k l) ≡ (is_none (decimal_of (word_at k l)) || has_bad (drop (suc k) l))
next_bad k [] h = absurd (omega arith)
next_bad zero (w ∷ l) h = refl
next_bad (suc k) (w ∷ l) h = next_bad k l (omega arith)

pub good_word : (k : ℕ) (l : Words) (d : Decimal) → k < length l → decimal_of (word_at k l) ≡ Some d → has_bad (drop k l) ≡ has_bad (drop (k + 1) l)
good_word k l d h e =
    let s : suc k ≡ k + 1 = omega arith in
    next_bad k l h ∙ ap (λ o. is_none o || has_bad (drop (suc k) l)) e ∙ ap (λ (n : ℕ). has_bad (drop n l)) s

pub bad_word : (k : ℕ) (l : Words) → k < length l → decimal_of (word_at k l) ≡ None → has_bad (drop k l) ≡ true
bad_word k l h e = next_bad k l h ∙ ap (λ o. is_none o || has_bad (drop (suc k) l)) e

pub none_bad : (k : ℕ) (l : Words) → length l ≡ k → has_bad (drop k l) ≡ false
none_bad zero [] h = refl
none_bad zero (w ∷ l) h = absurd (omega arith)
none_bad (suc k) [] h = refl
none_bad (suc k) (w ∷ l) h = none_bad k l (omega arith)
