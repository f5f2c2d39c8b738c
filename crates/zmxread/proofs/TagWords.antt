-- A line begins with one tag alone.
use Rattle.std.specs.Prelude.{◌≡◌, ℕ, true, false, List, [], ◌∷◌, refl}
use Rattle.std.proofs.Common.{ap, ◌∙◌}
use Rattle.lensmodel.specs.Files.Records.{Words, same_word, has_tag}
use Rattle.records.specs.SameWords.{same-yes}

pub other_tag : (a b : List ℕ) (l : Words) → has_tag a l ≡ true → same_word a b ≡ false → has_tag b l ≡ false
other_tag a b [] h e = refl
other_tag a b (w ∷ ws) h e = ap (λ (x : List ℕ). same_word x b) (same-yes w a h) ∙ e
