-- What a mantissa in the making holds.
use Rattle.std.specs.Prelude.{◌≡◌, ℕ, ◌≤◌, List, length}
use Rattle.fixdec.specs.Word.{without_leading, without_trailing, number}
use Rattle.exactdec.specs.declared.mantissa.Mantissa.{Mantissa}

-- what is kept of the digits ds: the number without zeros in front and behind, how many digits it has, and how many there
-- are with the zeros behind
pub record IsKeptOf (value kept seen : ℕ) (ds : List ℕ) : Type 0 where
  pub seen_is : seen ≡ length (without_leading ds)
  pub kept_is : kept ≡ length (without_trailing (without_leading ds))
  pub value_is : kept ≤ 30 → value ≡ number (without_trailing (without_leading ds))

-- m has seen the digits ds
abbrev pub HasSeen : Mantissa → List ℕ → Type 0
HasSeen m ds = IsKeptOf m.value m.kept m.seen ds
