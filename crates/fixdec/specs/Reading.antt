-- The decimal of a word, found by taking the word apart from the left.
use Rattle.std.specs.Prelude.{◌==◌, ◌&&◌, ◌||◌, ℕ, ℤ, pos, Bool, List, [], ◌∷◌, length, nat_le, nat_lt, int_le, neg_ℤ, Option, Some, None, if◌then◌else◌}
use Rattle.fixdec.specs.Decimal.{Decimal}
use Rattle.fixdec.specs.Word.{Parts, digits, significant, kept_decimal}

abbrev pub is_digit : ℕ → Bool
is_digit c = nat_le 48 c && nat_le c 57

-- the digits in front, and what follows them
abbrev pub digits_front : List ℕ → List ℕ
digits_front [] = []
digits_front (c ∷ cs) = if is_digit c then c ∷ digits_front cs else []

abbrev pub digits_after : List ℕ → List ℕ
digits_after [] = []
digits_after (c ∷ cs) = if is_digit c then digits_after cs else c ∷ cs

abbrev pub is_sign : ℕ → Bool
is_sign c = (c == 43) || (c == 45)

abbrev pub is_point : ℕ → Bool
is_point c = c == 46

abbrev pub is_mark : ℕ → Bool
is_mark c = (c == 69) || (c == 101)

-- the unit in front where it passes the test, and what follows it
abbrev pub unit_front : (ℕ → Bool) → List ℕ → List ℕ
unit_front is [] = []
unit_front is (c ∷ cs) = if is c then c ∷ [] else []

abbrev pub unit_after : (ℕ → Bool) → List ℕ → List ℕ
unit_after is [] = []
unit_after is (c ∷ cs) = if is c then cs else c ∷ cs

-- the parts in front of a word, and what follows them
pub record Split : Type 0 where
  pub parts : Parts
  pub rest : List ℕ

abbrev pub mantissa_front : List ℕ → Split
mantissa_front word =
    let after_sign = unit_after is_sign word in
    let after_whole = digits_after after_sign in
    let after_point = unit_after is_point after_whole in
    record {
      parts = record {
        sign = unit_front is_sign word;
        whole = digits_front after_sign;
        point = unit_front is_point after_whole;
        part = digits_front after_point;
        mark = [];
        power_sign = [];
        power = [];
      };
      rest = digits_after after_point;
    }

-- a mantissa with the exponent in front of what follows it
abbrev pub power_front : Parts → List ℕ → Split
power_front m rest =
    let after_mark = unit_after is_mark rest in
    let after_sign = unit_after is_sign after_mark in
    record {
      parts = record m { mark = unit_front is_mark rest; power_sign = unit_front is_sign after_mark; power = digits_front after_sign };
      rest = digits_after after_sign;
    }

-- whether there is an exponent to split off: a mark behind at least one digit
abbrev pub has_power : Split → Bool
has_power s = nat_lt 0 (length (digits s.parts)) && nat_lt 0 (length (unit_front is_mark s.rest))

unfoldable pub split : List ℕ → Split
split word = if has_power (mantissa_front word) then power_front (mantissa_front word).parts (mantissa_front word).rest else mantissa_front word

-- whether nothing is missing or left over
abbrev pub is_whole : Split → Bool
is_whole s = nat_lt 0 (length (digits s.parts)) && ((length s.parts.mark == 0) || nat_lt 0 (length s.parts.power)) && (length s.rest == 0)

abbrev pub is_readable : ℤ → Bool
is_readable exp = int_le (neg_ℤ (pos 60)) exp && int_le exp (pos 30)

-- the decimal of a word; none where it isn't in the grammar, has more than 30 digits, or has an exponent past its limits
unfoldable pub decimal_of : List ℕ → Option Decimal
decimal_of word =
    if is_whole (split word) && nat_le (length (significant (split word).parts)) 30 && is_readable (kept_decimal (split word).parts).exp
    then Some (kept_decimal (split word).parts) else None
