-- Decimal words: their grammar, and the decimals that they denote. A word is its list of UTF-16 units.
use Rattle.std.specs.Prelude.{◌≡◌, ◌⊎◌, ◌==◌, ℕ, ℤ, pos, neg_ℤ, ◌+◌, ◌-◌, ◌*◌, ◌<◌, ◌≤◌, ◌+ℤ◌, ◌-ℤ◌, ◌≤ℤ◌, List, [], ◌∷◌, ◌++◌, length, take, reverse, codes, if◌then◌else◌}
use Rattle.std.specs.List.{AllByRecursion}
use Rattle.fixdec.specs.Decimal.{Decimal}

-- a digit is 0 to 9
pub record IsDigit (c : ℕ) : Type 0 where
  pub low : 48 ≤ c
  pub high : c ≤ 57

-- any number of digits
abbrev pub AreDigits : List ℕ → Type 0
AreDigits ds = AllByRecursion IsDigit ds

-- + or - or nothing
abbrev pub IsSign : List ℕ → Type 0
IsSign s = (s ≡ []) ⊎ (s ≡ codes "+") ⊎ (s ≡ codes "-")

-- a point or nothing
abbrev pub IsPoint : List ℕ → Type 0
IsPoint s = (s ≡ []) ⊎ (s ≡ codes ".")

-- e or E
abbrev pub IsMark : List ℕ → Type 0
IsMark s = (s ≡ codes "e") ⊎ (s ≡ codes "E")

-- a word in its parts: sign, digits, point, digits, and the exponent's mark, sign and digits
pub record Parts : Type 0 where
  pub sign : List ℕ
  pub whole : List ℕ
  pub point : List ℕ
  pub part : List ℕ
  pub mark : List ℕ
  pub power_sign : List ℕ
  pub power : List ℕ

-- a mantissa has at least one digit, before or after its point
pub record IsMantissa (p : Parts) : Type 0 where
  pub sign : IsSign p.sign
  pub whole : AreDigits p.whole
  pub point : IsPoint p.point
  pub part : AreDigits p.part
  pub no_part : p.point ≡ [] → p.part ≡ []
  pub digits : 0 < length (p.whole ++ p.part)

-- an exponent has at least one digit
pub record IsPower (p : Parts) : Type 0 where
  pub mark : IsMark p.mark
  pub sign : IsSign p.power_sign
  pub digits : AreDigits p.power
  pub some : 0 < length p.power

-- there is no exponent
pub record IsNoPower (p : Parts) : Type 0 where
  pub mark : p.mark ≡ []
  pub sign : p.power_sign ≡ []
  pub digits : p.power ≡ []

-- the grammar
pub record IsGrammatical (p : Parts) : Type 0 where
  pub mantissa : IsMantissa p
  pub power : IsNoPower p ⊎ IsPower p

-- the parts one after another
abbrev pub spelling : Parts → List ℕ
spelling p = p.sign ++ (p.whole ++ (p.point ++ (p.part ++ (p.mark ++ (p.power_sign ++ p.power)))))

-- the word has these parts
pub record Spells (word : List ℕ) (p : Parts) : Type 0 where
  pub grammatical : IsGrammatical p
  pub spelled : word ≡ spelling p

-- the word belongs to the grammar
abbrev pub IsWord : List ℕ → Type 0
IsWord word = (p : Parts) × Spells word p

-- some word of the grammar begins so
abbrev pub BeginsWord : List ℕ → Type 0
BeginsWord front = (more : List ℕ) × IsWord (front ++ more)

-- the longest front of the word that begins a word of the grammar has n units
pub record IsPlace (word : List ℕ) (n : ℕ) : Type 0 where
  pub within : n ≤ length word
  pub begins : BeginsWord (take n word)
  pub longest : (m : ℕ) → m ≤ length word → BeginsWord (take m word) → m ≤ n

-- the number that digits write, after those that wrote n
abbrev pub number_after : ℕ → List ℕ → ℕ
number_after n [] = n
number_after n (c ∷ cs) = number_after (10 * n + (c - 48)) cs

abbrev pub number : List ℕ → ℕ
number ds = number_after 0 ds

-- below 0 after a -
abbrev pub signed : List ℕ → ℕ → ℤ
signed [] n = pos n
signed (c ∷ cs) n = if c == 45 then neg_ℤ (pos n) else pos n

-- all digits of the mantissa
abbrev pub digits : Parts → List ℕ
digits p = p.whole ++ p.part

-- mantissa times power of ten as the word writes them: each digit after the point takes one from the exponent
unfoldable pub written_decimal : Parts → Decimal
written_decimal p = record { mant = signed p.sign (number (digits p)); exp = signed p.power_sign (number p.power) -ℤ pos (length p.part) }

-- the digits without the zeros in front
abbrev pub without_leading : List ℕ → List ℕ
without_leading [] = []
without_leading (c ∷ cs) = if c == 48 then without_leading cs else c ∷ cs

-- the digits without the zeros at the end
unfoldable pub without_trailing : List ℕ → List ℕ
without_trailing ds = reverse (without_leading (reverse ds))

-- the digits from the first on that isn't 0
abbrev pub from_first : Parts → List ℕ
from_first p = without_leading (digits p)

-- the digits that are kept: none for zero
abbrev pub significant : Parts → List ℕ
significant p = without_trailing (from_first p)

-- the decimal that is kept: each zero that is dropped at the end adds one to the exponent, and zero has exponent 0
unfoldable pub kept_decimal : Parts → Decimal
kept_decimal p = if length (significant p) == 0 then record { mant = pos 0; exp = pos 0 } else record {
  mant = signed p.sign (number (significant p));
  exp = signed p.power_sign (number p.power) -ℤ pos (length p.part) +ℤ pos (length (from_first p) - length (significant p));
}

-- the exponents of the decimals that are read
pub record IsReadable (exp : ℤ) : Type 0 where
  pub low : neg_ℤ (pos 60) ≤ℤ exp
  pub high : exp ≤ℤ pos 30
