-- The lines of paraxial rays and of Seidel sums, as they are gathered and written.
use Rattle.std.proofs.Common.{◌≡◌, ◌≢◌, ℕ, suc, ◌≤◌, Bool, true, false, cond, List, [], ◌∷◌, ◌++◌, length, Option, refl, sym, ap, subst, ◌∙◌, append_assoc, arith}
use Rattle.std.specs.List.{concat}
use Rattle.std.specs.Prelude.{codes, filter}
use Rattle.fixdec.specs.Decimal.{Decimal}
use Rattle.fixdec.specs.Ends.{Ends}
use Rattle.fixdec.specs.IntervalOperations.{operations}
use Rattle.fixdec.specs.declared.step.Step.{Step}
use Rattle.lensio.specs.Taken.{Takes, TakesFront}
use Rattle.lensmodel.specs.Call.First as first
use Rattle.lensmodel.specs.Call.Seidel as seidel
use Rattle.lensmodel.specs.Paraxial.FirstOrder.{FirstChain, HoldsFirst, IsFirstChain, one_decimal}
use Rattle.lensmodel.specs.Paraxial.FirstOrderRows.{first_attempt, first_order}
use Rattle.lensmodel.specs.Paraxial.Losses.{Attempt, chosen}
use Rattle.lensmodel.specs.Paraxial.Seidel.{HoldsSeidel}
use Rattle.lensmodel.specs.Paraxial.SeidelRows.{seidel_sums, sums_attempt}
use Rattle.lensmodel.specs.Rows.Constants.{residual_units}
use Rattle.lensmodel.specs.Setup.Values.{zero_decimal}
use Rattle.lensmodel.specs.Texts.FirstOrder.{first_head, first_trail, trail_line, trail_lines}
use Rattle.lensmodel.specs.Texts.Pieces.{newline}
use Rattle.lensmodel.specs.Texts.SeidelSums.{five_text, seidel_head, seidel_set, surface_sums}
use Rattle.lensmodel.specs.declared.job.Ask.{Ask}
use Rattle.lensmodel.specs.declared.job.Ask.TheVariants.{Ray, Aim, Fan, Spot, First, Seidel}
use Rattle.lensmodel.specs.declared.job.Job.{Job}
use Rattle.lensmodel.specs.declared.paraxial.FirstOut.{FirstOut}
use Rattle.lensmodel.specs.declared.paraxial.Five.{Five}
use Rattle.lensmodel.specs.declared.paraxial.SeidelOut.{SeidelOut}
use Rattle.lensmodel.specs.declared.setup.Setup.{Setup}
use Rattle.lensreport.specs.Paraxial.{trail_head, set_head, sums_line, whole_line}
use Rattle.lensrun.specs.Gathered.{Gathers}
use Rattle.lensrun.specs.Numbered.{numbered}
use Rattle.lensrun.specs.Paraxial.{is_pair}
use Rattle.lensrun.proofs.Gathering.{front-more, gathers-trans, gathers-front, gathers-put, gathers-put-front}
use Rattle.seidel.specs.Encloses.{EnclosesSeidel}

-- ---- the scales
choose : {X : Type 0} (P : X → Type 0) (b : Bool) (x y : X) → P x → P y → P (cond b x y)
choose P true x y h k = h
choose P false x y h k = k

-- from 6 to 15
pub record IsScale (n : ℕ) : Type 0 where
  pub low : 1 ≤ n
  pub high : n ≤ 15

chosen-is : {X : Type 0} (P : X → Type 0) (attempt : ℕ → Attempt X) → P (attempt 15).out → P (attempt 12).out → P (attempt 9).out → P (attempt 6).out
    → P (chosen attempt)
chosen-is P attempt h15 h12 h9 h6 =
    choose P (attempt 15).by_range _ _ (choose P (attempt 12).by_range _ _ (choose P (attempt 9).by_range _ _ h6 h9) h12) h15

scale-of-first : (s : Setup) (y u : Decimal) → IsScale (first_order s y u).scale
unfolding first_order first_attempt
scale-of-first s y u =
    chosen-is (λ (o : FirstOut). IsScale o.scale) (λ scale. first_attempt (operations scale) scale s (residual_units scale s.res) y u)
    (record { low = omega arith; high = omega arith }) (record { low = omega arith; high = omega arith })
    (record { low = omega arith; high = omega arith }) (record { low = omega arith; high = omega arith })

scale-of-sums : (s : Setup) (y u yb ub : Decimal) → IsScale (seidel_sums s y u yb ub).scale
unfolding seidel_sums sums_attempt
scale-of-sums s y u yb ub =
    chosen-is (λ (o : SeidelOut). IsScale o.scale) (λ scale. sums_attempt (operations scale) scale s (residual_units scale s.res) y u yb ub)
    (record { low = omega arith; high = omega arith }) (record { low = omega arith; high = omega arith })
    (record { low = omega arith; high = omega arith }) (record { low = omega arith; high = omega arith })

pub first-scale : (s : Setup) (y u : Decimal) (o : FirstOut) → o ≡ first_order s y u → IsScale o.scale
first-scale s y u o e = subst (λ (x : FirstOut). IsScale x.scale) (sym e) (scale-of-first s y u)

pub sums-scale : (s : Setup) (y u yb ub : Decimal) (o : SeidelOut) → o ≡ seidel_sums s y u yb ub → IsScale o.scale
sums-scale s y u yb ub o e = subst (λ (x : SeidelOut). IsScale x.scale) (sym e) (scale-of-sums s y u yb ub)

-- ---- what is printed of a ray, and of a pair, holds
pub first-holds : (s : Setup) (y u : Decimal) (o : FirstOut) → o ≡ first_order s y u → ((c : FirstChain) → IsFirstChain s y u c → HoldsFirst s o c)
    → first.FirstHolds s (record { y = y; u = u })
first-holds s y u o e h = λ c is. subst (λ (x : FirstOut). HoldsFirst s x c) e (h c is)

pub sums-hold : (s : Setup) (y u yb ub : Decimal) (o : SeidelOut) → o ≡ seidel_sums s y u yb ub → EnclosesSeidel s y u yb ub o
    → seidel.SumsHold s (record { y = y; u = u; yb = yb; ub = ub })
sums-hold s y u yb ub o e h = λ c is. subst (λ (x : SeidelOut). HoldsSeidel x c) e (h c is)

-- ---- what a line of a job asks for
pub firsts_of : Ask → List first.Asked
firsts_of a = first.with_first a []

pub firsts-next : (a : Ask) (more : List Ask) → first.firsts (a ∷ more) ≡ firsts_of a ++ first.firsts more
unfolding firsts_of
firsts-next (Ray x y p q) more = refl
firsts-next (Aim p q px py z r) more = refl
firsts-next (Fan p q n z r) more = refl
firsts-next (Spot p q n z r) more = refl
firsts-next (First y u) more = refl
firsts-next (Seidel y u yb ub) more = refl

pub firsts-few : (a : Ask) → length (firsts_of a) ≤ 1
unfolding firsts_of
firsts-few (Ray x y p q) = omega arith
firsts-few (Aim p q px py z r) = omega arith
firsts-few (Fan p q n z r) = omega arith
firsts-few (Spot p q n z r) = omega arith
firsts-few (First y u) = omega arith
firsts-few (Seidel y u yb ub) = omega arith

pub no-firsts : (a : Ask) → ((y u : Decimal) → a ≢ First y u) → firsts_of a ≡ []
unfolding firsts_of
no-firsts (Ray x y p q) h = refl
no-firsts (Aim p q px py z r) h = refl
no-firsts (Fan p q n z r) h = refl
no-firsts (Spot p q n z r) h = refl
no-firsts (First y u) h = absurd (h y u refl)
no-firsts (Seidel y u yb ub) h = refl

pub one-first : (a : Ask) (y u : Decimal) → a ≡ First y u → firsts_of a ≡ record { y = y; u = u } ∷ []
unfolding firsts_of
one-first a y u e = ap firsts_of e

pub pairs_of : Ask → List seidel.Pair
pairs_of a = seidel.with_pair a []

pub pairs-next : (a : Ask) (more : List Ask) → seidel.pairs (a ∷ more) ≡ pairs_of a ++ seidel.pairs more
unfolding pairs_of
pairs-next (Ray x y p q) more = refl
pairs-next (Aim p q px py z r) more = refl
pairs-next (Fan p q n z r) more = refl
pairs-next (Spot p q n z r) more = refl
pairs-next (First y u) more = refl
pairs-next (Seidel y u yb ub) more = refl

pub pairs-few : (a : Ask) → length (pairs_of a) ≤ 1
unfolding pairs_of
pairs-few (Ray x y p q) = omega arith
pairs-few (Aim p q px py z r) = omega arith
pairs-few (Fan p q n z r) = omega arith
pairs-few (Spot p q n z r) = omega arith
pairs-few (First y u) = omega arith
pairs-few (Seidel y u yb ub) = omega arith

pub no-pairs : (a : Ask) → ((y u yb ub : Decimal) → a ≢ Seidel y u yb ub) → pairs_of a ≡ []
unfolding pairs_of
no-pairs (Ray x y p q) h = refl
no-pairs (Aim p q px py z r) h = refl
no-pairs (Fan p q n z r) h = refl
no-pairs (Spot p q n z r) h = refl
no-pairs (First y u) h = refl
no-pairs (Seidel y u yb ub) h = absurd (h y u yb ub refl)

pub one-pair : (a : Ask) (y u yb ub : Decimal) → a ≡ Seidel y u yb ub → pairs_of a ≡ record { y = y; u = u; yb = yb; ub = ub } ∷ []
unfolding pairs_of
one-pair a y u yb ub e = ap pairs_of e

pub pairs-counted : (asks : List Ask) → length (filter is_pair asks) ≡ length (seidel.pairs asks)
pairs-counted [] = refl
pairs-counted (Ray x y p q ∷ more) = pairs-counted more
pairs-counted (Aim p q px py z r ∷ more) = pairs-counted more
pairs-counted (Fan p q n z r ∷ more) = pairs-counted more
pairs-counted (Spot p q n z r ∷ more) = pairs-counted more
pairs-counted (First y u ∷ more) = pairs-counted more
pairs-counted (Seidel y u yb ub ∷ more) = ap suc (pairs-counted more)

-- ---- texts as lists of lines
abbrev pub trail_text : Setup → ℕ → first.Asked → List ℕ
trail_text s i a = first_trail i (first_order s a.y a.u)

pub trail-printed : (s : Setup) (i : ℕ) (y u : Decimal) (o : FirstOut) → o ≡ first_order s y u → first_trail i o ≡ trail_text s i (record { y = y; u = u })
trail-printed s i y u o e = ap (first_trail i) e

pub trails-are : (s : Setup) (i : ℕ) (asked : List first.Asked) → concat (numbered (trail_text s) i asked) ≡ first.trails s i asked
trails-are s i [] = refl
trails-are s i (a ∷ more) = ap (λ l. trail_text s i a ++ l) (trails-are s (suc i) more)

abbrev pub set_text : Setup → ℕ → seidel.Pair → List ℕ
set_text s i a = seidel_set i (seidel_sums s a.y a.u a.yb a.ub)

pub set-printed : (s : Setup) (i : ℕ) (y u yb ub : Decimal) (o : SeidelOut) → o ≡ seidel_sums s y u yb ub
    → seidel_set i o ≡ set_text s i (record { y = y; u = u; yb = yb; ub = ub })
set-printed s i y u yb ub o e = ap (seidel_set i) e

pub sets-are : (s : Setup) (i : ℕ) (pairs : List seidel.Pair) → concat (numbered (set_text s) i pairs) ≡ seidel.sets s i pairs
sets-are s i [] = refl
sets-are s i (a ∷ more) = ap (λ l. set_text s i a ++ l) (sets-are s (suc i) more)

pub heights-are : (scale j : ℕ) (trail : List (Step Ends × Step Ends)) → concat (numbered (trail_line scale) j trail) ≡ trail_lines scale j trail
heights-are scale j [] = refl
heights-are scale j (p ∷ more) = ap (λ l. trail_line scale j p ++ l) (heights-are scale (suc j) more)

pub surfaces-are : (scale j : ℕ) (per : List Five) → concat (numbered (sums_line scale) j per) ≡ surface_sums scale j per
surfaces-are scale j [] = refl
surfaces-are scale j (v ∷ more) = ap (λ l. sums_line scale j v ++ l) (surfaces-are scale (suc j) more)

-- ---- a trail, and a set
pub trail-whole : (i : ℕ) (values : FirstOut) (head : List ℕ) (slice : List (Step Ends × Step Ends)) → head ≡ trail_head i values.scale → slice ≡ values.trail.items
    → head ++ trail_lines values.scale 1 slice ≡ first_trail i values
trail-whole i values head slice h e =
    ap (λ l. l ++ trail_lines values.scale 1 slice) h ∙ ap (λ l. trail_head i values.scale ++ trail_lines values.scale 1 l) e

four_lists : (a b c d : List ℕ) → a ++ (b ++ c ++ d) ≡ a ++ b ++ c ++ d
four_lists a b c d = simp append_assoc

pub set-whole : (i : ℕ) (sums : SeidelOut) (head last : List ℕ) (slice : List Five) → head ≡ set_head i sums.scale → slice ≡ sums.per.items
    → last ≡ whole_line sums.scale sums.whole → head ++ surface_sums sums.scale 1 slice ++ last ≡ seidel_set i sums
set-whole i sums head last slice h e l =
    ap (λ x. x ++ surface_sums sums.scale 1 slice ++ last) h
    ∙ ap (λ x. set_head i sums.scale ++ surface_sums sums.scale 1 x ++ last) e
    ∙ ap (λ x. set_head i sums.scale ++ surface_sums sums.scale 1 sums.per.items ++ x) l
    ∙ four_lists (set_head i sums.scale ++ surface_sums sums.scale 1 sums.per.items) (codes "whole") (five_text sums.scale sums.whole) newline

-- ---- the reports
pub first-whole : (s : Setup) (job : Job) (values : FirstOut) (head : List ℕ) (slice : List Ask) → values ≡ first_order s one_decimal zero_decimal
    → head ≡ first_head values → slice ≡ job.asks → head ++ first.trails s 1 (first.firsts slice) ≡ first.first_text s job
unfolding first.first_text
first-whole s job values head slice v h e =
    ap (λ l. l ++ first.trails s 1 (first.firsts slice)) (h ∙ ap first_head v)
    ∙ ap (λ l. first_head (first_order s one_decimal zero_decimal) ++ first.trails s 1 (first.firsts l)) e

pub seidel-whole : (s : Setup) (job : Job) (n : ℕ) (head : List ℕ) (slice : List Ask) → n ≡ length (filter is_pair slice)
    → head ≡ seidel_head n → slice ≡ job.asks → head ++ seidel.sets s 1 (seidel.pairs slice) ≡ seidel.seidel_text s job
unfolding seidel.seidel_text
seidel-whole s job n head slice c h e =
    ap (λ l. l ++ seidel.sets s 1 (seidel.pairs slice)) (h ∙ ap seidel_head (c ∙ pairs-counted slice))
    ∙ ap (λ l. seidel_head (length (seidel.pairs l)) ++ seidel.sets s 1 (seidel.pairs l)) e

-- ---- a text of three parts behind what was gathered
module _ (a b : Option (List ℕ)) (t u v x w : List ℕ) (whole : u ++ v ++ x ≡ w) where
  all-parts : ((t ++ u) ++ v) ++ x ≡ t ++ w
  all-parts = ap (λ l. l ++ x) (append_assoc t u v) ∙ append_assoc t (u ++ v) x ∙ ap (λ l. t ++ l) whole

  pub first_of_three : TakesFront a b (t ++ u) → TakesFront a b (t ++ w)
  first_of_three h = subst (TakesFront a b) all-parts (front-more a b ((t ++ u) ++ v) x (front-more a b (t ++ u) v h))

  module _ (p : List ℕ) (g : Gathers a b p (t ++ u)) (c : Option (List ℕ)) where
    pub second_of_three : TakesFront b c (p ++ v) → TakesFront a c (t ++ w)
    second_of_three h = subst (TakesFront a c) all-parts (front-more a c ((t ++ u) ++ v) x (gathers-front a b c p (t ++ u) v g h))

    module _ (q : List ℕ) (k : Gathers b c q (p ++ v)) (d : Option (List ℕ)) where
      two : Gathers a c q ((t ++ u) ++ v)
      two = gathers-trans a b c p q (t ++ u) v g k

      pub third_of_three : TakesFront c d (q ++ x) → TakesFront a d (t ++ w)
      third_of_three h = subst (TakesFront a d) all-parts (gathers-front a c d q ((t ++ u) ++ v) x two h)

      pub all_three : (r : List ℕ) → Gathers c d r (q ++ x) → Gathers a d r (t ++ w)
      all_three r h = subst (Gathers a d r) all-parts (gathers-trans a c d q r ((t ++ u) ++ v) x two h)

-- ---- a report of a head and what follows it
module _ (piece head rest text : List ℕ) (empty : piece ≡ []) (whole : head ++ rest ≡ text) where
  text-is : (piece ++ head) ++ rest ≡ text
  text-is = ap (λ p. (p ++ head) ++ rest) empty ∙ whole

  pub report_front : (a b : Option (List ℕ)) → TakesFront a b (piece ++ head) → TakesFront a b text
  report_front a b t = subst (TakesFront a b) text-is (front-more a b (piece ++ head) rest t)

  module _ (a b c : Option (List ℕ)) (held : List ℕ) (g : Gathers a b held (piece ++ head)) where
    pub report_rest_front : TakesFront b c (held ++ rest) → TakesFront a c text
    report_rest_front t = subst (TakesFront a c) text-is (gathers-front a b c held (piece ++ head) rest g t)

    module _ (last : List ℕ) (h : Gathers b c last (held ++ rest)) (d : Option (List ℕ)) where
      gathered : Gathers a c last text
      gathered = subst (Gathers a c last) text-is (gathers-trans a b c held last (piece ++ head) rest g h)

      pub report_taken : Takes c d last → Takes a d text
      report_taken t = gathers-put a c d last text gathered t

      pub report_put_front : TakesFront c d last → TakesFront a d text
      report_put_front t = gathers-put-front a c d last text gathered t
