-- A job of lines none of which offends is in its ranges.
use Rattle.std.proofs.Common.{◌≡◌, ℕ, suc, ℤ, pos, negsuc, Bool, true, false, List, [], ◌∷◌, ◌++◌, refl, subst}
use Rattle.std.proofs.lemmas.Bool.{ltb-false, not-false, and_from}
use Rattle.std.proofs.lemmas.List.Elements.{All-nil, All-cons, All-head, All-tail, All-push, All-weaker}
use Rattle.std.specs.List.{All}
use Rattle.std.specs.Prelude.{Option, Some, None, unwrap_or, Result, Ok, IfSome, IfOk, IsTrue, codes, not, nat_lt, if◌then◌else◌}
use Rattle.fixdec.specs.Frac.{whole, ◌*Q◌}
use Rattle.fixdec.specs.Reading.{decimal_of, split}
use Rattle.lensmodel.specs.Files.Causes.{or_first, fault_if, first_fault, ok_unless}
use Rattle.lensmodel.specs.Files.Job.{wave_in, natural, number_at, residual_in, width_in, pupil_behind, ask_of, with_ask, asks_behind, all_asks, job_of, rays_fault, of_lines}
use Rattle.lensmodel.specs.Files.JobFaults.{is_WAVE, is_RES, is_WIDTH, is_PUPIL, whole_number, wrong_count, second, bad_decimals, bad_whole, no_pupil, out_of_range, is_within, offence}
use Rattle.lensmodel.specs.Files.Records.{Words, has_tag, last_where, decimal_at, first_offence}
use Rattle.lensmodel.specs.Setup.Launches.{job_count}
use Rattle.lensmodel.specs.Setup.Ranges.{is_positive, is_not_negative, is_wave, is_residual, is_width, is_fan, is_grid, is_ask}
use Rattle.lensmodel.specs.Setup.WellFormed.{IsInRange}
use Rattle.lensmodel.specs.declared.fault.JobFault.{JobFault}
use Rattle.lensmodel.specs.declared.fault.JobFault.TheVariants.{Range, TooManyRays}
use Rattle.lensmodel.specs.declared.job.Ask.{Ask}
use Rattle.lensmodel.specs.declared.job.Job.{Job}
use Rattle.jobtext.proofs.Growth.{tagged}

-- ---- causes none of which stands
none-first : {F : Type 0} (a b : Option F) → or_first a b ≡ None → (a ≡ None) × (b ≡ None)
none-first (Some x) b h = cc
none-first None b h = (refl, h)

not-stands : {F : Type 0} (b : Bool) (f : F) → fault_if b f ≡ None → b ≡ false
not-stands true f h = cc
not-stands false f h = refl

-- the range that is tested last isn't left
kept : (n : ℕ) (causes : List (Option JobFault)) (within : Bool) → first_fault (causes ++ out_of_range n within ∷ []) ≡ None → IsTrue within
kept n [] within h = not-false within (not-stands (not within) (Range n) (none-first (out_of_range n within) None h).0)
kept n (cause ∷ more) within h = kept n more within (none-first cause (first_fault (more ++ out_of_range n within ∷ [])) h).1

whole-kept : (range : ℕ → Bool) (o : Option ℤ) → IsTrue (is_within range o) → IsTrue (range (natural o))
whole-kept range (Some (pos k)) h = h
whole-kept range (Some (negsuc k)) h = cc
whole-kept range None h = cc

-- ---- a line that doesn't offend
record IsFine (l : Words) : Type 0 where
  wave : is_WAVE l ≡ true → IsTrue (is_positive (decimal_at 1 l))
  res : is_RES l ≡ true → IsTrue (is_residual (number_at 1 l))
  width : is_WIDTH l ≡ true → IsTrue (is_width (decimal_at 1 l))
  pupil : is_PUPIL l ≡ true → IsTrue (is_not_negative (decimal_at 2 l))
  fan : has_tag (codes "FAN") l ≡ true → IsTrue (is_fan (number_at 3 l))
  spot : has_tag (codes "SPOT") l ≡ true → IsTrue (is_grid (number_at 3 l))

fine-WAVE : (n : ℕ) (before : List Words) (l : Words) → offence n before l ≡ None → is_WAVE l ≡ true → IsTrue (is_positive (decimal_at 1 l))
fine-WAVE n before l e h = tagged (codes "WAVE") (λ (x : Words). offence n before x ≡ None → IsTrue (is_positive (decimal_at 1 x)))
    (λ more. let x : Words = codes "WAVE" ∷ more in
    kept n (wrong_count n 1 x ∷ second n is_WAVE before ∷ bad_decimals n x ∷ []) (is_positive (decimal_at 1 x))) l h e

fine-RES : (n : ℕ) (before : List Words) (l : Words) → offence n before l ≡ None → is_RES l ≡ true → IsTrue (is_residual (number_at 1 l))
fine-RES n before l e h = tagged (codes "RES") (λ (x : Words). offence n before x ≡ None → IsTrue (is_residual (number_at 1 x)))
    (λ more e. let x : Words = codes "RES" ∷ more in
    whole-kept is_residual (whole_number 1 x)
    (kept n (wrong_count n 1 x ∷ second n is_RES before ∷ bad_whole n 1 x ∷ []) (is_within is_residual (whole_number 1 x)) e)) l h e

fine-WIDTH : (n : ℕ) (before : List Words) (l : Words) → offence n before l ≡ None → is_WIDTH l ≡ true → IsTrue (is_width (decimal_at 1 l))
fine-WIDTH n before l e h = tagged (codes "WIDTH") (λ (x : Words). offence n before x ≡ None → IsTrue (is_width (decimal_at 1 x)))
    (λ more. let x : Words = codes "WIDTH" ∷ more in
    kept n (wrong_count n 1 x ∷ second n is_WIDTH before ∷ bad_decimals n x ∷ []) (is_width (decimal_at 1 x))) l h e

fine-PUPIL : (n : ℕ) (before : List Words) (l : Words) → offence n before l ≡ None → is_PUPIL l ≡ true → IsTrue (is_not_negative (decimal_at 2 l))
fine-PUPIL n before l e h = tagged (codes "PUPIL") (λ (x : Words). offence n before x ≡ None → IsTrue (is_not_negative (decimal_at 2 x)))
    (λ more. let x : Words = codes "PUPIL" ∷ more in
    kept n (wrong_count n 2 x ∷ bad_decimals n x ∷ []) (is_not_negative (decimal_at 2 x))) l h e

fine-FAN : (n : ℕ) (before : List Words) (l : Words) → offence n before l ≡ None → has_tag (codes "FAN") l ≡ true → IsTrue (is_fan (number_at 3 l))
fine-FAN n before l e h = tagged (codes "FAN") (λ (x : Words). offence n before x ≡ None → IsTrue (is_fan (number_at 3 x)))
    (λ more e. let x : Words = codes "FAN" ∷ more in
    whole-kept is_fan (whole_number 3 x)
    (kept n (wrong_count n 3 x ∷ bad_decimals n x ∷ bad_whole n 3 x ∷ no_pupil n before ∷ []) (is_within is_fan (whole_number 3 x)) e)) l h e

fine-SPOT : (n : ℕ) (before : List Words) (l : Words) → offence n before l ≡ None → has_tag (codes "SPOT") l ≡ true → IsTrue (is_grid (number_at 3 l))
fine-SPOT n before l e h = tagged (codes "SPOT") (λ (x : Words). offence n before x ≡ None → IsTrue (is_grid (number_at 3 x)))
    (λ more e. let x : Words = codes "SPOT" ∷ more in
    whole-kept is_grid (whole_number 3 x)
    (kept n (wrong_count n 3 x ∷ bad_decimals n x ∷ bad_whole n 3 x ∷ no_pupil n before ∷ []) (is_within is_grid (whole_number 3 x)) e)) l h e

fine : (n : ℕ) (before : List Words) (l : Words) → offence n before l ≡ None → IsFine l
fine n before l e = record {
  wave = fine-WAVE n before l e;
  res = fine-RES n before l e;
  width = fine-WIDTH n before l e;
  pupil = fine-PUPIL n before l e;
  fan = fine-FAN n before l e;
  spot = fine-SPOT n before l e;
}

all-fine : (n : ℕ) (before ls : List Words) → first_offence offence n before ls ≡ None → All IsFine ls
all-fine n before [] h = All-nil IsFine
all-fine n before (l ∷ more) h =
    let p = none-first (offence n before l) (first_offence offence (suc n) (before ++ l ∷ []) more) h in
    All-cons IsFine l more (fine n before l p.0) (all-fine (suc n) (before ++ l ∷ []) more p.1)

-- ---- settings
or-has : {A : Type 0} (P : A → Type 0) (a b : Option A) → IfSome a P → IfSome b P → IfSome (or_first a b) P
or-has P (Some x) b f g = f
or-has P None b f g = g

if-has : {A : Type 0} (P : A → Type 0) (b : Bool) (x : A) → (b ≡ true → P x) → IfSome (if b then Some x else None) P
if-has P true x f = f refl
if-has P false x f = tt

last-has : (is : Words → Bool) (P : Words → Type 0) (ls : List Words) → All (λ l. is l ≡ true → P l) ls → IfSome (last_where is ls) P
last-has is P [] f = tt
last-has is P (l ∷ more) f =
    let Q = λ (x : Words). is x ≡ true → P x in
    or-has P (last_where is more) (if is l then Some l else None) (last-has is P more (All-tail Q l more f)) (if-has P (is l) l (All-head Q l more f))

wave-in : (o : Option Words) → IfSome o (λ l. IsTrue (is_positive (decimal_at 1 l))) → IsTrue (is_wave (wave_in o))
wave-in (Some l) h = h
wave-in None h = refl

residual-in : (o : Option Words) → IfSome o (λ l. IsTrue (is_residual (number_at 1 l))) → IsTrue (is_residual (residual_in o))
residual-in (Some l) h = h
residual-in None h = refl

width-in : (o : Option Words) → IfSome o (λ l. IsTrue (is_width (decimal_at 1 l))) → IsTrue (is_width (width_in o))
unfolding whole ◌*Q◌
width-in (Some l) h = h
width-in None h = refl

-- ---- asks
no-pupil : IsTrue (is_not_negative (decimal_at 2 []))
unfolding decimal_of split
no-pupil = refl

abbrev IsPlane : Words → Type 0
IsPlane l = IsTrue (is_not_negative (decimal_at 2 l))

plane-in : (o : Option Words) → IfSome o IsPlane → IsPlane (unwrap_or o [])
plane-in (Some l) h = h
plane-in None h = no-pupil

pupil-in : (before : List Words) → All IsFine before → IsPlane (pupil_behind before)
pupil-in before f = plane-in (last_where is_PUPIL before) (last-has is_PUPIL IsPlane before (All-weaker IsFine (λ l. is_PUPIL l ≡ true → IsPlane l) (λ l h. h.pupil) before f))

abbrev IsAskInRange : Ask → Type 0
IsAskInRange a = IsTrue (is_ask a)

either : {A : Type 0} (P : A → Type 0) (b : Bool) (x y : Option A) → (b ≡ true → IfSome x P) → IfSome y P → IfSome (if b then x else y) P
either P true x y f g = f refl
either P false x y f g = g

ask-in : (pupil l : Words) → IsTrue (is_not_negative (decimal_at 2 pupil)) → IsFine l → IfSome (ask_of pupil l) IsAskInRange
ask-in pupil l p h =
    either IsAskInRange (has_tag (codes "RAY") l) _ _ (λ e. refl)
    (either IsAskInRange (has_tag (codes "AIM") l) _ _ (λ e. p)
    (either IsAskInRange (has_tag (codes "FAN") l) _ _ (λ e. and_from (is_fan (number_at 3 l)) (is_not_negative (decimal_at 2 pupil)) (h.fan e) p)
    (either IsAskInRange (has_tag (codes "SPOT") l) _ _ (λ e. and_from (is_grid (number_at 3 l)) (is_not_negative (decimal_at 2 pupil)) (h.spot e) p)
    (either IsAskInRange (has_tag (codes "FIRST") l) _ _ (λ e. refl)
    (either IsAskInRange (has_tag (codes "SEIDEL") l) _ _ (λ e. refl) tt)))))

with-in : (o : Option Ask) (asks : List Ask) → IfSome o IsAskInRange → All IsAskInRange asks → All IsAskInRange (with_ask o asks)
with-in (Some a) asks h f = All-cons IsAskInRange a asks h f
with-in None asks h f = f

asks-in : (before ls : List Words) → All IsFine before → All IsFine ls → All IsAskInRange (asks_behind before ls)
asks-in before [] b f = All-nil IsAskInRange
asks-in before (l ∷ more) b f =
    let here = All-head IsFine l more f in
    with-in (ask_of (pupil_behind before) l) (asks_behind (before ++ l ∷ []) more) (ask-in (pupil_behind before) l (pupil-in before b) here)
    (asks-in (before ++ l ∷ []) more (All-push IsFine before l b here) (All-tail IsFine l more f))

-- ---- the job
job-in : (ls : List Words) → All IsFine ls → rays_fault (all_asks ls) ≡ None → IsInRange (job_of ls)
job-in ls f r = record {
  wave = wave-in (last_where is_WAVE ls) (last-has is_WAVE _ ls (All-weaker IsFine _ (λ l h. h.wave) ls f));
  residual = residual-in (last_where is_RES ls) (last-has is_RES _ ls (All-weaker IsFine _ (λ l h. h.res) ls f));
  width = width-in (last_where is_WIDTH ls) (last-has is_WIDTH _ ls (All-weaker IsFine _ (λ l h. h.width) ls f));
  asks = asks-in [] ls (All-nil IsFine) f;
  rays = ltb-false 10_000 (job_count (all_asks ls)) (not-stands (nat_lt 10_000 (job_count (all_asks ls))) TooManyRays r);
}

unless : {A F : Type 0} (P : A → Type 0) (o : Option F) (a : A) → (o ≡ None → P a) → IfOk (ok_unless o a) P
unless P None a f = f refl
unless P (Some x) a f = tt

lines-in : (ls : List Words) → IfOk (of_lines ls) IsInRange
lines-in ls =
    let first = first_offence offence 1 [] ls in
    let rays = rays_fault (all_asks ls) in
    unless IsInRange (or_first first rays) (job_of ls) (λ h. let p = none-first first rays h in job-in ls (all-fine 1 [] ls p.0) p.1)

-- what lines without a fault say is in its ranges
pub lines-sound : (ls : List Words) (j : Job) → of_lines ls ≡ Ok j → IsInRange j
lines-sound ls j e = subst (λ (r : Result Job JobFault). IfOk r IsInRange) e (lines-in ls)
