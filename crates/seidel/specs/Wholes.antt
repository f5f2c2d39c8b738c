-- The sums of all surfaces, one surface after another. Cited by their code.
use Rattle.std.specs.Prelude.{ℕ, ℤ, Bool, true, false, ◌||◌, List, [], ◌∷◌, map}
use Rattle.fixdec.specs.Operations.{Operations}
use Rattle.fixdec.specs.Steps.{◌>>=◌}
use Rattle.fixdec.specs.declared.step.Step.{Step}
use Rattle.lensmodel.specs.Paraxial.FirstOrderRows.{Passing, nothing, ray_row, rows_of}
use Rattle.lensmodel.specs.Paraxial.Losses.{Worked, to_step, row, some_by_range, Attempt}
use Rattle.lensmodel.specs.Paraxial.SeidelRows.{Sums, contributions, five}
use Rattle.lensmodel.specs.Setup.Values.{image}
use Rattle.lensmodel.specs.declared.paraxial.SeidelOut.{SeidelOut}
use Rattle.lensmodel.specs.declared.setup.Setup.{Setup}
use Rattle.seidel.specs.Surfaces.{Summed, in_short, sums_by_range}

-- sums of no surface
abbrev pub none : {A : Type 0} → Summed A
none = record { sums = record { s1 = nothing; s2 = nothing; s3 = nothing; s4 = nothing; s5 = nothing }; by_range = false }

-- whether one of some surfaces has a row that is lost by range
abbrev pub some_summed_by_range : {A : Type 0} → List (Summed A) → Bool
some_summed_by_range [] = false
some_summed_by_range (d ∷ more) = d.by_range || some_summed_by_range more

-- the totals begin with the first surface
abbrev pub first_of : {A : Type 0} → Sums A → Summed A
first_of v = record { sums = v; by_range = sums_by_range v }

module _ {A : Type 0} (o : Operations A) where
  abbrev pub plus_if : Step A → Step A → Step A
  plus_if t w = do o.plus (← t) (← w)

  -- a total and one number more, as row n
  abbrev pub plus_of : ℕ → Worked A → Worked A → Worked A
  plus_of n t w = row n (t ∷ w ∷ []) (plus_if (to_step t) (to_step w))

  -- the totals and the sums of one surface more; k is the number of the image
  abbrev pub plus_sums : ℕ → Sums A → Sums A → Sums A
  plus_sums k t v = record {
    s1 = plus_of (ray_row k 0 0) t.s1 v.s1;
    s2 = plus_of (ray_row k 0 1) t.s2 v.s2;
    s3 = plus_of (ray_row k 0 2) t.s3 v.s3;
    s4 = plus_of (ray_row k 0 3) t.s4 v.s4;
    s5 = plus_of (ray_row k 0 4) t.s5 v.s5;
  }

  abbrev pub with_more : ℕ → Summed A → Sums A → Summed A
  with_more k t v =
      let next = plus_sums k t.sums v in
      record { sums = next; by_range = t.by_range || sums_by_range next }

  -- the totals and all further surfaces
  abbrev pub with_all : ℕ → Summed A → List (Summed A) → Summed A
  with_all k t [] = t
  with_all k t (d ∷ more) = with_all k (with_more k t d.sums) more

  abbrev pub whole_of : ℕ → List (Summed A) → Summed A
  whole_of k [] = none
  whole_of k (d ∷ more) = with_all k (first_of d.sums) more

-- the sums of two rays at one scale, by the sums of each surface in short
abbrev pub short_attempt : {A : Type 0} → Operations A → ℕ → Setup → ℤ → List (Passing A) → List (Passing A) → Attempt SeidelOut
short_attempt o scale s e ms bs =
    let all = map in_short (contributions o scale s e 0 ms bs) in
    let whole = whole_of o (image s) all in
    record {
      out = record { scale = scale; per = record { items = map (λ d. five o scale d.sums) all }; whole = five o scale whole.sums };
      by_range = some_by_range (rows_of ms) || (some_by_range (rows_of bs) || (some_summed_by_range all || whole.by_range));
    }
