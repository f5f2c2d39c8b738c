-- The sums of all surfaces, one after another, are those of the definition. Cited by proofs.
use Rattle.std.proofs.Common.{◌≡◌, ℕ, suc, Bool, true, false, List, [], ◌∷◌, ◌++◌, refl, sym, ap, ◌∙◌}
use Rattle.std.specs.Prelude.{ℤ, ◌||◌, map, flat_map}
use Rattle.fixdec.specs.Operations.{Operations}
use Rattle.fixdec.specs.Decimal.{Decimal}
use Rattle.lensmodel.specs.Paraxial.FirstOrderRows.{Passing, ray_row, ray_rows, rows_of}
use Rattle.lensmodel.specs.Paraxial.Losses.{Worked, is_by_range, some_by_range, Attempt}
use Rattle.lensmodel.specs.Paraxial.SeidelRows.{Sums, Contribution, contributions, added, totals, last, five, sums_attempt}
use Rattle.lensmodel.specs.Setup.Values.{image}
use Rattle.lensmodel.specs.declared.paraxial.Five.{Five}
use Rattle.lensmodel.specs.declared.paraxial.SeidelOut.{SeidelOut}
use Rattle.lensmodel.specs.declared.setup.Setup.{Setup}
use Rattle.seidel.specs.Surfaces.{Summed, in_short}
use Rattle.seidel.specs.Wholes.{some_summed_by_range, plus_of, plus_sums, with_all, whole_of, first_of, short_attempt}

-- ---- or
or_false : (a : Bool) → a || false ≡ a
or_false true = refl
or_false false = refl

pub or_assoc : (a b c : Bool) → (a || b) || c ≡ a || (b || c)
or_assoc true b c = refl
or_assoc false b c = refl

or_swap : (a b c d : Bool) → (a || b) || (c || d) ≡ (a || c) || (b || d)
or_swap true b c d = refl
or_swap false true true d = refl
or_swap false true false d = refl
or_swap false false c d = refl

abbrev any_of_five : Bool → Bool → Bool → Bool → Bool → Bool
any_of_five a b c d e = a || (b || (c || (d || (e || false))))

five_swap : (a b c d e a' b' c' d' e' : Bool)
    → any_of_five a b c d e || any_of_five a' b' c' d' e' ≡ any_of_five (a || a') (b || b') (c || c') (d || d') (e || e')
five_swap a b c d e a' b' c' d' e' =
    or_swap a (b || (c || (d || (e || false)))) a' (b' || (c' || (d' || (e' || false))))
    ∙ ap (λ x. (a || a') || x) (or_swap b (c || (d || (e || false))) b' (c' || (d' || (e' || false)))
    ∙ ap (λ x. (b || b') || x) (or_swap c (d || (e || false)) c' (d' || (e' || false))
    ∙ ap (λ x. (c || c') || x) (or_swap d (e || false) d' (e' || false)
    ∙ ap (λ x. (d || d') || x) (or_swap e false e' false))))

pub some_by_range-append : {A : Type 0} (a b : List (Worked A)) → some_by_range (a ++ b) ≡ some_by_range a || some_by_range b
some_by_range-append [] b = refl
some_by_range-append (w ∷ a) b = ap (λ x. is_by_range w || x) (some_by_range-append a b) ∙ sym (or_assoc (is_by_range w) (some_by_range a) (some_by_range b))

or_chain : (a b c d e f g h : Bool) → ((((((a || b) || c) || d) || e) || f) || g) || h ≡ a || (b || (c || any_of_five d e f g h))
or_chain true b c d e f g h = refl
or_chain false true c d e f g h = refl
or_chain false false true d e f g h = refl
or_chain false false false true e f g h = refl
or_chain false false false false true f g h = refl
or_chain false false false false false true g h = refl
or_chain false false false false false false true h = refl
or_chain false false false false false false false h = sym (or_false h)

-- all rows, part by part
pub range-parts : {A : Type 0} (a b c d e f g h : List (Worked A)) → some_by_range (a ++ b ++ c ++ d ++ e ++ f ++ g ++ h)
    ≡ some_by_range a || (some_by_range b || (some_by_range c || any_of_five (some_by_range d) (some_by_range e) (some_by_range f) (some_by_range g) (some_by_range h)))
range-parts a b c d e f g h =
    rw (
      some_by_range-append (a ++ b ++ c ++ d ++ e ++ f ++ g) h,
      some_by_range-append (a ++ b ++ c ++ d ++ e ++ f) g,
      some_by_range-append (a ++ b ++ c ++ d ++ e) f,
      some_by_range-append (a ++ b ++ c ++ d) e,
      some_by_range-append (a ++ b ++ c) d,
      some_by_range-append (a ++ b) c,
      some_by_range-append a b,
    )
    (or_chain (some_by_range a) (some_by_range b) (some_by_range c) (some_by_range d) (some_by_range e) (some_by_range f) (some_by_range g) (some_by_range h))

-- whether a row of some surfaces is lost by range
pub some_summed : {A : Type 0} (all : List (Contribution A)) → some_summed_by_range (map in_short all) ≡ some_by_range (flat_map (λ d. d.rows) all)
some_summed [] = refl
some_summed (d ∷ more) =
    ap (λ x. some_by_range d.rows || x) (some_summed more) ∙ sym (some_by_range-append d.rows (flat_map (λ d. d.rows) more))

module _ {A : Type 0} (o : Operations A) (scale k : ℕ) where
  pub fives_are : (all : List (Contribution A)) → map (λ d. five o scale d.sums) (map in_short all) ≡ map (λ d. five o scale d.sums) all
  fives_are [] = refl
  fives_are (d ∷ more) = ap (λ (x : List Five). five o scale d.sums ∷ x) (fives_are more)

  -- one total after another, from w on, by the row's number
  abbrev line : ℕ → (Sums A → Worked A) → Worked A → List (Summed A) → List (Worked A)
  line i pick w all = added o scale (ray_row k 0 i) w (map (λ d. pick d.sums) all)

  -- the totals that the definition gives, where r says whether a row before them is lost by range
  abbrev lines : Bool → Sums A → List (Summed A) → Summed A
  lines r w all = record {
    sums = record {
      s1 = last o scale (line 0 (λ v. v.s1) w.s1 all);
      s2 = last o scale (line 1 (λ v. v.s2) w.s2 all);
      s3 = last o scale (line 2 (λ v. v.s3) w.s3 all);
      s4 = last o scale (line 3 (λ v. v.s4) w.s4 all);
      s5 = last o scale (line 4 (λ v. v.s5) w.s5 all);
    };
    by_range = r || any_of_five (some_by_range (line 0 (λ v. v.s1) w.s1 all)) (some_by_range (line 1 (λ v. v.s2) w.s2 all))
        (some_by_range (line 2 (λ v. v.s3) w.s3 all)) (some_by_range (line 3 (λ v. v.s4) w.s4 all)) (some_by_range (line 4 (λ v. v.s5) w.s5 all));
  }

  abbrev here : Sums A → Bool
  here w = any_of_five (is_by_range w.s1) (is_by_range w.s2) (is_by_range w.s3) (is_by_range w.s4) (is_by_range w.s5)

  last-added : (n : ℕ) (t u : Worked A) (more : List (Worked A)) → last o scale (added o scale n u more) ≡ last o scale (t ∷ added o scale n u more)
  last-added n t u [] = refl
  last-added n t u (w ∷ more) = refl

  -- one surface more
  lines-more : (r : Bool) (w : Sums A) (d : Summed A) (more : List (Summed A)) → lines (r || here w) (plus_sums o k w d.sums) more ≡ lines r w (d ∷ more)
  lines-more r w d more =
      let next = plus_sums o k w d.sums in
      let e1 = last-added (ray_row k 0 0) w.s1 next.s1 (map (λ d. d.sums.s1) more) in
      let e2 = last-added (ray_row k 0 1) w.s2 next.s2 (map (λ d. d.sums.s2) more) in
      let e3 = last-added (ray_row k 0 2) w.s3 next.s3 (map (λ d. d.sums.s3) more) in
      let e4 = last-added (ray_row k 0 3) w.s4 next.s4 (map (λ d. d.sums.s4) more) in
      let e5 = last-added (ray_row k 0 4) w.s5 next.s5 (map (λ d. d.sums.s5) more) in
      let x1 = some_by_range (line 0 (λ v. v.s1) next.s1 more) in
      let x2 = some_by_range (line 1 (λ v. v.s2) next.s2 more) in
      let x3 = some_by_range (line 2 (λ v. v.s3) next.s3 more) in
      let x4 = some_by_range (line 3 (λ v. v.s4) next.s4 more) in
      let x5 = some_by_range (line 4 (λ v. v.s5) next.s5 more) in
      let range : (r || here w) || any_of_five x1 x2 x3 x4 x5
      ≡ r || any_of_five (is_by_range w.s1 || x1) (is_by_range w.s2 || x2) (is_by_range w.s3 || x3) (is_by_range w.s4 || x4) (is_by_range w.s5 || x5) =
      or_assoc r (here w) (any_of_five x1 x2 x3 x4 x5)
      ∙ ap (λ x. r || x) (five_swap (is_by_range w.s1) (is_by_range w.s2) (is_by_range w.s3) (is_by_range w.s4) (is_by_range w.s5) x1 x2 x3 x4 x5) in
      λ i. record { sums = record { s1 = e1 i; s2 = e2 i; s3 = e3 i; s4 = e4 i; s5 = e5 i }; by_range = range i }

  lines-none : (r : Bool) (w : Sums A) → record { sums = w; by_range = r || here w } ≡ lines r w []
  lines-none r w =
      let e1 = sym (or_false (is_by_range w.s1)) in
      let e2 = sym (or_false (is_by_range w.s2)) in
      let e3 = sym (or_false (is_by_range w.s3)) in
      let e4 = sym (or_false (is_by_range w.s4)) in
      let e5 = sym (or_false (is_by_range w.s5)) in
      λ i. record { sums = w; by_range = r || any_of_five (e1 i) (e2 i) (e3 i) (e4 i) (e5 i) }

  with_all-is : (r : Bool) (w : Sums A) (more : List (Summed A)) → with_all o k (record { sums = w; by_range = r || here w }) more ≡ lines r w more
  with_all-is r w [] = lines-none r w
  with_all-is r w (d ∷ more) = with_all-is (r || here w) (plus_sums o k w d.sums) more ∙ lines-more r w d more

  map-short : (pick : Sums A → Worked A) (all : List (Contribution A)) → map (λ d. pick d.sums) (map in_short all) ≡ map (λ d. pick d.sums) all
  map-short pick [] = refl
  map-short pick (d ∷ more) = ap (λ (x : List (Worked A)). pick d.sums ∷ x) (map-short pick more)

  -- the totals of the definition
  abbrev pub whole_rows : List (Contribution A) → Summed A
  whole_rows all =
      let t1 = totals o scale (ray_row k 0 0) (map (λ d. d.sums.s1) all) in
      let t2 = totals o scale (ray_row k 0 1) (map (λ d. d.sums.s2) all) in
      let t3 = totals o scale (ray_row k 0 2) (map (λ d. d.sums.s3) all) in
      let t4 = totals o scale (ray_row k 0 3) (map (λ d. d.sums.s4) all) in
      let t5 = totals o scale (ray_row k 0 4) (map (λ d. d.sums.s5) all) in
      record {
        sums = record { s1 = last o scale t1; s2 = last o scale t2; s3 = last o scale t3; s4 = last o scale t4; s5 = last o scale t5 };
        by_range = any_of_five (some_by_range t1) (some_by_range t2) (some_by_range t3) (some_by_range t4) (some_by_range t5);
      }

  lines-are : (d : Contribution A) (more : List (Contribution A)) → lines false d.sums (map in_short more) ≡ whole_rows (d ∷ more)
  lines-are d more =
      rw (map-short (λ v. v.s1) more, map-short (λ v. v.s2) more, map-short (λ v. v.s3) more, map-short (λ v. v.s4) more, map-short (λ v. v.s5) more) refl

  pub whole-is : (all : List (Contribution A)) → whole_of o k (map in_short all) ≡ whole_rows all
  whole-is [] = refl
  whole-is (d ∷ more) = with_all-is false d.sums (map in_short more) ∙ lines-are d more

pub attempt-is : {A : Type 0} (o : Operations A) (scale : ℕ) (s : Setup) (e : ℤ) (y u yb ub : Decimal)
    → short_attempt o scale s e (ray_rows o scale s e 0 y u) (ray_rows o scale s e 1 yb ub) ≡ sums_attempt o scale s e y u yb ub
unfolding sums_attempt
attempt-is o scale s e y u yb ub =
    let ms = ray_rows o scale s e 0 y u in
    let bs = ray_rows o scale s e 1 yb ub in
    let all = contributions o scale s e 0 ms bs in
    let k = image s in
    rw (whole-is o scale k all, some_summed all, fives_are o scale k all) (
    let range = range-parts (rows_of ms) (rows_of bs) (flat_map (λ d. d.rows) all)
    (totals o scale (ray_row k 0 0) (map (λ d. d.sums.s1) all)) (totals o scale (ray_row k 0 1) (map (λ d. d.sums.s2) all))
    (totals o scale (ray_row k 0 2) (map (λ d. d.sums.s3) all)) (totals o scale (ray_row k 0 3) (map (λ d. d.sums.s4) all))
    (totals o scale (ray_row k 0 4) (map (λ d. d.sums.s5) all)) in
    λ i. record { out = (sums_attempt o scale s e y u yb ub).out; by_range = sym range i })
