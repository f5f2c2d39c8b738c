-- What some lines of a job ask for, one thing a line: the paraxial rays of its FIRST lines, or the pairs of its SEIDEL lines.
use Rattle.std.proofs.Common.{◌≡◌, ℕ, zero, suc, ◌+◌, ◌≤◌, List, [], ◌∷◌, ◌++◌, length, take, Option, Some, refl, sym, ap, subst, ◌∙◌, append-nil, append_assoc, arith}
use Rattle.std.specs.Prelude.{slice_get}
use Rattle.std.specs.List.{All, concat}
use Rattle.std.proofs.lemmas.List.{length-append, take_all}
use Rattle.std.proofs.lemmas.List.Elements.{All-more}
use Rattle.std.proofs.lemmas.Option.{slice_get_within, get_or_from_slice_get}
use Rattle.lensio.specs.Taken.{TakesFront}
use Rattle.lensmodel.specs.declared.job.Ask.{Ask}
use Rattle.lensrun.specs.Gathered.{Gathers}
use Rattle.lensrun.specs.Numbered.{numbered}
use Rattle.lensrun.proofs.Asks.{take-next}
use Rattle.lensrun.proofs.RayLines.{text_front, text_next, texts_end}

-- what stands behind a list
get-behind : {X : Type 0} (xs ys : List X) (k : ℕ) → slice_get (xs ++ ys) (length xs + k) ≡ slice_get ys k
get-behind [] ys k = let e : 0 + k ≡ k = omega arith in rw e refl
get-behind (x ∷ xs) ys k = let e : length (x ∷ xs) + k ≡ suc (length xs + k) = omega arith in rw e (get-behind xs ys k)

module _ {X : Type 0} (picked : Ask → List X) (picks : List Ask → List X) (none : picks [] ≡ [])
    (next : (a : Ask) (more : List Ask) → picks (a ∷ more) ≡ picked a ++ picks more) (few : (a : Ask) → length (picked a) ≤ 1) where
  -- how many of the first k lines ask for one
  abbrev pub before : ℕ → List Ask → ℕ
  before k asks = length (picks (take k asks))

  picks-append : (xs ys : List Ask) → picks (xs ++ ys) ≡ picks xs ++ picks ys
  picks-append [] ys = ap (λ l. l ++ picks ys) (sym none)
  picks-append (a ∷ more) ys =
      next a (more ++ ys) ∙ ap (λ l. picked a ++ l) (picks-append more ys) ∙ sym (append_assoc (picked a) (picks more) (picks ys))
      ∙ ap (λ l. l ++ picks ys) (sym (next a more))

  pub before-next : (asks : List Ask) (k : ℕ) (a : Ask) → slice_get asks k ≡ Some a → before (k + 1) asks ≡ before k asks + length (picked a)
  before-next asks k a at =
      ap (λ l. length (picks l)) (take-next asks k a at) ∙ ap length (picks-append (take k asks) (a ∷ []))
      ∙ ap (λ l. length (picks (take k asks) ++ l)) (next a [] ∙ ap (λ l. picked a ++ l) none ∙ append-nil (picked a))
      ∙ length-append (picks (take k asks)) (picked a)

  pub before-few : (k : ℕ) (asks : List Ask) → before k asks ≤ k
  before-few zero asks = let e : length (picks []) ≡ 0 = ap length none in omega (arith, e)
  before-few (suc k) [] = let e : length (picks []) ≡ 0 = ap length none in omega (arith, e)
  before-few (suc k) (a ∷ more) =
      let e : before (suc k) (a ∷ more) ≡ length (picked a) + before k more = ap length (next a (take k more)) ∙ length-append (picked a) (picks (take k more)) in
      let one = few a in
      let rest = before-few k more in
      omega (arith, e, one, rest)

  pub before-all : (asks : List Ask) (k : ℕ) → length asks ≡ k → length (picks asks) ≡ before k asks
  before-all asks k e = ap (λ l. length (picks l)) (sym (take_all k asks (omega (arith, e))))

  pub pick-at : (asks : List Ask) (k : ℕ) (a : Ask) (x : X) → slice_get asks k ≡ Some a → picked a ≡ x ∷ [] → slice_get (picks asks) (before k asks) ≡ Some x
  pick-at [] k a x at is = absurd (cc at)
  pick-at (b ∷ more) zero a x at is =
      let same : b ≡ a = cc at in
      let start : length (picks []) ≡ 0 = ap length none in
      let whole : picks (b ∷ more) ≡ x ∷ picks more = next b more ∙ ap (λ c. picked c ++ picks more) same ∙ ap (λ l. l ++ picks more) is in
      rw (start, whole) refl
  pick-at (b ∷ more) (suc k) a x at is =
      let e : before (suc k) (b ∷ more) ≡ length (picked b) + before k more = ap length (next b (take k more)) ∙ length-append (picked b) (picks (take k more)) in
      rw (e, next b more) (get-behind (picked b) (picks more) (before k more) ∙ pick-at more k a x at is)

  -- ---- what holds of them
  module _ (P : X → Type 0) (asks : List Ask) (k : ℕ) where
    pub hold_next : (a : Ask) (x : X) → slice_get asks k ≡ Some a → picked a ≡ x ∷ [] → P x → All P (take (before k asks) (picks asks))
        → All P (take (before (k + 1) asks) (picks asks))
    hold_next a x at is h all =
        let j = before k asks in
        let got = pick-at asks k a x at is in
        let e : before (k + 1) asks ≡ j + 1 = before-next asks k a at ∙ ap (λ l. j + length l) is in
        subst (λ n. All P (take n (picks asks))) (sym e)
        (All-more P (picks asks) j x (slice_get_within (picks asks) j x got) all (subst P (sym (get_or_from_slice_get (picks asks) j x x got)) h))

    pub hold_skip : (a : Ask) → slice_get asks k ≡ Some a → picked a ≡ [] → All P (take (before k asks) (picks asks))
        → All P (take (before (k + 1) asks) (picks asks))
    hold_skip a at is all =
        let e : before (k + 1) asks ≡ before k asks = before-next asks k a at ∙ ap (λ l. before k asks + length l) is ∙ omega arith in
        subst (λ n. All P (take n (picks asks))) (sym e) all

    pub hold_end : length asks ≡ k → All P (take (before k asks) (picks asks)) → All P (picks asks)
    hold_end e all = subst (All P) (take_all (before k asks) (picks asks) (omega (arith, before-all asks k e))) all

  -- ---- their texts, numbered from 1 on
  module _ (text : ℕ → X → List ℕ) (asks : List Ask) (whole : List ℕ) (are : concat (numbered text 1 (picks asks)) ≡ whole)
      (a b : Option (List ℕ)) (p t : List ℕ) (k : ℕ) (g : Gathers a b p (t ++ concat (take (before k asks) (numbered text 1 (picks asks))))) where
    pub skip : (ask : Ask) → slice_get asks k ≡ Some ask → picked ask ≡ [] → Gathers a b p (t ++ concat (take (before (k + 1) asks) (numbered text 1 (picks asks))))
    skip ask at is =
        let e : before (k + 1) asks ≡ before k asks = before-next asks k ask at ∙ ap (λ l. before k asks + length l) is ∙ omega arith in
        subst (λ n. Gathers a b p (t ++ concat (take n (numbered text 1 (picks asks))))) (sym e) g

    pub picks_end : length asks ≡ k → Gathers a b p (t ++ whole)
    picks_end e = texts_end text 1 (picks asks) whole are a b p t (before k asks) (before-all asks k e) g

    module _ (c : Option (List ℕ)) (ask : Ask) (x : X) (at : slice_get asks k ≡ Some ask) (is : picked ask ≡ x ∷ []) (i : ℕ) (number : i ≡ 1 + before k asks)
        (line : List ℕ) (printed : line ≡ text i x) where
      printed-at : line ≡ text (1 + before k asks) x
      printed-at = printed ∙ ap (λ n. text n x) number

      pub pick_front : TakesFront b c (p ++ line) → TakesFront a c (t ++ whole)
      pick_front h = text_front text 1 (picks asks) whole are a b c p [] t line (before k asks) x (pick-at asks k ask x at is) printed-at g h

      pub pick_next : (q : List ℕ) → Gathers b c q (p ++ line) → Gathers a c q (t ++ concat (take (before (k + 1) asks) (numbered text 1 (picks asks))))
      pick_next q h =
          let e : before (k + 1) asks ≡ before k asks + 1 = before-next asks k ask at ∙ ap (λ l. before k asks + length l) is in
          subst (λ n. Gathers a c q (t ++ concat (take n (numbered text 1 (picks asks))))) (sym e)
          (text_next text 1 (picks asks) whole are a b c p q t line (before k asks) x (pick-at asks k ask x at is) printed-at g h)
