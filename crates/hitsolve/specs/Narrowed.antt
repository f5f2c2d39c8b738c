-- The slope rounds that are left for a window, and when they end early.
use Rattle.std.proofs.Common.{◌≡◌, ℕ, zero, suc, ◌-◌, ◌<◌, refl, sym, ap, ◌∙◌, arith}
use Rattle.std.specs.Prelude.{ℤ, pos}
use Rattle.fixdec.specs.Ends.{Ends}
use Rattle.fixdec.specs.Operations.{Operations}
use Rattle.fixdec.specs.Steps.{◌>>=◌}
use Rattle.fixdec.specs.declared.step.Step.{Step}
use Rattle.fixdec.specs.declared.step.Step.TheVariants.{Val}
use Rattle.lensmodel.specs.Rows.Constants.{whole_row}
use Rattle.lensmodel.specs.Rows.Crossing.{Line}
use Rattle.lensmodel.specs.Rows.Preparation.{Prepared}
use Rattle.lensmodel.specs.Rows.SlopeRounds.{if_above_zero, next_rows, narrowed, pruned_window, last_window, last_answer, meet_asphere_rows}
use Rattle.hitsolve.specs.Values.{then_then, then_same}

module _ {A : Type 0} (o : Operations A) (scale : ℕ) where
  -- wd(wd(0))/m
  abbrev pub error_row : A → ℤ → Step A
  error_row m e = do
    o.over (← o.widen (← o.widen (← whole_row o scale (pos 0)) e) e) m

  -- 1 - (t*b), above 0
  abbrev pub steepness_row : A → A → Step A
  steepness_row t b = do
    if_above_zero o (← o.minus (← whole_row o scale (pos 1)) (← o.times t b))

  module _ (face : Prepared A) (line : Line A) (e : ℤ) where
    abbrev next : Ends → Step A
    next a = next_rows o scale face line e a

    abbrev after : Ends → Step Ends
    after a = narrowed o scale a (next a)

    -- the answer for a window, with n rounds before the last
    abbrev pub rounds_from : ℕ → Ends → Step A
    rounds_from zero a = last_answer o scale a (next_rows o scale face line e a)
    rounds_from (suc n) a = narrowed o scale a (next_rows o scale face line e a) >>= λ b. rounds_from n b

    -- the window, pruned twice, and three rounds before the last
    abbrev pub rounds_row : Step A
    rounds_row = do
      a ← pruned_window o scale face line e
      rounds_from 3 a

    pub meet_is : meet_asphere_rows o scale face line e ≡ rounds_row
    unfolding meet_asphere_rows last_window
    meet_is =
        let last = λ (a : Ends). last_answer o scale a (next a) in
        then_then (pruned_window o scale face line e) (λ a. after a >>= λ b. after b >>= λ c. after c) last
        ∙ then_same (pruned_window o scale face line e) _ _ (λ a. then_then (after a) (λ b. after b >>= λ c. after c) last
        ∙ then_same (after a) _ _ (λ b. then_then (after b) after last))

    -- a round that leaves the window as it is would do so again
    pub settled : (n : ℕ) (a : Ends) → narrowed o scale a (next_rows o scale face line e a) ≡ Val a → rounds_from n a ≡ last_answer o scale a (next_rows o scale face line e a)
    settled zero a h = refl
    settled (suc n) a h = rw h (settled n a h)

    -- one round, and the rest
    pub rounds_next : (n : ℕ) (a : Ends) → 0 < n → rounds_from n a ≡ (narrowed o scale a (next_rows o scale face line e a) >>= λ b. rounds_from (n - 1) b)
    rounds_next zero a h = absurd (omega arith)
    rounds_next (suc n) a h = let k : suc n - 1 ≡ n = omega arith in rw k refl

    -- a round that leaves the window as it is ends the rounds
    pub stops : (n : ℕ) (a b : Ends) (r : Step A) → r ≡ next_rows o scale face line e a → narrowed o scale a r ≡ Val b → b ≡ a → last_answer o scale a r ≡ rounds_from n a
    stops n a b r is h same =
        ap (λ (r : Step A). last_answer o scale a r) is
        ∙ sym (settled n a (ap (λ (r : Step A). narrowed o scale a r) (sym is) ∙ h ∙ ap (λ (b : Ends). Val b) same))

    pub goes_on : (n : ℕ) (a b : Ends) (r : Step A) → 0 < n → r ≡ next_rows o scale face line e a → narrowed o scale a r ≡ Val b → rounds_from (n - 1) b ≡ rounds_from n a
    goes_on n a b r some is h =
        sym (rounds_next n a some ∙ ap (λ (s : Step Ends). s >>= λ b. rounds_from (n - 1) b) (ap (λ (r : Step A). narrowed o scale a r) (sym is) ∙ h))
