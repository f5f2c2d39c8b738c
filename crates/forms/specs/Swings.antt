-- Swings of lists: of two lists combined and of a list mapped, and how far a swing may lie from 0.
use Rattle.std.proofs.Common.{◌≡◌, ℕ, zero, suc, ◌+◌, [], ◌∷◌, List, ap, arith}
use Rattle.std.specs.Prelude.{ℤ, pos, ◌+ℤ◌, map, replicate, unsigned_abs}
use Rattle.std.proofs.lemmas.List.Sums.{sum_by-cons}
use Rattle.fixdec.specs.Form.{added_at, coefficientwise, sizes}
use Rattle.fixdec.specs.FormMember.{swing}
use Rattle.fixdec.specs.Frac.{Frac, ◌≈◌, ◌+Q◌, ◌*Q◌, neg_Q, whole}
use Rattle.fixdec.specs.Algebra.FracLaws.{≈_refl, ≈_trans}
use Rattle.fixdec.specs.Algebra.Linear.{by_ring, linear, name, no_fact, reads}
use Rattle.fixdec.specs.Member.{Symbols}
use Rattle.fixdec.specs.Algebra.OrderLaws.{whole_add, whole_same}
use Rattle.fixdec.specs.Algebra.Within.{HasSize, within_add, within_mul, within_to, within_whole}

-- the sizes of one more coefficient
pub sizes_more : (k : ℤ) (ks : List ℤ) → whole (pos (sizes (k ∷ ks))) ≈ whole (pos (unsigned_abs k)) +Q whole (pos (sizes ks))
sizes_more k ks = ≈_trans (whole_same (ap pos (sum_by-cons unsigned_abs k ks))) (whole_add (pos (unsigned_abs k)) (pos (sizes ks)))

-- a symbol is within 1
pub symbol-within : (s : Symbols) (i : ℕ) → HasSize (whole (pos 1)) (s.at i)
unfolding whole neg_Q
symbol-within s i = record { above = s.high i; below = s.low i }

module _ (s : Symbols) where
  -- a swing is within the sum of the sizes
  pub swing-within : (ks : List ℤ) (i : ℕ) → HasSize (whole (pos (sizes ks))) (swing ks s i)
  swing-within [] i = within_whole (pos 0)
  swing-within (k ∷ ks) i =
      within_to
      (linear (whole (pos (unsigned_abs k)) ∷ whole (pos (sizes ks)) ∷ whole (pos (sizes (k ∷ ks))) ∷ []) _ _ (search reads depth 12)
      (name (sizes_more k ks) (search reads depth 12) no_fact) tt)
      (within_add (within_mul (within_whole k) (symbol-within s i)) (swing-within ks (suc i)))

  -- a list whose coefficients are each p times a coefficient
  pub swing-map : (f : ℤ → ℤ) (p : Frac) → ((x : ℤ) → whole (f x) ≈ p *Q whole x) → (ks : List ℤ) (i : ℕ) → swing (map f ks) s i ≈ p *Q swing ks s i
  swing-map f p h [] i = by_ring (p ∷ []) _ _ (search reads depth 12) tt
  swing-map f p h (k ∷ ks) i =
      linear (p ∷ s.at i ∷ whole k ∷ whole (f k) ∷ swing ks s (suc i) ∷ swing (map f ks) s (suc i) ∷ []) _ _ (search reads depth 12)
      (name (h k) (search reads depth 12) (name (swing-map f p h ks (suc i)) (search reads depth 12) no_fact)) tt

  -- two lists whose coefficients are combined as p times the first and q times the second
  pub swing-combined : (f : ℤ → ℤ → ℤ) (p q : Frac) → ((x y : ℤ) → whole (f x y) ≈ p *Q whole x +Q q *Q whole y)
      → (ks ls : List ℤ) (i : ℕ) → swing (coefficientwise f ks ls) s i ≈ p *Q swing ks s i +Q q *Q swing ls s i
  swing-combined f p q h [] ls i =
      linear (p ∷ q ∷ swing ls s i ∷ swing (map (f (pos 0)) ls) s i ∷ []) _ _ (search reads depth 12)
      (name (swing-map (f (pos 0)) q (λ y. linear (p ∷ q ∷ whole y ∷ whole (f (pos 0) y) ∷ []) _ _ (search reads depth 12)
      (name (h (pos 0) y) (search reads depth 12) no_fact) tt) ls i) (search reads depth 12) no_fact) tt
  swing-combined f p q h (k ∷ ks) [] i =
      linear (p ∷ q ∷ swing (k ∷ ks) s i ∷ swing (coefficientwise f (k ∷ ks) []) s i ∷ []) _ _ (search reads depth 12)
      (name (swing-map (λ x. f x (pos 0)) p (λ x. linear (p ∷ q ∷ whole x ∷ whole (f x (pos 0)) ∷ []) _ _ (search reads depth 12)
      (name (h x (pos 0)) (search reads depth 12) no_fact) tt) (k ∷ ks) i) (search reads depth 12) no_fact) tt
  swing-combined f p q h (k ∷ ks) (l ∷ ls) i =
      linear (p ∷ q ∷ s.at i ∷ whole k ∷ whole l ∷ whole (f k l) ∷ swing ks s (suc i) ∷ swing ls s (suc i) ∷ swing (coefficientwise f ks ls) s (suc i) ∷ []) _ _ (search reads depth 16)
      (name (h k l) (search reads depth 16) (name (swing-combined f p q h ks ls (suc i)) (search reads depth 16) no_fact)) tt

  -- zeros don't swing
  pub swing-zeros : (n i : ℕ) → swing (replicate n (pos 0)) s i ≈ whole (pos 0)
  swing-zeros zero i = ≈_refl (whole (pos 0))
  swing-zeros (suc n) i =
      linear (s.at i ∷ swing (replicate n (pos 0)) s (suc i) ∷ []) _ _ (search reads depth 12)
      (name (swing-zeros n (suc i)) (search reads depth 12) no_fact) tt

  -- d added to coefficient j, which belongs to symbol k
  pub swing-added_at : (j k : ℕ) (d : ℤ) (ks : List ℤ) (i : ℕ) → j + i ≡ k → swing (added_at j d ks) s i ≈ swing ks s i +Q whole d *Q s.at k
  swing-added_at zero k d [] i e = let at : k ≡ i = omega arith in rw at (by_ring (s.at i ∷ whole d ∷ []) _ _ (search reads depth 12) tt)
  swing-added_at zero k d (l ∷ ls) i e =
      let at : k ≡ i = omega arith in
      rw at
      (linear (s.at i ∷ whole d ∷ whole l ∷ whole (l +ℤ d) ∷ swing ls s (suc i) ∷ []) _ _ (search reads depth 12)
      (name (whole_add l d) (search reads depth 12) no_fact) tt)
  swing-added_at (suc j) k d [] i e =
      linear (s.at i ∷ s.at k ∷ whole d ∷ swing (added_at j d []) s (suc i) ∷ []) _ _ (search reads depth 12)
      (name (swing-added_at j k d [] (suc i) (omega arith)) (search reads depth 12) no_fact) tt
  swing-added_at (suc j) k d (l ∷ ls) i e =
      linear (s.at i ∷ s.at k ∷ whole d ∷ whole l ∷ swing ls s (suc i) ∷ swing (added_at j d ls) s (suc i) ∷ []) _ _ (search reads depth 12)
      (name (swing-added_at j k d ls (suc i) (omega arith)) (search reads depth 12) no_fact) tt
