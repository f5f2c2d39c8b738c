use Rattle.std.proofs.Common.{◌≡◌, ℕ, List, Contains, refl, ap, subst, ◌∙◌}
use Rattle.lensio.specs.MemoryState.{MemBytes, next_call}
use Rattle.lensio.proofs.memory.MemSinkSink.write.Goals as goal

-- equal numbers stand in equal lists
listed : (xs ys : List ℕ) (m n : ℕ) → xs ≡ ys → m ≡ n → Contains xs m → Contains ys n
listed xs ys m n p q h = subst (Contains ys) q (subst (λ zs. Contains zs m) p h)

pub returns-then-is_listed-clause-fails : goal.returns-then-is_listed-clause-fails
returns-then-is_listed-clause-fails c = (
  λ _. listed _ _ _ _
      (c.deref.ensures.value ∙ ap (λ (s : MemBytes). s.fails) c.self.view_is)
      (c.saturating_add-self-inside.ensures ∙ ap (λ (s : MemBytes). next_call s.calls) c.self.view_is)
      (c.if-is_listed.ensures.0 refl),
  λ _. refl,
)

pub returns-then-is_listed-2-clause-idle : goal.returns-then-is_listed-2-clause-idle
returns-then-is_listed-2-clause-idle c = (
  λ _. listed _ _ _ _
      (c.deref-2.ensures.value ∙ ap (λ (s : MemBytes). s.idle) c.self.view_is)
      (c.saturating_add-self-inside.ensures ∙ ap (λ (s : MemBytes). next_call s.calls) c.self.view_is)
      (c.if-is_listed-2.ensures.0 refl),
  λ _. refl,
)
