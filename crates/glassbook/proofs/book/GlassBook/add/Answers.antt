use Rattle.std.proofs.Common.{◌≡◌, ◌∙◌, ap, sym, true, false, subst, true≢false}
use Rattle.std.specs.Prelude.{Option, Some, None, IsTrue, is_some, refl}
use Rattle.std.specs.Map.{lookup}
use Rattle.lensmodel.specs.Files.Catalogue.{find_glass}
use Rattle.glassbook.specs.Keys.{same_key, lookup-keyed, IsKeyed, IsKeyed-append}
use Rattle.glassbook.proofs.book.GlassBook.add.Goals as goal

not_none : {A : Type 0} (o : Option A) → is_some o ≡ true → o ≡ None → IsTrue false
not_none (Some a) h e = absurd (true≢false (ap is_some e))
not_none None h e = absurd (true≢false (sym h))

is_none : {A : Type 0} (o : Option A) → is_some o ≡ false → o ≡ None
is_none (Some a) h = absurd (true≢false h)
is_none None h = refl

pub returns-then-contains_key-clause-held : goal.returns-then-contains_key-clause-held
returns-then-contains_key-clause-held c =
    let looked = (λ i. lookup (same_key (record { items = c.upper_name-key.ensures i })) c.self.inside.glasses.entries)
    ∙ lookup-keyed c.args.glass.name.items c.self.inside.glasses.entries c.self.invariant
    ∙ ap (find_glass c.args.glass.name.items) c.self.view_is in
    (λ h. absurd (true≢false (sym h)), not_none _ (sym (ap is_some looked) ∙ sym c.contains_key.ensures ∙ c.if-contains_key.true))

pub invariant_of-self-2 : goal.invariant_of-self-2
invariant_of-self-2 c =
    subst IsKeyed (sym c.in_ok-append.ensures.ok)
    (IsKeyed-append c.self.inside.glasses.entries _ c.args.glass c.self.invariant (λ i. record { items = c.upper_name-key.ensures i }))

pub returns-clause-held : goal.returns-clause-held
returns-clause-held c =
    let looked = (λ i. lookup (same_key (record { items = c.upper_name-key.ensures i })) c.self.inside.glasses.entries)
    ∙ lookup-keyed c.args.glass.name.items c.self.inside.glasses.entries c.self.invariant
    ∙ ap (find_glass c.args.glass.name.items) c.self.view_is in
    (λ _. is_none _ (sym (ap is_some looked) ∙ sym c.contains_key.ensures ∙ c.if-contains_key.false), λ _. refl)
