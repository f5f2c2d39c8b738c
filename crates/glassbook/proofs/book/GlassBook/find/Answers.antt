use Rattle.std.proofs.Common.{◌∙◌, ap}
use Rattle.std.specs.Map.{lookup}
use Rattle.lensmodel.specs.Files.Catalogue.{find_glass}
use Rattle.glassbook.specs.Keys.{same_key, lookup-keyed}
use Rattle.glassbook.proofs.book.GlassBook.find.Goals as goal

pub returns : goal.returns
returns c =
    c.get.ensures.value ∙ (λ i. lookup (same_key (record { items = c.upper_name.ensures i })) c.self.inside.glasses.entries)
    ∙ lookup-keyed c.args.name.now.items c.self.inside.glasses.entries c.self.invariant
    ∙ ap (find_glass c.args.name.now.items) c.self.view_is
