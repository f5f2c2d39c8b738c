use Rattle.std.proofs.Common.{◌≡◌, List, [], ◌∷◌, ◌++◌, ap, ◌∙◌}
use Rattle.std.specs.Prelude.{Option}
use Rattle.fixdec.specs.Decimal.{Decimal}
use Rattle.lensmodel.specs.declared.surface.Surface.{Surface}
use Rattle.dispers.proofs.Planes.{planes_sound}
use Rattle.dispers.proofs.join.tests.lens.Goals as goal

pub returns-clause-sound : goal.returns-clause-sound
returns-clause-sound c =
    let first : c.push.new.self.items ≡ c.plane.result ∷ [] = c.push.ensures.items ∙ ap (λ (xs : List Surface). xs ++ c.plane.result ∷ []) c.new-surfaces.ensures in
    let second : c.push-2.new.self.items ≡ c.plane.result ∷ c.plane-2.result ∷ [] = c.push-2.ensures.items ∙ ap (λ (xs : List Surface). xs ++ c.plane-2.result ∷ []) first in
    let third : c.push-3.new.self.items ≡ c.plane.result ∷ c.plane-2.result ∷ c.plane-3.result ∷ [] = c.push-3.ensures.items ∙ ap (λ (xs : List Surface). xs ++ c.plane-3.result ∷ []) second in
    let wave : c.push-4.new.self.items ≡ c.args.wave ∷ [] = c.push-4.ensures.items ∙ ap (λ (xs : List (Option Decimal)). xs ++ c.args.wave ∷ []) c.new-waves.ensures in
    rw (third, wave, c.plane.ensures, c.plane-2.ensures, c.plane-3.ensures) (planes_sound c.plane.result.glass c.plane-2.result.glass c.plane-3.result.glass c.args.mirror c.args.wave c.requires)
