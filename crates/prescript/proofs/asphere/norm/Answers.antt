use Rattle.std.proofs.Common.{◌∙◌, sym}
use Rattle.std.proofs.lemmas.Int.{to_z-of_z}
use Rattle.std.specs.Int.{w32}
use Rattle.prescript.proofs.Zones.{norm_by_zone}
use Rattle.prescript.proofs.asphere.norm.Goals as goal

pub returns-clause-value : goal.returns-clause-value
returns-clause-value c =
    let f = c.args.s.now in
    rw (to_z-of_z w32 c.norm_of.result (record { sfits = c.norm_of.type_inv }))
    (c.norm_of.ensures.value ∙ norm_by_zone f.kind f.semi c.unwrap.result c.requires.asphere (sym c.zone.ensures.value ∙ c.unwrap.ensures))
