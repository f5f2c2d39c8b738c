use Rattle.std.proofs.Common.{◌≡◌, ◌-◌, refl, sym, ap, ◌∙◌}
use Rattle.std.specs.Prelude.{◌&&◌, not}
use Rattle.lensmodel.specs.Setup.Media.{medium_at, same_medium, has_tolerance}
use Rattle.lensmodel.specs.Setup.Values.{owner, reflects, tolerances}
use Rattle.lensmodel.specs.declared.tolerance.TolKind.TheVariants.{Indx}
use Rattle.prescript.proofs.Between.{goes_on, settles, not_false, not_true, between}
use Rattle.prescript.proofs.media.equal_media.Goals as goal
use Rattle.prescript.proofs.media.equal_media.Goals.{then-not-reflects, else-not-reflects}
use Rattle.prescript.proofs.media.equal_media.Goals.{then-same_medium, else-same_medium}

pub returns-then-not-has_index_tolerance : goal.returns-then-not-has_index_tolerance
returns-then-not-has_index_tolerance c =
    let s = c.args.s.now in
    let j = c.args.j in
    let first : c.if-not-reflects.value ≡ (not (reflects s j) && same_medium (medium_at s (j - 1)) (medium_at s j)) =
    elim c.if-not-reflects.branch [
      | then-not-reflects w ↦ goes_on _ _ _ (not_false _ (sym c.reflects.ensures ∙ w.if-not-reflects.true)) (rw (w.value-is, w.same_medium.ensures, w.medium.ensures, w.medium-then-not-reflects.ensures) refl)
      | else-not-reflects w ↦ settles _ _ _ (not_true _ (sym c.reflects.ensures ∙ w.if-not-reflects.false)) (w.value-is ∙ ap not c.reflects.ensures)
    ] in
    let second : c.if-same_medium.value ≡ (not (reflects s j) && same_medium (medium_at s (j - 1)) (medium_at s j) && not (has_tolerance (tolerances s.toler) Indx (owner s (j - 1)))) =
    elim c.if-same_medium.branch [
      | then-same_medium w ↦ goes_on _ _ _ (sym first ∙ w.if-same_medium.true) (rw (w.value-is, w.has_index_tolerance.ensures, c.tolerances-toler.ensures, w.owner.ensures.value) refl)
      | else-same_medium w ↦ settles _ _ _ (sym first ∙ w.if-same_medium.false) (w.value-is ∙ first)
    ] in
    goes_on _ _ _ (sym second ∙ c.if-not-has_index_tolerance.true) (rw (c.has_index_tolerance-then-not-has_index_tolerance.ensures, c.tolerances-toler.ensures) refl) ∙ sym (between s j c.requires.low)

pub returns-else-not-has_index_tolerance : goal.returns-else-not-has_index_tolerance
returns-else-not-has_index_tolerance c =
    let s = c.args.s.now in
    let j = c.args.j in
    let first : c.if-not-reflects.value ≡ (not (reflects s j) && same_medium (medium_at s (j - 1)) (medium_at s j)) =
    elim c.if-not-reflects.branch [
      | then-not-reflects w ↦ goes_on _ _ _ (not_false _ (sym c.reflects.ensures ∙ w.if-not-reflects.true)) (rw (w.value-is, w.same_medium.ensures, w.medium.ensures, w.medium-then-not-reflects.ensures) refl)
      | else-not-reflects w ↦ settles _ _ _ (not_true _ (sym c.reflects.ensures ∙ w.if-not-reflects.false)) (w.value-is ∙ ap not c.reflects.ensures)
    ] in
    let second : c.if-same_medium.value ≡ (not (reflects s j) && same_medium (medium_at s (j - 1)) (medium_at s j) && not (has_tolerance (tolerances s.toler) Indx (owner s (j - 1)))) =
    elim c.if-same_medium.branch [
      | then-same_medium w ↦ goes_on _ _ _ (sym first ∙ w.if-same_medium.true) (rw (w.value-is, w.has_index_tolerance.ensures, c.tolerances-toler.ensures, w.owner.ensures.value) refl)
      | else-same_medium w ↦ settles _ _ _ (sym first ∙ w.if-same_medium.false) (w.value-is ∙ first)
    ] in
    settles _ _ _ (sym second ∙ c.if-not-has_index_tolerance.false) second ∙ sym (between s j c.requires.low)
