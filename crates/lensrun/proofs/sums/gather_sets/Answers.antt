use Rattle.std.proofs.Common.{◌≡◌, ◌+◌, length, take, refl, ap, ◌∙◌, arith}
use Rattle.std.proofs.lemmas.Option.{slice_get_read}
use Rattle.std.proofs.lemmas.Result.{err_from_is_err_and}
use Rattle.lensmodel.specs.Call.Seidel.{SumsHold, pairs}
use Rattle.lensrun.proofs.Paraxials.{sums-scale, sums-hold, set-printed, pairs_of, pairs-next, pairs-few, no-pairs, one-pair, set_text, sets-are}
use Rattle.lensrun.proofs.Picks.{before-next, hold_next, hold_skip, hold_end, pick_front, pick_next, skip, picks_end}
use Rattle.lensrun.proofs.sums.gather_sets.Goals as goal
use Rattle.lensrun.proofs.sums.gather_sets.Goals.{in-Seidel+in_ok-gather_set, in_default}

pub gather_set-requires-clause-low : goal.gather_set-requires-clause-low
gather_set-requires-clause-low g c = (sums-scale c.args.s.now c.in-Seidel.y c.in-Seidel.u c.in-Seidel.yb c.in-Seidel.ub c.sums.result c.sums.ensures.exact).low

pub gather_set-requires-clause-high : goal.gather_set-requires-clause-high
gather_set-requires-clause-high g c = (sums-scale c.args.s.now c.in-Seidel.y c.in-Seidel.u c.in-Seidel.yb c.in-Seidel.ub c.sums.result c.sums.ensures.exact).high

pub returns-in_err-gather_set-clause-front : goal.returns-in_err-gather_set-clause-front
returns-in_err-gather_set-clause-front g c =
    let p = err_from_is_err_and c.from_residual.result c.from_residual.ensures.1 in
    let s = c.args.s.now in
    let asks = c.args.asks.now in
    let k = c.loop-ask.ask-index in
    let at = slice_get_read asks (length asks) k c.ask-item.result refl c.loop-ask-test.true c.ask-item.is in
    rw p.1 (pick_front pairs_of pairs refl pairs-next pairs-few (set_text s) asks _ (sets-are s 1 (pairs asks)) _ _ _ c.args.piece.now.bytes k
    c.loop-ask.invariant.gathers _ c.ask-item.result (record { y = c.in-Seidel.y; u = c.in-Seidel.u; yb = c.in-Seidel.yb; ub = c.in-Seidel.ub }) at (one-pair c.ask-item.result c.in-Seidel.y c.in-Seidel.u c.in-Seidel.yb c.in-Seidel.ub c.in-Seidel.is)
    c.loop-ask.i c.loop-ask.invariant.next _ (set-printed s c.loop-ask.i c.in-Seidel.y c.in-Seidel.u c.in-Seidel.yb c.in-Seidel.ub c.sums.result c.sums.ensures.exact) c.in_err-gather_set.ensures.front)

pub loop-ask-preserved : goal.loop-ask-preserved
loop-ask-preserved g c =
    let s = c.args.s.now in
    let asks = c.args.asks.now in
    let k = c.loop-ask.ask-index in
    let a = c.ask-item.result in
    let at = slice_get_read asks (length asks) k a refl c.loop-ask-test.true c.ask-item.is in
    elim c.match-ask.branch [
      | in-Seidel+in_ok-gather_set w ↦
          let is = one-pair a w.in-Seidel.y w.in-Seidel.u w.in-Seidel.yb w.in-Seidel.ub w.in-Seidel.is in
          let count = before-next pairs_of pairs refl pairs-next pairs-few asks k a at ∙ ap (λ l. length (pairs (take k asks)) + length l) is in
          rw (w.piece-is, w.out-is, w.i-is) (record {
            gathers = pick_next pairs_of pairs refl pairs-next pairs-few (set_text s) asks _ (sets-are s 1 (pairs asks)) _ _ _ c.args.piece.now.bytes k
                c.loop-ask.invariant.gathers _ a (record { y = w.in-Seidel.y; u = w.in-Seidel.u; yb = w.in-Seidel.yb; ub = w.in-Seidel.ub }) at is c.loop-ask.i c.loop-ask.invariant.next _
                (set-printed s c.loop-ask.i w.in-Seidel.y w.in-Seidel.u w.in-Seidel.yb w.in-Seidel.ub w.sums.result w.sums.ensures.exact) _ w.in_ok-gather_set.ensures.ok;
            calm = w.in_ok-gather_set.ensures.taken ∙ c.loop-ask.invariant.calm;
            few = omega (arith, c.loop-ask.invariant.few);
            next = omega (arith, c.loop-ask.invariant.next, count);
            holds = hold_next pairs_of pairs refl pairs-next pairs-few (SumsHold s) asks k a (record { y = w.in-Seidel.y; u = w.in-Seidel.u; yb = w.in-Seidel.yb; ub = w.in-Seidel.ub }) at is
                (sums-hold s w.in-Seidel.y w.in-Seidel.u w.in-Seidel.yb w.in-Seidel.ub w.sums.result w.sums.ensures.exact w.sums.ensures.encloses) c.loop-ask.invariant.holds;
          })
      | in_default w ↦
          let none = no-pairs a w.in_default.not-Seidel in
          let count = before-next pairs_of pairs refl pairs-next pairs-few asks k a at ∙ ap (λ l. length (pairs (take k asks)) + length l) none in
          rw (w.piece-is, w.out-is, w.i-is) (record {
            gathers = skip pairs_of pairs refl pairs-next pairs-few (set_text s) asks _ (sets-are s 1 (pairs asks)) _ _ _ c.args.piece.now.bytes k c.loop-ask.invariant.gathers a at none;
            calm = c.loop-ask.invariant.calm;
            few = omega (arith, c.loop-ask.invariant.few);
            next = omega (arith, c.loop-ask.invariant.next, count);
            holds = hold_skip pairs_of pairs refl pairs-next pairs-few (SumsHold s) asks k a at none c.loop-ask.invariant.holds;
          })
    ]

pub returns-clause-ok : goal.returns-clause-ok
returns-clause-ok g c =
    let s = c.args.s.now in
    let asks = c.args.asks.now in
    let end : length asks ≡ c.loop-ask.ask-index = omega (arith, c.loop-ask-test.false, c.loop-ask.auto.ask-index-end) in
    picks_end pairs_of pairs refl pairs-next pairs-few (set_text s) asks _ (sets-are s 1 (pairs asks)) _ _ _ c.args.piece.now.bytes c.loop-ask.ask-index
    c.loop-ask.invariant.gathers end

pub returns-clause-holds : goal.returns-clause-holds
returns-clause-holds g c =
    let asks = c.args.asks.now in
    let end : length asks ≡ c.loop-ask.ask-index = omega (arith, c.loop-ask-test.false, c.loop-ask.auto.ask-index-end) in
    hold_end pairs_of pairs refl pairs-next pairs-few (SumsHold c.args.s.now) asks c.loop-ask.ask-index end c.loop-ask.invariant.holds
