use Rattle.std.proofs.Common.{◌≡◌, ◌+◌, length, take, refl, ap, ◌∙◌, arith}
use Rattle.std.proofs.lemmas.Option.{slice_get_read}
use Rattle.std.proofs.lemmas.Result.{err_from_is_err_and}
use Rattle.lensmodel.specs.Call.First.{FirstHolds, firsts}
use Rattle.lensrun.proofs.Paraxials.{first-scale, first-holds, trail-printed, firsts_of, firsts-next, firsts-few, no-firsts, one-first, trail_text, trails-are}
use Rattle.lensrun.proofs.Picks.{before-next, hold_next, hold_skip, hold_end, pick_front, pick_next, skip, picks_end}
use Rattle.lensrun.proofs.first.gather_trails.Goals as goal
use Rattle.lensrun.proofs.first.gather_trails.Goals.{in-First+in_ok-gather_trail, in_default}

pub gather_trail-requires-clause-low : goal.gather_trail-requires-clause-low
gather_trail-requires-clause-low g c = (first-scale c.args.s.now c.in-First.y c.in-First.u c.first_order.result c.first_order.ensures.exact).low

pub gather_trail-requires-clause-high : goal.gather_trail-requires-clause-high
gather_trail-requires-clause-high g c = (first-scale c.args.s.now c.in-First.y c.in-First.u c.first_order.result c.first_order.ensures.exact).high

pub returns-in_err-gather_trail-clause-front : goal.returns-in_err-gather_trail-clause-front
returns-in_err-gather_trail-clause-front g c =
    let p = err_from_is_err_and c.from_residual.result c.from_residual.ensures.1 in
    let s = c.args.s.now in
    let asks = c.args.asks.now in
    let k = c.loop-ask.ask-index in
    let at = slice_get_read asks (length asks) k c.ask-item.result refl c.loop-ask-test.true c.ask-item.is in
    rw p.1 (pick_front firsts_of firsts refl firsts-next firsts-few (trail_text s) asks _ (trails-are s 1 (firsts asks)) _ _ _ c.args.piece.now.bytes k
    c.loop-ask.invariant.gathers _ c.ask-item.result (record { y = c.in-First.y; u = c.in-First.u }) at (one-first c.ask-item.result c.in-First.y c.in-First.u c.in-First.is)
    c.loop-ask.i c.loop-ask.invariant.next _ (trail-printed s c.loop-ask.i c.in-First.y c.in-First.u c.first_order.result c.first_order.ensures.exact) c.in_err-gather_trail.ensures.front)

pub loop-ask-preserved : goal.loop-ask-preserved
loop-ask-preserved g c =
    let s = c.args.s.now in
    let asks = c.args.asks.now in
    let k = c.loop-ask.ask-index in
    let a = c.ask-item.result in
    let at = slice_get_read asks (length asks) k a refl c.loop-ask-test.true c.ask-item.is in
    elim c.match-ask.branch [
      | in-First+in_ok-gather_trail w ↦
          let is = one-first a w.in-First.y w.in-First.u w.in-First.is in
          let count = before-next firsts_of firsts refl firsts-next firsts-few asks k a at ∙ ap (λ l. length (firsts (take k asks)) + length l) is in
          rw (w.piece-is, w.out-is, w.i-is) (record {
            gathers = pick_next firsts_of firsts refl firsts-next firsts-few (trail_text s) asks _ (trails-are s 1 (firsts asks)) _ _ _ c.args.piece.now.bytes k
                c.loop-ask.invariant.gathers _ a (record { y = w.in-First.y; u = w.in-First.u }) at is c.loop-ask.i c.loop-ask.invariant.next _
                (trail-printed s c.loop-ask.i w.in-First.y w.in-First.u w.first_order.result w.first_order.ensures.exact) _ w.in_ok-gather_trail.ensures.ok;
            calm = w.in_ok-gather_trail.ensures.taken ∙ c.loop-ask.invariant.calm;
            few = omega (arith, c.loop-ask.invariant.few);
            next = omega (arith, c.loop-ask.invariant.next, count);
            holds = hold_next firsts_of firsts refl firsts-next firsts-few (FirstHolds s) asks k a (record { y = w.in-First.y; u = w.in-First.u }) at is
                (first-holds s w.in-First.y w.in-First.u w.first_order.result w.first_order.ensures.exact w.first_order.ensures.encloses) c.loop-ask.invariant.holds;
          })
      | in_default w ↦
          let none = no-firsts a w.in_default.not-First in
          let count = before-next firsts_of firsts refl firsts-next firsts-few asks k a at ∙ ap (λ l. length (firsts (take k asks)) + length l) none in
          rw (w.piece-is, w.out-is, w.i-is) (record {
            gathers = skip firsts_of firsts refl firsts-next firsts-few (trail_text s) asks _ (trails-are s 1 (firsts asks)) _ _ _ c.args.piece.now.bytes k c.loop-ask.invariant.gathers a at none;
            calm = c.loop-ask.invariant.calm;
            few = omega (arith, c.loop-ask.invariant.few);
            next = omega (arith, c.loop-ask.invariant.next, count);
            holds = hold_skip firsts_of firsts refl firsts-next firsts-few (FirstHolds s) asks k a at none c.loop-ask.invariant.holds;
          })
    ]

pub returns-clause-ok : goal.returns-clause-ok
returns-clause-ok g c =
    let s = c.args.s.now in
    let asks = c.args.asks.now in
    let end : length asks ≡ c.loop-ask.ask-index = omega (arith, c.loop-ask-test.false, c.loop-ask.auto.ask-index-end) in
    picks_end firsts_of firsts refl firsts-next firsts-few (trail_text s) asks _ (trails-are s 1 (firsts asks)) _ _ _ c.args.piece.now.bytes c.loop-ask.ask-index
    c.loop-ask.invariant.gathers end

pub returns-clause-holds : goal.returns-clause-holds
returns-clause-holds g c =
    let asks = c.args.asks.now in
    let end : length asks ≡ c.loop-ask.ask-index = omega (arith, c.loop-ask-test.false, c.loop-ask.auto.ask-index-end) in
    hold_end firsts_of firsts refl firsts-next firsts-few (FirstHolds c.args.s.now) asks c.loop-ask.ask-index end c.loop-ask.invariant.holds
