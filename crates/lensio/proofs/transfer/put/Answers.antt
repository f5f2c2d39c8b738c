use Rattle.std.proofs.Common.{◌≡◌, ◌+◌, ◌-◌, ℕ, List, length, take, drop, ap, subst, ◌∙◌, arith, rules}
use Rattle.std.proofs.lemmas.Result.{err_from_is_err_and}
use Rattle.std.proofs.lemmas.List.{drop-drop, take_all, length-drop}
use Rattle.lensio.specs.Taken.{Takes, TakesFront}
use Rattle.lensio.specs.TakenLaws.{TakesFront-rest, Takes-trans, take-plus}
use Rattle.lensio.proofs.transfer.put.Goals as goal

pub returns-in_err-taken-clause-front : goal.returns-in_err-taken-clause-front
returns-in_err-taken-clause-front g c =
    let so_far = c.loop-rest.invariant.front in
    let p = err_from_is_err_and c.from_residual.result c.from_residual.ensures.1 in
    let failed : TakesFront (g.K.Sink.taken c.loop-rest.out) (g.K.Sink.taken c.write.new.self) c.loop-rest.rest.now = c.in_err-taken.ensures.some_front in
    rw p.1 (TakesFront-rest _ _ _ so_far.0 _ so_far.2 (subst (TakesFront _ _) so_far.1 failed))

-- what is left of the rest behind a front
rest_behind : (n k : ℕ) (rest text : List ℕ) → rest ≡ drop n text → take (length rest - k) (drop k rest) ≡ drop (n + k) text
rest_behind n k rest text e =
    take_all (length rest - k) (drop k rest) (omega (arith, length-drop k rest)) ∙ ap (drop k) e ∙ drop-drop k n text

pub loop-rest-preserved : goal.loop-rest-preserved
loop-rest-preserved g c =
    let so_far = c.loop-rest.invariant.front in
    let count = c.in_ok-taken.taken in
    let front : Takes (g.K.Sink.taken c.loop-rest.out) (g.K.Sink.taken c.write.new.self) (take count c.loop-rest.rest.now) = c.in_ok-taken.ensures.front in
    record {
      front = (
        so_far.0 + count,
        rest_behind so_far.0 count c.loop-rest.rest.now c.args.text.now so_far.1,
        subst (Takes _ _) (take-plus so_far.0 count c.args.text.now)
            (Takes-trans _ _ _ _ _ so_far.2 (subst (λ r. Takes (g.K.Sink.taken c.loop-rest.out) (g.K.Sink.taken c.write.new.self) (take count r)) so_far.1 front)),
      );
      calm = search rules;
    }
