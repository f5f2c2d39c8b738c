use Rattle.std.proofs.Common.{◌≡◌, drop, refl}
use Rattle.agfread.proofs.Coefficients.{one_less, of_first}
use Rattle.agfread.proofs.glass.set_coefficients.Goals as goal

pub returns-clause-glass : goal.returns-clause-glass
returns-clause-glass c =
    let line = c.args.line.now in
    let left1 : c.behind_first-words.result ≡ drop 1 line = c.behind_first-words.ensures in
    let left2 : c.coefficient.new.words ≡ drop 2 line = one_less 1 line _ _ left1 c.coefficient.ensures.left in
    let left3 : c.coefficient-2.new.words ≡ drop 3 line = one_less 2 line _ _ left2 c.coefficient-2.ensures.left in
    let left4 : c.coefficient-3.new.words ≡ drop 4 line = one_less 3 line _ _ left3 c.coefficient-3.ensures.left in
    let left5 : c.coefficient-4.new.words ≡ drop 5 line = one_less 4 line _ _ left4 c.coefficient-4.ensures.left in
    let left6 : c.coefficient-5.new.words ≡ drop 6 line = one_less 5 line _ _ left5 c.coefficient-5.ensures.left in
    rw (
      of_first 1 line _ c.in_ok-c0.c0 left1 c.in_ok-c0.ensures.value,
      of_first 2 line _ c.in_ok-c1.c1 left2 c.in_ok-c1.ensures.value,
      of_first 3 line _ c.in_ok-c2.c2 left3 c.in_ok-c2.ensures.value,
      of_first 4 line _ c.in_ok-c3.c3 left4 c.in_ok-c3.ensures.value,
      of_first 5 line _ c.in_ok-c4.c4 left5 c.in_ok-c4.ensures.value,
      of_first 6 line _ c.in_ok-c5.c5 left6 c.in_ok-c5.ensures.value,
    ) refl
