use Rattle.std.proofs.Common.{◌∙◌, ◌+◌, ◌++◌, ◌∷◌, [], ap, arith, length}
use Rattle.std.specs.Fmt.{decimal}
use Rattle.arrayvec.specs.ArrayString.{ArrayString}
use Rattle.exactdec.proofs.Texts.{length-step, more_digits, one_digit, room_behind}
use Rattle.exactdec.proofs.print.+push_number.Goals as goal
use Rattle.exactdec.proofs.print.+push_number.Goals.{then-n-ge10, else-n-ge10}

pub push_number-requires : goal.push_number-requires
push_number-requires t c =
    let e = length-step c.args.n c.if-n-ge10.true c.ranges.n.fits in
    let same = ap (λ n. length (decimal n)) c.tenth.ensures in
    (omega arith, omega (arith, same))

pub push_digit-requires-clause-room : goal.push_digit-requires-clause-room
push_digit-requires-clause-room t c =
    room_behind c.args.n _ _
    (elim c.if-n-ge10.branch [
      | then-n-ge10 w ↦ more_digits c.args.n c.args.out.now.bytes _ w.if-n-ge10.true c.ranges.n.fits
          (ap (λ (s : ArrayString). s.bytes) w.out-is ∙ w.push_number.ensures ∙ ap (λ n. c.args.out.now.bytes ++ decimal n) w.tenth.ensures)
      | else-n-ge10 w ↦ one_digit c.args.n c.args.out.now.bytes _ w.if-n-ge10.false (ap (λ (s : ArrayString). s.bytes) w.out-is)
    ])
    c.requires

pub returns : goal.returns
returns t c =
    c.push_digit.ensures ∙ ap (λ d. c.if-n-ge10.out.bytes ++ (48 + d) ∷ []) c.last_digit.ensures
    ∙ elim c.if-n-ge10.branch [
      | then-n-ge10 w ↦ more_digits c.args.n _ _ w.if-n-ge10.true c.ranges.n.fits
          (ap (λ (s : ArrayString). s.bytes) w.out-is ∙ w.push_number.ensures ∙ ap (λ n. c.args.out.now.bytes ++ decimal n) w.tenth.ensures)
      | else-n-ge10 w ↦ one_digit c.args.n _ _ w.if-n-ge10.false (ap (λ (s : ArrayString). s.bytes) w.out-is)
    ]
