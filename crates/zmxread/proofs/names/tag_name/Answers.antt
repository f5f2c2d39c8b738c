use Rattle.std.proofs.Common.{◌≡◌, take, length, min, ap, ◌∙◌, arith}
use Rattle.std.proofs.lemmas.List.{take_min}
use Rattle.zmxread.proofs.names.tag_name.Goals as goal

pub returns : goal.returns
returns c =
    let tag = c.args.tag.now in
    let e : c.min.result ≡ min 40 (length tag) = omega arith in
    c.name_of.ensures ∙ ap (λ n. take n tag) e ∙ take_min 40 tag
