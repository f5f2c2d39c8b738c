use Rattle.std.proofs.Common.{◌≡◌, ◌+◌, ◌*◌, ◌<◌, ◌++◌, ◌∷◌, [], ℕ, List, length, get_or, take, ap, sym, ◌∙◌, arith, rules}
use Rattle.std.proofs.lemmas.List.{take_more, take_all}
use Rattle.lensmodel.specs.Files.TextLines.{pairs}
use Rattle.lenstext.proofs.Units.{length-pairs, get_or-pairs}
use Rattle.lenstext.proofs.unit.join_pairs.Goals as goal

pub loop-at-preserved : goal.loop-at-preserved
loop-at-preserved c =
    let bytes = c.args.bytes.now in
    let at = c.loop-at.at in
    let inside : at < length (pairs bytes) = omega (arith, length-pairs bytes) in
    let low : c.from.result ≡ get_or bytes (2 * at) 0 = search rules in
    let high : c.from-in-loop-at.result ≡ get_or bytes (2 * at + 1) 0 = search rules in
    let unit : c.from.result + 256 * c.from-in-loop-at.result ≡ get_or (pairs bytes) at 0 = omega (arith, low, high, get_or-pairs bytes at inside) in
    record {
      read =
          c.push_reserved.ensures.items
          ∙ ap (λ (us : List ℕ). us ++ (c.from.result + 256 * c.from-in-loop-at.result) ∷ []) c.loop-at.invariant.read
          ∙ ap (λ (u : ℕ). take at (pairs bytes) ++ u ∷ []) unit
          ∙ sym (take_more (pairs bytes) at 0 inside);
      count = search rules;
      room = search rules;
    }

pub returns : goal.returns
returns c =
    let bytes = c.args.bytes.now in
    c.loop-at.invariant.read ∙ take_all c.loop-at.at (pairs bytes) (omega (arith, length-pairs bytes))
