use Rattle.std.proofs.Common.{◌≡◌, ◌∙◌, ap, ◌+◌, rules}
use Rattle.std.specs.Option.{unwrap_or}
use Rattle.indexmap.specs.Entry.{map_with_value}
use Rattle.indexmap.specs.IndexMap.{insert_entry}
use Rattle.zmxread.specs.Tags.{pairs_of, with_one_more}
use Rattle.zmxread.proofs.Counts.{insert-more, lines_of, same_name, pairs-along}
use Rattle.zmxread.proofs.tags.count_line.Goals as goal

pub returns : goal.returns
returns c =
    let es = c.args.counts.now.entries in
    let more : c.in-Some.more ≡ lines_of c.args.tag es + 1 =
    c.in-Some.ensures.1 ∙ ap (λ n. n + 1) (c.or_insert-lines.ensures.value ∙ ap (λ o. unwrap_or o 0) c.in-Ok.ensures.value) in
    let written : pairs_of (map_with_value c.in-Ok.entry c.in-Some.more).entries ≡ with_one_more c.args.tag.items (pairs_of es) =
    ap pairs_of (c.in-Ok.ensures.update.1 c.in-Some.more ∙ ap (insert_entry same_name es c.args.tag) more) ∙ insert-more c.args.tag es in
    search (rules, pairs-along (map_with_value c.in-Ok.entry c.in-Some.more) (with_one_more c.args.tag.items (pairs_of es)) written)
