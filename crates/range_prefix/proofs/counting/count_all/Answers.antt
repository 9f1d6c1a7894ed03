use Rattle.std.proofs.Common.{◌≤◌, ◌*◌, ◌-◌, ◌∙◌, ap, length, max, subst, sym}
use Rattle.range_prefix.specs.Shortest.{shortest_cover}
use Rattle.range_prefix.specs.Spans.{union_of}
use Rattle.range_prefix.proofs.Few.{few_union}
use Rattle.range_prefix.proofs.Halving.{is-shortest}
use Rattle.range_prefix.proofs.Unions.{apart-from}
use Rattle.range_prefix.proofs.counting.count_all.Goals as goal

pub returns-clause-value : goal.returns-clause-value
returns-clause-value c = c.count_below.ensures ∙ ap length c.enclosing-block.ensures.cover

pub returns-clause-shortest : goal.returns-clause-shortest
returns-clause-shortest c =
    let set = union_of c.args.spans.now in
    (shortest_cover c.args.width set, is-shortest c.args.width set c.requires.wide, returns-clause-value c)

pub returns-clause-few : goal.returns-clause-few
returns-clause-few c =
    subst (λ n. n ≤ length c.args.spans.now * max 1 (2 * c.args.width - 2)) (sym (returns-clause-value c)) (few_union c.args.width c.args.spans.now c.requires.wide)

pub count_below-requires-clause-apart : goal.count_below-requires-clause-apart
count_below-requires-clause-apart c = apart-from 0 _ c.args.spans.now c.requires.apart
