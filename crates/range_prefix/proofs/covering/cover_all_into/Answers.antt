use Rattle.std.proofs.Common.{◌∙◌, ◌++◌, ap, subst, sym}
use Rattle.std.proofs.lemmas.Result.{on_ok_weaker}
use Rattle.range_prefix.specs.Cover.{IsShortestCover}
use Rattle.range_prefix.specs.Shortest.{shortest_below}
use Rattle.range_prefix.specs.Spans.{union_of}
use Rattle.range_prefix.proofs.Halving.{is-shortest}
use Rattle.range_prefix.proofs.Unions.{apart-from}
use Rattle.range_prefix.proofs.covering.cover_all_into.Goals as goal

pub returns-clause-value : goal.returns-clause-value
returns-clause-value c =
    on_ok_weaker c.cover_below.result
    (λ h. h ∙ ap (λ xs. xs ++ shortest_below c.args.width (union_of c.args.spans.now) c.enclosing-block.result) c.clear.ensures.items ∙ c.enclosing-block.ensures.cover)
    c.cover_below.ensures.added

pub returns-clause-shortest : goal.returns-clause-shortest
returns-clause-shortest c =
    let set = union_of c.args.spans.now in
    on_ok_weaker c.cover_below.result
    (λ h. subst (IsShortestCover c.args.width set) (sym h) (is-shortest c.args.width set c.requires.wide))
    (returns-clause-value c)

pub cover_below-requires-clause-apart : goal.cover_below-requires-clause-apart
cover_below-requires-clause-apart c = apart-from 0 _ c.args.spans.now c.requires.apart
