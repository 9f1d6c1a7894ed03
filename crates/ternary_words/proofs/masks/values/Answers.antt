use Rattle.std.proofs.Common.{length, ◌≡◌, rules}
use Rattle.ternary_words.proofs.Fives.{fit_five, values_five, values_below}
use Rattle.ternary_words.proofs.masks.values.Goals as goal

pub returns-clause-values : goal.returns-clause-values
returns-clause-values c =
    let five : length c.args.prefixes.now ≡ 5 = search rules in
    values_five c.args.prefixes.now _ five

pub returns-clause-small : goal.returns-clause-small
returns-clause-small c =
    let five : length c.args.prefixes.now ≡ 5 = search rules in
    values_below c.args.prefixes.now _ (fit_five c.args.prefixes.now _ five c.requires)
