use Rattle.std.proofs.Common.{rules, refl, arith, ◌^◌}
use Rattle.std.proofs.lemmas.List.Sorted.{IsNonDecreasingBy-from_sort_by_key}
use Rattle.prefix_min.proofs.Ordered.{cut, longest-first, ranked, ranked-cut, ties-rise}
use Rattle.prefix_min.proofs.row.sort.Goals as goal

pub returns-clause-longest_first : goal.returns-clause-longest_first
returns-clause-longest_first c =
    let rows = c.sort_unstable_by_key.new.self.items in
    longest-first (2 ^ 32) rows (omega arith) (IsNonDecreasingBy-from_sort_by_key (cut (2 ^ 32)) rows c.sort_unstable_by_key.ensures.sorted (λ a r q k. (ranked-cut (2 ^ 32) r a.0.now (search rules) (search rules), refl)))

pub returns-clause-values_rise : goal.returns-clause-values_rise
returns-clause-values_rise c =
    let rows = c.sort_unstable_by_key.new.self.items in
    ties-rise (2 ^ 32) rows (IsNonDecreasingBy-from_sort_by_key (ranked (2 ^ 32)) rows c.sort_unstable_by_key.ensures.sorted (λ a r q k. search rules))
