-- The order of pairs: by their entries, and for one entry by their rules.
use Rattle.std.specs.Prelude.{nat_lt, nat_eq, Bool, ◌&&◌, ◌||◌}
use Rattle.agreement_check.specs.declared.pair.Pair.{Pair}

abbrev pub comes_before : Pair → Pair → Bool
comes_before p q = nat_lt p.entry q.entry || (nat_eq p.entry q.entry && nat_lt p.rule q.rule)
