use Rattle.std.proofs.Common.{subst}
use Rattle.ternary_words.specs.Entries.{ArePrefixes}
use Rattle.library_tests.proofs.tests.tables.removing.removed.Goals as goal

pub remove-requires : goal.remove-requires
remove-requires c = record { prefixes = subst ArePrefixes c.as_slice.ensures.value (c.are_prefixes.ensures.0 c.if-not-are_prefixes.false) }
