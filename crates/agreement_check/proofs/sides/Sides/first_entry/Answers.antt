use Rattle.std.proofs.Common.{◌∙◌, ap, sym}
use Rattle.ternary_words.specs.Views.{first_match}
use Rattle.partition_check.specs.Claims.{entry_matches}
use Rattle.agreement_check.proofs.First.{place-none}
use Rattle.agreement_check.proofs.sides.Sides.first_entry.Goals as goal

pub returns-in-None : goal.returns-in-None
returns-in-None c = c.entry_count.ensures ∙ place-none (entry_matches c.args.header.now.values) c.args.self.now.table.now.entries.items (ap (first_match c.args.header.now.values) (sym c.deref.ensures.value) ∙ sym c.look.ensures ∙ c.in-None.is)
