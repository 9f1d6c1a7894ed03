use Rattle.redundancy.proofs.WholeFlags.{kept_is}
use Rattle.redundancy.proofs.entry_table.remove_in.Goals as goal

pub returns-clause-pass : goal.returns-clause-pass
returns-clause-pass c =
    kept_is c.fields.result.now c.args.entries.items c.as_slice.result.now c.as_slice-2.result.now c.in_ok-kept.kept.items c.in_ok-flags.flags.items c.as_slice-3.result.now c.fields.ensures.order c.requires.prefixes
    c.as_slice.ensures.value c.as_slice-2.ensures.value c.as_slice-3.ensures.value c.in_ok-flags.ensures c.in_ok-kept.ensures

pub returns-clause-part : goal.returns-clause-part
returns-clause-part c = c.one_pass.ensures.part c.args.entries.items c.in_ok-kept.kept.items (returns-clause-pass c)

pub returns-clause-alike : goal.returns-clause-alike
returns-clause-alike c = c.one_pass.ensures.alike c.args.entries.items c.in_ok-kept.kept.items (returns-clause-pass c)

pub returns-clause-tight : goal.returns-clause-tight
returns-clause-tight c = c.one_pass.ensures.tight c.args.entries.items c.in_ok-kept.kept.items (returns-clause-pass c)
