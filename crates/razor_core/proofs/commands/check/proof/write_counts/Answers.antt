use Rattle.razor_core.proofs.commands.check.proof.write_counts.Goals as goal

pub returns : goal.returns
returns g c = rw (← c.from.ensures, ← c.from-2.ensures, ← c.from-3.ensures, ← c.from-4.ensures, ← c.from-5.ensures) c.write_parts.ensures
