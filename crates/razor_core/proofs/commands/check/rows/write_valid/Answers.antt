use Rattle.razor_core.proofs.commands.check.rows.write_valid.Goals as goal

pub returns : goal.returns
returns g c = rw (← c.from.ensures) c.write_parts.ensures
