use Rattle.std.proofs.Common.{◌≡◌, [], ◌-◌, ℕ, List, length, take, drop, subst, sym, arith}
use Rattle.std.proofs.lemmas.Grind.{common_steps}
use Rattle.table_text.proofs.Cuts.{CutsLine, cuts_line}
use Rattle.text_lines.proofs.Cuts.{has_byte}
use Rattle.table_text.proofs.line.next_line.Goals as goal

nothing_after : (text : List ℕ) → take (length text - length text) (drop (length text) text) ≡ []
nothing_after text = grind (arith, common_steps)

pub returns-in-Some-clause-line : goal.returns-in-Some-clause-line
returns-in-Some-clause-line c = subst (CutsLine c.args.text.now) (sym c.in-Some.ensures) (cuts_line c.args.text.now)

pub returns-in-None-clause-line : goal.returns-in-None-clause-line
returns-in-None-clause-line c =
    let last = subst (CutsLine c.args.text.now) (sym c.in-None.ensures) (cuts_line c.args.text.now) in
    rw (nothing_after c.args.text.now) (last (has_byte c.args.text.now (sym c.if-is_empty.ensures)))
