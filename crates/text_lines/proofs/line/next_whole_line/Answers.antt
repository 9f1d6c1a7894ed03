use Rattle.std.proofs.Common.{◌≡◌, ◌-◌, ◌+◌, ℕ, List, length, take, drop, ap, subst, sym, arith}
use Rattle.std.specs.Prelude.{option_map, position, Option, nat_eq}
use Rattle.std.proofs.lemmas.Grind.{common_steps}
use Rattle.text_lines.proofs.Cuts.{CutsLine, cuts_line, has_byte}
use Rattle.text_lines.proofs.line.next_whole_line.Goals as goal

-- a text from a place on, as a slice has it
rest : (text : List ℕ) (place : ℕ) → take (length text - place) (drop place text) ≡ drop place text
rest text place = grind (arith, common_steps)

-- what a cut at the place of the first line feed says of the lines
cuts_at : (text : List ℕ) (o : Option ℕ) → o ≡ position (λ b. nat_eq b 10) text → CutsLine text (option_map (λ i. (take i text, drop (i + 1) text)) o)
cuts_at text o found = subst (CutsLine text) (sym (ap (option_map (λ i. (take i text, drop (i + 1) text))) found)) (cuts_line text)

pub returns-in-Some-clause-line : goal.returns-in-Some-clause-line
returns-in-Some-clause-line c = rw (rest c.args.text.now (c.in-Some.place + 1)) (cuts_at c.args.text.now _ c.in-Some.ensures)

pub returns-in-None-clause-line : goal.returns-in-None-clause-line
returns-in-None-clause-line c = cuts_at c.args.text.now _ c.in-None.ensures (has_byte c.args.text.now (sym c.if-is_empty.ensures))
