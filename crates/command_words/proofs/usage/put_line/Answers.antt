use Rattle.std.proofs.Common.{append_assoc, ℕ, List, [], ◌∷◌, ◌++◌, flat_map}
use Rattle.razor_base.proofs.Writing.{puts-is, puts-more, puts-stop, puts-then}
use Rattle.command_words.specs.declared.form.CommandForm.{CommandForm}
use Rattle.command_words.specs.Usage.{option_usage}
use Rattle.command_words.proofs.usage.put_line.Goals as goal

-- what stands behind the options
abbrev behind : CommandForm → List ℕ
behind form = 32 ∷ form.label.now ++ 10 ∷ []

pub returns-in_err-put_parts : goal.returns-in_err-put_parts
returns-in_err-put_parts g c = puts-is (puts-stop c.from_residual.ensures.0 (puts-more (behind c.args.form.now) (puts-more (flat_map option_usage c.args.form.now.options.now) c.in_err-put_parts.ensures))) (simp append_assoc)

pub returns-in_err-put_options : goal.returns-in_err-put_options
returns-in_err-put_options g c =
    puts-is (puts-stop c.from_residual-in_err-put_options.ensures.0 (puts-more (behind c.args.form.now) (puts-then c.in_ok-put_parts.ensures c.in_err-put_options.ensures))) (simp append_assoc)

pub returns : goal.returns
returns g c = puts-is (puts-then (puts-then c.in_ok-put_parts.ensures c.in_ok-put_options.ensures) c.put_parts-2.ensures) (simp append_assoc)
