use Rattle.std.proofs.Common.{[], arith, refl}
use Rattle.razor_base.proofs.Writing.{puts-is, puts-next, puts-next_cut, puts-each, texts_map}
use Rattle.command_words.specs.declared.form.CommandForm.{CommandForm}
use Rattle.command_words.specs.declared.commands.CommandName.TheVariants.{Expand}
use Rattle.command_words.specs.Forms.{form_seen}
use Rattle.command_words.specs.Usage.{usage_line}
use Rattle.command_words.proofs.usage.put_lines.Goals as goal

abbrev no_form : CommandForm
no_form = record { command = Expand; name = record { ref_ptr = (0, 0); now = [] }; options = record { ref_ptr = (0, 0); now = [] }; label = record { ref_ptr = (0, 0); now = [] } }

pub returns-in_err-put_line : goal.returns-in_err-put_line
returns-in_err-put_line g c =
    puts-is (puts-next_cut (λ form. usage_line (form_seen form)) _ c.loop-form.form-index _ no_form (omega arith) refl c.from_residual.ensures.0 c.loop-form.invariant c.in_err-put_line.ensures)
    (texts_map usage_line form_seen c.args.forms.now)

pub loop-form-preserved : goal.loop-form-preserved
loop-form-preserved g c = puts-next (λ form. usage_line (form_seen form)) _ c.loop-form.form-index _ no_form (omega arith) refl c.loop-form.invariant c.in_ok-put_line.ensures

pub returns : goal.returns
returns g c = puts-is (puts-each (λ form. usage_line (form_seen form)) _ c.loop-form.form-index (omega arith) c.loop-form.invariant) (texts_map usage_line form_seen c.args.forms.now)
