use Rattle.std.proofs.Common.{◌≡◌, ℕ, List, false, subst, sym, bytes_eq}
use Rattle.field_boxes.specs.Headline.Names.{miss}
use Rattle.memory_text.proofs.Extending.{extends_result}
use Rattle.memory_text.proofs.naming.number_of.Goals as goal

pub returns-clause-extends : goal.returns-clause-extends
returns-clause-extends c =
    let other = subst (λ (t : List ℕ). bytes_eq t miss ≡ false) c.as_bytes.ensures.value (sym c.if-is_miss.ensures.miss) in
    extends_result c.args.names.now c.number.new.self c.args.decision.now c.number.result other c.requires c.number.ensures.names c.number.ensures.err
