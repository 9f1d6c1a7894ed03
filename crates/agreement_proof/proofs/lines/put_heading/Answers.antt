use Rattle.std.proofs.Common.{◌∷◌, ◌++◌, ◌∙◌, [], ap, codes, length}
use Rattle.std.specs.Fmt.{decimal}
use Rattle.agreement_check.specs.Proofs.{before_text}
use Rattle.agreement_proof.specs.Outcome.{values_of}
use Rattle.agreement_proof.proofs.Words.{heading-parts}
use Rattle.agreement_proof.proofs.lines.put_heading.Goals as goal

pub returns : goal.returns
returns c =
    let t0 = c.args.text.now.items in
    let t1 = c.put_behind.new.text.items in
    heading-parts t0 t1 c.put_behind-2.new.text.items c.put_before.new.text.items c.push.new.self.items (codes "proof 1 rules ") (decimal (length c.args.sides.now.list.now.rules.items)) (codes " entries ")
    (decimal (length c.args.sides.now.table.now.entries.items)) (before_text (values_of c.args.header)) (10 ∷ [])
    (c.in_ok-put_behind.ensures ∙ ap (λ n. t0 ++ (codes "proof 1 rules " ++ decimal n)) (c.from.ensures ∙ c.rule_count.ensures))
    (c.in_ok-put_behind-2.ensures ∙ ap (λ n. t1 ++ (codes " entries " ++ decimal n)) (c.from-2.ensures ∙ c.entry_count.ensures)) c.in_ok-put_before.ensures c.in_ok-push.ensures.items
