use Rattle.std.proofs.Common.{◌≡◌, ◌∙◌, ℕ, ap, subst, sym}
use Rattle.std.proofs.lemmas.Bool.{false≢true}
use Rattle.field_boxes.specs.Names.{name_at}
use Rattle.agreement_check.specs.declared.pair.Pair.{Pair}
use Rattle.agreement_check.specs.Claims.{DecideAlike, entry_decides, rule_decides}
use Rattle.agreement_check.specs.Views.{sides_in}
use Rattle.agreement_check.proofs.Sound.{agree-alike, alike-agree, entry-name, rule-name}
use Rattle.agreement_check.proofs.sides.Sides.difference_on.Goals as goal

-- the pair that is looked at
pub same_pair : {a b x y : ℕ} → a ≡ x → b ≡ y → (let p : Pair = record { rule = a; entry = b } in p) ≡ record { rule = x; entry = y }
same_pair {a = a} {b = b} {x = x} {y = y} e f = ap (λ n. record { rule = n; entry = b }) e ∙ ap (λ n. record { rule = x; entry = n }) f

pub returns-then-decide_alike-clause-alike : goal.returns-then-decide_alike-clause-alike
returns-then-decide_alike-clause-alike c =
    let s = sides_in c.args.self.now in
    let h = c.args.header.now.values in
    alike-agree c.first_match_answers.ensures s h (subst (DecideAlike s) (same_pair c.first_rule.ensures c.first_entry.ensures) (c.decide_alike.ensures.0 c.if-decide_alike.true))

pub returns-clause-alike : goal.returns-clause-alike
returns-clause-alike c = λ agree.
    let s = sides_in c.args.self.now in
    let h = c.args.header.now.values in
    let alike = subst (DecideAlike s) (sym (same_pair c.first_rule.ensures c.first_entry.ensures)) (agree-alike c.first_match_answers.ensures s h agree) in
    false≢true (sym c.if-decide_alike.false ∙ c.decide_alike.ensures.1 alike)

pub returns-clause-names : goal.returns-clause-names
returns-clause-names c =
    let s = sides_in c.args.self.now in
    let h = c.args.header.now.values in
    record {
      left = ap (name_at s.list.names) (c.rule_decision.ensures.is ∙ ap (rule_decides s.list.rules.items) c.first_rule.ensures) ∙ sym (rule-name s h);
      right = ap (name_at s.table.names) (c.entry_decision.ensures.is ∙ ap (entry_decides s.table.entries.items) c.first_entry.ensures) ∙ sym (entry-name c.first_match_answers.ensures s h);
    }
