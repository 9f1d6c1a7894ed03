use Rattle.std.proofs.Common.{◌≡◌, ◌∷◌, ℕ, List, [], Bool, true, ap, sym, ◌∙◌, cond, refl, subst}
use Rattle.field_boxes.specs.declared.rule.Rule as code
use Rattle.field_boxes.specs.Headline.Classifier.{matches}
use Rattle.field_boxes.specs.Headline.Fields.{stated, AreValues}
use Rattle.field_boxes.specs.Rules.{rule_of, sets_of}
use Rattle.field_boxes.proofs.SameSets.{matches_by_sets}
use Rattle.fdd_build.specs.Rules.{decided}
use Rattle.fdd_build.proofs.Joined.{decides_one}
use Rattle.rule_audit.specs.declared.label.Next.TheVariants.{Nothing}
use Rattle.rule_audit.specs.Labels.{is_open, labelled, number_of, own_number}
use Rattle.rule_audit.proofs.label_diagram.open_rule.Goals as goal

-- a rule with the same sets that decides the label of an open one
alone : (first : ℕ) (left_open : List Bool) (values : List ℕ) (rule other : code.Rule) (slice : List code.Rule) (place : ℕ) → slice ≡ other ∷ [] → sets_of other ≡ sets_of rule →
    is_open left_open place ≡ true → other.decision ≡ number_of first (record { place = place; next = Nothing }) → decided stated slice values ≡ labelled first left_open place (rule ∷ []) values
alone first left_open values rule other slice place is sets opens decision =
    ap (λ rs. decided stated rs values) is
    ∙ decides_one stated values other
    ∙ ap (λ n. cond (matches stated values (rule_of other)) n 0) decision
    ∙ ap (λ b. cond b (number_of first (record { place = place; next = Nothing })) 0) (matches_by_sets stated values (rule_of other) (rule_of rule) sets)
    ∙ ap (λ o. cond (matches stated values (rule_of rule)) (own_number first o place rule 0) 0) (sym opens)

pub returns-clause-answers : goal.returns-clause-answers
returns-clause-answers c = λ values h.
    c.in_ok-id.ensures.answers values (subst (λ k. AreValues k values) (sym c.stated_order.ensures.stated) h)
    ∙ ap (λ k. decided k c.from_ref.result.now values) c.stated_order.ensures.stated
    ∙ alone c.args.labels.now.first c.args.labels.now.left_open.now values c.args.rule.now _ c.from_ref.result.now c.args.place c.from_ref.ensures.value refl c.requires.opens c.number.ensures
