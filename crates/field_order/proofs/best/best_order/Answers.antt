use Rattle.std.proofs.Common.{◌≡◌, arith, subst, ap, ◌∙◌}
use Rattle.field_boxes.specs.NamedRules.{named_rules}
use Rattle.table_compose.specs.Diagrams.{IsCostOf}
use Rattle.field_order.specs.Order.{place_of}
use Rattle.field_order.specs.Search.{IsBestSoFar}
use Rattle.field_order.proofs.RuleCosts.{cost_of_rules, AnswersRules}
use Rattle.field_order.proofs.Roots as roots
use Rattle.field_order.proofs.Trials.{begun, done}
use Rattle.field_order.proofs.best.best_order.Goals as goal

pub loop-place-init : goal.loop-place-init
loop-place-init c =
    let n = c.build.new.store in
    let root = c.in_ok-root.root in
    let level = c.as_level.ensures.fields ∙ c.usual-order.ensures.fields in
    let at = c.in_ok-root.ensures.level ∙ level in
    let answers = subst (λ l. AnswersRules n l root.0 c.args.rules.now) level c.in_ok-root.ensures.answers in record {
      root = at;
      fronts = c.new-fronts.ensures n;
      worths = c.new-worths.ensures n;
      decides = λ names are. roots.decides n root.0 c.args.rules.now names are answers;
      best = λ names are.
          begun (named_rules names c.args.rules.now) c.usual-order.result 2642 c.in_ok-cost.cost c.usual-order.ensures.order (ap place_of c.usual-order.ensures.fields)
          (cost_of_rules n c.usual-order.result root.0 c.in_ok-cost.cost c.args.rules.now names are
          (subst (λ l. AnswersRules n l root.0 c.args.rules.now) c.as_level.ensures.fields c.in_ok-root.ensures.answers)
          (subst (λ l. IsCostOf n l root.0 c.in_ok-cost.cost) (c.in_ok-root.ensures.level ∙ c.as_level.ensures.fields) c.in_ok-cost.ensures));
    }

pub loop-place-preserved : goal.loop-place-preserved
loop-place-preserved c =
    let l = c.loop-place in
    let n = c.better.new.store in
    let made = c.in_ok-best.ensures in record {
      root = roots.level_later l.store n c.in_ok-root.root.0 made.grows l.invariant.root;
      fronts = made.fronts;
      worths = made.worths;
      decides = λ names are. roots.later l.store n c.in_ok-root.root.0 (named_rules names c.args.rules.now) made.grows l.invariant.root (l.invariant.decides names are);
      best = λ names are. made.best (named_rules names c.args.rules.now) (l.invariant.decides names are) (l.invariant.best names are);
    }

pub returns : goal.returns
returns c = λ names are.
    let l = c.loop-place in
    let rules = named_rules names c.args.rules.now in
    let end : l.place ≡ 3125 = omega (arith, c.loop-place-test.false) in
    done rules l.best.order l.best.place l.best.cost (subst (λ place. IsBestSoFar rules place l.best.order l.best.place l.best.cost) end (l.invariant.best names are))
