use Rattle.std.proofs.Common.{◌∙◌, ◌≤◌, refl, sym, subst, arith, length}
use Rattle.prefix_min.specs.Pieces.{label_at}
use Rattle.prefix_min.specs.PrefixList.{weight}
use Rattle.prefix_min.specs.Rows.{AreFieldRows}
use Rattle.prefix_min.specs.Trie.{costs_of}
use Rattle.prefix_min.proofs.FieldRows.{chosen, right, labels, weighs, in-order}
use Rattle.prefix_min.proofs.Walking.{all-rows}
use Rattle.prefix_min.proofs.Whole.{IsFresh, least}
use Rattle.prefix_min.proofs.costing.Costing.cheapest.Goals as goal

pub returns : goal.returns
returns c =
    let weights = c.args.weights.now in
    let f = label_at c.args.pieces.now in
    let width = c.args.width in
    let whole = c.in_ok-label.ensures in
    let is = all-rows width c.in_ok-label.label whole.forest (whole.laid refl) c.deref.ensures.value c.deref-2.ensures.value
    (c.len.ensures ∙ c.whole.new.stack.choices.ok.0)
    c.new-rows.ensures.items c.in_ok-push.ensures.items c.in_ok-write.ensures c.reverse.ensures.items in
    let rows = subst (AreFieldRows weights f width (costs_of whole.node).row) (sym is) whole.rows in
    let sorted = c.sort.new.rows.items in
    let s = c.sort.ensures in
    let fresh : IsFresh (costs_of whole.node) (length weights) = λ h. absurd (omega (arith, whole.within (length weights) h)) in
    record {
      right = right sorted rows c.requires.wide s.same s.longest_first s.values_rise;
      labels = labels sorted rows c.requires.wide s.same s.longest_first s.values_rise;
      weighs = weighs sorted rows c.requires.wide s.same s.longest_first s.values_rise ∙ whole.row;
      least = λ other is_right. subst (λ n. n ≤ weight weights other) whole.row
          (least weights f width whole.node (length weights) whole.stands fresh other is_right);
      order = in-order sorted rows c.requires.wide s.same s.longest_first s.values_rise;
      chosen = chosen sorted rows c.requires.wide s.same s.longest_first;
    }
