use Rattle.std.proofs.Common.{◌≡◌, ◌≤◌, ◌<◌, ◌+◌, ◌∙◌, List, [], length, get_or, drop, take, ap, sym, subst, refl, add-one, arith, rules, suc, map}
use Rattle.std.proofs.lemmas.List.{get_or_default}
use Rattle.field_boxes.specs.Headline.Fields.{stated}
use Rattle.field_boxes.specs.Fields.{greatest_of}
use Rattle.field_boxes.specs.Spans.{intervals_of}
use Rattle.node_store.specs.declared.split.Part.{Part}
use Rattle.node_store.specs.Diagram.{edges_of}
use Rattle.node_store.specs.Edges.{AreFull}
use Rattle.node_store.specs.Levels.{HasField}
use Rattle.node_store.specs.Split.{to_left, to_right}
use Rattle.node_store.specs.Store.{LeadTo}
use Rattle.partition_check.specs.Checking.{Statement}
use Rattle.partition_check.specs.Partition.{Group}
use Rattle.box_partition.specs.Output.{PutsUntil}
use Rattle.box_partition.specs.Rows.{AreRowsOf, group_text, headers_from, rows_text}
use Rattle.box_partition.proofs.Texts.{count-next}
use Rattle.box_partition.proofs.Until.{until-is, until-ok, until-next, until-next_cut, until-refused, until-stop}
use Rattle.node_store.proofs.Stated.{has_field}
use Rattle.box_partition.proofs.Walking as walking
use Rattle.box_partition.proofs.walk.Walk.+walk.Goals as goal

abbrev nothing : Part
nothing = record { hi = 0; left = record { 0 = 0 }; right = record { 0 = 0 } }

abbrev no_group : Group Statement
no_group = record { first = record { lo = 0; hi = 0 }; rest = [] }

pub parts-invariant_of-spans : goal.parts-invariant_of-spans
parts-invariant_of-spans g t c =
    let l = c.loop-part in
    let ends = walking.part-ends (greatest_of c.args.level) c.args.parts.now c.requires.full l.part-index nothing c.loop-part-test.true in
    record { ordered = omega (arith, l.invariant.lo c.loop-part-test.true, ends.0) }

pub parts-rows-requires : goal.parts-rows-requires
parts-rows-requires g t c κs within =
    let nodes = c.args.self.now.store.now in
    let one : suc c.args.level ≡ c.args.level + 1 = omega arith in
    let left = walking.leads-left nodes (drop (suc c.args.level) stated) c.args.parts.now c.loop-part.part-index nothing c.requires.left c.loop-part-test.true in
    let right = walking.leads-right nodes (drop (suc c.args.level) stated) c.args.parts.now c.loop-part.part-index nothing c.requires.right c.loop-part-test.true in
    (omega (arith, c.decreases, c.requires.level), (within, (omega (arith, c.requires.level), (left ∙ ap (λ k. drop k stated) one, right ∙ ap (λ k. drop k stated) one))))

pub parts-returns-in_err-rows-clause-rows : goal.parts-returns-in_err-rows-clause-rows
parts-returns-in_err-rows-clause-rows g t c = λ groups paired.
    let l = c.loop-part in
    let nodes = c.args.self.now.store.now in
    let part = get_or c.args.parts.now l.part-index nothing in
    let is : part ≡ get_or c.args.parts.now l.part-index part = get_or_default c.args.parts.now l.part-index nothing part c.loop-part-test.true in
    let five : length c.args.spans ≡ 5 = search rules in
    until-next_cut (group_text (take c.args.level (intervals_of c.args.spans))) groups l.part-index no_group (omega (arith, paired.count, c.loop-part-test.true)) c.from_residual.ensures.1
    (l.invariant.put groups paired)
    (until-is (c.in_err-rows.ensures.rows (get_or groups l.part-index no_group).rest (walking.group-rows nodes c.args.level groups c.args.parts.now l.part-index no_group part paired c.loop-part-test.true is))
    (walking.group-line nodes (suc c.args.level) c.args.level groups c.args.parts.now l.part-index c.from.result no_group part c.args.spans _ paired c.from.ensures c.loop-part-test.true is
    (omega (arith, five, c.requires.level)) (l.invariant.lo c.loop-part-test.true) refl))

pub parts-overflow_add-rows : goal.parts-overflow_add-rows
parts-overflow_add-rows g t c =
    let l = c.loop-part in
    let few = subst (λ k. c.in_ok-rows.field-0 ≤ headers_from k) (add-one c.args.level) c.in_ok-rows.ensures.few in
    let small = walking.few-enough c.args.level c.args.parts.now l.part-index nothing l.rows c.in_ok-rows.field-0 c.requires.level c.requires.full c.loop-part-test.true l.invariant.few few in omega (arith, small)

pub parts-loop-part-preserved : goal.parts-loop-part-preserved
parts-loop-part-preserved g t c =
    let l = c.loop-part in
    let nodes = c.args.self.now.store.now in
    let part = get_or c.args.parts.now l.part-index nothing in
    let is : part ≡ get_or c.args.parts.now l.part-index part = get_or_default c.args.parts.now l.part-index nothing part c.loop-part-test.true in
    let five : length c.args.spans ≡ 5 = search rules in
    let few = subst (λ k. c.in_ok-rows.field-0 ≤ headers_from k) (add-one c.args.level) c.in_ok-rows.ensures.few in record {
      put = λ groups paired.
          until-ok (until-next (group_text (take c.args.level (intervals_of c.args.spans))) groups l.part-index no_group (omega (arith, paired.count, c.loop-part-test.true)) (l.invariant.put groups paired)
          (until-is (c.in_ok-rows.ensures.rows (get_or groups l.part-index no_group).rest (walking.group-rows nodes c.args.level groups c.args.parts.now l.part-index no_group part paired c.loop-part-test.true is))
          (walking.group-line nodes (suc c.args.level) c.args.level groups c.args.parts.now l.part-index c.from.result no_group part c.args.spans _ paired c.from.ensures c.loop-part-test.true is
          (omega (arith, five, c.requires.level)) (l.invariant.lo c.loop-part-test.true) refl)));
      count = λ groups paired.
          count-next groups l.part-index l.rows c.in_ok-rows.field-0 no_group (omega (arith, paired.count, c.loop-part-test.true)) (l.invariant.count groups paired)
          (c.in_ok-rows.ensures.count (get_or groups l.part-index no_group).rest (walking.group-rows nodes c.args.level groups c.args.parts.now l.part-index no_group part paired c.loop-part-test.true is));
      few = walking.few-next c.args.level c.args.parts.now l.part-index nothing l.rows c.in_ok-rows.field-0 c.requires.full c.loop-part-test.true l.invariant.few few;
      lo = λ less. walking.next-begins c.args.level c.args.parts.now l.part-index part c.saturating_add-lo.result c.requires.level c.requires.full is c.saturating_add-lo.ensures less;
    }

pub parts-returns-clause-few : goal.parts-returns-clause-few
parts-returns-clause-few g t c =
    walking.few-all c.args.level c.args.parts.now c.loop-part.part-index c.loop-part.rows c.requires.level c.requires.full (omega (arith, c.loop-part.auto.part-index-end, c.loop-part-test.false))
    c.loop-part.invariant.few

pub rows-joint-requires-clause-inner : goal.rows-joint-requires-clause-inner
rows-joint-requires-clause-inner g t c = subst HasField (sym c.requires.left) (has_field c.args.level (omega (arith, c.requires.level, c.if-level-eq5.false)))

pub rows-parts-requires : goal.rows-parts-requires
rows-parts-requires g t c κs within =
    let nodes = c.args.self.now.store.now in
    let level = c.args.level in
    let less : level < 5 = omega (arith, c.requires.level, c.if-level-eq5.false) in
    let items = c.in_ok-parts.parts.items in
    let split = c.in_ok-parts.ensures in
    let whole = walking.top-split nodes level (edges_of nodes c.args.left.0) (edges_of nodes c.args.right.0) items c.args.left.0 less c.requires.left split.split in
    let full = subst (λ (ps : List Part). AreFull (greatest_of level) (map to_left ps)) (sym c.deref.ensures.value) whole.full in
    let left = subst (λ (ps : List Part). LeadTo nodes (drop (suc level) stated) (map to_left ps)) (sym c.deref.ensures.value)
    (walking.next-lead nodes level (map to_left items) c.args.left.0 less c.requires.left split.left) in
    let right = subst (λ (ps : List Part). LeadTo nodes (drop (suc level) stated) (map to_right ps)) (sym c.deref.ensures.value)
    (walking.next-lead nodes level (map to_right items) c.args.left.0 less c.requires.left split.right) in
    (omega (arith, c.decreases, less), (within, (less, (full, (left, right)))))

pub rows-returns-then-level-eq5-clause-rows : goal.rows-returns-then-level-eq5-clause-rows
rows-returns-then-level-eq5-clause-rows g t c =
    let five : 5 ≡ c.args.level = omega (arith, c.if-level-eq5.true) in
    subst (λ n. (rows : List Statement) → AreRowsOf c.args.self.now.store.now n c.args.left.0 c.args.right.0 rows →
    PutsUntil g.K.Sink.written g.K.Sink.faults c.args.out.now c.row.new.out c.args.pending.now c.row.new.pending (rows_text (take n (intervals_of c.args.spans)) rows) c.row.result)
    five c.row.ensures.rows

pub rows-returns-in_err-parts-clause-rows : goal.rows-returns-in_err-parts-clause-rows
rows-returns-in_err-parts-clause-rows g t c = λ rows is. until-refused c.from_residual.ensures.1

pub rows-returns-in_err-rows-clause-rows : goal.rows-returns-in_err-rows-clause-rows
rows-returns-in_err-rows-clause-rows g t c = λ rows is.
    let split = c.in_ok-parts.ensures in
    let h = walking.groups-of c.args.self.now.store.now c.args.level c.args.left.0 c.args.right.0 rows c.deref.result.now c.in_ok-parts.parts.items (omega (arith, c.requires.level, c.if-level-eq5.false))
    c.requires.left c.same_answers.ensures.same split.split split.left split.right c.deref.ensures.value is in
    until-is (until-stop c.from_residual-in_err-rows.ensures.1 (c.in_err-rows.ensures.rows h.groups h.paired)) (walking.grouped-lines _ _ rows _ _ h)

pub rows-returns-clause-rows : goal.rows-returns-clause-rows
rows-returns-clause-rows g t c = λ rows is.
    let split = c.in_ok-parts.ensures in
    let h = walking.groups-of c.args.self.now.store.now c.args.level c.args.left.0 c.args.right.0 rows c.deref.result.now c.in_ok-parts.parts.items (omega (arith, c.requires.level, c.if-level-eq5.false))
    c.requires.left c.same_answers.ensures.same split.split split.left split.right c.deref.ensures.value is in
    until-is (c.in_ok-rows.ensures.rows h.groups h.paired) (walking.grouped-lines _ _ rows _ _ h)

pub rows-returns-clause-count : goal.rows-returns-clause-count
rows-returns-clause-count g t c = λ rows is.
    let split = c.in_ok-parts.ensures in
    let h = walking.groups-of c.args.self.now.store.now c.args.level c.args.left.0 c.args.right.0 rows c.deref.result.now c.in_ok-parts.parts.items (omega (arith, c.requires.level, c.if-level-eq5.false))
    c.requires.left c.same_answers.ensures.same split.split split.left split.right c.deref.ensures.value is in
    c.in_ok-rows.ensures.count h.groups h.paired ∙ ap length (sym h.rows_are)
