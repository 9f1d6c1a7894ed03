use Rattle.std.proofs.Common.{◌≡◌, ◌≤◌, ◌<◌, ◌-◌, ◌*◌, List, length, take, suc, flat_map}
use Rattle.field_boxes.specs.Spans.{intervals_of}
use Rattle.partition_check.specs.Checking.{Statement}
use Rattle.partition_check.specs.Partition.{Group}
use Rattle.box_partition.specs.Rows.{ArePaired, begins_at, group_text, headers_from}
use Rattle.box_partition.proofs.Texts.{count_before}
use Rattle.box_partition.proofs.Until.{HasPutSo}
use Rattle.box_partition.proofs.walk.Walk.+walk.Given as goal

abbrev pub decreases-rows : goal.decreases-rows
decreases-rows g l = 2 * (6 - l.level)

abbrev pub decreases-parts : goal.decreases-parts
decreases-parts g l = 2 * (6 - l.level) - 1

abbrev pub invariant-parts-loop-part : goal.invariant-parts-loop-part
invariant-parts-loop-part g l = record {
  put : (groups : List (Group Statement)) → ArePaired l.self.store.now (suc l.level) groups l.parts →
      HasPutSo g.K.Sink.written g.K.Sink.faults l.initial.out l.out l.initial.pending l.pending (flat_map (group_text (take l.level (intervals_of l.fn.spans))) (take l.part-index groups));
  count : (groups : List (Group Statement)) → ArePaired l.self.store.now (suc l.level) groups l.parts → l.rows ≡ count_before groups l.part-index;
  few : l.rows ≤ begins_at l.parts l.part-index * headers_from (suc l.level);
  lo : l.part-index < length l.parts → l.lo ≡ begins_at l.parts l.part-index;
}
