use Rattle.std.proofs.Common.{◌≡◌, ◌<◌, length, drop}
use Rattle.field_boxes.specs.Headline.Fields.{stated}
use Rattle.node_store.specs.Diagram.{level_of, answer}
use Rattle.node_store.proofs.store.Store.answer.Given as goal

abbrev pub invariant-loop-value : goal.invariant-loop-value
invariant-loop-value l = record {
  number : l.at.0 < length l.self;
  level : level_of l.self l.at.0 ≡ drop l.value-index stated;
  same : answer l.self l.at.0 (drop l.value-index l.value-items) ≡ answer l.self l.fn.id.0 l.value-items;
}
