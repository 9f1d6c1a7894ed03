use Rattle.std.proofs.Common.{◌+◌, ◌++◌, ◌≤◌, ℕ, List, take}
use Rattle.field_boxes.specs.declared.rule_list.RuleList.{RuleList}
use Rattle.ternary_words.specs.declared.table.Table.{Table}
use Rattle.agreement_check.specs.Standing.{IsAfter, IsSound}
use Rattle.agreement_check.proofs.reader.Reader.take.Given as goal

abbrev pub invariant-loop-byte : goal.invariant-loop-byte
invariant-loop-byte l = record {
  after : (list : RuleList) (table : Table) (text : List ℕ) → IsAfter list table text l.initial.self → IsAfter list table (text ++ take l.byte-index l.bytes) l.self;
  sound : IsSound l.self.claims;
  due : l.self.line.cover.due ≤ l.initial.self.line.cover.due + l.byte-index;
}
