-- The certificate of a list and a table: there is one exactly where they agree, and only one.
use Rattle.std.specs.Prelude.{List}
use Rattle.field_boxes.specs.declared.rule_list.RuleList.{RuleList}
use Rattle.ternary_words.specs.declared.table.Table.{Table}
use Rattle.partition_check.specs.Boxes.{ends}
use Rattle.partition_check.specs.Checking.{Statement}
use Rattle.partition_check.specs.Good.{IsGood}
use Rattle.box_partition.specs.Coarsest.{IsCoarsest}

-- the rows are a good certificate, and the coarsest one
pub record IsCertificate (list : RuleList) (table : Table) (rows : List Statement) : Type 0 where
  pub good : IsGood list table rows
  pub coarsest : IsCoarsest ends rows
