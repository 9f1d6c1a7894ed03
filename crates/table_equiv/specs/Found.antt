-- What a search of a cube finds.
use Rattle.std.specs.Prelude.{ℕ, ◌<◌, ◌≤◌, ◌^◌, List, Option, Some, None}
use Rattle.field_boxes.specs.Alike.{IsFirstDifference}
use Rattle.field_boxes.specs.Headline.Fields.{IsHeader}
use Rattle.field_boxes.specs.declared.header.Header.{Header}
use Rattle.field_boxes.specs.declared.rule_list.RuleList.{RuleList}
use Rattle.field_boxes.specs.Lists.{name_decided}
use Rattle.ternary_words.specs.declared.table.Table.{Table}
use Rattle.ternary_words.specs.declared.word.Word.{Word}
use Rattle.ternary_words.specs.Word.{key_of}
use Rattle.partition_check.specs.Agreement.{Agree, AgreeOn, name_answered}
use Rattle.table_equiv.specs.Cubes.{IsIn}

-- the key of the best header so far; above all keys where there is none
abbrev pub limit : Option Header → ℕ
limit None = 2 ^ 104
limit (Some header) = key_of header.values

-- on the best header so far list and table don't agree
abbrev pub IsApart : RuleList → Table → Option Header → Type 0
IsApart list table None = Unit {0}
IsApart list table (Some header) = IsHeader header.values × (AgreeOn list table header.values → ⊥)

-- the cube was searched: below the key of the best header they agree on all that it has
pub record IsSearched (list : RuleList) (table : Table) (w : Word) (before after : Option Header) : Type 0 where
  pub agree : (header : List ℕ) → IsIn w header → key_of header < limit after → AgreeOn list table header
  pub lower : limit after ≤ limit before
  pub apart : IsApart list table after

-- of all headers: they agree on every one, or this is the least on which they don't
abbrev pub IsFound : RuleList → Table → Option Header → Type 0
IsFound list table None = Agree list table
IsFound list table (Some header) = IsFirstDifference (name_decided list) (name_answered table) header.values
