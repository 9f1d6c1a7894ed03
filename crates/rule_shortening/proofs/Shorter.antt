-- The shorter of two tables.
use Rattle.std.proofs.Common.{◌≡◌, ◌≤◌, ℕ, List, length, arith, refl, subst, sym}
use Rattle.field_boxes.specs.Headline.Classifier.{Rule}
use Rattle.ternary_words.specs.Headline.Table.{Table}
use Rattle.table_compose.specs.Headline.LeastCost.{IsLeastCost}
use Rattle.rule_compilation.specs.Compiled.{IsCompiledIn}
use Rattle.rule_expansion.specs.Expansion.{expanded_count}
use Rattle.rule_shortening.specs.Shortened.{IsShortTable, IsShortTableIn}

-- no two numbers are the least cost
abbrev pub OneCost : Type 0
OneCost = (fields : List ℕ) (R : List (Rule (List ℕ))) (m n : ℕ) → IsLeastCost fields R m → IsLeastCost fields R n → m ≡ n

cheap : OneCost → (order : List ℕ) (rules : List (Rule (List ℕ))) (n cost : ℕ) → IsLeastCost order rules cost → n ≤ cost → (other : ℕ) → IsLeastCost order rules other → n ≤ other
cheap one order rules n cost is le other h = let same = one order rules cost other is h in omega (arith, same, le)

-- the one that was searched for, as short as the composed one
pub searched_in : OneCost → (order : List ℕ) (rules : List (Rule (List ℕ))) (limit width : ℕ) (t u : Table) → IsShortTable rules limit width t → IsCompiledIn order rules width u → length t.entries ≤ length u.entries →
    IsShortTableIn order rules limit width t
searched_in one order rules limit width t u short compiled le = record { short = short; cheap = cheap one order rules (length t.entries) u.composed compiled.composed (omega (arith, le, compiled.few)) }

-- the composed one, within both bounds
pub composed_in : OneCost → (order : List ℕ) (rules : List (Rule (List ℕ))) (limit width : ℕ) (u t : Table) → IsCompiledIn order rules width u → t ≡ record u { composed = length u.entries } → length u.entries ≤ limit → length u.entries ≤ expanded_count rules →
    IsShortTableIn order rules limit width t
composed_in one order rules limit width u t compiled is few within = subst (IsShortTableIn order rules limit width) (sym is) (record {
  short = record { slot = compiled.slot; composed = refl; few = few; within = within; answers = compiled.answers; prefixes = compiled.prefixes; tight = compiled.tight };
  cheap = cheap one order rules (length u.entries) u.composed compiled.composed compiled.few;
})
