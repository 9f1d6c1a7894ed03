-- Covers that name the open rule or the open entry.
use Rattle.std.proofs.Common.{◌≡◌, ◌∷◌, ℕ, ◌+◌, ◌≤◌, List, [], MatchOption, arith, bit_and, bit_xor, length, max, refl, slice_get, subst, sym}
use Rattle.std.specs.Option.{option_map_or}
use Rattle.std.proofs.lemmas.Nat.{and_le_l, and_le_r}
use Rattle.std.proofs.lemmas.Option.{slice_get_past}
use Rattle.field_boxes.specs.declared.rule.Rule.{Rule}
use Rattle.ternary_words.specs.declared.entry.Entry.{Entry}
use Rattle.agreement_check.specs.declared.step.Step.TheVariants.{InRule, InEntry}
use Rattle.agreement_check.specs.Claims.{entry_claim, rule_claim}
use Rattle.agreement_check.specs.Covers.{Sides, LiesInRuleAt, entries_named, entry_word, rules_named}
use Rattle.word_cover.specs.Cubes.{Cube, HasBitsOf, all_headers, cube_of}
use Rattle.agreement_check.specs.Cubes.{LiesInRule}
use Rattle.agreement_check.specs.Proofs.{in_entry, in_rule}
use Rattle.agreement_proof.specs.Showing.{AreStepsOf}

lies_past : (rules : List Rule) (n : ℕ) (cube : Cube) → length rules ≤ n → LiesInRuleAt rules n cube
lies_past rules n cube h = subst (λ o. MatchOption o (Unit {0}) (λ (r : Rule). LiesInRule r cube)) (sym (slice_get_past rules n h)) tt

pub open-rule : (s : Sides) (j n : ℕ) → n ≡ length s.list.rules.items → AreStepsOf s (entry_claim s j) (entry_claim s j).cube (InRule n ∷ [])
open-rule s j n e = record { cover = in_rule n; holds = (omega (arith, e), lies_past s.list.rules.items n (entry_claim s j).cube (omega (arith, e))); are = refl }

pub open-rule-reach : (n r : ℕ) → r ≡ n + 1 → r ≡ rules_named (InRule n ∷ [])
open-rule-reach n r e = omega (arith, e)

none_l : (x : ℕ) → bit_and 0 x ≡ 0
none_l x = let less = and_le_l 0 x in omega (arith, less)

none_r : (x : ℕ) → bit_and x 0 ≡ 0
none_r x = let less = and_le_r x 0 in omega (arith, less)

has_past : (entries : List Entry) (n : ℕ) (cube : Cube) → length entries ≤ n → HasBitsOf cube (entry_word entries n)
has_past entries n cube h =
    subst (λ o. HasBitsOf cube (option_map_or (λ (e : Entry). cube_of e.word) o all_headers)) (sym (slice_get_past entries n h)) (none_l cube.mask, none_r (bit_xor cube.value 0))

pub open-entry : (s : Sides) (i n : ℕ) → n ≡ length s.table.entries.items → AreStepsOf s (rule_claim s i) (rule_claim s i).cube (InEntry n ∷ [])
open-entry s i n e = record { cover = in_entry n; holds = (omega (arith, e), has_past s.table.entries.items n (rule_claim s i).cube (omega (arith, e))); are = refl }

pub open-entry-reach : (n r : ℕ) → r ≡ n + 1 → r ≡ entries_named (InEntry n ∷ [])
open-entry-reach n r e = omega (arith, e)
