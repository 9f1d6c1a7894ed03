-- Plans that are made of a layout.
use Rattle.std.proofs.Common.{◌≡◌, ◌≤◌, ◌+◌, ◌*◌, ◌∷◌, ◌++◌, ℕ, suc, List, [], Option, Some, None, length, refl, ap, sym, ◌∙◌, subst, arith}
use Rattle.ternary_words.specs.declared.entry.Entry.{Entry}
use Rattle.bank_update.specs.Standing.{bank_of, entries_in}
use Rattle.slot_patch.specs.InPlace.{in_place}
use Rattle.slot_patch.specs.Layouts.{IsLayout}
use Rattle.slot_patch.specs.Least.{least_slots, same_word}
use Rattle.slot_patch.specs.Ordered.{moves_of, places}
use Rattle.slot_patch.specs.Planning.{IsPlan}
use Rattle.slot_patch.specs.Plans.{IsPatch}
use Rattle.slot_patch.specs.declared.plan.Plan.{Plan}
use Rattle.bank_update.specs.declared.write.Write.{Write}
use Rattle.slot_patch.proofs.Builders.{alike}
use Rattle.slot_patch.proofs.Fits.{layout-needs}
use Rattle.slot_patch.proofs.InPasses.{two-passes}
use Rattle.slot_patch.proofs.Lengths.{few-writes}
use Rattle.slot_patch.proofs.Places.{in-place-behind}
use Rattle.slot_patch.proofs.Telling.{tells}

abbrev Slots : Type 0
Slots = List (Option Entry)

pub layout-patch : (old start next : Slots) (new : List Entry) → IsLayout (length old) (entries_in old) new start next →
    IsPatch (bank_of old) (bank_of next) (moves_of (places 0 old) (places 0 start) (entries_in old) ++ in_place start next)
layout-patch old start next new l =
    let moves = moves_of (places 0 old) (places 0 start) (entries_in old) in
    let m = two-passes old start (sym l.start_slots) (sym l.old_entries) in
    record {
      start = bank_of start;
      alike = alike (bank_of old) (bank_of start) moves m;
      words = l.words;
      leads = in-place-behind (bank_of old) start next moves l.words (l.start_slots ∙ sym l.next_slots) m;
    }

pub length-places : (k : ℕ) (slots : Slots) → length (places k slots) ≡ length (entries_in slots)
length-places k [] = refl
length-places k (None ∷ slots) = length-places (suc k) slots
length-places k (Some e ∷ slots) = ap suc (length-places (suc k) slots)

-- the plan of a layout
pub plan-of : (held start next : Slots) (table : List Entry) (from to : List ℕ) (entries : List Entry) (p : Plan) → IsLayout (length held) (entries_in held) table start next →
    from ≡ places 0 held → to ≡ places 0 start → entries ≡ entries_in held → p.writes.items ≡ moves_of from to entries ++ in_place start next → p.table.items ≡ next → IsPlan held table p
plan-of held start next table from to entries p l is_from is_to is_entries writes tables =
    let made : p.writes.items ≡ moves_of (places 0 held) (places 0 start) (entries_in held) ++ in_place start next =
    writes ∙ ap (λ (is : List ℕ). moves_of is to entries ++ in_place start next) is_from ∙ ap (λ (is : List ℕ). moves_of (places 0 held) is entries ++ in_place start next) is_to
    ∙ ap (λ (es : List Entry). moves_of (places 0 held) (places 0 start) es ++ in_place start next) is_entries in
    record {
      patch = subst (λ (ws : List Write). IsPatch (bank_of held) (bank_of p.table.items) ws) (sym made)
          (subst (λ (s : Slots). IsPatch (bank_of held) (bank_of s) (moves_of (places 0 held) (places 0 start) (entries_in held) ++ in_place start next)) (sym tables) (layout-patch held start next table l));
      entries = ap entries_in tables ∙ l.new_entries;
      slots = ap length tables ∙ l.next_slots;
      few = subst (λ (ws : List Write). length ws ≤ 3 * length (entries_in held) + length table) (sym made)
          (few-writes (length held) (places 0 held) (places 0 start) (entries_in held) table start next l);
    }

-- a layout with as many pairs as there can be is one in the fewest slots
pub fewest-slots : (old new : List Entry) (start next : Slots) (shared : ℕ) → IsLayout (length start) old new start next → length start + shared ≡ length old + length new →
    length old + length new ≤ least_slots same_word old new + shared → length start ≡ least_slots same_word old new
fewest-slots old new start next shared l count most =
    let needs = layout-needs same_word (length start) old new start next tells l in omega (arith, needs, count, most)
