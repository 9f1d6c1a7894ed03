-- A patch is a good plan.
use Rattle.std.proofs.Common.{◌≡◌, ◌≢◌, ◌⊎◌, ◌≤◌, ◌<◌, ℕ, Bool, true, false, List, Option, Some, None, length, if◌then◌else◌, inl, inr, refl, ap, sym, ◌∙◌, subst, arith}
use Rattle.std.specs.Prelude.{is_some, option_and_then}
use Rattle.std.proofs.lemmas.Bool.{cases_lt}
use Rattle.field_boxes.specs.Names.{name_at}
use Rattle.ternary_words.specs.Limits.{AreNumbered}
use Rattle.ternary_words.specs.declared.entry.Entry.{Entry}
use Rattle.tcam_sim.specs.Slots.{look_up}
use Rattle.bank_update.specs.Banks.{least_match}
use Rattle.bank_update.specs.Plans.{FindsNames, IsGood, Plan, after, answer_after, names_between}
use Rattle.bank_update.specs.Sound.{MayBegin}
use Rattle.bank_update.specs.Standing.{Bank, Standing, answer, bank_of, entries_in, is_taken}
use Rattle.bank_update.proofs.Found.{look-stands}
use Rattle.bank_update.proofs.LookUps.{index-got}
use Rattle.bank_update.proofs.OldOrNew.{found_of, settled_found}
use Rattle.bank_update.proofs.Standings.{look-entries, matching, numbered}
use Rattle.slot_patch.specs.Banks.{decided, decision_of}
use Rattle.slot_patch.specs.Naming.{Grow}
use Rattle.slot_patch.specs.Plans.{IsPatch}
use Rattle.slot_patch.proofs.Naming.{named}
use Rattle.slot_patch.proofs.Patches.{turns}
use Rattle.slot_patch.proofs.Renaming.{grown, name-kept}
use Rattle.slot_patch.proofs.Way.{old-or-new}

-- the slot in which a table's entry is found is taken
taken : (slots : List (Option Entry)) (values : List ℕ) (found : ℕ × ℕ) → look_up (bank_of slots) values ≡ Some found → is_taken slots found.0 ≡ true
taken slots values found h =
    let f = found_of numbered (least_match (matching values) slots 0) found (sym (look-entries slots values) ∙ h) in
    ap (λ (v : ℕ × ℕ). is_taken slots v.0) (sym f.2)
    ∙ ap is_some (index-got slots f.0.0 (Some f.0.1) None (look-stands (matching values) slots f.0.0 f.0.1 f.1))

within_case : (table : Standing) (values : List ℕ) (o : Option (ℕ × ℕ)) → AreNumbered (length table.names) (entries_in table.slots) → look_up (bank_of table.slots) values ≡ o → decision_of o ≤ length table.names
within_case table values None all h = omega arith
within_case table values (Some found) all h = settled_found table values found.0 found.1 all h

-- a decision of a table is the number of a name
decided_within : (table : Standing) (values : List ℕ) → AreNumbered (length table.names) (entries_in table.slots) → decided (bank_of table.slots) values ≤ length table.names
decided_within table values all = within_case table values (look_up (bank_of table.slots) values) all refl

-- what is found on the way: a number of an old decision, or what the new table has in that slot
abbrev IsFrom : Standing → Plan → ℕ × ℕ → Type 0
IsFrom old plan found = (found.1 ≤ length old.names) ⊎ ((is_taken plan.new.slots found.0 ≡ true) × (found.1 ≤ length plan.new.names))

name_case : (t : Bool) (old new : List (List ℕ)) (n : ℕ) → Grow old new → n ≤ length old → name_at (if t then new else old) n ≡ name_at new n
name_case true old new n grow small = refl
name_case false old new n grow small = sym (name-kept old new n grow small)

named_as : (old : Standing) (plan : Plan) (found : ℕ × ℕ) → Grow old.names plan.new.names → IsFrom old plan found → name_at (names_between old plan.new found.0) found.1 ≡ name_at plan.new.names found.1
named_as old plan found grow (inl small) = name_case (is_taken plan.new.slots found.0) old.names plan.new.names found.1 grow small
named_as old plan found grow (inr new) = ap (λ t. name_at (if t then plan.new.names else old.names) found.1) new.0

few_case : (t : Bool) (old new : List (List ℕ)) (n : ℕ) → Grow old new → n ≤ length old → n ≤ length (if t then new else old)
few_case true old new n grow small = let more = grown old new grow in omega (arith, small, more)
few_case false old new n grow small = small

few_as : (old : Standing) (plan : Plan) (found : ℕ × ℕ) → Grow old.names plan.new.names → IsFrom old plan found → found.1 ≤ length (names_between old plan.new found.0)
few_as old plan found grow (inl small) = few_case (is_taken plan.new.slots found.0) old.names plan.new.names found.1 grow small
few_as old plan found grow (inr new) = subst (λ t. found.1 ≤ length (if t then plan.new.names else old.names)) (sym new.0) new.1

module _ (old : Standing) (plan : Plan) (patch : IsPatch (bank_of old.slots) (bank_of plan.new.slots) plan.writes) (grow : Grow old.names plan.new.names)
    (all : AreNumbered (length old.names) (entries_in old.slots)) (new_all : AreNumbered (length plan.new.names) (entries_in plan.new.slots)) where
  abbrev at : ℕ → Bank
  at d = after (bank_of old.slots) plan.writes d

  from_old : (values : List ℕ) (found : ℕ × ℕ) → found.1 ≡ decided (bank_of old.slots) values → IsFrom old plan found
  from_old values found h = inl (let small = decided_within old values all in omega (arith, h, small))

  from_way : (d : ℕ) (values : List ℕ) (found : ℕ × ℕ) → look_up (at d) values ≡ Some found →
      (look_up (at d) values ≡ look_up patch.start values) ⊎ (look_up (at d) values ≡ look_up (bank_of plan.new.slots) values) → IsFrom old plan found
  from_way d values found h (inl is) = from_old values found (ap decision_of (sym h ∙ is) ∙ patch.alike values)
  from_way d values found h (inr is) =
      let new = sym is ∙ h in
      inr (taken plan.new.slots values found new, settled_found plan.new values found.0 found.1 new_all new)

  stage_case : (d : ℕ) (values : List ℕ) (found : ℕ × ℕ) → d ≤ length plan.writes → look_up (at d) values ≡ Some found →
      (d < patch.leads.moves) ⊎ (patch.leads.moves ≤ d) → IsFrom old plan found
  stage_case d values found small h (inl low) = from_old values found (ap decision_of (sym h) ∙ patch.leads.stays d low values)
  stage_case d values found small h (inr high) =
      from_way d values found h
      (subst (λ (bank : Bank). (look_up bank values ≡ look_up patch.start values) ⊎ (look_up bank values ≡ look_up (bank_of plan.new.slots) values)) (sym (patch.leads.way d high small))
      (old-or-new values (patch.leads.phase d) patch.start (bank_of plan.new.slots) patch.words))

  from_stage : (d : ℕ) (values : List ℕ) (found : ℕ × ℕ) → d ≤ length plan.writes → look_up (at d) values ≡ Some found → IsFrom old plan found
  from_stage d values found small h = stage_case d values found small h (cases_lt d patch.leads.moves)

  answer_case : (d : ℕ) (values : List ℕ) (o : Option (ℕ × ℕ)) → d ≤ length plan.writes → look_up (at d) values ≡ o →
      option_and_then (λ (found : ℕ × ℕ). name_at (names_between old plan.new found.0) found.1) o ≡ name_at plan.new.names (decision_of o)
  answer_case d values None small h = refl
  answer_case d values (Some found) small h = named_as old plan found grow (from_stage d values found small h)

  answered : (d : ℕ) (values : List ℕ) → d ≤ length plan.writes → answer_after old plan d values ≡ name_at plan.new.names (decided (at d) values)
  answered d values small = answer_case d values (look_up (at d) values) small refl

  as_old : (values : List ℕ) → name_at plan.new.names (decided (bank_of old.slots) values) ≡ answer old values
  as_old values = name-kept old.names plan.new.names (decided (bank_of old.slots) values) grow (decided_within old values all) ∙ named old.names old.slots values

  as_new : (values : List ℕ) → name_at plan.new.names (decided (bank_of plan.new.slots) values) ≡ answer plan.new values
  as_new values = named plan.new.names plan.new.slots values

  two : (d e : ℕ) (values : List ℕ) → d ≤ e → e ≤ length plan.writes → (answer_after old plan d values ≡ answer old values) ⊎ (answer_after old plan e values ≡ answer plan.new values)
  two d e values le small = elim (turns (bank_of old.slots) (bank_of plan.new.slots) plan.writes d e values patch le small) [
    | inl h ↦ inl (answered d values (omega (arith, le, small)) ∙ ap (name_at plan.new.names) h ∙ as_old values)
    | inr h ↦ inr (answered e values small ∙ ap (name_at plan.new.names) h ∙ as_new values)
  ]

  later : (first second was is : Option (List ℕ)) → (first ≡ was) ⊎ (second ≡ is) → is ≢ was → first ≡ is → second ≡ is
  later first second was is (inl h) apart now = absurd (apart (sym now ∙ h))
  later first second was is (inr h) apart now = h

  pub good : IsGood old plan
  good = record {
    old_or_new = λ d values small. two d d values (omega arith) small;
    stays = λ d e values le small apart now.
        later (answer_after old plan d values) (answer_after old plan e values) (answer old values) (answer plan.new values) (two d e values le small) apart now;
    stood = patch.leads.stood;
    ends = patch.leads.ends;
  }

  finds : FindsNames old plan
  finds = λ d values slot decision small h. few_as old plan (slot, decision) grow (from_stage d values (slot, decision) small h)

  pub may : MayBegin old plan
  may = record { good = good; finds = finds; numbered = new_all }
