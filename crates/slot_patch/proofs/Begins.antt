-- What a plan of the planner leads to, or why there is none.
use Rattle.std.proofs.Common.{◌≡◌, ◌∙◌, ◌∷◌, ℕ, zero, suc, false, List, [], Option, Some, None, length, map, slice_get, refl, ap, sym, subst, arith}
use Rattle.std.specs.Prelude.{is_some, unwrap_or}
use Rattle.std.proofs.lemmas.Option.{unwrap_or-slice_get}
use Rattle.ternary_words.specs.Limits.{AreNumbered}
use Rattle.ternary_words.specs.Views.{entry_of}
use Rattle.ternary_words.specs.declared.entry.Entry.{Entry}
use Rattle.ternary_words.specs.declared.table.Table.{Table}
use Rattle.bank_update.specs.Machine.{State}
use Rattle.bank_update.specs.Standing.{Standing, entries_in, is_taken}
use Rattle.slot_patch.specs.Naming.{Grow, HaveWordsOf}
use Rattle.slot_patch.specs.Patching.{IsPatchTo, IsRefused, IsUnplanned, LacksRoom, plan_of}
use Rattle.slot_patch.specs.Planning.{IsPlanned}
use Rattle.slot_patch.specs.declared.plan.Plan as code
use Rattle.slot_patch.specs.declared.plan.Planned.{Planned}
use Rattle.slot_patch.specs.declared.plan.Planned.TheVariants.{Ready, NoRoom}
use Rattle.slot_patch.specs.declared.refusal.PatchRefusal.{PatchRefusal}
use Rattle.slot_patch.specs.declared.refusal.PatchRefusal.TheVariants as refusals
use Rattle.slot_patch.specs.declared.slot_table.Patch.{Patch}
use Rattle.slot_patch.proofs.Goodness.{may}
use Rattle.slot_patch.proofs.Renaming.{least-alike, length-words}

-- the same of the slots, the entries and the outcome as they are named here
planned_as : {held slots : List (Option Entry)} {given entries : List Entry} {x y : Planned} → x ≡ y → held ≡ slots → given ≡ entries → IsPlanned held given x → IsPlanned slots entries y
planned_as {held = held} {given = given} {entries = entries} {y = y} is same_slots same h =
    subst (λ (s : List (Option Entry)). IsPlanned s entries y) same_slots (subst (λ (es : List Entry). IsPlanned held es y) same (subst (IsPlanned held given) is h))

pub is-patch-to : {held : List (Option Entry)} {given entries : List Entry} {x : Planned} {p : code.Plan} {first : List (List ℕ)} (names : List (List ℕ)) (old : Standing) (table : Table) → x ≡ Ready p →
    IsPlanned held given x → held ≡ old.slots → given ≡ entries → Grow first names → first ≡ old.names → map (entry_of names) entries ≡ map (entry_of table.names) table.entries.items →
    HaveWordsOf entries table.entries.items → AreNumbered (length names) entries → AreNumbered (length old.names) (entries_in old.slots) →
    IsPatchTo old table (plan_of (record { plan = p; names = names }))
is-patch-to {entries = entries} {p = p} names old table is made slots same grow start named words new_all old_all =
    let planned = planned_as is slots same made in
    let patch : Patch = record { plan = p; names = names } in
    let few = planned.0.few in
    let long = length-words entries table.entries.items words in
    let more = subst (λ (ns : List (List ℕ)). Grow ns names) start grow in
    record {
      good = may old (plan_of patch) planned.0.patch more old_all (subst (AreNumbered (length names)) (sym planned.0.entries) new_all);
      slots = planned.0.slots;
      table = ap (λ (es : List Entry). map (entry_of names) es) planned.0.entries ∙ named;
      few = omega (arith, few, long);
      whole = λ room. let most = planned.1 (omega (arith, room, long)) in omega (arith, most, long);
    }

pub lacks-room : {held : List (Option Entry)} {given entries : List Entry} {x : Planned} {needed : ℕ} (old : Standing) (table : Table) (count : ℕ) → x ≡ NoRoom needed → IsPlanned held given x →
    held ≡ old.slots → given ≡ entries → HaveWordsOf entries table.entries.items → count ≡ length old.slots → LacksRoom old table needed count
lacks-room {entries = entries} old table count is made slots same words all =
    let planned = planned_as is slots same made in
    record {
      least = planned.0 ∙ least-alike (entries_in old.slots) entries table.entries.items words;
      all = all;
      less = (let less = planned.1 in omega (arith, less, all));
    }

-- why none begins where none is pending
pub refused : (s : State) (table : Table) (refusal : PatchRefusal) → s.pending ≡ None → IsUnplanned s.settled table refusal → IsRefused s table refusal
refused s table refusals.Busy idle h = absurd h
refused s table (refusals.NoRoom needed slots) idle h = (idle, h)
refused s table refusals.Memory idle h = idle

-- whether a slot of the new table is taken
pub taken : {given xs : List (Option Entry)} (k : ℕ) (held : Option (Option Entry)) → held ≡ slice_get given k → given ≡ xs → is_some (unwrap_or held None) ≡ is_taken xs k
taken {xs = xs} k held h same =
    ap (λ (o : Option (Option Entry)). is_some (unwrap_or o None)) (h ∙ ap (λ (slots : List (Option Entry)). slice_get slots k) same) ∙ ap is_some (unwrap_or-slice_get xs k None)
