-- An update that has begun, in either way, is one by a plan that leads to the table.
use Rattle.std.proofs.Common.{◌≡◌, ℕ, List, Bool, true, false, Option, Some, None, Result, Ok, Err, length, map, nat_le, if◌then◌else◌, refl, ap, sym, ◌∙◌, ◌+◌, ◌-◌}
use Rattle.ternary_words.specs.Headline.Table as words
use Rattle.ternary_words.specs.Views.{entry_of}
use Rattle.ternary_words.specs.declared.entry.Entry.{Entry}
use Rattle.ternary_words.specs.declared.table.Table.{Table}
use Rattle.bank_update.specs.Machine.{State, Update, begun_by}
use Rattle.bank_update.specs.Plans.{Plan}
use Rattle.bank_update.specs.Standing.{answer, entries_in}
use Rattle.bank_update.specs.Swapping.{Swapping}
use Rattle.bank_update.specs.Whole.{begin_answer, begun, begun_at, free_above, free_below, place_for, place_with, room_for, start_of, total_at, whole}
use Rattle.bank_update.specs.declared.refusal.BeginRefusal.{BeginRefusal}
use Rattle.bank_update.specs.declared.refusal.BeginRefusal.TheVariants as begins
use Rattle.slot_patch.specs.Patching.{IsRefused}
use Rattle.slot_patch.specs.declared.refusal.PatchRefusal.{PatchRefusal}
use Rattle.slot_patch.specs.declared.refusal.PatchRefusal.TheVariants as patches
use Rattle.bank_update.proofs.Standings.{entries-alone}
use Rattle.bank_update.proofs.WholeSwaps.{count-writes}
use Rattle.edit_session.specs.Refusals.{begin_refusal_of, patch_refusal_of}
use Rattle.edit_session.specs.Ways.{HasBegun, InPlace, IsNotBegun, Way, Whole}

-- what a table that is handed over answers
abbrev pub table_answer : Table → List ℕ → Option (List ℕ)
table_answer table values = words.answer (map (entry_of table.names) table.entries.items) values

-- none was pending, and an update by this plan has begun
pub record HasPlan (s new : State) (table : Table) (total : ℕ) : Type 0 where
  pub idle : s.pending ≡ None
  pub plan : Plan
  pub state : new ≡ begun_by s plan
  pub count : total ≡ length plan.writes
  pub leads : (values : List ℕ) → answer plan.new values ≡ table_answer table values

idle_with : (s : State) (wanted total : ℕ) (p : Option Update) → total_at s wanted (place_with p (room_for s.settled wanted)) ≡ Ok total → p ≡ None
idle_with s wanted total None h = refl
idle_with s wanted total (Some u) h = absurd (cc)

whole_by : (s new : State) (table : Table) (total : ℕ) (r : Result ℕ BeginRefusal) → s.pending ≡ None → total_at s (length table.entries.items) r ≡ Ok total →
    new ≡ begun_at s table.entries.items table.names r → HasPlan s new table total
whole_by s new table total (Err refusal) idle h is = absurd (cc)
whole_by s new table total (Ok start) idle h is = record {
  idle = idle;
  plan = whole s.settled start table.entries.items table.names;
  state = is;
  count = (let many : total ≡ length (entries_in s.settled.slots) + length table.entries.items = cc in many) ∙ sym (count-writes s.settled start table.entries.items);
  leads = λ values. ap (λ (es : List Entry). words.answer (map (entry_of table.names) es) values) (entries-alone (length s.settled.slots) start table.entries.items);
}

pub planned : (way : Way) (s new : State) (table : Table) (total : ℕ) → HasBegun way s new table total → HasPlan s new table total
planned Whole s new table total h =
    whole_by s new table total (place_for s (length table.entries.items)) (idle_with s (length table.entries.items) total s.pending h.0) h.0 h.1
planned InPlace s new table total h = record {
  idle = h.idle;
  plan = h.plan;
  state = h.state;
  count = h.count;
  leads = λ values. ap (λ (t : List words.Entry). words.answer t values) h.patch.table;
}

-- a whole swap that is refused where none is pending

whole_case : (s : State) (table : Table) (refusal : BeginRefusal) (below above : Bool) →
    total_at s (length table.entries.items) (if below then Ok (start_of s.settled.slots + length (entries_in s.settled.slots))
    else (if above then Ok (start_of s.settled.slots - length table.entries.items) else Err (begins.NoRoom (free_above s.settled) (free_below s.settled) (length table.entries.items)))) ≡ Err refusal →
    begin_answer s (length table.entries.items) ≡ Err refusal → IsNotBegun Whole s table (begin_refusal_of refusal)
whole_case s table refusal true above h is = absurd (cc)
whole_case s table refusal false true h is = absurd (cc)
whole_case s table begins.Busy false false h is = absurd (cc)
whole_case s table (begins.NoRoom free below wanted) false false h is = is

pub whole-refused : (s : State) (table : Table) (refusal : BeginRefusal) → s.pending ≡ None → begin_answer s (length table.entries.items) ≡ Err refusal → IsNotBegun Whole s table (begin_refusal_of refusal)
whole-refused s table refusal idle h =
    let n = length table.entries.items in
    whole_case s table refusal (nat_le n (free_below s.settled)) (nat_le n (free_above s.settled)) (sym (ap (λ (p : Option Update). total_at s n (place_with p (room_for s.settled n))) idle) ∙ h) h

stays_case : (s : State) (table : Table) (refusal : BeginRefusal) (r : Result ℕ BeginRefusal) → total_at s (length table.entries.items) r ≡ Err refusal → begun_at s table.entries.items table.names r ≡ s
stays_case s table refusal (Ok start) h = absurd (cc)
stays_case s table refusal (Err other) h = refl

pub whole-stays : (s : State) (table : Table) (refusal : BeginRefusal) → begin_answer s (length table.entries.items) ≡ Err refusal → begun s table.entries.items table.names ≡ s
whole-stays s table refusal h = stays_case s table refusal (place_for s (length table.entries.items)) h

pub same-swapping : {V : Type 0} (a b : Swapping V) → a.device ≡ b.device → a.state ≡ b.state → a ≡ b
same-swapping {V = V} a b device state =
    ap (λ (d : V). let x : Swapping V = record { device = d; state = a.state } in x) device
    ∙ ap (λ (s : State). let x : Swapping V = record { device = b.device; state = s } in x) state

-- a patch that is refused where none is pending
pub patch-refused : (s : State) (table : Table) (refusal : PatchRefusal) → s.pending ≡ None → IsRefused s table refusal → IsNotBegun InPlace s table (patch_refusal_of refusal)
patch-refused s table patches.Busy idle h = absurd (h idle)
patch-refused s table (patches.NoRoom needed slots) idle h = h.1
patch-refused s table patches.Memory idle h = tt
