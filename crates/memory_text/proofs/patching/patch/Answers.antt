use Rattle.std.proofs.Common.{List, Option, length, arith, subst, ◌≡◌, ◌≤◌, map}
use Rattle.std.proofs.lemmas.List.{length-map}
use Rattle.ternary_words.specs.Views.{entry_of, table_of}
use Rattle.ternary_words.specs.declared.entry.Entry.{Entry}
use Rattle.slot_patch.specs.Planning.{IsPlanned}
use Rattle.slot_patch.specs.declared.plan.Planned.{Planned}
use Rattle.slot_patch.specs.declared.plan.Planned.TheVariants.{Ready}
use Rattle.bank_update.specs.declared.write.Write.{Write}
use Rattle.table_text.specs.Names.{is_name}
use Rattle.memory_text.specs.Kept.{Extends}
use Rattle.memory_text.specs.Patched.{AreCopies}
use Rattle.memory_text.proofs.Leading.{counted, enough, lacks, leads, within}
use Rattle.memory_text.proofs.patching.patch.Goals as goal
use Rattle.memory_text.proofs.patching.patch.Goals.{In_ok-entries, In_ok-plan, In_ok-writes-in-Ready}

grown : (c : In_ok-entries) → Extends c.args.memory.names c.renumber.new.self
grown c = record { grow = c.renumber.ensures.grow; spelled = λ spelled. c.in_ok-entries.ensures.from is_name spelled c.requires }

planned : (c : In_ok-plan) → IsPlanned c.args.memory.slots.items c.in_ok-entries.entries.items c.in_ok-plan.field-0
planned c =
    subst (λ (slots : List (Option Entry)). IsPlanned slots c.in_ok-entries.entries.items c.in_ok-plan.field-0) c.deref.ensures.value
    (subst (λ (es : List Entry). IsPlanned c.deref.result.now es c.in_ok-plan.field-0) c.deref-2.ensures.value c.in_ok-plan.ensures)

ready : (c : In_ok-plan) (p : Planned) → c.in_ok-plan.field-0 ≡ p → IsPlanned c.args.memory.slots.items c.in_ok-entries.entries.items p
ready c p is = subst (λ (q : Planned). IsPlanned c.args.memory.slots.items c.in_ok-entries.entries.items q) is (planned c)

copies : (c : In_ok-writes-in-Ready) → AreCopies c.in-Ready.plan.writes.items c.in_ok-writes-in-Ready.writes.items
copies c = subst (λ (ws : List Write). AreCopies ws c.in_ok-writes-in-Ready.writes.items) c.deref-in-Ready.ensures.value c.in_ok-writes-in-Ready.ensures

pub invariant_of-result : goal.invariant_of-result
invariant_of-result c =
    let m = c.args.memory in
    let table = c.args.table.now in
    let names = c.renumber.new.self in
    let entries = c.in_ok-entries.entries.items in
    let puts = c.in_ok-writes-in-Ready.writes.items in
    let more = grown (goal.at.invariant_of-result c).In_ok-entries in
    let made = ready (goal.at.invariant_of-result c).In_ok-plan (Ready c.in-Ready.plan) c.in-Ready.is in
    let same = copies (goal.at.invariant_of-result c).In_ok-writes-in-Ready in
    let named = c.in_ok-entries.ensures.names in
    let all : c.len.result ≡ length m.slots.items = omega (arith, c.len.ensures) in
    let new : length (map (entry_of table.names) table.entries.items) ≤ 262144 = omega (arith, table.few, length-map table.entries.items (entry_of table.names)) in
    record {
      some = omega (arith, c.len.ensures, m.some);
      few = omega (arith, c.len.ensures, m.few);
      counted = omega (arith, counted m.names names m.slots.items entries (table_of table) more m.numbered named c.in-Ready.plan puts made same (omega (arith, m.few)) new);
      within = within m.names names m.slots.items entries (table_of table) more m.numbered named c.in-Ready.plan puts made same c.len.result all;
      named = more.spelled m.named;
    }

pub returns-in-Ready : goal.returns-in-Ready
returns-in-Ready c =
    let m = c.args.memory in
    let table = table_of c.args.table.now in
    let names = c.renumber.new.self in
    let entries = c.in_ok-entries.entries.items in
    let puts = c.in_ok-writes-in-Ready.writes.items in
    let more = grown (goal.at.returns-in-Ready c).In_ok-entries in
    let made = ready (goal.at.returns-in-Ready c).In_ok-plan (Ready c.in-Ready.plan) c.in-Ready.is in
    let same = copies (goal.at.returns-in-Ready c).In_ok-writes-in-Ready in
    let named = c.in_ok-entries.ensures.names in
    let all : c.len.result ≡ length m.slots.items = omega (arith, c.len.ensures) in (
      leads m.names names m.slots.items entries table more m.numbered named c.in-Ready.plan puts made same c.len.result m.width.bits all,
      enough m.names names m.slots.items entries table more m.numbered named c.in-Ready.plan puts made same,
    )

pub returns : goal.returns
returns c =
    let m = c.args.memory in
    let names = c.renumber.new.self in
    let entries = c.in_ok-entries.entries.items in
    let made = ready (goal.at.returns c).In_ok-plan _ c.in-NoRoom.is in
    lacks m.names names m.slots.items entries (table_of c.args.table.now) (grown (goal.at.returns c).In_ok-entries) m.numbered c.in_ok-entries.ensures.names c.in-NoRoom.needed made
