use Rattle.std.proofs.Common.{◌≡◌, ◌∙◌, Some, ap, sym, subst}
use Rattle.std.specs.Prelude.{slice_get}
use Rattle.field_boxes.specs.Headline.Bits.{bits}
use Rattle.ternary_words.specs.Headline.Word.{header_bits}
use Rattle.bank_index.specs.Hits.{all_slots, first_of}
use Rattle.bank_index.specs.Tree.{LeadsIn}
use Rattle.bank_index.specs.declared.index.TheConstants.{STEPS}
use Rattle.bank_index.specs.declared.node.Node.TheVariants.{Leaf, Split}
use Rattle.bank_index.proofs.Ways.{leads_on}
use Rattle.bank_index.proofs.index.Index.slots.Goals as goal

pub loop-step-init : goal.loop-step-init
loop-step-init c = (STEPS, c.args.self.now.tree c.key-key.result)

pub next-place-requires : goal.next-place-requires
next-place-requires c =
    let index = c.args.self.now in
    let arm = c.in-Some-Split in
    let way = leads_on c.loop-step.invariant.0 index.nodes.items index.entries.items c.key-key.result (first_of index.entries.items (bits 104 c.key-key.result) (all_slots index.entries.items)) c.loop-step.place
    (Split arm.bit arm.zero arm.one) c.loop-step.invariant.1 (arm.ensures ∙ ap Some arm.field-0-is) in
    way.1.0

pub loop-step-preserved : goal.loop-step-preserved
loop-step-preserved c =
    let index = c.args.self.now in
    let arm = c.in-Some-Split in
    let first = first_of index.entries.items (bits 104 c.key-key.result) (all_slots index.entries.items) in
    let way = leads_on c.loop-step.invariant.0 index.nodes.items index.entries.items c.key-key.result first c.loop-step.place
    (Split arm.bit arm.zero arm.one) c.loop-step.invariant.1 (arm.ensures ∙ ap Some arm.field-0-is) in
    (way.0, subst (λ place. LeadsIn way.0 index.nodes.items index.entries.items c.key-key.result first place) (sym c.next-place.ensures) way.1.1)

pub returns-in-Some-Leaf : goal.returns-in-Some-Leaf
returns-in-Some-Leaf c =
    let index = c.args.self.now in
    let arm = c.in-Some-Leaf in
    let entries = index.entries.items in
    let way = leads_on c.loop-step.invariant.0 index.nodes.items entries c.key-key.result (first_of entries (bits 104 c.key-key.result) (all_slots entries)) c.loop-step.place
    (Leaf arm.slots) c.loop-step.invariant.1 (arm.ensures ∙ ap Some arm.field-0-is) in
    ap (first_of entries (header_bits c.args.header.now.values)) c.deref.ensures.value
    ∙ subst (λ key. first_of entries key arm.slots.items ≡ first_of entries key (all_slots entries)) c.key-key.ensures.bits way.1
