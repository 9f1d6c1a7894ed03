use Rattle.std.proofs.Common.{◌++◌, ◌∙◌, ℕ, List, length, take, ap, refl, sym, add-one, arith}
use Rattle.std.specs.Option.{option_to_list}
use Rattle.std.proofs.lemmas.Option.{slice_get_read}
use Rattle.ternary_words.specs.declared.entry.Entry.{Entry}
use Rattle.bank_update.specs.Standing.{entries_in}
use Rattle.slot_patch.specs.Ordered.{placed, places}
use Rattle.slot_patch.proofs.Merges.{standing-more}
use Rattle.slot_patch.proofs.standing.standing_in.Goals as goal

pub loop-slot-preserved : goal.loop-slot-preserved
loop-slot-preserved c =
    let l = c.loop-slot in
    let held = c.args.held.now in
    let k = l.slot in
    let x = c.index-held-slot.result in
    let more = standing-more held k x (slice_get_read held (length held) k x refl (omega (arith, c.loop-slot-test.true)) c.index-held-slot.is) in
    record {
      slots = c.in_ok-put.ensures.slots ∙ ap (λ (ns : List ℕ). ns ++ placed x k) l.invariant.slots ∙ sym more.0 ∙ ap (λ (n : ℕ). places 0 (take n held)) (sym (add-one k));
      entries = c.in_ok-put.ensures.entries ∙ ap (λ (es : List Entry). es ++ option_to_list x) l.invariant.entries ∙ sym more.1 ∙ ap (λ (n : ℕ). entries_in (take n held)) (sym (add-one k));
    }
