use Rattle.std.proofs.Common.{◌≡◌, ◌<◌, ◌≤◌, length, min, length-take-le, true, ℕ, ap, arith, sym, ◌∙◌}
use Rattle.std.proofs.lemmas.Map.Text.{text_keys}
use Rattle.std.proofs.lemmas.Grind.{common_steps}
use Rattle.std.specs.BTreeMap.{get_by_text}
use Rattle.razor_base.specs.Standing.{all_at, left_over}
use Rattle.razor_base.proofs.Told.{told_none, told_read}
use Rattle.razor_base.proofs.calm_desk.CalmDeskDesk.read.Goals as goal

pub returns-in-Some-clause-same : goal.returns-in-Some-clause-same
returns-in-Some-clause-same c = λ other apart. let e : get_by_text (c.get_mut.follows.lender c.read-count.new.self) other ≡ get_by_text c.args.self.now.inputs other = grind (arith, text_keys) in ap all_at e

pub invariant_of-self : goal.invariant_of-self
invariant_of-self c =
    let desk = c.args.self.now in
    let piece = c.read-count.new.piece in
    let left = length (left_over c.in-Some.input.now) in
    let size : length piece ≡ length c.args.piece.now = c.read-count.auto.piece in
    let counted : c.read-count.result ≡ min (min (length piece) 18446744073709551615) left = c.read-count.ensures.count ∙ sym (ap (λ (k : ℕ). min (min k 18446744073709551615) left) size) in
    let some : 0 < length piece = grind (arith, size, c.is_empty.ensures, c.if-is_empty.false) in
    let within : c.read-count.result ≤ length piece = grind (arith, common_steps, counted) in
    let new = get_by_text (c.get_mut.follows.lender c.read-count.new.self) in
    record {
      told = told_read true desk.history.reads c.note.new.self.reads c.args.name.now c.read-count.new.piece c.read-count.result 18446744073709551615 (grind (arith)) (get_by_text desk.inputs) new desk.told (λ other apart. grind (arith, text_keys)) c.in-Some.input.now c.read-count.new.self (grind (arith, text_keys)) (grind (arith, text_keys))
          c.read-count.ensures.all c.read-count.ensures.moved c.read-count.ensures.place (length-take-le c.read-count.result piece within) counted some (omega arith);
    }

pub invariant_of-self-in-None : goal.invariant_of-self-in-None
invariant_of-self-in-None c =
    let desk = c.args.self.now in
    record { told = told_none desk.history.reads c.note-in-None.new.self.reads c.args.name.now (grind (arith)) (get_by_text desk.inputs) (get_by_text c.get_mut.follows.lender-at-none) desk.told (λ n. grind (arith, text_keys)) (grind (arith, text_keys)) }
