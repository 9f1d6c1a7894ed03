use Rattle.std.proofs.Common.{◌≡◌, ◌<◌, ◌∙◌, ℕ, suc, List, length, ap, sym, subst, add-one, arith}
use Rattle.field_boxes.specs.Headline.Names.{text_of}
use Rattle.field_boxes.specs.Names.{name_at}
use Rattle.slot_patch.specs.Naming.{AreNumbersOf, ComeFrom, Grow}
use Rattle.slot_patch.proofs.Renaming.{come-with, grow-on, grow-with, numbers-more}
use Rattle.slot_patch.proofs.names.Names.numbers.Goals as goal

pub loop-number-preserved : goal.loop-number-preserved
loop-number-preserved c =
    let l = c.loop-number in
    let names = c.args.names.now in
    let now = c.number.new.self in
    let text = c.name.result.now in
    let grow : Grow l.self now = subst (λ (ns : List (List ℕ)). Grow l.self ns) (sym c.in_ok-number.ensures.names) (grow-with l.self text) in
    let is : text ≡ text_of (name_at names (suc l.number)) = c.name.ensures ∙ ap (λ (n : ℕ). text_of (name_at names n)) (add-one l.number) in
    let less : l.number < length names = omega (arith, c.loop-number-test.true, c.count-number-end.ensures) in
    record {
      grow = grow-on c.args.self.now l.self now l.invariant.grow grow;
      from = subst (λ (ns : List (List ℕ)). ComeFrom c.args.self.now names ns) (sym c.in_ok-number.ensures.names) (come-with c.args.self.now names l.self l.number text l.invariant.from is less);
      numbers = subst (λ (n : ℕ). AreNumbersOf n names now c.push-in-loop-number.new.self.items) (sym (add-one l.number))
          (numbers-more names l.self now l.numbers.items c.push-in-loop-number.new.self.items l.number c.in_ok-number.field-0 text l.invariant.numbers grow
          c.in_ok-number.ensures.number is less c.in_ok-number.ensures.within c.in_ok-push-2.ensures.items);
    }
