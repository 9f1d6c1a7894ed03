use Rattle.std.proofs.Common.{◌≡◌, ◌<◌, Option, None, Some, length, set, subst, sym, ℕ}
use Rattle.std.specs.HashMap.{get}
use Rattle.bit_merge.specs.Index.{same_word, IsIndexed}
use Rattle.bit_merge.specs.Slots.{Slots, at}
use Rattle.ternary_words.specs.declared.word.Word.{Word}
use Rattle.bit_merge.proofs.Indexed.{InFront, indexed-put}
use Rattle.bit_merge.proofs.places.Places.put.Goals as goal

pub invariant_of-self-2 : goal.invariant_of-self-2
invariant_of-self-2 c =
    let words = c.self.inside.words.items in
    let next = c.self.inside.next.items in
    let p = c.args.place in
    let w = c.args.word in
    let old = λ (q : Word). get same_word c.self.inside.least q in
    let new = λ (q : Word). get same_word c.insert.new.self q in
    let within = subst (λ (s : Slots). p < length s) (sym c.self.view_is) c.requires.within in
    let empty = subst (λ (s : Slots). at s p ≡ None) (sym c.self.view_is) c.requires.empty in
    let front = subst (λ (s : Slots). InFront s p w) (sym c.self.view_is) c.requires.front in
    subst (λ (x : Option ℕ). IsIndexed (set words p (Some w)) new (set next p x)) (sym c.in_ok-behind.ensures.old)
    (indexed-put words old new next p w within empty front c.in_ok-behind.ensures.updates.0 c.self.invariant)
