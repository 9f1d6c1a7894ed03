use Rattle.std.proofs.Common.{◌≡◌, ◌<◌, ◌∙◌, Option, None, Some, length, ap, arith, subst, sym, ℕ, cond, slice_index_or}
use Rattle.std.specs.HashMap.{get}
use Rattle.std.proofs.lemmas.List.{get_or_read}
use Rattle.bit_merge.specs.Index.{same_word}
use Rattle.bit_merge.specs.Slots.{Slots, at, IsFirstOfItsWord}
use Rattle.ternary_words.specs.declared.word.Word.{Word}
use Rattle.bit_merge.proofs.Indexed.{indexed-taken}
use Rattle.bit_merge.proofs.places.Places.take.Goals as goal

pub invariant_of-self-2 : goal.invariant_of-self-2
invariant_of-self-2 c =
    let words = c.self.inside.words.items in
    let next = c.self.inside.next.items in
    let p = c.args.place in
    let w = c.in-Some.word in
    let old = λ (q : Word). get same_word c.self.inside.least q in
    let new = λ (q : Word). get same_word c.lead_to.new.least q in
    let within = subst (λ (s : Slots). p < length s) (sym c.self.view_is) c.requires.within in
    let first = subst (λ (s : Slots). IsFirstOfItsWord s p) (sym c.self.view_is) c.requires.first in
    let here : at words p ≡ Some w = sym (get_or_read words p c.index.result.now within c.index.ensures None) ∙ c.in-Some.is in
    let link : c.index-2.result.now ≡ slice_index_or next p None =
    get_or_read next p c.index-2.result.now (omega (arith, within, c.self.invariant.count)) c.index-2.ensures None in
    indexed-taken words old new next p w within here first
    (λ q. c.in_ok-lead_to.ensures.leads q ∙ ap (λ (x : Option ℕ). cond (same_word w q) x (get same_word c.self.inside.least q)) link)
    c.self.invariant
