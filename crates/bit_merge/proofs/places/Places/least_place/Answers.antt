use Rattle.std.proofs.Common.{◌∙◌, subst, sym}
use Rattle.std.specs.HashMap.{get}
use Rattle.bit_merge.specs.Index.{same_word}
use Rattle.bit_merge.specs.Slots.{Slots, IsLeast, IsWord}
use Rattle.bit_merge.proofs.Indexed.{least-from}
use Rattle.bit_merge.proofs.places.Places.least_place.Goals as goal

pub returns : goal.returns
returns c =
    let words = c.self.inside.words.items in
    let word = c.args.word.now in
    let Fits = IsWord word.mask word.value in
    let least = least-from words Fits (get same_word c.self.inside.least word) (c.self.invariant.heads word) in
    subst (λ (s : Slots). IsLeast s Fits c.copied.result) c.self.view_is (subst (IsLeast words Fits) (sym (c.copied.ensures ∙ c.get.ensures.value)) least)
