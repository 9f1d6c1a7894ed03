use Rattle.std.proofs.Common.{◌∙◌, ℕ, Option, sym, subst}
use Rattle.slot_patch.specs.Finding.{IsNext}
use Rattle.slot_patch.proofs.word_places.WordPlaces.first.Goals as goal

pub returns : goal.returns
returns c = λ entries h.
    let word = c.args.word.now in
    subst (λ (o : Option ℕ). IsNext entries 0 word.mask word.value o) (sym (c.copied.ensures ∙ c.get.ensures.value)) (h.heads word)
