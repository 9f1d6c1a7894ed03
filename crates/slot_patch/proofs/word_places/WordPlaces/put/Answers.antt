use Rattle.std.proofs.Common.{◌≡◌, ℕ, Option, Some, None, cond, refl, subst, sym}
use Rattle.std.specs.HashMap.{get}
use Rattle.std.specs.Vec.{with_item}
use Rattle.ternary_words.specs.declared.word.Word.{Word}
use Rattle.slot_patch.specs.Finding.{same_word}
use Rattle.slot_patch.specs.declared.word_places.WordPlaces.{WordPlaces}
use Rattle.slot_patch.proofs.NextPlaces.{places-put}
use Rattle.slot_patch.proofs.word_places.WordPlaces.put.Goals as goal

pub returns : goal.returns
returns c = λ entries entry at word h.
    let before = c.args.self.now in
    let now : WordPlaces = record { first = c.insert.new.self; next = with_item before.next c.args.place c.in_ok-behind.behind } in
    let old = subst (λ (w : Word). c.in_ok-behind.behind ≡ get same_word before.first w) (sym word) c.in_ok-behind.ensures.old in
    let put = subst (λ (w : Word). (q : Word) → get same_word now.first q ≡ cond (same_word w q) (Some c.args.place) (get same_word before.first q)) (sym word) c.in_ok-behind.ensures.updates.0 in
    places-put entries c.args.place entry before now c.in_ok-behind.behind at c.requires old put refl h
