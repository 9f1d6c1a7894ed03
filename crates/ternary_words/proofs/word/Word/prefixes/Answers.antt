use Rattle.ternary_words.proofs.Parted.{has_masks, word_of_parts}
use Rattle.ternary_words.proofs.word.Word.prefixes.Goals as goal

pub returns-in_err-prefix_at : goal.returns-in_err-prefix_at
returns-in_err-prefix_at c =
    let w = c.args.self.now in
    rw c.from_residual.ensures (λ h. c.in_err-prefix_at.ensures (has_masks w.mask w.value h).0)

pub returns-in_err-prefix_at-2 : goal.returns-in_err-prefix_at-2
returns-in_err-prefix_at-2 c =
    let w = c.args.self.now in
    rw c.from_residual-in_err-prefix_at-2.ensures (λ h. c.in_err-prefix_at-2.ensures (has_masks w.mask w.value h).1.0)

pub returns-in_err-prefix_at-3 : goal.returns-in_err-prefix_at-3
returns-in_err-prefix_at-3 c =
    let w = c.args.self.now in
    rw c.from_residual-in_err-prefix_at-3.ensures (λ h. c.in_err-prefix_at-3.ensures (has_masks w.mask w.value h).1.1.0)

pub returns-in_err-prefix_at-4 : goal.returns-in_err-prefix_at-4
returns-in_err-prefix_at-4 c =
    let w = c.args.self.now in
    rw c.from_residual-in_err-prefix_at-4.ensures (λ h. c.in_err-prefix_at-4.ensures (has_masks w.mask w.value h).1.1.1.0)

pub returns-in_err-prefix_at-5 : goal.returns-in_err-prefix_at-5
returns-in_err-prefix_at-5 c =
    let w = c.args.self.now in
    rw c.from_residual-in_err-prefix_at-5.ensures (λ h. c.in_err-prefix_at-5.ensures (has_masks w.mask w.value h).1.1.1.1.0)

pub returns : goal.returns
returns c =
    let w = c.args.self.now in
    word_of_parts w.mask w.value _ _ _ _ _ c.in_ok-prefix_at.ensures c.in_ok-prefix_at-2.ensures c.in_ok-prefix_at-3.ensures c.in_ok-prefix_at-4.ensures c.in_ok-prefix_at-5.ensures
