use Rattle.std.proofs.Common.{◌∙◌, ap, map, sym, ◌&&◌, not}
use Rattle.command_words.specs.Files.{all_differ}
use Rattle.command_words.proofs.Fitting.{first_differs}
use Rattle.command_words.proofs.Taking.{behind}
use Rattle.command_words.proofs.files.+all_differ.Goals as goal

pub returns-then-not-has : goal.returns-then-not-has
returns-then-not-has t c =
    let rest = map (λ word. word.now) (behind c.args.words.now) in
    c.all_differ.ensures ∙ sym (first_differs c.args.words.now _ c.has.result c.in-len1-up.len_at_least c.has.ensures ∙ ap (λ b. not b && all_differ rest) c.if-not-has.true)

pub returns-else-not-has : goal.returns-else-not-has
returns-else-not-has t c =
    let rest = map (λ word. word.now) (behind c.args.words.now) in
    ap not c.if-not-has.false ∙ sym (first_differs c.args.words.now _ c.has.result c.in-len1-up.len_at_least c.has.ensures ∙ ap (λ b. not b && all_differ rest) c.if-not-has.false)
