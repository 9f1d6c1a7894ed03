use Rattle.std.proofs.Common.{◌≡◌, ◌∷◌, ◌++◌, List, [], ℕ, ap, arith, map, rules, ◌∙◌}
use Rattle.std.proofs.lemmas.List.{map-append}
use Rattle.ternary_words.specs.declared.entry.Entry.{Entry}
use Rattle.ternary_words.specs.Views.{word_of}
use Rattle.ternary_words.specs.Headline.Word.{Trit}
use Rattle.field_boxes.specs.declared.prefix.Prefix.{Prefix}
use Rattle.rule_expansion.specs.Entries.{decided_of}
use Rattle.rule_expansion.proofs.Adding.{asks, one_more, no_more}
use Rattle.rule_expansion.proofs.entries.+add_combinations.Goals as goal

any : Prefix
any = record { value = 0; len = 0 }

pub add_combinations-requires : goal.add_combinations-requires
unfolding any
add_combinations-requires t c =
    let all = asks c.args.covers.now c.cover-item.result c.deref-prefix-items.result.now c.args.chosen c.loop-prefix.prefix-index any (omega arith) c.cover-item.is c.deref-prefix-items.ensures.value c.loop-prefix-test.true c.requires.few c.requires.chosen c.requires.fit in
    (omega (arith, c.decreases, all.0), all.1)

pub loop-prefix-preserved : goal.loop-prefix-preserved
unfolding any
loop-prefix-preserved t c =
    one_more c.args.covers.now c.deref-prefix-items.result.now c.args.chosen c.loop-prefix.prefix-index c.args.decision any (map decided_of c.args.entries.now.items) (map decided_of c.loop-prefix.entries.items) (map decided_of c.add_combinations.new.entries.items)
    (omega arith) c.requires.few (search rules) c.loop-prefix-test.true c.loop-prefix.invariant c.in_ok-add_combinations.ensures

pushed : (before after : List Entry) (e : Entry) (more : List (List Trit × ℕ)) → after ≡ before ++ e ∷ [] → decided_of e ∷ [] ≡ more → map decided_of after ≡ map decided_of before ++ more
pushed before after e more items same = ap (map decided_of) items ∙ map-append decided_of before (e ∷ []) ∙ ap (λ m. map decided_of before ++ m) same

pub returns-in_default : goal.returns-in_default
returns-in_default t c =
    let e : Entry = record { word = c.of-word.result; decision = c.args.decision } in
    pushed c.args.entries.now.items c.push.new.self.items e _ c.in_ok-push.ensures.items
    (no_more c.args.covers.now c.args.chosen c.args.decision (word_of c.of-word.result) (omega (arith, c.in_default.len_below)) (search rules) c.of-word.ensures.trits)
