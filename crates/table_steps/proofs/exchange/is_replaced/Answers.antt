use Rattle.std.proofs.Common.{◌++◌, List, subst, sym}
use Rattle.std.proofs.lemmas.Bool.{OnTrue_at}
use Rattle.ternary_words.specs.declared.word.Word.{Word}
use Rattle.word_cover.specs.Covers.{AreAmong, Covers}
use Rattle.table_steps.specs.Free.{IsFree, words_of}
use Rattle.table_steps.proofs.Outcomes.{if_yes}
use Rattle.table_steps.proofs.Exchanged.{free-among, free-covered}
use Rattle.table_steps.proofs.exchange.is_replaced.Goals as goal

pub returns-then-branch : goal.returns-then-branch
returns-then-branch c =
    let e = c.args.entry.now in
    let among : AreAmong c.push_entries.new.above.items (words_of c.args.new.now) = rw c.new-words.ensures.items at c.in_ok-push_entries.ensures in
    free-covered c.push_entries.new.above.items (words_of c.args.new.now) (words_of c.args.before.now) c.args.rest.now e.word e.decision among
    (subst (λ (words : List Word). Covers words e.word) c.as_slice.ensures.value (OnTrue_at c.if-branch.true c.in_ok-covered.ensures))

pub returns : goal.returns
returns c =
    let e = c.args.entry.now in
    let new = words_of c.args.new.now in
    let before = words_of c.args.before.now in
    let rest = c.args.rest.now in
    let pushed : AreAmong c.push_entries.new.above.items new = rw c.new-words.ensures.items at c.in_ok-push_entries.ensures in
    let among = subst (λ (words : List Word). AreAmong words new) (sym c.as_slice-2.ensures.value) pushed in
    if_yes c.free_for.result (IsFree (c.as_slice-2.result.now ++ before) rest e.word e.decision) (IsFree (new ++ before) rest e.word e.decision)
    (free-among c.as_slice-2.result.now new before rest e.word e.decision among) c.free_for.ensures
