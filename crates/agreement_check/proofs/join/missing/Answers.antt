use Rattle.std.proofs.Common.{subst}
use Rattle.std.specs.Slice.{IsItemAt}
use Rattle.agreement_check.specs.Standing.{own_sides, taken_in}
use Rattle.agreement_check.proofs.Outcomes.{got-item, got-none}
use Rattle.agreement_check.proofs.Searching.{no-first, one-first, past-first}
use Rattle.agreement_check.proofs.join.missing.Goals as goal

pub is_missing-requires-clause-word : goal.is_missing-requires-clause-word
is_missing-requires-clause-word c =
    let words = c.args.words.now in
    c.requires.words c.args.pair.rule c.in_ok-word.word.now (got-item words c.args.pair.rule c.in_ok-word.word (subst (IsItemAt words c.args.pair.rule) c.in_ok-word.was c.get.ensures.lookup))

pub returns-in_err-word : goal.returns-in_err-word
returns-in_err-word c =
    let words = c.args.words.now in
    rw c.from_residual.ensures
    (past-first (own_sides c.args.claims.now) (taken_in c.args.claims.now) c.args.pair _ _ c.requires.sound.few_rules c.requires.each
    (got-none words c.args.pair.rule (subst (IsItemAt words c.args.pair.rule) c.in_err-word.was c.get.ensures.lookup)))

pub returns-then-is_missing : goal.returns-then-is_missing
returns-then-is_missing c = one-first (own_sides c.args.claims.now) (taken_in c.args.claims.now) c.args.pair c.if-is_missing.ensures.yes

pub returns : goal.returns
returns c = no-first (own_sides c.args.claims.now) (taken_in c.args.claims.now) c.args.pair c.if-is_missing.ensures.no
