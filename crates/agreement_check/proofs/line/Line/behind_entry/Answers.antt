use Rattle.std.proofs.Common.{◌≡◌, ◌∙◌, [], ap, arith, codes, length, subst}
use Rattle.agreement_check.specs.Claims.{entry_claim}
use Rattle.agreement_check.specs.Covers.{Claim}
use Rattle.agreement_check.specs.Covering.{StandsFor}
use Rattle.agreement_check.specs.Standing.{own_sides}
use Rattle.agreement_check.proofs.Lines.{entry-begun, no-entry, other-word, same-word}
use Rattle.agreement_check.proofs.line.Line.behind_entry.Goals as goal

pub returns-then-ne-clause-behind : goal.returns-then-ne-clause-behind
returns-then-ne-clause-behind c = λ more.
    no-entry c.args.claims.now c.args.word.now more c.requires.entry (other-word c.args.word.now (codes "e") c.as_slice.result.now c.ne.result c.ne.ensures c.if-ne.true c.as_slice.ensures)

pub returns-clause-behind : goal.returns-clause-behind
returns-clause-behind c =
    let claims = c.args.claims.now in
    let s = own_sides claims in
    let cover = c.begin.new.self in
    let place : c.len.result ≡ length claims.entries.items = omega (arith, c.len.ensures, claims.entries.ok.0) in
    let stands : StandsFor s (entry_claim s (length claims.entries.items)) [] cover = subst (λ (x : Claim). StandsFor s x [] cover) (c.entry_task-task.ensures ∙ ap (entry_claim s) place) (c.in_ok-begin.ensures.stands s) in
    entry-begun claims c.args.self.now.numbers.items cover c.args.word.now c.requires.entry (same-word c.args.word.now (codes "e") c.as_slice.result.now c.ne.result c.ne.ensures c.if-ne.false c.as_slice.ensures) stands
