use Rattle.std.proofs.Common.{Contains, subst, sym}
use Rattle.agreement_check.specs.Covers.{entry_word}
use Rattle.word_cover.specs.Cubes.{Allows, Cube}
use Rattle.agreement_check.specs.Standing.{table_in}
use Rattle.agreement_check.proofs.Outcomes.{decided-no}
use Rattle.agreement_check.proofs.Searching.{contained, kept-turn}
use Rattle.agreement_check.proofs.join.entries_allowing.Goals as goal

pub loop-entry-preserved : goal.loop-entry-preserved
loop-entry-preserved c =
    kept-turn (λ k. Allows (entry_word (table_in c.args.claims.now).entries.items k) c.args.bit c.args.one) c.args.entries.now c.loop-entry.some.items c.keep.new.others.items c.loop-entry.entry-index _
    c.allows.result c.loop-entry-test.true c.in_ok-keep.ensures
    (decided-no c.allows.result _ _ c.allows.ensures (λ no allowed. no (subst (λ (x : Cube). Allows x c.args.bit c.args.one) (sym c.entry_word-word.ensures) allowed))) c.loop-entry.invariant

pub returns : goal.returns
returns c = λ k has allow.
    contained (λ k. Allows (entry_word (table_in c.args.claims.now).entries.items k) c.args.bit c.args.one → Contains c.loop-entry.some.items k) c.args.entries.now c.loop-entry.entry-index c.loop-entry.invariant
    c.loop-entry-test.false k has allow
