use Rattle.std.proofs.Common.{◌≡◌, ◌+◌, refl, subst, ap, ◌∙◌, arith, length}
use Rattle.filter_reader.proofs.SoFar.{IsInterned, flag_counts, name_of_line, read_pushed, so_far_pushed}
use Rattle.filter_reader.proofs.take.add_rule.Goals as goal

pub returns-clause-read : goal.returns-clause-read
returns-clause-read c =
    let old = c.args.names.now in
    let new = c.number_of_decision.new.names in
    let number : c.len.result + 1 ≡ length c.args.rules.now.items + 1 = ap (λ n. n + 1) (c.len.ensures ∙ c.args.rules.now.ok.0) in
    read_pushed {old = old} {new = new} c.in_ok-push.ensures.items c.args.flagged.now c.from.result c.args.rule c.requires.so_far
    (record { source = refl; destination = refl; ports = refl; protocol = refl })
    (subst (λ k. IsInterned old new (name_of_line c.args.rule k) c.in_ok-decision.decision) number (record {
      names = c.in_ok-decision.ensures.names;
      number = c.in_ok-decision.ensures.number;
      within = c.in_ok-decision.ensures.within;
      kept = c.in_ok-decision.ensures.kept;
    }))
    (c.from.ensures ∙ (flag_counts c.args.rule.flagged).0)

pub returns-clause-so_far : goal.returns-clause-so_far
returns-clause-so_far c =
    let old = c.args.names.now in
    let new = c.number_of_decision.new.names in
    let number : c.len.result + 1 ≡ length c.args.rules.now.items + 1 = ap (λ n. n + 1) (c.len.ensures ∙ c.args.rules.now.ok.0) in
    so_far_pushed {old = old} {new = new} c.in_ok-push.ensures.items c.args.flagged.now c.from.result c.args.rule c.requires.so_far c.requires.rule
    (record { source = refl; destination = refl; ports = refl; protocol = refl })
    (subst (λ k. IsInterned old new (name_of_line c.args.rule k) c.in_ok-decision.decision) number (record {
      names = c.in_ok-decision.ensures.names;
      number = c.in_ok-decision.ensures.number;
      within = c.in_ok-decision.ensures.within;
      kept = c.in_ok-decision.ensures.kept;
    }))
    (omega arith)
    (rw c.from.ensures (flag_counts c.args.rule.flagged).1)
