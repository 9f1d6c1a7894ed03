use Rattle.std.proofs.Common.{length}
use Rattle.rule_shortening.proofs.Fronts.{trimmed_for}
use Rattle.rule_shortening.proofs.trimming.trim_for.Goals as goal

pub trim-requires : goal.trim-requires
trim-requires c = c.requires.prefixes

pub returns : goal.returns
returns c =
    trimmed_for (record { numbered = c.parts.ensures.numbered; prefixes = c.parts.ensures.prefixes; fewer = c.parts.ensures.fewer }) (length c.args._names.now) c.args._rules.now c.args.entries.items c.in_ok-trim.field-0.items c.requires c.in_ok-trim.ensures
