use Rattle.std.proofs.Common.{length}
use Rattle.rule_shortening.specs.Drafts.{IsDraftOf}
use Rattle.rule_shortening.proofs.draft.drafted.Given as goal

abbrev pub invariant-loop-later : goal.invariant-loop-later
invariant-loop-later l = IsDraftOf (length l.names) l.rules l.draft
