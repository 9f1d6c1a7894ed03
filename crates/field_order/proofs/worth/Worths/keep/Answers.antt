use Rattle.std.proofs.Common.{ap, ◌∙◌, sym}
use Rattle.std.specs.Map.{lookup}
use Rattle.field_order.specs.Worth.{same_valued, IsKept}
use Rattle.field_order.proofs.Kept.{kept, valued_is}
use Rattle.field_order.proofs.worth.Worths.keep.Goals as goal

pub returns-in_err-insert : goal.returns-in_err-insert
returns-in_err-insert c = λ nodes worths here key worth h.
    worths key worth (ap (λ es. lookup (same_valued key) es) (sym c.in_err-insert.ensures.err) ∙ h)

pub returns : goal.returns
returns c = λ nodes worths here.
    kept same_valued valued_is (IsKept nodes) (λ k. lookup (same_valued k) c.args.self.now.known.entries) (λ k. lookup (same_valued k) c.insert.new.self.entries) c.args.key c.args.worth
    c.in_ok-insert.ensures.updates.0 worths here
