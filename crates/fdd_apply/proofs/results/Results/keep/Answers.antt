use Rattle.std.proofs.Common.{ap, ◌∙◌, sym}
use Rattle.std.specs.Map.{lookup}
use Rattle.fdd_apply.specs.Applied.{IsApplied}
use Rattle.fdd_apply.specs.Results.{same_pair}
use Rattle.fdd_apply.proofs.Kept.{kept, still}
use Rattle.fdd_apply.proofs.results.Results.keep.Goals as goal

pub returns-in_err-insert-clause-results : goal.returns-in_err-insert-clause-results
returns-in_err-insert-clause-results c = λ f nodes results here pair id h.
    results pair id (ap (λ es. lookup (same_pair pair) es) (sym c.in_err-insert.ensures.err) ∙ h)

pub returns-clause-results : goal.returns-clause-results
returns-clause-results c = λ f nodes results here.
    kept (IsApplied f nodes) (λ k. lookup (same_pair k) c.args.self.now.nodes.entries) (λ k. lookup (same_pair k) c.insert.new.self.entries) c.args.pair c.args.id
    c.in_ok-insert.ensures.updates.0 results here

pub returns-clause-earlier : goal.returns-clause-earlier
returns-clause-earlier c = still (λ k. lookup (same_pair k) c.args.self.now.nodes.entries) (λ k. lookup (same_pair k) c.insert.new.self.entries) c.args.pair c.args.id c.in_ok-insert.ensures.updates.0
