use Rattle.field_boxes.specs.FilterRules.{IsFilterRule}
use Rattle.edit_session.proofs.Ordering.{all-gathered}
use Rattle.edit_session.proofs.listing.Listing.rules.Goals as goal

pub returns-clause-spelled : goal.returns-clause-spelled
returns-clause-spelled c = all-gathered IsFilterRule c.self.inside.rules c.gather.result c.gather.ensures c.self.invariant.spelled
