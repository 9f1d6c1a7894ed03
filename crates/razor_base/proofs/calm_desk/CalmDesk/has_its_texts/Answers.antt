use Rattle.std.proofs.Common.{true}
use Rattle.razor_base.specs.Headline.Readings.{ended, given}
use Rattle.std.specs.BTreeMap.{get_by_text}
use Rattle.razor_base.proofs.Standings.{text_or_none}
use Rattle.razor_base.proofs.calm_desk.CalmDesk.has_its_texts.Goals as goal

pub returns : goal.returns
returns c = λ name. let desk = c.args.self.now in text_or_none true (get_by_text desk.inputs name) (given desk.history.reads name) (ended desk.history.reads name) (desk.told name)
