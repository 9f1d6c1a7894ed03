use Rattle.std.proofs.Common.{false}
use Rattle.razor_base.specs.Headline.Readings.{ended, given}
use Rattle.std.specs.BTreeMap.{get_by_text}
use Rattle.razor_base.proofs.Standings.{text_at}
use Rattle.razor_base.proofs.mem_desk.MemDesk.has_its_texts.Goals as goal

pub returns : goal.returns
returns c = λ name text e. let desk = c.args.self.now in text_at false (get_by_text desk.inputs name) (given desk.history.reads name) (ended desk.history.reads name) text (desk.told name) e
