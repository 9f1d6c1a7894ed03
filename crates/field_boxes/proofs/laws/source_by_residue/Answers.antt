use Rattle.field_boxes.proofs.Residues.{source-residue}
use Rattle.field_boxes.proofs.laws.source_by_residue.Goals as goal

pub returns : goal.returns
returns c = λ f v fields values rules. source-residue f v fields values rules
