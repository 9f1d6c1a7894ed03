use Rattle.std.proofs.Common.{arith}
use Rattle.box_partition.proofs.Texts.{text-many}
use Rattle.box_partition.proofs.laws.certificates_are_valid.Goals as goal

pub returns : goal.returns
returns c = λ list table rows is few.
    c.valid_texts_are_good_certificates.ensures.written list table rows is.good (let many = text-many rows in omega (arith, many, few))
