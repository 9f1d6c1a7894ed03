use Rattle.box_partition.proofs.Certified.{certificate-some, certificate-one}
use Rattle.box_partition.proofs.laws.one_certificate.Goals as goal

pub returns-clause-some : goal.returns-clause-some
returns-clause-some c = λ list table agree. certificate-some c.first_matches_decide.ensures.rule c.first_matches_decide.ensures.entry list table agree

pub returns-clause-one : goal.returns-clause-one
returns-clause-one c = λ list table rows others p q. certificate-one list table rows others p q
