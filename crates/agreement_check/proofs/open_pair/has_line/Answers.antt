use Rattle.std.proofs.Common.{Some, rules, subst, sym, ◌∙◌, ap}
use Rattle.std.proofs.lemmas.Option.{slice_get-get_or}
use Rattle.std.proofs.lemmas.List.Sorted.{IsPartitionPoint-from_clause}
use Rattle.std.specs.Slice.{IsItemAt}
use Rattle.agreement_check.specs.declared.pair.Pair.{Pair}
use Rattle.agreement_check.specs.Pairs.{comes_before}
use Rattle.agreement_check.proofs.Ordered.{no-line, other-line, rising-parted}
use Rattle.agreement_check.proofs.open_pair.has_line.Goals as goal

pub returns-in-Some-clause-no : goal.returns-in-Some-clause-no
returns-in-Some-clause-no c =
    let pairs = c.args.pairs.now in
    let p = c.args.pair.now in
    let point = IsPartitionPoint-from_clause (λ q. comes_before q p) pairs c.partition_point-place.result c.partition_point-place.ensures.partitioned (rising-parted pairs p c.requires) (λ a r q k. search rules) in
    let at = subst (IsItemAt pairs c.partition_point-place.result) c.in-Some.is c.get.ensures.lookup in
    other-line pairs p c.in-Some.other.now c.partition_point-place.result c.eq.result c.requires point (slice_get-get_or pairs c.partition_point-place.result c.in-Some.other.now at.3.0 ∙ ap (λ (x : Pair). Some x) (sym (at.3.1 c.in-Some.other.now))) c.eq.ensures

pub returns-in-None-clause-no : goal.returns-in-None-clause-no
returns-in-None-clause-no c =
    let pairs = c.args.pairs.now in
    let p = c.args.pair.now in
    let point = IsPartitionPoint-from_clause (λ q. comes_before q p) pairs c.partition_point-place.result c.partition_point-place.ensures.partitioned (rising-parted pairs p c.requires) (λ a r q k. search rules) in
    let at = subst (IsItemAt pairs c.partition_point-place.result) c.in-None.is c.get.ensures.lookup in
    no-line pairs p c.partition_point-place.result c.requires point at.3
