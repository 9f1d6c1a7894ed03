use Rattle.std.proofs.Common.{◌≡◌, ℕ, List, ap, subst, arith}
use Rattle.partition_check.specs.Claims.{rule_matches, entry_matches}
use Rattle.ternary_words.specs.declared.word.Word.{Word}
use Rattle.table_equiv.specs.Cubes.{IsIn}
use Rattle.table_equiv.proofs.Outcomes.{if_ok}
use Rattle.table_equiv.proofs.Searched.{late-searched, kept-in, halves-at}
use Rattle.table_equiv.proofs.descent.+descend.Goals as goal

pub returns-then-is_late : goal.returns-then-is_late
returns-then-is_late t c = late-searched c.args.sides.now.list.now c.args.sides.now.table.now c.args.cube.now.word c.args.best c.if-is_late.ensures.yes c.requires.apart

pub descend-requires : goal.descend-requires
descend-requires t c =
    let s = c.args.sides.now in
    let w = c.args.cube.now.word in
    let half = c.cube_of.result.word in
    let mask : half.mask ≡ c.halves.result.0.mask = ap (λ (x : Word). x.mask) c.cube_of.ensures in
    let inside : (header : List ℕ) → IsIn half header → IsIn w header = λ header at. c.halves.ensures.in_zero header (subst (λ (x : Word). IsIn x header) c.cube_of.ensures at) in (
      omega (arith, c.decreases, mask, c.halves.ensures.zero, half.narrow),
      (
        kept-in rule_matches (λ r. r.decision) s.list.now.rules.items c.deref.result.now c.args.rules.now c.in_ok-some_rules.some_rules.items c.deref-7.result.now w half c.requires.rules c.in_ok-some_rules.ensures c.deref.ensures.value c.deref-7.ensures.value inside,
        (
          kept-in entry_matches (λ e. e.decision) s.table.now.entries.items c.deref-2.result.now c.args.entries.now c.in_ok-some_entries.some_entries.items c.deref-8.result.now w half c.requires.entries c.in_ok-some_entries.ensures c.deref-2.ensures.value c.deref-8.ensures.value inside,
          c.requires.apart,
        ),
      ),
    )

pub descend-requires-2 : goal.descend-requires-2
descend-requires-2 t c =
    let s = c.args.sides.now in
    let w = c.args.cube.now.word in
    let half = c.cube_of-2.result.word in
    let mask : half.mask ≡ c.halves.result.1.mask = ap (λ (x : Word). x.mask) c.cube_of-2.ensures in
    let inside : (header : List ℕ) → IsIn half header → IsIn w header = λ header at. c.halves.ensures.in_one header (subst (λ (x : Word). IsIn x header) c.cube_of-2.ensures at) in (
      omega (arith, c.decreases, mask, c.halves.ensures.one, half.narrow),
      (
        kept-in rule_matches (λ r. r.decision) s.list.now.rules.items c.deref.result.now c.args.rules.now c.in_ok-some_rules.some_rules.items c.deref-9.result.now w half c.requires.rules c.in_ok-some_rules.ensures c.deref.ensures.value c.deref-9.ensures.value inside,
        (
          kept-in entry_matches (λ e. e.decision) s.table.now.entries.items c.deref-2.result.now c.args.entries.now c.in_ok-some_entries.some_entries.items c.deref-10.result.now w half c.requires.entries c.in_ok-some_entries.ensures c.deref-2.ensures.value c.deref-10.ensures.value inside,
          c.in_ok-better.ensures.apart,
        ),
      ),
    )

pub returns : goal.returns
returns t c =
    let s = c.args.sides.now in
    if_ok c.descend-2.result _ _
    (λ after. halves-at s.list.now s.table.now c.args.cube.now.word c.halves.result.0 c.halves.result.1 c.cube_of.result.word c.cube_of-2.result.word c.args.best c.in_ok-better.better after
    c.halves.ensures.cover c.cube_of.ensures c.cube_of-2.ensures c.in_ok-better.ensures)
    c.descend-2.ensures
