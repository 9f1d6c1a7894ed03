use Rattle.std.proofs.Common.{false, refl, true}
use Rattle.agreement_check.specs.Covers.{entry_word, rule_word}
use Rattle.word_cover.specs.Cubes.{Allows}
use Rattle.agreement_check.specs.Standing.{list_in, own_sides, table_in, taken_in}
use Rattle.agreement_check.proofs.Searching.{half-as, halves-first, within-first}
use Rattle.agreement_check.proofs.join.+missing_among.Goals as goal

pub returns-in_default : goal.returns-in_default
returns-in_default t c =
    within-first (own_sides c.args.claims.now) (taken_in c.args.claims.now) c.args.rules.now c.args.entries.now c.in_ok-rules.rules.items c.in_ok-entries.entries.items c.deref.result.now _ _ _ c.deref.ensures.value
    c.deref-in_default.ensures.value c.deref-in_default-2.ensures.value c.in_ok-rules.ensures c.in_ok-entries.ensures c.missing_of_each.ensures

pub returns : goal.returns
returns t c =
    let s = own_sides c.args.claims.now in
    let taken = taken_in c.args.claims.now in
    let rules = c.in_ok-rules.rules.items in
    let entries = c.in_ok-entries.entries.items in
    let bit = c.in-Some.bit in
    let own = (list_in c.args.claims.now).rules.items in
    let other = (table_in c.args.claims.now).entries.items in
    within-first s taken c.args.rules.now c.args.entries.now rules entries c.deref.result.now rules entries _ c.deref.ensures.value refl refl c.in_ok-rules.ensures c.in_ok-entries.ensures
    (halves-first s taken rules entries c.deref-6.result.now c.deref-7.result.now c.deref-10.result.now c.deref-11.result.now bit c.in_ok-zero.zero c.in_ok-one.one c.earlier.result
    (half-as (λ k. Allows (rule_word own k) bit false) rules c.deref-4.result.now c.in_ok-zero_rules.zero_rules.items c.deref-6.result.now c.deref-4.ensures.value c.deref-6.ensures.value (c.in_ok-zero_rules.ensures own c.requires.words))
    (half-as (λ k. Allows (entry_word other k) bit false) entries c.deref-5.result.now c.in_ok-zero_entries.zero_entries.items c.deref-7.result.now c.deref-5.ensures.value c.deref-7.ensures.value c.in_ok-zero_entries.ensures)
    (half-as (λ k. Allows (rule_word own k) bit true) rules c.deref-8.result.now c.in_ok-one_rules.one_rules.items c.deref-10.result.now c.deref-8.ensures.value c.deref-10.ensures.value (c.in_ok-one_rules.ensures own c.requires.words))
    (half-as (λ k. Allows (entry_word other k) bit true) entries c.deref-9.result.now c.in_ok-one_entries.one_entries.items c.deref-11.result.now c.deref-9.ensures.value c.deref-11.ensures.value c.in_ok-one_entries.ensures)
    c.in_ok-zero.ensures c.in_ok-one.ensures c.earlier.ensures.one c.earlier.ensures.other c.earlier.ensures.either)
