use Rattle.std.proofs.Common.{◌≡◌, ◌≤◌, ap, subst, sym, ◌∙◌, length, map, arith, All, IsTrue}
use Rattle.ternary_words.specs.declared.entry.Entry as code_entry
use Rattle.ternary_words.specs.Limits.{AreNumbered}
use Rattle.ternary_words.specs.Views.{entry_of}
use Rattle.table_text.specs.Names.{decided, is_name}
use Rattle.table_text.specs.Seen.{names_seen, with_decided}
use Rattle.table_text.proofs.NamesSeen.{decision_named}
use Rattle.table_text.proofs.Pushed.{pushed_entries, pushed_seen, decided_length, numbered_more}
use Rattle.table_text.proofs.entries.Entries.with_entry.Goals as goal

pub invariant_of-result : goal.invariant_of-result
invariant_of-result c =
    let old = c.args.self.names in
    let new = c.number_of.new.names in
    let es = c.args.self.entries.items in
    let e : code_entry.Entry = record { word = c.args.word; decision = c.in_ok-number.number } in
    let d = decided c.args.decision.now in
    let items = c.in_ok-push.ensures.items in
    let by_decision = decided_length old d in
    let same : length new ≡ length (with_decided old d) = ap length c.in_ok-number.ensures.names in
    let le : length old ≤ length new = omega (arith, same, by_decision.0) in
    record {
      few = omega (arith, c.in_ok-push.ensures.len);
      fewer_names = omega (arith, c.in_ok-push.ensures.len, same, by_decision.1, c.args.self.fewer_names);
      numbered = subst (AreNumbered (length new)) (sym items) (numbered_more (length old) (length new) es e le c.args.self.numbered c.in_ok-number.ensures.within);
      seen = subst (λ xs. names_seen (map (entry_of new) xs) ≡ new) (sym items) (pushed_seen old new es e d c.args.self.numbered c.in_ok-number.ensures.kept c.in_ok-number.ensures.number c.in_ok-number.ensures.names c.args.self.seen);
      named = subst (All (λ name. IsTrue (is_name name))) (sym c.in_ok-number.ensures.names) (decision_named old c.args.decision.now c.args.self.named c.requires.named);
    }

pub returns-clause-entries : goal.returns-clause-entries
returns-clause-entries c =
    let e : code_entry.Entry = record { word = c.args.word; decision = c.in_ok-number.number } in
    ap (map (entry_of c.number_of.new.names)) c.in_ok-push.ensures.items
    ∙ pushed_entries c.args.self.names c.number_of.new.names c.args.self.entries.items e (decided c.args.decision.now) c.args.self.numbered c.in_ok-number.ensures.kept c.in_ok-number.ensures.number
