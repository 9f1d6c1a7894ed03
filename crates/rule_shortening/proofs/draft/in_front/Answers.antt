use Rattle.rule_shortening.proofs.Fronts.{front_for}
use Rattle.rule_shortening.proofs.draft.in_front.Goals as goal

pub returns : goal.returns
returns c = λ later h.
    let names = c.args.names.now in
    let rules = c.args.rules.now in
    let own = c.in_ok-entries.entries.items in
    front_for names rules later own c.args.behind.now c.extend_from_slice.new.self.items c.in_ok-entries.ensures (c.decided_words_are_entries.ensures names rules own c.in_ok-entries.ensures c.requires.numbered)
    (c.decided_words_are_prefixes.ensures rules own c.in_ok-entries.ensures) h c.in_ok-extend_from_slice.ensures.items
