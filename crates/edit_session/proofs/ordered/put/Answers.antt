use Rattle.std.proofs.Common.{rules, ◌≡◌, ◌∷◌, ◌++◌, [], arith, length}
use Rattle.edit_session.proofs.Ordering.{is-kept, is-put-in, on-err}
use Rattle.edit_session.proofs.ordered.put.Goals as goal

pub returns-in_err-insert-clause-within : goal.returns-in_err-insert-clause-within
returns-in_err-insert-clause-within c =
    let items : c.extend_from_slice.new.self.items ≡ c.args.kept.now.items ++ c.args.rule.now ∷ [] = search rules in
    let same : c.insert.new.self.items ≡ c.args.places.now.items = search rules in
    (is-kept c.args.kept.now.items c.extend_from_slice.new.self.items c.args.rule.now c.args.places.now.items c.insert.new.self.items items same c.requires.within).0

pub returns-in_err-insert-clause-err : goal.returns-in_err-insert-clause-err
returns-in_err-insert-clause-err c =
    let items : c.extend_from_slice.new.self.items ≡ c.args.kept.now.items ++ c.args.rule.now ∷ [] = search rules in
    let same : c.insert.new.self.items ≡ c.args.places.now.items = search rules in
    on-err c.from_residual-in_err-insert.result (is-kept c.args.kept.now.items c.extend_from_slice.new.self.items c.args.rule.now c.args.places.now.items c.insert.new.self.items items same c.requires.within).1

pub returns-clause-within : goal.returns-clause-within
returns-clause-within c =
    let items : c.extend_from_slice.new.self.items ≡ c.args.kept.now.items ++ c.args.rule.now ∷ [] = search rules in
    let counted : c.in_ok-number.number ≡ length c.args.kept.now.items = omega (arith, c.in_ok-number.ensures, c.len.ensures, c.args.kept.now.ok.0) in
    (is-put-in c.args.kept.now.items c.extend_from_slice.new.self.items c.args.rule.now c.args.places.now.items c.insert.new.self.items c.args.index c.in_ok-number.number items c.in_ok-insert.ensures.items counted
    c.requires.within).0

pub returns-clause-ok : goal.returns-clause-ok
returns-clause-ok c =
    let items : c.extend_from_slice.new.self.items ≡ c.args.kept.now.items ++ c.args.rule.now ∷ [] = search rules in
    let counted : c.in_ok-number.number ≡ length c.args.kept.now.items = omega (arith, c.in_ok-number.ensures, c.len.ensures, c.args.kept.now.ok.0) in
    (is-put-in c.args.kept.now.items c.extend_from_slice.new.self.items c.args.rule.now c.args.places.now.items c.insert.new.self.items c.args.index c.in_ok-number.number items c.in_ok-insert.ensures.items counted
    c.requires.within).1
