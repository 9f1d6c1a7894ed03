use Rattle.std.proofs.Common.{[], ◌∷◌, arith, sym, subst}
use Rattle.std.proofs.lemmas.List.Elements.{All-cons, All-nil}
use Rattle.field_boxes.specs.Headline.Fields.{AreValues}
use Rattle.node_store.specs.Levels.{IsLevel}
use Rattle.fdd_build.specs.Nothing.{AreZeros, IsZero}
use Rattle.fdd_build.specs.Lasting.{zeros_last}
use Rattle.rule_audit.proofs.overlay.+zeros_from.Goals as goal

pub returns-clause-zeros : goal.returns-clause-zeros
returns-clause-zeros t c =
    let built = c.build.new.store in
    let new = c.zeros_from.new.store in
    let id = c.in_ok-id.id in
    let made = c.in_ok-id.ensures in
    let here : IsZero built id = record {
      within = subst IsLevel (sym made.level) c.requires;
      zero = λ values h. made.answers values (subst (λ k. AreValues k values) made.level h);
    } in
    let alone = All-cons (IsZero built) id [] here (All-nil (IsZero built)) in
    let later : IsZero new id = zeros_last built new (id ∷ []) c.in_ok-ids.ensures.grows alone 0 id (omega arith) in
    subst (AreZeros new) (sym c.in_ok-insert.ensures.ok) (All-cons (IsZero new) id c.in_ok-ids.ids.items later c.in_ok-ids.ensures.zeros)
