use Rattle.std.proofs.lemmas.Result.{IfOk-weaker}
use Rattle.bit_merge.proofs.Parts.{run-merged}
use Rattle.bit_merge.proofs.runs.merge_run.Goals as goal

pub returns : goal.returns
returns c =
    IfOk-weaker c.entries.result _ _
    (λ out e. run-merged c.args.decision c.args.run.now c.in_ok-places.places c.merge_words.new.places out.items c.requires c.in_ok-places.ensures
    c.in_ok-merge_words.ensures.leads c.in_ok-merge_words.ensures.done e) c.entries.ensures
