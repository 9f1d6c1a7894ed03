use Rattle.std.proofs.Common.{map}
use Rattle.std.proofs.lemmas.Result.{IfOk-weaker}
use Rattle.ternary_words.specs.Views.{entry_of}
use Rattle.bit_merge.proofs.Merged.{is_closed, is_alike, is_tight}
use Rattle.bit_merge.proofs.table.merge.Goals as goal

pub returns-clause-closed : goal.returns-clause-closed
returns-clause-closed c =
    IfOk-weaker c.merge_runs.result _ _
    (λ out h names distinct numbered. is_closed (map (entry_of names) c.args.entries.items) (map (entry_of names) out.items) (h.merged names distinct numbered))
    (rw c.as_slice.ensures.value at c.merge_runs.ensures)

pub returns-clause-alike : goal.returns-clause-alike
returns-clause-alike c =
    IfOk-weaker c.merge_runs.result _ _
    (λ out h names distinct numbered values. is_alike (map (entry_of names) c.args.entries.items) (map (entry_of names) out.items) values (h.merged names distinct numbered))
    (rw c.as_slice.ensures.value at c.merge_runs.ensures)

pub returns-clause-tight : goal.returns-clause-tight
returns-clause-tight c =
    IfOk-weaker c.merge_runs.result _ _
    (λ out h names distinct numbered tight. is_tight (map (entry_of names) c.args.entries.items) (map (entry_of names) out.items) (h.merged names distinct numbered) tight)
    (rw c.as_slice.ensures.value at c.merge_runs.ensures)
