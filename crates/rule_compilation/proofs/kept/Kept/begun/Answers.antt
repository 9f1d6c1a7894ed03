use Rattle.rule_compilation.proofs.kept.Kept.begun.Goals as goal

pub returns : goal.returns
returns c = λ order builder. record { builder = builder; plans = c.new.ensures c.args.store; removal = c.new-2.ensures c.args.store c.new.result }
