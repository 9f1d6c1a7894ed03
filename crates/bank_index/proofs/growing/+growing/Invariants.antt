use Rattle.bank_index.proofs.growing.+growing.Given as goal

abbrev pub decreases-grow : goal.decreases-grow
decreases-grow l = l.levels
