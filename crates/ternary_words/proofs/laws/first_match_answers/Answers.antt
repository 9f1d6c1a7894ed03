use Rattle.ternary_words.proofs.FirstMatch.{first_answers}
use Rattle.ternary_words.proofs.laws.first_match_answers.Goals as goal

pub returns : goal.returns
returns c = λ names values entries. first_answers names values entries
