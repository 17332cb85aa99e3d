use Rattle.c_claims.proofs.NumbersJudged.{numbers-judged}
use Rattle.c_claims.proofs.numbers_judged.Goals as goal

pub returns : goal.returns
returns c = numbers-judged
