use Rattle.c_claims.proofs.RowsAgree.{rows_agree}
use Rattle.c_claims.proofs.rows_agree.Goals as goal

pub returns : goal.returns
returns c = rows_agree
