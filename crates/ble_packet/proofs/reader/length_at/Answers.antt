use native.Mathlib.Omega.{arith}
use Rattle.ble_packet.proofs.reader.length_at.Goals as goal

pub returns-then-extended : goal.returns-then-extended
returns-then-extended c = (simp c.if-extended.true (cc), omega arith)

pub returns : goal.returns
returns c = (simp c.if-extended.false (cc), omega arith)
