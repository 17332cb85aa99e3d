use Prim.Native.Nat.{◌≤◌}
use mathlib.Core.Path.{◌≡◌}
use lib.ListN.{length, drop}
use Rattle.c_message_rows.specs.Convert.{all_signed}
use Rattle.c_message_rows.proofs.convert.all_signed.Given as goal

abbrev pub invariant-loop-n : goal.invariant-loop-n
invariant-loop-n l = (l.n-index ≤ length l.row) × (all_signed (drop l.n-index l.row) ≡ all_signed l.row)
