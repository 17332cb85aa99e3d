use Prim.Native.Nat.{◌≤◌}
use mathlib.Core.Path.{◌≡◌}
use mathlib.Core.List.{map}
use lib.ListN.{length, take}
use Rattle.proto_field.specs.Signed.{extended}
use Rattle.c_message_rows.proofs.convert.transports_row.Given as goal

abbrev pub invariant-loop-i : goal.invariant-loop-i
invariant-loop-i l = (l.i ≤ 8) × (length l.row ≡ 8) × (take l.i l.row ≡ map extended (take l.i l.list))
