use Prim.Native.Nat.{◌≤◌}
use mathlib.Core.Path.{◌≡◌}
use mathlib.Core.List.{map}
use lib.ListN.{length, take}
use Rattle.proto_field.specs.Signed.{signed_of}
use Rattle.c_message_rows.proofs.convert.signed_list.Given as goal

abbrev pub invariant-loop-i : goal.invariant-loop-i
invariant-loop-i l = (l.i ≤ length l.row) × (length l.list ≡ 8) × (take l.i l.list ≡ map signed_of (take l.i l.row))
