use native.Mathlib.Omega.{arith}
use Rattle.ble_packet.proofs.header.sequence_after.Goals as goal

pub returns : goal.returns
returns c = omega (arith, c.id_bits-2.ensures, c.id_bits.ensures)
