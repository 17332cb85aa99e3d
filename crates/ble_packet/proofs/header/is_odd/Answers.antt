use Prim.Native.Nat.{◌-◌, ◌*◌, ◌/◌, ◌%◌}
use mathlib.Core.Path.{◌≡◌}
use native.Mathlib.Omega.{arith}
use Rattle.ble_packet.proofs.header.is_odd.Goals as goal

pub returns : goal.returns
returns c =
    let n = c.args.n in
    let rest : n - n / 2 * 2 ≡ n % 2 = omega arith in
    rw rest
