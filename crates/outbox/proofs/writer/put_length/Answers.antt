-- Two bytes of the value, or its two halves as pairs.
use Prim.Native.Nat.{ℕ, ◌-◌, ◌*◌, ◌/◌, ◌%◌}
use mathlib.Core.Path.{◌≡◌, sym, ◌∙◌}
use native.Mathlib.Omega.{arith}
use Rattle.wire.specs.Bytes.{pair_bytes}
use Rattle.wire.proofs.Stores.{sets-append}
use Rattle.outbox.proofs.Number.{bytes_pair, bytes-pairs}
use Rattle.outbox.proofs.writer.put_length.Goals as goal

-- the lower half, as the code takes it
low : (n : ℕ) → n - n / 65536 * 65536 ≡ n % 65536
low n = omega arith

pub returns-in-One : goal.returns-in-One
returns-in-One c = rw (c.in-One.is, bytes_pair c.args.n) c.put_pair.ensures

pub returns-in-Two : goal.returns-in-Two
returns-in-Two c =
    let n = c.args.n in
    rw (c.in-Two.is, bytes-pairs n) (rw (low n) at c.put_pair-in-Two-2.ensures ∙ rw c.put_pair-in-Two.ensures (sym (sets-append c.args.buffer.now c.args.at (pair_bytes (n / 65536)) (pair_bytes (n % 65536)))))
