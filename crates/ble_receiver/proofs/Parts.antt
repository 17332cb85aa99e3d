-- Laws of the parts of the buffer: a run written in one leaves the others as they are.
use Prim.Native.Nat.{ℕ, suc, ◌+◌, ◌*◌, ◌≤◌, ◌<◌}
use native.Mathlib.Omega.{arith}
use native.Mathlib.Nat.{suc-mul, mul-le-mul_right}
use mathlib.Core.Path.{◌≡◌, refl, ap}
use mathlib.Core.Logic.{◌≢◌}
use mathlib.Core.List.{List}
use mathlib.Core.Bool.{Bool, true, false}
use lib.ListN.{length, take}
use lib.Seq.{sets}
use lib.Dec.{ltb}
use borrow.Author.Tests.{ltb-true, ltb-false}
use Rattle.wire.proofs.Stores.{drop-sets, part-sets}
use Rattle.ble_slot.specs.Slot.{slot_count}
use Rattle.ble_receiver.specs.Buffer.{part_start, part_of}

-- the part of a slot lies within the buffer
pub part-inside : (limit index : ℕ) → index < slot_count → part_start limit index + limit ≤ slot_count * limit
part-inside limit index low =
    let u : suc index * limit ≤ slot_count * limit = mul-le-mul_right limit low in
    omega (arith, suc-mul index limit)

elsewhere-by : (limit i j at : ℕ) (d run : List ℕ) (b : Bool) → ltb i j ≡ b → i ≢ j → at + length run ≤ limit
    → part_of limit i (sets d (part_start limit j + at) run) ≡ part_of limit i d
elsewhere-by limit i j at d run true e other inside =
    let u : suc i * limit ≤ j * limit = mul-le-mul_right limit (ltb-true i j e) in
    part-sets limit (i * limit) d (j * limit + at) run (omega (arith, suc-mul i limit))
elsewhere-by limit i j at d run false e other inside =
    let b : j ≤ i = ltb-false i j e in
    let u : suc j * limit ≤ i * limit = mul-le-mul_right limit (omega arith) in
    ap (take limit) (drop-sets (i * limit) d (j * limit + at) run (omega (arith, suc-mul j limit)))

pub part-elsewhere : (limit i j at : ℕ) (d run : List ℕ) → i ≢ j → at + length run ≤ limit
    → part_of limit i (sets d (part_start limit j + at) run) ≡ part_of limit i d
part-elsewhere limit i j at d run other inside = elsewhere-by limit i j at d run (ltb i j) refl other inside
