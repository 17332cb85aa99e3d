-- A part of the buffer that begins with a message's first bytes begins with more of them once the next piece is written.
use Prim.Native.Nat.{ℕ, ◌+◌, ◌*◌, ◌≤◌}
use native.Mathlib.Omega.{arith}
use mathlib.Core.Path.{◌≡◌, sym, ap, ◌∙◌}
use mathlib.Core.List.{List, ◌++◌}
use lib.ListN.{length, take, drop}
use lib.Seq.{sets, take-add, take-take}
use Rattle.wire.proofs.Stores.{part-stored}
use Rattle.wire.proofs.Parts.{length_part}
use Rattle.ble_receiver.specs.Buffer.{part_start, part_of}

pub part-grows : (limit i at n : ℕ) (d m : List ℕ) → part_start limit i + limit ≤ length d → at + n ≤ length m → length m ≤ limit
    → take at (part_of limit i d) ≡ take at m
    → take (at + n) (part_of limit i (sets d (part_start limit i + at) (take n (drop at m)))) ≡ take (at + n) m
part-grows limit i at n d m hd hn hm e =
    let s : List ℕ = take n (drop at m) in
    let l : length s ≡ n = length_part m at n hn in
    take-take (at + n) limit _ (omega arith)
    ∙ ap (λ (x : ℕ). take (at + x) (drop (i * limit) (sets d (i * limit + at) s))) (sym l)
    ∙ part-stored d (i * limit) at s (omega arith)
    ∙ ap (λ (x : List ℕ). x ++ s) (sym (take-take at limit (drop (i * limit) d) (omega arith)) ∙ e)
    ∙ sym (take-add at n m)
