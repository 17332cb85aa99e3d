-- The open slots of a stream, as the code counts them.
use Prim.Native.Nat.{◌+◌}
use native.Mathlib.Omega.{arith}
use mathlib.Core.Path.{◌≡◌, ◌∙◌}
use mathlib.Core.List.{List, [], ◌∷◌}
use mathlib.Core.Bool.{Bool, true, false, cond}
use lib.ListN.{length, get_or}
use Rattle.wire.specs.Bytes.{bit}
use Rattle.wire.specs.Those.{those}
use Rattle.ble_slot.specs.declared.Slot.{Slot}
use Rattle.ble_slot.specs.Slot.{opens, idle, slots_each}

one_more : (b : Bool) (x : Slot) (l : List Slot) → length (cond b (x ∷ l) l) ≡ bit b + length l
one_more true x l = omega arith
one_more false x l = omega arith

open_more : (x : Slot) (l : List Slot) → length (those opens (x ∷ l)) ≡ bit (opens x) + length (those opens l)
open_more x l = one_more (opens x) x (those opens l)

last_one : (x : Slot) → length (those opens (x ∷ [])) ≡ bit (opens x)
last_one x = open_more x [] ∙ omega arith

pub open-four : (lane : List Slot) → length lane ≡ slots_each
    → bit (opens (get_or lane 0 idle)) + (bit (opens (get_or lane 1 idle)) + (bit (opens (get_or lane 2 idle)) + bit (opens (get_or lane 3 idle)))) ≡ length (those opens lane)
open-four [] n = absurd (omega arith)
open-four (a ∷ []) n = absurd (omega arith)
open-four (a ∷ b ∷ []) n = absurd (omega arith)
open-four (a ∷ b ∷ c ∷ []) n = absurd (omega arith)
open-four (a ∷ b ∷ c ∷ d ∷ []) n =
    let first = open_more a (b ∷ c ∷ d ∷ []) in
    let second = open_more b (c ∷ d ∷ []) in
    let third = open_more c (d ∷ []) in
    let fourth = last_one d in
    omega arith
open-four (a ∷ b ∷ c ∷ d ∷ e ∷ l) n = absurd (omega arith)
