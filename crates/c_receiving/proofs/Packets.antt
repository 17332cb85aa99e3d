-- What is told of a packet that is given to the link of a state row is what the call leaves.
use Prim.Native.Nat.{ℕ}
use mathlib.Core.Path.{◌≡◌, refl}
use mathlib.Core.Bool.{Bool, true, false, cond}
use mathlib.Core.List.{List}
use lib.ListN.{length}
use lib.Dec.{eqb}
use Rattle.wire.proofs.Tests.{and_left}
use Rattle.wire.specs.Limit.{limit_fits}
use Rattle.ble_slot.specs.declared.Slot.{Slot}
use Rattle.ble_receiver.specs.Receiver.{call, PacketLeft, ready, accept_of}
use Rattle.c_rows.specs.Row.{byte_or, out_of_range}
use Rattle.c_rows.specs.Called.{Called}
use Rattle.c_receiving.specs.Calls.{AcceptCalled, replied, sizes_fit, receiver_accept_of, link_at, told_row}

-- what is told, with what is left
abbrev pub replied_by : PacketLeft → Called → AcceptCalled
replied_by l c = replied c.number l.slots l.bytes c.answer l.out

cond_same : {A : Type 0} (b : Bool) (x : A) → cond b x x ≡ x
cond_same true x = refl
cond_same false x = refl

module _ (state : List ℕ) (row : List Slot) (lent packet : List ℕ) (sequence : ℕ) (out answer : List ℕ) where
  abbrev given : PacketLeft
  given = accept_of (link_at state (length answer)).limit row lent (call packet (byte_or out_of_range sequence) out)

  told-by : (b : Bool) → sizes_fit state (length answer) ≡ b
      → replied_by given (told_row answer given.told) ≡ receiver_accept_of state row lent packet sequence out answer
  unfolding link_at told_row receiver_accept_of accept_of ready limit_fits
  told-by true e = rw (e, and_left (eqb (length answer) 8) _ e)
  told-by false e = rw (e, cond_same (eqb (length answer) 8) answer)

  pub told-left : replied_by given (told_row answer given.told) ≡ receiver_accept_of state row lent packet sequence out answer
  told-left = told-by (sizes_fit state (length answer)) refl
