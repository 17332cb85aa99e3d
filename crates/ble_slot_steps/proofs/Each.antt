-- What holds of each step that a packet can make holds of the one that it makes.
use Prim.Native.Nat.{ℕ, ◌+◌}
use mathlib.Core.Path.{◌≡◌, refl}
use mathlib.Core.Bool.{Bool, not}
use lib.Dec.{eqb}
use Rattle.std.specs.Prelude.{Option, None, Some}
use Rattle.wire.specs.Told.{refused}
use Rattle.wire.proofs.Tests.{by_cond}
use Rattle.ble_packet.specs.declared.reader.Head.{Head}
use Rattle.ble_packet.specs.Header.{sequence_after}
use Rattle.ble_slot.specs.declared.Slot.{Slot}
use Rattle.ble_slot_steps.specs.declared.PayloadPlace.{PayloadPlace}
use Rattle.ble_slot_steps.specs.Step.{Step, Act, still, step, finish, hold, drop_by, first_step, off_total, next_step, at_spot}

-- of a packet with this head
pub record EachStep (h : Head) (P : Step → Type 0) : Type 0 where
  pub finished : (at : ℕ) (wanted : Bool) (total : ℕ) (replaced : Bool) (payload : PayloadPlace) → P (finish at h wanted total replaced payload)
  pub held : (at : ℕ) (wanted : Bool) (total : ℕ) (replaced : Bool) (payload : PayloadPlace) → P (hold at h wanted total replaced payload)
  pub ten : P (drop_by 10)
  pub eleven : P (drop_by 11)

module _ {h : Head} (P : Step → Type 0) (each : EachStep h P) (at : ℕ) (s : Slot) where
  pub first-each : (ack : Bool) (total start len : ℕ) → P (first_step at s h ack total start len)
  unfolding first_step
  first-each ack total start len =
      by_cond P (eqb len total) _ _ (λ _. each.finished at _ total _ _) (λ _. each.held at _ total _ _)

  pub next-each : (ack last : Bool) (start len : ℕ) → P (next_step at s h ack last start len)
  unfolding next_step
  next-each ack last start len =
      by_cond P (not (eqb h.sequence (sequence_after s.sequence 1))) _ _ (λ _. each.ten) (λ _.
      by_cond P (off_total last (s.held + len) s.total) _ _ (λ _. each.eleven) (λ _.
      by_cond P last _ _ (λ _. each.finished at _ s.total _ _) (λ _. each.held at _ s.total _ _)))

-- a step at the spot that was found, or a refusal
pub at_each : (Q : Act → Type 0) (n : ℕ) (f : ℕ → Step) (o : Option ℕ) → Q (still (refused n)) → ((spot : ℕ) → o ≡ Some spot → Q (step spot (f spot)))
    → Q (at_spot n f o)
at_each Q n f None r h = r
at_each Q n f (Some spot) r h = h spot refl
