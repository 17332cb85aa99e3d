-- Where a packet ends, by what byte 1 says.
use Prim.Native.Nat.{ℕ, ◌≤◌, ◌<◌}
use native.Mathlib.Omega.{arith}
use mathlib.Core.Path.{◌≡◌, refl, sym, ap, subst, ◌∙◌}
use mathlib.Core.Bool.{Bool, true, false, cond, not, ◌&&◌, false≢true}
use mathlib.Core.List.{List}
use lib.ListN.{length, get_or, take, drop}
use lib.Dec.{eqb, leb}
use lib.Seq.{take_all}
use borrow.Author.Tests.{eq-eqb, ne_eqb, eqb-true, leb-true, leb-false, not-false}
use Rattle.wire.specs.Told.{given, refused}
use Rattle.wire.proofs.Tables.{by-table}
use Rattle.ble_packet.specs.declared.reader.Packet.{Packet}
use Rattle.ble_packet.specs.Header.{type_first, type_control, type_bits, ack_bit, extender_bit}
use Rattle.ble_packet.specs.Control.{ack_size, ack_code, ack_tail}
use Rattle.ble_packet.specs.Reader.{same_bytes, is_acknowledgement, fields_of, content_of, lines, read_of}
use Rattle.ble_packet.proofs.Controls.{tail-bytes}
use Rattle.ble_packet.proofs.Reading.{IfGiven}
use Rattle.ble_packet_end.specs.End.{said_by, said_length, end_of, front_of}

module _ (s : List ℕ) (kind : ℕ) (read : kind ≡ type_bits (get_or s 1 0)) where
  pub control-end : kind ≡ type_control → ack_size ≡ end_of s
  unfolding end_of
  control-end is = sym (ap (λ (b : Bool). cond b ack_size (said_length s)) (ap (λ (k : ℕ). eqb k type_control) (sym read) ∙ eq-eqb kind type_control is))

  pub message-end : (kind ≡ type_control → ⊥) → {extended : Bool} → extended ≡ extender_bit (get_or s 1 0) → said_by s (eqb kind type_first) extended ≡ end_of s
  unfolding end_of said_length
  message-end is-not {extended} e =
      ap (λ (x : Bool). said_by s (eqb kind type_first) x) e
      ∙ ap (λ (k : ℕ). said_by s (eqb k type_first) (extender_bit (get_or s 1 0))) read
      ∙ sym (ap (λ (b : Bool). cond b ack_size (said_length s)) (ap (λ (k : ℕ). eqb k type_control) (sym read) ∙ ne_eqb kind type_control is-not))

-- the packet at the front, within the bytes or not
module _ (limit : ℕ) (s : List ℕ) (end : ℕ) (is-end : end ≡ end_of s) where
  pub front-within : read_of limit (take end s) ≡ front_of limit s
  unfolding front_of
  front-within = ap (λ (n : ℕ). read_of limit (take n s)) is-end

  pub front-beyond : length s ≤ end → read_of limit s ≡ front_of limit s
  front-beyond beyond = sym (ap (read_of limit) (take_all end s beyond)) ∙ front-within

-- ---- a packet that is told ends within the bytes

left-true : (a b : Bool) → (a && b) ≡ true → a ≡ true
left-true true b e = refl
left-true false b e = e

right-true : (a b : Bool) → (a && b) ≡ true → b ≡ true
right-true true b e = e
right-true false b e = absurd (false≢true e)

module _ (s : List ℕ) where
  six : (ack extended : Bool) → is_acknowledgement s ack extended ≡ true → length s ≡ ack_size
  six ack extended e =
      let same = right-true (not extended) (same_bytes (drop 2 s) (ack_tail ack)) e in
      eqb-true (length s) 6 (left-true (eqb (length s) 6) _ (sym (tail-bytes s 0 2 1 (ack_code ack)) ∙ same))

  by-type : (control ack extended : Bool) → (control && not (is_acknowledgement s ack extended)) ≡ false → (not control && not (eqb (length s) (said_length s))) ≡ false
      → length s ≡ cond control ack_size (said_length s)
  by-type true ack extended c m = six ack extended (not-false _ c)
  by-type false ack extended c m = eqb-true (length s) (said_length s) (not-false _ m)

  -- one that is told by itself has as many bytes as it says
  pub read_whole : (limit : ℕ) → IfGiven (λ (x : Packet). length s ≡ end_of s) (read_of limit s)
  unfolding read_of lines fields_of end_of said_length
  read_whole limit =
      by-table (IfGiven (λ (x : Packet). length s ≡ end_of s)) (lines limit (fields_of s)) refused (given (content_of (fields_of s))) (λ n. tt) (λ h.
      by-type (eqb (type_bits (get_or s 1 0)) type_control) (ack_bit (get_or s 1 0)) (extender_bit (get_or s 1 0)) h.1.1.0 h.1.1.1.1.0)

  pub front_ends : (limit : ℕ) (x : Packet) → front_of limit s ≡ given x → end_of s ≤ length s
  front_ends limit x e = by (leb (end_of s) (length s)) refl
    where
      by : (b : Bool) → leb (end_of s) (length s) ≡ b → end_of s ≤ length s
      by true t = leb-true (end_of s) (length s) t
      by false t =
          let over : length s < end_of s = leb-false (end_of s) (length s) t in
          let told = subst (IfGiven (λ (x : Packet). length s ≡ end_of s)) (front-beyond limit s (end_of s) refl (omega arith) ∙ e) (read_whole limit) in
          omega (arith, told)
