-- What the program why says is expected, and why it says a packet is refused: one table whose rows all hold.
use Rattle.std.specs.Prelude.{ℕ, ◌≡◌, Bool, true, false, cond, Some, None, List, [], ◌∷◌, map}
use Rattle.capture_next.specs.NextPacket.{next_of}
use Rattle.capture_stream.specs.declared.SenderSlot.TheVariants.{Idle, Open}
use Rattle.capture_next.specs.declared.NextPacket.{NextPacket}
use Rattle.ble_packet.specs.declared.reader.Refusal.TheVariants.{Short, UnknownStream, BadControl, Reserved, Length, TotalOver, Empty, AboveTotal}
use Rattle.ble_packet.specs.Reader.{number_of}

-- open, id, sequence, type, length, extender, last
abbrev expected : Bool → ℕ → ℕ → ℕ → ℕ → Bool → Bool → NextPacket
expected opened id sequence kind len extended last =
    record { head = cond opened (Some (record { id = id; sequence = sequence })) None; kind = kind; len = len; extended = extended; last = last }

unfoldable pub next_packets_rows : List (NextPacket × NextPacket)
next_packets_rows =
    -- the program why: pins next_in, next_by, next_of
    (next_of 0 Idle 1, expected false 0 0 0 0 false true)
    ∷ (next_of 21 Idle 0, expected false 0 0 0 0 false true)
    ∷ (next_of 263 Idle 300, expected false 0 0 0 256 true false)
    ∷ (next_of 512 (Open 0 1 6) 0, expected true 0 6 2 1 false true)
    ∷ (next_of 21 (Open 10 256 0) 1, expected true 10 0 1 18 false false)
    ∷ []

-- each call leaves what its row says; the names of a packet's refusals, which the program puts into words, have these numbers
unfoldable pub NextPackets : Type 0
NextPackets =
    (map (λ c. c.0) next_packets_rows ≡ map (λ c. c.1) next_packets_rows)
    × (map number_of (Short ∷ UnknownStream ∷ BadControl ∷ Reserved ∷ Length ∷ TotalOver ∷ Empty ∷ AboveTotal ∷ [])
    ≡ 2 ∷ 3 ∷ 12 ∷ 4 ∷ 5 ∷ 6 ∷ 7 ∷ 8 ∷ [])
