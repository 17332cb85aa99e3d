-- The packet at a place of a capture.
use Rattle.std.specs.Prelude.{ℕ, ◌+◌, Bool, cond, ◌||◌, List, [], ◌∷◌, length, drop, eqb, ltb, Option, Some, None, Result}
use Rattle.wire.specs.Told.{given, refused, and_then, line, table}
use Rattle.capture_reader.specs.Capture.{width, ToldAt, located, front_of, other_version, told_at}
use Rattle.capture_reader.specs.Capture as captures
use Rattle.capture_reader.specs.declared.RefusedAt.{RefusedAt}
use Rattle.capture_packet.specs.declared.Refusal.{Refusal}
use Rattle.capture_packet.specs.declared.Refusal.TheVariants.{Place, Capture}
pub use Rattle.capture_packet.specs.declared.FoundPacket.{FoundPacket}

-- a packet at a place: where it starts, how long it is, the place of the next one's length
abbrev pub found_at : ℕ → ℕ → FoundPacket
found_at place n = record { start = place + width; size = n; next = place + width + n }

-- what stands at a place
pub data PacketItem : Type 0 where
  found : FoundPacket → PacketItem
  end : PacketItem

-- 15: a place that is 0 or beyond the bytes
unfoldable pub bad_place : List ℕ → ℕ → Bool
bad_place bytes place = eqb place 0 || ltb (length bytes) place

-- reading at a place: 40, 15, the end at the end, then the packet; 42 and 41 tell the place
unfoldable pub packet_at : List ℕ → ℕ → ToldAt PacketItem
packet_at bytes place =
    table
    (line 40 (other_version bytes) ∷ line 15 (bad_place bytes place) ∷ [])
    (λ n. refused (n, 0))
    (cond (eqb place (length bytes)) (given end) (and_then (located place (front_of (drop place bytes))) (λ n. given (found (found_at place n)))))

-- ---- what the code tells

abbrev pub number_of : Refusal → ℕ
number_of Place = 15
number_of (Capture why) = captures.number_of why

-- a packet, or the end
abbrev pub item_of : Option FoundPacket → PacketItem
item_of (Some f) = found f
item_of None = end

abbrev pub standing_told : Result (Option FoundPacket) (RefusedAt Refusal) → ToldAt PacketItem
standing_told r = and_then (told_at number_of r) (λ standing. given (item_of standing))
