-- What packets cost on a stream: seven numbers, each from the packets and what was told of them.
use Rattle.std.specs.Prelude.{ℕ, ◌+◌, ◌≡◌, List, [], ◌∷◌, Bool, true, false, not, ◌&&◌, ◌||◌, length, get_or, eqb}
use Rattle.wire.specs.Told.{Told, given, refused}
use Rattle.wire.specs.Those.{those}
use Rattle.wire.specs.Stream.{stream_number}
use Rattle.wire.specs.declared.stream.Stream.{Stream}
use Rattle.ble_packet.specs.Header.{is_of}
use Rattle.ble_packet.specs.Reader.{fields_of, is_first}
use Rattle.ble_slot.specs.declared.answer.Accepted.{Accepted}
use Rattle.ble_slot.specs.declared.answer.Accepted.TheVariants.{Taken, Finished, Acked, Nacked}
use Rattle.capture_report.specs.declared.Costs.{Costs}

-- ---- a packet and what was told of it

pub record Heard : Type 0 where
  pub packet : List ℕ
  pub told : Told Accepted

abbrev pub heard : List ℕ → Told Accepted → Heard
heard packet told = record { packet = packet; told = told }

-- a piece was taken, or the last one
abbrev pub accepts : Told Accepted → Bool
accepts (given (Taken index stream id replaced)) = true
accepts (given (Finished index stream id total ack replaced)) = true
accepts (given (Acked head)) = false
accepts (given (Nacked head)) = false
accepts (refused n) = false

-- a transaction is finished
abbrev pub finishes : Told Accepted → Bool
finishes (given (Taken index stream id replaced)) = false
finishes (given (Finished index stream id total ack replaced)) = true
finishes (given (Acked head)) = false
finishes (given (Nacked head)) = false
finishes (refused n) = false

-- it is noted that one is replaced
abbrev pub replaces : Told Accepted → Bool
replaces (given (Taken index stream id replaced)) = replaced
replaces (given (Finished index stream id total ack replaced)) = replaced
replaces (given (Acked head)) = false
replaces (given (Nacked head)) = false
replaces (refused n) = false

-- one is dropped: 10 or 11
abbrev pub drops : Told Accepted → Bool
drops (given a) = false
drops (refused n) = eqb n 10 || eqb n 11

-- the payload bytes of a finished transaction
abbrev pub payload_in : Told Accepted → ℕ
payload_in (given (Taken index stream id replaced)) = 0
payload_in (given (Finished index stream id total ack replaced)) = total
payload_in (given (Acked head)) = 0
payload_in (given (Nacked head)) = 0
payload_in (refused n) = 0

-- stream and id
abbrev pub byte_zero : Heard → ℕ
byte_zero h = get_or h.packet 0 0

-- a first packet, by its type, that was accepted
abbrev pub begins : Heard → Bool
begins h = accepts h.told && is_first (fields_of h.packet)

-- one that did not finish at once
abbrev pub leaves_open : Heard → Bool
leaves_open h = begins h && not (finishes h.told)

-- a transaction of the packet's byte 0 that was open is not so any more: it is replaced, finished or dropped
abbrev pub closes : Heard → Bool
closes h = begins h || (finishes h.told || drops h.told)

-- one of the packets does so to a transaction with this byte 0
abbrev pub closed_in : ℕ → List Heard → Bool
closed_in first [] = false
closed_in first (h ∷ hs) = (closes h && eqb (byte_zero h) first) || closed_in first hs

-- ---- packets, each with those that came after it

pub record Followed : Type 0 where
  pub it : Heard
  pub later : List Heard

abbrev pub followed_in : List Heard → List Followed
followed_in [] = []
followed_in (h ∷ hs) = record { it = h; later = hs } ∷ followed_in hs

-- a transaction that is open at the end
abbrev pub stays_open : Followed → Bool
stays_open f = leaves_open f.it && not (closed_in (byte_zero f.it) f.later)

-- ---- counts and sums

-- those of a stream that pass a test
abbrev pub of_stream : Stream → (Followed → Bool) → List Followed → List Followed
of_stream s test = those (λ (f : Followed). is_of (stream_number s) f.it.packet && test f)

abbrev pub count_of : Stream → (Followed → Bool) → List Followed → ℕ
count_of s test fs = length (of_stream s test fs)

abbrev pub sum_of : {A : Type 0} → (A → ℕ) → List A → ℕ
sum_of weight [] = 0
sum_of weight (x ∷ xs) = weight x + sum_of weight xs

abbrev pub costs_in : Stream → List Followed → Costs
costs_in s fs =
    record {
      firsts = count_of s (λ f. begins f.it) fs;
      finished = count_of s (λ f. finishes f.it.told) fs;
      replaced = count_of s (λ f. replaces f.it.told) fs;
      dropped = count_of s (λ f. drops f.it.told) fs;
      pending = count_of s stays_open fs;
      payload = sum_of (λ (f : Followed). payload_in f.it.told) (of_stream s (λ f. finishes f.it.told) fs);
      bytes = sum_of (λ (f : Followed). length f.it.packet) (of_stream s (λ f. true) fs);
    }

-- what packets cost on a stream
unfoldable pub costs_of : Stream → List Heard → Costs
costs_of s hs = costs_in s (followed_in hs)

-- every first packet that was accepted is finished, replaced, dropped or left open
abbrev pub Balanced : Costs → Type 0
Balanced c = c.firsts ≡ c.finished + c.replaced + c.dropped + c.pending
