-- What open means: the packets of some stream end inside a transaction.
use Rattle.std.specs.Prelude.{ℕ, ◌≤◌, ◌<◌, ◌≡◌, ◌↔◌, List, ◌++◌, Bool, true, false, length, take}
use Rattle.wire.specs.Limit.{limit_fits}
use Rattle.wire.specs.Those.{those}
use Rattle.wire.specs.declared.stream.Stream.{Stream}
use Rattle.capture_reader.specs.Capture.{Packets}
use Rattle.ble_sender.specs.Writer.{room_fits}
use Rattle.ble_sender_claims.specs.Calls.{calls_of}
use Rattle.capture_judge_claims.specs.Lawful.{Transaction, Writable, AllWritable, packets_in, carries, AllKnown, LawfulPackets, Viable}

-- transactions one after another, and nothing else
pub record WholeOnes (room limit : ℕ) (s : Stream) (qs : List (List ℕ)) : Type 0 where
  pub sent : List Transaction
  pub writable : AllWritable room limit s sent
  pub packets-are : qs ≡ packets_in limit sent

-- .. and then some of the packets of one more, from its first on, but not all
pub record CutInside (room limit : ℕ) (s : Stream) (qs : List (List ℕ)) : Type 0 where
  pub sent : List Transaction
  pub writable : AllWritable room limit s sent
  pub cut-one : Transaction
  pub cut-writable : Writable room limit s cut-one
  pub come : ℕ
  pub some-come : 1 ≤ come
  pub not-all : come < length (calls_of limit cut-one.how cut-one.payload cut-one.out)
  pub packets-are : qs ≡ packets_in limit sent ++ take come (calls_of limit cut-one.how cut-one.payload cut-one.out)

pub data WholeOrCut (room limit : ℕ) (s : Stream) (qs : List (List ℕ)) : Type 0 where
  whole : WholeOnes room limit s qs → WholeOrCut room limit s qs
  cut : CutInside room limit s qs → WholeOrCut room limit s qs

abbrev pub is_cut : {room limit : ℕ} {s : Stream} {qs : List (List ℕ)} → WholeOrCut room limit s qs → Bool
is_cut (whole w) = false
is_cut (cut c) = true

-- every stream's packets are whole transactions, or are cut inside one, and those of one stream at least are cut
pub record EndsInside (room limit : ℕ) (ps : List (List ℕ)) : Type 0 where
  pub all_known : AllKnown limit ps
  pub each-stream : (s : Stream) → WholeOrCut room limit s (those (carries limit s) ps)
  pub stream : Stream
  pub is_cut : is_cut (each-stream stream) ≡ true

-- packets that are not lawful, and could be continued so, are those that end inside a transaction
abbrev pub OpenIsInside : Type 0
OpenIsInside =
    (room limit : ℕ) (ps : List (List ℕ)) → room_fits room ≡ true → limit_fits limit ≡ true → Packets ps
    → ((Viable room limit ps × ¬ (LawfulPackets room limit ps)) ↔ EndsInside room limit ps)
