-- What a packet that is read says of its stream, id and type, and by which numbers it is refused.
use Prim.Native.Nat.{ℕ, ◌<◌}
use native.Mathlib.Omega.{arith}
use mathlib.Core.Path.{◌≡◌, refl, sym, ap, ◌∙◌}
use mathlib.Core.List.{List, [], ◌∷◌}
use mathlib.Core.Bool.{Bool, true, false, ◌||◌}
use lib.ListN.{length, get_or}
use lib.Dec.{eqb}
use Rattle.wire.specs.Told.{ToldOf, Told, given, refused, Line, table}
use Rattle.wire.specs.declared.stream.Stream.{Stream}
use Rattle.wire.specs.Stream.{stream_number}
use Rattle.wire.proofs.Tables.{by-table}
use Rattle.wire.proofs.Streams.{number-back}
use Rattle.wire.proofs.Tests.{by_cond}
use Rattle.ble_packet.specs.declared.reader.Packet.{Packet}
use Rattle.ble_packet.specs.declared.reader.Packet.TheVariants.{First, Next, Ack, Nack}
use Rattle.ble_packet.specs.Header.{first_byte, stream_bits, id_bits, is_of}
use Rattle.ble_packet.specs.Reader.{fields_of, is_first, is_control, head_in, content_of, lines, read_of}
use Rattle.ble_packet.proofs.Reading.{LinesPass, IfGiven, read-passes, empty-refused}
use Rattle.ble_receiver.proofs.Apart.{IdOf, read-id}

-- ---- stream and id

-- a packet of a stream and an id
pub record NamedPacket (p : List ℕ) (t : Stream) (id : ℕ) : Type 0 where
  pub of : (s : Stream) → is_of (stream_number s) p ≡ eqb (stream_number t) (stream_number s)
  pub zero_is : get_or p 0 0 ≡ first_byte (stream_number t) id
  pub low : id < 16

abbrev pub NamedBy : List ℕ → Packet → Type 0
NamedBy p y = NamedPacket p (head_in y).stream (head_in y).id

named_by : (limit k b : ℕ) (q : List ℕ) (x : Told Packet) → IfGiven (LinesPass limit k (stream_bits b)) x → IdOf b x → IfGiven (NamedBy (b ∷ q)) x
named_by limit k b q (refused n) g i = tt
named_by limit k b q (given y) g i =
    let z : stream_bits b ≡ stream_number (head_in y).stream
    = sym (number-back (stream_bits b) g.known) ∙ ap stream_number (sym g.named) in
    let v : (head_in y).id ≡ id_bits b = i in
    record { of = λ s. ap (λ (n : ℕ). eqb n (stream_number s)) z; zero_is = omega (arith, z, v); low = omega (arith, v) }

pub read_named : (limit : ℕ) (p : List ℕ) → IfGiven (NamedBy p) (read_of limit p)
read_named limit [] = rw (empty-refused limit) tt
read_named limit (b ∷ q) = named_by limit (length (b ∷ q)) b q (read_of limit (b ∷ q)) (read-passes limit (b ∷ q)) (read-id limit b q)

-- ---- type

abbrev pub KindBy : Bool → Packet → Type 0
KindBy first (First h ack total start len) = first ≡ true
KindBy first (Next h ack last start len) = first ≡ false
KindBy first (Ack h) = Unit {0}
KindBy first (Nack h) = Unit {0}

content-kind : (p : List ℕ) (control first ack : Bool) → is_control (fields_of p) ≡ control → is_first (fields_of p) ≡ first → (fields_of p).ack ≡ ack
    → KindBy first (content_of (fields_of p))
unfolding content_of
content-kind p true first true ec ef ea = rw (ec, ea) tt
content-kind p true first false ec ef ea = rw (ec, ea) tt
content-kind p false true ack ec ef ea = rw (ec, ef) refl
content-kind p false false ack ec ef ea = rw (ec, ef) refl

pub read-kind : (limit : ℕ) (p : List ℕ) → IfGiven (KindBy (is_first (fields_of p))) (read_of limit p)
unfolding read_of
read-kind limit p =
    by-table (IfGiven (KindBy (is_first (fields_of p)))) (lines limit (fields_of p)) refused (given (content_of (fields_of p))) (λ n. tt) (λ h.
    content-kind p (is_control (fields_of p)) (is_first (fields_of p)) (fields_of p).ack refl refl refl)

-- ---- the numbers of refusals

-- a law of each number of a table
abbrev pub Numbers : (ℕ → Type 0) → List Line → Type 0
Numbers Q [] = Unit {0}
Numbers Q (r ∷ rs) = Q r.number × Numbers Q rs

pub by-numbers : {A : Type 0} (P : A → Type 0) (Q : ℕ → Type 0) (rows : List Line) (refuse : ℕ → A) (rest : A)
    → Numbers Q rows → ((n : ℕ) → Q n → P (refuse n)) → P rest → P (table rows refuse rest)
by-numbers P Q [] refuse rest a p q = q
by-numbers P Q (r ∷ rs) refuse rest a p q =
    by_cond P r.holds (refuse r.number) (table rs refuse rest) (λ e. p r.number a.0) (λ e. by-numbers P Q rs refuse rest a.1 p q)

-- a law of what a refusal tells
abbrev pub IfRefused : {N A : Type 0} → (N → Type 0) → ToldOf N A → Type 0
IfRefused Q (given x) = Unit {0}
IfRefused Q (refused n) = Q n

-- neither 10 nor 11
abbrev pub DropsNone : ℕ → Type 0
DropsNone n = (eqb n 10 || eqb n 11) ≡ false

pub read-drops-none : (limit : ℕ) (p : List ℕ) → IfRefused DropsNone (read_of limit p)
unfolding read_of lines
read-drops-none limit p =
    by-numbers (IfRefused DropsNone) DropsNone (lines limit (fields_of p)) refused (given (content_of (fields_of p)))
    (refl, (refl, (refl, (refl, (refl, (refl, (refl, (refl, tt)))))))) (λ n q. q) tt
