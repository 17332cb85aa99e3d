-- The reader inverted: a packet of bytes that is read is the one with the fields that were read of it.
use Prim.Native.Nat.{ℕ, suc, ◌+◌, ◌*◌, ◌/◌, ◌%◌, ◌≤◌, ◌<◌}
use native.Mathlib.Omega.{arith}
use native.Mathlib.Nat.{div-div-eq-div-mul, div-add-mod'}
use mathlib.Core.Path.{◌≡◌, refl, sym, ap, ◌∙◌}
use mathlib.Core.List.{List, ◌∷◌, ◌++◌}
use mathlib.Core.Bool.{Bool, true, false, cond, not, ◌&&◌, false≢true}
use lib.ListN.{length, get_or, drop, length-drop}
use lib.Seq.{drop-cons}
use lib.Dec.{eqb}
use borrow.Author.Tests.{eqb-true, eqb-false, not-false}
use Rattle.wire.specs.Told.{given, refused}
use Rattle.wire.specs.Bytes.{AllBytes, pair_of, bit}
use Rattle.wire.specs.Stream.{stream_number, is_stream}
use Rattle.wire.proofs.ByteLists.{byte_low}
use Rattle.wire.proofs.Streams.{number-back}
use Rattle.wire.proofs.Tables.{by-table}
use Rattle.ble_packet.specs.declared.reader.Packet.{Packet}
use Rattle.ble_packet.specs.declared.reader.Packet.TheVariants.{First, Next, Ack, Nack}
use Rattle.ble_packet.specs.Header.{reserved_byte, type_first, type_continuation, type_last, type_control, header_size, length_place, first_byte, second_byte, stream_bits, id_bits, sequence_bits, type_bits, ack_bit, extender_bit}
use Rattle.ble_packet.specs.Reader.{fields_of, content_of, length_at, lines, read_of}
use Rattle.ble_packet.proofs.Reading.{length_in, IfGiven}

-- ---- the two forms of a packet, by its fields

abbrev pub first_packet : ℕ → ℕ → ℕ → Bool → Bool → ℕ → List ℕ → List ℕ
first_packet stream id sequence ack extended total payload =
    first_byte stream id ∷ second_byte sequence type_first ack extended ∷ reserved_byte ∷ total / 256 ∷ total % 256
    ∷ (length_in extended (length payload) ++ payload)

abbrev pub next_packet : ℕ → ℕ → ℕ → Bool → Bool → Bool → List ℕ → List ℕ
next_packet stream id sequence last ack extended payload =
    first_byte stream id ∷ second_byte sequence (cond last type_last type_continuation) ack extended
    ∷ (length_in extended (length payload) ++ payload)

-- ---- bytes

bit_is : (x : ℕ) (b : Bool) → eqb x 1 ≡ b → x < 2 → bit b ≡ x
bit_is x true e l = sym (eqb-true x 1 e)
bit_is x false e l = let d : (x ≡ 1 → ⊥) = eqb-false x 1 e in omega arith

first_byte_lem : (a : ℕ) → first_byte (stream_bits a) (id_bits a) ≡ a
first_byte_lem a = omega arith

sum : (b h q s a k e : ℕ) → h * 2 + e ≡ b → q * 2 + a ≡ h → s * 4 + k ≡ q → s * 16 + k * 4 + a * 2 + e ≡ b
sum b h q s a k e x y z = omega arith

second-byte : (b : ℕ) → b < 256 → second_byte (sequence_bits b) (type_bits b) (ack_bit b) (extender_bit b) ≡ b
second-byte b l =
    let x : bit (ack_bit b) ≡ b / 2 % 2 = bit_is (b / 2 % 2) (ack_bit b) refl (omega arith) in
    let y : bit (extender_bit b) ≡ b % 2 = bit_is (b % 2) (extender_bit b) refl (omega arith) in
    let u : b / 4 * 2 + b / 2 % 2 ≡ b / 2 = rw (div-div-eq-div-mul b 2 2) at (div-add-mod' (b / 2) 2) in
    let v : b / 16 * 4 + b / 4 % 4 ≡ b / 4 = rw (div-div-eq-div-mul b 4 4) at (div-add-mod' (b / 4) 4) in
    let z : b / 16 % 16 ≡ b / 16 = omega arith in
    rw (x, y, z) (sum b (b / 2) (b / 4) (b / 16) (b / 2 % 2) (b / 4 % 4) (b % 2) (div-add-mod' b 2) u v)

-- the payload length, as it stands
length-bytes : (p : List ℕ) → AllBytes p → (at : ℕ) (ext : Bool) (payload : List ℕ) → at + bit ext < length p → drop (at + 1 + bit ext) p ≡ payload → length payload ≡ length_at p at ext
    → drop at p ≡ length_in ext (length payload) ++ payload
length-bytes p bytes at true payload l d e =
    let low : get_or p (suc at) 0 < 256 = byte_low p bytes (suc at) in
    let z : at + 1 ≡ suc at = omega arith in
    let z2 : at + 1 + 1 ≡ suc (suc at) = omega arith in
    let n : length payload ≡ get_or p at 0 * 256 + get_or p (suc at) 0 = rw z at e in
    let q : length payload / 256 ≡ get_or p at 0 = omega arith in
    let r : length payload % 256 ≡ get_or p (suc at) 0 = omega arith in
    rw (q, r, drop-cons p at 0 (omega arith), drop-cons p (suc at) 0 (omega arith)) (rw z2 at (ap (λ (x : List ℕ). get_or p at 0 ∷ get_or p (suc at) 0 ∷ x) d))
length-bytes p bytes at false payload l d e =
    let z : at + 1 + 0 ≡ suc at = omega arith in
    rw (e, drop-cons p at 0 (omega arith)) (rw z at (ap (λ (x : List ℕ). get_or p at 0 ∷ x) d))

-- ---- whole packets

-- where the payload of n bytes begins, and that it is all that follows
payload-size : (p : List ℕ) (start len : ℕ) → length p ≡ start + len → length (drop start p) ≡ len
payload-size p start len e = length-drop start p ∙ omega arith

abbrev number : List ℕ → ℕ
number p = stream_bits (get_or p 0 0)

abbrev second : List ℕ → ℕ
second p = get_or p 1 0

module _ (p : List ℕ) (bytes : AllBytes p) (ext : Bool) (ext-is : extender_bit (second p) ≡ ext) where
  start-bytes : (kind : ℕ) → type_bits (second p) ≡ kind → 2 ≤ length p
      → p ≡ first_byte (number p) (id_bits (get_or p 0 0)) ∷ second_byte (sequence_bits (second p)) kind (ack_bit (second p)) ext ∷ drop 2 p
  start-bytes kind k l =
      let b : second_byte (sequence_bits (second p)) kind (ack_bit (second p)) ext ≡ second p
      = rw (k, ext-is) at (second-byte (second p) (byte_low p bytes 1)) in
      rw (first_byte_lem (get_or p 0 0), b) (drop-cons p 0 0 (omega arith) ∙ ap (λ (x : List ℕ). get_or p 0 0 ∷ x) (drop-cons p 1 0 (omega arith)))

  first-written : type_bits (second p) ≡ type_first → get_or p 2 0 ≡ 0 → length p ≡ header_size true ext + length_at p 5 ext → (x : Bool) → ext ≡ x
      → p ≡ first_packet (number p) (id_bits (get_or p 0 0)) (sequence_bits (second p)) (ack_bit (second p)) x (pair_of (get_or p 3 0) (get_or p 4 0)) (drop (header_size true ext) p)
  first-written k r n x e =
      let len : ℕ = length_at p 5 ext in
      let size : length (drop (header_size true ext) p) ≡ len = payload-size p (header_size true ext) len n in
      let low : get_or p 4 0 < 256 = byte_low p bytes 4 in
      let t : pair_of (get_or p 3 0) (get_or p 4 0) / 256 ≡ get_or p 3 0 = omega arith in
      let u : pair_of (get_or p 3 0) (get_or p 4 0) % 256 ≡ get_or p 4 0 = omega arith in
      let tail : drop 5 p ≡ length_in ext len ++ drop (header_size true ext) p
      = rw size at (length-bytes p bytes 5 ext (drop (header_size true ext) p) (omega arith) refl size) in
      rw (size, ← e, ← tail, t, u)
      (start-bytes type_first k (omega arith)
      ∙ rw (drop-cons p 2 0 (omega arith), drop-cons p 3 0 (omega arith), drop-cons p 4 0 (omega arith), r))

  next-written : (last : Bool) → type_bits (second p) ≡ cond last type_last type_continuation → length p ≡ header_size false ext + length_at p 2 ext → (x : Bool) → ext ≡ x
      → p ≡ next_packet (number p) (id_bits (get_or p 0 0)) (sequence_bits (second p)) last (ack_bit (second p)) x (drop (header_size false ext) p)
  next-written last k n x e =
      let len : ℕ = length_at p 2 ext in
      let size : length (drop (header_size false ext) p) ≡ len = payload-size p (header_size false ext) len n in
      let tail : drop 2 p ≡ length_in ext len ++ drop (header_size false ext) p
      = rw size at (length-bytes p bytes 2 ext (drop (header_size false ext) p) (omega arith) refl size) in
      rw (size, ← e, ← tail) (start-bytes (cond last type_last type_continuation) k (omega arith))

-- ---- through the table

-- the packet is the one that is written from what was read of it, and its payload as long as was read
pub record WrittenBack (p : List ℕ) (len start : ℕ) (whole : List ℕ) : Type 0 where
  pub same_bytes : p ≡ whole
  pub same_size : length (drop start p) ≡ len

abbrev pub WrittenAs : List ℕ → Packet → Type 0
WrittenAs p (First h ack total start len) =
    (extended : Bool) → start ≡ header_size true extended
    → WrittenBack p len start (first_packet (stream_number h.stream) h.id h.sequence ack extended total (drop start p))
WrittenAs p (Next h ack last start len) =
    (1 ≤ len)
    × ((extended : Bool) → start ≡ header_size false extended
    → WrittenBack p len start (next_packet (stream_number h.stream) h.id h.sequence last ack extended (drop start p)))
WrittenAs p (Ack h) = Unit {0}
WrittenAs p (Nack h) = Unit {0}

bit-same : (h : ℕ) (a b : Bool) → h + bit a ≡ h + bit b → a ≡ b
bit-same h true true e = refl
bit-same h true false e = absurd (omega arith)
bit-same h false true e = absurd (omega arith)
bit-same h false false e = refl

kind-is : (k : ℕ) (last : Bool) → k < 4 → eqb k type_control ≡ false → eqb k type_first ≡ false → eqb k type_last ≡ last → k ≡ cond last type_last type_continuation
kind-is k true l c f e = eqb-true k type_last e
kind-is k false l c f e =
    let x : (k ≡ type_control → ⊥) = eqb-false k type_control c in
    let y : (k ≡ type_first → ⊥) = eqb-false k type_first f in
    let z : (k ≡ type_last → ⊥) = eqb-false k type_last e in
    omega arith

some_bytes : (n : ℕ) (b : Bool) → eqb n 0 ≡ b → (b && true) ≡ false → 1 ≤ n
some_bytes n true e f = absurd (false≢true (sym f))
some_bytes n false e f = let d : (n ≡ 0 → ⊥) = eqb-false n 0 e in omega arith

content-written : (p : List ℕ) → AllBytes p → (control first ack last ext : Bool)
    → eqb (type_bits (second p)) type_control ≡ control → eqb (type_bits (second p)) type_first ≡ first → ack_bit (second p) ≡ ack
    → eqb (type_bits (second p)) type_last ≡ last → extender_bit (second p) ≡ ext
    → is_stream (number p) ≡ true
    → (first && not (eqb (get_or p 2 0) 0)) ≡ false
    → (not control && not (eqb (length p) (header_size first ext + length_at p (length_place first) ext))) ≡ false
    → (not control && (eqb (length_at p (length_place first) ext) 0 && not (first && eqb (pair_of (get_or p 3 0) (get_or p 4 0)) 0))) ≡ false
    → WrittenAs p (content_of (fields_of p))
unfolding content_of fields_of
content-written p bytes true first true last ext ec ef ea el ex known r n v = rw (ec, ea) tt
content-written p bytes true first false last ext ec ef ea el ex known r n v = rw (ec, ea) tt
content-written p bytes false true ack last ext ec ef ea el ex known r n v =
    rw (ec, ef, ex, number-back (number p) known) (λ x s.
    let size : length p ≡ header_size true ext + length_at p 5 ext = eqb-true (length p) (header_size true ext + length_at p 5 ext) (not-false _ n) in
    record {
      same_bytes =
          first-written p bytes ext ex (eqb-true (type_bits (second p)) type_first ef) (eqb-true (get_or p 2 0) 0 (not-false _ r)) size x
          (bit-same 6 ext x s);
      same_size = payload-size p (header_size true ext) (length_at p 5 ext) size;
    })
content-written p bytes false false ack last ext ec ef ea el ex known r n v =
    rw (ec, ef, ex, el, number-back (number p) known) (
      some_bytes (length_at p 2 ext) (eqb (length_at p 2 ext) 0) refl v,
      λ x s.
          let size : length p ≡ header_size false ext + length_at p 2 ext = eqb-true (length p) (header_size false ext + length_at p 2 ext) (not-false _ n) in
          record {
            same_bytes =
                next-written p bytes ext ex last (kind-is (type_bits (second p)) last (omega arith) ec ef el) size x
                (bit-same 3 ext x s);
            same_size = payload-size p (header_size false ext) (length_at p 2 ext) size;
          },
    )

-- of every packet of bytes that is told
pub read-written : (limit : ℕ) (p : List ℕ) → AllBytes p → IfGiven (WrittenAs p) (read_of limit p)
unfolding read_of lines fields_of
read-written limit p bytes =
    by-table (IfGiven (WrittenAs p)) (lines limit (fields_of p)) refused (given (content_of (fields_of p))) (λ n. tt) (λ h.
    let h3 = h.1 in
    let h4 = h3.1.1 in
    content-written p bytes (eqb (type_bits (second p)) type_control) (eqb (type_bits (second p)) type_first) (ack_bit (second p)) (eqb (type_bits (second p)) type_last)
    (extender_bit (second p)) refl refl refl refl refl
    (not-false (is_stream (number p)) h3.0) h4.0 h4.1.0 h4.1.1.1.0)
