-- Laws of a packet that is read: what is true of one that passes the table, and which ones pass.
use Prim.Native.Nat.{ℕ, ◌+◌, ◌/◌, ◌%◌, ◌≤◌, ◌<◌}
use native.Mathlib.Omega.{arith}
use native.Mathlib.Nat.{div-add-mod'}
use mathlib.Core.Path.{◌≡◌, refl, ◌∙◌}
use mathlib.Core.Logic.{◌≢◌}
use mathlib.Core.List.{List, [], ◌∷◌, ◌++◌}
use mathlib.Core.Bool.{Bool, true, false, not, cond, ◌&&◌, and-true}
use lib.ListN.{length, get_or}
use lib.Dec.{ltb, eqb}
use borrow.Author.Tests.{eq-eqb, ne_eqb, lt-ltb, le-ltb, eqb-true, eqb-false, ltb-false, not-false}
use Rattle.wire.specs.Told.{Told, given, refused, line, table}
use Rattle.wire.specs.Bytes.{pair_of, pair_bytes}
use Rattle.wire.specs.Stream.{is_stream, stream_of}
use Rattle.wire.proofs.Streams.{number-back, stream-known, stream-back as known-back}
use Rattle.wire.proofs.Tables.{by-table}
use Rattle.ble_packet.specs.declared.reader.Head.{Head}
use Rattle.ble_packet.specs.declared.reader.StartBits.{StartBits}
use Rattle.ble_packet.specs.declared.reader.Packet.{Packet}
use Rattle.ble_packet.specs.declared.reader.Packet.TheVariants.{First, Next, Ack, Nack}
use Rattle.ble_packet.specs.Header.{reserved_byte, type_first, type_continuation, type_last, type_control, header_size, length_place, first_byte, second_byte, stream_bits, type_bits, extender_bit}
use Rattle.ble_packet.specs.Control.{ack_bytes}
use Rattle.ble_packet.specs.Reader.{PacketFields, fields_by, fields_of, is_acknowledgement, length_at, is_first, is_control, head_in, content_of, lines, judged, read_of, start_bits_of, fields_by_start}
use Rattle.ble_packet.proofs.Headers.{stream-back, id-back, sequence-back, type-back, ack-back, extender-back}

-- ---- a packet that passes

abbrev pub HeadLow : Head → Type 0
HeadLow h = (h.id < 16) × (h.sequence < 16)

-- the payload lies within a packet of k bytes, and the numbers within their bounds
abbrev pub PayloadWithin : ℕ → ℕ → Packet → Type 0
PayloadWithin limit k (First h ack total start len) =
    (start + len ≤ k) × (len ≤ total) × (total ≤ limit) × (len ≡ 0 → total ≡ 0) × HeadLow h
PayloadWithin limit k (Next h ack last start len) = (start + len ≤ k) × HeadLow h
PayloadWithin limit k (Ack h) = Unit {0}
PayloadWithin limit k (Nack h) = Unit {0}

-- what is true of a packet that is told
pub record LinesPass (limit k stream : ℕ) (x : Packet) : Type 0 where
  pub within : PayloadWithin limit k x
  pub known : is_stream stream ≡ true
  pub named : (head_in x).stream ≡ stream_of stream

-- a law of what is told, where something is
abbrev pub IfGiven : (Packet → Type 0) → Told Packet → Type 0
IfGiven P (given x) = P x
IfGiven P (refused n) = Unit {0}

only-empty : (len total : ℕ) → (eqb len 0 && not (eqb total 0)) ≡ false → len ≡ 0 → total ≡ 0
only-empty len total h e = eqb-true total 0 (not-false _ (simp (eq-eqb len 0 e) at h))

exact : (size sum : ℕ) → not (eqb size sum) ≡ false → sum ≤ size
exact size sum h = omega (arith, eqb-true size sum (not-false _ h))

-- what the lines that do not hold say, by the type
content-within : (limit : ℕ) (f : PacketFields) (control first ack : Bool)
    → is_control f ≡ control → is_first f ≡ first → f.ack ≡ ack → HeadLow f.head
    → (not control && not (eqb f.size (f.header + f.len))) ≡ false
    → (first && ltb limit f.total) ≡ false
    → (not control && (eqb f.len 0 && not (first && eqb f.total 0))) ≡ false
    → (first && ltb f.total f.len) ≡ false
    → PayloadWithin limit f.size (content_of f)
unfolding content_of
content-within limit f true first true ec ef ea low h5 h6 h7 h8 = rw (ec, ea) tt
content-within limit f true first false ec ef ea low h5 h6 h7 h8 = rw (ec, ea) tt
content-within limit f false true ack ec ef ea low h5 h6 h7 h8 =
    rw (ec, ef)
    (exact f.size (f.header + f.len) h5, ltb-false f.total f.len h8, ltb-false limit f.total h6, only-empty f.len f.total h7, low)
content-within limit f false false ack ec ef ea low h5 h6 h7 h8 = rw (ec, ef) (exact f.size (f.header + f.len) h5, low)

content-head : (f : PacketFields) (control first ack : Bool) → is_control f ≡ control → is_first f ≡ first → f.ack ≡ ack → head_in (content_of f) ≡ f.head
unfolding content_of
content-head f true first true ec ef ea = rw (ec, ea)
content-head f true first false ec ef ea = rw (ec, ea)
content-head f false true ack ec ef ea = rw (ec, ef)
content-head f false false ack ec ef ea = rw (ec, ef)

judged-passes : (limit : ℕ) (f : PacketFields) → HeadLow f.head → f.head.stream ≡ stream_of f.stream
    → IfGiven (LinesPass limit f.size f.stream) (judged limit f)
unfolding lines
judged-passes limit f low named =
    by-table (IfGiven (LinesPass limit f.size f.stream)) (lines limit f) refused (given (content_of f)) (λ n. tt) (λ h.
    let h3 = h.1 in
    let h5 = h3.1.1.1 in
    let h6 = h5.1 in
    record {
      within = content-within limit f (is_control f) (is_first f) f.ack refl refl refl low h5.0 h6.0 h6.1.0 h6.1.1.0;
      known = not-false (is_stream f.stream) h3.0;
      named = rw (content-head f (is_control f) (is_first f) f.ack refl refl refl) named;
    })

-- of every packet that is told
pub read-passes : (limit : ℕ) (p : List ℕ) → IfGiven (LinesPass limit (length p) (stream_bits (get_or p 0 0))) (read_of limit p)
unfolding read_of fields_of
read-passes limit p = judged-passes limit (fields_of p) (omega arith, omega arith) refl

-- ---- the table by type, for a packet that is not short and whose stream is known

judged-control : (limit : ℕ) (f : PacketFields) → f.kind ≡ type_control → is_stream f.stream ≡ true → 2 ≤ f.size
    → judged limit f ≡ table (line 12 (not f.exact) ∷ []) refused (given (cond f.ack (Ack f.head) (Nack f.head)))
unfolding lines content_of
judged-control limit f k known n = simp (k, known, le-ltb f.size 2 n)

judged-first : (limit : ℕ) (f : PacketFields) → f.kind ≡ type_first → is_stream f.stream ≡ true → 2 ≤ f.header → f.header ≤ f.size
    → judged limit f
    ≡ table
    (line 4 (not (eqb f.reserved reserved_byte))
    ∷ line 5 (not (eqb f.size (f.header + f.len)))
    ∷ line 6 (ltb limit f.total)
    ∷ line 7 (eqb f.len 0 && not (eqb f.total 0))
    ∷ line 8 (ltb f.total f.len)
    ∷ [])
    refused
    (given (First f.head f.ack f.total f.header f.len))
unfolding lines content_of
judged-first limit f k known h n = simp (k, known, le-ltb f.size 2 (omega arith), le-ltb f.size f.header n)

judged-next : (limit : ℕ) (f : PacketFields) (last : Bool) → f.kind ≡ cond last type_last type_continuation → is_stream f.stream ≡ true → 2 ≤ f.header → f.header ≤ f.size
    → judged limit f
    ≡ table (line 5 (not (eqb f.size (f.header + f.len))) ∷ line 7 (eqb f.len 0) ∷ []) refused (given (Next f.head f.ack last f.header f.len))
unfolding lines content_of
judged-next limit f true k known h n = simp (k, known, and-true, le-ltb f.size 2 (omega arith), le-ltb f.size f.header n)
judged-next limit f false k known h n = simp (k, known, and-true, le-ltb f.size 2 (omega arith), le-ltb f.size f.header n)

-- ---- the same on what the code reads

pub control-judged : (limit : ℕ) (p : List ℕ) (s : StartBits) → 2 ≤ length p
    → judged limit (fields_by_start p type_control s)
    ≡ table (line 12 (not (is_acknowledgement p s.ack s.extended)) ∷ []) refused (given (cond s.ack (Ack s.head) (Nack s.head)))
control-judged limit p s n =
    judged-control limit (fields_by_start p type_control s) refl (stream-known s.head.stream) n ∙ rw (known-back s.head.stream)

pub first-judged : (limit : ℕ) (p : List ℕ) (s : StartBits) {reserved start len total : ℕ}
    → reserved ≡ get_or p 2 0 → start ≡ header_size true s.extended → len ≡ length_at p (length_place true) s.extended → total ≡ pair_of (get_or p 3 0) (get_or p 4 0)
    → header_size true s.extended ≤ length p
    → judged limit (fields_by_start p type_first s)
    ≡ table
    (line 4 (not (eqb reserved reserved_byte))
    ∷ line 5 (not (eqb (length p) (start + len)))
    ∷ line 6 (ltb limit total)
    ∷ line 7 (eqb len 0 && not (eqb total 0))
    ∷ line 8 (ltb total len)
    ∷ [])
    refused
    (given (First s.head s.ack total start len))
first-judged limit p s er es el et n =
    judged-first limit (fields_by_start p type_first s) refl (stream-known s.head.stream) (omega arith) n ∙ rw (known-back s.head.stream, er, es, el, et)

pub next-judged : (limit : ℕ) (p : List ℕ) (s : StartBits) (last : Bool) {start len : ℕ}
    → start ≡ header_size false s.extended → len ≡ length_at p (length_place false) s.extended
    → header_size false s.extended ≤ length p
    → judged limit (fields_by_start p (cond last type_last type_continuation) s)
    ≡ table (line 5 (not (eqb (length p) (start + len))) ∷ line 7 (eqb len 0) ∷ []) refused (given (Next s.head s.ack last start len))
next-judged limit p s true es el n =
    judged-next limit (fields_by_start p type_last s) true refl (stream-known s.head.stream) (omega arith) n ∙ rw (known-back s.head.stream, es, el)
next-judged limit p s false es el n =
    judged-next limit (fields_by_start p type_continuation s) false refl (stream-known s.head.stream) (omega arith) n ∙ rw (known-back s.head.stream, es, el)

-- two bytes say which fields are read, where the stream is known
pub read-from : (limit : ℕ) (p : List ℕ) (kind : ℕ) (s : StartBits) → kind ≡ type_bits (get_or p 1 0) → is_stream (stream_bits (get_or p 0 0)) ≡ true
    → s ≡ start_bits_of (stream_of (stream_bits (get_or p 0 0))) (get_or p 0 0) (get_or p 1 0)
    → read_of limit p ≡ judged limit (fields_by_start p kind s)
unfolding read_of fields_of
read-from limit p kind s ek known es = rw (ek, es, number-back (stream_bits (get_or p 0 0)) known)

pub no_start : (limit : ℕ) (p : List ℕ) → length p < 2 → read_of limit p ≡ refused 2
unfolding read_of fields_of lines
no_start limit p l = rw (lt-ltb (length p) 2 l)

-- too short for its header
abbrev pub headless : ℕ → ℕ → Bool → Bool
headless size kind extended = not (eqb kind type_control) && ltb size (header_size (eqb kind type_first) extended)

module _ (limit : ℕ) (p : List ℕ) (kind : ℕ) (extended : Bool) (ek : kind ≡ type_bits (get_or p 1 0)) (ee : extended ≡ extender_bit (get_or p 1 0)) (n : 2 ≤ length p) where
  pub no_header : headless (length p) kind extended ≡ true → read_of limit p ≡ refused 2
  unfolding read_of fields_of lines
  no_header h = rw (le-ltb (length p) 2 n, rw (ek, ee) at h)

  pub no_stream : headless (length p) kind extended ≡ false → is_stream (stream_bits (get_or p 0 0)) ≡ false → read_of limit p ≡ refused 3
  unfolding read_of fields_of lines
  no_stream h u = rw (le-ltb (length p) 2 n, rw (ek, ee) at h, u)

pub first-long : (size kind : ℕ) (extended : Bool) → kind ≡ type_first → headless size kind extended ≡ false → header_size true extended ≤ size
first-long size kind extended k h = ltb-false size (header_size true extended) (rw k at h)

pub next-long : (size kind : ℕ) (extended : Bool) → kind ≢ type_control → kind ≢ type_first → headless size kind extended ≡ false → header_size false extended ≤ size
next-long size kind extended c f h = ltb-false size (header_size false extended) (rw (ne_eqb kind type_control c, ne_eqb kind type_first f) at h)

kind-by : (kind : ℕ) (b : Bool) → eqb kind type_last ≡ b → kind < 4 → kind ≢ type_control → kind ≢ type_first → cond b type_last type_continuation ≡ kind
kind-by kind true e l c f = omega (arith, eqb-true kind type_last e)
kind-by kind false e l c f = omega (arith, eqb-false kind type_last e, c, f)

-- of the types that are neither control nor first
pub kind-next : (second : ℕ) → type_bits second ≢ type_control → type_bits second ≢ type_first
    → cond (eqb (type_bits second) type_last) type_last type_continuation ≡ type_bits second
kind-next second c f = kind-by (type_bits second) (eqb (type_bits second) type_last) refl (omega arith) c f

-- ---- which packets pass

filled : (len total : ℕ) → (len ≡ 0 → total ≡ 0) → (b : Bool) → eqb len 0 ≡ b → (eqb len 0 && not (eqb total 0)) ≡ false
filled len total z true e = rw (e, eq-eqb total 0 (z (eqb-true len 0 e)))
filled len total z false e = rw e

passes-first : (limit : ℕ) (f : PacketFields) → f.kind ≡ type_first → is_stream f.stream ≡ true → f.reserved ≡ 0 → f.size ≡ f.header + f.len → 2 ≤ f.header
    → f.total ≤ limit → (f.len ≡ 0 → f.total ≡ 0) → f.len ≤ f.total
    → judged limit f ≡ given (First f.head f.ack f.total f.header f.len)
passes-first limit f k known r x h t z n =
    judged-first limit f k known h (omega arith)
    ∙ rw (
      r,
      eq-eqb f.size (f.header + f.len) x,
      le-ltb limit f.total t,
      filled f.len f.total z (eqb f.len 0) refl,
      le-ltb f.total f.len n,
    )

passes-next : (limit : ℕ) (f : PacketFields) (last : Bool) → f.kind ≡ cond last type_last type_continuation → is_stream f.stream ≡ true
    → f.size ≡ f.header + f.len → 2 ≤ f.header → 1 ≤ f.len
    → judged limit f ≡ given (Next f.head f.ack last f.header f.len)
passes-next limit f last k known x h n =
    judged-next limit f last k known h (omega arith) ∙ rw (eq-eqb f.size (f.header + f.len) x, ne_eqb f.len 0 (λ e. omega arith))

passes-control : (limit : ℕ) (f : PacketFields) → f.kind ≡ type_control → is_stream f.stream ≡ true → f.exact ≡ true → 2 ≤ f.size
    → judged limit f ≡ given (cond f.ack (Ack f.head) (Nack f.head))
passes-control limit f k known s n = judged-control limit f k known n ∙ rw s

-- byte 0 and byte 1 say what was written there
fields_back : (stream id sequence kind : ℕ) (ack extended : Bool) (rest : List ℕ) → id < 16 → sequence < 16 → kind < 4
    → fields_of (first_byte stream id ∷ second_byte sequence kind ack extended ∷ rest)
    ≡ fields_by (first_byte stream id ∷ second_byte sequence kind ack extended ∷ rest) stream id sequence kind ack extended
unfolding fields_of
fields_back stream id sequence kind ack extended rest li ls lk =
    rw (
      stream-back stream id li,
      id-back stream id li,
      sequence-back sequence kind ack extended ls lk,
      type-back sequence kind ack extended lk,
      ack-back sequence kind ack extended,
      extender-back sequence kind ack extended,
    )

-- the payload length as a writer puts it: one byte, or two with the extender
abbrev pub length_in : Bool → ℕ → List ℕ
length_in extended n = cond extended (pair_bytes n) (n ∷ [])

module _ (limit stream id sequence : ℕ) (ack : Bool) (payload : List ℕ) (known : is_stream stream ≡ true) (li : id < 16) (ls : sequence < 16) where
  abbrev head : Head
  head = record { stream = stream_of stream; id = id; sequence = sequence }

  -- a first packet
  pub first_read : (extended : Bool) (total : ℕ) → total ≤ limit → (length payload ≡ 0 → total ≡ 0) → length payload ≤ total
      → read_of limit
      (first_byte stream id ∷ second_byte sequence type_first ack extended ∷ reserved_byte ∷ total / 256 ∷ total % 256 ∷ (length_in extended (length payload) ++ payload))
      ≡ given (First head ack total (header_size true extended) (length payload))
  unfolding read_of
  first_read true total t z n =
      rw (fields_back stream id sequence type_first ack true _ li ls (omega arith), div-add-mod' total 256, div-add-mod' (length payload) 256)
      (passes-first limit _ refl known refl (omega arith) (omega arith) t z n)
  first_read false total t z n =
      rw (fields_back stream id sequence type_first ack false _ li ls (omega arith), div-add-mod' total 256)
      (passes-first limit _ refl known refl (omega arith) (omega arith) t z n)

  next-by : (extended last : Bool) (kind : ℕ) → kind ≡ cond last type_last type_continuation → kind ≢ type_first → kind < 4 → 1 ≤ length payload
      → read_of limit (first_byte stream id ∷ second_byte sequence kind ack extended ∷ (length_in extended (length payload) ++ payload))
      ≡ given (Next head ack last (header_size false extended) (length payload))
  unfolding read_of
  next-by true last kind k d lk n =
      rw (fields_back stream id sequence kind ack true _ li ls lk, ne_eqb kind type_first d, div-add-mod' (length payload) 256)
      (passes-next limit _ last k known (omega arith) (omega arith) n)
  next-by false last kind k d lk n =
      rw (fields_back stream id sequence kind ack false _ li ls lk, ne_eqb kind type_first d)
      (passes-next limit _ last k known (omega arith) (omega arith) n)

  -- one that follows: a continuation, or the last
  pub next-read : (extended last : Bool) → 1 ≤ length payload
      → read_of limit
      (first_byte stream id ∷ second_byte sequence (cond last type_last type_continuation) ack extended ∷ (length_in extended (length payload) ++ payload))
      ≡ given (Next head ack last (header_size false extended) (length payload))
  next-read extended true n = next-by extended true type_last refl (λ e. omega arith) (omega arith) n
  next-read extended false n = next-by extended false type_continuation refl (λ e. omega arith) (omega arith) n

-- an ACK or a NACK
pub ack-read : (limit stream id sequence : ℕ) (positive : Bool) → is_stream stream ≡ true → id < 16 → sequence < 16
    → read_of limit (ack_bytes stream id sequence positive)
    ≡ given (cond positive (Ack (record { stream = stream_of stream; id = id; sequence = sequence })) (Nack (record { stream = stream_of stream; id = id; sequence = sequence })))
unfolding read_of
ack-read limit stream id sequence true known li ls =
    rw (fields_back stream id sequence type_control true false _ li ls (omega arith)) (passes-control limit _ refl known refl (omega arith))
ack-read limit stream id sequence false known li ls =
    rw (fields_back stream id sequence type_control false false _ li ls (omega arith)) (passes-control limit _ refl known refl (omega arith))

-- a packet without bytes
pub empty-refused : (limit : ℕ) → read_of limit [] ≡ refused 2
unfolding read_of fields_of lines
empty-refused limit = refl
