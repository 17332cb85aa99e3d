-- Rows agree with what the library itself tells.
use Prim.Native.Nat.{ℕ, zero, suc, ◌+◌, ◌≤◌}
use mathlib.Core.Path.{◌≡◌, refl, ap, ◌∙◌}
use mathlib.Core.Bool.{Bool, true, false, cond, not, ◌&&◌}
use mathlib.Core.List.{List, [], ◌∷◌, ◌++◌}
use native.Mathlib.Omega.{arith}
use lib.ListN.{length, get_or, take, drop, length-append}
use lib.Seq.{sets, get_or-append-add}
use lib.Dec.{eqb, ltb}
use borrow.Author.Tests.{le-ltb, eq-eqb, ne_eqb}
use Rattle.wire.specs.Told.{given, refused, Written, written, line, writes}
use Rattle.wire.specs.Bytes.{bit}
use Rattle.proto_field.specs.declared.value.Value.TheVariants.{Number, Bytes, Skipped}
use Rattle.proto_field.specs.Unsigned.{unsigned_of}
use Rattle.proto_field.specs.Fields.{Standing, field, end}
use Rattle.msg_firmware.specs.declared.component.FirmwareComponent.{FirmwareComponent}
use Rattle.msg_firmware.specs.declared.apply.ApplyFirmware.{ApplyFirmware}
use Rattle.msg_apply_writer.specs.Apply.{apply_written}
use Rattle.proto_field.proofs.Told.{sat-given}
use Rattle.msg_firmware.specs.Apply.{apply_of}
use Rattle.msg_firmware_claims.specs.RoundTrip.{Unsigned32, FirmwareWritable}
use Rattle.msg_firmware_claims.proofs.Told.{Eight, apply-takes, apply-eight}
use Rattle.msg_firmware_claims.proofs.Segments.{unsigned-trip}
use Rattle.c_message_rows.specs.Convert.{text_call}
use Rattle.c_firmware_rows.specs.Apply.{component_row, component_rows, head_row, whole_row, component_at, components_at, apply_at, wide_at, any_wide, bad_row}
use Rattle.c_firmware_rows.specs.FieldRow.{fixed_kind, standing_row}
use Rattle.c_firmware_rows.proofs.Components.{rows-length}
use Rattle.c_firmware.specs.Calls.{apply_stored, apply_write_of}
use Rattle.c_report.specs.Convert.{report_at}
use Rattle.c_classic.proofs.States as classic
use Rattle.c_classic_parts.proofs.States as writing
use Rattle.wire.specs.Limit.{limit_fits}
use Rattle.ble_sender.specs.declared.writer.Sending.{Sending}
use Rattle.ble_sender.specs.declared.writer.Sent.{Sent}
use Rattle.ble_sender.specs.Writer.{packet_of, packets_of, room_fits, arguments_fit, begins, piece_of, sent_for, written_of}
use Rattle.ble_sender.specs.Writer as sender
use Rattle.ble_sender_claims.specs.Calls.{packets_by, calls_from, SendableMessage}
use Rattle.ble_sender_claims.proofs.CallsGiveAll.{calls-give-all}
use Rattle.c_sending.specs.Convert.{packet_row}
use Rattle.c_sending.specs.Calls.{packet_write_of}
use Rattle.outbox.specs.Format.{format_of}
use Rattle.outbox.specs.Reader as outbox
use Rattle.outbox.specs.Reader.{Answer, Item, found, HandedRecord, handed, payload_in, onward, number_in, read_of, readings, read_all}
use Rattle.outbox_claims.specs.Claims.{Entry}
use Rattle.outbox_move_claims.specs.Claims.{entries_of, records_of}
use Rattle.c_outbox.specs.Convert.{record_row}
use Rattle.c_outbox.specs.Calls.{outbox_record_of}
use Rattle.c_rows.specs.Row.{afterwards, number_told}
use Rattle.c_rows.specs.Called.{called}
use Rattle.c_claims.specs.RowsAgree.{NumbersFit, row_standing, packet_by, packets_from, record_by, records_from, RowsAgree}
use Rattle.c_claims.proofs.Applies.{not_wide}
use Rattle.c_claims.proofs.Fronts.{packet-within, joined-agrees, captured-agrees}
use Rattle.c_claims.proofs.Told.{numbers_fit}
use Rattle.c_claims.proofs.Whys.{why-agrees}

-- ---- an ApplyFirmware
-- what stands before does not count
module _ (pre row : List ℕ) where
  number_behind : (k n : ℕ) → get_or (pre ++ row) (length pre + k + n) 0 ≡ get_or row (k + n) 0
  number_behind k n =
      let e : length pre + k + n ≡ length pre + (k + n) = omega arith in
      ap (λ (x : ℕ). get_or (pre ++ row) x 0) e ∙ get_or-append-add pre row (k + n) 0

  part-behind : (k n : ℕ) → get_or (pre ++ row) (length pre + k + n + 1) 0 ≡ get_or row (k + n + 1) 0
  part-behind k n =
      let e : length pre + k + n + 1 ≡ length pre + (k + n + 1) = omega arith in
      ap (λ (x : ℕ). get_or (pre ++ row) x 0) e ∙ get_or-append-add pre row (k + n + 1) 0

  component-behind : (k : ℕ) → component_at (pre ++ row) (length pre + k) ≡ component_at row k
  unfolding component_at
  component-behind k =
      rw (get_or-append-add pre row k 0, number_behind k 1, part-behind k 1, number_behind k 3, number_behind k 4, part-behind k 4)

  components-behind : (n k : ℕ) → components_at n (pre ++ row) (length pre + k) ≡ components_at n row k
  components-behind zero k = refl
  components-behind (suc n) k =
      let e : length pre + k + 6 ≡ length pre + (k + 6) = omega arith in
      rw (component-behind k, e, components-behind n (k + 6))

  wide-behind : (n k : ℕ) → any_wide n (pre ++ row) (length pre + k) ≡ any_wide n row k
  unfolding wide_at
  wide-behind zero k = refl
  wide-behind (suc n) k =
      let e : length pre + k + 6 ≡ length pre + (k + 6) = omega arith in
      rw (get_or-append-add pre row k 0, number_behind k 3, e, wide-behind n (k + 6))

component-again : (c : FirmwareComponent) (rest : List ℕ) → Unsigned32 c.version → Unsigned32 c.size → component_at (component_row c ++ rest) 0 ≡ c
unfolding component_at
component-again c rest version size =
    ap (λ (v : ℕ). made v (unsigned_of c.size)) (unsigned-trip c.version version) ∙ ap (λ (z : ℕ). made c.version z) (unsigned-trip c.size size)
  where
    made : ℕ → ℕ → FirmwareComponent
    made v z = record { version = v; name = c.name; size = z; signature = c.signature }

components-again : (cs : List FirmwareComponent) → NumbersFit cs → components_at (length cs) (component_rows cs) 0 ≡ cs
components-again [] h = refl
components-again (c ∷ cs) h =
    ap (λ (x : FirmwareComponent). x ∷ components_at (length cs) (component_row c ++ component_rows cs) 6) (component-again c (component_rows cs) h.0.0 h.0.1)
    ∙ ap (λ (l : List FirmwareComponent). c ∷ l) (components-behind (component_row c) (component_rows cs) (length cs) 0 ∙ components-again cs h.1)

none-wide : (n : ℕ) (cs : List FirmwareComponent) → n ≤ length cs → NumbersFit cs → any_wide n (component_rows cs) 0 ≡ false
unfolding wide_at
none-wide zero cs l h = refl
none-wide (suc n) [] l h = absurd (omega arith)
none-wide (suc n) (c ∷ cs) l h =
    rw (not_wide c.version h.0.0, not_wide c.size h.0.1, wide-behind (component_row c) (component_rows cs) n 0, none-wide n cs (omega arith) h.1)

bool-again : (b : Bool) → eqb (bit b) 1 ≡ b
bool-again true = refl
bool-again false = refl

bool_small : (b : Bool) → ltb 1 (bit b) ≡ false
bool_small true = refl
bool_small false = refl

module _ (a : ApplyFirmware) (version : Unsigned32 a.firmware_information.version) (eight : length a.firmware_information.components ≡ 8)
    (fit : NumbersFit a.firmware_information.components) (most : a.firmware_information.count ≤ 8) where
  row-length : length (whole_row a) ≡ 57
  row-length =
      let cs = a.firmware_information.components in
      omega (arith, length-append (head_row a) (component_rows cs), rows-length cs, eight)

  listed : components_at 8 (whole_row a) 9 ≡ a.firmware_information.components
  listed =
      let cs = a.firmware_information.components in
      components-behind (head_row a) (component_rows cs) 8 0 ∙ (rw eight at (components-again cs fit))

  row-again : apply_at (whole_row a) ≡ a
  unfolding apply_at
  row-again =
      let f = a.firmware_information in
      ap (λ (v : ℕ). made v (components_at 8 (whole_row a) 9) (eqb (bit a.restart_required) 1)) (unsigned-trip f.version version)
      ∙ ap (λ (cs : List FirmwareComponent). made f.version cs (eqb (bit a.restart_required) 1)) listed
      ∙ ap (λ (b : Bool). made f.version f.components b) (bool-again a.restart_required)
    where
      made : ℕ → List FirmwareComponent → Bool → ApplyFirmware
      made v cs b =
          let f = a.firmware_information in
          record {
            firmware_information = record { version = v; name = f.name; components = cs; count = f.count; locale = f.locale; version_name = f.version_name };
            restart_required = b;
          }

  row_fine : bad_row (whole_row a) ≡ false
  unfolding bad_row
  row_fine =
      let cs = a.firmware_information.components in
      let count = a.firmware_information.count in
      rw (
        bool_small a.restart_required,
        not_wide a.firmware_information.version version,
        le-ltb 8 count most,
        wide-behind (head_row a) (component_rows cs) count 0,
        none-wide count cs (omega (arith, eight, most)) fit,
      )

  apply-agrees : (texts out answer : List ℕ) → apply_write_of (whole_row a) texts out answer ≡ text_call out answer (apply_written a texts out)
  unfolding apply_write_of apply_stored
  apply-agrees texts out answer = rw (eq-eqb (length (whole_row a)) 57 row-length, row_fine, row-again)

told-agrees : (message : List ℕ) (a : ApplyFirmware) (texts out answer : List ℕ) → apply_of message ≡ given a
    → apply_write_of (whole_row a) texts out answer ≡ text_call out answer (apply_written a texts out)
told-agrees message a texts out answer e =
    let w = sat-given (λ (x : ApplyFirmware). FirmwareWritable message x.firmware_information) (apply_of message) a (apply-takes message) e in
    let eight = sat-given (λ (x : ApplyFirmware). Eight message x.firmware_information.components) (apply_of message) a (apply-eight message) e in
    apply-agrees a w.number eight.0 (numbers_fit message a.firmware_information.components eight.1) w.most texts out answer

-- ---- a field
field-agrees : (s : Standing) → row_standing (standing_row s) ≡ s
unfolding fixed_kind
field-agrees (field number (Number v) next) = refl
field-agrees (field number (Bytes p) next) = refl
field-agrees (field number (Skipped p) next) = go (eqb p.len 8)
  where
    go : (eight : Bool) → row_standing (1 ∷ number ∷ cond eight 1 5 ∷ 0 ∷ p.start ∷ p.len ∷ next ∷ []) ≡ field number (Skipped p) next
    go true = refl
    go false = refl
field-agrees end = refl

-- ---- packets, place after place
module _ (how : Sending) (message : List ℕ) where
  -- what a call does with the table's answer
  abbrev by_row : List ℕ → List ℕ → (List ℕ → ℕ → List (List ℕ)) → Written Sent → List (List ℕ)
  by_row out answer later w =
      let c = called (number_told w.told) [] w.out (afterwards (number_told w.told) answer (packet_row (length message) w.told)) in
      packet_by (length message) (later c.lent) c

  same-call : (room limit arguments space : Bool) (n next : ℕ) (out after answer : List ℕ) (one other : List ℕ → ℕ → List (List ℕ))
      → ((left : List ℕ) (place : ℕ) → one left place ≡ other left place)
      → let w = writes (line 13 room ∷ line 17 limit ∷ line 15 arguments ∷ line 14 space ∷ []) (sent_for (eqb next (length message)) n next) out after in
      by_row out answer one w ≡ packets_by w.out (other w.out) w.told
  same-call true limit arguments space n next out after answer one other e = refl
  same-call false true arguments space n next out after answer one other e = refl
  same-call false false true space n next out after answer one other e = refl
  same-call false false false true n next out after answer one other e = refl
  same-call false false false false n next out after answer one other e = by_last (eqb next (length message)) refl
    where
      by_last : (final : Bool) → eqb next (length message) ≡ final
          → let w : Written Sent = written (given (sent_for final n next)) after in
          by_row out answer one w ≡ packets_by w.out (other w.out) w.told
      by_last true t = rw (eq-eqb (length message) (length message) refl)
      by_last false t = rw t (ap (λ (l : List (List ℕ)). take n after ∷ l) (e after next))

  same-calls : (calls limit : ℕ) (out answer : List ℕ) (place : ℕ) → length answer ≡ 2
      → packets_from calls limit how message out answer place ≡ calls_from calls limit how message out place
  unfolding packets_from calls_from packet_write_of written_of
  same-calls zero limit out answer place l = refl
  same-calls (suc calls) limit out answer place l =
      let found = sender.found_at how (length message) place in
      let p = piece_of found in
      rw (eq-eqb (length answer) 2 l)
      (same-call (not (room_fits how.room)) (not (limit_fits limit)) (not (arguments_fit limit how (length message) && begins found)) (ltb (length out) how.room)
      (length (packet_of how message p)) (p.start + p.size) out (sets out 0 (packet_of how message p)) answer
      (λ left. packets_from calls limit how message left answer) (calls_from calls limit how message)
      (λ left next. same-calls calls limit left answer next l))

packets-agree : (limit : ℕ) (how : Sending) (message out answer : List ℕ) → SendableMessage limit how message out → length answer ≡ 2
    → packets_from (suc (length message)) limit how message out answer 0 ≡ packets_of how message
packets-agree limit how message out answer takes l =
    same-calls how message (suc (length message)) limit out answer 0 l ∙ (calls-give-all limit how message out takes).0

-- ---- records, place after place
module _ (file answer : List ℕ) (l : length answer ≡ 6) where
  same-record : (a : Answer Item) (one : ℕ → List Entry) (other : ℕ → List HandedRecord) → ((place : ℕ) → one place ≡ entries_of (other place))
      → record_by file one (called (number_in a) [] [] (afterwards (number_in a) answer (record_row a))) ≡ entries_of (handed a (payload_in file a) ∷ onward a other)
  same-record (outbox.given (found f)) one other e =
      ap (λ (es : List Entry). record { stream = f.stream; payload = take f.size (drop f.start file) } ∷ es) (e f.next)
  same-record (outbox.given outbox.end) one other e = refl
  same-record (outbox.refused zero) one other e = refl
  same-record (outbox.refused (suc n)) one other e = rw (ne_eqb (suc n) 0 (λ e. omega arith))
  same-record (outbox.refused_at zero place) one other e = refl
  same-record (outbox.refused_at (suc n) place) one other e = rw (ne_eqb (suc n) 0 (λ e. omega arith))

  same-records : (calls place : ℕ) → records_from calls file answer place ≡ entries_of (readings calls (format_of file) file place)
  unfolding records_from readings outbox_record_of
  same-records zero place = refl
  same-records (suc calls) place =
      rw (eq-eqb (length answer) 6 l)
      (same-record (read_of (format_of file) file place) (records_from calls file answer) (readings calls (format_of file) file) (same-records calls))

records-agree : (file answer : List ℕ) → length answer ≡ 6 → records_from (suc (length file)) file answer 1 ≡ records_of file
unfolding read_all
records-agree file answer l = same-records file answer l (suc (length file)) 1

pub rows_agree : RowsAgree
unfolding report_at
rows_agree = record {
  apply = λ a texts out answer version eight fit most. apply-agrees a version eight fit most texts out answer;
  apply-told = told-agrees;
  field = field-agrees;
  report = λ r. refl;
  extractor = classic.state-again;
  extractor-row = classic.row-again;
  parts = writing.state-again;
  parts-row = writing.row-again;
  receiver = λ x. refl;
  packets = packets-agree;
  records = records-agree;
  joined = joined-agrees;
  packet-within = packet-within;
  captured = captured-agrees;
  why = why-agrees;
}
