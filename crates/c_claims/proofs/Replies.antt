-- The reply: a refusal leaves the output, and the most bytes that its packets have.
use Prim.Native.Nat.{ℕ, zero, suc, ◌+◌, ◌-◌, ◌*◌, ◌≤◌, ◌<◌}
use native.Mathlib.Omega.{arith}
use mathlib.Core.Path.{◌≡◌, refl}
use mathlib.Core.Bool.{Bool, true, false, cond}
use mathlib.Core.List.{List, []}
use lib.ListN.{length}
use lib.Seq.{sets}
use lib.Dec.{eqb, ltb}
use borrow.Author.Tests.{eqb-true, eqb-false, ltb-true, le-leb, ne_eqb}
use Rattle.wire.specs.Told.{Told, given, refused, WrittenOf, written}
use Rattle.wire.proofs.Tables.{by-table}
use Rattle.ble_packet.specs.Header.{least_header, header_size}
use Rattle.ble_sender.specs.declared.piece.Piece.{Piece}
use Rattle.ble_sender.specs.declared.writer.Sending.{Sending}
use Rattle.ble_sender.specs.Piece.{least_room, one_byte_length, extended, size_for, full_size, is_first, pieces_from}
use Rattle.ble_sender.proofs.Largest.{size_is, size-le}
use Rattle.proto_field.specs.Signed as signed
use Rattle.proto_reader.specs.Refusal.{number_more}
use Rattle.proto_strings.specs.declared.TextFault.{TextFault}
use Rattle.std.specs.Prelude.{⊤, Result, Ok, Err}
use Rattle.proto_strings.specs.Texts.{first_fault, faulted}
use Rattle.msg_control.specs.declared.envelope.Envelope.{Envelope}
use Rattle.ble_joined.specs.Joined.{joined_of, sizes}
use Rattle.ble_joined.proofs.Pieces.{joined-long}
use Rattle.reply.specs.declared.Link.{Link}
use Rattle.reply_parts.specs.Body.{kind_of_command}
use Rattle.reply.specs.Reply.{Box, sending_of, reply_of, link_lines, strings_of, Replied, silent, sent, refusing, joined_in, carried_of, sent_of, is_response, replied_by}

-- ---- 1, which no reply tells, leaves the output

abbrev Left : List ℕ → WrittenOf (ℕ × List ℕ) Replied → Type 0
Left out w = number_more w.told ≡ 1 → w.out ≡ out

carried-left : (long short : Bool) (fault : Result ⊤ TextFault) (n : ℕ) (out after : List ℕ)
    → Left out (cond long (refusing out 15) (faulted fault out (cond short (refusing out 14) (written (given (sent n)) after))))
carried-left true short fault n out after = λ e. refl
carried-left false short (Err why) n out after = λ e. refl
carried-left false true (Ok u) n out after = λ e. refl
carried-left false false (Ok u) n out after = λ e. absurd (omega (arith, e))

sent-left : (b : Box) (l : Link) (v : ℕ) (out : List ℕ) → Left out (sent_of b l v out)
unfolding sent_of carried_of joined_in
sent-left b l v out =
    let joined = joined_of (sending_of l) (reply_of b v) in
    by-table (Left out) (link_lines l b.members (length b.transports) (kind_of_command v)) (refusing out) (carried_of b l v (kind_of_command v) out) (λ n e. refl)
    (λ h. carried-left (ltb l.limit (length (reply_of b v))) (ltb (length out) (length joined)) (first_fault (strings_of b (kind_of_command v))) (length joined) out (sets out 0 joined))

either_left : (response : Bool) (out : List ℕ) (w : WrittenOf (ℕ × List ℕ) Replied) → Left out w → Left out (cond response (written (given silent) out) w)
either_left true out w k = λ e. refl
either_left false out w k = k

pub replied-left : (b : Box) (l : Link) (out : List ℕ) (told : Told Envelope) → Left out (replied_by b l out told)
replied-left b l out (refused n) = λ e. refl
replied-left b l out (given e) =
    let v = signed.extended e.command in either_left (is_response e.payload) out (sent_of b l v out) (sent-left b l v out)

-- ---- the packets of a message have at most twice its bytes and six

head-most : (first : Bool) (n : ℕ) → header_size first (extended n) ≤ least_header first + n
head-most first n = go (extended n) refl
  where
    go : (b : Bool) → extended n ≡ b → header_size first b ≤ least_header first + n
    go true e = let h : one_byte_length < n = ltb-true one_byte_length n e in omega arith
    go false e = omega arith

head-one : (first e : Bool) → header_size first e ≤ least_header first + 1
head-one first true = omega arith
head-one first false = omega arith

-- four bytes fit their header in every room
four : (room : ℕ) (first : Bool) → least_room ≤ room → size_for room first 4 ≡ 4
unfolding size_for
four room true enough = rw (le-leb 10 room (omega arith))
four room false enough = rw (le-leb 7 room (omega arith))

full-four : (room : ℕ) (first : Bool) → least_room ≤ room → 4 ≤ full_size room first
full-four room first enough = omega (arith, size_is room first enough 4, four room first enough)

size-four : (room : ℕ) (first : Bool) (rest : ℕ) → least_room ≤ room → eqb (size_for room first rest) rest ≡ false → 4 ≤ size_for room first rest
size-four room first rest enough e =
    let d : (size_for room first rest ≡ rest → ⊥) = eqb-false (size_for room first rest) rest e in
    omega (arith, size_is room first enough rest, full-four room first enough)

-- a piece that is not the last has as many bytes as its header and more
piece-most : (last first : Bool) (n rest : ℕ) (ps : List Piece) → eqb n rest ≡ last → n ≤ rest → (last ≡ false → 4 ≤ n) → sizes ps ≤ 2 * (rest - n) + 3
    → header_size first (extended n) + n + sizes (cond last [] ps) ≤ 2 * rest + least_header first
piece-most true first n rest ps e low some later = omega (arith, eqb-true n rest e, head-most first n)
piece-most false first n rest ps e low some later = omega (arith, some refl, head-one first (extended n))

next-least : (index : ℕ) → least_header (is_first (suc index)) ≡ 3
next-least index = rw (ne_eqb (suc index) 0 (λ e. omega arith))

pieces-most : (fuel room index start rest : ℕ) → least_room ≤ room → sizes (pieces_from fuel room index start rest) ≤ 2 * rest + least_header (is_first index)
pieces-most zero room index start rest enough = omega arith
pieces-most (suc fuel) room index start rest enough =
    let n : ℕ = size_for room (is_first index) rest in
    let ps : List Piece = pieces_from fuel room (suc index) (start + n) (rest - n) in
    let later : sizes ps ≤ 2 * (rest - n) + 3 = omega (arith, pieces-most fuel room (suc index) (start + n) (rest - n) enough, next-least index) in
    piece-most (eqb n rest) (is_first index) n rest ps refl (size-le room (is_first index) enough rest) (size-four room (is_first index) rest enough) later

pub joined-most : (w : Sending) (m : List ℕ) → least_room ≤ w.room → length (joined_of w m) ≤ 2 * length m + 6
joined-most w m enough = omega (arith, joined-long w m enough, pieces-most (suc (length m)) w.room 0 0 (length m) enough)
