-- Packets joined in place, piece after piece.
use Prim.Native.Nat.{ℕ, suc, ◌+◌, ◌-◌, ◌≤◌, ◌<◌}
use native.Mathlib.Omega.{arith}
use mathlib.Core.Path.{◌≡◌, refl, sym, ap, ◌∙◌}
use mathlib.Core.List.{List, ◌++◌, map, append_assoc, append-nil}
use mathlib.Core.Bool.{Bool, true, false}
use lib.ListN.{length, take, drop, length-append, length-drop}
use lib.Seq.{sets, sets-eq, length-sets, drop-drop, take_at, take_all, length-take-le}
use lib.Dec.{eqb}
use borrow.Author.Tests.{eq-eqb, ne_eqb, eqb-true, eqb-false}
use Rattle.wire.specs.Put.{Put}
use Rattle.wire.proofs.Stores.{sets_then, drop-sets}
use Rattle.wire.proofs.Parts.{length_part}
use Rattle.ble_packet.specs.Header.{header_size}
use Rattle.ble_sender.specs.declared.piece.Piece.{Piece}
use Rattle.ble_sender.specs.declared.writer.Sending.{Sending}
use Rattle.ble_sender.specs.Piece.{least_room, extended, is_first, size_for, pieces_of, piece_for}
use Rattle.ble_sender.specs.Writer.{header_bytes, packet_of}
use Rattle.ble_sender.proofs.Packets.{header-length, packet-length, header-some}
use Rattle.ble_joined.specs.Joined.{concat, joined_of, sizes, PacketFits, message_in, JoinsExactly}
use Rattle.ble_joined.proofs.Pieces.{rest_from, rest-whole, size_low, size-one, pieces-last, pieces_more, some_left, sizes-rest}

-- ---- stores, and what stands before and after them

take-sets : (d : List ℕ) (at n : ℕ) (s : List ℕ) → length s ≡ n → at + n ≤ length d → take (at + n) (sets d at s) ≡ take at d ++ s
take-sets d at n s e h =
    let l = length-take-le at d (omega arith) in
    let z : at + length s ≤ length d = omega arith in
    ap (take (at + n)) (sets-eq s d at z) ∙ take_at (take at d ++ s) _ (at + n) (simp length-append (omega arith))

-- a header, and behind it the payload from its later place
pub placed : (w : Sending) (total : ℕ) (p : Piece) (last : Bool) (out out₁ out₂ : List ℕ) (at from h r : ℕ)
    → PacketFits w total (length out) at p from
    → h ≡ header_size (is_first p.index) (extended p.size)
    → out₁ ≡ sets out (at + 0) (header_bytes w total p last)
    → out₂ ≡ sets out₁ (at + h) (take p.size (drop from out₁))
    → r ≡ at + h + p.size
    → Put out at (header_bytes w total p last ++ take p.size (drop from out)) r out₂
placed w total p last out out₁ out₂ at from h r f eh e₁ e₂ er =
    let header : List ℕ = header_bytes w total p last in
    let hl = header-length w total p last in
    let z : at + 0 ≡ at = omega arith in
    let s₁ : out₁ ≡ sets out at header = e₁ ∙ rw z in
    let same : drop from out₁ ≡ drop from out = rw s₁ (drop-sets from out at header (omega (arith, f.earlier))) in
    let k : length (take p.size (drop from out)) ≡ p.size = length_part out from p.size f.within in
    record {
      place = simp length-append (omega arith);
      stored = e₂ ∙ rw (same, s₁) (sets_then out at (at + h) header (take p.size (drop from out)) (omega arith));
    }

pub record StillJoining (w : Sending) (m : List ℕ) (total end : ℕ) (out : List ℕ) (index start at : ℕ) : Type 0 where
  pub low : start ≤ total
  pub few : index ≤ start
  pub size : at + sizes (rest_from w.room total index start) ≡ end
  pub rest : drop (end - (total - start)) out ≡ drop start m
  pub whole : take at out ++ concat (map (packet_of w m) (rest_from w.room total index start)) ≡ joined_of w m

pub data Joining (w : Sending) (m : List ℕ) (total end : ℕ) (out : List ℕ) (index start at : ℕ) : Type 0 where
  done : at ≡ end → out ≡ joined_of w m → Joining w m total end out index start at
  going : StillJoining w m total end out index start at → Joining w m total end out index start at

-- a piece is the last where it takes all the rest
last-by : (start n total length : ℕ) (b : Bool) → eqb n (total - start) ≡ b → start ≤ total → length ≡ total → eqb (start + n) length ≡ b
last-by start n total length true e l t = let s = eqb-true n (total - start) e in eq-eqb (start + n) length (omega arith)
last-by start n total length false e l t =
    let d : (n ≡ total - start → ⊥) = eqb-false n (total - start) e in ne_eqb (start + n) length (λ s. d (omega arith))

module _ (w : Sending) (m : List ℕ) (total end : ℕ) (enough : least_room ≤ w.room) (len : length m ≡ total) where
  pub left-fits : {out : List ℕ} {index start at : ℕ} → StillJoining w m total end out index start at → at + (total - start) ≤ end
  left-fits {out} {index} {start} {at} g =
      let few = g.few in
      let s = sizes-rest (suc (total - index)) w.room index start (total - start) enough (omega arith) in
      omega (arith, g.size)

  module _ (out : List ℕ) (index start at n : ℕ) (long : length out ≡ end) (g : StillJoining w m total end out index start at)
      (en : n ≡ size_for w.room (is_first index) (total - start)) where
    abbrev p : Piece
    p = piece_for index start n

    abbrev h : ℕ
    h = header_size (is_first index) (extended n)

    pub small : n ≤ total - start
    small = size_low w.room total index start n enough en

    -- room for the packet before the rest
    fits_by : (b : Bool) → eqb n (total - start) ≡ b → at + h + (total - start) ≤ end
    fits_by true e =
        let x : n ≡ total - start = eqb-true n (total - start) e in
        let z = ap sizes (pieces-last w.room total index start n enough en x) in
        omega (arith, g.size)
    fits_by false e =
        let x : n < total - start = some_left n (total - start) small e in
        let few = g.few in
        let low = g.low in
        let s1 = size-one w.room total index start n enough en x in
        let z = ap sizes (pieces_more w.room total index start n enough en few x) in
        let s = sizes-rest (suc (total - (index + 1))) w.room (index + 1) (start + n) (total - (start + n)) enough (omega arith) in
        omega (arith, g.size)

    pub packet-fits : at + h + (total - start) ≤ end
    packet-fits = fits_by (eqb n (total - start)) refl

    module _ (out' : List ℕ) (at' : ℕ)
        (put : Put out at (header_bytes w total p (eqb n (total - start)) ++ take n (drop (end - (total - start)) out)) at' out') where
      is-packet : header_bytes w total p (eqb n (total - start)) ++ take n (drop (end - (total - start)) out) ≡ packet_of w m p
      unfolding packet_of
      is-packet = rw (g.rest, len, last-by start n total total (eqb n (total - start)) refl g.low refl)

      inside : start + n ≤ length m
      inside = let s = small in let low = g.low in omega (arith, len)

      packet-size : length (packet_of w m p) ≡ h + n
      packet-size = packet-length w m p inside

      next : at' ≡ at + (h + n)
      next = put.place ∙ ap (λ (s : List ℕ). at + length s) is-packet ∙ ap (λ (k : ℕ). at + k) packet-size

      pub further : at < at'
      further = let x = next in let y = header-some (is_first index) (extended n) in omega arith

      pub up_to : at' ≤ end
      up_to = let x = next in let f = packet-fits in let s = small in omega arith

      stored : out' ≡ sets out at (packet_of w m p)
      stored = put.stored ∙ ap (sets out at) is-packet

      before : take at' out' ≡ take at out ++ packet_of w m p
      before =
          let f = packet-fits in
          let s = small in
          rw (next, stored) (take-sets out at (h + n) (packet_of w m p) packet-size (omega arith))

      after : (k : ℕ) → at' ≤ k → drop k out' ≡ drop k out
      after k l = let z = next in let s = packet-size in rw stored (drop-sets k out at (packet_of w m p) (omega arith))

      joined_by : (b : Bool) → eqb n (total - start) ≡ b → Joining w m total end out' (index + 1) (start + n) at'
      joined_by true e =
          let x : n ≡ total - start = eqb-true n (total - start) e in
          let q = pieces-last w.room total index start n enough en x in
          let z = ap sizes q in
          let f : at' ≡ end = omega (arith, next, g.size) in
          let l : length out' ≡ end = rw stored (length-sets out at (packet_of w m p) ∙ long) in
          done f
          (sym (take_all at' out' (omega arith)) ∙ before ∙ ap (λ (s : List ℕ). take at out ++ s) (sym (append-nil (packet_of w m p)))
          ∙ ap (λ (ps : List Piece). take at out ++ concat (map (packet_of w m) ps)) (sym q) ∙ g.whole)
      joined_by false e =
          let x : n < total - start = some_left n (total - start) small e in
          let few = g.few in
          let low = g.low in
          let s1 = size-one w.room total index start n enough en x in
          let q = pieces_more w.room total index start n enough en few x in
          let z = ap sizes q in
          let f = packet-fits in
          let k : end - (total - (start + n)) ≡ end - (total - start) + n = omega arith in
          let later : List Piece = rest_from w.room total (index + 1) (start + n) in
          going (record {
            low = omega arith;
            few = omega arith;
            size = omega (arith, next, g.size);
            rest =
                rw k
                (after (end - (total - start) + n) (omega (arith, next)) ∙ sym (drop-drop n (end - (total - start)) out) ∙ ap (drop n) g.rest ∙ drop-drop n start m);
            whole =
                rw before
                (append_assoc (take at out) (packet_of w m p) (concat (map (packet_of w m) later))
                ∙ ap (λ (ps : List Piece). take at out ++ concat (map (packet_of w m) ps)) (sym q) ∙ g.whole);
          })

      pub joining-next : Joining w m total end out' (index + 1) (start + n) at'
      joining-next = joined_by (eqb n (total - start)) refl

-- the start: the message stands at the end of the output
module _ (w : Sending) (total : ℕ) (out : List ℕ) (j : JoinsExactly w total out) where
  pub message-fits : total ≤ length out
  message-fits = let s = sizes-rest (suc total) w.room 0 0 total j.room (omega arith) in omega (arith, j.long)

  pub message-length : length (message_in total out) ≡ total
  message-length = let f = message-fits in simp length-drop (omega arith)

  pub joining-start : Joining w (message_in total out) total (length out) out 0 0 0
  joining-start =
      let l = message-length in
      let z : total - 0 ≡ total = omega arith in
      going (record {
        low = omega arith;
        few = omega arith;
        size = omega (arith, ap sizes (rest-whole w.room total), j.long);
        rest = rw z;
        whole = ap (λ (ps : List Piece). concat (map (packet_of w (message_in total out)) ps)) (rest-whole w.room total ∙ ap (pieces_of w.room) (sym l));
      })

-- before the end it goes on, at the end it is done
pub going_on : {w : Sending} {m : List ℕ} {total end : ℕ} {out : List ℕ} {index start at : ℕ} → Joining w m total end out index start at → at < end → StillJoining w m total end out index start at
going_on (done e f) l = absurd (omega arith)
going_on (going g) l = g

some-sizes : (room total index start : ℕ) → 3 ≤ sizes (rest_from room total index start)
some-sizes room total index start =
    let h = header-some (is_first index) (extended (size_for room (is_first index) (total - start))) in omega arith

pub finished : {w : Sending} {m : List ℕ} {total end : ℕ} {out : List ℕ} {index start at : ℕ} → Joining w m total end out index start at → end ≤ at → out ≡ joined_of w m
finished (done e f) l = f
finished {w} {m} {total} {end} {out} {index} {start} {at} (going g) l = let s = some-sizes w.room total index start in absurd (omega (arith, g.size))
