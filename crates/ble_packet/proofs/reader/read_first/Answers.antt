-- The table of a first packet over what was read; each way out has its tests put in.
use mathlib.Core.Path.{◌≡◌, refl, sym, ◌∙◌}
use Prim.Native.Nat.{ℕ, ◌+◌}
use mathlib.Core.List.{[], ◌∷◌}
use mathlib.Core.Bool.{not, ◌&&◌}
use lib.ListN.{length, get_or}
use lib.Dec.{eqb, ltb}
use borrow.Author.Tests.{eq-eqb, ne_eqb, lt-ltb, le-ltb}
use Rattle.wire.specs.Bytes.{pair_of}
use Rattle.wire.specs.Told.{given, refused, line, table}
use Rattle.ble_packet.specs.declared.reader.Packet.TheVariants.{First}
use Rattle.ble_packet.specs.Header.{reserved_byte, type_first}
use Rattle.ble_packet.specs.Reader.{judged, fields_by_start}
use Rattle.ble_packet.proofs.Reading.{first-judged}
use Rattle.ble_packet.proofs.reader.read_first.Goals.{After-length_at-len, After-pair-total}
use Rattle.ble_packet.proofs.reader.read_first.Goals as goal

-- the table on what was read up to the length, for any total that is the packet's
table_at : (c : After-length_at-len) {total : ℕ}
    → (total ≡ pair_of (get_or c.args.packet.now 3 0) (get_or c.args.packet.now 4 0)
    → judged c.args.limit (fields_by_start c.args.packet.now type_first c.args.s)
    ≡ table
    (line 4 (not (eqb c.byte_at-reserved.result reserved_byte))
    ∷ line 5 (not (eqb (length c.args.packet.now) (c.header_size-start.result + c.length_at-len.result)))
    ∷ line 6 (ltb c.args.limit total)
    ∷ line 7 (eqb c.length_at-len.result 0 && not (eqb total 0))
    ∷ line 8 (ltb total c.length_at-len.result)
    ∷ [])
    refused
    (given (First (c.args.s.head) c.args.s.ack total c.header_size-start.result c.length_at-len.result)))
table_at c e =
    first-judged c.args.limit c.args.packet.now c.args.s c.byte_at-reserved.ensures c.header_size-start.ensures.0 (rw c.length_place.ensures.0 at c.length_at-len.ensures.0) e c.requires

total-at : (c : After-pair-total)
    → (c.pair-total.result ≡ pair_of (get_or c.args.packet.now 3 0) (get_or c.args.packet.now 4 0))
total-at c = rw (c.byte_at.ensures, c.byte_at-2.ensures) at c.pair-total.ensures.0

pub returns-then-reserved-ne-RESERVED : goal.returns-then-reserved-ne-RESERVED
returns-then-reserved-ne-RESERVED c =
    sym
    (first-judged c.args.limit c.args.packet.now c.args.s c.byte_at-reserved.ensures refl refl refl c.requires
    ∙ rw (ne_eqb _ _ c.if-reserved-ne-RESERVED.true))

pub returns-then-packet-start : goal.returns-then-packet-start
returns-then-packet-start c =
    sym (table_at (goal.at.returns-then-packet-start c).After-length_at-len refl ∙ rw (eq-eqb _ _ c.if-reserved-ne-RESERVED.false, ne_eqb _ _ c.if-packet-start.true))

pub returns-then-limit-total : goal.returns-then-limit-total
returns-then-limit-total c =
    sym
    (table_at (goal.at.returns-then-limit-total c).After-length_at-len (total-at (goal.at.returns-then-limit-total c).After-pair-total)
    ∙ rw (eq-eqb _ _ c.if-reserved-ne-RESERVED.false, eq-eqb _ _ c.if-packet-start.false, lt-ltb _ _ c.if-limit-total.true))

pub returns-then-both : goal.returns-then-both
returns-then-both c =
    sym
    (table_at (goal.at.returns-then-both c).After-length_at-len (total-at (goal.at.returns-then-both c).After-pair-total)
    ∙ rw (
      eq-eqb _ _ c.if-reserved-ne-RESERVED.false,
      eq-eqb _ _ c.if-packet-start.false,
      le-ltb _ _ c.if-limit-total.false,
      sym c.both.ensures ∙ c.if-both.true,
    ))

pub returns-then-total-len : goal.returns-then-total-len
returns-then-total-len c =
    sym
    (table_at (goal.at.returns-then-total-len c).After-length_at-len (total-at (goal.at.returns-then-total-len c).After-pair-total)
    ∙ rw (
      eq-eqb _ _ c.if-reserved-ne-RESERVED.false,
      eq-eqb _ _ c.if-packet-start.false,
      le-ltb _ _ c.if-limit-total.false,
      sym c.both.ensures ∙ c.if-both.false,
      lt-ltb _ _ c.if-total-len.true,
    ))

pub returns : goal.returns
returns c =
    (sym
    (table_at (goal.at.returns c).After-length_at-len (total-at (goal.at.returns c).After-pair-total)
    ∙ rw (
      eq-eqb _ _ c.if-reserved-ne-RESERVED.false,
      eq-eqb _ _ c.if-packet-start.false,
      le-ltb _ _ c.if-limit-total.false,
      sym c.both.ensures ∙ c.if-both.false,
      le-ltb _ _ c.if-total-len.false,
    )))
