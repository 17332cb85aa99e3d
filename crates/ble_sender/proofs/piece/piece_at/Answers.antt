-- The first piece, a place before its end, or a later one: by division, where a piece begins at the place.
use Prim.Native.Nat.{◌-◌}
use native.Mathlib.Omega.{arith}
use native.Mathlib.Nat.{div-le_self}
use mathlib.Core.Path.{refl, sym}
use mathlib.Core.Bool.{false}
use Rattle.ble_sender.specs.Piece.{full_size}
use Rattle.ble_sender.proofs.Pieces.{place-first, place-beyond, place-before, place-between, place-hit}
use Rattle.ble_sender.proofs.piece.piece_at.Goals as goal

pub returns-then-start-eq0 : goal.returns-then-start-eq0
returns-then-start-eq0 c =
    rw c.smaller-size.ensures.0
    (sym (place-first c.args.room c.args.length c.args.start _ c.requires c.full_size-first.ensures.0 c.if-start-eq0.true))

pub returns-then-length-start : goal.returns-then-length-start
returns-then-length-start c =
    sym
    (place-beyond c.args.room c.args.length c.args.start _ c.requires c.full_size-first.ensures.0 (full_size c.args.room false) refl
    c.if-start-eq0.false (omega arith))

pub returns-then-rest-eq0 : goal.returns-then-rest-eq0
returns-then-rest-eq0 c =
    sym
    (place-beyond c.args.room c.args.length c.args.start _ c.requires c.full_size-first.ensures.0 (full_size c.args.room false) refl
    c.if-start-eq0.false (omega arith))

pub returns-then-start-first : goal.returns-then-start-first
returns-then-start-first c =
    sym
    (place-before c.args.room c.args.length c.args.start _ c.requires c.full_size-first.ensures.0 (full_size c.args.room false) refl
    c.if-start-eq0.false (omega arith))

pub returns-then-over-ne0 : goal.returns-then-over-ne0
returns-then-over-ne0 c =
    sym
    (place-between c.args.room c.args.length c.args.start _ c.requires c.full_size-first.ensures.0 _
    c.full_size-next.ensures.0 c.if-start-eq0.false c.if-over-ne0.true)

pub overflow_add-index : goal.overflow_add-index
overflow_add-index c =
    omega (arith, div-le_self (c.args.start - c.full_size-first.result) c.full_size-next.result)

pub returns : goal.returns
returns c =
    rw c.smaller-size-2.ensures.0
    (sym
    (place-hit c.args.room c.args.length c.args.start _ c.requires c.full_size-first.ensures.0 _
    c.full_size-next.ensures.0 c.if-start-eq0.false (omega arith)
    (omega arith) c.if-over-ne0.false))
