use Prim.Native.Nat.{◌+◌, ◌<◌}
use mathlib.Core.Path.{refl, sym, ◌∙◌}
use lib.ListN.{length}
use native.Mathlib.Omega.{arith}
use Rattle.classic_feed.proofs.Onwards.{onward-outside, onward-start, onward-header, onward_then}
use borrow.Author.Rules.{rules}
use Rattle.classic_feed.proofs.fast_path.find_frame.Goals as goal

pub returns-then-bytes-at-lt-HEADER : goal.returns-then-bytes-at-lt-HEADER
returns-then-bytes-at-lt-HEADER c =
    let on = onward-outside c.args.bytes.now c.args.i (length c.args.bytes.now) c.before_start.result c.requires.fits c.requires.phase_value (search rules) (search rules) c.before_start.ensures in
    on

pub take_body-requires : goal.take_body-requires
take_body-requires c =
    let on = onward-outside c.args.bytes.now c.args.i (length c.args.bytes.now) c.before_start.result c.requires.fits c.requires.phase_value (search rules) (search rules) c.before_start.ensures in
    let far = onward-header c.args.bytes.now (c.args.i + c.before_start.result) c.requires.fits c.requires.phase_value on.within (sym c.header_at.ensures ∙ c.if-header_at.true) in record { fits = far.fits; i_in_bounds = far.within; phase_value = refl }

pub returns-then-header_at : goal.returns-then-header_at
returns-then-header_at c =
    let on = onward-outside c.args.bytes.now c.args.i (length c.args.bytes.now) c.before_start.result c.requires.fits c.requires.phase_value (search rules) (search rules) c.before_start.ensures in
    let far = onward-header c.args.bytes.now (c.args.i + c.before_start.result) c.requires.fits c.requires.phase_value on.within (sym c.header_at.ensures ∙ c.if-header_at.true) in
    onward_then (onward_then on far) c.take_body.ensures

pub returns-then-byte_at : goal.returns-then-byte_at
returns-then-byte_at c =
    let on = onward-outside c.args.bytes.now c.args.i (length c.args.bytes.now) c.before_start.result c.requires.fits c.requires.phase_value (search rules) (search rules) c.before_start.ensures in
    let h : c.args.i + c.before_start.result < length c.args.bytes.now = omega (arith, c.if-bytes-at-lt-HEADER.false) in
    rw c.begun.ensures
    (onward_then on (onward-start c.args.bytes.now (c.args.i + c.before_start.result) on.fits c.requires.phase_value h (sym c.byte_at.ensures ∙ c.if-byte_at.true)))

pub returns : goal.returns
returns c =
    let on = onward-outside c.args.bytes.now c.args.i (length c.args.bytes.now) c.before_start.result c.requires.fits c.requires.phase_value (search rules) (search rules) c.before_start.ensures in
    on
