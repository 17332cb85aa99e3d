use Rattle.ble_packet.specs.Reader as reader
use mathlib.Core.Path.{refl, sym, ap, ◌∙◌}
use Rattle.ble_receiver.proofs.process.Goals as goal

pub accept_read-requires : goal.accept_read-requires
accept_read-requires c =
    let pre = c.requires in
    (pre.0, sym c.read.ensures ∙ ap reader.told c.in-Ok.is, pre.1, pre.2)

pub returns-in-Err : goal.returns-in-Err
returns-in-Err c =
    rw (← c.read.ensures, c.in-Err.is)
    (rw c.from.ensures at (c.refuse.ensures c.args.slots c.args.buffer.now c.args.out.now refl))

pub returns-in-Ok : goal.returns-in-Ok
returns-in-Ok c =
    rw (← c.read.ensures, c.in-Ok.is) c.accept_read.ensures
