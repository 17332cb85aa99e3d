use mathlib.Core.Path.{sym, ◌∙◌}
use Rattle.ble_joined.proofs.Guards.{exact-joins, joined-over, not-joined}
use Rattle.ble_joined.proofs.join.Goals as goal

pub put_packets-requires : goal.put_packets-requires
put_packets-requires c =
    exact-joins c.args.how c.args.total c.args.out.now (sym c.is_exact.ensures ∙ c.if-is_exact.true)

pub returns-then-is_exact : goal.returns-then-is_exact
returns-then-is_exact c =
    let e = sym c.is_exact.ensures ∙ c.if-is_exact.true in
    c.put_packets.ensures ∙ sym (joined-over c.args.how c.args.total c.args.out.now (exact-joins c.args.how c.args.total c.args.out.now e))

pub returns-else-is_exact : goal.returns-else-is_exact
returns-else-is_exact c =
    sym (not-joined c.args.how c.args.total c.args.out.now (sym c.is_exact.ensures ∙ c.if-is_exact.false))
