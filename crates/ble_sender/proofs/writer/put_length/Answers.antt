use native.Mathlib.Omega.{arith}
use borrow.Author.Tests.{lt-ltb, le-ltb}
use Rattle.ble_sender.proofs.writer.put_length.Goals as goal

pub put_pair-requires : goal.put_pair-requires
put_pair-requires c = (rw (lt-ltb _ _ c.if-n-gt-ONE_BYTE_LENGTH.true) at c.requires.0, c.requires.1)

pub bounds-out-at : goal.bounds-out-at
bounds-out-at c = omega (arith, rw (le-ltb _ _ c.if-n-gt-ONE_BYTE_LENGTH.false) at c.requires.0)

pub returns-then-n-gt-ONE_BYTE_LENGTH : goal.returns-then-n-gt-ONE_BYTE_LENGTH
returns-then-n-gt-ONE_BYTE_LENGTH c = rw (lt-ltb _ _ c.if-n-gt-ONE_BYTE_LENGTH.true) c.put_pair.ensures

pub returns-else-n-gt-ONE_BYTE_LENGTH : goal.returns-else-n-gt-ONE_BYTE_LENGTH
returns-else-n-gt-ONE_BYTE_LENGTH c = rw (le-ltb _ _ c.if-n-gt-ONE_BYTE_LENGTH.false)
