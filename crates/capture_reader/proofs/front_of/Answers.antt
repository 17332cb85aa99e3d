use mathlib.Core.Path.{sym}
use Rattle.capture_reader.proofs.Walking.{field_cut, zero-length, packet-cut, packet-whole}
use Rattle.capture_reader.proofs.front_of.Goals as goal

pub returns-then-rest-lt-WIDTH : goal.returns-then-rest-lt-WIDTH
returns-then-rest-lt-WIDTH c = sym (field_cut _ c.if-rest-lt-WIDTH.true)

pub returns-then-n-eq0 : goal.returns-then-n-eq0
returns-then-n-eq0 c =
    sym (zero-length _ _ c.pair-n.ensures.0 c.if-rest-lt-WIDTH.false c.if-n-eq0.true)

pub returns-then-rest-n : goal.returns-then-rest-n
returns-then-rest-n c =
    sym (packet-cut _ _ c.pair-n.ensures.0 c.if-rest-lt-WIDTH.false c.if-n-eq0.false c.if-rest-n.true)

pub returns : goal.returns
returns c =
    sym (packet-whole _ _ c.pair-n.ensures.0 c.if-rest-lt-WIDTH.false c.if-n-eq0.false c.if-rest-n.false)
