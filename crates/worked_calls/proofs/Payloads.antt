-- The longest payload that a record of an outbox takes, by computation.
use mathlib.Core.Path.{refl}
use Rattle.outbox.specs.Writer.{bad_record}
use Rattle.wire.specs.Stream.{is_stream}
use Rattle.worked_calls.specs.Payloads.{PayloadLimits, payloads_rows}

pub payload-limits : PayloadLimits
unfolding PayloadLimits payloads_rows bad_record is_stream
payload-limits = refl
