-- The three streams of docs/FORMATS.md: control 0, OTA 2, Alexa 6.
use Rattle.std.specs.Prelude.{ℕ, Bool, cond, ◌||◌, eqb, Result, Ok, Err}
use Rattle.wire.specs.declared.stream.Stream.{Stream}
use Rattle.wire.specs.declared.stream.Stream.TheVariants.{Control, Ota, Alexa}
use Rattle.wire.specs.declared.stream.NoStream.{NoStream}

abbrev pub stream_number : Stream → ℕ
stream_number Control = 0
stream_number Ota = 2
stream_number Alexa = 6

unfoldable pub is_stream : ℕ → Bool
is_stream n = eqb n 0 || eqb n 2 || eqb n 6

-- the stream of a number that is a stream's
unfoldable pub stream_of : ℕ → Stream
stream_of n = cond (eqb n 0) Control (cond (eqb n 2) Ota Alexa)

-- the stream of a number, where it is a stream's
abbrev pub stream_given : ℕ → Result Stream NoStream
stream_given n = cond (is_stream n) (Ok (stream_of n)) (Err (record { 0 = n }))
