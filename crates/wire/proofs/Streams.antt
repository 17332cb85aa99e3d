-- Laws of the streams' numbers.
use Prim.Native.Nat.{ℕ, ◌<◌}
use native.Mathlib.Omega.{arith}
use mathlib.Core.Path.{◌≡◌, refl, sym, ap, ◌∙◌}
use mathlib.Core.Logic.{◌≢◌, ◌⊎◌, inl, inr}
use mathlib.Core.Bool.{Bool, true, false, cond, false≢true}
use lib.Dec.{eqb}
use borrow.Author.Tests.{eqb-true}
use Rattle.std.specs.Prelude.{Result, Ok, Err, is_ok}
use Rattle.wire.specs.declared.stream.NoStream.{NoStream}
use Rattle.wire.specs.declared.stream.Stream.{Stream}
use Rattle.wire.specs.declared.stream.Stream.TheVariants.{Control, Ota, Alexa}
use Rattle.wire.specs.Stream.{stream_number, is_stream, stream_of, stream_given}

-- 0, 2 and 6 are streams' numbers
pub known-stream : (n : ℕ) → (n ≡ 0) ⊎ (n ≡ 2) ⊎ (n ≡ 6) → is_stream n ≡ true
unfolding is_stream
known-stream n (inl e) = rw e
known-stream n (inr (inl e)) = rw e
known-stream n (inr (inr e)) = rw e

number_by : (n : ℕ) (a b : Bool) → eqb n 0 ≡ a → eqb n 2 ≡ b → is_stream n ≡ true → stream_number (stream_of n) ≡ n
unfolding is_stream stream_of
number_by n true b ea eb k = rw ea (sym (eqb-true n 0 ea))
number_by n false true ea eb k = rw (ea, eb) (sym (eqb-true n 2 eb))
number_by n false false ea eb k = rw (ea, eb) (sym (eqb-true n 6 (rw (ea, eb) at k)))

-- the stream of a number has that number
pub number-back : (n : ℕ) → is_stream n ≡ true → stream_number (stream_of n) ≡ n
number-back n k = number_by n (eqb n 0) (eqb n 2) refl refl k

-- what is given of a number: its stream, where it is a stream's
abbrev stream-in : Result Stream NoStream → Stream
stream-in (Ok s) = s
stream-in (Err why) = Control

given-by : (n : ℕ) (b : Bool) (r : Result Stream NoStream) → cond {A = Result Stream NoStream} b (Ok (stream_of n)) (Err (record { 0 = n })) ≡ r → is_ok r ≡ b
given-by n true r e = sym (ap is_ok e)
given-by n false r e = sym (ap is_ok e)

pub given-known : (n : ℕ) (r : Result Stream NoStream) → r ≡ stream_given n → is_stream n ≡ is_ok r
given-known n r e = sym (given-by n (is_stream n) r (sym e))

given-is : (n : ℕ) (b : Bool) (s : Stream) → cond {A = Result Stream NoStream} b (Ok (stream_of n)) (Err (record { 0 = n })) ≡ Ok s → s ≡ stream_of n
given-is n true s e = sym (ap stream-in e)
given-is n false s e = absurd (false≢true (ap is_ok e))

pub given-stream : (n : ℕ) (s : Stream) → Ok s ≡ stream_given n → s ≡ stream_of n
given-stream n s e = given-is n (is_stream n) s (sym e)

-- streams of different numbers differ
pub other-stream : (n m : ℕ) → is_stream n ≡ true → is_stream m ≡ true → n ≢ m → stream_of n ≢ stream_of m
other-stream n m kn km d e = d (sym (number-back n kn) ∙ ap stream_number e ∙ number-back m km)

-- a stream's number is known, and says the stream
pub stream-known : (s : Stream) → is_stream (stream_number s) ≡ true
unfolding is_stream
stream-known Control = refl
stream-known Ota = refl
stream-known Alexa = refl

pub stream-back : (s : Stream) → stream_of (stream_number s) ≡ s
unfolding stream_of
stream-back Control = refl
stream-back Ota = refl
stream-back Alexa = refl

pub number-low : (s : Stream) → stream_number s < 16
number-low Control = omega arith
number-low Ota = omega arith
number-low Alexa = omega arith

-- a stream's number fits four bits
pub stream-low : (n : ℕ) → is_stream n ≡ true → n < 16
stream-low n k = omega (arith, number-back n k, number-low (stream_of n))
