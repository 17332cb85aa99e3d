-- The claim of specs/Example.antt, computed.
use Prim.Native.Nat.{ℕ}
use mathlib.Core.Path.{◌≡◌, refl}
use mathlib.Core.List.{List, [], ◌∷◌}
use lib.ListN.{length, replicate}
use native.Mathlib.Omega.{arith}
use lib.Dec.{lit<, lit≤}
use Rattle.wire.specs.Limit.{limit_fits}
use Rattle.classic_frame.specs.Mark.{kind_of}
use Rattle.classic_frame.specs.Frame.{escaped_of, sum_of, framed, checked}
use Rattle.classic_extractor.specs.Action.{code_of}
use Rattle.classic_extractor.specs.State.{outside, lawful, ready}
use Rattle.classic_extractor.specs.Step.{store_of, end_of, advance_of}
use Rattle.classic_feed.specs.Feed.{feed_from, feed_of}
use Rattle.classic_writer.specs.Sending.{FrameToSend, Sendable, sent}
use Rattle.classic_claims.specs.Run.{many, call_of, run_of, handed_by, handed_out}
use Rattle.classic_claims.specs.Recovery.{given_of, bytes_of, undamaged}
use Rattle.classic_claims.specs.Example.{DamageExample, limit, state, buffer, closing}
use Rattle.classic_claims.proofs.Recovery.{damage-ends, frame-returns}

pub damage-example : DamageExample
unfolding limit_fits kind_of escaped_of sum_of framed code_of lawful ready store_of checked end_of advance_of feed_from call_of run_of handed_out bytes_of undamaged
damage-example =
    record {
      standing = record { range = refl; state = refl; size = refl };
      premises = (
        record { range = refl; unmarked = refl; fits = lit≤ tt; room = lit≤ tt },
        (
          record { range = refl; unmarked = refl; fits = lit≤ tt; room = lit≤ tt },
          (lit< tt, (lit< tt, tt)),
          omega arith,
          record { inside = lit< tt; was_plain = refl; is_plain = refl; byte = lit< tt; other = omega arith },
          (record { range = refl; unmarked = refl; fits = lit≤ tt; room = lit≤ tt }, tt),
        ),
      );
      written = refl;
      undamaged = refl;
      steps = record { used = refl; handed = refl };
      calls = record { used = refl; handed = refl };
      mixed = record { used = refl; handed = refl };
    }

-- .. and by the claim itself, with no bytes before
none_before : handed_out 0 (run_of limit (replicate 4 (many 26)) 0 state buffer (bytes_of limit closing)).events ≡ undamaged closing
unfolding limit_fits kind_of escaped_of sum_of framed code_of lawful ready store_of checked end_of advance_of feed_from call_of run_of handed_out bytes_of undamaged
none_before = damage-ends limit state buffer [] closing (replicate 4 (many 26)) damage-example.standing damage-example.premises refl

-- FrameReturns at the smallest and the largest limit, of any frame
returns-least : (m : FrameToSend) (buffer : List ℕ) → Sendable 1 m → length buffer ≡ 3
    → (let r = feed_of 1 outside buffer (sent 1 m) in (handed_by r.report r.buffer ≡ given_of m ∷ []) × (r.used ≡ length (sent 1 m)))
returns-least m buffer = frame-returns 1 m buffer

returns-largest : (m : FrameToSend) (buffer : List ℕ) → Sendable 65535 m → length buffer ≡ 65537
    → (let r = feed_of 65535 outside buffer (sent 65535 m) in (handed_by r.report r.buffer ≡ given_of m ∷ []) × (r.used ≡ length (sent 65535 m)))
returns-largest m buffer = frame-returns 65535 m buffer
