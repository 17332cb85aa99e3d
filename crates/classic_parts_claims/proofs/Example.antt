-- The claim of specs/Example.antt, computed.
use Prim.Native.Nat.{ℕ}
use mathlib.Core.Path.{◌≡◌, refl}
use mathlib.Core.Logic.{◌⊎◌}
use mathlib.Core.List.{List}
use lib.ListN.{length}
use lib.Dec.{lit≤}
use Rattle.wire.specs.Limit.{limit_fits}
use Rattle.classic_frame.specs.Mark.{kind_of}
use Rattle.classic_frame.specs.Frame.{escaped_of, sum_of, framed}
use Rattle.classic_writer.specs.Sending.{FrameToSend, Sendable, sent}
use Rattle.classic_parts.specs.declared.state.PartProgress.{PartProgress}
use Rattle.classic_parts.specs.State.{beginning, lawful}
use Rattle.classic_parts.specs.Byte.{body_byte, byte_of}
use Rattle.classic_parts.specs.Fill.{fill_of}
use Rattle.classic_parts_claims.specs.Run.{PartCall, run_of}
use Rattle.classic_parts_claims.specs.Joined.{Joins}
use Rattle.classic_parts_claims.specs.Stopping.{Offering, Stopped}
use Rattle.classic_parts_claims.proofs.Joined.{parts_join}
use Rattle.classic_parts_claims.proofs.Stopping.{parts-stop}
use Rattle.classic_parts_claims.specs.Example.{PartsExample}

pub parts-example : PartsExample
unfolding limit_fits kind_of escaped_of sum_of framed lawful body_byte byte_of fill_of run_of
parts-example =
    record {
      begun = refl;
      limit_of_none = refl;
      limit_above_all = refl;
      mark_as_sequence = refl;
      total_above_limit = refl;
      unlawful_limit = refl;
      frame = (refl, (refl, (refl, (refl, (refl, (refl, (refl, (refl, (refl, (refl, tt))))))))));
      states = (refl, (refl, (refl, (refl, (refl, (refl, (refl, tt)))))));
      premises = record { range = refl; unmarked = refl; fits = lit≤ tt; room = lit≤ tt };
      whole = refl;
      joined = refl;
      by_ones = refl;
    }

-- The claims at the smallest and the largest limit, of any frame
joins_at : (limit : ℕ) → (limit ≡ 1) ⊎ (limit ≡ 65535) → (m : FrameToSend) (calls : List PartCall) → Sendable limit m
    → (let s = beginning limit m.sequence (length m.payload) in Joins (sent limit m) m calls (run_of s.limit calls s.progress m.payload))
joins_at limit ends m calls h = (parts_join limit m calls h).2

stops_at : (limit : ℕ) → (limit ≡ 1) ⊎ (limit ≡ 65535) → (s : PartProgress) (offered out : List ℕ) → Offering limit s offered out → Stopped limit s offered out
stops_at limit ends s offered out = parts-stop limit s offered out
