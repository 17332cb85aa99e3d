use Rattle.wire.proofs.Runs.{clear_none}
use Rattle.classic_feed.proofs.fast_path.before_start.Goals as goal

pub returns-then-byte_at-eq-START : goal.returns-then-byte_at-eq-START
returns-then-byte_at-eq-START c = clear_none
