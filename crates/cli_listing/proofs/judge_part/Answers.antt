use Rattle.std.proofs.Common.{sym, ap, ◌∙◌}
use Rattle.outbox.specs.Format.{format_of}
use Rattle.outbox.specs.Reader.{told_walk}
use Rattle.cli_listing.proofs.Parts.{listed_by}
use Rattle.cli_listing.proofs.judge_part.Goals as goal

pub returns-in-Ok : goal.returns-in-Ok
returns-in-Ok c = listed_by (format_of c.args.part.now) c.args.last c.args.part.now (sym (ap told_walk c.in-Ok.is) ∙ c.walk.ensures)

pub returns-in-Err : goal.returns-in-Err
returns-in-Err c =
    c.judge_refusal.ensures
    ∙ listed_by (format_of c.args.part.now) c.args.last c.args.part.now (sym (ap told_walk c.in-Err.is) ∙ c.walk.ensures)
