use Prim.Native.Nat.{ℕ}
use mathlib.Core.Path.{ap, ◌∙◌}
use Rattle.std.proofs.lemmas.Result.{err_from_is_err_and}
use mir.Syntax.{w32}
use mir.Facts.{to_z-of_z}
use Rattle.proto_field.specs.Signed.{extended}
use Rattle.reply.specs.Reply.{box_lent, sent_of, replied_of}
use borrow.Author.Rules.{rules}
use Rattle.reply.proofs.write_reply.Goals as goal

pub returns-then-is_response : goal.returns-then-is_response
unfolding replied_of
returns-then-is_response c =
    rw (
      ← c.read_envelope.ensures.result_value,
      c.in-Ok.is,
      ← c.is_response.ensures,
      c.if-is_response.true,
    )

pub returns-in-Err : goal.returns-in-Err
unfolding replied_of
returns-in-Err c = rw (← c.read_envelope.ensures.result_value, c.in-Err.is)

pub returns-in_err-answer-in-Ok : goal.returns-in_err-answer-in-Ok
unfolding replied_of
returns-in_err-answer-in-Ok c =
    let v = c.sign_extended-value.ensures ∙ ap extended (to_z-of_z {w = w32} {z = c.in-Ok.envelope.command} (search rules)) in
    let p = err_from_is_err_and c.from_residual.result c.from_residual.ensures.1 in
    rw (
      p.1,
      p.2,
      ← c.read_envelope.ensures.result_value,
      c.in-Ok.is,
      ← c.is_response.ensures,
      c.if-is_response.false,
    )
    (c.in_err-answer-in-Ok.ensures ∙ ap (λ (n : ℕ). sent_of (box_lent c.args.own) c.args.link n c.args.out.now) v)

pub returns-in_ok-answer-in-Ok : goal.returns-in_ok-answer-in-Ok
unfolding replied_of
returns-in_ok-answer-in-Ok c =
    let v = c.sign_extended-value.ensures ∙ ap extended (to_z-of_z {w = w32} {z = c.in-Ok.envelope.command} (search rules)) in
    rw (
      ← c.read_envelope.ensures.result_value,
      c.in-Ok.is,
      ← c.is_response.ensures,
      c.if-is_response.false,
    )
    (c.in_ok-answer-in-Ok.ensures ∙ ap (λ (n : ℕ). sent_of (box_lent c.args.own) c.args.link n c.args.out.now) v)
