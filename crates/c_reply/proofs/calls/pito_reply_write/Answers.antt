-- Each way out is the table of `reply_write_of` at the tests that led there, with the callees' equations put in.
use native.Mathlib.Omega.{arith}
use mathlib.Core.Path.{sym, ◌∙◌}
use lib.ListN.{length-map}
use borrow.Author.Tests.{eq-eqb, ne_eqb}
use Rattle.c_reply.specs.Calls.{reply_write_of}
use Rattle.c_reply.proofs.Few.{few-most}
use Rattle.c_reply.proofs.calls.pito_reply_write.Goals as goal

pub returns-then-answer-ne-WROTE_ANSWER : goal.returns-then-answer-ne-WROTE_ANSWER
unfolding reply_write_of
returns-then-answer-ne-WROTE_ANSWER c = rw (ne_eqb _ _ c.if-answer-ne-WROTE_ANSWER.true)

pub signed_list-list-requires : goal.signed_list-list-requires
signed_list-list-requires c =
    few-most c.args.transports.now (sym c.few_signed.ensures ∙ c.if-few_signed.true)

pub slice_bounds-list-end : goal.slice_bounds-list-end
slice_bounds-list-end c =
    let h = few-most c.args.transports.now (sym c.few_signed.ensures ∙ c.if-few_signed.true) in omega (arith, h)

pub slice_bounds-information-end : goal.slice_bounds-information-end
slice_bounds-information-end c = rw (c.signed_list-list.ensures, length-map)

pub returns-then-few_signed : goal.returns-then-few_signed
unfolding reply_write_of
returns-then-few_signed c =
    rw (
      eq-eqb _ _ c.if-answer-ne-WROTE_ANSWER.false,
      ← c.few_signed.ensures,
      c.if-few_signed.true,
      ← c.signed_list-list.ensures,
      ← c.link_for-link.ensures,
      ← c.members_for-members.ensures,
      ← c.features_for-features.ensures,
      ← c.write_reply-reply.ensures,
      c.tell_reply.ensures.0,
      c.tell_reply.ensures.1,
    )

pub returns : goal.returns
unfolding reply_write_of
returns c =
    rw (
      eq-eqb _ _ c.if-answer-ne-WROTE_ANSWER.false,
      ← c.few_signed.ensures,
      c.if-few_signed.false,
      ← c.link_for-link.ensures,
      ← c.members_for-members.ensures,
      ← c.features_for-features.ensures,
      ← c.write_reply-reply-2.ensures,
      c.tell_reply-2.ensures.0,
      c.tell_reply-2.ensures.1,
    )
