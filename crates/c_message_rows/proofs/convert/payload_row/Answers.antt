use mir.Syntax.{w32}
use mir.Facts.{to_z-of_z}
use borrow.Author.Rules.{rules}
use Rattle.c_message_rows.proofs.convert.payload_row.Goals as goal

pub returns-in-None : goal.returns-in-None
returns-in-None c = rw c.in-None.is

pub returns-in-Response : goal.returns-in-Response
returns-in-Response c = rw (c.in-Response.is, c.sign_extended.ensures, to_z-of_z {w = w32} {z = c.in-Response.response.error_code} (search rules))

pub returns-in-Member : goal.returns-in-Member
returns-in-Member c = rw c.in-Member.is
