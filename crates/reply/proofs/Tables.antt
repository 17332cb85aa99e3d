-- The reply's table, line by line.
use Prim.Native.Nat.{ℕ, ◌≤◌, ◌<◌}
use mathlib.Core.Path.{◌≡◌, refl, sym, ap, ◌∙◌}
use mathlib.Core.Bool.{Bool, true, false, cond}
use mathlib.Core.List.{List, [], ◌∷◌}
use lib.ListN.{length}
use borrow.Author.Tests.{lt-ltb, le-ltb}
use Rattle.wire.specs.Told.{ToldMore, given, refused, Line, table, WrittenOf, written}
use Rattle.std.specs.Prelude.{Ok, Err}
use Rattle.proto_strings.specs.declared.TextFault.{TextFault}
use Rattle.proto_strings.specs.Texts.{first_fault, why_of_fault}
use Rattle.reply_parts.specs.declared.body.CommandKind.{CommandKind}
use Rattle.reply.specs.declared.Link.{Link}
use Rattle.reply_parts.specs.Body.{kind_of_command}
use Rattle.reply.specs.Reply.{Box, sending_of, body_of, reply_by, strings_of, link_lines, Replied, refusing, joined_in, carried_of, sent_of}
use Rattle.reply.specs.Put.{judged_of}

-- ---- what the reply's bytes decide

module _ (b : Box) (l : Link) (v : ℕ) (k : CommandKind) (out : List ℕ) where
  abbrev reply : List ℕ
  reply = reply_by v k b.members (body_of b k)

  pub too_long : l.limit < length reply → refusing out 15 ≡ carried_of b l v k out
  unfolding carried_of
  too_long h = rw (lt-ltb l.limit (length reply) h)

  module _ (within : length reply ≤ l.limit) where
    pub bad-text : (fault : TextFault) → first_fault (strings_of b k) ≡ Err fault → written (refused (why_of_fault fault)) out ≡ carried_of b l v k out
    unfolding carried_of
    bad-text fault e = rw (le-ltb l.limit (length reply) within, e)

    pub carried : first_fault (strings_of b k) ≡ Ok tt → joined_in (sending_of l) reply out ≡ carried_of b l v k out
    unfolding carried_of
    carried e = rw (le-ltb l.limit (length reply) within, e)

-- ---- the lines before it

-- what the lines tell, and what comes after them
abbrev after : List ℕ → WrittenOf (ℕ × List ℕ) Replied → ToldMore (Unit {0}) → WrittenOf (ℕ × List ℕ) Replied
after out rest (refused why) = written (refused why) out
after out rest (given u) = rest

module _ (out : List ℕ) (rest : WrittenOf (ℕ × List ℕ) Replied) where
  through-line : (holds : Bool) (n : ℕ) (x : WrittenOf (ℕ × List ℕ) Replied) (t : ToldMore (Unit {0})) → x ≡ after out rest t
      → cond holds (refusing out n) x ≡ after out rest (cond holds (refused (n, [])) t)
  through-line true n x t e = refl
  through-line false n x t e = e

  through : (rs : List Line) → table rs (refusing out) rest ≡ after out rest (table rs (λ (n : ℕ). refused (n, [])) (given tt))
  through [] = refl
  through (r ∷ rs) = through-line r.holds r.number _ _ (through rs)

module _ (b : Box) (l : Link) (v : ℕ) (k : CommandKind) (out : List ℕ) (kind : k ≡ kind_of_command v) where
  abbrev rest : WrittenOf (ℕ × List ℕ) Replied
  rest = carried_of b l v (kind_of_command v) out

  sent-by : (t : ToldMore (Unit {0})) → judged_of l b.members (length b.transports) k ≡ t → after out rest t ≡ sent_of b l v out
  unfolding sent_of judged_of
  sent-by t e =
      ap (after out rest) (sym e ∙ ap (judged_of l b.members (length b.transports)) kind)
      ∙ sym (through out rest (link_lines l b.members (length b.transports) (kind_of_command v)))

  pub is-refused : (why : ℕ × List ℕ) → judged_of l b.members (length b.transports) k ≡ refused why → written (refused why) out ≡ sent_of b l v out
  is-refused why e = sent-by (refused why) e

  pub goes_on : judged_of l b.members (length b.transports) k ≡ given tt → carried_of b l v k out ≡ sent_of b l v out
  goes_on e = ap (λ (x : CommandKind). carried_of b l v x out) kind ∙ sent-by (given tt) e
