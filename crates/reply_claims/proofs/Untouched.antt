-- Nothing is written.
use Prim.Native.Nat.{ℕ}
use native.Mathlib.Omega.{arith}
use mathlib.Core.Path.{◌≡◌, refl}
use mathlib.Core.Bool.{Bool, true, false, cond}
use mathlib.Core.List.{List, [], ◌∷◌}
use lib.ListN.{length}
use lib.Seq.{sets}
use lib.Dec.{ltb}
use Rattle.wire.specs.Told.{Told, given, refused, Line, table, WrittenOf, written}
use Rattle.proto_strings.specs.declared.TextFault.{TextFault}
use Rattle.std.specs.Prelude.{⊤, Result, Ok, Err}
use Rattle.proto_strings.specs.Texts.{first_fault, faulted}
use Rattle.proto_field.specs.Signed.{extended}
use Rattle.ble_sender.specs.declared.writer.Sending.{Sending}
use Rattle.ble_joined.specs.Joined.{joined_of}
use Rattle.msg_control.specs.declared.envelope.Envelope.{Envelope}
use Rattle.msg_control.specs.Envelope.{envelope_of}
use Rattle.reply_parts.specs.declared.body.CommandKind.{CommandKind}
use Rattle.reply.specs.declared.Link.{Link}
use Rattle.reply_parts.specs.Body.{kind_of_command}
use Rattle.reply.specs.Reply.{Box, sending_of, body_of, reply_by, strings_of, link_lines, Replied, silent, sent, refusing, joined_in, carried_of, sent_of, is_response, replied_by, replied_of}
use Rattle.reply_claims.specs.Untouched.{NothingWritten}

-- a call that refuses leaves the output as it was
module _ (out : List ℕ) where
  abbrev Keeps : WrittenOf (ℕ × List ℕ) Replied → Type 0
  Keeps w = (why : ℕ × List ℕ) → w.told ≡ refused why → w.out ≡ out

  keeps-refusing : (n : ℕ) → Keeps (refusing out n)
  keeps-refusing n why e = refl

  keeps_given : (r : Replied) (l : List ℕ) → Keeps (written (given r) l)
  keeps_given r l why e = absurd (let o : ◌≡◌ {A = ℕ} 0 1 = cc in omega arith)

  keeps-cond : (t : Bool) (a b : WrittenOf (ℕ × List ℕ) Replied) → Keeps a → Keeps b → Keeps (cond t a b)
  keeps-cond true a b ka kb = ka
  keeps-cond false a b ka kb = kb

  keeps-table : (lines : List Line) (rest : WrittenOf (ℕ × List ℕ) Replied) → Keeps rest → Keeps (table lines (refusing out) rest)
  keeps-table [] rest k = k
  keeps-table (r ∷ rs) rest k = keeps-cond r.holds (refusing out r.number) (table rs (refusing out) rest) (keeps-refusing r.number) (keeps-table rs rest k)

  keeps-faulted : (f : Result ⊤ TextFault) (rest : WrittenOf (ℕ × List ℕ) Replied) → Keeps rest → Keeps (faulted f out rest)
  keeps-faulted (Ok u) rest k = k
  keeps-faulted (Err fault) rest k = λ why e. refl

  keeps-joined : (w : Sending) (m : List ℕ) → Keeps (joined_in w m out)
  unfolding joined_in
  keeps-joined w m =
      let whole : WrittenOf (ℕ × List ℕ) Replied = written (given (sent (length (joined_of w m)))) (sets out 0 (joined_of w m)) in
      keeps-cond (ltb (length out) (length (joined_of w m))) (refusing out 14) whole (keeps-refusing 14)
      (keeps_given (sent (length (joined_of w m))) (sets out 0 (joined_of w m)))

  keeps-carried : (b : Box) (l : Link) (v : ℕ) (kind : CommandKind) → Keeps (carried_of b l v kind out)
  unfolding carried_of
  keeps-carried b l v kind =
      let reply : List ℕ = reply_by v kind b.members (body_of b kind) in
      let rest : WrittenOf (ℕ × List ℕ) Replied = joined_in (sending_of l) reply out in
      let fault : Result ⊤ TextFault = first_fault (strings_of b kind) in
      keeps-cond (ltb l.limit (length reply)) (refusing out 15) (faulted fault out rest) (keeps-refusing 15)
      (keeps-faulted fault rest (keeps-joined (sending_of l) reply))

  keeps-sent : (b : Box) (l : Link) (v : ℕ) → Keeps (sent_of b l v out)
  unfolding sent_of
  keeps-sent b l v =
      let kind : CommandKind = kind_of_command v in
      keeps-table (link_lines l b.members (length b.transports) kind) (carried_of b l v kind out) (keeps-carried b l v kind)

  keeps-replied : (b : Box) (l : Link) (t : Told Envelope) → Keeps (replied_by b l out t)
  keeps-replied b l (refused n) = keeps-refusing n
  keeps-replied b l (given e) =
      keeps-cond (is_response e.payload) (written (given silent) out) (sent_of b l (extended e.command) out) (keeps_given silent out)
      (keeps-sent b l (extended e.command))

pub nothing_written : NothingWritten
unfolding replied_of
nothing_written =
    record {
      own = λ b l message out n e. rw e;
      response = λ b l message out c r e. rw e;
      refusal = λ b l message out. keeps-replied out b l (envelope_of message);
    }
