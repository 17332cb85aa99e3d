-- Front and body, stored at the end of an output.
use Prim.Native.Nat.{ℕ, ◌+◌, ◌-◌, ◌≤◌, ◌<◌}
use native.Mathlib.Omega.{arith}
use mathlib.Core.Path.{◌≡◌, sym, ap, ◌∙◌}
use mathlib.Core.List.{List, ◌++◌, append-nil}
use lib.ListN.{length, take, drop, length-append, drop_of_length-le}
use lib.Seq.{sets, sets-eq, length-sets, drop_at, length-take-le}
use borrow.Author.Tests.{lt-ltb, le-ltb}
use borrow.Rule.Slice.PartMut.{put_mid}
use Rattle.wire.specs.Told.{given, written}
use Rattle.wire.proofs.Stores.{sets_then}
use Rattle.ble_sender.specs.declared.writer.Sending.{Sending}
use Rattle.ble_joined.specs.Joined.{joined_of, message_in, joined_over, JoinsExactly}
use Rattle.ble_joined.proofs.Pieces.{total-fits}
use Rattle.ble_joined.proofs.Guards.{joined-over}
use Rattle.reply_parts.specs.declared.front.ReplyFront.{ReplyFront}
use Rattle.reply_parts.specs.Front.{front_bytes}
use Rattle.reply.specs.Put.{PutsReply}
use Rattle.reply.specs.Reply.{sent, refusing, joined_in}

-- a run that is stored up to the end
drop-stored : (d : List ℕ) (at : ℕ) (s : List ℕ) → at + length s ≡ length d → drop at (sets d at s) ≡ s
drop-stored d at s e =
    let z : at + length s ≤ length d = omega arith in
    ap (drop at) (sets-eq s d at z)
    ∙ rw (drop_of_length-le d {i = at + length s} (omega arith))
    (ap (drop at) (append-nil (take at d ++ s)) ∙ drop_at (take at d) s at (length-take-le at d (omega arith)))

reply-stored : (out out₁ out₂ front body : List ℕ) (total n : ℕ) → total ≡ length front + n → n ≡ length body → total ≤ length out
    → out₁ ≡ sets out (length out - total + 0) front
    → out₂ ≡ sets out₁ (length out - n + 0) body
    → message_in total out₂ ≡ front ++ body
reply-stored out out₁ out₂ front body total n et en l e₁ e₂ =
    let start : ℕ = length out - total in
    let z₁ : start + 0 ≡ start = omega arith in
    let z₂ : length out - n + 0 ≡ start + length front = omega arith in
    let s : out₂ ≡ sets out start (front ++ body) = e₂ ∙ rw (e₁, z₁) (sets_then out start (length out - n + 0) front body z₂) in
    let k : length (sets out start (front ++ body)) ≡ length out = length-sets out start (front ++ body) in
    let a = length-append front body in
    rw (s, k) (drop-stored out start (front ++ body) (omega arith))

-- and joined there
pub reply-joined : (f : ReplyFront) (w : Sending) (out out₁ out₂ out₃ body : List ℕ) (total : ℕ) → PutsReply f total w body out
    → out₁ ≡ sets out (length out - total + 0) (front_bytes f)
    → out₂ ≡ sets out₁ (length out - f.body + 0) body
    → out₃ ≡ joined_over w total out₂
    → out₃ ≡ joined_of w (front_bytes f ++ body)
reply-joined f w out out₁ out₂ out₃ body total p e₁ e₂ e₃ =
    let t = total-fits w.room total p.room in
    let l₁ : length out₁ ≡ length out = ap length e₁ ∙ length-sets out (length out - total + 0) (front_bytes f) in
    let l₂ : length out₂ ≡ length out₁ = ap length e₂ ∙ length-sets out₁ (length out - f.body + 0) body in
    let j : JoinsExactly w total out₂ =
    record { low-stream = p.low-stream; low-id = p.low-id; low-total = p.low-total; room = p.room; long = l₂ ∙ l₁ ∙ p.long } in
    e₃ ∙ joined-over w total out₂ j
    ∙ ap (joined_of w)
    (reply-stored out out₁ out₂ (front_bytes f) body total f.body p.long-total p.long-body (omega (arith, p.long, t)) e₁ e₂)

-- a run over the first part of an output, which is lent and comes back
pub over_first : (d s : List ℕ) (k : ℕ) → length s ≡ k → k ≤ length d → put_mid 0 k d s ≡ sets d 0 s
over_first d s k e h =
    let z : 0 + length s ≤ length d = omega arith in
    let y : 0 + k ≡ k = omega arith in
    sym (sets-eq s d 0 z ∙ rw (e, y))

-- ---- the packets in an output

pub no_output : (w : Sending) (m out : List ℕ) → length out < length (joined_of w m) → refusing out 14 ≡ joined_in w m out
unfolding joined_in
no_output w m out h = rw (lt-ltb (length out) (length (joined_of w m)) h)

pub is-joined : (w : Sending) (m out : List ℕ) → length (joined_of w m) ≤ length out
    → written (given (sent (length (joined_of w m)))) (sets out 0 (joined_of w m)) ≡ joined_in w m out
unfolding joined_in
is-joined w m out h = rw (le-ltb (length out) (length (joined_of w m)) h)
