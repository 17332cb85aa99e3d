-- The reply in its two runs, by the room that is left; and what the table leaves.
use Prim.Native.Nat.{ℕ, ◌+◌, ◌-◌, ◌≤◌}
use native.Mathlib.Omega.{arith}
use mathlib.Core.Path.{◌≡◌, refl, sym, ap, ◌∙◌}
use mathlib.Core.List.{List, [], ◌++◌}
use mathlib.Core.Bool.{false}
use lib.IntN.{ℤ}
use lib.ListN.{length, length-append}
use lib.Dec.{ltb}
use borrow.Author.Tests.{not-false, ltb-false}
use Rattle.wire.specs.Limit.{limit_fits}
use Rattle.wire.specs.Told.{ToldMore, given, refused}
use Rattle.wire.proofs.Tables.{NoneHolds, by-table}
use Rattle.wire.proofs.Tests.{or-false}
use Rattle.ble_packet.specs.Header.{in_range}
use Rattle.ble_sender.specs.Writer.{room_fits}
use Rattle.proto_field.specs.Signed.{extended}
use Rattle.std.specs.Prelude.{Option, Some}
use Rattle.proto_writer.specs.Message.{bad_member, less_room}
use Rattle.proto_writer.proofs.Rooms.{room-rest}
use Rattle.proto_reader.specs.Gathered.{most_transports}
use Rattle.msg_control.specs.Response.{bad_response_payload}
use Rattle.msg_device.specs.declared.features.DeviceFeatures.{DeviceFeatures}
use Rattle.reply_parts.specs.declared.body.CommandKind.{CommandKind}
use Rattle.reply_parts.specs.declared.body.CommandKind.TheVariants.{Information, Features, Bare, Other}
use Rattle.reply_parts.specs.declared.body.Members.{Members}
use Rattle.reply_parts.specs.declared.front.ReplyFront.{ReplyFront}
use Rattle.reply.specs.declared.Link.{Link}
use Rattle.reply_parts.specs.Front.{front_bytes}
use Rattle.reply_parts.specs.Body.{code_of, body_by}
use Rattle.reply.specs.Reply.{member_of, reply_by, bad_carried, link_lines}
use Rattle.reply_parts.specs.Body.{FewCarried}
use Rattle.reply.specs.Put.{judged_of, FrontFor, Carries}
use Rattle.reply_parts.proofs.Fronts.{Whole, front-is}

-- ---- the reply's bytes

-- where there is no member there are no bytes
pub whole_by : (serial_number name : List ℕ) (transports : List ℤ) (device_type : List ℕ) (features : DeviceFeatures) (m : Members) (k : CommandKind)
    → Whole (member_of m k) (body_by serial_number name transports device_type features k)
whole_by serial_number name transports device_type features m Information = tt
whole_by serial_number name transports device_type features m Features = tt
whole_by serial_number name transports device_type features m Bare = refl
whole_by serial_number name transports device_type features m Other = refl

abbrev front_of : ℕ → ℕ → Option ℕ → ℕ → ReplyFront
front_of v c m n = record { value = v; code = c; member = m; body = n }

reply-is : (v : ℕ) (k : CommandKind) (m : Members) (body : List ℕ) (f : ReplyFront) → FrontFor v k m (length body) f → Whole (member_of m k) body
    → front_bytes f ++ body ≡ reply_by v k m body
unfolding reply_by
reply-is v k m body f h none =
    let e : f ≡ front_of v (extended (code_of k)) (member_of m k) (length body) =
    ap (λ (x : ℕ). front_of x f.code f.member f.body) h.value
    ∙ ap (λ (x : ℕ). front_of v x f.member f.body) h.code
    ∙ ap (λ (x : Option ℕ). front_of v (extended (code_of k)) x f.body) h.member
    ∙ ap (λ (x : ℕ). front_of v (extended (code_of k)) (member_of m k) x) h.body in
    rw e (front-is v (code_of k) (member_of m k) body none)

-- the member's bytes are some of the reply's
pub body-within : (v : ℕ) (k : CommandKind) (m : Members) (body : List ℕ) → Whole (member_of m k) body → length body ≤ length (reply_by v k m body)
body-within v k m body none =
    let f : ReplyFront = front_of v (extended (code_of k)) (member_of m k) (length body) in
    let e = ap length (reply-is v k m body f (record { value = refl; code = refl; member = refl; body = refl }) none) in
    let a = length-append (front_bytes f) body in
    omega arith

-- ---- the reply, counted

pub record CountedReply (v : ℕ) (k : CommandKind) (m : Members) (body : List ℕ) (limit left : ℕ) (f : ReplyFront) : Type 0 where
  pub under : left ≤ limit
  pub long : f.body ≡ length body
  pub low : f.body ≤ limit
  pub whole : front_bytes f ++ body ≡ reply_by v k m body
  pub total : length (reply_by v k m body) ≡ length (front_bytes f) + (limit - left)

pub counted : (v : ℕ) (k : CommandKind) (m : Members) (body : List ℕ) (limit left : ℕ) (f : ReplyFront) → Whole (member_of m k) body
    → less_room (length body) (Some limit) ≡ Some left → FrontFor v k m (limit - left) f → CountedReply v k m body limit left f
counted v k m body limit left f none er h =
    let q = room-rest limit (length body) left er in
    let n : f.body ≡ length body = omega (arith, q.0, q.1, h.body) in
    let w : front_bytes f ++ body ≡ reply_by v k m body =
    reply-is v k m body f (record { value = h.value; code = h.code; member = h.member; body = n }) none in
    record {
      under = omega (arith, q.0, q.1);
      long = n;
      low = omega (arith, q.0, q.1, h.body);
      whole = w;
      total = sym (ap length w) ∙ length-append (front_bytes f) body ∙ omega (arith, n, h.body);
    }

-- ---- what the table leaves

pub member-fine : (m : Members) (n : ℕ) (k : CommandKind) → bad_carried m n k ≡ false → bad_response_payload (member_of m k) ≡ false
member-fine m n Information e = (or-false (bad_member m.information) (ltb most_transports n) e).0
member-fine m n Features e = e
member-fine m n Bare e = refl
member-fine m n Other e = refl

pub few-by : (m : Members) (t : List ℤ) (k : CommandKind) → bad_carried m (length t) k ≡ false → FewCarried k t
few-by m t Information e = ltb-false most_transports (length t) (or-false (bad_member m.information) (ltb most_transports (length t)) e).1
few-by m t Features e = tt
few-by m t Bare e = tt
few-by m t Other e = tt

fine-none : (l : Link) (m : Members) (n : ℕ) (k : CommandKind) → judged_of l m n k ≡ given tt → NoneHolds (link_lines l m n k)
unfolding judged_of
fine-none l m n k e =
    by-table (λ (t : ToldMore (Unit {0})). t ≡ given tt → NoneHolds (link_lines l m n k)) (link_lines l m n k) (λ (i : ℕ). refused (i, [])) (given tt)
    (λ i q. absurd (let z : ◌≡◌ {A = ℕ} 0 1 = cc in omega arith)) (λ h q. h) e

pub fine-carries : (kind : CommandKind) (m : Members) (t : List ℤ) (l : Link) → judged_of l m (length t) kind ≡ given tt → Carries kind m t l
fine-carries kind m t l e =
    let h = fine-none l m (length t) kind e in
    record {
      room = not-false (room_fits l.room) h.0;
      limit = not-false (limit_fits l.limit) h.1.0;
      range = not-false (in_range 0 l.id l.sequence) h.1.1.0;
      carried = h.1.1.1.0;
    }
