-- Packets given to a link one after another: what is left open is open in the row, and the numbers balance.
use Prim.Native.Nat.{ℕ, ◌+◌}
use native.Mathlib.Omega.{arith}
use mathlib.Core.Path.{◌≡◌, refl, ap, ◌∙◌}
use mathlib.Core.List.{List, [], ◌∷◌}
use mathlib.Core.Bool.{Bool, true, false, ◌&&◌}
use lib.ListN.{length, get_or, replicate}
use Rattle.wire.specs.Told.{refused}
use Rattle.wire.specs.declared.stream.Stream.{Stream}
use Rattle.wire.specs.declared.stream.Stream.TheVariants.{Control, Ota, Alexa}
use Rattle.wire.specs.Stream.{stream_number}
use Rattle.ble_packet.specs.Control.{ack_size}
use Rattle.ble_packet.specs.Header.{is_of}
use Rattle.ble_packet.specs.Reader.{read_of}
use Rattle.ble_slot.specs.declared.Slot.{Slot}
use Rattle.ble_slot.specs.Slot.{opens, idle, idles, lane_of, lawful, lawful_slot}
use Rattle.ble_slot.proofs.Slots.{lawful-says}
use Rattle.ble_receiver.specs.Receiver.{acted, ready, PacketCall, PacketLeft, left, leaves, read_in, accept_of}
use Rattle.ble_receiver.proofs.Accepting.{SlotsFit, ready-says, accept-ready, accept-lawful}
use Rattle.capture_report.specs.Costs.{Heard, heard, finishes, replaces, drops, begins, Followed, followed_in, stays_open, count_of, costs_of, Balanced}
use Rattle.capture_report.specs.Report.{call_for, LinkRun, link_run, fresh_run}
use Rattle.capture_report.specs.Turns.{open_in}
use Rattle.capture_report.proofs.Counting.{those-cons, counted, sum_same}
use Rattle.capture_report.proofs.Moving.{Did, quiet, acted-did}
use Rattle.capture_report.proofs.Lanes.{open_weight, kept_weight, counts, open_sum, kept_sum, flows, keeps}

-- ---- one packet

-- not ready for a packet: 1, which leaves all
pub guard-refused : (limit : ℕ) (slots : List Slot) (bytes : List ℕ) (c : PacketCall) → ready limit slots (length bytes) ≡ false
    → accept_of limit slots bytes c ≡ left (refused 1) slots bytes c.out
unfolding accept_of
guard-refused limit slots bytes c e = rw e

read_plain : (limit : ℕ) (p : List ℕ) → read_in limit (call_for p) ≡ read_of limit p
unfolding read_in
read_plain limit p = refl

-- neither 15 nor 14
accepted-as : (limit : ℕ) (slots : List Slot) (bytes p : List ℕ) → SlotsFit limit slots bytes
    → accept_of limit slots bytes (call_for p) ≡ leaves 0 (replicate ack_size 0) (acted limit slots bytes p (read_of limit p))
accepted-as limit slots bytes p r =
    accept-ready limit slots bytes (call_for p) r ∙ ap (λ t. leaves 0 (replicate ack_size 0) (acted limit slots bytes p t)) (read_plain limit p)

did-by : (limit : ℕ) (slots : List Slot) (bytes p : List ℕ) (b : Bool) → ready limit slots (length bytes) ≡ b
    → Did slots (accept_of limit slots bytes (call_for p)).slots (heard p (accept_of limit slots bytes (call_for p)).told)
did-by limit slots bytes p false e =
    rw (guard-refused limit slots bytes (call_for p) e)
    (quiet refl (record { not-accepted = refl; not-finished = refl; not-replaced = refl; not-dropped = refl }))
did-by limit slots bytes p true e =
    let r = ready-says limit slots bytes e in
    rw (accepted-as limit slots bytes p r) (acted-did limit slots (lawful-says limit slots r.law) bytes p)

turn-did : (limit : ℕ) (slots : List Slot) (bytes p : List ℕ)
    → Did slots (accept_of limit slots bytes (call_for p)).slots (heard p (accept_of limit slots bytes (call_for p)).told)
turn-did limit slots bytes p = did-by limit slots bytes p (ready limit slots (length bytes)) refl

-- ---- a list of packets

-- a count, with the packet in front
pub count-cons : (s : Stream) (test : Followed → Bool) (h : Heard) (hs : List Heard)
    → count_of s test (followed_in (h ∷ hs)) ≡ counts s h (test (record { it = h; later = hs })) + count_of s test (followed_in hs)
count-cons s test h hs =
    those-cons (λ (f : Followed). is_of (stream_number s) f.it.packet && test f) (record { it = h; later = hs }) (followed_in hs)

abbrev RunFlows : Stream → List Slot → LinkRun → Type 0
RunFlows s slots r =
    open_sum s r.slots
    + (count_of s (λ f. finishes f.it.told) (followed_in r.heards)
    + count_of s (λ f. replaces f.it.told) (followed_in r.heards)
    + count_of s (λ f. drops f.it.told) (followed_in r.heards))
    ≡ open_sum s slots + count_of s (λ f. begins f.it) (followed_in r.heards)

abbrev RunKeeps : Stream → List Slot → LinkRun → Type 0
RunKeeps s slots r = open_sum s r.slots ≡ count_of s stays_open (followed_in r.heards) + kept_sum s slots r.heards

-- a packet before a run
abbrev and_before : Heard → LinkRun → LinkRun
and_before h r = record { heards = h ∷ r.heards; slots = r.slots; bytes = r.bytes }

turn-flows : (s : Stream) (limit : ℕ) (slots mid : List Slot) (h : Heard) (r : LinkRun) → lawful limit slots ≡ true → Did slots mid h
    → RunFlows s mid r → RunFlows s slots (and_before h r)
turn-flows s limit slots mid h r law d e =
    let f = flows limit slots (lawful-says limit slots law) mid h s d in
    let a = count-cons s (λ f. finishes f.it.told) h r.heards in
    let b = count-cons s (λ f. replaces f.it.told) h r.heards in
    let c = count-cons s (λ f. drops f.it.told) h r.heards in
    let g = count-cons s (λ f. begins f.it) h r.heards in
    omega (arith, e, f, a, b, c, g)

turn-keeps : (s : Stream) (limit : ℕ) (slots mid : List Slot) (h : Heard) (r : LinkRun) → lawful limit slots ≡ true → Did slots mid h
    → RunKeeps s mid r → RunKeeps s slots (and_before h r)
turn-keeps s limit slots mid h r law d e =
    let f = keeps limit slots (lawful-says limit slots law) mid h s r.heards d in
    let a = count-cons s stays_open h r.heards in
    omega (arith, e, f, a)

run-flows : (s : Stream) (limit : ℕ) (slots : List Slot) (bytes : List ℕ) (ps : List (List ℕ)) → lawful limit slots ≡ true
    → RunFlows s slots (link_run limit slots bytes ps)
unfolding link_run
run-flows s limit slots bytes [] law = omega arith
run-flows s limit slots bytes (p ∷ ps) law =
    let l : PacketLeft = accept_of limit slots bytes (call_for p) in
    turn-flows s limit slots l.slots (heard p l.told) (link_run limit l.slots l.bytes ps) law (turn-did limit slots bytes p)
    (run-flows s limit l.slots l.bytes ps (accept-lawful limit slots bytes (call_for p) law))

not-closed : (s : Stream) (x : Slot) (b : Bool) → opens x ≡ b → open_weight x ≡ kept_weight s [] x
not-closed s x true e = rw e
not-closed s x false e = rw e

run-keeps : (s : Stream) (limit : ℕ) (slots : List Slot) (bytes : List ℕ) (ps : List (List ℕ)) → lawful limit slots ≡ true
    → RunKeeps s slots (link_run limit slots bytes ps)
unfolding link_run
run-keeps s limit slots bytes [] law =
    let e = sum_same open_weight (kept_weight s []) idle (lane_of s slots) (λ i u.
    not-closed s (get_or (lane_of s slots) i idle) (opens (get_or (lane_of s slots) i idle)) refl) in
    omega (arith, e)
run-keeps s limit slots bytes (p ∷ ps) law =
    let l : PacketLeft = accept_of limit slots bytes (call_for p) in
    turn-keeps s limit slots l.slots (heard p l.told) (link_run limit l.slots l.bytes ps) law (turn-did limit slots bytes p)
    (run-keeps s limit l.slots l.bytes ps (accept-lawful limit slots bytes (call_for p) law))

-- ---- from a fresh link

pub idles-lawful : (limit : ℕ) → lawful limit idles ≡ true
unfolding lawful lawful_slot
idles-lawful limit = refl

none_open : (s : Stream) → open_sum s idles ≡ 0
none_open Control = refl
none_open Ota = refl
none_open Alexa = refl

none_kept : (s : Stream) (hs : List Heard) → kept_sum s idles hs ≡ 0
none_kept Control hs = refl
none_kept Ota hs = refl
none_kept Alexa hs = refl

-- what is left open by the answers is open in the row
pub left_open : (limit : ℕ) (bytes : List ℕ) (ps : List (List ℕ)) (s : Stream)
    → (costs_of s (fresh_run limit bytes ps).heards).pending ≡ open_in s (fresh_run limit bytes ps).slots
unfolding costs_of
left_open limit bytes ps s =
    let k = run-keeps s limit idles bytes ps (idles-lawful limit) in
    let n = none_kept s (fresh_run limit bytes ps).heards in
    let c = counted opens (lane_of s (fresh_run limit bytes ps).slots) in
    omega (arith, k, n, c)

-- the first packets accepted are finished, replaced, dropped or left open
pub run-balances : (limit : ℕ) (bytes : List ℕ) (ps : List (List ℕ)) (s : Stream) → Balanced (costs_of s (fresh_run limit bytes ps).heards)
unfolding costs_of
run-balances limit bytes ps s =
    let k = run-keeps s limit idles bytes ps (idles-lawful limit) in
    let l = run-flows s limit idles bytes ps (idles-lawful limit) in
    let n = none_kept s (fresh_run limit bytes ps).heards in
    omega (arith, k, l, n, none_open s)
