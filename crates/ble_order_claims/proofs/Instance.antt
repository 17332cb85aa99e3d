-- The pairs, computed.
use native.Mathlib.Omega.{arith}
use mathlib.Core.Path.{◌≡◌, refl, sym, ap}
use mathlib.Core.Bool.{Bool, true, false, false≢true}
use lib.Dec.{eqb}
use Rattle.wire.specs.Told.{Told, given, refused}
use Rattle.wire.specs.Limit.{limit_fits}
use Rattle.wire.specs.Stream.{is_stream, stream_of}
use Rattle.ble_packet.specs.Reader.{fields_of, content_of, lines, read_of}
use Rattle.ble_slot.specs.declared.answer.Accepted.{Accepted}
use Rattle.ble_slot.specs.declared.answer.Accepted.TheVariants.{Taken, Finished, Acked, Nacked}
use Rattle.ble_slot.specs.Slot.{idles, lawful_slot, lawful}
use Rattle.ble_slot_steps.specs.Step.{finish, hold, drop_by, first_step, next_step}
use Rattle.ble_receiver.specs.Receiver.{ready, read_in, accept_of}
use Rattle.ble_order_claims.specs.Lanes.{Both, HandedPair}
use Rattle.ble_order_claims.specs.Instance.{limit, empty, control, slots, buffer, late, ack, end, Computed, other, ByFirstBytes, OneStream}

law : lawful limit slots ≡ true
unfolding limit_fits is_stream stream_of fields_of content_of lines read_of lawful_slot lawful finish hold drop_by first_step next_step ready read_in accept_of
law = refl

handed : HandedPair limit slots buffer late end
handed = record { law = law; size = refl; filled = (omega arith, omega arith); streams = λ e. omega arith }

pub computed : Computed
unfolding limit_fits is_stream stream_of fields_of content_of lines read_of lawful_slot lawful finish hold drop_by first_step next_step ready read_in accept_of
computed =
    record {
      handed = handed;
      dropped = (refl, refl);
      acknowledged = (refl, refl);
      unlawful = (refl, refl);
      refused-by-3 = (refl, refl);
      claimed = λ claim. claim limit slots buffer late end handed;
    }

idle-law : lawful limit idles ≡ true
unfolding lawful_slot lawful
idle-law = refl

abbrev leads : Told Accepted → Bool
leads (given (Taken index stream id replaced)) = eqb index 0
leads (given (Finished index stream id total ack replaced)) = eqb index 0
leads (given (Acked head)) = false
leads (given (Nacked head)) = false
leads (refused n) = false

-- the index that is told of the first packet says which of the two orders it was
needed : ByFirstBytes → ⊥
unfolding limit_fits is_stream stream_of fields_of content_of lines read_of lawful_slot lawful finish hold drop_by first_step next_step ready read_in accept_of
needed claim =
    let e = claim limit idles empty control other idle-law refl (omega arith) (omega arith) (λ e. omega arith) in
    false≢true (sym (ap (λ (b : Both). leads b.first) e))

pub one-stream : OneStream
unfolding limit_fits is_stream stream_of fields_of content_of lines read_of lawful_slot lawful finish hold drop_by first_step next_step ready read_in accept_of
one-stream = record { in_order = refl; in-the-other = refl; needed = needed }
