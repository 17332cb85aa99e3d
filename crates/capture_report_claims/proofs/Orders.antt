-- The captures in two orders, computed.
use mathlib.Core.Path.{refl, sym, ap}
use mathlib.Core.List.{[], ◌∷◌, map, Permᴰ}
use mathlib.Core.Bool.{true, false, false≢true}
use lib.Dec.{eqb}
use Rattle.wire.specs.Limit.{limit_fits}
use Rattle.wire.specs.Stream.{is_stream, stream_of}
use Rattle.ble_packet.specs.Reader.{fields_of, content_of, lines, read_of}
use Rattle.capture_reader.specs.Capture.{front_of, packets_from, other_version, packets_of}
use Rattle.ble_slot.specs.Slot.{lawful_slot, lawful}
use Rattle.ble_slot_steps.specs.Step.{finish, hold, drop_by, first_step, next_step}
use Rattle.ble_receiver.specs.Receiver.{ready, read_in, accept_of}
use Rattle.capture_report.specs.declared.CostReport.{CostReport}
use Rattle.capture_report.specs.Costs.{costs_of}
use Rattle.capture_report.specs.Report.{link_run, report_of, costs_plus, costs_fit, taken_of, added_of}
use Rattle.capture_report_claims.specs.Captures.{sizes_of}
use Rattle.capture_report_claims.specs.Orders.{in_order, turned, start, near, seven, four, OrderAlwaysFree, TwoOrders}

-- behind the first: the last to the front, then the first behind the next
order : Permᴰ (map sizes_of in_order) (map sizes_of turned)
order =
    Permᴰ.cons refl
    (Permᴰ.trans (Permᴰ.cons refl (Permᴰ.cons refl (Permᴰ.swap refl refl)))
    (Permᴰ.trans (Permᴰ.cons refl (Permᴰ.swap refl refl))
    (Permᴰ.trans (Permᴰ.swap refl refl) (Permᴰ.cons refl (Permᴰ.swap refl refl)))))

needed : OrderAlwaysFree → ⊥
unfolding limit_fits is_stream stream_of fields_of content_of lines read_of front_of packets_from other_version packets_of lawful_slot lawful finish hold drop_by first_step next_step ready read_in accept_of costs_of link_run report_of costs_plus costs_fit taken_of added_of
needed claim =
    let e = claim near (seven ∷ four ∷ []) (four ∷ seven ∷ []) refl (Permᴰ.swap refl refl) in
    false≢true (sym (ap (λ (r : CostReport). eqb r.control.firsts 1) e))

pub two-orders : TwoOrders
unfolding limit_fits is_stream stream_of fields_of content_of lines read_of front_of packets_from other_version packets_of lawful_slot lawful finish hold drop_by first_step next_step ready read_in accept_of costs_of link_run report_of costs_plus costs_fit taken_of added_of
two-orders =
    record {
      fits = refl;
      order = order;
      none = refl;
      after = refl;
      after-turned = refl;
      claimed = λ claim. claim start in_order turned refl order refl;
      over = refl;
      kept = refl;
      needed = needed;
    }
