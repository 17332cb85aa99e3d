use Rattle.std.proofs.Common.{◌≡◌, sym, arith, rules, length, length-take-le}
use Rattle.check_messages.proofs.Sizes.{information-size}
use Rattle.check_messages.proofs.information_again.Goals as goal

pub slice_bounds-again-end : goal.slice_bounds-again-end
slice_bounds-again-end c =
    let long : length c.in-Ok.i.transports ≡ 8 = search rules in
    sym (length-take-le _ c.in-Ok.i.transports (omega (arith, c.in-Ok.ensures.count_le_most_transports)))

pub show-requires : goal.show-requires
show-requires c = information-size c.write_information-wrote.result _ _ _ _ _ _ c.write_information-wrote.ensures
