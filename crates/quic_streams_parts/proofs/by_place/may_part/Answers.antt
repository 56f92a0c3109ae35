use Rattle.std.proofs.Common.{◌<◌, length, arith}
use Rattle.std.proofs.lemmas.Bool.{ltb-true}
use Rattle.quic_streams_parts.proofs.Looked.{past}
use Rattle.quic_streams_parts.proofs.Parted.{parted_above, parted_below, over_first, under_last, all_of_none}
use Rattle.quic_streams_parts.proofs.by_place.may_part.Goals as goal

pub returns-in-Some : goal.returns-in-Some
returns-in-Some c = λ t.
    let low = c.args.low.now.entries in
    let place = c.in-Some.place.now in
    parted_below low c.args.parting c.args.rank c.args.high.now.entries (omega arith) (under_last c.args.rank place low (ltb-true place.0 c.args.rank t) c.in-Some.ensures.all_up_to) c.requires

pub returns-in-None : goal.returns-in-None
returns-in-None c = λ t.
    let low = c.args.low.now.entries in
    parted_below low c.args.parting c.args.rank c.args.high.now.entries (omega arith) (all_of_none (λ e. e.0.0 < c.args.rank) low (past 0 (length low) c.in-None.ensures.variant.1)) c.requires

pub returns-in-Some-first_key_value : goal.returns-in-Some-first_key_value
returns-in-Some-first_key_value c = λ t.
    let high = c.args.high.now.entries in
    let place = c.in-Some-first_key_value.place.now in
    parted_above c.args.low.now.entries c.args.parting c.args.rank high (omega arith) (over_first c.args.rank place high (ltb-true c.args.rank place.0 t) c.in-Some-first_key_value.ensures.all_from) c.requires

pub returns-in-None-first_key_value : goal.returns-in-None-first_key_value
returns-in-None-first_key_value c = λ t.
    let high = c.args.high.now.entries in
    parted_above c.args.low.now.entries c.args.parting c.args.rank high (omega arith) (all_of_none (λ e. c.args.rank < e.0.0) high (past 0 (length high) c.in-None-first_key_value.ensures.variant.1)) c.requires
