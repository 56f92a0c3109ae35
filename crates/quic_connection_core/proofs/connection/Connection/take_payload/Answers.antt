use Rattle.std.proofs.Common.{◌≡◌, ◌<◌, length, sym, ap, arith}
use Rattle.std.proofs.lemmas.Grind.{common_steps}
use Rattle.quic_packet.specs.Header.{reserved_bits}
use Rattle.quic_congestion.specs.Congestion.{after_calls}
use Rattle.quic_machine.specs.Migration.{is_there}
use Rattle.quic_connection_core.proofs.Items.{empty_tells}
use Rattle.quic_connection_core.proofs.Payloads.{goes, goes_told, stops_empty}
use Rattle.quic_connection_core.proofs.connection.Connection.take_payload.Goals as goal

pub returns-clause-takes : goal.returns-clause-takes
returns-clause-takes g c =
    let clear : reserved_bits c.args.opened.now.first ≡ 0 = omega (arith, c.reserved_bits.ensures) in
    let long : 0 < length c.args.payload.now = grind (arith, common_steps) in
    rw (goes (is_there c.args.remote c.args.self.now.end) c.args.opened.now.first c.args.payload.now c.args.self.now.end clear long) c.take_frames.ensures.takes

pub returns-clause-told : goal.returns-clause-told
returns-clause-told g c =
    let clear : reserved_bits c.args.opened.now.first ≡ 0 = omega (arith, c.reserved_bits.ensures) in
    let long : 0 < length c.args.payload.now = grind (arith, common_steps) in
    rw (goes_told (is_there c.args.remote c.args.self.now.end) c.args.opened.now.first c.args.payload.now c.args.self.now.end clear long) c.take_frames.ensures.told

pub returns-then-is_empty-clause-takes : goal.returns-then-is_empty-clause-takes
returns-then-is_empty-clause-takes g c =
    let clear : reserved_bits c.args.opened.now.first ≡ 0 = omega (arith, c.reserved_bits.ensures) in
    let none : length c.args.payload.now ≡ 0 = grind (arith, common_steps) in
    rw (c.violation-then-is_empty.ensures) (stops_empty (is_there c.args.remote c.args.self.now.end) c.args.opened.now.first c.args.payload.now c.args.self.now.end clear none)

pub returns-then-is_empty-clause-told : goal.returns-then-is_empty-clause-told
returns-then-is_empty-clause-told g c =
    let clear : reserved_bits c.args.opened.now.first ≡ 0 = omega (arith, c.reserved_bits.ensures) in
    let none : length c.args.payload.now ≡ 0 = grind (arith, common_steps) in
    rw (c.violation-then-is_empty.ensures) (ap (after_calls g.C.Controller.steps c.args.self.now.control) (sym (empty_tells (is_there c.args.remote c.args.self.now.end) c.args.opened.now.first c.args.payload.now c.args.self.now.end none clear)))
