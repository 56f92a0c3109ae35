use Rattle.std.proofs.Common.{rules, ◌≡◌, ◌<◌, ℕ, Bool, Some, length, refl}
use Rattle.std.specs.Prelude.{slice_get}
use Rattle.std.proofs.lemmas.Option.{slice_get_read}
use Rattle.quic_machine.specs.Arrival.{arriving}
use Rattle.quic_machine.specs.Heard.{is_last}
use Rattle.quic_machine.specs.Policy.{Policy}
use Rattle.quic_machine.specs.End.{policy_of}
use Rattle.quic_connection_parts.specs.Drawn.{words_of}
use Rattle.quic_connection.proofs.Windows.{delivery_answers, delivery_left, delivery_told, delivery_heard, counted}
use Rattle.quic_connection.proofs.Words.{delivered_goes}
use Rattle.quic_connection.proofs.stepping.deliver_at.Goals as goal

pub returns-in_ok-copy-in-Some-clause-answer : goal.returns-in_ok-copy-in-Some-clause-answer
returns-in_ok-copy-in-Some-clause-answer g c =
    let p : Policy = policy_of g.H.HeaderKey.protection g.K.PacketKey.aead g.K.PacketKey.seal_limit g.K.PacketKey.refusal_limit (words_of g.R.Rng.stream) c.args.end.now in
    let bytes : c.deref_mut.result.now ≡ c.in-Some.datagram.now = search rules in
    let found = c.in-Some.ensures.lookup in
    let within : c.args.delivery.now.index < length c.args.theirs.now = search rules in
    let there : slice_get c.args.theirs.now c.args.delivery.now.index ≡ Some c.in-Some.datagram.now = slice_get_read c.args.theirs.now (length c.args.theirs.now) c.args.delivery.now.index c.in-Some.datagram.now refl within found.1 in
    let is : slice_get c.args.theirs.now c.args.delivery.now.index ≡ Some c.deref_mut.result.now = rw bytes there in
    let old = c.args.end.now in
    let limit : ℕ = g.K.PacketKey.refusal_limit old.keys.packet.remote in
    let last : Bool = is_last limit old.heard in
    let r = c.receive in
    delivery_answers g.C.Controller.steps g.C.Controller.window_of p old r.new.self c.args.theirs.now c.args.delivery.now c.deref_mut.result.now last is r.result r.ensures.answer

pub returns-in_ok-copy-in-Some-clause-end : goal.returns-in_ok-copy-in-Some-clause-end
returns-in_ok-copy-in-Some-clause-end g c =
    let p : Policy = policy_of g.H.HeaderKey.protection g.K.PacketKey.aead g.K.PacketKey.seal_limit g.K.PacketKey.refusal_limit (words_of g.R.Rng.stream) c.args.end.now in
    let bytes : c.deref_mut.result.now ≡ c.in-Some.datagram.now = search rules in
    let found = c.in-Some.ensures.lookup in
    let within : c.args.delivery.now.index < length c.args.theirs.now = search rules in
    let there : slice_get c.args.theirs.now c.args.delivery.now.index ≡ Some c.in-Some.datagram.now = slice_get_read c.args.theirs.now (length c.args.theirs.now) c.args.delivery.now.index c.in-Some.datagram.now refl within found.1 in
    let is : slice_get c.args.theirs.now c.args.delivery.now.index ≡ Some c.deref_mut.result.now = rw bytes there in
    let old = c.args.end.now in
    let limit : ℕ = g.K.PacketKey.refusal_limit old.keys.packet.remote in
    let last : Bool = is_last limit old.heard in
    let r = c.receive in
    delivery_left g.C.Controller.steps g.C.Controller.window_of p old r.new.self c.args.theirs.now c.args.delivery.now c.deref_mut.result.now last is r.result r.ensures.answer r.ensures.end r.ensures.failed r.ensures.before r.ensures.stopped

pub returns-in_ok-copy-in-Some-clause-control : goal.returns-in_ok-copy-in-Some-clause-control
returns-in_ok-copy-in-Some-clause-control g c =
    let p : Policy = policy_of g.H.HeaderKey.protection g.K.PacketKey.aead g.K.PacketKey.seal_limit g.K.PacketKey.refusal_limit (words_of g.R.Rng.stream) c.args.end.now in
    let bytes : c.deref_mut.result.now ≡ c.in-Some.datagram.now = search rules in
    let found = c.in-Some.ensures.lookup in
    let within : c.args.delivery.now.index < length c.args.theirs.now = search rules in
    let there : slice_get c.args.theirs.now c.args.delivery.now.index ≡ Some c.in-Some.datagram.now = slice_get_read c.args.theirs.now (length c.args.theirs.now) c.args.delivery.now.index c.in-Some.datagram.now refl within found.1 in
    let is : slice_get c.args.theirs.now c.args.delivery.now.index ≡ Some c.deref_mut.result.now = rw bytes there in
    let old = c.args.end.now in
    let limit : ℕ = g.K.PacketKey.refusal_limit old.keys.packet.remote in
    let last : Bool = is_last limit old.heard in
    let r = c.receive in
    delivery_told g.C.Controller.steps g.C.Controller.window_of p old r.new.self c.args.theirs.now c.args.delivery.now c.deref_mut.result.now last is r.result r.ensures.end

pub returns-in_ok-copy-in-Some-clause-heard : goal.returns-in_ok-copy-in-Some-clause-heard
returns-in_ok-copy-in-Some-clause-heard g c =
    let p : Policy = policy_of g.H.HeaderKey.protection g.K.PacketKey.aead g.K.PacketKey.seal_limit g.K.PacketKey.refusal_limit (words_of g.R.Rng.stream) c.args.end.now in
    let bytes : c.deref_mut.result.now ≡ c.in-Some.datagram.now = search rules in
    let found = c.in-Some.ensures.lookup in
    let within : c.args.delivery.now.index < length c.args.theirs.now = search rules in
    let there : slice_get c.args.theirs.now c.args.delivery.now.index ≡ Some c.in-Some.datagram.now = slice_get_read c.args.theirs.now (length c.args.theirs.now) c.args.delivery.now.index c.in-Some.datagram.now refl within found.1 in
    let is : slice_get c.args.theirs.now c.args.delivery.now.index ≡ Some c.deref_mut.result.now = rw bytes there in
    let old = c.args.end.now in
    let limit : ℕ = g.K.PacketKey.refusal_limit old.keys.packet.remote in
    let last : Bool = is_last limit old.heard in
    let r = c.receive in
    delivery_heard g.C.Controller.steps g.C.Controller.window_of p old r.new.self c.args.theirs.now c.args.delivery.now c.deref_mut.result.now last is r.result r.ensures.end

pub returns-in_ok-copy-in-Some-clause-openings : goal.returns-in_ok-copy-in-Some-clause-openings
returns-in_ok-copy-in-Some-clause-openings g c =
    let p : Policy = policy_of g.H.HeaderKey.protection g.K.PacketKey.aead g.K.PacketKey.seal_limit g.K.PacketKey.refusal_limit (words_of g.R.Rng.stream) c.args.end.now in
    let bytes : c.deref_mut.result.now ≡ c.in-Some.datagram.now = search rules in
    let found = c.in-Some.ensures.lookup in
    let within : c.args.delivery.now.index < length c.args.theirs.now = search rules in
    let there : slice_get c.args.theirs.now c.args.delivery.now.index ≡ Some c.in-Some.datagram.now = slice_get_read c.args.theirs.now (length c.args.theirs.now) c.args.delivery.now.index c.in-Some.datagram.now refl within found.1 in
    let is : slice_get c.args.theirs.now c.args.delivery.now.index ≡ Some c.deref_mut.result.now = rw bytes there in
    let old = c.args.end.now in
    let limit : ℕ = g.K.PacketKey.refusal_limit old.keys.packet.remote in
    let last : Bool = is_last limit old.heard in
    let r = c.receive in
    counted g.C.Controller.steps g.C.Controller.window_of p old r.new.self c.args.delivery.now.now c.args.delivery.now.remote c.args.delivery.now.ecn c.deref_mut.result.now limit r.result r.ensures.answer

pub returns-in_ok-copy-in-Some-clause-draws : goal.returns-in_ok-copy-in-Some-clause-draws
returns-in_ok-copy-in-Some-clause-draws g c =
    let p : Policy = policy_of g.H.HeaderKey.protection g.K.PacketKey.aead g.K.PacketKey.seal_limit g.K.PacketKey.refusal_limit (words_of g.R.Rng.stream) c.args.end.now in
    let bytes : c.deref_mut.result.now ≡ c.in-Some.datagram.now = search rules in
    let found = c.in-Some.ensures.lookup in
    let within : c.args.delivery.now.index < length c.args.theirs.now = search rules in
    let there : slice_get c.args.theirs.now c.args.delivery.now.index ≡ Some c.in-Some.datagram.now = slice_get_read c.args.theirs.now (length c.args.theirs.now) c.args.delivery.now.index c.in-Some.datagram.now refl within found.1 in
    let is : slice_get c.args.theirs.now c.args.delivery.now.index ≡ Some c.deref_mut.result.now = rw bytes there in
    let old = c.args.end.now in
    let limit : ℕ = g.K.PacketKey.refusal_limit old.keys.packet.remote in
    let last : Bool = is_last limit old.heard in
    let r = c.receive in
    delivered_goes g.R.Rng.stream p g.C.Controller.steps g.C.Controller.window_of old r.new.self (arriving c.args.delivery.now.now c.args.delivery.now.remote c.args.delivery.now.ecn last) c.deref_mut.result.now r.result r.ensures.end r.ensures.random r.ensures.failed
