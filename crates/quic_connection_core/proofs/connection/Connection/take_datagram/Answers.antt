use Rattle.std.proofs.Common.{◌≡◌, ◌≢◌, ◌⊎◌, inl, inr, None, refl, sym, ◌∙◌, subst}
use Rattle.quic_machine.specs.declared.answers.State.{State}
use Rattle.quic_machine.specs.declared.answers.State.TheVariants as states
use Rattle.quic_machine.specs.declared.answers.DropReason.TheVariants as drops
use Rattle.quic_machine.specs.declared.answers.Received.{Received}
use Rattle.quic_machine.specs.Calls.{is_open}
use Rattle.quic_machine.specs.Lacking.{TakesFrames}
use Rattle.quic_machine.specs.Receive.{is_taken}
use Rattle.std.specs.Prelude.{◌&&◌}
use Rattle.std.proofs.lemmas.Bool.{and_parts}
use Rattle.quic_machine.specs.Heard.{is_last}
use Rattle.quic_machine.specs.Arrival.{arriving}
use Rattle.quic_machine.specs.End.{policy_of}
use Rattle.quic_connection_parts.specs.Drawn.{words_of}
use Rattle.quic_connection_core.proofs.Taken.{moves_by, moves_may, moves_left, moves_random, taken_is, fails_behind, read_serves, unopened_serves, drops_answer, drops_end, heads_answer, heads_end, refuses_answer, refuses_end, refuses_random, opened_answer, unread_end, unread_random, read_end, read_random, opened_lacks}
use Rattle.quic_connection_core.proofs.connection.Connection.take_datagram.Goals as goal

-- the state that was read is that of the end
takes_as : (s t : State) → s ≡ t → (s ≡ states.Open) ⊎ (s ≡ states.Closing) → (t ≡ states.Open) ⊎ (t ≡ states.Closing)
takes_as s t same is = subst (λ (x : State). (x ≡ states.Open) ⊎ (x ≡ states.Closing)) same is

takes_some : (s : State) → (s ≡ states.Open) ⊎ (s ≡ states.Closing) → s ≢ states.Failed
takes_some s (inl is) failed = let both : states.Open ≡ states.Failed = sym is ∙ failed in cc
takes_some s (inr is) failed = let both : states.Closing ≡ states.Failed = sym is ∙ failed in cc

-- ---- an end that is drained or has failed

pub returns-in-Failed-clause-answer : goal.returns-in-Failed-clause-answer
returns-in-Failed-clause-answer g c served =
    let w = c.args.self.now in
    let last = is_last (g.K.PacketKey.refusal_limit w.keys.packet.remote) w.heard in
    let in_state = sym c.state.ensures.state ∙ c.in-Failed.is in
    drops_answer g.H.HeaderKey.protection g.K.PacketKey.aead g.K.PacketKey.seal_limit g.K.PacketKey.refusal_limit g.R.Rng.stream g.C.Controller.steps g.C.Controller.window_of w c.args.now c.args.remote c.args.ecn last c.args.datagram.now states.Failed drops.Failed (λ q e arrival. refl) (λ q e. refl) in_state

pub returns-in-Failed-clause-end : goal.returns-in-Failed-clause-end
returns-in-Failed-clause-end g c served =
    let w = c.args.self.now in
    let last = is_last (g.K.PacketKey.refusal_limit w.keys.packet.remote) w.heard in
    let in_state = sym c.state.ensures.state ∙ c.in-Failed.is in
    drops_end g.H.HeaderKey.protection g.K.PacketKey.aead g.K.PacketKey.seal_limit g.K.PacketKey.refusal_limit g.R.Rng.stream g.C.Controller.steps g.C.Controller.window_of w c.args.now c.args.remote c.args.ecn last c.args.datagram.now states.Failed drops.Failed (λ q e arrival. refl) (λ q e. refl) in_state refl

pub returns-in-Drained-clause-answer : goal.returns-in-Drained-clause-answer
returns-in-Drained-clause-answer g c served =
    let w = c.args.self.now in
    let last = is_last (g.K.PacketKey.refusal_limit w.keys.packet.remote) w.heard in
    let in_state = sym c.state.ensures.state ∙ c.in-Drained.is in
    drops_answer g.H.HeaderKey.protection g.K.PacketKey.aead g.K.PacketKey.seal_limit g.K.PacketKey.refusal_limit g.R.Rng.stream g.C.Controller.steps g.C.Controller.window_of w c.args.now c.args.remote c.args.ecn last c.args.datagram.now states.Drained drops.Drained (λ q e arrival. refl) (λ q e. refl) in_state

pub returns-in-Drained-clause-end : goal.returns-in-Drained-clause-end
returns-in-Drained-clause-end g c served =
    let w = c.args.self.now in
    let last = is_last (g.K.PacketKey.refusal_limit w.keys.packet.remote) w.heard in
    let in_state = sym c.state.ensures.state ∙ c.in-Drained.is in
    drops_end g.H.HeaderKey.protection g.K.PacketKey.aead g.K.PacketKey.seal_limit g.K.PacketKey.refusal_limit g.R.Rng.stream g.C.Controller.steps g.C.Controller.window_of w c.args.now c.args.remote c.args.ecn last c.args.datagram.now states.Drained drops.Drained (λ q e arrival. refl) (λ q e. refl) in_state refl

-- ---- a header that can't be read, or names no own id, or an address from which nothing is taken

pub returns-in-Err-clause-answer : goal.returns-in-Err-clause-answer
returns-in-Err-clause-answer g c served =
    let w = c.args.self.now in
    let last = is_last (g.K.PacketKey.refusal_limit w.keys.packet.remote) w.heard in
    let takes = takes_as c.state.result w.end.closing.state c.state.ensures.state c.in-Open.is in
    let headed = sym c.destination_of.ensures.head ∙ c.in-Err.is in
    heads_answer g.H.HeaderKey.protection g.K.PacketKey.aead g.K.PacketKey.seal_limit g.K.PacketKey.refusal_limit g.R.Rng.stream g.C.Controller.steps g.C.Controller.window_of w c.args.now c.args.remote c.args.ecn last c.args.datagram.now takes c.in-Err.reason headed

pub returns-in-Err-clause-end : goal.returns-in-Err-clause-end
returns-in-Err-clause-end g c served =
    let w = c.args.self.now in
    let last = is_last (g.K.PacketKey.refusal_limit w.keys.packet.remote) w.heard in
    let takes = takes_as c.state.result w.end.closing.state c.state.ensures.state c.in-Open.is in
    let headed = sym c.destination_of.ensures.head ∙ c.in-Err.is in
    heads_end g.H.HeaderKey.protection g.K.PacketKey.aead g.K.PacketKey.seal_limit g.K.PacketKey.refusal_limit g.R.Rng.stream g.C.Controller.steps g.C.Controller.window_of w c.args.now c.args.remote c.args.ecn last c.args.datagram.now takes c.in-Err.reason headed

-- ---- a packet that doesn't open

pub returns-in_default-unprotect-clause-answer : goal.returns-in_default-unprotect-clause-answer
returns-in_default-unprotect-clause-answer g c served =
    let w = c.args.self.now in
    let last = is_last (g.K.PacketKey.refusal_limit w.keys.packet.remote) w.heard in
    let takes = takes_as c.state.result w.end.closing.state c.state.ensures.state c.in-Open.is in
    let id = c.in_default.field-0 in
    let headed = sym c.destination_of.ensures.head ∙ c.in_default.is in
    let none = c.in_default-unprotect.ensures.opened in
    c.refuse_packet.ensures.answer ∙ refuses_answer g.H.HeaderKey.protection g.K.PacketKey.aead g.K.PacketKey.seal_limit g.K.PacketKey.refusal_limit g.R.Rng.stream g.C.Controller.steps g.C.Controller.window_of w c.args.now c.args.remote c.args.ecn last c.args.datagram.now takes id headed none 0 None

pub returns-in_default-unprotect-clause-end : goal.returns-in_default-unprotect-clause-end
returns-in_default-unprotect-clause-end g c served =
    let w = c.args.self.now in
    let last = is_last (g.K.PacketKey.refusal_limit w.keys.packet.remote) w.heard in
    let takes = takes_as c.state.result w.end.closing.state c.state.ensures.state c.in-Open.is in
    let id = c.in_default.field-0 in
    let headed = sym c.destination_of.ensures.head ∙ c.in_default.is in
    let none = c.in_default-unprotect.ensures.opened in
    refuses_end g.H.HeaderKey.protection g.K.PacketKey.aead g.K.PacketKey.seal_limit g.K.PacketKey.refusal_limit g.R.Rng.stream g.C.Controller.steps g.C.Controller.window_of w c.args.now c.args.remote c.args.ecn last c.args.datagram.now takes id headed none 0 None c.refuse_packet.result c.refuse_packet.new.self c.refuse_packet.ensures.end

pub returns-in_default-unprotect-clause-random : goal.returns-in_default-unprotect-clause-random
returns-in_default-unprotect-clause-random g c served =
    let w = c.args.self.now in
    let last = is_last (g.K.PacketKey.refusal_limit w.keys.packet.remote) w.heard in
    let takes = takes_as c.state.result w.end.closing.state c.state.ensures.state c.in-Open.is in
    let id = c.in_default.field-0 in
    let headed = sym c.destination_of.ensures.head ∙ c.in_default.is in
    let none = c.in_default-unprotect.ensures.opened in
    refuses_random g.H.HeaderKey.protection g.K.PacketKey.aead g.K.PacketKey.seal_limit g.K.PacketKey.refusal_limit g.R.Rng.stream g.C.Controller.steps g.C.Controller.window_of w c.args.now c.args.remote c.args.ecn last c.args.datagram.now takes id headed none 0 None c.refuse_packet.result c.refuse_packet.new.self c.refuse_packet.ensures.end

pub returns-in_default-unprotect-clause-failed : goal.returns-in_default-unprotect-clause-failed
returns-in_default-unprotect-clause-failed g c failed =
    let w = c.args.self.now in
    let last = is_last (g.K.PacketKey.refusal_limit w.keys.packet.remote) w.heard in
    absurd (unopened_serves w.end.closing.state last (arriving c.args.now 0 None last) w.end (sym c.refuse_packet.ensures.answer ∙ failed))

pub returns-in_default-unprotect-clause-before : goal.returns-in_default-unprotect-clause-before
returns-in_default-unprotect-clause-before g c failed state =
    let w = c.args.self.now in
    let last = is_last (g.K.PacketKey.refusal_limit w.keys.packet.remote) w.heard in
    absurd (unopened_serves w.end.closing.state last (arriving c.args.now 0 None last) w.end (sym c.refuse_packet.ensures.answer ∙ failed))

pub returns-in_default-unprotect-clause-stopped : goal.returns-in_default-unprotect-clause-stopped
returns-in_default-unprotect-clause-stopped g c failed =
    let w = c.args.self.now in
    let last = is_last (g.K.PacketKey.refusal_limit w.keys.packet.remote) w.heard in
    absurd (unopened_serves w.end.closing.state last (arriving c.args.now 0 None last) w.end (sym c.refuse_packet.ensures.answer ∙ failed))

pub returns-in_default-unprotect-clause-lacking : goal.returns-in_default-unprotect-clause-lacking
returns-in_default-unprotect-clause-lacking g c failed =
    let w = c.args.self.now in
    let last = is_last (g.K.PacketKey.refusal_limit w.keys.packet.remote) w.heard in
    absurd (unopened_serves w.end.closing.state last (arriving c.args.now 0 None last) w.end (sym c.refuse_packet.ensures.answer ∙ failed))

-- ---- a packet that opens, of which no frames were taken

pub returns-then-not-is_read-clause-answer : goal.returns-then-not-is_read-clause-answer
returns-then-not-is_read-clause-answer g c served =
    let w = c.args.self.now in
    let last = is_last (g.K.PacketKey.refusal_limit w.keys.packet.remote) w.heard in
    let takes = takes_as c.state.result w.end.closing.state c.state.ensures.state c.in-Open.is in
    let id = c.in_default.field-0 in
    let headed = sym c.destination_of.ensures.head ∙ c.in_default.is in
    let opens = c.in-Ok.ensures.opened in
    let x = c.take_opened-received.new.self in
    let a = c.take_opened-received.result in
    c.take_opened-received.ensures.answer served ∙ opened_answer g.H.HeaderKey.protection g.K.PacketKey.aead g.K.PacketKey.seal_limit g.K.PacketKey.refusal_limit g.R.Rng.stream g.C.Controller.steps g.C.Controller.window_of w c.args.now c.args.remote c.args.ecn last c.args.datagram.now takes id headed _ opens

pub returns-then-not-is_read-clause-end : goal.returns-then-not-is_read-clause-end
returns-then-not-is_read-clause-end g c served =
    let w = c.args.self.now in
    let last = is_last (g.K.PacketKey.refusal_limit w.keys.packet.remote) w.heard in
    let takes = takes_as c.state.result w.end.closing.state c.state.ensures.state c.in-Open.is in
    let id = c.in_default.field-0 in
    let headed = sym c.destination_of.ensures.head ∙ c.in_default.is in
    let opens = c.in-Ok.ensures.opened in
    let x = c.take_opened-received.new.self in
    let a = c.take_opened-received.result in
    let unread = sym c.is_read.ensures ∙ c.if-not-is_read.true in
    unread_end g.H.HeaderKey.protection g.K.PacketKey.aead g.K.PacketKey.seal_limit g.K.PacketKey.refusal_limit g.R.Rng.stream g.C.Controller.steps g.C.Controller.window_of w c.args.now c.args.remote c.args.ecn last c.args.datagram.now takes id headed _ opens a (c.take_opened-received.ensures.answer served) x (c.take_opened-received.ensures.end served) unread

pub returns-then-not-is_read-clause-random : goal.returns-then-not-is_read-clause-random
returns-then-not-is_read-clause-random g c served =
    let w = c.args.self.now in
    let last = is_last (g.K.PacketKey.refusal_limit w.keys.packet.remote) w.heard in
    let takes = takes_as c.state.result w.end.closing.state c.state.ensures.state c.in-Open.is in
    let id = c.in_default.field-0 in
    let headed = sym c.destination_of.ensures.head ∙ c.in_default.is in
    let opens = c.in-Ok.ensures.opened in
    let x = c.take_opened-received.new.self in
    let a = c.take_opened-received.result in
    let unread = sym c.is_read.ensures ∙ c.if-not-is_read.true in
    unread_random g.H.HeaderKey.protection g.K.PacketKey.aead g.K.PacketKey.seal_limit g.K.PacketKey.refusal_limit g.R.Rng.stream g.C.Controller.steps g.C.Controller.window_of w c.args.now c.args.remote c.args.ecn last c.args.datagram.now takes id headed _ opens a (c.take_opened-received.ensures.answer served) x (c.take_opened-received.ensures.end served) unread

pub returns-then-not-is_read-clause-before : goal.returns-then-not-is_read-clause-before
returns-then-not-is_read-clause-before g c failed =
    let w = c.args.self.now in
    let last = is_last (g.K.PacketKey.refusal_limit w.keys.packet.remote) w.heard in
    let takes = takes_as c.state.result w.end.closing.state c.state.ensures.state c.in-Open.is in
    takes_some w.end.closing.state takes

pub returns-then-not-is_read-clause-lacking : goal.returns-then-not-is_read-clause-lacking
returns-then-not-is_read-clause-lacking g c failed =
    let w = c.args.self.now in
    let last = is_last (g.K.PacketKey.refusal_limit w.keys.packet.remote) w.heard in
    let takes = takes_as c.state.result w.end.closing.state c.state.ensures.state c.in-Open.is in
    let id = c.in_default.field-0 in
    let headed = sym c.destination_of.ensures.head ∙ c.in_default.is in
    let opens = c.in-Ok.ensures.opened in
    opened_lacks (policy_of g.H.HeaderKey.protection g.K.PacketKey.aead g.K.PacketKey.seal_limit g.K.PacketKey.refusal_limit (words_of g.R.Rng.stream) w) w.end c.args.now c.args.remote c.args.ecn c.args.datagram.now takes id headed _ opens (c.take_opened-received.ensures.lacking failed)

-- ---- one whose frames were taken: ids are drawn behind them

pub returns-clause-answer : goal.returns-clause-answer
returns-clause-answer g c served =
    let w = c.args.self.now in
    let last = is_last (g.K.PacketKey.refusal_limit w.keys.packet.remote) w.heard in
    let takes = takes_as c.state.result w.end.closing.state c.state.ensures.state c.in-Open.is in
    let id = c.in_default.field-0 in
    let headed = sym c.destination_of.ensures.head ∙ c.in_default.is in
    let opens = c.in-Ok.ensures.opened in
    let x = c.take_opened-received.new.self in
    let a = c.take_opened-received.result in
    let reads = sym c.is_read.ensures ∙ c.if-not-is_read.false in
    let kept = read_serves a reads in
    c.take_opened-received.ensures.answer kept ∙ opened_answer g.H.HeaderKey.protection g.K.PacketKey.aead g.K.PacketKey.seal_limit g.K.PacketKey.refusal_limit g.R.Rng.stream g.C.Controller.steps g.C.Controller.window_of w c.args.now c.args.remote c.args.ecn last c.args.datagram.now takes id headed _ opens

pub returns-clause-end : goal.returns-clause-end
returns-clause-end g c served =
    let w = c.args.self.now in
    let last = is_last (g.K.PacketKey.refusal_limit w.keys.packet.remote) w.heard in
    let takes = takes_as c.state.result w.end.closing.state c.state.ensures.state c.in-Open.is in
    let id = c.in_default.field-0 in
    let headed = sym c.destination_of.ensures.head ∙ c.in_default.is in
    let opens = c.in-Ok.ensures.opened in
    let x = c.take_opened-received.new.self in
    let a = c.take_opened-received.result in
    let reads = sym c.is_read.ensures ∙ c.if-not-is_read.false in
    let kept = read_serves a reads in
    let says = c.migrates-migrates.ensures.says in
    let stays = moves_by g.H.HeaderKey.protection g.K.PacketKey.aead g.K.PacketKey.seal_limit g.K.PacketKey.refusal_limit g.R.Rng.stream g.C.Controller.steps g.C.Controller.window_of w c.args.now c.args.remote c.args.ecn last c.args.datagram.now takes id headed _ opens a (c.take_opened-received.ensures.answer kept) x (c.take_opened-received.ensures.end kept) c.migrates-migrates.result c.has_moved.result says c.has_moved.ensures ∙ c.if-has_moved.false in
    read_end g.H.HeaderKey.protection g.K.PacketKey.aead g.K.PacketKey.seal_limit g.K.PacketKey.refusal_limit g.R.Rng.stream g.C.Controller.steps g.C.Controller.window_of w c.args.now c.args.remote c.args.ecn last c.args.datagram.now takes id headed _ opens a (c.take_opened-received.ensures.answer kept) x (c.take_opened-received.ensures.end kept) reads stays c.draw_ids.new.self c.draw_ids.ensures.end

pub returns-clause-random : goal.returns-clause-random
returns-clause-random g c served =
    let w = c.args.self.now in
    let last = is_last (g.K.PacketKey.refusal_limit w.keys.packet.remote) w.heard in
    let takes = takes_as c.state.result w.end.closing.state c.state.ensures.state c.in-Open.is in
    let id = c.in_default.field-0 in
    let headed = sym c.destination_of.ensures.head ∙ c.in_default.is in
    let opens = c.in-Ok.ensures.opened in
    let x = c.take_opened-received.new.self in
    let a = c.take_opened-received.result in
    let reads = sym c.is_read.ensures ∙ c.if-not-is_read.false in
    let kept = read_serves a reads in
    let says = c.migrates-migrates.ensures.says in
    let stays = moves_by g.H.HeaderKey.protection g.K.PacketKey.aead g.K.PacketKey.seal_limit g.K.PacketKey.refusal_limit g.R.Rng.stream g.C.Controller.steps g.C.Controller.window_of w c.args.now c.args.remote c.args.ecn last c.args.datagram.now takes id headed _ opens a (c.take_opened-received.ensures.answer kept) x (c.take_opened-received.ensures.end kept) c.migrates-migrates.result c.has_moved.result says c.has_moved.ensures ∙ c.if-has_moved.false in
    read_random g.H.HeaderKey.protection g.K.PacketKey.aead g.K.PacketKey.seal_limit g.K.PacketKey.refusal_limit g.R.Rng.stream g.C.Controller.steps g.C.Controller.window_of w c.args.now c.args.remote c.args.ecn last c.args.datagram.now takes id headed _ opens a (c.take_opened-received.ensures.answer kept) x (c.take_opened-received.ensures.end kept) reads stays c.draw_ids.new.self c.draw_ids.ensures.random

pub returns-clause-failed : goal.returns-clause-failed
returns-clause-failed g c failed =
    let reads = sym c.is_read.ensures ∙ c.if-not-is_read.false in
    absurd (read_serves c.take_opened-received.result reads failed)

pub returns-clause-before : goal.returns-clause-before
returns-clause-before g c failed state =
    let reads = sym c.is_read.ensures ∙ c.if-not-is_read.false in
    absurd (read_serves c.take_opened-received.result reads failed)

pub returns-clause-stopped : goal.returns-clause-stopped
returns-clause-stopped g c failed =
    let reads = sym c.is_read.ensures ∙ c.if-not-is_read.false in
    absurd (read_serves c.take_opened-received.result reads failed)

pub returns-clause-lacking : goal.returns-clause-lacking
returns-clause-lacking g c failed =
    let reads = sym c.is_read.ensures ∙ c.if-not-is_read.false in
    absurd (read_serves c.take_opened-received.result reads failed)

-- ---- one that says that the peer has moved

pub migrate-requires : goal.migrate-requires
migrate-requires g c =
    let w = c.args.self.now in
    let last = is_last (g.K.PacketKey.refusal_limit w.keys.packet.remote) w.heard in
    let takes = takes_as c.state.result w.end.closing.state c.state.ensures.state c.in-Open.is in
    let id = c.in_default.field-0 in
    let headed = sym c.destination_of.ensures.head ∙ c.in_default.is in
    let opens = c.in-Ok.ensures.opened in
    let x = c.take_opened-received.new.self in
    let a = c.take_opened-received.result in
    let reads = sym c.is_read.ensures ∙ c.if-not-is_read.false in
    let kept = read_serves a reads in
    let says = c.migrates-migrates.ensures.says in
    let moved = moves_by g.H.HeaderKey.protection g.K.PacketKey.aead g.K.PacketKey.seal_limit g.K.PacketKey.refusal_limit g.R.Rng.stream g.C.Controller.steps g.C.Controller.window_of w c.args.now c.args.remote c.args.ecn last c.args.datagram.now takes id headed _ opens a (c.take_opened-received.ensures.answer kept) x (c.take_opened-received.ensures.end kept) c.migrates-migrates.result c.has_moved.result says c.has_moved.ensures ∙ c.if-has_moved.true in
    let both = sym c.has_moved.ensures ∙ c.if-has_moved.true in
    let parts = and_parts c.migrates-migrates.result (is_taken a && is_open x.end.closing.state) both in
    let took = (and_parts (is_taken a) (is_open x.end.closing.state) parts.1).0 in
    moves_may g.H.HeaderKey.protection g.K.PacketKey.aead g.K.PacketKey.seal_limit g.K.PacketKey.refusal_limit g.R.Rng.stream g.C.Controller.steps g.C.Controller.window_of w c.args.now c.args.remote c.args.ecn last c.args.datagram.now takes id headed _ opens a (c.take_opened-received.ensures.answer kept) x (c.take_opened-received.ensures.end kept) moved took (c.migrates-migrates.ensures.above parts.0)

pub returns-then-has_moved-clause-answer : goal.returns-then-has_moved-clause-answer
returns-then-has_moved-clause-answer g c served =
    let w = c.args.self.now in
    let last = is_last (g.K.PacketKey.refusal_limit w.keys.packet.remote) w.heard in
    let takes = takes_as c.state.result w.end.closing.state c.state.ensures.state c.in-Open.is in
    let id = c.in_default.field-0 in
    let headed = sym c.destination_of.ensures.head ∙ c.in_default.is in
    let opens = c.in-Ok.ensures.opened in
    let x = c.take_opened-received.new.self in
    let a = c.take_opened-received.result in
    let reads = sym c.is_read.ensures ∙ c.if-not-is_read.false in
    let kept = read_serves a reads in
    let says = c.migrates-migrates.ensures.says in
    let moved = moves_by g.H.HeaderKey.protection g.K.PacketKey.aead g.K.PacketKey.seal_limit g.K.PacketKey.refusal_limit g.R.Rng.stream g.C.Controller.steps g.C.Controller.window_of w c.args.now c.args.remote c.args.ecn last c.args.datagram.now takes id headed _ opens a (c.take_opened-received.ensures.answer kept) x (c.take_opened-received.ensures.end kept) c.migrates-migrates.result c.has_moved.result says c.has_moved.ensures ∙ c.if-has_moved.true in
    let both = sym c.has_moved.ensures ∙ c.if-has_moved.true in
    let parts = and_parts c.migrates-migrates.result (is_taken a && is_open x.end.closing.state) both in
    let took = (and_parts (is_taken a) (is_open x.end.closing.state) parts.1).0 in
    c.migrate.ensures.answer served ∙ taken_is a took ∙ c.take_opened-received.ensures.answer kept ∙ opened_answer g.H.HeaderKey.protection g.K.PacketKey.aead g.K.PacketKey.seal_limit g.K.PacketKey.refusal_limit g.R.Rng.stream g.C.Controller.steps g.C.Controller.window_of w c.args.now c.args.remote c.args.ecn last c.args.datagram.now takes id headed _ opens

pub returns-then-has_moved-clause-end : goal.returns-then-has_moved-clause-end
returns-then-has_moved-clause-end g c served =
    let w = c.args.self.now in
    let last = is_last (g.K.PacketKey.refusal_limit w.keys.packet.remote) w.heard in
    let takes = takes_as c.state.result w.end.closing.state c.state.ensures.state c.in-Open.is in
    let id = c.in_default.field-0 in
    let headed = sym c.destination_of.ensures.head ∙ c.in_default.is in
    let opens = c.in-Ok.ensures.opened in
    let x = c.take_opened-received.new.self in
    let a = c.take_opened-received.result in
    let reads = sym c.is_read.ensures ∙ c.if-not-is_read.false in
    let kept = read_serves a reads in
    let says = c.migrates-migrates.ensures.says in
    let moved = moves_by g.H.HeaderKey.protection g.K.PacketKey.aead g.K.PacketKey.seal_limit g.K.PacketKey.refusal_limit g.R.Rng.stream g.C.Controller.steps g.C.Controller.window_of w c.args.now c.args.remote c.args.ecn last c.args.datagram.now takes id headed _ opens a (c.take_opened-received.ensures.answer kept) x (c.take_opened-received.ensures.end kept) c.migrates-migrates.result c.has_moved.result says c.has_moved.ensures ∙ c.if-has_moved.true in
    let both = sym c.has_moved.ensures ∙ c.if-has_moved.true in
    let parts = and_parts c.migrates-migrates.result (is_taken a && is_open x.end.closing.state) both in
    let took = (and_parts (is_taken a) (is_open x.end.closing.state) parts.1).0 in
    rw (c.migrate.ensures.answer served) (moves_left g.H.HeaderKey.protection g.K.PacketKey.aead g.K.PacketKey.seal_limit g.K.PacketKey.refusal_limit g.R.Rng.stream g.C.Controller.steps g.C.Controller.window_of w c.args.now c.args.remote c.args.ecn last c.args.datagram.now takes id headed _ opens a (c.take_opened-received.ensures.answer kept) x (c.take_opened-received.ensures.end kept) moved took c.migrate.new.self _ refl (c.migrate.ensures.end served c.in-Ok.opened.first c.in-Ok.opened.number))

pub returns-then-has_moved-clause-random : goal.returns-then-has_moved-clause-random
returns-then-has_moved-clause-random g c served =
    let w = c.args.self.now in
    let last = is_last (g.K.PacketKey.refusal_limit w.keys.packet.remote) w.heard in
    let takes = takes_as c.state.result w.end.closing.state c.state.ensures.state c.in-Open.is in
    let id = c.in_default.field-0 in
    let headed = sym c.destination_of.ensures.head ∙ c.in_default.is in
    let opens = c.in-Ok.ensures.opened in
    let x = c.take_opened-received.new.self in
    let a = c.take_opened-received.result in
    let reads = sym c.is_read.ensures ∙ c.if-not-is_read.false in
    let kept = read_serves a reads in
    let says = c.migrates-migrates.ensures.says in
    let moved = moves_by g.H.HeaderKey.protection g.K.PacketKey.aead g.K.PacketKey.seal_limit g.K.PacketKey.refusal_limit g.R.Rng.stream g.C.Controller.steps g.C.Controller.window_of w c.args.now c.args.remote c.args.ecn last c.args.datagram.now takes id headed _ opens a (c.take_opened-received.ensures.answer kept) x (c.take_opened-received.ensures.end kept) c.migrates-migrates.result c.has_moved.result says c.has_moved.ensures ∙ c.if-has_moved.true in
    let both = sym c.has_moved.ensures ∙ c.if-has_moved.true in
    let parts = and_parts c.migrates-migrates.result (is_taken a && is_open x.end.closing.state) both in
    let took = (and_parts (is_taken a) (is_open x.end.closing.state) parts.1).0 in
    moves_random g.H.HeaderKey.protection g.K.PacketKey.aead g.K.PacketKey.seal_limit g.K.PacketKey.refusal_limit g.R.Rng.stream g.C.Controller.steps g.C.Controller.window_of w c.args.now c.args.remote c.args.ecn last c.args.datagram.now takes id headed _ opens a (c.take_opened-received.ensures.answer kept) x (c.take_opened-received.ensures.end kept) moved took c.migrate.new.self (c.migrate.ensures.random served)

pub returns-then-has_moved-clause-failed : goal.returns-then-has_moved-clause-failed
returns-then-has_moved-clause-failed g c failed =
    let w = c.args.self.now in
    let last = is_last (g.K.PacketKey.refusal_limit w.keys.packet.remote) w.heard in
    let takes = takes_as c.state.result w.end.closing.state c.state.ensures.state c.in-Open.is in
    let id = c.in_default.field-0 in
    let headed = sym c.destination_of.ensures.head ∙ c.in_default.is in
    let opens = c.in-Ok.ensures.opened in
    let x = c.take_opened-received.new.self in
    let a = c.take_opened-received.result in
    let reads = sym c.is_read.ensures ∙ c.if-not-is_read.false in
    let kept = read_serves a reads in
    fails_behind g.H.HeaderKey.protection g.K.PacketKey.aead g.K.PacketKey.seal_limit g.K.PacketKey.refusal_limit g.R.Rng.stream g.C.Controller.steps g.C.Controller.window_of w c.args.now c.args.remote c.args.ecn last c.args.datagram.now takes id headed _ opens a (c.take_opened-received.ensures.answer kept) x (c.take_opened-received.ensures.end kept) c.migrate.new.self (c.migrate.ensures.failed failed)

pub returns-then-has_moved-clause-before : goal.returns-then-has_moved-clause-before
returns-then-has_moved-clause-before g c failed =
    let w = c.args.self.now in
    takes_some w.end.closing.state (takes_as c.state.result w.end.closing.state c.state.ensures.state c.in-Open.is)

pub returns-then-has_moved-clause-lacking : goal.returns-then-has_moved-clause-lacking
returns-then-has_moved-clause-lacking g c failed =
    let w = c.args.self.now in
    let last = is_last (g.K.PacketKey.refusal_limit w.keys.packet.remote) w.heard in
    let takes = takes_as c.state.result w.end.closing.state c.state.ensures.state c.in-Open.is in
    let id = c.in_default.field-0 in
    let headed = sym c.destination_of.ensures.head ∙ c.in_default.is in
    let opens = c.in-Ok.ensures.opened in
    let x = c.take_opened-received.new.self in
    let a = c.take_opened-received.result in
    let reads = sym c.is_read.ensures ∙ c.if-not-is_read.false in
    let kept = read_serves a reads in
    let says = c.migrates-migrates.ensures.says in
    let moved = moves_by g.H.HeaderKey.protection g.K.PacketKey.aead g.K.PacketKey.seal_limit g.K.PacketKey.refusal_limit g.R.Rng.stream g.C.Controller.steps g.C.Controller.window_of w c.args.now c.args.remote c.args.ecn last c.args.datagram.now takes id headed _ opens a (c.take_opened-received.ensures.answer kept) x (c.take_opened-received.ensures.end kept) c.migrates-migrates.result c.has_moved.result says c.has_moved.ensures ∙ c.if-has_moved.true in
    let both = sym c.has_moved.ensures ∙ c.if-has_moved.true in
    let parts = and_parts c.migrates-migrates.result (is_taken a && is_open x.end.closing.state) both in
    let took = (and_parts (is_taken a) (is_open x.end.closing.state) parts.1).0 in
    opened_lacks (policy_of g.H.HeaderKey.protection g.K.PacketKey.aead g.K.PacketKey.seal_limit g.K.PacketKey.refusal_limit (words_of g.R.Rng.stream) w) w.end c.args.now c.args.remote c.args.ecn c.args.datagram.now takes id headed _ opens
    (subst (λ (r : Received). TakesFrames r) (taken_is a took ∙ c.take_opened-received.ensures.answer kept) tt)
