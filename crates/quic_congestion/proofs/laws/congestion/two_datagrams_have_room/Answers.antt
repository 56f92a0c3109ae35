use Rattle.quic_congestion.specs.Congestion.{steps_of}
use Rattle.quic_congestion.proofs.Histories.{size_after_calls, room_after_calls}
use Rattle.quic_congestion.proofs.laws.congestion.two_datagrams_have_room.Goals as goal

pub returns-clause-size : goal.returns-clause-size
returns-clause-size g c =
    λ d calls. size_after_calls g.C.Controller.size_of g.C.Controller.window_of
    (steps_of g.C.Controller.after_sent g.C.Controller.after_ack g.C.Controller.after_end_acks g.C.Controller.after_congestion_event g.C.Controller.after_mtu_update)
    (record { sent = g.met.C.Controller.sent_keeps_room; ack = g.met.C.Controller.ack_keeps_room; end_acks = g.met.C.Controller.end_acks_keeps_room; event = g.met.C.Controller.event_keeps_room; update = g.met.C.Controller.update_takes_size })
    d calls

pub returns-clause-room : goal.returns-clause-room
returns-clause-room g c =
    λ d calls. room_after_calls g.C.Controller.size_of g.C.Controller.window_of
    (steps_of g.C.Controller.after_sent g.C.Controller.after_ack g.C.Controller.after_end_acks g.C.Controller.after_congestion_event g.C.Controller.after_mtu_update)
    (record { sent = g.met.C.Controller.sent_keeps_room; ack = g.met.C.Controller.ack_keeps_room; end_acks = g.met.C.Controller.end_acks_keeps_room; event = g.met.C.Controller.event_keeps_room; update = g.met.C.Controller.update_takes_size })
    d calls
