-- Where a call may lack memory at a place of a run: where the reference machine takes some.
use Rattle.std.proofs.Common.{ℕ, suc, List, [], ◌∷◌, drop}
use Rattle.quic_wire_core.specs.declared.stream_id.Side.{Side}
use Rattle.quic_wire_core.specs.StreamId.{other_side}
use Rattle.quic_machine.specs.declared.run.RunEvent.{RunEvent}
use Rattle.quic_machine.specs.declared.run.Call.{Call}
use Rattle.quic_machine.specs.declared.run.Answer.{Answer}
use Rattle.quic_machine.specs.declared.run.View.{View}
use Rattle.quic_machine.specs.Lacking.{LacksWhere}
use Rattle.quic_machine.specs.Machine.{World, Policies, Follows, policy_at, end_at, end_met, given_by, control_at, heard_at, reads_window}
use Rattle.quic_headline.specs.Runs.{Run}
use Rattle.quic_headline.specs.Headline.{IsAt}
use Rattle.quic_headline.proofs.Places.Placed.{first_left}

-- where the next call may
next_lacking : (k : Policies) (w end : World) (events : List RunEvent) (told : List Answer) (views : List View) (event : RunEvent) (a : Answer) → Follows k w (event ∷ events) (a ∷ told) views end
    → LacksWhere (policy_at event.side k) (end_met w event) (given_by (other_side event.side) w) event.call a
next_lacking k w end events told [] event a f = absurd f
next_lacking k w end events told (v ∷ views) event a f = f.1.lacking

-- where a call may
pub lacking_at : (r : Run) (w end : World) (i : ℕ) (side : Side) (call : Call) (a : Answer) → Follows r.keys w (drop i r.events) (drop i r.answers) (drop i r.views) end → IsAt r i side call a
    → LacksWhere (policy_at side r.keys) (reads_window (control_at side w) (heard_at side w) call (end_at side w)) (given_by (other_side side) w) call a
lacking_at r w end i side call a f at =
    let event : RunEvent = record { side = side; call = call } in
    next_lacking r.keys w end (drop (suc i) r.events) (drop (suc i) r.answers) (drop i r.views) event a (rw (first_left r.events i event at.event, first_left r.answers i a at.answer) at f)
