use Rattle.std.proofs.Common.{◌≡◌, ◌≢◌, ℕ, ◌<◌, List, [], length, Some, sym, ◌∙◌, subst, arith}
use Rattle.std.specs.Prelude.{slice_get}
use Rattle.quic_wire_core.specs.declared.stream_id.Side.{Side}
use Rattle.quic_wire_core.specs.declared.stream_id.Side.TheVariants.{Client, Server}
use Rattle.quic_wire_core.specs.declared.stream_id.Dir.{Dir}
use Rattle.quic_wire_core.specs.StreamId.{other_side}
use Rattle.quic_machine.specs.declared.run.Call.{Call}
use Rattle.quic_machine.specs.declared.run.Call.TheVariants as calls
use Rattle.quic_machine.specs.declared.run.RunEvent.{RunEvent}
use Rattle.quic_machine.specs.declared.run.Answer.{Answer}
use Rattle.quic_machine.specs.Lacking.{TakesOfItsOwn}
use Rattle.quic_machine.specs.Machine.{World, given_by}
use Rattle.quic_connection.specs.Rooms.{told_len}
use Rattle.quic_connection.specs.Stopping.{TakesMemory, for_call, for_view, StopsFor, at_once, at_event, StopsAloneFor, none_made, at_call}
use Rattle.quic_connection_rows.proofs.stopping.opening_is_no_cause.Goals as goal

takes_none : (w : World) (event : RunEvent) (side : Side) (dir : Dir) → event ≡ record { side = side; call = calls.Open dir } → told_len w.client.closing.reason ≡ 0 → told_len w.server.closing.reason ≡ 0 → TakesMemory w event → ⊥
takes_none w event side dir is client server (for_call takes) =
    let P : RunEvent → Type 0 = λ e. TakesOfItsOwn (given_by (other_side e.side) w) e.call in
    subst P is takes
takes_none w event side dir is client server (for_view Client some) = absurd (omega (arith, client, some))
takes_none w event side dir is client server (for_view Server some) = absurd (omega (arith, server, some))

stops_for : (w : World) (events : List RunEvent) (answers : List Answer) (side : Side) (dir : Dir) → answers ≢ [] → slice_get events (length answers) ≡ Some (record { side = side; call = calls.Open dir }) → told_len w.client.closing.reason ≡ 0
    → told_len w.server.closing.reason ≡ 0 → StopsFor events answers w → ⊥
stops_for w events answers side dir some at client server (at_once none) = some none
stops_for w events answers side dir some at client server (at_event event is takes) =
    let same : event ≡ record { side = side; call = calls.Open dir } = cc in
    takes_none w event side dir same client server takes

stops_alone : (theirs : List (List ℕ)) (made : List Call) (answers : List Answer) (dir : Dir) → answers ≢ [] → slice_get made (length answers) ≡ Some (calls.Open dir) → StopsAloneFor theirs made answers → ⊥
stops_alone theirs made answers dir some at (none_made none) = some none
stops_alone theirs made answers dir some at (at_call call is takes) =
    let same : call ≡ calls.Open dir = cc in
    subst (TakesOfItsOwn theirs) same takes

pub returns-clause-run : goal.returns-clause-run
returns-clause-run c = stops_for

pub returns-clause-alone : goal.returns-clause-alone
returns-clause-alone c = stops_alone
