use Rattle.std.proofs.Common.{rules, ◌≡◌, ◌∙◌, Option, Some, None, IfSome, Err, sym, ap, subst}
use Rattle.quic_wire_core.specs.declared.stream_id.Side.{Side}
use Rattle.quic_wire_core.specs.declared.stream_id.Side.TheVariants.{Client, Server}
use Rattle.quic_machine.specs.Parts.{heard_done}
use Rattle.quic_machine.specs.End.{End, side_of, with_confirmation}
use Rattle.quic_machine.specs.Receive.{Fault, Progress, goes_on, violation, fault_at, done_taken}
use Rattle.quic_connection_parts.specs.Faults.{fault_view}
use Rattle.quic_connection_core.proofs.connection.Connection.take_handshake_done.Goals as goal

-- what an end of this side comes to by a frame that only servers send
abbrev AtSide : Side → End → Progress
AtSide side e = record { end = e; fault = fault_at side }

-- a server takes none, and a client each
refused : (side : Side) (o : Option Fault) (e : End) → IfSome o (λ fault. AtSide side e ≡ record { end = e; fault = Some fault }) → IfSome o (λ fault. done_taken side e ≡ record { end = e; fault = Some fault })
refused side None e is = tt
refused Client (Some fault) e is = absurd (let both : None ≡ Some fault = ap (λ (p : Progress). p.fault) is in cc)
refused Server (Some fault) e is = is

taken : (side : Side) (e f : End) → AtSide side e ≡ goes_on e → f ≡ with_confirmation e (heard_done e.confirmation) → done_taken side e ≡ goes_on f
taken Client e f is new = ap goes_on (sym new)
taken Server e f is new = absurd (let both : Some violation ≡ None = ap (λ (p : Progress). p.fault) is in cc)

pub returns-in_err-take_of_server-clause-takes : goal.returns-in_err-take_of_server-clause-takes
returns-in_err-take_of_server-clause-takes g c =
    let e = c.args.self.now.end in
    let trouble = c.in_err-take_of_server.field-0.0 in
    let is : c.from_residual.result ≡ Err trouble = search rules in
    rw is (refused (side_of e) (fault_view trouble) e
    (subst (λ (s : Side). IfSome (fault_view trouble) (λ fault. AtSide s e ≡ record { end = e; fault = Some fault })) c.side.ensures (c.in_err-take_of_server.ensures e)))

pub returns-clause-takes : goal.returns-clause-takes
returns-clause-takes g c =
    let e = c.args.self.now.end in
    taken (side_of e) e _ (ap (λ (s : Side). AtSide s e) (sym c.side.ensures) ∙ c.in_ok-take_of_server.ensures e)
    (ap (λ w. with_confirmation w.end (heard_done w.end.confirmation)) c.self.view_is)
