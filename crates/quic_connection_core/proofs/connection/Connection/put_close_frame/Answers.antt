use Rattle.std.proofs.Common.{◌≡◌, ◌++◌, ◌+◌, ◌≤◌, ℕ, List, length, take, Option, Some, None, refl, sym, ap, ◌∙◌, arith}
use Rattle.std.proofs.lemmas.List.{length-append}
use Rattle.std.specs.Option.{option_copied, option_map}
use Rattle.std.specs.Borrow.{Bor}
use Rattle.quic_wire.specs.Value.{FrameValue, application_close}
use Rattle.quic_wire.specs.Writing.{spelling}
use Rattle.quic_machine.specs.Closing.{close_owed}
use Rattle.quic_machine.specs.Poll.{close_room, longest_fitting, fitted}
use Rattle.quic_connection_parts.specs.Closes.{close_frame}
use Rattle.quic_connection_parts.specs.declared.closing.OwnClose.{OwnClose}
use Rattle.quic_connection_parts.specs.declared.closing.OwnClose.TheVariants.{Transport, Application}
use Rattle.quic_connection_parts.proofs.Closed.{owed_so, owed_none, transport_three, application_three, transport_small}
use Rattle.quic_connection_core.proofs.connection.Connection.put_close_frame.Goals as goal

-- ---- an error of QUIC

pub put_transport_close-requires : goal.put_transport_close-requires
put_transport_close-requires g c =
    let small = transport_small c.in-Some-Transport.code in
    let some = c.close_room-room.ensures.some in
    let same = c.close_room-room.ensures.room in
    let room = c.requires.room in
    omega (arith, small, some, same, room)

pub returns-in-Some-Transport-clause-items : goal.returns-in-Some-Transport-clause-items
returns-in-Some-Transport-clause-items g c =
    let w = c.args.self.now in
    let owed : close_owed w.end.closing ≡ Some (close_frame (Transport c.in-Some-Transport.code)) = sym (ap (λ x. close_owed x.end.closing) c.self.view_is) ∙ sym c.owed.ensures ∙ ap (λ (o : Option (Bor OwnClose)). option_map close_frame (option_copied o)) c.in-Some-Transport.is ∙ ap (λ (x : OwnClose). Some (close_frame x)) c.in-Some-Transport.field-0-is in
    owed_so _ (close_owed w.end.closing) (close_frame (Transport c.in-Some-Transport.code)) owed c.put_transport_close.ensures.items

pub returns-in-Some-Transport-clause-form : goal.returns-in-Some-Transport-clause-form
returns-in-Some-Transport-clause-form g c =
    let w = c.args.self.now in
    let owed : close_owed w.end.closing ≡ Some (close_frame (Transport c.in-Some-Transport.code)) = sym (ap (λ x. close_owed x.end.closing) c.self.view_is) ∙ sym c.owed.ensures ∙ ap (λ (o : Option (Bor OwnClose)). option_map close_frame (option_copied o)) c.in-Some-Transport.is ∙ ap (λ (x : OwnClose). Some (close_frame x)) c.in-Some-Transport.field-0-is in
    let three = transport_three c.in-Some-Transport.code in
    let long = ap length c.put_transport_close.ensures.items ∙ length-append c.args.out.now.items (spelling (close_frame (Transport c.in-Some-Transport.code))) in
    let before = c.args.out.now.ok.0 in
    let after = c.put_transport_close.new.out.ok.0 in
    owed_so _ (close_owed w.end.closing) (close_frame (Transport c.in-Some-Transport.code)) owed (refl, omega (arith, three, long, before, after), three)

pub returns-in-Some-Transport-clause-within : goal.returns-in-Some-Transport-clause-within
returns-in-Some-Transport-clause-within g c =
    let small = transport_small c.in-Some-Transport.code in
    let some = c.close_room-room.ensures.some in
    let same = c.close_room-room.ensures.room in
    let len = c.put_transport_close.ensures.len in
    omega (arith, small, some, same, len)

-- ---- the application's

pub returns-in-Some-Application-clause-items : goal.returns-in-Some-Application-clause-items
returns-in-Some-Application-clause-items g c =
    let w = c.args.self.now in
    let code = c.in-Some-Application.code in
    let front : List ℕ = c.args.out.now.items in
    let owed : close_owed w.end.closing ≡ Some (close_frame (Application code c.in-Some-Application.reason)) = sym (ap (λ x. close_owed x.end.closing) c.self.view_is) ∙ sym c.owed.ensures ∙ ap (λ (o : Option (Bor OwnClose)). option_map close_frame (option_copied o)) c.in-Some-Application.is ∙ ap (λ (x : OwnClose). Some (close_frame x)) c.in-Some-Application.field-0-is in
    owed_so _ (close_owed w.end.closing) (close_frame (Application code c.in-Some-Application.reason)) owed
    (c.put_application_close.ensures.items
    ∙ ap (λ (k : ℕ). front ++ spelling (fitted k (application_close (record { code = code; reason = c.deref.result.now })))) c.close_room-room.ensures.room
    ∙ ap (λ (text : List ℕ). front ++ spelling (fitted (close_room w.end) (application_close (record { code = code; reason = text })))) c.deref.ensures)

pub returns-in-Some-Application-clause-form : goal.returns-in-Some-Application-clause-form
returns-in-Some-Application-clause-form g c =
    let w = c.args.self.now in
    let code = c.in-Some-Application.code in
    let front : List ℕ = c.args.out.now.items in
    let owed : close_owed w.end.closing ≡ Some (close_frame (Application code c.in-Some-Application.reason)) = sym (ap (λ x. close_owed x.end.closing) c.self.view_is) ∙ sym c.owed.ensures ∙ ap (λ (o : Option (Bor OwnClose)). option_map close_frame (option_copied o)) c.in-Some-Application.is ∙ ap (λ (x : OwnClose). Some (close_frame x)) c.in-Some-Application.field-0-is in
    let goes : FrameValue = fitted (close_room w.end) (close_frame (Application code c.in-Some-Application.reason)) in
    let put : c.put_application_close.new.out.items ≡ front ++ spelling goes
    = c.put_application_close.ensures.items
    ∙ ap (λ (k : ℕ). front ++ spelling (fitted k (application_close (record { code = code; reason = c.deref.result.now })))) c.close_room-room.ensures.room
    ∙ ap (λ (text : List ℕ). front ++ spelling (fitted (close_room w.end) (application_close (record { code = code; reason = text })))) c.deref.ensures in
    let text : List ℕ = c.in-Some-Application.reason in
    let three : 3 ≤ length (spelling goes) = application_three code (take (longest_fitting (close_room w.end) code text (length text)) text) in
    let long = ap length put ∙ length-append front (spelling goes) in
    let before = c.args.out.now.ok.0 in
    let after = c.put_application_close.new.out.ok.0 in
    owed_so _ (close_owed w.end.closing) (close_frame (Application code c.in-Some-Application.reason)) owed (refl, omega (arith, three, long, before, after), three)

-- ---- none

pub returns-in-None-clause-items : goal.returns-in-None-clause-items
returns-in-None-clause-items g c =
    let owed : close_owed c.args.self.now.end.closing ≡ None = sym (ap (λ x. close_owed x.end.closing) c.self.view_is) ∙ sym c.owed.ensures ∙ ap (λ (o : Option (Bor OwnClose)). option_map close_frame (option_copied o)) c.in-None.is in
    owed_none _ (close_owed c.args.self.now.end.closing) owed

pub returns-in-None-clause-form : goal.returns-in-None-clause-form
returns-in-None-clause-form g c =
    let owed : close_owed c.args.self.now.end.closing ≡ None = sym (ap (λ x. close_owed x.end.closing) c.self.view_is) ∙ sym c.owed.ensures ∙ ap (λ (o : Option (Bor OwnClose)). option_map close_frame (option_copied o)) c.in-None.is in
    owed_none _ (close_owed c.args.self.now.end.closing) owed
