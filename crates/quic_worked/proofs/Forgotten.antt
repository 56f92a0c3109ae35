-- A client that forgets a datagram which never came doesn't wait for what is in flight, leaves
-- bytes that are nowhere, and no run leads to it.
use Rattle.std.proofs.Common.{false, take, map, ◌≡◌, [], ◌∷◌, true, refl, ap, ◌∙◌, ◌⊎◌, inl, inr, arith}
use Rattle.quic_wire_core.specs.declared.stream_id.Side.TheVariants.{Client, Server}
use Rattle.quic_machine.specs.declared.answers.State.TheVariants as states
use Rattle.quic_machine.specs.declared.run.ReadCall.{ReadCall}
use Rattle.quic_streams_parts.specs.Table.{Table}
use Rattle.quic_machine.specs.Tracking.{TrackedPacket}
use Rattle.quic_machine.specs.Machine.{World, Follows}
use Rattle.quic_headline.specs.Runs.{HasArrived}
use Rattle.quic_headline.specs.Duties.{Offset, Waits, IsCarried, DutiesAt}
use Rattle.quic_headline.specs.Observer.{took}
use Rattle.quic_headline.specs.InFlight.{in_flight, but_for_record, TracksAt}
use Rattle.quic_worked.specs.Worked.{sending_events, sending_answers, worked_views, carrying, acknowledging, started, once_opened, once_written, once_ended, once_sent, once_taken, worked_policies, ids_again}
use Rattle.quic_worked.specs.Acknowledged.{client_acked}
use Rattle.quic_worked.specs.Broken.{NeverLeads, sending_run, answered_run, forgotten}
use Rattle.quic_machine.specs.RunLaws.{one_run}
use Rattle.quic_worked.proofs.WorkedRun.{opens, writes, finishes, gives, sent_seen}
use Rattle.quic_retransmits.specs.Retransmits.{nothing_waits}
use Rattle.quic_worked.proofs.Unmoved.{client_tells_stays}

-- ---- what is in flight, at each place

-- before the datagram is given, nothing
pub flies_not : (read : ReadCall) → in_flight (answered_run read) Client 3 ≡ []
flies_not read = refl

-- until it is acknowledged, it is
pub flies : (read : ReadCall) → in_flight (answered_run read) Client 7 ≡ (0, carrying ids_again 230 0 5 true) ∷ []
unfolding once_taken
flies read = refl

-- behind its acknowledgement, nothing
pub flies_no_more : (read : ReadCall) → in_flight (answered_run read) Client 8 ≡ []
unfolding client_acked
flies_no_more read = refl

-- the acknowledgement is waited for as well, though it doesn't ask for one
pub flies_silent : (read : ReadCall) → in_flight (answered_run read) Server 8 ≡ (0, acknowledging 25000000 0) ∷ []
unfolding client_acked
flies_silent read = refl

-- ---- the client that forgets it

-- it is in flight once it was given
flies_first : (read : ReadCall) → in_flight (sending_run read) Client 4 ≡ (0, carrying ids_again 230 0 5 true) ∷ []
unfolding once_taken
flies_first read = refl

-- and the client, which is open,
still_open : forgotten.client.closing.state ≡ states.Open
unfolding once_sent
still_open = refl

-- waits for nothing
pub forgets : (read : ReadCall) → TracksAt (sending_run read) 4 forgotten → ⊥
forgets read h = let none : ◌≡◌ {A = Table TrackedPacket} [] ((0, carrying nothing_waits 230 0 5 true) ∷ []) = (h Client still_open).same ∙ ap (λ (ps : Table TrackedPacket). map but_for_record ps) (flies_first read) in cc

-- nothing waits to go
waits_not : Waits forgotten.client (Offset 0 0) → ⊥
unfolding once_sent
waits_not w = let due = w.due in cc

nowhere : (read : ReadCall) → Waits forgotten.client (Offset 0 0) ⊎ IsCarried forgotten.client.tracking.packets (Offset 0 0) ⊎ HasArrived (took (sending_run read) Server 4) 0 0 → ⊥
nowhere read (inl w) = waits_not w
nowhere read (inr (inl g)) = g
nowhere read (inr (inr a)) = a.taken.was_taken

-- the client wrote five bytes, of which none waits, is under way or came
pub loses : (read : ReadCall) → DutiesAt (sending_run read) 4 forgotten → ⊥
loses read stands = nowhere read (stands Client (λ n. false) (Offset 0 0) (client_tells_stays (sending_run read) (λ n. false)) (refl, omega arith))

-- the machine gives the datagram, and waits for it
sends : Follows worked_policies started sending_events sending_answers (take 4 worked_views) once_sent
sends = (
  once_opened,
  opens,
  refl,
  (once_written, writes, refl, (once_ended, finishes, refl, (once_sent, gives, sent_seen, refl))),
)

tracked : once_sent.client.tracking.packets ≡ (0, carrying ids_again 230 0 5 true) ∷ []
unfolding once_sent
tracked = refl

-- it leads to no other end
pub never_forgets : NeverLeads sending_events sending_answers forgotten
never_forgets views f =
    let same = one_run worked_policies sending_answers started sending_events views (take 4 worked_views) forgotten once_sent refl f sends in
    let none : ◌≡◌ {A = Table TrackedPacket} [] ((0, carrying ids_again 230 0 5 true) ∷ []) = ap (λ (w : World). w.client.tracking.packets) same.1 ∙ tracked in
    cc
