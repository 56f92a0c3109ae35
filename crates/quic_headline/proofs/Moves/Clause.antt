-- Datagrams go to where their end takes its peer to be, and a client drops what comes from elsewhere
-- (RFC 9000, section 9): at each place of an honest run.
use Rattle.std.proofs.Common.{◌≡◌, ◌⊎◌, ℕ, suc, Bool, true, false, List, Option, Some, None, Result, Ok, Err, refl, sym, ap, ◌∙◌, subst, inl, inr}
use Rattle.std.specs.Prelude.{◌↔◌, slice_get, if◌then◌else◌}
use Rattle.quic_wire_core.specs.declared.stream_id.Side.{Side}
use Rattle.quic_wire_core.specs.StreamId.{other_side}
use Rattle.quic_packet.specs.Destination.{decoded, fixed_length_id}
use Rattle.quic_packet.specs.declared.packet.HeaderError.{HeaderError}
use Rattle.quic_packet.specs.declared.packet.HeaderError.TheVariants as headers
use Rattle.quic_machine.specs.Arrival.{Arrival, delivered_by, injected_by}
use Rattle.quic_machine.specs.declared.answers.State.{State}
use Rattle.quic_machine.specs.declared.answers.State.TheVariants as states
use Rattle.quic_machine.specs.declared.answers.Transmit.{Transmit}
use Rattle.quic_machine.specs.declared.answers.Received.{Received}
use Rattle.quic_machine.specs.declared.answers.Received.TheVariants.{Dropped}
use Rattle.quic_machine.specs.declared.answers.Received.TheVariants as receives
use Rattle.quic_machine.specs.declared.answers.DropReason.TheVariants as drops
use Rattle.quic_machine.specs.declared.run.Delivery.{Delivery}
use Rattle.quic_machine.specs.declared.run.Injection.{Injection}
use Rattle.quic_machine.specs.declared.run.Call.TheVariants as calls
use Rattle.quic_machine.specs.declared.run.Answer.{Answer}
use Rattle.quic_machine.specs.declared.run.Answer.TheVariants as answers
use Rattle.quic_machine.specs.Policy.{Policy}
use Rattle.quic_machine.specs.Closing.{ticked}
use Rattle.quic_machine.specs.Parts.{Path}
use Rattle.quic_machine.specs.Ids.{known}
use Rattle.quic_machine.specs.Opens.{own_id_length, with_drop, would_open}
use Rattle.quic_machine.specs.Migration.{is_foreign}
use Rattle.quic_machine.specs.End.{End, with_closing, closed_by}
use Rattle.quic_machine.specs.Receive.{headed, opening, received, received_in}
use Rattle.quic_machine.specs.Poll.{Polled, polled}
use Rattle.quic_machine.specs.PollCases.{at_poll, by_poll, composes}
use Rattle.quic_machine.specs.Machine.{World, IsDelivered, policy_at, given_by, end_at, end_met, says_last, fails, injected_if}
use Rattle.quic_headline.specs.Runs.{Run, AreServed, is_elsewhere}
use Rattle.quic_headline.specs.Headline.{IsHonest, IsRun, takes_nothing_from}
use Rattle.quic_headline.specs.Moves.{GoesToPath, ReadsAt, ComesTo, delivered, injected, DropsOtherAddresses}
use Rattle.quic_headline.proofs.Packets.Probes.{may_leave}
use Rattle.quic_headline.proofs.Packets.Closes.{by_closes}
use Rattle.quic_headline.proofs.Packets.ByKey.{opened_here}
use Rattle.quic_headline.proofs.Places.Placed.{placed_less, answered, Placed}
use Rattle.quic_headline.proofs.Places.Steps.{poll_answer}
use Rattle.quic_headline.proofs.Places.Everything as everything
use Rattle.quic_headline.proofs.Places.Theorems.{ready}
use Rattle.quic_headline.proofs.Halves.Ready.{Ready}
use Rattle.quic_headline.proofs.Timers.Watched.{Observed}
use Rattle.quic_headline.proofs.Steps.Made.{made_at, made_served, served_before, served_at}
use Rattle.quic_headline.proofs.Moves.Route.{all_placed, routed_at}
use Rattle.quic_headline.proofs.Moves.Foreign.{foreign_is}
use Rattle.quic_machine.specs.declared.answers.Failed.{Failed}

-- ---- where a datagram goes

-- what a poll answers goes to this address, if it gives a datagram
abbrev GoesTo : ℕ → Result (Option Transmit) Failed → Type 0
GoesTo remote (Ok (Some t)) = t.remote ≡ remote
GoesTo remote (Ok None) = Unit {0}
GoesTo remote (Err failed) = Unit {0}

-- it goes to where its end takes its peer to be
poll_goes : (p : Policy) (e : End) (now : ℕ) → GoesTo e.path.remote (polled p e now).answer
poll_goes p e now = by_poll p e now (λ (q : Polled). GoesTo e.path.remote q.answer) (record {
  silent = tt;
  failed = tt;
  nothing = λ c. tt;
  repeats = λ still. by_closes p (with_closing e (ticked e.closing now)) (λ (q : Polled). GoesTo e.path.remote q.answer) tt (λ f goes. refl);
  closes = λ reason c bound. by_closes p (closed_by reason (at_poll e now c)) (λ (q : Polled). GoesTo e.path.remote q.answer) tt (λ f goes. refl);
  gives = λ leaving c left s n ready some.
      let x : End = at_poll e now c in
      ap (λ (q : Path). q.remote) (composes leaving x (may_leave e now leaving x ready)).path;
})

-- what a poll answered, and what came to an end by a call
abbrev polled_of : Answer → Result (Option Transmit) Failed
polled_of (answers.Poll o) = o
polled_of a = Ok None

abbrev received_of : Answer → Received
received_of (answers.Deliver a) = a
received_of (answers.Inject a) = a
received_of a = receives.Failed

-- ---- what is dropped for its address

-- no header is why a datagram is dropped for its address
no_header : (r : Result (List ℕ) HeaderError) (p : Policy) (e : End) (arrival : Arrival) (d : List ℕ) → (headed (with_drop r) p e arrival d).answer ≡ Dropped drops.Address → ⊥
no_header (Err headers.TooShort) p e arrival d is = cc
no_header (Err headers.NotShort) p e arrival d is = cc
no_header (Err headers.FixedBit) p e arrival d is = cc
no_header (Err headers.UnknownId) p e arrival d is = cc
no_header (Ok id) p e arrival d is =
    let here = opened_here (opening p e d) p arrival e in
    let clash : false ≡ true = sym here ∙ ap (λ (a : Received). is_elsewhere (answers.Deliver a)) is in
    cc

headed_address : (away : Bool) (r : Result (List ℕ) HeaderError) (p : Policy) (e : End) (arrival : Arrival) (d : List ℕ) → ((headed (if away then Err drops.Address else with_drop r) p e arrival d).answer ≡ Dropped drops.Address) ↔ (away ≡ true)
headed_address true r p e arrival d = (λ is. refl, λ is. refl)
headed_address false r p e arrival d = (λ is. absurd (no_header r p e arrival d is), λ is. cc)

-- an end that reads drops it exactly where it takes nothing from there
received_address : (p : Policy) (e : End) (arrival : Arrival) (d : List ℕ) (s : State) → (s ≡ states.Open) ⊎ (s ≡ states.Closing) → ((received_in s p e arrival d).answer ≡ Dropped drops.Address) ↔ (is_foreign arrival.remote e ≡ true)
received_address p e arrival d states.Open reads = headed_address (is_foreign arrival.remote e) (decoded (fixed_length_id own_id_length) (known e.ids) d) p e arrival d
received_address p e arrival d states.Closing reads = headed_address (is_foreign arrival.remote e) (decoded (fixed_length_id own_id_length) (known e.ids) d) p e arrival d
received_address p e arrival d states.Drained reads = elim reads [ inl is ↦ cc | inr is ↦ cc ]
received_address p e arrival d states.Failed reads = elim reads [ inl is ↦ cc | inr is ↦ cc ]

-- of what a delivery or an injection is answered
delivered_address : (p : Policy) (e : End) (delivery : Delivery) (o : Option (List ℕ)) (a : Received) → (e.closing.state ≡ states.Open) ⊎ (e.closing.state ≡ states.Closing) → fails (answers.Deliver a) ≡ false → IsDelivered p e delivery o (answers.Deliver a)
    → (a ≡ Dropped drops.Address) ↔ (is_foreign delivery.remote e ≡ true)
delivered_address p e delivery None a reads served is = cc
delivered_address p e delivery (Some d) a reads served (inr is) = (let failed = ap fails is in cc)
delivered_address p e delivery (Some d) a reads served (inl is) =
    let arrival : Arrival = delivered_by (says_last (answers.Deliver a)) delivery in
    let same : a ≡ (received p e arrival d).answer = ap received_of is in
    subst (λ (b : Received). (b ≡ Dropped drops.Address) ↔ (is_foreign delivery.remote e ≡ true)) (sym same) (received_address p e arrival d e.closing.state reads)

injected_address : (opened last : Bool) (p : Policy) (e : End) (injection : Injection) (a : Received) → (e.closing.state ≡ states.Open) ⊎ (e.closing.state ≡ states.Closing) → answers.Inject a ≡ injected_if opened last p e injection
    → (a ≡ Dropped drops.Address) ↔ (is_foreign injection.remote e ≡ true)
injected_address true last p e injection a reads is = cc
injected_address false last p e injection a reads is =
    let arrival : Arrival = injected_by last injection in
    let same : a ≡ (received p e arrival injection.bytes).answer = ap received_of is in
    subst (λ (b : Received). (b ≡ Dropped drops.Address) ↔ (is_foreign injection.remote e ≡ true)) (sym same) (received_address p e arrival injection.bytes e.closing.state reads)

-- ---- the clauses

module _ (r : Run) (end : World) (honest : IsHonest r) (run : IsRun r end) where
  pub goes_to_path : GoesToPath r
  goes_to_path side i now t served at =
      let made = made_at (everything.All Ready ready) (everything.all Ready ready) r end honest run i side (calls.Poll now) (answers.Poll (Ok (Some t))) at served in
      let m = made.made in
      let e : End = end_met made.before (record { side = side; call = calls.Poll now }) in
      let said = poll_answer (policy_at side r.keys) e now (answers.Poll (Ok (Some t))) m.step.answer (made_served r i side (calls.Poll now) (answers.Poll (Ok (Some t))) made.before made.behind m) in
      subst (GoesTo e.path.remote) (sym (ap polled_of said)) (poll_goes (policy_at side r.keys) e now)
      ∙ sym (routed_at r end honest run side i made.before (served_before r.answers i served) m.leads).address

  module _ (side : Side) (i : ℕ) (served : AreServed r (suc i)) (reads : ReadsAt r side i) where
    at : Placed Observed r end side i
    at = placed_less (everything.All Ready ready) Observed r end side i (λ x y h. (h.0.0, h.1)) (all_placed r end honest run side i (served_before r.answers i served))

    abbrev e : End
    e = end_at side at.world

    reads_there : (e.closing.state ≡ states.Open) ⊎ (e.closing.state ≡ states.Closing)
    reads_there = elim reads [ inl opened ↦ inl (at.state ∙ opened) | inr closing ↦ inr (at.state ∙ closing) ]

    by_lists : (remote : ℕ) (a : Received) → ((a ≡ Dropped drops.Address) ↔ (is_foreign remote e ≡ true)) → (a ≡ Dropped drops.Address) ↔ (takes_nothing_from r side remote ≡ true)
    by_lists remote a is = subst (λ (b : Bool). (a ≡ Dropped drops.Address) ↔ (b ≡ true)) (foreign_is r end honest side i at remote) is

    drops_at : (remote : ℕ) (a : Received) → ComesTo r i side remote a → (a ≡ Dropped drops.Address) ↔ (takes_nothing_from r side remote ≡ true)
    drops_at remote a (delivered delivery b there) = by_lists delivery.remote b (delivered_address (policy_at side r.keys) e delivery (slice_get (given_by (other_side side) at.world) delivery.index) b reads_there
        (served_at r.answers i (answers.Deliver b) served there.answer) (answered r at.world end i side (calls.Deliver delivery) (answers.Deliver b) at.goes_on there))
    drops_at remote a (injected injection b there) = by_lists injection.remote b (injected_address (would_open (policy_at side r.keys) e injection.remote injection.bytes) (says_last (answers.Inject b)) (policy_at side r.keys) e injection b reads_there
        (answered r at.world end i side (calls.Inject injection) (answers.Inject b) at.goes_on there))

  pub drops_other_addresses : DropsOtherAddresses r
  drops_other_addresses side i remote a served reads comes = drops_at side i served reads remote a comes
