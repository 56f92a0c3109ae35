-- What a probe leaves (RFC 9002, section 6.2.4): what has to be sent again of a tracked packet
-- waits again, and the packet stays tracked without it.
use Rattle.std.proofs.Common.{◌≡◌, ℕ, Bool, true, false, cond, if◌then◌else◌, List, [], ◌∷◌, Option, Some, None, refl, sym, ap, ◌∙◌, subst, ◌⊎◌, inl, inr}
use Rattle.std.specs.Prelude.{nat_lt}
use Rattle.std.specs.Ordering.{nat_cmp, is_eq}
use Rattle.std.proofs.lemmas.Cmp.{ranked}
use Rattle.std.specs.declared.cmp.Ordering.{Ordering}
use Rattle.std.specs.declared.cmp.Ordering.TheVariants.{Less, Equal, Greater}
use Rattle.quic_streams_parts.specs.Table.{Table, put}
use Rattle.quic_streams_state.specs.declared.state.StreamsState.{StreamsState}
use Rattle.quic_streams_state.specs.State.{Streams, streams_of}
use Rattle.quic_streams_state.specs.Waiting.{is_empty}
use Rattle.quic_spaces.specs.Records.{first_record}
use Rattle.quic_machine.specs.Closing.{ticked}
use Rattle.quic_machine.specs.Tracking.{TrackedPacket, without_record}
use Rattle.quic_congestion.specs.Pacer.{Pacing}
use Rattle.quic_machine.specs.Idle.{agreed_timeout, idle_moment, alive_moment, keep_alive_reset, idle_reset_if, packet_given, idle_reset}
use Rattle.quic_machine.specs.End.{End, words_drawn, with_closing, with_ping, with_immediate, with_number_given, with_loss_timer, streams_at, closed_by, with_frames}
use Rattle.quic_machine.specs.Acked.{again}
use Rattle.quic_machine.specs.Control.{Gated, pacer_asked, paid, with_pacing_timer, with_app_limited}
use Rattle.quic_machine.specs.Poll.{Polled, Draft, asking, datagram_size, tracked, paid_if, after_given, record_moved, probed, gated, composed, lazied, draft_as, polled, alone, whole, Leaving, Ready, leaves, leaves_unless, request_queued}
use Rattle.quic_machine.specs.Policy.{Policy}
use Rattle.quic_machine.specs.PollCases.{ready_at, draft_at, by_probed, by_gate, search_leaves, ready_leaves, by_poll_to, may_leave_at}
use Rattle.quic_machine.specs.DraftLaws.{MayLeave}
use Rattle.quic_headline.specs.Runs.{In}
use Rattle.quic_headline.specs.Observer.{Sent}
use Rattle.quic_headline.proofs.Packets.Closes.{by_closes}
use Rattle.quic_congestion.specs.Search.{Discovery}
use Rattle.quic_headline.proofs.Packets.Invariant.{IsCarriedFrom, AreTracked, carried_without}

-- ---- the pacer

-- an end where ACK_FREQUENCY waits, or doesn't
abbrev pub with_asked : End → Bool → End
with_asked e waits = with_frames e (record e.waiting.frames { ack_frequency = waits })

-- an end with another pacer, whose timer may be set, and another search for a size
abbrev pub with_pacer : End → Option ℕ → Pacing → Discovery → End
with_pacer e moment pacing discovery = record e { timers = record e.timers { pacing = moment }; path = record e.path { pacing = pacing; discovery = discovery } }

-- ---- tables of packets

-- the first packet whose record would be written is one of them
pub first_record_in : (s : StreamsState) (ps : Table TrackedPacket) (p : ℕ × TrackedPacket) → first_record s ps ≡ Some p → In p ps
first_record_in s [] p is = cc
first_record_in s (q ∷ ps) p is = go (is_empty q.1.carried.retransmits s) is (first_record_in s ps p)
  where
    go : (b : Bool) → (if b then first_record s ps else Some q) ≡ Some p → (first_record s ps ≡ Some p → In p ps) → In p (q ∷ ps)
    go true is later = inr (later is)
    go false is later = inl cc

-- what stands in a table with another value at an id stood there before, or is that value
pub in_put : {A : Type 0} (es : Table A) (id : ℕ) (v : A) (x : ℕ × A) → In x (put es id v) → In x es ⊎ (x ≡ (id, v))
in_put [] id v x i = absurd i
in_put {A} (e ∷ es) id v x i = go (nat_cmp id e.0) refl i (in_put es id v x)
  where
    go : (r : Ordering) → nat_cmp id e.0 ≡ r → In x (cond (is_eq r) ((e.0, v) ∷ es) (e ∷ put es id v)) → (In x (put es id v) → In x es ⊎ (x ≡ (id, v))) → In x (e ∷ es) ⊎ (x ≡ (id, v))
    go Less is (inl here) later = inl (inl here)
    go Less is (inr more) later = elim (later more) [ inl old ↦ inl (inr old) | inr new ↦ inr new ]
    go Equal is (inl here) later = (let same : id ≡ e.0 = ranked id e.0 Equal (sym is) in inr (here ∙ ap (λ (n : ℕ). (n, v)) (sym same)))
    go Equal is (inr more) later = inl (inr more)
    go Greater is (inl here) later = inl (inl here)
    go Greater is (inr more) later = elim (later more) [ inl old ↦ inl (inr old) | inr new ↦ inr new ]

-- ---- an end that is ready to give

-- What holds of an end at a moment holds where it is made ready, if it holds whichever of PING and
-- IMMEDIATE_ACK wait, where ACK_FREQUENCY does if the peer is to be asked, where the record of a
-- tracked packet waits again, and whatever its pacer and its search hold and its timer is set to.
pub by_readied : (P : End → Type 0) (e : End) (now : ℕ) → P (with_closing e (ticked e.closing now)) → ((ping immediate : Bool) (x : End) → P x → P (with_ping (with_immediate x immediate) ping))
    → (let y : End = probed (with_pacing_timer (with_closing e (ticked e.closing now)) None) in P y → P (request_queued y))
    → ((p : ℕ × TrackedPacket) → In p e.tracking.packets → P (record_moved (Some p) (with_closing e (ticked e.closing now))))
    → ((moment : Option ℕ) (pacing : Pacing) (discovery : Discovery) (x : End) → P x → P (with_pacer x moment pacing discovery)) → P (ready_at e now).end
by_readied P e now same signals asks moves paces = goes x.path.blocked
  where
    begun : End
    begun = with_closing e (ticked e.closing now)

    y : End
    y = probed (with_pacing_timer begun None)

    x : End
    x = request_queued y

    g : Gated
    g = gated x

    -- the timer of the pacer is stopped
    stops : (f : End) → P f → P (with_pacing_timer f None)
    stops f i = paces None f.path.pacing f.path.discovery f i

    -- the record of a packet waits again
    says : (immediate : Bool) (p : ℕ × TrackedPacket) → nat_lt 0 e.tracking.probes ≡ true → first_record e.streams e.tracking.packets ≡ Some p → P (record_moved (Some p) (with_immediate (with_pacing_timer begun None) immediate))
    says immediate p probes is =
        let moved : End = record_moved (Some p) begun in
        stops (with_immediate moved immediate) (signals moved.waiting.signals.ping immediate moved (moves p (first_record_in e.streams e.tracking.packets p is)))

    filled : P y
    filled = by_probed (with_pacing_timer begun None) P (stops begun same) (λ immediate. stops (with_immediate begun immediate) (signals begun.waiting.signals.ping immediate begun same))
        (λ immediate. stops (with_ping (with_immediate begun immediate) true) (signals true immediate begun same)) says

    waits : P x
    waits = asks filled

    -- nothing goes to an address that isn't validated, or window and pacer were asked
    goes : (b : Bool) → P (leaves_unless b x).end
    goes true = waits
    goes false = subst P (sym (search_leaves g)) (paces g.end.timers.pacing g.end.path.pacing (leaves g).end.path.discovery g.end (by_gate x (λ (g : Gated). P g.end) (record {
      free = λ is. waits;
      full = λ asks is. waits;
      lets = λ asks room is. paces x.timers.pacing (pacer_asked x).path.pacing x.path.discovery x waits;
      holds = λ moment asks room is. paces (Some moment) (pacer_asked x).path.pacing x.path.discovery x waits;
    })))

-- so it is if it holds whether or not ACK_FREQUENCY waits
pub by_ready : (P : End → Type 0) (e : End) (now : ℕ) → P (with_closing e (ticked e.closing now)) → ((ping immediate : Bool) (x : End) → P x → P (with_ping (with_immediate x immediate) ping)) → ((waits : Bool) (x : End) → P x → P (with_asked x waits))
    → ((p : ℕ × TrackedPacket) → In p e.tracking.packets → P (record_moved (Some p) (with_closing e (ticked e.closing now))))
    → ((moment : Option ℕ) (pacing : Pacing) (discovery : Discovery) (x : End) → P x → P (with_pacer x moment pacing discovery)) → P (ready_at e now).end
by_ready P e now same signals asks moves paces = by_readied P e now same signals (λ i. asks (request_queued y).waiting.frames.ack_frequency y i) moves paces
  where
    y : End
    y = probed (with_pacing_timer (with_closing e (ticked e.closing now)) None)

-- what holds of streams and of what waits beside their bytes, if it stays whether or not
-- ACK_FREQUENCY waits, and where what has to be sent again of a tracked packet waits again
pub ready_streams : (P : Streams → Type 0) (e : End) (now : ℕ) → P (streams_at e) → ((waits : Bool) (t : Streams) → P t → P (streams_of t.state (record t.pending { ack_frequency = waits }))) → ((n : ℕ) (t : TrackedPacket) → In (n, t) e.tracking.packets → P (streams_at (again t.carried e))) → P (streams_at (ready_at e now).end)
ready_streams P e now same asks moves = by_ready (λ (x : End). P (streams_at x)) e now same (λ ping immediate x i. i) (λ waits x i. asks waits (streams_at x) i) (λ p i. moves p.0 p.1 i) (λ moment pacing discovery x i. i)

-- the streams themselves stay
pub ready_state : (e : End) (now : ℕ) → (ready_at e now).end.streams ≡ e.streams
ready_state e now = ap (λ (x : End). x.streams) (ready_leaves e now)

-- ---- what goes

-- where an ACK goes alone of an end that is ready, it is due
pub may_leave : (e : End) (now : ℕ) (leaving : Leaving) (x : End) → ready_at e now ≡ record { leaving = leaving; end = x } → MayLeave leaving x
may_leave e now leaving x is = subst (λ (g : Ready). MayLeave g.leaving g.end) is (may_leave_at e now)

-- what a draft that went sets besides: what the pacer holds, both times without a packet, and
-- whether the next one that asks lets the idle one begin anew
pub record Going : Type 0 where
  pub pacing : Pacing
  pub idle : Option ℕ
  pub alive : Option ℕ
  pub armed : Bool

-- the end after a draft went: its packet is tracked, and it sets this
abbrev pub after_going : Policy → Draft → Going → End
after_going p d g =
    let x : End = with_number_given (p.words (words_drawn d.end)) (tracked d) in
    with_loss_timer (record x { timers = record x.timers { idle = g.idle; keep_alive = g.alive }; idle_armed = g.armed; path = record x.path { pacing = g.pacing; app_limited = false } })

-- what holds whatever it sets
pub by_going : (P : End → Type 0) (p : Policy) (d : Draft) → ((g : Going) → P (after_going p d g)) → P (after_given p d)
by_going P p d each = go (asking d.frames)
  where
    x : End
    x = with_number_given (p.words (words_drawn d.end)) (tracked d)

    paced : Pacing → End
    paced pacing = record x { path = record x.path { pacing = pacing } }

    reset : (b : Bool) (pacing : Pacing) → P (with_loss_timer (with_app_limited (keep_alive_reset (idle_reset_if b (paced pacing))) false))
    reset true pacing = each (record {
      pacing = pacing;
      idle = idle_moment (agreed_timeout x.transport x.peer_params) (record (paced pacing) { idle_armed = false });
      alive = alive_moment x.transport.keep_alive_interval (idle_reset (record (paced pacing) { idle_armed = false }));
      armed = false;
    })
    reset false pacing = each (record { pacing = pacing; idle = x.timers.idle; alive = alive_moment x.transport.keep_alive_interval (paced pacing); armed = x.idle_armed })

    go : (b : Bool) → P (with_loss_timer (with_app_limited (packet_given b (paid_if b x (datagram_size d))) false))
    go true = reset x.idle_armed (paid x (datagram_size d)).path.pacing
    go false = reset false x.path.pacing

-- what goes leaves streams, and what waits beside their bytes, as what is composed does, or, where
-- an ACK, a probe of a size or a close goes alone, or nothing, as they were
pub draft_streams : (P : Streams → Type 0) (leaving : Leaving) (e : End) → (P (streams_at (lazied e)) → P (streams_at (composed (lazied e)).end)) → P (streams_at e) → P (streams_at (draft_as leaving e).end)
draft_streams P whole e composes i = composes i
draft_streams P alone e composes i = i
draft_streams P other e composes i = i

-- A poll keeps what is so of them, if what is composed does.
pub poll_streams : (P : Streams → Type 0) (p : Policy) (e : End) (now : ℕ) → ((x : End) → P (streams_at x) → P (streams_at (composed x).end)) → P (streams_at e) → P (streams_at (ready_at e now).end) → P (streams_at (polled p e now).end)
poll_streams P p e now composes same ready =
    by_poll_to p e now (λ (q : Polled). P (streams_at q.end)) (record { silent = same; failed = same; nothing = λ is none. ready; repeats = λ is. by_closes p (with_closing e (ticked e.closing now)) (λ (q : Polled). P (streams_at q.end)) same (λ f goes. same); closes = λ reason bound. by_closes p (closed_by reason (ready_at e now).end) (λ (q : Polled). P (streams_at q.end)) ready (λ f goes. ready); gives = λ is may some. by_going (λ (x : End). P (streams_at x)) p (draft_at e now) (λ pacing. draft_streams P (ready_at e now).leaving (ready_at e now).end (composes (lazied (ready_at e now).end)) ready) })

-- so it is of what is so of streams alone
pub poll_state : (P : StreamsState → Type 0) (p : Policy) (e : End) (now : ℕ) → ((x : End) → P x.streams → P (composed x).end.streams) → P e.streams → P (polled p e now).end.streams
poll_state P p e now composes i = poll_streams (λ (t : Streams). P t.state) p e now composes i (subst P (sym (ready_state e now)) i)

-- ---- what stays of an end that is made ready

-- what is to be acknowledged stays
pub ready_acks : (e : End) (now : ℕ) → (ready_at e now).end.acknowledging ≡ e.acknowledging
ready_acks e now = ap (λ (x : End). x.acknowledging) (ready_leaves e now)

-- each tracked packet was given still, and carries what its frames say
pub ready_tracked : (sents : List Sent) (e : End) (now : ℕ) → AreTracked sents e.tracking.packets → AreTracked sents (ready_at e now).end.tracking.packets
ready_tracked sents e now tracked = by_ready (λ (x : End). AreTracked sents x.tracking.packets) e now tracked (λ ping immediate x i. i) (λ waits x i. i) moved (λ moment pacing discovery x i. i)
  where
    moved : (p : ℕ × TrackedPacket) → In p e.tracking.packets → AreTracked sents (put e.tracking.packets p.0 (without_record p.1))
    moved p among n t i = elim (in_put e.tracking.packets p.0 (without_record p.1) (n, t) i) [
      | inl old ↦ tracked n t old
      | inr new ↦ (
          let was = tracked p.0 p.1 among in
          let number : n ≡ p.0 = ap (λ (x : ℕ × TrackedPacket). x.0) new in
          let packet : t ≡ without_record p.1 = ap (λ (x : ℕ × TrackedPacket). x.1) new in (
            was.0,
            (was.1.0, was.1.1 ∙ sym number),
            subst (λ (u : TrackedPacket). IsCarriedFrom u.carried was.0.frames) (sym packet) (carried_without p.1 was.0.frames was.2),
          ))
    ]
