-- Frames that an end may give: of streams that it knows, counts that it keeps, and HANDSHAKE_DONE
-- of a server alone; and so they stay, since streams only open and counts only grow.
use Rattle.std.proofs.Common.{◌≡◌, ℕ, zero, suc, ◌+◌, ◌≤◌, Bool, true, false, not, List, [], ◌∷◌, ◌++◌, replicate, Option, Some, None, refl, sym, ap, ◌∙◌, subst, inl, inr, arith, ltb}
use Rattle.std.specs.Prelude.{◌&&◌, ◌||◌, max, min, unwrap_or, ◌/◌}
use Rattle.std.proofs.lemmas.Bool.{and_parts, or_cases, cond_both, le-ltb}
use Rattle.quic_wire_core.specs.declared.stream_id.Dir.{Dir}
use Rattle.quic_wire_core.specs.declared.stream_id.Dir.TheVariants.{Bi, Uni}
use Rattle.quic_wire_core.specs.declared.stream_id.Side.{Side}
use Rattle.quic_wire_core.specs.declared.stream_id.Side.TheVariants.{Server}
use Rattle.quic_wire_core.specs.StreamId.{dir_of, index_of}
use Rattle.quic_wire.specs.Value.{FrameValue, StopSendingValue, padding, stream, reset_stream, stop_sending, max_stream_data, max_streams, stream_data_blocked, streams_blocked, new_token, handshake_done, ack_frequency}
use Rattle.quic_streams_parts.specs.Dirs.{of, is_own, is_two_way}
use Rattle.quic_streams_parts.specs.Table.{at}
use Rattle.quic_streams_parts.specs.SendHalf.{SendHalf, frame_of}
use Rattle.quic_streams_parts.specs.RecvHalf.{RecvHalf}
use Rattle.quic_streams_halves.specs.Halves.{is_done}
use Rattle.quic_retransmits.specs.Retransmits.{Retransmits, first_of, others_of, merged}
use Rattle.quic_streams_state.specs.declared.state.StreamsState.{StreamsState}
use Rattle.quic_retransmits.specs.declared.retransmits.ControlKind.{ControlKind}
use Rattle.quic_retransmits.specs.declared.retransmits.ControlKind.TheVariants.{HandshakeDone, StopSending}
use Rattle.quic_streams_state.specs.declared.taking.IdRule.{IdRule}
use Rattle.quic_streams_state.specs.declared.taking.IdRule.TheVariants.{Free, ReceivingOf, SendingOf, NotOfOwn, Counting}
use Rattle.quic_streams_state.specs.State.{Streams, Opening, is_opened, is_opened_in, sends_on, receives_on, sending_half, sending_status, receiving_status, one_done, done_if}
use Rattle.quic_streams_state.specs.Limits.{raised_count}
use Rattle.quic_streams_state.specs.Opening.{with_remote}
use Rattle.quic_streams_state.specs.Taking.{id_rule}
use Rattle.quic_streams_state.specs.Control.{blocked_limit, done_entry, flagged, waiting, without_first, frame_of_first, kind_of, frame_told}
use Rattle.quic_streams_state.specs.Control as control
use Rattle.quic_streams_laws.specs.Giving.{Sends, Receives, MayGiveBy}
use Rattle.quic_streams_laws.specs.KindLaws.{GoesFirst}
use Rattle.quic_streams_laws.specs.Quiet.{IsSentWithin}
use Rattle.quic_streams_laws.specs.QuietLaws.{is_quiet, by_tells, by_told}
use Rattle.quic_streams_laws.specs.Keeping.{KeepsAll}
use Rattle.quic_streams_laws.specs.Keeping as changes
use Rattle.quic_streams_laws.specs.KeepingLaws.{by_accept, by_stream, by_reset_frame, by_frame}
use Rattle.quic_streams_laws.specs.Shape.{IsShaped}
use Rattle.quic_streams_laws.specs.ShapeLaws.{OpensMore, opened_more, more_own, more_remote, past_remote, shape_any, sends_may}
use Rattle.quic_machine.specs.declared.run.Call.{Call}
use Rattle.quic_machine.specs.declared.run.Answer.{Answer}
use Rattle.quic_machine.specs.Policy.{Policy}
use Rattle.quic_machine.specs.Tracking.{TrackedPacket, dir_named}
use Rattle.quic_headline.proofs.Packets.Probes.{ready_streams, ready_state}
use Rattle.quic_machine.specs.End.{End}
use Rattle.quic_machine.specs.Receive.{take_frame, asks_too_soon}
use Rattle.quic_machine.specs.Poll.{zeros_behind, Draft, draft_as, with_ack, no_frames, Leaving, request_of, frequency_settings, written}
use Rattle.quic_machine.specs.DraftLaws.{Writing, MayLeave, by_leave}
use Rattle.quic_machine.specs.Puts as puts
use Rattle.quic_machine.specs.PollCases.{ready_at, draft_at, frames_at, may_leave_at}
use Rattle.quic_machine.specs.FrameCases.{passed, frames_keep}
use Rattle.quic_machine.specs.CallCases.{is_delivery}
use Rattle.quic_machine.specs.Machine.{IsAnswer, after_call}
use Rattle.quic_headline.specs.Runs.{In}
use Rattle.quic_headline.proofs.Packets.Growth.{in_more}
use Rattle.quic_headline.proofs.Places.Told.{in_append}
use Rattle.quic_headline.proofs.Halves.QuietSteps.{frame_quiet}
use Rattle.quic_headline.proofs.Halves.ReadCalls.{any_kept, call_kept}
use Rattle.quic_headline.proofs.Packets.Entries.{without_asks}
use Rattle.quic_recovery_core.specs.AckFrequency.{micros, least_delay, usual_delay}
use Rattle.quic_time.specs.Clocks.{granularity}
use Rattle.quic_time.specs.Rtt.{best_rtt}

-- ---- what grows

-- the same side's streams, of which no fewer are opened, and more may be opened by the peer
abbrev pub Grown : StreamsState → StreamsState → Type 0
Grown s t = (t.side ≡ s.side) × ((d : Dir) → of d s.opening.own ≤ of d t.opening.own) × ((d : Dir) → of d s.opening.remote ≤ of d t.opening.remote) × ((d : Dir) → raised_count d s.opening ≤ raised_count d t.opening)

-- as they are
pub grown_same : (s : StreamsState) → Grown s s
grown_same s = (refl, λ d. omega arith, λ d. omega arith, λ d. omega arith)

-- one more that is done makes room for one
done_more : (dir d : Dir) (o : Opening) → raised_count d o ≤ raised_count d (one_done dir o)
done_more Bi Bi o = omega arith
done_more Bi Uni o = omega arith
done_more Uni Bi o = omega arith
done_more Uni Uni o = omega arith

done_own : (dir d : Dir) (o : Opening) → (of d (one_done dir o).own ≡ of d o.own) × (of d (one_done dir o).remote ≡ of d o.remote)
done_own dir d o = (refl, refl)

grown_done : (s : StreamsState) (b : Bool) (id : ℕ) (t : StreamsState) → Grown s t → Grown s (done_if b id t)
grown_done s false id t g = g
grown_done s true id t g = (g.0, g.1, g.2, λ d. (let before = g.3 d in let now = done_more (dir_of id) d t.opening in omega arith))

-- streams that the peer opens are no more room
remote_room : (dir d : Dir) (n : ℕ) (o : Opening) → raised_count d (with_remote dir n o) ≡ raised_count d o
remote_room Bi d n o = refl
remote_room Uni d n o = refl

-- each small change lets them grow
pub grown_kept : (s : StreamsState) → KeepsAll (λ r id old new. Unit {0}) (λ t id old new. Unit {0}) (λ t id n old new. Unit {0}) (λ t dir. Unit {0}) (λ id. Unit {0}) (Grown s)
grown_kept s (changes.opens_own dir) t may i = (i.0, λ d. (let before = i.1 d in let now = more_own dir d t.opening.own in omega arith), i.2, i.3)
grown_kept s (changes.opens_theirs id) t (e, within) i =
    let past = past_remote t id e in
    let more : OpensMore t.opening (with_remote (dir_of id) (index_of id + 1) t.opening) = more_remote (dir_of id) (index_of id + 1) t.opening (omega (arith, past.1)) in
    (i.0, λ d. (let before = i.1 d in let now = more.own d in omega arith), λ d. (let before = i.2 d in let now = more.remote d in omega arith), λ d. (let before = i.3 d in let now = remote_room (dir_of id) d (index_of id + 1) t.opening in omega arith))
grown_kept s (changes.joins id h) t may i = cond_both h.blocked t _ (Grown s) (λ e. i) (λ e. i)
grown_kept s (changes.ends_sending id h) t may i = grown_done s (not (is_own t.side id) && is_done (receiving_status t id)) id _ i
grown_kept s (changes.ends_receiving id h) t may i = grown_done s (not (is_own t.side id) && (not (is_two_way (dir_of id)) || is_done (sending_status t id))) id _ i
grown_kept s c t may i = i

-- so does any call but a delivery
pub call_grows : (p : Policy) (e : End) (theirs : List (List ℕ)) (call : Call) (a : Answer) → ((id : ℕ) → IsSentWithin e.streams id) → IsAnswer p e theirs call a → is_delivery call ≡ false → Grown e.streams (after_call p e theirs call a).streams
call_grows p e theirs call a within is apart =
    let same = grown_same e.streams in
    let keeps = grown_kept e.streams in
    call_kept (Grown e.streams) (any_kept (Grown e.streams) keeps) p e theirs within same call a is apart (λ dir is_accept. by_accept (Grown e.streams) keeps dir e.streams (λ may. tt) same)

-- and any frame
pub frame_grows : (s : StreamsState) (f : FrameValue) (e : End) → Grown s e.streams → Grown s (take_frame f e).end.streams
frame_grows s f e i = frame_quiet (Grown s) (is_quiet (Grown s) (grown_kept s)) f e
    (λ g is. by_stream (Grown s) (grown_kept s) e.streams e.waiting.frames g (λ h a u. tt) i)
    (λ g is. by_reset_frame (Grown s) (grown_kept s) e.streams e.waiting.frames g (λ h a u. tt) i)
    i

-- and all frames of a packet
pub frames_grow : (fs : List FrameValue) (e : End) → Grown e.streams (passed fs e).end.streams
frames_grow fs e = frames_keep (λ (x : End). Grown e.streams x.streams) (frame_grows e.streams) fs e (grown_same e.streams)

-- ---- what may be given

-- a frame of such a stream as its rule asks, of a count that the end keeps, one that asks for no
-- less than the peer lets acknowledgements wait, or HANDSHAKE_DONE of a server; and none that it
-- never gives
abbrev pub Given : StreamsState → FrameValue → Type 0
Given s (max_streams f) = f.count ≤ raised_count (dir_named f.one_way) s.opening
Given s (new_token t) = ⊥
Given s handshake_done = s.side ≡ Server
Given s (ack_frequency f) = asks_too_soon f ≡ false
Given s f = MayGiveBy s (id_rule f)

module _ (s t : StreamsState) (g : Grown s t) where
  pub opened_grows : (id : ℕ) → is_opened s id ≡ true → is_opened t id ≡ true
  opened_grows id is = subst (λ (side : Side). is_opened_in t.opening side id ≡ true) (sym g.0) (opened_more s.opening t.opening s.side id (record { own = g.1; remote = g.2 }) is)

  sends_grow : (id : ℕ) → Sends s id → Sends t id
  sends_grow id is = (ap (λ (side : Side). sends_on side id) g.0 ∙ is.0, opened_grows id is.1)

  pub receives_grow : (id : ℕ) → Receives s id → Receives t id
  receives_grow id is = (ap (λ (side : Side). receives_on side id) g.0 ∙ is.0, opened_grows id is.1)

  rule_grows : (rule : IdRule) → MayGiveBy s rule → MayGiveBy t rule
  rule_grows Free is = tt
  rule_grows (ReceivingOf id) is = sends_grow id is
  rule_grows (SendingOf id) is = receives_grow id is
  rule_grows (NotOfOwn id) is = ap (λ (side : Side). sends_on side id) g.0 ∙ is
  rule_grows (Counting count) is = is

  -- what may be given stays so
  pub given_grows : (f : FrameValue) → Given s f → Given t f
  given_grows (max_streams f) is = let more = g.3 (dir_named f.one_way) in omega arith
  given_grows (new_token t) is = is
  given_grows handshake_done is = g.0 ∙ is
  given_grows (ack_frequency f) is = is
  given_grows f is = rule_grows (id_rule f) is

-- ---- what waits, and goes

-- STOP_SENDING waits of streams on which the end receives, and HANDSHAKE_DONE at a server
abbrev pub StopsHold : StreamsState → Retransmits → Type 0
StopsHold s p = ((r : StopSendingValue) → In r p.stop_sending → Receives s r.id) × (p.handshake_done ≡ true → s.side ≡ Server)

-- what stands behind the first stands in a list
pub in_others : {X : Type 0} (x : X) (xs : List X) → In x (others_of xs) → In x xs
in_others x [] i = i
in_others x (y ∷ xs) i = inr i

-- so does the first
pub first_in : {X : Type 0} (x : X) (xs : List X) → first_of xs ≡ Some x → In x xs
first_in x [] is = cc
first_in x (y ∷ xs) is = let same : x ≡ y = cc in inl same

-- HANDSHAKE_DONE goes only where it waits
done_waits : (kind : ControlKind) (p : Retransmits) (s : StreamsState) (f : FrameValue) → GoesFirst kind p s f → f ≡ handshake_done → p.handshake_done ≡ true
done_waits kind p s f goes is = go p.handshake_done refl (subst (λ (k : ControlKind). frame_of_first (waiting k p) s ≡ Some handshake_done) same (goes.first ∙ ap Some is))
  where
    same : kind ≡ HandshakeDone
    same = let kinds : kind_of handshake_done ≡ Some kind = sym (ap kind_of is) ∙ goes.of_kind in cc

    go : (b : Bool) → p.handshake_done ≡ b → frame_of_first (flagged b done_entry) s ≡ Some handshake_done → p.handshake_done ≡ true
    go true waits first = waits
    go false waits first = cc

module _ (s : StreamsState) (shape : IsShaped s) where
  -- a half that is in use
  live_sends : (id : ℕ) (h : SendHalf) → at s.sending.halves.live id ≡ Some h → Sends s id
  live_sends id h is = and_parts (sends_on s.side id) (is_opened s id) (shape.sending.allowed id (shape.sending.placed id h is))

  live_receives : (id : ℕ) (h : RecvHalf) → at s.receiving.halves.live id ≡ Some h → Receives s id
  live_receives id h is = and_parts (receives_on s.side id) (is_opened s id) (shape.receiving.allowed id (shape.receiving.placed id h is))

  -- a frame that goes may be given
  goes_given : (p : Retransmits) → StopsHold s p → (f : FrameValue) → (f ≡ handshake_done → p.handshake_done ≡ true) → control.Goes p s f → Given s f
  goes_given p stops (reset_stream f) waits goes = live_sends f.id goes.0 goes.2
  goes_given p stops (stop_sending f) waits goes = stops.0 f (first_in f p.stop_sending goes)
  goes_given p stops (max_stream_data f) waits goes = live_receives f.id goes.0 goes.2
  goes_given p stops (max_streams f) waits goes = omega arith
  goes_given p stops (stream_data_blocked f) waits goes = named (sending_half s f.id) refl goes
    where
      named : (o : Option SendHalf) → sending_half s f.id ≡ o → blocked_limit o ≡ Some f.limit → sends_on s.side f.id ≡ true
      named None is due = cc
      named (Some h) is due = (and_parts (sends_on s.side f.id) (is_opened s f.id) (sends_may s f.id h shape is)).0
  goes_given p stops (stream f) waits goes = absurd goes
  goes_given p stops (streams_blocked f) waits goes = absurd goes
  goes_given p stops (new_token t) waits goes = absurd goes
  goes_given p stops handshake_done waits goes = stops.1 (waits refl)
  goes_given p stops (ack_frequency f) waits goes = absurd goes
  goes_given p stops f waits goes = tt

fewer_stops : (s : StreamsState) (kind : ControlKind) (p : Retransmits) → StopsHold s p → StopsHold s (without_first kind p)
fewer_stops s StopSending p stops = ((λ r i. stops.0 r (in_others r p.stop_sending i)), stops.1)
fewer_stops s HandshakeDone p stops = (stops.0, λ set. cc)
fewer_stops s kind p stops = stops

-- the peer takes ACK_FREQUENCY, and then it lets acknowledgements wait for 1 ms
abbrev pub Obeys : End → Type 0
Obeys e = e.peer_params.min_ack_delay ≡ Some 1000

-- then no less is asked for
pub obeys_enough : (e : End) → Obeys e → asks_too_soon (request_of e) ≡ false
obeys_enough e is =
    let least : least_delay e.peer_params.min_ack_delay ≡ least_delay (Some 1000) = ap least_delay is in
    enough (unwrap_or (frequency_settings e).max_delay e.frequency.peer_delay) (max (best_rtt e.path.rtt) usual_delay) (least_delay e.peer_params.min_ack_delay) least
  where
    enough : (a b n : ℕ) → n ≡ 1000000 → ltb (micros (written (max (min a b) n / 1000))) granularity ≡ false
    enough a b n same = le-ltb (micros (written (max (min a b) n / 1000))) granularity (
        let least : 1000 ≤ max (min a b) n / 1000 = omega arith in
        let said : 1000 ≤ written (max (min a b) n / 1000) = omega arith in
        omega arith)

-- ACK_FREQUENCY is given where this is so
abbrev pub Asks : Type 0 → FrameValue → Type 0
Asks A (ack_frequency g) = A
Asks A f = Unit {0}

-- a frame that may be given, and if it is ACK_FREQUENCY, where this is so
abbrev pub May : StreamsState → Type 0 → FrameValue → Type 0
May s A f = Given s f × Asks A f

-- frames of control aren't ACK_FREQUENCY
control_asks : (A : Type 0) (s : StreamsState) (p : Retransmits) (f : FrameValue) → control.Goes p s f → Asks A f
control_asks A s p (ack_frequency f) goes = absurd goes
control_asks A s p f goes = tt

-- frames of a draft may be given by an end that has these streams, and the draft's streams are of
-- the same ids and counts; and ACK_FREQUENCY waits where the peer obeys, and this is so
record Goes (s : StreamsState) (A : Type 0) (d : Draft) : Type 0 where
  shape : IsShaped d.end.streams
  back : Grown d.end.streams s
  stops : StopsHold d.end.streams d.end.waiting.frames
  late : d.end.waiting.frames.ack_frequency ≡ true → Obeys d.end × A
  frames : (f : FrameValue) → In f d.frames → May s A f

module _ (s : StreamsState) (A : Type 0) where
  more_given : (fs : List FrameValue) (g : FrameValue) → ((f : FrameValue) → In f fs → May s A f) → May s A g → (f : FrameValue) → In f (fs ++ g ∷ []) → May s A f
  more_given fs g all one f i = elim (in_more f g fs i) [ inl old ↦ all f old | inr new ↦ subst (May s A) (sym new) one ]

  told_goes : (d : Draft) (f : FrameValue) → Goes s A d → IsShaped (frame_told f d.end.streams) × Grown (frame_told f d.end.streams) s × StopsHold (frame_told f d.end.streams) d.end.waiting.frames
  told_goes d f g =
      let both : Grown (frame_told f d.end.streams) s × StopsHold (frame_told f d.end.streams) d.end.waiting.frames =
      by_tells (λ (t : StreamsState). Grown t s × StopsHold t d.end.waiting.frames) d.end.streams (g.back, g.stops) (g.back, g.stops) (λ id. (g.back, g.stops)) (λ dir. (g.back, g.stops)) (λ limit. (g.back, g.stops)) (λ id limit. (g.back, g.stops)) f in
      (by_told IsShaped shape_any f d.end.streams g.shape, both.0, both.1)

  acked_goes : (d : Draft) → Goes s A d → Goes s A (with_ack d)
  acked_goes d g = record { shape = g.shape; back = g.back; stops = g.stops; late = g.late; frames = more_given d.frames _ g.frames (tt, tt) }

  goes_on : Writing (Goes s A)
  goes_on puts.ack d may g = acked_goes d g
  goes_on (puts.drops kind) d may g = record { shape = g.shape; back = g.back; stops = fewer_stops d.end.streams kind d.end.waiting.frames g.stops; late = λ set. g.late (sym (without_asks kind d.end.waiting.frames) ∙ set); frames = g.frames }
  goes_on (puts.control kind f) d is g =
      let t = told_goes d f g in
      record {
        shape = t.0;
        back = t.1;
        stops = fewer_stops (frame_told f d.end.streams) kind d.end.waiting.frames t.2;
        late = λ set. g.late (sym (without_asks kind d.end.waiting.frames) ∙ set);
        frames = more_given d.frames f g.frames (given_grows d.end.streams s g.back f (goes_given d.end.streams g.shape d.end.waiting.frames g.stops f (done_waits kind d.end.waiting.frames d.end.streams f is) is.says), control_asks A d.end.streams d.end.waiting.frames f is.says);
      }
  goes_on (puts.stream id h room) d (found, first, some, is, counts) g = record {
    shape = by_frame IsShaped shape_any d.end.transport.send_fairness d.end.streams id room h found tt g.shape;
    back = g.back;
    stops = g.stops;
    late = g.late;
    frames = more_given d.frames (stream (frame_of id h room)) g.frames (given_grows d.end.streams s g.back (stream (frame_of id h room)) (live_sends d.end.streams g.shape id h found), tt);
  }
  goes_on puts.request d set g =
      let waited = g.late set in
      record { shape = g.shape; back = g.back; stops = g.stops; late = λ none. cc; frames = more_given d.frames (ack_frequency (request_of d.end)) g.frames (obeys_enough d.end waited.0, waited.1) }
  goes_on p d may g = record { shape = g.shape; back = g.back; stops = g.stops; late = g.late; frames = more_given d.frames _ g.frames (tt, tt) }

  draft_goes : (leaving : Leaving) (e : End) → MayLeave leaving e → Goes s A (no_frames e) → Goes s A (draft_as leaving e)
  draft_goes leaving e may first = by_leave (Goes s A) goes_on leaving e may (record { shape = first.shape; back = first.back; stops = first.stops; late = first.late; frames = first.frames })

  padded_given : (fs : List FrameValue) (count : ℕ) → ((f : FrameValue) → In f fs → May s A f) → (f : FrameValue) → In f (fs ++ replicate count padding) → May s A f
  padded_given fs count all f i = elim (in_append f fs (replicate count padding) i) [ inl here ↦ all f here | inr behind ↦ zeros count behind ]
    where
      zeros : (n : ℕ) → In f (replicate n padding) → May s A f
      zeros zero i = absurd i
      zeros (suc n) (inl is) = subst (May s A) (sym is) (tt, tt)
      zeros (suc n) (inr i) = zeros n i

-- the frames that an end gives at a moment, if what its tracked packets carried stops only such
-- streams, and where ACK_FREQUENCY waits only where the peer obeys
pub polled_given : (A : Type 0) (e : End) (now : ℕ) → IsShaped e.streams → StopsHold e.streams e.waiting.frames → ((n : ℕ) (t : TrackedPacket) → In (n, t) e.tracking.packets → StopsHold e.streams t.carried.retransmits)
    → ((ready_at e now).end.waiting.frames.ack_frequency ≡ true → Obeys (ready_at e now).end × A) → (f : FrameValue) → In f (frames_at e now) → May e.streams A f
polled_given A e now shape stops carried late =
    let d : Draft = draft_at e now in
    padded_given e.streams A d.frames (zeros_behind d) (draft_goes e.streams A (ready_at e now).leaving (ready_at e now).end (may_leave_at e now) ready).frames
  where
    -- what waits, with what a packet carried
    more : (n : ℕ) (t : TrackedPacket) → In (n, t) e.tracking.packets → StopsHold e.streams (merged e.waiting.frames t.carried.retransmits)
    more n t among = (
      (λ r i. elim (in_append r e.waiting.frames.stop_sending t.carried.retransmits.stop_sending i) [ inl old ↦ stops.0 r old | inr new ↦ (carried n t among).0 r new ]),
      λ set. elim (or_cases e.waiting.frames.handshake_done t.carried.retransmits.handshake_done set) [ inl old ↦ stops.1 old | inr new ↦ (carried n t among).1 new ],
    )

    stopped : StopsHold e.streams (ready_at e now).end.waiting.frames
    stopped = ready_streams (λ (t : Streams). StopsHold e.streams t.pending) e now stops (λ waits t i. i) more

    ready : Goes e.streams A (no_frames (ready_at e now).end)
    ready =
        let same : (ready_at e now).end.streams ≡ e.streams = ready_state e now in
        record {
          shape = subst IsShaped (sym same) shape;
          back = subst (λ (t : StreamsState). Grown t e.streams) (sym same) (grown_same e.streams);
          stops = subst (λ (t : StreamsState). StopsHold t (ready_at e now).end.waiting.frames) (sym same) stopped;
          late = late;
          frames = λ f i. absurd i;
        }
