-- Where each duty is, from what holds at a place; and so at each place of an honest run.
use Rattle.std.proofs.Common.{◌≡◌, ℕ, ◌<◌, ◌≤◌, Bool, true, false, ltb, leb, ◌||◌, ◌&&◌, ◌==◌, not, List, [], ◌∷◌, length, take, Option, Some, None, refl, sym, ap, ◌∙◌, subst, inl, inr, arith}
use Rattle.std.specs.Option.{IsSome, is_some, is_none, option_map}
use Rattle.std.specs.Map.{lookup}
use Rattle.std.specs.List.{list_any}
use Rattle.std.specs.Ordering.{nat_cmp}
use Rattle.std.proofs.lemmas.Bool.{cases_Bool, both_ways, or_left, or_right, or_cases, and_from, not_from_false, or_from, le-leb, lt-ltb, ltb-false}
use Rattle.std.proofs.lemmas.List.{length-drop}
use Rattle.quic_wire_core.specs.declared.stream_id.Side.{Side}
use Rattle.quic_wire_core.specs.StreamId.{other_side}
use Rattle.quic_recovery_core.specs.PendingAcks.{can_send}
use Rattle.quic_wire_core.specs.declared.shared.IssuedCid.{IssuedCid}
use Rattle.quic_wire.specs.Value.{StopSendingValue}
use Rattle.quic_send_buffer.specs.Buffered.{is_acknowledged, is_lost, is_unsent, is_in_flight, has_unsent}
use Rattle.quic_send_buffer.specs.Buffered as buffered
use Rattle.quic_sets.proofs.Offsets.Edits.{has_is}
use Rattle.quic_send_buffer.proofs.Buffered.Places.{none_waits}
use Rattle.quic_streams_parts.specs.Table.{at}
use Rattle.std.specs.BTreeMap.{is_at}
use Rattle.quic_streams_parts.specs.Queue.{Place, place_cmp, is_any as is_any_queued}
use Rattle.quic_streams_parts.specs.SendHalf.{SendHalf, has_pending}
use Rattle.quic_streams_parts.specs.RecvHalf.{RecvHalf, takes_limits}
use Rattle.quic_retransmits.specs.declared.retransmits.ControlKind.TheVariants.{HandshakeDone, ResetStream, StopSending, MaxData, MaxStreamData, MaxStreams, NewConnectionId, RetireConnectionId}
use Rattle.quic_retransmits.specs.Retransmits.{Retransmits, has_id, is_any, control_kinds}
use Rattle.quic_streams_halves.specs.Halves.{status_from, has_place}
use Rattle.quic_streams_state.specs.declared.state.StreamsState.{StreamsState}
use Rattle.quic_streams_state.specs.State.{is_opened, sends_on, receives_on}
use Rattle.quic_streams_state.specs.Limits.{takes_limits_of, can_send_flow_control}
use Rattle.quic_streams_state.specs.ControlLaws.{fills}
use Rattle.quic_streams_state.specs.Waiting.{is_empty, can_send_stream_data, any_goes}
use Rattle.quic_streams_laws.specs.Each.{HalfIs}
use Rattle.quic_streams_laws.specs.Content.{AllReceiving}
use Rattle.quic_streams_laws.specs.ToldLaws.{first_is}
use Rattle.quic_streams_laws.specs.Queued.{place_of, IsOrderly}
use Rattle.quic_streams_laws.specs.Written.{Wrote, IsSendHalf, nothing_done}
use Rattle.quic_streams_laws.specs.Acknowledged.{HalfArrived, IsSettled, IsAckedStatus}
use Rattle.quic_machine.specs.End.{End}
use Rattle.quic_machine.specs.Poll.{waits, message_waits, asks_to_go}
use Rattle.quic_machine.specs.Machine.{World, end_at}
use Rattle.quic_machine.specs.RunLaws.{one_run}
use Rattle.quic_headline.specs.Runs.{Run, Packet, Intake, AreServed, until, written, ended, EndHasArrived, LeadsTo}
use Rattle.quic_headline.specs.Unread.{stopped}
use Rattle.quic_headline.specs.Observer.{Sent, Watch, took, sents_until}
use Rattle.quic_headline.specs.Duties.{Limited, AllData, StreamData, StreamCount, Duty, Offset, Fin, Reset, Stop, Retire, NewId, Limit, limit_frame, limit_waits, Matters, IsSaid, lacks_size, IsOwed, on_half, is_due, IsInFlight, IsSomewhere, Frequency, Done, IsRequested, HasAsked}
use Rattle.quic_headline.specs.Headline.{IsHonest}
use Rattle.quic_headline.proofs.Packets.Group.{PacketsHold}
use Rattle.quic_headline.proofs.Packets.Sight.{Sight}
use Rattle.quic_headline.proofs.Places.Parties.{Party, came_to}
use Rattle.quic_headline.proofs.Places.Groups.{Way}
use Rattle.quic_headline.proofs.Places.Placed.{party_at, Placed, watch_is}
use Rattle.quic_headline.proofs.Places.Openings.{took_there}
use Rattle.quic_headline.proofs.Halves.Wrote.{wrote}
use Rattle.quic_headline.proofs.Halves.Arrived.{OffsetIn, EndIn, Arrives}
use Rattle.quic_headline.proofs.Halves.Finishing.{end_last}
use Rattle.quic_headline.proofs.Halves.Writer.{WritesHold}
use Rattle.quic_headline.proofs.Duties.Flies.{FliesIn}
use Rattle.quic_headline.proofs.Duties.UnderWay.{InPackets}
use Rattle.quic_headline.proofs.Duties.Lasting.{WasUsed, Ends}
use Rattle.quic_headline.proofs.Duties.Limits.{LimitStands}
use Rattle.quic_headline.proofs.Duties.Listed.{Listed, ResetOf, StopOf, RetireOf, NewIdOf, DoneOf, listed_in, ListedStands, reset_has_come, stop_has_come, retirement_has_come, id_has_come, done_has_come}
use Rattle.quic_headline.proofs.Duties.Halts.{IsHalted}
use Rattle.quic_headline.proofs.Duties.Stopped.{IsAsked}
use Rattle.quic_headline.specs.Duties as duties
use Rattle.quic_headline.proofs.Duties.Requests.{RequestStands}
use Rattle.quic_headline.proofs.Duties.Group.{Flying}
use Rattle.quic_machine.specs.Parts.{signals_wait}

-- ---- what waits is queued

-- the queue has one that stands in it
standing_queued : (entries : List (Place × ℕ)) (test : Place → Bool) (id : ℕ) → lookup test entries ≡ Some id → is_any_queued entries ≡ true
standing_queued [] test id is = cc
standing_queued (e ∷ entries) test id is = refl

-- where a half has something to send, the queue has one
pub pending_queued : (s : StreamsState) (id : ℕ) (h : SendHalf) → IsOrderly s → at s.sending.halves.live id ≡ Some h → has_pending h ≡ true → can_send_stream_data s ≡ true
pending_queued s id h orderly found pending = go h.place refl (orderly.queue.pending id h found ∙ pending)
  where
    go : (o : Option Place) → h.place ≡ o → is_some o ≡ true → can_send_stream_data s ≡ true
    go None is some = cc
    go (Some p) is some = standing_queued s.sending.queue.entries (is_at (place_cmp p)) id (orderly.queue.stand.placed id p (ap place_of found ∙ is))

-- so the end waits to be polled
pub half_queued : (e : End) → can_send_stream_data e.streams ≡ true → waits e ≡ true
half_queued e queued =
    or_right (can_send e.acknowledging) (asks_to_go e)
    (or_right (signals_wait e.waiting.signals) (not (is_empty e.waiting.frames e.streams) || (message_waits e || can_send_stream_data e.streams))
    (or_right (not (is_empty e.waiting.frames e.streams)) (message_waits e || can_send_stream_data e.streams) (or_right (message_waits e) (can_send_stream_data e.streams) queued)))

-- where one waits in a list, something does
any_listed : {X : Type 0} (f : X → Bool) (xs : List X) → list_any f xs ≡ true → is_any xs ≡ true
any_listed f [] is = cc
any_listed f (x ∷ xs) is = refl

not_empty : (what : Listed) (p : Retransmits) (s : StreamsState) → listed_in what p ≡ true → not (is_empty p s) ≡ true
not_empty (ResetOf id) p s is = ap not (fills ResetStream p s (any_listed (λ (r : ℕ × ℕ). r.0 == id) p.reset_stream is))
not_empty (StopOf id) p s is = ap not (fills StopSending p s (any_listed (λ (x : StopSendingValue). x.id == id) p.stop_sending is))
not_empty (RetireOf number) p s is = ap not (fills RetireConnectionId p s (any_listed (λ (n : ℕ). n == number) p.retire_cids is))
not_empty (NewIdOf number) p s is = ap not (fills NewConnectionId p s (any_listed (λ (cid : IssuedCid). cid.sequence == number) p.new_cids is))
not_empty DoneOf p s is = ap not (fills HandshakeDone p s is)

-- so something asks to go
pub listed_asks : (e : End) (what : Listed) → listed_in what e.waiting.frames ≡ true → asks_to_go e ≡ true
listed_asks e what is =
    or_right (signals_wait e.waiting.signals) (not (is_empty e.waiting.frames e.streams) || (message_waits e || can_send_stream_data e.streams))
    (or_left (not (is_empty e.waiting.frames e.streams)) (message_waits e || can_send_stream_data e.streams) (not_empty what e.waiting.frames e.streams is))

pub listed_queued : (e : End) (what : Listed) → listed_in what e.waiting.frames ≡ true → waits e ≡ true
listed_queued e what is = or_right (can_send e.acknowledging) (asks_to_go e) (listed_asks e what is)

-- a limit that matters, and waits, is something that waits
limit_any : (what : Limited) (e : End) → Matters e what → limit_waits e.waiting.frames what ≡ true → not (is_empty e.waiting.frames e.streams) ≡ true
limit_any AllData e matters waits = ap not (fills MaxData e.waiting.frames e.streams waits)
limit_any (StreamData id) e matters waits = ap not (fills MaxStreamData e.waiting.frames e.streams (listed e.waiting.frames.max_stream_data waits))
  where
    listed : (ids : List ℕ) → has_id id ids ≡ true → list_any (λ q. can_send_flow_control e.streams q) ids ≡ true
    listed [] is = cc
    listed (q ∷ ids) is = elim (or_cases (is_at (nat_cmp id) q) (has_id id ids) is) [
      | inl here ↦ or_left (can_send_flow_control e.streams q) (list_any (λ j. can_send_flow_control e.streams j) ids) (ap (can_send_flow_control e.streams) (sym (first_is id q here)) ∙ matters)
      | inr more ↦ or_right (can_send_flow_control e.streams q) (list_any (λ j. can_send_flow_control e.streams j) ids) (listed ids more)
    ]
limit_any (StreamCount dir) e matters waits = ap not (fills (MaxStreams dir) e.waiting.frames e.streams waits)

pub limit_asks : (e : End) (what : Limited) → Matters e what → limit_waits e.waiting.frames what ≡ true → asks_to_go e ≡ true
limit_asks e what matters waits =
    or_right (signals_wait e.waiting.signals) (not (is_empty e.waiting.frames e.streams) || (message_waits e || can_send_stream_data e.streams))
    (or_left (not (is_empty e.waiting.frames e.streams)) (message_waits e || can_send_stream_data e.streams) (limit_any what e matters waits))

pub limit_queued : (e : End) (what : Limited) → Matters e what → limit_waits e.waiting.frames what ≡ true → waits e ≡ true
limit_queued e what matters waits = or_right (can_send e.acknowledging) (asks_to_go e) (limit_asks e what matters waits)

-- ACK_FREQUENCY that waits does too
pub request_queued : (e : End) → e.waiting.frames.ack_frequency ≡ true → waits e ≡ true
request_queued e is =
    or_right (can_send e.acknowledging) (asks_to_go e)
    (or_right (signals_wait e.waiting.signals) (not (is_empty e.waiting.frames e.streams) || (message_waits e || can_send_stream_data e.streams))
    (or_left (not (is_empty e.waiting.frames e.streams)) (message_waits e || can_send_stream_data e.streams) (any_goes_too (list_any (λ kind. any_goes kind e.waiting.frames e.streams) control_kinds))))
  where
    any_goes_too : (b : Bool) → not (not (b || e.waiting.frames.ack_frequency)) ≡ true
    any_goes_too b = ap (λ (d : Bool). not (not d)) (or_right b e.waiting.frames.ack_frequency is)

-- a limit that matters isn't one that matters no more
pub matters_still : (what : Limited) (e : End) → Matters e what → AllReceiving (Ends what) e.streams → ⊥
matters_still AllData e matters ends = ends.each 0
matters_still (StreamCount dir) e matters ends = ends.each 0
matters_still (StreamData id) e matters ends = go (at e.streams.receiving.halves.live id) (receives_on e.streams.side id && is_opened e.streams id) (has_place e.streams.side e.streams.receiving.halves.places id) matters (ends.each id refl)
  where
    go : (o : Option RecvHalf) (m used : Bool) → takes_limits_of o ≡ true → WasUsed (λ h. takes_limits h ≡ false) (status_from o m used) → ⊥
    go (Some h) m used takes none = both_ways (takes_limits h) none takes
    go None m used takes none = cc

-- an offset that is lost or was never sent is something to send
pub waiting_pending : (h : SendHalf) (o : ℕ) → (is_lost h.buffer o || is_unsent h.buffer o) ≡ true → has_pending h ≡ true
waiting_pending h o is = or_left (has_unsent h.buffer) h.end_waits (elim (cases_Bool (has_unsent h.buffer)) [
  | inl some ↦ some
  | inr none ↦ absurd (both_ways (is_lost h.buffer o || is_unsent h.buffer o) (none_waits h.buffer o none) is)
])

-- ---- where each duty is

-- a half of a stream that wasn't reset isn't
pub not_reset : (w : Wrote) (h : SendHalf) → IsSendHalf w h → w.reset ≡ None → h.reset ≡ None
not_reset w h held none = held.reset ∙ ap (option_map (λ code. length w.bytes)) none

module _ (x y : Party) (writes : WritesHold x y) (packets : PacketsHold x y) (arrives : Arrives x y) (flying : Flying x y) where
  abbrev came : List Packet
  came = (came_to y x).took

  abbrev w : ℕ → Wrote
  w = wrote x.told

  abbrev Somewhere : Duty → Type 0
  Somewhere u = IsSomewhere x.end x.sents (came_to y x).took x.told u

  -- the end that came stands behind all that was written
  end_at_last : (id : ℕ) → EndIn (came_to y x).took id → EndHasArrived (came_to y x).took id (length (written id x.told))
  end_at_last id arrived = end_last x.sents x.told (came_to y x).took writes.says packets.taken id arrived

  -- what is to go of a half is queued
  waiting : (id : ℕ) (h : SendHalf) (u : Duty) → at x.end.streams.sending.halves.live id ≡ Some h → is_due x.end u ≡ true → has_pending h ≡ true → Somewhere u
  waiting id h u found due pending = inl (record { due = due; queued = half_queued x.end (pending_queued x.end.streams id h writes.writes.keeps.orderly found pending) })

  -- an offset of a half
  half_offset : (id : ℕ) (h : SendHalf) (o : ℕ) → at x.end.streams.sending.halves.live id ≡ Some h → (w id).reset ≡ None → IsSendHalf (w id) h → HalfArrived (OffsetIn came id) (EndIn came id) h → FliesIn (InPackets x.end.tracking.packets) id h → o < length (written id x.told) → Somewhere (Offset id o)
  half_offset id h o found free held acked flies below = go (is_acknowledged h.buffer o) (is_lost h.buffer o) (ltb o h.buffer.unsent) refl refl refl
    where
      due : (is_lost h.buffer o || is_unsent h.buffer o) ≡ true → Somewhere (Offset id o)
      due is = waiting id h (Offset id o) found (ap (on_half (λ k. is_lost k.buffer o || is_unsent k.buffer o)) found ∙ is) (waiting_pending h o is)

      go : (acknowledged lost sent : Bool) → is_acknowledged h.buffer o ≡ acknowledged → is_lost h.buffer o ≡ lost → ltb o h.buffer.unsent ≡ sent → Somewhere (Offset id o)
      go true lost sent a l s = inr (inr (acked.bytes o (has_is h.buffer.acked o a)))
      go false true sent a l s = due (or_left (is_lost h.buffer o) (is_unsent h.buffer o) l)
      go false false true a l s =
          let none : (is_acknowledged h.buffer o || is_lost h.buffer o) ≡ false = or_from (is_acknowledged h.buffer o) (is_lost h.buffer o) a l in
          let in_flight : is_in_flight h.buffer o ≡ true = and_from (ltb o h.buffer.unsent) (not (is_acknowledged h.buffer o || is_lost h.buffer o)) s (not_from_false (is_acknowledged h.buffer o || is_lost h.buffer o) none) in
          inr (inl (flies.offsets (not_reset (w id) h held free) o in_flight))
      go false false false a l s =
          let rest = held.rest free in
          let base = rest.base in
          let kept = ap length rest.kept in
          let behind_base = length-drop h.buffer.base (written id x.told) in
          let behind = ltb-false o h.buffer.unsent s in
          let unsent : is_unsent h.buffer o ≡ true = and_from (leb h.buffer.unsent o) (ltb o (buffered.written h.buffer)) (le-leb h.buffer.unsent o behind) (lt-ltb o (buffered.written h.buffer) (omega arith)) in
          due (or_right (is_lost h.buffer o) (is_unsent h.buffer o) unsent)

  -- the end of a finished half
  half_fin : (id : ℕ) (h : SendHalf) → at x.end.streams.sending.halves.live id ≡ Some h → (w id).reset ≡ None → IsSendHalf (w id) h → HalfArrived (OffsetIn came id) (EndIn came id) h → FliesIn (InPackets x.end.tracking.packets) id h → ended id x.told ≡ true → Somewhere (Fin id)
  half_fin id h found free held acked flies over = go h.end_waits h.end_acked refl refl
    where
      go : (due acknowledged : Bool) → h.end_waits ≡ due → h.end_acked ≡ acknowledged → Somewhere (Fin id)
      go true acknowledged d a = waiting id h (Fin id) found (ap (on_half (λ k. k.end_waits)) found ∙ d) (or_right (has_unsent h.buffer) h.end_waits d)
      go false true d a = inr (inr (end_at_last id (acked.end a)))
      go false false d a =
          let none : (h.end_acked || h.end_waits) ≡ false = or_from h.end_acked h.end_waits a d in
          inr (inl (flies.fin (not_reset (w id) h held free) (and_from h.finished (not (h.end_acked || h.end_waits)) (held.finished ∙ over) (not_from_false (h.end_acked || h.end_waits) none))))

  -- a stream that was reset is none
  settled_free : (id : ℕ) (P : Type 0) → IsSome (w id).reset → (w id).reset ≡ None → P
  settled_free id P some none = let clash : true ≡ false = sym some ∙ ap is_some none in cc

  -- a duty of a stream that wasn't reset, by how far its half has come
  by_half : (id : ℕ) (u : Duty) → ((w id ≡ nothing_done) → Somewhere u)
      → ((h : SendHalf) → at x.end.streams.sending.halves.live id ≡ Some h → IsSendHalf (w id) h → HalfArrived (OffsetIn came id) (EndIn came id) h → FliesIn (InPackets x.end.tracking.packets) id h → Somewhere u)
      → (IsSettled (OffsetIn came id) (EndIn came id) (w id) → Somewhere u) → Somewhere u
  by_half id u none some over = go (at s.sending.halves.live id) (sends_on s.side id && is_opened s id) (has_place s.side s.sending.halves.places id) refl (arrives.acked.each id) (flying.fly.each id)
    where
      s : StreamsState
      s = x.end.streams

      go : (o : Option SendHalf) (m used : Bool) → at s.sending.halves.live id ≡ o → IsAckedStatus (OffsetIn came id) (EndIn came id) (w id) (status_from o m used)
          → HalfIs (w id ≡ nothing_done) (λ h. IsSendHalf (w id) h × FliesIn (InPackets x.end.tracking.packets) id h) (Unit {0}) o used → Somewhere u
      go (Some h) m used is acked fly = some h is acked.0 acked.1 fly.1
      go None true true is acked fly = over acked
      go None true false is acked fly = none acked
      go None false used is acked fly = none acked

  -- a limit
  limit_somewhere : (what : Limited) (value : ℕ) → IsSaid x.end x.sents what value → Somewhere (Limit what value)
  limit_somewhere what value owed = go (flying.limits what value owed.said).stand
    where
      go : LimitStands (came_to y x).took x.sents what value x.end → Somewhere (Limit what value)
      go (inl ends) = absurd (matters_still what x.end owed.matters ends)
      go (inr (inl waits)) = inl (record { due = waits; queued = limit_queued x.end what owed.matters waits })
      go (inr (inr (inl i))) =
          let f : IsInFlight x.sents x.end.tracking.packets (limit_frame what i.limit) = i.flies in
          let most = owed.greatest i.limit (record { sent = f.sent; among = f.among; carried = f.carried }) in
          let least = i.enough in
          let same : i.limit ≡ value = omega arith in
          inr (inl (subst (λ n. IsInFlight x.sents x.end.tracking.packets (limit_frame what n)) same f))
      go (inr (inr (inr came))) = inr (inr came)

  -- a request of how often to acknowledge
  request_somewhere : (number : ℕ) → duties.IsAsked x.sents number → Somewhere (Frequency number)
  request_somewhere number owed = go (flying.requests owed.frame owed.asked).stand
    where
      go : RequestStands (came_to y x).took x.sents owed.frame.sequence x.end → Somewhere (Frequency number)
      go (inl waits) = inl (record { due = waits; queued = request_queued x.end waits })
      go (inr (inl flies)) = inr (inl (subst (λ (n : ℕ). IsRequested x.sents x.end.tracking.packets n) owed.of_number flies))
      go (inr (inr came)) = inr (inr (subst (λ (n : ℕ). HasAsked (came_to y x).took n) owed.of_number came))

  -- a reset
  reset_somewhere : (id : ℕ) → ListedStands (came_to y x).took (ResetOf id) x.end → Somewhere (Reset id)
  reset_somewhere id (inl waits) = inl (record { due = waits; queued = listed_queued x.end (ResetOf id) waits })
  reset_somewhere id (inr (inl flies)) = inr (inl flies)
  reset_somewhere id (inr (inr here)) = inr (inr (reset_has_come (came_to y x).took id here))

  -- STOP_SENDING
  stop_somewhere : (id : ℕ) → ListedStands (came_to y x).took (StopOf id) x.end → Somewhere (Stop id)
  stop_somewhere id (inl waits) = inl (record { due = waits; queued = listed_queued x.end (StopOf id) waits })
  stop_somewhere id (inr (inl flies)) = inr (inl flies)
  stop_somewhere id (inr (inr here)) = inr (inr (stop_has_come (came_to y x).took id here))

  -- a retirement
  retirement_somewhere : (number : ℕ) → ListedStands (came_to y x).took (RetireOf number) x.end → Somewhere (Retire number)
  retirement_somewhere number (inl waits) = inl (record { due = waits; queued = listed_queued x.end (RetireOf number) waits })
  retirement_somewhere number (inr (inl flies)) = inr (inl flies)
  retirement_somewhere number (inr (inr here)) = inr (inr (retirement_has_come (came_to y x).took number here))

  -- an id
  id_somewhere : (number : ℕ) → ListedStands (came_to y x).took (NewIdOf number) x.end → Somewhere (NewId number)
  id_somewhere number (inl waits) = inl (record { due = waits; queued = listed_queued x.end (NewIdOf number) waits })
  id_somewhere number (inr (inl flies)) = inr (inl flies)
  id_somewhere number (inr (inr here)) = inr (inr (id_has_come (came_to y x).took number here))

  -- HANDSHAKE_DONE
  done_somewhere : ListedStands (came_to y x).took DoneOf x.end → Somewhere Done
  done_somewhere (inl waits) = inl (record { due = waits; queued = listed_queued x.end DoneOf waits })
  done_somewhere (inr (inl flies)) = inr (inl flies)
  done_somewhere (inr (inr here)) = inr (inr (done_has_come (came_to y x).took here))

  -- that of a stream that was stopped, and whose final size isn't known
  stop_stands : (id : ℕ) → stopped id x.told ≡ true → lacks_size (at x.end.streams.receiving.halves.live id) ≡ true → ListedStands (came_to y x).took (StopOf id) x.end
  stop_stands id halted lacks = go (at x.end.streams.receiving.halves.live id) (receives_on x.end.streams.side id && is_opened x.end.streams id) (has_place x.end.streams.side x.end.streams.receiving.halves.places id) (flying.halts.halted.each id) (flying.stops.each id) lacks
    where
      unknown_size : (o : Option ℕ) → is_none o ≡ true → o ≡ None
      unknown_size None is = refl
      unknown_size (Some size) is = cc

      go : (o : Option RecvHalf) (m used : Bool) → IsHalted (stopped id x.told) (status_from o m used) → IsAsked (λ q. ListedStands (came_to y x).took (StopOf q) x.end) id (status_from o m used) → lacks_size o ≡ true → ListedStands (came_to y x).took (StopOf id) x.end
      go (Some h) m used stops asked none = asked.1 (stops halted) (unknown_size h.final none)
      go None m used stops asked none = cc

  -- each duty is somewhere, while the id of the peer in use isn't below this number
  pub duty_somewhere : (used : ℕ) → used ≤ x.end.ids.peer.active → (u : Duty) → IsOwed used x.end x.sents x.told u → Somewhere u
  duty_somewhere used reached (Offset id o) owed = by_half id (Offset id o)
      (λ nothing. (let size : length (written id x.told) ≡ 0 = ap (λ (v : Wrote). length v.bytes) nothing in let below = owed.1 in absurd (omega arith)))
      (λ h found held acked flies. half_offset id h o found owed.0 held acked flies owed.1)
      (λ settled. elim settled [ inl all ↦ inr (inr (all.bytes o owed.1)) | inr some ↦ settled_free id (Somewhere (Offset id o)) some owed.0 ])
  duty_somewhere used reached (Fin id) owed = by_half id (Fin id)
      (λ nothing. absurd (both_ways (ended id x.told) (ap (λ (v : Wrote). v.ended) nothing) owed.1))
      (λ h found held acked flies. half_fin id h found owed.0 held acked flies owed.1)
      (λ settled. elim settled [ inl all ↦ inr (inr (end_at_last id all.end)) | inr some ↦ settled_free id (Somewhere (Fin id)) some owed.0 ])
  duty_somewhere used reached (Reset id) owed = reset_somewhere id (flying.resets id owed)
  duty_somewhere used reached (Stop id) owed = stop_somewhere id (stop_stands id owed.0 owed.1)
  duty_somewhere used reached (Retire number) owed = retirement_somewhere number (flying.ids (RetireOf number) (elim owed [ inl below ↦ omega arith | inr below ↦ below ]))
  duty_somewhere used reached (NewId number) owed = id_somewhere number (flying.ids (NewIdOf number) owed)
  duty_somewhere used reached (Limit what value) owed = limit_somewhere what value owed
  duty_somewhere used reached (Frequency number) owed = request_somewhere number owed
  duty_somewhere used reached Done owed = done_somewhere (flying.done owed)

-- ---- the clause

-- each duty is somewhere, wherever a run leads, of ids by a number that isn't above the one in use
abbrev pub DutiesHold : Run → Type 0
DutiesHold r = (i : ℕ) (w : World) → AreServed r i → LeadsTo r i w → (side : Side) (used : ℕ) → used ≤ (end_at side w).ids.peer.active → (duty : Duty) → IsOwed used (end_at side w) (sents_until r side i) (until r side i) duty
    → IsSomewhere (end_at side w) (sents_until r side i) (took r (other_side side) i) (until r side i) duty

-- What it rests on at a place.
pub record SaysWhereDutiesAre (G : Way) : Type 1 where
  pub packets : (x y : Party) → G x y → PacketsHold x y
  pub writes : (x y : Party) → G x y → WritesHold x y
  pub arrives : (x y : Party) → G x y → Arrives x y
  pub flying : (x y : Party) → G x y → Flying x y
  pub sight : (x y : Party) → G x y → Sight x y

module _ (G : Way) (g : SaysWhereDutiesAre G) (r : Run) (end : World) (honest : IsHonest r) (all : (side : Side) (i : ℕ) → AreServed r i → Placed G r end side i) where
  -- so it is wherever the run leads
  pub duties_hold : DutiesHold r
  duties_hold i v served leads side used reached duty owed =
      let p = all side i served in
      let x : Party = party_at r i p.world side p.sents in
      let y : Party = party_at r i p.world (other_side side) p.theirs in
      let is : v ≡ p.world = (one_run r.keys (take i r.answers) r.start (take i r.events) (take i r.views) (take i r.views) v p.world served leads p.leads).1 in
      let own : sents_until r side i ≡ p.sents = ap (λ (w : Watch). w.own) (watch_is r honest p.world i side p.sents p.theirs) ∙ (g.sight x y p.gives).own in
      let due : IsOwed used (end_at side p.world) p.sents (until r side i) duty = subst (λ (sents : List Sent). IsOwed used (end_at side p.world) sents (until r side i) duty) own (subst (λ (u : World). IsOwed used (end_at side u) (sents_until r side i) (until r side i) duty) is owed) in
      let within : used ≤ (end_at side p.world).ids.peer.active = subst (λ (u : World). used ≤ (end_at side u).ids.peer.active) is reached in
      let there : IsSomewhere (end_at side p.world) p.sents (came_to y x).took (until r side i) duty = duty_somewhere x y (g.writes x y p.gives) (g.packets x y p.gives) (g.arrives x y p.gives) (g.flying x y p.gives) used within duty due in
      subst (λ (u : World). IsSomewhere (end_at side u) (sents_until r side i) (took r (other_side side) i) (until r side i) duty) (sym is)
      (subst (λ (sents : List Sent). IsSomewhere (end_at side p.world) sents (took r (other_side side) i) (until r side i) duty) (sym own)
      (subst (λ (packets : List Packet). IsSomewhere (end_at side p.world) p.sents packets (until r side i) duty) (sym (ap (λ (j : Intake). j.took) (took_there r honest p.world i side p.sents p.theirs))) there))
