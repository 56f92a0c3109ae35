-- What follows where an end has nothing left to send and nothing that asks is in flight: what was
-- written, each reset, STOP_SENDING while it matters, and each limit that it said have come, and
-- nothing is kept to be sent again.
use Rattle.std.proofs.Common.{◌≡◌, ℕ, ◌+◌, ◌-◌, ◌<◌, ◌≤◌, Bool, true, false, ltb, leb, map, ◌||◌, ◌&&◌, not, List, [], ◌∷◌, length, Option, Some, None, refl, sym, ap, ◌∙◌, subst, ◌⊎◌, inl, inr, arith}
use Rattle.std.specs.Option.{IsSome, is_some, option_map}
use Rattle.std.specs.List.{list_any, sum_by}
use Rattle.std.specs.Map.{values_of}
use Rattle.std.specs.Ordering.{nat_cmp}
use Rattle.std.specs.List.Sorted.{IsStrictlySortedBy}
use Rattle.std.specs.Map.{keys_of}
use Rattle.std.proofs.lemmas.List.Sums.{sum_by-cons}
use Rattle.std.proofs.lemmas.Bool.{cases_eq, both_ways, or_left, or_right, or_parts, or_from, and_from, not_from_false, le-leb, lt-ltb, ltb-false}
use Rattle.quic_wire.specs.Value.{FrameValue, stream, max_data, max_stream_data, max_streams, asks}
use Rattle.quic_send_buffer.specs.Buffered.{Buffered, IsBuffered, ReachPast, bytes_in, first_unacknowledged, is_acknowledged, is_lost, is_unsent, is_in_flight}
use Rattle.quic_send_buffer.specs.Buffered as buffers
use Rattle.quic_sets.specs.Runs.{Has}
use Rattle.quic_sets.proofs.Offsets.Edits.{has_is, first_lacks}
use Rattle.quic_wire_core.specs.declared.stream_id.Dir.TheVariants.{Bi, Uni}
use Rattle.quic_streams_parts.specs.Table.{Table, at, without}
use Rattle.quic_streams_parts.specs.TableLaws.{at-first, nat_cmp-same, at-without, at-without-apart, sorted-without}
use Rattle.quic_streams_parts.specs.SendHalf.{SendHalf}
use Rattle.quic_streams_parts.specs.RecvHalf.{RecvHalf}
use Rattle.quic_streams_halves.specs.Halves.{has_place, status_from}
use Rattle.quic_retransmits.specs.Retransmits.{Retransmits, nothing_waits, has_id, with_ids}
use Rattle.quic_streams_state.specs.declared.state.StreamsState.{StreamsState}
use Rattle.quic_streams_state.specs.Parts.{buffered as buffered_by}
use Rattle.quic_streams_state.specs.State.{is_opened, receives_on}
use Rattle.quic_streams_laws.specs.Content.{AllReceiving}
use Rattle.quic_streams_laws.specs.Each.{HalfIs}
use Rattle.quic_streams_laws.specs.Written.{IsSendHalf, HoldsWritten}
use Rattle.quic_streams_laws.specs.WrittenLaws.{half_holds}
use Rattle.quic_streams_laws.specs.KeepingLaws.{live_sends}
use Rattle.quic_machine.specs.Tracking.{TrackedPacket, asks_any}
use Rattle.quic_machine.specs.End.{End}
use Rattle.quic_machine.specs.Poll.{waits}
use Rattle.quic_headline.specs.Runs.{Packet, In, written, reset, HasArrived, ResetHasArrived}
use Rattle.quic_headline.specs.Observer.{Sent, asks_of}
use Rattle.quic_headline.specs.Amounts.{was_stopped}
use Rattle.quic_headline.specs.Duties.{Limited, AllData, StreamData, StreamCount, Offset, limit_frame, limit_waits, WasGiven, Matters, StandsIn, IsCarried, LimitHasArrived, IsSomewhere}
use Rattle.quic_headline.specs.InFlight.{limits_in, is_max_data, is_max_streams, again_in, all_offsets, waited_for, but_for_record, WaitsFor}
use Rattle.quic_headline.proofs.Packets.Group.{PacketsHold}
use Rattle.quic_headline.proofs.Places.Parties.{Party, came_to}
use Rattle.quic_headline.proofs.Halves.Ghosts.{wrote}
use Rattle.quic_headline.proofs.Halves.Arrived.{Arrives}
use Rattle.quic_headline.proofs.Halves.Writer.{WritesHold}
use Rattle.quic_headline.proofs.Duties.Flies.{FliesIn}
use Rattle.quic_headline.proofs.Duties.UnderWay.{InPackets}
use Rattle.quic_headline.proofs.Duties.Lasting.{Ends}
use Rattle.quic_headline.proofs.Duties.Limits.{LimitStands}
use Rattle.quic_headline.proofs.Duties.Carrier.{any_member}
use Rattle.quic_headline.proofs.Duties.Listed.{Listed, ResetOf, StopOf, listed_in, again_says, none_said, nothing_listed, HasIt, Came, ListedStands, reset_has_come, stop_has_come}
use Rattle.quic_headline.proofs.Duties.Stopped.{IsAsked}
use Rattle.quic_headline.proofs.Duties.Group.{Flying}
use Rattle.quic_headline.proofs.Duties.Ledger.{pending_queued, waiting_pending, half_queued, listed_queued, limit_queued, duty_somewhere}

-- An end has nothing left to send, and waits for nothing that asks; it waits for these datagrams.
pub record AtRest (e : End) (flying : List Sent) : Type 0 where
  pub nothing_waits : waits e ≡ false
  pub nothing_asks : asks_any e.tracking.packets ≡ false
  pub waited : WaitsFor e.tracking.packets (map waited_for flying)

-- ---- frames of which none asks

-- tell no limit
no_max_data : (fs : List FrameValue) → list_any asks fs ≡ false → list_any is_max_data fs ≡ false
no_max_data [] none = refl
no_max_data (max_data limit ∷ fs) none = cc
no_max_data (f ∷ fs) none = no_max_data fs (or_parts (asks f) (list_any asks fs) none).1

no_limits : (fs : List FrameValue) → list_any asks fs ≡ false → limits_in fs ≡ []
no_limits [] none = refl
no_limits (max_stream_data f ∷ fs) none = cc
no_limits (f ∷ fs) none = no_limits fs (or_parts (asks f) (list_any asks fs) none).1

no_counts : (one_way : Bool) (fs : List FrameValue) → list_any asks fs ≡ false → list_any (is_max_streams one_way) fs ≡ false
no_counts one_way [] none = refl
no_counts one_way (max_streams f ∷ fs) none = cc
no_counts true (f ∷ fs) none = no_counts true fs (or_parts (asks f) (list_any asks fs) none).1
no_counts false (f ∷ fs) none = no_counts false fs (or_parts (asks f) (list_any asks fs) none).1

-- and carry no byte of a stream
no_offsets : (fs : List FrameValue) → list_any asks fs ≡ false → all_offsets fs ≡ []
no_offsets [] none = refl
no_offsets (stream f ∷ fs) none = cc
no_offsets (f ∷ fs) none = no_offsets fs (or_parts (asks f) (list_any asks fs) none).1

-- so no limit waits for them
quiet_limits : (fs : List FrameValue) → list_any asks fs ≡ false → (what : Limited) → limit_waits (again_in fs) what ≡ false
quiet_limits fs none AllData = no_max_data fs none
quiet_limits fs none (StreamData id) = ap (λ (ids : List ℕ). has_id id (with_ids ids [])) (no_limits fs none)
quiet_limits fs none (StreamCount Bi) = no_counts false fs none
quiet_limits fs none (StreamCount Uni) = no_counts true fs none

-- ---- what is tracked

-- the datagram of a tracked packet
pub found_for : (ps : Table TrackedPacket) (ss : List Sent) (p : ℕ × TrackedPacket) → map but_for_record ps ≡ map but_for_record (map waited_for ss) → In p ps → (s : Sent) × In s ss × (but_for_record p ≡ but_for_record (waited_for s))
found_for [] ss p same i = absurd i
found_for (q ∷ ps) [] p same i = cc
found_for (q ∷ ps) (s ∷ ss) p same (inl is) = let first : but_for_record q ≡ but_for_record (waited_for s) = cc in (s, inl refl, ap but_for_record is ∙ first)
found_for (q ∷ ps) (s ∷ ss) p same (inr i) =
    let rest : map but_for_record ps ≡ map but_for_record (map waited_for ss) = cc in
    let more = found_for ps ss p rest i in
    (more.0, inr more.1, more.2)

pub among_waited : (s : Sent) (ss : List Sent) → In s ss → In (waited_for s) (map waited_for ss)
among_waited s [] i = absurd i
among_waited s (t ∷ ss) (inl is) = inl (ap waited_for is)
among_waited s (t ∷ ss) (inr i) = inr (among_waited s ss i)

none_asks : (ps : Table TrackedPacket) (p : ℕ × TrackedPacket) → asks_any ps ≡ false → In p ps → p.1.asks ≡ false
none_asks [] p none i = absurd i
none_asks (q ∷ ps) p none (inl is) = ap (λ (x : ℕ × TrackedPacket). x.1.asks) is ∙ (or_parts q.1.asks (asks_any ps) none).0
none_asks (q ∷ ps) p none (inr i) = none_asks ps p (or_parts q.1.asks (asks_any ps) none).1 i

module _ (e : End) (flying : List Sent) (rest : AtRest e flying) where
  -- a tracked packet is that of a datagram that doesn't ask
  pub record Silent (p : ℕ × TrackedPacket) : Type 0 where
    pub sent : Sent
    pub silent : list_any asks sent.frames ≡ false
    pub streams : p.1.carried.stream_frames ≡ []
    pub again : (p.1.carried.retransmits ≡ again_in sent.frames) ⊎ (p.1.carried.retransmits ≡ nothing_waits)

  pub silent_packet : (p : ℕ × TrackedPacket) → In p e.tracking.packets → Silent p
  silent_packet p i =
      let found = found_for e.tracking.packets flying p rest.waited.same i in
      let s : Sent = found.0 in
      let number : p.0 ≡ s.number = ap (λ (x : ℕ × TrackedPacket). x.0) found.2 in
      let silent : asks_of s ≡ false = sym (ap (λ (x : ℕ × TrackedPacket). x.1.asks) found.2) ∙ none_asks e.tracking.packets p rest.nothing_asks i in
      let here : In (p.0, (waited_for s).1) (map waited_for flying) = subst (λ (n : ℕ). In (n, (waited_for s).1) (map waited_for flying)) (sym number) (among_waited s flying found.1) in
      record {
        sent = s;
        silent = silent;
        streams = ap (λ (x : ℕ × TrackedPacket). x.1.carried.stream_frames) found.2 ∙ no_offsets s.frames silent;
        again = rest.waited.records p.0 p.1 (waited_for s).1 i here;
      }

  -- no limit stands in what has to be sent again of it
  no_limit : (p : ℕ × TrackedPacket) (what : Limited) → In p e.tracking.packets → limit_waits p.1.carried.retransmits what ≡ true → ⊥
  no_limit p what i waits = (let q = silent_packet p i in elim q.again [
    | inl is ↦ both_ways (limit_waits p.1.carried.retransmits what) (ap (λ (r : Retransmits). limit_waits r what) is ∙ quiet_limits q.sent.frames q.silent what) waits
    | inr is ↦ both_ways (limit_waits p.1.carried.retransmits what) (ap (λ (r : Retransmits). limit_waits r what) is ∙ nothing what) waits
  ])
    where
      nothing : (what : Limited) → limit_waits nothing_waits what ≡ false
      nothing AllData = refl
      nothing (StreamData id) = refl
      nothing (StreamCount Bi) = refl
      nothing (StreamCount Uni) = refl

  -- nor a reset, nor a stop
  pub no_listed : (p : ℕ × TrackedPacket) (what : Listed) → In p e.tracking.packets → listed_in what p.1.carried.retransmits ≡ true → ⊥
  no_listed p what i has = (let q = silent_packet p i in elim q.again [
    | inl is ↦ none_said what q.sent.frames q.silent (sym (again_says what q.sent.frames) ∙ (ap (listed_in what) (sym is) ∙ has))
    | inr is ↦ both_ways (listed_in what p.1.carried.retransmits) (ap (listed_in what) is ∙ nothing_listed what) has
  ])

  -- no offset of a stream is in flight
  none_carried : (id o : ℕ) → IsCarried e.tracking.packets (Offset id o) → ⊥
  none_carried id o any = (let found = any_member (λ (p : ℕ × TrackedPacket). StandsIn p.1.carried (Offset id o)) e.tracking.packets any in nothing_stands found.0 (silent_packet found.0 found.1).streams found.2)
    where
      nothing_stands : (p : ℕ × TrackedPacket) → p.1.carried.stream_frames ≡ [] → StandsIn p.1.carried (Offset id o) → ⊥
      nothing_stands p none stands = rw none at stands

  pub waits_not : waits e ≡ true → ⊥
  waits_not some = both_ways (waits e) rest.nothing_waits some

  -- no limit waits that matters
  pub no_limit_waits : (what : Limited) → Matters e what → limit_waits e.waiting.frames what ≡ true → ⊥
  no_limit_waits what matters waits = waits_not (limit_queued e what matters waits)

-- ---- what came

module _ (x y : Party) (flying : List Sent) (rest : AtRest x.end flying) (packets : PacketsHold x y) (writes : WritesHold x y) (arrives : Arrives x y) (f : Flying x y) where
  abbrev came : List Packet
  came = (came_to y x).took

  -- each byte of a stream that wasn't reset
  pub offset_came : (id o : ℕ) → reset id x.told ≡ None → o < length (written id x.told) → HasArrived came id o
  offset_came id o free below = go (duty_somewhere x y writes packets arrives f 0 (omega arith) (Offset id o) (free, below))
    where
      go : IsSomewhere x.end x.sents came x.told (Offset id o) → HasArrived came id o
      go (inl there) = absurd (waits_not x.end flying rest there.queued)
      go (inr (inl under_way)) = absurd (none_carried x.end flying rest id o under_way)
      go (inr (inr here)) = here

  -- what waits in lists
  pub listed_came : (what : Listed) → ListedStands came what x.end → Came came what
  listed_came what (inl there) = absurd (waits_not x.end flying rest (listed_queued x.end what there))
  listed_came what (inr (inl carried)) = (let found = any_member (HasIt what) x.end.tracking.packets carried in absurd (no_listed x.end flying rest found.0 what found.1 found.2))
  listed_came what (inr (inr here)) = here

  -- each reset
  pub reset_came : (id : ℕ) → IsSome (reset id x.told) → ResetHasArrived came id
  reset_came id some = reset_has_come came id (listed_came (ResetOf id) (f.resets id some))

  -- STOP_SENDING of each stream that was stopped, and whose final size isn't known (RFC 9000,
  -- section 3.5)
  pub stop_came : (id : ℕ) (h : RecvHalf) → at x.end.streams.receiving.halves.live id ≡ Some h → h.stopped ≡ true → h.final ≡ None → was_stopped id came ≡ true
  stop_came id h found halted open_end = stop_has_come came id (listed_came (StopOf id) (asked.1 halted open_end))
    where
      s : StreamsState
      s = x.end.streams

      asked : IsAsked (λ q. ListedStands came (StopOf q) x.end) id (status_from (Some h) (receives_on s.side id && is_opened s id) (has_place s.side s.receiving.halves.places id))
      asked = subst (λ (o : Option RecvHalf). IsAsked (λ q. ListedStands came (StopOf q) x.end) id (status_from o (receives_on s.side id && is_opened s id) (has_place s.side s.receiving.halves.places id))) found (f.stops.each id)

  -- each limit that was said and matters
  pub limit_came : (what : Limited) (value : ℕ) → WasGiven x.sents (limit_frame what value) → Matters x.end what → (AllReceiving (Ends what) x.end.streams → ⊥) → LimitHasArrived came what value
  limit_came what value said matters still = go (f.limits what value said).stand
    where
      go : LimitStands came x.sents what value x.end → LimitHasArrived came what value
      go (inl ends) = absurd (still ends)
      go (inr (inl there)) = absurd (no_limit_waits x.end flying rest what matters there)
      go (inr (inr (inl i))) = absurd (no_limit x.end flying rest (i.flies.sent.number, i.flies.packet) what i.flies.tracked i.again)
      go (inr (inr (inr here))) = here

  -- ---- what is kept

  -- all of a half that wasn't reset is acknowledged
  pub offset_acked : (id : ℕ) (h : SendHalf) (o : ℕ) → at x.end.streams.sending.halves.live id ≡ Some h → h.reset ≡ None → FliesIn (InPackets x.end.tracking.packets) id h → o < buffers.written h.buffer → h.buffer.base ≤ o → is_acknowledged h.buffer o ≡ true
  offset_acked id h o found free flies below above = go (is_acknowledged h.buffer o) (is_lost h.buffer o) (ltb o h.buffer.unsent) refl refl refl
    where
      due : (is_lost h.buffer o || is_unsent h.buffer o) ≡ true → ⊥
      due is = waits_not x.end flying rest (half_queued x.end (pending_queued x.end.streams id h writes.writes.keeps.orderly found (waiting_pending h o is)))

      go : (acknowledged lost sent : Bool) → is_acknowledged h.buffer o ≡ acknowledged → is_lost h.buffer o ≡ lost → ltb o h.buffer.unsent ≡ sent → is_acknowledged h.buffer o ≡ true
      go true lost sent a l s = a
      go false true sent a l s = absurd (due (or_left (is_lost h.buffer o) (is_unsent h.buffer o) l))
      go false false true a l s =
          let none : (is_acknowledged h.buffer o || is_lost h.buffer o) ≡ false = or_from (is_acknowledged h.buffer o) (is_lost h.buffer o) a l in
          let in_flight : is_in_flight h.buffer o ≡ true = and_from (ltb o h.buffer.unsent) (not (is_acknowledged h.buffer o || is_lost h.buffer o)) s (not_from_false (is_acknowledged h.buffer o || is_lost h.buffer o) none) in
          absurd (none_carried x.end flying rest id o (flies.offsets free o in_flight))
      go false false false a l s =
          let behind = ltb-false o h.buffer.unsent s in
          let unsent : is_unsent h.buffer o ≡ true = and_from (leb h.buffer.unsent o) (ltb o (buffers.written h.buffer)) (le-leb h.buffer.unsent o behind) (lt-ltb o (buffers.written h.buffer) below) in
          absurd (due (or_right (is_lost h.buffer o) (is_unsent h.buffer o) unsent))

  -- so nothing is kept of it
  nothing_kept : (b : Buffered) → IsBuffered b → ((o : ℕ) → o < buffers.written b → b.base ≤ o → is_acknowledged b o ≡ true) → length b.kept ≡ 0
  nothing_kept b held all = go b.pieces refl held.needed
    where
      go : (ns : List ℕ) → b.pieces ≡ ns → ReachPast (first_unacknowledged b - b.base) b.pieces → length b.kept ≡ 0
      go [] is past = (let whole = held.whole in let none : bytes_in b.pieces ≡ 0 = ap bytes_in is in omega arith)
      go (n ∷ ns) is past =
          let reach : first_unacknowledged b - b.base < n = subst (λ (ms : List ℕ). ReachPast (first_unacknowledged b - b.base) ms) is past in
          let whole = held.whole in
          let sum : bytes_in b.pieces ≡ n + bytes_in ns = ap bytes_in is in
          let begun = held.begun in
          let has : Has b.acked (first_unacknowledged b) = has_is b.acked (first_unacknowledged b) (all (first_unacknowledged b) (omega arith) begun) in
          absurd (first_lacks b.acked held.acked has)

  half_empty : (id : ℕ) (h : SendHalf) → at x.end.streams.sending.halves.live id ≡ Some h → length h.buffer.kept ≡ 0
  half_empty id h found = go (reset id x.told) refl
    where
      holds : HoldsWritten (wrote x.told) x.end.streams
      holds = writes.writes.keeps.holds

      kept : IsSendHalf (wrote x.told id) h
      kept = half_holds (wrote x.told) x.end.streams holds id h (live_sends x.end.streams id h found)

      flies : FliesIn (InPackets x.end.tracking.packets) id h
      flies = (subst (λ (o : Option SendHalf). HalfIs (wrote x.told id ≡ record { bytes = []; ended = false; reset = None }) (λ g. IsSendHalf (wrote x.told id) g × FliesIn (InPackets x.end.tracking.packets) id g) (Unit {0}) o (has_place x.end.streams.side x.end.streams.sending.halves.places id)) found (f.fly.each id)).1

      go : (o : Option ℕ) → reset id x.told ≡ o → length h.buffer.kept ≡ 0
      go None is = nothing_kept h.buffer kept.lawful (λ o below above. offset_acked id h o found (kept.reset ∙ ap (λ (c : Option ℕ). option_map (λ (code : ℕ). length (written id x.told)) c) is) flies below above)
      go (Some code) is = ap length (kept.gone (ap is_some is)).kept

  none_buffered : (live : Table SendHalf) → IsStrictlySortedBy nat_cmp (keys_of live) → ((id : ℕ) (h : SendHalf) → at live id ≡ Some h → length h.buffer.kept ≡ 0) → sum_by (λ (h : SendHalf). length h.buffer.kept) (values_of live) ≡ 0
  none_buffered [] sorted each = refl
  none_buffered (e ∷ es) sorted each =
      let first : without (e ∷ es) e.0 ≡ es = rw (nat_cmp-same e.0) refl in
      let gone : at es e.0 ≡ None = ap (λ (t : Table SendHalf). at t e.0) (sym first) ∙ at-without (e ∷ es) e.0 sorted in
      let here : length e.1.buffer.kept ≡ 0 = each e.0 e.1 (at-first es e.0 e.1) in
      let rest = none_buffered es (subst (λ (t : Table SendHalf). IsStrictlySortedBy nat_cmp (keys_of t)) first (sorted-without (e ∷ es) e.0 sorted)) (λ j h is. behind j h is gone first) in
      let sum = sum_by-cons (λ (h : SendHalf). length h.buffer.kept) e.1 (values_of es) in
      omega arith
    where
      behind : (j : ℕ) (h : SendHalf) → at es j ≡ Some h → at es e.0 ≡ None → without (e ∷ es) e.0 ≡ es → length h.buffer.kept ≡ 0
      behind j h is gone first = elim (cases_eq j e.0) [
        | inl same ↦ (let clash : ◌≡◌ {A = Option SendHalf} None (Some h) = sym gone ∙ ap (λ (x : ℕ). at es x) (sym same) ∙ is in cc)
        | inr ne ↦ each j h (sym (at-without-apart (e ∷ es) e.0 j ne) ∙ ap (λ (t : Table SendHalf). at t j) first ∙ is)
      ]

  -- nor of any
  pub nothing_buffered : buffered_by x.end.streams.sending ≡ 0
  nothing_buffered = none_buffered x.end.streams.sending.halves.live writes.writes.keeps.holds.shape.sending.sorted half_empty
