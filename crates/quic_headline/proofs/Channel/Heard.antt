-- What an end heard of how far it may come, on all streams and on each, its peer lets it come: it
-- sends no further than that (RFC 9000, sections 4.1, 19.9 and 19.10).
use Rattle.std.proofs.Common.{◌≡◌, ℕ, ◌≤◌, Bool, true, false, not, List, [], ◌++◌, length, Some, None, refl, sym, ap, ◌∙◌, subst, ◌⊎◌, inl, inr, arith}
use Rattle.std.specs.Prelude.{◌&&◌, ◌||◌}
use Rattle.std.specs.Option.{IsSome}
use Rattle.std.proofs.lemmas.Bool.{cond_both}
use Rattle.std.proofs.lemmas.List.{append-nil}
use Rattle.quic_wire_core.specs.StreamId.{dir_of}
use Rattle.quic_wire.specs.Value.{FrameValue, ack, stream, reset_stream, stop_sending, max_data, max_stream_data, max_streams, datagram, new_connection_id, retire_connection_id, path_response, handshake_done, ack_frequency}
use Rattle.quic_send_buffer.specs.Buffered.{written}
use Rattle.quic_streams_parts.specs.Dirs.{is_own, is_two_way}
use Rattle.quic_streams_parts.specs.Table.{at}
use Rattle.quic_streams_parts.specs.SendHalf.{SendHalf, new_send_half}
use Rattle.quic_streams_halves.specs.Halves.{Status, unknown, fresh, live, done, half_of, has_place, is_done}
use Rattle.quic_streams_state.specs.declared.state.StreamsState.{StreamsState}
use Rattle.quic_streams_state.specs.State.{sending_half, sending_status, receiving_status, done_if, first_limit}
use Rattle.quic_streams_laws.specs.Each.{StatusIs, EachSends, AreOfHalves}
use Rattle.quic_streams_laws.specs.EachLaws.{each_kept, said_of, half_follows}
use Rattle.quic_streams_laws.specs.Keeping.{KeepsWhere, KeepsBy, HasEnded, MayAccept}
use Rattle.quic_streams_laws.specs.Keeping as changes
use Rattle.quic_streams_laws.specs.KeepingLaws.{by_open, by_accept, by_write, by_write_chunks, by_finish, by_reset, by_set_priority, by_read_begun, by_next, by_finalize, by_stop, by_received_reset, by_polled, by_stop_sending, by_max_data_where, by_max_stream_data, by_max_streams, by_stream, by_reset_frame, by_stream_lost, by_stream_acked_where, by_reset_acked_where, by_frame}
use Rattle.quic_streams_laws.specs.Written.{Wrote, Grows, IsOver, IsSendHalf, HoldsWritten, nothing_done}
use Rattle.quic_streams_laws.specs.WrittenLaws.{half_holds, holds_kept, holds_set_priority, holds_write, holds_write_chunks, holds_finish, holds_reset}
use Rattle.quic_machine.specs.declared.run.Call.{Call}
use Rattle.quic_machine.specs.declared.run.Call.TheVariants as calls
use Rattle.quic_machine.specs.declared.run.Answer.{Answer}
use Rattle.quic_machine.specs.Policy.{Policy}
use Rattle.quic_machine.specs.Tracking.{dir_named}
use Rattle.quic_machine.specs.Calls.{is_open}
use Rattle.quic_machine.specs.StreamCalls.{is_on_streams}
use Rattle.quic_machine.specs.End.{End, with_closing, streams_at}
use Rattle.quic_machine.specs.Closing.{ticked}
use Rattle.quic_machine.specs.Receive.{is_above, names_ungiven, take_frame}
use Rattle.quic_machine.specs.Poll.{Draft, composed, polled}
use Rattle.quic_machine.specs.DraftLaws.{Writing, by_writing}
use Rattle.quic_machine.specs.Puts as puts
use Rattle.quic_machine.specs.FrameCases.{Settling, acked_keeps, losses_keep, named, ack_taken, message_leaves, passed, frames_leave, apart_leaves}
use Rattle.quic_machine.specs.Steps as steps
use Rattle.quic_machine.specs.LeaveCases.{by_expired, by_event}
use Rattle.quic_machine.specs.CallCases.{is_delivery, by_call, by_done}
use Rattle.quic_machine.specs.Machine.{IsAnswer, after_call}
use Rattle.quic_headline.specs.Runs.{In, written_by, first_of}
use Rattle.quic_headline.proofs.Packets.Apart.{by_waits, by_next_id}
use Rattle.quic_streams_laws.specs.QuietLaws.{by_told}
use Rattle.quic_headline.proofs.Halves.Wrote.{adds, or_false, first_none}
use Rattle.quic_headline.proofs.Halves.Words.{CallWords, call_with}
use Rattle.quic_headline.proofs.Halves.WordsCalls.{call_on_is}
use Rattle.quic_headline.proofs.Channel.Received.{Allows, allows_less, Stays}
use Rattle.quic_headline.proofs.Channel.Told.{IsTold}
use Rattle.quic_headline.proofs.Packets.Probes.{poll_state}

-- ---- limits of one end that the other holds

-- the other lets come as far as a half of a stream may go, as far as one may at first, and as far
-- as all streams may go
abbrev pub Limits : StreamsState → StreamsState → Type 0
Limits t s = EachSends (λ q limit. (id : ℕ) → Allows t id limit) (λ id. Unit {0}) (λ id h. Allows t id h.limit) (λ id. Unit {0}) s

pub record Heard (t s : StreamsState) : Type 0 where
  pub halves : Limits t s
  pub all : s.sending.limit ≤ t.receiving.announced

of_halves : (t : StreamsState) → AreOfHalves (λ q limit. (id : ℕ) → Allows t id limit) (λ id. Unit {0}) (λ id h. Allows t id h.limit) (λ id. Unit {0})
of_halves t = record { fresh = λ id limit first none. first id; over = λ id h is ended. tt; blocked = λ id h b is. is; noted = λ id h said is. is; placed = λ id h p is. is }

-- the limit of a half that there is
pub half_heard : (t s : StreamsState) (id : ℕ) (h : SendHalf) → sending_half s id ≡ Some h → Heard t s → Allows t id h.limit
half_heard t s id h e i = said_of (λ q limit. (id : ℕ) → Allows t id limit) (λ id. Unit {0}) (λ id h. Allows t id h.limit) (λ id. Unit {0}) (of_halves t) s id h e i.halves

module _ (t : StreamsState) where
  halves_kept : KeepsBy (λ r id old new. Unit {0}) (λ s id old new. Allows t id old.limit → Allows t id new.limit) (λ s id n old new. Allows t id old.limit → Allows t id new.limit) (Limits t)
  halves_kept = each_kept (λ q limit. (id : ℕ) → Allows t id limit) (λ id. Unit {0}) (λ id h. Allows t id h.limit) (λ id. Unit {0}) (of_halves t)

  done_all : (b : Bool) (id : ℕ) (s : StreamsState) → s.sending.limit ≤ t.receiving.announced → (done_if b id s).sending.limit ≤ t.receiving.announced
  done_all true id s le = le
  done_all false id s le = le

  -- each small change keeps it that raises no limit above those that the other holds
  heard_kept : KeepsWhere (λ r id old new. Unit {0}) (λ s id old new. Allows t id old.limit → Allows t id new.limit) (λ s id n old new. Allows t id old.limit → Allows t id new.limit) (λ s dir. MayAccept s dir) (λ id. Unit {0}) (λ id h. HasEnded h)
      (λ s limit. (s.sending.limit ≤ limit) × (limit ≤ t.receiving.announced)) (Heard t)
  heard_kept (changes.raises limit) s raised i = record { halves = halves_kept (changes.raises limit) s raised.0 i.halves; all = raised.1 }
  heard_kept (changes.joins id h) s is i = record { halves = halves_kept (changes.joins id h) s is i.halves; all = cond_both h.blocked s _ (λ (u : StreamsState). u.sending.limit ≤ t.receiving.announced) (λ e. i.all) (λ e. i.all) }
  heard_kept (changes.ends_sending id h) s (is, over) i = record { halves = halves_kept (changes.ends_sending id h) s (is, over) i.halves; all = done_all (not (is_own s.side id) && is_done (receiving_status s id)) id _ i.all }
  heard_kept (changes.ends_receiving id h) s is i = record { halves = halves_kept (changes.ends_receiving id h) s is i.halves; all = done_all (not (is_own s.side id) && (not (is_two_way (dir_of id)) || is_done (sending_status s id))) id _ i.all }
  heard_kept c s may i = record { halves = halves_kept c s may i.halves; all = i.all }

  -- ---- calls

  -- with what was written, by which no more bytes count as sent than were
  record Writes (wrote : ℕ → Wrote) (s : StreamsState) : Type 0 where
    holds : HoldsWritten wrote s
    heard : Heard t s

  bounded : (wrote : ℕ → Wrote) (s : StreamsState) → HoldsWritten wrote s → (id : ℕ) (h : SendHalf) → sending_half s id ≡ Some h → h.buffer.unsent ≤ written h.buffer
  bounded wrote s i id h e = let j : IsSendHalf (wrote id) h = half_holds wrote s i id h e in j.lawful.bounded

  heard_calls : CallWords Writes
  heard_calls = record {
    writes = λ b w s p id bytes i. record { holds = holds_write w s i.holds b p id bytes; heard = by_write (Heard t) heard_kept b s p id bytes (bounded w s i.holds id) (λ n old new e on is. subst (Allows t id) (sym on.limit) is) i.heard };
    writes_chunks = λ b w s p id cs i. record { holds = holds_write_chunks w s i.holds b p id cs; heard = by_write_chunks (Heard t) heard_kept b s p id cs (bounded w s i.holds id) (λ n old new e on is. subst (Allows t id) (sym on.limit) is) i.heard };
    finishes = λ w s id i. record { holds = holds_finish w s i.holds id; heard = by_finish (Heard t) heard_kept s id (λ h e ready is. is) i.heard };
    resets = λ w s p id code i. record { holds = holds_reset w s i.holds p id code; heard = by_reset (Heard t) heard_kept s p id code (λ h e none is. is) i.heard };
    opens = λ b dir w s i. record { holds = by_open (HoldsWritten w) (holds_kept w) b dir s i.holds; heard = by_open (Heard t) heard_kept b dir s i.heard };
    accepts = λ dir w s i. record { holds = by_accept (HoldsWritten w) (holds_kept w) dir s (λ may. may) i.holds; heard = by_accept (Heard t) heard_kept dir s (λ may. may) i.heard };
    sets_priority = λ w s id priority i. record { holds = holds_set_priority w s i.holds id priority; heard = by_set_priority (Heard t) heard_kept s id priority (λ h e is. is) i.heard };
    begins = λ w s id ordered i. record { holds = by_read_begun (HoldsWritten w) (holds_kept w) s id ordered (λ h e. tt) i.holds; heard = by_read_begun (Heard t) heard_kept s id ordered (λ h e. tt) i.heard };
    nexts = λ w told s id most i. record { holds = by_next (HoldsWritten w) (holds_kept w) told s id most (λ h c e f. tt) i.holds; heard = by_next (Heard t) heard_kept told s id most (λ h c e f. tt) i.heard };
    finalizes = λ w s p id i. record { holds = by_finalize (HoldsWritten w) (holds_kept w) s p id i.holds; heard = by_finalize (Heard t) heard_kept s p id i.heard };
    stops = λ w s p id code i. record { holds = by_stop (HoldsWritten w) (holds_kept w) s p id code (λ h e. tt) i.holds; heard = by_stop (Heard t) heard_kept s p id code (λ h e. tt) i.heard };
    hears_reset = λ w s p id i. record { holds = by_received_reset (HoldsWritten w) (holds_kept w) s p id i.holds; heard = by_received_reset (Heard t) heard_kept s p id i.heard };
  }

  -- whichever frames go
  composed_heard : (e : End) → Heard t e.streams → Heard t (composed e).end.streams
  composed_heard e i = by_writing (λ (d : Draft). Heard t d.end.streams) keep e i
    where
      keep : Writing (λ (d : Draft). Heard t d.end.streams)
      keep (puts.control kind f) d may j = by_told (Heard t) heard_kept f d.end.streams j
      keep (puts.stream id h room) d (found, first, some, is, counts) j = by_frame (Heard t) heard_kept d.end.transport.send_fairness d.end.streams id room h found (λ a. a) j
      keep p d may j = j

  poll_heard : (p : Policy) (e : End) (now : ℕ) → Heard t e.streams → Heard t (polled p e now).end.streams
  poll_heard p e now i = poll_state (Heard t) p e now composed_heard i

  -- packets that are acknowledged or lost
  settles : Settling (λ (e : End). Heard t e.streams)
  settles (steps.reset id) e i = by_reset_acked_where (Heard t) heard_kept e.streams e.waiting.frames id (λ h is reset. inl reset) i
  settles (steps.acked m) e i = by_stream_acked_where (Heard t) heard_kept e.streams e.waiting.frames m (λ h is none a. a) (λ h is none all. tt) (λ h all. inr all) i
  settles (steps.lost m) e i = by_stream_lost (Heard t) heard_kept e.streams m (λ h is none a. a) i
  settles s e i = i

  -- any call but a delivery
  pub call_heard : (p : Policy) (wrote : ℕ → Wrote) (e : End) (theirs : List (List ℕ)) (call : Call) (a : Answer) → is_delivery call ≡ false → IsAnswer p e theirs call a → HoldsWritten wrote e.streams → Heard t e.streams → Heard t (after_call p e theirs call a).streams
  call_heard p wrote e theirs call a apart is w i = go (is_on_streams call) refl
    where
      go : (b : Bool) → is_on_streams call ≡ b → Heard t (after_call p e theirs call a).streams
      go true on =
          let c = call_on_is p e theirs call a on in
          subst (Heard t) (sym c.leaves) (call_with Writes heard_calls (is_open e.closing.state) wrote (streams_at e) (record { holds = w; heard = i }) call a (c.answer is)).heard
      go false off = by_call p e theirs (λ (f : End). Heard t f.streams) call a (record {
        same = i;
        on_streams = λ on answer. cc;
        on_messages = λ on answer. i;
        pings = i;
        closes = λ reason f now own. i;
        waits = λ now b set. by_waits (λ (f : End). Heard t f.streams) b (with_closing e (ticked e.closing now)) i i;
        changes_id = λ uses answer. by_next_id (λ (f : End). Heard t f.streams) e a i (λ c. i) (λ c most. i);
        says_handshake = λ says answer. by_done (λ (f : End). Heard t f.streams) e a i i;
        times = λ now expiry set. by_expired p.words e now (λ (f : End). Heard t f.streams) (λ pending tracking timers waits asked runs packets. i) (λ pending timers waits asked runs. losses_keep (λ (x : End). Heard t x.streams) settles (with_closing e (ticked e.closing now)) i) (λ x j. j) expiry;
        polls = λ now set. poll_heard p e now i;
        hears = λ arrival d set. cc;
        tells = λ asks. by_event e (λ (f : End). Heard t f.streams) i i (λ told. by_polled (Heard t) heard_kept e.streams i);
      })

  -- ---- frames

  -- a frame that tells no more than the other holds
  frame_heard : (f : FrameValue) (e : End) → IsTold t f → Heard t e.streams → Heard t (take_frame f e).end.streams
  frame_heard (stream g) e told i = by_stream (Heard t) heard_kept e.streams e.waiting.frames g (λ h a u. tt) i
  frame_heard (reset_stream g) e told i = by_reset_frame (Heard t) heard_kept e.streams e.waiting.frames g (λ h a u. tt) i
  frame_heard (stop_sending g) e told i = by_stop_sending (Heard t) heard_kept e.streams g (λ h a is. is) i
  frame_heard (max_data limit) e told i = let was = i.all in by_max_data_where (Heard t) heard_kept e.streams limit ((omega arith), (omega arith)) i
  frame_heard (max_stream_data g) e told i = by_max_stream_data (Heard t) heard_kept e.streams g.id g.limit (λ h a above is. told) i
  frame_heard (max_streams g) e told i = by_max_streams (Heard t) heard_kept (dir_named g.one_way) g.count e.streams i
  frame_heard (ack a) e told i = acked (names_ungiven a e)
    where
      acked : (b : Bool) → Heard t (ack_taken b a e).end.streams
      acked true = i
      acked false = acked_keeps (λ (x : End). Heard t x.streams) settles (is_above e.numbers.largest_acked a.largest) a (named a e) i
  frame_heard (datagram m) e told i = message_leaves (λ (x : End). Heard t x.streams) m e i (λ left. i)
  frame_heard (new_connection_id g) e told i = apart_leaves (λ (x : End). Heard t x.streams) (new_connection_id g) e tt (λ c. i) (λ c most. i)
  frame_heard (retire_connection_id n) e told i = apart_leaves (λ (x : End). Heard t x.streams) (retire_connection_id n) e tt (λ c. i) (λ c most. i)
  frame_heard (path_response token) e told i = apart_leaves (λ (x : End). Heard t x.streams) (path_response token) e tt (λ c. i) (λ c most. i)
  frame_heard handshake_done e told i = apart_leaves (λ (x : End). Heard t x.streams) handshake_done e tt (λ c. i) (λ c most. i)
  frame_heard (ack_frequency r) e told i = apart_leaves (λ (x : End). Heard t x.streams) (ack_frequency r) e tt (λ c. i) (λ c most. i)
  frame_heard other e told i = i

  -- and several
  pub frames_heard : (fs : List FrameValue) (e : End) → ((f : FrameValue) → In f fs → IsTold t f) → Heard t e.streams → Heard t (passed fs e).end.streams
  frames_heard fs e told i = (frames_leave (λ (left : List FrameValue) (x : End). ((f : FrameValue) → In f left → IsTold t f) × Heard t x.streams) (λ f left x both. ((λ g among. both.0 g (inr among)), frame_heard f x (both.0 f (inl refl)) both.1)) fs e (told, i)).1.1

-- the other lets come no less far later
pub heard_stays : (t u s : StreamsState) → Stays t u → Heard t s → Heard u s
heard_stays t u s stays i =
    let r = stays.receives in
    record {
      halves = record { shape = i.halves.shape; first = λ id q. r.allows q (first_limit s id) (i.halves.first id q); each = λ id. half_follows (λ x. x) (λ h a. r.allows id h.limit a) (λ x. x) (at s.sending.halves.live id) (has_place s.side s.sending.halves.places id) (i.halves.each id) };
      all = (let a = i.all in let b = r.more in omega arith);
    }

-- ---- what was written

-- a stream that is over once a call is answered was so before, or nothing was written on it by the
-- call
over_before : (id : ℕ) (call : Call) (a : Answer) (w : Wrote) → (written_by id call a ≡ []) ⊎ (IsOver (adds id call a w) → IsOver w)
over_before id (calls.Write q bytes) a w = inr (over_same w)
  where
    over_same : (w : Wrote) → ((w.ended || false) ≡ true) ⊎ IsSome (first_of w.reset None) → IsOver w
    over_same w (inl e) = inl (sym (or_false w.ended) ∙ e)
    over_same w (inr e) = inr (subst IsSome (first_none w.reset) e)
over_before id (calls.WriteChunks q chunks) a w = inr (over_same w)
  where
    over_same : (w : Wrote) → ((w.ended || false) ≡ true) ⊎ IsSome (first_of w.reset None) → IsOver w
    over_same w (inl e) = inl (sym (or_false w.ended) ∙ e)
    over_same w (inr e) = inr (subst IsSome (first_none w.reset) e)
over_before id call a w = inl refl

-- so on a stream that is over no byte more was written
pub over_same : (id : ℕ) (call : Call) (a : Answer) (w : Wrote) → Grows w (adds id call a w) → IsOver (adds id call a w) → (adds id call a w).bytes ≡ w.bytes
over_same id call a w g over = elim (over_before id call a w) [
  | inl none ↦ ap (λ (bs : List ℕ). w.bytes ++ bs) none ∙ append-nil w.bytes
  | inr was ↦ g.over (was over)
]

-- what an end wrote on a stream it may bring, where the other lets come what it heard; on one that
-- is over, where it let come what was written before
pub written_allowed : (t s : StreamsState) (w : Wrote) (id : ℕ) → StatusIs (w ≡ nothing_done) (λ h. IsSendHalf w h) (IsOver w) (sending_status s id) → Heard t s → (IsOver w → Allows t id (length w.bytes)) → Allows t id (length w.bytes)
written_allowed t s w id holds i over = go (sending_status s id) refl holds
  where
    none : w ≡ nothing_done → Allows t id (length w.bytes)
    none is = let nothing : length w.bytes ≡ 0 = ap (λ (x : Wrote). length x.bytes) is in allows_less t id (first_limit s id) (length w.bytes) (omega arith) (i.halves.first id id)

    go : (x : Status SendHalf) → sending_status s id ≡ x → StatusIs (w ≡ nothing_done) (λ h. IsSendHalf w h) (IsOver w) x → Allows t id (length w.bytes)
    go unknown is j = none j
    go fresh is j = none j
    go (live h) is j = let here : sending_half s id ≡ Some h = ap (half_of (new_send_half (first_limit s id))) is in allows_less t id h.limit (length w.bytes) j.within (half_heard t s id h here i)
    go done is j = over j
