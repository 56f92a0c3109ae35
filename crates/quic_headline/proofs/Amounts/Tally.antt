-- What an end knows of its limits, of what it accepted and of the pieces that it keeps, as numbers
-- and lists that a run's lists say: each word about its streams that neither writes nor tells a
-- limit keeps it (RFC 9000, sections 4.1, 13.3 and 19.5).
use Rattle.std.proofs.Common.{◌≡◌, ℕ, ◌+◌, ◌-◌, Bool, true, false, not, List, [], ◌∷◌, ◌++◌, Option, Some, None, refl, sym, ap, ◌∙◌, subst, arith, append_assoc, inl, inr}
use Rattle.std.specs.Prelude.{◌&&◌, ◌||◌}
use Rattle.std.specs.Option.{is_some}
use Rattle.std.proofs.lemmas.Bool.{cond_both, cases_lt, lt-leb, le-leb}
use Rattle.quic_wire_core.specs.StreamId.{dir_of}
use Rattle.quic_send_buffer.specs.Buffered.{Buffered, bytes_in, passed, pieces_behind as left_behind, first_unacknowledged, acknowledged, after_ack}
use Rattle.quic_send_buffer.specs.declared.stream_meta.StreamMeta.{StreamMeta}
use Rattle.quic_streams_parts.specs.Dirs.{is_own, is_two_way}
use Rattle.quic_streams_parts.specs.Table.{Table, at}
use Rattle.quic_streams_parts.specs.SendHalf.{SendHalf, Queued, half_acked, reset_now}
use Rattle.quic_streams_halves.specs.Halves.{is_done, has_place}
use Rattle.quic_streams_state.specs.declared.state.StreamsState.{StreamsState}
use Rattle.quic_streams_state.specs.State.{Streams, Sending, sending_half, sending_status, receiving_status, done_if}
use Rattle.quic_streams_state.specs.Writing.{put_queued}
use Rattle.quic_streams_laws.specs.Each.{HalfIs, EachSends, AreOfHalves}
use Rattle.quic_streams_laws.specs.EachLaws.{each_kept, each_with, said_of}
use Rattle.quic_streams_laws.specs.ShapeLaws.{sends_with}
use Rattle.quic_streams_laws.specs.Keeping.{KeepsWhere, KeepsBy, HasEnded, MayAccept}
use Rattle.quic_streams_laws.specs.Keeping as changes
use Rattle.quic_streams_laws.specs.KeepingLaws.{by_open, by_accept, by_finish, by_reset, by_set_priority, by_read_begun, by_next, by_finalize, by_stop, by_received_reset, by_polled, by_stream_lost, by_stream_acked_where, by_reset_acked_where, by_frame}
use Rattle.quic_streams_laws.specs.Written.{Wrote}
use Rattle.quic_machine.specs.declared.run.Call.{Call}
use Rattle.quic_machine.specs.declared.run.Answer.{Answer}
use Rattle.quic_machine.specs.Policy.{Policy}
use Rattle.quic_machine.specs.Calls.{is_open}
use Rattle.quic_machine.specs.StreamCalls.{is_on_streams}
use Rattle.quic_machine.specs.End.{End, streams_at, with_closing}
use Rattle.quic_machine.specs.Tracking.{TrackedPacket}
use Rattle.quic_machine.specs.Acked.{stream_lost}
use Rattle.quic_machine.specs.Poll.{Draft, composed, polled}
use Rattle.quic_machine.specs.DraftLaws.{Writing, by_writing}
use Rattle.quic_machine.specs.Puts as puts
use Rattle.quic_machine.specs.FrameCases.{Settling}
use Rattle.quic_machine.specs.Steps as steps
use Rattle.quic_machine.specs.LeaveCases.{by_expired, by_event}
use Rattle.quic_machine.specs.CallCases.{is_delivery, by_call, by_done}
use Rattle.quic_machine.specs.Machine.{IsAnswer, after_call}
use Rattle.quic_machine.specs.Closing.{ticked}
use Rattle.quic_headline.proofs.Packets.Apart.{by_waits, by_next_id}
use Rattle.quic_streams_laws.specs.QuietLaws.{by_told}
use Rattle.quic_headline.proofs.Packets.Losses.{Losing, expiry_stays}
use Rattle.quic_headline.proofs.Halves.Words.{OtherWords, is_write, other_with}
use Rattle.quic_headline.proofs.Halves.WordsCalls.{call_on_is}
use Rattle.quic_headline.proofs.Amounts.Pieces.{filled, sum_both}
use Rattle.quic_headline.proofs.Packets.Probes.{poll_state}

-- ---- what is tallied

-- how far each stream may come at first, and now; whether it was stopped; the sizes of its pieces;
-- how far all streams may come; how many bytes were accepted; and how many may be buffered
pub record Tally : Type 0 where
  pub first : ℕ → ℕ
  pub limit : ℕ → ℕ
  pub stopped : ℕ → Bool
  pub sizes : ℕ → List ℕ
  pub all : ℕ
  pub accepted : ℕ
  pub window : ℕ

-- a buffer keeps the last of these pieces, and those before them lie below its base
pub record HasPieces (ns : List ℕ) (b : Buffered) : Type 0 where
  pub front : List ℕ
  pub parts : filled ns ≡ front ++ b.pieces
  pub base : bytes_in front ≡ b.base

-- a half
pub record IsTallied (t : Tally) (id : ℕ) (h : SendHalf) : Type 0 where
  pub limit : h.limit ≡ t.limit id
  pub stopped : is_some h.stopped ≡ t.stopped id
  pub pieces : h.reset ≡ None → HasPieces (t.sizes id) h.buffer

-- a stream on which nothing was done
pub record IsFresh (t : Tally) (id : ℕ) : Type 0 where
  pub limit : t.limit id ≡ t.first id
  pub stopped : t.stopped id ≡ false
  pub pieces : filled (t.sizes id) ≡ []

-- the numbers of all streams
pub record HasSums (t : Tally) (s : Sending) : Type 0 where
  pub limit : s.limit ≡ t.all
  pub accepted : s.accepted ≡ t.accepted
  pub window : s.window ≡ t.window

-- the halves
abbrev pub AreTallied : Tally → StreamsState → Type 0
AreTallied t s = EachSends (λ id limit. limit ≡ t.first id) (IsFresh t) (IsTallied t) (λ id. Unit {0}) s

pub record Tallies (t : Tally) (s : StreamsState) : Type 0 where
  pub halves : AreTallied t s
  pub sums : HasSums t s.sending

-- ---- halves

-- the pieces of a buffer once some are acknowledged
passed_split : (ns : List ℕ) (room : ℕ) → (front : List ℕ) × (ns ≡ front ++ left_behind ns room) × (bytes_in front ≡ passed ns room)
passed_split [] room = ([], refl, refl)
passed_split (n ∷ ns) room = elim (cases_lt room n) [
  | inl lt ↦ rw (lt-leb n room lt) ([], refl, refl)
  | inr le ↦ rw (le-leb n room le) (let rest = passed_split ns (room - n) in (n ∷ rest.0, ap (λ (ms : List ℕ). n ∷ ms) rest.1, ap (λ (m : ℕ). n + m) rest.2))
]

acked_pieces : (ns : List ℕ) (b : Buffered) (a z : ℕ) → HasPieces ns b → HasPieces ns (after_ack b a z)
acked_pieces ns b a z i =
    let c : Buffered = acknowledged b a z in
    let split = passed_split b.pieces (first_unacknowledged c - b.base) in
    let both = sum_both i.front split.0 in
    let base = i.base in
    let more = split.2 in
    record {
      front = i.front ++ split.0;
      parts = i.parts ∙ ap (λ (ms : List ℕ). i.front ++ ms) split.1 ∙ sym (append_assoc i.front split.0 (left_behind b.pieces (first_unacknowledged c - b.base)));
      base = omega arith;
    }

module _ (t : Tally) where
  pub tallied_of_halves : AreOfHalves (λ id limit. limit ≡ t.first id) (IsFresh t) (IsTallied t) (λ id. Unit {0})
  tallied_of_halves = record {
    fresh = λ id limit first n. record { limit = first ∙ sym n.limit; stopped = sym n.stopped; pieces = λ none. record { front = []; parts = n.pieces; base = refl } };
    over = λ id h i ended. tt;
    blocked = λ id h b i. record { limit = i.limit; stopped = i.stopped; pieces = i.pieces };
    noted = λ id h said i. record { limit = i.limit; stopped = i.stopped; pieces = i.pieces };
    placed = λ id h p i. record { limit = i.limit; stopped = i.stopped; pieces = i.pieces };
  }

  pub tallied_kept : KeepsBy (λ r id old new. Unit {0}) (λ s id old new. IsTallied t id old → IsTallied t id new) (λ s id n old new. IsTallied t id old → IsTallied t id new) (AreTallied t)
  tallied_kept = each_kept (λ id limit. limit ≡ t.first id) (IsFresh t) (IsTallied t) (λ id. Unit {0}) tallied_of_halves

  -- a half that there is
  pub half_tallied : (s : StreamsState) (id : ℕ) (h : SendHalf) → sending_half s id ≡ Some h → AreTallied t s → IsTallied t id h
  half_tallied s id h e i = said_of (λ id limit. limit ≡ t.first id) (IsFresh t) (IsTallied t) (λ id. Unit {0}) tallied_of_halves s id h e i

  -- ---- small changes

  sums_done : (b : Bool) (id : ℕ) (s : StreamsState) → HasSums t s.sending → HasSums t (done_if b id s).sending
  sums_done true id s i = i
  sums_done false id s i = i

  -- each keeps it that changes no half otherwise, where nothing is written and no limit is raised
  pub tallies_kept : KeepsWhere (λ r id old new. Unit {0}) (λ s id old new. IsTallied t id old → IsTallied t id new) (λ s id n old new. ⊥) (λ s dir. MayAccept s dir) (λ id. Unit {0}) (λ id h. HasEnded h) (λ s limit. ⊥) (Tallies t)
  tallies_kept (changes.raises limit) s never i = absurd never
  tallies_kept (changes.writes id n old new) s (is, never, has) i = absurd never
  tallies_kept (changes.joins id h) s is i = record { halves = tallied_kept (changes.joins id h) s is i.halves; sums = cond_both h.blocked s _ (λ (u : StreamsState). HasSums t u.sending) (λ e. i.sums) (λ e. record { limit = i.sums.limit; accepted = i.sums.accepted; window = i.sums.window }) }
  tallies_kept (changes.ends_sending id h) s (is, over) i = record { halves = tallied_kept (changes.ends_sending id h) s (is, over) i.halves; sums = sums_done (not (is_own s.side id) && is_done (receiving_status s id)) id _ (record { limit = i.sums.limit; accepted = i.sums.accepted; window = i.sums.window }) }
  tallies_kept (changes.ends_receiving id h) s is i = record { halves = tallied_kept (changes.ends_receiving id h) s is i.halves; sums = sums_done (not (is_own s.side id) && (not (is_two_way (dir_of id)) || is_done (sending_status s id))) id _ i.sums }
  tallies_kept c s may i = record { halves = tallied_kept c s may i.halves; sums = record { limit = i.sums.limit; accepted = i.sums.accepted; window = i.sums.window } }

  -- ---- calls

  -- a half that goes on as it was
  pub goes_on : (id : ℕ) (h new : SendHalf) → new.limit ≡ h.limit → new.stopped ≡ h.stopped → new.reset ≡ h.reset → new.buffer.pieces ≡ h.buffer.pieces → new.buffer.base ≡ h.buffer.base → IsTallied t id h → IsTallied t id new
  goes_on id h new limit stopped reset pieces base i = record {
    limit = limit ∙ i.limit;
    stopped = ap is_some stopped ∙ i.stopped;
    pieces = λ none. (let was = i.pieces (sym reset ∙ none) in record { front = was.front; parts = was.parts ∙ ap (λ (ns : List ℕ). was.front ++ ns) (sym pieces); base = was.base ∙ sym base });
  }

  reset_goes : (id : ℕ) (h : SendHalf) → IsTallied t id h → IsTallied t id (reset_now h)
  reset_goes id h i = record { limit = i.limit; stopped = i.stopped; pieces = λ none. cc }

  acked_goes : (id : ℕ) (h : SendHalf) (m : StreamMeta) → IsTallied t id h → IsTallied t id (half_acked h m)
  acked_goes id h m i = record { limit = i.limit; stopped = i.stopped; pieces = λ none. acked_pieces (t.sizes id) h.buffer m.offsets.start m.offsets.end (i.pieces none) }

  -- what an application does but write
  tallies_calls : OtherWords (λ (done : ℕ → Wrote) (s : StreamsState). Tallies t s)
  tallies_calls = record {
    finishes = λ w s id i. by_finish (Tallies t) tallies_kept s id (λ h e ready. goes_on id h _ refl refl refl refl refl) i;
    resets = λ w s p id code i. by_reset (Tallies t) tallies_kept s p id code (λ h e none. reset_goes id h) i;
    opens = λ b dir w s i. by_open (Tallies t) tallies_kept b dir s i;
    accepts = λ dir w s i. by_accept (Tallies t) tallies_kept dir s (λ may. may) i;
    sets_priority = λ w s id priority i. by_set_priority (Tallies t) tallies_kept s id priority (λ h e. goes_on id h _ refl refl refl refl refl) i;
    begins = λ w s id ordered i. by_read_begun (Tallies t) tallies_kept s id ordered (λ h e. tt) i;
    nexts = λ w told s id most i. by_next (Tallies t) tallies_kept told s id most (λ h c e f. tt) i;
    finalizes = λ w s p id i. by_finalize (Tallies t) tallies_kept s p id i;
    stops = λ w s p id code i. by_stop (Tallies t) tallies_kept s p id code (λ h e. tt) i;
    hears_reset = λ w s p id i. by_received_reset (Tallies t) tallies_kept s p id i;
  }

  -- ---- what goes

  composed_tallies : (e : End) → Tallies t e.streams → Tallies t (composed e).end.streams
  composed_tallies e i = by_writing (λ (d : Draft). Tallies t d.end.streams) keep e i
    where
      keep : Writing (λ (d : Draft). Tallies t d.end.streams)
      keep (puts.control kind f) d may j = by_told (Tallies t) tallies_kept f d.end.streams j
      keep (puts.stream id h room) d (found, first, some, is, counts) j = by_frame (Tallies t) tallies_kept d.end.transport.send_fairness d.end.streams id room h found (goes_on id h _ refl refl refl refl refl) j
      keep p d may j = j

  poll_tallies : (p : Policy) (e : End) (now : ℕ) → Tallies t e.streams → Tallies t (polled p e now).end.streams
  poll_tallies p e now i = poll_state (Tallies t) p e now composed_tallies i

  -- a STREAM frame is lost
  lost_tallies : (m : StreamMeta) (e : End) → Tallies t e.streams → Tallies t (stream_lost m e).streams
  lost_tallies m e i = by_stream_lost (Tallies t) tallies_kept e.streams m (λ h is none. goes_on m.id h _ refl refl refl refl refl) i

  losing : (packets : Table TrackedPacket) → Losing packets (λ (s : Streams). Tallies t s.state)
  losing packets = record { lost = λ n p m e among inside i. lost_tallies m e i; again = λ n p e among i. i }

  -- any call that neither writes nor delivers
  pub call_tallies : (p : Policy) (e : End) (theirs : List (List ℕ)) (call : Call) (a : Answer) → is_delivery call ≡ false → is_write call ≡ false → IsAnswer p e theirs call a → Tallies t e.streams → Tallies t (after_call p e theirs call a).streams
  call_tallies p e theirs call a apart quiet is i = go (is_on_streams call) refl
    where
      go : (b : Bool) → is_on_streams call ≡ b → Tallies t (after_call p e theirs call a).streams
      go true on =
          let c = call_on_is p e theirs call a on in
          subst (Tallies t) (sym c.leaves) (other_with (λ (done : ℕ → Wrote) (s : StreamsState). Tallies t s) tallies_calls (is_open e.closing.state) (λ id. record { bytes = []; ended = false; reset = None }) (streams_at e) i call a quiet (c.answer is))
      go false off = by_call p e theirs (λ (f : End). Tallies t f.streams) call a (record {
        same = i;
        on_streams = λ on answer. cc;
        on_messages = λ on answer. i;
        pings = i;
        closes = λ reason f now own. i;
        waits = λ now b set. by_waits (λ (f : End). Tallies t f.streams) b (with_closing e (ticked e.closing now)) i i;
        changes_id = λ uses answer. by_next_id (λ (f : End). Tallies t f.streams) e a i (λ c. i) (λ c most. i);
        says_handshake = λ says answer. by_done (λ (f : End). Tallies t f.streams) e a i i;
        times = λ now expiry set. by_expired p.words e now (λ (f : End). Tallies t f.streams) (λ pending tracking timers waits asked runs packets. i) (λ pending timers waits asked runs. expiry_stays (λ (s : Streams). Tallies t s.state) e now (losing e.tracking.packets) i pending timers waits asked) (λ x j. j) expiry;
        polls = λ now set. poll_tallies p e now i;
        hears = λ arrival d set. cc;
        tells = λ asks. by_event e (λ (f : End). Tallies t f.streams) i i (λ told. by_polled (Tallies t) tallies_kept e.streams i);
      })

  -- ---- an ACK frame

  pub tallies_settle : Settling (λ (e : End). Tallies t e.streams)
  tallies_settle (steps.reset id) e i = by_reset_acked_where (Tallies t) tallies_kept e.streams e.waiting.frames id (λ h is reset. inl reset) i
  tallies_settle (steps.acked m) e i = by_stream_acked_where (Tallies t) tallies_kept e.streams e.waiting.frames m (λ h is none. acked_goes m.id h m) (λ h is none all. tt) (λ h all. inr all) i
  tallies_settle (steps.lost m) e i = lost_tallies m e i
  tallies_settle s e i = i

-- ---- where as much is told

-- of a stream the same is tallied
pub record AlikeAt (t u : Tally) (id : ℕ) : Type 0 where
  pub first : u.first id ≡ t.first id
  pub limit : u.limit id ≡ t.limit id
  pub stopped : u.stopped id ≡ t.stopped id
  pub sizes : filled (u.sizes id) ≡ filled (t.sizes id)

module _ (t u : Tally) where
  pub half_alike : (id : ℕ) (h : SendHalf) → AlikeAt t u id → IsTallied t id h → IsTallied u id h
  half_alike id h a i = record {
    limit = i.limit ∙ sym a.limit;
    stopped = i.stopped ∙ sym a.stopped;
    pieces = λ none. (let was = i.pieces none in record { front = was.front; parts = a.sizes ∙ was.parts; base = was.base });
  }

  pub alike_at : (id : ℕ) → AlikeAt t u id → (o : Option SendHalf) (used : Bool) → HalfIs (IsFresh t id) (IsTallied t id) (Unit {0}) o used → HalfIs (IsFresh u id) (IsTallied u id) (Unit {0}) o used
  alike_at id a (Some h) used i = half_alike id h a i
  alike_at id a None true i = tt
  alike_at id a None false i = record { limit = a.limit ∙ i.limit ∙ sym a.first; stopped = a.stopped ∙ i.stopped; pieces = a.sizes ∙ i.pieces }

  pub halves_alike : (s : StreamsState) → ((id : ℕ) → AlikeAt t u id) → AreTallied t s → AreTallied u s
  halves_alike s a i = record {
    shape = i.shape;
    first = λ id. i.first id ∙ sym (a id).first;
    each = λ id. alike_at id (a id) (at s.sending.halves.live id) (has_place s.side s.sending.halves.places id) (i.each id);
  }

  -- a half has another value, and of the others the same is tallied
  pub put_tallied : (s : StreamsState) (id : ℕ) (old : SendHalf) (q : Queued) → sending_half s id ≡ Some old → ((j : ℕ) → u.first j ≡ t.first j) → ((j : ℕ) → (j ≡ id → ⊥) → AlikeAt t u j) → IsTallied u id q.half → AreTallied t s → AreTallied u (put_queued s id q)
  put_tallied s id old q is first apart now i = record {
    shape = sends_with s id old q is i.shape;
    first = λ j. i.first j ∙ sym (first j);
    each = each_with s.side s.sending.halves id q.half (IsFresh t) (IsFresh u) (IsTallied t) (IsTallied u) (λ j. Unit {0}) (λ j. Unit {0}) i.shape.sending.runs now (λ j o used ne x. alike_at j (apart j ne) o used x) i.each;
  }

  -- where all numbers are the same too
  pub tallies_alike : (s : StreamsState) → ((id : ℕ) → AlikeAt t u id) → u.all ≡ t.all → u.accepted ≡ t.accepted → u.window ≡ t.window → Tallies t s → Tallies u s
  tallies_alike s a all accepted window i = record { halves = halves_alike s a i.halves; sums = record { limit = i.sums.limit ∙ sym all; accepted = i.sums.accepted ∙ sym accepted; window = i.sums.window ∙ sym window } }
