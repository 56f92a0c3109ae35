-- The limit on all streams that the peer told is below 2^62, as each number of a frame is (RFC
-- 9000, sections 16 and 19.9).
use Rattle.std.proofs.Common.{ℕ, zero, suc, ◌<◌, ◌^◌, Bool, true, false, not, ◌&&◌, ◌==◌, List, [], length, take, Option, None, Some, Result, Ok, Err, refl, sym, subst, inl, inr, arith}
use Rattle.std.specs.Prelude.{if◌then◌else◌}
use Rattle.quic_wire.specs.Value.{FrameValue, AckValue}
use Rattle.quic_streams_parts.specs.declared.answers.WriteError.{WriteError}
use Rattle.quic_streams_parts.specs.declared.answers.WriteError.TheVariants as write_errors
use Rattle.quic_streams_parts.specs.declared.answers.Written.{Written}
use Rattle.quic_streams_parts.specs.Dirs.{is_own}
use Rattle.quic_streams_parts.specs.SendHalf.{SendHalf, was_said}
use Rattle.quic_streams_halves.specs.Halves.{is_done}
use Rattle.quic_retransmits.specs.Retransmits.{Retransmits}
use Rattle.quic_streams_state.specs.declared.state.StreamsState.{StreamsState}
use Rattle.quic_streams_state.specs.State.{Streams, room, sending_half, receiving_status, done_if, without_send}
use Rattle.quic_streams_state.specs.Taking.{joined}
use Rattle.quic_streams_state.specs.Writing.{write_answer, grown_by, accepted_at, blocked_by_all, blocked_by_own, blocked_at, written_by, after_write, write_chunks_answer, chunks_accepted_at, after_write_chunks}
use Rattle.quic_streams_laws.specs.Written.{Wrote}
use Rattle.quic_streams_laws.specs.Keeping.{KeepsWhere}
use Rattle.quic_streams_laws.specs.Keeping as changes
use Rattle.quic_streams_laws.specs.KeepingLaws.{by_open, by_accept, by_max_streams, by_finish, by_reset, by_set_priority, by_stop_sending, by_max_data_where, by_max_stream_data, by_stream, by_reset_frame, by_read_begun, by_next, by_finalize, by_stop, by_received_reset, by_reset_acked_where, by_stream_lost, by_stream_acked_where, by_polled, by_frame}
use Rattle.quic_machine.specs.declared.run.Call.{Call}
use Rattle.quic_machine.specs.declared.run.Answer.{Answer}
use Rattle.quic_machine.specs.End.{End}
use Rattle.quic_machine.specs.Receive.{Progress, is_above, names_ungiven, take_frame, Outcome}
use Rattle.quic_machine.specs.FrameCases.{Settling, named, ack_taken, acked_keeps, begun, passed, frames_leave, apart_leaves}
use Rattle.quic_machine.specs.Steps as steps
use Rattle.quic_headline.specs.Runs.{In, Intake}
use Rattle.quic_headline.proofs.Packets.Invariant.{IsSent}
use Rattle.quic_headline.proofs.Packets.Growth.{step_of}
use Rattle.quic_headline.proofs.Packets.Delivered.{Arrivals, frames_at, among_at}
use Rattle.quic_headline.proofs.Packets.Named.{by_frame as by_kind}
use Rattle.quic_streams_laws.specs.QuietLaws.{by_told}
use Rattle.quic_headline.proofs.Packets.Group.{PacketsHold, meets}
use Rattle.quic_headline.proofs.Places.Parties.{Party, called, came_to}
use Rattle.quic_headline.proofs.Places.Groups.{Before, Early}
use Rattle.quic_headline.proofs.Places.Coming.{by_coming}
use Rattle.quic_headline.proofs.Halves.Small.{IsSmallLimit, payload_small}
use Rattle.quic_headline.proofs.Halves.Words.{Words, frame_on}
use Rattle.quic_headline.proofs.Halves.WordsCalls.{call_keeps}
use Rattle.quic_headline.proofs.Halves.Moved.{streams_stay}

-- the limit is small
abbrev pub HasSmallLimit : StreamsState → Type 0
HasSmallLimit s = s.sending.limit < 2 ^ 62

-- so it is of one of two
small_if : (b : Bool) (x y : StreamsState) → HasSmallLimit x → HasSmallLimit y → HasSmallLimit (if b then x else y)
small_if true x y i j = i
small_if false x y i j = j

small_both : (b : Bool) (x y : Streams) → HasSmallLimit x.state → HasSmallLimit y.state → HasSmallLimit (if b then x else y).state
small_both true x y i j = i
small_both false x y i j = j

-- what changes no limit keeps it
small_done : (b : Bool) (id : ℕ) (s : StreamsState) → HasSmallLimit s → HasSmallLimit (done_if b id s)
small_done true id s i = i
small_done false id s i = i

small_joined : (s : StreamsState) (id : ℕ) (h : SendHalf) → HasSmallLimit s → HasSmallLimit (joined s id h)
small_joined s id h i = small_if h.blocked s _ i i

-- each small change does, where a limit on all streams is small
small_kept : KeepsWhere (λ r id old new. Unit {0}) (λ s id old new. Unit {0}) (λ s id n old new. Unit {0}) (λ s dir. Unit {0}) (λ id. Unit {0}) (λ id h. Unit {0}) (λ s limit. limit < 2 ^ 62) HasSmallLimit
small_kept (changes.raises limit) s small i = small
small_kept (changes.joins id h) s may i = small_joined s id h i
small_kept (changes.ends_sending id h) s may i = small_done (not (is_own s.side id) && is_done (receiving_status s id)) id (without_send s id) i
small_kept (changes.ends_receiving id h) s may i = small_done _ id _ i
small_kept c s may i = i

-- ---- writes

small_blocked : (o : Option SendHalf) (s : StreamsState) (p : Retransmits) (id : ℕ) → HasSmallLimit s → HasSmallLimit (blocked_at o s p id).state
small_blocked None s p id i = i
small_blocked (Some h) s p id i = small_both (room s.sending == 0) (blocked_by_all s p id h) (blocked_by_own s p id h) (small_joined s id h i) (small_both (was_said h.said h.limit) _ _ i i)

small_accepted : (o : Option SendHalf) (s : StreamsState) (id : ℕ) (bytes : List ℕ) → HasSmallLimit s → HasSmallLimit (accepted_at o s id bytes)
small_accepted None s id bytes i = i
small_accepted (Some h) s id bytes i = small_if (length bytes == 0) s (grown_by h s id bytes) i i

small_written : (r : Result ℕ WriteError) (s : StreamsState) (p : Retransmits) (id : ℕ) (bytes : List ℕ) → HasSmallLimit s → HasSmallLimit (written_by r s p id bytes).state
small_written (Ok n) s p id bytes i = small_accepted (sending_half s id) s id (take n bytes) i
small_written (Err write_errors.Blocked) s p id bytes i = small_blocked (sending_half s id) s p id i
small_written (Err (write_errors.Stopped code)) s p id bytes i = i
small_written (Err write_errors.ClosedStream) s p id bytes i = i
small_written (Err write_errors.Memory) s p id bytes i = i

small_write : (b : Bool) (r : Result ℕ WriteError) (s : StreamsState) (p : Retransmits) (id : ℕ) (bytes : List ℕ) → HasSmallLimit s → HasSmallLimit (after_write b r s p id bytes).state
small_write true r s p id bytes i = small_written r s p id bytes i
small_write false r s p id bytes i = i

small_chunks_accepted : (o : Option SendHalf) (s : StreamsState) (id n : ℕ) (cs : List (List ℕ)) → HasSmallLimit s → HasSmallLimit (chunks_accepted_at o s id n cs)
small_chunks_accepted None s id n cs i = i
small_chunks_accepted (Some h) s id zero cs i = i
small_chunks_accepted (Some h) s id (suc n) cs i = i

small_chunks : (b : Bool) (r : Result Written WriteError) (s : StreamsState) (p : Retransmits) (id : ℕ) (cs : List (List ℕ)) → HasSmallLimit s → HasSmallLimit (after_write_chunks b r s p id cs).state
small_chunks true (Ok w) s p id cs i = small_chunks_accepted (sending_half s id) s id w.bytes cs i
small_chunks true (Err e) s p id cs i = small_written (Err e) s p id [] i
small_chunks false r s p id cs i = i

-- ---- all words

-- each word keeps it, where MAX_DATA tells a small limit
pub small_words : Words (λ done s. HasSmallLimit s)
small_words = record {
  writes = λ b w s p id bytes i. small_write b (write_answer b s id (length bytes)) s p id bytes i;
  writes_chunks = λ b w s p id chunks i. small_chunks b (write_chunks_answer b s id chunks) s p id chunks i;
  finishes = λ w s id i. by_finish HasSmallLimit small_kept s id (λ h e ready. tt) i;
  resets = λ w s p id code i. by_reset HasSmallLimit small_kept s p id code (λ h e free. tt) i;
  opens = λ b dir w s i. by_open HasSmallLimit small_kept b dir s i;
  accepts = λ dir w s i. by_accept HasSmallLimit small_kept dir s (λ may. tt) i;
  sets_priority = λ w s id priority i. by_set_priority HasSmallLimit small_kept s id priority (λ h e. tt) i;
  begins = λ w s id ordered i. by_read_begun HasSmallLimit small_kept s id ordered (λ h e. tt) i;
  nexts = λ w told s id most i. by_next HasSmallLimit small_kept told s id most (λ h c e is. tt) i;
  finalizes = λ w s p id i. by_finalize HasSmallLimit small_kept s p id i;
  stops = λ w s p id code i. by_stop HasSmallLimit small_kept s p id code (λ h e. tt) i;
  hears_reset = λ w s p id i. by_received_reset HasSmallLimit small_kept s p id i;
  polls = λ w s i. by_polled HasSmallLimit small_kept s i;
  stream = λ w s p f i. by_stream HasSmallLimit small_kept s p f (λ h e u. tt) i;
  reset_frame = λ w s p f i. by_reset_frame HasSmallLimit small_kept s p f (λ h e u. tt) i;
  stop_sending = λ w s f i. by_stop_sending HasSmallLimit small_kept s f (λ h e. tt) i;
  max_data = λ w s limit small i. by_max_data_where HasSmallLimit small_kept s limit (omega arith) i;
  max_stream_data = λ w s id limit small i. by_max_stream_data HasSmallLimit small_kept s id limit (λ h e above. tt) i;
  max_streams = λ dir count w s i. by_max_streams HasSmallLimit small_kept dir count s i;
  lost = λ w s m last i. by_stream_lost HasSmallLimit small_kept s m (λ h e none. tt) i;
  sends = λ fair w s id h room is i. by_frame HasSmallLimit small_kept fair s id room h is tt i;
  tells = λ f w s i. by_told HasSmallLimit small_kept f s i;
}

-- ---- a delivery

-- the limit of an end is small
abbrev SmallAt : End → Type 0
SmallAt e = HasSmallLimit e.streams

-- something was done of all streams that a lost frame may speak of
abbrev pub ended_all : ℕ → Wrote
ended_all id = record { bytes = []; ended = true; reset = None }

-- an ACK frame
settling : Settling SmallAt
settling (steps.reset id) e i = by_reset_acked_where HasSmallLimit small_kept e.streams e.waiting.frames id (λ h is reset. tt) i
settling (steps.acked m) e i = by_stream_acked_where HasSmallLimit small_kept e.streams e.waiting.frames m (λ h is none. tt) (λ h is none all. tt) (λ h all. tt) i
settling (steps.lost m) e i = small_words.lost ended_all e.streams m (λ fin. refl) i
settling s e i = i

-- a frame with a small limit
pub small_frame : (f : FrameValue) (e : End) → IsSmallLimit f → SmallAt e → SmallAt (take_frame f e).end
small_frame f e small i = by_kind f e (λ (g : FrameValue) (r : Progress). SmallAt r.end) (λ a is. ack_case (names_ungiven a e) a) (λ apart on. frame_on (λ done s. HasSmallLimit s) small_words ended_all f e on small i) (λ apart m same. subst SmallAt (sym same) i) (λ unack apart. apart_leaves SmallAt f e apart (λ c. i) (λ c most. i))
  where
    ack_case : (b : Bool) (a : AckValue) → SmallAt (ack_taken b a e).end
    ack_case true a = i
    ack_case false a = acked_keeps SmallAt settling (is_above e.numbers.largest_acked a.largest) a (named a e) i

-- several
small_frames : (fs : List FrameValue) (e : End) → ((f : FrameValue) → In f fs → IsSmallLimit f) → SmallAt e → SmallAt (passed fs e).end
small_frames fs e small i = (frames_leave (λ (left : List FrameValue) (x : End). ((f : FrameValue) → In f left → IsSmallLimit f) × SmallAt x) (λ f left x both. (λ g among. both.0 g (inr among), small_frame f x (both.0 f (inl refl)) both.1)) fs e (small, i)).1.1

-- each case of a delivery
small_arrivals : (e : End) (now n : ℕ) (frames taken : List FrameValue) (came : Intake) → ((f : FrameValue) → In f taken → IsSmallLimit f) → SmallAt e → Arrivals e now n frames taken came (λ (o : Outcome) (j : Intake). SmallAt o.end)
small_arrivals e now n frames taken came small i = record {
  ignored = λ reason. i;
  noted = λ state reason. i;
  takes = λ words state new none urged mark. small_frames taken (begun e now n) small i;
  moves = λ p o same remote x opened j. streams_stay HasSmallLimit p o remote x j;
  drains = λ words state new close is. small_frames taken (begun e now n) small i;
  refuses = λ words state new f is. small_frames taken (begun e now n) small i;
  exhausts = λ state. i;
}

-- ---- the group

-- the limit that x was told on all its streams is small
pub record KnowsLimit (x y : Party) : Type 0 where
  pub small : HasSmallLimit x.end.streams

limit_step : (x y : Party) (call : Call) (a : Answer) → Before PacketsHold x y call a → KnowsLimit x y → KnowsLimit (called x y.given call a) y
limit_step x y call a c i = record {
  small = by_coming x y a c.joined c.served (meets y x c.takes) (λ (e : End) (j : Intake). SmallAt e) call c.answer (record {
    apart = λ apart. call_keeps (λ done s. HasSmallLimit s) small_words x.policy ended_all x.end y.given call a apart c.answer (λ n t among m inside fin. refl) i.small;
    none = λ delivery is. i.small;
    comes = λ delivery is s among here. (
        let spelled = step_of (IsSent y.policy) y.sents y.given s c.takes.gives.each among in
        small_arrivals x.end delivery.now s.number s.frames (frames_at here s.frames) (came_to x y) (among_at IsSmallLimit tt here s.frames (payload_small s.frames spelled.1.payload spelled.1.spells)) i.small);
  });
}

-- over the packets between both ends, before a call
pub limit_group : Early PacketsHold KnowsLimit
limit_group = record {
  first = λ x y m. record { small = m.y_is.range.receive_window };
  writer = λ x y call a c i back. limit_step x y call a c i;
  reader = λ x y call a c i back. record { small = back.small };
  shows = λ x y here there i. record { small = i.small };
}
