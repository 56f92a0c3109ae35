-- What the calls of an application wrote at an end was accepted, within the limit of all its
-- streams.
use Rattle.std.proofs.Common.{◌≡◌, ℕ, zero, suc, ◌+◌, ◌≤◌, Bool, true, false, List, length, take, length-take, Option, Some, None, Result, Ok, Err, refl, sym, subst, inl, inr, arith}
use Rattle.std.specs.Prelude.{◌==◌, ◌&&◌, ◌||◌, not}
use Rattle.std.proofs.lemmas.Bool.{cond_both, eqb-true}
use Rattle.quic_wire.specs.Value.{FrameValue}
use Rattle.quic_send_buffer.specs.Source.{bytes_of}
use Rattle.quic_wire_core.specs.StreamId.{dir_of}
use Rattle.quic_streams_parts.specs.declared.answers.WriteError.{WriteError}
use Rattle.quic_streams_parts.specs.declared.answers.WriteError.TheVariants as write_errors
use Rattle.quic_streams_parts.specs.declared.answers.Written.{Written}
use Rattle.quic_streams_parts.specs.Dirs.{is_own, is_two_way}
use Rattle.quic_streams_parts.specs.Table.{at}
use Rattle.quic_streams_parts.specs.SendHalf.{SendHalf, written_to}
use Rattle.quic_streams_halves.specs.Halves.{is_done, without_half}
use Rattle.quic_retransmits.specs.Retransmits.{Retransmits}
use Rattle.quic_streams_state.specs.declared.state.StreamsState.{StreamsState}
use Rattle.quic_streams_state.specs.State.{sending_half, room, done_if, receiving_status, sending_status, without_send, seen_at}
use Rattle.quic_streams_state.specs.Taking.{joined}
use Rattle.quic_streams_state.specs.Writing.{write_answer, after_write, written_by, accepted_at, chunks_of, write_chunks_answer, after_write_chunks, chunks_written_by, chunks_accepted_at}
use Rattle.quic_streams_laws.specs.Keeping.{KeepsAll, WritesOn}
use Rattle.quic_streams_laws.specs.Keeping as changes
use Rattle.quic_streams_laws.specs.KeepingLaws.{not_taken, by_open, by_write, by_write_chunks, by_finish, by_reset, by_set_priority, by_polled, by_stop_sending, by_max_data, by_max_stream_data, by_max_streams, by_stream_acked, by_stream_lost, by_reset_acked, by_stream_frames, by_accept, by_read_begun, by_next, by_stop, by_received_reset, by_stream, by_reset_frame}
use Rattle.quic_streams_laws.specs.QuietLaws.{by_control_frames}
use Rattle.quic_streams_laws.specs.ContentLaws.{by_next_answer}
use Rattle.quic_streams_laws.specs.Quiet.{IsQuiet, IsSentWithin}
use Rattle.quic_machine.specs.declared.run.Call.{Call}
use Rattle.quic_machine.specs.declared.run.Call.TheVariants as calls
use Rattle.quic_machine.specs.declared.run.Answer.{Answer}
use Rattle.quic_machine.specs.declared.run.Answer.TheVariants as answers
use Rattle.quic_machine.specs.Policy.{Policy}
use Rattle.quic_machine.specs.End.{End}
use Rattle.quic_machine.specs.Calls.{is_open}
use Rattle.quic_machine.specs.Receive.{take_frame}
use Rattle.quic_machine.specs.Machine.{IsAnswer, after_call}
use Rattle.quic_machine.specs.CallCases.{is_delivery}
use Rattle.quic_headline.specs.Runs.{joined as joined_bytes}
use Rattle.quic_headline.proofs.Halves.QuietSteps.{frame_quiet}
use Rattle.quic_headline.proofs.Halves.ReadCalls.{IsKept, call_kept}
use Rattle.quic_headline.specs.Amounts.{amount_by}

-- so many bytes were accepted at least, and no more than the limit of all streams lets come
abbrev pub Accepts : ℕ → StreamsState → Type 0
Accepts c s = (c ≤ s.sending.accepted) × (s.sending.accepted ≤ s.sending.limit)

module _ (c : ℕ) where
  accepts_done : (b : Bool) (id : ℕ) (s : StreamsState) → Accepts c s → Accepts c (done_if b id s)
  accepts_done true id s i = i
  accepts_done false id s i = i

  accepts_joined : (s : StreamsState) (id : ℕ) (h : SendHalf) → Accepts c s → Accepts c (joined s id h)
  accepts_joined s id h i = cond_both h.blocked s _ (Accepts c) (λ e. i) (λ e. i)

  -- each small change keeps it, where what is written is within what is left
  accepts_kept : KeepsAll (λ r id old new. Unit {0}) (λ s id old new. Unit {0}) (λ s id n old new. WritesOn (room s.sending) n old new) (λ s dir. Unit {0}) (λ id. Unit {0}) (Accepts c)
  accepts_kept (changes.raises limit) s may i = (i.0, (let before = i.1 in omega arith))
  accepts_kept (changes.writes id n old new) s (is, on, has) i = (let fits = on.within in let low = i.0 in let high = i.1 in ((omega arith), (omega arith)))
  accepts_kept (changes.joins id h) s may i = accepts_joined s id h i
  accepts_kept (changes.ends_sending id h) s may i = accepts_done (not (is_own s.side id) && is_done (receiving_status s id)) id (without_send s id) i
  accepts_kept (changes.ends_receiving id h) s may i = accepts_done (not (is_own s.side id) && (not (is_two_way (dir_of id)) || is_done (sending_status s id))) id (record s { receiving = record s.receiving { halves = without_half s.receiving.halves id; gone = s.receiving.gone + seen_at (at s.receiving.halves.live id) } }) i
  accepts_kept c s may i = i

  -- so does each word about what an end sends
  accepts_quiet : IsQuiet (Accepts c)
  accepts_quiet = record {
    opens = by_open (Accepts c) accepts_kept;
    writes = λ b s p id bytes bounded i. by_write (Accepts c) accepts_kept b s p id bytes bounded (λ n old new e on. on) i;
    writes_chunks = λ b s p id chunks bounded i. by_write_chunks (Accepts c) accepts_kept b s p id chunks bounded (λ n old new e on. on) i;
    finishes = λ s id i. by_finish (Accepts c) accepts_kept s id (λ h e r. tt) i;
    resets = λ s p id code i. by_reset (Accepts c) accepts_kept s p id code (λ h e r. tt) i;
    sets_priority = λ s id priority i. by_set_priority (Accepts c) accepts_kept s id priority (λ h e. tt) i;
    polls = λ s i. by_polled (Accepts c) accepts_kept s i;
    stop_sending = λ s f i. by_stop_sending (Accepts c) accepts_kept s f (λ h e. tt) i;
    max_data = λ s limit i. by_max_data (Accepts c) accepts_kept s limit i;
    max_stream_data = λ s id limit i. by_max_stream_data (Accepts c) accepts_kept s id limit (λ h e above. tt) i;
    max_streams = λ dir count s i. by_max_streams (Accepts c) accepts_kept dir count s i;
    acked = λ s p m i. by_stream_acked (Accepts c) accepts_kept s p m (λ h e free. tt) (λ h e free all. tt) i;
    lost = λ s m i. by_stream_lost (Accepts c) accepts_kept s m (λ h e free. tt) i;
    reset_acked = λ s p id i. by_reset_acked (Accepts c) accepts_kept s p id i;
    stream_frames = λ fair most d i. by_stream_frames (Accepts c) accepts_kept fair most d (λ s id room h e j. tt) i;
    control_frames = by_control_frames (Accepts c) accepts_kept;
  }

  accepts_calls : IsKept (Accepts c)
  accepts_calls = record {
    quiet = accepts_quiet;
    begun = λ s id ordered i. by_read_begun (Accepts c) accepts_kept s id ordered (λ h e. tt) i;
    next = λ told s id most answer is i. by_next_answer (Accepts c) told s id most answer is (by_next (Accepts c) accepts_kept told s id most (λ h x e f. tt) i) i;
    stop = λ s p id code i. by_stop (Accepts c) accepts_kept s p id code (λ h e. tt) i;
    received_reset = λ s p id i. by_received_reset (Accepts c) accepts_kept s p id i;
  }

  -- a frame that comes
  pub frame_accepts : (f : FrameValue) (e : End) → Accepts c e.streams → Accepts c (take_frame f e).end.streams
  frame_accepts f e i = frame_quiet (Accepts c) accepts_quiet f e (λ g is. by_stream (Accepts c) accepts_kept e.streams e.waiting.frames g (λ h part u. tt) i) (λ g is. by_reset_frame (Accepts c) accepts_kept e.streams e.waiting.frames g (λ h part u. tt) i) i

  -- any call but a delivery
  pub call_accepts : (p : Policy) (e : End) (theirs : List (List ℕ)) → ((id : ℕ) → IsSentWithin e.streams id) → Accepts c e.streams → (call : Call) (a : Answer) → IsAnswer p e theirs call a → is_delivery call ≡ false → Accepts c (after_call p e theirs call a).streams
  call_accepts p e theirs within i call a is apart = call_kept (Accepts c) accepts_calls p e theirs within i call a is apart (λ dir same. by_accept (Accepts c) accepts_kept dir e.streams (λ may. tt) i)

-- ---- what a call writes

-- a call that writes counts what it wrote
abbrev Counts : ℕ → StreamsState → StreamsState → Type 0
Counts m s t = s.sending.accepted + m ≤ t.sending.accepted

half_counts : (o : Option SendHalf) (s : StreamsState) (id len m : ℕ) (bytes : List ℕ) → written_to o (room s.sending) len ≡ Ok m → Counts (length bytes) s (accepted_at o s id bytes)
half_counts None s id len m bytes is = absurd (not_taken write_errors.ClosedStream m is)
half_counts (Some h) s id len m bytes is = cond_both (length bytes == 0) s _ (Counts (length bytes) s) (λ e. (let none : length bytes ≡ 0 = eqb-true (length bytes) 0 e in omega arith)) (λ e. omega arith)

chunks_count : (o : Option SendHalf) (s : StreamsState) (id len m : ℕ) (cs : List (List ℕ)) → written_to o (room s.sending) len ≡ Ok m → Counts m s (chunks_accepted_at o s id m cs)
chunks_count None s id len m cs is = absurd (not_taken write_errors.ClosedStream m is)
chunks_count (Some h) s id len zero cs is = omega arith
chunks_count (Some h) s id len (suc m) cs is = omega arith

-- what an answer says was written
abbrev wrote_so : Result ℕ WriteError → List ℕ → ℕ
wrote_so (Ok m) bytes = length (take m bytes)
wrote_so (Err e) bytes = 0

abbrev wrote_chunks_so : Result Written WriteError → List (List ℕ) → ℕ
wrote_chunks_so (Ok w) cs = length (take w.bytes (joined_bytes cs))
wrote_chunks_so (Err e) cs = 0

write_counts : (b : Bool) (s : StreamsState) (p : Retransmits) (id : ℕ) (bytes : List ℕ) → s.sending.accepted ≤ (after_write b (write_answer b s id (length bytes)) s p id bytes).state.sending.accepted
    → Counts (wrote_so (write_answer b s id (length bytes)) bytes) s (after_write b (write_answer b s id (length bytes)) s p id bytes).state
write_counts false s p id bytes rises = omega arith
write_counts true s p id bytes rises = go (written_to (sending_half s id) (room s.sending) (length bytes)) refl rises
  where
    go : (r : Result ℕ WriteError) → written_to (sending_half s id) (room s.sending) (length bytes) ≡ r → s.sending.accepted ≤ (written_by r s p id bytes).state.sending.accepted → Counts (wrote_so r bytes) s (written_by r s p id bytes).state
    go (Ok m) is rises = half_counts (sending_half s id) s id (length bytes) m (take m bytes) is
    go (Err e) is rises = omega arith

chunks_written_count : (b : Bool) (s : StreamsState) (p : Retransmits) (id : ℕ) (cs : List (List ℕ)) → s.sending.accepted ≤ (after_write_chunks b (write_chunks_answer b s id cs) s p id cs).state.sending.accepted
    → Counts (wrote_chunks_so (write_chunks_answer b s id cs) cs) s (after_write_chunks b (write_chunks_answer b s id cs) s p id cs).state
chunks_written_count false s p id cs rises = omega arith
chunks_written_count true s p id cs rises = go (written_to (sending_half s id) (room s.sending) (bytes_of cs)) refl rises
  where
    go : (r : Result ℕ WriteError) → written_to (sending_half s id) (room s.sending) (bytes_of cs) ≡ r → s.sending.accepted ≤ (chunks_written_by (chunks_of r cs) s p id cs).state.sending.accepted → Counts (wrote_chunks_so (chunks_of r cs) cs) s (chunks_written_by (chunks_of r cs) s p id cs).state
    go (Ok m) is rises =
        let few = length-take m (joined_bytes cs) in
        let all = chunks_count (sending_half s id) s id (bytes_of cs) m cs is in
        omega arith
    go (Err e) is rises = omega arith

amount_write : (id : ℕ) (bytes : List ℕ) (r : Result ℕ WriteError) → amount_by (calls.Write id bytes) (answers.Write r) ≡ wrote_so r bytes
amount_write id bytes (Ok m) = refl
amount_write id bytes (Err e) = refl

-- any call but a delivery counts what it wrote
module _ (p : Policy) (e : End) (theirs : List (List ℕ)) (within : (id : ℕ) → IsSentWithin e.streams id) (high : e.streams.sending.accepted ≤ e.streams.sending.limit) where
  -- what was accepted doesn't fall
  rises : (call : Call) (a : Answer) → IsAnswer p e theirs call a → is_delivery call ≡ false → e.streams.sending.accepted ≤ (after_call p e theirs call a).streams.sending.accepted
  rises call a is apart = (call_accepts e.streams.sending.accepted p e theirs within ((omega arith), high) call a is apart).0

  abbrev Goes : Call → Answer → Type 0
  Goes call a = e.streams.sending.accepted ≤ (after_call p e theirs call a).streams.sending.accepted → Counts (amount_by call a) e.streams (after_call p e theirs call a).streams

  write_goes : (id : ℕ) (bytes : List ℕ) (a : Answer) → IsAnswer p e theirs (calls.Write id bytes) a → Goes (calls.Write id bytes) a
  write_goes id bytes a (inl is) =
      let b = is_open e.closing.state in
      let r = write_answer b e.streams id (length bytes) in
      subst (Goes (calls.Write id bytes)) (sym is) (λ up. (let all = write_counts b e.streams e.waiting.frames id bytes up in let same = amount_write id bytes r in omega arith))
  write_goes id bytes a (inr is) = subst (Goes (calls.Write id bytes)) (sym is) (λ up. omega arith)

  pub call_counts : (call : Call) (a : Answer) → IsAnswer p e theirs call a → is_delivery call ≡ false → Counts (amount_by call a) e.streams (after_call p e theirs call a).streams
  call_counts (calls.Write id bytes) a is apart = write_goes id bytes a is (rises (calls.Write id bytes) a is apart)
  call_counts (calls.WriteChunks id chunks) a is apart = go a is (rises (calls.WriteChunks id chunks) a is apart)
    where
      amount : (r : Result Written WriteError) → amount_by (calls.WriteChunks id chunks) (answers.WriteChunks r) ≡ wrote_chunks_so r chunks.items
      amount (Ok w) = refl
      amount (Err e) = refl

      go : (a : Answer) → IsAnswer p e theirs (calls.WriteChunks id chunks) a → Goes (calls.WriteChunks id chunks) a
      go a (inl is) =
          let b = is_open e.closing.state in
          let r = write_chunks_answer b e.streams id chunks.items in
          subst (Goes (calls.WriteChunks id chunks)) (sym is) (λ up. (let all = chunks_written_count b e.streams e.waiting.frames id chunks.items up in let same = amount r in omega arith))
      go a (inr is) = subst (Goes (calls.WriteChunks id chunks)) (sym is) (λ up. omega arith)
  call_counts call a is apart = (let up = rises call a is apart in omega arith)
