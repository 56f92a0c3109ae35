-- What else an end keeps of what comes is bounded, whatever comes: messages wait within the receive
-- buffer (RFC 9221, section 3), the numbers to acknowledge are 64 runs at most (RFC 9000, section
-- 13.2.3), and the ids of the peer are a window (section 5.1.1).
use Rattle.std.proofs.Common.{◌≡◌, ℕ, suc, ◌≤◌, max, cond, nat_lt, nat_le, Bool, true, false, List, [], ◌∷◌, drop, length, Option, Some, None, Result, Ok, Err, refl, sym, subst, arith}
use Rattle.std.specs.Prelude.{is_ok, if◌then◌else◌}
use Rattle.std.specs.declared.ops.Range.{Range}
use Rattle.std.proofs.lemmas.Bool.{ltb-false}
use Rattle.std.proofs.lemmas.List.Sums.{sum_by-cons}
use Rattle.quic_wire_core.specs.TransportError.{ErrorValue}
use Rattle.quic_wire_core.specs.declared.shared.EcnCodepoint.{EcnCodepoint}
use Rattle.quic_wire_core.specs.declared.stream_id.Side.{Side}
use Rattle.quic_wire.specs.Value.{FrameValue, ack, datagram, new_connection_id, retire_connection_id, path_response, handshake_done, ack_frequency}
use Rattle.quic_parameters.specs.Parameters.{ParameterValues}
use Rattle.quic_config.specs.Transport.{Settings, TransportSettings, transport_of}
use Rattle.quic_sets.specs.Runs.{Run, AreRuns}
use Rattle.quic_recovery_core.specs.PendingAcks.{Pending, most_ack_runs, with_one, but_least, at_most, above, after_insert}
use Rattle.quic_recovery_core.proofs.AckRunSteps.{with_one_runs, with_one_len, but_least_runs, but_least_len, above_runs, above_len}
use Rattle.quic_spaces.specs.Acknowledging.{with_due}
use Rattle.quic_messages.specs.declared.errors.ReceivedError.{ReceivedError}
use Rattle.quic_messages.specs.Messages.{Messages, weight, bytes_of, with_message, received_answer, after_received}
use Rattle.quic_messages.specs.Sending.{send_answer}
use Rattle.quic_messages.proofs.Unread.{bytes_bounded, count_bounded}
use Rattle.quic_ids.specs.CidState.{retirement_answer}
use Rattle.quic_ids.specs.CidQueue.{PeerIds, IsWindow, insert_answer}
use Rattle.quic_ids.specs.declared.cid_queue.InsertError.{InsertError}
use Rattle.quic_ids.specs.declared.cid_queue.InsertError.TheVariants as inserts
use Rattle.quic_ids.proofs.PeerIdLaws.{insert_window, next_window}
use Rattle.quic_paths.specs.Paths.{is_asked}
use Rattle.quic_retransmits.specs.Retransmits.{can_retire}
use Rattle.quic_machine.specs.declared.run.Call.{Call}
use Rattle.quic_machine.specs.declared.run.Call.TheVariants as calls
use Rattle.quic_machine.specs.declared.run.Answer.{Answer}
use Rattle.quic_machine.specs.declared.run.Answer.TheVariants as answers
use Rattle.quic_machine.specs.Arrival.{Arrival}
use Rattle.quic_machine.specs.Parts.{Windows}
use Rattle.quic_machine.specs.Policy.{Policy}
use Rattle.quic_machine.specs.Closing.{ticked}
use Rattle.quic_machine.specs.End.{End, with_closing, closed_by, with_ids, new_end}
use Rattle.quic_machine.specs.Ids.{frame_of, retires_for, retired, retires_for_next, next_used}
use Rattle.quic_machine.specs.IdFrames.{retiring, with_taken_up, issued_if, issues_for, next_id_taken, end_on_next_id}
use Rattle.quic_machine.specs.MessageCalls.{most_message, limits_of, end_on_messages}
use Rattle.quic_machine.specs.Sizes.{without_longer_if, shortened}
use Rattle.quic_machine.specs.Validation.{word_of, validated_if}
use Rattle.quic_machine.specs.Poll.{Draft, Polled, Leaving, whole, alone, probe, closing, nothing, lazied_as, draft_as, polled}
use Rattle.quic_machine.specs.Puts as puts
use Rattle.quic_machine.specs.DraftLaws.{Writing, MayLeave, by_leave}
use Rattle.quic_machine.specs.PollCases.{by_poll, at_poll}
use Rattle.quic_machine.specs.Receive.{is_above, names_ungiven, message_judged, retired_for, id_judged, retirement_judged, take_frame, after_taken, received}
use Rattle.quic_machine.specs.Machine.{after_call}
use Rattle.quic_machine.specs.FrameCases.{Settling, losses_keep, named, ack_taken, acked_keeps}
use Rattle.quic_machine.specs.Steps as steps
use Rattle.quic_machine.specs.LeaveCases.{lost_at, by_expired, by_event}
use Rattle.quic_machine.specs.CallCases.{by_call, by_done}
use Rattle.quic_headline.specs.Keeping.{WaitWithin}
use Rattle.quic_headline.proofs.Packets.Acking.{packet_runs}
use Rattle.quic_headline.proofs.Packets.Apart.{by_frequency, by_heard_done, by_waits}
use Rattle.quic_headline.proofs.Packets.Closes.{by_closes}
use Rattle.quic_headline.proofs.Packets.Probes.{may_leave}
use Rattle.quic_headline.proofs.Alone.Asked.{BringsId, brings_id}
use Rattle.quic_headline.proofs.Alone.Taking.{by_taking}
use Rattle.quic_headline.proofs.Packets.Moving.{moving_keeps}

-- ---- messages

-- none wait at first
none_wait : (o : Option ℕ) → WaitWithin o []
none_wait None = refl
none_wait (Some room) = (omega arith, omega arith)

-- the oldest is received
recv_waits : (o : Option ℕ) (ms : List (List ℕ)) → WaitWithin o ms → WaitWithin o (drop 1 ms)
recv_waits None [] is = refl
recv_waits None (m ∷ ms) is = cc
recv_waits (Some room) [] is = is
recv_waits (Some room) (m ∷ ms) is =
    let all = sum_by-cons (λ (x : List ℕ). length x) m ms in
    let bytes = is.0 in
    let count = is.1 in
    (omega arith, omega arith)

-- one comes
comes_within : (o : Option ℕ) (m : List ℕ) (q : Messages) → WaitWithin o q.incoming → WaitWithin o (after_received o m q).incoming
comes_within None m q is = is
comes_within (Some room) m q is = go (nat_le (length m) room) refl
  where
    taken : Bool → List (List ℕ)
    taken b = (if b then record q { incoming = with_message weight room m q.incoming } else q).incoming

    go : (b : Bool) → nat_le (length m) room ≡ b → WaitWithin (Some room) (if b then record q { incoming = with_message weight room m q.incoming } else q).incoming
    go true fits = (subst (λ (b : Bool). bytes_of length (taken b) ≤ room) fits (bytes_bounded room m q fits), subst (λ (b : Bool). length (taken b) ≤ max room 1) fits (count_bounded room m q fits))
    go false fits = is

-- ---- numbers to acknowledge

-- few maximal runs
pub record AreFewRuns (rs : List Run) : Type 0 where
  pub runs : AreRuns rs
  pub few : length rs ≤ 64

-- one number more
few_with : (rs : List Run) (n : ℕ) → AreFewRuns rs → AreFewRuns (at_most (with_one rs n))
few_with rs n i = go (nat_lt most_ack_runs (length (with_one rs n))) refl
  where
    all : AreRuns (with_one rs n)
    all = with_one_runs 0 n rs (omega arith) i.runs

    more : length (with_one rs n) ≤ suc (length rs)
    more = with_one_len n rs 0 i.runs

    go : (b : Bool) → nat_lt most_ack_runs (length (with_one rs n)) ≡ b → AreFewRuns (cond b (but_least (with_one rs n)) (with_one rs n))
    go true is = record { runs = but_least_runs 0 (with_one rs n) all; few = but_least_len (with_one rs n) 64 (let few = i.few in omega (arith, few, more)) }
    go false is = record { runs = all; few = (let few = ltb-false most_ack_runs (length (with_one rs n)) is in omega arith) }

-- those up to one are acknowledged no more
few_above : (rs : List Run) (n : ℕ) → AreFewRuns rs → AreFewRuns (above rs n)
few_above rs n i = record { runs = above_runs 0 n rs i.runs; few = (let few = i.few in let less = above_len n rs in omega arith) }

-- ---- all of it

module _ (settings : TransportSettings) where
  -- what an end with such a transport keeps: the transport, the messages that wait to be received,
  -- the numbers to acknowledge, and the ids of the peer
  pub record Kept (transport : TransportSettings) (incoming : List (List ℕ)) (rs : List Run) (peer : PeerIds) : Type 0 where
    pub same : transport ≡ settings
    pub messages : WaitWithin settings.datagram_receive_buffer_size incoming
    pub numbers : AreFewRuns rs
    pub ids : IsWindow peer

  abbrev pub KeptAt : End → Type 0
  KeptAt e = Kept e.transport e.messages.queues.incoming e.acknowledging.runs e.ids.peer

  -- messages that are too long to go don't wait to go
  fits : (b : Bool) (e : End) → KeptAt e → KeptAt (shortened b e)
  fits false e i = i
  fits true e i = lasts (most_message e)
    where
      lasts : (o : Option ℕ) → KeptAt (without_longer_if o e)
      lasts None = i
      lasts (Some most) = i

  -- ---- frames

  -- packets that are acknowledged or lost
  settles : Settling KeptAt
  settles (steps.known n) e i = record { same = i.same; messages = i.messages; numbers = few_above e.acknowledging.runs n i.numbers; ids = i.ids }
  settles s e i = i

  frame_kept : (f : FrameValue) (e : End) → BringsId f → KeptAt e → KeptAt (take_frame f e).end
  frame_kept (ack a) e asks i = go (names_ungiven a e)
    where
      go : (b : Bool) → KeptAt (ack_taken b a e).end
      go true = i
      go false = acked_keeps KeptAt settles (is_above e.numbers.largest_acked a.largest) a (named a e) i
  frame_kept (datagram m) e asks i = go (received_answer e.transport.datagram_receive_buffer_size m e.messages.queues)
    where
      go : (r : Result Bool ReceivedError) → KeptAt (message_judged r m e).end
      go (Ok first) = record {
        same = i.same;
        messages = subst (λ (t : TransportSettings). WaitWithin settings.datagram_receive_buffer_size (after_received t.datagram_receive_buffer_size m e.messages.queues).incoming) (sym i.same) (comes_within settings.datagram_receive_buffer_size m e.messages.queues i.messages);
        numbers = i.numbers;
        ids = i.ids;
      }
      go (Err error) = i
  frame_kept (new_connection_id f) e asks i = go (retires_for (insert_answer e.ids.peer (frame_of f)))
    where
      up : KeptAt (with_taken_up f e)
      up = record { same = i.same; messages = i.messages; numbers = i.numbers; ids = insert_window e.ids.peer (frame_of f) asks.0 i.ids }

      retires : (b : Bool) (r : Range ℕ) → KeptAt (retired_for b r f e).end
      retires true r = fits _ (retiring r (with_taken_up f e)) up
      retires false r = up

      go : (r : Result (Option (Range ℕ)) InsertError) → KeptAt (id_judged r f e).end
      go (Ok None) = fits _ (with_taken_up f e) up
      go (Ok (Some r)) = retires (can_retire e.waiting.frames r.start r.end) r
      go (Err inserts.Retired) = i
      go (Err inserts.ExceedsLimit) = i
  frame_kept (retire_connection_id n) e asks i = go (retirement_answer e.ids.own n e.ids.limit)
    where
      issues : (b : Bool) → KeptAt (issued_if b (with_ids e (retired n e.ids)))
      issues true = i
      issues false = i

      go : (r : Result Bool ErrorValue) → KeptAt (retirement_judged r n e).end
      go (Ok more) = issues (issues_for n e)
      go (Err error) = i
  frame_kept (path_response token) e asks i = go (is_asked e.validation.challenge (word_of token))
    where
      go : (b : Bool) → KeptAt (validated_if b e)
      go true = i
      go false = i
  frame_kept handshake_done e asks i = by_heard_done KeptAt e i (λ c. i)
  frame_kept (ack_frequency r) e asks i = by_frequency KeptAt r e (λ threshold reordering frequency. i)
  frame_kept f e asks i = i

  -- a packet whose frames were taken
  taken_kept : (n : ℕ) (asks urged : Bool) (mark : Option EcnCodepoint) (e : End) → KeptAt e → KeptAt (after_taken n asks urged mark e)
  taken_kept n asks urged mark e i =
      let noted : Pending = with_due urged (after_insert e.acknowledging n e.closing.clock) in
      subst (λ (rs : List Run). Kept e.transport e.messages.queues.incoming rs e.ids.peer) (sym (packet_runs noted e.closing.clock n asks e.numbers.opened))
      (record { same = i.same; messages = i.messages; numbers = few_with e.acknowledging.runs n i.numbers; ids = i.ids })

  -- the next id of the peer is used
  next_kept : (e : End) (a : Answer) → KeptAt e → KeptAt (end_on_next_id e a)
  next_kept e (answers.UseNextId (Ok done)) i = taken (retires_for_next e.ids)
    where
      taken : (o : Option (Range ℕ)) → KeptAt (next_id_taken o e)
      taken None = i
      taken (Some r) = fits _ (retiring r (with_ids e (next_used e.ids))) (record { same = i.same; messages = i.messages; numbers = i.numbers; ids = next_window e.ids.peer i.ids })
  next_kept e a i = i

  -- any datagram
  delivery_kept : (p : Policy) (e : End) (arrival : Arrival) (d : List ℕ) → KeptAt e → KeptAt (received p e arrival d).end
  delivery_kept p e arrival d i = by_taking p e arrival d KeptAt (record {
    frame = λ f stands x j. frame_kept f x (brings_id stands.opening.payload f stands.carried) j;
    notes = λ n x j. j;
    begins = λ now n x j. j;
    takes = taken_kept;
    closes = λ reason x j. j;
    drains = λ close x j. j;
    asks_close = λ x j. j;
    exhausts = λ now x j. j;
    draws = λ words x j. j;
    moves = moving_keeps KeptAt (λ m x j. j) next_kept;
  }) i

  -- ---- what goes

  -- an acknowledgement may have become due
  lazied_kept : (leaving : Leaving) (e : End) → KeptAt e → KeptAt (lazied_as leaving e)
  lazied_kept whole e i = i
  lazied_kept alone e i = i
  lazied_kept (probe size) e i = i
  lazied_kept (closing f) e i = i
  lazied_kept (nothing held) e i = i

  draft_kept : (leaving : Leaving) (e : End) → MayLeave leaving e → KeptAt e → KeptAt (draft_as leaving e).end
  draft_kept leaving e due i = by_leave (λ (d : Draft). KeptAt d.end) put_kept leaving e due (lazied_kept leaving e i)
    where
      put_kept : Writing (λ (d : Draft). KeptAt d.end)
      put_kept puts.ack d may j = j
      put_kept p d may j = j

  poll_kept : (p : Policy) (e : End) (now : ℕ) → KeptAt e → KeptAt (polled p e now).end
  poll_kept p e now i = by_poll p e now (λ (q : Polled). KeptAt q.end) (record {
    silent = i;
    failed = i;
    repeats = λ is. by_closes p (with_closing e (ticked e.closing now)) (λ (q : Polled). KeptAt q.end) i (λ f goes. i);
    nothing = λ c. i;
    closes = λ reason c bound. by_closes p (closed_by reason (at_poll e now c)) (λ (q : Polled). KeptAt q.end) i (λ f goes. i);
    gives = λ leaving c left is may ready some. draft_kept leaving (at_poll e now c) (may_leave e now leaving (at_poll e now c) ready) i;
  })

  -- ---- calls

  message_call : (e : End) (call : Call) (a : Answer) → KeptAt e → KeptAt (end_on_messages e call a)
  message_call e (calls.Send message makes_room) (answers.Send (Ok x)) i = go (is_ok (send_answer (limits_of e) makes_room message e.messages.queues))
    where
      go : (b : Bool) → Kept e.transport (if b then record e.messages.queues { outgoing = with_message length (limits_of e).send_buffer_size message e.messages.queues.outgoing } else e.messages.queues).incoming e.acknowledging.runs e.ids.peer
      go true = i
      go false = i
  message_call e (calls.Send message makes_room) a i = i
  message_call e calls.Recv a i = record { same = i.same; messages = recv_waits settings.datagram_receive_buffer_size e.messages.queues.incoming i.messages; numbers = i.numbers; ids = i.ids }
  message_call e call a i = i

  -- any call
  pub call_kept : (p : Policy) (e : End) (theirs : List (List ℕ)) (call : Call) (a : Answer) → KeptAt e → KeptAt (after_call p e theirs call a)
  call_kept p e theirs call a i = by_call p e theirs KeptAt call a (record {
    same = i;
    on_streams = λ on answer. i;
    on_messages = λ on answer. message_call e call a i;
    pings = i;
    closes = λ reason f now own. i;
    waits = λ now b set. by_waits KeptAt b (with_closing e (ticked e.closing now)) i i;
    changes_id = λ uses answer. next_kept e a i;
    says_handshake = λ says answer. by_done KeptAt e a i i;
    times = λ now expiry set. by_expired p.words e now KeptAt
        (λ acks tracking timers waits asked runs packets. subst (λ (rs : List Run). Kept e.transport e.messages.queues.incoming rs e.ids.peer) (sym runs) i)
        (λ acks timers waits asked runs. (
        let lost : KeptAt (lost_at e now) = losses_keep KeptAt settles (with_closing e (ticked e.closing now)) i in
        record { same = lost.same; messages = lost.messages; numbers = subst AreFewRuns (sym runs) i.numbers; ids = lost.ids }))
        (λ x j. j) expiry;
    polls = λ now set. poll_kept p e now i;
    hears = λ arrival d set. delivery_kept p e arrival d i;
    tells = λ asks. by_event e KeptAt i i (λ told. i);
  })

-- ---- at the start

pub kept_first : (settings : Settings) (side : Side) (windows : Windows) (theirs : ParameterValues) (own_id peer_id : List ℕ) (remote now : ℕ) (validated : Bool) (words : ℕ → ℕ) → KeptAt (transport_of settings) (new_end side settings windows theirs own_id peer_id remote now validated words)
kept_first settings side windows theirs own_id peer_id remote now validated words = record { same = refl; messages = none_wait settings.datagram_receive_buffer_size; numbers = record { runs = tt; few = omega arith }; ids = tt }
