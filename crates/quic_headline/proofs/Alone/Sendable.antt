-- What an end has to send may go, whatever its peer sends: its streams hold what was written on
-- them, and what waits beside their bytes, or is under way, has a form.
use Rattle.std.proofs.Common.{◌≡◌, ℕ, Bool, true, false, List, [], ◌++◌, Result, Ok, Err, refl, sym, ap, subst, inl, inr, arith}
use Rattle.quic_wire_core.specs.declared.stream_id.Side.{Side}
use Rattle.quic_wire.specs.Value.{FrameValue, AckValue}
use Rattle.quic_parameters.specs.Parameters.{ParameterValues}
use Rattle.quic_parameters.specs.ParametersRead.{parameters_at}
use Rattle.quic_parameters.specs.declared.transport_parameters.id.TransportParameterId.TheVariants.{InitialMaxData, InitialMaxStreamDataBidiLocal, InitialMaxStreamDataBidiRemote, InitialMaxStreamDataUni}
use Rattle.quic_parameters.specs.declared.transport_parameters.error.TransportParametersError.{TransportParametersError}
use Rattle.quic_config.specs.Transport.{Settings}
use Rattle.quic_congestion.specs.Pacer.{Pacing}
use Rattle.quic_streams_parts.specs.Table.{Table}
use Rattle.quic_streams_state.specs.State.{Streams}
use Rattle.quic_streams_laws.specs.GoesLaws.{Holding}
use Rattle.quic_streams_laws.specs.Written.{Wrote, Grows, HasSmallLimits, nothing_done}
use Rattle.quic_machine.specs.declared.run.Call.{Call}
use Rattle.quic_machine.specs.declared.run.Call.TheVariants as calls
use Rattle.quic_machine.specs.declared.run.Answer.{Answer}
use Rattle.quic_machine.specs.Arrival.{Arrival}
use Rattle.quic_machine.specs.Policy.{Policy}
use Rattle.quic_machine.specs.Control.{with_pacing}
use Rattle.quic_machine.specs.Validation.{with_blocked}
use Rattle.quic_machine.specs.Parts.{Windows}
use Rattle.quic_machine.specs.Closing.{close_asked}
use Rattle.quic_machine.specs.Tracking.{TrackedPacket, acked_by}
use Rattle.quic_machine.specs.IdFrames.{drawn, end_on_next_id}
use Rattle.quic_machine.specs.End.{End, IsMade, new_end, streams_at, closed_by, with_closing, with_numbers, with_window}
use Rattle.quic_spaces.specs.Numbers.{number_opened}
use Rattle.quic_machine.specs.Receive.{Progress, is_above, names_ungiven, take_frame, after_taken, drained_at, exhausted, received}
use Rattle.quic_machine.specs.FrameCases.{named, ack_taken, begun, apart_leaves}
use Rattle.quic_machine.specs.StreamCalls.{is_on_streams}
use Rattle.quic_machine.specs.PollCases.{ready_at}
use Rattle.quic_machine.specs.CallCases.{is_delivery}
use Rattle.quic_machine.specs.Machine.{IsAnswer, after_call, gave, fails}
use Rattle.quic_headline.specs.Runs.{In, names}
use Rattle.quic_headline.specs.Observer.{Sent}
use Rattle.quic_headline.specs.Headline.{CodeIsSmall}
use Rattle.quic_headline.specs.Alone.{IsNew}
use Rattle.quic_headline.proofs.Packets.Invariant.{AreTracked}
use Rattle.quic_headline.proofs.Packets.Apart.{by_next_id}
use Rattle.quic_headline.proofs.Packets.Named.{IsCarriedBy, CarryIf, in_filter, tracked_carried, named_on, frame_fewer, by_frame}
use Rattle.quic_headline.proofs.Packets.Ascending.{Ascends, ascends_call, ascends_received}
use Rattle.quic_headline.proofs.Packets.TrackedSteps.{tracked_step}
use Rattle.quic_headline.proofs.Packets.Owing.{Owes, sent_fine}
use Rattle.quic_headline.proofs.Packets.Probes.{ready_state}
use Rattle.quic_headline.proofs.Packets.MayGo.{MayGo}
use Rattle.quic_headline.proofs.Places.Told.{in_append}
use Rattle.quic_headline.proofs.Places.Steps.{poll_answer}
use Rattle.quic_headline.proofs.Places.Parties.{sent_by, sent_if, sents_by}
use Rattle.quic_headline.proofs.Halves.Counts.{read_in_range, counts_in_range}
use Rattle.quic_headline.proofs.Halves.Ghosts.{SaysOf}
use Rattle.quic_headline.proofs.Halves.Wrote.{done_by}
use Rattle.quic_headline.proofs.Halves.Says.{CarriedSays, SentSay, says_grow, sent_says, tracked_says}
use Rattle.quic_headline.proofs.Halves.Writes.{Writes}
use Rattle.quic_headline.proofs.Halves.Writer.{poll_says, call_writes, call_grows, first_keeping}
use Rattle.quic_headline.proofs.Halves.Arrives.{frame_leaves, settles_by}
use Rattle.quic_headline.proofs.Halves.KnownIds.{AreWritten, frame_written, next_id_written, call_written}
use Rattle.quic_headline.proofs.Halves.PileSteps.{HoldsAll, again_all, one_holds, next_holds, drawn_holds}
use Rattle.quic_headline.proofs.Halves.PileCalls.{step_holds}
use Rattle.quic_headline.proofs.Halves.PilePolls.{ready_holds}
use Rattle.quic_headline.proofs.Halves.Ready.{waits_of, first_holds}
use Rattle.quic_headline.proofs.Halves.DataLimit.{HasSmallLimit, small_words, small_frame, ended_all}
use Rattle.quic_headline.proofs.Halves.WordsCalls.{call_keeps}
use Rattle.quic_headline.proofs.Alone.Taking.{by_taking}
use Rattle.quic_headline.proofs.Alone.Numbers.{AreSmall, brings_small}
use Rattle.quic_headline.proofs.Packets.Moving.{with_on_path, moving_keeps}

-- what an end holds, on whose streams this was done, and which sent this
record Held (done : ℕ → Wrote) (sents : List Sent) (e : End) : Type 0 where
  -- its streams hold what was written on them, and what waits says how they were reset
  writes : Writes done (streams_at e)
  -- what is tracked was sent
  tracked : AreTracked sents e.tracking.packets
  -- RESET_STREAM and STOP_SENDING that wait or are under way are a pile, and the numbers of the ids
  -- that it knows of its peer can be written
  all : HoldsAll e
  peer : AreWritten e.ids.peer
  limit : HasSmallLimit e.streams

-- What it sent says what was done.
pub record Sendable (e : End) : Type 0 where
  done : ℕ → Wrote
  sents : List Sent
  says : SentSay done sents
  held : Held done sents e
  ascends : Ascends e

-- ---- a datagram

module _ (done : ℕ → Wrote) (sents : List Sent) (says : SentSay done sents) where
  -- what an ACK frame acknowledges, and what is lost, says what was written
  ack_writes : (b : Bool) (a : AckValue) (e : End) → Held done sents e → Writes done (streams_at (ack_taken b a e).end)
  ack_writes true a e h = h.writes
  ack_writes false a e h =
      let carried : CarryIf (IsCarriedBy sents) e.tracking.packets = tracked_carried sents e.tracking.packets h.tracked in
      named_on (IsCarriedBy sents) (IsCarriedBy sents) (λ (x : End). Writes done (streams_at x)) (settles_by done (IsCarriedBy sents) (IsCarriedBy sents) (sent_says done sents says) (sent_says done sents says)) (acked_by a e.tracking.packets) (is_above e.numbers.largest_acked a.largest) a (named a e)
      (λ n t i. carried n t (in_filter (λ p. names a p.0) (n, t) e.tracking.packets i)) carried h.writes

  -- any frame that is small leaves it
  frame_writes : (f : FrameValue) (e : End) → AreSmall f → Held done sents e → Writes done (streams_at (take_frame f e).end)
  frame_writes f e small h =
      by_frame f e (λ (g : FrameValue) (r : Progress). Writes done (streams_at r.end)) (λ a is. ack_writes (names_ungiven a e) a e h)
      (λ other on. frame_leaves done e h.writes f on small.0)
      (λ other m same. subst (λ (x : End). Writes done (streams_at x)) (sym same) (let w = h.writes in record { keeps = w.keeps; waits = w.waits }))
      (λ other apart. (let w = h.writes in apart_leaves (λ (x : End). Writes done (streams_at x)) f e apart (λ c. record { keeps = w.keeps; waits = w.waits }) (λ c most. record { keeps = w.keeps; waits = w.waits })))

  frame_held : (f : FrameValue) (e : End) → AreSmall f → Held done sents e → Held done sents (take_frame f e).end
  frame_held f e small h = record {
    writes = frame_writes f e small h;
    tracked = λ n t i. h.tracked n t (frame_fewer e f e (λ m u j. j) n t i);
    all = one_holds f e small.1 h.peer h.all;
    peer = frame_written f e small.1 h.peer;
    limit = small_frame f e small.0 h.limit;
  }

  -- another end with the same of all this
  same_held : (x y : End) → streams_at y ≡ streams_at x → y.tracking.packets ≡ x.tracking.packets → y.ids.peer ≡ x.ids.peer → Held done sents x → Held done sents y
  same_held x y streams packets peer h = record {
    writes = subst (Writes done) (sym streams) h.writes;
    tracked = subst (λ (ps : Table TrackedPacket). AreTracked sents ps) (sym packets) h.tracked;
    all = again_all x y (ap (λ (t : Streams). t.state) streams) (ap (λ (t : Streams). t.pending) streams) packets h.all;
    peer = subst AreWritten (sym peer) h.peer;
    limit = subst HasSmallLimit (sym (ap (λ (t : Streams). t.state) streams)) h.limit;
  }

  drawn_held : (words : ℕ → ℕ) (x : End) → Held done sents x → Held done sents (drawn words x)
  drawn_held words x h = record { writes = (let w = h.writes in record { keeps = w.keeps; waits = w.waits }); tracked = h.tracked; all = drawn_holds words x h.all; peer = h.peer; limit = h.limit }

  -- and so does the next id of the peer
  next_held : (x : End) (a : Answer) → Held done sents x → Held done sents (end_on_next_id x a)
  next_held x a h = record {
    writes = (let w = h.writes in by_next_id (λ (y : End). Writes done (streams_at y)) x a w (λ c. record { keeps = w.keeps; waits = w.waits }) (λ c most. record { keeps = w.keeps; waits = w.waits }));
    tracked = by_next_id (λ (y : End). AreTracked sents y.tracking.packets) x a h.tracked (λ c. h.tracked) (λ c most. h.tracked);
    all = next_holds x a h.peer h.all;
    peer = next_id_written x a h.peer;
    limit = by_next_id (λ (y : End). HasSmallLimit y.streams) x a h.limit (λ c. h.limit) (λ c most. h.limit);
  }

  -- so does any datagram
  received_held : (p : Policy) (e : End) (arrival : Arrival) (d : List ℕ) → Held done sents e → Held done sents (received p e arrival d).end
  received_held p e arrival d h = by_taking p e arrival d (Held done sents) (record {
    frame = λ f stands x j. frame_held f x (brings_small stands.opening.payload f stands.carried) j;
    notes = λ n x j. same_held x (with_numbers x (number_opened x.numbers n)) refl refl refl j;
    begins = λ now n x j. same_held x (begun x now n) refl refl refl j;
    takes = λ n asks urged mark x j. same_held x (after_taken n asks urged mark x) refl refl refl j;
    closes = λ reason x j. same_held x (closed_by reason x) refl refl refl j;
    drains = λ close x j. same_held x (drained_at close.0 close.1 x) refl refl refl j;
    asks_close = λ x j. same_held x (with_closing x (close_asked x.closing)) refl refl refl j;
    exhausts = λ now x j. same_held x (exhausted now x) refl refl refl j;
    draws = drawn_held;
    moves = moving_keeps (Held done sents) (λ m x j. same_held x (with_on_path x m) refl refl refl j) next_held;
  }) h

pub received_sendable : (p : Policy) (e : End) (arrival : Arrival) (d : List ℕ) → Sendable e → Sendable (received p e arrival d).end
received_sendable p e arrival d s = record { done = s.done; sents = s.sents; says = s.says; held = received_held s.done s.sents s.says p e arrival d s.held; ascends = ascends_received p e arrival d s.ascends }

-- ---- another call

module _ (p : Policy) (e : End) (theirs : List (List ℕ)) (call : Call) (a : Answer) (is : IsAnswer p e theirs call a) (served : fails a ≡ false) (owes : Owes e) (s : Sendable e) where
  -- what it does
  abbrev more : ℕ → Wrote
  more = done_by call a s.done

  -- what is tracked says what was done
  tracked : (n : ℕ) (t : TrackedPacket) → In (n, t) e.tracking.packets → CarriedSays s.done t.carried
  tracked = tracked_says s.done s.sents s.says e.tracking.packets s.held.tracked

  grows : (q : ℕ) → Grows (s.done q) (more q)
  grows = call_grows p e theirs s.done s.held.writes call a is (is_on_streams call) refl

  -- so does what a poll gives
  given_says : (k : Call) → IsAnswer p e theirs k a → SentSay s.done (sents_by p e k a)
  given_says (calls.Poll now) polls = subst (λ (b : Answer). SentSay s.done (sent_if (gave b) (sent_by p e now))) (sym (poll_answer p e now a polls served))
      (sent_fine (SaysOf s.done) (λ c. tt) (λ c. tt) tt p e now owes (λ opened. poll_says p e theirs s.done s.held.writes tracked now))
  given_says k other = λ x i. absurd i

  more_says : SentSay more (s.sents ++ sents_by p e call a)
  more_says x i f j = elim (in_append x s.sents (sents_by p e call a) i) [
    | inl old ↦ says_grow s.done more grows f (s.says x old f j)
    | inr new ↦ says_grow s.done more grows f (given_says call is x new f j)
  ]

  pub call_sendable : is_delivery call ≡ false → CodeIsSmall call → Sendable (after_call p e theirs call a)
  call_sendable apart small = record {
    done = more;
    sents = s.sents ++ sents_by p e call a;
    says = more_says;
    held = (let h = s.held in record {
      writes = call_writes p e theirs s.done h.writes tracked call a is apart (is_on_streams call) refl;
      tracked = tracked_step p e theirs call a s.sents is served h.tracked;
      all = (let keeps = h.writes.keeps in step_holds p e theirs call a s.done keeps.holds keeps.few small is apart h.peer s.ascends h.all);
      peer = call_written p e theirs call a apart h.peer;
      limit = call_keeps (λ done x. HasSmallLimit x) small_words p ended_all e theirs call a apart is (λ n t among m inside fin. refl) h.limit;
    });
    ascends = ascends_call p e theirs call a s.ascends;
  }

-- whatever a call reads
pub shown_sendable : (window : ℕ) (blocked : Bool) (pacing : Pacing) (e : End) → Sendable e → Sendable (with_pacing (with_blocked (with_window e window) blocked) pacing)
shown_sendable window blocked pacing e s = record {
  done = s.done;
  sents = s.sents;
  says = s.says;
  held = same_held s.done s.sents s.says e (with_pacing (with_blocked (with_window e window) blocked) pacing) refl refl refl s.held;
  ascends = s.ascends;
}

-- ---- a poll

-- so what waits may go, where something waits for each probe too
pub may_go : (e : End) (now : ℕ) → Sendable e → MayGo (streams_at (ready_at e now).end)
may_go e now s = record {
  wrote = s.done;
  streams = subst (Holding s.done) (sym (ready_state e now)) (let keeps = s.held.writes.keeps in record { holds = keeps.holds; orderly = keeps.orderly; few = keeps.few; limit = s.held.limit });
  waits = waits_of (ready_at e now).end (ready_holds e now s.ascends s.held.all);
}

-- ---- at the start

-- the peer's first limits are in range
module _ (parameters : List ℕ) (theirs : ParameterValues) (says : parameters_at parameters ≡ Ok theirs) where
  limits_small : HasSmallLimits theirs
  limits_small =
      let bidi = (read_in_range parameters theirs says InitialMaxStreamDataBidiRemote).1 in
      let uni = (read_in_range parameters theirs says InitialMaxStreamDataUni).1 in
      let local = (read_in_range parameters theirs says InitialMaxStreamDataBidiLocal).1 in
      record { own_bi = omega arith; own_uni = omega arith; remote = omega arith }

  first_sendable : (side : Side) (settings : Settings) (windows : Windows) (own_id peer_id : List ℕ) (remote now : ℕ) (validated : Bool) (words : ℕ → ℕ) → Sendable (new_end side settings windows theirs own_id peer_id remote now validated words)
  first_sendable side settings windows own_id peer_id remote now validated words =
      let first = first_holds side settings windows theirs own_id peer_id remote now validated words in
      record {
        done = λ id. nothing_done;
        sents = [];
        says = λ s i. absurd i;
        held = record {
          writes = record { keeps = first_keeping side settings theirs limits_small (counts_in_range parameters theirs says); waits = tt };
          tracked = λ n t i. absurd i;
          all = first.0;
          peer = first.1;
          limit = (let all = (read_in_range parameters theirs says InitialMaxData).1 in omega arith);
        };
        ascends = tt;
      }

pub made_sendable : (e : End) → IsNew e → Sendable e
made_sendable e new = go (parameters_at new.parameters) refl new.made
  where
    go : (r : Result ParameterValues TransportParametersError) → parameters_at new.parameters ≡ r → IsMade new.side new.settings new.windows r new.own_id new.peer_id new.remote new.moment new.validated new.words e → Sendable e
    go (Ok theirs) is made = subst Sendable (sym made) (first_sendable new.parameters theirs is new.side new.settings new.windows new.own_id new.peer_id new.remote new.moment new.validated new.words)
    go (Err error) is made = absurd made
