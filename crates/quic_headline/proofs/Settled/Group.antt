-- What an observer counts as acknowledged in flight, an open end knows so of its streams; and each
-- stream is told to be finished once, where all of it is. It holds at each place of an honest run.
use Rattle.std.proofs.Common.{◌≡◌, ℕ, ◌+◌, ◌<◌, ◌≤◌, Bool, true, false, List, [], ◌∷◌, ◌++◌, append-nil, Option, Some, None, refl, sym, ap, ◌∙◌, subst, inl, inr, arith}
use Rattle.std.specs.Prelude.{if◌then◌else◌, max, option_map}
use Rattle.quic_wire.specs.Value.{FrameValue, StreamValue, stream}
use Rattle.quic_send_buffer.specs.declared.stream_meta.StreamMeta.{StreamMeta}
use Rattle.quic_streams_parts.specs.declared.answers.StreamEvent.{StreamEvent}
use Rattle.quic_streams_parts.specs.declared.answers.StreamEvent.TheVariants.{Opened, Readable, Writable, Finished, Stopped, Available}
use Rattle.quic_streams_parts.specs.Table.{Table, at}
use Rattle.quic_streams_halves.specs.Halves.{has_place, no_halves, no_places}
use Rattle.quic_streams_laws.specs.Shape.{IsShaped}
use Rattle.quic_streams_laws.specs.Each.{HalfIs}
use Rattle.quic_streams_laws.specs.StartLaws.{nowhere}
use Rattle.quic_streams_parts.specs.SendHalf.{meta_of}
use Rattle.quic_streams_state.specs.declared.state.StreamsState.{StreamsState}
use Rattle.quic_streams_state.specs.State.{Streams}
use Rattle.quic_streams_state.specs.Telling as telling_next
use Rattle.quic_streams_laws.specs.KeepingLaws.{by_polled}
use Rattle.quic_streams_laws.specs.Keeping.{finishes_in}
use Rattle.quic_streams_laws.specs.Written.{Wrote, IsStreamOf}
use Rattle.quic_machine.specs.declared.answers.LostReason.{LostReason}
use Rattle.quic_machine.specs.declared.answers.Event.TheVariants as events
use Rattle.quic_machine.specs.declared.answers.State.TheVariants as states
use Rattle.quic_machine.specs.declared.run.Call.{Call}
use Rattle.quic_machine.specs.declared.run.Call.TheVariants as calls
use Rattle.quic_machine.specs.declared.run.Delivery.{Delivery}
use Rattle.quic_machine.specs.declared.run.Answer.{Answer}
use Rattle.quic_machine.specs.declared.run.Answer.TheVariants as answers
use Rattle.quic_machine.specs.Policy.{Policy}
use Rattle.quic_machine.specs.Closing.{Closing, loss_to_tell, ticked}
use Rattle.quic_machine.specs.Tracking.{TrackedPacket, Carried, streams_in}
use Rattle.quic_machine.specs.End.{End, streams_at, with_closing}
use Rattle.quic_spaces.specs.Numbers.{Numbers, number_opened}
use Rattle.quic_machine.specs.Acked.{stream_lost, streams_lost, carried_lost, packets_lost}
use Rattle.quic_machine.specs.Calls.{is_open, tells_message, tells_done, tells_of, message_told, confirmation_told, others_told}
use Rattle.quic_machine.specs.StreamCalls.{is_on_streams}
use Rattle.quic_machine.specs.Receive.{Outcome}
use Rattle.quic_machine.specs.Poll.{polled, tracked}
use Rattle.quic_machine.specs.Machine.{IsAnswer, after_call, gave}
use Rattle.quic_machine.specs.CallCases.{is_delivery, is_poll, asks_event, by_call, by_done}
use Rattle.quic_machine.specs.LeaveCases.{by_expired}
use Rattle.quic_machine.specs.FrameCases.{begun, apart_leaves}
use Rattle.quic_machine.specs.declared.answers.Event.{Event}
use Rattle.quic_machine.specs.Steps as steps
use Rattle.quic_headline.specs.Runs.{Told, Packet, Intake, In, and_told, finish_told_by, finishes_told}
use Rattle.quic_headline.specs.Observer.{Sent, HoldsOffset, HoldsEnd, Watch, Flight}
use Rattle.quic_headline.specs.InFlight.{all_offsets}
use Rattle.quic_headline.proofs.Packets.Apart.{by_waits, by_next_id}
use Rattle.quic_headline.proofs.Packets.Invariant.{IsSent, AreTracked, WereSent, carried_stream}
use Rattle.quic_headline.proofs.Packets.Growth.{step_of}
use Rattle.quic_headline.proofs.Packets.Carried.{carried_same}
use Rattle.quic_headline.proofs.Packets.Delivered.{Arrivals, arrived, with_taken, frames_at, among_at}
use Rattle.quic_headline.proofs.Packets.Named.{WasCarried, SettlesOn, frames_settle, NamesTaken}
use Rattle.quic_headline.proofs.Packets.Losses.{Losing, expiry_stays}
use Rattle.quic_headline.proofs.Packets.Waited.{IsWaited, AreWaited, waited_there}
use Rattle.quic_headline.proofs.Packets.Flying.{Waits, held, Loses, Flies, frames_fly, ticked_waits, numbers_wait}
use Rattle.quic_headline.proofs.Packets.Watching.{none_comes}
use Rattle.quic_headline.proofs.Packets.Searches.{search_keeps}
use Rattle.quic_headline.proofs.Packets.Acked.{acked_with, acks, acks_behind, acked_here, acked_then}
use Rattle.quic_headline.proofs.Packets.Group.{PacketsHold, meets}
use Rattle.quic_headline.proofs.Packets.Sight.{Sight}
use Rattle.quic_headline.proofs.Places.Told.{in_right}
use Rattle.quic_headline.proofs.Places.Parties.{sent_by, sent_if, sents_by, told_of, Party, called, came_to, lens, watch_of, Beginning, begun_as, AreMade}
use Rattle.quic_headline.proofs.Places.Groups.{Way, Calls, Group}
use Rattle.quic_headline.proofs.Places.Coming.{came_more, by_coming}
use Rattle.quic_headline.proofs.Places.Steps.{poll_answer}
use Rattle.quic_headline.proofs.Causes.Shown.{call_closes}
use Rattle.quic_headline.proofs.Halves.Wrote.{done_by}
use Rattle.quic_headline.proofs.Halves.Ghosts.{wrote, SaysOf, Saying}
use Rattle.quic_headline.proofs.Halves.Words.{call_with}
use Rattle.quic_headline.proofs.Halves.WordsCalls.{HaveEnds, done_none, call_on_is}
use Rattle.quic_headline.proofs.Halves.Small.{IsSmallLimit, payload_small}
use Rattle.quic_headline.proofs.Halves.Finished.{finished_words, finished_same, finished_grows}
use Rattle.quic_headline.proofs.Halves.Finishing.{tells, told_counts}
use Rattle.quic_headline.proofs.Halves.Arrived.{IsSpoken, OffsetIn, EndIn, meta_in}
use Rattle.quic_headline.proofs.Halves.Arrived as arrived_halves
use Rattle.quic_headline.proofs.Settled.Half.{Known, IsFree, UnusedSettles, HalfSettles, DoneSettles, Settles, settles_kept, settles_alike, nothing_known}
use Rattle.quic_headline.proofs.Settled.Acked.{telling, KnowsAcked}
use Rattle.quic_headline.proofs.Settled.Words.{Settling, is_reset, settling_calls, settling_frame}
use Rattle.quic_headline.proofs.Settled.Carried.{known_of, waited_offsets, MetaSent, sents_settle, reset_holds, lost_holds, acked_holds}
use Rattle.quic_headline.proofs.Settled.Sends.{poll_settles_nothing, poll_settles}
use Rattle.quic_headline.proofs.Packets.Moved.{by_migrated}
use Rattle.quic_headline.proofs.Packets.Strays.{acks_at}
use Rattle.quic_headline.proofs.Packets.Routed.{flight_at}

-- ---- where the same was done and told

module _ (arrived : ℕ → ℕ → Type 0) (end_arrived : ℕ → Type 0) (k : Known) where
  pub settling_same : (n m : ℕ → ℕ) (w v : ℕ → Wrote) (s : StreamsState) → ((q : ℕ) → m q ≡ n q) → ((q : ℕ) → v q ≡ w q) → Settling arrived end_arrived k n w s → Settling arrived end_arrived k m v s
  settling_same n m w v s counts same i = (
    finished_same arrived end_arrived w v s same i.0,
    settles_alike k (telling n (is_reset w) s) (telling m (is_reset v) s) s (record { times = λ q. ap (λ (c : ℕ). c + finishes_in q s.events.queue) (counts q); reset = λ q. ap (λ (x : Wrote). is_reset (λ j. x) q) (same q) }) i.1,
  )

  module _ (n : ℕ → ℕ) (w : ℕ → Wrote) where
    -- what is told waits no more
    pub event_settles : (m : ℕ → ℕ) (s : StreamsState) → ((q : ℕ) → m q ≡ n q + tells q (telling_next.polled s).answer) → Settling arrived end_arrived k n w s → Settling arrived end_arrived k m w (telling_next.polled s).state
    event_settles m s counts i = (
      (finished_words arrived end_arrived).polls w s i.0,
      settles_alike k (telling n (is_reset w) s) (telling m (is_reset w) (telling_next.polled s).state) (telling_next.polled s).state
          (record { times = λ q. (let waits = told_counts q s in let told = counts q in omega arith); reset = λ q. refl })
          (by_polled (Settles k (telling n (is_reset w) s)) (settles_kept k (telling n (is_reset w) s)) s i.1),
    )

    -- packets that are lost
    losing : (packets : Table TrackedPacket) → HaveEnds w packets → Losing packets (λ (t : Streams). Settling arrived end_arrived k n w t.state)
    losing packets ends = record { lost = λ c t m e among inside i. lost_holds arrived end_arrived n w k m e (ends c t among m inside) i; again = λ c t e among i. i }

    -- a call that is neither a delivery nor a poll, nor asks what is told
    pub call_settles : (p : Policy) (e : End) (theirs : List (List ℕ)) (call : Call) (a : Answer) → is_delivery call ≡ false → is_poll call ≡ false → asks_event call ≡ false → IsAnswer p e theirs call a → HaveEnds w e.tracking.packets
        → Settling arrived end_arrived k n w e.streams → Settling arrived end_arrived k n (done_by call a w) (after_call p e theirs call a).streams
    call_settles p e theirs call a apart silent quiet is ends i = go (is_on_streams call) refl
      where
        go : (b : Bool) → is_on_streams call ≡ b → Settling arrived end_arrived k n (done_by call a w) (after_call p e theirs call a).streams
        go true on =
            let c = call_on_is p e theirs call a on in
            subst (λ (s : StreamsState). Settling arrived end_arrived k n (done_by call a w) s) (sym c.leaves) (call_with (Settling arrived end_arrived k n) (settling_calls arrived end_arrived k n) (is_open e.closing.state) w (streams_at e) i call a (c.answer is))
        go false off = subst (λ (v : ℕ → Wrote). Settling arrived end_arrived k n v (after_call p e theirs call a).streams) (sym (done_none call a w off)) (by_call p e theirs (λ (f : End). Settling arrived end_arrived k n w f.streams) call a (record {
          same = i;
          on_streams = λ on answer. cc;
          on_messages = λ on answer. i;
          pings = i;
          closes = λ reason f now own. i;
          waits = λ now b set. by_waits (λ (f : End). Settling arrived end_arrived k n w f.streams) b (with_closing e (ticked e.closing now)) i i;
          changes_id = λ uses answer. by_next_id (λ (f : End). Settling arrived end_arrived k n w f.streams) e a i (λ c. i) (λ c most. i);
          says_handshake = λ says answer. by_done (λ (f : End). Settling arrived end_arrived k n w f.streams) e a i i;
          times = λ now expiry set. by_expired p.words e now (λ (f : End). Settling arrived end_arrived k n w f.streams) (λ pending tracking timers waits asked runs packets. i)
              (λ pending timers waits asked runs. expiry_stays (λ (t : Streams). Settling arrived end_arrived k n w t.state) e now (losing e.tracking.packets ends) i pending timers waits asked) (λ x j. j) expiry;
          polls = λ now set. cc;
          hears = λ arrival d set. cc;
          tells = λ asks. cc;
        }))

-- ---- what is told

-- how often one is told
abbrev one_if : Bool → ℕ
one_if b = if b then 1 else 0

finishes_more : (id : ℕ) (told : List Told) (t : Told) → finishes_told id (told ++ t ∷ []) ≡ finishes_told id told + one_if (finish_told_by id t.call t.answer)
finishes_more id [] t = omega arith
finishes_more id (u ∷ told) t = let rest = finishes_more id told t in omega arith

told_apart : (id : ℕ) (call : Call) (a : Answer) → asks_event call ≡ false → one_if (finish_told_by id call a) ≡ 0
told_apart id calls.Event a off = cc
told_apart id call a off = refl

told_event : (id : ℕ) (o : Option StreamEvent) (c : Closing) → one_if (finish_told_by id calls.Event (answers.Event (tells_of o c))) ≡ tells id o
told_event id (Some (Finished s)) c = refl
told_event id (Some (Opened dir)) c = refl
told_event id (Some (Readable s)) c = refl
told_event id (Some (Writable s)) c = refl
told_event id (Some (Stopped s code)) c = refl
told_event id (Some (Available dir)) c = refl
told_event id None c = go (loss_to_tell c)
  where
    go : (r : Option LostReason) → one_if (finish_told_by id calls.Event (answers.Event (option_map events.Lost r))) ≡ 0
    go None = refl
    go (Some reason) = refl

-- ---- what an open end knows

-- what an open end knows that sent these, of which these were acknowledged
abbrev pub Open : List Sent → (ℕ → Wrote) → (ℕ → ℕ) → List Sent → End → Type 0
Open sents w n acked e = Settling (λ id o. HoldsOffset acked id o) (λ id. HoldsEnd acked id) (known_of sents acked) n w e.streams

-- ---- frames of datagrams

-- of a frame in a datagram
offset_in_frames : (fs : List FrameValue) (m : StreamMeta) → In m (all_offsets fs) → (f : StreamValue) × In (stream f) fs × (m ≡ meta_of f)
offset_in_frames fs m i = meta_in fs m (subst (λ (c : Carried). In m c.stream_frames) (carried_same fs) i)

-- what stands in each of these of streams was sent
abbrev AllSent : List Sent → List Sent → Type 0
AllSent sents flying = (s : Sent) → In s flying → (m : StreamMeta) → In m (all_offsets s.frames) → (t : Sent) × In t sents × In m (streams_in t.frames)

-- what an end waits for was sent
flying_sent : (sents flying : List Sent) (packets : Table TrackedPacket) → AreWaited flying packets → AreTracked sents packets → AllSent sents flying
flying_sent sents flying packets waits tracked s i m j =
    let there = waited_there flying packets s waits i in
    let p : ℕ × TrackedPacket = there.0 in
    let found = tracked p.0 p.1 there.1 in
    (found.0, found.1.0, carried_stream p.1.carried found.0.frames found.2 m (subst (λ (ms : List StreamMeta). In m ms) (sym (waited_offsets s p there.2)) j))

-- each packet in step with datagrams is one of them
waiting_is : (flying : List Sent) (ps : Table TrackedPacket) → AreWaited flying ps → (n : ℕ) (p : TrackedPacket) → In (n, p) ps → (s : Sent) × In s flying × IsWaited s (n, p)
waiting_is [] [] waits n p i = absurd i
waiting_is (s ∷ flying) (q ∷ ps) waits n p (inl is) = (s, inl refl, subst (λ (r : ℕ × TrackedPacket). IsWaited s r) (sym is) waits.0)
waiting_is (s ∷ flying) (q ∷ ps) waits n p (inr i) = let rest = waiting_is flying ps waits.1 n p i in (rest.0, inr rest.1, rest.2)
waiting_is [] (q ∷ ps) waits n p i = absurd waits
waiting_is (s ∷ flying) [] waits n p i = absurd waits

module _ (sents : List Sent) (w : ℕ → Wrote) (says : (s : Sent) → In s sents → (f : FrameValue) → In f s.frames → SaysOf w f) where
  -- it had the end only where there is one
  sent_ended : (t : Sent) → In t sents → (m : StreamMeta) → In m (streams_in t.frames) → m.fin ≡ true → (w m.id).ended ≡ true
  sent_ended t i m j =
      let found = meta_in t.frames m j in
      let said : IsStreamOf (w found.0.id) found.0 = says t i (stream found.0) found.1 in
      subst (λ (x : StreamMeta). x.fin ≡ true → (w x.id).ended ≡ true) (sym found.2) (λ fin. said.ended fin)

  flying_ended : (flying gone : List Sent) (ps : Table TrackedPacket) → AllSent sents flying → ((s : Sent) → In s gone → In s flying) → AreWaited gone ps → HaveEnds w ps
  flying_ended flying gone ps all inside waits n p i m j =
      let found = waiting_is gone ps waits n p i in
      let was = all found.0 (inside found.0 found.1) m (subst (λ (ms : List StreamMeta). In m ms) (waited_offsets found.0 (n, p) found.2) j) in
      sent_ended was.0 was.1 m was.2

  -- so had what is tracked
  tracked_ended : (packets : Table TrackedPacket) → AreTracked sents packets → HaveEnds w packets
  tracked_ended packets tracked n p i m j = let was = tracked n p i in sent_ended was.0 was.1.0 m (carried_stream p.carried was.0.frames was.2 m j)

  -- one that is acknowledged was sent, and is held then
  meta_sent : (n : ℕ → ℕ) (flying acked ss : List Sent) → AllSent sents flying → ((s : Sent) → In s ss → In s flying) → (s : Sent) → In s ss → (m : StreamMeta) → In m (all_offsets s.frames)
      → MetaSent (λ id o. HoldsOffset (acked ++ ss) id o) (λ id. HoldsEnd (acked ++ ss) id) n w (known_of sents acked) m
  meta_sent n flying acked ss all inside s i m j =
      let was = all s (inside s i) m j in
      let found = meta_in was.0.frames m was.2 in
      let f : StreamValue = found.0 in
      let now = offset_in_frames s.frames m j in
      let g : StreamValue = now.0 in
      record {
        offsets = subst (λ (x : StreamMeta). (o : ℕ) → x.offsets.start ≤ o → o < x.offsets.end → HoldsOffset sents x.id o) (sym found.2) (λ o from below. record { sent = was.0; among = was.1; frame = f; carried = found.1; of_stream = refl; from = from; below = below });
        end = subst (λ (x : StreamMeta). x.fin ≡ true → HoldsEnd sents x.id) (sym found.2) (λ fin. record { sent = was.0; among = was.1; frame = f; carried = found.1; of_stream = refl; fin = fin });
        came = record {
          bytes = subst (λ (x : StreamMeta). (o : ℕ) → x.offsets.start ≤ o → o < x.offsets.end → HoldsOffset (acked ++ ss) x.id o) (sym now.2) (λ o from below. record { sent = s; among = in_right s acked ss i; frame = g; carried = now.1; of_stream = refl; from = from; below = below });
          end = subst (λ (x : StreamMeta). x.fin ≡ true → HoldsEnd (acked ++ ss) x.id) (sym now.2) (λ fin. record { sent = s; among = in_right s acked ss i; frame = g; carried = now.1; of_stream = refl; fin = fin });
          ended = sent_ended was.0 was.1 m was.2;
        };
      }

  module _ (arrived : ℕ → ℕ → Type 0) (end_arrived : ℕ → Type 0) (k : Known) (n : ℕ → ℕ) where
    -- datagrams are lost
    metas_lost : (ms : List StreamMeta) (e : End) → ((m : StreamMeta) → In m ms → m.fin ≡ true → (w m.id).ended ≡ true) → Settling arrived end_arrived k n w e.streams → Settling arrived end_arrived k n w (streams_lost ms e).streams
    metas_lost [] e last i = i
    metas_lost (m ∷ ms) e last i = metas_lost ms (stream_lost m e) (λ q j. last q (inr j)) (lost_holds arrived end_arrived n w k m e (last m (inl refl)) i)

    lost_all : (ps : Table TrackedPacket) (e : End) → HaveEnds w ps → Settling arrived end_arrived k n w e.streams → Settling arrived end_arrived k n w (packets_lost ps e).streams
    lost_all [] e last i = i
    lost_all (p ∷ ps) e last i = lost_all ps (carried_lost p.1.carried e) (λ c q j. last c q (inr j)) (metas_lost p.1.carried.stream_frames e (last p.0 p.1 (inl refl)) i)

  -- ---- a packet of an open end, taken

  open_loses : (n : ℕ → ℕ) → Loses (λ flying acked e. AllSent sents flying × Open sents w n acked e)
  open_loses n = record {
    tracked = λ flying acked t e i. i;
    searches = λ flying acked lost e i. search_keeps (λ (x : End). AllSent sents flying × Open sents w n acked x) (λ d x j. j) (λ most x j. j) lost e i;
    loses = λ flying acked gone left ps e inside stays apart waits i. (
      (λ s j. i.0 s (stays s j)),
      lost_all (λ id o. HoldsOffset acked id o) (λ id. HoldsEnd acked id) (known_of sents acked) n ps e (flying_ended flying gone ps i.0 inside waits) i.1,
    );
  }

  open_flies : (n : ℕ → ℕ) (frames : List FrameValue) → ((f : FrameValue) → In f frames → IsSmallLimit f) → Flies frames (λ flying acked e. AllSent sents flying × Open sents w n acked e)
  open_flies n frames small = record {
    losing = open_loses n;
    names = λ flying acked a e among i. i;
    acks = λ flying acked ss left ps e a among inside stays apart waits i. ((λ s j. i.0 s (stays s j)), sents_settle n w sents acked ss ps waits e (meta_sent n flying acked ss i.0 inside) i.1);
    measured = λ flying acked r first e i. i;
    marked = λ flying acked m marking e i. i;
    on_streams = λ flying acked f e among on i. (i.0, settling_frame (λ id o. HoldsOffset acked id o) (λ id. HoldsEnd acked id) (known_of sents acked) n w f e on (small f among) i.1);
    message = λ flying acked m e i. i;
    apart = λ flying acked f e among apart i. apart_leaves (λ (g : End). AllSent sents flying × Open sents w n acked g) f e apart (λ c. i) (λ c most. i);
  }

-- ---- a packet of any end, taken or refused

abbrev Any : ℕ → ℕ → Type 0
Any id o = Unit {0}

abbrev AnyEnd : ℕ → Type 0
AnyEnd id = Unit {0}

abbrev Always : (ℕ → ℕ) → (ℕ → Wrote) → End → Type 0
Always n w e = Settling Any AnyEnd nothing_known n w e.streams

knows_none : (m : StreamMeta) → KnowsAcked m nothing_known nothing_known
knows_none m = record { sent = λ id o x. absurd x; end_sent = λ id x. absurd x; acked = λ id o x. absurd x; end_acked = λ id x. absurd x; was_sent = λ o x. absurd x; end_was_sent = λ x. absurd x }

module _ (took : List Packet) (sents : List Sent) (n : ℕ → ℕ) (w : ℕ → Wrote) (says : (s : Sent) → In s sents → (f : FrameValue) → In f s.frames → SaysOf w f) (taken : WereSent sents took) where
  carried_ended : (c : Carried) (m : StreamMeta) → WasCarried took c → In m c.stream_frames → m.fin ≡ true → (w m.id).ended ≡ true
  carried_ended c m was among =
      let at = taken was.packet was.was_taken in
      sent_ended sents w says at.sent at.is.0 m (subst (λ (fs : List FrameValue). In m (streams_in fs)) (sym at.frames) (carried_stream c was.packet.frames was.is m among))

  always_settles : SettlesOn took sents (Always n w)
  always_settles (steps.reset id) e may i = reset_holds Any AnyEnd n w nothing_known id e i
  always_settles (steps.acked m) e (c, was, among) i = acked_holds Any AnyEnd n w nothing_known nothing_known m e (knows_none m) (record { bytes = λ o from below. tt; end = λ fin. tt; ended = carried_ended c m was among }) i
  always_settles (steps.lost m) e (c, was, among) i = lost_holds Any AnyEnd n w nothing_known m e (sent_ended sents w says was.sent was.among m (carried_stream c was.sent.frames was.is m among)) i
  always_settles s e may i = i

-- ---- the group

-- how often each stream was told finished
abbrev pub told_so : Party → ℕ → ℕ
told_so x id = finishes_told id x.told

-- x gives: it was told of no stream twice that it is finished; and while it is open, it knows what
-- an observer counts as acknowledged
pub record Settled (x y : Party) : Type 0 where
  pub always : Always (told_so x) (wrote x.told) x.end
  pub still : x.end.closing.state ≡ states.Open → Open x.sents (wrote x.told) (told_so x) (acks x y) x.end

-- What that rests on.
pub record SettlesOver (B : Way) : Type 1 where
  pub spoken : IsSpoken B
  pub sight : (x y : Party) → B x y → Sight x y

module _ (B : Way) (b : SettlesOver B) (x y : Party) (call : Call) (a : Answer) (c : Calls B x y call a) (s : Settled x y) where
  gives : PacketsHold x y
  gives = b.spoken.packets x y c.gives

  takes : PacketsHold y x
  takes = b.spoken.packets y x c.takes

  says : Saying x y
  says = b.spoken.says x y c.gives

  -- what is told and done then
  t : Told
  t = told_of call a x.end.closing.state

  told_then : (asks_event call ≡ false) → (q : ℕ) → finishes_told q (x.told ++ told_of call a x.end.closing.state ∷ []) ≡ finishes_told q x.told
  told_then quiet q = let more = finishes_more q x.told (told_of call a x.end.closing.state) in let none = told_apart q call a quiet in omega arith

  done_then : (q : ℕ) → wrote (x.told ++ told_of call a x.end.closing.state ∷ []) q ≡ done_by call a (wrote x.told) q
  done_then q = b.spoken.done x y call a c q

  small : (d : Sent) → In d y.sents → (here : Bool) (f : FrameValue) → In f (frames_at here d.frames) → IsSmallLimit f
  small d among here = let spelled = step_of (IsSent y.policy) y.sents y.given d takes.gives.each among in among_at IsSmallLimit tt here d.frames (payload_small d.frames spelled.1.payload spelled.1.spells)

  -- each case of a delivery, whether the packet is taken or refused
  always_arrives : (now : ℕ) (d : Sent) → In d y.sents → (here : Bool) → Arrivals x.end now d.number d.frames (frames_at here d.frames) (came_to x y) (λ (o : Outcome) (i : Intake). Always (told_so x) (wrote x.told) o.end)
  always_arrives now d among here = record {
    ignored = λ reason. s.always;
    noted = λ state reason. s.always;
    takes = λ words state new none urged mark. after;
    moves = λ p o same remote z opened j. by_migrated (Always (told_so x) (wrote x.told)) p o remote z (λ c. j) (λ c most. j);
    drains = λ words state new close is. after;
    refuses = λ words state new f is. after;
    exhausts = λ state. s.always;
  }
    where
      took : List Packet
      took = (came_to y x).took

      taken : List FrameValue
      taken = frames_at here d.frames

      after : Always (told_so x) (wrote x.told) (arrived x.end now d.number taken).end
      after = frames_settle took x.sents (record { taken = gives.taken; rising = gives.gives.rising }) taken (Always (told_so x) (wrote x.told)) (record {
        settles = always_settles took x.sents (told_so x) (wrote x.told) says gives.taken;
        names = λ ak e i j. j;
        on_streams = λ f e i on j. settling_frame Any AnyEnd nothing_known (told_so x) (wrote x.told) f e on (small d among here f i) j;
        message = λ m e j. j;
        apart = λ f e i apart j. apart_leaves (Always (told_so x) (wrote x.told)) f e apart (λ c. j) (λ c most. j);
      }) (begun x.end now d.number) (acks_at (NamesTaken took) here d.frames (λ ak i k named. takes.named d ak k among i named)) gives.tracked s.always

  -- of an open end
  still_arrives : (delivery : Delivery) → call ≡ calls.Deliver delivery → (d : Sent) → In d y.sents → (here : Bool)
      → Arrivals x.end delivery.now d.number d.frames (frames_at here d.frames) (came_to x y) (λ (o : Outcome) (i : Intake). o.end.closing.state ≡ states.Open → Open x.sents (wrote x.told) (told_so x) (acked_with x.terms x.end.closing.state call (watch_of x y) i) o.end)
  still_arrives delivery is d among here = record {
    ignored = λ reason still. before still;
    noted = λ state reason still. (let clash : states.Closing ≡ states.Open = sym state ∙ still in cc);
    takes = λ words state new none urged mark still. taken state none;
    moves = λ p o same remote z opened j still. by_migrated (Open x.sents (wrote x.told) (told_so x) (acked_with x.terms x.end.closing.state call (watch_of x y) (with_taken (came_to x y) d.number d.frames))) p o remote z (λ c. j opened) (λ c most. j opened);
    drains = λ words state new close is still. cc;
    refuses = λ words state new f is still. cc;
    exhausts = λ state still. cc;
  }
    where
      before : x.end.closing.state ≡ states.Open → Open x.sents (wrote x.told) (told_so x) (acked_with x.terms x.end.closing.state call (watch_of x y) (came_to x y)) x.end
      before still = subst (λ (acked : List Sent). Open x.sents (wrote x.told) (told_so x) acked x.end) (sym (acked_here x y call)) (s.still still)

      came : List FrameValue
      came = frames_at here d.frames

      taken : x.end.closing.state ≡ states.Open → (arrived x.end delivery.now d.number came).fault ≡ None
          → Open x.sents (wrote x.told) (told_so x) (acked_with x.terms x.end.closing.state call (watch_of x y) (with_taken (came_to x y) d.number d.frames)) (arrived x.end delivery.now d.number came).end
      taken opened none =
          let w : Watch = watch_of x y in
          let now : ℕ = max w.clock delivery.now in
          let waits : Waits x.terms w.clock w.flight (held x.end) = (b.sight x y c.gives).watched.flight opened in
          let numbers : Numbers = number_opened x.end.numbers d.number in
          let begins : Waits x.terms now w.flight (held (begun x.end delivery.now d.number)) = ticked_waits x.terms w.clock delivery.now w.flight (record (held x.end) { numbers = numbers }) (numbers_wait x.terms w.clock w.flight (held x.end) numbers refl waits) in
          let all = frames_fly x.terms now came (λ flying acked e. AllSent x.sents flying × Open x.sents (wrote x.told) (told_so x) acked e) (open_flies x.sents (wrote x.told) says (told_so x) came (small d among here)) w.flight (begun x.end delivery.now d.number) none
          (record { waits = begins; holds = (flying_sent x.sents w.flight.flying x.end.tracking.packets waits.tells.waits gives.tracked, s.still opened) }) in
          subst (λ (acked : List Sent). Open x.sents (wrote x.told) (told_so x) acked (arrived x.end delivery.now d.number came).end) (sym (acked_then x y call delivery is opened d.number d.frames ∙ ap (λ (f : Flight). f.acked) (sym (flight_at x.terms now here d.frames w.flight)))) all.holds.1

  -- a delivery
  always_delivered : (delivery : Delivery) → call ≡ calls.Deliver delivery → Always (told_so x) (wrote x.told) (called x y.given call a).end
  always_delivered delivery is = by_coming x y a c.joined c.served (meets y x takes) (λ (e : End) (i : Intake). Always (told_so x) (wrote x.told) e) call c.answer (record {
    apart = λ apart. (let clash : true ≡ false = sym (ap is_delivery is) ∙ apart in cc);
    none = λ other same. s.always;
    comes = λ other same d among here. always_arrives other.now d among here;
  })

  still_delivered : (delivery : Delivery) → call ≡ calls.Deliver delivery → (called x y.given call a).end.closing.state ≡ states.Open
      → Open x.sents (wrote x.told) (told_so x) (acked_with x.terms x.end.closing.state call (watch_of x y) (came_to (called x y.given call a) y)) (called x y.given call a).end
  still_delivered delivery is = by_coming x y a c.joined c.served (meets y x takes) (λ (e : End) (i : Intake). e.closing.state ≡ states.Open → Open x.sents (wrote x.told) (told_so x) (acked_with x.terms x.end.closing.state call (watch_of x y) i) e) call c.answer (record {
    apart = λ apart. (let clash : true ≡ false = sym (ap is_delivery is) ∙ apart in cc);
    none = λ other same still. subst (λ (acked : List Sent). Open x.sents (wrote x.told) (told_so x) acked x.end) (sym (acked_here x y call)) (s.still still);
    comes = λ other same d among here. still_arrives other same d among here;
  })

  -- what is known of any other call, whatever is known
  module _ (arrived : ℕ → ℕ → Type 0) (end_arrived : ℕ → Type 0) (k : Known) (i : Settling arrived end_arrived k (told_so x) (wrote x.told) x.end.streams) where
    -- a call that tells nothing of streams that are finished
    quiet_settles : is_delivery call ≡ false → is_poll call ≡ false → asks_event call ≡ false → Settling arrived end_arrived k (told_so (called x y.given call a)) (wrote (x.told ++ told_of call a x.end.closing.state ∷ [])) (called x y.given call a).end.streams
    quiet_settles apart silent quiet = settling_same arrived end_arrived k (told_so x) (told_so (called x y.given call a)) (done_by call a (wrote x.told)) (wrote (x.told ++ told_of call a x.end.closing.state ∷ [])) (called x y.given call a).end.streams (told_then quiet) done_then
        (call_settles arrived end_arrived k (told_so x) (wrote x.told) x.policy x.end y.given call a apart silent quiet c.answer (tracked_ended x.sents (wrote x.told) says x.end.tracking.packets gives.tracked) i)

    -- the call that asks what is told, by whether it is told of a message, or that the
    -- handshake is confirmed
    asks_settles : call ≡ calls.Event → Settling arrived end_arrived k (told_so (called x y.given call a)) (wrote (x.told ++ told_of call a x.end.closing.state ∷ [])) (called x y.given call a).end.streams
    asks_settles is = go (tells_message x.end) (tells_done x.end) (subst (λ (k : Call). IsAnswer x.policy x.end y.given k a) is c.answer) (ap (λ (k : Call). (after_call x.policy x.end y.given k a).streams) is)
      where
        same : (q : ℕ) → wrote (x.told ++ told_of call a x.end.closing.state ∷ []) q ≡ wrote x.told q
        same q = done_then q ∙ ap (λ (k : Call). done_by k a (wrote x.told) q) is

        -- what is told of streams by this answer
        counts : (o : Option Event) (n : ℕ) (q : ℕ) → a ≡ answers.Event o → one_if (finish_told_by q calls.Event (answers.Event o)) ≡ n → told_so (called x y.given call a) q ≡ told_so x q + n
        counts o n q answer told =
            let one : one_if (finish_told_by q call a) ≡ n = ap (λ (k : Call). one_if (finish_told_by q k a)) is ∙ ap (λ (b : Answer). one_if (finish_told_by q calls.Event b)) answer ∙ told in
            finishes_more q x.told (told_of call a x.end.closing.state) ∙ ap (λ (m : ℕ). finishes_told q x.told + m) one

        -- where the streams stay
        stays : (o : Option Event) → a ≡ answers.Event o → ((q : ℕ) → one_if (finish_told_by q calls.Event (answers.Event o)) ≡ 0) → (called x y.given call a).end.streams ≡ x.end.streams
            → Settling arrived end_arrived k (told_so (called x y.given call a)) (wrote (x.told ++ told_of call a x.end.closing.state ∷ [])) (called x y.given call a).end.streams
        stays o answer none left =
            let as_often : (q : ℕ) → told_so (called x y.given call a) q ≡ told_so x q = λ q. (let more = counts o 0 q answer (none q) in omega arith) in
            subst (λ (v : StreamsState). Settling arrived end_arrived k (told_so (called x y.given call a)) (wrote (x.told ++ told_of call a x.end.closing.state ∷ [])) v) (sym left)
            (settling_same arrived end_arrived k (told_so x) (told_so (called x y.given call a)) (wrote x.told) (wrote (x.told ++ told_of call a x.end.closing.state ∷ [])) x.end.streams as_often same i)

        go : (message done : Bool) → a ≡ answers.Event (if message then Some events.Message else (if done then Some events.HandshakeConfirmed else tells_of (telling_next.polled x.end.streams).answer x.end.closing))
            → (called x y.given call a).end.streams ≡ (if message then message_told x.end else (if done then confirmation_told x.end else others_told x.end)).streams
            → Settling arrived end_arrived k (told_so (called x y.given call a)) (wrote (x.told ++ told_of call a x.end.closing.state ∷ [])) (called x y.given call a).end.streams
        go true done answer left = stays (Some events.Message) answer (λ q. refl) left
        go false true answer left = stays (Some events.HandshakeConfirmed) answer (λ q. refl) left
        go false false answer left =
            let after : StreamsState = (telling_next.polled x.end.streams).state in
            let more : (q : ℕ) → told_so (called x y.given call a) q ≡ told_so x q + tells q (telling_next.polled x.end.streams).answer =
            λ q. counts (tells_of (telling_next.polled x.end.streams).answer x.end.closing) (tells q (telling_next.polled x.end.streams).answer) q answer (told_event q (telling_next.polled x.end.streams).answer x.end.closing) in
            subst (λ (v : StreamsState). Settling arrived end_arrived k (told_so (called x y.given call a)) (wrote (x.told ++ told_of call a x.end.closing.state ∷ [])) v) (sym left)
            (settling_same arrived end_arrived k (told_so (called x y.given call a)) (told_so (called x y.given call a)) (wrote x.told) (wrote (x.told ++ told_of call a x.end.closing.state ∷ [])) after (λ q. refl) same
            (event_settles arrived end_arrived k (told_so x) (wrote x.told) (told_so (called x y.given call a)) x.end.streams more i))

  -- an end is open behind such a call only if it was
  open_before : is_delivery call ≡ false → (after_call x.policy x.end y.given call a).closing.state ≡ states.Open → x.end.closing.state ≡ states.Open
  open_before apart still = elim (call_closes x.policy x.end y.given call a apart) [
    | inl k ↦ sym k.state ∙ still
    | inr shut ↦ absurd (shut.shut still)
  ]

  -- where nothing came, as much is acknowledged
  acks_same : is_delivery call ≡ false → acks (called x y.given call a) y ≡ acks x y
  acks_same apart = acks_behind x y call a ∙ ap (λ (i : Intake). acked_with x.terms x.end.closing.state call (watch_of x y) i) (came_more x y call a ∙ nothing_came_by apart) ∙ acked_here x y call
    where
      nothing_came_by : is_delivery call ≡ false → and_told x.policy y.final (told_of call a x.end.closing.state) (came_to x y) ≡ came_to x y
      nothing_came_by apart = none_comes (lens x y) (told_of call a x.end.closing.state) (came_to x y) apart

-- ---- each call

-- as often each stream was told finished, and what was done
always_on : (B : Way) → SettlesOver B → (x y : Party) (call : Call) (a : Answer) → Calls B x y call a → Settled x y → Always (told_so (called x y.given call a)) (wrote (x.told ++ told_of call a x.end.closing.state ∷ [])) (called x y.given call a).end
always_on B b x y (calls.Deliver delivery) a c s =
    settling_same Any AnyEnd nothing_known (told_so x) (told_so (called x y.given (calls.Deliver delivery) a)) (wrote x.told) (wrote (x.told ++ told_of (calls.Deliver delivery) a x.end.closing.state ∷ [])) (called x y.given (calls.Deliver delivery) a).end.streams
    (told_then B b x y (calls.Deliver delivery) a c s refl) (done_then B b x y (calls.Deliver delivery) a c s) (always_delivered B b x y (calls.Deliver delivery) a c s delivery refl)
always_on B b x y (calls.Poll now) a c s =
    settling_same Any AnyEnd nothing_known (told_so x) (told_so (called x y.given (calls.Poll now) a)) (wrote x.told) (wrote (x.told ++ told_of (calls.Poll now) a x.end.closing.state ∷ [])) (called x y.given (calls.Poll now) a).end.streams
    (told_then B b x y (calls.Poll now) a c s refl) (done_then B b x y (calls.Poll now) a c s) (poll_settles_nothing Any AnyEnd (told_so x) (wrote x.told) x.policy x.end now s.always)
always_on B b x y calls.Event a c s = asks_settles B b x y calls.Event a c s Any AnyEnd nothing_known s.always refl
always_on B b x y call a c s = quiet_settles B b x y call a c s Any AnyEnd nothing_known s.always refl refl refl

-- with other lists that are the same
open_as : (w : ℕ → Wrote) (n : ℕ → ℕ) (e : End) (sents more acked held : List Sent) → more ≡ sents → held ≡ acked → Open sents w n acked e → Open more w n held e
open_as w n e sents more acked held same alike i = subst (λ (ss : List Sent). Open ss w n held e) (sym same) (subst (λ (ss : List Sent). Open sents w n ss e) (sym alike) i)

still_on : (B : Way) → SettlesOver B → (x y : Party) (call : Call) (a : Answer) → Calls B x y call a → Settled x y → (called x y.given call a).end.closing.state ≡ states.Open
    → Open (x.sents ++ sents_by x.policy x.end call a) (wrote (x.told ++ told_of call a x.end.closing.state ∷ [])) (told_so (called x y.given call a)) (acks (called x y.given call a) y) (called x y.given call a).end
still_on B b x y (calls.Deliver delivery) a c s still =
    let call : Call = calls.Deliver delivery in
    let acked : List Sent = acked_with x.terms x.end.closing.state call (watch_of x y) (came_to (called x y.given call a) y) in
    open_as (wrote (x.told ++ told_of call a x.end.closing.state ∷ [])) (told_so (called x y.given call a)) (called x y.given call a).end x.sents (x.sents ++ []) acked (acks (called x y.given call a) y) (append-nil x.sents) (acks_behind x y call a)
    (settling_same (λ id o. HoldsOffset acked id o) (λ id. HoldsEnd acked id) (known_of x.sents acked) (told_so x) (told_so (called x y.given call a)) (wrote x.told) (wrote (x.told ++ told_of call a x.end.closing.state ∷ [])) (called x y.given call a).end.streams
    (told_then B b x y call a c s refl) (done_then B b x y call a c s) (still_delivered B b x y call a c s delivery refl still))
still_on B b x y (calls.Poll now) a c s still =
    let call : Call = calls.Poll now in
    let answer : a ≡ answers.Poll (polled x.policy x.end now).answer = poll_answer x.policy x.end now a c.answer c.served in
    let acked : List Sent = acks x y in
    let more : List Sent = x.sents ++ sent_if (gave (answers.Poll (polled x.policy x.end now).answer)) (sent_by x.policy x.end now) in
    open_as (wrote (x.told ++ told_of call a x.end.closing.state ∷ [])) (told_so (called x y.given call a)) (called x y.given call a).end more (x.sents ++ sents_by x.policy x.end call a) acked (acks (called x y.given call a) y)
    (ap (λ (r : Answer). x.sents ++ sent_if (gave r) (sent_by x.policy x.end now)) answer) (acks_same B b x y call a c s refl)
    (settling_same (λ id o. HoldsOffset acked id o) (λ id. HoldsEnd acked id) (known_of more acked) (told_so x) (told_so (called x y.given call a)) (wrote x.told) (wrote (x.told ++ told_of call a x.end.closing.state ∷ [])) (called x y.given call a).end.streams
    (told_then B b x y call a c s refl) (done_then B b x y call a c s)
    (poll_settles (λ id o. HoldsOffset acked id o) (λ id. HoldsEnd acked id) (told_so x) (wrote x.told) x.policy x.end now x.sents acked (s.still (open_before B b x y call a c s refl still)) still))
still_on B b x y calls.Event a c s still =
    let call : Call = calls.Event in
    let acked : List Sent = acks x y in
    open_as (wrote (x.told ++ told_of call a x.end.closing.state ∷ [])) (told_so (called x y.given call a)) (called x y.given call a).end x.sents (x.sents ++ []) acked (acks (called x y.given call a) y) (append-nil x.sents) (acks_same B b x y call a c s refl)
    (asks_settles B b x y call a c s (λ id o. HoldsOffset acked id o) (λ id. HoldsEnd acked id) (known_of x.sents acked) (s.still (open_before B b x y call a c s refl still)) refl)
still_on B b x y call a c s still =
    let acked : List Sent = acks x y in
    open_as (wrote (x.told ++ told_of call a x.end.closing.state ∷ [])) (told_so (called x y.given call a)) (called x y.given call a).end x.sents (x.sents ++ []) acked (acks (called x y.given call a) y) (append-nil x.sents) (acks_same B b x y call a c s refl)
    (quiet_settles B b x y call a c s (λ id o. HoldsOffset acked id o) (λ id. HoldsEnd acked id) (known_of x.sents acked) (s.still (open_before B b x y call a c s refl still)) refl refl refl)

-- ---- the start

-- nothing was sent, and nothing told
none_settled : (k : Known) (s : StreamsState) → IsShaped s → s.sending.halves ≡ no_halves → s.events.queue ≡ [] → ((id : ℕ) → IsFree k id) → Settles k (telling (λ id. 0) (λ id. false) s) s
none_settled k s shape none quiet free = record { shape = shape; first = λ limit. tt; each = each }
  where
    unused : (id : ℕ) (b : Bool) → has_place s.side no_places id ≡ b → HalfIs (UnusedSettles k (telling (λ id. 0) (λ id. false) s) id) (HalfSettles k (telling (λ id. 0) (λ id. false) s) id) (DoneSettles (telling (λ id. 0) (λ id. false) s) id) None b
    unused id true is = absurd (nowhere s.side id is)
    unused id false is = ((let waits = ap (finishes_in id) quiet in omega arith), refl, free id)

    each : (id : ℕ) → HalfIs (UnusedSettles k (telling (λ id. 0) (λ id. false) s) id) (HalfSettles k (telling (λ id. 0) (λ id. false) s) id) (DoneSettles (telling (λ id. 0) (λ id. false) s) id) (at s.sending.halves.live id) (has_place s.side s.sending.halves.places id)
    each id = rw none (unused id (has_place s.side no_places id) refl)

settled_first : (B : Way) → SettlesOver B → (x y : Beginning) → AreMade x y → B (begun_as x y) (begun_as y x) → B (begun_as y x) (begun_as x y) → Settled (begun_as x y) (begun_as y x)
settled_first B b x y m there back =
    let arrives = (arrived_halves.arrives_group B b.spoken).first x y m there back in
    let s : StreamsState = (begun_as x y).end.streams in
    let w : ℕ → Wrote = wrote [] in
    record {
      always = (
        finished_grows (OffsetIn []) Any (EndIn []) AnyEnd (λ id o h. tt) (λ id h. tt) w s arrives,
        none_settled nothing_known s arrives.acked.shape refl refl (λ id. ((λ o f. f), (λ f. f), (λ o f. f), λ f. f)),
      );
      still = λ open_now. (
        finished_grows (OffsetIn []) (λ id o. HoldsOffset [] id o) (EndIn []) (λ id. HoldsEnd [] id) (λ id o h. absurd h.taken.was_taken) (λ id h. absurd h.1.taken.was_taken) w s arrives,
        none_settled (known_of [] []) s arrives.acked.shape refl refl (λ id. ((λ o h. h.among), (λ h. h.among), (λ o h. h.among), λ h. h.among)),
      );
    }

-- over what is said of packets and streams, and what the observer knows
pub settled_group : (B : Way) → SettlesOver B → Group B Settled
settled_group B b = record {
  first = λ x y m there back. settled_first B b x y m there back;
  writer = λ x y call a c s back. record { always = always_on B b x y call a c s; still = still_on B b x y call a c s };
  reader = λ x y call a c there s. record { always = s.always; still = s.still };
  shows = λ x y here there b back s t. record { always = s.always; still = s.still };
}
