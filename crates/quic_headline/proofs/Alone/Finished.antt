-- An end tells of each stream once at most that it is finished: this waits to be told only once the
-- half that sends is done, and a half is done once.
use Rattle.std.proofs.Common.{◌≡◌, ℕ, zero, suc, ◌+◌, ◌≤◌, Bool, true, false, List, [], ◌∷◌, ◌++◌, take, Option, Some, None, refl, sym, ap, ◌∙◌, subst, inl, inr, arith}
use Rattle.std.specs.Prelude.{◌==◌, ◌&&◌, not, if◌then◌else◌, option_map}
use Rattle.std.specs.Option.{is_some}
use Rattle.std.specs.List.{list_any}
use Rattle.std.proofs.lemmas.Bool.{cond_both, cases_eq, ne_eqb, or_parts}
use Rattle.quic_wire_core.specs.declared.stream_id.Side.{Side}
use Rattle.quic_wire.specs.Value.{StreamValue}
use Rattle.quic_config.specs.Transport.{Settings}
use Rattle.quic_parameters.specs.Parameters.{ParameterValues}
use Rattle.quic_send_buffer.specs.declared.stream_meta.StreamMeta.{StreamMeta}
use Rattle.quic_retransmits.specs.Retransmits.{Retransmits}
use Rattle.quic_streams_parts.specs.declared.answers.StreamEvent.{StreamEvent}
use Rattle.quic_streams_parts.specs.declared.answers.StreamEvent.TheVariants as stream_events
use Rattle.quic_streams_parts.specs.Dirs.{is_own}
use Rattle.quic_streams_parts.specs.Table.{at, without}
use Rattle.quic_streams_parts.specs.TableLaws.{at-without, at-without-apart}
use Rattle.quic_streams_parts.specs.SendHalf.{SendHalf, Queued, has_pending, is_acked, half_acked, requeued_at}
use Rattle.quic_streams_halves.specs.Halves.{has_place, is_done}
use Rattle.quic_streams_state.specs.declared.state.StreamsState.{StreamsState}
use Rattle.quic_streams_state.specs.State.{Streams, sending_half, without_send, done_if, receiving_status}
use Rattle.quic_streams_state.specs.Sends.{with_queued}
use Rattle.quic_streams_state.specs.Writing.{replaced}
use Rattle.quic_streams_state.specs.Acked.{finished, acked_at, after_stream_acked}
use Rattle.quic_streams_state.specs.Telling.{polled}
use Rattle.quic_streams_laws.specs.Each.{HalfIs, EachSends, AreOfHalves}
use Rattle.quic_streams_laws.specs.EachLaws.{each_kept, each_with, half_follows, said_of}
use Rattle.quic_streams_laws.specs.Keeping.{KeepsAll, KeepsBy, MayAccept, finishes_in}
use Rattle.quic_streams_laws.specs.Keeping as changes
use Rattle.quic_streams_laws.specs.KeepingLaws.{by_option, at-half, live_sends, keeps_fewer, finishes_append, by_open, by_accept, by_max_streams, by_write, by_write_chunks, by_blocked, by_finish, by_reset, by_set_priority, by_polled, by_stop_sending, by_max_data, by_max_stream_data, by_stream, by_reset_frame, by_read_begun, by_next, by_stop, by_received_reset, by_stream_lost, by_reset_acked, by_stream_frames}
use Rattle.quic_streams_laws.specs.ContentLaws.{by_next_answer}
use Rattle.quic_streams_laws.specs.FinishedLaws.{none_more_kept}
use Rattle.quic_streams_laws.specs.QuietLaws.{by_control_frames}
use Rattle.quic_streams_laws.specs.Shape.{IsShaped}
use Rattle.quic_streams_laws.specs.ShapeLaws.{shape_any, shape_done, shape_without, sends_with}
use Rattle.quic_streams_laws.specs.StartLaws.{shape_new, shape_set_params}
use Rattle.quic_machine.specs.declared.answers.LostReason.{LostReason}
use Rattle.quic_machine.specs.declared.answers.Event.TheVariants as events
use Rattle.quic_machine.specs.declared.run.Call.{Call}
use Rattle.quic_machine.specs.declared.run.Call.TheVariants as calls
use Rattle.quic_machine.specs.declared.run.Answer.{Answer}
use Rattle.quic_machine.specs.declared.run.Answer.TheVariants as answers
use Rattle.quic_machine.specs.Policy.{Policy}
use Rattle.quic_machine.specs.Control.{Control}
use Rattle.quic_machine.specs.Heard.{Heard}
use Rattle.quic_machine.specs.Closing.{Closing, loss_to_tell}
use Rattle.quic_machine.specs.End.{End, first_streams}
use Rattle.quic_machine.specs.Calls.{tells_of, streams_told, tells_message, tells_done, end_tells, message_told, confirmation_told, others_told, end_after_event}
use Rattle.quic_machine.specs.Machine.{IsAnswer, IsLeft, after_call, reads_window, end_left, fails}
use Rattle.quic_headline.specs.Alone.{Lone, IsLoneStep, IsNew, FollowsAlone}
use Rattle.quic_headline.specs.FewEvents.{finished_in, counted}
use Rattle.quic_headline.proofs.Halves.Finishing.{tells, told_counts}
use Rattle.quic_headline.proofs.Alone.Places.{Hands, made_holds}
use Rattle.quic_headline.proofs.Alone.Streams.{write_leaves, chunks_leave, IsKeptAlone, call_keeps}

-- a fact that each small change keeps, however halves change, but one by which it waits to be told
-- that a stream is finished
abbrev KeepsUntold : (StreamsState → Type 0) → Type 0
KeepsUntold P = KeepsAll (λ r id old new. Unit {0}) (λ s id old new. Unit {0}) (λ s id n old new. Unit {0}) (λ s dir. MayAccept s dir) (λ id. ⊥) P

-- such a fact is kept by each word about streams, where it is by an acknowledgement, and by bytes
-- on a sending half, however many count as accepted
module _ (P : StreamsState → Type 0) (k : KeepsUntold P) (acked : (s : StreamsState) (p : Retransmits) (m : StreamMeta) → P s → P (after_stream_acked s p m).state)
    (puts : (s : StreamsState) (id : ℕ) (h : SendHalf) (q : Queued) (n : ℕ) → sending_half s id ≡ Some h → P s → P (record s { sending = record (with_queued s.sending s.side id q) { accepted = n } })) where
  untold_kept : IsKeptAlone (λ (f : StreamValue). Unit {0}) P
  untold_kept = record {
    kept = record {
      quiet = record {
        opens = by_open P k;
        writes = λ is_open s p id bytes bounded i. by_write P k is_open s p id bytes bounded (λ n old new e on. tt) i;
        writes_chunks = λ is_open s p id chunks bounded i. by_write_chunks P k is_open s p id chunks bounded (λ n old new e on. tt) i;
        finishes = λ s id i. by_finish P k s id (λ h e r. tt) i;
        resets = λ s p id code i. by_reset P k s p id code (λ h e r. tt) i;
        sets_priority = λ s id priority i. by_set_priority P k s id priority (λ h e. tt) i;
        polls = λ s i. by_polled P k s i;
        stop_sending = λ s f i. by_stop_sending P k s f (λ h e. tt) i;
        max_data = λ s limit i. by_max_data P k s limit i;
        max_stream_data = λ s id limit i. by_max_stream_data P k s id limit (λ h e above. tt) i;
        max_streams = λ dir count s i. by_max_streams P k dir count s i;
        acked = acked;
        lost = λ s m i. by_stream_lost P k s m (λ h e none. tt) i;
        reset_acked = λ s p id i. by_reset_acked P k s p id i;
        stream_frames = λ fair most d i. by_stream_frames P k fair most d (λ s id room h e q. tt) i;
        control_frames = by_control_frames P k;
      };
      begun = λ s id ordered i. by_read_begun P k s id ordered (λ h e. tt) i;
      next = λ told s id most answer is i. by_next_answer P told s id most answer is (by_next P k told s id most (λ h c e f. tt) i) i;
      stop = λ s p id code i. by_stop P k s p id code (λ h e. tt) i;
      received_reset = λ s p id i. by_received_reset P k s p id i;
    };
    accept = λ dir s i. by_accept P k dir s (λ may. may) i;
    write = λ b answer s p id bytes i. write_leaves P puts b answer s p id bytes (λ full. by_blocked P k s p id (sending_half s id) refl i) i;
    chunks = λ b answer s p id chunks i. chunks_leave P puts b answer s p id chunks (λ full. by_blocked P k s p id (sending_half s id) refl i) i;
    stream = λ s p f fits i. by_stream P k s p f (λ h e u. tt) i;
    reset = λ s p f i. by_reset_frame P k s p f (λ h e u. tt) i;
  }

-- once, or not
abbrev one_if : Bool → ℕ
one_if b = if b then 1 else 0

module _ (id : ℕ) where
  -- ---- how often one stream is told to be finished

  -- so often at most: never before its half that sends is done, and once then
  module _ (n : ℕ) where
    abbrev Before : ℕ → Type 0
    Before j = j ≡ id → n ≡ 0

    abbrev Behind : ℕ → Type 0
    Behind j = j ≡ id → n ≤ 1

    abbrev AtMost : StreamsState → Type 0
    AtMost s = EachSends (λ j limit. Unit {0}) Before (λ j h. Before j) Behind s

    of_halves : AreOfHalves (λ j limit. Unit {0}) Before (λ j h. Before j) Behind
    of_halves = record { fresh = λ j limit f i. i; over = λ j h i ended same. (let none = i same in omega arith); blocked = λ j h b i. i; noted = λ j h said i. i; placed = λ j h p i. i }

    at_most_kept : KeepsBy (λ r j old new. Unit {0}) (λ s j old new. Unit {0}) (λ s j m old new. Unit {0}) AtMost
    at_most_kept = keeps_fewer (λ r j old new x. x) (λ s j old new x i. i) (λ s j m old new x i. i) (each_kept (λ j limit. Unit {0}) Before (λ j h. Before j) Behind of_halves)

    -- once at most
    once : (s : StreamsState) → AtMost s → n ≤ 1
    once s i = go (at s.sending.halves.live id) (has_place s.side s.sending.halves.places id) (i.each id)
      where
        go : (o : Option SendHalf) (used : Bool) → HalfIs (Before id) (λ h. Before id) (Behind id) o used → n ≤ 1
        go (Some h) used x = let none = x refl in omega arith
        go None true x = x refl
        go None false x = let none = x refl in omega arith

  -- and so not more often
  fewer : (n m : ℕ) (s : StreamsState) → m ≤ n → AtMost n s → AtMost m s
  fewer n m s le i = record {
    shape = i.shape;
    first = i.first;
    each = λ j. half_follows (λ x same. (let none = x same in omega arith)) (λ h x same. (let none = x same in omega arith)) (λ x same. (let one = x same in omega arith)) (at s.sending.halves.live j) (has_place s.side s.sending.halves.places j) (i.each j);
  }

  -- where it was told so often before, with what waits to be told
  module _ (k : ℕ) where
    abbrev with_waiting : StreamsState → ℕ
    with_waiting s = k + finishes_in id s.events.queue

    abbrev Once : StreamsState → Type 0
    Once s = AtMost (with_waiting s) s

    once_kept : KeepsUntold Once
    once_kept (changes.finishes j) s never i = absurd never
    once_kept (changes.accepts dir) s may i = at_most_kept (with_waiting s) (changes.accepts dir) s may i
    once_kept c s may i =
        let none = none_more_kept s.events c s may (λ q. omega arith) id in
        fewer (with_waiting s) (with_waiting (changes.after c s)) (changes.after c s) (omega arith) (at_most_kept (with_waiting s) c s may i)

    -- bytes on a half
    puts : (s : StreamsState) (j : ℕ) (h : SendHalf) (q : Queued) (n : ℕ) → sending_half s j ≡ Some h → Once s → Once (record s { sending = record (with_queued s.sending s.side j q) { accepted = n } })
    puts s j h q n is i =
        let w = sends_with s j h q is i.shape in
        record {
          shape = record { sending = w.sending; receiving = w.receiving };
          first = i.first;
          each = each_with s.side s.sending.halves j q.half (Before (with_waiting s)) (Before (with_waiting s)) (λ x g. Before (with_waiting s) x) (λ x g. Before (with_waiting s) x) (Behind (with_waiting s)) (Behind (with_waiting s)) i.shape.sending.runs
              (said_of (λ x limit. Unit {0}) (Before (with_waiting s)) (λ x g. Before (with_waiting s) x) (Behind (with_waiting s)) (of_halves (with_waiting s)) s j h is i) (λ x o used ne was. was) i.each;
        }

    -- the half of a stream is done that was in use, and it waits to be told that the stream is
    -- finished
    finished_once_more : (s : StreamsState) (j : ℕ) (h : SendHalf) → at s.sending.halves.live j ≡ Some h → Once s → Once (finished s j)
    finished_once_more s j h is i = go (not (is_own s.side j) && is_done (receiving_status s j))
      where
        more : ℕ
        more = k + finishes_in id (s.events.queue ++ stream_events.Finished j ∷ [])

        one : (b : Bool) → one_if b ≤ 1
        one true = omega arith
        one false = omega arith

        adds : finishes_in id (s.events.queue ++ stream_events.Finished j ∷ []) ≡ finishes_in id s.events.queue + (one_if (j == id) + 0)
        adds = finishes_append id s.events.queue (stream_events.Finished j ∷ [])

        -- of this stream
        was : Before (with_waiting s) j
        was = subst (λ (o : Option SendHalf). HalfIs (Before (with_waiting s) j) (λ g. Before (with_waiting s) j) (Behind (with_waiting s) j) o (has_place s.side s.sending.halves.places j)) is (i.each j)

        here : Behind more j
        here same = let none = was same in let few = one (j == id) in let sum = adds in omega arith

        -- of another, no more than before
        apart : (q : ℕ) → (q ≡ j → ⊥) → q ≡ id → more ≡ with_waiting s
        apart q ne same =
            let other : one_if (j == id) ≡ 0 = ap one_if (ne_eqb j id (λ e. ne (same ∙ sym e))) in
            let sum = adds in
            omega arith

        each : (q : ℕ) → HalfIs (Before more q) (λ g. Before more q) (Behind more q) (at (without s.sending.halves.live j) q) (has_place s.side s.sending.halves.places q)
        each q = elim (cases_eq q j) [
          | inl same ↦
              subst (λ (x : ℕ). HalfIs (Before more x) (λ g. Before more x) (Behind more x) (at (without s.sending.halves.live j) x) (has_place s.side s.sending.halves.places x)) (sym same)
              (subst (λ (o : Option SendHalf). HalfIs (Before more j) (λ g. Before more j) (Behind more j) o (has_place s.side s.sending.halves.places j)) (sym (at-without s.sending.halves.live j i.shape.sending.sorted))
              (subst (λ (b : Bool). HalfIs {A = SendHalf} (Before more j) (λ g. Before more j) (Behind more j) None b) (sym (i.shape.sending.placed j h is)) here))
          | inr ne ↦
              subst (λ (o : Option SendHalf). HalfIs (Before more q) (λ g. Before more q) (Behind more q) o (has_place s.side s.sending.halves.places q)) (sym (at-without-apart s.sending.halves.live j q ne))
              (half_follows (λ x same. apart q ne same ∙ x same) (λ g x same. apart q ne same ∙ x same) (λ x same. (let sum = apart q ne same in let few = x same in omega arith)) (at s.sending.halves.live q) (has_place s.side s.sending.halves.places q) (i.each q))
        ]

        shaped : (b : Bool) → IsShaped (done_if b j (without_send s j))
        shaped b = shape_done b j (without_send s j) (shape_without s j i.shape)

        go : (b : Bool) → Once (changes.after (changes.finishes j) (done_if b j (without_send s j)))
        go true = record { shape = shape_any (changes.finishes j) (done_if true j (without_send s j)) tt (shaped true); first = λ q. tt; each = each }
        go false = record { shape = shape_any (changes.finishes j) (done_if false j (without_send s j)) tt (shaped false); first = λ q. tt; each = each }

    -- a STREAM frame is acknowledged
    acked_once : (s : StreamsState) (p : Retransmits) (m : StreamMeta) → Once s → Once (after_stream_acked s p m).state
    acked_once s p m i = by_option (at s.sending.halves.live m.id) (λ o. Once (acked_at o s p m).state) (λ e. i) (λ h e. cond_both {A = Streams} (is_some h.reset) _ _ (λ t. Once t.state) (λ f. i) (λ f.
        let t : StreamsState = replaced s m.id (half_acked h m) in
        let now : Once t = once_kept (changes.queues m.id h (half_acked h m) (has_pending (half_acked h m))) s (live_sends s m.id h e, tt, refl) i in
        let there = at-half s.side s.sending.halves m.id (requeued_at h.place (has_pending (half_acked h m)) s.sending.queue m.id (half_acked h m)).half in
        cond_both {A = Streams} (is_acked (half_acked h m)) _ _ (λ u. Once u.state) (λ g. finished_once_more t m.id _ there now) (λ g. now)))

    once_keeps : IsKeptAlone (λ (f : StreamValue). Unit {0}) Once
    once_keeps = untold_kept Once once_kept acked_once puts

  -- ---- at the start

  once_first : (side : Side) (settings : Settings) (theirs : ParameterValues) → Once 0 (first_streams side settings theirs)
  once_first side settings theirs = record {
    shape = shape_set_params _ theirs (shape_new side settings.max_uni settings.max_bidi settings.send_window settings.receive_window settings.stream_receive_window);
    first = λ j. tt;
    each = λ j. none j (has_place side (first_streams side settings theirs).sending.halves.places j);
  }
    where
      none : (j : ℕ) (used : Bool) → HalfIs {A = SendHalf} (Before 0 j) (λ h. Before 0 j) (Behind 0 j) None used
      none j true = λ same. omega arith
      none j false = λ same. refl

  -- ---- events

  -- what a call tells is what is told of streams, where no message is, nor that the handshake is
  -- confirmed
  finished_as : (o : Option StreamEvent) (c : Closing) → finished_in id calls.Event (answers.Event (tells_of o c)) ≡ tells id o
  finished_as None c = go (loss_to_tell c)
    where
      go : (o : Option LostReason) → finished_in id calls.Event (answers.Event (option_map events.Lost o)) ≡ 0
      go None = refl
      go (Some reason) = refl
  finished_as (Some (stream_events.Finished s)) c = refl
  finished_as (Some (stream_events.Opened dir)) c = refl
  finished_as (Some (stream_events.Readable s)) c = refl
  finished_as (Some (stream_events.Writable s)) c = refl
  finished_as (Some (stream_events.Stopped s code)) c = refl
  finished_as (Some (stream_events.Available dir)) c = refl

  -- what was told more waits no more
  event_once : (k : ℕ) (e : End) → Once k e.streams → Once (finished_in id calls.Event (answers.Event (end_tells e)) + k) (end_after_event e).streams
  event_once k e i = go (tells_message e) (tells_done e)
    where
      same : Once (0 + k) e.streams
      same = fewer (with_waiting k e.streams) (with_waiting (0 + k) e.streams) e.streams (omega arith) i

      go : (b c : Bool) → Once (finished_in id calls.Event (answers.Event (if b then Some events.Message else (if c then Some events.HandshakeConfirmed else tells_of (streams_told e).answer e.closing))) + k) (if b then message_told e else (if c then confirmation_told e else others_told e)).streams
      go true c = same
      go false true = same
      go false false =
          let told = told_counts id e.streams in
          let same = finished_as (streams_told e).answer e.closing in
          let more : ℕ = finished_in id calls.Event (answers.Event (tells_of (streams_told e).answer e.closing)) + k in
          fewer (with_waiting k e.streams) (with_waiting more (polled e.streams).state) (polled e.streams).state (omega arith) (by_polled (AtMost (with_waiting k e.streams)) (at_most_kept (with_waiting k e.streams)) e.streams i)

  -- ---- any call

  module _ (p : Policy) (theirs : List (List ℕ)) where
    -- whatever datagram is handed in
    hands_any : (call : Call) → Hands theirs (λ (d : List ℕ). Unit {0}) call
    hands_any (calls.Deliver delivery) = λ d is. tt
    hands_any call = tt

    call_once : (k : ℕ) (e : End) (call : Call) (a : Answer) → IsAnswer p e theirs call a → Once k e.streams → Once (finished_in id call a + k) (after_call p e theirs call a).streams
    call_once k e calls.Event a is i = subst (λ (x : Answer). Once (finished_in id calls.Event x + k) (end_after_event e).streams) (sym is) (event_once k e i)
    call_once k e call a is i =
        let left : StreamsState = (after_call p e theirs call a).streams in
        fewer (with_waiting k left) (with_waiting (0 + k) left) left (omega arith) (call_keeps (λ (f : StreamValue). Unit {0}) (Once k) (once_keeps k) p e theirs i (λ (d : List ℕ). Unit {0}) (λ d h f stands. tt) call a is (hands_any call))

    -- whatever a call reads
    read_once : (k : ℕ) (control : Control) (heard : Heard) (call : Call) (e : End) → Once k e.streams → Once k (reads_window control heard call e).streams
    read_once k control heard (calls.Poll now) e i = i
    read_once k control heard call e i = i

    -- a call that doesn't fail
    step_once : (k : ℕ) (x next : Lone) (call : Call) (a : Answer) → IsLoneStep p theirs x call a next → fails a ≡ false → Once k x.end.streams → Once (finished_in id call a + k) next.end.streams
    step_once k x next call a s served i =
        let left : next.end ≡ end_left p x.control x.heard x.end theirs call a = subst (λ (b : Bool). IsLeft b p x.control x.heard x.end theirs call a next.end) served s.end in
        subst (λ (e : End). Once (finished_in id call a + k) e.streams) (sym left) (call_once k (reads_window x.control x.heard call x.end) call a s.answer (read_once k x.control x.heard call x.end i))

    -- the first calls, where it was told so often before
    told_once : (i k : ℕ) (x left : Lone) (cs : List Call) (told : List Answer) → FollowsAlone p theirs x cs told left → list_any fails (take i told) ≡ false → Once k x.end.streams → k + counted (finished_in id) (take i cs) (take i told) ≤ 1
    told_once zero k x left cs told f served o = let few = once (with_waiting k x.end.streams) x.end.streams o in omega arith
    told_once (suc i) k x left [] [] f served o = let few = once (with_waiting k x.end.streams) x.end.streams o in omega arith
    told_once (suc i) k x left [] (b ∷ told) f served o = absurd f
    told_once (suc i) k x left (c ∷ cs) [] f served o = absurd f
    told_once (suc i) k x left (c ∷ cs) (b ∷ told) f served o =
        let both = or_parts (fails b) (list_any fails (take i told)) served in
        let others = told_once i (finished_in id c b + k) f.0 left cs told f.2 both.1 (step_once k x f.0 c b f.1 both.0 o) in
        omega arith

pub finished_once : (p : Policy) (theirs : List (List ℕ)) (x left : Lone) (cs : List Call) (told : List Answer) → IsNew x.end → FollowsAlone p theirs x cs told left → (i : ℕ) → list_any fails (take i told) ≡ false → (id : ℕ)
    → counted (finished_in id) (take i cs) (take i told) ≤ 1
finished_once p theirs x left cs told new f i served id =
    let starts : Once id 0 x.end.streams = made_holds (λ (e : End). Once id 0 e.streams) x.end new (λ peer. once_first id new.side new.settings peer) in
    let few = told_once id p theirs i 0 x left cs told f served starts in
    omega arith
