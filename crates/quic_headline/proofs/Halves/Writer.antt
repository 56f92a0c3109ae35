-- The writing side between two ends, as one group over their packets: the one that gives holds what
-- was written at it, and what it sent says so.
use Rattle.std.proofs.Common.{◌≡◌, ℕ, ◌≤◌, ◌^◌, Bool, true, false, List, [], ◌∷◌, ◌++◌, refl, sym, ◌∙◌, subst, inl, inr}
use Rattle.quic_wire_core.specs.declared.stream_id.Side.{Side}
use Rattle.quic_wire_core.specs.declared.stream_id.Dir.{Dir}
use Rattle.quic_wire_core.specs.declared.stream_id.Dir.TheVariants.{Bi, Uni}
use Rattle.quic_parameters.specs.Parameters.{ParameterValues}
use Rattle.quic_config.specs.Transport.{Settings, parameters_of, IsInRange}
use Rattle.quic_streams_parts.specs.Dirs.{of}
use Rattle.quic_streams_state.specs.declared.state.StreamsState.{StreamsState}
use Rattle.quic_streams_laws.specs.StartLaws.{few_new, queue_new, blocked_new, few_set_params, queue_set_params, blocked_set_params}
use Rattle.quic_streams_laws.specs.WrittenResets.{resets_grow}
use Rattle.quic_machine.specs.FrameCases.{begun, apart_leaves}
use Rattle.quic_wire.specs.Value.{FrameValue}
use Rattle.quic_streams_state.specs.State.{Streams, new_streams}
use Rattle.quic_streams_laws.specs.KeepingLaws.{by_polled}
use Rattle.quic_streams_laws.specs.GrowsLaws.{grows_same}
use Rattle.quic_streams_laws.specs.Written.{Wrote, Grows, HasSmallLimits, nothing_done}
use Rattle.quic_streams_laws.specs.WrittenLaws.{holds_same, holds_new, holds_set_params}
use Rattle.quic_machine.specs.declared.run.Call.{Call}
use Rattle.quic_machine.specs.declared.run.Call.TheVariants as calls
use Rattle.quic_machine.specs.declared.run.Answer.{Answer}
use Rattle.quic_machine.specs.Policy.{Policy}
use Rattle.quic_machine.specs.Calls.{is_open}
use Rattle.quic_machine.specs.End.{End, streams_at, with_closing, first_streams}
use Rattle.quic_machine.specs.Receive.{Outcome}
use Rattle.quic_machine.specs.Poll.{polled}
use Rattle.quic_machine.specs.PollCases.{ready_at, draft_at, frames_at, may_leave_at}
use Rattle.quic_machine.specs.StreamCalls.{is_on_streams, IsStreamAnswer, after_on_streams}
use Rattle.quic_machine.specs.Machine.{IsAnswer, after_call, gave}
use Rattle.quic_machine.specs.CallCases.{is_delivery, by_call, by_done}
use Rattle.quic_machine.specs.LeaveCases.{by_expired, by_event}
use Rattle.quic_headline.specs.Runs.{Told, Intake, Packet, In}
use Rattle.quic_headline.specs.Observer.{Sent}
use Rattle.quic_headline.proofs.Packets.Growth.{step_of}
use Rattle.quic_headline.proofs.Packets.Owing.{sent_fine}
use Rattle.quic_headline.proofs.Places.Told.{in_append}
use Rattle.quic_headline.proofs.Places.Steps.{poll_answer}
use Rattle.quic_headline.proofs.Packets.Invariant.{IsSent}
use Rattle.quic_headline.proofs.Packets.Delivered.{Arrivals, arrived, frames_at as taken_at, among_at}
use Rattle.quic_headline.proofs.Packets.Named.{TakesOn, frames_settle, NamesTaken}
use Rattle.quic_headline.proofs.Packets.Group.{PacketsHold, meets}
use Rattle.quic_headline.proofs.Places.Coming.{by_coming}
use Rattle.quic_headline.proofs.Places.Groups.{Way, Calls, Group}
use Rattle.quic_headline.proofs.Places.Parties.{sent_by, sent_if, sents_by, told_of, Party, called, came_to, Beginning, begun_as, AreMade}
use Rattle.quic_headline.proofs.Halves.Ghosts.{SaysOf, GoesOf, goes_says, Saying}
use Rattle.quic_headline.proofs.Halves.Kept.{Keeping, keeping_kept}
use Rattle.quic_headline.proofs.Halves.Wrote.{wrote, done_by, ResetsFirst, wrote_more}
use Rattle.quic_headline.proofs.Halves.Writes.{Writes, calls_leave, calls_grow, resets_first, asked_writes}
use Rattle.quic_headline.proofs.Halves.Says.{AllSay, SentSay, says_grow, CarriedSays, sent_says, taken_says, tracked_says}
use Rattle.quic_headline.proofs.Halves.Counts.{counts_in_range}
use Rattle.quic_headline.proofs.Halves.Small.{IsSmallLimit, payload_small}
use Rattle.quic_headline.proofs.Halves.Sends.{composed_draws, padded_go, draft_draws}
use Rattle.quic_headline.proofs.Halves.Arrives.{frame_leaves, lost_leaves, again_leaves, settles_leave}
use Rattle.quic_machine.specs.Tracking.{TrackedPacket}
use Rattle.quic_machine.specs.Closing.{ticked}
use Rattle.quic_headline.proofs.Packets.Apart.{by_waits, by_next_id}
use Rattle.quic_headline.proofs.Packets.Losses.{Losing, expiry_stays, ready_stays}
use Rattle.quic_headline.proofs.Packets.Probes.{poll_streams}
use Rattle.quic_headline.proofs.Packets.Strays.{acks_at}
use Rattle.quic_headline.proofs.Packets.Moved.{by_migrated}

-- x gives
pub record WritesHold (x y : Party) : Type 0 where
  -- its streams hold what was written on them, and what waits says how they were reset
  pub writes : Writes (wrote x.told) (streams_at x.end)
  -- each frame of what it sent says what was written
  pub says : Saying x y

-- ---- what was done

-- the same was done
writes_same : (done more : ℕ → Wrote) (t : Streams) → ((q : ℕ) → more q ≡ done q) → Writes done t → Writes more t
writes_same done more t same w = record {
  keeps = record { holds = holds_same done more t.state same w.keeps.holds; few = w.keeps.few; orderly = w.keeps.orderly; blocked = w.keeps.blocked };
  waits = resets_grow done more t.pending (λ q. subst (Grows (done q)) (sym (same q)) (grows_same (done q))) w.waits;
}

-- a call that isn't on streams writes nothing
done_same : (call : Call) (a : Answer) (done : ℕ → Wrote) → is_on_streams call ≡ false → (q : ℕ) → done_by call a done q ≡ done q
done_same (calls.Write id bytes) a done off q = cc
done_same (calls.WriteChunks id chunks) a done off q = cc
done_same (calls.Finish id) a done off q = cc
done_same (calls.Reset id code) a done off q = cc
done_same call a done off q = refl

-- one that is, is answered as the streams say
on_answer : (p : Policy) (e : End) (theirs : List (List ℕ)) (call : Call) (a : Answer) → is_on_streams call ≡ true → IsAnswer p e theirs call a → IsStreamAnswer (is_open e.closing.state) e.streams call a
on_answer p e theirs (calls.Send message makes_room) a on is = cc
on_answer p e theirs calls.Recv a on is = cc
on_answer p e theirs calls.Ping a on is = cc
on_answer p e theirs (calls.Close close) a on is = cc
on_answer p e theirs calls.UseNextId a on is = cc
on_answer p e theirs calls.HandshakeDone a on is = cc
on_answer p e theirs calls.State a on is = cc
on_answer p e theirs (calls.Poll now) a on is = cc
on_answer p e theirs (calls.Timeout now) a on is = cc
on_answer p e theirs (calls.Deliver delivery) a on is = cc
on_answer p e theirs (calls.Inject injection) a on is = cc
on_answer p e theirs calls.Event a on is = cc
on_answer p e theirs (calls.Timer timer) a on is = cc
on_answer p e theirs calls.NextTimeout a on is = cc
on_answer p e theirs call a on is = is

-- a call of another kind is none on streams
off_streams : (b : Bool) → b ≡ false → b ≡ true → ⊥
off_streams b off on = let clash : false ≡ true = sym off ∙ on in cc

module _ (p : Policy) (e : End) (theirs : List (List ℕ)) (done : ℕ → Wrote) (w : Writes done (streams_at e)) where
  -- ---- a poll

  -- what its tracked packets carried says what was written
  abbrev Says : Type 0
  Says = (n : ℕ) (t : TrackedPacket) → In (n, t) e.tracking.packets → CarriedSays done t.carried

  -- so packets that are lost, and probes, leave it
  losing : Says → Losing e.tracking.packets (Writes done)
  losing says = record { lost = λ n t m x among inside v. lost_leaves done x v m ((says n t among).ends m inside); again = λ n t x among v. again_leaves done x v t.carried (says n t among) }

  ready_writes : Says → (now : ℕ) → Writes done (streams_at (ready_at e now).end)
  ready_writes says now = ready_stays (Writes done) e now (losing says) w (asked_writes done)

  -- what it gives says what was written, and is of no stream that was reset
  pub poll_goes : Says → (now : ℕ) (f : FrameValue) → In f (frames_at e now) → GoesOf done f
  poll_goes says now = padded_go done (draft_at e now) (draft_draws done (ready_at e now).leaving (ready_at e now).end (may_leave_at e now) (ready_writes says now))

  pub poll_says : Says → (now : ℕ) → AllSay done (frames_at e now)
  poll_says says now f among = goes_says done f (poll_goes says now f among)

  poll_writes : Says → (now : ℕ) → Writes done (streams_at (polled p e now).end)
  poll_writes says now = poll_streams (Writes done) p e now (λ x v. (composed_draws done x v).writes) w (ready_writes says now)

  -- ---- calls that are no delivery

  pub call_writes : Says → (call : Call) (a : Answer) → IsAnswer p e theirs call a → is_delivery call ≡ false → (b : Bool) → is_on_streams call ≡ b → Writes (done_by call a done) (streams_at (after_call p e theirs call a))
  call_writes says call a is apart true on = by_on call a on (calls_leave done e.streams e.waiting.frames w (is_open e.closing.state) call a (on_answer p e theirs call a on is))
    where
      by_on : (call : Call) (a : Answer) → is_on_streams call ≡ true → Writes (done_by call a done) (after_on_streams (is_open e.closing.state) (streams_at e) call a) → Writes (done_by call a done) (streams_at (after_call p e theirs call a))
      by_on (calls.Send message makes_room) a on left = cc
      by_on calls.Recv a on left = cc
      by_on calls.Ping a on left = cc
      by_on (calls.Close close) a on left = cc
      by_on calls.UseNextId a on left = cc
      by_on calls.HandshakeDone a on left = cc
      by_on calls.State a on left = cc
      by_on (calls.Poll now) a on left = cc
      by_on (calls.Timeout now) a on left = cc
      by_on (calls.Deliver delivery) a on left = cc
      by_on (calls.Inject injection) a on left = cc
      by_on calls.Event a on left = cc
      by_on (calls.Timer timer) a on left = cc
      by_on calls.NextTimeout a on left = cc
      by_on call a on left = left
  call_writes says call a is apart false off = writes_same done (done_by call a done) (streams_at (after_call p e theirs call a)) (done_same call a done off) (by_call p e theirs (λ (f : End). Writes done (streams_at f)) call a (record {
    same = w;
    on_streams = λ on answer. absurd (off_streams (is_on_streams call) off on);
    on_messages = λ on answer. w;
    pings = w;
    closes = λ reason f now own. w;
    waits = λ now b set. by_waits (λ (f : End). Writes done (streams_at f)) b (with_closing e (ticked e.closing now)) w w;
    changes_id = λ uses answer. by_next_id (λ (f : End). Writes done (streams_at f)) e a w (λ c. record { keeps = w.keeps; waits = w.waits }) (λ c most. record { keeps = w.keeps; waits = w.waits });
    says_handshake = λ says answer. by_done (λ (f : End). Writes done (streams_at f)) e a w (record { keeps = w.keeps; waits = w.waits });
    times = λ now expiry set. by_expired p.words e now (λ (f : End). Writes done (streams_at f)) (λ pending tracking timers waits asked runs packets. w) (λ pending timers waits asked runs. expiry_stays (Writes done) e now (losing says) w pending timers waits asked) (λ x j. j) expiry;
    polls = λ now set. poll_writes says now;
    hears = λ arrival d set. absurd (off_streams (is_delivery call) apart set);
    tells = λ asks. by_event e (λ (f : End). Writes done (streams_at f)) w w (λ told. record { keeps = by_polled (Keeping done) (keeping_kept done) e.streams w.keeps; waits = w.waits });
  }))

  -- what was done only grows
  pub call_grows : (call : Call) (a : Answer) → IsAnswer p e theirs call a → (b : Bool) → is_on_streams call ≡ b → (q : ℕ) → Grows (done q) (done_by call a done q)
  call_grows call a is true on q = calls_grow done e.streams e.waiting.frames w (is_open e.closing.state) call a (on_answer p e theirs call a on is) q
  call_grows call a is false off q = subst (Grows (done q)) (sym (done_same call a done off q)) (grows_same (done q))

  call_first : (call : Call) (a : Answer) → IsAnswer p e theirs call a → (b : Bool) → is_on_streams call ≡ b → ResetsFirst done call a
  call_first call a is true on = resets_first done e.streams e.waiting.frames w (is_open e.closing.state) call a (on_answer p e theirs call a on is)
  call_first call a is false off = none call a off
    where
      none : (call : Call) (a : Answer) → is_on_streams call ≡ false → ResetsFirst done call a
      none (calls.Reset id code) a off = cc
      none call a off = tt

-- ---- a delivery

module _ (x y : Party) (p : PacketsHold x y) (back : PacketsHold y x) (say : Saying x y) (w : Writes (wrote x.told) (streams_at x.end)) where
  -- what comes leaves
  arrivals_write : (now : ℕ) (s : Sent) → In s y.sents → (here : Bool) → Arrivals x.end now s.number s.frames (taken_at here s.frames) (came_to x y) (λ (o : Outcome) (i : Intake). Writes (wrote x.told) (streams_at o.end))
  arrivals_write now s among here = record {
    ignored = λ reason. w;
    noted = λ state reason. w;
    takes = λ words state new none urged mark. (let a = passed_writes in record { keeps = a.keeps; waits = a.waits });
    moves = λ q o same remote z opened j. by_migrated (λ (e : End). Writes (wrote x.told) (streams_at e)) q o remote z (λ c. record { keeps = j.keeps; waits = j.waits }) (λ c most. record { keeps = j.keeps; waits = j.waits });
    drains = λ words state new close is. (let a = passed_writes in record { keeps = a.keeps; waits = a.waits });
    refuses = λ words state new f is. (let a = passed_writes in record { keeps = a.keeps; waits = a.waits });
    exhausts = λ state. w;
  }
    where
      took : List Packet
      took = (came_to y x).took

      taken : List FrameValue
      taken = taken_at here s.frames

      small : (f : FrameValue) → In f taken → IsSmallLimit f
      small = let given = (step_of (IsSent y.policy) y.sents y.given s back.gives.each among).1 in among_at IsSmallLimit tt here s.frames (payload_small s.frames given.payload given.spells)

      takes : TakesOn took x.sents taken (λ (e : End). Writes (wrote x.told) (streams_at e))
      takes = record {
        settles = settles_leave (wrote x.told) took x.sents (taken_says (wrote x.told) x.sents say took p.taken) (sent_says (wrote x.told) x.sents say);
        names = λ a e i j. j;
        on_streams = λ f e i on j. frame_leaves (wrote x.told) e j f on (small f i);
        message = λ m e j. j;
        apart = λ f e i apart j. apart_leaves (λ (g : End). Writes (wrote x.told) (streams_at g)) f e apart (λ c. record { keeps = j.keeps; waits = j.waits }) (λ c most. record { keeps = j.keeps; waits = j.waits });
      }

      passed_writes : Writes (wrote x.told) (streams_at (arrived x.end now s.number taken).end)
      passed_writes = frames_settle took x.sents (record { taken = p.taken; rising = p.gives.rising }) taken (λ (e : End). Writes (wrote x.told) (streams_at e)) takes (begun x.end now s.number)
          (acks_at (NamesTaken took) here s.frames (λ a i k named. back.named s a k among i named)) p.tracked w

-- ---- any call

module _ (B : Way) (packets : (x y : Party) → B x y → PacketsHold x y) (x y : Party) (call : Call) (a : Answer) (c : Calls B x y call a) (g : WritesHold x y) where
  -- what is told then
  more : List Told
  more = x.told ++ told_of call a x.end.closing.state ∷ []

  abbrev done : ℕ → Wrote
  done = wrote x.told

  -- what is tracked says what was done
  tracked : (n : ℕ) (t : TrackedPacket) → In (n, t) x.end.tracking.packets → CarriedSays done t.carried
  tracked n t among = tracked_says done x.sents g.says x.end.tracking.packets (packets x y c.gives).tracked n t among

  -- what was done behind the call
  pub done_behind : (q : ℕ) → wrote (x.told ++ told_of call a x.end.closing.state ∷ []) q ≡ done_by call a done q
  done_behind q = wrote_more x.told (told_of call a x.end.closing.state) q (call_first x.policy x.end y.given done g.writes call a c.answer (is_on_streams call) refl)

  -- it only grew
  pub grows_behind : (q : ℕ) → Grows (done q) (wrote (x.told ++ told_of call a x.end.closing.state ∷ []) q)
  grows_behind q = subst (Grows (done q)) (sym (done_behind q)) (call_grows x.policy x.end y.given done g.writes call a c.answer (is_on_streams call) refl q)

  writes_behind : Writes (wrote (x.told ++ told_of call a x.end.closing.state ∷ [])) (streams_at (called x y.given call a).end)
  writes_behind = writes_same (done_by call a done) (wrote (x.told ++ told_of call a x.end.closing.state ∷ [])) (streams_at (called x y.given call a).end) done_behind
      (by_coming x y a c.joined c.served (meets y x (packets y x c.takes)) (λ (e : End) (i : Intake). Writes (done_by call a done) (streams_at e)) call c.answer (record {
        apart = λ apart. call_writes x.policy x.end y.given done g.writes tracked call a c.answer apart (is_on_streams call) refl;
        none = λ delivery is. subst (λ (k : Call). Writes (done_by k a done) (streams_at x.end)) (sym is) g.writes;
        comes = λ delivery is s among here. subst (λ (k : Call). Arrivals x.end delivery.now s.number s.frames (taken_at here s.frames) (came_to x y) (λ (o : Outcome) (i : Intake). Writes (done_by k a done) (streams_at o.end))) (sym is)
            (arrivals_write x y (packets x y c.gives) (packets y x c.takes) g.says g.writes delivery.now s among here);
      }))

  -- what was sent says so still
  old_says : SentSay (wrote (x.told ++ told_of call a x.end.closing.state ∷ [])) x.sents
  old_says s i f j = says_grow done (wrote (x.told ++ told_of call a x.end.closing.state ∷ [])) grows_behind f (g.says s i f j)

  -- so does what a poll gives
  more_says : (k : Call) → IsAnswer x.policy x.end y.given k a → SentSay done (sents_by x.policy x.end k a)
  more_says (calls.Poll now) is = subst (λ (b : Answer). SentSay done (sent_if (gave b) (sent_by x.policy x.end now))) (sym (poll_answer x.policy x.end now a is c.served))
      (sent_fine (SaysOf done) (λ c. tt) (λ c. tt) tt x.policy x.end now (packets x y c.gives).owes (λ opened. poll_says x.policy x.end y.given done g.writes tracked now))
  more_says k is = λ s i. absurd i

  says_behind : SentSay (wrote (x.told ++ told_of call a x.end.closing.state ∷ [])) (x.sents ++ sents_by x.policy x.end call a)
  says_behind s i f j = elim (in_append s x.sents (sents_by x.policy x.end call a) i) [
    | inl old ↦ old_says s old f j
    | inr new ↦ says_grow done (wrote (x.told ++ told_of call a x.end.closing.state ∷ [])) grows_behind f (more_says call c.answer s new f j)
  ]

  -- x calls
  pub writes_on : WritesHold (called x y.given call a) y
  writes_on = record { writes = writes_behind; says = says_behind }

-- ---- the start

-- nothing was written on the streams of an end that is made by such settings, whose peer told small
-- limits
pub first_keeping : (side : Side) (s : Settings) (theirs : ParameterValues) → HasSmallLimits theirs → (theirs.initial_max_streams_bidi ≤ 2 ^ 60) × (theirs.initial_max_streams_uni ≤ 2 ^ 60) → Keeping (λ id. nothing_done) (first_streams side s theirs)
first_keeping side s theirs small counts = record {
  holds = holds_set_params (λ id. nothing_done) start theirs small (holds_new side s.max_uni s.max_bidi s.send_window s.receive_window s.stream_receive_window);
  few = few_set_params start theirs (λ d. none d) counts.0 counts.1 (few_new side s.max_uni s.max_bidi s.send_window s.receive_window s.stream_receive_window);
  orderly = queue_set_params start theirs (queue_new side s.max_uni s.max_bidi s.send_window s.receive_window s.stream_receive_window);
  blocked = blocked_set_params start theirs (blocked_new side s.max_uni s.max_bidi s.send_window s.receive_window s.stream_receive_window);
}
  where
    start : StreamsState
    start = new_streams side s.max_uni s.max_bidi s.send_window s.receive_window s.stream_receive_window

    none : (d : Dir) → of d start.opening.own ≡ 0
    none Bi = refl
    none Uni = refl

-- so it is of two ends that were made for one another
pub writes_first : (x y : Beginning) → AreMade x y → WritesHold (begun_as x y) (begun_as y x)
writes_first x y m = record {
  writes = record {
    keeps = (
        let range : IsInRange y.making.settings = m.y_is.range in
        let theirs : ParameterValues = parameters_of y.making.settings in
        first_keeping x.side x.making.settings theirs (record { own_bi = range.stream_receive_window; own_uni = range.stream_receive_window; remote = range.stream_receive_window }) (counts_in_range y.making.parameters theirs m.y_is.says));
    waits = tt;
  };
  says = λ s i. absurd i;
}

-- the writing side, over whatever gives the packets
pub writes_group : (B : Way) → ((x y : Party) → B x y → PacketsHold x y) → Group B WritesHold
writes_group B packets = record {
  first = λ x y m there back. writes_first x y m;
  writer = λ x y call a c g h. writes_on B packets x y call a c g;
  reader = λ x y call a c g h. record { writes = h.writes; says = h.says };
  shows = λ x y here there b back g h. record { writes = g.writes; says = g.says };
}
