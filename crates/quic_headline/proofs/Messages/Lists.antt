-- The messages that wait to go at an end are, at each place of an honest run, those that its lists
-- say; so where they say that one waits, polls send it.
use Rattle.std.proofs.Common.{◌≡◌, ℕ, zero, suc, ◌≤◌, Bool, true, false, List, [], ◌∷◌, ◌++◌, length, take, Option, Some, inl, inr, refl, sym, ap, ◌∙◌, subst, arith}
use Rattle.std.specs.Prelude.{slice_get, if◌then◌else◌}
use Rattle.std.proofs.lemmas.List.{append_assoc, append-nil}
use Rattle.std.proofs.lemmas.Option.{same_Some, slice_get_within, slice_get_cases}
use Rattle.quic_wire_core.specs.declared.stream_id.Side.{Side}
use Rattle.quic_wire_core.specs.declared.stream_id.Side.TheVariants.{Client, Server}
use Rattle.quic_wire_core.specs.StreamId.{other_side}
use Rattle.quic_config.specs.Transport.{TransportSettings}
use Rattle.quic_config.specs.declared.mtu_discovery.TheConstants.{MAX_UDP_PAYLOAD}
use Rattle.quic_congestion.specs.SearchBounds.{IsSized}
use Rattle.quic_parameters.specs.Parameters.{ParameterValues}
use Rattle.quic_messages.specs.Sending.{max_size}
use Rattle.quic_machine.specs.declared.run.RunEvent.{RunEvent}
use Rattle.quic_machine.specs.declared.run.Call.{Call}
use Rattle.quic_machine.specs.declared.run.Call.TheVariants as calls
use Rattle.quic_machine.specs.declared.run.Answer.{Answer}
use Rattle.quic_machine.specs.declared.run.View.{View}
use Rattle.quic_machine.specs.End.{End}
use Rattle.quic_machine.specs.Machine.{World, IsStep, after_call, reads_window, end_at, control_at, given_by, policy_at, gave, view_of, heard_at}
use Rattle.quic_machine.specs.RunLaws.{as_many_views, one_run}
use Rattle.quic_machine.specs.CallCases.{is_poll}
use Rattle.quic_machine.specs.MessageCalls.{is_on_messages}
use Rattle.quic_headline.specs.Runs.{Run, Told, Intake, In, given_of, same_side, told_by, folded, until, state_at, LeadsTo, AreServed}
use Rattle.quic_headline.specs.Observer.{Sent, Watch, watch_told, lens_of, watch_from, watch, sents_until}
use Rattle.quic_headline.specs.Headline.{IsHonest, IsRun}
use Rattle.quic_headline.proofs.Packets.Quiet.{HaveHeardNothing}
use Rattle.quic_headline.specs.Polls.{mtu_in, IsMade}
use Rattle.quic_headline.specs.Queue.{Outbox, outbox_behind, outbox_next, outbox_all, queue_room, longest_in, waiting_messages, MessagesGo}
use Rattle.quic_headline.proofs.Packets.Intakes.{folded_more}
use Rattle.quic_headline.proofs.Packets.Owing.{Owes}
use Rattle.quic_headline.proofs.Packets.Sizes.{Sizing, sizing}
use Rattle.quic_headline.proofs.Packets.Stays.{IsPlaced, placed_call}
use Rattle.quic_headline.proofs.Packets.Watching.{told_own}
use Rattle.quic_headline.proofs.Places.Steps.{only_polls_give}
use Rattle.quic_headline.proofs.Places.Moments.{told_none, last_view}
use Rattle.quic_headline.proofs.Packets.Group.{meets}
use Rattle.quic_headline.proofs.Packets.Ids.{SaysIds, IsLong, AnyNumber, KnownLong}
use Rattle.quic_headline.proofs.Packets.Delivered.{frames_at, among_at}
use Rattle.quic_headline.proofs.Places.Coming.{by_coming}
use Rattle.quic_headline.proofs.Places.Parties.{Party, told_of, came_to, sents_by}
use Rattle.quic_headline.proofs.Places.Placed.{party_at, placed, start_is}
use Rattle.quic_headline.proofs.Places.Everything as everything
use Rattle.quic_headline.proofs.Places.Theorems.{ready}
use Rattle.quic_headline.proofs.Halves.Ready.{Ready}
use Rattle.quic_headline.proofs.Channel.Messages.{AreTaken}
use Rattle.quic_headline.proofs.Held.Behind.{last_step}
use Rattle.quic_headline.proofs.Held.Messages.{bound}
use Rattle.quic_headline.proofs.Held.Clause.{Shortly, shortly, polls_send_messages}
use Rattle.quic_headline.proofs.Rest.Between.{step_leaves, side_is}
use Rattle.quic_headline.proofs.Sizes.Moves.{did_there}
use Rattle.quic_headline.proofs.Steps.Made.{served_before, told_next, told_here, made_served, left_at, made_end, reads_either, calling, call_holds, observed_poll, poll_holds, sents_more}
use Rattle.quic_headline.proofs.Steps.Resized.{size_there}
use Rattle.quic_headline.proofs.Messages.Dropped.{Drops, same_drops, arrivals_drop, quiet_drops, longest_of}
use Rattle.quic_headline.proofs.Messages.Waiting.{Fits, call_leaves}

-- ---- one event more

outbox_none : (room : ℕ) (most : View → Option ℕ) (side : Side) (events : List RunEvent) (views : List View) (o : Outbox) → outbox_all room most side events [] views o ≡ o
outbox_none room most side [] views o = refl
outbox_none room most side (event ∷ events) views o = refl

outbox_more : (room : ℕ) (most : View → Option ℕ) (side : Side) (i : ℕ) (events : List RunEvent) (answers : List Answer) (views : List View) (event : RunEvent) (a : Answer) (v : View) → slice_get events i ≡ Some event → slice_get answers i ≡ Some a → slice_get views i ≡ Some v → (o : Outbox)
    → outbox_all room most side events (take (suc i) answers) views o ≡ outbox_next room most side event a v (outbox_all room most side events (take i answers) views o)
outbox_more room most side i [] answers views event a v at_event at_answer at_view o = cc
outbox_more room most side i (e ∷ events) [] views event a v at_event at_answer at_view o = cc
outbox_more room most side i (e ∷ events) (b ∷ answers) [] event a v at_event at_answer at_view o = cc
outbox_more room most side zero (e ∷ events) (b ∷ answers) (u ∷ views) event a v at_event at_answer at_view o =
    outbox_none room most side events views (outbox_next room most side e b u o)
    ∙ ap (λ (x : RunEvent). outbox_next room most side x b u o) (same_Some e event at_event)
    ∙ ap (λ (x : Answer). outbox_next room most side event x u o) (same_Some b a at_answer)
    ∙ ap (λ (x : View). outbox_next room most side event a x o) (same_Some u v at_view)
outbox_more room most side (suc i) (e ∷ events) (b ∷ answers) (u ∷ views) event a v at_event at_answer at_view o =
    outbox_more room most side i events answers views event a v at_event at_answer at_view (outbox_next room most side e b u o)

-- what an end sent behind a call that is no poll is what it sent before
quiet_sent : (r : Run) (i : ℕ) (side : Side) (call : Call) (a : Answer) → is_poll call ≡ false → gave a ≡ false → until r side (suc i) ≡ until r side i ++ told_of call a (state_at r side i) ∷ [] → sents_until r side (suc i) ≡ sents_until r side i
quiet_sent r i side call a silent none told =
    let first : Watch = watch_from (end_at side r.start) (given_of r side) in
    ap (λ (ts : List Told). (folded (watch_told (lens_of r side)) ts first).own) told
    ∙ ap (λ (w : Watch). w.own) (folded_more (watch_told (lens_of r side)) (until r side i) (told_of call a (state_at r side i)) first)
    ∙ told_own (lens_of r side) (told_of call a (state_at r side i)) (watch r side i) none

-- ---- what waits

module _ (r : Run) (end : World) (honest : IsHonest r) (run : IsRun r end) (side : Side) where
  -- what the lists say of the first so many answers, where the end gives these
  abbrev pub outbox : ℕ → List Sent → Outbox
  outbox i sents = outbox_all (queue_room r side) (longest_in r side) side r.events (take i r.answers) r.views (record { waiting = []; left = sents })

  -- An end as it is at a place: what bounds its messages but the size is as it was first, and those
  -- wait that the lists say.
  pub record Waits (i : ℕ) (w : World) : Type 0 where
    pub transport : (end_at side w).transport ≡ (end_at side r.start).transport
    pub peer : (end_at side w).peer_params ≡ (end_at side r.start).peer_params
    pub waits : (more : List Sent) → outbox i (sents_until r side i ++ more) ≡ record { waiting = (end_at side w).messages.queues.outgoing; left = more }

  first_waits : Waits 0 r.start
  first_waits = record { transport = refl; peer = refl; waits = waits }
    where
      none_sent : sents_until r side 0 ≡ []
      none_sent = ap (λ (ts : List Told). (folded (watch_told (lens_of r side)) ts (watch_from (end_at side r.start) (given_of r side))).own) (told_none side r.events r.views (end_at side r.start).closing.state)

      none_waits : (end_at side r.start).messages.queues.outgoing ≡ []
      none_waits = ap (λ (e : End). e.messages.queues.outgoing) (start_is r.start honest.start side)

      waits : (more : List Sent) → outbox 0 (sents_until r side 0 ++ more) ≡ record { waiting = (end_at side r.start).messages.queues.outgoing; left = more }
      waits more =
          outbox_none (queue_room r side) (longest_in r side) side r.events r.views (record { waiting = []; left = sents_until r side 0 ++ more })
          ∙ ap (λ (ss : List Sent). record { waiting = []; left = ss ++ more }) none_sent
          ∙ ap (λ (ms : List (List ℕ)). record { waiting = ms; left = more }) (sym none_waits)

  -- what is known of the end wherever it is served: its size is lawful, and no message is too long
  abbrev IsShort : Sizing → Type 0
  IsShort s = IsSized 1200 MAX_UDP_PAYLOAD s.discovery × AreTaken (Some (bound s)) s.outgoing

  short_there : (i : ℕ) (w : World) → AreServed r i → LeadsTo r i w → IsShort (sizing (end_at side w))
  short_there i w served leads =
      let at = placed Shortly shortly r end honest run side i served in
      let same : at.world ≡ w = (one_run r.keys (take i r.answers) r.start (take i r.events) (take i r.views) (take i r.views) at.world w served at.leads leads).1 in
      subst (λ (u : World). IsShort (sizing (end_at side u))) same (at.gives.0.0.0.sized, at.gives.1.bounded)

  -- the ids that are known have the length of own ids
  pub known_there : (i : ℕ) (w : World) → AreServed r i → LeadsTo r i w → KnownLong (end_at side w).ids.peer
  known_there i w served leads =
      let at = placed Shortly shortly r end honest run side i served in
      let same : at.world ≡ w = (one_run r.keys (take i r.answers) r.start (take i r.events) (take i r.views) (take i r.views) at.world w served at.leads leads).1 in
      subst (λ (u : World). KnownLong (end_at side u).ids.peer) same at.gives.0.0.0.long.peer

  -- and what is owed is a close
  pub owes_there : (i : ℕ) (w : World) → AreServed r i → LeadsTo r i w → Owes (end_at side w)
  owes_there i w served leads =
      let at = placed Shortly shortly r end honest run side i served in
      let same : at.world ≡ w = (one_run r.keys (take i r.answers) r.start (take i r.events) (take i r.views) (take i r.views) at.world w served at.leads leads).1 in
      subst (λ (u : World). Owes (end_at side u)) same at.gives.0.0.0.owes

  -- a call at the other end
  other_waits : (i : ℕ) (event : RunEvent) (a : Answer) (v : View) (w next : World) → slice_get r.events i ≡ Some event → slice_get r.answers i ≡ Some a → slice_get r.views i ≡ Some v → same_side event.side side ≡ false → IsStep r.keys w event a next → Waits i w → Waits (suc i) next
  other_waits i event a v w next at_event at_answer at_view other step before = record {
    transport = ap (λ (e : End). e.transport) stays ∙ before.transport;
    peer = ap (λ (e : End). e.peer_params) stays ∙ before.peer;
    waits = λ more.
        outbox_more (queue_room r side) (longest_in r side) side i r.events r.answers r.views event a v at_event at_answer at_view (record { waiting = []; left = sents_until r side (suc i) ++ more })
        ∙ ap (λ (b : Bool). if b then outbox_behind (queue_room r side) (longest_in r side v) event.call a (outbox i (sents_until r side (suc i) ++ more)) else outbox i (sents_until r side (suc i) ++ more)) other
        ∙ ap (λ (ss : List Sent). outbox i (ss ++ more)) same_sents
        ∙ before.waits more
        ∙ ap (λ (e : End). record { waiting = e.messages.queues.outgoing; left = more }) (sym stays);
  }
    where
      stays : end_at side next ≡ end_at side w
      stays = (step_leaves side r.keys w next event a other step).end

      none_told : told_by side (state_at r side i) event a ≡ []
      none_told = ap (λ (b : Bool). if b then record { call = event.call; answer = a; state = state_at r side i } ∷ [] else []) other

      same_told : until r side (suc i) ≡ until r side i
      same_told = told_next side (end_at side r.start).closing.state i r.events r.answers r.views event a at_event at_answer (as_many_views r.keys r.start end r.events r.answers r.views run.follows)
          ∙ ap (λ (ts : List Told). until r side i ++ ts) none_told ∙ append-nil (until r side i)

      same_sents : sents_until r side (suc i) ≡ sents_until r side i
      same_sents = ap (λ (ts : List Told). (folded (watch_told (lens_of r side)) ts (watch_from (end_at side r.start) (given_of r side))).own) same_told

  -- a call of its own
  module _ (i : ℕ) (call : Call) (a : Answer) (v : View) (w next : World) (at_view : slice_get r.views i ≡ Some v) (shown : v ≡ view_of next) (m : IsMade r i side call a w next) (behind : LeadsTo r (suc i) next) where
    abbrev met : End
    met = reads_window (control_at side w) (heard_at side w) call (end_at side w)

    abbrev left : End
    left = after_call (policy_at side r.keys) met (given_by (other_side side) w) call a

    -- another pacer may be its
    left_is : end_at side next ≡ left_at r side w call a
    left_is = made_end r i side call a w next m

    -- what the end gave
    sent : (call : Call) → IsMade r i side call a w next → sents_until r side (suc i) ≡ sents_until r side i ++ sents_by (policy_at side r.keys) (reads_window (control_at side w) (heard_at side w) call (end_at side w)) call a
    sent (calls.Poll now) m =
        sents_more r i side now a w (observed_poll (everything.Streams Ready ready) r i side now a w (poll_holds (everything.All Ready ready) (everything.all Ready ready) r end honest run i side now a w next m))
    sent call m =
        quiet_sent r i side call a refl (only_polls_give (policy_at side r.keys) (reads_window (control_at side w) (heard_at side w) call (end_at side w)) (given_by (other_side side) w) call a refl m.step.answer)
        (told_next side (end_at side r.start).closing.state i r.events r.answers r.views (record { side = side; call = call }) a m.at.event m.at.answer (as_many_views r.keys r.start end r.events r.answers r.views run.follows)
        ∙ ap (λ (ts : List Told). until r side i ++ ts) (told_here side (state_at r side i) call a))
        ∙ sym (append-nil (sents_until r side i))

    own_waits : Waits i w → Waits (suc i) next
    own_waits before = record { transport = transport; peer = peer; waits = waits }
      where
        stays : IsPlaced met left
        stays = placed_call (policy_at side r.keys) met (given_by (other_side side) w) call a

        transport : (end_at side next).transport ≡ (end_at side r.start).transport
        transport = ap (λ (e : End). e.transport) left_is ∙ stays.transport ∙ reads_either (λ (e : End). e.transport ≡ (end_at side r.start).transport) (control_at side w) (heard_at side w) call (end_at side w) before.transport before.transport

        peer : (end_at side next).peer_params ≡ (end_at side r.start).peer_params
        peer = ap (λ (e : End). e.peer_params) left_is ∙ stays.peer ∙ reads_either (λ (e : End). e.peer_params ≡ (end_at side r.start).peer_params) (control_at side w) (heard_at side w) call (end_at side w) before.peer before.peer

        waiting_met : (end_at side w).messages.queues.outgoing ≡ met.messages.queues.outgoing
        waiting_met = reads_either (λ (e : End). (end_at side w).messages.queues.outgoing ≡ e.messages.queues.outgoing) (control_at side w) (heard_at side w) call (end_at side w) refl refl

        -- how long a message may be behind it
        longest : longest_in r side v ≡ longest_of (sizing left)
        longest =
            let e : End = end_at side r.start in
            ap (λ (n : ℕ). max_size e.peer_params.max_datagram_frame_size n (length e.ids.peer.id)) (ap (λ (u : View). mtu_in u side) shown ∙ size_there side next)
            ∙ ap (λ (p : ParameterValues). max_size p.max_datagram_frame_size (end_at side next).path.discovery.size (length e.ids.peer.id)) (sym peer)
            ∙ ap (λ (n : ℕ). max_size (end_at side next).peer_params.max_datagram_frame_size (end_at side next).path.discovery.size n) ((known_there 0 r.start refl refl).used ∙ sym (known_there (suc i) next m.served behind).used)
            ∙ ap (λ (x : End). longest_of (sizing x)) left_is

        fits : Fits (queue_room r side) met left
        fits =
            let here : IsShort (sizing (end_at side w)) = short_there i w (served_before r.answers i m.served) m.leads in
            let there : IsShort (sizing left) = subst (λ (e : End). IsShort (sizing e)) left_is (short_there (suc i) next m.served behind) in
            let read : IsShort (sizing met) = reads_either (λ (e : End). IsShort (sizing e)) (control_at side w) (heard_at side w) call (end_at side w) here here in
            record {
              room = reads_either (λ (e : End). e.transport.datagram_send_buffer_size ≡ queue_room r side) (control_at side w) (heard_at side w) call (end_at side w) (ap (λ (t : TransportSettings). t.datagram_send_buffer_size) before.transport) (ap (λ (t : TransportSettings). t.datagram_send_buffer_size) before.transport);
              sized = read.0;
              short = read.1;
              short_behind = there.1;
            }

        owes : Owes met
        owes = let here = owes_there i w (served_before r.answers i m.served) m.leads in reads_either Owes (control_at side w) (heard_at side w) call (end_at side w) here here

        -- messages aren't dropped by a call but where the size falls
        quiet : (k : Call) → IsMade r i side k a w next → is_poll k ≡ false → is_on_messages k ≡ false
            → let e : End = reads_window (control_at side w) (heard_at side w) k (end_at side w) in Drops (sizing e) (sizing (after_call (policy_at side r.keys) e (given_by (other_side side) w) k a))
        quiet (calls.Poll now) m unpolled off = cc
        quiet (calls.Deliver delivery) m unpolled off =
            let h = call_holds Shortly shortly r end honest run i side (calls.Deliver delivery) a w next (λ id is. cc) tt m in
            let x : Party = calling r i w side (calls.Deliver delivery) h.sents in
            let y : Party = party_at r i w (other_side side) h.theirs in
            (by_coming x y a h.joined (made_served r i side (calls.Deliver delivery) a w next m) (meets y x h.takes.0.0.0) (λ (e : End) (j : Intake). KnownLong e.ids.peer × Drops (sizing x.end) (sizing e)) (calls.Deliver delivery) m.step.answer (record {
              apart = λ apart. cc;
              none = λ d is. (h.gives.0.0.0.long.peer, same_drops (sizing x.end) h.gives.0.0.0.sized);
              comes = λ d is s among here. arrivals_drop x.end d.now s.number s.frames (frames_at here s.frames) (came_to x y) (among_at (SaysIds IsLong AnyNumber) tt here s.frames (λ f carried. h.takes.0.0.0.tells s f among carried)) h.gives.0.0.0.long.peer h.gives.0.0.0.sized;
            })).1
        quiet k m unpolled off = quiet_drops (policy_at side r.keys) (end_at side w) (given_by (other_side side) w) k a refl refl off (known_there i w (served_before r.answers i m.served) m.leads) (short_there i w (served_before r.answers i m.served) m.leads).0

        waits : (more : List Sent) → outbox (suc i) (sents_until r side (suc i) ++ more) ≡ record { waiting = (end_at side next).messages.queues.outgoing; left = more }
        waits more =
            let new : List Sent = sents_by (policy_at side r.keys) met call a in
            outbox_more (queue_room r side) (longest_in r side) side i r.events r.answers r.views (record { side = side; call = call }) a v m.at.event m.at.answer at_view (record { waiting = []; left = sents_until r side (suc i) ++ more })
            ∙ at_side side (outbox i (sents_until r side (suc i) ++ more))
            ∙ ap (λ (ss : List Sent). outbox_behind (queue_room r side) (longest_in r side v) call a (outbox i (ss ++ more))) (sent call m)
            ∙ ap (λ (ss : List Sent). outbox_behind (queue_room r side) (longest_in r side v) call a (outbox i ss)) (append_assoc (sents_until r side i) new more)
            ∙ ap (outbox_behind (queue_room r side) (longest_in r side v) call a) (before.waits (new ++ more))
            ∙ ap (λ (ms : List (List ℕ)). outbox_behind (queue_room r side) (longest_in r side v) call a (record { waiting = ms; left = new ++ more })) waiting_met
            ∙ ap (λ (o : Option ℕ). outbox_behind (queue_room r side) o call a (record { waiting = met.messages.queues.outgoing; left = new ++ more })) longest
            ∙ call_leaves (queue_room r side) (policy_at side r.keys) met (given_by (other_side side) w) call a owes (quiet call m) fits m.step.answer (made_served r i side call a w next m) more
            ∙ ap (λ (e : End). record { waiting = e.messages.queues.outgoing; left = more }) (sym left_is)
          where
            at_side : (by : Side) (o : Outbox) → outbox_next (queue_room r side) (longest_in r side) by (record { side = by; call = call }) a v o ≡ outbox_behind (queue_room r side) (longest_in r side v) call a o
            at_side Client o = refl
            at_side Server o = refl

  -- one event more
  next_waits : (i : ℕ) (v : View) (next : World) → slice_get r.views i ≡ Some v → AreServed r (suc i) → LeadsTo r (suc i) next → ((w : World) → LeadsTo r i w → Waits i w) → Waits (suc i) next
  next_waits i v next at_view served leads before =
      let did = did_there i r.keys r.start end r.events r.answers r.views v run.follows at_view in
      let last = last_step r.keys i r.start next r.events r.answers r.views did.event did.answer did.at_event did.at_answer leads in
      go did.event did.answer did.at_event did.at_answer last.before last.leads last.step (same_side did.event.side side) refl
    where
      go : (event : RunEvent) (a : Answer) → slice_get r.events i ≡ Some event → slice_get r.answers i ≡ Some a → (w : World) → LeadsTo r i w → IsStep r.keys w event a next → (b : Bool) → same_side event.side side ≡ b → Waits (suc i) next
      go event a at_event at_answer w there step false other = other_waits i event a v w next at_event at_answer at_view other step (before w there)
      go event a at_event at_answer w there step true is = own_waits i event.call a v w next at_view (last_view r.keys i r.start next r.events r.answers r.views v leads at_view)
          (subst (λ (by : Side). IsMade r i by event.call a w next) (side_is event.side side is) (record { at = record { event = at_event; answer = at_answer }; leads = there; step = step; served = served })) leads (before w there)

  -- at each place
  pub waits_at : (i : ℕ) (w : World) → i ≤ length r.views → AreServed r i → LeadsTo r i w → Waits i w
  waits_at zero w within served leads = subst (λ (u : World). Waits 0 u) (sym leads) first_waits
  waits_at (suc i) next within served leads = elim (slice_get_cases r.views i).1 [
    | inl there ↦ next_waits i there.0 next there.2 served leads (λ w before. waits_at i w (omega (arith, within)) (served_before r.answers i served) before)
    | inr past ↦ (let far = past.0 in absurd (omega (arith, within, far)))
  ]

  -- those wait that the lists say
  pub waiting_is : (i : ℕ) (w : World) → i ≤ length r.views → AreServed r i → LeadsTo r i w → waiting_messages r side i ≡ (end_at side w).messages.queues.outgoing
  waiting_is i w within served leads = ap (λ (o : Outbox). o.waiting) (ap (outbox i) (sym (append-nil (sents_until r side i))) ∙ (waits_at i w within served leads).waits [])

-- ---- the clause

pub messages_go : (r : Run) (end : World) → IsHonest r → IsRun r end → HaveHeardNothing r.start → MessagesGo r
messages_go r end honest run quiet side i now message v served gave waits =
    let at = placed Shortly shortly r end honest run side (suc i) served in
    let within = slice_get_within r.views i v gave.shown in
    polls_send_messages r end honest run quiet side i now message v at.world served gave at.leads (subst (In message) (waiting_is r end honest run side (suc i) at.world (omega (arith, within)) served at.leads) waits)
