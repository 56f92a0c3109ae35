-- Where a probe waits, a poll that leaves its end open gives a datagram that asks for an
-- acknowledgement (RFC 9002, sections 6.2.4 and 7.5).
use Rattle.std.proofs.Common.{◌≡◌, ℕ, suc, ◌+◌, ◌-◌, ◌<◌, ◌≤◌, [], ◌∷◌, ◌++◌, length, Bool, true, false, Some, None, Ok, refl, sym, ap, ◌∙◌, subst, ◌⊎◌, inl, inr, arith, Option}
use Rattle.std.specs.Prelude.{not, ◌||◌, slice_get}
use Rattle.std.proofs.lemmas.Bool.{or_left, or_right, and_parts, not-true}
use Rattle.std.proofs.lemmas.List.{length-append}
use Rattle.std.proofs.lemmas.List.Folds.{list_any-append}
use Rattle.quic_wire_core.specs.declared.stream_id.Side.{Side}
use Rattle.quic_wire_core.specs.StreamId.{other_side}
use Rattle.quic_wire.specs.Value.{FrameValue, padding, ack, connection_close, application_close, asks, ack_frequency}
use Rattle.quic_recovery_core.specs.PendingAcks.{Pending, is_filled, can_send}
use Rattle.quic_retransmits.specs.Retransmits.{nothing_waits}
use Rattle.quic_streams_parts.specs.Table.{added}
use Rattle.quic_streams_state.specs.State.{Streams}
use Rattle.quic_streams_state.specs.Waiting.{is_empty}
use Rattle.quic_streams_state.specs.Control as control
use Rattle.quic_machine.specs.declared.answers.State.{State}
use Rattle.quic_machine.specs.declared.answers.State.TheVariants as states
use Rattle.quic_machine.specs.declared.answers.Transmit.{Transmit}
use Rattle.quic_machine.specs.declared.run.Call.TheVariants as calls
use Rattle.quic_machine.specs.declared.run.Answer.{Answer}
use Rattle.quic_machine.specs.declared.run.Answer.TheVariants as answers
use Rattle.quic_machine.specs.declared.run.View.{View}
use Rattle.quic_machine.specs.Parts.{current_mtu, signals_wait}
use Rattle.quic_machine.specs.Policy.{Policy}
use Rattle.quic_machine.specs.Closing.{ticked}
use Rattle.quic_machine.specs.Tracking.{Tracking, TrackedPacket, forgotten, without_packet, asking_sent, after_sent}
use Rattle.quic_machine.specs.End.{End, number_of, with_closing, streams_at, closed_by}
use Rattle.quic_machine.specs.Control.{with_pacing_timer}
use Rattle.quic_machine.specs.Poll.{mark_of, Polled, Draft, no_frames, frame_room, with_control_frames, with_message_frames, with_stream_frames, with_asking, ack_of, with_ack, ack_fits, ack_if, composed_if, composed, datagram_of, asking, packet_of, probed, lazied, draft_of, sends, polled_if, polled_in, polled, whole, Ready, waits, goes, with_signal_frames, bounds, request_of, with_request, request_if, with_frequency_frame, request_queued}
use Rattle.quic_machine.specs.Machine.{World, end_at, policy_at}
use Rattle.quic_machine.specs.DraftLaws.{Writing, drops_of, entry_of, half_of, message_of, HasRoom, room_most, by_entries, by_messages, by_streams, signal_asks, by_some_signal, no_signal}
use Rattle.quic_machine.specs.Puts as puts
use Rattle.quic_machine.specs.PollCases.{ready_at, draft_at, frames_padded, frames_at, by_probed, probe_leaves, composes}
use Rattle.quic_headline.specs.Runs.{Run, state_in, LeadsTo}
use Rattle.quic_headline.specs.Headline.{IsHonest, IsRun, IsAt}
use Rattle.quic_headline.specs.Observer.{Watch, asks_of, watch, sents_until}
use Rattle.quic_headline.specs.Polls.{IsMade, IsLimited, GaveAsking, ProbesPass}
use Rattle.quic_machine.specs.declared.answers.LostReason.{LostReason}
use Rattle.quic_headline.proofs.Packets.Closes.{by_closes}
use Rattle.quic_headline.proofs.Packets.Invariant.{CountsFit, Acks}
use Rattle.quic_headline.proofs.Packets.Entries.{IsControl, control_of}
use Rattle.quic_headline.proofs.Packets.Composed.{Spelling, ack_leaves}
use Rattle.quic_headline.proofs.Packets.Going.{Bringing, control_goes}
use Rattle.quic_headline.proofs.Packets.Flying.{asking_padded}
use Rattle.quic_headline.proofs.Packets.Probes.{by_going}
use Rattle.quic_headline.proofs.Packets.Searches.{room_stays}
use Rattle.quic_headline.proofs.Packets.Group.{PacketsHold, has_room}
use Rattle.quic_headline.proofs.Packets.Sight.{Sight}
use Rattle.quic_headline.proofs.Places.Parties.{given_in, sent_as, sent_by, sents_by, Party, with_shown, shown_at}
use Rattle.quic_headline.proofs.Places.Groups.{Way, Nothing, And, Group}
use Rattle.quic_headline.proofs.Places.Placed.{party_at}
use Rattle.quic_headline.proofs.Places.Steps.{poll_answer}
use Rattle.quic_headline.proofs.Places.Together.{Spells}
use Rattle.quic_headline.proofs.Timers.Watched.{open_behind}
use Rattle.quic_headline.proofs.Timers.Still.{was_open}
use Rattle.quic_headline.proofs.Steps.Made.{made_served, made_end, MadeAt, made_at, polling, PollHolds, poll_holds, observed_poll, sents_more}
use Rattle.quic_headline.proofs.Held.Silent.{begun_probes, begun_has, ready_whole}
use Rattle.quic_headline.proofs.Steps.Moved.{has_probe}

-- ---- drafts that ask

-- one of the frames of a draft asks for an acknowledgement
abbrev pub Asks : Draft → Type 0
Asks d = asking d.frames ≡ true

-- it does still where a frame goes behind
pub still_asks : (d : Draft) (f : FrameValue) → Asks d → asking (d.frames ++ f ∷ []) ≡ true
still_asks d f is = list_any-append asks d.frames (f ∷ []) ∙ or_left (asking d.frames) (asking (f ∷ [])) is

-- or where that frame asks
pub last_asks : (d : Draft) (f : FrameValue) → asks f ≡ true → asking (d.frames ++ f ∷ []) ≡ true
last_asks d f is = list_any-append asks d.frames (f ∷ []) ∙ or_right (asking d.frames) (asking (f ∷ [])) (or_left (asks f) false is)

-- whichever frames go behind
pub asks_stay : Writing Asks
asks_stay (puts.drops kind) d may is = is
asks_stay p d may is = still_asks d _ is

-- a frame of control asks
pub control_asks : (f : FrameValue) → IsControl f → asks f ≡ true
control_asks padding is = absurd is
control_asks (ack a) is = absurd is
control_asks (connection_close c) is = absurd is
control_asks (application_close c) is = absurd is
control_asks f is = refl

-- so frames of control do behind a draft, if any go
control_or_none : (d : Draft) → Asks (with_control_frames d) ⊎ (length (with_control_frames d).frames ≡ length d.frames)
control_or_none d = by_entries (λ (x : Draft). Asks x ⊎ (length x.frames ≡ length d.frames)) (λ x kind before. before)
    (λ x kind f is before. inl (last_asks x f (control_asks f (control_of f kind is.of_kind)))) d (inr refl)

-- messages and frames of streams go behind them
more_ask : (d : Draft) → Asks d → Asks (with_stream_frames (with_message_frames d))
more_ask d is = by_streams Asks (half_of Asks asks_stay) (with_message_frames d) (by_messages Asks (message_of Asks asks_stay) d is)

module _ (K : Streams → Type 0) (k : Spelling K) (c : Bringing K) where
  -- frames of control go behind a draft that leaves room for one, where something waits beside the
  -- bytes of streams
  control_frames_ask : (d : Draft) → length d.bytes + 54 ≤ frame_room d.end → K (streams_at d.end) → is_empty d.end.waiting.frames d.end.streams ≡ false → d.end.waiting.frames.ack_frequency ≡ false → Asks (with_control_frames d)
  control_frames_ask d room i waits unasked = go (control_or_none d)
    where
      go : Asks (with_control_frames d) ⊎ (length (with_control_frames d).frames ≡ length d.frames) → Asks (with_control_frames d)
      go (inl is) = is
      go (inr same) =
          let gone = (control.control_frames (frame_room d.end) (length d.bytes) d.end.streams d.end.waiting.frames nothing_waits).frames in
          let some : 0 < length gone = control_goes K k c d room i waits unasked in
          let all : length (with_control_frames d).frames ≡ length d.frames + length gone = length-append d.frames gone in
          absurd (omega arith)

  -- so what asks does, where something waits for a probe
  with_asking_asks : (d : Draft) → length d.bytes + 54 ≤ frame_room d.end → K (streams_at d.end) → has_probe d.end ≡ true → Asks (with_asking d)
  with_asking_asks d room i waits = signalled (signals_wait d.end.waiting.signals) refl waits
    where
      -- ACK_FREQUENCY goes behind signals
      behind : (b : Bool) (x : Draft) → Asks x → Asks (request_if b x)
      behind true x is = still_asks x _ is
      behind false x is = is

      -- or before frames of control, if it waits
      asked : (b : Bool) → d.end.waiting.frames.ack_frequency ≡ b → is_empty d.end.waiting.frames d.end.streams ≡ false → Asks (with_stream_frames (with_message_frames (with_control_frames (request_if b d))))
      asked true is on = (let x : Draft = with_request d in more_ask (with_control_frames x) (by_entries Asks (drops_of Asks asks_stay) (entry_of Asks asks_stay) x (last_asks d (ack_frequency (request_of d.end)) refl)))
      asked false is on = more_ask (with_control_frames d) (control_frames_ask d room i on is)

      signalled : (b : Bool) → signals_wait d.end.waiting.signals ≡ b → (b || not (is_empty d.end.waiting.frames d.end.streams)) ≡ true → Asks (with_asking d)
      signalled true some on =
          let y : Draft = with_signal_frames d in
          let x : Draft = with_frequency_frame y in
          more_ask (with_control_frames x) (by_entries Asks (drops_of Asks asks_stay) (entry_of Asks asks_stay) x (behind y.end.waiting.frames.ack_frequency y (by_some_signal Asks (λ y f left is. last_asks y f (signal_asks f is)) d some)))
      signalled false none on = subst (λ (x : Draft). Asks (with_stream_frames (with_message_frames (with_control_frames (with_frequency_frame x))))) (sym (no_signal d none)) (asked d.end.waiting.frames.ack_frequency refl (not-true _ on))

  -- and what is composed
  pub composed_asks : (e : End) → Acks e.acknowledging e.marks.came → HasRoom e → K (streams_at e) → has_probe e ≡ true → Asks (composed e)
  composed_asks e acks short i waits = go (can_send e.acknowledging) refl
    where
      late : (b : Bool) (d : Draft) → Asks d → Asks (ack_if b d)
      late true d is = still_asks d (ack (ack_of d.end)) is
      late false d is = is

      go : (b : Bool) → can_send e.acknowledging ≡ b → Asks (composed_if b e)
      go true due = with_asking_asks (with_ack (no_frames e)) (let left = ack_leaves e acks (and_parts e.acknowledging.due (is_filled e.acknowledging.runs) due).1 (room_most e short) in omega arith) i waits
      go false due = late (ack_fits (with_asking (no_frames e))) (with_asking (no_frames e)) (with_asking_asks (no_frames e) (let room = room_most e short in omega arith) i waits)

-- ---- a poll where a probe waits

-- a packet that asks takes away a probe that waits
one_fewer : (t : Tracking) (n : ℕ) (p : TrackedPacket) → p.asks ≡ true → (after_sent t n p).probes ≡ t.probes - 1
one_fewer t n p is = ap (λ (b : Bool). (asking_sent b n p.time_sent (record t { packets = added (without_packet (forgotten t p) t.packets) n p })).probes) is

-- an end at a moment, with the timer of its pacer stopped
abbrev pub begun : End → ℕ → End
begun e now = with_pacing_timer (with_closing e (ticked e.closing now)) None

-- What a poll gives where a probe waits: a datagram that asks, and one probe fewer waits.
record GivesProbe (p : Policy) (e : End) (now : ℕ) : Type 0 where
  transmit : Transmit
  answer : (polled p e now).answer ≡ Ok (Some transmit)
  asks : asks_of (sent_by p e now) ≡ true
  fewer : (polled p e now).end.tracking.probes + 1 ≡ e.tracking.probes

module _ (K : Streams → Type 0) (k : Spelling K) (c : Bringing K) (p : Policy) (e : End) (now : ℕ) (probes : 0 < e.tracking.probes) (acks : Acks e.acknowledging e.marks.came) (short : HasRoom e) (streams : K (streams_at (ready_at e now).end)) (free : e.path.blocked ≡ false) where
  -- the end where something waits for each probe
  abbrev x : End
  x = request_queued (probed (begun e now))

  -- what is to be acknowledged stays
  same_acks : x.acknowledging ≡ e.acknowledging
  same_acks = by_probed (begun e now) (λ (z : End). z.acknowledging ≡ e.acknowledging) refl (λ immediate. refl) (λ immediate. refl) (λ immediate q probes is. refl)

  -- and so do the ids
  same_ids : x.ids ≡ e.ids
  same_ids = by_probed (begun e now) (λ (z : End). z.ids ≡ e.ids) refl (λ immediate. refl) (λ immediate. refl) (λ immediate q probes is. refl)

  -- and the marks with which packets came
  same_came : x.marks.came ≡ e.marks.came
  same_came = by_probed (begun e now) (λ (z : End). z.marks.came ≡ e.marks.came) refl (λ immediate. refl) (λ immediate. refl) (λ immediate q probes is. refl)

  -- and the size of datagrams
  same_size : current_mtu x.path ≡ current_mtu e.path
  same_size = by_probed (begun e now) (λ (z : End). current_mtu z.path ≡ current_mtu e.path) refl (λ immediate. refl) (λ immediate. refl) (λ immediate q probes is. refl)

  -- and the settings
  same_settings : x.transport ≡ e.transport
  same_settings = by_probed (begun e now) (λ (z : End). z.transport ≡ e.transport) refl (λ immediate. refl) (λ immediate. refl) (λ immediate q probes is. refl)

  -- all that waits goes of it
  abbrev all_goes : Ready
  all_goes = record { leaving = whole; end = x }

  let_so : ready_at e now ≡ all_goes
  let_so = ready_whole e now probes free

  -- which asks
  goes_asks : Asks (composed (lazied x))
  goes_asks = composed_asks K k c (lazied x) (let there = subst (λ (p : Pending). Acks p e.marks.came) (sym same_acks) acks in record { runs = there.runs; small = there.small; counts = subst CountsFit (sym same_came) there.counts })
      (room_stays e x same_ids same_size same_settings short) (subst (λ (g : Ready). K (streams_at g.end)) let_so streams) (begun_has e now probes)

  -- and so do the frames of its datagram
  frames_ask : asking (frames_at e now) ≡ true
  frames_ask = ap (λ (g : Ready). asking (frames_padded (draft_of g))) let_so ∙ asking_padded (composed (lazied x)).frames _ ∙ goes_asks

  -- a poll of an open end gives it, unless the numbers or the key are used up
  polled_as : e.closing.state ≡ states.Open → polled p e now ≡ sends (bounds p x) p all_goes
  polled_as opened =
      ap (λ (s : State). polled_in s p e now) opened
      ∙ ap (λ (g : Ready). polled_if (goes g) p g) let_so

  -- one probe fewer waits behind it
  fewer : (sends None p all_goes).end.tracking.probes + 1 ≡ e.tracking.probes
  fewer =
      let d : Draft = composed (lazied x) in
      let tracking : d.end.tracking ≡ x.tracking = (composes whole x tt).tracking in
      let there : d.end.tracking.probes ≡ x.tracking.probes = ap (λ (t : Tracking). t.probes) tracking in
      let same = begun_probes e now in
      by_going (λ (z : End). z.tracking.probes + 1 ≡ e.tracking.probes) p d (λ pacing. (let one = one_fewer d.end.tracking (number_of d.end) (packet_of d) goes_asks in omega arith))

  -- so a poll that leaves an open end open gives it
  gives_probe : e.closing.state ≡ states.Open → (polled p e now).end.closing.state ≡ states.Open → GivesProbe p e now
  gives_probe opened still = go (bounds p x) refl (polled_as opened)
    where
      -- what goes of an open end whose numbers and key last
      ordinary : bounds p x ≡ None → sent_by p e now ≡ sent_as e now (draft_at e now)
      ordinary none =
          ap (λ (s : State). sent_as e now (given_in s (bounds p e) p e now)) opened
          ∙ ap (λ (o : Option LostReason). sent_as e now (given_in states.Open o p e now)) (sym (ap (λ (z : End). bounds p z) (probe_leaves (begun e now))) ∙ none)

      go : (o : Option LostReason) → bounds p x ≡ o → polled p e now ≡ sends o p all_goes → GivesProbe p e now
      go None none is = record {
        transmit = record { size = length (datagram_of p (draft_of all_goes)); ecn = mark_of (sends None p all_goes).end.path.marking; remote = (sends None p all_goes).end.path.remote };
        answer = ap (λ (q : Polled). q.answer) is;
        asks = ap asks_of (ordinary none) ∙ frames_ask;
        fewer = ap (λ (q : Polled). q.end.tracking.probes + 1) is ∙ fewer;
      }
      go (Some reason) bound is = by_closes p (closed_by reason x) (λ (q : Polled). q.end.closing.state ≡ states.Open → GivesProbe p e now) (λ none. cc) (λ f goes none. cc) (sym (ap (λ (q : Polled). q.end.closing.state) is) ∙ still)

-- ---- the clause

module _ (H : Way) (s : Spells H) (g : Group Nothing (And (And PacketsHold H) Sight)) (r : Run) (end : World) (honest : IsHonest r) (run : IsRun r end) where
  -- where a probe waits, a poll that leaves its end open gives a datagram that asks, and one probe
  -- fewer waits then; unless nothing more may go to its address, as the lists say then
  pub probes_pass : ((side : Side) (i now : ℕ) (a : Answer) (v : View) (w next : World) → IsMade r i side (calls.Poll now) a w next → LeadsTo r (suc i) next → slice_get r.views i ≡ Some v → state_in v side ≡ states.Open
      → (end_at side w).closing.state ≡ states.Open → (with_shown (end_at side w) (shown_at side w)).path.blocked ≡ true → IsLimited r side (suc i) v) → ProbesPass r
  probes_pass limits side i now a v served at there opened_behind waits = go e.path.blocked refl
    where
      called_there : MadeAt r i side (calls.Poll now) a
      called_there = made_at (And (And PacketsHold H) Sight) g r end honest run i side (calls.Poll now) a at served

      w : World
      w = called_there.before

      next : World
      next = called_there.behind

      m : IsMade r i side (calls.Poll now) a w next
      m = called_there.made

      h : PollHolds (And (And PacketsHold H) Sight) r i side now a w
      h = poll_holds (And (And PacketsHold H) Sight) g r end honest run i side now a w next m

      x : Party
      x = polling r i w side h.sents

      y : Party
      y = party_at r i w (other_side side) h.theirs

      p : Policy
      p = policy_at side r.keys

      e : End
      e = with_shown (end_at side w) (shown_at side w)

      left : end_at side next ≡ (polled p e now).end
      left = made_end r i side (calls.Poll now) a w next m

      -- it is open behind the poll, and was before
      still : (polled p e now).end.closing.state ≡ states.Open
      still = sym (ap (λ (z : End). z.closing.state) left) ∙ open_behind r next i v side called_there.leads there opened_behind

      opened : e.closing.state ≡ states.Open
      opened = was_open p e y.given (calls.Poll now) a still

      -- the observer counts the probes that wait as the end does
      probes_before : (watch r side i).flight.probes ≡ e.tracking.probes
      probes_before = ap (λ (u : Watch). u.flight.probes) h.seen ∙ (h.gives.1.watched.flight opened).probes

      probes_behind : (watch r side (suc i)).flight.probes ≡ (polled p e now).end.tracking.probes
      probes_behind = ap (λ (u : Watch). u.flight.probes) h.seen_behind ∙ (h.behind.1.watched.flight still).probes

      passes : e.path.blocked ≡ false → GaveAsking r side i now × ((watch r side (suc i)).flight.probes + 1 ≡ (watch r side i).flight.probes)
      passes free = (
        record {
          one = record {
            transmit = gives.transmit;
            poll = subst (λ (b : Answer). IsAt r i side (calls.Poll now) b) said at;
            served = served;
            sent = sent_by p e now;
            went = sents_more r i side now a w (observed_poll H r i side now a w h) ∙ ap (λ (b : Answer). sents_until r side i ++ sents_by p e (calls.Poll now) b) said;
          };
          asks = gives.asks;
        },
        ap (λ (n : ℕ). n + 1) probes_behind ∙ gives.fewer ∙ sym probes_before,
      )
        where
          gives : GivesProbe p e now
          gives = gives_probe s.known s.spelling s.bringing p e now (subst (λ (n : ℕ). 0 < n) probes_before waits) h.takes.0.0.acks (has_room x y h.gives.0.0) (s.holds x y h.gives.0.0 h.gives.0.1 now) free opened still

          said : a ≡ answers.Poll (Ok (Some gives.transmit))
          said = poll_answer p e now a m.step.answer (made_served r i side (calls.Poll now) a w next m) ∙ ap answers.Poll gives.answer

      go : (b : Bool) → e.path.blocked ≡ b → (GaveAsking r side i now × ((watch r side (suc i)).flight.probes + 1 ≡ (watch r side i).flight.probes)) ⊎ IsLimited r side (suc i) v
      go true blocked = inr (limits side i now a v w next m called_there.leads there opened_behind opened blocked)
      go false free = inl (passes free)
