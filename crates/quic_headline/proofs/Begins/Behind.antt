-- What waits behind a call waited before it, or has a cause.
use Rattle.std.proofs.Common.{◌≡◌, ℕ, ◌<◌, max, Bool, true, false, ◌||◌, ◌&&◌, List, [], ◌∷◌, ◌++◌, length, map, drop, append-nil, Option, Some, None, Ok, refl, sym, ap, ◌∙◌, subst, ◌⊎◌, inl, inr, arith, ◌+◌, Result}
use Rattle.std.specs.Prelude.{◌↔◌, nat_lt, not, ltb, leb, ◌==◌}
use Rattle.std.specs.Option.{is_some, is_none, option_map}
use Rattle.std.specs.List.{list_any}
use Rattle.std.proofs.lemmas.Bool.{or_left, or_right, or_cases, and_from, and_parts, lt-ltb, ltb-true, ne_eqb}
use Rattle.quic_wire_core.specs.declared.shared.IssuedCid.{IssuedCid}
use Rattle.quic_wire_core.specs.declared.shared.EcnCodepoint.{EcnCodepoint}
use Rattle.quic_ids.specs.CidQueue.{next_after}
use Rattle.quic_machine.specs.Poll.{polled}
use Rattle.quic_wire.specs.Value.{FrameValue, padding, new_connection_id}
use Rattle.quic_wire.specs.Items.{items}
use Rattle.quic_wire.specs.declared.frame.InvalidFrame.{InvalidFrame}
use Rattle.quic_send_buffer.specs.Buffered.{IsBuffered, written as buffered, is_lost, is_unsent}
use Rattle.quic_sets.proofs.Offsets.Edits.{has_is}
use Rattle.quic_spaces.specs.Numbers.{Numbers, number_opened}
use Rattle.quic_streams_parts.specs.SendHalf.{SendHalf}
use Rattle.quic_streams_parts.specs.Table.{at}
use Rattle.quic_streams_halves.specs.Halves.{status_from, has_place}
use Rattle.quic_streams_state.specs.declared.state.StreamsState.{StreamsState}
use Rattle.quic_streams_state.specs.State.{sends_on, is_opened}
use Rattle.quic_streams_state.specs.Limits.{data_grew}
use Rattle.quic_streams_laws.specs.Each.{StatusIs}
use Rattle.quic_streams_laws.specs.Written.{Wrote, IsOver, nothing_done, IsSendHalf, HoldsWritten}
use Rattle.quic_streams_laws.specs.WrittenHalves.{bytes_written}
use Rattle.quic_machine.specs.declared.answers.State.{State}
use Rattle.quic_machine.specs.declared.answers.State.TheVariants as states
use Rattle.quic_machine.specs.declared.run.Call.{Call}
use Rattle.quic_machine.specs.declared.run.Call.TheVariants as calls
use Rattle.quic_machine.specs.declared.run.Delivery.{Delivery}
use Rattle.quic_machine.specs.declared.run.Answer.{Answer}
use Rattle.quic_machine.specs.declared.run.Answer.TheVariants as answers
use Rattle.quic_time.specs.Timers.{has_come}
use Rattle.quic_machine.specs.Closing.{Closing, ticked}
use Rattle.quic_machine.specs.End.{End, words_drawn}
use Rattle.quic_machine.specs.Timeouts.{timed_out_in, timed_out}
use Rattle.quic_machine.specs.Ids.{words_behind}
use Rattle.quic_machine.specs.IdFrames.{drawn, drawing}
use Rattle.quic_machine.specs.Receive.{Outcome, take_frame, asks_in, after_taken, is_urged, migrated_if}
use Rattle.quic_machine.specs.FrameCases.{begun}
use Rattle.quic_machine.specs.CallCases.{is_poll}
use Rattle.quic_machine.specs.Migration.{has_moved, is_there, migrated}
use Rattle.quic_machine.specs.Machine.{IsAnswer, fails, gave}
use Rattle.quic_machine.specs.Policy.{Policy}
use Rattle.quic_machine.specs.Calls.{is_open}
use Rattle.quic_headline.specs.Runs.{Told, Packet, Intake, In, and_told}
use Rattle.quic_headline.specs.Amounts.{data_limit_in}
use Rattle.quic_headline.specs.Credit.{all_consumed}
use Rattle.quic_headline.specs.Observer.{Sent, Flight, after_frames, Watch, first_watch, news, clock_behind, moment_of, is_past, is_timely, watch_moment, watch_given, watch_told, has_changed}
use Rattle.quic_headline.specs.Duties.{AllData, StreamCount, on_half, has_new_id}
use Rattle.quic_headline.specs.Moments.{went}
use Rattle.quic_headline.specs.Requests.{Asking, asking_of, wants_anew}
use Rattle.quic_headline.specs.Expiring.{Questions}
use Rattle.quic_headline.specs.InUse.{brought, next_of, brought_by}
use Rattle.quic_headline.specs.Waited.{asks_ping, is_path_challenge, wakes}
use Rattle.quic_headline.specs.Begins.{Control, LimitOf, NewId, Retirement, Thing, Ack, Ping, Immediate, Challenge, Response, Probe, Byte, Fin, Frame, byte_waits, IsPending, Bears, Seen, came, brings, WasLost, may_end, brings_data, is_retirement, retired_in, retired_numbers, was_told, issued_below, retires, uses_next, is_passed, uses_past, moves_past, passes_over, fails_to_probe, uses_up, most_said, is_far, is_far_in_all, HasCause}
use Rattle.quic_headline.proofs.Packets.Intakes.{folded_more}
use Rattle.quic_headline.proofs.Packets.Group.{PacketsHold, meets}
use Rattle.quic_headline.proofs.Packets.Sight.{Sight}
use Rattle.quic_headline.proofs.Packets.Delivered.{arrived, with_taken, ArrivalsFrom, frames_at, among_at, moves_by}
use Rattle.quic_headline.proofs.Packets.Flying.{Waits, held, frames_fly, ticked_waits, numbers_wait}
use Rattle.quic_headline.proofs.Packets.Watching.{came_with, timed_with, untimely, watched_intake, one_new, none_comes, told_timed, with_delivery, nothing_delivered, packet_delivered, at_time, timeout_flies}
use Rattle.quic_headline.proofs.Places.Parties.{sent_by, sent_if, sents_by, told_of, Party, called, came_to, lens, watch_of, AreJoined}
use Rattle.quic_headline.proofs.Places.Groups.{Way, Nothing, And, Calls, Group, both, beside, over, less_calls}
use Rattle.quic_headline.proofs.Places.Coming.{came_more, by_coming_from}
use Rattle.quic_headline.proofs.Places.Steps.{only_polls_give, poll_answer}
use Rattle.quic_headline.proofs.Places.Everything as everything
use Rattle.quic_headline.proofs.Places.Theorems.{ready}
use Rattle.quic_headline.proofs.Halves.Ready.{Ready}
use Rattle.quic_headline.proofs.Halves.Ghosts.{wrote, SaysOf, IsWriting}
use Rattle.quic_headline.proofs.Halves.Writer.{grows_behind}
use Rattle.quic_headline.proofs.Channel.Within.{Within, within_group}
use Rattle.quic_headline.proofs.Credit.Clause.{Credits, credits_group}
use Rattle.quic_headline.proofs.Credit.Lists.{usage, SaysFrame, frame_said, padding_said, packet_uses, told_consumes}
use Rattle.quic_headline.proofs.Credit.Counted.{grown as more_used}
use Rattle.quic_headline.proofs.Halves.ReadGroup.{ReadsHold}
use Rattle.quic_headline.proofs.Duties.Listed.{places_same}
use Rattle.quic_headline.proofs.Grown.Clause.{GrownWait}
use Rattle.quic_headline.proofs.Timers.Watched.{Observed, drop_all, went_is}
use Rattle.quic_headline.proofs.Timers.Still.{was_open}
use Rattle.quic_headline.proofs.Requests.Asks.{by_of, is_anew, anew_known}
use Rattle.quic_headline.proofs.Requests.Group.{Counted, counted_group}
use Rattle.quic_headline.proofs.NextIds.Peer.{next_is, Knows}
use Rattle.quic_headline.proofs.NextIds.Group.{NextKnown, next_group, brought_at}
use Rattle.quic_headline.proofs.Destined.Own.{KnowsOwn, own_group}
use Rattle.quic_headline.proofs.Destined.Numbered.{AreNumbered, numbers_more, Retires, each_retires, may_live, Numbered, numbered_group}
use Rattle.quic_headline.proofs.Waited.Alive.{Timed, timed, wakes_at, past_is}
use Rattle.quic_headline.proofs.Waited.Pings.{of_ping, of_immediate, call_pinged, call_hastened, polled_pinged}
use Rattle.quic_headline.proofs.AcksDue.Group.{haste_of}
use Rattle.quic_headline.proofs.Waited.Group.{wants_of}
use Rattle.quic_headline.proofs.Waited.Urged.{Urging, Wished, wished_group, urges}
use Rattle.quic_headline.proofs.Begins.Probed.{told_probes}
use Rattle.quic_headline.proofs.Begins.Halves.{Any, Waits as HalfWaits, all_pend, pends_more, none_reset, byte_is, fin_is}
use Rattle.quic_headline.proofs.Begins.Walk.{Pends, pend_more}
use Rattle.quic_headline.proofs.Begins.Apart.{is_skipped, SignalsBy, LeavesBy, none, signals_same, frames_signals, polled_signals, quiet_signals, leaves_pend}
use Rattle.quic_headline.proofs.Begins.Moved.{moves_over, challenging, moved_waits, item_challenges, challenges_read}
use Rattle.quic_headline.proofs.Begins.Untold.{untold}
use Rattle.quic_headline.proofs.Begins.Far.{far_more, far_in, Spends, spends_settled, spends_frame}
use Rattle.quic_headline.proofs.Begins.Flights.{IdsBefore, By, BegunAt, Begun, ids_begun, begun_loses, begun_flies}
use Rattle.quic_headline.proofs.Begins.Steps.{Left, left_of, polled_left}
use Rattle.quic_headline.proofs.Packets.Strays.{any_at}
use Rattle.quic_headline.proofs.Packets.Routed.{moved_path, flight_at}
use Rattle.quic_headline.proofs.Packets.Stays.{keeps_frames}
use Rattle.quic_headline.proofs.NextIds.Asking.{AsksNone, AllAskNone}
use Rattle.quic_headline.proofs.NextIds.Coming.{packet_passes}
use Rattle.quic_headline.proofs.Halves.Moved.{streams_stay}
use Rattle.quic_packet.specs.Datagram.{Opening}

-- ---- what is known

-- all that is known of packets and streams, limits that grew, how often the peer was asked how to
-- acknowledge, which ids it was told and how many were issued, which of its ids are used, and what
-- is due and wanted
abbrev pub Grown : Way
Grown = And (And (everything.All Ready ready) ReadsHold) GrownWait

abbrev pub OwnKnown : Way
OwnKnown = And Counted (And KnowsOwn Numbered)

abbrev pub PeerKnown : Way
PeerKnown = And NextKnown (And Within Credits)

abbrev pub Requesting : Way
Requesting = And Grown (And OwnKnown PeerKnown)

writing : (B : Way) → ((x y : Party) → B x y → Grown x y) → IsWriting B
writing B grown = record {
  packets = λ x y h. (grown x y h).0.0.0.0;
  written = λ x y h. (grown x y h).0.0.0.1.0.writes.keeps.holds;
  says = λ x y h. (grown x y h).0.0.0.1.0.says;
  grows = λ x y call a c. grows_behind B (λ x y h. (grown x y h).0.0.0.0) x y call a c (grown x y c.gives).0.0.0.1.0;
}

-- how far each lets the other come, and what it consumed
lets_come : Group (And Nothing Grown) (And Within Credits)
lets_come = both (And Nothing Grown) Within Credits (within_group (And Nothing Grown) (writing (And Nothing Grown) (λ x y h. h.1)))
    (credits_group (And (And Nothing Grown) Within) (writing (And (And Nothing Grown) Within) (λ x y h. h.0.1)) (λ x y h. h.1) (λ x y h. h.0.1.0.1))

abbrev pub Known : Way
Known = And Requesting Wished

requesting : Group Nothing Requesting
requesting = both Nothing Grown (And OwnKnown PeerKnown) (everything.all_grown Ready ready)
    (beside (And Nothing Grown) OwnKnown PeerKnown (over PacketsHold (And Nothing Grown) OwnKnown (λ x y h. h.1.0.0.0.0) (beside PacketsHold Counted (And KnowsOwn Numbered) counted_group (beside PacketsHold KnowsOwn Numbered own_group numbered_group)))
    (beside (And Nothing Grown) NextKnown (And Within Credits) (next_group (And Nothing Grown) (λ x y h. h.1.0.0.0.0)) lets_come))

pub known : Group Nothing Known
known = both Nothing Requesting Wished requesting (over Observed (And Nothing Requesting) Wished (λ x y h. (h.1.0.0.0.0.0, h.1.0.0.0.1)) wished_group)

pub packets : (x y : Party) → Known x y → PacketsHold x y
packets x y h = h.0.0.0.0.0.0

pub holds : (x y : Party) → Known x y → HoldsWritten (wrote x.told) x.end.streams
holds x y h = h.0.0.0.0.0.1.0.writes.keeps.holds

pub sight : (x y : Party) → Known x y → Sight x y
sight x y h = h.0.0.0.0.1

-- what the observer of an end knows behind a call
abbrev pub watch_next : Party → Party → Call → Answer → Watch
watch_next x y call a = watch_told (lens x y) (told_of call a x.end.closing.state) (watch_of x y)

-- What holds of two ends where one is called, and behind it.
pub record Stepped (x y : Party) (call : Call) (a : Answer) : Type 0 where
  pub calls : Calls Known x y call a
  pub joined : AreJoined x y
  pub answer : IsAnswer x.policy x.end y.given call a
  pub served : fails a ≡ false
  pub gives : Known x y
  pub takes : Known y x
  pub behind : Known (called x y.given call a) y
  pub opened : (called x y.given call a).end.closing.state ≡ states.Open
  -- which id of the peer the end uses, and whether that stays where the path changes
  pub using : ℕ
  pub used : x.end.ids.peer.active ≡ using
  pub stays : Bool
  pub tells : has_changed (watch_of x y) (watch_next x y call a) ≡ true → (stays ≡ true) ↔ ((called x y.given call a).end.ids.peer.active ≡ x.end.ids.peer.active)
  -- how the end asks whether its peer receives, as its observer reckons it, and whether the peer's
  -- address is seen to be validated: where the timer for that expires, it isn't, and the moment
  -- came
  pub questions : Questions
  pub watched : questions.watch ≡ watch_of x y
  pub validated : Bool
  pub expires : (n : ℕ) → has_come x.end.timers.path_validation n ≡ true → (is_past questions.due n && not validated) ≡ true

-- what is seen of the call
abbrev pub seen_of : (x y : Party) (call : Call) (a : Answer) → Stepped x y call a → Seen
seen_of x y call a s = record {
  told = x.told;
  now = told_of call a x.end.closing.state;
  before = watch_of x y;
  behind = watch_next x y call a;
  unanswered = (wants_of x y).packets;
  due = (haste_of (called x y.given call a) y).due;
  marked = (wants_of (called x y.given call a) y).marked;
  alive = (wants_of x y).alive;
  asking = asking_of x.made;
  using = s.using;
  stays = s.stays;
  questions = s.questions;
  validated = s.validated;
  side = x.side;
  params = x.made.peer_params;
  window = x.made.streams.receiving.window;
  stream_window = x.made.streams.receiving.stream_window;
  gave = (watch_of x y).own;
}

-- it waited, or has a cause
abbrev pub Caused : (x y : Party) (call : Call) (a : Answer) → Stepped x y call a → Thing → Type 0
Caused x y call a s q = IsPending x.end q ⊎ HasCause (seen_of x y call a s) q

module _ (x y : Party) (call : Call) (a : Answer) (s : Stepped x y call a) where
  abbrev next : Party
  next = called x y.given call a

  abbrev seen : Seen
  seen = seen_of x y call a s

  pub was : x.end.closing.state ≡ states.Open
  was = was_open x.policy x.end y.given call a s.opened

  -- what the observer knows behind the call
  behind_is : watch_of next y ≡ seen.behind
  behind_is = folded_more (watch_told (lens x y)) x.told (told_of call a x.end.closing.state) (first_watch x.final x.began x.made.path.remote x.first_rtt x.initial_delay)

  -- the observer finds whether the path changes
  changes : has_changed seen.before seen.behind ≡ has_moved x.end next.end
  changes =
      ap (λ (n : ℕ). not (n == (watch_of x y).route.generation)) (ap (λ (w : Watch). w.route.generation) (sym behind_is) ∙ sym (sight next y s.behind).watched.path)
      ∙ ap (λ (n : ℕ). not (next.end.path.generation == n)) (sym (sight x y s.gives).watched.path)

  -- what came
  came_is : came seen ≡ news (came_to x y) (came_to next y)
  came_is =
      ap (λ (i : Intake). news i seen.behind.intake) (watched_intake (lens x y) x.told (first_watch x.final x.began x.made.path.remote x.first_rtt x.initial_delay))
      ∙ ap (λ (i : Intake). news (came_to x y) i) (ap (λ (w : Watch). w.intake) (sym behind_is) ∙ watched_intake (lens x y) next.told (first_watch x.final x.began x.made.path.remote x.first_rtt x.initial_delay))

  -- the observer finds which packets came by then
  pub took_behind : (came_to next y).took ≡ seen.behind.intake.took
  took_behind = ap (λ (i : Intake). i.took) (sym (ap (λ (v : Watch). v.intake) (sym behind_is) ∙ watched_intake (lens x y) next.told (first_watch x.final x.began x.made.path.remote x.first_rtt x.initial_delay)))

-- what goes at a call is what its end sends
pub went_here : (x y : Party) (call : Call) (a : Answer) (s : Stepped x y call a) → went (seen_of x y call a s).before (seen_of x y call a s).behind ≡ sents_by x.policy x.end call a
went_here x y call a s = went_is (watch_of x y) (seen_of x y call a s).behind (sents_by x.policy x.end call a) (
    ap (λ (w : Watch). w.own) (sym (behind_is x y call a s)) ∙ (sight (called x y.given call a) y s.behind).own ∙ ap (λ (ss : List Sent). ss ++ sents_by x.policy x.end call a) (sym (sight x y s.gives).own))

-- the observer has the clock of the end behind a call
clock_behind_is : (x y : Party) (call : Call) (a : Answer) (s : Stepped x y call a) → (seen_of x y call a s).behind.clock ≡ (called x y.given call a).end.closing.clock
clock_behind_is x y call a s = ap (λ (w : Watch). w.clock) (sym (behind_is x y call a s)) ∙ ((sight (called x y.given call a) y s.behind).watched.flight s.opened).tells.clock

-- so it is of a moment that is taken over
timeout_clock : (x y : Party) (now : ℕ) (a : Answer) (s : Stepped x y (calls.Timeout now) a) → (seen_of x y (calls.Timeout now) a s).behind.clock ≡ (ticked x.end.closing now).clock
timeout_clock x y now a s = clock_behind_is x y (calls.Timeout now) a s ∙ ap (λ (c : Closing). c.clock) (timed x.policy x.end now (was x y (calls.Timeout now) a s) s.opened).closing

-- ---- an acknowledgement

-- where one is due behind a call, it was, or the observer finds why
pub ack_begins : (x y : Party) (call : Call) (a : Answer) (s : Stepped x y call a) → IsPending (called x y.given call a).end Ack → Caused x y call a s Ack
ack_begins x y call a s due = urges x y call a (less_calls Known Urging (λ z v h. ((packets z v h, sight z v h), h.1.0)) x y call a s.calls) s.opened due

-- ---- PING, probes and messages

-- it waited, it is asked for, or the time without a packet is over
other_ping : (x y : Party) (call : Call) (a : Answer) (s : Stepped x y call a) → is_poll call ≡ false → (wakes_at x.end call ≡ true → wakes (seen_of x y call a s).now (seen_of x y call a s).behind.clock (seen_of x y call a s).alive ≡ true) → IsPending (called x y.given call a).end Ping → Caused x y call a s Ping
other_ping x y call a s silent woken set = elim (or_cases (asks_ping call) (wakes_at x.end call || x.end.waiting.signals.ping) (sym (call_pinged x.policy x.end y.given call a silent s.opened) ∙ set)) [
  | inl asked ↦ inr (or_left (asks_ping call) _ asked)
  | inr other ↦ elim (or_cases (wakes_at x.end call) x.end.waiting.signals.ping other) [
    | inl wakes_up ↦ inr (or_right (asks_ping call) _ (or_left (wakes (seen_of x y call a s).now (seen_of x y call a s).behind.clock (seen_of x y call a s).alive) _ (woken wakes_up)))
    | inr was_set ↦ inl was_set
  ]
]

-- a probe waits at a poll in vain
vain_poll : (x y : Party) (now : ℕ) (a : Answer) (s : Stepped x y (calls.Poll now) a) → 0 < x.end.tracking.probes → sent_if (gave (answers.Poll (polled x.policy x.end now).answer)) (sent_by x.policy x.end now) ≡ [] → fails_to_probe (seen_of x y (calls.Poll now) a s) ≡ true
vain_poll x y now a s some none =
    and_from (nat_lt 0 v.before.flight.probes) (not (nat_lt 0 (length (went v.before v.behind))))
    (let same = ((sight x y s.gives).watched.flight (was x y (calls.Poll now) a s)).probes in lt-ltb 0 v.before.flight.probes (omega arith))
    (ap (λ (ss : List Sent). not (nat_lt 0 (length ss))) (went_here x y (calls.Poll now) a s ∙ ap (λ (b : Answer). sent_if (gave b) (sent_by x.policy x.end now)) (poll_answer x.policy x.end now a s.answer s.served) ∙ none))
  where
    v : Seen
    v = seen_of x y (calls.Poll now) a s

pub ping_begins : (x y : Party) (call : Call) (a : Answer) (s : Stepped x y call a) → IsPending (called x y.given call a).end Ping → Caused x y call a s Ping
ping_begins x y (calls.Poll now) a s set = elim (polled_pinged of_ping x.policy x.end now s.opened set).before [
  | inl before ↦ inl before
  | inr waited ↦ inr (or_right (wakes v.now v.behind.clock v.alive) _ (vain_poll x y now a s waited.0 waited.1))
]
  where
    v : Seen
    v = seen_of x y (calls.Poll now) a s
ping_begins x y (calls.Timeout now) a s set = other_ping x y (calls.Timeout now) a s refl (λ woke.
    ap (λ (z : State). is_timely z (calls.Timeout now) && is_past v.alive v.behind.clock) opened
    ∙ past_is v.alive v.behind.clock
    ∙ ap (λ (o : Option ℕ). has_come o v.behind.clock) (s.gives.1.0.1.wanted opened).alive
    ∙ ap (λ (n : ℕ). has_come x.end.timers.keep_alive n) (timeout_clock x y now a s)
    ∙ woke) set
  where
    v : Seen
    v = seen_of x y (calls.Timeout now) a s

    opened : x.end.closing.state ≡ states.Open
    opened = was x y (calls.Timeout now) a s
ping_begins x y call a s set = other_ping x y call a s refl (λ woke. cc) set

-- IMMEDIATE_ACK waited, or a probe does in vain
pub immediate_begins : (x y : Party) (call : Call) (a : Answer) (s : Stepped x y call a) → IsPending (called x y.given call a).end Immediate → Caused x y call a s Immediate
immediate_begins x y (calls.Poll now) a s set = elim (polled_pinged of_immediate x.policy x.end now s.opened set).before [
  | inl before ↦ inl before
  | inr waited ↦ inr (vain_poll x y now a s waited.0 waited.1)
]
immediate_begins x y call a s set = inl (sym (call_hastened x.policy x.end y.given call a refl s.opened) ∙ set)

pub probe_begins : (x y : Party) (call : Call) (a : Answer) (s : Stepped x y call a) → IsPending (called x y.given call a).end Probe → Caused x y call a s Probe
probe_begins x y call a s some = elim (told_probes (lens x y) (told_of call a x.end.closing.state) (watch_of x y) (subst (λ (n : ℕ). 0 < n) (sym here) some)) [
  | inl waited ↦ inl (subst (λ (n : ℕ). 0 < n) ((sight x y s.gives).watched.flight (was x y call a s)).probes waited)
  | inr expires ↦ inr expires
]
  where
    here : (seen_of x y call a s).behind.flight.probes ≡ (called x y.given call a).end.tracking.probes
    here = ap (λ (w : Watch). w.flight.probes) (sym (behind_is x y call a s)) ∙ ((sight (called x y.given call a) y s.behind).watched.flight s.opened).probes

-- ---- path validation

-- so each waited, or has a cause
abbrev pub SignalsBegin : (x y : Party) (call : Call) (a : Answer) → Stepped x y call a → Type 0
SignalsBegin x y call a s = (IsPending (called x y.given call a).end Challenge → Caused x y call a s Challenge) × (IsPending (called x y.given call a).end Response → Caused x y call a s Response)

-- where the timer of path validation expires, the moment has come at which the end asks anew
due_anew : (x y : Party) (now : ℕ) (a : Answer) (s : Stepped x y (calls.Timeout now) a) → has_come x.end.timers.path_validation (ticked x.end.closing now).clock ≡ true → HasCause (seen_of x y (calls.Timeout now) a s) Challenge
due_anew x y now a s come = or_right (has_changed s.questions.watch v.behind) _ (
    ap (λ (z : State). is_timely z (calls.Timeout now) && (is_past s.questions.due v.behind.clock && not s.validated)) (was x y (calls.Timeout now) a s)
    ∙ s.expires v.behind.clock (ap (λ (n : ℕ). has_come x.end.timers.path_validation n) (timeout_clock x y now a s) ∙ come))
  where
    v : Seen
    v = seen_of x y (calls.Timeout now) a s

-- where nothing asks for them
quiet_begin : (x y : Party) (call : Call) (a : Answer) (s : Stepped x y call a) → SignalsBy false x.end.waiting.signals (called x y.given call a).end.waiting.signals → SignalsBegin x y call a s
quiet_begin x y call a s by = ((λ set. inl (by.0 set)), λ set. elim (by.1 set) [ inl waited ↦ inl waited | inr none ↦ absurd (let clash : false ≡ true = none in cc) ])

-- ---- streams, and what waits beside their bytes

-- what waits of them waits at the end
pub pends_start : (x y : Party) → Known x y → Pends (λ q. IsPending x.end q) x.end
pends_start x y h = record {
  controls = λ c is. is;
  halves = pends_more IsBuffered IsBuffered (λ q. HalfWaits x.end.streams q) (λ q. IsPending x.end q) x.end.streams (λ b i. i) waits (all_pend (wrote x.told) x.end.streams (holds x y h));
  grew = h.0.0.1.all.bytes;
}
  where
    waits : (q : Thing) → HalfWaits x.end.streams q → IsPending x.end q
    waits (Byte id o) is = is
    waits (Fin id) is = is
    waits q is = absurd is

-- of a half that wasn't reset as many bytes were written as were accepted
pub written_is : (w : Wrote) (h : SendHalf) → IsSendHalf w h → h.reset ≡ None → buffered h.buffer ≡ length w.bytes
written_is w h held none = bytes_written w h held (go w.reset refl)
  where
    go : (o : Option ℕ) → w.reset ≡ o → w.reset ≡ None
    go None is = is
    go (Some code) is = (let clash : ◌≡◌ {A = Option ℕ} None (Some (length w.bytes)) = sym none ∙ (held.reset ∙ ap (option_map (λ c. length w.bytes)) is) in cc)

-- an offset that waits was written
pub waits_within : (done : ℕ → Wrote) (s : StreamsState) (id o : ℕ) → HoldsWritten done s → on_half (byte_waits o) (at s.sending.halves.live id) ≡ true → o < length (done id).bytes
waits_within done s id o i is = go (at s.sending.halves.live id) (sends_on s.side id && is_opened s id) (has_place s.side s.sending.halves.places id) (i.each id) is
  where
    within : (h : SendHalf) → IsSendHalf (done id) h → (h.reset ≡ None) × ((is_lost h.buffer o || is_unsent h.buffer o) ≡ true) → o < length (done id).bytes
    within h held both = subst (λ (n : ℕ). o < n) (written_is (done id) h held both.0) (elim (or_cases (is_lost h.buffer o) (is_unsent h.buffer o) both.1) [
      | inl lost ↦ (let sent = held.lawful.lost_sent o (has_is h.buffer.lost o lost) in let most = held.lawful.bounded in omega (arith, sent, most))
      | inr unsent ↦ ltb-true o (buffered h.buffer) (and_parts (leb h.buffer.unsent o) (ltb o (buffered h.buffer)) unsent).1
    ])

    parts : (h : SendHalf) → byte_waits o h ≡ true → (h.reset ≡ None) × ((is_lost h.buffer o || is_unsent h.buffer o) ≡ true)
    parts h waits = let two = and_parts (is_none h.reset) (is_lost h.buffer o || is_unsent h.buffer o) waits in (none_reset h.reset two.0, two.1)

    go : (h : Option SendHalf) (m u : Bool) → StatusIs (done id ≡ nothing_done) (λ g. IsSendHalf (done id) g) (IsOver (done id)) (status_from h m u) → on_half (byte_waits o) h ≡ true → o < length (done id).bytes
    go None m u x is = cc
    go (Some h) m u x is = within h x (parts h is)

-- what is F of all that waits is F of each
pub left_is : (F : Thing → Type 0) (e : End) → Left F e → ((id o : ℕ) → IsPending e (Byte id o) → F (Byte id o)) × ((id : ℕ) → IsPending e (Fin id) → F (Fin id)) × ((c : Control) → IsPending e (Frame c) → F (Frame c))
left_is F e i = ((λ id o is. byte_is Any F e.streams id o i.halves is), (λ id is. fin_is Any F e.streams id i.halves is), i.controls)

-- ---- a delivery

-- whether a frame that passes a test came between
abbrev Brings : (FrameValue → Bool) → Intake → Intake → Type 0
Brings test i j = list_any (λ p. list_any test p.frames) (news i j) ≡ true

-- whether PATH_CHALLENGE came between
abbrev Asked : Intake → Intake → Bool
Asked i j = list_any (λ p. list_any is_path_challenge p.frames) (news i j)

-- The path changes by what came: behind that, the peer is asked anew, and numbers begin to wait to
-- be retired that the next id passes over.
record MovesOn (x y : Party) (left e : End) (j : Intake) : Type 0 where
  moved : has_moved x.end e ≡ true
  active : left.ids.peer.active ≡ x.end.ids.peer.active
  next : next_after left.ids.peer ≡ next_of x.end.ids.peer.active (brought j.took)
  streams : e.streams ≡ left.streams
  asks : is_some e.waiting.signals.response ≡ true → Asked (came_to x y) j ≡ true
  waits : LeavesBy true none (λ n. moves_over left e n) (challenging left.waiting) e.waiting

-- the limit on all data lies far above what was said before a call, where these packets came by it
abbrev pub far_by : Party → List Packet → Type 0
far_by x took = is_far x.made.streams.receiving.window (all_consumed took x.told) (most_said data_limit_in x.sents) ≡ true

-- what is known of ids before a call, where numbers of these packets were retired behind it
abbrev ids_before : Party → List Packet → IdsBefore
ids_before x took = record { used = x.end.ids.peer.active; issued = x.end.ids.own.issued; limit = may_live x; retired = retired_numbers took }

-- What waits behind what came, which has these frames at most: what they leave, and what the change
-- of the path by them does, if it changes.
record Arrived (x y : Party) (delivery : Delivery) (e : End) (j : Intake) : Type 0 where
  frames : List FrameValue
  brought : (test : FrameValue → Bool) → test padding ≡ false → list_any test frames ≡ true → Brings test (came_to x y) j
  left : End
  begins : let v = with_delivery x.terms (watch_of x y) x.end.closing.state delivery j in BegunAt (λ q. IsPending x.end q) (ids_before x j.took) (watch_of x y).flight.flying (watch_of x y).flight.acked frames (far_by x j.took) v.flight.flying v.flight.acked left.streams left.waiting.frames
  signals : SignalsBy (Asked (came_to x y) j) x.end.waiting.signals left.waiting.signals
  moves : (e ≡ left) ⊎ MovesOn x y left e j

-- before anything came of a packet with these frames, behind others
nothing_begun : (x y : Party) → Known x y → x.end.closing.state ≡ states.Open → (packets : List Packet) (came : List FrameValue) → retired_numbers packets ≡ retired_in came (retired_numbers (came_to x y).took) → (frames : List FrameValue) (Spends : StreamsState → Type 0) → Spends x.end.streams
    → Begun (λ q. IsPending x.end q) (ids_before x packets) (watch_of x y).flight.flying (watch_of x y).flight.acked frames (far_by x packets) Spends (watch_of x y).flight.flying (watch_of x y).flight.acked x.end
nothing_begun x y h opened packets came is frames Spends spends = (
  record {
    new = [];
    more = sym (append-nil (watch_of x y).flight.acked);
    inside = λ u i. i;
    apart = λ u i j. absurd j;
    pends = pend_more (λ q. IsPending x.end q) (By (λ q. IsPending x.end q) (ids_before x packets) (watch_of x y).flight.flying (watch_of x y).flight.acked frames (far_by x packets) (watch_of x y).flight.flying []) x.end.streams x.end.waiting.frames (λ q is. inl is) (pends_start x y h);
  },
  inl (omega arith),
  subst (λ (ns : List ℕ). AreNumbered ns x.end.ids.own.issued (may_live x) x.end.ids.own x.end.ids.limit) (sym is) (numbers_more came (retired_numbers (came_to x y).took) 0 (may_live x) x.end.ids.own x.end.ids.limit (h.0.1.0.1.1.own opened)),
  spends,
)

-- ids that are drawn keep their numbers
numbers_same : (words : ℕ → ℕ) (e : End) (n : ℕ) → has_new_id n (drawing words e).waiting ≡ has_new_id n e.waiting.frames.new_cids
numbers_same words e n = places_same n e.ids.undrawn (words_behind (words_drawn e) words) (record { living = e.ids.living; waiting = e.waiting.frames.new_cids })

module _ (x y : Party) (delivery : Delivery) (a : Answer) (s : Stepped x y (calls.Deliver delivery) a) where
  abbrev w : Watch
  w = watch_of x y

  abbrev i : Intake
  i = came_to x y

  intake : w.intake ≡ i
  intake = watched_intake (lens x y) x.told (first_watch x.final x.began x.made.path.remote x.first_rtt x.initial_delay)

  -- nothing came
  same_arrived : x.end.closing.state ≡ states.Open → Arrived x y delivery x.end i
  same_arrived opened = record {
    frames = [];
    brought = λ test none is. cc;
    left = x.end;
    begins = subst (λ (v : Watch). BegunAt (λ q. IsPending x.end q) (ids_before x i.took) w.flight.flying w.flight.acked [] (far_by x i.took) v.flight.flying v.flight.acked x.end.streams x.end.waiting.frames)
        (sym (ap (λ (j : Intake). with_delivery x.terms w x.end.closing.state delivery j) (sym intake) ∙ nothing_delivered x.terms w x.end.closing.state delivery)) (nothing_begun x y s.gives opened i.took [] refl [] (λ t. Unit {0}) tt).0;
    signals = signals_same (Asked i i) x.end.waiting.signals;
    moves = inl refl;
  }

  -- a packet is taken, of which these frames are
  module _ (d : Sent) (seen : List FrameValue) (opened : x.end.closing.state ≡ states.Open) (none : (arrived x.end delivery.now d.number seen).fault ≡ None)
      (fewer : (test : FrameValue → Bool) → test padding ≡ false → list_any test seen ≡ true → list_any test d.frames ≡ true)
      (flight : after_frames x.terms (max w.clock delivery.now) seen w.flight ≡ after_frames x.terms (max w.clock delivery.now) d.frames w.flight)
      (retires_these : (f : FrameValue) → In f seen → Retires (retired_in d.frames (retired_numbers i.took)) f)
      (says_these : (f : FrameValue) → In f seen → SaysFrame (usage (with_taken i d.number d.frames).took x.told) f × SaysOf (wrote y.told) f) where
    abbrev left : End
    left = (arrived x.end delivery.now d.number seen).end

    abbrev j : Intake
    j = with_taken i d.number d.frames

    abbrev Start : Thing → Type 0
    Start q = IsPending x.end q

    abbrev used : ℕ
    used = x.end.ids.peer.active

    abbrev ids : IdsBefore
    ids = ids_before x j.took

    abbrev flew : List Sent
    flew = w.flight.flying

    abbrev before : List Sent
    before = w.flight.acked

    those : (test : FrameValue → Bool) → test padding ≡ false → list_any test seen ≡ true → Brings test i j
    those test pads is = ap (λ (ps : List Packet). list_any (λ p. list_any test p.frames) ps) (one_new i d.number d.frames) ∙ or_left (list_any test d.frames) false (fewer test pads is)

    abbrev now : ℕ
    now = max w.clock delivery.now

    abbrev after : Flight
    after = after_frames x.terms now seen w.flight

    there : (with_delivery x.terms w x.end.closing.state delivery j).flight ≡ after
    there = ap (λ (k : Intake). (with_delivery x.terms w x.end.closing.state delivery (with_taken k d.number d.frames)).flight) (sym intake) ∙ ap (λ (v : Watch). v.flight) (packet_delivered x.terms w x.end.closing.state delivery d.number d.frames opened) ∙ sym flight

    waits : Waits x.terms w.clock w.flight (held x.end)
    waits = (sight x y s.gives).watched.flight opened

    abbrev numbers : Numbers
    numbers = number_opened x.end.numbers d.number

    begins : Waits x.terms now w.flight (held (begun x.end delivery.now d.number))
    begins = ticked_waits x.terms w.clock delivery.now w.flight (record (held x.end) { numbers = numbers }) (numbers_wait x.terms w.clock w.flight (held x.end) numbers refl waits)

    -- what is known of streams, and what was consumed of all
    abbrev window : ℕ
    window = x.made.streams.receiving.window

    abbrev stream_window : ℕ
    stream_window = x.made.streams.receiving.stream_window

    abbrev Known_of : StreamsState → Type 0
    Known_of = Spends window stream_window j.took x.told x.end.streams (wrote y.told)

    within : Within y x
    within = s.takes.0.1.1.1.0

    spent : Known_of x.end.streams
    spent = record {
      stays = within.stays;
      reads_are = s.takes.0.0.0.1.reads;
      uses = more_used window stream_window (usage i.took x.told) (usage j.took x.told) (packet_uses (record { number = d.number; frames = d.frames }) i.took x.told) x.end.streams (s.takes.0.1.1.1.1.still opened);
    }

    spends_these : (f : FrameValue) (e : End) → In f seen → Known_of e.streams → Known_of (take_frame f e).end.streams
    spends_these f e among k = spends_frame window stream_window j.took x.told x.end.streams (wrote y.told) f e (says_these f among).0 (says_these f among).1 k

    far_these : (t : StreamsState) → Known_of t → data_grew t.receiving ≡ true → far_by x j.took
    far_these t k grew = far_in window stream_window j.took x.told x.end.streams (wrote y.told) x.sents within.told within.first_all t k grew

    -- what they leave, where other ids may be drawn of those that wait
    taken_begun : (cids : List IssuedCid) → ((n : ℕ) → has_new_id n cids ≡ true → has_new_id n left.waiting.frames.new_cids ≡ true)
        → (let v = with_delivery x.terms w x.end.closing.state delivery j in BegunAt Start ids flew before seen (far_by x j.took) v.flight.flying v.flight.acked left.streams (record left.waiting.frames { new_cids = cids }))
    taken_begun cids same =
        let all = frames_fly x.terms now seen (Begun Start ids flew before seen (far_by x j.took) Known_of) (begun_flies Start ids flew before seen (far_by x j.took) Known_of (spends_settled window stream_window j.took x.told x.end.streams (wrote y.told)) spends_these far_these retires_these) w.flight (begun x.end delivery.now d.number) none (record { waits = begins; holds = nothing_begun x y s.gives opened j.took d.frames refl seen Known_of spent }) in
        subst (λ (f : Flight). BegunAt Start ids flew before seen (far_by x j.took) f.flying f.acked left.streams (record left.waiting.frames { new_cids = cids })) (sym there) (ids_begun Start ids flew before seen (far_by x j.took) after.flying after.acked left cids same all.holds.0)

    taken_signals : SignalsBy (Asked i j) x.end.waiting.signals left.waiting.signals
    taken_signals =
        let by = frames_signals seen (begun x.end delivery.now d.number) in
        (by.0, λ is. elim (by.1 is) [ inl waited ↦ inl waited | inr one ↦ inr (those is_path_challenge refl one) ])

    -- the path stays
    taken_arrived : (words : ℕ → ℕ) (urged : Bool) (mark : Option EcnCodepoint) → Arrived x y delivery (drawn words (after_taken d.number (asks_in (map Ok d.frames)) urged mark left)) j
    taken_arrived words urged mark = (let f : End = after_taken d.number (asks_in (map Ok d.frames)) urged mark left in record {
      frames = seen;
      brought = those;
      left = drawn words f;
      begins = taken_begun (drawing words f).waiting (λ n is. sym (numbers_same words f n) ∙ is);
      signals = taken_signals;
      moves = inl refl;
    })

    -- the path changes
    moved_arrived : (p : Policy) (o : Opening) → items o.payload ≡ map Ok d.frames → AllAskNone seen → brought_by seen ≡ brought_by d.frames → (urged : Bool) (mark : Option EcnCodepoint)
        → Arrived x y delivery (migrated p o delivery.remote (drawn p.words (after_taken d.number (asks_in (map Ok d.frames)) urged mark left))) j
    moved_arrived p o reads ask same urged mark = (
        let f : End = after_taken d.number (asks_in (map Ok d.frames)) urged mark left in
        let there : End = drawn p.words f in
        let waits = moved_waits p o delivery.remote there in
        let passes = packet_passes (brought i.took) used seen (begun x.end delivery.now d.number) none ask (s.gives.0.1.1.0.knows opened) refl in
        let knows : Knows (brought j.took) [] left.ids.peer = subst (λ (ns : List ℕ). Knows (ns ++ brought i.took) [] left.ids.peer) same passes.knows in
        record {
          frames = seen;
          brought = those;
          left = there;
          begins = taken_begun (drawing p.words f).waiting (λ n is. sym (numbers_same p.words f n) ∙ is);
          signals = taken_signals;
          moves = inr (record {
            moved = ap (λ (n : ℕ). not (n == x.end.path.generation)) ((moved_path p o delivery.remote there).1 ∙ ap (λ (n : ℕ). n + 1) (keeps_frames seen (begun x.end delivery.now d.number)).generation) ∙ ap not (ne_eqb (x.end.path.generation + 1) x.end.path.generation (λ is. omega arith));
            active = passes.used_is;
            next = next_is (brought j.took) left.ids.peer knows ∙ ap (λ (n : ℕ). next_of n (brought j.took)) passes.used_is;
            streams = streams_stay (λ (z : StreamsState). z ≡ left.streams) p o delivery.remote there refl;
            asks = λ set. elim (waits.signals.1 set) [
              | inl was ↦ absurd (let clash : false ≡ true = was in cc)
              | inr asked ↦ ap (λ (ps : List Packet). list_any (λ p. list_any is_path_challenge p.frames) ps) (one_new i d.number d.frames)
                  ∙ or_left (list_any is_path_challenge d.frames) false (sym (challenges_read d.frames) ∙ (ap (λ (is : List (Result FrameValue InvalidFrame)). list_any item_challenges is) (sym reads) ∙ asked))
            ];
            waits = record { signals = ((λ set. refl), λ set. inr refl); frames = waits.frames; new_ids = waits.new_ids; retirements = waits.retirements };
          });
        })

  delivered : (called x y.given (calls.Deliver delivery) a).end.closing.state ≡ states.Open → Arrived x y delivery (called x y.given (calls.Deliver delivery) a).end (came_to (called x y.given (calls.Deliver delivery) a) y)
  delivered = by_coming_from x y a s.joined s.served (meets y x (packets y x s.takes)) (λ (b : Answer) (e : End) (j : Intake). e.closing.state ≡ states.Open → Arrived x y delivery e j) (calls.Deliver delivery) s.answer (record {
    apart = λ apart. cc;
    none = λ other same opened. same_arrived opened;
    comes = λ other same d among. (
        let is : delivery ≡ other = cc in
        subst (λ (z : Delivery). ArrivalsFrom z.remote z.ecn x.end z.now d.number d.frames i (λ (o : Outcome) (j : Intake). o.end.closing.state ≡ states.Open → Arrived x y delivery o.end j)) is (arrivals d among));
  })
    where
      arrivals : (d : Sent) → In d y.sents → ArrivalsFrom delivery.remote delivery.ecn x.end delivery.now d.number d.frames i (λ (o : Outcome) (j : Intake). o.end.closing.state ≡ states.Open → Arrived x y delivery o.end j)
      arrivals d among = record {
        ignored = λ reason opened. same_arrived opened;
        noted = λ state reason opened. (let clash : states.Closing ≡ states.Open = sym state ∙ opened in cc);
        takes = λ p o reads state new none opened. moves none p o reads state (moves_by delivery.remote d.number d.frames x.end && is_open (after p none).closing.state);
        drains = λ words state new close fault opened. cc;
        refuses = λ words state new f fault opened. cc;
        exhausts = λ state opened. cc;
      }
        where
          here : Bool
          here = is_there delivery.remote x.end

          seen : List FrameValue
          seen = frames_at here d.frames

          urged : Bool
          urged = is_urged delivery.ecn (asks_in (map Ok d.frames)) (map Ok seen) (begun x.end delivery.now d.number)

          after : Policy → (arrived x.end delivery.now d.number seen).fault ≡ None → End
          after p none = drawn p.words (after_taken d.number (asks_in (map Ok d.frames)) urged delivery.ecn (arrived x.end delivery.now d.number seen).end)

          fewer : (test : FrameValue → Bool) → test padding ≡ false → list_any test seen ≡ true → list_any test d.frames ≡ true
          fewer test pads is = any_at test pads here d.frames is

          flight : after_frames x.terms (max w.clock delivery.now) seen w.flight ≡ after_frames x.terms (max w.clock delivery.now) d.frames w.flight
          flight = flight_at x.terms (max w.clock delivery.now) here d.frames w.flight

          retires_these : (f : FrameValue) → In f seen → Retires (retired_in d.frames (retired_numbers i.took)) f
          retires_these = among_at (Retires (retired_in d.frames (retired_numbers i.took))) tt here d.frames (each_retires d.frames (retired_numbers i.took))

          says_these : (f : FrameValue) → In f seen → SaysFrame (usage (with_taken i d.number d.frames).took x.told) f × SaysOf (wrote y.told) f
          says_these f k = (
            among_at (SaysFrame (usage (with_taken i d.number d.frames).took x.told)) (padding_said (usage (with_taken i d.number d.frames).took x.told)) here d.frames (frame_said (record { number = d.number; frames = d.frames }) i.took x.told) f k,
            among_at (SaysOf (wrote y.told)) tt here d.frames (s.takes.0.0.0.0.0.1.0.says d among) f k,
          )

          ask : AllAskNone seen
          ask = among_at AsksNone tt here d.frames (s.takes.0.1.1.0.asks d among)

          moves : (none : (arrived x.end delivery.now d.number seen).fault ≡ None) (p : Policy) (o : Opening) → items o.payload ≡ map Ok d.frames → x.end.closing.state ≡ states.Open → (b : Bool) → Arrived x y delivery (migrated_if b p o delivery.remote (after p none)) (with_taken i d.number d.frames)
          moves none p o reads state true = moved_arrived d seen state none fewer flight retires_these says_these p o reads ask (brought_at here d.frames) urged delivery.ecn
          moves none p o reads state false = taken_arrived d seen state none fewer flight retires_these says_these p.words urged delivery.ecn

-- ---- what has begun has a cause

-- what is behind the first of two lists
behind_acked : (before later new : List Sent) → later ≡ before ++ new → drop (length before) later ≡ new
behind_acked before later new is = ap (λ (xs : List Sent). drop (length before) xs) is ∙ drop_all before new

-- an observer finds which id of the peer is next at an open end
known_next : (x y : Party) (call : Call) (a : Answer) (s : Stepped x y call a) → next_after x.end.ids.peer ≡ next_of s.using (brought (watch_of x y).intake.took)
known_next x y call a s =
    next_is (brought (came_to x y).took) x.end.ids.peer (s.gives.0.1.1.0.knows (was x y call a s))
    ∙ ap (λ (n : ℕ). next_of n (brought (came_to x y).took)) s.used
    ∙ ap (λ (i : Intake). next_of s.using (brought i.took)) (sym (watched_intake (lens x y) x.told (first_watch x.final x.began x.made.path.remote x.first_rtt x.initial_delay)))

-- where these are in flight behind the call, and these were acknowledged, and frames that it
-- brought are among these
module _ (x y : Party) (call : Call) (a : Answer) (s : Stepped x y call a) (frames : List FrameValue) (brought : (test : FrameValue → Bool) → test padding ≡ false → list_any test frames ≡ true → brings test (seen_of x y call a s) ≡ true) (new : List Sent)
    (more : (seen_of x y call a s).behind.flight.acked ≡ (watch_of x y).flight.acked ++ new) (packets : List Packet) (same : packets ≡ (seen_of x y call a s).behind.intake.took) where
  caused : (q : Thing) → By (λ z. IsPending x.end z) (ids_before x packets) (watch_of x y).flight.flying (watch_of x y).flight.acked frames (far_by x packets) (seen_of x y call a s).behind.flight.flying new q → Caused x y call a s q
  caused q (inl start) = inl start
  caused q (inr (inl lost)) = inr (by_kind q lost.bore (record {
    sent = lost.sent;
    flew = lost.flies;
    gone = lost.gone;
    unnamed = λ i. lost.unnamed (subst (λ (ss : List Sent). In lost.sent ss) (behind_acked (watch_of x y).flight.acked (seen_of x y call a s).behind.flight.acked new more) i);
    bore = lost.bore;
  }))
    where
      by_kind : (z : Thing) → Bears lost.sent z → WasLost (seen_of x y call a s) z → HasCause (seen_of x y call a s) z
      by_kind (Byte id o) bore l = inr l
      by_kind (Fin id) bore l = inr l
      by_kind (Frame c) bore l = inr (inl l)
      by_kind z bore l = absurd bore
  caused (Frame (LimitOf AllData)) (inr (inr raised)) = (
      let seen = seen_of x y call a s in
      let told : List Told = x.told ++ seen.now ∷ [] in
      let here : is_far seen.window (all_consumed packets told) (most_said data_limit_in x.sents) ≡ true = far_more seen.window (all_consumed packets x.told) (all_consumed packets told) (most_said data_limit_in x.sents) (told_consumes packets x.told seen.now) raised.1 in
      let far : is_far_in_all seen ≡ true = subst (λ (ss : List Sent). is_far seen.window (all_consumed seen.behind.intake.took told) (most_said data_limit_in ss) ≡ true) (sym (sight x y s.gives).own) (subst (λ (ps : List Packet). is_far seen.window (all_consumed ps told) (most_said data_limit_in x.sents) ≡ true) same here) in
      inr (inl (and_from (uses_up call a || brings brings_data seen) (is_far_in_all seen) (or_right (uses_up call a) (brings brings_data seen) (brought brings_data refl raised.0)) far)))
  caused (Frame (LimitOf (StreamCount dir))) (inr (inr raised)) = inr (inl (or_right _ (brings may_end (seen_of x y call a s)) (brought may_end refl raised)))
  caused (Frame (NewId number)) (inr (inr raised)) = (
      let seen = seen_of x y call a s in
      let low = raised.1 in
      let own = s.gives.0.1.0.1.0.own (was x y call a s) in
      let fresh : was_told number seen ≡ false = untold number x.end.ids.own.issued seen.gave (λ u f i j. (own.sent u (new_connection_id f) (subst (λ (ss : List Sent). In u ss) (sight x y s.gives).own i) j).1) low in
      let near : number < issued_below seen = subst (λ (ps : List Packet). number < may_live x + length (retired_numbers ps)) same raised.2 in
      inr (inl (and_from (brings is_retirement seen) (not (was_told number seen) && nat_lt number (issued_below seen)) (brought is_retirement refl raised.0)
      (and_from (not (was_told number seen)) (nat_lt number (issued_below seen)) (ap not fresh) (lt-ltb number (issued_below seen) near)))))
  caused (Frame (Retirement number)) (inr (inr raised)) = (
      let may : list_any (retires s.using number) frames ≡ true = subst (λ (n : ℕ). list_any (retires n number) frames ≡ true) s.used raised in
      inr (inl (or_right (passes_over (seen_of x y call a s) number) (brings (retires s.using number) (seen_of x y call a s)) (brought (retires s.using number) refl may))))
  caused q (inr (inr raised)) = absurd raised

-- what waits of streams and beside their bytes
abbrev pub StreamsBegin : (x y : Party) (call : Call) (a : Answer) → Stepped x y call a → Type 0
StreamsBegin x y call a s = Left (Caused x y call a s) (called x y.given call a).end

-- a delivery
module _ (x y : Party) (delivery : Delivery) (a : Answer) (s : Stepped x y (calls.Deliver delivery) a) where
  abbrev told : Call
  told = calls.Deliver delivery

  abbrev behind : Party
  behind = called x y.given told a

  abbrev of_call : Seen
  of_call = seen_of x y told a s

  r : Arrived x y delivery behind.end (came_to behind y)
  r = delivered x y delivery a s s.opened

  -- behind the call the observer knows what it knows once this came
  flight_behind : of_call.behind.flight ≡ (with_delivery x.terms (watch_of x y) x.end.closing.state delivery (came_to behind y)).flight
  flight_behind =
      ap (λ (b : Bool). (watch_given b (lens x y) (timed_with (lens x y) (told_of told a x.end.closing.state) (watch_of x y))).flight) (only_polls_give x.policy x.end y.given told a refl s.answer)
      ∙ ap (λ (b : Bool). (watch_moment b x.terms (came_with (lens x y) (told_of told a x.end.closing.state) (watch_of x y))).flight) (untimely x.end.closing.state told refl)
      ∙ ap (λ (j : Intake). (with_delivery x.terms (watch_of x y) x.end.closing.state delivery j).flight)
      (ap (λ (i : Intake). and_told x.policy y.final (told_of told a x.end.closing.state) i) (watched_intake (lens x y) x.told (first_watch x.final x.began x.made.path.remote x.first_rtt x.initial_delay)) ∙ sym (came_more x y told a))

  begun_at : BegunAt (λ q. IsPending x.end q) (ids_before x (came_to behind y).took) (watch_of x y).flight.flying (watch_of x y).flight.acked r.frames (far_by x (came_to behind y).took) of_call.behind.flight.flying of_call.behind.flight.acked r.left.streams r.left.waiting.frames
  begun_at = subst (λ (f : Flight). BegunAt (λ q. IsPending x.end q) (ids_before x (came_to behind y).took) (watch_of x y).flight.flying (watch_of x y).flight.acked r.frames (far_by x (came_to behind y).took) f.flying f.acked r.left.streams r.left.waiting.frames) (sym flight_behind) r.begins

  here : (test : FrameValue → Bool) → Brings test (came_to x y) (came_to behind y) → brings test of_call ≡ true
  here test is = ap (λ (ps : List Packet). list_any (λ p. list_any test p.frames) ps) (came_is x y told a s) ∙ is

  -- what the frames leave has a cause
  left_pends : Pends (Caused x y told a s) r.left
  left_pends = pend_more _ (Caused x y told a s) _ _ (caused x y told a s r.frames (λ test none is. here test (r.brought test none is)) begun_at.new begun_at.more (came_to behind y).took (took_behind x y told a s)) begun_at.pends

  -- where the path changes, so has a number that the next id passes over
  module _ (m : MovesOn x y r.left behind.end (came_to behind y)) where
    changed : has_changed of_call.before of_call.behind ≡ true
    changed = changes x y told a s ∙ m.moved

    retired : (n : ℕ) → moves_over r.left behind.end n ≡ true → Caused x y told a s (Frame (Retirement n))
    retired n is =
        let both = and_parts (nat_lt r.left.ids.peer.active behind.end.ids.peer.active) (is_passed n r.left.ids.peer.active (next_after r.left.ids.peer)) is in
        let above = ltb-true r.left.ids.peer.active behind.end.ids.peer.active both.0 in
        let same = m.active in
        let next : next_after r.left.ids.peer ≡ next_of s.using (brought of_call.behind.intake.took) =
        m.next
        ∙ ap (λ (k : ℕ). next_of k (brought (came_to behind y).took)) s.used
        ∙ ap (λ (i : Intake). next_of s.using (brought i.took)) (sym (ap (λ (v : Watch). v.intake) (sym (behind_is x y told a s)) ∙ watched_intake (lens x y) behind.told (first_watch x.final x.began x.made.path.remote x.first_rtt x.initial_delay))) in
        let passes : is_passed n s.using (next_of s.using (brought of_call.behind.intake.took)) ≡ true =
        ap (λ (o : Option ℕ). is_passed n s.using o) (sym next) ∙ ap (λ (k : ℕ). is_passed n k (next_after r.left.ids.peer)) (sym s.used ∙ sym same) ∙ both.1 in
        let passed : moves_past of_call n ≡ true =
        and_from (has_changed of_call.before of_call.behind) _ changed (and_from (not s.stays) _ (goes s.stays refl (λ stays. (let kept = (s.tells changed).0 stays in omega arith))) passes) in
        inr (inl (or_left (passes_over of_call n) (brings (retires s.using n) of_call) (or_right (uses_past of_call n) (moves_past of_call n) passed)))
      where
        goes : (b : Bool) → s.stays ≡ b → (s.stays ≡ true → ⊥) → not b ≡ true
        goes true is stays = absurd (stays is)
        goes false is stays = refl

    moved_pends : Pends (Caused x y told a s) behind.end
    moved_pends = leaves_pend (Caused x y told a s) (record r.left { waiting = challenging r.left.waiting }) behind.end true none (λ n. moves_over r.left behind.end n) m.waits m.streams (λ n is. cc) retired left_pends

    moved_signals : SignalsBegin x y told a s
    moved_signals = (
      (λ set. inr (or_left (has_changed s.questions.watch of_call.behind) _ (ap (λ (v : Watch). has_changed v of_call.behind) s.watched ∙ changed))),
      (λ set. inr (here is_path_challenge (m.asks set))),
    )

  pub delivery_begins : StreamsBegin x y told a s
  delivery_begins = left_of (Caused x y told a s) behind.end (elim r.moves [
    | inl same ↦ subst (Pends (Caused x y told a s)) (sym same) left_pends
    | inr moved ↦ moved_pends moved
  ])

  delivery_signals : SignalsBegin x y told a s
  delivery_signals = elim r.moves [
    | inl same ↦ (
      (λ set. inl (r.signals.0 (ap (λ (e : End). is_some e.waiting.signals.challenge) (sym same) ∙ set))),
      (λ set. elim (r.signals.1 (ap (λ (e : End). is_some e.waiting.signals.response) (sym same) ∙ set)) [
        | inl waited ↦ inl waited
        | inr asked ↦ inr (here is_path_challenge asked)
      ]),
    )
    | inr moved ↦ moved_signals moved
  ]

pub signals_begin : (x y : Party) (call : Call) (a : Answer) (s : Stepped x y call a) → SignalsBegin x y call a s
signals_begin x y (calls.Poll now) a s = quiet_begin x y (calls.Poll now) a s (polled_signals x.policy x.end now s.opened)
signals_begin x y (calls.Timeout now) a s = ((λ set. elim (left.challenged set) [ inl waited ↦ inl waited | inr expires ↦ inr (due_anew x y now a s expires) ]), λ set. inl (sym (ap is_some left.response) ∙ set))
  where
    left : Timed x.end (timed_out x.policy x.end now).end now
    left = timed x.policy x.end now (was x y (calls.Timeout now) a s) s.opened
signals_begin x y (calls.Deliver delivery) a s = delivery_signals x y delivery a s
signals_begin x y call a s = quiet_begin x y call a s (quiet_signals x.policy x.end y.given call a refl refl refl)

-- a timeout
pub timeout_begins : (x y : Party) (now : ℕ) (a : Answer) (s : Stepped x y (calls.Timeout now) a) → StreamsBegin x y (calls.Timeout now) a s
timeout_begins x y now a s = left_of (Caused x y call a s) (called x y.given call a).end (pend_more _ (Caused x y call a s) _ _ (caused x y call a s [] (λ test none is. cc) at.new at.more (came_to x y).took same) at.pends)
  where
    call : Call
    call = calls.Timeout now

    w : Watch
    w = watch_of x y

    ids : IdsBefore
    ids = ids_before x (came_to x y).took

    opened : x.end.closing.state ≡ states.Open
    opened = was x y call a s

    t : Told
    t = told_of call a x.end.closing.state

    behind : (seen_of x y call a s).behind ≡ at_time x.terms w now
    behind =
        told_timed (lens x y) t w (only_polls_give x.policy x.end y.given call a refl s.answer) (none_comes (lens x y) t w.intake refl)
        ∙ ap (λ (z : State). watch_moment (is_timely z call) x.terms (record w { clock = clock_behind w.clock (moment_of z false call) })) opened

    same : (came_to x y).took ≡ (seen_of x y call a s).behind.intake.took
    same = ap (λ (i : Intake). i.took) (sym (watched_intake (lens x y) x.told (first_watch x.final x.began x.made.path.remote x.first_rtt x.initial_delay))) ∙ ap (λ (v : Watch). v.intake.took) (sym behind)

    -- no frame comes by it, and so nothing is to be known of streams
    Of : StreamsState → Type 0
    Of t = Unit {0}

    far : Type 0
    far = far_by x (came_to x y).took

    flies : Begun (λ q. IsPending x.end q) ids w.flight.flying w.flight.acked [] far Of (at_time x.terms w now).flight.flying (at_time x.terms w now).flight.acked (timed_out_in states.Open x.policy x.end now).end
    flies = timeout_flies (Begun (λ q. IsPending x.end q) ids w.flight.flying w.flight.acked [] far Of) (begun_loses (λ q. IsPending x.end q) ids w.flight.flying w.flight.acked [] far Of (λ step e i. i)) (λ flying acked c pending timers signals validation e i. i)
        x.policy x.terms w x.end now ((sight x y s.gives).stands opened) ((sight x y s.gives).watched.flight opened) (nothing_begun x y s.gives opened (came_to x y).took [] refl [] Of tt)

    at : BegunAt (λ q. IsPending x.end q) ids w.flight.flying w.flight.acked [] far (seen_of x y call a s).behind.flight.flying (seen_of x y call a s).behind.flight.acked (timed_out x.policy x.end now).end.streams (timed_out x.policy x.end now).end.waiting.frames
    at =
        subst (λ (v : Watch). BegunAt (λ q. IsPending x.end q) ids w.flight.flying w.flight.acked [] far v.flight.flying v.flight.acked (timed_out x.policy x.end now).end.streams (timed_out x.policy x.end now).end.waiting.frames) (sym behind)
        (subst (λ (z : State). BegunAt (λ q. IsPending x.end q) ids w.flight.flying w.flight.acked [] far (at_time x.terms w now).flight.flying (at_time x.terms w now).flight.acked (timed_out_in z x.policy x.end now).end.streams (timed_out_in z x.policy x.end now).end.waiting.frames) (sym opened) flies.0)

-- a poll
pub poll_begins : (x y : Party) (now : ℕ) (a : Answer) (s : Stepped x y (calls.Poll now) a) → StreamsBegin x y (calls.Poll now) a s
poll_begins x y now a s = polled_left (Caused x y call a s) x.policy x.end now (watch_of x y).flight.flying seen_waits.tells.waits
    (λ some u among c bears. inr (inr (inr (record { polls = refl; waited = subst (λ (n : ℕ). 0 < n) (sym seen_waits.probes) some; sent = u; flies = among; bears = bears })))) (λ anew. inr (inl (sym known_anew ∙ anew)))
    (pend_more (λ q. IsPending x.end q) (Caused x y call a s) x.end.streams x.end.waiting.frames (λ q is. inl is) (pends_start x y s.gives)) s.opened
  where
    call : Call
    call = calls.Poll now

    seen_waits : Waits x.terms (watch_of x y).clock (watch_of x y).flight (held x.end)
    seen_waits = (sight x y s.gives).watched.flight (was x y call a s)

    -- the observer finds when the peer is to be asked
    known_anew : is_anew (by_of x.end) ≡ wants_anew (asking_of x.made) (watch_of x y).own (watch_of x y).flight
    known_anew =
        anew_known x.terms (watch_of x y).clock x.sents (watch_of x y).flight x.end seen_waits.tells s.gives.0.1.0.0.next
        ∙ ap (λ (b : Asking). wants_anew b x.sents (watch_of x y).flight) s.gives.0.1.0.0.same
        ∙ ap (λ (ss : List Sent). wants_anew (asking_of x.made) ss (watch_of x y).flight) (sym (sight x y s.gives).own)

-- an observer finds which ids of the peer are passed over where the next one is used
pub skipped_is : (x y : Party) (call : Call) (a : Answer) (s : Stepped x y call a) (n : ℕ) → is_skipped call a x.end.ids.peer n ≡ uses_past (seen_of x y call a s) n
skipped_is x y call a s n =
    ap (λ (used : ℕ). uses_next call a && is_passed n used (next_after x.end.ids.peer)) s.used
    ∙ ap (λ (next : Option ℕ). uses_next call a && is_passed n s.using next) (known_next x y call a s)
