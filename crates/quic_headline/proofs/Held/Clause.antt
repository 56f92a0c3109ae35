-- Where a poll of an open end gives nothing, window or pacer hold back what waits, or nothing more
-- may go to the peer's address: the clauses, at each place of an honest run.
use Rattle.std.proofs.Common.{◌≡◌, ◌⊎◌, ℕ, suc, true, not, ◌||◌, length, take, sym, ap, ◌∙◌, subst, inl, inr}
use Rattle.std.proofs.lemmas.Bool.{or_left, or_right}
use Rattle.quic_wire_core.specs.declared.stream_id.Side.{Side}
use Rattle.quic_wire_core.specs.declared.stream_id.Side.TheVariants.{Client, Server}
use Rattle.quic_wire_core.specs.StreamId.{other_side}
use Rattle.quic_streams_state.specs.Waiting.{is_empty, can_send_stream_data}
use Rattle.quic_machine.specs.Opens.{own_id_length}
use Rattle.quic_machine.specs.End.{End}
use Rattle.quic_machine.specs.Poll.{message_waits, asks_to_go}
use Rattle.quic_machine.specs.Heard.{nothing_heard}
use Rattle.quic_machine.specs.Machine.{World, end_at, heard_at}
use Rattle.quic_machine.specs.RunLaws.{one_run}
use Rattle.quic_machine.specs.declared.answers.State.TheVariants as states
use Rattle.quic_machine.specs.declared.run.View.{View}
use Rattle.quic_headline.specs.Runs.{Run, In, LeadsTo, AreServed}
use Rattle.quic_headline.specs.Observer.{HoldsOffset, HoldsEnd, Watch, watch}
use Rattle.quic_headline.specs.Headline.{IsHonest, IsRun}
use Rattle.quic_headline.specs.Polls.{GaveNothing, IsHeldBack, IsLimited, IsByteToGo, IsEndToGo, IsToGo, PollsSendWhatWaits, PollsSendMessages}
use Rattle.quic_headline.proofs.Packets.Quiet.{HaveHeardNothing}
use Rattle.quic_headline.proofs.Packets.Group.{PacketsHold, has_room}
use Rattle.quic_headline.proofs.Packets.Sight.{Sight}
use Rattle.quic_headline.proofs.Places.Parties.{Party, watch_of}
use Rattle.quic_headline.proofs.Places.Groups.{Way, Nothing, And, Group, both}
use Rattle.quic_headline.proofs.Places.Placed.{party_at, Placed, placed, placed_less, watch_is}
use Rattle.quic_headline.proofs.Places.Everything as everything
use Rattle.quic_headline.proofs.Places.Theorems.{ready}
use Rattle.quic_headline.proofs.Halves.Arrived.{Arrives, spoken}
use Rattle.quic_headline.proofs.Halves.Ready.{Ready}
use Rattle.quic_headline.proofs.Halves.Writer.{WritesHold}
use Rattle.quic_headline.proofs.Duties.Group.{Flying}
use Rattle.quic_headline.proofs.Settled.Group.{Settled, settled_group}
use Rattle.quic_headline.proofs.Timers.Watched.{Observed}
use Rattle.quic_headline.proofs.Held.Behind.{IsBlocked, open_now, held_back}
use Rattle.quic_headline.proofs.Held.Bytes.{when_blocked}
use Rattle.quic_headline.proofs.Held.Messages.{AreShort, short_waits, short_group}
use Rattle.quic_headline.proofs.Held.Unsent.{offset_queued, end_queued}
use Rattle.quic_machine.specs.Parts.{signals_wait}

-- ---- what waits asks to go

-- where a stream has something to send
queued_asks : (e : End) → can_send_stream_data e.streams ≡ true → asks_to_go e ≡ true
queued_asks e queued =
    or_right (signals_wait e.waiting.signals) (not (is_empty e.waiting.frames e.streams) || (message_waits e || can_send_stream_data e.streams))
    (or_right (not (is_empty e.waiting.frames e.streams)) (message_waits e || can_send_stream_data e.streams) (or_right (message_waits e) (can_send_stream_data e.streams) queued))

-- and where a message waits
pub message_asks : (e : End) → message_waits e ≡ true → asks_to_go e ≡ true
message_asks e waits =
    or_right (signals_wait e.waiting.signals) (not (is_empty e.waiting.frames e.streams) || (message_waits e || can_send_stream_data e.streams))
    (or_right (not (is_empty e.waiting.frames e.streams)) (message_waits e || can_send_stream_data e.streams) (or_left (message_waits e) (can_send_stream_data e.streams) waits))

-- ---- what holds back

-- what an end had counted before the first event
pub heard_first : (side : Side) (w : World) → HaveHeardNothing w → heard_at side w ≡ nothing_heard
heard_first Client w quiet = quiet.0
heard_first Server w quiet = quiet.1

-- where nothing more may go by what an end counted, so it is by the lists
pub held_or_blocked : (r : Run) (end : World) → IsHonest r → IsRun r end → ((side : Side) (i : ℕ) → AreServed r i → Placed Observed r end side i) → HaveHeardNothing r.start
    → (side : Side) (i now : ℕ) (v : View) (w : World) → AreServed r (suc i) → LeadsTo r (suc i) w → GaveNothing r side i now v → IsHeldBack r side (suc i) v ⊎ IsBlocked (end_at side w) (heard_at side w)
    → IsHeldBack r side (suc i) v ⊎ IsLimited r side (suc i) v
held_or_blocked r end honest run all quiet side i now v w served leads gave held = elim held [
  | inl back ↦ inl back
  | inr blocked ↦ inr (when_blocked r end honest run all side (heard_first side r.start quiet) i now v w served leads gave blocked)
]

-- ---- bytes of streams, and their ends

-- What the clause on streams rests on at a place.
pub record SaysWhatWaits (G : Way) : Type 1 where
  pub packets : (x y : Party) → G x y → PacketsHold x y
  pub writes : (x y : Party) → G x y → WritesHold x y
  pub flying : (x y : Party) → G x y → Flying x y
  pub settled : (x y : Party) → G x y → Settled x y
  pub sight : (x y : Party) → G x y → Sight x y

module _ (G : Way) (g : SaysWhatWaits G) (r : Run) (end : World) (honest : IsHonest r) where
  -- where a byte of a stream is to go at an open end, or its end, something asks
  stream_asks : (side : Side) (i id : ℕ) (at : Placed G r end side i) → (end_at side at.world).closing.state ≡ states.Open → IsToGo r side i id → asks_to_go (end_at side at.world) ≡ true
  stream_asks side i id at opened waits = queued_asks x.end (elim waits [ inl byte ↦ byte_queued byte.0 byte.1 | inr last ↦ last_queued last ])
    where
      x : Party
      x = party_at r i at.world side at.sents

      y : Party
      y = party_at r i at.world (other_side side) at.theirs

      -- the observer of the end is that of the run
      seen : (P : Watch → Type 0) → P (watch_of x y) → P (watch r side i)
      seen P is = subst P (sym (watch_is r honest at.world i side at.sents at.theirs)) is

      byte_queued : (offset : ℕ) → IsByteToGo r side i id offset → can_send_stream_data x.end.streams ≡ true
      byte_queued offset b =
          offset_queued x y (g.writes x y at.gives) (g.flying x y at.gives) (g.settled x y at.gives) (g.sight x y at.gives) opened id offset b.kept b.written
          (λ holds. b.not_flying (seen (λ w. HoldsOffset w.flight.flying id offset) holds)) (λ holds. b.not_acked (seen (λ w. HoldsOffset w.flight.acked id offset) holds))

      last_queued : IsEndToGo r side i id → can_send_stream_data x.end.streams ≡ true
      last_queued b =
          end_queued x y (g.writes x y at.gives) (g.flying x y at.gives) (g.settled x y at.gives) (g.sight x y at.gives) opened id b.kept b.ended
          (λ holds. b.not_flying (seen (λ w. HoldsEnd w.flight.flying id) holds)) (λ holds. b.not_acked (seen (λ w. HoldsEnd w.flight.acked id) holds))

  module _ (all : (side : Side) (i : ℕ) → AreServed r i → Placed G r end side i) where
    pub what_waits : IsRun r end → HaveHeardNothing r.start → PollsSendWhatWaits r
    what_waits run quiet side i now id v served gave waits =
        let at = all side (suc i) served in
        held_or_blocked r end honest run (λ by j there. placed_less G Observed r end by j (λ x y h. (g.packets x y h, g.sight x y h)) (all by j there)) quiet side i now v at.world served at.leads gave
        (held_back G (record { packets = g.packets; sight = g.sight }) r end honest side i now v at gave (λ none. stream_asks side (suc i) id at (open_now r side i now v at.world at.leads gave) waits))

    pub what_asks_there : (side : Side) (i id : ℕ) (w : World) → AreServed r i → LeadsTo r i w → (end_at side w).closing.state ≡ states.Open → IsToGo r side i id → asks_to_go (end_at side w) ≡ true
    what_asks_there side i id w served leads opened waits =
        let at = all side i served in
        let same : at.world ≡ w = (one_run r.keys (take i r.answers) r.start (take i r.events) (take i r.views) (take i r.views) at.world w served at.leads leads).1 in
        subst (λ (u : World). asks_to_go (end_at side u) ≡ true) same (stream_asks side i id at (ap (λ (u : World). (end_at side u).closing.state) same ∙ opened) waits)

-- ---- messages

-- What the clause on messages rests on at a place.
pub record SaysWhatMessages (G : Way) : Type 1 where
  pub packets : (x y : Party) → G x y → PacketsHold x y
  pub sight : (x y : Party) → G x y → Sight x y
  pub short : (x y : Party) → G x y → AreShort x y

module _ (G : Way) (g : SaysWhatMessages G) (r : Run) (end : World) (honest : IsHonest r) (run : IsRun r end) (quiet : HaveHeardNothing r.start) (all : (side : Side) (i : ℕ) → AreServed r i → Placed G r end side i) where
  pub messages_wait : PollsSendMessages r
  messages_wait side i now message v w served gave leads waits =
      let at = all side (suc i) served in
      let x : Party = party_at r (suc i) at.world side at.sents in
      let y : Party = party_at r (suc i) at.world (other_side side) at.theirs in
      let is : w ≡ at.world = (one_run r.keys (take (suc i) r.answers) r.start (take (suc i) r.events) (take (suc i) r.views) (take (suc i) r.views) w at.world served leads at.leads).1 in
      let here : In message x.end.messages.queues.outgoing = subst (λ (u : World). In message (end_at side u).messages.queues.outgoing) is waits in
      let eight : length x.end.ids.peer.id ≡ own_id_length = (g.packets x y at.gives).long.peer.used in
      held_or_blocked r end honest run (λ by j there. placed_less G Observed r end by j (λ x y h. (g.packets x y h, g.sight x y h)) (all by j there)) quiet side i now v at.world served at.leads gave
      (held_back G (record { packets = g.packets; sight = g.sight }) r end honest side i now v at gave (λ none. message_asks x.end (short_waits x.end message none (has_room x y (g.packets x y at.gives)) eight (g.short x y at.gives).short here)))

-- ---- all of it, at each place

-- all that is known to be under way, and what is known to be acknowledged
abbrev UnderWay : Way
UnderWay = And (And (And (everything.All Ready ready) Arrives) (everything.Said Ready ready)) Flying

abbrev Known : Way
Known = And UnderWay Settled

known : Group Nothing Known
known = both Nothing UnderWay Settled (everything.all_flying Ready ready) (settled_group (And Nothing UnderWay) (record {
  spoken = spoken (And Nothing UnderWay) (λ x y h. h.1.0.0.0.0.0) (λ x y h. h.1.0.0.0.0.1.0.says) (λ x y h. h.1.0.0.0.0.1.0.writes);
  sight = λ x y h. h.1.0.0.0.1;
}))

knows_all : SaysWhatWaits Known
knows_all = record { packets = λ x y h. h.0.0.0.0.0.0; writes = λ x y h. h.0.0.0.0.0.1.0; flying = λ x y h. h.0.1; settled = λ x y h. h.1; sight = λ x y h. h.0.0.0.0.1 }

pub polls_send_what_waits : (r : Run) (end : World) → IsHonest r → IsRun r end → HaveHeardNothing r.start → PollsSendWhatWaits r
polls_send_what_waits r end honest run quiet = what_waits Known knows_all r end honest (placed Known known r end honest run) run quiet

-- and where a byte of a stream is to go at an open end, or its end, something asks
pub what_asks : (r : Run) (end : World) → IsHonest r → IsRun r end → (side : Side) (i id : ℕ) (w : World) → AreServed r i → LeadsTo r i w → (end_at side w).closing.state ≡ states.Open → IsToGo r side i id → asks_to_go (end_at side w) ≡ true
what_asks r end honest run = what_asks_there Known knows_all r end honest (placed Known known r end honest run)

-- the packets, the streams and what observers know, and how long messages are
abbrev pub Shortly : Way
Shortly = And (everything.All Ready ready) AreShort

pub shortly : Group Nothing Shortly
shortly = both Nothing (everything.All Ready ready) AreShort (everything.all Ready ready) (short_group (And Nothing (everything.All Ready ready)) (λ x y h. h.1.0.0))

pub polls_send_messages : (r : Run) (end : World) → IsHonest r → IsRun r end → HaveHeardNothing r.start → PollsSendMessages r
polls_send_messages r end honest run quiet = messages_wait Shortly (record { packets = λ x y h. h.0.0.0; sight = λ x y h. h.0.1; short = λ x y h. h.1 }) r end honest run quiet (placed Shortly shortly r end honest run)
