-- A stream is told to be finished only where all of it arrived at the other end.
use Rattle.std.proofs.Common.{◌≡◌, ℕ, ◌+◌, ◌<◌, Bool, true, false, List, [], ◌∷◌, length, Option, Some, None, refl, sym, ap, ◌∙◌, subst, arith}
use Rattle.std.specs.Prelude.{if◌then◌else◌, ◌==◌, option_map}
use Rattle.std.proofs.lemmas.Bool.{cond_both, eq-eqb}
use Rattle.quic_wire_core.specs.declared.stream_id.Side.{Side}
use Rattle.quic_wire_core.specs.StreamId.{other_side}
use Rattle.quic_wire.specs.Value.{FrameValue, StreamValue, stream}
use Rattle.quic_streams_parts.specs.declared.answers.StreamEvent.{StreamEvent}
use Rattle.quic_streams_parts.specs.declared.answers.StreamEvent.TheVariants.{Finished}
use Rattle.quic_streams_parts.specs.Events.{first_of, others_of}
use Rattle.quic_streams_state.specs.declared.state.StreamsState.{StreamsState}
use Rattle.quic_streams_state.specs.State.{room}
use Rattle.quic_streams_state.specs.Telling.{Telling, Passing, passed, told_behind, after_passing, polled}
use Rattle.quic_streams_laws.specs.Keeping.{finishes_in}
use Rattle.quic_streams_laws.specs.Written.{IsStreamOf}
use Rattle.quic_streams_laws.specs.Acknowledged.{AllArrived}
use Rattle.quic_machine.specs.declared.answers.LostReason.{LostReason}
use Rattle.quic_machine.specs.declared.answers.Event.TheVariants as events
use Rattle.quic_machine.specs.declared.run.Call.TheVariants as calls
use Rattle.quic_machine.specs.declared.run.Answer.TheVariants as answers
use Rattle.quic_machine.specs.Closing.{Closing, loss_to_tell}
use Rattle.quic_machine.specs.Calls.{tells_message, tells_done, tells_of}
use Rattle.quic_machine.specs.End.{streams_at}
use Rattle.quic_machine.specs.Machine.{World}
use Rattle.quic_headline.specs.Runs.{Run, Told, Packet, Intake, In, written, until, AreServed, EndHasArrived}
use Rattle.quic_headline.specs.Observer.{Sent}
use Rattle.quic_headline.specs.Headline.{IsHonest, IsRun, FinishedMeansArrived}
use Rattle.quic_headline.specs.Headline as headline
use Rattle.quic_headline.proofs.Packets.Invariant.{WereSent}
use Rattle.quic_headline.proofs.Packets.Group.{PacketsHold}
use Rattle.quic_headline.proofs.Places.Parties.{Party, came_to}
use Rattle.quic_headline.proofs.Places.Groups.{Way, Nothing, And, Group, both}
use Rattle.quic_headline.proofs.Places.Placed.{party_at, Placed, placed, answered}
use Rattle.quic_headline.proofs.Places.Openings.{took_there}
use Rattle.quic_headline.proofs.Halves.Wrote.{wrote}
use Rattle.quic_headline.proofs.Halves.Ghosts.{SaysOf, Saying}
use Rattle.quic_headline.proofs.Halves.Writes.{Writes}
use Rattle.quic_headline.proofs.Halves.Arrived.{OffsetIn, EndIn, Arrives, arrives_group, spoken}

-- ---- what is told next

-- whether a stream is told to be finished
abbrev pub tells : ℕ → Option StreamEvent → ℕ
tells id (Some (Finished s)) = if s == id then 1 else 0
tells id other = 0

-- the first of what waits, and the others
first_counts : (id : ℕ) (waiting : List StreamEvent) → finishes_in id waiting ≡ tells id (first_of waiting) + finishes_in id (others_of waiting)
first_counts id [] = omega arith
first_counts id (Finished s ∷ waiting) = refl
first_counts id (event ∷ waiting) = omega arith

-- what waits, in step with what is told
abbrev Counts : ℕ → StreamsState → Telling → Type 0
Counts id s t = finishes_in id s.events.queue ≡ tells id t.answer + finishes_in id t.state.events.queue

behind_counts : (id : ℕ) (s : StreamsState) (o : Option ℕ) (t : StreamsState) → t.events.queue ≡ s.events.queue → Counts id s (told_behind o t)
behind_counts id s None t same = let here = ap (finishes_in id) same in let all = first_counts id t.events.queue in omega arith
behind_counts id s (Some n) t same = let here = ap (finishes_in id) same in omega arith

-- what is told waits no more, and all else does
pub told_counts : (id : ℕ) (s : StreamsState) → Counts id s (polled s)
told_counts id s =
    cond_both {A = Telling} s.events.opened.bi _ _ (Counts id s) (λ bi. omega arith) (λ bi.
    cond_both {A = Telling} s.events.opened.uni _ _ (Counts id s) (λ uni. omega arith) (λ uni.
    cond_both {A = Telling} (room s.sending == 0) _ _ (Counts id s) (λ full. first_counts id s.events.queue) (λ free.
    let p : Passing = passed s.sending.blocked s.sending.halves.live in
    behind_counts id s p.found (after_passing s p) refl)))

-- a stream that is told to be finished waited to be told so
pub told_waited : (id : ℕ) (s : StreamsState) → (polled s).answer ≡ Some (Finished id) → 0 < finishes_in id s.events.queue
told_waited id s is =
    let counts = told_counts id s in
    let one : tells id (polled s).answer ≡ 1 = ap (tells id) is ∙ ap (λ (b : Bool). if b then 1 else 0) (eq-eqb id id refl) in
    omega arith

-- what is told of a stream is what its streams tell, and neither a message nor that the handshake
-- is confirmed
told_stream : (id : ℕ) (message done : Bool) (o : Option StreamEvent) (c : Closing) → answers.Event (Some (events.Stream (Finished id))) ≡ answers.Event (if message then Some events.Message else (if done then Some events.HandshakeConfirmed else tells_of o c)) → o ≡ Some (Finished id)
told_stream id true done o c is = cc
told_stream id false true o c is = cc
told_stream id false false (Some event) c is = cc
told_stream id false false None c is = go (loss_to_tell c) is
  where
    go : (r : Option LostReason) → answers.Event (Some (events.Stream (Finished id))) ≡ answers.Event (option_map events.Lost r) → None ≡ Some (Finished id)
    go None same = cc
    go (Some reason) same = cc

-- ---- all of a stream

-- the end that came of a stream stands behind all that was written on it
pub end_last : (sents : List Sent) (told : List Told) (packets : List Packet) → ((s : Sent) → In s sents → (f : FrameValue) → In f s.frames → SaysOf (wrote told) f) → WereSent sents packets → (id : ℕ)
    → EndIn packets id → EndHasArrived packets id (length (written id told))
end_last sents told packets says sent id end =
    let e = end.1 in
    let f : StreamValue = e.frame in
    let at = sent e.taken.packet e.taken.was_taken in
    let said : IsStreamOf (wrote told f.id) f = says at.sent at.is.0 (stream f) (subst (λ (fs : List FrameValue). In (stream f) fs) (sym at.frames) e.taken.carried) in
    record { frame = f; taken = e.taken; of_stream = e.of_stream; fin = e.fin; behind = said.last e.fin ∙ ap (λ (n : ℕ). length (written n told)) e.of_stream }

-- what the packets brought that were sent, is what was written
pub all_arrived : (sents : List Sent) (told : List Told) (packets : List Packet) → ((s : Sent) → In s sents → (f : FrameValue) → In f s.frames → SaysOf (wrote told) f) → WereSent sents packets → (id : ℕ)
    → AllArrived (OffsetIn packets id) (EndIn packets id) (wrote told id) → headline.AllArrived packets id told
all_arrived sents told packets says sent id a = record { ended = a.ended; bytes = a.bytes; end = end_last sents told packets says sent id a.end }

-- ---- the clause

-- What it rests on at a place.
pub record SaysWhatArrived (G : Way) : Type 1 where
  pub packets : (x y : Party) → G x y → PacketsHold x y
  pub says : (x y : Party) → G x y → Saying x y
  pub arrives : (x y : Party) → G x y → Arrives x y

module _ (G : Way) (g : SaysWhatArrived G) (r : Run) (end : World) (honest : IsHonest r) (all : (side : Side) (i : ℕ) → AreServed r i → Placed G r end side i) where
  -- a stream is told finished only where it was ended, and all of it arrived
  pub finished_means_arrived : FinishedMeansArrived r
  finished_means_arrived side id i served at =
      let p = all side i served in
      let x : Party = party_at r i p.world side p.sents in
      let y : Party = party_at r i p.world (other_side side) p.theirs in
      let is = answered r p.world end i side calls.Event (answers.Event (Some (events.Stream (Finished id)))) p.goes_on at in
      let waited = told_waited id x.end.streams (told_stream id (tells_message x.end) (tells_done x.end) (polled x.end.streams).answer x.end.closing is) in
      let arrived = all_arrived p.sents (until r side i) (came_to y x).took (g.says x y p.gives) (g.packets x y p.gives).taken id ((g.arrives x y p.gives).told id waited) in
      subst (λ (packets : List Packet). headline.AllArrived packets id (until r side i)) (sym (ap (λ (j : Intake). j.took) (took_there r honest p.world i side p.sents p.theirs))) arrived

-- ---- over a group of streams

module _ (G : Way) (g : Group Nothing G) (packets : (x y : Party) → G x y → PacketsHold x y) (says : (x y : Party) → G x y → Saying x y) (writes : (x y : Party) → G x y → Writes (wrote x.told) (streams_at x.end)) where
  -- what was acknowledged arrived, beside a group that has the packets and what was written
  pub arrived_beside : Group Nothing (And G Arrives)
  arrived_beside = both Nothing G Arrives g (arrives_group (And Nothing G) (spoken (And Nothing G) (λ x y h. packets x y h.1) (λ x y h. says x y h.1) (λ x y h. writes x y h.1)))

  -- so the clause holds of each honest run
  pub finished_arrived : (r : Run) (end : World) → IsHonest r → IsRun r end → FinishedMeansArrived r
  finished_arrived r end honest run =
      finished_means_arrived (And G Arrives) (record { packets = λ x y h. packets x y h.0; says = λ x y h. says x y h.0; arrives = λ x y h. h.1 }) r end honest (placed (And G Arrives) arrived_beside r end honest run)
