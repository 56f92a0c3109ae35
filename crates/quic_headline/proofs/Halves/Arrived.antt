-- What was acknowledged of the streams of an end the other end took, and all of each stream that is
-- to be told finished.
use Rattle.std.proofs.Common.{◌≡◌, ℕ, ◌+◌, Bool, true, false, List, [], ◌∷◌, length, refl, sym, subst, inl, inr, arith}
use Rattle.quic_wire.specs.Value.{FrameValue, StreamValue, AckValue, ack, stream}
use Rattle.quic_send_buffer.specs.declared.stream_meta.StreamMeta.{StreamMeta}
use Rattle.quic_streams_parts.specs.SendHalf.{meta_of}
use Rattle.quic_streams_state.specs.State.{new_streams}
use Rattle.quic_streams_laws.specs.Written.{Wrote, HasSmallLimits, IsStreamOf, nothing_done}
use Rattle.quic_streams_laws.specs.Acknowledged.{FinishedHave, MetaArrived}
use Rattle.quic_streams_laws.specs.AcknowledgedLaws.{acked_new, acked_set_params}
use Rattle.quic_config.specs.Transport.{Settings, IsInRange, parameters_of}
use Rattle.quic_machine.specs.declared.run.Call.{Call}
use Rattle.quic_machine.specs.declared.run.Call.TheVariants as calls
use Rattle.quic_machine.specs.declared.run.Delivery.{Delivery}
use Rattle.quic_machine.specs.declared.run.Answer.{Answer}
use Rattle.quic_machine.specs.Tracking.{Carried, streams_in}
use Rattle.quic_machine.specs.End.{End, streams_at}
use Rattle.quic_machine.specs.Calls.{is_open}
use Rattle.quic_machine.specs.StreamCalls.{is_on_streams}
use Rattle.quic_machine.specs.Receive.{Outcome}
use Rattle.quic_headline.specs.Runs.{Packet, Intake, In, WasTaken, HasArrived, EndHasArrived, nothing_came}
use Rattle.quic_headline.specs.Observer.{Sent}
use Rattle.quic_headline.proofs.Packets.Invariant.{IsSent, WereSent, carried_stream}
use Rattle.quic_headline.proofs.Packets.Growth.{step_of}
use Rattle.quic_headline.proofs.Packets.Intakes.{took_more}
use Rattle.quic_headline.proofs.Packets.Delivered.{Arrivals, frames_at, among_at}
use Rattle.quic_headline.proofs.Packets.Named.{NamesTaken, WasCarried, IsCarriedBy, tracked_carried}
use Rattle.quic_headline.proofs.Packets.Group.{PacketsHold, meets}
use Rattle.quic_headline.proofs.Places.Parties.{Party, called, came_to, told_of, Beginning, begun_as}
use Rattle.quic_headline.proofs.Places.Groups.{Way, Calls, Group}
use Rattle.quic_headline.proofs.Places.Coming.{by_coming}
use Rattle.quic_headline.proofs.Halves.Wrote.{wrote, done_by, ResetsFirst, wrote_more}
use Rattle.quic_headline.proofs.Halves.Writes.{Writes, resets_first}
use Rattle.quic_headline.proofs.Halves.Ghosts.{SaysOf, Saying}
use Rattle.quic_headline.proofs.Halves.Small.{payload_small, IsSmallLimit}
use Rattle.quic_headline.proofs.Halves.WordsCalls.{HaveEnds, call_on_is, call_keeps}
use Rattle.quic_headline.proofs.Halves.Finished.{finished_words, finished_same, finished_grows, Brought, finished_arrivals}
use Rattle.quic_headline.proofs.Packets.Strays.{acks_at}

-- ---- what frames say

-- what of streams a packet carries stands in its frames
pub meta_in : (fs : List FrameValue) (m : StreamMeta) → In m (streams_in fs) → (f : StreamValue) × In (stream f) fs × (m ≡ meta_of f)
meta_in [] m i = absurd i
meta_in (stream g ∷ fs) m (inl is) = (g, inl refl, is)
meta_in (stream g ∷ fs) m (inr i) = let rest = meta_in fs m i in (rest.0, inr rest.1, rest.2)
meta_in (other ∷ fs) m i = let rest = meta_in fs m i in (rest.0, inr rest.1, rest.2)

-- an offset of a stream is in these packets, and its end is
abbrev pub OffsetIn : List Packet → ℕ → ℕ → Type 0
OffsetIn took id o = HasArrived took id o

abbrev pub EndIn : List Packet → ℕ → Type 0
EndIn took id = (size : ℕ) × EndHasArrived took id size

-- what all frames say that an end sent
module _ (sents : List Sent) (w : ℕ → Wrote) (says : (s : Sent) → In s sents → (f : FrameValue) → In f s.frames → SaysOf w f) (took : List Packet) (sent : WereSent sents took) where
  -- what a packet carried that was taken arrived
  carried_came : (c : Carried) (m : StreamMeta) → WasCarried took c → In m c.stream_frames → MetaArrived (OffsetIn took) (EndIn took) w m
  carried_came c m was among =
      let found = meta_in was.packet.frames m (carried_stream c was.packet.frames was.is m among) in
      let f : StreamValue = found.0 in
      let at = sent was.packet was.was_taken in
      let said : IsStreamOf (w f.id) f = says at.sent at.is.0 (stream f) (subst (λ (fs : List FrameValue). In (stream f) fs) (sym at.frames) found.1) in
      let taken : WasTaken took f = record { packet = was.packet; was_taken = was.was_taken; carried = found.1 } in
      subst (λ (n : StreamMeta). MetaArrived (OffsetIn took) (EndIn took) w n) (sym found.2) (record {
        bytes = λ o from below. record { frame = f; taken = taken; of_stream = refl; from = from; below = below };
        end = λ fin. (f.offset + length f.bytes, record { frame = f; taken = taken; of_stream = refl; fin = fin; behind = refl });
        ended = λ fin. said.ended fin;
      })

  -- one that was sent had the end only where there is one
  carried_ended : (c : Carried) (m : StreamMeta) → IsCarriedBy sents c → In m c.stream_frames → m.fin ≡ true → (w m.id).ended ≡ true
  carried_ended c m was among =
      let found = meta_in was.sent.frames m (carried_stream c was.sent.frames was.is m among) in
      let f : StreamValue = found.0 in
      let said : IsStreamOf (w f.id) f = says was.sent was.among (stream f) found.1 in
      subst (λ (n : StreamMeta). n.fin ≡ true → (w n.id).ended ≡ true) (sym found.2) (λ fin. said.ended fin)

  brought : Brought took sents (OffsetIn took) (EndIn took) w
  brought = record { came = carried_came; ended = carried_ended }

-- ---- what arrived stays so

module _ (old new : List Packet) (stays : (packet : Packet) → In packet old → In packet new) where
  taken_on : {f : StreamValue} → WasTaken old f → WasTaken new f
  taken_on t = record { packet = t.packet; was_taken = stays t.packet t.was_taken; carried = t.carried }

  offset_on : {id o : ℕ} → HasArrived old id o → HasArrived new id o
  offset_on a = record { frame = a.frame; taken = taken_on a.taken; of_stream = a.of_stream; from = a.from; below = a.below }

  end_on : {id size : ℕ} → EndHasArrived old id size → EndHasArrived new id size
  end_on a = record { frame = a.frame; taken = taken_on a.taken; of_stream = a.of_stream; fin = a.fin; behind = a.behind }

-- ---- the group

-- what x sent on streams and knows to be acknowledged, y took
abbrev pub Arrives : Way
Arrives x y = FinishedHave (OffsetIn (came_to y x).took) (EndIn (came_to y x).took) (wrote x.told) x.end.streams

-- What that rests on: the packets between both ends; what was sent says what was done; and one call
-- more is one word more of what was done.
pub record IsSpoken (B : Way) : Type 1 where
  pub packets : (x y : Party) → B x y → PacketsHold x y
  pub says : (x y : Party) → B x y → Saying x y
  pub done : (x y : Party) (call : Call) (a : Answer) → Calls B x y call a → (id : ℕ) → wrote (called x y.given call a).told id ≡ done_by call a (wrote x.told) id

module _ (B : Way) (b : IsSpoken B) where
  -- ACK frames of a datagram that y sent name packets that y took
  names_taken : (x y : Party) → PacketsHold y x → (s : Sent) → In s y.sents → (a : AckValue) → In (ack a) s.frames → NamesTaken (came_to y x).took a
  names_taken x y back s among a carried k named = back.named s a k among carried named

  -- what x sent had the end of a stream only where there is one
  ends : (x y : Party) → PacketsHold x y → Saying x y → HaveEnds (wrote x.told) x.end.tracking.packets
  ends x y p says n t among m inside fin = carried_ended x.sents (wrote x.told) says (came_to y x).took p.taken t.carried m (tracked_carried x.sents x.end.tracking.packets p.tracked n t among) inside fin

  -- x makes a call
  arrives_writer : (x y : Party) (call : Call) (a : Answer) → Calls B x y call a → Arrives x y → Arrives (called x y.given call a) y
  arrives_writer x y call a c i =
      let gives = b.packets x y c.gives in
      let takes = b.packets y x c.takes in
      let took : List Packet = (came_to y x).took in
      finished_same (OffsetIn took) (EndIn took) (done_by call a (wrote x.told)) (wrote (called x y.given call a).told) (called x y.given call a).end.streams (b.done x y call a c)
      (by_coming x y a c.joined c.served (meets y x takes) (λ (e : End) (j : Intake). FinishedHave (OffsetIn took) (EndIn took) (done_by call a (wrote x.told)) e.streams) call c.answer (record {
        apart = λ apart. call_keeps (FinishedHave (OffsetIn took) (EndIn took)) (finished_words (OffsetIn took) (EndIn took)) x.policy (wrote x.told) x.end y.given call a apart c.answer (ends x y gives (b.says x y c.gives)) i;
        none = λ delivery is. none delivery is;
        comes = λ delivery is s among here. comes gives takes delivery is s among here;
      }))
    where
      none : (delivery : Delivery) → call ≡ calls.Deliver delivery → FinishedHave (OffsetIn (came_to y x).took) (EndIn (came_to y x).took) (done_by call a (wrote x.told)) x.end.streams
      none delivery is = rw is i

      comes : PacketsHold x y → PacketsHold y x → (delivery : Delivery) → call ≡ calls.Deliver delivery → (s : Sent) → In s y.sents → (here : Bool)
          → Arrivals x.end delivery.now s.number s.frames (frames_at here s.frames) (came_to x y) (λ (o : Outcome) (j : Intake). FinishedHave (OffsetIn (came_to y x).took) (EndIn (came_to y x).took) (done_by call a (wrote x.told)) o.end.streams)
      comes gives takes delivery is s among here =
          let took : List Packet = (came_to y x).took in
          let spelled = step_of (IsSent y.policy) y.sents y.given s takes.gives.each among in
          rw is (finished_arrivals took x.sents (record { taken = gives.taken; rising = gives.gives.rising }) (OffsetIn took) (EndIn took) (wrote x.told) (brought x.sents (wrote x.told) (b.says x y c.gives) took gives.taken) x.end delivery.now s.number s.frames (frames_at here s.frames) (came_to x y)
          (acks_at (NamesTaken took) here s.frames (names_taken x y takes s among)) (among_at IsSmallLimit tt here s.frames (payload_small s.frames spelled.1.payload spelled.1.spells)) gives.tracked i)

  -- y makes a call: what it took stays taken
  arrives_reader : (x y : Party) (call : Call) (a : Answer) → Arrives y x → Arrives y (called x y.given call a)
  arrives_reader x y call a i =
      let old : List Packet = (came_to x y).took in
      let new : List Packet = (came_to (called x y.given call a) y).took in
      let stays : (packet : Packet) → In packet old → In packet new = took_more x.policy y.final x.told (told_of call a x.end.closing.state) nothing_came in
      finished_grows (OffsetIn old) (OffsetIn new) (EndIn old) (EndIn new) (λ id o has. offset_on old new stays has) (λ id has. (has.0, end_on old new stays has.1)) (wrote y.told) y.end.streams i

-- ---- at the start

-- a setting in range is a small limit
pub small_limits : (s : Settings) → IsInRange s → HasSmallLimits (parameters_of s)
small_limits s range = record { own_bi = range.stream_receive_window; own_uni = range.stream_receive_window; remote = range.stream_receive_window }

-- nothing was acknowledged
arrives_first : (x y : Beginning) → IsInRange y.making.settings → Arrives (begun_as x y) (begun_as y x)
arrives_first x y range =
    let s : Settings = x.making.settings in
    record {
      acked = acked_set_params (OffsetIn []) (EndIn []) (λ id. nothing_done) (new_streams x.side s.max_uni s.max_bidi s.send_window s.receive_window s.stream_receive_window) (parameters_of y.making.settings) (small_limits y.making.settings range)
          (acked_new (OffsetIn []) (EndIn []) x.side s.max_uni s.max_bidi s.send_window s.receive_window s.stream_receive_window);
      told = λ id some. absurd (omega arith);
    }

-- it holds at the start, and stays with each call at either end
pub arrives_group : (B : Way) → IsSpoken B → Group B Arrives
arrives_group B b = record {
  first = λ x y m there here. arrives_first x y m.y_is.range;
  writer = λ x y call a c i back. arrives_writer B b x y call a c i;
  reader = λ x y call a c i back. arrives_reader B b x y call a back;
  shows = λ x y here there above below i back. record { acked = i.acked; told = i.told };
}

-- ---- what it rests on

-- a call that is none on streams resets none
none_first : (w : ℕ → Wrote) (call : Call) (a : Answer) → is_on_streams call ≡ false → ResetsFirst w call a
none_first w (calls.Reset id code) a apart = cc
none_first w call a apart = tt

-- where an end holds what was written, one call more is one word more of it
pub spoken : (B : Way) → ((x y : Party) → B x y → PacketsHold x y) → ((x y : Party) → B x y → Saying x y) → ((x y : Party) → B x y → Writes (wrote x.told) (streams_at x.end)) → IsSpoken B
spoken B packets says writes = record { packets = packets; says = says; done = λ x y call a c id. wrote_more x.told (told_of call a x.end.closing.state) id (first x y call a c (is_on_streams call) refl) }
  where
    first : (x y : Party) (call : Call) (a : Answer) → Calls B x y call a → (b : Bool) → is_on_streams call ≡ b → ResetsFirst (wrote x.told) call a
    first x y call a c true on = resets_first (wrote x.told) x.end.streams x.end.waiting.frames (writes x y c.gives) (is_open x.end.closing.state) call a ((call_on_is x.policy x.end y.given call a on).answer c.answer)
    first x y call a c false off = none_first (wrote x.told) call a off
