-- What holds of the packets between two ends of a run at each place: one gives, the other takes. A
-- record for each concern, over the plain values that it reads.
use Rattle.std.specs.Prelude.{ℕ, ◌+◌, ◌-◌, ◌<◌, ◌≤◌, ◌^◌, ◌≡◌, ◌≢◌, ◌⊎◌, true, List, [], ◌∷◌, length, Option, Some, None}
use Rattle.std.proofs.Common.{ap, subst, inl, inr}
use Rattle.quic_retransmits.specs.Retransmits.{nothing_waits}
use Rattle.quic_send_buffer.specs.declared.stream_meta.StreamMeta.{StreamMeta}
use Rattle.quic_sets.specs.Runs.{Run, Has}
use Rattle.quic_wire.specs.Value.{FrameValue, AckValue, ack}
use Rattle.quic_wire.specs.AckSet.{IsSmall}
use Rattle.quic_packet.specs.Number.{truncated}
use Rattle.quic_wire.specs.Grammar.{Payload}
use Rattle.quic_packet.specs.Datagram.{sent}
use Rattle.quic_machine.specs.declared.answers.State.{State}
use Rattle.quic_machine.specs.declared.answers.State.TheVariants as states
use Rattle.quic_machine.specs.Policy.{Policy}
use Rattle.quic_machine.specs.Opens.{own_id_length}
use Rattle.quic_streams_parts.specs.Table.{Table}
use Rattle.quic_spaces.specs.Marks.{Counts}
use Rattle.quic_spaces.specs.Numbers.{Numbers, expected, cut_against}
use Rattle.quic_recovery_core.specs.DuplicateRuns.{seen_after}
use Rattle.quic_recovery_core.specs.PendingAcks as pending
use Rattle.quic_machine.specs.Tracking.{TrackedPacket, Carried, acked_in, streams_in, retransmits_in, carried_in, without_record}
use Rattle.quic_headline.specs.Runs.{Packet, Intake, In, IsTaken, names, expected_behind, acknowledged}
use Rattle.quic_headline.specs.Observer.{Sent, next_number}

-- ---- numbered datagrams

-- P of what stands in both lists, in step
abbrev pub InStep : {Y X : Type 0} → (Y → X → Type 0) → List Y → List X → Type 0
InStep P [] [] = Unit {0}
InStep P (y ∷ ys) (x ∷ xs) = P y x × InStep P ys xs
InStep P [] (x ∷ xs) = ⊥
InStep P (y ∷ ys) [] = ⊥

-- the numbers rise, from one on, and at most one is left out before each
abbrev pub RisingFrom : ℕ → List Sent → Type 0
RisingFrom low [] = Unit {0}
RisingFrom low (s ∷ sents) = (low ≤ s.number) × (s.number ≤ low + 1) × RisingFrom (s.number + 1) sents

-- one of them was sent so under a number
abbrev pub SentAs : List Sent → ℕ → Sent → Type 0
SentAs sents n s = In s sents × (s.number ≡ n)

-- the datagram of a number, cut against a reference, with these frames, as an end gives it to the
-- peer with this id, which has the length of own ones
pub record IsGiven (p : Policy) (id : List ℕ) (n reference : ℕ) (frames : List FrameValue) (d : List ℕ) : Type 0 where
  pub long : length id ≡ own_id_length
  pub payload : List ℕ
  pub spells : Payload frames payload
  pub some : 0 < length frames
  pub four : 4 ≤ (truncated n reference).width + length payload
  pub near : n - reference < 2 ^ 31
  pub small : n < 2 ^ 62
  pub is : d ≡ sent p.header p.packet n reference id payload

-- what these frames carried, or that without what has to be sent again, which a probe took (RFC
-- 9002, section 6.2.4)
abbrev pub IsCarriedFrom : Carried → List FrameValue → Type 0
IsCarriedFrom c frames = (c ≡ carried_in frames) ⊎ (c ≡ record (carried_in frames) { retransmits = nothing_waits })

-- each tracked packet was given, and carries what its frames say
abbrev pub AreTracked : List Sent → Table TrackedPacket → Type 0
AreTracked sents packets = (n : ℕ) (t : TrackedPacket) → In (n, t) packets → (s : Sent) × SentAs sents n s × IsCarriedFrom t.carried s.frames

-- ---- what was carried

module _ (c : Carried) (frames : List FrameValue) where
  -- its STREAM frames stand among the frames
  pub carried_streams : IsCarriedFrom c frames → c.stream_frames ≡ streams_in frames
  carried_streams (inl is) = ap (λ (x : Carried). x.stream_frames) is
  carried_streams (inr is) = ap (λ (x : Carried). x.stream_frames) is

  pub carried_stream : IsCarriedFrom c frames → (m : StreamMeta) → In m c.stream_frames → In m (streams_in frames)
  carried_stream from m i = subst (λ (ms : List StreamMeta). In m ms) (carried_streams from) i

  -- and so does its ACK frame
  pub carried_acks : IsCarriedFrom c frames → c.largest_acked ≡ acked_in frames
  carried_acks (inl is) = ap (λ (x : Carried). x.largest_acked) is
  carried_acks (inr is) = ap (λ (x : Carried). x.largest_acked) is

  -- what has to be sent again is what they say, or nothing
  pub carried_again : IsCarriedFrom c frames → (c.retransmits ≡ retransmits_in frames) ⊎ (c.retransmits ≡ nothing_waits)
  carried_again (inl is) = inl (ap (λ (x : Carried). x.retransmits) is)
  carried_again (inr is) = inr (ap (λ (x : Carried). x.retransmits) is)

  -- so each RESET_STREAM among that stands among the frames
  pub carried_reset : IsCarriedFrom c frames → (r : ℕ × ℕ) → In r c.retransmits.reset_stream → In r (retransmits_in frames).reset_stream
  carried_reset (inl is) r i = subst (λ (x : Carried). In r x.retransmits.reset_stream) is i
  carried_reset (inr is) r i = absurd (subst (λ (x : Carried). In r x.retransmits.reset_stream) is i)

-- a packet whose record a probe takes carries what its frames say still
pub carried_without : (t : TrackedPacket) (frames : List FrameValue) → IsCarriedFrom t.carried frames → IsCarriedFrom (without_record t).carried frames
carried_without t frames (inl is) = inr (ap (λ (x : Carried). record x { retransmits = nothing_waits }) is)
carried_without t frames (inr is) = inr (ap (λ (x : Carried). record x { retransmits = nothing_waits }) is)

-- ---- what was sent

-- a datagram that was sent so
abbrev pub IsSent : Policy → Sent → List ℕ → Type 0
IsSent p s d = IsGiven p s.id s.number s.reference s.frames d

-- what the next number is cut against isn't above it
abbrev pub IsBehind : Numbers → Type 0
IsBehind numbers = cut_against numbers ≤ numbers.next

-- a number that was left out was passed over: it lies below the next, and none of these has it
abbrev pub IsLeftOut : Option ℕ → ℕ → List Sent → Type 0
IsLeftOut None next sents = Unit {0}
IsLeftOut (Some n) next sents = (n < next) × ((s : Sent) → In s sents → s.number ≢ n)

-- each datagram that was given was sent as one of these, the numbers of these rise, and no number
-- above them was given; nor was the one that was left out last
pub record Gives (p : Policy) (numbers : Numbers) (skipped : Option ℕ) (sents : List Sent) (given : List (List ℕ)) : Type 0 where
  pub rising : RisingFrom 0 sents
  pub below : (s : Sent) → In s sents → s.number < numbers.next
  pub next : numbers.next ≡ next_number sents
  pub behind : IsBehind numbers
  pub left_out : IsLeftOut skipped numbers.next sents
  pub each : InStep (IsSent p) sents given

-- ACK frames name numbers of these packets only
abbrev pub NameTaken : List Sent → List Packet → Type 0
NameTaken sents packets = (s : Sent) (a : AckValue) (k : ℕ) → In s sents → In (ack a) s.frames → names a k ≡ true → IsTaken packets k

-- what an open end knows of what came
pub record Knows (numbers : Numbers) (i : Intake) : Type 0 where
  pub seen : numbers.opened ≡ seen_after i.opened
  pub expected : expected numbers ≡ expected_behind i.took
  -- the greatest number that it was told is the greatest that packets acknowledged
  pub named : cut_against numbers ≡ acknowledged i.took

-- a packet is a datagram as it was sent
pub record WasSent (sents : List Sent) (packet : Packet) : Type 0 where
  pub sent : Sent
  pub is : SentAs sents packet.number sent
  pub frames : sent.frames ≡ packet.frames

-- each of the packets is
abbrev pub WereSent : List Sent → List Packet → Type 0
WereSent sents packets = (packet : Packet) → In packet packets → WasSent sents packet

-- the numbers to acknowledge are those of packets that were taken
abbrev pub AreTaken : List Run → List Packet → Type 0
AreTaken runs packets = (k : ℕ) → Has runs k → IsTaken packets k

-- counts of marks that have a form as variable-length integers
abbrev pub CountsFit : Counts → Type 0
CountsFit counts = (counts.0 < 2 ^ 62) × (counts.1 < 2 ^ 62) × (counts.2 < 2 ^ 62)

-- the numbers that an end has to acknowledge: few maximal runs, below the greatest packet number;
-- with them it tells how many packets came with each mark
pub record Acks (p : pending.Pending) (came : Counts) : Type 0 where
  pub runs : pending.IsKept p.runs
  pub small : IsSmall p.runs
  pub counts : CountsFit came

-- what an end that isn't open knows of what came: the number that it expects
abbrev pub Expects : Numbers → Intake → Type 0
Expects numbers i = expected numbers ≡ expected_behind i.took

-- what an end in this state knows of what came
abbrev pub KnowsIn : State → Numbers → Intake → Type 0
KnowsIn states.Open numbers i = Knows numbers i
KnowsIn states.Closing numbers i = Expects numbers i
KnowsIn states.Drained numbers i = Expects numbers i
KnowsIn states.Failed numbers i = Expects numbers i
