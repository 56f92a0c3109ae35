-- What an end has to acknowledge reaches each number that it took, or a greater one, until the peer
-- acknowledges a datagram whose ACK frame has no lesser greatest number.
use Rattle.std.proofs.Common.{◌≡◌, ℕ, ◌<◌, ◌≤◌, ◌⊎◌, Bool, true, false, List, [], ◌∷◌, length, Option, Some, None, refl, sym, ◌∙◌, subst, inl, inr, arith}
use Rattle.std.proofs.lemmas.Bool.{cases_lt}
use Rattle.quic_sets.specs.Runs.{Run, Has, AreRunsFrom, AreRuns}
use Rattle.quic_wire.specs.Value.{FrameValue, AckValue, ack}
use Rattle.quic_recovery_core.specs.PendingAcks.{with_one, but_least, at_most, above}
use Rattle.quic_recovery_core.specs.declared.spaces.pending_acks.TheConstants.{MAX_ACK_RUNS}
use Rattle.quic_recovery_core.proofs.AckRunSteps.{with_one_runs, with_one_in, at_most-many, at_most-few, above_in}
use Rattle.quic_streams_parts.specs.Table.{Table}
use Rattle.quic_machine.specs.Tracking.{TrackedPacket, Carried, acked_in, acked_by, lost_by}
use Rattle.quic_machine.specs.End.{End}
use Rattle.quic_machine.specs.Acked.{request_acked, without_known, resets_acked, packet_acked, packets_acked, verdict, measured, sampled, without_acked, losses_taken, after_named}
use Rattle.quic_machine.specs.Sizes.{search_acked}
use Rattle.quic_machine.specs.Receive.{is_above, names_ungiven, take_frame}
use Rattle.quic_machine.specs.FrameCases.{named, ack_taken, passed, streams_acked_keep, resets_acked_keep, packets_lost_keep, by_marks, frame_leaves, frames_leave, apart_leaves}
use Rattle.quic_headline.specs.Runs.{Packet, In, IsNamed, names}
use Rattle.quic_headline.specs.Observer.{Sent}
use Rattle.quic_headline.specs.InFlight.{first_acknowledged}
use Rattle.quic_headline.proofs.Packets.Invariant.{AreTracked, carried_acks}
use Rattle.quic_headline.proofs.Packets.Carried.{acknowledged_same}
use Rattle.quic_headline.proofs.Packets.Searches.{losses_searched}
use Rattle.quic_headline.proofs.Packets.Named.{in_filter, filter_chose, frame_fewer, by_frame}

-- ---- numbers to acknowledge

-- a number, or one above it, is to be acknowledged
abbrev pub Reaches : List Run → ℕ → Type 0
Reaches runs n = (k : ℕ) × Has runs k × (n ≤ k)

-- where the least of several runs goes, the next reaches what it had
least_reached : (m k : ℕ) (rs : List Run) → AreRunsFrom m rs → 1 < length rs → Has rs k → Reaches (but_least rs) k
least_reached m k [] runs many has = absurd has
least_reached m k (r ∷ []) runs many has = absurd (omega arith)
least_reached m k (r ∷ q ∷ rs) runs many (inl here) =
    let below = here.1 in
    let next = runs.2.0 in
    (q.start, inl (omega arith, runs.2.1), omega arith)
least_reached m k (r ∷ q ∷ rs) runs many (inr later) = (k, later, omega arith)

-- so where there are too many
most_reached : (k : ℕ) (rs : List Run) → AreRuns rs → Has rs k → Reaches (at_most rs) k
most_reached k rs runs has = elim (cases_lt MAX_ACK_RUNS (length rs)) [
  | inl many ↦ subst (λ (xs : List Run). Reaches xs k) (sym (at_most-many rs many)) (least_reached 0 k rs runs (omega arith) has)
  | inr few ↦ subst (λ (xs : List Run). Reaches xs k) (sym (at_most-few rs few)) (k, has, omega arith)
]

-- a number that came is reached
pub one_reached : (n : ℕ) (rs : List Run) → AreRuns rs → Reaches (at_most (with_one rs n)) n
one_reached n rs runs = most_reached n (with_one rs n) (with_one_runs 0 n rs (omega arith) runs) (with_one_in 0 n n rs runs (inr refl))

-- and so is what was reached before
pub more_reached : (n k : ℕ) (rs : List Run) → AreRuns rs → Reaches rs k → Reaches (at_most (with_one rs n)) k
more_reached n k rs runs was =
    let found = most_reached was.0 (with_one rs n) (with_one_runs 0 n rs (omega arith) runs) (with_one_in 0 n was.0 rs runs (inl was.1)) in
    let from = was.2 in
    let to = found.2 in
    (found.0, found.1, omega arith)

-- what was reached is no greater than a number up to which all go, or is reached still
above_reached : (n k : ℕ) (rs : List Run) → Reaches rs k → (k ≤ n) ⊎ Reaches (above rs n) k
above_reached n k rs was = (let from = was.2 in elim (cases_lt n was.0) [ inl over ↦ inr (was.0, above_in n was.0 rs was.1 over, was.2) | inr under ↦ inl (omega arith) ])

-- ---- what the peer knows to be acknowledged

-- The peer acknowledged a datagram whose ACK frame has a greatest number that isn't below this one.
pub record IsKnown (sents : List Sent) (took : List Packet) (number : ℕ) : Type 0 where
  pub sent : Sent
  pub among : In sent sents
  pub greatest : ℕ
  pub says : first_acknowledged sent.frames ≡ Some greatest
  pub named : IsNamed took sent.number
  pub enough : number ≤ greatest

-- the peer knows so, or the number is reached
abbrev pub IsReached : List Sent → List Packet → ℕ → List Run → Type 0
IsReached sents took number runs = IsKnown sents took number ⊎ Reaches runs number

-- it stays known where more was sent and taken
pub known_on : (old new : List Sent) (was is : List Packet) (number : ℕ) → ((s : Sent) → In s old → In s new) → ((p : Packet) → In p was → In p is) → IsKnown old was number → IsKnown new is number
known_on old new was is number sents packets k = record {
  sent = k.sent;
  among = sents k.sent k.among;
  greatest = k.greatest;
  says = k.says;
  named = record { packet = k.named.packet; was_taken = packets k.named.packet k.named.was_taken; frame = k.named.frame; carried = k.named.carried; named = k.named.named };
  enough = k.enough;
}

-- ---- the frames of a packet that comes

-- A packet comes with these frames to an end that sent these datagrams, and is taken with the
-- others.
module _ (sents : List Sent) (took : List Packet) (number : ℕ) (frames : List FrameValue) (all : (a : AckValue) (k : ℕ) → In (ack a) frames → names a k ≡ true → IsNamed took k) where
  -- the number is reached at an end, or known
  abbrev Here : End → Type 0
  Here e = IsReached sents took number e.acknowledging.runs

  -- a tracked packet was sent, and an ACK frame names it
  record IsAcked (q : ℕ × TrackedPacket) : Type 0 where
    sent : Sent
    among : In sent sents
    acks : q.1.carried.largest_acked ≡ acked_in sent.frames
    named : IsNamed took sent.number

  -- what the peer knows of goes
  known_reached : (q : ℕ × TrackedPacket) → IsAcked q → (o : Option ℕ) → q.1.carried.largest_acked ≡ o → (e : End) → Here e → Here (without_known o e)
  known_reached q acked None is e i = i
  known_reached q acked (Some n) is e (inl known) = inl known
  known_reached q acked (Some n) is e (inr reached) = elim (above_reached n number e.acknowledging.runs reached) [
    | inl under ↦ inl (record { sent = acked.sent; among = acked.among; greatest = n; says = acknowledged_same acked.sent.frames ∙ sym acked.acks ∙ is; named = acked.named; enough = under })
    | inr still ↦ inr still
  ]

  -- packets are acknowledged
  acked_reached : (ps : Table TrackedPacket) (e : End) → ((q : ℕ × TrackedPacket) → In q ps → IsAcked q) → Here e → Here (packets_acked ps e)
  acked_reached [] e acked i = i
  acked_reached (q ∷ ps) e acked i =
      let c : Carried = q.1.carried in
      let heard : End = search_acked q e in
      let asked : End = request_acked q.0 heard in
      let knows : End = without_known c.largest_acked asked in
      acked_reached ps (packet_acked q e) (λ x j. acked x (inr j))
      (streams_acked_keep Here (λ m x j. j) c.stream_frames (resets_acked c.retransmits.reset_stream knows) (resets_acked_keep Here (λ id x j. j) c.retransmits.reset_stream knows (known_reached q (acked q (inl refl)) c.largest_acked refl asked i)))

  sampled_reached : (o : Option TrackedPacket) (a : AckValue) (e : End) → Here e → Here (sampled o a e)
  sampled_reached None a e i = i
  sampled_reached (Some p) a e i = i

  -- an ACK frame that names these
  named_reached : (ps : Table TrackedPacket) (rises : Bool) (a : AckValue) (e : End) → ((q : ℕ × TrackedPacket) → In q ps → IsAcked q) → Here e → Here (after_named ps rises a e)
  named_reached [] rises a e acked i = i
  named_reached (p ∷ ps) rises a e acked i =
      let left : End = without_acked (p ∷ ps) a e in
      let o = measured rises a (p ∷ ps) in
      let timed : End = sampled o a left in
      let taken : End = losses_taken (p ∷ ps) rises a e in
      let stays : Here timed = sampled_reached o a left (acked_reached (p ∷ ps) e acked i) in
      let kept : Here taken = losses_searched Here (λ d x j. j) (λ most x j. j) timed (packets_lost_keep Here (λ m x j. j) (λ c x j. j) (lost_by (verdict timed) timed.tracking.packets) timed stays) in
      by_marks rises (length (p ∷ ps)) a taken Here (λ counts marking. kept)

  -- it names only packets that were sent
  are_acked : (a : AckValue) (packets : Table TrackedPacket) → In (ack a) frames → AreTracked sents packets → (q : ℕ × TrackedPacket) → In q (acked_by a packets) → IsAcked q
  are_acked a packets among tracked q i =
      let was = tracked q.0 q.1 (in_filter (λ p. names a p.0) q packets i) in
      let chosen = filter_chose (λ p. names a p.0) q packets i in
      record {
        sent = was.0;
        among = was.1.0;
        acks = carried_acks q.1.carried was.0.frames was.2;
        named = all a was.0.number among (subst (λ (n : ℕ). names a n ≡ true) (sym was.1.1) chosen);
      }

  ack_reached : (b : Bool) (a : AckValue) (e : End) → In (ack a) frames → AreTracked sents e.tracking.packets → Here e → Here (ack_taken b a e).end
  ack_reached true a e among tracked i = i
  ack_reached false a e among tracked i = named_reached (acked_by a e.tracking.packets) (is_above e.numbers.largest_acked a.largest) a (named a e) (are_acked a e.tracking.packets among tracked) i

  -- what holds over frames of the packet
  record Going (left : List FrameValue) (e : End) : Type 0 where
    inside : (f : FrameValue) → In f left → In f frames
    tracked : AreTracked sents e.tracking.packets
    here : Here e

  frame_reached : (f : FrameValue) (e : End) → In f frames → AreTracked sents e.tracking.packets → Here e → Here (take_frame f e).end
  frame_reached f e among tracked i = by_frame f e (λ g p. Here p.end)
      (λ a is. ack_reached (names_ungiven a e) a e (subst (λ (g : FrameValue). In g frames) (sym is) among) tracked i)
      (λ other on. frame_leaves Here f e on (λ t. i))
      (λ other m same. subst Here (sym same) i)
      (λ other apart. apart_leaves Here f e apart (λ c. i) (λ c most. i))

  -- it stays reached, or is known, behind all frames
  pub frames_reached : (e : End) → AreTracked sents e.tracking.packets → Here e → Here (passed frames e).end
  frames_reached e tracked i =
      let behind = frames_leave Going (λ f left x g. record {
        inside = λ h j. g.inside h (inr j);
        tracked = λ n t j. g.tracked n t (frame_fewer x f x (λ m u k. k) n t j);
        here = frame_reached f x (g.inside f (inl refl)) g.tracked g.here;
      }) frames e (record { inside = λ f j. j; tracked = tracked; here = i }) in
      behind.1.here
