-- Frames apart from streams pass: an end acknowledges only numbers that were given, gives what only
-- servers send to a client, and sends messages that the other takes; those about connection ids pass as
-- both agree on these.
use Rattle.std.proofs.Common.{◌≡◌, ℕ, ◌<◌, Bool, true, false, List, [], ◌∷◌, Option, Some, None, refl, sym, ap, ◌∙◌, subst, arith}
use Rattle.std.specs.Prelude.{nat_le}
use Rattle.std.specs.List.{list_any}
use Rattle.std.proofs.lemmas.Bool.{leb-true, or_from}
use Rattle.quic_wire_core.specs.StreamId.{other_side}
use Rattle.quic_wire.specs.Value.{FrameValue, AckValue, ack, new_token, handshake_done, datagram, new_connection_id, retire_connection_id, ack_frequency}
use Rattle.quic_config.specs.Transport.{TransportSettings}
use Rattle.quic_messages.specs.Messages.{is_taken}
use Rattle.quic_spaces.specs.Numbers.{Numbers}
use Rattle.quic_spaces.specs.Filter.{Filter, names_skipped}
use Rattle.quic_machine.specs.End.{End}
use Rattle.quic_machine.specs.Receive.{Fault, take_frame, unless_fault, take_items}
use Rattle.quic_headline.specs.Runs.{In, names}
use Rattle.quic_headline.specs.Observer.{Sent}
use Rattle.quic_headline.proofs.Packets.Invariant.{IsSent, IsLeftOut}
use Rattle.quic_headline.proofs.Packets.Growth.{step_of}
use Rattle.quic_headline.proofs.Packets.Stays.{keeps_frames}
use Rattle.quic_headline.proofs.Packets.Naming.{greatest_named}
use Rattle.quic_headline.proofs.Packets.Group.{PacketsHold}
use Rattle.quic_headline.proofs.Places.Parties.{Party}
use Rattle.quic_headline.proofs.Channel.Passing.{PlainPass}
use Rattle.quic_headline.proofs.Channel.Given.{Given}
use Rattle.quic_headline.proofs.Channel.Messages.{MessagesFit}
use Rattle.quic_headline.proofs.Channel.IdSteps.{IdPasses}

-- ---- ACK

-- the greatest number of an ACK frame was given by the end to which the frame comes
ack_given : (x y : Party) → PacketsHold x y → PacketsHold y x → (s : Sent) → In s x.sents → (a : AckValue) → In (ack a) s.frames → a.largest < y.end.numbers.next
ack_given x y p back s among a i =
    let spelled = (step_of (IsSent x.policy) x.sents x.given s p.gives.each among).1 in
    let was = p.named s a a.largest among i (greatest_named s.frames spelled.payload a spelled.spells i) in
    let found = back.taken was.packet was.was_taken in
    let below = back.gives.below found.sent found.is.0 in
    let number = found.is.1 in
    let same = was.is in
    omega arith

not_below : (n k : ℕ) → k < n → nat_le n k ≡ false
not_below n k less = go (nat_le n k) refl
  where
    go : (b : Bool) → nat_le n k ≡ b → b ≡ false
    go true is = let up = leb-true n k is in absurd (omega arith)
    go false is = refl

-- none of these ranges has a number that isn't there
none_skipped : (ranges : List (ℕ × ℕ)) → list_any (λ r. names_skipped None r.0 r.1) ranges ≡ false
none_skipped [] = refl
none_skipped (r ∷ ranges) = none_skipped ranges

-- nor the one that was left out last: it was never given
left_unnamed : (x y : Party) → PacketsHold x y → PacketsHold y x → (s : Sent) → In s x.sents → (a : AckValue) → In (ack a) s.frames → (o : Option ℕ) → IsLeftOut o y.end.numbers.next y.sents → list_any (λ r. names_skipped o r.0 r.1) a.ranges ≡ false
left_unnamed x y p back s among a i None out = none_skipped a.ranges
left_unnamed x y p back s among a i (Some n) out = go (names a n) refl
  where
    go : (b : Bool) → names a n ≡ b → b ≡ false
    go false named = refl
    go true named =
        let was = p.named s a n among i named in
        let found = back.taken was.packet was.was_taken in
        absurd (out.1 found.sent found.is.0 (found.is.1 ∙ was.is))

-- ---- all

-- at an end that gave as many packets as y, left out the same last, takes the same messages, and is
-- of the other side
pub plain_pass : (x y : Party) → PacketsHold x y → PacketsHold y x → (s : Sent) → In s x.sents → (f : FrameValue) → In f s.frames → Given x.end.streams f → MessagesFit x y → (e : End) → e.numbers.next ≡ y.end.numbers.next → e.filter.last ≡ y.end.filter.last
    → e.transport ≡ y.end.transport → e.streams.side ≡ other_side x.end.streams.side → IdPasses e f → PlainPass e f
plain_pass x y p back s among (ack a) i given fits e same skipped takes sides ids =
    let below = ack_given x y p back s among a i in
    or_from (nat_le e.numbers.next a.largest) (list_any (λ r. names_skipped e.filter.last r.0 r.1) a.ranges) (not_below e.numbers.next a.largest (omega arith))
    (ap (λ (o : Option ℕ). list_any (λ r. names_skipped o r.0 r.1) a.ranges) skipped ∙ left_unnamed x y p back s among a i y.end.filter.last back.gives.left_out)
plain_pass x y p back s among (new_token t) i given fits e same skipped takes sides ids = absurd given
plain_pass x y p back s among handshake_done i given fits e same skipped takes sides ids = sides ∙ ap other_side given
plain_pass x y p back s among (datagram m) i given fits e same skipped takes sides ids = subst (λ (t : TransportSettings). is_taken t.datagram_receive_buffer_size m ≡ true) (sym takes) (fits.sent s among m i)
plain_pass x y p back s among (new_connection_id f) i given fits e same skipped takes sides ids = ids
plain_pass x y p back s among (retire_connection_id n) i given fits e same skipped takes sides ids = ids
plain_pass x y p back s among (ack_frequency f) i given fits e same skipped takes sides ids = given
plain_pass x y p back s among f i given fits e same skipped takes sides ids = tt

-- a frame leaves how many packets its end gave
pub frame_next : (f : FrameValue) (e : End) → (take_frame f e).end.numbers.next ≡ e.numbers.next
frame_next f e = go (take_frame f e).fault (ap (λ (n : Numbers). n.next) (keeps_frames (f ∷ []) e).numbers)
  where
    go : (o : Option Fault) → (unless_fault o (take_frame f e) (take_items [])).end.numbers.next ≡ e.numbers.next → (take_frame f e).end.numbers.next ≡ e.numbers.next
    go None is = is
    go (Some fault) is = is

-- and which was left out last
pub frame_skipped : (f : FrameValue) (e : End) → (take_frame f e).end.filter.last ≡ e.filter.last
frame_skipped f e = go (take_frame f e).fault (ap (λ (x : Filter). x.last) (keeps_frames (f ∷ []) e).filter)
  where
    go : (o : Option Fault) → (unless_fault o (take_frame f e) (take_items [])).end.filter.last ≡ e.filter.last → (take_frame f e).end.filter.last ≡ e.filter.last
    go None is = is
    go (Some fault) is = is

-- and how it was set
pub frame_transport : (f : FrameValue) (e : End) → (take_frame f e).end.transport ≡ e.transport
frame_transport f e = go (take_frame f e).fault (keeps_frames (f ∷ []) e).transport
  where
    go : (o : Option Fault) → (unless_fault o (take_frame f e) (take_items [])).end.transport ≡ e.transport → (take_frame f e).end.transport ≡ e.transport
    go None is = is
    go (Some fault) is = is
