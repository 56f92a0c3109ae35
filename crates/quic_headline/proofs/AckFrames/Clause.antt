-- Each ACK frame that an end gives names each packet that it took before, but for those of which
-- the peer is known to know, and those below too many runs: at each place of an honest run.
use Rattle.std.proofs.Common.{◌≡◌, ℕ, zero, suc, ◌≤◌, ◌⊎◌, Bool, true, false, List, [], ◌∷◌, ◌++◌, take, length, replicate, Some, Ok, refl, sym, ap, ◌∙◌, subst, inl, inr, arith}
use Rattle.std.specs.Prelude.{if◌then◌else◌}
use Rattle.quic_sets.specs.Runs.{Has}
use Rattle.quic_wire_core.specs.declared.stream_id.Side.{Side}
use Rattle.quic_wire_core.specs.StreamId.{other_side}
use Rattle.quic_wire.specs.Value.{FrameValue, AckValue, ack, padding}
use Rattle.quic_machine.specs.declared.answers.State.{State}
use Rattle.quic_machine.specs.declared.run.RunEvent.{RunEvent}
use Rattle.quic_machine.specs.declared.run.Call.TheVariants as calls
use Rattle.quic_machine.specs.declared.run.Answer.{Answer}
use Rattle.quic_machine.specs.declared.run.Answer.TheVariants as answers
use Rattle.quic_machine.specs.declared.run.View.{View}
use Rattle.quic_machine.specs.End.{End}
use Rattle.quic_machine.specs.Poll.{polled}
use Rattle.quic_machine.specs.Machine.{World, policy_at, end_at}
use Rattle.quic_headline.specs.Runs.{Run, Told, Packet, Intake, In, names, same_side, state_in, told_at, until, given_of, nothing_came, and_told, folded}
use Rattle.quic_headline.specs.Observer.{Sent, Watch, is_close, lens_of, watch_from, took}
use Rattle.quic_headline.specs.Headline.{IsHonest, IsRun}
use Rattle.quic_headline.specs.Polls.{GaveOne}
use Rattle.quic_headline.specs.AckFrames.{ends_above, IsKnown, WasCrowded, AcksNameAll}
use Rattle.quic_headline.proofs.Packets.Acked.{acks}
use Rattle.quic_headline.proofs.Packets.Watching.{watched_intake}
use Rattle.quic_headline.proofs.Packets.Naming.{kept_named}
use Rattle.quic_headline.proofs.Places.Moments.{told_none}
use Rattle.quic_headline.proofs.Places.Parties.{Party, came_to, with_shown, shown_at}
use Rattle.quic_headline.proofs.Places.Groups.{Way, Nothing, And, Group, both, over}
use Rattle.quic_headline.proofs.Places.Placed.{party_at}
use Rattle.quic_headline.proofs.Places.Everything as everything
use Rattle.quic_headline.proofs.Places.Theorems.{ready}
use Rattle.quic_headline.proofs.Halves.Ready.{Ready}
use Rattle.quic_headline.proofs.Timers.Watched.{Observed}
use Rattle.quic_headline.proofs.Steps.Made.{MadeAt, made_at, PollHolds, poll_holds, polling}
use Rattle.quic_headline.proofs.Steps.Probing.{IsGiving, closing_alone}
use Rattle.quic_headline.proofs.Steps.Probing as probing
use Rattle.quic_headline.proofs.AckFrames.Frames.{KnownBy}
use Rattle.quic_headline.proofs.AckFrames.Group.{WasBelow, Below, KeepsAll, keeps_group}

-- ---- fewer answers

-- the first of what was told at an end by so many answers is what was told by some of them
abbrev Until : Side → State → List RunEvent → List Answer → List View → ℕ → List Told → Type 0
Until side state events answers views i front = (place : ℕ) × (place ≤ i) × (told_at side state events (take place answers) views ≡ front)

pub told_front : (side : Side) (state : State) (events : List RunEvent) (answers : List Answer) (views : List View) (i : ℕ) (front behind : List Told) → told_at side state events (take i answers) views ≡ front ++ behind → Until side state events answers views i front
told_front side state events answers views i [] behind is = (zero, omega arith, told_none side events views state)
told_front side state events answers views zero (t ∷ front) behind is = (let clash : [] ≡ t ∷ (front ++ behind) = sym (told_none side events views state) ∙ is in cc)
told_front side state [] answers views (suc i) (t ∷ front) behind is = cc
told_front side state (e ∷ events) [] views (suc i) (t ∷ front) behind is = cc
told_front side state (e ∷ events) (a ∷ answers) [] (suc i) (t ∷ front) behind is = cc
told_front side state (e ∷ events) (a ∷ answers) (v ∷ views) (suc i) (t ∷ front) behind is =
    go (same_side e.side side) refl is (λ f b same. told_front side (state_in v side) events answers views i f b same)
  where
    one : Told
    one = record { call = e.call; answer = a; state = state }

    rest : ℕ → List Told
    rest n = told_at side (state_in v side) events (take n answers) views

    go : (b : Bool) → same_side e.side side ≡ b → (if b then one ∷ [] else []) ++ rest i ≡ t ∷ (front ++ behind) → ((f b : List Told) → rest i ≡ f ++ b → Until side (state_in v side) events answers views i f) → Until side state (e ∷ events) (a ∷ answers) (v ∷ views) (suc i) (t ∷ front)
    go true here same more =
        let head : one ≡ t = cc in
        let tail : rest i ≡ front ++ behind = cc in
        let found = more front behind tail in
        let place : ℕ = found.0 in
        let before : place ≤ i = found.1 in
        (suc place, omega (arith, before), ap (λ (b : Bool). (if b then one ∷ [] else []) ++ rest place) here ∙ ap (λ (ts : List Told). one ∷ ts) found.2 ∙ ap (λ (u : Told). u ∷ front) head)
    go false other same more =
        let found = more (t ∷ front) behind same in
        let place : ℕ = found.0 in
        let before : place ≤ i = found.1 in
        (suc place, omega (arith, before), ap (λ (b : Bool). (if b then one ∷ [] else []) ++ rest place) other ∙ found.2)

-- what an end took by some answers is what came to it by what was told then
took_then : (r : Run) (side : Side) (place : ℕ) (front : List Told) → until r side place ≡ front → took r side place ≡ (folded (and_told (policy_at side r.keys) (given_of r (other_side side))) front nothing_came).took
took_then r side place front is =
    ap (λ (j : Intake). j.took) (watched_intake (lens_of r side) (until r side place) (watch_from (end_at side r.start) (given_of r side)))
    ∙ ap (λ (ts : List Told). (folded (and_told (policy_at side r.keys) (given_of r (other_side side))) ts nothing_came).took) is

-- so what was below too many was so at some place
below_at : (r : Run) (side : Side) (i number : ℕ) → WasBelow (policy_at side r.keys) (given_of r (other_side side)) (until r side i) number → WasCrowded r side i number
below_at r side i number was =
    let found = told_front side (end_at side r.start).closing.state r.events r.answers r.views i was.front was.behind was.is in
    record {
      place = found.0;
      before = found.1;
      many = subst (λ (ps : List Packet). 64 ≤ length (ends_above number ps)) (sym (took_then r side found.0 was.front found.2)) was.many;
    }

-- ---- the clause

-- all that is known of the packets and the streams, and what is to be acknowledged
abbrev All : Way
All = And (everything.All Ready ready) KeepsAll

all : Group Nothing All
all = both Nothing (everything.All Ready ready) KeepsAll (everything.all Ready ready) (over Observed (And Nothing (everything.All Ready ready)) KeepsAll (λ x y h. (h.1.0.0, h.1.1)) keeps_group)

-- a close has no ACK frame beside it
no_ack_beside : (f : FrameValue) (count : ℕ) (a : AckValue) → is_close f ≡ true → In (ack a) (f ∷ replicate count padding) → ⊥
no_ack_beside f count a is (inl same) = (let clash : false ≡ true = ap is_close same ∙ is in cc)
no_ack_beside f zero a is (inr i) = absurd i
no_ack_beside f (suc count) a is (inr (inl same)) = cc
no_ack_beside f (suc count) a is (inr (inr i)) = no_ack_beside f count a is (inr i)

module _ (r : Run) (end : World) (honest : IsHonest r) (run : IsRun r end) (side : Side) (i now : ℕ) (gave : GaveOne r side i now) where
  abbrev answer : Answer
  answer = answers.Poll (Ok (Some gave.transmit))

  at : MadeAt r i side (calls.Poll now) answer
  at = made_at All all r end honest run i side (calls.Poll now) answer gave.poll gave.served

  abbrev w : World
  w = at.before

  h : PollHolds All r i side now answer w
  h = poll_holds All all r end honest run i side now answer w at.behind at.made

  abbrev x : Party
  x = polling r i w side h.sents

  abbrev y : Party
  y = party_at r i w (other_side side) h.theirs

  abbrev e : End
  e = with_shown (end_at side w) (shown_at side w)

  -- what it took is what came to it
  took_here : took r side i ≡ (came_to x y).took
  took_here = took_then r side i (until r side i) refl

  module _ (gives : IsGiving (policy_at side r.keys) e now gave.transmit (polled (policy_at side r.keys) e now).end gave.sent) (a : AckValue) (carried : In (ack a) gave.sent.frames) (p : Packet) (among : In p (took r side i)) where
    named : Has e.acknowledging.runs p.number ⊎ (KnownBy (acks x y) p.number ⊎ Below x y p.number) → (names a p.number ≡ true) ⊎ (IsKnown r side i p.number ⊎ WasCrowded r side i p.number)
    named (inl has) = inl (kept_named e now a p.number h.takes.0.0.0.acks (subst (λ (s : Sent). In (ack a) s.frames) gives.sent carried) has)
    named (inr (inl known)) = inr (inl (record { sent = known.sent; acked = subst (λ (v : Watch). In known.sent v.flight.acked) (sym h.seen) known.among; frame = known.frame; carried = known.carried; within = known.within }))
    named (inr (inr below)) = inr (inr (below_at r side i p.number below))

    given_names : (names a p.number ≡ true) ⊎ (IsKnown r side i p.number ⊎ WasCrowded r side i p.number)
    given_names = named (h.gives.1.keeps gives.opened p (subst (λ (ps : List Packet). In p ps) took_here among))

  pub names_all : (a : AckValue) → In (ack a) gave.sent.frames → (p : Packet) → In p (took r side i) → (names a p.number ≡ true) ⊎ (IsKnown r side i p.number ⊎ WasCrowded r side i p.number)
  names_all a carried p among = elim (probing.either (everything.Streams Ready ready) (everything.all Ready ready) r end honest run side i now gave w at.behind at.made) [
    | inl gives ↦ given_names gives a carried p among
    | inr close ↦ (let alone = closing_alone (policy_at side r.keys) e now gave.transmit gave.sent close in absurd (no_ack_beside alone.close alone.zeros a alone.is (subst (λ (fs : List FrameValue). In (ack a) fs) alone.alone carried)))
  ]

pub acks_name_all : (r : Run) (end : World) → IsHonest r → IsRun r end → AcksNameAll r
acks_name_all r end honest run side i now gave a carried p among = names_all r end honest run side i now gave a carried p among
