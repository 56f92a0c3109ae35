-- So each ACK frame says how long ago the packet with the greatest number came that its end took,
-- at each place of an honest run.
use Rattle.std.proofs.Common.{◌≡◌, ℕ, ◌-◌, true, max, List, [], ◌∷◌, replicate, Some, None, Ok, refl, sym, ap, ◌∙◌, subst, inl, inr, arith}
use Rattle.quic_wire_core.specs.declared.stream_id.Side.{Side}
use Rattle.quic_wire_core.specs.declared.stream_id.Side.TheVariants.{Client, Server}
use Rattle.quic_wire_core.specs.StreamId.{other_side}
use Rattle.quic_wire.specs.Value.{FrameValue, AckValue, ack, padding}
use Rattle.quic_sets.specs.Runs.{Has, AreRuns}
use Rattle.quic_sets.specs.Runs.{Run as Numbers}
use Rattle.quic_recovery_core.specs.PendingAcks.{is_filled, delay_of}
use Rattle.quic_spaces.specs.Acknowledging.{written_delay}
use Rattle.quic_machine.specs.declared.run.Call.TheVariants as calls
use Rattle.quic_machine.specs.declared.run.Answer.{Answer}
use Rattle.quic_machine.specs.declared.run.Answer.TheVariants as answers
use Rattle.quic_machine.specs.Start.{AreStarted}
use Rattle.quic_machine.specs.End.{End}
use Rattle.quic_machine.specs.Poll.{zeros_behind, Draft, Leaving, draft_as, polled}
use Rattle.quic_machine.specs.Poll as poll
use Rattle.quic_machine.specs.DraftLaws.{Writing, by_leave, MayLeave}
use Rattle.quic_machine.specs.Puts as puts
use Rattle.quic_machine.specs.PollCases.{ready_at, ready_leaves, poll_left, draft_at, may_leave_at}
use Rattle.quic_machine.specs.Machine.{World, policy_at, end_at}
use Rattle.quic_headline.specs.Runs.{Run, Packet, Intake, In}
use Rattle.quic_headline.specs.Observer.{Sent, Watch, first_watch, watch, took}
use Rattle.quic_headline.specs.Headline.{IsHonest, IsRun}
use Rattle.quic_headline.specs.Polls.{GaveOne}
use Rattle.quic_headline.specs.Waited.{IsCloseAlone}
use Rattle.quic_headline.specs.AckDelays.{exponent_told, delay_said, IsSince, AcksSayDelay}
use Rattle.quic_headline.proofs.Packets.Acking.{lazied_tells}
use Rattle.quic_headline.proofs.Packets.Entries.{control_of}
use Rattle.quic_headline.proofs.Packets.Watching.{watched_intake}
use Rattle.quic_headline.proofs.Places.Told.{in_append}
use Rattle.quic_headline.proofs.Places.Parties.{Party, lens, with_shown, shown_at}
use Rattle.quic_headline.proofs.Places.Placed.{start_is, party_at}
use Rattle.quic_headline.proofs.Places.Groups.{Way}
use Rattle.quic_headline.proofs.Places.Everything as everything
use Rattle.quic_headline.proofs.Places.Theorems.{ready}
use Rattle.quic_headline.proofs.Halves.Ready.{Ready}
use Rattle.quic_headline.proofs.Steps.Made.{MadeAt, made_at, served_before, PollHolds, poll_holds, polling}
use Rattle.quic_headline.proofs.Steps.Along.{stands_within}
use Rattle.quic_headline.proofs.Steps.Probing.{IsGiving, closing_alone}
use Rattle.quic_headline.proofs.Steps.Probing as probing
use Rattle.quic_headline.proofs.AckFrames.Marked.{none_padding, none_closing, before_other, control_none}
use Rattle.quic_headline.proofs.AckFrames.Newest.{Newest, lazied_newest, IsNewest, newest_at}

-- ---- frames

-- Each ACK frame of a draft says how long before its clock this came, and its end keeps both; and
-- it has a number to name.
record Says (o : Newest) (clock : ℕ) (runs : List Numbers) (d : Draft) : Type 0 where
  newest : d.end.acknowledging.newest ≡ o
  now : d.end.closing.clock ≡ clock
  names : d.end.acknowledging.runs ≡ runs
  each : (a : AckValue) → In (ack a) d.frames → (a.delay ≡ written_delay (delay_of o clock)) × (is_filled runs ≡ true)

-- so it is of what goes
draft_says : (o : Newest) (clock : ℕ) (runs : List Numbers) (leaving : Leaving) (e : End) → MayLeave leaving e → e.acknowledging.newest ≡ o → e.closing.clock ≡ clock → e.acknowledging.runs ≡ runs → Says o clock runs (draft_as leaving e)
draft_says o clock runs leaving e may same now names = by_leave (Says o clock runs) keep leaving e may (record { newest = lazied_newest leaving e ∙ same; now = now; names = (lazied_tells leaving e).0 ∙ names; each = λ a i. absurd i })
  where
    last : (d : Draft) → is_filled d.end.acknowledging.runs ≡ true → Says o clock runs d → (a : AckValue) → In (ack a) (ack (poll.ack_of d.end) ∷ []) → (a.delay ≡ written_delay (delay_of o clock)) × (is_filled runs ≡ true)
    last d some s a (inl is) = (
        let here : a ≡ poll.ack_of d.end = cc in
        (ap (λ (b : AckValue). b.delay) here ∙ ap (λ (n : Newest). written_delay (delay_of n d.end.closing.clock)) s.newest ∙ ap (λ (c : ℕ). written_delay (delay_of o c)) s.now, ap is_filled (sym s.names) ∙ some))
    last d some s a (inr more) = absurd more

    keep : Writing (Says o clock runs)
    keep puts.ack d may s = record { newest = s.newest; now = s.now; names = s.names; each = λ a i. elim (in_append (ack a) d.frames (ack (poll.ack_of d.end) ∷ []) i) [ inl before ↦ s.each a before | inr behind ↦ last d may.0 s a behind ] }
    keep (puts.drops kind) d may s = record { newest = s.newest; now = s.now; names = s.names; each = s.each }
    keep (puts.control kind f) d is s = record { newest = s.newest; now = s.now; names = s.names; each = λ a i. s.each a (before_other a d.frames f (control_none f (control_of f kind is.of_kind)) i) }
    keep puts.ping d may s = record { newest = s.newest; now = s.now; names = s.names; each = λ a i. s.each a (before_other a d.frames _ refl i) }
    keep p d may s = record { newest = s.newest; now = s.now; names = s.names; each = λ a i. s.each a (before_other a d.frames _ refl i) }

-- a set with a number has one
some_number : (runs : List Numbers) → AreRuns runs → is_filled runs ≡ true → (k : ℕ) × Has runs k
some_number [] are some = cc
some_number (n ∷ runs) are some = (n.start, inl (omega arith, are.1))

-- ---- what the peer was told

-- each end tells 3
exponent_is : (r : Run) → AreStarted r.start → (side : Side) → exponent_told r side ≡ 3
exponent_is r s Client = ap (λ (e : End). e.peer_params.ack_delay_exponent) (start_is r.start s Server)
exponent_is r s Server = ap (λ (e : End). e.peer_params.ack_delay_exponent) (start_is r.start s Client)

-- so the delays are in units of 8 microseconds
said_is : (r : Run) → AreStarted r.start → (side : Side) (nanos : ℕ) → written_delay nanos ≡ delay_said (exponent_told r side) nanos
said_is r s side nanos = ap (λ (exponent : ℕ). delay_said exponent nanos) (sym (exponent_is r s side))

-- ---- the clause

-- what is known of the packets and the streams
abbrev All : Way
All = everything.All Ready ready

abbrev Streams : Way
Streams = everything.Streams Ready ready

module _ (r : Run) (end : World) (honest : IsHonest r) (run : IsRun r end) (side : Side) (i now : ℕ) (gave : GaveOne r side i now) (a : AckValue) (among : In (ack a) gave.sent.frames) where
  abbrev answer : Answer
  answer = answers.Poll (Ok (Some gave.transmit))

  at : MadeAt r i side (calls.Poll now) answer
  at = made_at All (everything.all Ready ready) r end honest run i side (calls.Poll now) answer gave.poll gave.served

  abbrev w : World
  w = at.before

  h : PollHolds All r i side now answer w
  h = poll_holds All (everything.all Ready ready) r end honest run i side now answer w at.behind at.made

  abbrev e : End
  e = with_shown (end_at side w) (shown_at side w)

  abbrev x : Party
  x = polling r i w side h.sents

  abbrev y : Party
  y = party_at r i w (other_side side) h.theirs

  module _ (gives : IsGiving (policy_at side r.keys) e now gave.transmit (polled (policy_at side r.keys) e now).end gave.sent) where
    stands : IsNewest r side i e.acknowledging.newest
    stands = newest_at r end honest run side i w (stands_within r end run side i side (calls.Poll now) answer w at.behind at.made) (served_before r.answers i gave.served) at.made.leads gives.opened

    clock : max (watch r side i).clock now ≡ max e.closing.clock now
    clock = ap (λ (c : ℕ). max c now) (ap (λ (v : Watch). v.clock) h.seen ∙ (h.gives.1.watched.flight gives.opened).tells.clock)

    says : (a.delay ≡ written_delay (delay_of e.acknowledging.newest (max e.closing.clock now))) × (is_filled e.acknowledging.runs ≡ true)
    says = elim (in_append (ack a) (draft_at e now).frames (replicate (zeros_behind (draft_at e now)) padding) (subst (λ (s : Sent). In (ack a) s.frames) gives.sent among)) [
      | inl here ↦ (draft_says e.acknowledging.newest (max e.closing.clock now) e.acknowledging.runs (ready_at e now).leaving (ready_at e now).end (may_leave_at e now) (ap (λ (x : End). x.acknowledging.newest) left) (ap (λ (x : End). x.closing.clock) left) (ap (λ (x : End). x.acknowledging.runs) left)).each a here
      | inr behind ↦ absurd (none_padding a (zeros_behind (draft_at e now)) behind)
    ]
      where
        left : (ready_at e now).end ≡ poll_left e now (ready_at e now).end
        left = ready_leaves e now

    -- there is no number to name where nothing came
    none_named : took r side i ≡ [] → ⊥
    none_named nothing =
        let some = some_number e.acknowledging.runs h.takes.0.0.acks.runs.runs says.1 in
        let taken = h.takes.0.0.acking some.0 some.1 in
        subst (λ (ps : List Packet). In taken.packet ps) (sym (ap (λ (v : Watch). v.intake.took) h.seen ∙ ap (λ (j : Intake). j.took) (watched_intake (lens x y) x.told (first_watch x.final x.began x.made.path.remote x.first_rtt x.initial_delay))) ∙ nothing) taken.was_taken

    of_open : IsSince r side i (max (watch r side i).clock now) a.delay
    of_open = go e.acknowledging.newest refl stands
      where
        go : (o : Newest) → e.acknowledging.newest ≡ o → IsNewest r side i o → IsSince r side i (max (watch r side i).clock now) a.delay
        go None none nothing = absurd (none_named nothing)
        go (Some held) same (p, number, came, most) = record {
          packet = p;
          came_at = held.1;
          came = came;
          greatest = λ other j. (let below = most other j in omega (arith, below, number));
          says =
              says.0
              ∙ ap (λ (n : Newest). written_delay (delay_of n (max e.closing.clock now))) same
              ∙ ap (λ (c : ℕ). written_delay (c - held.1)) (sym clock)
              ∙ said_is r honest.start side (max (watch r side i).clock now - held.1);
        }

  is_since : IsSince r side i (max (watch r side i).clock now) a.delay
  is_since = elim (probing.either Streams (everything.all Ready ready) r end honest run side i now gave w at.behind at.made) [
    | inl gives ↦ of_open gives
    | inr close ↦ of_close (closing_alone (policy_at side r.keys) e now gave.transmit gave.sent close)
  ]
    where
      of_close : IsCloseAlone gave.sent → IsSince r side i (max (watch r side i).clock now) a.delay
      of_close c = absurd (none_closing a c.close c.zeros c.is (subst (λ (fs : List FrameValue). In (ack a) fs) c.alone among))

pub acks_say_delay : (r : Run) (end : World) → IsHonest r → IsRun r end → AcksSayDelay r
acks_say_delay r end honest run side i now gave a among = is_since r end honest run side i now gave a among
