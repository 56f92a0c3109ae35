-- So what a request says is what its observer reckons, at each place of an honest run.
use Rattle.std.proofs.Common.{◌≡◌, ℕ, ◌≤◌, true, List, replicate, Some, Ok, sym, ap, ◌∙◌, subst, inl, inr, arith}
use Rattle.quic_wire_core.specs.declared.stream_id.Side.{Side}
use Rattle.quic_wire_core.specs.StreamId.{other_side}
use Rattle.quic_wire.specs.Value.{AckFrequencyValue, ack_frequency, padding}
use Rattle.quic_machine.specs.declared.run.Call.TheVariants as calls
use Rattle.quic_machine.specs.declared.run.Answer.{Answer}
use Rattle.quic_machine.specs.declared.run.Answer.TheVariants as answers
use Rattle.quic_machine.specs.End.{End}
use Rattle.quic_machine.specs.Poll.{Draft, draft_as, zeros_behind, request_of, polled}
use Rattle.quic_machine.specs.Poll as poll
use Rattle.quic_machine.specs.PollCases.{ready_at, draft_at, frames_padded, may_leave_at}
use Rattle.quic_machine.specs.Machine.{World, policy_at, end_at}
use Rattle.quic_headline.specs.Runs.{Run, In, was_said_done}
use Rattle.quic_headline.specs.Observer.{Sent, Watch, watch}
use Rattle.quic_headline.specs.Headline.{IsHonest, IsRun}
use Rattle.quic_headline.specs.Polls.{GaveOne}
use Rattle.quic_headline.specs.Requests.{Asking, asking_of, asking_at, count_requests, requests_in, request_said, IsRequest, RequestsSay}
use Rattle.quic_headline.proofs.Packets.CloseForms.{close_well}
use Rattle.quic_headline.proofs.Places.Told.{in_append}
use Rattle.quic_headline.proofs.Places.Parties.{Party, watch_of, with_shown, shown_at}
use Rattle.quic_headline.proofs.Places.Groups.{Way, Nothing, And, Group, both, over}
use Rattle.quic_headline.proofs.Packets.Group.{PacketsHold}
use Rattle.quic_headline.proofs.Places.Placed.{party_at}
use Rattle.quic_headline.proofs.Places.Everything as everything
use Rattle.quic_headline.proofs.Places.Theorems.{ready}
use Rattle.quic_headline.proofs.Halves.Ready.{Ready}
use Rattle.quic_headline.proofs.Steps.Made.{MadeAt, made_at, polling, PollHolds, poll_holds}
use Rattle.quic_headline.proofs.Steps.Probing.{IsGiving, IsClosing}
use Rattle.quic_headline.proofs.Steps.Probing as probing
use Rattle.quic_headline.proofs.Requests.Asks.{IsToAsk, says, said_known}
use Rattle.quic_headline.proofs.Requests.Drafts.{Has, has_none, has_one, draft_has, ready_by, count_in, count_close, count_padding, count_padded}
use Rattle.quic_headline.proofs.Requests.Group.{Counted, counted_group, anew_made}
use Rattle.quic_headline.proofs.Requests.Only.{ready_only}

-- all that is known of the packets and the streams, and how many requests went
abbrev All : Way
All = everything.All Ready ready

abbrev Known : Way
Known = And All Counted

known : Group Nothing Known
known = both Nothing All Counted (everything.all Ready ready) (over PacketsHold (And Nothing All) Counted (λ x y h. h.1.0.0) counted_group)

-- what is known of the streams
abbrev Streams : Way
Streams = everything.Streams Ready ready

module _ (r : Run) (end : World) (honest : IsHonest r) (run : IsRun r end) (side : Side) (i now : ℕ) (gave : GaveOne r side i now) (f : AckFrequencyValue) (carried : In (ack_frequency f) gave.sent.frames) where
  abbrev answer : Answer
  answer = answers.Poll (Ok (Some gave.transmit))

  at : MadeAt r i side (calls.Poll now) answer
  at = made_at Known known r end honest run i side (calls.Poll now) answer gave.poll gave.served

  abbrev w : World
  w = at.before

  h : PollHolds Known r i side now answer w
  h = poll_holds Known known r end honest run i side now answer w at.behind at.made

  abbrev x : Party
  x = polling r i w side h.sents

  abbrev y : Party
  y = party_at r i w (other_side side) h.theirs

  abbrev e : End
  e = with_shown (end_at side w) (shown_at side w)

  -- the end is to ask, and its peer can be asked; the request says so, and is the only one
  abbrev Said : Type 0
  Said = IsRequest r side i gave.sent f

  -- an open end composed the datagram
  module _ (gives : IsGiving (policy_at side r.keys) e now gave.transmit (polled (policy_at side r.keys) e now).end gave.sent) where
    -- the end asks as it was made to
    asks_so : asking_of e ≡ asking_at r side
    asks_so = h.gives.1.same

    -- its observer reckons what it says
    known_so : (a : IsToAsk (asking_at r side)) → request_of e ≡ request_said a.settings a.least (requests_in (watch r side i).own) (watch r side i).flight
    known_so a =
        said_known x.terms (watch_of x y).clock x.sents (watch_of x y).flight e (h.gives.0.1.watched.flight gives.opened).tells h.gives.1.next a.settings
        (ap (λ (b : Asking). b.settings) asks_so ∙ a.configured) a.least (ap (λ (b : Asking). b.least) asks_so ∙ a.told)
        ∙ ap (λ (ss : List Sent). request_said a.settings a.least (requests_in ss) (watch_of x y).flight) (sym h.gives.0.1.own)
        ∙ ap (λ (v : Watch). request_said a.settings a.least (requests_in v.own) v.flight) (sym h.seen)

    -- a request waits where the end is ready only if it is to ask
    waited_asks : (ready_at e now).end.waiting.frames.ack_frequency ≡ true → IsToAsk (asking_at r side)
    waited_asks = (ready_only (IsToAsk (asking_at r side)) (was_said_done x.told ≡ true) e now (anew_made x y h.gives.1) h.gives.1.only).waits.0

    -- the request stands in the draft
    counts : 1 ≤ count_requests (draft_at e now).frames
    counts =
        let padded = count_padded (draft_at e now) in
        let some = count_in f (frames_padded (draft_at e now)) (subst (λ (s : Sent). In (ack_frequency f) s.frames) gives.sent carried) in
        omega arith

    here : In (ack_frequency f) (draft_at e now).frames
    here = elim (in_append (ack_frequency f) (draft_at e now).frames (replicate (zeros_behind (draft_at e now)) padding) (subst (λ (s : Sent). In (ack_frequency f) s.frames) gives.sent carried)) [
      | inl front ↦ front
      | inr behind ↦ (let some = count_in f (replicate (zeros_behind (draft_at e now)) padding) behind in let none = count_padding (zeros_behind (draft_at e now)) in absurd (omega arith))
    ]

    drafted : Has (ready_at e now).end (draft_at e now) → Said
    drafted (has_none count same still) = let some = counts in absurd (omega arith)
    drafted (has_one count next said waited gone) =
        let a = waited_asks waited in
        record {
          settings = a.settings;
          configured = a.configured;
          least = a.least;
          told = a.told;
          says = said f here ∙ ap says (ready_by e now) ∙ known_so a;
          alone = ap (λ (s : Sent). count_requests s.frames) gives.sent ∙ count_padded (draft_at e now) ∙ count;
        }

    given : Said
    given = drafted (draft_has (ready_at e now).leaving (ready_at e now).end (may_leave_at e now))

  -- none goes beside a close
  alone : IsClosing (policy_at side r.keys) e now gave.transmit gave.sent → ⊥
  alone c =
      let d : Draft = draft_as (poll.closing c.close) c.closed in
      let some = count_in f (frames_padded d) (subst (λ (s : Sent). In (ack_frequency f) s.frames) c.sent carried) in
      let none = count_close c.close (zeros_behind d) (close_well (policy_at side r.keys) c.closed c.owes c.room c.close c.may).well.is in
      omega arith

  pub request_says : Said
  request_says = elim (probing.either Streams (everything.all Ready ready) r end honest run side i now gave w at.behind at.made) [
    | inl gives ↦ given gives
    | inr close ↦ absurd (alone close)
  ]

pub requests_say : (r : Run) (end : World) → IsHonest r → IsRun r end → RequestsSay r
requests_say r end honest run side i now gave f carried = request_says r end honest run side i now gave f carried
