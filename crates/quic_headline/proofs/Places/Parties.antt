-- The two ends of a run at a place, each with what it gave and what was told at it; and what a call
-- adds.
use Rattle.std.specs.Prelude.{ℕ, ◌≡◌, max, Bool, if◌then◌else◌, List, [], ◌∷◌, ◌++◌, length, Option, Some, None, ◌*◌}
use Rattle.std.specs.List.{list_any}
use Rattle.quic_wire_core.specs.declared.stream_id.Side.{Side}
use Rattle.quic_wire_core.specs.StreamId.{other_side}
use Rattle.quic_packet.specs.Number.{truncated}
use Rattle.quic_time.specs.Rtt.{Rtt}
use Rattle.quic_config.specs.Transport.{parameters_of}
use Rattle.quic_headline.specs.RoundTrip.{first_round}
use Rattle.quic_machine.specs.declared.answers.State.{State}
use Rattle.quic_machine.specs.declared.run.Call.{Call}
use Rattle.quic_machine.specs.declared.run.Call.TheVariants as calls
use Rattle.quic_machine.specs.declared.run.Answer.{Answer}
use Rattle.quic_machine.specs.Policy.{Policy, CanOpen}
use Rattle.quic_spaces.specs.Numbers.{cut_against}
use Rattle.quic_machine.specs.Start.{IsLawful, Making, IsMaking}
use Rattle.quic_wire.specs.Value.{FrameValue}
use Rattle.quic_machine.specs.declared.answers.State.TheVariants as states
use Rattle.quic_machine.specs.declared.answers.LostReason.{LostReason}
use Rattle.quic_machine.specs.Closing.{ticked}
use Rattle.quic_machine.specs.End.{End, number_of, new_end, with_window, with_closing, closed_by}
use Rattle.quic_machine.specs.Opens.{own_id_length}
use Rattle.quic_machine.specs.Poll.{Draft, no_frames, datagram_size, draft_as, closing, bounds, close_to_go}
use Rattle.quic_machine.specs.PollCases.{ready_at, draft_at, frames_padded}
use Rattle.quic_congestion.specs.Pacer.{Pacing}
use Rattle.quic_machine.specs.Control.{Control, with_pacing}
use Rattle.quic_machine.specs.Machine.{after_call, tells, pacing_left, gives, gave, heard_at, control_at, World, end_at}
use Rattle.quic_headline.specs.Runs.{Told, Intake, nothing_came, and_told, folded}
use Rattle.quic_headline.specs.Observer.{Sent, is_close, reference_for, moment_for, Terms, terms_of, Watch, first_watch, Lens, watch_told, serves}
use Rattle.quic_machine.specs.Validation.{with_blocked, is_blocked}

-- ---- what a call adds

-- what goes of an end that closes or is closing: its close, if one goes
abbrev pub close_if : Option FrameValue → End → Draft
close_if None e = no_frames e
close_if (Some f) e = draft_as (closing f) e

abbrev pub close_draft : Policy → End → Draft
close_draft p e = close_if (close_to_go p e) e

-- what goes of an end in a state, whose numbers and key last, or don't
abbrev pub given_in : State → Option LostReason → Policy → End → ℕ → Draft
given_in states.Open None p e now = draft_at e now
given_in states.Open (Some reason) p e now = close_draft p (closed_by reason (ready_at e now).end)
given_in state o p e now = close_draft p (with_closing e (ticked e.closing now))

-- what an end gives at a moment, if it gives something
abbrev pub draft_given : Policy → End → ℕ → Draft
draft_given p e now = given_in e.closing.state (bounds p e) p e now

-- what its number is cut against, where it closes the connection or doesn't
abbrev pub cut_for : Bool → End → ℕ
cut_for closes e = reference_for closes (number_of e) (truncated (number_of e) (cut_against e.numbers)).width (cut_against e.numbers)

-- what the datagram with these frames is sent as
abbrev pub sent_as : End → ℕ → Draft → Sent
sent_as e now d = record { id = e.ids.peer.id; number = number_of e; reference = cut_for (list_any is_close (frames_padded d)) e; frames = frames_padded d; moment = moment_for (list_any is_close (frames_padded d)) (max e.closing.clock now); size = datagram_size d; generation = e.path.generation }

-- what the datagram is sent as that an end gives at a moment, if it gives one
abbrev pub sent_by : Policy → End → ℕ → Sent
sent_by p e now = sent_as e now (draft_given p e now)

-- one more datagram as it was sent, where one was given
abbrev pub sent_if : Bool → Sent → List Sent
sent_if given s = if given then s ∷ [] else []

-- what a call sends
abbrev pub sents_by : Policy → End → Call → Answer → List Sent
sents_by p e (calls.Poll now) a = sent_if (gave a) (sent_by p e now)
sents_by p e call a = []

-- what is told of a call
abbrev pub told_of : Call → Answer → State → Told
told_of call a state = record { call = call; answer = a; state = state }

-- ---- one end

-- one end of a run: its side, its keys, the id that it is known by, the moment at which it was
-- made, what was known of the round trip then, and how long its peer told to hold acknowledgements
-- back, by what losses are judged at it, the datagrams that it gives in all, and
-- the end as it was made; and, at a place: the end, the datagrams that it gave, how they were sent,
-- and what was told at it
pub record Party : Type 0 where
  pub side : Side
  pub policy : Policy
  pub id : List ℕ
  pub began : ℕ
  pub first_rtt : Rtt
  pub initial_delay : ℕ
  pub terms : Terms
  pub final : List (List ℕ)
  pub made : End
  pub end : End
  pub given : List (List ℕ)
  pub sents : List Sent
  pub told : List Told

-- it makes a call, where the other gave these datagrams
abbrev pub called : Party → List (List ℕ) → Call → Answer → Party
called x theirs call a = record x {
  end = after_call x.policy x.end theirs call a;
  given = x.given ++ gives x.policy x.end call a;
  sents = x.sents ++ sents_by x.policy x.end call a;
  told = x.told ++ told_of call a x.end.closing.state ∷ [];
}

-- what an end reads before a poll: the window that its controller shows, and whether nothing more
-- may go to an address that isn't validated; and the pacer that it has behind a call
pub record Shown : Type 0 where
  pub window : ℕ
  pub blocked : Bool
  pub pacing : Pacing

-- the end that read that
abbrev pub with_shown : End → Shown → End
with_shown e shown = with_pacing (with_blocked (with_window e shown.window) shown.blocked) shown.pacing

-- what one of the ends of a world reads
abbrev pub shown_at : Side → World → Shown
shown_at side w = record { window = control_at side w []; blocked = is_blocked (end_at side w) (heard_at side w); pacing = (end_at side w).path.pacing }

-- what it read before
abbrev pub shown_by : End → Shown
shown_by e = record { window = e.path.window; blocked = e.path.blocked; pacing = e.path.pacing }

-- the same, with this pacer
abbrev pub paced_by : End → Pacing → Shown
paced_by e pacing = record (shown_by e) { pacing = pacing }

-- it read that
abbrev pub showing : Party → Shown → Party
showing x shown = record x { end = with_shown x.end shown }

-- the pacer that a call leaves at an end with this controller
abbrev pub pacing_behind : Policy → Control → End → List (List ℕ) → Call → Answer → Pacing
pacing_behind p control e theirs call a = pacing_left (control (tells p e theirs call)) call e (after_call p e theirs call a)

-- what came to an end from the other
abbrev pub came_to : Party → Party → Intake
came_to y x = folded (and_told y.policy x.final) y.told nothing_came

-- how the lists of a run are read for an end: what it gives, the other opens
abbrev pub lens : Party → Party → Lens
lens x y = record { serves = serves x.side; taker = y.policy; own = x.policy; peer_gave = y.final; terms = x.terms }

-- what the observer of an end knows
abbrev pub watch_of : Party → Party → Watch
watch_of x y = folded (watch_told (lens x y)) x.told (first_watch x.final x.began x.made.path.remote x.first_rtt x.initial_delay)

-- ---- two ends

-- The ends of a run: one is the client and one the server, their keys open what the other's
-- protect, their ids have the length of own ids, and what each gave is the first of what it gives.
pub record AreJoined (x y : Party) : Type 0 where
  pub y_side : y.side ≡ other_side x.side
  pub x_side : x.side ≡ other_side y.side
  pub to_y : CanOpen x.policy y.policy
  pub to_x : CanOpen y.policy x.policy
  pub x_lawful : IsLawful x.policy
  pub y_lawful : IsLawful y.policy
  pub x_long : length x.id ≡ own_id_length
  pub y_long : length y.id ≡ own_id_length
  pub x_more : (rest : List (List ℕ)) × (x.given ++ rest ≡ x.final)
  pub y_more : (rest : List (List ℕ)) × (y.given ++ rest ≡ y.final)

-- the same, told of the other first
abbrev pub turned : (x y : Party) → AreJoined x y → AreJoined y x
turned x y j = record {
  y_side = j.x_side;
  x_side = j.y_side;
  to_y = j.to_x;
  to_x = j.to_y;
  x_lawful = j.y_lawful;
  y_lawful = j.x_lawful;
  x_long = j.y_long;
  y_long = j.x_long;
  x_more = j.y_more;
  y_more = j.x_more;
}

-- ---- before the first event

-- how an end begins: its side, its keys, how it was made, and the datagrams that it gives in all
pub record Beginning : Type 0 where
  pub side : Side
  pub policy : Policy
  pub making : Making
  pub final : List (List ℕ)

-- the end as it is made, whose peer begins so
abbrev pub new_as : Beginning → Beginning → End
new_as x y = new_end x.side x.making.settings x.making.windows (parameters_of y.making.settings) x.making.id y.making.id x.making.remote x.making.moment x.making.validated x.making.words

-- the end that begins so, whose peer begins so
abbrev pub begun_as : Beginning → Beginning → Party
begun_as x y = record {
  side = x.side;
  policy = x.policy;
  id = x.making.id;
  began = x.making.moment;
  first_rtt = first_round (new_as x y).transport;
  initial_delay = (new_as x y).peer_params.max_ack_delay * 1000000;
  terms = terms_of (new_as x y);
  final = x.final;
  made = new_as x y;
  end = new_as x y;
  given = [];
  sents = [];
  told = [];
}

-- Both were made for one another.
pub record AreMade (x y : Beginning) : Type 0 where
  pub x_is : IsMaking x.making
  pub y_is : IsMaking y.making
  pub joined : AreJoined (begun_as x y) (begun_as y x)
