-- Machines with a fault in their timers, their numbers, and in what they keep back; and the runs
-- that they part from.
use Rattle.std.proofs.Common.{◌≡◌, ◌≤◌, ◌<◌, ◌+◌, ℕ, List, [], ◌∷◌, ◌++◌, Option, Some, None, refl, inl, inr, ap, sym, ◌∙◌, subst, arith, length, lit≤}
use Rattle.std.specs.Prelude.{slice_get, slice_index}
use Rattle.quic_wire_core.specs.declared.stream_id.Side.{Side}
use Rattle.quic_wire_core.specs.declared.stream_id.Side.TheVariants.{Client, Server}
use Rattle.quic_wire.specs.Value.{stream, ack}
use Rattle.quic_wire.specs.Items.{items}
use Rattle.quic_packet.specs.Datagram.{Opening}
use Rattle.quic_machine.specs.declared.answers.Received.TheVariants as receives
use Rattle.quic_machine.specs.declared.answers.DropReason.TheVariants as drops
use Rattle.quic_machine.specs.declared.run.ReadCall.{ReadCall}
use Rattle.quic_machine.specs.declared.run.Answer.TheVariants as answers
use Rattle.quic_machine.specs.declared.run.EndView.{EndView}
use Rattle.quic_machine.specs.declared.run.View.{View}
use Rattle.quic_machine.specs.Machine.{IsStep, Follows, view_of}
use Rattle.quic_machine.specs.RunLaws.{one_run}
use Rattle.quic_headline.specs.Runs.{Packet, In, IsNamed, frames_of}
use Rattle.quic_headline.specs.Observer.{Sent, took, sents_until}
use Rattle.quic_headline.specs.Moments.{LossMoments, LossTimerQuiet, AllNamed}
use Rattle.quic_headline.specs.Polls.{GaveNothing, bytes_flying, IsFull, IsHeldBack}
use Rattle.quic_headline.specs.Headline.{IsHonest, IsRun, NumbersRise, opened_there, NoneAbove, OpensAs, NewestOpens}
use Rattle.quic_worked.specs.Worked.{worked_policies, started, once_opened, once_written, once_ended, once_sent, once_taken, hello_frame, hello_datagram, hello_opening, asks_datagram, sending_events, sending_answers, open_view, sent_view, view_with, worked_run, server_id, behind_ids, server_open, hello_whole}
use Rattle.quic_worked.specs.Acknowledged.{client_acked, client_datagram, from_server, ack_payload}
use Rattle.quic_worked.specs.Broken.{IsNoRun, asks_event, tells_finished}
use Rattle.quic_worked.specs.Machines.{NeverGives}
use Rattle.quic_worked.specs.Losses.{ping_events, ping_answers, ping_payload, pinged_once, once_due, once_named, once_acked, once_told}
use Rattle.quic_worked.specs.Messages.{ping_message, sends_message, is_sent, once_messaged}
use Rattle.quic_worked.specs.Held.{gives_nothing, once_held, full_view, first_payload}
use Rattle.quic_worked.specs.Timed.{asks_at, due_at, NeverShows}
use Rattle.quic_worked.specs.Faults.{both_open, one_sent, injects_late, injected_before, clock_moved, acknowledged_run, quiet_run, told_run, nothing_to_tell, never_quiet, cut_short, silent_message, held_message, message_held, message_waits, answered_to}
use Rattle.quic_worked.proofs.WorkedRun.{opens, writes, finishes, gives, takes, sent_seen, taken_seen}
use Rattle.quic_worked.proofs.WorkedKeys.{are_keys}
use Rattle.quic_worked.proofs.Codes.{no_codes}
use Rattle.quic_worked.proofs.OwnIds.{AreOwn, own_ids, honest}
use Rattle.quic_worked.proofs.BrokenRuns.{IsRefused, stops, behind}
use Rattle.quic_worked.proofs.WrongRuns.{NeverEnds, ends_here, step_on, behind_gives}
use Rattle.quic_worked.proofs.WrongAcks.{waits_once, names_once, takes_name, tells_once}
use Rattle.quic_worked.proofs.LostRuns.{pings, gives_first}
use Rattle.quic_worked.proofs.Named.{ack_of_hello}
use Rattle.quic_worked.proofs.TimedRun.{moment_in, moment_of}
use Rattle.quic_worked.proofs.HeldRun as held
use Rattle.quic_worked.proofs.MessageRuns.{step_0}
use Rattle.quic_worked.proofs.Steps.{StepsSo, counts_so, steps_so}

-- ---- what is dropped moves no clock

pub moved_due : due_at clock_moved Client 5 ≡ Some 1024000000
unfolding client_acked
moved_due = refl

pub moved_moments : LossMoments clock_moved → ⊥
moved_moments h = let same : ◌≡◌ {A = ℕ} 6024000000 1024000000 = ap moment_in (h Client 4 (record { client = view_with (Some 6024000000) None; server = server_open }) refl refl refl ∙ ap (λ (o : Option ℕ). Some o) moved_due) in absurd (omega arith)

pub moved_is_honest : IsHonest clock_moved
moved_is_honest = honest clock_moved (record { start = refl; keys = refl; client = (tt, (tt, (inl refl, (inl refl, (tt, tt))))); server = (tt, (tt, (tt, (tt, (tt, tt))))) })

drops_late : IsStep worked_policies started injects_late (answers.Inject (receives.Dropped drops.TooShort)) started
drops_late = record { answer = refl; end = refl; control = refl; heard = counts_so worked_policies started injects_late (answers.Inject (receives.Dropped drops.TooShort)); openings = tt; others = refl; lacking = tt }

-- the machine shows the moment that is reckoned
stays : Follows worked_policies started (injected_before 1024000000).events (injected_before 1024000000).answers (injected_before 1024000000).views once_sent
stays = (started, drops_late, refl, (once_opened, opens, refl, (once_written, writes, refl, (once_ended, finishes, refl, (once_sent, gives, sent_seen, refl)))))

pub never_moves : NeverShows clock_moved
never_moves end f =
    let same = one_run worked_policies clock_moved.answers started clock_moved.events clock_moved.views (injected_before 1024000000).views end once_sent refl f stays in
    let moments : ◌≡◌ {A = ℕ} 6024000000 1024000000 = ap (λ (vs : List View). moment_of (slice_get vs 4)) same.0 in
    absurd (omega arith)

-- ---- the loss timer, once all was named

due_seen : one_sent ≡ view_of once_due
unfolding once_taken
due_seen = refl

named_seen : one_sent ≡ view_of once_named
unfolding once_named
named_seen = refl

acked_seen : both_open ≡ view_of once_acked
unfolding once_acked
acked_seen = refl

follows : (read : ReadCall) → Follows worked_policies started (quiet_run read).events (quiet_run read).answers (quiet_run read).views once_acked
follows read = (
  once_opened,
  opens,
  refl,
  (
    once_written,
    writes,
    refl,
    (
      once_ended,
      finishes,
      refl,
      (
        once_sent,
        gives,
        sent_seen,
        (once_taken, takes, taken_seen, (once_due, waits_once, due_seen, (once_named, names_once, named_seen, (once_acked, takes_name, acked_seen, refl)))),
      ),
    ),
  ),
)

gave_hello : hello_datagram ∷ [] ≡ once_acked.from_client
unfolding once_acked
gave_hello = refl

gave_ack : from_server 0 ack_payload ∷ [] ≡ once_acked.from_server
unfolding once_acked
gave_ack = refl

pub quiet_is_run : (read : ReadCall) → IsRun (quiet_run read) once_acked
quiet_is_run read = record { codes = no_codes (quiet_run read).events refl; follows = follows read; from_client = gave_hello; from_server = gave_ack }

nothing_told : IsStep worked_policies once_told asks_event (answers.Event None) nothing_to_tell
unfolding once_acked
nothing_told =
    let s : StepsSo worked_policies once_told asks_event (answers.Event None) nothing_to_tell = steps_so worked_policies once_told asks_event (answers.Event None) refl in
    record { answer = refl; end = s.end; control = s.control; heard = s.heard; openings = tt; others = s.others; lacking = tt }

told_seen : both_open ≡ view_of once_told
unfolding once_acked
told_seen = refl

nothing_seen : both_open ≡ view_of nothing_to_tell
unfolding once_acked
nothing_seen = refl

told_gave : hello_datagram ∷ [] ≡ nothing_to_tell.from_client
unfolding once_acked
told_gave = refl

told_gave_ack : from_server 0 ack_payload ∷ [] ≡ nothing_to_tell.from_server
unfolding once_acked
told_gave_ack = refl

told_follows : (read : ReadCall) → Follows worked_policies started (told_run read).events (told_run read).answers (told_run read).views nothing_to_tell
told_follows read =
    let late : Follows worked_policies once_acked (asks_event ∷ asks_event ∷ []) (tells_finished ∷ answers.Event None ∷ []) (both_open ∷ both_open ∷ []) nothing_to_tell =
    (once_told, tells_once, told_seen, (nothing_to_tell, nothing_told, nothing_seen, refl)) in (
      once_opened,
      opens,
      refl,
      (
        once_written,
        writes,
        refl,
        (
          once_ended,
          finishes,
          refl,
          (
            once_sent,
            gives,
            sent_seen,
            (once_taken, takes, taken_seen, (once_due, waits_once, due_seen, (once_named, names_once, named_seen, (once_acked, takes_name, acked_seen, late)))),
          ),
        ),
      ),
    )

pub told_is_run : (read : ReadCall) → IsRun (told_run read) nothing_to_tell
told_is_run read = record { codes = no_codes (told_run read).events refl; follows = told_follows read; from_client = told_gave; from_server = told_gave_ack }

pub told_is_honest : (read : ReadCall) → IsHonest (told_run read)
told_is_honest read = honest (told_run read) (record { start = refl; keys = refl; client = (tt, (inl refl, (inl refl, (tt, (tt, (tt, (tt, (tt, (tt, (tt, tt)))))))))); server = (tt, (tt, (tt, (tt, (tt, (tt, (tt, (tt, (tt, (tt, tt)))))))))) })

own : (client : EndView) (read : ReadCall) (side : Side) → AreOwn side [] (acknowledged_run client read).events (acknowledged_run client read).answers (acknowledged_run client read).views
own client read Client = (tt, (inl refl, (inl refl, (tt, (tt, (tt, (tt, (tt, tt))))))))
own client read Server = (tt, (tt, (tt, (tt, (tt, (tt, (tt, (tt, tt))))))))

acknowledged_is_honest : (client : EndView) (read : ReadCall) → IsHonest (acknowledged_run client read)
acknowledged_is_honest client read = honest (acknowledged_run client read) (record { start = refl; keys = refl; client = own client read Client; server = own client read Server })

pub quiet_is_honest : (read : ReadCall) → IsHonest (quiet_run read)
quiet_is_honest = acknowledged_is_honest open_view

pub stays_is_honest : (read : ReadCall) → IsHonest (never_quiet read)
stays_is_honest = acknowledged_is_honest sent_view

-- the one datagram that the client gave, and the packet that it took
abbrev hello_sent : Sent
hello_sent = record { id = server_id; number = 0; reference = 0; frames = behind_ids (stream hello_frame ∷ []); moment = 0; size = 230; generation = 0 }

abbrev ack_packet : Packet
ack_packet = record { number = 0; frames = ack ack_of_hello ∷ [] }

one_went : (client : EndView) (read : ReadCall) → sents_until (acknowledged_run client read) Client 8 ≡ hello_sent ∷ []
unfolding client_acked
one_went client read = refl

one_came : (client : EndView) (read : ReadCall) → took (acknowledged_run client read) Client 8 ≡ ack_packet ∷ []
unfolding client_acked
one_came client read = refl

names_it : IsNamed (ack_packet ∷ []) 0
names_it = record { packet = ack_packet; was_taken = inl refl; frame = ack_of_hello; carried = inl refl; named = refl }

is_named : (s : Sent) → In s (hello_sent ∷ []) → IsNamed (ack_packet ∷ []) s.number
is_named s (inl is) = subst (λ (x : Sent). IsNamed (ack_packet ∷ []) x.number) (sym is) names_it
is_named s (inr i) = absurd i

all_named : (client : EndView) (read : ReadCall) → AllNamed (acknowledged_run client read) Client 8
all_named client read s among asks =
    subst (λ (ps : List Packet). IsNamed ps s.number) (sym (one_came client read)) (is_named s (subst (λ (ss : List Sent). In s ss) (one_went client read) among))

pub quiet_is_named : (read : ReadCall) → AllNamed (quiet_run read) Client 8
quiet_is_named = all_named open_view

pub stays_quiet : (read : ReadCall) → LossTimerQuiet (never_quiet read) → ⊥
stays_quiet read h = let same : ◌≡◌ {A = ℕ} 1024000000 0 = ap moment_in (h Client 7 one_sent refl refl refl (all_named sent_view read)) in absurd (omega arith)

pub never_stays : (read : ReadCall) → NeverShows (never_quiet read)
never_stays read end f =
    let same = one_run worked_policies (quiet_run read).answers started (quiet_run read).events (never_quiet read).views (quiet_run read).views end once_acked refl f (follows read) in
    let moments : ◌≡◌ {A = ℕ} 1024000000 0 = ap (λ (vs : List View). moment_of (slice_get vs 7)) same.0 in
    absurd (omega arith)

-- ---- a number that is cut too short

pub hello_is_told : (read : ReadCall) → opened_there (worked_run read) Client 4 hello_datagram ≡ Some hello_opening
hello_is_told read = refl

-- what the observer reads of the client's datagrams: the second alone
abbrev ping_sent : Sent
ping_sent = record { id = server_id; number = 1; reference = 0; frames = frames_of (items ping_payload); moment = 0; size = 29; generation = 0 }

never_opens : opened_there cut_short Client 6 (client_datagram 300 250 hello_whole) ≡ None
never_opens = refl

not_as_sent : (s : Sent) → OpensAs s None → ⊥
not_as_sent s o = let never : ◌≡◌ {A = Option Opening} None (Some o.opening) = o.is in cc

none_above : NoneAbove (took cut_short Server 6) 1
none_above packet i = absurd i

pub short_opens : NewestOpens cut_short → ⊥
unfolding once_taken
short_opens h = not_as_sent ping_sent (subst (λ (o : Option Opening). OpensAs ping_sent o) never_opens (h Client 6 0 (client_datagram 300 250 hello_whole) ping_sent refl refl refl none_above))

pub short_numbers : NumbersRise cut_short → ⊥
short_numbers h = (h Client 6 refl).4

pub short_is_honest : IsHonest cut_short
short_is_honest = honest cut_short (record { start = refl; keys = refl; client = (tt, (inl refl, (inl refl, (tt, (tt, (tt, tt)))))); server = (tt, (tt, (tt, (tt, (tt, (tt, tt)))))) })

-- the last byte of the number in the tag of the first datagram
abbrev tagged : List (List ℕ) → ℕ
tagged [] = 1
tagged (d ∷ ds) = slice_index d 221

right_tag : tagged pinged_once.from_client ≡ 0
unfolding pinged_once
right_tag = refl

short_other : cut_short.from_client ≡ pinged_once.from_client → ⊥
short_other e = let clash : ◌≡◌ {A = ℕ} 44 0 = ap tagged e ∙ right_tag in omega (arith, clash)

not_short : NeverEnds (λ w. cut_short.from_client ≡ w.from_client) started (sending_events ++ ping_events) (sending_answers ++ ping_answers)
not_short = behind_gives (step_on refl (pings once_sent) (step_on refl gives_first (ends_here short_other)))

pub never_short : NeverGives cut_short
never_short views end is = not_short.never views end is.follows is.from_client

-- ---- a message that waits, and is held back

waits_behind : IsStep worked_policies (once_held 3) (sends_message ping_message) is_sent held_message
unfolding held_message
waits_behind =
    let s : StepsSo worked_policies (once_held 3) (sends_message ping_message) is_sent held_message = steps_so worked_policies (once_held 3) (sends_message ping_message) is_sent refl in
    record { answer = inl refl; end = s.end; control = s.control; heard = s.heard; openings = tt; others = s.others; lacking = λ lacks. cc }

holds_it : IsStep worked_policies held_message (asks_at Client 0) gives_nothing message_held
unfolding message_held
holds_it =
    let s : StepsSo worked_policies held_message (asks_at Client 0) gives_nothing message_held = steps_so worked_policies held_message (asks_at Client 0) gives_nothing refl in
    record { answer = inl refl; end = s.end; control = s.control; heard = s.heard; openings = tt; others = s.others; lacking = tt }

waits_seen : full_view ≡ view_of held_message
unfolding held_message
waits_seen = refl

holds_seen : full_view ≡ view_of message_held
unfolding message_held
holds_seen = refl

gave_first : client_datagram 0 0 first_payload ∷ [] ≡ message_held.from_client
unfolding message_held
gave_first = refl

gave_none : [] ≡ message_held.from_server
unfolding message_held
gave_none = refl

pub waits_is_run : IsRun message_waits message_held
waits_is_run = record {
  codes = no_codes message_waits.events refl;
  follows = (
    once_held 1,
    held.opens,
    held.unset_seen,
    (once_held 2, held.writes, held.written_seen, (once_held 3, held.gives, held.given_seen, (held_message, waits_behind, waits_seen, (message_held, holds_it, holds_seen, refl)))),
  );
  from_client = gave_first;
  from_server = gave_none;
}

waits_own : (side : Side) → AreOwn side [] message_waits.events message_waits.answers message_waits.views
waits_own Client = (tt, (inl refl, (tt, (tt, (tt, tt)))))
waits_own Server = (tt, (tt, (tt, (tt, (tt, tt)))))

pub waits_is_honest : IsHonest message_waits
waits_is_honest = record { start = held.held_started; keys = are_keys; ids = own_ids message_waits waits_own }

pub waits_gave : GaveNothing message_waits Client 4 0 full_view
waits_gave = record { poll = record { event = refl; answer = refl }; shown = refl; opened = refl }

pub waits_still : In ping_message message_held.client.messages.queues.outgoing
unfolding message_held
waits_still = inl refl

so_many : bytes_flying message_waits Client 5 ≡ 1200
unfolding once_held
so_many = refl

pub waits_full : IsFull message_waits Client 5 full_view
waits_full = let same : bytes_flying message_waits Client 5 + 1200 ≡ 2400 = ap (λ (n : ℕ). n + 1200) so_many in subst (λ (n : ℕ). 2400 ≤ n) (sym same) (lit≤ tt)

-- ---- a message that is kept

pub message_is_there : In ping_message (once_messaged 1).client.messages.queues.outgoing
unfolding once_messaged
message_is_there = inl refl

pub kept_gave : GaveNothing silent_message Client 1 0 both_open
kept_gave = record { poll = record { event = refl; answer = refl }; shown = refl; opened = refl }

pub kept_held : IsHeldBack silent_message Client 2 both_open → ⊥
kept_held (inl f) = let most : 12000 ≤ 1200 = f in omega (arith, most)
kept_held (inr p) = let shown : ◌≡◌ {A = Option (Option ℕ)} (Some None) (Some (Some p.moment)) = p.shown in cc

kept_no : IsRefused (once_messaged 1) asks_datagram gives_nothing
unfolding once_messaged
kept_no (inl e) = cc
kept_no (inr e) = cc

pub kept_is_none : IsNoRun silent_message
kept_is_none = behind refl step_0 (stops _ _ _ _ _ kept_no)

pub kept_is_honest : IsHonest silent_message
kept_is_honest = honest silent_message (record { start = refl; keys = refl; client = (tt, (tt, tt)); server = (tt, (tt, tt)) })

-- ---- answers that lack

pub none_is_run : IsRun (answered_to 0) started
none_is_run = record { codes = no_codes sending_events refl; follows = refl; from_client = refl; from_server = refl }

pub three_is_run : IsRun (answered_to 3) once_ended
three_is_run = record { codes = no_codes sending_events refl; follows = (once_opened, opens, refl, (once_written, writes, refl, (once_ended, finishes, refl, refl))); from_client = refl; from_server = refl }

pub none_is_less : length (answered_to 0).answers < length (answered_to 0).events
none_is_less = omega arith

pub three_is_less : length (answered_to 3).answers < length (answered_to 3).events
three_is_less = omega arith
