-- The run in which number 0 is left out, event by event, and a client that gives it all the same.
use Rattle.std.proofs.Common.{◌≡◌, ℕ, true, List, [], ◌∷◌, Some, Ok, refl, inl, inr, sym, ap, ◌∙◌, subst, arith, lit<, lit≤}
use Rattle.std.specs.Prelude.{slice_index}
use Rattle.quic_wire_core.specs.TransportError.{plain_error}
use Rattle.quic_wire_core.specs.declared.stream_id.Side.{Side}
use Rattle.quic_wire_core.specs.declared.stream_id.Side.TheVariants.{Client, Server}
use Rattle.quic_worked.specs.Settings.{plain_settings}
use Rattle.quic_machine.specs.declared.answers.LostReason.TheVariants as reasons
use Rattle.quic_machine.specs.declared.answers.Received.TheVariants as receives
use Rattle.quic_machine.specs.declared.run.Answer.TheVariants as answers
use Rattle.quic_machine.specs.declared.run.View.{View}
use Rattle.quic_machine.specs.Start.{AreStarted}
use Rattle.quic_machine.specs.End.{IsMade}
use Rattle.quic_machine.specs.declared.run.Answer.{Answer}
use Rattle.quic_machine.specs.Machine.{IsStep, Follows, view_of, policy_at, end_at}
use Rattle.quic_headline.specs.Observer.{sents_until}
use Rattle.quic_headline.specs.LeftOut.{left_out, AreLeftOut, NumbersAreDrawn}
use Rattle.quic_headline.specs.Causes.{Shows, NoBlame}
use Rattle.quic_headline.specs.Headline.{IsHonest, IsRun}
use Rattle.quic_worked.specs.Worked.{steady, shut, started, worked_policies, client_id, server_id, delivers, asks_datagram, gives_bytes, open_view, sent_view, server_open, server_waiting}
use Rattle.quic_worked.specs.Broken.{IsNoRun}
use Rattle.quic_worked.specs.Closed.{closed_view}
use Rattle.quic_worked.specs.Acknowledged.{client_takes, client_acked}
use Rattle.quic_worked.specs.Losses.{wide_payload, asks_ping, ping_events, first_ping_answers, server_waits, server_polled, client_delivered}
use Rattle.quic_worked.specs.Machines.{NeverGives}
use Rattle.quic_worked.specs.Measured.{zero_first, leaving_out, once_skipped, skipping_run, left_out_sent, left_out_given, other_left_out}
use Rattle.quic_worked.proofs.Codes.{no_codes}
use Rattle.quic_worked.proofs.OwnIds.{AreOwn, own_ids}
use Rattle.quic_worked.proofs.WorkedKeys.{are_keys}
use Rattle.quic_worked.proofs.WorkedHonest.{are_started, making}
use Rattle.quic_worked.proofs.WorkedRun.{parameters_say, server_is_made}
use Rattle.quic_worked.proofs.BrokenRuns.{IsRefused, stops, behind}
use Rattle.quic_worked.proofs.WrongRuns.{NeverEnds, ends_here, step_on}
use Rattle.quic_worked.proofs.Steps.{counts_so}

-- ---- the premises

pub skipping_started : AreStarted leaving_out
skipping_started = record {
  client_making = record (making client_id) { words = zero_first };
  server_making = record (making server_id) { windows = shut };
  client_is = record { range = record { receive_window = lit< tt; stream_receive_window = lit< tt; bounds = record { bidi = lit≤ tt; uni = lit≤ tt; divides = lit< tt; initial = lit≤ tt; least = lit≤ tt }; search = tt }; sizes = lit≤ tt; says = parameters_say; id = refl };
  server_is = record { range = record { receive_window = lit< tt; stream_receive_window = lit< tt; bounds = record { bidi = lit≤ tt; uni = lit≤ tt; divides = lit< tt; initial = lit≤ tt; least = lit≤ tt }; search = tt }; sizes = lit≤ tt; says = parameters_say; id = refl };
  client = subst (λ read. IsMade Client plain_settings steady read client_id server_id 0 0 true zero_first leaving_out.client) (sym parameters_say) refl;
  server = server_is_made;
  client_gave = refl;
  server_gave = refl;
  client_heard = refl;
  server_heard = refl;
}

own : (side : Side) → AreOwn side [] skipping_run.events skipping_run.answers skipping_run.views
own Client = (tt, (tt, (tt, (tt, (tt, (tt, tt))))))
own Server = (tt, (tt, (tt, (tt, (tt, (tt, tt))))))

pub skipping_is_honest : IsHonest skipping_run
skipping_is_honest = record { start = skipping_started; keys = are_keys; ids = own_ids skipping_run own }

own_given : (side : Side) → AreOwn side [] left_out_given.events left_out_given.answers left_out_given.views
own_given Client = (tt, (tt, (tt, (tt, (tt, (tt, tt))))))
own_given Server = (tt, (tt, (tt, (tt, (tt, (tt, tt))))))

pub given_is_honest : IsHonest left_out_given
given_is_honest = record { start = skipping_started; keys = are_keys; ids = own_ids left_out_given own_given }

-- ---- the machine's run

step_0 : IsStep worked_policies leaving_out asks_ping answers.Ping (once_skipped 1)
unfolding once_skipped
step_0 = record { answer = refl; end = refl; control = refl; heard = counts_so worked_policies leaving_out asks_ping answers.Ping; openings = tt; others = refl; lacking = tt }

seen_0 : ◌≡◌ {A = View} (record { client = open_view; server = server_open }) (view_of (once_skipped 1))
unfolding once_skipped
seen_0 = refl

step_1 : IsStep worked_policies (once_skipped 1) asks_datagram (gives_bytes 223) (once_skipped 2)
unfolding once_skipped
step_1 = record { answer = inl refl; end = refl; control = refl; heard = counts_so worked_policies (once_skipped 1) asks_datagram (gives_bytes 223); openings = tt; others = refl; lacking = tt }

seen_1 : ◌≡◌ {A = View} (record { client = sent_view; server = server_open }) (view_of (once_skipped 2))
unfolding once_skipped
seen_1 = refl

step_2 : IsStep worked_policies (once_skipped 2) delivers (answers.Deliver receives.Taken) (once_skipped 3)
unfolding once_skipped
step_2 = record { answer = inl refl; end = refl; control = refl; heard = counts_so worked_policies (once_skipped 2) delivers (answers.Deliver receives.Taken); openings = tt; others = refl; lacking = tt }

seen_2 : ◌≡◌ {A = View} (record { client = sent_view; server = server_waiting }) (view_of (once_skipped 3))
unfolding once_skipped
seen_2 = refl

step_3 : IsStep worked_policies (once_skipped 3) server_waits (answers.Timeout (Ok tt)) (once_skipped 4)
unfolding once_skipped
step_3 = record { answer = inl refl; end = refl; control = refl; heard = counts_so worked_policies (once_skipped 3) server_waits (answers.Timeout (Ok tt)); openings = tt; others = refl; lacking = tt }

seen_3 : ◌≡◌ {A = View} (record { client = sent_view; server = server_open }) (view_of (once_skipped 4))
unfolding once_skipped
seen_3 = refl

step_4 : IsStep worked_policies (once_skipped 4) server_polled (gives_bytes 32) (once_skipped 5)
unfolding once_skipped
step_4 = record { answer = inl refl; end = refl; control = refl; heard = counts_so worked_policies (once_skipped 4) server_polled (gives_bytes 32); openings = tt; others = refl; lacking = tt }

seen_4 : ◌≡◌ {A = View} (record { client = sent_view; server = server_open }) (view_of (once_skipped 5))
unfolding once_skipped
seen_4 = refl

step_5 : IsStep worked_policies (once_skipped 5) client_delivered (answers.Deliver receives.Taken) (once_skipped 6)
unfolding once_skipped
step_5 = record { answer = inl refl; end = refl; control = refl; heard = counts_so worked_policies (once_skipped 5) client_delivered (answers.Deliver receives.Taken); openings = tt; others = refl; lacking = tt }

seen_5 : ◌≡◌ {A = View} (record { client = open_view; server = server_open }) (view_of (once_skipped 6))
unfolding once_skipped
seen_5 = refl

follows : Follows skipping_run.keys skipping_run.start skipping_run.events skipping_run.answers skipping_run.views (once_skipped 6)
follows = (once_skipped 1, step_0, seen_0, (once_skipped 2, step_1, seen_1, (once_skipped 3, step_2, seen_2, (once_skipped 4, step_3, seen_3, (once_skipped 5, step_4, seen_4, (once_skipped 6, step_5, seen_5, refl))))))

gave_first : skipping_run.from_client ≡ (once_skipped 6).from_client
unfolding once_skipped
gave_first = refl

gave_name : skipping_run.from_server ≡ (once_skipped 6).from_server
unfolding once_skipped
gave_name = refl

pub skipping_is_run : IsRun skipping_run (once_skipped 6)
skipping_is_run = record { codes = no_codes skipping_run.events refl; follows = follows; from_client = gave_first; from_server = gave_name }

pub next_is : (once_skipped 6).client.filter.next ≡ 127
unfolding once_skipped
next_is = refl

pub last_is : (once_skipped 6).client.filter.last ≡ Some 0
unfolding once_skipped
last_is = refl

-- ACK of numbers 0 and 1 closes the client
pub both_named : (client_takes (once_skipped 2).client 25000000 wide_payload).answer ≡ receives.Closed (plain_error 10)
unfolding once_skipped
both_named = refl

-- ---- the number that is left out goes

-- the client's view behind the acknowledgement
blame_shows : Shows left_out_given Client 5 (Some (reasons.Transport (plain_error 10)))
blame_shows = record { served = refl; view = record { client = closed_view (reasons.Transport (plain_error 10)); server = server_open }; there = refl; is = refl }

pub left_out_blames : NoBlame left_out_given → ⊥
left_out_blames h = h Client 5 (Some (reasons.Transport (plain_error 10))) blame_shows

blames_no : IsRefused (once_skipped 5) client_delivered (answers.Deliver (receives.Closed (plain_error 10)))
unfolding once_skipped
blames_no (inl e) = cc
blames_no (inr e) = cc

pub no_blame : IsNoRun left_out_given
no_blame = behind refl step_0 (behind refl step_1 (behind refl step_2 (behind refl step_3 (behind refl step_4 (stops _ _ _ _ _ blames_no)))))

-- the last byte of the number in the tag of the first datagram
abbrev first_byte : List (List ℕ) → ℕ
first_byte [] = 9
first_byte (d ∷ ds) = slice_index d 214

right_byte : first_byte (once_skipped 2).from_client ≡ 1
unfolding once_skipped
right_byte = refl

sent_other : left_out_sent.from_client ≡ (once_skipped 2).from_client → ⊥
sent_other e = let clash : ◌≡◌ {A = ℕ} 0 1 = ap first_byte e ∙ right_byte in omega (arith, clash)

not_sent : NeverEnds (λ w. left_out_sent.from_client ≡ w.from_client) leaving_out ping_events first_ping_answers
not_sent = step_on refl step_0 (step_on refl step_1 (ends_here sent_other))

pub never_sent : NeverGives left_out_sent
never_sent views end is = not_sent.never views end is.follows is.from_client

-- ---- which number is drawn

pub one_out : left_out 0 (sents_until skipping_run Client 6) ≡ 0 ∷ []
unfolding client_acked
one_out = refl

pub zero_drawn : AreLeftOut (policy_at Client worked_policies).words (end_at Client leaving_out).filter.next (left_out 0 (sents_until skipping_run Client 6))
zero_drawn = subst (λ (ns : List ℕ). AreLeftOut (policy_at Client worked_policies).words (end_at Client leaving_out).filter.next ns) (sym one_out) (refl, tt)

other_out : left_out 0 (sents_until other_left_out Client 1) ≡ 0 ∷ []
unfolding client_acked
other_out = refl

pub other_not : NumbersAreDrawn other_left_out → ⊥
other_not h =
    let drawn : AreLeftOut (policy_at Client worked_policies).words (end_at Client started).filter.next (0 ∷ []) = subst (λ (ns : List ℕ). AreLeftOut (policy_at Client worked_policies).words (end_at Client started).filter.next ns) other_out (h Client 1 refl) in
    let clash : 0 ≡ 63 = drawn.0 in
    omega (arith, clash)

other_own : (side : Side) → AreOwn side [] other_left_out.events other_left_out.answers other_left_out.views
other_own Client = (tt, tt)
other_own Server = (tt, tt)

pub other_is_honest : IsHonest other_left_out
other_is_honest = record { start = are_started; keys = are_keys; ids = own_ids other_left_out other_own }

-- the size of a datagram that a poll gives
abbrev size_in : Answer → ℕ
size_in (answers.Poll (Ok (Some t))) = t.size
size_in a = 0

other_no : IsRefused started asks_datagram (gives_bytes 223)
other_no (inl e) = let sizes : ◌≡◌ {A = ℕ} 223 222 = ap size_in e in absurd (omega arith)
other_no (inr e) = cc

pub other_is_none : IsNoRun other_left_out
other_is_none = stops _ _ _ _ _ other_no
