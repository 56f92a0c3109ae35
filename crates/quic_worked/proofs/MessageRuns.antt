-- The run in which a message goes, event by event; it meets the premises, and its message comes
-- once. And machines by which more or other messages are read.
use Rattle.std.proofs.Common.{◌≡◌, ◌≤◌, ℕ, zero, suc, List, [], ◌∷◌, ◌++◌, Some, None, Ok, refl, inl, inr, ◌⊎◌, ap, ◌∙◌, arith, length, take}
use Rattle.std.specs.Prelude.{slice_index}
use Rattle.quic_wire_core.specs.declared.shared.EcnCodepoint.TheVariants.{Ect0}
use Rattle.quic_wire_core.specs.declared.stream_id.Side.TheVariants.{Client, Server}
use Rattle.quic_messages.specs.History.{times}
use Rattle.quic_messages.specs.Messages.{oldest}
use Rattle.quic_machine.specs.declared.answers.Received.TheVariants as receives
use Rattle.quic_machine.specs.declared.run.Answer.{Answer}
use Rattle.quic_machine.specs.declared.run.Answer.TheVariants as answers
use Rattle.quic_machine.specs.Calls.{end_tells}
use Rattle.quic_machine.specs.Machine.{IsStep, Follows, view_of}
use Rattle.quic_headline.specs.Runs.{Run, until}
use Rattle.quic_headline.specs.Observer.{took, sents_until}
use Rattle.quic_headline.specs.Queue.{waiting_messages, MessagesGoInOrder}
use Rattle.quic_headline.specs.Headline.{IsHonest, IsRun}
use Rattle.quic_headline.specs.Messages.{sent_messages, received_messages, MessagesAtMostOnce}
use Rattle.quic_worked.specs.Worked.{worked_policies, started, once_taken, asks_datagram, delivers, gives_bytes, told_ids, both_steady}
use Rattle.quic_worked.specs.Broken.{IsNoRun, duplicate}
use Rattle.quic_worked.specs.Losses.{asks_ping}
use Rattle.quic_worked.specs.Timed.{asks_at, comes_at, seen_with}
use Rattle.quic_worked.specs.Messages.{ping_message, message_packet, sends_message, server_asks, server_reads, client_reads, is_sent, gives_message, gives_none, tells_message, once_messaged, message_repeated, message_told, nothing_told, message_read, message_end, message_run, message_twice, message_cut, message_made_up, message_back, long_message, too_large, message_refused, comes_to_server, server_pings, once_late, late_taken, late_read, late_end, both_seen, late_run, message_again, pong_message, two_events, two_answers, once_two, two_run, two_sent}
use Rattle.quic_worked.specs.Machines.{NeverGives}
use Rattle.quic_worked.proofs.Codes.{no_codes}
use Rattle.quic_worked.proofs.OwnIds.{honest, honest_steady}
use Rattle.quic_worked.proofs.BrokenRuns.{IsRefused, stops, behind}
use Rattle.quic_worked.proofs.WrongRuns.{NeverEnds, ends_here, step_on}
use Rattle.quic_worked.proofs.Steps.{counts_so}
use Rattle.quic_worked.specs.Acknowledged.{client_acked, ack_at_once}
use Rattle.quic_machine.specs.PollCases.{draft_at}

-- ---- the events

pub step_0 : IsStep worked_policies started (sends_message ping_message) is_sent (once_messaged 1)
unfolding once_messaged
step_0 = record { answer = inl refl; end = refl; control = refl; heard = counts_so worked_policies started (sends_message ping_message) is_sent; openings = tt; others = refl; lacking = λ lacks. cc }

seen_0 : seen_with None None ≡ view_of (once_messaged 1)
unfolding once_messaged
seen_0 = refl

pub step_1 : IsStep worked_policies (once_messaged 1) asks_datagram (gives_bytes 228) (once_messaged 2)
unfolding once_messaged
step_1 = record { answer = inl refl; end = refl; control = refl; heard = counts_so worked_policies (once_messaged 1) asks_datagram (gives_bytes 228); openings = tt; others = refl; lacking = tt }

seen_1 : seen_with (Some 1024000000) None ≡ view_of (once_messaged 2)
unfolding once_messaged
seen_1 = refl

pub step_2 : IsStep worked_policies (once_messaged 2) delivers (answers.Deliver receives.Taken) (once_messaged 3)
unfolding once_messaged
step_2 = record { answer = inl refl; end = refl; control = refl; heard = counts_so worked_policies (once_messaged 2) delivers (answers.Deliver receives.Taken); openings = tt; others = refl; lacking = tt }

seen_2 : seen_with (Some 1024000000) (Some 25000000) ≡ view_of (once_messaged 3)
unfolding once_messaged
seen_2 = refl

step_3 : IsStep worked_policies (once_messaged 3) delivers (answers.Deliver duplicate) message_repeated
unfolding once_messaged
step_3 = record { answer = inl refl; end = refl; control = refl; heard = counts_so worked_policies (once_messaged 3) delivers (answers.Deliver duplicate); openings = tt; others = refl; lacking = tt }

seen_3 : seen_with (Some 1024000000) (Some 25000000) ≡ view_of message_repeated
unfolding once_messaged
seen_3 = refl

pub answer_message_4 : tells_message ≡ answers.Event (end_tells (once_messaged 3).server)
unfolding once_messaged
answer_message_4 = refl

step_4 : IsStep worked_policies message_repeated server_asks tells_message message_told
step_4 = record { answer = answer_message_4; end = refl; control = refl; heard = counts_so worked_policies message_repeated server_asks tells_message; openings = tt; others = refl; lacking = tt }

seen_4 : seen_with (Some 1024000000) (Some 25000000) ≡ view_of message_told
unfolding once_messaged
seen_4 = refl

answer_message_5 : answers.Event None ≡ answers.Event (end_tells message_told.server)
unfolding once_messaged
answer_message_5 = refl

step_5 : IsStep worked_policies message_told server_asks (answers.Event None) nothing_told
step_5 = record { answer = answer_message_5; end = refl; control = refl; heard = counts_so worked_policies message_told server_asks (answers.Event None); openings = tt; others = refl; lacking = tt }

seen_5 : seen_with (Some 1024000000) (Some 25000000) ≡ view_of nothing_told
unfolding once_messaged
seen_5 = refl

answer_message_6 : gives_message ping_message ≡ answers.Recv (oldest nothing_told.server.messages.queues.incoming)
unfolding once_messaged
answer_message_6 = refl

step_6 : IsStep worked_policies nothing_told server_reads (gives_message ping_message) message_read
step_6 = record { answer = answer_message_6; end = refl; control = refl; heard = counts_so worked_policies nothing_told server_reads (gives_message ping_message); openings = tt; others = refl; lacking = tt }

seen_6 : seen_with (Some 1024000000) (Some 25000000) ≡ view_of message_read
unfolding once_messaged
seen_6 = refl

answer_message_7 : gives_none ≡ answers.Recv (oldest message_read.server.messages.queues.incoming)
unfolding once_messaged
answer_message_7 = refl

step_7 : IsStep worked_policies message_read server_reads gives_none message_end
step_7 = record { answer = answer_message_7; end = refl; control = refl; heard = counts_so worked_policies message_read server_reads gives_none; openings = tt; others = refl; lacking = tt }

seen_7 : seen_with (Some 1024000000) (Some 25000000) ≡ view_of message_end
unfolding once_messaged
seen_7 = refl

follows : Follows message_run.keys message_run.start message_run.events message_run.answers message_run.views message_end
follows = (once_messaged 1, step_0, seen_0, (once_messaged 2, step_1, seen_1, (once_messaged 3, step_2, seen_2, (message_repeated, step_3, seen_3, (message_told, step_4, seen_4, (nothing_told, step_5, seen_5, (message_read, step_6, seen_6, (message_end, step_7, seen_7, refl))))))))

gave_message : message_run.from_client ≡ message_end.from_client
unfolding once_messaged
gave_message = refl

gave_none : message_run.from_server ≡ message_end.from_server
unfolding once_messaged
gave_none = refl

pub message_is_run : IsRun message_run message_end
message_is_run = record { codes = no_codes message_run.events refl; follows = follows; from_client = gave_message; from_server = gave_none }

pub message_is_honest : IsHonest message_run
message_is_honest = honest message_run (record { start = refl; keys = refl; client = (tt, (tt, (tt, (tt, (tt, (tt, (tt, (tt, tt)))))))); server = (tt, (tt, (tt, (tt, (tt, (tt, (tt, (tt, tt)))))))) })

-- one packet came
pub message_took : took message_run Server 8 ≡ message_packet ∷ []
unfolding once_taken
message_took = refl

-- ---- a message is received once

-- nothing is received at the client, and at the server nothing, or the message, which the client
-- sent before
pub record ComesOnce (r : Run) : Type 0 where
  pub back : (i : ℕ) → received_messages (until r Client i) ≡ []
  pub there : (i : ℕ) → (received_messages (until r Server i) ≡ []) ⊎ ((received_messages (until r Server i) ≡ ping_message ∷ []) × (sent_messages (until r Client i) ≡ ping_message ∷ []))

-- none is no more than any
none_fits : (message : List ℕ) (received sent : List (List ℕ)) → received ≡ [] → times message received ≤ times message sent
none_fits message received sent none = rw none (omega arith)

-- those that were sent are no more than those
same_fits : (message : List ℕ) (received sent : List (List ℕ)) → received ≡ ping_message ∷ [] → sent ≡ ping_message ∷ [] → times message received ≤ times message sent
same_fits message received sent came went = rw came (rw went (omega arith))

comes_once : (r : Run) → ComesOnce r → MessagesAtMostOnce r
comes_once r c Client i message served = none_fits message (received_messages (until r Client i)) (sent_messages (until r Server i)) (c.back i)
comes_once r c Server i message served = elim (c.there i) [
  | inl none ↦ none_fits message (received_messages (until r Server i)) (sent_messages (until r Client i)) none
  | inr both ↦ same_fits message (received_messages (until r Server i)) (sent_messages (until r Client i)) both.0 both.1
]

message_none : (i : ℕ) → received_messages (until message_run Client i) ≡ []
message_none zero = refl
message_none (suc zero) = refl
message_none (suc (suc zero)) = refl
message_none (suc (suc (suc zero))) = refl
message_none (suc (suc (suc (suc zero)))) = refl
message_none (suc (suc (suc (suc (suc zero))))) = refl
message_none (suc (suc (suc (suc (suc (suc zero)))))) = refl
message_none (suc (suc (suc (suc (suc (suc (suc zero))))))) = refl
message_none (suc (suc (suc (suc (suc (suc (suc (suc i)))))))) = refl

message_one : (i : ℕ) → (received_messages (until message_run Server i) ≡ []) ⊎ ((received_messages (until message_run Server i) ≡ ping_message ∷ []) × (sent_messages (until message_run Client i) ≡ ping_message ∷ []))
message_one zero = inl refl
message_one (suc zero) = inl refl
message_one (suc (suc zero)) = inl refl
message_one (suc (suc (suc zero))) = inl refl
message_one (suc (suc (suc (suc zero)))) = inl refl
message_one (suc (suc (suc (suc (suc zero))))) = inl refl
message_one (suc (suc (suc (suc (suc (suc zero)))))) = inl refl
message_one (suc (suc (suc (suc (suc (suc (suc zero))))))) = inr (refl, refl)
message_one (suc (suc (suc (suc (suc (suc (suc (suc i)))))))) = inr (refl, refl)

pub message_once : MessagesAtMostOnce message_run
message_once = comes_once message_run (record { back = message_none; there = message_one })

-- ---- a duplicate is taken again

pub twice_shows : MessagesAtMostOnce message_twice → ⊥
twice_shows h = let more : 2 ≤ 1 = h Server 8 ping_message refl in omega (arith, more)

pub twice_is_honest : IsHonest message_twice
twice_is_honest = honest message_twice (record { start = refl; keys = refl; client = (tt, (tt, (tt, (tt, (tt, (tt, (tt, (tt, tt)))))))); server = (tt, (tt, (tt, (tt, (tt, (tt, (tt, (tt, tt)))))))) })

again_no : IsRefused (once_messaged 3) delivers (answers.Deliver receives.Taken)
unfolding once_messaged
again_no (inl e) = cc
again_no (inr e) = cc

pub no_twice : IsNoRun message_twice
no_twice = behind refl step_0 (behind refl step_1 (behind refl step_2 (stops _ _ _ _ _ again_no)))

-- ---- a message is cut

pub cut_shows : MessagesAtMostOnce message_cut → ⊥
cut_shows h = let more : 1 ≤ 0 = h Server 8 (take 3 ping_message) refl in omega (arith, more)

pub cut_is_honest : IsHonest message_cut
cut_is_honest = honest message_cut (record { start = refl; keys = refl; client = (tt, (tt, (tt, (tt, (tt, (tt, (tt, (tt, tt)))))))); server = (tt, (tt, (tt, (tt, (tt, (tt, (tt, (tt, tt)))))))) })

-- how many bytes an answer gives
abbrev size_of : Answer → ℕ
size_of (answers.Recv (Some message)) = length message
size_of a = 0

cut_no : IsRefused nothing_told server_reads (gives_message (take 3 ping_message))
unfolding once_messaged
cut_no e = let size : ◌≡◌ {A = ℕ} 3 4 = ap size_of e in omega (arith, size)

pub no_cut : IsNoRun message_cut
no_cut = behind refl step_0 (behind refl step_1 (behind refl step_2 (behind refl step_3 (behind refl step_4 (behind refl step_5 (stops _ _ _ _ _ cut_no))))))

-- ---- a message is made up

pub made_up_shows : MessagesAtMostOnce message_made_up → ⊥
made_up_shows h = let more : 1 ≤ 0 = h Server 1 ping_message refl in omega (arith, more)

pub made_up_is_honest : IsHonest message_made_up
made_up_is_honest = honest message_made_up (record { start = refl; keys = refl; client = (tt, tt); server = (tt, tt) })

made_up_no : IsRefused started server_reads (gives_message ping_message)
made_up_no e = cc

pub no_made_up : IsNoRun message_made_up
no_made_up = stops _ _ _ _ _ made_up_no

-- ---- an end receives its own message

pub back_shows : MessagesAtMostOnce message_back → ⊥
back_shows h = let more : 1 ≤ 0 = h Client 2 ping_message refl in omega (arith, more)

pub back_is_honest : IsHonest message_back
back_is_honest = honest message_back (record { start = refl; keys = refl; client = (tt, (tt, tt)); server = (tt, (tt, tt)) })

back_no : IsRefused (once_messaged 1) client_reads (gives_message ping_message)
unfolding once_messaged
back_no e = cc

pub no_back : IsNoRun message_back
no_back = behind refl step_0 (stops _ _ _ _ _ back_no)

-- ---- a message goes that was refused

pub refused_shows : MessagesAtMostOnce message_refused → ⊥
refused_shows h = let more : 1 ≤ 0 = h Server 4 long_message refl in omega (arith, more)

pub refused_is_honest : IsHonest message_refused
refused_is_honest = honest message_refused (record { start = refl; keys = refl; client = (tt, (tt, (tt, (tt, tt)))); server = (tt, (tt, (tt, (tt, tt)))) })

refuses : IsStep worked_policies started (sends_message long_message) too_large started
refuses = record { answer = inl refl; end = refl; control = refl; heard = counts_so worked_policies started (sends_message long_message) too_large; openings = tt; others = refl; lacking = λ lacks. cc }

-- how many bytes a poll gave
abbrev pub given_bytes : Answer → ℕ
given_bytes (answers.Poll (Ok (Some t))) = t.size
given_bytes a = 0

refused_no : IsRefused started asks_datagram (gives_bytes 1192)
refused_no (inl e) = let clash : ◌≡◌ {A = ℕ} 1192 222 = ap given_bytes e in omega (arith, clash)
refused_no (inr e) = cc

pub no_refused : IsNoRun message_refused
no_refused = behind refl refuses (stops _ _ _ _ _ refused_no)

-- ---- a message comes late

late_0 : IsStep worked_policies both_steady (sends_message ping_message) is_sent (once_late 1)
unfolding once_late
late_0 = record { answer = inl refl; end = refl; control = refl; heard = counts_so worked_policies both_steady (sends_message ping_message) is_sent; openings = tt; others = refl; lacking = λ lacks. cc }

late_seen_0 : both_seen None None None None ≡ view_of (once_late 1)
unfolding once_late
late_seen_0 = refl

late_1 : IsStep worked_policies (once_late 1) asks_datagram (gives_bytes 228) (once_late 2)
unfolding once_late
late_1 = record { answer = inl refl; end = refl; control = refl; heard = counts_so worked_policies (once_late 1) asks_datagram (gives_bytes 228); openings = tt; others = refl; lacking = tt }

late_seen_1 : both_seen (Some 1024000000) None None None ≡ view_of (once_late 2)
unfolding once_late
late_seen_1 = refl

late_2 : IsStep worked_policies (once_late 2) asks_ping answers.Ping (once_late 3)
unfolding once_late
late_2 = record { answer = refl; end = refl; control = refl; heard = counts_so worked_policies (once_late 2) asks_ping answers.Ping; openings = tt; others = refl; lacking = tt }

late_seen_2 : both_seen (Some 1024000000) None None None ≡ view_of (once_late 3)
unfolding once_late
late_seen_2 = refl

late_3 : IsStep worked_policies (once_late 3) (asks_at Client 100000000) (gives_bytes 29) (once_late 4)
unfolding once_late
late_3 = record { answer = inl refl; end = refl; control = refl; heard = counts_so worked_policies (once_late 3) (asks_at Client 100000000) (gives_bytes 29); openings = tt; others = refl; lacking = tt }

late_seen_3 : both_seen (Some 1124000000) None None None ≡ view_of (once_late 4)
unfolding once_late
late_seen_3 = refl

late_4 : IsStep worked_policies (once_late 4) (comes_to_server 105000000 1) (answers.Deliver receives.Taken) (once_late 5)
unfolding once_late
late_4 = record { answer = inl refl; end = refl; control = refl; heard = counts_so worked_policies (once_late 4) (comes_to_server 105000000 1) (answers.Deliver receives.Taken); openings = tt; others = refl; lacking = tt }

late_seen_4 : both_seen (Some 1124000000) None None (Some 130000000) ≡ view_of (once_late 5)
unfolding once_late
late_seen_4 = refl

late_5 : IsStep worked_policies (once_late 5) server_pings answers.Ping (once_late 6)
unfolding once_late
late_5 = record { answer = refl; end = refl; control = refl; heard = counts_so worked_policies (once_late 5) server_pings answers.Ping; openings = tt; others = refl; lacking = tt }

late_seen_5 : both_seen (Some 1124000000) None None (Some 130000000) ≡ view_of (once_late 6)
unfolding once_late
late_seen_5 = refl

late_6 : IsStep worked_policies (once_late 6) (asks_at Server 105000000) (gives_bytes 228) (once_late 7)
unfolding once_late
late_6 = record { answer = inl refl; end = refl; control = refl; heard = counts_so worked_policies (once_late 6) (asks_at Server 105000000) (gives_bytes 228); openings = tt; others = refl; lacking = tt }

late_seen_6 : both_seen (Some 1124000000) None (Some 1129000000) None ≡ view_of (once_late 7)
unfolding once_late
late_seen_6 = refl

late_7 : IsStep worked_policies (once_late 7) (comes_at Client 110000000) (answers.Deliver receives.Taken) (once_late 8)
unfolding once_late
late_7 = record { answer = inl refl; end = refl; control = refl; heard = counts_so worked_policies (once_late 7) (comes_at Client 110000000) (answers.Deliver receives.Taken); openings = tt; others = refl; lacking = tt }

late_seen_7 : both_seen None (Some 135000000) (Some 1129000000) None ≡ view_of (once_late 8)
unfolding once_late
late_seen_7 = refl

late_8 : IsStep worked_policies (once_late 8) (comes_to_server 115000000 0) (answers.Deliver receives.Taken) late_taken
unfolding late_taken
late_8 = record { answer = inl refl; end = refl; control = refl; heard = counts_so worked_policies (once_late 8) (comes_to_server 115000000 0) (answers.Deliver receives.Taken); openings = tt; others = refl; lacking = tt }

late_seen_8 : both_seen None (Some 135000000) (Some 1129000000) None ≡ view_of late_taken
unfolding late_taken
late_seen_8 = refl

answer_late_9 : gives_message ping_message ≡ answers.Recv (oldest late_taken.server.messages.queues.incoming)
unfolding late_taken
answer_late_9 = refl

late_9 : IsStep worked_policies late_taken server_reads (gives_message ping_message) late_read
late_9 = record { answer = answer_late_9; end = refl; control = refl; heard = counts_so worked_policies late_taken server_reads (gives_message ping_message); openings = tt; others = refl; lacking = tt }

late_seen_9 : both_seen None (Some 135000000) (Some 1129000000) None ≡ view_of late_read
unfolding late_taken
late_seen_9 = refl

answer_late_10 : gives_none ≡ answers.Recv (oldest late_read.server.messages.queues.incoming)
unfolding late_taken
answer_late_10 = refl

late_10 : IsStep worked_policies late_read server_reads gives_none late_end
late_10 = record { answer = answer_late_10; end = refl; control = refl; heard = counts_so worked_policies late_read server_reads gives_none; openings = tt; others = refl; lacking = tt }

late_seen_10 : both_seen None (Some 135000000) (Some 1129000000) None ≡ view_of late_end
unfolding late_taken
late_seen_10 = refl

late_follows : Follows late_run.keys late_run.start late_run.events late_run.answers late_run.views late_end
late_follows = (once_late 1, late_0, late_seen_0, (once_late 2, late_1, late_seen_1, (once_late 3, late_2, late_seen_2, (once_late 4, late_3, late_seen_3, (once_late 5, late_4, late_seen_4, (once_late 6, late_5, late_seen_5, (once_late 7, late_6, late_seen_6, (once_late 8, late_7, late_seen_7, (late_taken, late_8, late_seen_8, (late_read, late_9, late_seen_9, (late_end, late_10, late_seen_10, refl)))))))))))

gave_late : late_run.from_client ≡ late_end.from_client
unfolding late_taken
gave_late = refl

gave_named : late_run.from_server ≡ late_end.from_server
unfolding late_taken
gave_named = refl

pub late_is_run : IsRun late_run late_end
late_is_run = record { codes = no_codes late_run.events refl; follows = late_follows; from_client = gave_late; from_server = gave_named }

pub late_is_honest : IsHonest late_run
late_is_honest = honest_steady late_run (record { start = refl; keys = refl; client = (tt, (tt, (tt, (tt, (tt, (tt, (tt, (tt, (tt, (tt, (tt, tt))))))))))); server = (tt, (tt, (tt, (tt, (tt, (tt, (tt, (tt, (tt, (tt, (tt, tt))))))))))) })

late_none : (i : ℕ) → received_messages (until late_run Client i) ≡ []
late_none zero = refl
late_none (suc zero) = refl
late_none (suc (suc zero)) = refl
late_none (suc (suc (suc zero))) = refl
late_none (suc (suc (suc (suc zero)))) = refl
late_none (suc (suc (suc (suc (suc zero))))) = refl
late_none (suc (suc (suc (suc (suc (suc zero)))))) = refl
late_none (suc (suc (suc (suc (suc (suc (suc zero))))))) = refl
late_none (suc (suc (suc (suc (suc (suc (suc (suc zero)))))))) = refl
late_none (suc (suc (suc (suc (suc (suc (suc (suc (suc zero))))))))) = refl
late_none (suc (suc (suc (suc (suc (suc (suc (suc (suc (suc zero)))))))))) = refl
late_none (suc (suc (suc (suc (suc (suc (suc (suc (suc (suc (suc i))))))))))) = refl

late_one : (i : ℕ) → (received_messages (until late_run Server i) ≡ []) ⊎ ((received_messages (until late_run Server i) ≡ ping_message ∷ []) × (sent_messages (until late_run Client i) ≡ ping_message ∷ []))
late_one zero = inl refl
late_one (suc zero) = inl refl
late_one (suc (suc zero)) = inl refl
late_one (suc (suc (suc zero))) = inl refl
late_one (suc (suc (suc (suc zero)))) = inl refl
late_one (suc (suc (suc (suc (suc zero))))) = inl refl
late_one (suc (suc (suc (suc (suc (suc zero)))))) = inl refl
late_one (suc (suc (suc (suc (suc (suc (suc zero))))))) = inl refl
late_one (suc (suc (suc (suc (suc (suc (suc (suc zero)))))))) = inl refl
late_one (suc (suc (suc (suc (suc (suc (suc (suc (suc zero))))))))) = inl refl
late_one (suc (suc (suc (suc (suc (suc (suc (suc (suc (suc zero)))))))))) = inr (refl, refl)
late_one (suc (suc (suc (suc (suc (suc (suc (suc (suc (suc (suc i))))))))))) = inr (refl, refl)

pub late_once : MessagesAtMostOnce late_run
late_once = comes_once late_run (record { back = late_none; there = late_one })

-- nothing is waited for where the datagram is lost
pub none_waits : (once_late 8).client.tracking.packets ≡ []
unfolding once_late
none_waits = refl

pub none_goes : (draft_at (once_late 8).client 110000000).bytes ≡ told_ids ack_at_once
unfolding once_late
none_goes = refl

-- ---- a lost message goes again

pub again_shows : MessagesAtMostOnce message_again → ⊥
again_shows h = let more : 2 ≤ 1 = h Server 13 ping_message refl in omega (arith, more)

pub again_is_honest : IsHonest message_again
again_is_honest = honest_steady message_again (record { start = refl; keys = refl; client = (tt, (tt, (tt, (tt, (tt, (tt, (tt, (tt, (tt, (tt, (tt, (tt, (tt, tt))))))))))))); server = (tt, (tt, (tt, (tt, (tt, (tt, (tt, (tt, (tt, (tt, (tt, (tt, (tt, tt))))))))))))) })

again_goes_no : IsRefused (once_late 8) (asks_at Client 110000000) (gives_bytes 32)
unfolding once_late
again_goes_no (inl e) = let clash : ◌≡◌ {A = ℕ} 32 227 = ap given_bytes e in omega (arith, clash)
again_goes_no (inr e) = cc

pub no_again : IsNoRun message_again
no_again = behind refl late_0 (behind refl late_1 (behind refl late_2 (behind refl late_3 (behind refl late_4 (behind refl late_5 (behind refl late_6 (behind refl late_7 (stops _ _ _ _ _ again_goes_no))))))))

-- ---- two messages that wait

two_0 : IsStep worked_policies started (sends_message ping_message) is_sent (once_two 1)
unfolding once_two
two_0 = record { answer = inl refl; end = refl; control = refl; heard = counts_so worked_policies started (sends_message ping_message) is_sent; openings = tt; others = refl; lacking = λ lacks. cc }

two_1 : IsStep worked_policies (once_two 1) (sends_message pong_message) is_sent (once_two 2)
unfolding once_two
two_1 = record { answer = inl refl; end = refl; control = refl; heard = counts_so worked_policies (once_two 1) (sends_message pong_message) is_sent; openings = tt; others = refl; lacking = λ lacks. cc }

two_2 : IsStep worked_policies (once_two 2) asks_datagram (gives_bytes 234) (once_two 3)
unfolding once_two
two_2 = record { answer = inl refl; end = refl; control = refl; heard = counts_so worked_policies (once_two 2) asks_datagram (gives_bytes 234); openings = tt; others = refl; lacking = tt }

two_seen_0 : seen_with None None ≡ view_of (once_two 1)
unfolding once_two
two_seen_0 = refl

two_seen_1 : seen_with None None ≡ view_of (once_two 2)
unfolding once_two
two_seen_1 = refl

two_seen_2 : seen_with (Some 1024000000) None ≡ view_of (once_two 3)
unfolding once_two
two_seen_2 = refl

two_gave : (two_run ping_message pong_message).from_client ≡ (once_two 3).from_client
unfolding once_two
two_gave = refl

two_gave_none : [] ≡ (once_two 3).from_server
unfolding once_two
two_gave_none = refl

pub two_is_run : IsRun (two_run ping_message pong_message) (once_two 3)
two_is_run = record { codes = no_codes two_events refl; follows = (once_two 1, two_0, two_seen_0, (once_two 2, two_1, two_seen_1, (once_two 3, two_2, two_seen_2, refl))); from_client = two_gave; from_server = two_gave_none }

pub two_is_honest : IsHonest (two_run ping_message pong_message)
two_is_honest = honest (two_run ping_message pong_message) (record { start = refl; keys = refl; client = (tt, (tt, (tt, tt))); server = (tt, (tt, (tt, tt))) })

pub both_wait : waiting_messages (two_run ping_message pong_message) Client 2 ≡ ping_message ∷ pong_message ∷ []
unfolding client_acked
both_wait = refl

pub both_went : sents_until (two_run ping_message pong_message) Client 3 ≡ two_sent ping_message pong_message ∷ []
unfolding client_acked
both_went = refl

pub none_left : waiting_messages (two_run ping_message pong_message) Client 3 ≡ []
unfolding client_acked
none_left = refl

-- the later one goes first
turned_wait : waiting_messages (two_run pong_message ping_message) Client 2 ≡ ping_message ∷ pong_message ∷ []
unfolding client_acked
turned_wait = refl

turned_went : sents_until (two_run pong_message ping_message) Client 3 ≡ sents_until (two_run pong_message ping_message) Client 2 ++ two_sent pong_message ping_message ∷ []
unfolding client_acked
turned_went = refl

-- the second byte of the first message
abbrev second_byte : List (List ℕ) → ℕ
second_byte [] = 0
second_byte (m ∷ ms) = slice_index m 1

pub turned_wrong : MessagesGoInOrder (two_run pong_message ping_message) → ⊥
turned_wrong h =
    let order = h Client 2 0 (record { size = 234; ecn = Some Ect0; remote = 0 }) (two_sent pong_message ping_message) refl (record { event = refl; answer = refl }) turned_went in
    let clash : ◌≡◌ {A = ℕ} 111 105 = ap second_byte (order ∙ turned_wait) in
    omega (arith, clash)

pub turned_is_honest : IsHonest (two_run pong_message ping_message)
turned_is_honest = honest (two_run pong_message ping_message) (record { start = refl; keys = refl; client = (tt, (tt, (tt, tt))); server = (tt, (tt, (tt, tt))) })

-- that byte as it goes in the first datagram
abbrev message_byte : List (List ℕ) → ℕ
message_byte [] = 0
message_byte (d ∷ ds) = slice_index d 209

right_byte : message_byte (once_two 3).from_client ≡ 105
unfolding once_two
right_byte = refl

other_order : (two_run pong_message ping_message).from_client ≡ (once_two 3).from_client → ⊥
other_order e = let clash : ◌≡◌ {A = ℕ} 111 105 = ap message_byte e ∙ right_byte in omega (arith, clash)

not_turned : NeverEnds (λ w. (two_run pong_message ping_message).from_client ≡ w.from_client) started two_events two_answers
not_turned = step_on refl two_0 (step_on refl two_1 (step_on refl two_2 (ends_here other_order)))

pub turned_is_none : NeverGives (two_run pong_message ping_message)
turned_is_none views end is = not_turned.never views end is.follows is.from_client
