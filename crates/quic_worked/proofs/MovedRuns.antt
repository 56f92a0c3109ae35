-- The runs in which a server follows its peer there and back, and where it knows no other id,
-- event by event; and machines that keep what was of the old path.
use Rattle.std.proofs.Common.{◌≡◌, ◌+◌, ◌≤◌, ◌<◌, ◌⊎◌, ℕ, true, false, List, [], ◌∷◌, length, replicate, Option, Some, None, Ok, refl, inl, inr, ap, ◌∙◌, subst, arith, lit<}
use Rattle.std.specs.Prelude.{◌*◌}
use Rattle.quic_time.specs.Clocks.{saturated}
use Rattle.quic_wire_core.specs.declared.stream_id.Dir.TheVariants.{Bi}
use Rattle.quic_wire_core.specs.declared.stream_id.Side.{Side}
use Rattle.quic_wire_core.specs.declared.stream_id.Side.TheVariants.{Client, Server}
use Rattle.quic_wire.specs.Value.{StreamValue, stream}
use Rattle.quic_machine.specs.declared.answers.Received.TheVariants as receives
use Rattle.quic_machine.specs.declared.run.RunEvent.{RunEvent}
use Rattle.quic_machine.specs.declared.run.Answer.TheVariants as answers
use Rattle.quic_machine.specs.declared.run.View.{View}
use Rattle.quic_machine.specs.declared.run.Call.TheVariants as calls
use Rattle.quic_machine.specs.Start.{AreStarted}
use Rattle.quic_machine.specs.Machine.{IsStep, Follows, view_of}
use Rattle.quic_headline.specs.Runs.{In}
use Rattle.quic_headline.specs.Observer.{Sent, HoldsOffset, watch, news, sents_until, peer_address, generation_at, path_changes, acked_until}
use Rattle.quic_headline.specs.Allowance.{bytes_handed, bytes_given}
use Rattle.quic_headline.specs.InUse.{in_use, next_id}
use Rattle.quic_headline.specs.Headline.{IsHonest, IsRun}
use Rattle.quic_headline.specs.Polls.{seen_at, flying, bytes_flying, IsByteToGo, IsFull, IsPaced, IsLimited, PollsSendWhatWaits}
use Rattle.quic_headline.specs.Spread.{named_at, PacerIsOfHistory}
use Rattle.quic_headline.specs.Validated.{asking, ValidatedByAnswer}
use Rattle.quic_worked.specs.Worked.{worked_policies, asks_datagram, gives_bytes, open_view, sent_view, view_within}
use Rattle.quic_worked.specs.Acknowledged.{client_acked}
use Rattle.quic_worked.specs.Broken.{IsNoRun}
use Rattle.quic_worked.specs.Losses.{asks_ping}
use Rattle.quic_worked.specs.Paired.{asks_server}
use Rattle.quic_worked.specs.Held.{gives_nothing}
use Rattle.quic_worked.specs.Unvalidated.{response_packet, other_word}
use Rattle.quic_worked.specs.Migrated.{comes_from, injects_from, no_fixed_bit}
use Rattle.quic_worked.specs.Moved.{once_twice, twice_sent, twice_run, once_kept, kept_sent, kept_run, narrow_ends, full_events, full_answers, once_full, full_frame, full_sent, full_view, full_run, keeps_old_flight, keeps_old_pacer, old_answer_validates}
use Rattle.quic_worked.proofs.Rows.{Rows, rows_follow}
use Rattle.quic_worked.proofs.Codes.{no_codes}
use Rattle.quic_worked.proofs.OwnIds.{AreOwn, own_ids, honest_steady}
use Rattle.quic_worked.proofs.BrokenRuns.{IsRefused, behind, stops}
use Rattle.quic_worked.proofs.WorkedKeys.{are_keys}
use Rattle.quic_worked.proofs.WorkedHonest.{steady_started}
use Rattle.quic_worked.proofs.AnsweredRun.{wrong_answer}
use Rattle.quic_worked.proofs.UnvalidatedRun.{far_started}
use Rattle.quic_worked.proofs.Steps.{StepsSo, steps_at}

-- ---- to another address and back

twice_rows : Rows twice_run.keys twice_run.start twice_run.events twice_run.answers twice_run.views
unfolding client_acked
twice_rows = ((refl, tt, tt, refl, refl), ((inl refl, tt, tt, refl, refl), ((inl refl, tt, tt, refl, refl), ((refl, tt, tt, refl, refl), ((inl refl, tt, tt, refl, refl), ((inl refl, tt, tt, refl, refl), ((refl, tt, tt, refl, refl), ((inl refl, tt, tt, refl, refl), ((inl refl, tt, tt, refl, refl), ((refl, tt, tt, refl, refl), ((inl refl, tt, tt, refl, refl), ((refl, tt, tt, refl, refl), ((inl refl, tt, tt, refl, refl), tt)))))))))))))

twice_follows : Follows twice_run.keys twice_run.start twice_run.events twice_run.answers twice_run.views (once_twice 13)
unfolding client_acked
twice_follows = rows_follow twice_run.keys twice_run.start twice_run.events twice_run.answers twice_run.views twice_rows

twice_gave_three : twice_run.from_client ≡ (once_twice 13).from_client
unfolding client_acked
twice_gave_three = refl

twice_gave_one : twice_run.from_server ≡ (once_twice 13).from_server
unfolding client_acked
twice_gave_one = refl

pub twice_is_run : IsRun twice_run (once_twice 13)
twice_is_run = record { codes = no_codes twice_run.events refl; follows = twice_follows; from_client = twice_gave_three; from_server = twice_gave_one }

pub twice_is_honest : IsHonest twice_run
twice_is_honest = honest_steady twice_run (record { start = refl; keys = refl; client = (tt, (tt, (tt, (tt, (tt, (tt, (tt, (tt, (tt, (tt, (tt, (tt, (tt, tt))))))))))))); server = (tt, (tt, (tt, (tt, (tt, (tt, (tt, (tt, (tt, (tt, (tt, (tt, (tt, tt))))))))))))) })

pub twice_there : peer_address twice_run Server 6 ≡ 9
unfolding client_acked
twice_there = refl

pub twice_back : peer_address twice_run Server 9 ≡ 0
unfolding client_acked
twice_back = refl

pub third_path : generation_at twice_run Server 9 ≡ 2
unfolding client_acked
third_path = refl

pub twice_invalid : (seen_at twice_run Server 9).validated ≡ false
twice_invalid = refl

pub twice_handed : bytes_handed twice_run Server 9 ≡ 29
unfolding client_acked
twice_handed = refl

pub twice_used : in_use twice_run (λ n. false) Server 9 ≡ 2
unfolding client_acked
twice_used = refl

pub twice_went : sents_until twice_run Server 13 ≡ twice_sent ∷ []
unfolding client_acked
twice_went = refl

-- ---- no other id is known

kept_rows : Rows kept_run.keys kept_run.start kept_run.events kept_run.answers kept_run.views
unfolding client_acked
kept_rows = ((refl, tt, tt, refl, refl), ((inl refl, tt, tt, refl, refl), ((refl, tt, tt, refl, refl), ((inl refl, tt, tt, refl, refl), ((inl refl, tt, tt, refl, refl), ((refl, tt, tt, refl, refl), ((inl refl, tt, tt, refl, refl), tt)))))))

kept_follows : Follows kept_run.keys kept_run.start kept_run.events kept_run.answers kept_run.views (once_kept 7)
unfolding client_acked
kept_follows = rows_follow kept_run.keys kept_run.start kept_run.events kept_run.answers kept_run.views kept_rows

kept_gave_two : kept_run.from_client ≡ (once_kept 7).from_client
unfolding client_acked
kept_gave_two = refl

kept_gave_one : kept_run.from_server ≡ (once_kept 7).from_server
unfolding client_acked
kept_gave_one = refl

pub kept_is_run : IsRun kept_run (once_kept 7)
kept_is_run = record { codes = no_codes kept_run.events refl; follows = kept_follows; from_client = kept_gave_two; from_server = kept_gave_one }

pub kept_is_honest : IsHonest kept_run
kept_is_honest = honest_steady kept_run (record { start = refl; keys = refl; client = (tt, (tt, (tt, (tt, (tt, (tt, (tt, tt))))))); server = (tt, (tt, (tt, (tt, (tt, (tt, (tt, tt))))))) })

pub kept_changes : path_changes kept_run Server 4 ≡ true
unfolding client_acked
kept_changes = refl

pub none_next : next_id kept_run (λ n. true) Server 5 ≡ None
unfolding client_acked
none_next = refl

pub kept_used : in_use kept_run (λ n. true) Server 7 ≡ 0
unfolding client_acked
kept_used = refl

pub kept_went : sents_until kept_run Server 7 ≡ kept_sent ∷ []
unfolding client_acked
kept_went = refl

-- ---- the window is full at the old address

abbrev opens_one : RunEvent
opens_one = record { side = Server; call = calls.Open Bi }

abbrev writes_one : RunEvent
writes_one = record { side = Server; call = calls.Write 1 (replicate 1000 0x61) }

narrow_started : AreStarted narrow_ends
narrow_started = record {
  client_making = steady_started.client_making;
  server_making = steady_started.server_making;
  client_is = steady_started.client_is;
  server_is = steady_started.server_is;
  client = steady_started.client;
  server = steady_started.server;
  client_gave = refl;
  server_gave = refl;
  client_heard = refl;
  server_heard = refl;
}

full_own : (paced : Option ℕ) (side : Side) → AreOwn side [] (full_run paced).events (full_run paced).answers (full_run paced).views
full_own paced Client = (tt, (tt, (tt, (tt, (tt, (tt, (tt, (tt, tt))))))))
full_own paced Server = (tt, (inl refl, (tt, (tt, (tt, (tt, (tt, (tt, tt))))))))

pub full_is_honest : (paced : Option ℕ) → IsHonest (full_run paced)
full_is_honest paced = record { start = narrow_started; keys = are_keys; ids = own_ids (full_run paced) (full_own paced) }

full_0 : IsStep worked_policies (once_full 0) opens_one (answers.Open (Some 1)) (once_full 1)
unfolding client_acked
full_0 =
    let s : StepsSo worked_policies (once_full 0) opens_one (answers.Open (Some 1)) (once_full 1) = steps_at worked_policies narrow_ends full_events (full_answers gives_nothing) 0 opens_one (answers.Open (Some 1)) _ _ refl refl refl in
    record { answer = refl; end = s.end; control = s.control; heard = s.heard; openings = tt; others = s.others; lacking = tt }

full_seen_0 : record { client = open_view; server = view_within 2400 None None } ≡ view_of (once_full 1)
unfolding client_acked
full_seen_0 = refl

full_1 : IsStep worked_policies (once_full 1) writes_one (answers.Write (Ok 1000)) (once_full 2)
unfolding client_acked
full_1 =
    let s : StepsSo worked_policies (once_full 1) writes_one (answers.Write (Ok 1000)) (once_full 2) = steps_at worked_policies narrow_ends full_events (full_answers gives_nothing) 1 writes_one (answers.Write (Ok 1000)) _ _ refl refl refl in
    record { answer = inl refl; end = s.end; control = s.control; heard = s.heard; openings = tt; others = s.others; lacking = λ lacks. cc }

full_seen_1 : record { client = open_view; server = view_within 2400 None None } ≡ view_of (once_full 2)
unfolding client_acked
full_seen_1 = refl

full_2 : IsStep worked_policies (once_full 2) asks_server (gives_bytes 1200) (once_full 3)
unfolding client_acked
full_2 =
    let s : StepsSo worked_policies (once_full 2) asks_server (gives_bytes 1200) (once_full 3) = steps_at worked_policies narrow_ends full_events (full_answers gives_nothing) 2 asks_server (gives_bytes 1200) _ _ refl refl refl in
    record { answer = inl refl; end = s.end; control = s.control; heard = s.heard; openings = tt; others = s.others; lacking = tt }

full_seen_2 : record { client = open_view; server = view_within 2400 (Some 1024000000) None } ≡ view_of (once_full 3)
unfolding client_acked
full_seen_2 = refl

full_3 : IsStep worked_policies (once_full 3) asks_ping answers.Ping (once_full 4)
unfolding client_acked
full_3 =
    let s : StepsSo worked_policies (once_full 3) asks_ping answers.Ping (once_full 4) = steps_at worked_policies narrow_ends full_events (full_answers gives_nothing) 3 asks_ping answers.Ping _ _ refl refl refl in
    record { answer = refl; end = s.end; control = s.control; heard = s.heard; openings = tt; others = s.others; lacking = tt }

full_seen_3 : record { client = open_view; server = view_within 2400 (Some 1024000000) None } ≡ view_of (once_full 4)
unfolding client_acked
full_seen_3 = refl

full_4 : IsStep worked_policies (once_full 4) asks_datagram (gives_bytes 223) (once_full 5)
unfolding client_acked
full_4 =
    let s : StepsSo worked_policies (once_full 4) asks_datagram (gives_bytes 223) (once_full 5) = steps_at worked_policies narrow_ends full_events (full_answers gives_nothing) 4 asks_datagram (gives_bytes 223) _ _ refl refl refl in
    record { answer = inl refl; end = s.end; control = s.control; heard = s.heard; openings = tt; others = s.others; lacking = tt }

full_seen_4 : record { client = sent_view; server = view_within 2400 (Some 1024000000) None } ≡ view_of (once_full 5)
unfolding client_acked
full_seen_4 = refl

full_5 : IsStep worked_policies (once_full 5) (comes_from 9 0) (answers.Deliver receives.Taken) (once_full 6)
unfolding client_acked
full_5 =
    let s : StepsSo worked_policies (once_full 5) (comes_from 9 0) (answers.Deliver receives.Taken) (once_full 6) = steps_at worked_policies narrow_ends full_events (full_answers gives_nothing) 5 (comes_from 9 0) (answers.Deliver receives.Taken) _ _ refl refl refl in
    record { answer = inl refl; end = s.end; control = s.control; heard = s.heard; openings = tt; others = s.others; lacking = tt }

full_seen_5 : record { client = sent_view; server = full_view None } ≡ view_of (once_full 6)
unfolding client_acked
full_seen_5 = refl

full_6 : IsStep worked_policies (once_full 6) (injects_from Server 9 (replicate 400 0x00)) no_fixed_bit (once_full 7)
unfolding client_acked
full_6 =
    let s : StepsSo worked_policies (once_full 6) (injects_from Server 9 (replicate 400 0x00)) no_fixed_bit (once_full 7) = steps_at worked_policies narrow_ends full_events (full_answers gives_nothing) 6 (injects_from Server 9 (replicate 400 0x00)) no_fixed_bit _ _ refl refl refl in
    record { answer = refl; end = s.end; control = s.control; heard = s.heard; openings = tt; others = s.others; lacking = tt }

full_seen_6 : record { client = sent_view; server = full_view None } ≡ view_of (once_full 7)
unfolding client_acked
full_seen_6 = refl

full_no : IsRefused (once_full 7) asks_server gives_nothing
unfolding client_acked
full_no (inl e) = cc
full_no (inr e) = cc

pub full_is_none : (paced : Option ℕ) → IsNoRun (full_run paced)
full_is_none paced = behind refl full_0 (behind refl full_1 (behind refl full_2 (behind refl full_3 (behind refl full_4 (behind refl full_5 (behind refl full_6 (stops _ _ _ _ _ full_no)))))))

-- what flies there, on the first path
all_flying : (paced : Option ℕ) → flying (full_run paced) Server 8 ≡ full_sent ∷ []
unfolding client_acked
all_flying paced = refl

none_acked : (paced : Option ℕ) → acked_until (full_run paced) Server 8 ≡ []
unfolding client_acked
none_acked paced = refl

none_counts : (paced : Option ℕ) → bytes_flying (full_run paced) Server 8 ≡ 0
unfolding client_acked
none_counts paced = refl

much_came : (paced : Option ℕ) → bytes_handed (full_run paced) Server 8 ≡ 623
unfolding client_acked
much_came paced = refl

none_gone : (paced : Option ℕ) → bytes_given (full_run paced) Server 8 ≡ 0
unfolding client_acked
none_gone paced = refl

-- the 977th byte isn't there
not_held : HoldsOffset (full_sent ∷ []) 1 976 → ⊥
not_held h = go h.sent h.among h.carried
  where
    low : stream h.frame ≡ stream full_frame → ⊥
    low e = let same : h.frame ≡ full_frame = cc in let below : 976 < 0 + 976 = subst (λ (f : StreamValue). 976 < f.offset + length f.bytes) same h.below in omega (arith, below)

    in_it : In (stream h.frame) full_sent.frames → ⊥
    in_it (inl e) = cc
    in_it (inr (inl e)) = cc
    in_it (inr (inr (inl e))) = cc
    in_it (inr (inr (inr (inl e)))) = cc
    in_it (inr (inr (inr (inr (inl e))))) = cc
    in_it (inr (inr (inr (inr (inr (inl e)))))) = cc
    in_it (inr (inr (inr (inr (inr (inr (inl e))))))) = cc
    in_it (inr (inr (inr (inr (inr (inr (inr (inl e)))))))) = low e
    in_it (inr (inr (inr (inr (inr (inr (inr (inr none)))))))) = none

    go : (s : Sent) → In s (full_sent ∷ []) → In (stream h.frame) s.frames → ⊥
    go s (inl is) carried = in_it (subst (λ (x : Sent). In (stream h.frame) x.frames) is carried)
    go s (inr none) carried = none

byte_waits : (paced : Option ℕ) → IsByteToGo (full_run paced) Server 8 1 976
byte_waits paced = record {
  written = lit< tt;
  kept = refl;
  not_flying = λ h. not_held (subst (λ (ss : List Sent). HoldsOffset ss 1 976) (all_flying paced) h);
  not_acked = λ h. absurd (subst (λ (ss : List Sent). HoldsOffset ss 1 976) (none_acked paced) h).among;
}

abbrev last_view : Option ℕ → View
last_view paced = record { client = sent_view; server = full_view paced }

not_full : (paced : Option ℕ) → IsFull (full_run paced) Server 8 (last_view paced) → ⊥
not_full paced f =
    let most : 2400 ≤ bytes_flying (full_run paced) Server 8 + 1200 = f in
    let none = none_counts paced in
    omega (arith, most, none)

not_limited : (paced : Option ℕ) → IsLimited (full_run paced) Server 8 (last_view paced) → ⊥
not_limited paced l =
    let over : 1869 < 1200 = subst (λ (n : ℕ). saturated (3 * n) < 0 + 1200) (much_came paced) (subst (λ (n : ℕ). saturated (3 * bytes_handed (full_run paced) Server 8) < n + 1200) (none_gone paced) l.full) in
    omega (arith, over)

not_paced : IsPaced keeps_old_flight Server 8 (last_view None) → ⊥
not_paced p = let shown : ◌≡◌ {A = Option (Option ℕ)} (Some None) (Some (Some p.moment)) = p.shown in cc

pub flight_wrong : PollsSendWhatWaits keeps_old_flight → ⊥
flight_wrong h = go (h Server 7 0 1 (last_view None) refl (record { poll = record { event = refl; answer = refl }; shown = refl; opened = refl }) (inl (976, byte_waits None)))
  where
    go : (IsFull keeps_old_flight Server 8 (last_view None) ⊎ IsPaced keeps_old_flight Server 8 (last_view None)) ⊎ IsLimited keeps_old_flight Server 8 (last_view None) → ⊥
    go (inl (inl full)) = not_full None full
    go (inl (inr paced)) = not_paced paced
    go (inr limited) = not_limited None limited

-- ---- its pacer is one of its own

named_none : named_at keeps_old_pacer Server 7 0 ≡ None
unfolding client_acked
named_none = refl

pub pacer_wrong : PacerIsOfHistory keeps_old_pacer → ⊥
pacer_wrong h = go (h Server 7 (calls.Poll 0) gives_nothing (last_view (Some 1000000)) refl (record { event = refl; answer = refl }) refl refl tt).sets
  where
    go : (◌≡◌ {A = Option (Option ℕ)} (Some (Some 1000000)) (Some None)) ⊎ (◌≡◌ {A = Option (Option ℕ)} (Some (Some 1000000)) (Some (named_at keeps_old_pacer Server 7 0))) → ⊥
    go (inl e) = cc
    go (inr e) = let clash : ◌≡◌ {A = Option (Option ℕ)} (Some (Some 1000000)) (Some None) = e ∙ ap (λ (o : Option ℕ). Some o) named_none in cc

-- ---- the answer to what was asked at the old address

late_came : news (watch old_answer_validates Server 12).intake (watch old_answer_validates Server 13).intake ≡ response_packet ∷ []
unfolding client_acked
late_came = refl

late_asked : (asking old_answer_validates Server 12).latest ≡ Some other_word
unfolding client_acked
late_asked = refl

not_renewed : (asking old_answer_validates Server 12).renewed ≡ false
unfolding client_acked
not_renewed = refl

late_stays : path_changes old_answer_validates Server 12 ≡ false
unfolding client_acked
late_stays = refl

pub late_wrong : ValidatedByAnswer old_answer_validates → ⊥
late_wrong h = wrong_answer old_answer_validates 12 late_came late_asked not_renewed late_stays (h Server 12 refl refl refl refl)

late_own : (side : Side) → AreOwn side [] old_answer_validates.events old_answer_validates.answers old_answer_validates.views
late_own Client = (tt, (inl refl, (tt, (tt, (tt, (tt, (tt, (tt, (tt, (tt, (tt, (tt, (tt, tt)))))))))))))
late_own Server = (tt, (tt, (tt, (tt, (tt, (tt, (tt, (tt, (tt, (tt, (tt, (tt, (tt, tt)))))))))))))

pub late_is_honest : IsHonest old_answer_validates
late_is_honest = record { start = far_started; keys = are_keys; ids = own_ids old_answer_validates late_own }
