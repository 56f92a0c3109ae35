-- The runs in which datagrams come from elsewhere though no peer moved, event by event, and
-- machines that go wrong there.
use Rattle.std.proofs.Common.{◌≡◌, ℕ, Bool, true, false, List, [], ◌∷◌, replicate, Option, Some, None, refl, inl, inr, sym, ap, ◌∙◌, subst, lit≤}
use Rattle.std.specs.Prelude.{slice_get}
use Rattle.quic_wire_core.specs.declared.stream_id.Side.{Side}
use Rattle.quic_wire_core.specs.declared.stream_id.Side.TheVariants.{Client, Server}
use Rattle.quic_machine.specs.declared.answers.Received.TheVariants as receives
use Rattle.quic_machine.specs.declared.answers.DropReason.TheVariants as drops
use Rattle.quic_machine.specs.declared.run.Answer.TheVariants as answers
use Rattle.quic_machine.specs.declared.run.View.{View}
use Rattle.quic_machine.specs.End.{IsMade}
use Rattle.quic_machine.specs.Start.{AreStarted}
use Rattle.quic_machine.specs.Machine.{IsStep, Follows, view_of}
use Rattle.quic_machine.specs.RunLaws.{one_run}
use Rattle.quic_headline.specs.Observer.{watch, news, peer_address, path_changes}
use Rattle.quic_headline.specs.Headline.{IsHonest, IsRun, takes_nothing_from}
use Rattle.quic_headline.specs.Moves.{PathChangesExactly, DropsOtherAddresses, delivered}
use Rattle.quic_headline.specs.Polls.{seen_at}
use Rattle.quic_worked.specs.Settings.{plain_settings}
use Rattle.quic_worked.specs.Worked.{steady, worked_policies, both_steady, client_id, server_id, asks_datagram, gives_bytes, open_view, sent_view, waiting_view}
use Rattle.quic_worked.specs.Acknowledged.{client_acked}
use Rattle.quic_worked.specs.Broken.{IsNoRun}
use Rattle.quic_worked.specs.Losses.{asks_ping}
use Rattle.quic_worked.specs.Paired.{asks_server, client_hears}
use Rattle.quic_worked.specs.Reordered.{delivers_at}
use Rattle.quic_worked.specs.Timed.{NeverShows}
use Rattle.quic_worked.specs.Unvalidated.{far_view}
use Rattle.quic_worked.specs.Migrated.{comes_from, injects_from, no_fixed_bit}
use Rattle.quic_worked.specs.Strayed.{client_hears_from, foreign_events, foreign_answers, other_address, once_foreign, foreign_run, client_follows, strayed_events, strayed_answers, once_strayed, strayed_run, migrates_back, far_client, probing_events, probing_answers, once_probing, probing_packet, probing_run, migrates_for_a_probe}
use Rattle.quic_worked.proofs.Codes.{no_codes}
use Rattle.quic_worked.proofs.OwnIds.{AreOwn, own_ids, honest_steady}
use Rattle.quic_worked.proofs.BrokenRuns.{IsRefused, behind, stops}
use Rattle.quic_worked.proofs.WorkedKeys.{are_keys}
use Rattle.quic_worked.proofs.WorkedHonest.{in_range, making}
use Rattle.quic_worked.proofs.WorkedRun.{parameters_say, steady_is_made}
use Rattle.quic_worked.proofs.Steps.{StepsSo, steps_at}

-- ---- a client takes nothing from elsewhere

away_0 : IsStep worked_policies (once_foreign 0) asks_server (gives_bytes 222) (once_foreign 1)
unfolding client_acked
away_0 =
    let s : StepsSo worked_policies (once_foreign 0) asks_server (gives_bytes 222) (once_foreign 1) = steps_at worked_policies both_steady foreign_events (foreign_answers other_address) 0 asks_server (gives_bytes 222) _ _ refl refl refl in
    record { answer = inl refl; end = s.end; control = s.control; heard = s.heard; openings = tt; others = s.others; lacking = tt }

away_seen_0 : record { client = open_view; server = sent_view } ≡ view_of (once_foreign 1)
unfolding client_acked
away_seen_0 = refl

away_1 : IsStep worked_policies (once_foreign 1) (client_hears_from 5) other_address (once_foreign 2)
unfolding client_acked
away_1 =
    let s : StepsSo worked_policies (once_foreign 1) (client_hears_from 5) other_address (once_foreign 2) = steps_at worked_policies both_steady foreign_events (foreign_answers other_address) 1 (client_hears_from 5) other_address _ _ refl refl refl in
    record { answer = inl refl; end = s.end; control = s.control; heard = s.heard; openings = tt; others = s.others; lacking = tt }

away_seen_1 : record { client = open_view; server = sent_view } ≡ view_of (once_foreign 2)
unfolding client_acked
away_seen_1 = refl

away_2 : IsStep worked_policies (once_foreign 2) client_hears (answers.Deliver receives.Taken) (once_foreign 3)
unfolding client_acked
away_2 =
    let s : StepsSo worked_policies (once_foreign 2) client_hears (answers.Deliver receives.Taken) (once_foreign 3) = steps_at worked_policies both_steady foreign_events (foreign_answers other_address) 2 client_hears (answers.Deliver receives.Taken) _ _ refl refl refl in
    record { answer = inl refl; end = s.end; control = s.control; heard = s.heard; openings = tt; others = s.others; lacking = tt }

away_seen_2 : record { client = waiting_view; server = sent_view } ≡ view_of (once_foreign 3)
unfolding client_acked
away_seen_2 = refl

foreign_follows : Follows foreign_run.keys foreign_run.start foreign_run.events foreign_run.answers foreign_run.views (once_foreign 3)
foreign_follows = (once_foreign 1, away_0, away_seen_0, (once_foreign 2, away_1, away_seen_1, (once_foreign 3, away_2, away_seen_2, refl)))

foreign_gave_none : foreign_run.from_client ≡ (once_foreign 3).from_client
unfolding client_acked
foreign_gave_none = refl

foreign_gave_ids : foreign_run.from_server ≡ (once_foreign 3).from_server
unfolding client_acked
foreign_gave_ids = refl

pub foreign_is_run : IsRun foreign_run (once_foreign 3)
foreign_is_run = record { codes = no_codes foreign_run.events refl; follows = foreign_follows; from_client = foreign_gave_none; from_server = foreign_gave_ids }

pub foreign_is_honest : IsHonest foreign_run
foreign_is_honest = honest_steady foreign_run (record { start = refl; keys = refl; client = (tt, (tt, (tt, tt))); server = (tt, (tt, (tt, tt))) })

pub client_stays : peer_address foreign_run Client 3 ≡ 0
unfolding client_acked
client_stays = refl

pub takes_none : takes_nothing_from foreign_run Client 5 ≡ true
takes_none = refl

pub takes_home : takes_nothing_from foreign_run Client 0 ≡ false
takes_home = refl

follows_none : takes_nothing_from client_follows Client 5 ≡ true
follows_none = refl

pub follows_wrong : DropsOtherAddresses client_follows → ⊥
follows_wrong h =
    let is : receives.Taken ≡ receives.Dropped drops.Address = (h Client 1 5 receives.Taken refl (inl refl) (delivered (record { now = 0; remote = 5; ecn = None; index = 0 }) receives.Taken (record { event = refl; answer = refl }))).1 follows_none in
    cc

pub follows_is_honest : IsHonest client_follows
follows_is_honest = honest_steady client_follows (record { start = refl; keys = refl; client = (tt, (tt, tt)); server = (tt, (tt, tt)) })

follows_no : IsRefused (once_foreign 1) (client_hears_from 5) (answers.Deliver receives.Taken)
unfolding client_acked
follows_no (inl e) = cc
follows_no (inr e) = cc

pub follows_is_none : IsNoRun client_follows
follows_is_none = behind refl away_0 (stops _ _ _ _ _ follows_no)

-- ---- an old packet tells nothing of where the peer is

old_0 : IsStep worked_policies (once_strayed 0) asks_ping answers.Ping (once_strayed 1)
unfolding client_acked
old_0 =
    let s : StepsSo worked_policies (once_strayed 0) asks_ping answers.Ping (once_strayed 1) = steps_at worked_policies both_steady strayed_events strayed_answers 0 asks_ping answers.Ping _ _ refl refl refl in
    record { answer = refl; end = s.end; control = s.control; heard = s.heard; openings = tt; others = s.others; lacking = tt }

old_seen_0 : record { client = open_view; server = open_view } ≡ view_of (once_strayed 1)
unfolding client_acked
old_seen_0 = refl

old_1 : IsStep worked_policies (once_strayed 1) asks_datagram (gives_bytes 223) (once_strayed 2)
unfolding client_acked
old_1 =
    let s : StepsSo worked_policies (once_strayed 1) asks_datagram (gives_bytes 223) (once_strayed 2) = steps_at worked_policies both_steady strayed_events strayed_answers 1 asks_datagram (gives_bytes 223) _ _ refl refl refl in
    record { answer = inl refl; end = s.end; control = s.control; heard = s.heard; openings = tt; others = s.others; lacking = tt }

old_seen_1 : record { client = sent_view; server = open_view } ≡ view_of (once_strayed 2)
unfolding client_acked
old_seen_1 = refl

old_2 : IsStep worked_policies (once_strayed 2) asks_ping answers.Ping (once_strayed 3)
unfolding client_acked
old_2 =
    let s : StepsSo worked_policies (once_strayed 2) asks_ping answers.Ping (once_strayed 3) = steps_at worked_policies both_steady strayed_events strayed_answers 2 asks_ping answers.Ping _ _ refl refl refl in
    record { answer = refl; end = s.end; control = s.control; heard = s.heard; openings = tt; others = s.others; lacking = tt }

old_seen_2 : record { client = sent_view; server = open_view } ≡ view_of (once_strayed 3)
unfolding client_acked
old_seen_2 = refl

old_3 : IsStep worked_policies (once_strayed 3) asks_datagram (gives_bytes 29) (once_strayed 4)
unfolding client_acked
old_3 =
    let s : StepsSo worked_policies (once_strayed 3) asks_datagram (gives_bytes 29) (once_strayed 4) = steps_at worked_policies both_steady strayed_events strayed_answers 3 asks_datagram (gives_bytes 29) _ _ refl refl refl in
    record { answer = inl refl; end = s.end; control = s.control; heard = s.heard; openings = tt; others = s.others; lacking = tt }

old_seen_3 : record { client = sent_view; server = open_view } ≡ view_of (once_strayed 4)
unfolding client_acked
old_seen_3 = refl

old_4 : IsStep worked_policies (once_strayed 4) asks_ping answers.Ping (once_strayed 5)
unfolding client_acked
old_4 =
    let s : StepsSo worked_policies (once_strayed 4) asks_ping answers.Ping (once_strayed 5) = steps_at worked_policies both_steady strayed_events strayed_answers 4 asks_ping answers.Ping _ _ refl refl refl in
    record { answer = refl; end = s.end; control = s.control; heard = s.heard; openings = tt; others = s.others; lacking = tt }

old_seen_4 : record { client = sent_view; server = open_view } ≡ view_of (once_strayed 5)
unfolding client_acked
old_seen_4 = refl

old_5 : IsStep worked_policies (once_strayed 5) asks_datagram (gives_bytes 29) (once_strayed 6)
unfolding client_acked
old_5 =
    let s : StepsSo worked_policies (once_strayed 5) asks_datagram (gives_bytes 29) (once_strayed 6) = steps_at worked_policies both_steady strayed_events strayed_answers 5 asks_datagram (gives_bytes 29) _ _ refl refl refl in
    record { answer = inl refl; end = s.end; control = s.control; heard = s.heard; openings = tt; others = s.others; lacking = tt }

old_seen_5 : record { client = sent_view; server = open_view } ≡ view_of (once_strayed 6)
unfolding client_acked
old_seen_5 = refl

old_6 : IsStep worked_policies (once_strayed 6) (delivers_at 2) (answers.Deliver receives.Taken) (once_strayed 7)
unfolding client_acked
old_6 =
    let s : StepsSo worked_policies (once_strayed 6) (delivers_at 2) (answers.Deliver receives.Taken) (once_strayed 7) = steps_at worked_policies both_steady strayed_events strayed_answers 6 (delivers_at 2) (answers.Deliver receives.Taken) _ _ refl refl refl in
    record { answer = inl refl; end = s.end; control = s.control; heard = s.heard; openings = tt; others = s.others; lacking = tt }

old_seen_6 : record { client = sent_view; server = open_view } ≡ view_of (once_strayed 7)
unfolding client_acked
old_seen_6 = refl

old_7 : IsStep worked_policies (once_strayed 7) (comes_from 9 1) (answers.Deliver receives.Taken) (once_strayed 8)
unfolding client_acked
old_7 =
    let s : StepsSo worked_policies (once_strayed 7) (comes_from 9 1) (answers.Deliver receives.Taken) (once_strayed 8) = steps_at worked_policies both_steady strayed_events strayed_answers 7 (comes_from 9 1) (answers.Deliver receives.Taken) _ _ refl refl refl in
    record { answer = inl refl; end = s.end; control = s.control; heard = s.heard; openings = tt; others = s.others; lacking = tt }

old_seen_7 : record { client = sent_view; server = open_view } ≡ view_of (once_strayed 8)
unfolding client_acked
old_seen_7 = refl

strayed_follows : Follows strayed_run.keys strayed_run.start strayed_run.events strayed_run.answers strayed_run.views (once_strayed 8)
strayed_follows = (once_strayed 1, old_0, old_seen_0, (once_strayed 2, old_1, old_seen_1, (once_strayed 3, old_2, old_seen_2, (once_strayed 4, old_3, old_seen_3, (once_strayed 5, old_4, old_seen_4, (once_strayed 6, old_5, old_seen_5, (once_strayed 7, old_6, old_seen_6, (once_strayed 8, old_7, old_seen_7, refl))))))))

strayed_gave_three : strayed_run.from_client ≡ (once_strayed 8).from_client
unfolding client_acked
strayed_gave_three = refl

strayed_gave_none : strayed_run.from_server ≡ (once_strayed 8).from_server
unfolding client_acked
strayed_gave_none = refl

pub strayed_is_run : IsRun strayed_run (once_strayed 8)
strayed_is_run = record { codes = no_codes strayed_run.events refl; follows = strayed_follows; from_client = strayed_gave_three; from_server = strayed_gave_none }

pub strayed_is_honest : IsHonest strayed_run
strayed_is_honest = honest_steady strayed_run (record { start = refl; keys = refl; client = (tt, (tt, (tt, (tt, (tt, (tt, (tt, (tt, tt)))))))); server = (tt, (tt, (tt, (tt, (tt, (tt, (tt, (tt, tt)))))))) })

pub strayed_stays : path_changes strayed_run Server 7 ≡ false
unfolding client_acked
strayed_stays = refl

pub strayed_there : peer_address strayed_run Server 8 ≡ 0
unfolding client_acked
strayed_there = refl

pub strayed_valid : (seen_at strayed_run Server 8).validated ≡ true
strayed_valid = refl

back_stays : path_changes migrates_back Server 7 ≡ false
unfolding client_acked
back_stays = refl

pub back_wrong : PathChangesExactly migrates_back → ⊥
back_wrong h = let clash : false ≡ true = sym back_stays ∙ (h Server 7 refl refl).0 refl refl in cc

pub back_is_honest : IsHonest migrates_back
back_is_honest = honest_steady migrates_back (record { start = refl; keys = refl; client = (tt, (tt, (tt, (tt, (tt, (tt, (tt, (tt, tt)))))))); server = (tt, (tt, (tt, (tt, (tt, (tt, (tt, (tt, tt)))))))) })

-- whether a view, or that at a place, shows the address of the server's peer as validated
abbrev valid_in : Option View → Bool
valid_in None = false
valid_in (Some v) = v.server.validated

abbrev valid_at : ℕ → List View → Bool
valid_at i views = valid_in (slice_get views i)

pub back_never : NeverShows migrates_back
back_never end f =
    let same = one_run strayed_run.keys strayed_run.answers strayed_run.start strayed_run.events migrates_back.views strayed_run.views end (once_strayed 8) refl f strayed_follows in
    let clash : false ≡ true = ap (λ (vs : List View). valid_at 7 vs) same.0 in
    cc

-- ---- nor does one that only probes

far_client_started : AreStarted far_client
far_client_started = record {
  client_making = record (making client_id) { validated = false };
  server_making = making server_id;
  client_is = record { range = in_range; sizes = lit≤ tt; says = parameters_say; id = refl };
  server_is = record { range = in_range; sizes = lit≤ tt; says = parameters_say; id = refl };
  client = subst (λ read. IsMade Client plain_settings steady read client_id server_id 0 0 false (λ n. 63) far_client.client) (sym parameters_say) refl;
  server = steady_is_made;
  client_gave = refl;
  server_gave = refl;
  client_heard = refl;
  server_heard = refl;
}

probes_0 : IsStep worked_policies (once_probing 0) (injects_from Client 0 (replicate 400 0x00)) no_fixed_bit (once_probing 1)
unfolding client_acked
probes_0 =
    let s : StepsSo worked_policies (once_probing 0) (injects_from Client 0 (replicate 400 0x00)) no_fixed_bit (once_probing 1) = steps_at worked_policies far_client probing_events probing_answers 0 (injects_from Client 0 (replicate 400 0x00)) no_fixed_bit _ _ refl refl refl in
    record { answer = refl; end = s.end; control = s.control; heard = s.heard; openings = tt; others = s.others; lacking = tt }

probes_seen_0 : record { client = far_view None None; server = open_view } ≡ view_of (once_probing 1)
unfolding client_acked
probes_seen_0 = refl

probes_1 : IsStep worked_policies (once_probing 1) asks_datagram (gives_bytes 1200) (once_probing 2)
unfolding client_acked
probes_1 =
    let s : StepsSo worked_policies (once_probing 1) asks_datagram (gives_bytes 1200) (once_probing 2) = steps_at worked_policies far_client probing_events probing_answers 1 asks_datagram (gives_bytes 1200) _ _ refl refl refl in
    record { answer = inl refl; end = s.end; control = s.control; heard = s.heard; openings = tt; others = s.others; lacking = tt }

probes_seen_1 : record { client = far_view (Some 1024000000) None; server = open_view } ≡ view_of (once_probing 2)
unfolding client_acked
probes_seen_1 = refl

probes_2 : IsStep worked_policies (once_probing 2) (comes_from 9 0) (answers.Deliver receives.Taken) (once_probing 3)
unfolding client_acked
probes_2 =
    let s : StepsSo worked_policies (once_probing 2) (comes_from 9 0) (answers.Deliver receives.Taken) (once_probing 3) = steps_at worked_policies far_client probing_events probing_answers 2 (comes_from 9 0) (answers.Deliver receives.Taken) _ _ refl refl refl in
    record { answer = inl refl; end = s.end; control = s.control; heard = s.heard; openings = tt; others = s.others; lacking = tt }

probes_seen_2 : record { client = far_view (Some 1024000000) None; server = waiting_view } ≡ view_of (once_probing 3)
unfolding client_acked
probes_seen_2 = refl

probes_3 : IsStep worked_policies (once_probing 3) asks_server (gives_bytes 227) (once_probing 4)
unfolding client_acked
probes_3 =
    let s : StepsSo worked_policies (once_probing 3) asks_server (gives_bytes 227) (once_probing 4) = steps_at worked_policies far_client probing_events probing_answers 3 asks_server (gives_bytes 227) _ _ refl refl refl in
    record { answer = inl refl; end = s.end; control = s.control; heard = s.heard; openings = tt; others = s.others; lacking = tt }

probes_seen_3 : record { client = far_view (Some 1024000000) None; server = sent_view } ≡ view_of (once_probing 4)
unfolding client_acked
probes_seen_3 = refl

probing_follows : Follows probing_run.keys probing_run.start probing_run.events probing_run.answers probing_run.views (once_probing 4)
probing_follows = (once_probing 1, probes_0, probes_seen_0, (once_probing 2, probes_1, probes_seen_1, (once_probing 3, probes_2, probes_seen_2, (once_probing 4, probes_3, probes_seen_3, refl))))

probing_gave_one : probing_run.from_client ≡ (once_probing 4).from_client
unfolding client_acked
probing_gave_one = refl

probing_gave_ids : probing_run.from_server ≡ (once_probing 4).from_server
unfolding client_acked
probing_gave_ids = refl

pub probing_is_run : IsRun probing_run (once_probing 4)
probing_is_run = record { codes = no_codes probing_run.events refl; follows = probing_follows; from_client = probing_gave_one; from_server = probing_gave_ids }

probing_own : (side : Side) → AreOwn side [] probing_run.events probing_run.answers probing_run.views
probing_own Client = (tt, (tt, (tt, (tt, tt))))
probing_own Server = (tt, (tt, (tt, (tt, tt))))

pub probing_is_honest : IsHonest probing_run
probing_is_honest = record { start = far_client_started; keys = are_keys; ids = own_ids probing_run probing_own }

pub probing_came : news (watch probing_run Server 2).intake (watch probing_run Server 3).intake ≡ probing_packet ∷ []
unfolding client_acked
probing_came = refl

pub probing_stays : path_changes probing_run Server 2 ≡ false
unfolding client_acked
probing_stays = refl

pub probing_there : peer_address probing_run Server 3 ≡ 0
unfolding client_acked
probing_there = refl

probe_stays : path_changes migrates_for_a_probe Server 2 ≡ false
unfolding client_acked
probe_stays = refl

pub probe_wrong : PathChangesExactly migrates_for_a_probe → ⊥
probe_wrong h = let clash : false ≡ true = sym probe_stays ∙ (h Server 2 refl refl).0 refl refl in cc

probe_own : (side : Side) → AreOwn side [] migrates_for_a_probe.events migrates_for_a_probe.answers migrates_for_a_probe.views
probe_own Client = (tt, (tt, (tt, tt)))
probe_own Server = (tt, (tt, (tt, tt)))

pub probe_is_honest : IsHonest migrates_for_a_probe
probe_is_honest = record { start = far_client_started; keys = are_keys; ids = own_ids migrates_for_a_probe probe_own }

-- what is seen of the machine there
abbrev three_views : List View
three_views = record { client = far_view None None; server = open_view } ∷ record { client = far_view (Some 1024000000) None; server = open_view } ∷ record { client = far_view (Some 1024000000) None; server = waiting_view } ∷ []

three_follow : Follows probing_run.keys probing_run.start migrates_for_a_probe.events migrates_for_a_probe.answers three_views (once_probing 3)
three_follow = (once_probing 1, probes_0, probes_seen_0, (once_probing 2, probes_1, probes_seen_1, (once_probing 3, probes_2, probes_seen_2, refl)))

pub probe_never : NeverShows migrates_for_a_probe
probe_never end f =
    let same = one_run probing_run.keys migrates_for_a_probe.answers probing_run.start migrates_for_a_probe.events migrates_for_a_probe.views three_views end (once_probing 3) refl f three_follow in
    let clash : false ≡ true = ap (λ (vs : List View). valid_at 2 vs) same.0 in
    cc
