-- The runs in which a server gives a datagram to an address that isn't validated, event by event,
-- and machines that give more than three times what came.
use Rattle.std.proofs.Common.{◌≡◌, ◌≤◌, [], replicate, Some, None, Ok, false, refl, inl, inr, sym, subst, lit≤, arith}
use Rattle.quic_wire_core.specs.declared.stream_id.Side.{Side}
use Rattle.quic_wire_core.specs.declared.stream_id.Side.TheVariants.{Client, Server}
use Rattle.quic_machine.specs.declared.answers.Received.TheVariants as receives
use Rattle.quic_machine.specs.declared.run.Answer.TheVariants as answers
use Rattle.quic_machine.specs.End.{IsMade}
use Rattle.quic_machine.specs.Start.{AreStarted}
use Rattle.quic_machine.specs.Machine.{World, IsStep, view_of}
use Rattle.quic_headline.specs.Allowance.{bytes_handed, bytes_given}
use Rattle.quic_headline.specs.Polls.{seen_at}
use Rattle.quic_headline.specs.Threefold.{Threefold}
use Rattle.quic_headline.specs.Headline.{IsHonest, IsRun}
use Rattle.quic_worked.specs.Settings.{plain_settings}
use Rattle.quic_worked.specs.Worked.{after_event, steady, worked_policies, client_id, server_id, opens_stream, asks_datagram, delivers, gives_bytes, open_view, sent_view}
use Rattle.quic_worked.specs.Broken.{IsNoRun}
use Rattle.quic_worked.specs.Paired.{asks_server}
use Rattle.quic_worked.specs.Reordered.{writes_bytes}
use Rattle.quic_worked.specs.Held.{gives_nothing}
use Rattle.quic_worked.specs.Unvalidated.{far_start, far_view, once_far, far_run, unasked_run, server_pings, server_closes, once_near, near_run, payload_counted, close_skipped}
use Rattle.quic_worked.proofs.Codes.{no_codes}
use Rattle.quic_worked.proofs.OwnIds.{AreOwn, own_ids}
use Rattle.quic_worked.proofs.BrokenRuns.{IsRefused, behind, stops}
use Rattle.quic_worked.proofs.WorkedKeys.{are_keys}
use Rattle.quic_worked.proofs.WorkedHonest.{in_range, making}
use Rattle.quic_worked.proofs.WorkedRun.{parameters_say, client_is_made}
use Rattle.quic_worked.proofs.Steps.{counts_so, others_so}

-- ---- the premises

pub far_started : AreStarted far_start
far_started = record {
  client_making = making client_id;
  server_making = record (making server_id) { validated = false };
  client_is = record { range = in_range; sizes = lit≤ tt; says = parameters_say; id = refl };
  server_is = record { range = in_range; sizes = lit≤ tt; says = parameters_say; id = refl };
  client = client_is_made;
  server = subst (λ read. IsMade Server plain_settings steady read server_id client_id 0 0 false (λ n. 63) far_start.server) (sym parameters_say) refl;
  client_gave = refl;
  server_gave = refl;
  client_heard = refl;
  server_heard = refl;
}

pub far_own : (side : Side) → AreOwn side [] far_run.events far_run.answers far_run.views
far_own Client = (tt, (inl refl, (tt, (tt, (tt, tt)))))
far_own Server = (tt, (tt, (tt, (tt, (tt, tt)))))

pub far_is_honest : IsHonest far_run
far_is_honest = record { start = far_started; keys = are_keys; ids = own_ids far_run far_own }

-- ---- the machine's run

pub opens : IsStep worked_policies far_start opens_stream (answers.Open (Some 0)) (once_far 1)
unfolding once_far
opens = record { answer = refl; end = refl; control = refl; heard = counts_so worked_policies far_start opens_stream (answers.Open (Some 0)); openings = tt; others = refl; lacking = tt }

pub writes : IsStep worked_policies (once_far 1) (writes_bytes (replicate 976 0x61)) (answers.Write (Ok 976)) (once_far 2)
unfolding once_far
writes = record { answer = inl refl; end = refl; control = refl; heard = counts_so worked_policies (once_far 1) (writes_bytes (replicate 976 0x61)) (answers.Write (Ok 976)); openings = tt; others = refl; lacking = λ lacks. cc }

pub gives : IsStep worked_policies (once_far 2) asks_datagram (gives_bytes 1200) (once_far 3)
unfolding once_far
gives = record { answer = inl refl; end = refl; control = refl; heard = counts_so worked_policies (once_far 2) asks_datagram (gives_bytes 1200); openings = tt; others = refl; lacking = tt }

pub takes : IsStep worked_policies (once_far 3) delivers (answers.Deliver receives.Taken) (once_far 4)
unfolding once_far
takes = record { answer = inl refl; end = refl; control = refl; heard = counts_so worked_policies (once_far 3) delivers (answers.Deliver receives.Taken); openings = tt; others = refl; lacking = tt }

pub asks_back : IsStep worked_policies (once_far 4) asks_server (gives_bytes 1200) (once_far 5)
unfolding once_far
asks_back = record { answer = inl refl; end = refl; control = refl; heard = counts_so worked_policies (once_far 4) asks_server (gives_bytes 1200); openings = tt; others = refl; lacking = tt }

pub opened_seen : record { client = open_view; server = far_view None None } ≡ view_of (once_far 1)
unfolding once_far
opened_seen = refl

pub written_seen : record { client = open_view; server = far_view None None } ≡ view_of (once_far 2)
unfolding once_far
written_seen = refl

pub given_seen : record { client = sent_view; server = far_view None None } ≡ view_of (once_far 3)
unfolding once_far
given_seen = refl

pub taken_seen : record { client = sent_view; server = far_view None (Some 25000000) } ≡ view_of (once_far 4)
unfolding once_far
taken_seen = refl

pub asked_seen : record { client = sent_view; server = far_view (Some 1024000000) None } ≡ view_of (once_far 5)
unfolding once_far
asked_seen = refl

far_gave : far_run.from_client ≡ (once_far 5).from_client
unfolding once_far
far_gave = refl

far_asked : far_run.from_server ≡ (once_far 5).from_server
unfolding once_far
far_asked = refl

pub far_is_run : IsRun far_run (once_far 5)
far_is_run = record {
  codes = no_codes far_run.events refl;
  follows = (once_far 1, opens, opened_seen, (once_far 2, writes, written_seen, (once_far 3, gives, given_seen, (once_far 4, takes, taken_seen, (once_far 5, asks_back, asked_seen, refl)))));
  from_client = far_gave;
  from_server = far_asked;
}

-- ---- what came, and what was given

pub not_validated : (seen_at far_run Server 5).validated ≡ false
not_validated = refl

pub was_given : bytes_given far_run Server 5 ≡ 1200
was_given = refl

pub was_handed : bytes_handed far_run Server 5 ≡ 1200
was_handed = refl

-- ---- a machine that gives one before anything came

pub unasked_wrong : Threefold unasked_run → ⊥
unasked_wrong h = let most : 1200 ≤ 0 = h Server 1 refl refl in omega (arith, most)

unasked_own : (side : Side) → AreOwn side [] unasked_run.events unasked_run.answers unasked_run.views
unasked_own Client = (tt, tt)
unasked_own Server = (tt, tt)

pub unasked_is_honest : IsHonest unasked_run
unasked_is_honest = record { start = far_started; keys = are_keys; ids = own_ids unasked_run unasked_own }

unasked_no : IsRefused far_start asks_server (gives_bytes 1200)
unasked_no (inl e) = cc
unasked_no (inr e) = cc

pub unasked_is_none : IsNoRun unasked_run
unasked_is_none = stops _ _ _ _ _ unasked_no

-- ---- as much goes as may

near_opens : IsStep worked_policies far_start opens_stream (answers.Open (Some 0)) (once_near 1)
unfolding once_near
near_opens = record { answer = refl; end = refl; control = refl; heard = counts_so worked_policies far_start opens_stream (answers.Open (Some 0)); openings = tt; others = refl; lacking = tt }

near_writes : IsStep worked_policies (once_near 1) (writes_bytes (replicate 174 0x61)) (answers.Write (Ok 174)) (once_near 2)
unfolding once_near
near_writes = record { answer = inl refl; end = refl; control = refl; heard = counts_so worked_policies (once_near 1) (writes_bytes (replicate 174 0x61)) (answers.Write (Ok 174)); openings = tt; others = refl; lacking = λ lacks. cc }

near_gives : IsStep worked_policies (once_near 2) asks_datagram (gives_bytes 400) (once_near 3)
unfolding once_near
near_gives = record { answer = inl refl; end = refl; control = refl; heard = counts_so worked_policies (once_near 2) asks_datagram (gives_bytes 400); openings = tt; others = refl; lacking = tt }

near_takes : IsStep worked_policies (once_near 3) delivers (answers.Deliver receives.Taken) (once_near 4)
unfolding once_near
near_takes = record { answer = inl refl; end = refl; control = refl; heard = counts_so worked_policies (once_near 3) delivers (answers.Deliver receives.Taken); openings = tt; others = refl; lacking = tt }

near_asks : IsStep worked_policies (once_near 4) asks_server (gives_bytes 1200) (once_near 5)
unfolding once_near
near_asks = record { answer = inl refl; end = refl; control = refl; heard = counts_so worked_policies (once_near 4) asks_server (gives_bytes 1200); openings = tt; others = refl; lacking = tt }

near_pings : IsStep worked_policies (once_near 5) server_pings answers.Ping (once_near 6)
unfolding once_near
near_pings = record { answer = refl; end = refl; control = refl; heard = counts_so worked_policies (once_near 5) server_pings answers.Ping; openings = tt; others = refl; lacking = tt }

near_rests : IsStep worked_policies (once_near 6) asks_server gives_nothing (once_near 7)
unfolding once_near
near_rests = record { answer = inl refl; end = refl; control = refl; heard = counts_so worked_policies (once_near 6) asks_server gives_nothing; openings = tt; others = refl; lacking = tt }

near_opened_seen : record { client = open_view; server = far_view None None } ≡ view_of (once_near 1)
unfolding once_near
near_opened_seen = refl

near_written_seen : record { client = open_view; server = far_view None None } ≡ view_of (once_near 2)
unfolding once_near
near_written_seen = refl

near_given_seen : record { client = sent_view; server = far_view None None } ≡ view_of (once_near 3)
unfolding once_near
near_given_seen = refl

near_taken_seen : record { client = sent_view; server = far_view None (Some 25000000) } ≡ view_of (once_near 4)
unfolding once_near
near_taken_seen = refl

near_asked_seen : record { client = sent_view; server = far_view (Some 1024000000) None } ≡ view_of (once_near 5)
unfolding once_near
near_asked_seen = refl

near_pinged_seen : record { client = sent_view; server = far_view (Some 1024000000) None } ≡ view_of (once_near 6)
unfolding once_near
near_pinged_seen = refl

near_rested_seen : record { client = sent_view; server = far_view (Some 1024000000) None } ≡ view_of (once_near 7)
unfolding once_near
near_rested_seen = refl

near_gave : near_run.from_client ≡ (once_near 7).from_client
unfolding once_near
near_gave = refl

near_asked : near_run.from_server ≡ (once_near 7).from_server
unfolding once_near
near_asked = refl

pub near_is_run : IsRun near_run (once_near 7)
near_is_run = record {
  codes = no_codes near_run.events refl;
  follows = (
    once_near 1,
    near_opens,
    near_opened_seen,
    (
      once_near 2,
      near_writes,
      near_written_seen,
      (once_near 3, near_gives, near_given_seen, (once_near 4, near_takes, near_taken_seen, (once_near 5, near_asks, near_asked_seen, (once_near 6, near_pings, near_pinged_seen, (once_near 7, near_rests, near_rested_seen, refl))))),
    ),
  );
  from_client = near_gave;
  from_server = near_asked;
}

near_own : (side : Side) → AreOwn side [] near_run.events near_run.answers near_run.views
near_own Client = (tt, (inl refl, (tt, (tt, (tt, (tt, (tt, tt)))))))
near_own Server = (tt, (tt, (tt, (tt, (tt, (tt, (tt, tt)))))))

pub near_is_honest : IsHonest near_run
near_is_honest = record { start = far_started; keys = are_keys; ids = own_ids near_run near_own }

pub near_not_validated : (seen_at near_run Server 7).validated ≡ false
near_not_validated = refl

pub near_was_given : bytes_given near_run Server 7 ≡ 1200
near_was_given = refl

pub near_was_handed : bytes_handed near_run Server 7 ≡ 400
near_was_handed = refl

-- ---- payloads alone are counted

pub payload_wrong : Threefold payload_counted → ⊥
payload_wrong h = let most : 1229 ≤ 1200 = h Server 7 refl refl in omega (arith, most)

payload_own : (side : Side) → AreOwn side [] payload_counted.events payload_counted.answers payload_counted.views
payload_own Client = (tt, (inl refl, (tt, (tt, (tt, (tt, (tt, tt)))))))
payload_own Server = (tt, (tt, (tt, (tt, (tt, (tt, (tt, tt)))))))

pub payload_is_honest : IsHonest payload_counted
payload_is_honest = record { start = far_started; keys = are_keys; ids = own_ids payload_counted payload_own }

payload_no : IsRefused (once_near 6) asks_server (gives_bytes 29)
unfolding once_near
payload_no (inl e) = cc
payload_no (inr e) = cc

pub payload_is_none : IsNoRun payload_counted
payload_is_none = behind refl near_opens (behind refl near_writes (behind refl near_gives (behind refl near_takes (behind refl near_asks (behind refl near_pings (stops _ _ _ _ _ payload_no))))))

-- ---- closes aren't counted

pub close_wrong : Threefold close_skipped → ⊥
close_wrong h = let most : 1229 ≤ 1200 = h Server 7 refl refl in omega (arith, most)

close_own : (side : Side) → AreOwn side [] close_skipped.events close_skipped.answers close_skipped.views
close_own Client = (tt, (inl refl, (tt, (tt, (tt, (tt, (tt, tt)))))))
close_own Server = (tt, (tt, (tt, (tt, (tt, (tt, (tt, tt)))))))

pub close_is_honest : IsHonest close_skipped
close_is_honest = record { start = far_started; keys = are_keys; ids = own_ids close_skipped close_own }

-- its application closed it
abbrev near_closed : World
near_closed = after_event worked_policies (once_near 5) server_closes answers.Close

near_closes : IsStep worked_policies (once_near 5) server_closes answers.Close near_closed
unfolding once_near
near_closes = record { answer = refl; end = refl; control = refl; heard = counts_so worked_policies (once_near 5) server_closes answers.Close; openings = tt; others = others_so worked_policies (once_near 5) server_closes answers.Close; lacking = tt }

close_no : IsRefused near_closed asks_server (gives_bytes 29)
unfolding once_near
close_no (inl e) = cc
close_no (inr e) = cc

pub close_is_none : IsNoRun close_skipped
close_is_none = behind refl near_opens (behind refl near_writes (behind refl near_gives (behind refl near_takes (behind refl near_asks (behind refl near_closes (stops _ _ _ _ _ close_no))))))
