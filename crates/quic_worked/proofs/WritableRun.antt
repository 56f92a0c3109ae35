-- The run in which streams take bytes again, event by event; and a machine that tells nothing of
-- them.
use Rattle.std.proofs.Common.{◌≡◌, true, false, [], ◌∷◌, Some, None, Ok, Err, refl, sym, ◌∙◌, inl, inr, arith}
use Rattle.quic_wire_core.specs.declared.stream_id.Side.{Side}
use Rattle.quic_wire_core.specs.declared.stream_id.Side.TheVariants.{Client, Server}
use Rattle.quic_streams_parts.specs.declared.answers.WriteError.TheVariants as write_errors
use Rattle.quic_machine.specs.declared.answers.Received.TheVariants as receives
use Rattle.quic_machine.specs.declared.run.ReadCall.{ReadCall}
use Rattle.quic_machine.specs.declared.run.Answer.TheVariants as answers
use Rattle.quic_machine.specs.Calls.{end_tells}
use Rattle.quic_machine.specs.Start.{AreStarted}
use Rattle.quic_machine.specs.Machine.{IsStep, Follows, view_of}
use Rattle.quic_headline.specs.Amounts.{left_for}
use Rattle.quic_headline.specs.Headline.{IsHonest, IsRun}
use Rattle.quic_headline.specs.Events.{writing, WritablesAreTold}
use Rattle.quic_worked.specs.Worked.{worked_policies, with_server, opens_stream, asks_datagram, delivers, accepts_stream, reads_stream, gives_bytes}
use Rattle.quic_worked.specs.Acknowledged.{client_datagram, from_server}
use Rattle.quic_worked.specs.Paired.{writes_on, asks_server, client_hears, client_asks}
use Rattle.quic_worked.specs.Broken.{IsNoRun}
use Rattle.quic_worked.specs.Credit.{eight_bounds, ReadsEight}
use Rattle.quic_worked.specs.Limited.{limited_start, sixteen, hello_nexts, limited_payload, raised_payload, limited_opened, limited_both, limited_first, limited_second, limited_blocked, limited_sent, limited_taken, limited_accepted, limited_read, limited_given, limited_heard}
use Rattle.quic_worked.specs.Writable.{tells_again, asks_thrice, told_thrice, own_front, own_told, once_asked, writable_run, writable_untold, AwaitsAt, own_back, told_back, own_until, own_read, own_behind, own_payload, own_run}
use Rattle.quic_worked.proofs.WorkedRun.{ReadsSo, reads_at}
use Rattle.quic_worked.proofs.WorkedKeys.{are_keys}
use Rattle.quic_worked.proofs.Codes.{no_codes}
use Rattle.quic_worked.proofs.OwnIds.{AreOwn, own_ids}
use Rattle.quic_worked.proofs.BrokenRuns.{IsRefused, stops, behind}
use Rattle.quic_worked.proofs.Steps.{steps_at, StepsSo}
use Rattle.quic_worked.proofs.LimitedRun.{limited_started, both_open, one_sent, one_taken, both_sent, one_heard, opens, opens_both, writes_first, writes_second, blocks, gives, takes, accepts, reads, raises, hears, sent_seen, taken_seen, accepted_seen, read_seen, given_seen, heard_seen}

-- ---- what is told

used_up_again : tells_again 0 ≡ answers.Event (end_tells limited_heard.client)
unfolding limited_heard
used_up_again = refl

tells_used_up : IsStep worked_policies limited_heard client_asks (tells_again 0) (once_asked 1)
tells_used_up =
    let s : StepsSo worked_policies limited_heard client_asks (tells_again 0) (once_asked 1) = steps_at worked_policies limited_heard asks_thrice told_thrice 0 client_asks (tells_again 0) _ _ refl refl refl in
    record { answer = used_up_again; end = s.end; control = s.control; heard = s.heard; openings = tt; others = s.others; lacking = tt }

blocked_again : tells_again 4 ≡ answers.Event (end_tells (once_asked 1).client)
unfolding limited_heard
blocked_again = refl

tells_blocked : IsStep worked_policies (once_asked 1) client_asks (tells_again 4) (once_asked 2)
tells_blocked =
    let s : StepsSo worked_policies (once_asked 1) client_asks (tells_again 4) (once_asked 2) = steps_at worked_policies limited_heard asks_thrice told_thrice 1 client_asks (tells_again 4) _ _ refl refl refl in
    record { answer = blocked_again; end = s.end; control = s.control; heard = s.heard; openings = tt; others = s.others; lacking = tt }

no_more : answers.Event None ≡ answers.Event (end_tells (once_asked 2).client)
unfolding limited_heard
no_more = refl

tells_no_more : IsStep worked_policies (once_asked 2) client_asks (answers.Event None) (once_asked 3)
tells_no_more =
    let s : StepsSo worked_policies (once_asked 2) client_asks (answers.Event None) (once_asked 3) = steps_at worked_policies limited_heard asks_thrice told_thrice 2 client_asks (answers.Event None) _ _ refl refl refl in
    record { answer = no_more; end = s.end; control = s.control; heard = s.heard; openings = tt; others = s.others; lacking = tt }

first_seen : one_heard ≡ view_of (once_asked 1)
unfolding limited_heard
first_seen = refl

second_seen : one_heard ≡ view_of (once_asked 2)
unfolding limited_heard
second_seen = refl

third_seen : one_heard ≡ view_of (once_asked 3)
unfolding limited_heard
third_seen = refl

-- ---- the run

follows : (read : ReadCall) → ReadsEight read → Follows worked_policies limited_start (writable_run read).events (writable_run read).answers (writable_run read).views (once_asked 3)
follows read by =
    let late : Follows worked_policies limited_read (asks_server ∷ client_hears ∷ client_asks ∷ client_asks ∷ client_asks ∷ []) (gives_bytes 232 ∷ answers.Deliver receives.Taken ∷ tells_again 0 ∷ tells_again 4 ∷ answers.Event None ∷ []) (both_sent ∷ one_heard ∷ one_heard ∷ one_heard ∷ one_heard ∷ []) (once_asked 3) =
    (limited_given, raises, given_seen, (limited_heard, hears, heard_seen, (once_asked 1, tells_used_up, first_seen, (once_asked 2, tells_blocked, second_seen, (once_asked 3, tells_no_more, third_seen, refl))))) in (
      limited_opened,
      opens,
      refl,
      (
        limited_both,
        opens_both,
        refl,
        (
          limited_first,
          writes_first,
          refl,
          (
            limited_second,
            writes_second,
            refl,
            (
              limited_blocked,
              blocks,
              refl,
              (limited_sent, gives, sent_seen, (limited_taken, takes, taken_seen, (limited_accepted, accepts, accepted_seen, (limited_read, reads read by, read_seen, late)))),
            ),
          ),
        ),
      ),
    )

gave_both : client_datagram 0 0 limited_payload ∷ [] ≡ (once_asked 3).from_client
unfolding limited_heard
gave_both = refl

gave_limits : from_server 0 raised_payload ∷ [] ≡ (once_asked 3).from_server
unfolding limited_heard
gave_limits = refl

pub writable_is_run : (read : ReadCall) → ReadsEight read → IsRun (writable_run read) (once_asked 3)
writable_is_run read by = record { codes = no_codes (writable_run read).events refl; follows = follows read by; from_client = gave_both; from_server = gave_limits }

own : (read : ReadCall) → read.id ≡ 0 → (side : Side) → AreOwn side [] (writable_run read).events (writable_run read).answers (writable_run read).views
own read is Client = (tt, (tt, (inl refl, (inr (inl refl), (inr (inl refl), (tt, (tt, (tt, (tt, (tt, (tt, (tt, (tt, (tt, tt))))))))))))))
own read is Server = (tt, (tt, (tt, (tt, (tt, (tt, (tt, (tt, (inl is, (tt, (tt, (tt, (tt, (tt, tt))))))))))))))

pub writable_is_honest : (read : ReadCall) → read.id ≡ 0 → IsHonest (writable_run read)
writable_is_honest read is = record { start = limited_started; keys = are_keys; ids = own_ids (writable_run read) (own read is) }

-- ---- what waits

both_wait : (read : ReadCall) → AwaitsAt read limited_started 11 true true
unfolding limited_started limited_heard
both_wait read = record { used_up = refl; blocked = refl }

one_waits : (read : ReadCall) → AwaitsAt read limited_started 12 false true
unfolding limited_started limited_heard
one_waits read = record { used_up = refl; blocked = refl }

none_waits : (read : ReadCall) → AwaitsAt read limited_started 13 false false
unfolding limited_started limited_heard
none_waits read = record { used_up = refl; blocked = refl }

pub all_wait : (read : ReadCall) → (s : AreStarted limited_start) × AwaitsAt read s 11 true true × AwaitsAt read s 12 false true × AwaitsAt read s 13 false false
all_wait read = (limited_started, both_wait read, one_waits read, none_waits read)

-- ---- it isn't told

untold_waits : (read : ReadCall) → (writing (writable_untold read) limited_started Client 0 11).waits ≡ true
unfolding limited_started limited_heard
untold_waits read = refl

some_left : (read : ReadCall) → left_for (writable_untold read) limited_started Client 11 0 ≡ 5
unfolding limited_started limited_heard
some_left read = refl

pub writable_untold_shows : (read : ReadCall) → WritablesAreTold (writable_untold read) → ⊥
writable_untold_shows read h =
    let left = some_left read in
    let is : true ≡ false = sym (untold_waits read) ∙ h limited_started Client 11 0 refl (record { event = refl; answer = refl }) refl refl refl (omega (arith, left)) in
    cc

untold_own : (read : ReadCall) → read.id ≡ 0 → (side : Side) → AreOwn side [] (writable_untold read).events (writable_untold read).answers (writable_untold read).views
untold_own read is Client = (tt, (tt, (inl refl, (inr (inl refl), (inr (inl refl), (tt, (tt, (tt, (tt, (tt, (tt, (tt, tt))))))))))))
untold_own read is Server = (tt, (tt, (tt, (tt, (tt, (tt, (tt, (tt, (inl is, (tt, (tt, (tt, tt))))))))))))

pub writable_untold_is_honest : (read : ReadCall) → read.id ≡ 0 → IsHonest (writable_untold read)
writable_untold_is_honest read is = record { start = limited_started; keys = are_keys; ids = own_ids (writable_untold read) (untold_own read is) }

silent_no : IsRefused limited_heard client_asks (answers.Event None)
silent_no silent = let is = used_up_again ∙ sym silent in cc

pub no_writable_untold : (read : ReadCall) → ReadsEight read → IsNoRun (writable_untold read)
no_writable_untold read by =
    behind refl opens (behind refl opens_both (behind refl writes_first (behind refl writes_second (behind refl blocks (behind refl gives (behind refl takes (behind refl accepts (behind refl (reads read by) (behind refl raises (behind refl hears (stops _ _ _ _ _ silent_no)))))))))))

-- ---- a write that the stream's own limit blocks

own_until_0 : IsStep worked_policies limited_start opens_stream (answers.Open (Some 0)) (own_until 1)
unfolding own_until
own_until_0 =
    let s : StepsSo worked_policies limited_start opens_stream (answers.Open (Some 0)) (own_until 1) = steps_at worked_policies limited_start own_front own_told 0 opens_stream (answers.Open (Some 0)) _ _ refl refl refl in
    record { answer = refl; end = s.end; control = s.control; heard = s.heard; openings = tt; others = s.others; lacking = tt }

own_until_0_seen : both_open ≡ view_of (own_until 1)
unfolding own_until
own_until_0_seen = refl

own_until_1 : IsStep worked_policies (own_until 1) (writes_on 0 sixteen) (answers.Write (Ok 5)) (own_until 2)
unfolding own_until
own_until_1 =
    let s : StepsSo worked_policies (own_until 1) (writes_on 0 sixteen) (answers.Write (Ok 5)) (own_until 2) = steps_at worked_policies limited_start own_front own_told 1 (writes_on 0 sixteen) (answers.Write (Ok 5)) _ _ refl refl refl in
    record { answer = inl refl; end = s.end; control = s.control; heard = s.heard; openings = tt; others = s.others; lacking = λ lacks. cc }

own_until_1_seen : both_open ≡ view_of (own_until 2)
unfolding own_until
own_until_1_seen = refl

own_until_2 : IsStep worked_policies (own_until 2) (writes_on 0 sixteen) (answers.Write (Err write_errors.Blocked)) (own_until 3)
unfolding own_until
own_until_2 =
    let s : StepsSo worked_policies (own_until 2) (writes_on 0 sixteen) (answers.Write (Err write_errors.Blocked)) (own_until 3) = steps_at worked_policies limited_start own_front own_told 2 (writes_on 0 sixteen) (answers.Write (Err write_errors.Blocked)) _ _ refl refl refl in
    record { answer = inl refl; end = s.end; control = s.control; heard = s.heard; openings = tt; others = s.others; lacking = λ lacks. cc }

own_until_2_seen : both_open ≡ view_of (own_until 3)
unfolding own_until
own_until_2_seen = refl

own_until_3 : IsStep worked_policies (own_until 3) asks_datagram (gives_bytes 233) (own_until 4)
unfolding own_until
own_until_3 =
    let s : StepsSo worked_policies (own_until 3) asks_datagram (gives_bytes 233) (own_until 4) = steps_at worked_policies limited_start own_front own_told 3 asks_datagram (gives_bytes 233) _ _ refl refl refl in
    record { answer = inl refl; end = s.end; control = s.control; heard = s.heard; openings = tt; others = s.others; lacking = tt }

own_until_3_seen : one_sent ≡ view_of (own_until 4)
unfolding own_until
own_until_3_seen = refl

own_until_4 : IsStep worked_policies (own_until 4) delivers (answers.Deliver receives.Taken) (own_until 5)
unfolding own_until
own_until_4 =
    let s : StepsSo worked_policies (own_until 4) delivers (answers.Deliver receives.Taken) (own_until 5) = steps_at worked_policies limited_start own_front own_told 4 delivers (answers.Deliver receives.Taken) _ _ refl refl refl in
    record { answer = inl refl; end = s.end; control = s.control; heard = s.heard; openings = tt; others = s.others; lacking = tt }

own_until_4_seen : one_taken ≡ view_of (own_until 5)
unfolding own_until
own_until_4_seen = refl

own_until_5 : IsStep worked_policies (own_until 5) accepts_stream (answers.Accept (Some 0)) (own_until 6)
unfolding own_until
own_until_5 =
    let s : StepsSo worked_policies (own_until 5) accepts_stream (answers.Accept (Some 0)) (own_until 6) = steps_at worked_policies limited_start own_front own_told 5 accepts_stream (answers.Accept (Some 0)) _ _ refl refl refl in
    record { answer = refl; end = s.end; control = s.control; heard = s.heard; openings = tt; others = s.others; lacking = tt }

own_until_5_seen : one_taken ≡ view_of (own_until 6)
unfolding own_until
own_until_5_seen = refl

own_behind_0 : IsStep worked_policies own_read asks_server (gives_bytes 232) (own_behind 1)
unfolding own_behind
own_behind_0 =
    let s : StepsSo worked_policies own_read asks_server (gives_bytes 232) (own_behind 1) = steps_at worked_policies own_read own_back told_back 0 asks_server (gives_bytes 232) _ _ refl refl refl in
    record { answer = inl refl; end = s.end; control = s.control; heard = s.heard; openings = tt; others = s.others; lacking = tt }

own_behind_0_seen : both_sent ≡ view_of (own_behind 1)
unfolding own_behind
own_behind_0_seen = refl

own_behind_1 : IsStep worked_policies (own_behind 1) client_hears (answers.Deliver receives.Taken) (own_behind 2)
unfolding own_behind
own_behind_1 =
    let s : StepsSo worked_policies (own_behind 1) client_hears (answers.Deliver receives.Taken) (own_behind 2) = steps_at worked_policies own_read own_back told_back 1 client_hears (answers.Deliver receives.Taken) _ _ refl refl refl in
    record { answer = inl refl; end = s.end; control = s.control; heard = s.heard; openings = tt; others = s.others; lacking = tt }

own_behind_1_seen : one_heard ≡ view_of (own_behind 2)
unfolding own_behind
own_behind_1_seen = refl

own_behind_2 : IsStep worked_policies (own_behind 2) client_asks (tells_again 0) (own_behind 3)
unfolding own_behind
own_behind_2 =
    let s : StepsSo worked_policies (own_behind 2) client_asks (tells_again 0) (own_behind 3) = steps_at worked_policies own_read own_back told_back 2 client_asks (tells_again 0) _ _ refl refl refl in
    record { answer = refl; end = s.end; control = s.control; heard = s.heard; openings = tt; others = s.others; lacking = tt }

own_behind_2_seen : one_heard ≡ view_of (own_behind 3)
unfolding own_behind
own_behind_2_seen = refl

own_behind_3 : IsStep worked_policies (own_behind 3) client_asks (answers.Event None) (own_behind 4)
unfolding own_behind
own_behind_3 =
    let s : StepsSo worked_policies (own_behind 3) client_asks (answers.Event None) (own_behind 4) = steps_at worked_policies own_read own_back told_back 3 client_asks (answers.Event None) _ _ refl refl refl in
    record { answer = refl; end = s.end; control = s.control; heard = s.heard; openings = tt; others = s.others; lacking = tt }

own_behind_3_seen : one_heard ≡ view_of (own_behind 4)
unfolding own_behind
own_behind_3_seen = refl

own_reads_so : ReadsSo (own_until 6) 0 true eight_bounds hello_nexts own_read.server
unfolding own_until
own_reads_so = record { answer = (refl, (inl refl, tt)); lacking = (λ lacks. cc, tt); end = refl }

own_reads_only : own_read ≡ with_server (own_until 6) own_read.server
own_reads_only = refl

own_reads : (read : ReadCall) → ReadsEight read → IsStep worked_policies (own_until 6) (reads_stream read) (answers.Read (Ok hello_nexts)) own_read
own_reads = reads_at (own_until 6) own_read 0 true eight_bounds hello_nexts own_reads_so own_reads_only

own_read_seen : one_taken ≡ view_of own_read
unfolding own_until
own_read_seen = refl

own_follows : (read : ReadCall) → ReadsEight read → Follows worked_policies limited_start (own_run read).events (own_run read).answers (own_run read).views (own_behind 4)
own_follows read by =
    let late : Follows worked_policies own_read own_back told_back (both_sent ∷ one_heard ∷ one_heard ∷ one_heard ∷ []) (own_behind 4) =
    (own_behind 1, own_behind_0, own_behind_0_seen, (own_behind 2, own_behind_1, own_behind_1_seen, (own_behind 3, own_behind_2, own_behind_2_seen, (own_behind 4, own_behind_3, own_behind_3_seen, refl)))) in (
      own_until 1,
      own_until_0,
      own_until_0_seen,
      (
        own_until 2,
        own_until_1,
        own_until_1_seen,
        (
          own_until 3,
          own_until_2,
          own_until_2_seen,
          (own_until 4, own_until_3, own_until_3_seen, (own_until 5, own_until_4, own_until_4_seen, (own_until 6, own_until_5, own_until_5_seen, (own_read, own_reads read by, own_read_seen, late)))),
        ),
      ),
    )

own_gave : client_datagram 0 0 own_payload ∷ [] ≡ (own_behind 4).from_client
unfolding own_behind
own_gave = refl

own_raised : from_server 0 raised_payload ∷ [] ≡ (own_behind 4).from_server
unfolding own_behind
own_raised = refl

pub own_is_run : (read : ReadCall) → ReadsEight read → IsRun (own_run read) (own_behind 4)
own_is_run read by = record { codes = no_codes (own_run read).events refl; follows = own_follows read by; from_client = own_gave; from_server = own_raised }

own_own : (read : ReadCall) → read.id ≡ 0 → (side : Side) → AreOwn side [] (own_run read).events (own_run read).answers (own_run read).views
own_own read is Client = (tt, (inl refl, (inl refl, (tt, (tt, (tt, (tt, (tt, (tt, (tt, (tt, tt)))))))))))
own_own read is Server = (tt, (tt, (tt, (tt, (tt, (tt, (inl is, (tt, (tt, (tt, (tt, tt)))))))))))

pub own_is_honest : (read : ReadCall) → read.id ≡ 0 → IsHonest (own_run read)
own_is_honest read is = record { start = limited_started; keys = are_keys; ids = own_ids (own_run read) (own_own read is) }

own_waits_so : (read : ReadCall) → (writing (own_run read) limited_started Client 0 9).waits ≡ true
unfolding limited_started own_behind
own_waits_so read = refl

own_told_so : (read : ReadCall) → (writing (own_run read) limited_started Client 0 10).waits ≡ false
unfolding limited_started own_behind
own_told_so read = refl

pub own_waits : (read : ReadCall) → (s : AreStarted limited_start) × ((writing (own_run read) s Client 0 9).waits ≡ true) × ((writing (own_run read) s Client 0 10).waits ≡ false)
own_waits read = (limited_started, own_waits_so read, own_told_so read)
