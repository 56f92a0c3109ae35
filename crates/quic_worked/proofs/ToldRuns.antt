-- The runs in which an application is told that the peer opened a stream, and that one may be read,
-- event by event; and machines that tell it nothing.
use Rattle.std.proofs.Common.{◌≡◌, ◌<◌, ℕ, List, [], ◌∷◌, Bool, true, false, Some, None, Ok, refl, sym, ◌∙◌, inl, subst, lit<, lit≤, inr}
use Rattle.quic_wire_core.specs.declared.stream_id.Side.TheVariants.{Server}
use Rattle.quic_wire_core.specs.declared.stream_id.Dir.TheVariants.{Bi}
use Rattle.quic_wire.specs.Value.{stream}
use Rattle.quic_machine.specs.declared.answers.Received.TheVariants as receives
use Rattle.quic_machine.specs.declared.run.ReadCall.{ReadCall}
use Rattle.quic_machine.specs.declared.run.Answer.TheVariants as answers
use Rattle.quic_machine.specs.Calls.{end_tells}
use Rattle.quic_machine.specs.Machine.{IsStep, Follows, view_of}
use Rattle.quic_headline.specs.Runs.{Run, Packet}
use Rattle.quic_headline.specs.Observer.{took}
use Rattle.quic_headline.specs.Headline.{IsHonest, IsRun}
use Rattle.quic_headline.specs.Ids.{WasOpened}
use Rattle.quic_headline.specs.Events.{mail, MessagesAreTold, heard_of, OpeningsAreTold, reading, ReadablesAreTold}
use Rattle.quic_worked.specs.Worked.{with_server, worked_policies, once_opened, once_written, once_ended, once_sent, once_taken, hello_frame, accepts_stream, reads_stream, ReadsBy, two_chunks, sent_view, server_waiting}
use Rattle.quic_worked.specs.Broken.{IsNoRun}
use Rattle.quic_worked.specs.Reordered.{delivers_at, first_sent, second_written, both_sent}
use Rattle.quic_worked.specs.Messages.{server_asks, once_messaged, message_run}
use Rattle.quic_worked.specs.Told.{tells_opened, opening_run, hello_packet, opening_told, opening_end, opening_untold, tells_readable, abc_nexts, readable_run, readable_untold, front_taken, front_told, front_accepted, front_read, rest_taken, rest_told, readable_end, message_untold}
use Rattle.quic_worked.proofs.Codes.{no_codes}
use Rattle.quic_worked.proofs.Steps.{steps_so, StepsSo}
use Rattle.quic_worked.proofs.OwnIds.{honest}
use Rattle.quic_worked.proofs.BrokenRuns.{IsRefused, stops, behind}
use Rattle.quic_worked.proofs.WorkedRun.{ReadsSo, reads_at, opens, writes, finishes, gives, takes, sent_seen, taken_seen}
use Rattle.quic_worked.proofs.ReorderedRun.{opened, first_written, opens as opens_first, writes_abc, gives_abc, writes_def, gives_def, both_wait, sees_first, sees_second, sees_both}
use Rattle.quic_worked.proofs.MessageRuns.{step_0, step_1, step_2, answer_message_4}

-- ---- a stream is told of

answer_opened : tells_opened ≡ answers.Event (end_tells once_taken.server)
unfolding once_taken
answer_opened = refl

told : IsStep worked_policies once_taken server_asks tells_opened opening_told
told =
    let s : StepsSo worked_policies once_taken server_asks tells_opened opening_told = steps_so worked_policies once_taken server_asks tells_opened refl in
    record { answer = answer_opened; end = s.end; control = s.control; heard = s.heard; openings = tt; others = s.others; lacking = tt }

told_seen : record { client = sent_view; server = server_waiting } ≡ view_of opening_told
unfolding once_taken
told_seen = refl

answer_nothing : answers.Event None ≡ answers.Event (end_tells opening_told.server)
unfolding once_taken
answer_nothing = refl

nothing : IsStep worked_policies opening_told server_asks (answers.Event None) opening_end
nothing =
    let s : StepsSo worked_policies opening_told server_asks (answers.Event None) opening_end = steps_so worked_policies opening_told server_asks (answers.Event None) refl in
    record { answer = answer_nothing; end = s.end; control = s.control; heard = s.heard; openings = tt; others = s.others; lacking = tt }

nothing_seen : record { client = sent_view; server = server_waiting } ≡ view_of opening_end
unfolding once_taken
nothing_seen = refl

follows : Follows opening_run.keys opening_run.start opening_run.events opening_run.answers opening_run.views opening_end
follows = (once_opened, opens, refl, (once_written, writes, refl, (once_ended, finishes, refl, (once_sent, gives, sent_seen, (once_taken, takes, taken_seen, (opening_told, told, told_seen, (opening_end, nothing, nothing_seen, refl)))))))

gave_word : opening_run.from_client ≡ opening_end.from_client
unfolding once_taken
gave_word = refl

gave_none : opening_run.from_server ≡ opening_end.from_server
unfolding once_taken
gave_none = refl

pub opening_is_run : IsRun opening_run opening_end
opening_is_run = record { codes = no_codes opening_run.events refl; follows = follows; from_client = gave_word; from_server = gave_none }

pub opening_is_honest : IsHonest opening_run
opening_is_honest = honest opening_run (record { start = refl; keys = refl; client = (tt, (inl refl, (inl refl, (tt, (tt, (tt, (tt, tt))))))); server = (tt, (tt, (tt, (tt, (tt, (tt, (tt, tt))))))) })

pub opening_took : took opening_run Server 6 ≡ hello_packet ∷ []
unfolding once_taken
opening_took = refl

pub opening_heard : heard_of opening_run Server Bi 6 ≡ hello_packet ∷ []
unfolding once_taken
opening_heard = refl

-- ---- it isn't

untold_took : took opening_untold Server 5 ≡ hello_packet ∷ []
unfolding once_taken
untold_took = refl

untold_heard : heard_of opening_untold Server Bi 5 ≡ []
unfolding once_taken
untold_heard = refl

word_opens : WasOpened (hello_packet ∷ []) Server Bi 0
word_opens = record { index = 0; is = refl; above = 0; from = lit≤ tt; named = record { packet = hello_packet; was_taken = inl refl; frame = stream hello_frame; carried = inr (inr (inr (inr (inr (inr (inr (inl refl))))))); opens = refl } }

none_opens : WasOpened [] Server Bi 0 → ⊥
none_opens w = w.named.was_taken

pub opening_untold_shows : OpeningsAreTold opening_untold → ⊥
opening_untold_shows h = none_opens (subst (λ (ps : List Packet). WasOpened ps Server Bi 0) untold_heard
    (h Server 5 0 Bi refl (record { event = refl; answer = refl }) (subst (λ (ps : List Packet). WasOpened ps Server Bi 0) (sym untold_took) word_opens)))

pub opening_untold_is_honest : IsHonest opening_untold
opening_untold_is_honest = honest opening_untold (record { start = refl; keys = refl; client = (tt, (inl refl, (inl refl, (tt, (tt, (tt, tt)))))); server = (tt, (tt, (tt, (tt, (tt, (tt, tt)))))) })

silent_no : IsRefused once_taken server_asks (answers.Event None)
silent_no silent = let is = answer_opened ∙ sym silent in cc

pub no_opening_untold : IsNoRun opening_untold
no_opening_untold = behind refl opens (behind refl writes (behind refl finishes (behind refl gives (behind refl takes (stops _ _ _ _ _ silent_no)))))

-- ---- a stream may be read

takes_front : IsStep worked_policies both_sent (delivers_at 0) (answers.Deliver receives.Taken) front_taken
unfolding front_taken
takes_front =
    let s : StepsSo worked_policies both_sent (delivers_at 0) (answers.Deliver receives.Taken) front_taken = steps_so worked_policies both_sent (delivers_at 0) (answers.Deliver receives.Taken) refl in
    record { answer = inl refl; end = s.end; control = s.control; heard = s.heard; openings = tt; others = s.others; lacking = tt }

front_opened : tells_opened ≡ answers.Event (end_tells front_taken.server)
unfolding front_taken
front_opened = refl

tells_front : IsStep worked_policies front_taken server_asks tells_opened front_told
tells_front =
    let s : StepsSo worked_policies front_taken server_asks tells_opened front_told = steps_so worked_policies front_taken server_asks tells_opened refl in
    record { answer = front_opened; end = s.end; control = s.control; heard = s.heard; openings = tt; others = s.others; lacking = tt }

accepts_front : IsStep worked_policies front_told accepts_stream (answers.Accept (Some 0)) front_accepted
unfolding front_taken
accepts_front =
    let s : StepsSo worked_policies front_told accepts_stream (answers.Accept (Some 0)) front_accepted = steps_so worked_policies front_told accepts_stream (answers.Accept (Some 0)) refl in
    record { answer = refl; end = s.end; control = s.control; heard = s.heard; openings = tt; others = s.others; lacking = tt }

front_so : ReadsSo front_accepted 0 true two_chunks abc_nexts front_read.server
unfolding front_taken
front_so = record { answer = (refl, (inl refl, (inl refl, tt))); lacking = (λ lacks. cc, (λ lacks. cc, tt)); end = refl }

front_only : front_read ≡ with_server front_accepted front_read.server
front_only = refl

reads_front : (read : ReadCall) → ReadsBy two_chunks read → IsStep worked_policies front_accepted (reads_stream read) (answers.Read (Ok abc_nexts)) front_read
reads_front = reads_at front_accepted front_read 0 true two_chunks abc_nexts front_so front_only

takes_rest : IsStep worked_policies front_read (delivers_at 1) (answers.Deliver receives.Taken) rest_taken
unfolding rest_taken
takes_rest =
    let s : StepsSo worked_policies front_read (delivers_at 1) (answers.Deliver receives.Taken) rest_taken = steps_so worked_policies front_read (delivers_at 1) (answers.Deliver receives.Taken) refl in
    record { answer = inl refl; end = s.end; control = s.control; heard = s.heard; openings = tt; others = s.others; lacking = tt }

rest_readable : tells_readable ≡ answers.Event (end_tells rest_taken.server)
unfolding rest_taken
rest_readable = refl

tells_rest : IsStep worked_policies rest_taken server_asks tells_readable rest_told
tells_rest =
    let s : StepsSo worked_policies rest_taken server_asks tells_readable rest_told = steps_so worked_policies rest_taken server_asks tells_readable refl in
    record { answer = rest_readable; end = s.end; control = s.control; heard = s.heard; openings = tt; others = s.others; lacking = tt }

no_more : answers.Event None ≡ answers.Event (end_tells rest_told.server)
unfolding rest_taken
no_more = refl

tells_no_more : IsStep worked_policies rest_told server_asks (answers.Event None) readable_end
tells_no_more =
    let s : StepsSo worked_policies rest_told server_asks (answers.Event None) readable_end = steps_so worked_policies rest_told server_asks (answers.Event None) refl in
    record { answer = no_more; end = s.end; control = s.control; heard = s.heard; openings = tt; others = s.others; lacking = tt }

front_seen : both_wait ≡ view_of front_taken
unfolding front_taken
front_seen = refl

front_told_seen : both_wait ≡ view_of front_told
unfolding front_taken
front_told_seen = refl

front_accepted_seen : both_wait ≡ view_of front_accepted
unfolding front_taken
front_accepted_seen = refl

front_read_seen : both_wait ≡ view_of front_read
unfolding front_taken
front_read_seen = refl

rest_seen : both_wait ≡ view_of rest_taken
unfolding rest_taken
rest_seen = refl

rest_told_seen : both_wait ≡ view_of rest_told
unfolding rest_taken
rest_told_seen = refl

readable_seen : both_wait ≡ view_of readable_end
unfolding rest_taken
readable_seen = refl

readable_follows : (read : ReadCall) → ReadsBy two_chunks read
    → Follows (readable_run read).keys (readable_run read).start (readable_run read).events (readable_run read).answers (readable_run read).views readable_end
readable_follows read by = (
  opened,
  opens_first,
  refl,
  (
    first_written,
    writes_abc,
    refl,
    (
      first_sent,
      gives_abc,
      sees_first,
      (
        second_written,
        writes_def,
        sees_second,
        (
          both_sent,
          gives_def,
          sees_both,
          (
            front_taken,
            takes_front,
            front_seen,
            (
              front_told,
              tells_front,
              front_told_seen,
              (
                front_accepted,
                accepts_front,
                front_accepted_seen,
                (
                  front_read,
                  reads_front read by,
                  front_read_seen,
                  (rest_taken, takes_rest, rest_seen, (rest_told, tells_rest, rest_told_seen, (readable_end, tells_no_more, readable_seen, refl))),
                ),
              ),
            ),
          ),
        ),
      ),
    ),
  ),
)

readable_gave : (read : ReadCall) → (readable_run read).from_client ≡ readable_end.from_client
unfolding rest_taken
readable_gave read = refl

readable_gave_none : (read : ReadCall) → (readable_run read).from_server ≡ readable_end.from_server
unfolding rest_taken
readable_gave_none read = refl

pub readable_is_run : (read : ReadCall) → ReadsBy two_chunks read → IsRun (readable_run read) readable_end
readable_is_run read by = record { codes = no_codes (readable_run read).events refl; follows = readable_follows read by; from_client = readable_gave read; from_server = readable_gave_none read }

pub readable_is_honest : (read : ReadCall) → ReadsBy two_chunks read → IsHonest (readable_run read)
readable_is_honest read by = honest (readable_run read) (record {
  start = refl;
  keys = refl;
  client = (tt, (inl refl, (tt, (inl refl, (tt, (tt, (tt, (tt, (tt, (tt, (tt, (tt, tt))))))))))));
  server = (tt, (tt, (tt, (tt, (tt, (tt, (tt, (tt, (inl by.id, (tt, (tt, (tt, tt))))))))))));
})

-- what waits to be told by so many answers of a run, where the read is of the stream with this id
waits_at : (r : ReadCall → Run) (i : ℕ) (b : Bool) → ((read : ReadCall) → (reading (r (record read { id = 0 })) Server 0 i).waits ≡ b) → (read : ReadCall) → read.id ≡ 0 → (reading (r read) Server 0 i).waits ≡ b
waits_at r i b so read is = go read.id (sym is)
  where
    go : (id : ℕ) → 0 ≡ id → (reading (r (record read { id = id })) Server 0 i).waits ≡ b
    go id same = subst (λ (q : ℕ). (reading (r (record read { id = q })) Server 0 i).waits ≡ b) same (so read)

rest_waits_so : (read : ReadCall) → (reading (readable_run (record read { id = 0 })) Server 0 10).waits ≡ true
unfolding once_taken
rest_waits_so read = refl

rest_told_so : (read : ReadCall) → (reading (readable_run (record read { id = 0 })) Server 0 11).waits ≡ false
unfolding once_taken
rest_told_so read = refl

pub rest_waits : (read : ReadCall) → ReadsBy two_chunks read → (reading (readable_run read) Server 0 10).waits ≡ true
rest_waits read by = waits_at readable_run 10 true rest_waits_so read by.id

pub rest_was_told : (read : ReadCall) → ReadsBy two_chunks read → (reading (readable_run read) Server 0 11).waits ≡ false
rest_was_told read by = waits_at readable_run 11 false rest_told_so read by.id

-- ---- it isn't told

untold_waits_so : (read : ReadCall) → (reading (readable_untold (record read { id = 0 })) Server 0 10).waits ≡ true
unfolding once_taken
untold_waits_so read = refl

pub readable_untold_shows : (read : ReadCall) → ReadsBy two_chunks read → ReadablesAreTold (readable_untold read) → ⊥
readable_untold_shows read by h =
    let is : true ≡ false = sym (waits_at readable_untold 10 true untold_waits_so read by.id) ∙ h Server 10 0 refl (record { event = refl; answer = refl }) in
    cc

pub readable_untold_is_honest : (read : ReadCall) → ReadsBy two_chunks read → IsHonest (readable_untold read)
readable_untold_is_honest read by = honest (readable_untold read) (record {
  start = refl;
  keys = refl;
  client = (tt, (inl refl, (tt, (inl refl, (tt, (tt, (tt, (tt, (tt, (tt, (tt, tt)))))))))));
  server = (tt, (tt, (tt, (tt, (tt, (tt, (tt, (tt, (inl by.id, (tt, (tt, tt)))))))))));
})

silent_readable_no : IsRefused rest_taken server_asks (answers.Event None)
silent_readable_no silent = let is = rest_readable ∙ sym silent in cc

pub no_readable_untold : (read : ReadCall) → ReadsBy two_chunks read → IsNoRun (readable_untold read)
no_readable_untold read by =
    behind refl opens_first (behind refl writes_abc (behind refl gives_abc (behind refl writes_def (behind refl gives_def (behind refl takes_front (behind refl tells_front (behind refl accepts_front (behind refl (reads_front read by) (behind refl takes_rest (stops _ _ _ _ _ silent_readable_no))))))))))

-- ---- messages

pub message_waits : (mail message_run Server 5).unread ≡ 1
unfolding once_taken
message_waits = refl

pub message_was_told : (mail message_run Server 5).told ≡ true
unfolding once_taken
message_was_told = refl

one_waits : (mail message_untold Server 3).unread ≡ 1
unfolding once_taken
one_waits = refl

not_told : (mail message_untold Server 3).told ≡ false
unfolding once_taken
not_told = refl

pub message_untold_shows : MessagesAreTold message_untold → ⊥
message_untold_shows h = let is : false ≡ true = sym not_told ∙ h Server 3 refl (record { event = refl; answer = refl }) (subst (λ (n : ℕ). 0 < n) (sym one_waits) (lit< tt)) in cc

pub message_untold_is_honest : IsHonest message_untold
message_untold_is_honest = honest message_untold (record { start = refl; keys = refl; client = (tt, (tt, (tt, (tt, tt)))); server = (tt, (tt, (tt, (tt, tt)))) })

silent_message_no : IsRefused (once_messaged 3) server_asks (answers.Event None)
silent_message_no silent = let is = answer_message_4 ∙ sym silent in cc

pub no_message_untold : IsNoRun message_untold
no_message_untold = behind refl step_0 (behind refl step_1 (behind refl step_2 (stops _ _ _ _ _ silent_message_no)))
