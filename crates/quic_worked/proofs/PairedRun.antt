-- The run of two streams at once, event by event.
use Rattle.std.proofs.Common.{◌≡◌, [], ◌∷◌, Some, None, Ok, Err, true, refl, inl, arith}
use Rattle.quic_sets.specs.Offsets.{with_offsets}
use Rattle.quic_sets.specs.Pieces.{with_range, joining}
use Rattle.quic_wire_core.specs.declared.stream_id.Side.TheVariants.{Server}
use Rattle.quic_streams_parts.specs.declared.answers.WriteError.TheVariants as write_errors
use Rattle.quic_streams_parts.specs.declared.answers.UpdateError.TheVariants as update_errors
use Rattle.quic_machine.specs.declared.answers.Received.TheVariants as receives
use Rattle.quic_machine.specs.declared.run.ReadCall.{ReadCall}
use Rattle.quic_machine.specs.declared.run.Answer.TheVariants as answers
use Rattle.quic_machine.specs.declared.run.View.{View}
use Rattle.quic_machine.specs.Machine.{IsStep, Follows, view_of}
use Rattle.quic_headline.specs.Observer.{took}
use Rattle.quic_headline.specs.Headline.{IsRun}
use Rattle.quic_worked.specs.Worked.{with_server, worked_policies, opens_stream, asks_datagram, delivers, accepts_stream, reads_stream, gives_bytes, open_view, sent_view, waiting_view, both_steady}
use Rattle.quic_worked.specs.Acknowledged.{client_datagram, from_server}
use Rattle.quic_worked.specs.Reordered.{abc, def}
use Rattle.quic_worked.specs.Paired.{writes_on, resets_with, asks_reset, stops_second, asks_server, client_hears, client_asks, ReadsSecond, paired_events, second_nexts, second_bounds, tells_stopped, paired_answers, paired_payload, stop_payload, paired_frames, first_open, both_open, first_written, both_written, first_reset, pair_sent, pair_taken, first_accepted, both_accepted, reset_told, second_read, second_stopped, stop_sent, stop_taken, stop_told, nothing_told, write_refused, reset_refused, paired_views, paired_run}
use Rattle.quic_worked.proofs.WorkedRun.{ReadsSo, reads_at}
use Rattle.quic_worked.proofs.Codes.{AllSmall, small_codes}
use Rattle.quic_worked.proofs.Steps.{steps_so, StepsSo}

-- ---- the events

pub opens_first : IsStep worked_policies both_steady opens_stream (answers.Open (Some 0)) first_open
opens_first =
    let s : StepsSo worked_policies both_steady opens_stream (answers.Open (Some 0)) first_open = steps_so worked_policies both_steady opens_stream (answers.Open (Some 0)) refl in
    record { answer = refl; end = s.end; control = s.control; heard = s.heard; openings = tt; others = s.others; lacking = tt }

pub opens_both : IsStep worked_policies first_open opens_stream (answers.Open (Some 4)) both_open
opens_both =
    let s : StepsSo worked_policies first_open opens_stream (answers.Open (Some 4)) both_open = steps_so worked_policies first_open opens_stream (answers.Open (Some 4)) refl in
    record { answer = refl; end = s.end; control = s.control; heard = s.heard; openings = tt; others = s.others; lacking = tt }

pub writes_first : IsStep worked_policies both_open (writes_on 0 abc) (answers.Write (Ok 3)) first_written
writes_first =
    let s : StepsSo worked_policies both_open (writes_on 0 abc) (answers.Write (Ok 3)) first_written = steps_so worked_policies both_open (writes_on 0 abc) (answers.Write (Ok 3)) refl in
    record { answer = inl refl; end = s.end; control = s.control; heard = s.heard; openings = tt; others = s.others; lacking = λ lacks. cc }

pub writes_both : IsStep worked_policies first_written (writes_on 4 def) (answers.Write (Ok 3)) both_written
unfolding with_offsets with_range joining
writes_both =
    let s : StepsSo worked_policies first_written (writes_on 4 def) (answers.Write (Ok 3)) both_written = steps_so worked_policies first_written (writes_on 4 def) (answers.Write (Ok 3)) refl in
    record { answer = inl refl; end = s.end; control = s.control; heard = s.heard; openings = tt; others = s.others; lacking = λ lacks. cc }

pub resets : IsStep worked_policies both_written (resets_with 7) (answers.Reset (Ok tt)) first_reset
unfolding first_reset
resets =
    let s : StepsSo worked_policies both_written (resets_with 7) (answers.Reset (Ok tt)) first_reset = steps_so worked_policies both_written (resets_with 7) (answers.Reset (Ok tt)) refl in
    record { answer = inl refl; end = s.end; control = s.control; heard = s.heard; openings = tt; others = s.others; lacking = λ lacks. cc }

pub gives : IsStep worked_policies first_reset asks_datagram (gives_bytes 232) pair_sent
unfolding pair_sent
gives =
    let s : StepsSo worked_policies first_reset asks_datagram (gives_bytes 232) pair_sent = steps_so worked_policies first_reset asks_datagram (gives_bytes 232) refl in
    record { answer = inl refl; end = s.end; control = s.control; heard = s.heard; openings = tt; others = s.others; lacking = tt }

pub takes : IsStep worked_policies pair_sent delivers (answers.Deliver receives.Taken) pair_taken
unfolding pair_taken
takes =
    let s : StepsSo worked_policies pair_sent delivers (answers.Deliver receives.Taken) pair_taken = steps_so worked_policies pair_sent delivers (answers.Deliver receives.Taken) refl in
    record { answer = inl refl; end = s.end; control = s.control; heard = s.heard; openings = tt; others = s.others; lacking = tt }

pub accepts_first : IsStep worked_policies pair_taken accepts_stream (answers.Accept (Some 0)) first_accepted
unfolding pair_taken
accepts_first =
    let s : StepsSo worked_policies pair_taken accepts_stream (answers.Accept (Some 0)) first_accepted = steps_so worked_policies pair_taken accepts_stream (answers.Accept (Some 0)) refl in
    record { answer = refl; end = s.end; control = s.control; heard = s.heard; openings = tt; others = s.others; lacking = tt }

pub accepts_both : IsStep worked_policies first_accepted accepts_stream (answers.Accept (Some 4)) both_accepted
unfolding pair_taken
accepts_both =
    let s : StepsSo worked_policies first_accepted accepts_stream (answers.Accept (Some 4)) both_accepted = steps_so worked_policies first_accepted accepts_stream (answers.Accept (Some 4)) refl in
    record { answer = refl; end = s.end; control = s.control; heard = s.heard; openings = tt; others = s.others; lacking = tt }

pub tells_reset : IsStep worked_policies both_accepted asks_reset (answers.ReceivedReset (Ok (Some 7))) reset_told
unfolding reset_told
tells_reset =
    let s : StepsSo worked_policies both_accepted asks_reset (answers.ReceivedReset (Ok (Some 7))) reset_told = steps_so worked_policies both_accepted asks_reset (answers.ReceivedReset (Ok (Some 7))) refl in
    record { answer = refl; end = s.end; control = s.control; heard = s.heard; openings = tt; others = s.others; lacking = tt }

-- ---- the read

reads_so : ReadsSo reset_told 4 true second_bounds second_nexts second_read.server
unfolding reset_told
reads_so = record { answer = (refl, (inl refl, (inl refl, tt))); lacking = (λ lacks. cc, (λ lacks. cc, tt)); end = refl }

reads_only : second_read ≡ with_server reset_told second_read.server
reads_only = refl

pub reads : (read : ReadCall) → ReadsSecond second_bounds read → IsStep worked_policies reset_told (reads_stream read) (answers.Read (Ok second_nexts)) second_read
reads = reads_at reset_told second_read 4 true second_bounds second_nexts reads_so reads_only

-- ---- the stop

pub stops : IsStep worked_policies second_read stops_second (answers.Stop (Ok tt)) second_stopped
unfolding second_stopped
stops =
    let s : StepsSo worked_policies second_read stops_second (answers.Stop (Ok tt)) second_stopped = steps_so worked_policies second_read stops_second (answers.Stop (Ok tt)) refl in
    record { answer = inl refl; end = s.end; control = s.control; heard = s.heard; openings = tt; others = s.others; lacking = λ lacks. cc }

pub gives_stop : IsStep worked_policies second_stopped asks_server (gives_bytes 230) stop_sent
unfolding stop_sent
gives_stop =
    let s : StepsSo worked_policies second_stopped asks_server (gives_bytes 230) stop_sent = steps_so worked_policies second_stopped asks_server (gives_bytes 230) refl in
    record { answer = inl refl; end = s.end; control = s.control; heard = s.heard; openings = tt; others = s.others; lacking = tt }

pub takes_stop : IsStep worked_policies stop_sent client_hears (answers.Deliver receives.Taken) stop_taken
unfolding stop_taken
takes_stop =
    let s : StepsSo worked_policies stop_sent client_hears (answers.Deliver receives.Taken) stop_taken = steps_so worked_policies stop_sent client_hears (answers.Deliver receives.Taken) refl in
    record { answer = inl refl; end = s.end; control = s.control; heard = s.heard; openings = tt; others = s.others; lacking = tt }

pub tells_stop : IsStep worked_policies stop_taken client_asks tells_stopped stop_told
unfolding stop_taken
tells_stop =
    let s : StepsSo worked_policies stop_taken client_asks tells_stopped stop_told = steps_so worked_policies stop_taken client_asks tells_stopped refl in
    record { answer = refl; end = s.end; control = s.control; heard = s.heard; openings = tt; others = s.others; lacking = tt }

pub tells_nothing : IsStep worked_policies stop_told client_asks (answers.Event None) nothing_told
unfolding stop_taken
tells_nothing =
    let s : StepsSo worked_policies stop_told client_asks (answers.Event None) nothing_told = steps_so worked_policies stop_told client_asks (answers.Event None) refl in
    record { answer = refl; end = s.end; control = s.control; heard = s.heard; openings = tt; others = s.others; lacking = tt }

pub writes_no_more : IsStep worked_policies nothing_told (writes_on 4 abc) (answers.Write (Err (write_errors.Stopped 9))) write_refused
unfolding stop_taken
writes_no_more =
    let s : StepsSo worked_policies nothing_told (writes_on 4 abc) (answers.Write (Err (write_errors.Stopped 9))) write_refused = steps_so worked_policies nothing_told (writes_on 4 abc) (answers.Write (Err (write_errors.Stopped 9))) refl in
    record { answer = inl refl; end = s.end; control = s.control; heard = s.heard; openings = tt; others = s.others; lacking = λ lacks. cc }

pub resets_no_more : IsStep worked_policies write_refused (resets_with 8) (answers.Reset (Err update_errors.ClosedStream)) reset_refused
unfolding stop_taken
resets_no_more =
    let s : StepsSo worked_policies write_refused (resets_with 8) (answers.Reset (Err update_errors.ClosedStream)) reset_refused = steps_so worked_policies write_refused (resets_with 8) (answers.Reset (Err update_errors.ClosedStream)) refl in
    record { answer = inl refl; end = s.end; control = s.control; heard = s.heard; openings = tt; others = s.others; lacking = λ lacks. cc }

-- ---- what is seen

abbrev pub both_open_view : View
both_open_view = record { client = open_view; server = open_view }

abbrev pub given_view : View
given_view = record { client = sent_view; server = open_view }

abbrev taken_view : View
taken_view = record { client = sent_view; server = waiting_view }

abbrev stopped_view : View
stopped_view = record { client = sent_view; server = sent_view }

abbrev heard_view : View
heard_view = record { client = waiting_view; server = sent_view }

pub reset_seen : both_open_view ≡ view_of first_reset
unfolding first_reset
reset_seen = refl

pub given_seen : given_view ≡ view_of pair_sent
unfolding pair_sent
given_seen = refl

taken_seen : taken_view ≡ view_of pair_taken
unfolding pair_taken
taken_seen = refl

first_seen : taken_view ≡ view_of first_accepted
unfolding pair_taken
first_seen = refl

both_seen : taken_view ≡ view_of both_accepted
unfolding pair_taken
both_seen = refl

told_seen : taken_view ≡ view_of reset_told
unfolding reset_told
told_seen = refl

read_seen : taken_view ≡ view_of second_read
unfolding reset_told
read_seen = refl

stopped_seen : taken_view ≡ view_of second_stopped
unfolding second_stopped
stopped_seen = refl

sent_seen : stopped_view ≡ view_of stop_sent
unfolding stop_sent
sent_seen = refl

heard_seen : heard_view ≡ view_of stop_taken
unfolding stop_taken
heard_seen = refl

stop_seen : heard_view ≡ view_of stop_told
unfolding stop_taken
stop_seen = refl

nothing_seen : heard_view ≡ view_of nothing_told
unfolding stop_taken
nothing_seen = refl

write_seen : heard_view ≡ view_of write_refused
unfolding stop_taken
write_seen = refl

last_seen : heard_view ≡ view_of reset_refused
unfolding stop_taken
last_seen = refl

-- ---- the run

-- what the machine does
abbrev Goes : ReadCall → Type 0
Goes read = Follows worked_policies both_steady (paired_events read) paired_answers paired_views reset_refused

pub follows : (read : ReadCall) → ReadsSecond second_bounds read → Goes read
follows read by = (
  first_open,
  opens_first,
  refl,
  (
    both_open,
    opens_both,
    refl,
    (
      first_written,
      writes_first,
      refl,
      (
        both_written,
        writes_both,
        refl,
        (
          first_reset,
          resets,
          reset_seen,
          (
            pair_sent,
            gives,
            given_seen,
            (
              pair_taken,
              takes,
              taken_seen,
              (
                first_accepted,
                accepts_first,
                first_seen,
                (
                  both_accepted,
                  accepts_both,
                  both_seen,
                  (
                    reset_told,
                    tells_reset,
                    told_seen,
                    (
                      second_read,
                      reads read by,
                      read_seen,
                      (
                        second_stopped,
                        stops,
                        stopped_seen,
                        (
                          stop_sent,
                          gives_stop,
                          sent_seen,
                          (
                            stop_taken,
                            takes_stop,
                            heard_seen,
                            (
                              stop_told,
                              tells_stop,
                              stop_seen,
                              (
                                nothing_told,
                                tells_nothing,
                                nothing_seen,
                                (write_refused, writes_no_more, write_seen, (reset_refused, resets_no_more, last_seen, refl)),
                              ),
                            ),
                          ),
                        ),
                      ),
                    ),
                  ),
                ),
              ),
            ),
          ),
        ),
      ),
    ),
  ),
)

gave_pair : client_datagram 0 0 paired_payload ∷ [] ≡ reset_refused.from_client
unfolding stop_taken
gave_pair = refl

gave_stop : from_server 0 stop_payload ∷ [] ≡ reset_refused.from_server
unfolding stop_taken
gave_stop = refl

codes_are : (read : ReadCall) → AllSmall (paired_events read)
codes_are read = (tt, (tt, (tt, (tt, (omega arith, (tt, (tt, (tt, (tt, (tt, (tt, (omega arith, (tt, (tt, (tt, (tt, (tt, (omega arith, tt))))))))))))))))))

pub is_run : (read : ReadCall) → ReadsSecond second_bounds read → IsRun (paired_run read) reset_refused
is_run read by = record { codes = small_codes (paired_events read) (codes_are read); follows = follows read by; from_client = gave_pair; from_server = gave_stop }

-- ---- what came

pub took_pair : (read : ReadCall) → took (paired_run read) Server 18 ≡ record { number = 0; frames = paired_frames } ∷ []
unfolding pair_taken
took_pair read = refl
