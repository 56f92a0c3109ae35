-- The worked run, event by event: what each is answered, and what it leaves.
use Rattle.std.proofs.Common.{◌≡◌, ◌<◌, ℕ, List, [], ◌∷◌, Some, Ok, Bool, true, false, refl, inl, inr, ap, subst, sym, ◌∙◌, lit<, lit≤, arith, ◌++◌}
use Rattle.quic_wire_core.specs.declared.stream_id.Side.TheVariants.{Client, Server}
use Rattle.quic_wire_core.specs.declared.shared.EcnCodepoint.TheVariants.{Ect0}
use Rattle.quic_wire.specs.Value.{FrameValue, stream}
use Rattle.quic_wire.specs.Grammar.{Numbers, Payload}
use Rattle.quic_parameters.specs.ParametersRead.{entry_at, whole_at, met_after, met_within, met_in, values_met, judged, parameters_at}
use Rattle.quic_machine.specs.declared.answers.Received.TheVariants as receives
use Rattle.quic_machine.specs.declared.answers.DropReason.TheVariants as drops
use Rattle.quic_machine.specs.declared.run.ReadCall.{ReadCall}
use Rattle.quic_machine.specs.declared.run.Answer.TheVariants as answers
use Rattle.quic_config.specs.Transport.{parameters_of}
use Rattle.quic_worked.specs.Settings.{plain_settings}
use Rattle.quic_streams_state.specs.Reading.{told_bytes, after_read_begun}
use Rattle.quic_machine.specs.End.{End, MadeFrom, IsMade, streams_at, with_streams}
use Rattle.quic_machine.specs.Control.{Control}
use Rattle.quic_machine.specs.Heard.{Heard}
use Rattle.quic_machine.specs.Machine.{World, IsStep, Follows, changed, view_of}
use Rattle.quic_machine.specs.StreamCalls.{IsRead}
use Rattle.quic_machine.specs.Calls.{after_reads}
use Rattle.quic_machine.specs.Lacking.{NextsLack}
use Rattle.quic_machine.specs.Poll.{IsDatagram}
use Rattle.quic_headline.specs.Runs.{Packet, WasTaken, HasArrived, EndHasArrived}
use Rattle.quic_headline.specs.Observer.{took}
use Rattle.quic_worked.specs.Worked.{with_server, steady, NextAnswers, ReadsAs, ReadsBy, two_chunks, parameters_with, worked_parameters, few_kept, few_started, few_ended, client_gives, client_id, server_id, client_made, server_made, started, once_opened, once_written, once_ended, once_sent, once_taken, once_accepted, once_read, hello_frame, hello_payload, hello_datagram, opens_stream, writes_hello, finishes_stream, asks_datagram, delivers, accepts_stream, reads_stream, all_nexts, gives_bytes, worked_policies, worked_events, worked_answers, sent_view, worked_views, worked_run, once_again, shut, id_frame, id_payload, behind_ids, hello_whole, server_open, server_waiting, both_steady}
use Rattle.quic_worked.proofs.Steps.{server_alone, counts_so}

pub parameters_say : parameters_at worked_parameters ≡ Ok (parameters_of plain_settings)
unfolding parameters_at judged values_met met_in met_within met_after whole_at entry_at
parameters_say = refl

pub client_is_made : MadeFrom Client plain_settings steady worked_parameters client_id server_id 0 0 true (λ n. 63)
    client_made
client_is_made =
    subst (λ read. IsMade Client plain_settings steady read client_id server_id 0 0 true (λ n. 63) client_made)
    (sym parameters_say) refl

pub server_is_made : MadeFrom Server plain_settings shut worked_parameters server_id client_id 0 0 true (λ n. 63)
    server_made
server_is_made =
    subst (λ read. IsMade Server plain_settings shut read server_id client_id 0 0 true (λ n. 63) server_made)
    (sym parameters_say) refl

pub steady_is_made : MadeFrom Server plain_settings steady worked_parameters server_id client_id 0 0 true (λ n. 63)
    both_steady.server
steady_is_made =
    subst (λ read. IsMade Server plain_settings steady read server_id client_id 0 0 true (λ n. 63) both_steady.server)
    (sym parameters_say) refl

few_say : parameters_at (parameters_with 5) ≡ Ok few_kept
unfolding parameters_at judged values_met met_in met_within met_after whole_at entry_at
few_say = refl

pub few_is_made : MadeFrom Client plain_settings steady (parameters_with 5) client_id server_id 0 0 true (λ n. 63)
    few_started.client
few_is_made =
    subst (λ read. IsMade Client plain_settings steady read client_id server_id 0 0 true (λ n. 63) few_started.client)
    (sym few_say) refl

-- its first datagram tells four ids
pub few_given : (client_gives few_ended.client 0).answer ≡ Ok (Some (record { size = 146; ecn = Some Ect0; remote = 0 }))
unfolding once_taken
few_given = refl

pub opens : IsStep worked_policies started opens_stream (answers.Open (Some 0)) once_opened
opens = record { answer = refl; end = refl; control = refl; heard = counts_so worked_policies started opens_stream (answers.Open (Some 0)); openings = tt; others = refl; lacking = tt }

pub writes : IsStep worked_policies once_opened writes_hello (answers.Write (Ok 5)) once_written
writes = record { answer = inl refl; end = refl; control = refl; heard = counts_so worked_policies once_opened writes_hello (answers.Write (Ok 5)); openings = tt; others = refl; lacking = λ lacks. cc }

pub finishes : IsStep worked_policies once_written finishes_stream (answers.Finish (Ok tt)) once_ended
finishes = record { answer = inl refl; end = refl; control = refl; heard = counts_so worked_policies once_written finishes_stream (answers.Finish (Ok tt)); openings = tt; others = refl; lacking = λ lacks. cc }

pub gives : IsStep worked_policies once_ended asks_datagram (gives_bytes 230) once_sent
unfolding once_sent
gives = record { answer = inl refl; end = refl; control = refl; heard = counts_so worked_policies once_ended asks_datagram (gives_bytes 230); openings = tt; others = refl; lacking = tt }

pub takes : IsStep worked_policies once_sent delivers (answers.Deliver receives.Taken) once_taken
unfolding once_taken
takes = record { answer = inl refl; end = refl; control = refl; heard = counts_so worked_policies once_sent delivers (answers.Deliver receives.Taken); openings = tt; others = refl; lacking = tt }

pub drops_duplicate : IsStep worked_policies once_taken delivers
    (answers.Deliver (receives.Dropped drops.Duplicate)) once_again
unfolding once_taken
drops_duplicate = record { answer = inl refl; end = refl; control = refl; heard = refl; openings = tt; others = refl; lacking = tt }

pub accepts : IsStep worked_policies once_again accepts_stream (answers.Accept (Some 0)) once_accepted
unfolding once_taken
accepts = record { answer = refl; end = refl; control = refl; heard = counts_so worked_policies once_again accepts_stream (answers.Accept (Some 0)); openings = tt; others = refl; lacking = tt }

-- a read of this stream at the server, in order or not, by these bounds, is answered so, and leaves
-- this end
pub record ReadsSo (w : World) (id : ℕ) (ordered : Bool) (mosts : List ℕ) (nexts : NextAnswers) (next : End) : Type 0 where
  pub answer : IsRead w.server.streams id ordered mosts (answers.Read (Ok nexts))
  pub lacking : NextsLack told_bytes (after_read_begun w.server.streams id ordered) id mosts nexts
  pub end : next ≡ with_streams w.server (after_reads (streams_at w.server) id ordered mosts nexts)

-- so it is of any read of that stream, in that order, by these bounds
pub reads_by : (w : World) (id : ℕ) (ordered : Bool) (mosts : List ℕ) (nexts : NextAnswers) (next : End) → ReadsSo w id ordered mosts nexts next
    → (read : ReadCall) → ReadsAs id ordered mosts read → ReadsSo w read.id read.ordered read.nexts.items nexts next
reads_by w id ordered mosts nexts next so read by =
    let by_mosts : ReadsSo w id ordered read.nexts.items nexts next = subst (λ (ms : List ℕ). ReadsSo w id ordered ms nexts next) (sym by.bounds) so in
    let by_order : ReadsSo w id read.ordered read.nexts.items nexts next = subst (λ (b : Bool). ReadsSo w id b read.nexts.items nexts next) (sym by.ordered) by_mosts in
    subst (λ (n : ℕ). ReadsSo w n read.ordered read.nexts.items nexts next) (sym by.id) by_order

-- it is a step of the server, which gives no datagram, whose controller is told nothing, and which
-- counts nothing
pub reads_at : (w next : World) (id : ℕ) (ordered : Bool) (mosts : List ℕ) (nexts : NextAnswers) → ReadsSo w id ordered mosts nexts next.server → next ≡ with_server w next.server
    → (read : ReadCall) → ReadsAs id ordered mosts read → IsStep worked_policies w (reads_stream read) (answers.Read (Ok nexts)) next
reads_at w next id ordered mosts nexts so alone read by =
    let all = reads_by w id ordered mosts nexts next.server so read by in
    let control : next.server_control ≡ w.server_control = ap (λ (x : World). x.server_control) alone in
    let heard : next.server_heard ≡ w.server_heard = ap (λ (x : World). x.server_heard) alone in
    record {
      answer = all.answer;
      end = all.end;
      control = control;
      heard = heard;
      openings = tt;
      others =
          alone
          ∙ server_alone w next.server
          ∙ ap (λ (c : Control). changed Server w next.server [] c w.server_heard) (sym control)
          ∙ ap (λ (h : Heard). changed Server w next.server [] next.server_control h) (sym heard);
      lacking = all.lacking;
    }

reads_two : ReadsSo once_accepted 0 true two_chunks all_nexts once_read.server
unfolding once_taken
reads_two = record { answer = (refl, (inl refl, (inl refl, tt))); lacking = (λ lacks. cc, (λ lacks. cc, tt)); end = refl }

-- a read changes the server alone
reads_only : once_read ≡ with_server once_accepted once_read.server
reads_only = refl

pub reads : (read : ReadCall) → ReadsBy two_chunks read
    → IsStep worked_policies once_accepted (reads_stream read) (answers.Read (Ok all_nexts)) once_read
reads = reads_at once_accepted once_read 0 true two_chunks all_nexts reads_two reads_only

-- what is seen once the datagram was given, and once it was taken
pub sent_seen : record { client = sent_view; server = server_open } ≡ view_of once_sent
unfolding once_sent
sent_seen = refl

pub taken_seen : record { client = sent_view; server = server_waiting } ≡ view_of once_taken
unfolding once_taken
taken_seen = refl

pub accepted_seen : record { client = sent_view; server = server_waiting } ≡ view_of once_accepted
unfolding once_taken
accepted_seen = refl

pub read_seen : record { client = sent_view; server = server_waiting } ≡ view_of once_read
unfolding once_taken
read_seen = refl

pub follows : (read : ReadCall) → ReadsBy two_chunks read
    → Follows worked_policies started (worked_events read) worked_answers worked_views once_read
follows read by = (
  once_opened,
  opens,
  refl,
  (
    once_written,
    writes,
    refl,
    (
      once_ended,
      finishes,
      refl,
      (
        once_sent,
        gives,
        sent_seen,
        (
          once_taken,
          takes,
          taken_seen,
          (once_again, drops_duplicate, taken_seen, (once_accepted, accepts, accepted_seen, (once_read, reads read by, read_seen, refl))),
        ),
      ),
    ),
  ),
)

-- the client gave the datagram, and the server none
pub gave_hello : hello_datagram ∷ [] ≡ once_read.from_client
unfolding once_taken
gave_hello = refl

pub gave_none : [] ≡ once_read.from_server
unfolding once_taken
gave_none = refl

-- ---- the datagram

-- type, id and length, each in one byte
header_spelled : Numbers (0x0b ∷ 0x00 ∷ 0x05 ∷ []) (0x0b ∷ 0x00 ∷ 0x05 ∷ [])
header_spelled = (
  0x0b ∷ [],
  0x00 ∷ 0x05 ∷ [],
  inl (lit< tt, refl),
  (
    0x00 ∷ [],
    0x05 ∷ [],
    inl (lit< tt, refl),
    (0x05 ∷ [], [], inl (lit< tt, refl), refl, refl),
    refl,
  ),
  refl,
)

-- behind other payloads it is the frame and nothing else
word_spelled : Payload (stream hello_frame ∷ []) hello_payload
word_spelled = (hello_payload, [], record { written = false; sized = true; offset = refl; ends = tt; text = (0x0b ∷ 0x00 ∷ 0x05 ∷ [], header_spelled, refl) }, refl, refl)

-- the numbers of a frame that tells an id, each in one byte
id_numbers : (number : ℕ) → number < 64 → Numbers (0x18 ∷ number ∷ 0x00 ∷ []) (0x18 ∷ number ∷ 0x00 ∷ [])
id_numbers number below = (
  0x18 ∷ [],
  number ∷ 0x00 ∷ [],
  inl (lit< tt, refl),
  (number ∷ [], 0x00 ∷ [], inl (below, refl), (0x00 ∷ [], [], inl (lit< tt, refl), refl, refl), refl),
  refl,
)

-- such a frame, and others behind it
id_spelled : (number : ℕ) → number < 64 → (frames : List FrameValue) (rest : List ℕ) → Payload frames rest → Payload (id_frame number ∷ frames) (id_payload number ++ rest)
id_spelled number below frames rest spelled = (
  id_payload number,
  rest,
  (record { retires = omega arith; some = lit≤ tt; short = lit≤ tt; token = refl }, (0x18 ∷ number ∷ 0x00 ∷ [], id_numbers number below, refl)),
  spelled,
  refl,
)

-- the payload is the seven ids, and the frame behind them
pub hello_spelled : Payload (behind_ids (stream hello_frame ∷ [])) hello_whole
hello_spelled =
    id_spelled 1 (lit< tt) (id_frame 2 ∷ id_frame 3 ∷ id_frame 4 ∷ id_frame 5 ∷ id_frame 6 ∷ id_frame 7 ∷ stream hello_frame ∷ []) (id_payload 2 ++ id_payload 3 ++ id_payload 4 ++ id_payload 5 ++ id_payload 6 ++ id_payload 7 ++ hello_payload)
    (id_spelled 2 (lit< tt) (id_frame 3 ∷ id_frame 4 ∷ id_frame 5 ∷ id_frame 6 ∷ id_frame 7 ∷ stream hello_frame ∷ []) (id_payload 3 ++ id_payload 4 ++ id_payload 5 ++ id_payload 6 ++ id_payload 7 ++ hello_payload)
    (id_spelled 3 (lit< tt) (id_frame 4 ∷ id_frame 5 ∷ id_frame 6 ∷ id_frame 7 ∷ stream hello_frame ∷ []) (id_payload 4 ++ id_payload 5 ++ id_payload 6 ++ id_payload 7 ++ hello_payload)
    (id_spelled 4 (lit< tt) (id_frame 5 ∷ id_frame 6 ∷ id_frame 7 ∷ stream hello_frame ∷ []) (id_payload 5 ++ id_payload 6 ++ id_payload 7 ++ hello_payload)
    (id_spelled 5 (lit< tt) (id_frame 6 ∷ id_frame 7 ∷ stream hello_frame ∷ []) (id_payload 6 ++ id_payload 7 ++ hello_payload)
    (id_spelled 6 (lit< tt) (id_frame 7 ∷ stream hello_frame ∷ []) (id_payload 7 ++ hello_payload) (id_spelled 7 (lit< tt) (stream hello_frame ∷ []) hello_payload word_spelled))))))

pub hello_is : IsDatagram worked_policies.client 0 0 server_id (behind_ids (stream hello_frame ∷ [])) hello_datagram
hello_is = record { payload = hello_whole; spells = hello_spelled; is = refl }

-- ---- what came

-- the packet that the server took
abbrev pub hello_packet : Packet
hello_packet = record { number = 0; frames = behind_ids (stream hello_frame ∷ []) }

pub nothing_before : (read : ReadCall) → took (worked_run read) Server 4 ≡ []
nothing_before read = refl

pub took_hello : (read : ReadCall) → took (worked_run read) Server 8 ≡ hello_packet ∷ []
unfolding once_taken
took_hello read = refl

-- its frame was taken
pub frame_taken : WasTaken (hello_packet ∷ []) hello_frame
frame_taken = record { packet = hello_packet; was_taken = inl refl; carried = inr (inr (inr (inr (inr (inr (inr (inl refl))))))) }

byte_arrives : (offset : ℕ) → offset < 5 → HasArrived (hello_packet ∷ []) 0 offset
byte_arrives offset below = record { frame = hello_frame; taken = frame_taken; of_stream = refl; from = omega arith; below = below }

pub arrives : (read : ReadCall) (offset : ℕ) → offset < 5 → HasArrived (took (worked_run read) Server 8) 0 offset
arrives read offset below = subst (λ (ps : List Packet). HasArrived ps 0 offset) (sym (took_hello read)) (byte_arrives offset below)

end_of_hello : EndHasArrived (hello_packet ∷ []) 0 5
end_of_hello = record { frame = hello_frame; taken = frame_taken; of_stream = refl; fin = refl; behind = refl }

pub end_arrives : (read : ReadCall) → EndHasArrived (took (worked_run read) Server 8) 0 5
end_arrives read = subst (λ (ps : List Packet). EndHasArrived ps 0 5) (sym (took_hello read)) end_of_hello
