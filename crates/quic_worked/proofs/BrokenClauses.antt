-- Each broken run breaks a clause of the headline.
use Rattle.std.proofs.Common.{◌≡◌, ◌+◌, ◌<◌, ◌≤◌, ℕ, List, [], ◌∷◌, ◌++◌, Some, None, Result, Ok, Err, Bool, true, false, Option, refl, inl, inr, ap, sym, ◌∙◌, subst, arith, length}
use Rattle.std.specs.Prelude.{slice_index, ◌==◌, ◌&&◌, not, eqb, if◌then◌else◌}
use Rattle.std.specs.List.{IsDistinct}
use Rattle.quic_wire_core.specs.declared.stream_id.Side.TheVariants.{Client, Server}
use Rattle.quic_wire_core.specs.declared.stream_id.Dir.TheVariants.{Bi}
use Rattle.quic_wire.specs.Value.{ack, stream}
use Rattle.quic_machine.specs.declared.run.Answer.TheVariants as answers
use Rattle.quic_assembler.specs.declared.assembler.Chunk.{Chunk}
use Rattle.quic_streams_parts.specs.declared.answers.WriteError.{WriteError}
use Rattle.quic_streams_parts.specs.declared.answers.FinishError.{FinishError}
use Rattle.quic_streams_parts.specs.declared.answers.FinishError.TheVariants as finish_errors
use Rattle.quic_machine.specs.declared.answers.Received.{Received}
use Rattle.quic_machine.specs.declared.answers.Received.TheVariants as receives
use Rattle.quic_machine.specs.declared.run.ReadCall.{ReadCall}
use Rattle.quic_headline.specs.Runs.{Run, Told, Packet, Next, In, IsNamed, until, written, ended, nexts, chunks_of, reads, bytes_of, offsets_of, WasNamed, HasArrived}
use Rattle.quic_headline.specs.Observer.{Sent, took, acked_until}
use Rattle.quic_headline.specs.Headline.{OrderedPrefix, Slices, Once, EndAfterAll, NoneToGive, BlockedOnlyWithoutBytes, AcceptsAll, FinishedMeansArrived, AllHeld, IsAcknowledged, ToldOnce, FinishedIsTold, AcknowledgedWereTaken, LossTimerFollows, LossTimersFollow, AckTimerFollows, AckTimersFollow, NumbersRise}
use Rattle.quic_worked.specs.Acknowledged.{client_acked, server_acked}
use Rattle.quic_worked.specs.Worked.{NextAnswers, gives_chunk, all_nexts, once_sent, once_taken, hello, hello_frame, run_with, server_id, behind_ids}
use Rattle.quic_worked.specs.Broken.{answers_with, duplicate, hellp, changed_nexts, repeated_nexts, early_nexts, changed_byte, repeated_bytes, unwritten_byte, early_end, unwritten_end, taken_twice, blocked_read, never_accepted, early_finish, told_twice, early_acknowledgement, never_timed, still_timed, empty_datagram, repeated_number, answered_run, asked_run, tells_finished}
use Rattle.quic_worked.proofs.WorkedNumber.{only_number}
use Rattle.quic_worked.proofs.WorkedRun.{hello_packet, frame_taken}

-- what the nexts of the server answered: those of the read
pub nexts_are : (read : ReadCall) (count : Result ℕ WriteError) (done : Result (Unit {0}) FinishError) (first second : Received) (id : Option ℕ) (said : NextAnswers) → read.id ≡ 0
    → nexts 0 (until (run_with read (answers_with count done first second id said)) Server 8) ≡ said ++ []
nexts_are read count done first second id said e = ap (λ (n : ℕ). (if n == 0 then said else []) ++ []) e

-- of a run whose deliveries and accept went well
pub nexts_of : (read : ReadCall) (count : Result ℕ WriteError) (done : Result (Unit {0}) FinishError) (said : NextAnswers) → read.id ≡ 0
    → nexts 0 (until (run_with read (answers_with count done receives.Taken duplicate (Some 0) said)) Server 8) ≡ said ++ []
nexts_of read count done said e = nexts_are read count done receives.Taken duplicate (Some 0) said e

-- ---- ordered reads

-- a read in order picks of no stream
pub reads_in_order : (read : ReadCall) (id : ℕ) → read.ordered ≡ true → not ((read.id == id) && not read.ordered) && true ≡ true
reads_in_order read id o = rw o (both_ways (read.id == id))
  where
    both_ways : (b : Bool) → not (b && false) && true ≡ true
    both_ways true = refl
    both_ways false = refl

pub changed_prefix : (read : ReadCall) → read.id ≡ 0 → read.ordered ≡ true → OrderedPrefix (run_with read changed_byte) → ⊥
changed_prefix read e o h =
    let p = h Server 0 8 refl (reads_in_order read 0 o) in
    let whole : hellp ++ p.0 ≡ hello = ap (λ (ns : List Next). bytes_of (chunks_of ns) ++ p.0) (sym (nexts_of read (Ok 5) (Ok tt) changed_nexts e)) ∙ p.1 in
    let fifth : ◌≡◌ {A = ℕ} 112 111 = ap (λ (xs : List ℕ). slice_index xs 4) whole in
    omega arith

pub changed_slice : (read : ReadCall) → read.id ≡ 0 → Slices (run_with read changed_byte) → ⊥
changed_slice read e h =
    let chunk : Chunk = record { offset = 0; bytes = hellp } in
    let given : In chunk (reads 0 (until (run_with read changed_byte) Server 8)) = subst (λ (ns : List Next). In chunk (chunks_of ns)) (sym (nexts_of read (Ok 5) (Ok tt) changed_nexts e)) (inl refl) in
    let slice : hello ≡ hellp = h Server 0 8 chunk refl given in
    let fifth : ◌≡◌ {A = ℕ} 111 112 = ap (λ (xs : List ℕ). slice_index xs 4) slice in
    omega arith

pub repeated_prefix : (read : ReadCall) → read.id ≡ 0 → read.ordered ≡ true → OrderedPrefix (run_with read repeated_bytes) → ⊥
repeated_prefix read e o h =
    let p = h Server 0 8 refl (reads_in_order read 0 o) in
    let whole : (hello ++ hello) ++ p.0 ≡ hello = ap (λ (ns : List Next). bytes_of (chunks_of ns) ++ p.0) (sym (nexts_of read (Ok 5) (Ok tt) repeated_nexts e)) ∙ p.1 in
    cc

pub repeated_once : (read : ReadCall) → read.id ≡ 0 → Once (run_with read repeated_bytes) → ⊥
unfolding IsDistinct
repeated_once read e h =
    let distinct : IsDistinct eqb (offsets_of (chunks_of repeated_nexts)) = subst (λ (ns : List Next). IsDistinct eqb (offsets_of (chunks_of ns))) (nexts_of read (Ok 5) (Ok tt) repeated_nexts e) (h Server 0 8 refl) in
    let again : true ≡ false = distinct.0.1.1.1.1.0 in
    cc

pub unwritten_prefix : (read : ReadCall) → read.id ≡ 0 → read.ordered ≡ true → OrderedPrefix (run_with read unwritten_byte) → ⊥
unwritten_prefix read e o h =
    let p = h Server 0 8 refl (reads_in_order read 0 o) in
    let whole : hello ++ p.0 ≡ 104 ∷ 101 ∷ 108 ∷ 108 ∷ [] = ap (λ (ns : List Next). bytes_of (chunks_of ns) ++ p.0) (sym (nexts_of read (Ok 4) (Ok tt) all_nexts e)) ∙ p.1 in
    cc

pub early_last : (read : ReadCall) → read.id ≡ 0 → EndAfterAll (run_with read early_end) → ⊥
early_last read e h =
    let p = h Server 0 8 [] (Ok None ∷ []) refl (nexts_of read (Ok 5) (Ok tt) early_nexts e) in
    p.1 0 (omega arith)

pub unwritten_last : (read : ReadCall) → read.id ≡ 0 → EndAfterAll (run_with read unwritten_end) → ⊥
unwritten_last read e h =
    let p = h Server 0 8 (gives_chunk hello ∷ []) [] refl (nexts_of read (Ok 5) (Err finish_errors.ClosedStream) all_nexts e) in
    let never : false ≡ true = p.0 in
    cc

-- ---- what came

-- the packet that the server took before it was asked
took_blocked : (read : ReadCall) → took (run_with read blocked_read) Server 7 ≡ hello_packet ∷ []
unfolding once_taken
took_blocked read = refl

first_arrived : (id : ℕ) → id ≡ 0 → HasArrived (hello_packet ∷ []) id 0
first_arrived id e = record { frame = hello_frame; taken = frame_taken; of_stream = sym e; from = omega arith; below = omega arith }

-- where nothing was read, and nothing is to be given, the first byte hasn't come, whatever the
-- order
gives_first : (ordered : Bool) (packets : List Packet) (id : ℕ) → NoneToGive ordered packets id [] → HasArrived packets id 0 → ⊥
gives_first true packets id none a = none a
gives_first false packets id none a = none 0 a

pub blocked_blocks : (read : ReadCall) → read.id ≡ 0 → BlockedOnlyWithoutBytes (run_with read blocked_read) → ⊥
blocked_blocks read e h =
    gives_first read.ordered (took (run_with read blocked_read) Server 7) read.id (h Server 7 read [] [] refl (record { event = refl; answer = refl })).0 (subst (λ (ps : List Packet). HasArrived ps read.id 0) (sym (took_blocked read)) (first_arrived read.id e))

pub took_once : (read : ReadCall) → took (run_with read taken_twice) Server 8 ≡ hello_packet ∷ []
unfolding once_taken
took_once read = refl

took_unaccepted : (read : ReadCall) → took (run_with read never_accepted) Server 6 ≡ hello_packet ∷ []
unfolding once_taken
took_unaccepted read = refl

-- its frame opens stream 0
pub hello_named : WasNamed (hello_packet ∷ []) 0
hello_named = record { packet = hello_packet; was_taken = inl refl; frame = stream hello_frame; carried = inr (inr (inr (inr (inr (inr (inr (inl refl))))))); opens = refl }

pub never_accepts : (read : ReadCall) → AcceptsAll (run_with read never_accepted) → ⊥
never_accepts read h =
    let named : WasNamed (took (run_with read never_accepted) Server 6) 0 = subst (λ (ps : List Packet). WasNamed ps 0) (sym (took_unaccepted read)) hello_named in
    h Server 6 Bi 0 0 refl (record { event = refl; answer = refl }) named (omega arith)

-- the one event of the run tells that the stream ended, of which nothing came
pub finishes_early : FinishedMeansArrived early_finish → ⊥
finishes_early h = (h Client 0 0 refl (record { event = refl; answer = refl })).end.taken.was_taken

-- once isn't twice
pub tells_twice : FinishedIsTold told_twice → ⊥
tells_twice h = let most : 2 ≤ 1 = (h Client 0 2 refl).0 in omega (arith, most)

-- the client's datagram, as it was sent
abbrev hello_sent : Sent
hello_sent = record { id = server_id; number = 0; reference = 0; frames = behind_ids (stream hello_frame ∷ []); moment = 0; size = 230; generation = 0 }

-- it is acknowledged once the server's datagram came, and not before
pub acknowledged_last : (read : ReadCall) → acked_until (answered_run read) Client 8 ≡ hello_sent ∷ []
unfolding client_acked
acknowledged_last read = refl

pub unacknowledged : (read : ReadCall) → acked_until (answered_run read) Client 7 ≡ []
unfolding once_taken
unacknowledged read = refl

-- all of the stream stands in it
all_held : (told : List Told) → ended 0 told ≡ true → written 0 told ≡ hello → AllHeld (hello_sent ∷ []) 0 told
all_held told ends wrote = record {
  ended = ends;
  bytes = λ o below.
      let five : o < 5 = subst (λ (bs : List ℕ). o < length bs) wrote below in
      record { sent = hello_sent; among = inl refl; frame = hello_frame; carried = inr (inr (inr (inr (inr (inr (inr (inl refl))))))); of_stream = refl; from = omega arith; below = five };
  end = record { sent = hello_sent; among = inl refl; frame = hello_frame; carried = inr (inr (inr (inr (inr (inr (inr (inl refl))))))); of_stream = refl; fin = refl };
}

-- so it is where the client is asked then
asked_acked : (read : ReadCall) → acked_until (asked_run read (answers.Event None ∷ [])) Client 8 ≡ hello_sent ∷ []
unfolding client_acked
asked_acked read = refl

told_acked : (read : ReadCall) → acked_until (asked_run read (tells_finished ∷ answers.Event None ∷ [])) Client 9 ≡ hello_sent ∷ []
unfolding client_acked
told_acked read = refl

-- nor is it never
pub tells_never : (read : ReadCall) → FinishedIsTold (asked_run read (answers.Event None ∷ [])) → ⊥
tells_never read h =
    let r : Run = asked_run read (answers.Event None ∷ []) in
    let all : IsAcknowledged r Client 0 8 = (subst (λ (sents : List Sent). AllHeld sents 0 (until r Client 8)) (sym (asked_acked read)) (all_held (until r Client 8) refl refl), refl) in
    let once : ◌≡◌ {A = ℕ} 0 1 = ((h Client 0 8 refl).1 refl (record { event = refl; answer = refl })).0 all in
    omega arith

-- the worked run tells it once, then nothing
pub told_exactly : (read : ReadCall) → ToldOnce (asked_run read (tells_finished ∷ answers.Event None ∷ [])) Client 0 9
told_exactly read =
    let r : Run = asked_run read (tells_finished ∷ answers.Event None ∷ []) in
    let all : IsAcknowledged r Client 0 9 = (subst (λ (sents : List Sent). AllHeld sents 0 (until r Client 9)) (sym (told_acked read)) (all_held (until r Client 9) refl refl), refl) in
    (λ held. refl, λ none. absurd (none all))

-- ---- acknowledgements

-- the one packet that the client took: ACK of number 0
abbrev ack_packet : Packet
ack_packet = record { number = 0; frames = ack (record { largest = 0; delay = 3125; ranges = (0, 0) ∷ []; ecn = None }) ∷ [] }

took_ack : took early_acknowledgement Client 1 ≡ ack_packet ∷ []
unfolding client_acked
took_ack = refl

-- the server took nothing
pub acknowledges_early : AcknowledgedWereTaken early_acknowledgement → ⊥
acknowledges_early h =
    let named : IsNamed (ack_packet ∷ []) 0 = record { packet = ack_packet; was_taken = inl refl; frame = record { largest = 0; delay = 3125; ranges = (0, 0) ∷ []; ecn = None }; carried = inl refl; named = refl } in
    (h Client 1 0 refl (subst (λ (ps : List Packet). IsNamed ps 0) (sym took_ack) named)).was_taken

-- ---- timers

-- a datagram that asks is tracked
waits : LossTimerFollows never_timed.client → ⊥
unfolding once_sent
waits i = let clash : ◌≡◌ {A = Bool} false true = i refl in cc

pub never_sets : LossTimersFollow never_timed → ⊥
never_sets i = waits i.0

-- no packet that asks came since the acknowledgement
acknowledged : AckTimerFollows still_timed.server → ⊥
unfolding server_acked
acknowledged i = let none : 0 < 0 = i refl refl in omega (arith, none)

pub never_stops : AckTimersFollow still_timed → ⊥
never_stops i = acknowledged i.1

-- ---- numbers

-- it opens to nothing
pub empty_numbers : (read : ReadCall) → NumbersRise (empty_datagram read) → ⊥
empty_numbers read h = h Client 4 refl

-- 0 isn't above 0
pub repeats : (first second : ℕ) → first + 1 ≤ second → second ≡ 0 → ⊥
repeats first second above e = omega (arith, above, e)

pub repeated_numbers : NumbersRise repeated_number → ⊥
unfolding once_taken
repeated_numbers h =
    let p = h Client 2 refl in
    repeats p.0 p.4.0 p.4.1 (only_number p.4.0 p.4.3)
