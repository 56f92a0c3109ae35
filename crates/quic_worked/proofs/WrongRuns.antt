-- Each run of these machines breaks a clause, and the reference machine makes none of them.
use Rattle.std.proofs.Common.{◌≡◌, ◌<◌, ℕ, zero, suc, List, [], ◌∷◌, ◌++◌, Some, None, Ok, Err, Bool, true, false, refl, inl, inr, ap, sym, ◌∙◌, subst, arith, length, map, take, drop, ◌⊎◌}
use Rattle.std.specs.Prelude.{slice_index, eqb, ◌==◌, if◌then◌else◌}
use Rattle.std.specs.List.{IsDistinct}
use Rattle.quic_sets.specs.Offsets.{with_offsets}
use Rattle.quic_sets.specs.Pieces.{with_range, joining}
use Rattle.quic_wire_core.specs.TransportError.{plain_error}
use Rattle.quic_wire_core.specs.declared.stream_id.Side.TheVariants.{Client, Server}
use Rattle.quic_wire_core.specs.declared.stream_id.Dir.TheVariants.{Bi}
use Rattle.quic_wire.specs.Value.{FrameValue, StreamValue, stream, ack}
use Rattle.quic_send_buffer.specs.declared.stream_meta.StreamMeta.{StreamMeta}
use Rattle.quic_streams_parts.specs.Table.{Table}
use Rattle.quic_streams_parts.specs.declared.answers.ReadError.TheVariants as read_errors
use Rattle.quic_machine.specs.declared.answers.Received.TheVariants as receives
use Rattle.quic_machine.specs.declared.answers.State.TheVariants as states
use Rattle.quic_machine.specs.declared.run.RunEvent.{RunEvent}
use Rattle.quic_machine.specs.declared.run.ReadCall.{ReadCall}
use Rattle.quic_machine.specs.declared.run.Call.TheVariants as calls
use Rattle.quic_machine.specs.declared.run.Answer.{Answer}
use Rattle.quic_machine.specs.declared.run.Answer.TheVariants as answers
use Rattle.quic_machine.specs.declared.run.View.{View}
use Rattle.quic_machine.specs.Tracking.{TrackedPacket}
use Rattle.quic_streams_state.specs.Reading.{told_bytes, next_answer, after_read_begun}
use Rattle.quic_machine.specs.StreamCalls.{IsRead}
use Rattle.quic_machine.specs.Machine.{World, IsStep, Follows, fails}
use Rattle.quic_machine.specs.RunLaws.{one_world}
use Rattle.quic_headline.specs.Runs.{Packet, Next, In, IsTaken, IsNamed, until, written, nexts, chunks_of, bytes_of, offsets_of, WasNamed, HasArrived, EndHasArrived}
use Rattle.quic_headline.specs.Observer.{took}
use Rattle.quic_headline.specs.Duties.{Offset, Waits, IsCarried, DutiesAt}
use Rattle.quic_headline.specs.InFlight.{in_flight, but_for_record, TracksAt}
use Rattle.quic_headline.specs.Headline.{OrderedPrefix, Once, EndAfterAll, BlockedOnlyWithoutBytes, AcceptsAll, FinishedMeansArrived, AcknowledgedWereTaken, NamesWereTaken, OpensExactly, NumbersRise, LossTimerFollows, LossTimersFollow, IsNamedIn, frames_given}
use Rattle.quic_worked.specs.Acknowledged.{client_acked, ack_payload, from_server}
use Rattle.quic_worked.specs.Worked.{gives_chunk, hello, hello_frame, started, once_opened, once_written, once_sent, once_taken, once_accepted, worked_policies, ran, ReadsBy, two_chunks, delivers, sending_events, sending_answers, opens_stream, asks_datagram, accepts_stream, gives_bytes, carrying, run_with, behind_ids, ids_again}
use Rattle.quic_worked.specs.Reordered.{both_events, both_answers, both_sent}
use Rattle.quic_worked.proofs.ReorderedRun as reordered
use Rattle.quic_worked.proofs.ReorderedRun.{writes_abc, gives_abc, writes_def, gives_def}
use Rattle.quic_worked.specs.Broken.{NeverAnswers, IsNoRun, NeverLeads, repeated_nexts, sending_run, asks_event, tells_finished}
use Rattle.quic_worked.specs.Machines.{unaccepted, taken_again, cut_nexts, cut_frame, endless_nexts, hidden_end, skipping_nexts, skipped_byte, all_dropped, refused_named, long_opens, used_twice, kept_four, writing_run, late_timed, misrecorded, both_run, mistimed, told_early, taken_early, nothing_given, NeverGives, writes_second, second_events, second_answers, two_opened, two_written, two_sent, two_taken, first_accepted, both_accepted, accepted_twice, accepted_last, other_stream}
use Rattle.quic_worked.proofs.Waited.{alike}
use Rattle.quic_worked.proofs.WorkedNumber.{only_number}
use Rattle.quic_worked.proofs.WorkedRun.{opens, writes, finishes, gives, takes, drops_duplicate, hello_packet, frame_taken}
use Rattle.quic_worked.proofs.BrokenClauses.{nexts_are, nexts_of, reads_in_order, hello_named, repeats}
use Rattle.quic_worked.proofs.BrokenRuns.{IsRefused, stops, behind, behind_sent, read_of, not_next, never_reads, twice_no, accept_no, not_opened_no}
use Rattle.quic_worked.proofs.Named.{ack_of_hello, is_named, early_frames}
use Rattle.quic_worked.proofs.Rows.{Rows, behind_rows}
use Rattle.quic_worked.proofs.Steps.{counts_so}
use Rattle.quic_retransmits.specs.Retransmits.{nothing_waits}
use Rattle.quic_worked.proofs.Unmoved.{client_tells_stays}

-- ---- a duplicate is taken again

pub again_once : (read : ReadCall) → read.id ≡ 0 → Once (run_with read taken_again) → ⊥
unfolding IsDistinct
again_once read e h =
    let distinct : IsDistinct eqb (offsets_of (chunks_of repeated_nexts)) = subst (λ (ns : List Next). IsDistinct eqb (offsets_of (chunks_of ns))) (nexts_are read (Ok 5) (Ok tt) receives.Taken receives.Taken (Some 0) repeated_nexts e) (h Server 0 8 refl) in
    let again : true ≡ false = distinct.0.1.1.1.1.0 in
    cc

pub no_again : (read : ReadCall) → IsNoRun (run_with read taken_again)
no_again read = behind_sent (behind refl takes (stops _ _ _ _ _ twice_no))

-- ---- what came is dropped

took_dropped : (read : ReadCall) → took (run_with read all_dropped) Server 6 ≡ hello_packet ∷ []
unfolding once_taken
took_dropped read = refl

pub drops_all : (read : ReadCall) → AcceptsAll (run_with read all_dropped) → ⊥
drops_all read h =
    let named : WasNamed (took (run_with read all_dropped) Server 6) 0 = subst (λ (ps : List Packet). WasNamed ps 0) (sym (took_dropped read)) hello_named in
    h Server 6 Bi 0 0 refl (record { event = refl; answer = refl }) named (omega arith)

pub no_dropped : (read : ReadCall) → IsNoRun (run_with read all_dropped)
no_dropped read = behind_sent (stops _ _ _ _ _ not_opened_no)

took_unaccepted : (read : ReadCall) → took (run_with read unaccepted) Server 6 ≡ hello_packet ∷ []
unfolding once_taken
took_unaccepted read = refl

pub accepts_none : (read : ReadCall) → AcceptsAll (run_with read unaccepted) → ⊥
accepts_none read h =
    let named : WasNamed (took (run_with read unaccepted) Server 6) 0 = subst (λ (ps : List Packet). WasNamed ps 0) (sym (took_unaccepted read)) hello_named in
    h Server 6 Bi 0 0 refl (record { event = refl; answer = refl }) named (omega arith)

pub no_unaccepted : (read : ReadCall) → IsNoRun (run_with read unaccepted)
no_unaccepted read = behind_sent (behind refl takes (behind refl drops_duplicate (stops _ _ _ _ _ accept_no)))

-- ---- what was refused is acknowledged

took_refused : (read : ReadCall) → took (refused_named read) Server 7 ≡ []
unfolding once_taken
took_refused read = refl

pub names_refused : (read : ReadCall) → NamesWereTaken (refused_named read) → ⊥
names_refused read h =
    let named : IsNamedIn (frames_given (refused_named read) Server 0 (from_server 0 ack_payload)) 0 = subst (λ (fs : List FrameValue). IsNamedIn fs 0) (sym early_frames) is_named in
    (subst (λ (ps : List Packet). IsTaken ps 0) (took_refused read) (h Server 7 0 0 (from_server 0 ack_payload) refl (inl refl) named)).was_taken

refuses_no : IsRefused once_sent delivers (answers.Deliver (receives.Closed (plain_error 10)))
unfolding once_taken
refuses_no (inl e) = cc
refuses_no (inr e) = cc

pub no_refused : (read : ReadCall) → IsNoRun (refused_named read)
no_refused read = behind_sent (stops _ _ _ _ _ refuses_no)

-- ---- reads

-- the first four offsets aren't the fifth
no_fifth : In {X = ℕ} 4 (0 ∷ 1 ∷ 2 ∷ 3 ∷ []) → ⊥
no_fifth (inl e) = omega (arith, e)
no_fifth (inr (inl e)) = omega (arith, e)
no_fifth (inr (inr (inl e))) = omega (arith, e)
no_fifth (inr (inr (inr (inl e)))) = omega (arith, e)
no_fifth (inr (inr (inr (inr i)))) = i

pub cut_last : (read : ReadCall) → read.id ≡ 0 → EndAfterAll (run_with read cut_frame) → ⊥
cut_last read e h =
    let p = h Server 0 8 (gives_chunk (take 4 hello) ∷ []) [] refl (nexts_of read (Ok 5) (Ok tt) cut_nexts e) in
    no_fifth (p.1 4 (omega arith))

-- how many bytes a `next` gives, and from which offset on
abbrev size_of : Next → ℕ
size_of (Ok (Some chunk)) = length chunk.bytes
size_of (Ok None) = 0
size_of (Err e) = 0

abbrev place_of : Next → ℕ
place_of (Ok (Some chunk)) = chunk.offset
place_of (Ok None) = 0
place_of (Err e) = 0

cut_chunk : (gives_chunk (take 4 hello) ≡ gives_chunk hello) ⊎ (gives_chunk (take 4 hello) ≡ Err read_errors.Memory) → ⊥
cut_chunk (inl e) = let size : ◌≡◌ {A = ℕ} 4 5 = ap size_of e in omega arith
cut_chunk (inr e) = let size : ◌≡◌ {A = ℕ} 4 0 = ap size_of e in omega arith

cut_no : IsRead once_accepted.server.streams 0 true two_chunks (answers.Read (Ok cut_nexts)) → ⊥
unfolding once_taken
cut_no h = cut_chunk h.1.0

pub no_cut : (read : ReadCall) → ReadsBy two_chunks read → IsNoRun (run_with read cut_frame)
no_cut = never_reads cut_nexts cut_no

took_hidden : (read : ReadCall) → took (run_with read hidden_end) Server 7 ≡ hello_packet ∷ []
unfolding once_taken
took_hidden read = refl

end_came : (id : ℕ) → id ≡ 0 → EndHasArrived (hello_packet ∷ []) id 5
end_came id e = record { frame = hello_frame; taken = frame_taken; of_stream = sym e; fin = refl; behind = refl }

-- each of the five offsets was read
five_read : (offset : ℕ) → offset < 5 → In {X = ℕ} offset (0 ∷ 1 ∷ 2 ∷ 3 ∷ 4 ∷ [])
five_read zero below = inl refl
five_read (suc zero) below = inr (inl refl)
five_read (suc (suc zero)) below = inr (inr (inl refl))
five_read (suc (suc (suc zero))) below = inr (inr (inr (inl refl)))
five_read (suc (suc (suc (suc zero)))) below = inr (inr (inr (inr (inl refl))))
five_read (suc (suc (suc (suc (suc n))))) below = absurd (omega arith)

pub hidden_blocks : (read : ReadCall) → read.id ≡ 0 → BlockedOnlyWithoutBytes (run_with read hidden_end) → ⊥
hidden_blocks read e h =
    (h Server 7 read (gives_chunk hello ∷ []) [] refl (record { event = refl; answer = refl })).1 5 (subst (λ (ps : List Packet). EndHasArrived ps read.id 5) (sym (took_hidden read)) (end_came read.id e)) five_read

hidden_no : IsRead once_accepted.server.streams 0 true two_chunks (answers.Read (Ok endless_nexts)) → ⊥
unfolding once_taken
hidden_no h = elim (h.1.1.0) [ inl e ↦ cc | inr e ↦ cc ]

pub no_hidden : (read : ReadCall) → ReadsBy two_chunks read → IsNoRun (run_with read hidden_end)
no_hidden = never_reads endless_nexts hidden_no

pub skipped_prefix : (read : ReadCall) → read.id ≡ 0 → read.ordered ≡ true → OrderedPrefix (run_with read skipped_byte) → ⊥
skipped_prefix read e o h =
    let p = h Server 0 8 refl (reads_in_order read 0 o) in
    let whole : drop 1 hello ++ p.0 ≡ hello = ap (λ (ns : List Next). bytes_of (chunks_of ns) ++ p.0) (sym (nexts_of read (Ok 5) (Ok tt) skipping_nexts e)) ∙ p.1 in
    let first : ◌≡◌ {A = ℕ} 101 104 = ap (λ (xs : List ℕ). slice_index xs 0) whole in
    omega arith

-- it gives bytes from offset 1 on
abbrev later : Next
later = Ok (Some (record { offset = 1; bytes = drop 1 hello }))

late_chunk : (later ≡ gives_chunk hello) ⊎ (later ≡ Err read_errors.Memory) → ⊥
late_chunk (inl e) = let place : ◌≡◌ {A = ℕ} 1 0 = ap place_of e in omega arith
late_chunk (inr e) = let place : ◌≡◌ {A = ℕ} 1 0 = ap place_of e in omega arith

skipped_no : IsRead once_accepted.server.streams 0 true two_chunks (answers.Read (Ok skipping_nexts)) → ⊥
unfolding once_taken
skipped_no h = late_chunk h.1.0

pub no_skipped : (read : ReadCall) → ReadsBy two_chunks read → IsNoRun (run_with read skipped_byte)
no_skipped = never_reads skipping_nexts skipped_no

-- ---- injections

pub long_wrongly : OpensExactly long_opens → ⊥
long_wrongly h =
    let never : false ≡ true = (h Server 0 long_opens.start _ answers.Opens refl refl (record { event = refl; answer = refl })).0 refl in
    cc

pub never_long : IsNoRun long_opens
never_long = stops _ _ _ _ _ (λ opened. cc)

-- ---- numbers

pub twice_numbers : (read : ReadCall) → NumbersRise (used_twice read) → ⊥
unfolding once_taken
twice_numbers read h =
    let p = h Client 5 refl in
    repeats p.0 p.4.0 p.4.1 (only_number p.4.0 p.4.3)

gives_again_no : IsRefused once_sent asks_datagram (gives_bytes 230)
unfolding once_sent
gives_again_no (inl e) = cc
gives_again_no (inr e) = cc

pub no_twice : (read : ReadCall) → IsNoRun (used_twice read)
no_twice read = behind_sent (stops _ _ _ _ _ gives_again_no)

-- ---- timers

-- nothing is waited for
runs_on : LossTimerFollows late_timed.client → ⊥
unfolding client_acked
runs_on i = let clash : ◌≡◌ {A = Bool} true false = i refl in cc

pub late_follows : LossTimersFollow late_timed → ⊥
late_follows i = runs_on i.0

-- ---- where events lead

-- they lead from there to no world of which this holds
pub record NeverEnds (Q : World → Type 0) (w : World) (events : List RunEvent) (told : List Answer) : Type 0 where
  pub never : (views : List View) (end : World) → Follows worked_policies w events told views end → Q end → ⊥

stays_here : (Q : World → Type 0) (w : World) → (Q w → ⊥) → (views : List View) (end : World) → Follows worked_policies w [] [] views end → Q end → ⊥
stays_here Q w not_so [] end f q = not_so (subst Q f q)
stays_here Q w not_so (v ∷ views) end f q = f

pub ends_here : {Q : World → Type 0} {w : World} → (Q w → ⊥) → NeverEnds Q w [] []
ends_here {Q} {w} not_so = record { never = λ views end f q. stays_here Q w not_so views end f q }

goes_on : (Q : World → Type 0) (w y : World) (event : RunEvent) (a : Answer) (events : List RunEvent) (told : List Answer)
    → fails a ≡ false → IsStep worked_policies w event a y → NeverEnds Q y events told
    → (views : List View) (end : World) → Follows worked_policies w (event ∷ events) (a ∷ told) views end → Q end → ⊥
goes_on Q w y event a events told served step not_so [] end f q = f
goes_on Q w y event a events told served step not_so (v ∷ views) end f q =
    let there = one_world worked_policies w event a f.0 y served f.1 step in
    not_so.never views end (subst (λ (m : World). Follows worked_policies m events told views end) there f.3) q

pub step_on : {Q : World → Type 0} {w y : World} {event : RunEvent} {a : Answer} {events : List RunEvent} {told : List Answer}
    → fails a ≡ false → IsStep worked_policies w event a y → NeverEnds Q y events told → NeverEnds Q w (event ∷ events) (a ∷ told)
step_on {Q} {w} {y} {event} {a} {events} {told} served step not_so =
    record { never = λ views end f q. goes_on Q w y event a events told served step not_so views end f q }

-- so it is behind the first so many events of a run
pub ends_behind : {Q : World → Type 0} (n : ℕ) (w : World) (events more : List RunEvent) (told answers : List Answer) (views : List View) → Rows worked_policies w events told views
    → NeverEnds Q (ran worked_policies w (take n events) (take n told)) more answers → NeverEnds Q w (take n events ++ more) (take n told ++ answers)
ends_behind {Q} n w events more told answers views rows never = behind_rows (λ x later given. NeverEnds Q x later given) (λ x y event a later given served step so. step_on served step so) n w events more told answers views rows never

-- so they don't lead to this one
abbrev pub NotToFrom : World → World → List RunEvent → List Answer → Type 0
NotToFrom start bad events told = NeverEnds (λ w. bad ≡ w) start events told

abbrev pub NotTo : World → List RunEvent → List Answer → Type 0
NotTo bad events told = NotToFrom started bad events told

-- ---- a buffer that keeps four bytes

owed : (read : ReadCall) → 4 < length (written 0 (until (writing_run read) Client 2))
owed read = omega arith

keeps_no : Waits kept_four.client (Offset 0 4) → ⊥
keeps_no w = let due = w.due in cc

kept_nowhere : (read : ReadCall) → Waits kept_four.client (Offset 0 4) ⊎ IsCarried kept_four.client.tracking.packets (Offset 0 4) ⊎ HasArrived (took (writing_run read) Server 2) 0 4 → ⊥
kept_nowhere read (inl w) = keeps_no w
kept_nowhere read (inr (inl g)) = g
kept_nowhere read (inr (inr a)) = a.taken.was_taken

pub four_duties : (read : ReadCall) → DutiesAt (writing_run read) 2 kept_four → ⊥
four_duties read stands = kept_nowhere read (stands Client (λ n. false) (Offset 0 4) (client_tells_stays (writing_run read) (λ n. false)) (refl, owed read))

four_here : kept_four ≡ once_written → ⊥
four_here e = let clash : ◌≡◌ {A = ℕ} 4 5 = ap (λ (w : World). w.client.streams.sending.accepted) e in omega arith

not_four : NotTo kept_four (take 2 sending_events) (take 2 sending_answers)
not_four = step_on refl opens (step_on refl writes (ends_here four_here))

pub never_four : NeverLeads (take 2 sending_events) (take 2 sending_answers) kept_four
never_four views f = not_four.never views kept_four f refl

-- ---- a wrong record

both_fly : in_flight both_run Client 5 ≡ (0, carrying ids_again 228 0 3 false) ∷ (1, carrying nothing_waits 33 3 6 false) ∷ []
unfolding once_taken
both_fly = refl

-- how far the frames of a datagram go
abbrev ends_of : List StreamMeta → ℕ
ends_of [] = 0
ends_of (f ∷ fs) = f.offsets.end

-- likewise of the first datagram
abbrev first_end : Table TrackedPacket → ℕ
first_end [] = 0
first_end (p ∷ ps) = ends_of p.1.carried.stream_frames

-- a probe takes nothing of that
end_kept : (ps : Table TrackedPacket) → first_end (map but_for_record ps) ≡ first_end ps
end_kept [] = refl
end_kept (p ∷ ps) = refl

mis_open : misrecorded.client.closing.state ≡ states.Open
unfolding both_sent
mis_open = refl

mis_ends : first_end misrecorded.client.tracking.packets ≡ 6
unfolding both_sent
mis_ends = refl

both_end : first_end both_sent.client.tracking.packets ≡ 3
unfolding both_sent
both_end = refl

six_three : ◌≡◌ {A = ℕ} 6 3 → ⊥
six_three e = omega (arith, e)

pub mis_tracks : TracksAt both_run 5 misrecorded → ⊥
mis_tracks h = six_three (sym mis_ends ∙ alike first_end end_kept (h Client mis_open) ∙ ap first_end both_fly)

mis_here : misrecorded ≡ both_sent → ⊥
mis_here e = six_three (sym mis_ends ∙ ap (λ (w : World). first_end w.client.tracking.packets) e ∙ both_end)

not_mis : NotTo misrecorded both_events both_answers
not_mis = step_on refl reordered.opens (step_on refl writes_abc (step_on refl gives_abc (step_on refl writes_def (step_on refl gives_def (ends_here mis_here)))))

pub never_mis : NeverLeads both_events both_answers misrecorded
never_mis views f = not_mis.never views misrecorded f refl

-- ---- a wrong moment

first_flies : (read : ReadCall) → in_flight (sending_run read) Client 4 ≡ (0, carrying ids_again 230 0 5 true) ∷ []
unfolding once_taken
first_flies read = refl

-- when the first datagram went
abbrev first_moment : Table TrackedPacket → ℕ
first_moment [] = 0
first_moment (p ∷ ps) = p.1.time_sent

moment_kept : (ps : Table TrackedPacket) → first_moment (map but_for_record ps) ≡ first_moment ps
moment_kept [] = refl
moment_kept (p ∷ ps) = refl

time_open : mistimed.client.closing.state ≡ states.Open
unfolding once_sent
time_open = refl

time_kept : first_moment mistimed.client.tracking.packets ≡ 5
unfolding once_sent
time_kept = refl

time_sent : first_moment once_sent.client.tracking.packets ≡ 0
unfolding once_sent
time_sent = refl

five_none : ◌≡◌ {A = ℕ} 5 0 → ⊥
five_none e = omega (arith, e)

pub time_tracks : (read : ReadCall) → TracksAt (sending_run read) 4 mistimed → ⊥
time_tracks read h = five_none (sym time_kept ∙ alike first_moment moment_kept (h Client time_open) ∙ ap first_moment (first_flies read))

time_here : mistimed ≡ once_sent → ⊥
time_here e = five_none (sym time_kept ∙ ap (λ (w : World). first_moment w.client.tracking.packets) e ∙ time_sent)

-- behind the client's datagram
pub behind_gives : {Q : World → Type 0} {events : List RunEvent} {told : List Answer}
    → NeverEnds Q once_sent events told → NeverEnds Q started (sending_events ++ events) (sending_answers ++ told)
behind_gives h = step_on refl opens (step_on refl writes (step_on refl finishes (step_on refl gives h)))

not_timed : NotTo mistimed sending_events sending_answers
not_timed = behind_gives (ends_here time_here)

pub never_timed : NeverLeads sending_events sending_answers mistimed
never_timed views f = not_timed.never views mistimed f refl

-- ---- what is told too early

pub early_finishes : (read : ReadCall) → FinishedMeansArrived (told_early read) → ⊥
early_finishes read h = (h Client 0 4 refl (record { event = refl; answer = refl })).end.taken.was_taken

tells_no : IsRefused once_sent asks_event tells_finished
unfolding once_sent
tells_no is = cc

pub no_early : (read : ReadCall) → IsNoRun (told_early read)
no_early read = behind_sent (stops _ _ _ _ _ tells_no)

took_ack : (read : ReadCall) → took (taken_early read) Client 6 ≡ record { number = 0; frames = ack ack_of_hello ∷ [] } ∷ []
unfolding client_acked
took_ack read = refl

pub early_acknowledges : (read : ReadCall) → AcknowledgedWereTaken (taken_early read) → ⊥
early_acknowledges read h =
    let named : IsNamed (record { number = 0; frames = ack ack_of_hello ∷ [] } ∷ []) 0 = record { packet = record { number = 0; frames = ack ack_of_hello ∷ [] }; was_taken = inl refl; frame = ack_of_hello; carried = inl refl; named = refl } in
    (h Client 6 0 refl (subst (λ (ps : List Packet). IsNamed ps 0) (sym (took_ack read)) named)).was_taken

polls_no : IsRefused once_sent (record { side = Server; call = calls.Poll 0 }) (gives_bytes 32)
unfolding once_sent
polls_no (inl e) = cc
polls_no (inr e) = cc

pub no_taken_early : (read : ReadCall) → IsNoRun (taken_early read)
no_taken_early read = behind_sent (stops _ _ _ _ _ polls_no)

-- ---- an empty datagram

pub nothing_numbers : (read : ReadCall) → NumbersRise (nothing_given read) → ⊥
nothing_numbers read h = h Client 4 refl

-- how many bytes the first datagram has
abbrev pub first_size : List (List ℕ) → ℕ
first_size [] = 0
first_size (d ∷ ds) = length d

hello_size : first_size once_sent.from_client ≡ 230
unfolding once_sent
hello_size = refl

no_size : ([] ∷ []) ≡ once_sent.from_client → ⊥
no_size e = let clash : ◌≡◌ {A = ℕ} 0 230 = ap first_size e ∙ hello_size in omega (arith, clash)

not_nothing : NeverEnds (λ w. ([] ∷ []) ≡ w.from_client) started sending_events sending_answers
not_nothing = behind_gives (ends_here no_size)

pub no_nothing : (read : ReadCall) → NeverGives (nothing_given read)
no_nothing read views end is = not_nothing.never views end is.follows is.from_client

-- ---- two streams

opens_second : IsStep worked_policies once_opened opens_stream (answers.Open (Some 4)) two_opened
opens_second = record { answer = refl; end = refl; control = refl; heard = counts_so worked_policies once_opened opens_stream (answers.Open (Some 4)); openings = tt; others = refl; lacking = tt }

writes_it : IsStep worked_policies two_opened writes_second (answers.Write (Ok 5)) two_written
writes_it = record { answer = inl refl; end = refl; control = refl; heard = counts_so worked_policies two_opened writes_second (answers.Write (Ok 5)); openings = tt; others = refl; lacking = λ lacks. cc }

gives_second : IsStep worked_policies two_written asks_datagram (gives_bytes 230) two_sent
unfolding two_sent
gives_second = record { answer = inl refl; end = refl; control = refl; heard = counts_so worked_policies two_written asks_datagram (gives_bytes 230); openings = tt; others = refl; lacking = tt }

takes_second : IsStep worked_policies two_sent delivers (answers.Deliver receives.Taken) two_taken
unfolding two_taken
takes_second = record { answer = inl refl; end = refl; control = refl; heard = counts_so worked_policies two_sent delivers (answers.Deliver receives.Taken); openings = tt; others = refl; lacking = tt }

accepts_first : IsStep worked_policies two_taken accepts_stream (answers.Accept (Some 0)) first_accepted
unfolding two_taken
accepts_first = record { answer = refl; end = refl; control = refl; heard = counts_so worked_policies two_taken accepts_stream (answers.Accept (Some 0)); openings = tt; others = refl; lacking = tt }

accepts_second : IsStep worked_policies first_accepted accepts_stream (answers.Accept (Some 4)) both_accepted
unfolding two_taken
accepts_second = record { answer = refl; end = refl; control = refl; heard = counts_so worked_policies first_accepted accepts_stream (answers.Accept (Some 4)); openings = tt; others = refl; lacking = tt }

-- behind the datagram that came
never_second : {events : List RunEvent} {told : List Answer} → NeverAnswers two_taken events told → NeverAnswers started (second_events ++ events) (second_answers ++ told)
never_second not_so = behind refl opens (behind refl opens_second (behind refl writes_it (behind refl gives_second (behind refl takes_second not_so))))

-- the stream that an accept gives
abbrev accepted_in : Answer → ℕ
accepted_in (answers.Accept (Some id)) = id
accepted_in a = 9

twice_accept_no : IsRefused first_accepted accepts_stream (answers.Accept (Some 0))
unfolding two_taken
twice_accept_no is = let clash : ◌≡◌ {A = ℕ} 0 4 = ap accepted_in is in omega (arith, clash)

last_accept_no : IsRefused two_taken accepts_stream (answers.Accept (Some 4))
unfolding two_taken
last_accept_no is = let clash : ◌≡◌ {A = ℕ} 4 0 = ap accepted_in is in omega (arith, clash)

-- the frame that came
abbrev other_frame : StreamValue
other_frame = record { id = 4; offset = 0; fin = false; bytes = hello }

abbrev other_packet : Packet
other_packet = record { number = 0; frames = behind_ids (stream other_frame ∷ []) }

-- it opens stream 4
other_named : WasNamed (other_packet ∷ []) 4
other_named = record { packet = other_packet; was_taken = inl refl; frame = stream other_frame; carried = inr (inr (inr (inr (inr (inr (inr (inl refl))))))); opens = refl }

twice_took : took accepted_twice Server 7 ≡ other_packet ∷ []
unfolding once_taken
twice_took = refl

last_took : took accepted_last Server 6 ≡ other_packet ∷ []
unfolding once_taken
last_took = refl

four_in : In {X = ℕ} 4 (0 ∷ 0 ∷ []) → ⊥
four_in (inl e) = omega (arith, e)
four_in (inr (inl e)) = omega (arith, e)
four_in (inr (inr i)) = i

none_in : In {X = ℕ} 0 (4 ∷ []) → ⊥
none_in (inl e) = omega (arith, e)
none_in (inr i) = i

pub twice_accepts : AcceptsAll accepted_twice → ⊥
twice_accepts h =
    let named : WasNamed (took accepted_twice Server 7) 4 = subst (λ (ps : List Packet). WasNamed ps 4) (sym twice_took) other_named in
    four_in (h Server 7 Bi 1 1 refl (record { event = refl; answer = refl }) named (omega arith))

pub last_accepts : AcceptsAll accepted_last → ⊥
last_accepts h =
    let named : WasNamed (took accepted_last Server 6) 4 = subst (λ (ps : List Packet). WasNamed ps 4) (sym last_took) other_named in
    none_in (h Server 6 Bi 1 0 refl (record { event = refl; answer = refl }) named (omega arith))

pub no_accepted_twice : IsNoRun accepted_twice
no_accepted_twice = never_second (behind refl accepts_first (stops _ _ _ _ _ twice_accept_no))

pub no_accepted_last : IsNoRun accepted_last
no_accepted_last = never_second (stops _ _ _ _ _ last_accept_no)

-- what the read gave of the first stream
other_nexts : (read : ReadCall) → read.id ≡ 0 → nexts 0 (until (other_stream read) Server 8) ≡ gives_chunk hello ∷ []
other_nexts read e = ap (λ (n : ℕ). (if n == 0 then gives_chunk hello ∷ [] else []) ++ []) e

pub other_prefix : (read : ReadCall) → read.id ≡ 0 → read.ordered ≡ true → OrderedPrefix (other_stream read) → ⊥
other_prefix read e o h =
    let p = h Server 0 8 refl (reads_in_order read 0 o) in
    let whole : hello ++ p.0 ≡ [] = ap (λ (ns : List Next). bytes_of (chunks_of ns) ++ p.0) (sym (other_nexts read e)) ∙ p.1 in
    cc

-- nothing came on the first stream
other_blocked : next_answer told_bytes (after_read_begun both_accepted.server.streams 0 true) 0 32 ≡ Err read_errors.Blocked
unfolding two_taken with_offsets with_range joining
other_blocked = refl

other_no : IsRead both_accepted.server.streams 0 true (32 ∷ []) (answers.Read (Ok (gives_chunk hello ∷ []))) → ⊥
other_no h = not_next (gives_chunk hello) (next_answer told_bytes (after_read_begun both_accepted.server.streams 0 true) 0 32) (Err read_errors.Blocked) other_blocked (λ e. cc) (λ e. cc) h.1.0

pub no_other : (read : ReadCall) → ReadsBy (32 ∷ []) read → IsNoRun (other_stream read)
no_other read by = never_second (behind refl accepts_first (behind refl accepts_second (stops _ _ _ _ _ (λ h. other_no (read_of both_accepted.server.streams 0 true (32 ∷ []) (answers.Read (Ok (gives_chunk hello ∷ []))) read by h)))))
