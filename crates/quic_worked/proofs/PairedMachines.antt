-- Machines that go wrong where one of two streams is reset: each breaks a clause, and the reference
-- machine makes none of their runs.
use Rattle.std.proofs.Common.{◌≡◌, ◌⊎◌, ℕ, List, [], ◌∷◌, ◌++◌, Option, Some, None, Ok, Err, Bool, true, false, refl, inl, inr, sym, ap, ◌∙◌, subst, arith, length, map}
use Rattle.std.specs.Prelude.{slice_index, ◌==◌, if◌then◌else◌}
use Rattle.quic_wire_core.specs.declared.stream_id.Side.TheVariants.{Client, Server}
use Rattle.quic_wire_core.specs.declared.stream_id.Dir.TheVariants.{Bi}
use Rattle.quic_wire.specs.Value.{reset_stream, stream}
use Rattle.quic_streams_parts.specs.Table.{Table}
use Rattle.quic_streams_parts.specs.declared.answers.ReadError.TheVariants as read_errors
use Rattle.quic_streams_state.specs.Reading.{told_bytes, after_read_begun, next_answer}
use Rattle.quic_assembler.specs.declared.assembler.Chunk.{Chunk}
use Rattle.quic_machine.specs.declared.run.ReadCall.{ReadCall}
use Rattle.quic_machine.specs.declared.run.RunEvent.{RunEvent}
use Rattle.quic_machine.specs.declared.run.Answer.{Answer}
use Rattle.quic_machine.specs.declared.run.Call.TheVariants as calls
use Rattle.quic_machine.specs.declared.run.Answer.TheVariants as answers
use Rattle.quic_machine.specs.declared.answers.State.TheVariants as states
use Rattle.quic_retransmits.specs.Retransmits.{Retransmits}
use Rattle.quic_machine.specs.Tracking.{TrackedPacket}
use Rattle.quic_machine.specs.StreamCalls.{IsRead}
use Rattle.quic_machine.specs.Machine.{World}
use Rattle.quic_headline.specs.Runs.{Packet, Next, In, until, reset, nexts, chunks_of, WasNamed, ResetHasArrived}
use Rattle.quic_headline.specs.Observer.{took}
use Rattle.quic_headline.specs.InFlight.{in_flight, but_for_record, WaitsFor, TracksAt}
use Rattle.quic_headline.specs.Duties.{Reset, Waits, IsCarried, DutiesAt, has_reset}
use Rattle.quic_headline.specs.Headline.{Slices, AcceptsAll, FinishedMeansArrived, IsHonest}
use Rattle.quic_headline.specs.Resets.{ResetsAreTold}
use Rattle.quic_headline.specs.Ids.{IdsAreNew, AcceptedWereOpened}
use Rattle.quic_headline.proofs.Places.Theorems.{resets_are_told, ids_are_new, accepted_were_opened}
use Rattle.quic_worked.specs.Worked.{NextAnswers, opens_stream, accepts_stream, reads_stream, both_steady}
use Rattle.quic_worked.specs.Reordered.{abc, def}
use Rattle.quic_worked.specs.Broken.{NeverAnswers, IsNoRun, NeverLeadsFrom, tells_finished}
use Rattle.quic_worked.specs.Paired.{client_asks, asks_reset, ReadsSecond, second_bounds, giving_events, giving_answers, tells_stopped, paired_frames, first_open, pair_sent, pair_taken, first_accepted, both_accepted, reset_told, reset_refused, stop_taken, paired_run, told_of_reset, other_code, opened_twice, accepted_early, accepted_twice, reset_of_second, pair_giving, reset_forgotten, reset_changed, reset_unaccepted, second_unaccepted, other_bytes}
use Rattle.quic_worked.proofs.OwnIds.{honest_steady}
use Rattle.quic_worked.proofs.BrokenRuns.{IsRefused, stops, behind, read_of, not_next}
use Rattle.quic_worked.proofs.WrongRuns.{ends_here, step_on, NotToFrom}
use Rattle.quic_worked.proofs.PairedRun as paired
use Rattle.quic_worked.proofs.Unmoved.{client_tells_stays}

-- ---- the premises

pub is_honest : (read : ReadCall) → read.id ≡ 4 → IsHonest (paired_run read)
is_honest read e = honest_steady (paired_run read) (record {
  start = refl;
  keys = refl;
  client = (tt, (tt, (inl refl, (inr (inl refl), (inl refl, (tt, (tt, (tt, (tt, (tt, (tt, (tt, (tt, (tt, (tt, (tt, (inr (inl refl), (inl refl, tt))))))))))))))))));
  server = (tt, (tt, (tt, (tt, (tt, (tt, (tt, (tt, (tt, (inl refl, (inr (inl e), (inr (inl refl), (tt, (tt, (tt, (tt, (tt, (tt, tt))))))))))))))))));
})

pub h_told_of_reset : (read : ReadCall) → read.id ≡ 4 → IsHonest (told_of_reset read)
h_told_of_reset read e = honest_steady (told_of_reset read) (record { start = refl; keys = refl; client = (tt, (tt, (inl refl, (inr (inl refl), (inl refl, (tt, (tt, (tt, (tt, (tt, (tt, (tt, (tt, (tt, (tt, tt))))))))))))))); server = (tt, (tt, (tt, (tt, (tt, (tt, (tt, (tt, (tt, (inl refl, (inr (inl e), (inr (inl refl), (tt, (tt, (tt, tt))))))))))))))) })

pub h_pair_giving : (read : ReadCall) → IsHonest (pair_giving read)
h_pair_giving read = honest_steady (pair_giving read) (record { start = refl; keys = refl; client = (tt, (tt, (inl refl, (inr (inl refl), (inl refl, (tt, tt)))))); server = (tt, (tt, (tt, (tt, (tt, (tt, tt)))))) })

pub h_reset_unaccepted : (read : ReadCall) → IsHonest (reset_unaccepted read)
h_reset_unaccepted read = honest_steady (reset_unaccepted read) (record { start = refl; keys = refl; client = (tt, (tt, (inl refl, (inr (inl refl), (inl refl, (tt, (tt, (tt, tt)))))))); server = (tt, (tt, (tt, (tt, (tt, (tt, (tt, (tt, tt)))))))) })

pub h_second_unaccepted : (read : ReadCall) → IsHonest (second_unaccepted read)
h_second_unaccepted read = honest_steady (second_unaccepted read) (record { start = refl; keys = refl; client = (tt, (tt, (inl refl, (inr (inl refl), (inl refl, (tt, (tt, (tt, (tt, tt))))))))); server = (tt, (tt, (tt, (tt, (tt, (tt, (tt, (tt, (tt, tt))))))))) })

pub h_other_bytes : (read : ReadCall) → read.id ≡ 4 → IsHonest (other_bytes read)
h_other_bytes read e = honest_steady (other_bytes read) (record { start = refl; keys = refl; client = (tt, (tt, (inl refl, (inr (inl refl), (inl refl, (tt, (tt, (tt, (tt, (tt, (tt, tt))))))))))); server = (tt, (tt, (tt, (tt, (tt, (tt, (tt, (tt, (tt, (inl refl, (inr (inl e), tt))))))))))) })

pub h_other_code : (read : ReadCall) → IsHonest (other_code read)
h_other_code read = honest_steady (other_code read) (record { start = refl; keys = refl; client = (tt, (tt, (inl refl, (inr (inl refl), (inl refl, (tt, (tt, (tt, (tt, (tt, tt)))))))))); server = (tt, (tt, (tt, (tt, (tt, (tt, (tt, (tt, (tt, (inl refl, tt)))))))))) })

pub h_opened_twice : (read : ReadCall) → IsHonest (opened_twice read)
h_opened_twice read = honest_steady (opened_twice read) (record { start = refl; keys = refl; client = (tt, (tt, tt)); server = (tt, (tt, tt)) })

pub h_accepted_early : IsHonest accepted_early
h_accepted_early = honest_steady accepted_early (record { start = refl; keys = refl; client = (tt, tt); server = (tt, tt) })

pub h_accepted_twice : (read : ReadCall) → IsHonest (accepted_twice read)
h_accepted_twice read = honest_steady (accepted_twice read) (record { start = refl; keys = refl; client = (tt, (tt, (inl refl, (inr (inl refl), (inl refl, (tt, (tt, (tt, (tt, tt))))))))); server = (tt, (tt, (tt, (tt, (tt, (tt, (tt, (tt, (tt, tt))))))))) })

pub h_reset_of_second : (read : ReadCall) → read.id ≡ 4 → IsHonest (reset_of_second read)
h_reset_of_second read e = honest_steady (reset_of_second read) (record { start = refl; keys = refl; client = (tt, (tt, (inl refl, (inr (inl refl), (inl refl, (tt, (tt, (tt, (tt, (tt, (tt, tt))))))))))); server = (tt, (tt, (tt, (tt, (tt, (tt, (tt, (tt, (tt, (inl refl, (inr (inl e), tt))))))))))) })

-- ---- where the run goes

-- behind the client's datagram
pub behind_given : {events : List RunEvent} {told : List Answer} → NeverAnswers pair_sent events told → NeverAnswers both_steady (giving_events ++ events) (giving_answers ++ told)
behind_given not_so = behind refl paired.opens_first (behind refl paired.opens_both (behind refl paired.writes_first (behind refl paired.writes_both (behind refl paired.resets (behind refl paired.gives not_so)))))

-- ---- a stream that was reset is told to be finished

pub told_arrived : (read : ReadCall) → FinishedMeansArrived (told_of_reset read) → ⊥
told_arrived read h = let never : false ≡ true = (h Client 0 14 refl (record { event = refl; answer = refl })).ended in cc

told_no : IsRefused stop_taken client_asks tells_finished
told_no is = let clash : tells_finished ≡ tells_stopped = is ∙ sym paired.tells_stop.answer in cc

pub no_told : (read : ReadCall) → ReadsSecond second_bounds read → IsNoRun (told_of_reset read)
no_told read by = behind_given (behind refl paired.takes (behind refl paired.accepts_first (behind refl paired.accepts_both (behind refl paired.tells_reset (behind refl (paired.reads read by) (behind refl paired.stops (behind refl paired.gives_stop (behind refl paired.takes_stop (stops _ _ _ _ _ told_no)))))))))

-- ---- a reset is forgotten

waits_not : Waits reset_forgotten.client (Reset 0) → ⊥
unfolding pair_sent
waits_not w = let due : false ≡ true = w.due in cc

flies_not : IsCarried reset_forgotten.client.tracking.packets (Reset 0) → ⊥
unfolding pair_sent
flies_not (inl e) = let clash : false ≡ true = e in cc
flies_not (inr g) = g

nowhere : (read : ReadCall) → Waits reset_forgotten.client (Reset 0) ⊎ IsCarried reset_forgotten.client.tracking.packets (Reset 0) ⊎ ResetHasArrived (took (pair_giving read) Server 6) 0 → ⊥
nowhere read (inl w) = waits_not w
nowhere read (inr (inl g)) = flies_not g
nowhere read (inr (inr a)) = a.was_taken

pub reset_duties : (read : ReadCall) → DutiesAt (pair_giving read) 6 reset_forgotten → ⊥
reset_duties read stands = nowhere read (stands Client (λ n. false) (Reset 0) (client_tells_stays (pair_giving read) (λ n. false)) refl)

-- whether the first datagram of a table has the reset of stream 0
abbrev has_it : Table TrackedPacket → Bool
has_it [] = false
has_it (p ∷ ps) = has_reset 0 p.1.carried.retransmits.reset_stream

lacks_it : has_it reset_forgotten.client.tracking.packets ≡ false
unfolding pair_sent
lacks_it = refl

keeps_it : has_it pair_sent.client.tracking.packets ≡ true
unfolding pair_sent
keeps_it = refl

other_end : reset_forgotten ≡ pair_sent → ⊥
other_end e = let clash : false ≡ true = sym lacks_it ∙ ap (λ (w : World). has_it w.client.tracking.packets) e ∙ keeps_it in cc

not_forgotten : NotToFrom both_steady reset_forgotten giving_events giving_answers
not_forgotten = step_on refl paired.opens_first (step_on refl paired.opens_both (step_on refl paired.writes_first (step_on refl paired.writes_both (step_on refl paired.resets (step_on refl paired.gives (ends_here other_end))))))

pub never_forgotten : NeverLeadsFrom both_steady giving_events giving_answers reset_forgotten
never_forgotten views f = not_forgotten.never views reset_forgotten f refl

-- ---- another reset is kept

-- the first number of a table
abbrev first_number : Table TrackedPacket → ℕ
first_number [] = 0
first_number (p ∷ ps) = p.0

-- the stream that its first datagram resets, or 9
abbrev stream_in : List (ℕ × ℕ) → ℕ
stream_in [] = 9
stream_in (r ∷ rs) = r.0

abbrev first_reset : Table TrackedPacket → ℕ
first_reset [] = 9
first_reset (p ∷ ps) = stream_in p.1.carried.retransmits.reset_stream

-- an end that waits for what is in flight keeps that, unless a probe took it
kept_or_taken : (packets flying : Table TrackedPacket) → WaitsFor packets flying → (first_reset packets ≡ first_reset flying) ⊎ (first_reset packets ≡ 9)
kept_or_taken [] flying w = inr refl
kept_or_taken (p ∷ ps) [] w = absurd (none_some (ap (λ (ts : Table TrackedPacket). length ts) w.same))
  where
    none_some : length (map but_for_record (p ∷ ps)) ≡ 0 → ⊥
    none_some e = cc
kept_or_taken (p ∷ ps) (q ∷ qs) w =
    let numbers : p.0 ≡ q.0 = ap first_number w.same in
    let among : In (p.0, q.1) (q ∷ qs) = subst (λ (n : ℕ). In (n, q.1) (q ∷ qs)) (sym numbers) (inl refl) in
    elim (w.records p.0 p.1 q.1 (inl refl) among) [ inl same ↦ inl (ap (λ (r : Retransmits). stream_in r.reset_stream) same) | inr none ↦ inr (ap (λ (r : Retransmits). stream_in r.reset_stream) none) ]

changed_reset : first_reset reset_changed.client.tracking.packets ≡ 4
unfolding pair_sent
changed_reset = refl

right_reset : first_reset pair_sent.client.tracking.packets ≡ 0
unfolding pair_sent
right_reset = refl

flies_with : (read : ReadCall) → first_reset (in_flight (pair_giving read) Client 6) ≡ 0
unfolding pair_taken
flies_with read = refl

is_open : reset_changed.client.closing.state ≡ states.Open
unfolding pair_sent
is_open = refl

-- 4 is neither 0 nor 9
not_four : {n : ℕ} → n ≡ 4 → (n ≡ 0) ⊎ (n ≡ 9) → ⊥
not_four four (inl e) = omega (arith, four, e)
not_four four (inr e) = omega (arith, four, e)

pub changed_tracks : (read : ReadCall) → TracksAt (pair_giving read) 6 reset_changed → ⊥
changed_tracks read h =
    not_four changed_reset (elim (kept_or_taken reset_changed.client.tracking.packets (in_flight (pair_giving read) Client 6) (h Client is_open)) [ inl e ↦ inl (e ∙ flies_with read) | inr e ↦ inr e ])

changed_end : reset_changed ≡ pair_sent → ⊥
changed_end e = not_four changed_reset (inl (ap (λ (w : World). first_reset w.client.tracking.packets) e ∙ right_reset))

not_changed : NotToFrom both_steady reset_changed giving_events giving_answers
not_changed = step_on refl paired.opens_first (step_on refl paired.opens_both (step_on refl paired.writes_first (step_on refl paired.writes_both (step_on refl paired.resets (step_on refl paired.gives (ends_here changed_end))))))

pub never_changed : NeverLeadsFrom both_steady giving_events giving_answers reset_changed
never_changed views f = not_changed.never views reset_changed f refl

-- ---- streams that aren't accepted

-- the packet that came
abbrev pair_packet : Packet
pair_packet = record { number = 0; frames = paired_frames }

first_named : WasNamed (pair_packet ∷ []) 0
first_named = record { packet = pair_packet; was_taken = inl refl; frame = reset_stream (record { id = 0; code = 7; final_size = 3 }); carried = inl refl; opens = refl }

second_named : WasNamed (pair_packet ∷ []) 4
second_named = record { packet = pair_packet; was_taken = inl refl; frame = stream (record { id = 4; offset = 0; fin = false; bytes = def }); carried = inr (inr (inr (inr (inr (inr (inr (inr (inl refl)))))))); opens = refl }

first_took : (read : ReadCall) → took (reset_unaccepted read) Server 7 ≡ pair_packet ∷ []
unfolding pair_taken
first_took read = refl

second_took : (read : ReadCall) → took (second_unaccepted read) Server 8 ≡ pair_packet ∷ []
unfolding pair_taken
second_took read = refl

pub first_accepts : (read : ReadCall) → AcceptsAll (reset_unaccepted read) → ⊥
first_accepts read h = h Server 7 Bi 0 0 refl (record { event = refl; answer = refl }) (subst (λ (ps : List Packet). WasNamed ps 0) (sym (first_took read)) first_named) (omega arith)

only_first : In {X = ℕ} 4 (0 ∷ []) → ⊥
only_first (inl e) = omega (arith, e)
only_first (inr i) = i

pub second_accepts : (read : ReadCall) → AcceptsAll (second_unaccepted read) → ⊥
second_accepts read h = only_first (h Server 8 Bi 1 1 refl (record { event = refl; answer = refl }) (subst (λ (ps : List Packet). WasNamed ps 4) (sym (second_took read)) second_named) (omega arith))

first_no : IsRefused pair_taken accepts_stream (answers.Accept None)
first_no is = let clash : answers.Accept None ≡ answers.Accept (Some 0) = is ∙ sym paired.accepts_first.answer in cc

second_no : IsRefused first_accepted accepts_stream (answers.Accept None)
second_no is = let clash : answers.Accept None ≡ answers.Accept (Some 4) = is ∙ sym paired.accepts_both.answer in cc

pub no_first : (read : ReadCall) → IsNoRun (reset_unaccepted read)
no_first read = behind_given (behind refl paired.takes (stops _ _ _ _ _ first_no))

pub no_second : (read : ReadCall) → IsNoRun (second_unaccepted read)
no_second read = behind_given (behind refl paired.takes (behind refl paired.accepts_first (stops _ _ _ _ _ second_no)))

-- ---- bytes that change streams

-- what the read gives
abbrev wrong_nexts : NextAnswers
wrong_nexts = Ok (Some (record { offset = 0; bytes = abc })) ∷ Err read_errors.Blocked ∷ []

nexts_are : (read : ReadCall) → read.id ≡ 4 → nexts 4 (until (other_bytes read) Server 11) ≡ wrong_nexts ++ []
nexts_are read e = ap (λ (n : ℕ). (if n == 4 then wrong_nexts else []) ++ []) e

pub other_slices : (read : ReadCall) → read.id ≡ 4 → Slices (other_bytes read) → ⊥
other_slices read e h =
    let chunk : Chunk = record { offset = 0; bytes = abc } in
    let slice : def ≡ abc = h Server 4 11 chunk refl (subst (λ (ns : List Next). In chunk (chunks_of ns)) (sym (nexts_are read e)) (inl refl)) in
    let first : ◌≡◌ {A = ℕ} 100 97 = ap (λ (bs : List ℕ). slice_index bs 0) slice in
    omega (arith, first)

-- what the machine gives
right_next : next_answer told_bytes (after_read_begun reset_told.server.streams 4 true) 4 32 ≡ Ok (Some (record { offset = 0; bytes = def }))
unfolding reset_told
right_next = refl

-- the first byte that a `next` gives
abbrev first_byte : Next → ℕ
first_byte (Ok (Some chunk)) = slice_index chunk.bytes 0
first_byte (Ok None) = 0
first_byte (Err e) = 0

-- a `next` that gives bytes from offset 0 on
abbrev gives : List ℕ → Next
gives bytes = Ok (Some (record { offset = 0; bytes = bytes }))

wrong_no : IsRead reset_told.server.streams 4 true second_bounds (answers.Read (Ok wrong_nexts)) → ⊥
wrong_no h =
    not_next (gives abc) (next_answer told_bytes (after_read_begun reset_told.server.streams 4 true) 4 32) (gives def) right_next
    (λ e. let clash : ◌≡◌ {A = ℕ} 97 100 = ap first_byte e in omega (arith, clash)) (λ e. let clash : ◌≡◌ {A = ℕ} 97 0 = ap first_byte e in omega (arith, clash)) h.1.0

reads_no : (read : ReadCall) → ReadsSecond second_bounds read → IsRefused reset_told (reads_stream read) (answers.Read (Ok wrong_nexts))
reads_no read by h = wrong_no (read_of reset_told.server.streams 4 true second_bounds (answers.Read (Ok wrong_nexts)) read by h)

pub no_other : (read : ReadCall) → ReadsSecond second_bounds read → IsNoRun (other_bytes read)
no_other read by = behind_given (behind refl paired.takes (behind refl paired.accepts_first (behind refl paired.accepts_both (behind refl paired.tells_reset (stops _ _ _ _ _ (reads_no read by))))))

-- ---- a reset is told with another code, or of another stream

pub tells_rightly : (read : ReadCall) → ReadsSecond second_bounds read → ResetsAreTold (paired_run read)
tells_rightly read by = resets_are_told (paired_run read) reset_refused (is_honest read by.id) (paired.is_run read by)

pub tells_code : (read : ReadCall) → ResetsAreTold (other_code read) → ⊥
tells_code read h =
    let seven : ◌≡◌ {A = Option ℕ} (Some 7) (Some 9) = (h Server 9 refl).asked 0 9 (record { event = refl; answer = refl }) in
    let clash : ◌≡◌ {A = ℕ} 7 9 = cc in
    omega (arith, clash)

pub tells_stream : (read : ReadCall) → read.id ≡ 4 → ResetsAreTold (reset_of_second read) → ⊥
tells_stream read e h =
    let never : ◌≡◌ {A = Option ℕ} None (Some 7) = subst (λ (id : ℕ). reset id (until (reset_of_second read) Client 10) ≡ Some 7) e ((h Server 10 refl).read read 7 [] (Err (read_errors.Reset 7) ∷ []) (record { event = refl; answer = refl })) in
    cc

code_no : IsRefused both_accepted asks_reset (answers.ReceivedReset (Ok (Some 9)))
code_no is =
    let clash : answers.ReceivedReset (Ok (Some 9)) ≡ answers.ReceivedReset (Ok (Some 7)) = is ∙ sym paired.tells_reset.answer in
    let numbers : ◌≡◌ {A = ℕ} 9 7 = cc in
    omega (arith, numbers)

pub no_code : (read : ReadCall) → IsNoRun (other_code read)
no_code read = behind_given (behind refl paired.takes (behind refl paired.accepts_first (behind refl paired.accepts_both (stops _ _ _ _ _ code_no))))

-- what the read gives
abbrev reset_nexts : NextAnswers
reset_nexts = Err (read_errors.Reset 7) ∷ Err (read_errors.Reset 7) ∷ []

reset_no : IsRead reset_told.server.streams 4 true second_bounds (answers.Read (Ok reset_nexts)) → ⊥
reset_no h = not_next (Err (read_errors.Reset 7)) (next_answer told_bytes (after_read_begun reset_told.server.streams 4 true) 4 32) (gives def) right_next (λ e. cc) (λ e. cc) h.1.0

stream_no : (read : ReadCall) → ReadsSecond second_bounds read → IsRefused reset_told (reads_stream read) (answers.Read (Ok reset_nexts))
stream_no read by h = reset_no (read_of reset_told.server.streams 4 true second_bounds (answers.Read (Ok reset_nexts)) read by h)

pub no_stream : (read : ReadCall) → ReadsSecond second_bounds read → IsNoRun (reset_of_second read)
no_stream read by = behind_given (behind refl paired.takes (behind refl paired.accepts_first (behind refl paired.accepts_both (behind refl paired.tells_reset (stops _ _ _ _ _ (stream_no read by))))))

-- ---- an id is given twice

pub gives_once : (read : ReadCall) → ReadsSecond second_bounds read → IdsAreNew (paired_run read)
gives_once read by = ids_are_new (paired_run read) reset_refused (is_honest read by.id) (paired.is_run read by)

pub opens_again : (read : ReadCall) → IdsAreNew (opened_twice read) → ⊥
opens_again read h = h Client 1 0 (calls.Open Bi) (answers.Open (Some 0)) refl (record { event = refl; answer = refl }) refl (inl refl)

pub accepts_again : (read : ReadCall) → IdsAreNew (accepted_twice read) → ⊥
accepts_again read h = h Server 8 0 (calls.Accept Bi) (answers.Accept (Some 0)) refl (record { event = refl; answer = refl }) refl (inl refl)

opened_no : IsRefused first_open opens_stream (answers.Open (Some 0))
opened_no is =
    let clash : answers.Open (Some 0) ≡ answers.Open (Some 4) = is ∙ sym paired.opens_both.answer in
    let numbers : ◌≡◌ {A = ℕ} 0 4 = cc in
    omega (arith, numbers)

accepted_no : IsRefused first_accepted accepts_stream (answers.Accept (Some 0))
accepted_no is =
    let clash : answers.Accept (Some 0) ≡ answers.Accept (Some 4) = is ∙ sym paired.accepts_both.answer in
    let numbers : ◌≡◌ {A = ℕ} 0 4 = cc in
    omega (arith, numbers)

pub no_opened : (read : ReadCall) → IsNoRun (opened_twice read)
no_opened read = behind refl paired.opens_first (stops _ _ _ _ _ opened_no)

pub no_accepted : (read : ReadCall) → IsNoRun (accepted_twice read)
no_accepted read = behind_given (behind refl paired.takes (behind refl paired.accepts_first (stops _ _ _ _ _ accepted_no)))

-- ---- a stream is accepted before anything came

pub opens_before : (read : ReadCall) → ReadsSecond second_bounds read → AcceptedWereOpened (paired_run read)
opens_before read by = accepted_were_opened (paired_run read) reset_refused (is_honest read by.id) (paired.is_run read by)

pub accepts_early : AcceptedWereOpened accepted_early → ⊥
accepts_early h = (h Server 0 0 Bi refl (record { event = refl; answer = refl })).named.was_taken

early_no : IsRefused both_steady accepts_stream (answers.Accept (Some 0))
early_no is = let clash : answers.Accept (Some 0) ≡ answers.Accept None = is in cc

pub no_early : IsNoRun accepted_early
no_early = stops _ _ _ _ _ early_no
