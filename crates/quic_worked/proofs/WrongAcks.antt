-- Machines that go wrong where an acknowledgement is given or taken, where lost bytes go again, and
-- where numbers fall.
use Rattle.std.proofs.Common.{◌≡◌, ◌≤◌, ◌⊎◌, ℕ, zero, suc, List, [], ◌∷◌, ◌++◌, Some, None, Ok, refl, inl, inr, ap, sym, true, false, ◌∙◌, subst, arith, length}
use Rattle.std.specs.Prelude.{slice_index, ◌==◌, if◌then◌else◌}
use Rattle.quic_wire_core.specs.declared.stream_id.Side.TheVariants.{Client, Server}
use Rattle.quic_wire_core.specs.declared.shared.EcnCodepoint.TheVariants.{Ect0}
use Rattle.quic_wire.specs.FrameTypes.{kind_of}
use Rattle.quic_wire.specs.AckReading.{ack_at, ranges_at, range_at, some_ecn_at}
use Rattle.quic_wire.specs.Items.{frame_at, items_within, items}
use Rattle.quic_wire.specs.Reading.{body_at}
use Rattle.quic_wire.specs.Value.{FrameValue, AckValue, ack}
use Rattle.quic_machine.specs.declared.answers.Received.TheVariants as receives
use Rattle.quic_machine.specs.declared.answers.State.TheVariants as states
use Rattle.quic_machine.specs.declared.run.RunEvent.{RunEvent}
use Rattle.quic_machine.specs.declared.run.ReadCall.{ReadCall}
use Rattle.quic_machine.specs.declared.run.Answer.{Answer}
use Rattle.quic_machine.specs.declared.run.Answer.TheVariants as answers
use Rattle.quic_machine.specs.StreamCalls.{IsRead}
use Rattle.quic_machine.specs.Machine.{World, IsStep}
use Rattle.quic_headline.specs.Runs.{Packet, Next, In, IsTaken, names, until, nexts, chunks_of, bytes_of}
use Rattle.quic_headline.specs.Observer.{Sent, took, sents_until, acked_until}
use Rattle.quic_headline.specs.Polls.{GaveOne}
use Rattle.quic_headline.specs.AckFrames.{ends_above, IsKnown, WasCrowded, AcksNameAll}
use Rattle.quic_headline.specs.InFlight.{in_flight, TracksAt}
use Rattle.quic_headline.specs.Headline.{FinishedIsTold, OrderedPrefix, NamesWereTaken, NumbersRise, IsNamedIn, frames_given}
use Rattle.quic_worked.specs.Acknowledged.{client_acked, from_server}
use Rattle.quic_worked.specs.Worked.{client_id, ReadsBy, gives_chunk, hello, started, once_sent, once_taken, worked_policies, sending_events, sending_answers, opens_stream, writes_hello, finishes_stream, delivers, asks_datagram, accepts_stream, reads_stream, gives_bytes, gives_unmarked}
use Rattle.quic_worked.specs.Reordered.{delivers_at}
use Rattle.quic_worked.specs.Broken.{hellp, IsNoRun, NeverLeads, asked_run, asks_event, tells_finished}
use Rattle.quic_worked.specs.Losses.{server_waits, server_polled, client_polled, client_delivered, after_ping, pinged_once, once_lost, changed_again, again_given, again_taken, again_accepted, once_due, once_named, once_acked, once_told, wide_payload, wide_name, narrow_payload, narrow_name, first_events, first_answers, first_taken, first_due, first_named, first_acked, first_run, above_acked, falling_events, falling_answers, ping_given, ping_and, word_given, falling}
use Rattle.quic_worked.specs.Machines.{NeverGives}
use Rattle.quic_worked.proofs.Waited.{as_many}
use Rattle.quic_worked.proofs.WorkedNumber.{only_word}
use Rattle.quic_worked.proofs.WorkedRun.{takes, hello_packet}
use Rattle.quic_worked.proofs.BrokenClauses.{reads_in_order, repeats}
use Rattle.quic_worked.proofs.BrokenRuns.{IsRefused, stops, behind, behind_sent, read_of, other_chunk}
use Rattle.quic_worked.proofs.WrongRuns.{NeverEnds, ends_here, step_on, NotTo, behind_gives}
use Rattle.quic_worked.proofs.LostRuns.{pings, gives_first, never_behind_lost}
use Rattle.quic_worked.proofs.Steps.{counts_so}

-- ---- lost bytes go again with another last one

gives_again : IsStep worked_policies once_lost client_polled (gives_unmarked 235) again_given
unfolding again_given
gives_again = record { answer = inl refl; end = refl; control = refl; heard = counts_so worked_policies once_lost client_polled (gives_unmarked 235); openings = tt; others = refl; lacking = tt }

takes_again : IsStep worked_policies again_given (delivers_at 5) (answers.Deliver receives.Taken) again_taken
unfolding again_taken
takes_again = record { answer = inl refl; end = refl; control = refl; heard = counts_so worked_policies again_given (delivers_at 5) (answers.Deliver receives.Taken); openings = tt; others = refl; lacking = tt }

accepts_again : IsStep worked_policies again_taken accepts_stream (answers.Accept (Some 0)) again_accepted
unfolding again_taken
accepts_again = record { answer = refl; end = refl; control = refl; heard = counts_so worked_policies again_taken accepts_stream (answers.Accept (Some 0)); openings = tt; others = refl; lacking = tt }

changed_nexts : (read : ReadCall) → read.id ≡ 0 → nexts 0 (until (changed_again read) Server 20) ≡ gives_chunk hellp ∷ []
changed_nexts read e = ap (λ (n : ℕ). (if n == 0 then gives_chunk hellp ∷ [] else []) ++ []) e

pub again_prefix : (read : ReadCall) → read.id ≡ 0 → read.ordered ≡ true → OrderedPrefix (changed_again read) → ⊥
again_prefix read e o h =
    let p = h Server 0 20 refl (reads_in_order read 0 o) in
    let whole : hellp ++ p.0 ≡ hello = ap (λ (ns : List Next). bytes_of (chunks_of ns) ++ p.0) (sym (changed_nexts read e)) ∙ p.1 in
    let fifth : ◌≡◌ {A = ℕ} 112 111 = ap (λ (xs : List ℕ). slice_index xs 4) whole in
    omega arith

again_no : IsRead again_accepted.server.streams 0 true (32 ∷ []) (answers.Read (Ok (gives_chunk hellp ∷ []))) → ⊥
unfolding again_taken
again_no h = other_chunk h.1.0

reads_no : (read : ReadCall) → ReadsBy (32 ∷ []) read → IsRefused again_accepted (reads_stream read) (answers.Read (Ok (gives_chunk hellp ∷ [])))
reads_no read by h = again_no (read_of again_accepted.server.streams 0 true (32 ∷ []) (answers.Read (Ok (gives_chunk hellp ∷ []))) read by h)

pub no_changed_again : (read : ReadCall) → ReadsBy (32 ∷ []) read → IsNoRun (changed_again read)
no_changed_again read by = behind_sent (never_behind_lost (behind refl gives_again (behind refl takes_again (behind refl accepts_again (stops _ _ _ _ _ (reads_no read by))))))

-- ---- an acknowledgement of one number more

pub waits_once : IsStep worked_policies once_taken server_waits (answers.Timeout (Ok tt)) once_due
unfolding once_taken
waits_once = record { answer = inl refl; end = refl; control = refl; heard = counts_so worked_policies once_taken server_waits (answers.Timeout (Ok tt)); openings = tt; others = refl; lacking = tt }

pub names_once : IsStep worked_policies once_due server_polled (gives_bytes 32) once_named
unfolding once_named
names_once = record { answer = inl refl; end = refl; control = refl; heard = counts_so worked_policies once_due server_polled (gives_bytes 32); openings = tt; others = refl; lacking = tt }

pub takes_name : IsStep worked_policies once_named client_delivered (answers.Deliver receives.Taken) once_acked
unfolding once_acked
takes_name = record { answer = inl refl; end = refl; control = refl; heard = counts_so worked_policies once_named client_delivered (answers.Deliver receives.Taken); openings = tt; others = refl; lacking = tt }

-- the events until it is given, and their answers
abbrev named_events : List RunEvent
named_events = sending_events ++ delivers ∷ server_waits ∷ server_polled ∷ []

abbrev named_answers : List Answer
named_answers = sending_answers ++ answers.Deliver receives.Taken ∷ answers.Timeout (Ok tt) ∷ gives_bytes 32 ∷ []

-- ACK of numbers 0 and 1
abbrev wide_ack : AckValue
wide_ack = record { largest = 1; delay = 3125; ranges = (0, 1) ∷ []; ecn = None }

wide_frames : (read : ReadCall) → frames_given (wide_name read) Server 0 (from_server 0 wide_payload) ≡ ack wide_ack ∷ []
unfolding items items_within frame_at body_at kind_of ack_at ranges_at range_at some_ecn_at
wide_frames read = refl

wide_took : (read : ReadCall) → took (wide_name read) Server 7 ≡ hello_packet ∷ []
unfolding once_taken
wide_took read = refl

not_one : (packet : Packet) → In packet (hello_packet ∷ []) → packet.number ≡ 1 → ⊥
not_one packet (inl is) e = let clash : ◌≡◌ {A = ℕ} 0 1 = ap (λ (p : Packet). p.number) (sym is) ∙ e in omega (arith, clash)
not_one packet (inr i) e = i

one_not : IsTaken (hello_packet ∷ []) 1 → ⊥
one_not t = not_one t.packet t.was_taken t.is

pub wide_names : (read : ReadCall) → NamesWereTaken (wide_name read) → ⊥
wide_names read h =
    let named : IsNamedIn (ack wide_ack ∷ []) 1 = record { frame = wide_ack; carried = inl refl; named = refl } in
    let there : IsNamedIn (frames_given (wide_name read) Server 0 (from_server 0 wide_payload)) 1 = subst (λ (fs : List FrameValue). IsNamedIn fs 1) (sym (wide_frames read)) named in
    one_not (subst (λ (ps : List Packet). IsTaken ps 1) (wide_took read) (h Server 7 0 1 (from_server 0 wide_payload) refl (inl refl) there))

-- the number that a datagram's ACK frame names, where it stands in the eleventh byte
abbrev pub byte_of : List (List ℕ) → ℕ
byte_of [] = 0
byte_of (d ∷ ds) = slice_index d 11

right_byte : byte_of once_named.from_server ≡ 0
unfolding once_named
right_byte = refl

wide_other : (from_server 0 wide_payload ∷ []) ≡ once_named.from_server → ⊥
wide_other e = let clash : ◌≡◌ {A = ℕ} 1 0 = ap byte_of e ∙ right_byte in omega (arith, clash)

not_wide : NeverEnds (λ w. (from_server 0 wide_payload ∷ []) ≡ w.from_server) started named_events named_answers
not_wide = behind_gives (step_on refl takes (step_on refl waits_once (step_on refl names_once (ends_here wide_other))))

pub no_wide : (read : ReadCall) → NeverGives (wide_name read)
no_wide read views end is = not_wide.never views end is.follows is.from_server

-- ---- an acknowledgement that leaves out what was taken

-- what that says
abbrev narrow_ack : AckValue
narrow_ack = record { largest = 1; delay = 3125; ranges = (1, 1) ∷ []; ecn = None }

-- the datagram as the server sent it
abbrev narrow_sent : Sent
narrow_sent = record { id = client_id; number = 0; reference = 0; frames = ack narrow_ack ∷ []; moment = 25000000; size = 32; generation = 0 }

narrow_went : (read : ReadCall) → sents_until (narrow_name read) Server 7 ≡ sents_until (narrow_name read) Server 6 ++ narrow_sent ∷ []
unfolding client_acked
narrow_went read = refl

narrow_gave : (read : ReadCall) → GaveOne (narrow_name read) Server 6 25000000
narrow_gave read = record { transmit = record { size = 32; ecn = Some Ect0; remote = 0 }; poll = record { event = refl; answer = refl }; served = refl; sent = narrow_sent; went = narrow_went read }

narrow_took : (read : ReadCall) → took (narrow_name read) Server 6 ≡ hello_packet ∷ []
unfolding client_acked
narrow_took read = refl

narrow_due : (read : ReadCall) → took (narrow_name read) Server 5 ≡ hello_packet ∷ []
unfolding client_acked
narrow_due read = refl

-- no datagram of the server was acknowledged
none_acked : (read : ReadCall) → acked_until (narrow_name read) Server 6 ≡ []
unfolding client_acked
none_acked read = refl

-- nor lay more than one run above the number
one_end : (ps : List Packet) → ps ≡ hello_packet ∷ [] → 64 ≤ length (ends_above 0 ps) → ⊥
one_end ps is many = let none : 64 ≤ 0 = subst (λ (qs : List Packet). 64 ≤ length (ends_above 0 qs)) is many in omega (arith, none)

never_many : (read : ReadCall) (place : ℕ) → place ≤ 6 → 64 ≤ length (ends_above 0 (took (narrow_name read) Server place)) → ⊥
never_many read zero le many = let none : 64 ≤ 0 = many in omega (arith, none)
never_many read (suc zero) le many = let none : 64 ≤ 0 = many in omega (arith, none)
never_many read (suc (suc zero)) le many = let none : 64 ≤ 0 = many in omega (arith, none)
never_many read (suc (suc (suc zero))) le many = let none : 64 ≤ 0 = many in omega (arith, none)
never_many read (suc (suc (suc (suc zero)))) le many = let none : 64 ≤ 0 = many in omega (arith, none)
never_many read (suc (suc (suc (suc (suc zero))))) le many = one_end _ (narrow_due read) many
never_many read (suc (suc (suc (suc (suc (suc zero)))))) le many = one_end _ (narrow_took read) many
never_many read (suc (suc (suc (suc (suc (suc (suc place))))))) le many = omega (arith, le)

pub narrow_names : (read : ReadCall) → AcksNameAll (narrow_name read) → ⊥
unfolding narrow_gave
narrow_names read h = go (h Server 6 25000000 (narrow_gave read) narrow_ack (inl refl) hello_packet (subst (λ (ps : List Packet). In hello_packet ps) (sym (narrow_took read)) (inl refl)))
  where
    go : (names narrow_ack 0 ≡ true) ⊎ (IsKnown (narrow_name read) Server 6 0 ⊎ WasCrowded (narrow_name read) Server 6 0) → ⊥
    go (inl named) = let clash : false ≡ true = named in cc
    go (inr (inl known)) = subst (λ (ss : List Sent). In known.sent ss) (none_acked read) known.acked
    go (inr (inr crowded)) = never_many read crowded.place crowded.before crowded.many

narrow_other : (from_server 0 narrow_payload ∷ []) ≡ once_named.from_server → ⊥
narrow_other e = let clash : ◌≡◌ {A = ℕ} 1 0 = ap byte_of e ∙ right_byte in omega (arith, clash)

not_narrow : NeverEnds (λ w. (from_server 0 narrow_payload ∷ []) ≡ w.from_server) started named_events named_answers
not_narrow = behind_gives (step_on refl takes (step_on refl waits_once (step_on refl names_once (ends_here narrow_other))))

pub no_narrow : (read : ReadCall) → NeverGives (narrow_name read)
no_narrow read views end is = not_narrow.never views end is.follows is.from_server

-- ---- an end that is never booked

silent_no : IsRefused once_acked asks_event (answers.Event None)
unfolding once_acked
silent_no e = cc

pub no_silence : (read : ReadCall) → IsNoRun (asked_run read (answers.Event None ∷ []))
no_silence read = behind_sent (behind refl takes (behind refl waits_once (behind refl names_once (behind refl takes_name (stops _ _ _ _ _ silent_no)))))

-- ---- a stream that is told twice

pub twice_told : (read : ReadCall) → FinishedIsTold (asked_run read (tells_finished ∷ tells_finished ∷ [])) → ⊥
twice_told read h = let most : 2 ≤ 1 = (h Client 0 10 refl).0 in omega (arith, most)

pub tells_once : IsStep worked_policies once_acked asks_event tells_finished once_told
unfolding once_acked
tells_once = record { answer = refl; end = refl; control = refl; heard = counts_so worked_policies once_acked asks_event tells_finished; openings = tt; others = refl; lacking = tt }

told_no : IsRefused once_told asks_event tells_finished
unfolding once_acked
told_no is = cc

pub no_twice_told : (read : ReadCall) → IsNoRun (asked_run read (tells_finished ∷ tells_finished ∷ []))
no_twice_told read = behind_sent (behind refl takes (behind refl waits_once (behind refl names_once (behind refl takes_name (behind refl tells_once (stops _ _ _ _ _ told_no))))))

-- ---- an acknowledgement of the first alone

takes_first : IsStep worked_policies pinged_once (delivers_at 0) (answers.Deliver receives.Taken) first_taken
unfolding first_taken
takes_first = record { answer = inl refl; end = refl; control = refl; heard = counts_so worked_policies pinged_once (delivers_at 0) (answers.Deliver receives.Taken); openings = tt; others = refl; lacking = tt }

waits_first : IsStep worked_policies first_taken server_waits (answers.Timeout (Ok tt)) first_due
unfolding first_taken
waits_first = record { answer = inl refl; end = refl; control = refl; heard = counts_so worked_policies first_taken server_waits (answers.Timeout (Ok tt)); openings = tt; others = refl; lacking = tt }

names_first : IsStep worked_policies first_due server_polled (gives_bytes 32) first_named
unfolding first_named
names_first = record { answer = inl refl; end = refl; control = refl; heard = counts_so worked_policies first_due server_polled (gives_bytes 32); openings = tt; others = refl; lacking = tt }

takes_named : IsStep worked_policies first_named client_delivered (answers.Deliver receives.Taken) first_acked
unfolding first_acked
takes_named = record { answer = inl refl; end = refl; control = refl; heard = counts_so worked_policies first_named client_delivered (answers.Deliver receives.Taken); openings = tt; others = refl; lacking = tt }

one_flies : length (in_flight first_run Client 10) ≡ 1
unfolding client_acked
one_flies = refl

one_waits : length first_acked.client.tracking.packets ≡ 1
unfolding first_acked
one_waits = refl

above_open : above_acked.client.closing.state ≡ states.Open
unfolding first_acked
above_open = refl

none_one : ◌≡◌ {A = ℕ} 0 1 → ⊥
none_one e = omega (arith, e)

pub above_tracks : TracksAt first_run 10 above_acked → ⊥
above_tracks h = none_one (as_many (h Client above_open) ∙ one_flies)

above_other : above_acked ≡ first_acked → ⊥
above_other e = none_one (ap (λ (w : World). length w.client.tracking.packets) e ∙ one_waits)

not_above : NotTo above_acked first_events first_answers
not_above = behind_gives (step_on refl (pings once_sent) (step_on refl gives_first (step_on refl takes_first (step_on refl waits_first (step_on refl names_first (step_on refl takes_named (ends_here above_other)))))))

pub never_above : NeverLeads first_events first_answers above_acked
never_above views f = not_above.never views above_acked f refl

-- ---- numbers that fall

pub falls_numbers : NumbersRise falling → ⊥
unfolding once_taken
falls_numbers h =
    let p = h Client 6 refl in
    repeats p.0 p.4.0 p.4.1 (only_word p.4.0 p.4.3)

gives_ping : IsStep worked_policies (after_ping started) asks_datagram (gives_bytes 223) ping_given
unfolding ping_given
gives_ping = record { answer = inl refl; end = refl; control = refl; heard = counts_so worked_policies (after_ping started) asks_datagram (gives_bytes 223); openings = tt; others = refl; lacking = tt }

opens_then : IsStep worked_policies ping_given opens_stream (answers.Open (Some 0)) (ping_and 1)
unfolding ping_given
opens_then = record { answer = refl; end = refl; control = refl; heard = counts_so worked_policies ping_given opens_stream (answers.Open (Some 0)); openings = tt; others = refl; lacking = tt }

writes_then : IsStep worked_policies (ping_and 1) writes_hello (answers.Write (Ok 5)) (ping_and 2)
unfolding ping_given
writes_then = record { answer = inl refl; end = refl; control = refl; heard = counts_so worked_policies (ping_and 1) writes_hello (answers.Write (Ok 5)); openings = tt; others = refl; lacking = λ lacks. cc }

finishes_then : IsStep worked_policies (ping_and 2) finishes_stream (answers.Finish (Ok tt)) (ping_and 3)
unfolding ping_given
finishes_then = record { answer = inl refl; end = refl; control = refl; heard = counts_so worked_policies (ping_and 2) finishes_stream (answers.Finish (Ok tt)); openings = tt; others = refl; lacking = λ lacks. cc }

gives_then : IsStep worked_policies (ping_and 3) asks_datagram (gives_bytes 34) word_given
unfolding word_given
gives_then = record { answer = inl refl; end = refl; control = refl; heard = counts_so worked_policies (ping_and 3) asks_datagram (gives_bytes 34); openings = tt; others = refl; lacking = tt }

-- the last byte of the number in the tag of the second datagram
abbrev second_byte : List (List ℕ) → ℕ
second_byte [] = 9
second_byte (d ∷ []) = 9
second_byte (d ∷ e ∷ ds) = slice_index e 25

right_second : second_byte word_given.from_client ≡ 1
unfolding word_given
right_second = refl

falls_other : falling.from_client ≡ word_given.from_client → ⊥
falls_other e = let clash : ◌≡◌ {A = ℕ} 0 1 = ap second_byte e ∙ right_second in omega (arith, clash)

not_falling : NeverEnds (λ w. falling.from_client ≡ w.from_client) started falling_events falling_answers
not_falling = step_on refl (pings started) (step_on refl gives_ping (step_on refl opens_then (step_on refl writes_then (step_on refl finishes_then (step_on refl gives_then (ends_here falls_other))))))

pub no_falling : NeverGives falling
no_falling views end is = not_falling.never views end is.follows is.from_client
