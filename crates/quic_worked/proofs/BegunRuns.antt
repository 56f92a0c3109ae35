-- What begins to wait in the run in which a limit is lost and goes again, and ends at which
-- something waits without a cause.
use Rattle.std.proofs.Common.{◌≡◌, ℕ, List, [], ◌∷◌, take, length, ◌<◌, true, false, None, refl, inl, inr, sym, ap, ◌∙◌, subst, arith}
use Rattle.std.specs.Prelude.{map, ◌==◌, ◌&&◌, nat_lt, Bool}
use Rattle.std.specs.List.{list_any}
use Rattle.std.specs.Option.{is_some}
use Rattle.std.proofs.lemmas.Bool.{both_ways, and_parts, eqb-true, ltb-true}
use Rattle.quic_wire.specs.Value.{FrameValue, stream, StreamValue}
use Rattle.quic_streams_parts.specs.Table.{at}
use Rattle.quic_machine.specs.declared.run.ReadCall.{ReadCall}
use Rattle.quic_machine.specs.CallCases.{is_poll}
use Rattle.quic_machine.specs.End.{End}
use Rattle.quic_machine.specs.Machine.{World}
use Rattle.quic_headline.specs.Runs.{In, written}
use Rattle.quic_headline.specs.InFlight.{is_max_data}
use Rattle.quic_headline.specs.Duties.{AllData, StreamData, on_half}
use Rattle.quic_headline.specs.Moments.{went}
use Rattle.quic_headline.specs.Observer.{Sent, HoldsOffset}
use Rattle.quic_headline.specs.Expiring.{asks_anew}
use Rattle.quic_headline.specs.Waited.{stands, is_path_challenge}
use Rattle.quic_headline.specs.Begins.{Seen, Control, Ack, Ping, Challenge, Response, Byte, Frame, LimitOf, NewId, Retirement, Done, control_waits, byte_waits, brings, asks_for, may_hasten, makes_ping, acknowledged_by, IsPending, HasCause, WasLost, still, begins, BeginsAt}
use Rattle.quic_worked.specs.Credit.{narrow_bytes, credit_written, credit_sent, credit_accepted, credit_taken, credit_read, credit_given, ReadsEight}
use Rattle.quic_worked.specs.Raised.{raised_events, raised_told, after_server_ping, first_ping, second_ping, third_came, third_due, limit_came, NeverComes}
use Rattle.quic_worked.specs.Begun.{sending_seen, reading_seen, word_seen, raising_seen, pinging_seen, waiting_seen, losing_seen, challenged_seen, bringing_seen, using_seen, retired_seen, unanswered_server, unanswered_seen, challenge_at_each_timeout, early_challenge, limit_at_each_read, all_at_each_read, limit_at_each_poll, ack_at_each_call, ping_at_each_timeout, bytes_at_each_poll, challenge_at_each_call, response_at_each_call, id_at_each_call, retirement_at_each_call, done_at_each_call, repeated_seen, issues_two, tells_again, retires_the_next, retires_at_once, NeverRetired, NeverBrought, NeverRead, NeverRenamed}
use Rattle.quic_worked.specs.Acknowledged.{client_acked}
use Rattle.quic_worked.specs.Worked.{started, worked_events, worked_answers, once_taken, once_accepted, once_read, ReadsBy, two_chunks, both_steady}
use Rattle.quic_worked.specs.Renamed.{renaming_events, renaming_answers, once_renamed}
use Rattle.quic_worked.specs.Unvalidated.{once_far, once_answered}
use Rattle.quic_worked.proofs.CreditRuns as credit
use Rattle.quic_worked.proofs.RaisedRun as raised
use Rattle.quic_worked.proofs.WorkedRun as word
use Rattle.quic_worked.proofs.RenamedRuns.{client_tells, server_tells, client_takes, client_uses, client_gives, server_takes}
use Rattle.quic_worked.proofs.WrongRuns.{NeverEnds, ends_here, step_on}

-- ---- causes

-- the limit on all data waits since the bytes were read
zero_asks : (read : ReadCall) → asks_for (reading_seen (record read { id = 0 })) (LimitOf AllData) ≡ true
unfolding limit_came
zero_asks read = refl

pub read_asks : (read : ReadCall) → ReadsEight read → asks_for (reading_seen read) (LimitOf AllData) ≡ true
read_asks read by = subst (λ (id : ℕ). asks_for (reading_seen (record read { id = id })) (LimitOf AllData) ≡ true) (sym by.id) (zero_asks read)

-- whether the first of some says how far all data may come, and has the number 0
abbrev head_says : List Sent → Bool
head_says [] = false
head_says (s ∷ ss) = list_any is_max_data s.frames && (s.number == 0)

-- numbers of datagrams
abbrev numbers : List Sent → List ℕ
numbers ss = map (λ s. s.number) ss

in_numbers : (s : Sent) (ss : List Sent) → In s ss → In s.number (numbers ss)
in_numbers s [] i = absurd i
in_numbers s (t ∷ ss) (inl is) = inl (ap (λ (u : Sent). u.number) is)
in_numbers s (t ∷ ss) (inr i) = inr (in_numbers s ss i)

-- one of some says how far all data may come, under this number
record SaysFirst (ss : List Sent) : Type 0 where
  sent : Sent
  among : In sent ss
  says : list_any is_max_data sent.frames ≡ true
  number : sent.number ≡ 0

first_says : (ss : List Sent) → head_says ss ≡ true → SaysFirst ss
first_says [] is = cc
first_says (s ∷ ss) is = let both = and_parts (list_any is_max_data s.frames) (s.number == 0) is in record { sent = s; among = inl refl; says = both.0; number = eqb-true s.number 0 both.1 }

first_flew : (read : ReadCall) → head_says (losing_seen read).before.flight.flying ≡ true
unfolding limit_came
first_flew read = refl

two_fly : (read : ReadCall) → numbers (losing_seen read).behind.flight.flying ≡ 1 ∷ 2 ∷ []
unfolding limit_came
two_fly read = refl

one_named : (read : ReadCall) → numbers (acknowledged_by (losing_seen read)) ≡ 3 ∷ []
unfolding limit_came
one_named read = refl

-- and again since the datagram that said it is lost
pub limit_is_lost : (read : ReadCall) → WasLost (losing_seen read) (Frame (LimitOf AllData))
limit_is_lost read =
    let f = first_says (losing_seen read).before.flight.flying (first_flew read) in
    let n = f.number in
    record {
      sent = f.sent;
      flew = f.among;
      gone = λ i. elim (subst (λ (ns : List ℕ). In f.sent.number ns) (two_fly read) (in_numbers f.sent (losing_seen read).behind.flight.flying i)) [
        | inl is ↦ omega (arith, is, n)
        | inr more ↦ elim more [ inl is ↦ omega (arith, is, n) | inr none ↦ none ]
      ];
      unnamed = λ i. elim (subst (λ (ns : List ℕ). In f.sent.number ns) (one_named read) (in_numbers f.sent (acknowledged_by (losing_seen read)) i)) [ inl is ↦ omega (arith, is, n) | inr none ↦ none ];
      bore = f.says;
    }

-- ---- MAX_DATA at each poll

limit_went : (read : ReadCall) → stands is_max_data (went (raising_seen read).before (raising_seen read).behind) ≡ true
unfolding limit_came
limit_went read = refl

limit_unasked : (read : ReadCall) → asks_for (raising_seen read) (LimitOf AllData) ≡ false
unfolding limit_came
limit_unasked read = refl

none_flew : (read : ReadCall) → (raising_seen read).before.flight.flying ≡ []
unfolding limit_came
none_flew read = refl

pub limit_shows : (read : ReadCall) → BeginsAt (raising_seen read) credit_read.server limit_at_each_poll.server → ⊥
limit_shows read h = elim (h (Frame (LimitOf AllData)) refl) [
  | still waited stays ↦ stays (limit_went read)
  | begins cause ↦ elim cause [
    | inl asks ↦ both_ways (asks_for (raising_seen read) (LimitOf AllData)) (limit_unasked read) asks
    | inr other ↦ elim other [
      | inl lost ↦ subst (λ (ss : List Sent). In lost.sent ss) (none_flew read) lost.flew
      | inr probed ↦ subst (λ (ss : List Sent). In probed.sent ss) (none_flew read) probed.flies
    ]
  ]
]

-- ---- bytes at each poll

-- the first STREAM frame of some is of stream 0, with its first byte
abbrev leads : List FrameValue → Bool
leads [] = false
leads (stream f ∷ fs) = (f.id == 0) && ((f.offset == 0) && nat_lt 0 (length f.bytes))
leads (f ∷ fs) = leads fs

abbrev head_leads : List Sent → Bool
head_leads [] = false
head_leads (s ∷ ss) = leads s.frames

abbrev Leader : List FrameValue → Type 0
Leader fs = (f : StreamValue) × In (stream f) fs × (f.id ≡ 0) × (f.offset ≡ 0) × (0 < length f.bytes)

leader : (fs : List FrameValue) → leads fs ≡ true → Leader fs
leader [] is = cc
leader (stream f ∷ fs) is =
    let both = and_parts (f.id == 0) ((f.offset == 0) && nat_lt 0 (length f.bytes)) is in
    let more = and_parts (f.offset == 0) (nat_lt 0 (length f.bytes)) both.1 in
    (f, inl refl, eqb-true f.id 0 both.0, eqb-true f.offset 0 more.0, ltb-true 0 (length f.bytes) more.1)
leader (f ∷ fs) is = let rest = leader fs is in (rest.0, inr rest.1, rest.2, rest.3, rest.4)

bears : (ss : List Sent) → head_leads ss ≡ true → HoldsOffset ss 0 0
bears [] is = cc
bears (s ∷ ss) is =
    let l = leader s.frames is in
    let first : l.0.offset ≡ 0 = l.3 in
    let some : 0 < length l.0.bytes = l.4 in
    record { sent = s; among = inl refl; frame = l.0; carried = l.1; of_stream = l.2; from = omega (arith, first); below = omega (arith, first, some) }

bytes_went : (read : ReadCall) → head_leads (went (sending_seen read).before (sending_seen read).behind) ≡ true
unfolding limit_came
bytes_went read = refl

bytes_wait : on_half (byte_waits 0) (at credit_written.client.streams.sending.halves.live 0) ≡ true
bytes_wait = refl

were_written : (read : ReadCall) → length (written 0 (sending_seen read).told) ≡ 8
unfolding limit_came
were_written read = refl

no_flight : (read : ReadCall) → (sending_seen read).before.flight.flying ≡ []
unfolding limit_came
no_flight read = refl

pub bytes_show : (read : ReadCall) → BeginsAt (sending_seen read) credit_written.client bytes_at_each_poll.client → ⊥
bytes_show read h = elim (h (Byte 0 0) bytes_wait) [
  | still waited stays ↦ stays (bears (went (sending_seen read).before (sending_seen read).behind) (bytes_went read))
  | begins cause ↦ elim cause [
    | inl fresh ↦ (let few = fresh.0 in let all = were_written read in omega (arith, few, all))
    | inr lost ↦ subst (λ (ss : List Sent). In lost.sent ss) (no_flight read) lost.flew
  ]
]

bytes_gone : on_half (byte_waits 0) (at credit_sent.client.streams.sending.halves.live 0) ≡ false
unfolding credit_sent
bytes_gone = refl

other_bytes : bytes_at_each_poll ≡ credit_sent → ⊥
other_bytes e = let clash : true ≡ false = sym bytes_wait ∙ (ap (λ (w : World). on_half (byte_waits 0) (at w.client.streams.sending.halves.live 0)) e ∙ bytes_gone) in cc

bytes_to : (read : ReadCall) → NeverEnds (λ w. bytes_at_each_poll ≡ w) narrow_bytes (take 3 (raised_events read)) (take 3 raised_told)
bytes_to read = step_on refl credit.opens (step_on refl credit.writes (step_on refl credit.gives (ends_here other_bytes)))

pub never_bytes : (read : ReadCall) → NeverComes (take 3 (raised_events read)) (take 3 raised_told) bytes_at_each_poll
never_bytes read views f = (bytes_to read).never views bytes_at_each_poll f refl

-- ---- an ACK frame at each call

none_hastens : (read : ReadCall) → may_hasten (pinging_seen read) ≡ false
unfolding limit_came
none_hastens read = refl

none_due : credit_given.server.acknowledging.due ≡ false
unfolding credit_given
none_due = refl

pub ack_shows : (read : ReadCall) → BeginsAt (pinging_seen read) credit_given.server ack_at_each_call.server → ⊥
ack_shows read h = elim (h Ack refl) [
  | still due stays ↦ both_ways credit_given.server.acknowledging.due none_due due
  | begins cause ↦ both_ways (may_hasten (pinging_seen read)) (none_hastens read) cause
]

-- ---- PING at each timeout

none_pinged : third_came.client.waiting.signals.ping ≡ false
unfolding third_came
none_pinged = refl

no_ping_made : (read : ReadCall) → makes_ping (waiting_seen read) ≡ false
unfolding limit_came
no_ping_made read = refl

pub ping_shows : (read : ReadCall) → BeginsAt (waiting_seen read) third_came.client ping_at_each_timeout.client → ⊥
ping_shows read h = elim (h Ping refl) [
  | still set stays ↦ both_ways third_came.client.waiting.signals.ping none_pinged set
  | begins cause ↦ both_ways (makes_ping (waiting_seen read)) (no_ping_made read) cause
]

-- ---- no run comes to them

limit_gone : credit_given.server.waiting.frames.max_data ≡ false
unfolding credit_given
limit_gone = refl

other_limit : limit_at_each_poll ≡ credit_given → ⊥
other_limit e = let clash : true ≡ false = ap (λ (w : World). w.server.waiting.frames.max_data) e ∙ limit_gone in cc

limit_to : (read : ReadCall) → ReadsEight read → NeverEnds (λ w. limit_at_each_poll ≡ w) narrow_bytes (take 7 (raised_events read)) (take 7 raised_told)
limit_to read by = step_on refl credit.opens (step_on refl credit.writes (step_on refl credit.gives (step_on refl credit.takes (step_on refl credit.accepts (step_on refl (credit.reads read by) (step_on refl credit.raises (ends_here other_limit)))))))

pub never_limit : (read : ReadCall) → ReadsEight read → NeverComes (take 7 (raised_events read)) (take 7 raised_told) limit_at_each_poll
never_limit read by views f = (limit_to read by).never views limit_at_each_poll f refl

other_ack : ack_at_each_call ≡ after_server_ping credit_given → ⊥
other_ack e = let clash : true ≡ false = ap (λ (w : World). w.server.acknowledging.due) e ∙ none_due in cc

-- behind the call that asks for PING an end is that of the machine alone
pinged_to : (bad : World) → (bad ≡ after_server_ping credit_given → ⊥) → (read : ReadCall) → ReadsEight read → NeverEnds (λ w. bad ≡ w) narrow_bytes (take 8 (raised_events read)) (take 8 raised_told)
pinged_to bad other read by = step_on refl credit.opens (step_on refl credit.writes (step_on refl credit.gives (step_on refl credit.takes (step_on refl credit.accepts (step_on refl (credit.reads read by) (step_on refl credit.raises
    (step_on refl (raised.pings credit_given) (ends_here other))))))))

never_pinged : (bad : World) → (bad ≡ after_server_ping credit_given → ⊥) → (read : ReadCall) → ReadsEight read → NeverComes (take 8 (raised_events read)) (take 8 raised_told) bad
never_pinged bad other read by views f = (pinged_to bad other read by).never views bad f refl

pub never_ack : (read : ReadCall) → ReadsEight read → NeverComes (take 8 (raised_events read)) (take 8 raised_told) ack_at_each_call
never_ack = never_pinged ack_at_each_call other_ack

still_none : third_due.client.waiting.signals.ping ≡ false
unfolding third_came
still_none = refl

other_ping : ping_at_each_timeout ≡ third_due → ⊥
other_ping e = let clash : true ≡ false = ap (λ (w : World). w.client.waiting.signals.ping) e ∙ still_none in cc

-- behind that timeout an end is that of the machine alone
timed_to : (bad : World) → (bad ≡ third_due → ⊥) → (read : ReadCall) → ReadsEight read → NeverEnds (λ w. bad ≡ w) narrow_bytes (take 15 (raised_events read)) (take 15 raised_told)
timed_to bad other read by =
    step_on refl credit.opens (step_on refl credit.writes (step_on refl credit.gives (step_on refl credit.takes (step_on refl credit.accepts (step_on refl (credit.reads read by) (step_on refl credit.raises
    (step_on refl (raised.pings credit_given) (step_on refl raised.gives_first (step_on refl (raised.pings first_ping) (step_on refl raised.gives_second (step_on refl (raised.pings second_ping) (step_on refl raised.gives_third (step_on refl raised.comes_third
    (step_on refl raised.waits_third (ends_here other)))))))))))))))

pub never_ping : (read : ReadCall) → ReadsEight read → NeverComes (take 15 (raised_events read)) (take 15 raised_told) ping_at_each_timeout
never_ping read by views f = (timed_to ping_at_each_timeout other_ping read by).never views ping_at_each_timeout f refl

-- ---- frames that have a cause

pub was_challenged : HasCause challenged_seen Response
unfolding client_acked
was_challenged = refl

pub response_waits : IsPending (once_answered 1).client Response
unfolding once_answered
response_waits = refl

pub next_is_used : HasCause using_seen (Frame (Retirement 0))
unfolding client_acked
next_is_used = inl refl

pub retirement_waits : IsPending (once_renamed 4).client (Frame (Retirement 0))
unfolding once_renamed
retirement_waits = refl

pub was_retired : HasCause retired_seen (Frame (NewId 8))
unfolding client_acked
was_retired = inl refl

pub new_id_waits : IsPending (once_renamed 6).server (Frame (NewId 8))
unfolding once_renamed
new_id_waits = refl

pub challenge_waits : IsPending unanswered_server Challenge
unfolding once_far
challenge_waits = refl

pub challenge_due : HasCause (unanswered_seen 3072000000) Challenge
unfolding client_acked
challenge_due = refl

none_before : (let s = unanswered_seen 3071999999 in asks_anew s.validated s.now s.behind s.questions) ≡ false
unfolding client_acked
none_before = refl

pub challenge_early : HasCause (unanswered_seen 3071999999) Challenge → ⊥
challenge_early cause = (let s = unanswered_seen 3071999999 in both_ways (asks_anew s.validated s.now s.behind s.questions) none_before cause)

-- ---- PATH_CHALLENGE at each timeout

none_asked : third_came.client.waiting.signals.challenge ≡ None
unfolding third_came
none_asked = refl

not_anew : (read : ReadCall) → (let s = waiting_seen read in asks_anew s.validated s.now s.behind s.questions) ≡ false
unfolding limit_came
not_anew read = refl

pub validated_shows : (read : ReadCall) → BeginsAt (waiting_seen read) third_came.client challenge_at_each_timeout.client → ⊥
validated_shows read h = elim (h Challenge refl) [
  | still set stays ↦ both_ways (is_some third_came.client.waiting.signals.challenge) (ap is_some none_asked) set
  | begins cause ↦ (let s = waiting_seen read in both_ways (asks_anew s.validated s.now s.behind s.questions) (not_anew read) cause)
]

none_waits : is_some (once_far 5).server.waiting.signals.challenge ≡ false
unfolding once_far
none_waits = refl

pub early_shows : BeginsAt (unanswered_seen 3071999999) (once_far 5).server early_challenge → ⊥
early_shows h = elim (h Challenge refl) [
  | still set stays ↦ both_ways (is_some (once_far 5).server.waiting.signals.challenge) none_waits set
  | begins cause ↦ challenge_early cause
]

still_unasked : is_some third_due.client.waiting.signals.challenge ≡ false
unfolding third_came
still_unasked = refl

other_asks : challenge_at_each_timeout ≡ third_due → ⊥
other_asks e = let clash : true ≡ false = ap (λ (w : World). is_some w.client.waiting.signals.challenge) e ∙ still_unasked in cc

pub never_asks : (read : ReadCall) → ReadsEight read → NeverComes (take 15 (raised_events read)) (take 15 raised_told) challenge_at_each_timeout
never_asks read by views f = (timed_to challenge_at_each_timeout other_asks read by).never views challenge_at_each_timeout f refl

-- ---- frames at each call

none_challenged : is_some credit_given.server.waiting.signals.challenge ≡ false
unfolding credit_given
none_challenged = refl

none_answers : is_some credit_given.server.waiting.signals.response ≡ false
unfolding credit_given
none_answers = refl

path_stays : (read : ReadCall) → (let s = pinging_seen read in asks_anew s.validated s.now s.behind s.questions) ≡ false
unfolding limit_came
path_stays read = refl

pub challenge_shows : (read : ReadCall) → BeginsAt (pinging_seen read) credit_given.server challenge_at_each_call.server → ⊥
challenge_shows read h = elim (h Challenge refl) [
  | still set stays ↦ both_ways (is_some credit_given.server.waiting.signals.challenge) none_challenged set
  | begins cause ↦ (let s = pinging_seen read in both_ways (asks_anew s.validated s.now s.behind s.questions) (path_stays read) cause)
]

none_asks : (read : ReadCall) → brings is_path_challenge (pinging_seen read) ≡ false
unfolding limit_came
none_asks read = refl

pub response_shows : (read : ReadCall) → BeginsAt (pinging_seen read) credit_given.server response_at_each_call.server → ⊥
response_shows read h = elim (h Response refl) [
  | still set stays ↦ both_ways (is_some credit_given.server.waiting.signals.response) none_answers set
  | begins cause ↦ both_ways (brings is_path_challenge (pinging_seen read)) (none_asks read) cause
]

-- the call takes nothing from flight
same_flight : (read : ReadCall) → (pinging_seen read).before.flight.flying ≡ (pinging_seen read).behind.flight.flying
unfolding limit_came
same_flight read = refl

-- so a control frame that waits behind such a call and didn't before breaks the clause, unless it
-- is called for
pub control_unasked : (s : Seen) (c : Control) (before e : End) → is_poll s.now.call ≡ false → s.before.flight.flying ≡ s.behind.flight.flying
    → asks_for s c ≡ false → control_waits before.waiting.frames c ≡ false → control_waits e.waiting.frames c ≡ true → BeginsAt s before e → ⊥
control_unasked s c before e apart same unasked none waits h = elim (h (Frame c) waits) [
  | still waited stays ↦ both_ways (control_waits before.waiting.frames c) none waited
  | begins cause ↦ elim cause [
    | inl asks ↦ both_ways (asks_for s c) unasked asks
    | inr other ↦ elim other [
      | inl lost ↦ lost.gone (subst (λ (ss : List Sent). In lost.sent ss) same lost.flew)
      | inr probed ↦ both_ways (is_poll s.now.call) apart probed.polls
    ]
  ]
]

-- at the read
reading_flight : (read : ReadCall) → (reading_seen read).before.flight.flying ≡ (reading_seen read).behind.flight.flying
unfolding limit_came
reading_flight read = refl

stream_zero : (read : ReadCall) → asks_for (reading_seen (record read { id = 0 })) (LimitOf (StreamData 0)) ≡ false
unfolding limit_came
stream_zero read = refl

stream_unasked : (read : ReadCall) → ReadsEight read → asks_for (reading_seen read) (LimitOf (StreamData 0)) ≡ false
stream_unasked read by = subst (λ (id : ℕ). asks_for (reading_seen (record read { id = id })) (LimitOf (StreamData 0)) ≡ false) (sym by.id) (stream_zero read)

no_stream_limit : control_waits credit_accepted.server.waiting.frames (LimitOf (StreamData 0)) ≡ false
unfolding credit_taken
no_stream_limit = refl

pub stream_limit_shows : (read : ReadCall) → ReadsEight read → BeginsAt (reading_seen read) credit_accepted.server limit_at_each_read.server → ⊥
stream_limit_shows read by = control_unasked (reading_seen read) (LimitOf (StreamData 0)) credit_accepted.server limit_at_each_read.server refl (reading_flight read) (stream_unasked read by) no_stream_limit refl

none_read : control_waits credit_read.server.waiting.frames (LimitOf (StreamData 0)) ≡ false
unfolding credit_taken
none_read = refl

other_limit_read : limit_at_each_read ≡ credit_read → ⊥
other_limit_read e = let clash : true ≡ false = ap (λ (w : World). control_waits w.server.waiting.frames (LimitOf (StreamData 0))) e ∙ none_read in cc

read_to : (read : ReadCall) → ReadsEight read → NeverEnds (λ w. limit_at_each_read ≡ w) narrow_bytes (take 6 (raised_events read)) (take 6 raised_told)
read_to read by = step_on refl credit.opens (step_on refl credit.writes (step_on refl credit.gives (step_on refl credit.takes (step_on refl credit.accepts (step_on refl (credit.reads read by) (ends_here other_limit_read))))))

pub never_stream_limit : (read : ReadCall) → ReadsEight read → NeverComes (take 6 (raised_events read)) (take 6 raised_told) limit_at_each_read
never_stream_limit read by views f = (read_to read by).never views limit_at_each_read f refl

-- at the read of a word
word_flight : (read : ReadCall) → (word_seen read).before.flight.flying ≡ (word_seen read).behind.flight.flying
unfolding once_taken
word_flight read = refl

all_zero : (read : ReadCall) → asks_for (word_seen (record read { id = 0 })) (LimitOf AllData) ≡ false
unfolding once_taken
all_zero read = refl

all_unasked : (read : ReadCall) → ReadsBy two_chunks read → asks_for (word_seen read) (LimitOf AllData) ≡ false
all_unasked read by = subst (λ (id : ℕ). asks_for (word_seen (record read { id = id })) (LimitOf AllData) ≡ false) (sym by.id) (all_zero read)

no_all_limit : control_waits once_accepted.server.waiting.frames (LimitOf AllData) ≡ false
unfolding once_taken
no_all_limit = refl

pub all_limit_shows : (read : ReadCall) → ReadsBy two_chunks read → BeginsAt (word_seen read) once_accepted.server all_at_each_read.server → ⊥
all_limit_shows read by = control_unasked (word_seen read) (LimitOf AllData) once_accepted.server all_at_each_read.server refl (word_flight read) (all_unasked read by) no_all_limit refl

none_of_all : control_waits once_read.server.waiting.frames (LimitOf AllData) ≡ false
unfolding once_taken
none_of_all = refl

other_all_read : all_at_each_read ≡ once_read → ⊥
other_all_read e = let clash : true ≡ false = ap (λ (w : World). control_waits w.server.waiting.frames (LimitOf AllData)) e ∙ none_of_all in cc

word_to : (read : ReadCall) → ReadsBy two_chunks read → NeverEnds (λ w. all_at_each_read ≡ w) started (worked_events read) worked_answers
word_to read by = step_on refl word.opens (step_on refl word.writes (step_on refl word.finishes (step_on refl word.gives (step_on refl word.takes (step_on refl word.drops_duplicate (step_on refl word.accepts (step_on refl (word.reads read by) (ends_here other_all_read))))))))

pub never_all_limit : (read : ReadCall) → ReadsBy two_chunks read → NeverRead read all_at_each_read
never_all_limit read by views f = (word_to read by).never views all_at_each_read f refl

-- at the call that asks for PING
control_shows : (c : Control) (e : End) (read : ReadCall) → asks_for (pinging_seen read) c ≡ false → control_waits credit_given.server.waiting.frames c ≡ false → control_waits e.waiting.frames c ≡ true
    → BeginsAt (pinging_seen read) credit_given.server e → ⊥
control_shows c e read = control_unasked (pinging_seen read) c credit_given.server e refl (same_flight read)

-- at the call that uses the next id: number 1 is in use then, and isn't retired
next_flight : using_seen.before.flight.flying ≡ using_seen.behind.flight.flying
unfolding client_acked
next_flight = refl

one_unasked : asks_for using_seen (Retirement 1) ≡ false
unfolding client_acked
one_unasked = refl

one_before : control_waits (once_renamed 3).client.waiting.frames (Retirement 1) ≡ false
unfolding once_renamed
one_before = refl

one_behind : control_waits retires_the_next.client.waiting.frames (Retirement 1) ≡ true
unfolding once_renamed
one_behind = refl

pub next_shows : BeginsAt using_seen (once_renamed 3).client retires_the_next.client → ⊥
next_shows = control_unasked using_seen (Retirement 1) (once_renamed 3).client retires_the_next.client refl next_flight one_unasked one_before one_behind

one_isnt_retired : control_waits (once_renamed 4).client.waiting.frames (Retirement 1) ≡ false
unfolding once_renamed
one_isnt_retired = refl

other_next : retires_the_next ≡ once_renamed 4 → ⊥
other_next e = both_ways (control_waits retires_the_next.client.waiting.frames (Retirement 1)) (ap (λ (w : World). control_waits w.client.waiting.frames (Retirement 1)) e ∙ one_isnt_retired) one_behind

not_next : NeverEnds (λ w. retires_the_next ≡ w) both_steady (take 4 renaming_events) (take 4 renaming_answers)
not_next = step_on refl client_tells (step_on refl server_tells (step_on refl client_takes (step_on refl client_uses (ends_here other_next))))

pub never_next : NeverRenamed retires_the_next
never_next views f = not_next.never views retires_the_next f refl

-- an id of the peer comes, and isn't late
brought_flight : bringing_seen.before.flight.flying ≡ bringing_seen.behind.flight.flying
unfolding client_acked
brought_flight = refl

brought_unasked : asks_for bringing_seen (Retirement 1) ≡ false
unfolding client_acked
brought_unasked = refl

none_retired : control_waits (once_renamed 2).client.waiting.frames (Retirement 1) ≡ false
unfolding once_renamed
none_retired = refl

retired_at_once : control_waits retires_at_once.client.waiting.frames (Retirement 1) ≡ true
unfolding once_renamed
retired_at_once = refl

pub at_once_shows : BeginsAt bringing_seen (once_renamed 2).client retires_at_once.client → ⊥
at_once_shows = control_unasked bringing_seen (Retirement 1) (once_renamed 2).client retires_at_once.client refl brought_flight brought_unasked none_retired retired_at_once

still_unretired : control_waits (once_renamed 3).client.waiting.frames (Retirement 1) ≡ false
unfolding once_renamed
still_unretired = refl

other_at_once : retires_at_once ≡ once_renamed 3 → ⊥
other_at_once e = both_ways (control_waits retires_at_once.client.waiting.frames (Retirement 1)) (ap (λ (w : World). control_waits w.client.waiting.frames (Retirement 1)) e ∙ still_unretired) retired_at_once

not_at_once : NeverEnds (λ w. retires_at_once ≡ w) both_steady (take 3 renaming_events) (take 3 renaming_answers)
not_at_once = step_on refl client_tells (step_on refl server_tells (step_on refl client_takes (ends_here other_at_once)))

pub never_at_once : NeverBrought retires_at_once
never_at_once views f = not_at_once.never views retires_at_once f refl

-- ---- ids for one that is retired

-- one is issued for it, and no other
second_unasked : asks_for retired_seen (NewId 9) ≡ false
unfolding client_acked
second_unasked = refl

-- and none that was told before
old_unasked : asks_for retired_seen (NewId 1) ≡ false
unfolding client_acked
old_unasked = refl

-- nor any where the retirement is repeated
repeat_unasked : asks_for repeated_seen (NewId 9) ≡ false
unfolding client_acked
repeat_unasked = refl

-- what was in flight is acknowledged with it
all_named : retired_seen.before.flight.flying ≡ acknowledged_by retired_seen
unfolding client_acked
all_named = refl

repeat_flight : repeated_seen.before.flight.flying ≡ repeated_seen.behind.flight.flying
unfolding client_acked
repeat_flight = refl

-- so an id that waits behind it and didn't before breaks the clause, unless it is called for
ids_unasked : (number : ℕ) (e : End) → asks_for retired_seen (NewId number) ≡ false → control_waits (once_renamed 5).server.waiting.frames (NewId number) ≡ false → control_waits e.waiting.frames (NewId number) ≡ true → BeginsAt retired_seen (once_renamed 5).server e → ⊥
ids_unasked number e unasked none waits h = elim (h (Frame (NewId number)) waits) [
  | still waited stays ↦ both_ways (control_waits (once_renamed 5).server.waiting.frames (NewId number)) none waited
  | begins cause ↦ elim cause [
    | inl asks ↦ both_ways (asks_for retired_seen (NewId number)) unasked asks
    | inr other ↦ elim other [
      | inl lost ↦ lost.unnamed (subst (λ (ss : List Sent). In lost.sent ss) all_named lost.flew)
      | inr probed ↦ both_ways (is_poll retired_seen.now.call) refl probed.polls
    ]
  ]
]

no_ninth : control_waits (once_renamed 5).server.waiting.frames (NewId 9) ≡ false
unfolding once_renamed
no_ninth = refl

no_first : control_waits (once_renamed 5).server.waiting.frames (NewId 1) ≡ false
unfolding once_renamed
no_first = refl

one_waits : control_waits (once_renamed 6).server.waiting.frames (NewId 9) ≡ false
unfolding once_renamed
one_waits = refl

first_gone : control_waits (once_renamed 6).server.waiting.frames (NewId 1) ≡ false
unfolding once_renamed
first_gone = refl

pub two_show : BeginsAt retired_seen (once_renamed 5).server issues_two.server → ⊥
two_show = ids_unasked 9 issues_two.server second_unasked no_ninth refl

pub again_shows : BeginsAt retired_seen (once_renamed 5).server tells_again.server → ⊥
again_shows = ids_unasked 1 tells_again.server old_unasked no_first refl

pub repeated_shows : BeginsAt repeated_seen (once_renamed 6).server issues_two.server → ⊥
repeated_shows = control_unasked repeated_seen (NewId 9) (once_renamed 6).server issues_two.server refl repeat_flight repeat_unasked one_waits refl

retired_to : (bad : World) → (bad ≡ once_renamed 6 → ⊥) → NeverEnds (λ w. bad ≡ w) both_steady (take 6 renaming_events) (take 6 renaming_answers)
retired_to bad other = step_on refl client_tells (step_on refl server_tells (step_on refl client_takes (step_on refl client_uses (step_on refl client_gives (step_on refl server_takes (ends_here other))))))

pub never_two : NeverRetired issues_two
never_two views f = (retired_to issues_two (λ e. (let clash : true ≡ false = ap (λ (w : World). control_waits w.server.waiting.frames (NewId 9)) e ∙ one_waits in cc))).never views issues_two f refl

pub never_again : NeverRetired tells_again
never_again views f = (retired_to tells_again (λ e. (let clash : true ≡ false = ap (λ (w : World). control_waits w.server.waiting.frames (NewId 1)) e ∙ first_gone in cc))).never views tells_again f refl

id_unasked : (read : ReadCall) → asks_for (pinging_seen read) (NewId 1) ≡ false
unfolding limit_came
id_unasked read = refl

retirement_unasked : (read : ReadCall) → asks_for (pinging_seen read) (Retirement 0) ≡ false
unfolding limit_came
retirement_unasked read = refl

no_id : control_waits credit_given.server.waiting.frames (NewId 1) ≡ false
unfolding credit_given
no_id = refl

no_retirement : control_waits credit_given.server.waiting.frames (Retirement 0) ≡ false
unfolding credit_given
no_retirement = refl

pub id_shows : (read : ReadCall) → BeginsAt (pinging_seen read) credit_given.server id_at_each_call.server → ⊥
id_shows read = control_shows (NewId 1) id_at_each_call.server read (id_unasked read) no_id refl

pub retirement_shows : (read : ReadCall) → BeginsAt (pinging_seen read) credit_given.server retirement_at_each_call.server → ⊥
retirement_shows read = control_shows (Retirement 0) retirement_at_each_call.server read (retirement_unasked read) no_retirement refl

done_unasked : (read : ReadCall) → asks_for (pinging_seen read) Done ≡ false
done_unasked read = refl

no_done : control_waits credit_given.server.waiting.frames Done ≡ false
unfolding credit_given
no_done = refl

pub done_shows : (read : ReadCall) → BeginsAt (pinging_seen read) credit_given.server done_at_each_call.server → ⊥
done_shows read = control_shows Done done_at_each_call.server read (done_unasked read) no_done refl

other_challenge : challenge_at_each_call ≡ after_server_ping credit_given → ⊥
other_challenge e = let clash : true ≡ false = ap (λ (w : World). is_some w.server.waiting.signals.challenge) e ∙ none_challenged in cc

other_response : response_at_each_call ≡ after_server_ping credit_given → ⊥
other_response e = let clash : true ≡ false = ap (λ (w : World). is_some w.server.waiting.signals.response) e ∙ none_answers in cc

other_id : id_at_each_call ≡ after_server_ping credit_given → ⊥
other_id e = let clash : true ≡ false = ap (λ (w : World). control_waits w.server.waiting.frames (NewId 1)) e ∙ no_id in cc

other_retirement : retirement_at_each_call ≡ after_server_ping credit_given → ⊥
other_retirement e = let clash : true ≡ false = ap (λ (w : World). control_waits w.server.waiting.frames (Retirement 0)) e ∙ no_retirement in cc

other_done : done_at_each_call ≡ after_server_ping credit_given → ⊥
other_done e = let clash : true ≡ false = ap (λ (w : World). control_waits w.server.waiting.frames Done) e ∙ no_done in cc

pub never_challenge : (read : ReadCall) → ReadsEight read → NeverComes (take 8 (raised_events read)) (take 8 raised_told) challenge_at_each_call
never_challenge = never_pinged challenge_at_each_call other_challenge

pub never_response : (read : ReadCall) → ReadsEight read → NeverComes (take 8 (raised_events read)) (take 8 raised_told) response_at_each_call
never_response = never_pinged response_at_each_call other_response

pub never_id : (read : ReadCall) → ReadsEight read → NeverComes (take 8 (raised_events read)) (take 8 raised_told) id_at_each_call
never_id = never_pinged id_at_each_call other_id

pub never_retirement : (read : ReadCall) → ReadsEight read → NeverComes (take 8 (raised_events read)) (take 8 raised_told) retirement_at_each_call
never_retirement = never_pinged retirement_at_each_call other_retirement

pub never_done : (read : ReadCall) → ReadsEight read → NeverComes (take 8 (raised_events read)) (take 8 raised_told) done_at_each_call
never_done = never_pinged done_at_each_call other_done
