-- What the server lets come in the run in which each limit binds; and machines that let more come.
use Rattle.std.proofs.Common.{◌≡◌, ℕ, zero, suc, ◌+◌, ◌≤◌, map, length, List, [], ◌∷◌, take, Ok, refl, sym, ap, ◌∙◌, subst, inl, inr, arith, true, lit<, lit≤}
use Rattle.std.specs.Prelude.{slice_index}
use Rattle.quic_wire_core.specs.declared.stream_id.Side.{Side}
use Rattle.quic_wire_core.specs.declared.stream_id.Side.TheVariants.{Client, Server}
use Rattle.quic_wire_core.specs.declared.stream_id.Dir.TheVariants.{Uni}
use Rattle.quic_wire.specs.Value.{FrameValue, max_data, max_stream_data, max_streams}
use Rattle.quic_parameters.specs.ParametersRead.{parameters_at, judged, values_met, met_in, met_within, met_after, whole_at, entry_at}
use Rattle.quic_config.specs.Transport.{parameters_of}
use Rattle.quic_worked.specs.Settings.{plain_settings}
use Rattle.quic_machine.specs.End.{IsMade}
use Rattle.quic_machine.specs.declared.run.ReadCall.{ReadCall}
use Rattle.quic_machine.specs.Start.{AreStarted}
use Rattle.quic_headline.specs.Runs.{In, until, bytes_of, reads as reads_of}
use Rattle.quic_headline.specs.Observer.{Sent, took, sents_until}
use Rattle.quic_headline.specs.Headline.{IsHonest}
use Rattle.quic_headline.specs.Duties.{WasGiven}
use Rattle.quic_headline.specs.Unread.{receive_window, stream_window}
use Rattle.quic_headline.specs.Amounts.{making_at}
use Rattle.quic_headline.specs.Credit.{streams_of, consumed_on, all_consumed, CreditIsBounded, all_over, most_at_once, CountsAreBounded}
use Rattle.quic_worked.specs.Worked.{steady, worked_parameters, client_id, server_id}
use Rattle.quic_worked.specs.Exchange.{with_uni}
use Rattle.quic_worked.specs.Acknowledged.{from_server}
use Rattle.quic_worked.specs.Credit.{narrow_count, count_events, count_answers, count_payload, count_given, count_heard, count_run, ReadsEight, ReadsOneWay}
use Rattle.quic_worked.specs.Limited.{limited_start, limited_events, limited_answers, limited_heard, limited_given, limited_run}
use Rattle.quic_worked.specs.Machines.{NeverGives}
use Rattle.quic_worked.specs.Bounded.{lets_come, letting, twice_for_all, twice_on_one, one_way_parameters, twice_done}
use Rattle.quic_worked.proofs.CreditRuns as credit
use Rattle.quic_worked.proofs.WorkedRun.{parameters_say}
use Rattle.quic_worked.proofs.LimitedRun.{limited_started, opens, opens_both, writes_first, writes_second, blocks, gives, takes, accepts, reads, raises}
use Rattle.quic_worked.proofs.OwnIds.{AreOwn, own_ids}
use Rattle.quic_worked.proofs.WorkedKeys.{are_keys}
use Rattle.quic_worked.proofs.WrongAcks.{byte_of}
use Rattle.quic_worked.proofs.WrongRuns.{NeverEnds, ends_here, step_on}

-- ---- what was consumed

pub streams_came : (read : ReadCall) → streams_of (took (limited_run read) Server 10) ≡ 0 ∷ 4 ∷ []
unfolding limited_heard
streams_came read = refl

-- by the stream that the call reads
first_at : (read : ReadCall) (id : ℕ) → id ≡ 0 → consumed_on 0 (took (limited_run (record read { id = id })) Server 10) (until (limited_run (record read { id = id })) Server 10) ≡ 5
unfolding limited_heard
first_at read zero is = refl
first_at read (suc n) is = cc

second_at : (read : ReadCall) (id : ℕ) → id ≡ 0 → consumed_on 4 (took (limited_run (record read { id = id })) Server 10) (until (limited_run (record read { id = id })) Server 10) ≡ 0
unfolding limited_heard
second_at read zero is = refl
second_at read (suc n) is = cc

five_at : (read : ReadCall) (id : ℕ) → id ≡ 0 → all_consumed (took (limited_run (record read { id = id })) Server 10) (until (limited_run (record read { id = id })) Server 10) ≡ 5
unfolding limited_heard
five_at read zero is = refl
five_at read (suc n) is = cc

pub first_consumed : (read : ReadCall) → read.id ≡ 0 → consumed_on 0 (took (limited_run read) Server 10) (until (limited_run read) Server 10) ≡ 5
first_consumed read is = first_at read read.id is

pub second_consumed : (read : ReadCall) → read.id ≡ 0 → consumed_on 4 (took (limited_run read) Server 10) (until (limited_run read) Server 10) ≡ 0
second_consumed read is = second_at read read.id is

pub five_consumed : (read : ReadCall) → read.id ≡ 0 → all_consumed (took (limited_run read) Server 10) (until (limited_run read) Server 10) ≡ 5
five_consumed read is = five_at read read.id is

window_is : (read : ReadCall) → receive_window (limited_run read) limited_started Server ≡ 8
unfolding limited_started
window_is read = refl

stream_is : (read : ReadCall) → stream_window (limited_run read) limited_started Server ≡ 5
unfolding limited_started
stream_is read = refl

pub both_windows : (read : ReadCall) → (s : AreStarted limited_start) × (receive_window (limited_run read) s Server ≡ 8) × (stream_window (limited_run read) s Server ≡ 5)
both_windows read = (limited_started, window_is read, stream_is read)

-- ---- what was said

-- the first frames of each datagram
abbrev firsts : ℕ → List Sent → List (List FrameValue)
firsts n ss = map (λ s. take n s.frames) ss

-- one of them is one of its frames
among_first : (n : ℕ) (fs : List FrameValue) (f : FrameValue) → In f (take n fs) → In f fs
among_first zero fs f i = absurd i
among_first (suc n) [] f i = absurd i
among_first (suc n) (a ∷ fs) f (inl is) = inl is
among_first (suc n) (a ∷ fs) f (inr i) = inr (among_first n fs f i)

-- where one datagram went, that begins with these
one_gave : (n : ℕ) (ss : List Sent) (f : FrameValue) (fs : List FrameValue) → firsts n ss ≡ fs ∷ [] → In f fs → WasGiven ss f
one_gave n [] f fs e i = cc
one_gave n (s ∷ ss) f fs e i = (let same : take n s.frames ≡ fs = cc in record { sent = s; among = inl refl; carried = among_first n s.frames f (subst (In f) (sym same) i) })

abbrev two_limits : ℕ → ℕ → List FrameValue
two_limits all of_one = max_data all ∷ max_stream_data (record { id = 0; limit = of_one }) ∷ []

said_two : (read : ReadCall) → firsts 2 (sents_until (limited_run read) Server 10) ≡ two_limits 13 10 ∷ []
unfolding limited_heard
said_two read = refl

pub data_said : (read : ReadCall) → WasGiven (sents_until (limited_run read) Server 10) (max_data 13)
data_said read = one_gave 2 (sents_until (limited_run read) Server 10) (max_data 13) (two_limits 13 10) (said_two read) (inl refl)

pub own_said : (read : ReadCall) → WasGiven (sents_until (limited_run read) Server 10) (max_stream_data (record { id = 0; limit = 10 }))
own_said read = one_gave 2 (sents_until (limited_run read) Server 10) (max_stream_data (record { id = 0; limit = 10 })) (two_limits 13 10) (said_two read) (inr (inl refl))

-- ---- machines that let more come

uses_own : (all of_one : ℕ) (read : ReadCall) → read.id ≡ 0 → (side : Side) → AreOwn side [] (letting all of_one read).events (letting all of_one read).answers (letting all of_one read).views
uses_own all of_one read is Client = (tt, (tt, (inl refl, (inr (inl refl), (inr (inl refl), (tt, (tt, (tt, (tt, (tt, tt))))))))))
uses_own all of_one read is Server = (tt, (tt, (tt, (tt, (tt, (tt, (tt, (tt, (inl is, (tt, tt))))))))))

letting_is_honest : (all of_one : ℕ) (read : ReadCall) → read.id ≡ 0 → IsHonest (letting all of_one read)
letting_is_honest all of_one read is = record { start = limited_started; keys = are_keys; ids = own_ids (letting all of_one read) (uses_own all of_one read is) }

pub all_is_honest : (read : ReadCall) → read.id ≡ 0 → IsHonest (twice_for_all read)
all_is_honest read is = letting_is_honest 18 10 read is

pub one_is_honest : (read : ReadCall) → read.id ≡ 0 → IsHonest (twice_on_one read)
one_is_honest read is = letting_is_honest 13 15 read is

-- as much was consumed there
all_five_at : (read : ReadCall) (id : ℕ) → id ≡ 0 → all_consumed (took (twice_for_all (record read { id = id })) Server 10) (until (twice_for_all (record read { id = id })) Server 10) ≡ 5
unfolding limited_heard
all_five_at read zero is = refl
all_five_at read (suc n) is = cc

all_five : (read : ReadCall) → read.id ≡ 0 → all_consumed (took (twice_for_all read) Server 10) (until (twice_for_all read) Server 10) ≡ 5
all_five read is = all_five_at read read.id is

one_five_at : (read : ReadCall) (id : ℕ) → id ≡ 0 → length (bytes_of (reads_of 0 (until (twice_on_one (record read { id = id })) Server 10))) ≡ 5
one_five_at read zero is = refl
one_five_at read (suc n) is = cc

one_five : (read : ReadCall) → read.id ≡ 0 → length (bytes_of (reads_of 0 (until (twice_on_one read) Server 10))) ≡ 5
one_five read is = one_five_at read read.id is

all_window : (read : ReadCall) → receive_window (twice_for_all read) limited_started Server ≡ 8
unfolding limited_started
all_window read = refl

one_window : (read : ReadCall) → stream_window (twice_on_one read) limited_started Server ≡ 5
unfolding limited_started
one_window read = refl

all_said : (read : ReadCall) → firsts 2 (sents_until (twice_for_all read) Server 10) ≡ two_limits 18 10 ∷ []
unfolding limited_heard
all_said read = refl

one_said : (read : ReadCall) → firsts 2 (sents_until (twice_on_one read) Server 10) ≡ two_limits 13 15 ∷ []
unfolding limited_heard
one_said read = refl

pub all_shows : (read : ReadCall) → read.id ≡ 0 → CreditIsBounded (twice_for_all read) → ⊥
all_shows read is h =
    let given : WasGiven (sents_until (twice_for_all read) Server 10) (max_data 18) = one_gave 2 (sents_until (twice_for_all read) Server 10) (max_data 18) (two_limits 18 10) (all_said read) (inl refl) in
    let most : 18 ≤ receive_window (twice_for_all read) limited_started Server + all_consumed (took (twice_for_all read) Server 10) (until (twice_for_all read) Server 10) = h limited_started Server 10 given.sent (max_data 18) refl given.among given.carried in
    let window = all_window read in
    let used = all_five read is in
    omega (arith, most, window, used)

pub one_shows : (read : ReadCall) → read.id ≡ 0 → CreditIsBounded (twice_on_one read) → ⊥
one_shows read is h =
    let given : WasGiven (sents_until (twice_on_one read) Server 10) (max_stream_data (record { id = 0; limit = 15 })) = one_gave 2 (sents_until (twice_on_one read) Server 10) (max_stream_data (record { id = 0; limit = 15 })) (two_limits 13 15) (one_said read) (inr (inl refl)) in
    let most : 15 ≤ stream_window (twice_on_one read) limited_started Server + length (bytes_of (reads_of 0 (until (twice_on_one read) Server 10))) = h limited_started Server 10 given.sent (max_stream_data (record { id = 0; limit = 15 })) refl given.among given.carried in
    let window = one_window read in
    let used = one_five read is in
    omega (arith, most, window, used)

-- ---- and none is the machine

right_limit : byte_of limited_given.from_server ≡ 13
unfolding limited_given
right_limit = refl

-- the limit on the stream stands in the fifteenth byte
abbrev later_byte : List (List ℕ) → ℕ
later_byte [] = 0
later_byte (d ∷ ds) = slice_index d 14

right_own : later_byte limited_given.from_server ≡ 10
unfolding limited_given
right_own = refl

all_other : (from_server 0 (lets_come 18 10) ∷ []) ≡ limited_given.from_server → ⊥
all_other e = let clash : ◌≡◌ {A = ℕ} 18 13 = ap byte_of e ∙ right_limit in omega (arith, clash)

one_other : (from_server 0 (lets_come 13 15) ∷ []) ≡ limited_given.from_server → ⊥
one_other e = let clash : ◌≡◌ {A = ℕ} 15 10 = ap later_byte e ∙ right_own in omega (arith, clash)

not_given : (payload : List ℕ) → ((from_server 0 payload ∷ []) ≡ limited_given.from_server → ⊥) → (read : ReadCall) → ReadsEight read → NeverEnds (λ w. (from_server 0 payload ∷ []) ≡ w.from_server) limited_start (take 10 (limited_events read)) (take 10 limited_answers)
not_given payload other read by =
    step_on refl opens (step_on refl opens_both (step_on refl writes_first (step_on refl writes_second (step_on refl blocks (step_on refl gives (step_on refl takes (step_on refl accepts (step_on refl (reads read by) (step_on refl raises (ends_here other))))))))))

pub no_all : (read : ReadCall) → ReadsEight read → NeverGives (twice_for_all read)
no_all read by views end is = (not_given (lets_come 18 10) all_other read by).never views end is.follows is.from_server

pub no_one : (read : ReadCall) → ReadsEight read → NeverGives (twice_on_one read)
no_one read by views end is = (not_given (lets_come 13 15) one_other read by).never views end is.follows is.from_server

-- ---- counts

one_way_say : parameters_at one_way_parameters ≡ Ok (parameters_of (with_uni 1))
unfolding parameters_at judged values_met met_in met_within met_after whole_at entry_at
one_way_say = refl

unfoldable count_started : AreStarted narrow_count
count_started = record {
  client_making = record { settings = plain_settings; windows = steady; parameters = worked_parameters; id = client_id; remote = 0; moment = 0; validated = true; words = λ n. 63 };
  server_making = record { settings = with_uni 1; windows = steady; parameters = one_way_parameters; id = server_id; remote = 0; moment = 0; validated = true; words = λ n. 63 };
  client_is = record { range = record { receive_window = lit< tt; stream_receive_window = lit< tt; bounds = record { bidi = lit≤ tt; uni = lit≤ tt; divides = lit< tt; initial = lit≤ tt; least = lit≤ tt }; search = tt }; sizes = lit≤ tt; says = parameters_say; id = refl };
  server_is = record { range = record { receive_window = lit< tt; stream_receive_window = lit< tt; bounds = record { bidi = lit≤ tt; uni = lit≤ tt; divides = lit< tt; initial = lit≤ tt; least = lit≤ tt }; search = tt }; sizes = lit≤ tt; says = one_way_say; id = refl };
  client = subst (λ read. IsMade Client plain_settings steady read client_id server_id 0 0 true (λ n. 63) narrow_count.client) (sym one_way_say) refl;
  server = subst (λ read. IsMade Server (with_uni 1) steady read server_id client_id 0 0 true (λ n. 63) narrow_count.server) (sym parameters_say) refl;
  client_gave = refl;
  server_gave = refl;
  client_heard = refl;
  server_heard = refl;
}

-- both ends were made so
pub counts_started : AreStarted narrow_count
counts_started = count_started

one_at_once : most_at_once Uni (making_at Server narrow_count count_started).settings ≡ 1
unfolding count_started
one_at_once = refl

pub at_once : (s : AreStarted narrow_count) × (most_at_once Uni (making_at Server narrow_count s).settings ≡ 1)
at_once = (count_started, one_at_once)

over_at : (read : ReadCall) (id : ℕ) → 2 ≡ id → all_over Server Uni (took (count_run (record read { id = id })) Server 9) (until (count_run (record read { id = id })) Server 9) ≡ 1
unfolding count_heard
over_at read id is = subst (λ (q : ℕ). all_over Server Uni (took (count_run (record read { id = q })) Server 9) (until (count_run (record read { id = q })) Server 9) ≡ 1) is refl

pub one_over : (read : ReadCall) → read.id ≡ 2 → all_over Server Uni (took (count_run read) Server 9) (until (count_run read) Server 9) ≡ 1
one_over read is = over_at read read.id (sym is)

abbrev says_count : ℕ → List FrameValue
says_count n = max_streams (record { one_way = true; count = n }) ∷ []

two_said : (read : ReadCall) → firsts 1 (sents_until (count_run read) Server 9) ≡ says_count 2 ∷ []
unfolding count_heard
two_said read = refl

pub count_said : (read : ReadCall) → WasGiven (sents_until (count_run read) Server 9) (max_streams (record { one_way = true; count = 2 }))
count_said read = one_gave 1 (sents_until (count_run read) Server 9) (max_streams (record { one_way = true; count = 2 })) (says_count 2) (two_said read) (inl refl)

-- ---- a stream that counts twice

counts_own : (read : ReadCall) → read.id ≡ 2 → (side : Side) → AreOwn side [] (twice_done read).events (twice_done read).answers (twice_done read).views
counts_own read is Client = (tt, (tt, (inl refl, (inl refl, (tt, (tt, (tt, (tt, (tt, tt)))))))))
counts_own read is Server = (tt, (tt, (tt, (tt, (tt, (tt, (tt, (inl is, (tt, tt)))))))))

pub twice_is_honest : (read : ReadCall) → read.id ≡ 2 → IsHonest (twice_done read)
twice_is_honest read is = record { start = count_started; keys = are_keys; ids = own_ids (twice_done read) (counts_own read is) }

three_said : (read : ReadCall) → firsts 1 (sents_until (twice_done read) Server 9) ≡ says_count 3 ∷ []
unfolding count_heard
three_said read = refl

still_one_at : (read : ReadCall) (id : ℕ) → 2 ≡ id → all_over Server Uni (took (twice_done (record read { id = id })) Server 9) (until (twice_done (record read { id = id })) Server 9) ≡ 1
unfolding count_heard
still_one_at read id is = subst (λ (q : ℕ). all_over Server Uni (took (twice_done (record read { id = q })) Server 9) (until (twice_done (record read { id = q })) Server 9) ≡ 1) is refl

pub twice_shows : (read : ReadCall) → read.id ≡ 2 → CountsAreBounded (twice_done read) → ⊥
twice_shows read is h =
    let given : WasGiven (sents_until (twice_done read) Server 9) (max_streams (record { one_way = true; count = 3 })) = one_gave 1 (sents_until (twice_done read) Server 9) (max_streams (record { one_way = true; count = 3 })) (says_count 3) (three_said read) (inl refl) in
    let most : 3 ≤ most_at_once Uni (making_at Server narrow_count count_started).settings + all_over Server Uni (took (twice_done read) Server 9) (until (twice_done read) Server 9) = h count_started Server 9 given.sent (record { one_way = true; count = 3 }) refl given.among given.carried in
    let once = one_at_once in
    let over = still_one_at read read.id (sym is) in
    omega (arith, most, once, over)

right_count : byte_of count_given.from_server ≡ 2
unfolding count_given
right_count = refl

three_other : (from_server 0 (count_payload 3) ∷ []) ≡ count_given.from_server → ⊥
three_other e = let clash : ◌≡◌ {A = ℕ} 3 2 = ap byte_of e ∙ right_count in omega (arith, clash)

not_three : (read : ReadCall) → ReadsOneWay read → NeverEnds (λ w. (from_server 0 (count_payload 3) ∷ []) ≡ w.from_server) narrow_count (take 9 (count_events read)) (take 9 count_answers)
not_three read by =
    step_on refl credit.counts_open (step_on refl credit.refuses_second (step_on refl credit.counts_write (step_on refl credit.counts_end (step_on refl credit.counts_give (step_on refl credit.counts_take (step_on refl credit.counts_accept (step_on refl (credit.counts_read read by) (step_on refl credit.gives_back (ends_here three_other)))))))))

pub no_twice : (read : ReadCall) → ReadsOneWay read → NeverGives (twice_done read)
no_twice read by views end is = (not_three read by).never views end is.follows is.from_server
