-- The run in which a limit is lost and goes again, event by event; where the limit is at each
-- place; and what machines leave that forget it.
use Rattle.std.proofs.Common.{◌≡◌, Bool, ℕ, map, List, [], ◌∷◌, ◌++◌, take, Ok, true, false, refl, inl, inr, sym, ap, ◌∙◌, subst, arith, ◌⊎◌}
use Rattle.quic_wire_core.specs.declared.stream_id.Side.TheVariants.{Client, Server}
use Rattle.quic_wire_core.specs.declared.stream_id.Dir.TheVariants.{Uni}
use Rattle.quic_wire.specs.Value.{FrameValue, max_data}
use Rattle.quic_streams_parts.specs.RecvHalf.{greatest_offset}
use Rattle.quic_streams_parts.specs.Table.{Table}
use Rattle.quic_machine.specs.declared.answers.Received.TheVariants as receives
use Rattle.quic_machine.specs.declared.run.ReadCall.{ReadCall}
use Rattle.quic_machine.specs.declared.run.Answer.TheVariants as answers
use Rattle.quic_machine.specs.Tracking.{TrackedPacket}
use Rattle.quic_machine.specs.Machine.{World, IsStep, Follows}
use Rattle.quic_streams_state.specs.State.{consumed}
use Rattle.quic_headline.specs.Runs.{Packet, In, until}
use Rattle.quic_headline.specs.Observer.{Sent, took, sents_until}
use Rattle.quic_headline.specs.Headline.{IsRun}
use Rattle.quic_headline.proofs.Places.Told.{in_left, in_right, in_append}
use Rattle.quic_headline.specs.Grown.{HasGrown, DataHasGrown, CountHasGrown, GrownLimitsWaitAt}
use Rattle.quic_headline.specs.InUse.{in_use}
use Rattle.quic_headline.specs.Duties.{AllData, Limit, WasGiven, IsOwed, Waits, IsInFlight, IsUnderWay, LimitHasArrived, HasCome, DutiesAt}
use Rattle.quic_worked.specs.Worked.{worked_policies, gives_bytes, gives_unmarked}
use Rattle.quic_worked.specs.Paired.{writes_on, asks_server}
use Rattle.quic_worked.specs.Losses.{client_polled, server_polled}
use Rattle.quic_worked.specs.Credit.{narrow_bytes, eight, credit_opened, credit_written, credit_sent, credit_taken, credit_accepted, credit_read, credit_given, credit_events, credit_until, count_taken, count_read, ReadsEight}
use Rattle.quic_worked.specs.Raised.{server_pings, comes_to_client, client_waits, ack_comes, losing_limit, raised_events, losing_told, raised_told, after_server_ping, first_ping, second_ping, third_ping, third_came, third_due, third_named, limit_lost, limit_again, limit_came, limit_used, raised_views, raised_run, NeverComes, never_noted, limit_forgotten, limit_low}
use Rattle.quic_worked.proofs.Codes.{no_codes}
use Rattle.quic_worked.proofs.CreditRuns as credit
use Rattle.quic_worked.proofs.WrongRuns.{NeverEnds, ends_here, step_on}
use Rattle.quic_worked.proofs.Steps.{counts_so}
use Rattle.quic_worked.proofs.Unmoved.{none_to_tell}

-- ---- the events

pub pings : (w : World) → IsStep worked_policies w server_pings answers.Ping (after_server_ping w)
pings w = record { answer = refl; end = refl; control = refl; heard = counts_so worked_policies w server_pings answers.Ping; openings = tt; others = refl; lacking = tt }

pub gives_first : IsStep worked_policies (after_server_ping credit_given) asks_server (gives_bytes 32) first_ping
unfolding first_ping
gives_first = record { answer = inl refl; end = refl; control = refl; heard = counts_so worked_policies (after_server_ping credit_given) asks_server (gives_bytes 32); openings = tt; others = refl; lacking = tt }

pub gives_second : IsStep worked_policies (after_server_ping first_ping) asks_server (gives_bytes 32) second_ping
unfolding second_ping
gives_second = record { answer = inl refl; end = refl; control = refl; heard = counts_so worked_policies (after_server_ping first_ping) asks_server (gives_bytes 32); openings = tt; others = refl; lacking = tt }

pub gives_third : IsStep worked_policies (after_server_ping second_ping) asks_server (gives_bytes 32) third_ping
unfolding third_ping
gives_third = record { answer = inl refl; end = refl; control = refl; heard = counts_so worked_policies (after_server_ping second_ping) asks_server (gives_bytes 32); openings = tt; others = refl; lacking = tt }

pub comes_third : IsStep worked_policies third_ping (comes_to_client 3) (answers.Deliver receives.Taken) third_came
unfolding third_came
comes_third = record { answer = inl refl; end = refl; control = refl; heard = counts_so worked_policies third_ping (comes_to_client 3) (answers.Deliver receives.Taken); openings = tt; others = refl; lacking = tt }

pub waits_third : IsStep worked_policies third_came client_waits (answers.Timeout (Ok tt)) third_due
unfolding third_came
waits_third = record { answer = inl refl; end = refl; control = refl; heard = counts_so worked_policies third_came client_waits (answers.Timeout (Ok tt)); openings = tt; others = refl; lacking = tt }

names_third : IsStep worked_policies third_due client_polled (gives_unmarked 32) third_named
unfolding third_named
names_third = record { answer = inl refl; end = refl; control = refl; heard = counts_so worked_policies third_due client_polled (gives_unmarked 32); openings = tt; others = refl; lacking = tt }

loses : IsStep worked_policies third_named ack_comes (answers.Deliver receives.Taken) limit_lost
unfolding limit_lost
loses = record { answer = inl refl; end = refl; control = refl; heard = counts_so worked_policies third_named ack_comes (answers.Deliver receives.Taken); openings = tt; others = refl; lacking = tt }

gives_again : IsStep worked_policies limit_lost server_polled (gives_unmarked 229) limit_again
unfolding limit_again
gives_again = record { answer = inl refl; end = refl; control = refl; heard = counts_so worked_policies limit_lost server_polled (gives_unmarked 229); openings = tt; others = refl; lacking = tt }

comes_again : IsStep worked_policies limit_again (comes_to_client 4) (answers.Deliver receives.Taken) limit_came
unfolding limit_came
comes_again = record { answer = inl refl; end = refl; control = refl; heard = counts_so worked_policies limit_again (comes_to_client 4) (answers.Deliver receives.Taken); openings = tt; others = refl; lacking = tt }

writes_on_more : IsStep worked_policies limit_came (writes_on 0 eight) (answers.Write (Ok 8)) limit_used
unfolding limit_came
writes_on_more = record { answer = inl refl; end = refl; control = refl; heard = counts_so worked_policies limit_came (writes_on 0 eight) (answers.Write (Ok 8)); openings = tt; others = refl; lacking = λ lacks. cc }

follows : (read : ReadCall) → ReadsEight read → Follows worked_policies narrow_bytes (raised_events read) raised_told raised_views limit_used
follows read by = (
  credit_opened,
  credit.opens,
  refl,
  (
    credit_written,
    credit.writes,
    refl,
    (
      credit_sent,
      credit.gives,
      refl,
      (
        credit_taken,
        credit.takes,
        refl,
        (
          credit_accepted,
          credit.accepts,
          refl,
          (
            credit_read,
            credit.reads read by,
            refl,
            (
              credit_given,
              credit.raises,
              refl,
              (
                after_server_ping credit_given,
                pings credit_given,
                refl,
                (
                  first_ping,
                  gives_first,
                  refl,
                  (
                    after_server_ping first_ping,
                    pings first_ping,
                    refl,
                    (
                      second_ping,
                      gives_second,
                      refl,
                      (
                        after_server_ping second_ping,
                        pings second_ping,
                        refl,
                        (
                          third_ping,
                          gives_third,
                          refl,
                          (
                            third_came,
                            comes_third,
                            refl,
                            (
                              third_due,
                              waits_third,
                              refl,
                              (third_named, names_third, refl, (limit_lost, loses, refl, (limit_again, gives_again, refl, (limit_came, comes_again, refl, (limit_used, writes_on_more, refl, refl))))),
                            ),
                          ),
                        ),
                      ),
                    ),
                  ),
                ),
              ),
            ),
          ),
        ),
      ),
    ),
  ),
)

gave_client : (read : ReadCall) → (raised_run read).from_client ≡ limit_used.from_client
unfolding limit_came
gave_client read = refl

gave_server : (read : ReadCall) → (raised_run read).from_server ≡ limit_used.from_server
unfolding limit_came
gave_server read = refl

pub raised_is_run : (read : ReadCall) → ReadsEight read → IsRun (raised_run read) limit_used
raised_is_run read by = record { codes = no_codes (raised_run read).events refl; follows = follows read by; from_client = gave_client read; from_server = gave_server read }

-- ---- a limit that grew waits

-- the client was told of 8 bytes, all of which were read
told_eight : credit_read.server.streams.receiving.announced ≡ 8
unfolding credit_taken
told_eight = refl

window_eight : credit_read.server.streams.receiving.window ≡ 8
unfolding credit_taken
window_eight = refl

read_eight : consumed credit_read.server.streams.receiving ≡ 8
unfolding credit_taken
read_eight = refl

pub data_has_grown : DataHasGrown credit_read.server.streams.receiving
data_has_grown = rw (told_eight, window_eight, read_eight) (omega arith)

pub data_waits : credit_read.server.waiting.frames.max_data ≡ true
unfolding credit_taken
data_waits = refl

-- the client may open one one-way stream, which is done
told_one : count_read.server.streams.opening.announced.uni ≡ 1
unfolding count_taken
told_one = refl

one_at_once : count_read.server.streams.opening.configured.uni ≡ 1
unfolding count_taken
one_at_once = refl

one_done : count_read.server.streams.opening.done.uni ≡ 1
unfolding count_taken
one_done = refl

pub count_has_grown : CountHasGrown count_read.server.streams.opening Uni
count_has_grown = rw (told_one, one_at_once, one_done) (omega arith)

pub count_waits : count_read.server.waiting.frames.max_stream_id.uni ≡ true
unfolding count_taken
count_waits = refl

pub not_noted : (read : ReadCall) → GrownLimitsWaitAt (until (raised_run read) Server 6) never_noted.server → ⊥
not_noted read h = let clash : false ≡ true = h.bytes data_has_grown in cc

other_noted : never_noted ≡ credit_read → ⊥
other_noted e = let clash : false ≡ true = ap (λ (w : World). w.server.waiting.frames.max_data) e ∙ data_waits in cc

never_to : (read : ReadCall) → ReadsEight read → NeverEnds (λ w. never_noted ≡ w) narrow_bytes (take 6 (credit_events read)) credit_until
never_to read by = step_on refl credit.opens (step_on refl credit.writes (step_on refl credit.gives (step_on refl credit.takes (step_on refl credit.accepts (step_on refl (credit.reads read by) (ends_here other_noted))))))

pub never_not_noted : (read : ReadCall) → ReadsEight read → NeverComes (take 6 (credit_events read)) credit_until never_noted
never_not_noted read by views f = (never_to read by).never views never_noted f refl

-- ---- a limit that was told one byte low

window_still : credit_given.server.streams.receiving.window ≡ 8
unfolding credit_given
window_still = refl

all_read : consumed limit_low.server.streams.receiving ≡ 8
unfolding credit_given
all_read = refl

told_sixteen : credit_given.server.streams.receiving.announced ≡ 16
unfolding credit_given
told_sixteen = refl

nothing_noted : limit_low.server.waiting.frames.max_data ≡ false
unfolding credit_given
nothing_noted = refl

-- by windows of eight the limit grew by one behind 15
low_grew : (window used : ℕ) → window ≡ 8 → used ≡ 8 → HasGrown window used greatest_offset 15
low_grew window used eight_wide eight_used = rw (eight_wide, eight_used) (omega arith)

pub low_shows : (read : ReadCall) → GrownLimitsWaitAt (until (raised_run read) Server 7) limit_low.server → ⊥
low_shows read h = let clash : false ≡ true = sym nothing_noted ∙ h.bytes (low_grew _ _ window_still all_read) in cc

other_low : limit_low ≡ credit_given → ⊥
other_low e = let clash : ◌≡◌ {A = ℕ} 15 16 = ap (λ (w : World). w.server.streams.receiving.announced) e ∙ told_sixteen in omega (arith, clash)

low_to : (read : ReadCall) → ReadsEight read → NeverEnds (λ w. limit_low ≡ w) narrow_bytes (take 7 (raised_events read)) (take 7 raised_told)
low_to read by = step_on refl credit.opens (step_on refl credit.writes (step_on refl credit.gives (step_on refl credit.takes (step_on refl credit.accepts (step_on refl (credit.reads read by) (step_on refl credit.raises (ends_here other_low)))))))

pub never_low : (read : ReadCall) → ReadsEight read → NeverComes (take 7 (raised_events read)) (take 7 raised_told) limit_low
never_low read by views f = (low_to read by).never views limit_low f refl

-- ---- where the limit is

-- once it is lost, it waits
pub lost_waits : Waits limit_lost.server (Limit AllData 16)
unfolding limit_lost
lost_waits = record { due = refl; queued = refl }

-- ---- the limits that were said

-- the limits on all data among frames
abbrev said_in : List FrameValue → List ℕ
said_in [] = []
said_in (max_data limit ∷ fs) = limit ∷ said_in fs
said_in (f ∷ fs) = said_in fs

in_said : (limit : ℕ) (fs : List FrameValue) → In (max_data limit) fs → In limit (said_in fs)
in_said limit [] i = absurd i
in_said limit (f ∷ fs) (inl is) = subst (λ (g : FrameValue). In limit (said_in (g ∷ fs))) is (inl refl)
in_said limit (f ∷ fs) (inr i) = later f (in_said limit fs i)
  where
    later : (g : FrameValue) → In limit (said_in fs) → In limit (said_in (g ∷ fs))
    later (max_data other) j = inr j
    later g j = j

-- each of some limits, of the datagram of a number
abbrev under : ℕ → List ℕ → List (ℕ × ℕ)
under number [] = []
under number (limit ∷ limits) = (number, limit) ∷ under number limits

in_under : (number limit : ℕ) (limits : List ℕ) → In limit limits → In (number, limit) (under number limits)
in_under number limit [] i = absurd i
in_under number limit (l ∷ ls) (inl is) = inl (ap (λ (n : ℕ). (number, n)) is)
in_under number limit (l ∷ ls) (inr i) = inr (in_under number limit ls i)

abbrev said_by : List Sent → List (ℕ × ℕ)
said_by [] = []
said_by (s ∷ ss) = under s.number (said_in s.frames) ++ said_by ss

said_of : (limit : ℕ) (s : Sent) (ss : List Sent) → In s ss → In (max_data limit) s.frames → In (s.number, limit) (said_by ss)
said_of limit s [] i j = absurd i
said_of limit s (t ∷ ss) (inl is) j = subst (λ (u : Sent). In (s.number, limit) (under u.number (said_in u.frames) ++ said_by ss)) is (in_left (s.number, limit) (under s.number (said_in s.frames)) (said_by ss) (in_under s.number limit (said_in s.frames) (in_said limit s.frames j)))
said_of limit s (t ∷ ss) (inr i) j = in_right (s.number, limit) (under t.number (said_in t.frames)) (said_by ss) (said_of limit s ss i j)

-- those of packets that were taken
abbrev taken_by : List Packet → List ℕ
taken_by [] = []
taken_by (p ∷ ps) = said_in p.frames ++ taken_by ps

taken_of : (limit : ℕ) (p : Packet) (ps : List Packet) → In p ps → In (max_data limit) p.frames → In limit (taken_by ps)
taken_of limit p [] i j = absurd i
taken_of limit p (q ∷ ps) (inl is) j = subst (λ (r : Packet). In limit (said_in r.frames ++ taken_by ps)) is (in_left limit (said_in p.frames) (taken_by ps) (in_said limit p.frames j))
taken_of limit p (q ∷ ps) (inr i) j = in_right limit (said_in q.frames) (taken_by ps) (taken_of limit p ps i j)

-- the numbers of packets
in_numbers : (n : ℕ) (t : TrackedPacket) (ps : Table TrackedPacket) → In (n, t) ps → In n (map (λ p. p.0) ps)
in_numbers n t [] i = absurd i
in_numbers n t (p ∷ ps) (inl is) = inl (ap (λ (q : ℕ × TrackedPacket). q.0) is)
in_numbers n t (p ∷ ps) (inr i) = inr (in_numbers n t ps i)

-- and which they are
from_said : (limit : ℕ) (fs : List FrameValue) → In limit (said_in fs) → In (max_data limit) fs
from_said limit [] i = absurd i
from_said limit (max_data other ∷ fs) (inl is) = inl (ap (λ (n : ℕ). max_data n) is)
from_said limit (max_data other ∷ fs) (inr i) = inr (from_said limit fs i)
from_said limit (f ∷ fs) i = inr (from_said limit fs i)

from_under : (number limit of_it : ℕ) (limits : List ℕ) → In {X = ℕ × ℕ} (number, limit) (under of_it limits) → (number ≡ of_it) × In limit limits
from_under number limit of_it [] i = absurd i
from_under number limit of_it (l ∷ ls) (inl is) = (ap (λ (q : ℕ × ℕ). q.0) is, inl (ap (λ (q : ℕ × ℕ). q.1) is))
from_under number limit of_it (l ∷ ls) (inr i) = let rest = from_under number limit of_it ls i in (rest.0, inr rest.1)

abbrev Sender : ℕ → ℕ → List Sent → Type 0
Sender number limit ss = (s : Sent) × In s ss × (number ≡ s.number) × In (max_data limit) s.frames

from_by : (number limit : ℕ) (ss : List Sent) → In {X = ℕ × ℕ} (number, limit) (said_by ss) → Sender number limit ss
from_by number limit [] i = absurd i
from_by number limit (s ∷ ss) i = go (in_append {X = ℕ × ℕ} (number, limit) (under s.number (said_in s.frames)) (said_by ss) i) (from_by number limit ss)
  where
    go : In {X = ℕ × ℕ} (number, limit) (under s.number (said_in s.frames)) ⊎ In {X = ℕ × ℕ} (number, limit) (said_by ss) → (In {X = ℕ × ℕ} (number, limit) (said_by ss) → Sender number limit ss) → Sender number limit (s ∷ ss)
    go (inl here) later = let both = from_under number limit s.number (said_in s.frames) here in (s, inl refl, both.0, from_said limit s.frames both.1)
    go (inr more) later = let rest = later more in (rest.0, inr rest.1, rest.2, rest.3)

abbrev Taker : ℕ → List Packet → Type 0
Taker limit ps = (p : Packet) × In p ps × In (max_data limit) p.frames

from_taken : (limit : ℕ) (ps : List Packet) → In limit (taken_by ps) → Taker limit ps
from_taken limit [] i = absurd i
from_taken limit (p ∷ ps) i = go (in_append limit (said_in p.frames) (taken_by ps) i) (from_taken limit ps)
  where
    go : In limit (said_in p.frames) ⊎ In limit (taken_by ps) → (In limit (taken_by ps) → Taker limit ps) → Taker limit (p ∷ ps)
    go (inl here) later = (p, inl refl, from_said limit p.frames here)
    go (inr more) later = let rest = later more in (rest.0, inr rest.1, rest.2)

from_numbers : (n : ℕ) (ps : Table TrackedPacket) → In n (map (λ p. p.0) ps) → (t : TrackedPacket) × In (n, t) ps
from_numbers n [] i = absurd i
from_numbers n (p ∷ ps) (inl is) = (p.1, inl (ap (λ (m : ℕ). (m, p.1)) is))
from_numbers n (p ∷ ps) (inr i) = let rest = from_numbers n ps i in (rest.0, inr rest.1)

-- ---- where the limit is once it went again

twice_said : (read : ReadCall) → said_by (sents_until (raised_run read) Server 18) ≡ (0, 16) ∷ (4, 16) ∷ []
unfolding limit_came
twice_said read = refl

three_tracked : map (λ p. p.0) limit_again.server.tracking.packets ≡ 1 ∷ 2 ∷ 4 ∷ []
unfolding limit_again
three_tracked = refl

one_taken : (read : ReadCall) → taken_by (took (raised_run read) Client 19) ≡ 16 ∷ []
unfolding limit_came
one_taken read = refl

-- it is under way
pub again_flies : (read : ReadCall) → IsUnderWay (sents_until (raised_run read) Server 18) limit_again.server.tracking.packets (Limit AllData 16)
again_flies read =
    let own : List Sent = sents_until (raised_run read) Server 18 in
    let said = from_by 4 16 own (subst (λ (xs : List (ℕ × ℕ)). In {X = ℕ × ℕ} (4, 16) xs) (sym (twice_said read)) (inr (inl refl))) in
    let tracked = from_numbers 4 limit_again.server.tracking.packets (subst (λ (xs : List ℕ). In 4 xs) (sym three_tracked) (inr (inr (inl refl)))) in
    record { sent = said.0; among = said.1; carried = said.3; packet = tracked.0; tracked = subst (λ (n : ℕ). In {X = ℕ × TrackedPacket} (n, tracked.0) limit_again.server.tracking.packets) said.2 tracked.1 }

-- and then it came
pub again_came : (read : ReadCall) → HasCome (took (raised_run read) Client 19) (until (raised_run read) Server 19) (Limit AllData 16)
again_came read =
    let taken = from_taken 16 (took (raised_run read) Client 19) (subst (λ (xs : List ℕ). In 16 xs) (sym (one_taken read)) (inl refl)) in
    record { packet = taken.0; was_taken = taken.1; limit = 16; carried = taken.2; enough = omega arith }

-- ---- a limit that is forgotten

-- the server said one, in its first datagram
one_said : (read : ReadCall) → said_by (sents_until (raised_run read) Server 17) ≡ (0, 16) ∷ []
unfolding limit_came
one_said read = refl

none_taken : (read : ReadCall) → taken_by (took (raised_run read) Client 17) ≡ []
unfolding limit_came
none_taken read = refl

two_tracked : map (λ p. p.0) limit_lost.server.tracking.packets ≡ 1 ∷ 2 ∷ []
unfolding limit_lost
two_tracked = refl

-- what was said there
only_one : (read : ReadCall) (limit : ℕ) (s : Sent) → In s (sents_until (raised_run read) Server 17) → In (max_data limit) s.frames → (s.number ≡ 0) × (limit ≡ 16)
only_one read limit s among carried = go (subst (λ (xs : List (ℕ × ℕ)). In {X = ℕ × ℕ} (s.number, limit) xs) (one_said read) (said_of limit s (sents_until (raised_run read) Server 17) among carried))
  where
    go : In {X = ℕ × ℕ} (s.number, limit) ((0, 16) ∷ []) → (s.number ≡ 0) × (limit ≡ 16)
    go (inl is) = (ap (λ (q : ℕ × ℕ). q.0) is, ap (λ (q : ℕ × ℕ). q.1) is)
    go (inr none) = absurd none

first_said : (read : ReadCall) → WasGiven (sents_until (raised_run read) Server 17) (max_data 16)
first_said read =
    let said = from_by 0 16 (sents_until (raised_run read) Server 17) (subst (λ (xs : List (ℕ × ℕ)). In {X = ℕ × ℕ} (0, 16) xs) (sym (one_said read)) (inl refl)) in
    record { sent = said.0; among = said.1; carried = said.3 }

pub is_owed : (read : ReadCall) (stays : ℕ → Bool) → IsOwed (in_use (raised_run read) stays Server 17) limit_forgotten.server (sents_until (raised_run read) Server 17) (until (raised_run read) Server 17) (Limit AllData 16)
is_owed read stays = record {
  said = first_said read;
  greatest = λ other given. (let one = only_one read other given.sent given.among given.carried in let same = one.1 in omega arith);
  matters = tt;
}

nowhere : (read : ReadCall) → Waits limit_forgotten.server (Limit AllData 16) ⊎ IsInFlight (sents_until (raised_run read) Server 17) limit_lost.server.tracking.packets (max_data 16) ⊎ LimitHasArrived (took (raised_run read) Client 17) AllData 16 → ⊥
nowhere read (inl w) = let due : false ≡ true = w.due in cc
nowhere read (inr (inl f)) = go (subst (λ (xs : List ℕ). In f.sent.number xs) two_tracked (in_numbers f.sent.number f.packet limit_lost.server.tracking.packets f.tracked))
  where
    first : f.sent.number ≡ 0
    first = (only_one read 16 f.sent f.among f.carried).0

    go : In f.sent.number (1 ∷ 2 ∷ []) → ⊥
    go (inl is) = let a : f.sent.number ≡ 1 = is in let b = first in omega arith
    go (inr (inl is)) = let a : f.sent.number ≡ 2 = is in let b = first in omega arith
    go (inr (inr none)) = none
nowhere read (inr (inr c)) = subst (λ (xs : List ℕ). In c.limit xs) (none_taken read) (taken_of c.limit c.packet (took (raised_run read) Client 17) c.was_taken c.carried)

pub forgets : (read : ReadCall) → DutiesAt (raised_run read) 17 limit_forgotten → ⊥
forgets read stands = nowhere read (stands Server (λ n. false) (Limit AllData 16) (none_to_tell (raised_run read) Server (λ n. false) refl) (is_owed read (λ n. false)))

still_due : limit_lost.server.waiting.frames.max_data ≡ true
unfolding limit_lost
still_due = refl

other_lost : limit_forgotten ≡ limit_lost → ⊥
other_lost e = let clash : false ≡ true = ap (λ (w : World). w.server.waiting.frames.max_data) e ∙ still_due in cc

forgotten_to : (read : ReadCall) → ReadsEight read → NeverEnds (λ w. limit_forgotten ≡ w) narrow_bytes (losing_limit read) losing_told
forgotten_to read by =
    step_on refl credit.opens (step_on refl credit.writes (step_on refl credit.gives (step_on refl credit.takes (step_on refl credit.accepts (step_on refl (credit.reads read by) (step_on refl credit.raises
    (step_on refl (pings credit_given) (step_on refl gives_first (step_on refl (pings first_ping) (step_on refl gives_second (step_on refl (pings second_ping) (step_on refl gives_third (step_on refl comes_third (step_on refl waits_third (step_on refl names_third (step_on refl loses (ends_here other_lost)))))))))))))))))

pub never_forgotten : (read : ReadCall) → ReadsEight read → NeverComes (losing_limit read) losing_told limit_forgotten
never_forgotten read by views f = (forgotten_to read by).never views limit_forgotten f refl
