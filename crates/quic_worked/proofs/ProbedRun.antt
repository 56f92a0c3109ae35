-- The run in which a probe takes what has to be sent again of a datagram, event by event, and
-- machines that go wrong there.
use Rattle.std.proofs.Common.{◌≡◌, ◌⊎◌, ℕ, zero, suc, Bool, true, false, ◌++◌, Some, None, Ok, refl, inl, inr, sym, ap, ◌∙◌, subst, arith, length}
use Rattle.std.specs.List.{list_any}
use Rattle.quic_wire_core.specs.declared.stream_id.Side.TheVariants.{Client, Server}
use Rattle.quic_wire.specs.Reading.{reset_stream_at}
use Rattle.quic_retransmits.specs.Retransmits.{Retransmits, nothing_waits}
use Rattle.quic_streams_parts.specs.Table.{Table}
use Rattle.quic_machine.specs.declared.answers.State.TheVariants as states
use Rattle.quic_machine.specs.declared.run.Answer.TheVariants as answers
use Rattle.quic_machine.specs.Tracking.{TrackedPacket}
use Rattle.quic_machine.specs.Machine.{World, IsStep, Follows, view_of}
use Rattle.quic_headline.specs.Runs.{In, ResetHasArrived}
use Rattle.quic_headline.specs.Observer.{took}
use Rattle.quic_headline.specs.InFlight.{in_flight, WaitsFor, TracksAt}
use Rattle.quic_headline.specs.Duties.{Reset, Waits, IsCarried, DutiesAt, has_reset}
use Rattle.quic_headline.specs.Moments.{LossMoments}
use Rattle.quic_headline.specs.Headline.{IsHonest, IsRun}
use Rattle.quic_worked.specs.Worked.{worked_policies, gives_bytes, both_steady}
use Rattle.quic_worked.specs.Acknowledged.{client_acked}
use Rattle.quic_worked.specs.Broken.{NeverLeadsFrom}
use Rattle.quic_worked.specs.Paired.{giving_events, giving_answers, first_open, both_open, first_written, both_written, first_reset, pair_sent}
use Rattle.quic_worked.specs.Timed.{serves, asks_at, due_at}
use Rattle.quic_worked.specs.Probed.{shown_with, later_events, later_answers, once_probed, probed_run, the_reset, both_with, record_dropped, datagram_dropped}
use Rattle.quic_worked.proofs.Codes.{AllSmall, small_codes}
use Rattle.quic_worked.proofs.Waited.{as_many}
use Rattle.quic_worked.proofs.OwnIds.{honest_steady}
use Rattle.quic_worked.proofs.WrongRuns.{ends_here, step_on, NotToFrom}
use Rattle.quic_worked.proofs.PairedRun as paired
use Rattle.quic_worked.proofs.TimedRun.{shows}
use Rattle.quic_worked.proofs.Steps.{steps_at, StepsSo}
use Rattle.quic_worked.proofs.Unmoved.{client_tells_stays}

pub probed_is_honest : IsHonest probed_run
probed_is_honest = honest_steady probed_run (record { start = refl; keys = refl; client = (tt, (tt, (inl refl, (inr (inl refl), (inl refl, (tt, (tt, (tt, tt)))))))); server = (tt, (tt, (tt, (tt, (tt, (tt, (tt, (tt, tt)))))))) })

-- ---- the machine's run

expires : IsStep worked_policies pair_sent (serves Client 1024000000) (answers.Timeout (Ok tt)) (once_probed 1)
unfolding once_probed
expires =
    let s : StepsSo worked_policies pair_sent (serves Client 1024000000) (answers.Timeout (Ok tt)) (once_probed 1) = steps_at worked_policies pair_sent later_events later_answers 0 (serves Client 1024000000) (answers.Timeout (Ok tt)) _ _ refl refl refl in
    record { answer = inl refl; end = s.end; control = s.control; heard = s.heard; openings = tt; others = s.others; lacking = tt }

probes : IsStep worked_policies (once_probed 1) (asks_at Client 1024000000) (gives_bytes 226) (once_probed 2)
unfolding once_probed
probes =
    let s : StepsSo worked_policies (once_probed 1) (asks_at Client 1024000000) (gives_bytes 226) (once_probed 2) = steps_at worked_policies pair_sent later_events later_answers 1 (asks_at Client 1024000000) (gives_bytes 226) _ _ refl refl refl in
    record { answer = inl refl; end = s.end; control = s.control; heard = s.heard; openings = tt; others = s.others; lacking = tt }

expired_seen : shown_with (Some 2048000000) ≡ view_of (once_probed 1)
unfolding once_probed
expired_seen = refl

probed_seen : shown_with (Some 3072000000) ≡ view_of (once_probed 2)
unfolding once_probed
probed_seen = refl

follows : Follows probed_run.keys probed_run.start probed_run.events probed_run.answers probed_run.views (once_probed 2)
follows = (first_open, paired.opens_first, refl, (both_open, paired.opens_both, refl, (first_written, paired.writes_first, refl, (both_written, paired.writes_both, refl, (first_reset, paired.resets, paired.reset_seen, (pair_sent, paired.gives, paired.given_seen, (once_probed 1, expires, expired_seen, (once_probed 2, probes, probed_seen, refl))))))))

gave_both : probed_run.from_client ≡ (once_probed 2).from_client
unfolding once_probed
gave_both = refl

gave_none : probed_run.from_server ≡ (once_probed 2).from_server
unfolding once_probed
gave_none = refl

-- the one code is 7
codes_small : AllSmall probed_run.events
codes_small = (tt, (tt, (tt, (tt, (omega arith, (tt, (tt, (tt, tt))))))))

pub probed_is_run : IsRun probed_run (once_probed 2)
probed_is_run = record { codes = small_codes probed_run.events codes_small; follows = follows; from_client = gave_both; from_server = gave_none }

-- ---- what is waited for

pub two_probes : (once_probed 1).client.tracking.probes ≡ 2
unfolding once_probed
two_probes = refl

pub one_probe : (once_probed 2).client.tracking.probes ≡ 1
unfolding once_probed
one_probe = refl

pub both_wait : (once_probed 2).client.tracking.packets ≡ both_with nothing_waits
unfolding once_probed
both_wait = refl

pub both_fly : in_flight probed_run Client 8 ≡ both_with the_reset
unfolding client_acked reset_stream_at
both_fly = refl

-- what has to be sent again of an entry
abbrev again_of : ℕ × TrackedPacket → Retransmits
again_of p = p.1.carried.retransmits

taken_or_kept : (n : ℕ) (p q : TrackedPacket) → In (n, p) (both_with nothing_waits) → In (n, q) (both_with the_reset) → (p.carried.retransmits ≡ q.carried.retransmits) ⊎ (p.carried.retransmits ≡ nothing_waits)
taken_or_kept n p q (inl e) j = inr (ap again_of e)
taken_or_kept n p q (inr (inl e)) (inl f) = (let one : n ≡ 1 = ap (λ (x : ℕ × TrackedPacket). x.0) e in let none : n ≡ 0 = ap (λ (x : ℕ × TrackedPacket). x.0) f in absurd (omega (arith, one, none)))
taken_or_kept n p q (inr (inl e)) (inr (inl f)) = inl (ap again_of e ∙ sym (ap again_of f))
taken_or_kept n p q (inr (inl e)) (inr (inr none)) = absurd none
taken_or_kept n p q (inr (inr none)) j = absurd none

client_waits : WaitsFor (once_probed 2).client.tracking.packets (in_flight probed_run Client 8)
client_waits =
    let both : WaitsFor (both_with nothing_waits) (both_with the_reset) = record { same = refl; records = taken_or_kept } in
    let of_these : WaitsFor (both_with nothing_waits) (in_flight probed_run Client 8) = subst (λ (ps : Table TrackedPacket). WaitsFor (both_with nothing_waits) ps) (sym both_fly) both in
    subst (λ (ps : Table TrackedPacket). WaitsFor ps (in_flight probed_run Client 8)) (sym both_wait) of_these

server_waits : WaitsFor (once_probed 2).server.tracking.packets (in_flight probed_run Server 8)
unfolding once_probed
server_waits = record { same = refl; records = λ n p q i j. absurd i }

pub probed_tracks : TracksAt probed_run 8 (once_probed 2)
probed_tracks Client opened = client_waits
probed_tracks Server opened = server_waits

-- ---- what is reckoned

due_0 : due_at probed_run Client 1 ≡ None
unfolding client_acked reset_stream_at
due_0 = refl

due_1 : due_at probed_run Client 2 ≡ None
unfolding client_acked reset_stream_at
due_1 = refl

due_2 : due_at probed_run Client 3 ≡ None
unfolding client_acked reset_stream_at
due_2 = refl

due_3 : due_at probed_run Client 4 ≡ None
unfolding client_acked reset_stream_at
due_3 = refl

due_4 : due_at probed_run Client 5 ≡ None
unfolding client_acked reset_stream_at
due_4 = refl

due_5 : due_at probed_run Client 6 ≡ Some 1024000000
unfolding client_acked reset_stream_at
due_5 = refl

pub due_6 : due_at probed_run Client 7 ≡ Some 2048000000
unfolding client_acked reset_stream_at
due_6 = refl

pub due_7 : due_at probed_run Client 8 ≡ Some 3072000000
unfolding client_acked reset_stream_at
due_7 = refl

server_due_0 : due_at probed_run Server 1 ≡ None
unfolding client_acked reset_stream_at
server_due_0 = refl

server_due_1 : due_at probed_run Server 2 ≡ None
unfolding client_acked reset_stream_at
server_due_1 = refl

server_due_2 : due_at probed_run Server 3 ≡ None
unfolding client_acked reset_stream_at
server_due_2 = refl

server_due_3 : due_at probed_run Server 4 ≡ None
unfolding client_acked reset_stream_at
server_due_3 = refl

server_due_4 : due_at probed_run Server 5 ≡ None
unfolding client_acked reset_stream_at
server_due_4 = refl

server_due_5 : due_at probed_run Server 6 ≡ None
unfolding client_acked reset_stream_at
server_due_5 = refl

server_due_6 : due_at probed_run Server 7 ≡ None
unfolding client_acked reset_stream_at
server_due_6 = refl

server_due_7 : due_at probed_run Server 8 ≡ None
unfolding client_acked reset_stream_at
server_due_7 = refl

pub probed_moments : LossMoments probed_run
probed_moments Client zero v served is opened = shows Client _ v _ _ is refl due_0
probed_moments Client (suc zero) v served is opened = shows Client _ v _ _ is refl due_1
probed_moments Client (suc (suc zero)) v served is opened = shows Client _ v _ _ is refl due_2
probed_moments Client (suc (suc (suc zero))) v served is opened = shows Client _ v _ _ is refl due_3
probed_moments Client (suc (suc (suc (suc zero)))) v served is opened = shows Client _ v _ _ is refl due_4
probed_moments Client (suc (suc (suc (suc (suc zero))))) v served is opened = shows Client _ v _ _ is refl due_5
probed_moments Client (suc (suc (suc (suc (suc (suc zero)))))) v served is opened = shows Client _ v _ _ is refl due_6
probed_moments Client (suc (suc (suc (suc (suc (suc (suc zero))))))) v served is opened = shows Client _ v _ _ is refl due_7
probed_moments Client (suc (suc (suc (suc (suc (suc (suc (suc i)))))))) v served is opened = cc
probed_moments Server zero v served is opened = shows Server _ v _ _ is refl server_due_0
probed_moments Server (suc zero) v served is opened = shows Server _ v _ _ is refl server_due_1
probed_moments Server (suc (suc zero)) v served is opened = shows Server _ v _ _ is refl server_due_2
probed_moments Server (suc (suc (suc zero))) v served is opened = shows Server _ v _ _ is refl server_due_3
probed_moments Server (suc (suc (suc (suc zero)))) v served is opened = shows Server _ v _ _ is refl server_due_4
probed_moments Server (suc (suc (suc (suc (suc zero))))) v served is opened = shows Server _ v _ _ is refl server_due_5
probed_moments Server (suc (suc (suc (suc (suc (suc zero)))))) v served is opened = shows Server _ v _ _ is refl server_due_6
probed_moments Server (suc (suc (suc (suc (suc (suc (suc zero))))))) v served is opened = shows Server _ v _ _ is refl server_due_7
probed_moments Server (suc (suc (suc (suc (suc (suc (suc (suc i)))))))) v served is opened = cc

-- ---- the reset is dropped

waits_not : Waits record_dropped.client (Reset 0) → ⊥
unfolding once_probed
waits_not w = let due : false ≡ true = w.due in cc

carries_not : IsCarried record_dropped.client.tracking.packets (Reset 0) → ⊥
unfolding once_probed
carries_not (inl e) = let clash : false ≡ true = e in cc
carries_not (inr (inl e)) = let clash : false ≡ true = e in cc
carries_not (inr (inr g)) = g

nowhere : Waits record_dropped.client (Reset 0) ⊎ IsCarried record_dropped.client.tracking.packets (Reset 0) ⊎ ResetHasArrived (took probed_run Server 8) 0 → ⊥
nowhere (inl w) = waits_not w
nowhere (inr (inl g)) = carries_not g
nowhere (inr (inr a)) = a.was_taken

pub dropped_duties : DutiesAt probed_run 8 record_dropped → ⊥
dropped_duties stands = nowhere (stands Client (λ n. false) (Reset 0) (client_tells_stays probed_run (λ n. false)) refl)

-- whether a datagram among some has the reset
abbrev one_has : Table TrackedPacket → Bool
one_has packets = list_any (λ (p : ℕ × TrackedPacket). has_reset 0 (again_of p).reset_stream) packets

none_has : one_has record_dropped.client.tracking.packets ≡ false
unfolding once_probed
none_has = refl

probe_has : one_has (once_probed 2).client.tracking.packets ≡ true
unfolding once_probed
probe_has = refl

dropped_here : record_dropped ≡ once_probed 2 → ⊥
dropped_here e = let clash : false ≡ true = sym none_has ∙ ap (λ (w : World). one_has w.client.tracking.packets) e ∙ probe_has in cc

not_dropped : NotToFrom both_steady record_dropped (giving_events ++ later_events) (giving_answers ++ later_answers)
not_dropped = step_on refl paired.opens_first (step_on refl paired.opens_both (step_on refl paired.writes_first (step_on refl paired.writes_both (step_on refl paired.resets (step_on refl paired.gives (step_on refl expires (step_on refl probes (ends_here dropped_here))))))))

pub dropped_leads : NeverLeadsFrom both_steady (giving_events ++ later_events) (giving_answers ++ later_answers) record_dropped
dropped_leads views f = not_dropped.never views record_dropped f refl

-- ---- its datagram is dropped

is_open : datagram_dropped.client.closing.state ≡ states.Open
unfolding once_probed
is_open = refl

one_waits : length datagram_dropped.client.tracking.packets ≡ 1
unfolding once_probed
one_waits = refl

one_two : ◌≡◌ {A = ℕ} 1 2 → ⊥
one_two e = omega (arith, e)

pub datagram_tracks : TracksAt probed_run 8 datagram_dropped → ⊥
datagram_tracks h = one_two (sym one_waits ∙ as_many (h Client is_open) ∙ ap (λ (ps : Table TrackedPacket). length ps) both_fly)

datagram_here : datagram_dropped ≡ once_probed 2 → ⊥
datagram_here e = one_two (sym one_waits ∙ ap (λ (w : World). length w.client.tracking.packets) e ∙ ap (λ (ps : Table TrackedPacket). length ps) both_wait)

not_without : NotToFrom both_steady datagram_dropped (giving_events ++ later_events) (giving_answers ++ later_answers)
not_without = step_on refl paired.opens_first (step_on refl paired.opens_both (step_on refl paired.writes_first (step_on refl paired.writes_both (step_on refl paired.resets (step_on refl paired.gives (step_on refl expires (step_on refl probes (ends_here datagram_here))))))))

pub datagram_leads : NeverLeadsFrom both_steady (giving_events ++ later_events) (giving_answers ++ later_answers) datagram_dropped
datagram_leads views f = not_without.never views datagram_dropped f refl
