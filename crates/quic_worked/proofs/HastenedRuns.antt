-- A probe of losses has IMMEDIATE_ACK, where the peer takes it; and a machine that gives one
-- without it.
use Rattle.std.proofs.Common.{◌≡◌, ◌<◌, ℕ, zero, suc, true, false, List, [], ◌∷◌, ◌++◌, Some, refl, inl, inr, sym, ap, ◌∙◌, subst, arith, drop}
use Rattle.std.specs.List.{list_any}
use Rattle.quic_wire_core.specs.declared.stream_id.Side.{Side}
use Rattle.quic_wire_core.specs.declared.stream_id.Side.TheVariants.{Client, Server}
use Rattle.quic_wire_core.specs.declared.shared.EcnCodepoint.TheVariants.{Ect0}
use Rattle.quic_wire.specs.Reading.{ack_frequency_at}
use Rattle.quic_headline.specs.Observer.{Sent, watch, sents_until}
use Rattle.quic_headline.specs.Headline.{IsHonest}
use Rattle.quic_headline.specs.AcksDue.{is_immediate_ack}
use Rattle.quic_headline.specs.Polls.{GaveOne, GaveAsking}
use Rattle.quic_headline.specs.Pings.{ProbesHasten}
use Rattle.quic_worked.specs.Worked.{gives_bytes}
use Rattle.quic_worked.specs.Acknowledged.{client_acked}
use Rattle.quic_worked.specs.Broken.{IsNoRun}
use Rattle.quic_worked.specs.Timed.{asks_at}
use Rattle.quic_worked.specs.Asking.{request, first_sent}
use Rattle.quic_worked.specs.Obeying.{once_probing, probing_run}
use Rattle.quic_worked.specs.Hastened.{probe_sent, unhastened_run, unhastened_sent}
use Rattle.quic_worked.proofs.ObeyingRuns as obeying
use Rattle.quic_worked.proofs.Rows.{stops_behind}
use Rattle.quic_worked.proofs.AskingRuns as asked
use Rattle.quic_worked.proofs.BrokenRuns.{IsRefused, stops}
use Rattle.quic_worked.proofs.MessageRuns.{given_bytes}
use Rattle.quic_worked.proofs.OwnIds.{AreOwn, own_ids}
use Rattle.quic_worked.proofs.Unpolled.{unpolled}
use Rattle.quic_worked.proofs.WorkedKeys.{are_keys}

-- ---- the machine's run

pub probes_wait : (watch probing_run Client 2).flight.probes ≡ 2
unfolding client_acked ack_frequency_at
probes_wait = refl

-- what went before the probe, and then
one_before : sents_until probing_run Client 2 ≡ first_sent (request 0 10000) 229 ∷ []
unfolding client_acked ack_frequency_at
one_before = refl

two_went : sents_until probing_run Client 3 ≡ first_sent (request 0 10000) 229 ∷ probe_sent ∷ []
unfolding client_acked ack_frequency_at
two_went = refl

-- two lists are alike of which the first datagram is the same
second_same : (first s t : Sent) → first ∷ s ∷ [] ≡ first ∷ t ∷ [] → t ≡ s
second_same first s t is = cc

is_probe : (now : ℕ) (gave : GaveOne probing_run Client 2 now) → gave.sent ≡ probe_sent
is_probe now gave = second_same (first_sent (request 0 10000) 229) probe_sent gave.sent (sym two_went ∙ gave.went ∙ ap (λ (ss : List Sent). ss ++ gave.sent ∷ []) one_before)

-- no probe waits at first, and the server's peer told nothing of IMMEDIATE_ACK
pub probe_hastens : ProbesHasten probing_run
probe_hastens Server i now given some least told = absurd cc
probe_hastens Client zero now given some least told = (let none : 0 < 0 = some in absurd (omega (arith, none)))
probe_hastens Client (suc zero) now given some least told = absurd (unpolled Client now _ given.one.poll.event refl)
probe_hastens Client (suc (suc zero)) now given some least told = subst (λ (s : Sent). list_any is_immediate_ack s.frames ≡ true) (sym (is_probe now given.one)) refl
probe_hastens Client (suc (suc (suc zero))) now given some least told = absurd (unpolled Client now _ given.one.poll.event refl)
probe_hastens Client (suc (suc (suc (suc zero)))) now given some least told = absurd (unpolled Client now _ given.one.poll.event refl)
probe_hastens Client (suc (suc (suc (suc (suc i))))) now given some least told = absurd (unpolled Client now _ given.one.poll.event refl)

-- ---- a client whose probe doesn't ask for an acknowledgement at once

probes_wait_there : (watch unhastened_run Client 2).flight.probes ≡ 2
unfolding client_acked ack_frequency_at
probes_wait_there = refl

unhastened_went : sents_until unhastened_run Client 3 ≡ sents_until unhastened_run Client 2 ++ unhastened_sent ∷ []
unfolding client_acked ack_frequency_at
unhastened_went = refl

gave_unhastened : GaveAsking unhastened_run Client 2 1024000000
gave_unhastened = record { one = record { transmit = record { size = 229; ecn = Some Ect0; remote = 0 }; poll = record { event = refl; answer = refl }; served = refl; sent = unhastened_sent; went = unhastened_went }; asks = refl }

pub unhastened_not : ProbesHasten unhastened_run → ⊥
unfolding gave_unhastened
unhastened_not h =
    let two = probes_wait_there in
    let clash : false ≡ true = h Client 2 1024000000 gave_unhastened (omega (arith, two)) 1000 refl in
    cc

unhastened_own : (side : Side) → AreOwn side [] unhastened_run.events unhastened_run.answers unhastened_run.views
unhastened_own Client = (tt, (tt, (tt, tt)))
unhastened_own Server = (tt, (tt, (tt, tt)))

pub unhastened_is_honest : IsHonest unhastened_run
unhastened_is_honest = record { start = asked.asking_started 10000000; keys = are_keys; ids = own_ids unhastened_run unhastened_own }

unhastened_no : IsRefused (once_probing 2) (asks_at Client 1024000000) (gives_bytes 229)
unfolding once_probing
unhastened_no (inl e) = let clash : ◌≡◌ {A = ℕ} 229 230 = ap given_bytes e in omega (arith, clash)
unhastened_no (inr e) = cc

pub unhastened_is_none : IsNoRun unhastened_run
unfolding once_probing
unhastened_is_none = stops_behind 2 probing_run.start probing_run.events (drop 2 unhastened_run.events) probing_run.answers (drop 2 unhastened_run.answers) probing_run.views obeying.probing_rows (stops _ _ _ _ _ unhastened_no)
