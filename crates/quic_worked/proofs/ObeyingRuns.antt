-- The runs in which an end keeps to what its peer asks of how often to acknowledge, event by event,
-- and machines with a bug that don't.
use Rattle.std.proofs.Common.{◌≡◌, ℕ, true, false, List, [], ◌∷◌, Option, Some, None, refl, inl, inr, sym, ap, ◌∙◌, subst, arith, drop}
use Rattle.std.specs.Prelude.{slice_get}
use Rattle.std.proofs.lemmas.Bool.{both_ways}
use Rattle.quic_wire_core.specs.declared.stream_id.Side.{Side}
use Rattle.quic_wire_core.specs.declared.stream_id.Side.TheVariants.{Client, Server}
use Rattle.quic_wire.specs.Reading.{ack_frequency_at}
use Rattle.quic_machine.specs.declared.run.View.{View}
use Rattle.quic_machine.specs.Machine.{Follows}
use Rattle.quic_machine.specs.RunLaws.{one_run}
use Rattle.quic_headline.specs.Runs.{Run, Packet, In}
use Rattle.quic_headline.specs.Observer.{Sent, watch, sents_until}
use Rattle.quic_headline.specs.Headline.{IsHonest, IsRun}
use Rattle.quic_headline.specs.Moments.{acknowledges, went, debt, first_deadline, AckMoments}
use Rattle.quic_headline.specs.Rest.{unanswered, IsUnacknowledged}
use Rattle.quic_headline.specs.AcksDue.{is_due, AcksAreDue}
use Rattle.quic_headline.specs.Requests.{asking_at, requests_in, request_said, wants_anew}
use Rattle.quic_headline.specs.Requested.{requested}
use Rattle.quic_worked.specs.Worked.{worked_policies}
use Rattle.quic_worked.specs.Acknowledged.{client_acked}
use Rattle.quic_worked.specs.Broken.{IsNoRun}
use Rattle.quic_worked.specs.Held.{gives_nothing}
use Rattle.quic_worked.specs.Timed.{asks_at, seen_with, NeverShows}
use Rattle.quic_worked.specs.Asking.{asks_within, asking_start, request, once_asked}
use Rattle.quic_worked.specs.Obeying.{once_stale, stale_until, stale_run, obeys_stale, once_probing, probe_packet, probing_run, probe_waits}
use Rattle.quic_worked.proofs.Rows.{Rows, rows_follow, stops_behind}
use Rattle.quic_worked.proofs.AskingRuns as asked
use Rattle.quic_worked.proofs.BrokenRuns.{IsRefused, stops}
use Rattle.quic_worked.proofs.Codes.{no_codes}
use Rattle.quic_worked.proofs.OwnIds.{AreOwn, own_ids}
use Rattle.quic_worked.proofs.TimedRun.{ack_moment_of, moment_in}
use Rattle.quic_worked.proofs.Validated.{unless_limited}
use Rattle.quic_worked.proofs.WorkedKeys.{are_keys}

-- ---- a request that comes behind a newer one

stale_rows : Rows stale_run.keys stale_run.start stale_run.events stale_run.answers stale_run.views
unfolding once_asked
stale_rows = ((inl refl, tt, tt, refl, refl), ((refl, tt, tt, refl, refl), ((inl refl, tt, tt, refl, refl), ((inl refl, tt, tt, refl, refl), ((inl refl, tt, tt, refl, refl), ((inl refl, tt, tt, refl, refl), ((inl refl, tt, tt, refl, refl), ((inl refl, tt, tt, refl, refl), ((inl refl, tt, tt, refl, refl), ((inl refl, tt, tt, refl, refl), ((inl refl, tt, tt, refl, refl), ((inl refl, tt, tt, refl, refl), tt))))))))))))

stale_follows : Follows stale_run.keys stale_run.start stale_run.events stale_run.answers stale_run.views (once_stale 12)
unfolding once_stale
stale_follows = rows_follow stale_run.keys stale_run.start stale_run.events stale_run.answers stale_run.views stale_rows

stale_gave_three : stale_run.from_client ≡ (once_stale 12).from_client
unfolding once_stale
stale_gave_three = refl

stale_gave_two : stale_run.from_server ≡ (once_stale 12).from_server
unfolding once_stale
stale_gave_two = refl

pub stale_is_run : IsRun stale_run (once_stale 12)
stale_is_run = record { codes = no_codes stale_run.events refl; follows = stale_follows; from_client = stale_gave_three; from_server = stale_gave_two }

stale_own : (due : ℕ) (side : Side) → AreOwn side [] (stale_until due).events (stale_until due).answers (stale_until due).views
stale_own due Client = (tt, (tt, (tt, (tt, (tt, (tt, (tt, (tt, (tt, (tt, (tt, (tt, tt))))))))))))
stale_own due Server = (tt, (tt, (tt, (tt, (tt, (tt, (tt, (tt, (tt, (tt, (tt, (tt, tt))))))))))))

pub stale_is_honest : (due : ℕ) → IsHonest (stale_until due)
stale_is_honest due = record { start = asked.asking_started 100000000; keys = are_keys; ids = own_ids (stale_until due) (stale_own due) }

-- ---- what is asked there, and when the late one is to be acknowledged

pub anew_wanted : wants_anew (asking_at stale_run Client) (watch stale_run Client 7).own (watch stale_run Client 7).flight ≡ true
unfolding client_acked ack_frequency_at
anew_wanted = refl

pub anew_said : request_said (asks_within 100000000) 1000 (requests_in (watch stale_run Client 7).own) (watch stale_run Client 7).flight ≡ request 1 45000
unfolding client_acked ack_frequency_at
anew_said = refl

-- whatever is seen then
late_deadline : (due : ℕ) → (debt (stale_until due) Server 12).deadlines ≡ 145000000 ∷ []
unfolding client_acked ack_frequency_at
late_deadline due = refl

pub stale_deadline : (debt stale_run Server 12).deadlines ≡ 145000000 ∷ []
stale_deadline = late_deadline 145000000

pub stale_delay : (requested (watch stale_run Server 12).intake.took).delay ≡ 45000000
unfolding client_acked ack_frequency_at
stale_delay = refl

-- ---- a server that obeys it

not_later : first_deadline (145000000 ∷ []) ≡ Some 200000000 → ⊥
not_later first = let same : ◌≡◌ {A = ℕ} 145000000 200000000 = ap (λ (o : Option ℕ). moment_in (Some o)) first in omega (arith, same)

pub obeys_not : AckMoments obeys_stale → ⊥
obeys_not h = not_later (ap first_deadline (sym (late_deadline 200000000)) ∙ h Server 11 200000000 (seen_with (Some 50625000) (Some 200000000)) refl refl refl refl)

pub never_obeys : NeverShows obeys_stale
never_obeys end f =
    let same = one_run worked_policies obeys_stale.answers (asking_start 100000000) obeys_stale.events obeys_stale.views stale_run.views end (once_stale 12) refl f stale_follows in
    let moments : ◌≡◌ {A = ℕ} 200000000 145000000 = ap (λ (vs : List View). ack_moment_of (slice_get vs 11)) same.0 in
    absurd (omega arith)

-- ---- IMMEDIATE_ACK

pub probing_rows : Rows probing_run.keys probing_run.start probing_run.events probing_run.answers probing_run.views
unfolding once_asked
probing_rows = ((inl refl, tt, tt, refl, refl), ((inl refl, tt, tt, refl, refl), ((inl refl, tt, tt, refl, refl), ((inl refl, tt, tt, refl, refl), ((inl refl, tt, tt, refl, refl), tt)))))

probing_follows : Follows probing_run.keys probing_run.start probing_run.events probing_run.answers probing_run.views (once_probing 5)
unfolding once_probing
probing_follows = rows_follow probing_run.keys probing_run.start probing_run.events probing_run.answers probing_run.views probing_rows

probing_gave_two : probing_run.from_client ≡ (once_probing 5).from_client
unfolding once_probing
probing_gave_two = refl

probing_gave_ack : probing_run.from_server ≡ (once_probing 5).from_server
unfolding once_probing
probing_gave_ack = refl

pub probing_is_run : IsRun probing_run (once_probing 5)
probing_is_run = record { codes = no_codes probing_run.events refl; follows = probing_follows; from_client = probing_gave_two; from_server = probing_gave_ack }

probing_own : (side : Side) → AreOwn side [] probing_run.events probing_run.answers probing_run.views
probing_own Client = (tt, (tt, (tt, (tt, (tt, tt)))))
probing_own Server = (tt, (tt, (tt, (tt, (tt, tt)))))

pub probing_is_honest : IsHonest probing_run
probing_is_honest = record { start = asked.asking_started 10000000; keys = are_keys; ids = own_ids probing_run probing_own }

-- the request goes again with the probe, and under the next number
pub probe_said : request_said (asks_within 10000000) 1000 (requests_in (watch probing_run Client 2).own) (watch probing_run Client 2).flight ≡ request 1 10000
unfolding client_acked ack_frequency_at
probe_said = refl

pub before_probe : is_due probing_run Server 3 ≡ false
unfolding client_acked ack_frequency_at
before_probe = refl

pub probe_hastens : is_due probing_run Server 4 ≡ true
unfolding client_acked ack_frequency_at
probe_hastens = refl

pub probe_alone : unanswered probing_run Server 4 ≡ probe_packet ∷ []
unfolding client_acked ack_frequency_at
probe_alone = refl

pub probe_answered : acknowledges (went (watch probing_run Server 4) (watch probing_run Server 5)) ≡ true
unfolding client_acked ack_frequency_at
probe_answered = refl

-- ---- a server to which it is nothing

-- a server that gave nothing owes an acknowledgement of what it didn't answer
is_owed : (r : Run) (i : ℕ) (p : Packet) (ps : List Packet) → unanswered r Server i ≡ p ∷ ps → sents_until r Server i ≡ [] → IsUnacknowledged r Server i p
is_owed r i p ps since none = record {
  since = subst (λ (qs : List Packet). In p qs) (sym since) (inl refl);
  above = λ s greatest among says named. absurd (subst (λ (ss : List Sent). In s ss) none among);
}

waits_due : is_due probe_waits Server 4 ≡ true
unfolding client_acked ack_frequency_at
waits_due = refl

waits_owed : unanswered probe_waits Server 4 ≡ probe_packet ∷ []
unfolding client_acked ack_frequency_at
waits_owed = refl

waits_sent : sents_until probe_waits Server 4 ≡ []
unfolding client_acked ack_frequency_at
waits_sent = refl

waits_none : acknowledges (went (watch probe_waits Server 4) (watch probe_waits Server 5)) ≡ false
unfolding client_acked ack_frequency_at
waits_none = refl

pub waits_not : AcksAreDue probe_waits → ⊥
waits_not h = both_ways (acknowledges (went (watch probe_waits Server 4) (watch probe_waits Server 5))) waits_none
    (unless_limited probe_waits Server 5 (seen_with (Some 3072000000) None) (acknowledges (went (watch probe_waits Server 4) (watch probe_waits Server 5)) ≡ true) refl (h Server 4 1030000000 gives_nothing (seen_with (Some 3072000000) None) probe_packet refl (record { event = refl; answer = refl }) refl refl waits_due (is_owed probe_waits 4 probe_packet [] waits_owed waits_sent)))

waits_own : (side : Side) → AreOwn side [] probe_waits.events probe_waits.answers probe_waits.views
waits_own Client = (tt, (tt, (tt, (tt, (tt, tt)))))
waits_own Server = (tt, (tt, (tt, (tt, (tt, tt)))))

pub waits_is_honest : IsHonest probe_waits
waits_is_honest = record { start = asked.asking_started 10000000; keys = are_keys; ids = own_ids probe_waits waits_own }

waits_no : IsRefused (once_probing 4) (asks_at Server 1030000000) gives_nothing
unfolding once_probing
waits_no (inl e) = cc
waits_no (inr e) = cc

pub waits_is_none : IsNoRun probe_waits
unfolding once_probing
waits_is_none = stops_behind 4 probing_run.start probing_run.events (drop 4 probe_waits.events) probing_run.answers (drop 4 probe_waits.answers) probing_run.views probing_rows (stops _ _ _ _ _ waits_no)
