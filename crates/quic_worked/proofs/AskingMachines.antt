-- Machines with a bug in what they ask of how often to acknowledge, or in how they keep to it: each
-- run is refused by a clause, meets the premises, and is none of the machine's.
use Rattle.std.proofs.Common.{◌≡◌, ◌≤◌, ℕ, zero, suc, true, false, List, [], ◌∷◌, ◌++◌, Option, Some, None, refl, inl, inr, sym, ap, ◌∙◌, arith}
use Rattle.std.specs.Prelude.{slice_get, slice_index}
use Rattle.std.proofs.lemmas.Bool.{both_ways}
use Rattle.quic_wire_core.specs.declared.stream_id.Side.{Side}
use Rattle.quic_wire_core.specs.declared.stream_id.Side.TheVariants.{Client, Server}
use Rattle.quic_wire_core.specs.declared.shared.EcnCodepoint.TheVariants.{Ect0}
use Rattle.quic_wire.specs.Value.{AckFrequencyValue, ack_frequency}
use Rattle.quic_wire.specs.Reading.{ack_frequency_at}
use Rattle.quic_config.specs.Configs.{FrequencySettings}
use Rattle.quic_machine.specs.declared.run.View.{View}
use Rattle.quic_machine.specs.Machine.{IsStep, Follows, view_of}
use Rattle.quic_machine.specs.RunLaws.{one_run}
use Rattle.quic_headline.specs.Observer.{watch, sents_until}
use Rattle.quic_headline.specs.Headline.{IsHonest, IsRun}
use Rattle.quic_headline.specs.InFlight.{is_ack_frequency}
use Rattle.quic_headline.specs.Moments.{debt, first_deadline, LossMoments, AckMoments}
use Rattle.quic_headline.specs.Polls.{GaveOne, GaveAsking, IsFull, IsPaced, IsHeldBack}
use Rattle.quic_headline.specs.Requests.{asking_at, requests_in, request_said, RequestsGo, RequestsSay, wants_anew}
use Rattle.quic_headline.specs.Waited.{wants, stands, FrameWaited, as_size_probe, as_loss_probe, as_ack, as_frames, as_close, EachWaited}
use Rattle.quic_worked.specs.Settings.{plain_settings}
use Rattle.quic_worked.specs.Worked.{worked_policies, gives_bytes}
use Rattle.quic_worked.specs.Acknowledged.{client_acked}
use Rattle.quic_worked.specs.Broken.{IsNoRun}
use Rattle.quic_worked.specs.Held.{gives_nothing}
use Rattle.quic_worked.specs.Machines.{NeverGives}
use Rattle.quic_worked.specs.Timed.{asks_at, seen_with, due_at, NeverShows}
use Rattle.quic_worked.specs.Asking.{asks_within, asking_start, asks_unasked, asking_start_with, request, first_sent, once_asked, counts_from_one, asks_for_twenty, asks_again, again_sent, leaves_request, ids_sent, withholds_request, acks_until, waits_as_before, once_patient, patient_until, patient_run, impatient_run}
use Rattle.quic_worked.proofs.AskingRuns.{asking_started, unasking_started, asks_it, takes_it, asked_seen, taken_seen}
use Rattle.quic_worked.proofs.BrokenRuns.{IsRefused, stops, behind}
use Rattle.quic_worked.proofs.Codes.{no_codes}
use Rattle.quic_worked.proofs.MessageRuns.{given_bytes}
use Rattle.quic_worked.proofs.OwnIds.{AreOwn, own_ids}
use Rattle.quic_worked.proofs.RepeatedRuns.{alone_closes}
use Rattle.quic_worked.proofs.Steps.{counts_so, still_steady}
use Rattle.quic_worked.proofs.TimedRun.{shows, moment_in, moment_of, ack_moment_of}
use Rattle.quic_worked.proofs.Validated.{unless_limited}
use Rattle.quic_worked.proofs.WorkedKeys.{are_keys}
use Rattle.quic_worked.proofs.WrongRuns.{ends_here, step_on, NeverEnds}

-- ---- a request with number 1, though it is the first

one_went : sents_until counts_from_one Client 1 ≡ sents_until counts_from_one Client 0 ++ first_sent (request 1 10000) 229 ∷ []
unfolding client_acked ack_frequency_at
one_went = refl

gave_from_one : GaveOne counts_from_one Client 0 0
gave_from_one = record { transmit = record { size = 229; ecn = Some Ect0; remote = 0 }; poll = record { event = refl; answer = refl }; served = refl; sent = first_sent (request 1 10000) 229; went = one_went }

pub one_not : RequestsSay counts_from_one → ⊥
unfolding gave_from_one
one_not h =
    let asked = h Client 0 0 gave_from_one (request 1 10000) (inl refl) in
    let clash : ◌≡◌ {A = ℕ} 1 0 = ap (λ (f : AckFrequencyValue). f.sequence) asked.says in
    omega (arith, clash)

one_own : (side : Side) → AreOwn side [] counts_from_one.events counts_from_one.answers counts_from_one.views
one_own Client = (tt, tt)
one_own Server = (tt, tt)

pub one_is_honest : IsHonest counts_from_one
one_is_honest = record { start = asking_started 10000000; keys = are_keys; ids = own_ids counts_from_one one_own }

-- the number of the request, as it goes in the first datagram
abbrev number_byte : List (List ℕ) → ℕ
number_byte [] = 9
number_byte (d ∷ ds) = slice_index d 12

right_number : number_byte (once_asked 1).from_client ≡ 0
unfolding once_asked
right_number = refl

other_number : counts_from_one.from_client ≡ (once_asked 1).from_client → ⊥
other_number e = let clash : ◌≡◌ {A = ℕ} 1 0 = ap number_byte e ∙ right_number in omega (arith, clash)

not_from_one : NeverEnds (λ w. counts_from_one.from_client ≡ w.from_client) (asking_start 10000000) counts_from_one.events counts_from_one.answers
not_from_one = step_on refl asks_it (ends_here other_number)

pub one_is_none : NeverGives counts_from_one
one_is_none views end is = not_from_one.never views end is.follows is.from_client

-- ---- a request for another delay than the one that is configured

twenty_went : sents_until asks_for_twenty Client 1 ≡ sents_until asks_for_twenty Client 0 ++ first_sent (request 0 20000) 231 ∷ []
unfolding client_acked ack_frequency_at
twenty_went = refl

gave_twenty : GaveOne asks_for_twenty Client 0 0
gave_twenty = record { transmit = record { size = 231; ecn = Some Ect0; remote = 0 }; poll = record { event = refl; answer = refl }; served = refl; sent = first_sent (request 0 20000) 231; went = twenty_went }

-- it is to say what is configured, for what the peer told
twenty_said : (settings : FrequencySettings) → (asking_at asks_for_twenty Client).settings ≡ Some settings → (least : ℕ) → (asking_at asks_for_twenty Client).least ≡ Some least
    → request 0 20000 ≡ request_said settings least (requests_in (watch asks_for_twenty Client 0).own) (watch asks_for_twenty Client 0).flight → request 0 20000 ≡ request 0 10000
twenty_said settings configured least told says =
    let same : settings ≡ asks_within 10000000 = cc in
    let thousand : ◌≡◌ {A = ℕ} least 1000 = cc in
    says
    ∙ ap (λ (s : FrequencySettings). request_said s least (requests_in (watch asks_for_twenty Client 0).own) (watch asks_for_twenty Client 0).flight) same
    ∙ ap (λ (l : ℕ). request_said (asks_within 10000000) l (requests_in (watch asks_for_twenty Client 0).own) (watch asks_for_twenty Client 0).flight) thousand

pub twenty_not : RequestsSay asks_for_twenty → ⊥
unfolding gave_twenty
twenty_not h =
    let asked = h Client 0 0 gave_twenty (request 0 20000) (inl refl) in
    let said = twenty_said asked.settings asked.configured asked.least asked.told asked.says in
    let clash : ◌≡◌ {A = ℕ} 20000 10000 = ap (λ (f : AckFrequencyValue). f.delay) said in
    omega (arith, clash)

twenty_own : (side : Side) → AreOwn side [] asks_for_twenty.events asks_for_twenty.answers asks_for_twenty.views
twenty_own Client = (tt, tt)
twenty_own Server = (tt, tt)

pub twenty_is_honest : IsHonest asks_for_twenty
twenty_is_honest = record { start = asking_started 10000000; keys = are_keys; ids = own_ids asks_for_twenty twenty_own }

twenty_no : IsRefused (asking_start 10000000) (asks_at Client 0) (gives_bytes 231)
unfolding once_asked
twenty_no (inl e) = let clash : ◌≡◌ {A = ℕ} 231 229 = ap given_bytes e in omega (arith, clash)
twenty_no (inr e) = cc

pub twenty_is_none : IsNoRun asks_for_twenty
twenty_is_none = stops _ _ _ _ _ twenty_no

-- ---- a request of a client that isn't configured to ask

unasked_went : sents_until asks_unasked Client 1 ≡ sents_until asks_unasked Client 0 ++ first_sent (request 0 10000) 229 ∷ []
unfolding client_acked ack_frequency_at
unasked_went = refl

gave_unasked : GaveOne asks_unasked Client 0 0
gave_unasked = record { transmit = record { size = 229; ecn = Some Ect0; remote = 0 }; poll = record { event = refl; answer = refl }; served = refl; sent = first_sent (request 0 10000) 229; went = unasked_went }

pub unasked_not : RequestsSay asks_unasked → ⊥
unfolding gave_unasked
unasked_not h =
    let asked = h Client 0 0 gave_unasked (request 0 10000) (inl refl) in
    let configured : None ≡ Some asked.settings = asked.configured in
    cc

unasked_own : (side : Side) → AreOwn side [] asks_unasked.events asks_unasked.answers asks_unasked.views
unasked_own Client = (tt, tt)
unasked_own Server = (tt, tt)

pub unasked_is_honest : IsHonest asks_unasked
unasked_is_honest = record { start = unasking_started; keys = are_keys; ids = own_ids asks_unasked unasked_own }

-- the machine gives its ids alone
unasked_no : IsRefused (asking_start_with plain_settings) (asks_at Client 0) (gives_bytes 229)
unfolding once_asked
unasked_no (inl e) = let clash : ◌≡◌ {A = ℕ} 229 222 = ap given_bytes e in omega (arith, clash)
unasked_no (inr e) = cc

pub unasked_is_none : IsNoRun asks_unasked
unasked_is_none = stops _ _ _ _ _ unasked_no

-- ---- a request that goes again, though nothing has changed

again_went : sents_until asks_again Client 2 ≡ sents_until asks_again Client 1 ++ again_sent ∷ []
unfolding client_acked ack_frequency_at
again_went = refl

gave_again : GaveOne asks_again Client 1 0
gave_again = record { transmit = record { size = 33; ecn = Some Ect0; remote = 0 }; poll = record { event = refl; answer = refl }; served = refl; sent = again_sent; went = again_went }

one_stands : stands is_ack_frequency (wants asks_again Client 1).since ≡ true
unfolding client_acked ack_frequency_at
one_stands = refl

-- the delay that is wanted is the one that was asked for
not_anew : wants_anew (asking_at asks_again Client) (wants asks_again Client 1).watch.own (wants asks_again Client 1).watch.flight ≡ false
unfolding client_acked ack_frequency_at
not_anew = refl

no_probe_waits : (watch asks_again Client 1).flight.probes ≡ 0
unfolding client_acked ack_frequency_at
no_probe_waits = refl

not_waited : FrameWaited (asking_at asks_again Client) (wants asks_again Client 1) (ack_frequency (request 1 10000)) → ⊥
not_waited (inl none) = both_ways (stands is_ack_frequency (wants asks_again Client 1).since) none one_stands
not_waited (inr anew) = both_ways (wants_anew (asking_at asks_again Client) (wants asks_again Client 1).watch.own (wants asks_again Client 1).watch.flight) not_anew anew

pub again_not : EachWaited asks_again → ⊥
unfolding gave_again
again_not h = elim (h Client 1 0 gave_again) [
  | as_size_probe probe ↦ (let above : 1200 ≤ 33 = probe.above in absurd (omega (arith, above)))
  | as_loss_probe waits ↦ (let none = no_probe_waits in absurd (omega (arith, waits, none)))
  | as_ack none frames wanted ↦ (let clash : true ≡ false = none in cc)
  | as_frames asks each ↦ not_waited (each (ack_frequency (request 1 10000)) (inl refl))
  | as_close closes ↦ (let clash : false ≡ true = alone_closes again_sent closes in cc)
]

again_own : (side : Side) → AreOwn side [] asks_again.events asks_again.answers asks_again.views
again_own Client = (tt, (tt, tt))
again_own Server = (tt, (tt, tt))

pub again_is_honest : IsHonest asks_again
again_is_honest = record { start = asking_started 10000000; keys = are_keys; ids = own_ids asks_again again_own }

again_no : IsRefused (once_asked 1) (asks_at Client 0) (gives_bytes 33)
unfolding once_asked
again_no (inl e) = cc
again_no (inr e) = cc

pub again_is_none : IsNoRun asks_again
again_is_none = behind refl asks_it (stops _ _ _ _ _ again_no)

-- ---- a client that never asks

left_went : sents_until leaves_request Client 1 ≡ sents_until leaves_request Client 0 ++ ids_sent ∷ []
unfolding client_acked ack_frequency_at
left_went = refl

gave_left : GaveAsking leaves_request Client 0 0
gave_left = record { one = record { transmit = record { size = 222; ecn = Some Ect0; remote = 0 }; poll = record { event = refl; answer = refl }; served = refl; sent = ids_sent; went = left_went }; asks = refl }

pub left_not : RequestsGo leaves_request → ⊥
unfolding gave_left
left_not h = (let clash : false ≡ true = h.along Client 0 0 gave_left refl in cc)

left_own : (side : Side) → AreOwn side [] leaves_request.events leaves_request.answers leaves_request.views
left_own Client = (tt, tt)
left_own Server = (tt, tt)

pub left_is_honest : IsHonest leaves_request
left_is_honest = record { start = asking_started 10000000; keys = are_keys; ids = own_ids leaves_request left_own }

left_no : IsRefused (asking_start 10000000) (asks_at Client 0) (gives_bytes 222)
unfolding once_asked
left_no (inl e) = let clash : ◌≡◌ {A = ℕ} 222 229 = ap given_bytes e in omega (arith, clash)
left_no (inr e) = cc

pub left_is_none : IsNoRun leaves_request
left_is_none = stops _ _ _ _ _ left_no

-- ---- a client that gives nothing

withheld_full : IsFull withholds_request Client 1 (seen_with None None) → ⊥
withheld_full full = let most : 12000 ≤ 1200 = full in omega (arith, most)

withheld_paced : IsPaced withholds_request Client 1 (seen_with None None) → ⊥
withheld_paced paced = let shown : ◌≡◌ {A = Option (Option ℕ)} (Some None) (Some (Some paced.moment)) = paced.shown in cc

pub withheld_not : RequestsGo withholds_request → ⊥
withheld_not h =
    elim (unless_limited withholds_request Client 1 (seen_with None None) (IsHeldBack withholds_request Client 1 (seen_with None None)) refl (h.held Client 0 0 (seen_with None None) refl (record { poll = record { event = refl; answer = refl }; shown = refl; opened = refl }) refl)) [
      | inl full ↦ withheld_full full
      | inr paced ↦ withheld_paced paced
    ]

withheld_own : (side : Side) → AreOwn side [] withholds_request.events withholds_request.answers withholds_request.views
withheld_own Client = (tt, tt)
withheld_own Server = (tt, tt)

pub withheld_is_honest : IsHonest withholds_request
withheld_is_honest = record { start = asking_started 10000000; keys = are_keys; ids = own_ids withholds_request withheld_own }

withheld_no : IsRefused (asking_start 10000000) (asks_at Client 0) gives_nothing
unfolding once_asked
withheld_no (inl e) = cc
withheld_no (inr e) = cc

pub withheld_is_none : IsNoRun withholds_request
withheld_is_none = stops _ _ _ _ _ withheld_no

-- ---- a server that waits 25 ms as before

owes_ten : (debt waits_as_before Server 2).deadlines ≡ 15000000 ∷ []
unfolding client_acked ack_frequency_at
owes_ten = refl

-- so the timer isn't to be set to a later moment
not_later : first_deadline (15000000 ∷ []) ≡ Some 30000000 → ⊥
not_later first = let same : ◌≡◌ {A = ℕ} 15000000 30000000 = ap (λ (o : Option ℕ). moment_in (Some o)) first in omega (arith, same)

pub before_not : AckMoments waits_as_before → ⊥
before_not h = not_later (ap first_deadline (sym owes_ten) ∙ h Server 1 30000000 (seen_with (Some 1024000000) (Some 30000000)) refl refl refl refl)

before_own : (side : Side) → AreOwn side [] waits_as_before.events waits_as_before.answers waits_as_before.views
before_own Client = (tt, (tt, tt))
before_own Server = (tt, (tt, tt))

pub before_is_honest : IsHonest waits_as_before
before_is_honest = record { start = asking_started 10000000; keys = are_keys; ids = own_ids waits_as_before before_own }

-- the machine's run up to there
follows_two : Follows worked_policies (asking_start 10000000) (acks_until 15000000).events (acks_until 15000000).answers (acks_until 15000000).views (once_asked 2)
follows_two = (once_asked 1, asks_it, asked_seen, (once_asked 2, takes_it, taken_seen, refl))

pub never_before : NeverShows waits_as_before
never_before end f =
    let same = one_run worked_policies waits_as_before.answers (asking_start 10000000) waits_as_before.events waits_as_before.views (acks_until 15000000).views end (once_asked 2) refl f follows_two in
    let moments : ◌≡◌ {A = ℕ} 30000000 15000000 = ap (λ (vs : List View). ack_moment_of (slice_get vs 1)) same.0 in
    absurd (omega arith)

-- ---- a client that asks for 100 ms

asks_patiently : IsStep worked_policies (asking_start 100000000) (asks_at Client 0) (gives_bytes 231) once_patient
unfolding once_patient
asks_patiently = record { answer = inl refl; end = refl; control = still_steady; heard = counts_so worked_policies (asking_start 100000000) (asks_at Client 0) (gives_bytes 231); openings = tt; others = refl; lacking = tt }

patient_seen : seen_with (Some 1099000000) None ≡ view_of once_patient
unfolding once_patient
patient_seen = refl

patient_follows : Follows worked_policies (asking_start 100000000) patient_run.events patient_run.answers patient_run.views once_patient
patient_follows = (once_patient, asks_patiently, patient_seen, refl)

patient_gave : patient_run.from_client ≡ once_patient.from_client
unfolding once_patient
patient_gave = refl

none_gave : patient_run.from_server ≡ once_patient.from_server
unfolding once_patient
none_gave = refl

pub patient_is_run : IsRun patient_run once_patient
patient_is_run = record { codes = no_codes patient_run.events refl; follows = patient_follows; from_client = patient_gave; from_server = none_gave }

patient_own : (due : ℕ) (side : Side) → AreOwn side [] (patient_until due).events (patient_until due).answers (patient_until due).views
patient_own due Client = (tt, tt)
patient_own due Server = (tt, tt)

pub patient_is_honest : (due : ℕ) → IsHonest (patient_until due)
patient_is_honest due = record { start = asking_started 100000000; keys = are_keys; ids = own_ids (patient_until due) (patient_own due) }

pub patient_due : due_at patient_run Client 1 ≡ Some 1099000000
unfolding client_acked ack_frequency_at
patient_due = refl

pub patient_losses : LossMoments patient_run
patient_losses Client zero v served is opened = shows Client _ v _ _ is refl patient_due
patient_losses Server zero v served is opened = shows Server _ v _ _ is refl refl
patient_losses Client (suc i) v served is opened = cc
patient_losses Server (suc i) v served is opened = cc

impatient_due : due_at impatient_run Client 1 ≡ Some 1099000000
unfolding client_acked ack_frequency_at
impatient_due = refl

pub impatient_not : LossMoments impatient_run → ⊥
impatient_not h = let same : ◌≡◌ {A = ℕ} 1024000000 1099000000 = ap moment_in (h Client 0 (seen_with (Some 1024000000) None) refl refl refl ∙ ap (λ (o : Option ℕ). Some o) impatient_due) in absurd (omega arith)

pub impatient_is_honest : IsHonest impatient_run
impatient_is_honest = patient_is_honest 1024000000

pub never_impatient : NeverShows impatient_run
never_impatient end f =
    let same = one_run worked_policies impatient_run.answers (asking_start 100000000) impatient_run.events impatient_run.views patient_run.views end once_patient refl f patient_follows in
    let moments : ◌≡◌ {A = ℕ} 1024000000 1099000000 = ap (λ (vs : List View). moment_of (slice_get vs 0)) same.0 in
    absurd (omega arith)
