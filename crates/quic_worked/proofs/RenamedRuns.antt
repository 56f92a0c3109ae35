-- The run in which an end uses the next id of its peer, event by event, and machines that take one
-- id for another.
use Rattle.std.proofs.Common.{◌≡◌, Bool, ℕ, zero, suc, List, [], ◌∷◌, ◌++◌, Some, None, Ok, refl, inl, inr, sym, ap, ◌∙◌, subst, arith}
use Rattle.std.specs.Prelude.{slice_index, false}
use Rattle.quic_wire_core.specs.TransportError.{plain_error}
use Rattle.quic_wire_core.specs.declared.stream_id.Side.{Side}
use Rattle.quic_wire_core.specs.declared.stream_id.Side.TheVariants.{Client, Server}
use Rattle.quic_wire_core.specs.declared.shared.EcnCodepoint.TheVariants.{Ect0}
use Rattle.quic_wire.specs.Value.{FrameValue, retire_connection_id, new_connection_id}
use Rattle.quic_machine.specs.declared.answers.LostReason.TheVariants as reasons
use Rattle.quic_machine.specs.declared.answers.Received.TheVariants as receives
use Rattle.quic_machine.specs.declared.answers.DropReason.TheVariants as drops
use Rattle.quic_machine.specs.declared.run.Answer.TheVariants as answers
use Rattle.quic_machine.specs.declared.run.View.{View}
use Rattle.quic_machine.specs.Arrival.{arriving}
use Rattle.quic_machine.specs.Receive.{received}
use Rattle.quic_machine.specs.Machine.{IsStep, Follows, view_of}
use Rattle.quic_headline.specs.Runs.{Packet, In, first_id_of_peer}
use Rattle.quic_headline.specs.Observer.{Sent, took, came_in, sents_until}
use Rattle.quic_headline.specs.Causes.{Shows, NoBlame}
use Rattle.quic_headline.specs.Duties.{WasToldId, WasGiven, WasRetired}
use Rattle.quic_headline.specs.Headline.{IsHonest, IsRun}
use Rattle.quic_headline.specs.ConnectionIds.{IsToldId, IsIssued, IdsAreIssued, UnknownOnlyWhereRetired, IdsAreInUse}
use Rattle.quic_headline.specs.InUse.{in_use}
use Rattle.quic_headline.specs.Polls.{GaveOne}
use Rattle.quic_worked.specs.Worked.{worked_policies, both_steady, client_id, server_id, asks_datagram, gives_bytes, id_word, open_view, sent_view, view_with, id_frame, id_frames, ids_payload}
use Rattle.quic_worked.specs.Acknowledged.{client_acked, client_datagram, from_server}
use Rattle.quic_worked.specs.Broken.{IsNoRun}
use Rattle.quic_worked.specs.Machines.{NeverGives}
use Rattle.quic_worked.specs.Paired.{asks_server, client_hears}
use Rattle.quic_worked.specs.Reordered.{delivers_at}
use Rattle.quic_worked.specs.Renamed.{uses_next, renaming_events, renaming_answers, once_renamed, renaming_run, ids_sent, second_sent, ids_packet, retiring_packet, retired_used, acking_sent, old_used, forgets_early, two_payload, two_issued}
use Rattle.quic_worked.specs.Closed.{closed_view}
use Rattle.quic_worked.proofs.MessageRuns.{given_bytes}
use Rattle.quic_worked.proofs.Codes.{no_codes}
use Rattle.quic_worked.proofs.OwnIds.{honest_steady}
use Rattle.quic_worked.proofs.BrokenRuns.{IsRefused, behind, stops}
use Rattle.quic_worked.proofs.WrongRuns.{NeverEnds, ends_here, step_on}
use Rattle.quic_worked.proofs.Steps.{steps_at, StepsSo}
use Rattle.quic_worked.proofs.Unmoved.{client_tells_stays}

-- ---- the machine's run

pub client_tells : IsStep worked_policies both_steady asks_datagram (gives_bytes 222) (once_renamed 1)
unfolding once_renamed
client_tells =
    let s : StepsSo worked_policies both_steady asks_datagram (gives_bytes 222) (once_renamed 1) = steps_at worked_policies both_steady renaming_events renaming_answers 0 asks_datagram (gives_bytes 222) _ _ refl refl refl in
    record { answer = inl refl; end = s.end; control = s.control; heard = s.heard; openings = tt; others = s.others; lacking = tt }

pub server_tells : IsStep worked_policies (once_renamed 1) asks_server (gives_bytes 222) (once_renamed 2)
unfolding once_renamed
server_tells =
    let s : StepsSo worked_policies (once_renamed 1) asks_server (gives_bytes 222) (once_renamed 2) = steps_at worked_policies both_steady renaming_events renaming_answers 1 asks_server (gives_bytes 222) _ _ refl refl refl in
    record { answer = inl refl; end = s.end; control = s.control; heard = s.heard; openings = tt; others = s.others; lacking = tt }

pub client_takes : IsStep worked_policies (once_renamed 2) client_hears (answers.Deliver receives.Taken) (once_renamed 3)
unfolding once_renamed
client_takes =
    let s : StepsSo worked_policies (once_renamed 2) client_hears (answers.Deliver receives.Taken) (once_renamed 3) = steps_at worked_policies both_steady renaming_events renaming_answers 2 client_hears (answers.Deliver receives.Taken) _ _ refl refl refl in
    record { answer = inl refl; end = s.end; control = s.control; heard = s.heard; openings = tt; others = s.others; lacking = tt }

pub client_uses : IsStep worked_policies (once_renamed 3) uses_next (answers.UseNextId (Ok tt)) (once_renamed 4)
unfolding once_renamed
client_uses =
    let s : StepsSo worked_policies (once_renamed 3) uses_next (answers.UseNextId (Ok tt)) (once_renamed 4) = steps_at worked_policies both_steady renaming_events renaming_answers 3 uses_next (answers.UseNextId (Ok tt)) _ _ refl refl refl in
    record { answer = inl refl; end = s.end; control = s.control; heard = s.heard; openings = tt; others = s.others; lacking = λ lacks. cc }

pub client_gives : IsStep worked_policies (once_renamed 4) asks_datagram (gives_bytes 33) (once_renamed 5)
unfolding once_renamed
client_gives =
    let s : StepsSo worked_policies (once_renamed 4) asks_datagram (gives_bytes 33) (once_renamed 5) = steps_at worked_policies both_steady renaming_events renaming_answers 4 asks_datagram (gives_bytes 33) _ _ refl refl refl in
    record { answer = inl refl; end = s.end; control = s.control; heard = s.heard; openings = tt; others = s.others; lacking = tt }

pub server_takes : IsStep worked_policies (once_renamed 5) (delivers_at 1) (answers.Deliver receives.Taken) (once_renamed 6)
unfolding once_renamed
server_takes =
    let s : StepsSo worked_policies (once_renamed 5) (delivers_at 1) (answers.Deliver receives.Taken) (once_renamed 6) = steps_at worked_policies both_steady renaming_events renaming_answers 5 (delivers_at 1) (answers.Deliver receives.Taken) _ _ refl refl refl in
    record { answer = inl refl; end = s.end; control = s.control; heard = s.heard; openings = tt; others = s.others; lacking = tt }

server_drops : IsStep worked_policies (once_renamed 6) (delivers_at 0) (answers.Deliver (receives.Dropped drops.UnknownId)) (once_renamed 7)
unfolding once_renamed
server_drops =
    let s : StepsSo worked_policies (once_renamed 6) (delivers_at 0) (answers.Deliver (receives.Dropped drops.UnknownId)) (once_renamed 7) = steps_at worked_policies both_steady renaming_events renaming_answers 6 (delivers_at 0) (answers.Deliver (receives.Dropped drops.UnknownId)) _ _ refl refl refl in
    record { answer = inl refl; end = s.end; control = s.control; heard = s.heard; openings = tt; others = s.others; lacking = tt }

-- what is seen behind the first so many events
seen_first : (record { client = sent_view; server = open_view }) ≡ view_of (once_renamed 1)
unfolding once_renamed
seen_first = refl

seen_second : (record { client = sent_view; server = sent_view }) ≡ view_of (once_renamed 2)
unfolding once_renamed
seen_second = refl

-- the client has an acknowledgement to give
abbrev taken_view : View
taken_view = record { client = view_with (Some 1024000000) (Some 25000000); server = sent_view }

seen_third : taken_view ≡ view_of (once_renamed 3)
unfolding once_renamed
seen_third = refl

seen_fourth : taken_view ≡ view_of (once_renamed 4)
unfolding once_renamed
seen_fourth = refl

seen_fifth : (record { client = sent_view; server = sent_view }) ≡ view_of (once_renamed 5)
unfolding once_renamed
seen_fifth = refl

-- and then the server
abbrev last_view : View
last_view = record { client = sent_view; server = view_with None (Some 25000000) }

seen_sixth : last_view ≡ view_of (once_renamed 6)
unfolding once_renamed
seen_sixth = refl

seen_last : last_view ≡ view_of (once_renamed 7)
unfolding once_renamed
seen_last = refl

follows : Follows renaming_run.keys renaming_run.start renaming_run.events renaming_run.answers renaming_run.views (once_renamed 7)
follows = (once_renamed 1, client_tells, seen_first, (once_renamed 2, server_tells, seen_second, (once_renamed 3, client_takes, seen_third, (once_renamed 4, client_uses, seen_fourth, (once_renamed 5, client_gives, seen_fifth, (once_renamed 6, server_takes, seen_sixth, (once_renamed 7, server_drops, seen_last, refl)))))))

gave_both : renaming_run.from_client ≡ (once_renamed 7).from_client
unfolding once_renamed
gave_both = refl

gave_ids : renaming_run.from_server ≡ (once_renamed 7).from_server
unfolding once_renamed
gave_ids = refl

pub renaming_is_run : IsRun renaming_run (once_renamed 7)
renaming_is_run = record { codes = no_codes renaming_run.events refl; follows = follows; from_client = gave_both; from_server = gave_ids }

pub renaming_is_honest : IsHonest renaming_run
renaming_is_honest = honest_steady renaming_run (record { start = refl; keys = refl; client = (tt, (tt, (tt, (tt, (tt, (tt, (tt, tt))))))); server = (tt, (tt, (tt, (tt, (tt, (tt, (tt, tt))))))) })

-- ---- the id that was told is used

pub both_sent : sents_until renaming_run Client 7 ≡ ids_sent ∷ second_sent id_word ∷ []
unfolding client_acked
both_sent = refl

pub ids_taken : took renaming_run Client 7 ≡ ids_packet ∷ []
unfolding client_acked
ids_taken = refl

-- number 1 has that id
told_first : WasToldId (ids_packet ∷ []) 1 id_word
told_first = record { packet = ids_packet; was_taken = inl refl; frame = record { sequence = 1; retire_prior_to = 0; id = id_word; token = id_word ++ id_word }; carried = inl refl; of_number = refl; is = refl }

-- no datagram retires it
none_retires : WasGiven (ids_sent ∷ second_sent id_word ∷ []) (retire_connection_id 1) → ⊥
none_retires g = go g.sent g.among g.carried
  where
    go : (s : Sent) → In s (ids_sent ∷ second_sent id_word ∷ []) → In (retire_connection_id 1) s.frames → ⊥
    go s (inl is) i = first (subst (λ (x : Sent). In (retire_connection_id 1) x.frames) is i)
      where
        first : In (retire_connection_id 1) ids_sent.frames → ⊥
        first (inl e) = cc
        first (inr (inl e)) = cc
        first (inr (inr (inl e))) = cc
        first (inr (inr (inr (inl e)))) = cc
        first (inr (inr (inr (inr (inl e))))) = cc
        first (inr (inr (inr (inr (inr (inl e)))))) = cc
        first (inr (inr (inr (inr (inr (inr (inl e))))))) = cc
        first (inr (inr (inr (inr (inr (inr (inr none))))))) = none
    go s (inr (inl is)) i = second (subst (λ (x : Sent). In (retire_connection_id 1) x.frames) is i)
      where
        second : In (retire_connection_id 1) (second_sent id_word).frames → ⊥
        second (inl e) = cc
        second (inr (inl e)) = cc
        second (inr (inr none)) = none
    go s (inr (inr none)) i = none

ids_came : came_in renaming_run Client 7 ≡ ids_packet ∷ []
unfolding client_acked
ids_came = refl

pub is_issued : IsIssued (first_id_of_peer renaming_run Client) (came_in renaming_run Client 7) (ids_sent ∷ []) (second_sent id_word)
is_issued = subst (λ (ps : List Packet). IsIssued (first_id_of_peer renaming_run Client) ps (ids_sent ∷ []) (second_sent id_word)) (sym ids_came)
    (record { number = 1; told = inr told_first; unretired = none_retires })

-- ---- it is in use

pub none_used : (stays : ℕ → Bool) → in_use renaming_run stays Client 3 ≡ 0
unfolding client_acked
none_used stays = refl

pub next_used : (stays : ℕ → Bool) → in_use renaming_run stays Client 4 ≡ 1
unfolding client_acked
next_used stays = refl

ids_taken_then : took renaming_run Client 4 ≡ ids_packet ∷ []
unfolding client_acked
ids_taken_then = refl

pub told_is_used : (stays : ℕ → Bool) → IsToldId (first_id_of_peer renaming_run Client) (took renaming_run Client 4) (in_use renaming_run stays Client 4) id_word
told_is_used stays = inr (subst (λ (n : ℕ). WasToldId (took renaming_run Client 4) n id_word) (sym (next_used stays)) (subst (λ (ps : List Packet). WasToldId ps 1 id_word) (sym ids_taken_then) told_first))

-- ---- the id that was retired is unknown

pub retired_taken : took renaming_run Server 6 ≡ retiring_packet ∷ []
unfolding client_acked
retired_taken = refl

pub was_retired : WasRetired (took renaming_run Server 6) 0
was_retired = subst (λ (ps : List Packet). WasRetired ps 0) (sym retired_taken) (record { packet = retiring_packet; was_taken = inl refl; carried = inl refl })

-- ---- a client that uses the id which it retires

wrong_sent : sents_until retired_used Client 7 ≡ ids_sent ∷ second_sent server_id ∷ []
unfolding client_acked
wrong_sent = refl

wrong_taken : came_in retired_used Client 7 ≡ ids_packet ∷ []
unfolding client_acked
wrong_taken = refl

-- the ids that were told are others than the first
not_told : (number : ℕ) → WasToldId (ids_packet ∷ []) number server_id → ⊥
not_told number t = go t.packet t.was_taken t.carried
  where
    other : (f : FrameValue) (n : ℕ) → f ≡ id_frame n → new_connection_id t.frame ≡ f → ⊥
    other f n is e =
        let same : new_connection_id t.frame ≡ id_frame n = e ∙ is in
        let id : t.frame.id ≡ id_word = cc in
        let clash : ◌≡◌ {A = ℕ} 0x50 0 = ap (λ (bs : List ℕ). slice_index bs 0) (sym t.is ∙ id) in
        omega (arith, clash)

    go : (p : Packet) → In p (ids_packet ∷ []) → In (new_connection_id t.frame) p.frames → ⊥
    go p (inr none) i = none
    go p (inl is) i = among (subst (λ (q : Packet). In (new_connection_id t.frame) q.frames) is i)
      where
        among : In (new_connection_id t.frame) id_frames → ⊥
        among (inl e) = other (id_frame 1) 1 refl e
        among (inr (inl e)) = other (id_frame 2) 2 refl e
        among (inr (inr (inl e))) = other (id_frame 3) 3 refl e
        among (inr (inr (inr (inl e)))) = other (id_frame 4) 4 refl e
        among (inr (inr (inr (inr (inl e))))) = other (id_frame 5) 5 refl e
        among (inr (inr (inr (inr (inr (inl e)))))) = other (id_frame 6) 6 refl e
        among (inr (inr (inr (inr (inr (inr (inl e))))))) = other (id_frame 7) 7 refl e
        among (inr (inr (inr (inr (inr (inr (inr none))))))) = none

pub retired_shows : IdsAreIssued retired_used → ⊥
retired_shows h = go (h Client 7 (ids_sent ∷ []) [] (second_sent server_id) refl wrong_sent)
  where
    go : IsIssued (first_id_of_peer retired_used Client) (came_in retired_used Client 7) (ids_sent ∷ []) (second_sent server_id) → ⊥
    go is = elim is.told [
      | inl first ↦ is.unretired (record { sent = second_sent server_id; among = inr (inl refl); carried = inl (ap (λ (n : ℕ). retire_connection_id n) first.0) })
      | inr told ↦ not_told is.number (subst (λ (ps : List Packet). WasToldId ps is.number server_id) wrong_taken told)
    ]

pub retired_is_honest : IsHonest retired_used
retired_is_honest = honest_steady retired_used (record { start = refl; keys = refl; client = (tt, (tt, (tt, (tt, (tt, (tt, (tt, tt))))))); server = (tt, (tt, (tt, (tt, (tt, (tt, (tt, tt))))))) })

-- the second byte of the second datagram
abbrev id_byte : List (List ℕ) → ℕ
id_byte [] = 1
id_byte (d ∷ []) = 1
id_byte (d ∷ e ∷ ds) = slice_index e 1

right_byte : id_byte (once_renamed 7).from_client ≡ 0
unfolding once_renamed
right_byte = refl

other_datagrams : retired_used.from_client ≡ (once_renamed 7).from_client → ⊥
other_datagrams e = let clash : ◌≡◌ {A = ℕ} 0x50 0 = ap id_byte e ∙ right_byte in omega (arith, clash)

not_retired : NeverEnds (λ w. retired_used.from_client ≡ w.from_client) both_steady renaming_events renaming_answers
not_retired = step_on refl client_tells (step_on refl server_tells (step_on refl client_takes (step_on refl client_uses (step_on refl client_gives (step_on refl server_takes (step_on refl server_drops (ends_here other_datagrams)))))))

pub retired_is_none : NeverGives retired_used
retired_is_none views end is = not_retired.never views end is.follows is.from_client

-- ---- a client that goes on using the id before the next one

old_sent : sents_until old_used Client 5 ≡ sents_until old_used Client 4 ++ acking_sent ∷ []
unfolding client_acked
old_sent = refl

old_taken : took old_used Client 4 ≡ ids_packet ∷ []
unfolding client_acked
old_taken = refl

next_asked : in_use old_used (λ n. false) Client 4 ≡ 1
unfolding client_acked
next_asked = refl

gave_old : GaveOne old_used Client 4 0
gave_old = record { transmit = record { size = 31; ecn = Some Ect0; remote = 0 }; poll = record { event = refl; answer = refl }; served = refl; sent = acking_sent; went = old_sent }

pub old_shows : IdsAreInUse old_used → ⊥
unfolding gave_old
old_shows h = go (h Client (λ n. false) 4 0 gave_old (client_tells_stays old_used (λ n. false)) refl)
  where
    go : IsToldId (first_id_of_peer old_used Client) (took old_used Client 4) (in_use old_used (λ n. false) Client 4) server_id → ⊥
    go (inl first) = let one = next_asked in let zero = first.0 in omega (arith, one, zero)
    go (inr told) = not_told (in_use old_used (λ n. false) Client 4) (subst (λ (ps : List Packet). WasToldId ps (in_use old_used (λ n. false) Client 4) server_id) old_taken told)

-- a datagram goes to this id, and doesn't retire number 0
abbrev Plain : List ℕ → Sent → Type 0
Plain id s = (s.id ≡ id) × (In (retire_connection_id 0) s.frames → ⊥)

abbrev ArePlain : List ℕ → List Sent → Type 0
ArePlain id ss = (s : Sent) → In s ss → Plain id s

in_middle : (before behind : List Sent) (s : Sent) → In s (before ++ s ∷ behind)
in_middle [] behind s = inl refl
in_middle (x ∷ xs) behind s = inr (in_middle xs behind s)

in_longer : (before behind : List Sent) (s t : Sent) → In t (before ++ s ∷ []) → In t (before ++ s ∷ behind)
in_longer [] behind s t (inl is) = inl is
in_longer [] behind s t (inr none) = absurd none
in_longer (x ∷ xs) behind s t (inl is) = inl is
in_longer (x ∷ xs) behind s t (inr i) = inr (in_longer xs behind s t i)

-- where all do, each went to the id with which the peer began
plain_is_issued : (id : List ℕ) (packets : List Packet) (before behind : List Sent) (s : Sent) → ArePlain id (before ++ s ∷ behind) → IsIssued id packets before s
plain_is_issued id packets before behind s all =
    record { number = 0; told = inl (refl, (all s (in_middle before behind s)).0); unretired = λ g. (all g.sent (in_longer before behind s g.sent g.among)).1 g.carried }

-- frames that tell ids retire none
ids_alone : In (retire_connection_id 0) id_frames → ⊥
ids_alone (inl e) = cc
ids_alone (inr (inl e)) = cc
ids_alone (inr (inr (inl e))) = cc
ids_alone (inr (inr (inr (inl e)))) = cc
ids_alone (inr (inr (inr (inr (inl e))))) = cc
ids_alone (inr (inr (inr (inr (inr (inl e)))))) = cc
ids_alone (inr (inr (inr (inr (inr (inr (inl e))))))) = cc
ids_alone (inr (inr (inr (inr (inr (inr (inr none))))))) = none

ack_alone : In (retire_connection_id 0) acking_sent.frames → ⊥
ack_alone (inl e) = cc
ack_alone (inr none) = none

first_plain : (id : List ℕ) → ArePlain id (record ids_sent { id = id } ∷ [])
first_plain id s (inl is) = subst (Plain id) (sym is) (refl, ids_alone)
first_plain id s (inr none) = absurd none

both_plain : ArePlain server_id (ids_sent ∷ acking_sent ∷ [])
both_plain s (inl is) = subst (Plain server_id) (sym is) (refl, ids_alone)
both_plain s (inr (inl is)) = subst (Plain server_id) (sym is) (refl, ack_alone)
both_plain s (inr (inr none)) = absurd none

-- so do all of both ends, wherever the run has come
old_plain : (side : Side) (i : ℕ) → ArePlain (first_id_of_peer old_used side) (sents_until old_used side i)
unfolding client_acked
old_plain Client zero = λ s i. absurd i
old_plain Client (suc zero) = first_plain server_id
old_plain Client (suc (suc zero)) = first_plain server_id
old_plain Client (suc (suc (suc zero))) = first_plain server_id
old_plain Client (suc (suc (suc (suc zero)))) = first_plain server_id
old_plain Client (suc (suc (suc (suc (suc zero))))) = both_plain
old_plain Client (suc (suc (suc (suc (suc (suc i)))))) = both_plain
old_plain Server zero = λ s i. absurd i
old_plain Server (suc zero) = λ s i. absurd i
old_plain Server (suc (suc zero)) = first_plain client_id
old_plain Server (suc (suc (suc zero))) = first_plain client_id
old_plain Server (suc (suc (suc (suc zero)))) = first_plain client_id
old_plain Server (suc (suc (suc (suc (suc zero))))) = first_plain client_id
old_plain Server (suc (suc (suc (suc (suc (suc i)))))) = first_plain client_id

pub old_is_issued : IdsAreIssued old_used
old_is_issued side i before behind s served is =
    plain_is_issued (first_id_of_peer old_used side) (came_in old_used side i) before behind s (subst (ArePlain (first_id_of_peer old_used side)) is (old_plain side i))

pub old_is_honest : IsHonest old_used
old_is_honest = honest_steady old_used (record { start = refl; keys = refl; client = (tt, (tt, (tt, (tt, (tt, tt))))); server = (tt, (tt, (tt, (tt, (tt, tt))))) })

-- the machine says that the id is retired
old_no : IsRefused (once_renamed 4) asks_datagram (gives_bytes 31)
unfolding once_renamed
old_no (inl e) = let clash : ◌≡◌ {A = ℕ} 31 33 = ap given_bytes e in omega (arith, clash)
old_no (inr e) = cc

pub old_is_none : IsNoRun old_used
old_is_none = behind refl client_tells (behind refl server_tells (behind refl client_takes (behind refl client_uses (stops _ _ _ _ _ old_no))))

-- ---- a server that forgets an id early

pub early_shows : UnknownOnlyWhereRetired forgets_early → ⊥
early_shows h = absurd (h Server 1 0 (record { now = 0; remote = 0; ecn = None; index = 0 }) (client_datagram 0 0 ids_payload) refl refl (record { event = refl; answer = refl }) refl (inl (refl, refl))).was_taken

pub early_is_honest : IsHonest forgets_early
early_is_honest = honest_steady forgets_early (record { start = refl; keys = refl; client = (tt, (tt, tt)); server = (tt, (tt, tt)) })

early_no : IsRefused (once_renamed 1) (delivers_at 0) (answers.Deliver (receives.Dropped drops.UnknownId))
unfolding once_renamed
early_no (inl e) = cc
early_no (inr e) = cc

pub early_is_none : IsNoRun forgets_early
early_is_none = behind refl client_tells (stops _ _ _ _ _ early_no)

-- ---- a server that issues two ids for one

two_shows : Shows two_issued Client 7 (Some (reasons.Transport (plain_error 9)))
two_shows = record { served = refl; view = record { client = closed_view (reasons.Transport (plain_error 9)); server = view_with (Some 26000000) None }; there = refl; is = refl }

pub two_blames : NoBlame two_issued → ⊥
two_blames h = h Client 7 (Some (reasons.Transport (plain_error 9))) two_shows

pub two_close : (received worked_policies.client (once_renamed 6).client (arriving 0 0 None false) (from_server 1 two_payload)).answer ≡ receives.Closed (plain_error 9)
unfolding once_renamed
two_close = refl

pub two_is_honest : IsHonest two_issued
two_is_honest = honest_steady two_issued (record { start = refl; keys = refl; client = (tt, (tt, (tt, (tt, (tt, (tt, (tt, (tt, tt)))))))); server = (tt, (tt, (tt, (tt, (tt, (tt, (tt, (tt, tt)))))))) })

-- the machine gives one
two_no : IsRefused (once_renamed 6) asks_server (gives_bytes 87)
unfolding once_renamed
two_no (inl e) = let clash : ◌≡◌ {A = ℕ} 87 59 = ap given_bytes e in omega (arith, clash)
two_no (inr e) = cc

pub two_is_none : IsNoRun two_issued
two_is_none = behind refl client_tells (behind refl server_tells (behind refl client_takes (behind refl client_uses (behind refl client_gives (behind refl server_takes (stops _ _ _ _ _ two_no))))))
