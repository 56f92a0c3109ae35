-- What is wanted of an end in worked runs, and machines that give a datagram in which nothing
-- waited.
use Rattle.std.proofs.Common.{◌≡◌, ◌≤◌, true, false, List, [], ◌∷◌, ◌++◌, Some, None, refl, inl, inr, ap, ◌∙◌, arith}
use Rattle.std.specs.List.{list_any}
use Rattle.std.proofs.lemmas.Bool.{both_ways}
use Rattle.quic_wire_core.specs.declared.stream_id.Side.{Side}
use Rattle.quic_wire_core.specs.declared.stream_id.Side.TheVariants.{Client, Server}
use Rattle.quic_wire_core.specs.declared.shared.EcnCodepoint.TheVariants.{Ect0}
use Rattle.quic_wire.specs.Value.{ping, max_data, padding, path_challenge, path_response, FrameValue}
use Rattle.quic_machine.specs.declared.run.ReadCall.{ReadCall}
use Rattle.quic_headline.specs.Observer.{Sent, is_close, closes_of, watch, sents_until}
use Rattle.quic_headline.specs.Headline.{IsHonest}
use Rattle.quic_headline.specs.InFlight.{is_max_data}
use Rattle.quic_headline.specs.Polls.{GaveOne}
use Rattle.quic_headline.specs.Waited.{wants, wants_ack, stands, is_path_challenge, is_path_response, as_size_probe, as_loss_probe, as_ack, as_frames, as_close, IsCloseAlone, EachWaited}
use Rattle.quic_worked.specs.Worked.{asks_datagram, gives_bytes, gives_unmarked, id_word}
use Rattle.quic_worked.specs.Acknowledged.{client_acked}
use Rattle.quic_worked.specs.Paired.{asks_server}
use Rattle.quic_worked.specs.Broken.{IsNoRun}
use Rattle.quic_worked.specs.Credit.{ReadsEight}
use Rattle.quic_worked.specs.Hasty.{hasty_run, once_hasty}
use Rattle.quic_worked.specs.Limited.{limited_run, limited_given, limited_heard}
use Rattle.quic_worked.specs.Repeated.{ping_again, second_ping, ack_again, second_ack, limit_again, second_limit, challenge_again, second_challenge, response_again, last_response}
use Rattle.quic_worked.specs.Unvalidated.{far_run, once_answered, answered_run}
use Rattle.quic_worked.proofs.OwnIds.{AreOwn, own_ids}
use Rattle.quic_worked.proofs.BrokenRuns.{IsRefused, stops, behind}
use Rattle.quic_worked.proofs.WorkedHonest.{are_started}
use Rattle.quic_worked.proofs.WorkedKeys.{are_keys}
use Rattle.quic_worked.proofs.HastyRun.{step_0, step_1, step_2, step_3, step_4, step_5, step_6}
use Rattle.quic_worked.proofs.LimitedRun.{limited_started, opens, opens_both, writes_first, writes_second, blocks, gives, takes, accepts, reads, raises}
use Rattle.quic_worked.proofs.UnvalidatedRun as far
use Rattle.quic_worked.proofs.AnsweredRun.{hears, responds, none_asked_anew}
use Rattle.std.specs.Prelude.{Bool, ◌||◌, replicate}

-- ---- what is wanted

pub ping_asked : (wants hasty_run Client 1).pinged ≡ true
ping_asked = refl

pub ping_gone : (wants hasty_run Client 2).pinged ≡ false
unfolding client_acked
ping_gone = refl

pub none_came : wants_ack hasty_run Server 4 ≡ false
unfolding client_acked
none_came = refl

pub both_came : wants_ack hasty_run Server 6 ≡ true
unfolding client_acked
both_came = refl

pub both_named : wants_ack hasty_run Server 7 ≡ false
unfolding client_acked
both_named = refl

pub limit_unsaid : (read : ReadCall) → stands is_max_data (wants (limited_run read) Server 9).since ≡ false
unfolding limited_heard
limit_unsaid read = refl

pub limit_said : (read : ReadCall) → stands is_max_data (wants (limited_run read) Server 10).since ≡ true
unfolding limited_heard
limit_said read = refl

pub not_challenged : stands is_path_challenge (wants far_run Server 4).since ≡ false
unfolding client_acked
not_challenged = refl

pub then_challenged : stands is_path_challenge (wants far_run Server 5).since ≡ true
unfolding client_acked
then_challenged = refl

pub not_answered : stands is_path_response (wants answered_run Client 6).since ≡ false
unfolding client_acked
not_answered = refl

pub then_answered : stands is_path_response (wants answered_run Client 7).since ≡ true
unfolding client_acked
then_answered = refl

-- ---- closes

-- what has a close alone closes
pub alone_closes : (s : Sent) → IsCloseAlone s → closes_of s ≡ true
alone_closes s c = ap (list_any is_close) c.alone ∙ ap (λ (b : Bool). b || list_any is_close (replicate c.zeros padding)) c.is

-- ---- PING again

pinged_twice : sents_until ping_again Client 3 ≡ sents_until ping_again Client 2 ++ second_ping ∷ []
unfolding client_acked
pinged_twice = refl

ping_unasked : ((wants ping_again Client 2).pinged || (wants ping_again Client 2).probed) ≡ false
unfolding client_acked
ping_unasked = refl

no_probe_of_client : (watch ping_again Client 2).flight.probes ≡ 0
unfolding client_acked
no_probe_of_client = refl

gave_ping : GaveOne ping_again Client 2 0
gave_ping = record { transmit = record { size = 29; ecn = Some Ect0; remote = 0 }; poll = record { event = refl; answer = refl }; served = refl; sent = second_ping; went = pinged_twice }

pub ping_shows : EachWaited ping_again → ⊥
unfolding gave_ping
ping_shows h = elim (h Client 2 0 gave_ping) [
  | as_size_probe probe ↦ (let above : 1200 ≤ 29 = probe.above in absurd (omega (arith, above)))
  | as_loss_probe waits ↦ (let none = no_probe_of_client in absurd (omega (arith, waits, none)))
  | as_ack none frames wanted ↦ (let clash : true ≡ false = none in cc)
  | as_frames asks each ↦ both_ways ((wants ping_again Client 2).pinged || (wants ping_again Client 2).probed) ping_unasked (each ping (inl refl))
  | as_close closes ↦ (let clash : false ≡ true = alone_closes second_ping closes in cc)
]

ping_own : (side : Side) → AreOwn side [] ping_again.events ping_again.answers ping_again.views
ping_own Client = (tt, (tt, (tt, tt)))
ping_own Server = (tt, (tt, (tt, tt)))

pub ping_is_honest : IsHonest ping_again
ping_is_honest = record { start = are_started; keys = are_keys; ids = own_ids ping_again ping_own }

ping_no : IsRefused (once_hasty 2) asks_datagram (gives_bytes 29)
unfolding once_hasty
ping_no (inl e) = cc
ping_no (inr e) = cc

pub ping_is_none : IsNoRun ping_again
ping_is_none = behind refl step_0 (behind refl step_1 (stops _ _ _ _ _ ping_no))

-- ---- ACK again

acked_twice : sents_until ack_again Server 8 ≡ sents_until ack_again Server 7 ++ second_ack ∷ []
unfolding client_acked
acked_twice = refl

ack_unwanted : wants_ack ack_again Server 7 ≡ false
unfolding client_acked
ack_unwanted = refl

no_probe_of_server : (watch ack_again Server 7).flight.probes ≡ 0
unfolding client_acked
no_probe_of_server = refl

gave_ack : GaveOne ack_again Server 7 0
gave_ack = record { transmit = record { size = 31; ecn = Some Ect0; remote = 0 }; poll = record { event = refl; answer = refl }; served = refl; sent = second_ack; went = acked_twice }

pub ack_shows : EachWaited ack_again → ⊥
unfolding gave_ack
ack_shows h = elim (h Server 7 0 gave_ack) [
  | as_size_probe probe ↦ (let above : 1200 ≤ 31 = probe.above in absurd (omega (arith, above)))
  | as_loss_probe waits ↦ (let none = no_probe_of_server in absurd (omega (arith, waits, none)))
  | as_ack none frames wanted ↦ both_ways (wants_ack ack_again Server 7) ack_unwanted wanted
  | as_frames asks each ↦ (let clash : false ≡ true = asks in cc)
  | as_close closes ↦ (let clash : false ≡ true = alone_closes second_ack closes in cc)
]

ack_own : (side : Side) → AreOwn side [] ack_again.events ack_again.answers ack_again.views
ack_own Client = (tt, (tt, (tt, (tt, (tt, (tt, (tt, (tt, tt))))))))
ack_own Server = (tt, (tt, (tt, (tt, (tt, (tt, (tt, (tt, tt))))))))

pub ack_is_honest : IsHonest ack_again
ack_is_honest = record { start = are_started; keys = are_keys; ids = own_ids ack_again ack_own }

ack_no : IsRefused (once_hasty 7) asks_server (gives_bytes 31)
unfolding once_hasty
ack_no (inl e) = cc
ack_no (inr e) = cc

pub ack_is_none : IsNoRun ack_again
ack_is_none = behind refl step_0 (behind refl step_1 (behind refl step_2 (behind refl step_3 (behind refl step_4 (behind refl step_5 (behind refl step_6 (stops _ _ _ _ _ ack_no)))))))

-- ---- MAX_DATA again

limited_twice : (read : ReadCall) → sents_until (limit_again read) Server 11 ≡ sents_until (limit_again read) Server 10 ++ second_limit ∷ []
unfolding limited_heard
limited_twice read = refl

limit_was_said : (read : ReadCall) → stands is_max_data (wants (limit_again read) Server 10).since ≡ true
unfolding limited_heard
limit_was_said read = refl

no_probe_of_limit : (read : ReadCall) → (watch (limit_again read) Server 10).flight.probes ≡ 0
unfolding limited_heard
no_probe_of_limit read = refl

gave_limit : (read : ReadCall) → GaveOne (limit_again read) Server 10 0
gave_limit read = record { transmit = record { size = 36; ecn = Some Ect0; remote = 0 }; poll = record { event = refl; answer = refl }; served = refl; sent = second_limit; went = limited_twice read }

pub limit_shows : (read : ReadCall) → EachWaited (limit_again read) → ⊥
unfolding gave_limit
limit_shows read h = elim (h Server 10 0 (gave_limit read)) [
  | as_size_probe probe ↦ (let above : 1200 ≤ 36 = probe.above in absurd (omega (arith, above)))
  | as_loss_probe waits ↦ (let none = no_probe_of_limit read in absurd (omega (arith, waits, none)))
  | as_ack none frames wanted ↦ (let clash : true ≡ false = none in cc)
  | as_frames asks each ↦ both_ways (stands is_max_data (wants (limit_again read) Server 10).since) (each (max_data 13) (inl refl)) (limit_was_said read)
  | as_close closes ↦ (let clash : false ≡ true = alone_closes second_limit closes in cc)
]

limit_own : (read : ReadCall) → read.id ≡ 0 → (side : Side) → AreOwn side [] (limit_again read).events (limit_again read).answers (limit_again read).views
limit_own read is Client = (tt, (tt, (inl refl, (inr (inl refl), (inr (inl refl), (tt, (tt, (tt, (tt, (tt, (tt, tt)))))))))))
limit_own read is Server = (tt, (tt, (tt, (tt, (tt, (tt, (tt, (tt, (inl is, (tt, (tt, tt)))))))))))

pub limit_is_honest : (read : ReadCall) → read.id ≡ 0 → IsHonest (limit_again read)
limit_is_honest read is = record { start = limited_started; keys = are_keys; ids = own_ids (limit_again read) (limit_own read is) }

limit_no : IsRefused limited_given asks_server (gives_bytes 36)
unfolding limited_given
limit_no (inl e) = cc
limit_no (inr e) = cc

pub limit_is_none : (read : ReadCall) → ReadsEight read → IsNoRun (limit_again read)
limit_is_none read by =
    behind refl opens (behind refl opens_both (behind refl writes_first (behind refl writes_second (behind refl blocks (behind refl gives (behind refl takes (behind refl accepts (behind refl (reads read by) (behind refl raises (stops _ _ _ _ _ limit_no))))))))))

-- ---- PATH_CHALLENGE again

challenged_twice : sents_until challenge_again Server 6 ≡ sents_until challenge_again Server 5 ++ second_challenge ∷ []
unfolding client_acked
challenged_twice = refl

challenge_was_said : stands is_path_challenge (wants challenge_again Server 5).since ≡ true
unfolding client_acked
challenge_was_said = refl

no_probe_of_challenge : (watch challenge_again Server 5).flight.probes ≡ 0
unfolding client_acked
no_probe_of_challenge = refl

gave_challenge : GaveOne challenge_again Server 5 0
gave_challenge = record { transmit = record { size = 1200; ecn = Some Ect0; remote = 0 }; poll = record { event = refl; answer = refl }; served = refl; sent = second_challenge; went = challenged_twice }

pub challenge_shows : EachWaited challenge_again → ⊥
unfolding gave_challenge
challenge_shows h = elim (h Server 5 0 gave_challenge) [
  | as_size_probe probe ↦ (let clash : false ≡ true = probe.validated in cc)
  | as_loss_probe waits ↦ (let none = no_probe_of_challenge in absurd (omega (arith, waits, none)))
  | as_ack none frames wanted ↦ (let clash : true ≡ false = none in cc)
  | as_frames asks each ↦ both_ways (stands is_path_challenge (wants challenge_again Server 5).since) (each (path_challenge id_word) (inl refl)) challenge_was_said
  | as_close closes ↦ (let clash : false ≡ true = alone_closes second_challenge closes in cc)
]

challenge_own : (side : Side) → AreOwn side [] challenge_again.events challenge_again.answers challenge_again.views
challenge_own Client = (tt, (inl refl, (tt, (tt, (tt, (tt, tt))))))
challenge_own Server = (tt, (tt, (tt, (tt, (tt, (tt, tt))))))

pub challenge_is_honest : IsHonest challenge_again
challenge_is_honest = record { start = far.far_started; keys = are_keys; ids = own_ids challenge_again challenge_own }

pub challenge_is_none : IsNoRun challenge_again
challenge_is_none = behind refl far.opens (behind refl far.writes (behind refl far.gives (behind refl far.takes (behind refl far.asks_back (stops _ _ _ _ _ none_asked_anew)))))

-- ---- PATH_RESPONSE again

-- whether PING is the first of frames
abbrev leads_with_ping : List FrameValue → Bool
leads_with_ping [] = false
leads_with_ping (ping ∷ fs) = true
leads_with_ping (f ∷ fs) = false

answered_twice : sents_until response_again Client 8 ≡ sents_until response_again Client 7 ++ last_response ∷ []
unfolding client_acked
answered_twice = refl

response_was_said : stands is_path_response (wants response_again Client 7).since ≡ true
unfolding client_acked
response_was_said = refl

no_probe_of_response : (watch response_again Client 7).flight.probes ≡ 0
unfolding client_acked
no_probe_of_response = refl

gave_response : GaveOne response_again Client 7 0
gave_response = record { transmit = record { size = 1200; ecn = None; remote = 0 }; poll = record { event = refl; answer = refl }; served = refl; sent = last_response; went = answered_twice }

pub response_shows : EachWaited response_again → ⊥
unfolding gave_response
response_shows h = elim (h Client 7 0 gave_response) [
  | as_size_probe probe ↦ (let clash : false ≡ true = ap leads_with_ping probe.alone in cc)
  | as_loss_probe waits ↦ (let none = no_probe_of_response in absurd (omega (arith, waits, none)))
  | as_ack none frames wanted ↦ (let clash : true ≡ false = none in cc)
  | as_frames asks each ↦ both_ways (stands is_path_response (wants response_again Client 7).since) (each (path_response id_word) (inl refl)) response_was_said
  | as_close closes ↦ (let clash : false ≡ true = alone_closes last_response closes in cc)
]

response_own : (side : Side) → AreOwn side [] response_again.events response_again.answers response_again.views
response_own Client = (tt, (inl refl, (tt, (tt, (tt, (tt, (tt, (tt, tt))))))))
response_own Server = (tt, (tt, (tt, (tt, (tt, (tt, (tt, (tt, tt))))))))

pub response_is_honest : IsHonest response_again
response_is_honest = record { start = far.far_started; keys = are_keys; ids = own_ids response_again response_own }

response_no : IsRefused (once_answered 2) asks_datagram (gives_unmarked 1200)
unfolding once_answered
response_no (inl e) = cc
response_no (inr e) = cc

pub response_is_none : IsNoRun response_again
response_is_none = behind refl far.opens (behind refl far.writes (behind refl far.gives (behind refl far.takes (behind refl far.asks_back (behind refl hears (behind refl responds (stops _ _ _ _ _ response_no)))))))
