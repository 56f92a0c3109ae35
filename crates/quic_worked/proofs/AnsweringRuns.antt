-- What calls are answered that end or bring nothing, and what goes behind a close; and machines
-- that answer otherwise.
use Rattle.std.proofs.lemmas.Option.{same_Some}
use Rattle.std.proofs.Common.{◌≡◌, ℕ, ◌≤◌, ◌<◌, min, Bool, true, false, List, [], ◌∷◌, ◌++◌, Option, Some, None, Result, Ok, Err, refl, sym, ap, ◌∙◌, subst, inl, inr, lit<, lit≤, arith}
use Rattle.quic_wire_core.specs.declared.stream_id.Side.TheVariants.{Client, Server}
use Rattle.quic_wire_core.specs.declared.stream_id.Dir.TheVariants.{Bi}
use Rattle.quic_wire_core.specs.declared.shared.EcnCodepoint.TheVariants.{Ect0}
use Rattle.quic_wire.specs.Reading.{application_close_at}
use Rattle.quic_streams_parts.specs.declared.answers.FinishError.TheVariants as finish_errors
use Rattle.quic_streams_parts.specs.declared.answers.ReadError.TheVariants as read_errors
use Rattle.quic_streams_parts.specs.declared.answers.ReadableError.TheVariants as readable_errors
use Rattle.quic_streams_state.specs.Reading.{told_bytes, after_read_begun, next_answer}
use Rattle.quic_machine.specs.declared.answers.State.TheVariants as states
use Rattle.quic_machine.specs.declared.run.ReadCall.{ReadCall}
use Rattle.quic_machine.specs.declared.run.Call.TheVariants as calls
use Rattle.quic_machine.specs.declared.run.Answer.{Answer}
use Rattle.quic_machine.specs.declared.run.Answer.TheVariants as answers
use Rattle.quic_machine.specs.StreamCalls.{IsRead}
use Rattle.quic_machine.specs.Machine.{World, IsStep, view_of}
use Rattle.quic_headline.specs.Observer.{closes_of, sents_until, took}
use Rattle.quic_headline.specs.Headline.{IsHonest, IsRun}
use Rattle.quic_headline.specs.Polls.{GaveOne}
use Rattle.quic_headline.specs.Credit.{was_reset}
use Rattle.quic_headline.specs.Chunks.{AnswersEach, ReadsAnswer}
use Rattle.quic_headline.specs.Resets.{ResetsAreHeeded}
use Rattle.quic_headline.specs.Stopped.{StoppedOnlyWhereAsked, ClosedTakeNothing}
use Rattle.quic_headline.specs.Closes.{ClosesGoAlone}
use Rattle.quic_headline.specs.SendAnswers.{longest_at, SendsAreLet}
use Rattle.quic_messages.specs.declared.errors.SendDatagramError.TheVariants.{TooLarge}
use Rattle.quic_headline.proofs.Halves.Nexts.{reads_answer}
use Rattle.quic_headline.proofs.Unread.Heeded.{resets_are_heeded}
use Rattle.quic_headline.proofs.Amounts.Stopped.{stopped_only_where_asked}
use Rattle.quic_headline.proofs.Amounts.Closed.{closed_take_nothing}
use Rattle.quic_headline.proofs.Causes.OnlyCloses.{closes_go_alone}
use Rattle.quic_headline.proofs.Messages.Let.{sends_are_let}
use Rattle.quic_worked.specs.Worked.{NextAnswers, ReadsBy, worked_policies, started, once_opened, opens_stream, asks_datagram, gives_bytes, server_open}
use Rattle.quic_worked.specs.Acknowledged.{client_acked}
use Rattle.quic_worked.specs.Broken.{IsNoRun}
use Rattle.quic_worked.specs.Reordered.{abc, def}
use Rattle.quic_worked.specs.Picked.{Picks, picks_at, picked_bounds, picked_run, picked_twice}
use Rattle.quic_worked.specs.Paired.{ReadsSecond, second_bounds, asks_reset, pair_taken, both_accepted, reset_refused, paired_run}
use Rattle.quic_worked.specs.Messages.{ping_message, sends_message, too_large, message_run, message_end}
use Rattle.quic_worked.specs.Renamed.{ids_sent}
use Rattle.quic_worked.specs.Ended.{once_closed, closing_view, closing_run}
use Rattle.quic_worked.specs.Answering.{reads_as, no_byte, reads_refused, reset_denied, stopped_by_none, opens_behind, opened_none, once_none, ids_for_close, short_refused}
use Rattle.quic_worked.proofs.Codes.{AllSmall, small_codes}
use Rattle.quic_worked.proofs.OwnIds.{honest, honest_steady}
use Rattle.quic_worked.proofs.BrokenRuns.{IsRefused, stops, behind, read_of, not_next}
use Rattle.quic_worked.proofs.MessageRuns.{given_bytes, message_is_run, message_is_honest}
use Rattle.quic_worked.proofs.RepeatedRuns.{alone_closes}
use Rattle.quic_worked.proofs.WorkedRun.{opens}
use Rattle.quic_worked.proofs.PairedRun as paired
use Rattle.quic_worked.proofs.PairedMachines.{is_honest, behind_given}
use Rattle.quic_worked.proofs.PickedRun as picked
use Rattle.quic_worked.proofs.EndedRuns.{closes, closed_seen, closing_is_run, closing_is_honest}
use Rattle.quic_worked.proofs.Steps.{counts_so}

-- ---- reads

pub first_answered : AnswersEach picked_bounds (picks_at 3 def)
first_answered = ((lit≤ tt, lit≤ tt), (tt, tt))

pub second_answered : AnswersEach picked_bounds (picks_at 0 abc)
second_answered = ((lit≤ tt, lit≤ tt), (tt, tt))

pub reads_right : (first second : ReadCall) → Picks first → Picks second → ReadsAnswer (picked_run first second)
reads_right first second one two = reads_answer (picked_run first second) picked_twice (picked.is_honest (picks_at 3 def) (picks_at 0 abc) first second one.id two.id) (picked.is_run first second one two)

-- what a read of a new stream is answered
answered_each : (read : ReadCall) (said : NextAnswers) → ReadsBy (32 ∷ []) read → ReadsAnswer (reads_as read said) → AnswersEach (32 ∷ []) said
answered_each read said by h = subst (λ (ms : List ℕ). AnswersEach ms said) by.bounds (h.each Client 1 read said refl (record { event = refl; answer = refl }))

pub none_shows : (read : ReadCall) → ReadsBy (32 ∷ []) read → ReadsAnswer (reads_as read []) → ⊥
none_shows read by h = answered_each read [] by h

pub empty_shows : (read : ReadCall) → ReadsBy (32 ∷ []) read → ReadsAnswer (reads_as read no_byte) → ⊥
empty_shows read by h = let few : 1 ≤ 0 = (answered_each read no_byte by h).0.0 in omega (arith, few)

pub refused_shows : (read : ReadCall) → ReadsBy (32 ∷ []) read → ReadsAnswer (reads_refused read) → ⊥
refused_shows read by h = let clash : true ≡ false = (h.refused Client 1 read refl (record { event = refl; answer = refl })).1 in cc

pub reads_honest : (read : ReadCall) (said : NextAnswers) → ReadsBy (32 ∷ []) read → IsHonest (reads_as read said)
reads_honest read said by = honest (reads_as read said) (record { start = refl; keys = refl; client = (tt, (inl by.id, tt)); server = (tt, (tt, tt)) })

pub refused_honest : (read : ReadCall) → ReadsBy (32 ∷ []) read → IsHonest (reads_refused read)
refused_honest read by = honest (reads_refused read) (record { start = refl; keys = refl; client = (tt, (inl by.id, tt)); server = (tt, (tt, tt)) })

-- the machine answers that no byte came yet
new_blocked : next_answer told_bytes (after_read_begun once_opened.client.streams 0 true) 0 32 ≡ Err read_errors.Blocked
new_blocked = refl

none_no : (read : ReadCall) → ReadsBy (32 ∷ []) read → IsRefused once_opened (record { side = Client; call = calls.Read read }) (answers.Read (Ok []))
none_no read by h = (read_of once_opened.client.streams 0 true (32 ∷ []) (answers.Read (Ok [])) read by h).1

byte_no : IsRead once_opened.client.streams 0 true (32 ∷ []) (answers.Read (Ok no_byte)) → ⊥
byte_no h = not_next (Ok (Some (record { offset = 0; bytes = [] }))) (next_answer told_bytes (after_read_begun once_opened.client.streams 0 true) 0 32) (Err read_errors.Blocked) new_blocked (λ e. cc) (λ e. cc) h.1.0

empty_no : (read : ReadCall) → ReadsBy (32 ∷ []) read → IsRefused once_opened (record { side = Client; call = calls.Read read }) (answers.Read (Ok no_byte))
empty_no read by h = byte_no (read_of once_opened.client.streams 0 true (32 ∷ []) (answers.Read (Ok no_byte)) read by h)

refused_no : (read : ReadCall) → ReadsBy (32 ∷ []) read → IsRefused once_opened (record { side = Client; call = calls.Read read }) (answers.Read (Err readable_errors.IllegalOrderedRead))
refused_no read by h = elim (read_of once_opened.client.streams 0 true (32 ∷ []) (answers.Read (Err readable_errors.IllegalOrderedRead)) read by h) [ inl e ↦ cc | inr e ↦ cc ]

pub none_is_none : (read : ReadCall) → ReadsBy (32 ∷ []) read → IsNoRun (reads_as read [])
none_is_none read by = behind refl opens (stops _ _ _ _ _ (none_no read by))

pub empty_is_none : (read : ReadCall) → ReadsBy (32 ∷ []) read → IsNoRun (reads_as read no_byte)
empty_is_none read by = behind refl opens (stops _ _ _ _ _ (empty_no read by))

pub refused_is_none : (read : ReadCall) → ReadsBy (32 ∷ []) read → IsNoRun (reads_refused read)
refused_is_none read by = behind refl opens (stops _ _ _ _ _ (refused_no read by))

-- ---- resets

pub reset_came : (read : ReadCall) → was_reset 0 (took (paired_run read) Server 9) ≡ true
unfolding pair_taken
reset_came read = refl

came_too : (read : ReadCall) → was_reset 0 (took (reset_denied read) Server 9) ≡ true
unfolding pair_taken
came_too read = refl

pub resets_right : (read : ReadCall) → ReadsSecond second_bounds read → ResetsAreHeeded (paired_run read)
resets_right read by = resets_are_heeded (paired_run read) reset_refused (is_honest read by.id) (paired.is_run read by)

pub denied_shows : (read : ReadCall) → ResetsAreHeeded (reset_denied read) → ⊥
denied_shows read h = let clash : false ≡ true = sym (h.asked Server 9 0 refl (record { event = refl; answer = refl })) ∙ came_too read in cc

pub denied_honest : (read : ReadCall) → IsHonest (reset_denied read)
denied_honest read = honest_steady (reset_denied read) (record { start = refl; keys = refl; client = (tt, (tt, (inl refl, (inr (inl refl), (inl refl, (tt, (tt, (tt, (tt, (tt, tt)))))))))); server = (tt, (tt, (tt, (tt, (tt, (tt, (tt, (tt, (tt, (inl refl, tt)))))))))) })

denied_no : IsRefused both_accepted asks_reset (answers.ReceivedReset (Ok None))
denied_no is = let clash : answers.ReceivedReset (Ok None) ≡ answers.ReceivedReset (Ok (Some 7)) = is ∙ sym paired.tells_reset.answer in cc

pub denied_is_none : (read : ReadCall) → IsNoRun (reset_denied read)
denied_is_none read = behind_given (behind refl paired.takes (behind refl paired.accepts_first (behind refl paired.accepts_both (stops _ _ _ _ _ denied_no))))

-- ---- stops

pub stops_right : (read : ReadCall) → ReadsSecond second_bounds read → StoppedOnlyWhereAsked (paired_run read)
stops_right read by = stopped_only_where_asked (paired_run read) reset_refused (is_honest read by.id) (paired.is_run read by)

pub needless_shows : StoppedOnlyWhereAsked stopped_by_none → ⊥
needless_shows h = let clash : false ≡ true = h Client 1 0 (calls.Finish 0) (answers.Finish (Err (finish_errors.Stopped 7))) refl refl (record { event = refl; answer = refl }) refl in cc

pub needless_honest : IsHonest stopped_by_none
needless_honest = honest stopped_by_none (record { start = refl; keys = refl; client = (tt, (inl refl, tt)); server = (tt, (tt, tt)) })

needless_no : IsRefused once_opened (record { side = Client; call = calls.Finish 0 }) (answers.Finish (Err (finish_errors.Stopped 7)))
needless_no (inl e) = cc
needless_no (inr e) = cc

pub needless_is_none : IsNoRun stopped_by_none
needless_is_none = behind refl opens (stops _ _ _ _ _ needless_no)

-- ---- calls behind a close

-- its code is the only one
behind_codes : AllSmall opened_none.events
behind_codes = (lit< tt, (tt, tt))

opens_none : IsStep worked_policies (once_closed 1) opens_stream (answers.Open None) once_none
unfolding once_closed
opens_none = record { answer = refl; end = refl; control = refl; heard = counts_so worked_policies (once_closed 1) opens_stream (answers.Open None); openings = tt; others = refl; lacking = tt }

none_seen : record { client = closing_view; server = server_open } ≡ view_of once_none
unfolding once_closed
none_seen = refl

gave_none : opened_none.from_client ≡ once_none.from_client
unfolding once_closed
gave_none = refl

gave_none_back : opened_none.from_server ≡ once_none.from_server
unfolding once_closed
gave_none_back = refl

pub behind_is_run : IsRun opened_none once_none
behind_is_run = record {
  codes = small_codes opened_none.events behind_codes;
  follows = (once_closed 1, closes, closed_seen, (once_none, opens_none, none_seen, refl));
  from_client = gave_none;
  from_server = gave_none_back;
}

pub behind_honest : IsHonest opened_none
behind_honest = honest opened_none (record { start = refl; keys = refl; client = (tt, (tt, tt)); server = (tt, (tt, tt)) })

pub one_honest : IsHonest (opens_behind (answers.Open (Some 0)))
one_honest = honest (opens_behind (answers.Open (Some 0))) (record { start = refl; keys = refl; client = (tt, (tt, tt)); server = (tt, (tt, tt)) })

pub behind_right : ClosedTakeNothing opened_none
behind_right = closed_take_nothing opened_none once_none behind_honest behind_is_run

-- a closing end isn't open
not_open : states.Closing ≡ states.Open → ⊥
not_open is = cc

pub one_shows : ClosedTakeNothing (opens_behind (answers.Open (Some 0))) → ⊥
one_shows h = let clash : true ≡ false = h Client 1 (calls.Open Bi) (answers.Open (Some 0)) refl not_open (record { event = refl; answer = refl }) in cc

one_no : IsRefused (once_closed 1) opens_stream (answers.Open (Some 0))
one_no is = let clash : answers.Open (Some 0) ≡ answers.Open None = is ∙ sym opens_none.answer in cc

pub one_is_none : IsNoRun (opens_behind (answers.Open (Some 0)))
one_is_none = behind refl closes (stops _ _ _ _ _ one_no)

-- ---- what goes behind a close

pub close_right : ClosesGoAlone closing_run
close_right = closes_go_alone closing_run (once_closed 3) closing_is_honest closing_is_run

ids_went : sents_until ids_for_close Client 2 ≡ sents_until ids_for_close Client 1 ++ ids_sent ∷ []
unfolding client_acked application_close_at
ids_went = refl

gave_ids : GaveOne ids_for_close Client 1 0
gave_ids = record { transmit = record { size = 222; ecn = Some Ect0; remote = 0 }; poll = record { event = refl; answer = refl }; served = refl; sent = ids_sent; went = ids_went }

pub ids_show : ClosesGoAlone ids_for_close → ⊥
unfolding gave_ids
ids_show h = let clash : false ≡ true = alone_closes ids_sent (h Client 1 0 gave_ids not_open) in cc

pub ids_honest : IsHonest ids_for_close
ids_honest = honest ids_for_close (record { start = refl; keys = refl; client = (tt, (tt, tt)); server = (tt, (tt, tt)) })

ids_no : IsRefused (once_closed 1) asks_datagram (gives_bytes 222)
unfolding once_closed
ids_no (inl e) = let clash : ◌≡◌ {A = ℕ} 222 29 = ap given_bytes e in omega (arith, clash)
ids_no (inr e) = cc

pub ids_is_none : IsNoRun ids_for_close
ids_is_none = behind refl closes (stops _ _ _ _ _ ids_no)

-- ---- messages

pub sends_right : SendsAreLet message_run
sends_right = sends_are_let message_run message_end message_is_honest message_is_run

short_longest : longest_at short_refused Client 0 ≡ Some 1162
short_longest = refl

pub short_shows : SendsAreLet short_refused → ⊥
short_shows h =
    let why = h.refused Client 0 ping_message false TooLarge refl refl (record { event = refl; answer = refl }) in
    let most : 1162 ≡ why.0 = same_Some 1162 why.0 (sym short_longest ∙ why.1) in
    let few : why.0 < 4 = why.2 in
    omega (arith, most, few)

pub short_honest : IsHonest short_refused
short_honest = honest short_refused (record { start = refl; keys = refl; client = (tt, tt); server = (tt, tt) })

short_no : IsRefused started (sends_message ping_message) too_large
short_no (inl e) = cc
short_no (inr e) = cc

pub short_is_none : IsNoRun short_refused
short_is_none = stops _ _ _ _ _ short_no
