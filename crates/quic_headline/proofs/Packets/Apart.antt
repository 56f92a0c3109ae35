-- A frame apart from streams leaves what is to be acknowledged, but for how often and whether at
-- once; what the next id of the peer leaves, and a moment at an end that is closing.
use Rattle.std.proofs.Common.{◌≡◌, ℕ, Bool, true, false, ◌||◌, nat_lt, length, max, Option, Some, None, Result, Ok, Err, refl, sym, ap, ◌∙◌}
use Rattle.std.proofs.Math.Bool.{or-false}
use Rattle.std.proofs.lemmas.Bool.{or_left, or_right}
use Rattle.std.specs.declared.ops.Range.{Range}
use Rattle.quic_wire_core.specs.TransportError.{ErrorValue}
use Rattle.quic_wire_core.specs.declared.stream_id.Side.{Side}
use Rattle.quic_wire_core.specs.declared.stream_id.Side.TheVariants.{Client, Server}
use Rattle.quic_wire.specs.Value.{FrameValue, ack, stream, reset_stream, stop_sending, max_data, max_stream_data, max_streams, datagram, path_response, handshake_done, new_connection_id, retire_connection_id, immediate_ack, AckFrequencyValue, ack_frequency}
use Rattle.quic_ids.specs.CidState.{retirement_answer}
use Rattle.quic_ids.specs.CidQueue.{insert_answer}
use Rattle.quic_ids.specs.declared.cid_queue.InsertError.{InsertError}
use Rattle.quic_ids.specs.declared.cid_queue.InsertError.TheVariants as inserts
use Rattle.quic_paths.specs.Paths.{is_asked}
use Rattle.quic_retransmits.specs.Retransmits.{can_retire, after_retire}
use Rattle.quic_messages.specs.Messages.{without_longer}
use Rattle.quic_time.specs.Timers.{no_timers}
use Rattle.quic_machine.specs.declared.run.Answer.{Answer}
use Rattle.quic_machine.specs.declared.run.Answer.TheVariants as answers
use Rattle.quic_machine.specs.MessageCalls.{most_message}
use Rattle.quic_machine.specs.Sizes.{without_longer_if, shortened}
use Rattle.quic_machine.specs.Closing.{drained}
use Rattle.quic_machine.specs.Timeouts.{close_expired}
use Rattle.quic_machine.specs.Ids.{destination, frame_of, retires_for, retired, retires_for_next, next_used}
use Rattle.quic_machine.specs.IdFrames.{retiring, with_taken_up, issued_if, issues_for, next_id_taken, end_on_next_id}
use Rattle.quic_machine.specs.Validation.{word_of, validated_if}
use Rattle.quic_machine.specs.Parts.{Confirmation, heard_done}
use Rattle.quic_machine.specs.End.{End, side_of, with_ids, with_confirmation, with_queued}
use Rattle.quic_machine.specs.FrameCases.{IsApart, Apart, with_apart, ids_changed}
use Rattle.quic_machine.specs.Receive.{retired_for, id_judged, retirement_judged, take_frame, asks_too_soon, frequency_judged, done_taken}
use Rattle.quic_recovery_core.specs.PendingAcks.{Pending}
use Rattle.quic_recovery_core.specs.declared.ack_frequency.Request.{Request}
use Rattle.quic_recovery_core.specs.AckFrequency.{Frequency, micros, asked, longest_delay, is_stale}
use Rattle.quic_headline.specs.AcksDue.{is_immediate_ack}

-- so do messages that are dropped
lasts_acks : (o : Option ℕ) (e : End) → (without_longer_if o e).acknowledging ≡ e.acknowledging
lasts_acks None e = refl
lasts_acks (Some most) e = refl

pub shortened_acks : (b : Bool) (e : End) → (shortened b e).acknowledging ≡ e.acknowledging
shortened_acks true e = lasts_acks (most_message e) e
shortened_acks false e = refl

-- what holds however an end is asked to acknowledge, holds behind an ACK_FREQUENCY frame, taken or
-- refused
pub by_frequency : (P : End → Type 0) (f : AckFrequencyValue) (e : End) → ((threshold reordering : ℕ) (frequency : Frequency) → P (record e { acknowledging = record e.acknowledging { threshold = threshold; reordering = reordering }; frequency = frequency }))
    → P (take_frame (ack_frequency f) e).end
by_frequency P f e each = go (is_stale e.frequency.last f.sequence) (asks_too_soon f)
  where
    go : (stale soon : Bool) → P (frequency_judged stale soon f e).end
    go true soon = each e.acknowledging.threshold e.acknowledging.reordering e.frequency
    go false true = each e.acknowledging.threshold e.acknowledging.reordering (record e.frequency { last = Some f.sequence })
    go false false = each f.threshold f.reordering (record e.frequency { last = Some f.sequence; own_delay = micros f.delay })

-- what holds of an end, however its handshake is confirmed, holds behind HANDSHAKE_DONE, taken or
-- refused
pub by_heard_done : (P : End → Type 0) (e : End) → P e → ((c : Confirmation) → P (with_confirmation e c)) → P (take_frame handshake_done e).end
by_heard_done P e here heard = go (side_of e)
  where
    go : (side : Side) → P (done_taken side e).end
    go Client = heard (heard_done e.confirmation)
    go Server = here

-- Of what is to be acknowledged nothing is other but how often, and whether at once, if it wasn't
-- to be before.
pub record AsksAnew (p q : Pending) : Type 0 where
  pub others : q ≡ record p { due = q.due; threshold = q.threshold; reordering = q.reordering }
  pub due : p.due ≡ true → q.due ≡ true

-- So it is where an acknowledgement is made due, or isn't.
pub record AsksThen (hurries : Bool) (p q : Pending) : Type 0 where
  pub others : q ≡ record p { due = q.due; threshold = q.threshold; reordering = q.reordering }
  pub due : q.due ≡ (p.due || hurries)

-- nothing is
anew_same : (p q : Pending) → q ≡ p → AsksThen false p q
anew_same p q same = record {
  others = same ∙ ap (λ (x : Pending). record p { due = x.due; threshold = x.threshold; reordering = x.reordering }) (sym same);
  due = ap (λ (x : Pending). x.due) same ∙ sym (or-false p.due);
}

-- only IMMEDIATE_ACK makes one due
pub apart_asks : (f : FrameValue) (e : End) → IsApart f → AsksThen (is_immediate_ack f) e.acknowledging (take_frame f e).end.acknowledging
apart_asks (ack a) e apart = absurd apart
apart_asks (stream f) e apart = absurd apart
apart_asks (reset_stream f) e apart = absurd apart
apart_asks (stop_sending f) e apart = absurd apart
apart_asks (max_data limit) e apart = absurd apart
apart_asks (max_stream_data f) e apart = absurd apart
apart_asks (max_streams f) e apart = absurd apart
apart_asks (datagram m) e apart = absurd apart
apart_asks (new_connection_id f) e apart = go (retires_for (insert_answer e.ids.peer (frame_of f)))
  where
    retires : (b : Bool) (r : Range ℕ) → AsksThen false e.acknowledging (retired_for b r f e).end.acknowledging
    retires true r = anew_same _ _ (shortened_acks _ (retiring r (with_taken_up f e)))
    retires false r = anew_same _ _ refl

    go : (r : Result (Option (Range ℕ)) InsertError) → AsksThen false e.acknowledging (id_judged r f e).end.acknowledging
    go (Ok None) = anew_same _ _ (shortened_acks _ (with_taken_up f e))
    go (Ok (Some r)) = retires (can_retire e.waiting.frames r.start r.end) r
    go (Err inserts.Retired) = anew_same _ _ refl
    go (Err inserts.ExceedsLimit) = anew_same _ _ refl
apart_asks (retire_connection_id n) e apart = go (retirement_answer e.ids.own n e.ids.limit)
  where
    issues : (b : Bool) → AsksThen false e.acknowledging (issued_if b (with_ids e (retired n e.ids))).acknowledging
    issues true = anew_same _ _ refl
    issues false = anew_same _ _ refl

    go : (r : Result Bool ErrorValue) → AsksThen false e.acknowledging (retirement_judged r n e).end.acknowledging
    go (Ok more) = issues (issues_for n e)
    go (Err error) = anew_same _ _ refl
apart_asks (path_response token) e apart = go (is_asked e.validation.challenge (word_of token))
  where
    go : (b : Bool) → AsksThen false e.acknowledging (validated_if b e).acknowledging
    go true = anew_same _ _ refl
    go false = anew_same _ _ refl
apart_asks handshake_done e apart = by_heard_done (λ (x : End). AsksThen false e.acknowledging x.acknowledging) e (anew_same _ _ refl) (λ c. anew_same _ _ refl)
apart_asks immediate_ack e apart = record { others = refl; due = sym (or_right e.acknowledging.due true refl) }
apart_asks (ack_frequency f) e apart = by_frequency (λ (x : End). AsksThen false e.acknowledging x.acknowledging) f e (λ threshold reordering frequency. record { others = refl; due = sym (or-false e.acknowledging.due) })
apart_asks f e apart = anew_same _ _ refl

-- what was due is so still
pub apart_acks : (f : FrameValue) (e : End) → IsApart f → AsksAnew e.acknowledging (take_frame f e).end.acknowledging
apart_acks f e apart = (let asked = apart_asks f e apart in record { others = asked.others; due = λ due. asked.due ∙ or_left e.acknowledging.due (is_immediate_ack f) due })

-- How an end asks its peer to acknowledge is as it was.
pub record AsksOn (p q : Frequency) : Type 0 where
  pub in_flight : q.in_flight ≡ p.in_flight
  pub next : q.next ≡ p.next
  pub peer_delay : q.peer_delay ≡ p.peer_delay

-- so the peer holds acknowledgements back for as long
pub longest_on : (p q : Frequency) → AsksOn p q → longest_delay q ≡ longest_delay p
longest_on p q on = ap (λ (d : ℕ). max d (asked q.in_flight 0)) on.peer_delay ∙ ap (λ (o : Option Request). max p.peer_delay (asked o 0)) on.in_flight

-- messages that are dropped leave all of that
shortened_asks : (b : Bool) (e : End) → AsksOn e.frequency (shortened b e).frequency
shortened_asks false e = record { in_flight = refl; next = refl; peer_delay = refl }
shortened_asks true e = lasts (most_message e)
  where
    lasts : (o : Option ℕ) → AsksOn e.frequency (without_longer_if o e).frequency
    lasts None = record { in_flight = refl; next = refl; peer_delay = refl }
    lasts (Some most) = record { in_flight = refl; next = refl; peer_delay = refl }

-- a frame apart from streams does too
pub apart_frequency : (f : FrameValue) (e : End) → IsApart f → AsksOn e.frequency (take_frame f e).end.frequency
apart_frequency (ack a) e apart = absurd apart
apart_frequency (stream f) e apart = absurd apart
apart_frequency (reset_stream f) e apart = absurd apart
apart_frequency (stop_sending f) e apart = absurd apart
apart_frequency (max_data limit) e apart = absurd apart
apart_frequency (max_stream_data f) e apart = absurd apart
apart_frequency (max_streams f) e apart = absurd apart
apart_frequency (datagram m) e apart = absurd apart
apart_frequency (new_connection_id f) e apart = go (retires_for (insert_answer e.ids.peer (frame_of f)))
  where
    retires : (b : Bool) (r : Range ℕ) → AsksOn e.frequency (retired_for b r f e).end.frequency
    retires true r = shortened_asks _ (retiring r (with_taken_up f e))
    retires false r = record { in_flight = refl; next = refl; peer_delay = refl }

    go : (r : Result (Option (Range ℕ)) InsertError) → AsksOn e.frequency (id_judged r f e).end.frequency
    go (Ok None) = shortened_asks _ (with_taken_up f e)
    go (Ok (Some r)) = retires (can_retire e.waiting.frames r.start r.end) r
    go (Err inserts.Retired) = record { in_flight = refl; next = refl; peer_delay = refl }
    go (Err inserts.ExceedsLimit) = record { in_flight = refl; next = refl; peer_delay = refl }
apart_frequency (retire_connection_id n) e apart = go (retirement_answer e.ids.own n e.ids.limit)
  where
    issues : (b : Bool) → AsksOn e.frequency (issued_if b (with_ids e (retired n e.ids))).frequency
    issues true = record { in_flight = refl; next = refl; peer_delay = refl }
    issues false = record { in_flight = refl; next = refl; peer_delay = refl }

    go : (r : Result Bool ErrorValue) → AsksOn e.frequency (retirement_judged r n e).end.frequency
    go (Ok more) = issues (issues_for n e)
    go (Err error) = record { in_flight = refl; next = refl; peer_delay = refl }
apart_frequency (path_response token) e apart = go (is_asked e.validation.challenge (word_of token))
  where
    go : (b : Bool) → AsksOn e.frequency (validated_if b e).frequency
    go true = record { in_flight = refl; next = refl; peer_delay = refl }
    go false = record { in_flight = refl; next = refl; peer_delay = refl }
apart_frequency handshake_done e apart = by_heard_done (λ (x : End). AsksOn e.frequency x.frequency) e (record { in_flight = refl; next = refl; peer_delay = refl }) (λ c. record { in_flight = refl; next = refl; peer_delay = refl })
apart_frequency (ack_frequency f) e apart = go (is_stale e.frequency.last f.sequence) (asks_too_soon f)
  where
    go : (stale soon : Bool) → AsksOn e.frequency (frequency_judged stale soon f e).end.frequency
    go true soon = record { in_flight = refl; next = refl; peer_delay = refl }
    go false true = record { in_flight = refl; next = refl; peer_delay = refl }
    go false false = record { in_flight = refl; next = refl; peer_delay = refl }
apart_frequency f e apart = record { in_flight = refl; next = refl; peer_delay = refl }

-- ---- calls

-- messages that wait are fewer where they are too long, or they aren't
pub by_shortened : (P : End → Type 0) (b : Bool) (e : End) → P e → ((most : ℕ) → P (with_queued e (without_longer most e.messages.queues))) → P (shortened b e)
by_shortened P false e same shorter = same
by_shortened P true e same shorter = lasts (most_message e)
  where
    lasts : (o : Option ℕ) → P (without_longer_if o e)
    lasts None = same
    lasts (Some most) = shorter most

-- the next id of the peer is used, or it isn't: what a frame apart from streams may change changes,
-- and fewer messages wait where they are too long
pub by_next_id : (P : End → Type 0) (e : End) (a : Answer) → P e → ((c : Apart) → P (with_apart e c)) → ((c : Apart) (most : ℕ) → P (with_queued (with_apart e c) (without_longer most e.messages.queues)))
    → P (end_on_next_id e a)
by_next_id P e (answers.UseNextId (Ok done)) same all shorter = taken (retires_for_next e.ids)
  where
    lasts : (c : Apart) (o : Option ℕ) → P (without_longer_if o (with_apart e c))
    lasts c None = all c
    lasts c (Some most) = shorter c most

    fits : (c : Apart) (b : Bool) → P (shortened b (with_apart e c))
    fits c true = lasts c (most_message (with_apart e c))
    fits c false = all c

    taken : (o : Option (Range ℕ)) → P (next_id_taken o e)
    taken None = same
    taken (Some r) =
        let ids = next_used e.ids in
        fits (ids_changed e ids e.waiting.frames.new_cids (after_retire e.waiting.frames r.start r.end).retire_cids) (nat_lt (length (destination e.ids)) (length (destination ids)))
by_next_id P e a same all shorter = same

-- it leaves what is to be acknowledged
pub next_acks : (e : End) (a : Answer) → (end_on_next_id e a).acknowledging ≡ e.acknowledging
next_acks e (answers.UseNextId (Ok done)) = taken (retires_for_next e.ids)
  where
    taken : (o : Option (Range ℕ)) → (next_id_taken o e).acknowledging ≡ e.acknowledging
    taken None = refl
    taken (Some r) = shortened_acks _ (retiring r (with_ids e (next_used e.ids)))
next_acks e a = refl

-- and how an end asks its peer to acknowledge
pub next_frequency : (e : End) (a : Answer) → AsksOn e.frequency (end_on_next_id e a).frequency
next_frequency e (answers.UseNextId (Ok done)) = taken (retires_for_next e.ids)
  where
    taken : (o : Option (Range ℕ)) → AsksOn e.frequency (next_id_taken o e).frequency
    taken None = record { in_flight = refl; next = refl; peer_delay = refl }
    taken (Some r) = shortened_asks _ (retiring r (with_ids e (next_used e.ids)))
next_frequency e a = record { in_flight = refl; next = refl; peer_delay = refl }

-- ---- a moment

-- an end that is closing is drained once it was so for long enough
pub by_waits : (P : End → Type 0) (b : Bool) (e : End) → P (record e { closing = drained e.closing; timers = no_timers }) → P e → P (close_expired b e)
by_waits P true e gone here = gone
by_waits P false e gone here = here
