-- What a datagram that comes leaves, as cases: of the packets that an ACK frame names or that are
-- lost, of frames, and of the packet that has them.
use Rattle.std.proofs.Common.{◌≡◌, ℕ, Bool, true, false, not, ◌||◌, ◌==◌, List, [], ◌∷◌, map, length, Option, Some, None, Result, Ok, Err, refl, sym, ◌∙◌}
use Rattle.std.specs.Prelude.{◌++◌, nat_le, nat_lt, if◌then◌else◌}
use Rattle.std.specs.List.{list_any}
use Rattle.std.proofs.lemmas.Bool.{and_parts}
use Rattle.std.specs.declared.ops.Range.{Range}
use Rattle.quic_wire.specs.Value.{FrameValue, AckValue, ack, stream, reset_stream, stop_sending, max_data, max_stream_data, max_streams, datagram, new_connection_id, retire_connection_id, path_challenge, path_response, handshake_done, immediate_ack, ack_frequency}
use Rattle.quic_wire_core.specs.declared.stream_id.Side.{Side}
use Rattle.quic_wire_core.specs.declared.stream_id.Side.TheVariants.{Client, Server}
use Rattle.quic_wire_core.specs.declared.shared.EcnCodepoint.{EcnCodepoint}
use Rattle.quic_wire.specs.Items.{items}
use Rattle.quic_wire.specs.declared.frame.InvalidFrame.{InvalidFrame}
use Rattle.quic_packet.specs.Header.{key_phase, reserved_bits}
use Rattle.quic_packet.specs.Datagram.{Opening}
use Rattle.quic_send_buffer.specs.declared.stream_meta.StreamMeta.{StreamMeta}
use Rattle.quic_recovery_core.specs.Duplicates.{is_duplicate}
use Rattle.quic_streams_state.specs.State.{Streams}
use Rattle.quic_streams_parts.specs.Table.{Table}
use Rattle.quic_machine.specs.Arrival.{Arrival}
use Rattle.quic_machine.specs.declared.answers.State.{State}
use Rattle.quic_machine.specs.declared.answers.State.TheVariants as states
use Rattle.quic_machine.specs.declared.answers.DropReason.{DropReason}
use Rattle.quic_machine.specs.declared.answers.DropReason.TheVariants as drops
use Rattle.quic_machine.specs.declared.answers.LostReason.{LostReason}
use Rattle.quic_wire.specs.Close.{CloseValue}
use Rattle.quic_machine.specs.Policy.{Policy}
use Rattle.quic_machine.specs.Closing.{ticked, close_asked}
use Rattle.quic_recovery_core.specs.PendingAcks.{Pending}
use Rattle.quic_recovery_core.specs.AckFrequency.{Frequency, micros, is_stale}
use Rattle.quic_wire_core.specs.declared.shared.IssuedCid.{IssuedCid}
use Rattle.quic_wire_core.specs.TransportError.{ErrorValue}
use Rattle.quic_ids.specs.CidState.{retirement_answer}
use Rattle.quic_ids.specs.CidQueue.{insert_answer}
use Rattle.quic_ids.specs.declared.cid_queue.InsertError.{InsertError}
use Rattle.quic_ids.specs.declared.cid_queue.InsertError.TheVariants as inserts
use Rattle.quic_retransmits.specs.Retransmits.{most_retirements, can_retire, after_retire}
use Rattle.quic_machine.specs.Ids.{Ids, destination, frame_of, taken_up, retires_for, retired, may_issue}
use Rattle.quic_machine.specs.IdFrames.{most_untold, issued, issued_if, issues_for, drawn}
use Rattle.quic_spaces.specs.Numbers.{number_opened, number_named}
use Rattle.quic_spaces.specs.Marks.{Counts}
use Rattle.quic_spaces.specs.declared.space.EcnError.{EcnError}
use Rattle.quic_messages.specs.declared.errors.ReceivedError.{ReceivedError}
use Rattle.quic_messages.specs.Messages.{received_answer}
use Rattle.quic_machine.specs.Parts.{Messaging, Confirmation, heard_done}
use Rattle.quic_machine.specs.Tracking.{TrackedPacket, Carried, acked_by, Verdict, lost_by, after_detection}
use Rattle.quic_machine.specs.End.{End, side_of, with_closing, closed_by, with_numbers, with_ids, with_frames, with_streams, with_messages, with_tracking, with_told, with_marking, with_discovery, with_queued}
use Rattle.quic_machine.specs.Opens.{head}
use Rattle.quic_machine.specs.Migration.{migrated}
use Rattle.quic_messages.specs.Messages.{without_longer}
use Rattle.quic_congestion.specs.Search.{Discovery}
use Rattle.quic_machine.specs.MessageCalls.{most_message}
use Rattle.quic_machine.specs.Sizes.{is_resized, with_acked, search_acked, after_lost, without_longer_if, shortened, with_searched}
use Rattle.quic_machine.specs.Steps.{Step, after}
use Rattle.quic_machine.specs.Steps as steps
use Rattle.quic_machine.specs.Acked.{request_acked, without_known, reset_acked, resets_acked, stream_acked, streams_acked, packet_acked, packets_acked, stream_lost, streams_lost, again, carried_lost, packets_lost, lost_as, verdict, losses_detected, measured, sampled, without_acked, counts_judged, counts_answer, counts_seen, marks_seen, losses_taken, after_named, after_acked}
use Rattle.quic_paths.specs.Paths.{is_asked}
use Rattle.quic_paths.specs.Responses.{Response}
use Rattle.quic_machine.specs.Validation.{Asked, asked_of, path_asked, path_validated, word_of, validated_if}
use Rattle.quic_machine.specs.Receive.{Fault, broke, too_many_pieces, closed_by_peer, drained_at, exhausted, unopened_in, violation, reason_of, Progress, goes_on, is_above, names_ungiven, message_taken, message_judged, take_message, retired_for, id_judged, retirement_judged, asks_too_soon, frequency_judged, done_taken, take_frame, take_item, unless_fault, take_items, is_empty, take_payload, asks_in, is_urged, after_taken, dropped, ends_as, by_state, opened_to, opened_as, opening, headed, received_in, is_read, drawn_if, with_ids_drawn, has_migrated, migrated_if, items_taken, received}

-- ---- packets that are acknowledged, and those that are lost

module _ (P : End → Type 0) (acked : (m : StreamMeta) (e : End) → P e → P (stream_acked m e)) where
  -- the STREAM frames of a packet are acknowledged
  pub streams_acked_keep : (ms : List StreamMeta) (e : End) → P e → P (streams_acked ms e)
  streams_acked_keep [] e i = i
  streams_acked_keep (m ∷ ms) e i = streams_acked_keep ms (stream_acked m e) (acked m e i)

module _ (P : End → Type 0) (acked : (id : ℕ) (e : End) → P e → P (reset_acked id e)) where
  -- its RESET_STREAM frames are
  pub resets_acked_keep : (rs : List (ℕ × ℕ)) (e : End) → P e → P (resets_acked rs e)
  resets_acked_keep [] e i = i
  resets_acked_keep (r ∷ rs) e i = resets_acked_keep rs (reset_acked r.0 e) (acked r.0 e i)

module _ (P : End → Type 0) (lost : (m : StreamMeta) (e : End) → P e → P (stream_lost m e)) where
  -- the STREAM frames of a packet are lost
  pub streams_lost_keep : (ms : List StreamMeta) (e : End) → P e → P (streams_lost ms e)
  streams_lost_keep [] e i = i
  streams_lost_keep (m ∷ ms) e i = streams_lost_keep ms (stream_lost m e) (lost m e i)

  -- packets are lost, of which what has to be sent again waits again
  pub packets_lost_keep : ((c : Carried) (e : End) → P e → P (again c e)) → (ps : Table TrackedPacket) (e : End) → P e → P (packets_lost ps e)
  packets_lost_keep waits [] e i = i
  packets_lost_keep waits (p ∷ ps) e i =
      packets_lost_keep waits ps (carried_lost p.1.carried e) (waits p.1.carried (streams_lost p.1.carried.stream_frames e) (streams_lost_keep p.1.carried.stream_frames e i))

-- what holds of an end whatever marks the peer counted, and whether or not datagrams are marked,
-- holds where counts came
pub by_marks : (rises : Bool) (newly : ℕ) (a : AckValue) (e : End) (P : End → Type 0) → ((counts : Counts) (marking : Bool) → P (with_marking (with_told e counts) marking)) → P (marks_seen rises newly a e)
by_marks rises newly a e P all = go e.path.marking rises a.ecn
  where
    judged : (r : Result Bool EcnError) (counts : Counts) → P (counts_judged r counts e)
    judged (Ok grew) counts = all counts e.path.marking
    judged (Err error) counts = all e.marks.told false

    go : (marking rises : Bool) (o : Option Counts) → P (counts_seen marking rises newly o e)
    go true true None = all e.marks.told false
    go true false None = all e.marks.told false
    go true true (Some counts) = judged (counts_answer e newly counts) counts
    go true false (Some counts) = all e.marks.told e.path.marking
    go false rises o = all e.marks.told e.path.marking

-- a fact that each step of an ACK frame keeps
abbrev pub Settling : (End → Type 0) → Type 0
Settling P = (s : Step) (e : End) → P e → P (after s e)

-- with another search messages that are too long are dropped, or none is
pub by_searched : (d : Discovery) (e : End) (P : End → Type 0) → P (with_discovery e d) → ((most : ℕ) → P (with_queued (with_discovery e d) (without_longer most e.messages.queues))) → P (with_searched d e)
by_searched d e P same shorter = go (is_resized e.path.discovery d)
  where
    lasts : (o : Option ℕ) → P (without_longer_if o (with_discovery e d))
    lasts None = same
    lasts (Some most) = shorter most

    go : (b : Bool) → P (shortened b (with_discovery e d))
    go true = lasts (most_message (with_discovery e d))
    go false = same

module _ (P : End → Type 0) (c : Settling P) where
  -- what the peer knows of, if anything
  known_keeps : (o : Option ℕ) (e : End) → P e → P (without_known o e)
  known_keeps None e i = i
  known_keeps (Some n) e i = c (steps.known n) e i

  -- packets are acknowledged
  packets_acked_keep : (ps : Table TrackedPacket) (e : End) → P e → P (packets_acked ps e)
  packets_acked_keep [] e i = i
  packets_acked_keep (p ∷ ps) e i =
      let heard : End = search_acked p e in
      let asked : End = request_acked p.0 heard in
      let known : End = without_known p.1.carried.largest_acked asked in
      let kept : P asked = c (steps.answered p.0) heard (c (steps.searched (with_acked p e.path.discovery)) e i) in
      let resets = resets_acked_keep P (λ id. c (steps.reset id)) p.1.carried.retransmits.reset_stream known (known_keeps p.1.carried.largest_acked asked kept) in
      packets_acked_keep ps (packet_acked p e) (streams_acked_keep P (λ m. c (steps.acked m)) p.1.carried.stream_frames (resets_acked p.1.carried.retransmits.reset_stream known) resets)

  -- packets are lost
  lost_keeps : (v : Verdict) (e : End) → P e → P (lost_as v e)
  lost_keeps v e i =
      let lost = lost_by v e.tracking.packets in
      let left : End = with_tracking (packets_lost lost e) (after_detection v e.tracking) in
      let d : Discovery = after_lost left.closing.clock lost left.path.discovery in
      let told : P (with_discovery left d) = c (steps.searched d) left (c (steps.tracked (after_detection v e.tracking)) (packets_lost lost e) (packets_lost_keep P (λ m. c (steps.lost m)) (λ carried. c (steps.again carried)) lost e i)) in
      by_searched d left P told (λ most. c (steps.shortens most) (with_discovery left d) told)

  -- losses are detected
  pub losses_keep : (e : End) → P e → P (losses_detected e)
  losses_keep e i = lost_keeps (verdict e) e i

  -- a round trip is measured, if one is
  sampled_keeps : (o : Option TrackedPacket) (a : AckValue) (e : End) → P e → P (sampled o a e)
  sampled_keeps None a e i = i
  sampled_keeps (Some p) a e i = c (steps.measured (sampled (Some p) a e).path.rtt (sampled (Some p) a e).path.first_after_rtt) e i

  -- an ACK frame that names these packets
  named_keeps : (ps : Table TrackedPacket) (rises : Bool) (a : AckValue) (e : End) → P e → P (after_named ps rises a e)
  named_keeps [] rises a e i = i
  named_keeps (p ∷ ps) rises a e i =
      let left = without_acked (p ∷ ps) a e in
      let timed = sampled (measured rises a (p ∷ ps)) a left in
      let found = losses_detected timed in
      let stays : P left = c (steps.tracked left.tracking) (packets_acked (p ∷ ps) e) (packets_acked_keep (p ∷ ps) e i) in
      let taken = losses_taken (p ∷ ps) rises a e in
      let kept : P taken = c (steps.tracked taken.tracking) found (losses_keep timed (sampled_keeps (measured rises a (p ∷ ps)) a left stays)) in
      by_marks rises (length (p ∷ ps)) a taken P (λ counts marking. c (steps.marked counts marking) taken kept)

  -- an ACK frame, whose greatest number is counted already
  pub acked_keeps : (rises : Bool) (a : AckValue) (e : End) → P e → P (after_acked rises a e)
  acked_keeps rises a e i = named_keeps (acked_by a e.tracking.packets) rises a e i

-- ---- frames

-- the end once the greatest number of an ACK frame counts
abbrev pub named : AckValue → End → End
named a e = with_numbers e (number_named e.numbers a.largest)

-- what an ACK frame makes of the end, by whether it names a number that was never given
abbrev pub ack_taken : Bool → AckValue → End → Progress
ack_taken b a e = if b then record { end = e; fault = Some violation } else goes_on (after_acked (is_above e.numbers.largest_acked a.largest) a (named a e))

-- what frames leave, one behind another, and what was wrong with the one that was taken last
abbrev pub passed : List FrameValue → End → Progress
passed fs e = take_items (map Ok fs) e

-- a frame on streams, which changes nothing else
abbrev pub OnStreams : FrameValue → Type 0
OnStreams (stream f) = Unit {0}
OnStreams (reset_stream f) = Unit {0}
OnStreams (stop_sending f) = Unit {0}
OnStreams (max_data limit) = Unit {0}
OnStreams (max_stream_data f) = Unit {0}
OnStreams (max_streams f) = Unit {0}
OnStreams f = ⊥

-- a frame apart from streams, which says nothing of what is tracked, and is no message
abbrev pub IsApart : FrameValue → Type 0
IsApart (ack a) = ⊥
IsApart (stream f) = ⊥
IsApart (reset_stream f) = ⊥
IsApart (stop_sending f) = ⊥
IsApart (max_data limit) = ⊥
IsApart (max_stream_data f) = ⊥
IsApart (max_streams f) = ⊥
IsApart (datagram m) = ⊥
IsApart f = Unit {0}

-- what such a frame may change: ids, and which wait to be told of and to be retired; whether the
-- peer's address is validated, what is asked of the peer until when, and the answer to it that
-- waits; what is to be acknowledged, but for the numbers, and how often that was asked for; and
-- whether the handshake is confirmed
pub record Apart : Type 0 where
  pub ids : Ids
  pub new_cids : List IssuedCid
  pub retire_cids : List ℕ
  pub validated : Bool
  pub asked : Asked
  pub moment : Option ℕ
  pub response : Option Response
  pub acknowledging : Pending
  pub frequency : Frequency
  pub confirmation : Confirmation

-- the end with that
abbrev pub with_apart : End → Apart → End
with_apart e c = record e {
  ids = c.ids;
  waiting = record {
    signals = record e.waiting.signals { challenge = c.asked.waits; response = c.response };
    frames = record e.waiting.frames { new_cids = c.new_cids; retire_cids = c.retire_cids };
  };
  path = record e.path { validated = c.validated };
  validation = c.asked.validation;
  timers = record e.timers { path_validation = c.moment };
  acknowledging = record c.acknowledging { runs = e.acknowledging.runs };
  frequency = c.frequency;
  confirmation = c.confirmation;
}

-- that of an end as it is
abbrev pub apart_of : End → Apart
apart_of e = record {
  ids = e.ids;
  new_cids = e.waiting.frames.new_cids;
  retire_cids = e.waiting.frames.retire_cids;
  validated = e.path.validated;
  asked = asked_of e;
  moment = e.timers.path_validation;
  response = e.waiting.signals.response;
  acknowledging = e.acknowledging;
  frequency = e.frequency;
  confirmation = e.confirmation;
}

-- an end where other ids are known, and other ones wait to be told of and to be retired
abbrev pub ids_changed : End → Ids → List IssuedCid → List ℕ → Apart
ids_changed e ids new_cids retire_cids = record (apart_of e) { ids = ids; new_cids = new_cids; retire_cids = retire_cids }

-- the frames that change an end, by kind
pub record TakesFrame (P : End → Type 0) : Type 0 where
  pub ack : (rises : Bool) (a : AckValue) (e : End) → P e → P (after_acked rises a (named a e))
  -- a frame on streams: they are left as its words say
  pub on_streams : (f : FrameValue) (e : End) → OnStreams f → P e → P (take_frame f e).end
  -- a message: others wait, and it is told of or isn't
  pub message : (m : Messaging) (e : End) → P e → P (with_messages e m)
  -- a frame apart from these
  pub apart : (f : FrameValue) (e : End) → IsApart f → P e → P (take_frame f e).end

-- a message leaves the end as it was, or with other messages
pub message_leaves : (P : End → Type 0) (m : List ℕ) (e : End) → P e → ((left : Messaging) → P (with_messages e left)) → P (take_message m e).end
message_leaves P m e same other = go (received_answer e.transport.datagram_receive_buffer_size m e.messages.queues)
  where
    go : (r : Result Bool ReceivedError) → P (message_judged r m e).end
    go (Ok first) = other (message_taken first m e)
    go (Err error) = same

-- one frame
pub frame_keeps : (P : End → Type 0) → TakesFrame P → (f : FrameValue) (e : End) → P e → P (take_frame f e).end
frame_keeps P c (ack a) e i = go (names_ungiven a e)
  where
    go : (b : Bool) → P (ack_taken b a e).end
    go true = i
    go false = c.ack (is_above e.numbers.largest_acked a.largest) a e i
frame_keeps P c (stream f) e i = c.on_streams (stream f) e tt i
frame_keeps P c (reset_stream f) e i = c.on_streams (reset_stream f) e tt i
frame_keeps P c (stop_sending f) e i = c.on_streams (stop_sending f) e tt i
frame_keeps P c (max_data limit) e i = c.on_streams (max_data limit) e tt i
frame_keeps P c (max_stream_data f) e i = c.on_streams (max_stream_data f) e tt i
frame_keeps P c (max_streams f) e i = c.on_streams (max_streams f) e tt i
frame_keeps P c (datagram m) e i = message_leaves P m e i (λ left. c.message left e i)
frame_keeps P c f e i = c.apart f e tt i

-- a frame on streams leaves other streams, and another end in nothing else
pub frame_leaves : (P : End → Type 0) (f : FrameValue) (e : End) → OnStreams f → ((t : Streams) → P (with_streams e t)) → P (take_frame f e).end
frame_leaves P (stream f) e on all = all _
frame_leaves P (reset_stream f) e on all = all _
frame_leaves P (stop_sending f) e on all = all _
frame_leaves P (max_data limit) e on all = all _
frame_leaves P (max_stream_data f) e on all = all _
frame_leaves P (max_streams f) e on all = all _
frame_leaves P f e on all = absurd on

-- an id is issued only where it may be
pub issues_may : (n : ℕ) (e : End) → issues_for n e ≡ true → may_issue e.ids n ≡ true
issues_may n e issues = (and_parts (may_issue e.ids n) (nat_lt (length e.waiting.frames.new_cids) most_untold) issues).0

-- a frame apart from streams leaves what such a one may change, and fewer messages where they are
-- too long for another id in use; nothing else changes
pub apart_leaves : (P : End → Type 0) (f : FrameValue) (e : End) → IsApart f → ((c : Apart) → P (with_apart e c))
    → ((c : Apart) (most : ℕ) → P (with_queued (with_apart e c) (without_longer most e.messages.queues))) → P (take_frame f e).end
apart_leaves P (ack a) e apart all shorter = absurd apart
apart_leaves P (stream f) e apart all shorter = absurd apart
apart_leaves P (reset_stream f) e apart all shorter = absurd apart
apart_leaves P (stop_sending f) e apart all shorter = absurd apart
apart_leaves P (max_data limit) e apart all shorter = absurd apart
apart_leaves P (max_stream_data f) e apart all shorter = absurd apart
apart_leaves P (max_streams f) e apart all shorter = absurd apart
apart_leaves P (datagram m) e apart all shorter = absurd apart
apart_leaves P (new_connection_id f) e apart all shorter = judged (retires_for (insert_answer e.ids.peer (frame_of f)))
  where
    waiting : List IssuedCid
    waiting = e.waiting.frames.new_cids

    retiring : List ℕ
    retiring = e.waiting.frames.retire_cids

    lasts : (c : Apart) (o : Option ℕ) → P (without_longer_if o (with_apart e c))
    lasts c None = all c
    lasts c (Some most) = shorter c most

    fits : (c : Apart) (b : Bool) → P (shortened b (with_apart e c))
    fits c true = lasts c (most_message (with_apart e c))
    fits c false = all c

    grown : Ids → Bool
    grown ids = nat_lt (length (destination e.ids)) (length (destination ids))

    retires : (b : Bool) (r : Range ℕ) → P (retired_for b r f e).end
    retires true r = let ids = taken_up (frame_of f) e.ids in fits (ids_changed e ids waiting (after_retire e.waiting.frames r.start r.end).retire_cids) (grown ids)
    retires false r = all (ids_changed e (taken_up (frame_of f) e.ids) waiting retiring)

    late : (b : Bool) → P (with_frames e (if b then e.waiting.frames else record e.waiting.frames { retire_cids = retiring ++ f.sequence ∷ [] }))
    late true = all (apart_of e)
    late false = all (ids_changed e e.ids waiting (retiring ++ f.sequence ∷ []))

    judged : (r : Result (Option (Range ℕ)) InsertError) → P (id_judged r f e).end
    judged (Ok None) = let ids = taken_up (frame_of f) e.ids in fits (ids_changed e ids waiting retiring) (grown ids)
    judged (Ok (Some r)) = retires (can_retire e.waiting.frames r.start r.end) r
    judged (Err inserts.Retired) = late (nat_le most_retirements (length retiring) || list_any (λ m. m == f.sequence) retiring)
    judged (Err inserts.ExceedsLimit) = all (apart_of e)
apart_leaves P (retire_connection_id n) e apart all shorter = judged (retirement_answer e.ids.own n e.ids.limit)
  where
    left : End
    left = with_ids e (retired n e.ids)

    issues : (b : Bool) → P (issued_if b left)
    issues true = all (ids_changed e (issued left).ids (issued left).waiting.frames.new_cids e.waiting.frames.retire_cids)
    issues false = all (ids_changed e (retired n e.ids) e.waiting.frames.new_cids e.waiting.frames.retire_cids)

    judged : (r : Result Bool ErrorValue) → P (retirement_judged r n e).end
    judged (Ok more) = issues (issues_for n e)
    judged (Err error) = all (apart_of e)
apart_leaves P (path_challenge token) e apart all shorter = all (record (apart_of e) { response = (path_asked token e).waiting.signals.response })
apart_leaves P (path_response token) e apart all shorter = go (is_asked e.validation.challenge (word_of token))
  where
    go : (b : Bool) → P (validated_if b e)
    go true = all (record (apart_of e) { validated = true; asked = asked_of (path_validated e); moment = None })
    go false = all (apart_of e)
apart_leaves P handshake_done e apart all shorter = go (side_of e)
  where
    go : (side : Side) → P (done_taken side e).end
    go Client = all (record (apart_of e) { confirmation = heard_done e.confirmation })
    go Server = all (apart_of e)
apart_leaves P immediate_ack e apart all shorter = all (record (apart_of e) { acknowledging = record e.acknowledging { due = true } })
apart_leaves P (ack_frequency f) e apart all shorter = go (is_stale e.frequency.last f.sequence) (asks_too_soon f)
  where
    go : (stale soon : Bool) → P (frequency_judged stale soon f e).end
    go true soon = all (apart_of e)
    go false true = all (record (apart_of e) { frequency = record e.frequency { last = Some f.sequence } })
    go false false = all (record (apart_of e) { acknowledging = record e.acknowledging { threshold = f.threshold; reordering = f.reordering }; frequency = record e.frequency { last = Some f.sequence; own_delay = micros f.delay } })
apart_leaves P f e apart all shorter = all (apart_of e)

-- ids that are drawn leave other ones, and other ones that wait to be told of; nothing else changes
pub drawn_leaves : (P : End → Type 0) (words : ℕ → ℕ) (e : End) → ((c : Apart) → P (with_apart e c)) → P (drawn words e)
drawn_leaves P words e all = all (ids_changed e (drawn words e).ids (drawn words e).waiting.frames.new_cids e.waiting.frames.retire_cids)

module _ (P : End → Type 0) (step : (f : FrameValue) (e : End) → P e → P (take_frame f e).end) where
  -- an item of a payload
  item_keeps : (item : Result FrameValue InvalidFrame) (e : End) → P e → P (take_item item e).end
  item_keeps (Ok f) e i = step f e i
  item_keeps (Err x) e i = i

  -- the next step, unless something was wrong
  unless_keeps : (fault : Option Fault) (p : Progress) (next : End → Progress) → P p.end → ((e : End) → P e → P (next e).end) → P (unless_fault fault p next).end
  unless_keeps None p next i more = more p.end i
  unless_keeps (Some fault) p next i more = i

  -- all items of a payload, up to the first fault
  pub items_keep : (is : List (Result FrameValue InvalidFrame)) (e : End) → P e → P (take_items is e).end
  items_keep [] e i = i
  items_keep (item ∷ is) e i = unless_keeps (take_item item e).fault (take_item item e) (take_items is) (item_keeps item e i) (items_keep is)

  -- all frames of a packet
  pub frames_keep : (fs : List FrameValue) (e : End) → P e → P (passed fs e).end
  frames_keep fs e i = items_keep (map Ok fs) e i

module _ (P : List FrameValue → End → Type 0) where
  -- what each frame keeps, of the end and of the frames behind it, holds with those that are left
  -- where one is at fault
  pub frames_leave : ((f : FrameValue) (left : List FrameValue) (e : End) → P (f ∷ left) e → P left (take_frame f e).end) → (fs : List FrameValue) (e : End) → P fs e → (left : List FrameValue) × P left (passed fs e).end
  frames_leave step [] e i = ([], i)
  frames_leave step (f ∷ fs) e i = go (take_frame f e).fault (step f fs e i) (frames_leave step fs (take_frame f e).end (step f fs e i))
    where
      go : (o : Option Fault) → P fs (take_frame f e).end → (left : List FrameValue) × P left (passed fs (take_frame f e).end).end → (left : List FrameValue) × P left (unless_fault o (take_frame f e) (take_items (map Ok fs))).end
      go None one rest = rest
      go (Some x) one rest = (fs, one)

  -- where all were taken, none is left
  pub frames_taken : ((f : FrameValue) (left : List FrameValue) (e : End) → (take_frame f e).fault ≡ None → P (f ∷ left) e → P left (take_frame f e).end) → (fs : List FrameValue) (e : End) → (passed fs e).fault ≡ None → P fs e → P [] (passed fs e).end
  frames_taken step [] e none i = i
  frames_taken step (f ∷ fs) e none i = go (take_frame f e).fault refl none (λ rest j. frames_taken step fs (take_frame f e).end rest j)
    where
      go : (o : Option Fault) → (take_frame f e).fault ≡ o → (unless_fault o (take_frame f e) (take_items (map Ok fs))).fault ≡ None
          → ((passed fs (take_frame f e).end).fault ≡ None → P fs (take_frame f e).end → P [] (passed fs (take_frame f e).end).end) → P [] (unless_fault o (take_frame f e) (take_items (map Ok fs))).end
      go None is rest later = later rest (step f fs e is i)
      go (Some x) is rest later = let clash : Some x ≡ None = sym is ∙ rest in cc

-- ---- a datagram

-- an open end that takes the packet of a number, before its frames
abbrev pub begun : End → ℕ → ℕ → End
begun e now n = with_closing (with_numbers e (number_opened e.numbers n)) (ticked e.closing now)

-- what a datagram may make of an end, step by step
pub record Receives (P : End → Type 0) : Type 0 where
  -- an end that doesn't read on notes the number
  pub notes : (n : ℕ) (e : End) → P e → P (with_numbers e (number_opened e.numbers n))
  pub begins : (now n : ℕ) (e : End) → P e → P (begun e now n)
  pub frame : (f : FrameValue) (e : End) → P e → P (take_frame f e).end
  -- all was taken, or a frame was at fault
  pub takes : (n : ℕ) (asks urged : Bool) (mark : Option EcnCodepoint) (e : End) → P e → P (after_taken n asks urged mark e)
  pub closes : (reason : LostReason) (e : End) → P e → P (closed_by reason e)
  -- the peer closed so, in the packet of this number
  pub drains : (close : ℕ × CloseValue) (e : End) → P e → P (drained_at close.0 close.1 e)
  -- an end that is closing owes its close once more
  pub asks_close : (e : End) → P e → P (with_closing e (close_asked e.closing))
  -- the last packet came that may not open
  pub exhausts : (now : ℕ) (e : End) → P e → P (exhausted now e)
  -- ids that were issued are drawn
  pub draws : (words : ℕ → ℕ) (e : End) → P e → P (drawn words e)
  -- the peer is at another address
  pub moves : (p : Policy) (o : Opening) (remote : ℕ) (e : End) → P e → P (migrated p o remote e)

module _ (P : End → Type 0) (c : Receives P) where
  -- a payload
  payload_keeps : (first : ℕ) (is : List (Result FrameValue InvalidFrame)) (e : End) → P e → P (take_payload first is e).end
  payload_keeps first is e i = go (not (reserved_bits first == 0) || is_empty is)
    where
      go : (b : Bool) → P (if b then record { end = e; fault = Some violation } else take_items is e).end
      go true = i
      go false = items_keep P c.frame is e i

  -- all frames were taken, or one was at fault
  ends_keep : (fault : Option Fault) (asks urged : Bool) (n : ℕ) (mark : Option EcnCodepoint) (e : End) → P e → P (ends_as fault asks urged n mark e).end
  ends_keep None asks urged n mark e i = c.takes n asks urged mark e i
  ends_keep (Some (closed_by_peer close)) asks urged n mark e i = c.drains (n, close) e i
  ends_keep (Some (broke error)) asks urged n mark e i = c.closes (reason_of (broke error)) e i
  ends_keep (Some too_many_pieces) asks urged n mark e i = c.closes (reason_of too_many_pieces) e i

  -- a packet whose number is new
  state_keeps : (state : State) (o : Opening) (arrival : Arrival) (e : End) → P e → P (by_state state o arrival (with_numbers e (number_opened e.numbers o.number))).end
  state_keeps states.Open o arrival e i =
      let begins = begun e arrival.now o.number in
      let is = items_taken o arrival e in
      let asks = asks_in (items o.payload) in
      let taken = take_payload o.first is begins in
      ends_keep taken.fault asks (is_urged arrival.mark asks is begins) o.number arrival.mark taken.end (payload_keeps o.first is begins (c.begins arrival.now o.number e i))
  state_keeps states.Closing o arrival e i = c.asks_close (with_numbers e (number_opened e.numbers o.number)) (c.notes o.number e i)
  state_keeps states.Drained o arrival e i = c.notes o.number e i
  state_keeps states.Failed o arrival e i = c.notes o.number e i

  -- a packet that opened
  opened_keeps : (o : Opening) (arrival : Arrival) (e : End) → P e → P (opened_to o arrival e).end
  opened_keeps o arrival e i = go (key_phase o.first) (is_duplicate e.numbers.opened o.number)
    where
      go : (a b : Bool) → P (if a then dropped drops.KeyPhase e else (if b then dropped drops.Duplicate e else by_state e.closing.state o arrival (with_numbers e (number_opened e.numbers o.number)))).end
      go true b = i
      go false true = i
      go false false = state_keeps e.closing.state o arrival e i

  -- ids are drawn behind a packet whose frames were taken
  drawn_keeps : (b : Bool) (p : Policy) (e : End) → P e → P (drawn_if b p e)
  drawn_keeps true p e i = c.draws p.words e i
  drawn_keeps false p e i = i

  -- the peer has moved or hasn't
  migrated_keeps : (b : Bool) (p : Policy) (o : Opening) (remote : ℕ) (e : End) → P e → P (migrated_if b p o remote e)
  migrated_keeps true p o remote e i = c.moves p o remote e i
  migrated_keeps false p o remote e i = i

  packet_keeps : (o : Option Opening) (p : Policy) (arrival : Arrival) (e : End) → P e → P (opened_as o p arrival e).end
  packet_keeps None p arrival e i = go e.closing.state arrival.last
    where
      go : (state : State) (b : Bool) → P (unopened_in state b arrival e).end
      go states.Open true = c.exhausts arrival.now e i
      go states.Open false = i
      go states.Closing b = i
      go states.Drained b = i
      go states.Failed b = i
  packet_keeps (Some o) p arrival e i =
      let out = with_ids_drawn p (opened_to o arrival e) in
      migrated_keeps (has_migrated o arrival.remote e out) p o arrival.remote out.end (drawn_keeps (is_read (opened_to o arrival e).answer) p (opened_to o arrival e).end (opened_keeps o arrival e i))

  headed_keeps : (r : Result (List ℕ) DropReason) (p : Policy) (e : End) (arrival : Arrival) (d : List ℕ) → P e → P (headed r p e arrival d).end
  headed_keeps (Err error) p e arrival d i = i
  headed_keeps (Ok id) p e arrival d i = packet_keeps (opening p e d) p arrival e i

  received_keeps : (state : State) (p : Policy) (e : End) (arrival : Arrival) (d : List ℕ) → P e → P (received_in state p e arrival d).end
  received_keeps states.Failed p e arrival d i = i
  received_keeps states.Drained p e arrival d i = i
  received_keeps states.Open p e arrival d i = headed_keeps (head e arrival.remote d) p e arrival d i
  received_keeps states.Closing p e arrival d i = headed_keeps (head e arrival.remote d) p e arrival d i

  -- what each step keeps holds after a datagram
  pub by_received : (p : Policy) (e : End) (arrival : Arrival) (d : List ℕ) → P e → P (received p e arrival d).end
  by_received p e arrival d i = received_keeps e.closing.state p e arrival d i
