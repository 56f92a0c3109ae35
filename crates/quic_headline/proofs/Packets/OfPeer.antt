-- What leaves the ids of the peer that an end knows: all but frames that bring one, and the call
-- that changes to the next.
use Rattle.std.proofs.Common.{◌≡◌, ℕ, Bool, true, false, List, Option, Some, None, Result, Ok, Err, refl, sym, ◌∙◌, subst}
use Rattle.std.specs.declared.ops.Range.{Range}
use Rattle.quic_wire_core.specs.TransportError.{ErrorValue}
use Rattle.quic_wire.specs.Value.{FrameValue, NewConnectionIdValue, ack, datagram, new_connection_id, retire_connection_id, path_response, handshake_done, ack_frequency}
use Rattle.quic_ids.specs.CidState.{retirement_answer}
use Rattle.quic_ids.specs.CidQueue.{PeerIds, after_insert, insert_answer}
use Rattle.quic_ids.specs.declared.cid_queue.InsertError.{InsertError}
use Rattle.quic_ids.specs.declared.cid_queue.InsertError.TheVariants as inserts
use Rattle.quic_paths.specs.Paths.{is_asked}
use Rattle.quic_retransmits.specs.Retransmits.{can_retire}
use Rattle.quic_machine.specs.declared.run.Call.{Call}
use Rattle.quic_machine.specs.declared.run.Answer.{Answer}
use Rattle.quic_machine.specs.Closing.{ticked}
use Rattle.quic_machine.specs.Policy.{Policy}
use Rattle.quic_machine.specs.MessageCalls.{most_message}
use Rattle.quic_machine.specs.Sizes.{without_longer_if, shortened}
use Rattle.quic_machine.specs.Ids.{Ids, frame_of, retires_for, retired}
use Rattle.quic_machine.specs.IdFrames.{retiring, with_taken_up, issued_if, issues_for, end_on_next_id}
use Rattle.quic_machine.specs.Validation.{word_of, validated_if}
use Rattle.quic_machine.specs.End.{End, with_ids, with_closing, closed_by}
use Rattle.quic_machine.specs.Receive.{is_above, names_ungiven, retired_for, id_judged, retirement_judged, take_frame}
use Rattle.quic_machine.specs.Poll.{Polled, polled}
use Rattle.quic_machine.specs.FrameCases.{Settling, acked_keeps, losses_keep, named, ack_taken, message_leaves}
use Rattle.quic_machine.specs.Steps as steps
use Rattle.quic_machine.specs.PollCases.{at_poll, by_poll, composes}
use Rattle.quic_machine.specs.LeaveCases.{by_expired, by_event}
use Rattle.quic_machine.specs.CallCases.{is_delivery, uses_next_id, by_call, by_done}
use Rattle.quic_machine.specs.Machine.{after_call}
use Rattle.quic_headline.proofs.Packets.Apart.{by_waits, by_frequency, by_heard_done}
use Rattle.quic_headline.proofs.Packets.Closes.{by_closes}
use Rattle.quic_headline.proofs.Packets.Probes.{may_leave}

-- a fact of the ids of the peer
module _ (P : PeerIds → Type 0) where
  abbrev pub Of : End → Type 0
  Of e = P e.ids.peer

  pub peer_settles : Settling Of
  peer_settles (steps.known n) e i = i
  peer_settles s e i = i

  -- messages that are dropped leave them
  pub peer_shortened : (b : Bool) (e : End) → Of e → Of (shortened b e)
  peer_shortened false e i = i
  peer_shortened true e i = lasts (most_message e)
    where
      lasts : (o : Option ℕ) → Of (without_longer_if o e)
      lasts None = i
      lasts (Some most) = i

  -- so does a frame that brings no id
  pub peer_frame : (f : FrameValue) (e : End) → ((g : NewConnectionIdValue) → f ≡ new_connection_id g → Of (take_frame (new_connection_id g) e).end) → Of e → Of (take_frame f e).end
  peer_frame (ack a) e brings i = go (names_ungiven a e)
    where
      go : (b : Bool) → Of (ack_taken b a e).end
      go true = i
      go false = acked_keeps Of peer_settles (is_above e.numbers.largest_acked a.largest) a (named a e) i
  peer_frame (datagram m) e brings i = message_leaves Of m e i (λ left. i)
  peer_frame (new_connection_id g) e brings i = brings g refl
  peer_frame (retire_connection_id n) e brings i = go (retirement_answer e.ids.own n e.ids.limit)
    where
      issues : (b : Bool) → Of (issued_if b (with_ids e (retired n e.ids)))
      issues true = i
      issues false = i

      go : (r : Result Bool ErrorValue) → Of (retirement_judged r n e).end
      go (Ok more) = issues (issues_for n e)
      go (Err error) = i
  peer_frame (path_response token) e brings i = go (is_asked e.validation.challenge (word_of token))
    where
      go : (b : Bool) → Of (validated_if b e)
      go true = i
      go false = i
  peer_frame handshake_done e brings i = by_heard_done Of e i (λ c. i)
  peer_frame (ack_frequency r) e brings i = by_frequency Of r e (λ threshold reordering frequency. i)
  peer_frame f e brings i = i

  -- and one that brings an id leaves them too, or takes it up
  pub peer_taken_up : (g : NewConnectionIdValue) (e : End) → P (after_insert e.ids.peer (frame_of g)) → Of e → Of (take_frame (new_connection_id g) e).end
  peer_taken_up g e up i = judged (retires_for (insert_answer e.ids.peer (frame_of g)))
    where
      ranges : (b : Bool) (r : Range ℕ) → Of (retired_for b r g e).end
      ranges true r = peer_shortened _ (retiring r (with_taken_up g e)) up
      ranges false r = up

      judged : (r : Result (Option (Range ℕ)) InsertError) → Of (id_judged r g e).end
      judged (Ok None) = peer_shortened _ (with_taken_up g e) up
      judged (Ok (Some r)) = ranges (can_retire e.waiting.frames r.start r.end) r
      judged (Err inserts.Retired) = i
      judged (Err inserts.ExceedsLimit) = i

  -- so does a poll
  polled_peer : (p : Policy) (e : End) (now : ℕ) → Of e → Of (polled p e now).end
  polled_peer p e now i = by_poll p e now (λ (q : Polled). Of q.end) (record {
    silent = i;
    failed = i;
    nothing = λ c. i;
    repeats = λ is. by_closes p (with_closing e (ticked e.closing now)) (λ (q : Polled). Of q.end) i (λ f goes. i);
    closes = λ reason c bound. by_closes p (closed_by reason (at_poll e now c)) (λ (q : Polled). Of q.end) i (λ f goes. i);
    gives = λ leaving c left is may ready some. subst (λ (ids : Ids). P ids.peer) (sym (composes leaving (at_poll e now c) (may_leave e now leaving (at_poll e now c) ready)).ids) i;
  })

  -- and any call that is no delivery, and doesn't change to another
  pub peer_call : (p : Policy) (e : End) (theirs : List (List ℕ)) (call : Call) (a : Answer) → is_delivery call ≡ false → (uses_next_id call ≡ true → Of (end_on_next_id e a)) → Of e → Of (after_call p e theirs call a)
  peer_call p e theirs call a other next i = by_call p e theirs Of call a (record {
    same = i;
    on_streams = λ on answer. i;
    on_messages = λ on answer. i;
    pings = i;
    closes = λ reason f now own. i;
    waits = λ now b set. by_waits Of b (with_closing e (ticked e.closing now)) i i;
    changes_id = λ uses answer. next uses;
    says_handshake = λ says answer. by_done Of e a i i;
    times = λ now expiry set. by_expired p.words e now Of (λ pending tracking timers waits asked runs packets. i) (λ pending timers waits asked runs. losses_keep Of peer_settles (with_closing e (ticked e.closing now)) i) (λ x j. j) expiry;
    polls = λ now set. polled_peer p e now i;
    hears = λ arrival d set. (let clash : false ≡ true = sym other ∙ set in cc);
    tells = λ asks. by_event e Of i i (λ told. i);
  })

-- a call that is neither a delivery nor one for the next id leaves the ids of the peer
pub peer_same : (p : Policy) (e : End) (theirs : List (List ℕ)) (call : Call) (a : Answer) → is_delivery call ≡ false → uses_next_id call ≡ false → (after_call p e theirs call a).ids.peer ≡ e.ids.peer
peer_same p e theirs call a apart other = peer_call (λ (q : PeerIds). q ≡ e.ids.peer) p e theirs call a apart (λ uses. (let clash : false ≡ true = sym other ∙ uses in cc)) refl
