-- How the handshake is confirmed at an end: HANDSHAKE_DONE that comes to a client changes that, the
-- call that says that the handshake is done, and an event; nothing else does.
use Rattle.std.proofs.Common.{◌≡◌, ℕ, ◌⊎◌, inl, inr, Bool, true, false, List, ◌∷◌, Option, Some, None, Result, Ok, Err, refl, sym, ◌∙◌, subst}
use Rattle.std.specs.declared.ops.Range.{Range}
use Rattle.quic_wire_core.specs.TransportError.{ErrorValue}
use Rattle.quic_wire_core.specs.declared.stream_id.Side.{Side}
use Rattle.quic_wire_core.specs.declared.stream_id.Side.TheVariants.{Client, Server}
use Rattle.quic_wire.specs.Value.{FrameValue, ack, datagram, new_connection_id, retire_connection_id, path_response, handshake_done, ack_frequency}
use Rattle.quic_packet.specs.Datagram.{Opening}
use Rattle.quic_paths.specs.Paths.{is_asked}
use Rattle.quic_retransmits.specs.Retransmits.{can_retire}
use Rattle.quic_ids.specs.CidState.{retirement_answer}
use Rattle.quic_ids.specs.CidQueue.{insert_answer}
use Rattle.quic_ids.specs.declared.cid_queue.InsertError.{InsertError}
use Rattle.quic_ids.specs.declared.cid_queue.InsertError.TheVariants as inserts
use Rattle.quic_machine.specs.declared.run.Call.{Call}
use Rattle.quic_machine.specs.declared.run.Answer.{Answer}
use Rattle.quic_machine.specs.declared.run.Answer.TheVariants as answers
use Rattle.quic_machine.specs.Policy.{Policy}
use Rattle.quic_machine.specs.Closing.{ticked}
use Rattle.quic_machine.specs.Parts.{Confirmation, heard_done}
use Rattle.quic_machine.specs.End.{End, side_of, with_closing, closed_by, with_ids}
use Rattle.quic_machine.specs.Ids.{frame_of, retires_for, retired, retires_for_next, next_used}
use Rattle.quic_machine.specs.IdFrames.{retiring, with_taken_up, issued_if, issues_for, next_id_taken, end_on_next_id}
use Rattle.quic_machine.specs.Validation.{word_of, validated_if}
use Rattle.quic_machine.specs.Receive.{is_above, names_ungiven, retired_for, id_judged, retirement_judged, done_taken, take_frame}
use Rattle.quic_machine.specs.Poll.{Draft, Polled, polled}
use Rattle.quic_machine.specs.Puts as puts
use Rattle.quic_machine.specs.DraftLaws.{Writing, by_leave}
use Rattle.quic_machine.specs.PollCases.{by_poll, at_poll}
use Rattle.quic_machine.specs.FrameCases.{Settling, losses_keep, named, ack_taken, acked_keeps, message_leaves, passed, frames_keep, frames_leave, frames_taken}
use Rattle.quic_machine.specs.Steps as steps
use Rattle.quic_machine.specs.LeaveCases.{by_expired}
use Rattle.quic_machine.specs.CallCases.{is_delivery, asks_event, is_done_call, by_call}
use Rattle.quic_machine.specs.Migration.{migrated}
use Rattle.quic_machine.specs.Machine.{after_call}
use Rattle.quic_headline.specs.Runs.{In}
use Rattle.quic_headline.proofs.Packets.Apart.{by_waits, by_frequency, by_shortened}
use Rattle.quic_headline.proofs.Packets.Moving.{moving_keeps}
use Rattle.quic_headline.proofs.Packets.Closes.{by_closes}
use Rattle.quic_headline.proofs.Packets.Probes.{may_leave}
use Rattle.quic_headline.proofs.Halves.Bringing.{frame_side}

-- ---- what leaves it

module _ (P : Confirmation → Type 0) where
  -- a fact of it, of an end
  abbrev pub Of : End → Type 0
  Of e = P e.confirmation

  settles : Settling Of
  settles (steps.known n) e i = i
  settles s e i = i

  -- a frame, but HANDSHAKE_DONE at a client
  pub frame_leaves : (f : FrameValue) (e : End) → (f ≡ handshake_done → side_of e ≡ Client → P (heard_done e.confirmation)) → Of e → Of (take_frame f e).end
  frame_leaves (ack a) e heard i = go (names_ungiven a e)
    where
      go : (b : Bool) → Of (ack_taken b a e).end
      go true = i
      go false = acked_keeps Of settles (is_above e.numbers.largest_acked a.largest) a (named a e) i
  frame_leaves (datagram m) e heard i = message_leaves Of m e i (λ left. i)
  frame_leaves (new_connection_id f) e heard i = go (retires_for (insert_answer e.ids.peer (frame_of f)))
    where
      retires : (b : Bool) (r : Range ℕ) → Of (retired_for b r f e).end
      retires true r = by_shortened Of _ (retiring r (with_taken_up f e)) i (λ most. i)
      retires false r = i

      go : (r : Result (Option (Range ℕ)) InsertError) → Of (id_judged r f e).end
      go (Ok None) = by_shortened Of _ (with_taken_up f e) i (λ most. i)
      go (Ok (Some r)) = retires (can_retire e.waiting.frames r.start r.end) r
      go (Err inserts.Retired) = i
      go (Err inserts.ExceedsLimit) = i
  frame_leaves (retire_connection_id n) e heard i = go (retirement_answer e.ids.own n e.ids.limit)
    where
      issues : (b : Bool) → Of (issued_if b (with_ids e (retired n e.ids)))
      issues true = i
      issues false = i

      go : (r : Result Bool ErrorValue) → Of (retirement_judged r n e).end
      go (Ok more) = issues (issues_for n e)
      go (Err error) = i
  frame_leaves (path_response token) e heard i = go (is_asked e.validation.challenge (word_of token))
    where
      go : (b : Bool) → Of (validated_if b e)
      go true = i
      go false = i
  frame_leaves (ack_frequency f) e heard i = by_frequency Of f e (λ threshold reordering frequency. i)
  frame_leaves handshake_done e heard i = go (side_of e) refl
    where
      go : (side : Side) → side_of e ≡ side → Of (done_taken side e).end
      go Client is = heard refl is
      go Server is = i
  frame_leaves f e heard i = i

  -- the next id of the peer is used, or it isn't
  next_leaves : (e : End) (a : Answer) → Of e → Of (end_on_next_id e a)
  next_leaves e (answers.UseNextId (Ok done)) i = taken (retires_for_next e.ids)
    where
      taken : (o : Option (Range ℕ)) → Of (next_id_taken o e)
      taken None = i
      taken (Some r) = by_shortened Of _ (retiring r (with_ids e (next_used e.ids))) i (λ most. i)
  next_leaves e a i = i

  -- a change of the path
  pub moved_leaves : (p : Policy) (o : Opening) (remote : ℕ) (e : End) → Of e → Of (migrated p o remote e)
  moved_leaves = moving_keeps Of (λ m x i. i) next_leaves

  -- whatever goes
  polled_leaves : (p : Policy) (e : End) (now : ℕ) → Of e → Of (polled p e now).end
  polled_leaves p e now i = by_poll p e now (λ (q : Polled). Of q.end) (record {
    silent = i;
    failed = i;
    nothing = λ c. i;
    repeats = λ is. by_closes p (with_closing e (ticked e.closing now)) (λ (q : Polled). Of q.end) i (λ f goes. i);
    closes = λ reason c bound. by_closes p (closed_by reason (at_poll e now c)) (λ (q : Polled). Of q.end) i (λ f goes. i);
    gives = λ leaving c left is may ready some. by_leave (λ (d : Draft). Of d.end) put_leaves leaving (at_poll e now c) (may_leave e now leaving (at_poll e now c) ready) i;
  })
    where
      put_leaves : Writing (λ (d : Draft). Of d.end)
      put_leaves puts.ping d may j = j
      put_leaves put d may j = j

  -- a call, but one of those, and a delivery
  pub call_leaves : (p : Policy) (e : End) (theirs : List (List ℕ)) (call : Call) (a : Answer) → is_delivery call ≡ false → asks_event call ≡ false → is_done_call call ≡ false → Of e → Of (after_call p e theirs call a)
  call_leaves p e theirs call a apart quiet other i = by_call p e theirs Of call a (record {
    same = i;
    on_streams = λ on answer. i;
    on_messages = λ on answer. i;
    pings = i;
    times = λ now expiry set. by_expired p.words e now Of (λ pending tracking timers waits asked runs packets. i) (λ pending timers waits asked runs. losses_keep Of settles (with_closing e (ticked e.closing now)) i) (λ x j. j) expiry;
    closes = λ reason f now own. i;
    waits = λ now b set. by_waits Of b (with_closing e (ticked e.closing now)) i i;
    changes_id = λ uses answer. next_leaves e a i;
    says_handshake = λ says answer. cc;
    polls = λ now set. polled_leaves p e now i;
    hears = λ arrival d set. cc;
    tells = λ asks. cc;
  })

-- ---- the frames of a packet

-- what HANDSHAKE_DONE keeps at a client, all frames of a packet do
module _ (P : Confirmation → Type 0) (side : Side) (heard : side ≡ Client → (c : Confirmation) → P c → P (heard_done c)) where
  pub packet_leaves : (frames : List FrameValue) (e : End) → side_of e ≡ side → P e.confirmation → P (passed frames e).end.confirmation
  packet_leaves frames e of_side i = (frames_keep (λ (x : End). (side_of x ≡ side) × P x.confirmation)
      (λ f x j. (frame_side side f x j.0, frame_leaves P f x (λ is client. heard (sym j.0 ∙ client) x.confirmation j.1) j.1)) frames e (of_side, i)).1

-- where it is confirmed, that stays
pub stays_confirmed : (frames : List FrameValue) (e : End) → e.confirmation.confirmed ≡ true → (passed frames e).end.confirmation.confirmed ≡ true
stays_confirmed frames e set = frames_keep (λ (x : End). x.confirmation.confirmed ≡ true) (λ f x j. frame_leaves (λ (c : Confirmation). c.confirmed ≡ true) f x (λ is client. refl) j) frames e set

-- where HANDSHAKE_DONE is taken, it is confirmed
pub taken_confirms : (frames : List FrameValue) (e : End) → (passed frames e).fault ≡ None → In handshake_done frames → (passed frames e).end.confirmation.confirmed ≡ true
taken_confirms frames e none among = elim (frames_taken (λ (left : List FrameValue) (x : End). In handshake_done left ⊎ (x.confirmation.confirmed ≡ true)) step frames e none (inl among)) [ inl left ↦ absurd left | inr set ↦ set ]
  where
    confirms : (x : End) → (take_frame handshake_done x).fault ≡ None → (take_frame handshake_done x).end.confirmation.confirmed ≡ true
    confirms x = go (side_of x)
      where
        go : (side : Side) → (done_taken side x).fault ≡ None → (done_taken side x).end.confirmation.confirmed ≡ true
        go Client taken = refl
        go Server taken = cc

    step : (f : FrameValue) (left : List FrameValue) (x : End) → (take_frame f x).fault ≡ None → In handshake_done (f ∷ left) ⊎ (x.confirmation.confirmed ≡ true) → In handshake_done left ⊎ ((take_frame f x).end.confirmation.confirmed ≡ true)
    step f left x taken (inl (inl same)) = inr (subst (λ (g : FrameValue). (take_frame g x).fault ≡ None → (take_frame g x).end.confirmation.confirmed ≡ true) same (confirms x) taken)
    step f left x taken (inl (inr later)) = inl later
    step f left x taken (inr set) = inr (frame_leaves (λ (c : Confirmation). c.confirmed ≡ true) f x (λ is client. refl) set)

module _ (frames : List FrameValue) (e : End) where
  -- it was confirmed before, or HANDSHAKE_DONE is among the frames
  abbrev By : Type 0
  By = (e.confirmation.confirmed ≡ true) ⊎ In handshake_done frames

  -- with these left, which are some of them
  abbrev Left : List FrameValue → End → Type 0
  Left left x = ((g : FrameValue) → In g left → In g frames) × (x.confirmation.confirmed ≡ true → By)

  left_step : (f : FrameValue) (left : List FrameValue) (x : End) → Left (f ∷ left) x → Left left (take_frame f x).end
  left_step f left x i = ((λ g j. i.0 g (inr j)), frame_leaves (λ (c : Confirmation). c.confirmed ≡ true → By) f x (λ is client set. inr (i.0 handshake_done (inl (sym is)))) i.1)

  -- so it is where it is confirmed behind them, taken or refused
  pub confirmed_by : (passed frames e).end.confirmation.confirmed ≡ true → By
  confirmed_by = (frames_leave Left left_step frames e ((λ g j. j), λ set. inl set)).1.1
