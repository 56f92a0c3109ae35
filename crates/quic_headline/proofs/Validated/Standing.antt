-- Whether the address of an end's peer is validated, what the peer is asked, and when it is asked
-- anew: only PATH_RESPONSE, a poll and a moment change that, and that the end closes. And the
-- answer to the peer that waits: only PATH_CHALLENGE and a poll change that.
use Rattle.std.proofs.Common.{◌≡◌, ℕ, ◌+◌, Bool, true, false, List, [], ◌∷◌, Option, Some, None, Result, Ok, Err, refl, sym, ap, ◌∙◌, subst}
use Rattle.std.specs.Prelude.{nat_lt, if◌then◌else◌}
use Rattle.std.specs.declared.ops.Range.{Range}
use Rattle.quic_wire_core.specs.declared.shared.EcnCodepoint.{EcnCodepoint}
use Rattle.quic_wire_core.specs.TransportError.{ErrorValue}
use Rattle.quic_wire.specs.Value.{FrameValue, ack, datagram, path_challenge, path_response, handshake_done, new_connection_id, retire_connection_id, ack_frequency}
use Rattle.quic_ids.specs.CidState.{retirement_answer}
use Rattle.quic_ids.specs.CidQueue.{insert_answer}
use Rattle.quic_ids.specs.declared.cid_queue.InsertError.{InsertError}
use Rattle.quic_ids.specs.declared.cid_queue.InsertError.TheVariants as inserts
use Rattle.quic_paths.specs.Paths.{is_asked}
use Rattle.quic_paths.specs.Responses.{Response, newest}
use Rattle.quic_retransmits.specs.Retransmits.{can_retire}
use Rattle.quic_recovery_core.specs.PendingAcks.{after_insert, packet_starts_wait}
use Rattle.quic_spaces.specs.Acknowledging.{ack_due, with_due}
use Rattle.quic_machine.specs.declared.run.Call.{Call}
use Rattle.quic_machine.specs.declared.run.Answer.{Answer}
use Rattle.quic_machine.specs.declared.run.Answer.TheVariants as answers
use Rattle.quic_machine.specs.Policy.{Policy}
use Rattle.quic_machine.specs.MessageCalls.{most_message}
use Rattle.quic_machine.specs.Sizes.{without_longer_if, shortened}
use Rattle.quic_machine.specs.Closing.{ticked}
use Rattle.quic_machine.specs.Ids.{frame_of, retires_for, retired, retires_for_next, next_used}
use Rattle.quic_machine.specs.IdFrames.{retiring, with_taken_up, issued_if, issues_for, next_id_taken, end_on_next_id}
use Rattle.quic_machine.specs.Validation.{Asked, asked_of, word_of, validated_if, most_challenges, challenged_anew, path_expired}
use Rattle.quic_machine.specs.End.{End, words_drawn, with_ids, with_closing, with_ack_timer, validation_moment}
use Rattle.quic_machine.specs.Receive.{is_above, names_ungiven, retired_for, id_judged, retirement_judged, take_frame, after_taken}
use Rattle.quic_machine.specs.Timeouts.{Expiry, acks_expired, pacing_expired, loss_judged, loss_expired, unless_idle, after_expiry}
use Rattle.quic_machine.specs.Idle.{keep_alive_expired}
use Rattle.quic_machine.specs.Machine.{after_call}
use Rattle.quic_machine.specs.FrameCases.{Settling, passed, ack_taken, named, acked_keeps, losses_keep, message_leaves, frames_taken}
use Rattle.quic_machine.specs.Steps as steps
use Rattle.quic_machine.specs.CallCases.{is_delivery, is_poll, is_timeout, Plain, by_plain_call}
use Rattle.quic_machine.specs.CallCases as cases
use Rattle.quic_headline.specs.Waited.{is_path_challenge, is_path_response}
use Rattle.quic_headline.proofs.Packets.Apart.{by_waits, by_frequency, by_heard_done}

-- whether the address of an end's peer is validated, what the peer is asked, and when it is asked
-- anew
pub record Standing : Type 0 where
  pub validated : Bool
  pub asked : Asked
  pub due : Option ℕ

abbrev pub standing : End → Standing
standing e = record { validated = e.path.validated; asked = asked_of e; due = e.timers.path_validation }

-- behind PATH_RESPONSE that is right, or isn't
abbrev pub answered_if : Bool → Standing → Standing
answered_if true s = record { validated = true; asked = record { validation = record s.asked.validation { challenge = None }; waits = None }; due = None }
answered_if false s = s

-- behind PATH_RESPONSE with this token
abbrev pub answered : List ℕ → Standing → Standing
answered token s = answered_if (is_asked s.asked.validation.challenge (word_of token)) s

-- where the peer is asked anew, to answer this word until this moment
abbrev pub asked_anew : ℕ → ℕ → Standing → Standing
asked_anew word moment s = record { validated = s.validated; asked = record { validation = record { challenge = Some word; drawn = s.asked.validation.drawn + 1 }; waits = Some word }; due = Some moment }

-- where it isn't asked anew any more
abbrev pub asked_no_more : Standing → Standing
asked_no_more s = record s { due = None }

-- ---- with what is to be answered

-- how an end asks, the number of the packet that opened last, and the answer that waits to be sent
pub record Seen : Type 0 where
  pub standing : Standing
  pub present : ℕ
  pub response : Option Response

abbrev pub seeing : End → Seen
seeing e = record { standing = standing e; present = e.numbers.present; response = e.waiting.signals.response }

-- behind PATH_RESPONSE with this token
abbrev pub seen_answered : List ℕ → Seen → Seen
seen_answered token s = record s { standing = answered token s.standing }

-- behind PATH_CHALLENGE with this token
abbrev pub seen_asked : List ℕ → Seen → Seen
seen_asked token s = record s { response = newest s.response (record { packet = s.present; token = word_of token }) }

-- where the peer is asked anew, or isn't any more
abbrev pub seen_anew : ℕ → ℕ → Seen → Seen
seen_anew word moment s = record s { standing = asked_anew word moment s.standing }

abbrev pub seen_no_more : Seen → Seen
seen_no_more s = record s { standing = asked_no_more s.standing }

module _ (Q : Seen → Type 0) where
  abbrev pub Of : End → Type 0
  Of e = Q (seeing e)

  settles : Settling Of
  settles (steps.known n) e i = i
  settles s e i = i

  -- messages that are dropped leave it
  shortened_sees : (b : Bool) (e : End) → Of e → Of (shortened b e)
  shortened_sees false e i = i
  shortened_sees true e i = lasts (most_message e)
    where
      lasts : (o : Option ℕ) → Of (without_longer_if o e)
      lasts None = i
      lasts (Some most) = i

  -- so does each frame but those of path validation
  pub frame_sees : (f : FrameValue) (e : End) → ((token : List ℕ) → f ≡ path_response token → Q (seen_answered token (seeing e))) → ((token : List ℕ) → f ≡ path_challenge token → Q (seen_asked token (seeing e)))
      → (is_path_response f ≡ false → is_path_challenge f ≡ false → Of e) → Of (take_frame f e).end
  frame_sees (ack a) e told asks other = go (names_ungiven a e)
    where
      go : (b : Bool) → Of (ack_taken b a e).end
      go true = other refl refl
      go false = acked_keeps Of settles (is_above e.numbers.largest_acked a.largest) a (named a e) (other refl refl)
  frame_sees (datagram m) e told asks other = message_leaves Of m e (other refl refl) (λ left. other refl refl)
  frame_sees (new_connection_id f) e told asks other = go (retires_for (insert_answer e.ids.peer (frame_of f)))
    where
      retires : (b : Bool) (r : Range ℕ) → Of (retired_for b r f e).end
      retires true r = shortened_sees _ (retiring r (with_taken_up f e)) (other refl refl)
      retires false r = other refl refl

      go : (r : Result (Option (Range ℕ)) InsertError) → Of (id_judged r f e).end
      go (Ok None) = shortened_sees _ (with_taken_up f e) (other refl refl)
      go (Ok (Some r)) = retires (can_retire e.waiting.frames r.start r.end) r
      go (Err inserts.Retired) = other refl refl
      go (Err inserts.ExceedsLimit) = other refl refl
  frame_sees (retire_connection_id n) e told asks other = go (retirement_answer e.ids.own n e.ids.limit)
    where
      issues : (b : Bool) → Of (issued_if b (with_ids e (retired n e.ids)))
      issues true = other refl refl
      issues false = other refl refl

      go : (r : Result Bool ErrorValue) → Of (retirement_judged r n e).end
      go (Ok more) = issues (issues_for n e)
      go (Err error) = other refl refl
  frame_sees (path_response token) e told asks other = go (is_asked e.validation.challenge (word_of token)) (told token refl)
    where
      go : (b : Bool) → Q (record (seeing e) { standing = answered_if b (standing e) }) → Of (validated_if b e)
      go true j = j
      go false j = j
  frame_sees handshake_done e told asks other = by_heard_done Of e (other refl refl) (λ c. other refl refl)
  frame_sees (ack_frequency r) e told asks other = by_frequency Of r e (λ threshold reordering frequency. other refl refl)
  frame_sees (path_challenge token) e told asks other = asks token refl
  frame_sees f e told asks other = other refl refl

  -- the next id of the peer is used, or it isn't
  pub next_sees : (e : End) (a : Answer) → Of e → Of (end_on_next_id e a)
  next_sees e (answers.UseNextId (Ok done)) i = taken (retires_for_next e.ids)
    where
      taken : (o : Option (Range ℕ)) → Of (next_id_taken o e)
      taken None = i
      taken (Some r) = shortened_sees _ (retiring r (with_ids e (next_used e.ids))) i
  next_sees e a i = i

  -- a packet that was taken leaves it, whether or not it starts a wait for an acknowledgement
  pub taken_sees : (n : ℕ) (asking urged : Bool) (mark : Option EcnCodepoint) (e : End) → Of e → Of (after_taken n asking urged mark e)
  taken_sees n asking urged mark e i = go (packet_starts_wait (with_due urged (after_insert e.acknowledging n e.closing.clock)) n asking e.numbers.opened)
    where
      go : (b : Bool) → Q (record (seeing e) { standing = record (standing e) { due = (if b then with_ack_timer e.timers (Some (ack_due e.frequency.own_delay e.closing.clock)) else e.timers).path_validation } })
      go true = i
      go false = i

  -- timers expire: what stays where the peer is asked anew, and where it isn't any more, stays
  judged_sees : (o : Option ℕ) (e : End) → Of e → Of (loss_judged o e)
  judged_sees None e i = i
  judged_sees (Some moment) e i = losses_keep Of settles e i

  pub lost_sees : (b : Bool) (e : End) → Of e → Of (loss_expired b e)
  lost_sees true e i = judged_sees e.tracking.loss_time e i
  lost_sees false e i = i

  alive_sees : (b : Bool) (e : End) → Of e → Of (keep_alive_expired b e)
  alive_sees true e i = i
  alive_sees false e i = i

  paced_sees : (b : Bool) (e : End) → Of e → Of (pacing_expired b e)
  paced_sees true e i = i
  paced_sees false e i = i

  acks_see : (b : Bool) (e : End) → Of e → Of (acks_expired b e)
  acks_see true e i = i
  acks_see false e i = i

  module _ (words : ℕ → ℕ) (stops : (s : Seen) → Q s → Q (seen_no_more s)) where
    path_sees : (b : Bool) → (b ≡ true → (n moment : ℕ) (s : Seen) → Q s → Q (seen_anew (words n) moment s)) → (e : End) → Of e → Of (path_expired words b e)
    path_sees true anew e i = go (nat_lt e.validation.drawn most_challenges)
      where
        go : (b : Bool) → Of (challenged_anew words b e)
        go true = anew refl (words_drawn e) (validation_moment e) (seeing e) i
        go false = stops (seeing e) i
    path_sees false anew e i = i

    pub expired_sees : (x : Expiry) → (x.path ≡ true → (n moment : ℕ) (s : Seen) → Q s → Q (seen_anew (words n) moment s)) → (e : End) → Of e → Of (after_expiry words x e)
    expired_sees x anew e i = go x.idle
      where
        lost : End
        lost = loss_expired x.loss e

        asked : End
        asked = path_expired words x.path lost

        alive : End
        alive = keep_alive_expired x.keep_alive asked

        paced : End
        paced = pacing_expired x.pacing alive

        still : Of lost
        still = lost_sees x.loss e i

        go : (b : Bool) → Of (unless_idle b words x lost)
        go true = stops (seeing lost) still
        go false = acks_see x.acks paced (paced_sees x.pacing alive (alive_sees x.keep_alive asked (path_sees x.path anew lost still)))

  -- what stays where the peer is asked anew, if a moment came, and where it isn't asked any more,
  -- stays by any call that is no poll and no delivery
  pub call_sees : (p : Policy) (e : End) (theirs : List (List ℕ)) (call : Call) (a : Answer) → is_delivery call ≡ false → is_poll call ≡ false → (is_timeout call ≡ true → (n moment : ℕ) (s : Seen) → Q s → Q (seen_anew (p.words n) moment s)) → ((s : Seen) → Q s → Q (seen_no_more s)) → Of e → Of (after_call p e theirs call a)
  call_sees p e theirs call a apart silent anew stops i = by_plain_call p e theirs Of call a keep
    where
      keep : Plain p e call Of
      keep (cases.times now expiry) may = expired_sees p.words stops expiry (λ comes. anew may) (with_closing e (ticked e.closing now)) i
      keep (cases.polls now) may = (let clash : true ≡ false = sym may ∙ silent in cc)
      keep (cases.hears arrival d) may = (let clash : true ≡ false = sym may ∙ apart in cc)
      keep (cases.closes reason f now) may = stops (seeing e) i
      keep (cases.waits now b) may = by_waits Of b (with_closing e (ticked e.closing now)) (stops (seeing e) i) i
      keep (cases.changes_id a) may = next_sees e a i
      keep c may = i

-- so it is with what is kept of the frames that are left, behind a packet of which all were taken
pub frames_see : (Q : List FrameValue → Seen → Type 0) → ((token : List ℕ) (left : List FrameValue) (s : Seen) → Q (path_response token ∷ left) s → Q left (seen_answered token s)) → ((token : List ℕ) (left : List FrameValue) (s : Seen) → Q (path_challenge token ∷ left) s → Q left (seen_asked token s))
    → ((f : FrameValue) (left : List FrameValue) (s : Seen) → is_path_response f ≡ false → is_path_challenge f ≡ false → Q (f ∷ left) s → Q left s)
    → (fs : List FrameValue) (e : End) → (passed fs e).fault ≡ None → Q fs (seeing e) → Q [] (seeing (passed fs e).end)
frames_see Q told asks others fs e none i = frames_taken (λ (left : List FrameValue) (x : End). Q left (seeing x)) step fs e none i
  where
    step : (f : FrameValue) (left : List FrameValue) (x : End) → (take_frame f x).fault ≡ None → Q (f ∷ left) (seeing x) → Q left (seeing (take_frame f x).end)
    step f left x taken j =
        frame_sees (Q left) f x (λ token is. told token left (seeing x) (subst (λ (g : FrameValue). Q (g ∷ left) (seeing x)) is j)) (λ token is. asks token left (seeing x) (subst (λ (g : FrameValue). Q (g ∷ left) (seeing x)) is j))
        (λ other same. others f left (seeing x) other same j)

-- ---- without it

module _ (Q : Standing → Type 0) where
  abbrev Within : Seen → Type 0
  Within s = Q s.standing

  -- a frame
  pub frame_stands : (f : FrameValue) (e : End) → ((token : List ℕ) → f ≡ path_response token → Q (answered token (standing e))) → (is_path_response f ≡ false → Q (standing e)) → Q (standing (take_frame f e).end)
  frame_stands f e told other = frame_sees Within f e told (λ token is. other (ap is_path_response is)) (λ answers asks. other answers)

  -- the next id of the peer is used, or it isn't
  pub next_stands : (e : End) (a : Answer) → Q (standing e) → Q (standing (end_on_next_id e a))
  next_stands e a i = next_sees Within e a i

  -- a packet that was taken
  pub taken_stands : (n : ℕ) (asking urged : Bool) (mark : Option EcnCodepoint) (e : End) → Q (standing e) → Q (standing (after_taken n asking urged mark e))
  taken_stands n asking urged mark e i = taken_sees Within n asking urged mark e i

  -- losses are detected
  pub lost_stands : (b : Bool) (e : End) → Q (standing e) → Q (standing (loss_expired b e))
  lost_stands b e i = lost_sees Within b e i

  -- timers that expire
  pub expired_stands : (words : ℕ → ℕ) → ((s : Standing) → Q s → Q (asked_no_more s)) → (x : Expiry) → (x.path ≡ true → (n moment : ℕ) (s : Standing) → Q s → Q (asked_anew (words n) moment s)) → (e : End) → Q (standing e) → Q (standing (after_expiry words x e))
  expired_stands words stops x anew e i = expired_sees Within words (λ s. stops s.standing) x (λ is n moment s. anew is n moment s.standing) e i

  -- any call that is no poll and no delivery
  pub call_stands : (p : Policy) (e : End) (theirs : List (List ℕ)) (call : Call) (a : Answer) → is_delivery call ≡ false → is_poll call ≡ false → (is_timeout call ≡ true → (n moment : ℕ) (s : Standing) → Q s → Q (asked_anew (p.words n) moment s)) → ((s : Standing) → Q s → Q (asked_no_more s)) → Q (standing e)
      → Q (standing (after_call p e theirs call a))
  call_stands p e theirs call a apart silent anew stops i = call_sees Within p e theirs call a apart silent (λ is n moment s. anew is n moment s.standing) (λ s. stops s.standing) i

-- what is kept of the frames that are left, where each frame is taken away, holds behind a packet
-- of which all were taken
pub frames_stand : (Q : List FrameValue → Standing → Type 0) → ((token : List ℕ) (left : List FrameValue) (s : Standing) → Q (path_response token ∷ left) s → Q left (answered token s))
    → ((f : FrameValue) (left : List FrameValue) (s : Standing) → is_path_response f ≡ false → Q (f ∷ left) s → Q left s)
    → (fs : List FrameValue) (e : End) → (passed fs e).fault ≡ None → Q fs (standing e) → Q [] (standing (passed fs e).end)
frames_stand Q told others fs e none i = frames_taken (λ (left : List FrameValue) (x : End). Q left (standing x)) step fs e none i
  where
    step : (f : FrameValue) (left : List FrameValue) (x : End) → (take_frame f x).fault ≡ None → Q (f ∷ left) (standing x) → Q left (standing (take_frame f x).end)
    step f left x taken j = frame_stands (Q left) f x (λ token is. told token left (standing x) (subst (λ (g : FrameValue). Q (g ∷ left) (standing x)) is j)) (λ other. others f left (standing x) other j)
