-- The peer's id in use is as long as an own id, whichever of those is used that are known: so no
-- message is dropped for another one.
use Rattle.std.proofs.Common.{◌≡◌, ℕ, Bool, true, false, List, length, Option, Some, None, Result, Ok, Err, refl, sym, ap, ◌∙◌, subst, inl, inr, arith}
use Rattle.std.specs.Prelude.{nat_lt}
use Rattle.std.specs.declared.ops.Range.{Range}
use Rattle.std.proofs.lemmas.Bool.{le-ltb}
use Rattle.quic_wire_core.specs.TransportError.{ErrorValue}
use Rattle.quic_wire.specs.Value.{FrameValue, ack, stream, reset_stream, stop_sending, max_data, max_stream_data, max_streams, datagram, new_connection_id, retire_connection_id, path_response, handshake_done, ack_frequency}
use Rattle.quic_paths.specs.Paths.{is_asked}
use Rattle.quic_retransmits.specs.Retransmits.{can_retire}
use Rattle.quic_ids.specs.CidState.{retirement_answer}
use Rattle.quic_ids.specs.CidQueue.{after_insert, insert_answer, after_next}
use Rattle.quic_ids.specs.declared.cid_queue.InsertError.{InsertError}
use Rattle.quic_ids.specs.declared.cid_queue.InsertError.TheVariants as inserts
use Rattle.quic_machine.specs.declared.run.Answer.{Answer}
use Rattle.quic_machine.specs.declared.run.Answer.TheVariants as answers
use Rattle.quic_machine.specs.Ids.{own_id_length, frame_of, retires_for, retired, retires_for_next, next_used}
use Rattle.quic_machine.specs.IdFrames.{retiring, with_taken_up, issued_if, issues_for, next_id_taken, end_on_next_id}
use Rattle.quic_machine.specs.MessageCalls.{most_message}
use Rattle.quic_machine.specs.Sizes.{without_longer_if, shortened}
use Rattle.quic_machine.specs.Validation.{word_of, validated_if}
use Rattle.quic_machine.specs.End.{End, with_ids}
use Rattle.quic_machine.specs.Receive.{Outcome, is_above, names_ungiven, retired_for, id_judged, retirement_judged, take_frame}
use Rattle.quic_machine.specs.FrameCases.{Settling, IsApart, named, ack_taken, acked_keeps, message_leaves, begun, passed, frames_leave}
use Rattle.quic_machine.specs.Steps as steps
use Rattle.quic_headline.specs.Runs.{Intake}
use Rattle.quic_headline.proofs.Packets.Delivered.{Arrivals}
use Rattle.quic_headline.proofs.Packets.Ids.{SaysIds, AllSayIds, IsLong, AnyNumber, KnownLong, insert_long, next_long}
use Rattle.quic_headline.proofs.Packets.Sizes.{Sizing, sizing, Searching, taken_size}
use Rattle.quic_headline.proofs.Packets.Apart.{by_frequency, by_heard_done}
use Rattle.quic_headline.proofs.Packets.Moving.{moving_keeps}

-- ---- the ids that are known

settles : Settling (λ (x : End). KnownLong x.ids.peer)
settles (steps.known n) e k = k
settles s e k = k

-- messages that are dropped leave them
lasts_long : (o : Option ℕ) (x : End) → KnownLong x.ids.peer → KnownLong (without_longer_if o x).ids.peer
lasts_long None x k = k
lasts_long (Some most) x k = k

fits_long : (b : Bool) (x : End) → KnownLong x.ids.peer → KnownLong (shortened b x).ids.peer
fits_long true x k = lasts_long (most_message x) x k
fits_long false x k = k

-- any frame leaves them as long, if the id is that it brings
pub frame_known : (f : FrameValue) (e : End) → SaysIds IsLong AnyNumber f → KnownLong e.ids.peer → KnownLong (take_frame f e).end.ids.peer
frame_known (ack a) e says k = go (names_ungiven a e)
  where
    go : (b : Bool) → KnownLong (ack_taken b a e).end.ids.peer
    go true = k
    go false = acked_keeps (λ (x : End). KnownLong x.ids.peer) settles (is_above e.numbers.largest_acked a.largest) a (named a e) k
frame_known (datagram m) e says k = message_leaves (λ (x : End). KnownLong x.ids.peer) m e k (λ left. k)
frame_known (new_connection_id f) e says k = judged (retires_for (insert_answer e.ids.peer (frame_of f)))
  where
    new : KnownLong (after_insert e.ids.peer (frame_of f))
    new = insert_long e.ids.peer (frame_of f) k says

    retires : (b : Bool) (r : Range ℕ) → KnownLong (retired_for b r f e).end.ids.peer
    retires true r = fits_long _ (retiring r (with_taken_up f e)) new
    retires false r = new

    judged : (r : Result (Option (Range ℕ)) InsertError) → KnownLong (id_judged r f e).end.ids.peer
    judged (Ok None) = fits_long _ (with_taken_up f e) new
    judged (Ok (Some r)) = retires (can_retire e.waiting.frames r.start r.end) r
    judged (Err inserts.Retired) = k
    judged (Err inserts.ExceedsLimit) = k
frame_known (retire_connection_id n) e says k = judged (retirement_answer e.ids.own n e.ids.limit)
  where
    issues : (b : Bool) → KnownLong (issued_if b (with_ids e (retired n e.ids))).ids.peer
    issues true = k
    issues false = k

    judged : (r : Result Bool ErrorValue) → KnownLong (retirement_judged r n e).end.ids.peer
    judged (Ok more) = issues (issues_for n e)
    judged (Err error) = k
frame_known (path_response token) e says k = go (is_asked e.validation.challenge (word_of token))
  where
    go : (b : Bool) → KnownLong (validated_if b e).ids.peer
    go true = k
    go false = k
frame_known handshake_done e says k = by_heard_done (λ (x : End). KnownLong x.ids.peer) e k (λ c. k)
frame_known (ack_frequency r) e says k = by_frequency (λ (x : End). KnownLong x.ids.peer) r e (λ threshold reordering frequency. k)
frame_known f e says k = k

-- ---- how long messages may be

-- where no id is longer, no message is dropped
fits_same : (b : Bool) (x : End) → b ≡ false → sizing (shortened b x) ≡ sizing x
fits_same true x off = cc
fits_same false x off = refl

-- neither of two is longer that are as long
not_longer : (less more : ℕ) → less ≡ own_id_length → more ≡ own_id_length → nat_lt less more ≡ false
not_longer less more one other = le-ltb less more (omega arith)

-- a frame apart from streams leaves how long messages may be, and which wait
pub apart_same : (f : FrameValue) (e : End) → IsApart f → SaysIds IsLong AnyNumber f → KnownLong e.ids.peer → sizing (take_frame f e).end ≡ sizing e
apart_same (ack a) e apart says k = absurd apart
apart_same (stream f) e apart says k = absurd apart
apart_same (reset_stream f) e apart says k = absurd apart
apart_same (stop_sending f) e apart says k = absurd apart
apart_same (max_data limit) e apart says k = absurd apart
apart_same (max_stream_data f) e apart says k = absurd apart
apart_same (max_streams f) e apart says k = absurd apart
apart_same (datagram m) e apart says k = absurd apart
apart_same (new_connection_id f) e apart says k = judged (retires_for (insert_answer e.ids.peer (frame_of f)))
  where
    new : KnownLong (after_insert e.ids.peer (frame_of f))
    new = insert_long e.ids.peer (frame_of f) k says

    wide : record (sizing e) { width = length (after_insert e.ids.peer (frame_of f)).id } ≡ sizing e
    wide = ap (λ (n : ℕ). record (sizing e) { width = n }) (new.used ∙ sym k.used)

    short : nat_lt (length e.ids.peer.id) (length (after_insert e.ids.peer (frame_of f)).id) ≡ false
    short = not_longer (length e.ids.peer.id) (length (after_insert e.ids.peer (frame_of f)).id) k.used new.used

    retires : (b : Bool) (r : Range ℕ) → sizing (retired_for b r f e).end ≡ sizing e
    retires true r = fits_same _ (retiring r (with_taken_up f e)) short ∙ wide
    retires false r = wide

    judged : (r : Result (Option (Range ℕ)) InsertError) → sizing (id_judged r f e).end ≡ sizing e
    judged (Ok None) = fits_same _ (with_taken_up f e) short ∙ wide
    judged (Ok (Some r)) = retires (can_retire e.waiting.frames r.start r.end) r
    judged (Err inserts.Retired) = refl
    judged (Err inserts.ExceedsLimit) = refl
apart_same (retire_connection_id n) e apart says k = judged (retirement_answer e.ids.own n e.ids.limit)
  where
    issues : (b : Bool) → sizing (issued_if b (with_ids e (retired n e.ids))) ≡ sizing e
    issues true = refl
    issues false = refl

    judged : (r : Result Bool ErrorValue) → sizing (retirement_judged r n e).end ≡ sizing e
    judged (Ok more) = issues (issues_for n e)
    judged (Err error) = refl
apart_same (path_response token) e apart says k = go (is_asked e.validation.challenge (word_of token))
  where
    go : (b : Bool) → sizing (validated_if b e) ≡ sizing e
    go true = refl
    go false = refl
apart_same handshake_done e apart says k = by_heard_done (λ (x : End). sizing x ≡ sizing e) e refl (λ c. refl)
apart_same (ack_frequency r) e apart says k = by_frequency (λ (x : End). sizing x ≡ sizing e) r e (λ threshold reordering frequency. refl)
apart_same f e apart says k = refl

-- so does the next id of the peer, where it is used
pub next_same : (e : End) (a : Answer) → KnownLong e.ids.peer → sizing (end_on_next_id e a) ≡ sizing e
next_same e (answers.UseNextId (Ok done)) k = taken (retires_for_next e.ids)
  where
    new : KnownLong (after_next e.ids.peer)
    new = next_long e.ids.peer k

    taken : (o : Option (Range ℕ)) → sizing (next_id_taken o e) ≡ sizing e
    taken None = refl
    taken (Some r) =
        fits_same _ (retiring r (with_ids e (next_used e.ids))) (not_longer (length e.ids.peer.id) (length (after_next e.ids.peer).id) k.used new.used)
        ∙ ap (λ (n : ℕ). record (sizing e) { width = n }) (new.used ∙ sym k.used)
next_same e a k = refl

-- whose ids are as long still
pub next_known : (e : End) (a : Answer) → KnownLong e.ids.peer → KnownLong (end_on_next_id e a).ids.peer
next_known e (answers.UseNextId (Ok done)) k = taken (retires_for_next e.ids)
  where
    taken : (o : Option (Range ℕ)) → KnownLong (next_id_taken o e).ids.peer
    taken None = k
    taken (Some r) = fits_long _ (retiring r (with_ids e (next_used e.ids))) (next_long e.ids.peer k)
next_known e a k = k

-- ---- a delivery

module _ (Q : Sizing → Type 0) (c : Searching Q) where
  -- all frames of a packet keep what packets that are acknowledged or lost keep
  frames_size : (fs : List FrameValue) (e : End) → AllSayIds IsLong AnyNumber fs → KnownLong e.ids.peer → Q (sizing e) → KnownLong (passed fs e).end.ids.peer × Q (sizing (passed fs e).end)
  frames_size fs e says k i =
      (frames_leave (λ (left : List FrameValue) (x : End). AllSayIds IsLong AnyNumber left × (KnownLong x.ids.peer × Q (sizing x)))
      (λ f left x j. (
        (λ g among. j.0 g (inr among)),
        (frame_known f x (j.0 f (inl refl)) j.1.0, taken_size Q c f x (λ is. subst Q (sym (apart_same f x is (j.0 f (inl refl)) j.1.0)) j.1.1) j.1.1),
      )) fs e (says, (k, i))).1.1

  -- a delivery keeps it, and how long the ids of the peer are
  pub arrivals_size : (e : End) (now n : ℕ) (frames taken : List FrameValue) (came : Intake) → AllSayIds IsLong AnyNumber taken → KnownLong e.ids.peer → Q (sizing e) → Arrivals e now n frames taken came (λ (o : Outcome) (i : Intake). KnownLong o.end.ids.peer × Q (sizing o.end))
  arrivals_size e now n frames taken came says k i = record {
    ignored = λ reason. (k, i);
    noted = λ state reason. (k, i);
    takes = λ words state new none urged mark. after;
    moves = λ p o same remote x opened j. moving_keeps (λ (y : End). KnownLong y.ids.peer × Q (sizing y)) (λ m y b. b) (λ y a b. (next_known y a b.0, subst Q (sym (next_same y a b.0)) b.1)) p o remote x j;
    drains = λ words state new close is. after;
    refuses = λ words state new f is. after;
    exhausts = λ state. (k, i);
  }
    where
      after : (let left : End = (passed taken (begun e now n)).end in KnownLong left.ids.peer × Q (sizing left))
      after = frames_size taken (begun e now n) says k i
