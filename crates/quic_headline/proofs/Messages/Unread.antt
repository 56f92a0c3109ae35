-- What the frames of a packet leave of the messages that wait to be received is what the observer
-- says of their messages.
use Rattle.std.proofs.Common.{◌≡◌, ℕ, zero, suc, ◌+◌, Bool, true, false, nat_le, List, [], ◌∷◌, ◌++◌, length, take, Option, Some, None, Ok, Err, refl, sym, ap, ◌∙◌, inl, inr, ◌⊎◌, arith}
use Rattle.std.specs.Prelude.{◌==◌, if◌then◌else◌}
use Rattle.std.proofs.lemmas.List.{append_assoc, append-nil, take-map}
use Rattle.std.proofs.lemmas.List.Sums.{sum_by-append}
use Rattle.quic_wire.specs.Value.{FrameValue, connection_close, application_close, datagram}
use Rattle.quic_config.specs.Transport.{TransportSettings}
use Rattle.quic_messages.specs.declared.errors.ReceivedError.TheVariants as received_errors
use Rattle.quic_messages.specs.Messages.{Messages, weight, bytes_of, left_for, with_message, received_answer, after_received}
use Rattle.quic_machine.specs.DraftLaws.{IsClose}
use Rattle.quic_machine.specs.Migration.{as_elsewhere}
use Rattle.quic_machine.specs.End.{End}
use Rattle.quic_machine.specs.Receive.{message_judged, take_frame}
use Rattle.quic_machine.specs.FrameCases.{passed, frames_leave, frames_taken}
use Rattle.quic_headline.specs.Runs.{In}
use Rattle.quic_headline.specs.LoneMessages.{before_close}
use Rattle.quic_headline.specs.Queue.{messages_in}
use Rattle.quic_headline.specs.Inbox.{bytes_kept, latest_kept, and_message, and_messages}
use Rattle.quic_headline.proofs.Packets.Owing.{IsAlone}
use Rattle.quic_headline.proofs.Packets.Delivered.{frames_at}
use Rattle.quic_headline.proofs.Channel.Plain.{frame_transport}
use Rattle.quic_headline.proofs.Messages.Counted.{messages_append, close_none}
use Rattle.quic_headline.proofs.Messages.Kept.{frame_messages}
use Rattle.quic_headline.proofs.Messages.Coming.{messages_at}

-- ---- the buffer

-- one that comes, and the latest that have room beside it
module _ (room : ℕ) (m : List ℕ) where
  -- so many bytes they take
  bytes_are : (ms : List (List ℕ)) → bytes_kept (ms ++ m ∷ []) ≡ bytes_of weight ms + weight m
  bytes_are ms = (let both = sum_by-append weight ms (m ∷ []) in omega (arith, both))

  -- the first of them stays, or goes
  first_kept : (x : List ℕ) (ms : List (List ℕ)) → latest_kept room (ms ++ m ∷ []) ≡ left_for weight room (weight m) ms ++ m ∷ []
      → (if nat_le (bytes_kept (x ∷ (ms ++ m ∷ []))) room then x ∷ (ms ++ m ∷ []) else latest_kept room (ms ++ m ∷ [])) ≡ left_for weight room (weight m) (x ∷ ms) ++ m ∷ []
  first_kept x ms rest =
      ap (λ (bytes : ℕ). if nat_le bytes room then x ∷ (ms ++ m ∷ []) else latest_kept room (ms ++ m ∷ [])) (bytes_are (x ∷ ms))
      ∙ go (nat_le (bytes_of weight (x ∷ ms) + weight m) room)
    where
      go : (b : Bool) → (if b then x ∷ (ms ++ m ∷ []) else latest_kept room (ms ++ m ∷ [])) ≡ (if b then x ∷ ms else left_for weight room (weight m) ms) ++ m ∷ []
      go true = refl
      go false = rest

  kept_is : (ms : List (List ℕ)) → latest_kept room (ms ++ m ∷ []) ≡ with_message weight room m ms
  kept_is [] = refl
  kept_is (x ∷ []) = first_kept x [] refl
  kept_is (x ∷ y ∷ ms) = first_kept x (y ∷ ms) (kept_is (y ∷ ms))

received_is : (room : Option ℕ) (m : List ℕ) (s : Messages) → (after_received room m s).incoming ≡ and_message room m s.incoming
received_is None m s = refl
received_is (Some room) m s = go (nat_le (length m) room)
  where
    go : (b : Bool) → (if b then record s { incoming = with_message weight room m s.incoming } else s).incoming ≡ (if b then latest_kept room (s.incoming ++ m ∷ []) else s.incoming)
    go true = sym (kept_is room m s.incoming)
    go false = refl

-- messages, and others behind them
and_both : (room : Option ℕ) (xs ys waiting : List (List ℕ)) → and_messages room (xs ++ ys) waiting ≡ and_messages room ys (and_messages room xs waiting)
and_both room [] ys waiting = refl
and_both room (x ∷ xs) ys waiting = and_both room xs ys (and_message room x waiting)

-- ---- frames

-- a message that comes, or is too long
message_reads : (room : Option ℕ) (m : List ℕ) (e : End) → e.transport.datagram_receive_buffer_size ≡ room → (message_judged (received_answer room m e.messages.queues) m e).end.messages.queues.incoming ≡ and_message room m e.messages.queues.incoming
message_reads None m e is = refl
message_reads (Some room) m e is = go (nat_le (length m) room) refl
  where
    go : (b : Bool) → nat_le (length m) room ≡ b → (message_judged (if b then Ok (length e.messages.queues.incoming == 0) else Err received_errors.Breach) m e).end.messages.queues.incoming ≡ (if b then latest_kept room (e.messages.queues.incoming ++ m ∷ []) else e.messages.queues.incoming)
    go true fits =
        ap (λ (o : Option ℕ). (after_received o m e.messages.queues).incoming) is
        ∙ received_is (Some room) m e.messages.queues
        ∙ ap (λ (b : Bool). if b then latest_kept room (e.messages.queues.incoming ++ m ∷ []) else e.messages.queues.incoming) fits
    go false long = refl

-- any frame
frame_reads : (f : FrameValue) (e : End) → (take_frame f e).end.messages.queues.incoming ≡ and_messages e.transport.datagram_receive_buffer_size (messages_in (f ∷ [])) e.messages.queues.incoming
frame_reads (datagram m) e = message_reads e.transport.datagram_receive_buffer_size m e refl
frame_reads f e = frame_messages (λ (q : Messages). q.incoming ≡ e.messages.queues.incoming) (λ most q same. same) f e refl (λ m is. cc)

-- Behind frames of a packet, of which these are left: those were read, and their messages wait.
record Reads (all : List FrameValue) (e : End) (left : List FrameValue) (x : End) : Type 0 where
  done : List FrameValue
  parts : done ++ left ≡ all
  transport : x.transport ≡ e.transport
  waits : x.messages.queues.incoming ≡ and_messages e.transport.datagram_receive_buffer_size (messages_in done) e.messages.queues.incoming

module _ (all : List FrameValue) (e : End) where
  read_one : (f : FrameValue) (left : List FrameValue) (x : End) → Reads all e (f ∷ left) x → Reads all e left (take_frame f x).end
  read_one f left x r = record {
    done = r.done ++ f ∷ [];
    parts = append_assoc r.done (f ∷ []) left ∙ r.parts;
    transport = frame_transport f x ∙ r.transport;
    waits =
        frame_reads f x
        ∙ ap (λ (t : TransportSettings). and_messages t.datagram_receive_buffer_size (messages_in (f ∷ [])) x.messages.queues.incoming) r.transport
        ∙ ap (λ (ms : List (List ℕ)). and_messages e.transport.datagram_receive_buffer_size (messages_in (f ∷ [])) ms) r.waits
        ∙ sym (and_both e.transport.datagram_receive_buffer_size (messages_in r.done) (messages_in (f ∷ [])) e.messages.queues.incoming)
        ∙ ap (λ (ms : List (List ℕ)). and_messages e.transport.datagram_receive_buffer_size ms e.messages.queues.incoming) (sym (messages_append r.done (f ∷ [])));
  }

  none_read : Reads all e all e
  none_read = record { done = []; parts = refl; transport = refl; waits = refl }

  -- all of a packet that is taken
  pub all_read : (passed all e).fault ≡ None → (passed all e).end.messages.queues.incoming ≡ and_messages e.transport.datagram_receive_buffer_size (messages_in all) e.messages.queues.incoming
  all_read none =
      let r = frames_taken (Reads all e) (λ f left x fine before. read_one f left x before) all e none none_read in
      r.waits ∙ ap (λ (fs : List FrameValue). and_messages e.transport.datagram_receive_buffer_size (messages_in fs) e.messages.queues.incoming) (sym (append-nil r.done) ∙ r.parts)

  -- and of one with a frame at fault so many as stand before it
  pub some_read : (frames : ℕ) × ((passed all e).end.messages.queues.incoming ≡ and_messages e.transport.datagram_receive_buffer_size (messages_in (take frames all)) e.messages.queues.incoming)
  some_read =
      let found = frames_leave (Reads all e) read_one all e none_read in
      let r : Reads all e found.0 (passed all e).end = found.1 in
      (length r.done, r.waits ∙ ap (λ (fs : List FrameValue). and_messages e.transport.datagram_receive_buffer_size (messages_in fs) e.messages.queues.incoming) (front r.done found.0 ∙ ap (take (length r.done)) r.parts))
    where
      front : (xs ys : List FrameValue) → xs ≡ take (length xs) (xs ++ ys)
      front [] ys = refl
      front (x ∷ xs) ys = ap (λ (zs : List FrameValue). x ∷ zs) (front xs ys)

-- ---- the frames of a packet that counts

-- so many of those that are taken have the messages of so many, wherever the packet came from
pub taken_at : (here : Bool) (frames : ℕ) (fs : List FrameValue) → messages_in (take frames (frames_at here fs)) ≡ messages_in (take frames fs)
taken_at true frames fs = refl
taken_at false frames fs = ap messages_in (take-map as_elsewhere frames fs) ∙ messages_at false (take frames fs)

-- among the first of frames without messages there is none
pub none_among : (frames : ℕ) (fs : List FrameValue) → messages_in fs ≡ [] → messages_in (take frames fs) ≡ []
none_among zero fs none = refl
none_among (suc frames) [] none = refl
none_among (suc frames) (datagram m ∷ fs) none = cc
none_among (suc frames) (f ∷ fs) none = none_among frames fs none

-- all frames stand before a close, or one is a close
close_first : (fs : List FrameValue) → (before_close fs ≡ fs) ⊎ ((f : FrameValue) × In f fs × IsClose f)
close_first [] = inl refl
close_first (connection_close c ∷ fs) = inr (connection_close c, inl refl, tt)
close_first (application_close c ∷ fs) = inr (application_close c, inl refl, tt)
close_first (f ∷ fs) = elim (close_first fs) [ inl same ↦ inl (ap (λ (gs : List FrameValue). f ∷ gs) same) | inr found ↦ inr (found.0, inr found.1, found.2) ]

none_before : (fs : List FrameValue) → messages_in fs ≡ [] → messages_in (before_close fs) ≡ []
none_before [] none = refl
none_before (datagram m ∷ fs) none = cc
none_before (connection_close c ∷ fs) none = refl
none_before (application_close c ∷ fs) none = refl
none_before (f ∷ fs) none = none_before fs none

-- where closes go alone, no message stands behind one
pub before_same : (fs : List FrameValue) → IsAlone fs → messages_in (before_close fs) ≡ messages_in fs
before_same fs alone = elim (close_first fs) [
  | inl same ↦ ap messages_in same
  | inr found ↦ (let none = close_none fs (alone found.0 found.1 found.2) in none_before fs none ∙ sym none)
]
