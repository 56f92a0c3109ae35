-- An end takes no message that its receive buffer has no room for, whatever is handed to it.
use Rattle.std.proofs.Common.{◌≡◌, ◌⊎◌, ℕ, Bool, true, false, List, [], ◌∷◌, map, length, Option, Some, None, Result, Ok, Err, refl, sym, ap, ◌∙◌, subst, inl, inr}
use Rattle.std.specs.Prelude.{slice_get, if◌then◌else◌, not, ◌==◌, ◌||◌}
use Rattle.std.proofs.lemmas.Bool.{leb-true}
use Rattle.quic_wire_core.specs.declared.shared.EcnCodepoint.{EcnCodepoint}
use Rattle.quic_wire.specs.Value.{FrameValue, datagram, connection_close, application_close, path_challenge, path_response}
use Rattle.quic_wire.specs.Items.{items}
use Rattle.quic_parameters.specs.Parameters.{ParameterValues}
use Rattle.quic_parameters.specs.ParametersRead.{parameters_at}
use Rattle.quic_parameters.specs.declared.transport_parameters.error.TransportParametersError.{TransportParametersError}
use Rattle.quic_config.specs.Transport.{TransportSettings, transport_of}
use Rattle.quic_packet.specs.Header.{key_phase, reserved_bits}
use Rattle.quic_packet.specs.Datagram.{Opening}
use Rattle.quic_recovery_core.specs.Duplicates.{is_duplicate}
use Rattle.quic_spaces.specs.Numbers.{expected, number_opened}
use Rattle.quic_congestion.specs.Pacer.{Pacing}
use Rattle.quic_messages.specs.Messages.{is_taken}
use Rattle.quic_messages.specs.declared.errors.ReceivedError.TheVariants as received_errors
use Rattle.quic_machine.specs.Arrival.{Arrival, delivered_by}
use Rattle.quic_machine.specs.declared.answers.State.{State}
use Rattle.quic_machine.specs.declared.answers.State.TheVariants as states
use Rattle.quic_machine.specs.declared.answers.DropReason.{DropReason}
use Rattle.quic_machine.specs.declared.answers.DropReason.TheVariants as drops
use Rattle.quic_machine.specs.declared.answers.Received.TheVariants as receives
use Rattle.quic_machine.specs.declared.run.Delivery.{Delivery}
use Rattle.quic_machine.specs.declared.run.Call.{Call}
use Rattle.quic_machine.specs.declared.run.Call.TheVariants as calls
use Rattle.quic_machine.specs.declared.run.Answer.{Answer}
use Rattle.quic_machine.specs.declared.run.Answer.TheVariants as answers
use Rattle.quic_machine.specs.Policy.{Policy}
use Rattle.quic_machine.specs.Control.{Control, with_pacing}
use Rattle.quic_machine.specs.Heard.{Heard}
use Rattle.quic_machine.specs.Ids.{known}
use Rattle.quic_machine.specs.Opens.{head, opens}
use Rattle.quic_machine.specs.Migration.{is_there, item_elsewhere, items_at}
use Rattle.quic_machine.specs.End.{End, IsMade, with_window, with_numbers}
use Rattle.quic_machine.specs.Validation.{is_blocked, with_blocked}
use Rattle.quic_machine.specs.Receive.{Fault, broke, too_many_pieces, closed_by_peer, violation, is_empty, asks_in, is_urged, message_judged, take_frame, unless_fault, take_items, take_payload, Outcome, dropped, ends_as, by_state, opened_to, opened_as, opening, unopened_in, headed, received_in, received, items_taken}
use Rattle.quic_machine.specs.FrameCases.{begun}
use Rattle.quic_machine.specs.Machine.{IsAnswer, IsDelivered, says_last, after_call, reads_window, pacing_left, end_left, tells, fails}
use Rattle.quic_machine.specs.DraftLaws.{IsClose}
use Rattle.quic_headline.specs.Runs.{In, Packet, packet_of, frames_of}
use Rattle.quic_headline.specs.Observer.{is_close}
use Rattle.quic_headline.specs.Alone.{Lone, IsLoneStep, IsNew, FollowsAlone}
use Rattle.quic_headline.specs.LoneAcks.{and_call, taken_by}
use Rattle.quic_headline.specs.LoneMessages.{before_close, Fits, AllFit, TakesFit, MessagesFit}
use Rattle.quic_headline.proofs.Packets.Acking.{acks_first}
use Rattle.quic_headline.proofs.Packets.Owing.{closing_frame}
use Rattle.quic_headline.proofs.Channel.Plain.{frame_transport}
use Rattle.quic_headline.proofs.Alone.Kept.{KeptAt, call_kept, kept_first}
use Rattle.quic_headline.proofs.Alone.Sealing.{read_state, left_is, stops, stays_failed}
use Rattle.quic_headline.proofs.Alone.Taking.{Items, opens_to}
use Rattle.quic_headline.proofs.Alone.Taken.{Knows, behind, one_more, delivery_takes, call_knows}

-- ---- frames

-- all frames were taken, or those before a close
abbrev IsTaken : Option Fault → Type 0
IsTaken None = Unit {0}
IsTaken (Some (broke error)) = ⊥
IsTaken (Some too_many_pieces) = ⊥
IsTaken (Some (closed_by_peer close)) = Unit {0}

-- a message of a packet from elsewhere stands where it did
message_elsewhere : (m : List ℕ) (is : Items) → In (datagram m) (before_close (frames_of is)) → In (datagram m) (before_close (frames_of (map item_elsewhere is)))
message_elsewhere m [] i = absurd i
message_elsewhere m (Err x ∷ is) i = message_elsewhere m is i
message_elsewhere m (Ok (connection_close c) ∷ is) i = absurd i
message_elsewhere m (Ok (application_close c) ∷ is) i = absurd i
message_elsewhere m (Ok (path_challenge token) ∷ is) (inl is_it) = cc
message_elsewhere m (Ok (path_challenge token) ∷ is) (inr more) = inr (message_elsewhere m is more)
message_elsewhere m (Ok (path_response token) ∷ is) (inl is_it) = cc
message_elsewhere m (Ok (path_response token) ∷ is) (inr more) = inr (message_elsewhere m is more)
message_elsewhere m (Ok f ∷ is) (inl is_it) = inl is_it
message_elsewhere m (Ok f ∷ is) (inr more) = inr (message_elsewhere m is more)

message_at : (here : Bool) (m : List ℕ) (is : Items) → In (datagram m) (before_close (frames_of is)) → In (datagram m) (before_close (frames_of (items_at here is)))
message_at true m is i = i
message_at false m is i = message_elsewhere m is i

-- a message that is taken has room
taken_fits : (room : Option ℕ) (m : List ℕ) → is_taken room m ≡ true → Fits room m
taken_fits None m is = cc
taken_fits (Some n) m is = leb-true (length m) n is

module _ (room : Option ℕ) where
  -- one that stands in a frame that was taken
  frame_fits : (m : List ℕ) (f : FrameValue) (e : End) → e.transport.datagram_receive_buffer_size ≡ room → (take_frame f e).fault ≡ None → datagram m ≡ f → Fits room m
  frame_fits m (datagram n) e same none is = subst (Fits room) (sym it) (subst (λ (r : Option ℕ). Fits r n) same (go (is_taken e.transport.datagram_receive_buffer_size n) refl none))
    where
      it : m ≡ n
      it = cc

      go : (b : Bool) → is_taken e.transport.datagram_receive_buffer_size n ≡ b → (message_judged (if b then Ok (length e.messages.queues.incoming == 0) else Err received_errors.Breach) n e).fault ≡ None → Fits e.transport.datagram_receive_buffer_size n
      go true fits fine = taken_fits e.transport.datagram_receive_buffer_size n fits
      go false fits fine = cc
  frame_fits m f e same none is = cc

  -- one in front of the first close
  before_other : (m : List ℕ) (f : FrameValue) (fs : List FrameValue) → In (datagram m) (before_close (f ∷ fs)) → (datagram m ≡ f) ⊎ In (datagram m) (before_close fs)
  before_other m f fs = go (is_close f)
    where
      go : (b : Bool) → In (datagram m) (if b then [] else f ∷ before_close fs) → (datagram m ≡ f) ⊎ In (datagram m) (before_close fs)
      go true i = absurd i
      go false i = i

  none_behind : (m : List ℕ) (f : FrameValue) (fs : List FrameValue) → IsClose f → In (datagram m) (before_close (f ∷ fs)) → ⊥
  none_behind m (connection_close c) fs closes i = i
  none_behind m (application_close c) fs closes i = i
  none_behind m f fs closes i = closes

  items_fit : (is : Items) (e : End) → e.transport.datagram_receive_buffer_size ≡ room → IsTaken (take_items is e).fault → (m : List ℕ) → In (datagram m) (before_close (frames_of is)) → Fits room m
  items_fit [] e same taken m i = absurd i
  items_fit (Err x ∷ is) e same taken m i = absurd taken
  items_fit (Ok f ∷ is) e same taken m i = go (take_frame f e).fault refl taken (λ more among. items_fit is (take_frame f e).end (ap (λ (t : TransportSettings). t.datagram_receive_buffer_size) (frame_transport f e) ∙ same) more m among)
    where
      go : (o : Option Fault) → (take_frame f e).fault ≡ o → IsTaken (unless_fault o (take_frame f e) (take_items is)).fault → (IsTaken (take_items is (take_frame f e).end).fault → In (datagram m) (before_close (frames_of is)) → Fits room m) → Fits room m
      go None none more rest = elim (before_other m f (frames_of is) i) [ inl here ↦ frame_fits m f e same none here | inr behind_it ↦ rest more behind_it ]
      go (Some (closed_by_peer close)) some more rest = absurd (none_behind m f (frames_of is) (closing_frame f e close some) i)
      go (Some (broke error)) some more rest = absurd (subst IsTaken some more)
      go (Some too_many_pieces) some more rest = absurd (subst IsTaken some more)

  payload_fits : (first : ℕ) (here : Bool) (is : Items) (e : End) → e.transport.datagram_receive_buffer_size ≡ room → IsTaken (take_payload first (items_at here is) e).fault → (m : List ℕ) → In (datagram m) (before_close (frames_of is)) → Fits room m
  payload_fits first here is e same taken m i = go (not (reserved_bits first == 0) || is_empty (items_at here is)) taken
    where
      go : (b : Bool) → IsTaken (if b then record { end = e; fault = Some violation } else take_items (items_at here is) e).fault → Fits room m
      go true wrong = absurd wrong
      go false fine = items_fit (items_at here is) e same fine m (message_at here m is i)

-- ---- a delivery

module _ (packets : List Packet) (p : Policy) (e : End) (d : List ℕ) (knows : Knows ⊥ packets e) (room : Option ℕ) (same : e.transport.datagram_receive_buffer_size ≡ room) (were : AllFit room packets) where
  abbrev Fit : Outcome → Type 0
  Fit o = AllFit room (behind ⊥ packets p e d knows o.answer)

  one_fits : (o : Opening) → ((m : List ℕ) → In (datagram m) (before_close (frames_of (items o.payload))) → Fits room m) → AllFit room (packet_of o ∷ packets)
  one_fits o fits packet m (inl is) i = fits m (subst (λ (q : Packet). In (datagram m) (before_close q.frames)) is i)
  one_fits o fits packet m (inr among) i = were packet m among i

  ends_fit : (o : Opening) → opens p (known e.ids) (expected e.numbers) d ≡ Some o → (fault : Option Fault) → (IsTaken fault → (m : List ℕ) → In (datagram m) (before_close (frames_of (items o.payload))) → Fits room m)
      → (asks urged : Bool) (mark : Option EcnCodepoint) (x : End) → Fit (ends_as fault asks urged o.number mark x)
  ends_fit o is None fits asks urged mark x = subst (AllFit room) (sym (one_more ⊥ packets p e d knows o is)) (one_fits o (fits tt))
  ends_fit o is (Some (closed_by_peer close)) fits asks urged mark x = subst (AllFit room) (sym (one_more ⊥ packets p e d knows o is)) (one_fits o (fits tt))
  ends_fit o is (Some (broke error)) fits asks urged mark x = were
  ends_fit o is (Some too_many_pieces) fits asks urged mark x = were

  state_fits : (s : State) (o : Opening) → opens p (known e.ids) (expected e.numbers) d ≡ Some o → (arrival : Arrival) → Fit (by_state s o arrival (with_numbers e (number_opened e.numbers o.number)))
  state_fits states.Open o is arrival =
      let at : End = begun e arrival.now o.number in
      let here : Bool = is_there arrival.remote e in
      let taken = take_payload o.first (items_at here (items o.payload)) at in
      ends_fit o is taken.fault (payload_fits room o.first here (items o.payload) at same) (asks_in (items o.payload)) (is_urged arrival.mark (asks_in (items o.payload)) (items_taken o arrival at) at) arrival.mark taken.end
  state_fits states.Closing o is arrival = were
  state_fits states.Drained o is arrival = were
  state_fits states.Failed o is arrival = were

  opened_fits : (o : Opening) → (key_phase o.first ≡ false → opens p (known e.ids) (expected e.numbers) d ≡ Some o) → (arrival : Arrival) → Fit (opened_to o arrival e)
  opened_fits o is arrival = go (key_phase o.first) refl (is_duplicate e.numbers.opened o.number)
    where
      go : (phase : Bool) → key_phase o.first ≡ phase → (again : Bool) → Fit (if phase then dropped drops.KeyPhase e else (if again then dropped drops.Duplicate e else by_state e.closing.state o arrival (with_numbers e (number_opened e.numbers o.number))))
      go true is_set again = were
      go false is_clear true = were
      go false is_clear false = state_fits e.closing.state o (is is_clear) arrival

  unopened_fits : (s : State) (last : Bool) (arrival : Arrival) → Fit (unopened_in s last arrival e)
  unopened_fits states.Open true arrival = were
  unopened_fits states.Open false arrival = were
  unopened_fits states.Closing last arrival = were
  unopened_fits states.Drained last arrival = were
  unopened_fits states.Failed last arrival = were

  packet_fits : (o : Option Opening) → ((x : Opening) → o ≡ Some x → key_phase x.first ≡ false → opens p (known e.ids) (expected e.numbers) d ≡ Some x) → (arrival : Arrival) → Fit (opened_as o p arrival e)
  packet_fits None is arrival = unopened_fits e.closing.state arrival.last arrival
  packet_fits (Some o) is arrival = opened_fits o (is o refl) arrival

  headed_fits : (r : Result (List ℕ) DropReason) (arrival : Arrival) → head e arrival.remote d ≡ r → Fit (headed r p e arrival d)
  headed_fits (Err error) arrival is = were
  headed_fits (Ok id) arrival is = packet_fits (opening p e d) (λ o opens_so phase. opens_to p e arrival d id o is opens_so phase) arrival

  received_fits : (arrival : Arrival) → Fit (received p e arrival d)
  received_fits arrival = go e.closing.state
    where
      go : (s : State) → Fit (received_in s p e arrival d)
      go states.Failed = were
      go states.Drained = were
      go states.Open = headed_fits (head e arrival.remote d) arrival refl
      go states.Closing = headed_fits (head e arrival.remote d) arrival refl

-- by whether there is such a datagram
delivered_fits : (packets : List Packet) (p : Policy) (theirs : List (List ℕ)) (e : End) (delivery : Delivery) (o : Option (List ℕ)) → slice_get theirs delivery.index ≡ o → (a : Answer) → IsDelivered p e delivery o a → fails a ≡ false → Knows ⊥ packets e
    → (room : Option ℕ) → e.transport.datagram_receive_buffer_size ≡ room → AllFit room packets → AllFit room (and_call p theirs (calls.Deliver delivery) a packets)
delivered_fits packets p theirs e delivery None there a is served knows room same were = subst (λ (b : Answer). AllFit room (and_call p theirs (calls.Deliver delivery) b packets)) (sym is) were
delivered_fits packets p theirs e delivery (Some d) there a (inl is) served knows room same were =
    let left : Outcome = received p e (delivered_by (says_last a) delivery) d in
    let takes : behind ⊥ packets p e d knows left.answer ≡ and_call p theirs (calls.Deliver delivery) a packets = delivery_takes ⊥ packets p e d knows theirs delivery there left.answer ∙ ap (λ (b : Answer). and_call p theirs (calls.Deliver delivery) b packets) (sym is) in
    subst (AllFit room) takes (received_fits packets p e d knows room same were (delivered_by (says_last a) delivery))
delivered_fits packets p theirs e delivery (Some d) there a (inr is) served knows room same were = let lacks = ap fails is in cc

-- ---- any call

call_fits : (packets : List Packet) (p : Policy) (theirs : List (List ℕ)) (e : End) (call : Call) (a : Answer) → IsAnswer p e theirs call a → fails a ≡ false → Knows ⊥ packets e
    → (room : Option ℕ) → e.transport.datagram_receive_buffer_size ≡ room → AllFit room packets → AllFit room (and_call p theirs call a packets)
call_fits packets p theirs e (calls.Deliver delivery) a is served knows room same were = delivered_fits packets p theirs e delivery (slice_get theirs delivery.index) refl a is served knows room same were
call_fits packets p theirs e call a is served knows room same were = were

-- where memory lacks nothing is taken
failing_takes : (p : Policy) (theirs : List (List ℕ)) (call : Call) (a : Answer) (packets : List Packet) → fails a ≡ true → and_call p theirs call a packets ≡ packets
failing_takes p theirs (calls.Deliver delivery) (answers.Deliver receives.Taken) packets failing = cc
failing_takes p theirs call a packets failing = refl

-- nor is anything by an end that failed
failed_takes : (p : Policy) (theirs : List (List ℕ)) (e : End) (call : Call) (a : Answer) (packets : List Packet) → IsAnswer p e theirs call a → e.closing.state ≡ states.Failed → and_call p theirs call a packets ≡ packets
failed_takes p theirs e (calls.Deliver delivery) a packets is failed = go (slice_get theirs delivery.index) is
  where
    go : (o : Option (List ℕ)) → IsDelivered p e delivery o a → and_call p theirs (calls.Deliver delivery) a packets ≡ packets
    go None none = ap (λ (b : Answer). and_call p theirs (calls.Deliver delivery) b packets) none
    go (Some d) (inr lacks) = ap (λ (b : Answer). and_call p theirs (calls.Deliver delivery) b packets) lacks
    go (Some d) (inl so) = ap (λ (b : Answer). and_call p theirs (calls.Deliver delivery) b packets) so
        ∙ ap (λ (s : State). and_call p theirs (calls.Deliver delivery) (answers.Deliver (received_in s p e (delivered_by (says_last a) delivery) d).answer) packets) failed
failed_takes p theirs e call a packets is failed = refl

-- ---- calls one behind another

module _ (t : TransportSettings) (p : Policy) (theirs : List (List ℕ)) where
  -- an end with such a transport that took these packets, or one that failed
  record Lives (packets : List Packet) (e : End) : Type 0 where
    knows : Knows ⊥ packets e
    kept : KeptAt t e

  abbrev Stands : List (Call × Answer) → End → Type 0
  Stands before e = (e.closing.state ≡ states.Failed) ⊎ Lives (taken_by p theirs before) e

  shown_lives : (packets : List Packet) (window : ℕ) (blocked : Bool) (pacing : Pacing) (e : End) → Lives packets e → Lives packets (with_pacing (with_blocked (with_window e window) blocked) pacing)
  shown_lives packets window blocked pacing e l = record {
    knows = (let knows = l.knows in record { acks = knows.acks; taken = knows.taken; expected = knows.expected; owes = λ none. absurd none });
    kept = l.kept;
  }

  reads_lives : (packets : List Packet) (control : Control) (heard : Heard) (call : Call) (e : End) → Lives packets e → Lives packets (reads_window control heard call e)
  reads_lives packets control heard (calls.Poll now) e l = shown_lives packets (control []) (is_blocked e heard) e.path.pacing e l
  reads_lives packets control heard call e l = l

  left_lives : (packets : List Packet) (control : Control) (heard : Heard) (e : End) (call : Call) (a : Answer) → Lives packets (after_call p (reads_window control heard call e) theirs call a) → Lives packets (end_left p control heard e theirs call a)
  left_lives packets control heard e call a l =
      let met : End = reads_window control heard call e in
      let left : End = after_call p met theirs call a in
      shown_lives packets left.path.window left.path.blocked (pacing_left (control (tells p met theirs call)) call met left) left l

  call_lives : (packets : List Packet) (e : End) (call : Call) (a : Answer) → IsAnswer p e theirs call a → fails a ≡ false → Lives packets e → Lives (and_call p theirs call a packets) (after_call p e theirs call a)
  call_lives packets e call a is served l = record {
    knows = call_knows ⊥ packets p theirs e call a is served (λ none. absurd none) l.knows;
    kept = call_kept t p e theirs call a l.kept;
  }

  abbrev room : Option ℕ
  room = t.datagram_receive_buffer_size

  module _ (before : List (Call × Answer)) (x next : Lone) (call : Call) (a : Answer) (s : IsLoneStep p theirs x call a next) where
    abbrev e : End
    e = reads_window x.control x.heard call x.end

    next_stands : Stands before x.end → Stands ((call, a) ∷ before) next.end
    next_stands (inl failed) = inl (stays_failed p theirs x next call a s failed)
    next_stands (inr lives) = go (fails a) refl (reads_lives (taken_by p theirs before) x.control x.heard call x.end lives)
      where
        go : (b : Bool) → fails a ≡ b → Lives (taken_by p theirs before) e → Stands ((call, a) ∷ before) next.end
        go true failing here = inl (stops p theirs x next call a s failing)
        go false served here = inr (subst (Lives (taken_by p theirs ((call, a) ∷ before))) (sym (left_is p theirs x next call a s served))
            (left_lives (taken_by p theirs ((call, a) ∷ before)) x.control x.heard x.end call a (call_lives (taken_by p theirs before) e call a s.answer served here)))

    step_fits : Stands before x.end → AllFit room (taken_by p theirs before) → AllFit room (taken_by p theirs ((call, a) ∷ before))
    step_fits (inl failed) were = subst (AllFit room) (sym (failed_takes p theirs e call a (taken_by p theirs before) s.answer (read_state p theirs x.control x.heard call x.end ∙ failed))) were
    step_fits (inr lives) were = go (fails a) refl (reads_lives (taken_by p theirs before) x.control x.heard call x.end lives)
      where
        go : (b : Bool) → fails a ≡ b → Lives (taken_by p theirs before) e → AllFit room (taken_by p theirs ((call, a) ∷ before))
        go true failing here = subst (AllFit room) (sym (failing_takes p theirs call a (taken_by p theirs before) failing)) were
        go false served here = call_fits (taken_by p theirs before) p theirs e call a s.answer served here.knows room (ap (λ (u : TransportSettings). u.datagram_receive_buffer_size) here.kept.same) were

  fits_from : (before : List (Call × Answer)) (x left : Lone) (cs : List Call) (told : List Answer) → FollowsAlone p theirs x cs told left → Stands before x.end → AllFit room (taken_by p theirs before) → TakesFit p theirs room before cs told
  fits_from before x left [] [] f stands were = were
  fits_from before x left [] (a ∷ told) f stands were = absurd f
  fits_from before x left (c ∷ cs) [] f stands were = absurd f
  fits_from before x left (c ∷ cs) (a ∷ told) f stands were = (
    were,
    fits_from ((c, a) ∷ before) f.0 left cs told f.2 (next_stands before x f.0 c a f.1 stands) (step_fits before x f.0 c a f.1 stands were),
  )

-- ---- from an end as it was made on

made_lives : (p : Policy) (theirs : List (List ℕ)) (e : End) (new : IsNew e) → Lives (transport_of new.settings) p theirs [] e
made_lives p theirs e new = go (parameters_at new.parameters) new.made
  where
    go : (r : Result ParameterValues TransportParametersError) → IsMade new.side new.settings new.windows r new.own_id new.peer_id new.remote new.moment new.validated new.words e → Lives (transport_of new.settings) p theirs [] e
    go (Ok values) made = record {
      knows = subst (Knows ⊥ []) (sym made) (record { acks = acks_first; taken = λ k has. absurd has; expected = refl; owes = λ none. absurd none });
      kept = subst (KeptAt (transport_of new.settings)) (sym made) (kept_first new.settings new.side new.windows values new.own_id new.peer_id new.remote new.moment new.validated new.words);
    }
    go (Err error) made = absurd made

pub messages_fit : (p : Policy) (theirs : List (List ℕ)) (x left : Lone) (calls : List Call) (told : List Answer) → MessagesFit p theirs x calls told left
messages_fit p theirs x left cs told new f = fits_from (transport_of new.settings) p theirs [] x left cs told f (inr (made_lives p theirs x.end new)) (λ packet m among i. absurd among)
