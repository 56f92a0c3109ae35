-- What an end owes of connection ids (RFC 9000, sections 5.1.1 and 5.1.2): each id of the peer
-- below that in use is retired, and each own one but the first is told of while it lives. Where
-- more comes to be owed it waits, since no NEW_CONNECTION_ID frame of ours asks for retirements.
use Rattle.std.proofs.Common.{◌≡◌, ℕ, zero, suc, ◌+◌, ◌-◌, ◌<◌, ◌≤◌, Bool, true, false, cond, ltb, ◌==◌, ◌||◌, List, [], ◌∷◌, ◌++◌, replicate, map, Option, Some, None, Result, Ok, Err, refl, sym, ap, ◌∙◌, subst, ◌⊎◌, inl, inr, arith, append-nil}
use Rattle.std.specs.Prelude.{slice_get}
use Rattle.std.specs.Option.{option_map}
use Rattle.std.specs.List.{range_with_len}
use Rattle.std.specs.Ordering.{nat_cmp}
use Rattle.std.specs.BTreeMap.{is_at}
use Rattle.std.specs.declared.ops.Range.{Range}
use Rattle.std.proofs.lemmas.Bool.{or_cases, or_left, or_right, eqb-true, eq-eqb, ltb-true, ltb-false}
use Rattle.std.proofs.lemmas.List.Folds.{list_any-append}
use Rattle.std.proofs.lemmas.Option.{same_Some}
use Rattle.quic_wire_core.specs.TransportError.{ErrorValue}
use Rattle.quic_wire_core.specs.declared.shared.IssuedCid.{IssuedCid}
use Rattle.quic_wire.specs.Value.{FrameValue, AckValue, NewConnectionIdValue, ack, stream, reset_stream, stop_sending, max_data, max_stream_data, max_streams, datagram, handshake_done, new_connection_id, retire_connection_id, path_response, padding, ack_frequency}
use Rattle.quic_wire.specs.declared.frame.NewConnectionId.{NewConnectionId}
use Rattle.quic_ids.specs.CidState.{OwnIds, is_in, below, without, is_wrong, after_retirement, retirement_answer}
use Rattle.quic_ids.specs.CidQueue.{PeerIds, insert_answer, after_insert, after_accepted, retires_active, exceeds, left_by, first_used, known_with, with_cid, brought}
use Rattle.quic_ids.specs.declared.cid_queue.InsertError.{InsertError}
use Rattle.quic_ids.specs.declared.cid_queue.InsertError.TheVariants as inserts
use Rattle.quic_ids.proofs.OwnIdLaws.{in_inserted}
use Rattle.quic_streams_laws.specs.ToldLaws.{first_is}
use Rattle.quic_paths.specs.Paths.{is_asked}
use Rattle.quic_retransmits.specs.Retransmits.{Retransmits, can_retire}
use Rattle.quic_streams_state.specs.declared.state.StreamsState.{StreamsState}
use Rattle.quic_streams_state.specs.Control.{Goes}
use Rattle.quic_machine.specs.declared.run.Call.{Call}
use Rattle.quic_machine.specs.declared.run.Call.TheVariants as calls
use Rattle.quic_machine.specs.declared.run.Answer.{Answer}
use Rattle.quic_machine.specs.declared.run.Answer.TheVariants as answers
use Rattle.quic_machine.specs.Policy.{Policy}
use Rattle.quic_machine.specs.Closing.{ticked}
use Rattle.quic_machine.specs.MessageCalls.{most_message}
use Rattle.quic_machine.specs.Sizes.{without_longer_if, shortened}
use Rattle.quic_machine.specs.Ids.{Ids, Drawing, words_behind, words_of_id, drawn_ids, undrawn_id, most_ids, retired, ids_drawn, frame_of, retires_for, retires_for_next, next_used}
use Rattle.quic_machine.specs.IdFrames.{retiring, with_taken_up, issued, issued_if, issues_for, next_id_taken, end_on_next_id, drawn, drawing}
use Rattle.quic_machine.specs.Validation.{word_of, validated_if}
use Rattle.quic_machine.specs.End.{End, with_closing, with_ids, closed_by}
use Rattle.quic_machine.specs.Receive.{Outcome, asks_in, after_taken, drained_at, reason_of, names_ungiven, is_above, retired_for, id_judged, retirement_judged, take_frame}
use Rattle.quic_machine.specs.FrameCases.{IsApart, ack_taken, named, passed, begun, frame_leaves, frames_leave, acked_keeps, losses_keep}
use Rattle.quic_machine.specs.Steps.{Step, after}
use Rattle.quic_machine.specs.Steps as steps
use Rattle.quic_machine.specs.Puts as puts
use Rattle.quic_machine.specs.Poll.{Polled, Draft, zeros_behind, polled}
use Rattle.quic_machine.specs.DraftLaws.{Writing, by_leave}
use Rattle.quic_machine.specs.PollCases.{at_poll, ready_at, draft_at, frames_at, frames_padded, by_poll, composes, may_leave_at}
use Rattle.quic_machine.specs.CallCases.{is_delivery, by_call, by_done}
use Rattle.quic_machine.specs.LeaveCases.{by_expired, by_event}
use Rattle.quic_machine.specs.Machine.{IsAnswer, after_call, fails, gave}
use Rattle.quic_machine.specs.Migration.{migrated}
use Rattle.quic_headline.specs.Runs.{Packet, Intake, In}
use Rattle.quic_headline.specs.Observer.{Sent}
use Rattle.quic_headline.specs.Duties.{has_retirement, has_new_id}
use Rattle.quic_headline.proofs.Packets.Growth.{in_more}
use Rattle.quic_headline.proofs.Packets.Invariant.{AreTracked}
use Rattle.quic_headline.proofs.Packets.Closes.{by_closes}
use Rattle.quic_headline.proofs.Packets.Owing.{Owes, sent_fine}
use Rattle.quic_headline.proofs.Packets.Apart.{by_waits, by_frequency, by_heard_done}
use Rattle.quic_headline.proofs.Packets.Probes.{may_leave}
use Rattle.quic_headline.proofs.Packets.Delivered.{Arrivals, arrived}
use Rattle.quic_headline.proofs.Packets.Named.{NamesTaken, Stands, by_frame, frame_fewer}
use Rattle.quic_headline.proofs.Places.Told.{in_append}
use Rattle.quic_headline.proofs.Places.Steps.{poll_answer}
use Rattle.quic_config.specs.Transport.{parameters_of}
use Rattle.quic_headline.proofs.Places.Parties.{sent_by, sent_if, sents_by, Beginning, begun_as}
use Rattle.quic_headline.proofs.Duties.Listed.{Listed, ResetOf, StopOf, RetireOf, NewIdOf, DoneOf, ListedStands, frame_stands, drawn_stands, shortened_stands, next_stands}
use Rattle.quic_packet.specs.Datagram.{Opening}
use Rattle.quic_headline.proofs.Packets.Moving.{moving_keeps}

-- what is owed of ids
abbrev pub IdOwed : Listed → Ids → Type 0
IdOwed (ResetOf id) ids = ⊥
IdOwed (StopOf id) ids = ⊥
IdOwed (RetireOf number) ids = number < ids.peer.active
IdOwed (NewIdOf number) ids = (1 ≤ number) × (is_in number ids.own.living ≡ true)
IdOwed DoneOf ids = ⊥

-- ---- frames of ours ask for no retirements

abbrev pub AsksNone : FrameValue → Type 0
AsksNone (new_connection_id f) = f.retire_prior_to ≡ 0
AsksNone f = Unit {0}

abbrev AskNone : List FrameValue → Type 0
AskNone frames = (f : FrameValue) → In f frames → AsksNone f

none_more : (frames : List FrameValue) (f : FrameValue) → AskNone frames → AsksNone f → AskNone (frames ++ f ∷ [])
none_more frames f all one g i = elim (in_more g f frames i) [ inl old ↦ all g old | inr is ↦ subst AsksNone (sym is) one ]

goes_none : (p : Retransmits) (s : StreamsState) (f : FrameValue) → Goes p s f → AsksNone f
goes_none p s (new_connection_id f) goes = ap (λ (g : NewConnectionIdValue). g.retire_prior_to) goes.2
goes_none p s f goes = tt

draws_none : Writing (λ (d : Draft). AskNone d.frames)
draws_none (puts.drops kind) d may k = k
draws_none (puts.control kind f) d is k = none_more d.frames f k (goes_none d.end.waiting.frames d.end.streams f is.says)
draws_none p d may k = none_more d.frames _ k tt

zeros_none : (count : ℕ) → AskNone (replicate count padding)
zeros_none zero f i = absurd i
zeros_none (suc count) f (inl is) = subst AsksNone (sym is) tt
zeros_none (suc count) f (inr i) = zeros_none count f i

padded_none : (d : Draft) → AskNone d.frames → AskNone (frames_padded d)
padded_none d w f i = elim (in_append f d.frames (replicate (zeros_behind d) padding) i) [ inl one ↦ w f one | inr zeros ↦ zeros_none (zeros_behind d) f zeros ]

frames_none : (e : End) (now : ℕ) → AskNone (frames_at e now)
frames_none e now = padded_none (draft_at e now) (by_leave (λ (d : Draft). AskNone d.frames) draws_none (ready_at e now).leaving (ready_at e now).end (may_leave_at e now) (λ f i. absurd i))

-- no datagram that was given does
abbrev pub NoneAsked : List Sent → Type 0
NoneAsked sents = (s : Sent) → In s sents → (f : FrameValue) → In f s.frames → AsksNone f

pub call_asks_none : (p : Policy) (e : End) (theirs : List (List ℕ)) (call : Call) (a : Answer) (sents : List Sent) → IsAnswer p e theirs call a → fails a ≡ false → Owes e → NoneAsked sents → NoneAsked (sents ++ sents_by p e call a)
call_asks_none p e theirs (calls.Poll now) a sents is served owes none s i f j = elim (in_append s sents (sent_if (gave a) (sent_by p e now)) i) [
  | inl old ↦ none s old f j
  | inr new ↦ sent_fine AsksNone (λ c. tt) (λ c. tt) tt p e now owes (λ opened g k. frames_none e now g k)
      s (subst (λ (b : Answer). In s (sent_if (gave b) (sent_by p e now))) (poll_answer p e now a is served) new) f j
]
call_asks_none p e theirs call a sents is served owes none s i f j = none s (subst (λ (ss : List Sent). In s ss) (append-nil sents) i) f j

-- ---- ids stay

lasts_ids : (o : Option ℕ) (e : End) → (without_longer_if o e).ids ≡ e.ids
lasts_ids None e = refl
lasts_ids (Some most) e = refl

pub shortened_ids : (b : Bool) (e : End) → (shortened b e).ids ≡ e.ids
shortened_ids true e = lasts_ids (most_message e) e
shortened_ids false e = refl

pub settles_ids : (x : End) (s : Step) (e : End) → e.ids ≡ x.ids → (after s e).ids ≡ x.ids
settles_ids x (steps.known n) e k = k
settles_ids x s e k = k

pub ack_ids : (b : Bool) (a : AckValue) (e : End) → (ack_taken b a e).end.ids ≡ e.ids
ack_ids true a e = refl
ack_ids false a e = acked_keeps (λ (x : End). x.ids ≡ e.ids) (settles_ids e) (is_above e.numbers.largest_acked a.largest) a (named a e) refl

pub polled_ids : (p : Policy) (e : End) (now : ℕ) → (polled p e now).end.ids ≡ e.ids
polled_ids p e now = by_poll p e now (λ (q : Polled). q.end.ids ≡ e.ids) (record {
  silent = refl;
  failed = refl;
  nothing = λ c. refl;
  repeats = λ is. by_closes p (with_closing e (ticked e.closing now)) (λ (q : Polled). q.end.ids ≡ e.ids) refl (λ f goes. refl);
  closes = λ reason c bound. by_closes p (closed_by reason (at_poll e now c)) (λ (q : Polled). q.end.ids ≡ e.ids) refl (λ f goes. refl);
  gives = λ leaving c left is may ready some. (composes leaving (at_poll e now c) (may_leave e now leaving (at_poll e now c) ready)).ids;
})

drawn_owed : (what : Listed) (d : Drawing) (ids : Ids) → IdOwed what (ids_drawn d ids) → IdOwed what ids
drawn_owed (ResetOf id) d ids owed = owed
drawn_owed (StopOf id) d ids owed = owed
drawn_owed (RetireOf number) d ids owed = owed
drawn_owed (NewIdOf number) d ids owed = owed
drawn_owed DoneOf d ids owed = owed

-- ---- lists

-- what is left of a list stood in it
without_in : (n m : ℕ) (ks : List ℕ) → is_in m (without n ks) ≡ true → is_in m ks ≡ true
without_in n m [] is = is
without_in n m (k ∷ ks) is = go (without_in n m ks) (is_at (nat_cmp n) k) is
  where
    go : (is_in m (without n ks) ≡ true → is_in m ks ≡ true) → (b : Bool) → is_in m (cond b ks (k ∷ without n ks)) ≡ true → (is_at (nat_cmp m) k || is_in m ks) ≡ true
    go later true there = or_right (is_at (nat_cmp m) k) (is_in m ks) there
    go later false there = elim (or_cases (is_at (nat_cmp m) k) (is_in m (without n ks)) there) [
      | inl here ↦ or_left (is_at (nat_cmp m) k) (is_in m ks) here
      | inr more ↦ or_right (is_at (nat_cmp m) k) (is_in m ks) (later more)
    ]

-- so it is of the ids that live behind a retirement
retired_in : (own : OwnIds) (n m : ℕ) → is_in m (after_retirement own n).living ≡ true → is_in m own.living ≡ true
retired_in own n m = go (is_wrong own n)
  where
    go : (b : Bool) → is_in m (cond b own (record own { living = without n own.living })).living ≡ true → is_in m own.living ≡ true
    go true is = is
    go false is = without_in n m own.living is

-- numbers from one on
range_has : (start len n : ℕ) → start ≤ n → n < start + len → has_retirement n (range_with_len start len) ≡ true
range_has start zero n low high = absurd (omega arith)
range_has start (suc len) n low high = go (λ less. range_has (start + 1) len n (omega arith) (omega arith)) (ltb start n) refl
  where
    go : (start < n → has_retirement n (range_with_len (start + 1) len) ≡ true) → (b : Bool) → ltb start n ≡ b → ((start == n) || has_retirement n (range_with_len (start + 1) len)) ≡ true
    go rest true is = or_right (start == n) (has_retirement n (range_with_len (start + 1) len)) (rest (ltb-true start n is))
    go rest false is = let most = ltb-false start n is in or_left (start == n) (has_retirement n (range_with_len (start + 1) len)) (eq-eqb start n (omega arith))

-- the ids that are drawn of them
drawn_has : (words : ℕ → ℕ) (start len n : ℕ) → start ≤ n → n < start + len → has_new_id n (drawn_ids words (range_with_len start len)) ≡ true
drawn_has words start zero n low high = absurd (omega arith)
drawn_has words start (suc len) n low high = go (λ less. drawn_has (words_behind words_of_id words) (start + 1) len n (omega arith) (omega arith)) (ltb start n) refl
  where
    rest : ℕ → ℕ
    rest = words_behind words_of_id words

    go : (start < n → has_new_id n (drawn_ids rest (range_with_len (start + 1) len)) ≡ true) → (b : Bool) → ltb start n ≡ b → ((start == n) || has_new_id n (drawn_ids rest (range_with_len (start + 1) len))) ≡ true
    go later true is = or_right (start == n) (has_new_id n (drawn_ids rest (range_with_len (start + 1) len))) (later (ltb-true start n is))
    go later false is = let most = ltb-false start n is in or_left (start == n) (has_new_id n (drawn_ids rest (range_with_len (start + 1) len))) (eq-eqb start n (omega arith))

-- numbers below a bound
below_in : (m n : ℕ) → is_in n (below m) ≡ true → n < m
below_in zero n is = cc
below_in (suc m) n is = elim (or_cases (is_in n (below m)) (is_in n (m ∷ [])) (sym (list_any-append (is_at (nat_cmp n)) (below m) (m ∷ [])) ∙ is)) [
  | inl old ↦ (let less = below_in m n old in omega arith)
  | inr last ↦ elim (or_cases (is_at (nat_cmp n) m) false last) [ inl here ↦ (let same : n ≡ m = first_is n m here in omega arith) | inr none ↦ cc ]
]

-- ---- a frame

-- where a NEW_CONNECTION_ID frame asks for no retirements, the id in use keeps its number
pub insert_keeps : (p : PeerIds) (g : NewConnectionId) → g.retire_prior_to ≡ 0 → (after_insert p g).active ≡ p.active
insert_keeps p g none = go (ltb g.sequence p.active || exceeds p g)
  where
    knows : (b : Bool) → (cond b (record p { id = (brought g).id }) (record p { later = with_cid p.later (brought g) })).active ≡ p.active
    knows true = refl
    knows false = refl

    accepted : (b : Bool) → retires_active p g ≡ b → (cond b (first_used (left_by p g) p) (known_with p (brought g))).active ≡ p.active
    accepted true is = let clash = ltb-true p.active g.retire_prior_to is in absurd (omega arith)
    accepted false is = knows (g.sequence == p.active)

    go : (b : Bool) → (cond b p (after_accepted p g)).active ≡ p.active
    go true = refl
    go false = accepted (retires_active p g) refl

taken_up_owed : (what : Listed) (f : NewConnectionIdValue) (e : End) → f.retire_prior_to ≡ 0 → IdOwed what (with_taken_up f e).ids → IdOwed what e.ids
taken_up_owed (ResetOf id) f e none owed = owed
taken_up_owed (StopOf id) f e none owed = owed
taken_up_owed (RetireOf number) f e none owed = let same = insert_keeps e.ids.peer (frame_of f) none in subst (λ (n : ℕ). number < n) same owed
taken_up_owed (NewIdOf number) f e none owed = owed
taken_up_owed DoneOf f e none owed = owed

-- what is owed where the next known id of the peer is used
pub next_range : (ids : Ids) (r : Range ℕ) → retires_for_next ids ≡ Some r → (r.start ≡ ids.peer.active) × (r.end ≡ (next_used ids).peer.active)
next_range ids r is = go ids.peer.later is
  where
    go : (cs : List IssuedCid) → option_map (λ (next : ℕ). record { start = ids.peer.active; end = next }) (option_map (λ (cid : IssuedCid). cid.sequence) (slice_get cs 0)) ≡ Some r → (r.start ≡ ids.peer.active) × (r.end ≡ (first_used cs ids.peer).active)
    go [] is = cc
    go (c ∷ cs) is =
        let same : record { start = ids.peer.active; end = c.sequence } ≡ r = same_Some (record { start = ids.peer.active; end = c.sequence }) r is in
        (sym (ap (λ (x : Range ℕ). x.start) same), sym (ap (λ (x : Range ℕ). x.end) same))

module _ (took : List Packet) where
  -- it was owed before, or is where it is to be
  abbrev Or : Listed → End → End → Type 0
  Or what before e = IdOwed what before.ids ⊎ ListedStands took what e

  -- a retirement
  retired_owed : (what : Listed) (n : ℕ) (e : End) → IdOwed what (with_ids e (retired n e.ids)).ids → IdOwed what e.ids
  retired_owed (ResetOf id) n e owed = owed
  retired_owed (StopOf id) n e owed = owed
  retired_owed (RetireOf number) n e owed = owed
  retired_owed (NewIdOf number) n e owed = (owed.0, retired_in e.ids.own n number owed.1)
  retired_owed DoneOf n e owed = owed

  -- another id is issued
  issued_owed : (what : Listed) (e : End) → IdOwed what (issued e).ids → Or what e (issued e)
  issued_owed (ResetOf id) e owed = absurd owed
  issued_owed (StopOf id) e owed = absurd owed
  issued_owed DoneOf e owed = absurd owed
  issued_owed (RetireOf number) e owed = inl owed
  issued_owed (NewIdOf number) e owed = elim (or_cases (number == e.ids.own.issued) (is_in number e.ids.own.living) (sym (in_inserted e.ids.own.living e.ids.own.issued number) ∙ owed.1)) [
    | inl here ↦ (
        let new : List IssuedCid = undrawn_id e.ids.own.issued ∷ [] in
        inr (inl (list_any-append (λ (cid : IssuedCid). cid.sequence == number) e.waiting.frames.new_cids new
        ∙ or_right (has_new_id number e.waiting.frames.new_cids) (has_new_id number new) (or_left (e.ids.own.issued == number) false (eq-eqb e.ids.own.issued number (sym (eqb-true number e.ids.own.issued here)))))))
    | inr old ↦ inl (owed.0, old)
  ]

  -- a frame apart from streams
  apart_owed : (what : Listed) (f : FrameValue) (e : End) → IsApart f → AsksNone f → IdOwed what (take_frame f e).end.ids → Or what e (take_frame f e).end
  apart_owed what (ack a) e apart none owed = absurd apart
  apart_owed what (stream f) e apart none owed = absurd apart
  apart_owed what (reset_stream f) e apart none owed = absurd apart
  apart_owed what (stop_sending f) e apart none owed = absurd apart
  apart_owed what (max_data limit) e apart none owed = absurd apart
  apart_owed what (max_stream_data f) e apart none owed = absurd apart
  apart_owed what (max_streams f) e apart none owed = absurd apart
  apart_owed what (datagram m) e apart none owed = absurd apart
  apart_owed what (new_connection_id f) e apart none owed = inl (go (retires_for (insert_answer e.ids.peer (frame_of f))) owed)
    where
      retires : (b : Bool) (r : Range ℕ) → IdOwed what (retired_for b r f e).end.ids → IdOwed what e.ids
      retires true r owes = taken_up_owed what f e none (subst (IdOwed what) (shortened_ids _ (retiring r (with_taken_up f e))) owes)
      retires false r owes = taken_up_owed what f e none owes

      go : (r : Result (Option (Range ℕ)) InsertError) → IdOwed what (id_judged r f e).end.ids → IdOwed what e.ids
      go (Ok None) owes = taken_up_owed what f e none (subst (IdOwed what) (shortened_ids _ (with_taken_up f e)) owes)
      go (Ok (Some r)) owes = retires (can_retire e.waiting.frames r.start r.end) r owes
      go (Err inserts.Retired) owes = owes
      go (Err inserts.ExceedsLimit) owes = owes
  apart_owed what (retire_connection_id n) e apart none owed = go (retirement_answer e.ids.own n e.ids.limit) owed
    where
      left : End
      left = with_ids e (retired n e.ids)

      issues : (b : Bool) → IdOwed what (issued_if b left).ids → Or what e (issued_if b left)
      issues true owes = elim (issued_owed what left owes) [ inl before ↦ inl (retired_owed what n e before) | inr waits ↦ inr waits ]
      issues false owes = inl (retired_owed what n e owes)

      go : (r : Result Bool ErrorValue) → IdOwed what (retirement_judged r n e).end.ids → Or what e (retirement_judged r n e).end
      go (Ok more) owes = issues (issues_for n e) owes
      go (Err error) owes = inl owes
  apart_owed what (path_response token) e apart none owed = go (is_asked e.validation.challenge (word_of token)) owed
    where
      go : (b : Bool) → IdOwed what (validated_if b e).ids → Or what e (validated_if b e)
      go true owes = inl owes
      go false owes = inl owes
  apart_owed what handshake_done e apart none owed = by_heard_done (λ (x : End). IdOwed what x.ids → Or what e x) e (λ owes. inl owes) (λ c owes. inl owes) owed
  apart_owed what (ack_frequency r) e apart none owed = by_frequency (λ (x : End). IdOwed what x.ids → Or what e x) r e (λ threshold reordering frequency owes. inl owes) owed
  apart_owed what f e apart none owed = inl owed

  -- any frame
  frame_owed : (what : Listed) (f : FrameValue) (e : End) → AsksNone f → IdOwed what (take_frame f e).end.ids → Or what e (take_frame f e).end
  frame_owed what f e = by_frame f e (λ h p. AsksNone h → IdOwed what p.end.ids → Or what e p.end)
      (λ a is none owed. inl (subst (IdOwed what) (ack_ids (names_ungiven a e) a e) owed))
      (λ other on none owed. inl (subst (IdOwed what) (frame_leaves (λ (x : End). x.ids ≡ e.ids) f e on (λ t. refl)) owed))
      (λ other m same none owed. inl (subst (IdOwed what) (ap (λ (x : End). x.ids) same) owed))
      (λ other apart none owed. apart_owed what f e apart none owed)

  -- the next id of the peer
  next_owed : (what : Listed) (e : End) (a : Answer) → IdOwed what (end_on_next_id e a).ids → Or what e (end_on_next_id e a)
  next_owed what e (answers.UseNextId (Ok done)) owed = go (retires_for_next e.ids) refl owed
    where
      uses : Range ℕ → End
      uses r = retiring r (with_ids e (next_used e.ids))

      more : (it : Listed) (r : Range ℕ) → retires_for_next e.ids ≡ Some r → IdOwed it (next_used e.ids) → IdOwed it e.ids ⊎ ListedStands took it (uses r)
      more (ResetOf id) r is owes = absurd owes
      more (StopOf id) r is owes = absurd owes
      more DoneOf r is owes = absurd owes
      more (NewIdOf number) r is owes = inl owes
      more (RetireOf number) r is owes = before (ltb number e.ids.peer.active) refl
        where
          range : (r.start ≡ e.ids.peer.active) × (r.end ≡ (next_used e.ids).peer.active)
          range = next_range e.ids r is

          before : (b : Bool) → ltb number e.ids.peer.active ≡ b → (number < e.ids.peer.active) ⊎ ListedStands took (RetireOf number) (uses r)
          before true less = inl (ltb-true number e.ids.peer.active less)
          before false not_less =
              let most = ltb-false number e.ids.peer.active not_less in
              let start = range.0 in
              let end = range.1 in
              let new : List ℕ = range_with_len r.start (r.end - r.start) in
              inr (inl (list_any-append (λ (n : ℕ). n == number) e.waiting.frames.retire_cids new
              ∙ or_right (has_retirement number e.waiting.frames.retire_cids) (has_retirement number new) (range_has r.start (r.end - r.start) number (omega arith) (omega arith))))

      go : (o : Option (Range ℕ)) → retires_for_next e.ids ≡ o → IdOwed what (next_id_taken o e).ids → Or what e (next_id_taken o e)
      go None is owes = inl owes
      go (Some r) is owes = elim (more what r is (subst (IdOwed what) (shortened_ids _ (uses r)) owes)) [ inl before ↦ inl before | inr now ↦ inr (shortened_stands took what _ (uses r) now) ]
  next_owed what e a owed = inl owed

  -- where the peer is at another address
  moved_owed : (what : Listed) (p : Policy) (o : Opening) (remote : ℕ) (e : End) → (IdOwed what e.ids → ListedStands took what e) → IdOwed what (migrated p o remote e).ids → ListedStands took what (migrated p o remote e)
  moved_owed what = moving_keeps (λ (x : End). IdOwed what x.ids → ListedStands took what x) (λ m x stands. stands)
      (λ x a stands owed. elim (next_owed what x a owed) [ inl before ↦ next_stands took what x a (stands before) | inr now ↦ now ])

  -- ---- a delivery

  module _ (what : Listed) (sents : List Sent) (stands : Stands took sents) where
    -- over the frames of a packet
    record Passing (left : List FrameValue) (e : End) : Type 0 where
      takes : (a : AckValue) → In (ack a) left → NamesTaken took a
      none : AskNone left
      tracked : AreTracked sents e.tracking.packets
      here : IdOwed what e.ids → ListedStands took what e

    frames_owed : (fs : List FrameValue) (e : End) → ((a : AckValue) → In (ack a) fs → NamesTaken took a) → AskNone fs → AreTracked sents e.tracking.packets → (IdOwed what e.ids → ListedStands took what e) → IdOwed what (passed fs e).end.ids → ListedStands took what (passed fs e).end
    frames_owed fs e takes none tracked h = (frames_leave Passing (λ f left x g. record {
      takes = λ a j. g.takes a (inr j);
      none = λ k j. g.none k (inr j);
      tracked = λ n t j. g.tracked n t (frame_fewer x f x (λ m u k. k) n t j);
      here = λ owed. elim (frame_owed what f x (g.none f (inl refl)) owed) [
        | inl before ↦ frame_stands took what sents stands f left x (record { takes = g.takes; tracked = g.tracked; stand = g.here before })
        | inr now ↦ now
      ];
    }) fs e (record { takes = takes; none = none; tracked = tracked; here = h })).1.here

    -- each case of a delivery
    pub arrivals_owed : (e : End) (now n : ℕ) (frames taken : List FrameValue) (came : Intake) → ((a : AckValue) → In (ack a) taken → NamesTaken took a) → AskNone taken → AreTracked sents e.tracking.packets → (IdOwed what e.ids → ListedStands took what e)
        → Arrivals e now n frames taken came (λ (o : Outcome) (j : Intake). IdOwed what o.end.ids → ListedStands took what o.end)
    arrivals_owed e now n frames taken came takes none tracked h = record {
      ignored = λ reason. h;
      noted = λ state reason. h;
      takes = λ words state new fine urged mark. draws words (after_taken n (asks_in (map Ok frames)) urged mark (arrived e now n taken).end) passes;
      moves = λ p o same remote x opened j. moved_owed what p o remote x j;
      drains = λ words state new close is. draws words (drained_at n close (arrived e now n taken).end) passes;
      refuses = λ words state new f is. draws words (closed_by (reason_of f) (arrived e now n taken).end) passes;
      exhausts = λ state. h;
    }
      where
        draws : (words : ℕ → ℕ) (x : End) → (IdOwed what x.ids → ListedStands took what x) → IdOwed what (drawn words x).ids → ListedStands took what (drawn words x)
        draws words x j owed = drawn_stands took what words x (j (drawn_owed what (drawing words x) x.ids owed))

        passes : IdOwed what (arrived e now n taken).end.ids → ListedStands took what (arrived e now n taken).end
        passes = frames_owed taken (begun e now n) takes none tracked h

  -- ---- calls

  -- any call but a delivery
  pub call_owed : (what : Listed) (p : Policy) (e : End) (theirs : List (List ℕ)) (call : Call) (a : Answer) → is_delivery call ≡ false → IdOwed what (after_call p e theirs call a).ids → Or what e (after_call p e theirs call a)
  call_owed what p e theirs call a apart = by_call p e theirs (λ (x : End). IdOwed what x.ids → Or what e x) call a (record {
    same = λ owed. inl owed;
    on_streams = λ on answer owed. inl owed;
    on_messages = λ on answer owed. inl owed;
    pings = λ owed. inl owed;
    closes = λ reason f now own owed. inl owed;
    waits = λ now b set. by_waits (λ (x : End). IdOwed what x.ids → Or what e x) b (with_closing e (ticked e.closing now)) (λ owed. inl owed) (λ owed. inl owed);
    changes_id = λ uses answer. next_owed what e a;
    says_handshake = λ says answer. by_done (λ (x : End). IdOwed what x.ids → Or what e x) e a (λ owed. inl owed) (λ owed. inl owed);
    times = λ now expiry set owed. inl (by_expired p.words e now (λ (x : End). IdOwed what x.ids → IdOwed what e.ids) (λ pending tracking timers waits asked runs packets owes. owes)
        (λ pending timers waits asked runs owes. subst (IdOwed what) (losses_keep (λ (x : End). x.ids ≡ e.ids) (settles_ids e) (with_closing e (ticked e.closing now)) refl) owes) (λ x j. j) expiry owed);
    polls = λ now set owed. inl (subst (IdOwed what) (polled_ids p e now) owed);
    hears = λ arrival d set. (let clash : false ≡ true = sym apart ∙ set in cc);
    tells = λ asks. by_event e (λ (x : End). IdOwed what x.ids → Or what e x) (λ owed. inl owed) (λ owed. inl owed) (λ told owed. inl owed);
  })

-- ---- the start

-- an end that is made tells of its other ids
pub first_owed : (took : List Packet) (x y : Beginning) (what : Listed) → IdOwed what (begun_as x y).end.ids → ListedStands took what (begun_as x y).end
first_owed took x y (ResetOf id) owed = absurd owed
first_owed took x y (StopOf id) owed = absurd owed
first_owed took x y DoneOf owed = absurd owed
first_owed took x y (RetireOf number) owed = let less : number < 0 = owed in absurd (omega arith)
first_owed took x y (NewIdOf number) owed =
    let limit : ℕ = most_ids (parameters_of y.making.settings).active_connection_id_limit in
    let low : 1 ≤ number = owed.0 in
    let high : number < limit = below_in limit number owed.1 in
    inl (drawn_has (words_behind 1 x.making.words) 1 (limit - 1) number low (omega arith))
