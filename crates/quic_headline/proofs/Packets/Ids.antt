-- Ids that wait to be told and numbers that wait to be retired: what is so of each of them is so of
-- what frames say. And how long ids are.
use Rattle.std.proofs.Common.{◌≡◌, ℕ, zero, suc, Bool, true, false, cond, ltb, ◌==◌, ◌||◌, List, [], ◌∷◌, ◌++◌, length, replicate, Option, Some, None, Result, Ok, Err, refl, sym, ap, ◌∙◌, subst, ◌⊎◌, inl, inr, append-nil}
use Rattle.std.specs.Prelude.{map, set, slice_get, nat_le, leb, if◌then◌else◌}
use Rattle.std.specs.List.{fold, list_any}
use Rattle.std.specs.Option.{is_some}
use Rattle.std.specs.declared.ops.Range.{Range}
use Rattle.quic_wire_core.specs.TransportError.{ErrorValue}
use Rattle.quic_wire_core.specs.declared.shared.IssuedCid.{IssuedCid}
use Rattle.quic_wire.specs.Value.{FrameValue, AckValue, ack, stream, reset_stream, stop_sending, max_data, max_stream_data, max_streams, datagram, path_response, handshake_done, new_connection_id, retire_connection_id, padding, ack_frequency}
use Rattle.quic_wire.specs.declared.frame.NewConnectionId.{NewConnectionId}
use Rattle.quic_ids.specs.CidState.{retirement_answer}
use Rattle.quic_ids.specs.CidQueue.{PeerIds, with_cid, known_with, first_used, exceeds, retires_active, left_by, after_accepted, after_insert, after_next, insert_answer, from, brought}
use Rattle.quic_ids.specs.declared.cid_queue.InsertError.{InsertError}
use Rattle.quic_ids.specs.declared.cid_queue.InsertError.TheVariants as inserts
use Rattle.quic_paths.specs.Paths.{is_asked}
use Rattle.quic_retransmits.specs.Retransmits.{Retransmits, nothing_waits, first_of, others_of, can_retire, most_retirements}
use Rattle.quic_retransmits.specs.declared.retransmits.ControlKind.{ControlKind}
use Rattle.quic_retransmits.specs.declared.retransmits.ControlKind.TheVariants.{NewConnectionId as OfNewId, RetireConnectionId as OfRetirement}
use Rattle.quic_wire_core.specs.declared.stream_id.Side.{Side}
use Rattle.quic_parameters.specs.Parameters.{ParameterValues}
use Rattle.quic_config.specs.Transport.{Settings}
use Rattle.quic_streams_parts.specs.SendHalf.{SendHalf}
use Rattle.quic_streams_parts.specs.RecvHalf.{RecvHalf}
use Rattle.quic_streams_state.specs.declared.state.StreamsState.{StreamsState}
use Rattle.quic_streams_state.specs.State.{Streams, streams_of, sending_half, receiving_half}
use Rattle.quic_streams_state.specs.Sends.{reset_half}
use Rattle.quic_streams_state.specs.Writing.{reset_at}
use Rattle.quic_streams_state.specs.Reading.{told_bytes, after_read_begun, with_stop, stopped_if, stopped_at}
use Rattle.quic_streams_state.specs.Limits.{settled}
use Rattle.quic_streams_state.specs.Control.{without_first, issued_in, Goes}
use Rattle.quic_machine.specs.declared.run.Call.{Call}
use Rattle.quic_machine.specs.declared.run.Call.TheVariants as calls
use Rattle.quic_machine.specs.declared.run.Answer.{Answer}
use Rattle.quic_machine.specs.declared.run.Answer.TheVariants as answers
use Rattle.quic_machine.specs.Policy.{Policy}
use Rattle.quic_machine.specs.Calls.{is_open, after_nexts}
use Rattle.quic_machine.specs.StreamCalls.{after_on_streams}
use Rattle.quic_machine.specs.CallCases.{is_delivery, uses_next_id, by_call, by_done}
use Rattle.quic_machine.specs.LeaveCases.{by_expired, by_event}
use Rattle.quic_machine.specs.Machine.{IsAnswer, after_call, fails, gave}
use Rattle.quic_machine.specs.Closing.{ticked}
use Rattle.quic_machine.specs.Tracking.{Carried, and_again}
use Rattle.quic_machine.specs.Ids.{Drawing, own_id_length, most_ids, later_numbers, words_behind, words_of_id, drawn_id, drawn_ids, undrawn_id, retired, frame_of, retires_for, retires_for_next, next_used, drawn_one, drawn_places}
use Rattle.quic_machine.specs.IdFrames.{retiring, with_taken_up, issued_if, issues_for, next_id_taken, end_on_next_id, drawn}
use Rattle.quic_machine.specs.Validation.{word_of, validated_if}
use Rattle.quic_machine.specs.Parts.{Windows}
use Rattle.quic_machine.specs.End.{End, with_closing, with_ids, closed_by, words_drawn, streams_at, new_end}
use Rattle.quic_machine.specs.Acked.{again}
use Rattle.quic_machine.specs.Receive.{Outcome, asks_in, after_taken, drained_at, reason_of, retired_for, id_judged, retirement_judged, take_frame}
use Rattle.quic_machine.specs.MessageCalls.{most_message}
use Rattle.quic_machine.specs.Sizes.{without_longer_if, shortened}
use Rattle.quic_machine.specs.FrameCases.{OnStreams, IsApart, passed}
use Rattle.quic_machine.specs.Steps as steps
use Rattle.quic_machine.specs.Puts as puts
use Rattle.quic_machine.specs.Poll.{Polled, Draft, zeros_behind, draft_as, polled, whole, Leaving, lazied_as, request_of}
use Rattle.quic_machine.specs.DraftLaws.{Writing, MayLeave, by_leave}
use Rattle.quic_machine.specs.PollCases.{ready_at, draft_at, frames_at, frames_padded, by_poll_to, may_leave_at}
use Rattle.quic_headline.specs.Runs.{In, Packet, Intake}
use Rattle.quic_headline.specs.Observer.{Sent}
use Rattle.quic_headline.proofs.Places.Told.{in_append}
use Rattle.quic_headline.proofs.Packets.Growth.{in_more}
use Rattle.quic_headline.proofs.Packets.Invariant.{IsCarriedFrom, AreTracked, carried_again}
use Rattle.quic_headline.proofs.Packets.Closes.{by_closes}
use Rattle.quic_headline.proofs.Packets.Owing.{Owes, sent_fine}
use Rattle.quic_headline.proofs.Places.Steps.{poll_answer}
use Rattle.quic_headline.proofs.Packets.Apart.{by_waits, by_frequency, by_heard_done}
use Rattle.quic_headline.proofs.Packets.OfPeer.{peer_settles, peer_frame, peer_call}
use Rattle.quic_headline.proofs.Packets.Probes.{by_ready, by_going}
use Rattle.quic_headline.proofs.Packets.Delivered.{Arrivals, arrived}
use Rattle.quic_headline.proofs.Packets.Named.{NamesTaken, Stands, SettlesOn, in_filter, tracked_carried, expired_on, frames_settle}
use Rattle.quic_headline.proofs.Places.Parties.{sent_by, sent_if, sents_by}
use Rattle.quic_headline.proofs.Halves.Pile.{SamePile}
use Rattle.quic_headline.proofs.Halves.PileSteps.{acked_same, reset_acked_same, stream_same, reset_same}
use Rattle.quic_headline.proofs.Halves.PileCalls.{write_same, chunks_same, finalize_same, received_reset_same}
use Rattle.quic_headline.proofs.Packets.Moving.{moving_keeps}

-- ---- what is so of ids and of numbers

-- so it is of the id that a frame tells of, and of the number that it retires
abbrev pub SaysIds : (IssuedCid → Type 0) → (ℕ → Type 0) → FrameValue → Type 0
SaysIds C R (new_connection_id f) = C (issued_in f)
SaysIds C R (retire_connection_id n) = R n
SaysIds C R f = Unit {0}

-- so it is of those that wait
pub record Waits (C : IssuedCid → Type 0) (R : ℕ → Type 0) (r : Retransmits) : Type 0 where
  pub tells : (c : IssuedCid) → In c r.new_cids → C c
  pub retires : (n : ℕ) → In n r.retire_cids → R n

-- the first of a list stands in it, and the others do
first_in : {A : Type 0} (x : A) (xs : List A) → first_of xs ≡ Some x → In x xs
first_in x [] is = cc
first_in x (y ∷ xs) is = let same : x ≡ y = cc in inl same

others_in : {A : Type 0} (x : A) (xs : List A) → In x (others_of xs) → In x xs
others_in x [] i = i
others_in x (y ∷ xs) i = inr i

module _ (C : IssuedCid → Type 0) (R : ℕ → Type 0) where
  -- frames say so, and all that were sent do
  abbrev pub AllSayIds : List FrameValue → Type 0
  AllSayIds frames = (f : FrameValue) → In f frames → SaysIds C R f

  abbrev pub SentSayIds : List Sent → Type 0
  SentSayIds sents = (s : Sent) (f : FrameValue) → In s sents → In f s.frames → SaysIds C R f

  -- nothing waits
  none_waits : Waits C R nothing_waits
  none_waits = record { tells = λ c i. absurd i; retires = λ n i. absurd i }

  -- the same waits
  pub waits_same : (p q : Retransmits) → SamePile p q → Waits C R p → Waits C R q
  waits_same p q same w = record { tells = λ c i. w.tells c (subst (λ (cs : List IssuedCid). In c cs) same.ids i); retires = λ n i. w.retires n (subst (λ (ns : List ℕ). In n ns) same.retired i) }

  -- ---- what packets carried

  -- what a frame says waits again
  again_frame : (r : Retransmits) (f : FrameValue) → Waits C R r → SaysIds C R f → Waits C R (and_again r f)
  again_frame r (new_connection_id f) w says = record {
    tells = λ c i. elim (in_more c (issued_in f) r.new_cids i) [ inl old ↦ w.tells c old | inr is ↦ subst C (sym is) says ];
    retires = w.retires;
  }
  again_frame r (retire_connection_id n) w says = record {
    tells = w.tells;
    retires = λ m i. elim (in_more m n r.retire_cids i) [ inl old ↦ w.retires m old | inr is ↦ subst R (sym is) says ];
  }
  again_frame r f w says = record { tells = w.tells; retires = w.retires }

  again_frames : (r : Retransmits) (fs : List FrameValue) → Waits C R r → AllSayIds fs → Waits C R (fold and_again r fs)
  again_frames r [] w all = w
  again_frames r (f ∷ fs) w all = again_frames (and_again r f) fs (again_frame r f w (all f (inl refl))) (λ g i. all g (inr i))

  pub carried_waits : (c : Carried) (frames : List FrameValue) → IsCarriedFrom c frames → AllSayIds frames → Waits C R c.retransmits
  carried_waits c frames from all = elim (carried_again c frames from) [
    | inl is ↦ subst (Waits C R) (sym is) (again_frames nothing_waits frames none_waits all)
    | inr is ↦ subst (Waits C R) (sym is) none_waits
  ]

  pub again_waits : (c : Carried) (e : End) → Waits C R e.waiting.frames → Waits C R c.retransmits → Waits C R (again c e).waiting.frames
  again_waits c e w carried = record {
    tells = λ cid i. elim (in_append cid e.waiting.frames.new_cids c.retransmits.new_cids i) [ inl old ↦ w.tells cid old | inr new ↦ carried.tells cid new ];
    retires = λ n i. elim (in_append n e.waiting.frames.retire_cids c.retransmits.retire_cids i) [ inl old ↦ w.retires n old | inr new ↦ carried.retires n new ];
  }

  -- each step of an ACK frame and of losses leaves it
  pub steps_wait : (took : List Packet) (sents : List Sent) → SentSayIds sents → SettlesOn took sents (λ (e : End). Waits C R e.waiting.frames)
  steps_wait took sents say (steps.again c) e may w = again_waits c e w (carried_waits c may.sent.frames may.is (λ f i. say may.sent f may.among i))
  steps_wait took sents say (steps.acked m) e may w = waits_same e.waiting.frames _ (acked_same e.streams e.waiting.frames m) w
  steps_wait took sents say (steps.reset id) e may w = waits_same e.waiting.frames _ (reset_acked_same e.streams e.waiting.frames id) w
  steps_wait took sents say s e may w = w

  -- ---- drafts

  -- a draft whose frames say so, as what waits does
  pub record Draws (d : Draft) : Type 0 where
    pub frames : AllSayIds d.frames
    pub waits : Waits C R d.end.waiting.frames

  -- one more frame
  says_more : (frames : List FrameValue) (f : FrameValue) → AllSayIds frames → SaysIds C R f → AllSayIds (frames ++ f ∷ [])
  says_more frames f all one g i = elim (in_more g f frames i) [ inl old ↦ all g old | inr is ↦ subst (SaysIds C R) (sym is) one ]

  -- what goes waited first
  goes_says : (p : Retransmits) (s : StreamsState) (f : FrameValue) → Waits C R p → Goes p s f → SaysIds C R f
  goes_says p s (new_connection_id f) w goes = subst C (sym (ap issued_in goes.2)) (w.tells goes.0 (first_in goes.0 p.new_cids goes.1))
  goes_says p s (retire_connection_id n) w goes = w.retires n (first_in n p.retire_cids goes)
  goes_says p s f w goes = tt

  waits_without : (kind : ControlKind) (p : Retransmits) → Waits C R p → Waits C R (without_first kind p)
  waits_without OfNewId p w = record { tells = λ c i. w.tells c (others_in c p.new_cids i); retires = w.retires }
  waits_without OfRetirement p w = record { tells = w.tells; retires = λ n i. w.retires n (others_in n p.retire_cids i) }
  waits_without kind p w = record { tells = w.tells; retires = w.retires }

  draws_keep : Writing Draws
  draws_keep (puts.drops kind) d may k = record { frames = k.frames; waits = waits_without kind d.end.waiting.frames k.waits }
  draws_keep (puts.control kind f) d is k = record { frames = says_more d.frames f k.frames (goes_says d.end.waiting.frames d.end.streams f k.waits is.says); waits = waits_without kind d.end.waiting.frames k.waits }
  draws_keep puts.request d may k = record { frames = says_more d.frames (ack_frequency (request_of d.end)) k.frames tt; waits = record { tells = k.waits.tells; retires = k.waits.retires } }
  draws_keep p d may k = record { frames = says_more d.frames _ k.frames tt; waits = k.waits }

  draft_draws : (leaving : Leaving) (e : End) → MayLeave leaving e → Waits C R e.waiting.frames → Draws (draft_as leaving e)
  draft_draws leaving e may w = by_leave Draws draws_keep leaving e may (record { frames = λ f i. absurd i; waits = begins leaving })
    where
      begins : (l : Leaving) → Waits C R (lazied_as l e).waiting.frames
      begins whole = w
      begins other = w

  -- PADDING says nothing
  zeros_say : (count : ℕ) → AllSayIds (replicate count padding)
  zeros_say zero f i = absurd i
  zeros_say (suc count) f (inl is) = subst (SaysIds C R) (sym is) tt
  zeros_say (suc count) f (inr i) = zeros_say count f i

  padded_say : (d : Draft) → Draws d → AllSayIds (frames_padded d)
  padded_say d w f i = elim (in_append f d.frames (replicate (zeros_behind d) padding) i) [ inl one ↦ w.frames f one | inr zeros ↦ zeros_say (zeros_behind d) f zeros ]

  -- ---- a poll

  module _ (e : End) (now : ℕ) (sents : List Sent) (say : SentSayIds sents) (tracked : AreTracked sents e.tracking.packets) (w : Waits C R e.waiting.frames) where
    ready_waits : Waits C R (ready_at e now).end.waiting.frames
    ready_waits = by_ready (λ (x : End). Waits C R x.waiting.frames) e now w (λ ping immediate x i. i) (λ waits x i. record { tells = i.tells; retires = i.retires })
        (λ p i. again_waits p.1.carried e w (let was = tracked_carried sents e.tracking.packets tracked p.0 p.1 i in carried_waits p.1.carried was.sent.frames was.is (λ f j. say was.sent f was.among j)))
        (λ moment pacing discovery x i. i)

    draws : Draws (draft_at e now)
    draws = draft_draws (ready_at e now).leaving (ready_at e now).end (may_leave_at e now) ready_waits

    -- what it gives says so
    pub polled_says : AllSayIds (frames_at e now)
    polled_says = padded_say (draft_at e now) draws

    -- and what waits behind it does
    pub polled_waits : (p : Policy) → Waits C R (polled p e now).end.waiting.frames
    polled_waits p = by_poll_to p e now (λ (q : Polled). Waits C R q.end.waiting.frames) (record {
      silent = w;
      failed = w;
      nothing = λ is none. ready_waits;
      repeats = λ is. by_closes p (with_closing e (ticked e.closing now)) (λ (q : Polled). Waits C R q.end.waiting.frames) w (λ f goes. w);
      closes = λ reason bound. by_closes p (closed_by reason (ready_at e now).end) (λ (q : Polled). Waits C R q.end.waiting.frames) ready_waits (λ f goes. ready_waits);
      gives = λ is may some. by_going (λ (x : End). Waits C R x.waiting.frames) p (draft_at e now) (λ pacing. draws.waits);
    })

-- ---- how long ids are

-- as long as an own id, and any number
abbrev pub IsLong : IssuedCid → Type 0
IsLong c = length c.id ≡ own_id_length

abbrev pub AnyNumber : ℕ → Type 0
AnyNumber n = Unit {0}

-- so are those of the peer that are known
pub record KnownLong (p : PeerIds) : Type 0 where
  pub used : length p.id ≡ own_id_length
  pub later : (c : IssuedCid) → In c p.later → IsLong c

-- so are all that an end tells of and knows
pub record LongIds (e : End) : Type 0 where
  pub waits : Waits IsLong AnyNumber e.waiting.frames
  pub peer : KnownLong e.ids.peer

-- what frames say of ids that were sent
abbrev pub TellLong : List Sent → Type 0
TellLong = SentSayIds IsLong AnyNumber

-- ---- those of the peer

-- one more id at its place
pub in_with : (es : List IssuedCid) (c x : IssuedCid) → In x (with_cid es c) → In x es ⊎ (x ≡ c)
in_with [] c x (inl is) = inr is
in_with [] c x (inr none) = absurd none
in_with (e ∷ es) c x i = go (ltb c.sequence e.sequence) (c.sequence == e.sequence) (in_with es c x) i
  where
    go : (less same : Bool) → (In x (with_cid es c) → In x es ⊎ (x ≡ c)) → In x (cond less (c ∷ e ∷ es) (cond same (c ∷ es) (e ∷ with_cid es c))) → In x (e ∷ es) ⊎ (x ≡ c)
    go true same later (inl is) = inr is
    go true same later (inr old) = inl old
    go false true later (inl is) = inr is
    go false true later (inr old) = inl (inr old)
    go false false later (inl is) = inl (inl is)
    go false false later (inr more) = elim (later more) [ inl old ↦ inl (inr old) | inr is ↦ inr is ]

first_long : (cs : List IssuedCid) (p : PeerIds) → KnownLong p → ((c : IssuedCid) → In c cs → IsLong c) → KnownLong (first_used cs p)
first_long [] p known all = known
first_long (c ∷ cs) p known all = record { used = all c (inl refl); later = λ d i. all d (inr i) }

pub insert_long : (p : PeerIds) (g : NewConnectionId) → KnownLong p → length g.id ≡ own_id_length → KnownLong (after_insert p g)
insert_long p g known long = go (ltb g.sequence p.active || exceeds p g)
  where
    among : (es : List IssuedCid) → ((c : IssuedCid) → In c es → IsLong c) → (c : IssuedCid) → In c (with_cid es (brought g)) → IsLong c
    among es all c i = elim (in_with es (brought g) c i) [ inl old ↦ all c old | inr is ↦ subst IsLong (sym is) long ]

    knows : (b : Bool) → KnownLong (cond b (record p { id = (brought g).id }) (record p { later = with_cid p.later (brought g) }))
    knows true = record { used = long; later = known.later }
    knows false = record { used = known.used; later = among p.later known.later }

    accepted : (b : Bool) → KnownLong (cond b (first_used (left_by p g) p) (known_with p (brought g)))
    accepted true = first_long (left_by p g) p known (among (from g.retire_prior_to p.later) (λ c i. known.later c (in_filter (λ d. leb g.retire_prior_to d.sequence) c p.later i)))
    accepted false = knows (g.sequence == p.active)

    go : (b : Bool) → KnownLong (cond b p (after_accepted p g))
    go true = known
    go false = accepted (retires_active p g)

pub next_long : (p : PeerIds) → KnownLong p → KnownLong (after_next p)
next_long p known = first_long p.later p known known.later

-- ---- frames

fitted_long : (b : Bool) (e : End) → LongIds e → LongIds (shortened b e)
fitted_long false e i = i
fitted_long true e i = lasts (most_message e)
  where
    lasts : (o : Option ℕ) → LongIds (without_longer_if o e)
    lasts None = i
    lasts (Some most) = record { waits = i.waits; peer = i.peer }

-- a frame apart from streams
apart_long : (f : FrameValue) (e : End) → IsApart f → SaysIds IsLong AnyNumber f → LongIds e → LongIds (take_frame f e).end
apart_long (ack a) e apart says i = absurd apart
apart_long (stream f) e apart says i = absurd apart
apart_long (reset_stream f) e apart says i = absurd apart
apart_long (stop_sending f) e apart says i = absurd apart
apart_long (max_data limit) e apart says i = absurd apart
apart_long (max_stream_data f) e apart says i = absurd apart
apart_long (max_streams f) e apart says i = absurd apart
apart_long (datagram m) e apart says i = absurd apart
apart_long (new_connection_id f) e apart says i = go (retires_for (insert_answer e.ids.peer (frame_of f)))
  where
    knows : KnownLong (after_insert e.ids.peer (frame_of f))
    knows = insert_long e.ids.peer (frame_of f) i.peer says

    retires : (b : Bool) (r : Range ℕ) → LongIds (retired_for b r f e).end
    retires true r = fitted_long _ (retiring r (with_taken_up f e)) (record { waits = record { tells = i.waits.tells; retires = λ n j. tt }; peer = knows })
    retires false r = record { waits = i.waits; peer = knows }

    late : (b : Bool) → Waits IsLong AnyNumber (if b then e.waiting.frames else record e.waiting.frames { retire_cids = e.waiting.frames.retire_cids ++ f.sequence ∷ [] })
    late true = i.waits
    late false = record { tells = i.waits.tells; retires = λ n j. tt }

    go : (r : Result (Option (Range ℕ)) InsertError) → LongIds (id_judged r f e).end
    go (Ok None) = fitted_long _ (with_taken_up f e) (record { waits = i.waits; peer = knows })
    go (Ok (Some r)) = retires (can_retire e.waiting.frames r.start r.end) r
    go (Err inserts.Retired) = record { waits = late (nat_le most_retirements (length e.waiting.frames.retire_cids) || list_any (λ m. m == f.sequence) e.waiting.frames.retire_cids); peer = i.peer }
    go (Err inserts.ExceedsLimit) = i
apart_long (retire_connection_id n) e apart says i = go (retirement_answer e.ids.own n e.ids.limit)
  where
    issues : (b : Bool) → LongIds (issued_if b (with_ids e (retired n e.ids)))
    issues true = record {
      waits = record {
        tells = λ c j. elim (in_more c (undrawn_id (retired n e.ids).own.issued) e.waiting.frames.new_cids j) [ inl old ↦ i.waits.tells c old | inr is ↦ subst IsLong (sym is) refl ];
        retires = i.waits.retires;
      };
      peer = record { used = i.peer.used; later = i.peer.later };
    }
    issues false = record { waits = i.waits; peer = i.peer }

    go : (r : Result Bool ErrorValue) → LongIds (retirement_judged r n e).end
    go (Ok more) = issues (issues_for n e)
    go (Err error) = i
apart_long (path_response token) e apart says i = go (is_asked e.validation.challenge (word_of token))
  where
    go : (b : Bool) → LongIds (validated_if b e)
    go true = record { waits = i.waits; peer = i.peer }
    go false = i
apart_long handshake_done e apart says i = by_heard_done LongIds e i (λ c. record { waits = i.waits; peer = i.peer })
apart_long (ack_frequency r) e apart says i = by_frequency LongIds r e (λ threshold reordering frequency. record { waits = i.waits; peer = i.peer })
apart_long f e apart says i = record { waits = i.waits; peer = i.peer }

-- a frame on streams
pub on_streams_wait : (C : IssuedCid → Type 0) (R : ℕ → Type 0) (f : FrameValue) (e : End) → OnStreams f → Waits C R e.waiting.frames → Waits C R (take_frame f e).end.waiting.frames
on_streams_wait C R (stream f) e on w = waits_same C R e.waiting.frames _ (stream_same e.streams e.waiting.frames f) w
on_streams_wait C R (reset_stream f) e on w = waits_same C R e.waiting.frames _ (reset_same e.streams e.waiting.frames f) w
on_streams_wait C R (stop_sending f) e on w = w
on_streams_wait C R (max_data limit) e on w = w
on_streams_wait C R (max_stream_data f) e on w = w
on_streams_wait C R (max_streams f) e on w = w
on_streams_wait C R f e on w = absurd on

-- ids that are drawn
pub in_set : {A : Type 0} (xs : List A) (place : ℕ) (v x : A) → In x (set xs place v) → In x xs ⊎ (x ≡ v)
in_set [] place v x i = inl i
in_set (y ∷ xs) zero v x (inl is) = inr is
in_set (y ∷ xs) zero v x (inr i) = inl (inr i)
in_set (y ∷ xs) (suc place) v x (inl is) = inl (inl is)
in_set (y ∷ xs) (suc place) v x (inr i) = elim (in_set xs place v x i) [ inl old ↦ inl (inr old) | inr new ↦ inr new ]

one_long : (o : Option IssuedCid) (place : ℕ) (words : ℕ → ℕ) (d : Drawing) → ((c : IssuedCid) → In c d.waiting → IsLong c) → (c : IssuedCid) → In c (drawn_one o place words d).waiting → IsLong c
one_long None place words d all c i = all c i
one_long (Some cid) place words d all c i = elim (in_set d.waiting place (drawn_id words cid.sequence) c i) [ inl old ↦ all c old | inr is ↦ subst IsLong (sym is) refl ]

places_long : (places : List ℕ) (words : ℕ → ℕ) (d : Drawing) → ((c : IssuedCid) → In c d.waiting → IsLong c) → (c : IssuedCid) → In c (drawn_places places words d).waiting → IsLong c
places_long [] words d all c i = all c i
places_long (place ∷ places) words d all c i =
    places_long places (words_behind words_of_id words) (drawn_one (slice_get d.waiting place) place words d) (one_long (slice_get d.waiting place) place words d all) c i

pub drawn_long : (words : ℕ → ℕ) (e : End) → LongIds e → LongIds (drawn words e)
drawn_long words e i = record {
  waits = record { tells = places_long e.ids.undrawn (words_behind (words_drawn e) words) (record { living = e.ids.living; waiting = e.waiting.frames.new_cids }) i.waits.tells; retires = i.waits.retires };
  peer = record { used = i.peer.used; later = i.peer.later };
}

-- those that an end tells of at once
pub drawn_ids_long : (words : ℕ → ℕ) (ns : List ℕ) (c : IssuedCid) → In c (drawn_ids words ns) → IsLong c
drawn_ids_long words [] c i = absurd i
drawn_ids_long words (n ∷ ns) c (inl is) = subst IsLong (sym is) refl
drawn_ids_long words (n ∷ ns) c (inr i) = drawn_ids_long (words_behind words_of_id words) ns c i

-- the next id is used
pub next_id_long : (e : End) (a : Answer) → LongIds e → LongIds (end_on_next_id e a)
next_id_long e (answers.UseNextId (Ok done)) i = go (retires_for_next e.ids)
  where
    go : (o : Option (Range ℕ)) → LongIds (next_id_taken o e)
    go None = i
    go (Some r) = fitted_long _ (retiring r (with_ids e (next_used e.ids))) (record { waits = record { tells = i.waits.tells; retires = λ n j. tt }; peer = next_long e.ids.peer i.peer })
next_id_long e a i = i

-- ---- calls

-- a call on streams
on_call_waits : (C : IssuedCid → Type 0) (R : ℕ → Type 0) (b : Bool) (t : Streams) (call : Call) (a : Answer) → Waits C R t.pending → Waits C R (after_on_streams b t call a).pending
on_call_waits C R b t (calls.Open dir) a w = w
on_call_waits C R b t (calls.Accept dir) a w = w
on_call_waits C R b t (calls.Write id bytes) (answers.Write answer) w = waits_same C R t.pending _ (write_same t.state t.pending b answer id bytes) w
on_call_waits C R b t (calls.WriteChunks id chunks) (answers.WriteChunks answer) w = waits_same C R t.pending _ (chunks_same t.state t.pending b answer id chunks.items) w
on_call_waits C R b t (calls.Finish id) (answers.Finish answer) w = w
on_call_waits C R b t (calls.Reset id code) (answers.Reset (Ok done)) w = go (sending_half t.state id)
  where
    reset : (h : SendHalf) (b : Bool) → Waits C R (if b then streams_of t.state t.pending
        else streams_of (record t.state { sending = reset_half h t.state.sending t.state.side id }) (record t.pending { reset_stream = t.pending.reset_stream ++ (id, code) ∷ [] })).pending
    reset h true = w
    reset h false = record { tells = w.tells; retires = w.retires }

    go : (o : Option SendHalf) → Waits C R (reset_at o t.state t.pending id code).pending
    go None = w
    go (Some h) = reset h (is_some h.reset)
on_call_waits C R b t (calls.Reset id code) (answers.Reset (Err error)) w = w
on_call_waits C R b t (calls.SetPriority id priority) (answers.SetPriority (Ok done)) w = w
on_call_waits C R b t (calls.SetPriority id priority) (answers.SetPriority (Err error)) w = w
on_call_waits C R b t (calls.Read read) (answers.Read (Ok nexts)) w =
    waits_same C R t.pending _ (finalize_same (after_nexts told_bytes (after_read_begun t.state read.id read.ordered) read.id read.nexts.items nexts) t.pending read.id) w
on_call_waits C R b t (calls.Stop id code) (answers.Stop (Ok done)) w = go (receiving_half t.state id)
  where
    asks : (o : Option ℕ) → Waits C R (with_stop o id code t.pending)
    asks (Some reset) = w
    asks None = record { tells = w.tells; retires = w.retires }

    raised : (s : StreamsState) (q : Retransmits) → Waits C R q → Waits C R (settled s q).pending
    raised s q v = record { tells = v.tells; retires = v.retires }

    stopped : (h : RecvHalf) (b : Bool) → Waits C R (if b then streams_of t.state t.pending else settled (stopped_if (is_some h.final) t.state id h) (with_stop h.reset id code t.pending)).pending
    stopped h true = w
    stopped h false = raised (stopped_if (is_some h.final) t.state id h) (with_stop h.reset id code t.pending) (asks h.reset)

    go : (o : Option RecvHalf) → Waits C R (stopped_at o t.state t.pending id code).pending
    go None = w
    go (Some h) = stopped h h.stopped
on_call_waits C R b t (calls.Stop id code) (answers.Stop (Err error)) w = w
on_call_waits C R b t (calls.ReceivedReset id) a w = waits_same C R t.pending _ (received_reset_same t.state t.pending id) w
on_call_waits C R b t call a w = w

-- any call that is no delivery leaves what waits, if the next id of the peer does where it is used
pub call_waits : (C : IssuedCid → Type 0) (R : ℕ → Type 0) (p : Policy) (e : End) (theirs : List (List ℕ)) (call : Call) (a : Answer) (sents : List Sent) → is_delivery call ≡ false → SentSayIds C R sents → AreTracked sents e.tracking.packets
    → (uses_next_id call ≡ true → Waits C R (end_on_next_id e a).waiting.frames) → Waits C R e.waiting.frames → Waits C R (after_call p e theirs call a).waiting.frames
call_waits C R p e theirs call a sents apart say tracked next w = by_call p e theirs (λ (x : End). Waits C R x.waiting.frames) call a (record {
  same = w;
  on_streams = λ on answer. on_call_waits C R (is_open e.closing.state) (streams_at e) call a w;
  on_messages = λ on answer. w;
  pings = w;
  closes = λ reason f now own. w;
  waits = λ now b set. by_waits (λ (x : End). Waits C R x.waiting.frames) b (with_closing e (ticked e.closing now)) w w;
  changes_id = λ uses answer. next uses;
  says_handshake = λ says answer. by_done (λ (x : End). Waits C R x.waiting.frames) e a w (record { tells = w.tells; retires = w.retires });
  times = λ now expiry set. by_expired p.words e now (λ (x : End). Waits C R x.waiting.frames) (λ pending tracking timers waits asked runs packets. w)
      (λ pending timers waits asked runs. expired_on [] sents (λ (x : End). Waits C R x.waiting.frames) (steps_wait C R [] sents say) e now (λ c x i. i) (λ acks timers waits asked x i. i) tracked w pending timers waits asked)
      (λ x j. j) expiry;
  polls = λ now set. polled_waits C R e now sents say tracked w p;
  hears = λ arrival d set. (let clash : false ≡ true = sym apart ∙ set in cc);
  tells = λ asks. by_event e (λ (x : End). Waits C R x.waiting.frames) w w (λ told. w);
})

-- what a call sends says so
pub call_says : (C : IssuedCid → Type 0) (R : ℕ → Type 0) (p : Policy) (e : End) (theirs : List (List ℕ)) (call : Call) (a : Answer) (sents : List Sent) → IsAnswer p e theirs call a → fails a ≡ false → Owes e
    → SentSayIds C R sents → AreTracked sents e.tracking.packets → Waits C R e.waiting.frames → SentSayIds C R (sents ++ sents_by p e call a)
call_says C R p e theirs (calls.Poll now) a sents is served owes say tracked w s f i j = elim (in_append s sents (sent_if (gave a) (sent_by p e now)) i) [
  | inl old ↦ say s f old j
  | inr new ↦ sent_fine (SaysIds C R) (λ c. tt) (λ c. tt) tt p e now owes (λ opened g k. polled_says C R e now sents say tracked w g k)
      s (subst (λ (b : Answer). In s (sent_if (gave b) (sent_by p e now))) (poll_answer p e now a is served) new) f j
]
call_says C R p e theirs call a sents is served owes say tracked w s f i j = say s f (subst (λ (ss : List Sent). In s ss) (append-nil sents) i) j

-- ---- both

-- any call that is no delivery
pub call_long : (p : Policy) (e : End) (theirs : List (List ℕ)) (call : Call) (a : Answer) (sents : List Sent) → is_delivery call ≡ false → TellLong sents → AreTracked sents e.tracking.packets → LongIds e → LongIds (after_call p e theirs call a)
call_long p e theirs call a sents apart say tracked i =
    let next = next_id_long e a i in
    record { waits = call_waits IsLong AnyNumber p e theirs call a sents apart say tracked (λ uses. next.waits) i.waits; peer = peer_call KnownLong p e theirs call a apart (λ uses. next.peer) i.peer }

-- all frames of a packet that say so
pub frames_long : (took : List Packet) (sents : List Sent) → Stands took sents → TellLong sents → (frames : List FrameValue) → AllSayIds IsLong AnyNumber frames → (e : End) → ((a : AckValue) → In (ack a) frames → NamesTaken took a)
    → AreTracked sents e.tracking.packets → LongIds e → LongIds (passed frames e).end
frames_long took sents stands say frames all e names tracked i = frames_settle took sents stands frames LongIds (record {
  settles = λ s x may j. record { waits = steps_wait IsLong AnyNumber took sents say s x may j.waits; peer = peer_settles KnownLong s x j.peer };
  names = λ a x among j. record { waits = j.waits; peer = j.peer };
  on_streams = λ f x among on j. record { waits = on_streams_wait IsLong AnyNumber f x on j.waits; peer = peer_frame KnownLong f x (λ g is. absurd (subst OnStreams is on)) j.peer };
  message = λ m x j. record { waits = j.waits; peer = j.peer };
  apart = λ f x among is j. apart_long f x is (all f among) j;
}) e names tracked i

-- in each case of a delivery
pub long_arrivals : (e : End) (now n : ℕ) (frames taken : List FrameValue) (i : Intake) → LongIds (arrived e now n taken).end → LongIds e → Arrivals e now n frames taken i (λ (o : Outcome) (j : Intake). LongIds o.end)
long_arrivals e now n frames taken i passed before = record {
  ignored = λ reason. before;
  noted = λ state reason. record { waits = before.waits; peer = before.peer };
  takes = λ words state new none urged mark. drawn_long words (after_taken n (asks_in (map Ok frames)) urged mark (arrived e now n taken).end) (record { waits = passed.waits; peer = passed.peer });
  moves = λ p o same remote x opened j. moving_keeps LongIds (λ m y k. record { waits = k.waits; peer = k.peer }) (λ y a k. next_id_long y a k) p o remote x j;
  drains = λ words state new close is. drawn_long words (drained_at n close (arrived e now n taken).end) (record { waits = passed.waits; peer = passed.peer });
  refuses = λ words state new f is. drawn_long words (closed_by (reason_of f) (arrived e now n taken).end) (record { waits = passed.waits; peer = passed.peer });
  exhausts = λ state. record { waits = before.waits; peer = before.peer };
}

-- ---- the start

-- those with which an end begins
pub first_long_ids : (side : Side) (settings : Settings) (windows : Windows) (theirs : ParameterValues) (own_id peer_id : List ℕ) (remote now : ℕ) (validated : Bool) (words : ℕ → ℕ) → length peer_id ≡ own_id_length
    → LongIds (new_end side settings windows theirs own_id peer_id remote now validated words)
first_long_ids side settings windows theirs own_id peer_id remote now validated words long = record {
  waits = record { tells = drawn_ids_long (words_behind 1 words) (later_numbers (most_ids theirs.active_connection_id_limit)); retires = λ n i. absurd i };
  peer = record { used = long; later = λ c i. absurd i };
}
