-- That a stream takes bytes again waits to be told: calls, frames and events keep that, and a write
-- that is blocked and a limit that grows where it was used up bring it (RFC 9000, sections 4.1 and
-- 19.10).
use Rattle.std.proofs.Common.{◌≡◌, ℕ, ◌<◌, ◌≤◌, ◌⊎◌, inl, inr, Bool, true, false, not, ◌==◌, ◌&&◌, ◌||◌, List, [], ◌∷◌, length, Option, Some, None, Ok, Err, refl, sym, ap, ◌∙◌, subst, arith}
use Rattle.std.specs.Prelude.{min, max, nat_lt, nat_le, if◌then◌else◌}
use Rattle.std.specs.List.{list_any}
use Rattle.std.specs.Option.{is_some, IsSome}
use Rattle.std.proofs.lemmas.Bool.{cond_both, cases_eq, cases_Bool, or_cases, or_left, or_right, and_from, both_ways, eqb-true, eq-eqb, lt-ltb, ltb-false, cases_lt}
use Rattle.std.proofs.lemmas.List.Folds.{list_any-append}
use Rattle.quic_wire_core.specs.declared.stream_id.Side.{Side}
use Rattle.quic_wire_core.specs.declared.stream_id.Dir.{Dir}
use Rattle.quic_wire.specs.Value.{FrameValue, StreamLimitValue, ack, stream, reset_stream, stop_sending, max_data, max_stream_data, max_streams, datagram, new_connection_id, retire_connection_id, path_response, handshake_done, ack_frequency}
use Rattle.quic_send_buffer.specs.Buffered.{IsBuffered, is_fully_acked}
use Rattle.quic_send_buffer.proofs.Buffered.Calls.{ack_lawful, loss_lawful}
use Rattle.quic_streams_parts.specs.declared.answers.Breach.{Breach}
use Rattle.quic_streams_parts.specs.declared.answers.StreamEvent.{StreamEvent}
use Rattle.quic_streams_parts.specs.declared.answers.StreamEvent.TheVariants as stream_events
use Rattle.quic_streams_parts.specs.declared.answers.WriteError.TheVariants as write_errors
use Rattle.quic_streams_parts.specs.Dirs.{Counts, of}
use Rattle.quic_streams_parts.specs.Events.{Events, with_event, first_of, others_of}
use Rattle.quic_streams_parts.specs.Table.{Table, at, put}
use Rattle.quic_streams_parts.specs.TableLaws.{at-put, at-put-apart}
use Rattle.quic_streams_parts.specs.SendHalf.{SendHalf, new_send_half, written_on, room_on, is_ready, written_to, taken_unless, half_acked, half_lost}
use Rattle.quic_streams_halves.specs.Halves.{half_of, has_place, status_from}
use Rattle.quic_streams_state.specs.declared.state.StreamsState.{StreamsState}
use Rattle.quic_streams_state.specs.State.{Streams, room, sending_half, first_limit, is_opened, sends_on, with_send}
use Rattle.quic_streams_state.specs.Limits.{most_streams}
use Rattle.quic_streams_state.specs.Opening.{opens, opened_if, opened_by, with_own_limit, after_max_streams, sending_refusal}
use Rattle.quic_streams_state.specs.Taking.{joined, writable_again, is_used_up, limited_half, limit_at, limit_unless, after_max_stream_data, stopped_half}
use Rattle.quic_streams_state.specs.Writing.{blocked_at}
use Rattle.quic_retransmits.specs.Retransmits.{Retransmits}
use Rattle.quic_streams_state.specs.Telling.{Telling, Passing, is_writable, unblocked_at, passed, after_passing, told_next, told_behind, told_writable, polled}
use Rattle.quic_streams_laws.specs.Each.{HalfIs, EachSends, AreOfHalves}
use Rattle.quic_streams_laws.specs.EachLaws.{each_kept, said_of, status_half, half_follows}
use Rattle.quic_streams_laws.specs.Keeping.{KeepsBy, SendsOn}
use Rattle.quic_streams_laws.specs.Keeping as changes
use Rattle.quic_streams_laws.specs.KeepingLaws.{by_option, by_opened, sends_within, live_sends, by_stream, by_reset_frame, by_stop_sending, by_max_data, by_max_stream_data, by_max_streams, by_stream_acked, by_stream_lost, by_reset_acked, stop_on, limit_on, lost_on, acked_on}
use Rattle.quic_streams_laws.specs.Queued.{has_in, AreBlocked, IsBlockedRight}
use Rattle.quic_streams_laws.specs.QueuedLaws.{WasHalf, was_live, was_fresh, was_half}
use Rattle.quic_streams_laws.specs.Written.{Wrote, IsOver, IsSendHalf, HoldsWritten, nothing_done, reset_size}
use Rattle.quic_streams_laws.specs.WrittenHalves.{nothing_lawful, all_written}
use Rattle.quic_machine.specs.declared.answers.Event.TheVariants as events
use Rattle.quic_machine.specs.declared.run.Call.TheVariants as calls
use Rattle.quic_machine.specs.declared.run.Answer.TheVariants as answers
use Rattle.quic_machine.specs.Calls.{tells_message, tells_done, tells_of, streams_told, end_tells, message_told, confirmation_told, others_told, end_after_event}
use Rattle.quic_machine.specs.Closing.{Closing}
use Rattle.quic_machine.specs.Tracking.{dir_named}
use Rattle.quic_machine.specs.End.{End}
use Rattle.quic_machine.specs.Receive.{is_above, names_ungiven, take_frame}
use Rattle.quic_machine.specs.FrameCases.{Settling, acked_keeps, named, ack_taken, passed as all_taken, frames_taken, message_leaves, apart_leaves}
use Rattle.quic_machine.specs.Steps as steps
use Rattle.quic_headline.specs.Events.{tells_writable}
use Rattle.quic_headline.proofs.Channel.Counted.{listed_frame}
use Rattle.quic_headline.proofs.Halves.Kept.{AnyRecv, blocked_any}
use Rattle.quic_headline.proofs.Amounts.Tally.{Tally, IsTallied, Tallies, half_tallied, tallies_kept}
use Rattle.quic_headline.proofs.Amounts.Frames.{and_frame, and_frames, frame_tallies, may_send}
use Rattle.quic_headline.proofs.Unread.Taken.{no_fault}

-- ---- what is to be told

-- whether it is that the stream takes bytes again
abbrev is_again : ℕ → StreamEvent → Bool
is_again id (stream_events.Writable s) = s == id
is_again id event = false

-- it is to be told so next, or once the connection has room
abbrev pub IsToTell : ℕ → Events → List ℕ → Type 0
IsToTell id ev blocked = (list_any (is_again id) ev.queue ≡ true) ⊎ (has_in blocked id ≡ true)

-- the same of streams
abbrev pub Tells : ℕ → StreamsState → Type 0
Tells id s = IsToTell id s.events s.sending.blocked

module _ (id : ℕ) where
  -- the same, as a fact of all that is told
  abbrev pub Has : Side → Counts → Counts → Events → List ℕ → Type 0
  Has side limits remote ev blocked = IsToTell id ev blocked

  pub has_more : (side : Side) (limits remote : Counts) (ev : Events) (blocked : List ℕ) (event : StreamEvent) → IsToTell id ev blocked → IsToTell id (with_event event ev) blocked
  has_more side limits remote ev blocked event (inl h) = inl (list_any-append (is_again id) ev.queue (event ∷ []) ∙ or_left (list_any (is_again id) ev.queue) (list_any (is_again id) (event ∷ [])) h)
  has_more side limits remote ev blocked event (inr h) = inr h

  pub has_joined : (side : Side) (limits remote : Counts) (ev : Events) (blocked : List ℕ) (q : ℕ) → IsToTell id ev blocked → IsToTell id ev (q ∷ blocked)
  has_joined side limits remote ev blocked q (inl h) = inl h
  has_joined side limits remote ev blocked q (inr h) = inr (or_right (id == q) (has_in blocked id) h)

  opened_has : (s : StreamsState) (q : ℕ) → Tells id s → Tells id (opened_by s q)
  opened_has s q h = go (opens s q)
    where
      go : (b : Bool) → Tells id (opened_if b q s)
      go true = h
      go false = h

  allowed_has : (dir : Dir) (count : ℕ) (s : StreamsState) → Tells id s → Tells id (after_max_streams dir count s)
  allowed_has dir count s h = cond_both (nat_le count most_streams && nat_lt (of dir s.opening.own_limit) count) (with_own_limit dir count s) s (Tells id) (λ e. has_more s.side s.opening.own_limit s.opening.remote s.events s.sending.blocked (stream_events.Available dir) h) (λ e. h)

  pub frame_has : (f : FrameValue) (e : End) → Tells id e.streams → Tells id (take_frame f e).end.streams
  frame_has f e h = listed_frame Has has_more has_joined f e (λ q names. opened_has e.streams q h) (λ g is. allowed_has (dir_named g.one_way) g.count e.streams h) h

-- ---- streams that are passed

-- one that is passed is as writable as it was
unblocked_writable : (live : Table SendHalf) (q id : ℕ) → is_writable (at (unblocked_at (at live q) live q) id) ≡ is_writable (at live id)
unblocked_writable live q id = go (at live q) refl
  where
    go : (o : Option SendHalf) → at live q ≡ o → is_writable (at (unblocked_at o live q) id) ≡ is_writable (at live id)
    go None is = refl
    go (Some h) is = elim (cases_eq id q) [
      | inl same ↦ subst (λ (x : ℕ). is_writable (at (put live q (record h { blocked = false })) x) ≡ is_writable (at live x)) (sym same) (ap is_writable (at-put live q h (record h { blocked = false }) is) ∙ sym (ap is_writable is))
      | inr ne ↦ ap is_writable (at-put-apart live q (record h { blocked = false }) id ne)
    ]

-- one of those that are blocked is found, stays among them, or takes no bytes
abbrev Passes : ℕ → Table SendHalf → Passing → Type 0
Passes id live p = (p.found ≡ Some id) ⊎ ((has_in p.blocked id ≡ true) ⊎ (is_writable (at live id) ≡ false))

-- the first of them is, or those behind it
passes_first : (id q : ℕ) (ids : List ℕ) (live : Table SendHalf) → ((id == q) || has_in ids id) ≡ true → Passes id live (record { found = Some q; blocked = ids; halves = unblocked_at (at live q) live q })
passes_first id q ids live is = elim (or_cases (id == q) (has_in ids id) is) [ inl here ↦ inl (ap Some (sym (eqb-true id q here))) | inr there ↦ inr (inl there) ]

passes_back : (id q : ℕ) (live : Table SendHalf) (p : Passing) → Passes id (unblocked_at (at live q) live q) p → Passes id live p
passes_back id q live p (inl f) = inl f
passes_back id q live p (inr (inl b)) = inr (inl b)
passes_back id q live p (inr (inr w)) = inr (inr (sym (unblocked_writable live q id) ∙ w))

passes_it : (id : ℕ) (ids : List ℕ) (live : Table SendHalf) → has_in ids id ≡ true → Passes id live (passed ids live)
passes_it id [] live is = cc
passes_it id (q ∷ ids) live is = later (λ there. passes_it id ids (unblocked_at (at live q) live q) there)
  where
    later : (has_in ids id ≡ true → Passes id (unblocked_at (at live q) live q) (passed ids (unblocked_at (at live q) live q))) → Passes id live (passed (q ∷ ids) live)
    later behind = cond_both (is_writable (at live q)) _ _ (Passes id live) (λ w. passes_first id q ids live is) (λ w. elim (or_cases (id == q) (has_in ids id) is) [
      | inl here ↦ inr (inr (ap (λ (x : ℕ). is_writable (at live x)) (eqb-true id q here) ∙ w))
      | inr there ↦ passes_back id q live (passed ids (unblocked_at (at live q) live q)) (behind there)
    ])

-- where none is found, none of them takes bytes
none_found : (id : ℕ) (ids : List ℕ) (live : Table SendHalf) → (passed ids live).found ≡ None → has_in ids id ≡ true → is_writable (at live id) ≡ false
none_found id [] live none is = cc
none_found id (q ∷ ids) live none is = later (λ e there. none_found id ids (unblocked_at (at live q) live q) e there)
  where
    later : ((passed ids (unblocked_at (at live q) live q)).found ≡ None → has_in ids id ≡ true → is_writable (at (unblocked_at (at live q) live q) id) ≡ false) → is_writable (at live id) ≡ false
    later behind = cond_both (is_writable (at live q)) _ _ (λ (p : Passing). p.found ≡ None → is_writable (at live id) ≡ false) (λ w e. cc) (λ w e. elim (or_cases (id == q) (has_in ids id) is) [
      | inl here ↦ ap (λ (x : ℕ). is_writable (at live x)) (eqb-true id q here) ∙ w
      | inr there ↦ sym (unblocked_writable live q id) ∙ behind e there
    ]) none

-- ---- an event

-- a stream is among those that are blocked, and takes no bytes
abbrev pub IsPassed : ℕ → StreamsState → Type 0
IsPassed id s = (has_in s.sending.blocked id ≡ true) × (is_writable (at s.sending.halves.live id) ≡ false)

module _ (id : ℕ) (s : StreamsState) (c : Closing) where
  -- it is told that the stream takes bytes again, or that stays to be told unless it takes none
  abbrev Stays : Telling → Type 0
  Stays t = (tells_writable id calls.Event (answers.Event (tells_of t.answer c)) ≡ true) ⊎ (Tells id s → Tells id t.state ⊎ IsPassed id s)

  -- where nothing is told while the connection has room, it takes none
  abbrev Leaves : Telling → Type 0
  Leaves t = answers.Event None ≡ answers.Event (tells_of t.answer c) → Tells id s → IsPassed id s

  by_id : (q : ℕ) (es : List StreamEvent) (b : Bool) → (q == id) ≡ b → ((q == id) ≡ true) ⊎ (((q == id) || list_any (is_again id) es) ≡ true → list_any (is_again id) es ≡ true)
  by_id q es true is = inl is
  by_id q es false is = inr (λ h. sym (ap (λ (b : Bool). b || list_any (is_again id) es) is) ∙ h)

  -- the first is told
  pop : (queue : List StreamEvent) → (tells_writable id calls.Event (answers.Event (tells_of (first_of queue) c)) ≡ true) ⊎ (list_any (is_again id) queue ≡ true → list_any (is_again id) (others_of queue) ≡ true)
  pop [] = inr (λ h. cc)
  pop (stream_events.Writable q ∷ es) = by_id q es (q == id) refl
  pop (event ∷ es) = inr (λ h. h)

  none_left : (queue : List StreamEvent) → answers.Event None ≡ answers.Event (tells_of (first_of queue) c) → list_any (is_again id) queue ≡ true → ⊥
  none_left [] is h = cc
  none_left (event ∷ es) is h = cc

  abbrev passing : Passing
  passing = passed s.sending.blocked s.sending.halves.live

  -- while the connection has no room
  full_stays : Stays (told_next s)
  full_stays = elim (pop s.events.queue) [ inl told ↦ inl told | inr on ↦ inr (λ (h : Tells id s). inl (elim h [ inl waits ↦ inl (on waits) | inr blocked ↦ inr blocked ])) ]

  -- those that are blocked are passed
  behind_stays : (o : Option ℕ) → passing.found ≡ o → Stays (told_behind o (after_passing s passing))
  behind_stays None none = elim (pop s.events.queue) [ inl told ↦ inl told | inr on ↦ inr (λ (h : Tells id s). elim h [ inl waits ↦ inl (inl (on waits)) | inr blocked ↦ inr (blocked, none_found id s.sending.blocked s.sending.halves.live none blocked) ]) ]
  behind_stays (Some q) found = go (q == id) refl
    where
      stays : (q == id) ≡ false → Tells id s → Tells id (after_passing s passing) ⊎ IsPassed id s
      stays other (inl waits) = inl (inl waits)
      stays other (inr blocked) = elim (passes_it id s.sending.blocked s.sending.halves.live blocked) [
        | inl it ↦ (let some : Some q ≡ Some id = sym found ∙ it in let same : q ≡ id = cc in absurd (both_ways (q == id) other (eq-eqb q id same)))
        | inr left ↦ elim left [ inl on ↦ inl (inr on) | inr takes ↦ inr (blocked, takes) ]
      ]

      go : (b : Bool) → (q == id) ≡ b → Stays (told_behind (Some q) (after_passing s passing))
      go true is = inl is
      go false is = inr (stays is)

  writable_stays : Stays (told_writable s)
  writable_stays = cond_both (room s.sending == 0) _ _ Stays (λ e. full_stays) (λ e. behind_stays passing.found refl)

  polled_stays : Stays (polled s)
  polled_stays = cond_both s.events.opened.bi _ _ Stays (λ e. inr (λ h. inl h)) (λ e. cond_both s.events.opened.uni _ _ Stays (λ f. inr (λ h. inl h)) (λ f. writable_stays))

  behind_leaves : (o : Option ℕ) → passing.found ≡ o → Leaves (told_behind o (after_passing s passing))
  behind_leaves None none is (inl waits) = absurd (none_left s.events.queue is waits)
  behind_leaves None none is (inr blocked) = (blocked, none_found id s.sending.blocked s.sending.halves.live none blocked)
  behind_leaves (Some q) found is h = cc

  polled_leaves : (room s.sending == 0) ≡ false → Leaves (polled s)
  polled_leaves has = cond_both s.events.opened.bi _ _ Leaves (λ e is h. cc) (λ e. cond_both s.events.opened.uni _ _ Leaves (λ f is h. cc) (λ f. cond_both (room s.sending == 0) _ _ Leaves (λ g. absurd (both_ways (room s.sending == 0) has g)) (λ g. behind_leaves passing.found refl)))

-- a call that asks what is told next is told that, or it stays to be told
pub event_stays : (id : ℕ) (e : End) → (tells_writable id calls.Event (answers.Event (end_tells e)) ≡ true) ⊎ (Tells id e.streams → Tells id (end_after_event e).streams ⊎ IsPassed id e.streams)
event_stays id e = go (tells_message e) (tells_done e)
  where
    go : (b c : Bool) → (tells_writable id calls.Event (answers.Event (if b then Some events.Message else (if c then Some events.HandshakeConfirmed else tells_of (streams_told e).answer e.closing))) ≡ true) ⊎ (Tells id e.streams → Tells id (if b then message_told e else (if c then confirmation_told e else others_told e)).streams ⊎ IsPassed id e.streams)
    go true c = inr (λ h. inl h)
    go false true = inr (λ h. inl h)
    go false false = polled_stays id e.streams e.closing

-- where it is told nothing, the stream takes no bytes
pub nothing_writable : (id : ℕ) (e : End) → answers.Event None ≡ answers.Event (end_tells e) → (room e.streams.sending == 0) ≡ false → Tells id e.streams → IsPassed id e.streams
nothing_writable id e is has h = go (tells_message e) (tells_done e) is
  where
    go : (b c : Bool) → answers.Event None ≡ answers.Event (if b then Some events.Message else (if c then Some events.HandshakeConfirmed else tells_of (streams_told e).answer e.closing)) → IsPassed id e.streams
    go true c is = cc
    go false true is = cc
    go false false is = polled_leaves id e.streams e.closing has is h

-- ---- a half joins those that are blocked

-- one that says so is among them
was_blocked : (s : StreamsState) (id : ℕ) (h : SendHalf) → sending_half s id ≡ Some h → AreBlocked s → h.blocked ≡ true → has_in s.sending.blocked id ≡ true
was_blocked s id h is i blocked = go (was_half s id h is)
  where
    go : WasHalf s id h → has_in s.sending.blocked id ≡ true
    go (was_live live) = sym (i.told id h live) ∙ blocked
    go (was_fresh none free same) = (let clash : false ≡ true = sym (ap (λ (x : SendHalf). x.blocked) same) ∙ blocked in cc)

joined_tells : (s : StreamsState) (id : ℕ) (h : SendHalf) → (h.blocked ≡ true → has_in s.sending.blocked id ≡ true) → Tells id (joined s id h)
joined_tells s id h was = cond_both h.blocked s _ (Tells id) (λ e. inr (was e)) (λ e. inr (or_left (id == id) (has_in s.sending.blocked id) (eq-eqb id id refl)))

-- it is told at once, or joins them
again_tells : (s : StreamsState) (id : ℕ) (h : SendHalf) → (h.blocked ≡ true → has_in s.sending.blocked id ≡ true) → Tells id (writable_again s id h)
again_tells s id h was = cond_both (room s.sending == 0) _ _ (Tells id) (λ e. joined_tells s id h was)
    (λ e. inl (list_any-append (is_again id) s.events.queue (stream_events.Writable id ∷ []) ∙ or_right (list_any (is_again id) s.events.queue) ((id == id) || false) (or_left (id == id) false (eq-eqb id id refl))))

-- a write that the connection doesn't block is blocked by the half's own limit
own_limit : (h : SendHalf) (room len : ℕ) (a b : Bool) (stopped : Option ℕ) (c : Bool) → a ≡ false → (room_on h == 0) ≡ c
    → (if a then Err write_errors.Blocked else (if b then (taken_unless stopped h room len) else Err write_errors.ClosedStream)) ≡ Err write_errors.Blocked → h.limit ≤ written_on h
own_limit h room len true b stopped c some zero is = cc
own_limit h room len false false stopped c some zero is = cc
own_limit h room len false true (Some code) c some zero is = cc
own_limit h room len false true None true some zero is = (let none : room_on h ≡ 0 = eqb-true (room_on h) 0 zero in omega arith)
own_limit h room len false true None false some zero is = (let taken : Ok (min len (min room (room_on h))) ≡ Err write_errors.Blocked = sym (ap (λ (b : Bool). if b then Err write_errors.Blocked else Ok (min len (min room (room_on h)))) zero) ∙ is in cc)

-- a write that is blocked joins it to those, or its limit is used up
pub blocked_tells : (s : StreamsState) (frames : Retransmits) (id len : ℕ) (o : Option SendHalf) → sending_half s id ≡ o → AreBlocked s → written_to o (room s.sending) len ≡ Err write_errors.Blocked
    → Tells id (blocked_at o s frames id).state ⊎ ((h : SendHalf) × (sending_half s id ≡ Some h) × (h.limit ≤ written_on h))
blocked_tells s frames id len None is i told = cc
blocked_tells s frames id len (Some h) is i told = cond_both {A = Streams} (room s.sending == 0) _ _ (λ (t : Streams). Tells id t.state ⊎ ((h : SendHalf) × (sending_half s id ≡ Some h) × (h.limit ≤ written_on h)))
    (λ e. inl (joined_tells s id h (was_blocked s id h is i)))
    (λ e. inr (h, is, own_limit h (room s.sending) len (room s.sending == 0) (is_ready h) h.stopped (room_on h == 0) e refl told))

-- ---- halves while frames come

-- so many bytes were written on a half, which was neither ended nor reset
pub record IsOn (w : ℕ) (h : SendHalf) : Type 0 where
  pub ready : is_ready h ≡ true
  pub written : written_on h ≡ w
  pub within : w ≤ h.limit

module _ (first : ℕ → ℕ) (id w : ℕ) where
  -- of one stream that is said, and of each half that it keeps what was written lawfully
  abbrev Half : ℕ → SendHalf → Type 0
  Half j h = IsBuffered h.buffer × (j ≡ id → IsOn w h)

  abbrev pub Stands : StreamsState → Type 0
  Stands s = EachSends (λ j limit. limit ≡ first j) (λ j. j ≡ id → w ≡ 0) Half (λ j. j ≡ id → ⊥) s

  -- it isn't done
  over_not : (f : Bool) (o : Option ℕ) (a : Bool) → not (f || is_some o) ≡ true → (is_some o ≡ true) ⊎ ((not (is_some o) && (f && a)) ≡ true) → ⊥
  over_not true o a ready e = cc
  over_not false (Some n) a ready e = cc
  over_not false None a ready (inl e) = cc
  over_not false None a ready (inr e) = cc

  of_halves : AreOfHalves (λ j limit. limit ≡ first j) (λ j. j ≡ id → w ≡ 0) Half (λ j. j ≡ id → ⊥)
  of_halves = record {
    fresh = λ j limit f n. (nothing_lawful, λ same. (let none = n same in record { ready = refl; written = sym none; within = omega arith }));
    over = λ j h i ended same. over_not h.finished h.reset (h.end_acked && is_fully_acked h.buffer) (i.1 same).ready ended;
    blocked = λ j h b i. (i.0, λ same. (let k = i.1 same in record { ready = k.ready; written = k.written; within = k.within }));
    noted = λ j h said i. (i.0, λ same. (let k = i.1 same in record { ready = k.ready; written = k.written; within = k.within }));
    placed = λ j h p i. (i.0, λ same. (let k = i.1 same in record { ready = k.ready; written = k.written; within = k.within }));
  }

  -- a half that there is
  pub stands_on : (s : StreamsState) (h : SendHalf) → sending_half s id ≡ Some h → Stands s → IsOn w h
  stands_on s h is i = (said_of (λ j limit. limit ≡ first j) (λ j. j ≡ id → w ≡ 0) Half (λ j. j ≡ id → ⊥) of_halves s id h is i).1 refl

  lawful_on : (s : StreamsState) (j : ℕ) (h : SendHalf) → sending_half s j ≡ Some h → Stands s → IsBuffered h.buffer
  lawful_on s j h is i = (said_of (λ j limit. limit ≡ first j) (λ j. j ≡ id → w ≡ 0) Half (λ j. j ≡ id → ⊥) of_halves s j h is i).0

  -- there is one, where the end may send on the stream
  pub stands_there : (s : StreamsState) → (sends_on s.side id && is_opened s id) ≡ true → Stands s → sending_half s id ≡ None → ⊥
  stands_there s may i none = go (at s.sending.halves.live id) (sends_on s.side id && is_opened s id) (has_place s.side s.sending.halves.places id) may none (i.each id)
    where
      go : (o : Option SendHalf) (m used : Bool) → m ≡ true → half_of (new_send_half (first_limit s id)) (status_from o m used) ≡ None → HalfIs (id ≡ id → w ≡ 0) (Half id) (id ≡ id → ⊥) o used → ⊥
      go (Some h) m used may none x = cc
      go None true true may none x = x refl
      go None true false may none x = cc
      go None false used may none x = cc

  -- with those that are blocked in order
  pub record Between (s : StreamsState) : Type 0 where
    pub stands : Stands s
    pub blocked : IsBlockedRight s

  abbrev GoesOn : StreamsState → ℕ → SendHalf → SendHalf → Type 0
  GoesOn s j old new = SendsOn old new × (Half j old → Half j new)

  stands_kept : KeepsBy AnyRecv (λ s j old new. Half j old → Half j new) (λ s j n old new. Half j old → Half j new) Stands
  stands_kept = each_kept (λ j limit. limit ≡ first j) (λ j. j ≡ id → w ≡ 0) Half (λ j. j ≡ id → ⊥) of_halves

  between_kept : KeepsBy AnyRecv GoesOn (λ s j n old new. ⊥) Between
  between_kept (changes.changes_sending j old new) s (is, on, same) i = record { stands = stands_kept (changes.changes_sending j old new) s (is, on.1, same) i.stands; blocked = blocked_any (changes.changes_sending j old new) s (is, on.0, same) i.blocked }
  between_kept (changes.queues j old new b) s (is, on, has) i = record { stands = stands_kept (changes.queues j old new b) s (is, on.1, has) i.stands; blocked = blocked_any (changes.queues j old new b) s (is, on.0, has) i.blocked }
  between_kept (changes.turns j old new) s (is, on, has) i = record { stands = stands_kept (changes.turns j old new) s (is, on.1, has) i.stands; blocked = blocked_any (changes.turns j old new) s (is, on.0, has) i.blocked }
  between_kept (changes.writes j n old new) s (is, never, has) i = absurd never
  between_kept c s may i = record { stands = stands_kept c s may i.stands; blocked = blocked_any c s may i.blocked }

  goes : (j : ℕ) (h new : SendHalf) → IsBuffered new.buffer → is_ready new ≡ is_ready h → written_on new ≡ written_on h → h.limit ≤ new.limit → Half j h → Half j new
  goes j h new lawful ready as_many limit i = (lawful, λ same. (let k = i.1 same in let within = k.within in record { ready = ready ∙ k.ready; written = as_many ∙ k.written; within = omega arith }))

  -- ---- what an ACK frame acknowledges, or lets count as lost

  between_settle : Settling (λ (e : End). Between e.streams)
  between_settle (steps.reset j) e i = by_reset_acked Between between_kept e.streams e.waiting.frames j i
  between_settle (steps.acked m) e i = by_stream_acked Between between_kept e.streams e.waiting.frames m
      (λ h is none. (let lawful = lawful_on e.streams m.id h (live_sends e.streams m.id h is) i.stands in let on = acked_on h m lawful.whole in (on, goes m.id h (half_acked h m) (ack_lawful h.buffer m.offsets.start m.offsets.end lawful) refl on.as_many (omega arith))))
      (λ h is none all. tt) i
  between_settle (steps.lost m) e i = by_stream_lost Between between_kept e.streams m
      (λ h is none. (lost_on h m, goes m.id h (half_lost h m) (loss_lawful h.buffer m.offsets.start m.offsets.end (lawful_on e.streams m.id h (live_sends e.streams m.id h is) i.stands)) refl refl (omega arith))) i
  between_settle s e i = i

  -- ---- a frame

  pub between_frame : (f : FrameValue) (e : End) → Between e.streams → Between (take_frame f e).end.streams
  between_frame (stream g) e i = by_stream Between between_kept e.streams e.waiting.frames g (λ h a u. tt) i
  between_frame (reset_stream g) e i = by_reset_frame Between between_kept e.streams e.waiting.frames g (λ h a u. tt) i
  between_frame (stop_sending g) e i = by_stop_sending Between between_kept e.streams g (λ h is. (stop_on h g.code, λ x. goes g.id h (stopped_half h g.code) x.0 refl refl (omega arith) x)) i
  between_frame (max_data limit) e i = by_max_data Between between_kept e.streams limit i
  between_frame (max_stream_data g) e i = by_max_stream_data Between between_kept e.streams g.id g.limit (λ h is above. (limit_on h g.limit above, λ x. goes g.id h (limited_half h g.limit) x.0 refl refl (omega arith) x)) i
  between_frame (max_streams g) e i = by_max_streams Between between_kept (dir_named g.one_way) g.count e.streams i
  between_frame (ack a) e i = acked (names_ungiven a e)
    where
      acked : (b : Bool) → Between (ack_taken b a e).end.streams
      acked true = i
      acked false = acked_keeps (λ (x : End). Between x.streams) between_settle (is_above e.numbers.largest_acked a.largest) a (named a e) i
  between_frame (datagram m) e i = message_leaves (λ (x : End). Between x.streams) m e i (λ left. i)
  between_frame (new_connection_id g) e i = apart_leaves (λ (x : End). Between x.streams) (new_connection_id g) e tt (λ c. i) (λ c most. i)
  between_frame (retire_connection_id n) e i = apart_leaves (λ (x : End). Between x.streams) (retire_connection_id n) e tt (λ c. i) (λ c most. i)
  between_frame (path_response token) e i = apart_leaves (λ (x : End). Between x.streams) (path_response token) e tt (λ c. i) (λ c most. i)
  between_frame handshake_done e i = apart_leaves (λ (x : End). Between x.streams) handshake_done e tt (λ c. i) (λ c most. i)
  between_frame (ack_frequency r) e i = apart_leaves (λ (x : End). Between x.streams) (ack_frequency r) e tt (λ c. i) (λ c most. i)
  between_frame f e i = i

  -- ---- the stream's limit grows

  module _ (t : Tally) (g : StreamLimitValue) (of_it : g.id ≡ id) where
    -- where it was used up
    raised_tells : (s : StreamsState) → Tallies t s → Between s → (sends_on s.side id && is_opened s id) ≡ true → t.limit id ≤ w → w < g.limit → Tells id (limit_at (sending_half s id) s id g.limit)
    raised_tells s j i may full above = by_option (sending_half s id) (λ (o : Option SendHalf). Tells id (limit_at o s id g.limit)) (λ none. absurd (stands_there s may i.stands none)) (λ h is. raises h is (stands_on s h is i.stands) (half_tallied t s id h is j.halves))
      where
        raises : (h : SendHalf) → sending_half s id ≡ Some h → IsOn w h → IsTallied t id h → Tells id (limit_at (Some h) s id g.limit)
        raises h is on known =
            let within = on.within in
            let limit = known.limit in
            let bytes = on.written in
            let grows : nat_lt h.limit g.limit ≡ true = lt-ltb h.limit g.limit (omega arith) in
            let used : is_used_up h ≡ true = and_from (is_ready h) (written_on h == h.limit) on.ready (eq-eqb (written_on h) h.limit (omega arith)) in
            let u : StreamsState = with_send s id (limited_half h g.limit) in
            let told : Tells id (writable_again u id (limited_half h g.limit)) = again_tells u id (limited_half h g.limit) (was_blocked s id h is i.blocked.blocked) in
            cond_both (nat_lt h.limit g.limit) _ _ (Tells id) (λ e. cond_both (is_used_up h) _ _ (Tells id) (λ f. told) (λ f. absurd (both_ways (is_used_up h) f used))) (λ e. absurd (both_ways (nat_lt h.limit g.limit) e grows))

    limit_tells : (s : StreamsState) → sending_refusal s id ≡ None → Tallies t s → Between s → t.limit id ≤ w → w < g.limit → Tells id (after_max_stream_data s id g.limit)
    limit_tells s none j i full above = subst (λ (o : Option Breach). Tells id (limit_unless o s id g.limit)) (sym none)
        (raised_tells (opened_by s id) (by_opened (Tallies t) (tallies_kept t) s id (sends_within (Tallies t) (tallies_kept t) s id none) j) (by_opened Between between_kept s id (sends_within Between between_kept s id none) i) (may_send t s id none) full above)

  -- it is to be told, or the limit is used up still
  abbrev pub Due : Tally → StreamsState → Type 0
  Due t s = Tells id s ⊎ (t.limit id ≤ w)

  due_frame : (t : Tally) (f : FrameValue) (e : End) → (take_frame f e).fault ≡ None → Tallies t e.streams → Between e.streams → t.limit id ≤ w → Due (and_frame f t) (take_frame f e).end.streams
  due_frame t (max_stream_data g) e none j i full = go (g.id == id) refl
    where
      go : (b : Bool) → (g.id == id) ≡ b → Tells id (take_frame (max_stream_data g) e).end.streams ⊎ (max (if b then g.limit else 0) (t.limit id) ≤ w)
      go false other = inr (omega arith)
      go true of_it = elim (cases_lt w g.limit) [
        | inl above ↦ (
            let same : g.id ≡ id = eqb-true g.id id of_it in
            inl (subst (λ (q : ℕ). Tells id (after_max_stream_data e.streams q g.limit)) (sym same) (limit_tells t g same e.streams (subst (λ (q : ℕ). sending_refusal e.streams q ≡ None) same (no_fault (sending_refusal e.streams g.id) none)) j i full above)))
        | inr below ↦ inr (omega arith)
      ]
  due_frame t f e none j i full = inr (omega arith)

  -- what is left to be taken of a packet
  record Goes (whole : Tally) (left : List FrameValue) (e : End) : Type 0 where
    so_far : Tally
    tallies : Tallies so_far e.streams
    between : Between e.streams
    due : Due so_far e.streams
    same : and_frames left so_far ≡ whole

  pub due_frames : (t : Tally) (fs : List FrameValue) (e : End) → (all_taken fs e).fault ≡ None → Tallies t e.streams → Between e.streams → Due t e.streams → Due (and_frames fs t) (all_taken fs e).end.streams
  due_frames t fs e none j i due =
      let all : Goes (and_frames fs t) [] (all_taken fs e).end = frames_taken (Goes (and_frames fs t)) (λ f left x fine g. record {
        so_far = and_frame f g.so_far;
        tallies = frame_tallies g.so_far f x fine g.tallies;
        between = between_frame f x g.between;
        due = elim g.due [ inl tells ↦ inl (frame_has id f x tells) | inr full ↦ due_frame g.so_far f x fine g.tallies g.between full ];
        same = g.same;
      }) fs e none (record { so_far = t; tallies = j; between = i; due = due; same = refl }) in
      subst (λ (u : Tally). Due u (all_taken fs e).end.streams) all.same all.due

-- ---- what was written

no_some : (o : Option ℕ) → o ≡ None → IsSome o → ⊥
no_some None is some = cc
no_some (Some x) is some = cc

module _ (done : ℕ → Wrote) (id : ℕ) (s : StreamsState) (holds : HoldsWritten done s) where
  -- each half holds what was written
  each_holds : (j : ℕ) → HalfIs (done j ≡ nothing_done) (IsSendHalf (done j)) (IsOver (done j)) (at s.sending.halves.live j) (has_place s.side s.sending.halves.places j)
  each_holds j = status_half (done j ≡ nothing_done) (IsSendHalf (done j)) (IsOver (done j)) (at s.sending.halves.live j) (sends_on s.side j && is_opened s j) (has_place s.side s.sending.halves.places j) (holds.shape.sending.allowed j) (holds.each j)

  -- so it stands, where the stream was neither ended nor reset
  pub stands_first : (done id).ended ≡ false → (done id).reset ≡ None → Stands (first_limit s) id (length (done id).bytes) s
  stands_first unended kept = record { shape = holds.shape; first = λ j. refl; each = λ j. half_follows (fresh j) (half j) (gone j) (at s.sending.halves.live j) (has_place s.side s.sending.halves.places j) (each_holds j) }
    where
      fresh : (j : ℕ) → done j ≡ nothing_done → j ≡ id → length (done id).bytes ≡ 0
      fresh j none same = ap (λ (w : Wrote). length w.bytes) (subst (λ (q : ℕ). done q ≡ nothing_done) same none)

      ready : (f : Bool) (o : Option ℕ) → f ≡ false → o ≡ None → not (f || is_some o) ≡ true
      ready true o fin none = cc
      ready false None fin none = refl
      ready false (Some x) fin none = cc

      on : (h : SendHalf) → IsSendHalf (done id) h → IsOn (length (done id).bytes) h
      on h i = record { ready = ready h.finished h.reset (i.finished ∙ unended) (i.reset ∙ unreset (done id).reset kept); written = all_written (done id) h i; within = i.within }
        where
          unreset : (o : Option ℕ) → o ≡ None → reset_size (record (done id) { reset = o }) ≡ None
          unreset None is = refl
          unreset (Some x) is = cc

      half : (j : ℕ) (h : SendHalf) → IsSendHalf (done j) h → IsBuffered h.buffer × (j ≡ id → IsOn (length (done id).bytes) h)
      half j h i = (i.lawful, λ same. on h (subst (λ (q : ℕ). IsSendHalf (done q) h) same i))

      gone : (j : ℕ) → IsOver (done j) → j ≡ id → ⊥
      gone j over same = elim (subst (λ (q : ℕ). IsOver (done q)) same over) [ inl ended ↦ both_ways (done id).ended unended ended | inr reset ↦ no_some (done id).reset kept reset ]

  -- one that is passed was ended or reset, or its limit is used up
  pub passed_over : (t : Tally) → Tallies t s → AreBlocked s → IsPassed id s → (t.limit id ≤ length (done id).bytes) ⊎ IsOver (done id)
  passed_over t j i (among, takes) = go (at s.sending.halves.live id) (has_place s.side s.sending.halves.places id) (i.used id among) refl takes (each_holds id)
    where
      over : (f : Bool) (o : Option ℕ) → not (f || is_some o) ≡ false → (f ≡ true) ⊎ IsSome o
      over true o is = inl refl
      over false (Some x) is = inr refl
      over false None is = cc

      of_reset : (o : Option ℕ) (n : Option ℕ) → n ≡ reset_size (record (done id) { reset = o }) → IsSome n → IsSome o
      of_reset None n is some = (let none : n ≡ None = is in absurd (no_some n none some))
      of_reset (Some x) n is some = refl

      half : (h : SendHalf) → at s.sending.halves.live id ≡ Some h → (is_ready h && nat_lt (written_on h) h.limit) ≡ false → IsSendHalf (done id) h → (t.limit id ≤ length (done id).bytes) ⊎ IsOver (done id)
      half h there takes holds_it = elim (cases_Bool (is_ready h)) [
        | inl ready ↦ (
            let known : IsTallied t id h = half_tallied t s id h (live_sends s id h there) j.halves in
            let limit = known.limit in
            let bytes = all_written (done id) h holds_it in
            let full : h.limit ≤ written_on h = ltb-false (written_on h) h.limit (sym (ap (λ (b : Bool). b && nat_lt (written_on h) h.limit) ready) ∙ takes) in
            inl (omega arith))
        | inr not_ready ↦ elim (over h.finished h.reset not_ready) [ inl fin ↦ inr (inl (sym holds_it.finished ∙ fin)) | inr some ↦ inr (inr (of_reset (done id).reset h.reset holds_it.reset some)) ]
      ]

      go : (o : Option SendHalf) (used : Bool) → used ≡ true → at s.sending.halves.live id ≡ o → is_writable o ≡ false → HalfIs (done id ≡ nothing_done) (IsSendHalf (done id)) (IsOver (done id)) o used → (t.limit id ≤ length (done id).bytes) ⊎ IsOver (done id)
      go (Some h) used u there takes x = half h there takes x
      go None true u there takes x = inr x
      go None false u there takes x = cc
