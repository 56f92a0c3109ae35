-- What the datagrams that an end gave say of limits that are used up: no more than what was said
-- last, and nothing of a stream on which it never sent (RFC 9000, sections 19.12 and 19.13).
use Rattle.std.proofs.Common.{◌≡◌, ℕ, zero, suc, ◌<◌, Bool, true, false, List, [], ◌∷◌, ◌++◌, map, replicate, append-nil, Option, Some, None, refl, sym, ap, ◌∙◌, subst, ◌⊎◌, inl, inr, arith}
use Rattle.std.specs.Prelude.{◌==◌, ◌&&◌, not, if◌then◌else◌}
use Rattle.std.specs.Option.{is_some, option_map}
use Rattle.std.specs.List.{list_any}
use Rattle.std.specs.Ordering.{nat_cmp}
use Rattle.std.specs.BTreeMap.{is_at}
use Rattle.std.proofs.lemmas.Bool.{or_cases, or_left, and_from, and_parts, both_ways, eqb-true, cases_eq, eq-eqb}
use Rattle.quic_wire_core.specs.StreamId.{dir_of}
use Rattle.quic_wire_core.specs.declared.stream_id.Dir.{Dir}
use Rattle.quic_wire_core.specs.declared.stream_id.Dir.TheVariants.{Bi, Uni}
use Rattle.quic_wire.specs.Value.{FrameValue, StreamLimitValue, stream, max_data, max_stream_data, max_streams, data_blocked, stream_data_blocked, datagram, padding, ping, ack, connection_close, application_close, immediate_ack, ack_frequency}
use Rattle.quic_config.specs.Transport.{Settings, parameters_of}
use Rattle.quic_parameters.specs.Parameters.{ParameterValues}
use Rattle.quic_streams_parts.specs.Dirs.{of, is_own}
use Rattle.quic_streams_parts.specs.Table.{at, put}
use Rattle.quic_streams_parts.specs.TableLaws.{nat_cmp-same, at-put, at-put-apart}
use Rattle.quic_streams_parts.specs.SendHalf.{SendHalf, is_ready, written_on}
use Rattle.quic_streams_halves.specs.Halves.{Halves, has_place, no_places, changed_at}
use Rattle.quic_retransmits.specs.Retransmits.{Retransmits, has_id}
use Rattle.quic_retransmits.specs.declared.retransmits.ControlKind.{ControlKind}
use Rattle.quic_retransmits.specs.declared.retransmits.ControlKind.TheVariants.{StreamDataBlocked}
use Rattle.quic_streams_state.specs.declared.state.StreamsState.{StreamsState}
use Rattle.quic_streams_state.specs.State.{Streams, sending_half, first_limit, is_opened, sends_on, new_streams}
use Rattle.quic_streams_state.specs.Reading.{received_reset_answer}
use Rattle.quic_streams_state.specs.Control.{blocked_limit, stream_data_blocked_limit, stream_blocked_entry, waiting, frame_of_first, frame_told, Goes}
use Rattle.quic_streams_laws.specs.Each.{HalfIs, EachSends, AreOfHalves}
use Rattle.quic_streams_laws.specs.EachLaws.{each_kept}
use Rattle.quic_streams_laws.specs.Keeping.{KeepsBy}
use Rattle.quic_streams_laws.specs.KeepingLaws.{keeps_fewer, by_accept, by_stream, by_reset_frame, by_frame}
use Rattle.quic_streams_laws.specs.KindLaws.{GoesFirst}
use Rattle.quic_streams_laws.specs.QuietLaws.{is_quiet, by_told}
use Rattle.quic_streams_laws.specs.QueuedLaws.{WasHalf, was_live, was_fresh, was_half}
use Rattle.quic_streams_laws.specs.Shape.{IsShaped}
use Rattle.quic_streams_laws.specs.ShapeLaws.{halves_put, halves_wider}
use Rattle.quic_streams_laws.specs.StartLaws.{shape_new, shape_set_params}
use Rattle.quic_machine.specs.declared.answers.State.TheVariants as states
use Rattle.quic_machine.specs.declared.run.Call.{Call}
use Rattle.quic_machine.specs.declared.run.Call.TheVariants as calls
use Rattle.quic_machine.specs.declared.run.Delivery.{Delivery}
use Rattle.quic_machine.specs.declared.run.Answer.{Answer}
use Rattle.quic_machine.specs.declared.run.Answer.TheVariants as answers
use Rattle.quic_machine.specs.Policy.{Policy}
use Rattle.quic_machine.specs.Calls.{is_open}
use Rattle.quic_machine.specs.StreamCalls.{IsStreamAnswer, is_on_streams, after_on_streams}
use Rattle.quic_machine.specs.End.{End, streams_at}
use Rattle.quic_machine.specs.Receive.{take_frame}
use Rattle.quic_machine.specs.FrameCases.{begun, passed, frames_keep}
use Rattle.quic_machine.specs.Poll.{Draft, Leaving, Polled, polled, draft_as, zeros_behind, ack_of, request_of}
use Rattle.quic_machine.specs.PollCases.{ready_at, draft_at, frames_padded, may_leave_at}
use Rattle.quic_machine.specs.DraftLaws.{Writing, by_leave, MayLeave}
use Rattle.quic_machine.specs.Validation.{challenge_frame, response_frame}
use Rattle.quic_machine.specs.Puts as puts
use Rattle.quic_machine.specs.CallCases.{is_delivery, is_poll, is_timeout}
use Rattle.quic_machine.specs.Machine.{gave}
use Rattle.quic_headline.specs.Runs.{In, Intake}
use Rattle.quic_headline.specs.Observer.{Sent, is_past}
use Rattle.quic_headline.specs.Amounts.{first_told}
use Rattle.quic_headline.specs.Duties.{WasGiven}
use Rattle.quic_headline.specs.Begins.{Control, BlockedOn, Thing, Frame, Bears, IsPending, finds_blocked, has_said_on, says}
use Rattle.quic_headline.proofs.Packets.Group.{meets}
use Rattle.quic_headline.proofs.Packets.Probes.{by_going, ready_state}
use Rattle.quic_headline.proofs.Packets.Sends.{by_sends}
use Rattle.quic_headline.proofs.Places.Told.{in_append}
use Rattle.quic_headline.proofs.Waited.Alive.{past_is}
use Rattle.quic_headline.proofs.Places.Parties.{Party, called, watch_of, sent_as, sent_by, sent_if, sents_by, Beginning, begun_as}
use Rattle.quic_headline.proofs.Places.Groups.{Way, Group, less_calls}
use Rattle.quic_headline.proofs.Places.Coming.{by_coming}
use Rattle.quic_headline.proofs.Places.Steps.{poll_answer}
use Rattle.quic_headline.proofs.Halves.Ghosts.{wrote}
use Rattle.quic_headline.proofs.Halves.QuietSteps.{frame_quiet, sent_within}
use Rattle.quic_headline.proofs.Halves.ReadCalls.{IsKept, any_kept, call_kept}
use Rattle.quic_headline.proofs.Halves.WordsCalls.{IsCallOn, call_on_is}
use Rattle.quic_headline.proofs.Timers.Quiet.{Unnamed}
use Rattle.quic_headline.proofs.Begins.Behind.{Known, packets, holds, sight, Stepped, seen_of, Caused, was, pends_start, left_is, delivery_begins, timeout_begins, poll_begins}
use Rattle.quic_headline.proofs.Begins.Called.{call_one}
use Rattle.quic_headline.proofs.Begins.Controls.{fewer_wait}
use Rattle.quic_headline.proofs.Begins.SaidWalk.{most_within, blocked_frame, HalfSays, SaysOf, Says, Of, frame_says, call_left, taken_left}
use Rattle.quic_headline.proofs.Begins.Steps.{ready_pends, quiet_left}
use Rattle.quic_headline.proofs.Begins.Walk.{Pends, pend_more}
use Rattle.quic_headline.proofs.Packets.Delivered.{frames_at}
use Rattle.quic_headline.proofs.Packets.Moved.{by_migrated}

-- ---- where less was given

-- what says so of these says so of fewer
half_less : (given fewer : FrameValue → Type 0) → ((id n : ℕ) → fewer (blocked_frame id n) → given (blocked_frame id n)) → (id : ℕ) (o : Option SendHalf) (used : Bool) → SaysOf given id o used → SaysOf fewer id o used
half_less given fewer less id (Some h) used x = ((λ n was. x.0 n (less id n was)), x.1)
half_less given fewer less id None true x = tt
half_less given fewer less id None false x = λ n was. x n (less id n was)

says_less : (given fewer : FrameValue → Type 0) → ((n : ℕ) → fewer (data_blocked n) → given (data_blocked n)) → ((id n : ℕ) → fewer (blocked_frame id n) → given (blocked_frame id n)) → (s : StreamsState) → Of given s → Of fewer s
says_less given fewer all each s i = record {
  lie = i.lie;
  each = λ id. half_less given fewer each id (at s.sending.halves.live id) (has_place s.side s.sending.halves.places id) (i.each id);
  told = λ n was. i.told n (all n was);
  within = i.within;
}

-- ---- a frame goes that says that a limit is used up

-- these frames are those, or this one
abbrev OrThis : (FrameValue → Type 0) → (FrameValue → Type 0) → FrameValue → Type 0
OrThis more given f = (g : FrameValue) → more g → given g ⊎ (g ≡ f)

module _ (given more : FrameValue → Type 0) (p : Retransmits) (s : StreamsState) (i : Of given s) where
  -- on a stream: its half is in use
  on_stream : (f : StreamLimitValue) (h : SendHalf) → OrThis more given (stream_data_blocked f) → at s.sending.halves.live f.id ≡ Some h → h.limit ≡ f.limit → Of more (frame_told (stream_data_blocked f) s)
  on_stream f h less there limit = subst (λ (o : Option SendHalf). Says more s.side (record s.sending.halves { live = changed_at o told s.sending.halves.live f.id }) s.sending.said s.sending.limit) (sym there) now
    where
      told : SendHalf → SendHalf
      told g = record g { said = Some f.limit }

      data_less : (n : ℕ) → more (data_blocked n) → given (data_blocked n)
      data_less n was = elim (less (data_blocked n) was) [ inl old ↦ old | inr same ↦ cc ]

      -- other streams
      other : (j : ℕ) → (j ≡ f.id → ⊥) → (n : ℕ) → more (blocked_frame j n) → given (blocked_frame j n)
      other j ne n was = elim (less (blocked_frame j n) was) [ inl old ↦ old | inr same ↦ absurd (ne (let alike : j ≡ f.id = of_id same in alike)) ]
        where
          of_id : blocked_frame j n ≡ stream_data_blocked f → j ≡ f.id
          of_id same = (let values : ◌≡◌ {A = StreamLimitValue} (record { id = j; limit = n }) f = cc in ap (λ (v : StreamLimitValue). v.id) values)

      here : HalfSays given f.id h
      here = subst (λ (o : Option SendHalf). SaysOf given f.id o (has_place s.side s.sending.halves.places f.id)) there (i.each f.id)

      -- this one
      half : HalfSays more f.id (told h)
      half = (
        (λ n was. elim (less (blocked_frame f.id n) was) [
          | inl old ↦ (let low = most_within n h.said h.limit (here.0 n old) here.1 in omega arith)
          | inr same ↦ (let alike : n ≡ f.limit = of_limit n same in omega arith)
        ]),
        omega arith,
      )
        where
          of_limit : (n : ℕ) → blocked_frame f.id n ≡ stream_data_blocked f → n ≡ f.limit
          of_limit n same = (let values : ◌≡◌ {A = StreamLimitValue} (record { id = f.id; limit = n }) f = cc in ap (λ (v : StreamLimitValue). v.limit) values)

      live : Halves SendHalf
      live = record s.sending.halves { live = put s.sending.halves.live f.id (told h) }

      each : (j : ℕ) → SaysOf more j (at live.live j) (has_place s.side s.sending.halves.places j)
      each j = elim (cases_eq j f.id) [
        | inl same ↦
            let now : SaysOf more f.id (at live.live f.id) (has_place s.side s.sending.halves.places f.id) = subst (λ (o : Option SendHalf). SaysOf more f.id o (has_place s.side s.sending.halves.places f.id)) (sym (at-put s.sending.halves.live f.id h (told h) there)) half in
            subst (λ (x : ℕ). SaysOf more x (at live.live x) (has_place s.side s.sending.halves.places x)) (sym same) now
        | inr ne ↦
            let before : SaysOf more j (at s.sending.halves.live j) (has_place s.side s.sending.halves.places j) = alone j ne (at s.sending.halves.live j) (has_place s.side s.sending.halves.places j) (i.each j) in
            subst (λ (o : Option SendHalf). SaysOf more j o (has_place s.side s.sending.halves.places j)) (sym (at-put-apart s.sending.halves.live f.id (told h) j ne)) before
      ]
        where
          alone : (j : ℕ) → (j ≡ f.id → ⊥) → (o : Option SendHalf) (used : Bool) → SaysOf given j o used → SaysOf more j o used
          alone j ne (Some g) used x = ((λ n was. x.0 n (other j ne n was)), x.1)
          alone j ne None true x = tt
          alone j ne None false x = λ n was. x n (other j ne n was)

      now : Says more s.side live s.sending.said s.sending.limit
      now = record { lie = halves_put s.side (λ j. true) s.sending.halves f.id h (told h) there i.lie; each = each; told = λ n was. i.told n (data_less n was); within = i.within }

  -- on all streams
  on_all : (limit : ℕ) → OrThis more given (data_blocked limit) → limit ≡ s.sending.limit → Of more (frame_told (data_blocked limit) s)
  on_all limit less is = record {
    lie = i.lie;
    each = λ id. half_less given more (λ j n was. elim (less (blocked_frame j n) was) [ inl old ↦ old | inr same ↦ cc ]) id (at s.sending.halves.live id) (has_place s.side s.sending.halves.places id) (i.each id);
    told = λ n was. elim (less (data_blocked n) was) [
      | inl old ↦ (let low = most_within n s.sending.said s.sending.limit (i.told n old) i.within in omega arith)
      | inr same ↦ (let alike : n ≡ limit = cc in omega arith)
    ];
    within = omega arith;
  }

  -- another frame
  apart_less : (f : FrameValue) → OrThis more given f → ((n : ℕ) → data_blocked n ≡ f → ⊥) → ((id n : ℕ) → blocked_frame id n ≡ f → ⊥) → (t : StreamsState) → Of given t → Of more t
  apart_less f less all each t j = says_less given more (λ n was. elim (less (data_blocked n) was) [ inl old ↦ old | inr same ↦ absurd (all n same) ]) (λ id n was. elim (less (blocked_frame id n) was) [ inl old ↦ old | inr same ↦ absurd (each id n same) ]) t j

  -- whichever goes
  told_says : (f : FrameValue) → OrThis more given f → Goes p s f → ((g : StreamLimitValue) → f ≡ stream_data_blocked g → (h : SendHalf) × (at s.sending.halves.live g.id ≡ Some h) × (h.limit ≡ g.limit)) → Of more (frame_told f s)
  told_says (stream_data_blocked g) less goes live = (let half = live g refl in on_stream g half.0 less half.1 half.2)
  told_says (data_blocked limit) less goes live = on_all limit less goes
  told_says (max_data limit) less goes live = (let j = apart_less (max_data limit) less (λ n same. cc) (λ id n same. cc) s i in record { lie = j.lie; each = j.each; told = j.told; within = j.within })
  told_says (max_stream_data g) less goes live = (let j = apart_less (max_stream_data g) less (λ n same. cc) (λ id n same. cc) s i in record { lie = j.lie; each = j.each; told = j.told; within = j.within })
  told_says (max_streams g) less goes live = (let j = apart_less (max_streams g) less (λ n same. cc) (λ id n same. cc) s i in record { lie = j.lie; each = j.each; told = j.told; within = j.within })
  told_says f less goes live = apart_less f less (λ n same. cc) (λ id n same. cc) s i

-- ---- halves that were in use

-- the sending half of a stream is in use, or is done
abbrev pub IsUsed : StreamsState → ℕ → Type 0
IsUsed s id = HalfIs ⊥ (λ (h : SendHalf). Unit {0}) (Unit {0}) (at s.sending.halves.live id) (has_place s.side s.sending.halves.places id)

module _ (ids : ℕ → Type 0) where
  -- so are those of these streams
  abbrev AreUsed : StreamsState → Type 0
  AreUsed s = EachSends (λ j limit. Unit {0}) (λ j. ids j → ⊥) (λ j h. Unit {0}) (λ j. Unit {0}) s

  used_of_halves : AreOfHalves (λ j limit. Unit {0}) (λ j. ids j → ⊥) (λ j h. Unit {0}) (λ j. Unit {0})
  used_of_halves = record { fresh = λ j limit f none. tt; over = λ j h i over. tt; blocked = λ j h b i. tt; noted = λ j h said i. tt; placed = λ j h p i. tt }

  used_kept : KeepsBy (λ r j old new. Unit {0}) (λ s j old new. Unit {0}) (λ s j n old new. Unit {0}) AreUsed
  used_kept = keeps_fewer (λ r j old new x. x) (λ s j old new x i. tt) (λ s j n old new x i. tt) (each_kept (λ j limit. Unit {0}) (λ j. ids j → ⊥) (λ j h. Unit {0}) (λ j. Unit {0}) used_of_halves)

  used_calls : IsKept AreUsed
  used_calls = any_kept AreUsed used_kept

  used_frame : (f : FrameValue) (e : End) → AreUsed e.streams → AreUsed (take_frame f e).end.streams
  used_frame f e i = frame_quiet AreUsed (is_quiet AreUsed used_kept) f e
      (λ g is. by_stream AreUsed used_kept e.streams e.waiting.frames g (λ h a u. tt) i)
      (λ g is. by_reset_frame AreUsed used_kept e.streams e.waiting.frames g (λ h a u. tt) i)
      i

  used_start : (s : StreamsState) → IsShaped s → ((id : ℕ) → ids id → IsUsed s id) → AreUsed s
  used_start s shape used = record { shape = shape; first = λ j. tt; each = λ j. go j (at s.sending.halves.live j) (has_place s.side s.sending.halves.places j) (used j) }
    where
      go : (j : ℕ) (o : Option SendHalf) (b : Bool) → (ids j → HalfIs ⊥ (λ (h : SendHalf). Unit {0}) (Unit {0}) o b) → HalfIs (ids j → ⊥) (λ (h : SendHalf). Unit {0}) (Unit {0}) o b
      go j (Some h) b f = tt
      go j None true f = tt
      go j None false f = f

  used_at : (s : StreamsState) (id : ℕ) → AreUsed s → ids id → IsUsed s id
  used_at s id i is = go (at s.sending.halves.live id) (has_place s.side s.sending.halves.places id) (i.each id)
    where
      go : (o : Option SendHalf) (b : Bool) → HalfIs (ids id → ⊥) (λ (h : SendHalf). Unit {0}) (Unit {0}) o b → HalfIs ⊥ (λ (h : SendHalf). Unit {0}) (Unit {0}) o b
      go (Some h) b f = tt
      go None true f = tt
      go None false f = f is

-- a half that is known, of a stream on which there was one, is in use
live_half : (s : StreamsState) (id : ℕ) (h : SendHalf) → sending_half s id ≡ Some h → IsUsed s id → at s.sending.halves.live id ≡ Some h
live_half s id h is used = go (was_half s id h is)
  where
    go : WasHalf s id h → at s.sending.halves.live id ≡ Some h
    go (was_live live) = live
    go (was_fresh none free same) =
        let unused : HalfIs ⊥ (λ (g : SendHalf). Unit {0}) (Unit {0}) None (has_place s.side s.sending.halves.places id) = subst (λ (o : Option SendHalf). HalfIs ⊥ (λ (g : SendHalf). Unit {0}) (Unit {0}) o (has_place s.side s.sending.halves.places id)) none used in
        absurd (subst (λ (b : Bool). HalfIs ⊥ (λ (g : SendHalf). Unit {0}) (Unit {0}) None b) free unused)

-- what STREAM_DATA_BLOCKED says is the limit of a half that is known
limit_said : (s : StreamsState) (id n : ℕ) → stream_data_blocked_limit s id ≡ Some n → (h : SendHalf) × (sending_half s id ≡ Some h) × (h.limit ≡ n)
limit_said s id n is = go (sending_half s id) refl is
  where
    due : (h : SendHalf) (b : Bool) → (if b then Some h.limit else None) ≡ Some n → h.limit ≡ n
    due h true is = cc
    due h false is = cc

    go : (o : Option SendHalf) → sending_half s id ≡ o → blocked_limit o ≡ Some n → (h : SendHalf) × (sending_half s id ≡ Some h) × (h.limit ≡ n)
    go None there is = cc
    go (Some h) there is = (h, there, due h (is_ready h && not (is_some h.stopped) && (written_on h == h.limit)) is)

-- ---- a frame of control that goes waited

first_listed : (s : StreamsState) (f : StreamLimitValue) (ids : List ℕ) → frame_of_first (map stream_blocked_entry ids) s ≡ Some (stream_data_blocked f) → has_id f.id ids ≡ true
first_listed s f [] is = cc
first_listed s f (x ∷ xs) is = or_left (is_at (nat_cmp f.id) x) (has_id f.id xs) (subst (λ (n : ℕ). is_at (nat_cmp f.id) n ≡ true) (sym (of_id (stream_data_blocked_limit s x) is)) at_itself)
  where
    at_itself : is_at (nat_cmp f.id) f.id ≡ true
    at_itself = rw (nat_cmp-same f.id) refl

    of_id : (o : Option ℕ) → option_map (λ limit. stream_data_blocked (record { id = x; limit = limit })) o ≡ Some (stream_data_blocked f) → x ≡ f.id
    of_id None is = cc
    of_id (Some n) is = (let values : ◌≡◌ {A = StreamLimitValue} (record { id = x; limit = n }) f = cc in ap (λ (v : StreamLimitValue). v.id) values)

first_waits : (kind : ControlKind) (p : Retransmits) (s : StreamsState) (f : StreamLimitValue) → GoesFirst kind p s (stream_data_blocked f) → has_id f.id p.stream_data_blocked ≡ true
first_waits kind p s f is =
    let same : kind ≡ StreamDataBlocked = (let kinds = is.of_kind in cc) in
    first_listed s f p.stream_data_blocked (subst (λ (k : ControlKind). frame_of_first (waiting k p) s ≡ Some (stream_data_blocked f)) same is.first)

-- ---- what an end gives

module _ (own : List Sent) (ids : ℕ → Type 0) where
  -- a frame was given, or is one of these
  abbrev Along : List FrameValue → FrameValue → Type 0
  Along fs f = WasGiven own f ⊎ In f fs

  record Drafts (d : Draft) : Type 0 where
    says : Of (Along d.frames) d.end.streams
    used : AreUsed ids d.end.streams
    waits : (id : ℕ) → has_id id d.end.waiting.frames.stream_data_blocked ≡ true → ids id

  along_last : (fs : List FrameValue) (f : FrameValue) → OrThis (Along (fs ++ f ∷ [])) (Along fs) f
  along_last fs f g (inl was) = inl (inl was)
  along_last fs f g (inr among) = elim (in_append g fs (f ∷ []) among) [
    | inl old ↦ inl (inr old)
    | inr last ↦ elim last [ inl same ↦ inr same | inr none ↦ absurd none ]
  ]

  -- a frame that says nothing of limits
  one_more : (d : Draft) (f : FrameValue) (x : End) → ((n : ℕ) → data_blocked n ≡ f → ⊥) → ((id n : ℕ) → blocked_frame id n ≡ f → ⊥) → Of (Along d.frames) x.streams → Of (Along (d.frames ++ f ∷ [])) x.streams
  one_more d f x all each i = apart_less (Along d.frames) (Along (d.frames ++ f ∷ [])) x.waiting.frames x.streams i f (along_last d.frames f) all each x.streams i

  -- a half of whose limit a frame goes is in use
  used_half : (d : Draft) (kind : ControlKind) (f : FrameValue) → GoesFirst kind d.end.waiting.frames d.end.streams f → Drafts d → (g : StreamLimitValue) → f ≡ stream_data_blocked g
      → (h : SendHalf) × (at d.end.streams.sending.halves.live g.id ≡ Some h) × (h.limit ≡ g.limit)
  used_half d kind f is j g same =
      let s : StreamsState = d.end.streams in
      let goes : GoesFirst kind d.end.waiting.frames s (stream_data_blocked g) = subst (λ (x : FrameValue). GoesFirst kind d.end.waiting.frames s x) same is in
      let known = limit_said s g.id g.limit goes.says in
      (known.0, live_half s g.id known.0 known.1 (used_at ids s g.id j.used (j.waits g.id (first_waits kind d.end.waiting.frames s g goes))), known.2)

  draft_says : (leaving : Leaving) (e : End) → MayLeave leaving e → Of (WasGiven own) e.streams → AreUsed ids e.streams → ((id : ℕ) → has_id id e.waiting.frames.stream_data_blocked ≡ true → ids id) → Drafts (draft_as leaving e)
  draft_says leaving e may says used waits = by_leave Drafts keep leaving e may (record { says = says_less (WasGiven own) (Along []) none_among none_of e.streams says; used = used; waits = waits })
    where
      none_among : (n : ℕ) → Along [] (data_blocked n) → WasGiven own (data_blocked n)
      none_among n (inl was) = was
      none_among n (inr none) = absurd none

      none_of : (id n : ℕ) → Along [] (blocked_frame id n) → WasGiven own (blocked_frame id n)
      none_of id n (inl was) = was
      none_of id n (inr none) = absurd none

      keep : Writing Drafts
      keep (puts.drops kind) d may j = record { says = j.says; used = j.used; waits = λ id is. j.waits id (fewer_wait (BlockedOn id) kind d.end.waiting.frames is) }
      keep (puts.control kind f) d is j = record {
        says = told_says (Along d.frames) (Along (d.frames ++ f ∷ [])) d.end.waiting.frames d.end.streams j.says f (along_last d.frames f) is.says (used_half d kind f is j);
        used = by_told (AreUsed ids) (used_kept ids) f d.end.streams j.used;
        waits = λ id still. j.waits id (fewer_wait (BlockedOn id) kind d.end.waiting.frames still);
      }
      keep (puts.stream id h room) d (found, first, some, is, counts) j = record {
        says = one_more d (stream _) (puts.after (puts.stream id h room) d).end (λ n same. cc) (λ q n same. cc) (frame_says (Along d.frames) d.end.transport.send_fairness d.end.streams id h room found j.says);
        used = by_frame (AreUsed ids) (used_kept ids) d.end.transport.send_fairness d.end.streams id room h found tt j.used;
        waits = j.waits;
      }
      keep (puts.message m ms) d may j = record { says = one_more d (datagram m) d.end (λ n same. cc) (λ q n same. cc) j.says; used = j.used; waits = j.waits }
      keep puts.ping d may j = record { says = one_more d ping d.end (λ n same. cc) (λ q n same. cc) j.says; used = j.used; waits = j.waits }
      keep puts.immediate d may j = record { says = one_more d immediate_ack d.end (λ n same. cc) (λ q n same. cc) j.says; used = j.used; waits = j.waits }
      keep puts.request d may j = record { says = one_more d (ack_frequency (request_of d.end)) d.end (λ n same. cc) (λ q n same. cc) j.says; used = j.used; waits = j.waits }
      keep (puts.connection_close c) d may j = record { says = one_more d (connection_close c) d.end (λ n same. cc) (λ q n same. cc) j.says; used = j.used; waits = j.waits }
      keep (puts.application_close c) d may j = record { says = one_more d (application_close c) d.end (λ n same. cc) (λ q n same. cc) j.says; used = j.used; waits = j.waits }
      keep (puts.probes size) d may j = record { says = one_more d ping d.end (λ n same. cc) (λ q n same. cc) j.says; used = j.used; waits = j.waits }
      keep (puts.challenge word) d may j = record { says = one_more d (challenge_frame word) d.end (λ n same. cc) (λ q n same. cc) j.says; used = j.used; waits = j.waits }
      keep (puts.response r) d may j = record { says = one_more d (response_frame r) d.end (λ n same. cc) (λ q n same. cc) j.says; used = j.used; waits = j.waits }
      keep puts.ack d may j = record { says = one_more d (ack (ack_of d.end)) d.end (λ n same. cc) (λ q n same. cc) j.says; used = j.used; waits = j.waits }

-- padding says nothing of limits
no_padding : (f : FrameValue) (count : ℕ) → (f ≡ padding → ⊥) → (fs : List FrameValue) → In f (fs ++ replicate count padding) → In f fs
no_padding f count ne fs i = elim (in_append f fs (replicate count padding) i) [ inl old ↦ old | inr new ↦ absurd (pads count new) ]
  where
    pads : (n : ℕ) → In f (replicate n padding) → ⊥
    pads zero none = none
    pads (suc n) (inl is) = ne is
    pads (suc n) (inr more) = pads n more

module _ (own : List Sent) where
  -- more was given
  still_says : (s : StreamsState) → Of (WasGiven own) s → Of (WasGiven (own ++ [])) s
  still_says s i = subst (λ (ss : List Sent). Of (WasGiven ss) s) (sym (append-nil own)) i

  -- a datagram went that has these frames
  went_in : (d : Draft) (t : Sent) (f : FrameValue) → (f ≡ padding → ⊥) → t.frames ≡ frames_padded d → WasGiven (own ++ t ∷ []) f → WasGiven own f ⊎ In f d.frames
  went_in d t f ne frames g = elim (in_append g.sent own (t ∷ []) g.among) [
    | inl old ↦ inl (record { sent = g.sent; among = old; carried = g.carried })
    | inr last ↦ elim last [
      | inl same ↦ inr (no_padding f (zeros_behind d) ne d.frames (subst (In f) (ap (λ (u : Sent). u.frames) same ∙ frames) g.carried))
      | inr none ↦ absurd none
    ]
  ]

  given_says : (ids : ℕ → Type 0) (d : Draft) (t : Sent) → t.frames ≡ frames_padded d → Drafts own ids d → Of (WasGiven (own ++ t ∷ [])) d.end.streams
  given_says ids d t frames i = says_less (Along own ids d.frames) (WasGiven (own ++ t ∷ [])) (λ n g. went_in d t (data_blocked n) (λ is. cc) frames g) (λ id n g. went_in d t (blocked_frame id n) (λ is. cc) frames g) d.end.streams i.says

  -- a poll
  polled_says : (ids : ℕ → Type 0) (p : Policy) (e : End) (now : ℕ) → Of (WasGiven own) e.streams → AreUsed ids e.streams → ((id : ℕ) → has_id id (ready_at e now).end.waiting.frames.stream_data_blocked ≡ true → ids id)
      → (polled p e now).end.closing.state ≡ states.Open → Of (WasGiven (own ++ sent_if (gave (answers.Poll (polled p e now).answer)) (sent_by p e now))) (polled p e now).end.streams
  polled_says ids p e now i used waits = by_sends p e now (λ (q : Polled) (ss : List Sent). q.end.closing.state ≡ states.Open → Of (WasGiven (own ++ ss)) q.end.streams) (record {
    silent = λ opened. still_says e.streams i;
    failed = λ opened. still_says e.streams i;
    nothing = λ is none opened. still_says (ready_at e now).end.streams ready;
    repeats = λ is. ((λ opened. let clash : states.Closing ≡ states.Open = sym is ∙ opened in cc), λ f goes opened. let clash : states.Closing ≡ states.Open = sym is ∙ opened in cc);
    closes = λ reason is bound. ((λ opened. cc), λ f goes opened. cc);
    gives = λ is may some. by_going (λ (x : End). x.closing.state ≡ states.Open → Of (WasGiven (own ++ sent_as e now (draft_at e now) ∷ [])) x.streams) p (draft_at e now)
        (λ going opened. given_says ids (draft_at e now) (sent_as e now (draft_at e now)) refl (draft_says own ids (ready_at e now).leaving (ready_at e now).end (may_leave_at e now) ready ready_used waits));
  })
    where
      ready : Of (WasGiven own) (ready_at e now).end.streams
      ready = subst (λ (s : StreamsState). Of (WasGiven own) s) (sym (ready_state e now)) i

      ready_used : AreUsed ids (ready_at e now).end.streams
      ready_used = subst (λ (s : StreamsState). AreUsed ids s) (sym (ready_state e now)) used

-- ---- the group

-- what an end says of limits that are used up, where these datagrams were given
pub record IsTold (own : List Sent) (e : End) : Type 0 where
  pub says : Of (WasGiven own) e.streams
  pub waits : (id : ℕ) → has_id id e.waiting.frames.stream_data_blocked ≡ true → IsUsed e.streams id

-- x has its peer's limits as it was made, and while it is open its datagrams say no more
pub record SaidHolds (x y : Party) : Type 0 where
  pub first : (id : ℕ) → first_limit x.made.streams id ≡ first_told x.made.peer_params (is_own x.side id) (dir_of id)
  pub all : x.made.streams.sending.limit ≡ x.made.peer_params.initial_max_data
  pub still : x.end.closing.state ≡ states.Open → IsTold x.sents x.end

-- a datagram that bears STREAM_DATA_BLOCKED of a stream has such a frame
says_it : (id : ℕ) (f : FrameValue) → says (BlockedOn id) f ≡ true → (n : ℕ) × (blocked_frame id n ≡ f)
says_it id (stream_data_blocked f) is = (f.limit, ap (λ (q : ℕ). blocked_frame q f.limit) (sym (eqb-true f.id id is)))
says_it id f is = cc

borne : (id : ℕ) (fs : List FrameValue) → list_any (says (BlockedOn id)) fs ≡ true → (n : ℕ) × In (blocked_frame id n) fs
borne id [] is = cc
borne id (f ∷ fs) is = elim (or_cases (says (BlockedOn id) f) (list_any (says (BlockedOn id)) fs) is) [
  | inl here ↦ (let one = says_it id f here in (one.0, inl one.1))
  | inr more ↦ (let rest = borne id fs more in (rest.0, inr rest.1))
]

-- a half in use was used
used_live : (s : StreamsState) (id : ℕ) (h : SendHalf) → at s.sending.halves.live id ≡ Some h → IsUsed s id
used_live s id h is = subst (λ (o : Option SendHalf). HalfIs ⊥ (λ (g : SendHalf). Unit {0}) (Unit {0}) o (has_place s.side s.sending.halves.places id)) (sym is) tt

module _ (x y : Party) (call : Call) (a : Answer) (s : Stepped x y call a) (quiet : Unnamed x y) (t : IsTold x.sents x.end) where
  abbrev next : Party
  next = called x y.given call a

  -- of these streams it waits, or was given
  abbrev Ids : ℕ → Type 0
  Ids id = (has_id id x.end.waiting.frames.stream_data_blocked ≡ true) ⊎ ((n : ℕ) × WasGiven x.sents (blocked_frame id n))

  used_before : (id : ℕ) → Ids id → IsUsed x.end.streams id
  used_before id (inl set) = t.waits id set
  used_before id (inr (n, was)) = go (at x.end.streams.sending.halves.live id) (has_place x.end.streams.side x.end.streams.sending.halves.places id) (t.says.each id)
    where
      go : (o : Option SendHalf) (used : Bool) → SaysOf (WasGiven x.sents) id o used → HalfIs ⊥ (λ (h : SendHalf). Unit {0}) (Unit {0}) o used
      go (Some h) used i = tt
      go None true i = tt
      go None false i = i n was

  used : AreUsed Ids x.end.streams
  used = used_start Ids x.end.streams (holds x y s.gives).shape used_before

  -- a datagram in flight was given
  flew : (u : Sent) → In u (watch_of x y).flight.flying → (id : ℕ) → Bears u (Frame (BlockedOn id)) → Ids id
  flew u among id bore =
      let frame = borne id u.frames bore in
      inr (frame.0, record { sent = u; among = subst (λ (ss : List Sent). In u ss) (sight x y s.gives).own (quiet.quiet.own u among); carried = frame.1 })

  -- what waits behind a call for which nothing is written
  caused_id : (id : ℕ) → finds_blocked (λ j. j == id) call a ≡ false → Caused x y call a s (Frame (BlockedOn id)) → Ids id
  caused_id id silent (inl before) = inl before
  caused_id id silent (inr (inl asks)) = absurd (both_ways (finds_blocked (λ j. j == id) call a) silent (and_parts (finds_blocked (λ j. j == id) call a) (not (has_said_on id (seen_of x y call a s))) asks).0)
  caused_id id silent (inr (inr (inl lost))) = flew lost.sent lost.flew id lost.bore
  caused_id id silent (inr (inr (inr probed))) = flew probed.sent probed.flies id probed.bears

  -- what waits, and may be told
  abbrev Waits : Thing → Type 0
  Waits (Frame (BlockedOn id)) = Ids id
  Waits q = Unit {0}

  start : Pends Waits x.end
  start = pend_more (λ q. IsPending x.end q) Waits x.end.streams x.end.waiting.frames waits (pends_start x y s.gives)
    where
      waits : (q : Thing) → IsPending x.end q → Waits q
      waits (Frame (BlockedOn id)) is = inl is
      waits q is = tt

  -- what a call leaves of these streams
  abbrev Leaves : Type 0
  Leaves = AreUsed Ids next.end.streams

  told_behind : Of (WasGiven next.sents) next.end.streams → ((id : ℕ) → has_id id next.end.waiting.frames.stream_data_blocked ≡ true → Ids id) → Leaves → IsTold next.sents next.end
  told_behind says waits left = record { says = says; waits = λ id set. used_at Ids next.end.streams id left (waits id set) }

  -- any call but a delivery
  apart_used : is_delivery call ≡ false → Leaves
  apart_used apart = call_kept (AreUsed Ids) (used_calls Ids) x.policy x.end y.given (sent_within (wrote x.told) x.end.streams (holds x y s.gives)) used call a s.answer apart (λ dir same. by_accept (AreUsed Ids) (used_kept Ids) dir x.end.streams (λ may. may) used)

  -- and a poll
  apart_says : is_delivery call ≡ false → is_poll call ≡ false → Of (WasGiven x.sents) next.end.streams
  apart_says apart silent = call_left (WasGiven x.sents) x.policy x.end y.given call a apart silent s.answer t.says

  -- a call on streams
  on_streams : is_on_streams call ≡ true → Leaves → (id : ℕ) → has_id id next.end.waiting.frames.stream_data_blocked ≡ true → IsUsed next.end.streams id
  on_streams on left = subst (λ (f : End). (id : ℕ) → has_id id f.waiting.frames.stream_data_blocked ≡ true → IsUsed f.streams id) (sym c.same) (λ id set. elim (call_one b (BlockedOn id) (streams_at x.end) call a told set) [
    | inl before ↦ used_at Ids behind.state id (subst (λ (f : End). AreUsed Ids f.streams) c.same left) (inl before)
    | inr asks ↦ used_live behind.state id asks.1.half asks.1.used
  ])
    where
      b : Bool
      b = is_open x.end.closing.state

      c : IsCallOn x.policy x.end y.given call a
      c = call_on_is x.policy x.end y.given call a on

      behind : Streams
      behind = after_on_streams b (streams_at x.end) call a

      told : (id : ℕ) → call ≡ calls.ReceivedReset id → a ≡ answers.ReceivedReset (received_reset_answer x.end.streams id)
      told id same = subst (λ (k : Call). IsStreamAnswer b x.end.streams k a) same (c.answer s.answer)

-- ---- any call

-- one that sends nothing
none_sent : (x y : Party) (call : Call) (a : Answer) (e : End) → sents_by x.policy x.end call a ≡ [] → Of (WasGiven x.sents) e.streams → Of (WasGiven (called x y.given call a).sents) e.streams
none_sent x y call a e none i = subst (λ (ss : List Sent). Of (WasGiven ss) e.streams) (sym (ap (λ (ss : List Sent). x.sents ++ ss) none ∙ append-nil x.sents)) i

-- a delivery
delivered_told : (x y : Party) (delivery : Delivery) (a : Answer) (s : Stepped x y (calls.Deliver delivery) a) (quiet : Unnamed x y) (t : IsTold x.sents x.end) → IsTold (called x y.given (calls.Deliver delivery) a).sents (called x y.given (calls.Deliver delivery) a).end
delivered_told x y delivery a s quiet t =
    told_behind x y call a s quiet t (none_sent x y call a (called x y.given call a).end refl (both.0)) (λ id set. caused_id x y call a s quiet t id refl ((left_is _ _ (delivery_begins x y delivery a s)).2 (BlockedOn id) set)) both.1
  where
    call : Call
    call = calls.Deliver delivery

    Left : End → Type 0
    Left e = Of (WasGiven x.sents) e.streams × AreUsed (Ids x y call a s quiet t) e.streams

    before : Left x.end
    before = (t.says, used x y call a s quiet t)

    frame : (f : FrameValue) (e : End) → Left e → Left (take_frame f e).end
    frame f e i = (taken_left (WasGiven x.sents) f e i.0, used_frame (Ids x y call a s quiet t) f e i.1)

    both : Left (called x y.given call a).end
    both = by_coming x y a s.joined s.served (meets y x (packets y x s.takes)) (λ (e : End) (j : Intake). Left e) call s.answer (record {
      apart = λ apart. cc;
      none = λ other same. before;
      comes = λ other same d among here. (let taken : List FrameValue = frames_at here d.frames in let after : Left (passed taken (begun x.end other.now d.number)).end = frames_keep Left frame taken (begun x.end other.now d.number) before in record {
        ignored = λ reason. before;
        noted = λ state reason. before;
        takes = λ words state new none urged mark. after;
        moves = λ p o same remote z opened j. by_migrated Left p o remote z (λ c. j) (λ c most. j);
        drains = λ words state new close fault. after;
        refuses = λ words state new f fault. after;
        exhausts = λ state. before;
      });
    })

-- a timeout
timed_told : (x y : Party) (now : ℕ) (a : Answer) (s : Stepped x y (calls.Timeout now) a) (quiet : Unnamed x y) (t : IsTold x.sents x.end) → IsTold (called x y.given (calls.Timeout now) a).sents (called x y.given (calls.Timeout now) a).end
timed_told x y now a s quiet t =
    let call : Call = calls.Timeout now in
    told_behind x y call a s quiet t (none_sent x y call a (called x y.given call a).end refl (apart_says x y call a s quiet t refl refl))
    (λ id set. caused_id x y call a s quiet t id refl ((left_is _ _ (timeout_begins x y now a s)).2 (BlockedOn id) set)) (apart_used x y call a s quiet t refl)

-- a poll
polled_told : (x y : Party) (now : ℕ) (a : Answer) (s : Stepped x y (calls.Poll now) a) (quiet : Unnamed x y) (t : IsTold x.sents x.end) → IsTold (called x y.given (calls.Poll now) a).sents (called x y.given (calls.Poll now) a).end
polled_told x y now a s quiet t = told_behind x y call a s quiet t
    (subst (λ (o : Answer). Of (WasGiven (x.sents ++ sent_if (gave o) (sent_by x.policy x.end now))) (polled x.policy x.end now).end.streams) (sym (poll_answer x.policy x.end now a s.answer s.served)) (polled_says x.sents ids x.policy x.end now t.says (used x y call a s quiet t) waits s.opened))
    (λ id set. caused_id x y call a s quiet t id refl ((left_is _ _ (poll_begins x y now a s)).2 (BlockedOn id) set)) (apart_used x y call a s quiet t refl)
  where
    call : Call
    call = calls.Poll now

    ids : ℕ → Type 0
    ids id = Ids x y call a s quiet t id

    probed : 0 < x.end.tracking.probes → (u : Sent) → In u (watch_of x y).flight.flying → (c : Control) → Bears u (Frame c) → Waits x y call a s quiet t (Frame c)
    probed some u among (BlockedOn id) bears = flew x y call a s quiet t u among id bears
    probed some u among c bears = tt

    waits : (id : ℕ) → has_id id (ready_at x.end now).end.waiting.frames.stream_data_blocked ≡ true → ids id
    waits id set = (ready_pends (Waits x y call a s quiet t) x.policy x.end now (watch_of x y).flight.flying ((sight x y s.gives).watched.flight (was x y call a s)).tells.waits probed (λ anew. tt) (start x y call a s quiet t)).controls (BlockedOn id) set

-- another call
other_told : (x y : Party) (call : Call) (a : Answer) (s : Stepped x y call a) (quiet : Unnamed x y) (t : IsTold x.sents x.end) → is_delivery call ≡ false → is_poll call ≡ false → is_timeout call ≡ false → sents_by x.policy x.end call a ≡ []
    → IsTold (called x y.given call a).sents (called x y.given call a).end
other_told x y call a s quiet t apart silent other none = go (is_on_streams call) refl
  where
    says : Of (WasGiven (called x y.given call a).sents) (called x y.given call a).end.streams
    says = none_sent x y call a (called x y.given call a).end none (apart_says x y call a s quiet t apart silent)

    left : AreUsed (Ids x y call a s quiet t) (called x y.given call a).end.streams
    left = apart_used x y call a s quiet t apart

    go : (b : Bool) → is_on_streams call ≡ b → IsTold (called x y.given call a).sents (called x y.given call a).end
    go true on = record { says = says; waits = on_streams x y call a s quiet t on left }
    go false off = told_behind x y call a s quiet t says (λ id set. (quiet_left (Waits x y call a s quiet t) x.policy x.end y.given (start x y call a s quiet t) call a (λ n skips. tt) (λ said. tt) off apart silent other).controls (BlockedOn id) set) left

any_told : (x y : Party) (call : Call) (a : Answer) (s : Stepped x y call a) → Unnamed x y → IsTold x.sents x.end → IsTold (called x y.given call a).sents (called x y.given call a).end
any_told x y (calls.Deliver delivery) a s quiet t = delivered_told x y delivery a s quiet t
any_told x y (calls.Timeout now) a s quiet t = timed_told x y now a s quiet t
any_told x y (calls.Poll now) a s quiet t = polled_told x y now a s quiet t
any_told x y call a s quiet t = other_told x y call a s quiet t refl refl refl refl

-- ---- the start

said_first : (x y : Beginning) → SaidHolds (begun_as x y) (begun_as y x)
said_first x y = record {
  first = λ id. first (is_own x.side id) (dir_of id);
  all = refl;
  still = λ opened. record {
    says = record {
      lie = halves_wider x.side (λ id. sends_on x.side id && is_opened (begun_as x y).made.streams id) (λ id. true) (begun_as x y).made.streams.sending.halves (λ id may. refl) shape.sending;
      each = λ id. each id (has_place x.side no_places id);
      told = λ n was. was.among;
      within = tt;
    };
    waits = λ id set. cc;
  };
}
  where
    settings : Settings
    settings = x.making.settings

    p : ParameterValues
    p = parameters_of y.making.settings

    shape : IsShaped (begun_as x y).made.streams
    shape = shape_set_params (new_streams x.side settings.max_uni settings.max_bidi settings.send_window settings.receive_window settings.stream_receive_window) p (shape_new x.side settings.max_uni settings.max_bidi settings.send_window settings.receive_window settings.stream_receive_window)

    first : (own : Bool) (dir : Dir) → (if own then of dir (record { bi = p.initial_max_stream_data_bidi_remote; uni = p.initial_max_stream_data_uni }) else p.initial_max_stream_data_bidi_local) ≡ first_told p own dir
    first true Bi = refl
    first true Uni = refl
    first false dir = refl

    each : (id : ℕ) (used : Bool) → SaysOf (WasGiven []) id None used
    each id true = tt
    each id false = λ n was. was.among

pub said_group : (B : Way) → ((x y : Party) → B x y → Known x y) → ((x y : Party) → B x y → Unnamed x y) → Group B SaidHolds
said_group B knows quiet = record {
  first = λ x y m there back. said_first x y;
  writer = λ x y call a c i back. record {
    first = i.first;
    all = i.all;
    still = λ opened. (
        let used : ℕ = (called x y.given call a).end.ids.peer.active in
        let s : Stepped x y call a = record {
          calls = less_calls B Known knows x y call a c;
          joined = c.joined;
          answer = c.answer;
          served = c.served;
          gives = knows x y c.gives;
          takes = knows y x c.takes;
          behind = knows (called x y.given call a) y c.gives_behind;
          opened = opened;
          using = x.end.ids.peer.active;
          used = refl;
          stays = used == x.end.ids.peer.active;
          tells = λ changed. (eqb-true used x.end.ids.peer.active, eq-eqb used x.end.ids.peer.active);
          questions = record { watch = watch_of x y; count = 0; due = x.end.timers.path_validation; calls = 0 };
          watched = refl;
          validated = false;
          expires = λ n come. and_from (is_past x.end.timers.path_validation n) true (past_is x.end.timers.path_validation n ∙ come) refl;
        } in
        any_told x y call a s (quiet x y c.gives) (i.still (was x y call a s)));
  };
  reader = λ x y call a c there i. record { first = i.first; all = i.all; still = i.still };
  shows = λ x y here there b back i j. record { first = i.first; all = i.all; still = λ opened. (let t = i.still opened in record { says = t.says; waits = t.waits }) };
}
