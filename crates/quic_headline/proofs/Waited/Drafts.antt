-- What stands in a datagram that doesn't ask for an acknowledgement, an ACK frame that is due or
-- many packets came that don't ask; and what stands in one that asks, where no probe of losses
-- waits: PING where it waits, and STREAM frames that bring something.
use Rattle.std.proofs.Common.{◌≡◌, ℕ, ◌-◌, ◌<◌, ◌≤◌, Bool, true, false, ◌||◌, List, [], ◌∷◌, ◌++◌, length, Option, Some, None, refl, sym, ap, ◌∙◌, subst, ◌⊎◌, inl, inr, arith}
use Rattle.std.specs.Prelude.{nat_lt, option_map}
use Rattle.std.specs.Option.{is_some}
use Rattle.std.specs.List.{list_any}
use Rattle.std.proofs.lemmas.Bool.{or_cases, and_parts, both_ways, ltb-true}
use Rattle.quic_wire.specs.Value.{FrameValue, ack, ping, stream, datagram, immediate_ack, ack_frequency}
use Rattle.quic_sets.specs.Runs.{Run, Has}
use Rattle.quic_sets.specs.Offsets.{first_or}
use Rattle.quic_send_buffer.specs.Buffered.{Buffered, IsBuffered, written, next_range, next_start, sent_end}
use Rattle.quic_send_buffer.proofs.Buffered.Calls.{sent_within}
use Rattle.quic_recovery_core.specs.PendingAcks.{Pending, lazy_threshold, can_send, is_filled}
use Rattle.quic_streams_parts.specs.SendHalf.{SendHalf, HasFrame, frame_of, frame_counts, reaches_end}
use Rattle.quic_streams_state.specs.declared.state.StreamsState.{StreamsState}
use Rattle.quic_streams_state.specs.State.{Streams}
use Rattle.quic_streams_laws.specs.KeepingLaws.{live_sends}
use Rattle.quic_streams_laws.specs.Written.{Wrote, IsSendHalf}
use Rattle.quic_streams_laws.specs.AcknowledgedLaws.{half_arrived}
use Rattle.quic_machine.specs.End.{End, streams_at}
use Rattle.quic_machine.specs.Poll.{Draft, no_frames, with_signal_frames, ping_if, with_control_frames, with_message_frames, with_asking, ack_of, with_ack, ack_fits, ack_if, composed_if, composed, lazied, asking, asks_to_go, waits, draft_as, goes_as, goes, whole, alone, probe, nothing, Leaving, closing, immediate_if, with_ping_frame, with_frequency_frame, request_of}
use Rattle.quic_machine.specs.DraftLaws.{Writing, HasRoom, SendsEntry, SendsHalf, room_most, lazy_due, by_entries, by_messages, by_streams, MayLeave, signal_asks, by_signals}
use Rattle.quic_machine.specs.Puts as puts
use Rattle.quic_machine.specs.Validation.{challenge_frame, response_frame}
use Rattle.quic_machine.specs.PollCases.{ready_at, draft_at, may_leave_at, whole_waits, ready_closes_not}
use Rattle.quic_headline.specs.Runs.{In}
use Rattle.quic_headline.specs.Observer.{Sent, HoldsOffset, HoldsEnd}
use Rattle.quic_headline.specs.Moments.{is_ack}
use Rattle.quic_headline.specs.Waited.{HoldsNone}
use Rattle.quic_headline.proofs.Packets.Entries.{IsControl, control_of, by_request}
use Rattle.quic_headline.proofs.Packets.Composed.{Spelling, bytes_count}
use Rattle.quic_headline.proofs.Packets.Going.{Bringing, asking_goes}
use Rattle.quic_headline.proofs.Packets.Growth.{in_more}
use Rattle.quic_headline.proofs.Steps.Probes.{Asks, still_asks, last_asks, control_asks}
use Rattle.quic_headline.proofs.Settled.Half.{Known, KnowsMore, Tells, HalfSettles, half_settles}
use Rattle.quic_headline.proofs.Settled.Acked.{telling}
use Rattle.quic_headline.proofs.Settled.Words.{Settling, is_reset}
use Rattle.quic_headline.proofs.Settled.Carried.{known_of}
use Rattle.quic_headline.proofs.Settled.Sends.{GoesKnown, holds_less, drafts_write}
use Rattle.quic_headline.proofs.AcksDue.Clause.{draft_acks}
use Rattle.quic_headline.proofs.Waited.Pings.{by_ping}

-- ---- what asks

-- one of the frames of a draft asks, if it has any
abbrev AskIfAny : Draft → Type 0
AskIfAny d = Asks d ⊎ (length d.frames ≡ 0)

-- so it is of those that ask, and go first
asking_asks : (e : End) → AskIfAny (with_asking (no_frames e))
asking_asks e = by_streams AskIfAny (λ d id h room found first left is counts i. inl (last_asks d (stream (frame_of id h room)) refl)) (with_message_frames (with_control_frames (with_frequency_frame (with_signal_frames (no_frames e)))))
    (by_messages AskIfAny (λ d m ms is fit i. inl (last_asks d (datagram m) refl)) (with_control_frames (with_frequency_frame (with_signal_frames (no_frames e))))
    (by_entries AskIfAny (λ d kind i. i) (λ d kind f is i. inl (last_asks d f (control_asks f (control_of f kind is.of_kind)))) (with_frequency_frame (with_signal_frames (no_frames e)))
    (by_request AskIfAny (with_signal_frames (no_frames e)) (λ waits i. inl (last_asks (with_signal_frames (no_frames e)) (ack_frequency (request_of (with_signal_frames (no_frames e)).end)) refl)) (by_signals AskIfAny (λ d f left is i. inl (last_asks d f (signal_asks f is))) (no_frames e) (inr refl)))))

-- ---- a datagram that doesn't ask

-- an acknowledgement is due, or many packets came that don't ask
abbrev pub IsUrged : Pending → Type 0
IsUrged p = (p.due ≡ true) ⊎ (lazy_threshold < p.silent)

urged : (e : End) → can_send (lazied e).acknowledging ≡ true → IsUrged e.acknowledging
urged e due = elim (or_cases e.acknowledging.due (nat_lt lazy_threshold e.acknowledging.silent) (and_parts (e.acknowledging.due || nat_lt lazy_threshold e.acknowledging.silent) (is_filled e.acknowledging.runs) due).0) [
  | inl is ↦ inl is
  | inr many ↦ inr (ltb-true lazy_threshold e.acknowledging.silent many)
]

module _ (K : Streams → Type 0) (k : Spelling K) (c : Bringing K) where
  -- where no ACK frame is due, what is composed asks
  pub composed_asking : (e : End) → HasRoom e → K (streams_at e) → waits e ≡ true → can_send (lazied e).acknowledging ≡ false → Asks (composed (lazied e))
  composed_asking e short i waiting none = subst (λ (b : Bool). Asks (composed_if b (lazied e))) (sym none) (late (ack_fits d) (elim (asking_asks (lazied e)) [
    | inl is ↦ is
    | inr empty ↦ (let some : 0 < length d.frames = asking_goes K k c (lazied e) (room_most e short) i asks in absurd (omega arith))
  ]))
    where
      d : Draft
      d = with_asking (no_frames (lazied e))

      late : (b : Bool) → Asks d → Asks (ack_if b d)
      late true is = still_asks d (ack (ack_of d.end)) is
      late false is = is

      asks : asks_to_go e ≡ true
      asks = elim (or_cases (can_send e.acknowledging) (asks_to_go e) waiting) [ inl due ↦ absurd (both_ways (can_send (lazied e).acknowledging) none (lazy_due e due)) | inr is ↦ is ]

  -- a datagram that doesn't ask has an ACK frame, for which one was due
  pub silent_acks : (e : End) (now : ℕ) → goes (ready_at e now) ≡ true → HasRoom (ready_at e now).end → K (streams_at (ready_at e now).end) → asking (draft_at e now).frames ≡ false → (list_any is_ack (draft_at e now).frames ≡ true) × IsUrged (ready_at e now).end.acknowledging
  silent_acks e now some short i = by_leaving (ready_at e now).leaving refl
    where
      x : End
      x = (ready_at e now).end

      Says : Leaving → Type 0
      Says l = asking (draft_as l x).frames ≡ false → (list_any is_ack (draft_as l x).frames ≡ true) × IsUrged x.acknowledging

      all : waits x ≡ true → (b : Bool) → can_send (lazied x).acknowledging ≡ b → Says whole
      all waiting true due quiet = (draft_acks whole x (inl refl) due, urged x due)
      all waiting false none quiet = absurd (both_ways (asking (composed (lazied x)).frames) quiet (composed_asking x short i waiting none))

      by_leaving : (l : Leaving) → (ready_at e now).leaving ≡ l → Says l
      by_leaving whole is = all (whole_waits e now is) (can_send (lazied x).acknowledging) refl
      by_leaving alone is = λ quiet. (let due = subst (λ (l : Leaving). MayLeave l x) is (may_leave_at e now) in (draft_acks alone x (inr refl) due, urged x due))
      by_leaving (probe size) is = λ quiet. cc
      by_leaving (closing f) is = λ quiet. absurd (ready_closes_not e now f is)
      by_leaving (nothing held) is = λ quiet. absurd (both_ways (goes (ready_at e now)) (ap goes_as is) some)

-- ---- a datagram that asks

-- PING and IMMEDIATE_ACK go where they wait, and a STREAM frame brings a byte or the end, and no
-- byte that was acknowledged
abbrev pub Brings : List Sent → End → FrameValue → Type 0
Brings acks e ping = e.waiting.signals.ping ≡ true
Brings acks e immediate_ack = e.waiting.signals.immediate ≡ true
Brings acks e (stream f) = ((0 < length f.bytes) ⊎ (f.fin ≡ true)) × HoldsNone acks f
Brings acks e f = Unit {0}

-- so do all other frames
control_brings : (acks : List Sent) (e : End) (f : FrameValue) → IsControl f → Brings acks e f
control_brings acks e ping is = absurd is
control_brings acks e immediate_ack is = absurd is
control_brings acks e (stream f) is = absurd is
control_brings acks e f is = tt

-- one more frame
brings_more : (acks : List Sent) (e : End) (fs : List FrameValue) (g : FrameValue) → Brings acks e g → ((f : FrameValue) → In f fs → Brings acks e f) → (f : FrameValue) → In f (fs ++ g ∷ []) → Brings acks e f
brings_more acks e fs g one all f i = elim (in_more f g fs i) [ inl old ↦ all f old | inr new ↦ subst (Brings acks e) (sym new) one ]

-- ---- the frame of a half

-- what goes next wasn't acknowledged: it is lost, or was never sent
next_unacked : (b : Buffered) → IsBuffered b → (o : ℕ) → next_start b ≤ o → o < (next_range b).end → Has b.acked o → ⊥
next_unacked b lawful o from below acked = go b.lost refl from below
  where
    go : (lost : List Run) → b.lost ≡ lost → (first_or lost (record { start = b.unsent; end = written b })).start ≤ o → o < (first_or lost (record { start = b.unsent; end = written b })).end → ⊥
    go [] is above within = (let sent = lawful.acked_sent o acked in omega arith)
    go (r ∷ rs) is above within = lawful.apart o acked (subst (λ (ls : List Run). Has ls o) (sym is) (inl (above, within)))

-- what is known of what was acknowledged alone
abbrev acked_alone : List Sent → Known
acked_alone acks = record { sent = λ id o. ⊥; end_sent = λ id. ⊥; acked = λ id o. HoldsOffset acks id o; end_acked = λ id. HoldsEnd acks id }

-- frames that go leave it
acked_goes : (acks : List Sent) → GoesKnown (λ fs. acked_alone acks)
acked_goes acks = record {
  apart = λ fs f is. record { sent = λ id o x. x; end_sent = λ id x. x; acked = λ id o x. x; end_acked = λ id x. x };
  stream = λ fs f. record { sent = λ id o x. absurd x; end_sent = λ id x. absurd x; acked = λ id o x. x; end_acked = λ id x. x };
}

-- where all is known of what was sent and acknowledged
acked_less : (sents acks : List Sent) → KnowsMore (acked_alone acks) (known_of sents acks)
acked_less sents acks = record { sent = λ id o x. absurd x; end_sent = λ id x. absurd x; acked = λ id o x. x; end_acked = λ id x. x }

module _ (acks : List Sent) (t : Tells) (w : Wrote) (id : ℕ) (h : SendHalf) (room : ℕ) (has : HasFrame h room) where
  half_unacked : IsSendHalf w h → HalfSettles (acked_alone acks) t id h → HoldsNone acks (frame_of id h room)
  half_unacked held x o from below holds = go w.reset refl
    where
      count : length (frame_of id h room).bytes ≡ sent_end h.buffer room - next_start h.buffer
      count = bytes_count h id room has

      go : (r : Option ℕ) → w.reset ≡ r → ⊥
      go None is = (
          let free : h.reset ≡ None = held.reset ∙ ap (λ (r : Option ℕ). option_map (λ (code : ℕ). length w.bytes) r) is in
          let high = sent_within h.buffer room held.lawful in
          let long = count in
          let ordered = has.ordered in
          next_unacked h.buffer held.lawful o from (omega (arith, high, long, below, ordered)) ((x.3 free).1 o holds))
      go (Some code) is = (
          let gone : h.buffer.kept ≡ [] = (held.gone (ap is_some is)).kept in
          let none : length h.buffer.kept ≡ 0 = ap (λ (bs : List ℕ). length bs) gone in
          let long = count in
          let kept = has.kept in
          let bounded = has.bounded in
          omega (arith, none, long, kept, bounded, from, below))

  half_brings : frame_counts h room ≡ true → (0 < length (frame_of id h room).bytes) ⊎ ((frame_of id h room).fin ≡ true)
  half_brings counts = elim (or_cases (nat_lt (next_start h.buffer) (sent_end h.buffer room)) (reaches_end h (sent_end h.buffer room)) counts) [
    | inl bytes ↦ (let more = ltb-true (next_start h.buffer) (sent_end h.buffer room) bytes in let count = bytes_count h id room has in inl (omega arith))
    | inr end ↦ inr end
  ]

-- ---- what is composed

module _ (K : Streams → Type 0) (k : Spelling K) (acks : List Sent) (n : ℕ → ℕ) (w : ℕ → Wrote) (e : End) where
  -- what was acknowledged of streams is known
  abbrev Knows : StreamsState → Type 0
  Knows s = Settling (λ id o. HoldsOffset acks id o) (λ id. HoldsEnd acks id) (acked_alone acks) n w s

  -- what is known of the streams of a draft, and that its frames bring something
  abbrev IsBringing : Draft → Type 0
  IsBringing d = K (streams_at d.end) × Knows d.end.streams × ((f : FrameValue) → In f d.frames → Brings acks e f)

  settles : Writing (λ (d : Draft). Knows d.end.streams)
  settles = drafts_write (λ id o. HoldsOffset acks id o) (λ id. HoldsEnd acks id) n w (λ fs. acked_alone acks) (acked_goes acks)

  controls_bring : SendsEntry IsBringing
  controls_bring d kind f is i = (
      let went = k.control (streams_at d.end) kind f is i.0 in
      (went.1, settles (puts.control kind f) d is i.1, brings_more acks e d.frames f (control_brings acks e f (control_of f kind is.of_kind)) i.2))

  halves_bring : SendsHalf IsBringing
  halves_bring d id h room found first left is counts i = (
      let s : StreamsState = d.end.streams in
      let one = k.stream d.end.transport.send_fairness (streams_at d.end) id h room found counts i.0 in
      let t : Tells = telling n (is_reset w) s in
      let there = live_sends s id h found in
      let held = (half_arrived (λ id o. HoldsOffset acks id o) (λ id. HoldsEnd acks id) w s id h there i.1.0.acked).0 in
      let settled : HalfSettles (acked_alone acks) t id h = half_settles (acked_alone acks) t s id h there i.1.1 in (
        one.2,
        settles (puts.stream id h room) d (found, first, left, is, counts) i.1,
        brings_more acks e d.frames (stream (frame_of id h room)) (half_brings acks t (w id) id h room one.1 counts, half_unacked acks t (w id) id h room one.1 held settled) i.2,
      ))

  -- PING and IMMEDIATE_ACK wait as at first
  abbrev SameBare : Draft → Type 0
  SameBare d = (d.end.waiting.signals.ping ≡ e.waiting.signals.ping) × (d.end.waiting.signals.immediate ≡ e.waiting.signals.immediate)

  asking_brings : (d : Draft) → SameBare d → IsBringing d → IsBringing (with_asking d)
  asking_brings d same i = by_streams IsBringing halves_bring (with_message_frames (with_control_frames (with_frequency_frame (with_signal_frames d))))
      (by_messages IsBringing (λ x m ms is fit j. (j.0, j.1, brings_more acks e x.frames (datagram m) tt j.2)) (with_control_frames (with_frequency_frame (with_signal_frames d))) (by_entries IsBringing (λ x kind j. (k.drops (streams_at x.end) kind j.0, j.1, j.2)) controls_bring (with_frequency_frame (with_signal_frames d))
      (by_request IsBringing (with_signal_frames d) (λ waits j. (k.asked (streams_at (with_signal_frames d).end) false j.0, j.1, brings_more acks e (with_signal_frames d).frames (ack_frequency (request_of (with_signal_frames d).end)) tt j.2)) signals)))
    where
      Brought : Draft → Type 0
      Brought x = SameBare x × IsBringing x

      Hastens : Draft → Type 0
      Hastens x = (x.end.waiting.signals.immediate ≡ e.waiting.signals.immediate) × IsBringing x

      pings : (x : Draft) (b : Bool) → x.end.waiting.signals.ping ≡ b → Brought x → Hastens (ping_if b x)
      pings x true is j = (j.0.1, (j.1.0, j.1.1, brings_more acks e x.frames ping (sym j.0.0 ∙ is) j.1.2))
      pings x false is j = (j.0.1, j.1)

      hastens : (x : Draft) (b : Bool) → x.end.waiting.signals.immediate ≡ b → Hastens x → IsBringing (immediate_if b x)
      hastens x true is j = (j.1.0, j.1.1, brings_more acks e x.frames immediate_ack (sym j.0 ∙ is) j.1.2)
      hastens x false is j = j.1

      signals : IsBringing (with_signal_frames d)
      signals = by_ping Brought IsBringing (λ x word j. (j.0, (j.1.0, j.1.1, brings_more acks e x.frames (challenge_frame word) tt j.1.2))) (λ x r j. (j.0, (j.1.0, j.1.1, brings_more acks e x.frames (response_frame r) tt j.1.2)))
          (λ x j. hastens (with_ping_frame x) (with_ping_frame x).end.waiting.signals.immediate refl (pings x x.end.waiting.signals.ping refl j)) d (same, i)

  -- so do those of what is composed
  composed_brings : K (streams_at e) → Knows e.streams → IsBringing (composed e)
  composed_brings i j = go (can_send e.acknowledging)
    where
      late : (b : Bool) (d : Draft) → IsBringing d → IsBringing (ack_if b d)
      late true d x = (x.0, x.1, brings_more acks e d.frames (ack (ack_of d.end)) tt x.2)
      late false d x = x

      go : (b : Bool) → IsBringing (composed_if b e)
      go true = asking_brings (with_ack (no_frames e)) (refl, refl) (i, j, brings_more acks e [] (ack (ack_of e)) tt (λ f x. absurd x))
      go false = late (ack_fits (with_asking (no_frames e))) (with_asking (no_frames e)) (asking_brings (no_frames e) (refl, refl) (i, j, λ f x. absurd x))

-- all that stands in a datagram of all that waits brings something
pub whole_brings : (K : Streams → Type 0) → Spelling K → (sents acks : List Sent) (n : ℕ → ℕ) (w : ℕ → Wrote) (e : End) → K (streams_at e) → Settling (λ id o. HoldsOffset acks id o) (λ id. HoldsEnd acks id) (known_of sents acks) n w e.streams
    → (f : FrameValue) → In f (draft_as whole e).frames → Brings acks e f
whole_brings K k sents acks n w e i j = (composed_brings K k acks n w (lazied e) i (holds_less (λ id o. HoldsOffset acks id o) (λ id. HoldsEnd acks id) n w (known_of sents acks) (acked_alone acks) e.streams (acked_less sents acks) j)).2
