-- Where something waits, a frame goes.
use Rattle.std.proofs.Common.{◌≡◌, ℕ, zero, suc, ◌+◌, ◌-◌, ◌<◌, ◌≤◌, Bool, true, false, ◌==◌, ◌||◌, not, List, [], ◌∷◌, ◌++◌, length, Option, Some, None, refl, sym, ap, ◌∙◌, subst, ◌⊎◌, inl, inr, arith}
use Rattle.std.specs.Prelude.{if◌then◌else◌, map, nat_le, nat_lt, ◌*◌}
use Rattle.std.specs.List.{list_any, fold}
use Rattle.std.specs.Option.{is_some}
use Rattle.std.proofs.lemmas.Bool.{le-leb, leb-true, or_cases, and_parts, not-true}
use Rattle.std.proofs.lemmas.List.{length-append, length-map}
use Rattle.quic_wire_core.specs.Law.{length-shortest, varint_size_le}
use Rattle.quic_wire.specs.Value.{FrameValue, ack, stream, datagram, ack_frequency}
use Rattle.quic_wire.specs.Writing.{frame_size, width_of}
use Rattle.quic_recovery_core.specs.PendingAcks.{can_send}
use Rattle.quic_retransmits.specs.Retransmits.{Retransmits, nothing_waits, first_of, control_kinds}
use Rattle.quic_streams_parts.specs.Table.{at}
use Rattle.quic_streams_parts.specs.Queue.{first_queued}
use Rattle.quic_streams_parts.specs.SendHalf.{SendHalf, frame_of, frame_counts}
use Rattle.quic_streams_state.specs.declared.state.StreamsState.{StreamsState}
use Rattle.quic_retransmits.specs.declared.retransmits.ControlKind.{ControlKind}
use Rattle.quic_streams_state.specs.State.{Streams, streams_of}
use Rattle.quic_streams_state.specs.Waiting.{is_empty, can_send_stream_data}
use Rattle.quic_streams_state.specs.Control.{Entry, reset_frame, reset_entry, waiting, first_dropped, first_sent, first_and_more, with_listed, with_kind}
use Rattle.quic_streams_state.specs.ControlLaws.{is_due, any_due, counts_due, listed, filled, place, others_same, is_apart, are_apart, kinds_apart}
use Rattle.quic_streams_state.specs.Control as control
use Rattle.quic_streams_state.specs.Frames as of_streams
use Rattle.quic_streams_state.specs.Frames.{Sent, frame_sent, frame_if, frame_and_more, stream_frames}
use Rattle.quic_streams_laws.specs.KindLaws as kinds
use Rattle.quic_streams_laws.specs.ControlWalk.{others_wait}
use Rattle.quic_messages.specs.Messages.{fitting, frame_bytes}
use Rattle.quic_spaces.specs.Numbers.{cut_against}
use Rattle.quic_machine.specs.End.{End, number_of, streams_at}
use Rattle.quic_machine.specs.Poll.{Draft, no_frames, most_ordinary, frame_room, least_room, fits, left, no_stream_frames, with_control_frames, with_message, with_messages_of, with_message_frames, with_stream_frames, with_asking, ack_of, with_ack, ack_fits, ack_if, composed_if, composed, lazied, lazied_as, message_waits, asks_to_go, waits, draft_as, goes, probe, alone, whole, Leaving, Ready, nothing, goes_as, closing, with_signal_frames, with_request, request_if, with_frequency_frame, request_of}
use Rattle.quic_machine.specs.PollCases.{ready_at, ready_leaves, whole_waits, may_leave_at}
use Rattle.quic_machine.specs.Parts.{signals_wait}
use Rattle.quic_machine.specs.DraftLaws.{Writing, drops_of, entry_of, half_of, message_of, HasRoom, room_most, left_least, by_entries, by_messages, by_streams, by_asking, by_some_signal, no_signal}
use Rattle.quic_machine.specs.Puts.{without_entry}
use Rattle.quic_machine.specs.Puts as puts
use Rattle.quic_headline.specs.Runs.{In}
use Rattle.quic_headline.proofs.Packets.Searches.{ready_room}
use Rattle.quic_headline.proofs.Packets.Invariant.{Acks}
use Rattle.quic_headline.proofs.Packets.Entries.{control_of, control_short}
use Rattle.quic_headline.proofs.Packets.Composed.{Spelling, IsSpellable, waits_lazied, draft_spells}

-- ---- what is known of streams

-- the stream that stands first in the queue has a half whose frame brings something, where 17 bytes
-- are left behind its type and id
pub record BringsFirst (s : StreamsState) : Type 0 where
  pub id : ℕ
  pub half : SendHalf
  pub first : first_queued s.sending.queue ≡ Some id
  pub found : at s.sending.halves.live id ≡ Some half
  pub counts : (room : ℕ) → 17 ≤ room → frame_counts half room ≡ true

-- a fact of streams, and of what waits beside their bytes, by which something of what waits can go
pub record Bringing (K : Streams → Type 0) : Type 0 where
  -- RESET_STREAM waits of halves that were reset
  pub resets : (t : Streams) → K t → (r : ℕ × ℕ) → In r t.pending.reset_stream → is_some (reset_frame r (at t.state.sending.halves.live r.0)) ≡ true
  -- the queue has halves with something to send
  pub queued : (t : Streams) → K t → can_send_stream_data t.state ≡ true → BringsFirst t.state

-- ---- what is due

-- whether one of several kinds is
abbrev any_of : StreamsState → Retransmits → List ControlKind → Bool
any_of s p kinds = list_any (λ kind. any_due s (waiting kind p)) kinds

-- ---- one frame is enough

-- one more frame of control is one at least
one_sent : (kind : ControlKind) (f : FrameValue) (d : control.Draft) → 0 < length (first_sent kind f d).frames
one_sent kind f d = let all = length-append d.frames (f ∷ []) in omega arith

-- frames of control stay, whatever goes of a list behind them
listed_more : (kind : ControlKind) (most : ℕ) (es : List Entry) (d : control.Draft) → 0 < length d.frames → 0 < length (with_listed kind most es d).frames
listed_more kind most [] d some = some
listed_more kind most (e ∷ es) d some = go (e.frame d.state) (λ x more. listed_more kind most es x more)
  where
    More : Type 0
    More = (x : control.Draft) → 0 < length x.frames → 0 < length (with_listed kind most es x).frames

    goes : (f : FrameValue) → (b : Bool) → More → 0 < length (if b then with_listed kind most es (first_sent kind f d) else d).frames
    goes f true more = more (first_sent kind f d) (one_sent kind f d)
    goes f false more = some

    go : (o : Option FrameValue) → More → 0 < length (first_and_more o (with_listed kind most es) kind most d).frames
    go None more = more (first_dropped kind d) some
    go (Some f) more = goes f (nat_le (d.used + frame_size f) most) more

-- and of several kinds
kinds_more : (most : ℕ) (kinds : List ControlKind) (d : control.Draft) → 0 < length d.frames → 0 < length (fold (with_kind most) d kinds).frames
kinds_more most [] d some = some
kinds_more most (kind ∷ kinds) d some = kinds_more most kinds (with_kind most d kind) (listed_more kind most (waiting kind d.pending) d some)

-- STREAM frames stay behind which more go
halves_more : (n : ℕ) (fair : Bool) (most : ℕ) (t : Sent) → 0 < length t.frames → 0 < length (stream_frames n fair most t).frames
halves_more zero fair most t some = some
halves_more (suc n) fair most t some = next (of_streams.next_stream most t) (λ x more. halves_more n fair most x more)
  where
    More : Type 0
    More = (x : Sent) → 0 < length x.frames → 0 < length (stream_frames n fair most x).frames

    brings : (id : ℕ) (h : SendHalf) (b : Bool) → More → 0 < length (if b then stream_frames n fair most (frame_sent fair most t id h) else t).frames
    brings id h true more = more (frame_sent fair most t id h) (let all = length-append t.frames (frame_of id h (of_streams.stream_room most t id) ∷ []) in omega arith)
    brings id h false more = some

    half : (id : ℕ) (o : Option SendHalf) → More → 0 < length (frame_if o (stream_frames n fair most) fair most t id).frames
    half id None more = some
    half id (Some h) more = brings id h (frame_counts h (of_streams.stream_room most t id)) more

    next : (o : Option ℕ) → More → 0 < length (frame_and_more o (stream_frames n fair most) fair most t).frames
    next None more = some
    next (Some id) more = half id (at t.state.sending.halves.live id) more

-- that of the stream that stands first goes, where there is room
pub first_goes : (n : ℕ) (fair : Bool) (most : ℕ) (t : Sent) (id : ℕ) (h : SendHalf) → 1 ≤ n → length t.bytes + 25 ≤ most → first_queued t.state.sending.queue ≡ Some id → at t.state.sending.halves.live id ≡ Some h
    → frame_counts h (of_streams.stream_room most t id) ≡ true → 0 < length (stream_frames n fair most t).frames
first_goes zero fair most t id h some room first found counts = absurd (omega arith)
first_goes (suc n) fair most t id h some room first found counts =
    let fits : nat_le (length t.bytes + 25) most ≡ true = le-leb (length t.bytes + 25) most room in
    let all = length-append t.frames (frame_of id h (of_streams.stream_room most t id) ∷ []) in
    rw (fits, first, found, counts) (halves_more n fair most (frame_sent fair most t id h) (omega arith))

-- a draft has a frame
abbrev pub HasFrames : Draft → Type 0
HasFrames d = 0 < length d.frames

-- so it is where one more goes
one_more : (d : Draft) (f : FrameValue) → 0 < length (d.frames ++ f ∷ [])
one_more d f = let all = length-append d.frames (f ∷ []) in omega arith

-- frames stay, whichever go behind them
frames_stay : Writing HasFrames
frames_stay (puts.drops kind) d may some = some
frames_stay p d may some = one_more d _

-- no frame went: there is no byte, the streams and the messages are as they were, and there is as
-- much room
record Untouched (e : End) (d : Draft) : Type 0 where
  bytes : length d.bytes ≡ 0
  streams : d.end.streams ≡ e.streams
  messages : d.end.messages.queues.outgoing ≡ e.messages.queues.outgoing
  room : frame_room d.end ≡ frame_room e

-- frames of control go or don't
touched_or_not : (e : End) → HasFrames (with_control_frames (no_frames e)) ⊎ Untouched e (with_control_frames (no_frames e))
touched_or_not e = by_entries (λ (d : Draft). HasFrames d ⊎ Untouched e d) drops (λ d kind f is before. inl (one_more d f)) (no_frames e) (inr (record { bytes = refl; streams = refl; messages = refl; room = refl }))
  where
    drops : (d : Draft) (kind : ControlKind) → HasFrames d ⊎ Untouched e d → HasFrames (without_entry d kind) ⊎ Untouched e (without_entry d kind)
    drops d kind (inl some) = inl some
    drops d kind (inr u) = inr (record { bytes = u.bytes; streams = u.streams; messages = u.messages; room = u.room })

-- messages go behind them or don't
untold_or_not : (e : End) → HasFrames (with_message_frames (with_control_frames (no_frames e))) ⊎ Untouched e (with_message_frames (with_control_frames (no_frames e)))
untold_or_not e = by_messages (λ (d : Draft). HasFrames d ⊎ Untouched e d) (λ d m ms is fit before. inl (one_more d (datagram m))) (with_control_frames (no_frames e)) (touched_or_not e)

-- no fewer bytes are left for frames, whichever number a datagram has
room_least : (e : End) → least_room e ≤ frame_room e
room_least e =
    let between : ℕ = number_of e - cut_against e.numbers in
    go (nat_lt (2 * between) 256) (nat_lt (2 * between) 65536) (nat_lt (2 * between) 16777216)
  where
    go : (a b c : Bool) → least_room e ≤ most_ordinary e - (1 + length e.ids.peer.id + (if a then 1 else (if b then 2 else (if c then 3 else 4))) + 16)
    go true b c = omega arith
    go false true c = omega arith
    go false false true = omega arith
    go false false false = omega arith

-- behind none, the oldest message goes, where it fits
message_brings : (e : End) (d : Draft) → Untouched e d → message_waits e ≡ true → HasFrames (with_message_frames d)
message_brings e d u on =
    go d.end.messages.queues.outgoing (subst (λ (ms : List (List ℕ)). is_some (fitting (least_room e) ms) ≡ true) (sym u.messages) on)
  where
    short : (m : List ℕ) (b : Bool) → nat_le (frame_bytes m) (least_room e) ≡ b → is_some (if b then Some m else None) ≡ true → fits d (datagram m) ≡ true
    short m true is waits =
        let within = leb-true (frame_bytes m) (least_room e) is in
        let least = room_least e in
        let bytes = u.bytes in
        let room = u.room in
        le-leb (length d.bytes + frame_size (datagram m)) (frame_room d.end) (omega arith)
    short m false is waits = cc

    go : (ms : List (List ℕ)) → is_some (fitting (least_room e) ms) ≡ true → HasFrames (with_messages_of ms d)
    go [] waits = cc
    go (m ∷ ms) waits =
        let goes = short m (nat_le (frame_bytes m) (least_room e)) refl waits in
        rw goes (by_messages HasFrames (message_of HasFrames frames_stay) (with_message d m ms) (one_more d (datagram m)))

-- behind none, that of the stream that stands first goes
first_brings : (e : End) (d : Draft) → 1159 ≤ frame_room e → Untouched e d → BringsFirst e.streams → HasFrames (with_stream_frames d)
first_brings e d room u b =
    let narrow : width_of b.id ≤ 8 = rw (length-shortest b.id) (varint_size_le b.id) in
    let bytes = u.bytes in
    let as_much = u.room in
    let goes = first_goes (left d) d.end.transport.send_fairness (left d) (no_stream_frames d) b.id b.half (omega arith) (omega arith) (ap (λ (s : StreamsState). first_queued s.sending.queue) u.streams ∙ b.first)
    (ap (λ (s : StreamsState). at s.sending.halves.live b.id) u.streams ∙ b.found) (b.counts (of_streams.stream_room (left d) (no_stream_frames d) b.id) (omega arith)) in
    let sent : Sent = of_streams.with_stream_frames d.end.transport.send_fairness (left d) (no_stream_frames d) in
    let all = length-append d.frames (map stream sent.frames) in
    let as_many : length (map stream sent.frames) ≡ length sent.frames = length-map sent.frames stream in
    omega arith

module _ (K : Streams → Type 0) (k : Spelling K) (c : Bringing K) where
  -- where something waits that counts, and isn't ACK_FREQUENCY, an entry is due
  any_waits : (t : Streams) → K t → is_empty t.pending t.state ≡ false → t.pending.ack_frequency ≡ false → any_of t.state t.pending control_kinds ≡ true
  any_waits t i waits unasked =
      let some = filled t.pending t.state waits unasked in
      listed (λ kind. any_due t.state (waiting kind t.pending)) some.0 (counts_due some.0 t.pending t.state (first_reset t.pending.reset_stream (c.resets t i)) some.1)
    where
      first_reset : (rs : List (ℕ × ℕ)) → ((r : ℕ × ℕ) → In r rs → is_some (reset_frame r (at t.state.sending.halves.live r.0)) ≡ true) → (r : ℕ × ℕ) → first_of rs ≡ Some r → is_due t.state (reset_entry r) ≡ true
      first_reset [] due r is = cc
      first_reset (x ∷ rs) due r is = due r (inl (let same : r ≡ x = cc in same))

  -- how far frames of control have come, of which none went: it is known of the streams that are
  -- left, and there is room
  record Waits (most : ℕ) (d : control.Draft) : Type 0 where
    streams : K (streams_of d.state d.pending)
    room : d.used + 54 ≤ most

  -- the first that is dropped, since it is no longer due, leaves it so
  waits_on : (most : ℕ) (kind : ControlKind) (d : control.Draft) → Waits most d → Waits most (first_dropped kind d)
  waits_on most kind d w = record { streams = k.drops (streams_of d.state d.pending) kind w.streams; room = w.room }

  -- of a list with one that is due, a frame goes
  listed_goes : (most : ℕ) (kind : ControlKind) (es : List Entry) (d : control.Draft) → waiting kind d.pending ≡ es → Waits most d → any_due d.state es ≡ true → 0 < length (with_listed kind most es d).frames
  listed_goes most kind [] d is w due = cc
  listed_goes most kind (e ∷ es) d is w due = go (e.frame d.state) refl due (λ x rest v on. listed_goes most kind es x rest v on)
    where
      More : Type 0
      More = (x : control.Draft) → waiting kind x.pending ≡ es → Waits most x → any_due x.state es ≡ true → 0 < length (with_listed kind most es x).frames

      go : (o : Option FrameValue) → e.frame d.state ≡ o → (is_some o || any_due d.state es) ≡ true → More → 0 < length (first_and_more o (with_listed kind most es) kind most d).frames
      go None there due more = more (first_dropped kind d) (others_wait kind d.pending e es is) (waits_on most kind d w) due
      go (Some f) there due more =
          let known = kinds.first_goes kind d.pending e es d.state f is there in
          let fits = (k.control (streams_of d.state d.pending) kind f known w.streams).0 in
          let short = control_short f (control_of f kind known.of_kind) fits in
          let room = w.room in
          let within : nat_le (d.used + frame_size f) most ≡ true = le-leb (d.used + frame_size f) most (omega arith) in
          rw within (listed_more kind most es (first_sent kind f d) (one_sent kind f d))

  -- all of a kind was dropped, and nothing else changed
  record Dropped (most : ℕ) (kind : ControlKind) (d x : control.Draft) : Type 0 where
    state : x.state ≡ d.state
    others : (other : ControlKind) → (place kind == place other) ≡ false → waiting other x.pending ≡ waiting other d.pending
    waits : Waits most x

  -- of a list with none that is due, all is dropped
  listed_dropped : (most : ℕ) (kind : ControlKind) (es : List Entry) (d : control.Draft) → waiting kind d.pending ≡ es → Waits most d → any_due d.state es ≡ false → Dropped most kind d (with_listed kind most es d)
  listed_dropped most kind [] d is w none = record { state = refl; others = λ other apart. refl; waits = w }
  listed_dropped most kind (e ∷ es) d is w none = go (e.frame d.state) none (λ x rest v off. listed_dropped most kind es x rest v off)
    where
      More : Type 0
      More = (x : control.Draft) → waiting kind x.pending ≡ es → Waits most x → any_due x.state es ≡ false → Dropped most kind x (with_listed kind most es x)

      go : (o : Option FrameValue) → (is_some o || any_due d.state es) ≡ false → More → Dropped most kind d (first_and_more o (with_listed kind most es) kind most d)
      go None none more =
          let behind = more (first_dropped kind d) (others_wait kind d.pending e es is) (waits_on most kind d w) none in
          record { state = behind.state; others = λ other apart. behind.others other apart ∙ others_same kind other d.pending apart; waits = behind.waits }
      go (Some f) none more = cc

  -- what waits of kinds stays where another kind is dropped
  any_same : (most : ℕ) (kind : ControlKind) (d x : control.Draft) → Dropped most kind d x → (kinds : List ControlKind) → is_apart kind kinds ≡ true → any_of x.state x.pending kinds ≡ any_of d.state d.pending kinds
  any_same most kind d x dropped [] apart = refl
  any_same most kind d x dropped (other ∷ kinds) apart =
      let both = and_parts (not (place kind == place other)) (is_apart kind kinds) apart in
      let rest = any_same most kind d x dropped kinds both.1 in
      let here : any_due x.state (waiting other x.pending) ≡ any_due d.state (waiting other d.pending) =
      ap (λ (es : List Entry). any_due x.state es) (dropped.others other (not-true (place kind == place other) both.0)) ∙ ap (λ (s : StreamsState). any_due s (waiting other d.pending)) dropped.state in
      rw (here, rest) refl

  -- of kinds with one that is due, a frame goes
  kinds_go : (most : ℕ) (kinds : List ControlKind) (d : control.Draft) → are_apart kinds ≡ true → Waits most d → any_of d.state d.pending kinds ≡ true → 0 < length (fold (with_kind most) d kinds).frames
  kinds_go most [] d apart w due = cc
  kinds_go most (kind ∷ kinds) d apart w due = go (any_due d.state (waiting kind d.pending)) refl due (λ x v on. kinds_go most kinds x each.1 v on)
    where
      each : (is_apart kind kinds ≡ true) × (are_apart kinds ≡ true)
      each = and_parts (is_apart kind kinds) (are_apart kinds) apart

      go : (b : Bool) → any_due d.state (waiting kind d.pending) ≡ b → (b || any_of d.state d.pending kinds) ≡ true → ((x : control.Draft) → Waits most x → any_of x.state x.pending kinds ≡ true → 0 < length (fold (with_kind most) x kinds).frames)
          → 0 < length (fold (with_kind most) (with_kind most d kind) kinds).frames
      go true here due more = kinds_more most kinds (with_kind most d kind) (listed_goes most kind (waiting kind d.pending) d refl w here)
      go false here due more =
          let dropped = listed_dropped most kind (waiting kind d.pending) d refl w here in
          more (with_kind most d kind) dropped.waits (any_same most kind d (with_kind most d kind) dropped kinds each.0 ∙ due)

  -- ---- what is composed

  -- where something waits beside the bytes of streams, and isn't ACK_FREQUENCY, a frame of control
  -- goes behind a draft that leaves room for one
  pub control_goes : (d : Draft) → length d.bytes + 54 ≤ frame_room d.end → K (streams_at d.end) → is_empty d.end.waiting.frames d.end.streams ≡ false → d.end.waiting.frames.ack_frequency ≡ false
      → 0 < length (control.control_frames (frame_room d.end) (length d.bytes) d.end.streams d.end.waiting.frames nothing_waits).frames
  control_goes d room i waits unasked =
      kinds_go (frame_room d.end) control_kinds (control.no_frames (length d.bytes) d.end.streams d.end.waiting.frames nothing_waits) kinds_apart (record { streams = i; room = room }) (any_waits (streams_at d.end) i waits unasked)

  -- where something waits that asks, a frame goes
  pub asking_goes : (e : End) → 1159 ≤ frame_room e → K (streams_at e) → asks_to_go e ≡ true → HasFrames (with_asking (no_frames e))
  asking_goes e room i asks = signalled (signals_wait e.waiting.signals) refl asks
    where
      -- messages and frames of streams go behind others
      more : (d : Draft) → HasFrames d → HasFrames (with_stream_frames (with_message_frames d))
      more d some = by_streams HasFrames (half_of HasFrames frames_stay) (with_message_frames d) (by_messages HasFrames (message_of HasFrames frames_stay) d some)

      -- or else the oldest message goes
      told : HasFrames (with_control_frames (no_frames e)) ⊎ Untouched e (with_control_frames (no_frames e)) → message_waits e ≡ true → HasFrames (with_stream_frames (with_message_frames (with_control_frames (no_frames e))))
      told (inl some) on = more (with_control_frames (no_frames e)) some
      told (inr u) on = by_streams HasFrames (half_of HasFrames frames_stay) (with_message_frames (with_control_frames (no_frames e))) (message_brings e (with_control_frames (no_frames e)) u on)

      -- or else the first frame of a stream
      behind : HasFrames (with_message_frames (with_control_frames (no_frames e))) ⊎ Untouched e (with_message_frames (with_control_frames (no_frames e))) → BringsFirst e.streams
          → HasFrames (with_stream_frames (with_message_frames (with_control_frames (no_frames e))))
      behind (inl some) b = by_streams HasFrames (half_of HasFrames frames_stay) (with_message_frames (with_control_frames (no_frames e))) some
      behind (inr u) b = first_brings e (with_message_frames (with_control_frames (no_frames e))) room u b

      quiet : (not (is_empty e.waiting.frames e.streams) || (message_waits e || can_send_stream_data e.streams)) ≡ true → e.waiting.frames.ack_frequency ≡ false → HasFrames (with_stream_frames (with_message_frames (with_control_frames (no_frames e))))
      quiet on unasked = elim (or_cases (not (is_empty e.waiting.frames e.streams)) (message_waits e || can_send_stream_data e.streams) on) [
        | inl some ↦ more (with_control_frames (no_frames e)) (control_goes (no_frames e) (omega arith) i (not-true (is_empty e.waiting.frames e.streams) some) unasked)
        | inr others ↦ elim (or_cases (message_waits e) (can_send_stream_data e.streams) others) [
          | inl some ↦ told (touched_or_not e) some
          | inr some ↦ behind (untold_or_not e) (c.queued (streams_at e) i some)
        ]
      ]

      -- ACK_FREQUENCY goes behind signals
      behind_signals : (b : Bool) (d : Draft) → HasFrames d → HasFrames (request_if b d)
      behind_signals true d some = one_more d (ack_frequency (request_of d.end))
      behind_signals false d some = some

      -- or before all others, if it waits
      asked : (b : Bool) → e.waiting.frames.ack_frequency ≡ b → (not (is_empty e.waiting.frames e.streams) || (message_waits e || can_send_stream_data e.streams)) ≡ true → HasFrames (with_stream_frames (with_message_frames (with_control_frames (request_if b (no_frames e)))))
      asked true is on = (let d : Draft = with_request (no_frames e) in more (with_control_frames d) (by_entries HasFrames (drops_of HasFrames frames_stay) (entry_of HasFrames frames_stay) d (one_more (no_frames e) (ack_frequency (request_of e)))))
      asked false is on = quiet on is

      signalled : (b : Bool) → signals_wait e.waiting.signals ≡ b → (b || (not (is_empty e.waiting.frames e.streams) || (message_waits e || can_send_stream_data e.streams))) ≡ true → HasFrames (with_asking (no_frames e))
      signalled true some on =
          let d : Draft = with_signal_frames (no_frames e) in
          let x : Draft = with_frequency_frame d in
          more (with_control_frames x) (by_entries HasFrames (drops_of HasFrames frames_stay) (entry_of HasFrames frames_stay) x (behind_signals d.end.waiting.frames.ack_frequency d (by_some_signal HasFrames (λ x f left is. one_more x f) (no_frames e) some)))
      signalled false none on = subst (λ (x : Draft). HasFrames (with_stream_frames (with_message_frames (with_control_frames (with_frequency_frame x))))) (sym (no_signal (no_frames e) none)) (asked e.waiting.frames.ack_frequency refl on)

  -- where something waits, a frame goes
  pub composed_some : (e : End) → HasRoom e → K (streams_at e) → waits e ≡ true → HasFrames (composed e)
  composed_some e short i waiting = go (can_send e.acknowledging) waiting
    where
      late : (b : Bool) → HasFrames (with_asking (no_frames e)) → HasFrames (ack_if b (with_asking (no_frames e)))
      late true some = one_more (with_asking (no_frames e)) (ack (ack_of (with_asking (no_frames e)).end))
      late false some = some

      go : (b : Bool) → (b || asks_to_go e) ≡ true → HasFrames (composed_if b e)
      go true on = by_asking HasFrames frames_stay (with_ack (no_frames e)) (omega arith)
      go false on = late (ack_fits (with_asking (no_frames e))) (asking_goes e (room_most e short) i on)

  -- so what goes of an end that is ready has a form, and a frame
  spellable : (e : End) (now : ℕ) → (let g = ready_at e now in goes g ≡ true → Acks g.end.acknowledging g.end.marks.came → HasRoom g.end → K (streams_at g.end) → IsSpellable g)
  spellable e now some acks short i =
      let d = draft_spells K k g.leaving g.end (may_leave_at e now) (record { runs = acks.runs; small = acks.small; counts = acks.counts }) short i in
      record { spells = d.spells; some = go g.leaving refl some; within = d.within; least = left_least g.leaving (lazied_as g.leaving g.end) }
    where
      g : Ready
      g = ready_at e now

      go : (leaving : Leaving) → g.leaving ≡ leaving → goes_as leaving ≡ true → HasFrames (draft_as leaving g.end)
      go whole is on = composed_some (lazied g.end) short i (waits_lazied g.end (whole_waits e now is))
      go alone is on = omega arith
      go (probe size) is on = omega arith
      go (closing f) is on = omega arith
      go (nothing held) is on = cc

  -- at any moment
  pub spellable_next : (e : End) → Acks e.acknowledging e.marks.came → HasRoom e → ((now : ℕ) → K (streams_at (ready_at e now).end)) → (now : ℕ) → goes (ready_at e now) ≡ true → IsSpellable (ready_at e now)
  spellable_next e acks short i now waits =
      spellable e now waits (subst (λ (x : End). Acks x.acknowledging x.marks.came) (sym (ready_leaves e now)) (record { runs = acks.runs; small = acks.small; counts = acks.counts })) (ready_room e now short) (i now)
