-- What is known of a frame that goes of what waits about streams: its kind, and what it says. Only
-- here is an entry's frame taken apart, kind by kind.
use Rattle.std.proofs.Common.{◌≡◌, ℕ, Bool, true, false, List, [], ◌∷◌, Option, Some, None, refl, ap, ◌∙◌, subst}
use Rattle.std.specs.Prelude.{if◌then◌else◌, map}
use Rattle.std.specs.Option.{option_map}
use Rattle.quic_wire_core.specs.declared.stream_id.Dir.{Dir}
use Rattle.quic_wire_core.specs.declared.stream_id.Dir.TheVariants.{Bi, Uni}
use Rattle.quic_wire.specs.Value.{FrameValue, handshake_done, reset_stream, stop_sending, max_data, max_stream_data, max_streams, data_blocked, stream_data_blocked, new_connection_id, retire_connection_id}
use Rattle.quic_wire.specs.FrameView.{is_one_way}
use Rattle.quic_streams_parts.specs.Dirs.{of}
use Rattle.quic_streams_parts.specs.Table.{at}
use Rattle.quic_streams_parts.specs.SendHalf.{SendHalf}
use Rattle.quic_streams_parts.specs.RecvHalf.{RecvHalf, takes_limits, raised_on}
use Rattle.quic_retransmits.specs.Retransmits.{Retransmits, first_of, others_of}
use Rattle.quic_retransmits.specs.declared.retransmits.ControlKind.{ControlKind}
use Rattle.quic_retransmits.specs.declared.retransmits.ControlKind.TheVariants.{HandshakeDone, ResetStream, StopSending, MaxData, MaxStreamData, MaxStreams, DataBlocked, StreamDataBlocked, NewConnectionId, RetireConnectionId}
use Rattle.quic_streams_state.specs.declared.state.StreamsState.{StreamsState}
use Rattle.quic_streams_state.specs.Limits.{raised_data, raised_count, can_send_data_blocked}
use Rattle.quic_streams_state.specs.Control.{stream_data_blocked_limit, Entry, done_entry, reset_frame, reset_entry, stop_entry, data_entry, limit_frame, limit_entry, count_entry, blocked_entry, stream_blocked_entry, new_id_entry, retire_entry, told_id, flagged, waiting, without_first, frame_of_first, kind_of, Goes}

-- ---- the first that waits

-- what is first stands before the others
pub first_others : {A : Type 0} (xs : List A) (x : A) → first_of xs ≡ Some x → xs ≡ x ∷ others_of xs
first_others [] x is = cc
first_others (y ∷ ys) x is = let same : y ≡ x = cc in ap (λ z. z ∷ ys) same

-- the first of a list that waits
listed_first : {A : Type 0} (entry : A → Entry) (xs : List A) (e : Entry) (es : List Entry) → map entry xs ≡ e ∷ es → (x : A) × (first_of xs ≡ Some x) × (entry x ≡ e)
listed_first entry [] e es is = absurd (nothing is)
  where
    nothing : [] ≡ e ∷ es → ⊥
    nothing is = cc
listed_first entry (x ∷ xs) e es is = (x, refl, same is)
  where
    same : entry x ∷ map entry xs ≡ e ∷ es → entry x ≡ e
    same is = cc

-- what waits where a flag is set
pub flag_first : (b : Bool) (entry e : Entry) (es : List Entry) → flagged b entry ≡ e ∷ es → entry ≡ e
flag_first true entry e es is = cc
flag_first false entry e es is = cc

-- ---- its frame

-- a frame is of a kind, and goes of what waits
abbrev GoesAs : Retransmits → StreamsState → ControlKind → FrameValue → Type 0
GoesAs p s kind f = (kind_of f ≡ Some kind) × Goes p s f

module _ (p : Retransmits) (s : StreamsState) (f : FrameValue) where
  -- one that is known
  known : (kind : ControlKind) (g : FrameValue) → GoesAs p s kind g → Some g ≡ Some f → GoesAs p s kind f
  known kind g goes due = let same : g ≡ f = cc in subst (GoesAs p s kind) same goes

  reset_goes : (r : ℕ × ℕ) → first_of p.reset_stream ≡ Some r → reset_frame r (at s.sending.halves.live r.0) ≡ Some f → GoesAs p s ResetStream f
  reset_goes r first due = go (at s.sending.halves.live r.0) refl due
    where
      sized : (h : SendHalf) → at s.sending.halves.live r.0 ≡ Some h → (o : Option ℕ) → h.reset ≡ o → option_map (λ size. reset_stream (record { id = r.0; code = r.1; final_size = size })) o ≡ Some f → GoesAs p s ResetStream f
      sized h here None is due = cc
      sized h here (Some size) is due = known ResetStream (reset_stream (record { id = r.0; code = r.1; final_size = size })) (refl, (h, first, here, is)) due

      go : (o : Option SendHalf) → at s.sending.halves.live r.0 ≡ o → reset_frame r o ≡ Some f → GoesAs p s ResetStream f
      go None here due = cc
      go (Some h) here due = sized h here h.reset refl due

  limit_goes : (id : ℕ) → first_of p.max_stream_data ≡ Some id → limit_frame s.receiving.stream_window id (at s.receiving.halves.live id) ≡ Some f → GoesAs p s MaxStreamData f
  limit_goes id first due = go (at s.receiving.halves.live id) refl due
    where
      taken : (h : RecvHalf) → at s.receiving.halves.live id ≡ Some h → (b : Bool) → (if b then Some (max_stream_data (record { id = id; limit = raised_on s.receiving.stream_window h })) else None) ≡ Some f → GoesAs p s MaxStreamData f
      taken h here true due = known MaxStreamData (max_stream_data (record { id = id; limit = raised_on s.receiving.stream_window h })) (refl, (h, first, here, refl)) due
      taken h here false due = cc

      go : (o : Option RecvHalf) → at s.receiving.halves.live id ≡ o → limit_frame s.receiving.stream_window id o ≡ Some f → GoesAs p s MaxStreamData f
      go None here due = cc
      go (Some h) here due = taken h here (takes_limits h) due

  count_goes : (dir : Dir) → Some (max_streams (record { one_way = is_one_way dir; count = raised_count dir s.opening })) ≡ Some f → GoesAs p s (MaxStreams dir) f
  count_goes Bi due = known (MaxStreams Bi) (max_streams (record { one_way = false; count = raised_count Bi s.opening })) (refl, refl) due
  count_goes Uni due = known (MaxStreams Uni) (max_streams (record { one_way = true; count = raised_count Uni s.opening })) (refl, refl) due

  blocked_goes : (b : Bool) → (if b then Some (data_blocked s.sending.limit) else None) ≡ Some f → GoesAs p s DataBlocked f
  blocked_goes true due = known DataBlocked (data_blocked s.sending.limit) (refl, refl) due
  blocked_goes false due = cc

  stream_blocked_goes : (id : ℕ) (o : Option ℕ) → stream_data_blocked_limit s id ≡ o → option_map (λ limit. stream_data_blocked (record { id = id; limit = limit })) o ≡ Some f → GoesAs p s StreamDataBlocked f
  stream_blocked_goes id None is due = cc
  stream_blocked_goes id (Some limit) is due = known StreamDataBlocked (stream_data_blocked (record { id = id; limit = limit })) (refl, is) due

  -- that of the first that waits of a kind is of that kind, and says what is so
  first_is : (kind : ControlKind) (e : Entry) (es : List Entry) → waiting kind p ≡ e ∷ es → e.frame s ≡ Some f → GoesAs p s kind f
  first_is HandshakeDone e es is due = known HandshakeDone handshake_done (refl, tt) (ap (λ (y : Entry). y.frame s) (flag_first p.handshake_done done_entry e es is) ∙ due)
  first_is ResetStream e es is due = let x = listed_first reset_entry p.reset_stream e es is in reset_goes x.0 x.1 (ap (λ (y : Entry). y.frame s) x.2 ∙ due)
  first_is StopSending e es is due = let x = listed_first stop_entry p.stop_sending e es is in known StopSending (stop_sending x.0) (refl, x.1) (ap (λ (y : Entry). y.frame s) x.2 ∙ due)
  first_is MaxData e es is due = known MaxData (max_data (raised_data s.receiving)) (refl, refl) (ap (λ (y : Entry). y.frame s) (flag_first p.max_data data_entry e es is) ∙ due)
  first_is MaxStreamData e es is due = let x = listed_first limit_entry p.max_stream_data e es is in limit_goes x.0 x.1 (ap (λ (y : Entry). y.frame s) x.2 ∙ due)
  first_is (MaxStreams dir) e es is due = count_goes dir (ap (λ (y : Entry). y.frame s) (flag_first (of dir p.max_stream_id) (count_entry dir) e es is) ∙ due)
  first_is DataBlocked e es is due = blocked_goes (can_send_data_blocked s) (ap (λ (y : Entry). y.frame s) (flag_first p.data_blocked blocked_entry e es is) ∙ due)
  first_is StreamDataBlocked e es is due = let x = listed_first stream_blocked_entry p.stream_data_blocked e es is in stream_blocked_goes x.0 (stream_data_blocked_limit s x.0) refl (ap (λ (y : Entry). y.frame s) x.2 ∙ due)
  first_is NewConnectionId e es is due = let x = listed_first new_id_entry p.new_cids e es is in known NewConnectionId (new_connection_id (told_id x.0)) (refl, (x.0, x.1, refl)) (ap (λ (y : Entry). y.frame s) x.2 ∙ due)
  first_is RetireConnectionId e es is due = let x = listed_first retire_entry p.retire_cids e es is in known RetireConnectionId (retire_connection_id x.0) (refl, x.1) (ap (λ (y : Entry). y.frame s) x.2 ∙ due)

-- a frame goes of what waits of a kind
pub record GoesFirst (kind : ControlKind) (p : Retransmits) (s : StreamsState) (f : FrameValue) : Type 0 where
  -- it is that of the first
  pub first : frame_of_first (waiting kind p) s ≡ Some f
  -- it is of that kind, and says what is so
  pub of_kind : kind_of f ≡ Some kind
  pub says : Goes p s f

-- so it is of the frame of the first
pub first_goes : (kind : ControlKind) (p : Retransmits) (e : Entry) (es : List Entry) (s : StreamsState) (f : FrameValue) → waiting kind p ≡ e ∷ es → e.frame s ≡ Some f → GoesFirst kind p s f
first_goes kind p e es s f is due =
    let known = first_is p s f kind e es is due in
    record { first = ap (λ (xs : List Entry). frame_of_first xs s) is ∙ due; of_kind = known.0; says = known.1 }

-- ---- what waits behind it

-- what waits once a frame of a kind went, or one of none: so a fact may be said of the frame alone,
-- by its own kind
abbrev pub without_of : Option ControlKind → Retransmits → Retransmits
without_of None p = p
without_of (Some kind) p = without_first kind p
