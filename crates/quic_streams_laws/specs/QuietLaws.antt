-- A fact that every small change keeps, however sending halves change, is left by each word about
-- what an end sends.
use Rattle.std.proofs.Common.{◌≡◌, ℕ, refl}
use Rattle.quic_wire_core.specs.declared.stream_id.Dir.{Dir}
use Rattle.quic_wire.specs.Value.{FrameValue, max_data, max_stream_data, max_streams, data_blocked, stream_data_blocked}
use Rattle.quic_streams_parts.specs.SendHalf.{SendHalf}
use Rattle.quic_streams_parts.specs.RecvHalf.{RecvHalf}
use Rattle.quic_streams_state.specs.declared.state.StreamsState.{StreamsState}
use Rattle.quic_streams_state.specs.State.{Receiving}
use Rattle.quic_streams_state.specs.Opening.{announced_count}
use Rattle.quic_streams_state.specs.Control.{Draft, data_told, limit_told, blocked_told, blocked_told_on, dir_named, frame_told, with_control_frames}
use Rattle.quic_streams_laws.specs.ControlWalk.{by_control}
use Rattle.quic_streams_laws.specs.Keeping.{KeepsWhere, KeepsAll}
use Rattle.quic_streams_laws.specs.Keeping as changes
use Rattle.quic_streams_laws.specs.KeepingLaws.{by_open, by_max_streams, by_write, by_write_chunks, by_finish, by_reset, by_set_priority, by_polled, by_stop_sending, by_max_data, by_max_stream_data, by_stream_acked, by_stream_lost, by_reset_acked, by_stream_frames, by_limit_told, by_blocked_told}
use Rattle.quic_streams_laws.specs.Quiet.{IsQuiet}

-- ---- a frame of control goes

-- what each limit that may be told leaves, and that one is used up, any frame leaves
pub by_tells : (P : StreamsState → Type 0) (s : StreamsState) → P s → P (record s { receiving = data_told s.receiving }) → ((id : ℕ) → P (record s { receiving = limit_told s.receiving id })) → ((dir : Dir) → P (record s { opening = announced_count dir s.opening }))
    → ((limit : ℕ) → P (record s { sending = blocked_told s.sending limit })) → ((id limit : ℕ) → P (record s { sending = blocked_told_on s.sending id limit })) → (f : FrameValue) → P (frame_told f s)
by_tells P s same all one counts blocked blocked_on (max_data limit) = all
by_tells P s same all one counts blocked blocked_on (max_stream_data f) = one f.id
by_tells P s same all one counts blocked blocked_on (max_streams f) = counts (dir_named f.one_way)
by_tells P s same all one counts blocked blocked_on (data_blocked limit) = blocked limit
by_tells P s same all one counts blocked blocked_on (stream_data_blocked f) = blocked_on f.id f.limit
by_tells P s same all one counts blocked blocked_on f = same

module _ {R : Receiving → ℕ → RecvHalf → RecvHalf → Type 0} {S : StreamsState → ℕ → SendHalf → SendHalf → Type 0} {W : StreamsState → ℕ → ℕ → SendHalf → SendHalf → Type 0} {A : StreamsState → Dir → Type 0} {F : ℕ → Type 0} {E : ℕ → SendHalf → Type 0}
    {L : StreamsState → ℕ → Type 0} (P : StreamsState → Type 0) (k : KeepsWhere R S W A F E L P) where
  -- once a frame of control went
  pub by_told : (f : FrameValue) (s : StreamsState) → P s → P (frame_told f s)
  by_told f s q = by_tells P s q (k changes.tells s tt q) (λ id. by_limit_told P k s id q) (λ dir. k (changes.tells_count dir) s tt q) (λ limit. k (changes.notes limit) s tt q) (λ id limit. by_blocked_told P k s id limit q) f

  pub by_control_frames : (most : ℕ) (d : Draft) → P d.state → P (with_control_frames most d).state
  by_control_frames most d q = by_control most (λ d. P d.state) (record {
    drops = λ d kind e es is due q. q;
    sends = λ d kind f is fits q. by_told f d.state q;
  }) d q

module _ {R : Receiving → ℕ → RecvHalf → RecvHalf → Type 0} {A : StreamsState → Dir → Type 0} (P : StreamsState → Type 0) (k : KeepsAll R (λ s id old new. Unit {0}) (λ s id n old new. Unit {0}) A (λ id. Unit {0}) P) where
  pub is_quiet : IsQuiet P
  is_quiet = record {
    opens = by_open P k;
    writes = λ is_open s p id bytes bounded q. by_write P k is_open s p id bytes bounded (λ n old new e on. tt) q;
    writes_chunks = λ is_open s p id chunks bounded q. by_write_chunks P k is_open s p id chunks bounded (λ n old new e on. tt) q;
    finishes = λ s id q. by_finish P k s id (λ h e r. tt) q;
    resets = λ s p id code q. by_reset P k s p id code (λ h e r. tt) q;
    sets_priority = λ s id priority q. by_set_priority P k s id priority (λ h e. tt) q;
    polls = λ s q. by_polled P k s q;
    stop_sending = λ s f q. by_stop_sending P k s f (λ h e. tt) q;
    max_data = λ s limit q. by_max_data P k s limit q;
    max_stream_data = λ s id limit q. by_max_stream_data P k s id limit (λ h e above. tt) q;
    max_streams = λ dir count s q. by_max_streams P k dir count s q;
    acked = λ s p m q. by_stream_acked P k s p m (λ h e free. tt) (λ h e free all. tt) q;
    lost = λ s m q. by_stream_lost P k s m (λ h e free. tt) q;
    reset_acked = λ s p id q. by_reset_acked P k s p id q;
    stream_frames = λ fair most d q. by_stream_frames P k fair most d (λ s id room h e q. tt) q;
    control_frames = by_control_frames P k;
  }
