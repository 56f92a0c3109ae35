-- What an end composes says what was written on its streams, of which none that has bytes in it was
-- reset, and leaves them holding it.
use Rattle.std.proofs.Common.{ℕ, zero, suc, Bool, true, false, List, [], ◌∷◌, length, replicate, map, sym, subst, inl, inr, arith}
use Rattle.std.specs.List.{AllByRecursion}
use Rattle.quic_wire.specs.Value.{FrameValue, StreamValue, ping, immediate_ack, padding, stream, datagram, reset_stream, connection_close, application_close, path_challenge, path_response, ack_frequency}
use Rattle.quic_retransmits.specs.Retransmits.{nothing_waits}
use Rattle.quic_streams_state.specs.Control as control
use Rattle.quic_streams_state.specs.Frames as of_streams
use Rattle.quic_streams_laws.specs.ControlWalk.{by_control}
use Rattle.quic_streams_laws.specs.KeepingLaws.{by_stream_frames, polled_on}
use Rattle.quic_streams_laws.specs.QuietLaws.{by_control_frames}
use Rattle.quic_streams_laws.specs.Written.{Wrote, ResetSays, SaysSo}
use Rattle.quic_streams_laws.specs.WrittenFrames.{all_append, stream_frames_say}
use Rattle.quic_streams_laws.specs.WrittenHalves.{polled_holds}
use Rattle.quic_streams_laws.specs.WrittenResets.{TellsResets, control_frames_say}
use Rattle.quic_recovery_core.specs.PendingAcks.{can_send}
use Rattle.quic_machine.specs.End.{End, streams_at}
use Rattle.quic_machine.specs.Poll.{lazied, zeros_behind, Draft, frame_room, left, no_frames, no_stream_frames, with_signal_frames, with_ack, ack_if, ack_fits, with_control_frames, with_message_frames, with_stream_frames, Kind, signals, controls, messages, streams, order, put, with_asking, composed, composed_if, draft_as, probe, alone, whole, Leaving, nothing, closing, frequency, request_of}
use Rattle.quic_machine.specs.DraftLaws.{by_messages, MayLeave, IsClose, IsSignal, by_signals}
use Rattle.quic_machine.specs.PollCases.{frames_padded}
use Rattle.quic_headline.specs.Runs.{In}
use Rattle.quic_headline.proofs.Packets.Entries.{IsControl, control_of, by_request}
use Rattle.quic_headline.proofs.Packets.Kinds.{by_kinds}
use Rattle.quic_headline.proofs.Halves.Ghosts.{GoesOf}
use Rattle.quic_headline.proofs.Halves.Kept.{Keeping, keeping_kept}
use Rattle.quic_headline.proofs.Halves.Writes.{Writes, asked_writes}

-- ---- frames that go

-- one of a list of which all say so
all_in : (P : FrameValue → Type 0) (fs : List FrameValue) → AllByRecursion P fs → (f : FrameValue) → In f fs → P f
all_in P [] all f i = absurd i
all_in P (g ∷ fs) all f (inl is) = subst P (sym is) all.0
all_in P (g ∷ fs) all f (inr i) = all_in P fs all.1 f i

-- a frame of control says what RESET_STREAM does
control_says : (done : ℕ → Wrote) (f : FrameValue) → IsControl f → ResetSays done f → GoesOf done f
control_says done (stream f) is says = absurd is
control_says done (reset_stream f) is says = says
control_says done f is says = tt

controls_say : (done : ℕ → Wrote) (fs : List FrameValue) → AllByRecursion IsControl fs → AllByRecursion (ResetSays done) fs → AllByRecursion (GoesOf done) fs
controls_say done [] are say = tt
controls_say done (f ∷ fs) are say = (control_says done f are.0 say.0, controls_say done fs are.1 say.1)

-- a STREAM frame says what was written, and its stream wasn't reset
streams_say : (done : ℕ → Wrote) (fs : List StreamValue) → AllByRecursion (SaysSo done) fs → AllByRecursion (GoesOf done) (map stream fs)
streams_say done [] say = tt
streams_say done (f ∷ fs) say = (let s = say.0 in let written = s.says in (written.says, written.kept), streams_say done fs say.1)

-- PADDING says nothing
padding_says : (done : ℕ → Wrote) (count : ℕ) → AllByRecursion (GoesOf done) (replicate count padding)
padding_says done zero = tt
padding_says done (suc count) = (tt, padding_says done count)

-- what goes beside the bytes of streams is of control
controls_go : (most : ℕ) (d : control.Draft) → AllByRecursion IsControl d.frames → AllByRecursion IsControl (control.with_control_frames most d).frames
controls_go most d are = by_control most (λ (c : control.Draft). AllByRecursion IsControl c.frames) (record {
  drops = λ c kind e es is due all. all;
  sends = λ c kind f is fits all. all_append IsControl c.frames (f ∷ []) all (control_of f kind is.of_kind, tt);
}) d are

-- ---- drafts

-- the streams of a draft hold what was written, and its frames say so
pub record Draws (done : ℕ → Wrote) (d : Draft) : Type 0 where
  pub writes : Writes done (streams_at d.end)
  pub says : AllByRecursion (GoesOf done) d.frames

module _ (done : ℕ → Wrote) where
  signal_says : (f : FrameValue) → IsSignal f → GoesOf done f
  signal_says ping is = tt
  signal_says immediate_ack is = tt
  signal_says (path_challenge token) is = tt
  signal_says (path_response token) is = tt
  signal_says f is = absurd is

  signal_draws : (d : Draft) → Draws done d → Draws done (with_signal_frames d)
  signal_draws = by_signals (Draws done) (λ d f left is w. record { writes = w.writes; says = all_append (GoesOf done) d.frames (f ∷ []) w.says (signal_says f is, tt) })

  ack_draws : (d : Draft) → Draws done d → Draws done (with_ack d)
  ack_draws d w = record { writes = w.writes; says = all_append (GoesOf done) d.frames (_ ∷ []) w.says (tt, tt) }

  control_draws : (d : Draft) → Draws done d → Draws done (with_control_frames d)
  control_draws d w =
      let keeps = w.writes.keeps in
      let first : control.Draft = control.no_frames (length d.bytes) d.end.streams d.end.waiting.frames nothing_waits in
      let c : control.Draft = control.with_control_frames (frame_room d.end) first in
      let tells : TellsResets done c = control_frames_say done (frame_room d.end) first (record { holds = keeps.holds; waits = w.writes.waits; carries = tt; says = tt }) in
      record {
        writes = record { keeps = by_control_frames (Keeping done) (keeping_kept done) (frame_room d.end) first keeps; waits = tells.waits };
        says = all_append (GoesOf done) d.frames c.frames w.says (controls_say done c.frames (controls_go (frame_room d.end) first tt) tells.says);
      }

  stream_draws : (d : Draft) → Draws done d → Draws done (with_stream_frames d)
  stream_draws d w =
      let keeps = w.writes.keeps in
      let t : of_streams.Sent = of_streams.with_stream_frames d.end.transport.send_fairness (left d) (no_stream_frames d) in
      let say = stream_frames_say done d.end.transport.send_fairness (left d) (no_stream_frames d) keeps.holds keeps.few tt (omega arith) in
      record {
        writes = record {
          keeps = by_stream_frames (Keeping done) (keeping_kept done) d.end.transport.send_fairness (left d) (no_stream_frames d) (λ s id room h is q. (polled_on h room, λ x. polled_holds (done id) h x room)) keeps;
          waits = w.writes.waits;
        };
        says = all_append (GoesOf done) d.frames (map stream t.frames) w.says (streams_say done t.frames say.0);
      }

  message_draws : (d : Draft) → Draws done d → Draws done (with_message_frames d)
  message_draws = by_messages (Draws done) (λ d m ms is fit w. record { writes = w.writes; says = all_append (GoesOf done) d.frames (datagram m ∷ []) w.says (tt, tt) })

  kind_draws : (d : Draft) (kind : Kind) → Draws done d → Draws done (put d kind)
  kind_draws d signals w = signal_draws d w
  kind_draws d frequency w = by_request (Draws done) d (λ waits w. record { writes = asked_writes done false (streams_at d.end) w.writes; says = all_append (GoesOf done) d.frames (ack_frequency (request_of d.end) ∷ []) w.says (tt, tt) }) w
  kind_draws d controls w = control_draws d w
  kind_draws d messages w = message_draws d w
  kind_draws d streams w = stream_draws d w

  asking_draws : (d : Draft) → Draws done d → Draws done (with_asking d)
  asking_draws d w = by_kinds (Draws done) kind_draws order d w

  -- what goes into a datagram
  pub composed_draws : (e : End) → Writes done (streams_at e) → Draws done (composed e)
  composed_draws e w = go (can_send e.acknowledging)
    where
      first : Draws done (no_frames e)
      first = record { writes = w; says = tt }

      late : (d : Draft) (b : Bool) → Draws done d → Draws done (ack_if b d)
      late d true x = ack_draws d x
      late d false x = x

      go : (b : Bool) → Draws done (composed_if b e)
      go true = asking_draws (with_ack (no_frames e)) (ack_draws (no_frames e) first)
      go false = late (with_asking (no_frames e)) (ack_fits (with_asking (no_frames e))) (asking_draws (no_frames e) first)

  -- also where a due ACK, a probe of a size or a close goes alone
  pub draft_draws : (leaving : Leaving) (e : End) → MayLeave leaving e → Writes done (streams_at e) → Draws done (draft_as leaving e)
  draft_draws whole e may w = composed_draws (lazied e) w
  draft_draws alone e may w = ack_draws (no_frames (lazied e)) (record { writes = w; says = tt })
  draft_draws (probe size) e may w = record { writes = w; says = (tt, tt) }
  draft_draws (closing f) e may w = record { writes = w; says = (close_says f may.0, tt) }
    where
      close_says : (g : FrameValue) → IsClose g → GoesOf done g
      close_says (connection_close c) is = tt
      close_says (application_close c) is = tt
      close_says g is = absurd is
  draft_draws (nothing held) e may w = record { writes = w; says = tt }

  -- its frames say what was written, those of PADDING too
  pub padded_go : (d : Draft) → Draws done d → (f : FrameValue) → In f (frames_padded d) → GoesOf done f
  padded_go d w =
      let count : ℕ = zeros_behind d in
      all_in (GoesOf done) (frames_padded d) (all_append (GoesOf done) d.frames (replicate count padding) w.says (padding_says done count))
