-- A frame of control that goes of streams which hold what was written on them has a form (RFC 9000,
-- sections 16 and 19).
use Rattle.std.proofs.Common.{◌≡◌, ℕ, ◌<◌, ◌^◌, Bool, true, false, ◌==◌, ◌&&◌, not, length, Option, Some, None, refl, sym, ◌∙◌, subst, arith}
use Rattle.std.specs.Prelude.{if◌then◌else◌}
use Rattle.std.specs.Option.{is_some, option_map}
use Rattle.std.proofs.lemmas.Bool.{and_parts}
use Rattle.quic_wire_core.specs.declared.shared.IssuedCid.{IssuedCid}
use Rattle.quic_wire.specs.Value.{FrameValue, StopSendingValue, NewConnectionIdValue, handshake_done, reset_stream, stop_sending, max_data, max_stream_data, max_streams, data_blocked, stream_data_blocked, new_connection_id, retire_connection_id}
use Rattle.quic_wire.specs.Writing.{Fits}
use Rattle.quic_streams_parts.specs.Table.{at}
use Rattle.quic_streams_parts.specs.SendHalf.{SendHalf, new_send_half, is_ready, written_on}
use Rattle.quic_streams_parts.specs.RecvHalf.{RecvHalf}
use Rattle.quic_retransmits.specs.Retransmits.{Retransmits, first_of}
use Rattle.quic_streams_halves.specs.Halves.{half_of, status_from, has_place}
use Rattle.quic_streams_state.specs.declared.state.StreamsState.{StreamsState}
use Rattle.quic_streams_state.specs.State.{is_opened, sends_on, receives_on, first_limit, sending_half}
use Rattle.quic_streams_state.specs.Control.{told_id, blocked_limit, Goes}
use Rattle.quic_streams_laws.specs.Few.{AreFew}
use Rattle.quic_streams_laws.specs.Queued.{IsOrderly}
use Rattle.quic_streams_laws.specs.SummedLaws.{opened_below}
use Rattle.quic_streams_laws.specs.Written.{Wrote, IsSendHalf, HoldsWritten}
use Rattle.quic_streams_laws.specs.WrittenLaws.{half_holds, live_holds}

-- streams hold what was written on them; the queue has those that have something to send; there are
-- few; and the limit on all has a form
pub record Holding (wrote : ℕ → Wrote) (s : StreamsState) : Type 0 where
  pub holds : HoldsWritten wrote s
  pub orderly : IsOrderly s
  pub few : AreFew s
  pub limit : s.sending.limit < 2 ^ 62

-- the size that a reset tells has a form
size_small : (w : Wrote) (h : SendHalf) → IsSendHalf w h → (size : ℕ) → h.reset ≡ Some size → size < 2 ^ 62
size_small w h i size is = go w.reset (sym is ∙ i.reset)
  where
    go : (o : Option ℕ) → Some size ≡ option_map (λ code. length w.bytes) o → size < 2 ^ 62
    go None same = cc
    go (Some code) same =
        let long : size ≡ length w.bytes = cc in
        let within = i.within in
        let limit = i.limit in
        omega arith

module _ (wrote : ℕ → Wrote) (s : StreamsState) (g : Holding wrote s) where
  -- a stream has a small id, where its sending half is in use
  pub sending_small : (id : ℕ) (h : SendHalf) → at s.sending.halves.live id ≡ Some h → id < 2 ^ 62
  sending_small id h is = opened_below s id g.few (and_parts (sends_on s.side id) (is_opened s id) (g.holds.shape.sending.allowed id (g.holds.shape.sending.placed id h is))).1

  -- or its receiving half is
  receiving_small : (id : ℕ) (h : RecvHalf) → at s.receiving.halves.live id ≡ Some h → id < 2 ^ 62
  receiving_small id h is = opened_below s id g.few (and_parts (receives_on s.side id) (is_opened s id) (g.holds.shape.receiving.allowed id (g.holds.shape.receiving.placed id h is))).1

  -- or something may be done on its sending half
  half_small : (id : ℕ) (h : SendHalf) → sending_half s id ≡ Some h → id < 2 ^ 62
  half_small id h e = go (at s.sending.halves.live id) (sends_on s.side id && is_opened s id) (has_place s.side s.sending.halves.places id) refl refl e
    where
      go : (o : Option SendHalf) (m u : Bool) → at s.sending.halves.live id ≡ o → (sends_on s.side id && is_opened s id) ≡ m → half_of (new_send_half (first_limit s id)) (status_from o m u) ≡ Some h → id < 2 ^ 62
      go (Some b) m u is may f = sending_small id b is
      go None true u is may f = opened_below s id g.few (and_parts (sends_on s.side id) (is_opened s id) may).1
      go None false u is may f = cc

  -- a limit that holds a stream back is small, and so is the stream's id
  blocked_small : (id limit : ℕ) (o : Option SendHalf) → sending_half s id ≡ o → blocked_limit o ≡ Some limit → (id < 2 ^ 62) × (limit < 2 ^ 62)
  blocked_small id limit None is due = cc
  blocked_small id limit (Some h) is due = used_up (is_ready h && not (is_some h.stopped) && (written_on h == h.limit)) due
    where
      used_up : (b : Bool) → (if b then Some h.limit else None) ≡ Some limit → (id < 2 ^ 62) × (limit < 2 ^ 62)
      used_up true due = let same : h.limit ≡ limit = cc in (half_small id h is, subst (λ n. n < 2 ^ 62) same (half_holds wrote s g.holds id h is).limit)
      used_up false due = cc

  -- a frame that goes has a form, where the first RESET_STREAM and the first STOP_SENDING that wait
  -- are small, and the first NEW_CONNECTION_ID and the first number to retire have one
  pub goes_fits : (p : Retransmits) → ((r : ℕ × ℕ) → first_of p.reset_stream ≡ Some r → r.1 < 2 ^ 62) → ((r : StopSendingValue) → first_of p.stop_sending ≡ Some r → (r.id < 2 ^ 62) × (r.code < 2 ^ 62))
      → ((cid : IssuedCid) → first_of p.new_cids ≡ Some cid → Fits (new_connection_id (told_id cid))) → ((n : ℕ) → first_of p.retire_cids ≡ Some n → n < 2 ^ 62) → (f : FrameValue) → Goes p s f → Fits f
  goes_fits p codes stops ids retired handshake_done goes = tt
  goes_fits p codes stops ids retired (reset_stream f) goes = (
    sending_small f.id goes.0 goes.2,
    (codes (f.id, f.code) goes.1, (size_small (wrote f.id) goes.0 (live_holds wrote s g.holds f.id goes.0 goes.2) f.final_size goes.3, tt)),
  )
  goes_fits p codes stops ids retired (stop_sending f) goes = let small = stops f goes in (small.0, (small.1, tt))
  goes_fits p codes stops ids retired (max_data limit) goes = (omega arith, tt)
  goes_fits p codes stops ids retired (max_stream_data f) goes = let is = goes.3 in (receiving_small f.id goes.0 goes.2, (omega arith, tt))
  goes_fits p codes stops ids retired (max_streams f) goes = (omega arith, tt)
  goes_fits p codes stops ids retired (data_blocked limit) goes = let small = g.limit in (omega arith, tt)
  goes_fits p codes stops ids retired (stream_data_blocked f) goes = let small = blocked_small f.id f.limit (sending_half s f.id) refl goes in (small.0, (small.1, tt))
  goes_fits p codes stops ids retired (new_connection_id f) goes = subst (λ (g : NewConnectionIdValue). Fits (new_connection_id g)) (sym goes.2) (ids goes.0 goes.1)
  goes_fits p codes stops ids retired (retire_connection_id n) goes = (retired n goes, tt)
  goes_fits p codes stops ids retired f goes = absurd goes
