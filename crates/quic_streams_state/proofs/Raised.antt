-- What the peer's limit on one stream leaves.
use Rattle.std.proofs.Common.{◌≡◌, ℕ, ◌<◌, ◌≤◌, Bool, true, false, cond, List, Option, Some, None, [], ◌∷◌, refl, sym, ap, ◌∙◌, length, arith}
use Rattle.std.specs.Prelude.{nat_lt, ◌==◌, if◌then◌else◌}
use Rattle.std.proofs.lemmas.Bool.{lt-ltb}
use Rattle.quic_wire_core.specs.declared.stream_id.Side.{Side}
use Rattle.quic_streams_parts.specs.declared.answers.StreamEvent.TheVariants as stream_events
use Rattle.quic_streams_parts.specs.Events.{with_event}
use Rattle.quic_streams_parts.specs.Table.{at}
use Rattle.quic_streams_parts.specs.SendHalf.{SendHalf}
use Rattle.quic_streams_halves.specs.Halves.{Halves, with_half, changed}
use Rattle.quic_streams_state.specs.Parts.{Sending, room}
use Rattle.quic_streams_state.specs.State.{StreamsState, sending_half, with_send}
use Rattle.quic_streams_state.specs.Sends.{blocked_in, blocked_fresh}
use Rattle.quic_streams_state.specs.Taking.{limited_half, writable_again, limit_at, limit_raised, is_used_up, joined}
use Rattle.quic_streams_state.proofs.Tables.{with_half-twice, changed-with_half, sum-with_half, sum-fresh}

-- all streams together have as much room where a half keeps as many bytes, or comes into use with
-- none
pub room-kept : (s : StreamsState) (id : ℕ) (h w : SendHalf) → at s.sending.halves.live id ≡ Some h → length w.buffer.kept ≡ length h.buffer.kept → room (with_send s id w).sending ≡ room s.sending
room-kept s id h w found same = rw (sum-with_half (λ (h : SendHalf). length h.buffer.kept) s.side s.sending.halves id h w found same) refl

pub room-fresh : (s : StreamsState) (id : ℕ) (w : SendHalf) → at s.sending.halves.live id ≡ None → w.buffer.kept ≡ [] → room (with_send s id w).sending ≡ room s.sending
room-fresh s id w none empty = rw (sum-fresh (λ (h : SendHalf). length h.buffer.kept) s.side s.sending.halves id w none (ap length empty)) refl

-- a stream is the first of those that are blocked
abbrev pub block : StreamsState → ℕ → List ℕ → StreamsState
block t id blocked = record t { sending = record t.sending { blocked = id ∷ blocked } }

-- a half comes into use that takes bytes again: the connection leaves no room, or some
pub fresh_blocked : (s : StreamsState) (id : ℕ) (w : SendHalf) → at s.sending.halves.live id ≡ None → w.buffer.kept ≡ [] → w.blocked ≡ false → (room s.sending == 0) ≡ true → writable_again (with_send s id w) id w ≡ record s { sending = blocked_fresh w s.sending s.side id }
fresh_blocked s id w none empty free full =
    rw (room-fresh s id w none empty, full) (go w.blocked free)
  where
    wrong : true ≡ false → ⊥
    wrong e = cc

    go : (b : Bool) → b ≡ false → (if b then with_send s id w else block (with_send (with_send s id w) id (record w { blocked = true })) id s.sending.blocked) ≡ record s { sending = blocked_fresh w s.sending s.side id }
    go true e = absurd (wrong e)
    go false e = ap (λ (hs : Halves SendHalf). record s { sending = record s.sending { halves = hs; blocked = id ∷ s.sending.blocked } }) (with_half-twice s.side s.sending.halves id w (record w { blocked = true }))

pub fresh_told : (s : StreamsState) (id : ℕ) (w : SendHalf) → at s.sending.halves.live id ≡ None → w.buffer.kept ≡ [] → (room s.sending == 0) ≡ false → writable_again (with_send s id w) id w ≡ record s { sending = record s.sending { halves = with_half s.side s.sending.halves id w }; events = with_event (stream_events.Writable id) s.events }
fresh_told s id w none empty some =
    rw (room-fresh s id w none empty, some) refl

-- a half in use whose limit is raised
abbrev pub limited : StreamsState → ℕ → ℕ → StreamsState
limited s id limit = record s { sending = record s.sending { halves = changed (λ h. limited_half h limit) s.sending.halves id } }

-- a limit above the one before
pub limit_live : (s : StreamsState) (id : ℕ) (h : SendHalf) (limit : ℕ) → at s.sending.halves.live id ≡ Some h → h.limit < limit → limit_at (sending_half s id) s id limit ≡ limit_raised s id h limit
limit_live s id h limit found above =
    let in_use : sending_half s id ≡ Some h = rw found refl in
    ap (λ (o : Option SendHalf). limit_at o s id limit) in_use ∙ ap (λ (b : Bool). if b then limit_raised s id h limit else s) (lt-ltb h.limit limit above)

-- a half in use that took bytes before
pub plain_raised : (s : StreamsState) (id : ℕ) (h : SendHalf) (limit : ℕ) → at s.sending.halves.live id ≡ Some h → is_used_up h ≡ false → limited s id limit ≡ limit_raised s id h limit
plain_raised s id h limit found unused = rw (unused, found) refl

-- a half in use that took no bytes for want of its limit is noted before it is raised
pub noted_raised : (s : StreamsState) (id : ℕ) (h : SendHalf) (limit : ℕ) → at s.sending.halves.live id ≡ Some h → is_used_up h ≡ true → limited (writable_again s id h) id limit ≡ limit_raised s id h limit
noted_raised s id h limit found used =
    rw (used, room-kept s id h (limited_half h limit) found refl) (go (room s.sending == 0) h.blocked)
  where
    go : (full b : Bool) → limited (if full then (if b then s else block (with_send s id (record h { blocked = true })) id s.sending.blocked) else record s { events = with_event (stream_events.Writable id) s.events }) id limit
        ≡ (if full then (if b then with_send s id (limited_half h limit) else block (with_send (with_send s id (limited_half h limit)) id (record h { blocked = true; limit = limit })) id s.sending.blocked) else record (with_send s id (limited_half h limit)) { events = with_event (stream_events.Writable id) s.events })
    go true true = rw found refl
    go true false =
        ap (λ (hs : Halves SendHalf). record s { sending = record s.sending { halves = hs; blocked = id ∷ s.sending.blocked } })
        (changed-with_half (λ (v : SendHalf). limited_half v limit) s.side s.sending.halves id h (record h { blocked = true }) found ∙ sym (with_half-twice s.side s.sending.halves id (limited_half h limit) (record h { blocked = true; limit = limit })))
    go false b = rw found refl
