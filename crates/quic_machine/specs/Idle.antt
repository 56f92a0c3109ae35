-- How long a connection is without a packet (RFC 9000, section 10.1).
use Rattle.std.proofs.Common.{◌≡◌, refl}
use Rattle.std.specs.Prelude.{ℕ, ◌+◌, ◌*◌, ◌==◌, ◌||◌, ◌&&◌, min, max, Bool, true, false, if◌then◌else◌, Option, Some, None}
use Rattle.quic_time.specs.Clocks.{saturated}
use Rattle.quic_parameters.specs.Parameters.{ParameterValues}
use Rattle.quic_config.specs.Transport.{TransportSettings, told_timeout}
use Rattle.quic_machine.specs.End.{End, three_timeouts, with_ping}

-- ---- the idle timeout

-- the lesser of two timeouts, of which 0 is none
abbrev pub lesser_timeout : ℕ → ℕ → ℕ
lesser_timeout own peer = if (own == 0) || (peer == 0) then max own peer else min own peer

-- so many milliseconds in nanoseconds; 0 is none
abbrev pub timeout_of : ℕ → Option ℕ
timeout_of millis = if millis == 0 then None else Some (saturated (millis * 1000000))

-- how long the connection may be without a packet: the lesser of what both ends told, if one told
-- of a timeout (section 18.2)
abbrev pub agreed_timeout : TransportSettings → ParameterValues → Option ℕ
agreed_timeout settings theirs = timeout_of (lesser_timeout (told_timeout settings.max_idle_timeout) theirs.max_idle_timeout)

-- when the idle timer expires, where it runs so long from here on, and three probe timeouts at
-- least; it stays as it was where there is no timeout
abbrev pub idle_moment : Option ℕ → End → Option ℕ
idle_moment None e = e.timers.idle
idle_moment (Some timeout) e = Some (saturated (e.closing.clock + max timeout (three_timeouts e)))

-- the end whose idle timer runs so
abbrev pub idle_for : Option ℕ → End → End
idle_for timeout e = record e { timers = record e.timers { idle = idle_moment timeout e } }

-- the idle timeout begins anew
abbrev pub idle_reset : End → End
idle_reset e = idle_for (agreed_timeout e.transport e.peer_params) e

-- ---- keep-alive (section 10.1.2)

-- the end with the timer of keep-alive set or stopped
abbrev pub with_keep_alive : End → Option ℕ → End
with_keep_alive e moment = record e { timers = record e.timers { keep_alive = moment } }

-- when it expires, where it runs so long from here on; it stays as it was where no keep-alive is
-- configured
abbrev pub alive_moment : Option ℕ → End → Option ℕ
alive_moment None e = e.timers.keep_alive
alive_moment (Some interval) e = Some (saturated (e.closing.clock + interval))

-- the end whose timer of keep-alive runs so
abbrev pub kept_alive_for : Option ℕ → End → End
kept_alive_for interval e = with_keep_alive e (alive_moment interval e)

-- the time without a packet begins anew behind which one is sent
abbrev pub keep_alive_reset : End → End
keep_alive_reset e = kept_alive_for e.transport.keep_alive_interval e

-- the timer of keep-alive expired or not: it is stopped then, and PING is to go
abbrev pub keep_alive_expired : Bool → End → End
keep_alive_expired true e = with_ping (with_keep_alive e None) true
keep_alive_expired false e = e

-- ---- packets

-- a packet was taken: both times begin anew, and the idle one does so again with the next packet
-- that is given and asks
abbrev pub packet_heard : End → End
packet_heard e = keep_alive_reset (idle_reset (record e { idle_armed = true }))

-- a packet asks that was given, and is the first such since one was taken, or since the end was
-- made
abbrev pub idle_reset_if : Bool → End → End
idle_reset_if true e = idle_reset (record e { idle_armed = false })
idle_reset_if false e = e

-- a packet was given that is no close, and asks or doesn't
abbrev pub packet_given : Bool → End → End
packet_given asks e = keep_alive_reset (idle_reset_if (asks && e.idle_armed) e)

-- it changes no more than timers, and whether the next one does so again
pub packet_given_leaves : (asks : Bool) (e : End) → packet_given asks e ≡ record e { timers = (packet_given asks e).timers; idle_armed = (packet_given asks e).idle_armed }
packet_given_leaves asks e = go (asks && e.idle_armed)
  where
    go : (b : Bool) → (let x = keep_alive_reset (idle_reset_if b e) in x ≡ record e { timers = x.timers; idle_armed = x.idle_armed })
    go true = refl
    go false = refl
