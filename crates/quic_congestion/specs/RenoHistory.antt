-- What acknowledgements in a row are to NewReno (RFC 9002, sections 7.3.1 and 7.3.3).
use Rattle.std.specs.Prelude.{ℕ, zero, suc, ◌+◌, ◌<◌, ◌≤◌, true, false, List, [], ◌∷◌}
use Rattle.std.specs.List.{All}
use Rattle.quic_congestion.specs.Congestion.{Told, Sent, Acked, AcksEnded, Congested, Resized}
use Rattle.quic_congestion.specs.NewReno.{Reno}

-- a call is an acknowledgement of a packet sent after recovery began, where the window was used up
abbrev pub Counts : ℕ → Told → Type 0
Counts recovery (Sent now bytes last) = ⊥
Counts recovery (Acked now sent bytes true rtt) = ⊥
Counts recovery (Acked now sent bytes false rtt) = recovery < sent
Counts recovery (AcksEnded now in_flight app_limited largest) = ⊥
Counts recovery (Congested now sent persistent lost) = ⊥
Counts recovery (Resized size) = ⊥

-- each call is such an acknowledgement; none of them moves the moment when recovery began
abbrev pub AllCount : Reno → List Told → Type 0
AllCount r calls = All (Counts r.recovery) calls

-- the bytes that a call acknowledges
abbrev pub bytes_told : Told → ℕ
bytes_told (Sent now bytes last) = 0
bytes_told (Acked now sent bytes app_limited rtt) = bytes
bytes_told (AcksEnded now in_flight app_limited largest) = 0
bytes_told (Congested now sent persistent lost) = 0
bytes_told (Resized size) = 0

-- the bytes that calls acknowledge
abbrev pub acked_bytes : List Told → ℕ
acked_bytes [] = 0
acked_bytes (call ∷ calls) = bytes_told call + acked_bytes calls

-- no call acknowledges more bytes than these
abbrev pub AreWithin : ℕ → List Told → Type 0
AreWithin most calls = All (λ call. bytes_told call ≤ most) calls

-- the bytes of so many windows in a row, each one datagram greater than the one before
abbrev pub windows_sum : ℕ → ℕ → ℕ → ℕ
windows_sum zero window size = 0
windows_sum (suc k) window size = window + windows_sum k (window + size) size
