-- What a congestion controller is told in a call, and the window that it shows behind it (RFC 9002,
-- section 7).
use Rattle.std.specs.Prelude.{◌≡◌, ℕ, ◌≤◌, List}
use Rattle.quic_congestion.specs.Congestion.{Told, Steps, HasRoom, after_calls}
use Rattle.quic_congestion.specs.Search.{Discovery, after_limit}
use Rattle.quic_congestion.specs.SearchBounds.{IsSized}
use Rattle.quic_paths.specs.Paths.{PathValue}
use Rattle.quic_machine.specs.Parts.{Windows}
use Rattle.quic_machine.specs.Heard.{Heard}
use Rattle.quic_machine.specs.End.{End, ConnectionValue, hearing, with_window}
use Rattle.quic_machine.specs.Migration.{repaced}
use Rattle.quic_machine.specs.Validation.{is_blocked, with_blocked}

-- the window with which a controller begins, and the one that it shows
abbrev pub windows_at : {C : Type 0} → (C → ℕ) → (C → ℕ) → C → Windows
windows_at initial window c = record { initial = initial c; present = window c }

-- the window that a controller shows once it was told these
abbrev pub windows_of : {C : Type 0} → Steps C → (C → ℕ) → C → List Told → ℕ
windows_of steps window c told = window (after_calls steps c told)

-- a connection whose controller is told these, and whose end is left so
abbrev pub telling : {H K R C : Type 0} → Steps C → ConnectionValue H K R C → List Told → End → ConnectionValue H K R C
telling steps w told e = record w { control = after_calls steps w.control told; end = e }

-- a connection that has counted this, whose controller is told these, and whose end is left so by a
-- datagram: where it has another path its pacer is made for that
abbrev pub taking : {H K R C : Type 0} → Steps C → (C → ℕ) → ConnectionValue H K R C → Heard → List Told → End → ConnectionValue H K R C
taking steps window w h told e = telling steps (hearing w h) told (repaced (windows_of steps window w.control told) w.end e)

-- the end of a connection that has read which window its controller shows, and whether three times
-- what came went to an address that isn't validated
abbrev pub reading : {H K R C : Type 0} → (C → ℕ) → ConnectionValue H K R C → End
reading window w = with_blocked (with_window w.end (window w.control)) (is_blocked w.end w.heard)

-- keys and random source stay
abbrev pub KeepsKeys : {H K R C : Type 0} → ConnectionValue H K R C → ConnectionValue H K R C → Type 0
KeepsKeys old new = new ≡ record old { control = new.control; heard = new.heard; end = new.end }

-- and so does what was counted
abbrev pub KeepsRest : {H K R C : Type 0} → ConnectionValue H K R C → ConnectionValue H K R C → Type 0
KeepsRest old new = new ≡ record old { control = new.control; end = new.end }

-- a controller was told a size of datagrams, two of which fit its window
pub record IsRoomy {C : Type 0} (size_of window_of : C → ℕ) (c : C) (bytes : ℕ) : Type 0 where
  pub size : size_of c ≡ bytes
  pub room : HasRoom bytes (window_of c)

-- a controller was told no less than a size of datagrams, and two of the size that it was told fit
-- its window
pub record IsTold {C : Type 0} (size_of window_of : C → ℕ) (bytes : ℕ) (c : C) : Type 0 where
  pub size : bytes ≤ size_of c
  pub room : HasRoom (size_of c) (window_of c)

-- What holds of the size of datagrams at an end, whatever the search for a greater one comes to: it
-- has 1200 bytes at least (RFC 9000, section 14), and its peer takes it; the controller was told no
-- less, and two of what it was told fit its window; and two datagrams fitted the window that was
-- read last.
pub record AreSizes {C : Type 0} (size_of window_of : C → ℕ) (limit : ℕ) (d : Discovery) (c : C) (shown : ℕ) : Type 0 where
  pub sized : IsSized 1200 limit d
  pub told : IsTold size_of window_of d.size c
  pub window : 2400 ≤ shown

-- a path to a peer that takes so many bytes in a datagram
abbrev pub path_limited : {C : Type 0} → ℕ → PathValue C → PathValue C
path_limited limit path = record path { discovery = after_limit limit path.discovery }
