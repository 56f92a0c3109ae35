-- The words of a script's line.
use Rattle.std.specs.Prelude.{ℕ, List, [], Option, Some, None, if◌then◌else◌, codes, nat_eq, ◌||◌, ◌==◌, length}
use Rattle.std.specs.Char.{is_ascii_uppercase}
use Rattle.std.specs.List.{list_any}
use Rattle.std.specs.Result.{result_ok}
use Rattle.hex.specs.Hex.{decode_of}
use Rattle.std.specs.Cmp.Lexicographic.{pointwise}
use Rattle.quic_wire_core.specs.declared.stream_id.Side.{Side}
use Rattle.quic_wire_core.specs.declared.stream_id.Side.TheVariants.{Client, Server}
use Rattle.quic_wire_core.specs.declared.stream_id.Dir.{Dir}
use Rattle.quic_wire_core.specs.declared.stream_id.Dir.TheVariants.{Bi, Uni}
use Rattle.quic_wire_core.specs.declared.shared.EcnCodepoint.{EcnCodepoint}
use Rattle.quic_wire_core.specs.declared.shared.EcnCodepoint.TheVariants.{Ect0, Ect1, Ce}
use Rattle.quic_time.specs.declared.timer.Timer.{Timer}
use Rattle.quic_time.specs.declared.timer.Timer.TheVariants.{LossDetection, Idle, Close, KeyDiscard, PathValidation, KeepAlive, Pacing, PushNewCid, MaxAckDelay}

-- the end that a word names
abbrev pub side_named : List ℕ → Option Side
side_named word =
    if pointwise nat_eq word (codes "c") then Some Client
    else (if pointwise nat_eq word (codes "s") then Some Server
    else None)

-- the kind of stream that a word names
abbrev pub dir_named : List ℕ → Option Dir
dir_named word =
    if pointwise nat_eq word (codes "bi") then Some Bi
    else (if pointwise nat_eq word (codes "uni") then Some Uni
    else None)

-- the mark that a word names, where `-` names none
abbrev pub mark_named : List ℕ → Option (Option EcnCodepoint)
mark_named word =
    if pointwise nat_eq word (codes "-") then Some None
    else (if pointwise nat_eq word (codes "ect0") then Some (Some Ect0)
    else (if pointwise nat_eq word (codes "ect1") then Some (Some Ect1)
    else (if pointwise nat_eq word (codes "ce") then Some (Some Ce)
    else None)))

-- the timer that a word names
abbrev pub timer_named : List ℕ → Option Timer
timer_named word =
    if pointwise nat_eq word (codes "lossdetection") then Some LossDetection
    else (if pointwise nat_eq word (codes "idle") then Some Idle
    else (if pointwise nat_eq word (codes "close") then Some Close
    else (if pointwise nat_eq word (codes "keydiscard") then Some KeyDiscard
    else (if pointwise nat_eq word (codes "pathvalidation") then Some PathValidation
    else (if pointwise nat_eq word (codes "keepalive") then Some KeepAlive
    else (if pointwise nat_eq word (codes "pacing") then Some Pacing
    else (if pointwise nat_eq word (codes "pushnewcid") then Some PushNewCid
    else (if pointwise nat_eq word (codes "maxackdelay") then Some MaxAckDelay
    else None))))))))

-- the bytes that a word names in lower-case hexadecimal, where `-` names none
abbrev pub bytes_named : List ℕ → Option (List ℕ)
bytes_named word =
    if pointwise nat_eq word (codes "-") then Some []
    else (if (length word == 0) || list_any is_ascii_uppercase word then None
    else result_ok (decode_of word))
