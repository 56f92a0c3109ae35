-- Stream ids: who opened the stream, whether it runs one way or both, and its place among those
-- (RFC 9000, section 2.1).
use Rattle.std.specs.Prelude.{ℕ, ◌+◌, ◌*◌, ◌/◌, ◌%◌, ◌==◌, List, [], ◌∷◌, ◌++◌, if◌then◌else◌, codes, decimal}
use Rattle.quic_wire_core.specs.declared.stream_id.Side.{Side}
use Rattle.quic_wire_core.specs.declared.stream_id.Side.TheVariants.{Client, Server}
use Rattle.quic_wire_core.specs.declared.stream_id.Dir.{Dir}
use Rattle.quic_wire_core.specs.declared.stream_id.Dir.TheVariants.{Bi, Uni}

-- The lowest bit of an id: 0 for streams that the client opens, 1 for those of the server (RFC
-- 9000, section 2.1).
abbrev pub side_bit : Side → ℕ
side_bit Client = 0
side_bit Server = 1

-- The second bit of an id: 0 for two ways, 1 for one way (RFC 9000, section 2.1).
abbrev pub dir_bit : Dir → ℕ
dir_bit Bi = 0
dir_bit Uni = 1

-- The id of the stream that this side opens in these directions, at this place among those (RFC
-- 9000, section 2.1).
abbrev pub stream_id : Side → Dir → ℕ → ℕ
stream_id side dir index = 4 * index + 2 * dir_bit dir + side_bit side

-- The side that opens the stream.
abbrev pub initiator_of : ℕ → Side
initiator_of id = if id % 2 == 0 then Client else Server

-- Whether the stream runs two ways or one.
abbrev pub dir_of : ℕ → Dir
dir_of id = if id / 2 % 2 == 0 then Bi else Uni

-- The place of the stream among those of its side and directions.
abbrev pub index_of : ℕ → ℕ
index_of id = id / 4

-- The side at the other end of the connection.
abbrev pub other_side : Side → Side
other_side Client = Server
other_side Server = Client

-- The other kind of directions.
abbrev pub other_dir : Dir → Dir
other_dir Bi = Uni
other_dir Uni = Bi

-- Both sides, the client first.
abbrev pub all_sides : List Side
all_sides = Client ∷ Server ∷ []

-- Both kinds of directions, two ways first.
abbrev pub all_dirs : List Dir
all_dirs = Bi ∷ Uni ∷ []

-- What is printed of a side.
abbrev pub side_text : Side → List ℕ
side_text Client = codes "client"
side_text Server = codes "server"

-- What is printed of directions.
abbrev pub dir_text : Dir → List ℕ
dir_text Bi = codes "bidirectional"
dir_text Uni = codes "unidirectional"

-- What is printed of an id, as `client bidirectional stream 0`.
abbrev pub stream_text : ℕ → List ℕ
stream_text id = side_text (initiator_of id) ++ (codes " " ++ (dir_text (dir_of id) ++ (codes " stream " ++ decimal (index_of id))))
