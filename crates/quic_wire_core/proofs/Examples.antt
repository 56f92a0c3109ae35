-- The definitions computed at worked values.
use Rattle.std.proofs.Common.{◌≡◌, [], ◌∷◌, Some, refl}
use Rattle.quic_wire_core.specs.Varint.{varint_at, shortest}
use Rattle.quic_wire_core.specs.StreamId.{stream_id, initiator_of, dir_of, index_of}
use Rattle.quic_wire_core.specs.declared.stream_id.Side.TheVariants.{Client, Server}
use Rattle.quic_wire_core.specs.declared.stream_id.Dir.TheVariants.{Bi, Uni}

-- the samples of RFC 9000, appendix A.1
eight_bytes : varint_at (0xc2 ∷ 0x19 ∷ 0x7c ∷ 0x5e ∷ 0xff ∷ 0x14 ∷ 0xe8 ∷ 0x8c ∷ []) ≡ Some (151288809941952652, [])
eight_bytes = refl

four_bytes : varint_at (0x9d ∷ 0x7f ∷ 0x3e ∷ 0x7d ∷ []) ≡ Some (494878333, [])
four_bytes = refl

two_bytes : varint_at (0x7b ∷ 0xbd ∷ []) ≡ Some (15293, [])
two_bytes = refl

one_byte : varint_at (0x25 ∷ []) ≡ Some (37, [])
one_byte = refl

longer_than_needed : varint_at (0x40 ∷ 0x25 ∷ []) ≡ Some (37, [])
longer_than_needed = refl

-- the shortest forms of the same numbers
shortest_eight : shortest 151288809941952652 ≡ 0xc2 ∷ 0x19 ∷ 0x7c ∷ 0x5e ∷ 0xff ∷ 0x14 ∷ 0xe8 ∷ 0x8c ∷ []
shortest_eight = refl

shortest_four : shortest 494878333 ≡ 0x9d ∷ 0x7f ∷ 0x3e ∷ 0x7d ∷ []
shortest_four = refl

shortest_two : shortest 15293 ≡ 0x7b ∷ 0xbd ∷ []
shortest_two = refl

shortest_one : shortest 37 ≡ 0x25 ∷ []
shortest_one = refl

-- the third one-way stream of the server: 4 * 2 + 2 + 1
third_of_server : stream_id Server Uni 2 ≡ 11
third_of_server = refl

its_side : initiator_of 11 ≡ Server
its_side = refl

its_directions : dir_of 11 ≡ Uni
its_directions = refl

its_place : index_of 11 ≡ 2
its_place = refl

-- the first stream of the client
first_of_client : stream_id Client Bi 0 ≡ 0
first_of_client = refl
