-- Stream ids and their three parts: each tells the other.
use Rattle.std.specs.Prelude.{◌≡◌, ℕ, ◌/◌, ◌%◌, ◌<◌, ◌^◌, refl}
use Rattle.std.proofs.Common.{sym, ap, ◌∙◌, arith, ◌⊎◌, inl, inr}
use Rattle.std.proofs.lemmas.Bool.{cases_lt}
use Rattle.quic_wire_core.specs.declared.stream_id.Side.{Side}
use Rattle.quic_wire_core.specs.declared.stream_id.Side.TheVariants.{Client, Server}
use Rattle.quic_wire_core.specs.declared.stream_id.Dir.{Dir}
use Rattle.quic_wire_core.specs.declared.stream_id.Dir.TheVariants.{Bi, Uni}
use Rattle.quic_wire_core.specs.StreamId.{side_bit, dir_bit, stream_id, initiator_of, dir_of, index_of}

-- a side's bit is 0 or 1
side_bit_lt : (side : Side) → side_bit side < 2
side_bit_lt Client = omega arith
side_bit_lt Server = omega arith

-- and so is the bit of the directions
dir_bit_lt : (dir : Dir) → dir_bit dir < 2
dir_bit_lt Bi = omega arith
dir_bit_lt Uni = omega arith

-- the side that a lowest bit tells
side_told : (side : Side) (id : ℕ) → id % 2 ≡ side_bit side → initiator_of id ≡ side
side_told Client id e = rw e refl
side_told Server id e = rw e refl

-- the directions that a second bit tells
dir_told : (dir : Dir) (id : ℕ) → id / 2 % 2 ≡ dir_bit dir → dir_of id ≡ dir
dir_told Bi id e = rw e refl
dir_told Uni id e = rw e refl

-- An id gives back the side that it was made of.
pub initiator_of_stream_id : (side : Side) (dir : Dir) (index : ℕ) → initiator_of (stream_id side dir index) ≡ side
initiator_of_stream_id side dir index =
    let a = side_bit_lt side in
    side_told side (stream_id side dir index) (omega arith)

-- An id gives back the directions that it was made of.
pub dir_of_stream_id : (side : Side) (dir : Dir) (index : ℕ) → dir_of (stream_id side dir index) ≡ dir
dir_of_stream_id side dir index =
    let a = side_bit_lt side in
    let b = dir_bit_lt dir in
    dir_told dir (stream_id side dir index) (omega arith)

-- An id gives back the place that it was made of.
pub index_of_stream_id : (side : Side) (dir : Dir) (index : ℕ) → index_of (stream_id side dir index) ≡ index
index_of_stream_id side dir index =
    let a = side_bit_lt side in
    let b = dir_bit_lt dir in
    omega arith

-- Ids of places below 2 ^ 60 are below 2 ^ 62.
pub stream_id_bound : (side : Side) (dir : Dir) (index : ℕ) → index < 2 ^ 60 → stream_id side dir index < 2 ^ 62
stream_id_bound side dir index h =
    let a = side_bit_lt side in
    let b = dir_bit_lt dir in
    omega arith

-- a bit is 0 or 1
bit_cases : (n : ℕ) → (n % 2 ≡ 0) ⊎ (n % 2 ≡ 1)
bit_cases n = elim (cases_lt (n % 2) 1) [ inl a ↦ inl (omega arith) | inr a ↦ inr (omega arith) ]

-- the side of an id has its lowest bit
side_bit_of : (id : ℕ) → side_bit (initiator_of id) ≡ id % 2
side_bit_of id = elim (bit_cases id) [ inl e ↦ rw e refl | inr e ↦ rw e refl ]

-- and its directions have the second
dir_bit_of : (id : ℕ) → dir_bit (dir_of id) ≡ id / 2 % 2
dir_bit_of id = elim (bit_cases (id / 2)) [ inl e ↦ rw e refl | inr e ↦ rw e refl ]

-- An id is made of its three parts.
pub stream_id_of_parts : (id : ℕ) → stream_id (initiator_of id) (dir_of id) (index_of id) ≡ id
stream_id_of_parts id =
    let a = side_bit_of id in
    let b = dir_bit_of id in
    omega arith

-- The parts of two streams are equal.
pub record AreSameParts (side : Side) (dir : Dir) (index : ℕ) (side' : Side) (dir' : Dir) (index' : ℕ) : Type 0 where
  pub sides : side ≡ side'
  pub dirs : dir ≡ dir'
  pub indices : index ≡ index'

-- Different parts make different ids.
pub same_parts : (side : Side) (dir : Dir) (index : ℕ) (side' : Side) (dir' : Dir) (index' : ℕ) → stream_id side dir index ≡ stream_id side' dir' index' → AreSameParts side dir index side' dir' index'
same_parts side dir index side' dir' index' e = record {
  sides = sym (initiator_of_stream_id side dir index) ∙ ap initiator_of e ∙ initiator_of_stream_id side' dir' index';
  dirs = sym (dir_of_stream_id side dir index) ∙ ap dir_of e ∙ dir_of_stream_id side' dir' index';
  indices = sym (index_of_stream_id side dir index) ∙ ap index_of e ∙ index_of_stream_id side' dir' index';
}
