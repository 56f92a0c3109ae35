-- Streams are accepted in their order, and none is left where a call that accepts one finds none
-- (RFC 9000, section 2.1).
use Rattle.std.proofs.Common.{◌≡◌, ℕ, ◌+◌, ◌<◌, ◌≤◌, ◌⊎◌, inl, inr, Bool, true, false, Option, Some, None, refl, sym, ap, ◌∙◌, subst, arith}
use Rattle.std.specs.Prelude.{◌==◌, ◌&&◌, ◌||◌, not, nat_lt, if◌then◌else◌}
use Rattle.std.proofs.lemmas.Bool.{cases_eq, cond_both, ltb-true, ltb-false, and_parts, both_ways}
use Rattle.quic_wire_core.specs.declared.stream_id.Side.{Side}
use Rattle.quic_wire_core.specs.declared.stream_id.Side.TheVariants.{Client, Server}
use Rattle.quic_wire_core.specs.declared.stream_id.Dir.{Dir}
use Rattle.quic_wire_core.specs.declared.stream_id.Dir.TheVariants.{Bi, Uni}
use Rattle.quic_wire_core.specs.StreamId.{stream_id, side_bit, other_side, initiator_of, dir_of, index_of}
use Rattle.quic_wire_core.specs.StreamIdLaw.{stream_id_of_parts}
use Rattle.quic_wire.specs.Value.{StreamValue}
use Rattle.quic_parameters.specs.Parameters.{ParameterValues}
use Rattle.quic_streams_parts.specs.Table.{at}
use Rattle.quic_streams_parts.specs.Dirs.{of, more, is_own, is_two_way}
use Rattle.quic_streams_parts.specs.RecvHalf.{RecvHalf}
use Rattle.quic_streams_parts.specs.SendHalf.{SendHalf}
use Rattle.quic_streams_halves.specs.Halves.{status_from, has_place, is_done}
use Rattle.quic_streams_state.specs.declared.state.StreamsState.{StreamsState}
use Rattle.quic_streams_state.specs.State.{Opening, new_streams, after_set_params, is_opened, receives_on, receiving_status, sending_status, done_if}
use Rattle.quic_streams_state.specs.Opening.{accept_answer, after_accept, with_remote}
use Rattle.quic_streams_state.specs.Taking.{joined}
use Rattle.quic_streams_laws.specs.Keeping.{KeepsAll}
use Rattle.quic_streams_laws.specs.Keeping as changes
use Rattle.quic_streams_laws.specs.Kept.{IsKeptStatus, HoldsTaken}
use Rattle.quic_streams_laws.specs.Accepted.{HoldsAccepted}

-- none was accepted
pub accepted_new : (accepted : ℕ → Type 0) (side : Side) (uni bi send_window window stream_window : ℕ) → HoldsAccepted accepted (new_streams side uni bi send_window window stream_window)
accepted_new accepted side uni bi send_window window stream_window = record { each = λ dir index lt. absurd (none dir index lt) }
  where
    none : (dir : Dir) (index : ℕ) → index < of dir (new_streams side uni bi send_window window stream_window).opening.accepted → ⊥
    none Bi index lt = omega arith
    none Uni index lt = omega arith

-- the peer's first limits
pub accepted_set_params : (accepted : ℕ → Type 0) (s : StreamsState) (p : ParameterValues) → HoldsAccepted accepted s → HoldsAccepted accepted (after_set_params s p)
accepted_set_params accepted s p i = record { each = i.each }

-- ---- all words but one that accepts a stream

module _ (accepted : ℕ → Type 0) where
  done_accepted : (b : Bool) (id : ℕ) (s : StreamsState) → HoldsAccepted accepted s → HoldsAccepted accepted (done_if b id s)
  done_accepted true id s i = record { each = i.each }
  done_accepted false id s i = i

  joined_accepted : (s : StreamsState) (id : ℕ) (h : SendHalf) → HoldsAccepted accepted s → HoldsAccepted accepted (joined s id h)
  joined_accepted s id h i = cond_both h.blocked s _ (HoldsAccepted accepted) (λ e. i) (λ e. record { each = i.each })

  remote_accepted : (dir d : Dir) (n : ℕ) (o : Opening) → of d (with_remote dir n o).accepted ≡ of d o.accepted
  remote_accepted Bi d n o = refl
  remote_accepted Uni d n o = refl

  pub accepted_kept : KeepsAll (λ r id old new. Unit {0}) (λ s id old new. Unit {0}) (λ s id n old new. Unit {0}) (λ s dir. ⊥) (λ id. Unit {0}) (HoldsAccepted accepted)
  accepted_kept (changes.accepts dir) s none i = absurd none
  accepted_kept (changes.opens_theirs id) s may i = record { each = λ dir index lt. i.each dir index (subst (λ n. index < n) (remote_accepted (dir_of id) dir (index_of id + 1) s.opening) lt) }
  accepted_kept (changes.joins id h) s may i = joined_accepted s id h i
  accepted_kept (changes.ends_sending id h) s may i = done_accepted (not (is_own s.side id) && is_done (receiving_status s id)) id _ (record { each = i.each })
  accepted_kept (changes.ends_receiving id h) s may i = done_accepted (not (is_own s.side id) && (not (is_two_way (dir_of id)) || is_done (sending_status s id))) id _ (record { each = i.each })
  accepted_kept c s may i = record { each = i.each }

-- ---- a stream is accepted

-- what a call that accepts a stream answers and leaves, where one waits or doesn't
abbrev accepted_if : Bool → Side → Dir → Opening → Option ℕ × Opening
accepted_if b side dir o = if b then (Some (stream_id (other_side side) dir (of dir o.accepted)), record o { accepted = more dir o.accepted }) else (None, o)

-- which are accepted then: those that were, and the one that is answered
pub accepted_accept : (accepted now : ℕ → Type 0) (dir : Dir) (s : StreamsState) → ((id : ℕ) → accepted id → now id) → ((id : ℕ) → accept_answer dir s ≡ Some id → now id) → HoldsAccepted accepted s → HoldsAccepted now (after_accept dir s)
accepted_accept accepted now dir s was answers i = go (nat_lt (of dir s.opening.accepted) (of dir s.opening.remote)) answers
  where
    one_more : (kind d : Dir) (index : ℕ) → index < of d (more kind s.opening.accepted) → (index < of d s.opening.accepted) ⊎ ((d ≡ kind) × (index ≡ of kind s.opening.accepted))
    one_more Bi Bi index lt = elim (cases_eq index s.opening.accepted.bi) [ inl e ↦ inr (refl, e) | inr ne ↦ inl (omega arith) ]
    one_more Bi Uni index lt = inl lt
    one_more Uni Bi index lt = inl lt
    one_more Uni Uni index lt = elim (cases_eq index s.opening.accepted.uni) [ inl e ↦ inr (refl, e) | inr ne ↦ inl (omega arith) ]

    go : (b : Bool) → ((id : ℕ) → (accepted_if b s.side dir s.opening).0 ≡ Some id → now id)
        → HoldsAccepted now (record s { opening = (accepted_if b s.side dir s.opening).1 })
    go false answered = record { each = λ d index lt. was _ (i.each d index lt) }
    go true answered = record {
      each = λ d index lt. elim (one_more dir d index lt) [
        | inl below ↦ was _ (i.each d index below)
        | inr this ↦ subst (λ k. now (stream_id (other_side s.side) k index)) (sym this.0) (subst (λ n. now (stream_id (other_side s.side) dir n)) (sym this.1) (answered _ refl))
      ];
    }

-- ---- where none is left

-- a stream that this end doesn't open is of the other side
theirs : (side : Side) (id : ℕ) → is_own side id ≡ false → initiator_of id ≡ other_side side
theirs side id = go side (initiator_of id)
  where
    go : (side opener : Side) → (side_bit opener == side_bit side) ≡ false → opener ≡ other_side side
    go Client Client e = absurd (both_ways true e refl)
    go Client Server e = refl
    go Server Client e = refl
    go Server Server e = absurd (both_ways true e refl)

-- and its id is told by its kind and its place
pub peers_id : (side : Side) (id : ℕ) → is_own side id ≡ false → stream_id (other_side side) (dir_of id) (index_of id) ≡ id
peers_id side id not_own = ap (λ x. stream_id x (dir_of id) (index_of id)) (sym (theirs side id not_own)) ∙ stream_id_of_parts id

-- where none is found, each of the peer's streams of that kind that is opened was accepted
pub all_accepted : (accepted : ℕ → Type 0) (dir : Dir) (s : StreamsState) (id : ℕ) → accept_answer dir s ≡ None → dir_of id ≡ dir → is_own s.side id ≡ false → is_opened s id ≡ true → HoldsAccepted accepted s → accepted id
all_accepted accepted dir s id none kind not_own opened i =
    let all : of dir s.opening.remote ≤ of dir s.opening.accepted = go (nat_lt (of dir s.opening.accepted) (of dir s.opening.remote)) refl none in
    let below : nat_lt (index_of id) (of (dir_of id) s.opening.remote) ≡ true = subst (λ own. nat_lt (index_of id) (of (dir_of id) (if own then s.opening.own else s.opening.remote)) ≡ true) not_own opened in
    let lt : index_of id < of (dir_of id) s.opening.remote = ltb-true (index_of id) (of (dir_of id) s.opening.remote) below in
    let here : index_of id < of dir s.opening.remote = subst (λ d. index_of id < of d s.opening.remote) kind lt in
    let it : accepted (stream_id (other_side s.side) dir (index_of id)) = i.each dir (index_of id) (omega arith) in
    let whole : stream_id (other_side s.side) dir (index_of id) ≡ id = ap (λ d. stream_id (other_side s.side) d (index_of id)) (sym kind) ∙ peers_id s.side id not_own in
    subst accepted whole it
  where
    go : (b : Bool) → nat_lt (of dir s.opening.accepted) (of dir s.opening.remote) ≡ b → (accepted_if b s.side dir s.opening).0 ≡ None → of dir s.opening.remote ≤ of dir s.opening.accepted
    go true is e = cc
    go false is e = ltb-false (of dir s.opening.accepted) (of dir s.opening.remote) is

-- and the stream of each taken frame is opened
pub taken_opened : (taken : StreamValue → Type 0) (s : StreamsState) (f : StreamValue) → taken f → HoldsTaken taken s → is_opened s f.id ≡ true
taken_opened taken s f t k = go (at s.receiving.halves.live f.id) (receives_on s.side f.id && is_opened s f.id) (has_place s.side s.receiving.halves.places f.id) refl refl refl (k.each f.id)
  where
    both : (receives_on s.side f.id && is_opened s f.id) ≡ true → is_opened s f.id ≡ true
    both e = (and_parts (receives_on s.side f.id) (is_opened s f.id) e).1

    go : (o : Option RecvHalf) (m u : Bool) → at s.receiving.halves.live f.id ≡ o → (receives_on s.side f.id && is_opened s f.id) ≡ m → has_place s.side s.receiving.halves.places f.id ≡ u → IsKeptStatus taken f.id (status_from o m u) → is_opened s f.id ≡ true
    go (Some h) m u is may p x = both (k.shape.receiving.allowed f.id (k.shape.receiving.placed f.id h is))
    go None m true is may p x = both (k.shape.receiving.allowed f.id p)
    go None true false is may p none = absurd (none f t refl)
    go None false false is may p none = absurd (none f t refl)
