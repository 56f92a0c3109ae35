-- What is true of all streams at the start, and once the peer's first limits are known.
use Rattle.std.proofs.Common.{◌≡◌, ℕ, zero, suc, ◌≤◌, Bool, true, false, None, refl, sym, ◌∙◌, arith}
use Rattle.std.specs.Prelude.{◌&&◌, if◌then◌else◌}
use Rattle.std.specs.List.Sorted.{IsStrictlySortedBy}
use Rattle.std.proofs.lemmas.Bool.{both_ways}
use Rattle.quic_wire_core.specs.declared.stream_id.Side.{Side}
use Rattle.quic_wire_core.specs.declared.stream_id.Dir.{Dir}
use Rattle.quic_wire_core.specs.declared.stream_id.Dir.TheVariants.{Bi, Uni}
use Rattle.quic_wire_core.specs.StreamId.{dir_of, index_of}
use Rattle.quic_parameters.specs.Parameters.{ParameterValues}
use Rattle.quic_sets.specs.Offsets.{has}
use Rattle.quic_streams_parts.specs.Dirs.{of, is_own}
use Rattle.quic_streams_parts.specs.RecvHalf.{RecvHalf, greatest_offset, credit}
use Rattle.quic_streams_parts.specs.SendHalf.{written_on}
use Rattle.quic_streams_halves.specs.Halves.{no_halves, no_places, has_place}
use Rattle.quic_streams_state.specs.declared.state.StreamsState.{StreamsState}
use Rattle.quic_streams_state.specs.State.{new_streams, after_set_params, sends_on, receives_on, is_opened}
use Rattle.quic_streams_state.specs.Limits.{most_streams, raised_count}
use Rattle.quic_streams_laws.specs.Shape.{AreHalves, IsShaped}
use Rattle.quic_streams_laws.specs.Queued.{IsOrderly, IsBlockedRight}
use Rattle.quic_streams_laws.specs.Few.{AreFew}
use Rattle.quic_streams_laws.specs.Limited.{IsLimited}
use Rattle.quic_streams_laws.specs.Summed.{sum_below, amount_of, written_in, seen_in, consumed_in, IsWritten, IsSeen}
use Rattle.quic_streams_laws.specs.SummedLaws.{sum_same}

-- no stream has a place
pub nowhere : (side : Side) (id : ℕ) → has_place side no_places id ≡ true → ⊥
nowhere side id = go (is_own side id) (dir_of id)
  where
    go : (b : Bool) (d : Dir) → has (of d (if b then no_places.own else no_places.remote)) (index_of id) ≡ true → ⊥
    go true Bi e = both_ways false refl e
    go true Uni e = both_ways false refl e
    go false Bi e = both_ways false refl e
    go false Uni e = both_ways false refl e

no_half : {A : Type 0} (side : Side) (may : ℕ → Bool) → AreHalves {A = A} side may no_halves
unfolding IsStrictlySortedBy
no_half side may = record { sorted = tt; runs = record { own_bi = tt; own_uni = tt; remote_bi = tt; remote_uni = tt }; placed = λ id a e. cc; allowed = λ id e. absurd (nowhere side id e) }

module _ (side : Side) (uni bi send_window window stream_window : ℕ) where
  abbrev start : StreamsState
  start = new_streams side uni bi send_window window stream_window

  pub shape_new : IsShaped start
  shape_new = record { sending = no_half side (λ id. sends_on side id && is_opened start id); receiving = no_half side (λ id. receives_on side id && is_opened start id) }

  pub queue_new : IsOrderly start
  unfolding IsStrictlySortedBy
  queue_new = record { shape = shape_new; queue = record { stand = record { sorted = tt; earlier = record { earlier = tt }; stands = λ id p e. cc; placed = λ id p e. cc }; pending = λ id h e. cc } }

  pub blocked_new : IsBlockedRight start
  blocked_new = record { shape = shape_new; blocked = record { once = tt; told = λ id h e. cc; used = λ id e. absurd (both_ways false refl e) } }

  pub few_new : AreFew start
  few_new = record { own = go; own_limit = zeros; remote = zeros; accepted = go }
    where
      go : (d : Dir) → of d start.opening.own ≤ of d start.opening.own_limit
      go Bi = omega arith
      go Uni = omega arith

      zeros : (d : Dir) → of d start.opening.own ≤ most_streams
      zeros Bi = omega arith
      zeros Uni = omega arith

  -- where the windows are offsets
  pub limits_new : window ≤ greatest_offset → stream_window ≤ greatest_offset → IsLimited start
  limits_new small stream_small = record {
    shape = shape_new;
    limits = record { accepted = omega arith; written = λ id h e. cc; announced = omega arith; seen = omega arith; halves = λ id h e. cc; window = stream_small; counts = go };
  }
    where
      go : (d : Dir) → of d start.opening.announced ≤ raised_count d start.opening
      go Bi = omega arith
      go Uni = omega arith

  -- nothing is summed
  sum_none : (n : ℕ) → sum_below n (λ j. 0) ≡ 0
  unfolding sum_below
  sum_none zero = refl
  sum_none (suc n) = let a = sum_none n in omega arith

  nothing : {A : Type 0} (f : A → ℕ) (b : Bool) → amount_of f 0 None b ≡ 0
  nothing f true = refl
  nothing f false = refl

  pub written_new : (n : ℕ) → IsWritten n (λ j. 0) start
  written_new n = record {
    shape = shape_new;
    few = few_new;
    final = λ j. 0;
    accepted = sym (sum_same n (λ j. 0) (written_in (λ j. 0) start) (λ j lt. nothing (λ h. written_on h) (has_place side no_places j)) ∙ sum_none n);
    more = λ j. omega arith;
  }

  pub seen_new : (n : ℕ) → window ≤ greatest_offset → stream_window ≤ greatest_offset → IsSeen n (λ j. 0) (λ j. 0) start
  seen_new n small stream_small = record {
    limits = limits_new small stream_small;
    few = few_new;
    final = λ j. 0;
    seen = sym (sum_same n (λ j. 0) (seen_in (λ j. 0) start) (λ j lt. nothing (λ (h : RecvHalf). h.seen) (has_place side no_places j)) ∙ sum_none n);
    consumed = sym (sum_same n (λ j. 0) (consumed_in (λ j. 0) start) (λ j lt. nothing (λ h. credit h) (has_place side no_places j)) ∙ sum_none n);
    more_seen = λ j. omega arith;
    more_consumed = λ j. omega arith;
  }

-- ---- the peer's first limits

module _ (s : StreamsState) (p : ParameterValues) where
  pub shape_set_params : IsShaped s → IsShaped (after_set_params s p)
  shape_set_params i = record { sending = i.sending; receiving = i.receiving }

  pub queue_set_params : IsOrderly s → IsOrderly (after_set_params s p)
  queue_set_params i = record { shape = shape_set_params i.shape; queue = record { stand = i.queue.stand; pending = i.queue.pending } }

  pub blocked_set_params : IsBlockedRight s → IsBlockedRight (after_set_params s p)
  blocked_set_params i = record { shape = shape_set_params i.shape; blocked = record { once = i.blocked.once; told = i.blocked.told; used = i.blocked.used } }

  -- this end opened no stream before
  pub few_set_params : (own : (dir : Dir) → of dir s.opening.own ≡ 0) → p.initial_max_streams_bidi ≤ most_streams → p.initial_max_streams_uni ≤ most_streams → AreFew s → AreFew (after_set_params s p)
  few_set_params own bi uni i = record { own = λ d. (let none : of d s.opening.own ≡ 0 = own d in omega arith); own_limit = go; remote = i.remote; accepted = i.accepted }
    where
      go : (d : Dir) → of d (after_set_params s p).opening.own_limit ≤ most_streams
      go Bi = bi
      go Uni = uni

  -- no more was accepted before than may come
  pub limits_set_params : s.sending.accepted ≤ p.initial_max_data → IsLimited s → IsLimited (after_set_params s p)
  limits_set_params le i = record {
    shape = shape_set_params i.shape;
    limits = record { accepted = le; written = i.limits.written; announced = i.limits.announced; seen = i.limits.seen; halves = i.limits.halves; window = i.limits.window; counts = i.limits.counts };
  }

  pub written_set_params : (n : ℕ) (first : ℕ → ℕ) → AreFew (after_set_params s p) → IsWritten n first s → IsWritten n first (after_set_params s p)
  written_set_params n first few i = record { shape = shape_set_params i.shape; few = few; final = i.final; accepted = i.accepted; more = i.more }

  pub seen_set_params : (n : ℕ) (first_seen first_consumed : ℕ → ℕ) → AreFew (after_set_params s p) → s.sending.accepted ≤ p.initial_max_data → IsSeen n first_seen first_consumed s → IsSeen n first_seen first_consumed (after_set_params s p)
  seen_set_params n first_seen first_consumed few le i = record { limits = limits_set_params le i.limits; few = few; final = i.final; seen = i.seen; consumed = i.consumed; more_seen = i.more_seen; more_consumed = i.more_consumed }
