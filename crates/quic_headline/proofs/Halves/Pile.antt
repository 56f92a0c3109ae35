-- RESET_STREAM and STOP_SENDING that wait or are under way: each stream's reset stands there once,
-- of a half in use that was reset, and all have a form.
use Rattle.std.proofs.Common.{◌≡◌, ℕ, ◌+◌, ◌<◌, ◌≤◌, ◌^◌, ◌==◌, Bool, true, false, cond, List, [], ◌∷◌, ◌++◌, filter, Option, refl, sym, ap, subst, inl, inr, arith}
use Rattle.std.specs.Prelude.{if◌then◌else◌, not}
use Rattle.std.proofs.lemmas.Bool.{eq-eqb}
use Rattle.quic_wire_core.specs.declared.shared.IssuedCid.{IssuedCid}
use Rattle.quic_wire.specs.Value.{FrameValue, StopSendingValue, reset_stream, stop_sending, new_connection_id, retire_connection_id}
use Rattle.quic_wire.specs.Writing.{Fits}
use Rattle.quic_streams_parts.specs.Table.{Table}
use Rattle.quic_streams_parts.specs.SendHalf.{SendHalf}
use Rattle.quic_retransmits.specs.Retransmits.{Retransmits, others_of}
use Rattle.quic_retransmits.specs.declared.retransmits.ControlKind.{ControlKind}
use Rattle.quic_retransmits.specs.declared.retransmits.ControlKind.TheVariants.{ResetStream, StopSending, NewConnectionId, RetireConnectionId}
use Rattle.quic_streams_state.specs.declared.state.StreamsState.{StreamsState}
use Rattle.quic_streams_state.specs.Control.{without_first, kind_of, told_id, Goes}
use Rattle.quic_streams_laws.specs.KindLaws.{GoesFirst, first_others, without_of}
use Rattle.quic_machine.specs.Tracking.{TrackedPacket}
use Rattle.quic_headline.specs.Runs.{In}
use Rattle.quic_headline.specs.InFlight.{resets_in, stops_in}
use Rattle.quic_headline.proofs.Packets.MayGo.{WasReset}
use Rattle.quic_headline.proofs.Places.Told.{in_left, in_right, in_append}

-- ---- how often a stream's reset stands in a list

-- one of these streams
abbrev pub times : ℕ → List (ℕ × ℕ) → ℕ
times id [] = 0
times id (r ∷ rs) = (if r.0 == id then 1 else 0) + times id rs

pub times_append : (id : ℕ) (rs more : List (ℕ × ℕ)) → times id (rs ++ more) ≡ times id rs + times id more
times_append id [] more = omega arith
times_append id (r ∷ rs) more =
    let rest = times_append id rs more in
    let one : ℕ = if r.0 == id then 1 else 0 in
    let sum : one + times id (rs ++ more) ≡ one + times id rs + times id more = omega arith in
    sum

-- what stands there stands there once at least
pub times_in : (r : ℕ × ℕ) (rs : List (ℕ × ℕ)) → In r rs → 1 ≤ times r.0 rs
times_in r [] i = absurd i
times_in r (q ∷ rs) (inl is) =
    let same : (q.0 == r.0) ≡ true = eq-eqb q.0 r.0 (ap (λ (x : ℕ × ℕ). x.0) (sym is)) in
    rw same (omega arith)
times_in r (q ∷ rs) (inr i) =
    let rest = times_in r rs i in
    let one : ℕ = if q.0 == r.0 then 1 else 0 in
    let sum : 1 ≤ one + times r.0 rs = omega arith in
    sum

-- ---- what waits and is under way

-- these resets and stops
pub record IsPile (live : Table SendHalf) (resets : List (ℕ × ℕ)) (stops : List StopSendingValue) : Type 0 where
  -- each stream's reset stands there once, and its half is in use
  pub once : (id : ℕ) → times id resets ≤ 1
  pub reset : (r : ℕ × ℕ) → In r resets → WasReset live r
  pub small : (s : StopSendingValue) → In s stops → (s.id < 2 ^ 62) × (s.code < 2 ^ 62)

-- some of a pile are one
pub part_of : (live : Table SendHalf) (resets some : List (ℕ × ℕ)) (stops few : List StopSendingValue) → ((id : ℕ) → times id some ≤ times id resets) → ((r : ℕ × ℕ) → In r some → In r resets) → ((s : StopSendingValue) → In s few → In s stops)
    → IsPile live resets stops → IsPile live some few
part_of live resets some stops few fewer among less p = record {
  once = λ id. (let most = p.once id in let fewer_here = fewer id in omega arith);
  reset = λ r i. p.reset r (among r i);
  small = λ s i. p.small s (less s i);
}

-- nothing waits whose frame has no form
pub record NothingElse (p : Retransmits) : Type 0 where
  pub ids : (cid : IssuedCid) → In cid p.new_cids → Fits (new_connection_id (told_id cid))
  pub retired : (n : ℕ) → In n p.retire_cids → n < 2 ^ 62

-- so it is of nothing at all
pub nothing_else : (p : Retransmits) → p.new_cids ≡ [] → p.retire_cids ≡ [] → NothingElse p
nothing_else p ids retired = record { ids = λ cid i. absurd (subst (In cid) ids i); retired = λ n i. absurd (subst (In n) retired i) }

-- the same resets and stops wait, the same of ids, and ACK_FREQUENCY and HANDSHAKE_DONE do or don't
-- as before
pub record SamePile (p q : Retransmits) : Type 0 where
  pub resets : q.reset_stream ≡ p.reset_stream
  pub stops : q.stop_sending ≡ p.stop_sending
  pub ids : q.new_cids ≡ p.new_cids
  pub retired : q.retire_cids ≡ p.retire_cids
  pub requests : q.ack_frequency ≡ p.ack_frequency
  pub done : q.handshake_done ≡ p.handshake_done

pub else_same : (p q : Retransmits) → SamePile p q → NothingElse p → NothingElse q
else_same p q same n = record { ids = λ cid i. n.ids cid (subst (In cid) same.ids i); retired = λ m i. n.retired m (subst (In m) same.retired i) }

-- ---- packets

-- the resets that packets carried
abbrev pub resets_of : Table TrackedPacket → List (ℕ × ℕ)
resets_of [] = []
resets_of (p ∷ ps) = p.1.carried.retransmits.reset_stream ++ resets_of ps

-- and the stops
abbrev pub stops_of : Table TrackedPacket → List StopSendingValue
stops_of [] = []
stops_of (p ∷ ps) = p.1.carried.retransmits.stop_sending ++ stops_of ps

-- packets in two parts
pub times_split : (f : ℕ × TrackedPacket → Bool) (id : ℕ) (ps : Table TrackedPacket) → times id (resets_of (filter f ps)) + times id (resets_of (filter (λ p. not (f p)) ps)) ≡ times id (resets_of ps)
times_split f id [] = refl
times_split f id (p ∷ ps) = go (f p) (times_split f id ps)
  where
    go : (b : Bool) → times id (resets_of (filter f ps)) + times id (resets_of (filter (λ p. not (f p)) ps)) ≡ times id (resets_of ps)
        → times id (resets_of (cond b (p ∷ filter f ps) (filter f ps))) + times id (resets_of (cond (not b) (p ∷ filter (λ p. not (f p)) ps) (filter (λ p. not (f p)) ps))) ≡ times id (resets_of (p ∷ ps))
    go true rest =
        let one = times_append id p.1.carried.retransmits.reset_stream (resets_of (filter f ps)) in
        let all = times_append id p.1.carried.retransmits.reset_stream (resets_of ps) in
        omega arith
    go false rest =
        let one = times_append id p.1.carried.retransmits.reset_stream (resets_of (filter (λ p. not (f p)) ps)) in
        let all = times_append id p.1.carried.retransmits.reset_stream (resets_of ps) in
        omega arith

-- what some of them carried, all did
pub resets_among : (f : ℕ × TrackedPacket → Bool) (r : ℕ × ℕ) (ps : Table TrackedPacket) → In r (resets_of (filter f ps)) → In r (resets_of ps)
resets_among f r [] i = i
resets_among f r (p ∷ ps) i = go (f p) i (resets_among f r ps)
  where
    go : (b : Bool) → In r (resets_of (cond b (p ∷ filter f ps) (filter f ps))) → (In r (resets_of (filter f ps)) → In r (resets_of ps)) → In r (p.1.carried.retransmits.reset_stream ++ resets_of ps)
    go true i later = elim (in_append r p.1.carried.retransmits.reset_stream (resets_of (filter f ps)) i) [ inl here ↦ in_left r _ (resets_of ps) here | inr rest ↦ in_right r p.1.carried.retransmits.reset_stream (resets_of ps) (later rest) ]
    go false i later = in_right r p.1.carried.retransmits.reset_stream (resets_of ps) (later i)

pub stops_among : (f : ℕ × TrackedPacket → Bool) (s : StopSendingValue) (ps : Table TrackedPacket) → In s (stops_of (filter f ps)) → In s (stops_of ps)
stops_among f s [] i = i
stops_among f s (p ∷ ps) i = go (f p) i (stops_among f s ps)
  where
    go : (b : Bool) → In s (stops_of (cond b (p ∷ filter f ps) (filter f ps))) → (In s (stops_of (filter f ps)) → In s (stops_of ps)) → In s (p.1.carried.retransmits.stop_sending ++ stops_of ps)
    go true i later = elim (in_append s p.1.carried.retransmits.stop_sending (stops_of (filter f ps)) i) [ inl here ↦ in_left s _ (stops_of ps) here | inr rest ↦ in_right s p.1.carried.retransmits.stop_sending (stops_of ps) (later rest) ]
    go false i later = in_right s p.1.carried.retransmits.stop_sending (stops_of ps) (later i)

-- ---- a frame that goes

-- the others of a list stand in it
others_in : {X : Type 0} (x : X) (xs : List X) → In x (others_of xs) → In x xs
others_in x [] i = i
others_in x (y ∷ xs) i = inr i

-- what goes in a frame waited first
pub record Moves (p q : Retransmits) (f : FrameValue) : Type 0 where
  pub resets : p.reset_stream ≡ resets_in (f ∷ []) ++ q.reset_stream
  pub stops : p.stop_sending ≡ stops_in (f ∷ []) ++ q.stop_sending
  pub ids : (cid : IssuedCid) → In cid q.new_cids → In cid p.new_cids
  pub retired : (n : ℕ) → In n q.retire_cids → In n p.retire_cids

-- once it went: RESET_STREAM and STOP_SENDING stood first, and no other frame resets or stops
moves : (p : Retransmits) (s : StreamsState) (f : FrameValue) → Goes p s f → Moves p (without_of (kind_of f) p) f
moves p s (reset_stream f) goes = record { resets = first_others p.reset_stream (f.id, f.code) goes.1; stops = refl; ids = λ cid i. i; retired = λ n i. i }
moves p s (stop_sending f) goes = record { resets = refl; stops = first_others p.stop_sending f goes; ids = λ cid i. i; retired = λ n i. i }
moves p s (new_connection_id f) goes = record { resets = refl; stops = refl; ids = λ cid i. others_in cid p.new_cids i; retired = λ n i. i }
moves p s (retire_connection_id m) goes = record { resets = refl; stops = refl; ids = λ cid i. i; retired = λ n i. others_in n p.retire_cids i }
moves p s f goes = record { resets = refl; stops = refl; ids = λ cid i. i; retired = λ n i. i }

-- the frame of the first that waits of a kind
pub goes_moves : (kind : ControlKind) (p : Retransmits) (s : StreamsState) (f : FrameValue) → GoesFirst kind p s f → Moves p (without_first kind p) f
goes_moves kind p s f is = subst (λ (o : Option ControlKind). Moves p (without_of o p) f) is.of_kind (moves p s f is.says)

-- what is dropped waits no more
pub record Fewer (p q : Retransmits) : Type 0 where
  pub times_less : (id : ℕ) → times id q.reset_stream ≤ times id p.reset_stream
  pub resets : (r : ℕ × ℕ) → In r q.reset_stream → In r p.reset_stream
  pub stops : (s : StopSendingValue) → In s q.stop_sending → In s p.stop_sending
  pub ids : (cid : IssuedCid) → In cid q.new_cids → In cid p.new_cids
  pub retired : (n : ℕ) → In n q.retire_cids → In n p.retire_cids

others_times : (id : ℕ) (rs : List (ℕ × ℕ)) → times id (others_of rs) ≤ times id rs
others_times id [] = omega arith
others_times id (r ∷ rs) = omega arith

pub without_fewer : (kind : ControlKind) (p : Retransmits) → Fewer p (without_first kind p)
without_fewer ResetStream p = record { times_less = λ id. others_times id p.reset_stream; resets = λ r i. others_in r p.reset_stream i; stops = λ s i. i; ids = λ cid i. i; retired = λ n i. i }
without_fewer StopSending p = record { times_less = λ id. omega arith; resets = λ r i. i; stops = λ s i. others_in s p.stop_sending i; ids = λ cid i. i; retired = λ n i. i }
without_fewer NewConnectionId p = record { times_less = λ id. omega arith; resets = λ r i. i; stops = λ s i. i; ids = λ cid i. others_in cid p.new_cids i; retired = λ n i. i }
without_fewer RetireConnectionId p = record { times_less = λ id. omega arith; resets = λ r i. i; stops = λ s i. i; ids = λ cid i. i; retired = λ n i. others_in n p.retire_cids i }
without_fewer kind p = record { times_less = λ id. omega arith; resets = λ r i. i; stops = λ s i. i; ids = λ cid i. i; retired = λ n i. i }

-- nothing else waits behind what went, or was dropped
pub moved_else : (p q : Retransmits) (f : FrameValue) → Moves p q f → NothingElse p → NothingElse q
moved_else p q f m n = record { ids = λ cid i. n.ids cid (m.ids cid i); retired = λ k i. n.retired k (m.retired k i) }

pub fewer_else : (p q : Retransmits) → Fewer p q → NothingElse p → NothingElse q
fewer_else p q f n = record { ids = λ cid i. n.ids cid (f.ids cid i); retired = λ k i. n.retired k (f.retired k i) }
