-- How messages that wait go one behind another, while they fit.
use Rattle.std.proofs.Common.{◌≡◌, ℕ, ◌+◌, ◌-◌, ◌≤◌, ◌<◌, Bool, true, false, List, [], ◌∷◌, ◌++◌, length, take, Some, None, ◌⊎◌, inl, inr, refl, sym, ap, ◌∙◌, arith}
use Rattle.std.specs.Prelude.{nat_le, map, is_some, if◌then◌else◌}
use Rattle.std.proofs.lemmas.Bool.{le-leb, lt-leb}
use Rattle.std.proofs.lemmas.Bool.Decides.{leb_tells}
use Rattle.std.proofs.lemmas.List.{append_assoc, append-nil, take-append-le}
use Rattle.quic_wire.specs.Value.{datagram}
use Rattle.quic_wire.specs.Writing.{spelling, spelled_all}
use Rattle.quic_messages.specs.Messages.{Messages, frame_bytes, fitting, after_fitting}
use Rattle.quic_connection_parts.specs.Frames.{message_part, messages_left}

-- what fits in the bytes that are left fits behind those that are used
fits_same : (used size room most : ℕ) → used + room ≡ most → nat_le (used + size) most ≡ nat_le size room
fits_same used size room most all = go (leb_tells size room)
  where
    go : ((nat_le size room ≡ true) × (size ≤ room)) ⊎ ((nat_le size room ≡ false) × (room < size)) → nat_le (used + size) most ≡ nat_le size room
    go (inl t) = let le = t.1 in le-leb (used + size) most (omega arith) ∙ sym t.0
    go (inr t) = let lt = t.1 in lt-leb (used + size) most (omega arith) ∙ sym t.0

-- one goes by a test that it passes
passed : (x m : List ℕ) (b : Bool) → Some m ≡ (if b then Some x else None) → (b ≡ true) × (m ≡ x)
passed x m true is = (refl, (cc))
passed x m false is = absurd cc

-- the oldest went: those that go behind it
pub record Goes (most used : ℕ) (s t : Messages) (m : List ℕ) : Type 0 where
  pub part : message_part most used s.outgoing ≡ m ∷ message_part most (used + frame_bytes m) t.outgoing
  pub left : ◌≡◌ {A = Messages} (record t { outgoing = messages_left most (used + frame_bytes m) t.outgoing }) (record s { outgoing = messages_left most used s.outgoing })
  pub fewer : length s.outgoing ≡ length t.outgoing + 1

-- none went
pub record Stops (most used : ℕ) (s t : Messages) : Type 0 where
  pub part : message_part most used s.outgoing ≡ []
  pub left : ◌≡◌ {A = Messages} t (record s { outgoing = messages_left most used s.outgoing })

module _ (most used room : ℕ) (all : used + room ≡ most) (incoming : List (List ℕ)) where
  -- the messages, where these wait to be sent
  abbrev with_waiting : List (List ℕ) → Messages
  with_waiting ms = record { incoming = incoming; outgoing = ms }

  goes : (ms : List (List ℕ)) (t : Messages) (m : List ℕ) → Some m ≡ fitting room ms → t ≡ after_fitting room (with_waiting ms) → Goes most used (with_waiting ms) t m
  unfolding message_part messages_left
  goes [] t m is left = absurd cc
  goes (x ∷ xs) t m is left =
      let passes = passed x m (nat_le (frame_bytes x) room) is in
      let goes_behind : nat_le (used + frame_bytes x) most ≡ true = fits_same used (frame_bytes x) room most all ∙ passes.0 in
      let others : t ≡ with_waiting xs = left ∙ ap (λ (b : Bool). if is_some (if b then Some x else None) then with_waiting xs else with_waiting (x ∷ xs)) passes.0 in
      let same : m ≡ x = passes.1 in
      rw (same, others) (record {
        part = rw goes_behind refl;
        left = rw goes_behind refl;
        fewer = omega arith;
      })

  failed : (x : List ℕ) (b : Bool) → None ≡ (if b then Some x else None) → b ≡ false
  failed x true is = absurd cc
  failed x false is = refl

  stops : (ms : List (List ℕ)) (t : Messages) → None ≡ fitting room ms → t ≡ after_fitting room (with_waiting ms) → Stops most used (with_waiting ms) t
  unfolding message_part messages_left
  stops [] t is left = record { part = refl; left = left }
  stops (x ∷ xs) t is left =
      let fails = failed x (nat_le (frame_bytes x) room) is in
      let stays_behind : nat_le (used + frame_bytes x) most ≡ false = fits_same used (frame_bytes x) room most all ∙ fails in
      let same : t ≡ with_waiting (x ∷ xs) = left ∙ ap (λ (b : Bool). if is_some (if b then Some x else None) then with_waiting xs else with_waiting (x ∷ xs)) fails in
      record {
        part = rw stays_behind refl;
        left = rw stays_behind same;
      }

-- so it is of all messages
pub message_goes : (most used room : ℕ) → used + room ≡ most → (s t : Messages) (m : List ℕ) → Some m ≡ fitting room s.outgoing → t ≡ after_fitting room s → Goes most used s t m
message_goes most used room all s t m is left = goes most used room all s.incoming s.outgoing t m is left

pub messages_stop : (most used room : ℕ) → used + room ≡ most → (s t : Messages) → None ≡ fitting room s.outgoing → t ≡ after_fitting room s → Stops most used s t
messages_stop most used room all s t is left = stops most used room all s.incoming s.outgoing t is left

-- ---- how they stand in a buffer

-- one that was written is the first of those that go
pub written_more : (old new m : List ℕ) (part others : List (List ℕ)) → new ≡ old ++ spelling (datagram m) → part ≡ m ∷ others → new ++ spelled_all (map datagram others) ≡ old ++ spelled_all (map datagram part)
written_more old new m part others put is =
    ap (λ (z : List ℕ). z ++ spelled_all (map datagram others)) put
    ∙ append_assoc old (spelling (datagram m)) (spelled_all (map datagram others))
    ∙ ap (λ (ms : List (List ℕ)). old ++ spelled_all (map datagram ms)) (sym is)

-- where none goes, none is written
pub written_none : (old : List ℕ) (part : List (List ℕ)) → part ≡ [] → old ++ spelled_all (map datagram part) ≡ old
written_none old part is = ap (λ (ms : List (List ℕ)). old ++ spelled_all (map datagram ms)) is ∙ append-nil old

-- what stood first stands first still
pub front_more : (front old new added : List ℕ) (n : ℕ) → n ≤ length old → new ≡ old ++ added → take n old ≡ front → take n new ≡ front
front_more front old new added n few put same = ap (take n) put ∙ take-append-le n old added few ∙ same

-- how many bytes are used once a frame of so many went where it fits
pub record Grows (body most len new size : ℕ) : Type 0 where
  pub used : new - body ≡ len - body + size
  pub within : new ≤ body + most
  pub more : len ≤ new

pub grows_by : (body most len new size : ℕ) → body ≤ len → len ≤ body + most → size ≤ body + most - len → new ≡ len + size → Grows body most len new size
grows_by body most len new size below within fits is = record { used = omega arith; within = omega arith; more = omega arith }

-- what is used of a payload, and what is left
pub used_and_left : (body most len : ℕ) → body ≤ len → len ≤ body + most → len - body + (body + most - len) ≡ most
used_and_left body most len below within = omega arith
