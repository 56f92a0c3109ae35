-- What is said of every congestion controller.
use Rattle.std.specs.Prelude.{◌≡◌, ℕ, ◌*◌, ◌<◌, ◌≤◌, ◌^◌, Bool, Option, List, fold}
use Rattle.std.specs.List.{All}
use Rattle.quic_time.specs.Rtt.{Rtt}

-- two datagrams of a size, which fits two bytes, fit the window
pub record HasRoom (size window : ℕ) : Type 0 where
  pub sized : size < 2 ^ 16
  pub room : 2 * size ≤ window

-- a call that hands no size in keeps the size, and the room for two datagrams of it
pub record KeepsRoom {C : Type 0} (size window : C → ℕ) (old new : C) : Type 0 where
  pub size_stays : size new ≡ size old
  pub room_stays : HasRoom (size old) (window old) → HasRoom (size new) (window new)

-- a call that hands a size in takes it over; where two datagrams had room, two of the new size have
pub record TakesSize {C : Type 0} (size window : C → ℕ) (old : C) (given : ℕ) (new : C) : Type 0 where
  pub size_taken : size new ≡ given
  pub room_stays : given < 2 ^ 16 → HasRoom (size old) (window old) → HasRoom (size new) (window new)

-- what a controller is told: bytes went, a packet was acknowledged, a batch of acknowledgements
-- ended, packets were lost or marked, or datagrams have a new size
pub data Told : Type 0 where
  Sent : (now bytes last : ℕ) → Told
  Acked : (now sent bytes : ℕ) (app_limited : Bool) (rtt : Rtt) → Told
  AcksEnded : (now in_flight : ℕ) (app_limited : Bool) (largest : Option ℕ) → Told
  Congested : (now sent : ℕ) (persistent : Bool) (lost : ℕ) → Told
  Resized : (size : ℕ) → Told

-- a size that is handed in fits two bytes
abbrev pub IsSized : Told → Type 0
IsSized (Sent now bytes last) = Unit {0}
IsSized (Acked now sent bytes app_limited rtt) = Unit {0}
IsSized (AcksEnded now in_flight app_limited largest) = Unit {0}
IsSized (Congested now sent persistent lost) = Unit {0}
IsSized (Resized size) = size < 2 ^ 16

-- each size that is handed in fits two bytes
abbrev pub AreSized : List Told → Type 0
AreSized calls = All IsSized calls

-- the size of a datagram after a call
abbrev pub size_told : Told → ℕ → ℕ
size_told (Sent now bytes last) size = size
size_told (Acked now sent bytes app_limited rtt) size = size
size_told (AcksEnded now in_flight app_limited largest) size = size
size_told (Congested now sent persistent lost) size = size
size_told (Resized given) size = given

-- the size handed in last
abbrev pub last_size : ℕ → List Told → ℕ
last_size size calls = fold (λ z call. size_told call z) size calls

-- what each call makes of a controller
pub record Steps (C : Type 0) : Type 0 where
  pub sent : C → ℕ → ℕ → ℕ → C
  pub ack : C → ℕ → ℕ → ℕ → Bool → Rtt → C
  pub end_acks : C → ℕ → ℕ → Bool → Option ℕ → C
  pub congestion_event : C → ℕ → ℕ → Bool → ℕ → C
  pub mtu_update : C → ℕ → C

-- the steps of these five
abbrev pub steps_of : {C : Type 0}
    → (C → ℕ → ℕ → ℕ → C) → (C → ℕ → ℕ → ℕ → Bool → Rtt → C) → (C → ℕ → ℕ → Bool → Option ℕ → C)
    → (C → ℕ → ℕ → Bool → ℕ → C) → (C → ℕ → C) → Steps C
steps_of sent ack end_acks event update = record {
  sent = sent;
  ack = ack;
  end_acks = end_acks;
  congestion_event = event;
  mtu_update = update;
}

-- the controller after one call
abbrev pub after_call : {C : Type 0} → Steps C → Told → C → C
after_call steps (Sent now bytes last) c = steps.sent c now bytes last
after_call steps (Acked now sent bytes app_limited rtt) c = steps.ack c now sent bytes app_limited rtt
after_call steps (AcksEnded now in_flight app_limited largest) c = steps.end_acks c now in_flight app_limited largest
after_call steps (Congested now sent persistent lost) c = steps.congestion_event c now sent persistent lost
after_call steps (Resized size) c = steps.mtu_update c size

-- the controller after calls, the first of them first
abbrev pub after_calls : {C : Type 0} → Steps C → C → List Told → C
after_calls steps c calls = fold (λ d call. after_call steps call d) c calls
