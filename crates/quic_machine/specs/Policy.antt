-- What the keys of an end do, and what its random source answers, as plain functions.
use Rattle.std.specs.Prelude.{ℕ}
use Rattle.quic_packet.specs.Keys.{Protection, Aead, AreMates}
use Rattle.quic_packet.specs.declared.crypto.Keys.{Keys}

-- how an end protects what it gives, how it opens what it takes, and which words its random source
-- answers, each by how many were drawn before it
pub record Policy : Type 0 where
  pub header : Protection
  pub packet : Aead
  pub words : ℕ → ℕ
  -- how many packets may be sealed, and how many may fail to open (RFC 9001, section 6.6)
  pub seals : ℕ
  pub openings : ℕ

-- what keys do: an end protects with the local ones, and opens with the remote ones; so it is with
-- how many packets a key may seal, and refuse
abbrev pub keys_policy : {H K : Type 0} → (H → Protection) → (K → Aead) → (K → ℕ) → (K → ℕ) → Keys H K → (ℕ → ℕ) → Policy
keys_policy protection aead seals openings keys words = record {
  words = words;
  seals = seals keys.packet.local;
  openings = openings keys.packet.remote;
  header = record {
    mask = (protection keys.header.local).mask;
    hide = (protection keys.header.local).hide;
    unmask = (protection keys.header.remote).unmask;
    reveal = (protection keys.header.remote).reveal;
  };
  packet = record {
    seal = (aead keys.packet.local).seal;
    unseal = (aead keys.packet.remote).unseal;
  };
}

-- what one end gives, another end can open
abbrev pub CanOpen : Policy → Policy → Type 0
CanOpen giver taker = AreMates giver.header giver.packet taker.header taker.packet

-- what an end with the giver's keys gives, an end with the taker's can open
abbrev pub KeysCanOpen : {H K : Type 0} → (H → Protection) → (K → Aead) → Keys H K → Keys H K → Type 0
KeysCanOpen protection aead giver taker = CanOpen (keys_policy protection aead (λ k. 0) (λ k. 0) giver (λ n. n)) (keys_policy protection aead (λ k. 0) (λ k. 0) taker (λ n. n))
