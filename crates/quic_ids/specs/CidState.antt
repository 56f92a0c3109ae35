-- The ids that an end gave its peer: which still live, and when they are to be retired (RFC 9000,
-- sections 5.1.1 and 5.1.2).
use Rattle.std.specs.Prelude.{◌≡◌, ℕ, zero, suc, ◌+◌, ◌-◌, ◌^◌, ◌<◌, ◌≤◌, ◌==◌, ◌&&◌, ◌||◌, not, Bool, true, cond, ltb, leb, min, List, [], ◌∷◌, ◌++◌, length, drop, slice_get, Option, Some, None, option_map, Result, Ok, Err}
use Rattle.std.specs.List.{list_any}
use Rattle.std.specs.Ordering.{nat_cmp}
use Rattle.std.specs.BTreeMap.{is_at}
use Rattle.std.specs.BTreeSet.{insert_key}
use Rattle.std.specs.Set.{remove_key}
use Rattle.quic_wire_core.specs.TransportError.{ErrorValue, plain_error, protocol_violation}
use Rattle.quic_wire_core.specs.declared.shared.IssuedCid.{IssuedCid}
use Rattle.quic_ids.specs.declared.cid_state.CidTimestamp.{CidTimestamp}

-- how many numbers were issued; those that the peer hasn't retired, ascending; the batches of ids
-- that are to expire, by the greatest number of each and its moment; the last two values of
-- retire_prior_to; how many bytes an id has; and how long one lives
pub record OwnIds : Type 0 where
  pub issued : ℕ
  pub living : List ℕ
  pub batches : List CidTimestamp
  pub previous : ℕ
  pub retire_prior_to : ℕ
  pub id_len : ℕ
  pub lifetime : Option ℕ

-- whether a number is in the list
abbrev pub is_in : ℕ → List ℕ → Bool
is_in n = list_any (is_at (nat_cmp n))

-- whether a number from the first on and below the end is in the list
abbrev pub some_within : ℕ → ℕ → List ℕ → Bool
some_within first end = list_any (λ n. leb first n && ltb n end)

-- a number, which counts as 2^64 - 1 from there on
abbrev pub capped : ℕ → ℕ
capped n = min n (2 ^ 64 - 1)

-- ---- ids are issued

-- when ids that are issued now expire: never without a lifetime, or past the last moment
abbrev pub expiry : Option ℕ → ℕ → Option ℕ
expiry None now = None
expiry (Some lifetime) now = cond (ltb (now + lifetime) (2 ^ 64)) (Some (now + lifetime)) None

-- the batches before one of this moment: all but the last, where that is of the same
abbrev pub others_behind : List CidTimestamp → CidTimestamp → ℕ → List CidTimestamp
others_behind [] b moment = cond (b.timestamp == moment) [] (b ∷ [])
others_behind (c ∷ cs) b moment = b ∷ others_behind cs c moment

-- the batches but the last, if that one expires at this moment
abbrev pub others : List CidTimestamp → ℕ → List CidTimestamp
others [] moment = []
others (b ∷ bs) moment = others_behind bs b moment

-- a batch behind the others, joined with one of its moment
abbrev pub with_batch : List CidTimestamp → CidTimestamp → List CidTimestamp
with_batch bs b = others bs b.timestamp ++ b ∷ []

-- the batches with ids up to the number n, which expire together
abbrev pub tracked : Option ℕ → ℕ → List CidTimestamp → List CidTimestamp
tracked None n bs = bs
tracked (Some moment) n bs = with_batch bs (record { sequence = n; timestamp = moment })

-- the numbers below n
abbrev pub below : ℕ → List ℕ
below zero = []
below (suc n) = below n ++ n ∷ []

-- the first ids, which are one batch
abbrev pub first_batches : ℕ → Option ℕ → List CidTimestamp
first_batches issued moment = cond (issued == 0) [] (tracked moment (issued - 1) [])

-- this end's ids as it begins: so many are issued, and none is retired
abbrev pub initial_ids : ℕ → Option ℕ → ℕ → ℕ → OwnIds
initial_ids id_len lifetime now issued = record {
  issued = issued;
  living = below issued;
  batches = first_batches issued (expiry lifetime now);
  previous = 0;
  retire_prior_to = 0;
  id_len = id_len;
  lifetime = lifetime;
}

-- the living numbers with those of more ids
abbrev pub living_with : List IssuedCid → List ℕ → List ℕ
living_with [] living = living
living_with (c ∷ cs) living = living_with cs (insert_key nat_cmp living c.sequence)

-- the last of some ids
abbrev pub last_of : List IssuedCid → Option IssuedCid
last_of cs = slice_get cs (length cs - 1)

-- ids up to the last are issued: they live, and are one batch
abbrev pub after_batch : Option IssuedCid → OwnIds → List IssuedCid → ℕ → OwnIds
after_batch None s cs now = s
after_batch (Some last) s cs now = record s {
  issued = capped (s.issued + length cs);
  living = living_with cs s.living;
  batches = tracked (expiry s.lifetime now) last.sequence s.batches;
}

-- more ids are issued, if there are any
abbrev pub after_new : OwnIds → List IssuedCid → ℕ → OwnIds
after_new s cs now = after_batch (last_of cs) s cs now

-- ---- the peer retires an id (RFC 9000, section 19.16)

-- the numbers without n
abbrev pub without : ℕ → List ℕ → List ℕ
without n = remove_key (is_at (nat_cmp n))

-- a peer may retire only what was issued, and nothing where ids have no bytes
abbrev pub is_wrong : OwnIds → ℕ → Bool
is_wrong s n = (s.id_len == 0) || leb s.issued n

-- after the peer retired a number: a wrong one changes nothing
abbrev pub after_retirement : OwnIds → ℕ → OwnIds
after_retirement s n = cond (is_wrong s n) s (record s { living = without n s.living })

-- whether fewer live than the limit, so that a new one may be issued
abbrev pub retirement_answer : OwnIds → ℕ → ℕ → Result Bool ErrorValue
retirement_answer s n limit = cond (is_wrong s n) (Err (plain_error protocol_violation)) (Ok (ltb (length (without n s.living)) limit))

-- ---- ids expire

-- the moment of the first batch
abbrev pub first_expiry : OwnIds → Option ℕ
first_expiry s = option_map (λ b. b.timestamp) (slice_get s.batches 0)

-- whether the peer still owes a retirement that it was asked for since retire_prior_to was set
-- before
abbrev pub is_owed : OwnIds → Bool
is_owed s = some_within s.previous s.retire_prior_to s.living

-- the value of retire_prior_to by which a batch is retired
abbrev pub behind : Option CidTimestamp → ℕ → ℕ
behind None present = present
behind (Some b) present = capped (b.sequence + 1)

-- what retire_prior_to is after the first batch expired: behind that, unless a retirement is owed
-- (RFC 9000, section 5.1.2)
abbrev pub next_prior_to : OwnIds → ℕ
next_prior_to s = cond (is_owed s) s.retire_prior_to (behind (slice_get s.batches 0) s.retire_prior_to)

-- after the first batch expired
abbrev pub after_timeout : OwnIds → OwnIds
after_timeout s = record s {
  batches = drop 1 s.batches;
  previous = cond (is_owed s) s.previous s.retire_prior_to;
  retire_prior_to = next_prior_to s;
}

-- whether an id lives that the new value retires
abbrev pub timeout_answer : OwnIds → Bool
timeout_answer s = some_within s.retire_prior_to (next_prior_to s) s.living

-- ---- what lives

-- ids have the numbers from n on
abbrev pub HaveNumbers : List IssuedCid → ℕ → Type 0
HaveNumbers [] n = Unit {0}
HaveNumbers (c ∷ cs) n = (c.sequence ≡ n) × HaveNumbers cs (n + 1)

-- numbers ascend, from the first on
abbrev pub Rise : List ℕ → ℕ → Type 0
Rise [] first = Unit {0}
Rise (k ∷ ks) first = (first ≤ k) × Rise ks (k + 1)

-- the living numbers are those that were issued, less the retired, which were issued too; each
-- stands once
pub record LivesLess (s : OwnIds) (retired : List ℕ) : Type 0 where
  pub living : (n : ℕ) → is_in n s.living ≡ (ltb n s.issued && not (is_in n retired))
  pub were_issued : (n : ℕ) → is_in n retired ≡ true → n < s.issued
  pub rise : Rise s.living 0
