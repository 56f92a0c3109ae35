-- Where the size of a search comes from.
use Rattle.std.proofs.Common.{◌≡◌, ℕ, ◌+◌, ◌⊎◌, inl, inr, List, [], ◌∷◌, ltb, cond, min, max, Bool, true, false, refl, sym, ap, ◌∙◌, subst, arith, Some, None, Option}
use Rattle.std.specs.Prelude.{◌==◌}
use Rattle.std.specs.Option.{option_map}
use Rattle.std.proofs.lemmas.Bool.{ltb-true, ltb-false}
use Rattle.quic_config.specs.Configs.{SearchSettings}
use Rattle.quic_congestion.specs.Bursts.{Burst, Bursts, suspected, judged, judged_if, is_suspicious, ended, begun_at, lost_behind, after_acknowledged, is_black_hole, after_told, kept_above}
use Rattle.quic_congestion.specs.Search.{Discovery, SearchCall, Reset, Polled, Limited, Acknowledged, ProbeLost, PacketLost, Asked, within, search_after, search_over, new_discovery, disabled_discovery, acknowledged_if, acknowledged_probe, finds_black_hole, plan_cooled}
use Rattle.quic_congestion.specs.SearchLaw.{BeginsWith, Brings, IsKnown}

-- ---- losses never change the least size

judged_least : (b : Bursts) (burst : Burst) → (judged b burst).least ≡ b.least
judged_least b burst = go (is_suspicious b burst)
  where
    go : (t : Bool) → (cond t (suspected b burst) b).least ≡ b.least
    go true = refl
    go false = refl

judged_if_least : (o : Option Burst) (b : Bursts) → (judged_if o b).least ≡ b.least
judged_if_least None b = refl
judged_if_least (Some burst) b = judged_least b burst

ended_least : (b : Bursts) → (ended b).least ≡ b.least
ended_least b = judged_if_least b.current (record b { current = None })

pub lost_least : (o : Option Burst) (number size : ℕ) (b : Bursts) → (lost_behind o number size b).least ≡ b.least
lost_least None number size b = refl
lost_least (Some burst) number size b = go (number == burst.last + 1)
  where
    go : (t : Bool) → (cond t (begun_at number (min burst.size size) b) (begun_at number size (ended b))).least ≡ b.least
    go true = refl
    go false = ended_least b

pub acknowledged_least : (number size : ℕ) (b : Bursts) → (after_acknowledged number size b).least ≡ b.least
acknowledged_least number size b = go (ltb size b.acked) (size == b.acked)
  where
    go : (t u : Bool) → (cond t b (cond u (record b { number = max b.number number }) (record b { acked = size; number = number; kept = kept_above size b.kept }))).least ≡ b.least
    go true u = refl
    go false true = refl
    go false false = refl

pub told_least : (b : Bursts) → (after_told b).least ≡ b.least
told_least b = go (is_black_hole b)
  where
    go : (t : Bool) → (cond t (record (ended b) { kept = [] }) (ended b)).least ≡ b.least
    go true = ended_least b
    go false = ended_least b

-- ---- one call

-- the size, the least size and the peer's limit have come from somewhere
pub record AreFrom (P : ℕ → Type 0) (d : Discovery) : Type 0 where
  pub size : P d.size
  pub least : P d.bursts.least
  pub limit : (n : ℕ) → d.limit ≡ Some n → P n

least_of : (size limit : ℕ) → (min size limit ≡ size) ⊎ (min size limit ≡ limit)
least_of size limit = go (ltb limit size) refl
  where
    go : (t : Bool) → ltb limit size ≡ t → (min size limit ≡ size) ⊎ (min size limit ≡ limit)
    go true e = let l = ltb-true limit size e in inr (omega arith)
    go false e = let l = ltb-false limit size e in inl (omega arith)

-- a size within a limit is either of the two
within_either : (limit : Option ℕ) (size : ℕ) → (within limit size ≡ size) ⊎ (limit ≡ Some (within limit size))
within_either None size = inl refl
within_either (Some limit) size = go (least_of size limit)
  where
    go : (min size limit ≡ size) ⊎ (min size limit ≡ limit) → (min size limit ≡ size) ⊎ (Some limit ≡ Some (min size limit))
    go (inl e) = inl e
    go (inr e) = inr (ap (λ (x : ℕ). Some x) (sym e))

-- a call that brings nothing and changes none of the three
kept : (P : ℕ → Type 0) (call : SearchCall) (d e : Discovery) → AreFrom P d → e.size ≡ d.size → e.bursts.least ≡ d.bursts.least → e.limit ≡ d.limit → AreFrom (λ n. P n ⊎ Brings call d n) e
kept P call d e h s l m = record {
  size = inl (subst P (sym s) h.size);
  least = inl (subst P (sym l) h.least);
  limit = λ n f. inl (h.limit n (sym m ∙ f));
}

after_call : (P : ℕ → Type 0) (call : SearchCall) (d : Discovery) → AreFrom P d → AreFrom (λ n. P n ⊎ Brings call d n) (search_after call d)
after_call P (Reset size least) d h = record {
  size = go (within_either d.limit size);
  least = inr (inr refl);
  limit = λ n f. inl (h.limit n f);
}
  where
    go : (within d.limit size ≡ size) ⊎ (d.limit ≡ Some (within d.limit size)) → P (within d.limit size) ⊎ ((within d.limit size ≡ size) ⊎ (within d.limit size ≡ least))
    go (inl e) = inr (inl e)
    go (inr e) = inl (h.limit (within d.limit size) e)
after_call P (Polled now number) d h = kept P (Polled now number) d (search_after (Polled now number) d) h refl refl refl
after_call P (Limited limit) d h = record {
  size = go (least_of d.size limit);
  least = inl h.least;
  limit = λ n f. inr (let g : n ≡ limit = cc in g);
}
  where
    go : (min d.size limit ≡ d.size) ⊎ (min d.size limit ≡ limit) → P (min d.size limit) ⊎ (min d.size limit ≡ limit)
    go (inl e) = inl (subst P (sym e) h.size)
    go (inr e) = inr e
after_call P (Acknowledged number length) d h = go (acknowledged_probe number d) refl
  where
    go : (o : Option ℕ) → acknowledged_probe number d ≡ o → AreFrom (λ n. P n ⊎ (acknowledged_probe number d ≡ Some n)) (acknowledged_if o number length d)
    go None e = kept P (Acknowledged number length) d (acknowledged_if None number length d) h refl (acknowledged_least number length d.bursts) refl
    go (Some size) e = record { size = inr e; least = inl h.least; limit = λ n f. inl (h.limit n f) }
after_call P ProbeLost d h = kept P ProbeLost d (search_after ProbeLost d) h refl refl refl
after_call P (PacketLost number length) d h = kept P (PacketLost number length) d (search_after (PacketLost number length) d) h refl (lost_least d.bursts.current number length d.bursts) refl
after_call P (Asked now) d h = go (finds_black_hole d)
  where
    found : Discovery
    found = record d { size = d.bursts.least; plan = option_map (plan_cooled now) d.plan; bursts = after_told d.bursts }

    go : (t : Bool) → AreFrom (λ n. P n ⊎ ⊥) (cond t found (record d { bursts = after_told d.bursts }))
    go true = record { size = inl h.least; least = inl (subst P (sym (told_least d.bursts)) h.least); limit = λ n f. inl (h.limit n f) }
    go false = record { size = inl h.size; least = inl (subst P (sym (told_least d.bursts)) h.least); limit = λ n f. inl (h.limit n f) }

-- ---- histories

over_calls : (Begins : ℕ → Type 0) (d : Discovery) (calls : List SearchCall) → AreFrom Begins d → AreFrom (IsKnown Begins d calls) (search_over d calls)
over_calls Begins d [] h = h
over_calls Begins d (call ∷ earlier) h = after_call (IsKnown Begins d earlier) call (search_over d earlier) (over_calls Begins d earlier h)

begins_new : (size least : ℕ) (limit : Option ℕ) (settings : SearchSettings) → AreFrom (BeginsWith size least limit) (new_discovery size least limit settings)
begins_new size least limit settings = record { size = go (within_either limit size); least = inr (inl refl); limit = λ n e. inr (inr e) }
  where
    go : (within limit size ≡ size) ⊎ (limit ≡ Some (within limit size)) → BeginsWith size least limit (within limit size)
    go (inl e) = inl e
    go (inr e) = inr (inr e)

pub sizes_new : (size least : ℕ) (limit : Option ℕ) (settings : SearchSettings) (calls : List SearchCall)
    → IsKnown (BeginsWith size least limit) (new_discovery size least limit settings) calls (search_over (new_discovery size least limit settings) calls).size
sizes_new size least limit settings calls = (over_calls (BeginsWith size least limit) (new_discovery size least limit settings) calls (begins_new size least limit settings)).size

pub sizes_disabled : (size least : ℕ) (calls : List SearchCall)
    → IsKnown (BeginsWith size least None) (disabled_discovery size least) calls (search_over (disabled_discovery size least) calls).size
sizes_disabled size least calls =
    (over_calls (BeginsWith size least None) (disabled_discovery size least) calls (record { size = inl refl; least = inr (inl refl); limit = λ n e. inr (inr e) })).size
