-- Ends go on, and policies that do what their keys and random sources do still do so.
use Rattle.std.proofs.Common.{◌≡◌, ◌≤◌, ℕ, suc, zero, ◌+◌, ◌-◌, refl, sym, ap, ◌∙◌, arith}
use Rattle.std.specs.Prelude.{replicate}
use Rattle.rand_core.specs.Stream.{Stream, u64_call, after}
use Rattle.quic_packet.specs.Keys.{Protection, Aead}
use Rattle.quic_machine.specs.Policy.{Policy, keys_policy}
use Rattle.quic_machine.specs.End.{ConnectionValue, policy_of, words_drawn}
use Rattle.quic_machine.specs.Machine.{Policies}
use Rattle.quic_connection_parts.specs.Drawn.{words_of, after_words}
use Rattle.quic_connection.specs.declared.running.Ends.{Ends}
use Rattle.quic_connection.specs.Ends.{GoesOn, GoOn, Serves, AreOf, policies_of}

-- ---- words of a random source

-- words behind words
pub words_behind : (k m : ℕ) (s : Stream) → (after_words k s).u64_after (replicate m u64_call) ≡ s.u64_after (replicate (m + k) u64_call)
words_behind zero m s = ap (λ (n : ℕ). s.u64_after (replicate n u64_call)) (let same : m ≡ m + 0 = omega arith in same)
words_behind (suc k) m s = words_behind k m (after u64_call s) ∙ ap (λ (n : ℕ). s.u64_after (replicate n u64_call)) (let same : suc (m + k) ≡ m + suc k = omega arith in same)

after_both : (k m : ℕ) (s : Stream) → after_words m (after_words k s) ≡ after_words (m + k) s
after_both zero m s = ap (λ (n : ℕ). after_words n s) (let same : m ≡ m + 0 = omega arith in same)
after_both (suc k) m s = after_both k m (after u64_call s) ∙ ap (λ (n : ℕ). after_words n s) (let same : suc (m + k) ≡ m + suc k = omega arith in same)

-- ---- an end goes on

pub goes_same : {H K R C : Type 0} (stream : R → Stream) (w : ConnectionValue H K R C) → GoesOn stream w w
goes_same stream w = record {
  keys = refl;
  served = λ o. o;
  drawn = λ o. (omega arith);
  random = λ o. ap (λ (k : ℕ). after_words k (stream w.random)) (let none : 0 ≡ words_drawn w.end - words_drawn w.end = omega arith in none);
}

-- and further
pub goes_then : {H K R C : Type 0} (stream : R → Stream) (a b c : ConnectionValue H K R C) → GoesOn stream a b → GoesOn stream b c → GoesOn stream a c
goes_then stream a b c first next = record {
  keys = next.keys ∙ first.keys;
  served = λ o. first.served (next.served o);
  drawn = λ o. (let one = first.drawn (next.served o) in let two = next.drawn o in omega arith);
  random = λ o.
      let one = first.drawn (next.served o) in
      let two = next.drawn o in
      let sum : words_drawn c.end - words_drawn b.end + (words_drawn b.end - words_drawn a.end) ≡ words_drawn c.end - words_drawn a.end = omega arith in
      next.random o
      ∙ ap (λ (s : Stream). after_words (words_drawn c.end - words_drawn b.end) s) (first.random (next.served o))
      ∙ after_both (words_drawn b.end - words_drawn a.end) (words_drawn c.end - words_drawn b.end) (stream a.random)
      ∙ ap (λ (k : ℕ). after_words k (stream a.random)) sum;
}

pub go_same : {H K R C : Type 0} (stream : R → Stream) (ends : Ends H K R C) → GoOn stream ends ends
go_same stream ends = record { client = goes_same stream ends.client; server = goes_same stream ends.server }

pub go_then : {H K R C : Type 0} (stream : R → Stream) (a b c : Ends H K R C) → GoOn stream a b → GoOn stream b c → GoOn stream a c
go_then stream a b c first next = record { client = goes_then stream a.client b.client c.client first.client next.client; server = goes_then stream a.server b.server c.server first.server next.server }

-- ---- policies of two ends

module _ {H K R C : Type 0} (protection : H → Protection) (aead : K → Aead) (seals openings : K → ℕ) (stream : R → Stream) where
  -- what an end's own policy says goes on
  pub serve_on : (k : Policy) (old new : ConnectionValue H K R C) → Serves k (policy_of protection aead seals openings (words_of stream) old) old.end → GoesOn stream old new → Serves k (policy_of protection aead seals openings (words_of stream) new) new.end
  serve_on k old new s g = record {
    keys = s.keys ∙ ap (λ ks. keys_policy protection aead seals openings ks k.words) (sym g.keys);
    words = λ o n high.
        let more = g.drawn o in
        let low : words_drawn old.end ≤ n = omega arith in
        let sum : n - words_drawn new.end + (words_drawn new.end - words_drawn old.end) ≡ n - words_drawn old.end = omega arith in
        s.words (g.served o) n low
        ∙ ap (λ (m : ℕ). words_of stream old.random m) (sym sum)
        ∙ sym (words_behind (words_drawn new.end - words_drawn old.end) (n - words_drawn new.end) (stream old.random))
        ∙ ap (λ (s : Stream). s.u64_after (replicate (n - words_drawn new.end) u64_call)) (sym (g.random o));
  }

  -- the ends' own policies
  pub are_own : (ends : Ends H K R C) → AreOf (policies_of protection aead seals openings stream ends) protection aead seals openings stream ends
  are_own ends = record { client = record { keys = refl; words = λ o n h. refl }; server = record { keys = refl; words = λ o n h. refl } }

  -- they go on
  pub are_on : (k : Policies) (old new : Ends H K R C) → AreOf k protection aead seals openings stream old → GoOn stream old new → AreOf k protection aead seals openings stream new
  are_on k old new s g = record { client = serve_on k.client old.client new.client s.client g.client; server = serve_on k.server old.server new.server s.server g.server }
