-- An end that follows its peer to another address, with its random source and what it counted.
use Rattle.std.proofs.Common.{◌≡◌, ℕ, ◌+◌, ◌-◌, ◌≤◌, Bool, true, false, sym, ap, ◌∙◌, subst, refl, arith}
use Rattle.std.specs.Prelude.{nat_lt}
use Rattle.rand_core.specs.Stream.{Stream}
use Rattle.quic_wire.specs.Items.{items}
use Rattle.quic_packet.specs.Keys.{Protection, Aead}
use Rattle.quic_packet.specs.Datagram.{Opening}
use Rattle.quic_machine.specs.Policy.{Policy}
use Rattle.quic_machine.specs.Heard.{Heard}
use Rattle.quic_machine.specs.IdFrames.{drawn}
use Rattle.quic_machine.specs.End.{End, ConnectionValue, HasFailed, with_end, hearing, drawing, policy_of, words_drawn}
use Rattle.quic_machine.specs.Validation.{challenged_anew, most_challenges}
use Rattle.quic_machine.specs.Migration.{path_frames_taken, migrated, repaced}
use Rattle.quic_connection_parts.specs.Drawn.{words_of, words_at, after_words, Draws}
use Rattle.quic_connection_parts.proofs.Drawing.{first_word, draws_then}
use Rattle.quic_connection_parts.proofs.Issued.{words_after}
use Rattle.quic_connection_core.proofs.Drawn.{drawn_more}
use Rattle.quic_connection_core.proofs.Migrated.{next_rests, frames_words, on_path, steps_lead}

module _ {H K R C : Type 0} (protection : H → Protection) (aead : K → Aead) (seals openings : K → ℕ) (stream : R → Stream) (window : C → ℕ) (o : Opening) (remote : ℕ) (heard : Heard) (v w : ConnectionValue H K R C)
    (made : w ≡ with_end (hearing v heard) (on_path (window v.control) remote v.end)) where
  abbrev policy : ConnectionValue H K R C → Policy
  policy x = policy_of protection aead seals openings (words_of stream) x

  abbrev p : Policy
  p = policy v

  -- as many words were drawn as before
  made_words : words_drawn w.end ≡ words_drawn v.end
  made_words = ap (λ (x : ConnectionValue H K R C). words_drawn x.end) made ∙ (next_rests v.end).words

  made_random : w.random ≡ v.random
  made_random = ap (λ (x : ConnectionValue H K R C). x.random) made

  same_words : (policy w).words ≡ p.words
  same_words = λ i n. (ap (λ (r : R). words_of stream r (n - words_drawn w.end)) made_random ∙ ap (λ (k : ℕ). words_of stream v.random (n - k)) made_words) i

  -- ids are drawn
  module _ (x : ConnectionValue H K R C) (ids : x ≡ drawing x.random (with_end w (drawn (policy w).words w.end))) (draws : Draws stream w x) where
    ids_are : x ≡ drawing x.random (with_end (hearing v heard) (drawn p.words (on_path (window v.control) remote v.end)))
    ids_are = ids
        ∙ ap (λ (f : ℕ → ℕ). drawing x.random (with_end w (drawn f w.end))) same_words
        ∙ ap (λ (y : ConnectionValue H K R C). drawing x.random (with_end y (drawn p.words y.end))) made

    left : stream x.random ≡ after_words (words_drawn x.end - words_drawn v.end) (stream v.random)
    left = draws
        ∙ ap (λ (r : R). after_words (words_drawn x.end - words_drawn w.end) (stream r)) made_random
        ∙ ap (λ (k : ℕ). after_words (words_drawn x.end - k) (stream v.random)) made_words

    -- the next word is that which the policy says
    next_word : words_at stream x (words_drawn x.end) ≡ p.words (words_drawn x.end)
    next_word =
        let k = words_drawn x.end - words_drawn v.end in
        let behind = words_after stream v.random x.random k left in
        let same : k ≡ k + 0 = omega arith in
        first_word stream x ∙ sym (ap (λ (f : ℕ → ℕ). f 0) behind) ∙ ap (words_of stream v.random) (sym same)

    asked_so : (b : Bool) → challenged_anew (words_at stream x) b x.end ≡ challenged_anew p.words b x.end
    asked_so true = ap (λ (k : ℕ). challenged_anew (λ n. k) true x.end) next_word
    asked_so false = refl

    asked_more : (b : Bool) → words_drawn x.end ≤ words_drawn (challenged_anew (words_at stream x) b x.end)
    asked_more true = omega arith
    asked_more false = omega arith

    -- the peer is asked, and frames of path validation are taken
    module _ (y z : ConnectionValue H K R C) (asks : y ≡ drawing y.random (with_end x (challenged_anew (words_at stream x) (nat_lt x.end.validation.drawn most_challenges) x.end))) (more : Draws stream x y)
        (takes : z ≡ with_end y (path_frames_taken (items o.payload) y.end)) where
      kept_random : z.random ≡ y.random
      kept_random = ap (λ (u : ConnectionValue H K R C). u.random) takes

      kept_words : words_drawn z.end ≡ words_drawn y.end
      kept_words = ap (λ (u : ConnectionValue H K R C). words_drawn u.end) takes ∙ frames_words (items o.payload) y.end

      pub moves_end : let before = drawn p.words v.end in z ≡ drawing z.random (with_end (hearing v heard) (repaced (window v.control) before (migrated p o remote before)))
      moves_end =
          let there = drawn p.words (on_path (window v.control) remote v.end) in
          takes
          ∙ ap (λ (u : ConnectionValue H K R C). with_end u (path_frames_taken (items o.payload) u.end)) asks
          ∙ ap (λ (e : End). drawing y.random (with_end x (path_frames_taken (items o.payload) e))) (asked_so (nat_lt x.end.validation.drawn most_challenges))
          ∙ ap (λ (u : ConnectionValue H K R C). drawing y.random (with_end u (path_frames_taken (items o.payload) (challenged_anew p.words (nat_lt u.end.validation.drawn most_challenges) u.end)))) ids_are
          ∙ ap (λ (e : End). drawing y.random (with_end (hearing v heard) e)) (steps_lead p o (window v.control) remote v.end)
          ∙ ap (λ (r : R). drawing r (with_end (hearing v heard) (repaced (window v.control) (drawn p.words v.end) (migrated p o remote (drawn p.words v.end))))) (sym kept_random)

      pub moves_random : Draws stream v z
      moves_random =
          let first : words_drawn w.end ≤ words_drawn x.end = subst (λ (k : ℕ). words_drawn w.end ≤ k) (sym (ap (λ (u : ConnectionValue H K R C). words_drawn u.end) ids)) (drawn_more (policy w).words w.end) in
          let second : words_drawn x.end ≤ words_drawn y.end = subst (λ (k : ℕ). words_drawn x.end ≤ k) (sym (ap (λ (u : ConnectionValue H K R C). words_drawn u.end) asks)) (asked_more (nat_lt x.end.validation.drawn most_challenges)) in
          ap stream kept_random
          ∙ draws_then stream w x y first second draws more
          ∙ ap (λ (r : R). after_words (words_drawn y.end - words_drawn w.end) (stream r)) made_random
          ∙ ap (λ (k : ℕ). after_words (words_drawn y.end - k) (stream v.random)) made_words
          ∙ ap (λ (k : ℕ). after_words (k - words_drawn v.end) (stream v.random)) (sym kept_words)

-- an end that fails on the way fails
pub fails_so : {H K R C : Type 0} (v w z : ConnectionValue H K R C) → w ≡ with_end v w.end → HasFailed w z → HasFailed v z
fails_so {H} {K} {R} {C} v w z same failed = record {
  state = failed.state;
  reason = failed.reason;
  keys = failed.keys ∙ ap (λ (x : ConnectionValue H K R C). record x { end = z.end; control = z.control; heard = z.heard }) same;
}
