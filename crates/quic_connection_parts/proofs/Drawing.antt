-- Words that an end draws of its random source, and those by which a path is validated.
use Rattle.std.proofs.Common.{◌≡◌, ℕ, ◌+◌, ◌-◌, ◌*◌, ◌<◌, ◌≤◌, ◌^◌, Bool, true, false, None, sym, ap, ◌∙◌, arith}
use Rattle.std.specs.Prelude.{nat_lt}
use Rattle.std.proofs.lemmas.Nat.{from_be_bytes-to_be_bytes_8}
use Rattle.rand_core.specs.Stream.{Stream}
use Rattle.quic_packet.specs.Keys.{Protection, Aead}
use Rattle.quic_time.specs.Timers.{Timers}
use Rattle.quic_retransmits.specs.Retransmits.{Retransmits}
use Rattle.quic_machine.specs.Ids as ids
use Rattle.quic_machine.specs.Ids.{Ids, words_behind, drawn_places, ids_drawn}
use Rattle.quic_machine.specs.IdFrames.{drawn}
use Rattle.quic_machine.specs.End.{ConnectionValue, with_end, with_ids, with_frames, with_path_timer, challenged, drawing, words_drawn, policy_of}
use Rattle.quic_machine.specs.Validation.{token_of, word_of, most_challenges, challenged_anew, path_expired}
use Rattle.quic_connection_parts.specs.Drawn.{words_of, words_at, after_words, Draws}
use Rattle.quic_connection_parts.proofs.Words.{after_both}

-- the word of eight bytes that tell one
pub token_back : (n : ℕ) → n < 2 ^ 64 → word_of (token_of n) ≡ n
token_back n fits = from_be_bytes-to_be_bytes_8 n fits

-- the next word is the first that the source answers
pub first_word : {H K R C : Type 0} (stream : R → Stream) (w : ConnectionValue H K R C) → words_at stream w (words_drawn w.end) ≡ words_of stream w.random 0
first_word stream w = ap (λ (k : ℕ). words_of stream w.random k) (let none : words_drawn w.end - words_drawn w.end ≡ 0 = omega arith in none)

-- none is drawn, or one
pub draws_same : (n : ℕ) (s : Stream) → s ≡ after_words (n - n) s
draws_same n s = ap (λ (k : ℕ). after_words k s) (let none : 0 ≡ n - n = omega arith in none)

pub draws_none : {H K R C : Type 0} (stream : R → Stream) (old new : ConnectionValue H K R C) → stream new.random ≡ stream old.random → words_drawn new.end ≡ words_drawn old.end → Draws stream old new
draws_none stream old new same drawn = same ∙ ap (λ (k : ℕ). after_words k (stream old.random)) (let none : 0 ≡ words_drawn new.end - words_drawn old.end = omega (arith, drawn) in none)

pub draws_one : {H K R C : Type 0} (stream : R → Stream) (old new : ConnectionValue H K R C) → stream new.random ≡ after_words 1 (stream old.random) → words_drawn new.end ≡ words_drawn old.end + 1 → Draws stream old new
draws_one stream old new same drawn = same ∙ ap (λ (k : ℕ). after_words k (stream old.random)) (let one : 1 ≡ words_drawn new.end - words_drawn old.end = omega (arith, drawn) in one)

-- the words of an end's policy, from those on that aren't drawn
pub policy_words : {H K R C : Type 0} (protection : H → Protection) (aead : K → Aead) (seals openings : K → ℕ) (words : R → ℕ → ℕ) (w : ConnectionValue H K R C) → words_behind (words_drawn w.end) (policy_of protection aead seals openings words w).words ≡ words w.random
policy_words protection aead seals openings words w = λ i n. ap (λ (k : ℕ). words w.random k) (same n) i
  where
    same : (n : ℕ) → words_drawn w.end + n - words_drawn w.end ≡ n
    same n = omega arith

-- ids that were still to be drawn are
pub ids_words : (f v issued undrawn : ℕ) → undrawn + 1 ≤ issued → 3 * undrawn ≡ (f + 3 * (issued - 1 - 0) + v) - (f + 3 * (issued - 1 - undrawn) + v)
ids_words f v issued undrawn few = omega arith

-- what comes to as many words in two steps
pub draws_then : {H K R C : Type 0} (stream : R → Stream) (a b c : ConnectionValue H K R C) → words_drawn a.end ≤ words_drawn b.end → words_drawn b.end ≤ words_drawn c.end → Draws stream a b → Draws stream b c → Draws stream a c
draws_then stream a b c first second one two =
    two
    ∙ ap (λ (s : Stream). after_words (words_drawn c.end - words_drawn b.end) s) one
    ∙ after_both (words_drawn b.end - words_drawn a.end) (words_drawn c.end - words_drawn b.end) (stream a.random)
    ∙ ap (λ (k : ℕ). after_words k (stream a.random)) (let sum : words_drawn b.end - words_drawn a.end + (words_drawn c.end - words_drawn b.end) ≡ words_drawn c.end - words_drawn a.end = omega arith in sum)

-- ---- ids that are drawn behind a packet

-- the own ids that live and those that wait to be told, drawn of an end's words, are those that its
-- policy draws
pub draws_ids : {H K R C : Type 0} (protection : H → Protection) (aead : K → Aead) (seals openings : K → ℕ) (stream : R → Stream) (v w : ConnectionValue H K R C) (r : R) (left : Ids) (frames : Retransmits) → v ≡ w
    → left ≡ ids_drawn (drawn_places v.end.ids.undrawn (words_of stream v.random) (record { living = v.end.ids.living; waiting = v.end.waiting.frames.new_cids })) v.end.ids
    → frames ≡ record v.end.waiting.frames { new_cids = (drawn_places v.end.ids.undrawn (words_of stream v.random) (record { living = v.end.ids.living; waiting = v.end.waiting.frames.new_cids })).waiting }
    → drawing r (with_end v (with_frames (with_ids v.end left) frames)) ≡ drawing r (with_end w (drawn (policy_of protection aead seals openings (words_of stream) w).words w.end))
draws_ids {H} {K} {R} {C} protection aead seals openings stream v w r left frames same lives waits =
    ap (λ (x : Ids). drawing r (with_end v (with_frames (with_ids v.end x) frames))) lives
    ∙ ap (λ (x : Retransmits). drawing r (with_end v (with_frames (with_ids v.end (ids_drawn (places (words_of stream v.random)) v.end.ids)) x))) waits
    ∙ ap (λ (f : ℕ → ℕ). drawing r (with_end v (with_frames (with_ids v.end (ids_drawn (places f) v.end.ids)) (record v.end.waiting.frames { new_cids = (places f).waiting })))) (sym (policy_words protection aead seals openings (words_of stream) v))
    ∙ ap (λ (x : ConnectionValue H K R C). drawing r (with_end x (drawn (policy_of protection aead seals openings (words_of stream) x).words x.end))) same
  where
    places : (ℕ → ℕ) → ids.Drawing
    places f = drawn_places v.end.ids.undrawn f (record { living = v.end.ids.living; waiting = v.end.waiting.frames.new_cids })

-- ---- the timer of path validation

module _ {H K R C : Type 0} (stream : R → Stream) (w : ConnectionValue H K R C) where
  -- it hasn't come
  pub path_waits_on : (came : Bool) → came ≡ false → w ≡ drawing w.random (with_end w (path_expired (words_at stream w) came w.end))
  path_waits_on came not_yet = sym (ap (λ (b : Bool). with_end w (path_expired (words_at stream w) b w.end)) not_yet)

  abbrev Anew : ConnectionValue H K R C → Bool → Type 0
  Anew x few = x ≡ drawing x.random (with_end w (challenged_anew (words_at stream w) few w.end))

  -- it has
  pub path_expires : (came : Bool) → came ≡ true → (x : ConnectionValue H K R C) → Anew x (nat_lt w.end.validation.drawn most_challenges) → x ≡ drawing x.random (with_end w (path_expired (words_at stream w) came w.end))
  path_expires came come x is = is ∙ ap (λ (c : Bool). drawing x.random (with_end w (path_expired (words_at stream w) c w.end))) (sym come)

  -- the peer is asked anew
  pub path_asks : (few : Bool) → few ≡ true → (x : ConnectionValue H K R C) → x ≡ drawing x.random (with_end w (challenged (words_of stream w.random 0) w.end)) → Anew x few
  path_asks few so x is =
      is
      ∙ ap (λ (k : ℕ). drawing x.random (with_end w (challenged k w.end))) (sym (first_word stream w))
      ∙ ap (λ (c : Bool). drawing x.random (with_end w (challenged_anew (words_at stream w) c w.end))) (sym so)

  -- or it was often enough
  pub path_gives_up : (few : Bool) → few ≡ false → (v : ConnectionValue H K R C) → v ≡ w → (t : Timers) → t ≡ with_path_timer v.end.timers None → with_end v (record v.end { timers = t }) ≡ drawing v.random (with_end w (challenged_anew (words_at stream w) few w.end))
  path_gives_up few so v same t is =
      ap (λ (x : Timers). with_end v (record v.end { timers = x })) is
      ∙ ap (λ (y : ConnectionValue H K R C). drawing v.random (with_end y (challenged_anew (words_at stream y) false y.end))) same
      ∙ ap (λ (c : Bool). drawing v.random (with_end w (challenged_anew (words_at stream w) c w.end))) (sym so)
