-- The datagram of a close: its frame stands alone in it, and its text is cut so that it fits.
use Rattle.std.proofs.Common.{◌≡◌, ℕ, zero, suc, ◌+◌, ◌-◌, ◌≤◌, ◌<◌, ◌^◌, ◌&&◌, ◌⊎◌, inl, inr, Bool, true, false, List, [], ◌∷◌, ◌++◌, length, take, replicate, max, min, Option, Some, None, refl, sym, ap, ◌∙◌, subst, arith}
use Rattle.std.specs.Prelude.{◌*◌, not, nat_lt, nat_le, ◌||◌, if◌then◌else◌, IfSome, IsSome, option_map, Result, Ok}
use Rattle.std.specs.Option.{is_some}
use Rattle.std.proofs.lemmas.List.{append-nil, length-append, length-take}
use Rattle.std.proofs.lemmas.Bool.{and_parts, ltb-true, ltb-false}
use Rattle.std.proofs.lemmas.Bool.Decides.{leb_tells}
use Rattle.rand_core.specs.Stream.{Stream}
use Rattle.quic_wire_core.specs.declared.shared.EcnCodepoint.{EcnCodepoint}
use Rattle.quic_wire_core.specs.Varint.{shortest}
use Rattle.quic_wire_core.specs.Law.{length-shortest}
use Rattle.quic_wire.specs.NumbersWritten.{written}
use Rattle.quic_wire.specs.Value.{FrameValue, connection_close, application_close, asks}
use Rattle.quic_wire.specs.Writing.{spelling, frame_size}
use Rattle.quic_packet.specs.Keys.{Protection, Aead}
use Rattle.quic_packet.specs.Number.{width_for}
use Rattle.quic_packet.specs.Datagram.{sent}
use Rattle.quic_spaces.specs.Numbers.{cut_against, may_give}
use Rattle.quic_machine.specs.declared.answers.Failed.{Failed}
use Rattle.quic_machine.specs.declared.answers.Transmit.{Transmit}
use Rattle.quic_machine.specs.Policy.{Policy}
use Rattle.quic_machine.specs.Ids.{destination}
use Rattle.quic_machine.specs.End.{End, ConnectionValue, policy_of, with_closing, with_number_given, number_of}
use Rattle.quic_machine.specs.Closing.{close_owed, close_given}
use Rattle.quic_machine.specs.Poll.{Draft, closing, draft_as, datagram_of, payload_of, zeros_behind, number_width, most_ordinary, close_room, close_with, longest_fitting, fitted, close_to_go, may_close, can_close, after_close, Polled, gives_nothing, gives_datagram, mark_of, closes_if, closes}
use Rattle.quic_connection_parts.specs.Drawn.{words_of}
use Rattle.quic_connection_parts.specs.Given.{given_bytes}
use Rattle.quic_connection_parts.proofs.Drawing.{first_word}

-- ---- its datagram

-- a number takes a byte at least
pub width_some : (n : ℕ) → 1 ≤ width_for n
width_some n = go (nat_lt (2 * n) 256) (nat_lt (2 * n) 65536) (nat_lt (2 * n) 16777216)
  where
    go : (a b c : Bool) → 1 ≤ (if a then 1 else (if b then 2 else (if c then 3 else 4)))
    go true b c = omega arith
    go false true c = omega arith
    go false false true = omega arith
    go false false false = omega arith

-- a frame that doesn't ask, and is long enough for a sample, is the payload
pub close_payload : (e : End) (f : FrameValue) → asks f ≡ false → 3 ≤ length (spelling f) → payload_of (draft_as (closing f) e) ≡ spelling f
close_payload e f none long = ap (λ (k : ℕ). spelling f ++ replicate k 0) zeros ∙ append-nil (spelling f)
  where
    d : Draft
    d = draft_as (closing f) e

    least : (b : Bool) → (if b && (asks f || false) then max 0 (most_ordinary e) else 0) ≡ 0
    least true = ap (λ (a : Bool). if (a || false) then max 0 (most_ordinary e) else 0) none
    least false = refl

    zeros : zeros_behind d ≡ 0
    zeros =
        let some = width_some (number_of e - cut_against e.numbers) in
        ap (λ (a : Bool). max (4 - (number_width d + length (spelling f))) ((if e.transport.pad_to_mtu && (a || false) then max 0 (most_ordinary e) else 0) - (1 + length (destination e.ids) + number_width d + 16 + length (spelling f)))) none
        ∙ go e.transport.pad_to_mtu some
      where
        go : (b : Bool) → 1 ≤ number_width d → max (4 - (number_width d + length (spelling f))) ((if b && false then max 0 (most_ordinary e) else 0) - (1 + length (destination e.ids) + number_width d + 16 + length (spelling f))) ≡ 0
        go true some = omega (arith, some, long)
        go false some = omega (arith, some, long)

pub close_datagram : (p : Policy) (e : End) (f : FrameValue) → asks f ≡ false → 3 ≤ length (spelling f)
    → sent p.header p.packet (number_of e) (cut_against e.numbers) e.ids.peer.id (spelling f) ≡ datagram_of p (draft_as (closing f) e)
close_datagram p e f none long = ap (λ (z : List ℕ). sent p.header p.packet (number_of e) (cut_against e.numbers) e.ids.peer.id z) (sym (close_payload e f none long))

-- ---- whether it may go

-- where it may, its number has a form, and lies near the greatest that was acknowledged
pub close_gives_number : (p : Policy) (e : End) → IsSome (close_to_go p e) → may_give e.numbers (number_of e) ≡ true
close_gives_number p e = go (may_close p e) refl
  where
    go : (b : Bool) → may_close p e ≡ b → IsSome (if b then option_map (fitted (close_room e)) (close_owed e.closing) else None) → may_give e.numbers (number_of e) ≡ true
    go true is some =
        let parts = and_parts (not e.path.blocked) (can_close p e) is in
        (and_parts (may_give e.numbers (number_of e)) (nat_lt e.numbers.sealed p.seals) parts.1).0
    go false is some = let clash : ◌≡◌ {A = Bool} false true = some in absurd cc

-- what goes is what is owed, cut so that it fits
pub close_is : (p : Policy) (e : End) (P : FrameValue → Type 0) → IfSome (close_owed e.closing) (λ f. P (fitted (close_room e) f)) → IfSome (close_to_go p e) P
close_is p e P = go (may_close p e) (close_owed e.closing)
  where
    go : (b : Bool) (o : Option FrameValue) → IfSome o (λ f. P (fitted (close_room e) f)) → IfSome (if b then option_map (fitted (close_room e)) o else None) P
    go true (Some f) i = i
    go true None i = tt
    go false o i = tt

-- where it goes, one is owed
pub close_owes : (p : Policy) (e : End) → IsSome (close_to_go p e) → IsSome (close_owed e.closing)
close_owes p e = go (may_close p e) (close_owed e.closing)
  where
    go : (b : Bool) (o : Option FrameValue) → IsSome (if b then option_map (fitted (close_room e)) o else None) → IsSome o
    go true (Some f) some = refl
    go true None some = some
    go false (Some f) some = refl
    go false None some = some

-- where none goes, nothing is given
pub close_none : (p : Policy) (e : End) → is_some (close_to_go p e) ≡ false → closes p e ≡ gives_nothing e
close_none p e = go (close_to_go p e)
  where
    go : (o : Option FrameValue) → is_some o ≡ false → closes_if o p e ≡ gives_nothing e
    go None none = refl
    go (Some f) none = absurd cc

-- what holds of the close that goes holds of what is given
pub closes_so : (p : Policy) (e : End) (P : Polled → Type 0) → IsSome (close_to_go p e) → IfSome (close_to_go p e) (λ f. P (gives_datagram (datagram_of p (draft_as (closing f) e)) (after_close p (draft_as (closing f) e)))) → P (closes p e)
closes_so p e P = go (close_to_go p e)
  where
    go : (o : Option FrameValue) → IsSome o → IfSome o (λ f. P (gives_datagram (datagram_of p (draft_as (closing f) e)) (after_close p (draft_as (closing f) e)))) → P (closes_if o p e)
    go None some i = let clash : ◌≡◌ {A = Bool} false true = some in absurd cc
    go (Some f) some i = i

pub some_is : {A : Type 0} (o : Option A) → is_some o ≡ true → IsSome o
some_is None is = absurd cc
some_is (Some x) is = refl

-- whether it goes: it is owed, and may
pub goes_by : (p : Policy) (e : End) → is_some (close_to_go p e) ≡ (not e.path.blocked && (is_some (close_owed e.closing) && can_close p e))
goes_by p e = go e.path.blocked (can_close p e) (close_owed e.closing)
  where
    go : (b can : Bool) (o : Option FrameValue) → is_some (if not b && can then option_map (fitted (close_room e)) o else None) ≡ (not b && (is_some o && can))
    go true can o = refl
    go false true None = refl
    go false true (Some f) = refl
    go false false None = refl
    go false false (Some f) = refl

-- two facts of what there may be
pub if_both : {A : Type 0} {P Q S : A → Type 0} (o : Option A) → IfSome o P → IfSome o Q → ((x : A) → P x → Q x → S x) → IfSome o S
if_both None p q f = tt
if_both (Some x) p q f = f x p q

-- what is the same of each, where there is one
pub where_some : {A : Type 0} {P : A → Type 0} {Q : Type 0} (o : Option A) → IsSome o → ((x : A) → P x → Q) → IfSome o P → Q
where_some None some f p = let clash : ◌≡◌ {A = Bool} false true = some in absurd cc
where_some (Some x) some f p = f x p

-- what is said of any there is said of what there may be
pub if_any : {A : Type 0} {P : A → Type 0} (o : Option A) → ((x : A) → P x) → IfSome o P
if_any None all = tt
if_any (Some x) all = all x

-- what follows from one fact of what there may be
pub if_so : {A : Type 0} {P Q : A → Type 0} (o : Option A) → ((x : A) → P x → Q x) → IfSome o P → IfSome o Q
if_so None f p = tt
if_so (Some x) f p = f x p

-- ---- what is given where it goes

module _ {H K R C : Type 0} (protection : H → Protection) (aead : K → Aead) (seals openings : K → ℕ) (stream : R → Stream) (w : ConnectionValue H K R C) where
  abbrev as_policy : Policy
  as_policy = policy_of protection aead seals openings (words_of stream) w

  module _ (some : IsSome (close_to_go as_policy w.end)) where
    -- the next word of the random source says which number is left out next
    pub close_leaves : (x : End) → x ≡ with_closing (with_number_given (words_of stream w.random 0) w.end) (close_given w.end.closing) → x ≡ (closes as_policy w.end).end
    close_leaves x is = closes_so as_policy w.end (λ (q : Polled). x ≡ q.end) some
        (if_any (close_to_go as_policy w.end) (λ f. is ∙ ap (λ (k : ℕ). with_closing (with_number_given k w.end) (close_given w.end.closing)) (sym (first_word stream w))))

    module _ (front out : List ℕ) (put : IfSome (close_to_go as_policy w.end) (λ f. out ≡ front ++ datagram_of as_policy (draft_as (closing f) w.end))) where
      pub close_appends : out ≡ front ++ given_bytes (closes as_policy w.end).datagram
      close_appends = closes_so as_policy w.end (λ (q : Polled). out ≡ front ++ given_bytes q.datagram) some put

      pub close_answers : (size : ℕ) (mark : Option EcnCodepoint) (remote : ℕ) → length out ≡ length front + size → mark ≡ mark_of w.end.path.marking → remote ≡ w.end.path.remote
          → ◌≡◌ {A = Result (Option Transmit) Failed} (Ok (Some (record { size = size; ecn = mark; remote = remote }))) (closes as_policy w.end).answer
      close_answers size mark remote long marked addressed = closes_so as_policy w.end (λ (q : Polled). ◌≡◌ {A = Result (Option Transmit) Failed} (Ok (Some (record { size = size; ecn = mark; remote = remote }))) q.answer) some
          (if_so (close_to_go as_policy w.end) (λ f is.
          (let all = ap length is ∙ length-append front (datagram_of as_policy (draft_as (closing f) w.end)) in
          let bytes : ℕ = length (datagram_of as_policy (draft_as (closing f) w.end)) in
          let same : size ≡ bytes = omega (arith, all, long) in
          ap (λ (k : ℕ). Ok (Some (record { size = k; ecn = mark; remote = remote }))) same
          ∙ ap (λ (m : Option EcnCodepoint). Ok (Some (record { size = bytes; ecn = m; remote = remote }))) marked
          ∙ ap (λ (n : ℕ). Ok (Some (record { size = bytes; ecn = mark_of w.end.path.marking; remote = n }))) addressed)) put)

-- ---- how much of a text fits

-- of a text with so many bytes at most, a close has as many as this, and no more
pub longest_is : (room code : ℕ) (text : List ℕ) (most n : ℕ) → n ≤ length text
    → ((m : ℕ) → m ≤ length text → (frame_size (close_with code text m) ≤ room → m ≤ most) × (m ≤ most → frame_size (close_with code text m) ≤ room))
    → longest_fitting room code text n ≡ min n most
longest_is room code text most zero few decides = omega arith
longest_is room code text most (suc n) few decides = go (leb_tells (frame_size (close_with code text (suc n))) room) (longest_is room code text most n (omega arith) decides)
  where
    here : (frame_size (close_with code text (suc n)) ≤ room → suc n ≤ most) × (suc n ≤ most → frame_size (close_with code text (suc n)) ≤ room)
    here = decides (suc n) few

    go : ((nat_le (frame_size (close_with code text (suc n))) room ≡ true) × (frame_size (close_with code text (suc n)) ≤ room)) ⊎ ((nat_le (frame_size (close_with code text (suc n))) room ≡ false) × (room < frame_size (close_with code text (suc n))))
        → longest_fitting room code text n ≡ min n most
        → (if nat_le (frame_size (close_with code text (suc n))) room then suc n else longest_fitting room code text n) ≡ min (suc n) most
    go (inl t) before = let le = here.0 t.1 in ap (λ (b : Bool). if b then suc n else longest_fitting room code text n) t.0 ∙ (let same : suc n ≡ min (suc n) most = omega (arith, le) in same)
    go (inr t) before =
        let lt = t.1 in
        let above : most < suc n = not_below (here.1) lt in
        ap (λ (b : Bool). if b then suc n else longest_fitting room code text n) t.0 ∙ before ∙ (let same : min n most ≡ min (suc n) most = omega (arith, above) in same)
      where
        by : most < suc n ⊎ suc n ≤ most → (suc n ≤ most → frame_size (close_with code text (suc n)) ≤ room) → room < frame_size (close_with code text (suc n)) → most < suc n
        by (inl is) fits more = is
        by (inr le) fits more = let small = fits le in absurd (omega (arith, small, more))

        split : (a b : ℕ) → a < b ⊎ b ≤ a
        split a b = tells (leb_tells b a)
          where
            tells : ((nat_le b a ≡ true) × (b ≤ a)) ⊎ ((nat_le b a ≡ false) × (a < b)) → a < b ⊎ b ≤ a
            tells (inl t) = inr t.1
            tells (inr t) = inl t.1

        not_below : (suc n ≤ most → frame_size (close_with code text (suc n)) ≤ room) → room < frame_size (close_with code text (suc n)) → most < suc n
        not_below fits more = by (split most (suc n)) fits more

-- ---- how long a text is that fits behind its length

-- how many bytes a number takes, by how great it is
abbrev Takes : ℕ → ℕ → Type 0
Takes v w = ((v < 64) × (w ≡ 1)) ⊎ (((64 ≤ v) × (v < 16384) × (w ≡ 2)) ⊎ (((16384 ≤ v) × (v < 1073741824) × (w ≡ 4)) ⊎ ((1073741824 ≤ v) × (w ≡ 8))))

takes : (v : ℕ) → Takes v (length (shortest v))
takes v = subst (λ (w : ℕ). Takes v w) (sym (length-shortest v)) (go (nat_lt v (2 ^ 6)) (nat_lt v (2 ^ 14)) (nat_lt v (2 ^ 30)) refl refl refl)
  where
    go : (a b c : Bool) → nat_lt v (2 ^ 6) ≡ a → nat_lt v (2 ^ 14) ≡ b → nat_lt v (2 ^ 30) ≡ c → Takes v (if a then 1 else (if b then 2 else (if c then 4 else 8)))
    go true b c p q r = let lt = ltb-true v (2 ^ 6) p in inl (omega (arith, lt), refl)
    go false true c p q r = let ge = ltb-false v (2 ^ 6) p in let lt = ltb-true v (2 ^ 14) q in inr (inl (omega (arith, ge), omega (arith, lt), refl))
    go false false true p q r = let ge = ltb-false v (2 ^ 14) q in let lt = ltb-true v (2 ^ 30) r in inr (inr (inl (omega (arith, ge), omega (arith, lt), refl)))
    go false false false p q r = let ge = ltb-false v (2 ^ 30) r in inr (inr (inr (omega (arith, ge), refl)))

-- one at least, and eight at most
number_some : (v : ℕ) → 1 ≤ length (shortest v)
number_some v = go (takes v)
  where
    go : Takes v (length (shortest v)) → 1 ≤ length (shortest v)
    go (inl t) = let w = t.1 in omega (arith, w)
    go (inr (inl t)) = let w = t.2 in omega (arith, w)
    go (inr (inr (inl t))) = let w = t.2 in omega (arith, w)
    go (inr (inr (inr t))) = let w = t.1 in omega (arith, w)

number_most : (v : ℕ) → length (shortest v) ≤ 8
number_most v = go (takes v)
  where
    go : Takes v (length (shortest v)) → length (shortest v) ≤ 8
    go (inl t) = let w = t.1 in omega (arith, w)
    go (inr (inl t)) = let w = t.2 in omega (arith, w)
    go (inr (inr (inl t))) = let w = t.2 in omega (arith, w)
    go (inr (inr (inr t))) = let w = t.1 in omega (arith, w)

-- the longest text behind a length of one byte, of two, or of four
abbrev pub longest_in : ℕ → ℕ
longest_in room = max (max (min (room - 1) 63) (min (room - 2) 16383)) (min (room - 4) 1073741823)

pub longest_fits : (room r : ℕ) → 1 ≤ room → room < 1073741824 → r ≡ longest_in room → r + length (shortest r) ≤ room
longest_fits room r some few is = go (takes r)
  where
    go : Takes r (length (shortest r)) → r + length (shortest r) ≤ room
    go (inl t) = let w = t.1 in omega (arith, w, some, is)
    go (inr (inl t)) = let low = t.0 in let w = t.2 in omega (arith, low, w, is)
    go (inr (inr (inl t))) = let low = t.0 in let w = t.2 in omega (arith, low, w, is)
    go (inr (inr (inr t))) = let low = t.0 in absurd (omega (arith, low, few, is))

pub longest_none : (room r n : ℕ) → room < 1073741824 → r ≡ longest_in room → n + length (shortest n) ≤ room → n ≤ r
longest_none room r n few is fits = go (takes n)
  where
    go : Takes n (length (shortest n)) → n ≤ r
    go (inl t) = let lt = t.0 in let w = t.1 in omega (arith, lt, w, is, fits)
    go (inr (inl t)) = let lt = t.1 in let w = t.2 in omega (arith, lt, w, is, fits)
    go (inr (inr (inl t))) = let lt = t.1 in let w = t.2 in omega (arith, lt, w, is, fits)
    go (inr (inr (inr t))) = let low = t.0 in absurd (omega (arith, low, few, fits))

-- ---- the application's close

-- how many bytes it has with so much of its text
close_size : (code : ℕ) (text : List ℕ) (n : ℕ) → n ≤ length text → frame_size (close_with code text n) ≡ 1 + length (shortest code) + length (shortest n) + n
close_size code text n few =
    let long : length (take n text) ≡ n = omega (arith, length-take n text, few) in
    ap (λ (k : ℕ). length (shortest (29)) + (length (shortest code) + (length (shortest k) + 0)) + k) long ∙ (let same : length (shortest (29)) + (length (shortest code) + (length (shortest n) + 0)) + n ≡ 1 + length (shortest code) + length (shortest n) + n = omega arith in same)

-- a lesser number takes no more bytes
shorter_is : (m most : ℕ) → Takes m (length (shortest m)) → Takes most (length (shortest most)) → m ≤ most → length (shortest m) ≤ length (shortest most)
shorter_is m most (inl t) big le = let w = t.1 in let one = number_some most in omega (arith, w, one)
shorter_is m most (inr (inl t)) (inl u) le = let low = t.0 in let high = u.0 in absurd (omega (arith, low, high, le))
shorter_is m most (inr (inl t)) (inr (inl u)) le = let w = t.2 in let v = u.2 in omega (arith, w, v)
shorter_is m most (inr (inl t)) (inr (inr (inl u))) le = let w = t.2 in let v = u.2 in omega (arith, w, v)
shorter_is m most (inr (inl t)) (inr (inr (inr u))) le = let w = t.2 in let v = u.1 in omega (arith, w, v)
shorter_is m most (inr (inr (inl t))) (inl u) le = let low = t.0 in let high = u.0 in absurd (omega (arith, low, high, le))
shorter_is m most (inr (inr (inl t))) (inr (inl u)) le = let low = t.0 in let high = u.1 in absurd (omega (arith, low, high, le))
shorter_is m most (inr (inr (inl t))) (inr (inr (inl u))) le = let w = t.2 in let v = u.2 in omega (arith, w, v)
shorter_is m most (inr (inr (inl t))) (inr (inr (inr u))) le = let w = t.2 in let v = u.1 in omega (arith, w, v)
shorter_is m most (inr (inr (inr t))) (inl u) le = let low = t.0 in let high = u.0 in absurd (omega (arith, low, high, le))
shorter_is m most (inr (inr (inr t))) (inr (inl u)) le = let low = t.0 in let high = u.1 in absurd (omega (arith, low, high, le))
shorter_is m most (inr (inr (inr t))) (inr (inr (inl u))) le = let low = t.0 in let high = u.1 in absurd (omega (arith, low, high, le))
shorter_is m most (inr (inr (inr t))) (inr (inr (inr u))) le = let w = t.1 in let v = u.1 in omega (arith, w, v)

-- so much of it goes in a room of so many bytes
pub longest_goes : (room code : ℕ) (text : List ℕ) (most : ℕ) → length (shortest code) ≤ 8 → 10 ≤ room → most + length (shortest most) ≤ room - 1 - length (shortest code) → ((n : ℕ) → n + length (shortest n) ≤ room - 1 - length (shortest code) → n ≤ most) → longest_fitting room code text (length text) ≡ min (length text) most
longest_goes room code text most short some all longest = longest_is room code text most (length text) (omega arith) (λ m within. (goes m within, fits m within))
  where
    goes : (m : ℕ) → m ≤ length text → frame_size (close_with code text m) ≤ room → m ≤ most
    goes m within le =
        let size = close_size code text m within in
        longest m (omega (arith, size, le))

    fits : (m : ℕ) → m ≤ length text → m ≤ most → frame_size (close_with code text m) ≤ room
    fits m within le =
        let size = close_size code text m within in
        let more = shorter_is m most (takes m) (takes most) le in
        omega (arith, size, more, all, le, short, some)

-- so the frame with it has room
pub longest_room : (room code : ℕ) (text : List ℕ) (most n : ℕ) → length (shortest code) ≤ 8 → 10 ≤ room → most + length (shortest most) ≤ room - 1 - length (shortest code) → n ≤ length text → n ≤ most → frame_size (close_with code text n) ≤ room
longest_room room code text most n short some all within le =
    let size = close_size code text n within in
    let more = shorter_is n most (takes n) (takes most) le in
    omega (arith, size, more, all, le, short, some)

-- ---- how long a close is

-- three numbers take three bytes at least
three_numbers : (a b c : ℕ) (ns text : List ℕ) → 3 ≤ length (written (a ∷ b ∷ c ∷ ns) ++ text)
three_numbers a b c ns text =
    let whole = length-append (written (a ∷ b ∷ c ∷ ns)) text in
    let first = length-append (shortest a) (written (b ∷ c ∷ ns)) in
    let second = length-append (shortest b) (written (c ∷ ns)) in
    let third = length-append (shortest c) (written ns) in
    let x = number_some a in
    let y = number_some b in
    let z = number_some c in
    omega (arith, whole, first, second, third, x, y, z)

-- so a close has as many
pub transport_three : (code : ℕ) → 3 ≤ length (spelling (connection_close (record { code = code; frame_type = 0; reason = [] })))
transport_three code = three_numbers 28 code 0 (0 ∷ []) []

pub application_three : (code : ℕ) (text : List ℕ) → 3 ≤ length (spelling (application_close (record { code = code; reason = text })))
application_three code text = three_numbers 29 code (length text) [] text

-- one by an error of QUIC has no more than these
pub transport_small : (code : ℕ) → frame_size (connection_close (record { code = code; frame_type = 0; reason = [] })) ≤ 32
transport_small code =
    let kind = number_most 28 in
    let some = number_most code in
    let none = number_most 0 in
    omega (arith, kind, some, none)

-- what is said of the one that is owed
pub owed_so : {A : Type 0} (P : A → Type 0) (o : Option A) (x : A) → o ≡ Some x → P x → IfSome o P
owed_so {A} P o x is p = subst (λ (q : Option A). IfSome q P) (sym is) p

pub owed_none : {A : Type 0} (P : A → Type 0) (o : Option A) → o ≡ None → IfSome o P
owed_none {A} P o is = subst (λ (q : Option A). IfSome q P) (sym is) tt
