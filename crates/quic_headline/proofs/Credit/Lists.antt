-- What the lists of a run say was consumed: of each stream, and of all; it only grows as more is
-- told and more packets come.
use Rattle.std.proofs.Common.{◌≡◌, ℕ, ◌+◌, ◌≤◌, max, Bool, true, false, List, [], ◌∷◌, ◌++◌, length, Option, Some, None, refl, sym, ap, ◌∙◌, subst, arith, ◌⊎◌, inl, inr}
use Rattle.std.specs.Prelude.{◌==◌, ◌||◌, if◌then◌else◌}
use Rattle.std.specs.List.{list_any, sum_by}
use Rattle.std.proofs.lemmas.Bool.{cases_eq, cases_lt, or_left, or_right, or_cases, and_parts, and_from, eqb-true, eq-eqb, ne_eqb, cond-true, cond-false}
use Rattle.std.proofs.lemmas.List.{length-append}
use Rattle.std.proofs.lemmas.List.Sums.{sum_by-cons, sum_by-le-sum_by}
use Rattle.quic_wire.specs.Value.{FrameValue, StreamValue, ResetStreamValue, stream, reset_stream, max_data, max_stream_data, padding}
use Rattle.quic_streams_parts.specs.RecvHalf.{end_of}
use Rattle.quic_streams_laws.specs.Summed.{sum_below}
use Rattle.quic_streams_laws.specs.SummedLaws.{sum_same, sum_one}
use Rattle.quic_headline.specs.Runs.{Told, Packet, In, nexts, reads, bytes_of, tells_end, finished}
use Rattle.quic_headline.specs.Amounts.{greatest_in, greatest}
use Rattle.quic_headline.specs.Unread.{stopped_by, stopped}
use Rattle.quic_headline.specs.Credit.{end_in, resets_stream, was_reset, stream_in, and_stream, streams_in, streams_of, consumed_on, all_consumed, StaysWithin}
use Rattle.quic_headline.specs.Going.{brings_size, size_came}
use Rattle.quic_headline.proofs.Places.Told.{nexts_append, reads_append, bytes_append, tells_append}
use Rattle.quic_headline.proofs.Channel.Sums.{sum_none}

-- ---- one stream

-- of each stream: how far it came, how many bytes were read, whether it was stopped, whether its
-- reset came, whether its end was read, and whether its final size came
pub record Usage : Type 0 where
  pub top : ℕ → ℕ
  pub read : ℕ → ℕ
  pub halted : ℕ → Bool
  pub cut : ℕ → Bool
  pub ended : ℕ → Bool
  pub sized : ℕ → Bool

-- what the lists say of it
abbrev pub usage : List Packet → List Told → Usage
usage packets told = record { top = λ id. greatest (end_in id) packets; read = λ id. length (bytes_of (reads id told)); halted = λ id. stopped id told; cut = λ id. was_reset id packets; ended = λ id. finished id told; sized = λ id. size_came id packets }

-- what was consumed of a stream
abbrev pub used_on : Usage → ℕ → ℕ
used_on u id = max (u.read id) (if u.halted id || u.cut id then u.top id else 0)

-- as much came and was read, or more
pub record UsesMore (u v : Usage) : Type 0 where
  pub top : (id : ℕ) → u.top id ≤ v.top id
  pub read : (id : ℕ) → u.read id ≤ v.read id
  pub halted : (id : ℕ) → u.halted id ≡ true → v.halted id ≡ true
  pub cut : (id : ℕ) → u.cut id ≡ true → v.cut id ≡ true
  pub ended : (id : ℕ) → u.ended id ≡ true → v.ended id ≡ true
  pub sized : (id : ℕ) → u.sized id ≡ true → v.sized id ≡ true

or_more : (a b c d : Bool) → (a ≡ true → c ≡ true) → (b ≡ true → d ≡ true) → (a || b) ≡ true → (c || d) ≡ true
or_more true b c d f g e = or_left c d (f refl)
or_more false b c d f g e = or_right c d (g e)

-- so as much was consumed, or more
pub used_more : (u v : Usage) → UsesMore u v → (id : ℕ) → used_on u id ≤ used_on v id
used_more u v m id = go (u.halted id || u.cut id) (v.halted id || v.cut id) (or_more (u.halted id) (u.cut id) (v.halted id) (v.cut id) (m.halted id) (m.cut id))
  where
    go : (a b : Bool) → (a ≡ true → b ≡ true) → max (u.read id) (if a then u.top id else 0) ≤ max (v.read id) (if b then v.top id else 0)
    go true true f = let top = m.top id in let read = m.read id in omega arith
    go true false f = let clash : false ≡ true = f refl in cc
    go false true f = let read = m.read id in omega arith
    go false false f = let read = m.read id in omega arith

-- where nothing more is read, all that came is
pub used_all : (u : Usage) (id : ℕ) → (u.halted id ≡ true) ⊎ (u.cut id ≡ true) → u.top id ≤ used_on u id
used_all u id over = go (u.halted id || u.cut id) (elim over [ inl is ↦ or_left (u.halted id) (u.cut id) is | inr is ↦ or_right (u.halted id) (u.cut id) is ])
  where
    go : (a : Bool) → a ≡ true → u.top id ≤ max (u.read id) (if a then u.top id else 0)
    go true e = omega arith
    go false e = cc

-- one more behind another
pub uses_then : (u v w : Usage) → UsesMore u v → UsesMore v w → UsesMore u w
uses_then u v w m n = record {
  top = λ id. (let a = m.top id in let b = n.top id in omega arith);
  read = λ id. (let a = m.read id in let b = n.read id in omega arith);
  halted = λ id is. n.halted id (m.halted id is);
  cut = λ id is. n.cut id (m.cut id is);
  ended = λ id is. n.ended id (m.ended id is);
  sized = λ id is. n.sized id (m.sized id is);
}

-- ---- more is told

stopped_front : (id : ℕ) (ts more : List Told) → stopped id ts ≡ true → stopped id (ts ++ more) ≡ true
stopped_front id [] more is = cc
stopped_front id (t ∷ ts) more is = or_more (stopped_by id t.call t.answer) (stopped id ts) (stopped_by id t.call t.answer) (stopped id (ts ++ more)) (λ e. e) (λ e. stopped_front id ts more e) is

-- a stream is stopped by the last call
pub stopped_last : (id : ℕ) (ts : List Told) (t : Told) → stopped_by id t.call t.answer ≡ true → stopped id (ts ++ t ∷ []) ≡ true
stopped_last id [] t is = or_left (stopped_by id t.call t.answer) false is
stopped_last id (u ∷ ts) t is = or_right (stopped_by id u.call u.answer) (stopped id (ts ++ t ∷ [])) (stopped_last id ts t is)

pub told_uses : (packets : List Packet) (ts : List Told) (t : Told) → UsesMore (usage packets ts) (usage packets (ts ++ t ∷ []))
told_uses packets ts t = record {
  top = λ id. omega arith;
  read = λ id. (
      let both : length (bytes_of (reads id (ts ++ t ∷ []))) ≡ length (bytes_of (reads id ts)) + length (bytes_of (reads id (t ∷ []))) =
      ap length (ap bytes_of (reads_append id ts (t ∷ [])) ∙ bytes_append (reads id ts) (reads id (t ∷ []))) ∙ length-append (bytes_of (reads id ts)) (bytes_of (reads id (t ∷ []))) in
      omega (arith, both));
  halted = λ id is. stopped_front id ts (t ∷ []) is;
  cut = λ id is. is;
  ended = λ id is. ap tells_end (nexts_append id ts (t ∷ [])) ∙ tells_append (nexts id ts) (nexts id (t ∷ [])) ∙ or_left (finished id ts) (finished id (t ∷ [])) is;
  sized = λ id is. is;
}

-- ---- the streams of which something came

among_any : (id : ℕ) (js : List ℕ) → list_any (λ (j : ℕ). j == id) js ≡ true → In id js
among_any id [] is = cc
among_any id (j ∷ js) is = go (j == id) refl is (λ e. among_any id js e)
  where
    go : (b : Bool) → (j == id) ≡ b → (b || list_any (λ (k : ℕ). k == id) js) ≡ true → (list_any (λ (k : ℕ). k == id) js ≡ true → In id js) → In id (j ∷ js)
    go true same e rest = inl (sym (eqb-true j id same))
    go false same e rest = inr (rest e)

-- a stream that is added is among them
added : (id : ℕ) (js : List ℕ) → In id (and_stream (Some id) js)
added id js = go (list_any (λ (j : ℕ). j == id) js) refl
  where
    go : (b : Bool) → list_any (λ (j : ℕ). j == id) js ≡ b → In id (if b then js else id ∷ js)
    go true is = among_any id js is
    go false is = inl refl

-- so are those that were before
stays_among : (o : Option ℕ) (js : List ℕ) (j : ℕ) → In j js → In j (and_stream o js)
stays_among None js j i = i
stays_among (Some id) js j i = go (list_any (λ (k : ℕ). k == id) js)
  where
    go : (b : Bool) → In j (if b then js else id ∷ js)
    go true = i
    go false = inr i

stay_among : (fs : List FrameValue) (js : List ℕ) (j : ℕ) → In j js → In j (streams_in fs js)
stay_among [] js j i = i
stay_among (f ∷ fs) js j i = stays_among (stream_in f) (streams_in fs js) j (stay_among fs js j i)

-- the stream whose final size a frame brings is that of the frame
frame_sized : (id : ℕ) (f : FrameValue) → brings_size id f ≡ true → stream_in f ≡ Some id
frame_sized id (stream f) is = ap Some (eqb-true f.id id (and_parts (f.id == id) f.fin is).0)
frame_sized id (reset_stream f) is = ap Some (eqb-true f.id id is)
frame_sized id f is = cc

frames_sized : (id : ℕ) (fs : List FrameValue) (js : List ℕ) → list_any (brings_size id) fs ≡ true → In id (streams_in fs js)
frames_sized id [] js is = cc
frames_sized id (f ∷ fs) js is = elim (or_cases (brings_size id f) (list_any (brings_size id) fs) is) [
  | inl here ↦ subst (λ (o : Option ℕ). In id (and_stream o (streams_in fs js))) (sym (frame_sized id f here)) (added id (streams_in fs js))
  | inr more ↦ stays_among (stream_in f) (streams_in fs js) id (frames_sized id fs js more)
]

-- a stream whose final size came is among those of which something came
pub sized_among : (id : ℕ) (ps : List Packet) → size_came id ps ≡ true → In id (streams_of ps)
sized_among id [] is = cc
sized_among id (p ∷ ps) is = elim (or_cases (list_any (brings_size id) p.frames) (size_came id ps) is) [
  | inl here ↦ frames_sized id p.frames (streams_of ps) here
  | inr more ↦ stay_among p.frames (streams_of ps) id (sized_among id ps more)
]

-- ---- more comes

pub packet_uses : (p : Packet) (packets : List Packet) (ts : List Told) → UsesMore (usage packets ts) (usage (p ∷ packets) ts)
packet_uses p packets ts = record {
  top = λ id. omega arith;
  read = λ id. omega arith;
  halted = λ id is. is;
  cut = λ id is. or_right (list_any (resets_stream id) p.frames) (was_reset id packets) is;
  ended = λ id is. is;
  sized = λ id is. or_right (list_any (brings_size id) p.frames) (size_came id packets) is;
}

-- what a frame says is among what frames say
tells_among : (tells : FrameValue → ℕ) (fs : List FrameValue) (f : FrameValue) → In f fs → tells f ≤ greatest_in tells fs
tells_among tells [] f i = absurd i
tells_among tells (g ∷ fs) f (inl is) = let same : tells f ≡ tells g = ap tells is in omega arith
tells_among tells (g ∷ fs) f (inr i) = let rest = tells_among tells fs f i in omega arith

any_among : (test : FrameValue → Bool) (fs : List FrameValue) (f : FrameValue) → In f fs → test f ≡ true → list_any test fs ≡ true
any_among test [] f i is = absurd i
any_among test (g ∷ fs) f (inl same) is = or_left (test g) (list_any test fs) (subst (λ (x : FrameValue). test x ≡ true) same is)
any_among test (g ∷ fs) f (inr i) is = or_right (test g) (list_any test fs) (any_among test fs f i is)

-- what a frame brings of its stream, and that it resets it, the lists say once it came
pub record SaysFrame (u : Usage) (f : FrameValue) : Type 0 where
  pub brings : (g : StreamValue) → f ≡ stream g → (end_of g ≤ u.top g.id) × (g.fin ≡ true → u.sized g.id ≡ true)
  pub resets : (g : ResetStreamValue) → f ≡ reset_stream g → (g.final_size ≤ u.top g.id) × (u.cut g.id ≡ true) × (u.sized g.id ≡ true)

-- PADDING says nothing
pub padding_said : (u : Usage) → SaysFrame u padding
padding_said u = record { brings = λ g is. cc; resets = λ g is. cc }

pub frame_said : (p : Packet) (packets : List Packet) (ts : List Told) (f : FrameValue) → In f p.frames → SaysFrame (usage (p ∷ packets) ts) f
frame_said p packets ts f i = record {
  brings = λ g is. (
      let most : end_in g.id (stream g) ≤ greatest_in (end_in g.id) p.frames = tells_among (end_in g.id) p.frames (stream g) (subst (λ (x : FrameValue). In x p.frames) is i) in
      let value : end_in g.id (stream g) ≡ end_of g = cond-true (g.id == g.id) (end_of g) 0 (eq-eqb g.id g.id refl) in
      (omega (arith, most, value), λ last. or_left (list_any (brings_size g.id) p.frames) (size_came g.id packets) (any_among (brings_size g.id) p.frames (stream g) (subst (λ (x : FrameValue). In x p.frames) is i) (and_from (g.id == g.id) g.fin (eq-eqb g.id g.id refl) last))));
  resets = λ g is. (
      let there : In (reset_stream g) p.frames = subst (λ (x : FrameValue). In x p.frames) is i in
      let most : end_in g.id (reset_stream g) ≤ greatest_in (end_in g.id) p.frames = tells_among (end_in g.id) p.frames (reset_stream g) there in
      let value : end_in g.id (reset_stream g) ≡ g.final_size = cond-true (g.id == g.id) g.final_size 0 (eq-eqb g.id g.id refl) in
      (omega (arith, most, value), or_left (list_any (resets_stream g.id) p.frames) (was_reset g.id packets) (any_among (resets_stream g.id) p.frames (reset_stream g) there (eq-eqb g.id g.id refl)), or_left (list_any (brings_size g.id) p.frames) (size_came g.id packets) (any_among (brings_size g.id) p.frames (reset_stream g) there (eq-eqb g.id g.id refl))));
}

-- ---- of which nothing came

-- each stream is among them, or nothing came of it
frame_listed : (j : ℕ) (f : FrameValue) (js : List ℕ) → In j (and_stream (stream_in f) js) ⊎ (end_in j f ≡ 0)
frame_listed j (stream f) js = go (f.id == j) refl
  where
    go : (b : Bool) → (f.id == j) ≡ b → In j (and_stream (Some f.id) js) ⊎ ((if b then f.offset + length f.bytes else 0) ≡ 0)
    go true is = inl (subst (λ (k : ℕ). In k (and_stream (Some f.id) js)) (eqb-true f.id j is) (added f.id js))
    go false is = inr refl
frame_listed j (reset_stream f) js = go (f.id == j) refl
  where
    go : (b : Bool) → (f.id == j) ≡ b → In j (and_stream (Some f.id) js) ⊎ ((if b then f.final_size else 0) ≡ 0)
    go true is = inl (subst (λ (k : ℕ). In k (and_stream (Some f.id) js)) (eqb-true f.id j is) (added f.id js))
    go false is = inr refl
frame_listed j f js = inr refl

frames_listed : (j : ℕ) (fs : List FrameValue) (js : List ℕ) → In j (streams_in fs js) ⊎ (greatest_in (end_in j) fs ≡ 0)
frames_listed j [] js = inr refl
frames_listed j (f ∷ fs) js = elim (frames_listed j fs js) [
  | inl i ↦ inl (stays_among (stream_in f) (streams_in fs js) j i)
  | inr none ↦ elim (frame_listed j f (streams_in fs js)) [ inl i ↦ inl i | inr zero ↦ inr (omega (arith, none, zero)) ]
]

pub packets_listed : (j : ℕ) (ps : List Packet) → In j (streams_of ps) ⊎ (greatest (end_in j) ps ≡ 0)
packets_listed j [] = inr refl
packets_listed j (p ∷ ps) = elim (packets_listed j ps) [
  | inl i ↦ inl (stay_among p.frames (streams_of ps) j i)
  | inr none ↦ elim (frames_listed j p.frames (streams_of ps)) [ inl i ↦ inl i | inr zero ↦ inr (omega (arith, none, zero)) ]
]

-- ---- sums

-- without one
sum_less : (n x : ℕ) (c : ℕ → ℕ) → sum_below n c ≤ sum_below n (λ j. if j == x then 0 else c j) + c x
sum_less n x c = elim (cases_lt x n) [
  | inl less ↦ (let one : sum_below n d + c x ≡ sum_below n c + d x = sum_one n x c d less apart in omega (arith, one))
  | inr more ↦ (let same : sum_below n d ≡ sum_below n c = sum_same n c d (λ j below. apart j (λ e. (let at : j ≡ x = e in omega (arith, at, below, more)))) in omega (arith, same))
]
  where
    d : ℕ → ℕ
    d j = if j == x then 0 else c j

    apart : (j : ℕ) → (j ≡ x → ⊥) → d j ≡ c j
    apart j ne = cond-false (j == x) 0 (c j) (ne_eqb j x ne)

-- a sum below a bound is no more than that over some, where what isn't among them is nothing
pub sum_listed : (n : ℕ) (c f : ℕ → ℕ) (xs : List ℕ) → ((j : ℕ) → c j ≤ f j) → ((j : ℕ) → (In j xs → ⊥) → c j ≡ 0) → sum_below n c ≤ sum_by f xs
sum_listed n c f [] less zero = let none = sum_none n c (λ j below. zero j (λ i. i)) in omega (arith, none)
sum_listed n c f (x ∷ xs) less zero =
    let rest : sum_below n d ≤ sum_by f xs = sum_listed n d f xs d_less d_zero in
    let most : sum_below n c ≤ sum_below n d + c x = sum_less n x c in
    let here : c x ≤ f x = less x in
    let both : sum_by f (x ∷ xs) ≡ f x + sum_by f xs = sum_by-cons f x xs in
    omega (arith, rest, most, here, both)
  where
    d : ℕ → ℕ
    d j = if j == x then 0 else c j

    here_none : (j : ℕ) → j ≡ x → d j ≡ 0
    here_none j same = cond-true (j == x) 0 (c j) (eq-eqb j x same)

    apart : (j : ℕ) → (j ≡ x → ⊥) → d j ≡ c j
    apart j ne = cond-false (j == x) 0 (c j) (ne_eqb j x ne)

    d_less : (j : ℕ) → d j ≤ f j
    d_less j = elim (cases_eq j x) [
      | inl same ↦ (let none = here_none j same in omega (arith, none))
      | inr ne ↦ (let alike = apart j ne in let most = less j in omega (arith, alike, most))
    ]

    d_zero : (j : ℕ) → (In j xs → ⊥) → d j ≡ 0
    d_zero j out = elim (cases_eq j x) [
      | inl same ↦ here_none j same
      | inr ne ↦ apart j ne ∙ zero j (λ i. elim i [ inl is ↦ ne is | inr more ↦ out more ])
    ]

-- more streams only add to it
and_more : (f : ℕ → ℕ) (o : Option ℕ) (js : List ℕ) → sum_by f js ≤ sum_by f (and_stream o js)
and_more f None js = omega arith
and_more f (Some id) js = go (list_any (λ (k : ℕ). k == id) js)
  where
    go : (b : Bool) → sum_by f js ≤ sum_by f (if b then js else id ∷ js)
    go true = omega arith
    go false = let both = sum_by-cons f id js in omega (arith, both)

pub frames_more : (f : ℕ → ℕ) (fs : List FrameValue) (js : List ℕ) → sum_by f js ≤ sum_by f (streams_in fs js)
frames_more f [] js = omega arith
frames_more f (g ∷ fs) js = let rest = frames_more f fs js in let here = and_more f (stream_in g) (streams_in fs js) in omega (arith, rest, here)

-- ---- all that was consumed only grows

pub told_consumes : (packets : List Packet) (ts : List Told) (t : Told) → all_consumed packets ts ≤ all_consumed packets (ts ++ t ∷ [])
told_consumes packets ts t = sum_by-le-sum_by (λ id. consumed_on id packets ts) (λ id. consumed_on id packets (ts ++ t ∷ [])) (streams_of packets) (used_more (usage packets ts) (usage packets (ts ++ t ∷ [])) (told_uses packets ts t))

pub packet_consumes : (p : Packet) (packets : List Packet) (ts : List Told) → all_consumed packets ts ≤ all_consumed (p ∷ packets) ts
packet_consumes p packets ts =
    let each = sum_by-le-sum_by (λ id. consumed_on id packets ts) (λ id. consumed_on id (p ∷ packets) ts) (streams_of packets) (used_more (usage packets ts) (usage (p ∷ packets) ts) (packet_uses p packets ts)) in
    let more = frames_more (λ id. consumed_on id (p ∷ packets) ts) p.frames (streams_of packets) in
    omega (arith, each, more)

-- so what a frame says stays within
pub within_told : (window stream_window : ℕ) (packets : List Packet) (ts : List Told) (t : Told) (f : FrameValue) → StaysWithin window stream_window packets ts f → StaysWithin window stream_window packets (ts ++ t ∷ []) f
within_told window stream_window packets ts t (max_data limit) i = let more = told_consumes packets ts t in omega (arith, more, i)
within_told window stream_window packets ts t (max_stream_data f) i = let more = (told_uses packets ts t).read f.id in omega (arith, more, i)
within_told window stream_window packets ts t f i = i

pub within_packet : (window stream_window : ℕ) (p : Packet) (packets : List Packet) (ts : List Told) (f : FrameValue) → StaysWithin window stream_window packets ts f → StaysWithin window stream_window (p ∷ packets) ts f
within_packet window stream_window p packets ts (max_data limit) i = let more = packet_consumes p packets ts in omega (arith, more, i)
within_packet window stream_window p packets ts (max_stream_data f) i = i
within_packet window stream_window p packets ts f i = i
