-- What the parts of a packet say of the frames that it carries.
use Rattle.std.proofs.Common.{◌≡◌, ℕ, ◌+◌, ◌-◌, ◌<◌, ◌^◌, ◌++◌, ◌≤◌, max, ◌&&◌, Bool, true, false, List, length, replicate, take, drop, refl, sym, ap, ◌∙◌, arith}
use Rattle.std.specs.Prelude.{nat_lt, if◌then◌else◌}
use Rattle.std.proofs.lemmas.Bool.{and_parts, ltb-true, lt-ltb}
use Rattle.std.proofs.lemmas.List.{length-append, length-replicate, append_assoc, take-take, take_at}
use Rattle.quic_packet.specs.Number.{truncated}
use Rattle.quic_packet.specs.Header.{header_bytes}
use Rattle.quic_packet.specs.Keys.{Protection, Aead, KeepsLength}
use Rattle.quic_packet.specs.Datagram.{protected, sent}
use Rattle.quic_packet.proofs.Opening.{sealed_is_sent}
use Rattle.quic_machine.specs.Ids.{Ids}
use Rattle.quic_spaces.specs.Numbers.{Numbers, cut_against, can_number, may_give}
use Rattle.quic_spaces.specs.Filter.{Filter, allocated, is_skipped}
use Rattle.quic_machine.specs.Policy.{Policy}
use Rattle.quic_machine.specs.End.{End, number_of, words_drawn}
use Rattle.quic_machine.specs.Tracking.{Tracking, Carried, carried_in}
use Rattle.quic_config.specs.Transport.{TransportSettings}
use Rattle.quic_machine.specs.Parts.{Path, Validation, current_mtu}
use Rattle.quic_machine.specs.Poll.{Draft, Leaving, whole, alone, probe, closing, nothing, draft_left, least_by, least_left, beside_frames, most_ordinary, most_of, number_width, overhead, least_size, zeros_behind, payload_of, datagram_of, datagram_size, asking, tracked}
use Rattle.quic_machine.specs.DraftLaws.{MayGo, left_least, ordinary_within}
use Rattle.quic_connection_parts.specs.Leaving.{least_of, pads_left, zeros_of}
use Rattle.quic_connection_parts.specs.Frames.{tracked_as}
use Rattle.quic_machine.specs.PollCases.{composes_left}

-- how many bytes the datagram of what leaves an end has at least, where it asks or doesn't
abbrev pub least_at : Leaving → Bool → End → ℕ
least_at leaving asks e = least_of leaving (pads_left leaving e) asks e

-- only what goes with all that waits has frames of path validation
pads_least : (leaving : Leaving) (e : End) → least_by leaving (pads_left leaving e) ≡ least_left leaving e
pads_least whole e = refl
pads_least alone e = refl
pads_least (probe size) e = refl
pads_least (closing f) e = refl
pads_least (nothing held) e = refl

module _ (leaving : Leaving) (e : End) (due : MayGo leaving e) where
  -- what goes
  abbrev went : Draft
  went = draft_left leaving e

  -- it leaves numbers, those that are left out, and ids
  pub same_numbers : went.end.numbers ≡ e.numbers
  same_numbers = (composes_left leaving e due).numbers

  pub same_filter : went.end.filter ≡ e.filter
  same_filter = (composes_left leaving e due).filter

  pub same_ids : went.end.ids ≡ e.ids
  same_ids = (composes_left leaving e due).ids

  -- and as many words are drawn
  pub same_words : words_drawn went.end ≡ words_drawn e
  same_words =
      let c = composes_left leaving e due in
      ap (λ (f : Filter). words_drawn (record went.end { filter = f })) c.filter
      ∙ ap (λ (i : Ids). words_drawn (record went.end { filter = e.filter; ids = i })) c.ids
      ∙ ap (λ (v : Validation). words_drawn (record e { validation = v })) c.validation

  -- its number is that of the end
  pub same_number : number_of went.end ≡ number_of e
  same_number = ap (λ (f : Filter). allocated f went.end.numbers.next) same_filter ∙ ap (λ (n : Numbers). allocated e.filter n.next) same_numbers

  -- and is cut as that is
  pub same_width : number_width went ≡ (truncated (number_of e) (cut_against e.numbers)).width
  same_width =
      ap (λ (k : ℕ). (truncated k (cut_against went.end.numbers)).width) same_number
      ∙ ap (λ (n : Numbers). (truncated (number_of e) (cut_against n)).width) same_numbers

  -- its datagram has the number and the id of the end
  pub sent_of : (p : Policy) → sent p.header p.packet (number_of e) (cut_against e.numbers) e.ids.peer.id (payload_of went) ≡ datagram_of p went
  sent_of p =
      let payload : List ℕ = payload_of went in
      ap (λ (k : ℕ). sent p.header p.packet k (cut_against e.numbers) e.ids.peer.id payload) (sym same_number)
      ∙ ap (λ (n : Numbers). sent p.header p.packet (number_of went.end) (cut_against n) e.ids.peer.id payload) (sym same_numbers)
      ∙ ap (λ (i : Ids). sent p.header p.packet (number_of went.end) (cut_against went.end.numbers) i.peer.id payload) (sym same_ids)

  -- as many bytes stand beside its payload as the end says, and it has as many at least
  pub same_overhead : overhead went ≡ beside_frames e
  same_overhead = ap (λ (i : Ids). 1 + length i.peer.id + number_width went + 16) same_ids ∙ ap (λ (k : ℕ). 1 + length e.ids.peer.id + k + 16) same_width

  -- an ordinary one has as many at most
  same_ordinary : most_ordinary went.end ≡ most_ordinary e
  same_ordinary =
      let c = composes_left leaving e due in
      ap (λ (t : Tracking). most_ordinary (record went.end { tracking = t })) c.tracking
      ∙ ap (λ (t : TransportSettings). most_ordinary (record went.end { tracking = e.tracking; transport = t })) c.transport
      ∙ ap (λ (p : Path). most_ordinary (record e { path = p })) c.path

  pub same_least : least_size went ≡ least_at leaving (asking went.frames) e
  same_least =
      ap (λ (t : TransportSettings). if t.pad_to_mtu && asking went.frames then max went.least (most_ordinary went.end) else went.least) (composes_left leaving e due).transport
      ∙ ap (λ (n : ℕ). if e.transport.pad_to_mtu && asking went.frames then max went.least n else went.least) same_ordinary
      ∙ ap (λ (n : ℕ). if e.transport.pad_to_mtu && asking went.frames then max n (most_ordinary e) else n) (left_least leaving e ∙ sym (pads_least leaving e))

  -- so it has where its frames are taken already
  pub same_least_of : (pads asks : Bool) → least_of leaving pads asks went.end ≡ least_of leaving pads asks e
  same_least_of pads asks =
      ap (λ (t : TransportSettings). if t.pad_to_mtu && asks then max (least_by leaving pads) (most_ordinary went.end) else least_by leaving pads) (composes_left leaving e due).transport
      ∙ ap (λ (n : ℕ). if e.transport.pad_to_mtu && asks then max (least_by leaving pads) n else least_by leaving pads) same_ordinary

  -- so it is padded
  pub zeros_are : zeros_behind went ≡ zeros_of e (length went.bytes) (least_at leaving (asking went.frames) e)
  zeros_are =
      ap (λ (k : ℕ). max (4 - (k + length went.bytes)) (least_size went - (overhead went + length went.bytes))) same_width
      ∙ ap (λ (k : ℕ). max (4 - ((truncated (number_of e) (cut_against e.numbers)).width + length went.bytes)) (k - (overhead went + length went.bytes))) same_least
      ∙ ap (λ (k : ℕ). max (4 - ((truncated (number_of e) (cut_against e.numbers)).width + length went.bytes)) (least_at leaving (asking went.frames) e - (k + length went.bytes))) same_overhead

  pub payload_is : payload_of went ≡ went.bytes ++ replicate (zeros_of e (length went.bytes) (least_at leaving (asking went.frames) e)) 0
  payload_is = ap (λ (k : ℕ). went.bytes ++ replicate k 0) zeros_are

  -- how many bytes it has
  pub size_is : datagram_size went ≡ 1 + length e.ids.peer.id + (truncated (number_of e) (cut_against e.numbers)).width + length (payload_of went) + 16
  size_is = let same = same_overhead in omega arith

  -- how many bytes its payload has
  pub payload_long : length (payload_of went) ≡ length went.bytes + zeros_of e (length went.bytes) (least_at leaving (asking went.frames) e)
  payload_long =
      let pad : ℕ = zeros_of e (length went.bytes) (least_at leaving (asking went.frames) e) in
      ap length payload_is ∙ length-append went.bytes (replicate pad 0) ∙ ap (λ (k : ℕ). length went.bytes + k) (length-replicate pad 0)

-- it has no more at least than at most
pub least_within : (leaving : Leaving) (pads asks : Bool) (e : End) → 1200 ≤ most_ordinary e → least_of leaving pads asks e ≤ most_of leaving e
least_within leaving pads asks e sized = by (e.transport.pad_to_mtu && asks) pads leaving
  where
    within : most_ordinary e ≤ current_mtu e.path
    within = ordinary_within e

    by : (b p : Bool) (l : Leaving) → (if b then max (least_by l p) (most_ordinary e) else least_by l p) ≤ most_of l e
    by true true whole = omega (arith, sized)
    by true false whole = omega (arith, sized)
    by true p alone = omega (arith, sized)
    by true p (probe size) = omega (arith, within)
    by true p (closing f) = omega (arith, within)
    by true p (nothing held) = omega (arith, within)
    by false true whole = omega (arith, sized)
    by false false whole = omega (arith, sized)
    by false p alone = omega arith
    by false p (probe size) = omega arith
    by false p (closing f) = omega arith
    by false p (nothing held) = omega arith

-- and no fewer at most than an ordinary one
pub most_within : (leaving : Leaving) (e : End) → most_ordinary e ≤ most_of leaving e
most_within whole e = omega arith
most_within alone e = omega arith
most_within (probe size) e = let within = ordinary_within e in omega (arith, within)
most_within (closing f) e = ordinary_within e
most_within (nothing held) e = ordinary_within e

-- it is tracked as its parts say
pub tracked_is : (d : Draft) (asks : Bool) (size : ℕ) (carried : Carried) → asks ≡ asking d.frames → size ≡ datagram_size d → carried ≡ carried_in d.frames → tracked_as asks size carried d.end ≡ tracked d
tracked_is d asks size carried a s c =
    ap (λ (b : Bool). tracked_as b size carried d.end) a
    ∙ ap (λ (k : ℕ). tracked_as (asking d.frames) k carried d.end) s
    ∙ ap (λ (x : Carried). tracked_as (asking d.frames) (datagram_size d) x d.end) c

-- ---- numbers

-- where an end can number, its number has a form, and lies near the greatest that was acknowledged
pub numbers_near : (f : Filter) (n : Numbers) → can_number n ≡ true → (allocated f n.next < 2 ^ 62) × (allocated f n.next - cut_against n < 2 ^ 31)
numbers_near f n can = go (is_skipped f n.next)
  where
    both : (n.next + 16 < 2 ^ 62) × (n.next - cut_against n + 16 < 2 ^ 31)
    both = let s = and_parts (nat_lt (n.next + 16) (2 ^ 62)) (nat_lt (n.next - cut_against n + 16) (2 ^ 31)) can in (ltb-true (n.next + 16) (2 ^ 62) s.0, ltb-true (n.next - cut_against n + 16) (2 ^ 31) s.1)

    go : (b : Bool) → ((if b then n.next + 1 else n.next) < 2 ^ 62) × ((if b then n.next + 1 else n.next) - cut_against n < 2 ^ 31)
    go true = let one = both.0 in let two = both.1 in (omega arith, omega arith)
    go false = let one = both.0 in let two = both.1 in (omega arith, omega arith)

-- so a packet may have it
pub can_give : (f : Filter) (n : Numbers) → can_number n ≡ true → may_give n (allocated f n.next) ≡ true
can_give f n can =
    let near = numbers_near f n can in
    let small : nat_lt (allocated f n.next) (2 ^ 62) ≡ true = lt-ltb (allocated f n.next) (2 ^ 62) near.0 in
    let close : nat_lt (allocated f n.next - cut_against n) (2 ^ 31) ≡ true = lt-ltb (allocated f n.next - cut_against n) (2 ^ 31) near.1 in
    rw (small, close) refl

-- where a packet may have a number, it has a form, and lies near the greatest that was acknowledged
pub may_near : (n : Numbers) (k : ℕ) → may_give n k ≡ true → (k < 2 ^ 62) × (k - cut_against n < 2 ^ 31)
may_near n k may = let s = and_parts (nat_lt k (2 ^ 62)) (nat_lt (k - cut_against n) (2 ^ 31)) may in (ltb-true k (2 ^ 62) s.0, ltb-true (k - cut_against n) (2 ^ 31) s.1)

-- ---- a packet

-- what stood before some bytes stands before more of them
pub front_of : (front before all added : List ℕ) (n m : ℕ) → n ≡ length front → n ≤ m → before ≡ front ++ added → take m all ≡ before → take n all ≡ front
front_of front before all added n m long few put same =
    sym (take-take n m all few) ∙ ap (λ (z : List ℕ). take n z) (same ∙ put) ∙ take_at front added n (sym long)

-- header, frames and padding are a packet with their payload
pub plain_of : (front before header body padded bytes : List ℕ) (pad zeros : ℕ) → before ≡ front ++ header → body ≡ before ++ bytes → padded ≡ body ++ replicate pad 0 → pad ≡ zeros
    → padded ≡ front ++ (header ++ (bytes ++ replicate zeros 0))
plain_of front before header body padded bytes pad zeros b w p same =
    let zeros_bytes : List ℕ = replicate zeros 0 in
    p ∙ ap (λ (k : ℕ). body ++ replicate k 0) same ∙ ap (λ (z : List ℕ). z ++ zeros_bytes) w ∙ append_assoc before bytes zeros_bytes ∙ ap (λ (z : List ℕ). z ++ (bytes ++ zeros_bytes)) b ∙ append_assoc front header (bytes ++ zeros_bytes)

-- sealed, it is the datagram of its payload
pub sealed_of : (protection : Protection) (aead : Aead) → KeepsLength protection.hide
    → (number acked : ℕ) (front id plain out payload : List ℕ) → number - acked < 2 ^ 31
    → plain ≡ front ++ (header_bytes id (truncated number acked) ++ payload)
    → out ≡ take (length front) plain ++ protected protection aead (length id + 1) number (drop (length front) plain)
    → out ≡ front ++ sent protection aead number acked id payload
sealed_of protection aead keeps number acked front id plain out payload near p e =
    let said = λ (z : List ℕ). take (length front) z ++ protected protection aead (length id + 1) number (drop (length front) z) in
    e ∙ ap said p ∙ sealed_is_sent protection aead keeps number acked front id payload near
