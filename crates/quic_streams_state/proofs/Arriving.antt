-- What arrived on all streams stays within what the peer may be told.
use Rattle.std.proofs.Common.{◌≡◌, ℕ, ◌+◌, ◌-◌, ◌^◌, ◌<◌, ◌≤◌, max, Bool, true, false, ◌||◌, Option, Some, None, IfSome, refl, sym, ap, ◌∙◌, subst, arith}
use Rattle.std.specs.Prelude.{nat_le, nat_lt, if◌then◌else◌}
use Rattle.std.specs.Option.{is_some}
use Rattle.std.specs.Ordering.{nat_cmp}
use Rattle.std.specs.BTreeMap.{is_at}
use Rattle.std.proofs.lemmas.Bool.{ltb-false, leb-false}
use Rattle.std.proofs.lemmas.Map.Entries.{sum_by-set_value, sum_by-remove_entry}
use Rattle.std.proofs.lemmas.Map.Steps.{set_value_same}
use Rattle.std.specs.List.{sum_by}
use Rattle.std.specs.Map.{values_of}
use Rattle.std.specs.Option.{unwrap_or, option_map}
use Rattle.quic_wire.specs.Value.{StreamValue}
use Rattle.quic_streams_parts.specs.declared.answers.Breach.{Breach}
use Rattle.quic_streams_parts.specs.declared.answers.Breach.TheVariants.{FlowControl, FinalSize}
use Rattle.quic_streams_parts.specs.RecvHalf.{RecvHalf, greatest_offset, end_of, breaks_final, after_frame, with_frame, with_offsets_of, after_reset_stream, begun}
use Rattle.quic_streams_parts.specs.Table.{Table, at, put, without}
use Rattle.quic_streams_halves.specs.Halves.{Halves, changed, changed_at, seen_in}
use Rattle.quic_streams_state.specs.Parts.{Receiving, seen}
use Rattle.quic_streams_state.specs.Limits.{raised_data}
use Rattle.quic_streams_state.specs.State.{seen_at}
use Rattle.quic_streams_state.specs.Taking.{breach_on}
use Rattle.quic_streams_state.specs.Bounds.{IsReceiving}

-- the parts of a receiving end are lawful
abbrev pub IsLawful : Receiving → Type 0
IsLawful r = IsReceiving r.halves r.gone r.window r.announced r.stream_window

some_none : (b : Breach) → Some b ≡ None → ⊥
some_none b e = cc

-- what breaks no rule
pub record IsAllowed (r : Receiving) (h : RecvHalf) (end : ℕ) (fin : Bool) : Type 0 where
  pub small : end < 2 ^ 62
  pub size : breaks_final h.final h.seen end fin ≡ false
  pub room : seen r - h.seen + max h.seen end ≤ greatest_offset

pub allowed : (r : Receiving) (h : RecvHalf) (end : ℕ) (fin : Bool) → breach_on r h end fin ≡ None → IsAllowed r h end fin
allowed r h end fin e = go (nat_le (2 ^ 62) end) (breaks_final h.final h.seen end fin) (nat_lt h.announced end) (nat_lt (raised_data r) (seen r - h.seen + max h.seen end)) refl refl refl refl e
  where
    go : (a b c d : Bool) → nat_le (2 ^ 62) end ≡ a → breaks_final h.final h.seen end fin ≡ b → nat_lt h.announced end ≡ c → nat_lt (raised_data r) (seen r - h.seen + max h.seen end) ≡ d → (if a then Some FlowControl else (if b then Some FinalSize else (if c || d then Some FlowControl else None))) ≡ None → IsAllowed r h end fin
    go true b c d ia ib ic id e = absurd (some_none FlowControl e)
    go false true c d ia ib ic id e = absurd (some_none FinalSize e)
    go false false true d ia ib ic id e = absurd (some_none FlowControl e)
    go false false false true ia ib ic id e = absurd (some_none FlowControl e)
    go false false false false ia ib ic id e = record {
      small = leb-false (2 ^ 62) end ia;
      size = ib;
      room = let k = ltb-false (raised_data r) (seen r - h.seen + max h.seen end) id in omega arith;
    }

pub if_some : {P Q : RecvHalf → Type 0} (o : Option RecvHalf) → IfSome o (λ h. P h) → ((h : RecvHalf) → P h → Q h) → IfSome o (λ h. Q h)
if_some None p f = tt
if_some (Some h) p f = f h p

-- a half is changed, within what the peer may be told
pub changed_room : (f : RecvHalf → RecvHalf) (r : Receiving) (id : ℕ) (hs : Halves RecvHalf) → IsLawful r → IfSome (at r.halves.live id) (λ h. seen r - h.seen + (f h).seen ≤ greatest_offset) → hs ≡ changed f r.halves id → IsLawful (record r { halves = hs })
changed_room f r id hs lawful room is = subst (λ (k : Halves RecvHalf). IsLawful (record r { halves = k })) (sym is) (record { limits = lawful.limits; seen = go (at r.halves.live id) refl room })
  where
    go : (o : Option RecvHalf) → at r.halves.live id ≡ o → IfSome o (λ h. seen r - h.seen + (f h).seen ≤ greatest_offset) → r.gone + seen_in (changed_at o f r.halves.live id) ≤ greatest_offset
    go None found room = lawful.seen
    go (Some h) found room =
        let total : sum_by (λ (k : RecvHalf). k.seen) (values_of (put r.halves.live id (f h))) + h.seen ≡ sum_by (λ (k : RecvHalf). k.seen) (values_of r.halves.live) + (f h).seen = sum_by-set_value (λ (k : RecvHalf). k.seen) (is_at (nat_cmp id)) r.halves.live h (f h) found in
        omega arith

-- a half is changed of which no more arrived
pub changed_same : (f : RecvHalf → RecvHalf) (r : Receiving) (id : ℕ) (hs : Halves RecvHalf) → IsLawful r → ((h : RecvHalf) → (f h).seen ≡ h.seen) → hs ≡ changed f r.halves id → IsLawful (record r { halves = hs })
changed_same f r id hs lawful same is = subst (λ (k : Halves RecvHalf). IsLawful (record r { halves = k })) (sym is) (record { limits = lawful.limits; seen = go (at r.halves.live id) refl })
  where
    go : (o : Option RecvHalf) → at r.halves.live id ≡ o → r.gone + seen_in (changed_at o f r.halves.live id) ≤ greatest_offset
    go None found = lawful.seen
    go (Some h) found =
        let total : sum_by (λ (k : RecvHalf). k.seen) (values_of (put r.halves.live id (f h))) + h.seen ≡ sum_by (λ (k : RecvHalf). k.seen) (values_of r.halves.live) + (f h).seen = sum_by-set_value (λ (k : RecvHalf). k.seen) (is_at (nat_cmp id)) r.halves.live h (f h) found in
        let e = same h in
        let was = lawful.seen in
        omega arith

-- a frame that is allowed leaves no more than may arrive
pub frame_room : (r : Receiving) (h : RecvHalf) (f : StreamValue) → breach_on r h (end_of f) f.fin ≡ None → seen r - h.seen + (after_frame h f).seen ≤ greatest_offset
frame_room r h f e = go h.stopped (is_some h.reset)
  where
    room : seen r - h.seen + max h.seen (end_of f) ≤ greatest_offset
    room = (allowed r h (end_of f) f.fin e).room

    go : (b c : Bool) → seen r - h.seen + (if b then with_offsets_of h f else (if c then h else with_frame h f)).seen ≤ greatest_offset
    go true c = room
    go false true = let k = room in omega arith
    go false false = room

-- the greatest offset of a half that may be in use
pub seen_found : (o : Option RecvHalf) → unwrap_or (option_map (λ (k : RecvHalf). k.seen) o) 0 ≡ seen_at o
seen_found None = refl
seen_found (Some h) = refl

-- what arrived on a half moves to what arrived on those that are done
pub removed_sum : (r : Receiving) (id : ℕ) → r.gone + seen_at (at r.halves.live id) + seen_in (without r.halves.live id) ≡ r.gone + seen_in r.halves.live
removed_sum r id = go (at r.halves.live id) refl
  where
    go : (o : Option RecvHalf) → at r.halves.live id ≡ o → r.gone + seen_at o + seen_in (without r.halves.live id) ≡ r.gone + seen_in r.halves.live
    go None found =
        let total : sum_by (λ (k : RecvHalf). k.seen) (values_of (without r.halves.live id)) + 0 ≡ sum_by (λ (k : RecvHalf). k.seen) (values_of r.halves.live) = subst (λ (o : Option RecvHalf). sum_by (λ (k : RecvHalf). k.seen) (values_of (without r.halves.live id)) + unwrap_or (option_map (λ (k : RecvHalf). k.seen) o) 0 ≡ sum_by (λ (k : RecvHalf). k.seen) (values_of r.halves.live)) found (sum_by-remove_entry (λ (k : RecvHalf). k.seen) (is_at (nat_cmp id)) r.halves.live) in
        omega arith
    go (Some h) found =
        let total : sum_by (λ (k : RecvHalf). k.seen) (values_of (without r.halves.live id)) + h.seen ≡ sum_by (λ (k : RecvHalf). k.seen) (values_of r.halves.live) = subst (λ (o : Option RecvHalf). sum_by (λ (k : RecvHalf). k.seen) (values_of (without r.halves.live id)) + unwrap_or (option_map (λ (k : RecvHalf). k.seen) o) 0 ≡ sum_by (λ (k : RecvHalf). k.seen) (values_of r.halves.live)) found (sum_by-remove_entry (λ (k : RecvHalf). k.seen) (is_at (nat_cmp id)) r.halves.live) in
        omega arith

-- a half is changed to itself
pub unchanged : (f : RecvHalf → RecvHalf) (hs : Halves RecvHalf) (id : ℕ) (h : RecvHalf) → at hs.live id ≡ Some h → f h ≡ h → changed f hs id ≡ hs
unchanged f hs id h found same = rw found (ap (λ (t : Table RecvHalf). record hs { live = t }) (ap (λ w. put hs.live id w) same ∙ set_value_same (is_at (nat_cmp id)) hs.live h found))

-- a read in order that begins changes nothing
pub begun_in_order : (hs : Halves RecvHalf) (id : ℕ) (ordered : Bool) → ordered ≡ true → changed (λ h. begun h ordered) hs id ≡ hs
begun_in_order hs id ordered e = go (at hs.live id) refl
  where
    go : (o : Option RecvHalf) → at hs.live id ≡ o → changed (λ h. begun h ordered) hs id ≡ hs
    go None found = rw found refl
    go (Some h) found = unchanged (λ h. begun h ordered) hs id h found (rw e refl)

-- a half that the peer reset takes no other reset
pub reset_after_reset : (h : RecvHalf) (code size : ℕ) → h.stopped ≡ false → is_some h.reset ≡ true → after_reset_stream h code size ≡ h
reset_after_reset h code size e r = rw (e, r) refl
