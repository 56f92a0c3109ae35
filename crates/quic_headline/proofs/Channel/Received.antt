-- What has come on the streams of an end is within what its peer was told, and how far this may
-- come never falls, whatever is done about what the end sends (RFC 9000, section 4.1).
use Rattle.std.proofs.Common.{◌≡◌, ℕ, ◌+◌, ◌≤◌, ◌∷◌, Bool, true, false, Option, Some, None, refl, sym, ap, ◌∙◌, subst, arith, inl, inr}
use Rattle.std.specs.Prelude.{◌&&◌, ◌||◌, not, if◌then◌else◌}
use Rattle.std.specs.List.{sum_by}
use Rattle.std.specs.Map.{values_of}
use Rattle.std.proofs.lemmas.Bool.{cases_eq}
use Rattle.quic_wire_core.specs.declared.stream_id.Side.{Side}
use Rattle.quic_wire_core.specs.StreamId.{dir_of}
use Rattle.quic_streams_parts.specs.Dirs.{is_own, is_two_way}
use Rattle.quic_streams_parts.specs.Table.{at, without}
use Rattle.quic_streams_parts.specs.TableLaws.{at-without, at-without-apart}
use Rattle.quic_streams_parts.specs.SendHalf.{SendHalf}
use Rattle.quic_streams_parts.specs.RecvHalf.{RecvHalf, credit, raised_on, greatest_offset}
use Rattle.quic_streams_halves.specs.Halves.{Status, unknown, fresh, live, done, has_place, with_half, without_half, is_done}
use Rattle.quic_streams_state.specs.declared.state.StreamsState.{StreamsState}
use Rattle.quic_streams_state.specs.State.{Receiving, receiving_half, with_send, with_recv, send_done, without_send, recv_done, done_if, receiving_status, sending_status, seen_at}
use Rattle.quic_streams_state.specs.Limits.{raised_data}
use Rattle.quic_streams_state.specs.Taking.{joined}
use Rattle.quic_streams_laws.specs.Keeping.{KeepsBy, EndsThere, ReceivesOn}
use Rattle.quic_streams_laws.specs.Keeping as changes
use Rattle.quic_streams_laws.specs.Content.{AllReceiving}
use Rattle.quic_streams_laws.specs.StatusLaws.{GoesOn, at_half_of, each_kept}
use Rattle.quic_streams_laws.specs.KeepingLaws.{at-half, live_receives}
use Rattle.quic_streams_laws.specs.Each.{HalfIs}
use Rattle.quic_streams_laws.specs.EachLaws.{half_follows, half_place-apart}
use Rattle.quic_streams_laws.specs.Few.{AreFew}
use Rattle.quic_streams_laws.specs.FewLaws.{few_any}
use Rattle.quic_streams_laws.specs.Limited.{IsWithin}
use Rattle.quic_streams_laws.specs.LimitedLaws.{WasReceiving, in_use, unused, was_receiving, within_on, counted, sum_with, sum_without}
use Rattle.quic_streams_laws.specs.QueuedLaws.{half-apart}
use Rattle.quic_streams_laws.specs.Shape.{IsShaped}
use Rattle.quic_headline.proofs.Channel.Below.{IsBelow, new_below, told_below}

-- ---- how far the peer may come on a stream

-- by the receiving half: as far as the peer was told, on one that isn't in use yet as far as at
-- first; what comes for one that is done isn't refused
abbrev pub AllowsIn : Side → Receiving → ℕ → ℕ → Type 0
AllowsIn side r id n = HalfIs (n ≤ r.stream_window) (λ (h : RecvHalf). n ≤ h.announced) (Unit {0}) (at r.halves.live id) (has_place side r.halves.places id)

abbrev pub Allows : StreamsState → ℕ → ℕ → Type 0
Allows s id n = AllowsIn s.side s.receiving id n

-- and no less far
pub allows_less : (s : StreamsState) (id n m : ℕ) → m ≤ n → Allows s id n → Allows s id m
allows_less s id n m le a = half_follows (λ i. omega arith) (λ h i. omega arith) (λ i. tt) (at s.receiving.halves.live id) (has_place s.side s.receiving.halves.places id) a

-- where a half is in use, or nothing was done on it, that is its limit
pub allows_half : (s : StreamsState) (id n : ℕ) (h : RecvHalf) → receiving_half s id ≡ Some h → Allows s id n → n ≤ h.announced
allows_half s id n h e a = go (was_receiving s id h e)
  where
    go : WasReceiving s id h → n ≤ h.announced
    go (in_use is) = subst (λ o. HalfIs (n ≤ s.receiving.stream_window) (λ (x : RecvHalf). n ≤ x.announced) (Unit {0}) o (has_place s.side s.receiving.halves.places id)) is a
    go (unused is free same) =
        let within : n ≤ s.receiving.stream_window = subst (λ b. HalfIs (n ≤ s.receiving.stream_window) (λ (x : RecvHalf). n ≤ x.announced) (Unit {0}) None b) free
        (subst (λ o. HalfIs (n ≤ s.receiving.stream_window) (λ (x : RecvHalf). n ≤ x.announced) (Unit {0}) o (has_place s.side s.receiving.halves.places id)) is a) in
        subst (λ (x : RecvHalf). n ≤ x.announced) (sym same) within

-- ---- what is received, as a state before it left it

-- each half is within its limits, no limit was told above those that may be told, and none fell
pub record Receives (before : StreamsState) (side : Side) (r : Receiving) : Type 0 where
  pub announced : r.announced ≤ raised_data r
  pub more : before.receiving.announced ≤ r.announced
  pub window : r.stream_window ≤ greatest_offset
  pub as_wide : r.stream_window ≡ before.receiving.stream_window
  pub halves : (id : ℕ) (h : RecvHalf) → at r.halves.live id ≡ Some h → IsWithin r.stream_window h
  pub allows : (id n : ℕ) → Allows before id n → AllowsIn side r id n

-- what was given of a half, and what waits, lies below what was seen
abbrev pub StatusBelow : ℕ → Status RecvHalf → Type 0
StatusBelow id unknown = Unit {0}
StatusBelow id fresh = Unit {0}
StatusBelow id (live h) = IsBelow h
StatusBelow id done = Unit {0}

-- it goes on as streams do
goes_on_below : GoesOn StatusBelow
goes_on_below = record { opens = λ id i. tt; comes = λ id window i. new_below window; told = λ id h n i. told_below h n i; ends = λ id h i. tt }

-- it is kept where each change of a half keeps it
below_kept : KeepsBy (λ r id old new. IsBelow old → IsBelow new) (λ s id old new. Unit {0}) (λ s id n old new. Unit {0}) (AllReceiving StatusBelow)
below_kept = each_kept StatusBelow goes_on_below

-- what comes, is read or is stopped of a half where all lies below what was seen, and where the
-- final size is known, that is what was seen
abbrev pub Comes : Receiving → ℕ → RecvHalf → RecvHalf → Type 0
Comes r id old new = IsBelow old → EndsThere old → ReceivesOn r old new × IsBelow new

-- the same of all streams, whose halves stand in order, and which are few
pub record Stays (before s : StreamsState) : Type 0 where
  pub shape : IsShaped s
  pub few : AreFew s
  pub receives : Receives before s.side s.receiving
  pub below : AllReceiving StatusBelow s

-- each half that there is stays within its limits
pub half_within : (before s : StreamsState) (id : ℕ) (h : RecvHalf) → receiving_half s id ≡ Some h → Receives before s.side s.receiving → IsWithin s.receiving.stream_window h
half_within before s id h e i = go (was_receiving s id h e)
  where
    go : WasReceiving s id h → IsWithin s.receiving.stream_window h
    go (in_use is) = i.halves id h is
    go (unused is free same) = let w = i.window in subst (IsWithin s.receiving.stream_window) (sym same) (record { consumed = omega arith; seen = omega arith; announced = omega arith; ended = λ size f. cc })

-- what has come is left: it is seen from there on
pub stays_self : (before s : StreamsState) → Stays before s → Stays s s
stays_self before s i = let r = i.receives in record {
  shape = i.shape;
  few = i.few;
  receives = record { announced = r.announced; more = omega arith; window = r.window; as_wide = refl; halves = r.halves; allows = λ id n a. a };
  below = i.below;
}

-- one change behind another
pub stays_then : (before s t : StreamsState) → Stays before s → Stays s t → Stays before t
stays_then before s t i j = let r = i.receives in let q = j.receives in record {
  shape = j.shape;
  few = j.few;
  receives = record { announced = q.announced; more = (let a = r.more in let b = q.more in omega arith); window = q.window; as_wide = q.as_wide ∙ r.as_wide; halves = q.halves; allows = λ id n a. q.allows id n (r.allows id n a) };
  below = j.below;
}

same_recv : (a b : RecvHalf) (o : Option RecvHalf) → o ≡ Some a → o ≡ Some b → a ≡ b
same_recv a b o e g = cc

gone_recv : (o : Option RecvHalf) (h : RecvHalf) → o ≡ None → o ≡ Some h → ⊥
gone_recv o h e g = cc

done_receiving : (b : Bool) (id : ℕ) (s : StreamsState) → ((done_if b id s).receiving ≡ s.receiving) × ((done_if b id s).side ≡ s.side)
done_receiving true id s = (refl, refl)
done_receiving false id s = (refl, refl)

joined_receiving : (s : StreamsState) (id : ℕ) (h : SendHalf) → ((joined s id h).receiving ≡ s.receiving) × ((joined s id h).side ≡ s.side)
joined_receiving s id h = go h.blocked
  where
    go : (b : Bool) → ((if b then s else (let u = with_send s id (record h { blocked = true }) in record u { sending = record u.sending { blocked = id ∷ u.sending.blocked } })).receiving ≡ s.receiving)
        × ((if b then s else (let u = with_send s id (record h { blocked = true }) in record u { sending = record u.sending { blocked = id ∷ u.sending.blocked } })).side ≡ s.side)
    go true = (refl, refl)
    go false = (refl, refl)

module _ (before : StreamsState) where
  -- nothing of what has come changes
  rest : (s t : StreamsState) → AllReceiving StatusBelow t → AreFew t → t.receiving ≡ s.receiving → t.side ≡ s.side → Stays before s → Stays before t
  rest s t below few same side i = record { shape = below.shape; few = few; below = below; receives = subst (λ r. Receives before t.side r) (sym same) (subst (λ d. Receives before d s.receiving) (sym side) i.receives) }

  -- one half has another value
  one : (s : StreamsState) (id : ℕ) (old new : RecvHalf) → receiving_half s id ≡ Some old → IsWithin s.receiving.stream_window new → credit old ≤ credit new → old.announced ≤ new.announced → Stays before s → Receives before s.side (with_recv s id new).receiving
  one s id old new is within credits far i =
      let k = i.receives in
      let table : sum_by credit (values_of (with_half s.side s.receiving.halves id new).live) + credit old ≡ sum_by credit (values_of s.receiving.halves.live) + credit new =
      sum_with credit s.side s.receiving.halves id old new i.shape.receiving.sorted (counted credit s id old is refl) in
      let was : s.receiving.announced ≤ raised_data s.receiving = k.announced in
      record {
        announced = omega arith;
        more = k.more;
        window = k.window;
        as_wide = k.as_wide;
        halves = λ j h e. elim (cases_eq j id) [
          | inl j_is ↦
              let new_is : new ≡ h = same_recv new h (at (with_half s.side s.receiving.halves id new).live id) (at-half s.side s.receiving.halves id new) (ap (λ x. at (with_half s.side s.receiving.halves id new).live x) (sym j_is) ∙ e) in
              subst (IsWithin s.receiving.stream_window) new_is within
          | inr ne ↦ k.halves j h (sym (half-apart s.side s.receiving.halves id new j ne) ∙ e)
        ];
        allows = λ j n a. elim (cases_eq j id) [
          | inl j_is ↦ subst (λ x. AllowsIn s.side (with_recv s id new).receiving x n) (sym j_is) (here n (k.allows id n (subst (λ x. Allows before x n) j_is a)))
          | inr ne ↦
              subst (λ b. HalfIs (n ≤ s.receiving.stream_window) (λ (h : RecvHalf). n ≤ h.announced) (Unit {0}) (at (with_half s.side s.receiving.halves id new).live j) b) (sym (half_place-apart s.side s.receiving.halves id new j i.shape.receiving.runs ne))
              (subst (λ o. HalfIs (n ≤ s.receiving.stream_window) (λ (h : RecvHalf). n ≤ h.announced) (Unit {0}) o (has_place s.side s.receiving.halves.places j)) (sym (half-apart s.side s.receiving.halves id new j ne)) (k.allows j n a))
        ];
      }
    where
      here : (n : ℕ) → AllowsIn s.side s.receiving id n → AllowsIn s.side (with_recv s id new).receiving id n
      here n a =
          let was : n ≤ old.announced = allows_half s id n old is a in
          let now : n ≤ new.announced = omega arith in
          subst (λ o. HalfIs (n ≤ s.receiving.stream_window) (λ (h : RecvHalf). n ≤ h.announced) (Unit {0}) o (has_place s.side (with_half s.side s.receiving.halves id new).places id)) (sym (at-half s.side s.receiving.halves id new)) now

  -- one is done: all that was seen of it counts as consumed
  ends : (s : StreamsState) (id : ℕ) (h : RecvHalf) → at s.receiving.halves.live id ≡ Some h → Stays before s
      → Receives before s.side (record s.receiving { halves = without_half s.receiving.halves id; gone = s.receiving.gone + seen_at (at s.receiving.halves.live id) })
  ends s id h is i =
      let k = i.receives in
      let w : IsWithin s.receiving.stream_window h = k.halves id h is in
      let less : credit h ≤ h.seen = w.consumed in
      let table : sum_by credit (values_of (without_half s.receiving.halves id).live) + credit h ≡ sum_by credit (values_of s.receiving.halves.live) = sum_without credit s.receiving.halves id h is in
      let gained : seen_at (at s.receiving.halves.live id) ≡ h.seen = ap seen_at is in
      let was : s.receiving.announced ≤ raised_data s.receiving = k.announced in
      let used : has_place s.side s.receiving.halves.places id ≡ true = i.shape.receiving.placed id h is in
      record {
        announced = omega arith;
        more = k.more;
        window = k.window;
        as_wide = k.as_wide;
        halves = λ j g e. elim (cases_eq j id) [
          | inl j_is ↦ absurd (gone_recv (at (without s.receiving.halves.live id) id) g (at-without s.receiving.halves.live id i.shape.receiving.sorted) (ap (λ x. at (without s.receiving.halves.live id) x) (sym j_is) ∙ e))
          | inr ne ↦ k.halves j g (sym (at-without-apart s.receiving.halves.live id j ne) ∙ e)
        ];
        allows = λ j n a. elim (cases_eq j id) [
          | inl j_is ↦ subst (λ x. HalfIs (n ≤ s.receiving.stream_window) (λ (g : RecvHalf). n ≤ g.announced) (Unit {0}) (at (without s.receiving.halves.live id) x) (has_place s.side s.receiving.halves.places x)) (sym j_is)
              (subst (λ o. HalfIs (n ≤ s.receiving.stream_window) (λ (g : RecvHalf). n ≤ g.announced) (Unit {0}) o (has_place s.side s.receiving.halves.places id)) (sym (at-without s.receiving.halves.live id i.shape.receiving.sorted))
              (subst (λ b. HalfIs (n ≤ s.receiving.stream_window) (λ (g : RecvHalf). n ≤ g.announced) (Unit {0}) None b) (sym used) tt))
          | inr ne ↦ subst (λ o. HalfIs (n ≤ s.receiving.stream_window) (λ (g : RecvHalf). n ≤ g.announced) (Unit {0}) o (has_place s.side s.receiving.halves.places j)) (sym (at-without-apart s.receiving.halves.live id j ne)) (k.allows j n a)
        ];
      }

  -- each small change keeps it, where on receiving halves something comes, is read or is stopped
  pub stays_kept : KeepsBy Comes (λ s id old new. Unit {0}) (λ s id n old new. Unit {0}) (Stays before)
  stays_kept (changes.joins id h) s is i = rest s (joined s id h) (below_kept (changes.joins id h) s is i.below) (few_any (changes.joins id h) s is i.few) (joined_receiving s id h).0 (joined_receiving s id h).1 i
  stays_kept (changes.ends_sending id h) s (is, over) i =
      let b : Bool = not (is_own s.side id) && is_done (receiving_status s id) in
      let t : StreamsState = without_send s id in
      rest s (send_done s id) (below_kept (changes.ends_sending id h) s (is, over) i.below) (few_any (changes.ends_sending id h) s (is, over) i.few) (done_receiving b id t).0 (done_receiving b id t).1 i
  stays_kept (changes.changes_receiving r id old new) s (is, on, there) i =
      let was : IsWithin s.receiving.stream_window old = half_within before s id old is i.receives in
      let under : IsBelow old = at_half_of StatusBelow goes_on_below s id old is i.below in
      let comes = (subst (λ q. Comes q id old new) (sym there) on) under was.ended in
      let both = within_on s.receiving old new comes.0 was in
      let same : new.announced ≡ old.announced = comes.0.announced in
      let behind = below_kept (changes.changes_receiving r id old new) s (is, (λ j. comes.1), there) i.below in
      record { shape = behind.shape; below = behind; few = few_any (changes.changes_receiving r id old new) s (is, tt, there) i.few; receives = one s id old new is both.0 both.1 (omega arith) i }
  stays_kept (changes.ends_receiving id h) s is i =
      let b : Bool = not (is_own s.side id) && (not (is_two_way (dir_of id)) || is_done (sending_status s id)) in
      let t : StreamsState = record s { receiving = record s.receiving { halves = without_half s.receiving.halves id; gone = s.receiving.gone + seen_at (at s.receiving.halves.live id) } } in
      let below = below_kept (changes.ends_receiving id h) s is i.below in
      record {
        shape = below.shape;
        below = below;
        few = few_any (changes.ends_receiving id h) s is i.few;
        receives = subst (λ r. Receives before (recv_done s id).side r) (sym (done_receiving b id t).0) (subst (λ d. Receives before d t.receiving) (sym (done_receiving b id t).1) (ends s id h is i));
      }
  stays_kept changes.tells s may i =
      let k = i.receives in
      let below = below_kept changes.tells s tt i.below in
      record {
        shape = below.shape;
        below = below;
        few = few_any changes.tells s tt i.few;
        receives = record { announced = omega arith; more = (let a = k.more in let b = k.announced in omega arith); window = k.window; as_wide = k.as_wide; halves = k.halves; allows = k.allows };
      }
  stays_kept (changes.tells_on id h) s is i =
      let new : RecvHalf = record h { announced = raised_on s.receiving.stream_window h } in
      let k = i.receives in
      let w : IsWithin s.receiving.stream_window h = k.halves id h is in
      let below : h.announced ≤ raised_on s.receiving.stream_window h = w.announced in
      let seen : h.seen ≤ h.announced = w.seen in
      let within : IsWithin s.receiving.stream_window new = record { consumed = w.consumed; seen = omega arith; announced = omega arith; ended = w.ended } in
      let behind = below_kept (changes.tells_on id h) s is i.below in
      record { shape = behind.shape; below = behind; few = few_any (changes.tells_on id h) s is i.few; receives = one s id h new (live_receives s id h is) within (omega arith) below i }
  stays_kept c s may i = rest s _ (below_kept c s may i.below) (few_any c s may i.few) refl refl i
