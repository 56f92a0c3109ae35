-- How many streams of its peer's an end counts as done: no more than there are whose halves are
-- done both ways, each once (RFC 9000, section 4.6).
use Rattle.std.proofs.Common.{◌≡◌, ℕ, ◌+◌, ◌<◌, ◌≤◌, Bool, true, false, ◌==◌, not, ◌&&◌, ◌||◌, Option, Some, None, refl, sym, ap, ◌∙◌, subst, arith, inl, inr}
use Rattle.std.specs.Prelude.{if◌then◌else◌}
use Rattle.std.proofs.lemmas.Bool.{cases_eq, and_parts, or_cases, both_ways, not-true, false_from_ne_true, eq-eqb, ne_eqb, cond-true, cond-false, cond_both}
use Rattle.quic_wire_core.specs.declared.stream_id.Side.{Side}
use Rattle.quic_wire_core.specs.declared.stream_id.Dir.{Dir}
use Rattle.quic_wire_core.specs.declared.stream_id.Dir.TheVariants.{Bi, Uni}
use Rattle.quic_wire_core.specs.StreamId.{dir_of, index_of}
use Rattle.quic_streams_parts.specs.Dirs.{Counts, of, is_own, is_two_way}
use Rattle.quic_streams_parts.specs.Table.{at, without}
use Rattle.quic_streams_parts.specs.TableLaws.{at-without, at-without-apart}
use Rattle.quic_streams_parts.specs.SendHalf.{SendHalf}
use Rattle.quic_streams_parts.specs.RecvHalf.{RecvHalf}
use Rattle.quic_streams_halves.specs.Halves.{Status, unknown, fresh, live, done, status_from, has_place, is_done, without_half}
use Rattle.quic_streams_state.specs.declared.state.StreamsState.{StreamsState}
use Rattle.quic_streams_state.specs.State.{Opening, is_opened, sends_on, receives_on, sending_status, receiving_status, one_done, done_if, without_send, send_done, recv_done, seen_at}
use Rattle.quic_streams_state.specs.Opening.{with_remote}
use Rattle.quic_streams_state.specs.Taking.{joined}
use Rattle.quic_streams_laws.specs.Content.{AllReceiving}
use Rattle.quic_streams_laws.specs.Each.{HalfIs, EachSends, AreOfHalves}
use Rattle.quic_streams_laws.specs.EachLaws.{half_follows}
use Rattle.quic_streams_laws.specs.EachLaws as sends_laws
use Rattle.quic_streams_laws.specs.Few.{AreFew}
use Rattle.quic_streams_laws.specs.FewLaws.{few_kept}
use Rattle.quic_streams_laws.specs.Keeping.{KeepsBy, HasEnded}
use Rattle.quic_streams_laws.specs.Keeping as changes
use Rattle.quic_streams_laws.specs.KeepingLaws.{live_sends, live_receives}
use Rattle.quic_streams_laws.specs.Shape.{IsShaped}
use Rattle.quic_streams_laws.specs.ShapeLaws.{sends_may, receives_may}
use Rattle.quic_streams_laws.specs.StatusLaws.{GoesOn, at_half_of, status_done}
use Rattle.quic_streams_laws.specs.StatusLaws as receives_laws
use Rattle.quic_streams_laws.specs.Summed.{sum_below}
use Rattle.quic_streams_laws.specs.SummedLaws.{sum_one, opened_below}
use Rattle.quic_headline.specs.Undone.{same_dir}
use Rattle.quic_headline.proofs.Channel.AllStreams.{ids}

-- ---- which streams are

-- of a stream that isn't one of these, the half that receives may have come any way; of one that
-- is, it is done
abbrev pub IsLeft : Bool → Status RecvHalf → Type 0
IsLeft b unknown = b ≡ false
IsLeft b fresh = b ≡ false
IsLeft b (live h) = b ≡ false
IsLeft b done = Unit {0}

-- a stream that runs both ways isn't one of these
abbrev pub RunsOneWay : (ℕ → Bool) → ℕ → Type 0
RunsOneWay both id = both id ≡ true → is_two_way (dir_of id) ≡ true → ⊥

-- one for what is so
abbrev pub mark : Bool → ℕ
mark true = 1
mark false = 0

-- one for each of these of a direction
abbrev pub marked : (ℕ → Bool) → Dir → ℕ → ℕ
marked both dir id = mark (same_dir (dir_of id) dir && both id)

-- no more streams count as done than these: they are the peer's, their halves that receive are
-- done, and so are those that send, where they run both ways
pub record CountsDone (s : StreamsState) : Type 0 where
  pub few : AreFew s
  pub both : ℕ → Bool
  pub theirs : (id : ℕ) → both id ≡ true → is_own s.side id ≡ false
  pub receives : AllReceiving (λ id x. IsLeft (both id) x) s
  pub sends : EachSends (λ id limit. Unit {0}) (RunsOneWay both) (λ id h. RunsOneWay both id) (λ id. Unit {0}) s
  pub count : (dir : Dir) → of dir s.opening.done ≤ sum_below ids (marked both dir)

-- ---- what stays so

left_goes : (both : ℕ → Bool) → GoesOn (λ id x. IsLeft (both id) x)
left_goes both = record { opens = λ id i. i; comes = λ id window i. i; told = λ id h n i. i; ends = λ id h i. tt }

none_of_halves : (both : ℕ → Bool) → AreOfHalves (λ id limit. Unit {0}) (RunsOneWay both) (λ id h. RunsOneWay both id) (λ id. Unit {0})
none_of_halves both = record { fresh = λ id limit f n. n; over = λ id h q ended. tt; blocked = λ id h b q. q; noted = λ id h said q. q; placed = λ id h p q. q }

left_kept : (both : ℕ → Bool) → KeepsBy (λ r id old new. IsLeft (both id) (live old) → IsLeft (both id) (live new)) (λ s id old new. Unit {0}) (λ s id n old new. Unit {0}) (AllReceiving (λ id x. IsLeft (both id) x))
left_kept both = receives_laws.each_kept (λ id x. IsLeft (both id) x) (left_goes both)

none_kept : (both : ℕ → Bool) → KeepsBy (λ r id old new. Unit {0}) (λ s id old new. RunsOneWay both id → RunsOneWay both id) (λ s id n old new. RunsOneWay both id → RunsOneWay both id) (EachSends (λ id limit. Unit {0}) (RunsOneWay both) (λ id h. RunsOneWay both id) (λ id. Unit {0}))
none_kept both = sends_laws.each_kept (λ id limit. Unit {0}) (RunsOneWay both) (λ id h. RunsOneWay both id) (λ id. Unit {0}) (none_of_halves both)

-- ---- one more is done

abbrev and_one : ℕ → (ℕ → Bool) → ℕ → Bool
and_one id both j = if j == id then true else both j

module _ (both : ℕ → Bool) (id : ℕ) where
  one_here : and_one id both id ≡ true
  one_here = cond-true (id == id) true (both id) (eq-eqb id id refl)

  one_apart : (j : ℕ) → (j ≡ id → ⊥) → and_one id both j ≡ both j
  one_apart j ne = cond-false (j == id) true (both j) (ne_eqb j id ne)

  -- the sum has one more where it wasn't one of them
  marked_more : (dir : Dir) → id < ids → both id ≡ false → sum_below ids (marked both dir) + mark (same_dir (dir_of id) dir) ≡ sum_below ids (marked (and_one id both) dir)
  marked_more dir small free =
      let f : ℕ → ℕ = marked both dir in
      let g : ℕ → ℕ = marked (and_one id both) dir in
      let others : (j : ℕ) → (j ≡ id → ⊥) → g j ≡ f j = λ j ne. ap (λ (b : Bool). mark (same_dir (dir_of j) dir && b)) (one_apart j ne) in
      let sums : sum_below ids g + f id ≡ sum_below ids f + g id = sum_one ids id f g small others in
      let was : f id ≡ 0 = ap (λ (b : Bool). mark (same_dir (dir_of id) dir && b)) free ∙ none_there (same_dir (dir_of id) dir) in
      let now : g id ≡ mark (same_dir (dir_of id) dir) = ap (λ (b : Bool). mark (same_dir (dir_of id) dir && b)) one_here ∙ one_there (same_dir (dir_of id) dir) in
      omega (arith, sums, was, now)
    where
      none_there : (b : Bool) → mark (b && false) ≡ 0
      none_there true = refl
      none_there false = refl

      one_there : (b : Bool) → mark (b && true) ≡ mark b
      one_there true = refl
      one_there false = refl

  -- of a half that is done nothing is asked
  left_more : (q : ℕ) (x : Status RecvHalf) → (q ≡ id → ⊥) → IsLeft (both q) x → IsLeft (and_one id both q) x
  left_more q x ne i = subst (λ (b : Bool). IsLeft b x) (sym (one_apart q ne)) i

  none_more : (q : ℕ) → (q ≡ id → ⊥) → RunsOneWay both q → RunsOneWay (and_one id both) q
  none_more q ne i = λ one. i (sym (one_apart q ne) ∙ one)

-- no more is counted than one
one_counted : (d dir : Dir) (o : Opening) → of dir (one_done d o).done ≤ of dir o.done + mark (same_dir d dir)
one_counted Bi Bi o = omega arith
one_counted Bi Uni o = omega arith
one_counted Uni Bi o = omega arith
one_counted Uni Uni o = omega arith

-- where a half that sends is done, nothing is asked
sent_done : (U : Type 0) (o : Option SendHalf) (m used : Bool) → is_done (status_from o m used) ≡ true → HalfIs U (λ (h : SendHalf). U) (Unit {0}) o used
sent_done U (Some h) m used is = cc
sent_done U None true true is = tt
sent_done U None true false is = cc
sent_done U None false true is = tt
sent_done U None false false is = cc

all_halves : (U : Type 0) (o : Option SendHalf) (used : Bool) → U → HalfIs U (λ (h : SendHalf). U) (Unit {0}) o used
all_halves U (Some h) used u = u
all_halves U None true u = tt
all_halves U None false u = u

remote_done : (dir : Dir) (n : ℕ) (o : Opening) → (with_remote dir n o).done ≡ o.done
remote_done Bi n o = refl
remote_done Uni n o = refl

joined_same : (s : StreamsState) (id : ℕ) (h : SendHalf) → ((joined s id h).opening ≡ s.opening) × ((joined s id h).side ≡ s.side)
joined_same s id h = cond_both {A = StreamsState} h.blocked _ _ (λ (t : StreamsState). (t.opening ≡ s.opening) × (t.side ≡ s.side)) (λ e. (refl, refl)) (λ e. (refl, refl))

-- ---- each small change

-- nothing more is done
again : (s t : StreamsState) (i : CountsDone s) → AreFew t → AllReceiving (λ id x. IsLeft (i.both id) x) t → EachSends (λ id limit. Unit {0}) (RunsOneWay i.both) (λ id h. RunsOneWay i.both id) (λ id. Unit {0}) t → t.opening.done ≡ s.opening.done → t.side ≡ s.side → CountsDone t
again s t i few receives sends same side = record {
  few = few;
  both = i.both;
  theirs = λ id one. subst (λ (x : Side). is_own x id ≡ false) (sym side) (i.theirs id one);
  receives = receives;
  sends = sends;
  count = λ dir. subst (λ (c : Counts). of dir c ≤ sum_below ids (marked i.both dir)) (sym same) (i.count dir);
}

-- a half that receives is done
ends_receiving : (s : StreamsState) (id : ℕ) (h : RecvHalf) → at s.receiving.halves.live id ≡ Some h → CountsDone s → CountsDone (recv_done s id)
ends_receiving s id h is i = go (not (is_own s.side id) && (not (is_two_way (dir_of id)) || is_done (sending_status s id))) refl (few_kept (changes.ends_receiving id h) s is i.few) (left_kept i.both (changes.ends_receiving id h) s is i.receives) (none_kept i.both (changes.ends_receiving id h) s is i.sends)
  where
    after : StreamsState
    after = record s { receiving = record s.receiving { halves = without_half s.receiving.halves id; gone = s.receiving.gone + seen_at (at s.receiving.halves.live id) } }

    both : ℕ → Bool
    both = and_one id i.both

    shape : IsShaped s
    shape = i.receives.shape

    may : (receives_on s.side id && is_opened s id) ≡ true
    may = receives_may s id h shape (live_receives s id h is)

    small : id < ids
    small = let low = opened_below s id i.few (and_parts (receives_on s.side id) (is_opened s id) may).1 in omega arith

    free : i.both id ≡ false
    free = at_half_of (λ q x. IsLeft (i.both q) x) (left_goes i.both) s id h (live_receives s id h is) i.receives

    ended : receiving_status (done_if true id after) id ≡ done
    ended = status_done s.side (receives_on s.side id && is_opened s id) s.receiving.halves id shape.receiving.sorted may (shape.receiving.placed id h is)

    left : AllReceiving (λ q x. IsLeft (i.both q) x) (done_if true id after) → (q : ℕ) → IsLeft (both q) (receiving_status (done_if true id after) q)
    left l q = elim (cases_eq q id) [
      | inl same ↦ subst (λ (x : ℕ). IsLeft (both x) (receiving_status (done_if true id after) x)) (sym same) (subst (λ (x : Status RecvHalf). IsLeft (both id) x) (sym ended) tt)
      | inr ne ↦ left_more i.both id q (receiving_status (done_if true id after) q) ne (l.each q)
    ]

    -- where this stream runs both ways, its half that sends is done
    sent : (not (is_two_way (dir_of id)) || is_done (sending_status s id)) ≡ true → HalfIs (RunsOneWay both id) (λ (g : SendHalf). RunsOneWay both id) (Unit {0}) (at s.sending.halves.live id) (has_place s.side s.sending.halves.places id)
    sent over = elim (or_cases (not (is_two_way (dir_of id))) (is_done (sending_status s id)) over) [
      | inl one ↦ all_halves (RunsOneWay both id) (at s.sending.halves.live id) (has_place s.side s.sending.halves.places id) (λ there two. both_ways (is_two_way (dir_of id)) (not-true (is_two_way (dir_of id)) one) two)
      | inr gone ↦ sent_done (RunsOneWay both id) (at s.sending.halves.live id) (sends_on s.side id && is_opened s id) (has_place s.side s.sending.halves.places id) gone
    ]

    none : (not (is_two_way (dir_of id)) || is_done (sending_status s id)) ≡ true → (q : ℕ) → HalfIs (RunsOneWay both q) (λ (g : SendHalf). RunsOneWay both q) (Unit {0}) (at s.sending.halves.live q) (has_place s.side s.sending.halves.places q)
    none over q = elim (cases_eq q id) [
      | inl same ↦ subst (λ (x : ℕ). HalfIs (RunsOneWay both x) (λ (g : SendHalf). RunsOneWay both x) (Unit {0}) (at s.sending.halves.live x) (has_place s.side s.sending.halves.places x)) (sym same) (sent over)
      | inr ne ↦ half_follows {N = RunsOneWay i.both q} {N' = RunsOneWay both q} {Q = λ (g : SendHalf). RunsOneWay i.both q} {Q' = λ (g : SendHalf). RunsOneWay both q} {D = Unit {0}} {D' = Unit {0}} (none_more i.both id q ne) (λ g j. none_more i.both id q ne j) (λ x. x) (at s.sending.halves.live q) (has_place s.side s.sending.halves.places q) (i.sends.each q)
    ]

    go : (b : Bool) → (not (is_own s.side id) && (not (is_two_way (dir_of id)) || is_done (sending_status s id))) ≡ b → AreFew (done_if b id after) → AllReceiving (λ q x. IsLeft (i.both q) x) (done_if b id after)
        → EachSends (λ q limit. Unit {0}) (RunsOneWay i.both) (λ q g. RunsOneWay i.both q) (λ q. Unit {0}) (done_if b id after) → CountsDone (done_if b id after)
    go false c few receives sends = record { few = few; both = i.both; theirs = i.theirs; receives = receives; sends = sends; count = i.count }
    go true c few receives sends = (
        let parts = and_parts (not (is_own s.side id)) (not (is_two_way (dir_of id)) || is_done (sending_status s id)) c in
        record {
          few = few;
          both = and_one id i.both;
          theirs = λ q one. elim (cases_eq q id) [
            | inl same ↦ subst (λ (x : ℕ). is_own s.side x ≡ false) (sym same) (not-true (is_own s.side id) parts.0)
            | inr ne ↦ i.theirs q (sym (one_apart i.both id q ne) ∙ one)
          ];
          receives = record { shape = receives.shape; each = left receives };
          sends = record { shape = sends.shape; first = λ q. tt; each = none parts.1 };
          count = λ dir. (
              let more = marked_more i.both id dir small free in
              let one = one_counted (dir_of id) dir s.opening in
              let was = i.count dir in
              omega (arith, more, one, was));
        })

-- a half that sends is
ends_sending : (s : StreamsState) (id : ℕ) (h : SendHalf) → at s.sending.halves.live id ≡ Some h → HasEnded h → CountsDone s → CountsDone (send_done s id)
ends_sending s id h is over i = go (not (is_own s.side id) && is_done (receiving_status s id)) refl (few_kept (changes.ends_sending id h) s (is, over) i.few) (left_kept i.both (changes.ends_sending id h) s (is, over) i.receives) (none_kept i.both (changes.ends_sending id h) s (is, over) i.sends)
  where
    after : StreamsState
    after = without_send s id

    both : ℕ → Bool
    both = and_one id i.both

    shape : IsShaped s
    shape = i.receives.shape

    may : (sends_on s.side id && is_opened s id) ≡ true
    may = sends_may s id h shape (live_sends s id h is)

    small : id < ids
    small = let low = opened_below s id i.few (and_parts (sends_on s.side id) (is_opened s id) may).1 in omega arith

    two_way : is_own s.side id ≡ false → is_two_way (dir_of id) ≡ true
    two_way theirs = elim (or_cases (is_own s.side id) (is_two_way (dir_of id)) (and_parts (sends_on s.side id) (is_opened s id) may).0) [ inl own ↦ absurd (both_ways (is_own s.side id) theirs own) | inr two ↦ two ]

    there : RunsOneWay i.both id
    there = subst (λ (o : Option SendHalf). HalfIs (RunsOneWay i.both id) (λ (g : SendHalf). RunsOneWay i.both id) (Unit {0}) o (has_place s.side s.sending.halves.places id)) is (i.sends.each id)

    -- the half that receives is done
    ended : (x : Status RecvHalf) → is_done x ≡ true → IsLeft (both id) x
    ended unknown e = cc
    ended fresh e = cc
    ended (live g) e = cc
    ended done e = tt

    left : is_done (receiving_status s id) ≡ true → AllReceiving (λ q x. IsLeft (i.both q) x) (done_if true id after) → (q : ℕ) → IsLeft (both q) (receiving_status (done_if true id after) q)
    left gone l q = elim (cases_eq q id) [
      | inl same ↦ subst (λ (x : ℕ). IsLeft (both x) (receiving_status (done_if true id after) x)) (sym same) (ended (receiving_status s id) gone)
      | inr ne ↦ left_more i.both id q (receiving_status (done_if true id after) q) ne (l.each q)
    ]

    none : (q : ℕ) → HalfIs (RunsOneWay both q) (λ (g : SendHalf). RunsOneWay both q) (Unit {0}) (at (without s.sending.halves.live id) q) (has_place s.side s.sending.halves.places q)
    none q = elim (cases_eq q id) [
      | inl same ↦
          let here : HalfIs (RunsOneWay both id) (λ (g : SendHalf). RunsOneWay both id) (Unit {0}) (at (without s.sending.halves.live id) id) (has_place s.side s.sending.halves.places id) =
          subst (λ (o : Option SendHalf). HalfIs (RunsOneWay both id) (λ (g : SendHalf). RunsOneWay both id) (Unit {0}) o (has_place s.side s.sending.halves.places id)) (sym (at-without s.sending.halves.live id shape.sending.sorted))
          (subst (λ (b : Bool). HalfIs {A = SendHalf} (RunsOneWay both id) (λ (g : SendHalf). RunsOneWay both id) (Unit {0}) None b) (sym (shape.sending.placed id h is)) tt) in
          subst (λ (x : ℕ). HalfIs (RunsOneWay both x) (λ (g : SendHalf). RunsOneWay both x) (Unit {0}) (at (without s.sending.halves.live id) x) (has_place s.side s.sending.halves.places x)) (sym same) here
      | inr ne ↦ subst (λ (o : Option SendHalf). HalfIs (RunsOneWay both q) (λ (g : SendHalf). RunsOneWay both q) (Unit {0}) o (has_place s.side s.sending.halves.places q)) (sym (at-without-apart s.sending.halves.live id q ne))
          (half_follows {N = RunsOneWay i.both q} {N' = RunsOneWay both q} {Q = λ (g : SendHalf). RunsOneWay i.both q} {Q' = λ (g : SendHalf). RunsOneWay both q} {D = Unit {0}} {D' = Unit {0}} (none_more i.both id q ne) (λ g j. none_more i.both id q ne j) (λ x. x) (at s.sending.halves.live q) (has_place s.side s.sending.halves.places q) (i.sends.each q))
    ]

    go : (b : Bool) → (not (is_own s.side id) && is_done (receiving_status s id)) ≡ b → AreFew (done_if b id after) → AllReceiving (λ q x. IsLeft (i.both q) x) (done_if b id after)
        → EachSends (λ q limit. Unit {0}) (RunsOneWay i.both) (λ q g. RunsOneWay i.both q) (λ q. Unit {0}) (done_if b id after) → CountsDone (done_if b id after)
    go false c few receives sends = record { few = few; both = i.both; theirs = i.theirs; receives = receives; sends = sends; count = i.count }
    go true c few receives sends = (
        let parts = and_parts (not (is_own s.side id)) (is_done (receiving_status s id)) c in
        let theirs_here : is_own s.side id ≡ false = not-true (is_own s.side id) parts.0 in
        let free : i.both id ≡ false = false_from_ne_true (i.both id) (λ one. there one (two_way theirs_here)) in
        record {
          few = few;
          both = and_one id i.both;
          theirs = λ q one. elim (cases_eq q id) [
            | inl same ↦ subst (λ (x : ℕ). is_own s.side x ≡ false) (sym same) theirs_here
            | inr ne ↦ i.theirs q (sym (one_apart i.both id q ne) ∙ one)
          ];
          receives = record { shape = receives.shape; each = left parts.1 receives };
          sends = record { shape = sends.shape; first = λ q. tt; each = none };
          count = λ dir. (
              let more = marked_more i.both id dir small free in
              let one = one_counted (dir_of id) dir s.opening in
              let was = i.count dir in
              omega (arith, more, one, was));
        })

pub done_kept : KeepsBy (λ r id old new. Unit {0}) (λ s id old new. Unit {0}) (λ s id n old new. Unit {0}) CountsDone
done_kept (changes.opens_theirs id) s (e, within) i = again s _ i (few_kept (changes.opens_theirs id) s (e, within) i.few) (left_kept i.both (changes.opens_theirs id) s (e, within) i.receives) (none_kept i.both (changes.opens_theirs id) s (e, within) i.sends) (remote_done (dir_of id) (index_of id + 1) s.opening) refl
done_kept (changes.changes_sending id old new) s (is, on, same) i = again s _ i (record { own = i.few.own; own_limit = i.few.own_limit; remote = i.few.remote; accepted = i.few.accepted }) (left_kept i.both (changes.changes_sending id old new) s (is, tt, same) i.receives) (none_kept i.both (changes.changes_sending id old new) s (is, (λ q. q), same) i.sends) refl refl
done_kept (changes.queues id old new b) s (is, on, has) i = again s _ i (record { own = i.few.own; own_limit = i.few.own_limit; remote = i.few.remote; accepted = i.few.accepted }) (left_kept i.both (changes.queues id old new b) s (is, tt, has) i.receives) (none_kept i.both (changes.queues id old new b) s (is, (λ q. q), has) i.sends) refl refl
done_kept (changes.turns id old new) s (is, on, has) i = again s _ i (record { own = i.few.own; own_limit = i.few.own_limit; remote = i.few.remote; accepted = i.few.accepted }) (left_kept i.both (changes.turns id old new) s (is, tt, has) i.receives) (none_kept i.both (changes.turns id old new) s (is, (λ q. q), has) i.sends) refl refl
done_kept (changes.writes id n old new) s (is, on, has) i = again s _ i (record { own = i.few.own; own_limit = i.few.own_limit; remote = i.few.remote; accepted = i.few.accepted }) (left_kept i.both (changes.writes id n old new) s (is, tt, has) i.receives) (none_kept i.both (changes.writes id n old new) s (is, (λ q. q), has) i.sends) refl refl
done_kept (changes.joins id h) s is i = (let same = joined_same s id h in again s (joined s id h) i (few_kept (changes.joins id h) s is i.few) (left_kept i.both (changes.joins id h) s is i.receives) (none_kept i.both (changes.joins id h) s is i.sends) (ap (λ (o : Opening). o.done) same.0) same.1)
done_kept (changes.ends_sending id h) s (is, over) i = ends_sending s id h is over i
done_kept (changes.changes_receiving r id old new) s (is, on, same) i = again s _ i (record { own = i.few.own; own_limit = i.few.own_limit; remote = i.few.remote; accepted = i.few.accepted }) (left_kept i.both (changes.changes_receiving r id old new) s (is, (λ q. q), same) i.receives) (none_kept i.both (changes.changes_receiving r id old new) s (is, tt, same) i.sends) refl refl
done_kept (changes.ends_receiving id h) s is i = ends_receiving s id h is i
done_kept c s may i = again s _ i (few_kept c s may i.few) (left_kept i.both c s may i.receives) (none_kept i.both c s may i.sends) refl refl
