-- How many own ids an end issued, by how many the peer retired (RFC 9000, section 5.1.1), as a
-- group: no more than live, and were retired.
use Rattle.std.proofs.Common.{◌≡◌, ℕ, suc, ◌+◌, ◌^◌, ◌<◌, ◌≤◌, ◌||◌, ◌&&◌, not, Bool, true, false, cond, leb, nat_lt, List, [], ◌∷◌, length, Option, Some, None, Result, Ok, Err, refl, sym, ap, ◌∙◌, subst, inl, inr, arith}
use Rattle.std.specs.Prelude.{◌==◌, count_by, min, if◌then◌else◌}
use Rattle.std.specs.List.{list_any}
use Rattle.std.specs.Ordering.{nat_cmp, match_ordering, is_eq}
use Rattle.std.specs.declared.cmp.Ordering.{Ordering}
use Rattle.std.specs.declared.cmp.Ordering.TheVariants.{Less, Equal, Greater}
use Rattle.std.specs.BTreeMap.{is_at}
use Rattle.std.specs.BTreeSet.{insert_key}
use Rattle.std.specs.declared.ops.Range.{Range}
use Rattle.std.proofs.lemmas.Bool.{and_from, and_parts, or_cases, eqb-true, eq-eqb, ne_eqb, ltb-true, lt-ltb, leb-false, not-true}
use Rattle.std.proofs.lemmas.List.Sums.{sum_by-cons, count_by-le-length}
use Rattle.quic_wire_core.specs.TransportError.{ErrorValue}
use Rattle.quic_wire.specs.Value.{FrameValue, ack, stream, reset_stream, stop_sending, max_data, max_stream_data, max_streams, datagram, path_response, handshake_done, new_connection_id, retire_connection_id, ack_frequency}
use Rattle.quic_ids.specs.CidState.{OwnIds, is_in, without, is_wrong, retirement_answer, Rise}
use Rattle.quic_ids.specs.CidQueue.{insert_answer}
use Rattle.quic_ids.specs.declared.cid_queue.InsertError.{InsertError}
use Rattle.quic_ids.specs.declared.cid_queue.InsertError.TheVariants as inserts
use Rattle.quic_ids.proofs.OwnIdLaws.{in_inserted, rise_inserted, in_without, rise_without}
use Rattle.quic_paths.specs.Paths.{is_asked}
use Rattle.quic_retransmits.specs.Retransmits.{can_retire}
use Rattle.quic_machine.specs.declared.answers.State.TheVariants as states
use Rattle.quic_machine.specs.declared.run.Call.{Call}
use Rattle.quic_machine.specs.declared.run.Answer.{Answer}
use Rattle.quic_machine.specs.Ids.{Ids, retired, may_issue, issued_one, frame_of, retires_for}
use Rattle.quic_machine.specs.IdFrames.{retiring, with_taken_up, issued_if, issues_for, end_on_next_id}
use Rattle.quic_machine.specs.Validation.{word_of, validated_if}
use Rattle.quic_machine.specs.Sizes.{shortened}
use Rattle.quic_machine.specs.End.{End, with_ids}
use Rattle.quic_machine.specs.Receive.{Outcome, names_ungiven, retired_for, id_judged, retirement_judged, take_frame}
use Rattle.quic_machine.specs.FrameCases.{IsApart, passed, begun, frame_leaves, issues_may, frames_taken}
use Rattle.quic_headline.specs.Runs.{In, Packet, Intake}
use Rattle.quic_headline.specs.Begins.{and_number, retired_in, retired_numbers}
use Rattle.quic_headline.proofs.Places.Parties.{Party, called, came_to}
use Rattle.quic_headline.proofs.Places.Groups.{Calls, Group}
use Rattle.quic_headline.proofs.Places.Coming.{by_coming}
use Rattle.quic_headline.proofs.Packets.Apart.{by_frequency, by_heard_done}
use Rattle.quic_headline.proofs.Packets.Delivered.{Arrivals, arrived, frames_at, among_at, with_taken}
use Rattle.quic_headline.proofs.Packets.Group.{PacketsHold, meets}
use Rattle.quic_headline.proofs.Packets.Moving.{moving_keeps}
use Rattle.quic_headline.proofs.Packets.Named.{by_frame}
use Rattle.quic_headline.proofs.Timers.Still.{was_open}
use Rattle.quic_headline.proofs.Duties.OfIds.{shortened_ids, ack_ids}
use Rattle.quic_headline.proofs.Channel.IdLists.{length_without, below_rises, length_below, only_below, retired_issued, room_left, next_issued}
use Rattle.quic_headline.proofs.Destined.Own.{SameOwn, call_own, next_own}

-- ---- counts

-- one more number
counts : (p : ℕ → Bool) (n : ℕ) (ns : List ℕ) → count_by p (n ∷ ns) ≡ cond (p n) 1 0 + count_by p ns
counts p n ns = sum_by-cons (λ m. cond (p m) 1 0) n ns

-- one that passes counts, and one that doesn't counts for nothing
counts_not : (b : Bool) → b ≡ false → ◌≡◌ {A = ℕ} (cond b 1 0) 0
counts_not true is = cc
counts_not false is = refl

counts_one : (b : Bool) → b ≡ true → ◌≡◌ {A = ℕ} (cond b 1 0) 1
counts_one true is = refl
counts_one false is = cc

-- one that passes a test passes another
no_less : (b c : Bool) → (b ≡ true → c ≡ true) → cond b 1 0 ≤ cond c 1 0
no_less true true is = omega arith
no_less true false is = let clash : false ≡ true = is refl in cc
no_less false true is = omega arith
no_less false false is = omega arith

-- where more pass another test, as many do or more
count_more : (p q : ℕ → Bool) (ns : List ℕ) → ((n : ℕ) → p n ≡ true → q n ≡ true) → count_by p ns ≤ count_by q ns
count_more p q [] more = omega arith
count_more p q (n ∷ ns) more =
    let a = counts p n ns in
    let b = counts q n ns in
    let rest = count_more p q ns more in
    let here = no_less (p n) (q n) (more n) in
    omega arith

-- and one more, where one passes that one alone
count_one_more : (p q : ℕ → Bool) (ns : List ℕ) (m : ℕ) → ((n : ℕ) → p n ≡ true → q n ≡ true) → In m ns → p m ≡ false → q m ≡ true → count_by p ns + 1 ≤ count_by q ns
count_one_more p q [] m more i off on = absurd i
count_one_more p q (n ∷ ns) m more (inl is) off on =
    let a = counts p n ns in
    let b = counts q n ns in
    let rest = count_more p q ns more in
    let none = counts_not (p n) (ap p (sym is) ∙ off) in
    let some = counts_one (q n) (ap q (sym is) ∙ on) in
    omega arith
count_one_more p q (n ∷ ns) m more (inr i) off on =
    let a = counts p n ns in
    let b = counts q n ns in
    let rest = count_one_more p q ns m more i off on in
    let here = no_less (p n) (q n) (more n) in
    omega arith

-- as many pass besides another number, or more
count_and : (p : ℕ → Bool) (n : ℕ) (ns : List ℕ) → count_by p ns ≤ count_by p (and_number n ns)
count_and p n ns = go (list_any (λ m. m == n) ns)
  where
    go : (b : Bool) → count_by p ns ≤ count_by p (if b then ns else n ∷ ns)
    go true = omega arith
    go false = let more = counts p n ns in omega arith

count_in : (p : ℕ → Bool) (fs : List FrameValue) (ns : List ℕ) → count_by p ns ≤ count_by p (retired_in fs ns)
count_in p [] ns = omega arith
count_in p (retire_connection_id n ∷ fs) ns = let rest = count_in p fs ns in let one = count_and p n (retired_in fs ns) in omega arith
count_in p (f ∷ fs) ns = count_in p fs ns

-- a number that is retired is one of them
among_and : (n m : ℕ) (ns : List ℕ) → In m ns → In m (and_number n ns)
among_and n m ns i = go (list_any (λ k. k == n) ns)
  where
    go : (b : Bool) → In m (if b then ns else n ∷ ns)
    go true = i
    go false = inr i

found : (n : ℕ) (ns : List ℕ) → list_any (λ k. k == n) ns ≡ true → In n ns
found n [] is = cc
found n (k ∷ ns) is = elim (or_cases (k == n) (list_any (λ j. j == n) ns) is) [ inl here ↦ inl (sym (eqb-true k n here)) | inr more ↦ inr (found n ns more) ]

itself_and : (n : ℕ) (ns : List ℕ) → In n (and_number n ns)
itself_and n ns = go (list_any (λ k. k == n) ns) refl
  where
    go : (b : Bool) → list_any (λ k. k == n) ns ≡ b → In n (if b then ns else n ∷ ns)
    go true is = found n ns is
    go false is = inl refl

pub among_retired : (n : ℕ) (fs : List FrameValue) (ns : List ℕ) → In (retire_connection_id n) fs → In n (retired_in fs ns)
among_retired n [] ns i = absurd i
among_retired n (retire_connection_id m ∷ fs) ns (inl is) = (let same : n ≡ m = cc in subst (λ (k : ℕ). In k (and_number m (retired_in fs ns))) (sym same) (itself_and m (retired_in fs ns)))
among_retired n (retire_connection_id m ∷ fs) ns (inr i) = among_and m n (retired_in fs ns) (among_retired n fs ns i)
among_retired n (f ∷ fs) ns (inr i) = among_retired n fs ns i
among_retired n (f ∷ fs) ns (inl is) = cc

-- ---- lists of numbers

-- one that doesn't stand there is put in
length_inserted : (ks : List ℕ) (m : ℕ) → is_in m ks ≡ false → length (insert_key nat_cmp ks m) ≡ length ks + 1
length_inserted [] m none = refl
length_inserted (k ∷ ks) m none = go (nat_cmp m k) none (length_inserted ks m)
  where
    go : (r : Ordering) → (is_eq r || is_in m ks) ≡ false → (is_in m ks ≡ false → length (insert_key nat_cmp ks m) ≡ length ks + 1) → length (match_ordering r (m ∷ k ∷ ks) (k ∷ ks) (k ∷ insert_key nat_cmp ks m)) ≡ suc (length ks) + 1
    go Less other more = omega arith
    go Equal other more = cc
    go Greater other more = let rest = more other in omega arith

-- nothing is taken out
kept_without : (m : ℕ) (ks : List ℕ) → is_in m ks ≡ false → without m ks ≡ ks
kept_without m [] none = refl
kept_without m (k ∷ ks) none = go (is_at (nat_cmp m) k) none (kept_without m ks)
  where
    go : (b : Bool) → (b || is_in m ks) ≡ false → (is_in m ks ≡ false → without m ks ≡ ks) → cond b ks (k ∷ without m ks) ≡ k ∷ ks
    go true other more = cc
    go false other more = ap (λ (ns : List ℕ). k ∷ ns) (more other)

-- ---- own ids

-- whether a number was issued, and lives no more
abbrev pub is_gone : OwnIds → ℕ → Bool
is_gone own n = nat_lt n own.issued && not (is_in n own.living)

-- Of own ids no more were issued than live, and are gone of these numbers; so many at least were,
-- and so many may live.
pub record AreNumbered (numbers : List ℕ) (least limit : ℕ) (own : OwnIds) (may : ℕ) : Type 0 where
  pub rise : Rise own.living 0
  pub below : (n : ℕ) → is_in n own.living ≡ true → n < own.issued
  pub gone : own.issued ≤ length own.living + count_by (λ n. is_gone own n) numbers
  pub more : least ≤ own.issued
  pub same : may ≡ limit

-- they are behind frames of which they are more, and from the present number on
pub numbers_more : (fs : List FrameValue) (numbers : List ℕ) (least limit : ℕ) (own : OwnIds) (may : ℕ) → AreNumbered numbers least limit own may → AreNumbered (retired_in fs numbers) own.issued limit own may
numbers_more fs numbers least limit own may i = record { rise = i.rise; below = i.below; gone = (let more = count_in (λ n. is_gone own n) fs numbers in let before = i.gone in omega arith); more = omega arith; same = i.same }

-- and from an earlier one
pub numbers_later : (numbers : List ℕ) (least lower limit : ℕ) (own : OwnIds) (may : ℕ) → lower ≤ least → AreNumbered numbers least limit own may → AreNumbered numbers lower limit own may
numbers_later numbers least lower limit own may low i = record { rise = i.rise; below = i.below; gone = i.gone; more = (let before = i.more in omega arith); same = i.same }

-- a frame retires one of these at most
abbrev pub Retires : List ℕ → FrameValue → Type 0
Retires numbers (retire_connection_id n) = In n numbers
Retires numbers f = Unit {0}

module _ (numbers : List ℕ) (least limit : ℕ) where
  abbrev N : Ids → Type 0
  N ids = AreNumbered numbers least limit ids.own ids.limit

  -- a number is retired
  number_retired : (n : ℕ) (ids : Ids) → In n numbers → N ids → N (retired n ids)
  number_retired n ids among i = go (is_wrong ids.own n) refl
    where
      left : OwnIds
      left = record ids.own { living = without n ids.own.living }

      in_left : (m : ℕ) → is_in m (without n ids.own.living) ≡ (is_in m ids.own.living && not (m == n))
      in_left m = in_without ids.own.living n m 0 i.rise

      lived : (m : ℕ) → is_in m (without n ids.own.living) ≡ true → is_in m ids.own.living ≡ true
      lived m is = (and_parts (is_in m ids.own.living) (not (m == n)) (sym (in_left m) ∙ is)).0

      still_gone : (m : ℕ) → is_gone ids.own m ≡ true → is_gone left m ≡ true
      still_gone m is =
          let both = and_parts (nat_lt m ids.own.issued) (not (is_in m ids.own.living)) is in
          and_from (nat_lt m ids.own.issued) (not (is_in m (without n ids.own.living))) both.0 (ap not (in_left m ∙ ap (λ (b : Bool). b && not (m == n)) (not-true (is_in m ids.own.living) both.1)))

      enough : n < ids.own.issued → (b : Bool) → is_in n ids.own.living ≡ b → ids.own.issued ≤ length (without n ids.own.living) + count_by (λ m. is_gone left m) numbers
      enough small false none =
          let same = ap length (kept_without n ids.own.living none) in
          let more = count_more (λ m. is_gone ids.own m) (λ m. is_gone left m) numbers still_gone in
          let before = i.gone in
          omega arith
      enough small true lives =
          let less = length_without n ids.own.living lives in
          let off : is_gone ids.own n ≡ false = ap (λ (b : Bool). nat_lt n ids.own.issued && not b) lives ∙ none (nat_lt n ids.own.issued) in
          let on : is_gone left n ≡ true = and_from (nat_lt n ids.own.issued) (not (is_in n (without n ids.own.living))) (lt-ltb n ids.own.issued small) (ap not (in_left n ∙ ap (λ (b : Bool). is_in n ids.own.living && not b) (eq-eqb n n refl) ∙ none (is_in n ids.own.living))) in
          let more = count_one_more (λ m. is_gone ids.own m) (λ m. is_gone left m) numbers n still_gone among off on in
          let before = i.gone in
          omega arith
        where
          none : (b : Bool) → (b && false) ≡ false
          none true = refl
          none false = refl

      go : (b : Bool) → is_wrong ids.own n ≡ b → AreNumbered numbers least limit (cond b ids.own left) ids.limit
      go true is = i
      go false is = record {
        rise = rise_without ids.own.living n 0 i.rise;
        below = λ m lives. i.below m (lived m lives);
        gone = enough (leb-false ids.own.issued n (or_none (ids.own.id_len == 0) (leb ids.own.issued n) is)) (is_in n ids.own.living) refl;
        more = i.more;
        same = i.same;
      }
        where
          or_none : (b c : Bool) → (b || c) ≡ false → c ≡ false
          or_none true c off = cc
          or_none false c off = off

  -- the next one is issued
  number_issued : (place now : ℕ) (ids : Ids) → ids.own.issued < 2 ^ 62 → N ids → N (issued_one place now ids)
  number_issued place now ids small i = record {
    rise = rise_inserted ids.own.living ids.own.issued 0 (omega arith) i.rise;
    below = λ n lives. elim (or_cases (n == ids.own.issued) (is_in n ids.own.living) (sym (in_inserted ids.own.living ids.own.issued n) ∙ lives)) [
      | inl is ↦ (let same = eqb-true n ids.own.issued is in let one = count in omega arith)
      | inr old ↦ (let less = i.below n old in let one = count in omega arith)
    ];
    gone = (
        let one = length_inserted ids.own.living ids.own.issued fresh in
        let more = count_more (λ n. is_gone ids.own n) (λ n. is_gone (issued_one place now ids).own n) numbers still_gone in
        let before = i.gone in
        let next = count in
        omega arith);
    more = (let before = i.more in let one = count in omega arith);
    same = i.same;
  }
    where
      count : (issued_one place now ids).own.issued ≡ ids.own.issued + 1
      count = next_issued place now ids small

      fresh : is_in ids.own.issued ids.own.living ≡ false
      fresh = go (is_in ids.own.issued ids.own.living) refl
        where
          go : (b : Bool) → is_in ids.own.issued ids.own.living ≡ b → is_in ids.own.issued ids.own.living ≡ false
          go true is = let less = i.below ids.own.issued is in absurd (omega arith)
          go false is = is

      still_gone : (n : ℕ) → is_gone ids.own n ≡ true → is_gone (issued_one place now ids).own n ≡ true
      still_gone n is =
          let both = and_parts (nat_lt n ids.own.issued) (not (is_in n ids.own.living)) is in
          let less = ltb-true n ids.own.issued both.0 in
          let one = count in
          and_from (nat_lt n (issued_one place now ids).own.issued) (not (is_in n (insert_key nat_cmp ids.own.living ids.own.issued))) (lt-ltb n (issued_one place now ids).own.issued (omega arith))
          (ap not (in_inserted ids.own.living ids.own.issued n ∙ ap (λ (b : Bool). b || is_in n ids.own.living) (ne_eqb n ids.own.issued (λ same. omega arith)) ∙ not-true (is_in n ids.own.living) both.1))

  -- where it is issued for one that is retired, its number lies below so many more than may live
  pub issued_near : (n : ℕ) (ids : Ids) → may_issue ids n ≡ true → In n numbers → N ids → ids.own.issued < limit + length numbers
  issued_near n ids may among i =
      let left = number_retired n ids among i in
      let room = (room_left ids n may).0 in
      let most = count_by-le-length (λ m. is_gone (retired n ids).own m) numbers in
      let gone = left.gone in
      let same = retired_issued ids.own n in
      let lim = i.same in
      omega arith

  -- ---- frames

  fits_numbers : (b : Bool) (e : End) → N e.ids → N (shortened b e).ids
  fits_numbers b e i = subst N (sym (shortened_ids b e)) i

  apart_numbers : (f : FrameValue) (e : End) → IsApart f → Retires numbers f → N e.ids → N (take_frame f e).end.ids
  apart_numbers (ack a) e apart may i = absurd apart
  apart_numbers (stream f) e apart may i = absurd apart
  apart_numbers (reset_stream f) e apart may i = absurd apart
  apart_numbers (stop_sending f) e apart may i = absurd apart
  apart_numbers (max_data limit) e apart may i = absurd apart
  apart_numbers (max_stream_data f) e apart may i = absurd apart
  apart_numbers (max_streams f) e apart may i = absurd apart
  apart_numbers (datagram m) e apart may i = absurd apart
  apart_numbers (new_connection_id f) e apart may i = go (retires_for (insert_answer e.ids.peer (frame_of f)))
    where
      retires : (b : Bool) (r : Range ℕ) → N (retired_for b r f e).end.ids
      retires true r = fits_numbers _ (retiring r (with_taken_up f e)) i
      retires false r = i

      go : (r : Result (Option (Range ℕ)) InsertError) → N (id_judged r f e).end.ids
      go (Ok None) = fits_numbers _ (with_taken_up f e) i
      go (Ok (Some r)) = retires (can_retire e.waiting.frames r.start r.end) r
      go (Err inserts.Retired) = i
      go (Err inserts.ExceedsLimit) = i
  apart_numbers (retire_connection_id n) e apart may i = go (retirement_answer e.ids.own n e.ids.limit)
    where
      left : N (retired n e.ids)
      left = number_retired n e.ids may i

      issues : (b : Bool) → issues_for n e ≡ b → N (issued_if b (with_ids e (retired n e.ids))).ids
      issues true is = number_issued (length e.waiting.frames.new_cids) e.closing.clock (retired n e.ids) (let small = (room_left e.ids n (issues_may n e is)).1 in let same = retired_issued e.ids.own n in omega arith) left
      issues false is = left

      go : (r : Result Bool ErrorValue) → N (retirement_judged r n e).end.ids
      go (Ok more) = issues (issues_for n e) refl
      go (Err error) = i
  apart_numbers (path_response token) e apart may i = go (is_asked e.validation.challenge (word_of token))
    where
      go : (b : Bool) → N (validated_if b e).ids
      go true = i
      go false = i
  apart_numbers handshake_done e apart may i = by_heard_done (λ (x : End). N x.ids) e i (λ c. i)
  apart_numbers (ack_frequency r) e apart may i = by_frequency (λ (x : End). N x.ids) r e (λ threshold reordering frequency. i)
  apart_numbers f e apart may i = i

  pub frame_numbers : (f : FrameValue) (e : End) → Retires numbers f → N e.ids → N (take_frame f e).end.ids
  frame_numbers f e = by_frame f e (λ g p. Retires numbers g → N e.ids → N p.end.ids)
      (λ a is may i. subst N (sym (ack_ids (names_ungiven a e) a e)) i)
      (λ other on may i. subst N (sym (frame_leaves (λ (x : End). x.ids ≡ e.ids) f e on (λ t. refl))) i)
      (λ other m same may i. subst N (sym (ap (λ (x : End). x.ids) same)) i)
      (λ other apart may i. apart_numbers f e apart may i)

  -- all of a packet
  pub packet_numbers : (fs : List FrameValue) (e : End) → ((f : FrameValue) → In f fs → Retires numbers f) → (passed fs e).fault ≡ None → N e.ids → N (passed fs e).end.ids
  packet_numbers fs e may none i = (frames_taken Of step fs e none (may, i)).1
    where
      Of : List FrameValue → End → Type 0
      Of left x = ((f : FrameValue) → In f left → Retires numbers f) × N x.ids

      step : (f : FrameValue) (left : List FrameValue) (x : End) → (take_frame f x).fault ≡ None → Of (f ∷ left) x → Of left (take_frame f x).end
      step f left x fine j = ((λ g k. j.0 g (inr k)), frame_numbers f x (j.0 f (inl refl)) j.1)

-- ---- the group

-- it is so of an open end, by what it took; as many may live as its peer takes, though 8 at most
abbrev pub NumbersAt : List Packet → ℕ → Ids → Type 0
NumbersAt took limit ids = AreNumbered (retired_numbers took) 0 limit ids.own ids.limit

-- as many of its own ids may live as the peer of an end takes, and 8 at most
abbrev pub may_live : Party → ℕ
may_live x = min x.made.peer_params.active_connection_id_limit 8

pub record Numbered (x y : Party) : Type 0 where
  pub own : x.end.closing.state ≡ states.Open → NumbersAt (came_to x y).took (may_live x) x.end.ids

-- what keeps own ids keeps that
numbers_same : (took : List Packet) (limit : ℕ) (ids others : Ids) → SameOwn ids others → NumbersAt took limit ids → NumbersAt took limit others
numbers_same took limit ids others same i =
    subst (λ (may : ℕ). AreNumbered (retired_numbers took) 0 limit others.own may) (sym same.limit)
    (subst (λ (own : OwnIds). AreNumbered (retired_numbers took) 0 limit own ids.limit) (sym same.own) i)

-- each frame of a packet retires a number of those that were retired once it was taken
pub each_retires : (frames : List FrameValue) (numbers : List ℕ) (f : FrameValue) → In f frames → Retires (retired_in frames numbers) f
each_retires frames numbers (retire_connection_id n) i = among_retired n frames numbers i
each_retires frames numbers f i = tt

-- each case of a delivery
arrivals_numbered : (limit : ℕ) (e : End) (now n : ℕ) (frames : List FrameValue) (here : Bool) (came : Intake) → (e.closing.state ≡ states.Open → NumbersAt came.took limit e.ids)
    → Arrivals e now n frames (frames_at here frames) came (λ (o : Outcome) (j : Intake). o.end.closing.state ≡ states.Open → NumbersAt j.took limit o.end.ids)
arrivals_numbered limit e now n frames here came own = record {
  ignored = λ reason opened. own opened;
  noted = λ state reason opened. own opened;
  takes = λ words state new none urged mark opened. taken state none;
  moves = λ q o same remote x is_open i opened. moving_keeps (λ (z : End). NumbersAt (with_taken came n frames).took limit z.ids) (λ m z j. j)
      (λ z b j. numbers_same (with_taken came n frames).took limit z.ids (end_on_next_id z b).ids (next_own z b) j) q o remote x (i is_open);
  drains = λ words state new close is opened. cc;
  refuses = λ words state new f is opened. cc;
  exhausts = λ state opened. cc;
}
  where
    numbers : List ℕ
    numbers = retired_in frames (retired_numbers came.took)

    taken : e.closing.state ≡ states.Open → (arrived e now n (frames_at here frames)).fault ≡ None → NumbersAt (with_taken came n frames).took limit (arrived e now n (frames_at here frames)).end.ids
    taken state none =
        let was = numbers_more frames (retired_numbers came.took) 0 limit e.ids.own e.ids.limit (own state) in
        let left = packet_numbers numbers e.ids.own.issued limit (frames_at here frames) (begun e now n)
        (among_at (Retires numbers) tt here frames (each_retires frames (retired_numbers came.took))) none was in
        let after : End = (arrived e now n (frames_at here frames)).end in
        numbers_later numbers e.ids.own.issued 0 limit after.ids.own after.ids.limit (omega arith) left

-- x makes a call
numbered_step : (x y : Party) (call : Call) (a : Answer) → Calls PacketsHold x y call a → Numbered x y → Numbered (called x y.given call a) y
numbered_step x y call a c i = record {
  own = by_coming x y a c.joined c.served (meets y x c.takes) (λ (e : End) (j : Intake). e.closing.state ≡ states.Open → NumbersAt j.took (may_live x) e.ids) call c.answer (record {
    apart = λ apart opened. numbers_same (came_to x y).took (may_live x) x.end.ids (called x y.given call a).end.ids (call_own x.policy x.end y.given call a apart) (i.own (was_open x.policy x.end y.given call a opened));
    none = λ delivery is opened. i.own opened;
    comes = λ delivery is s among here. arrivals_numbered (may_live x) x.end delivery.now s.number s.frames here (came_to x y) i.own;
  });
}

-- over the packets between both ends
pub numbered_group : Group PacketsHold Numbered
numbered_group = record {
  first = λ x y m there back. record { own = λ opened. record { rise = below_rises 8; below = λ n is. only_below 8 n is; gone = (let all = length_below 8 in omega arith); more = omega arith; same = refl } };
  writer = λ x y call a c i back. numbered_step x y call a c i;
  reader = λ x y call a c there i. record { own = i.own };
  shows = λ x y here there b back i j. record { own = i.own };
}
