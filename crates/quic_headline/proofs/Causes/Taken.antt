-- A delivery is answered `Taken` only where its datagram opens to a packet that is new, and that it
-- came before exactly where it opens to one that did.
use Rattle.std.proofs.Common.{◌≡◌, ℕ, suc, inl, inr, Bool, true, false, List, [], ◌∷◌, ◌++◌, Option, Some, None, Result, Ok, Err, refl, sym, ap, ◌∙◌, subst}
use Rattle.std.specs.Prelude.{◌↔◌, slice_get, if◌then◌else◌}
use Rattle.quic_wire_core.specs.declared.stream_id.Side.{Side}
use Rattle.quic_wire_core.specs.StreamId.{other_side}
use Rattle.quic_wire.specs.Items.{items}
use Rattle.quic_wire_core.specs.declared.shared.EcnCodepoint.{EcnCodepoint}
use Rattle.quic_packet.specs.Header.{key_phase}
use Rattle.quic_packet.specs.Datagram.{Opening}
use Rattle.quic_packet.specs.declared.packet.HeaderError.{HeaderError}
use Rattle.quic_packet.specs.declared.packet.HeaderError.TheVariants as headers
use Rattle.quic_recovery_core.specs.Duplicates.{Seen, is_duplicate}
use Rattle.quic_spaces.specs.Numbers.{expected, number_opened}
use Rattle.quic_machine.specs.Arrival.{Arrival, delivered_by}
use Rattle.quic_machine.specs.Closing.{ticked}
use Rattle.quic_machine.specs.declared.answers.State.{State}
use Rattle.quic_machine.specs.declared.answers.State.TheVariants as states
use Rattle.quic_machine.specs.declared.answers.DropReason.{DropReason}
use Rattle.quic_machine.specs.declared.answers.DropReason.TheVariants as drops
use Rattle.quic_machine.specs.declared.answers.Received.{Received}
use Rattle.quic_machine.specs.declared.answers.Received.TheVariants.{Taken, Dropped}
use Rattle.quic_machine.specs.declared.answers.Received.TheVariants as receives
use Rattle.quic_machine.specs.declared.run.Call.TheVariants as calls
use Rattle.quic_machine.specs.declared.run.Delivery.{Delivery}
use Rattle.quic_machine.specs.declared.run.Answer.{Answer}
use Rattle.quic_machine.specs.declared.run.Answer.TheVariants as answers
use Rattle.quic_machine.specs.Policy.{Policy}
use Rattle.quic_machine.specs.End.{End, with_closing, with_numbers}
use Rattle.quic_machine.specs.Opens.{in_phase, drop_of, head, opens_behind}
use Rattle.quic_machine.specs.Receive.{Fault, Outcome, broke, too_many_pieces, closed_by_peer, asks_in, is_urged, items_taken, take_payload, dropped, ends_as, by_state, unopened_in, opened_as, opening, headed, received_in, received}
use Rattle.quic_machine.specs.Machine.{World, IsAnswer, IsDelivered, fails, says_last}
use Rattle.quic_headline.specs.Runs.{Run, Told, Intake, is_again, handed, came_open, until, state_at, AreServed}
use Rattle.quic_headline.specs.Headline.{IsHonest, IsRun, IsAt}
use Rattle.quic_headline.specs.Causes.{came_by, PacketCame}
use Rattle.quic_headline.specs.Taken.{CameAgain, TakenExactly}
use Rattle.quic_headline.proofs.Packets.Growth.{get_front}
use Rattle.quic_headline.proofs.Packets.Invariant.{Knows, KnowsIn}
use Rattle.quic_headline.proofs.Packets.Window.{is_duplicate-is}
use Rattle.quic_headline.proofs.Packets.ByKey.{opens_from, came_open_is}
use Rattle.quic_headline.proofs.Packets.Elsewhere.{by_dropped}
use Rattle.quic_headline.proofs.Places.Parties.{told_of, Party, came_to, AreJoined}
use Rattle.quic_headline.proofs.Places.Placed.{Placed, placed, party_at, answered}
use Rattle.quic_headline.proofs.Places.Everything as everything
use Rattle.quic_headline.proofs.Places.Theorems.{ready}
use Rattle.quic_headline.proofs.Halves.Ready.{Ready}
use Rattle.quic_headline.proofs.Steps.Made.{MadeAt, served_before, told_next, told_here, made_at, made_served}
use Rattle.quic_machine.specs.RunLaws.{as_many_views}

-- ---- what is answered, by what a datagram opens to

-- it opens, to a number that is a duplicate or isn't, by what is kept of those that came
record Opens (again : Bool) (seen : Seen) (o : Option Opening) : Type 0 where
  opening : Opening
  is : o ≡ Some opening
  tells : is_duplicate seen opening.number ≡ again

module _ (p : Policy) (e : End) (arrival : Arrival) where
  -- what came again, as an answer
  abbrev duplicate : Received
  duplicate = Dropped drops.Duplicate

  -- what comes of an opening, by its key phase and by whether its number is a duplicate
  abbrev by_tests : Bool → Bool → Opening → Outcome
  by_tests phase again o = if phase then dropped drops.KeyPhase e else (if again then dropped drops.Duplicate e else by_state e.closing.state o arrival (with_numbers e (number_opened e.numbers o.number)))

  -- a datagram that doesn't open is answered neither
  unopened_taken : (s : State) (last : Bool) → (unopened_in s last arrival e).answer ≡ Taken → ⊥
  unopened_taken states.Open true is = cc
  unopened_taken states.Open false is = cc
  unopened_taken states.Closing last is = cc
  unopened_taken states.Drained last is = cc
  unopened_taken states.Failed last is = cc

  unopened_again : (s : State) (last : Bool) → (unopened_in s last arrival e).answer ≡ duplicate → ⊥
  unopened_again states.Open true is = cc
  unopened_again states.Open false is = cc
  unopened_again states.Closing last is = cc
  unopened_again states.Drained last is = cc
  unopened_again states.Failed last is = cc

  -- a packet that is new is taken at an open end alone
  taken_open : (s : State) (o : Opening) (x : End) → (by_state s o arrival x).answer ≡ Taken → s ≡ states.Open
  taken_open states.Open o x is = refl
  taken_open states.Closing o x is = cc
  taken_open states.Drained o x is = cc
  taken_open states.Failed o x is = cc

  -- and is never dropped as a duplicate
  ends_again : (f : Option Fault) (asking urged : Bool) (n : ℕ) (mark : Option EcnCodepoint) (x : End) → (ends_as f asking urged n mark x).answer ≡ duplicate → ⊥
  ends_again None asking urged n mark x is = cc
  ends_again (Some (closed_by_peer close)) asking urged n mark x is = cc
  ends_again (Some (broke error)) asking urged n mark x is = cc
  ends_again (Some too_many_pieces) asking urged n mark x is = cc

  state_again : (s : State) (o : Opening) (x : End) → (by_state s o arrival x).answer ≡ duplicate → ⊥
  state_again states.Open o x is =
      let begins : End = with_closing x (ticked x.closing arrival.now) in
      let asks = asks_in (items o.payload) in
      let within = items_taken o arrival x in
      let taken = take_payload o.first within begins in
      ends_again taken.fault asks (is_urged arrival.mark asks within begins) o.number arrival.mark taken.end is
  state_again states.Closing o x is = cc
  state_again states.Drained o x is = cc
  state_again states.Failed o x is = cc

  -- what was taken opened, to what is new
  tests_taken : (o : Opening) (phase again : Bool) → is_duplicate e.numbers.opened o.number ≡ again → (by_tests phase again o).answer ≡ Taken → (e.closing.state ≡ states.Open) × Opens false e.numbers.opened (if phase then None else Some o)
  tests_taken o true again tells is = absurd cc
  tests_taken o false true tells is = absurd cc
  tests_taken o false false tells is = (taken_open e.closing.state o (with_numbers e (number_opened e.numbers o.number)) is, record { opening = o; is = refl; tells = tells })

  headed_taken : (r : Result (List ℕ) DropReason) (d : List ℕ) → (headed r p e arrival d).answer ≡ Taken → (e.closing.state ≡ states.Open) × Opens false e.numbers.opened (opens_behind r p (expected e.numbers) d)
  headed_taken (Err error) d is = absurd cc
  headed_taken (Ok id) d is = go (opening p e d) is
    where
      go : (o : Option Opening) → (opened_as o p arrival e).answer ≡ Taken → (e.closing.state ≡ states.Open) × Opens false e.numbers.opened (in_phase o)
      go None is = absurd (unopened_taken e.closing.state arrival.last is)
      go (Some o) is = tests_taken o (key_phase o.first) (is_duplicate e.numbers.opened o.number) refl is

  received_taken : (s : State) (d : List ℕ) → (received_in s p e arrival d).answer ≡ Taken → (e.closing.state ≡ states.Open) × Opens false e.numbers.opened (opens_from p e arrival.remote (expected e.numbers) d)
  received_taken states.Open d is = headed_taken (head e arrival.remote d) d is
  received_taken states.Closing d is = headed_taken (head e arrival.remote d) d is
  received_taken states.Drained d is = absurd cc
  received_taken states.Failed d is = absurd cc

  -- what was dropped as a duplicate opened to one
  tests_again : (o : Opening) (phase again : Bool) → is_duplicate e.numbers.opened o.number ≡ again → (by_tests phase again o).answer ≡ duplicate → Opens true e.numbers.opened (if phase then None else Some o)
  tests_again o true again tells is = absurd cc
  tests_again o false true tells is = record { opening = o; is = refl; tells = tells }
  tests_again o false false tells is = absurd (state_again e.closing.state o (with_numbers e (number_opened e.numbers o.number)) is)

  header_again : (error : HeaderError) → Dropped (drop_of error) ≡ duplicate → ⊥
  header_again headers.TooShort is = cc
  header_again headers.NotShort is = cc
  header_again headers.FixedBit is = cc
  header_again headers.UnknownId is = cc

  headed_again : (r : Result (List ℕ) DropReason) (d : List ℕ) → head e arrival.remote d ≡ r → (headed r p e arrival d).answer ≡ duplicate → Opens true e.numbers.opened (opens_behind r p (expected e.numbers) d)
  headed_again (Err reason) d there is = absurd (by_dropped (λ (why : DropReason). Dropped why ≡ duplicate → ⊥) e arrival.remote d reason (λ same. cc) header_again there is)
  headed_again (Ok id) d there is = go (opening p e d) is
    where
      go : (o : Option Opening) → (opened_as o p arrival e).answer ≡ duplicate → Opens true e.numbers.opened (in_phase o)
      go None is = absurd (unopened_again e.closing.state arrival.last is)
      go (Some o) is = tests_again o (key_phase o.first) (is_duplicate e.numbers.opened o.number) refl is

  -- and what opens to one is dropped so
  tests_dropped : (o : Opening) (phase again : Bool) → is_duplicate e.numbers.opened o.number ≡ again → Opens true e.numbers.opened (if phase then None else Some o) → (by_tests phase again o).answer ≡ duplicate
  tests_dropped o true again tells opens = let clash : None ≡ Some opens.opening = opens.is in cc
  tests_dropped o false true tells opens = refl
  tests_dropped o false false tells opens =
      let same : o ≡ opens.opening = cc in
      let clash : false ≡ true = sym tells ∙ ap (λ (x : Opening). is_duplicate e.numbers.opened x.number) same ∙ opens.tells in
      cc

  headed_dropped : (r : Result (List ℕ) DropReason) (d : List ℕ) → Opens true e.numbers.opened (opens_behind r p (expected e.numbers) d) → (headed r p e arrival d).answer ≡ duplicate
  headed_dropped (Err error) d opens = let clash : None ≡ Some opens.opening = opens.is in cc
  headed_dropped (Ok id) d opens = go (opening p e d) opens
    where
      go : (o : Option Opening) → Opens true e.numbers.opened (in_phase o) → (opened_as o p arrival e).answer ≡ duplicate
      go None opens = let clash : None ≡ Some opens.opening = opens.is in cc
      go (Some o) opens = tests_dropped o (key_phase o.first) (is_duplicate e.numbers.opened o.number) refl opens

-- ---- a delivery

module _ (x y : Party) (delivery : Delivery) (a : Answer) (knows : KnowsIn x.end.closing.state x.end.numbers (came_to x y)) (joined : AreJoined x y) (is : IsAnswer x.policy x.end y.given (calls.Deliver delivery) a) where
  abbrev i : Intake
  i = came_to x y

  abbrev arrival : Arrival
  arrival = delivered_by (says_last a) delivery

  abbrev now_told : Told
  now_told = told_of (calls.Deliver delivery) a x.end.closing.state

  -- what a datagram opens to by its key is what it does there
  opens_so : (d : List ℕ) → a ≡ answers.Deliver (received x.policy x.end arrival d).answer → x.end.closing.state ≡ states.Open → Knows x.end.numbers i → came_open x.policy i.took a d ≡ opens_from x.policy x.end arrival.remote (expected x.end.numbers) d
  opens_so d told still_open k =
      ap (λ (b : Answer). came_open x.policy i.took b d) (told ∙ ap (λ (s : State). answers.Deliver (received_in s x.policy x.end arrival d).answer) still_open)
      ∙ came_open_is x.policy x.end arrival d i.took k.expected

  -- an open end knows what came
  known_so : x.end.closing.state ≡ states.Open → Knows x.end.numbers i
  known_so still_open = subst (λ (s : State). KnowsIn s x.end.numbers i) still_open knows

  -- the datagram stands in all that y gives
  stands : (d : List ℕ) → slice_get y.given delivery.index ≡ Some d → slice_get y.final delivery.index ≡ Some d
  stands d at = let more = joined.y_more in subst (λ (ds : List (List ℕ)). slice_get ds delivery.index ≡ Some d) more.1 (get_front y.given more.0 delivery.index d at)

  abbrev Came : Type 0
  Came = (c : PacketCame x.policy y.final (x.told ++ now_told ∷ [])) × (c.behind ≡ [])

  -- what was taken came
  taken_came : a ≡ answers.Deliver Taken → Came
  taken_came taken = go (slice_get y.given delivery.index) refl is
    where
      came : (d : List ℕ) → slice_get y.given delivery.index ≡ Some d → (told : a ≡ answers.Deliver (received x.policy x.end arrival d).answer) → (x.end.closing.state ≡ states.Open) × Opens false x.end.numbers.opened (opens_from x.policy x.end arrival.remote (expected x.end.numbers) d) → Came
      came d at told (still_open, o) = (
        record {
          before = x.told;
          call = now_told;
          behind = [];
          split = refl;
          was_open = still_open;
          datagram = d;
          handed_in = ap (λ (b : Answer). handed y.final (calls.Deliver delivery) b) taken ∙ stands d at;
          opening = o.opening;
          opened = opens_so d told still_open (known_so still_open) ∙ o.is;
          new = sym (is_duplicate-is i.opened x.end.numbers.opened o.opening.number (known_so still_open).seen) ∙ o.tells;
        },
        refl,
      )

      go : (o : Option (List ℕ)) → slice_get y.given delivery.index ≡ o → IsDelivered x.policy x.end delivery o a → Came
      go None at none = let clash : answers.NoDatagram ≡ answers.Deliver Taken = sym none ∙ taken in absurd cc
      go (Some d) at (inr failed) = let clash : answers.Deliver receives.Failed ≡ answers.Deliver Taken = sym failed ∙ taken in absurd cc
      go (Some d) at (inl told) = came d at told (received_taken x.policy x.end arrival x.end.closing.state d (let same : answers.Deliver (received x.policy x.end arrival d).answer ≡ answers.Deliver Taken = sym told ∙ taken in cc))

  module _ (served : fails a ≡ false) (still_open : x.end.closing.state ≡ states.Open) (datagram : List ℕ) (handed_in : handed y.final (calls.Deliver delivery) a ≡ Some datagram) where
    abbrev Again : Type 0
    Again = CameAgain x.policy i a datagram

    -- what a datagram that was given is answered, by what it opens to
    exactly : (d : List ℕ) → d ≡ datagram → a ≡ answers.Deliver (received x.policy x.end arrival d).answer → (a ≡ answers.Deliver (Dropped drops.Duplicate)) ↔ Again
    exactly d same told = (again, drops_so)
      where
        answer : a ≡ answers.Deliver (headed (head x.end arrival.remote d) x.policy x.end arrival d).answer
        answer = told ∙ ap (λ (s : State). answers.Deliver (received_in s x.policy x.end arrival d).answer) still_open

        opens_there : came_open x.policy i.took a datagram ≡ opens_from x.policy x.end arrival.remote (expected x.end.numbers) d
        opens_there = ap (λ (ds : List ℕ). came_open x.policy i.took a ds) (sym same) ∙ opens_so d told still_open (known_so still_open)

        tells : (n : ℕ) → is_duplicate x.end.numbers.opened n ≡ is_again n i.opened
        tells n = is_duplicate-is i.opened x.end.numbers.opened n (known_so still_open).seen

        again : a ≡ answers.Deliver (Dropped drops.Duplicate) → Again
        again is_dropped =
            let o = headed_again x.policy x.end arrival (head x.end arrival.remote d) d refl (let both : answers.Deliver (headed (head x.end arrival.remote d) x.policy x.end arrival d).answer ≡ answers.Deliver (Dropped drops.Duplicate) = sym answer ∙ is_dropped in cc) in
            record { opening = o.opening; opened = opens_there ∙ o.is; again = sym (tells o.opening.number) ∙ o.tells }

        drops_so : Again → a ≡ answers.Deliver (Dropped drops.Duplicate)
        drops_so c = answer ∙ ap (λ (b : Received). answers.Deliver b) (headed_dropped x.policy x.end arrival (head x.end arrival.remote d) d (record { opening = c.opening; is = sym opens_there ∙ c.opened; tells = tells c.opening.number ∙ c.again }))

    again_exactly : (a ≡ answers.Deliver (Dropped drops.Duplicate)) ↔ Again
    again_exactly = go (slice_get y.given delivery.index) refl is
      where
        go : (o : Option (List ℕ)) → slice_get y.given delivery.index ≡ o → IsDelivered x.policy x.end delivery o a → (a ≡ answers.Deliver (Dropped drops.Duplicate)) ↔ Again
        go None at none = let clash : None ≡ Some datagram = ap (λ (b : Answer). handed y.final (calls.Deliver delivery) b) (sym none) ∙ handed_in in absurd cc
        go (Some d) at (inr failed) = let clash : true ≡ false = ap fails (sym failed) ∙ served in absurd cc
        go (Some d) at (inl told) =
            let both : Some d ≡ Some datagram = sym (ap (λ (b : Answer). handed y.final (calls.Deliver delivery) b) told ∙ stands d at) ∙ handed_in in
            exactly d (let same : d ≡ datagram = cc in same) told

-- ---- the clause

module _ (r : Run) (end : World) (honest : IsHonest r) (run : IsRun r end) (side : Side) (i : ℕ) (delivery : Delivery) (a : Answer) (served : AreServed r (suc i)) (here : IsAt r i side (calls.Deliver delivery) a) where
  at : Placed (everything.All Ready ready) r end side i
  at = placed (everything.All Ready ready) (everything.all Ready ready) r end honest run side i (served_before r.answers i served)

  abbrev this : Party
  this = party_at r i at.world side at.sents

  abbrev other : Party
  other = party_at r i at.world (other_side side) at.theirs

  answer : IsAnswer this.policy this.end other.given (calls.Deliver delivery) a
  answer = answered r at.world end i side (calls.Deliver delivery) a at.goes_on here

  made : MadeAt r i side (calls.Deliver delivery) a
  made = made_at (everything.All Ready ready) (everything.all Ready ready) r end honest run i side (calls.Deliver delivery) a here served

  a_served : fails a ≡ false
  a_served = made_served r i side (calls.Deliver delivery) a made.before made.behind made.made

  -- the call is told last
  told_more : until r side (suc i) ≡ until r side i ++ told_of (calls.Deliver delivery) a this.end.closing.state ∷ []
  told_more =
      told_next side (this.made).closing.state i r.events r.answers r.views (record { side = side; call = calls.Deliver delivery }) a here.event here.answer (as_many_views r.keys r.start end r.events r.answers r.views run.follows)
      ∙ ap (λ (ts : List Told). until r side i ++ ts) (told_here side (state_at r side i) (calls.Deliver delivery) a ∙ ap (λ (s : State). told_of (calls.Deliver delivery) a s ∷ []) (sym at.state))

  new_at : a ≡ answers.Deliver Taken → (c : PacketCame this.policy other.final (until r side (suc i))) × (c.behind ≡ [])
  new_at taken = subst (λ (ts : List Told). (c : PacketCame this.policy other.final ts) × (c.behind ≡ [])) (sym told_more) (taken_came this other delivery a at.takes.0.0.knows at.joined answer taken)

  again_at : state_at r side i ≡ states.Open → (datagram : List ℕ) → handed other.final (calls.Deliver delivery) a ≡ Some datagram → (a ≡ answers.Deliver (Dropped drops.Duplicate)) ↔ CameAgain this.policy (came_by this.policy other.final (until r side i)) a datagram
  again_at opened datagram handed_in = again_exactly this other delivery a at.takes.0.0.knows at.joined answer a_served (at.state ∙ opened) datagram handed_in

pub taken_exactly : (r : Run) (end : World) → IsHonest r → IsRun r end → TakenExactly r
taken_exactly r end honest run = (
  λ side i delivery served here. new_at r end honest run side i delivery (answers.Deliver Taken) served here refl,
  λ side i delivery a datagram served opened here handed_in. again_at r end honest run side i delivery a served here opened datagram handed_in,
)
