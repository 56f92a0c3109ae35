-- What an application is answered that sends a message is what the lists say: at each place of an
-- honest run.
use Rattle.std.proofs.Common.{◌≡◌, ℕ, ◌+◌, ◌<◌, ◌≤◌, Bool, true, false, ◌||◌, List, length, Option, Some, None, Result, Ok, Err, inl, inr, refl, sym, ap, ◌∙◌, subst, ◌⊎◌, arith}
use Rattle.std.specs.Prelude.{nat_lt, is_none, if◌then◌else◌}
use Rattle.std.specs.List.{sum_by}
use Rattle.std.proofs.lemmas.Bool.{ltb-true, ltb-false, leb-true, leb-false, or_cases, or_parts}
use Rattle.std.proofs.lemmas.Option.{slice_get_within}
use Rattle.quic_wire_core.specs.declared.stream_id.Side.{Side}
use Rattle.quic_config.specs.Transport.{TransportSettings}
use Rattle.quic_parameters.specs.Parameters.{ParameterValues}
use Rattle.quic_messages.specs.declared.errors.SendDatagramError.{SendDatagramError}
use Rattle.quic_messages.specs.declared.errors.SendDatagramError.TheVariants.{UnsupportedByPeer, Disabled, TooLarge, Blocked, Memory}
use Rattle.quic_messages.specs.Sending.{max_size, has_room, sized_answer, send_answer}
use Rattle.quic_machine.specs.declared.answers.State.{State}
use Rattle.quic_machine.specs.declared.answers.State.TheVariants as states
use Rattle.quic_machine.specs.declared.run.Call.TheVariants as calls
use Rattle.quic_machine.specs.declared.run.EndView.{EndView}
use Rattle.quic_machine.specs.declared.run.Answer.TheVariants as answers
use Rattle.quic_machine.specs.Calls.{is_open}
use Rattle.quic_machine.specs.MessageCalls.{most_message, limits_of}
use Rattle.quic_machine.specs.End.{End}
use Rattle.quic_machine.specs.Machine.{World, end_at}
use Rattle.quic_machine.specs.RunLaws.{as_many_views}
use Rattle.quic_headline.specs.Runs.{Run, AreServed, state_at}
use Rattle.quic_headline.specs.Headline.{IsHonest, IsRun, IsAt}
use Rattle.quic_headline.specs.Polls.{seen_of}
use Rattle.quic_headline.specs.Queue.{queue_room}
use Rattle.quic_headline.specs.Inbox.{inbox_room}
use Rattle.quic_headline.specs.SendAnswers.{longest_at, bytes_waiting, IsReason, MayTake, SendsAreLet}
use Rattle.quic_headline.proofs.Places.Moments.{last_seen}
use Rattle.quic_headline.proofs.Places.Placed.{Placed, placed, answered}
use Rattle.quic_headline.proofs.Places.Lacking.{lacking_at}
use Rattle.quic_headline.proofs.Held.Clause.{Shortly, shortly}
use Rattle.quic_headline.proofs.Messages.Lists.{Waits, waits_at, known_there, waiting_is}

-- ---- what bounds a message

-- what an open end answers, by what it keeps itself, how long a message may be, and whether it has
-- room
abbrev judged : Option ℕ → Option ℕ → Bool → List ℕ → Result (Unit {0}) SendDatagramError
judged receive most fits m = if is_none receive then Err Disabled else sized_answer most fits m

-- why it refuses one
abbrev Why : Option ℕ → Option ℕ → Bool → List ℕ → SendDatagramError → Type 0
Why receive most fits m Disabled = receive ≡ None
Why receive most fits m UnsupportedByPeer = most ≡ None
Why receive most fits m TooLarge = (n : ℕ) × (most ≡ Some n) × (n < length m)
Why receive most fits m Blocked = fits ≡ false
Why receive most fits m Memory = ⊥

sized_why : (receive : Option ℕ) (n : ℕ) (fits : Bool) (m : List ℕ) (error : SendDatagramError) (b : Bool) → nat_lt n (length m) ≡ b → ◌≡◌ {A = Result (Unit {0}) SendDatagramError} (if b then Err TooLarge else (if fits then Ok tt else Err Blocked)) (Err error) → Why receive (Some n) fits m error
sized_why receive n fits m TooLarge true is e = (n, refl, ltb-true n (length m) is)
sized_why receive n fits m Disabled true is e = cc
sized_why receive n fits m UnsupportedByPeer true is e = cc
sized_why receive n fits m Blocked true is e = cc
sized_why receive n fits m Memory true is e = cc
sized_why receive n true m error false is e = cc
sized_why receive n false m Blocked false is e = refl
sized_why receive n false m Disabled false is e = cc
sized_why receive n false m UnsupportedByPeer false is e = cc
sized_why receive n false m TooLarge false is e = cc
sized_why receive n false m Memory false is e = cc

why : (receive most : Option ℕ) (fits : Bool) (m : List ℕ) (error : SendDatagramError) → judged receive most fits m ≡ Err error → Why receive most fits m error
why None most fits m Disabled e = refl
why None most fits m UnsupportedByPeer e = cc
why None most fits m TooLarge e = cc
why None most fits m Blocked e = cc
why None most fits m Memory e = cc
why (Some n) None fits m UnsupportedByPeer e = refl
why (Some n) None fits m Disabled e = cc
why (Some n) None fits m TooLarge e = cc
why (Some n) None fits m Blocked e = cc
why (Some n) None fits m Memory e = cc
why (Some n) (Some most) fits m error e = sized_why (Some n) most fits m error (nat_lt most (length m)) refl e

-- and what one is that it takes
record IsLet (receive most : Option ℕ) (fits : Bool) (m : List ℕ) : Type 0 where
  receives : receive ≡ None → ⊥
  bound : ℕ
  is_bound : most ≡ Some bound
  short : length m ≤ bound
  room : fits ≡ true

is_let : (receive most : Option ℕ) (fits : Bool) (m : List ℕ) → judged receive most fits m ≡ Ok tt → IsLet receive most fits m
is_let None most fits m e = cc
is_let (Some n) None fits m e = cc
is_let (Some n) (Some most) fits m e = go (nat_lt most (length m)) refl fits e
  where
    go : (b : Bool) → nat_lt most (length m) ≡ b → (f : Bool) → ◌≡◌ {A = Result (Unit {0}) SendDatagramError} (if b then Err TooLarge else (if f then Ok tt else Err Blocked)) (Ok tt) → IsLet (Some n) (Some most) f m
    go true is f e = cc
    go false is true e = record { receives = λ none. cc; bound = most; is_bound = refl; short = ltb-false most (length m) is; room = refl }
    go false is false e = cc

-- ---- at a place

module _ (r : Run) (end : World) (honest : IsHonest r) (run : IsRun r end) (side : Side) (i : ℕ) (m : List ℕ) (makes_room : Bool) (said : Result (Unit {0}) SendDatagramError) (served : AreServed r i) (opened : state_at r side i ≡ states.Open) (at : IsAt r i side (calls.Send m makes_room) (answers.Send said)) where
  place : Placed Shortly r end side i
  place = placed Shortly shortly r end honest run side i served

  abbrev e : End
  e = end_at side place.world

  within : i ≤ length r.views
  within =
      let there = slice_get_within r.answers i (answers.Send said) at.answer in
      let many = as_many_views r.keys r.start end r.events r.answers r.views run.follows in
      omega (arith, there, many)

  waits : Waits r end honest run side i place.world
  waits = waits_at r end honest run side i place.world within served place.leads

  -- how long a message may be is what is seen
  longest : most_message e ≡ longest_at r side i
  longest =
      ap (λ (p : ParameterValues). max_size p.max_datagram_frame_size (seen_of side place.world).current_mtu (length e.ids.peer.id)) waits.peer
      ∙ ap (λ (n : ℕ). max_size (end_at side r.start).peer_params.max_datagram_frame_size (seen_of side place.world).current_mtu n) ((known_there r end honest run side i place.world served place.leads).used ∙ sym (known_there r end honest run side 0 r.start refl refl).used)
      ∙ ap (λ (n : ℕ). max_size (end_at side r.start).peer_params.max_datagram_frame_size n (length (end_at side r.start).ids.peer.id)) (ap (λ (v : EndView). v.current_mtu) (sym (last_seen side r.keys i r.start place.world r.events r.answers r.views place.leads)))

  receive : e.transport.datagram_receive_buffer_size ≡ inbox_room r side
  receive = ap (λ (t : TransportSettings). t.datagram_receive_buffer_size) waits.transport

  room : e.transport.datagram_send_buffer_size ≡ queue_room r side
  room = ap (λ (t : TransportSettings). t.datagram_send_buffer_size) waits.transport

  many : sum_by (λ (x : List ℕ). length x) e.messages.queues.outgoing ≡ bytes_waiting r side i
  many = ap (λ (ms : List (List ℕ)). sum_by (λ (x : List ℕ). length x) ms) (sym (waiting_is r end honest run side i place.world within served place.leads))

  abbrev fits : Bool
  fits = makes_room || has_room e.transport.datagram_send_buffer_size m e.messages.queues

  -- what an open end answers that finds memory
  judges : send_answer (limits_of e) makes_room m e.messages.queues ≡ judged (inbox_room r side) (longest_at r side i) fits m
  judges =
      ap (λ (t : State). send_answer (record (limits_of e) { is_open = is_open t }) makes_room m e.messages.queues) (place.state ∙ opened)
      ∙ ap (λ (o : Option ℕ). judged o (most_message e) fits m) receive
      ∙ ap (λ (o : Option ℕ). judged (inbox_room r side) o fits m) longest

  -- an open end answers so, or finds no memory
  same : (said ≡ judged (inbox_room r side) (longest_at r side i) fits m) ⊎ (said ≡ Err Memory)
  same = go (answered r place.world end i side (calls.Send m makes_room) (answers.Send said) place.goes_on at)
    where
      of : (a b : Result (Unit {0}) SendDatagramError) → answers.Send a ≡ answers.Send b → a ≡ b
      of a b is = cc

      go : (answers.Send said ≡ answers.Send (send_answer (limits_of e) makes_room m e.messages.queues)) ⊎ (answers.Send said ≡ answers.Send (Err Memory)) → (said ≡ judged (inbox_room r side) (longest_at r side i) fits m) ⊎ (said ≡ Err Memory)
      go (inl is) = inl (of said (send_answer (limits_of e) makes_room m e.messages.queues) is ∙ judges)
      go (inr is) = inr (of said (Err Memory) is)

  has_none : fits ≡ false → (makes_room ≡ false) × (queue_room r side < bytes_waiting r side i + length m)
  has_none none =
      let both = or_parts makes_room (has_room e.transport.datagram_send_buffer_size m e.messages.queues) none in
      let more = leb-false (sum_by (λ (x : List ℕ). length x) e.messages.queues.outgoing + length m) e.transport.datagram_send_buffer_size both.1 in
      let bytes = many in
      let most = room in
      (both.0, omega (arith, more, bytes, most))

  has_some : fits ≡ true → (makes_room ≡ true) ⊎ (bytes_waiting r side i + length m ≤ queue_room r side)
  has_some some = elim (or_cases makes_room (has_room e.transport.datagram_send_buffer_size m e.messages.queues) some) [
    | inl drops ↦ inl drops
    | inr enough ↦ (
        let few = leb-true (sum_by (λ (x : List ℕ). length x) e.messages.queues.outgoing + length m) e.transport.datagram_send_buffer_size enough in
        let bytes = many in
        let most = room in
        inr (omega (arith, few, bytes, most)))
  ]

  reason : (error : SendDatagramError) → Why (inbox_room r side) (longest_at r side i) fits m error → IsReason r side i makes_room m error
  reason Disabled w = w
  reason UnsupportedByPeer w = w
  reason TooLarge w = w
  reason Blocked w = has_none w
  reason Memory w = absurd w

  may_take : judged (inbox_room r side) (longest_at r side i) fits m ≡ Ok tt → MayTake r side i makes_room m
  may_take is =
      let l = is_let (inbox_room r side) (longest_at r side i) fits m is in
      record { receives = l.receives; most = l.bound; is_most = l.is_bound; short = l.short; room = has_some l.room }

  -- it finds none only for one that it takes where there is some
  lacking : said ≡ Err Memory → MayTake r side i makes_room m
  lacking lacks = may_take (sym judges ∙ lacking_at r place.world end i side (calls.Send m makes_room) (answers.Send said) place.goes_on at lacks)

  refused : (error : SendDatagramError) → said ≡ Err error → IsReason r side i makes_room m error
  refused error is = elim same [
    | inl so ↦ reason error (why (inbox_room r side) (longest_at r side i) fits m error (sym so ∙ is))
    | inr lacks ↦ (let one : Err Memory ≡ Err error = sym lacks ∙ is in subst (IsReason r side i makes_room m) (same_error Memory error one) (lacking lacks))
  ]
    where
      same_error : (a b : SendDatagramError) → ◌≡◌ {A = Result (Unit {0}) SendDatagramError} (Err a) (Err b) → a ≡ b
      same_error a b x = cc

  taken : said ≡ Ok tt → MayTake r side i makes_room m
  taken is = elim same [
    | inl so ↦ may_take (sym so ∙ is)
    | inr lacks ↦ (let clash : ◌≡◌ {A = Result (Unit {0}) SendDatagramError} (Err Memory) (Ok tt) = sym lacks ∙ is in cc)
  ]

pub sends_are_let : (r : Run) (end : World) → IsHonest r → IsRun r end → SendsAreLet r
sends_are_let r end honest run = record {
  refused = λ side i m makes_room error served opened at. refused r end honest run side i m makes_room (Err error) served opened at error refl;
  taken = λ side i m makes_room served opened at. taken r end honest run side i m makes_room (Ok tt) served opened at refl;
}
