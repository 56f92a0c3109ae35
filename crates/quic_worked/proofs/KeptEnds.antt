-- What an end may keep, tell and seal, and ends that keep, tell or seal more.
use Rattle.std.proofs.Common.{◌≡◌, ◌≤◌, ◌+◌, ◌-◌, ◌<◌, ◌^◌, ◌*◌, ◌/◌, max, ℕ, cond, Bool, true, false, List, [], ◌∷◌, ◌++◌, length, take, drop, Some, None, refl, sym, ap, ◌∙◌, arith, append_assoc, length-append, zero, suc, Option, Ok, subst}
use Rattle.std.specs.Int.{w64, from_be_bytes}
use Rattle.std.proofs.lemmas.List.{drop_at}
use Rattle.quic_packet.specs.Datagram.{sent}
use Rattle.quic_streams_parts.specs.RecvHalf.{RecvHalf}
use Rattle.quic_streams_parts.specs.Table.{at}
use Rattle.quic_streams_parts.specs.Dirs.{of}
use Rattle.std.specs.Ordering.{nat_cmp}
use Rattle.std.specs.BTreeMap.{is_at}
use Rattle.quic_wire_core.specs.declared.stream_id.Dir.{Dir}
use Rattle.quic_wire_core.specs.declared.stream_id.Dir.TheVariants.{Bi, Uni}
use Rattle.quic_assembler.specs.Arrived.{bytes_read_of, runs_of}
use Rattle.quic_streams_state.specs.State.{seen, consumed}
use Rattle.quic_config.specs.Transport.{Settings}
use Rattle.quic_messages.specs.Messages.{bytes_of}
use Rattle.quic_machine.specs.Calls.{is_open}
use Rattle.quic_headline.specs.Credit.{most_at_once}
use Rattle.quic_headline.specs.Keeping.{KeepsWithin}
use Rattle.quic_headline.specs.FewEvents.{TellFew, EventsAreFew}
use Rattle.quic_headline.specs.Nonces.{IsSealed, SealedInTurn, SealedOnce}
use Rattle.quic_worked.specs.Settings.{plain_settings}
use Rattle.quic_worked.specs.Worked.{server_id, tag_of, worked_policies, once_taken}
use Rattle.quic_worked.specs.Acknowledged.{client_datagram}
use Rattle.quic_worked.proofs.WorkedKeys.{number_of}
use Rattle.quic_worked.specs.Kept.{took_five, four_on_a_stream, four_on_all, one_at_once, two_opened, half_apart, came_apart, four_mebibytes, room_of_one, two_bytes, two_empty, too_many_runs, too_many_known, asks_once, told_once, hands_in_before, taken_before, dropped_before, asks_twice, finished_twice, lost_twice, sealed_in_turn, sealed_under_one, sealed_falling, two_seals, handles, handled, polls_once, gave_none, hands_one, one_dropped, closes_it, was_closed, polls_twice, gave_twice, polls_between, gave_between}
use Rattle.std.specs.Prelude.{slice_get}
use Rattle.quic_wire_core.specs.TransportError.{ErrorValue}
use Rattle.quic_machine.specs.declared.answers.State.{State}
use Rattle.quic_machine.specs.declared.answers.LostReason.{LostReason}
use Rattle.quic_machine.specs.declared.answers.Transmit.{Transmit}
use Rattle.quic_machine.specs.declared.run.CloseCall.{CloseCall}
use Rattle.quic_machine.specs.declared.run.Call.{Call}
use Rattle.quic_machine.specs.declared.run.Answer.{Answer}
use Rattle.quic_machine.specs.Policy.{Policy}
use Rattle.quic_headline.specs.Reasons.{Explains}
use Rattle.quic_headline.specs.Alone.{Lone, FollowsAlone}
use Rattle.quic_headline.specs.LoneCloses.{Expires, ClosesFor, Drains, by_peer, by_idling, by_time, WasDone, ClosedForCause, DrainedForCause}
use Rattle.quic_headline.specs.FewCloses.{CloseFew}
use Rattle.quic_machine.specs.declared.answers.State.TheVariants as states
use Rattle.quic_machine.specs.declared.answers.LostReason.TheVariants as reasons
use Rattle.quic_machine.specs.declared.answers.DropReason.TheVariants as drops
use Rattle.quic_machine.specs.declared.answers.Received.TheVariants as receives
use Rattle.quic_machine.specs.declared.run.Call.TheVariants as calls
use Rattle.quic_machine.specs.declared.run.Answer.TheVariants as answers

-- the half of the stream that came, and what is read of it
the_half : (h : RecvHalf) × (at took_five.streams.receiving.halves.live 0 ≡ Some h) × (h.seen ≡ 5) × (bytes_read_of h.arrived ≡ 0)
unfolding once_taken
the_half = (_, refl, refl, refl)

pub stream_not : KeepsWithin four_on_a_stream took_five → ⊥
stream_not k =
    let most : the_half.0.seen ≤ bytes_read_of the_half.0.arrived + 4 = k.stream 0 the_half.0 the_half.1 in
    let five = the_half.2 in
    let none = the_half.3 in
    omega arith

all_seen : seen took_five.streams.receiving ≡ 5
unfolding once_taken
all_seen = refl

none_consumed : consumed took_five.streams.receiving ≡ 0
unfolding once_taken
none_consumed = refl

pub total_not : KeepsWithin four_on_all took_five → ⊥
total_not k =
    let most : seen took_five.streams.receiving ≤ consumed took_five.streams.receiving + 4 = k.total in
    let five = all_seen in
    let none = none_consumed in
    omega arith

none_done : of Bi two_opened.streams.opening.done ≡ 0
unfolding once_taken
none_done = refl

pub streams_not : KeepsWithin one_at_once two_opened → ⊥
streams_not k =
    let most : ◌≤◌ 2 (of Bi two_opened.streams.opening.done + 1) = k.streams Bi in
    let none = none_done in
    omega arith

-- ---- runs of a stream

apart_open : (n : ℕ) → is_open (came_apart n).closing.state ≡ true
unfolding once_taken
apart_open n = refl

pub apart_not : KeepsWithin plain_settings (came_apart 2049) → ⊥
apart_not k = let most : ◌≤◌ 2049 2048 = k.runs (apart_open 2049) 0 (half_apart 2049) refl in omega (arith, most)

pub wider_not : KeepsWithin four_mebibytes (came_apart 4097) → ⊥
wider_not k = let most : ◌≤◌ 4097 4096 = k.runs (apart_open 4097) 0 (half_apart 4097) refl in omega (arith, most)

-- what else such an end keeps
record OthersKept : Type 0 where
  streams : (dir : Dir) → of dir took_five.streams.opening.remote ≤ 1
  messages : took_five.messages.queues.incoming ≡ []
  numbers : length took_five.acknowledging.runs ≡ 1
  ids : length took_five.ids.peer.later ≡ 7

others_kept : OthersKept
unfolding once_taken
others_kept = record { streams = few; messages = refl; numbers = refl; ids = refl }
  where
    few : (dir : Dir) → of dir took_five.streams.opening.remote ≤ 1
    few Bi = omega arith
    few Uni = omega arith

-- so many bytes may come on a stream
abbrev with_window : ℕ → Settings
with_window window = record plain_settings { stream_receive_window = window }

-- it keeps no more than it may, where its stream does
apart_kept : (window n : ℕ) → runs_of (half_apart n).arrived.parts ≤ max 2048 (window / 1024) → 2 * n ≤ window → window ≤ 2 ^ 22 → KeepsWithin (with_window window) (came_apart n)
apart_kept window n few near small = record {
  stream = λ id h is. subst (λ (x : RecvHalf). x.seen ≤ bytes_read_of x.arrived + window) (it_is id h is) (omega arith);
  total = omega arith;
  runs = λ still id h is. subst (λ (x : RecvHalf). runs_of x.arrived.parts ≤ max 2048 (window / 1024)) (it_is id h is) few;
  streams = λ dir. at_most dir (others_kept.streams dir);
  messages = subst (λ (ms : List (List ℕ)). (bytes_of length ms ≤ 1250000) × (length ms ≤ max 1250000 1)) (sym others_kept.messages) (omega arith, omega arith);
  numbers = (let one = others_kept.numbers in omega arith);
  ids = (let seven = others_kept.ids in omega arith);
}
  where
    it_is : (id : ℕ) (h : RecvHalf) → at (came_apart n).streams.receiving.halves.live id ≡ Some h → half_apart n ≡ h
    it_is id h = go (is_at (nat_cmp id) 0)
      where
        go : (b : Bool) → cond b (Some (half_apart n)) None ≡ Some h → half_apart n ≡ h
        go true is = cc
        go false is = cc

    at_most : (dir : Dir) → of dir took_five.streams.opening.remote ≤ 1 → of dir took_five.streams.opening.remote ≤ of dir took_five.streams.opening.done + most_at_once dir (with_window window)
    at_most Bi one = omega arith
    at_most Uni one = omega arith

pub apart_meets : KeepsWithin plain_settings (came_apart 2048)
apart_meets = apart_kept 1250000 2048 (omega arith) (omega arith) (omega arith)

pub wide_meets : KeepsWithin four_mebibytes (came_apart 4096)
wide_meets = apart_kept (2 ^ 22) 4096 (omega arith) (omega arith) (omega arith)

-- ---- messages, numbers and ids

pub bytes_not : KeepsWithin room_of_one two_bytes → ⊥
bytes_not k = let most : ◌≤◌ 2 1 = k.messages.0 in omega (arith, most)

pub empty_not : KeepsWithin room_of_one two_empty → ⊥
empty_not k = let most : ◌≤◌ 2 1 = k.messages.1 in omega (arith, most)

pub runs_not : KeepsWithin plain_settings too_many_runs → ⊥
runs_not k = let most : ◌≤◌ 65 64 = k.numbers in omega (arith, most)

pub ids_not : KeepsWithin plain_settings too_many_known → ⊥
ids_not k = let most : ◌≤◌ 8 7 = k.ids in omega (arith, most)

-- ---- what an application is told

pub nothing_not : EventsAreFew [] asks_once told_once → ⊥
nothing_not few = let most : ◌≤◌ 1 0 = (few 1 refl).few in omega (arith, most)

pub datagram_lets : (byte : ℕ) (bytes : List ℕ) → TellFew ((byte ∷ bytes) ∷ []) hands_in_before taken_before
datagram_lets byte bytes = record { few = omega arith; finished = λ id. omega arith; lost = omega arith }

pub dropped_not : (byte : ℕ) (bytes : List ℕ) → EventsAreFew ((byte ∷ bytes) ∷ []) hands_in_before dropped_before → ⊥
dropped_not byte bytes few = let most : ◌≤◌ 1 0 = (few 2 refl).few in omega (arith, most)

pub again_not : EventsAreFew [] asks_twice finished_twice → ⊥
again_not few = let most : ◌≤◌ 2 1 = (few 2 refl).finished 0 in omega (arith, most)

pub lost_not : EventsAreFew [] asks_twice lost_twice → ⊥
lost_not few = let most : ◌≤◌ 2 1 = (few 2 refl).lost in omega (arith, most)

-- ---- what an end seals

-- the last 16 bytes of a datagram
abbrev last_of : List ℕ → List ℕ
last_of d = drop (length d - 16) d

-- what ends with 16 bytes has these last
ends_with : (xs tag : List ℕ) → length tag ≡ 16 → last_of (xs ++ tag) ≡ tag
ends_with xs tag long =
    let all = length-append xs tag in
    let before : length (xs ++ tag) - 16 ≡ length xs = omega arith in
    ap (λ (n : ℕ). drop n (xs ++ tag)) before ∙ drop_at xs tag (length xs) refl

-- four lists one behind another
four_parts : (head number payload tag : List ℕ) → length tag ≡ 16 → last_of (head ++ (number ++ (payload ++ tag))) ≡ tag
four_parts head number payload tag long =
    ap (λ (xs : List ℕ). last_of (head ++ xs)) (sym (append_assoc number payload tag)) ∙ ap last_of (sym (append_assoc head (number ++ payload) tag)) ∙ ends_with (head ++ (number ++ payload)) tag long

-- the number that its last bytes show
abbrev shown : List ℕ → ℕ
shown d = from_be_bytes w64 (take 8 (last_of d))

-- a datagram of the client shows the number under which it was sealed
shows_number : (n reference : ℕ) (id payload : List ℕ) → n < 2 ^ 62 → shown (sent worked_policies.client.header worked_policies.client.packet n reference id payload) ≡ n
shows_number n reference id payload small = ap (λ (tag : List ℕ). from_be_bytes w64 (take 8 tag)) (four_parts (_ ∷ id) _ payload (tag_of 0x63 n) refl) ∙ number_of 0x63 n small

-- so it was sealed under no other
no_other : (low n m : ℕ) (payload : List ℕ) → m < 2 ^ 62 → IsSealed worked_policies.client low n (client_datagram m 0 payload) → n ≡ m
no_other low n m payload small is = sym (shows_number n is.reference is.id is.payload is.small) ∙ ap shown (sym is.is) ∙ shows_number m 0 server_id payload small

-- a datagram of the client was sealed under its number
seals_it : (low number reference : ℕ) (payload : List ℕ) → number < 2 ^ 62 → reference ≤ low → number - reference < 2 ^ 31 → IsSealed worked_policies.client low number (client_datagram number reference payload)
seals_it low number reference payload small behind near = record { reference = reference; id = server_id; payload = payload; small = small; behind = behind; near = near; is = refl }

pub in_turn_seals : (first second third : List ℕ) → SealedOnce worked_policies.client (sealed_in_turn first second third)
in_turn_seals first second third =
    let last : SealedInTurn worked_policies.client 3 (client_datagram 3 2 third ∷ []) = (3, omega arith, omega arith, seals_it 3 3 2 third (omega arith) (omega arith) (omega arith), tt) in
    let both : SealedInTurn worked_policies.client 1 (client_datagram 2 0 second ∷ client_datagram 3 2 third ∷ []) = (2, omega arith, omega arith, seals_it 1 2 0 second (omega arith) (omega arith) (omega arith), last) in
    record { numbers = (0, omega arith, omega arith, seals_it 0 0 0 first (omega arith) (omega arith) (omega arith), both); few = omega arith }

pub under_one_not : (first second : List ℕ) → SealedOnce worked_policies.client (sealed_under_one first second) → ⊥
under_one_not first second s =
    let n = s.numbers in
    let later = n.4.1 in
    let other = no_other (n.0 + 1) n.4.0 0 second (omega arith) n.4.3 in
    omega arith

pub falling_not : (first second : List ℕ) → SealedOnce worked_policies.client (sealed_falling first second) → ⊥
falling_not first second s =
    let n = s.numbers in
    let later = n.4.1 in
    let other = no_other (n.0 + 1) n.4.0 0 second (omega arith) n.4.3 in
    omega arith

pub third_not : (first second third : List ℕ) → SealedOnce two_seals (sealed_in_turn first second third) → ⊥
third_not first second third s = let most : ◌≤◌ 3 2 = s.few in omega (arith, most)

-- ---- why an end isn't open

-- where there is one call, it did it
at_one : {X : Type 0} (y x : X) (place : ℕ) → slice_get (y ∷ []) place ≡ Some x → (place ≡ 0) × (y ≡ x)
at_one y x zero is = (refl, cc)
at_one y x (suc place) is = cc

pub called_closes : (p : Policy) (theirs : List (List ℕ)) (x left : Lone) (close : CloseCall) → x.end.closing.state ≡ states.Open → left.end.closing.state ≡ states.Closing → left.end.closing.reason ≡ Some reasons.Application → ClosedForCause p theirs x (closes_it close) was_closed left
called_closes p theirs x left close here closing reason = record {
  explained = subst (λ (s : State). Explains s left.end.closing.reason) (sym closing) (subst (λ (o : Option LostReason). Explains states.Closing o) (sym reason) tt);
  cause = λ why is.
      let shown : Some reasons.Application ≡ Some why = sym reason ∙ is in
      let same : reasons.Application ≡ why = cc in
      record { place = 0; before = x; led = refl; call = calls.Close close; called = refl; answer = answers.Close; answered = refl; does = (here, subst (λ (w : LostReason). ClosesFor p theirs w x (calls.Close close) answers.Close) same (close, refl)) };
}

pub uncalled_not : (p : Policy) (theirs : List (List ℕ)) (x left : Lone) (now : ℕ) → left.end.closing.reason ≡ Some reasons.Application → ClosedForCause p theirs x (handles now) handled left → ⊥
uncalled_not p theirs x left now reason c =
    let done = c.cause reasons.Application reason in
    let one = at_one (calls.Timeout now) done.call done.place done.called in
    let clash : calls.Timeout now ≡ calls.Close done.does.1.0 = one.1 ∙ done.does.1.1 in
    cc

pub unclosed_not : (p : Policy) (theirs : List (List ℕ)) (x left : Lone) (error : ErrorValue) → left.end.closing.reason ≡ Some (reasons.Transport error) → ClosedForCause p theirs x hands_one one_dropped left → ⊥
unclosed_not p theirs x left error reason c =
    let done = c.cause (reasons.Transport error) reason in
    let one = at_one (answers.Deliver (receives.Dropped drops.NotOpened)) done.answer done.place done.answered in
    let clash : answers.Deliver (receives.Dropped drops.NotOpened) ≡ answers.Deliver (receives.Closed error) = one.1 ∙ done.does.1 in
    cc

pub idle_drains : (p : Policy) (theirs : List (List ℕ)) (x left : Lone) (moment now : ℕ) → x.end.closing.state ≡ states.Open → x.end.timers.idle ≡ Some moment → moment ≤ now → DrainedForCause p theirs x (handles now) handled left
idle_drains p theirs x left moment now here set due is = record {
  place = 0;
  before = x;
  led = refl;
  call = calls.Timeout now;
  called = refl;
  answer = answers.Timeout (Ok tt);
  answered = refl;
  does = by_idling here (record { now = now; called = refl; answered = refl; moment = moment; set = set; due = omega (arith, due) });
}

-- a timer that hasn't expired drains nothing
too_early : (timer : Option ℕ) (clock moment now : ℕ) (call : Call) (a : Answer) → call ≡ calls.Timeout now → timer ≡ Some moment → clock < moment → now < moment → Expires timer clock call a → ⊥
too_early timer clock moment now call a is set before early e =
    let same_call : calls.Timeout now ≡ calls.Timeout e.now = sym is ∙ e.called in
    let same_now : now ≡ e.now = cc in
    let same_set : Some moment ≡ Some e.moment = sym set ∙ e.set in
    let same_moment : moment ≡ e.moment = cc in
    let due = e.due in
    omega arith

pub early_not : (p : Policy) (theirs : List (List ℕ)) (x left : Lone) (moment now : ℕ) → x.end.closing.state ≡ states.Open → x.end.timers.idle ≡ Some moment → x.end.closing.clock < moment → now < moment → left.end.closing.state ≡ states.Drained → DrainedForCause p theirs x (handles now) handled left → ⊥
early_not p theirs x left moment now here set before early drained c = go (c drained)
  where
    does_not : (y : Lone) (call : Call) (a : Answer) → y ≡ x → calls.Timeout now ≡ call → Drains p theirs y call a → ⊥
    does_not y call a same is (by_peer opened close d) = (let clash : calls.Timeout now ≡ calls.Deliver d.delivery = is ∙ d.called in cc)
    does_not y call a same is (by_idling opened e) =
        too_early y.end.timers.idle y.end.closing.clock moment now call a (sym is) (ap (λ (z : Lone). z.end.timers.idle) same ∙ set) (subst (λ (z : Lone). z.end.closing.clock < moment) (sym same) before) early e
    does_not y call a same is (by_time closing e) = (let clash : states.Open ≡ states.Closing = sym here ∙ ap (λ (z : Lone). z.end.closing.state) (sym same) ∙ closing in cc)

    at_start : (place : ℕ) (y : Lone) → place ≡ 0 → FollowsAlone p theirs x (take place (handles now)) (take place handled) y → y ≡ x
    at_start zero y is f = f
    at_start (suc place) y is f = cc

    go : WasDone p theirs (Drains p theirs) x (handles now) handled → ⊥
    go done =
        let one = at_one (calls.Timeout now) done.call done.place done.called in
        does_not done.before done.call done.answer (at_start done.place done.before one.0 done.led) one.1 done.does

pub polled_not : (p : Policy) (theirs : List (List ℕ)) (x left : Lone) (now : ℕ) → left.end.closing.state ≡ states.Drained → DrainedForCause p theirs x (polls_once now) gave_none left → ⊥
polled_not p theirs x left now drained c = go (c drained)
  where
    does_not : (y : Lone) (call : Call) (a : Answer) → calls.Poll now ≡ call → Drains p theirs y call a → ⊥
    does_not y call a is (by_peer opened close d) = (let clash : calls.Poll now ≡ calls.Deliver d.delivery = is ∙ d.called in cc)
    does_not y call a is (by_idling opened e) = (let clash : calls.Poll now ≡ calls.Timeout e.now = is ∙ e.called in cc)
    does_not y call a is (by_time closing e) = (let clash : calls.Poll now ≡ calls.Timeout e.now = is ∙ e.called in cc)

    go : WasDone p theirs (Drains p theirs) x (polls_once now) gave_none → ⊥
    go done = does_not done.before done.call done.answer (at_one (calls.Poll now) done.call done.place done.called).1 done.does

pub once_more_closes : (now : ℕ) (t : Transmit) → CloseFew (polls_between now) (gave_between t)
once_more_closes now t = omega arith

pub unasked_not : (now : ℕ) (t : Transmit) → CloseFew (polls_twice now) (gave_twice t) → ⊥
unasked_not now t few = let most : ◌≤◌ 2 1 = few in omega (arith, most)
