-- The close that an end owes can go: it has a form and fits, the application's with as much of its
-- text as there is room for.
use Rattle.std.proofs.Common.{◌≡◌, ℕ, zero, suc, ◌-◌, ◌<◌, ◌≤◌, ◌^◌, Bool, true, false, cond, List, [], ◌∷◌, length, map, Option, Some, None, Result, Ok, Err, refl, sym, subst, arith}
use Rattle.std.specs.Prelude.{if◌then◌else◌, option_map, nat_le, nat_lt, not, ◌&&◌}
use Rattle.std.proofs.lemmas.Bool.{leb-true, le-leb, ltb-true, and_parts}
use Rattle.std.specs.declared.ops.Range.{Range}
use Rattle.quic_wire_core.specs.Law.{length-shortest, varint_size_le}
use Rattle.quic_wire_core.specs.declared.stream_id.Side.{Side}
use Rattle.quic_wire_core.specs.declared.stream_id.Side.TheVariants.{Client, Server}
use Rattle.quic_wire_core.specs.TransportError.{plain_error, protocol_violation}
use Rattle.quic_wire.specs.Value.{FrameValue, ack, stream, reset_stream, stop_sending, max_data, max_stream_data, max_streams, datagram, new_token, handshake_done, new_connection_id, retire_connection_id, path_challenge, path_response, connection_close, application_close, immediate_ack, ack_frequency}
use Rattle.quic_wire.specs.Writing.{Fits, frame_size}
use Rattle.quic_wire.specs.NumbersWritten.{width_of}
use Rattle.quic_streams_parts.specs.declared.answers.Breach.{Breach}
use Rattle.quic_streams_parts.specs.declared.answers.Breach.TheVariants.{FlowControl, StreamLimit, StreamState, FinalSize, FrameEncoding, Pieces}
use Rattle.quic_messages.specs.declared.errors.ReceivedError.{ReceivedError}
use Rattle.quic_messages.specs.Messages.{received_answer}
use Rattle.quic_ids.specs.CidState.{is_wrong, without}
use Rattle.quic_ids.specs.CidQueue.{insert_answer}
use Rattle.quic_ids.specs.declared.cid_queue.InsertError.{InsertError}
use Rattle.quic_ids.specs.declared.cid_queue.InsertError.TheVariants as inserts
use Rattle.quic_retransmits.specs.Retransmits.{can_retire}
use Rattle.quic_streams_state.specs.Taking.{stream_breach, reset_breach, id_rule, broken}
use Rattle.quic_spaces.specs.Numbers.{can_number, cut_against}
use Rattle.quic_machine.specs.declared.answers.State.{State}
use Rattle.quic_machine.specs.declared.answers.State.TheVariants as states
use Rattle.quic_machine.specs.declared.answers.LostReason.{LostReason}
use Rattle.quic_machine.specs.declared.answers.LostReason.TheVariants as reasons
use Rattle.quic_machine.specs.declared.run.Call.{Call}
use Rattle.quic_machine.specs.declared.run.Call.TheVariants as calls
use Rattle.quic_machine.specs.declared.run.Answer.{Answer}
use Rattle.quic_machine.specs.Policy.{Policy}
use Rattle.quic_machine.specs.Reasons.{code_of, error_close}
use Rattle.quic_machine.specs.Closing.{Closing, ticked, close_owed}
use Rattle.quic_machine.specs.Ids.{frame_of, retires_for}
use Rattle.quic_machine.specs.Calls.{closed_in}
use Rattle.quic_machine.specs.End.{End, side_of, number_of, with_closing, closed_by}
use Rattle.quic_machine.specs.Receive.{Fault, Outcome, reason_of, fault_of, fault_at, names_ungiven, message_judged, retired_for, id_judged, retirement_judged, take_frame, unless_fault, take_items, asks_too_soon, frequency_judged, done_taken}
use Rattle.quic_machine.specs.Poll.{Polled, close_room, close_with, longest_fitting, fitted, may_seal, bounds, can_close, may_close, close_to_go, polled}
use Rattle.quic_machine.specs.PollCases.{by_poll, at_poll, composes}
use Rattle.quic_machine.specs.DraftLaws.{IsClose, HasRoom, close_most}
use Rattle.quic_machine.specs.FrameCases.{Settling, ack_taken, acked_keeps, losses_keep, named, passed, begun, frame_keeps, frame_leaves, apart_leaves, frames_keep}
use Rattle.quic_machine.specs.Steps as steps
use Rattle.quic_machine.specs.InjectionCases.{by_injection}
use Rattle.quic_machine.specs.LeaveCases.{by_expired, by_expiry, by_event}
use Rattle.quic_machine.specs.Machine.{says_last, after_call}
use Rattle.quic_machine.specs.CallCases.{is_delivery, by_done}
use Rattle.quic_headline.specs.Runs.{Intake}
use Rattle.quic_headline.specs.Headline.{CodeIsSmall}
use Rattle.quic_headline.proofs.Packets.Apart.{by_waits, by_next_id}
use Rattle.quic_headline.proofs.Packets.Closes.{by_closes}
use Rattle.quic_headline.proofs.Packets.Delivered.{Arrivals, arrived}
use Rattle.quic_headline.proofs.Packets.Probes.{may_leave}
use Rattle.quic_recovery_core.specs.AckFrequency.{is_stale}
use Rattle.quic_headline.proofs.Packets.Moved.{by_migrated}

-- ---- which closes can go

-- the numbers of a close have a form, and it names no text of QUIC's own
abbrev pub CanGo : FrameValue → Type 0
CanGo (connection_close c) = (c.code < 2 ^ 62) × (c.frame_type < 2 ^ 62) × (length c.reason ≡ 0)
CanGo (application_close c) = c.code < 2 ^ 62
CanGo f = ⊥

-- the close of an end can
abbrev pub OwesWell : End → Type 0
OwesWell e = (f : FrameValue) → e.closing.close ≡ Some f → CanGo f

-- a close that goes of an end
pub record GoesWell (e : End) (f : FrameValue) : Type 0 where
  pub is : IsClose f
  pub fits : nat_le (frame_size f) (close_room e) ≡ true
  pub form : Fits f

-- a number takes 8 bytes at most
narrow : (n : ℕ) → width_of n ≤ 8
narrow n = rw (length-shortest n) (varint_size_le n)

-- with no text it takes few
no_text : (code : ℕ) (text : List ℕ) → frame_size (close_with code text 0) ≤ 18
no_text code text =
    let one : width_of 29 ≡ 1 = refl in
    let code_width = narrow code in
    let none : width_of 0 ≡ 1 = refl in
    omega arith

-- of a text as much goes as has room
longest_fits : (room code : ℕ) (text : List ℕ) (n : ℕ) → 18 ≤ room → frame_size (close_with code text (longest_fitting room code text n)) ≤ room
longest_fits room code text zero enough = let few = no_text code text in omega arith
longest_fits room code text (suc n) enough = go (nat_le (frame_size (close_with code text (suc n))) room) refl (longest_fits room code text n enough)
  where
    go : (b : Bool) → nat_le (frame_size (close_with code text (suc n))) room ≡ b → frame_size (close_with code text (longest_fitting room code text n)) ≤ room
        → frame_size (close_with code text (if b then suc n else longest_fitting room code text n)) ≤ room
    go true is rest = leb-true (frame_size (close_with code text (suc n))) room is
    go false is rest = rest

-- the close that fits in so many bytes
record FitsIn (room : ℕ) (f : FrameValue) : Type 0 where
  is : IsClose f
  fits : nat_le (frame_size f) room ≡ true
  form : Fits f

fitted_well : (room : ℕ) (f : FrameValue) → 27 ≤ room → room < 2 ^ 62 → CanGo f → FitsIn room (fitted room f)
fitted_well room (connection_close c) enough most can =
    let one : width_of 28 ≡ 1 = refl in
    let code = narrow c.code in
    let type = narrow c.frame_type in
    let text = narrow (length c.reason) in
    let none = can.2 in
    record { is = tt; fits = le-leb (frame_size (connection_close c)) room (omega arith); form = (can.0, (can.1, (omega arith, tt))) }
fitted_well room (application_close c) enough most can =
    let n : ℕ = longest_fitting room c.code c.reason (length c.reason) in
    let within = longest_fits room c.code c.reason (length c.reason) (omega arith) in
    record { is = tt; fits = le-leb (frame_size (close_with c.code c.reason n)) room within; form = (can, (omega arith, tt)) }
fitted_well room f enough most can = absurd can

-- a close goes only where one may
close_may : (p : Policy) (e : End) (f : FrameValue) → close_to_go p e ≡ Some f → may_close p e ≡ true
close_may p e f is = go (may_close p e) is
  where
    go : (may : Bool) → (if may then option_map (fitted (close_room e)) (close_owed e.closing) else None) ≡ Some f → may ≡ true
    go true said = refl
    go false said = cc

-- its number is small, and near what it is cut against
pub close_small : (p : Policy) (e : End) (f : FrameValue) → close_to_go p e ≡ Some f → (number_of e < 2 ^ 62) × (number_of e - cut_against e.numbers < 2 ^ 31)
close_small p e f is =
    let close = (and_parts (not e.path.blocked) (can_close p e) (close_may p e f is)).1 in
    let give = (and_parts (nat_lt (number_of e) (2 ^ 62) && nat_lt (number_of e - cut_against e.numbers) (2 ^ 31)) (nat_lt e.numbers.sealed p.seals) close).0 in
    let both = and_parts (nat_lt (number_of e) (2 ^ 62)) (nat_lt (number_of e - cut_against e.numbers) (2 ^ 31)) give in
    (ltb-true (number_of e) (2 ^ 62) both.0, ltb-true (number_of e - cut_against e.numbers) (2 ^ 31) both.1)

-- and the key may seal one more
pub close_sealed : (p : Policy) (e : End) (f : FrameValue) → close_to_go p e ≡ Some f → e.numbers.sealed < p.seals
close_sealed p e f is =
    let close = (and_parts (not e.path.blocked) (can_close p e) (close_may p e f is)).1 in
    ltb-true e.numbers.sealed p.seals (and_parts (nat_lt (number_of e) (2 ^ 62) && nat_lt (number_of e - cut_against e.numbers) (2 ^ 31)) (nat_lt e.numbers.sealed p.seals) close).1

-- what goes of it, if anything does
pub record GoesSo (p : Policy) (e : End) (f : FrameValue) : Type 0 where
  pub well : GoesWell e f
  pub small : (number_of e < 2 ^ 62) × (number_of e - cut_against e.numbers < 2 ^ 31)

pub close_well : (p : Policy) (e : End) → OwesWell e → HasRoom e → (f : FrameValue) → close_to_go p e ≡ Some f → GoesSo p e f
close_well p e owes room f is = record { well = go (may_close p e) e.closing.owed e.closing.close refl is; small = close_small p e f is }
  where
    enough : 1159 ≤ close_room e
    enough = close_most e room

    most : close_room e < 2 ^ 62
    most = let wide = room.2 in omega arith

    go : (may owed : Bool) (o : Option FrameValue) → e.closing.close ≡ o → (if may then option_map (fitted (close_room e)) (if owed then o else None) else None) ≡ Some f → GoesWell e f
    go true true (Some g) there said =
        let same : fitted (close_room e) g ≡ f = cc in
        let fit : FitsIn (close_room e) f = subst (FitsIn (close_room e)) same (fitted_well (close_room e) g (let lots = enough in omega arith) most (owes g there)) in
        record { is = fit.is; fits = fit.fits; form = fit.form }
    go true true None there said = cc
    go true false o there said = cc
    go false owed o there said = cc

-- ---- closes for errors of QUIC

-- an end that closes for a reason whose code has a form owes one that can go
pub error_well : (reason : LostReason) (e : End) → code_of reason < 2 ^ 62 → OwesWell (closed_by reason e)
error_well reason e small f is = let same : error_close reason ≡ f = cc in subst CanGo same (small, omega arith, refl)

-- the code of a fault has a form
abbrev pub SmallFault : Option Fault → Type 0
SmallFault None = Unit {0}
SmallFault (Some f) = code_of (reason_of f) < 2 ^ 62

rule_small : (o : Option Breach) → SmallFault (fault_of o)
rule_small None = tt
rule_small (Some FlowControl) = omega arith
rule_small (Some StreamLimit) = omega arith
rule_small (Some StreamState) = omega arith
rule_small (Some FinalSize) = omega arith
rule_small (Some FrameEncoding) = omega arith
rule_small (Some Pieces) = omega arith

side_small : (side : Side) → SmallFault (fault_at side)
side_small Client = tt
side_small Server = omega arith

pub frame_small : (f : FrameValue) (e : End) → SmallFault (take_frame f e).fault
frame_small (ack a) e = go (names_ungiven a e)
  where
    go : (b : Bool) → SmallFault (ack_taken b a e).fault
    go true = omega arith
    go false = tt
frame_small (stream f) e = rule_small (stream_breach e.streams f)
frame_small (reset_stream f) e = rule_small (reset_breach e.streams f)
frame_small (stop_sending f) e = rule_small _
frame_small (max_data limit) e = tt
frame_small (max_stream_data f) e = rule_small _
frame_small (max_streams f) e = rule_small _
frame_small (datagram m) e = go (received_answer e.transport.datagram_receive_buffer_size m e.messages.queues)
  where
    go : (r : Result Bool ReceivedError) → SmallFault (message_judged r m e).fault
    go (Ok first) = tt
    go (Err error) = omega arith
frame_small (connection_close c) e = omega arith
frame_small (application_close c) e = omega arith
frame_small (path_challenge token) e = tt
frame_small (path_response token) e = tt
frame_small (new_token t) e = side_small (side_of e)
frame_small handshake_done e = go (side_of e)
  where
    go : (side : Side) → SmallFault (done_taken side e).fault
    go Client = tt
    go Server = omega arith
frame_small (new_connection_id f) e = judged (retires_for (insert_answer e.ids.peer (frame_of f)))
  where
    retires : (b : Bool) (r : Range ℕ) → SmallFault (retired_for b r f e).fault
    retires true r = tt
    retires false r = omega arith

    judged : (r : Result (Option (Range ℕ)) InsertError) → SmallFault (id_judged r f e).fault
    judged (Ok None) = tt
    judged (Ok (Some r)) = retires (can_retire e.waiting.frames r.start r.end) r
    judged (Err inserts.Retired) = tt
    judged (Err inserts.ExceedsLimit) = omega arith
frame_small (retire_connection_id n) e = go (is_wrong e.ids.own n)
  where
    go : (b : Bool) → SmallFault (retirement_judged (cond b (Err (plain_error protocol_violation)) (Ok (nat_lt (length (without n e.ids.own.living)) e.ids.limit))) n e).fault
    go true = omega arith
    go false = tt
frame_small immediate_ack e = tt
frame_small (ack_frequency f) e = go (is_stale e.frequency.last f.sequence) (asks_too_soon f)
  where
    go : (stale soon : Bool) → SmallFault (frequency_judged stale soon f e).fault
    go true soon = tt
    go false true = omega arith
    go false false = tt
frame_small f e = rule_small (broken e.streams (id_rule f))

-- so has that of a packet
frames_small : (fs : List FrameValue) (e : End) → SmallFault (passed fs e).fault
frames_small [] e = tt
frames_small (f ∷ fs) e = go (take_frame f e).fault refl (frame_small f e) (frames_small fs (take_frame f e).end)
  where
    go : (o : Option Fault) → (take_frame f e).fault ≡ o → SmallFault (take_frame f e).fault → SmallFault (passed fs (take_frame f e).end).fault → SmallFault (unless_fault o (take_frame f e) (take_items (map Ok fs))).fault
    go None is here rest = rest
    go (Some x) is here rest = here

-- why an end closes that may give no ordinary datagram
bound_small : (p : Policy) (e : End) (reason : LostReason) → bounds p e ≡ Some reason → code_of reason < 2 ^ 62
bound_small p e reason = go (can_number e.numbers) (may_seal p e)
  where
    go : (numbered sealed : Bool) → (if not numbered then Some reasons.NumberLimit else (if not sealed then Some reasons.KeyLimit else None)) ≡ Some reason → code_of reason < 2 ^ 62
    go true true is = cc
    go true false is = let same : reasons.KeyLimit ≡ reason = cc in subst (λ (r : LostReason). code_of r < 2 ^ 62) same (omega arith)
    go false sealed is = let same : reasons.NumberLimit ≡ reason = cc in subst (λ (r : LostReason). code_of r < 2 ^ 62) same (omega arith)

-- so an end that closes for one owes a close that can go
pub bound_well : (p : Policy) (e x : End) (reason : LostReason) → bounds p e ≡ Some reason → OwesWell (closed_by reason x)
bound_well p e x reason bound = error_well reason x (bound_small p e reason bound)

-- ---- what an end owes

settles : Settling OwesWell
settles (steps.known n) e i = i
settles s e i = i

pub frame_owes : (f : FrameValue) (e : End) → OwesWell e → OwesWell (take_frame f e).end
frame_owes = frame_keeps OwesWell (record {
  ack = λ rises a e i. acked_keeps OwesWell settles rises a (named a e) i;
  on_streams = λ f e on i. frame_leaves OwesWell f e on (λ t. i);
  message = λ m e i. i;
  apart = λ f e is i. apart_leaves OwesWell f e is (λ c. i) (λ c most. i);
})

-- in each case of a delivery
pub owed_arrivals : (e : End) (now n : ℕ) (frames taken : List FrameValue) (i : Intake) → OwesWell e → Arrivals e now n frames taken i (λ (o : Outcome) (j : Intake). OwesWell o.end)
owed_arrivals e now n frames taken i owes = record {
  ignored = λ reason. owes;
  noted = λ state reason. owes;
  takes = λ words state new none urged mark. after;
  moves = λ p o same remote x opened i. by_migrated OwesWell p o remote x (λ c. i) (λ c most. i);
  drains = λ words state new close is. after;
  refuses = λ words state new f is. error_well (reason_of f) (arrived e now n taken).end (subst SmallFault is (frames_small taken (begun e now n)));
  exhausts = λ state. error_well reasons.KeyLimit (with_closing e (ticked e.closing now)) (omega arith);
}
  where
    after : OwesWell (arrived e now n taken).end
    after = frames_keep OwesWell frame_owes taken (begun e now n) owes

polled_owes : (p : Policy) (e : End) (now : ℕ) → OwesWell e → OwesWell (polled p e now).end
polled_owes p e now i = by_poll p e now (λ (q : Polled). OwesWell q.end) (record {
  silent = i;
  failed = i;
  repeats = λ is. by_closes p (with_closing e (ticked e.closing now)) (λ (q : Polled). OwesWell q.end) i (λ f goes. i);
  nothing = λ c. i;
  closes = λ reason c bound. by_closes p (closed_by reason (at_poll e now c)) (λ (q : Polled). OwesWell q.end) (bound_well p e (at_poll e now c) reason bound) (λ f goes. bound_well p e (at_poll e now c) reason bound);
  gives = λ leaving c left is may ready some. (
      let x : End = at_poll e now c in
      subst (λ (closing : Closing). (f : FrameValue) → closing.close ≡ Some f → CanGo f) (sym (composes leaving x (may_leave e now leaving x ready)).closing) i);
})

-- any call that is no delivery, whose code has a form
pub owed_call : (p : Policy) (e : End) (theirs : List (List ℕ)) (call : Call) (a : Answer) → CodeIsSmall call → is_delivery call ≡ false → OwesWell e → OwesWell (after_call p e theirs call a)
owed_call p e theirs (calls.Close close) a small apart i = go e.closing.state
  where
    go : (state : State) → OwesWell (closed_in state close.now close.error_code close.reason e)
    go states.Open f is = (let same : application_close (record { code = close.error_code; reason = close.reason }) ≡ f = cc in subst CanGo same small)
    go states.Closing f is = i f is
    go states.Drained f is = i f is
    go states.Failed f is = i f is
owed_call p e theirs calls.UseNextId a small apart i = by_next_id OwesWell e a i (λ c. i) (λ c most. i)
owed_call p e theirs calls.HandshakeDone a small apart i = by_done OwesWell e a i i
owed_call p e theirs (calls.Poll now) a small apart i = polled_owes p e now i
owed_call p e theirs (calls.Timeout now) a small apart i = by_expiry p e now OwesWell i
    (λ b. by_waits OwesWell b (with_closing e (ticked e.closing now)) (λ f is. cc) i)
    (by_expired p.words e now OwesWell (λ acks tracking timers waits asked runs packets. i) (λ acks timers waits asked runs. losses_keep OwesWell settles (with_closing e (ticked e.closing now)) i) (λ x j. j))
owed_call p e theirs (calls.Deliver delivery) a small apart i = cc
owed_call p e theirs (calls.Inject injection) a small apart i = by_injection p e (says_last a) injection OwesWell i (λ now. error_well reasons.KeyLimit (with_closing e (ticked e.closing now)) (omega arith))
owed_call p e theirs calls.Event a small apart i = by_event e OwesWell i i (λ told. i)
owed_call p e theirs call a small apart i = i
