-- The close that an end owes fits into its datagram, whatever comes: only the application's has a
-- text, of which as much goes as there is room for.
use Rattle.std.proofs.Common.{◌≡◌, ℕ, zero, suc, ◌≤◌, Bool, true, false, List, length, Option, Some, None, refl, sym, subst, arith}
use Rattle.std.specs.Prelude.{if◌then◌else◌, option_map, nat_le, slice_get}
use Rattle.std.proofs.lemmas.Bool.{leb-true}
use Rattle.quic_wire_core.specs.Law.{length-shortest, varint_size_le}
use Rattle.quic_wire.specs.Value.{FrameValue, connection_close, application_close}
use Rattle.quic_wire.specs.Writing.{frame_size, width_of}
use Rattle.quic_machine.specs.declared.answers.State.{State}
use Rattle.quic_machine.specs.declared.answers.State.TheVariants as states
use Rattle.quic_machine.specs.declared.answers.LostReason.{LostReason}
use Rattle.quic_machine.specs.declared.answers.LostReason.TheVariants as reasons
use Rattle.quic_machine.specs.declared.run.Call.{Call}
use Rattle.quic_machine.specs.declared.run.Call.TheVariants as calls
use Rattle.quic_machine.specs.declared.run.Answer.{Answer}
use Rattle.quic_machine.specs.Policy.{Policy}
use Rattle.quic_machine.specs.Arrival.{delivered_by}
use Rattle.quic_machine.specs.Reasons.{error_close}
use Rattle.quic_machine.specs.Closing.{Closing, ticked}
use Rattle.quic_machine.specs.Calls.{closed_in}
use Rattle.quic_machine.specs.End.{End, with_closing, closed_by}
use Rattle.quic_machine.specs.Receive.{take_frame}
use Rattle.quic_machine.specs.Poll.{Polled, close_room, close_with, longest_fitting, fitted, may_close, close_to_go, polled}
use Rattle.quic_machine.specs.PollCases.{by_poll, at_poll, composes}
use Rattle.quic_machine.specs.FrameCases.{Settling, acked_keeps, losses_keep, named, frame_keeps, frame_leaves, apart_leaves, by_received}
use Rattle.quic_machine.specs.Steps as steps
use Rattle.quic_machine.specs.InjectionCases.{by_injection}
use Rattle.quic_machine.specs.LeaveCases.{by_expired, by_expiry, by_event}
use Rattle.quic_machine.specs.CallCases.{by_done}
use Rattle.quic_machine.specs.Machine.{says_last, after_call, after_delivered}
use Rattle.quic_headline.proofs.Packets.Apart.{by_waits, by_next_id}
use Rattle.quic_headline.proofs.Packets.Moved.{by_migrated}
use Rattle.quic_headline.proofs.Packets.Closes.{by_closes}
use Rattle.quic_headline.proofs.Packets.Probes.{may_leave}

-- ---- which closes fit

-- a close, and one of QUIC's own has no text
abbrev pub IsShortClose : FrameValue → Type 0
IsShortClose (connection_close c) = length c.reason ≡ 0
IsShortClose (application_close c) = Unit {0}
IsShortClose f = ⊥

-- the close of an end is one
abbrev pub OwesShort : End → Type 0
OwesShort e = (f : FrameValue) → e.closing.close ≡ Some f → IsShortClose f

-- a number takes 8 bytes at most
narrow : (n : ℕ) → width_of n ≤ 8
narrow n = rw (length-shortest n) (varint_size_le n)

-- with no text a close takes few
no_text : (code : ℕ) (text : List ℕ) → frame_size (close_with code text 0) ≤ 18
no_text code text =
    let one : width_of 29 ≡ 1 = refl in
    let code_width = narrow code in
    let none : width_of 0 ≡ 1 = refl in
    omega arith

-- of a text as much goes as has room
longest_fits : (room code : ℕ) (text : List ℕ) (n : ℕ) → 18 ≤ room → frame_size (close_with code text (longest_fitting room code text n)) ≤ room
longest_fits room code text zero enough = let few = no_text code text in omega arith
longest_fits room code text (suc n) enough = go (nat_le (frame_size (close_with code text (suc n))) room) refl (longest_fits room code text n enough)
  where
    go : (b : Bool) → nat_le (frame_size (close_with code text (suc n))) room ≡ b → frame_size (close_with code text (longest_fitting room code text n)) ≤ room
        → frame_size (close_with code text (if b then suc n else longest_fitting room code text n)) ≤ room
    go true is rest = leb-true (frame_size (close_with code text (suc n))) room is
    go false is rest = rest

fitted_fits : (room : ℕ) (f : FrameValue) → 34 ≤ room → IsShortClose f → frame_size (fitted room f) ≤ room
fitted_fits room (connection_close c) enough short =
    let one : width_of 28 ≡ 1 = refl in
    let code = narrow c.code in
    let type = narrow c.frame_type in
    let text = narrow (length c.reason) in
    omega arith
fitted_fits room (application_close c) enough short = longest_fits room c.code c.reason (length c.reason) (omega arith)
fitted_fits room f enough short = absurd short

-- what goes of an end fits
pub close_fits : (p : Policy) (e : End) (f : FrameValue) → 34 ≤ close_room e → OwesShort e → close_to_go p e ≡ Some f → frame_size f ≤ close_room e
close_fits p e f enough owes goes = go (may_close p e) e.closing.owed e.closing.close refl goes
  where
    go : (may owed : Bool) (o : Option FrameValue) → e.closing.close ≡ o → (if may then option_map (fitted (close_room e)) (if owed then o else None) else None) ≡ Some f → frame_size f ≤ close_room e
    go true true (Some g) there said = (let same : fitted (close_room e) g ≡ f = cc in subst (λ (h : FrameValue). frame_size h ≤ close_room e) same (fitted_fits (close_room e) g enough (owes g there)))
    go true true None there said = cc
    go true false o there said = cc
    go false owed o there said = cc

-- ---- any call

-- an end that closes for an error of QUIC owes one
pub error_owes : (reason : LostReason) (e : End) → OwesShort (closed_by reason e)
error_owes reason e f is = let same : error_close reason ≡ f = cc in subst IsShortClose same refl

settles : Settling OwesShort
settles (steps.known n) e i = i
settles s e i = i

frame_owes : (f : FrameValue) (e : End) → OwesShort e → OwesShort (take_frame f e).end
frame_owes = frame_keeps OwesShort (record {
  ack = λ rises a e i. acked_keeps OwesShort settles rises a (named a e) i;
  on_streams = λ f e on i. frame_leaves OwesShort f e on (λ t. i);
  message = λ m e i. i;
  apart = λ f e is i. apart_leaves OwesShort f e is (λ c. i) (λ c most. i);
})

polled_owes : (p : Policy) (e : End) (now : ℕ) → OwesShort e → OwesShort (polled p e now).end
polled_owes p e now i = by_poll p e now (λ (q : Polled). OwesShort q.end) (record {
  silent = i;
  failed = i;
  repeats = λ is. by_closes p (with_closing e (ticked e.closing now)) (λ (q : Polled). OwesShort q.end) i (λ f goes. i);
  nothing = λ c. i;
  closes = λ reason c bound. by_closes p (closed_by reason (at_poll e now c)) (λ (q : Polled). OwesShort q.end) (error_owes reason (at_poll e now c)) (λ f goes. error_owes reason (at_poll e now c));
  gives = λ leaving c left is may ready some. (
      let x : End = at_poll e now c in
      subst (λ (closing : Closing). (f : FrameValue) → closing.close ≡ Some f → IsShortClose f) (sym (composes leaving x (may_leave e now leaving x ready)).closing) i);
})

pub call_owes : (p : Policy) (e : End) (theirs : List (List ℕ)) (call : Call) (a : Answer) → OwesShort e → OwesShort (after_call p e theirs call a)
call_owes p e theirs (calls.Close close) a i = go e.closing.state
  where
    go : (state : State) → OwesShort (closed_in state close.now close.error_code close.reason e)
    go states.Open f is = (let same : application_close (record { code = close.error_code; reason = close.reason }) ≡ f = cc in subst IsShortClose same tt)
    go states.Closing f is = i f is
    go states.Drained f is = i f is
    go states.Failed f is = i f is
call_owes p e theirs calls.UseNextId a i = by_next_id OwesShort e a i (λ c. i) (λ c most. i)
call_owes p e theirs calls.HandshakeDone a i = by_done OwesShort e a i i
call_owes p e theirs (calls.Poll now) a i = polled_owes p e now i
call_owes p e theirs (calls.Timeout now) a i = by_expiry p e now OwesShort i
    (λ b. by_waits OwesShort b (with_closing e (ticked e.closing now)) (λ f is. cc) i)
    (by_expired p.words e now OwesShort (λ acks tracking timers waits asked runs packets. i) (λ acks timers waits asked runs. losses_keep OwesShort settles (with_closing e (ticked e.closing now)) i) (λ x j. j))
call_owes p e theirs (calls.Deliver delivery) a i = go (slice_get theirs delivery.index)
  where
    go : (o : Option (List ℕ)) → OwesShort (after_delivered p e (delivered_by (says_last a) delivery) o)
    go None = i
    go (Some d) = by_received OwesShort (record {
      notes = λ n x j. j;
      begins = λ now n x j. j;
      frame = frame_owes;
      takes = λ n asks urged mark x j. j;
      closes = λ reason x j. error_owes reason x;
      drains = λ close x j. j;
      asks_close = λ x j. j;
      exhausts = λ now x j. error_owes reasons.KeyLimit (with_closing x (ticked x.closing now));
      draws = λ words x j. j;
      moves = λ q o remote x j. by_migrated OwesShort q o remote x (λ c. j) (λ c most. j);
    }) p e (delivered_by (says_last a) delivery) d i
call_owes p e theirs (calls.Inject injection) a i = by_injection p e (says_last a) injection OwesShort i (λ now. error_owes reasons.KeyLimit (with_closing e (ticked e.closing now)))
call_owes p e theirs calls.Event a i = by_event e OwesShort i i (λ told. i)
call_owes p e theirs call a i = i
