-- An idle event leaves both ends, their controllers and what they gave as they are; what they count
-- is all that changes.
use Rattle.std.proofs.Common.{◌≡◌, ℕ, ◌+◌, ◌*◌, Bool, true, false, not, ◌||◌, ◌&&◌, nat_lt, List, [], Option, Some, None, Result, Ok, Err, inl, inr, refl, sym, ap, ◌∙◌, subst, arith}
use Rattle.std.specs.Prelude.{if◌then◌else◌, slice_get}
use Rattle.std.proofs.lemmas.Bool.{eq-eqb}
use Rattle.std.proofs.lemmas.List.{append-nil}
use Rattle.quic_wire_core.specs.declared.shared.EcnCodepoint.{EcnCodepoint}
use Rattle.quic_wire_core.specs.declared.stream_id.Side.{Side}
use Rattle.quic_wire_core.specs.declared.stream_id.Side.TheVariants.{Client, Server}
use Rattle.quic_wire_core.specs.StreamId.{other_side}
use Rattle.quic_packet.specs.Header.{key_phase}
use Rattle.quic_packet.specs.Datagram.{Opening}
use Rattle.quic_recovery_core.specs.Duplicates.{is_duplicate}
use Rattle.quic_spaces.specs.Numbers.{number_opened}
use Rattle.quic_congestion.specs.Congestion.{Told}
use Rattle.quic_machine.specs.Arrival.{Arrival, delivered_by}
use Rattle.quic_machine.specs.declared.answers.State.{State}
use Rattle.quic_machine.specs.declared.answers.State.TheVariants as states
use Rattle.quic_machine.specs.declared.answers.DropReason.{DropReason}
use Rattle.quic_machine.specs.declared.answers.DropReason.TheVariants as drops
use Rattle.quic_machine.specs.declared.answers.Received.TheVariants.{Dropped}
use Rattle.quic_machine.specs.declared.run.RunEvent.{RunEvent}
use Rattle.quic_machine.specs.declared.run.Call.{Call}
use Rattle.quic_machine.specs.declared.run.Call.TheVariants as calls
use Rattle.quic_machine.specs.declared.run.Delivery.{Delivery}
use Rattle.quic_machine.specs.declared.run.Injection.{Injection}
use Rattle.quic_machine.specs.declared.run.Answer.{Answer}
use Rattle.quic_machine.specs.declared.run.Answer.TheVariants as answers
use Rattle.quic_machine.specs.Policy.{Policy}
use Rattle.quic_machine.specs.End.{End, with_closing, with_numbers, with_window}
use Rattle.quic_machine.specs.Parts.{current_mtu}
use Rattle.quic_machine.specs.Validation.{is_blocked, with_blocked}
use Rattle.quic_machine.specs.Poll.{polled_in}
use Rattle.quic_machine.specs.Lacking.{GivesOrHasFailed, LacksWhere}
use Rattle.quic_time.specs.Clocks.{saturated}
use Rattle.quic_machine.specs.Control.{Control, after_told, with_pacing}
use Rattle.quic_machine.specs.Migration.{has_moved, pacing_moved}
use Rattle.quic_machine.specs.Opens.{head, would_open}
use Rattle.quic_machine.specs.Closing.{ticked}
use Rattle.quic_wire.specs.Items.{items}
use Rattle.quic_machine.specs.Receive.{Fault, Outcome, dropped, asks_in, is_urged, ends_as, take_payload, by_state, opened_to, opened_as, opening, headed, received_in, received, told_by_state, told_opened, told_opened_as, told_headed, told_received_in, told_received, broke, too_many_pieces, closed_by_peer, unopened_in, is_read, is_taken, items_taken, drawn_if, with_ids_drawn}
use Rattle.quic_machine.specs.Heard.{Heard}
use Rattle.quic_machine.specs.Machine.{IsAnswer, IsDelivered, injected_if, after_call, after_delivered, told_delivered, tells, gives, fails, reads_window, pacing_left, end_left, IsLeft, IsTold, IsHeard, heard_by, World, Policies, policy_at, end_at, end_met, control_at, heard_at, given_by, changed, IsStep, says_last, after_injected_if}
use Rattle.quic_machine.specs.declared.answers.Received.{Received}
use Rattle.quic_headline.proofs.Packets.Moved.{by_migration}
use Rattle.quic_headline.proofs.Timers.BothEnds.{AtBoth}
use Rattle.quic_headline.proofs.Isolated.Injected.{injected_stays}
use Rattle.quic_headline.proofs.Isolated.Validated.{HasFailed, IsReached}
use Rattle.quic_headline.proofs.Isolated.Counted.{AreFewer, by_fewer, by_grows, openings_fewer}
use Rattle.quic_headline.specs.Isolated.{drops_whole, is_idle, SameButCounts}

-- ---- a datagram that is dropped

-- an end is left as it was, and its controller was told nothing
abbrev Untouched : End → End → List Told → Type 0
Untouched e left told = (left ≡ e) × (told ≡ [])

-- an end in such a state reads what opens
abbrev reads : State → Bool
reads states.Open = true
reads states.Closing = true
reads states.Drained = false
reads states.Failed = false

-- what is taken, or refused, isn't dropped
ends_taken : (fault : Option Fault) (asking urged : Bool) (n : ℕ) (mark : Option EcnCodepoint) (e : End) (reason : DropReason) → (ends_as fault asking urged n mark e).answer ≡ Dropped reason → ⊥
ends_taken None asking urged n mark e reason is = cc
ends_taken (Some (closed_by_peer close)) asking urged n mark e reason is = cc
ends_taken (Some (broke error)) asking urged n mark e reason is = cc
ends_taken (Some too_many_pieces) asking urged n mark e reason is = cc

-- an end that reads what opens drops what is new only where it closes
state_drops : (state : State) (o : Opening) (arrival : Arrival) (e : End) (reason : DropReason) → reads state ≡ true → (by_state state o arrival e).answer ≡ Dropped reason → drops_whole reason ≡ true → ⊥
state_drops states.Open o arrival e reason reading is whole =
    let begins : End = with_closing e (ticked e.closing arrival.now) in
    let asks = asks_in (items o.payload) in
    let within = items_taken o arrival e in
    let p = take_payload o.first within begins in
    ends_taken p.fault asks (is_urged arrival.mark asks within begins) o.number arrival.mark p.end reason is
state_drops states.Closing o arrival e reason reading is whole =
    let same : reason ≡ drops.Closing = cc in
    let clash : ◌≡◌ {A = Bool} false true = subst (λ (x : DropReason). drops_whole x ≡ true) same whole in
    cc
state_drops states.Drained o arrival e reason reading is whole = cc
state_drops states.Failed o arrival e reason reading is whole = cc

-- a packet that opened is dropped for its key phase, or as a duplicate
opened_idle : (o : Opening) (arrival : Arrival) (e : End) (reason : DropReason) → reads e.closing.state ≡ true → drops_whole reason ≡ true → (opened_to o arrival e).answer ≡ Dropped reason
    → Untouched e (opened_to o arrival e).end (told_opened o arrival e)
opened_idle o arrival e reason reading whole = go (key_phase o.first) (is_duplicate e.numbers.opened o.number)
  where
    noted : End
    noted = with_numbers e (number_opened e.numbers o.number)

    go : (phase again : Bool) → (if phase then dropped drops.KeyPhase e else (if again then dropped drops.Duplicate e else by_state e.closing.state o arrival noted)).answer ≡ Dropped reason
        → Untouched e (if phase then dropped drops.KeyPhase e else (if again then dropped drops.Duplicate e else by_state e.closing.state o arrival noted)).end (if phase || again then [] else told_by_state e.closing.state o arrival noted)
    go true again is = (refl, refl)
    go false true is = (refl, refl)
    go false false is = absurd (state_drops e.closing.state o arrival noted reason reading is whole)

-- one that didn't open is, where it isn't the last that may not
unopened_idle : (state : State) (b : Bool) (arrival : Arrival) (e : End) (reason : DropReason) → (unopened_in state b arrival e).answer ≡ Dropped reason → Untouched e (unopened_in state b arrival e).end []
unopened_idle states.Open true arrival e reason is = cc
unopened_idle states.Open false arrival e reason is = (refl, refl)
unopened_idle states.Closing b arrival e reason is = (refl, refl)
unopened_idle states.Drained b arrival e reason is = (refl, refl)
unopened_idle states.Failed b arrival e reason is = (refl, refl)

-- what is dropped draws no ids
drops_undrawn : (a : Received) (reason : DropReason) → a ≡ Dropped reason → is_read a ≡ false
drops_undrawn a reason is = ap is_read is

packet_idle : (o : Option Opening) (p : Policy) (arrival : Arrival) (e : End) (reason : DropReason) → reads e.closing.state ≡ true → drops_whole reason ≡ true → (opened_as o p arrival e).answer ≡ Dropped reason
    → Untouched e (opened_as o p arrival e).end (told_opened_as o arrival e)
packet_idle None p arrival e reason reading whole = unopened_idle e.closing.state arrival.last arrival e reason
packet_idle (Some o) p arrival e reason reading whole = by_migration (λ (out : Outcome). out.answer ≡ Dropped reason → Untouched e out.end (told_opened o arrival e)) p o arrival.remote e (with_ids_drawn p (opened_to o arrival e))
    (λ is. subst (λ (b : Bool). Untouched e (drawn_if b p (opened_to o arrival e).end) (told_opened o arrival e)) (sym (drops_undrawn (opened_to o arrival e).answer reason is)) (opened_idle o arrival e reason reading whole is))
    (λ moved taken opened is. (let clash : false ≡ true = sym (ap is_taken is) ∙ taken in cc))

headed_idle : (r : Result (List ℕ) DropReason) (p : Policy) (e : End) (arrival : Arrival) (d : List ℕ) (reason : DropReason) → reads e.closing.state ≡ true → drops_whole reason ≡ true → (headed r p e arrival d).answer ≡ Dropped reason
    → Untouched e (headed r p e arrival d).end (told_headed r p e arrival d)
headed_idle (Err error) p e arrival d reason reading whole is = (refl, refl)
headed_idle (Ok id) p e arrival d reason reading whole is = packet_idle (opening p e d) p arrival e reason reading whole is

-- a datagram that is dropped whole leaves the end as it was
pub received_idle : (p : Policy) (e : End) (arrival : Arrival) (d : List ℕ) (reason : DropReason) → drops_whole reason ≡ true → (received p e arrival d).answer ≡ Dropped reason
    → Untouched e (received p e arrival d).end (told_received p e arrival d)
received_idle p e arrival d reason whole = go e.closing.state refl
  where
    header : Result (List ℕ) DropReason
    header = head e arrival.remote d

    go : (state : State) → e.closing.state ≡ state → (received_in state p e arrival d).answer ≡ Dropped reason → Untouched e (received_in state p e arrival d).end (told_received_in state p e arrival d)
    go states.Failed here is = (refl, refl)
    go states.Drained here is = (refl, refl)
    go states.Open here is = headed_idle header p e arrival d reason (ap reads here) whole is
    go states.Closing here is = headed_idle header p e arrival d reason (ap reads here) whole is

-- ---- an idle call

-- what an idle call leaves, tells the controller and gives, and that it doesn't fail
record Idles (p : Policy) (control : Control) (heard : Heard) (e : End) (theirs : List (List ℕ)) (call : Call) (a : Answer) : Type 0 where
  left : end_left p control heard e theirs call a ≡ e
  told : tells p (reads_window control heard call e) theirs call ≡ []
  given : gives p (reads_window control heard call e) call a ≡ []
  served : fails a ≡ false

-- an injection never fails
injected_serves : (b is_last : Bool) (p : Policy) (e : End) (injection : Injection) → fails (injected_if b is_last p e injection) ≡ false
injected_serves true is_last p e injection = refl
injected_serves false is_last p e injection = refl

-- a delivery that is dropped whole
delivered_idle : (o : Option (List ℕ)) (p : Policy) (e : End) (delivery : Delivery) (reason : DropReason) → drops_whole reason ≡ true → IsDelivered p e delivery o (answers.Deliver (Dropped reason))
    → Untouched e (after_delivered p e (delivered_by false delivery) o) (told_delivered p e (delivered_by false delivery) o)
delivered_idle None p e delivery reason whole is = (refl, refl)
delivered_idle (Some d) p e delivery reason whole (inl is) =
    let dropped : (received p e (delivered_by false delivery) d).answer ≡ Dropped reason = cc in
    received_idle p e (delivered_by false delivery) d reason whole dropped
delivered_idle (Some d) p e delivery reason whole (inr is) = absurd cc

-- where the end is as it was, so is its pacer
pacing_same : (p : Policy) (control : Control) (e left : End) (theirs : List (List ℕ)) (delivery : Delivery) → left ≡ e → with_pacing left (pacing_left (control (tells p e theirs (calls.Deliver delivery))) (calls.Deliver delivery) e left) ≡ e
pacing_same p control e left theirs delivery same =
    ap (λ (x : End). with_pacing x (pacing_moved (has_moved e x) window x)) same
    ∙ ap (λ (b : Bool). with_pacing e (pacing_moved (not b) window e)) (eq-eqb e.path.generation e.path.generation refl)
  where
    window : ℕ
    window = control (tells p e theirs (calls.Deliver delivery))

idle_call : (p : Policy) (control : Control) (heard : Heard) (e : End) (theirs : List (List ℕ)) (call : Call) (a : Answer) → is_idle call a ≡ true → says_last a ≡ false → IsAnswer p (reads_window control heard call e) theirs call a → Idles p control heard e theirs call a
idle_call p control heard e theirs (calls.Inject injection) a idle early is = record {
  left = subst (λ (b : Bool). after_injected_if (would_open p e injection.remote injection.bytes) b p e injection ≡ e) (sym early) (injected_stays p e injection);
  told = refl;
  given = refl;
  served = ap fails is ∙ injected_serves (would_open p e injection.remote injection.bytes) (says_last a) p e injection;
}
idle_call p control heard e theirs (calls.Deliver delivery) (answers.Deliver (Dropped reason)) idle early is =
    let untouched = delivered_idle (slice_get theirs delivery.index) p e delivery reason idle is in
    record { left = pacing_same p control e (after_delivered p e (delivered_by false delivery) (slice_get theirs delivery.index)) theirs delivery untouched.0; told = untouched.1; given = refl; served = refl }
idle_call p control heard e theirs call a idle early is = absurd cc

-- ---- an idle event

-- both ends, which have counted this
abbrev pub with_counts : World → Heard → Heard → World
with_counts w client server = record w { client_heard = client; server_heard = server }

-- both ends, of which one has counted this
abbrev counted_at : Side → World → Heard → World
counted_at Client w heard = with_counts w heard w.server_heard
counted_at Server w heard = with_counts w w.client_heard heard

-- nothing else changes
changed_same : (side : Side) (w : World) (heard : Heard) → changed side w (end_at side w) [] (control_at side w) heard ≡ counted_at side w heard
changed_same Client w heard = ap (λ (ds : List (List ℕ)). record w { from_client = ds; client_heard = heard }) (append-nil w.from_client)
changed_same Server w heard = ap (λ (ds : List (List ℕ)). record w { from_server = ds; server_heard = heard }) (append-nil w.from_server)

counted_same : (side : Side) (w : World) (heard : Heard) → SameButCounts w (counted_at side w heard)
counted_same Client w heard = refl
counted_same Server w heard = refl

-- an idle event leaves the world as it was, but for what was counted
pub idle_leaves : (k : Policies) (w next : World) (event : RunEvent) (a : Answer) → is_idle event.call a ≡ true → says_last a ≡ false → IsStep k w event a next → SameButCounts w next
idle_leaves k w next event a idle early step = subst (SameButCounts w) (sym same) (counted_same event.side w heard)
  where
    p : Policy
    p = policy_at event.side k

    control : Control
    control = control_at event.side w

    e : End
    e = end_at event.side w

    theirs : List (List ℕ)
    theirs = given_by (other_side event.side) w

    before : Heard
    before = heard_at event.side w

    heard : Heard
    heard = heard_at event.side next

    i : Idles p control before e theirs event.call a
    i = idle_call p control before e theirs event.call a idle early step.answer

    end_same : end_at event.side next ≡ e
    end_same = subst (λ (b : Bool). IsLeft b p control before e theirs event.call a (end_at event.side next)) i.served step.end ∙ i.left

    control_same : control_at event.side next ≡ control
    control_same = subst (λ (b : Bool). IsTold b p control before e theirs event.call (control_at event.side next)) i.served step.control ∙ ap (λ (told : List Told). after_told control told) i.told

    same : next ≡ counted_at event.side w heard
    same =
        step.others
        ∙ ap (λ (x : End). changed event.side w x (gives p (end_met w event) event.call a) (control_at event.side next) heard) end_same
        ∙ ap (λ (c : Control). changed event.side w e (gives p (end_met w event) event.call a) c heard) control_same
        ∙ ap (λ (ds : List (List ℕ)). changed event.side w e ds control heard) i.given
        ∙ changed_same event.side w heard

-- ---- what was counted before

-- what memory doesn't lack for is counted; of an end that fails nothing is said
next_counts : (failed : Bool) (before after : End) (theirs : List (List ℕ)) (call : Call) (a : Answer) (less more next : Heard) → AreFewer less more → IsHeard failed before after theirs call a more next
    → (left : Heard) × IsHeard failed before after theirs call a less left × AreFewer left next
next_counts true before after theirs call a less more next few is = (next, tt, omega arith)
next_counts false before after theirs call a less more next few is =
    (heard_by before after theirs call a less, refl, subst (λ (h : Heard). AreFewer (heard_by before after theirs call a less) h) (sym is) (by_fewer before after theirs call a less more few))

-- what an end is answered, leaves, tells and gives, where it has counted this
record Parts (p : Policy) (control : Control) (heard : Heard) (e next : End) (theirs : List (List ℕ)) (call : Call) (a : Answer) (after : Control) (given : List (List ℕ)) : Type 0 where
  answer : IsAnswer p (reads_window control heard call e) theirs call a
  end : IsLeft (fails a) p control heard e theirs call a next
  told : IsTold (fails a) p control heard e theirs call after
  sends : gives p (reads_window control heard call e) call a ≡ given
  lacking : LacksWhere p (reads_window control heard call e) theirs call a

-- where an end reads the same of what was counted, all is the same
module _ (p : Policy) (control : Control) (less more : Heard) (e next : End) (theirs : List (List ℕ)) (call : Call) (a : Answer) (after : Control) (given : List (List ℕ)) where
  abbrev met : Heard → End
  met h = reads_window control h call e

  left_same : (b : Bool) → met more ≡ met less → IsLeft b p control more e theirs call a next → IsLeft b p control less e theirs call a next
  left_same true same is = is
  left_same false same is = is ∙ ap (λ (x : End). with_pacing (after_call p x theirs call a) (pacing_left (control (tells p x theirs call)) call x (after_call p x theirs call a))) same

  told_same : (b : Bool) → met more ≡ met less → IsTold b p control more e theirs call after → IsTold b p control less e theirs call after
  told_same true same is = is
  told_same false same is = is ∙ ap (λ (x : End). after_told control (tells p x theirs call)) same

  parts_same : met more ≡ met less → Parts p control more e next theirs call a after given → Parts p control less e next theirs call a after given
  parts_same same s = record {
    answer = subst (λ (x : End). IsAnswer p x theirs call a) same s.answer;
    end = left_same (fails a) same s.end;
    told = told_same (fails a) same s.told;
    sends = ap (λ (x : End). gives p x call a) (sym same) ∙ s.sends;
    lacking = subst (λ (x : End). LacksWhere p x theirs call a) same s.lacking;
  }

-- only a poll of an end whose peer's address isn't validated reads it
module _ (p : Policy) (control : Control) (less more : Heard) (e next : End) (theirs : List (List ℕ)) (now : ℕ) (a : Answer) (after : Control) (given : List (List ℕ)) where
  abbrev polls : Heard → End
  polls h = reads_window control h (calls.Poll now) e

  -- an end that had failed says so, whatever it reads
  failed_says : HasFailed e → IsAnswer p (polls more) theirs (calls.Poll now) a → a ≡ answers.Poll (Err (record {}))
  failed_says is (inl says) = subst (λ (s : State). a ≡ answers.Poll (polled_in s p (polls more) now).answer) is says
  failed_says is (inr says) = says

  parts_failed : HasFailed e → Parts p control more e next theirs (calls.Poll now) a after given → Parts p control less e next theirs (calls.Poll now) a after given
  parts_failed is s =
      let says = failed_says is s.answer in
      let failing : fails a ≡ true = ap fails says in
      record {
        answer = inr says;
        end = subst (λ (b : Bool). IsLeft b p control less e theirs (calls.Poll now) a next) (sym failing) (subst (λ (b : Bool). IsLeft b p control more e theirs (calls.Poll now) a next) failing s.end);
        told = subst (λ (b : Bool). IsTold b p control less e theirs (calls.Poll now) after) (sym failing) tt;
        sends = ap (λ (b : Answer). gives p (polls less) (calls.Poll now) b) says ∙ sym (ap (λ (b : Answer). gives p (polls more) (calls.Poll now) b) says) ∙ s.sends;
        lacking = subst (λ (b : Answer). LacksWhere p (polls less) theirs (calls.Poll now) b) (sym says) (inl (subst (λ (s : State). GivesOrHasFailed (polled_in s p (polls less) now).answer) (sym is) tt));
      }

  poll_parts : IsReached e → Parts p control more e next theirs (calls.Poll now) a after given → Parts p control less e next theirs (calls.Poll now) a after given
  poll_parts (inl is) s = parts_failed is s
  poll_parts (inr is) s = parts_same p control less more e next theirs (calls.Poll now) a after given (ap (λ (b : Bool). with_blocked (with_window e (control [])) b) (unblocked more ∙ sym (unblocked less))) s
    where
      unblocked : (h : Heard) → is_blocked e h ≡ false
      unblocked h = ap (λ (b : Bool). not b && nat_lt (saturated (3 * h.received)) (h.sent + current_mtu e.path)) is

parts_less : (p : Policy) (control : Control) (less more : Heard) (e next : End) (theirs : List (List ℕ)) (call : Call) (a : Answer) (after : Control) (given : List (List ℕ)) → IsReached e
    → Parts p control more e next theirs call a after given → Parts p control less e next theirs call a after given
parts_less p control less more e next theirs (calls.Poll now) a after given is s = poll_parts p control less more e next theirs now a after given is s
parts_less p control less more e next theirs call a after given is s = parts_same p control less more e next theirs call a after given refl s

-- fewer packets failed to open at either end than in this world
abbrev pub HaveFewer : Heard → Heard → World → Type 0
HaveFewer client server w = AreFewer client w.client_heard × AreFewer server w.server_heard

-- an event may be answered so, and leave the ends so, where fewer packets had failed to open, the
-- addresses are validated, and this packet isn't the last that may not open: nothing else reads
-- what was counted
pub step_counts : (k : Policies) (w next : World) (event : RunEvent) (a : Answer) (client server : Heard) → AtBoth IsReached w → says_last a ≡ false → HaveFewer client server w → IsStep k w event a next
    → (client_next : Heard) × (server_next : Heard) × HaveFewer client_next server_next next × IsStep k (with_counts w client server) event a (with_counts next client_next server_next)
step_counts k w next event a client server reached early few step = go event.side event.call step
  where
    go : (side : Side) (call : Call) → IsStep k w (record { side = side; call = call }) a next
        → (client_next : Heard) × (server_next : Heard) × HaveFewer client_next server_next next × IsStep k (with_counts w client server) (record { side = side; call = call }) a (with_counts next client_next server_next)
    go Client call s =
        let heard = next_counts (fails a) w.client next.client w.from_server call a client w.client_heard next.client_heard few.0 s.heard in
        let parts = parts_less k.client w.client_control client w.client_heard w.client next.client w.from_server call a next.client_control _ reached.0
        (record { answer = s.answer; end = s.end; told = s.control; sends = refl; lacking = s.lacking }) in
        let kept : next.server_heard ≡ w.server_heard = ap (λ (v : World). v.server_heard) s.others in (
          heard.0,
          server,
          (heard.2, subst (λ (h : Heard). AreFewer server h) (sym kept) few.1),
          record {
            answer = parts.answer;
            end = parts.end;
            control = parts.told;
            heard = heard.1;
            openings = openings_fewer k.client.openings w.client.closing.state client w.client_heard a early few.0 s.openings;
            others = ap (λ (v : World). with_counts v heard.0 server) s.others ∙ ap (λ (ds : List (List ℕ)). changed Client (with_counts w client server) next.client ds next.client_control heard.0) (sym parts.sends);
            lacking = parts.lacking;
          },
        )
    go Server call s =
        let heard = next_counts (fails a) w.server next.server w.from_client call a server w.server_heard next.server_heard few.1 s.heard in
        let parts = parts_less k.server w.server_control server w.server_heard w.server next.server w.from_client call a next.server_control _ reached.1
        (record { answer = s.answer; end = s.end; told = s.control; sends = refl; lacking = s.lacking }) in
        let kept : next.client_heard ≡ w.client_heard = ap (λ (v : World). v.client_heard) s.others in (
          client,
          heard.0,
          (subst (λ (h : Heard). AreFewer client h) (sym kept) few.0, heard.2),
          record {
            answer = parts.answer;
            end = parts.end;
            control = parts.told;
            heard = heard.1;
            openings = openings_fewer k.server.openings w.server.closing.state server w.server_heard a early few.1 s.openings;
            others = ap (λ (v : World). with_counts v client heard.0) s.others ∙ ap (λ (ds : List (List ℕ)). changed Server (with_counts w client server) next.server ds next.server_control heard.0) (sym parts.sends);
            lacking = parts.lacking;
          },
        )

-- what an idle event adds to what was counted leaves these fewer
pub idle_counts : (k : Policies) (w next : World) (event : RunEvent) (a : Answer) (client server : Heard) → is_idle event.call a ≡ true → says_last a ≡ false → HaveFewer client server w → IsStep k w event a next → HaveFewer client server next
idle_counts k w next event a client server idle early few step = go event.side event.call (idle_serves event.call a idle step.answer) step
  where
    counted : (e x : End) (theirs : List (List ℕ)) (call : Call) (less more after : Heard) → fails a ≡ false → AreFewer less more → IsHeard (fails a) e x theirs call a more after → AreFewer less after
    counted e x theirs call less more after served fewer is =
        let same : after ≡ heard_by e x theirs call a more = subst (λ (b : Bool). IsHeard b e x theirs call a more after) served is in
        let grown : AreFewer more after = subst (λ (h : Heard). AreFewer more h) (sym same) (by_grows e x theirs call a more) in
        omega arith

    idle_serves : (call : Call) (b : Answer) → is_idle call b ≡ true → IsAnswer (policy_at event.side k) (reads_window (control_at event.side w) (heard_at event.side w) call (end_at event.side w)) (given_by (other_side event.side) w) call b → fails b ≡ false
    idle_serves (calls.Inject injection) b is says = ap fails says ∙ injected_serves (would_open (policy_at event.side k) (end_at event.side w) injection.remote injection.bytes) (says_last b) (policy_at event.side k) (end_at event.side w) injection
    idle_serves (calls.Deliver delivery) (answers.Deliver (Dropped reason)) is says = refl
    idle_serves call b is says = absurd cc

    go : (side : Side) (call : Call) → fails a ≡ false → IsStep k w (record { side = side; call = call }) a next → HaveFewer client server next
    go Client call served s = (
      counted w.client next.client w.from_server call client w.client_heard next.client_heard served few.0 s.heard,
      subst (λ (h : Heard). AreFewer server h) (sym (ap (λ (v : World). v.server_heard) s.others)) few.1,
    )
    go Server call served s = (
      subst (λ (h : Heard). AreFewer client h) (sym (ap (λ (v : World). v.client_heard) s.others)) few.0,
      counted w.server next.server w.from_client call server w.server_heard next.server_heard served few.1 s.heard,
    )
