-- Two runs of one start over the same events come to the same, where no call lacks memory: each
-- answer follows from the end, what comes and what was counted, and so does what it leaves.
use Rattle.std.proofs.Common.{◌≡◌, ℕ, suc, Bool, true, false, List, [], ◌∷◌, length, Option, Some, None, Result, Ok, Err, ◌⊎◌, inl, inr, refl, sym, ap, ◌∙◌, subst}
use Rattle.std.specs.Prelude.{if◌then◌else◌, slice_get}
use Rattle.std.specs.List.{list_any}
use Rattle.std.proofs.lemmas.Bool.{or_parts, or_from}
use Rattle.quic_assembler.specs.declared.assembler.Chunk.{Chunk}
use Rattle.quic_messages.specs.declared.errors.SendDatagramError.TheVariants as send_errors
use Rattle.quic_streams_parts.specs.declared.answers.WriteError.TheVariants as write_errors
use Rattle.quic_streams_parts.specs.declared.answers.FinishError.TheVariants as finish_errors
use Rattle.quic_streams_parts.specs.declared.answers.UpdateError.TheVariants as update_errors
use Rattle.quic_streams_parts.specs.declared.answers.ReadableError.{ReadableError}
use Rattle.quic_streams_parts.specs.declared.answers.ReadableError.TheVariants as readable_errors
use Rattle.quic_streams_parts.specs.declared.answers.ReadError.{ReadError}
use Rattle.quic_streams_parts.specs.declared.answers.ReadError.TheVariants as read_errors
use Rattle.quic_streams_state.specs.declared.state.StreamsState.{StreamsState}
use Rattle.quic_streams_state.specs.Reading.{Told, next_answer, told_by, read_answer, told_bytes, after_next, after_read_begun}
use Rattle.quic_wire_core.specs.declared.shared.EcnCodepoint.{EcnCodepoint}
use Rattle.quic_wire_core.specs.StreamId.{other_side}
use Rattle.quic_packet.specs.Header.{key_phase}
use Rattle.quic_packet.specs.Datagram.{Opening}
use Rattle.quic_spaces.specs.Numbers.{number_opened}
use Rattle.quic_recovery_core.specs.Duplicates.{is_duplicate}
use Rattle.quic_machine.specs.Arrival.{Arrival, arriving, delivered_by}
use Rattle.quic_machine.specs.declared.answers.State.{State}
use Rattle.quic_machine.specs.declared.answers.State.TheVariants as states
use Rattle.quic_machine.specs.declared.answers.DropReason.{DropReason}
use Rattle.quic_machine.specs.declared.answers.DropReason.TheVariants as drops
use Rattle.quic_machine.specs.declared.answers.NextIdError.TheVariants as next_errors
use Rattle.quic_machine.specs.declared.answers.Received.{Received}
use Rattle.quic_machine.specs.declared.answers.Received.TheVariants as receives
use Rattle.quic_machine.specs.declared.run.RunEvent.{RunEvent}
use Rattle.quic_machine.specs.declared.run.Call.{Call}
use Rattle.quic_machine.specs.declared.run.Call.TheVariants as calls
use Rattle.quic_machine.specs.declared.run.Delivery.{Delivery}
use Rattle.quic_machine.specs.declared.run.Injection.{Injection}
use Rattle.quic_machine.specs.declared.run.Answer.{Answer}
use Rattle.quic_machine.specs.declared.run.Answer.TheVariants as answers
use Rattle.quic_machine.specs.declared.run.View.{View}
use Rattle.quic_machine.specs.Calls.{AreNexts, is_open}
use Rattle.quic_machine.specs.Control.{Control}
use Rattle.quic_machine.specs.End.{End, with_numbers}
use Rattle.quic_machine.specs.Heard.{Heard, is_last}
use Rattle.quic_machine.specs.Opens.{head, would_open}
use Rattle.quic_machine.specs.Policy.{Policy}
use Rattle.quic_machine.specs.Receive.{Outcome, dropped, key_limit, by_state, unopened_in, opened_as, opening, headed, received_in, received}
use Rattle.quic_machine.specs.StreamCalls.{IsRead, IsStreamAnswer}
use Rattle.quic_machine.specs.RunLaws.{one_world}
use Rattle.quic_machine.specs.Machine.{World, Policies, policy_at, end_at, given_by, control_at, heard_at, IsDelivered, IsAnswer, injected_if, says_last, fails, reads_window, CountsIn, CountsOpenings, IsStep, Follows, view_of}
use Rattle.quic_headline.specs.Runs.{Run}
use Rattle.quic_headline.specs.Headline.{IsRun}
use Rattle.quic_headline.specs.Isolated.{without, erased, SameButCounts}
use Rattle.quic_headline.specs.Memory.{next_lacks, lacks}
use Rattle.quic_headline.specs.TwoRuns.{RunsAgree, IdleRunsAgree}
use Rattle.quic_headline.proofs.Isolated.Erasing.{isolated}

-- ---- what comes

-- What comes of a datagram as the last that may not open, and as any other: the same, but at an
-- open end at which it doesn't open.
abbrev Alike : State → Received → Received → Type 0
Alike state last other = (last ≡ other) ⊎ ((state ≡ states.Open) × (last ≡ receives.Closed key_limit) × (other ≡ receives.Dropped drops.NotOpened))

unopened_alike : (state : State) (late early : Arrival) (e : End) → Alike state (unopened_in state true late e).answer (unopened_in state false early e).answer
unopened_alike states.Open late early e = inr (refl, refl, refl)
unopened_alike states.Closing late early e = inl refl
unopened_alike states.Drained late early e = inl refl
unopened_alike states.Failed late early e = inl refl

module _ (now remote : ℕ) (mark : Option EcnCodepoint) where
  abbrev late : Arrival
  late = arriving now remote mark true

  abbrev early : Arrival
  early = arriving now remote mark false

  state_same : (state : State) (o : Opening) (e : End) → by_state state o late e ≡ by_state state o early e
  state_same states.Open o e = refl
  state_same states.Closing o e = refl
  state_same states.Drained o e = refl
  state_same states.Failed o e = refl

  packet_alike : (o : Option Opening) (p : Policy) (e : End) → Alike e.closing.state (opened_as o p late e).answer (opened_as o p early e).answer
  packet_alike None p e = unopened_alike e.closing.state late early e
  packet_alike (Some o) p e =
      inl
      (ap (λ (out : Outcome). (if key_phase o.first then dropped drops.KeyPhase e else (if is_duplicate e.numbers.opened o.number then dropped drops.Duplicate e else out)).answer)
      (state_same e.closing.state o (with_numbers e (number_opened e.numbers o.number))))

  headed_alike : (r : Result (List ℕ) DropReason) (p : Policy) (e : End) (d : List ℕ) → Alike e.closing.state (headed r p e late d).answer (headed r p e early d).answer
  headed_alike (Err reason) p e d = inl refl
  headed_alike (Ok id) p e d = packet_alike (opening p e d) p e

  received_alike : (p : Policy) (e : End) (d : List ℕ) → Alike e.closing.state (received p e late d).answer (received p e early d).answer
  received_alike p e d = go e.closing.state refl
    where
      go : (state : State) → e.closing.state ≡ state → Alike e.closing.state (received_in state p e late d).answer (received_in state p e early d).answer
      go states.Failed is = inl refl
      go states.Drained is = inl refl
      go states.Open is = headed_alike (head e remote d) p e d
      go states.Closing is = headed_alike (head e remote d) p e d

  -- where it may be the last by what was counted, it is, so it comes to one
  counts_clash : (state : State) (limit : ℕ) (h : Heard) (x y : Received) → state ≡ states.Open → x ≡ receives.Closed key_limit → y ≡ receives.Dropped drops.NotOpened → CountsIn state limit h x → CountsIn state limit h y → x ≡ y
  counts_clash states.Open limit h x y here closed dropped counts counts' =
      let up : is_last limit h ≡ true = subst (λ (a : Received). CountsIn states.Open limit h a) closed counts refl in
      let down : is_last limit h ≡ false = subst (λ (a : Received). CountsIn states.Open limit h a) dropped counts' in
      let clash : ◌≡◌ {A = Bool} true false = sym up ∙ down in
      cc
  counts_clash states.Closing limit h x y here closed dropped counts counts' = cc
  counts_clash states.Drained limit h x y here closed dropped counts counts' = cc
  counts_clash states.Failed limit h x y here closed dropped counts counts' = cc

  alike_same : (state : State) (limit : ℕ) (h : Heard) (x y : Received) → Alike state x y → CountsIn state limit h x → CountsIn state limit h y → x ≡ y
  alike_same state limit h x y (inl same) counts counts' = same
  alike_same state limit h x y (inr apart) counts counts' = counts_clash state limit h x y apart.0 apart.1 apart.2 counts counts'

  -- so a datagram comes to one answer
  one_received : (p : Policy) (e : End) (d : List ℕ) (limit : ℕ) (h : Heard) (b c : Bool) → CountsIn e.closing.state limit h (received p e (arriving now remote mark b) d).answer → CountsIn e.closing.state limit h (received p e (arriving now remote mark c) d).answer
      → (received p e (arriving now remote mark b) d).answer ≡ (received p e (arriving now remote mark c) d).answer
  one_received p e d limit h true true counts counts' = refl
  one_received p e d limit h false false counts counts' = refl
  one_received p e d limit h true false counts counts' = alike_same e.closing.state limit h (received p e late d).answer (received p e early d).answer (received_alike p e d) counts counts'
  one_received p e d limit h false true counts counts' = sym (alike_same e.closing.state limit h (received p e late d).answer (received p e early d).answer (received_alike p e d) counts' counts)

-- ---- the answers of a read

nexts_served : (x y : Result (Option Chunk) ReadError) → next_lacks y ≡ false → (y ≡ x) ⊎ (y ≡ Err read_errors.Memory) → y ≡ x
nexts_served x y found (inl is) = is
nexts_served x y found (inr is) = let clash : ◌≡◌ {A = Bool} true false = sym (ap next_lacks is) ∙ found in cc

one_nexts : (told : Told) (s : StreamsState) (id : ℕ) (mosts : List ℕ) (xs ys : List (Result (Option Chunk) ReadError)) → AreNexts told s id mosts xs → AreNexts told s id mosts ys → list_any next_lacks xs ≡ false → list_any next_lacks ys ≡ false → xs ≡ ys
one_nexts told s id [] [] [] are are' found found' = refl
one_nexts told s id [] [] (y ∷ ys) are are' found found' = absurd are'
one_nexts told s id [] (x ∷ xs) ys are are' found found' = absurd are
one_nexts told s id (most ∷ mosts) [] ys are are' found found' = absurd are
one_nexts told s id (most ∷ mosts) (x ∷ xs) [] are are' found found' = absurd are'
one_nexts told s id (most ∷ mosts) (x ∷ xs) (y ∷ ys) are are' found found' =
    let first = or_parts (next_lacks x) (list_any next_lacks xs) found in
    let second = or_parts (next_lacks y) (list_any next_lacks ys) found' in
    let same : y ≡ x = nexts_served (next_answer told s id most) y second.0 are'.0 ∙ sym (nexts_served (next_answer told s id most) x first.0 are.0) in
    let rest = subst (λ (z : Result (Option Chunk) ReadError). AreNexts (told_by z told) (after_next told z s id most) id mosts ys) same are'.1 in
    ap (λ (z : Result (Option Chunk) ReadError). z ∷ xs) (sym same) ∙ ap (λ (zs : List (Result (Option Chunk) ReadError)). y ∷ zs) (one_nexts (told_by x told) (after_next told x s id most) id mosts xs ys are.1 rest first.1 second.1)

-- a read that isn't begun says why
not_begun : (s : StreamsState) (id : ℕ) (ordered : Bool) (error : ReadableError) → lacks (answers.Read (Err error)) ≡ false → (read_answer s id ordered ≡ Err error) ⊎ (error ≡ readable_errors.Memory) → read_answer s id ordered ≡ Err error
not_begun s id ordered error found (inl is) = is
not_begun s id ordered error found (inr is) = let clash : ◌≡◌ {A = Bool} true false = sym (ap (λ (e : ReadableError). lacks (answers.Read (Err e))) is) ∙ found in cc

one_read : (s : StreamsState) (id : ℕ) (ordered : Bool) (mosts : List ℕ) (a b : Answer) → IsRead s id ordered mosts a → IsRead s id ordered mosts b → lacks a ≡ false → lacks b ≡ false → a ≡ b
one_read s id ordered mosts (answers.Read (Ok xs)) (answers.Read (Ok ys)) is is' found found' = ap (λ (zs : List (Result (Option Chunk) ReadError)). answers.Read (Ok zs)) (one_nexts told_bytes (after_read_begun s id ordered) id mosts xs ys is.1 is'.1 found found')
one_read s id ordered mosts (answers.Read (Ok xs)) (answers.Read (Err error)) is is' found found' =
    let clash : ◌≡◌ {A = Result (Unit {0}) ReadableError} (Ok tt) (Err error) = sym is.0 ∙ not_begun s id ordered error found' is' in
    cc
one_read s id ordered mosts (answers.Read (Err error)) (answers.Read (Ok ys)) is is' found found' =
    let clash : ◌≡◌ {A = Result (Unit {0}) ReadableError} (Ok tt) (Err error) = sym is'.0 ∙ not_begun s id ordered error found is in
    cc
one_read s id ordered mosts (answers.Read (Err error)) (answers.Read (Err other)) is is' found found' =
    let same : ◌≡◌ {A = Result (Unit {0}) ReadableError} (Err error) (Err other) = sym (not_begun s id ordered error found is) ∙ not_begun s id ordered other found' is' in
    let errors : error ≡ other = cc in
    ap (λ (e : ReadableError). answers.Read (Err e)) errors
one_read s id ordered mosts (answers.Read said) b is is' found found' = absurd is'
one_read s id ordered mosts a b is is' found found' = absurd is

-- ---- one answer

-- an answer that isn't want of memory is the other one that it may be
served : (a x lack : Answer) → lacks lack ≡ true → lacks a ≡ false → (a ≡ x) ⊎ (a ≡ lack) → a ≡ x
served a x lack says found (inl is) = is
served a x lack says found (inr is) = let clash : ◌≡◌ {A = Bool} true false = sym says ∙ sym (ap lacks is) ∙ found in cc

both_served : (a b x lack : Answer) → lacks lack ≡ true → lacks a ≡ false → lacks b ≡ false → (a ≡ x) ⊎ (a ≡ lack) → (b ≡ x) ⊎ (b ≡ lack) → a ≡ b
both_served a b x lack says found found' is is' = served a x lack says found is ∙ sym (served b x lack says found' is')

one_on_streams : (opened : Bool) (s : StreamsState) (call : Call) (a b : Answer) → IsStreamAnswer opened s call a → IsStreamAnswer opened s call b → lacks a ≡ false → lacks b ≡ false → a ≡ b
one_on_streams opened s (calls.Open dir) a b is is' found found' = is ∙ sym is'
one_on_streams opened s (calls.Accept dir) a b is is' found found' = is ∙ sym is'
one_on_streams opened s (calls.Write id bytes) a b is is' found found' = both_served a b _ (answers.Write (Err write_errors.Memory)) refl found found' is is'
one_on_streams opened s (calls.WriteChunks id chunks) a b is is' found found' = both_served a b _ (answers.WriteChunks (Err write_errors.Memory)) refl found found' is is'
one_on_streams opened s (calls.Finish id) a b is is' found found' = both_served a b _ (answers.Finish (Err finish_errors.Memory)) refl found found' is is'
one_on_streams opened s (calls.Reset id code) a b is is' found found' = both_served a b _ (answers.Reset (Err update_errors.Memory)) refl found found' is is'
one_on_streams opened s (calls.SetPriority id priority) a b is is' found found' = both_served a b _ (answers.SetPriority (Err update_errors.Memory)) refl found found' is is'
one_on_streams opened s (calls.Read read) a b is is' found found' = one_read s read.id read.ordered read.nexts.items a b is is' found found'
one_on_streams opened s (calls.Stop id code) a b is is' found found' = both_served a b _ (answers.Stop (Err update_errors.Memory)) refl found found' is is'
one_on_streams opened s (calls.ReceivedReset id) a b is is' found found' = is ∙ sym is'
one_on_streams opened s call a b is is' found found' = absurd is

module _ (p : Policy) (e : End) (limit : ℕ) (h : Heard) where
  -- a datagram that was delivered comes to one answer
  one_delivered : (delivery : Delivery) (o : Option (List ℕ)) (a b : Answer) → IsDelivered p e delivery o a → IsDelivered p e delivery o b → CountsOpenings limit e.closing.state h a → CountsOpenings limit e.closing.state h b → lacks a ≡ false → lacks b ≡ false → a ≡ b
  one_delivered delivery None a b is is' counts counts' found found' = is ∙ sym is'
  one_delivered delivery (Some d) a b is is' counts counts' found found' =
      let x = served a (answers.Deliver (received p e (delivered_by (says_last a) delivery) d).answer) (answers.Deliver receives.Failed) refl found is in
      let y = served b (answers.Deliver (received p e (delivered_by (says_last b) delivery) d).answer) (answers.Deliver receives.Failed) refl found' is' in
      x
      ∙ ap answers.Deliver
      (one_received delivery.now delivery.remote delivery.ecn p e d limit h (says_last a) (says_last b) (subst (λ (c : Answer). CountsOpenings limit e.closing.state h c) x counts) (subst (λ (c : Answer). CountsOpenings limit e.closing.state h c) y counts'))
      ∙ sym y

  -- so does one that was handed in
  one_injected : (injection : Injection) (opened : Bool) (a b : Answer) → a ≡ injected_if opened (says_last a) p e injection → b ≡ injected_if opened (says_last b) p e injection → CountsOpenings limit e.closing.state h a → CountsOpenings limit e.closing.state h b → a ≡ b
  one_injected injection true a b is is' counts counts' = is ∙ sym is'
  one_injected injection false a b is is' counts counts' =
      is
      ∙ ap answers.Inject
      (one_received injection.now injection.remote injection.ecn p e injection.bytes limit h (says_last a) (says_last b) (subst (λ (c : Answer). CountsOpenings limit e.closing.state h c) is counts) (subst (λ (c : Answer). CountsOpenings limit e.closing.state h c) is' counts'))
      ∙ sym is'

one_answer : (p : Policy) (control : Control) (e : End) (theirs : List (List ℕ)) (limit : ℕ) (h : Heard) (call : Call) (a b : Answer) → IsAnswer p (reads_window control h call e) theirs call a → IsAnswer p (reads_window control h call e) theirs call b
    → CountsOpenings limit e.closing.state h a → CountsOpenings limit e.closing.state h b → lacks a ≡ false → lacks b ≡ false → a ≡ b
one_answer p control e theirs limit h (calls.Send message makes_room) a b is is' counts counts' found found' = both_served a b _ (answers.Send (Err send_errors.Memory)) refl found found' is is'
one_answer p control e theirs limit h calls.Recv a b is is' counts counts' found found' = is ∙ sym is'
one_answer p control e theirs limit h calls.Ping a b is is' counts counts' found found' = is ∙ sym is'
one_answer p control e theirs limit h (calls.Close close) a b is is' counts counts' found found' = is ∙ sym is'
one_answer p control e theirs limit h calls.UseNextId a b is is' counts counts' found found' = both_served a b _ (answers.UseNextId (Err next_errors.Memory)) refl found found' is is'
one_answer p control e theirs limit h calls.HandshakeDone a b is is' counts counts' found found' = is ∙ sym is'
one_answer p control e theirs limit h (calls.Poll now) a b is is' counts counts' found found' = both_served a b _ (answers.Poll (Err (record {}))) refl found found' is is'
one_answer p control e theirs limit h (calls.Timeout now) a b is is' counts counts' found found' = both_served a b _ (answers.Timeout (Err (record {}))) refl found found' is is'
one_answer p control e theirs limit h (calls.Deliver delivery) a b is is' counts counts' found found' = one_delivered p e limit h delivery (slice_get theirs delivery.index) a b is is' counts counts' found found'
one_answer p control e theirs limit h (calls.Inject injection) a b is is' counts counts' found found' = one_injected p e limit h injection (would_open p e injection.remote injection.bytes) a b is is' counts counts'
one_answer p control e theirs limit h calls.Event a b is is' counts counts' found found' = is ∙ sym is'
one_answer p control e theirs limit h (calls.Timer timer) a b is is' counts counts' found found' = is ∙ sym is'
one_answer p control e theirs limit h calls.NextTimeout a b is is' counts counts' found found' = is ∙ sym is'
one_answer p control e theirs limit h calls.State a b is is' counts counts' found found' = is ∙ sym is'
one_answer p control e theirs limit h call a b is is' counts counts' found found' = one_on_streams (is_open e.closing.state) e.streams call a b is is' found found'

-- ---- one step

-- an end fails only for want of memory
unfailed : (a : Answer) → lacks a ≡ false → fails a ≡ false
unfailed (answers.Poll (Err failed)) found = cc
unfailed (answers.Timeout (Err failed)) found = cc
unfailed (answers.Deliver receives.Failed) found = cc
unfailed a found = refl

-- ---- one run

-- where no further event is answered nothing changes
nothing_more : (k : Policies) (w end : World) (events : List RunEvent) (views : List View) → Follows k w events [] views end → (views ≡ []) × (end ≡ w)
nothing_more k w end [] [] f = (refl, f)
nothing_more k w end (event ∷ events) [] f = (refl, f)
nothing_more k w end [] (v ∷ views) f = absurd f
nothing_more k w end (event ∷ events) (v ∷ views) f = absurd f

one_run : (k : Policies) (w : World) (events : List RunEvent) (told said : List Answer) (views seen : List View) (end left : World) → Follows k w events told views end → Follows k w events said seen left
    → length told ≡ length said → list_any lacks told ≡ false → list_any lacks said ≡ false → (said ≡ told) × (seen ≡ views) × (left ≡ end)
one_run k w events [] [] views seen end left f g long found found' =
    let x = nothing_more k w end events views f in
    let y = nothing_more k w left events seen g in
    (refl, y.0 ∙ sym x.0, y.1 ∙ sym x.1)
one_run k w events [] (b ∷ said) views seen end left f g long found found' = cc
one_run k w events (a ∷ told) [] views seen end left f g long found found' = cc
one_run k w [] (a ∷ told) (b ∷ said) views seen end left f g long found found' = absurd f
one_run k w (event ∷ events) (a ∷ told) (b ∷ said) [] seen end left f g long found found' = absurd f
one_run k w (event ∷ events) (a ∷ told) (b ∷ said) (v ∷ views) [] end left f g long found found' = absurd g
one_run k w (event ∷ events) (a ∷ told) (b ∷ said) (v ∷ views) (u ∷ seen) end left f g long found found' =
    let first = or_parts (lacks a) (list_any lacks told) found in
    let second = or_parts (lacks b) (list_any lacks said) found' in
    let side = event.side in
    let same : b ≡ a = one_answer (policy_at side k) (control_at side w) (end_at side w) (given_by (other_side side) w) (policy_at side k).openings (heard_at side w) event.call b a g.1.answer f.1.answer g.1.openings f.1.openings second.0 first.0 in
    let there : f.0 ≡ g.0 = one_world k w event a f.0 g.0 (unfailed a first.0) f.1 (subst (λ (c : Answer). IsStep k w event c g.0) same g.1) in
    let shorter : length told ≡ length said = cc in
    let rest = one_run k f.0 events told said views seen end left f.3 (subst (λ (x : World). Follows k x events said seen left) (sym there) g.3) shorter first.1 second.1 in
    let shown : u ≡ v = g.2 ∙ ap view_of (sym there) ∙ sym f.2 in
    (ap (λ (c : Answer). c ∷ said) same ∙ ap (λ (cs : List Answer). a ∷ cs) rest.0, ap (λ (x : View). x ∷ seen) shown ∙ ap (λ (xs : List View). v ∷ xs) rest.1, rest.2)

-- ---- the clauses

pub runs_agree : (r : Run) (end : World) → IsRun r end → RunsAgree r end
runs_agree r end is found s left other began =
    let f : Follows r.keys r.start r.events s.answers s.views left = subst (λ (k : Policies). Follows k r.start r.events s.answers s.views left) began.keys
    (subst (λ (w : World). Follows s.keys w r.events s.answers s.views left) began.start (subst (λ (es : List RunEvent). Follows s.keys s.start es s.answers s.views left) began.events other.follows))
    in
    let same = one_run r.keys r.start r.events r.answers s.answers r.views s.views end left is.follows f (sym began.count) found began.finds in (
      record {
        answers = same.0;
        views = same.1;
        from_client = other.from_client ∙ ap (λ (w : World). w.from_client) same.2 ∙ sym is.from_client;
        from_server = other.from_server ∙ ap (λ (w : World). w.from_server) same.2 ∙ sym is.from_server;
      },
      same.2,
    )

-- what stays of answers that found memory found it
without_finds : (gone : ℕ → Bool) (told : List Answer) → list_any lacks told ≡ false → list_any lacks (without gone told) ≡ false
without_finds gone [] found = refl
without_finds gone (a ∷ told) found = go (gone 0) (without_finds (λ i. gone (suc i)) told (or_parts (lacks a) (list_any lacks told) found).1)
  where
    go : (b : Bool) → list_any lacks (without (λ i. gone (suc i)) told) ≡ false → list_any lacks (if b then without (λ i. gone (suc i)) told else a ∷ without (λ i. gone (suc i)) told) ≡ false
    go true rest = rest
    go false rest = or_from (lacks a) (list_any lacks (without (λ i. gone (suc i)) told)) (or_parts (lacks a) (list_any lacks told) found).0 rest

pub idle_runs_agree : (r : Run) (end : World) → IsRun r end → IdleRunsAgree r end
idle_runs_agree r end is validated below found gone idle s left other began =
    let on = isolated r end is validated gone idle below in
    let same = runs_agree (erased gone r) on.0 on.2 (without_finds gone r.answers found) s left other (record { keys = began.keys; start = began.start; events = began.events; count = began.count; finds = began.finds }) in
    (record { answers = same.0.answers; views = same.0.views; from_client = same.0.from_client; from_server = same.0.from_server }, subst (λ (w : World). SameButCounts end w) (sym same.1) on.1)
