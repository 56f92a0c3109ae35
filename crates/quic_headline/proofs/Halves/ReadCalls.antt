-- What calls make of what was read, of what frames brought, and of what was accepted; a delivery
-- aside.
use Rattle.std.proofs.Common.{◌≡◌, ℕ, Bool, false, List, [], ◌∷◌, ◌++◌, Option, Some, Result, Ok, Err, refl, sym, subst, inl, inr}
use Rattle.quic_wire_core.specs.declared.stream_id.Side.{Side}
use Rattle.quic_wire_core.specs.declared.stream_id.Dir.{Dir}
use Rattle.quic_wire.specs.Value.{FrameValue, StreamValue, stream}
use Rattle.quic_retransmits.specs.Retransmits.{Retransmits}
use Rattle.quic_streams_parts.specs.declared.answers.UpdateError.{UpdateError}
use Rattle.quic_streams_state.specs.declared.state.StreamsState.{StreamsState}
use Rattle.quic_streams_state.specs.State.{Streams}
use Rattle.quic_streams_state.specs.Opening.{accept_answer, after_accept}
use Rattle.quic_streams_state.specs.Reading.{Told, told_bytes, told_by, after_read_begun, after_next, stop_answer, after_stop, after_received_reset}
use Rattle.quic_streams_laws.specs.Quiet.{IsQuiet, IsSentWithin}
use Rattle.quic_streams_laws.specs.QuietLaws.{is_quiet}
use Rattle.quic_streams_laws.specs.Keeping.{KeepsAll}
use Rattle.quic_streams_laws.specs.KeepingLaws.{by_accept, by_read_begun, by_next, by_stop, by_received_reset}
use Rattle.quic_streams_laws.specs.Written.{Wrote}
use Rattle.quic_streams_laws.specs.Reads.{Reads}
use Rattle.quic_streams_laws.specs.Content.{HoldsRead, IsNextAnswer, IsRecvStatus}
use Rattle.quic_streams_laws.specs.ContentLaws.{read_kept, read_stop, read_received_reset, by_next_answer}
use Rattle.quic_streams_laws.specs.StatusLaws.{said_of_each}
use Rattle.quic_streams_laws.specs.Kept.{HoldsTaken}
use Rattle.quic_streams_laws.specs.TakenLaws.{taken_kept, taken_begun, taken_next, taken_stop, taken_received_reset}
use Rattle.quic_streams_laws.specs.Accepted.{HoldsAccepted}
use Rattle.quic_streams_laws.specs.AcceptedLaws.{accepted_kept, accepted_accept}
use Rattle.quic_machine.specs.declared.run.Call.{Call}
use Rattle.quic_machine.specs.declared.run.Call.TheVariants as calls
use Rattle.quic_machine.specs.declared.run.Answer.{Answer}
use Rattle.quic_machine.specs.declared.run.Answer.TheVariants as answers
use Rattle.quic_machine.specs.declared.run.ReadCall.{ReadCall}
use Rattle.quic_machine.specs.declared.answers.State.{State}
use Rattle.quic_machine.specs.Policy.{Policy}
use Rattle.quic_machine.specs.End.{End, streams_at}
use Rattle.quic_machine.specs.Calls.{AreNexts, after_nexts}
use Rattle.quic_machine.specs.StreamCalls.{if_ok, IsRead}
use Rattle.quic_machine.specs.Machine.{IsAnswer, after_call}
use Rattle.quic_machine.specs.CallCases.{is_delivery}
use Rattle.quic_headline.specs.Runs as runs
use Rattle.quic_headline.specs.Runs.{Next, In, accepts}
use Rattle.quic_headline.proofs.Places.Told.{accepts_append, in_left, in_last}
use Rattle.quic_headline.proofs.Places.Parties.{told_of}
use Rattle.quic_headline.proofs.Halves.Ghosts.{read}
use Rattle.quic_headline.proofs.Halves.QuietSteps.{call_quiet}
use Rattle.quic_headline.proofs.Halves.Reading.{begins, nexts_on, begun_reads, read_nexts, read_on, read_same}
use Rattle.quic_headline.proofs.Halves.Opened.{IsOpened, IsOf, opened_stays, side_stays}
use Rattle.quic_headline.proofs.Halves.Bringing.{Brought}

-- ---- facts that every call keeps

-- a fact that calls about what an end sends leave, and each word about what it receives but those
-- that accept or stop a stream
pub record IsKeptElse (P : StreamsState → Type 0) : Type 0 where
  pub quiet : IsQuiet P
  pub begun : (s : StreamsState) (id : ℕ) (ordered : Bool) → P s → P (after_read_begun s id ordered)
  pub next : (told : Told) (s : StreamsState) (id most : ℕ) (answer : Next) → IsNextAnswer told s id most answer → P s → P (after_next told answer s id most)
  pub received_reset : (s : StreamsState) (p : Retransmits) (id : ℕ) → P s → P (after_received_reset s p id).state

-- and which a stop leaves too
pub record IsKept (P : StreamsState → Type 0) : Type 0 where
  pub quiet : IsQuiet P
  pub begun : (s : StreamsState) (id : ℕ) (ordered : Bool) → P s → P (after_read_begun s id ordered)
  pub next : (told : Told) (s : StreamsState) (id most : ℕ) (answer : Next) → IsNextAnswer told s id most answer → P s → P (after_next told answer s id most)
  pub stop : (s : StreamsState) (p : Retransmits) (id code : ℕ) → P s → P (after_stop s p id code).state
  pub received_reset : (s : StreamsState) (p : Retransmits) (id : ℕ) → P s → P (after_received_reset s p id).state

-- one that each small change keeps, whatever changes
pub any_kept : {A : StreamsState → Dir → Type 0} (P : StreamsState → Type 0) → KeepsAll (λ r id old new. Unit {0}) (λ s id old new. Unit {0}) (λ s id n old new. Unit {0}) A (λ id. Unit {0}) P → IsKept P
any_kept P k = record {
  quiet = is_quiet P k;
  begun = λ s id ordered i. by_read_begun P k s id ordered (λ h e. tt) i;
  next = λ told s id most answer is i. by_next_answer P told s id most answer is (by_next P k told s id most (λ h c e f. tt) i) i;
  stop = λ s p id code i. by_stop P k s p id code (λ h e. tt) i;
  received_reset = λ s p id i. by_received_reset P k s p id i;
}

-- what frames brought
kept_taken : (taken : StreamValue → Type 0) → IsKept (HoldsTaken taken)
kept_taken taken = record {
  quiet = is_quiet (HoldsTaken taken) (taken_kept taken);
  begun = taken_begun taken;
  next = taken_next taken;
  stop = taken_stop taken;
  received_reset = taken_received_reset taken;
}

-- what a call leaves that changes nothing where it is refused
pub if_done : (P : StreamsState → Type 0) (r : Result (Unit {0}) UpdateError) (after before : Streams) → P after.state → P before.state → P (if_ok r after before).state
if_done P (Ok x) after before now i = now
if_done P (Err error) after before now i = i

module _ (P : StreamsState → Type 0) (k : IsKeptElse P) where
  nexts_kept : (told : Told) (s : StreamsState) (id : ℕ) (mosts : List ℕ) (answers : List Next) → AreNexts told s id mosts answers → P s → P (after_nexts told s id mosts answers)
  nexts_kept told s id [] [] a i = i
  nexts_kept told s id [] (x ∷ answers) a i = absurd a
  nexts_kept told s id (most ∷ mosts) [] a i = absurd a
  nexts_kept told s id (most ∷ mosts) (x ∷ answers) a i = nexts_kept (told_by x told) (after_next told x s id most) id mosts answers a.1 (k.next told s id most x a.0 i)

  module _ (p : Policy) (e : End) (theirs : List (List ℕ)) (within : (id : ℕ) → IsSentWithin e.streams id) (i : P e.streams) where
    -- any call but a delivery, where a stop leaves it
    pub call_kept_else : (call : Call) (a : Answer) → IsAnswer p e theirs call a → is_delivery call ≡ false → ((dir : Dir) → call ≡ calls.Accept dir → P (after_accept dir e.streams))
        → ((id code : ℕ) → call ≡ calls.Stop id code → IsAnswer p e theirs (calls.Stop id code) a → P (after_call p e theirs (calls.Stop id code) a).streams) → P (after_call p e theirs call a).streams
    call_kept_else (calls.Accept dir) a is apart accepts stops = accepts dir refl
    call_kept_else (calls.Read rd) (answers.Read (Ok said)) is apart accepts stops = nexts_kept told_bytes (after_read_begun e.streams rd.id rd.ordered) rd.id rd.nexts.items said is.1 (k.begun e.streams rd.id rd.ordered i)
    call_kept_else (calls.Read rd) a is apart accepts stops = i
    call_kept_else (calls.Stop id code) a is apart accepts stops = stops id code refl is
    call_kept_else (calls.ReceivedReset id) a is apart accepts stops = k.received_reset e.streams e.waiting.frames id i
    call_kept_else call a is apart accepts stops = call_quiet P k.quiet p e theirs call a is within apart refl i

module _ (P : StreamsState → Type 0) (k : IsKept P) (p : Policy) (e : End) (theirs : List (List ℕ)) (within : (id : ℕ) → IsSentWithin e.streams id) (i : P e.streams) where
  -- a stop at this end
  stop_kept : (id code : ℕ) (a : Answer) → IsAnswer p e theirs (calls.Stop id code) a → P (after_call p e theirs (calls.Stop id code) a).streams
  stop_kept id code a (inl is) = subst (λ (b : Answer). P (after_call p e theirs (calls.Stop id code) b).streams) (sym is)
      (if_done P (stop_answer e.streams id) (after_stop e.streams e.waiting.frames id code) (streams_at e) (k.stop e.streams e.waiting.frames id code i) i)
  stop_kept id code a (inr is) = subst (λ (b : Answer). P (after_call p e theirs (calls.Stop id code) b).streams) (sym is) i

  -- any call but a delivery
  pub call_kept : (call : Call) (a : Answer) → IsAnswer p e theirs call a → is_delivery call ≡ false → ((dir : Dir) → call ≡ calls.Accept dir → P (after_accept dir e.streams)) → P (after_call p e theirs call a).streams
  call_kept call a is apart accepts = call_kept_else P (record { quiet = k.quiet; begun = k.begun; next = k.next; received_reset = k.received_reset }) p e theirs within i call a is apart accepts (λ id code same answer. stop_kept id code a answer)

-- what packets brought stays
pub brought_call : (side : Side) (were : FrameValue → Type 0) (p : Policy) (e : End) (theirs : List (List ℕ)) (call : Call) (a : Answer) → ((id : ℕ) → IsSentWithin e.streams id) → IsAnswer p e theirs call a → is_delivery call ≡ false
    → Brought side were e.streams → Brought side were (after_call p e theirs call a).streams
brought_call side were p e theirs call a within is apart i = record {
  taken = call_kept (HoldsTaken (λ g. were (stream g))) (kept_taken (λ g. were (stream g))) p e theirs within i.taken call a is apart
      (λ dir same. by_accept (HoldsTaken (λ g. were (stream g))) (taken_kept (λ g. were (stream g))) dir e.streams (λ may. may) i.taken);
  of_side = call_kept (IsOf side) (any_kept (IsOf side) (side_stays side)) p e theirs within i.of_side call a is apart (λ dir same. by_accept (IsOf side) (side_stays side) dir e.streams (λ may. tt) i.of_side);
  opened = λ f id was opens not_own. (let there : IsOpened side id e.streams = record { of_side = i.of_side; opened = i.opened f id was opens not_own } in
      call_kept (IsOpened side id) (any_kept (IsOpened side id) (opened_stays side id)) p e theirs within there call a is apart (λ dir same. by_accept (IsOpened side id) (opened_stays side id) dir e.streams (λ may. tt) there)).opened;
}

-- ---- what was accepted

-- one call more
pub accepted_call : (told : List runs.Told) (state : State) (p : Policy) (e : End) (theirs : List (List ℕ)) (call : Call) (a : Answer) → ((id : ℕ) → IsSentWithin e.streams id) → IsAnswer p e theirs call a → is_delivery call ≡ false
    → HoldsAccepted (λ id. In id (accepts told)) e.streams → HoldsAccepted (λ id. In id (accepts (told ++ told_of call a state ∷ []))) (after_call p e theirs call a).streams
accepted_call told state p e theirs call a within is apart i = go call a is apart
  where
    was : (t : runs.Told) (id : ℕ) → In id (accepts told) → In id (accepts (told ++ t ∷ []))
    was t id j = subst (In id) (sym (accepts_append told (t ∷ []))) (in_left id (accepts told) (accepts (t ∷ [])) j)

    later : (t : runs.Told) (s : StreamsState) → HoldsAccepted (λ id. In id (accepts told)) s → HoldsAccepted (λ id. In id (accepts (told ++ t ∷ []))) s
    later t s h = record { each = λ dir index lt. was t _ (h.each dir index lt) }

    P : StreamsState → Type 0
    P = HoldsAccepted (λ id. In id (accepts told))

    now : (dir : Dir) (id : ℕ) → accept_answer dir e.streams ≡ Some id → In id (accepts (told ++ told_of (calls.Accept dir) (answers.Accept (accept_answer dir e.streams)) state ∷ []))
    now dir id e1 = subst (λ (o : Option ℕ). In id (accepts (told ++ told_of (calls.Accept dir) (answers.Accept o) state ∷ []))) (sym e1)
        (subst (In id) (sym (accepts_append told (told_of (calls.Accept dir) (answers.Accept (Some id)) state ∷ []))) (in_last id (accepts told)))

    go : (call : Call) (a : Answer) → IsAnswer p e theirs call a → is_delivery call ≡ false → HoldsAccepted (λ id. In id (accepts (told ++ told_of call a state ∷ []))) (after_call p e theirs call a).streams
    go (calls.Accept dir) a is apart = subst (λ (b : Answer). HoldsAccepted (λ id. In id (accepts (told ++ told_of (calls.Accept dir) b state ∷ []))) (after_accept dir e.streams)) (sym is)
        (accepted_accept (λ id. In id (accepts told)) (λ id. In id (accepts (told ++ told_of (calls.Accept dir) (answers.Accept (accept_answer dir e.streams)) state ∷ []))) dir e.streams (was _) (now dir) i)
    go call a is apart = later (told_of call a state) (after_call p e theirs call a).streams (call_kept P (any_kept P (accepted_kept (λ id. In id (accepts told)))) p e theirs within i call a is apart (λ dir same. cc))

-- ---- what was read

-- what was read of streams, told otherwise
pub read_as : (done : ℕ → Wrote) (r r' : ℕ → Reads) (s : StreamsState) → ((id : ℕ) → r id ≡ r' id) → HoldsRead done r s → HoldsRead done r' s
read_as done r r' s same i = said_of_each (λ id x. IsRecvStatus (done id) (r id) x) (λ id x. IsRecvStatus (done id) (r' id) x) (λ id x j. subst (λ (y : Reads). IsRecvStatus (done id) y x) (same id) j) s i

-- a read that was begun
pub reading_on : (done : ℕ → Wrote) (taken : StreamValue → Type 0) (told : List runs.Told) (state : State) (e : End) (rd : ReadCall) (said : List Next) → IsRead e.streams rd.id rd.ordered rd.nexts.items (answers.Read (Ok said))
    → HoldsRead done (read told) e.streams → HoldsTaken taken e.streams → HoldsRead done (read (told ++ told_of (calls.Read rd) (answers.Read (Ok said)) state ∷ [])) (after_nexts told_bytes (after_read_begun e.streams rd.id rd.ordered) rd.id rd.nexts.items said)
reading_on done taken told state e rd said is i k =
    let after : StreamsState = after_nexts told_bytes (after_read_begun e.streams rd.id rd.ordered) rd.id rd.nexts.items said in
    read_as done (read_nexts said rd.id (begun_reads rd.ordered rd.id (read told))) (read (told ++ told_of (calls.Read rd) (answers.Read (Ok said)) state ∷ [])) after (read_on told rd said state)
    (nexts_on done taken rd.id told_bytes (after_read_begun e.streams rd.id rd.ordered) (begun_reads rd.ordered rd.id (read told)) rd.nexts.items said is.1 (begins done taken rd.id e.streams rd.ordered (read told) is.0 i k)).0

-- one call more
pub reads_call : (done : ℕ → Wrote) (taken : StreamValue → Type 0) (told : List runs.Told) (state : State) (p : Policy) (e : End) (theirs : List (List ℕ)) (call : Call) (a : Answer) → ((id : ℕ) → IsSentWithin e.streams id) → IsAnswer p e theirs call a → is_delivery call ≡ false
    → HoldsRead done (read told) e.streams → HoldsTaken taken e.streams → HoldsRead done (read (told ++ told_of call a state ∷ [])) (after_call p e theirs call a).streams
reads_call done taken told state p e theirs call a within is apart i k = go call a is apart
  where
    P : StreamsState → Type 0
    P = HoldsRead done (read told)

    stops : (id code : ℕ) (a : Answer) → IsAnswer p e theirs (calls.Stop id code) a → P (after_call p e theirs (calls.Stop id code) a).streams
    stops id code a (inl is) = subst (λ (b : Answer). P (after_call p e theirs (calls.Stop id code) b).streams) (sym is)
        (if_done P (stop_answer e.streams id) (after_stop e.streams e.waiting.frames id code) (streams_at e) (read_stop done (read told) e.streams e.waiting.frames id code i) i)
    stops id code a (inr is) = subst (λ (b : Answer). P (after_call p e theirs (calls.Stop id code) b).streams) (sym is) i

    go : (call : Call) (a : Answer) → IsAnswer p e theirs call a → is_delivery call ≡ false → HoldsRead done (read (told ++ told_of call a state ∷ [])) (after_call p e theirs call a).streams
    go (calls.Read rd) (answers.Read (Ok said)) is apart = reading_on done taken told state e rd said is i k
    go (calls.Read rd) a is apart = read_as done (read told) (read (told ++ told_of (calls.Read rd) a state ∷ [])) e.streams (λ id. sym (read_same told (told_of (calls.Read rd) a state) id refl refl)) i
    go (calls.Accept dir) a is apart = read_as done (read told) (read (told ++ told_of (calls.Accept dir) a state ∷ [])) (after_accept dir e.streams) (λ id. sym (read_same told (told_of (calls.Accept dir) a state) id refl refl)) (by_accept P (read_kept done (read told)) dir e.streams (λ may. may) i)
    go (calls.Stop id code) a is apart = read_as done (read told) (read (told ++ told_of (calls.Stop id code) a state ∷ [])) (after_call p e theirs (calls.Stop id code) a).streams (λ q. sym (read_same told (told_of (calls.Stop id code) a state) q refl refl)) (stops id code a is)
    go (calls.ReceivedReset id) a is apart = read_as done (read told) (read (told ++ told_of (calls.ReceivedReset id) a state ∷ [])) (after_received_reset e.streams e.waiting.frames id).state (λ q. sym (read_same told (told_of (calls.ReceivedReset id) a state) q refl refl))
        (read_received_reset done (read told) e.streams e.waiting.frames id i)
    go call a is apart = read_as done (read told) (read (told ++ told_of call a state ∷ [])) (after_call p e theirs call a).streams (λ id. sym (read_same told (told_of call a state) id refl refl)) (call_quiet P (is_quiet P (read_kept done (read told))) p e theirs call a is within apart refl i)
