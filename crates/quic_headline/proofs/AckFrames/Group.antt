-- An open end has to acknowledge each packet that it took, but for those of which the peer is known
-- to know, and those below too many runs: each call keeps that.
use Rattle.std.proofs.Common.{◌≡◌, ℕ, ◌≤◌, ◌⊎◌, Bool, max, List, [], ◌∷◌, ◌++◌, map, length, Option, None, Ok, refl, sym, ap, ◌∙◌, subst, inl, inr, arith}
use Rattle.std.proofs.lemmas.List.{append_assoc, append-nil}
use Rattle.quic_wire_core.specs.declared.shared.EcnCodepoint.{EcnCodepoint}
use Rattle.quic_sets.specs.Runs.{Run, Has, AreRuns}
use Rattle.quic_wire.specs.Value.{FrameValue}
use Rattle.quic_recovery_core.specs.PendingAcks.{with_one, at_most, after_insert}
use Rattle.quic_recovery_core.specs.declared.spaces.pending_acks.TheConstants.{MAX_ACK_RUNS}
use Rattle.quic_recovery_core.proofs.AckRunSteps.{with_one_runs, with_one_in, in_with_one}
use Rattle.quic_spaces.specs.Numbers.{Numbers, number_opened}
use Rattle.quic_spaces.specs.Acknowledging.{with_due}
use Rattle.quic_machine.specs.declared.answers.State.TheVariants as states
use Rattle.quic_machine.specs.declared.run.Call.{Call}
use Rattle.quic_machine.specs.declared.run.Call.TheVariants as calls
use Rattle.quic_machine.specs.declared.run.Answer.{Answer}
use Rattle.quic_machine.specs.declared.run.Delivery.{Delivery}
use Rattle.quic_machine.specs.Policy.{Policy}
use Rattle.quic_machine.specs.End.{End}
use Rattle.quic_machine.specs.Receive.{asks_in, after_taken, Outcome}
use Rattle.quic_machine.specs.IdFrames.{drawn}
use Rattle.quic_machine.specs.FrameCases.{begun}
use Rattle.quic_headline.specs.Runs.{Told, Packet, Intake, In, IsTaken, nothing_came, and_told, folded}
use Rattle.quic_headline.specs.Observer.{Sent, Flight, Watch}
use Rattle.quic_headline.specs.AckFrames.{ends_above}
use Rattle.quic_headline.proofs.Packets.Acked.{acked_with, acks, acks_behind, acked_here, acked_then}
use Rattle.quic_headline.proofs.Packets.Invariant.{AreTaken}
use Rattle.quic_headline.proofs.Packets.Delivered.{frames_at, Arrivals, arrived, with_taken}
use Rattle.quic_headline.proofs.Packets.Moved.{by_migrated}
use Rattle.quic_headline.proofs.Packets.Routed.{flight_at}
use Rattle.quic_headline.proofs.Packets.Stays.{Keeps, keeps_frames}
use Rattle.quic_headline.proofs.Packets.Acking.{packet_runs, runs_step}
use Rattle.quic_headline.proofs.Packets.Flying.{Waits, held, frames_fly, ticked_waits, numbers_wait}
use Rattle.quic_headline.proofs.Packets.Group.{meets}
use Rattle.quic_headline.proofs.Places.Parties.{told_of, Party, called, came_to, watch_of}
use Rattle.quic_headline.proofs.Places.Groups.{Calls, Group}
use Rattle.quic_headline.proofs.Places.Coming.{by_coming}
use Rattle.quic_headline.proofs.Timers.Still.{was_open}
use Rattle.quic_headline.proofs.Timers.Watched.{Observed}
use Rattle.quic_headline.proofs.AckFrames.Crowded.{ends_fewer, most_kept}
use Rattle.quic_headline.proofs.AckFrames.Frames.{KnownBy, known_less, Stays, stays_flies}

-- ---- numbers that needn't be named

-- By some of these calls so many runs of numbers that their end took lay above a number. The end
-- has these keys, and its peer gives these datagrams in all.
pub record WasBelow (p : Policy) (given : List (List ℕ)) (told : List Told) (number : ℕ) : Type 0 where
  pub front : List Told
  pub behind : List Told
  pub is : told ≡ front ++ behind
  pub many : 64 ≤ length (ends_above number (folded (and_told p given) front nothing_came).took)

-- the same of a lesser number
below_less : (p : Policy) (given : List (List ℕ)) (told : List Told) (j k : ℕ) → j ≤ k → WasBelow p given told k → WasBelow p given told j
below_less p given told j k le was = (
    let fewer = ends_fewer j k (folded (and_told p given) was.front nothing_came).took le in
    let many = was.many in
    record { front = was.front; behind = was.behind; is = was.is; many = omega (arith, fewer, many) })

-- so it is of x
abbrev pub Below : Party → Party → ℕ → Type 0
Below x y number = WasBelow x.policy y.final x.told number

-- the peer is known to know of it, or it was below too many, or is now
abbrev Out : Party → Party → List Sent → List Packet → ℕ → Type 0
Out x y acked took number = KnownBy acked number ⊎ (Below x y number ⊎ (MAX_ACK_RUNS ≤ length (ends_above number took)))

out_less : (x y : Party) (acked : List Sent) (took : List Packet) (j k : ℕ) → j ≤ k → Out x y acked took k → Out x y acked took j
out_less x y acked took j k le (inl known) = inl (known_less acked j k le known)
out_less x y acked took j k le (inr (inl was)) = inr (inl (below_less x.policy y.final x.told j k le was))
out_less x y acked took j k le (inr (inr many)) = (let fewer = ends_fewer j k took le in inr (inr (omega (arith, fewer, many))))

-- ---- the group

-- While x is open, it has to acknowledge each packet that it took, but for those.
pub record KeepsAll (x y : Party) : Type 0 where
  pub keeps : x.end.closing.state ≡ states.Open → (p : Packet) → In p (came_to x y).took → Has x.end.acknowledging.runs p.number ⊎ (KnownBy (acks x y) p.number ⊎ Below x y p.number)

module _ (x y : Party) (call : Call) (a : Answer) (c : Calls Observed x y call a) (before : KeepsAll x y) where
  -- what an end keeps of what came, where the observer counts these as acknowledged
  abbrev Keeps_of : End → List Sent → Intake → Type 0
  Keeps_of e acked i = (p : Packet) → In p i.took → Has e.acknowledging.runs p.number ⊎ Out x y acked i.took p.number

  abbrev acked_by_call : Intake → List Sent
  acked_by_call i = acked_with x.terms x.end.closing.state call (watch_of x y) i

  -- so it is behind a call that brings this, while the end is open
  abbrev Behind : End → Intake → Type 0
  Behind e i = e.closing.state ≡ states.Open → Keeps_of e (acked_by_call i) i

  was_kept : x.end.closing.state ≡ states.Open → Keeps_of x.end (acks x y) (came_to x y)
  was_kept opened p i = go (before.keeps opened p i)
    where
      go : Has x.end.acknowledging.runs p.number ⊎ (KnownBy (acks x y) p.number ⊎ Below x y p.number) → Has x.end.acknowledging.runs p.number ⊎ Out x y (acks x y) (came_to x y).took p.number
      go (inl has) = inl has
      go (inr (inl known)) = inr (inl known)
      go (inr (inr was)) = inr (inr (inl was))

  -- where nothing came
  none_came : x.end.closing.state ≡ states.Open → Keeps_of x.end (acked_by_call (came_to x y)) (came_to x y)
  none_came opened = subst (λ (acked : List Sent). Keeps_of x.end acked (came_to x y)) (sym (acked_here x y call)) (was_kept opened)

  -- ---- a packet is taken

  module _ (delivery : Delivery) (is : call ≡ calls.Deliver delivery) (n : ℕ) (frames : List FrameValue) (here : Bool) (opened : x.end.closing.state ≡ states.Open) (none : (arrived x.end delivery.now n (frames_at here frames)).fault ≡ None) where
    -- the frames of it that are taken
    abbrev within : List FrameValue
    within = frames_at here frames

    abbrev left : End
    left = (arrived x.end delivery.now n within).end

    abbrev packet : Packet
    packet = record { number = n; frames = frames }

    abbrev taken : List Packet
    taken = packet ∷ (came_to x y).took

    -- what is acknowledged then
    abbrev acked : List Sent
    acked = acked_by_call (with_taken (came_to x y) n frames)

    frames_keep : Keeps (begun x.end delivery.now n) left
    frames_keep = keeps_frames within (begun x.end delivery.now n)

    runs : AreRuns left.acknowledging.runs
    runs = (frames_keep.acks c.takes.0.acks).runs.runs

    -- a number stays, or is known, behind the frames
    stays : (number : ℕ) → Stays number (acks x y) x.end → Stays number acked left
    stays number was =
        let w : Watch = watch_of x y in
        let now : ℕ = max w.clock delivery.now in
        let waits : Waits x.terms w.clock w.flight (held x.end) = c.gives.1.watched.flight opened in
        let numbers : Numbers = number_opened x.end.numbers n in
        let begins : Waits x.terms now w.flight (held (begun x.end delivery.now n)) = ticked_waits x.terms w.clock delivery.now w.flight (record (held x.end) { numbers = numbers }) (numbers_wait x.terms w.clock w.flight (held x.end) numbers refl waits) in
        let all = frames_fly x.terms now within (λ flying acked e. Stays number acked e) (stays_flies number within) w.flight (begun x.end delivery.now n) none (record { waits = begins; holds = was }) in
        subst (λ (ss : List Sent). Stays number ss left) (sym (acked_then x y call delivery is opened n frames ∙ sym (ap (λ (f : Flight). f.acked) (flight_at x.terms now here frames w.flight)))) all.holds

    -- so each packet is kept behind them, and the one that came
    abbrev Kept : List Run → ℕ → Type 0
    Kept rs number = Has rs number ⊎ Out x y acked taken number

    older : (p : Packet) → Has x.end.acknowledging.runs p.number ⊎ (KnownBy (acks x y) p.number ⊎ Below x y p.number) → Kept (with_one left.acknowledging.runs n) p.number
    older p (inl has) = go (stays p.number (inl has))
      where
        go : Stays p.number acked left → Kept (with_one left.acknowledging.runs n) p.number
        go (inl still) = inl (with_one_in 0 n p.number left.acknowledging.runs runs (inl still))
        go (inr known) = inr (inl known)
    older p (inr (inl known)) = go (stays p.number (inr known))
      where
        go : Stays p.number acked left → Kept (with_one left.acknowledging.runs n) p.number
        go (inl still) = inl (with_one_in 0 n p.number left.acknowledging.runs runs (inl still))
        go (inr still) = inr (inl still)
    older p (inr (inr was)) = inr (inr (inl was))

    each : (p : Packet) → In p taken → Kept (with_one left.acknowledging.runs n) p.number
    each p (inl same) = inl (with_one_in 0 n p.number left.acknowledging.runs runs (inr (ap (λ (q : Packet). q.number) same)))
    each p (inr there) = older p (before.keeps opened p there)

    -- each of these numbers was taken
    were_taken : AreTaken (with_one left.acknowledging.runs n) taken
    were_taken k has = go (in_with_one 0 n k left.acknowledging.runs runs has)
      where
        go : Has left.acknowledging.runs k ⊎ (k ≡ n) → IsTaken taken k
        go (inl old) = (let t = c.takes.0.acking k (frames_keep.fewer k old) in record { packet = t.packet; was_taken = inr t.was_taken; is = t.is })
        go (inr same) = record { packet = packet; was_taken = inl refl; is = sym same }

    abbrev after : (ℕ → ℕ) → Bool → Option EcnCodepoint → End
    after words urged mark = drawn words (after_taken n (asks_in (map Ok frames)) urged mark left)

    after_runs : (words : ℕ → ℕ) (urged : Bool) (mark : Option EcnCodepoint) → (after words urged mark).acknowledging.runs ≡ at_most (with_one left.acknowledging.runs n)
    after_runs words urged mark = packet_runs (with_due urged (after_insert left.acknowledging n left.closing.clock)) left.closing.clock n (asks_in (map Ok frames)) left.numbers.opened

    packet_kept : (words : ℕ → ℕ) (urged : Bool) (mark : Option EcnCodepoint) → Keeps_of (after words urged mark) acked (with_taken (came_to x y) n frames)
    packet_kept words urged mark p i =
        subst (λ (rs : List Run). Kept rs p.number) (sym (after_runs words urged mark))
        (most_kept taken (Out x y acked taken) (out_less x y acked taken) (λ k many. inr (inr many)) (with_one left.acknowledging.runs n) (with_one_runs 0 n left.acknowledging.runs (omega arith) runs) were_taken each p i)

  -- each case of a delivery
  arrivals_keep : (delivery : Delivery) → call ≡ calls.Deliver delivery → (n : ℕ) (frames : List FrameValue) (here : Bool) → Arrivals x.end delivery.now n frames (frames_at here frames) (came_to x y) (λ (o : Outcome) (i : Intake). Behind o.end i)
  arrivals_keep delivery is n frames here = record {
    ignored = λ reason opened. none_came opened;
    noted = λ state reason opened. absurd (let clash : states.Closing ≡ states.Open = sym state ∙ opened in cc);
    takes = λ words state new none urged mark opened. packet_kept delivery is n frames here state none words urged mark;
    moves = λ p o same remote z state left. by_migrated (λ (e : End). Behind e (with_taken (came_to x y) n frames)) p o remote z (λ c. left) (λ c most. left);
    drains = λ words state new close at opened. absurd cc;
    refuses = λ words state new f at opened. absurd cc;
    exhausts = λ state opened. absurd cc;
  }

  -- so it is behind any call
  call_keeps : Behind (called x y.given call a).end (came_to (called x y.given call a) y)
  call_keeps = by_coming x y a c.joined c.served (meets y x c.takes.0) Behind call c.answer (record {
    apart = λ apart opened p i. subst (λ (rs : List Run). Has rs p.number ⊎ Out x y (acked_by_call (came_to x y)) (came_to x y).took p.number) (sym (runs_step x.policy x.end y.given call a apart).0) (none_came (was_open x.policy x.end y.given call a opened) p i);
    none = λ delivery is opened. none_came opened;
    comes = λ delivery is s among here. arrivals_keep delivery is s.number s.frames here;
  })

  -- what was below too many by then
  below_then : (number : ℕ) → Below x y number ⊎ (MAX_ACK_RUNS ≤ length (ends_above number (came_to (called x y.given call a) y).took)) → Below (called x y.given call a) y number
  below_then number (inl was) = record {
    front = was.front;
    behind = was.behind ++ told_of call a x.end.closing.state ∷ [];
    is = ap (λ (ts : List Told). ts ++ told_of call a x.end.closing.state ∷ []) was.is ∙ append_assoc was.front was.behind (told_of call a x.end.closing.state ∷ []);
    many = was.many;
  }
  below_then number (inr many) = record { front = (called x y.given call a).told; behind = []; is = sym (append-nil (called x y.given call a).told); many = many }

  keeps_step : KeepsAll (called x y.given call a) y
  keeps_step = record { keeps = λ opened p i. go p (call_keeps opened p i) }
    where
      go : (p : Packet) → Has (called x y.given call a).end.acknowledging.runs p.number ⊎ Out x y (acked_by_call (came_to (called x y.given call a) y)) (came_to (called x y.given call a) y).took p.number
          → Has (called x y.given call a).end.acknowledging.runs p.number ⊎ (KnownBy (acks (called x y.given call a) y) p.number ⊎ Below (called x y.given call a) y p.number)
      go p (inl has) = inl has
      go p (inr (inl known)) = inr (inl (subst (λ (ss : List Sent). KnownBy ss p.number) (sym (acks_behind x y call a)) known))
      go p (inr (inr below)) = inr (inr (below_then p.number below))

-- over the packets and what observers know of them
pub keeps_group : Group Observed KeepsAll
keeps_group = record {
  first = λ x y m there here. record { keeps = λ opened p i. absurd i };
  writer = λ x y call a c i back. keeps_step x y call a c i;
  reader = λ x y call a c i back. record { keeps = back.keeps };
  shows = λ x y here there b back i j. record { keeps = i.keeps };
}
