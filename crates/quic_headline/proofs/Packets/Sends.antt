-- What a poll leaves and gives, with what its datagram was sent as, case by case.
use Rattle.std.proofs.Common.{◌≡◌, Bool, true, false, ℕ, List, [], ◌∷◌, Option, Some, None, Err, refl, sym, ap, ◌∙◌, subst}
use Rattle.quic_wire.specs.Value.{FrameValue}
use Rattle.quic_machine.specs.declared.answers.State.{State}
use Rattle.quic_machine.specs.declared.answers.State.TheVariants as states
use Rattle.quic_machine.specs.declared.answers.LostReason.{LostReason}
use Rattle.quic_machine.specs.declared.run.Answer.TheVariants as answers
use Rattle.quic_machine.specs.Policy.{Policy}
use Rattle.quic_machine.specs.Closing.{ticked}
use Rattle.quic_machine.specs.End.{End, with_closing, closed_by}
use Rattle.quic_machine.specs.Poll.{Polled, Draft, gives_nothing, gives_datagram, datagram_of, draft_as, close_to_go, after_close, closes, after_given, goes, rests, bounds, sends, polled_if, polled_in, polled}
use Rattle.quic_machine.specs.Poll as poll
use Rattle.quic_machine.specs.PollCases.{ready_at, ready_leaves, draft_at}
use Rattle.quic_machine.specs.Machine.{gave}
use Rattle.quic_headline.specs.Observer.{Sent}
use Rattle.quic_headline.proofs.Packets.Closes.{by_closes}
use Rattle.quic_headline.proofs.Places.Parties.{close_if, close_draft, given_in, draft_given, sent_as, sent_by, sent_if}

-- an end that closes or is closing gives nothing, or its close alone, as such
abbrev pub GivesClose : Policy → End → ℕ → (Polled → List Sent → Type 0) → End → Type 0
GivesClose p e now P x =
    P (gives_nothing x) [] × ((f : FrameValue) → close_to_go p x ≡ Some f → let d : Draft = draft_as (poll.closing f) x in P (gives_datagram (datagram_of p d) (after_close p d)) (sent_as e now d ∷ []))

-- the cases of a poll, with what was sent by it
pub record SendsTo (p : Policy) (e : End) (now : ℕ) (P : Polled → List Sent → Type 0) : Type 0 where
  -- an end that is drained, or has failed
  pub silent : P (gives_nothing e) []
  pub failed : P (record { answer = Err (record {}); datagram = None; end = e }) []
  -- one that is closing
  pub repeats : e.closing.state ≡ states.Closing → GivesClose p e now P (with_closing e (ticked e.closing now))
  -- nothing has to go, or what has to is held back
  pub nothing : e.closing.state ≡ states.Open → goes (ready_at e now) ≡ false → P (gives_nothing (rests (ready_at e now))) []
  -- numbers or the key are used up: the end closes
  pub closes : (reason : LostReason) → e.closing.state ≡ states.Open → bounds p e ≡ Some reason → GivesClose p e now P (closed_by reason (ready_at e now).end)
  -- something goes
  pub gives : e.closing.state ≡ states.Open → bounds p e ≡ None → goes (ready_at e now) ≡ true → P (gives_datagram (datagram_of p (draft_at e now)) (after_given p (draft_at e now))) (sent_as e now (draft_at e now) ∷ [])

module _ (p : Policy) (e : End) (now : ℕ) (P : Polled → List Sent → Type 0) (c : SendsTo p e now P) where
  -- what holds of a poll, and of what was sent by it
  abbrev Of : Polled → Type 0
  Of q = P q (sent_if (gave (answers.Poll q.answer)) (sent_by p e now))

  -- a close goes, or none
  close_case : (x : End) → draft_given p e now ≡ close_draft p x → GivesClose p e now P x → Of (closes p x)
  close_case x same each = by_closes p x Of each.0
      (λ f is. subst (λ (d : Draft). P (gives_datagram (datagram_of p (draft_as (poll.closing f) x)) (after_close p (draft_as (poll.closing f) x))) (sent_as e now d ∷ []))
      (sym (same ∙ ap (λ (o : Option FrameValue). close_if o x) is)) (each.1 f is))

  -- numbers and the key last, or not
  bound_case : e.closing.state ≡ states.Open → goes (ready_at e now) ≡ true → (o : Option LostReason) → bounds p e ≡ o → Of (sends o p (ready_at e now))
  bound_case s w None n = subst (λ (d : Draft). P (gives_datagram (datagram_of p (draft_at e now)) (after_given p (draft_at e now))) (sent_as e now d ∷ []))
      (sym (ap (λ (state : State). given_in state (bounds p e) p e now) s ∙ ap (λ (o : Option LostReason). given_in states.Open o p e now) n)) (c.gives s n w)
  bound_case s w (Some reason) n =
      close_case (closed_by reason (ready_at e now).end) (ap (λ (state : State). given_in state (bounds p e) p e now) s ∙ ap (λ (o : Option LostReason). given_in states.Open o p e now) n) (c.closes reason s n)

  -- an end that is made ready gives no number
  same_bounds : bounds p (ready_at e now).end ≡ bounds p e
  same_bounds = ap (λ (x : End). bounds p x) (ready_leaves e now)

  -- something goes or doesn't
  going_case : e.closing.state ≡ states.Open → (b : Bool) → goes (ready_at e now) ≡ b → Of (polled_if b p (ready_at e now))
  going_case s true w = subst (λ (o : Option LostReason). Of (sends o p (ready_at e now))) (sym same_bounds) (bound_case s w (bounds p e) refl)
  going_case s false w = c.nothing s w

  -- an end that isn't open gives nothing but its close
  state_case : (state : State) → e.closing.state ≡ state → Of (polled_in state p e now)
  state_case states.Open s = going_case s (goes (ready_at e now)) refl
  state_case states.Closing s = close_case (with_closing e (ticked e.closing now)) (ap (λ (state : State). given_in state (bounds p e) p e now) s) (c.repeats s)
  state_case states.Drained s = c.silent
  state_case states.Failed s = c.failed

-- what holds in each case holds of a poll, and of what was sent by it
pub by_sends : (p : Policy) (e : End) (now : ℕ) (P : Polled → List Sent → Type 0) → SendsTo p e now P → P (polled p e now) (sent_if (gave (answers.Poll (polled p e now).answer)) (sent_by p e now))
by_sends p e now P c = state_case p e now P c e.closing.state refl
