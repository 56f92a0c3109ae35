-- What an end gives that closes, or is closing: its close, or nothing.
use Rattle.std.proofs.Common.{◌≡◌, Option, Some, None, refl}
use Rattle.quic_wire.specs.Value.{FrameValue}
use Rattle.quic_machine.specs.Policy.{Policy}
use Rattle.quic_machine.specs.End.{End}
use Rattle.quic_machine.specs.Poll.{Polled, gives_nothing, gives_datagram, datagram_of, draft_as, close_to_go, closes_if, closes, after_close}
use Rattle.quic_machine.specs.Poll as poll

-- what holds in either case
pub by_closes : (p : Policy) (e : End) (P : Polled → Type 0) → P (gives_nothing e)
    → ((f : FrameValue) → close_to_go p e ≡ Some f → P (gives_datagram (datagram_of p (draft_as (poll.closing f) e)) (after_close p (draft_as (poll.closing f) e)))) → P (closes p e)
by_closes p e P nothing gives = go (close_to_go p e) refl
  where
    go : (o : Option FrameValue) → close_to_go p e ≡ o → P (closes_if o p e)
    go None is = nothing
    go (Some f) is = gives f is

-- so it is of the end that is left
pub closes_left : (p : Policy) (e : End) (P : End → Type 0) → P e → ((f : FrameValue) → close_to_go p e ≡ Some f → P (after_close p (draft_as (poll.closing f) e))) → P (closes p e).end
closes_left p e P nothing gives = by_closes p e (λ (q : Polled). P q.end) nothing gives
