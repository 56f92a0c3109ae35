-- How bytes come to an end.
use Rattle.std.proofs.Common.{◌≡◌, ◌≢◌, ℕ, Bool, false, if◌then◌else◌, List, [], Option, Some, None, Result, Ok, Err, refl, ap, subst, ◌∙◌}
use Rattle.std.specs.Prelude.{codes}
use Rattle.quic_wire_core.specs.declared.shared.EcnCodepoint.{EcnCodepoint}
use Rattle.quic_congestion.specs.Congestion.{Told}
use Rattle.quic_congestion.specs.NewReno.{reno_steps}
use Rattle.quic_packet.specs.Datagram.{Opening}
use Rattle.quic_machine.specs.declared.answers.State.{State}
use Rattle.quic_machine.specs.declared.answers.State.TheVariants as states
use Rattle.quic_machine.specs.declared.answers.DropReason.{DropReason}
use Rattle.quic_machine.specs.declared.answers.Received.{Received}
use Rattle.quic_machine.specs.declared.answers.Received.TheVariants as receives_as
use Rattle.quic_machine.specs.Arrival.{Arrival, arriving}
use Rattle.quic_machine.specs.Policy.{Policy}
use Rattle.quic_machine.specs.End.{End, drawing, HasFailed}
use Rattle.quic_machine.specs.Heard.{heard_datagram, is_last}
use Rattle.quic_machine.specs.Migration.{is_there, has_moved}
use Rattle.quic_machine.specs.Opens.{head}
use Rattle.quic_machine.specs.Receive.{opening, received, told_by_state, told_opened_as, told_headed, told_received_in, told_received}
use Rattle.quic_connection_parts.specs.Telling.{taking}
use Rattle.quic_lines.specs.Printed.{received_text}
use Rattle.quic_peer_core.specs.Printed.{line_text}
use Rattle.quic_peer_core.specs.Peer.{Held, policy_at, arrival_at, Receives}

-- what is told of what isn't left out
told_unless : (b : Bool) (x y : List Told) → x ≡ y → (if b then [] else x) ≡ (if b then [] else y)
told_unless b x y same = ap (λ (ts : List Told). if b then [] else ts) same

-- what a controller is told of a packet doesn't hang on whether it is the last that may not open
module _ (p : Policy) (e : End) (now remote : ℕ) (mark : Option EcnCodepoint) (a b : Bool) (d : List ℕ) where
  abbrev comes : Bool → Arrival
  comes last = arriving now remote mark last

  in_state : (s : State) (o : Opening) (x : End) → told_by_state s o (comes a) x ≡ told_by_state s o (comes b) x
  in_state states.Open o x = refl
  in_state states.Closing o x = refl
  in_state states.Drained o x = refl
  in_state states.Failed o x = refl

  of_packet : (o : Option Opening) → told_opened_as o (comes a) e ≡ told_opened_as o (comes b) e
  of_packet None = refl
  of_packet (Some o) = told_unless _ _ _ (in_state e.closing.state o _)

  of_head : (r : Result (List ℕ) DropReason) → told_headed r p e (comes a) d ≡ told_headed r p e (comes b) d
  of_head (Err reason) = refl
  of_head (Ok id) = of_packet (opening p e d)

  at_end : (s : State) → told_received_in s p e (comes a) d ≡ told_received_in s p e (comes b) d
  at_end states.Open = of_head (head e remote d)
  at_end states.Closing = of_head (head e remote d)
  at_end states.Drained = refl
  at_end states.Failed = refl

  pub told-last : told_received p e (comes a) d ≡ told_received p e (comes b) d
  told-last = at_end e.closing.state

-- what an end is left as by bytes that come, where its controller is told of them as of any but the
-- last that may not open
abbrev pub LeftBy : ℕ → ℕ → Option EcnCodepoint → Received → Held → Held → List ℕ → Type 0
LeftBy remote now mark answer old new d =
    let after = (received (policy_at old) old.end (arrival_at old now remote mark) d).end in
    new ≡ drawing new.random (taking reno_steps (λ c. c.window) old (heard_datagram (is_there remote old.end) (has_moved old.end after) d answer old.heard) (told_received (policy_at old) old.end (arriving now remote mark false) d) after)

-- bytes came, and it is told what came of them
pub receives-told : (remote now : ℕ) (mark : Option EcnCodepoint) (bytes d : List ℕ) (answer : Received) (old new : Held) (text : List ℕ) → d ≡ bytes
    → (answer ≢ receives_as.Failed → answer ≡ (received (policy_at old) old.end (arrival_at old now remote mark) d).answer) → (answer ≢ receives_as.Failed → LeftBy remote now mark answer old new d)
    → (answer ≡ receives_as.Failed → HasFailed old new) → text ≡ line_text (codes "receive") (received_text answer) → Receives remote now mark bytes old text new
receives-told remote now mark bytes d answer old new text same is left failed line = record {
  answer = answer;
  is_answer = λ stands. is stands ∙ ap (λ (x : List ℕ). (received (policy_at old) old.end (arrival_at old now remote mark) x).answer) same;
  left = λ stands.
      let after = (received (policy_at old) old.end (arrival_at old now remote mark) bytes).end in
      let here : LeftBy remote now mark answer old new bytes = subst (λ (x : List ℕ). LeftBy remote now mark answer old new x) same (left stands) in
      subst (λ (ts : List Told). new ≡ drawing new.random (taking reno_steps (λ c. c.window) old (heard_datagram (is_there remote old.end) (has_moved old.end after) bytes answer old.heard) ts after)) (told-last (policy_at old) old.end now remote mark false (is_last (policy_at old).openings old.heard) bytes) here;
  failed = failed;
  line = line;
}
