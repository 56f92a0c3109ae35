-- What opens, what is named, and the numbers that rise, at each place of a run: the clauses that
-- the packets alone give.
use Rattle.std.proofs.Common.{◌≡◌, ℕ, Bool, true, false, List, [], ◌∷◌, ◌++◌, take, length, map, Option, refl, sym, ap, ◌∙◌, subst}
use Rattle.std.specs.Prelude.{◌↔◌, ◌&&◌, not}
use Rattle.std.specs.Option.{is_some}
use Rattle.quic_wire_core.specs.declared.stream_id.Side.{Side}
use Rattle.quic_wire_core.specs.declared.stream_id.Side.TheVariants.{Client, Server}
use Rattle.quic_wire_core.specs.StreamId.{other_side}
use Rattle.quic_wire.specs.Value.{FrameValue, ack}
use Rattle.quic_packet.specs.Datagram.{Opening}
use Rattle.quic_machine.specs.declared.run.Injection.{Injection}
use Rattle.quic_machine.specs.declared.run.Answer.{Answer}
use Rattle.quic_machine.specs.declared.run.Answer.TheVariants as answers
use Rattle.quic_machine.specs.Policy.{Policy, CanOpen}
use Rattle.quic_machine.specs.Ids.{known}
use Rattle.quic_spaces.specs.Numbers.{expected}
use Rattle.quic_machine.specs.Start.{IsLawful}
use Rattle.quic_machine.specs.End.{End}
use Rattle.quic_machine.specs.Opens.{opens, would_open}
use Rattle.quic_machine.specs.Machine.{World, policy_at, says_last, injected_if}
use Rattle.quic_headline.specs.Runs.{Run, Packet, Intake, In, IsTaken, IsNamed, until, given_until, count_given, AreServed, opens_by_key}
use Rattle.quic_headline.specs.Observer.{Sent, Watch, first_watch, frames_opened, watch, took, sents_until, references_until}
use Rattle.quic_headline.specs.Headline.{IsHonest, IsNamedIn, frames_given, Rise, AcknowledgedWereTaken, NamesWereTaken}
use Rattle.quic_headline.proofs.Packets.Invariant.{InStep, IsSent, NameTaken, WereSent}
use Rattle.quic_headline.proofs.Packets.Growth.{step_in}
use Rattle.quic_headline.proofs.Packets.Delivered.{shown_if, expands, by_key_given, frames_of_payload}
use Rattle.quic_headline.proofs.Packets.Rising.{rise}
use Rattle.quic_headline.proofs.Packets.Watching.{watched_intake}
use Rattle.quic_headline.proofs.Packets.Group.{PacketsHold}
use Rattle.quic_headline.proofs.Places.Parties.{Party, came_to, lens}
use Rattle.quic_headline.proofs.Places.Placed.{party_at, Placed, watch_is}
use Rattle.quic_headline.proofs.Packets.ByKey.{counted, opens_from_is}
use Rattle.quic_machine.specs.Migration.{is_foreign}

-- ---- injections

-- whether bytes open is told by the answer
told_by_answer : (p : Policy) (e : End) (injection : Injection) (a : Answer) (b c last : Bool) → b ≡ c → a ≡ injected_if b last p e injection → (a ≡ answers.Opens) ↔ (c ≡ true)
told_by_answer p e injection a true c last same is = (λ told. sym same, λ opened. is)
told_by_answer p e injection a false c last same is = (λ told. cc, λ opened. cc)

-- whether bytes open where an end takes what comes from there, and open by its keys
opens_if : (away : Bool) (o : Option Opening) → is_some (counted (not away) o) ≡ (not away && is_some o)
opens_if true o = refl
opens_if false o = refl

-- an end that expects this number answers by it, and by whether it takes something from there
pub opens_by : (p : Policy) (e : End) (injection : Injection) (a : Answer) (x : ℕ) (away : Bool) → expected e.numbers ≡ x → is_foreign injection.remote e ≡ away → a ≡ injected_if (would_open p e injection.remote injection.bytes) (says_last a) p e injection
    → (a ≡ answers.Opens) ↔ ((not away && is_some (opens p (known e.ids) x injection.bytes)) ≡ true)
opens_by p e injection a x away expects foreign is =
    let d : List ℕ = injection.bytes in
    told_by_answer p e injection a (would_open p e injection.remote d) (not away && is_some (opens p (known e.ids) x d)) (says_last a)
    (ap is_some (opens_from_is p e injection.remote (expected e.numbers) d)
    ∙ ap (λ (n : ℕ). is_some (counted (not (is_foreign injection.remote e)) (opens p (known e.ids) n d))) expects
    ∙ ap (λ (b : Bool). is_some (counted (not b) (opens p (known e.ids) x d))) foreign
    ∙ opens_if away (opens p (known e.ids) x d)) is

-- ---- what ACK frames name

-- what the ACK frames of a datagram name that was given was taken, where its taker has the mates of
-- its giver's keys, whatever number the taker reads it with
names_taken : (p q : Policy) (sents : List Sent) (given : List (List ℕ)) (packets : List Packet) → CanOpen p q → IsLawful p → InStep (IsSent p) sents given → NameTaken sents packets
    → (x number : ℕ) (d : List ℕ) → In d given → IsNamedIn (frames_opened (opens_by_key q x d)) number → IsTaken packets number
names_taken p q sents given packets mates lawful all taken x number d i named =
    by_opening (expands s.number s.reference x) (subst (λ (o : Option Opening). IsNamedIn (frames_opened o) number) (by_key_given p q s.id s.number s.reference s.frames d g mates lawful x) named)
  where
    w : (s : Sent) × In s sents × IsSent p s d
    w = step_in (IsSent p) sents given d all i

    s : Sent
    s = w.0

    g : IsSent p s d
    g = w.2

    by_opening : (b : Bool) → IsNamedIn (frames_opened (shown_if b s.number s.reference g.payload)) number → IsTaken packets number
    by_opening true n = taken s n.frame number w.1 (subst (λ (fs : List FrameValue). In (ack n.frame) fs) (frames_of_payload s.frames g.payload g.spells) n.carried) n.named
    by_opening false n = absurd n.carried

-- what the packets name that were sent so was taken
pub named_taken : (sents : List Sent) (packets theirs : List Packet) → WereSent sents packets → NameTaken sents theirs → (number : ℕ) → IsNamed packets number → IsTaken theirs number
named_taken sents packets theirs sent taken number n =
    let w = sent n.packet n.was_taken in
    taken w.sent n.frame number w.is.0 (subst (λ (frames : List FrameValue). In (ack n.frame) frames) (sym w.frames) n.carried) n.named

-- ---- at a place

take_given : (given rest : List (List ℕ)) (n : ℕ) → length given ≡ n → take n (given ++ rest) ≡ given
take_given [] rest n q = rw (← q) refl
take_given (d ∷ given) rest n q = rw (← q) (ap (λ (ds : List (List ℕ)). d ∷ ds) (take_given given rest (length given) refl))

-- what an end took
pub took_is : (r : Run) → IsHonest r → (w : World) (i : ℕ) (side : Side) (sents theirs : List Sent) → (watch r side i).intake ≡ came_to (party_at r i w side sents) (party_at r i w (other_side side) theirs)
took_is r honest w i side sents theirs =
    let x : Party = party_at r i w side sents in
    let y : Party = party_at r i w (other_side side) theirs in
    ap (λ (v : Watch). v.intake) (watch_is r honest w i side sents theirs) ∙ watched_intake (lens x y) x.told (first_watch x.final x.began x.made.path.remote x.first_rtt x.initial_delay)

-- what the other took
pub took_there : (r : Run) → IsHonest r → (w : World) (i : ℕ) (side : Side) (sents theirs : List Sent) → (watch r (other_side side) i).intake ≡ came_to (party_at r i w (other_side side) theirs) (party_at r i w side sents)
took_there r honest w i Client sents theirs = took_is r honest w i Server theirs sents
took_there r honest w i Server sents theirs = took_is r honest w i Client theirs sents

module _ (r : Run) (end : World) (honest : IsHonest r) (side : Side) (i : ℕ) (at : Placed PacketsHold r end side i) where
  abbrev here : Party
  here = party_at r i at.world side at.sents

  abbrev there : Party
  there = party_at r i at.world (other_side side) at.theirs

  took_here : took r side i ≡ (came_to here there).took
  took_here = ap (λ (j : Intake). j.took) (took_is r honest at.world i side at.sents at.theirs)

  pub took_other : took r (other_side side) i ≡ (came_to there here).took
  took_other = ap (λ (j : Intake). j.took) (took_there r honest at.world i side at.sents at.theirs)

  -- what it gave so far
  pub given_here : given_until r side i ≡ here.given
  given_here =
      let more = at.joined.x_more in
      ap (λ (ds : List (List ℕ)). take (count_given (until r side i)) ds) (sym more.1) ∙ take_given here.given more.0 (count_given (until r side i)) at.gives.count

  -- what an ACK frame that came names, the other took
  pub acknowledged_at : (number : ℕ) → IsNamed (took r side i) number → IsTaken (took r (other_side side) i) number
  acknowledged_at number named =
      subst (λ (packets : List Packet). IsTaken packets number) (sym took_other)
      (named_taken at.theirs (came_to here there).took (came_to there here).took at.takes.taken at.takes.named number (subst (λ (packets : List Packet). IsNamed packets number) took_here named))

  -- what an ACK frame names in a datagram that was given, this end took
  pub named_at : (x number : ℕ) (datagram : List ℕ) → In datagram (given_until r side i) → IsNamedIn (frames_given r side x datagram) number → IsTaken (took r side i) number
  named_at x number datagram was named =
      subst (λ (packets : List Packet). IsTaken packets number) (sym took_here)
      (names_taken here.policy there.policy at.sents here.given (came_to here there).took at.joined.to_y at.joined.x_lawful at.gives.gives.each at.gives.named x number datagram
      (subst (λ (ds : List (List ℕ)). In datagram ds) given_here was) named)

  -- the numbers of what was given rise, where the observer has what was given as it was sent
  pub rises_at : sents_until r side i ≡ at.sents → Rise (policy_at side r.keys) 0 (references_until r side i) (given_until r side i)
  rises_at own =
      subst (λ (ds : List (List ℕ)). Rise here.policy 0 (references_until r side i) ds) (sym given_here)
      (subst (λ (sents : List Sent). Rise here.policy 0 (map (λ s. s.reference) sents) here.given) (sym own) (rise here.policy 0 at.sents here.given at.joined.x_lawful at.gives.gives.rising at.gives.gives.each))

-- ---- the clauses

module _ (r : Run) (end : World) (honest : IsHonest r) (all : (side : Side) (i : ℕ) → AreServed r i → Placed PacketsHold r end side i) where
  pub acknowledged_were_taken : AcknowledgedWereTaken r
  acknowledged_were_taken side i number served = acknowledged_at r end honest side i (all side i served) number

  pub names_were_taken : NamesWereTaken r
  names_were_taken side i x number datagram served = named_at r end honest side i (all side i served) x number datagram
