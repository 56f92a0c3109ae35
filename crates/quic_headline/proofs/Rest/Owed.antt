-- Where an end rests, it owes no acknowledgement: one would be due, or its timer set.
use Rattle.std.proofs.Common.{◌≡◌, ℕ, ◌<◌, ◌⊎◌, Bool, true, false, ◌&&◌, ◌||◌, List, [], ◌∷◌, take, Option, refl, sym, ap, ◌∙◌, subst, inl, inr, arith}
use Rattle.std.specs.Option.{is_some}
use Rattle.quic_wire_core.specs.declared.stream_id.Side.{Side}
use Rattle.quic_wire_core.specs.declared.stream_id.Side.TheVariants.{Client, Server}
use Rattle.quic_wire_core.specs.StreamId.{other_side}
use Rattle.quic_sets.specs.Runs.{Run}
use Rattle.quic_recovery_core.specs.PendingAcks.{is_filled}
use Rattle.quic_machine.specs.End.{End}
use Rattle.quic_machine.specs.Poll.{asks_to_go}
use Rattle.quic_machine.specs.Machine.{World, end_at}
use Rattle.quic_headline.specs.Runs.{Run as Run_of, Packet, Intake, In, IsNamed, folded}
use Rattle.quic_headline.specs.Observer.{Sent, Watch, first_watch, took, sents_until}
use Rattle.quic_headline.specs.Headline.{IsHonest, IsRun}
use Rattle.quic_headline.specs.Rest.{unanswered_told, none_unanswered, HasNothingLeft, NothingOwedAtRest, IsUnacknowledged}
use Rattle.quic_headline.proofs.Packets.Watching.{watched_intake}
use Rattle.quic_headline.proofs.Places.Parties.{Party, came_to, lens}
use Rattle.quic_headline.proofs.Places.Groups.{Way, Nothing, And, Group, both, over}
use Rattle.quic_headline.proofs.Places.Placed.{party_at, Placed, placed, watch_is}
use Rattle.quic_headline.proofs.Places.Everything as everything
use Rattle.quic_headline.proofs.Places.Theorems.{ready}
use Rattle.quic_headline.proofs.Halves.Ready.{Ready}
use Rattle.quic_headline.proofs.Timers.BothEnds.{AtBoth}
use Rattle.quic_headline.proofs.Timers.Watched.{Observed}
use Rattle.quic_headline.proofs.Rest.Quiet.{rest_is_quiet}
use Rattle.quic_headline.proofs.Rest.Awaited.{IsAwaited, acks_awaited_run}
use Rattle.quic_headline.proofs.Rest.Reached.{Reaches, IsKnown}
use Rattle.quic_headline.proofs.Rest.Unanswered.{Owes, Answers, answers_group}

-- all that is known of the packets, and what isn't answered
abbrev pub Known : Way
Known = And (everything.All Ready ready) Answers

pub known : Group Nothing Known
known = both Nothing (everything.All Ready ready) Answers (everything.all Ready ready) (over Observed (And Nothing (everything.All Ready ready)) Answers (λ x y h. (h.1.0.0, h.1.1)) answers_group)

awaited_at : (side : Side) (w : World) → AtBoth IsAwaited w → IsAwaited (end_at side w)
awaited_at Client w both = both.0
awaited_at Server w both = both.1

-- where a number is reached, there is one to acknowledge
filled : (runs : List Run) (n : ℕ) → Reaches runs n → is_filled runs ≡ true
filled [] n reached = absurd reached.1
filled (r ∷ rs) n reached = refl

-- an end that owes one has a number to acknowledge
pub owed_filled : (r : Run_of) (side : Side) (i : ℕ) (p : Packet) → IsUnacknowledged r side i p → (e : End) (sents : List Sent) (packets : List Packet) → sents_until r side i ≡ sents → took r side i ≡ packets → Owes sents packets e p.number → is_filled e.acknowledging.runs ≡ true
owed_filled r side i p owed e sents packets sents_are took_is owes = go owes.reached
  where
    go : IsKnown sents packets p.number ⊎ Reaches e.acknowledging.runs p.number → is_filled e.acknowledging.runs ≡ true
    go (inl known) =
        let above : known.greatest < p.number =
        owed.above known.sent known.greatest (subst (λ (ss : List Sent). In known.sent ss) (sym sents_are) known.among) known.says (subst (λ (ps : List Packet). IsNamed ps known.sent.number) (sym took_is) known.named) in
        let enough = known.enough in
        absurd (omega arith)
    go (inr reached) = filled e.acknowledging.runs p.number reached

-- an end that has nothing left has nothing due
none_due : (due some asks : Bool) → ((due && some) || asks) ≡ false → due ≡ true → some ≡ true → ⊥
none_due true true asks none due some = cc
none_due true false asks none due some = cc
none_due false some asks none due filled = cc

-- so no packet that it counts is reached
not_reached : (e : End) → HasNothingLeft e → IsAwaited e → 0 < e.acknowledging.asking → is_filled e.acknowledging.runs ≡ true → ⊥
not_reached e left awaited some filled = go ((awaited left.is_open).waits some)
  where
    go : (e.acknowledging.due ≡ true) ⊎ (is_some e.timers.max_ack_delay ≡ true) → ⊥
    go (inl due) = none_due e.acknowledging.due (is_filled e.acknowledging.runs) (asks_to_go e) left.nothing_waits due filled
    go (inr set) = (let clash : false ≡ true = sym (ap (λ (o : Option ℕ). is_some o) left.no_ack_timer) ∙ set in cc)

pub nothing_owed_at_rest : (r : Run_of) (end : World) → IsHonest r → IsRun r end → NothingOwedAtRest r
nothing_owed_at_rest r end honest run side i p served room rests owed = not_reached x.end left awaited owes.counted (owed_filled r side i p owed x.end x.sents (came_to x y).took sents_are took_is owes)
  where
    at : Placed Known r end side i
    at = placed Known known r end honest run side i served

    x : Party
    x = party_at r i at.world side at.sents

    y : Party
    y = party_at r i at.world (other_side side) at.theirs

    left : HasNothingLeft x.end
    left = rest_is_quiet r end honest run side i at.world served room rests at.leads

    awaited : IsAwaited x.end
    awaited = awaited_at side at.world (acks_awaited_run r.keys r.start at.world (take i r.events) (take i r.answers) (take i r.views) honest.start at.leads)

    -- the packet is one of those that the observer of the end knows
    since : In p (folded (unanswered_told (lens x y)) x.told (none_unanswered (first_watch x.final x.began x.made.path.remote x.first_rtt x.initial_delay))).packets
    since = owed.since

    owes : Owes x.sents (came_to x y).took x.end p.number
    owes = at.gives.1.owes left.is_open p since

    -- what it gave and took is what the observer of the run knows
    took_is : took r side i ≡ (came_to x y).took
    took_is = ap (λ (w : Watch). w.intake.took) (watch_is r honest at.world i side at.sents at.theirs) ∙ ap (λ (j : Intake). j.took) (watched_intake (lens x y) x.told (first_watch x.final x.began x.made.path.remote x.first_rtt x.initial_delay))

    sents_are : sents_until r side i ≡ x.sents
    sents_are = ap (λ (w : Watch). w.own) (watch_is r honest at.world i side at.sents at.theirs) ∙ at.gives.0.1.own
