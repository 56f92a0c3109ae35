-- Which of the ids that an end told an open one knows at each place of a run, and what is answered
-- and opens there for it.
use Rattle.std.proofs.Common.{◌≡◌, ℕ, Bool, true, false, List, [], ◌∷◌, take, Option, Some, None, Result, Ok, inl, inr, refl, sym, ap, ◌∙◌, subst, Err}
use Rattle.std.specs.Prelude.{slice_get, nat_eq, if◌then◌else◌}
use Rattle.std.specs.Cmp.Lexicographic.{pointwise, bytes_decides}
use Rattle.std.proofs.lemmas.Bool.{or_left, or_right}
use Rattle.quic_wire_core.specs.declared.stream_id.Side.{Side}
use Rattle.quic_wire_core.specs.declared.stream_id.Side.TheVariants.{Client, Server}
use Rattle.quic_wire_core.specs.StreamId.{other_side}
use Rattle.quic_wire.specs.Value.{new_connection_id}
use Rattle.quic_packet.specs.Datagram.{Opening}
use Rattle.quic_packet.specs.Destination.{is_known}
use Rattle.quic_packet.specs.declared.packet.HeaderError.{HeaderError}
use Rattle.quic_machine.specs.Arrival.{Arrival, delivered_by}
use Rattle.quic_machine.specs.declared.answers.State.{State}
use Rattle.quic_machine.specs.declared.answers.State.TheVariants as states
use Rattle.quic_machine.specs.declared.answers.DropReason.TheVariants as drops
use Rattle.quic_machine.specs.declared.answers.Received.TheVariants as receives
use Rattle.quic_machine.specs.declared.run.Delivery.{Delivery}
use Rattle.quic_machine.specs.declared.run.Call.TheVariants as calls
use Rattle.quic_machine.specs.declared.run.Answer.TheVariants as answers
use Rattle.quic_machine.specs.Policy.{Policy}
use Rattle.quic_machine.specs.Ids.{NumberedId, known, own_id}
use Rattle.quic_machine.specs.Start.{IsLawful}
use Rattle.quic_machine.specs.End.{End}
use Rattle.quic_machine.specs.Receive.{opening, headed, received_in, received, opened_as}
use Rattle.quic_machine.specs.Machine.{World, IsDelivered, end_at, policy_at}
use Rattle.quic_machine.specs.RunLaws.{one_run}
use Rattle.quic_headline.specs.Runs.{Run, Packet, Intake, In, AreServed, LeadsTo, state_at, given_of, given_until, is_elsewhere, destination, expected_behind, opens_by_key}
use Rattle.quic_headline.specs.Observer.{Sent, took, sents_until}
use Rattle.quic_headline.specs.Duties.{WasRetired}
use Rattle.quic_headline.specs.Headline.{IsHonest, IsAt, OpensAs, NewestOpens}
use Rattle.quic_headline.specs.ConnectionIds.{Tells, UnknownOnlyWhereRetired, ToldIdsAreKnown, NewestOpensAtEnd, opened_at_end}
use Rattle.quic_headline.proofs.Packets.Invariant.{IsSent}
use Rattle.quic_headline.proofs.Packets.Growth.{get_front, step_at}
use Rattle.quic_headline.proofs.Packets.ByKey.{header, counted, opens_by_id, opened_here}
use Rattle.quic_headline.proofs.Packets.Delivered.{known_as, decoded_given, destination_given}
use Rattle.quic_headline.proofs.Packets.Group.{PacketsHold}
use Rattle.quic_headline.proofs.Packets.Sight.{Sight}
use Rattle.quic_headline.proofs.Places.Parties.{Party}
use Rattle.quic_headline.proofs.Places.Groups.{And}
use Rattle.quic_headline.proofs.Places.Placed.{party_at, Placed, placed_less, answered}
use Rattle.quic_headline.proofs.Places.Openings.{took_is, given_here}
use Rattle.quic_headline.proofs.Places.Flights.{own_at}
use Rattle.quic_headline.proofs.Places.Newest.{stands_both}
use Rattle.quic_headline.proofs.Timers.Watched.{Observed}
use Rattle.quic_headline.proofs.Destined.Sole.{Stays, in_map}
use Rattle.quic_headline.proofs.Destined.Own.{OwnAt, KnowsOwn}
use Rattle.quic_machine.specs.declared.answers.Received.{Received}
use Rattle.quic_machine.specs.Opens.{with_drop}
use Rattle.quic_machine.specs.Migration.{is_foreign}
use Rattle.quic_machine.specs.declared.run.Answer.{Answer}

-- ---- an id that an end has

-- an id that stands in a list is known by it
in_known : (id : List ℕ) (ids : List (List ℕ)) → In id ids → is_known id ids ≡ true
in_known id [] i = absurd i
in_known id (x ∷ xs) (inl is) = or_left (pointwise nat_eq id x) (is_known id xs) ((bytes_decides id x).1 is)
in_known id (x ∷ xs) (inr i) = or_right (pointwise nat_eq id x) (is_known id xs) (in_known id xs i)

-- whether a datagram is answered to be sent to another id
abbrev is_unknown : Received → Bool
is_unknown (receives.Dropped drops.UnknownId) = true
is_unknown a = false

-- so it is of an answer
abbrev unknown_told : Answer → Bool
unknown_told (answers.Deliver a) = is_unknown a
unknown_told a = false

known_here : (a : Received) → is_elsewhere (answers.Deliver a) ≡ false → is_unknown a ≡ false
known_here (receives.Dropped drops.UnknownId) is = cc
known_here a is = refl

-- one that was sent to an id that an end has isn't
sent_here : (p q : Policy) (s : Sent) (d : List ℕ) → IsSent p s d → IsLawful p → (e : End) (arrival : Arrival) → is_known s.id (known e.ids) ≡ true → is_unknown (received q e arrival d).answer ≡ false
sent_here p q s d g lawful e arrival has = go e.closing.state
  where
    for_it : header (known e.ids) d ≡ Ok s.id
    for_it = decoded_given p s.id s.number s.reference s.frames d g lawful (known e.ids) ∙ ap (λ (b : Bool). known_as b s.id) has

    opens : (away : Bool) → is_unknown (headed (if away then Err drops.Address else with_drop (header (known e.ids) d)) q e arrival d).answer ≡ false
    opens true = refl
    opens false = ap (λ (r : Result (List ℕ) HeaderError). is_unknown (headed (with_drop r) q e arrival d).answer) for_it ∙ known_here (opened_as (opening q e d) q arrival e).answer (opened_here (opening q e d) q arrival e)

    go : (state : State) → is_unknown (received_in state q e arrival d).answer ≡ false
    go states.Failed = refl
    go states.Drained = refl
    go states.Open = opens (is_foreign arrival.remote e)
    go states.Closing = opens (is_foreign arrival.remote e)

other_twice : (side : Side) → other_side (other_side side) ≡ side
other_twice Client = refl
other_twice Server = refl

-- ---- at a place

module _ (r : Run) (end : World) (honest : IsHonest r) (side : Side) (i : ℕ) (at : Placed (And Observed KnowsOwn) r end side i) where
  abbrev here : Party
  here = party_at r i at.world side at.sents

  abbrev there : Party
  there = party_at r i at.world (other_side side) at.theirs

  abbrev living : List NumberedId
  living = (end_at side at.world).ids.living

  own_sents : sents_until r side i ≡ at.sents
  own_sents = own_at r end honest side i (placed_less (And Observed KnowsOwn) Sight r end side i (λ x y h. h.0.1) at)

  own_told : state_at r side i ≡ states.Open → OwnAt here.id at.sents (took r side i) here.end
  own_told opened = subst (λ (packets : List Packet). OwnAt here.id at.sents packets here.end) (sym (ap (λ (j : Intake). j.took) (took_is r honest at.world i side at.sents at.theirs))) (at.gives.1.own (at.state ∙ opened))

  -- an id of which an open end told lives, with a token or none, or its number was retired
  told_stays : state_at r side i ≡ states.Open → (number : ℕ) (id : List ℕ) → Tells r side i number id → (token : Option (List ℕ)) × Stays living (WasRetired (took r side i)) (record { number = number; id = id; token = token })
  told_stays opened number id (inl first) =
      let own : here.id ≡ id = sym (first.1 ∙ ap (λ (s : Side). own_id (end_at s r.start).ids.living) (other_twice side)) in
      let stays = subst (λ (bytes : List ℕ). Stays living (WasRetired (took r side i)) (record { number = 0; id = bytes; token = None })) own (own_told opened).first in
      (None, subst (λ (k : ℕ). Stays living (WasRetired (took r side i)) (record { number = k; id = id; token = None })) (sym first.0) stays)
  told_stays opened number id (inr told) =
      let given = told.3 in
      let stays = ((own_told opened).sent given.sent (new_connection_id told.0) (subst (λ (ss : List Sent). In given.sent ss) own_sents given.among) given.carried).0 in
      let token : Option (List ℕ) = Some told.0.token in (
        token,
        subst (λ (bytes : List ℕ). Stays living (WasRetired (took r side i)) (record { number = number; id = bytes; token = token })) told.2
            (subst (λ (k : ℕ). Stays living (WasRetired (took r side i)) (record { number = k; id = told.0.id; token = token })) told.1 stays),
      )

  -- so it is known where that wasn't
  told_known : state_at r side i ≡ states.Open → (number : ℕ) (id : List ℕ) → Tells r side i number id → (WasRetired (took r side i) number → ⊥) → In id (known (end_at side at.world).ids)
  told_known opened number id tells unretired =
      let out = told_stays opened number id tells in
      elim out.1 [
        | inl lives ↦ in_map (λ (k : NumberedId). k.id) (record { number = number; id = id; token = out.0 }) living lives
        | inr gone ↦ absurd (unretired gone)
      ]

  -- a delivery, by whether there is such a datagram
  unknown_here : state_at r side i ≡ states.Open → (delivery : Delivery) (d : List ℕ) (number : ℕ) → slice_get (given_of r (other_side side)) delivery.index ≡ Some d → Tells r side i number (destination d)
      → (o : Option (List ℕ)) → slice_get there.given delivery.index ≡ o → IsDelivered here.policy here.end delivery o (answers.Deliver (receives.Dropped drops.UnknownId)) → WasRetired (took r side i) number
  unknown_here opened delivery d number handed tells None found is = cc
  unknown_here opened delivery d number handed tells (Some given) found (inr is) = cc
  unknown_here opened delivery d number handed tells (Some given) found (inl is) = elim (told_stays opened number (destination d) tells).1 [
    | inl lives ↦ (
        let sent = step_at (IsSent there.policy) at.theirs there.given delivery.index given at.takes.0.0.gives.each found in
        let more = at.joined.y_more in
        let there_too : slice_get there.final delivery.index ≡ Some given = subst (λ (ds : List (List ℕ)). slice_get ds delivery.index ≡ Some given) more.1 (get_front there.given more.0 delivery.index given found) in
        let both : Some d ≡ Some given = sym handed ∙ there_too in
        let same : d ≡ given = cc in
        let to : destination d ≡ sent.0.id = ap destination same ∙ destination_given there.policy sent.0.id sent.0.number sent.0.reference sent.0.frames given sent.2 at.joined.y_lawful in
        let has : is_known sent.0.id (known here.end.ids) ≡ true =
        ap (λ (id : List ℕ). is_known id (known here.end.ids)) (sym to) ∙ in_known (destination d) (known here.end.ids) (in_map (λ (k : NumberedId). k.id) (record { number = number; id = destination d; token = (told_stays opened number (destination d) tells).0 }) living lives) in
        let clash : true ≡ false = ap unknown_told is ∙ sent_here there.policy here.policy sent.0 given sent.2 at.joined.y_lawful here.end (delivered_by false delivery) has in
        cc)
    | inr gone ↦ gone
  ]

  unknown_at : state_at r side i ≡ states.Open → (delivery : Delivery) (d : List ℕ) (number : ℕ) → IsAt r i side (calls.Deliver delivery) (answers.Deliver (receives.Dropped drops.UnknownId)) → slice_get (given_of r (other_side side)) delivery.index ≡ Some d
      → Tells r side i number (destination d) → WasRetired (took r side i) number
  unknown_at opened delivery d number is handed tells =
      unknown_here opened delivery d number handed tells (slice_get there.given delivery.index) refl (answered r at.world end i side (calls.Deliver delivery) (answers.Deliver (receives.Dropped drops.UnknownId)) at.goes_on is)

  -- a datagram that it gave was sent to the id that stands in it
  went_to : (place : ℕ) (d : List ℕ) (s : Sent) → slice_get (given_until r side i) place ≡ Some d → slice_get (sents_until r side i) place ≡ Some s → destination d ≡ s.id
  went_to place d s given sent =
      let found = stands_both (IsSent here.policy) at.sents here.given place s d at.gives.0.0.gives.each
      (subst (λ (ss : List Sent). slice_get ss place ≡ Some s) own_sents sent)
      (subst (λ (ds : List (List ℕ)). slice_get ds place ≡ Some d) (given_here r end honest side i (placed_less (And Observed KnowsOwn) PacketsHold r end side i (λ x y h. h.0.0) at)) given) in
      destination_given here.policy s.id s.number s.reference s.frames d found.1 at.joined.x_lawful

-- ---- the clauses

module _ (r : Run) (end : World) (honest : IsHonest r) (all : (side : Side) (i : ℕ) → AreServed r i → Placed (And Observed KnowsOwn) r end side i) where
  -- the place to which the run leads
  leads_there : (side : Side) (i : ℕ) (w : World) → (served : AreServed r i) → LeadsTo r i w → w ≡ (all side i served).world
  leads_there side i w served leads = (one_run r.keys (take i r.answers) r.start (take i r.events) (take i r.views) (take i r.views) w (all side i served).world served leads (all side i served).leads).1

  pub unknown_only_where_retired : UnknownOnlyWhereRetired r
  unknown_only_where_retired side i number delivery d served opened is handed tells = unknown_at r end honest side i (all side i served) opened delivery d number is handed tells

  pub told_ids_are_known : ToldIdsAreKnown r
  told_ids_are_known side i number id w served leads opened tells unretired =
      subst (λ (v : World). In id (known (end_at side v).ids)) (sym (leads_there side i w served leads)) (told_known r end honest side i (all side i served) opened number id tells unretired)

  -- where those of the datagrams open by their key
  pub newest_opens_at_end : NewestOpens r → NewestOpensAtEnd r
  newest_opens_at_end newest side i place number d s w served leads opened given sent none tells unretired =
      subst (λ (o : Option Opening). OpensAs s o) (sym same) (newest side i place d s served given sent none)
    where
      ids : List (List ℕ)
      ids = known (end_at (other_side side) w).ids

      expected : ℕ
      expected = expected_behind (took r (other_side side) i)

      has : is_known (destination d) ids ≡ true
      has = ap (λ (id : List ℕ). is_known id ids) (went_to r end honest side i (all side i served) place d s given sent)
          ∙ in_known s.id ids (told_ids_are_known (other_side side) i number s.id w served leads opened tells unretired)

      same : opened_at_end r w side i d ≡ opens_by_key (policy_at (other_side side) r.keys) expected d
      same = opens_by_id (policy_at (other_side side) r.keys) ids expected d ∙ ap (λ (b : Bool). counted b (opens_by_key (policy_at (other_side side) r.keys) expected d)) has
