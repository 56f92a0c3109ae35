-- The number of the next request is how many went, up to the greatest that has a number of its own;
-- and an end asks as it was made to, and no request waits at one that isn't to ask.
use Rattle.std.proofs.Common.{◌≡◌, ℕ, min, true, false, ◌||◌, List, [], ◌∷◌, ◌++◌, Option, Some, None, append-nil, refl, sym, ap, ◌∙◌, subst, ◌⊎◌, inl, inr, arith}
use Rattle.std.specs.Prelude.{slice_get}
use Rattle.std.proofs.lemmas.Bool.{or_left, or_right}
use Rattle.std.proofs.lemmas.List.Folds.{list_any-append}
use Rattle.quic_config.specs.Transport.{TransportSettings}
use Rattle.quic_parameters.specs.Parameters.{ParameterValues}
use Rattle.quic_machine.specs.declared.run.Call.{Call}
use Rattle.quic_machine.specs.declared.run.Call.TheVariants as calls
use Rattle.quic_machine.specs.declared.run.Answer.{Answer}
use Rattle.quic_machine.specs.Arrival.{Arrival, delivered_by}
use Rattle.quic_machine.specs.Policy.{Policy}
use Rattle.quic_machine.specs.End.{End}
use Rattle.quic_machine.specs.Poll.{polled, most_requests}
use Rattle.quic_machine.specs.FrameCases.{by_received}
use Rattle.quic_machine.specs.CallCases.{is_poll}
use Rattle.quic_machine.specs.Machine.{IsAnswer, after_delivered, after_call, gave, says_last}
use Rattle.quic_headline.specs.Runs.{Told, says_done, was_said_done}
use Rattle.quic_headline.specs.Observer.{Sent}
use Rattle.quic_headline.specs.Requests.{requests_in, asking_of}
use Rattle.quic_headline.proofs.Packets.Group.{PacketsHold}
use Rattle.quic_headline.proofs.Packets.Stays.{placed_call}
use Rattle.quic_headline.proofs.Places.Groups.{Calls, Group}
use Rattle.quic_headline.proofs.Places.Parties.{sent_by, sent_if, sents_by, told_of, Party, called}
use Rattle.quic_headline.proofs.Places.Steps.{poll_answer}
use Rattle.quic_headline.proofs.Duties.Requests.{Next, frame_next, call_next}
use Rattle.quic_headline.proofs.Requests.Asks.{By, by_of, is_anew, IsToAsk, anew_asks}
use Rattle.quic_headline.proofs.Requests.Drafts.{Goes, goes_none, goes_one, polled_requests, requests_more}
use Rattle.quic_headline.proofs.Requests.Only.{Only, call_only, only_more}
use Rattle.quic_headline.proofs.Packets.Moving.{moved_frequency}

-- As many requests went of x as are counted; it asks as it was made to; and one waits, or goes
-- again if its packet is lost, only where it is to ask, and its peer can be asked; and so does
-- HANDSHAKE_DONE only where its application said that the handshake is done.
pub record Counted (x y : Party) : Type 0 where
  pub next : x.end.frequency.next ≡ min (requests_in x.sents) most_requests
  pub same : asking_of x.end ≡ asking_of x.made
  pub only : Only (IsToAsk (asking_of x.made)) (was_said_done x.told ≡ true) x.end

-- ---- a call

-- a datagram that comes leaves the number of the next
delivered_next : (p : Policy) (e : End) (arrival : Arrival) (o : Option (List ℕ)) → Next e.frequency.next (after_delivered p e arrival o)
delivered_next p e arrival None = refl
delivered_next p e arrival (Some d) = by_received (Next e.frequency.next) (record {
  notes = λ n x i. i;
  begins = λ now n x i. i;
  frame = frame_next e.frequency.next;
  takes = λ n asks urged mark x i. i;
  closes = λ reason x i. i;
  drains = λ close x i. i;
  asks_close = λ x i. i;
  exhausts = λ now x i. i;
  draws = λ words x i. i;
  moves = λ q o remote x i. (moved_frequency q o remote x).next ∙ i;
}) p e arrival d refl

-- so does any call but a poll
other_next : (p : Policy) (e : End) (theirs : List (List ℕ)) (call : Call) (a : Answer) → is_poll call ≡ false → Next e.frequency.next (after_call p e theirs call a)
other_next p e theirs (calls.Deliver delivery) a other = delivered_next p e (delivered_by (says_last a) delivery) (slice_get theirs delivery.index)
other_next p e theirs (calls.Poll now) a other = cc
other_next p e theirs call a other = call_next p e theirs call a refl other

-- no call changes how an end asks
same_asking : (p : Policy) (e : End) (theirs : List (List ℕ)) (call : Call) (a : Answer) → asking_of (after_call p e theirs call a) ≡ asking_of e
same_asking p e theirs call a =
    let placed = placed_call p e theirs call a in
    ap (λ (s : TransportSettings). record { settings = s.ack_frequency_config; least = (after_call p e theirs call a).peer_params.min_ack_delay }) placed.transport
    ∙ ap (λ (s : ParameterValues). record { settings = e.transport.ack_frequency_config; least = s.min_ack_delay }) placed.peer

-- what goes at a poll is counted
polled_next : (e x : End) (now : ℕ) (own ss : List Sent) → e.frequency.next ≡ min (requests_in own) most_requests → Goes e now x ss → x.frequency.next ≡ min (requests_in (own ++ ss)) most_requests
polled_next e x now own ss was (goes_none count same waits) =
    let more = requests_more own ss in
    let next : x.frequency.next ≡ e.frequency.next = ap (λ (b : By). b.next) same in
    omega arith
polled_next e x now own ss was (goes_one count next gone) = let more = requests_more own ss in omega arith

-- the peer is asked anew only where an end is to ask, as it was made to
pub anew_made : (x y : Party) → Counted x y → is_anew (by_of x.end) ≡ true → IsToAsk (asking_of x.made)
anew_made x y i anew = subst IsToAsk i.same (anew_asks (by_of x.end) anew)

-- it was said before, or is by this call
said_more : (told : List Told) (t : Told) → (was_said_done told ≡ true) ⊎ (says_done t.call t.answer ≡ true) → was_said_done (told ++ t ∷ []) ≡ true
said_more told t some = list_any-append (λ (u : Told). says_done u.call u.answer) told (t ∷ []) ∙ go some
  where
    go : (was_said_done told ≡ true) ⊎ (says_done t.call t.answer ≡ true) → (was_said_done told || (says_done t.call t.answer || false)) ≡ true
    go (inl was) = or_left (was_said_done told) (says_done t.call t.answer || false) was
    go (inr now) = or_right (was_said_done told) (says_done t.call t.answer || false) (or_left (says_done t.call t.answer) false now)

-- any call keeps all of it
counted_call : (x y : Party) (call : Call) (a : Answer) → Calls PacketsHold x y call a → Counted x y → Counted (called x y.given call a) y
counted_call x y call a c i = record { next = go call c.answer; same = same_asking x.policy x.end y.given call a ∙ i.same; only = only }
  where
    t : Told
    t = told_of call a x.end.closing.state

    only : Only (IsToAsk (asking_of x.made)) (was_said_done (x.told ++ t ∷ []) ≡ true) (after_call x.policy x.end y.given call a)
    only = call_only (IsToAsk (asking_of x.made)) (was_said_done (x.told ++ t ∷ []) ≡ true) x.policy x.end y.given call a (anew_made x y i) (λ now. said_more x.told t (inr now))
        (only_more (IsToAsk (asking_of x.made)) (was_said_done x.told ≡ true) (was_said_done (x.told ++ t ∷ []) ≡ true) x.end (λ was. said_more x.told t (inl was)) i.only)

    go : (k : Call) → IsAnswer x.policy x.end y.given k a → (after_call x.policy x.end y.given k a).frequency.next ≡ min (requests_in (x.sents ++ sents_by x.policy x.end k a)) most_requests
    go (calls.Poll now) is =
        subst (λ (o : Answer). (polled x.policy x.end now).end.frequency.next ≡ min (requests_in (x.sents ++ sent_if (gave o) (sent_by x.policy x.end now))) most_requests) (sym (poll_answer x.policy x.end now a is c.served))
        (polled_next x.end (polled x.policy x.end now).end now x.sents _ i.next (polled_requests x.policy x.end now c.gives.owes))
    go k is = other_next x.policy x.end y.given k a refl ∙ i.next ∙ ap (λ (ss : List Sent). min (requests_in ss) most_requests) (sym (append-nil x.sents))

-- ---- the group

-- it holds at the start, and stays with each call at either end
pub counted_group : Group PacketsHold Counted
counted_group = record {
  first = λ x y m there back. record { next = refl; same = refl; only = record { waits = ((λ set. cc), λ set. cc); bear = λ q j. absurd j } };
  writer = λ x y call a c i back. counted_call x y call a c i;
  reader = λ x y call a c i back. record { next = back.next; same = back.same; only = back.only };
  shows = λ x y here there b back i j. record { next = i.next; same = i.same; only = record { waits = i.only.waits; bear = i.only.bear } };
}
