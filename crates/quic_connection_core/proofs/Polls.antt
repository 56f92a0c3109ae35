-- What a poll comes to, case by case, and what an end draws from its random source where it gives a
-- datagram.
use Rattle.std.proofs.Common.{◌≡◌, ◌⊎◌, ℕ, ◌-◌, ◌≤◌, ◌<◌, ◌^◌, ◌&&◌, [], Bool, true, false, Option, Some, None, inl, inr, refl, sym, ap, subst, ◌∙◌, arith}
use Rattle.std.specs.Prelude.{◌==◌, IsSome, not, if◌then◌else◌}
use Rattle.std.specs.Option.{is_none}
use Rattle.quic_wire.specs.Value.{FrameValue}
use Rattle.std.proofs.lemmas.Bool.{or_parts, and_parts, eqb-true}
use Rattle.quic_packet.specs.Keys.{Protection, Aead}
use Rattle.quic_recovery_core.specs.PendingAcks.{can_send}
use Rattle.quic_machine.specs.declared.answers.State.{State}
use Rattle.quic_machine.specs.declared.answers.State.TheVariants as states
use Rattle.quic_machine.specs.declared.answers.LostReason.{LostReason}
use Rattle.quic_machine.specs.declared.answers.LostReason.TheVariants as reasons
use Rattle.quic_machine.specs.Reasons.{text_len}
use Rattle.quic_spaces.specs.Numbers.{can_number}
use Rattle.quic_machine.specs.Policy.{Policy, keys_policy}
use Rattle.quic_machine.specs.Parts.{current_mtu}
use Rattle.quic_machine.specs.Tracking.{Tracking}
use Rattle.quic_machine.specs.Closing.{ticked}
use Rattle.quic_machine.specs.End.{End, ConnectionValue, with_end, with_closing, most_payload, policy_of, closed_by, words_drawn}
use Rattle.quic_machine.specs.Control.{is_window_full, pacer_asked, Gated, lets, holds, with_pacing_timer}
use Rattle.quic_machine.specs.Poll.{Polled, gives_nothing, gives_datagram, datagram_of, after_given, bounds, may_seal, close_to_go, closes_if, closes, probed, request_queued, asks_to_go, is_gated, gated, probe, most_of, Ready, leaves, leaves_unless, goes, goes_as, draft_left, draft_of, rests, sends, polled_if, polled_in, polled, told_polled_in, told_polled, told_if, told_draft, waits, IsSilent}
use Rattle.quic_machine.specs.Poll as poll
use Rattle.quic_machine.specs.DraftLaws.{MayGo, MayLeave, ordinary_within}
use Rattle.quic_connection_parts.specs.declared.leaving.Leaving.{Leaving}
use Rattle.quic_connection_parts.specs.declared.leaving.Leaving.TheVariants.{Whole, Alone, Probe}
use Rattle.quic_connection_parts.specs.Leaving.{leaving_of, Leaves, rested_if, rested, IsLooked}
use Rattle.quic_congestion.specs.Search.{Discovery}
use Rattle.quic_congestion.specs.SearchBounds.{IsSized}
use Rattle.quic_congestion.proofs.SizedSearch.{named_sized}
use Rattle.quic_machine.specs.PollCases.{ready_at, draft_at, ready_leaves, may_leave_at, request_leaves, gate_leaves, by_gate, by_leaves, by_ready}
use Rattle.quic_machine.specs.Lacking.{GivesOrHasFailed, PollTakes}
use Rattle.quic_connection_core.proofs.Plain.{same_words}
use Rattle.quic_connection_core.proofs.Moved.{readied_probes}

-- ---- closes

-- an end gives its close where there is one to go
pub close_gives : (p : Policy) (e : End) → IsSome (close_to_go p e) → GivesOrHasFailed (closes p e).answer
close_gives p e = go (close_to_go p e)
  where
    go : (o : Option FrameValue) → IsSome o → GivesOrHasFailed (closes_if o p e).answer
    go None some = let clash : ◌≡◌ {A = Bool} false true = some in absurd cc
    go (Some f) some = tt

-- and is as open as it was
pub close_keeps : (p : Policy) (e : End) → (closes p e).end.closing.state ≡ e.closing.state
close_keeps p e = go (close_to_go p e)
  where
    go : (o : Option FrameValue) → (closes_if o p e).end.closing.state ≡ e.closing.state
    go None = refl
    go (Some f) = refl

-- nothing else is said where an end closes for want of numbers or seals
pub bound_text : (p : Policy) (e : End) (reason : LostReason) → bounds p e ≡ Some reason → text_len reason ≡ 0
bound_text p e reason = go (can_number e.numbers) (may_seal p e)
  where
    go : (numbered sealed : Bool) → (if not numbered then Some reasons.NumberLimit else (if not sealed then Some reasons.KeyLimit else None)) ≡ Some reason → text_len reason ≡ 0
    go true true is = absurd cc
    go true false is = let same : reasons.KeyLimit ≡ reason = cc in subst (λ (r : LostReason). text_len r ≡ 0) same refl
    go false sealed is = let same : reasons.NumberLimit ≡ reason = cc in subst (λ (r : LostReason). text_len r ≡ 0) same refl

-- ---- cases of an open end

module _ (p : Policy) (e : End) (now : ℕ) (open_end : e.closing.state ≡ states.Open) where
  -- nothing goes
  pub polled_idle : goes (ready_at e now) ≡ false → polled p e now ≡ gives_nothing (rests (ready_at e now))
  polled_idle none = ap (λ (s : State). polled_in s p e now) open_end ∙ ap (λ b. polled_if b p (ready_at e now)) none

  -- numbers or the key are used up
  pub polled_closes : (reason : LostReason) → goes (ready_at e now) ≡ true → bounds p (ready_at e now).end ≡ Some reason → polled p e now ≡ closes p (closed_by reason (ready_at e now).end)
  polled_closes reason some used_up = ap (λ (s : State). polled_in s p e now) open_end ∙ ap (λ b. polled_if b p (ready_at e now)) some ∙ ap (λ o. sends o p (ready_at e now)) used_up

  -- what waits goes
  pub polled_gives : goes (ready_at e now) ≡ true → bounds p (ready_at e now).end ≡ None → polled p e now ≡ gives_datagram (datagram_of p (draft_at e now)) (after_given p (draft_at e now))
  polled_gives some can = ap (λ (s : State). polled_in s p e now) open_end ∙ ap (λ b. polled_if b p (ready_at e now)) some ∙ ap (λ o. sends o p (ready_at e now)) can

  -- where it doesn't, memory lacks
  pub gives_takes : goes (ready_at e now) ≡ true → bounds p (ready_at e now).end ≡ None → PollTakes p e now
  gives_takes some can = inl (subst (λ (x : Polled). GivesOrHasFailed x.answer) (sym (polled_gives some can)) tt)

  -- so it is of a close
  pub closes_takes : (reason : LostReason) → goes (ready_at e now) ≡ true → bounds p (ready_at e now).end ≡ Some reason → IsSome (close_to_go p (closed_by reason (ready_at e now).end)) → PollTakes p e now
  closes_takes reason some used_up goes = inl (subst (λ (x : Polled). GivesOrHasFailed x.answer) (sym (polled_closes reason some used_up)) (close_gives p (closed_by reason (ready_at e now).end) goes))

-- an end that is closing gives its close
module _ (p : Policy) (e : End) (now : ℕ) (is : e.closing.state ≡ states.Closing) where
  pub polled_repeats : polled p e now ≡ closes p (with_closing e (ticked e.closing now))
  polled_repeats = ap (λ (s : State). polled_in s p e now) is

-- ---- words of the random source

-- an end that is made ready draws none
pub ready_words : (e : End) (now : ℕ) → words_drawn (ready_at e now).end ≡ words_drawn e
ready_words e now = ap (λ (y : End). words_drawn y) (ready_leaves e now)

-- an end that drew as many words has the same policy
pub same_policy : {H K R C : Type 0} (protection : H → Protection) (aead : K → Aead) (seals openings : K → ℕ) (words : R → ℕ → ℕ) (w : ConnectionValue H K R C) (e : End) → words_drawn e ≡ words_drawn w.end
    → policy_of protection aead seals openings words (with_end w e) ≡ policy_of protection aead seals openings words w
same_policy protection aead seals openings words w e same = ap (λ (k : ℕ). keys_policy protection aead seals openings w.keys (λ n. words w.random (n - k))) same

-- the next word is the first that it answers
pub word_is : {R : Type 0} (words : R → ℕ → ℕ) (r : R) (l : poll.Leaving) (e : End) → MayGo l e → words r (words_drawn (draft_left l e).end - words_drawn e) ≡ words r 0
word_is words r l e due = ap (λ (k : ℕ). words r k) (let same = same_words l e due in let none : words_drawn (draft_left l e).end - words_drawn e ≡ 0 = omega (arith, same) in none)

-- ---- an open end that is ready to give

-- something that leaves goes
goes_on : (l : Leaving) → goes_as (leaving_of l) ≡ true
goes_on Whole = refl
goes_on Alone = refl
goes_on (Probe size) = refl

-- a probe that goes has no less than the size of the path, and no more than a bound of the search
ready_looked : (least most : ℕ) (e : End) (now size : ℕ) → IsSized least most e.path.discovery → (ready_at e now).leaving ≡ probe size → (current_mtu (ready_at e now).end.path ≤ size) × (size ≤ most)
ready_looked least most e now size sized = by_ready (request_queued (probed x)) (λ (r : Ready). r.leaving ≡ probe size → (current_mtu r.end.path ≤ size) × (size ≤ most)) (λ blocked is. cc) (λ unblocked. record {
  acks = λ held due is. cc;
  held = λ held none is. cc;
  all = λ free some is. cc;
  idle = λ free none is. cc;
  asked = λ free none is. cc;
  probes = λ n free none may named is. (let same : n ≡ size = cc in let both = named_sized least most g.end.path.discovery g.end.closing.clock n stays named in let low = both.0 in let high = both.1 in (omega (arith, low, same), omega (arith, high, same)));
})
  where
    x : End
    x = with_pacing_timer (with_closing e (ticked e.closing now)) None

    g : Gated
    g = gated (request_queued (probed x))

    stays : IsSized least most g.end.path.discovery
    stays = subst (λ (d : Discovery). IsSized least most d) (sym (ap (λ (y : End). y.path.discovery) (gate_leaves (request_queued (probed x))) ∙ ap (λ (y : End). y.path.discovery) (request_leaves x))) sized

-- an end that is made ready has the size of its path
ready_sized : (least most : ℕ) (e : End) (now : ℕ) → IsSized least most e.path.discovery → current_mtu (ready_at e now).end.path ≤ most
ready_sized least most e now sized = by_ready (request_queued (probed x)) (λ (r : Ready). current_mtu r.end.path ≤ most) (λ blocked. subst (λ (d : Discovery). d.size ≤ most) (sym (ap (λ (y : End). y.path.discovery) (request_leaves x))) sized.size) (λ unblocked. record {
  acks = λ held due. stays;
  held = λ held none. stays;
  all = λ free some. stays;
  idle = λ free none. stays;
  asked = λ free none. stays;
  probes = λ size free none may named. stays;
})
  where
    x : End
    x = with_pacing_timer (with_closing e (ticked e.closing now)) None

    stays : current_mtu (gated (request_queued (probed x))).end.path ≤ most
    stays = subst (λ (d : Discovery). d.size ≤ most) (sym (ap (λ (y : End). y.path.discovery) (gate_leaves (request_queued (probed x))) ∙ ap (λ (y : End). y.path.discovery) (request_leaves x))) sized.size

-- a datagram has fewer bytes than 16 bits count
pub few_bytes : (l : Leaving) (e : End) → current_mtu e.path < 2 ^ 16 → IsLooked l e → most_of (leaving_of l) e < 2 ^ 16
few_bytes Whole e few looked = let within = ordinary_within e in omega (arith, few, within)
few_bytes Alone e few looked = let within = ordinary_within e in omega (arith, few, within)
few_bytes (Probe n) e few looked = let most = (looked n refl).1 in omega (arith, few, most)

within_payload : (l : Leaving) (e : End) (size : ℕ) → current_mtu e.path ≤ most_payload → IsLooked l e → size ≤ most_of (leaving_of l) e → size ≤ most_payload
within_payload Whole e size few looked within = let most = ordinary_within e in omega (arith, few, within, most)
within_payload Alone e size few looked within = let most = ordinary_within e in omega (arith, few, within, most)
within_payload (Probe n) e size few looked within = let most = (looked n refl).1 in omega (arith, few, within, most)

module _ {H K R C : Type 0} (w z : ConnectionValue H K R C) (now : ℕ) (left : z ≡ with_end w (rested (ready_at w.end now))) where
  abbrev G : Ready
  G = ready_at w.end now

  -- nothing leaves
  pub none_left : goes G ≡ false → z ≡ with_end w (rests G)
  none_left none = left ∙ ap (λ (b : Bool). with_end w (rested_if b G)) none

  module _ (l : Leaving) (leaves_so : Leaves (Some l) G.leaving) where
    pub some_goes : goes G ≡ true
    some_goes = ap goes_as leaves_so ∙ goes_on l

    pub some_left : z ≡ with_end w G.end
    some_left = left ∙ ap (λ (b : Bool). with_end w (rested_if b G)) some_goes

    pub some_is : ◌≡◌ {A = Ready} (record { leaving = leaving_of l; end = z.end }) G
    some_is = ap (λ (x : ConnectionValue H K R C). record { leaving = leaving_of l; end = x.end }) some_left ∙ ap (λ (k : poll.Leaving). record G { leaving = k }) (sym leaves_so)

    -- where an ACK goes alone, it is due
    pub some_due : MayLeave (leaving_of l) z.end
    some_due = subst (λ (r : Ready). MayLeave r.leaving r.end) (sym some_is) (may_leave_at w.end now)

    -- a probe has a size that a datagram may have
    pub some_looked : (most : ℕ) → most ≤ most_payload → IsSized 1200 most w.end.path.discovery → IsLooked l z.end
    some_looked most few sized size is =
        let looked = ready_looked 1200 most w.end now size sized (leaves_so ∙ is) in
        let same : current_mtu z.end.path ≡ current_mtu G.end.path = ap (λ (x : ConnectionValue H K R C). current_mtu x.end.path) some_left in
        let low = looked.0 in
        let high = looked.1 in
        (omega (arith, same, low), omega (arith, high, few))

    -- no datagram of it has more bytes than a UDP payload may have
    pub some_within : (most : ℕ) → most ≤ most_payload → IsSized 1200 most w.end.path.discovery → (size : ℕ) → size ≤ most_of (leaving_of l) z.end → size ≤ most_payload
    some_within most few sized size within =
        let sizes = ready_sized 1200 most w.end now sized in
        let same : current_mtu z.end.path ≡ current_mtu G.end.path = ap (λ (x : ConnectionValue H K R C). current_mtu x.end.path) some_left in
        within_payload l z.end size (omega (arith, sizes, same, few)) (some_looked most few sized) within

-- ---- where nothing goes

-- an end that gives nothing has nothing to send but what is held back
pub silent_rests : (e : End) (now : ℕ) → goes (ready_at e now) ≡ false → IsSilent (rests (ready_at e now))
silent_rests e now = go y.path.blocked refl
  where
    x : End
    x = with_pacing_timer (with_closing e (ticked e.closing now)) None

    y : End
    y = request_queued (probed x)

    Rests : Ready → Type 0
    Rests r = goes r ≡ false → IsSilent (rests r)

    no_probe : is_gated y ≡ true → y.tracking.probes ≡ 0
    no_probe asks = eqb-true y.tracking.probes 0 (and_parts (asks_to_go y) (y.tracking.probes == 0) asks).1

    -- nothing waits
    silent : (z : End) → waits z ≡ false → z.tracking.probes ≡ 0 → IsSilent z
    silent z none probes =
        let parts = or_parts (can_send z.acknowledging) (asks_to_go z) none in
        record { no_ack = λ free. parts.0; no_probe = λ free. probes; held = λ free asks. absurd (let both : true ≡ false = sym asks ∙ parts.1 in cc) }

    free_rests : (z : End) → (waits z ≡ false → z.tracking.probes ≡ 0) → Rests (leaves (lets z))
    free_rests z probes = by_leaves (lets z) Rests (record {
      acks = λ held. cc;
      held = λ held. cc;
      all = λ free some none. cc;
      idle = λ free none went. (let s = silent z none (probes none) in record { no_ack = s.no_ack; no_probe = s.no_probe; held = s.held });
      asked = λ free none went. (let s = silent z none (probes none) in record { no_ack = s.no_ack; no_probe = s.no_probe; held = s.held });
      probes = λ size free none may named went. cc;
    })

    held_rests : (v : End) → is_gated v ≡ true → (z : End) → z.tracking ≡ v.tracking → z.acknowledging ≡ v.acknowledging → (asks_to_go z ≡ true → (is_window_full z ≡ true) ⊎ IsSome z.timers.pacing) → Rests (leaves (holds z))
    held_rests v gate z same acks held = by_leaves (holds z) Rests (record {
      acks = λ h due none. cc;
      held = λ h none went. record { no_ack = λ free. none; no_probe = λ free. ap (λ (t : Tracking). t.probes) same ∙ eqb-true v.tracking.probes 0 (and_parts (asks_to_go v) (v.tracking.probes == 0) gate).1; held = λ free. held };
      all = λ free. cc;
      idle = λ free. cc;
      asked = λ free. cc;
      probes = λ size free. cc;
    })

    gates : Rests (leaves (gated y))
    gates = by_gate y (λ (g : Gated). Rests (leaves g)) (record {
      free = λ is. free_rests y (λ none. readied_probes x none);
      full = λ gate is. held_rests y gate y refl refl (λ asks. inl is);
      lets = λ gate room until. free_rests (pacer_asked y) (λ none. no_probe gate);
      holds = λ moment gate room until. held_rests y gate (with_pacing_timer (pacer_asked y) (Some moment)) refl refl (λ asks. inr refl);
    })

    -- where three times what came went, nothing is said of what waits
    go : (b : Bool) → y.path.blocked ≡ b → Rests (leaves_unless b y)
    go true is none = record { no_ack = λ free. absurd (let both : true ≡ false = sym is ∙ free in cc); no_probe = λ free. absurd (let both : true ≡ false = sym is ∙ free in cc); held = λ free. absurd (let both : true ≡ false = sym is ∙ free in cc) }
    go false is none = gates none

-- ---- its policy

module _ {H K R C : Type 0} (protection : H → Protection) (aead : K → Aead) (seals openings : K → ℕ) (words : R → ℕ → ℕ) (w z : ConnectionValue H K R C) (now : ℕ) (is : z ≡ with_end w (ready_at w.end now).end) where
  -- what the keys do, and which words come
  abbrev as_policy : ConnectionValue H K R C → Policy
  as_policy x = policy_of protection aead seals openings words x

  pub drawn_still : words_drawn z.end ≡ words_drawn w.end
  drawn_still = ap (λ (x : ConnectionValue H K R C). words_drawn x.end) is ∙ ready_words w.end now

  pub ready_policy : as_policy z ≡ as_policy w
  ready_policy = ap (λ (x : ConnectionValue H K R C). as_policy x) is ∙ same_policy protection aead seals openings words w (ready_at w.end now).end (ready_words w.end now)

  -- numbers and key are as they were
  pub ready_bounds : (o : Option LostReason) → bounds (as_policy z) z.end ≡ o → bounds (as_policy w) (ready_at w.end now).end ≡ o
  ready_bounds o bound = ap (λ (p : Policy). bounds p (ready_at w.end now).end) (sym ready_policy) ∙ ap (λ (x : ConnectionValue H K R C). bounds (as_policy z) x.end) (sym is) ∙ bound

  -- an end that closes for want of them gives its close
  module _ (reason : LostReason) (y : ConnectionValue H K R C) (closed : y ≡ with_end z (closed_by reason z.end)) where
    pub closed_is : y ≡ with_end w (closed_by reason (ready_at w.end now).end)
    closed_is = closed ∙ ap (λ (x : ConnectionValue H K R C). with_end x (closed_by reason x.end)) is

    pub closed_policy : as_policy y ≡ as_policy w
    closed_policy = ap (λ (x : ConnectionValue H K R C). as_policy x) closed_is ∙ same_policy protection aead seals openings words w (closed_by reason (ready_at w.end now).end) (ready_words w.end now)

    pub closed_words : words_drawn y.end ≡ words_drawn w.end
    closed_words = ap (λ (x : ConnectionValue H K R C). words_drawn x.end) closed_is ∙ ready_words w.end now

    pub closed_goes : close_to_go (as_policy y) y.end ≡ close_to_go (as_policy w) (closed_by reason (ready_at w.end now).end)
    closed_goes = ap (λ (p : Policy). close_to_go p y.end) closed_policy ∙ ap (λ (x : ConnectionValue H K R C). close_to_go (as_policy w) x.end) closed_is

    closes_same : closes (as_policy y) y.end ≡ closes (as_policy w) (closed_by reason (ready_at w.end now).end)
    closes_same = ap (λ (p : Policy). closes p y.end) closed_policy ∙ ap (λ (x : ConnectionValue H K R C). closes (as_policy w) x.end) closed_is

    module _ (opened : w.end.closing.state ≡ states.Open) (some : goes (ready_at w.end now) ≡ true) (bound : bounds (as_policy z) z.end ≡ Some reason) where
      pub ready_closes : polled (as_policy w) w.end now ≡ closes (as_policy y) y.end
      ready_closes = polled_closes (as_policy w) w.end now opened reason some (ready_bounds (Some reason) bound) ∙ sym closes_same

      pub ready_close_takes : IsSome (close_to_go (as_policy y) y.end) → PollTakes (as_policy w) w.end now
      ready_close_takes goes = closes_takes (as_policy w) w.end now opened reason some (ready_bounds (Some reason) bound) (subst IsSome closed_goes goes)

  -- what it comes to where something goes and numbers are left
  abbrev given : Policy → Ready → Polled
  given p g = gives_datagram (datagram_of p (draft_of g)) (after_given p (draft_of g))

  module _ (l : Leaving) (same : ◌≡◌ {A = Ready} (record { leaving = leaving_of l; end = z.end }) (ready_at w.end now)) (opened : w.end.closing.state ≡ states.Open) (some : goes (ready_at w.end now) ≡ true) (can : bounds (as_policy z) z.end ≡ None) where
    pub ready_gives : polled (as_policy w) w.end now ≡ given (as_policy z) (record { leaving = leaving_of l; end = z.end })
    ready_gives =
        polled_gives (as_policy w) w.end now opened some (ready_bounds None can)
        ∙ ap (λ (p : Policy). given p (ready_at w.end now)) (sym ready_policy)
        ∙ ap (given (as_policy z)) (sym same)

    pub ready_takes : PollTakes (as_policy w) w.end now
    ready_takes = gives_takes (as_policy w) w.end now opened some (ready_bounds None can)

    -- and the controller is told of it
    pub ready_tells : told_polled (as_policy w) w.end now ≡ told_draft (draft_of (record { leaving = leaving_of l; end = z.end }))
    ready_tells =
        ap (λ (s : State). told_polled_in s (as_policy w) w.end now) opened
        ∙ ap (λ (b : Bool). told_if (b && is_none (bounds (as_policy w) (ready_at w.end now).end)) (ready_at w.end now)) some
        ∙ ap (λ (o : Option LostReason). told_if (is_none o) (ready_at w.end now)) (ready_bounds None can)
        ∙ ap (λ (g : Ready). told_draft (draft_of g)) (sym same)

-- of a poll that gives nothing but a close it is told nothing
pub none_told : (p : Policy) (e : End) (now : ℕ) → e.closing.state ≡ states.Open → goes (ready_at e now) && is_none (bounds p (ready_at e now).end) ≡ false → told_polled p e now ≡ []
none_told p e now opened none = ap (λ (s : State). told_polled_in s p e now) opened ∙ ap (λ (b : Bool). told_if b (ready_at e now)) none
