-- The server that asks its peer, and servers that don't.
use Rattle.std.proofs.Common.{◌≡◌, ℕ, ◌<◌, ◌≤◌, true, false, List, [], ◌∷◌, ◌++◌, Option, Some, None, refl, inl, inr, ap, ◌∙◌, arith}
use Rattle.std.specs.Prelude.{slice_index}
use Rattle.quic_wire_core.specs.declared.shared.EcnCodepoint.TheVariants.{Ect0}
use Rattle.quic_wire_core.specs.declared.stream_id.Side.{Side}
use Rattle.quic_wire_core.specs.declared.stream_id.Side.TheVariants.{Client, Server}
use Rattle.quic_machine.specs.Machine.{World}
use Rattle.quic_machine.specs.RunLaws.{one_run}
use Rattle.quic_headline.specs.Observer.{sents_until}
use Rattle.quic_headline.specs.Headline.{IsHonest}
use Rattle.quic_headline.specs.Expiring.{questions}
use Rattle.quic_headline.specs.Polls.{GaveAsking, IsFull, IsPaced, IsLimited, seen_at}
use Rattle.quic_headline.specs.Validated.{asking}
use Rattle.quic_headline.specs.Challenges.{IsToAsk, ChallengesGo}
use Rattle.quic_headline.proofs.Validated.Goes.{challenges_go}
use Rattle.quic_worked.specs.Acknowledged.{client_acked}
use Rattle.quic_worked.specs.Broken.{IsNoRun}
use Rattle.quic_worked.specs.Machines.{NeverGives}
use Rattle.quic_worked.specs.Held.{gives_nothing}
use Rattle.quic_worked.specs.Paired.{asks_server}
use Rattle.quic_worked.specs.Unvalidated.{once_far, far_run}
use Rattle.quic_worked.specs.Challenged.{unasking_run, unasking_sent, mute_view, mute_run}
use Rattle.quic_worked.proofs.OwnIds.{AreOwn, own_ids}
use Rattle.quic_worked.proofs.BrokenRuns.{IsRefused, behind, stops}
use Rattle.quic_worked.proofs.WorkedKeys.{are_keys}
use Rattle.quic_worked.proofs.UnvalidatedRun.{far_started, far_own, far_is_honest, far_is_run, opens, writes, gives, takes}

-- ---- the machine's run

far_unvalidated : (seen_at far_run Server 4).validated ≡ false
far_unvalidated = refl

far_unasked : (asking far_run Server 4).renewed ≡ true
unfolding client_acked
far_unasked = refl

far_count : (questions far_run Server 4).count ≡ 1
unfolding client_acked
far_count = refl

pub far_due : IsToAsk far_run Server 4
far_due = record { unvalidated = far_unvalidated; unasked = far_unasked; few = (let once = far_count in omega (arith, once)) }

pub far_asked : (asking far_run Server 5).renewed ≡ false
unfolding client_acked
far_asked = refl

pub far_challenges : ChallengesGo far_run
far_challenges = challenges_go far_run (once_far 5) far_is_honest far_is_run

-- ---- a datagram without it

unasking_went : sents_until unasking_run Server 5 ≡ sents_until unasking_run Server 4 ++ unasking_sent ∷ []
unfolding client_acked
unasking_went = refl

gave_unasking : GaveAsking unasking_run Server 4 0
gave_unasking = record { one = record { transmit = record { size = 1200; ecn = Some Ect0; remote = 0 }; poll = record { event = refl; answer = refl }; served = refl; sent = unasking_sent; went = unasking_went }; asks = refl }

unasking_renewed : (asking unasking_run Server 4).renewed ≡ true
unfolding client_acked
unasking_renewed = refl

unasking_count : (questions unasking_run Server 4).count ≡ 1
unfolding client_acked
unasking_count = refl

unasking_due : IsToAsk unasking_run Server 4
unasking_due = record { unvalidated = refl; unasked = unasking_renewed; few = (let once = unasking_count in omega (arith, once)) }

pub unasking_not : ChallengesGo unasking_run → ⊥
unfolding gave_unasking
unasking_not h = (let clash : false ≡ true = h.along Server 4 0 gave_unasking unasking_due in cc)

pub unasking_is_honest : IsHonest unasking_run
unasking_is_honest = record { start = far_started; keys = are_keys; ids = own_ids unasking_run far_own }

-- the first byte of what the first datagram says
abbrev first_type : List (List ℕ) → ℕ
first_type [] = 0
first_type (d ∷ ds) = slice_index d 10

right_type : first_type (once_far 5).from_server ≡ 0x1a
unfolding once_far
right_type = refl

pub never_unasking : NeverGives unasking_run
never_unasking views end is =
    let same = one_run far_run.keys far_run.answers far_run.start far_run.events views far_run.views end (once_far 5) refl is.follows far_is_run.follows in
    let clash : ◌≡◌ {A = ℕ} 0x18 0x1a = ap first_type (is.from_server ∙ ap (λ (w : World). w.from_server) same.1) ∙ right_type in
    omega (arith, clash)

-- ---- nothing

mute_renewed : (asking mute_run Server 5).renewed ≡ true
unfolding client_acked
mute_renewed = refl

mute_count : (questions mute_run Server 5).count ≡ 1
unfolding client_acked
mute_count = refl

mute_due : IsToAsk mute_run Server 5
mute_due = record { unvalidated = refl; unasked = mute_renewed; few = (let once = mute_count in omega (arith, once)) }

mute_full : IsFull mute_run Server 5 mute_view → ⊥
unfolding client_acked
mute_full full = let most : 12000 ≤ 1200 = full in omega (arith, most)

mute_paced : IsPaced mute_run Server 5 mute_view → ⊥
mute_paced paced = let shown : ◌≡◌ {A = Option (Option ℕ)} (Some None) (Some (Some paced.moment)) = paced.shown in cc

mute_limited : IsLimited mute_run Server 5 mute_view → ⊥
unfolding client_acked
mute_limited limited = let full : 3600 < 1200 = limited.full in omega (arith, full)

pub mute_not : ChallengesGo mute_run → ⊥
mute_not h = elim (h.held Server 4 0 mute_view refl (record { poll = record { event = refl; answer = refl }; shown = refl; opened = refl }) mute_due) [
  | inl (inl full) ↦ mute_full full
  | inl (inr paced) ↦ mute_paced paced
  | inr limited ↦ mute_limited limited
]

mute_own : (side : Side) → AreOwn side [] mute_run.events mute_run.answers mute_run.views
mute_own Client = (tt, (inl refl, (tt, (tt, (tt, tt)))))
mute_own Server = (tt, (tt, (tt, (tt, (tt, tt)))))

pub mute_is_honest : IsHonest mute_run
mute_is_honest = record { start = far_started; keys = are_keys; ids = own_ids mute_run mute_own }

mute_no : IsRefused (once_far 4) asks_server gives_nothing
unfolding once_far
mute_no (inl e) = cc
mute_no (inr e) = cc

pub mute_is_none : IsNoRun mute_run
mute_is_none = behind refl opens (behind refl writes (behind refl gives (behind refl takes (stops _ _ _ _ _ mute_no))))
