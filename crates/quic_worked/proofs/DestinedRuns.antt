-- Machines that take one id for another break the clauses, and make no run of the reference
-- machine.
use Rattle.std.proofs.Common.{◌≡◌, ℕ, List, [], ◌∷◌, inl, inr, refl, ap, ◌∙◌, arith}
use Rattle.std.specs.Prelude.{slice_index}
use Rattle.quic_wire_core.specs.declared.stream_id.Side.TheVariants.{Client, Server}
use Rattle.quic_machine.specs.declared.answers.DropReason.TheVariants as drops
use Rattle.quic_machine.specs.declared.answers.Received.TheVariants as receives
use Rattle.quic_machine.specs.declared.run.ReadCall.{ReadCall}
use Rattle.quic_machine.specs.declared.run.Answer.TheVariants as answers
use Rattle.quic_headline.specs.Headline.{IsHonest}
use Rattle.quic_headline.specs.Observer.{sents_until}
use Rattle.quic_headline.specs.ConnectionIds.{IdsAreIssued, UnknownOnlyWhereRetired}
use Rattle.quic_worked.specs.Worked.{started, once_sent, once_taken, client_id, server_id, hello_datagram, delivery, delivers, sending_events, sending_answers, worked_run, run_with}
use Rattle.quic_worked.specs.Broken.{IsNoRun}
use Rattle.quic_worked.specs.Machines.{NeverGives}
use Rattle.quic_worked.specs.Destined.{word_to, sent_to, sent_to_itself, all_unknown}
use Rattle.quic_worked.proofs.BrokenRuns.{IsRefused, behind_sent, stops}
use Rattle.quic_worked.proofs.WrongRuns.{NeverEnds, ends_here, behind_gives}
use Rattle.quic_worked.proofs.OwnIds.{honest}

-- ---- the id to which a datagram goes

pub word_is : word_to server_id ≡ hello_datagram
word_is = refl

pub sent_right : (read : ReadCall) → sents_until (worked_run read) Client 4 ≡ sent_to server_id ∷ []
unfolding once_taken
sent_right read = refl

sent_wrong : (read : ReadCall) → sents_until (sent_to_itself read) Client 4 ≡ sent_to client_id ∷ []
unfolding once_taken
sent_wrong read = refl

-- the server told it of no such id
pub itself_shows : (read : ReadCall) → IdsAreIssued (sent_to_itself read) → ⊥
itself_shows read h =
    let issued = h Client 4 [] [] (sent_to client_id) refl (sent_wrong read) in
    elim issued.told [
      | inl first ↦ (let clash : ◌≡◌ {A = ℕ} 0xc0 0x50 = ap (λ (id : List ℕ). slice_index id 0) first.1 in omega (arith, clash))
      | inr told ↦ absurd told.was_taken
    ]

-- the second byte of the first datagram
abbrev pub second_of : List (List ℕ) → ℕ
second_of [] = 0
second_of (d ∷ ds) = slice_index d 1

right_second : second_of once_sent.from_client ≡ 0x50
unfolding once_sent
right_second = refl

no_other : (word_to client_id ∷ []) ≡ once_sent.from_client → ⊥
no_other e = let clash : ◌≡◌ {A = ℕ} 0xc0 0x50 = ap second_of e ∙ right_second in omega (arith, clash)

not_other : NeverEnds (λ w. (word_to client_id ∷ []) ≡ w.from_client) started sending_events sending_answers
not_other = behind_gives (ends_here no_other)

pub no_itself : (read : ReadCall) → NeverGives (sent_to_itself read)
no_itself read views end is = not_other.never views end is.follows is.from_client

-- ---- a datagram that comes

-- no packet was taken that retires the first id
pub unknown_shows : (read : ReadCall) → UnknownOnlyWhereRetired (run_with read all_unknown) → ⊥
unknown_shows read h = absurd (h Server 4 0 delivery hello_datagram refl refl (record { event = refl; answer = refl }) refl (inl (refl, refl))).was_taken

-- the machine takes it
unknown_no : IsRefused once_sent delivers (answers.Deliver (receives.Dropped drops.UnknownId))
unfolding once_taken
unknown_no (inl e) = cc
unknown_no (inr e) = cc

pub no_unknown : (read : ReadCall) → IsNoRun (run_with read all_unknown)
no_unknown read = behind_sent (stops _ _ _ _ _ unknown_no)

pub itself_is_honest : (read : ReadCall) → IsHonest (sent_to_itself read)
itself_is_honest read = honest (sent_to_itself read) (record { start = refl; keys = refl; client = (tt, (inl refl, (inl refl, (tt, tt)))); server = (tt, (tt, (tt, (tt, tt)))) })

pub unknown_is_honest : (read : ReadCall) → IsHonest (run_with read all_unknown)
unknown_is_honest read = honest (run_with read all_unknown) (record { start = refl; keys = refl; client = (tt, (inl refl, (inl refl, (tt, (tt, (tt, (tt, tt))))))); server = (tt, (tt, (tt, (tt, (tt, (tt, (tt, tt))))))) })
