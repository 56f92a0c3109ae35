-- Machines that don't follow a peer that moves, follow it only in part, or give more than may go
-- there.
use Rattle.std.proofs.Common.{◌≡◌, ◌⊎◌, ℕ, true, false, List, [], ◌∷◌, replicate, Some, Ok, refl, inl, inr, ap, ◌∙◌, subst, arith}
use Rattle.quic_wire_core.specs.declared.stream_id.Side.TheVariants.{Server}
use Rattle.quic_wire.specs.Value.{path_response}
use Rattle.quic_machine.specs.declared.run.Answer.TheVariants as answers
use Rattle.quic_machine.specs.declared.run.Answer.{Answer}
use Rattle.quic_machine.specs.Poll.{polled}
use Rattle.quic_machine.specs.Machine.{IsStep, end_met}
use Rattle.quic_headline.specs.Runs.{Packet, In}
use Rattle.quic_headline.specs.Observer.{watch, news, peer_address, path_changes}
use Rattle.quic_headline.specs.Allowance.{bytes_handed, bytes_given}
use Rattle.quic_headline.specs.Threefold.{Threefold}
use Rattle.quic_headline.specs.Moves.{GoesToPath, PathChangesExactly}
use Rattle.quic_headline.specs.Polls.{seen_at}
use Rattle.quic_headline.specs.Validated.{AnswerCame}
use Rattle.quic_headline.specs.Headline.{IsHonest}
use Rattle.quic_worked.specs.Worked.{worked_policies, gives_bytes}
use Rattle.quic_worked.specs.Acknowledged.{client_acked}
use Rattle.quic_worked.specs.Broken.{IsNoRun}
use Rattle.quic_worked.specs.Paired.{asks_server}
use Rattle.quic_worked.specs.Unvalidated.{server_closes, asks_state, tells_state}
use Rattle.quic_worked.specs.Migrated.{injects_from, no_fixed_bit, gives_to, once_migrated, ping_packet, inherits_received, counts_strays, once_strayed_bytes, never_migrates, answers_old_address, closes_to_old_address, once_closed_there}
use Rattle.quic_worked.proofs.OwnIds.{honest_steady}
use Rattle.quic_worked.proofs.BrokenRuns.{IsRefused, behind, stops}
use Rattle.quic_worked.proofs.MigratedRun.{step_0, step_1, step_2, step_3, step_4, step_5, step_6, step_7, step_8, step_9, step_10}
use Rattle.quic_worked.proofs.Steps.{StepsSo, steps_so}

-- ---- the bytes of the old address count for the new one

inherited_handed : bytes_handed inherits_received Server 10 ≡ 29
unfolding client_acked
inherited_handed = refl

inherited_given : bytes_given inherits_received Server 10 ≡ 1200
unfolding client_acked
inherited_given = refl

pub inherits_wrong : Threefold inherits_received → ⊥
inherits_wrong h =
    let most = h Server 10 refl refl in
    let came = inherited_handed in
    let gone = inherited_given in
    omega (arith, most, came, gone)

pub inherits_is_honest : IsHonest inherits_received
inherits_is_honest = honest_steady inherits_received (record { start = refl; keys = refl; client = (tt, (inl refl, (tt, (tt, (tt, (tt, (tt, (tt, (tt, (tt, tt)))))))))); server = (tt, (tt, (tt, (tt, (tt, (tt, (tt, (tt, (tt, (tt, tt)))))))))) })

blocked_no : IsRefused (once_migrated 9) asks_server (gives_to 9 1200)
unfolding client_acked
blocked_no (inl e) = cc
blocked_no (inr e) = cc

pub inherits_is_none : IsNoRun inherits_received
inherits_is_none = behind refl step_0 (behind refl step_1 (behind refl step_2 (behind refl step_3 (behind refl step_4 (behind refl step_5 (behind refl step_6 (behind refl step_7 (behind refl step_8 (stops _ _ _ _ _ blocked_no)))))))))

-- ---- bytes from elsewhere count for it

strays_handed : bytes_handed counts_strays Server 12 ≡ 29
unfolding client_acked
strays_handed = refl

strays_given : bytes_given counts_strays Server 12 ≡ 1200
unfolding client_acked
strays_given = refl

pub strays_wrong : Threefold counts_strays → ⊥
strays_wrong h =
    let most = h Server 12 refl refl in
    let came = strays_handed in
    let gone = strays_given in
    omega (arith, most, came, gone)

pub strays_is_honest : IsHonest counts_strays
strays_is_honest = honest_steady counts_strays (record { start = refl; keys = refl; client = (tt, (inl refl, (tt, (tt, (tt, (tt, (tt, (tt, (tt, (tt, (tt, (tt, tt)))))))))))); server = (tt, (tt, (tt, (tt, (tt, (tt, (tt, (tt, (tt, (tt, (tt, (tt, tt)))))))))))) })

strays_step : IsStep worked_policies (once_migrated 10) (injects_from Server 0 (replicate 371 0x00)) no_fixed_bit once_strayed_bytes
unfolding client_acked
strays_step =
    let s : StepsSo worked_policies (once_migrated 10) (injects_from Server 0 (replicate 371 0x00)) no_fixed_bit once_strayed_bytes = steps_so worked_policies (once_migrated 10) (injects_from Server 0 (replicate 371 0x00)) no_fixed_bit refl in
    record { answer = refl; end = s.end; control = s.control; heard = s.heard; openings = tt; others = s.others; lacking = tt }

strays_no : IsRefused once_strayed_bytes asks_server (gives_to 9 1200)
unfolding client_acked
strays_no (inl e) = cc
strays_no (inr e) = cc

pub strays_is_none : IsNoRun counts_strays
strays_is_none = behind refl step_0 (behind refl step_1 (behind refl step_2 (behind refl step_3 (behind refl step_4 (behind refl step_5 (behind refl step_6 (behind refl step_7 (behind refl step_8 (behind refl step_9 (behind refl strays_step (stops _ _ _ _ _ strays_no)))))))))))

-- ---- the peer is where it was

came_from_there : news (watch never_migrates Server 6).intake (watch never_migrates Server 7).intake ≡ ping_packet ∷ []
unfolding client_acked
came_from_there = refl

tells_there : path_changes never_migrates Server 6 ≡ true
unfolding client_acked
tells_there = refl

answers_nothing : (token : List ℕ) → AnswerCame never_migrates Server 6 token → ⊥
answers_nothing token a = among a.packet (subst (λ (ps : List Packet). In a.packet ps) came_from_there a.came) a.answers
  where
    in_ping : In (path_response token) ping_packet.frames → ⊥
    in_ping (inl e) = cc
    in_ping (inr (inl e)) = cc
    in_ping (inr (inr (inl e))) = cc
    in_ping (inr (inr (inr none))) = none

    among : (p : Packet) → In p (ping_packet ∷ []) → In (path_response token) p.frames → ⊥
    among p (inl is) i = in_ping (subst (λ (q : Packet). In (path_response token) q.frames) is i)
    among p (inr none) i = none

pub never_wrong : PathChangesExactly never_migrates → ⊥
never_wrong h = go ((h Server 6 refl refl).1 tells_there)
  where
    go : ((seen_at never_migrates Server 7).validated ≡ false) ⊎ ((token : List ℕ) × AnswerCame never_migrates Server 6 token) → ⊥
    go (inl is) = let clash : true ≡ false = is in cc
    go (inr came) = answers_nothing came.0 came.1

pub never_is_honest : IsHonest never_migrates
never_is_honest = honest_steady never_migrates (record { start = refl; keys = refl; client = (tt, (inl refl, (tt, (tt, (tt, (tt, (tt, (tt, tt)))))))); server = (tt, (tt, (tt, (tt, (tt, (tt, (tt, (tt, tt)))))))) })

valid_no : IsRefused (once_migrated 7) asks_state (tells_state true)
unfolding client_acked
valid_no e = cc

pub never_is_none : IsNoRun never_migrates
never_is_none = behind refl step_0 (behind refl step_1 (behind refl step_2 (behind refl step_3 (behind refl step_4 (behind refl step_5 (behind refl step_6 (stops _ _ _ _ _ valid_no)))))))

-- ---- datagrams go to the old address

old_there : peer_address answers_old_address Server 11 ≡ 9
unfolding client_acked
old_there = refl

pub old_wrong : GoesToPath answers_old_address → ⊥
old_wrong h = let clash : ◌≡◌ {A = ℕ} 0 9 = h Server 11 0 _ refl (record { event = refl; answer = refl }) ∙ old_there in omega (arith, clash)

pub old_is_honest : IsHonest answers_old_address
old_is_honest = honest_steady answers_old_address (record { start = refl; keys = refl; client = (tt, (inl refl, (tt, (tt, (tt, (tt, (tt, (tt, (tt, (tt, (tt, (tt, tt)))))))))))); server = (tt, (tt, (tt, (tt, (tt, (tt, (tt, (tt, (tt, (tt, (tt, (tt, tt)))))))))))) })

-- the address to which an answer gives a datagram
abbrev where_to : Answer → ℕ
where_to (answers.Poll (Ok (Some transmit))) = transmit.remote
where_to a = 0

goes_there : where_to (answers.Poll (polled worked_policies.server (end_met (once_migrated 11) asks_server) 0).answer) ≡ 9
unfolding client_acked
goes_there = refl

old_no : IsRefused (once_migrated 11) asks_server (gives_bytes 1200)
old_no (inl e) = let clash : ◌≡◌ {A = ℕ} 0 9 = ap where_to e ∙ goes_there in omega (arith, clash)
old_no (inr e) = cc

pub old_is_none : IsNoRun answers_old_address
old_is_none = behind refl step_0 (behind refl step_1 (behind refl step_2 (behind refl step_3 (behind refl step_4 (behind refl step_5 (behind refl step_6 (behind refl step_7 (behind refl step_8 (behind refl step_9 (behind refl step_10 (stops _ _ _ _ _ old_no)))))))))))

-- ---- and so does the close

close_there : peer_address closes_to_old_address Server 12 ≡ 9
unfolding client_acked
close_there = refl

pub close_wrong : GoesToPath closes_to_old_address → ⊥
close_wrong h = let clash : ◌≡◌ {A = ℕ} 0 9 = h Server 12 0 _ refl (record { event = refl; answer = refl }) ∙ close_there in omega (arith, clash)

pub close_is_honest : IsHonest closes_to_old_address
close_is_honest = honest_steady closes_to_old_address (record { start = refl; keys = refl; client = (tt, (inl refl, (tt, (tt, (tt, (tt, (tt, (tt, (tt, (tt, (tt, (tt, (tt, tt))))))))))))); server = (tt, (tt, (tt, (tt, (tt, (tt, (tt, (tt, (tt, (tt, (tt, (tt, (tt, tt))))))))))))) })

close_step : IsStep worked_policies (once_migrated 11) server_closes answers.Close once_closed_there
unfolding client_acked
close_step =
    let s : StepsSo worked_policies (once_migrated 11) server_closes answers.Close once_closed_there = steps_so worked_policies (once_migrated 11) server_closes answers.Close refl in
    record { answer = refl; end = s.end; control = s.control; heard = s.heard; openings = tt; others = s.others; lacking = tt }

close_goes : where_to (answers.Poll (polled worked_policies.server (end_met once_closed_there asks_server) 0).answer) ≡ 9
unfolding client_acked
close_goes = refl

close_no : IsRefused once_closed_there asks_server (gives_bytes 29)
close_no (inl e) = let clash : ◌≡◌ {A = ℕ} 0 9 = ap where_to e ∙ close_goes in omega (arith, clash)
close_no (inr e) = cc

pub close_is_none : IsNoRun closes_to_old_address
close_is_none = behind refl step_0 (behind refl step_1 (behind refl step_2 (behind refl step_3 (behind refl step_4 (behind refl step_5 (behind refl step_6 (behind refl step_7 (behind refl step_8 (behind refl step_9 (behind refl step_10 (behind refl close_step (stops _ _ _ _ _ close_no))))))))))))
