-- A server that uses the same id at the new address as at the old one: by the lists the next one
-- comes into use, since it does wherever the reference machine comes to.
use Rattle.std.proofs.Common.{◌≡◌, ◌≤◌, ℕ, zero, suc, true, false, List, [], ◌∷◌, ◌++◌, take, Some, refl, inl, inr, sym, ap, ◌∙◌, subst, arith}
use Rattle.std.specs.Prelude.{◌↔◌, ◌==◌, not, slice_index}
use Rattle.std.proofs.lemmas.List.{take_all}
use Rattle.quic_wire_core.specs.declared.shared.EcnCodepoint.TheVariants.{Ect0}
use Rattle.quic_wire_core.specs.declared.stream_id.Side.TheVariants.{Server}
use Rattle.quic_wire.specs.Value.{FrameValue, new_connection_id, stream}
use Rattle.quic_machine.specs.declared.run.Answer.{Answer}
use Rattle.quic_machine.specs.Machine.{World, Follows, end_at}
use Rattle.quic_machine.specs.RunLaws.{one_run}
use Rattle.quic_headline.specs.Runs.{Packet, In, LeadsTo, first_id_of_peer, told_at, folded, given_of}
use Rattle.quic_headline.specs.Observer.{took, sents_until, generation_at, path_changes, watch_told, watch_from, lens_of}
use Rattle.quic_headline.specs.InUse.{in_use, TellsStays}
use Rattle.quic_headline.specs.Duties.{WasToldId}
use Rattle.quic_headline.specs.ConnectionIds.{IsToldId, IdsAreInUse}
use Rattle.quic_headline.specs.Polls.{GaveOne}
use Rattle.quic_headline.specs.Headline.{IsHonest, IsRun}
use Rattle.quic_worked.specs.Worked.{client_id, id_word, id_frame, behind_ids, hello}
use Rattle.quic_worked.specs.Acknowledged.{client_acked}
use Rattle.quic_worked.specs.Migrated.{once_migrated, ping_packet, kept_sent, keeps_id}
use Rattle.quic_worked.proofs.OwnIds.{honest_steady}
use Rattle.quic_worked.proofs.MigratedRun.{step_0, step_1, step_2, step_3, step_4, step_5, step_6, step_7, step_8, step_9, step_10, step_11, step_seen_0, step_seen_1, step_seen_2, step_seen_3, step_seen_4, step_seen_5, step_seen_6, step_seen_7, step_seen_8, step_seen_9, step_seen_10, step_seen_11}

pub keeps_is_honest : IsHonest keeps_id
keeps_is_honest = honest_steady keeps_id (record { start = refl; keys = refl; client = (tt, (inl refl, (tt, (tt, (tt, (tt, (tt, (tt, (tt, (tt, (tt, (tt, tt)))))))))))); server = (tt, (tt, (tt, (tt, (tt, (tt, (tt, (tt, (tt, (tt, (tt, (tt, tt)))))))))))) })

-- ---- where its path changes

-- behind the last answer it stays the second one
second_then : generation_at keeps_id Server 12 ≡ 1
unfolding client_acked
second_then = refl

second_behind : (i : ℕ) → 12 ≤ i → generation_at keeps_id Server i ≡ 1
second_behind i far =
    ap (λ (said : List Answer). (folded (watch_told (lens_of keeps_id Server)) (told_at Server (end_at Server keeps_id.start).closing.state keeps_id.events said keeps_id.views) (watch_from (end_at Server keeps_id.start) (given_of keeps_id Server))).route.generation) (take_all i keeps_id.answers far ∙ sym (take_all 12 keeps_id.answers (omega arith)))
    ∙ second_then

none_behind : (i : ℕ) → 12 ≤ i → path_changes keeps_id Server i ≡ false
none_behind i far =
    ap (λ (g : ℕ). not (g == generation_at keeps_id Server i)) (second_behind (suc i) (omega (arith, far)))
    ∙ ap (λ (g : ℕ). not (1 == g)) (second_behind i far)

only_there : (i : ℕ) → path_changes keeps_id Server i ≡ true → i ≡ 6
unfolding client_acked
only_there zero is = (let clash : false ≡ true = is in cc)
only_there (suc zero) is = (let clash : false ≡ true = is in cc)
only_there (suc (suc zero)) is = (let clash : false ≡ true = is in cc)
only_there (suc (suc (suc zero))) is = (let clash : false ≡ true = is in cc)
only_there (suc (suc (suc (suc zero)))) is = (let clash : false ≡ true = is in cc)
only_there (suc (suc (suc (suc (suc zero))))) is = (let clash : false ≡ true = is in cc)
only_there (suc (suc (suc (suc (suc (suc zero)))))) is = refl
only_there (suc (suc (suc (suc (suc (suc (suc zero))))))) is = (let clash : false ≡ true = is in cc)
only_there (suc (suc (suc (suc (suc (suc (suc (suc zero)))))))) is = (let clash : false ≡ true = is in cc)
only_there (suc (suc (suc (suc (suc (suc (suc (suc (suc zero))))))))) is = (let clash : false ≡ true = is in cc)
only_there (suc (suc (suc (suc (suc (suc (suc (suc (suc (suc zero)))))))))) is = (let clash : false ≡ true = is in cc)
only_there (suc (suc (suc (suc (suc (suc (suc (suc (suc (suc (suc zero))))))))))) is = (let clash : false ≡ true = is in cc)
only_there (suc (suc (suc (suc (suc (suc (suc (suc (suc (suc (suc (suc i)))))))))))) is = absurd (let clash : false ≡ true = sym (none_behind (suc (suc (suc (suc (suc (suc (suc (suc (suc (suc (suc (suc i)))))))))))) (omega arith)) ∙ is in cc)

-- ---- what the reference machine leaves there

six_follow : Follows keeps_id.keys keeps_id.start (take 6 keeps_id.events) (take 6 keeps_id.answers) (take 6 keeps_id.views) (once_migrated 6)
six_follow = (once_migrated 1, step_0, step_seen_0, (once_migrated 2, step_1, step_seen_1, (once_migrated 3, step_2, step_seen_2, (once_migrated 4, step_3, step_seen_3, (once_migrated 5, step_4, step_seen_4, (once_migrated 6, step_5, step_seen_5, refl))))))

seven_follow : Follows keeps_id.keys keeps_id.start (take 7 keeps_id.events) (take 7 keeps_id.answers) (take 7 keeps_id.views) (once_migrated 7)
seven_follow = (once_migrated 1, step_0, step_seen_0, (once_migrated 2, step_1, step_seen_1, (once_migrated 3, step_2, step_seen_2, (once_migrated 4, step_3, step_seen_3, (once_migrated 5, step_4, step_seen_4, (once_migrated 6, step_5, step_seen_5, (once_migrated 7, step_6, step_seen_6, refl)))))))

first_before : (once_migrated 6).server.ids.peer.active ≡ 0
unfolding client_acked
first_before = refl

next_behind : (once_migrated 7).server.ids.peer.active ≡ 1
unfolding client_acked
next_behind = refl

other_id : (w v : World) → LeadsTo keeps_id 6 w → LeadsTo keeps_id 7 v → v.server.ids.peer.active ≡ w.server.ids.peer.active → ⊥
other_id w v leads behind same =
    let there = one_run keeps_id.keys (take 6 keeps_id.answers) keeps_id.start (take 6 keeps_id.events) (take 6 keeps_id.views) (take 6 keeps_id.views) w (once_migrated 6) refl leads six_follow in
    let then = one_run keeps_id.keys (take 7 keeps_id.answers) keeps_id.start (take 7 keeps_id.events) (take 7 keeps_id.views) (take 7 keeps_id.views) v (once_migrated 7) refl behind seven_follow in
    let clash : ◌≡◌ {A = ℕ} 1 0 = sym next_behind ∙ ap (λ (x : World). x.server.ids.peer.active) (sym then.1) ∙ same ∙ ap (λ (x : World). x.server.ids.peer.active) there.1 ∙ first_before in
    omega (arith, clash)

-- so the id doesn't stay there
pub moves_on : TellsStays keeps_id Server (λ n. false)
moves_on i w v served leads behind changes = go (only_there i changes)
  where
    go : i ≡ 6 → (false ≡ true) ↔ (v.server.ids.peer.active ≡ w.server.ids.peer.active)
    go is = (λ never. absurd cc, λ same. absurd (other_id w v (subst (λ (j : ℕ). LeadsTo keeps_id j w) is leads) (subst (λ (j : ℕ). LeadsTo keeps_id (suc j) v) is behind) same))

-- ---- it sends to another id than that in use

next_used : in_use keeps_id (λ n. false) Server 11 ≡ 1
unfolding client_acked
next_used = refl

-- the packets that it took
abbrev word_came : Packet
word_came = record { number = 0; frames = behind_ids (stream (record { id = 0; offset = 0; fin = false; bytes = hello }) ∷ []) }

both_taken : took keeps_id Server 11 ≡ ping_packet ∷ word_came ∷ []
unfolding client_acked
both_taken = refl

kept_went : sents_until keeps_id Server 12 ≡ sents_until keeps_id Server 11 ++ kept_sent ∷ []
unfolding client_acked
kept_went = refl

gave_kept : GaveOne keeps_id Server 11 0
gave_kept = record { transmit = record { size = 1200; ecn = Some Ect0; remote = 9 }; poll = record { event = refl; answer = refl }; served = refl; sent = kept_sent; went = kept_went }

-- the ids that were told are others than the first
not_told : (number : ℕ) → WasToldId (ping_packet ∷ word_came ∷ []) number client_id → ⊥
not_told number t = go t.packet t.was_taken t.carried
  where
    other : (f : FrameValue) (n : ℕ) → f ≡ id_frame n → new_connection_id t.frame ≡ f → ⊥
    other f n is e =
        let same : new_connection_id t.frame ≡ id_frame n = e ∙ is in
        let id : t.frame.id ≡ id_word = cc in
        let clash : ◌≡◌ {A = ℕ} 0xc0 0 = ap (λ (bs : List ℕ). slice_index bs 0) (sym t.is ∙ id) in
        omega (arith, clash)

    in_ping : In (new_connection_id t.frame) ping_packet.frames → ⊥
    in_ping (inl e) = cc
    in_ping (inr (inl e)) = cc
    in_ping (inr (inr (inl e))) = cc
    in_ping (inr (inr (inr none))) = none

    in_word : In (new_connection_id t.frame) word_came.frames → ⊥
    in_word (inl e) = other (id_frame 1) 1 refl e
    in_word (inr (inl e)) = other (id_frame 2) 2 refl e
    in_word (inr (inr (inl e))) = other (id_frame 3) 3 refl e
    in_word (inr (inr (inr (inl e)))) = other (id_frame 4) 4 refl e
    in_word (inr (inr (inr (inr (inl e))))) = other (id_frame 5) 5 refl e
    in_word (inr (inr (inr (inr (inr (inl e)))))) = other (id_frame 6) 6 refl e
    in_word (inr (inr (inr (inr (inr (inr (inl e))))))) = other (id_frame 7) 7 refl e
    in_word (inr (inr (inr (inr (inr (inr (inr (inl e)))))))) = cc
    in_word (inr (inr (inr (inr (inr (inr (inr (inr none)))))))) = none

    go : (p : Packet) → In p (ping_packet ∷ word_came ∷ []) → In (new_connection_id t.frame) p.frames → ⊥
    go p (inl is) i = in_ping (subst (λ (q : Packet). In (new_connection_id t.frame) q.frames) is i)
    go p (inr (inl is)) i = in_word (subst (λ (q : Packet). In (new_connection_id t.frame) q.frames) is i)
    go p (inr (inr none)) i = none

pub keeps_wrong : IdsAreInUse keeps_id → ⊥
unfolding gave_kept
keeps_wrong h = go (h Server (λ n. false) 11 0 gave_kept moves_on refl)
  where
    go : IsToldId (first_id_of_peer keeps_id Server) (took keeps_id Server 11) (in_use keeps_id (λ n. false) Server 11) client_id → ⊥
    go (inl first) = let one = next_used in let zero = first.0 in omega (arith, one, zero)
    go (inr told) = not_told (in_use keeps_id (λ n. false) Server 11) (subst (λ (ps : List Packet). WasToldId ps (in_use keeps_id (λ n. false) Server 11) client_id) both_taken told)

-- ---- the machine gives another datagram

-- the second byte of the first datagram
abbrev id_byte : List (List ℕ) → ℕ
id_byte [] = 1
id_byte (d ∷ ds) = slice_index d 1

right_byte : id_byte (once_migrated 12).from_server ≡ 0
unfolding client_acked
right_byte = refl

twelve_follow : Follows keeps_id.keys keeps_id.start keeps_id.events keeps_id.answers keeps_id.views (once_migrated 12)
twelve_follow = (once_migrated 1, step_0, step_seen_0, (once_migrated 2, step_1, step_seen_1, (once_migrated 3, step_2, step_seen_2, (once_migrated 4, step_3, step_seen_3, (once_migrated 5, step_4, step_seen_4, (once_migrated 6, step_5, step_seen_5, (once_migrated 7, step_6, step_seen_6, (once_migrated 8, step_7, step_seen_7, (once_migrated 9, step_8, step_seen_8, (once_migrated 10, step_9, step_seen_9, (once_migrated 11, step_10, step_seen_10, (once_migrated 12, step_11, step_seen_11, refl))))))))))))

-- where the machine comes to behind these answers, whatever is seen
pub keeps_is_none : (end : World) → Follows keeps_id.keys keeps_id.start keeps_id.events keeps_id.answers keeps_id.views end → keeps_id.from_server ≡ end.from_server → ⊥
keeps_is_none end f same =
    let there = one_run keeps_id.keys keeps_id.answers keeps_id.start keeps_id.events keeps_id.views keeps_id.views end (once_migrated 12) refl f twelve_follow in
    let clash : ◌≡◌ {A = ℕ} 0xc0 0 = ap id_byte same ∙ ap (λ (x : World). id_byte x.from_server) there.1 ∙ right_byte in
    omega (arith, clash)

-- so its lists are those of no run
pub keeps_never : (end : World) → IsRun keeps_id end → ⊥
keeps_never end run = keeps_is_none end run.follows run.from_server
