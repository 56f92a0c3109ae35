-- A server draws an id for one that its peer retired, event by event; and one that tells a token
-- twice.
use Rattle.std.proofs.Common.{◌≡◌, ℕ, ◌+◌, ◌%◌, List, [], ◌∷◌, ◌++◌, Option, Some, None, refl, inl, inr, sym, ap, ◌∙◌, subst, arith}
use Rattle.std.specs.Prelude.{slice_get, slice_index}
use Rattle.std.specs.Int.{w64, to_be_bytes, from_be_bytes}
use Rattle.std.proofs.lemmas.Nat.{from_be_bytes-to_be_bytes_8}
use Rattle.std.proofs.lemmas.List.{take_at, drop_at}
use Rattle.std.specs.Prelude.{take, drop}
use Rattle.quic_wire_core.specs.declared.stream_id.Side.{Side}
use Rattle.quic_wire_core.specs.declared.stream_id.Side.TheVariants.{Client, Server}
use Rattle.quic_wire_core.specs.declared.shared.IssuedCid.{IssuedCid}
use Rattle.quic_wire.specs.Value.{new_connection_id}
use Rattle.quic_streams_state.specs.Control.{issued_in}
use Rattle.quic_machine.specs.declared.answers.Received.TheVariants as receives
use Rattle.quic_machine.specs.declared.answers.State.TheVariants as states
use Rattle.quic_machine.specs.declared.run.Answer.TheVariants as answers
use Rattle.quic_machine.specs.Machine.{World, IsStep, Follows}
use Rattle.quic_machine.specs.Policy.{Policy}
use Rattle.quic_machine.specs.Start.{IsLawful, AreKeys}
use Rattle.quic_machine.specs.RunLaws.{one_run}
use Rattle.quic_headline.specs.Runs.{In, state_at}
use Rattle.quic_headline.specs.Observer.{Sent, sents_until}
use Rattle.quic_headline.specs.Duties.{WasGiven}
use Rattle.quic_headline.specs.Headline.{IsHonest, IsRun}
use Rattle.quic_headline.specs.DrawnIds.{IsDrawnAt, AreDrawnIds, IdsAreDrawn}
use Rattle.quic_headline.proofs.Destined.Drawn.{ids_are_drawn}
use Rattle.quic_worked.specs.Worked.{worked_policies, both_steady, asks_datagram, gives_bytes, gives_unmarked, id_word, issued_ids}
use Rattle.quic_worked.specs.Acknowledged.{client_acked}
use Rattle.quic_worked.specs.Machines.{NeverGives}
use Rattle.quic_worked.specs.Paired.{asks_server, client_hears}
use Rattle.quic_worked.specs.Renamed.{uses_next}
use Rattle.quic_worked.specs.Reordered.{delivers_at}
use Rattle.quic_worked.specs.Known.{is_used, telling_sent}
use Rattle.quic_worked.specs.Drawn.{up_to_255, counting_policies, drawing_events, drawing_answers, once_drawn, low_word, eighth_with, eighth_sent, tells_with, drawing_run, token_again}
use Rattle.quic_worked.proofs.Codes.{no_codes}
use Rattle.quic_worked.proofs.OwnIds.{AreOwn, own_ids}
use Rattle.quic_worked.proofs.Steps.{counts_so}
use Rattle.quic_worked.proofs.WorkedHonest.{steady_started}
use Rattle.quic_worked.proofs.WorkedKeys.{are_keys}

-- ---- the run

server_tells : IsStep counting_policies both_steady asks_server (gives_bytes 222) (once_drawn 1)
unfolding once_drawn
server_tells = record { answer = inl refl; end = refl; control = refl; heard = counts_so counting_policies both_steady asks_server (gives_bytes 222); openings = tt; others = refl; lacking = tt }

client_takes : IsStep counting_policies (once_drawn 1) client_hears (answers.Deliver receives.Taken) (once_drawn 2)
unfolding once_drawn
client_takes = record { answer = inl refl; end = refl; control = refl; heard = counts_so counting_policies (once_drawn 1) client_hears (answers.Deliver receives.Taken); openings = tt; others = refl; lacking = tt }

client_uses : IsStep counting_policies (once_drawn 2) uses_next is_used (once_drawn 3)
unfolding once_drawn
client_uses = record { answer = inl refl; end = refl; control = refl; heard = counts_so counting_policies (once_drawn 2) uses_next is_used; openings = tt; others = refl; lacking = λ lacks. cc }

client_gives : IsStep counting_policies (once_drawn 3) asks_datagram (gives_bytes 229) (once_drawn 4)
unfolding once_drawn
client_gives = record { answer = inl refl; end = refl; control = refl; heard = counts_so counting_policies (once_drawn 3) asks_datagram (gives_bytes 229); openings = tt; others = refl; lacking = tt }

server_takes : IsStep counting_policies (once_drawn 4) (delivers_at 0) (answers.Deliver receives.Taken) (once_drawn 5)
unfolding once_drawn
server_takes = record { answer = inl refl; end = refl; control = refl; heard = counts_so counting_policies (once_drawn 4) (delivers_at 0) (answers.Deliver receives.Taken); openings = tt; others = refl; lacking = tt }

server_gives : IsStep counting_policies (once_drawn 5) asks_server (gives_unmarked 59) (once_drawn 6)
unfolding once_drawn
server_gives = record { answer = inl refl; end = refl; control = refl; heard = counts_so counting_policies (once_drawn 5) asks_server (gives_unmarked 59); openings = tt; others = refl; lacking = tt }

drawing_follows : Follows drawing_run.keys drawing_run.start drawing_run.events drawing_run.answers drawing_run.views (once_drawn 6)
drawing_follows = (once_drawn 1, server_tells, refl, (once_drawn 2, client_takes, refl, (once_drawn 3, client_uses, refl, (once_drawn 4, client_gives, refl, (once_drawn 5, server_takes, refl, (once_drawn 6, server_gives, refl, refl))))))

gave_naming : drawing_run.from_client ≡ (once_drawn 6).from_client
unfolding once_drawn
gave_naming = refl

gave_eighth : drawing_run.from_server ≡ (once_drawn 6).from_server
unfolding once_drawn
gave_eighth = refl

pub drawing_is_run : IsRun drawing_run (once_drawn 6)
drawing_is_run = record { codes = no_codes drawing_events refl; follows = drawing_follows; from_client = gave_naming; from_server = gave_eighth }

telling_own : (token : List ℕ) (side : Side) → AreOwn side [] (tells_with token).events (tells_with token).answers (tells_with token).views
telling_own token Client = (tt, (tt, (tt, (tt, (tt, (tt, tt))))))
telling_own token Server = (tt, (tt, (tt, (tt, (tt, (tt, tt))))))

-- lawful keys are so whatever words there are
lawful_words : (p : Policy) (words : ℕ → ℕ) → IsLawful p → IsLawful (record p { words = words })
lawful_words p words l = record { form = l.form; width = l.width; tag = l.tag }

counting_keys : AreKeys counting_policies
counting_keys = record {
  client = are_keys.client;
  server = lawful_words worked_policies.server up_to_255 are_keys.server;
  to_server = (let opens = are_keys.to_server in record { header = opens.header; packet = opens.packet });
  to_client = (let opens = are_keys.to_client in record { header = opens.header; packet = opens.packet });
}

telling_honest : (token : List ℕ) → IsHonest (tells_with token)
telling_honest token = record { start = steady_started; keys = counting_keys; ids = own_ids (tells_with token) (telling_own token) }

pub drawing_is_honest : IsHonest drawing_run
drawing_is_honest = telling_honest (low_word 23 ++ low_word 24)

pub again_is_honest : IsHonest token_again
again_is_honest = telling_honest (id_word ++ id_word)

pub eighth_went : sents_until drawing_run Server 6 ≡ telling_sent ∷ eighth_sent (low_word 23 ++ low_word 24) ∷ []
unfolding client_acked once_drawn
eighth_went = refl

pub eighth_drawn : IsDrawnAt up_to_255 22 (eighth_with (low_word 23 ++ low_word 24))
eighth_drawn = record { id = refl; token = refl }

pub drawing_keeps : IdsAreDrawn drawing_run
drawing_keeps = ids_are_drawn drawing_run (once_drawn 6) drawing_is_honest drawing_is_run

-- ---- a token that is told again

again_went : sents_until token_again Server 6 ≡ telling_sent ∷ eighth_sent (id_word ++ id_word) ∷ []
unfolding client_acked once_drawn
again_went = refl

again_given : WasGiven (sents_until token_again Server 6) (new_connection_id (eighth_with (id_word ++ id_word)))
again_given = record { sent = eighth_sent (id_word ++ id_word); among = subst (λ (ss : List Sent). In (eighth_sent (id_word ++ id_word)) ss) (sym again_went) (inr (inl refl)); carried = inl refl }

still_open : state_at token_again Server 6 ≡ states.Open
unfolding once_drawn
still_open = refl

-- a word below 256 that is written so is 63
is_63 : (n : ℕ) → to_be_bytes w64 (up_to_255 n) ≡ id_word → n % 256 ≡ 63
is_63 n same = sym (from_be_bytes-to_be_bytes_8 (up_to_255 n) (omega arith)) ∙ ap (from_be_bytes w64) same

-- no two words one behind another are both 63
no_token : (place : ℕ) → id_word ++ id_word ≡ to_be_bytes w64 (up_to_255 (place + 1)) ++ to_be_bytes w64 (up_to_255 (place + 2)) → ⊥
no_token place same =
    let one : to_be_bytes w64 (up_to_255 (place + 1)) ≡ id_word = sym (take_at (to_be_bytes w64 (up_to_255 (place + 1))) (to_be_bytes w64 (up_to_255 (place + 2))) 8 refl) ∙ ap (take 8) (sym same) in
    let two : to_be_bytes w64 (up_to_255 (place + 2)) ≡ id_word = sym (drop_at (to_be_bytes w64 (up_to_255 (place + 1))) (to_be_bytes w64 (up_to_255 (place + 2))) 8 refl) ∙ ap (drop 8) (sym same) in
    let a = is_63 (place + 1) one in
    let b = is_63 (place + 2) two in
    omega arith

-- none of the first ids has number 8
not_first : (cids : List IssuedCid) → cids ≡ issued_ids → In (issued_in (eighth_with (id_word ++ id_word))) cids → ⊥
not_first cids are among = go (subst (λ (cs : List IssuedCid). In (issued_in (eighth_with (id_word ++ id_word))) cs) are among)
  where
    number : (c : IssuedCid) → issued_in (eighth_with (id_word ++ id_word)) ≡ c → 8 ≡ c.sequence
    number c same = ap (λ (x : IssuedCid). x.sequence) same

    go : In (issued_in (eighth_with (id_word ++ id_word))) issued_ids → ⊥
    go (inl is) = let clash : ◌≡◌ 8 1 = number _ is in omega (arith, clash)
    go (inr (inl is)) = let clash : ◌≡◌ 8 2 = number _ is in omega (arith, clash)
    go (inr (inr (inl is))) = let clash : ◌≡◌ 8 3 = number _ is in omega (arith, clash)
    go (inr (inr (inr (inl is)))) = let clash : ◌≡◌ 8 4 = number _ is in omega (arith, clash)
    go (inr (inr (inr (inr (inl is))))) = let clash : ◌≡◌ 8 5 = number _ is in omega (arith, clash)
    go (inr (inr (inr (inr (inr (inl is)))))) = let clash : ◌≡◌ 8 6 = number _ is in omega (arith, clash)
    go (inr (inr (inr (inr (inr (inr (inl is))))))) = let clash : ◌≡◌ 8 7 = number _ is in omega (arith, clash)
    go (inr (inr (inr (inr (inr (inr (inr none))))))) = absurd none

pub again_not : IdsAreDrawn token_again → ⊥
again_not h = elim (told.each (eighth_with (id_word ++ id_word)) again_given) [
  | inl first ↦ not_first both_steady.server.waiting.frames.new_cids refl first
  | inr own ↦ no_token (told.place 8) own.2.token
]
  where
    told : AreDrawnIds both_steady.server up_to_255 (sents_until token_again Server 6)
    told = h Server 6 refl still_open

-- the last byte of the first word of the token in the server's second datagram
abbrev byte_of : Option (List ℕ) → ℕ
byte_of None = 0
byte_of (Some d) = slice_index d 29

right_byte : byte_of (slice_get (once_drawn 6).from_server 1) ≡ 23
unfolding once_drawn
right_byte = refl

pub never_again : NeverGives token_again
never_again views end is = let clash : ◌≡◌ {A = ℕ} 63 23 = other in omega (arith, clash)
  where
    same : end ≡ once_drawn 6
    same = (one_run counting_policies drawing_answers both_steady drawing_events views drawing_run.views end (once_drawn 6) refl is.follows drawing_follows).1

    other : ◌≡◌ {A = ℕ} 63 23
    other = ap (λ (ds : List (List ℕ)). byte_of (slice_get ds 1)) is.from_server ∙ ap (λ (w : World). byte_of (slice_get w.from_server 1)) same ∙ right_byte
