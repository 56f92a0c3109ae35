-- A client that gives the bytes of a stream as they were written, and clients that say of it what
-- wasn't.
use Rattle.std.proofs.Common.{◌≡◌, ℕ, ◌≤◌, true, false, List, [], ◌∷◌, ◌++◌, refl, inl, sym, ap, ◌∙◌, subst, arith}
use Rattle.std.specs.Prelude.{slice_index}
use Rattle.quic_wire_core.specs.declared.stream_id.Side.TheVariants.{Client}
use Rattle.quic_wire.specs.Reading.{stream_at}
use Rattle.quic_machine.specs.Machine.{World}
use Rattle.quic_machine.specs.RunLaws.{one_run}
use Rattle.quic_headline.specs.Runs.{In}
use Rattle.quic_headline.specs.Observer.{Sent, sents_until}
use Rattle.quic_headline.specs.Headline.{IsHonest}
use Rattle.quic_headline.specs.Spelled.{StreamsSay}
use Rattle.quic_headline.proofs.Halves.Spelled.{streams_say}
use Rattle.quic_headline.proofs.Places.Told.{in_right}
use Rattle.quic_worked.specs.Acknowledged.{client_acked}
use Rattle.quic_worked.specs.Machines.{NeverGives}
use Rattle.quic_worked.specs.Said.{once_said, said_run}
use Rattle.quic_worked.specs.Respelled.{saying, one_byte, respelled_run, respelled_sent, cut_short_run, cut_short_sent, far_frame, far_run, far_sent}
use Rattle.quic_worked.proofs.OwnIds.{own_ids}
use Rattle.quic_worked.proofs.WorkedKeys.{are_keys}
use Rattle.quic_worked.proofs.BlockedRun.{left_started}
use Rattle.quic_worked.proofs.SaidRun.{all_own, all_is_honest, all_is_run}

pub as_written : StreamsSay said_run
as_written = streams_say said_run (once_said 10) all_is_honest all_is_run

-- whatever the client's second datagram says, the premises hold
saying_is_honest : (payload : List ℕ) → IsHonest (saying payload)
saying_is_honest payload = record { start = left_started; keys = are_keys; ids = own_ids (saying payload) all_own }

-- the first byte of what it says
abbrev second_type : List (List ℕ) → ℕ
second_type (d ∷ e ∷ ds) = slice_index e 10
second_type ds = 0

right_type : second_type (once_said 10).from_client ≡ 0x14
unfolding once_said
right_type = refl

-- ---- another byte

respelled_went : sents_until respelled_run Client 5 ≡ sents_until respelled_run Client 4 ++ respelled_sent ∷ []
unfolding client_acked stream_at
respelled_went = refl

respelled_among : In respelled_sent (sents_until respelled_run Client 5)
respelled_among = subst (λ (ss : List Sent). In respelled_sent ss) (sym respelled_went) (in_right respelled_sent (sents_until respelled_run Client 4) (respelled_sent ∷ []) (inl refl))

abbrev first_byte : List ℕ → ℕ
first_byte [] = 0
first_byte (b ∷ bytes) = b

pub respelled_not : StreamsSay respelled_run → ⊥
respelled_not h =
    let clash : ◌≡◌ {A = ℕ} 0x68 0xff = ap first_byte (h.bytes Client 5 respelled_sent (one_byte 0xff false) refl respelled_among (inl refl)) in
    omega (arith, clash)

pub respelled_is_honest : IsHonest respelled_run
respelled_is_honest = saying_is_honest (0x08 ∷ 0x00 ∷ 0xff ∷ [])

pub never_respelled : NeverGives respelled_run
never_respelled views end is =
    let same = one_run said_run.keys said_run.answers said_run.start said_run.events views said_run.views end (once_said 10) refl is.follows all_is_run.follows in
    let clash : ◌≡◌ {A = ℕ} 0x08 0x14 = ap second_type (is.from_client ∙ ap (λ (w : World). w.from_client) same.1) ∙ right_type in
    omega (arith, clash)

-- ---- FIN

cut_short_went : sents_until cut_short_run Client 5 ≡ sents_until cut_short_run Client 4 ++ cut_short_sent ∷ []
unfolding client_acked stream_at
cut_short_went = refl

cut_short_among : In cut_short_sent (sents_until cut_short_run Client 5)
cut_short_among = subst (λ (ss : List Sent). In cut_short_sent ss) (sym cut_short_went) (in_right cut_short_sent (sents_until cut_short_run Client 4) (cut_short_sent ∷ []) (inl refl))

pub cut_short_not : StreamsSay cut_short_run → ⊥
cut_short_not h = (let clash : false ≡ true = (h.fin Client 5 cut_short_sent (one_byte 0x68 true) refl cut_short_among (inl refl) refl).0 in cc)

pub cut_short_is_honest : IsHonest cut_short_run
cut_short_is_honest = saying_is_honest (0x09 ∷ 0x00 ∷ 0x68 ∷ [])

pub never_cut_short : NeverGives cut_short_run
never_cut_short views end is =
    let same = one_run said_run.keys said_run.answers said_run.start said_run.events views said_run.views end (once_said 10) refl is.follows all_is_run.follows in
    let clash : ◌≡◌ {A = ℕ} 0x09 0x14 = ap second_type (is.from_client ∙ ap (λ (w : World). w.from_client) same.1) ∙ right_type in
    omega (arith, clash)

-- ---- no byte, far off

far_went : sents_until far_run Client 5 ≡ sents_until far_run Client 4 ++ far_sent ∷ []
unfolding client_acked stream_at
far_went = refl

far_among : In far_sent (sents_until far_run Client 5)
far_among = subst (λ (ss : List Sent). In far_sent ss) (sym far_went) (in_right far_sent (sents_until far_run Client 4) (far_sent ∷ []) (inl refl))

pub far_not : StreamsSay far_run → ⊥
far_not h = (let below : 63 ≤ 8 = h.within Client 5 far_sent far_frame refl far_among (inl refl) in absurd (omega (arith, below)))

pub far_is_honest : IsHonest far_run
far_is_honest = saying_is_honest (0x0c ∷ 0x00 ∷ 0x3f ∷ [])

pub never_far : NeverGives far_run
never_far views end is =
    let same = one_run said_run.keys said_run.answers said_run.start said_run.events views said_run.views end (once_said 10) refl is.follows all_is_run.follows in
    let clash : ◌≡◌ {A = ℕ} 0x0c 0x14 = ap second_type (is.from_client ∙ ap (λ (w : World). w.from_client) same.1) ∙ right_type in
    omega (arith, clash)
