-- Clients that say at which limit they are blocked, and clients that say another one.
use Rattle.std.proofs.Common.{◌≡◌, ℕ, ◌≤◌, List, [], ◌∷◌, ◌++◌, Some, refl, inl, ap, ◌∙◌, arith}
use Rattle.std.specs.Prelude.{slice_index}
use Rattle.quic_wire_core.specs.declared.shared.EcnCodepoint.TheVariants.{Ect0}
use Rattle.quic_wire_core.specs.declared.stream_id.Side.TheVariants.{Client}
use Rattle.quic_wire.specs.Reading.{stream_limit_at}
use Rattle.quic_machine.specs.Machine.{World}
use Rattle.quic_machine.specs.RunLaws.{one_run}
use Rattle.quic_headline.specs.Observer.{took, sents_until}
use Rattle.quic_headline.specs.Headline.{IsHonest}
use Rattle.quic_headline.specs.Amounts.{peer_parameters, data_limit, stream_limit}
use Rattle.quic_headline.specs.Polls.{GaveOne}
use Rattle.quic_headline.specs.Blocking.{BlockedSay}
use Rattle.quic_headline.proofs.Amounts.Blocked.{blocked_say}
use Rattle.quic_worked.specs.Acknowledged.{client_acked}
use Rattle.quic_worked.specs.Blocked.{small_start}
use Rattle.quic_worked.specs.Limited.{limited_start}
use Rattle.quic_worked.specs.Machines.{NeverGives}
use Rattle.quic_worked.specs.Said.{once_said, said_run, once_said_on, said_on_run}
use Rattle.quic_worked.specs.Misstated.{misstated_run, misstated_on_run, unwritten_run, none_sent, four_sent, unwritten_sent}
use Rattle.quic_worked.proofs.OwnIds.{own_ids}
use Rattle.quic_worked.proofs.WorkedKeys.{are_keys}
use Rattle.quic_worked.proofs.BlockedRun.{left_started}
use Rattle.quic_worked.proofs.LimitedRun.{limited_started}
use Rattle.quic_worked.proofs.SaidRun.{all_own, all_is_honest, all_is_run, one_own, one_is_honest, one_is_run}

-- ---- the machine's runs

pub all_says : BlockedSay said_run
all_says = blocked_say said_run (once_said 10) all_is_honest all_is_run

pub stream_says : BlockedSay said_on_run
stream_says = blocked_say said_on_run (once_said_on 10) one_is_honest one_is_run

-- ---- another limit on all data

none_went : sents_until misstated_run Client 5 ≡ sents_until misstated_run Client 4 ++ none_sent ∷ []
unfolding client_acked
none_went = refl

gave_none : GaveOne misstated_run Client 4 0
gave_none = record { transmit = record { size = 29; ecn = Some Ect0; remote = 0 }; poll = record { event = refl; answer = refl }; served = refl; sent = none_sent; went = none_went }

eight_told : data_limit (peer_parameters Client (small_start 8) left_started) (took misstated_run Client 4) ≡ 8
unfolding client_acked
eight_told = refl

pub misstated_not : BlockedSay misstated_run → ⊥
unfolding gave_none
misstated_not h = (
    let said : 0 ≡ data_limit (peer_parameters Client (small_start 8) left_started) (took misstated_run Client 4) = (h.of_all left_started Client 4 0 gave_none 0 (inl refl)).0 in
    let eight = eight_told in
    absurd (omega (arith, said, eight)))

pub misstated_is_honest : IsHonest misstated_run
misstated_is_honest = record { start = left_started; keys = are_keys; ids = own_ids misstated_run all_own }

-- the byte of the second datagram that says the limit on all data, and on a stream
abbrev second_byte : ℕ → List (List ℕ) → ℕ
second_byte n (d ∷ e ∷ ds) = slice_index e n
second_byte n ds = 0

right_all : second_byte 11 (once_said 10).from_client ≡ 8
unfolding once_said
right_all = refl

pub never_misstated : NeverGives misstated_run
never_misstated views end is =
    let same = one_run said_run.keys said_run.answers said_run.start said_run.events views said_run.views end (once_said 10) refl is.follows all_is_run.follows in
    let clash : ◌≡◌ {A = ℕ} 0 8 = ap (second_byte 11) (is.from_client ∙ ap (λ (w : World). w.from_client) same.1) ∙ right_all in
    omega (arith, clash)

-- ---- another limit on a stream

four_went : sents_until misstated_on_run Client 5 ≡ sents_until misstated_on_run Client 4 ++ four_sent ∷ []
unfolding client_acked stream_limit_at
four_went = refl

gave_four : GaveOne misstated_on_run Client 4 0
gave_four = record { transmit = record { size = 29; ecn = Some Ect0; remote = 0 }; poll = record { event = refl; answer = refl }; served = refl; sent = four_sent; went = four_went }

five_told : stream_limit (peer_parameters Client limited_start limited_started) Client (took misstated_on_run Client 4) 0 ≡ 5
unfolding client_acked limited_started
five_told = refl

pub misstated_on_not : BlockedSay misstated_on_run → ⊥
unfolding gave_four
misstated_on_not h = (
    let said : 4 ≡ stream_limit (peer_parameters Client limited_start limited_started) Client (took misstated_on_run Client 4) 0 = (h.of_stream limited_started Client 4 0 gave_four (record { id = 0; limit = 4 }) (inl refl)).0 in
    let five = five_told in
    absurd (omega (arith, said, five)))

pub misstated_on_is_honest : IsHonest misstated_on_run
misstated_on_is_honest = record { start = limited_started; keys = are_keys; ids = own_ids misstated_on_run one_own }

right_on : second_byte 12 (once_said_on 10).from_client ≡ 5
unfolding once_said_on
right_on = refl

pub never_misstated_on : NeverGives misstated_on_run
never_misstated_on views end is =
    let same = one_run said_on_run.keys said_on_run.answers said_on_run.start said_on_run.events views said_on_run.views end (once_said_on 10) refl is.follows one_is_run.follows in
    let clash : ◌≡◌ {A = ℕ} 4 5 = ap (second_byte 12) (is.from_client ∙ ap (λ (w : World). w.from_client) same.1) ∙ right_on in
    omega (arith, clash)

-- ---- a stream on which nothing was written

unwritten_went : sents_until unwritten_run Client 5 ≡ sents_until unwritten_run Client 4 ++ unwritten_sent ∷ []
unfolding client_acked stream_limit_at
unwritten_went = refl

gave_unwritten : GaveOne unwritten_run Client 4 0
gave_unwritten = record { transmit = record { size = 29; ecn = Some Ect0; remote = 0 }; poll = record { event = refl; answer = refl }; served = refl; sent = unwritten_sent; went = unwritten_went }

pub unwritten_not : BlockedSay unwritten_run → ⊥
unfolding gave_unwritten
unwritten_not h = (let said : 5 ≤ 0 = (h.of_stream limited_started Client 4 0 gave_unwritten (record { id = 4; limit = 5 }) (inl refl)).1 in absurd (omega (arith, said)))

pub unwritten_is_honest : IsHonest unwritten_run
unwritten_is_honest = record { start = limited_started; keys = are_keys; ids = own_ids unwritten_run one_own }

right_stream : second_byte 11 (once_said_on 10).from_client ≡ 0
unfolding once_said_on
right_stream = refl

pub never_unwritten : NeverGives unwritten_run
never_unwritten views end is =
    let same = one_run said_on_run.keys said_on_run.answers said_on_run.start said_on_run.events views said_on_run.views end (once_said_on 10) refl is.follows one_is_run.follows in
    let clash : ◌≡◌ {A = ℕ} 4 0 = ap (second_byte 11) (is.from_client ∙ ap (λ (w : World). w.from_client) same.1) ∙ right_stream in
    omega (arith, clash)
