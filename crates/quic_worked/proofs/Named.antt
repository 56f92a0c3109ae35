-- What the server's acknowledgement names was taken; one that is given too early names what wasn't,
-- and the machine doesn't give it.
use Rattle.std.proofs.Common.{◌≡◌, ◌≤◌, ℕ, List, [], ◌∷◌, None, Bool, true, false, nat_le, ◌&&◌, ◌||◌, refl, inl, inr, sym, ap, ◌∙◌, subst, arith}
use Rattle.std.proofs.lemmas.Bool.{leb-true, and_parts}
use Rattle.quic_wire_core.specs.declared.stream_id.Side.TheVariants.{Server}
use Rattle.quic_wire.specs.FrameTypes.{kind_of}
use Rattle.quic_wire.specs.Reading.{body_at}
use Rattle.quic_wire.specs.AckReading.{ack_at, ranges_at, range_at, some_ecn_at}
use Rattle.quic_wire.specs.Value.{FrameValue, AckValue, ack}
use Rattle.quic_wire.specs.Items.{frame_at, items_within, items}
use Rattle.quic_machine.specs.declared.run.ReadCall.{ReadCall}
use Rattle.quic_headline.specs.Runs.{Packet, In, IsTaken, names, given_until}
use Rattle.quic_headline.specs.Observer.{took}
use Rattle.quic_headline.specs.Headline.{IsNamedIn, frames_given, NamesWereTaken}
use Rattle.quic_worked.specs.Acknowledged.{ack_payload, from_server}
use Rattle.quic_worked.specs.Broken.{IsNoRun, answered_run, early_name}
use Rattle.quic_worked.proofs.WorkedRun.{hello_packet}
use Rattle.quic_worked.proofs.BrokenRuns.{stops}
use Rattle.quic_worked.specs.Worked.{once_taken}

-- ACK of number 0
abbrev pub ack_of_hello : AckValue
ack_of_hello = record { largest = 0; delay = 3125; ranges = (0, 0) ∷ []; ecn = None }

pub given_hello : (read : ReadCall) → given_until (answered_run read) Server 7 ≡ from_server 0 ack_payload ∷ []
given_hello read = refl

names_hello : (read : ReadCall) → frames_given (answered_run read) Server 0 (from_server 0 ack_payload) ≡ ack ack_of_hello ∷ []
unfolding items items_within frame_at body_at kind_of ack_at ranges_at range_at some_ecn_at
names_hello read = refl

-- number 0 is named there
pub is_named : IsNamedIn (ack ack_of_hello ∷ []) 0
is_named = record { frame = ack_of_hello; carried = inl refl; named = refl }

pub named_there : (read : ReadCall) → IsNamedIn (frames_given (answered_run read) Server 0 (from_server 0 ack_payload)) 0
named_there read = subst (λ (fs : List FrameValue). IsNamedIn fs 0) (sym (names_hello read)) is_named

took_hello : (read : ReadCall) → took (answered_run read) Server 7 ≡ hello_packet ∷ []
unfolding once_taken
took_hello read = refl

first_true : (b : Bool) → (b || false) ≡ true → b ≡ true
first_true true q = refl
first_true false q = q

-- no other number is
in_range : (number : ℕ) → names ack_of_hello number ≡ true → number ≡ 0
in_range number q =
    let parts = and_parts (nat_le 0 number) (nat_le number 0) (first_true (nat_le 0 number && nat_le number 0) q) in
    let low : number ≤ 0 = leb-true number 0 parts.1 in
    omega (arith, low)

only_hello : (number : ℕ) (a : AckValue) → In (ack a) (ack ack_of_hello ∷ []) → names a number ≡ true → number ≡ 0
only_hello number a (inl is) named =
    let same : a ≡ ack_of_hello = cc in
    in_range number (ap (λ (x : AckValue). names x number) (sym same) ∙ named)
only_hello number a (inr i) named = absurd i

pub hello_was_taken : (read : ReadCall) (number : ℕ) → IsNamedIn (frames_given (answered_run read) Server 0 (from_server 0 ack_payload)) number → IsTaken (took (answered_run read) Server 7) number
hello_was_taken read number n =
    let here = subst (λ (fs : List FrameValue). IsNamedIn fs number) (names_hello read) n in
    record { packet = hello_packet; was_taken = subst (λ (ps : List Packet). In hello_packet ps) (sym (took_hello read)) (inl refl); is = sym (only_hello number here.frame here.carried here.named) }

-- ---- the acknowledgement that is given too early

pub early_frames : frames_given early_name Server 0 (from_server 0 ack_payload) ≡ ack ack_of_hello ∷ []
unfolding items items_within frame_at body_at kind_of ack_at ranges_at range_at some_ecn_at
early_frames = refl

pub names_early : NamesWereTaken early_name → ⊥
names_early h = (h Server 1 0 0 (from_server 0 ack_payload) refl (inl refl) (subst (λ (fs : List FrameValue). IsNamedIn fs 0) (sym early_frames) is_named)).was_taken

-- nothing waits to go at the server
pub never_names : IsNoRun early_name
never_names = stops _ _ _ _ _ (λ gave. elim gave [ inl is ↦ cc | inr is ↦ cc ])
