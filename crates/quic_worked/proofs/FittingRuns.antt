-- Messages that an end takes as it may, and ends that take longer ones.
use Rattle.std.proofs.Common.{◌≡◌, ◌≤◌, ℕ, List, [], ◌∷◌, Option, Some, None, refl, sym, subst, inl, inr, arith}
use Rattle.quic_wire.specs.Value.{FrameValue, datagram, connection_close}
use Rattle.quic_wire.specs.Grammar.{Payload}
use Rattle.quic_wire.specs.Items.{items}
use Rattle.quic_packet.specs.Datagram.{Opening}
use Rattle.quic_headline.specs.Runs.{In, Packet, packet_of, frames_of, opens_by_key}
use Rattle.quic_headline.specs.LoneAcks.{and_packet}
use Rattle.quic_headline.specs.LoneMessages.{before_close, Fits, AllFit, TakesFit}
use Rattle.quic_headline.proofs.Packets.Delivered.{frames_of_payload}
use Rattle.quic_worked.specs.Worked.{worked_policies}
use Rattle.quic_worked.specs.Kept.{hands_one, one_taken, one_dropped, message_of_two, closed_before_message, with_message, with_message_behind}
use Rattle.quic_worked.proofs.UntakenRuns.{before}

-- ---- what the datagrams open to

abbrev two_bytes : List ℕ
two_bytes = 0x07 ∷ 0x07 ∷ []

abbrev opening : List ℕ → Opening
opening payload = record { first = 0x40; number = 0; payload = payload }

message_opens : opens_by_key worked_policies.server 0 with_message ≡ Some (opening message_of_two)
message_opens = refl

close_opens : opens_by_key worked_policies.server 0 with_message_behind ≡ Some (opening closed_before_message)
close_opens = refl

two_spelled : Payload (datagram two_bytes ∷ []) message_of_two
two_spelled = before (datagram two_bytes) [] [] (omega arith, tt) refl

abbrev close : FrameValue
close = connection_close (record { code = 0; frame_type = 0; reason = [] })

behind_spelled : Payload (close ∷ datagram two_bytes ∷ []) closed_before_message
behind_spelled = before close (datagram two_bytes ∷ []) message_of_two (omega arith, (omega arith, (omega arith, tt))) two_spelled

two_found : frames_of (items message_of_two) ≡ datagram two_bytes ∷ []
two_found = frames_of_payload (datagram two_bytes ∷ []) message_of_two two_spelled

behind_found : frames_of (items closed_before_message) ≡ close ∷ datagram two_bytes ∷ []
behind_found = frames_of_payload (close ∷ datagram two_bytes ∷ []) closed_before_message behind_spelled

-- ---- one that is taken

-- of no packet any message is too long
none_long : (room : Option ℕ) → AllFit room []
none_long room packet m among i = absurd among

-- the packets of a datagram that is taken
one_packet : (room : Option ℕ) (payload : List ℕ) → ((m : List ℕ) → In (datagram m) (before_close (frames_of (items payload))) → Fits room m) → AllFit room (packet_of (opening payload) ∷ [])
one_packet room payload fits packet m (inl is) i = fits m (subst (λ (q : Packet). In (datagram m) (before_close q.frames)) is i)
one_packet room payload fits packet m (inr none) i = absurd none

pub message_fits : TakesFit worked_policies.server (with_message ∷ []) (Some 2) [] hands_one one_taken
message_fits = (none_long (Some 2), subst (λ (o : Option Opening). AllFit (Some 2) (and_packet o [])) (sym message_opens) (one_packet (Some 2) message_of_two fits))
  where
    short : (m : List ℕ) → In (datagram m) (datagram two_bytes ∷ []) → Fits (Some 2) m
    short m (inl is) = (let same : two_bytes ≡ m = cc in subst (Fits (Some 2)) same (omega arith))
    short m (inr none) = absurd none

    fits : (m : List ℕ) → In (datagram m) (before_close (frames_of (items message_of_two))) → Fits (Some 2) m
    fits m i = short m (subst (λ (fs : List FrameValue). In (datagram m) (before_close fs)) two_found i)

pub behind_fits : TakesFit worked_policies.server (with_message_behind ∷ []) None [] hands_one one_taken
behind_fits = (none_long None, subst (λ (o : Option Opening). AllFit None (and_packet o [])) (sym close_opens) (one_packet None closed_before_message (λ m i. absurd (subst (λ (fs : List FrameValue). In (datagram m) (before_close fs)) behind_found i))))

pub dropped_fits : TakesFit worked_policies.server (with_message ∷ []) None [] hands_one one_dropped
dropped_fits = (none_long None, none_long None)

-- where it is taken, its message fits
was_taken : (room : Option ℕ) → TakesFit worked_policies.server (with_message ∷ []) room [] hands_one one_taken → Fits room two_bytes
was_taken room took = (subst (λ (o : Option Opening). AllFit room (and_packet o [])) message_opens took.1) (packet_of (opening message_of_two)) two_bytes (inl refl)
    (subst (λ (fs : List FrameValue). In (datagram two_bytes) (before_close fs)) (sym two_found) (inl refl))

pub long_not : TakesFit worked_policies.server (with_message ∷ []) (Some 1) [] hands_one one_taken → ⊥
long_not took = let fits : ◌≤◌ 2 1 = was_taken (Some 1) took in omega (arith, fits)

pub unasked_not : TakesFit worked_policies.server (with_message ∷ []) None [] hands_one one_taken → ⊥
unasked_not took = was_taken None took
