-- The form in which transport parameters are written (RFC 9000, section 18).
use Rattle.std.specs.Prelude.{ℕ, Bool, false, List, [], ◌∷◌, ◌++◌, length, Option, Some, None, IsTrue, ◌==◌, if◌then◌else◌}
use Rattle.std.specs.List.{list_all, count_by}
use Rattle.quic_wire_core.specs.Varint.{shortest}
use Rattle.quic_parameters.specs.declared.transport_parameters.id.TransportParameterId.{TransportParameterId}
use Rattle.quic_parameters.specs.declared.transport_parameters.id.TransportParameterId.TheVariants.{MaxIdleTimeout, MaxUdpPayloadSize, InitialMaxData, InitialMaxStreamDataBidiLocal, InitialMaxStreamDataBidiRemote, InitialMaxStreamDataUni, InitialMaxStreamsBidi, InitialMaxStreamsUni, AckDelayExponent, MaxAckDelay, ActiveConnectionIdLimit, MaxDatagramFrameSize, MinAckDelay}
use Rattle.quic_parameters.specs.Parameters.{ParameterValues, id_of, default_of, value_of}

-- The places of a write order: those of 01, 03, 04, 05, 06, 07, 08, 09, 0a, 0b, 0e, 20 and
-- ff04de1b.
abbrev pub places : List ℕ
places = 0 ∷ 1 ∷ 2 ∷ 3 ∷ 4 ∷ 5 ∷ 6 ∷ 7 ∷ 8 ∷ 9 ∷ 10 ∷ 11 ∷ 12 ∷ []

-- Each place stands once in the order.
abbrev pub IsWriteOrder : List ℕ → Type 0
IsWriteOrder order = IsTrue (list_all (λ place. count_by (λ x. x == place) order == 1) places)

-- The parameter at a place.
abbrev pub parameter_of_place : ℕ → Option TransportParameterId
parameter_of_place place =
    if place == 0 then Some MaxIdleTimeout
    else (if place == 1 then Some MaxUdpPayloadSize
    else (if place == 2 then Some InitialMaxData
    else (if place == 3 then Some InitialMaxStreamDataBidiLocal
    else (if place == 4 then Some InitialMaxStreamDataBidiRemote
    else (if place == 5 then Some InitialMaxStreamDataUni
    else (if place == 6 then Some InitialMaxStreamsBidi
    else (if place == 7 then Some InitialMaxStreamsUni
    else (if place == 8 then Some AckDelayExponent
    else (if place == 9 then Some MaxAckDelay
    else (if place == 10 then Some ActiveConnectionIdLimit
    else (if place == 11 then Some MaxDatagramFrameSize
    else (if place == 12 then Some MinAckDelay
    else None))))))))))))

-- An entry, each of its integers in the shortest form.
abbrev pub shortest_entry : ℕ → List ℕ → List ℕ
shortest_entry id value = shortest id ++ shortest (length value) ++ value

-- The number is the default.
abbrev pub is_default : ℕ → Option ℕ → Bool
is_default v None = false
is_default v (Some d) = v == d

-- What a parameter of this value adds to the list: its entry where there is a value, which isn't
-- the default.
abbrev pub written_value : TransportParameterId → Option ℕ → List ℕ
written_value k None = []
written_value k (Some v) = if is_default v (default_of k) then [] else shortest_entry (id_of k) (shortest v)

-- What the parameter at a place adds, if there is one.
abbrev pub written_place : ParameterValues → Option TransportParameterId → List ℕ
written_place p None = []
written_place p (Some k) = written_value k (value_of p k)

-- The list of the parameters in an order of their places.
abbrev pub written_parameters : ParameterValues → List ℕ → List ℕ
written_parameters p [] = []
written_parameters p (place ∷ order) = written_place p (parameter_of_place place) ++ written_parameters p order
