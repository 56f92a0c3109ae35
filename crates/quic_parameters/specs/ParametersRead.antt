-- What a list of transport parameters is read as: the values, or the first refusal (RFC 9000,
-- sections 7.4 and 18).
use Rattle.std.specs.Prelude.{ℕ, zero, suc, ◌*◌, Bool, false, ◌||◌, List, [], ◌∷◌, length, take, drop, replicate, Option, Some, None, is_some, Result, Ok, Err, nat_lt, ◌==◌, slice_index_or, slice_set, if◌then◌else◌}
use Rattle.quic_wire_core.specs.Varint.{varint_at}
use Rattle.quic_parameters.specs.declared.transport_parameters.id.TransportParameterId.{TransportParameterId}
use Rattle.quic_parameters.specs.declared.transport_parameters.id.TransportParameterId.TheVariants.{MaxIdleTimeout, MaxUdpPayloadSize, InitialMaxData, InitialMaxStreamDataBidiLocal, InitialMaxStreamDataBidiRemote, InitialMaxStreamDataUni, InitialMaxStreamsBidi, InitialMaxStreamsUni, AckDelayExponent, MaxAckDelay, ActiveConnectionIdLimit, MaxDatagramFrameSize, MinAckDelay}
use Rattle.quic_parameters.specs.declared.transport_parameters.error.TransportParametersError.{TransportParametersError}
use Rattle.quic_parameters.specs.declared.transport_parameters.error.TransportParametersError.TheVariants.{Malformed, IllegalValue}
use Rattle.quic_wire_core.specs.Taking.{◌>>=◌}
use Rattle.quic_parameters.specs.Parameters.{ParameterValues, place_of, default_of, least_of, most_of, counted, values_by}

-- A list that can't be read on is malformed.
abbrev pub or_malformed : {T : Type 0} → Option T → Result T TransportParametersError
or_malformed None = Err Malformed
or_malformed (Some x) = Ok x

-- The integer at the front, and what follows it.
abbrev pub number_at : List ℕ → Result (ℕ × List ℕ) TransportParametersError
number_at bytes = or_malformed (varint_at bytes)

-- The entry at the front, an id and a value, and what follows it. A list that ends within it is
-- malformed (RFC 9000, section 18).
unfoldable pub entry_at : List ℕ → Result ((ℕ × List ℕ) × List ℕ) TransportParametersError
entry_at bytes = do
  id ← number_at bytes
  len ← number_at id.1
  if nat_lt (length len.1) len.0 then Err Malformed else Ok ((id.0, take len.0 len.1), drop len.0 len.1)

-- The integer that a value's bytes spell: they hold nothing behind it.
unfoldable pub whole_at : List ℕ → Result ℕ TransportParametersError
whole_at bytes = do
  v ← number_at bytes
  if length v.1 == 0 then Ok v.0 else Err Malformed

-- The parameter of an id, where it is one that is kept.
abbrev pub parameter_at : ℕ → Option TransportParameterId
parameter_at id =
    if id == 0x01 then Some MaxIdleTimeout
    else (if id == 0x03 then Some MaxUdpPayloadSize
    else (if id == 0x04 then Some InitialMaxData
    else (if id == 0x05 then Some InitialMaxStreamDataBidiLocal
    else (if id == 0x06 then Some InitialMaxStreamDataBidiRemote
    else (if id == 0x07 then Some InitialMaxStreamDataUni
    else (if id == 0x08 then Some InitialMaxStreamsBidi
    else (if id == 0x09 then Some InitialMaxStreamsUni
    else (if id == 0x0a then Some AckDelayExponent
    else (if id == 0x0b then Some MaxAckDelay
    else (if id == 0x0e then Some ActiveConnectionIdLimit
    else (if id == 0x20 then Some MaxDatagramFrameSize
    else (if id == 0xff04de1b then Some MinAckDelay
    else None))))))))))))

-- The value of a parameter that was met, by its place: nothing before it is met.
abbrev pub met_at : List (Option ℕ) → TransportParameterId → Option ℕ
met_at met k = slice_index_or met (place_of k) None

-- A number is below a parameter's range, or above it.
abbrev pub is_out : TransportParameterId → ℕ → Bool
is_out k v = nat_lt v (least_of k) || nat_lt (most_of k) v

-- An entry of a parameter, judged after the entries before it: it repeats none, its value is an
-- integer, and what this stands for in range.
unfoldable pub met_after : List (Option ℕ) → TransportParameterId → List ℕ → Result (List (Option ℕ)) TransportParametersError
met_after met k value =
    if is_some (met_at met k) then Err Malformed else do
      n ← whole_at value
      if is_out k (counted k n) then Err IllegalValue else Ok (slice_set met (place_of k) (Some (counted k n)))

-- An entry, judged after the entries before it: that of another id is skipped (RFC 9000, section
-- 7.4.2).
abbrev pub met_with : List (Option ℕ) → Option TransportParameterId → List ℕ → Result (List (Option ℕ)) TransportParametersError
met_with met None value = Ok met
met_with met (Some k) value = met_after met k value

-- At most n entries, judged one after another.
unfoldable pub met_within : ℕ → List (Option ℕ) → List ℕ → Result (List (Option ℕ)) TransportParametersError
met_within zero met bytes = Ok met
met_within (suc n) met [] = Ok met
met_within (suc n) met (b ∷ bytes) = do
  e ← entry_at (b ∷ bytes)
  more ← met_with met (parameter_at e.0.0) e.0.1
  met_within n more e.1

-- Nothing is met.
abbrev pub none_met : List (Option ℕ)
none_met = replicate 13 None

-- The entries of a list, judged one after another: each takes a byte or more.
unfoldable pub met_in : List (Option ℕ) → List ℕ → Result (List (Option ℕ)) TransportParametersError
met_in met bytes = met_within (length bytes) met bytes

-- What was met, or else the default.
abbrev pub met_or : Option ℕ → Option ℕ → Option ℕ
met_or None default = default
met_or (Some v) default = Some v

-- The values that were met, and the defaults of the others.
unfoldable pub values_met : List (Option ℕ) → ParameterValues
values_met met = values_by (λ k. met_or (met_at met k) (default_of k))

-- The least delay of an ACK, in microseconds, is longer than the greatest, in milliseconds.
abbrev pub is_longer : Option ℕ → ℕ → Bool
is_longer None ms = false
is_longer (Some us) ms = nat_lt (1000 * ms) us

-- The values, where the two delays fit one another.
unfoldable pub judged : ParameterValues → Result ParameterValues TransportParametersError
judged p = if is_longer p.min_ack_delay p.max_ack_delay then Err IllegalValue else Ok p

-- The values of a list of parameters, or the first refusal in its order. Two delays are judged by
-- one another once all of the list is read.
unfoldable pub parameters_at : List ℕ → Result ParameterValues TransportParametersError
parameters_at bytes = do
  met ← met_in none_met bytes
  judged (values_met met)
