-- What the tables of transport parameters say together.
use Rattle.std.proofs.Common.{◌≡◌, ℕ, ◌^◌, ◌≤◌, ◌<◌, Bool, true, false, cond, eqb, List, ◌∷◌, length, set, Option, Some, None, Result, Ok, refl, sym, ap, ◌∙◌, arith}
use Rattle.std.proofs.lemmas.Bool.{ne_eqb, eq-eqb, eqb-true}
use Rattle.std.proofs.lemmas.List.{get_or-set_same, get_or-set_other}
use Rattle.quic_parameters.specs.declared.transport_parameters.id.TransportParameterId.{TransportParameterId}
use Rattle.quic_parameters.specs.declared.transport_parameters.id.TransportParameterId.TheVariants.{MaxIdleTimeout, MaxUdpPayloadSize, InitialMaxData, InitialMaxStreamDataBidiLocal, InitialMaxStreamDataBidiRemote, InitialMaxStreamDataUni, InitialMaxStreamsBidi, InitialMaxStreamsUni, AckDelayExponent, MaxAckDelay, ActiveConnectionIdLimit, MaxDatagramFrameSize, MinAckDelay}
use Rattle.quic_parameters.specs.declared.transport_parameters.error.TransportParametersError.{TransportParametersError}
use Rattle.quic_parameters.specs.Parameters.{ParameterValues, id_of, place_of, default_of, most_of, counted, value_of, number, values_by, IsInRange, standing}
use Rattle.quic_parameters.specs.ParametersRead.{parameter_at, met_at, none_met, met_or, values_met}
use Rattle.quic_parameters.specs.ParametersWritten.{parameter_of_place}

-- ---- the tables of parameters

-- An answer, as a function.
abbrev pub some : {A : Type 0} → A → Option A
some x = Some x

-- Values that were read, as a function.
abbrev pub ok : ParameterValues → Result ParameterValues TransportParametersError
ok p = Ok p

-- Equal answers are of equal values.
pub some_is : {A : Type 0} (x y : A) → some x ≡ some y → x ≡ y
some_is x y e = cc

-- The id of a parameter is read as that parameter.
pub parameter_again : (k : TransportParameterId) → parameter_at (id_of k) ≡ Some k
parameter_again MaxIdleTimeout = refl
parameter_again MaxUdpPayloadSize = refl
parameter_again InitialMaxData = refl
parameter_again InitialMaxStreamDataBidiLocal = refl
parameter_again InitialMaxStreamDataBidiRemote = refl
parameter_again InitialMaxStreamDataUni = refl
parameter_again InitialMaxStreamsBidi = refl
parameter_again InitialMaxStreamsUni = refl
parameter_again AckDelayExponent = refl
parameter_again MaxAckDelay = refl
parameter_again ActiveConnectionIdLimit = refl
parameter_again MaxDatagramFrameSize = refl
parameter_again MinAckDelay = refl

-- The place of a parameter is that of no other.
pub place_again : (k : TransportParameterId) → parameter_of_place (place_of k) ≡ Some k
place_again MaxIdleTimeout = refl
place_again MaxUdpPayloadSize = refl
place_again InitialMaxData = refl
place_again InitialMaxStreamDataBidiLocal = refl
place_again InitialMaxStreamDataBidiRemote = refl
place_again InitialMaxStreamDataUni = refl
place_again InitialMaxStreamsBidi = refl
place_again InitialMaxStreamsUni = refl
place_again AckDelayExponent = refl
place_again MaxAckDelay = refl
place_again ActiveConnectionIdLimit = refl
place_again MaxDatagramFrameSize = refl
place_again MinAckDelay = refl

-- A place is below thirteen.
pub place_below : (k : TransportParameterId) → place_of k < 13
place_below MaxIdleTimeout = omega arith
place_below MaxUdpPayloadSize = omega arith
place_below InitialMaxData = omega arith
place_below InitialMaxStreamDataBidiLocal = omega arith
place_below InitialMaxStreamDataBidiRemote = omega arith
place_below InitialMaxStreamDataUni = omega arith
place_below InitialMaxStreamsBidi = omega arith
place_below InitialMaxStreamsUni = omega arith
place_below AckDelayExponent = omega arith
place_below MaxAckDelay = omega arith
place_below ActiveConnectionIdLimit = omega arith
place_below MaxDatagramFrameSize = omega arith
place_below MinAckDelay = omega arith

-- Values in range are integers that can be spelled.
pub most_below : (k : TransportParameterId) → most_of k < 2 ^ 62
most_below MaxIdleTimeout = omega arith
most_below MaxUdpPayloadSize = omega arith
most_below InitialMaxData = omega arith
most_below InitialMaxStreamDataBidiLocal = omega arith
most_below InitialMaxStreamDataBidiRemote = omega arith
most_below InitialMaxStreamDataUni = omega arith
most_below InitialMaxStreamsBidi = omega arith
most_below InitialMaxStreamsUni = omega arith
most_below AckDelayExponent = omega arith
most_below MaxAckDelay = omega arith
most_below ActiveConnectionIdLimit = omega arith
most_below MaxDatagramFrameSize = omega arith
most_below MinAckDelay = omega arith

-- Ids are integers that can be spelled.
pub id_below : (k : TransportParameterId) → id_of k < 2 ^ 62
id_below MaxIdleTimeout = omega arith
id_below MaxUdpPayloadSize = omega arith
id_below InitialMaxData = omega arith
id_below InitialMaxStreamDataBidiLocal = omega arith
id_below InitialMaxStreamDataBidiRemote = omega arith
id_below InitialMaxStreamDataUni = omega arith
id_below InitialMaxStreamsBidi = omega arith
id_below InitialMaxStreamsUni = omega arith
id_below AckDelayExponent = omega arith
id_below MaxAckDelay = omega arith
id_below ActiveConnectionIdLimit = omega arith
id_below MaxDatagramFrameSize = omega arith
id_below MinAckDelay = omega arith

-- Values in range stand for themselves.
pub counted_same : (k : TransportParameterId) (v : ℕ) → v ≤ most_of k → counted k v ≡ v
counted_same MaxIdleTimeout v most = refl
counted_same MaxUdpPayloadSize v most = omega arith
counted_same InitialMaxData v most = refl
counted_same InitialMaxStreamDataBidiLocal v most = refl
counted_same InitialMaxStreamDataBidiRemote v most = refl
counted_same InitialMaxStreamDataUni v most = refl
counted_same InitialMaxStreamsBidi v most = refl
counted_same InitialMaxStreamsUni v most = refl
counted_same AckDelayExponent v most = refl
counted_same MaxAckDelay v most = refl
counted_same ActiveConnectionIdLimit v most = refl
counted_same MaxDatagramFrameSize v most = refl
counted_same MinAckDelay v most = refl

-- Where nothing is met, no parameter is.
pub none_met_at : (k : TransportParameterId) → met_at none_met k ≡ None
none_met_at MaxIdleTimeout = refl
none_met_at MaxUdpPayloadSize = refl
none_met_at InitialMaxData = refl
none_met_at InitialMaxStreamDataBidiLocal = refl
none_met_at InitialMaxStreamDataBidiRemote = refl
none_met_at InitialMaxStreamDataUni = refl
none_met_at InitialMaxStreamsBidi = refl
none_met_at InitialMaxStreamsUni = refl
none_met_at AckDelayExponent = refl
none_met_at MaxAckDelay = refl
none_met_at ActiveConnectionIdLimit = refl
none_met_at MaxDatagramFrameSize = refl
none_met_at MinAckDelay = refl

-- one more line of a table
row : (f : TransportParameterId → ℕ) (n : ℕ) (j k : TransportParameterId) (m : ℕ) (o : Option TransportParameterId) → f j ≡ m → (o ≡ Some k → n ≡ f k) → (b : Bool) → eqb n m ≡ b → cond b (Some j) o ≡ Some k → n ≡ f k
row f n j k m o at others true e h = eqb-true _ _ e ∙ sym at ∙ ap f (some_is j k h)
row f n j k m o at others false e h = others h

-- What is read as a parameter is its id.
pub parameter_is : (id : ℕ) (k : TransportParameterId) → parameter_at id ≡ Some k → id ≡ id_of k
parameter_is id k =
    row id_of id MaxIdleTimeout k _ _ refl
    (row id_of id MaxUdpPayloadSize k _ _ refl
    (row id_of id InitialMaxData k _ _ refl
    (row id_of id InitialMaxStreamDataBidiLocal k _ _ refl
    (row id_of id InitialMaxStreamDataBidiRemote k _ _ refl
    (row id_of id InitialMaxStreamDataUni k _ _ refl
    (row id_of id InitialMaxStreamsBidi k _ _ refl
    (row id_of id InitialMaxStreamsUni k _ _ refl
    (row id_of id AckDelayExponent k _ _ refl
    (row id_of id MaxAckDelay k _ _ refl
    (row id_of id ActiveConnectionIdLimit k _ _ refl
    (row id_of id MaxDatagramFrameSize k _ _ refl
    (row id_of id MinAckDelay k _ None refl (λ h. absurd cc) _ refl)
    _ refl)
    _ refl)
    _ refl)
    _ refl)
    _ refl)
    _ refl)
    _ refl)
    _ refl)
    _ refl)
    _ refl)
    _ refl)
    _ refl

-- What is taken for the place of a parameter is its place.
pub place_is : (place : ℕ) (k : TransportParameterId) → parameter_of_place place ≡ Some k → place ≡ place_of k
place_is place k =
    row place_of place MaxIdleTimeout k _ _ refl
    (row place_of place MaxUdpPayloadSize k _ _ refl
    (row place_of place InitialMaxData k _ _ refl
    (row place_of place InitialMaxStreamDataBidiLocal k _ _ refl
    (row place_of place InitialMaxStreamDataBidiRemote k _ _ refl
    (row place_of place InitialMaxStreamDataUni k _ _ refl
    (row place_of place InitialMaxStreamsBidi k _ _ refl
    (row place_of place InitialMaxStreamsUni k _ _ refl
    (row place_of place AckDelayExponent k _ _ refl
    (row place_of place MaxAckDelay k _ _ refl
    (row place_of place ActiveConnectionIdLimit k _ _ refl
    (row place_of place MaxDatagramFrameSize k _ _ refl
    (row place_of place MinAckDelay k _ None refl (λ h. absurd cc) _ refl)
    _ refl)
    _ refl)
    _ refl)
    _ refl)
    _ refl)
    _ refl)
    _ refl)
    _ refl)
    _ refl)
    _ refl)
    _ refl)
    _ refl

-- Parameters of one place are one.
pub same_place : (j k : TransportParameterId) → place_of j ≡ place_of k → j ≡ k
same_place j k e = some_is j k (sym (place_again j) ∙ ap parameter_of_place e ∙ place_again k)

-- Parameters of one id are one.
pub same_id : (j k : TransportParameterId) → id_of j ≡ id_of k → j ≡ k
same_id j k e = some_is j k (sym (parameter_again j) ∙ ap parameter_at e ∙ parameter_again k)

-- An entry of an id stands first there.
pub standing_same : (id : ℕ) (e : ℕ × List ℕ) (es : List (ℕ × List ℕ)) → e.0 ≡ id → standing id (e ∷ es) ≡ e.1 ∷ standing id es
standing_same id e es same = rw (eq-eqb e.0 id same) refl

-- An entry of another id leaves what stands at an id.
pub standing_other : (id : ℕ) (e : ℕ × List ℕ) (es : List (ℕ × List ℕ)) → (e.0 ≡ id → ⊥) → standing id (e ∷ es) ≡ standing id es
standing_other id e es other = rw (ne_eqb e.0 id other) refl

-- A parameter that is met has its value.
pub met_at_same : (met : List (Option ℕ)) (k : TransportParameterId) (v : ℕ) → length met ≡ 13 → met_at (set met (place_of k) (Some v)) k ≡ Some v
met_at_same met k v whole = get_or-set_same met (place_of k) (Some v) None (let lt = place_below k in omega arith)

-- Meeting a parameter leaves the others.
pub met_at_other : (met : List (Option ℕ)) (j k : TransportParameterId) (v : ℕ) → (place_of k ≡ place_of j → ⊥) → met_at (set met (place_of j) (Some v)) k ≡ met_at met k
met_at_other met j k v other = get_or-set_other met (place_of j) (place_of k) (Some v) None other

-- Each default is in range.
pub default_in_range : (k : TransportParameterId) → IsInRange k (default_of k)
default_in_range MaxIdleTimeout = (omega arith, omega arith)
default_in_range MaxUdpPayloadSize = (omega arith, omega arith)
default_in_range InitialMaxData = (omega arith, omega arith)
default_in_range InitialMaxStreamDataBidiLocal = (omega arith, omega arith)
default_in_range InitialMaxStreamDataBidiRemote = (omega arith, omega arith)
default_in_range InitialMaxStreamDataUni = (omega arith, omega arith)
default_in_range InitialMaxStreamsBidi = (omega arith, omega arith)
default_in_range InitialMaxStreamsUni = (omega arith, omega arith)
default_in_range AckDelayExponent = (omega arith, omega arith)
default_in_range MaxAckDelay = (omega arith, omega arith)
default_in_range ActiveConnectionIdLimit = (omega arith, omega arith)
default_in_range MaxDatagramFrameSize = (omega arith, omega arith)
default_in_range MinAckDelay = tt

-- a parameter that has a default has a value
some_or : (o : Option ℕ) (d : ℕ) → some (number (met_or o (Some d))) ≡ met_or o (Some d)
some_or None d = refl
some_or (Some v) d = refl

or_none : (o : Option ℕ) → o ≡ met_or o None
or_none None = refl
or_none (Some v) = refl

-- The values that were met are those of the parameters.
pub value_met : (met : List (Option ℕ)) (k : TransportParameterId) → value_of (values_met met) k ≡ met_or (met_at met k) (default_of k)
unfolding values_met
value_met met MaxIdleTimeout = some_or (met_at met MaxIdleTimeout) 0
value_met met MaxUdpPayloadSize = some_or (met_at met MaxUdpPayloadSize) 65527
value_met met InitialMaxData = some_or (met_at met InitialMaxData) 0
value_met met InitialMaxStreamDataBidiLocal = some_or (met_at met InitialMaxStreamDataBidiLocal) 0
value_met met InitialMaxStreamDataBidiRemote = some_or (met_at met InitialMaxStreamDataBidiRemote) 0
value_met met InitialMaxStreamDataUni = some_or (met_at met InitialMaxStreamDataUni) 0
value_met met InitialMaxStreamsBidi = some_or (met_at met InitialMaxStreamsBidi) 0
value_met met InitialMaxStreamsUni = some_or (met_at met InitialMaxStreamsUni) 0
value_met met AckDelayExponent = some_or (met_at met AckDelayExponent) 3
value_met met MaxAckDelay = some_or (met_at met MaxAckDelay) 25
value_met met ActiveConnectionIdLimit = some_or (met_at met ActiveConnectionIdLimit) 2
value_met met MaxDatagramFrameSize = some_or (met_at met MaxDatagramFrameSize) 0
value_met met MinAckDelay = refl

by_same : (f g : TransportParameterId → Option ℕ) → ((k : TransportParameterId) → f k ≡ g k) → values_by f ≡ values_by g
by_same f g h = rw (h MaxIdleTimeout, h MaxUdpPayloadSize, h InitialMaxData, h InitialMaxStreamDataBidiLocal, h InitialMaxStreamDataBidiRemote, h InitialMaxStreamDataUni, h InitialMaxStreamsBidi, h InitialMaxStreamsUni, h AckDelayExponent, h MaxAckDelay, h ActiveConnectionIdLimit, h MaxDatagramFrameSize, h MinAckDelay) refl

-- Values are the same where each parameter's is.
pub values_same : (p q : ParameterValues) → ((k : TransportParameterId) → value_of p k ≡ value_of q k) → p ≡ q
values_same p q h = by_same (value_of p) (value_of q) h
