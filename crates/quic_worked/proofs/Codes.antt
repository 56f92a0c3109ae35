-- The codes of the calls of a run are codes.
use Rattle.std.proofs.Common.{◌≡◌, List, [], ◌∷◌, Bool, true, false, inl, inr, sym, subst}
use Rattle.std.specs.Prelude.{◌||◌}
use Rattle.std.proofs.lemmas.Bool.{or_parts}
use Rattle.quic_machine.specs.declared.run.RunEvent.{RunEvent}
use Rattle.quic_machine.specs.declared.run.Call.{Call}
use Rattle.quic_machine.specs.declared.run.Call.TheVariants as calls
use Rattle.quic_headline.specs.Headline.{CodeIsSmall, AreCodes}

-- the codes of all calls, one behind another
abbrev pub AllSmall : List RunEvent → Type 0
AllSmall [] = Unit {0}
AllSmall (e ∷ es) = CodeIsSmall e.call × AllSmall es

pub small_codes : (events : List RunEvent) → AllSmall events → AreCodes events
small_codes [] small event i = absurd i
small_codes (e ∷ es) small event (inl is) = subst (λ (x : RunEvent). CodeIsSmall x.call) (sym is) small.0
small_codes (e ∷ es) small event (inr i) = small_codes es small.1 event i

-- ---- runs whose calls give no code

-- whether a call gives a code
abbrev pub has_code : Call → Bool
has_code (calls.Reset id code) = true
has_code (calls.Stop id code) = true
has_code (calls.Close close) = true
has_code call = false

-- whether one of these events does
abbrev pub have_codes : List RunEvent → Bool
have_codes [] = false
have_codes (e ∷ es) = has_code e.call || have_codes es

small : (call : Call) → has_code call ≡ false → CodeIsSmall call
small (calls.Reset id code) none = absurd cc
small (calls.Stop id code) none = absurd cc
small (calls.Close close) none = absurd cc
small call none = tt

all_small : (events : List RunEvent) → have_codes events ≡ false → AllSmall events
all_small [] none = tt
all_small (e ∷ es) none = let parts = or_parts (has_code e.call) (have_codes es) none in (small e.call parts.0, all_small es parts.1)

pub no_codes : (events : List RunEvent) → have_codes events ≡ false → AreCodes events
no_codes events none = small_codes events (all_small events none)
