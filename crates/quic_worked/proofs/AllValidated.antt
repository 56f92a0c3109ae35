-- The addresses of both ends' peers are validated throughout a run where they are at its start and
-- in each view.
use Rattle.std.proofs.Common.{◌≡◌, ℕ, zero, suc, ◌&&◌, Bool, true, false, List, [], ◌∷◌, Some, refl, sym, ap, ◌∙◌}
use Rattle.std.specs.Prelude.{slice_get}
use Rattle.quic_wire_core.specs.declared.stream_id.Side.{Side}
use Rattle.quic_wire_core.specs.declared.stream_id.Side.TheVariants.{Client, Server}
use Rattle.quic_machine.specs.declared.run.View.{View}
use Rattle.quic_machine.specs.Machine.{end_at}
use Rattle.quic_headline.specs.Runs.{Run}
use Rattle.quic_headline.specs.Isolated.{AreValidated}
use Rattle.quic_headline.specs.Polls.{end_in}

-- whether views show them so
abbrev pub all_valid : List View → Bool
all_valid [] = true
all_valid (v ∷ views) = v.client.validated && (v.server.validated && all_valid views)

both : (b c : Bool) → (b && c) ≡ true → (b ≡ true) × (c ≡ true)
both true c is = (refl, is)
both false c is = absurd cc

valid_in : (side : Side) (v : View) → v.client.validated ≡ true → v.server.validated ≡ true → (end_in v side).validated ≡ true
valid_in Client v client server = client
valid_in Server v client server = server

valid_at : (side : Side) (views : List View) (i : ℕ) (v : View) → all_valid views ≡ true → slice_get views i ≡ Some v → (end_in v side).validated ≡ true
valid_at side [] i v all there = cc
valid_at side (u ∷ views) zero v all there =
    let first = both u.client.validated (u.server.validated && all_valid views) all in
    let same : u ≡ v = cc in
    ap (λ (x : View). (end_in x side).validated) (sym same) ∙ valid_in side u first.0 (both u.server.validated (all_valid views) first.1).0
valid_at side (u ∷ views) (suc i) v all there =
    let first = both u.client.validated (u.server.validated && all_valid views) all in
    valid_at side views i v (both u.server.validated (all_valid views) first.1).1 there

pub are_validated : (r : Run) → r.start.client.path.validated ≡ true → r.start.server.path.validated ≡ true → all_valid r.views ≡ true → AreValidated r
are_validated r client server all = record { start = start; behind = λ side i v there lives. valid_at side r.views i v all there }
  where
    start : (side : Side) → (end_at side r.start).path.validated ≡ true
    start Client = client
    start Server = server
