-- The observer of an end knows where the end takes its peer to be, and how often that changed.
use Rattle.std.proofs.Common.{◌≡◌, ℕ, suc, sym, ap, ◌∙◌, subst}
use Rattle.std.specs.Prelude.{◌==◌, not}
use Rattle.quic_wire_core.specs.declared.stream_id.Side.{Side}
use Rattle.quic_machine.specs.Migration.{has_moved}
use Rattle.quic_machine.specs.Machine.{World, end_at}
use Rattle.quic_headline.specs.Runs.{Run, LeadsTo, AreServed}
use Rattle.quic_headline.specs.Observer.{Watch, peer_address, generation_at, path_changes}
use Rattle.quic_headline.specs.Headline.{IsHonest, IsRun}
use Rattle.quic_headline.proofs.Places.Placed.{Placed, placed, watch_is}
use Rattle.quic_headline.proofs.Places.Everything as everything
use Rattle.quic_headline.proofs.Places.Theorems.{ready}
use Rattle.quic_headline.proofs.Halves.Ready.{Ready}
use Rattle.quic_headline.proofs.Steps.Made.{one_behind, served_before}

pub record IsRouted (r : Run) (side : Side) (i : ℕ) (w : World) : Type 0 where
  pub address : peer_address r side i ≡ (end_at side w).path.remote
  pub generation : generation_at r side i ≡ (end_at side w).path.generation

-- all that holds between the ends, at each place
abbrev pub all_placed : (r : Run) (end : World) → IsHonest r → IsRun r end → (side : Side) (i : ℕ) → AreServed r i → Placed (everything.All Ready ready) r end side i
all_placed r end honest run = placed (everything.All Ready ready) (everything.all Ready ready) r end honest run

pub routed_at : (r : Run) (end : World) → IsHonest r → IsRun r end → (side : Side) (i : ℕ) (w : World) → AreServed r i → LeadsTo r i w → IsRouted r side i w
routed_at r end honest run side i w served leads =
    let at = all_placed r end honest run side i served in
    let seen = watch_is r honest at.world i side at.sents at.theirs in
    subst (IsRouted r side i) (one_behind r i at.world w served at.leads leads) (record {
      address = ap (λ (v : Watch). v.route.address) seen ∙ sym at.gives.1.watched.address;
      generation = ap (λ (v : Watch). v.route.generation) seen ∙ sym at.gives.1.watched.path;
    })

-- so it knows whether the path changes
pub changes_at : (r : Run) (end : World) → IsHonest r → IsRun r end → (side : Side) (i : ℕ) (w next : World) → AreServed r (suc i) → LeadsTo r i w → LeadsTo r (suc i) next → path_changes r side i ≡ has_moved (end_at side w) (end_at side next)
changes_at r end honest run side i w next served leads behind =
    ap (λ (g : ℕ). not (g == generation_at r side i)) (routed_at r end honest run side (suc i) next served behind).generation
    ∙ ap (λ (g : ℕ). not ((end_at side next).path.generation == g)) (routed_at r end honest run side i w (served_before r.answers i served) leads).generation
