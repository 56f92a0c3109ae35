-- An end that closes shows why; one that is drained for no reason is none of the machine's, nor one
-- that fails though no memory lacked.
use Rattle.std.proofs.Common.{◌≡◌, [], ◌∷◌, None, Ok, refl, ap, ◌∙◌}
use Rattle.quic_wire_core.specs.declared.stream_id.Side.TheVariants.{Client}
use Rattle.quic_machine.specs.declared.answers.State.TheVariants as states
use Rattle.quic_machine.specs.declared.run.Call.TheVariants as calls
use Rattle.quic_machine.specs.declared.run.Answer.TheVariants as answers
use Rattle.quic_machine.specs.declared.run.View.{View}
use Rattle.quic_machine.specs.End.{End}
use Rattle.quic_machine.specs.Machine.{World, Follows, end_left}
use Rattle.quic_headline.specs.Reasons.{ClosedHasAReason, NeverFails}
use Rattle.quic_headline.proofs.Causes.Reasons.{views_explain}
use Rattle.quic_worked.specs.Worked.{worked_policies, started, server_open, asks_datagram}
use Rattle.quic_worked.specs.Closed.{silent_view, drains_silently, fails_silently, last_run, last_closed}
use Rattle.quic_worked.specs.Timed.{NeverShows}
use Rattle.quic_worked.proofs.UsedUpRun.{last_is_run}

pub last_explains : ClosedHasAReason last_run
last_explains = views_explain last_run.keys last_run.start last_closed last_run.events last_run.answers last_run.views last_is_run.follows (tt, tt)

pub drains_wrongly : ClosedHasAReason drains_silently → ⊥
drains_wrongly h = h Client 0 (record { client = silent_view; server = server_open }) refl

-- a poll of a new end leaves it open
stays_open : (end_left worked_policies.client started.client_control started.client_heard started.client [] (calls.Poll 0) (answers.Poll (Ok None))).closing.state ≡ states.Open
stays_open = refl

-- so the view behind it shows
shows_open : (v : View) (end : World) → Follows worked_policies started (asks_datagram ∷ []) (answers.Poll (Ok None) ∷ []) (v ∷ []) end → v.client.state ≡ states.Open
shows_open v end f =
    let polls : f.0.client ≡ end_left worked_policies.client started.client_control started.client_heard started.client [] (calls.Poll 0) (answers.Poll (Ok None)) = f.1.end in
    ap (λ (u : View). u.client.state) f.2 ∙ ap (λ (e : End). e.closing.state) polls ∙ stays_open

pub never_silent : NeverShows drains_silently
never_silent end f =
    let clash : states.Drained ≡ states.Open = shows_open (record { client = silent_view; server = server_open }) end f in
    cc

pub fails_wrongly : NeverFails fails_silently → ⊥
fails_wrongly h = h Client 1 refl refl

pub never_failing : NeverShows fails_silently
never_failing end f =
    let clash : states.Failed ≡ states.Open = shows_open (record { client = record silent_view { state = states.Failed }; server = server_open }) end f in
    cc
