-- A machine that gives a datagram of more bytes than the current size.
use Rattle.std.proofs.Common.{◌≡◌, ℕ, ◌≤◌, ◌⊎◌, [], ◌∷◌, ◌++◌, Some, Ok, refl, inl, inr, ap, arith}
use Rattle.quic_wire_core.specs.declared.shared.EcnCodepoint.TheVariants.{Ect0}
use Rattle.quic_wire_core.specs.declared.stream_id.Side.TheVariants.{Client}
use Rattle.quic_machine.specs.declared.run.Answer.TheVariants as answers
use Rattle.quic_machine.specs.Machine.{IsStep}
use Rattle.quic_headline.specs.Observer.{sents_until}
use Rattle.quic_headline.specs.Headline.{IsHonest}
use Rattle.quic_headline.specs.Polls.{GaveOne, IsSizeProbe}
use Rattle.quic_headline.specs.Sizes.{DatagramsAreSized}
use Rattle.quic_worked.specs.Worked.{worked_policies, once_opened, once_sent, asks_datagram, gives_bytes}
use Rattle.quic_worked.specs.Acknowledged.{client_acked}
use Rattle.quic_worked.specs.Broken.{IsNoRun}
use Rattle.quic_worked.specs.Faults.{writes_full, full_written, too_long, long_sent}
use Rattle.quic_worked.proofs.OwnIds.{honest}
use Rattle.quic_worked.proofs.BrokenRuns.{IsRefused, stops, behind}
use Rattle.quic_worked.proofs.MessageRuns.{given_bytes}
use Rattle.quic_worked.proofs.Steps.{StepsSo, steps_so}
use Rattle.quic_worked.proofs.WorkedRun.{opens}

long_went : sents_until too_long Client 3 ≡ sents_until too_long Client 2 ++ long_sent ∷ []
unfolding client_acked
long_went = refl

gave_long : GaveOne too_long Client 2 0
gave_long = record { transmit = record { size = 1201; ecn = Some Ect0; remote = 0 }; poll = record { event = refl; answer = refl }; served = refl; sent = long_sent; went = long_went }

pub long_wrong : DatagramsAreSized too_long → ⊥
unfolding gave_long
long_wrong h = go (h Client 2 0 gave_long).1
  where
    go : (1201 ≤ 1200) ⊎ IsSizeProbe too_long Client 2 long_sent → ⊥
    go (inl most) = omega (arith, most)
    go (inr probe) = let alone = probe.alone in cc

pub long_is_honest : IsHonest too_long
long_is_honest = honest too_long (record { start = refl; keys = refl; client = (tt, (inl refl, (tt, tt))); server = (tt, (tt, (tt, tt))) })

writes : IsStep worked_policies once_opened writes_full (answers.Write (Ok 977)) full_written
writes =
    let s : StepsSo worked_policies once_opened writes_full (answers.Write (Ok 977)) full_written = steps_so worked_policies once_opened writes_full (answers.Write (Ok 977)) refl in
    record { answer = inl refl; end = s.end; control = s.control; heard = s.heard; openings = tt; others = s.others; lacking = λ lacks. cc }

-- the machine gives a full datagram
long_no : IsRefused full_written asks_datagram (gives_bytes 1201)
unfolding once_sent
long_no (inl e) = let clash : ◌≡◌ {A = ℕ} 1201 1200 = ap given_bytes e in omega (arith, clash)
long_no (inr e) = cc

pub long_is_none : IsNoRun too_long
long_is_none = behind refl opens (behind refl writes (stops _ _ _ _ _ long_no))
