use Rattle.std.proofs.Common.{◌≡◌, false, Option, Some, None, refl, sym, ap, ◌∙◌}
use Rattle.std.specs.Option.{is_some, option_map}
use Rattle.std.specs.String.{string_bytes}
use Rattle.quic_peer_core.specs.declared.runner.Peer.{Peer}
use Rattle.quic_peer_core.specs.Stages.{stage_of}
use Rattle.quic_peer_core.proofs.Making.{making-made, making-refused}
use Rattle.quic_peer_core.proofs.runner.Peer.make.Goals as goal
use Rattle.quic_peer_core.proofs.runner.Peer.make.Goals.{in-Ok, in-Err+in_ok-name-in-Err}

-- what isn't there is none, whatever is read of it
not_read : {A B : Type 0} (f : A → B) (o : Option A) → is_some o ≡ false → option_map f o ≡ None
not_read f None none = refl
not_read f (Some x) none = cc

pub returns : goal.returns
returns c = (
  not_read (λ b. b.value) c.args.self.now.end (sym c.is_some.ensures ∙ c.if-is_some.false),
  elim c.match-make_end.branch [
    | in-Ok w ↦
        making-made c.args.new.now (stage_of c.args.self.now) (stage_of c.match-make_end.self) w.in-Ok.end.value (string_bytes c.in_ok-format.field-0)
        w.in-Ok.ensures.lawful w.in-Ok.ensures.made (rw w.name-is at c.in_ok-format.ensures.ok) (ap (λ (p : Peer). stage_of p) w.self-is)
    | in-Err+in_ok-name-in-Err w ↦
        making-refused c.args.new.now (stage_of c.args.self.now) (stage_of c.match-make_end.self) w.in-Err.error w.in_ok-name-in-Err.name.now (string_bytes c.in_ok-format.field-0)
        w.in-Err.ensures.refusal w.in_ok-name-in-Err.ensures (rw w.name-is at c.in_ok-format.ensures.ok) (ap (λ (p : Peer). stage_of p) w.self-is)
  ],
)
