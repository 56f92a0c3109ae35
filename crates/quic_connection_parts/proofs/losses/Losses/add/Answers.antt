use Rattle.std.proofs.Common.{◌≡◌, Bool, true, false, ◌||◌, refl, ◌∙◌}
use Rattle.quic_machine.specs.Control.{flies}
use Rattle.quic_connection_parts.proofs.losses.Losses.add.Goals.{then-self, else-self}
use Rattle.quic_connection_parts.proofs.losses.Losses.add.Goals as goal

or_true : (a b : Bool) → a ≡ true → a ≡ a || b
or_true a b is = rw is refl

or_false : (a b : Bool) → a ≡ false → b ≡ a || b
or_false a b is = rw is refl

pub returns : goal.returns
returns c =
    let flew : c.if-self.self ≡ (c.self.inside.flew || flies c.args.generation (c.args.number, c.args.packet.now)) = elim c.if-self.branch [
      | then-self w ↦ w.self-is ∙ or_true c.self.inside.flew (flies c.args.generation (c.args.number, c.args.packet.now)) w.if-self.true
      | else-self w ↦ w.self-is ∙ w.flies-self-inside.ensures c.args.number ∙ or_false c.self.inside.flew (flies c.args.generation (c.args.number, c.args.packet.now)) w.if-self.false
    ] in
    rw (flew, c.saturating_add-self-inside.ensures, c.from.ensures, c.on_lost.ensures, c.shows-asks.ensures, c.if-is_probe.false) (rw (← c.self.view_is) (rw (← c.packet.view_is) refl))
