use Rattle.std.proofs.Common.{◌≡◌, ◌+◌, ◌-◌, ◌≤◌, max, None, Some, true, false, IfSome, sym, subst, ap, ◌∙◌, rules, arith}
use Rattle.std.specs.Option.{is_some}
use Rattle.quic_streams_parts.specs.Table.{at}
use Rattle.quic_streams_parts.specs.RecvHalf.{RecvHalf, greatest_offset, reset_by, after_reset_stream}
use Rattle.quic_streams_halves.specs.Halves.{changed}
use Rattle.quic_streams_state.specs.Parts.{Receiving, seen}
use Rattle.quic_streams_state.specs.Taking.{breach_on}
use Rattle.quic_streams_state.proofs.Arriving.{allowed, if_some, changed_room, unchanged, reset_after_reset}
use Rattle.quic_streams_state.proofs.receiving.Receiving.reset.Goals as goal

pub invariant_of-self : goal.invariant_of-self
invariant_of-self c =
    let r : Receiving = record { halves = c.self.inside.recv; gone = c.self.inside.gone; window = c.self.inside.receive_window; announced = c.self.inside.sent_max_data; stream_window = c.self.inside.stream_receive_window } in
    let P : Receiving → Type 0 = λ x. IfSome (at x.halves.live c.args.id) (λ h. breach_on x h c.args.size true ≡ None) in
    let fits = if_some {Q = λ h. seen r - h.seen + c.args.size ≤ greatest_offset} (at r.halves.live c.args.id) (subst P (sym c.self.view_is) c.requires) (λ h e. let k = (allowed r h c.args.size true e).room in omega arith) in
    changed_room (λ h. record h { seen = c.args.size; final = Some c.args.size }) r c.args.id c.end_at.new.self c.self.invariant fits c.end_at.ensures

pub invariant_of-self-2 : goal.invariant_of-self-2
invariant_of-self-2 c =
    let r : Receiving = record { halves = c.self.inside.recv; gone = c.self.inside.gone; window = c.self.inside.receive_window; announced = c.self.inside.sent_max_data; stream_window = c.self.inside.stream_receive_window } in
    let P : Receiving → Type 0 = λ x. IfSome (at x.halves.live c.args.id) (λ h. breach_on x h c.args.size true ≡ None) in
    let fits = if_some {Q = λ h. seen r - h.seen + c.args.size ≤ greatest_offset} (at r.halves.live c.args.id) (subst P (sym c.self.view_is) c.requires) (λ h e. let k = (allowed r h c.args.size true e).room in omega arith) in
    changed_room (λ h. reset_by h c.args.code c.args.size) r c.args.id c.reset.new.self c.self.invariant fits c.reset.ensures

pub returns-then-is_some : goal.returns-then-is_some
returns-then-is_some c =
    let h = c.in-Some.half.now in
    let r : Receiving = record { halves = c.self.inside.recv; gone = c.self.inside.gone; window = c.self.inside.receive_window; announced = c.self.inside.sent_max_data; stream_window = c.self.inside.stream_receive_window } in
    let found : at r.halves.live c.args.id ≡ Some h = search rules in
    let stopped : h.stopped ≡ false = sym c.is_stopped.ensures ∙ c.if-is_stopped.false in
    let a = c.is_some.ensures in
    let b = c.reset_code.ensures in
    let d = c.if-is_some.true in
    let reset : is_some h.reset ≡ true = cc in
    let same = unchanged (λ h. after_reset_stream h c.args.code c.args.size) r.halves c.args.id h found (reset_after_reset h c.args.code c.args.size stopped reset) in
    subst (λ (x : Receiving). x ≡ record x { halves = changed (λ h. after_reset_stream h c.args.code c.args.size) x.halves c.args.id }) c.self.view_is (sym (ap (λ hs. record r { halves = hs }) same))
