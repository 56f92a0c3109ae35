use Rattle.std.proofs.Common.{◌≡◌, List, [], ◌∷◌, ◌++◌, map, ap, ◌∙◌, None, rules}
use Rattle.quic_wire.specs.FrameView.{stop_sending_view}
use Rattle.quic_wire.specs.Value.{StopSendingValue}
use Rattle.quic_retransmits.specs.Retransmits.{Retransmits as Waiting}
use Rattle.quic_retransmits.proofs.Lasts.{last_gone}
use Rattle.quic_retransmits.proofs.retransmits.Retransmits.take_back_stop_sending.Goals as goal

pub returns : goal.returns
returns c = λ r stop put.
    let seen = c.self.view_is ∙ put in
    let stops : map stop_sending_view c.self.inside.stop_sending.items ≡ r.stop_sending ++ stop ∷ [] = ap (λ (w : Waiting). w.stop_sending) seen in
    let none : c.pop_back.result ≡ None → c.self.inside.stop_sending.items ≡ [] = λ n. search rules in
    let gone : map stop_sending_view c.pop_back.new.self.items ≡ r.stop_sending =
    last_gone stop_sending_view c.self.inside.stop_sending.items c.pop_back.new.self.items c.pop_back.result r.stop_sending stop c.pop_back.ensures.items none stops in
    ap (λ (w : Waiting). record w { stop_sending = map stop_sending_view c.pop_back.new.self.items }) seen ∙ ap (λ (l : List StopSendingValue). record r { stop_sending = l }) gone
