-- What holds of messages between two ends: what the one sent, gave and keeps, and what the other
-- received and keeps, as one group.
use Rattle.std.proofs.Common.{arith}
use Rattle.quic_headline.proofs.Packets.Group.{PacketsHold, meets}
use Rattle.quic_headline.proofs.Places.Parties.{sents_by, Party, came_to}
use Rattle.quic_headline.proofs.Places.Groups.{Group}
use Rattle.quic_headline.proofs.Messages.Counted.{often_none}
use Rattle.quic_headline.proofs.Messages.Going.{Goes, goes_on}
use Rattle.quic_headline.proofs.Messages.Coming.{Comes, comes_more, comes_step}

-- x gives, and y takes: a message went at most as often as it was sent, and was received at most as
-- often as it went
pub record AtMostOnce (x y : Party) : Type 0 where
  pub goes : Goes x.end x.sents x.told
  pub comes : Comes y.end (came_to y x) x.sents y.told

-- over the packets between both ends
pub messages_group : Group PacketsHold AtMostOnce
messages_group = record {
  first = λ x y m there here. record {
    goes = record { most = λ n. (let none = often_none n in omega arith) };
    comes = record { most = λ n. (let none = often_none n in omega arith) };
  };
  writer = λ x y call a c before back. record {
    goes = goes_on x.policy x.end y.given call a x.sents x.told c.gives.owes c.answer c.served before.goes;
    comes = comes_more y.end (came_to y x) x.sents (sents_by x.policy x.end call a) y.told before.comes;
  };
  reader = λ x y call a c before back. record {
    goes = record { most = back.goes.most };
    comes = comes_step x y call a c.joined c.served (meets y x c.takes) c.answer back.comes;
  };
  shows = λ x y here there b back i j. record { goes = record { most = i.goes.most }; comes = record { most = i.comes.most } };
}
