-- Two ends agree on their connection ids (RFC 9000, section 5.1): each knows ids of the other that
-- were issued, uses one that lives there, and retires those below it.
use Rattle.std.proofs.Common.{ℕ, ◌+◌, ◌-◌, ◌<◌, ◌≤◌, arith}
use Rattle.quic_wire_core.specs.declared.shared.IssuedCid.{IssuedCid}
use Rattle.quic_wire.specs.Value.{FrameValue}
use Rattle.quic_ids.specs.CidQueue.{kept_ids}
use Rattle.quic_config.specs.Configs.{ids_kept}
use Rattle.quic_machine.specs.declared.run.Call.{Call}
use Rattle.quic_machine.specs.declared.run.Answer.{Answer}
use Rattle.quic_machine.specs.Ids.{Ids, most_ids, words_behind, drawn_ids, later_numbers}
use Rattle.quic_machine.specs.End.{End}
use Rattle.quic_headline.specs.Runs.{In, Intake}
use Rattle.quic_headline.specs.Observer.{Sent}
use Rattle.quic_headline.proofs.Packets.Group.{PacketsHold, meets}
use Rattle.quic_headline.proofs.Packets.Ids.{Waits, SentSayIds, call_says}
use Rattle.quic_headline.proofs.Places.Parties.{Party, called, came_to, Beginning, begun_as}
use Rattle.quic_headline.proofs.Places.Groups.{Way, Calls, Group}
use Rattle.quic_headline.proofs.Places.Coming.{by_coming}
use Rattle.quic_headline.proofs.Halves.KnownIds.{range_in}
use Rattle.quic_headline.proofs.Duties.OfIds.{NoneAsked, call_asks_none}
use Rattle.quic_headline.proofs.Channel.IdLists.{owns_later, owned_near, first_owns, knows_later, drawn_numbers}
use Rattle.quic_headline.proofs.Channel.IdSteps.{IsIssued, IsBelow, waits_more, IdsGo, IdsStand, Comes, call_stands, arrivals_stand, say_at}
use Rattle.quic_headline.proofs.Packets.Delivered.{frames_at, among_at}
use Rattle.quic_headline.proofs.Packets.Strays.{acks_at}
use Rattle.quic_headline.proofs.Packets.Named.{NamesTaken}

-- What x keeps of its ids as y uses them, and of those of y; and its datagrams tell of ids that it
-- issued, ask for no retirements, and retire ids below the one in use.
pub record IdsAgree (x y : Party) : Type 0 where
  pub stands : IdsStand y.end.ids.peer.active y.end.ids.own.issued 0 0 x.end.ids x.end.waiting.frames
  pub says : SentSayIds (IsIssued x.end.ids.own.issued) (IsBelow x.end.ids.peer.active) x.sents
  pub none : NoneAsked x.sents

-- so it is from the present numbers on
pub from_now : (used issued : ℕ) (ids : Ids) → IdsGo used issued 0 0 ids → IdsGo used issued ids.own.issued ids.peer.active ids
from_now used issued ids i = record { owns = i.owns; more = omega arith; knows = i.knows; rises = omega arith }

-- each frame that x gave says what y expects of it
pub each_comes : (x y : Party) → IdsAgree x y → (s : Sent) → In s x.sents → (f : FrameValue) → In f s.frames → Comes x.end.ids.peer.active x.end.ids.own.issued y.end.ids.own.issued y.end.ids.peer.active f
each_comes x y i s among f j = (i.says s f among j, i.none s among f j)

-- x issued no more ids than y may know
pub issued_near : (x y : Party) → IdsAgree x y → x.end.ids.own.issued ≤ y.end.ids.peer.active + kept_ids
issued_near x y i = owned_near y.end.ids.peer.active x.end.ids.limit x.end.ids.own i.stands.go.owns

module _ (B : Way) (packets : (x y : Party) → B x y → PacketsHold x y) where
  -- x makes a call: what it keeps
  kept : (x y : Party) (call : Call) (a : Answer) → Calls B x y call a → IdsAgree x y → IdsAgree y x
      → (let e : End = (called x y.given call a).end in IdsStand y.end.ids.peer.active y.end.ids.own.issued x.end.ids.own.issued x.end.ids.peer.active e.ids e.waiting.frames)
  kept x y call a c i back = by_coming x y a c.joined c.served (meets y x q) (λ (e : End) (j : Intake). IdsStand used issued least low e.ids e.waiting.frames) call c.answer (record {
    apart = λ apart. call_stands used issued least low (came_to y x).took x.sents i.says x.policy x.end y.given call a apart p.tracked now;
    none = λ delivery is. now;
    comes = λ delivery is s among here. arrivals_stand used issued least low (came_to y x).took x.sents i.says (record { taken = p.taken; rising = p.gives.rising }) x.end delivery.now s.number s.frames (frames_at here s.frames) (came_to x y)
        (among_at (Comes used issued least low) (tt, tt) here s.frames (each_comes y x back s among)) (acks_at (NamesTaken (came_to y x).took) here s.frames (λ a i k named. q.named s a k among i named)) p.tracked now;
  })
    where
      used : ℕ
      used = y.end.ids.peer.active

      issued : ℕ
      issued = y.end.ids.own.issued

      least : ℕ
      least = x.end.ids.own.issued

      low : ℕ
      low = x.end.ids.peer.active

      p : PacketsHold x y
      p = packets x y c.gives

      q : PacketsHold y x
      q = packets y x c.takes

      now : IdsStand used issued least low x.end.ids x.end.waiting.frames
      now = record { go = from_now used issued x.end.ids i.stands.go; waits = i.stands.waits }

  agree_writer : (x y : Party) (call : Call) (a : Answer) → Calls B x y call a → IdsAgree x y → IdsAgree y x → IdsAgree (called x y.given call a) y
  agree_writer x y call a c i back = record {
    stands = record { go = record { owns = next.go.owns; more = omega arith; knows = next.go.knows; rises = omega arith }; waits = next.waits };
    says = call_says (IsIssued e.ids.own.issued) (IsBelow e.ids.peer.active) x.policy x.end y.given call a x.sents c.answer c.served p.owes says p.tracked waits;
    none = call_asks_none x.policy x.end y.given call a x.sents c.answer c.served p.owes i.none;
  }
    where
      e : End
      e = (called x y.given call a).end

      p : PacketsHold x y
      p = packets x y c.gives

      next : IdsStand y.end.ids.peer.active y.end.ids.own.issued x.end.ids.own.issued x.end.ids.peer.active e.ids e.waiting.frames
      next = kept x y call a c i back

      says : SentSayIds (IsIssued e.ids.own.issued) (IsBelow e.ids.peer.active) x.sents
      says = say_at y.end.ids.peer.active y.end.ids.own.issued x.end.ids.own.issued x.end.ids.peer.active (came_to y x).took x.sents i.says e.ids next.go

      waits : Waits (IsIssued e.ids.own.issued) (IsBelow e.ids.peer.active) x.end.waiting.frames
      waits = waits_more (IsIssued x.end.ids.own.issued) (IsIssued e.ids.own.issued) (IsBelow x.end.ids.peer.active) (IsBelow e.ids.peer.active) x.end.waiting.frames
          (λ cid less. (let before : cid.sequence < x.end.ids.own.issued = less in let more = next.go.more in omega arith)) (λ n less. (let before : n < x.end.ids.peer.active = less in let rises = next.go.rises in omega arith)) i.stands.waits

  agree_reader : (x y : Party) (call : Call) (a : Answer) → Calls B x y call a → IdsAgree x y → IdsAgree y x → IdsAgree y (called x y.given call a)
  agree_reader x y call a c there i = record {
    stands = record {
      go = record {
        owns = owns_later x.end.ids.peer.active e.ids.peer.active y.end.ids.limit y.end.ids.own next.go.rises next.go.knows.active i.stands.go.owns;
        more = omega arith;
        knows = knows_later x.end.ids.own.issued e.ids.own.issued y.end.ids.peer next.go.more i.stands.go.knows;
        rises = omega arith;
      };
      waits = i.stands.waits;
    };
    says = i.says;
    none = i.none;
  }
    where
      e : End
      e = (called x y.given call a).end

      next : IdsStand y.end.ids.peer.active y.end.ids.own.issued x.end.ids.own.issued x.end.ids.peer.active e.ids e.waiting.frames
      next = kept x y call a c there i

  -- so it is at each place
  pub agree_group : Group B IdsAgree
  agree_group = record {
    first = λ x y m there back. agree_first x y;
    writer = agree_writer;
    reader = λ x y call a c there i. agree_reader x y call a c there i;
    shows = λ x y here there b back i j. record { stands = i.stands; says = i.says; none = i.none };
  }
    where
      agree_first : (x y : Beginning) → IdsAgree (begun_as x y) (begun_as y x)
      agree_first x y = record {
        stands = record {
          go = record {
            owns = first_owns x.making.moment (most_ids ids_kept) some most;
            more = omega arith;
            knows = record { window = tt; active = some; later = λ c i. absurd i };
            rises = omega arith;
          };
          waits = record {
            tells = told;
            retires = λ n i. absurd i;
          };
        };
        says = λ s f i. absurd i;
        none = λ s i. absurd i;
      }
        where
          some : 0 < most_ids ids_kept
          some = omega arith

          most : most_ids ids_kept ≤ kept_ids
          most = omega arith

          -- those of which it is told at once are issued
          told : (c : IssuedCid) → In c (drawn_ids (words_behind 1 x.making.words) (later_numbers (most_ids ids_kept))) → c.sequence < most_ids ids_kept
          told c i = let within = (range_in c.sequence 1 (most_ids ids_kept - 1) (drawn_numbers (words_behind 1 x.making.words) (later_numbers (most_ids ids_kept)) c i)).0 in omega arith
