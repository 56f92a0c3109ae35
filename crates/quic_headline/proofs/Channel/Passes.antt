-- Each packet that an end gave passes at the other, where its frames pass by ids, by sizes and
-- apart from streams: a group over all of these.
use Rattle.std.proofs.Common.{◌≡◌, ◌⊎◌, refl, sym, ◌∙◌, subst, inl, inr}
use Rattle.quic_wire.specs.Value.{FrameValue, padding}
use Rattle.quic_streams_state.specs.declared.state.StreamsState.{StreamsState}
use Rattle.quic_machine.specs.End.{End}
use Rattle.quic_machine.specs.FrameCases.{begun}
use Rattle.quic_machine.specs.Receive.{take_frame}
use Rattle.quic_headline.specs.Runs.{In}
use Rattle.quic_headline.specs.Observer.{Sent}
use Rattle.quic_headline.proofs.Packets.Group.{PacketsHold}
use Rattle.quic_headline.proofs.Places.Parties.{Party}
use Rattle.quic_headline.proofs.Places.Groups.{Way, Group}
use Rattle.quic_headline.proofs.Channel.Passing.{IdsPass, LetsPass, frames_pass, PassesAt, SizesHold, SizesPass, PlainPass}
use Rattle.quic_headline.proofs.Channel.Given.{Grown, grown_same, frame_grows}
use Rattle.quic_headline.proofs.Channel.Counts.{Ids, ids_stay, derived}
use Rattle.quic_headline.proofs.Channel.Messages.{MessagesFit}
use Rattle.quic_headline.proofs.Channel.IdSteps.{IdsGo, Comes, IdPasses, frame_go, id_passes}
use Rattle.quic_headline.proofs.Channel.IdsAgree.{IdsAgree, from_now, each_comes, issued_near}
use Rattle.quic_headline.proofs.Channel.Plain.{plain_pass, frame_next, frame_skipped, frame_transport}
use Rattle.quic_headline.proofs.Packets.Delivered.{frames_at}
use Rattle.quic_headline.proofs.Packets.Strays.{of_at}

module _ (B : Way) (packets : (x y : Party) → B x y → PacketsHold x y) (ids : (x y : Party) → B x y → Ids x y) (messages : (x y : Party) → B x y → MessagesFit x y) (agree : (x y : Party) → B x y → IdsAgree x y) (Fits : Party → Party → StreamsState → Type 0) (sizes : SizesHold B Fits) where
  module _ (x y : Party) (h : B x y) (back : B y x) (s : Sent) (among : In s x.sents) where
    -- what lets the frames of a packet pass at an end that has taken some of them
    record Lets (e : End) : Type 0 where
      grown : Grown y.end.streams e.streams
      fits : Fits x y e.streams
      next : e.numbers.next ≡ y.end.numbers.next
      skipped : e.filter.last ≡ y.end.filter.last
      transport : e.transport ≡ y.end.transport
      numbers : IdsGo x.end.ids.peer.active x.end.ids.own.issued y.end.ids.own.issued y.end.ids.peer.active e.ids

    abbrev passes_id : (f : FrameValue) → In f s.frames → (e : End) → Lets e → IdsPass e.streams f
    passes_id f i e l = ids_stay y.end.streams e.streams l.grown f ((ids x y h).1.ids s among f i)

    -- what a frame says of connection ids
    comes : (f : FrameValue) → In f s.frames → Comes x.end.ids.peer.active x.end.ids.own.issued y.end.ids.own.issued y.end.ids.peer.active f
    comes f i = each_comes x y (agree x y h) s among f i

    id_passes_at : (f : FrameValue) → In f s.frames → (e : End) → Lets e → IdPasses e f
    id_passes_at f i e l = id_passes x.end.ids.peer.active x.end.ids.own.issued y.end.ids.own.issued y.end.ids.peer.active f e (issued_near x y (agree x y h)) (comes f i) l.numbers

    stays_at : (f : FrameValue) → In f s.frames → (e : End) → Lets e → Lets (take_frame f e).end
    stays_at f i e l = record {
      grown = frame_grows y.end.streams f e l.grown;
      fits = sizes.stays x y h s among f i e l.fits (passes_id f i e l);
      next = frame_next f e ∙ l.next;
      skipped = frame_skipped f e ∙ l.skipped;
      transport = frame_transport f e ∙ l.transport;
      numbers = frame_go x.end.ids.peer.active x.end.ids.own.issued y.end.ids.own.issued y.end.ids.peer.active f e (comes f i) l.numbers;
    }

    -- a frame of the packet, or PADDING in the place of one
    abbrev Among : FrameValue → Type 0
    Among f = In f s.frames ⊎ (f ≡ padding)

    lets : LetsPass Among Lets
    lets = record {
      ids = λ f e i l. elim i [ inl one ↦ passes_id f one e l | inr pads ↦ subst (IdsPass e.streams) (sym pads) refl ];
      sizes = λ f e i l. elim i [ inl one ↦ sizes.sizes x y h s among f one e.streams l.fits (passes_id f one e l) | inr pads ↦ subst (SizesPass e.streams) (sym pads) tt ];
      plain = λ f e i l. elim i [
        | inl one ↦ plain_pass x y (packets x y h) (packets y x back) s among f one ((ids x y h).0.0.given s among f one) (messages x y h) e l.next l.skipped l.transport (l.grown.0 ∙ (ids x y h).0.1.counts.0) (id_passes_at f one e l)
        | inr pads ↦ subst (PlainPass e) (sym pads) tt
      ];
      stays = λ f e i l. elim i [ inl one ↦ stays_at f one e l | inr pads ↦ subst (λ (g : FrameValue). Lets (take_frame g e).end) (sym pads) l ];
    }

  pub passes_at : (x y : Party) → B x y → B y x → PassesAt x y
  passes_at x y h back = record {
    passes = λ s among still_open now here fault is.
        frames_pass (Among x y h back s among) (Lets x y h back s among) (lets x y h back s among) (frames_at here s.frames) (begun y.end now s.number) (of_at here s.frames) (record { grown = grown_same y.end.streams; fits = sizes.holds x y h still_open; next = refl; skipped = refl; transport = refl; numbers = from_now x.end.ids.peer.active x.end.ids.own.issued y.end.ids (agree y x back).stands.go }) fault is;
  }

  -- so it is at each place
  pub passing_group : Group B PassesAt
  passing_group = derived B PassesAt passes_at
