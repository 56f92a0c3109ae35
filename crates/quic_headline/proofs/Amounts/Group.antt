-- What an open end knows of its limits, of what it accepted and of the pieces that it keeps is what
-- was told at it and what came, at each place of an honest run.
use Rattle.std.proofs.Common.{◌≡◌, ℕ, Bool, true, false, List, [], ◌∷◌, ◌++◌, None, refl, sym, ap, ◌∙◌, inl, inr, arith, append-nil}
use Rattle.std.specs.Prelude.{max}
use Rattle.quic_config.specs.Transport.{Settings, parameters_of}
use Rattle.quic_streams_halves.specs.Halves.{has_place, no_places}
use Rattle.quic_streams_state.specs.declared.state.StreamsState.{StreamsState}
use Rattle.quic_streams_state.specs.State.{new_streams, first_limit}
use Rattle.quic_streams_laws.specs.Each.{HalfIs}
use Rattle.quic_streams_laws.specs.StartLaws.{shape_new, shape_set_params}
use Rattle.quic_machine.specs.declared.answers.State.TheVariants as states
use Rattle.quic_machine.specs.declared.run.Call.{Call}
use Rattle.quic_machine.specs.declared.run.Answer.{Answer}
use Rattle.quic_machine.specs.End.{End}
use Rattle.quic_machine.specs.Receive.{Outcome}
use Rattle.quic_machine.specs.FrameCases.{begun}
use Rattle.quic_machine.specs.Machine.{after_call}
use Rattle.quic_machine.specs.CallCases.{is_delivery}
use Rattle.quic_headline.specs.Runs.{Told, Packet, Intake}
use Rattle.quic_headline.specs.Observer.{Sent}
use Rattle.quic_headline.specs.Amounts.{greatest, data_limit_in, stream_limit_in, was_stopped, all_written}
use Rattle.quic_headline.proofs.Packets.Group.{PacketsHold, meets}
use Rattle.quic_headline.proofs.Packets.Delivered.{Arrivals, arrived, frames_at, with_taken}
use Rattle.quic_headline.proofs.Places.Parties.{told_of, Party, called, came_to, Beginning, begun_as}
use Rattle.quic_headline.proofs.Places.Groups.{Way, Calls, Group}
use Rattle.quic_headline.proofs.Places.Coming.{by_coming}
use Rattle.quic_headline.proofs.Causes.Shown.{call_closes}
use Rattle.quic_headline.proofs.Channel.Sums.{all_more}
use Rattle.quic_headline.proofs.Halves.Words.{is_write}
use Rattle.quic_headline.proofs.Amounts.Pieces.{sizes, sizes_more, filled}
use Rattle.quic_headline.proofs.Amounts.Tally.{Tally, IsFresh, IsTallied, Tallies, call_tallies, tallies_alike}
use Rattle.quic_headline.proofs.Amounts.Accepts.{and_call, writing_tallies, quiet_sizes, quiet_amount}
use Rattle.quic_headline.proofs.Amounts.Frames.{and_frames, frames_limit, frames_all, frames_stopped, frames_rest, frames_at_tally}
use Rattle.quic_headline.proofs.Halves.Moved.{streams_stay}

-- ---- what the lists say

-- of an end that was made so, that took these packets, and at which this was told
abbrev pub tally_of : StreamsState → List Packet → List Told → Tally
tally_of made packets told = record {
  first = first_limit made;
  limit = λ id. max (first_limit made id) (greatest (stream_limit_in id) packets);
  stopped = λ id. was_stopped id packets;
  sizes = λ id. sizes id told;
  all = max made.sending.limit (greatest data_limit_in packets);
  accepted = all_written told;
  window = made.sending.window;
}

-- one call more
call_more : (made : StreamsState) (packets : List Packet) (told : List Told) (t : Told) (s : StreamsState) → Tallies (and_call t.call t.answer (tally_of made packets told)) s → Tallies (tally_of made packets (told ++ t ∷ [])) s
call_more made packets told t s i = tallies_alike (and_call t.call t.answer (tally_of made packets told)) (tally_of made packets (told ++ t ∷ [])) s (λ id. record { first = refl; limit = refl; stopped = refl; sizes = ap filled (sizes_more id told t) }) refl (all_more told t) refl i

-- one that writes nothing
quiet_more : (made : StreamsState) (packets : List Packet) (told : List Told) (t : Told) (s : StreamsState) → is_write t.call ≡ false → Tallies (tally_of made packets told) s → Tallies (tally_of made packets (told ++ t ∷ [])) s
quiet_more made packets told t s quiet i = tallies_alike (tally_of made packets told) (tally_of made packets (told ++ t ∷ [])) s
    (λ id. record { first = refl; limit = refl; stopped = refl; sizes = ap filled (sizes_more id told t ∙ ap (λ (ns : List ℕ). sizes id told ++ ns) (quiet_sizes t.call t.answer quiet id) ∙ append-nil (sizes id told)) })
    refl (let more = all_more told t in let none = quiet_amount t.call t.answer quiet in omega arith) refl i

-- one packet more
packet_more : (made : StreamsState) (packets : List Packet) (told : List Told) (p : Packet) (s : StreamsState) → Tallies (and_frames p.frames (tally_of made packets told)) s → Tallies (tally_of made (p ∷ packets) told) s
packet_more made packets told p s i =
    let t : Tally = tally_of made packets told in
    let rest = frames_rest p.frames t in
    let all = frames_all p.frames t in
    tallies_alike (and_frames p.frames t) (tally_of made (p ∷ packets) told) s
    (λ id. (let limit = frames_limit id p.frames t in record { first = sym (ap (λ (f : ℕ → ℕ). f id) rest.0); limit = omega arith; stopped = sym (frames_stopped id p.frames t); sizes = sym (ap (λ (f : ℕ → List ℕ). filled (f id)) rest.1) }))
    (omega arith) (sym rest.2) (sym rest.3) i

-- ---- the group

-- x is as it was made, and as the lists say since, while it is open
pub record Tallied (x y : Party) : Type 0 where
  pub still : x.end.closing.state ≡ states.Open → Tallies (tally_of x.made.streams (came_to x y).took x.told) x.end.streams

module _ (B : Way) (packets : (x y : Party) → B x y → PacketsHold x y) (x y : Party) (call : Call) (a : Answer) (c : Calls B x y call a) (i : Tallied x y) where
  abbrev t : Told
  t = told_of call a x.end.closing.state

  abbrev After : End → Intake → Type 0
  After e j = e.closing.state ≡ states.Open → Tallies (tally_of x.made.streams j.took (x.told ++ t ∷ [])) e.streams

  -- any call but a delivery
  apart_tallies : is_delivery call ≡ false → After (after_call x.policy x.end y.given call a) (came_to x y)
  apart_tallies apart still = go (is_write call) refl
    where
      before : x.end.closing.state ≡ states.Open
      before = elim (call_closes x.policy x.end y.given call a apart) [
        | inl k ↦ sym k.state ∙ still
        | inr shut ↦ absurd (shut.shut still)
      ]

      go : (b : Bool) → is_write call ≡ b → Tallies (tally_of x.made.streams (came_to x y).took (x.told ++ t ∷ [])) (after_call x.policy x.end y.given call a).streams
      go true writes = call_more x.made.streams (came_to x y).took x.told t (after_call x.policy x.end y.given call a).streams (writing_tallies (tally_of x.made.streams (came_to x y).took x.told) x.policy x.end y.given (i.still before) call a writes c.answer)
      go false quiet = quiet_more x.made.streams (came_to x y).took x.told t (after_call x.policy x.end y.given call a).streams quiet (call_tallies (tally_of x.made.streams (came_to x y).took x.told) x.policy x.end y.given call a apart quiet c.answer (i.still before))

  -- each case of a delivery
  comes_tallies : is_write call ≡ false → (now : ℕ) (s : Sent) (here : Bool) → Arrivals x.end now s.number s.frames (frames_at here s.frames) (came_to x y) (λ (o : Outcome) (j : Intake). After o.end j)
  comes_tallies quiet now s here = record {
    ignored = λ reason still. more (came_to x y).took x.end.streams (i.still still);
    noted = λ state reason still. (let clash : states.Closing ≡ states.Open = sym state ∙ still in cc);
    takes = λ words state new none urged mark still. more (record { number = s.number; frames = s.frames } ∷ (came_to x y).took) (arrived x.end now s.number (frames_at here s.frames)).end.streams
        (packet_more x.made.streams (came_to x y).took x.told (record { number = s.number; frames = s.frames }) (arrived x.end now s.number (frames_at here s.frames)).end.streams (frames_at_tally (tally_of x.made.streams (came_to x y).took x.told) here s.frames (begun x.end now s.number) none (i.still state)));
    moves = λ p o same remote z opened j still. streams_stay (Tallies (tally_of x.made.streams (with_taken (came_to x y) s.number s.frames).took (x.told ++ t ∷ []))) p o remote z (j opened);
    drains = λ words state new close is still. cc;
    refuses = λ words state new f is still. cc;
    exhausts = λ state still. cc;
  }
    where
      more : (ps : List Packet) (v : StreamsState) → Tallies (tally_of x.made.streams ps x.told) v → Tallies (tally_of x.made.streams ps (x.told ++ t ∷ [])) v
      more ps v j = quiet_more x.made.streams ps x.told t v quiet j

  pub tallied_step : Tallied (called x y.given call a) y
  tallied_step = record {
    still = by_coming x y a c.joined c.served (meets y x (packets y x c.takes)) After call c.answer (record {
      apart = apart_tallies;
      none = λ delivery is still. quiet_more x.made.streams (came_to x y).took x.told t x.end.streams (ap is_write is) (i.still still);
      comes = λ delivery is s among here. comes_tallies (ap is_write is) delivery.now s here;
    });
  }

-- ---- the start

tallied_first : (x y : Beginning) → Tallied (begun_as x y) (begun_as y x)
tallied_first x y = record {
  still = λ open_now. record {
    halves = record { shape = shape_set_params start (parameters_of y.making.settings) (shape_new x.side s.max_uni s.max_bidi s.send_window s.receive_window s.stream_receive_window); first = λ id. refl; each = λ id. each_first id (has_place x.side no_places id) };
    sums = record { limit = omega arith; accepted = refl; window = refl };
  };
}
  where
    s : Settings
    s = x.making.settings

    start : StreamsState
    start = new_streams x.side s.max_uni s.max_bidi s.send_window s.receive_window s.stream_receive_window

    first : Tally
    first = tally_of (begun_as x y).made.streams [] []

    each_first : (id : ℕ) (used : Bool) → HalfIs (IsFresh first id) (IsTallied first id) (Unit {0}) None used
    each_first id true = tt
    each_first id false = record { limit = omega arith; stopped = refl; pieces = refl }

pub tallied_group : (B : Way) → ((x y : Party) → B x y → PacketsHold x y) → Group B Tallied
tallied_group B packets = record {
  first = λ x y m there back. tallied_first x y;
  writer = λ x y call a c i back. tallied_step B packets x y call a c i;
  reader = λ x y call a c there i. record { still = i.still };
  shows = λ x y here there b back i j. record { still = i.still };
}
