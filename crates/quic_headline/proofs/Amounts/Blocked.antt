-- Where an end says that it is blocked, it says the limit that its peer told: at each place of an
-- honest run.
use Rattle.std.proofs.Common.{◌≡◌, ℕ, zero, suc, ◌≤◌, max, Bool, true, false, not, ◌&&◌, ◌==◌, List, length, [], ◌∷◌, ◌++◌, replicate, Option, Some, None, Ok, refl, sym, ap, ◌∙◌, subst, inl, inr, arith}
use Rattle.std.specs.Prelude.{if◌then◌else◌}
use Rattle.std.specs.Option.{is_some}
use Rattle.std.proofs.lemmas.Bool.{leb-true, eqb-true, and_parts}
use Rattle.quic_wire_core.specs.declared.stream_id.Side.{Side}
use Rattle.quic_wire_core.specs.StreamId.{other_side}
use Rattle.quic_wire.specs.Value.{FrameValue, data_blocked, stream_data_blocked, connection_close, application_close, padding}
use Rattle.quic_retransmits.specs.declared.retransmits.ControlKind.{ControlKind}
use Rattle.quic_retransmits.specs.declared.retransmits.ControlKind.TheVariants.{DataBlocked}
use Rattle.quic_retransmits.specs.Retransmits.{Retransmits}
use Rattle.quic_streams_parts.specs.SendHalf.{SendHalf, is_ready, written_on}
use Rattle.quic_streams_state.specs.declared.state.StreamsState.{StreamsState}
use Rattle.quic_streams_state.specs.State.{sending_half}
use Rattle.quic_streams_state.specs.Limits.{can_send_data_blocked}
use Rattle.quic_streams_state.specs.Control.{blocked_limit, blocked_entry, flagged, frame_of_first}
use Rattle.quic_streams_laws.specs.KindLaws.{GoesFirst}
use Rattle.quic_streams_laws.specs.KeepingLaws.{by_frame}
use Rattle.quic_streams_laws.specs.QuietLaws.{by_told}
use Rattle.quic_streams_laws.specs.Written.{Wrote, HoldsWritten}
use Rattle.quic_streams_laws.specs.WrittenHalves.{all_written, polled_holds}
use Rattle.quic_streams_laws.specs.WrittenLaws.{holds_kept, half_holds}
use Rattle.quic_machine.specs.declared.run.Call.TheVariants as calls
use Rattle.quic_machine.specs.declared.run.Answer.{Answer}
use Rattle.quic_machine.specs.declared.run.Answer.TheVariants as answers
use Rattle.quic_machine.specs.End.{End}
use Rattle.quic_machine.specs.Poll.{zeros_behind, Draft, Leaving, draft_as, polled}
use Rattle.quic_machine.specs.DraftLaws.{Writing, by_leave, MayLeave}
use Rattle.quic_machine.specs.Puts as puts
use Rattle.quic_machine.specs.PollCases.{ready_at, ready_leaves, draft_at, may_leave_at}
use Rattle.quic_machine.specs.Machine.{World, policy_at, end_at}
use Rattle.quic_headline.specs.Runs.{Run, Packet, Intake, In, until}
use Rattle.quic_headline.specs.Observer.{Sent, Watch, first_watch, is_close, took}
use Rattle.quic_headline.specs.Headline.{IsHonest, IsRun}
use Rattle.quic_headline.specs.Amounts.{peer_parameters, greatest, data_limit_in, stream_limit_in, data_limit, stream_limit}
use Rattle.quic_headline.specs.Polls.{GaveOne}
use Rattle.quic_headline.specs.Waited.{IsCloseAlone}
use Rattle.quic_headline.specs.Blocking.{BlockedSay}
use Rattle.quic_headline.proofs.Packets.Watching.{watched_intake}
use Rattle.quic_headline.proofs.Places.Told.{in_append}
use Rattle.quic_headline.proofs.Places.Parties.{Party, came_to, lens, with_shown, shown_at}
use Rattle.quic_headline.proofs.Places.Placed.{party_at}
use Rattle.quic_headline.proofs.Places.Everything as everything
use Rattle.quic_headline.proofs.Places.Theorems.{ready}
use Rattle.quic_headline.proofs.Halves.Ghosts.{wrote}
use Rattle.quic_headline.proofs.Halves.Ready.{Ready}
use Rattle.quic_headline.proofs.Steps.Made.{MadeAt, made_at, PollHolds, poll_holds, polling}
use Rattle.quic_headline.proofs.Steps.Probing.{IsGiving, closing_alone}
use Rattle.quic_headline.proofs.Steps.Probing as probing
use Rattle.quic_headline.proofs.Amounts.Tally.{Tally, Tallies, tallies_kept, half_tallied, goes_on}
use Rattle.quic_headline.proofs.Amounts.Group.{tally_of}
use Rattle.quic_headline.proofs.Amounts.Clause.{first_is, all_is, Whole, whole}

module _ (t : Tally) (done : ℕ → Wrote) where
  -- what a frame says of a limit is so
  abbrev SaysSo : FrameValue → Type 0
  SaysSo (data_blocked limit) = (limit ≡ t.all) × (limit ≤ t.accepted)
  SaysSo (stream_data_blocked f) = (f.limit ≡ t.limit f.id) × (f.limit ≤ length (done f.id).bytes)
  SaysSo f = Unit {0}

  -- streams have these limits, and hold what was written
  record Holds (s : StreamsState) : Type 0 where
    tallied : Tallies t s
    written : HoldsWritten done s

  -- a half that is blocked has this limit, and so many bytes were written on it
  blocked_is : (s : StreamsState) (id limit : ℕ) → Holds s → (o : Option SendHalf) → sending_half s id ≡ o → blocked_limit o ≡ Some limit → (limit ≡ t.limit id) × (limit ≤ length (done id).bytes)
  blocked_is s id limit i None there is = cc
  blocked_is s id limit i (Some h) there is = go (is_ready h && not (is_some h.stopped) && (written_on h == h.limit)) refl is
    where
      go : (b : Bool) → (is_ready h && not (is_some h.stopped) && (written_on h == h.limit)) ≡ b → (if b then Some h.limit else None) ≡ Some limit → (limit ≡ t.limit id) × (limit ≤ length (done id).bytes)
      go true holds same =
          let equal : h.limit ≡ limit = cc in
          let used = eqb-true (written_on h) h.limit (and_parts (is_ready h && not (is_some h.stopped)) _ holds).1 in
          let all = all_written (done id) h (half_holds done s i.written id h there) in
          (sym equal ∙ (half_tallied t s id h there i.tallied.halves).limit, omega (arith, equal, used, all))
      go false holds same = cc

  -- all that may be written was, where DATA_BLOCKED goes
  used_up : (s : StreamsState) (limit : ℕ) (b : Bool) → frame_of_first (flagged b blocked_entry) s ≡ Some (data_blocked limit) → can_send_data_blocked s ≡ true
  used_up s limit false is = cc
  used_up s limit true is = go (can_send_data_blocked s) refl is
    where
      go : (b : Bool) → can_send_data_blocked s ≡ b → (if b then Some (data_blocked s.sending.limit) else None) ≡ Some (data_blocked limit) → can_send_data_blocked s ≡ true
      go true same goes = same
      go false same goes = cc

  all_used : (kind : ControlKind) (p : Retransmits) (s : StreamsState) (limit : ℕ) → GoesFirst kind p s (data_blocked limit) → Tallies t s → (limit ≡ t.all) × (limit ≤ t.accepted)
  all_used DataBlocked p s limit goes i =
      let used = leb-true s.sending.limit s.sending.accepted (used_up s limit p.data_blocked goes.first) in
      let says = goes.says in
      let all = i.sums.limit in
      let accepted = i.sums.accepted in
      (says ∙ all, omega (arith, used, says, accepted))
  all_used kind p s limit goes i = (let clash : Some DataBlocked ≡ Some kind = goes.of_kind in cc)

  control_says : (kind : ControlKind) (p : Retransmits) (s : StreamsState) (f : FrameValue) → GoesFirst kind p s f → Holds s → SaysSo f
  control_says kind p s (data_blocked limit) goes i = all_used kind p s limit goes i.tallied
  control_says kind p s (stream_data_blocked f) goes i = blocked_is s f.id f.limit i (sending_half s f.id) refl goes.says
  control_says kind p s f goes i = tt

  -- each frame of a draft says so, and so are the streams of its end
  record SayLimits (d : Draft) : Type 0 where
    holds : Holds d.end.streams
    each : (f : FrameValue) → In f d.frames → SaysSo f

  one_more : (fs : List FrameValue) (g : FrameValue) → SaysSo g → ((f : FrameValue) → In f fs → SaysSo f) → (f : FrameValue) → In f (fs ++ g ∷ []) → SaysSo f
  one_more fs g says all f i = elim (in_append f fs (g ∷ []) i) [ inl before ↦ all f before | inr behind ↦ last behind ]
    where
      last : In f (g ∷ []) → SaysSo f
      last (inl is) = subst SaysSo (sym is) says
      last (inr none) = absurd none

  draft_limits : (leaving : Leaving) (e : End) → MayLeave leaving e → Holds e.streams → SayLimits (draft_as leaving e)
  draft_limits leaving e may i = by_leave SayLimits keep leaving e may (record { holds = i; each = λ f none. absurd none })
    where
      keep : Writing SayLimits
      keep puts.ack d may j = record { holds = j.holds; each = one_more d.frames _ tt j.each }
      keep (puts.drops kind) d may j = record { holds = j.holds; each = j.each }
      keep (puts.control kind f) d is j = record {
        holds = record {
          tallied = by_told (Tallies t) (tallies_kept t) f d.end.streams j.holds.tallied;
          written = by_told (HoldsWritten done) (holds_kept done) f d.end.streams j.holds.written;
        };
        each = one_more d.frames f (control_says kind d.end.waiting.frames d.end.streams f is j.holds) j.each;
      }
      keep (puts.stream id h room) d (found, first, some, is, counts) j = record {
        holds = record {
          tallied = by_frame (Tallies t) (tallies_kept t) d.end.transport.send_fairness d.end.streams id room h found (goes_on t id h _ refl refl refl refl refl) j.holds.tallied;
          written = by_frame (HoldsWritten done) (holds_kept done) d.end.transport.send_fairness d.end.streams id room h found (λ x. polled_holds (done id) h x room) j.holds.written;
        };
        each = one_more d.frames _ tt j.each;
      }
      keep p d may j = record { holds = j.holds; each = one_more d.frames _ tt j.each }

  padded_says : (fs : List FrameValue) (count : ℕ) → ((f : FrameValue) → In f fs → SaysSo f) → (f : FrameValue) → In f (fs ++ replicate count padding) → SaysSo f
  padded_says fs count all f i = elim (in_append f fs (replicate count padding) i) [ inl here ↦ all f here | inr behind ↦ zeros count behind ]
    where
      zeros : (n : ℕ) → In f (replicate n padding) → SaysSo f
      zeros zero none = absurd none
      zeros (suc n) (inl is) = subst SaysSo (sym is) tt
      zeros (suc n) (inr more) = zeros n more

  -- so does a close
  close_says : (close : FrameValue) (count : ℕ) → is_close close ≡ true → (f : FrameValue) → In f (close ∷ replicate count padding) → SaysSo f
  close_says close count is f i = padded_says (close ∷ []) count (λ g j. only g j) f i
    where
      alone : (g : FrameValue) → is_close g ≡ true → SaysSo g
      alone (connection_close c) so = tt
      alone (application_close c) so = tt
      alone (data_blocked limit) so = cc
      alone (stream_data_blocked s) so = cc
      alone g so = tt

      only : (g : FrameValue) → In g (close ∷ []) → SaysSo g
      only g (inl same) = alone g (ap is_close same ∙ is)
      only g (inr none) = absurd none

-- ---- the clause

module _ (r : Run) (end : World) (honest : IsHonest r) (run : IsRun r end) (side : Side) (i now : ℕ) (gave : GaveOne r side i now) where
  abbrev answer : Answer
  answer = answers.Poll (Ok (Some gave.transmit))

  at : MadeAt r i side (calls.Poll now) answer
  at = made_at Whole whole r end honest run i side (calls.Poll now) answer gave.poll gave.served

  abbrev w : World
  w = at.before

  h : PollHolds Whole r i side now answer w
  h = poll_holds Whole whole r end honest run i side now answer w at.behind at.made

  abbrev x : Party
  x = polling r i w side h.sents

  abbrev y : Party
  y = party_at r i w (other_side side) h.theirs

  abbrev e : End
  e = with_shown (end_at side w) (shown_at side w)

  abbrev t : Tally
  t = tally_of x.made.streams (came_to x y).took (until r side i)

  abbrev done : ℕ → Wrote
  done = wrote (until r side i)

  -- each frame says so
  says : (f : FrameValue) → In f gave.sent.frames → SaysSo t done f
  says f among = elim (probing.either (everything.Streams Ready ready) (everything.all Ready ready) r end honest run side i now gave w at.behind at.made) [
    | inl gives ↦ of_open gives
    | inr close ↦ of_close (closing_alone (policy_at side r.keys) e now gave.transmit gave.sent close)
  ]
    where
      of_open : IsGiving (policy_at side r.keys) e now gave.transmit (polled (policy_at side r.keys) e now).end gave.sent → SaysSo t done f
      of_open gives = padded_says t done (draft_at e now).frames (zeros_behind (draft_at e now))
          (draft_limits t done (ready_at e now).leaving (ready_at e now).end (may_leave_at e now) (subst (λ (s : StreamsState). Holds t done s) (sym (ap (λ (z : End). z.streams) (ready_leaves e now))) (record { tallied = h.gives.1.0.still gives.opened; written = h.gives.0.0.0.1.0.writes.keeps.holds }))).each
          f (subst (λ (s : Sent). In f s.frames) gives.sent among)

      of_close : IsCloseAlone gave.sent → SaysSo t done f
      of_close c = close_says t done c.close c.zeros c.is f (subst (λ (fs : List FrameValue). In f fs) c.alone among)

  -- what came to it, by the lists
  packets_are : took r side i ≡ (came_to x y).took
  packets_are = ap (λ (v : Watch). v.intake.took) h.seen ∙ ap (λ (j : Intake). j.took) (watched_intake (lens x y) x.told (first_watch x.final x.began x.made.path.remote x.first_rtt x.initial_delay))

  all_limit : t.all ≡ data_limit (peer_parameters side r.start honest.start) (took r side i)
  all_limit = ap (λ (m : ℕ). max m (greatest data_limit_in (came_to x y).took)) (all_is side r.start honest.start) ∙ ap (data_limit (peer_parameters side r.start honest.start)) (sym packets_are)

  own_limit : (id : ℕ) → t.limit id ≡ stream_limit (peer_parameters side r.start honest.start) side (took r side i) id
  own_limit id = ap (λ (m : ℕ). max m (greatest (stream_limit_in id) (came_to x y).took)) (first_is side id r.start honest.start) ∙ ap (λ (ps : List Packet). stream_limit (peer_parameters side r.start honest.start) side ps id) (sym packets_are)

pub blocked_say : (r : Run) (end : World) → IsHonest r → IsRun r end → BlockedSay r
blocked_say r end honest run = record {
  of_all = λ s side i now gave limit among.
      let so : IsHonest r = record { start = s; keys = honest.keys; ids = honest.ids } in
      let said = says r end so run side i now gave (data_blocked limit) among in
      (said.0 ∙ all_limit r end so run side i now gave, said.1);
  of_stream = λ s side i now gave f among. (
      let so : IsHonest r = record { start = s; keys = honest.keys; ids = honest.ids } in
      let said = says r end so run side i now gave (stream_data_blocked f) among in
      (said.0 ∙ own_limit r end so run side i now gave f.id, said.1));
}
