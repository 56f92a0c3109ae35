-- What an end keeps of connection ids (RFC 9000, section 5.1): its own ones as its peer uses them,
-- those of the peer that are known, and what waits to be said of both; by each call, while the peer
-- says what such an end says.
use Rattle.std.proofs.Common.{◌≡◌, ℕ, ◌+◌, ◌-◌, ◌^◌, ◌<◌, ◌≤◌, Bool, true, false, cond, ltb, List, [], ◌∷◌, ◌++◌, length, map, Option, Some, None, Result, Ok, Err, refl, sym, ap, ◌∙◌, subst, inl, inr, arith}
use Rattle.std.specs.Prelude.{nat_le, ◌==◌, ◌||◌, slice_get, if◌then◌else◌}
use Rattle.std.specs.List.{list_any, range_with_len}
use Rattle.std.specs.declared.ops.Range.{Range}
use Rattle.quic_wire_core.specs.TransportError.{ErrorValue, plain_error, protocol_violation}
use Rattle.quic_wire_core.specs.declared.shared.IssuedCid.{IssuedCid}
use Rattle.quic_wire.specs.Value.{FrameValue, AckValue, NewConnectionIdValue, ack, stream, reset_stream, stop_sending, max_data, max_stream_data, max_streams, datagram, path_response, handshake_done, new_connection_id, retire_connection_id, ack_frequency}
use Rattle.quic_ids.specs.CidState.{is_wrong, without, retirement_answer}
use Rattle.quic_ids.specs.CidQueue.{kept_ids, insert_answer}
use Rattle.quic_ids.specs.declared.cid_queue.InsertError.{InsertError}
use Rattle.quic_ids.specs.declared.cid_queue.InsertError.TheVariants as inserts
use Rattle.quic_paths.specs.Paths.{is_asked}
use Rattle.quic_retransmits.specs.Retransmits.{Retransmits, most_retirements, can_retire}
use Rattle.quic_machine.specs.declared.run.Call.{Call}
use Rattle.quic_machine.specs.declared.run.Call.TheVariants as calls
use Rattle.quic_machine.specs.declared.run.Answer.{Answer}
use Rattle.quic_machine.specs.declared.run.Answer.TheVariants as answers
use Rattle.quic_machine.specs.Policy.{Policy}
use Rattle.quic_machine.specs.Closing.{ticked}
use Rattle.quic_machine.specs.CallCases.{is_delivery, uses_next_id, by_call, by_done}
use Rattle.quic_machine.specs.LeaveCases.{by_expired, by_event}
use Rattle.quic_machine.specs.Machine.{after_call}
use Rattle.quic_machine.specs.MessageCalls.{most_message}
use Rattle.quic_machine.specs.Sizes.{without_longer_if, shortened}
use Rattle.quic_machine.specs.Ids.{Ids, Drawing, words_behind, words_of_id, drawn_id, undrawn_id, retired, may_issue, issued_one, drawn_one, drawn_places, frame_of, retires_for, retires_for_next, next_used}
use Rattle.quic_machine.specs.IdFrames.{retiring, with_taken_up, issued_if, issues_for, next_id_taken, end_on_next_id, drawn}
use Rattle.quic_machine.specs.Validation.{word_of, validated_if}
use Rattle.quic_machine.specs.End.{End, with_closing, with_ids, closed_by, words_drawn}
use Rattle.quic_machine.specs.Receive.{Outcome, asks_in, after_taken, drained_at, reason_of, names_ungiven, retired_for, id_judged, retirement_judged, take_frame}
use Rattle.quic_machine.specs.FrameCases.{IsApart, passed, begun, losses_keep, frame_leaves, issues_may}
use Rattle.quic_machine.specs.Steps.{after}
use Rattle.quic_headline.specs.Runs.{In, Packet, Intake}
use Rattle.quic_headline.specs.Observer.{Sent}
use Rattle.quic_headline.proofs.Places.Told.{in_append}
use Rattle.quic_headline.proofs.Packets.Invariant.{AreTracked}
use Rattle.quic_headline.proofs.Packets.Apart.{by_waits, by_frequency, by_heard_done}
use Rattle.quic_headline.proofs.Packets.Delivered.{Arrivals, arrived}
use Rattle.quic_headline.proofs.Packets.Named.{NamesTaken, Stands, SettlesOn, by_frame, frames_settle}
use Rattle.quic_headline.proofs.Packets.Ids.{SaysIds, Waits, SentSayIds, steps_wait, on_streams_wait, call_waits, in_set}
use Rattle.quic_headline.proofs.Halves.KnownIds.{range_below}
use Rattle.quic_headline.proofs.Halves.ToldIds.{got_in}
use Rattle.quic_headline.proofs.Duties.OfIds.{AsksNone, ack_ids, polled_ids, settles_ids, shortened_ids, insert_keeps, next_range}
use Rattle.quic_headline.proofs.Channel.IdLists.{Owns, retirement_owns, renewal_owns, retired_issued, next_issued, room_left, retires_rightly, Knows, Inserted, taken_up, late, far, inserted, inserted_knows, next_knows, next_above}
use Rattle.quic_headline.proofs.Packets.Moving.{moving_keeps}

-- an id that was issued, of so many; and a number below that in use
abbrev pub IsIssued : ℕ → IssuedCid → Type 0
IsIssued issued c = c.sequence < issued

abbrev pub IsBelow : ℕ → ℕ → Type 0
IsBelow used n = n < used

-- what is so of some ids and numbers is so of more
pub waits_more : (C D : IssuedCid → Type 0) (R S : ℕ → Type 0) (r : Retransmits) → ((c : IssuedCid) → C c → D c) → ((n : ℕ) → R n → S n) → Waits C R r → Waits D S r
waits_more C D R S r ids numbers w = record { tells = λ c i. ids c (w.tells c i); retires = λ n i. numbers n (w.retires n i) }

-- of its own ids the peer uses `used`, and issued so many itself; the end issued `least` at least,
-- and uses none below `low`
pub record IdsGo (used issued least low : ℕ) (ids : Ids) : Type 0 where
  pub owns : Owns used ids.limit ids.own
  pub more : least ≤ ids.own.issued
  pub knows : Knows issued ids.peer
  pub rises : low ≤ ids.peer.active

-- and it tells of ids that it issued, and retires those below the one in use
pub record IdsStand (used issued least low : ℕ) (ids : Ids) (r : Retransmits) : Type 0 where
  pub go : IdsGo used issued least low ids
  pub waits : Waits (IsIssued ids.own.issued) (IsBelow ids.peer.active) r

-- a frame about connection ids is no fault
abbrev pub IdPasses : End → FrameValue → Type 0
IdPasses e (new_connection_id f) = (take_frame (new_connection_id f) e).fault ≡ None
IdPasses e (retire_connection_id n) = (take_frame (retire_connection_id n) e).fault ≡ None
IdPasses e f = Unit {0}

module _ (used issued least low : ℕ) where
  abbrev pub GoAt : End → Type 0
  GoAt e = IdsGo used issued least low e.ids

  abbrev pub StandAt : End → Type 0
  StandAt e = IdsStand used issued least low e.ids e.waiting.frames

  -- what the peer's frames say
  abbrev pub Comes : FrameValue → Type 0
  Comes f = SaysIds (IsIssued issued) (IsBelow used) f × AsksNone f

  -- messages that are dropped leave it
  fits_go : (b : Bool) (e : End) → GoAt e → GoAt (shortened b e)
  fits_go b e i = subst (IdsGo used issued least low) (sym (shortened_ids b e)) i

  lasts_waits : (o : Option ℕ) (e : End) → (without_longer_if o e).waiting.frames ≡ e.waiting.frames
  lasts_waits None e = refl
  lasts_waits (Some most) e = refl

  fits_waits : (b : Bool) (e : End) → (shortened b e).waiting.frames ≡ e.waiting.frames
  fits_waits true e = lasts_waits (most_message e) e
  fits_waits false e = refl

  fits_stand : (b : Bool) (e : End) → StandAt e → StandAt (shortened b e)
  fits_stand b e i = subst (λ (r : Retransmits). IdsStand used issued least low (shortened b e).ids r) (sym (fits_waits b e)) (subst (λ (ids : Ids). IdsStand used issued least low ids e.waiting.frames) (sym (shortened_ids b e)) i)

  -- ---- frames about ids

  -- the id that a frame brings is taken up
  taken_up_go : (f : NewConnectionIdValue) (e : End) → Comes (new_connection_id f) → GoAt e → GoAt (with_taken_up f e)
  taken_up_go f e comes i = record {
    owns = i.owns;
    more = i.more;
    knows = inserted_knows issued e.ids.peer (frame_of f) comes.1 comes.0 i.knows;
    rises = (let same = insert_keeps e.ids.peer (frame_of f) comes.1 in let before = i.rises in omega arith);
  }

  -- the peer retires an id: it lives no more, and the next one may be issued for it
  retired_go : (n : ℕ) (e : End) → n < used → GoAt e → GoAt (with_ids e (retired n e.ids))
  retired_go n e before i = record {
    owns = retirement_owns used n e.ids before i.owns;
    more = (let same = retired_issued e.ids.own n in let most = i.more in omega arith);
    knows = i.knows;
    rises = i.rises;
  }

  -- one more is issued then
  renewed_issued : (e : End) (n place : ℕ) → may_issue e.ids n ≡ true → (issued_one place e.closing.clock (retired n e.ids)).own.issued ≡ e.ids.own.issued + 1
  renewed_issued e n place may =
      let same = retired_issued e.ids.own n in
      next_issued place e.closing.clock (retired n e.ids) (subst (λ (count : ℕ). count < 2 ^ 62) (sym same) (room_left e.ids n may).1) ∙ ap (λ (count : ℕ). count + 1) same

  issued_go : (b : Bool) (n : ℕ) (e : End) → issues_for n e ≡ b → n < used → GoAt e → GoAt (issued_if b (with_ids e (retired n e.ids)))
  issued_go false n e issues before i = retired_go n e before i
  issued_go true n e issues before i =
      let place : ℕ = length e.waiting.frames.new_cids in
      let may = issues_may n e issues in
      record {
        owns = renewal_owns used n place e.closing.clock e.ids before may i.owns;
        more = subst (λ (count : ℕ). least ≤ count) (sym (renewed_issued e n place may)) (let most = i.more in omega arith);
        knows = i.knows;
        rises = i.rises;
      }

  -- any frame apart from streams
  apart_go : (f : FrameValue) (e : End) → IsApart f → Comes f → GoAt e → GoAt (take_frame f e).end
  apart_go (ack a) e apart comes i = absurd apart
  apart_go (stream f) e apart comes i = absurd apart
  apart_go (reset_stream f) e apart comes i = absurd apart
  apart_go (stop_sending f) e apart comes i = absurd apart
  apart_go (max_data limit) e apart comes i = absurd apart
  apart_go (max_stream_data f) e apart comes i = absurd apart
  apart_go (max_streams f) e apart comes i = absurd apart
  apart_go (datagram m) e apart comes i = absurd apart
  apart_go (new_connection_id f) e apart comes i = judged (retires_for (insert_answer e.ids.peer (frame_of f)))
    where
      retires : (b : Bool) (r : Range ℕ) → GoAt (retired_for b r f e).end
      retires true r = fits_go _ (retiring r (with_taken_up f e)) (taken_up_go f e comes i)
      retires false r = taken_up_go f e comes i

      judged : (r : Result (Option (Range ℕ)) InsertError) → GoAt (id_judged r f e).end
      judged (Ok None) = fits_go _ (with_taken_up f e) (taken_up_go f e comes i)
      judged (Ok (Some r)) = retires (can_retire e.waiting.frames r.start r.end) r
      judged (Err inserts.Retired) = i
      judged (Err inserts.ExceedsLimit) = i
  apart_go (retire_connection_id n) e apart comes i = judged (retirement_answer e.ids.own n e.ids.limit)
    where
      judged : (r : Result Bool ErrorValue) → GoAt (retirement_judged r n e).end
      judged (Ok more) = issued_go (issues_for n e) n e refl comes.0 i
      judged (Err error) = i
  apart_go (path_response token) e apart comes i = go (is_asked e.validation.challenge (word_of token))
    where
      go : (b : Bool) → GoAt (validated_if b e)
      go true = i
      go false = i
  apart_go handshake_done e apart comes i = by_heard_done GoAt e i (λ c. i)
  apart_go (ack_frequency r) e apart comes i = by_frequency GoAt r e (λ threshold reordering frequency. i)
  apart_go f e apart comes i = i

  -- any frame
  pub frame_go : (f : FrameValue) (e : End) → Comes f → GoAt e → GoAt (take_frame f e).end
  frame_go f e = by_frame f e (λ h p. Comes h → GoAt e → GoAt p.end)
      (λ a is comes i. subst (IdsGo used issued least low) (sym (ack_ids (names_ungiven a e) a e)) i)
      (λ other on comes i. subst (IdsGo used issued least low) (sym (frame_leaves (λ (x : End). x.ids ≡ e.ids) f e on (λ t. refl))) i)
      (λ other m same comes i. subst (IdsGo used issued least low) (sym (ap (λ (x : End). x.ids) same)) i)
      (λ other apart comes i. apart_go f e apart comes i)

  -- ---- and what waits of them

  apart_waits : (f : FrameValue) (e : End) → IsApart f → Comes f → StandAt e → (let x : End = (take_frame f e).end in Waits (IsIssued x.ids.own.issued) (IsBelow x.ids.peer.active) x.waiting.frames)
  apart_waits (ack a) e apart comes i = absurd apart
  apart_waits (stream f) e apart comes i = absurd apart
  apart_waits (reset_stream f) e apart comes i = absurd apart
  apart_waits (stop_sending f) e apart comes i = absurd apart
  apart_waits (max_data limit) e apart comes i = absurd apart
  apart_waits (max_stream_data f) e apart comes i = absurd apart
  apart_waits (max_streams f) e apart comes i = absurd apart
  apart_waits (datagram m) e apart comes i = absurd apart
  apart_waits (new_connection_id f) e apart comes i = judged (inserted e.ids.peer (frame_of f) comes.1)
    where
      WaitAt : End → Type 0
      WaitAt x = Waits (IsIssued x.ids.own.issued) (IsBelow x.ids.peer.active) x.waiting.frames

      up : StandAt (with_taken_up f e)
      up = record {
        go = taken_up_go f e comes i.go;
        waits = subst (λ (n : ℕ). Waits (IsIssued e.ids.own.issued) (IsBelow n) e.waiting.frames) (sym (insert_keeps e.ids.peer (frame_of f) comes.1)) i.waits;
      }

      once_more : f.sequence < e.ids.peer.active → (b : Bool) → Waits (IsIssued e.ids.own.issued) (IsBelow e.ids.peer.active) (if b then e.waiting.frames else record e.waiting.frames { retire_cids = e.waiting.frames.retire_cids ++ f.sequence ∷ [] })
      once_more before true = i.waits
      once_more before false = record {
        tells = i.waits.tells;
        retires = λ n j. elim (in_append n e.waiting.frames.retire_cids (f.sequence ∷ []) j) [
          | inl old ↦ i.waits.retires n old
          | inr new ↦ elim new [ inl same ↦ omega arith | inr none ↦ absurd none ]
        ];
      }

      judged : Inserted e.ids.peer (frame_of f) → WaitAt (id_judged (retires_for (insert_answer e.ids.peer (frame_of f))) f e).end
      judged (taken_up is) = subst (λ (r : Result (Option (Range ℕ)) InsertError). WaitAt (id_judged r f e).end) (sym is) (fits_stand _ (with_taken_up f e) up).waits
      judged (late is before) = subst (λ (r : Result (Option (Range ℕ)) InsertError). WaitAt (id_judged r f e).end) (sym is)
          (once_more before (nat_le most_retirements (length e.waiting.frames.retire_cids) || list_any (λ m. m == f.sequence) e.waiting.frames.retire_cids))
      judged (far is above) = subst (λ (r : Result (Option (Range ℕ)) InsertError). WaitAt (id_judged r f e).end) (sym is) i.waits
  apart_waits (retire_connection_id n) e apart comes i = judged (retirement_answer e.ids.own n e.ids.limit)
    where
      WaitAt : End → Type 0
      WaitAt x = Waits (IsIssued x.ids.own.issued) (IsBelow x.ids.peer.active) x.waiting.frames

      left : End
      left = with_ids e (retired n e.ids)

      left_waits : WaitAt left
      left_waits = subst (λ (n : ℕ). Waits (IsIssued n) (IsBelow e.ids.peer.active) e.waiting.frames) (sym (retired_issued e.ids.own n)) i.waits

      issues : (b : Bool) → issues_for n e ≡ b → WaitAt (issued_if b left)
      issues false may = left_waits
      issues true all = (let may = issues_may n e all in record {
        tells = λ c j. subst (λ (count : ℕ). c.sequence < count) (sym (renewed_issued e n (length e.waiting.frames.new_cids) may)) (elim (in_append c e.waiting.frames.new_cids (undrawn_id left.ids.own.issued ∷ []) j) [
          | inl old ↦ (let before : c.sequence < e.ids.own.issued = i.waits.tells c old in omega arith)
          | inr new ↦ elim new [ inl is ↦ (let number : c.sequence ≡ e.ids.own.issued = ap (λ (d : IssuedCid). d.sequence) is ∙ retired_issued e.ids.own n in omega arith) | inr none ↦ absurd none ]
        ]);
        retires = left_waits.retires;
      })

      judged : (r : Result Bool ErrorValue) → WaitAt (retirement_judged r n e).end
      judged (Ok more) = issues (issues_for n e) refl
      judged (Err error) = i.waits
  apart_waits (path_response token) e apart comes i = go (is_asked e.validation.challenge (word_of token))
    where
      go : (b : Bool) → (let x : End = validated_if b e in Waits (IsIssued x.ids.own.issued) (IsBelow x.ids.peer.active) x.waiting.frames)
      go true = i.waits
      go false = i.waits
  apart_waits handshake_done e apart comes i = by_heard_done (λ (x : End). Waits (IsIssued x.ids.own.issued) (IsBelow x.ids.peer.active) x.waiting.frames) e i.waits (λ c. i.waits)
  apart_waits (ack_frequency r) e apart comes i = by_frequency (λ (x : End). Waits (IsIssued x.ids.own.issued) (IsBelow x.ids.peer.active) x.waiting.frames) r e (λ threshold reordering frequency. i.waits)
  apart_waits f e apart comes i = i.waits

  -- ids are drawn
  places_wait : (bound : ℕ) (places : List ℕ) (words : ℕ → ℕ) (d : Drawing) → ((c : IssuedCid) → In c d.waiting → IsIssued bound c) → (c : IssuedCid) → In c (drawn_places places words d).waiting → IsIssued bound c
  places_wait bound [] words d all c i = all c i
  places_wait bound (place ∷ places) words d all c i =
      places_wait bound places (words_behind words_of_id words) (drawn_one (slice_get d.waiting place) place words d) (one (slice_get d.waiting place) refl) c i
    where
      one : (o : Option IssuedCid) → slice_get d.waiting place ≡ o → (x : IssuedCid) → In x (drawn_one o place words d).waiting → IsIssued bound x
      one None is x j = all x j
      one (Some cid) is x j = elim (in_set d.waiting place (drawn_id words cid.sequence) x j) [
        | inl old ↦ all x old
        | inr new ↦ subst (IsIssued bound) (sym new) (all cid (got_in d.waiting place cid is))
      ]

  drawn_stand : (words : ℕ → ℕ) (e : End) → StandAt e → StandAt (drawn words e)
  drawn_stand words e i = record {
    go = record { owns = i.go.owns; more = i.go.more; knows = i.go.knows; rises = i.go.rises };
    waits = record { tells = places_wait e.ids.own.issued e.ids.undrawn (words_behind (words_drawn e) words) (record { living = e.ids.living; waiting = e.waiting.frames.new_cids }) i.waits.tells; retires = i.waits.retires };
  }

  -- ---- a packet, and any other call

  module _ (took : List Packet) (sents : List Sent) (say : SentSayIds (IsIssued least) (IsBelow low) sents) where
    -- what was sent says so of an end that issued no fewer, and uses none below
    pub say_at : (ids : Ids) → IdsGo used issued least low ids → SentSayIds (IsIssued ids.own.issued) (IsBelow ids.peer.active) sents
    say_at ids i s f among j = more f (say s f among j)
      where
        more : (g : FrameValue) → SaysIds (IsIssued least) (IsBelow low) g → SaysIds (IsIssued ids.own.issued) (IsBelow ids.peer.active) g
        more (new_connection_id g) said = let most = i.more in omega arith
        more (retire_connection_id n) said = let most = i.rises in omega arith
        more g said = tt

    -- each step of an ACK frame leaves it
    settles : SettlesOn took sents StandAt
    settles s e may i =
        let w = steps_wait (IsIssued e.ids.own.issued) (IsBelow e.ids.peer.active) took sents (say_at e.ids i.go) s e may i.waits in
        subst (λ (ids : Ids). IdsStand used issued least low ids (after s e).waiting.frames) (sym (settles_ids e s e refl)) (record { go = i.go; waits = w })

    -- so do the frames of a packet that say what such an end says
    frames_stand : Stands took sents → (frames : List FrameValue) → ((f : FrameValue) → In f frames → Comes f) → (e : End) → ((a : AckValue) → In (ack a) frames → NamesTaken took a) → AreTracked sents e.tracking.packets → StandAt e → StandAt (passed frames e).end
    frames_stand stands frames all e names tracked i = frames_settle took sents stands frames StandAt (record {
      settles = settles;
      names = λ a x among j. j;
      on_streams = λ f x among on j. subst (λ (ids : Ids). IdsStand used issued least low ids (take_frame f x).end.waiting.frames) (sym (frame_leaves (λ (y : End). y.ids ≡ x.ids) f x on (λ t. refl)))
          (record { go = j.go; waits = on_streams_wait (IsIssued x.ids.own.issued) (IsBelow x.ids.peer.active) f x on j.waits });
      message = λ m x j. j;
      apart = λ f x among is j. record { go = frame_go f x (all f among) j.go; waits = apart_waits f x is (all f among) j };
    }) e names tracked i

    -- the next id of the peer is used
    next_stand : (e : End) (a : Answer) → StandAt e → StandAt (end_on_next_id e a)
    next_stand e (answers.UseNextId (Ok done)) i = go (retires_for_next e.ids) refl
      where
        uses : Range ℕ → End
        uses r = retiring r (with_ids e (next_used e.ids))

        above : (r : Range ℕ) → e.ids.peer.active ≤ (uses r).ids.peer.active
        above r = next_above issued e.ids.peer i.go.knows

        end_is : (r : Range ℕ) → retires_for_next e.ids ≡ Some r → r.end ≡ (uses r).ids.peer.active
        end_is r is = (next_range e.ids r is).1

        go : (o : Option (Range ℕ)) → retires_for_next e.ids ≡ o → StandAt (next_id_taken o e)
        go None is = i
        go (Some r) is = fits_stand _ (uses r) (record {
          go = record { owns = i.go.owns; more = i.go.more; knows = next_knows issued e.ids.peer i.go.knows; rises = (let before = i.go.rises in let more = above r in omega arith) };
          waits = record {
            tells = i.waits.tells;
            retires = λ n j. elim (in_append n e.waiting.frames.retire_cids (range_with_len r.start (r.end - r.start)) j) [
              | inl old ↦ (let before = i.waits.retires n old in let more = above r in omega arith)
              | inr new ↦ (let below = range_below r n new in let end = end_is r is in omega arith)
            ];
          };
        })
    next_stand e a i = i

    -- any other call leaves the ids
    call_ids : (p : Policy) (e : End) (theirs : List (List ℕ)) (call : Call) (a : Answer) → is_delivery call ≡ false → uses_next_id call ≡ false → (after_call p e theirs call a).ids ≡ e.ids
    call_ids p e theirs call a other same = by_call p e theirs (λ (x : End). x.ids ≡ e.ids) call a (record {
      same = refl;
      on_streams = λ on answer. refl;
      on_messages = λ on answer. refl;
      pings = refl;
      closes = λ reason f now own. refl;
      waits = λ now b set. by_waits (λ (x : End). x.ids ≡ e.ids) b (with_closing e (ticked e.closing now)) refl refl;
      changes_id = λ uses answer. (let clash : false ≡ true = sym same ∙ uses in cc);
      says_handshake = λ says answer. by_done (λ (x : End). x.ids ≡ e.ids) e a refl refl;
      times = λ now expiry set. by_expired p.words e now (λ (x : End). x.ids ≡ e.ids) (λ pending tracking timers waits asked runs packets. refl)
          (λ pending timers waits asked runs. losses_keep (λ (x : End). x.ids ≡ e.ids) (settles_ids e) (with_closing e (ticked e.closing now)) refl) (λ x j. j) expiry;
      polls = λ now set. polled_ids p e now;
      hears = λ arrival d set. (let clash : false ≡ true = sym other ∙ set in cc);
      tells = λ asks. by_event e (λ (x : End). x.ids ≡ e.ids) refl refl (λ told. refl);
    })

    other_stand : (p : Policy) (e : End) (theirs : List (List ℕ)) (call : Call) (a : Answer) → is_delivery call ≡ false → uses_next_id call ≡ false → AreTracked sents e.tracking.packets → StandAt e → StandAt (after_call p e theirs call a)
    other_stand p e theirs call a other same tracked i =
        subst (λ (ids : Ids). IdsStand used issued least low ids (after_call p e theirs call a).waiting.frames) (sym (call_ids p e theirs call a other same)) (record {
          go = i.go;
          waits = call_waits (IsIssued e.ids.own.issued) (IsBelow e.ids.peer.active) p e theirs call a sents other (say_at e.ids i.go) tracked (λ uses. (let clash : false ≡ true = sym same ∙ uses in cc)) i.waits;
        })

    pub call_stands : (p : Policy) (e : End) (theirs : List (List ℕ)) (call : Call) (a : Answer) → is_delivery call ≡ false → AreTracked sents e.tracking.packets → StandAt e → StandAt (after_call p e theirs call a)
    call_stands p e theirs calls.UseNextId a other tracked i = next_stand e a i
    call_stands p e theirs (calls.Deliver delivery) a other tracked i = cc
    call_stands p e theirs call a other tracked i = other_stand p e theirs call a other refl tracked i

    -- each case of a delivery
    pub arrivals_stand : Stands took sents → (e : End) (now n : ℕ) (frames taken : List FrameValue) (came : Intake) → ((f : FrameValue) → In f taken → Comes f) → ((a : AckValue) → In (ack a) taken → NamesTaken took a) → AreTracked sents e.tracking.packets → StandAt e
        → Arrivals e now n frames taken came (λ (o : Outcome) (j : Intake). StandAt o.end)
    arrivals_stand stands e now n frames taken came all names tracked i = record {
      ignored = λ reason. i;
      noted = λ state reason. i;
      takes = λ words state new none urged mark. drawn_stand words (after_taken n (asks_in (map Ok frames)) urged mark (arrived e now n taken).end) behind;
      moves = λ p o same remote x opened j. moving_keeps StandAt (λ m z k. k) next_stand p o remote x j;
      drains = λ words state new close is. drawn_stand words (drained_at n close (arrived e now n taken).end) behind;
      refuses = λ words state new f is. drawn_stand words (closed_by (reason_of f) (arrived e now n taken).end) behind;
      exhausts = λ state. i;
    }
      where
        behind : StandAt (arrived e now n taken).end
        behind = frames_stand stands taken all (begun e now n) names tracked i

  -- ---- no fault

  -- a frame that brings an id that is near enough, and one that retires one before, is none
  pub id_passes : (f : FrameValue) (e : End) → issued ≤ low + kept_ids → Comes f → GoAt e → IdPasses e f
  id_passes (new_connection_id f) e near comes i = go (inserted e.ids.peer (frame_of f) comes.1)
    where
      go : Inserted e.ids.peer (frame_of f) → (id_judged (retires_for (insert_answer e.ids.peer (frame_of f))) f e).fault ≡ None
      go (taken_up is) = ap (λ (r : Result (Option (Range ℕ)) InsertError). (id_judged r f e).fault) is
      go (late is before) = ap (λ (r : Result (Option (Range ℕ)) InsertError). (id_judged r f e).fault) is
      go (far is above) = let said : f.sequence < issued = comes.0 in let up = i.rises in absurd (omega arith)
  id_passes (retire_connection_id n) e near comes i =
      let right : is_wrong e.ids.own n ≡ false = retires_rightly used e.ids.limit n e.ids.own comes.0 i.owns in
      ap (λ (b : Bool). (retirement_judged (cond b (Err (plain_error protocol_violation)) (Ok (ltb (length (without n e.ids.own.living)) e.ids.limit))) n e).fault) right
  id_passes f e near comes i = tt
