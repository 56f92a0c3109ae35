-- How many bytes an end counts on its path are those that the lists of its run say, where it had
-- counted none before the first event.
use Rattle.std.proofs.Common.{◌≡◌, ◌⊎◌, ℕ, suc, ◌+◌, ◌*◌, ◌<◌, ◌≤◌, Bool, true, false, List, [], ◌∷◌, ◌++◌, length, take, Option, Some, None, Result, Ok, Err, refl, sym, ap, ◌∙◌, subst, inl, inr, arith}
use Rattle.std.specs.Prelude.{slice_get, ◌==◌, not, ◌||◌, if◌then◌else◌}
use Rattle.std.specs.Option.{option_to_list}
use Rattle.std.proofs.lemmas.Bool.{eq-eqb}
use Rattle.std.proofs.lemmas.List.{append_assoc}
use Rattle.std.proofs.lemmas.Option.{slice_get_within}
use Rattle.quic_wire_core.specs.declared.stream_id.Side.{Side}
use Rattle.quic_wire_core.specs.declared.stream_id.Side.TheVariants.{Client, Server}
use Rattle.quic_wire_core.specs.StreamId.{other_side}
use Rattle.quic_time.specs.Clocks.{saturated}
use Rattle.quic_machine.specs.declared.answers.Received.{Received}
use Rattle.quic_machine.specs.declared.answers.Received.TheVariants.{Dropped, Closed}
use Rattle.quic_machine.specs.declared.answers.DropReason.TheVariants as drops
use Rattle.quic_machine.specs.declared.answers.Transmit.{Transmit}
use Rattle.quic_machine.specs.declared.answers.Failed.{Failed}
use Rattle.quic_machine.specs.declared.run.RunEvent.{RunEvent}
use Rattle.quic_machine.specs.declared.run.Call.{Call}
use Rattle.quic_machine.specs.declared.run.Call.TheVariants as calls
use Rattle.quic_machine.specs.declared.run.Delivery.{Delivery}
use Rattle.quic_machine.specs.declared.run.Injection.{Injection}
use Rattle.quic_machine.specs.declared.run.Answer.{Answer}
use Rattle.quic_machine.specs.declared.run.Answer.TheVariants as answers
use Rattle.quic_machine.specs.declared.run.View.{View}
use Rattle.quic_machine.specs.Policy.{Policy}
use Rattle.quic_machine.specs.Closing.{ticked}
use Rattle.quic_machine.specs.Parts.{current_mtu}
use Rattle.quic_machine.specs.End.{End, with_closing, closed_by}
use Rattle.quic_machine.specs.Opens.{would_open}
use Rattle.quic_machine.specs.Heard.{Heard, nothing_heard, is_key_limit, heard_failure, heard_answer, heard_anew, received_if, heard_datagram}
use Rattle.quic_machine.specs.Migration.{is_there, has_moved}
use Rattle.quic_machine.specs.Poll.{Polled, mark_of, gives_datagram, datagram_of, draft_as, after_close, polled}
use Rattle.quic_machine.specs.Poll as poll
use Rattle.quic_machine.specs.Receive.{received}
use Rattle.quic_machine.specs.Arrival.{injected_by}
use Rattle.quic_machine.specs.PollCases.{at_poll, after_draft, by_poll}
use Rattle.quic_machine.specs.CallCases.{is_delivery}
use Rattle.quic_machine.specs.Machine.{World, IsStep, IsHeard, IsDelivered, IsAnswer, injected_if, says_last, heard_by, heard_delivery, gives, gave, end_at, given_by, heard_at, policy_at, end_met, view_of}
use Rattle.quic_machine.specs.RunLaws.{one_run}
use Rattle.quic_headline.specs.Runs.{Run, Told, Packet, Intake, size_of, handed, and_handed, and_told, bytes_in_call, folded, given_of, same_side, until, state_at, LeadsTo, AreServed}
use Rattle.quic_headline.specs.Observer.{Route, route_behind, Watch, Lens, news, has_opened, moment_of, clock_behind, is_timely, watch_sent, watch_given, watch_moment, watch_came, watch_moved, watch_told, watch_from, watch, lens_of, has_changed, path_changes}
use Rattle.quic_headline.specs.Allowance.{Allowance, is_from, first_size, allowance_told, no_allowance, allowance, bytes_handed, bytes_given}
use Rattle.quic_headline.specs.Headline.{IsHonest, IsRun}
use Rattle.quic_headline.specs.Polls.{end_in, mtu_in, GaveNothing, IsLimited, IsMade}
use Rattle.quic_headline.proofs.Packets.Closes.{by_closes}
use Rattle.quic_headline.proofs.Packets.Growth.{get_front}
use Rattle.quic_headline.proofs.Packets.Intakes.{folded_more, nothing_handed}
use Rattle.quic_headline.proofs.Packets.Watching.{none_new}
use Rattle.quic_headline.proofs.Places.Moments.{told_none}
use Rattle.quic_headline.proofs.Places.Parties.{told_of}
use Rattle.quic_headline.proofs.Places.Steps.{poll_answer, only_polls_give}
use Rattle.quic_headline.proofs.Places.Placed.{Placed, shown, watch_is}
use Rattle.quic_headline.proofs.Moves.Route.{routed_at, changes_at}
use Rattle.quic_headline.proofs.Timers.Watched.{Observed}
use Rattle.quic_headline.proofs.Held.Behind.{IsBlocked, mtu_at}
use Rattle.quic_headline.proofs.Steps.Made.{made_served, served_before}
use Rattle.quic_headline.proofs.Steps.Along.{own_told, along}

-- ---- what is counted by a call

-- how many bytes came on a path behind so many more, which come from there or from elsewhere, on
-- another path or on the same
abbrev pub came_behind : Bool → Bool → ℕ → ℕ → ℕ
came_behind changed from size came = if changed then size else came + (if from then size else 0)

-- and how many went, where so many more go or don't
abbrev pub went_behind : Bool → Bool → ℕ → ℕ → ℕ
went_behind changed gives size went = if changed then 0 else went + (if gives then size else 0)

-- ---- a datagram that comes

-- what a datagram came to counts no bytes
answer_received : (r : Received) (h : Heard) → (heard_answer r h).received ≡ h.received
answer_received (Dropped drops.NotOpened) h = refl
answer_received (Closed error) h = go (is_key_limit error)
  where
    go : (b : Bool) → (if b then heard_failure h else h).received ≡ h.received
    go true = refl
    go false = refl
answer_received r h = refl

answer_sent : (r : Received) (h : Heard) → (heard_answer r h).sent ≡ h.sent
answer_sent (Dropped drops.NotOpened) h = refl
answer_sent (Closed error) h = go (is_key_limit error)
  where
    go : (b : Bool) → (if b then heard_failure h else h).sent ≡ h.sent
    go true = refl
    go false = refl
answer_sent r h = refl

-- a delivery is answered by what was received, or that there is no such datagram
delivery_answers : (p : Policy) (e : End) (delivery : Delivery) (o : Option (List ℕ)) (a : Answer) → IsDelivered p e delivery o a → (a ≡ answers.NoDatagram) ⊎ ((r : Received) × (a ≡ answers.Deliver r))
delivery_answers p e delivery None a is = inl is
delivery_answers p e delivery (Some d) a (inl is) = inr (_, is)
delivery_answers p e delivery (Some d) a (inr is) = inr (_, is)

-- what a datagram counts by where it came from, and whether it made another path
module _ (h : Heard) (came went : ℕ) (was : h.received ≡ saturated came) (gone : h.sent ≡ saturated went) where
  counts_received : (here new : Bool) (d : List ℕ) (r : Received) → (heard_datagram here new d r h).received ≡ saturated (came_behind new here (length d) came)
  counts_received here new d r = answer_received r (received_if (here || new) (length d) (heard_anew new h)) ∙ go here new
    where
      go : (a b : Bool) → (received_if (a || b) (length d) (heard_anew b h)).received ≡ saturated (came_behind b a (length d) came)
      go true true = omega arith
      go false true = omega arith
      go true false = omega (arith, was)
      go false false = omega (arith, was)

  counts_sent : (here new : Bool) (d : List ℕ) (r : Received) → (heard_datagram here new d r h).sent ≡ saturated (went_behind new false 0 went)
  counts_sent here new d r = answer_sent r (received_if (here || new) (length d) (heard_anew new h)) ∙ go here new
    where
      go : (a b : Bool) → (received_if (a || b) (length d) (heard_anew b h)).sent ≡ saturated (went_behind b false 0 went)
      go true true = omega arith
      go false true = omega arith
      go true false = omega (arith, gone)
      go false false = omega (arith, gone)

-- no bytes are none, from wherever they come
none_came : (from : Bool) (came : ℕ) → came_behind false from 0 came ≡ came
none_came true came = omega arith
none_came false came = omega arith

-- ---- what a poll gives

-- A poll gives this datagram, of as many bytes as its answer says.
pub record GivesThis (q : Polled) (t : Transmit) : Type 0 where
  pub given : List ℕ
  pub is : q.datagram ≡ Some given
  pub size : length given ≡ t.size

said_size : (d : List ℕ) (x : End) (t : Transmit) → (gives_datagram d x).answer ≡ Ok (Some t) → GivesThis (gives_datagram d x) t
said_size d x t is =
    let same : record { size = length d; ecn = mark_of x.path.marking; remote = x.path.remote } ≡ t = cc in
    record { given = d; is = refl; size = ap (λ (u : Transmit). u.size) same }

pub gives_this : (p : Policy) (e : End) (now : ℕ) (t : Transmit) → (polled p e now).answer ≡ Ok (Some t) → GivesThis (polled p e now) t
gives_this p e now t = by_poll p e now Of (record {
  silent = λ is. cc;
  failed = λ is. cc;
  nothing = λ c is. cc;
  repeats = λ state. close (with_closing e (ticked e.closing now));
  closes = λ reason c bound. close (closed_by reason (at_poll e now c));
  gives = λ leaving c left state bound ready some is. said_size (datagram_of p (draft_as leaving (at_poll e now c))) (after_draft p (draft_as leaving (at_poll e now c)) left) t is;
})
  where
    Of : Polled → Type 0
    Of q = q.answer ≡ Ok (Some t) → GivesThis q t

    -- the close of an end that closes, or is closing
    close : (x : End) → Of (poll.closes p x)
    close x = by_closes p x Of (λ is. cc) (λ f goes is. said_size (datagram_of p (draft_as (poll.closing f) x)) (after_close p (draft_as (poll.closing f) x)) t is)

-- the first of what is given so has so many bytes
pub first_given : (o : Option (List ℕ)) (d : List ℕ) (rest : List (List ℕ)) → o ≡ Some d → first_size (option_to_list o ++ rest) ≡ length d
first_given o d rest is = ap (λ (x : Option (List ℕ)). first_size (option_to_list x ++ rest)) is

-- ---- a call

-- whether what a call hands in comes from where an end has its peer
abbrev pub from_there : End → Call → Bool
from_there e (calls.Deliver delivery) = is_there delivery.remote e
from_there e (calls.Inject injection) = is_there injection.remote e
from_there e call = false

-- A call at an end, behind which it is another, where the other gave these datagrams, and a call
-- counts as from where the peer is or doesn't; of its own the end gives one of so many bytes, if it
-- gives one.
module _ (p : Policy) (e before after : End) (theirs rest final : List (List ℕ)) (front : theirs ++ rest ≡ final) (h : Heard) (came went n : ℕ) (was : h.received ≡ saturated came) (gone : h.sent ≡ saturated went) where
  abbrev pub CountsOn : Bool → Call → Answer → Type 0
  CountsOn changed call a =
      ((heard_by before after theirs call a h).received ≡ saturated (came_behind changed (from_there before call) (bytes_in_call final call a) came))
      × ((heard_by before after theirs call a h).sent ≡ saturated (went_behind changed (gave a) n went))

  -- what is counted by the call
  abbrev pub Counts : Call → Answer → Type 0
  Counts call a = CountsOn (has_moved before after) call a

  -- a call that counts nothing, where the path stays
  none_counted : (call : Call) (a : Answer) → heard_by before after theirs call a h ≡ h → bytes_in_call final call a ≡ 0 → gave a ≡ false → has_moved before after ≡ false → Counts call a
  none_counted call a same none silent still = subst (λ (b : Bool). CountsOn b call a) (sym still) (
    ap (λ (x : Heard). x.received) same ∙ was ∙ ap saturated (sym (ap (λ (k : ℕ). came_behind false (from_there before call) k came) none ∙ none_came (from_there before call) came)),
    ap (λ (x : Heard). x.sent) same ∙ gone ∙ ap saturated (sym (ap (λ (b : Bool). went_behind false b n went) silent ∙ none_went)),
  )
    where
      none_went : went_behind false false n went ≡ went
      none_went = omega arith

  delivered_counts : (delivery : Delivery) (r : Received) → IsDelivered p e delivery (slice_get theirs delivery.index) (answers.Deliver r) → Counts (calls.Deliver delivery) (answers.Deliver r)
  delivered_counts delivery r is = go (slice_get theirs delivery.index) refl is
    where
      new : Bool
      new = has_moved before after

      Of : Option (List ℕ) → Type 0
      Of o = ((heard_delivery before after delivery.remote o r h).received ≡ saturated (came_behind new (is_there delivery.remote before) (size_of (slice_get final delivery.index)) came))
          × ((heard_delivery before after delivery.remote o r h).sent ≡ saturated (went_behind new false n went))

      same_went : (b : Bool) → went_behind b false 0 went ≡ went_behind b false n went
      same_went true = refl
      same_went false = refl

      go : (o : Option (List ℕ)) → slice_get theirs delivery.index ≡ o → IsDelivered p e delivery o (answers.Deliver r) → Of o
      go None there none = cc
      go (Some d) there came_here =
          let at : slice_get final delivery.index ≡ Some d = subst (λ (ds : List (List ℕ)). slice_get ds delivery.index ≡ Some d) front (get_front theirs rest delivery.index d there) in (
            counts_received h came went was gone (is_there delivery.remote before) new d r ∙ ap (λ (o : Option (List ℕ)). saturated (came_behind new (is_there delivery.remote before) (size_of o) came)) (sym at),
            counts_sent h came went was gone (is_there delivery.remote before) new d r ∙ ap saturated (same_went new),
          )

  injected_counts : (injection : Injection) (b is_last : Bool) → has_moved before after ≡ false → Counts (calls.Inject injection) (injected_if b is_last p e injection)
  injected_counts injection true is_last still = none_counted (calls.Inject injection) (injected_if true is_last p e injection) refl refl refl still
  injected_counts injection false is_last still =
      let r : Received = (received p e (injected_by is_last injection) injection.bytes).answer in
      subst (λ (b : Bool). CountsOn b (calls.Inject injection) (answers.Inject r)) (sym still) (
        counts_received h came went was gone (is_there injection.remote before) false injection.bytes r,
        counts_sent h came went was gone (is_there injection.remote before) false injection.bytes r ∙ ap saturated (omega arith),
      )

  polled_counts : (now : ℕ) (r : Result (Option Transmit) Failed) → ((t : Transmit) → r ≡ Ok (Some t) → n ≡ t.size) → has_moved before after ≡ false → Counts (calls.Poll now) (answers.Poll r)
  polled_counts now (Ok None) size still = none_counted (calls.Poll now) (answers.Poll (Ok None)) refl refl refl still
  polled_counts now (Err f) size still = none_counted (calls.Poll now) (answers.Poll (Err f)) refl refl refl still
  polled_counts now (Ok (Some t)) size still =
      let same : n ≡ t.size = size t refl in
      subst (λ (b : Bool). CountsOn b (calls.Poll now) (answers.Poll (Ok (Some t)))) (sym still) (omega (arith, was), omega (arith, gone, same))

  -- where only a delivery of a datagram leads to another path
  pub call_counts : (call : Call) (a : Answer) → IsAnswer p e theirs call a → ((is_delivery call ≡ false) ⊎ (a ≡ answers.NoDatagram) → has_moved before after ≡ false) → ((now : ℕ) (t : Transmit) → call ≡ calls.Poll now → a ≡ answers.Poll (Ok (Some t)) → n ≡ t.size) → Counts call a
  call_counts (calls.Deliver delivery) a is still size = elim (delivery_answers p e delivery (slice_get theirs delivery.index) a is) [
    | inl none ↦ subst (Counts (calls.Deliver delivery)) (sym none) (none_counted (calls.Deliver delivery) answers.NoDatagram refl refl refl (still (inr none)))
    | inr came_here ↦ subst (Counts (calls.Deliver delivery)) (sym came_here.1) (delivered_counts delivery came_here.0 (subst (IsDelivered p e delivery (slice_get theirs delivery.index)) came_here.1 is))
  ]
  call_counts (calls.Inject injection) a is still size = subst (Counts (calls.Inject injection)) (sym is) (injected_counts injection (would_open p e injection.remote injection.bytes) (says_last a) (still (inl refl)))
  call_counts (calls.Poll now) a (inl is) still size = subst (Counts (calls.Poll now)) (sym is) (polled_counts now (polled p e now).answer (λ t said. size now t refl (is ∙ ap answers.Poll said)) (still (inl refl)))
  call_counts (calls.Poll now) a (inr is) still size = subst (Counts (calls.Poll now)) (sym is) (polled_counts now (Err (record {})) (λ t said. cc) (still (inl refl)))
  call_counts call a is still size = none_counted call a refl refl (only_polls_give p e theirs call a refl is) (still (inl refl))

-- ---- what the lists count

-- what counts knows what the observer does
allowance_watch : (l : Lens) (told : List Told) (a : Allowance) → (folded (allowance_told l) told a).watch ≡ folded (watch_told l) told a.watch
allowance_watch l [] a = refl
allowance_watch l (t ∷ told) a = allowance_watch l told (allowance_told l t a) ∙ ap (λ (w : Watch). folded (watch_told l) told w) (go (has_changed a.watch (watch_told l t a.watch)))
  where
    after : Watch
    after = watch_told l t a.watch

    behind : Bool → Allowance
    behind b =
        if b then record { watch = after; came = bytes_in_call l.peer_gave t.call t.answer; went = 0 }
        else record {
          watch = after;
          came = a.came + (if is_from a.watch.route t.call then bytes_in_call l.peer_gave t.call t.answer else 0);
          went = a.went + (if gave t.answer then first_size a.watch.left else 0);
        }

    go : (b : Bool) → (behind b).watch ≡ after
    go true = refl
    go false = refl

-- what one call more counts
told_came : (l : Lens) (t : Told) (a : Allowance) → (allowance_told l t a).came ≡ came_behind (has_changed a.watch (watch_told l t a.watch)) (is_from a.watch.route t.call) (bytes_in_call l.peer_gave t.call t.answer) a.came
told_came l t a = go (has_changed a.watch (watch_told l t a.watch))
  where
    behind : Bool → Allowance
    behind b =
        if b then record { watch = watch_told l t a.watch; came = bytes_in_call l.peer_gave t.call t.answer; went = 0 }
        else record {
          watch = watch_told l t a.watch;
          came = a.came + (if is_from a.watch.route t.call then bytes_in_call l.peer_gave t.call t.answer else 0);
          went = a.went + (if gave t.answer then first_size a.watch.left else 0);
        }

    go : (b : Bool) → (behind b).came ≡ came_behind b (is_from a.watch.route t.call) (bytes_in_call l.peer_gave t.call t.answer) a.came
    go true = refl
    go false = refl

told_went : (l : Lens) (t : Told) (a : Allowance) → (allowance_told l t a).went ≡ went_behind (has_changed a.watch (watch_told l t a.watch)) (gave t.answer) (first_size a.watch.left) a.went
told_went l t a = go (has_changed a.watch (watch_told l t a.watch))
  where
    behind : Bool → Allowance
    behind b =
        if b then record { watch = watch_told l t a.watch; came = bytes_in_call l.peer_gave t.call t.answer; went = 0 }
        else record {
          watch = watch_told l t a.watch;
          came = a.came + (if is_from a.watch.route t.call then bytes_in_call l.peer_gave t.call t.answer else 0);
          went = a.went + (if gave t.answer then first_size a.watch.left else 0);
        }

    go : (b : Bool) → (behind b).went ≡ went_behind b (gave t.answer) (first_size a.watch.left) a.went
    go true = refl
    go false = refl

-- where the peer is stays where nothing comes
sent_route : (taker : Policy) (ds : List (List ℕ)) (w : Watch) → (watch_sent taker ds w).route ≡ w.route
sent_route taker [] w = refl
sent_route taker (d ∷ ds) w = refl

given_route : (gives timely : Bool) (l : Lens) (w : Watch) → (watch_given gives l (watch_moment timely l.terms w)).route ≡ w.route
given_route true true l w = sent_route l.taker w.left (watch_moment true l.terms w)
given_route true false l w = sent_route l.taker w.left w
given_route false true l w = refl
given_route false false l w = refl

none_moves : (serves : Bool) (took : List Packet) (call : Call) (r : Route) → route_behind serves took [] call r ≡ r
none_moves true took call r = refl
none_moves false took call r = refl

apart_moves : (serves : Bool) (took came : List Packet) (call : Call) (r : Route) → is_delivery call ≡ false → route_behind serves took came call r ≡ r
apart_moves false took came call r apart = refl
apart_moves true took [] call r apart = refl
apart_moves true took (n ∷ ns) (calls.Deliver delivery) r apart = cc
apart_moves true took (n ∷ ns) call r apart = refl

nothing_there : (given : List (List ℕ)) (call : Call) (a : Answer) → a ≡ answers.NoDatagram → handed given call a ≡ None
nothing_there given (calls.Deliver delivery) a none = ap (λ (b : Answer). handed given (calls.Deliver delivery) b) none
nothing_there given call a none = refl

quiet_told : (l : Lens) (t : Told) (w : Watch) → (is_delivery t.call ≡ false) ⊎ (t.answer ≡ answers.NoDatagram) → (watch_told l t w).route ≡ w.route
quiet_told l t w quiet = given_route (gave t.answer) (is_timely t.state t.call) l (watch_came l.terms after (clock_behind w.clock (moment_of t.state (has_opened w.intake after) t.call)) (watch_moved l.serves after t.call w)) ∙ go quiet
  where
    after : Intake
    after = and_told l.own l.peer_gave t w.intake

    go : (is_delivery t.call ≡ false) ⊎ (t.answer ≡ answers.NoDatagram) → route_behind l.serves w.intake.took (news w.intake after) t.call w.route ≡ w.route
    go (inl apart) = apart_moves l.serves w.intake.took (news w.intake after) t.call w.route apart
    go (inr none) =
        let same : after ≡ w.intake = ap (λ (o : Option (List ℕ)). and_handed t.state o l.own t.answer w.intake) (nothing_there l.peer_gave t.call t.answer none) ∙ nothing_handed t.state l.own t.answer w.intake in
        ap (λ (j : Intake). route_behind l.serves w.intake.took (news w.intake j) t.call w.route) same
        ∙ ap (λ (ps : List Packet). route_behind l.serves w.intake.took ps t.call w.route) (none_new w.intake)
        ∙ none_moves l.serves w.intake.took t.call w.route

-- what comes from where the observer has the peer comes from where its end has it
pub from_same : (route : Route) (e : End) (call : Call) → route.address ≡ e.path.remote → is_from route call ≡ from_there e call
from_same route e (calls.Deliver delivery) same = ap (λ (n : ℕ). delivery.remote == n) same
from_same route e (calls.Inject injection) same = ap (λ (n : ℕ). injection.remote == n) same
from_same route e call same = refl

-- ---- at each place

-- what holds of the counts holds of the lists
limit_stays : (came counted_came given counted_given size mtu : ℕ) → counted_came ≡ saturated came → counted_given ≡ saturated given → mtu ≡ size → saturated (3 * counted_came) < counted_given + size → saturated (3 * came) < given + mtu
limit_stays came counted_came given counted_given size mtu received sent same full = omega (arith, received, sent, same, full)

limit_back : (came counted_came given counted_given size mtu : ℕ) → counted_came ≡ saturated came → counted_given ≡ saturated given → mtu ≡ size → 0 < size → saturated (3 * came) < given + mtu → saturated (3 * counted_came) < counted_given + size
limit_back came counted_came given counted_given size mtu received sent same some full = omega (arith, received, sent, same, some, full)

module _ (r : Run) (end : World) (honest : IsHonest r) (run : IsRun r end) (all : (by : Side) (i : ℕ) → AreServed r i → Placed Observed r end by i) (side : Side) (nothing : heard_at side r.start ≡ nothing_heard) where
  -- it counted what its lists say
  pub record Counted (i : ℕ) (w : World) : Type 0 where
    pub received : (heard_at side w).received ≡ saturated (bytes_handed r side i)
    pub sent : (heard_at side w).sent ≡ saturated (bytes_given r side i)

  abbrev l : Lens
  l = lens_of r side

  -- what counts by these calls
  abbrev pub counting : List Told → Allowance
  counting told = folded (allowance_told l) told (no_allowance (watch_from (end_at side r.start) (given_of r side)))

  none_told : until r side 0 ≡ []
  none_told = told_none side r.events r.views (end_at side r.start).closing.state

  first_counted : Counted 0 r.start
  first_counted = record {
    received = ap (λ (h : Heard). h.received) nothing ∙ ap (λ (ts : List Told). saturated (counting ts).came) (sym none_told);
    sent = ap (λ (h : Heard). h.sent) nothing ∙ ap (λ (ts : List Told). saturated (counting ts).went) (sym none_told);
  }

  -- nothing went before the first call
  pub none_given : bytes_given r side 0 ≡ 0
  none_given = ap (λ (ts : List Told). (counting ts).went) none_told

  -- one world behind the first so many answers
  pub there : (i : ℕ) (w : World) (served : AreServed r i) → LeadsTo r i w → (all side i served).world ≡ w
  there i w served leads = (one_run r.keys (take i r.answers) r.start (take i r.events) (take i r.views) (take i r.views) (all side i served).world w served (all side i served).leads leads).1

  -- the other end gave there the first of what it gives
  theirs_front : (i : ℕ) (w : World) → AreServed r i → LeadsTo r i w → (rest : List (List ℕ)) × (given_by (other_side side) w ++ rest ≡ given_of r (other_side side))
  theirs_front i w served leads = subst (λ (v : World). (rest : List (List ℕ)) × (given_by (other_side side) v ++ rest ≡ given_of r (other_side side))) (there i w served leads) (all side i served).joined.y_more

  -- a step of the other end
  pub other_heard : (by : Side) (w next : World) (call : Call) (a : Answer) → same_side by side ≡ false → IsStep r.keys w (record { side = by; call = call }) a next → (heard_at side next ≡ heard_at side w) × (given_by side next ≡ given_by side w)
  other_heard = go side
    where
      go : (side by : Side) (w next : World) (call : Call) (a : Answer) → same_side by side ≡ false → IsStep r.keys w (record { side = by; call = call }) a next → (heard_at side next ≡ heard_at side w) × (given_by side next ≡ given_by side w)
      go Client Client w next call a other s = cc
      go Server Server w next call a other s = cc
      go Client Server w next call a other s = (ap (λ (v : World). v.client_heard) s.others, ap (λ (v : World). v.from_client) s.others)
      go Server Client w next call a other s = (ap (λ (v : World). v.server_heard) s.others, ap (λ (v : World). v.from_server) s.others)

  -- what a step of its own gives
  pub own_given : (w next : World) (call : Call) (a : Answer) → IsStep r.keys w (record { side = side; call = call }) a next
      → given_by side next ≡ given_by side w ++ gives (policy_at side r.keys) (end_met w (record { side = side; call = call })) call a
  own_given = go side
    where
      go : (side : Side) (w next : World) (call : Call) (a : Answer) → IsStep r.keys w (record { side = side; call = call }) a next
          → given_by side next ≡ given_by side w ++ gives (policy_at side r.keys) (end_met w (record { side = side; call = call })) call a
      go Client w next call a s = ap (λ (v : World). v.from_client) s.others
      go Server w next call a s = ap (λ (v : World). v.from_server) s.others

  -- ---- one event more

  other_counts : (i : ℕ) (event : RunEvent) (a : Answer) (w next : World) → slice_get r.events i ≡ Some event → same_side event.side side ≡ false → IsStep r.keys w event a next → until r side (suc i) ≡ until r side i → Counted i w → Counted (suc i) next
  other_counts i event a w next at other step told before =
      let same = other_heard event.side w next event.call a other step in
      record {
        received = ap (λ (h : Heard). h.received) same.0 ∙ before.received ∙ ap (λ (ts : List Told). saturated (counting ts).came) (sym told);
        sent = ap (λ (h : Heard). h.sent) same.0 ∙ before.sent ∙ ap (λ (ts : List Told). saturated (counting ts).went) (sym told);
      }

  -- a call of its own
  module _ (i : ℕ) (call : Call) (a : Answer) (w next : World) (m : IsMade r i side call a w next) (leads : LeadsTo r (suc i) next) where
    abbrev p : Policy
    p = policy_at side r.keys

    abbrev e : End
    e = end_met w (record { side = side; call = call })

    abbrev here : End
    here = end_at side w

    abbrev behind : End
    behind = end_at side next

    abbrev t : Told
    t = told_of call a (state_at r side i)

    served : AreServed r i
    served = served_before r.answers i m.served

    told : until r side (suc i) ≡ until r side i ++ t ∷ []
    told = own_told r end run side i call a w next m

    -- what the observer knows before it, and behind it
    abbrev seen : Watch
    seen = watch r side i

    seen_next : watch r side (suc i) ≡ watch_told l t seen
    seen_next = ap (λ (ts : List Told). folded (watch_told l) ts (watch_from (end_at side r.start) (given_of r side))) told ∙ folded_more (watch_told l) (until r side i) t (watch_from (end_at side r.start) (given_of r side))

    seen_within : (allowance r side i).watch ≡ seen
    seen_within = allowance_watch l (until r side i) (no_allowance (watch_from (end_at side r.start) (given_of r side)))

    -- whether the path changes
    pub changes : path_changes r side i ≡ has_moved here behind
    changes = changes_at r end honest run side i w next m.served m.leads leads

    -- it does only by a datagram that comes
    stays : (is_delivery call ≡ false) ⊎ (a ≡ answers.NoDatagram) → has_moved here behind ≡ false
    stays quiet =
        sym changes
        ∙ ap (λ (v : Watch). has_changed seen v) seen_next
        ∙ ap (λ (g : ℕ). not (g == seen.route.generation)) (ap (λ (x : Route). x.generation) (quiet_told l t seen quiet))
        ∙ ap not (eq-eqb seen.route.generation seen.route.generation refl)

    -- what the observer waits for is what goes next
    gives_next : (rest : List (List ℕ)) × (seen.left ≡ gives p e call a ++ rest)
    gives_next =
        let at = all side i served in
        let more = (all side (suc i) m.served).joined.x_more in
        let whole : given_by side next ++ more.0 ≡ given_of r side = subst (λ (v : World). given_by side v ++ more.0 ≡ given_of r side) (there (suc i) next m.served leads) more.1 in
        let parts : given_by side w ++ (gives p e call a ++ more.0) ≡ given_of r side = sym (append_assoc (given_by side w) (gives p e call a) more.0) ∙ ap (λ (ds : List (List ℕ)). ds ++ more.0) (sym (own_given w next call a m.step)) ∙ whole in
        (more.0, ap (λ (v : Watch). v.left) (watch_is r honest at.world i side at.sents at.theirs) ∙ at.gives.1.left (gives p e call a ++ more.0) (ap (λ (v : World). given_by side v ++ (gives p e call a ++ more.0)) (there i w served m.leads) ∙ parts))

    -- a poll gives as many bytes as it says
    pub gives_size : (now : ℕ) (u : Transmit) → call ≡ calls.Poll now → a ≡ answers.Poll (Ok (Some u)) → first_size seen.left ≡ u.size
    gives_size now u polls said =
        let answer : answers.Poll (Ok (Some u)) ≡ answers.Poll (polled p met now).answer = sym said ∙ poll_answer p met now a (subst (λ (c : Call). IsAnswer p (end_met w (record { side = side; call = c })) (given_by (other_side side) w) c a) polls m.step.answer) (made_served r i side call a w next m) in
        let this = gives_this p met now u (let same : (polled p met now).answer ≡ Ok (Some u) = cc in same) in
        ap first_size (gives_next.1
        ∙ ap (λ (c : Call). gives p (end_met w (record { side = side; call = c })) c a ++ gives_next.0) polls
        ∙ ap (λ (b : Answer). gives p met (calls.Poll now) b ++ gives_next.0) said)
        ∙ first_given (polled p met now).datagram this.given gives_next.0 this.is
        ∙ this.size
      where
        met : End
        met = end_met w (record { side = side; call = calls.Poll now })

    counted_next : allowance r side (suc i) ≡ allowance_told l t (allowance r side i)
    counted_next = ap counting told ∙ folded_more (allowance_told l) (until r side i) t (no_allowance (watch_from (end_at side r.start) (given_of r side)))

    moves_so : has_changed seen (watch_told l t seen) ≡ has_moved here behind
    moves_so = ap (λ (v : Watch). has_changed seen v) (sym seen_next) ∙ changes

    -- what counts on the path behind it
    pub handed_next : bytes_handed r side (suc i) ≡ came_behind (has_moved here behind) (from_there here call) (bytes_in_call (given_of r (other_side side)) call a) (bytes_handed r side i)
    handed_next =
        ap (λ (x : Allowance). x.came) counted_next
        ∙ told_came l t (allowance r side i)
        ∙ ap (λ (v : Watch). came_behind (has_changed v (watch_told l t v)) (is_from v.route call) (bytes_in_call l.peer_gave call a) (bytes_handed r side i)) seen_within
        ∙ ap (λ (b : Bool). came_behind b (is_from seen.route call) (bytes_in_call l.peer_gave call a) (bytes_handed r side i)) moves_so
        ∙ ap (λ (b : Bool). came_behind (has_moved here behind) b (bytes_in_call l.peer_gave call a) (bytes_handed r side i)) (from_same seen.route here call (routed_at r end honest run side i w served m.leads).address)

    pub given_next : bytes_given r side (suc i) ≡ went_behind (has_moved here behind) (gave a) (first_size seen.left) (bytes_given r side i)
    given_next =
        ap (λ (x : Allowance). x.went) counted_next
        ∙ told_went l t (allowance r side i)
        ∙ ap (λ (v : Watch). went_behind (has_changed v (watch_told l t v)) (gave a) (first_size v.left) (bytes_given r side i)) seen_within
        ∙ ap (λ (b : Bool). went_behind b (gave a) (first_size seen.left) (bytes_given r side i)) moves_so

    own_counts : Counted i w → Counted (suc i) next
    own_counts before =
        let front = theirs_front i w served m.leads in
        let theirs : List (List ℕ) = given_by (other_side side) w in
        let heard : heard_at side next ≡ heard_by here behind theirs call a (heard_at side w) = subst (λ (b : Bool). IsHeard b here behind theirs call a (heard_at side w) (heard_at side next)) (made_served r i side call a w next m) m.step.heard in
        let counts = call_counts p e here behind theirs front.0 (given_of r (other_side side)) front.1 (heard_at side w) (bytes_handed r side i) (bytes_given r side i) (first_size seen.left) before.received before.sent call a m.step.answer stays gives_size in
        record {
          received = ap (λ (h : Heard). h.received) heard ∙ counts.0 ∙ ap saturated (sym handed_next);
          sent = ap (λ (h : Heard). h.sent) heard ∙ counts.1 ∙ ap saturated (sym given_next);
        }

  -- at each place
  pub counts_at : (i : ℕ) (w : World) → i ≤ length r.views → AreServed r i → LeadsTo r i w → Counted i w
  counts_at = along r end run side Counted (record { first = first_counted; own = own_counts; other = other_counts })

  validated_shown : (v : View) (w : World) → v ≡ view_of w → (end_in v side).validated ≡ (end_at side w).path.validated
  validated_shown v w seen = ap (λ (u : View). (end_in u side).validated) seen ∙ at_side side w
    where
      at_side : (by : Side) (u : World) → (end_in (view_of u) by).validated ≡ (end_at by u).path.validated
      at_side Client u = refl
      at_side Server u = refl

  -- where nothing more may go by what an end counted, so it is by the lists
  pub when_blocked : (i now : ℕ) (v : View) (w : World) → AreServed r (suc i) → LeadsTo r (suc i) w → GaveNothing r side i now v → IsBlocked (end_at side w) (heard_at side w) → IsLimited r side (suc i) v
  when_blocked i now v w served leads gave blocked =
      let within = slice_get_within r.views i v gave.shown in
      let counts = counts_at (suc i) w (omega (arith, within)) served leads in
      record {
        unvalidated = validated_shown v w (shown r w i v leads gave.shown) ∙ blocked.unvalidated;
        full = limit_stays (bytes_handed r side (suc i)) (heard_at side w).received (bytes_given r side (suc i)) (heard_at side w).sent (current_mtu (end_at side w).path) (mtu_in v side) counts.received
            counts.sent
            (mtu_at r side i now v w leads gave) blocked.full;
      }

  -- and the other way round, where datagrams have bytes
  pub blocked_back : (i now : ℕ) (v : View) (w : World) → AreServed r (suc i) → LeadsTo r (suc i) w → GaveNothing r side i now v → 0 < current_mtu (end_at side w).path → IsLimited r side (suc i) v → IsBlocked (end_at side w) (heard_at side w)
  blocked_back i now v w served leads gave some limited =
      let within = slice_get_within r.views i v gave.shown in
      let counts = counts_at (suc i) w (omega (arith, within)) served leads in
      record {
        unvalidated = sym (validated_shown v w (shown r w i v leads gave.shown)) ∙ limited.unvalidated;
        full = limit_back (bytes_handed r side (suc i)) (heard_at side w).received (bytes_given r side (suc i)) (heard_at side w).sent (current_mtu (end_at side w).path) (mtu_in v side) counts.received
            counts.sent
            (mtu_at r side i now v w leads gave) some limited.full;
      }
