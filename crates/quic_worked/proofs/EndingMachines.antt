-- Machines with a bug in what a closing end shows and gives.
use Rattle.std.proofs.Common.{◌≡◌, ℕ, ◌≤◌, false, List, [], ◌∷◌, ◌++◌, take, Option, Some, None, Ok, refl, inl, inr, sym, ap, ◌∙◌, subst, lit<, lit≤, arith}
use Rattle.std.specs.Prelude.{slice_get, slice_index, replicate}
use Rattle.std.specs.List.{list_any}
use Rattle.std.proofs.lemmas.Bool.{both_ways}
use Rattle.quic_wire_core.specs.declared.stream_id.Side.TheVariants.{Client, Server}
use Rattle.quic_wire_core.specs.declared.shared.EcnCodepoint.TheVariants.{Ect0}
use Rattle.quic_wire.specs.Close.{by_application}
use Rattle.quic_wire.specs.Value.{FrameValue, application_close}
use Rattle.quic_wire.specs.Reading.{application_close_at}
use Rattle.quic_time.specs.declared.timer.Timer.{Timer}
use Rattle.quic_time.specs.declared.timer.Timer.TheVariants.{LossDetection, Close}
use Rattle.quic_machine.specs.declared.answers.State.{State}
use Rattle.quic_machine.specs.declared.answers.State.TheVariants as states
use Rattle.quic_machine.specs.declared.answers.LostReason.{LostReason}
use Rattle.quic_machine.specs.declared.answers.LostReason.TheVariants as reasons
use Rattle.quic_machine.specs.declared.run.CloseCall.{CloseCall}
use Rattle.quic_machine.specs.declared.run.Call.TheVariants as calls
use Rattle.quic_machine.specs.declared.run.Answer.TheVariants as answers
use Rattle.quic_machine.specs.declared.run.EndView.{EndView}
use Rattle.quic_machine.specs.declared.run.View.{View}
use Rattle.quic_machine.specs.Machine.{World, Follows, fails}
use Rattle.quic_machine.specs.RunLaws.{one_run}
use Rattle.quic_headline.specs.Runs.{Told, In, state_in, until}
use Rattle.quic_headline.specs.Observer.{Sent, sents_until}
use Rattle.quic_headline.specs.Headline.{IsHonest, IsRun, IsPrefixOf}
use Rattle.quic_headline.specs.Polls.{GaveOne}
use Rattle.quic_headline.specs.Causes.{Shows, reason_in}
use Rattle.quic_headline.specs.Expiring.{timer_in, IsCloseSet, ClosedTimers, CloseMoments, CloseMomentsStay, DrainsInTime}
use Rattle.quic_headline.specs.Closes.{SaidSo, ClosesSayWhy, IsToldAs, PeerClosesCome, owed, ClosesAreOwed, MayClose, OwedClosesGo, DrainedAreSilent}
use Rattle.quic_worked.specs.Worked.{worked_policies, both_steady, hello, gives_bytes, server_id}
use Rattle.quic_worked.specs.Acknowledged.{client_acked}
use Rattle.quic_worked.specs.Broken.{hellp, IsNoRun}
use Rattle.quic_worked.specs.Machines.{NeverGives}
use Rattle.quic_worked.specs.Renamed.{ids_sent}
use Rattle.quic_worked.specs.Timed.{asks_at, NeverShows}
use Rattle.quic_worked.specs.Held.{gives_nothing}
use Rattle.quic_worked.specs.Ended.{close_read, once_closed, closing_view, closing_run, drained_view}
use Rattle.quic_worked.specs.Ending.{close_call, ending_events, ending_answers, once_ending, once_drained, text_payload, closing_with, closing_until, client_drained, server_waits, server_ended, ending_views, close_sent, closed_as, keeps_loss_timer, closes_briefly, closes_from_before, closes_anew, drains_at_once, never_drains, said_as, other_code, other_text, other_peer, closes_twice, closes_once, closes_drained}
use Rattle.quic_worked.proofs.OwnIds.{honest, honest_steady}
use Rattle.quic_worked.proofs.BrokenRuns.{IsRefused, behind, stops}
use Rattle.quic_worked.proofs.EndedRuns.{closing_is_run}
use Rattle.quic_worked.proofs.EndingRuns.{server_tells, client_tells, closes, gives_close, is_closing, gives_again, server_takes, is_drained, ahead_3, ahead_4, ahead_6, ahead_8, is_drained_there, over_by}
use Rattle.quic_worked.proofs.TimedRun.{moment_in}

-- ---- what the machine shows, and what it gives

-- a timer of the client in a view that is there
abbrev timer_of : Timer → Option View → ℕ
timer_of timer None = 0
timer_of timer (Some v) = moment_in (timer_in timer v Client)

-- its state there
abbrev state_of : Option View → State
state_of None = states.Failed
state_of (Some v) = state_in v Client

-- the views behind the first so many events are these alone
one_view : (n : ℕ) (w : World) (views : List View) (end : World) → Follows worked_policies both_steady (take n ending_events) (take n ending_answers) views end → list_any fails (take n ending_answers) ≡ false
    → Follows worked_policies both_steady (take n ending_events) (take n ending_answers) (take n ending_views) w → (views ≡ take n ending_views) × (end ≡ w)
one_view n w views end f served g = one_run worked_policies (take n ending_answers) both_steady (take n ending_events) views (take n ending_views) end w served f g

-- ---- timers

-- the client is seen so once it closed
closed_own : (seen : EndView) → IsHonest (closed_as seen)
closed_own seen = honest_steady (closed_as seen) (record { start = refl; keys = refl; client = (tt, (tt, (tt, tt))); server = (tt, (tt, (tt, tt))) })

pub keeps_not : ClosedTimers keeps_loss_timer → ⊥
keeps_not h =
    let closed : IsCloseSet (Some 1024000000 ∷ None ∷ Some 4072000000 ∷ replicate 6 None) = h Client 2 _ refl in
    let clash : ◌≡◌ {A = ℕ} 1024000000 0 = ap (λ (ts : List (Option ℕ)). moment_in (slice_get ts 0)) closed.alone in
    omega (arith, clash)

pub keeps_is_honest : IsHonest keeps_loss_timer
keeps_is_honest = closed_own (closing_with (Some 1024000000 ∷ None ∷ Some 4072000000 ∷ replicate 6 None))

-- the machine sets that of its close to one moment, and that of losses to none
closed_shows : (seen : EndView) (timer : Timer) (end : World) → Follows worked_policies both_steady (closed_as seen).events (closed_as seen).answers (closed_as seen).views end
    → timer_of timer (Some (server_waits seen)) ≡ timer_of timer (Some (server_waits (closing_until 4072000000)))
closed_shows seen timer end f = let same = one_view 3 (once_ending 3) (closed_as seen).views end f refl (ahead_3 [] [] [] (once_ending 3) refl) in ap (λ (vs : List View). timer_of timer (slice_get vs 2)) same.0

pub never_keeps : NeverShows keeps_loss_timer
never_keeps end f =
    let clash : ◌≡◌ {A = ℕ} 1024000000 0 = closed_shows (closing_with (Some 1024000000 ∷ None ∷ Some 4072000000 ∷ replicate 6 None)) LossDetection end f in
    absurd (omega (arith, clash))

-- a moment that is shown is the one that is reckoned
shown_over : (moment : ℕ) → CloseMoments (closed_as (closing_until moment)) → moment ≡ 4072000000
shown_over moment h = ap moment_in (h Client 2 (calls.Close close_call) answers.Close (server_waits (closing_until moment)) refl (record { event = refl; answer = refl }) refl refl refl tt) ∙ over_by (closing_until moment)

pub briefly_not : CloseMoments closes_briefly → ⊥
briefly_not h = let clash : ◌≡◌ {A = ℕ} 3048000000 4072000000 = shown_over 3048000000 h in omega (arith, clash)

pub before_not : CloseMoments closes_from_before → ⊥
before_not h = let clash : ◌≡◌ {A = ℕ} 3072000000 4072000000 = shown_over 3072000000 h in omega (arith, clash)

pub briefly_is_honest : IsHonest closes_briefly
briefly_is_honest = closed_own (closing_until 3048000000)

pub before_is_honest : IsHonest closes_from_before
before_is_honest = closed_own (closing_until 3072000000)

pub never_briefly : NeverShows closes_briefly
never_briefly end f = let clash : ◌≡◌ {A = ℕ} 3048000000 4072000000 = closed_shows (closing_until 3048000000) Close end f in absurd (omega (arith, clash))

pub never_from_before : NeverShows closes_from_before
never_from_before end f = let clash : ◌≡◌ {A = ℕ} 3072000000 4072000000 = closed_shows (closing_until 3072000000) Close end f in absurd (omega (arith, clash))

pub anew_not : CloseMomentsStay closes_anew → ⊥
anew_not h = let clash : ◌≡◌ {A = ℕ} 5072000000 4072000000 = ap moment_in (h Client 5 (server_waits (closing_until 5072000000)) refl refl refl) in omega (arith, clash)

pub anew_is_honest : IsHonest closes_anew
anew_is_honest = honest_steady closes_anew (record { start = refl; keys = refl; client = (tt, (tt, (tt, (tt, (tt, (tt, tt)))))); server = (tt, (tt, (tt, (tt, (tt, (tt, tt)))))) })

pub never_anew : NeverShows closes_anew
never_anew end f =
    let same = one_view 6 (once_ending 6) closes_anew.views end f refl (ahead_6 [] [] [] (once_ending 6) refl) in
    let clash : ◌≡◌ {A = ℕ} 5072000000 4072000000 = ap (λ (vs : List View). timer_of Close (slice_get vs 5)) same.0 in
    absurd (omega (arith, clash))

pub at_once_not : DrainsInTime drains_at_once → ⊥
at_once_not h =
    let both = h Client 3 4072000000 (calls.Poll 1000000000) (gives_bytes 34) (server_waits client_drained) refl (record { event = refl; answer = refl }) refl refl refl in
    let due : 4072000000 ≤ 1000000000 = both.1 refl in
    omega (arith, due)

pub never_drains_not : DrainsInTime never_drains → ⊥
never_drains_not h =
    let both = h Client 7 4072000000 (calls.Timeout 4072000000) (answers.Timeout (Ok tt)) (server_ended (closing_until 4072000000)) refl (record { event = refl; answer = refl }) refl refl refl in
    is_drained_there (sym (both.0 4072000000 refl (lit≤ tt)))

pub at_once_is_honest : IsHonest drains_at_once
at_once_is_honest = honest_steady drains_at_once (record { start = refl; keys = refl; client = (tt, (tt, (tt, (tt, tt)))); server = (tt, (tt, (tt, (tt, tt)))) })

pub never_drains_is_honest : IsHonest never_drains
never_drains_is_honest = honest_steady never_drains (record { start = refl; keys = refl; client = (tt, (tt, (tt, (tt, (tt, (tt, (tt, (tt, tt)))))))); server = (tt, (tt, (tt, (tt, (tt, (tt, (tt, (tt, tt)))))))) })

pub never_at_once : NeverShows drains_at_once
never_at_once end f =
    let same = one_view 4 (once_ending 4) drains_at_once.views end f refl (ahead_4 [] [] [] (once_ending 4) refl) in
    absurd (is_drained_there (ap (λ (vs : List View). state_of (slice_get vs 3)) same.0))

pub never_for_ever : NeverShows never_drains
never_for_ever end f =
    let same = one_view 8 once_drained never_drains.views end f refl (ahead_8 [] [] [] once_drained refl) in
    absurd (is_drained_there (sym (ap (λ (vs : List View). state_of (slice_get vs 7)) same.0)))

-- ---- what is said

-- what was told at the client up to its close
abbrev told_client : List Told
told_client = until (said_as []) Client 4

-- its application closed it once
closed_once : (call : Told) (close : CloseCall) → In call told_client → call.call ≡ calls.Close close → close_call ≡ close
closed_once call close (inl e) is = let clash : calls.Poll 0 ≡ calls.Close close = sym (ap (λ (t : Told). t.call) e) ∙ is in absurd cc
closed_once call close (inr (inl e)) is = let same : calls.Close close_call ≡ calls.Close close = sym (ap (λ (t : Told). t.call) e) ∙ is in cc
closed_once call close (inr (inr (inl e))) is = let clash : calls.Poll 1000000000 ≡ calls.Close close = sym (ap (λ (t : Told). t.call) e) ∙ is in absurd cc
closed_once call close (inr (inr (inr i))) is = absurd i

-- so a close that says what it said has its code, and no other text
said_once : (code : ℕ) (text : List ℕ) → SaidSo told_client code text → (7 ≡ code) × IsPrefixOf text hello
said_once code text s =
    let same = closed_once s.call s.close s.among s.called in
    (ap (λ (c : CloseCall). c.error_code) same ∙ s.same, subst (λ (c : CloseCall). IsPrefixOf text c.reason) (sym same) s.begins)

-- a close under number 1 with a code and a text
abbrev other_sent : ℕ → List ℕ → Sent
other_sent code text = record { id = server_id; number = 1; reference = 0; frames = application_close (record { code = code; reason = text }) ∷ []; moment = 0; size = 34; generation = 0 }

code_sent : sents_until other_code Client 4 ≡ ids_sent ∷ other_sent 8 hello ∷ []
unfolding client_acked application_close_at
code_sent = refl

text_sent : sents_until other_text Client 4 ≡ ids_sent ∷ other_sent 7 hellp ∷ []
unfolding client_acked application_close_at
text_sent = refl

-- it stands among these
second_of : (s : Sent) (ss : List Sent) → ss ≡ ids_sent ∷ s ∷ [] → In s ss
second_of s ss are = subst (λ (xs : List Sent). In s xs) (sym are) (inr (inl refl))

pub code_not : ClosesSayWhy other_code → ⊥
code_not h =
    let why : SaidSo told_client 8 hello = h Client 4 (other_sent 8 hello) (application_close (record { code = 8; reason = hello })) refl (second_of (other_sent 8 hello) (sents_until other_code Client 4) code_sent) (inl refl) refl in
    let clash : ◌≡◌ {A = ℕ} 7 8 = (said_once 8 hello why).0 in
    omega (arith, clash)

pub text_not : ClosesSayWhy other_text → ⊥
text_not h =
    let why : SaidSo told_client 7 hellp = h Client 4 (other_sent 7 hellp) (application_close (record { code = 7; reason = hellp })) refl (second_of (other_sent 7 hellp) (sents_until other_text Client 4) text_sent) (inl refl) refl in
    let clash : ◌≡◌ {A = ℕ} 112 111 = ap (λ (bs : List ℕ). slice_index bs 4) (said_once 7 hellp why).1.1 in
    omega (arith, clash)

said_own : (payload : List ℕ) → IsHonest (said_as payload)
said_own payload = honest_steady (said_as payload) (record { start = refl; keys = refl; client = (tt, (tt, (tt, (tt, tt)))); server = (tt, (tt, (tt, (tt, tt)))) })

pub code_is_honest : IsHonest other_code
code_is_honest = said_own (text_payload 8 hello)

pub text_is_honest : IsHonest other_text
text_is_honest = said_own (text_payload 7 hellp)

-- a byte of the second datagram
abbrev byte_of : ℕ → List (List ℕ) → ℕ
byte_of i [] = 0
byte_of i (d ∷ []) = 0
byte_of i (d ∷ e ∷ ds) = slice_index e i

right_code : byte_of 11 (once_ending 4).from_client ≡ 7
unfolding once_ending
right_code = refl

right_text : byte_of 17 (once_ending 4).from_client ≡ 111
unfolding once_ending
right_text = refl

-- the machine gives the same datagrams, whatever is seen
gives_one : (payload : List ℕ) (i : ℕ) (views : List View) (end : World) → IsRun (record (said_as payload) { views = views }) end → byte_of i (said_as payload).from_client ≡ byte_of i (once_ending 4).from_client
gives_one payload i views end is =
    let same = one_view 4 (once_ending 4) views end is.follows refl (ahead_4 [] [] [] (once_ending 4) refl) in
    ap (byte_of i) (is.from_client ∙ ap (λ (w : World). w.from_client) same.1)

pub never_code : NeverGives other_code
never_code views end is = let clash : ◌≡◌ {A = ℕ} 8 7 = gives_one (text_payload 8 hello) 11 views end is ∙ right_code in omega (arith, clash)

pub never_text : NeverGives other_text
never_text views end is = let clash : ◌≡◌ {A = ℕ} 112 111 = gives_one (text_payload 7 hellp) 17 views end is ∙ right_text in omega (arith, clash)

-- ---- what the peer shows

-- the client's one datagram in that run, and its frame
abbrev seven_frame : FrameValue
seven_frame = application_close (record { code = 7; reason = [] })

abbrev seven_sent : Sent
seven_sent = record { id = server_id; number = 0; reference = 0; frames = seven_frame ∷ []; moment = 0; size = 29; generation = 0 }

seven_alone : sents_until other_peer Client 2 ≡ seven_sent ∷ []
unfolding client_acked application_close_at
seven_alone = refl

-- it is the only one, and its frame isn't told so
not_eight : (sent : Sent) (frame : FrameValue) → In sent (seven_sent ∷ []) → In frame sent.frames → IsToldAs frame (close_read 8) → ⊥
not_eight sent frame (inr i) carried told = absurd i
not_eight sent frame (inl e) carried told = go (subst (λ (s : Sent). In frame s.frames) e carried)
  where
    go : In frame (seven_frame ∷ []) → ⊥
    go (inr i) = absurd i
    go (inl same) =
        let seven : IsToldAs seven_frame (close_read 8) = subst (λ (f : FrameValue). IsToldAs f (close_read 8)) same told in
        let clash : ◌≡◌ {A = ℕ} 8 7 = seven.0 in
        omega (arith, clash)

-- the server's view at the end
other_shown : Shows other_peer Server 2 (Some (reasons.Peer (close_read 8)))
other_shown = record { served = refl; view = record { client = closing_view; server = drained_view 1199 (reasons.Peer (close_read 8)) }; there = refl; is = refl }

pub peer_not : PeerClosesCome other_peer → ⊥
peer_not h = let gave = h Server 2 (close_read 8) other_shown in not_eight gave.sent gave.frame (subst (λ (ss : List Sent). In gave.sent ss) seven_alone gave.among) gave.carried gave.told_as

pub peer_is_honest : IsHonest other_peer
peer_is_honest = honest other_peer (record { start = refl; keys = refl; client = (tt, (tt, (tt, tt))); server = (tt, (tt, (tt, tt))) })

-- the code in a reason
abbrev code_of : Option LostReason → ℕ
code_of (Some (reasons.Peer (by_application c))) = c.code
code_of reason = 0

-- and in what a view that is there shows of the server
abbrev peer_code : Option View → ℕ
peer_code None = 0
peer_code (Some v) = code_of (reason_in v Server)

pub never_other : NeverShows other_peer
never_other end f =
    let same = one_run closing_run.keys closing_run.answers closing_run.start closing_run.events other_peer.views closing_run.views end (once_closed 3) refl f closing_is_run.follows in
    let clash : ◌≡◌ {A = ℕ} 8 7 = ap (λ (vs : List View). peer_code (slice_get vs 2)) same.0 in
    absurd (omega (arith, clash))

-- ---- how often it is said

twice_sent : sents_until closes_twice Client 5 ≡ sents_until closes_twice Client 4 ++ close_sent 2 ∷ []
unfolding client_acked application_close_at
twice_sent = refl

gave_twice : GaveOne closes_twice Client 4 1000000000
gave_twice = record { transmit = record { size = 34; ecn = Some Ect0; remote = 0 }; poll = record { event = refl; answer = refl }; served = refl; sent = close_sent 2; went = twice_sent }

owed_none : owed closes_twice Client 4 ≡ false
owed_none = refl

pub twice_not : ClosesAreOwed closes_twice → ⊥
twice_not h = both_ways (owed closes_twice Client 4) owed_none (h Client 4 1000000000 gave_twice refl)

pub twice_is_honest : IsHonest closes_twice
twice_is_honest = honest_steady closes_twice (record { start = refl; keys = refl; client = (tt, (tt, (tt, (tt, (tt, tt))))); server = (tt, (tt, (tt, (tt, (tt, tt))))) })

twice_no : IsRefused (once_ending 4) (asks_at Client 1000000000) (gives_bytes 34)
unfolding once_ending
twice_no (inl e) = cc
twice_no (inr e) = cc

pub no_twice : IsNoRun closes_twice
no_twice = behind refl server_tells (behind refl client_tells (behind refl closes (behind refl gives_close (stops _ _ _ _ _ twice_no))))

once_may : MayClose closes_once Client 5
unfolding client_acked application_close_at
once_may = record { seals = lit< tt; small = lit< tt; near = lit< tt; validated = refl }

pub once_not : OwedClosesGo closes_once → ⊥
once_not h = h Client 5 2000000000 refl refl refl once_may (record { event = refl; answer = refl })

pub once_is_honest : IsHonest closes_once
once_is_honest = honest_steady closes_once (record { start = refl; keys = refl; client = (tt, (tt, (tt, (tt, (tt, (tt, tt)))))); server = (tt, (tt, (tt, (tt, (tt, (tt, tt)))))) })

once_no : IsRefused (once_ending 5) (asks_at Client 2000000000) gives_nothing
unfolding once_ending
once_no (inl e) = cc
once_no (inr e) = cc

pub no_once : IsNoRun closes_once
no_once = behind refl server_tells (behind refl client_tells (behind refl closes (behind refl gives_close (behind refl is_closing (stops _ _ _ _ _ once_no)))))

pub drained_not : DrainedAreSilent closes_drained → ⊥
drained_not h = let clash : gives_bytes 34 ≡ gives_nothing = h Client 8 4072000000 (gives_bytes 34) (record { event = refl; answer = refl }) refl in cc

pub drained_is_honest : IsHonest closes_drained
drained_is_honest = honest_steady closes_drained (record { start = refl; keys = refl; client = (tt, (tt, (tt, (tt, (tt, (tt, (tt, (tt, (tt, tt))))))))); server = (tt, (tt, (tt, (tt, (tt, (tt, (tt, (tt, (tt, tt))))))))) })

drained_no : IsRefused once_drained (asks_at Client 4072000000) (gives_bytes 34)
unfolding once_drained application_close_at
drained_no (inl e) = cc
drained_no (inr e) = cc

pub no_drained : IsNoRun closes_drained
no_drained =
    behind refl server_tells
    (behind refl client_tells (behind refl closes (behind refl gives_close (behind refl is_closing (behind refl gives_again (behind refl server_takes (behind refl is_drained (stops _ _ _ _ _ drained_no))))))))
