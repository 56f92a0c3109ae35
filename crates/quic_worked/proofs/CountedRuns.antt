-- Marks that are counted, PING that goes, and the timer of acknowledgements, in the machine's runs;
-- and machines that count no mark, let PING wait, set that timer anew, or never.
use Rattle.std.proofs.Common.{◌≡◌, ℕ, zero, suc, ◌≤◌, true, false, List, [], ◌∷◌, ◌++◌, Some, None, Ok, Option, refl, inl, inr, ap, ◌∙◌, sym, subst, arith}
use Rattle.std.specs.Prelude.{slice_get}
use Rattle.std.specs.List.{list_any}
use Rattle.quic_wire_core.specs.declared.stream_id.Side.{Side}
use Rattle.quic_wire_core.specs.declared.stream_id.Side.TheVariants.{Client, Server}
use Rattle.quic_wire_core.specs.declared.shared.EcnCodepoint.TheVariants.{Ect0}
use Rattle.quic_wire.specs.AckReading.{ecn_at}
use Rattle.quic_wire.specs.Value.{AckValue, ack}
use Rattle.quic_machine.specs.declared.answers.Received.TheVariants as receives
use Rattle.quic_machine.specs.declared.run.Answer.{Answer}
use Rattle.quic_machine.specs.declared.run.Answer.TheVariants as answers
use Rattle.quic_machine.specs.declared.run.View.{View}
use Rattle.quic_machine.specs.Machine.{IsStep, Follows, view_of}
use Rattle.quic_machine.specs.RunLaws.{one_run}
use Rattle.quic_headline.specs.Runs.{Run, In, until}
use Rattle.quic_headline.specs.Observer.{Sent, asks_of, sents_until}
use Rattle.quic_headline.specs.Headline.{IsHonest, IsRun}
use Rattle.quic_headline.specs.Moments.{ack_timer, debt, first_deadline, AckMoments}
use Rattle.quic_headline.specs.Polls.{GaveOne, GaveAsking, GaveNothing, IsFull, IsPaced, IsHeldBack}
use Rattle.quic_headline.specs.Waited.{is_ping, wants, wants_ack, AckTimersAreSet}
use Rattle.quic_headline.specs.Pings.{PingsGo}
use Rattle.quic_headline.specs.AckFrames.{counts_told, AcksCountMarks}
use Rattle.quic_worked.specs.Worked.{worked_policies, asks_datagram, gives_bytes}
use Rattle.quic_worked.specs.Acknowledged.{client_acked}
use Rattle.quic_worked.specs.Reordered.{delivers_at}
use Rattle.quic_worked.specs.Paired.{asks_server}
use Rattle.quic_worked.specs.Timed.{seen_with, NeverShows}
use Rattle.quic_worked.specs.Broken.{IsNoRun}
use Rattle.quic_worked.specs.Held.{gives_nothing}
use Rattle.quic_worked.specs.Hasty.{once_hasty, once_marked, marked_run}
use Rattle.quic_worked.specs.Counted.{first_sent, marked_sent, mark_uncounted, uncounted_sent, ping_left, left_sent, ping_withheld, comes_second, once_second, twice_run, timer_moved, once_single, single_run, timer_set, timer_unset}
use Rattle.quic_worked.proofs.Codes.{no_codes}
use Rattle.quic_worked.proofs.OwnIds.{AreOwn, own_ids}
use Rattle.quic_worked.proofs.BrokenRuns.{IsRefused, stops, behind}
use Rattle.quic_worked.proofs.WorkedHonest.{are_started}
use Rattle.quic_worked.proofs.WorkedKeys.{are_keys}
use Rattle.quic_worked.proofs.Steps.{counts_so}
use Rattle.quic_worked.proofs.Validated.{unless_limited}
use Rattle.quic_worked.proofs.Unpolled.{unpolled}
use Rattle.quic_worked.proofs.TimedRun.{ack_moment_of, moment_in}
use Rattle.quic_worked.proofs.HastyRun.{step_0, step_1, step_2, step_3, step_4, seen_0, seen_1, seen_2, seen_3, seen_4, marked_0, marked_1, marked_2}

-- ---- what goes in the marked run

-- two lists of one datagram are alike
one_same : (s t : Sent) → s ∷ [] ≡ t ∷ [] → t ≡ s
one_same s t is = cc

client_gave : sents_until marked_run Client 2 ≡ first_sent ∷ []
unfolding client_acked
client_gave = refl

server_gave : sents_until marked_run Server 4 ≡ marked_sent ∷ []
unfolding client_acked ecn_at
server_gave = refl

-- so a poll of the client gave its first datagram, and one of the server its ACK frame
client_sent : (now : ℕ) (given : GaveOne marked_run Client 1 now) → given.sent ≡ first_sent
client_sent now given = one_same first_sent given.sent (sym client_gave ∙ given.went)

server_sent : (now : ℕ) (given : GaveOne marked_run Server 3 now) → given.sent ≡ marked_sent
unfolding client_acked
server_sent now given = one_same marked_sent given.sent (sym server_gave ∙ given.went)

-- ---- marks

pub none_counted : counts_told (until marked_run Server 2) ≡ None
none_counted = refl

pub one_counted : counts_told (until marked_run Server 3) ≡ Some (0, 0, 1)
one_counted = refl

-- the client's has no ACK frame
none_named : (a : AckValue) → In (ack a) first_sent.frames → ⊥
none_named a (inl is) = cc
none_named a (inr (inl is)) = cc
none_named a (inr (inr (inl is))) = cc
none_named a (inr (inr (inr (inl is)))) = cc
none_named a (inr (inr (inr (inr (inl is))))) = cc
none_named a (inr (inr (inr (inr (inr (inl is)))))) = cc
none_named a (inr (inr (inr (inr (inr (inr (inl is))))))) = cc
none_named a (inr (inr (inr (inr (inr (inr (inr (inl is)))))))) = cc
none_named a (inr (inr (inr (inr (inr (inr (inr (inr none)))))))) = none

-- the server's counts one
counts_one : (a : AckValue) → In (ack a) marked_sent.frames → a.ecn ≡ Some (0, 0, 1)
counts_one a (inl is) = (let same : a ≡ record { largest = 0; delay = 0; ranges = (0, 0) ∷ []; ecn = Some (0, 0, 1) } = cc in ap (λ (b : AckValue). b.ecn) same)
counts_one a (inr none) = absurd none

-- at each place a poll gives
abbrev AtPoll : ℕ → Type 0
AtPoll i = (side : Side) (now : ℕ) (given : GaveOne marked_run side i now) (a : AckValue) → In (ack a) given.sent.frames → a.ecn ≡ counts_told (until marked_run side i)

at_first : AtPoll 1
at_first Client now given a among = absurd (none_named a (subst (λ (s : Sent). In (ack a) s.frames) (client_sent now given) among))
at_first Server now given a among = absurd (unpolled Server now _ given.poll.event refl)

at_second : AtPoll 3
at_second Client now given a among = absurd (unpolled Client now _ given.poll.event refl)
at_second Server now given a among = counts_one a (subst (λ (s : Sent). In (ack a) s.frames) (server_sent now given) among) ∙ sym one_counted

pub marks_counted : AcksCountMarks marked_run
marks_counted side zero now given a among = absurd (unpolled side now _ given.poll.event refl)
marks_counted side (suc zero) now given a among = at_first side now given a among
marks_counted side (suc (suc zero)) now given a among = absurd (unpolled side now _ given.poll.event refl)
marks_counted side (suc (suc (suc zero))) now given a among = at_second side now given a among
marks_counted side (suc (suc (suc (suc i)))) now given a among = absurd (unpolled side now _ given.poll.event refl)

-- ---- a server that counts none

uncounted_went : sents_until mark_uncounted Server 4 ≡ sents_until mark_uncounted Server 3 ++ uncounted_sent ∷ []
unfolding client_acked
uncounted_went = refl

gave_uncounted : GaveOne mark_uncounted Server 3 0
gave_uncounted = record { transmit = record { size = 31; ecn = Some Ect0; remote = 0 }; poll = record { event = refl; answer = refl }; served = refl; sent = uncounted_sent; went = uncounted_went }

one_came : counts_told (until mark_uncounted Server 3) ≡ Some (0, 0, 1)
one_came = refl

pub not_counted : AcksCountMarks mark_uncounted → ⊥
unfolding gave_uncounted
not_counted h =
    let clash : ◌≡◌ {A = Option (ℕ × ℕ × ℕ)} None (Some (0, 0, 1)) = h Server 3 0 gave_uncounted (record { largest = 0; delay = 0; ranges = (0, 0) ∷ []; ecn = None }) (inl refl) ∙ one_came in
    cc

uncounted_own : (side : Side) → AreOwn side [] mark_uncounted.events mark_uncounted.answers mark_uncounted.views
uncounted_own Client = (tt, (tt, (tt, (tt, tt))))
uncounted_own Server = (tt, (tt, (tt, (tt, tt))))

pub uncounted_is_honest : IsHonest mark_uncounted
uncounted_is_honest = record { start = are_started; keys = are_keys; ids = own_ids mark_uncounted uncounted_own }

-- the size of a datagram that a poll gives
abbrev size_in : Answer → ℕ
size_in (answers.Poll (Ok (Some t))) = t.size
size_in a = 0

uncounted_no : IsRefused (once_marked 3) asks_server (gives_bytes 31)
unfolding once_marked
uncounted_no (inl e) = let sizes : ◌≡◌ {A = ℕ} 31 34 = ap size_in e in absurd (omega arith)
uncounted_no (inr e) = cc

pub uncounted_is_none : IsNoRun mark_uncounted
uncounted_is_none = behind refl marked_0 (behind refl marked_1 (behind refl marked_2 (stops _ _ _ _ _ uncounted_no)))

-- ---- PING

pub ping_asked : (wants marked_run Client 1).pinged ≡ true
ping_asked = refl

pub ping_gone : (wants marked_run Client 2).pinged ≡ false
unfolding client_acked
ping_gone = refl

-- the client's first datagram has it, and that of the server doesn't ask
abbrev Along : ℕ → Type 0
Along i = (side : Side) (now : ℕ) (given : GaveAsking marked_run side i now) → list_any is_ping given.one.sent.frames ≡ true

along_first : Along 1
along_first Client now given = subst (λ (s : Sent). list_any is_ping s.frames ≡ true) (sym (client_sent now given.one)) refl
along_first Server now given = absurd (unpolled Server now _ given.one.poll.event refl)

along_second : Along 3
along_second Client now given = absurd (unpolled Client now _ given.one.poll.event refl)
along_second Server now given = (let clash : false ≡ true = sym (ap (λ (s : Sent). asks_of s) (server_sent now given.one)) ∙ given.asks in cc)

goes_along : (side : Side) (i now : ℕ) (given : GaveAsking marked_run side i now) → (wants marked_run side i).pinged ≡ true → list_any is_ping given.one.sent.frames ≡ true
goes_along side zero now given wanted = absurd (unpolled side now _ given.one.poll.event refl)
goes_along side (suc zero) now given wanted = along_first side now given
goes_along side (suc (suc zero)) now given wanted = absurd (unpolled side now _ given.one.poll.event refl)
goes_along side (suc (suc (suc zero))) now given wanted = along_second side now given
goes_along side (suc (suc (suc (suc i)))) now given wanted = absurd (unpolled side now _ given.one.poll.event refl)

-- each poll gives something
never_nothing : (side : Side) (i now : ℕ) (v : View) → GaveNothing marked_run side i now v → ⊥
never_nothing side zero now v gave = (let answer = gave.poll.answer in cc)
never_nothing side (suc zero) now v gave = (let answer = gave.poll.answer in cc)
never_nothing side (suc (suc zero)) now v gave = (let answer = gave.poll.answer in cc)
never_nothing side (suc (suc (suc zero))) now v gave = (let answer = gave.poll.answer in cc)
never_nothing side (suc (suc (suc (suc i)))) now v gave = (let answer = gave.poll.answer in cc)

pub ping_goes : PingsGo marked_run
ping_goes = record { along = goes_along; held = λ side i now v served gave wanted. absurd (never_nothing side i now v gave) }

-- ---- a client that lets it wait

left_went : sents_until ping_left Client 2 ≡ sents_until ping_left Client 1 ++ left_sent ∷ []
unfolding client_acked
left_went = refl

gave_left : GaveAsking ping_left Client 1 0
gave_left = record { one = record { transmit = record { size = 222; ecn = Some Ect0; remote = 0 }; poll = record { event = refl; answer = refl }; served = refl; sent = left_sent; went = left_went }; asks = refl }

pub left_not : PingsGo ping_left → ⊥
unfolding gave_left
left_not h = (let clash : false ≡ true = h.along Client 1 0 gave_left refl in cc)

left_own : (side : Side) → AreOwn side [] ping_left.events ping_left.answers ping_left.views
left_own Client = (tt, (tt, tt))
left_own Server = (tt, (tt, tt))

pub left_is_honest : IsHonest ping_left
left_is_honest = record { start = are_started; keys = are_keys; ids = own_ids ping_left left_own }

left_no : IsRefused (once_hasty 1) asks_datagram (gives_bytes 222)
unfolding once_hasty
left_no (inl e) = let sizes : ◌≡◌ {A = ℕ} 222 223 = ap size_in e in absurd (omega arith)
left_no (inr e) = cc

pub left_is_none : IsNoRun ping_left
left_is_none = behind refl step_0 (stops _ _ _ _ _ left_no)

-- ---- a client that gives nothing

withheld_full : IsFull ping_withheld Client 2 (seen_with None None) → ⊥
withheld_full full = let most : 12000 ≤ 1200 = full in omega (arith, most)

withheld_paced : IsPaced ping_withheld Client 2 (seen_with None None) → ⊥
withheld_paced paced = let shown : ◌≡◌ {A = Option (Option ℕ)} (Some None) (Some (Some paced.moment)) = paced.shown in cc

pub withheld_not : PingsGo ping_withheld → ⊥
withheld_not h =
    elim (unless_limited ping_withheld Client 2 (seen_with None None) (IsHeldBack ping_withheld Client 2 (seen_with None None)) refl (h.held Client 1 0 (seen_with None None) refl (record { poll = record { event = refl; answer = refl }; shown = refl; opened = refl }) refl)) [
      | inl full ↦ withheld_full full
      | inr paced ↦ withheld_paced paced
    ]

withheld_own : (side : Side) → AreOwn side [] ping_withheld.events ping_withheld.answers ping_withheld.views
withheld_own Client = (tt, (tt, tt))
withheld_own Server = (tt, (tt, tt))

pub withheld_is_honest : IsHonest ping_withheld
withheld_is_honest = record { start = are_started; keys = are_keys; ids = own_ids ping_withheld withheld_own }

withheld_no : IsRefused (once_hasty 1) asks_datagram gives_nothing
unfolding once_hasty
withheld_no (inl e) = cc
withheld_no (inr e) = cc

pub withheld_is_none : IsNoRun ping_withheld
withheld_is_none = behind refl step_0 (stops _ _ _ _ _ withheld_no)

-- ---- a server whose timer is set anew

pub both_came : (debt timer_moved Server 6).deadlines ≡ 26000000 ∷ 25000000 ∷ []
unfolding client_acked
both_came = refl

not_due : first_deadline (26000000 ∷ 25000000 ∷ []) ≡ Some 26000000 → ⊥
not_due first = let same : ◌≡◌ {A = ℕ} 25000000 26000000 = ap (λ (o : Option ℕ). moment_in (Some o)) first in omega (arith, same)

pub moved_not : AckMoments timer_moved → ⊥
moved_not h = not_due (ap first_deadline (sym both_came) ∙ h Server 5 26000000 (seen_with (Some 1024000000) (Some 26000000)) refl refl refl refl)

moved_own : (side : Side) → AreOwn side [] timer_moved.events timer_moved.answers timer_moved.views
moved_own Client = (tt, (tt, (tt, (tt, (tt, (tt, tt))))))
moved_own Server = (tt, (tt, (tt, (tt, (tt, (tt, tt))))))

pub moved_is_honest : IsHonest timer_moved
moved_is_honest = record { start = are_started; keys = are_keys; ids = own_ids timer_moved moved_own }

-- the machine's stays at 25 ms behind the first
second_taken : IsStep worked_policies (once_hasty 5) comes_second (answers.Deliver receives.Taken) once_second
unfolding once_second
second_taken = record { answer = inl refl; end = refl; control = refl; heard = counts_so worked_policies (once_hasty 5) comes_second (answers.Deliver receives.Taken); openings = tt; others = refl; lacking = tt }

second_seen : seen_with (Some 1024000000) (Some 25000000) ≡ view_of once_second
unfolding once_second
second_seen = refl

abbrev stays : Run
stays = twice_run 25000000

follows : Follows stays.keys stays.start stays.events stays.answers stays.views once_second
follows = (once_hasty 1, step_0, seen_0, (once_hasty 2, step_1, seen_1, (once_hasty 3, step_2, seen_2, (once_hasty 4, step_3, seen_3, (once_hasty 5, step_4, seen_4, (once_second, second_taken, second_seen, refl))))))

pub never_moved : NeverShows timer_moved
never_moved end f =
    let same = one_run timer_moved.keys timer_moved.answers timer_moved.start timer_moved.events timer_moved.views stays.views end once_second refl f follows in
    let moments : ◌≡◌ {A = ℕ} 26000000 25000000 = ap (λ (vs : List View). ack_moment_of (slice_get vs 5)) same.0 in
    absurd (omega arith)

-- ---- one packet that asks

pub set_owes : (debt timer_set Server 3).deadlines ≡ 25000000 ∷ []
unfolding client_acked
set_owes = refl

pub set_unwanted : wants_ack timer_set Server 3 ≡ false
unfolding client_acked
set_unwanted = refl

server_given : (debt timer_set Server 2).deadlines ≡ []
unfolding client_acked
server_given = refl

client_given : (debt timer_set Client 2).deadlines ≡ []
unfolding client_acked
client_given = refl

client_left : (debt timer_set Client 3).deadlines ≡ []
unfolding client_acked
client_left = refl

-- a view that is at a place shows the timer that is due there
shown_so : (side : Side) (u v : View) (moment due : Option ℕ) → Some u ≡ Some v → ack_timer u side ≡ Some moment → due ≡ moment → ack_timer v side ≡ Some due
shown_so side u v moment due is shown same = let alike : u ≡ v = cc in ap (λ (x : View). ack_timer x side) (sym alike) ∙ shown ∙ ap (λ (o : Option ℕ). Some o) (sym same)

pub single_set : AckTimersAreSet timer_set
single_set Client zero v served is opened idle = shown_so Client _ v _ _ is refl refl
single_set Client (suc zero) v served is opened idle = shown_so Client _ v _ _ is refl (ap first_deadline client_given)
single_set Client (suc (suc zero)) v served is opened idle = shown_so Client _ v _ _ is refl (ap first_deadline client_left)
single_set Client (suc (suc (suc i))) v served is opened idle = cc
single_set Server zero v served is opened idle = shown_so Server _ v _ _ is refl refl
single_set Server (suc zero) v served is opened idle = shown_so Server _ v _ _ is refl (ap first_deadline server_given)
single_set Server (suc (suc zero)) v served is opened idle = shown_so Server _ v _ _ is refl (ap first_deadline set_owes)
single_set Server (suc (suc (suc i))) v served is opened idle = cc

single_own : (moment : Option ℕ) (side : Side) → AreOwn side [] (single_run moment).events (single_run moment).answers (single_run moment).views
single_own moment Client = (tt, (tt, (tt, tt)))
single_own moment Server = (tt, (tt, (tt, tt)))

pub set_is_honest : IsHonest timer_set
set_is_honest = record { start = are_started; keys = are_keys; ids = own_ids timer_set (single_own (Some 25000000)) }

single_taken : IsStep worked_policies (once_hasty 2) (delivers_at 0) (answers.Deliver receives.Taken) once_single
unfolding once_single
single_taken = record { answer = inl refl; end = refl; control = refl; heard = counts_so worked_policies (once_hasty 2) (delivers_at 0) (answers.Deliver receives.Taken); openings = tt; others = refl; lacking = tt }

single_seen : seen_with (Some 1024000000) (Some 25000000) ≡ view_of once_single
unfolding once_single
single_seen = refl

single_follows : Follows timer_set.keys timer_set.start timer_set.events timer_set.answers timer_set.views once_single
single_follows = (once_hasty 1, step_0, seen_0, (once_hasty 2, step_1, seen_1, (once_single, single_taken, single_seen, refl)))

gave_ping : timer_set.from_client ≡ once_single.from_client
unfolding once_single
gave_ping = refl

gave_nothing : timer_set.from_server ≡ once_single.from_server
unfolding once_single
gave_nothing = refl

pub set_is_run : IsRun timer_set once_single
set_is_run = record { codes = no_codes timer_set.events refl; follows = single_follows; from_client = gave_ping; from_server = gave_nothing }

-- ---- a server that sets no timer for it

pub unset_owes : (debt timer_unset Server 3).deadlines ≡ 25000000 ∷ []
unfolding client_acked
unset_owes = refl

pub unset_unwanted : wants_ack timer_unset Server 3 ≡ false
unfolding client_acked
unset_unwanted = refl

owed_unset : (due : Option ℕ) → due ≡ Some 25000000 → ◌≡◌ {A = Option (Option ℕ)} (Some None) (Some due) → ⊥
owed_unset due is shown = let clash : ◌≡◌ {A = Option (Option ℕ)} (Some None) (Some (Some 25000000)) = shown ∙ ap (λ (o : Option ℕ). Some o) is in cc

pub unset_not : AckTimersAreSet timer_unset → ⊥
unset_not h = owed_unset (first_deadline (debt timer_unset Server 3).deadlines) (ap first_deadline unset_owes) (h Server 2 (seen_with (Some 1024000000) None) refl refl refl unset_unwanted)

pub unset_is_honest : IsHonest timer_unset
unset_is_honest = record { start = are_started; keys = are_keys; ids = own_ids timer_unset (single_own None) }

pub never_unset : NeverShows timer_unset
never_unset end f =
    let same = one_run timer_unset.keys timer_unset.answers timer_unset.start timer_unset.events timer_unset.views timer_set.views end once_single refl f single_follows in
    let moments : ◌≡◌ {A = ℕ} 0 25000000 = ap (λ (vs : List View). ack_moment_of (slice_get vs 2)) same.0 in
    absurd (omega arith)
