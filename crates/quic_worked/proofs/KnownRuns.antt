-- The runs in which an end asks for the next id of its peer, event by event, and machines that
-- refuse one that is there, or forget an id that they told.
use Rattle.std.proofs.Common.{◌≡◌, Bool, false, ℕ, List, [], ◌∷◌, ◌++◌, length, Option, Some, None, refl, inl, inr, sym, ap, ◌∙◌, subst, lit<, arith}
use Rattle.std.specs.Prelude.{slice_index, slice_get}
use Rattle.quic_wire_core.specs.declared.stream_id.Side.TheVariants.{Client, Server}
use Rattle.quic_wire.specs.Value.{new_connection_id}
use Rattle.quic_packet.specs.Datagram.{Opening}
use Rattle.quic_machine.specs.declared.answers.Received.TheVariants as receives
use Rattle.quic_machine.specs.declared.run.Answer.{Answer}
use Rattle.quic_machine.specs.declared.run.Answer.TheVariants as answers
use Rattle.quic_machine.specs.declared.run.View.{View}
use Rattle.quic_machine.specs.Ids.{known}
use Rattle.quic_machine.specs.Machine.{World, IsStep, Follows, view_of}
use Rattle.quic_headline.specs.Runs.{In, LeadsTo}
use Rattle.quic_headline.specs.Observer.{Sent, sents_until}
use Rattle.quic_headline.specs.Duties.{WasGiven}
use Rattle.quic_headline.specs.Headline.{IsHonest, IsRun, OpensAs}
use Rattle.quic_headline.specs.ConnectionIds.{Tells, ToldIdsAreKnown, NewestOpensAtEnd, opened_at_end, NoIdIsExact, IsPastLimit, TooManyIsExact}
use Rattle.quic_headline.specs.InUse.{in_use, next_id}
use Rattle.quic_worked.specs.Worked.{worked_policies, both_steady, asks_datagram, gives_bytes, open_view, sent_view, waiting_view, id_word, server_id, told_ids}
use Rattle.quic_worked.specs.Acknowledged.{client_acked}
use Rattle.quic_worked.specs.Broken.{IsNoRun, NeverLeadsFrom}
use Rattle.quic_worked.specs.Paired.{asks_server, client_hears}
use Rattle.quic_worked.specs.Renamed.{uses_next, retiring_payload}
use Rattle.quic_worked.specs.Known.{naming_events, naming_answers, is_used, has_none, has_too_many, once_named, naming_datagram, naming_sent, telling_sent, naming_run, asking_run, asking_early, asked_early, made_up, eighty_wait, forgetful}
use Rattle.quic_worked.proofs.Codes.{no_codes}
use Rattle.quic_worked.proofs.OwnIds.{honest_steady}
use Rattle.quic_worked.proofs.BrokenRuns.{IsRefused, behind, stops}
use Rattle.quic_worked.proofs.WrongRuns.{NotToFrom, ends_here, step_on}
use Rattle.quic_worked.proofs.Steps.{counts_so}
use Rattle.quic_worked.proofs.Unmoved.{client_tells_stays}

-- ---- the run of two new ends

server_tells : IsStep worked_policies both_steady asks_server (gives_bytes 222) (once_named both_steady is_used 1)
unfolding once_named
server_tells = record { answer = inl refl; end = refl; control = refl; heard = counts_so worked_policies both_steady asks_server (gives_bytes 222); openings = tt; others = refl; lacking = tt }

client_takes : IsStep worked_policies (once_named both_steady is_used 1) client_hears (answers.Deliver receives.Taken) (once_named both_steady is_used 2)
unfolding once_named
client_takes = record { answer = inl refl; end = refl; control = refl; heard = counts_so worked_policies (once_named both_steady is_used 1) client_hears (answers.Deliver receives.Taken); openings = tt; others = refl; lacking = tt }

client_uses : IsStep worked_policies (once_named both_steady is_used 2) uses_next is_used (once_named both_steady is_used 3)
unfolding once_named
client_uses = record { answer = inl refl; end = refl; control = refl; heard = counts_so worked_policies (once_named both_steady is_used 2) uses_next is_used; openings = tt; others = refl; lacking = λ lacks. cc }

client_gives : IsStep worked_policies (once_named both_steady is_used 3) asks_datagram (gives_bytes 229) (once_named both_steady is_used 4)
unfolding once_named
client_gives = record { answer = inl refl; end = refl; control = refl; heard = counts_so worked_policies (once_named both_steady is_used 3) asks_datagram (gives_bytes 229); openings = tt; others = refl; lacking = tt }

-- the views of the run
abbrev told_view : View
told_view = record { client = open_view; server = sent_view }

abbrev taken_view : View
taken_view = record { client = waiting_view; server = sent_view }

abbrev named_view : View
named_view = record { client = sent_view; server = sent_view }

told_seen : told_view ≡ view_of (once_named both_steady is_used 1)
unfolding once_named
told_seen = refl

taken_seen : taken_view ≡ view_of (once_named both_steady is_used 2)
unfolding once_named
taken_seen = refl

used_seen : taken_view ≡ view_of (once_named both_steady is_used 3)
unfolding once_named
used_seen = refl

named_seen : named_view ≡ view_of (once_named both_steady is_used 4)
unfolding once_named
named_seen = refl

named_gave : (naming_run both_steady).from_client ≡ (once_named both_steady is_used 4).from_client
unfolding once_named
named_gave = refl

told_gave : (naming_run both_steady).from_server ≡ (once_named both_steady is_used 4).from_server
unfolding once_named
told_gave = refl

pub naming_is_run : IsRun (naming_run both_steady) (once_named both_steady is_used 4)
naming_is_run = record {
  codes = no_codes naming_events refl;
  follows = (once_named both_steady is_used 1, server_tells, told_seen, (once_named both_steady is_used 2, client_takes, taken_seen, (once_named both_steady is_used 3, client_uses, used_seen, (once_named both_steady is_used 4, client_gives, named_seen, refl))));
  from_client = named_gave;
  from_server = told_gave;
}

pub naming_is_honest : IsHonest (naming_run both_steady)
naming_is_honest = honest_steady (naming_run both_steady) (record { start = refl; keys = refl; client = (tt, (tt, (tt, (tt, tt)))); server = (tt, (tt, (tt, (tt, tt)))) })

pub none_used : (stays : ℕ → Bool) → in_use (naming_run both_steady) stays Client 2 ≡ 0
unfolding client_acked
none_used stays = refl

pub first_next : (stays : ℕ → Bool) → next_id (naming_run both_steady) stays Client 2 ≡ Some 1
unfolding client_acked
first_next stays = refl

-- no retirement waits before the next id is used
none_wait : length (once_named both_steady is_used 2).client.waiting.frames.retire_cids ≡ 0
unfolding once_named
none_wait = refl

pub has_room : IsPastLimit (once_named both_steady is_used 2).client 0 1 → ⊥
has_room past = let none = none_wait in omega (arith, past, none)

pub was_sent : sents_until (naming_run both_steady) Client 4 ≡ naming_sent ∷ []
unfolding client_acked
was_sent = refl

pub is_known : In id_word (known (once_named both_steady is_used 4).server.ids)
unfolding once_named
is_known = inr (inl refl)

-- what the client's datagram opens to
abbrev right_opening : Option Opening
right_opening = opened_at_end (naming_run both_steady) (once_named both_steady is_used 4) Client 4 naming_datagram

pub opens_right : OpensAs naming_sent right_opening
unfolding once_named
opens_right = record { opening = record { first = 0x40; number = 0; payload = told_ids retiring_payload }; is = refl; number = refl; frames = refl }

-- ---- no id was told

asks_first : IsStep worked_policies both_steady uses_next has_none asked_early
asks_first = record { answer = inl refl; end = refl; control = refl; heard = counts_so worked_policies both_steady uses_next has_none; openings = tt; others = refl; lacking = λ lacks. cc }

pub early_is_run : IsRun asking_early asked_early
early_is_run = record { codes = no_codes asking_early.events refl; follows = (asked_early, asks_first, refl, refl); from_client = refl; from_server = refl }

pub early_is_honest : IsHonest asking_early
early_is_honest = honest_steady asking_early (record { start = refl; keys = refl; client = (tt, tt); server = (tt, tt) })

pub early_next : (stays : ℕ → Bool) → next_id asking_early stays Client 0 ≡ None
early_next stays = refl

pub made_wrong : NoIdIsExact made_up → ⊥
made_wrong h = let is : is_used ≡ has_none = (h Client (λ n. false) 0 is_used (client_tells_stays made_up (λ n. false)) refl refl (record { event = refl; answer = refl })).1 refl in cc

pub made_is_honest : IsHonest made_up
made_is_honest = honest_steady made_up (record { start = refl; keys = refl; client = (tt, tt); server = (tt, tt) })

made_no : IsRefused both_steady uses_next is_used
made_no (inl e) = cc
made_no (inr e) = cc

pub made_is_none : IsNoRun made_up
made_is_none = stops _ _ _ _ _ made_no

-- ---- eighty retirements wait

eighty_told : IsStep worked_policies eighty_wait asks_server (gives_bytes 222) (once_named eighty_wait has_too_many 1)
unfolding once_named
eighty_told = record { answer = inl refl; end = refl; control = refl; heard = counts_so worked_policies eighty_wait asks_server (gives_bytes 222); openings = tt; others = refl; lacking = tt }

eighty_taken : IsStep worked_policies (once_named eighty_wait has_too_many 1) client_hears (answers.Deliver receives.Taken) (once_named eighty_wait has_too_many 2)
unfolding once_named
eighty_taken = record { answer = inl refl; end = refl; control = refl; heard = counts_so worked_policies (once_named eighty_wait has_too_many 1) client_hears (answers.Deliver receives.Taken); openings = tt; others = refl; lacking = tt }

eighty_refused : IsStep worked_policies (once_named eighty_wait has_too_many 2) uses_next has_too_many (once_named eighty_wait has_too_many 3)
unfolding once_named
eighty_refused = record { answer = inl refl; end = refl; control = refl; heard = counts_so worked_policies (once_named eighty_wait has_too_many 2) uses_next has_too_many; openings = tt; others = refl; lacking = λ lacks. cc }

eighty_told_seen : told_view ≡ view_of (once_named eighty_wait has_too_many 1)
unfolding once_named
eighty_told_seen = refl

eighty_taken_seen : taken_view ≡ view_of (once_named eighty_wait has_too_many 2)
unfolding once_named
eighty_taken_seen = refl

eighty_refused_seen : taken_view ≡ view_of (once_named eighty_wait has_too_many 3)
unfolding once_named
eighty_refused_seen = refl

eighty_gave_none : [] ≡ (once_named eighty_wait has_too_many 3).from_client
unfolding once_named
eighty_gave_none = refl

eighty_gave : (asking_run eighty_wait has_too_many).from_server ≡ (once_named eighty_wait has_too_many 3).from_server
unfolding once_named
eighty_gave = refl

pub eighty_is_run : IsRun (asking_run eighty_wait has_too_many) (once_named eighty_wait has_too_many 3)
eighty_is_run = record {
  codes = no_codes (asking_run eighty_wait has_too_many).events refl;
  follows = (once_named eighty_wait has_too_many 1, eighty_told, eighty_told_seen, (once_named eighty_wait has_too_many 2, eighty_taken, eighty_taken_seen, (once_named eighty_wait has_too_many 3, eighty_refused, eighty_refused_seen, refl)));
  from_client = eighty_gave_none;
  from_server = eighty_gave;
}

pub eighty_used : (stays : ℕ → Bool) → in_use (asking_run eighty_wait has_too_many) stays Client 2 ≡ 0
unfolding client_acked
eighty_used stays = refl

pub eighty_next : (stays : ℕ → Bool) → next_id (asking_run eighty_wait has_too_many) stays Client 2 ≡ Some 1
unfolding client_acked
eighty_next stays = refl

pub eighty_past : IsPastLimit (once_named eighty_wait has_too_many 2).client 0 1
unfolding once_named
eighty_past = lit< tt

-- a client that uses the next id all the same
all_next : next_id (asking_run eighty_wait is_used) (λ n. false) Client 2 ≡ Some 1
unfolding client_acked
all_next = refl

all_used : in_use (asking_run eighty_wait is_used) (λ n. false) Client 2 ≡ 0
unfolding client_acked
all_used = refl

all_past : IsPastLimit (once_named eighty_wait has_too_many 2).client (in_use (asking_run eighty_wait is_used) (λ n. false) Client 2) 1
all_past = subst (λ (n : ℕ). IsPastLimit (once_named eighty_wait has_too_many 2).client n 1) (sym all_used) eighty_past

pub all_wrong : TooManyIsExact (asking_run eighty_wait is_used) → ⊥
all_wrong h =
    let leads : LeadsTo (asking_run eighty_wait is_used) 2 (once_named eighty_wait has_too_many 2) = (once_named eighty_wait has_too_many 1, eighty_told, eighty_told_seen, (once_named eighty_wait has_too_many 2, eighty_taken, eighty_taken_seen, refl)) in
    let is : is_used ≡ has_too_many = (h Client (λ n. false) 2 is_used (once_named eighty_wait has_too_many 2) (client_tells_stays (asking_run eighty_wait is_used) (λ n. false)) refl leads refl (record { event = refl; answer = refl })).1 (1, all_next, all_past) in
    cc

all_no : IsRefused (once_named eighty_wait has_too_many 2) uses_next is_used
unfolding once_named
all_no (inl e) = cc
all_no (inr e) = cc

pub all_is_none : IsNoRun (asking_run eighty_wait is_used)
all_is_none = behind refl eighty_told (behind refl eighty_taken (stops _ _ _ _ _ all_no))

-- ---- a next id that is there is refused

-- two new ends, where the client was told of the ids
told_twice : (a : Answer) → LeadsTo (asking_run both_steady a) 2 (once_named both_steady is_used 2)
told_twice a = (once_named both_steady is_used 1, server_tells, told_seen, (once_named both_steady is_used 2, client_takes, taken_seen, refl))

none_next : next_id (asking_run both_steady has_none) (λ n. false) Client 2 ≡ Some 1
unfolding client_acked
none_next = refl

pub none_wrong : NoIdIsExact (asking_run both_steady has_none) → ⊥
none_wrong h = let clash : ◌≡◌ {A = Option ℕ} (Some 1) None = sym none_next ∙ (h Client (λ n. false) 2 has_none (client_tells_stays (asking_run both_steady has_none) (λ n. false)) refl refl (record { event = refl; answer = refl })).0 refl in cc

many_next : next_id (asking_run both_steady has_too_many) (λ n. false) Client 2 ≡ Some 1
unfolding client_acked
many_next = refl

many_used : in_use (asking_run both_steady has_too_many) (λ n. false) Client 2 ≡ 0
unfolding client_acked
many_used = refl

pub many_wrong : TooManyIsExact (asking_run both_steady has_too_many) → ⊥
many_wrong h =
    let many = (h Client (λ n. false) 2 has_too_many (once_named both_steady is_used 2) (client_tells_stays (asking_run both_steady has_too_many) (λ n. false)) refl (told_twice has_too_many) refl (record { event = refl; answer = refl })).0 refl in
    let is : Some 1 ≡ Some many.0 = sym many_next ∙ many.1 in
    let first : ◌≡◌ {A = ℕ} 1 many.0 = cc in
    let past = many.2 in
    let none = none_wait in
    let used = many_used in
    omega (arith, first, past, none, used)

pub none_is_honest : IsHonest (asking_run both_steady has_none)
none_is_honest = honest_steady (asking_run both_steady has_none) (record { start = refl; keys = refl; client = (tt, (tt, (tt, tt))); server = (tt, (tt, (tt, tt))) })

pub many_is_honest : IsHonest (asking_run both_steady has_too_many)
many_is_honest = honest_steady (asking_run both_steady has_too_many) (record { start = refl; keys = refl; client = (tt, (tt, (tt, tt))); server = (tt, (tt, (tt, tt))) })

none_no : IsRefused (once_named both_steady is_used 2) uses_next has_none
unfolding once_named
none_no (inl e) = cc
none_no (inr e) = cc

many_no : IsRefused (once_named both_steady is_used 2) uses_next has_too_many
unfolding once_named
many_no (inl e) = cc
many_no (inr e) = cc

pub none_is_no_run : IsNoRun (asking_run both_steady has_none)
none_is_no_run = behind refl server_tells (behind refl client_takes (stops _ _ _ _ _ none_no))

pub many_is_no_run : IsNoRun (asking_run both_steady has_too_many)
many_is_no_run = behind refl server_tells (behind refl client_takes (stops _ _ _ _ _ many_no))

-- ---- ids that were told are forgotten

forgetful_tells : IsStep worked_policies forgetful asks_server (gives_bytes 222) (once_named forgetful is_used 1)
unfolding once_named
forgetful_tells = record { answer = inl refl; end = refl; control = refl; heard = counts_so worked_policies forgetful asks_server (gives_bytes 222); openings = tt; others = refl; lacking = tt }

forgetful_taken : IsStep worked_policies (once_named forgetful is_used 1) client_hears (answers.Deliver receives.Taken) (once_named forgetful is_used 2)
unfolding once_named
forgetful_taken = record { answer = inl refl; end = refl; control = refl; heard = counts_so worked_policies (once_named forgetful is_used 1) client_hears (answers.Deliver receives.Taken); openings = tt; others = refl; lacking = tt }

forgetful_used : IsStep worked_policies (once_named forgetful is_used 2) uses_next is_used (once_named forgetful is_used 3)
unfolding once_named
forgetful_used = record { answer = inl refl; end = refl; control = refl; heard = counts_so worked_policies (once_named forgetful is_used 2) uses_next is_used; openings = tt; others = refl; lacking = λ lacks. cc }

forgetful_given : IsStep worked_policies (once_named forgetful is_used 3) asks_datagram (gives_bytes 229) (once_named forgetful is_used 4)
unfolding once_named
forgetful_given = record { answer = inl refl; end = refl; control = refl; heard = counts_so worked_policies (once_named forgetful is_used 3) asks_datagram (gives_bytes 229); openings = tt; others = refl; lacking = tt }

forgetful_told_seen : told_view ≡ view_of (once_named forgetful is_used 1)
unfolding once_named
forgetful_told_seen = refl

forgetful_taken_seen : taken_view ≡ view_of (once_named forgetful is_used 2)
unfolding once_named
forgetful_taken_seen = refl

forgetful_used_seen : taken_view ≡ view_of (once_named forgetful is_used 3)
unfolding once_named
forgetful_used_seen = refl

forgetful_seen : named_view ≡ view_of (once_named forgetful is_used 4)
unfolding once_named
forgetful_seen = refl

forgetful_gave : (naming_run forgetful).from_client ≡ (once_named forgetful is_used 4).from_client
unfolding once_named
forgetful_gave = refl

forgetful_told : (naming_run forgetful).from_server ≡ (once_named forgetful is_used 4).from_server
unfolding once_named
forgetful_told = refl

forgetful_follows : Follows worked_policies forgetful naming_events (naming_answers is_used) (naming_run forgetful).views (once_named forgetful is_used 4)
forgetful_follows = (once_named forgetful is_used 1, forgetful_tells, forgetful_told_seen, (once_named forgetful is_used 2, forgetful_taken, forgetful_taken_seen, (once_named forgetful is_used 3, forgetful_used, forgetful_used_seen, (once_named forgetful is_used 4, forgetful_given, forgetful_seen, refl))))

pub forgetful_is_run : IsRun (naming_run forgetful) (once_named forgetful is_used 4)
forgetful_is_run = record { codes = no_codes naming_events refl; follows = forgetful_follows; from_client = forgetful_gave; from_server = forgetful_told }

-- the server told of the id
ids_told : sents_until (naming_run forgetful) Server 4 ≡ telling_sent ∷ []
unfolding client_acked
ids_told = refl

tells_first : Tells (naming_run forgetful) Server 4 1 id_word
tells_first = inr (
  record { sequence = 1; retire_prior_to = 0; id = id_word; token = id_word ++ id_word },
  refl,
  refl,
  subst (λ (ss : List Sent). WasGiven ss (new_connection_id (record { sequence = 1; retire_prior_to = 0; id = id_word; token = id_word ++ id_word }))) (sym ids_told)
      (record { sent = telling_sent; among = inl refl; carried = inl refl }),
)

-- which it doesn't know
one_known : known (once_named forgetful is_used 4).server.ids ≡ server_id ∷ []
unfolding once_named
one_known = refl

is_forgotten : In id_word (known (once_named forgetful is_used 4).server.ids) → ⊥
is_forgotten i = go (subst (λ (ids : List (List ℕ)). In id_word ids) one_known i)
  where
    go : In id_word (server_id ∷ []) → ⊥
    go (inl e) = let clash : ◌≡◌ {A = ℕ} 0 0x50 = ap (λ (id : List ℕ). slice_index id 0) e in omega (arith, clash)
    go (inr none) = none

pub known_wrong : ToldIdsAreKnown (naming_run forgetful) → ⊥
known_wrong h = is_forgotten (h Server 4 1 id_word (once_named forgetful is_used 4) refl forgetful_follows refl tells_first (λ retired. absurd retired.was_taken))

forgetful_sent : sents_until (naming_run forgetful) Client 4 ≡ naming_sent ∷ []
unfolding client_acked
forgetful_sent = refl

stays_shut : opened_at_end (naming_run forgetful) (once_named forgetful is_used 4) Client 4 naming_datagram ≡ None
unfolding once_named
stays_shut = refl

pub opens_wrong : NewestOpensAtEnd (naming_run forgetful) → ⊥
opens_wrong h =
    let opens = h Client 4 0 1 naming_datagram naming_sent (once_named forgetful is_used 4) refl forgetful_follows refl refl (ap (λ (ss : List Sent). slice_get ss 0) forgetful_sent) (λ packet taken. absurd taken) tells_first (λ retired. absurd retired.was_taken) in
    let clash : None ≡ Some opens.opening = sym stays_shut ∙ opens.is in
    cc

-- how many ids the server knows
abbrev count_known : World → ℕ
count_known w = length (known w.server.ids)

right_count : count_known (once_named both_steady is_used 4) ≡ 8
unfolding once_named
right_count = refl

other_count : once_named forgetful is_used 4 ≡ once_named both_steady is_used 4 → ⊥
other_count e =
    let clash : ◌≡◌ {A = ℕ} 1 8 = sym (ap (λ (ids : List (List ℕ)). length ids) one_known) ∙ ap count_known e ∙ right_count in
    omega (arith, clash)

not_forgetful : NotToFrom both_steady (once_named forgetful is_used 4) naming_events (naming_answers is_used)
not_forgetful = step_on refl server_tells (step_on refl client_takes (step_on refl client_uses (step_on refl client_gives (ends_here other_count))))

pub never_forgetful : NeverLeadsFrom both_steady naming_events (naming_answers is_used) (once_named forgetful is_used 4)
never_forgetful views f = not_forgetful.never views (once_named forgetful is_used 4) f refl
