-- What an end gives: each datagram under a number of its own, and these rise.
use Rattle.std.specs.Prelude.{if◌then◌else◌}
use Rattle.std.specs.List.{list_any}
use Rattle.std.proofs.Common.{Option, Some, None, ◌≡◌, ℕ, ◌+◌, ◌-◌, ◌<◌, ◌≤◌, ◌^◌, Bool, true, false, nat_lt, List, [], ◌∷◌, ◌++◌, length, replicate, refl, sym, ap, ◌∙◌, subst, inl, inr, arith}
use Rattle.std.proofs.lemmas.Bool.{ltb-true, eqb-true, and_parts}
use Rattle.std.proofs.lemmas.List.{append-nil, length-append, length-replicate}
use Rattle.quic_packet.specs.Number.{truncated}
use Rattle.quic_packet.specs.Datagram.{sent}
use Rattle.quic_wire.specs.Grammar.{Payload}
use Rattle.quic_wire.specs.Value.{padding}
use Rattle.quic_machine.specs.declared.run.Call.{Call}
use Rattle.quic_machine.specs.declared.run.Call.TheVariants as calls
use Rattle.quic_machine.specs.declared.run.Answer.{Answer}
use Rattle.quic_machine.specs.declared.run.Answer.TheVariants as answers
use Rattle.quic_machine.specs.Ids.{Ids}
use Rattle.quic_spaces.specs.Numbers.{Numbers, cut_against, kept_numbers, can_number, number_given}
use Rattle.quic_spaces.specs.Filter.{Filter, is_skipped, allocated, after_skipped, after_allocated}
use Rattle.quic_machine.specs.Policy.{Policy}
use Rattle.quic_machine.specs.Opens.{own_id_length}
use Rattle.quic_machine.specs.Closing.{ticked}
use Rattle.quic_machine.specs.End.{End, number_of, words_drawn, with_closing, closed_by}
use Rattle.quic_headline.specs.Runs.{In}
use Rattle.quic_machine.specs.DraftLaws.{HasRoom, MayLeave}
use Rattle.quic_machine.specs.Poll.{zeros_behind, Polled, Draft, number_width, payload_of, datagram_of, goes, draft_as, polled, Leaving}
use Rattle.quic_machine.specs.Poll as poll
use Rattle.quic_machine.specs.Machine.{IsAnswer, after_call, gives, fails, gave}
use Rattle.quic_machine.specs.CallCases.{is_poll}
use Rattle.quic_machine.specs.PollCases.{ready_at, draft_at, frames_padded, given_as, gives_as, composes, bounds_none, poll_left, ready_leaves, may_leave_at}
use Rattle.quic_headline.specs.Observer.{Sent, is_close}
use Rattle.quic_headline.proofs.Packets.Invariant.{IsGiven, IsSent, IsBehind, IsLeftOut, Gives}
use Rattle.quic_headline.proofs.Packets.Growth.{in_more, step_push}
use Rattle.quic_headline.proofs.Packets.Rising.{rising_push, next_push}
use Rattle.quic_headline.proofs.Packets.References.{given_for}
use Rattle.quic_headline.proofs.Packets.Stays.{stays_call}
use Rattle.quic_headline.proofs.Packets.Composed.{IsSpellable, close_spells}
use Rattle.quic_headline.proofs.Packets.CloseForms.{OwesWell, close_well, bound_well}
use Rattle.quic_headline.proofs.Packets.Searches.{ready_room}
use Rattle.quic_headline.proofs.Packets.Sends.{GivesClose, by_sends}
use Rattle.quic_headline.proofs.Places.Parties.{sent_as, sent_by, sent_if, sents_by}
use Rattle.quic_headline.proofs.Places.Steps.{poll_answer}
use Rattle.quic_headline.proofs.Packets.Probes.{by_going}

-- ---- one datagram

-- the number that goes next is the one that is next, or the one behind it
pub allocated_near : (f : Filter) (next : ℕ) → (next ≤ allocated f next) × (allocated f next ≤ next + 1)
allocated_near f next = go (is_skipped f next)
  where
    go : (b : Bool) → (next ≤ (if b then next + 1 else next)) × ((if b then next + 1 else next) ≤ next + 1)
    go true = (omega arith, omega arith)
    go false = (omega arith, omega arith)

-- what goes does so under the number that is next
pub draft_number : (leaving : Leaving) (e : End) → MayLeave leaving e → number_of (draft_as leaving e).end ≡ number_of e
draft_number leaving e may =
    let c = composes leaving e may in
    ap (λ (f : Filter). allocated f (draft_as leaving e).end.numbers.next) c.filter ∙ ap (λ (x : Numbers). allocated e.filter x.next) c.numbers

-- number and payload have four bytes at least
padded_four : (d : Draft) → 4 ≤ number_width d + length (payload_of d)
padded_four d =
    let all = length-append d.bytes (replicate (zeros_behind d) 0) in
    let zeros : length (replicate {A = ℕ} (zeros_behind d) 0) ≡ zeros_behind d = length-replicate (zeros_behind d) 0 in
    omega arith

-- a number that may be given is small, and near the greatest acknowledged, even where one is left
-- out before it
pub number_small : (f : Filter) (numbers : Numbers) → can_number numbers ≡ true → (allocated f numbers.next < 2 ^ 62) × (allocated f numbers.next - cut_against numbers < 2 ^ 31)
number_small f numbers may =
    let parts = and_parts (nat_lt (numbers.next + kept_numbers) (2 ^ 62)) (nat_lt (numbers.next - cut_against numbers + kept_numbers) (2 ^ 31)) may in
    let small = ltb-true (numbers.next + kept_numbers) (2 ^ 62) parts.0 in
    let near = ltb-true (numbers.next - cut_against numbers + kept_numbers) (2 ^ 31) parts.1 in
    let one = allocated_near f numbers.next in
    (omega arith, omega arith)

-- what goes of an end does so in a datagram of its number, where that is small and near
pub datagram_given : (p : Policy) (leaving : Leaving) (e : End) → (number_of e < 2 ^ 62) × (number_of e - cut_against e.numbers < 2 ^ 31) → MayLeave leaving e → length e.ids.peer.id ≡ own_id_length
    → Payload (frames_padded (draft_as leaving e)) (payload_of (draft_as leaving e)) → 0 < length (draft_as leaving e).frames → IsGiven p e.ids.peer.id (number_of e) (cut_against e.numbers) (frames_padded (draft_as leaving e)) (datagram_of p (draft_as leaving e))
datagram_given p leaving e small alone eight spells some =
    let c = composes leaving e alone in
    let d : Draft = draft_as leaving e in
    let reference : cut_against d.end.numbers ≡ cut_against e.numbers = ap (λ (x : Numbers). cut_against x) c.numbers in
    let count : ℕ = zeros_behind d in
    let long = length-append d.frames (replicate count padding) in
    let four = padded_four d in
    record {
      long = eight;
      payload = payload_of d;
      spells = spells;
      some = omega arith;
      four = subst (λ (n : ℕ). 4 ≤ (truncated n (cut_against e.numbers)).width + length (payload_of d)) (draft_number leaving e alone)
          (subst (λ (r : ℕ). 4 ≤ (truncated (number_of d.end) r).width + length (payload_of d)) reference four);
      near = small.1;
      small = small.0;
      is = ap (λ (n : ℕ). sent p.header p.packet n (cut_against d.end.numbers) d.end.ids.peer.id (payload_of d)) (draft_number leaving e alone)
          ∙ ap (λ (r : ℕ). sent p.header p.packet (number_of e) r d.end.ids.peer.id (payload_of d)) reference
          ∙ ap (λ (x : Ids). sent p.header p.packet (number_of e) (cut_against e.numbers) x.peer.id (payload_of d)) c.ids;
    }

-- ---- all of them

-- what lies below a number lies below another that is the same
left_out_on : (o : Option ℕ) (next other : ℕ) (sents : List Sent) → other ≡ next → IsLeftOut o next sents → IsLeftOut o other sents
left_out_on o next other sents same before = subst (λ (n : ℕ). IsLeftOut o n sents) (sym same) before

-- nothing more is given
pub gives_quiet : (p : Policy) (before after : Numbers) (skipped : Option ℕ) (sents : List Sent) (given : List (List ℕ)) → after.next ≡ before.next → (IsBehind before → IsBehind after) → Gives p before skipped sents given
    → Gives p after skipped (sents ++ []) (given ++ [])
gives_quiet p before after skipped sents given next behind g =
    rw (append-nil sents, append-nil given) (record {
      rising = g.rising;
      below = λ s i. subst (λ (n : ℕ). s.number < n) (sym next) (g.below s i);
      next = next ∙ g.next;
      behind = behind g.behind;
      left_out = left_out_on skipped before.next after.next sents next g.left_out;
      each = g.each;
    })

-- the number that was left out last, where one more goes above it
left_out_more : (o : Option ℕ) (low next : ℕ) (sents : List Sent) (s : Sent) → low ≤ s.number → low ≤ next → IsLeftOut o low sents → IsLeftOut o next (sents ++ s ∷ [])
left_out_more None low next sents s above more before = tt
left_out_more (Some n) low next sents s above more before =
    let below = before.0 in (
      omega arith,
      λ t i same. elim (in_more t s sents i) [
        | inl old ↦ before.1 t old same
        | inr new ↦ (let number : t.number ≡ s.number = ap (λ (x : Sent). x.number) new in absurd (omega arith))
      ],
    )

-- the number that is left out now
left_out_now : (f : Filter) (numbers : Numbers) (word : ℕ) (sents : List Sent) (s : Sent) → s.number ≡ allocated f numbers.next → ((t : Sent) → In t sents → t.number < numbers.next) → IsLeftOut f.last numbers.next sents
    → IsLeftOut (after_allocated f numbers.next word).last (allocated f numbers.next + 1) (sents ++ s ∷ [])
left_out_now f numbers word sents s number below before = go (is_skipped f numbers.next) refl number
  where
    go : (b : Bool) → is_skipped f numbers.next ≡ b → s.number ≡ (if b then numbers.next + 1 else numbers.next) → IsLeftOut (if b then after_skipped f word else f).last ((if b then numbers.next + 1 else numbers.next) + 1) (sents ++ s ∷ [])
    go true skips above =
        let here : numbers.next ≡ f.next = eqb-true numbers.next f.next skips in (
          omega arith,
          λ t i same. elim (in_more t s sents i) [
            | inl old ↦ (let lower = below t old in absurd (omega arith))
            | inr new ↦ (let number : t.number ≡ s.number = ap (λ (x : Sent). x.number) new in absurd (omega arith))
          ],
        )
    go false goes above = left_out_more f.last numbers.next (numbers.next + 1) sents s (omega arith) (omega arith) before

-- one more is given, under the next number that isn't left out
gives_more : (p : Policy) (f : Filter) (word : ℕ) (numbers : Numbers) (sents : List Sent) (given : List (List ℕ)) (s : Sent) (d : List ℕ) → s.number ≡ allocated f numbers.next → IsSent p s d → Gives p numbers f.last sents given
    → Gives p (number_given numbers (allocated f numbers.next)) (after_allocated f numbers.next word).last (sents ++ s ∷ []) (given ++ d ∷ [])
gives_more p f word numbers sents given s d number is g =
    let behind = g.behind in
    let before = g.next in
    let pushed = next_push sents s in
    let one = allocated_near f numbers.next in
    record {
      rising = rising_push 0 sents s g.rising (omega arith) (omega arith) (λ t i. (let lower = g.below t i in omega arith));
      below = λ t i. elim (in_more t s sents i) [
        | inl old ↦ (let lower = g.below t old in omega arith)
        | inr new ↦ (let same : t.number ≡ s.number = ap (λ (x : Sent). x.number) new in omega arith)
      ];
      next = omega arith;
      behind = omega arith;
      left_out = left_out_now f numbers word sents s number g.below g.left_out;
      each = step_push (IsSent p) sents given s d g.each is;
    }

-- a poll gives one or none
polled_gives : (p : Policy) (e : End) (now : ℕ) (sents : List Sent) (given : List (List ℕ)) → length e.ids.peer.id ≡ own_id_length → HasRoom e → OwesWell e → (goes (ready_at e now) ≡ true → IsSpellable (ready_at e now)) → Gives p e.numbers e.filter.last sents given
    → Gives p (polled p e now).end.numbers (polled p e now).end.filter.last (sents ++ sent_if (gave (answers.Poll (polled p e now).answer)) (sent_by p e now)) (given ++ given_as (polled p e now).answer (polled p e now).datagram)
polled_gives p e now sents given eight room owes spellable before = by_sends p e now (λ (q : Polled) (more : List Sent). Gives p q.end.numbers q.end.filter.last (sents ++ more) (given ++ given_as q.answer q.datagram)) (record {
  silent = nothing;
  failed = nothing;
  repeats = λ is. closing begun refl refl refl room owes;
  nothing = λ is none. quiet x (ap (λ (y : End). y.numbers) ready) (ap (λ (y : End). y.filter) ready);
  closes = λ reason is bound. closing (closed_by reason x) (ap (λ (y : End). y.numbers) ready) (ap (λ (y : End). y.filter) ready) (ap (λ (y : End). y.ids) ready) (ready_room e now room) (bound_well p e x reason bound);
  gives = λ is bound some. by_going (λ (y : End). Gives p y.numbers y.filter.last (sents ++ sent_as e now (draft_at e now) ∷ []) (given ++ datagram_of p (draft_at e now) ∷ [])) p (draft_at e now)
      (λ g. one (ready_at e now).leaving x (ap (λ (y : End). y.numbers) ready) (ap (λ (y : End). y.filter) ready) (ap (λ (y : End). y.ids) ready)
      (number_small x.filter x.numbers (ap (λ (y : End). can_number y.numbers) ready ∙ (bounds_none p e bound).0)) (may_leave_at e now) (spellable some).spells (spellable some).some (p.words (words_drawn (draft_at e now).end)));
})
  where
    begun : End
    begun = with_closing e (ticked e.closing now)

    x : End
    x = (ready_at e now).end

    ready : x ≡ poll_left e now x
    ready = ready_leaves e now

    -- nothing more is given
    nothing : Gives p e.numbers e.filter.last (sents ++ []) (given ++ [])
    nothing = gives_quiet p e.numbers e.numbers e.filter.last sents given refl (λ b. b) before

    quiet : (y : End) → y.numbers ≡ e.numbers → y.filter ≡ e.filter → Gives p y.numbers y.filter.last (sents ++ []) (given ++ [])
    quiet y numbers filter = subst (λ (n : Numbers). Gives p n y.filter.last (sents ++ []) (given ++ [])) (sym numbers) (subst (λ (f : Filter). Gives p e.numbers f.last (sents ++ []) (given ++ [])) (sym filter) nothing)

    -- one is given, of an end whose numbers are these, whatever word is drawn
    one : (leaving : Leaving) (y : End) → y.numbers ≡ e.numbers → y.filter ≡ e.filter → y.ids ≡ e.ids → (number_of y < 2 ^ 62) × (number_of y - cut_against y.numbers < 2 ^ 31) → MayLeave leaving y
        → Payload (frames_padded (draft_as leaving y)) (payload_of (draft_as leaving y)) → 0 < length (draft_as leaving y).frames → (word : ℕ) → (let d : Draft = draft_as leaving y in
        Gives p (number_given d.end.numbers (number_of d.end)) (after_allocated d.end.filter d.end.numbers.next word).last (sents ++ sent_as e now d ∷ []) (given ++ datagram_of p d ∷ []))
    one leaving y numbers filter ids small may spells some word =
        let d : Draft = draft_as leaving y in
        let c = composes leaving y may in
        let there : IsGiven p y.ids.peer.id (number_of y) (cut_against y.numbers) (frames_padded d) (datagram_of p d) = datagram_given p leaving y small may (ap (λ (i : Ids). length i.peer.id) ids ∙ eight) spells some in
        let here : IsGiven p e.ids.peer.id (number_of e) (cut_against e.numbers) (frames_padded d) (datagram_of p d) =
        subst (λ (i : Ids). IsGiven p i.peer.id (number_of e) (cut_against e.numbers) (frames_padded d) (datagram_of p d)) ids
        (subst (λ (f : Filter). IsGiven p y.ids.peer.id (allocated f e.numbers.next) (cut_against e.numbers) (frames_padded d) (datagram_of p d)) filter
        (subst (λ (n : Numbers). IsGiven p y.ids.peer.id (allocated y.filter n.next) (cut_against n) (frames_padded d) (datagram_of p d)) numbers there)) in
        let more : Gives p (number_given e.numbers (number_of e)) (after_allocated e.filter e.numbers.next word).last (sents ++ sent_as e now d ∷ []) (given ++ datagram_of p d ∷ []) =
        gives_more p e.filter word e.numbers sents given (sent_as e now d) (datagram_of p d) refl (given_for (list_any is_close (frames_padded d)) p e.ids.peer.id (number_of e) (cut_against e.numbers) (frames_padded d) (datagram_of p d) here) before in
        subst (λ (n : Numbers). Gives p (number_given n (allocated d.end.filter n.next)) (after_allocated d.end.filter n.next word).last (sents ++ sent_as e now d ∷ []) (given ++ datagram_of p d ∷ [])) (sym (c.numbers ∙ numbers))
        (subst (λ (f : Filter). Gives p (number_given e.numbers (allocated f e.numbers.next)) (after_allocated f e.numbers.next word).last (sents ++ sent_as e now d ∷ []) (given ++ datagram_of p d ∷ [])) (sym (c.filter ∙ filter)) more)

    -- a close is, or none
    closing : (y : End) → y.numbers ≡ e.numbers → y.filter ≡ e.filter → y.ids ≡ e.ids → HasRoom y → OwesWell y
        → GivesClose p e now (λ (q : Polled) (more : List Sent). Gives p q.end.numbers q.end.filter.last (sents ++ more) (given ++ given_as q.answer q.datagram)) y
    closing y numbers filter ids wide due = (
      quiet y numbers filter,
      λ f goes.
          let so = close_well p y due wide f goes in
          let well = so.well in
          one (poll.closing f) y numbers filter ids so.small (well.is, (refl, well.fits, well.form)) (close_spells f y well.form) (omega arith) (p.words (words_drawn (draft_as (poll.closing f) y).end)),
    )

-- ---- any call

module _ (p : Policy) (e : End) (theirs : List (List ℕ)) (a : Answer) (given : List (List ℕ)) (sents : List Sent) where
  -- what is given, once a call gave its datagrams
  abbrev GivesOn : Call → Type 0
  GivesOn call = Gives p (after_call p e theirs call a).numbers (after_call p e theirs call a).filter.last (sents ++ sents_by p e call a) (given ++ gives p e call a)

  -- another call than a poll gives none
  other_gives : (call : Call) → is_poll call ≡ false → gives p e call a ≡ [] → sents_by p e call a ≡ [] → Gives p e.numbers e.filter.last sents given → GivesOn call
  other_gives call other none unsent g =
      let stays = stays_call p e theirs call a other in
      rw (none, unsent) (subst (λ (f : Filter). Gives p (after_call p e theirs call a).numbers f.last (sents ++ []) (given ++ [])) (sym stays.filter)
      (gives_quiet p e.numbers (after_call p e theirs call a).numbers e.filter.last sents given stays.next stays.behind g))

  -- after each call that lacks no memory, each datagram that was given was sent under its number,
  -- and the numbers rise
  pub gives_step : (call : Call) → IsAnswer p e theirs call a → fails a ≡ false → length e.ids.peer.id ≡ own_id_length → HasRoom e → OwesWell e → ((now : ℕ) → goes (ready_at e now) ≡ true → IsSpellable (ready_at e now)) → Gives p e.numbers e.filter.last sents given → GivesOn call
  gives_step (calls.Poll now) is ok eight room owes spellable g =
      let said = poll_answer p e now a is ok in
      let all : gives p e (calls.Poll now) a ≡ given_as (polled p e now).answer (polled p e now).datagram = ap (λ (x : Answer). gives p e (calls.Poll now) x) said ∙ gives_as p e now (polled p e now).answer in
      rw (all, ap gave said) (polled_gives p e now sents given eight room owes (spellable now) g)
  gives_step call is ok eight room owes spellable g = other_gives call refl refl refl g
