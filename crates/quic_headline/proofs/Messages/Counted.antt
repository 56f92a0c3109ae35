-- How often a message stands among others: in queues, in what went, and in what of that came.
use Rattle.std.proofs.Common.{◌≡◌, ℕ, zero, suc, ◌+◌, ◌≤◌, Bool, true, false, cond, ◌||◌, ◌==◌, nat_le, List, [], ◌∷◌, ◌++◌, length, drop, replicate, Option, Some, None, is_ok, option_to_list, bytes_eq, refl, sym, ap, ◌∙◌, subst, inl, inr, arith}
use Rattle.std.specs.Prelude.{if◌then◌else◌}
use Rattle.std.proofs.lemmas.Bool.{or_parts, or_from, eq-eqb}
use Rattle.std.proofs.lemmas.List.{append_assoc}
use Rattle.std.proofs.lemmas.List.Sums.{sum_by-append}
use Rattle.quic_wire.specs.Value.{FrameValue, padding, datagram}
use Rattle.quic_recovery_core.specs.Duplicates.{duplicate_span}
use Rattle.quic_messages.specs.declared.limits.DatagramLimits.{DatagramLimits}
use Rattle.quic_messages.specs.Messages.{Messages, weight, bytes_of, oldest, left_for, with_message, after_received}
use Rattle.quic_messages.specs.Sending.{send_answer, after_send}
use Rattle.quic_messages.specs.History.{times}
pub use Rattle.quic_headline.specs.Queue.{messages_in}
use Rattle.quic_headline.specs.Runs.{In, is_again}
use Rattle.quic_headline.specs.Observer.{Sent}
use Rattle.std.specs.List.{filter}
use Rattle.quic_headline.proofs.Packets.Owing.{AreCloses, closes_fine}

-- ---- how often

-- how often a message stands among these
pub often : List ℕ → List (List ℕ) → ℕ
often m ms = times m ms

-- so it is in the word of messages
pub often_times : (m : List ℕ) (xs ys : List (List ℕ)) → often m xs ≤ often m ys → times m xs ≤ times m ys
unfolding often
often_times m xs ys less = less

-- among none it doesn't stand
pub often_none : (m : List ℕ) → often m [] ≡ 0
unfolding often
often_none m = refl

-- among two lists, as often as among each
pub often_append : (m : List ℕ) (xs ys : List (List ℕ)) → often m (xs ++ ys) ≡ often m xs + often m ys
unfolding often
often_append m xs ys = sum_by-append (λ x. cond (bytes_eq m x) 1 0) xs ys

-- one more behind others
pub often_more : (m x : List ℕ) (xs : List (List ℕ)) → often m (x ∷ xs) ≡ often m (x ∷ []) + often m xs
often_more m x xs = often_append m (x ∷ []) xs

-- no message is there more often where some are left out
pub often_filter : (m : List ℕ) (keep : List ℕ → Bool) (xs : List (List ℕ)) → often m (filter keep xs) ≤ often m xs
often_filter m keep [] = omega arith
often_filter m keep (x ∷ xs) = go (keep x) (often_filter m keep xs)
  where
    go : (b : Bool) → often m (filter keep xs) ≤ often m xs → often m (cond b (x ∷ filter keep xs) (filter keep xs)) ≤ often m (x ∷ xs)
    go true less = let some = often_more m x (filter keep xs) in let all = often_more m x xs in omega arith
    go false less = let all = often_more m x xs in omega arith

-- ---- queues

module _ (m : List ℕ) where
  -- where the oldest go, no more are left
  left_less : (size : List ℕ → ℕ) (room len : ℕ) (ms : List (List ℕ)) → often m (left_for size room len ms) ≤ often m ms
  left_less size room len [] = omega arith
  left_less size room len (x ∷ ms) = go (nat_le (bytes_of size (x ∷ ms) + len) room) (left_less size room len ms)
    where
      go : (b : Bool) → often m (left_for size room len ms) ≤ often m ms → often m (if b then x ∷ ms else left_for size room len ms) ≤ often m (x ∷ ms)
      go true rest = omega arith
      go false rest = let all = often_more m x ms in omega arith

  -- one more behind them, for which the oldest go
  with_more : (size : List ℕ → ℕ) (room : ℕ) (x : List ℕ) (ms : List (List ℕ)) → often m (with_message size room x ms) ≤ often m ms + often m (x ∷ [])
  with_more size room x ms =
      let all = often_append m (left_for size room (size x) ms) (x ∷ []) in
      let less = left_less size room (size x) ms in
      omega arith

  -- the oldest and the others
  pub often_oldest : (ms : List (List ℕ)) → often m (option_to_list (oldest ms)) + often m (drop 1 ms) ≡ often m ms
  often_oldest [] = let none = often_none m in omega arith
  often_oldest (x ∷ ms) = sym (often_more m x ms)

  -- one that comes stands at most once more among the unread
  pub received_more : (window : Option ℕ) (x : List ℕ) (s : Messages) → often m (after_received window x s).incoming ≤ often m s.incoming + often m (x ∷ [])
  received_more None x s = omega arith
  received_more (Some window) x s = go (nat_le (length x) window)
    where
      go : (b : Bool) → often m (if b then record s { incoming = with_message weight window x s.incoming } else s).incoming ≤ often m s.incoming + often m (x ∷ [])
      go true = with_more weight window x s.incoming
      go false = omega arith

  -- one that is sent stands at most once more among those that wait
  pub sent_more : (limits : DatagramLimits) (makes_room : Bool) (x : List ℕ) (s : Messages) → often m (after_send limits makes_room x s).outgoing ≤ often m s.outgoing + often m (x ∷ [])
  sent_more limits makes_room x s = go (is_ok (send_answer limits makes_room x s))
    where
      go : (b : Bool) → often m (if b then record s { outgoing = with_message length limits.send_buffer_size x s.outgoing } else s).outgoing ≤ often m s.outgoing + often m (x ∷ [])
      go true = with_more length limits.send_buffer_size x s.outgoing
      go false = omega arith

-- one that comes changes none that waits
pub received_leaves : (window : Option ℕ) (x : List ℕ) (s : Messages) → (after_received window x s).outgoing ≡ s.outgoing
received_leaves None x s = refl
received_leaves (Some window) x s = go (nat_le (length x) window)
  where
    go : (b : Bool) → (if b then record s { incoming = with_message weight window x s.incoming } else s).outgoing ≡ s.outgoing
    go true = refl
    go false = refl

-- one that is sent changes none that is unread
pub sent_leaves : (limits : DatagramLimits) (makes_room : Bool) (x : List ℕ) (s : Messages) → (after_send limits makes_room x s).incoming ≡ s.incoming
sent_leaves limits makes_room x s = go (is_ok (send_answer limits makes_room x s))
  where
    go : (b : Bool) → (if b then record s { outgoing = with_message length limits.send_buffer_size x s.outgoing } else s).incoming ≡ s.incoming
    go true = refl
    go false = refl

-- ---- frames

-- those of frames, and of others behind them
pub messages_append : (fs gs : List FrameValue) → messages_in (fs ++ gs) ≡ messages_in fs ++ messages_in gs
messages_append [] gs = refl
messages_append (datagram m ∷ fs) gs = ap (λ (ms : List (List ℕ)). m ∷ ms) (messages_append fs gs)
messages_append (f ∷ fs) gs = messages_append fs gs

-- PADDING has none
pub padding_none : (count : ℕ) → messages_in (replicate count padding) ≡ []
padding_none zero = refl
padding_none (suc count) = padding_none count

-- neither has a close, nor what goes beside it
pub close_none : (fs : List FrameValue) → AreCloses fs → messages_in fs ≡ []
close_none [] all = refl
close_none (g ∷ fs) all =
    closes_fine (λ (f : FrameValue). messages_in (f ∷ fs) ≡ messages_in fs) (λ c. refl) (λ c. refl) refl g (all g (inl refl)) ∙ close_none fs (λ f i. all f (inr i))

module _ (m : List ℕ) where
  -- a frame and others behind it
  pub often_first : (f : FrameValue) (fs : List FrameValue) → often m (messages_in (f ∷ fs)) ≡ often m (messages_in (f ∷ [])) + often m (messages_in fs)
  often_first f fs = ap (often m) (messages_append (f ∷ []) fs) ∙ often_append m (messages_in (f ∷ [])) (messages_in fs)

  -- a frame behind others
  pub often_last : (fs : List FrameValue) (f : FrameValue) → often m (messages_in (fs ++ f ∷ [])) ≡ often m (messages_in fs) + often m (messages_in (f ∷ []))
  often_last fs f = ap (often m) (messages_append fs (f ∷ [])) ∙ often_append m (messages_in fs) (messages_in (f ∷ []))

  -- PADDING behind others
  pub often_padded : (fs : List FrameValue) (count : ℕ) → often m (messages_in (fs ++ replicate count padding)) ≡ often m (messages_in fs)
  often_padded fs count =
      let all : often m (messages_in (fs ++ replicate count padding)) ≡ often m (messages_in fs) + often m (messages_in (replicate count padding)) =
      ap (often m) (messages_append fs (replicate count padding)) ∙ often_append m (messages_in fs) (messages_in (replicate count padding)) in
      let zeros : often m (messages_in (replicate count padding)) ≡ often m [] = ap (often m) (padding_none count) in
      let none = often_none m in
      omega arith

-- ---- what went

-- the messages of datagrams that went
abbrev pub gone : List Sent → List (List ℕ)
gone [] = []
gone (s ∷ ss) = messages_in s.frames ++ gone ss

-- those of more datagrams
pub gone_append : (ss more : List Sent) → gone (ss ++ more) ≡ gone ss ++ gone more
gone_append [] more = refl
gone_append (s ∷ ss) more = ap (λ (ms : List (List ℕ)). messages_in s.frames ++ ms) (gone_append ss more) ∙ sym (append_assoc (messages_in s.frames) (gone ss) (gone more))

-- ---- what of that came

-- whether a number is one of these
abbrev pub has : ℕ → List ℕ → Bool
has n [] = false
has n (k ∷ ks) = (k == n) || has n ks

-- one that is no duplicate isn't
pub new_number : (n : ℕ) (ks : List ℕ) → is_again n ks ≡ false → has n ks ≡ false
new_number n [] new = refl
new_number n (k ∷ ks) new =
    let parts = or_parts ((k == n) || nat_le (n + duplicate_span) k) (is_again n ks) new in
    let first = or_parts (k == n) (nat_le (n + duplicate_span) k) parts.0 in
    or_from (k == n) (has n ks) first.0 (new_number n ks parts.1)

-- the messages of one whose number came
abbrev if_came : Bool → List (List ℕ) → List (List ℕ)
if_came true ms = ms
if_came false ms = []

-- the messages of those whose numbers are among these
abbrev pub came : List ℕ → List Sent → List (List ℕ)
came ks [] = []
came ks (s ∷ ss) = if_came (has s.number ks) (messages_in s.frames) ++ came ks ss

module _ (m : List ℕ) where
  -- no more than all of them came
  if_less : (b : Bool) (ms : List (List ℕ)) → often m (if_came b ms) ≤ often m ms
  if_less true ms = omega arith
  if_less false ms = let none = often_none m in omega arith

  -- no less where one number more came
  if_wider : (c b : Bool) (ms : List (List ℕ)) → often m (if_came b ms) ≤ often m (if_came (c || b) ms)
  if_wider true b ms = if_less b ms
  if_wider false b ms = omega arith

  -- no more came than went
  pub came_went : (ks : List ℕ) (ss : List Sent) → often m (came ks ss) ≤ often m (gone ss)
  came_went ks [] = omega arith
  came_went ks (s ∷ ss) =
      let left = often_append m (if_came (has s.number ks) (messages_in s.frames)) (came ks ss) in
      let right = often_append m (messages_in s.frames) (gone ss) in
      let first = if_less (has s.number ks) (messages_in s.frames) in
      let rest = came_went ks ss in
      omega arith

  -- no less came where more went
  pub came_more : (ks : List ℕ) (ss more : List Sent) → often m (came ks ss) ≤ often m (came ks (ss ++ more))
  came_more ks [] more = let none = often_none m in omega arith
  came_more ks (s ∷ ss) more =
      let left = often_append m (if_came (has s.number ks) (messages_in s.frames)) (came ks ss) in
      let right = often_append m (if_came (has s.number ks) (messages_in s.frames)) (came ks (ss ++ more)) in
      let rest = came_more ks ss more in
      omega arith

  -- nor where one number more did
  came_wider : (n : ℕ) (ks : List ℕ) (ss : List Sent) → often m (came ks ss) ≤ often m (came (n ∷ ks) ss)
  came_wider n ks [] = omega arith
  came_wider n ks (s ∷ ss) =
      let left = often_append m (if_came (has s.number ks) (messages_in s.frames)) (came ks ss) in
      let right = often_append m (if_came ((n == s.number) || has s.number ks) (messages_in s.frames)) (came (n ∷ ks) ss) in
      let first = if_wider (n == s.number) (has s.number ks) (messages_in s.frames) in
      let rest = came_wider n ks ss in
      omega arith

  -- the first of these comes, which didn't before
  came_first : (s : Sent) (ks : List ℕ) (ss : List Sent) → has s.number ks ≡ false → often m (came ks (s ∷ ss)) + often m (messages_in s.frames) ≤ often m (came (s.number ∷ ks) (s ∷ ss))
  came_first s ks ss new =
      let ms : List (List ℕ) = messages_in s.frames in
      let left = often_append m (if_came (has s.number ks) ms) (came ks ss) in
      let right = often_append m (if_came ((s.number == s.number) || has s.number ks) ms) (came (s.number ∷ ks) ss) in
      let before : often m (if_came (has s.number ks) ms) ≡ often m [] = ap (λ (b : Bool). often m (if_came b ms)) new in
      let behind : often m (if_came ((s.number == s.number) || has s.number ks) ms) ≡ often m ms = ap (λ (b : Bool). often m (if_came (b || has s.number ks) ms)) (eq-eqb s.number s.number refl) in
      let none = often_none m in
      let rest = came_wider s.number ks ss in
      omega arith

  -- one of these does: its messages come besides
  pub came_new : (s : Sent) (ks : List ℕ) (ss : List Sent) → In s ss → has s.number ks ≡ false → often m (came ks ss) + often m (messages_in s.frames) ≤ often m (came (s.number ∷ ks) ss)
  came_new s ks [] i new = absurd i
  came_new s ks (t ∷ ss) (inl is) new =
      subst (λ (u : Sent). often m (came ks (u ∷ ss)) + often m (messages_in s.frames) ≤ often m (came (s.number ∷ ks) (u ∷ ss))) is (came_first s ks ss new)
  came_new s ks (t ∷ ss) (inr i) new =
      let left = often_append m (if_came (has t.number ks) (messages_in t.frames)) (came ks ss) in
      let right = often_append m (if_came ((s.number == t.number) || has t.number ks) (messages_in t.frames)) (came (s.number ∷ ks) ss) in
      let first = if_wider (s.number == t.number) (has t.number ks) (messages_in t.frames) in
      let rest = came_new s ks ss i new in
      omega arith
