-- Which answer waits at an end, by the challenges that it is to answer: that to the newest of
-- these, or none. So it is behind each packet that is taken, on the same path or another.
use Rattle.std.proofs.Common.{◌≡◌, ◌⊎◌, ℕ, ◌≤◌, nat_lt, Bool, true, false, List, [], ◌∷◌, ◌++◌, map, Option, Some, None, Result, Ok, Err, refl, sym, ap, ◌∙◌, subst, inl, inr, arith}
use Rattle.std.specs.Prelude.{if◌then◌else◌}
use Rattle.std.proofs.lemmas.Bool.{ltb-true, ltb-false}
use Rattle.std.proofs.lemmas.List.{append-nil}
use Rattle.quic_wire_core.specs.declared.shared.EcnCodepoint.{EcnCodepoint}
use Rattle.quic_wire.specs.Value.{FrameValue, path_challenge, path_response}
use Rattle.quic_wire.specs.Items.{items}
use Rattle.quic_wire.specs.declared.frame.InvalidFrame.{InvalidFrame}
use Rattle.quic_packet.specs.Datagram.{Opening}
use Rattle.quic_paths.specs.Paths.{is_asked}
use Rattle.quic_paths.specs.Responses.{Response, newest}
use Rattle.quic_machine.specs.declared.answers.NextIdError.{NextIdError}
use Rattle.quic_machine.specs.declared.answers.State.TheVariants as states
use Rattle.quic_machine.specs.declared.run.Answer.TheVariants as answers
use Rattle.quic_machine.specs.Policy.{Policy}
use Rattle.quic_machine.specs.Validation.{token_of, word_of, validated_if, path_asked, challenged_anew, most_challenges}
use Rattle.quic_machine.specs.IdFrames.{next_id_answer}
use Rattle.quic_machine.specs.End.{End}
use Rattle.quic_machine.specs.Migration.{is_there, next_id_if, next_id_if_allowed, path_frames_taken, migrated}
use Rattle.quic_machine.specs.Receive.{Outcome, asks_in}
use Rattle.quic_machine.specs.FrameCases.{passed, begun}
use Rattle.quic_headline.specs.Runs.{Packet, Intake, In}
use Rattle.quic_headline.specs.Observer.{news}
use Rattle.quic_headline.specs.Waited.{is_path_challenge}
use Rattle.quic_headline.specs.Responses.{Challenge, challenges_in, challenges_of}
use Rattle.quic_headline.proofs.Packets.Delivered.{frames_at, with_taken, ArrivalsFrom, arrived}
use Rattle.quic_headline.proofs.Packets.Heard.{by_taken}
use Rattle.quic_headline.proofs.Packets.Moving.{there}
use Rattle.quic_headline.proofs.Packets.Routed.{frames_route, moved_path}
use Rattle.quic_headline.proofs.Packets.Watching.{none_new, one_new}
use Rattle.quic_headline.proofs.Places.Told.{in_append}
use Rattle.quic_headline.proofs.Moves.Comes.{Leads, those, urges, behind_frames, arrivals_lead}
use Rattle.quic_headline.proofs.Validated.Group.{AnswerFits}
use Rattle.quic_headline.proofs.Validated.Standing.{Seen, seeing, seen_asked, taken_sees, next_sees, frames_see}

-- ---- what waits

-- An answer is one to a challenge of these, of which none came in a packet with a greater number.
pub record Answers (unanswered : List Challenge) (r : Response) : Type 0 where
  pub challenge : Challenge
  pub among : In challenge unanswered
  pub number : challenge.number ≡ r.packet
  pub same : challenge.token ≡ token_of r.token
  pub newest : (other : Challenge) → In other unanswered → other.number ≤ r.packet

-- so it is of what waits, and nothing waits where there is none
abbrev pub WaitsSo : List Challenge → Option Response → Type 0
WaitsSo unanswered None = (challenge : Challenge) → In challenge unanswered → ⊥
WaitsSo unanswered (Some r) = Answers unanswered r

-- among more
in_front : {X : Type 0} (x : X) (xs ys : List X) → In x xs → In x (xs ++ ys)
in_front x [] ys i = absurd i
in_front x (y ∷ xs) ys (inl is) = inl is
in_front x (y ∷ xs) ys (inr i) = inr (in_front x xs ys i)

in_behind : {X : Type 0} (x : X) (xs ys : List X) → In x ys → In x (xs ++ ys)
in_behind x [] ys i = i
in_behind x (y ∷ xs) ys i = inr (in_behind x xs ys i)

-- ---- frames

-- the data of a challenge are eight bytes
abbrev pub AreBytes : List ℕ → Type 0
AreBytes token = token_of (word_of token) ≡ token

-- other frames ask nothing
no_challenge : (n : ℕ) (f : FrameValue) (left : List FrameValue) → is_path_challenge f ≡ false → challenges_in n (f ∷ left) ≡ challenges_in n left
no_challenge n (path_challenge token) left other = cc
no_challenge n f left other = refl

-- A challenge of a packet of this number, whose data are eight bytes, is one of all.
pub record IsOne (n : ℕ) (all : List Challenge) (q : Challenge) : Type 0 where
  pub among : In q all
  pub number : q.number ≡ n
  pub bytes : AreBytes q.token

-- those of the frames of a packet are
pub are_those : (n : ℕ) (fs : List FrameValue) → ((f : FrameValue) → In f fs → AnswerFits f) → (q : Challenge) → In q (challenges_in n fs) → IsOne n (challenges_in n fs) q
are_those n [] fits q i = absurd i
are_those n (path_challenge token ∷ fs) fits q (inl is) = record { among = inl is; number = ap (λ (k : Challenge). k.number) is; bytes = subst (λ (k : Challenge). AreBytes k.token) (sym is) (fits (path_challenge token) (inl refl)) }
are_those n (path_challenge token ∷ fs) fits q (inr i) = (let one = are_those n fs (λ f j. fits f (inr j)) q i in record { among = inr one.among; number = one.number; bytes = one.bytes })
are_those n (f ∷ fs) fits q i = (let one = are_those n fs (λ g j. fits g (inr j)) q i in record { among = one.among; number = one.number; bytes = one.bytes })

module _ (n : ℕ) (all : List Challenge) where
  -- An answer to one of all, where these are to come.
  pub record AnswersYet (left : List Challenge) (r : Response) : Type 0 where
    pub challenge : Challenge
    pub among : In challenge all
    pub number : challenge.number ≡ r.packet
    pub same : challenge.token ≡ token_of r.token
    pub newest : (other : Challenge) → In other all → In other left ⊎ (other.number ≤ r.packet)

  -- what waits, where these are to come
  abbrev pub Yet : List Challenge → Option Response → Type 0
  Yet left None = (challenge : Challenge) → In challenge all → In challenge left
  Yet left (Some r) = AnswersYet left r

  abbrev pub Keeps : List Challenge → Seen → Type 0
  Keeps left s = (s.present ≡ n) × ((q : Challenge) → In q left → IsOne n all q) × Yet left s.response

  -- PATH_CHALLENGE
  asked_keeps : (token : List ℕ) (left : List Challenge) (s : Seen) → Keeps (record { number = n; token = token } ∷ left) s → Keeps left (seen_asked token s)
  asked_keeps token left s i = (i.0, λ q j. i.1 q (inr j), go s.response i.2)
    where
      asked : Challenge
      asked = record { number = n; token = token }

      one : IsOne n all asked
      one = i.1 asked (inl refl)

      r : Response
      r = record { packet = s.present; token = word_of token }

      -- one that is to come, or is this one
      this_one : (other : Challenge) → In other (asked ∷ left) → In other left ⊎ (other.number ≤ s.present)
      this_one other (inl is) = inr (let number : other.number ≡ n = ap (λ (k : Challenge). k.number) is in let present = i.0 in omega (arith, number, present))
      this_one other (inr later) = inl later

      by_this : ((other : Challenge) → In other all → In other (asked ∷ left) ⊎ (other.number ≤ s.present)) → AnswersYet left r
      by_this most = record {
        challenge = asked;
        among = one.among;
        number = sym i.0;
        same = sym one.bytes;
        newest = λ other j. elim (most other j) [ inl there ↦ this_one other there | inr below ↦ inr below ];
      }

      go : (o : Option Response) → Yet (asked ∷ left) o → Yet left (newest o r)
      go None none = by_this (λ other j. inl (none other j))
      go (Some w) waiting = by_test (nat_lt s.present w.packet) refl
        where
          by_test : (b : Bool) → nat_lt s.present w.packet ≡ b → Yet left (if b then Some w else Some r)
          by_test true is = record {
            challenge = waiting.challenge;
            among = waiting.among;
            number = waiting.number;
            same = waiting.same;
            newest = λ other j. elim (waiting.newest other j) [
              | inl there ↦ elim (this_one other there) [ inl later ↦ inl later | inr below ↦ inr (let less = ltb-true s.present w.packet is in omega (arith, below, less)) ]
              | inr below ↦ inr below
            ];
          }
          by_test false is = by_this (λ other j. elim (waiting.newest other j) [ inl there ↦ inl there | inr below ↦ inr (let most = ltb-false s.present w.packet is in omega (arith, below, most)) ])

  -- all frames of a packet
  pub frames_reply : (fs : List FrameValue) (e : End) → (passed fs e).fault ≡ None → Keeps (challenges_in n fs) (seeing e) → Keeps [] (seeing (passed fs e).end)
  frames_reply fs e none i = frames_see (λ (left : List FrameValue) (s : Seen). Keeps (challenges_in n left) s) (λ token left s j. j) (λ token left s j. asked_keeps token (challenges_in n left) s j)
      (λ f left s answers other j. subst (λ (qs : List Challenge). Keeps qs s) (no_challenge n f left other) j) fs e none i

  -- and those of path validation alone
  path_frames_reply : (fs : List FrameValue) (e : End) → Keeps (challenges_in n fs) (seeing e) → Keeps [] (seeing (path_frames_taken (map Ok fs) e))
  path_frames_reply [] e i = i
  path_frames_reply (path_challenge token ∷ fs) e i = path_frames_reply fs (path_asked token e) (asked_keeps token (challenges_in n fs) (seeing e) i)
  path_frames_reply (path_response token ∷ fs) e i = answered (is_asked e.validation.challenge (word_of token)) (path_frames_reply fs)
    where
      answered : (b : Bool) → ((x : End) → Keeps (challenges_in n fs) (seeing x) → Keeps [] (seeing (path_frames_taken (map Ok fs) x))) → Keeps [] (seeing (path_frames_taken (map Ok fs) (validated_if b e)))
      answered true rest = rest (validated_if true e) i
      answered false rest = rest e i
  path_frames_reply (f ∷ fs) e i = path_frames_reply fs e i

  -- none is to come any more
  pub so_waits : (s : Seen) → Keeps [] s → WaitsSo all s.response
  so_waits s i = go s.response i.2
    where
      go : (o : Option Response) → Yet [] o → WaitsSo all o
      go None none = none
      go (Some r) one = record {
        challenge = one.challenge;
        among = one.among;
        number = one.number;
        same = one.same;
        newest = λ other j. elim (one.newest other j) [ inl none ↦ absurd none | inr below ↦ below ];
      }

-- what waits before a packet of this number with these
pub before_those : (n : ℕ) (new before : List Challenge) (s : Seen) → s.present ≡ n → ((q : Challenge) → In q new → IsOne n new q) → WaitsSo before s.response → Keeps n (new ++ before) new s
before_those n new before s present those waits = (present, λ q i. (let one = those q i in record { among = in_front q new before one.among; number = one.number; bytes = one.bytes }), go s.response waits)
  where
    go : (o : Option Response) → WaitsSo before o → Yet n (new ++ before) new o
    go None none = λ q i. elim (in_append q new before i) [ inl here ↦ here | inr old ↦ absurd (none q old) ]
    go (Some r) one = record {
      challenge = one.challenge;
      among = in_behind one.challenge new before one.among;
      number = one.number;
      same = one.same;
      newest = λ other i. elim (in_append other new before i) [ inl here ↦ inl here | inr old ↦ inr (one.newest other old) ];
    }

-- ---- a datagram

-- where a packet came from elsewhere, nothing is asked
elsewhere_none : (n : ℕ) (fs : List FrameValue) → challenges_in n (frames_at false fs) ≡ []
elsewhere_none n [] = refl
elsewhere_none n (path_challenge token ∷ fs) = elsewhere_none n fs
elsewhere_none n (path_response token ∷ fs) = elsewhere_none n fs
elsewhere_none n (f ∷ fs) = elsewhere_none n fs

-- what came asks, where it came from where the peer is taken to be
abbrev pub asked_if : Bool → List Packet → List Challenge
asked_if here came = if here then challenges_of came else []

module _ (remote : ℕ) (mark : Option EcnCodepoint) (e : End) (now n : ℕ) (frames : List FrameValue) (i : Intake) (before : List Challenge) (fits : (f : FrameValue) → In f frames → AnswerFits f) where
  -- on the same path
  pub record Same (f : End) (j : Intake) : Type 0 where
    pub route : f.path.remote ≡ e.path.remote
    pub waits : WaitsSo (asked_if (is_there remote e) (news i j) ++ before) f.waiting.signals.response
    pub present : news i j ≡ record { number = n; frames = frames } ∷ [] → f.numbers.present ≡ n

  -- on another
  abbrev pub Other : End → Intake → Type 0
  Other f j = (f.path.remote ≡ remote) × WaitsSo (challenges_of (news i j)) f.waiting.signals.response

  abbrev came : List Packet
  came = news i (with_taken i n frames)

  -- what came asks what its frames do
  asks_those : (here : Bool) → asked_if here came ≡ challenges_in n (frames_at here frames)
  asks_those true = ap (λ (ps : List Packet). challenges_of ps) (one_new i n frames) ∙ append-nil (challenges_in n frames)
  asks_those false = sym (elsewhere_none n frames)

  fits_at : (here : Bool) (q : Challenge) → In q (challenges_in n (frames_at here frames)) → IsOne n (challenges_in n (frames_at here frames)) q
  fits_at true q j = are_those n frames fits q j
  fits_at false q j = absurd (subst (λ (qs : List Challenge). In q qs) (elsewhere_none n frames) j)

  abbrev new : List Challenge
  new = challenges_in n (those remote mark e now n frames)

  -- the packet was taken
  taken_keeps : (words : ℕ → ℕ) → (arrived e now n (those remote mark e now n frames)).fault ≡ None → WaitsSo before e.waiting.signals.response → Keeps n (new ++ before) [] (seeing (behind_frames remote mark e now n frames words))
  taken_keeps words none was = taken_sees (Keeps n (new ++ before) []) n (asks_in (map Ok frames)) (urges remote mark e now n frames) mark (arrived e now n (those remote mark e now n frames)).end
      (frames_reply n (new ++ before) (those remote mark e now n frames) (begun e now n) none (before_those n new before (seeing (begun e now n)) refl (fits_at (is_there remote e)) was))

  -- it leaves where the path leads
  taken_route : (words : ℕ → ℕ) → (behind_frames remote mark e now n frames words).path.remote ≡ e.path.remote
  taken_route words = by_taken (λ (y : End). y.path.remote ≡ e.path.remote) n (asks_in (map Ok frames)) (urges remote mark e now n frames) mark (arrived e now n (those remote mark e now n frames)).end
      (λ idle alive. frames_route (those remote mark e now n frames) (begun e now n))

  -- where the peer moved, it is asked there what its packet asks
  moved_waits : (p : Policy) (o : Opening) (x : End) → items o.payload ≡ map Ok frames → x.numbers.present ≡ n → WaitsSo (challenges_of came) (migrated p o remote x).waiting.signals.response
  moved_waits p o x same present = subst (λ (qs : List Challenge). WaitsSo qs (migrated p o remote x).waiting.signals.response) (sym (asks_those true))
      (so_waits n (challenges_in n frames) (seeing (migrated p o remote x)) (subst (λ (is : List (Result FrameValue InvalidFrame)). Keeps n (challenges_in n frames) [] (seeing (path_frames_taken is (next_id_if_allowed (challenged_anew p.words (nat_lt (there remote x).validation.drawn most_challenges) (there remote x))))))
      (sym same)
      (path_frames_reply n (challenges_in n frames) frames (next_id_if_allowed (challenged_anew p.words (nat_lt (there remote x).validation.drawn most_challenges) (there remote x))) (asked (nat_lt (there remote x).validation.drawn most_challenges)))))
    where
      K : Seen → Type 0
      K s = Keeps n (challenges_in n frames) (challenges_in n frames) s

      begins : (y : End) → y.numbers.present ≡ n → y.waiting.signals.response ≡ None → K (seeing y)
      begins y there_present none = (there_present, λ q j. are_those n frames fits q j, subst (λ (r : Option Response). Yet n (challenges_in n frames) (challenges_in n frames) r) (sym none) (λ q j. j))

      next : (r : Result (Unit {0}) NextIdError) (y : End) → K (seeing y) → K (seeing (next_id_if r y))
      next (Ok done) y k = next_sees K y (answers.UseNextId (Ok tt)) k
      next (Err error) y k = k

      asked : (b : Bool) → K (seeing (next_id_if_allowed (challenged_anew p.words b (there remote x))))
      asked true = next (next_id_answer (challenged_anew p.words true (there remote x))) (challenged_anew p.words true (there remote x)) (begins (challenged_anew p.words true (there remote x)) present refl)
      asked false = next (next_id_answer (challenged_anew p.words false (there remote x))) (challenged_anew p.words false (there remote x)) (begins (challenged_anew p.words false (there remote x)) present refl)

  -- so it is in each case of a delivery, where the end stays open
  pub arrivals_reply : WaitsSo before e.waiting.signals.response → ArrivalsFrom remote mark e now n frames i (λ (r : Outcome) (j : Intake). r.end.closing.state ≡ states.Open → Leads e Same Other r.end j)
  arrivals_reply was = arrivals_lead remote mark e now n frames Same Other i first takes (λ p o same away x left. ((moved_path p o remote x).0, moved_waits p o x same (left.present (one_new i n frames))))
    where
      nothing : (here : Bool) → asked_if here (news i i) ≡ []
      nothing true = ap (λ (ps : List Packet). challenges_of ps) (none_new i)
      nothing false = refl

      first : Same e i
      first = record {
        route = refl;
        waits = subst (λ (qs : List Challenge). WaitsSo (qs ++ before) e.waiting.signals.response) (sym (nothing (is_there remote e))) was;
        present = λ is. (let clash : ◌≡◌ {A = List Packet} [] (record { number = n; frames = frames } ∷ []) = sym (none_new i) ∙ is in cc);
      }

      takes : (words : ℕ → ℕ) → (arrived e now n (those remote mark e now n frames)).fault ≡ None → Same (behind_frames remote mark e now n frames words) (with_taken i n frames)
      takes words none =
          let x : End = behind_frames remote mark e now n frames words in
          let kept : Keeps n (new ++ before) [] (seeing x) = taken_keeps words none was in
          record {
            route = taken_route words;
            waits = subst (λ (qs : List Challenge). WaitsSo (qs ++ before) x.waiting.signals.response) (sym (asks_those (is_there remote e))) (so_waits n (new ++ before) (seeing x) kept);
            present = λ is. kept.0;
          }
