-- What PATH_RESPONSE tells fits 64 bits, the data of PATH_CHALLENGE are eight bytes, and the word
-- that an end asks, and that waits to go, is one that its random source answers, or that it asked
-- as it was made: each call keeps that.
use Rattle.std.proofs.Common.{get_or, ◌≡◌, ◌⊎◌, ℕ, zero, suc, ◌+◌, ◌*◌, ◌/◌, ◌%◌, ◌^◌, ◌<◌, Bool, true, false, ◌&&◌, List, [], ◌∷◌, map, Option, Some, None, Result, Ok, refl, sym, ap, ◌∙◌, subst, inl, inr, arith}
use Rattle.std.proofs.lemmas.Bool.{eqb-true, both_ways}
use Rattle.std.proofs.lemmas.Nat.{be_bytes_8, from_be_bytes-to_be_bytes_8}
use Rattle.quic_wire.specs.Value.{FrameValue, path_challenge, path_response}
use Rattle.quic_wire_core.specs.declared.shared.EcnCodepoint.{EcnCodepoint}
use Rattle.quic_wire_core.specs.declared.stream_id.Side.{Side}
use Rattle.quic_wire.specs.Items.{items}
use Rattle.quic_wire.specs.declared.frame.InvalidFrame.{InvalidFrame}
use Rattle.quic_packet.specs.Datagram.{Opening}
use Rattle.quic_parameters.specs.Parameters.{ParameterValues}
use Rattle.quic_config.specs.Transport.{Settings, parameters_of}
use Rattle.quic_paths.specs.Paths.{is_asked}
use Rattle.quic_retransmits.specs.Retransmits.{Retransmits}
use Rattle.quic_streams_state.specs.declared.state.StreamsState.{StreamsState}
use Rattle.quic_streams_state.specs.Control.{Goes}
use Rattle.quic_machine.specs.declared.answers.State.TheVariants as states
use Rattle.quic_machine.specs.declared.run.Call.{Call}
use Rattle.quic_machine.specs.declared.run.Call.TheVariants as calls
use Rattle.quic_machine.specs.declared.run.Answer.{Answer}
use Rattle.quic_machine.specs.declared.run.Answer.TheVariants as answers
use Rattle.quic_machine.specs.Policy.{Policy}
use Rattle.quic_machine.specs.Parts.{Validation, Windows}
use Rattle.quic_machine.specs.Validation.{token_of, word_of, validated_if, path_answered}
use Rattle.quic_machine.specs.Migration.{migrated, has_moved}
use Rattle.quic_machine.specs.End.{End, words_drawn, new_end}
use Rattle.quic_machine.specs.Calls.{is_open}
use Rattle.quic_machine.specs.Receive.{Outcome, asks_in, migrated_if}
use Rattle.quic_machine.specs.FrameCases.{begun}
use Rattle.quic_machine.specs.Machine.{IsAnswer, fails, gave}
use Rattle.quic_headline.specs.Runs.{Packet, Intake, In}
use Rattle.quic_headline.specs.Observer.{Sent, news}
use Rattle.quic_headline.proofs.Packets.Delivered.{with_taken, ArrivalsBy, arrived, moves_by}
use Rattle.quic_headline.proofs.Packets.Moving.{there, by_asked}
use Rattle.quic_headline.proofs.Packets.Watching.{one_new}
use Rattle.quic_headline.proofs.Packets.Owing.{Owes}
use Rattle.quic_headline.proofs.Packets.Group.{meets}
use Rattle.quic_headline.proofs.Places.Told.{in_append}
use Rattle.quic_headline.proofs.Places.Steps.{poll_answer}
use Rattle.quic_headline.proofs.Places.Parties.{sent_by, sent_if, sents_by, Party, called, came_to}
use Rattle.quic_headline.proofs.Places.Groups.{Calls, Group}
use Rattle.quic_headline.proofs.Places.Coming.{by_coming_by}
use Rattle.quic_headline.proofs.Moves.Kept.{same_path}
use Rattle.quic_headline.proofs.Moves.Comes.{those, urges, behind_frames, taken_stays}
use Rattle.quic_headline.proofs.Timers.Still.{was_open}
use Rattle.quic_headline.proofs.Timers.Watched.{Observed}
use Rattle.quic_headline.proofs.Credit.Drafts.{AreFine, poll_fine}
use Rattle.quic_headline.proofs.Validated.Standing.{Standing, standing, answered_if, taken_stands, next_stands, call_stands, frames_stand}
use Rattle.quic_headline.proofs.Validated.Went.{LeftSo, polled_left}

-- ---- words and the bytes that tell them

-- eight bytes tell a number of 64 bits
bytes_bound : (a b c d e f g h : ℕ) → a < 256 → b < 256 → c < 256 → d < 256 → e < 256 → f < 256 → g < 256 → h < 256
    → a * 72057594037927936 + b * 281474976710656 + c * 1099511627776 + d * 4294967296 + e * 16777216 + f * 65536 + g * 256 + h < 2 ^ 64
bytes_bound a b c d e f g h at_0 at_1 at_2 at_3 at_4 at_5 at_6 at_7 = omega arith

word_bound : (n : ℕ) → word_of (token_of n) < 2 ^ 64
word_bound n = bytes_bound (n / 72057594037927936 % 256) (n / 281474976710656 % 256) (n / 1099511627776 % 256) (n / 4294967296 % 256) (n / 16777216 % 256) (n / 65536 % 256) (n / 256 % 256) (n % 256) (omega arith) (omega arith) (omega arith) (omega arith) (omega arith) (omega arith) (omega arith) (omega arith)

-- of 64 bits a word is told whole
pub word_whole : (n : ℕ) → n < 2 ^ 64 → word_of (token_of n) ≡ n
word_whole n fits = from_be_bytes-to_be_bytes_8 n fits

-- the bytes by which a word is told tell what is told of it, whether or not it has 64 bits
byte_of : (n i : ℕ) → get_or (token_of n) i 0 < 256
byte_of n zero = omega arith
byte_of n (suc zero) = omega arith
byte_of n (suc (suc zero)) = omega arith
byte_of n (suc (suc (suc zero))) = omega arith
byte_of n (suc (suc (suc (suc zero)))) = omega arith
byte_of n (suc (suc (suc (suc (suc zero))))) = omega arith
byte_of n (suc (suc (suc (suc (suc (suc zero)))))) = omega arith
byte_of n (suc (suc (suc (suc (suc (suc (suc zero))))))) = omega arith
byte_of n (suc (suc (suc (suc (suc (suc (suc (suc i)))))))) = omega arith

told_whole : (n : ℕ) → token_of (word_of (token_of n)) ≡ token_of n
told_whole n = be_bytes_8 (token_of n) (word_of (token_of n)) refl (byte_of n) refl

-- PATH_RESPONSE tells such a word, and the data of PATH_CHALLENGE are the bytes that tell one
abbrev pub AnswerFits : FrameValue → Type 0
AnswerFits (path_challenge token) = token_of (word_of token) ≡ token
AnswerFits (path_response token) = word_of token < 2 ^ 64
AnswerFits f = Unit {0}

control_fits : (p : Retransmits) (s : StreamsState) (f : FrameValue) → Goes p s f → AnswerFits f
control_fits p s (path_challenge token) goes = absurd goes
control_fits p s (path_response token) goes = absurd goes
control_fits p s f goes = tt

fits : AreFine (λ s. Unit {0}) AnswerFits
fits = record {
  told = λ f s known. tt;
  sent = λ fair s id room h found known. tt;
  limits = λ p s f known goes. control_fits p s f goes;
  pads = tt;
  challenges = told_whole;
  responses = λ r. word_bound r.token;
  pings = tt;
  immediate = tt;
  requests = λ r. tt;
  connection_closes = λ c. tt;
  application_closes = λ c. tt;
  acks = λ a. tt;
  messages = λ m. tt;
  streams = λ f. tt;
}

-- what a call sends
call_fits : (p : Policy) (e : End) (theirs : List (List ℕ)) (call : Call) (a : Answer) → IsAnswer p e theirs call a → fails a ≡ false → Owes e → (s : Sent) → In s (sents_by p e call a) → (f : FrameValue) → In f s.frames → AnswerFits f
call_fits p e theirs (calls.Poll now) a is served owes s i = poll_fine (λ s. Unit {0}) AnswerFits fits p e now owes (λ opened. tt) s (subst (λ (b : Answer). In s (sent_if (gave b) (sent_by p e now))) (poll_answer p e now a is served) i)
call_fits p e theirs call a is served owes s i = absurd i

-- ---- words of its own

-- a word that an end may ask: its random source answers it, or it asked it as it was made
abbrev pub IsOwn : Party → ℕ → Type 0
IsOwn x word = ((n : ℕ) × (x.policy.words n ≡ word)) ⊎ (x.made.validation.challenge ≡ Some word)

-- one of the packets that came answers with such a word
abbrev pub AnswersOwn : (ℕ → Type 0) → Intake → Intake → Type 0
AnswersOwn Own i j = (token : List ℕ) × (packet : Packet) × In packet (news i j) × In (path_response token) packet.frames × Own (word_of token)

module _ (Own : ℕ → Type 0) where
  -- the word that is asked, if one is, is its own, and so is that which waits to be sent
  abbrev pub AsksOwn : Standing → Type 0
  AsksOwn s = (word : ℕ) → (s.asked.validation.challenge ≡ Some word) ⊎ (s.asked.waits ≡ Some word) → Own word

  -- one that draws such a word asks it
  drawn_own : (n : ℕ) → Own n → (word : ℕ) → (Some n ≡ Some word) ⊎ (Some n ≡ Some word) → Own word
  drawn_own n own word (inl is) = subst Own (let same : n ≡ word = cc in same) own
  drawn_own n own word (inr is) = subst Own (let same : n ≡ word = cc in same) own

  -- one that asks none has none
  none_own : (word : ℕ) → ((◌≡◌ {A = Option ℕ} None (Some word)) ⊎ (◌≡◌ {A = Option ℕ} None (Some word))) → Own word
  none_own word (inl is) = cc
  none_own word (inr is) = cc

  answered_own : (b : Bool) (s : Standing) → AsksOwn s → AsksOwn (answered_if b s)
  answered_own true s i = none_own
  answered_own false s i = i

  module _ (q : Policy) (words : (n : ℕ) → Own (q.words n)) where
    -- where the peer moved too, which is asked for such a word: and it is validated there only by
    -- one that comes with the packet
    pub moved_own : (o : Opening) (remote : ℕ) (e : End) → AsksOwn (standing (migrated q o remote e)) × ((migrated q o remote e).path.validated ≡ true → (token : List ℕ) × In (Ok (path_response token)) (items o.payload) × Own (word_of token))
    moved_own o remote e =
        by_asked Moved q o remote e (λ may. (drawn_own (q.words (words_drawn (there remote e))) (words (words_drawn (there remote e))), λ is. cc)) (λ may. (none_own, λ is. cc))
        (λ x j. next_stands (λ (s : Standing). AsksOwn s × (s.validated ≡ true → Found)) x (answers.UseNextId (Ok tt)) j) (λ token x j. j) (λ token x among j. answers_so token x among j)
      where
        Found : Type 0
        Found = (token : List ℕ) × In (Ok (path_response token)) (items o.payload) × Own (word_of token)

        Moved : End → Type 0
        Moved x = AsksOwn (standing x) × (x.path.validated ≡ true → Found)

        answers_so : (token : List ℕ) (x : End) → In (Ok (path_response token)) (items o.payload) → Moved x → Moved (path_answered token x)
        answers_so token x among j = go (is_asked x.validation.challenge (word_of token)) refl
          where
            asked : (c : Option ℕ) → x.validation.challenge ≡ c → is_asked c (word_of token) ≡ true → Own (word_of token)
            asked None is right = cc
            asked (Some word) is right = subst Own (eqb-true word (word_of token) right) (j.0 word (inl is))

            go : (b : Bool) → is_asked x.validation.challenge (word_of token) ≡ b → Moved (validated_if b x)
            go true right = (none_own, λ is. (token, among, asked x.validation.challenge refl right))
            go false right = j

    moved_if_own : (b : Bool) (o : Opening) (remote : ℕ) (e : End) → AsksOwn (standing e) → AsksOwn (standing (migrated_if b q o remote e))
    moved_if_own false o remote e i = i
    moved_if_own true o remote e i = (moved_own o remote e).0

    module _ (remote : ℕ) (mark : Option EcnCodepoint) (e : End) (now n : ℕ) (frames : List FrameValue) (i : Intake) where
      arrivals_own : AsksOwn (standing e) → ArrivalsBy q remote mark e now n frames i (λ (o : Outcome) (j : Intake). o.end.closing.state ≡ states.Open → AsksOwn (standing o.end))
      arrivals_own was = record {
        ignored = λ reason opened. was;
        noted = λ state reason opened. was;
        takes = λ o same state new none opened.
            let x : End = behind_frames remote mark e now n frames q.words in
            moved_if_own (moves_by remote n frames e && is_open x.closing.state) o remote x
            (taken_stands AsksOwn n (asks_in (map Ok frames)) (urges remote mark e now n frames) mark (arrived e now n (those remote mark e now n frames)).end
            (frames_stand (λ (left : List FrameValue) (s : Standing). AsksOwn s) (λ token left s j. answered_own (is_asked s.asked.validation.challenge (word_of token)) s j) (λ f left s other j. j) (those remote mark e now n frames) (begun e now n) none was));
        drains = λ state new close is opened. absurd cc;
        refuses = λ state new f is opened. absurd cc;
        exhausts = λ state opened. was;
      }

      -- a packet by which the path changes answers with one, where the address is validated then
      pub arrivals_answer : ArrivalsBy q remote mark e now n frames i (λ (o : Outcome) (j : Intake). o.end.closing.state ≡ states.Open → has_moved e o.end ≡ true → o.end.path.validated ≡ true → AnswersOwn Own i j)
      arrivals_answer = record {
        ignored = λ reason opened moved. absurd (both_ways (has_moved e e) (same_path e e refl) moved);
        noted = λ state reason opened moved. absurd (both_ways (has_moved e e) (same_path e e refl) moved);
        takes = λ o same state new none opened moved validated.
            let x : End = behind_frames remote mark e now n frames q.words in
            go o same x (taken_stays remote mark e now n frames q.words) (moves_by remote n frames e && is_open x.closing.state) moved validated;
        drains = λ state new close is opened. absurd cc;
        refuses = λ state new f is opened. absurd cc;
        exhausts = λ state opened. absurd cc;
      }
        where
          packet : Packet
          packet = record { number = n; frames = frames }

          came : In packet (news i (with_taken i n frames))
          came = subst (λ (ps : List Packet). In packet ps) (sym (one_new i n frames)) (inl refl)

          of_items : (fs : List FrameValue) (f : FrameValue) → In (Ok f) (map {B = Result FrameValue InvalidFrame} Ok fs) → In f fs
          of_items [] f j = absurd j
          of_items (g ∷ fs) f (inl is) = inl (let same : f ≡ g = cc in same)
          of_items (g ∷ fs) f (inr j) = inr (of_items fs f j)

          go : (o : Opening) → items o.payload ≡ map Ok frames → (x : End) → x.path.generation ≡ e.path.generation → (b : Bool) → has_moved e (migrated_if b q o remote x) ≡ true → (migrated_if b q o remote x).path.validated ≡ true → AnswersOwn Own i (with_taken i n frames)
          go o same x stays false moved validated = absurd (both_ways (has_moved e x) (same_path e x stays) moved)
          go o same x stays true moved validated =
              let found = (moved_own o remote x).1 validated in
              (found.0, packet, came, of_items frames (path_response found.0) (subst (λ (ks : List (Result FrameValue InvalidFrame)). In (Ok (path_response found.0)) ks) same found.1), found.2)

-- ---- the group

-- what an end answers and asks fits, and the word that an open one asks is its own, as is that
-- which waits
pub record Challenging (x y : Party) : Type 0 where
  pub answers : (s : Sent) → In s x.sents → (f : FrameValue) → In f s.frames → AnswerFits f
  pub own : x.end.closing.state ≡ states.Open → AsksOwn (IsOwn x) (standing x.end)

-- its random source answers such words
pub words_own : (x : Party) (n : ℕ) → IsOwn x (x.policy.words n)
words_own x n = inl (n, refl)

-- what a poll leaves waited before it
polled_own : {Own : ℕ → Type 0} {e f : End} {ss : List Sent} → LeftSo e f ss → AsksOwn Own (standing e) → AsksOwn Own (standing f)
polled_own left was word (inl is) = was word (inl (ap (λ (v : Validation). v.challenge) (sym left.validation) ∙ is))
polled_own left was word (inr waits) = elim left.went [
  | inl none ↦ was word (inr (sym none.same ∙ waits))
  | inr one ↦ absurd (let clash : ◌≡◌ {A = Option ℕ} None (Some word) = sym one.gone ∙ waits in cc)
]

-- an end that is made asks the word that waits, where one does
first_own : (side : Side) (settings : Settings) (windows : Windows) (theirs : ParameterValues) (own_id peer_id : List ℕ) (remote now : ℕ) (validated : Bool) (words : ℕ → ℕ) (word : ℕ)
    → (new_end side settings windows theirs own_id peer_id remote now validated words).waiting.signals.challenge ≡ Some word → (new_end side settings windows theirs own_id peer_id remote now validated words).validation.challenge ≡ Some word
first_own side settings windows theirs own_id peer_id remote now true words word is = cc
first_own side settings windows theirs own_id peer_id remote now false words word is = is

module _ (x y : Party) (a : Answer) (i : Challenging x y) where
  abbrev next : Call → Party
  next call = called x y.given call a

  abbrev Own : ℕ → Type 0
  Own = IsOwn x

  own_behind : (call : Call) → Calls Observed x y call a → (next call).end.closing.state ≡ states.Open → AsksOwn Own (standing x.end) → AsksOwn Own (standing (next call).end)
  own_behind (calls.Poll now) c still was = polled_own (polled_left x.policy x.end now still) was
  own_behind (calls.Timeout now) c still was = call_stands (AsksOwn Own) x.policy x.end y.given (calls.Timeout now) a refl refl (λ is n moment s j. drawn_own Own (x.policy.words n) (words_own x n)) (λ s j. j) was
  own_behind (calls.Deliver delivery) c still was =
      by_coming_by x y a c.joined c.served (meets y x c.takes.0) (λ (b : Answer) (e : End) (j : Intake). e.closing.state ≡ states.Open → AsksOwn Own (standing e)) (calls.Deliver delivery) c.answer (record {
        apart = λ apart. cc;
        none = λ other is opened. was;
        comes = λ other is s among. arrivals_own Own x.policy (words_own x) other.remote other.ecn x.end other.now s.number s.frames (came_to x y) was;
      }) still
  own_behind call c still was = call_stands (AsksOwn Own) x.policy x.end y.given call a refl refl (λ is n moment s j. cc) (λ s j. j) was

  call_asks : (call : Call) → Calls Observed x y call a → Challenging (next call) y
  call_asks call c = record {
    answers = λ s among. elim (in_append s x.sents (sents_by x.policy x.end call a) among) [ inl old ↦ i.answers s old | inr new ↦ call_fits x.policy x.end y.given call a c.answer c.served c.gives.0.owes s new ];
    own = λ still. own_behind call c still (i.own (was_open x.policy x.end y.given call a still));
  }

-- over the packets between both ends, and what observers know of them
pub challenging_group : Group Observed Challenging
challenging_group = record {
  first = λ x y m there back. record { answers = λ s i. absurd i; own = λ opened word is. elim is [ inl asked ↦ inr asked | inr waits ↦ inr (first_own x.side x.making.settings x.making.windows (parameters_of y.making.settings) x.making.id y.making.id x.making.remote x.making.moment x.making.validated x.making.words word waits) ] };
  writer = λ x y call a c i back. call_asks x y a i call c;
  reader = λ x y call a c there i. record { answers = i.answers; own = i.own };
  shows = λ x y here there b back i j. record { answers = i.answers; own = i.own };
}
