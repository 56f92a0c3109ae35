-- Connection IDs that the peer gives, at worked values.
use Rattle.std.specs.Prelude.{ℕ, ◌%◌, List, [], ◌∷◌, replicate, fold, Option, Result}
use Rattle.std.specs.declared.ops.Range.{Range}
use Rattle.quic_wire.specs.declared.frame.NewConnectionId.{NewConnectionId}
use Rattle.quic_ids.specs.CidQueue.{PeerIds, after_insert, insert_answer}
use Rattle.quic_ids.specs.declared.cid_queue.InsertError.{InsertError}

-- the ID of a number, and its token
abbrev pub id_of : ℕ → List ℕ
id_of n = replicate 8 (n % 251)

abbrev pub token_of : ℕ → List ℕ
token_of n = replicate 16 (n % 251)

-- the frame that gives the ID of a number, and asks for those below another to be retired
abbrev pub gives : ℕ → ℕ → NewConnectionId
gives n prior = record { sequence = n; retire_prior_to = prior; id = id_of n; reset_token = token_of n }

-- the first ID alone is known
abbrev pub first_known : PeerIds
first_known = record { active = 0; id = id_of 0; later = [] }

-- what is known once these numbers came, the first of them first
abbrev pub known_after : List ℕ → PeerIds
known_after numbers = fold (λ ids n. after_insert ids (gives n 0)) first_known numbers

-- what a frame is answered: the numbers that are to be retired and the token in use then, if the ID
-- in use is retired
abbrev pub Answer : Type 0
Answer = Result (Option (Range ℕ × List ℕ)) InsertError

-- what these numbers are answered, one after another
unfoldable pub answers_from : PeerIds → List ℕ → List Answer
answers_from ids [] = []
answers_from ids (n ∷ ns) = insert_answer ids (gives n 0) ∷ answers_from (after_insert ids (gives n 0)) ns
