-- What a line asks of one end.
use Rattle.std.specs.Prelude.{ℕ, nat_lt, nat_le, if◌then◌else◌, List, [], ◌∷◌, length, codes, Option, Some, None}
use Rattle.std.specs.Option.{option_map}
use Rattle.std.specs.Str.{is_utf8}
use Rattle.quic_wire_core.specs.declared.stream_id.Side.{Side}
use Rattle.quic_wire_core.specs.declared.shared.EcnCodepoint.{EcnCodepoint}
use Rattle.quic_lines.specs.declared.script.Setting.{Setting}
use Rattle.quic_lines.specs.Named.{side_named, mark_named, bytes_named}
use Rattle.quic_lines.specs.Language.{Asked, words, is_word, is_skipped, number_named, ends, both, one, three, settings_said, call_said, asked_of}
use Rattle.quic_peer_core.specs.declared.command.Line.{Line}
use Rattle.quic_peer_core.specs.declared.command.Line.TheVariants as lines
use Rattle.quic_peer_core.specs.declared.command.NewEnd.{NewEnd}

-- what is done at a line
pub data Command : Type 0 where
  nothing : Command
  -- an option of the end is set
  sets : Setting → Command
  -- its own transport parameters are told
  tells : Command
  -- the end is made
  makes : NewEnd → Command
  -- bytes come from an address from now on
  hears_from : ℕ → Command
  -- bytes came at a moment with a mark
  receives : ℕ → Option EcnCodepoint → List ℕ → Command
  -- it is told how many bytes may be in flight
  tells_window : Command
  -- it is told what was counted of the end
  tells_stats : Command
  -- a call of the end
  asks : Asked → Command

-- ---- words

-- an id, of at most 20 bytes
abbrev pub id_in : Option (List ℕ) → Option (List ℕ)
id_in None = None
id_in (Some bytes) = if nat_le (length bytes) 20 then Some bytes else None

-- the id that a word names
abbrev pub id_named : List ℕ → Option (List ℕ)
id_named word = id_in (bytes_named word)

-- what an end is made from: which one it is, both ids, a moment and the peer's parameters
abbrev pub new_end : Side → List ℕ → List ℕ → ℕ → List ℕ → NewEnd
new_end side id peer_id now parameters = record { side = side; id = id; peer_id = peer_id; now = now; parameters = parameters }

-- one more of a whole that is made part by part
abbrev pub joined : {A B : Type 0} → Option (A → B) → Option A → Option B
joined make a = both (λ m x. m x) make a

-- just five words
abbrev pub five : {A B C D E F : Type 0} → (A → B → C → D → E → F) → (List ℕ → Option A) → (List ℕ → Option B) → (List ℕ → Option C) → (List ℕ → Option D) → (List ℕ → Option E) → List (List ℕ) → Option F
five make f g h i j [] = None
five make f g h i j (v ∷ []) = None
five make f g h i j (v ∷ w ∷ []) = None
five make f g h i j (v ∷ w ∷ x ∷ []) = None
five make f g h i j (v ∷ w ∷ x ∷ y ∷ []) = None
five make f g h i j (v ∷ w ∷ x ∷ y ∷ z ∷ []) = joined (joined (joined (both make (f v) (g w)) (h x)) (i y)) (j z)
five make f g h i j (v ∷ w ∷ x ∷ y ∷ z ∷ a ∷ more) = None

-- ---- lines

-- what the words behind this name ask for: the calls of scripts are asked of the end, but for those
-- that reach for what the other one gave
abbrev pub command_said : List ℕ → List (List ℕ) → Option Command
command_said name args =
    if is_word name (codes "set") then option_map sets (settings_said args)
    else (if is_word name (codes "params") then ends args (Some tells)
    else (if is_word name (codes "new") then option_map makes (five new_end side_named id_named id_named number_named bytes_named args)
    else (if is_word name (codes "from") then one hears_from number_named args
    else (if is_word name (codes "receive") then three receives number_named mark_named bytes_named args
    else (if is_word name (codes "window") then ends args (Some tells_window)
    else (if is_word name (codes "stats") then ends args (Some tells_stats)
    else (if is_word name (codes "deliver") then None
    else (if is_word name (codes "inject") then None
    else option_map asks (call_said name args)))))))))

-- what a line's words ask for
abbrev pub words_said : List (List ℕ) → Option Command
words_said [] = None
words_said (name ∷ args) = command_said name args

-- What a line asks for, if it is in the language: it has 2^20 bytes at most, and is empty, a
-- comment, or text whose words ask for something.
abbrev pub said : List ℕ → Option Command
said line =
    if nat_lt 1048576 (length line) then None
    else (if is_skipped line then Some nothing
    else (if is_utf8 line then words_said (words line) else None))

-- ---- what was read of a line

-- what is done at a line
abbrev pub command_of : Line → Command
command_of lines.Empty = nothing
command_of (lines.Set setting) = sets setting
command_of lines.Params = tells
command_of (lines.New new) = makes new
command_of (lines.From remote) = hears_from remote
command_of (lines.Receive datagram) = receives datagram.now datagram.ecn datagram.bytes
command_of lines.Window = tells_window
command_of lines.Stats = tells_stats
command_of (lines.Call call) = asks (asked_of call)
