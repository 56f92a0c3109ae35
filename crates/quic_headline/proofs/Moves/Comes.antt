-- What a datagram leaves that the other end gave: an end on the same path, or on another where its
-- peer moved.
use Rattle.std.proofs.Common.{◌≡◌, ◌⊎◌, ℕ, ◌+◌, ◌<◌, Bool, true, false, not, ◌&&◌, List, map, Option, None, Ok, refl, sym, ◌∙◌, inl, inr, arith}
use Rattle.std.proofs.lemmas.Bool.{and_parts}
use Rattle.quic_wire_core.specs.declared.shared.EcnCodepoint.{EcnCodepoint}
use Rattle.quic_wire.specs.Value.{FrameValue}
use Rattle.quic_wire.specs.Items.{items}
use Rattle.quic_packet.specs.Datagram.{Opening}
use Rattle.quic_machine.specs.declared.answers.State.TheVariants as states
use Rattle.quic_machine.specs.Policy.{Policy}
use Rattle.quic_machine.specs.End.{End}
use Rattle.quic_machine.specs.Calls.{is_open}
use Rattle.quic_machine.specs.IdFrames.{drawn}
use Rattle.quic_machine.specs.Migration.{is_there, migrated, has_moved}
use Rattle.quic_machine.specs.Receive.{Outcome, asks_in, is_urged, after_taken, migrated_if}
use Rattle.quic_machine.specs.FrameCases.{begun, frames_keep}
use Rattle.quic_headline.specs.Runs.{Intake}
use Rattle.quic_headline.proofs.Packets.Delivered.{frames_at, with_taken, moves_by, ArrivalsFrom, arrived}
use Rattle.quic_headline.proofs.Packets.Heard.{by_taken}
use Rattle.quic_headline.proofs.Moves.Kept.{frame_stays, moved_next, same_path, other_path}

-- this of an end on the same path, and of what came, or that of one on another
abbrev pub Leads : End → (End → Intake → Type 0) → (End → Intake → Type 0) → End → Intake → Type 0
Leads e Same Other f j = ((has_moved e f ≡ false) × Same f j) ⊎ ((has_moved e f ≡ true) × Other f j)

-- one that moves isn't from where the peer was
moves_away : (remote n : ℕ) (frames : List FrameValue) (e : End) → moves_by remote n frames e ≡ true → is_there remote e ≡ false
moves_away remote n frames e moves = go (is_there remote e) (and_parts (not (is_there remote e)) _ (and_parts _ _ moves).1).0
  where
    go : (b : Bool) → not b ≡ true → b ≡ false
    go true is = cc
    go false is = refl

module _ (remote : ℕ) (mark : Option EcnCodepoint) (e : End) (now n : ℕ) (frames : List FrameValue) where
  -- the end that took the packet, before the path changes if it does
  abbrev pub those : List FrameValue
  those = frames_at (is_there remote e) frames

  abbrev pub urges : Bool
  urges = is_urged mark (asks_in (map Ok frames)) (map Ok those) (begun e now n)

  abbrev pub behind_frames : (ℕ → ℕ) → End
  behind_frames words = drawn words (after_taken n (asks_in (map Ok frames)) urges mark (arrived e now n those).end)

  -- it has the same path
  pub taken_stays : (words : ℕ → ℕ) → (behind_frames words).path.generation ≡ e.path.generation
  taken_stays words = by_taken (λ (y : End). y.path.generation ≡ e.path.generation) n (asks_in (map Ok frames)) urges mark (arrived e now n those).end
      (λ idle alive. frames_keep (λ (y : End). y.path.generation ≡ e.path.generation) (λ f y j. frame_stays f y ∙ j) those (begun e now n) refl)

  -- in each case of a delivery, where the end stays open
  pub arrivals_lead : (Same Other : End → Intake → Type 0) (i : Intake) → Same e i
      → ((words : ℕ → ℕ) → (arrived e now n those).fault ≡ None → Same (behind_frames words) (with_taken i n frames))
      → ((p : Policy) (o : Opening) → items o.payload ≡ map Ok frames → is_there remote e ≡ false → (x : End) → Same x (with_taken i n frames) → Other (migrated p o remote x) (with_taken i n frames))
      → ArrivalsFrom remote mark e now n frames i (λ (r : Outcome) (j : Intake). r.end.closing.state ≡ states.Open → Leads e Same Other r.end j)
  arrivals_lead Same Other i was takes moves = record {
    ignored = λ reason opened. inl (same_path e e refl, was);
    noted = λ state reason opened. absurd (let clash : states.Closing ≡ states.Open = sym state ∙ opened in cc);
    takes = λ p o same state new none opened. taken p o same none (moves_by remote n frames e && is_open (behind_frames p.words).closing.state) refl;
    drains = λ words state new close is opened. absurd cc;
    refuses = λ words state new f is opened. absurd cc;
    exhausts = λ state opened. absurd cc;
  }
    where
      beyond : (g m : ℕ) → g ≡ e.path.generation → m ≡ g + 1 → e.path.generation < m
      beyond g m same next = omega (arith, same, next)

      taken : (p : Policy) (o : Opening) → items o.payload ≡ map Ok frames → (arrived e now n those).fault ≡ None → (b : Bool) → (moves_by remote n frames e && is_open (behind_frames p.words).closing.state) ≡ b
          → Leads e Same Other (migrated_if b p o remote (behind_frames p.words)) (with_taken i n frames)
      taken p o same none true is =
          let x : End = behind_frames p.words in
          let left : End = migrated p o remote x in
          inr (
            other_path e left (beyond x.path.generation left.path.generation (taken_stays p.words) (moved_next p o remote x)),
            moves p o same (moves_away remote n frames e (and_parts (moves_by remote n frames e) (is_open x.closing.state) is).0) x (takes p.words none),
          )
      taken p o same none false is = inl (same_path e (behind_frames p.words) (taken_stays p.words), takes p.words none)
