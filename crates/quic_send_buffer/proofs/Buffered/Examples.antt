-- The words of the send buffer on one row: 29 bytes, frames with 16 bytes of room, and two losses.
use Rattle.std.proofs.Common.{◌≡◌, ℕ, List, [], ◌∷◌, Bool, true, false, refl}
use Rattle.quic_send_buffer.specs.Buffered.{Buffered, nothing_written, after_write, after_poll, after_loss, after_ack, next_start, sent_end, writes_length, first_unacknowledged}
use Rattle.quic_sets.specs.Offsets.{with_offsets, without_offsets, parts_from}
use Rattle.quic_sets.specs.Pieces.{pieces, with_range, joining}
use Rattle.std.specs.Prelude.{replicate}

-- where the frame begins and ends, and whether its length is written
abbrev polled : Buffered → ℕ × ℕ × Bool
polled b = (next_start b, sent_end b 16, writes_length b 16)

abbrev first : Buffered
first = after_write nothing_written (replicate 29 7)

abbrev second : Buffered
second = after_poll first 16

abbrev third : Buffered
third = after_loss (after_poll second 16) 0 16

abbrev fourth : Buffered
fourth = after_poll third 16

abbrev fifth : Buffered
fifth = after_loss (after_poll fourth 16) 16 23

begins : polled first ≡ (0, 16, false)
begins = refl

goes_on : polled second ≡ (16, 23, true)
unfolding without_offsets pieces parts_from
goes_on = refl

goes_again : polled third ≡ (0, 16, false)
unfolding without_offsets pieces parts_from with_offsets with_range joining
goes_again = refl

then_goes_on : polled fourth ≡ (23, 29, true)
unfolding without_offsets pieces parts_from with_offsets with_range joining
then_goes_on = refl

goes_last : polled fifth ≡ (16, 23, true)
unfolding without_offsets pieces parts_from with_offsets with_range joining
goes_last = refl

-- pieces of 7, 5 and 3 bytes, sent and acknowledged
abbrev pieced : Buffered
pieced = after_poll (after_write (after_write (after_write nothing_written (replicate 7 1)) (replicate 5 2)) (replicate 3 3)) 64

abbrev gap : Buffered
gap = after_ack pieced 8 12

abbrev one_done : Buffered
one_done = after_ack gap 0 7

abbrev two_done : Buffered
two_done = after_ack one_done 7 14

abbrev stands : Buffered → ℕ × List ℕ × ℕ
stands b = (b.base, b.pieces, first_unacknowledged b)

gap_stands : stands gap ≡ (0, 7 ∷ 5 ∷ 3 ∷ [], 0)
unfolding without_offsets pieces parts_from with_offsets with_range joining
gap_stands = refl

one_is_done : stands one_done ≡ (7, 5 ∷ 3 ∷ [], 7)
unfolding without_offsets pieces parts_from with_offsets with_range joining
one_is_done = refl

two_are_done : stands two_done ≡ (12, 3 ∷ [], 14)
unfolding without_offsets pieces parts_from with_offsets with_range joining
two_are_done = refl

-- what is acknowledged isn't lost any more
rest_is_lost : (after_loss two_done 0 64).lost ≡ record { start = 14; end = 15 } ∷ []
unfolding without_offsets pieces parts_from with_offsets with_range joining
rest_is_lost = refl
